use Rattle.std.proofs.Common.{◌∙◌, ap}
use Rattle.dc_key.specs.KeyReading.{args_in}
use Rattle.dc_key.proofs.Reading.{is_read}
use Rattle.dc_key.proofs.key_reader.args_of.Goals as goal

pub returns : goal.returns
returns c all m e = is_read c.args.key.now c.in_ok-args_in.field-0 all (ap (λ r. r.0) (c.in_ok-args_in.ensures ∙ ap args_in c.new-from.ensures)) m e

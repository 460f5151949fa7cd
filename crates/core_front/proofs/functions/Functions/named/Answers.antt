use Rattle.std.proofs.Common.{◌∙◌, sym, ap}
use Rattle.std.specs.Str.{bytes_eq}
use Rattle.std.proofs.lemmas.Slice.Eq.{bytes_eq-Decides}
use Rattle.core_front.specs.Naming.{by_number, find, name_of}
use Rattle.core_front.proofs.Naming.{find_is}
use Rattle.core_front.proofs.functions.Functions.named.Goals as goal

pub returns : goal.returns
returns c =
    let q = c.args.name.now in let all = c.self.inside.all.items in
    c.by_number.ensures
    ∙ ap (λ xs. by_number bytes_eq name_of q xs c.get.result) c.as_slice.ensures.value
    ∙ ap (by_number bytes_eq name_of q all) c.get.ensures
    ∙ sym (find_is bytes_eq name_of bytes_eq-Decides c.self.inside.names all q c.self.invariant.0)
    ∙ ap (λ xs. find bytes_eq name_of q xs) c.self.view_is

use Rattle.std.proofs.Common.{◌∙◌, sym, arith, drop, length, take, ap, ◌≡◌, ◌-◌, ◌+◌, []}
use Rattle.std.proofs.lemmas.Grind.{common_steps}
use Rattle.dc_top.proofs.LastByte.{last_at, last_past, last_end, last_of}
use Rattle.dc_top.proofs.names.behind_last.Goals.{then-byte-mark, else-byte-mark}
use Rattle.dc_top.proofs.names.behind_last.Goals as goal

pub loop-at-preserved : goal.loop-at-preserved
loop-at-preserved c =
    elim c.if-byte-mark.branch [
      | then-byte-mark w ↦ (c.loop-at.invariant.0 ∙ last_at _ c.loop-at.at _ c.args.bytes.now c.loop-at-test.true w.if-byte-mark.true ∙ ap (λ n. last_of c.args.mark (drop n c.args.bytes.now) (drop (c.loop-at.at + 1) c.args.bytes.now)) (sym w.from-is), omega arith)
      | else-byte-mark w ↦ (c.loop-at.invariant.0 ∙ last_past _ c.loop-at.at _ c.args.bytes.now c.loop-at-test.true w.if-byte-mark.false ∙ ap (λ n. last_of c.args.mark (drop n c.args.bytes.now) (drop (c.loop-at.at + 1) c.args.bytes.now)) (sym w.from-is), omega arith)
    ]

pub returns-clause-value : goal.returns-clause-value
returns-clause-value c =
    let rest : drop c.loop-at.at c.args.bytes.now ≡ [] = grind (arith, common_steps) in
    let all : take (length c.args.bytes.now - c.loop-at.from) (drop c.loop-at.from c.args.bytes.now) ≡ drop c.loop-at.from c.args.bytes.now = grind (arith, common_steps) in
    all ∙ sym (c.loop-at.invariant.0 ∙ ap (last_of c.args.mark (drop c.loop-at.from c.args.bytes.now)) rest ∙ last_end _ _)

use Rattle.std.proofs.Common.{◌≡◌, ◌+◌, ◌-◌, ◌<◌, None, map, drop, ap, sym, ◌∙◌, arith}
use Rattle.std.specs.Map.{lookup}
use Rattle.dc_types.specs.Same as same
use Rattle.core_tree.specs.declared.body.Body.{Body}
use Rattle.core_lower.specs.Lowered.{found_from}
use Rattle.core_lower.proofs.PlaceEquality.{same_put}
use Rattle.core_lower.proofs.Numbering.{put_before, else_none}
use Rattle.core_lower.proofs.names.numbers_of.Goals as goal

pub loop-i-preserved : goal.loop-i-preserved
loop-i-preserved c =
    let some : 0 < c.loop-i.i = c.loop-i-test.true in
    let fs = c.args.bodies.now in
    let i = c.loop-i.i in
    let number : c.in-Ok.number ≡ 0 + (i - 1) = omega (arith, c.in-Ok.ensures) in
    let at : 0 + i ≡ i = omega arith in
    let before : 0 + (i - 1) ≡ i - 1 = omega arith in (
      λ q. put_before Body (λ f. f.place) fs i 0 c.in-Ok.number c.index-bodies-i.result c.in_ok-copy_place.field-0 q (lookup (same.place q) c.put.new.self) (lookup (same.place q) c.loop-i.table) None some c.loop-i.invariant.1 c.in_ok-copy_place.ensures number (same_put q c.in_ok-copy_place.field-0 c.in-Ok.number c.put.new.self c.loop-i.table (c.in_ok-put.ensures q))
          (c.loop-i.invariant.0 q ∙ ap (λ k. found_from k q (map (λ f. f.place) (drop i fs))) (sym at) ∙ sym (else_none (found_from (0 + i) q (map (λ f. f.place) (drop i fs)))))
          ∙ else_none (found_from (0 + (i - 1)) q (map (λ f. f.place) (drop (i - 1) fs))) ∙ ap (λ k. found_from k q (map (λ f. f.place) (drop (i - 1) fs))) before,
      omega (arith, c.loop-i.invariant.1),
    )

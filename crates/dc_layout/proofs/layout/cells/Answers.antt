use Rattle.std.proofs.Common.{◌≡◌, ◌∙◌, sym, ap, subst, unwrap_or}
use Rattle.dc_layout.specs.Cells.{AreCells, cells_in}
use Rattle.dc_layout.proofs.Counting.{answers}
use Rattle.dc_layout.proofs.layout.cells.Goals as goal

pub returns : goal.returns
returns c =
    let s = c.layouts.inside.structs.entries in let known = c.layouts.inside.cells.entries in
    let is : c.unwrap_or.result ≡ unwrap_or (cells_in known c.args.ty.now) 1048577 = c.unwrap_or.ensures ∙ ap (λ o. unwrap_or o 1048577) c.cells_in.ensures in
    let all = answers s known c.args.ty.now c.layouts.invariant in
    subst (λ l. AreCells l.0 c.args.ty.now c.unwrap_or.result) c.layouts.view_is (subst (AreCells s c.args.ty.now) (sym is) all)

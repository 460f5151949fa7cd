use Rattle.std.proofs.Common.{◌≡◌, ◌∙◌, ap, length, arith}
use Rattle.std.specs.Str.{bytes_eq}
use Rattle.std.proofs.lemmas.Cmp.{nat_list_eq_equiv}
use Rattle.std.proofs.lemmas.Slice.Eq.{bytes_eq-Decides}
use Rattle.core_front.specs.declared.scope.Local.{Local}
use Rattle.core_front.specs.Naming.{name_of_local, find}
use Rattle.core_front.proofs.Naming.{numbers_more, no_value}
use Rattle.core_front.proofs.scope.Scope.with.Goals as goal

pub invariant_of-result : goal.invariant_of-result
invariant_of-result c =
    let name = c.args.name.now.spelling in
    let more : Local = record { name = name; at = c.args.at } in
    let is : c.in-Ok.number ≡ length c.self.inside.open.items = omega (arith, c.in-Ok.ensures, c.try_from.ensures, c.len.ensures) in
    numbers_more bytes_eq name_of_local bytes_eq-Decides nat_list_eq_equiv c.self.inside.table c.in_ok-table.table c.self.inside.open.items c.in_ok-open.open.items more c.in-Ok.number
    c.self.invariant (ap (find bytes_eq name_of_local name) c.self.view_is ∙ no_value (λ (l : Local). l.at) (find bytes_eq name_of_local name c.args.self) c.requires) is c.in_ok-table.ensures c.in_ok-open.ensures

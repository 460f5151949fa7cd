use Rattle.std.proofs.Common.{◌≡◌, ◌∙◌, ap, length, arith, nat_eq}
use Rattle.std.specs.Str.{bytes_eq}
use Rattle.std.proofs.lemmas.Cmp.{nat_eq_equiv, nat_list_eq_equiv}
use Rattle.std.proofs.lemmas.Bool.Decides.{Decides-eqb}
use Rattle.std.proofs.lemmas.Slice.Eq.{bytes_eq-Decides}
use Rattle.core_front.specs.Naming.{name_of, place_of, find}
use Rattle.core_front.proofs.Naming.{numbers_more}
use Rattle.core_front.proofs.functions.Functions.with.Goals as goal

pub invariant_of-result : goal.invariant_of-result
invariant_of-result c =
    let f = c.args.function in let all = c.self.inside.all.items in
    let is : c.in-Ok.number ≡ length all = omega (arith, c.in-Ok.ensures, c.try_from.ensures, c.len.ensures) in (
      numbers_more bytes_eq name_of bytes_eq-Decides nat_list_eq_equiv c.self.inside.names c.in_ok-names.names all c.in_ok-all.all.items f c.in-Ok.number
          c.self.invariant.0 (ap (find bytes_eq name_of (name_of f)) c.self.view_is ∙ c.requires.name) is c.in_ok-names.ensures c.in_ok-all.ensures,
      numbers_more nat_eq place_of Decides-eqb nat_eq_equiv c.self.inside.places c.in_ok-places.places all c.in_ok-all.all.items f c.in-Ok.number
          c.self.invariant.1 (ap (find nat_eq place_of (place_of f)) c.self.view_is ∙ c.requires.place) is c.in_ok-places.ensures c.in_ok-all.ensures,
    )

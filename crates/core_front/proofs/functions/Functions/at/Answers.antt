use Rattle.std.proofs.Common.{◌∙◌, sym, ap}
use Rattle.std.specs.Prelude.{nat_eq}
use Rattle.std.proofs.lemmas.Bool.Decides.{Decides-eqb}
use Rattle.core_front.specs.Naming.{by_number, find, place_of}
use Rattle.core_front.proofs.Naming.{find_is}
use Rattle.core_front.proofs.functions.Functions.at.Goals as goal

pub returns : goal.returns
returns c =
    let q = c.args.at in let all = c.self.inside.all.items in
    c.by_place.ensures
    ∙ ap (λ xs. by_number nat_eq place_of q xs c.get.result) c.as_slice.ensures.value
    ∙ ap (by_number nat_eq place_of q all) c.get.ensures
    ∙ sym (find_is nat_eq place_of Decides-eqb c.self.inside.places all q c.self.invariant.1)
    ∙ ap (λ xs. find nat_eq place_of q xs) c.self.view_is

use Rattle.std.proofs.Common.{subst}
use Rattle.std.specs.Prelude.{nat_eq}
use Rattle.core_front.specs.Naming.{Apart, place_of}
use Rattle.core_front.proofs.Naming.{keys_differ}
use Rattle.core_front.proofs.functions.Functions.places_differ.Goals as goal

pub returns : goal.returns
returns c = subst Apart c.self.view_is (keys_differ nat_eq place_of c.self.inside.places c.self.inside.all.items c.self.invariant.1)

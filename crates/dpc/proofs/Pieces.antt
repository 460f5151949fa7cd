-- Bytes that are read piece by piece.
use Rattle.std.proofs.Common.{◌≡◌, ℕ, List, [], ◌++◌, Option, Some, None, append_assoc, append-nil, subst, refl, ap, sym, ◌∙◌}
use Rattle.std.specs.Io.KnownBytes.{Consumes}

pub nothing_read : (a : Option (List ℕ)) → Consumes a a []
nothing_read None = tt
nothing_read (Some xs) = refl

pub read_more : (a b c : Option (List ℕ)) (x y : List ℕ) → Consumes a b x → Consumes b c y → Consumes a c (x ++ y)
read_more None b c x y p q = tt
read_more (Some xs) None c x y p q = absurd p
read_more (Some xs) (Some ys) None x y p q = q
read_more (Some xs) (Some ys) (Some zs) x y p q = p ∙ ap (λ l. x ++ l) q ∙ sym (append_assoc x y zs)

pub none_more : (a b c : Option (List ℕ)) (x : List ℕ) → Consumes a b x → Consumes b c [] → Consumes a c x
none_more a b c x p q = subst (Consumes a c) (append-nil x) (read_more a b c x [] p q)

pub ruleset reading = (nothing_read, read_more, none_more)

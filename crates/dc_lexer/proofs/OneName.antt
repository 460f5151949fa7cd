-- Texts that are one name.
use Rattle.std.proofs.Common.{◌≡◌, sym, subst, ℕ, ◌<◌, ◌≤◌, true, nat_eq, [], length, take, arith}
use Rattle.std.proofs.Math.Seq.{take-length}
use Rattle.std.proofs.lemmas.List.{append-nil}
use Rattle.std.proofs.lemmas.Bool.Decides.{nat_tests}
use Rattle.dc_token.specs.Balance.{Bytes}
use Rattle.dc_token.specs.Names.{IsName}
use Rattle.dc_token.specs.declared.item.Item.TheVariants as item
use Rattle.dc_lexer.specs.Fronts.{Longest}
use Rattle.dc_lexer.proofs.Starts.{plain_starts}

-- a name has a byte
pub some : (z : Bytes) → IsName z → 0 < length z
some z is = let b = plain_starts item.Name z [] is in subst (λ (w : Bytes). 0 < length w) (sym b.parts) (omega arith)

at_end : (n m : ℕ) → nat_eq n m ≡ true → n ≡ m
at_end n m e = grind (arith, nat_tests)

is_end : (n m : ℕ) → n ≡ m → nat_eq n m ≡ true
is_end n m e = grind (arith, nat_tests)

pub one_name : (z : Bytes) (n : ℕ) → 0 < length z → Longest (λ w u. IsName w) z n → nat_eq n (length z) ≡ true → IsName z
one_name z n some_byte l e =
    let whole : n ≡ length z = at_end n (length z) e in
    let positive : 0 < n = omega arith in
    subst (λ (w : Bytes). IsName w) (take-length z) (subst (λ (m : ℕ). IsName (take m z)) whole (l.is positive))

pub takes_all : (z : Bytes) (n : ℕ) → Longest (λ w u. IsName w) z n → IsName z → nat_eq n (length z) ≡ true
takes_all z n l is =
    let least : length z ≤ n = l.longest z [] (sym (append-nil z)) is in let most = l.within in
    is_end n (length z) (omega arith)

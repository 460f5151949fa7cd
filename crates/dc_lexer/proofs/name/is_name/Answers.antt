use Rattle.std.proofs.Common.{◌≡◌, subst, ◌<◌, Bool, true, false, not, nat_eq, arith, length}
use Rattle.std.proofs.lemmas.Bool.Decides.{nat_tests}
use Rattle.dc_token.specs.Balance.{Bytes}
use Rattle.dc_token.specs.Names.{IsName}
use Rattle.dc_lexer.proofs.OneName.{some, one_name, takes_all}
use Rattle.dc_lexer.proofs.name.is_name.Goals as goal

has_byte : (z : Bytes) (empty : Bool) → empty ≡ nat_eq (length z) 0 → empty ≡ false → 0 < length z
has_byte z empty e full = grind (arith, nat_tests)

no_byte : (z : Bytes) (empty : Bool) → empty ≡ nat_eq (length z) 0 → empty ≡ true → IsName z → ⊥
no_byte z empty e none is = let less = some z is in grind (arith, nat_tests)

pub returns-then-not-is_empty : goal.returns-then-not-is_empty
returns-then-not-is_empty c =
    let z = c.args.bytes.now in
    let byte = has_byte z c.is_empty.result c.is_empty.ensures c.if-not-is_empty.true in
    (one_name z c.name.result byte c.name.ensures, takes_all z c.name.result c.name.ensures)

pub returns-else-not-is_empty : goal.returns-else-not-is_empty
returns-else-not-is_empty c =
    let z = c.args.bytes.now in
    (λ e. absurd (let k : false ≡ true = subst (λ (b : Bool). not b ≡ true) c.if-not-is_empty.false e in cc), λ is. absurd (no_byte z c.is_empty.result c.is_empty.ensures c.if-not-is_empty.false is))

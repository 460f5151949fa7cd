-- Numbers of 32 bits are literals of `int`.
use Rattle.std.proofs.Common.{◌≡◌, ap, ℕ, Bool, true, false, cond, ◌&&◌, ℤ, ◌≤ℤ◌, Ok, Err, [], arith}
use Rattle.std.proofs.lemmas.Int.{ints}
use Rattle.std.specs.Prelude.{int_le}
use Rattle.dc_types.specs.Integers.{least, greatest}
use Rattle.dc_types.specs.declared.kind.Kind.TheVariants as kind
use Rattle.core_front.specs.Judging.{constant_of, literal_of, refuse}
use Rattle.core_front.specs.declared.judged.Known.{Known}

true_le : (a b : ℤ) → a ≤ℤ b → int_le a b ≡ true
true_le a b h = grind (arith, ints)

both : (a b : Bool) → a ≡ true → b ≡ true → (a && b) ≡ true
both true b e f = f
both false b e f = e

pub literal_is : (k : Known) (at : ℕ) (n : ℤ) → least kind.I32 ≤ℤ n → n ≤ℤ greatest kind.I32 → literal_of k at n ≡ Ok (constant_of k at n)
unfolding literal_of least greatest
literal_is k at n low high =
    ap (λ b. cond b (Ok (constant_of k at n)) (Err (refuse k 10 at []))) (both (int_le (least kind.I32) n) (int_le n (greatest kind.I32)) (true_le (least kind.I32) n low) (true_le n (greatest kind.I32) high))

-- The common kind of numbers doesn't depend on their order: promoted kinds stand in a row, and of two the later is taken.
use Rattle.std.proofs.Common.{◌≡◌, ◌∙◌, refl, sym, ap, ap₂}
use Rattle.dc_types.specs.declared.kind.Kind.{Kind}
use Rattle.dc_types.specs.declared.kind.Kind.TheVariants as kinds
use Rattle.dc_types.specs.Integers.{bits_of, is_signed}
use Rattle.dc_convert.specs.CommonKinds.{promoted, common_promoted, common, InAnyOrder}

-- the kinds that numbers are promoted to, in their row
data Wide : Type 0 where
  int : Wide
  uint : Wide
  long : Wide
  ulong : Wide

abbrev kind : Wide → Kind
kind int = kinds.I32
kind uint = kinds.U32
kind long = kinds.I64
kind ulong = kinds.U64

abbrev wide : Kind → Wide
wide kinds.Bool = int
wide kinds.I8 = int
wide kinds.U8 = int
wide kinds.I16 = int
wide kinds.U16 = int
wide kinds.I32 = int
wide kinds.U32 = uint
wide kinds.I64 = long
wide kinds.U64 = ulong
wide kinds.Char = int

abbrev later : Wide → Wide → Wide
later int y = y
later uint int = uint
later uint y = y
later long ulong = ulong
later long y = long
later ulong y = ulong

promotes : (k : Kind) → promoted k ≡ kind (wide k)
unfolding promoted bits_of
promotes kinds.Bool = refl
promotes kinds.I8 = refl
promotes kinds.U8 = refl
promotes kinds.I16 = refl
promotes kinds.U16 = refl
promotes kinds.I32 = refl
promotes kinds.U32 = refl
promotes kinds.I64 = refl
promotes kinds.U64 = refl
promotes kinds.Char = refl

stays : (x : Wide) → wide (kind x) ≡ x
stays int = refl
stays uint = refl
stays long = refl
stays ulong = refl

takes_later : (x y : Wide) → common_promoted (kind x) (kind y) ≡ kind (later x y)
unfolding common_promoted bits_of is_signed
takes_later int int = refl
takes_later int uint = refl
takes_later int long = refl
takes_later int ulong = refl
takes_later uint int = refl
takes_later uint uint = refl
takes_later uint long = refl
takes_later uint ulong = refl
takes_later long int = refl
takes_later long uint = refl
takes_later long long = refl
takes_later long ulong = refl
takes_later ulong int = refl
takes_later ulong uint = refl
takes_later ulong long = refl
takes_later ulong ulong = refl

either_way : (x y : Wide) → later x y ≡ later y x
either_way int int = refl
either_way int uint = refl
either_way int long = refl
either_way int ulong = refl
either_way uint int = refl
either_way uint uint = refl
either_way uint long = refl
either_way uint ulong = refl
either_way long int = refl
either_way long uint = refl
either_way long long = refl
either_way long ulong = refl
either_way ulong int = refl
either_way ulong uint = refl
either_way ulong long = refl
either_way ulong ulong = refl

any_order : (x y z : Wide) → later (later x y) z ≡ later x (later y z)
any_order int y z = refl
any_order ulong y z = refl
any_order uint int z = refl
any_order uint uint int = refl
any_order uint uint uint = refl
any_order uint uint long = refl
any_order uint uint ulong = refl
any_order uint long int = refl
any_order uint long uint = refl
any_order uint long long = refl
any_order uint long ulong = refl
any_order uint ulong z = refl
any_order long int z = refl
any_order long uint int = refl
any_order long uint uint = refl
any_order long uint long = refl
any_order long uint ulong = refl
any_order long long int = refl
any_order long long uint = refl
any_order long long long = refl
any_order long long ulong = refl
any_order long ulong z = refl

by_row : (a b : Kind) → common a b ≡ kind (later (wide a) (wide b))
by_row a b = ap₂ common_promoted (promotes a) (promotes b) ∙ takes_later (wide a) (wide b)

in_row : (a b : Kind) → wide (common a b) ≡ later (wide a) (wide b)
in_row a b = ap wide (by_row a b) ∙ stays (later (wide a) (wide b))

pub in_any_order : InAnyOrder
in_any_order = record {
  of_two = λ a b. by_row a b ∙ ap kind (either_way (wide a) (wide b)) ∙ sym (by_row b a);
  of_three = λ a b c.
      by_row (common a b) c ∙ ap (λ x. kind (later x (wide c))) (in_row a b) ∙ ap kind (any_order (wide a) (wide b) (wide c))
      ∙ sym (ap (λ x. kind (later (wide a) x)) (in_row b c)) ∙ sym (by_row a (common b c));
}

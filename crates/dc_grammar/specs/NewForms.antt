-- What a `new` makes by the language's two productions, and that the division of its suffixes is these.
use Rattle.std.specs.Prelude.{◌≡◌, ◌⊎◌, List, [], ◌∷◌, ◌++◌, Some}
use Rattle.dc_ast.specs.declared.expression.Expr.{Expr}
use Rattle.dc_ast.specs.declared.expression.Suffix.{Suffix}
use Rattle.dc_ast.specs.declared.expression.Suffix.TheVariants as s
use Rattle.dc_ast.specs.declared.types.Bracket.{Bracket}
use Rattle.dc_ast.specs.declared.types.Bracket.TheVariants as d
use Rattle.dc_grammar.specs.NewArrays.{NewArray, new_array}

-- {"[" "]" | "[" Expr "]"}: the brackets of a type, and the suffixes that they are read as
pub data Brackets : List Bracket → List Suffix → Type 0 where
  no_brackets : Brackets [] []
  slice : {bs : List Bracket} {ts : List Suffix} → Brackets bs ts → Brackets (d.Slice ∷ bs) (s.All ∷ ts)
  fixed : (n : Expr) {bs : List Bracket} {ts : List Suffix} → Brackets bs ts → Brackets (d.Fixed n ∷ bs) (s.Index n ∷ ts)

-- {"[" "]"}
pub data Slices : List Bracket → List Suffix → Type 0 where
  no_slices : Slices [] []
  slices : {bs : List Bracket} {ts : List Suffix} → Slices bs ts → Slices (d.Slice ∷ bs) (s.All ∷ ts)

-- "new" Type "(" Expr ")", and what is done to the new array
pub record IsCalled (ts : List Suffix) (y : NewArray) : Type 0 where
  pub front : List Suffix
  pub brackets : Brackets y.brackets front
  pub text : ts ≡ front ++ s.Call (y.count ∷ []) ∷ y.behind

-- "new" Base {"[" "]"} "[" Expr "]", and what is done to the new array: its type has one `[]` more
pub record IsCounted (ts : List Suffix) (y : NewArray) : Type 0 where
  pub others : List Bracket
  pub front : List Suffix
  pub slices : Slices others front
  pub brackets : y.brackets ≡ others ++ d.Slice ∷ []
  pub text : ts ≡ front ++ s.Index y.count ∷ y.behind

-- A `new` is either; one that could be both is the first, so that `new T[n](x)` has the type `T[n]`.
pub record NewDivides : Type 0 where
  pub called : (ts : List Suffix) (y : NewArray) → IsCalled ts y → new_array ts ≡ Some y
  pub counted : (ts : List Suffix) (y : NewArray) → IsCounted ts y → ((z : NewArray) → IsCalled ts z → ⊥) → new_array ts ≡ Some y
  pub either : (ts : List Suffix) (y : NewArray) → new_array ts ≡ Some y → IsCalled ts y ⊎ (IsCounted ts y × ((z : NewArray) → IsCalled ts z → ⊥))

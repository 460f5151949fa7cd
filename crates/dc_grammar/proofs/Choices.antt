-- Choices, other names for what was read, and sets of kinds.
use Rattle.std.proofs.Common.{◌≡◌, ℕ, zero, suc, ◌+◌, ◌≤◌, Bool, true, false, not, ◌||◌, ◌&&◌, ◌⊎◌, List, [], ◌∷◌, ◌++◌, length, Some, None, refl, ap, subst, ◌∙◌, append_assoc, arith, inl, inr, length-append}
use Rattle.dc_grammar.specs.declared.terminal.Terminal.{Terminal}
use Rattle.dc_grammar.specs.declared.terminal.Terminal.TheVariants as k
use Rattle.dc_grammar.specs.Terminals.{Tokens, terminal_of}
use Rattle.dc_grammar.specs.Reading.{Outcome, Reader, and_then, pure, both, either, or_else, ◌<$>◌}
use Rattle.dc_grammar.proofs.Good.{Holds, Reaches, Begins, Good, Apart, or, Pair, pair_sound, pair_reach, stops_at, Loose, or_left, or_right, wider}
use Rattle.dc_grammar.proofs.Lists.{refused}

-- ---- one of two, by their first token

abbrev pub Or : {A : Type 0} → (Tokens → A → Type 0) → (Tokens → A → Type 0) → Tokens → A → Type 0
Or P Q ts x = P ts x ⊎ Q ts x

holds_left : {A : Type 0} (P Q : Tokens → A → Type 0) (ts : Tokens) (r s : Outcome A) → Holds P ts r → Holds Q ts s → Holds (Or P Q) ts (or_else r s)
holds_left P Q ts (Some r) s h k = record { front = h.front; parts = h.parts; is = inl h.is }
holds_left P Q ts None (Some s) h k = record { front = k.front; parts = k.parts; is = inr k.is }
holds_left P Q ts None None h k = tt

reaches_first : {A : Type 0} (g : Terminal → Bool) (x : A) (rest : Tokens) (r s : Outcome A) → Reaches g r x rest → Reaches g (or_else r s) x rest
reaches_first g x rest (Some r) s h = h
reaches_first g x rest None s h = absurd h

reaches_second : {A : Type 0} (g : Terminal → Bool) (x : A) (rest : Tokens) (r s : Outcome A) → r ≡ None → Reaches g s x rest → Reaches g (or_else r s) x rest
reaches_second g x rest (Some r) s e h = absurd cc
reaches_second g x rest None s e h = h

pub true_left : (a b : Bool) → a ≡ true → (a || b) ≡ true
true_left a b e = rw e refl

pub true_right : (a b : Bool) → b ≡ true → (a || b) ≡ true
true_right true b e = refl
true_right false b e = e

pub alt : {A : Type 0} {n : ℕ} {gP fP gQ fQ : Terminal → Bool} {P Q : Tokens → A → Type 0} {p q : Reader A}
    → Good n gP fP P p → Good n gQ fQ Q q → Apart fQ fP → Good n (or gP gQ) (or fP fQ) (Or P Q) (either p q)
alt {A} {n} {gP} {fP} {gQ} {fQ} {P} {Q} {p} {q} gp gq apart = record {
  sound = λ ts. holds_left P Q ts (p ts) (q ts) (gp.sound ts) (gq.sound ts);
  reach = reach;
  begins = begins;
}
  where
    reach : (front : Tokens) (x : A) (rest : Tokens) → length front ≤ n → Or P Q front x → Reaches (or gP gQ) (either p q (front ++ rest)) x rest
    reach front x rest len (inl is) = reaches_first (or gP gQ) x rest (p (front ++ rest)) (q (front ++ rest)) (wider gP (or gP gQ) _ x rest (λ k. or_left _ _) (gp.reach front x rest len is))
    reach front x rest len (inr is) =
        let stop = stops_at fQ fP front rest apart (gq.begins front x is) in
        reaches_second (or gP gQ) x rest (p (front ++ rest)) (q (front ++ rest)) (refused gp (front ++ rest) stop) (wider gQ (or gP gQ) _ x rest (λ k. or_right _ _) (gq.reach front x rest len is))

    begins : (front : Tokens) (x : A) → Or P Q front x → Begins (or fP fQ) front
    begins front x (inl is) = let b = gp.begins front x is in record { head = b.head; tail = b.tail; parts = b.parts; kind = true_left _ _ b.kind }
    begins front x (inr is) = let b = gq.begins front x is in record { head = b.head; tail = b.tail; parts = b.parts; kind = true_right _ _ b.kind }

-- ---- the tree of what was read, with the sets of kinds as they are to be stated

pub mapped : {A B : Type 0} {n : ℕ} {g f : Terminal → Bool} {P : Tokens → A → Type 0} {p : Reader A} (good : Good n g f P p) (g' f' : Terminal → Bool) (F : Tokens → B → Type 0) (to : A → B)
    → ((ts : Tokens) (x : A) → P ts x → F ts (to x)) → ((ts : Tokens) (y : B) → F ts y → (x : A) × P ts x × (to x ≡ y))
    → ((k : Terminal) → g' k ≡ false → g k ≡ false) → ((k : Terminal) → f k ≡ true → f' k ≡ true) → Good n g' f' F (to <$> p)
mapped {A} {B} {n} {g} {f} {P} {p} good g' f' F to into back less more = record {
  sound = λ ts. sound ts (p ts) (good.sound ts);
  reach = λ front y rest len is. let b = back front y is in reach front b.0 y rest (p (front ++ rest)) b.2 (wider g g' _ b.0 rest less (good.reach front b.0 rest len b.1));
  begins = λ front y is. let b = back front y is in let c = good.begins front b.0 b.1 in record { head = c.head; tail = c.tail; parts = c.parts; kind = more (terminal_of c.head) c.kind };
}
  where
    sound : (ts : Tokens) (r : Outcome A) → Holds P ts r → Holds F ts (and_then r (λ x. pure (to x)))
    sound ts (Some r) h = record { front = h.front; parts = h.parts; is = into h.front r.0 h.is }
    sound ts None h = tt

    reach : (front : Tokens) (x : A) (y : B) (rest : Tokens) (r : Outcome A) → to x ≡ y → Reaches g' r x rest → Reaches {A = B} g' (and_then r (λ x. pure (to x))) y rest
    reach front x y rest (Some r) e h = (h.0, λ stop. let d = h.1 stop in (ap to d.0 ∙ e, d.1))
    reach front x y rest None e h = absurd h

-- ---- two after one another, where the first may be empty

pub loose_then : {A B : Type 0} {n : ℕ} {g f gQ fQ : Terminal → Bool} {P : Tokens → A → Type 0} {Q : Tokens → B → Type 0} {p : Reader A} {q : Reader B}
    → Loose n g f P p → Good n gQ fQ Q q → Apart fQ g → Good n gQ (or f fQ) (Pair P Q) (both p q)
loose_then {A} {B} {n} {g} {f} {gQ} {fQ} {P} {Q} {p} {q} gp gq apart = record {
  sound = λ ts. pair_sound P Q p q gq.sound ts (p ts) (gp.sound ts);
  reach = λ front z rest len is.
      let c = gq.begins is.right z.1 is.two in
      let parts : length front ≡ length is.left + length is.right = ap length is.parts ∙ length-append is.left is.right in
      let first = gp.reach is.left z.0 (is.right ++ rest) (omega arith) is.one in
      let second = gq.reach is.right z.1 rest (omega arith) is.two in
      rw (is.parts, append_assoc) (pair_reach P Q p q g gQ z.0 z.1 (is.right ++ rest) rest (p (is.left ++ (is.right ++ rest))) first (stops_at fQ g is.right rest apart c) second);
  begins = λ front z is. begins front z is (gp.begins is.left z.0 is.one);
}
  where
    begins : (front : Tokens) (z : A × B) (is : Pair P Q front z) → (is.left ≡ []) ⊎ Begins f is.left → Begins (or f fQ) front
    begins front z is (inl empty) = let b = gq.begins is.right z.1 is.two in record { head = b.head; tail = b.tail; parts = is.parts ∙ rw empty b.parts; kind = true_right _ _ b.kind }
    begins front z is (inr b) = record { head = b.head; tail = b.tail ++ is.right; parts = is.parts ∙ ap (λ (t : Tokens). t ++ is.right) b.parts; kind = true_left _ _ b.kind }

-- ---- sets of kinds, compared by going over all kinds

abbrev all_terminals : List Terminal
all_terminals = k.Name ∷ k.Integer ∷ k.Str ∷ k.Character ∷ k.Alias ∷ k.Assert ∷ k.Auto ∷ k.Bool ∷ k.Break ∷ k.Byte ∷ k.Case ∷ k.Cast ∷ k.Char ∷ k.Const ∷ k.Continue ∷ k.Default ∷ k.Do ∷ k.Else ∷ k.Enum ∷ k.False ∷ k.For ∷ k.Foreach ∷ k.If ∷ k.Immutable ∷ k.Import ∷ k.Int ∷ k.Is ∷ k.Long ∷ k.Mixin ∷ k.Module ∷ k.New ∷ k.Nothrow ∷ k.Null ∷ k.Private ∷ k.Public ∷ k.Pure ∷ k.Ref ∷ k.Return ∷ k.Short ∷ k.Static ∷ k.Struct ∷ k.Switch ∷ k.Template ∷ k.This ∷ k.True ∷ k.TypeOf ∷ k.Ubyte ∷ k.Uint ∷ k.Ulong ∷ k.Ushort ∷ k.Version ∷ k.Void ∷ k.While ∷ k.Traits ∷ k.LeftParen ∷ k.RightParen ∷ k.LeftBracket ∷ k.RightBracket ∷ k.LeftBrace ∷ k.RightBrace ∷ k.Semicolon ∷ k.Comma ∷ k.Dot ∷ k.DotDot ∷ k.Colon ∷ k.Dollar ∷ k.Question ∷ k.Not ∷ k.At ∷ k.Equals ∷ k.EqualEqual ∷ k.NotEqual ∷ k.Less ∷ k.LessEqual ∷ k.Greater ∷ k.GreaterEqual ∷ k.Plus ∷ k.Minus ∷ k.Star ∷ k.Slash ∷ k.Percent ∷ k.Ampersand ∷ k.Bar ∷ k.Caret ∷ k.Tilde ∷ k.ShiftLeft ∷ k.ShiftRight ∷ k.ShiftRightZeros ∷ k.AndAnd ∷ k.OrOr ∷ k.PlusPlus ∷ k.MinusMinus ∷ k.PlusEqual ∷ k.MinusEqual ∷ k.StarEqual ∷ k.SlashEqual ∷ k.PercentEqual ∷ k.AmpersandEqual ∷ k.BarEqual ∷ k.CaretEqual ∷ k.TildeEqual ∷ k.ShiftLeftEqual ∷ k.ShiftRightEqual ∷ k.ShiftRightZerosEqual ∷ k.Outside ∷ []

abbrev number : Terminal → ℕ
number k.Name = 0
number k.Integer = 1
number k.Str = 2
number k.Character = 3
number k.Alias = 4
number k.Assert = 5
number k.Auto = 6
number k.Bool = 7
number k.Break = 8
number k.Byte = 9
number k.Case = 10
number k.Cast = 11
number k.Char = 12
number k.Const = 13
number k.Continue = 14
number k.Default = 15
number k.Do = 16
number k.Else = 17
number k.Enum = 18
number k.False = 19
number k.For = 20
number k.Foreach = 21
number k.If = 22
number k.Immutable = 23
number k.Import = 24
number k.Int = 25
number k.Is = 26
number k.Long = 27
number k.Mixin = 28
number k.Module = 29
number k.New = 30
number k.Nothrow = 31
number k.Null = 32
number k.Private = 33
number k.Public = 34
number k.Pure = 35
number k.Ref = 36
number k.Return = 37
number k.Short = 38
number k.Static = 39
number k.Struct = 40
number k.Switch = 41
number k.Template = 42
number k.This = 43
number k.True = 44
number k.TypeOf = 45
number k.Ubyte = 46
number k.Uint = 47
number k.Ulong = 48
number k.Ushort = 49
number k.Version = 50
number k.Void = 51
number k.While = 52
number k.Traits = 53
number k.LeftParen = 54
number k.RightParen = 55
number k.LeftBracket = 56
number k.RightBracket = 57
number k.LeftBrace = 58
number k.RightBrace = 59
number k.Semicolon = 60
number k.Comma = 61
number k.Dot = 62
number k.DotDot = 63
number k.Colon = 64
number k.Dollar = 65
number k.Question = 66
number k.Not = 67
number k.At = 68
number k.Equals = 69
number k.EqualEqual = 70
number k.NotEqual = 71
number k.Less = 72
number k.LessEqual = 73
number k.Greater = 74
number k.GreaterEqual = 75
number k.Plus = 76
number k.Minus = 77
number k.Star = 78
number k.Slash = 79
number k.Percent = 80
number k.Ampersand = 81
number k.Bar = 82
number k.Caret = 83
number k.Tilde = 84
number k.ShiftLeft = 85
number k.ShiftRight = 86
number k.ShiftRightZeros = 87
number k.AndAnd = 88
number k.OrOr = 89
number k.PlusPlus = 90
number k.MinusMinus = 91
number k.PlusEqual = 92
number k.MinusEqual = 93
number k.StarEqual = 94
number k.SlashEqual = 95
number k.PercentEqual = 96
number k.AmpersandEqual = 97
number k.BarEqual = 98
number k.CaretEqual = 99
number k.TildeEqual = 100
number k.ShiftLeftEqual = 101
number k.ShiftRightEqual = 102
number k.ShiftRightZerosEqual = 103
number k.Outside = 104
number k.End = 105

abbrev nth : List Terminal → ℕ → Terminal
nth [] i = k.End
nth (x ∷ xs) zero = x
nth (x ∷ xs) (suc i) = nth xs i

numbered : (x : Terminal) → nth all_terminals (number x) ≡ x
numbered k.Name = refl
numbered _ = refl

abbrev each : (Terminal → Bool) → List Terminal → Bool
each p [] = p k.End
each p (x ∷ xs) = p x && each p xs

and_left : (a b : Bool) → (a && b) ≡ true → a ≡ true
and_left true b e = refl
and_left false b e = absurd cc

and_right : (a b : Bool) → (a && b) ≡ true → b ≡ true
and_right true b e = e
and_right false b e = absurd cc

each_is : (p : Terminal → Bool) (xs : List Terminal) (i : ℕ) → each p xs ≡ true → p (nth xs i) ≡ true
each_is p [] i e = e
each_is p (x ∷ xs) zero e = and_left _ _ e
each_is p (x ∷ xs) (suc i) e = each_is p xs i (and_right _ _ e)

abbrev pub every : (Terminal → Bool) → Bool
every p = each p all_terminals

every_is : (p : Terminal → Bool) → every p ≡ true → (x : Terminal) → p x ≡ true
every_is p e x = let h = each_is p all_terminals (number x) e in subst (λ (y : Terminal). p y ≡ true) (numbered x) h

-- `p x` implies `q x`
abbrev pub Within : (Terminal → Bool) → (Terminal → Bool) → Type 0
Within p q = every (λ x. not (p x) || q x) ≡ true

abbrev pub Disjoint : (Terminal → Bool) → (Terminal → Bool) → Type 0
Disjoint p q = every (λ x. not (p x && q x)) ≡ true

apart_at : (a b : Bool) → not (a && b) ≡ true → a ≡ true → b ≡ false
apart_at true true h e = absurd cc
apart_at true false h e = refl
apart_at false b h e = absurd cc

pub apart : (p q : Terminal → Bool) → Disjoint p q → Apart p q
apart p q e x = apart_at (p x) (q x) (every_is (λ x. not (p x && q x)) e x)

within_at : (a b : Bool) → (not a || b) ≡ true → a ≡ true → b ≡ true
within_at true b h e = h
within_at false b h e = absurd cc

pub within : (p q : Terminal → Bool) → Within p q → (x : Terminal) → p x ≡ true → q x ≡ true
within p q e x = within_at (p x) (q x) (every_is (λ x. not (p x) || q x) e x)

outside_at : (a b : Bool) → (not a || b) ≡ true → b ≡ false → a ≡ false
outside_at true b h e = absurd cc
outside_at false b h e = refl

pub outside : (p q : Terminal → Bool) → Within p q → (x : Terminal) → q x ≡ false → p x ≡ false
outside p q e x = outside_at (p x) (q x) (every_is (λ x. not (p x) || q x) e x)

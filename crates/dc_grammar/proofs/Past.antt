-- The first token past the limit.
use Rattle.std.proofs.Common.{◌≡◌, ℕ, ◌<◌, ◌≤◌, Bool, true, false, cond, nat_lt, max, List, [], ◌∷◌, ◌++◌, Some, None, refl, sym, ap, subst, ◌∙◌, arith, rules}
use Rattle.dc_token.specs.declared.token.Token.{Token}
use Rattle.dc_grammar.specs.declared.terminal.Terminal.{Terminal}
use Rattle.dc_grammar.specs.declared.terminal.Terminal.TheVariants as k
use Rattle.dc_grammar.specs.Terminals.{Tokens, terminal_of}
use Rattle.dc_grammar.specs.Nesting.{numbers, number_of, after, effect_of, greatest, beside_large, first_past, PastExactly}

lt_true : (m n : ℕ) → nat_lt m n ≡ true → m < n
lt_true m n e = search rules

lt_false : (m n : ℕ) → nat_lt m n ≡ false → n ≤ m
lt_false m n e = search rules

max_within : (m n limit : ℕ) → m ≤ limit → n ≤ limit → max m n ≤ limit
max_within m n limit h k = search rules

max_left : (m n limit : ℕ) → limit < m → limit < max m n
max_left m n limit h = search rules

max_right : (m n limit : ℕ) → limit < n → limit < max m n
max_right m n limit h = search rules

none_past : (limit : ℕ) (before : Terminal) (levels : List ℕ) (ts : Tokens) → beside_large limit (numbers before levels ts) ts ≡ None → greatest (numbers before levels ts) ≤ limit
none_past limit before levels [] e = omega arith
none_past limit before levels (t ∷ ts) e = go (none_past limit (terminal_of t) (after (effect_of before (terminal_of t)) levels) ts) (nat_lt limit (number_of (after (effect_of before (terminal_of t)) levels))) refl e
  where
    go : (beside_large limit (numbers (terminal_of t) (after (effect_of before (terminal_of t)) levels) ts) ts ≡ None → greatest (numbers (terminal_of t) (after (effect_of before (terminal_of t)) levels) ts) ≤ limit) → (c : Bool) → nat_lt limit (number_of (after (effect_of before (terminal_of t)) levels)) ≡ c → cond c (Some t) (beside_large limit (numbers (terminal_of t) (after (effect_of before (terminal_of t)) levels) ts) ts) ≡ None
        → max (number_of (after (effect_of before (terminal_of t)) levels)) (greatest (numbers (terminal_of t) (after (effect_of before (terminal_of t)) levels) ts)) ≤ limit
    go more true at f = absurd cc
    go more false at f = max_within _ _ limit (lt_false limit _ at) (more f)

some_past : (limit : ℕ) (before : Terminal) (levels : List ℕ) (ts : Tokens) (token : Token) → beside_large limit (numbers before levels ts) ts ≡ Some token → limit < greatest (numbers before levels ts)
some_past limit before levels [] token e = absurd cc
some_past limit before levels (t ∷ ts) token e = go (some_past limit (terminal_of t) (after (effect_of before (terminal_of t)) levels) ts token) (nat_lt limit (number_of (after (effect_of before (terminal_of t)) levels))) refl e
  where
    go : (beside_large limit (numbers (terminal_of t) (after (effect_of before (terminal_of t)) levels) ts) ts ≡ Some token → limit < greatest (numbers (terminal_of t) (after (effect_of before (terminal_of t)) levels) ts)) → (c : Bool) → nat_lt limit (number_of (after (effect_of before (terminal_of t)) levels)) ≡ c → cond c (Some t) (beside_large limit (numbers (terminal_of t) (after (effect_of before (terminal_of t)) levels) ts) ts) ≡ Some token
        → limit < max (number_of (after (effect_of before (terminal_of t)) levels)) (greatest (numbers (terminal_of t) (after (effect_of before (terminal_of t)) levels) ts))
    go more true at f = max_left _ _ limit (lt_true limit _ at)
    go more false at f = max_right _ _ limit (more f)

true_lt : (m n : ℕ) → m < n → nat_lt m n ≡ true
true_lt m n h = search rules

false_lt : (m n : ℕ) → n ≤ m → nat_lt m n ≡ false
false_lt m n h = search rules

left_of_max : (m limit : ℕ) → limit < max m 0 → limit < m
left_of_max m limit h = search rules

within_left : (m n limit : ℕ) → max m n ≤ limit → m ≤ limit
within_left m n limit h = search rules

within_right : (m n limit : ℕ) → max m n ≤ limit → n ≤ limit
within_right m n limit h = search rules

past_right : (m n limit : ℕ) → limit < max m n → m ≤ limit → limit < n
past_right m n limit h k = search rules

-- the same from a token and open levels on
record IsFirst (limit : ℕ) (before : Terminal) (levels : List ℕ) (ts : Tokens) (token : Token) : Type 0 where
  front : Tokens
  behind : Tokens
  is : ts ≡ front ++ token ∷ behind
  within : greatest (numbers before levels front) ≤ limit
  past : limit < greatest (numbers before levels (front ++ token ∷ []))

some_first : (limit : ℕ) (before : Terminal) (levels : List ℕ) (ts : Tokens) (token : Token) → beside_large limit (numbers before levels ts) ts ≡ Some token → IsFirst limit before levels ts token
some_first limit before levels [] token e = absurd cc
some_first limit before levels (t ∷ ts) token e = go (some_first limit b now ts token) (nat_lt limit n) refl e
  where
    b : Terminal
    b = terminal_of t

    now : List ℕ
    now = after (effect_of before b) levels

    n : ℕ
    n = number_of now

    go : (beside_large limit (numbers b now ts) ts ≡ Some token → IsFirst limit b now ts token) → (c : Bool) → nat_lt limit n ≡ c → cond c (Some t) (beside_large limit (numbers b now ts) ts) ≡ Some token → IsFirst limit before levels (t ∷ ts) token
    go more true at f =
        let same : t ≡ token = cc in
        record { front = []; behind = ts; is = ap (λ x. x ∷ ts) same; within = omega arith; past = subst (λ x. limit < greatest (numbers before levels (x ∷ []))) same (max_left n 0 limit (lt_true limit n at)) }
    go more false at f =
        let m = more f in
        record { front = t ∷ m.front; behind = m.behind; is = ap (λ l. t ∷ l) m.is; within = max_within n (greatest (numbers b now m.front)) limit (lt_false limit n at) m.within; past = max_right n (greatest (numbers b now (m.front ++ token ∷ []))) limit m.past }

first_some : (limit : ℕ) (before : Terminal) (levels : List ℕ) (front behind : Tokens) (token : Token) → greatest (numbers before levels front) ≤ limit → limit < greatest (numbers before levels (front ++ token ∷ [])) → beside_large limit (numbers before levels (front ++ token ∷ behind)) (front ++ token ∷ behind) ≡ Some token
first_some limit before levels [] behind token within past =
    let now = after (effect_of before (terminal_of token)) levels in
    let rest = beside_large limit (numbers (terminal_of token) now behind) behind in
    ap (λ c. cond c (Some token) rest) (true_lt limit (number_of now) (left_of_max (number_of now) limit past))
first_some limit before levels (t ∷ front) behind token within past =
    let b = terminal_of t in
    let now = after (effect_of before b) levels in
    let n = number_of now in
    let inner = greatest (numbers b now front) in
    let low = within_left n inner limit within in
    let rest = front ++ token ∷ behind in
    ap (λ c. cond c (Some t) (beside_large limit (numbers b now rest) rest)) (false_lt limit n low)
    ∙ first_some limit b now front behind token (within_right n inner limit within) (past_right n (greatest (numbers b now (front ++ token ∷ []))) limit past low)

pub past_exactly : PastExactly
past_exactly = record {
  none = λ limit ts e. none_past limit k.End (0 ∷ []) ts e;
  above = λ limit ts token e. some_past limit k.End (0 ∷ []) ts token e;
  first = λ limit ts token e. (let m = some_first limit k.End (0 ∷ []) ts token e in record { front = m.front; behind = m.behind; is = m.is; within = m.within; past = m.past });
  is = λ limit ts token p. subst (λ l. first_past limit l ≡ Some token) (sym p.is) (first_some limit k.End (0 ∷ []) p.front p.behind token p.within p.past);
}

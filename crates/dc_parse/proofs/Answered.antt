-- From what was read to the answer.
use Rattle.std.proofs.Common.{◌≡◌, ◌∙◌, ap, sym, subst, refl, ℕ, Bool, false, [], ◌∷◌, Some, None, Result, Ok, Err}
use Rattle.dc_token.specs.declared.token.Token.{Token}
use Rattle.dc_types.specs.declared.place.Place.{Place}
use Rattle.dc_types.specs.declared.refusal.Fail.{Fail}
use Rattle.dc_types.specs.declared.refusal.Fail.TheVariants.{Refused, NoMemory}
use Rattle.dc_grammar.specs.declared.terminal.Terminal.{Terminal}
use Rattle.dc_grammar.specs.declared.terminal.Terminal.TheVariants as k
use Rattle.dc_grammar.specs.Terminals.{Tokens}
use Rattle.dc_grammar.specs.Reading.{Reader}
use Rattle.dc_grammar.proofs.Wholes.{EveryLoose, read_is_whole, read_is_refused, divides}
use Rattle.dc_parse.specs.Left.{left}
use Rattle.dc_parse.specs.Parses.{IsAnswer, IsWhole}

pub all_left : (tokens : Tokens) → left tokens 0 ≡ tokens
unfolding left
all_left tokens = refl

module _ {A : Type 0} {g f : Terminal → Bool} {P : Tokens → A → Type 0} {p : Reader A} (good : EveryLoose g f P p) (stop : g k.End ≡ false) where
  by_rest : (tokens : Tokens) (at : Place) (x : A) (rest : Tokens) (r : Result A Fail) → p tokens ≡ Some (x, rest) → IsWhole rest at x r → IsAnswer P None None tokens at r
  by_rest tokens at x [] (Ok tree) e h = subst (λ (y : A). P tokens y) (sym h) (read_is_whole good stop tokens x e)
  by_rest tokens at x [] (Err fail) e h = absurd h
  by_rest tokens at x (token ∷ rest) (Ok tree) e h = absurd h
  by_rest tokens at x (token ∷ rest) (Err (Refused refusal)) e h =
      let place = read_is_refused good stop tokens x token rest e in
      record { token = token; is = h; place = place; none = λ tree is. (divides good stop).never_both tokens tree token is place }
  by_rest tokens at x (token ∷ rest) (Err NoMemory) e h = tt

  pub answered : (tokens : Tokens) (at : Place) (x : A) (end : ℕ) (r : Result A Fail) → p (left tokens 0) ≡ Some (x, left tokens end) → IsWhole (left tokens end) at x r → IsAnswer P None None tokens at r
  answered tokens at x end r e h = by_rest tokens at x (left tokens end) r (ap p (sym (all_left tokens)) ∙ e) h

use Rattle.std.proofs.Common.{◌≡◌, ◌↔◌, Bool, true, false, IsTrue, List, ℕ, refl, sym, ◌∙◌}
use Rattle.std.specs.Str.{is_utf8, IsUtf8}
use Rattle.std.proofs.lemmas.Str.{IsUtf8-from_is_utf8, is_utf8-from_IsUtf8}
use Rattle.dc_lexer.proofs.plain.is_text.Goals as goal

same : (w : List ℕ) (r x : Bool) → (IsTrue r ↔ IsUtf8 w) → is_utf8 w ≡ x → r ≡ x
same w true true h e = refl
same w false false h e = refl
same w true false h e = absurd (let k : is_utf8 w ≡ true = is_utf8-from_IsUtf8 w (h.0 refl) in let l : false ≡ true = sym e ∙ k in cc)
same w false true h e = absurd (let k : false ≡ true = h.1 (IsUtf8-from_is_utf8 w e) in cc)

pub returns : goal.returns
returns c = same c.args.w.now c.is_utf8.result (is_utf8 c.args.w.now) c.is_utf8.ensures refl

use Rattle.std.proofs.Common.{◌≡◌, ℕ, Option, true, false, Some, None, ◌∙◌, sym, subst}
use Rattle.dc_token.specs.Vocabulary.{starts_name}
use Rattle.dc_lexer.proofs.Names.{passes, passes_none}
use Rattle.dc_lexer.proofs.name.start_len.Goals as goal

never : (r : Option ℕ) → r ≡ None → (d : ℕ) → r ≡ Some d → ⊥
never r e d h = absurd (cc)

same : (a b : ℕ) (r : Option ℕ) → r ≡ Some a → r ≡ Some b → a ≡ b
same a b r e h = cc

pub returns-in_default : goal.returns-in_default
returns-in_default c = passes_none starts_name c.args.z.now (λ d is h. never c.decode-found.result.0 c.in_default.is d (c.decode-found.ensures.char ∙ is))

pub returns-then-starts_name : goal.returns-then-starts_name
returns-then-starts_name c = passes starts_name c.args.z.now c.in-Some.c c.decode-found.result.1 (sym c.decode-found.ensures.char ∙ c.in-Some.is) (sym c.decode-found.ensures.size) (sym c.starts_name.ensures ∙ c.if-starts_name.true)

pub returns-else-starts_name : goal.returns-else-starts_name
returns-else-starts_name c = passes_none starts_name c.args.z.now (λ d is h. (
    let e = same c.in-Some.c d c.decode-found.result.0 c.in-Some.is (c.decode-found.ensures.char ∙ is) in
    let f : starts_name d ≡ false = subst (λ x. starts_name x ≡ false) e (sym c.starts_name.ensures ∙ c.if-starts_name.false) in
    absurd (let k : false ≡ true = sym f ∙ h in cc)))

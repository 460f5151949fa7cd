use Rattle.std.proofs.Common.{◌≡◌, ℕ, Option, true, false, Some, None, ◌∙◌, sym, subst}
use Rattle.dc_token.specs.Vocabulary.{is_xid_continue}
use Rattle.dc_lexer.proofs.Names.{passes, passes_none}
use Rattle.dc_lexer.proofs.name.continue_len.Goals as goal

never : (r : Option ℕ) → r ≡ None → (d : ℕ) → r ≡ Some d → ⊥
never r e d h = absurd (cc)

same : (a b : ℕ) (r : Option ℕ) → r ≡ Some a → r ≡ Some b → a ≡ b
same a b r e h = cc

pub returns-in_default : goal.returns-in_default
returns-in_default c = passes_none is_xid_continue c.args.z.now (λ d is h. never c.decode-found.result.0 c.in_default.is d (c.decode-found.ensures.char ∙ is))

pub returns-then-continues_name : goal.returns-then-continues_name
returns-then-continues_name c = passes is_xid_continue c.args.z.now c.in-Some.c c.decode-found.result.1 (sym c.decode-found.ensures.char ∙ c.in-Some.is) (sym c.decode-found.ensures.size) (sym c.continues_name.ensures ∙ c.if-continues_name.true)

pub returns-else-continues_name : goal.returns-else-continues_name
returns-else-continues_name c = passes_none is_xid_continue c.args.z.now (λ d is h. (
    let e = same c.in-Some.c d c.decode-found.result.0 c.in-Some.is (c.decode-found.ensures.char ∙ is) in
    let f : is_xid_continue d ≡ false = subst (λ x. is_xid_continue x ≡ false) e (sym c.continues_name.ensures ∙ c.if-continues_name.false) in
    absurd (let k : false ≡ true = sym f ∙ h in cc)))

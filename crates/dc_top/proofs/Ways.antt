-- A text that is a program of the core, or is refused by another rule than 23, is none with forms that the core hasn't.
use Rattle.std.proofs.Common.{◌≡◌, ap, sym, ◌∙◌, ℕ, List, Ok, Err, refl, subst, ◌↔◌, Bool, true, false, not, nat_eq, IsTrue, arith}
use Rattle.dc_types.specs.declared.refusal.Refusal.{Refusal}
use Rattle.dc_types.specs.declared.refusal.Fail.{Fail}
use Rattle.dc_types.specs.declared.refusal.Fail.TheVariants as fail
use Rattle.dc_token.specs.declared.token.Token.{Token}
use Rattle.dc_ast.specs.declared.declaration.ModuleTree.{ModuleTree}
use Rattle.core_front.specs.Front.{judged_of}
use Rattle.core_front.specs.Judging.{Answers}
use Rattle.core_front.specs.declared.judged.Resolution.{Resolution}
use Rattle.dc_top.specs.Front.{IsProgramOf, IsRefusedBy, in_module, as_program}
use Rattle.dc_top.specs.Names.{default_name}
use Rattle.dc_top.specs.Texts.{HasText, IsFailOf, refused, module_of}
use Rattle.dc_top.specs.Ways.{IsOutside}
use Rattle.dc_top.proofs.Texts as texts
use Rattle.dc_top.proofs.Verdicts.{one_verdict, module_is}
use Rattle.dc_top.specs.declared.program.Program.{Program}

outside_is_refused : (file text : List ℕ) (o : IsOutside file text) → IsRefusedBy file text o.refusal
outside_is_refused file text o = in_module o.is_module o.refuses

pub program_inside : (file text : List ℕ) (p : Program) → IsProgramOf file text p → IsOutside file text → ⊥
program_inside file text p is o = (one_verdict file text).not_both p o.refusal is (outside_is_refused file text o)

pub refusal_inside : (file text : List ℕ) (r : Refusal) → IsRefusedBy file text r → (r.rule ≡ 23 → ⊥) → IsOutside file text → ⊥
refusal_inside file text r is other o =
    other (ap (λ (x : Refusal). x.rule) ((one_verdict file text).one_refusal r o.refusal is (outside_is_refused file text o)) ∙ o.by_form)

-- ---- what each branch gives

abbrev InsideIff : List ℕ → List ℕ → Bool → Type 0
InsideIff file text core = IsTrue core ↔ (IsOutside file text → ⊥)

inside : (file text : List ℕ) → (IsOutside file text → ⊥) → InsideIff file text true
inside file text never = (λ e. never, λ n. refl)

pub on_text : (file text : List ℕ) (f : Fail) (r : Refusal) → f ≡ fail.Refused r → IsFailOf file text f → InsideIff file text true
on_text file text f r e h =
    let has : HasText file text (refused r) = subst (λ (x : Fail). IsFailOf file text x) e h in
    inside file text (λ o. absurd (let k : refused r ≡ module_of o.name o.tokens o.tree = texts.one_verdict file text (refused r) (module_of o.name o.tokens o.tree) has o.is_module in cc))

module _ (file text home name : List ℕ) (tokens : List Token) (tree : ModuleTree) (at : home ≡ default_name file) (h : HasText file text (module_of name tokens tree)) where
  pub on_resolution : (r : Resolution) → judged_of home tokens tree ≡ Ok r → InsideIff file text true
  on_resolution r e =
      let is = module_is file text name tokens tree r (as_program r) h (ap (λ n. judged_of n tokens tree) (sym at) ∙ e) refl in
      inside file text (program_inside file text (as_program r) is)

  pub on_refusal : (f : Fail) (r : Refusal) → f ≡ fail.Refused r → Answers (judged_of home tokens tree) (Err f) → InsideIff file text (not (nat_eq r.rule 23))
  on_refusal f r e a =
      let there : Answers (judged_of home tokens tree) (Err (fail.Refused r)) = subst (λ (x : Fail). Answers (judged_of home tokens tree) (Err x)) e a in
      let refuses : judged_of (default_name file) tokens tree ≡ Err r = ap (λ n. judged_of n tokens tree) (sym at) ∙ there in (
        λ t. refusal_inside file text r (in_module h refuses) (λ (k : r.rule ≡ 23). grind arith),
        λ never. by_rule (nat_eq r.rule 23) (λ (k : nat_eq r.rule 23 ≡ true). never (record { name = name; tokens = tokens; tree = tree; refusal = r; is_module = h; refuses = refuses; by_form = grind arith })),
      )
    where
      by_rule : (b : Bool) → (b ≡ true → ⊥) → IsTrue (not b)
      by_rule true never = absurd (never refl)
      by_rule false never = refl

-- ---- what that comes to for programs and refusals

pub programs_inside : (file text : List ℕ) (core : Bool) → InsideIff file text core → (p : Program) → IsProgramOf file text p → IsTrue core
programs_inside file text core iff p is = iff.1 (program_inside file text p is)

pub refusals_inside : (file text : List ℕ) (core : Bool) → InsideIff file text core → (r : Refusal) → IsRefusedBy file text r → (r.rule ≡ 23 → ⊥) → IsTrue core
refusals_inside file text core iff r is other = iff.1 (refusal_inside file text r is other)

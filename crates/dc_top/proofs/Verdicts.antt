-- A text has one verdict.
use Rattle.std.proofs.Common.{◌≡◌, sym, ap, ◌∙◌, ℕ, List, Result, Ok, Err, refl}
use Rattle.dc_types.specs.declared.refusal.Refusal.{Refusal}
use Rattle.dc_types.specs.declared.refusal.Fail.{Fail}
use Rattle.dc_types.specs.declared.refusal.Fail.TheVariants as fail
use Rattle.dc_token.specs.declared.token.Token.{Token}
use Rattle.dc_ast.specs.declared.declaration.ModuleTree.{ModuleTree}
use Rattle.core_front.specs.Front.{judged_of}
use Rattle.core_front.specs.Judging.{Answers, Judged}
use Rattle.core_front.specs.declared.judged.Resolution.{Resolution}
use Rattle.dc_top.specs.Front.{IsProgramOf, IsRefusedBy, in_text, in_module, FrontAnswers, OneVerdict, IsSettled, accepted, rejected, as_program}
use Rattle.dc_top.specs.Names.{default_name}
use Rattle.dc_top.specs.Texts.{Verdict, HasText, IsFailOf, refused, module_of}
use Rattle.dc_top.specs.Texts as texts
use Rattle.dc_top.proofs.Texts as proved
use Rattle.dc_top.specs.declared.program.Program.{Program}

judged_by : List ℕ → Verdict → Judged Resolution
judged_by file (texts.refused r) = Err r
judged_by file (texts.module_of name tokens tree) = judged_of (default_name file) tokens tree

-- what a verdict comes to
record Comes (file text : List ℕ) (j : Judged Resolution) : Type 0 where
  pub verdict : Verdict
  pub has : HasText file text verdict
  pub is : judged_by file verdict ≡ j

comes_once : (file text : List ℕ) (i j : Judged Resolution) → Comes file text i → Comes file text j → i ≡ j
comes_once file text i j a b = sym a.is ∙ ap (judged_by file) (proved.one_verdict file text a.verdict b.verdict a.has b.has) ∙ b.is

program_comes : (file text : List ℕ) (p : Program) → (x : IsProgramOf file text p) → Comes file text (Ok x.resolution)
unfolding judged_by
program_comes file text p x = record { verdict = module_of x.name x.tokens x.tree; has = x.is_module; is = x.resolves }

refusal_comes : (file text : List ℕ) (r : Refusal) → IsRefusedBy file text r → Comes file text (Err r)
unfolding judged_by
refusal_comes file text r (in_text h) = record { verdict = refused r; has = h; is = refl }
refusal_comes file text r (in_module {name = name} {tokens = tokens} {tree = tree} h e) = record { verdict = module_of name tokens tree; has = h; is = e }

abbrev yes : Resolution → Judged Resolution
yes r = Ok r

abbrev no : Refusal → Judged Resolution
no r = Err r

ok_is : (a b : Resolution) → yes a ≡ yes b → a ≡ b
ok_is a b e = cc

err_is : (a b : Refusal) → no a ≡ no b → a ≡ b
err_is a b e = cc

apart : (a : Resolution) (b : Refusal) → yes a ≡ no b → ⊥
apart a b e = absurd (cc)

pub one_verdict : OneVerdict
one_verdict file text = record {
  one_program = λ a b p q. p.is_program ∙ ap as_program (ok_is p.resolution q.resolution (comes_once file text (yes p.resolution) (yes q.resolution) (program_comes file text a p) (program_comes file text b q))) ∙ sym q.is_program;
  one_refusal = λ a b p q. err_is a b (comes_once file text (no a) (no b) (refusal_comes file text a p) (refusal_comes file text b q));
  not_both = λ program refusal p q. apart p.resolution refusal (comes_once file text (yes p.resolution) (no refusal) (program_comes file text program p) (refusal_comes file text refusal q));
}

-- ---- what the front answers

pub text_fails : (file text : List ℕ) (f : Fail) → IsFailOf file text f → FrontAnswers file text (Err f)
text_fails file text (fail.Refused r) h = in_text h
text_fails file text fail.NoMemory h = tt

pub module_fails : (file text name : List ℕ) (tokens : List Token) (tree : ModuleTree) (f : Fail) → HasText file text (module_of name tokens tree) → Answers (judged_of (default_name file) tokens tree) (Err f)
    → FrontAnswers file text (Err f)
module_fails file text name tokens tree (fail.Refused r) h e = in_module h e
module_fails file text name tokens tree fail.NoMemory h e = tt

pub module_is : (file text name : List ℕ) (tokens : List Token) (tree : ModuleTree) (r : Resolution) (p : Program) → HasText file text (module_of name tokens tree) → judged_of (default_name file) tokens tree ≡ Ok r
    → p ≡ as_program r → IsProgramOf file text p
module_is file text name tokens tree r p h e is = record { name = name; tokens = tokens; tree = tree; resolution = r; is_module = h; resolves = e; is_program = is }

-- ---- each text is settled

settled_by : (file text name : List ℕ) (tokens : List Token) (tree : ModuleTree) (j : Judged Resolution) → HasText file text (module_of name tokens tree) → judged_of (default_name file) tokens tree ≡ j → IsSettled file text
settled_by file text name tokens tree (Ok r) h e = accepted (module_is file text name tokens tree r (as_program r) h e refl)
settled_by file text name tokens tree (Err r) h e = rejected (in_module h e)

pub settled : (file text : List ℕ) (v : Verdict) → HasText file text v → IsSettled file text
settled file text (texts.refused r) h = rejected (in_text h)
settled file text (texts.module_of name tokens tree) h = settled_by file text name tokens tree (judged_of (default_name file) tokens tree) h refl

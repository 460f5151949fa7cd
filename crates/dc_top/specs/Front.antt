-- Which program a file's text is, and which refusal it meets.
use Rattle.std.specs.Prelude.{◌≡◌, ℕ, List, Result, Ok, Err}
use Rattle.dc_types.specs.declared.refusal.Refusal.{Refusal}
use Rattle.dc_types.specs.declared.refusal.Fail.{Fail}
use Rattle.dc_types.specs.declared.refusal.Fail.TheVariants as fail
use Rattle.dc_token.specs.declared.token.Token.{Token}
use Rattle.dc_ast.specs.declared.declaration.ModuleTree.{ModuleTree}
use Rattle.core_front.specs.Front.{judged_of}
use Rattle.core_front.specs.declared.judged.Resolution.{Resolution}
use Rattle.dc_top.specs.Names.{default_name}
use Rattle.dc_top.specs.Texts.{HasText, refused, module_of}
use Rattle.dc_top.specs.declared.program.Program.{Program}

-- a program, as the front resolves it
abbrev pub as_program : Resolution → Program
as_program r = record { bodies = r.bodies; start = r.start }

-- The text of the file is a module that is resolved to this program. Places name it by the file: a module with a line of its
-- own isn't built yet.
pub record IsProgramOf (file text : List ℕ) (program : Program) : Type 0 where
  pub name : List ℕ
  pub tokens : List Token
  pub tree : ModuleTree
  pub resolution : Resolution
  pub is_module : HasText file text (module_of name tokens tree)
  pub resolves : judged_of (default_name file) tokens tree ≡ Ok resolution
  pub is_program : program ≡ as_program resolution

-- The text of the file is no module, or it is one that breaks a rule of its forms, names, types or flow.
pub data IsRefusedBy (file text : List ℕ) (refusal : Refusal) : Type 0 where
  in_text : HasText file text (refused refusal) → IsRefusedBy file text refusal
  in_module : {name : List ℕ} {tokens : List Token} {tree : ModuleTree} → HasText file text (module_of name tokens tree) → judged_of (default_name file) tokens tree ≡ Err refusal
      → IsRefusedBy file text refusal

-- what the front answers
abbrev pub FrontAnswers : List ℕ → List ℕ → Result Program Fail → Type 0
FrontAnswers file text (Ok program) = IsProgramOf file text program
FrontAnswers file text (Err (fail.Refused refusal)) = IsRefusedBy file text refusal
FrontAnswers file text (Err fail.NoMemory) = Unit {0}

-- A file and its text have at most one program and at most one refusal, and never both.
pub record HasOneVerdict (file text : List ℕ) : Type 0 where
  pub one_program : (a b : Program) → IsProgramOf file text a → IsProgramOf file text b → a ≡ b
  pub one_refusal : (a b : Refusal) → IsRefusedBy file text a → IsRefusedBy file text b → a ≡ b
  pub not_both : (program : Program) (refusal : Refusal) → IsProgramOf file text program → IsRefusedBy file text refusal → ⊥

abbrev pub OneVerdict : Type 0
OneVerdict = (file text : List ℕ) → HasOneVerdict file text

-- Each text has one of them.
pub data IsSettled (file text : List ℕ) : Type 0 where
  accepted : {program : Program} → IsProgramOf file text program → IsSettled file text
  rejected : {refusal : Refusal} → IsRefusedBy file text refusal → IsSettled file text

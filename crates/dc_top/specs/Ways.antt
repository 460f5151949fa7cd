-- Which jobs are about programs of the core.
use Rattle.std.specs.Prelude.{◌≡◌, ℕ, List, Option, Some, None, Err}
use Rattle.dc_types.specs.declared.refusal.Refusal.{Refusal}
use Rattle.dc_token.specs.declared.token.Token.{Token}
use Rattle.dc_ast.specs.declared.declaration.ModuleTree.{ModuleTree}
use Rattle.core_front.specs.Front.{judged_of}
use Rattle.dc_top.specs.Names.{default_name}
use Rattle.dc_top.specs.Texts.{HasText, module_of}
use Rattle.dc_top.specs.Words.{Job}

-- the job is about this file
abbrev pub IsFileOf : Option Job → List ℕ → Type 0
IsFileOf None file = ⊥
IsFileOf (Some job) file = job.file ≡ file

-- The text of the file is a module with a form that the core hasn't: judging refuses it by rule 23.
pub record IsOutside (file text : List ℕ) : Type 0 where
  pub name : List ℕ
  pub tokens : List Token
  pub tree : ModuleTree
  pub refusal : Refusal
  pub is_module : HasText file text (module_of name tokens tree)
  pub refuses : judged_of (default_name file) tokens tree ≡ Err refusal
  pub by_form : refusal.rule ≡ 23

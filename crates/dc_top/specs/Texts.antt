-- What a file's text is: a module with its name, its tokens and its tree, or refused by a rule (D specification, "Lexical",
-- "Modules", "Module Declarations").
use Rattle.std.specs.Prelude.{◌≡◌, ◌≤◌, ◌<◌, ℕ, List, [], ◌∷◌, ◌++◌, Option, Some, None, codes, length}
use Rattle.std.specs.List.{flat_map}
use Rattle.dc_types.specs.declared.place.Step.TheVariants.{At}
use Rattle.dc_types.specs.declared.refusal.Refusal.{Refusal}
use Rattle.dc_types.specs.declared.refusal.Fail.{Fail}
use Rattle.dc_types.specs.declared.refusal.Fail.TheVariants.{Refused, NoMemory}
use Rattle.dc_token.specs.declared.token.Token.{Token}
use Rattle.dc_token.specs.Balance.{Bytes}
use Rattle.dc_token.specs.Names.{IsName}
use Rattle.dc_token.specs.Text.{IsTokens, IsUnreadable}
use Rattle.dc_ast.specs.declared.name.Name.{Name}
use Rattle.dc_ast.specs.declared.declaration.ModuleLine.{ModuleLine}
use Rattle.dc_ast.specs.declared.declaration.ModuleTree.{ModuleTree}
use Rattle.dc_grammar.specs.Declarations.{IsModule}
use Rattle.dc_grammar.specs.Nesting.{first_outside, first_past}
use Rattle.dc_grammar.specs.Refusals.{IsRefusedAt}
use Rattle.dc_top.specs.Names.{default_name}

-- ---- the name of a module

-- a point, and the name
abbrev pub pointed : Name → Bytes
pointed part = codes "." ++ part.spelling

-- the parts of a name with points between them, as `a.b`
abbrev pub dotted : List Name → Bytes
dotted [] = []
dotted (first ∷ more) = first.spelling ++ flat_map pointed more

-- a module is named by its line, or else as its file
abbrev pub name_of : Bytes → Option ModuleLine → Bytes
name_of file (Some line) = dotted line.name
name_of file None = default_name file

-- without a line, the file's name has to be an identifier, be it a keyword or not
abbrev pub HasName : Bytes → Option ModuleLine → Type 0
HasName file (Some line) = Unit {0}
HasName file None = IsName (default_name file)

-- ---- what a text is

pub data Verdict : Type 0 where
  refused : Refusal → Verdict
  module_of : (name : Bytes) → (tokens : List Token) → (tree : ModuleTree) → Verdict

-- A refusal at an offset in the text of a file. Its place names the module as the file, whatever the text says.
abbrev pub broken : ℕ → Bytes → ℕ → Bytes → Refusal
broken rule file offset detail = record { rule = rule; place = record { «module» = default_name file; steps = At offset ∷ [] }; detail = detail }

-- A list of tokens is a module with a name; or it is refused for what stands first here: a token that the compiler leaves
-- out, a token past the limit of nesting, a token behind the longest module that begins the list, or the want of a name.
pub data HasTokens (file : Bytes) (tokens : List Token) : Verdict → Type 0 where
  left_out : {token : Token} → first_outside tokens ≡ Some token → HasTokens file tokens (refused (broken 23 file token.start token.spelling))
  too_deep : {token : Token} → first_outside tokens ≡ None → first_past 256 tokens ≡ Some token → HasTokens file tokens (refused (broken 24 file token.start []))
  no_module : {token : Token} → first_outside tokens ≡ None → first_past 256 tokens ≡ None → IsRefusedAt IsModule tokens token
      → HasTokens file tokens (refused (broken 2 file token.start []))
  no_name : {tree : ModuleTree} → first_outside tokens ≡ None → first_past 256 tokens ≡ None → IsModule tokens tree → (HasName file tree.line → ⊥)
      → HasTokens file tokens (refused (broken 2 file 0 []))
  is_module : {tree : ModuleTree} → first_outside tokens ≡ None → first_past 256 tokens ≡ None → IsModule tokens tree → HasName file tree.line
      → HasTokens file tokens (module_of (name_of file tree.line) tokens tree)

-- A text is too large, or no tokens are in it, or it is what its tokens are.
pub data HasText (file text : Bytes) : Verdict → Type 0 where
  too_large : 1048576 < length text → HasText file text (refused (broken 24 file 0 []))
  unreadable : {offset : ℕ} → length text ≤ 1048576 → IsUnreadable text offset → HasText file text (refused (broken 1 file offset []))
  has_tokens : {tokens : List Token} {verdict : Verdict} → length text ≤ 1048576 → IsTokens text tokens → HasTokens file tokens verdict → HasText file text verdict

-- a file's text is at most one of these
abbrev pub OneTextVerdict : Type 0
OneTextVerdict = (file text : Bytes) (one other : Verdict) → HasText file text one → HasText file text other → one ≡ other

-- and it is one of these
pub record IsJudged (file text : Bytes) : Type 0 where
  pub verdict : Verdict
  pub is : HasText file text verdict

-- ---- what a call answers that takes memory

-- the refusal of the text, or want of memory
abbrev pub IsFailOf : Bytes → Bytes → Fail → Type 0
IsFailOf file text (Refused refusal) = HasText file text (refused refusal)
IsFailOf file text NoMemory = Unit {0}

-- this refusal, or want of memory
abbrev pub IsBroken : ℕ → Bytes → ℕ → Fail → Type 0
IsBroken rule file offset (Refused refusal) = refusal ≡ broken rule file offset []
IsBroken rule file offset NoMemory = Unit {0}

-- a module has no name, and is refused for it; or want of memory
abbrev pub IsNameless : Bytes → Option ModuleLine → Fail → Type 0
IsNameless file line (Refused refusal) = (HasName file line → ⊥) × (refusal ≡ broken 2 file 0 [])
IsNameless file line NoMemory = Unit {0}

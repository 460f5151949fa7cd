-- What words stand for in declarations.
use Rattle.std.specs.Prelude.{◌≡◌, ℕ, if◌then◌else◌, List, [], ◌∷◌, Option, Some, None, bytes_eq}
use Rattle.dc_token.specs.declared.token.Token.{Token}
use Rattle.dc_ast.specs.declared.word.Storage.{Storage}
use Rattle.dc_ast.specs.declared.word.Storage.TheVariants as store
use Rattle.dc_ast.specs.declared.word.Visibility.{Visibility}
use Rattle.dc_ast.specs.declared.word.Visibility.TheVariants as visible
use Rattle.dc_ast.specs.declared.word.Attribute.{Attribute}
use Rattle.dc_ast.specs.declared.word.Attribute.TheVariants as attribute
use Rattle.dc_grammar.specs.declared.terminal.Terminal.{Terminal}
use Rattle.dc_grammar.specs.declared.terminal.Terminal.TheVariants as k
use Rattle.dc_grammar.specs.Spellings.{at_words}
use Rattle.dc_grammar.specs.Terminals.{Tokens, terminal_of}

-- the words of a storage class
abbrev pub storage : Terminal → Option Storage
storage k.Const = Some store.Const
storage k.Immutable = Some store.Immutable
storage _ = None

-- the words of a visibility
abbrev pub visibility : Terminal → Option Visibility
visibility k.Private = Some visible.Private
visibility k.Public = Some visible.Public
visibility _ = None

-- the attributes that are one word
abbrev pub attribute_word : Terminal → Option Attribute
attribute_word k.Private = Some attribute.Private
attribute_word k.Public = Some attribute.Public
attribute_word k.Pure = Some attribute.Pure
attribute_word k.Nothrow = Some attribute.Nothrow
attribute_word _ = None

-- the attribute that stands beside a spelling in a table
abbrev pub find_attribute : List (List ℕ × Attribute) → List ℕ → Option Attribute
find_attribute [] w = None
find_attribute (row ∷ rows) w = if bytes_eq row.0 w then Some row.1 else find_attribute rows w

-- the attributes behind an `@`
unfoldable pub at_word : List ℕ → Option Attribute
at_word w = find_attribute at_words w

-- one name, and what its spelling stands for
pub record Spelt {A : Type 0} (f : List ℕ → Option A) (w : Tokens) (x : A) : Type 0 where
  pub token : Token
  pub alone : w ≡ token ∷ []
  pub is : terminal_of token ≡ k.Name
  pub means : f token.spelling ≡ Some x

-- From what the lower calls answer to what a text is.
use Rattle.std.proofs.Common.{◌≡◌, sym, subst, refl, ◌<◌, ◌≤◌, List, [], Option, Some, None, Result, Ok, Err, length}
use Rattle.std.specs.Prelude.{IsErrAnd, IfErr}
use Rattle.dc_types.specs.declared.place.Place.{Place}
use Rattle.dc_types.specs.declared.refusal.Refusal.{Refusal}
use Rattle.dc_types.specs.declared.refusal.Fail.{Fail}
use Rattle.dc_types.specs.declared.refusal.Fail.TheVariants.{Refused, NoMemory}
use Rattle.dc_token.specs.Balance.{Bytes}
use Rattle.dc_token.specs.declared.token.Token.{Token}
use Rattle.dc_token.specs.Text.{IsTokens}
use Rattle.dc_ast.specs.declared.declaration.ModuleTree.{ModuleTree}
use Rattle.dc_grammar.specs.Declarations.{IsModule}
use Rattle.dc_grammar.specs.Nesting.{first_outside, first_past}
use Rattle.dc_lexer.specs.Outcome.{IsFailure}
use Rattle.dc_parse.specs.Parses.{IsAnswer}
use Rattle.dc_top.specs.Names.{default_name}
use Rattle.dc_top.specs.Texts.{refused, module_of, broken, name_of, HasName, HasText, IsFailOf, IsBroken, IsNameless}
use Rattle.dc_top.specs.Texts as t

-- a file as a place
abbrev pub file_place : Bytes → Place
file_place file = record { «module» = default_name file; steps = [] }

same : (file text : Bytes) (r s : Refusal) → r ≡ s → HasText file text (refused s) → HasText file text (refused r)
same file text r s e h = subst (λ (x : Refusal). HasText file text (refused x)) (sym e) h

pub large_fails : (file text : Bytes) (fail : Fail) → 1048576 < length text → IsBroken 24 file 0 fail → IsFailOf file text fail
large_fails file text (Refused r) large e = same file text r (broken 24 file 0 []) e (t.too_large large)
large_fails file text NoMemory large e = tt

pub lexing_fails : (file text : Bytes) (fail : Fail) → length text ≤ 1048576 → IsFailure text (file_place file) fail → IsFailOf file text fail
lexing_fails file text (Refused r) small h = same file text r (broken 1 file h.offset []) h.is (t.unreadable small h.unreadable)
lexing_fails file text NoMemory small h = tt

-- no token is left out, none nests too deep, and the tokens are a module
pub record Whole (tokens : List Token) (tree : ModuleTree) : Type 0 where
  pub inside : first_outside tokens ≡ None
  pub flat : first_past 256 tokens ≡ None
  pub is : IsModule tokens tree

module _ (file text : Bytes) (tokens : List Token) (small : length text ≤ 1048576) (are : IsTokens text tokens) where
  fails_by : (fail : Fail) (a b : Option Token) → first_outside tokens ≡ a → first_past 256 tokens ≡ b → IsAnswer IsModule a b tokens (file_place file) (Err fail) → IsFailOf file text fail
  fails_by (Refused r) (Some k) b e f h = same file text r (broken 23 file k.start k.spelling) h (t.has_tokens small are (t.left_out e))
  fails_by (Refused r) None (Some k) e f h = same file text r (broken 24 file k.start []) h (t.has_tokens small are (t.too_deep e f))
  fails_by (Refused r) None None e f h = same file text r (broken 2 file h.token.start []) h.is (t.has_tokens small are (t.no_module e f h.place))
  fails_by NoMemory a b e f h = tt

  pub parsing_fails : (fail : Fail) → IsAnswer IsModule (first_outside tokens) (first_past 256 tokens) tokens (file_place file) (Err fail) → IsFailOf file text fail
  parsing_fails fail h = fails_by fail (first_outside tokens) (first_past 256 tokens) refl refl h

  whole_by : (tree : ModuleTree) (a b : Option Token) → first_outside tokens ≡ a → first_past 256 tokens ≡ b → IsAnswer IsModule a b tokens (file_place file) (Ok tree) → Whole tokens tree
  whole_by tree (Some k) b e f h = absurd h
  whole_by tree None (Some k) e f h = absurd h
  whole_by tree None None e f h = record { inside = e; flat = f; is = h }

  pub whole : (tree : ModuleTree) → IsAnswer IsModule (first_outside tokens) (first_past 256 tokens) tokens (file_place file) (Ok tree) → Whole tokens tree
  whole tree h = whole_by tree (first_outside tokens) (first_past 256 tokens) refl refl h

  pub naming_fails : (tree : ModuleTree) (fail : Fail) → Whole tokens tree → IsNameless file tree.line fail → IsFailOf file text fail
  naming_fails tree (Refused r) w h = same file text r (broken 2 file 0 []) h.1 (t.has_tokens small are (t.no_name w.inside w.flat w.is h.0))
  naming_fails tree NoMemory w h = tt

  pub is_module : (tree : ModuleTree) (name : Bytes) → Whole tokens tree → HasName file tree.line → name ≡ name_of file tree.line → HasText file text (module_of name tokens tree)
  is_module tree name w has e = subst (λ (n : Bytes). HasText file text (module_of n tokens tree)) (sym e) (t.has_tokens small are (t.is_module w.inside w.flat w.is has))

-- ---- where the text was read as other bytes, and the file's place was made

-- an error that is handed on
pub handed_on : {A : Type 0} (file text : Bytes) (r : Result A Fail) (fail : Fail) → IsErrAnd r (λ other. other ≡ fail) → IsFailOf file text fail → IfErr r (λ other. IsFailOf file text other)
handed_on file text (Ok x) fail e h = absurd e
handed_on file text (Err other) fail e h = subst (λ (x : Fail). IsFailOf file text x) (sym e) h

pub on_lexing : (file text bytes : Bytes) (at : Place) (fail : Fail) → bytes ≡ text → at ≡ file_place file → length bytes ≤ 1048576 → IsFailure bytes at fail → IsFailOf file text fail
on_lexing file text bytes at fail e f small h =
    subst (λ (b : Bytes). IsFailOf file b fail) e (lexing_fails file bytes fail small (subst (λ (p : Place). IsFailure bytes p fail) f h))

module _ (file text bytes : Bytes) (at : Place) (tokens : List Token) (e : bytes ≡ text) (f : at ≡ file_place file) (small : length bytes ≤ 1048576) (are : IsTokens bytes tokens) where
  pub on_parsing : (fail : Fail) → IsAnswer IsModule (first_outside tokens) (first_past 256 tokens) tokens at (Err fail) → IsFailOf file text fail
  on_parsing fail h =
      let there = subst (λ (p : Place). IsAnswer IsModule (first_outside tokens) (first_past 256 tokens) tokens p (Err fail)) f h in
      subst (λ (b : Bytes). IsFailOf file b fail) e (parsing_fails file bytes tokens small are fail there)

  parsed : (tree : ModuleTree) → IsAnswer IsModule (first_outside tokens) (first_past 256 tokens) tokens at (Ok tree) → Whole tokens tree
  parsed tree h = whole file bytes tokens small are tree (subst (λ (p : Place). IsAnswer IsModule (first_outside tokens) (first_past 256 tokens) tokens p (Ok tree)) f h)

  pub on_naming : (tree : ModuleTree) (fail : Fail) → IsAnswer IsModule (first_outside tokens) (first_past 256 tokens) tokens at (Ok tree) → IsNameless file tree.line fail → IsFailOf file text fail
  on_naming tree fail h lacks = subst (λ (b : Bytes). IsFailOf file b fail) e (naming_fails file bytes tokens small are tree fail (parsed tree h) lacks)

  pub on_module : (tree : ModuleTree) (name : Bytes) → IsAnswer IsModule (first_outside tokens) (first_past 256 tokens) tokens at (Ok tree) → HasName file tree.line → name ≡ name_of file tree.line
      → HasText file text (module_of name tokens tree)
  on_module tree name h has named = subst (λ (b : Bytes). HasText file b (module_of name tokens tree)) e (is_module file bytes tokens small are tree name (parsed tree h) has named)

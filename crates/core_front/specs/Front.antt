-- What a module is resolved to, or the first rule that it breaks.
use Rattle.std.specs.Prelude.{◌==◌, ℕ, List, [], ◌∷◌, Option, Some, None, Ok, Err, if◌then◌else◌}
use Rattle.dc_types.specs.declared.place.Step.TheVariants.{At}
use Rattle.dc_types.specs.declared.refusal.Refusal.{Refusal}
use Rattle.dc_token.specs.declared.token.Token.{Token}
use Rattle.dc_ast.specs.declared.declaration.Declaration.{Declaration}
use Rattle.dc_ast.specs.declared.declaration.ModuleLine.{ModuleLine}
use Rattle.dc_ast.specs.declared.declaration.ModuleTree.{ModuleTree}
use Rattle.core_front.specs.Building.{Built}
use Rattle.core_front.specs.Programs.{program_of}
use Rattle.core_front.specs.Judging.{Judged}
use Rattle.core_front.specs.JudgingStatements.{resolved_of}
use Rattle.core_front.specs.declared.built.Program.{Program}
use Rattle.core_front.specs.declared.judged.Resolution.{Resolution}

-- the spelling of the first token that begins at an offset, or nothing where none does
abbrev pub spelling_at : List Token → ℕ → List ℕ
spelling_at [] offset = []
spelling_at (token ∷ tokens) offset = if token.start == offset then token.spelling else spelling_at tokens offset

-- the refusal of a form that isn't built yet, with the token that begins it
unfoldable pub unbuilt : List ℕ → List Token → ℕ → Refusal
unbuilt home tokens at = record { rule = 23; place = record { «module» = home; steps = At at ∷ [] }; detail = spelling_at tokens at }

-- A module whose forms are all built is judged by the rules of names, types and flow. Else it is refused at the first form
-- that isn't built.
abbrev pub by_built : List ℕ → List Token → Built Program → Judged Resolution
by_built home tokens (Err at) = Err (unbuilt home tokens at)
by_built home tokens (Ok program) = resolved_of (record { home = home; prints = program.prints; functions = program.functions })

-- a module's line isn't built yet
abbrev pub by_line : List ℕ → List Token → List Declaration → Option ModuleLine → Judged Resolution
by_line home tokens declarations (Some line) = Err (unbuilt home tokens line.at)
by_line home tokens declarations None = by_built home tokens (program_of declarations)

-- what the module of this name, with these tokens and this tree, is resolved to
unfoldable pub judged_of : List ℕ → List Token → ModuleTree → Judged Resolution
judged_of home tokens tree = by_line home tokens tree.declarations tree.line

-- Which modules are built so far: the import of `std.stdio`, which may stand first, and functions of numbers of type `int`.
use Rattle.std.specs.Prelude.{ℕ, Bool, true, false, not, ◌&&◌, ◌||◌, List, [], ◌∷◌, ◌++◌, Option, Some, None, Ok, Err, if◌then◌else◌, codes}
use Rattle.std.specs.Str.{bytes_eq}
use Rattle.dc_ast.specs.declared.name.Name.{Name}
use Rattle.dc_ast.specs.declared.word.Attribute.{Attribute}
use Rattle.dc_ast.specs.declared.word.BasicType.{BasicType}
use Rattle.dc_ast.specs.declared.word.BasicType.TheVariants as basic
use Rattle.dc_ast.specs.declared.types.TypeTree.{TypeTree}
use Rattle.dc_ast.specs.declared.statement.ImportTree.{ImportTree}
use Rattle.dc_ast.specs.declared.statement.ImportItem.{ImportItem}
use Rattle.dc_ast.specs.declared.declaration.FunctionTree.{FunctionTree}
use Rattle.dc_ast.specs.declared.declaration.Parameter.{Parameter as Written}
use Rattle.dc_ast.specs.declared.declaration.Declaration.{Declaration}
use Rattle.dc_ast.specs.declared.declaration.DeclarationKind.{DeclarationKind}
use Rattle.dc_ast.specs.declared.declaration.DeclarationForm.{DeclarationForm}
use Rattle.dc_ast.specs.declared.declaration.DeclarationBody.TheOpen.{DeclarationForm-F, DeclarationKind-F}
use Rattle.dc_ast.specs.declared.declaration.DeclarationBody.TheFolds.{fold-Declaration, fold-DeclarationForm, fold-DeclarationKind}
use Rattle.core_front.specs.declared.built.Parameter.{Parameter}
use Rattle.core_front.specs.declared.built.Function.{Function}
use Rattle.core_front.specs.declared.built.Program.{Program}
use Rattle.core_front.specs.Building.{Built, and_then, is_some, basic_type}
use Rattle.core_front.specs.Naming.{named, function_at}
use Rattle.core_front.specs.Statements.{is_int, stmts_of}

-- ---- functions

-- whether a function gives an `int`, or nothing; no other types are built
abbrev pub gives_by : Option BasicType → Option Bool
gives_by (Some basic.Int) = Some true
gives_by (Some basic.Void) = Some false
gives_by _ = None

unfoldable pub gives : Option TypeTree → Option Bool
gives None = None
gives (Some t) = gives_by (basic_type t)

abbrev pub is_none : {A : Type 0} → Option A → Bool
is_none None = true
is_none (Some x) = false

abbrev pub is_empty : {A : Type 0} → List A → Bool
is_empty [] = true
is_empty (x ∷ xs) = false

unfoldable pub parameter_of : Written → Built Parameter
parameter_of p = if not p.is_ref && (is_none p.storage && is_int (Some p.of)) then Ok (record { at = p.at; name = p.name }) else Err p.at

abbrev pub each_parameter : List Parameter → List Written → Built (List Parameter)
each_parameter all [] = Ok all
each_parameter all (p ∷ ps) = and_then (parameter_of p) (λ x. each_parameter (all ++ x ∷ []) ps)

-- no parameters of a template, no constraint, no attributes
unfoldable pub is_plain : FunctionTree → Bool
is_plain f = is_none f.template_parameters && (is_none f.constraint && is_empty f.attributes)

abbrev pub function_giving : ℕ → FunctionTree → Option Bool → Built Function
function_giving at f None = Err at
function_giving at f (Some int) =
    and_then (each_parameter [] f.parameters) (λ ps. and_then (stmts_of f.body) (λ xs.
    Ok (record { at = at; gives_int = int; name = f.name; parameters = ps; body = xs })))

unfoldable pub function_of : ℕ → FunctionTree → Built Function
function_of at f = if is_plain f then function_giving at f (gives f.result) else Err at

-- A second function of one name isn't built yet. No two functions of a text stand at one place.
unfoldable pub function_in : ℕ → FunctionTree → Program → Built Program
function_in at f p =
    if is_some (named f.name.spelling p.functions) || is_some (function_at at p.functions) then Err at
    else and_then (function_of at f) (λ x. Ok (record p { functions = p.functions ++ x ∷ [] }))

-- ---- the import

abbrev pub is_path : List Name → Bool
is_path (a ∷ b ∷ []) = bytes_eq a.spelling (codes "std") && bytes_eq b.spelling (codes "stdio")
is_path _ = false

abbrev pub is_item : List ImportItem → Bool
is_item (i ∷ []) = is_none i.renamed && is_path i.path
is_item _ = false

-- `import std.stdio;`
unfoldable pub is_stdio : ImportTree → Bool
is_stdio i = not i.is_static && (is_empty i.binds && is_item i.items)

abbrev pub is_fresh : Program → Bool
is_fresh p = not p.prints && is_empty p.functions

unfoldable pub import_in : ℕ → ImportTree → Program → Built Program
import_in at i p = if is_fresh p && is_stdio i then Ok (record p { prints = true }) else Err at

-- ---- declarations, which add to the program so far

abbrev pub Adds : Type 0
Adds = Program → Built Program

abbrev pub kind_adds : DeclarationKind-F ℕ (ℕ → Adds) (ℕ → Adds) ℕ Adds ℕ Adds ℕ ℕ → ℕ → Adds
kind_adds (DeclarationKind-F.Import i) at p = import_in at i p
kind_adds (DeclarationKind-F.Function f) at p = function_in at f p
kind_adds _ at p = Err at

abbrev pub form_by : List Attribute → Adds → ℕ → Adds
form_by [] adds at p = adds p
form_by (x ∷ xs) adds at p = Err at

abbrev pub form_adds : DeclarationForm-F ℕ (ℕ → Adds) (ℕ → Adds) ℕ Adds ℕ Adds ℕ ℕ → ℕ → Adds
form_adds (DeclarationForm-F.Plain attributes adds) at p = form_by attributes adds at p
form_adds _ at p = Err at

abbrev pub declaration_adds : Declaration → Adds
declaration_adds = fold-Declaration ℕ (ℕ → Adds) (ℕ → Adds) ℕ Adds ℕ Adds ℕ ℕ
    (λ _. 0) form_adds kind_adds (λ _. 0) (λ d. d.form d.at) (λ _. 0) (λ x. x.kind x.at) (λ _. 0) (λ _. 0)

abbrev pub form_of : DeclarationForm → ℕ → Adds
form_of = fold-DeclarationForm ℕ (ℕ → Adds) (ℕ → Adds) ℕ Adds ℕ Adds ℕ ℕ
    (λ _. 0) form_adds kind_adds (λ _. 0) (λ d. d.form d.at) (λ _. 0) (λ x. x.kind x.at) (λ _. 0) (λ _. 0)

abbrev pub kind_of : DeclarationKind → ℕ → Adds
kind_of = fold-DeclarationKind ℕ (ℕ → Adds) (ℕ → Adds) ℕ Adds ℕ Adds ℕ ℕ
    (λ _. 0) form_adds kind_adds (λ _. 0) (λ d. d.form d.at) (λ _. 0) (λ x. x.kind x.at) (λ _. 0) (λ _. 0)

unfoldable pub adds : Declaration → Adds
adds d = declaration_adds d

abbrev pub program_from : Program → List Declaration → Built Program
program_from p [] = Ok p
program_from p (d ∷ ds) = and_then (adds d p) (λ q. program_from q ds)

abbrev pub no_program : Program
no_program = record { prints = false; functions = [] }

-- what the declarations of a module are built as
abbrev pub program_of : List Declaration → Built Program
program_of ds = program_from no_program ds

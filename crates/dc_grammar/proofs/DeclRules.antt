-- Declarations are read, one level up; functions before them.
use Rattle.std.proofs.Common.{◌≡◌, ℕ, Bool, true, false, List, [], ◌∷◌, ◌++◌, length, Option, Some, None, refl, sym, ap, ◌∙◌, append_assoc, arith, inl, inr, length-append}
use Rattle.dc_ast.specs.declared.word.Attribute.{Attribute}
use Rattle.dc_ast.specs.declared.word.Storage.{Storage}
use Rattle.dc_ast.specs.declared.name.Name.{Name}
use Rattle.dc_ast.specs.declared.expression.Expr.{Expr}
use Rattle.dc_ast.specs.declared.types.TypeTree.{TypeTree}
use Rattle.dc_ast.specs.declared.statement.Stmt.{Stmt}
use Rattle.dc_ast.specs.declared.statement.Variable.{Variable}
use Rattle.dc_ast.specs.declared.statement.VariableTree.{VariableTree}
use Rattle.dc_ast.specs.declared.statement.TemplateParameter.{TemplateParameter}
use Rattle.dc_ast.specs.declared.declaration.Declaration.{Declaration}
use Rattle.dc_ast.specs.declared.declaration.DeclarationForm.{DeclarationForm}
use Rattle.dc_ast.specs.declared.declaration.DeclarationKind.{DeclarationKind}
use Rattle.dc_ast.specs.declared.declaration.DeclarationKind.TheVariants as t
use Rattle.dc_ast.specs.declared.declaration.Plain.{Plain}
use Rattle.dc_ast.specs.declared.declaration.DeclarationBranch.{DeclarationBranch}
use Rattle.dc_ast.specs.declared.declaration.DeclarationBody.{DeclarationBody}
use Rattle.dc_ast.specs.declared.declaration.FunctionTree.{FunctionTree}
use Rattle.dc_ast.specs.declared.declaration.Parameter.{Parameter}
use Rattle.dc_grammar.specs.declared.terminal.Terminal.{Terminal}
use Rattle.dc_grammar.specs.declared.terminal.Terminal.TheVariants as k
use Rattle.dc_grammar.specs.Terminals.{Tokens, ahead, terminal_of, same_terminal}
use Rattle.dc_grammar.specs.Words.{storage, visibility}
use Rattle.dc_grammar.specs.MoreTrees.{function}
use Rattle.dc_grammar.specs.Grammar.{Mark, Means, Id, IsExpr}
use Rattle.dc_grammar.specs.Shapes as s
use Rattle.dc_grammar.specs.Shapes.{Optional, Several, After, Listed}
use Rattle.dc_grammar.specs.Parts as p
use Rattle.dc_grammar.specs.Parts.{Head, IsPath, IsAttribute, IsImported, IsImport, AreTemplateParameters, IsEnum, IsConstant, IsAlias, IsOne, IsKind, IsVariable, AreParameters, IsStaticTest, IsStaticRange, IsStaticAssert}
use Rattle.dc_grammar.specs.Statements.{AreStmts}
use Rattle.dc_grammar.specs.Declarations as g
use Rattle.dc_grammar.specs.Declarations.{IsResult, IsFunction, IsDecl, IsDeclForm, IsPlain, IsPlainKind, AreDecls, AreDeclBranches, IsDeclBody}
use Rattle.dc_grammar.specs.Reading.{Outcome, ◌<$>◌}
use Rattle.dc_grammar.specs.PartReaders.{enumeration}
use Rattle.dc_grammar.specs.StmtReaders.{in_braces, whole_stmt}
use Rattle.dc_grammar.specs.DeclReaders as spec
use Rattle.dc_grammar.specs.DeclReaders.{closed}
use Rattle.dc_grammar.proofs.Good.{Good, Holds, Marked, Pair, none, or, is, given_by, mark_good}
use Rattle.dc_grammar.proofs.Choices.{Or, apart, within}
use Rattle.dc_grammar.proofs.Tools.{pair, seq, loose_seq, narrow, Image, image, rule, lower, Over, prefer}
use Rattle.dc_grammar.proofs.Shapes.{optional_good, same_end}
use Rattle.dc_grammar.proofs.Laws.{every_type}
use Rattle.dc_grammar.proofs.Edges.{begins_type}
use Rattle.dc_grammar.proofs.PartRules.{begins_attribute, attribute_good, attributes_good, head_good, template_parameters_good}
use Rattle.dc_grammar.proofs.NamedRules.{over_none, enumeration_good, manifest_good, enum_not, alias_read_good, begins_named, Strictly, strictly_good, strict_not_stored, begins_variable, variable_good, parameters_good, same_close}
use Rattle.dc_grammar.proofs.TypeFirst.{mark_is2, begins_head, clash, nexts_head}
use Rattle.dc_grammar.proofs.Fronts.{Front, front_on, front_of, front_mark, head_front, import_front, test_front, range_front, check_front}
use Rattle.dc_grammar.proofs.Open.{Ends, open_of, FBraces, braces_good}
use Rattle.dc_grammar.proofs.StmtRules.{begins_stmt, stmts_into, stmts_back, Flagged}
use Rattle.dc_grammar.proofs.StmtLevels.{stmt_ends}

-- ---- the statements of a function

pub every_stmt : (n : ℕ) → Ends n open_of begins_stmt Flagged whole_stmt
every_stmt n = record {
  sound = λ ts. (stmt_ends (length ts)).sound ts;
  reach = λ front v rest len h. (stmt_ends (length (front ++ rest))).reach front v rest (omega (arith, length-append front rest)) h;
  begins = (stmt_ends n).begins;
}

block_good : (n : ℕ) → Good n none (is k.LeftBrace) (FBraces AreStmts) (in_braces whole_stmt)
unfolding same_terminal
block_good n = lower (braces_good (every_stmt n) AreStmts stmts_into stmts_back refl refl)

-- ---- functions

abbrev FTemplateSignature : Tokens → Option (List TemplateParameter) × List Parameter → Type 0
FTemplateSignature = Image (λ z. (Some z.0, z.1)) (Pair AreTemplateParameters AreParameters)

abbrev FPlainSignature : Tokens → Option (List TemplateParameter) × List Parameter → Type 0
FPlainSignature = Image (λ z. (None, z)) AreParameters

abbrev Signature : Tokens → Option (List TemplateParameter) × List Parameter → Type 0
Signature = Or FTemplateSignature FPlainSignature

template_signature_good : (n : ℕ) → Good n (is k.LeftParen) (is k.LeftParen) FTemplateSignature spec.template_signature
unfolding spec.template_signature same_terminal
template_signature_good n = narrow (image (λ z. (Some z.0, z.1)) (seq (template_parameters_good n) (parameters_good n) (omega arith) refl)) (is k.LeftParen) (is k.LeftParen) refl refl

plain_signature_good : (n : ℕ) → Good n none (is k.LeftParen) FPlainSignature spec.plain_signature
plain_signature_good n = image (λ z. (None, z)) (parameters_good n)

-- parameters of a template are read only where other parameters follow
signature_over : (front : Tokens) (x : Option (List TemplateParameter) × List Parameter) (rest : Tokens) → FPlainSignature front x → Over (is k.LeftParen) (spec.template_signature (front ++ rest)) rest
unfolding same_terminal
signature_over front x rest (ps, h, eq) = go (spec.template_signature (front ++ rest)) ((template_signature_good 0).sound (front ++ rest))
  where
    go : (r : Outcome (Option (List TemplateParameter) × List Parameter)) → Holds FTemplateSignature (front ++ rest) r → Over (is k.LeftParen) r rest
    go None f = tt
    go (Some r) f =
        let q = f.is.1 in
        let same : q.right ++ r.1 ≡ rest = same_close q.left front (q.right ++ r.1) rest f.is.0.0 ps q.one h (sym (append_assoc q.left q.right r.1) ∙ ap (λ (ts : Tokens). ts ++ r.1) (sym q.parts) ∙ sym f.parts) in
        let b = (parameters_good 0).begins q.right f.is.0.1 q.two in
        (rw (← same) (omega (arith, length-append q.right r.1)), rw (← same, b.parts) b.kind)

signature_good : (n : ℕ) → Good n (is k.LeftParen) (is k.LeftParen) Signature spec.signature
unfolding spec.signature same_terminal
signature_good n = narrow (prefer (template_signature_good n) (plain_signature_good n) refl signature_over) (is k.LeftParen) (is k.LeftParen) refl refl

abbrev FFunction : Tokens → FunctionTree → Type 0
FFunction = Image (λ z. function z.0.0 z.0.1 z.1.0.0 z.1.0.1 z.1.1.0 z.1.1.1.0 z.1.1.1.1) (Pair Strictly (Pair Signature (Pair (Several IsAttribute) (Pair (Optional (Head k.If)) (FBraces AreStmts)))))

function_from : (w1 w2 w3 w4 w5 w6 w7 w8 w9 : Tokens) (ty : Option TypeTree) (n : Name) (ts : Option (List TemplateParameter)) (ps : List Parameter) (xs : List Attribute) (x : Option Expr) (ss : List Stmt) → IsResult w1 ty → Id w2 n
    → Optional AreTemplateParameters w3 ts → AreParameters w4 ps → Several IsAttribute w5 xs → Optional (Head k.If) w6 x → Mark k.LeftBrace w7 → AreStmts w8 ss → Mark k.RightBrace w9
    → IsFunction ((w1 ++ w2) ++ ((w3 ++ w4) ++ (w5 ++ (w6 ++ (w7 ++ (w8 ++ w9)))))) (function ty n ts ps xs x ss)
function_from w1 w2 w3 w4 w5 w6 w7 w8 w9 ty n ts ps xs x ss h1 h2 h3 h4 h5 h6 h7 h8 h9 =
    rw (append_assoc w1 w2 ((w3 ++ w4) ++ (w5 ++ (w6 ++ (w7 ++ (w8 ++ w9))))), append_assoc w3 w4 (w5 ++ (w6 ++ (w7 ++ (w8 ++ w9))))) (g.a_function h1 h2 h3 h4 h5 h6 h7 h8 h9)

result_of : (w : Tokens) (z : Option TypeTree × Name) → Strictly w z → (u : Tokens) × (v : Tokens) × (w ≡ u ++ v) × IsResult u z.0 × Id v z.1
result_of w z (inl (n, h, eq)) = rw (← eq) (go w n h)
  where
    go : (w : Tokens) (n : Name) → After k.Auto Id w n → (u : Tokens) × (v : Tokens) × (w ≡ u ++ v) × IsResult u None × Id v n
    go w n (s.after {w1 = w1} {w2 = w2} m i) = (w1, w2, refl, g.auto_result m, i)
result_of w z (inr (y, q, eq)) = rw (← eq) (q.left, q.right, q.parts, g.type_result q.one, q.two)

function_into : (ts : Tokens) (x : FunctionTree) → FFunction ts x → IsFunction ts x
function_into ts x (z, q, eq) = rw (← eq, q.parts, q.two.parts, q.two.two.parts, q.two.two.two.parts) (ends z.1.1.1.1 q.two.two.two.right q.two.two.two.two)
  where
    result : (w : Tokens) (v : Option TypeTree × Name) → (u : Tokens) × (u2 : Tokens) × (w ≡ u ++ u2) × IsResult u v.0 × Id u2 v.1 → (sg : Option (List TemplateParameter) × List Parameter) (a b : Tokens) → Optional AreTemplateParameters a sg.0 → AreParameters b sg.1
        → (c1 c2 c3 : Tokens) (ss : List Stmt) → Mark k.LeftBrace c1 → AreStmts c2 ss → Mark k.RightBrace c3
        → IsFunction (w ++ ((a ++ b) ++ (q.two.two.left ++ (q.two.two.two.left ++ (c1 ++ (c2 ++ c3)))))) (function v.0 v.1 sg.0 sg.1 z.1.1.0 z.1.1.1.0 ss)
    result w v (u1, u2, parts, h1, h2) sg a b h3 h4 c1 c2 c3 ss h7 h8 h9 =
        rw parts (function_from u1 u2 a b q.two.two.left q.two.two.two.left c1 c2 c3 v.0 v.1 sg.0 sg.1 z.1.1.0 z.1.1.1.0 ss h1 h2 h3 h4 q.two.two.one q.two.two.two.one h7 h8 h9)

    signed : (w : Tokens) (sg : Option (List TemplateParameter) × List Parameter) → Signature w sg → (c1 c2 c3 : Tokens) (ss : List Stmt) → Mark k.LeftBrace c1 → AreStmts c2 ss → Mark k.RightBrace c3
        → IsFunction (q.left ++ (w ++ (q.two.two.left ++ (q.two.two.two.left ++ (c1 ++ (c2 ++ c3)))))) (function z.0.0 z.0.1 sg.0 sg.1 z.1.1.0 z.1.1.1.0 ss)
    signed w sg (inl (y, r, same)) c1 c2 c3 ss h7 h8 h9 = rw (← same, r.parts) (result q.left z.0 (result_of q.left z.0 q.one) (Some y.0, y.1) r.left r.right (s.present r.one) r.two c1 c2 c3 ss h7 h8 h9)
    signed w sg (inr (y, h, same)) c1 c2 c3 ss h7 h8 h9 = rw (← same) (result q.left z.0 (result_of q.left z.0 q.one) (None, y) [] w s.absent h c1 c2 c3 ss h7 h8 h9)

    ends : (ss : List Stmt) (w : Tokens) → FBraces AreStmts w ss → IsFunction (q.left ++ (q.two.left ++ (q.two.two.left ++ (q.two.two.two.left ++ w)))) (function z.0.0 z.0.1 z.1.0.0 z.1.0.1 z.1.1.0 z.1.1.1.0 ss)
    ends ss w (y, b, same) = rw (← same, b.parts, b.two.parts) (signed q.two.left z.1.0 q.two.one b.left b.two.left b.two.right y.1.0 b.one b.two.one b.two.two)

function_back : (ts : Tokens) (x : FunctionTree) → IsFunction ts x → FFunction ts x
function_back ts x (g.a_function {w1 = w1} {w2 = w2} {w3 = w3} {w4 = w4} {w5 = w5} {w6 = w6} {w7 = w7} {w8 = w8} {w9 = w9} {t = ty} {n = n} {ts = tps} {ps = ps} {xs = xs} {x = y} {ss = ss} h1 h2 h3 h4 h5 h6 h7 h8 h9) =
    rw (← append_assoc w3 w4 (w5 ++ (w6 ++ (w7 ++ (w8 ++ w9)))), ← append_assoc w1 w2 ((w3 ++ w4) ++ (w5 ++ (w6 ++ (w7 ++ (w8 ++ w9)))))) (
      ((ty, n), ((tps, ps), (xs, (y, ss)))),
      pair (w1 ++ w2) ((w3 ++ w4) ++ (w5 ++ (w6 ++ (w7 ++ (w8 ++ w9))))) (result w1 ty h1) (pair (w3 ++ w4) (w5 ++ (w6 ++ (w7 ++ (w8 ++ w9)))) (signed w3 tps h3) (pair w5 (w6 ++ (w7 ++ (w8 ++ w9))) h5
          (pair w6 (w7 ++ (w8 ++ w9)) h6 ((tt, (ss, tt)), pair w7 (w8 ++ w9) h7 (pair w8 w9 h8 h9), refl)))),
      refl,
    )
  where
    result : (w1 : Tokens) (ty : Option TypeTree) → IsResult w1 ty → Strictly (w1 ++ w2) (ty, n)
    result w1 ty (g.auto_result m) = inl (n, s.after m h2, refl)
    result w1 ty (g.type_result {t = u} h) = inr ((u, n), pair w1 w2 h h2, refl)

    signed : (w3 : Tokens) (tps : Option (List TemplateParameter)) → Optional AreTemplateParameters w3 tps → Signature (w3 ++ w4) (tps, ps)
    signed w3 tps s.absent = inr (ps, h4, refl)
    signed w3 tps (s.present {x = u} h) = inl ((u, ps), pair w3 w4 h h4, refl)

pub function_good : (n : ℕ) → Good n none begins_named IsFunction spec.function_read
unfolding spec.function_read same_terminal
function_good n = rule (image (λ z. function z.0.0 z.0.1 z.1.0.0 z.1.0.1 z.1.1.0 z.1.1.1.0 z.1.1.1.1) (seq (strictly_good n) (seq (signature_good n) (loose_seq (attributes_good n) (loose_seq (optional_good (head_good n k.If)) (block_good n) refl) refl) (omega arith) refl) (omega arith) refl))
    none begins_named IsFunction spec.function_read (λ ts. refl) function_into function_back refl refl

-- no text begins as a function and as a variable
function_apart : (v w r u : Tokens) (x : FunctionTree) (y : VariableTree) → IsFunction v x → IsVariable w y → v ++ r ≡ w ++ u → ⊥
unfolding same_terminal
function_apart v w r u x y f (p.a_variable {w1 = w1} {w2 = w2} {w3 = w3} {s = st} {t = ty} {vs = vs} kind all semi) e = listed_case w2 vs all (e ∙ append_assoc w1 (w2 ++ w3) u ∙ ap (λ (ts : Tokens). w1 ++ ts) (append_assoc w2 w3 u))
  where
    -- what stands behind the name
    ending : (a b : Tokens) (n : Option Expr) (more : List Variable) → Optional (After k.Equals IsExpr) a n → Several (After k.Comma IsOne) b more → or (is k.Equals) (or (is k.Comma) (is k.Semicolon)) (ahead (a ++ (b ++ (w3 ++ u)))) ≡ true
    ending a b n more s.absent others = within (or (is k.Comma) (is k.Semicolon)) (or (is k.Equals) (or (is k.Comma) (is k.Semicolon))) refl (ahead (b ++ (w3 ++ u))) (nexts_head k.Semicolon b w3 u more others semi)
    ending a b n more (s.present {x = z} h) others = go a z h
      where
        go : (a : Tokens) (z : Expr) → After k.Equals IsExpr a z → or (is k.Equals) (or (is k.Comma) (is k.Semicolon)) (ahead (a ++ (b ++ (w3 ++ u)))) ≡ true
        go a z (s.after {w1 = a1} {w2 = a2} m h) = within (is k.Equals) (or (is k.Equals) (or (is k.Comma) (is k.Semicolon))) refl (ahead ((a1 ++ a2) ++ (b ++ (w3 ++ u)))) (mark_is2 k.Equals a1 a2 (b ++ (w3 ++ u)) m)

    -- the head of the function, and its first bracket
    strict : (q : Tokens) (z : Option TypeTree × Name) (rest : Tokens) → Strictly q z → or (is k.Equals) (or (is k.Comma) (is k.Semicolon)) (ahead rest) ≡ true → v ++ r ≡ q ++ rest → ⊥
    strict q z rest h stop e =
        let d = function_back v x f in
        let c = d.1 in
        let b = (signature_good 0).begins c.two.left d.0.1.0 c.two.one in
        let text : c.left ++ (c.right ++ r) ≡ q ++ rest = sym (append_assoc c.left c.right r) ∙ ap (λ (ts : Tokens). ts ++ r) (sym c.parts) ∙ e in
        let ends = same_end strictly_good c.left q (c.right ++ r) rest d.0.0 z c.one h text refl refl in
        let paren : is k.LeftParen (ahead (c.right ++ r)) ≡ true = rw (c.two.parts, b.parts) b.kind in
        clash (is k.LeftParen) (or (is k.Equals) (or (is k.Comma) (is k.Semicolon))) refl (ahead (c.right ++ r)) (ahead rest) (ap ahead ends.1) paren stop

    word : (a rest : Tokens) (c : Storage) → Means storage a c → is k.LeftParen (ahead rest) ≡ false → v ++ r ≡ a ++ rest → ⊥
    word a rest c m off e =
        let d = function_back v x f in
        let q = d.1 in
        strict_not_stored q.left (q.right ++ r) a rest d.0.0 c q.one m off (sym (append_assoc q.left q.right r) ∙ ap (λ (ts : Tokens). ts ++ r) (sym q.parts) ∙ e)

    by_kind : (a1 a2 b : Tokens) (n : Name) (val : Option Expr) (more : List Variable) → Id a1 n → Optional (After k.Equals IsExpr) a2 val → Several (After k.Comma IsOne) b more → (w1 : Tokens) (st : Option Storage) (ty : Option TypeTree) → IsKind w1 st ty
        → v ++ r ≡ w1 ++ (a1 ++ (a2 ++ (b ++ (w3 ++ u)))) → ⊥
    by_kind a1 a2 b n val more i h others w1 st ty (p.of_type {t = z} c) e = strict (w1 ++ a1) (Some z, n) (a2 ++ (b ++ (w3 ++ u))) (inr ((z, n), pair w1 a1 c i, refl)) (ending a2 b val more h others) (e ∙ sym (append_assoc w1 a1 (a2 ++ (b ++ (w3 ++ u)))))
    by_kind a1 a2 b n val more i h others w1 st ty (p.of_value m) e = strict (w1 ++ a1) (None, n) (a2 ++ (b ++ (w3 ++ u))) (inl (n, s.after m i, refl)) (ending a2 b val more h others) (e ∙ sym (append_assoc w1 a1 (a2 ++ (b ++ (w3 ++ u)))))
    by_kind a1 a2 b n val more i h others w1 st ty (p.stored_type {w1 = c1} {w2 = c2} {s = c} {t = z} m h2) e =
        word c1 (c2 ++ (a1 ++ (a2 ++ (b ++ (w3 ++ u))))) c m (apart begins_type (is k.LeftParen) refl (ahead (c2 ++ (a1 ++ (a2 ++ (b ++ (w3 ++ u)))))) (begins_head begins_type c2 (a1 ++ (a2 ++ (b ++ (w3 ++ u)))) ((every_type 0).begins c2 z h2))) (e ∙ append_assoc c1 c2 (a1 ++ (a2 ++ (b ++ (w3 ++ u)))))
    by_kind a1 a2 b n val more i h others w1 st ty (p.stored_value {w1 = c1} {w2 = c2} {s = c} m h2) e =
        word c1 (c2 ++ (a1 ++ (a2 ++ (b ++ (w3 ++ u))))) c m (rw (h2.alone, h2.is) refl) (e ∙ append_assoc c1 c2 (a1 ++ (a2 ++ (b ++ (w3 ++ u)))))
    by_kind a1 a2 b n val more i h others w1 st ty (p.stored {s = c} m) e = word w1 (a1 ++ (a2 ++ (b ++ (w3 ++ u)))) c m (rw (i.alone, i.is) refl) e

    one_case : (b1 b2 : Tokens) (first : Variable) (more : List Variable) → IsOne b1 first → Several (After k.Comma IsOne) b2 more → v ++ r ≡ w1 ++ ((b1 ++ b2) ++ (w3 ++ u)) → ⊥
    one_case b1 b2 first more (p.one {w1 = a1} {w2 = a2} {n = n} {x = val} i h) others e = by_kind a1 a2 b2 n val more i h others w1 st ty kind (e ∙ ap (λ (ts : Tokens). w1 ++ ts) (group a1 a2 b2 (w3 ++ u)))
      where
        group : (a b c d : Tokens) → ((a ++ b) ++ c) ++ d ≡ a ++ (b ++ (c ++ d))
        group a b c d = simp append_assoc

    listed_case : (w2 : Tokens) (vs : List Variable) → Listed IsOne w2 vs → v ++ r ≡ w1 ++ (w2 ++ (w3 ++ u)) → ⊥
    listed_case w2 vs (s.listed {w1 = b1} {w2 = b2} {x = first} {xs = more} single others) e = one_case b1 b2 first more single others e

function_not : (front : Tokens) (y : VariableTree) (rest : Tokens) → IsVariable front y → spec.function_read (front ++ rest) ≡ None
function_not front y rest h = go (spec.function_read (front ++ rest)) ((function_good 0).sound (front ++ rest))
  where
    go : (r : Outcome FunctionTree) → Holds IsFunction (front ++ rest) r → r ≡ None
    go (Some r) f = absurd (function_apart f.front front r.1 rest r.0 y f.is h (sym f.parts))
    go None f = refl

-- ---- declarations without declarations in them

abbrev pub Kinds : Tokens → Bool × DeclarationKind → Type 0
Kinds ts v = IsPlainKind v.0 ts v.1

abbrev pub FMixin : Tokens → Bool × DeclarationKind → Type 0
FMixin = Image (λ z. closed (t.Mixin z.0)) (Pair (Head k.Mixin) (Marked k.Semicolon))

pub mixin_good : (n : ℕ) → Good n none (is k.Mixin) FMixin spec.mixin_decl
unfolding spec.mixin_decl same_terminal
mixin_good n = image (λ z. closed (t.Mixin z.0)) (seq (head_good n k.Mixin) (mark_good n k.Semicolon) (omega arith) refl)

abbrev pub FEnum : Tokens → Bool × DeclarationKind → Type 0
FEnum = Or (Image (λ x. closed (t.Enum x)) IsEnum) (Image (λ x. closed (t.Constant x)) IsConstant)

pub enum_good : (n : ℕ) → Good n none (is k.Enum) FEnum spec.enum_decl
unfolding spec.enum_decl same_terminal
enum_good n = narrow (prefer (image (λ x. closed (t.Enum x)) (enumeration_good n)) (image (λ x. closed (t.Constant x)) (manifest_good n)) refl
    (λ front y rest h. over_none none (((λ x. closed (t.Enum x)) <$> enumeration) (front ++ rest)) rest (rw (enum_not front h.0 rest h.1) refl))) none (is k.Enum) refl refl

pub enum_into : (w : Tokens) (v : Bool × DeclarationKind) → FEnum w v → Kinds w v
enum_into w v (inl (x, h, eq)) = rw (← eq) (g.enum_decl h)
enum_into w v (inr (x, h, eq)) = rw (← eq) (g.constant_decl h)

abbrev pub FNamed : Tokens → Bool × DeclarationKind → Type 0
FNamed = Or (Image (λ x. closed (t.Function x)) IsFunction) (Image (λ x. closed (t.Variable x)) IsVariable)

pub named_good : (n : ℕ) → Good n none begins_variable FNamed spec.typed_decl
unfolding spec.typed_decl same_terminal
named_good n = narrow (prefer (image (λ x. closed (t.Function x)) (function_good n)) (image (λ x. closed (t.Variable x)) (variable_good n)) refl
    (λ front y rest h. over_none none (((λ x. closed (t.Function x)) <$> spec.function_read) (front ++ rest)) rest (rw (function_not front h.0 rest h.1) refl))) none begins_variable refl refl

pub named_into : (w : Tokens) (v : Bool × DeclarationKind) → FNamed w v → Kinds w v
named_into w v (inl (x, h, eq)) = rw (← eq) (g.function_decl h)
named_into w v (inr (x, h, eq)) = rw (← eq) (g.variable_decl h)

-- ---- what a declaration begins with

abbrev pub begins_plain : Terminal → Bool
begins_plain k.Import = true
begins_plain k.Enum = true
begins_plain k.Alias = true
begins_plain k.Struct = true
begins_plain k.Template = true
begins_plain k.Static = true
begins_plain k.Version = true
begins_plain k.Mixin = true
begins_plain x = begins_variable x

abbrev pub begins_decl : Terminal → Bool
begins_decl k.Semicolon = true
begins_decl x = or begins_attribute begins_plain x

pub branches_front : (o : Bool) (w : Tokens) (bs : List DeclarationBranch) (last : Option DeclarationBody) → AreDeclBranches o w bs last → Front begins_plain w
branches_front o w bs last (g.decl_alone {w1 = w1} {w2 = w2} {x = x} h c) = front_on begins_plain w1 w2 (test_front begins_plain w1 x refl refl h)
branches_front o w bs last (g.decl_else {w1 = w1} {w2 = w2} {w3 = w3} {w4 = w4} {x = x} h c m q off) = front_on begins_plain w1 (w2 ++ (w3 ++ w4)) (test_front begins_plain w1 x refl refl h)
branches_front o w bs last (g.decl_more {w1 = w1} {w2 = w2} {w3 = w3} {w4 = w4} {x = x} h c m q) = front_on begins_plain w1 (w2 ++ (w3 ++ w4)) (test_front begins_plain w1 x refl refl h)

pub kind_front : (o : Bool) (w : Tokens) (x : DeclarationKind) → IsPlainKind o w x → Front begins_plain w
unfolding same_terminal
kind_front o w x (g.import_decl {x = y} h) = import_front begins_plain w y refl refl h
kind_front o w x (g.enum_decl {x = y} h) = front_of begins_plain (is k.Enum) w ((enumeration_good 0).begins w y h) refl refl
kind_front o w x (g.constant_decl {x = y} h) = front_of begins_plain (is k.Enum) w ((manifest_good 0).begins w y h) refl refl
kind_front o w x (g.alias_decl {x = y} h) = front_of begins_plain (is k.Alias) w ((alias_read_good 0).begins w y h) refl refl
kind_front o w x (g.struct_decl {w1 = w1} {w2 = w2} {w3 = w3} {w4 = w4} {w5 = w5} m h2 h3 h4 h5) = front_mark begins_plain k.Struct w1 (w2 ++ (w3 ++ (w4 ++ w5))) m refl refl
kind_front o w x (g.struct_template {w1 = w1} {w2 = w2} {w3 = w3} {w4 = w4} {w5 = w5} {w6 = w6} {w7 = w7} m h2 h3 h4 h5 h6 h7) = front_mark begins_plain k.Struct w1 (w2 ++ (w3 ++ (w4 ++ (w5 ++ (w6 ++ w7))))) m refl refl
kind_front o w x (g.template_decl {w1 = w1} {w2 = w2} {w3 = w3} {w4 = w4} {w5 = w5} {w6 = w6} {w7 = w7} m h2 h3 h4 h5 h6 h7) = front_mark begins_plain k.Template w1 (w2 ++ (w3 ++ (w4 ++ (w5 ++ (w6 ++ w7))))) m refl refl
kind_front o w x (g.function_decl {x = y} h) = front_of begins_plain begins_named w ((function_good 0).begins w y h) refl refl
kind_front o w x (g.variable_decl {x = y} h) = front_of begins_plain begins_variable w ((variable_good 0).begins w y h) refl refl
kind_front o w x (g.conditional_decl {bs = bs} {last = last} h) = branches_front o w bs last h
kind_front o w x (g.foreach_decl {w1 = w1} {w2 = w2} {r = r} h c) = front_on begins_plain w1 w2 (range_front begins_plain w1 r refl h)
kind_front o w x (g.assert_decl {x = y} h) = check_front begins_plain w y refl h
kind_front o w x (g.mixin_decl {w1 = w1} {w2 = w2} {x = y} h m) = head_front begins_plain k.Mixin w1 w2 y h refl refl

pub plain_front : (o : Bool) (w : Tokens) (x : Plain) → IsPlain o w x → Front begins_plain w
plain_front o w x (g.a_plain {x = y} h) = kind_front o w y h

in_decl : (w : Tokens) → Front begins_plain w → Front begins_decl w
unfolding same_terminal
in_decl w f = record { head = f.head; tail = f.tail; parts = f.parts; kind = within begins_plain begins_decl refl (terminal_of f.head) f.kind; two = f.two }

attributes_front : (w v : Tokens) (xs : List Attribute) → Several IsAttribute w xs → Front begins_decl v → Front begins_decl (w ++ v)
unfolding same_terminal
attributes_front w v xs s.finished f = f
attributes_front w v xs (s.several {w1 = w1} {w2 = w2} {x = x} h others) f =
    rw (append_assoc w1 w2 v) (front_on begins_decl w1 (w2 ++ v) (front_of begins_decl begins_attribute w1 ((attribute_good 0).begins w1 x h) refl refl))

pub form_front : (o : Bool) (w : Tokens) (x : DeclarationForm) → IsDeclForm o w x → Front begins_decl w
unfolding same_terminal
form_front o w x (g.plain_decl {w1 = w1} {w2 = w2} {xs = xs} {x = y} h c) = attributes_front w1 w2 xs h (in_decl w2 (plain_front o w2 y c))
form_front o w x (g.group_decl {w1 = w1} {w2 = w2} {w3 = w3} {w4 = w4} {a = a} {xs = xs} h h2 h3 h4) = go w1 (a ∷ xs) h refl
  where
    go : (w1 : Tokens) (ys : List Attribute) → Several IsAttribute w1 ys → ys ≡ a ∷ xs → Front begins_decl (w1 ++ (w2 ++ (w3 ++ w4)))
    go w1 ys s.finished eq = absurd cc
    go w1 ys (s.several {w1 = v1} {w2 = v2} {x = y} one others) eq = rw (append_assoc v1 v2 (w2 ++ (w3 ++ w4))) (front_on begins_decl v1 (v2 ++ (w2 ++ (w3 ++ w4))) (front_of begins_decl begins_attribute v1 ((attribute_good 0).begins v1 y one) refl refl))
form_front o w x (g.section_decl {w1 = w1} {w2 = w2} {v = v} m c) = record {
  head = m.token;
  tail = w2;
  parts = ap (λ (ts : Tokens). ts ++ w2) m.alone;
  kind = within (given_by visibility) begins_decl refl (terminal_of m.token) (rw m.means refl);
  two = λ eq. let off : visibility k.Static ≡ Some v = rw eq at m.means in absurd cc;
}
form_front o w x (g.empty_decl m) = record { head = m.token; tail = []; parts = m.alone; kind = rw m.is refl; two = λ eq. let off : k.Semicolon ≡ k.Static = sym m.is ∙ eq in absurd cc }

pub decl_front : (o : Bool) (w : Tokens) (x : Declaration) → IsDecl o w x → Front begins_decl w
decl_front o w x (g.a_decl {x = y} h) = form_front o w y h

-- Enums, aliases, variables and parameters are read.
use Rattle.std.proofs.Common.{◌≡◌, ℕ, Bool, true, false, List, [], ◌∷◌, ◌++◌, Option, Some, None, refl, sym, ap, ◌∙◌, append_assoc, arith, inl, inr}
use Rattle.dc_ast.specs.declared.word.Storage.{Storage}
use Rattle.dc_ast.specs.declared.name.Name.{Name}
use Rattle.dc_ast.specs.declared.expression.Expr.{Expr}
use Rattle.dc_ast.specs.declared.types.TypeTree.{TypeTree}
use Rattle.dc_ast.specs.declared.statement.ForStart.{ForStart}
use Rattle.dc_ast.specs.declared.statement.ForStart.TheVariants as start
use Rattle.dc_ast.specs.declared.statement.Variable.{Variable}
use Rattle.dc_ast.specs.declared.statement.VariableTree.{VariableTree}
use Rattle.dc_ast.specs.declared.statement.EnumTree.{EnumTree}
use Rattle.dc_ast.specs.declared.statement.EnumMember.{EnumMember}
use Rattle.dc_ast.specs.declared.statement.ConstantTree.{ConstantTree}
use Rattle.dc_ast.specs.declared.statement.AliasTree.{AliasTree}
use Rattle.dc_ast.specs.declared.statement.TemplateParameter.{TemplateParameter}
use Rattle.dc_ast.specs.declared.declaration.Parameter.{Parameter}
use Rattle.dc_grammar.specs.declared.terminal.Terminal.{Terminal}
use Rattle.dc_grammar.specs.declared.terminal.Terminal.TheVariants as k
use Rattle.dc_grammar.specs.Terminals.{Tokens, ahead, start_of, terminal_of, same_terminal}
use Rattle.dc_grammar.specs.Words.{storage}
use Rattle.dc_grammar.specs.MoreTrees.{variable, variables, enum_tree, constant, alias_tree, parameter}
use Rattle.dc_grammar.specs.Grammar.{Mark, Means, Id, IsExpr, IsType, IsArgument}
use Rattle.dc_grammar.specs.Shapes as s
use Rattle.dc_grammar.specs.Shapes.{Optional, Several, After, Listed, Perhaps, Flag}
use Rattle.dc_grammar.specs.Parts as g
use Rattle.dc_grammar.specs.Parts.{IsTemplateParameter, AreTemplateParameters, IsMember, IsEnum, IsConstant, IsAlias, IsOne, IsKind, IsVariable, IsParameter, AreParameters, IsForStart}
use Rattle.dc_grammar.specs.Reading.{Outcome, either, ◌<$>◌, from_start}
use Rattle.dc_grammar.specs.PartReaders as spec
use Rattle.dc_grammar.specs.PartReaders.{after, next, listed, some_listed, flag}
use Rattle.dc_grammar.proofs.Good.{Good, Holds, Marked, Pair, none, or, is, given_by, mark_good, means_good}
use Rattle.dc_grammar.proofs.Lists.{refused}
use Rattle.dc_grammar.proofs.Choices.{Or, apart}
use Rattle.dc_grammar.proofs.Tools.{pair, seq, loose_seq, one_of, narrow, Image, image, rule, lower, or_none, Placed, placed, Over, prefer}
use Rattle.dc_grammar.proofs.Shapes.{optional_good, after_good, some_listed_good, nexts_good, flag_good, same_end, list_then}
use Rattle.dc_grammar.proofs.Arguments.{id_good}
use Rattle.dc_grammar.proofs.Laws.{every_expr, every_type}
use Rattle.dc_grammar.proofs.Edges.{after_expr, after_type, begins_expr, begins_type}
use Rattle.dc_grammar.proofs.PartRules.{after_typed, FTyped, Typed, typed_good, type_name_good, maybe_typed_good, begins_template_parameter, template_parameter_good, template_parameters_good, value_good, enum_member_good, one_good}
use Rattle.dc_grammar.proofs.TypeFirst.{behind, name_head, means_head, begins_head, clash, is_kind, mark_is, mark_is2, mark_is3, begins_head2, optional_head, nexts_head, no_both, whole_argument_good, type_head, head_not_stored}

-- what can't be read is over nothing
pub over_none : {A : Type 0} (e : Terminal → Bool) (r : Outcome A) (rest : Tokens) → r ≡ None → Over e r rest
over_none e r rest eq = rw eq tt

-- ---- enums

next_member_good : (n : ℕ) → Good n after_expr (is k.Comma) (After k.Comma IsMember) spec.next_member
unfolding spec.next_member
next_member_good n = lower (after_good k.Comma (enum_member_good n))

abbrev FMembersEnd : Tokens → List EnumMember × (Bool × Unit {0}) → Type 0
FMembersEnd = Pair (Several (After k.Comma IsMember)) (Pair (Flag k.Comma) (Marked k.RightBrace))

abbrev FMembers : Tokens → List EnumMember → Type 0
FMembers = Image (λ z. z.1.0 ∷ z.1.1.0) (Pair (Marked k.LeftBrace) (Pair IsMember FMembersEnd))

-- no member begins at the closing brace, or at the comma before it
no_member : (front : Tokens) (y : Bool × Unit {0}) (rest : Tokens) → Pair (Flag k.Comma) (Marked k.RightBrace) front y → spec.next_member (front ++ rest) ≡ None
unfolding spec.next_member same_terminal
no_member front y rest p = go p.left y.0 p.one p.parts
  where
    go : (w : Tokens) (c : Bool) → Flag k.Comma w c → front ≡ w ++ p.right → spec.next_member (front ++ rest) ≡ None
    go w c s.no_flag parts = rw (parts, p.two.alone, p.two.is) refl
    go w c (s.flag m) parts =
        let none : spec.enum_member (p.right ++ rest) ≡ None = refused (enum_member_good 0) (p.right ++ rest) (rw (p.two.alone, p.two.is) refl) in
        rw (parts, m.alone, m.is, none) refl

members_good : (n : ℕ) → Good n none (is k.LeftBrace) FMembers spec.members
unfolding spec.members same_terminal
members_good n = image (λ z. z.1.0 ∷ z.1.1.0) (seq (mark_good n k.LeftBrace) (seq (enum_member_good n)
    (list_then (next_member_good n) (apart (is k.Comma) after_expr refl) (narrow (loose_seq (flag_good n k.Comma) (mark_good n k.RightBrace) refl) none (or (is k.Comma) (is k.RightBrace)) refl refl) (apart (or (is k.Comma) (is k.RightBrace)) after_expr refl) no_member)
    (omega arith) refl) (omega arith) refl)

base_type_good : (n : ℕ) → Good n after_type (is k.Colon) (After k.Colon IsType) spec.base_type
unfolding spec.base_type
base_type_good n = lower (after_good k.Colon (every_type n))

abbrev FEnum : Tokens → EnumTree → Type 0
FEnum = Image (λ z. enum_tree z.1.0 z.1.1.0 z.1.1.1) (Pair (Marked k.Enum) (Pair (Optional Id) (Pair (Optional (After k.Colon IsType)) FMembers)))

enum_into : (ts : Tokens) (x : EnumTree) → FEnum ts x → IsEnum ts x
enum_into ts x (z, p, eq) = rw (← eq, p.parts, p.two.parts, p.two.two.parts) (go z.1.1.1 p.two.two.right p.two.two.two)
  where
    go : (ms : List EnumMember) (w : Tokens) → FMembers w ms → IsEnum (p.left ++ (p.two.left ++ (p.two.two.left ++ w))) (enum_tree z.1.0 z.1.1.0 ms)
    go ms w (y, m, same) = rw (← same, m.parts, m.two.parts, m.two.two.parts, m.two.two.two.parts, ← append_assoc m.two.left m.two.two.left (m.two.two.two.left ++ m.two.two.two.right)) (g.an_enum p.one p.two.one p.two.two.one m.one (s.listed m.two.one m.two.two.one) m.two.two.two.one m.two.two.two.two)

enum_back : (ts : Tokens) (x : EnumTree) → IsEnum ts x → FEnum ts x
enum_back ts x (g.an_enum {w1 = w1} {w2 = w2} {w3 = w3} {w4 = w4} {w5 = w5} {w6 = w6} {w7 = w7} {n = y} {t = t} {ms = ms} {comma = c} h1 h2 h3 h4 h5 h6 h7) = go w5 ms h5
  where
    go : (w5 : Tokens) (ms : List EnumMember) → Listed IsMember w5 ms → FEnum (w1 ++ (w2 ++ (w3 ++ (w4 ++ (w5 ++ (w6 ++ w7)))))) (enum_tree y t ms)
    go w5 ms (s.listed {w1 = v1} {w2 = v2} {x = u} {xs = us} one others) =
        rw (append_assoc v1 v2 (w6 ++ w7)) (
          (tt, (y, (t, u ∷ us))),
          pair w1 (w2 ++ (w3 ++ (w4 ++ (v1 ++ (v2 ++ (w6 ++ w7)))))) h1 (pair w2 (w3 ++ (w4 ++ (v1 ++ (v2 ++ (w6 ++ w7))))) h2 (pair w3 (w4 ++ (v1 ++ (v2 ++ (w6 ++ w7)))) h3
              ((tt, (u, (us, (c, tt)))), pair w4 (v1 ++ (v2 ++ (w6 ++ w7))) h4 (pair v1 (v2 ++ (w6 ++ w7)) one (pair v2 (w6 ++ w7) others (pair w6 w7 h6 h7))), refl))),
          refl,
        )

pub enumeration_good : (n : ℕ) → Good n none (is k.Enum) IsEnum spec.enumeration
unfolding spec.enumeration same_terminal
enumeration_good n = rule (image (λ z. enum_tree z.1.0 z.1.1.0 z.1.1.1) (seq (mark_good n k.Enum) (loose_seq (optional_good (id_good n)) (loose_seq (optional_good (base_type_good n)) (members_good n) refl) refl) (omega arith) refl))
    none (is k.Enum) IsEnum spec.enumeration (λ ts. refl) enum_into enum_back refl refl

abbrev FConstant : Tokens → ConstantTree → Type 0
FConstant = Image (λ z. constant z.1.0.0 z.1.0.1 z.1.1.0 z.1.1.1.1.0) (Pair (Marked k.Enum) (Pair Typed (Pair (Optional AreTemplateParameters) (Pair (Marked k.Equals) (Pair IsExpr (Marked k.Semicolon))))))

constant_into : (ts : Tokens) (x : ConstantTree) → FConstant ts x → IsConstant ts x
constant_into ts x (z, p, eq) =
    let t = p.two.one in
    rw (← eq, p.parts, p.two.parts, t.parts, p.two.two.parts, p.two.two.two.parts, p.two.two.two.two.parts, append_assoc) (g.a_constant p.one t.one t.two p.two.two.one p.two.two.two.one p.two.two.two.two.one p.two.two.two.two.two)

constant_back : (ts : Tokens) (x : ConstantTree) → IsConstant ts x → FConstant ts x
constant_back ts x (g.a_constant {w1 = w1} {w2 = w2} {w3 = w3} {w4 = w4} {w5 = w5} {w6 = w6} {w7 = w7} {t = t} {n = y} {ps = ps} {x = v} h1 h2 h3 h4 h5 h6 h7) =
    rw (← append_assoc w2 w3 (w4 ++ (w5 ++ (w6 ++ w7)))) ((tt, ((t, y), (ps, (tt, (v, tt))))), pair w1 ((w2 ++ w3) ++ (w4 ++ (w5 ++ (w6 ++ w7)))) h1 (pair (w2 ++ w3) (w4 ++ (w5 ++ (w6 ++ w7))) (pair w2 w3 h2 h3) (pair w4 (w5 ++ (w6 ++ w7)) h4 (pair w5 (w6 ++ w7) h5 (pair w6 w7 h6 h7)))), refl)

pub manifest_good : (n : ℕ) → Good n none (is k.Enum) IsConstant spec.manifest
unfolding spec.manifest same_terminal
manifest_good n = rule (image (λ z. constant z.1.0.0 z.1.0.1 z.1.1.0 z.1.1.1.1.0)
    (seq (mark_good n k.Enum) (seq (maybe_typed_good n) (loose_seq (optional_good (template_parameters_good n)) (seq (mark_good n k.Equals) (seq (every_expr n) (mark_good n k.Semicolon) (omega arith) refl) (omega arith) refl) refl) (omega arith) refl) (omega arith) refl))
    none (is k.Enum) IsConstant spec.manifest (λ ts. refl) constant_into constant_back refl refl

-- no text begins as both
enum_apart : (v w r t : Tokens) (x : EnumTree) (y : ConstantTree) → IsEnum v x → IsConstant w y → v ++ r ≡ w ++ t → ⊥
unfolding same_terminal
enum_apart v w r t x y (g.an_enum {w1 = v1} {w2 = v2} {w3 = v3} {w4 = v4} {w5 = v5} {w6 = v6} {w7 = v7} {n = n} {t = base} h1 h2 h3 h4 h5 h6 h7)
    (g.a_constant {w1 = w1} {w2 = w2} {w3 = w3} {w4 = w4} {w5 = w5} {w6 = w6} {w7 = w7} {t = u} {n = m} {ps = ps} c1 c2 c3 c4 c5 c6 c7) e = go v2 n h2 inside
  where
    left : Tokens
    left = (v5 ++ (v6 ++ v7)) ++ r

    right : Tokens
    right = (w6 ++ w7) ++ t

    inside : v2 ++ (v3 ++ (v4 ++ left)) ≡ w2 ++ (w3 ++ (w4 ++ (w5 ++ right)))
    inside = behind k.Enum k.Enum v1 w1 (v2 ++ (v3 ++ (v4 ++ left))) (w2 ++ (w3 ++ (w4 ++ (w5 ++ right)))) h1 c1 (sym (group v1 v2 v3 v4 (v5 ++ (v6 ++ v7)) r) ∙ e ∙ group2 w1 w2 w3 w4 w5 (w6 ++ w7) t)
      where
        group : (a1 a2 a3 a4 b d : Tokens) → (a1 ++ (a2 ++ (a3 ++ (a4 ++ b)))) ++ d ≡ a1 ++ (a2 ++ (a3 ++ (a4 ++ (b ++ d))))
        group a1 a2 a3 a4 b d = simp append_assoc

        group2 : (a1 a2 a3 a4 a5 b d : Tokens) → (a1 ++ (a2 ++ (a3 ++ (a4 ++ (a5 ++ b))))) ++ d ≡ a1 ++ (a2 ++ (a3 ++ (a4 ++ (a5 ++ (b ++ d)))))
        group2 a1 a2 a3 a4 a5 b d = simp append_assoc

    body : or (is k.Colon) (is k.LeftBrace) (ahead (v3 ++ (v4 ++ left))) ≡ true
    body = optional_head (base_type_good 0) k.LeftBrace v3 v4 left base h3 h4

    value : or (is k.LeftParen) (is k.Equals) (ahead (w4 ++ (w5 ++ right))) ≡ true
    value = optional_head (template_parameters_good 0) k.Equals w4 w5 right ps c4 c5

    named : begins_type (ahead ((w2 ++ w3) ++ (w4 ++ (w5 ++ right)))) ≡ true
    named = begins_head begins_type (w2 ++ w3) (w4 ++ (w5 ++ right)) ((maybe_typed_good 0).begins (w2 ++ w3) (u, m) (pair w2 w3 c2 c3))

    go : (v2 : Tokens) (n : Option Name) → Optional Id v2 n → v2 ++ (v3 ++ (v4 ++ left)) ≡ w2 ++ (w3 ++ (w4 ++ (w5 ++ right))) → ⊥
    go v2 n s.absent e = clash (or (is k.Colon) (is k.LeftBrace)) begins_type refl _ _ (ap ahead (e ∙ sym (append_assoc w2 w3 (w4 ++ (w5 ++ right))))) body named
    go v2 n (s.present {x = z} i) e =
        let ends = same_end maybe_typed_good v2 (w2 ++ w3) (v3 ++ (v4 ++ left)) (w4 ++ (w5 ++ right)) (None, z) (u, m) (pair [] v2 s.absent i) (pair w2 w3 c2 c3) (e ∙ sym (append_assoc w2 w3 (w4 ++ (w5 ++ right))))
        (apart (or (is k.Colon) (is k.LeftBrace)) after_typed refl (ahead (v3 ++ (v4 ++ left))) body) (apart (or (is k.LeftParen) (is k.Equals)) after_typed refl (ahead (w4 ++ (w5 ++ right))) value) in
        clash (or (is k.Colon) (is k.LeftBrace)) (or (is k.LeftParen) (is k.Equals)) refl _ _ (ap ahead ends.1) body value

pub enum_not : (front : Tokens) (y : ConstantTree) (rest : Tokens) → IsConstant front y → spec.enumeration (front ++ rest) ≡ None
enum_not front y rest h = go (spec.enumeration (front ++ rest)) ((enumeration_good 0).sound (front ++ rest))
  where
    go : (r : Outcome EnumTree) → Holds IsEnum (front ++ rest) r → r ≡ None
    go (Some r) f = absurd (enum_apart f.front front r.1 rest r.0 y f.is h (sym f.parts))
    go None f = refl

-- ---- aliases

abbrev pub FAliasRead : Tokens → AliasTree → Type 0
FAliasRead = Image (λ z. alias_tree z.1.0 z.1.1.0 z.1.1.1.1.0) (Pair (Marked k.Alias) (Pair Id (Pair (Optional AreTemplateParameters) (Pair (Marked k.Equals) (Pair IsArgument (Marked k.Semicolon))))))

alias_read_into : (ts : Tokens) (x : AliasTree) → FAliasRead ts x → IsAlias ts x
alias_read_into ts x (z, p, eq) = rw (← eq, p.parts, p.two.parts, p.two.two.parts, p.two.two.two.parts, p.two.two.two.two.parts) (g.an_alias p.one p.two.one p.two.two.one p.two.two.two.one p.two.two.two.two.one p.two.two.two.two.two)

alias_read_back : (ts : Tokens) (x : AliasTree) → IsAlias ts x → FAliasRead ts x
alias_read_back ts x (g.an_alias {w1 = w1} {w2 = w2} {w3 = w3} {w4 = w4} {w5 = w5} {w6 = w6} {n = y} {ps = ps} {x = v} h1 h2 h3 h4 h5 h6) = ((tt, (y, (ps, (tt, (v, tt))))), pair w1 (w2 ++ (w3 ++ (w4 ++ (w5 ++ w6)))) h1 (pair w2 (w3 ++ (w4 ++ (w5 ++ w6))) h2 (pair w3 (w4 ++ (w5 ++ w6)) h3 (pair w4 (w5 ++ w6) h4 (pair w5 w6 h5 h6)))), refl)

pub alias_read_good : (n : ℕ) → Good n none (is k.Alias) IsAlias spec.alias_read
unfolding spec.alias_read same_terminal
alias_read_good n = rule (image (λ z. alias_tree z.1.0 z.1.1.0 z.1.1.1.1.0) (seq (mark_good n k.Alias) (seq (id_good n) (loose_seq (optional_good (template_parameters_good n)) (seq (mark_good n k.Equals) (seq (whole_argument_good n) (mark_good n k.Semicolon) (omega arith) refl) (omega arith) refl) refl) (omega arith) refl) (omega arith) refl)) none (is k.Alias) IsAlias spec.alias_read (λ ts. refl) alias_read_into alias_read_back refl refl

-- ---- variables

abbrev FAuto : Tokens → Option TypeTree × Name → Type 0
FAuto = Image (λ n. (None, n)) (After k.Auto Id)

auto_name_good : (n : ℕ) → Good n none (is k.Auto) FAuto spec.auto_name
unfolding spec.auto_name
auto_name_good n = image (λ n. (None, n)) (lower (after_good k.Auto (id_good n)))

abbrev pub begins_named : Terminal → Bool
begins_named = or (is k.Auto) begins_type

abbrev pub Loosely : Tokens → Option TypeTree × Name → Type 0
Loosely = Or FAuto Typed

abbrev pub Strictly : Tokens → Option TypeTree × Name → Type 0
Strictly = Or FAuto FTyped

loosely_same : (ts : Tokens) → spec.loosely ts ≡ (either spec.auto_name spec.maybe_typed) ts
unfolding spec.loosely spec.auto_name same_terminal
loosely_same [] = refl
loosely_same (t ∷ ts) = go (terminal_of t) refl
  where
    go : (kind : Terminal) → terminal_of t ≡ kind → spec.loosely_by kind (t ∷ ts) ≡ (either spec.auto_name spec.maybe_typed) (t ∷ ts)
    go k.Auto eq = rw (refused (maybe_typed_good 0) (t ∷ ts) (rw eq refl)) (rw eq (sym (or_none _)))
    go _ eq = rw eq refl

strictly_same : (ts : Tokens) → spec.strictly ts ≡ (either spec.auto_name spec.typed) ts
unfolding spec.strictly spec.auto_name same_terminal
strictly_same [] = refl
strictly_same (t ∷ ts) = go (terminal_of t) refl
  where
    go : (kind : Terminal) → terminal_of t ≡ kind → spec.strictly_by kind (t ∷ ts) ≡ (either spec.auto_name spec.typed) (t ∷ ts)
    go k.Auto eq = rw (refused (typed_good 0) (t ∷ ts) (rw eq refl)) (rw eq (sym (or_none _)))
    go _ eq = rw eq refl

loosely_good : (n : ℕ) → Good n after_typed begins_named Loosely spec.loosely
unfolding same_terminal
loosely_good n = rule (one_of (auto_name_good n) (maybe_typed_good n) refl) after_typed begins_named Loosely spec.loosely loosely_same (λ ts x h. h) (λ ts x h. h) refl refl

pub strictly_good : (n : ℕ) → Good n none begins_named Strictly spec.strictly
unfolding same_terminal
strictly_good n = rule (one_of (auto_name_good n) (typed_good n) refl) none begins_named Strictly spec.strictly strictly_same (λ ts x h. h) (λ ts x h. h) refl refl

abbrev pub FVariableEnd : Tokens → Option Expr × List Variable → Type 0
FVariableEnd = Image (λ z. (z.0, z.1.0)) (Pair (Optional (After k.Equals IsExpr)) (Pair (Several (After k.Comma IsOne)) (Marked k.Semicolon)))

abbrev pub begins_variable_end : Terminal → Bool
begins_variable_end = or (is k.Equals) (or (is k.Comma) (is k.Semicolon))

variable_end_good : (n : ℕ) → Good n none begins_variable_end FVariableEnd spec.variable_end
unfolding spec.variable_end spec.next_one same_terminal
variable_end_good n = narrow (image (λ z. (z.0, z.1.0)) (loose_seq (optional_good (value_good n)) (loose_seq (nexts_good (one_good n) refl) (mark_good n k.Semicolon) refl) refl)) none begins_variable_end refl refl

abbrev pub FStored : Tokens → VariableTree → Type 0
FStored = Image (λ z. variables (Some z.0) z.1.0.0 (variable z.1.0.1 z.1.1.0 ∷ z.1.1.1)) (Pair (Means storage) (Pair Loosely FVariableEnd))

abbrev pub FPlain : Tokens → VariableTree → Type 0
FPlain = Image (λ z. variables None z.0.0 (variable z.0.1 z.1.0 ∷ z.1.1)) (Pair Strictly FVariableEnd)

stored_good : (n : ℕ) → Good n none (given_by storage) FStored spec.stored_variable
unfolding spec.stored_variable same_terminal
stored_good n = image (λ z. variables (Some z.0) z.1.0.0 (variable z.1.0.1 z.1.1.0 ∷ z.1.1.1)) (seq (means_good n storage) (seq (loosely_good n) (variable_end_good n) (omega arith) refl) (omega arith) refl)

plain_good : (n : ℕ) → Good n none begins_named FPlain spec.plain_variable
unfolding spec.plain_variable same_terminal
plain_good n = image (λ z. variables None z.0.0 (variable z.0.1 z.1.0 ∷ z.1.1)) (seq (strictly_good n) (variable_end_good n) (omega arith) refl)

-- a word of a storage class before what begins with a type is no `immutable(`
pub strict_not_stored : (w r v t : Tokens) (z : Option TypeTree × Name) (x : Storage) → Strictly w z → Means storage v x → is k.LeftParen (ahead t) ≡ false → w ++ r ≡ v ++ t → ⊥
unfolding same_terminal
strict_not_stored w r v t z x (inl (n, h, eq)) m off e = go w n h e
  where
    go : (w : Tokens) (n : Name) → After k.Auto Id w n → w ++ r ≡ v ++ t → ⊥
    go w n (s.after {w1 = w1} {w2 = w2} a i) e = clash (is k.Auto) (given_by storage) refl _ _ (ap ahead e) (mark_is2 k.Auto w1 w2 r a) (means_head storage x v t m)
strict_not_stored w r v t z x (inr (y, p, eq)) m off e =
    head_not_stored p.left (p.right ++ r) v t x (type_head p.left y.0 p.one) m off (sym (append_assoc p.left p.right r) ∙ ap (λ (ts : Tokens). ts ++ r) (sym p.parts) ∙ e)

stored_not : (front : Tokens) (y : VariableTree) (rest : Tokens) → FPlain front y → spec.stored_variable (front ++ rest) ≡ None
unfolding same_terminal
stored_not front y rest (z, p, eq) = go (spec.stored_variable (front ++ rest)) ((stored_good 0).sound (front ++ rest))
  where
    go : (r : Outcome VariableTree) → Holds FStored (front ++ rest) r → r ≡ None
    go None h = refl
    go (Some r) h =
        let c = h.is.1 in
        let text : p.left ++ (p.right ++ rest) ≡ c.left ++ (c.right ++ r.1) = sym (append_assoc p.left p.right rest) ∙ ap (λ (ts : Tokens). ts ++ rest) (sym p.parts) ∙ h.parts ∙ ap (λ (ts : Tokens). ts ++ r.1) c.parts ∙ append_assoc c.left c.right r.1 in
        let b = (loosely_good 0).begins c.two.left h.is.0.1.0 c.two.one in
        let head : begins_named (ahead (c.right ++ r.1)) ≡ true = rw (c.two.parts, b.parts) b.kind in
        absurd (strict_not_stored p.left (p.right ++ rest) c.left (c.right ++ r.1) z.0 h.is.0.0 p.one c.one (apart begins_named (is k.LeftParen) refl (ahead (c.right ++ r.1)) head) text)

variable_from : (w1 w2 w3 w4 w5 : Tokens) (st : Option Storage) (t : Option TypeTree) (n : Name) (v : Option Expr) (more : List Variable) → IsKind w1 st t → Id w2 n → Optional (After k.Equals IsExpr) w3 v
    → Several (After k.Comma IsOne) w4 more → Mark k.Semicolon w5 → IsVariable (w1 ++ (w2 ++ (w3 ++ (w4 ++ w5)))) (variables st t (variable n v ∷ more))
variable_from w1 w2 w3 w4 w5 st t n v more kind i value others semi = rw (← group w1 w2 w3 w4 w5) (g.a_variable kind (s.listed (g.one i value) others) semi)
  where
    group : (a b c d e : Tokens) → a ++ (((b ++ c) ++ d) ++ e) ≡ a ++ (b ++ (c ++ (d ++ e)))
    group a b c d e = simp append_assoc

variable_into : (ts : Tokens) (x : VariableTree) → Or FStored FPlain ts x → IsVariable ts x
variable_into ts x (inl (z, p, eq)) = rw (← eq, p.parts, p.two.parts) (go z.1.0 p.two.left p.two.one z.1.1 p.two.right p.two.two)
  where
    go : (u : Option TypeTree × Name) (w : Tokens) → Loosely w u → (e : Option Expr × List Variable) (v : Tokens) → FVariableEnd v e → IsVariable (p.left ++ (w ++ v)) (variables (Some z.0) u.0 (variable u.1 e.0 ∷ e.1))
    go u w (inl (n, h, same)) e v (y, c, eq2) = rw (← same, ← eq2, c.parts, c.two.parts) (auto w n h)
      where
        auto : (w : Tokens) (n : Name) → After k.Auto Id w n → IsVariable (p.left ++ (w ++ (c.left ++ (c.two.left ++ c.two.right)))) (variables (Some z.0) None (variable n y.0 ∷ y.1.0))
        auto w n (s.after {w1 = w1} {w2 = w2} m i) =
            rw (append_assoc w1 w2 (c.left ++ (c.two.left ++ c.two.right)), ← append_assoc p.left w1 (w2 ++ (c.left ++ (c.two.left ++ c.two.right)))) (variable_from (p.left ++ w1) w2 c.left c.two.left c.two.right (Some z.0) None n y.0 y.1.0 (g.stored_value p.one m) i c.one c.two.one c.two.two)
    go u w (inr q) e v (y, c, eq2) = rw (← eq2, c.parts, c.two.parts, q.parts) (typed u.0 q.left q.one)
      where
        typed : (t : Option TypeTree) (w1 : Tokens) → Optional IsType w1 t → IsVariable (p.left ++ ((w1 ++ q.right) ++ (c.left ++ (c.two.left ++ c.two.right)))) (variables (Some z.0) t (variable u.1 y.0 ∷ y.1.0))
        typed t w1 s.absent = variable_from p.left q.right c.left c.two.left c.two.right (Some z.0) None u.1 y.0 y.1.0 (g.stored p.one) q.two c.one c.two.one c.two.two
        typed t w1 (s.present {x = d} h) =
            rw (append_assoc w1 q.right (c.left ++ (c.two.left ++ c.two.right)), ← append_assoc p.left w1 (q.right ++ (c.left ++ (c.two.left ++ c.two.right)))) (variable_from (p.left ++ w1) q.right c.left c.two.left c.two.right (Some z.0) (Some d) u.1 y.0 y.1.0 (g.stored_type p.one h) q.two c.one c.two.one c.two.two)
variable_into ts x (inr (z, p, eq)) = rw (← eq, p.parts) (go z.0 p.left p.one z.1 p.right p.two)
  where
    go : (u : Option TypeTree × Name) (w : Tokens) → Strictly w u → (e : Option Expr × List Variable) (v : Tokens) → FVariableEnd v e → IsVariable (w ++ v) (variables None u.0 (variable u.1 e.0 ∷ e.1))
    go u w (inl (n, h, same)) e v (y, c, eq2) = rw (← same, ← eq2, c.parts, c.two.parts) (auto w n h)
      where
        auto : (w : Tokens) (n : Name) → After k.Auto Id w n → IsVariable (w ++ (c.left ++ (c.two.left ++ c.two.right))) (variables None None (variable n y.0 ∷ y.1.0))
        auto w n (s.after {w1 = w1} {w2 = w2} m i) = rw (append_assoc w1 w2 (c.left ++ (c.two.left ++ c.two.right))) (variable_from w1 w2 c.left c.two.left c.two.right None None n y.0 y.1.0 (g.of_value m) i c.one c.two.one c.two.two)
    go u w (inr (d, q, same)) e v (y, c, eq2) = rw (← same, ← eq2, c.parts, c.two.parts, q.parts, append_assoc q.left q.right (c.left ++ (c.two.left ++ c.two.right)))
        (variable_from q.left q.right c.left c.two.left c.two.right None (Some d.0) d.1 y.0 y.1.0 (g.of_type q.one) q.two c.one c.two.one c.two.two)

end_from : (w3 w4 w5 : Tokens) (v : Option Expr) (more : List Variable) → Optional (After k.Equals IsExpr) w3 v → Several (After k.Comma IsOne) w4 more → Mark k.Semicolon w5 → FVariableEnd (w3 ++ (w4 ++ w5)) (v, more)
end_from w3 w4 w5 v more h c m = ((v, (more, tt)), pair w3 (w4 ++ w5) h (pair w4 w5 c m), refl)

variable_back : (ts : Tokens) (x : VariableTree) → IsVariable ts x → Or FStored FPlain ts x
variable_back ts x (g.a_variable {w1 = w1} {w2 = w2} {w3 = w3} {s = st} {t = t} {vs = vs} kind all semi) = listed_case w2 vs all
  where
    group : (a b c d e : Tokens) → a ++ (((b ++ c) ++ d) ++ e) ≡ a ++ (b ++ (c ++ (d ++ e)))
    group a b c d e = simp append_assoc

    by_kind : (u1 u2 u3 : Tokens) (n : Name) (v : Option Expr) (more : List Variable) → Id u1 n → Optional (After k.Equals IsExpr) u2 v → Several (After k.Comma IsOne) u3 more → (w1 : Tokens) (st : Option Storage) (t : Option TypeTree)
        → IsKind w1 st t → Or FStored FPlain (w1 ++ (u1 ++ (u2 ++ (u3 ++ w3)))) (variables st t (variable n v ∷ more))
    by_kind u1 u2 u3 n v more i value others w1 st t (g.of_type {t = y} h) =
        inr (((Some y, n), (v, more)), rw (← append_assoc w1 u1 (u2 ++ (u3 ++ w3))) (pair (w1 ++ u1) (u2 ++ (u3 ++ w3)) (inr ((y, n), pair w1 u1 h i, refl)) (end_from u2 u3 w3 v more value others semi)), refl)
    by_kind u1 u2 u3 n v more i value others w1 st t (g.of_value m) =
        inr (((None, n), (v, more)), rw (← append_assoc w1 u1 (u2 ++ (u3 ++ w3))) (pair (w1 ++ u1) (u2 ++ (u3 ++ w3)) (inl (n, s.after m i, refl)) (end_from u2 u3 w3 v more value others semi)), refl)
    by_kind u1 u2 u3 n v more i value others w1 st t (g.stored_type {w1 = a1} {w2 = a2} {s = c} {t = y} m h) =
        inl ((c, ((Some y, n), (v, more))), rw (append_assoc a1 a2 (u1 ++ (u2 ++ (u3 ++ w3))), ← append_assoc a2 u1 (u2 ++ (u3 ++ w3))) (pair a1 ((a2 ++ u1) ++ (u2 ++ (u3 ++ w3))) m (pair (a2 ++ u1) (u2 ++ (u3 ++ w3)) (inr (pair a2 u1 (s.present h) i)) (end_from u2 u3 w3 v more value others semi))), refl)
    by_kind u1 u2 u3 n v more i value others w1 st t (g.stored_value {w1 = a1} {w2 = a2} {s = c} m h) =
        inl ((c, ((None, n), (v, more))), rw (append_assoc a1 a2 (u1 ++ (u2 ++ (u3 ++ w3))), ← append_assoc a2 u1 (u2 ++ (u3 ++ w3))) (pair a1 ((a2 ++ u1) ++ (u2 ++ (u3 ++ w3))) m (pair (a2 ++ u1) (u2 ++ (u3 ++ w3)) (inl (n, s.after h i, refl)) (end_from u2 u3 w3 v more value others semi))), refl)
    by_kind u1 u2 u3 n v more i value others w1 st t (g.stored {s = c} m) =
        inl ((c, ((None, n), (v, more))), pair w1 (u1 ++ (u2 ++ (u3 ++ w3))) m (pair u1 (u2 ++ (u3 ++ w3)) (inr (pair [] u1 s.absent i)) (end_from u2 u3 w3 v more value others semi)), refl)

    one_case : (b1 b2 : Tokens) (first : Variable) (more : List Variable) → IsOne b1 first → Several (After k.Comma IsOne) b2 more → Or FStored FPlain (w1 ++ ((b1 ++ b2) ++ w3)) (variables st t (first ∷ more))
    one_case b1 b2 first more (g.one {w1 = u1} {w2 = u2} {n = n} {x = v} i value) others = rw (group w1 u1 u2 b2 w3) (by_kind u1 u2 b2 n v more i value others w1 st t kind)

    listed_case : (w2 : Tokens) (vs : List Variable) → Listed IsOne w2 vs → Or FStored FPlain (w1 ++ (w2 ++ w3)) (variables st t vs)
    listed_case w2 vs (s.listed {w1 = b1} {w2 = b2} {x = first} {xs = more} single others) = one_case b1 b2 first more single others

abbrev pub begins_variable : Terminal → Bool
begins_variable = or (given_by storage) begins_named

pub variable_good : (n : ℕ) → Good n none begins_variable IsVariable spec.variable_read
unfolding spec.variable_read same_terminal
variable_good n = rule (prefer (stored_good n) (plain_good n) refl (λ front y rest h. over_none none (spec.stored_variable (front ++ rest)) rest (stored_not front y rest h))) none begins_variable IsVariable spec.variable_read (λ ts. refl) variable_into variable_back refl refl

-- an expression and a semicolon don't begin a variable
pub variable_apart : (w r u v t : Tokens) (y : VariableTree) (x : Expr) → IsVariable w y → IsExpr u x → Mark k.Semicolon v → w ++ r ≡ u ++ (v ++ t) → ⊥
unfolding same_terminal
variable_apart w r u v t y x (g.a_variable {w1 = w1} {w2 = w2} {w3 = w3} {s = st} {t = ty} {vs = vs} kind all semi2) hx semi e = go w1 st ty kind (regroup w1 w2 w3 r ∙ e)
  where
    regroup : (a b c d : Tokens) → a ++ ((b ++ c) ++ d) ≡ (a ++ (b ++ c)) ++ d
    regroup a b c d = sym (append_assoc a (b ++ c) d)

    head : begins_expr (ahead (u ++ (v ++ t))) ≡ true
    head = begins_head begins_expr u (v ++ t) ((every_expr 0).begins u x hx)

    one_case : (b1 b2 : Tokens) (first : Variable) → IsOne b1 first → (w1 : Tokens) (ty : TypeTree) → IsType w1 ty → w1 ++ (((b1 ++ b2) ++ w3) ++ r) ≡ u ++ (v ++ t) → ⊥
    one_case b1 b2 first (g.one {w1 = u1} {w2 = u2} {n = n} i value) w1 ty h e = no_both w1 u1 (u2 ++ (b2 ++ (w3 ++ r))) u v t ty n x h i hx semi (sym (ap (λ (ts : Tokens). w1 ++ ts) (group u1 u2 b2 w3 r)) ∙ e)
      where
        group : (a b c d f : Tokens) → (((a ++ b) ++ c) ++ d) ++ f ≡ a ++ (b ++ (c ++ (d ++ f)))
        group a b c d f = simp append_assoc

    listed_case : (w2 : Tokens) (vs : List Variable) → Listed IsOne w2 vs → (w1 : Tokens) (ty : TypeTree) → IsType w1 ty → w1 ++ ((w2 ++ w3) ++ r) ≡ u ++ (v ++ t) → ⊥
    listed_case w2 vs (s.listed {w1 = b1} {w2 = b2} {x = first} single others) w1 ty h e = one_case b1 b2 first single w1 ty h e

    word : (c : Storage) (a z : Tokens) → Means storage a c → a ++ z ≡ u ++ (v ++ t) → ⊥
    word c a z m e = clash (given_by storage) begins_expr refl _ _ (ap ahead e) (means_head storage c a z m) head

    go : (w1 : Tokens) (st : Option Storage) (ty : Option TypeTree) → IsKind w1 st ty → w1 ++ ((w2 ++ w3) ++ r) ≡ u ++ (v ++ t) → ⊥
    go w1 st ty (g.of_type {t = h} c) e = listed_case w2 vs all w1 h c e
    go w1 st ty (g.of_value m) e = clash (is k.Auto) begins_expr refl _ _ (ap ahead e) (mark_is k.Auto w1 ((w2 ++ w3) ++ r) m) head
    go w1 st ty (g.stored_type {w1 = a1} {w2 = a2} {s = c} m h) e = word c a1 (a2 ++ ((w2 ++ w3) ++ r)) m (sym (append_assoc a1 a2 ((w2 ++ w3) ++ r)) ∙ e)
    go w1 st ty (g.stored_value {w1 = a1} {w2 = a2} {s = c} m h) e = word c a1 (a2 ++ ((w2 ++ w3) ++ r)) m (sym (append_assoc a1 a2 ((w2 ++ w3) ++ r)) ∙ e)
    go w1 st ty (g.stored {s = c} m) e = word c w1 ((w2 ++ w3) ++ r) m e

pub variable_not : (u v : Tokens) (x : Expr) (rest : Tokens) → IsExpr u x → Mark k.Semicolon v → spec.variable_read ((u ++ v) ++ rest) ≡ None
variable_not u v x rest h m = go (spec.variable_read ((u ++ v) ++ rest)) ((variable_good 0).sound ((u ++ v) ++ rest))
  where
    go : (r : Outcome VariableTree) → Holds IsVariable ((u ++ v) ++ rest) r → r ≡ None
    go (Some r) f = absurd (variable_apart f.front r.1 u v rest r.0 x f.is h m (sym f.parts ∙ append_assoc u v rest))
    go None f = refl

-- ---- parameters

abbrev FStoredName : Tokens → Option Storage × (TypeTree × Name) → Type 0
FStoredName = Image (λ z. (Some z.0, z.1)) (Pair (Means storage) (Pair IsType Id))

abbrev FPlainName : Tokens → Option Storage × (TypeTree × Name) → Type 0
FPlainName = Image (λ z. (None, z)) (Pair IsType Id)

stored_name_good : (n : ℕ) → Good n none (given_by storage) FStoredName spec.stored_name
unfolding spec.stored_name same_terminal
stored_name_good n = image (λ z. (Some z.0, z.1)) (seq (means_good n storage) (type_name_good n) (omega arith) refl)

plain_name_good : (n : ℕ) → Good n none begins_type FPlainName spec.plain_name
plain_name_good n = image (λ z. (None, z)) (type_name_good n)

name_not_stored : (front : Tokens) (y : Option Storage × (TypeTree × Name)) (rest : Tokens) → FPlainName front y → spec.stored_name (front ++ rest) ≡ None
unfolding same_terminal
name_not_stored front y rest (z, p, eq) = go (spec.stored_name (front ++ rest)) ((stored_name_good 0).sound (front ++ rest))
  where
    go : (r : Outcome (Option Storage × (TypeTree × Name))) → Holds FStoredName (front ++ rest) r → r ≡ None
    go None h = refl
    go (Some r) h =
        let c = h.is.1 in
        let text : p.left ++ (p.right ++ rest) ≡ c.left ++ (c.right ++ r.1) = sym (append_assoc p.left p.right rest) ∙ ap (λ (ts : Tokens). ts ++ rest) (sym p.parts) ∙ h.parts ∙ ap (λ (ts : Tokens). ts ++ r.1) c.parts ∙ append_assoc c.left c.right r.1 in
        let b = (every_type 0).begins c.two.left h.is.0.1.0 c.two.one in
        let head : begins_type (ahead (c.right ++ r.1)) ≡ true = rw (c.two.parts, b.parts) b.kind in
        absurd (head_not_stored p.left (p.right ++ rest) c.left (c.right ++ r.1) h.is.0.0 (type_head p.left z.0 p.one) c.one (apart begins_type (is k.LeftParen) refl (ahead (c.right ++ r.1)) head) text)

abbrev begins_parameter_name : Terminal → Bool
begins_parameter_name = or (given_by storage) begins_type

abbrev pub begins_parameter : Terminal → Bool
begins_parameter = or (is k.Ref) begins_parameter_name

parameter_name_good : (n : ℕ) → Good n none begins_parameter_name (Or FStoredName FPlainName) spec.parameter_name
unfolding spec.parameter_name same_terminal
parameter_name_good n = prefer (stored_name_good n) (plain_name_good n) refl (λ front y rest h. over_none none (spec.stored_name (front ++ rest)) rest (name_not_stored front y rest h))

abbrev FParameter : Tokens → Parameter → Type 0
FParameter = Placed (λ at z. parameter at z.0 z.1.0 z.1.1.0 z.1.1.1) (Pair (Flag k.Ref) (Or FStoredName FPlainName))

parameter_into : (ts : Tokens) (x : Parameter) → FParameter ts x → IsParameter ts x
parameter_into ts x (z, p, eq) = rw (← eq, p.parts) (go z.1 p.right p.two)
  where
    go : (u : Option Storage × (TypeTree × Name)) (w : Tokens) → Or FStoredName FPlainName w u → IsParameter (p.left ++ w) (parameter (start_of (p.left ++ w)) z.0 u.0 u.1.0 u.1.1)
    go u w (inl (y, c, same)) = rw (← same, c.parts, c.two.parts) (g.a_parameter p.one (s.present c.one) c.two.one c.two.two)
    go u w (inr (y, c, same)) = rw (← same, c.parts) (g.a_parameter p.one s.absent c.one c.two)

parameter_back : (ts : Tokens) (x : Parameter) → IsParameter ts x → FParameter ts x
parameter_back ts x (g.a_parameter {w1 = w1} {w2 = w2} {w3 = w3} {w4 = w4} {r = r} {s = st} {t = t} {n = n} h1 h2 h3 h4) = go w2 st h2
  where
    go : (w2 : Tokens) (st : Option Storage) → Optional (Means storage) w2 st → FParameter (w1 ++ (w2 ++ (w3 ++ w4))) (parameter (start_of (w1 ++ (w2 ++ (w3 ++ w4)))) r st t n)
    go w2 st s.absent = ((r, (None, (t, n))), pair w1 (w3 ++ w4) h1 (inr ((t, n), pair w3 w4 h3 h4, refl)), refl)
    go w2 st (s.present {x = c} m) = ((r, (Some c, (t, n))), pair w1 (w2 ++ (w3 ++ w4)) h1 (inl ((c, (t, n)), pair w2 (w3 ++ w4) m (pair w3 w4 h3 h4), refl)), refl)

parameter_good : (n : ℕ) → Good n none begins_parameter IsParameter spec.parameter_read
unfolding spec.parameter_read same_terminal
parameter_good n = rule (placed (λ at z. parameter at z.0 z.1.0 z.1.1.0 z.1.1.1) (loose_seq (flag_good n k.Ref) (parameter_name_good n) refl)) none begins_parameter IsParameter spec.parameter_read (λ ts. refl) parameter_into parameter_back refl refl

abbrev pub FParameters : Tokens → List Parameter → Type 0
FParameters = Image (λ z. z.1.0) (Pair (Marked k.LeftParen) (Pair (Perhaps (Listed IsParameter)) (Marked k.RightParen)))

parameters_into : (ts : Tokens) (x : List Parameter) → FParameters ts x → AreParameters ts x
parameters_into ts x (z, p, eq) = rw (← eq, p.parts, p.two.parts) (g.parameters p.one p.two.one p.two.two)

parameters_back : (ts : Tokens) (x : List Parameter) → AreParameters ts x → FParameters ts x
parameters_back ts x (g.parameters {w1 = w1} {w2 = w2} {w3 = w3} {ps = ys} h1 h2 h3) = ((tt, (ys, tt)), pair w1 (w2 ++ w3) h1 (pair w2 w3 h2 h3), refl)

pub parameters_good : (n : ℕ) → Good n none (is k.LeftParen) AreParameters spec.parameters
unfolding spec.parameters same_terminal
parameters_good n = rule (image (λ z. z.1.0) (seq (mark_good n k.LeftParen) (loose_seq (some_listed_good (parameter_good n) refl) (mark_good n k.RightParen) refl) (omega arith) refl)) none (is k.LeftParen) AreParameters spec.parameters (λ ts. refl) parameters_into parameters_back refl refl

-- ---- parameters of a template before those of a function

-- the two end at one place
parameter_ends : (w r v t : Tokens) (x : TemplateParameter) (y : Parameter) → IsTemplateParameter w x → IsParameter v y → w ++ r ≡ v ++ t → after_typed (ahead r) ≡ false → after_typed (ahead t) ≡ false → r ≡ t
unfolding same_terminal
parameter_ends w r v t x y one (g.a_parameter {w1 = w1} {w2 = w2} {w3 = w3} {w4 = w4} {r = f} {s = st} {t = ty} {n = n} h1 h2 h3 h4) e stop1 stop2 = flagged w1 f h1 e
  where
    head : begins_template_parameter (ahead (w ++ r)) ≡ true
    head = begins_head begins_template_parameter w r ((template_parameter_good 0).begins w x one)

    typed : begins_type (ahead (w3 ++ (w4 ++ t))) ≡ true
    typed = begins_head begins_type w3 (w4 ++ t) ((every_type 0).begins w3 ty h3)

    plain : (w : Tokens) (x : TemplateParameter) → IsTemplateParameter w x → w ++ r ≡ w3 ++ (w4 ++ t) → r ≡ t
    plain w x (g.type_parameter {n = m} i) e = (same_end maybe_typed_good w (w3 ++ w4) r t (None, m) (Some ty, n) (pair [] w s.absent i) (pair w3 w4 (s.present h3) h4) (e ∙ sym (append_assoc w3 w4 t)) stop1 stop2).1
    plain w x (g.value_parameter {w1 = u1} {w2 = u2} {t = ty2} {n = m} h i) e = (same_end maybe_typed_good w (w3 ++ w4) r t (Some ty2, m) (Some ty, n) (pair u1 u2 (s.present h) i) (pair w3 w4 (s.present h3) h4) (e ∙ sym (append_assoc w3 w4 t)) stop1 stop2).1
    plain w x (g.alias_parameter {w1 = u1} {w2 = u2} m i) e = absurd (clash (is k.Alias) begins_type refl _ _ (ap ahead e) (mark_is2 k.Alias u1 u2 r m) typed)

    word : (c : Storage) (w2 : Tokens) → Means storage w2 c → (w : Tokens) (x : TemplateParameter) → IsTemplateParameter w x → w ++ r ≡ w2 ++ (w3 ++ (w4 ++ t)) → ⊥
    word c w2 m w x (g.type_parameter {n = u} i) e = clash (is k.Name) (given_by storage) refl _ _ (ap ahead e) (is_kind k.Name _ (name_head u w r i)) (means_head storage c w2 (w3 ++ (w4 ++ t)) m)
    word c w2 m w x (g.value_parameter {w1 = u1} {w2 = u2} {t = ty2} h i) e =
        head_not_stored u1 (u2 ++ r) w2 (w3 ++ (w4 ++ t)) c (type_head u1 ty2 h) m (apart begins_type (is k.LeftParen) refl (ahead (w3 ++ (w4 ++ t))) typed) (sym (append_assoc u1 u2 r) ∙ e)
    word c w2 m w x (g.alias_parameter {w1 = u1} {w2 = u2} a i) e = clash (is k.Alias) (given_by storage) refl _ _ (ap ahead e) (mark_is2 k.Alias u1 u2 r a) (means_head storage c w2 (w3 ++ (w4 ++ t)) m)

    stored : (w2 : Tokens) (st : Option Storage) → Optional (Means storage) w2 st → w ++ r ≡ (w2 ++ (w3 ++ w4)) ++ t → r ≡ t
    stored w2 st s.absent e = plain w x one (e ∙ append_assoc w3 w4 t)
    stored w2 st (s.present {x = c} m) e = absurd (word c w2 m w x one (e ∙ append_assoc w2 (w3 ++ w4) t ∙ ap (λ (ts : Tokens). w2 ++ ts) (append_assoc w3 w4 t)))

    flagged : (w1 : Tokens) (f : Bool) → Flag k.Ref w1 f → w ++ r ≡ (w1 ++ (w2 ++ (w3 ++ w4))) ++ t → r ≡ t
    flagged w1 f s.no_flag e = stored w2 st h2 e
    flagged w1 f (s.flag m) e = absurd (clash begins_template_parameter (is k.Ref) refl _ _ (ap ahead e) head (mark_is2 k.Ref w1 (w2 ++ (w3 ++ w4)) t m))

abbrev Closed : Tokens → Type 0
Closed = Mark k.RightParen

more_ends : (w v c d r t : Tokens) (xs : List TemplateParameter) (ys : List Parameter) → Several (After k.Comma IsTemplateParameter) w xs → Several (After k.Comma IsParameter) v ys → Closed c → Closed d
    → w ++ (c ++ r) ≡ v ++ (d ++ t) → r ≡ t
unfolding same_terminal
more_ends w v c d r t xs ys s.finished s.finished m n e = behind k.RightParen k.RightParen c d r t m n e
more_ends w v c d r t xs ys s.finished (s.several {w1 = v1} {w2 = v2} {x = y} {xs = more} h others) m n e =
    let head : or (is k.Comma) (is k.RightParen) (ahead (v ++ (d ++ t))) ≡ true = nexts_head k.RightParen v d t ys (s.several h others) n in
    absurd (closing (y) (v1) h e)
  where
    closing : (y : Parameter) (v1 : Tokens) → After k.Comma IsParameter v1 y → c ++ r ≡ (v1 ++ v2) ++ (d ++ t) → ⊥
    closing y v1 (s.after {w1 = a} {w2 = b} comma h) e = clash (is k.RightParen) (is k.Comma) refl _ _ (ap ahead e) (mark_is k.RightParen c r m) (mark_is3 k.Comma a b v2 (d ++ t) comma)
more_ends w v c d r t xs ys (s.several {w1 = w1} {w2 = w2} {x = x} {xs = more} h others) s.finished m n e = absurd (closing x w1 h e)
  where
    closing : (x : TemplateParameter) (w1 : Tokens) → After k.Comma IsTemplateParameter w1 x → (w1 ++ w2) ++ (c ++ r) ≡ d ++ t → ⊥
    closing x w1 (s.after {w1 = a} {w2 = b} comma h) e = clash (is k.Comma) (is k.RightParen) refl _ _ (ap ahead e) (mark_is3 k.Comma a b w2 (c ++ r) comma) (mark_is k.RightParen d t n)
more_ends w v c d r t xs ys (s.several {w1 = w1} {w2 = w2} {x = x} {xs = xs2} h1 others1) (s.several {w1 = v1} {w2 = v2} {x = y} {xs = ys2} h2 others2) m n e = more_ends w2 v2 c d r t xs2 ys2 others1 others2 m n (step x w1 h1 y v1 h2 e)
  where
    step : (x : TemplateParameter) (w1 : Tokens) → After k.Comma IsTemplateParameter w1 x → (y : Parameter) (v1 : Tokens) → After k.Comma IsParameter v1 y → (w1 ++ w2) ++ (c ++ r) ≡ (v1 ++ v2) ++ (d ++ t) → w2 ++ (c ++ r) ≡ v2 ++ (d ++ t)
    step x w1 (s.after {w1 = a1} {w2 = b1} comma1 p1) y v1 (s.after {w1 = a2} {w2 = b2} comma2 p2) e =
        let text = behind k.Comma k.Comma a1 a2 (b1 ++ (w2 ++ (c ++ r))) (b2 ++ (v2 ++ (d ++ t))) comma1 comma2 (sym (group a1 b1 w2 (c ++ r)) ∙ e ∙ group a2 b2 v2 (d ++ t)) in
        parameter_ends b1 (w2 ++ (c ++ r)) b2 (v2 ++ (d ++ t)) x y p1 p2 text (apart (or (is k.Comma) (is k.RightParen)) after_typed refl (ahead (w2 ++ (c ++ r))) (nexts_head k.RightParen w2 c r xs2 others1 m)) (apart (or (is k.Comma) (is k.RightParen)) after_typed refl (ahead (v2 ++ (d ++ t))) (nexts_head k.RightParen v2 d t ys2 others2 n))
      where
        group : (a b c d : Tokens) → ((a ++ b) ++ c) ++ d ≡ a ++ (b ++ (c ++ d))
        group a b c d = simp append_assoc

list_ends : (w v c d r t : Tokens) (xs : List TemplateParameter) (ys : List Parameter) → Perhaps (Listed IsTemplateParameter) w xs → Perhaps (Listed IsParameter) v ys → Closed c → Closed d → w ++ (c ++ r) ≡ v ++ (d ++ t) → r ≡ t
unfolding same_terminal
list_ends w v c d r t xs ys s.not_there s.not_there m n e = behind k.RightParen k.RightParen c d r t m n e
list_ends w v c d r t xs ys s.not_there (s.there {x = y} {xs = more} h) m n e = absurd (go v (y ∷ more) h e)
  where
    go : (v : Tokens) (ys : List Parameter) → Listed IsParameter v ys → c ++ r ≡ v ++ (d ++ t) → ⊥
    go v ys (s.listed {w1 = v1} {w2 = v2} {x = y} one others) e =
        let b = (parameter_good 0).begins v1 y one in
        clash (is k.RightParen) begins_parameter refl _ _ (ap ahead e) (mark_is k.RightParen c r m) (begins_head2 begins_parameter v1 v2 (d ++ t) b)
list_ends w v c d r t xs ys (s.there {x = x} {xs = more} h) s.not_there m n e = absurd (go w (x ∷ more) h e)
  where
    go : (w : Tokens) (xs : List TemplateParameter) → Listed IsTemplateParameter w xs → w ++ (c ++ r) ≡ d ++ t → ⊥
    go w xs (s.listed {w1 = w1} {w2 = w2} {x = x} one others) e =
        let b = (template_parameter_good 0).begins w1 x one in
        clash begins_template_parameter (is k.RightParen) refl _ _ (ap ahead e) (begins_head2 begins_template_parameter w1 w2 (c ++ r) b) (mark_is k.RightParen d t n)
list_ends w v c d r t xs ys (s.there {x = x} {xs = xs2} h1) (s.there {x = y} {xs = ys2} h2) m n e = go w (x ∷ xs2) h1 v (y ∷ ys2) h2 e
  where
    go : (w : Tokens) (xs : List TemplateParameter) → Listed IsTemplateParameter w xs → (v : Tokens) (ys : List Parameter) → Listed IsParameter v ys → w ++ (c ++ r) ≡ v ++ (d ++ t) → r ≡ t
    go w xs (s.listed {w1 = w1} {w2 = w2} {x = x} {xs = xs2} one1 others1) v ys (s.listed {w1 = v1} {w2 = v2} {x = y} {xs = ys2} one2 others2) e =
        let text = parameter_ends w1 (w2 ++ (c ++ r)) v1 (v2 ++ (d ++ t)) x y one1 one2 (sym (append_assoc w1 w2 (c ++ r)) ∙ e ∙ append_assoc v1 v2 (d ++ t))
        (apart (or (is k.Comma) (is k.RightParen)) after_typed refl (ahead (w2 ++ (c ++ r))) (nexts_head k.RightParen w2 c r xs2 others1 m)) (apart (or (is k.Comma) (is k.RightParen)) after_typed refl (ahead (v2 ++ (d ++ t))) (nexts_head k.RightParen v2 d t ys2 others2 n)) in
        more_ends w2 v2 c d r t xs2 ys2 others1 others2 m n text

pub same_close : (w v r t : Tokens) (xs : List TemplateParameter) (ys : List Parameter) → AreTemplateParameters w xs → AreParameters v ys → w ++ r ≡ v ++ t → r ≡ t
same_close w v r t xs ys (g.template_parameters {w1 = w1} {w2 = w2} {w3 = w3} h1 h2 h3) (g.parameters {w1 = v1} {w2 = v2} {w3 = v3} c1 c2 c3) e =
    list_ends w2 v2 w3 v3 r t xs ys h2 c2 h3 c3 (behind k.LeftParen k.LeftParen w1 v1 (w2 ++ (w3 ++ r)) (v2 ++ (v3 ++ t)) h1 c1 (sym (group w1 w2 w3 r) ∙ e ∙ group v1 v2 v3 t))
  where
    group : (a b c d : Tokens) → (a ++ (b ++ c)) ++ d ≡ a ++ (b ++ (c ++ d))
    group a b c d = simp append_assoc

-- ---- what a `for` begins with

abbrev pub FForVariable : Tokens → ForStart → Type 0
FForVariable = Placed start.Variable IsVariable

abbrev pub FForExpr : Tokens → ForStart → Type 0
FForExpr = Image (λ z. start.Expr z.0) (Pair (Optional IsExpr) (Marked k.Semicolon))

for_expr_good : (n : ℕ) → Good n none (or begins_expr (is k.Semicolon)) FForExpr spec.for_expr
unfolding spec.for_expr same_terminal
for_expr_good n = image (λ z. start.Expr z.0) (loose_seq (optional_good (every_expr n)) (mark_good n k.Semicolon) refl)

for_not : (front : Tokens) (y : ForStart) (rest : Tokens) → FForExpr front y → spec.variable_read (front ++ rest) ≡ None
unfolding same_terminal
for_not front y rest (z, p, eq) = go z.0 p.left p.one p.parts
  where
    go : (x : Option Expr) (w : Tokens) → Optional IsExpr w x → front ≡ w ++ p.right → spec.variable_read (front ++ rest) ≡ None
    go x w s.absent parts = rw parts (refused (variable_good 0) (p.right ++ rest) (rw (p.two.alone, p.two.is) refl))
    go x w (s.present {x = u} h) parts = rw parts (variable_not w p.right u rest h p.two)

for_into : (ts : Tokens) (x : ForStart) → Or FForVariable FForExpr ts x → IsForStart ts x
for_into ts x (inl (y, h, eq)) = rw (← eq) (g.for_variable h)
for_into ts x (inr (z, p, eq)) = rw (← eq, p.parts) (g.for_expr p.one p.two)

for_back : (ts : Tokens) (x : ForStart) → IsForStart ts x → Or FForVariable FForExpr ts x
for_back ts x (g.for_variable {v = y} h) = inl (y, h, refl)
for_back ts x (g.for_expr {w1 = w1} {w2 = w2} {x = y} h m) = inr ((y, tt), pair w1 w2 h m, refl)

abbrev pub begins_for_start : Terminal → Bool
begins_for_start = or begins_variable (or begins_expr (is k.Semicolon))

pub for_start_good : (n : ℕ) → Good n none begins_for_start IsForStart spec.for_start
unfolding spec.for_start same_terminal
for_start_good n = rule (prefer (placed start.Variable (variable_good n)) (for_expr_good n) refl (λ front y rest h. over_none none (from_start start.Variable spec.variable_read (front ++ rest)) rest (rw (for_not front y rest h) refl)))
    none begins_for_start IsForStart spec.for_start (λ ts. refl) for_into for_back refl refl

-- Rules with no expression inside, types without names, and arguments.
use Rattle.std.proofs.Common.{cond, ◌≡◌, ℕ, suc, ◌+◌, ◌-◌, ◌&&◌, ◌≤◌, Bool, true, false, List, [], ◌∷◌, ◌++◌, length, Some, None, refl, sym, ap, subst, ◌∙◌, append_assoc, arith, length-append}
use Rattle.dc_token.specs.declared.token.Token.{Token}
use Rattle.dc_ast.specs.declared.word.BasicType.{BasicType}
use Rattle.dc_ast.specs.declared.expression.Expr.{Expr}
use Rattle.dc_ast.specs.declared.expression.ExprKind.TheVariants as e
use Rattle.dc_ast.specs.declared.expression.Argument.{Argument}
use Rattle.dc_ast.specs.declared.expression.Argument.TheVariants as a
use Rattle.dc_ast.specs.declared.types.Base.{Base}
use Rattle.dc_ast.specs.declared.types.Base.TheVariants as b
use Rattle.dc_ast.specs.declared.types.Bracket.{Bracket}
use Rattle.dc_grammar.specs.declared.terminal.Terminal.{Terminal}
use Rattle.dc_grammar.specs.declared.terminal.Terminal.TheVariants as k
use Rattle.dc_grammar.specs.Terminals.{Tokens, ahead, start_of, terminal_of, same_terminal, basic_type}
use Rattle.dc_grammar.specs.Trees.{expr, symbol, type_tree, name_of, spelling_of}
use Rattle.dc_grammar.specs.Grammar as g
use Rattle.dc_grammar.specs.Grammar.{Mark, Named, Means, Id, Word, IsExpr, IsConditional, IsOr, AreOrs, IsAnd, AreAnds, IsBitOr, AreBitOrs, IsBitXor, AreBitXors, IsBitAnd, AreBitAnds, IsComparison, IsShift, AreShiftSteps, IsSum, AreTerms, IsProduct, AreFactors, IsUnary, IsPostfix, AreSuffixes, IsSuffix, IsOperand, IsPrimary, IsIsTree, IsIsTest, IsAgainstWhat, MoreNames, AreExprs, MoreExprs, AreArguments, MoreArguments, IsArgument, IsSymbol, AreTemplateArguments, IsSingle, IsType, IsBareType, IsBase, MoreSymbols, IsPlainBase, AreBrackets}
use Rattle.dc_grammar.specs.declared.level.Level.{Level}
use Rattle.dc_grammar.specs.declared.level.Level.TheVariants as l
use Rattle.dc_grammar.specs.Reading.{Outcome, Reader, either, or_else, ◌<$>◌, and_then, pure}
use Rattle.dc_grammar.specs.Brackets.{behind_parens, names_member}
use Rattle.dc_grammar.specs.Readers as spec
use Rattle.dc_grammar.specs.Readers.{word, chain, compared, chosen, assigned, or_empty, between, length_of}
use Rattle.dc_grammar.proofs.Good.{Good, Holds, Begins, Reaches, none, named_good, mark_good, means_good, given_by, is, is_same, wider}
use Rattle.dc_grammar.proofs.Lists.{Many, loose_maybe, refused}
use Rattle.dc_grammar.proofs.Choices.{outside}
use Rattle.dc_grammar.proofs.Tools.{pair, seq, seq_loose, loose_seq, repeated, one_of, Over, Image, image, loose_image, rule, lower, or_none, Placed, placed}
use Rattle.dc_grammar.proofs.Tools as tools
use Rattle.dc_grammar.proofs.Forms.{FNext, FBracket, FTypeOf, FImmutableChar, FBasic, FPlainType, FOneValue, FOneBasic, FProperty, brackets_into, brackets_back, plain_base_into, plain_base_back, single_into, single_back}
use Rattle.dc_grammar.proofs.Edges.{begins_single, begins_expr, begins_plain_base, begins_argument, after_postfix, after_conditional, after_expr}
use Rattle.dc_grammar.proofs.Dotted.{Dotted, dotted_expr, named_on}
use Rattle.dc_grammar.proofs.Balance.{in_expr}

-- the readers one level further down are as they are to be, for texts of at most n tokens
pub record Inner (n : ℕ) (inner : Level → Reader Expr) : Type 0 where
  pub whole : Good n after_expr begins_expr IsExpr (inner l.Whole)
  pub conditional : Good n after_conditional begins_expr IsConditional (inner l.Conditional)
  pub unary : Good n after_postfix begins_expr IsUnary (inner l.Unary)

pub id_good : (n : ℕ) → Good n none (is k.Name) Id spec.id
id_good n = named_good n name_of k.Name

pub word_good : (n : ℕ) (kind : Terminal) → Good n none (is kind) (Word kind) (word kind)
word_good n kind = named_good n spelling_of kind

module _ (n : ℕ) where
  basic_good : Good (suc n) none (given_by basic_type) FBasic spec.basic
  basic_good = image b.Basic (means_good (suc n) basic_type)

  immutable_char_good : Good (suc n) none (is k.Immutable) FImmutableChar spec.immutable_char
  unfolding spec.immutable_char same_terminal
  immutable_char_good = image (λ z. b.ImmutableChar) (seq (mark_good (suc n) k.Immutable) (seq (mark_good n k.LeftParen) (seq (mark_good n k.Char) (mark_good n k.RightParen) (omega arith) refl) (omega arith) refl) (omega arith) refl)

  pub property_good : Good (suc n) none (given_by basic_type) FProperty spec.property
  unfolding spec.property same_terminal
  property_good = image (λ z. e.Property z.0 z.1.1) (seq (means_good (suc n) basic_type) (seq (mark_good n k.Dot) (id_good n) (omega arith) refl) (omega arith) refl)

  pub next_name_good : Good n none (is k.Comma) (FNext Id) spec.next_name
  unfolding spec.next_name same_terminal
  next_name_good = image (λ z. z.1) (seq (mark_good n k.Comma) (id_good n) (omega arith) refl)

  single_same : (ts : Tokens) → spec.single ts ≡ (either ((λ n. e.Symbol (symbol n None)) <$> spec.id) (either (e.Integer <$> word k.Integer) (either (e.Str <$> word k.Str) (e.Character <$> word k.Character)))) ts
  unfolding spec.single same_terminal
  single_same [] = refl
  single_same (t ∷ ts) = go (terminal_of t) refl
    where
      go : (kind : Terminal) → terminal_of t ≡ kind → spec.single_by kind (t ∷ ts) ≡ (either ((λ n. e.Symbol (symbol n None)) <$> spec.id) (either (e.Integer <$> word k.Integer) (either (e.Str <$> word k.Str) (e.Character <$> word k.Character)))) (t ∷ ts)
      go k.Name eq = rw eq refl
      go k.Integer eq = rw eq refl
      go k.Str eq = rw eq refl
      go k.Character eq = rw eq refl
      go _ eq = rw eq refl

  single_good : Good n none begins_single IsSingle spec.single
  unfolding same_terminal
  single_good = rule (one_of (image (λ n. e.Symbol (symbol n None)) (id_good n)) (one_of (image e.Integer (word_good n k.Integer)) (one_of (image e.Str (word_good n k.Str)) (image e.Character (word_good n k.Character)) refl) refl) refl)
      none begins_single IsSingle spec.single single_same single_into single_back refl refl

  pub one_value_good : Good n none begins_single FOneValue spec.one_value
  unfolding spec.one_value
  one_value_good = placed (λ at x. a.Value (expr at x) ∷ []) single_good

  pub one_basic_good : Good n none (given_by basic_type) FOneBasic spec.one_basic
  unfolding spec.one_basic
  one_basic_good = placed (λ at y. a.OfType (type_tree at (b.Basic y) []) ∷ []) (means_good n basic_type)

-- ---- arguments

second : {A : Type 0} (g h : Terminal → Bool) (x : A) (rest : Tokens) (r s : Outcome A) → ((k : Terminal) → h k ≡ false → g k ≡ false) → Over h r rest → Reaches g s x rest → Reaches h (or_else r s) x rest
second g h x rest (Some r) s less over reach = (over.0, λ stop. let clash : true ≡ false = sym over.1 ∙ stop in absurd cc)
second g h x rest None s less over reach = wider g h s x rest less reach

first : {A : Type 0} (g : Terminal → Bool) (x : A) (rest : Tokens) (r s : Outcome A) → Reaches g r x rest → Reaches g (or_else r s) x rest
first g x rest (Some r) s h = h
first g x rest None s h = absurd h

over_value : (g : Terminal → Bool) (rest : Tokens) (r : Outcome Expr) → Over g r rest → Over g (and_then r (λ x. pure (a.Value x))) rest
over_value g rest (Some r) h = h
over_value g rest None h = h

-- what is read where a basic type stands
over_basic : (tok : Token) (right rest : Tokens) (ys : List Bracket) (front left : Tokens) → Many FBracket right ys → given_by basic_type (terminal_of tok) ≡ true → Dotted front → tok ∷ (right ++ rest) ≡ front ++ left
    → (length left ≤ length rest) × (after_expr (ahead rest) ≡ true)
unfolding same_terminal
over_basic tok right rest [] front left m int d e =
    let e' : tok ∷ rest ≡ d.head ∷ (d.tail ++ left) = (rw m at e) ∙ ap (λ (ts : Tokens). ts ++ left) d.parts in
    let same : tok ≡ d.head = cc in
    let q = d.basic (rw (← same) int) in
    let e2 : rest ≡ d.tail ++ left = cc in
    let e3 : rest ≡ q.dot ∷ (q.after ++ left) = e2 ∙ ap (λ (ts : Tokens). ts ++ left) q.parts in
    (rw e3 (omega (arith, length-append q.after left)), rw (e3, q.is) refl)
over_basic tok right rest (y ∷ ys) front left (v, c, parts, (z, p, eq), others) int d e =
    let e' : tok ∷ (right ++ rest) ≡ d.head ∷ (d.tail ++ left) = e ∙ ap (λ (ts : Tokens). ts ++ left) d.parts in
    let same : tok ≡ d.head = cc in
    let q = d.basic (rw (← same) int) in
    let e2 : right ++ rest ≡ d.tail ++ left = cc in
    let e3 : right ++ rest ≡ q.dot ∷ (q.after ++ left) = e2 ∙ ap (λ (ts : Tokens). ts ++ left) q.parts in
    let begin : right ++ rest ≡ p.one.token ∷ (p.right ++ c ++ rest) = rw (parts, p.parts, p.one.alone) refl in
    let same2 : p.one.token ≡ q.dot = cc in
    let clash : k.LeftBracket ≡ k.Dot = sym p.one.is ∙ ap terminal_of same2 ∙ q.is in
    absurd cc

basic_over : (tok : Token) (right rest : Tokens) (ys : List Bracket) (r : Outcome Expr) → Many FBracket right ys → given_by basic_type (terminal_of tok) ≡ true → Holds IsExpr (tok ∷ (right ++ rest)) r → Over after_expr r rest
basic_over tok right rest ys (Some r) m int h = over_basic tok right rest ys h.front r.1 m int (dotted_expr h.front r.0 h.is) h.parts
basic_over tok right rest ys None m int h = tt

value_into : (ts : Tokens) (x : Argument) → Image a.Value IsExpr ts x → IsArgument ts x
value_into ts x (y, h, eq) = rw (← eq) (g.value h)

of_type_into : (ts : Tokens) (x : Argument) → Image a.OfType FPlainType ts x → IsArgument ts x
of_type_into ts x (t, (z, p, same), eq) = rw (← eq, ← same, p.parts) (g.of_type p.one (brackets_into p.right z.1 p.two))

join : (ts : Tokens) (r s : Outcome Argument) → Holds (Image a.Value IsExpr) ts r → Holds (Image a.OfType FPlainType) ts s → Holds IsArgument ts (or_else r s)
join ts (Some r) s h c = record { front = h.front; parts = h.parts; is = value_into h.front r.0 h.is }
join ts None (Some s) h c = record { front = c.front; parts = c.parts; is = of_type_into c.front s.0 c.is }
join ts None None h c = tt

typed : (ts : Tokens) (s : Outcome Argument) → Holds (Image a.OfType FPlainType) ts s → Holds IsArgument ts s
typed ts (Some s) c = record { front = c.front; parts = c.parts; is = of_type_into c.front s.0 c.is }
typed ts None c = tt

chosen_by : (A : Outcome Argument → Type 0) (c : Bool) (x y : Outcome Argument) → A x → A y → A (cond c x y)
chosen_by A true x y p q = p
chosen_by A false x y p q = q

-- a dot and a name at the start of a text
record Member (ts : Tokens) : Type 0 where
  dot : Token
  name : Token
  rest : Tokens
  parts : ts ≡ dot ∷ (name ∷ rest)
  is_dot : terminal_of dot ≡ k.Dot
  is_name : terminal_of name ≡ k.Name

both_true : (c d : Bool) → (c && d) ≡ true → (c ≡ true) × (d ≡ true)
both_true true true e = (refl, refl)
both_true true false e = absurd cc
both_true false d e = absurd cc

member_of : (ts : Tokens) → names_member ts ≡ true → Member ts
member_of [] e = absurd cc
member_of (dot ∷ ts) e = let b = both_true (same_terminal (terminal_of dot) k.Dot) (same_terminal (ahead ts) k.Name) e in go ts (is_same k.Name (ahead ts) b.1) (is_same k.Dot (terminal_of dot) b.0)
  where
    go : (us : Tokens) → ahead us ≡ k.Name → terminal_of dot ≡ k.Dot → Member (dot ∷ us)
    go [] e d = absurd cc
    go (name ∷ us) e d = record { dot = dot; name = name; rest = us; parts = refl; is_dot = d; is_name = e }

member_true : (v w : Tokens) → Mark k.Dot v → ahead w ≡ k.Name → names_member (v ++ w) ≡ true
unfolding same_terminal
member_true v w m e = rw (m.alone, m.is, e) refl

-- what stands behind a `typeof(..)`
scanned : (w1 w2 w3 w4 : Tokens) (x : Expr) (rest : Tokens) → Mark k.TypeOf w1 → Mark k.LeftParen w2 → IsExpr w3 x → Mark k.RightParen w4 → behind_parens (w1 ++ (w2 ++ (w3 ++ (w4 ++ rest)))) ≡ rest
scanned w1 w2 w3 w4 x rest m1 m2 h m4 = rw (m1.alone, m1.is, m2.alone, m2.is) ((in_expr h).passes 0 (w4 ++ rest) ∙ rw (m4.alone, m4.is) refl)

append_nil : (ts : Tokens) → ts ++ [] ≡ ts
append_nil [] = refl
append_nil (u ∷ us) = ap (λ (ts : Tokens). u ∷ ts) (append_nil us)

postfix_expr : (w : Tokens) (x : Expr) → IsPostfix w x → IsExpr w x
postfix_expr w x h = g.a_conditional (g.an_or (g.an_and (g.a_bit_or (g.a_bit_xor (g.a_bit_and (g.a_comparison (g.a_shift (g.a_sum (g.a_product (g.a_unary (g.a_postfix h)))))))))))

-- what was read goes past the end of the text that is to be read
beyond : (r : Outcome Expr) (x : Expr) (far rest : Tokens) (y : Argument) → Reaches after_expr r x far → length far ≤ length rest → after_expr (ahead rest) ≡ true → Reaches after_expr (and_then r (λ z. pure (a.Value z))) y rest
beyond (Some r) x far rest y h less on = (omega arith, λ stop. let clash : true ≡ false = sym on ∙ stop in absurd cc)
beyond None x far rest y h less on = absurd h

module _ (n : ℕ) (inner : Level → Reader Expr) (i : Inner n inner) where
  type_of_good : Good (suc n) none (is k.TypeOf) FTypeOf (spec.type_of inner)
  unfolding spec.type_of same_terminal
  type_of_good = image (λ z. b.TypeOf z.1.1.0) (seq (mark_good (suc n) k.TypeOf) (seq (mark_good n k.LeftParen) (seq i.whole (mark_good n k.RightParen) (omega arith) refl) (omega arith) refl) (omega arith) refl)

  pub bracket_good : Good (suc n) none (is k.LeftBracket) FBracket (spec.bracket inner)
  unfolding spec.bracket spec.bracket_length same_terminal
  bracket_good = image (λ z. z.1.0) (seq (mark_good (suc n) k.LeftBracket) (loose_seq (loose_image length_of (loose_maybe i.whole)) (mark_good n k.RightBracket) refl) (omega arith) refl)

  plain_base_same : (ts : Tokens) → spec.plain_base inner ts ≡ (either (spec.type_of inner) (either spec.immutable_char spec.basic)) ts
  unfolding spec.plain_base spec.type_of spec.immutable_char same_terminal
  plain_base_same [] = refl
  plain_base_same (t ∷ ts) = go (terminal_of t) refl
    where
      go : (kind : Terminal) → terminal_of t ≡ kind → spec.plain_base_by inner kind (t ∷ ts) ≡ (either (spec.type_of inner) (either spec.immutable_char spec.basic)) (t ∷ ts)
      go k.TypeOf eq = rw eq (sym (or_none _))
      go k.Immutable eq = rw eq (sym (or_none _))
      go _ eq = rw eq refl

  pub plain_base_good : Good (suc n) none begins_plain_base IsPlainBase (spec.plain_base inner)
  unfolding same_terminal
  plain_base_good = rule (one_of type_of_good (one_of (immutable_char_good n) (basic_good n) refl) refl) none begins_plain_base IsPlainBase (spec.plain_base inner) plain_base_same plain_base_into plain_base_back refl refl

  plain_type_good : Good (suc n) (is k.LeftBracket) begins_plain_base FPlainType (spec.plain_type inner)
  unfolding spec.plain_type same_terminal
  plain_type_good = tools.narrow (placed (λ at z. type_tree at z.0 z.1) (seq_loose plain_base_good (repeated (lower bracket_good) refl) (omega arith) refl)) (is k.LeftBracket) begins_plain_base refl refl

  value_good : Good n after_expr begins_expr (Image a.Value IsExpr) (a.Value <$> inner l.Whole)
  value_good = image a.Value i.whole

  of_type_good : Good n (is k.LeftBracket) begins_plain_base (Image a.OfType FPlainType) (a.OfType <$> spec.plain_type inner)
  of_type_good = image a.OfType (lower plain_type_good)

  value_or_type_sound : (ts : Tokens) → Holds IsArgument ts (spec.value_or_type inner ts)
  value_or_type_sound ts = join ts ((a.Value <$> inner l.Whole) ts) ((a.OfType <$> spec.plain_type inner) ts) (value_good.sound ts) (of_type_good.sound ts)

  valued : (ts : Tokens) (s : Outcome Argument) → Holds (Image a.Value IsExpr) ts s → Holds IsArgument ts s
  valued ts (Some s) c = record { front = c.front; parts = c.parts; is = value_into c.front s.0 c.is }
  valued ts None c = tt

  argument_sound : (ts : Tokens) → Holds IsArgument ts (spec.argument inner ts)
  unfolding spec.argument
  argument_sound ts = go (ahead ts)
    where
      go : (kind : Terminal) → Holds IsArgument ts (spec.argument_by inner kind ts)
      go k.TypeOf = chosen_by (Holds IsArgument ts) (names_member (behind_parens ts)) ((a.Value <$> inner l.Whole) ts) ((a.OfType <$> spec.plain_type inner) ts) (valued ts ((a.Value <$> inner l.Whole) ts) (value_good.sound ts)) (typed ts ((a.OfType <$> spec.plain_type inner) ts) (of_type_good.sound ts))
      go _ = value_or_type_sound ts

  value_reach : (front : Tokens) (x : Expr) (rest : Tokens) → length front ≤ n → IsExpr front x → Reaches after_expr (spec.value_or_type inner (front ++ rest)) (a.Value x) rest
  value_reach front x rest len h = first after_expr (a.Value x) rest ((a.Value <$> inner l.Whole) (front ++ rest)) ((a.OfType <$> spec.plain_type inner) (front ++ rest)) (value_good.reach front (a.Value x) rest len (x, h, refl))

  value_behind : (front : Tokens) (x : Expr) (rest : Tokens) → length front ≤ n → IsExpr front x → (d : Dotted front) → terminal_of d.head ≡ k.TypeOf → Reaches after_expr (spec.type_of_argument inner (front ++ rest)) (a.Value x) rest
  value_behind front x rest len h d eq =
      let q = d.of eq in
      let whole : front ++ rest ≡ (d.head ∷ []) ++ (q.open_mark ++ (q.inside ++ (q.close_mark ++ (q.dot_mark ++ (q.after ++ rest))))) =
      ap (λ (ts : Tokens). ts ++ rest) (d.parts ∙ ap (λ (ts : Tokens). d.head ∷ ts) q.parts) ∙ rw (append_assoc, append_assoc, append_assoc, append_assoc) refl in
      let behind : behind_parens (front ++ rest) ≡ q.dot_mark ++ (q.after ++ rest) =
      ap behind_parens whole ∙ scanned (d.head ∷ []) q.open_mark q.inside q.close_mark q.tree (q.dot_mark ++ (q.after ++ rest)) (record { token = d.head; alone = refl; is = eq }) q.opens q.holds q.closes in
      let member : names_member (behind_parens (front ++ rest)) ≡ true = ap names_member behind ∙ member_true q.dot_mark (q.after ++ rest) q.dots (named_on q.after rest q.names) in
      rw member (value_good.reach front (a.Value x) rest len (x, h, refl))

  of_type_reach : (w1 w2 : Tokens) (x : Base) (ys : List Bracket) (rest : Tokens) → length (w1 ++ w2) ≤ n → IsPlainBase w1 x → AreBrackets w2 ys
      → Reaches (is k.LeftBracket) ((a.OfType <$> spec.plain_type inner) ((w1 ++ w2) ++ rest)) (a.OfType (type_tree (start_of (w1 ++ w2)) x ys)) rest
  of_type_reach w1 w2 x ys rest len h c = of_type_good.reach (w1 ++ w2) (a.OfType (type_tree (start_of (w1 ++ w2)) x ys)) rest len (type_tree (start_of (w1 ++ w2)) x ys, ((x, ys), pair w1 w2 h (brackets_back w2 ys c), refl), refl)

  either_reach : (w1 w2 : Tokens) (x : Base) (ys : List Bracket) (rest : Tokens) → length (w1 ++ w2) ≤ n → IsPlainBase w1 x → AreBrackets w2 ys → Over after_expr (inner l.Whole ((w1 ++ w2) ++ rest)) rest
      → Reaches after_expr (spec.value_or_type inner ((w1 ++ w2) ++ rest)) (a.OfType (type_tree (start_of (w1 ++ w2)) x ys)) rest
  unfolding same_terminal
  either_reach w1 w2 x ys rest len h c over =
      second (is k.LeftBracket) after_expr (a.OfType (type_tree (start_of (w1 ++ w2)) x ys)) rest ((a.Value <$> inner l.Whole) ((w1 ++ w2) ++ rest)) ((a.OfType <$> spec.plain_type inner) ((w1 ++ w2) ++ rest))
      (outside (is k.LeftBracket) after_expr refl) (over_value after_expr rest (inner l.Whole ((w1 ++ w2) ++ rest)) over) (of_type_reach w1 w2 x ys rest len h c)

  no_brackets : (w2 : Tokens) (ys : List Bracket) (rest : Tokens) → AreBrackets w2 ys → names_member (w2 ++ rest) ≡ true → w2 ≡ []
  unfolding same_terminal
  no_brackets w2 ys rest g.no_brackets e = refl
  no_brackets w2 ys rest (g.open_bracket {w1 = u1} {w2 = u2} {w3 = u3} m h f) e = let clash : false ≡ true = rw (m.alone, m.is) at e in absurd cc
  no_brackets w2 ys rest (g.fixed_bracket {w1 = u1} {w2 = u2} {w3 = u3} {w4 = u4} m h f q) e = let clash : false ≡ true = rw (m.alone, m.is) at e in absurd cc

  -- where a member's name follows, an expression goes further
  past_reach : (v1 v2 v3 v4 : Tokens) (x : Expr) (y : Argument) (rest : Tokens) → length (v1 ++ (v2 ++ (v3 ++ v4))) ≤ n - 2 → Mark k.TypeOf v1 → Mark k.LeftParen v2 → IsExpr v3 x → Mark k.RightParen v4 → Member rest
      → Reaches after_expr ((a.Value <$> inner l.Whole) ((v1 ++ (v2 ++ (v3 ++ v4))) ++ rest)) y rest
  unfolding same_terminal
  past_reach v1 v2 v3 v4 x y rest len m1 m2 hx m4 d =
      let dot : Tokens = d.dot ∷ [] in
      let name : Tokens = d.name ∷ [] in
      let front : Tokens = v1 ++ (v2 ++ (v3 ++ (v4 ++ (dot ++ name)))) in
      let tree : Expr = g.placed front (e.TypeOfProperty x (name_of d.name)) in
      let is : IsExpr front tree = postfix_expr front tree (g.an_operand (g.operand (g.type_of_property m1 m2 hx m4 (record { token = d.dot; alone = refl; is = d.is_dot }) (record { token = d.name; alone = refl; is = d.is_name; named = refl })))) in
      let shape : (v1 ++ (v2 ++ (v3 ++ v4))) ++ (dot ++ name) ≡ front = rw (append_assoc, append_assoc, append_assoc) refl in
      let count : length front ≡ length (v1 ++ (v2 ++ (v3 ++ v4))) + 2 = ap length (sym shape) ∙ length-append (v1 ++ (v2 ++ (v3 ++ v4))) (dot ++ name) in
      let some : length (v1 ++ (v2 ++ (v3 ++ v4))) ≡ suc (length (v2 ++ (v3 ++ v4))) = rw (m1.alone) refl in
      let whole : (v1 ++ (v2 ++ (v3 ++ v4))) ++ rest ≡ front ++ d.rest = ap (λ (ts : Tokens). (v1 ++ (v2 ++ (v3 ++ v4))) ++ ts) d.parts ∙ sym (append_assoc (v1 ++ (v2 ++ (v3 ++ v4))) (dot ++ name) d.rest) ∙ ap (λ (ts : Tokens). ts ++ d.rest) shape in
      let far : Reaches after_expr (inner l.Whole (front ++ d.rest)) tree d.rest = i.whole.reach front tree d.rest (omega arith) is in
      let shorter : length rest ≡ suc (suc (length d.rest)) = ap length d.parts in
      beyond (inner l.Whole ((v1 ++ (v2 ++ (v3 ++ v4))) ++ rest)) tree d.rest rest y (rw whole far) (omega arith) (rw (d.parts, d.is_dot) refl)

  of_argument_reach : (v1 v2 v3 v4 w2 : Tokens) (x : Expr) (ys : List Bracket) (rest : Tokens) → length ((v1 ++ (v2 ++ (v3 ++ v4))) ++ w2) ≤ n - 2 → Mark k.TypeOf v1 → Mark k.LeftParen v2 → IsExpr v3 x → Mark k.RightParen v4 → AreBrackets w2 ys
      → Reaches after_expr (spec.type_of_argument inner (((v1 ++ (v2 ++ (v3 ++ v4))) ++ w2) ++ rest)) (a.OfType (type_tree (start_of ((v1 ++ (v2 ++ (v3 ++ v4))) ++ w2)) (b.TypeOf x) ys)) rest
  unfolding same_terminal
  of_argument_reach v1 v2 v3 v4 w2 x ys rest len m1 m2 hx m4 c =
      let shape : ((v1 ++ (v2 ++ (v3 ++ v4))) ++ w2) ++ rest ≡ v1 ++ (v2 ++ (v3 ++ (v4 ++ (w2 ++ rest)))) = rw (append_assoc, append_assoc, append_assoc, append_assoc) refl in
      let behind : behind_parens (((v1 ++ (v2 ++ (v3 ++ v4))) ++ w2) ++ rest) ≡ w2 ++ rest = ap behind_parens shape ∙ scanned v1 v2 v3 v4 x (w2 ++ rest) m1 m2 hx m4 in
      rw behind (go (names_member (w2 ++ rest)) refl)
    where
      go : (member : Bool) → names_member (w2 ++ rest) ≡ member
          → Reaches after_expr (cond member ((a.Value <$> inner l.Whole) (((v1 ++ (v2 ++ (v3 ++ v4))) ++ w2) ++ rest)) ((a.OfType <$> spec.plain_type inner) (((v1 ++ (v2 ++ (v3 ++ v4))) ++ w2) ++ rest))) (a.OfType (type_tree (start_of ((v1 ++ (v2 ++ (v3 ++ v4))) ++ w2)) (b.TypeOf x) ys)) rest
      go false e = wider (is k.LeftBracket) after_expr ((a.OfType <$> spec.plain_type inner) (((v1 ++ (v2 ++ (v3 ++ v4))) ++ w2) ++ rest)) (a.OfType (type_tree (start_of ((v1 ++ (v2 ++ (v3 ++ v4))) ++ w2)) (b.TypeOf x) ys)) rest (outside (is k.LeftBracket) after_expr refl) (of_type_reach (v1 ++ (v2 ++ (v3 ++ v4))) w2 (b.TypeOf x) ys rest (omega arith) (g.type_of m1 m2 hx m4) c)
      go true e =
          let none_there = no_brackets w2 ys rest c e in
          let same : (v1 ++ (v2 ++ (v3 ++ v4))) ++ w2 ≡ v1 ++ (v2 ++ (v3 ++ v4)) = ap (λ (ts : Tokens). (v1 ++ (v2 ++ (v3 ++ v4))) ++ ts) none_there ∙ append_nil (v1 ++ (v2 ++ (v3 ++ v4))) in
          let len2 : length (v1 ++ (v2 ++ (v3 ++ v4))) ≤ n - 2 = rw same at len in
          let d : Member rest = member_of rest (rw none_there at e) in
          rw same (past_reach v1 v2 v3 v4 x (a.OfType (type_tree (start_of (v1 ++ (v2 ++ (v3 ++ v4)))) (b.TypeOf x) ys)) rest len2 m1 m2 hx m4 d)

  argument_reach : (front : Tokens) (x : Argument) (rest : Tokens) → length front ≤ n - 2 → IsArgument front x → Reaches after_expr (spec.argument inner (front ++ rest)) x rest
  unfolding spec.argument same_terminal
  argument_reach front x rest len (g.value {x = y} h) = subst (λ (kind : Terminal). Reaches after_expr (spec.argument_by inner kind (front ++ rest)) (a.Value y) rest) (sym at) (go (terminal_of d.head) refl)
    where
      d : Dotted front
      d = dotted_expr front y h

      at : ahead (front ++ rest) ≡ terminal_of d.head
      at = ap (λ (ts : Tokens). ahead (ts ++ rest)) d.parts

      go : (kind : Terminal) → terminal_of d.head ≡ kind → Reaches after_expr (spec.argument_by inner kind (front ++ rest)) (a.Value y) rest
      go k.TypeOf eq = value_behind front y rest (omega arith) h d eq
      go _ eq = value_reach front y rest (omega arith) h
  argument_reach front x rest len (g.of_type {w1 = w1} {w2 = w2} {x = y} {ts = ys} h c) = go w1 y h len
    where
      basics : (kind : Terminal) (w1 : Tokens) (y : BasicType) (m : Means basic_type w1 y) → terminal_of m.token ≡ kind → given_by basic_type kind ≡ true → length (w1 ++ w2) ≤ n - 2
          → Reaches after_expr (spec.argument_by inner kind ((w1 ++ w2) ++ rest)) (a.OfType (type_tree (start_of (w1 ++ w2)) (b.Basic y) ys)) rest
      basics k.TypeOf w1 y m eq given len = absurd cc
      basics _ w1 y m eq given len =
          let shape : (w1 ++ w2) ++ rest ≡ m.token ∷ (w2 ++ rest) = rw (m.alone) refl in
          either_reach w1 w2 (b.Basic y) ys rest (omega arith) (g.basic m) c
          (basic_over m.token w2 rest ys (inner l.Whole ((w1 ++ w2) ++ rest)) (brackets_back w2 ys c) (rw eq given) (subst (λ (ts : Tokens). Holds IsExpr ts (inner l.Whole ((w1 ++ w2) ++ rest))) shape (i.whole.sound ((w1 ++ w2) ++ rest))))

      go : (w1 : Tokens) (y : Base) → IsPlainBase w1 y → length (w1 ++ w2) ≤ n - 2 → Reaches after_expr (spec.argument inner ((w1 ++ w2) ++ rest)) (a.OfType (type_tree (start_of (w1 ++ w2)) y ys)) rest
      go w1 y (g.basic {y = t} m) len =
          let at : ahead ((w1 ++ w2) ++ rest) ≡ terminal_of m.token = rw (m.alone) refl in
          subst (λ (kind : Terminal). Reaches after_expr (spec.argument_by inner kind ((w1 ++ w2) ++ rest)) (a.OfType (type_tree (start_of (w1 ++ w2)) (b.Basic t) ys)) rest) (sym at) (basics (terminal_of m.token) w1 t m refl (rw (m.means) refl) len)
      go w1 y (g.immutable_char {w1 = v1} {w2 = v2} {w3 = v3} {w4 = v4} m1 m2 m3 m4) len =
          let at : ahead (((v1 ++ (v2 ++ (v3 ++ v4))) ++ w2) ++ rest) ≡ k.Immutable = rw (m1.alone, m1.is) refl in
          let never : inner l.Whole (((v1 ++ (v2 ++ (v3 ++ v4))) ++ w2) ++ rest) ≡ None = refused i.whole (((v1 ++ (v2 ++ (v3 ++ v4))) ++ w2) ++ rest) (rw at refl) in
          subst (λ (kind : Terminal). Reaches after_expr (spec.argument_by inner kind (((v1 ++ (v2 ++ (v3 ++ v4))) ++ w2) ++ rest)) (a.OfType (type_tree (start_of ((v1 ++ (v2 ++ (v3 ++ v4))) ++ w2)) b.ImmutableChar ys)) rest) (sym at)
          (either_reach (v1 ++ (v2 ++ (v3 ++ v4))) w2 b.ImmutableChar ys rest (omega arith) (g.immutable_char m1 m2 m3 m4) c (rw never tt))
      go w1 y (g.type_of {w1 = v1} {w2 = v2} {w3 = v3} {w4 = v4} {x = z} m1 m2 hx m4) len =
          let at : ahead (((v1 ++ (v2 ++ (v3 ++ v4))) ++ w2) ++ rest) ≡ k.TypeOf = rw (m1.alone, m1.is) refl in
          subst (λ (kind : Terminal). Reaches after_expr (spec.argument_by inner kind (((v1 ++ (v2 ++ (v3 ++ v4))) ++ w2) ++ rest)) (a.OfType (type_tree (start_of ((v1 ++ (v2 ++ (v3 ++ v4))) ++ w2)) (b.TypeOf z) ys)) rest) (sym at)
          (of_argument_reach v1 v2 v3 v4 w2 z ys rest len m1 m2 hx m4 c)

  argument_begins : (front : Tokens) (x : Argument) → IsArgument front x → Begins begins_argument front
  unfolding same_terminal
  argument_begins front x (g.value {x = y} h) = let d = dotted_expr front y h in record { head = d.head; tail = d.tail; parts = d.parts; kind = tools.more begins_expr begins_argument refl (terminal_of d.head) d.kind }
  argument_begins front x (g.of_type {w1 = w1} {w2 = w2} {x = y} {ts = ys} h c) =
      let d = plain_base_good.begins w1 y h in record { head = d.head; tail = d.tail ++ w2; parts = ap (λ (ts : Tokens). ts ++ w2) d.parts; kind = tools.more begins_plain_base begins_argument refl (terminal_of d.head) d.kind }

  pub argument_good : Good (n - 2) after_expr begins_argument IsArgument (spec.argument inner)
  argument_good = record { sound = argument_sound; reach = argument_reach; begins = argument_begins }

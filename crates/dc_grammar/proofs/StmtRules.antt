-- Statements are read: an `else` goes to the nearest `if`, and what reads as a variable is one.
use Rattle.std.proofs.Common.{◌≡◌, ℕ, ◌≤◌, Bool, true, false, List, [], ◌∷◌, ◌++◌, length, Option, Some, None, refl, sym, ap, subst, ◌∙◌, append_assoc, arith, inl, inr, length-append}
use Rattle.dc_ast.specs.declared.expression.Expr.{Expr}
use Rattle.dc_ast.specs.declared.statement.Stmt.{Stmt}
use Rattle.dc_ast.specs.declared.statement.StmtKind.{StmtKind}
use Rattle.dc_ast.specs.declared.statement.StmtKind.TheVariants as t
use Rattle.dc_ast.specs.declared.statement.Branch.{Branch}
use Rattle.dc_ast.specs.declared.statement.StaticTest.{StaticTest}
use Rattle.dc_ast.specs.declared.expression.ExprKind.TheVariants as kind
use Rattle.dc_ast.specs.declared.statement.StmtBranch.{StmtBranch}
use Rattle.dc_ast.specs.declared.statement.StmtBody.{StmtBody}
use Rattle.dc_grammar.specs.declared.terminal.Terminal.{Terminal}
use Rattle.dc_grammar.specs.declared.terminal.Terminal.TheVariants as k
use Rattle.dc_grammar.specs.Terminals.{Tokens, ahead, start_of, terminal_of, same_terminal}
use Rattle.dc_grammar.specs.MoreTrees.{branch, stmt_branch}
use Rattle.dc_grammar.specs.Grammar as e
use Rattle.dc_grammar.specs.Grammar.{Mark, IsExpr}
use Rattle.dc_grammar.specs.Shapes.{Optional}
use Rattle.dc_grammar.specs.Parts as p
use Rattle.dc_grammar.specs.Parts.{Head, IsImported, IsImport, IsEnum, IsConstant, IsAlias, IsVariable, IsStaticTest, IsStaticRange, IsStaticAssert, IsForStart, AreLoops, IsLabel}
use Rattle.dc_grammar.specs.Statements as g
use Rattle.dc_grammar.specs.Statements.{second, begins_if, begins_conditional, IsStmt, IsStmtKind, AreStmts, AreGroups, AreBranches, AreStmtBranches, IsStmtBody}
use Rattle.dc_grammar.specs.Reading.{Outcome, Reader, either, or_else, ◌<$>◌}
use Rattle.dc_grammar.specs.PartReaders.{enumeration, variable_read}
use Rattle.dc_grammar.specs.StmtReaders as spec
use Rattle.dc_grammar.specs.StmtReaders.{chain, in_braces, items, closed}
use Rattle.dc_grammar.proofs.Good.{Good, Holds, Reaches, Begins, Marked, Pair, none, or, is, mark_good}
use Rattle.dc_grammar.proofs.Lists.{Many, refused}
use Rattle.dc_grammar.proofs.Choices.{Or, apart, within}
use Rattle.dc_grammar.proofs.Tools.{pair, seq, loose_seq, Image, image, Placed, prefer}
use Rattle.dc_grammar.proofs.Shapes.{optional_good, same_end}
use Rattle.dc_grammar.proofs.Laws.{every_expr}
use Rattle.dc_grammar.proofs.Edges.{begins_expr}
use Rattle.dc_grammar.proofs.PartRules.{head_good}
use Rattle.dc_grammar.proofs.NamedRules.{over_none, enumeration_good, manifest_good, enum_not, alias_read_good, variable_good, variable_not, begins_variable}
use Rattle.dc_grammar.proofs.TypeFirst.{first_token, first_rest}
use Rattle.dc_grammar.proofs.Fronts.{Front, front_on, front_of, front_mark, head_front, import_front, test_front, range_front, check_front, start_less}
use Rattle.dc_grammar.proofs.Open.{FChain}

-- ---- what a statement begins with

abbrev pub begins_simple : Terminal → Bool
begins_simple = or (is k.Mixin) (or begins_variable begins_expr)

abbrev pub begins_stmt : Terminal → Bool
begins_stmt k.LeftBrace = true
begins_stmt k.Semicolon = true
begins_stmt k.Enum = true
begins_stmt k.Alias = true
begins_stmt k.Import = true
begins_stmt k.Static = true
begins_stmt k.Version = true
begins_stmt k.If = true
begins_stmt k.While = true
begins_stmt k.Do = true
begins_stmt k.For = true
begins_stmt k.Foreach = true
begins_stmt k.Switch = true
begins_stmt k.Break = true
begins_stmt k.Continue = true
begins_stmt k.Return = true
begins_stmt x = begins_simple x

abbrev pub StmtFront : Tokens → Type 0
StmtFront = Front begins_stmt

branches_front : (o : Bool) (w : Tokens) (bs : List Branch) (last : Option Stmt) → AreBranches o w bs last → StmtFront w
unfolding same_terminal
branches_front o w bs last (g.if_alone {w1 = w1} {w2 = w2} {x = x} h c) = head_front begins_stmt k.If w1 w2 x h refl refl
branches_front o w bs last (g.if_else {w1 = w1} {w2 = w2} {w3 = w3} {w4 = w4} {x = x} h c m d off) = head_front begins_stmt k.If w1 (w2 ++ (w3 ++ w4)) x h refl refl
branches_front o w bs last (g.if_more {w1 = w1} {w2 = w2} {w3 = w3} {w4 = w4} {x = x} h c m d) = head_front begins_stmt k.If w1 (w2 ++ (w3 ++ w4)) x h refl refl

pub static_front : (o : Bool) (w : Tokens) (bs : List StmtBranch) (last : Option StmtBody) → AreStmtBranches o w bs last → StmtFront w
static_front o w bs last (g.static_alone {w1 = w1} {w2 = w2} {x = x} h c) = front_on begins_stmt w1 w2 (test_front begins_stmt w1 x refl refl h)
static_front o w bs last (g.static_else {w1 = w1} {w2 = w2} {w3 = w3} {w4 = w4} {x = x} h c m d off) = front_on begins_stmt w1 (w2 ++ (w3 ++ w4)) (test_front begins_stmt w1 x refl refl h)
static_front o w bs last (g.static_more {w1 = w1} {w2 = w2} {w3 = w3} {w4 = w4} {x = x} h c m d) = front_on begins_stmt w1 (w2 ++ (w3 ++ w4)) (test_front begins_stmt w1 x refl refl h)

pub kind_front : (o : Bool) (w : Tokens) (x : StmtKind) → IsStmtKind o w x → StmtFront w
unfolding same_terminal
kind_front o w x (g.block {w1 = w1} {w2 = w2} {w3 = w3} m h c) = front_mark begins_stmt k.LeftBrace w1 (w2 ++ w3) m refl refl
kind_front o w x (g.empty m) = record { head = m.token; tail = []; parts = m.alone; kind = rw m.is refl; two = λ eq. let off : k.Semicolon ≡ k.Static = sym m.is ∙ eq in absurd cc }
kind_front o w x (g.variable_stmt {x = y} h) = front_of begins_stmt begins_variable w ((variable_good 0).begins w y h) refl refl
kind_front o w x (g.enum_stmt {x = y} h) = front_of begins_stmt (is k.Enum) w ((enumeration_good 0).begins w y h) refl refl
kind_front o w x (g.constant_stmt {x = y} h) = front_of begins_stmt (is k.Enum) w ((manifest_good 0).begins w y h) refl refl
kind_front o w x (g.alias_stmt {x = y} h) = front_of begins_stmt (is k.Alias) w ((alias_read_good 0).begins w y h) refl refl
kind_front o w x (g.import_stmt {x = y} h) = import_front begins_stmt w y refl refl h
kind_front o w x (g.conditional_stmt {bs = bs} {last = last} h) = static_front o w bs last h
kind_front o w x (g.foreach_static {w1 = w1} {w2 = w2} {r = r} h c) = front_on begins_stmt w1 w2 (range_front begins_stmt w1 r refl h)
kind_front o w x (g.assert_static {x = y} h) = check_front begins_stmt w y refl h
kind_front o w x (g.expr_stmt {w1 = w1} {w2 = w2} {x = y} h off m) = front_on begins_stmt w1 w2 (front_of begins_stmt begins_expr w1 ((every_expr 0).begins w1 y h) refl refl)
kind_front o w x (g.mixin_stmt {w1 = w1} {w2 = w2} {x = y} h m) = head_front begins_stmt k.Mixin w1 w2 y h refl refl
kind_front o w x (g.if_stmt {bs = bs} {last = last} h) = branches_front o w bs last h
kind_front o w x (g.while_stmt {w1 = w1} {w2 = w2} {x = y} h c) = head_front begins_stmt k.While w1 w2 y h refl refl
kind_front o w x (g.do_stmt {w1 = w1} {w2 = w2} {w3 = w3} {w4 = w4} m h c d) = front_mark begins_stmt k.Do w1 (w2 ++ (w3 ++ w4)) m refl refl
kind_front o w x (g.for_stmt {w1 = w1} {w2 = w2} {w3 = w3} {w4 = w4} {w5 = w5} {w6 = w6} {w7 = w7} {w8 = w8} m h2 h3 h4 h5 h6 h7 h8) = front_mark begins_stmt k.For w1 (w2 ++ (w3 ++ (w4 ++ (w5 ++ (w6 ++ (w7 ++ w8)))))) m refl refl
kind_front o w x (g.foreach_stmt {w1 = w1} {w2 = w2} {w3 = w3} {w4 = w4} {w5 = w5} {w6 = w6} {w7 = w7} {w8 = w8} m h2 h3 h4 h5 h6 h7 h8) = front_mark begins_stmt k.Foreach w1 (w2 ++ (w3 ++ (w4 ++ (w5 ++ (w6 ++ (w7 ++ w8)))))) m refl refl
kind_front o w x (g.switch_stmt {w1 = w1} {w2 = w2} {w3 = w3} {w4 = w4} {w5 = w5} {x = y} h m c d q) = head_front begins_stmt k.Switch w1 (w2 ++ (w3 ++ (w4 ++ w5))) y h refl refl
kind_front o w x (g.break_stmt {w1 = w1} {w2 = w2} m d) = front_mark begins_stmt k.Break w1 w2 m refl refl
kind_front o w x (g.continue_stmt {w1 = w1} {w2 = w2} m d) = front_mark begins_stmt k.Continue w1 w2 m refl refl
kind_front o w x (g.return_stmt {w1 = w1} {w2 = w2} {w3 = w3} m h d) = front_mark begins_stmt k.Return w1 (w2 ++ w3) m refl refl

pub stmt_front : (o : Bool) (w : Tokens) (x : Stmt) → IsStmt o w x → StmtFront w
stmt_front o w x (g.a_stmt {x = y} h) = kind_front o w y h

-- ---- statements without statements in them

-- a text that is an `x` and then a semicolon, where the answer is closed
abbrev pub Kinds : Tokens → Bool × StmtKind → Type 0
Kinds ts v = IsStmtKind v.0 ts v.1

pub holds_into : {A : Type 0} {P F : Tokens → A → Type 0} (ts : Tokens) (r : Outcome A) → ((w : Tokens) (x : A) → P w x → F w x) → Holds P ts r → Holds F ts r
holds_into ts (Some r) into h = record { front = h.front; parts = h.parts; is = into h.front r.0 h.is }
holds_into ts None into h = tt

abbrev pub FMixin : Tokens → Bool × StmtKind → Type 0
FMixin = Image (λ z. closed (t.Mixin z.0)) (Pair (Head k.Mixin) (Marked k.Semicolon))

pub mixin_good : (n : ℕ) → Good n none (is k.Mixin) FMixin spec.mixin_stmt
unfolding spec.mixin_stmt same_terminal
mixin_good n = image (λ z. closed (t.Mixin z.0)) (seq (head_good n k.Mixin) (mark_good n k.Semicolon) (omega arith) refl)

abbrev FExpr : Tokens → Bool × StmtKind → Type 0
FExpr = Image (λ z. closed (t.Expr z.0)) (Pair IsExpr (Marked k.Semicolon))

expr_good : (n : ℕ) → Good n none begins_expr FExpr spec.expr_stmt
unfolding spec.expr_stmt same_terminal
expr_good n = image (λ z. closed (t.Expr z.0)) (seq (every_expr n) (mark_good n k.Semicolon) (omega arith) refl)

-- an expression that isn't a `mixin(..)` alone
abbrev Unmixed : Tokens → Expr → Type 0
Unmixed w x = IsExpr w x × ((y : Expr) → Head k.Mixin w y → ⊥)

abbrev pub FUnmixed : Tokens → Bool × StmtKind → Type 0
FUnmixed = Image (λ z. closed (t.Expr z.0)) (Pair Unmixed (Marked k.Semicolon))

abbrev pub FVariable : Tokens → Bool × StmtKind → Type 0
FVariable = Image (λ x. closed (t.Variable x)) IsVariable

abbrev pub FSimple : Tokens → Bool × StmtKind → Type 0
FSimple = Or FMixin (Or FVariable FUnmixed)

abbrev pub simple_read : Reader (Bool × StmtKind)
simple_read = either spec.mixin_stmt spec.simple_stmt

mixin_expr : (w : Tokens) (y : Expr) → Head k.Mixin w y → (x : Expr) × IsExpr w x
mixin_expr w y (p.head {x = z} m1 m2 h m4) =
    (e.placed w (kind.Mixin z), e.a_conditional (e.an_or (e.an_and (e.a_bit_or (e.a_bit_xor (e.a_bit_and (e.a_comparison (e.a_shift (e.a_sum (e.a_product (e.a_unary (e.a_postfix (e.an_operand (e.operand (e.mixin m1 m2 h m4)))))))))))))))

same_front : (v w r : Tokens) → v ++ r ≡ w ++ r → v ≡ w
same_front [] [] r eq = refl
same_front [] (t ∷ w) r eq = let size : length r ≡ length ((t ∷ w) ++ r) = ap length eq in absurd (omega (arith, length-append w r))
same_front (t ∷ v) [] r eq = let size : length ((t ∷ v) ++ r) ≡ length r = ap length eq in absurd (omega (arith, length-append v r))
same_front (t ∷ v) (u ∷ w) r eq =
    let one = first_token t u (v ++ r) (w ++ r) eq in
    let more = same_front v w r (first_rest t u (v ++ r) (w ++ r) eq) in
    rw (one, more) refl

-- a `mixin(..);` isn't read where another expression stands
mixin_not : (front : Tokens) (v : Bool × StmtKind) (rest : Tokens) → FUnmixed front v → spec.mixin_stmt (front ++ rest) ≡ None
unfolding same_terminal
mixin_not front v rest (z, p, eq) = go (spec.mixin_stmt (front ++ rest)) ((mixin_good 0).sound (front ++ rest))
  where
    go : (r : Outcome (Bool × StmtKind)) → Holds FMixin (front ++ rest) r → r ≡ None
    go None h = refl
    go (Some r) h =
        let c = h.is.1 in
        let x = mixin_expr c.left h.is.0.0 c.one in
        let text : c.left ++ (c.right ++ r.1) ≡ p.left ++ (p.right ++ rest) = sym (append_assoc c.left c.right r.1) ∙ ap (λ (ts : Tokens). ts ++ r.1) (sym c.parts) ∙ sym h.parts ∙ ap (λ (ts : Tokens). ts ++ rest) p.parts ∙ append_assoc p.left p.right rest in
        let ends = same_end every_expr c.left p.left (c.right ++ r.1) (p.right ++ rest) x.0 z.0 x.1 p.one.0 text (rw (c.two.alone, c.two.is) refl) (rw (p.two.alone, p.two.is) refl) in
        let same : c.left ≡ p.left = same_front c.left p.left (p.right ++ rest) (ap (λ (ts : Tokens). c.left ++ ts) (sym ends.1) ∙ text) in
        absurd (p.one.1 h.is.0.0 (subst (λ (w : Tokens). Head k.Mixin w h.is.0.0) same c.one))

-- where it isn't read, an expression is none
unmixed_sound : (ts : Tokens) → spec.mixin_stmt ts ≡ None → (r : Outcome (Bool × StmtKind)) → Holds FExpr ts r → Holds FUnmixed ts r
unmixed_sound ts off None h = tt
unmixed_sound ts off (Some r) (h) = record { front = h.front; parts = h.parts; is = (h.is.0, record { left = q.left; right = q.right; parts = q.parts; one = (q.one, never); two = q.two }, h.is.2) }
  where
    q : Pair IsExpr (Marked k.Semicolon) h.front h.is.0
    q = h.is.1

    never : (y : Expr) → Head k.Mixin q.left y → ⊥
    never y m =
        let c : Reaches none (spec.mixin_stmt (h.front ++ r.1)) (closed (t.Mixin y)) r.1 = (mixin_good (length h.front)).reach h.front (closed (t.Mixin y)) r.1 (omega arith) ((y, tt), record { left = q.left; right = q.right; parts = q.parts; one = m; two = q.two }, refl) in
        let d : Reaches {A = Bool × StmtKind} none None (closed (t.Mixin y)) r.1 = rw (← h.parts, off) at c in d

pub simple_good : (n : ℕ) → Good n none begins_simple FSimple simple_read
unfolding same_terminal
simple_good n = record { sound = sound; reach = reach; begins = begins }
  where
    join : (ts : Tokens) (a b c : Outcome (Bool × StmtKind)) → Holds FMixin ts a → Holds FVariable ts b → (a ≡ None → Holds FUnmixed ts c) → Holds FSimple ts (or_else a (or_else b c))
    join ts (Some a) b c ha hb hc = record { front = ha.front; parts = ha.parts; is = inl ha.is }
    join ts None (Some b) c ha hb hc = record { front = hb.front; parts = hb.parts; is = inr (inl hb.is) }
    join ts None None (Some c) ha hb hc = let d = hc refl in record { front = d.front; parts = d.parts; is = inr (inr d.is) }
    join ts None None None ha hb hc = tt

    sound : (ts : Tokens) → Holds FSimple ts (simple_read ts)
    sound ts = join ts (spec.mixin_stmt ts) (((λ x. closed (t.Variable x)) <$> variable_read) ts) (spec.expr_stmt ts) ((mixin_good 0).sound ts) ((image (λ x. closed (t.Variable x)) (variable_good 0)).sound ts)
        (λ off. unmixed_sound ts off (spec.expr_stmt ts) ((expr_good 0).sound ts))

    first : (x : Bool × StmtKind) (rest : Tokens) (a b : Outcome (Bool × StmtKind)) → Reaches none a x rest → Reaches none (or_else a b) x rest
    first x rest (Some a) b h = h
    first x rest None b h = absurd h

    reach : (front : Tokens) (x : Bool × StmtKind) (rest : Tokens) → length front ≤ n → FSimple front x → Reaches none (simple_read (front ++ rest)) x rest
    reach front x rest len (inl h) = first x rest (spec.mixin_stmt (front ++ rest)) (spec.simple_stmt (front ++ rest)) ((mixin_good n).reach front x rest len h)
    reach front x rest len (inr (inl h)) =
        let b = (variable_good 0).begins front h.0 h.1 in
        let off : spec.mixin_stmt (front ++ rest) ≡ None = refused (mixin_good 0) (front ++ rest) (apart begins_variable (is k.Mixin) refl (ahead (front ++ rest)) (rw b.parts b.kind)) in
        rw off (first x rest (((λ x. closed (t.Variable x)) <$> variable_read) (front ++ rest)) (spec.expr_stmt (front ++ rest)) ((image (λ x. closed (t.Variable x)) (variable_good n)).reach front x rest len h))
    reach front x rest len (inr (inr (z, q, eq))) =
        let off : spec.mixin_stmt (front ++ rest) ≡ None = mixin_not front x rest (z, q, eq) in
        let off2 : variable_read (front ++ rest) ≡ None = ap (λ (ts : Tokens). variable_read (ts ++ rest)) q.parts ∙ variable_not q.left q.right z.0 rest q.one.0 q.two in
        let plain : FExpr front x = (z, record { left = q.left; right = q.right; parts = q.parts; one = q.one.0; two = q.two }, eq) in
        rw (off, off2) ((expr_good n).reach front x rest len plain)

    begins : (front : Tokens) (x : Bool × StmtKind) → FSimple front x → Begins begins_simple front
    begins front x (inl h) = let b = (mixin_good 0).begins front x h in record { head = b.head; tail = b.tail; parts = b.parts; kind = within (is k.Mixin) begins_simple refl (terminal_of b.head) b.kind }
    begins front x (inr (inl h)) = let b = (variable_good 0).begins front h.0 h.1 in record { head = b.head; tail = b.tail; parts = b.parts; kind = within begins_variable begins_simple refl (terminal_of b.head) b.kind }
    begins front x (inr (inr (z, q, eq))) =
        let b = (every_expr 0).begins q.left z.0 q.one.0 in
        record { head = b.head; tail = b.tail ++ q.right; parts = q.parts ∙ ap (λ (ts : Tokens). ts ++ q.right) b.parts; kind = within begins_expr begins_simple refl (terminal_of b.head) b.kind }

pub simple_into : (w : Tokens) (v : Bool × StmtKind) → FSimple w v → Kinds w v
simple_into w v (inl (z, q, eq)) = rw (← eq, q.parts) (g.mixin_stmt q.one q.two)
simple_into w v (inr (inl (x, h, eq))) = rw (← eq) (g.variable_stmt h)
simple_into w v (inr (inr (z, q, eq))) = rw (← eq, q.parts) (g.expr_stmt q.one.0 q.one.1 q.two)

abbrev pub FEnum : Tokens → Bool × StmtKind → Type 0
FEnum = Or (Image (λ x. closed (t.Enum x)) IsEnum) (Image (λ x. closed (t.Constant x)) IsConstant)

pub enum_good : (n : ℕ) → Good n none (or (is k.Enum) (is k.Enum)) FEnum spec.enum_stmt
unfolding spec.enum_stmt same_terminal
enum_good n = prefer (image (λ x. closed (t.Enum x)) (enumeration_good n)) (image (λ x. closed (t.Constant x)) (manifest_good n)) refl
    (λ front y rest h. over_none none (((λ x. closed (t.Enum x)) <$> enumeration) (front ++ rest)) rest (rw (enum_not front h.0 rest h.1) refl))

pub enum_into : (w : Tokens) (v : Bool × StmtKind) → FEnum w v → Kinds w v
enum_into w v (inl (x, h, eq)) = rw (← eq) (g.enum_stmt h)
enum_into w v (inr (x, h, eq)) = rw (← eq) (g.constant_stmt h)

pub break_good : (n : ℕ) → Good n none (is k.Break) (Image (λ z. closed t.Break) (Pair (Marked k.Break) (Marked k.Semicolon))) spec.break_stmt
unfolding spec.break_stmt same_terminal
break_good n = image (λ z. closed t.Break) (seq (mark_good n k.Break) (mark_good n k.Semicolon) (omega arith) refl)

pub continue_good : (n : ℕ) → Good n none (is k.Continue) (Image (λ z. closed t.Continue) (Pair (Marked k.Continue) (Marked k.Semicolon))) spec.continue_stmt
unfolding spec.continue_stmt same_terminal
continue_good n = image (λ z. closed t.Continue) (seq (mark_good n k.Continue) (mark_good n k.Semicolon) (omega arith) refl)

pub return_good : (n : ℕ) → Good n none (is k.Return) (Image (λ z. closed (t.Return z.1.0)) (Pair (Marked k.Return) (Pair (Optional IsExpr) (Marked k.Semicolon)))) spec.return_stmt
unfolding spec.return_stmt same_terminal
return_good n = image (λ z. closed (t.Return z.1.0)) (seq (mark_good n k.Return) (loose_seq (optional_good (every_expr n)) (mark_good n k.Semicolon) refl) (omega arith) refl)

-- ---- lists of statements

abbrev pub Flagged : Tokens → Bool × Stmt → Type 0
Flagged ts v = IsStmt v.0 ts v.1

pub stmts_into : (ts : Tokens) (xs : List Stmt) → Many (Image (λ v. v.1) Flagged) ts xs → AreStmts ts xs
stmts_into ts [] h = rw h g.no_stmts
stmts_into ts (x ∷ xs) (u, v, parts, (z, h, eq), others) = rw (parts, ← eq) (g.stmts h (stmts_into v xs others))

pub stmts_back : (ts : Tokens) (xs : List Stmt) → AreStmts ts xs → Many (Image (λ v. v.1) Flagged) ts xs
stmts_back ts xs g.no_stmts = refl
stmts_back ts xs (g.stmts {o = o} {w1 = w1} {w2 = w2} {s = x} {ss = ss} h c) = (w1, w2, refl, ((o, x), h, refl), stmts_back w2 ss c)

abbrev pub Body : Tokens → Bool × StmtBody → Type 0
Body ts v = IsStmtBody v.0 ts v.1

abbrev pub FIfBranch : Tokens → Bool × Branch → Type 0
FIfBranch = Image (λ z. (z.1.0, branch z.0 z.1.1)) (Pair (Head k.If) Flagged)

abbrev pub FStaticBranch : Tokens → Bool × StmtBranch → Type 0
FStaticBranch = Placed (λ at z. (z.1.0, stmt_branch at z.0 z.1.1)) (Pair IsStaticTest Body)

-- ---- chains

abbrev IfOf : Tokens → Bool → Branch → Type 0
IfOf w o b = (u : Tokens) × (v : Tokens) × (x : Expr) × (y : Stmt) × (w ≡ u ++ v) × (b ≡ branch x y) × Head k.If u x × IsStmt o v y

if_of : (w : Tokens) (o : Bool) (b : Branch) → FIfBranch w (o, b) → IfOf w o b
if_of w o b (z, q, eq) = (q.left, q.right, z.0, z.1.1, q.parts, sym (ap (λ (v : Bool × Branch). v.1) eq), q.one, subst (λ c. IsStmt c q.right z.1.1) (ap (λ (v : Bool × Branch). v.0) eq) q.two)

if_alone_from : (ts : Tokens) (c : Bool) (b : Branch) → IfOf ts c b → AreBranches true ts (b ∷ []) None
if_alone_from ts c b (u, v, x, y, parts, same, h, is) = rw (parts, same) (g.if_alone h is)

if_else_from : (w m r : Tokens) (b : Branch) (o : Bool) (l : Stmt) → IfOf w false b → Mark k.Else m → IsStmt o r l → begins_if r ≡ false → AreBranches o (w ++ (m ++ r)) (b ∷ []) (Some l)
if_else_from w m r b o l (u, v, x, y, parts, same, h, is) mk d off = rw (parts, same, append_assoc u v (m ++ r)) (g.if_else h is mk d off)

if_more_from : (w m r : Tokens) (b : Branch) (o : Bool) (bs : List Branch) (last : Option Stmt) → IfOf w false b → Mark k.Else m → AreBranches o r bs last → AreBranches o (w ++ (m ++ r)) (b ∷ bs) last
if_more_from w m r b o bs last (u, v, x, y, parts, same, h, is) mk d = rw (parts, same, append_assoc u v (m ++ r)) (g.if_more h is mk d)

pub branches_into : (ts : Tokens) (o : Bool) (bs : List Branch) (last : Option Stmt) → FChain FIfBranch Flagged begins_if ts o bs last → AreBranches o ts bs last
branches_into ts o [] last h = absurd h
branches_into ts o (b ∷ []) None (eq, c, r) = rw eq (if_alone_from ts c b (if_of ts c b r))
branches_into ts o (b ∷ []) (Some l) (a, m, w, parts, r, mk, h, off) = rw parts (if_else_from a m w b o l (if_of a false b r) mk h off)
branches_into ts o (b ∷ (d ∷ bs)) last (a, m, w, parts, r, mk, h) = rw parts (if_more_from a m w b o (d ∷ bs) last (if_of a false b r) mk (branches_into w o (d ∷ bs) last h))

pub branches_back : (ts : Tokens) (o : Bool) (bs : List Branch) (last : Option Stmt) → AreBranches o ts bs last → FChain FIfBranch Flagged begins_if ts o bs last
branches_back ts o bs last (g.if_alone {o = c} {w1 = w1} {w2 = w2} {x = x} {s = y} h is) = (refl, c, ((x, (c, y)), pair w1 w2 h is, refl))
branches_back ts o bs last (g.if_else {w1 = w1} {w2 = w2} {w3 = w3} {w4 = w4} {x = x} {s = y} h is mk c off) = (w1 ++ w2, w3, w4, sym (append_assoc w1 w2 (w3 ++ w4)), ((x, (false, y)), pair w1 w2 h is, refl), mk, c, off)
branches_back ts o bs last (g.if_more {w1 = w1} {w2 = w2} {w3 = w3} {w4 = w4} {x = x} {s = y} {bs = ds} h is mk c) = longer ds (branches_back w4 o ds last c)
  where
    longer : (ds : List Branch) → FChain FIfBranch Flagged begins_if w4 o ds last → FChain FIfBranch Flagged begins_if (w1 ++ (w2 ++ (w3 ++ w4))) o (branch x y ∷ ds) last
    longer [] h2 = absurd h2
    longer (d ∷ ds) h2 = (w1 ++ w2, w3, w4, sym (append_assoc w1 w2 (w3 ++ w4)), ((x, (false, y)), pair w1 w2 h is, refl), mk, h2)

abbrev StaticOf : Tokens → Bool → StmtBranch → Type 0
StaticOf w o b = (u : Tokens) × (v : Tokens) × (x : StaticTest) × (y : StmtBody) × (w ≡ u ++ v) × (b ≡ stmt_branch (start_of w) x y) × IsStaticTest u x × IsStmtBody o v y

static_of : (w : Tokens) (o : Bool) (b : StmtBranch) → FStaticBranch w (o, b) → StaticOf w o b
static_of w o b (z, q, eq) = (q.left, q.right, z.0, z.1.1, q.parts, sym (ap (λ (v : Bool × StmtBranch). v.1) eq), q.one, subst (λ c. IsStmtBody c q.right z.1.1) (ap (λ (v : Bool × StmtBranch). v.0) eq) q.two)

static_alone_from : (ts : Tokens) (c : Bool) (b : StmtBranch) → StaticOf ts c b → AreStmtBranches true ts (b ∷ []) None
static_alone_from ts c b (u, v, x, y, parts, same, h, is) = rw (same, parts) (g.static_alone h is)

static_else_from : (w m r : Tokens) (b : StmtBranch) (o : Bool) (l : StmtBody) → StaticOf w false b → Mark k.Else m → IsStmtBody o r l → begins_conditional r ≡ false → AreStmtBranches o (w ++ (m ++ r)) (b ∷ []) (Some l)
static_else_from w m r b o l (u, v, x, y, parts, same, h, is) mk d off =
    let same2 : b ≡ stmt_branch (start_of (u ++ (v ++ (m ++ r)))) x y = same ∙ ap (λ (n : ℕ). stmt_branch n x y) (ap start_of parts ∙ sym (start_less u v (m ++ r) x h)) in
    rw (parts, same2, append_assoc u v (m ++ r)) (g.static_else h is mk d off)

static_more_from : (w m r : Tokens) (b : StmtBranch) (o : Bool) (bs : List StmtBranch) (last : Option StmtBody) → StaticOf w false b → Mark k.Else m → AreStmtBranches o r bs last → AreStmtBranches o (w ++ (m ++ r)) (b ∷ bs) last
static_more_from w m r b o bs last (u, v, x, y, parts, same, h, is) mk d =
    let same2 : b ≡ stmt_branch (start_of (u ++ (v ++ (m ++ r)))) x y = same ∙ ap (λ (n : ℕ). stmt_branch n x y) (ap start_of parts ∙ sym (start_less u v (m ++ r) x h)) in
    rw (parts, same2, append_assoc u v (m ++ r)) (g.static_more h is mk d)

pub static_into : (ts : Tokens) (o : Bool) (bs : List StmtBranch) (last : Option StmtBody) → FChain FStaticBranch Body begins_conditional ts o bs last → AreStmtBranches o ts bs last
static_into ts o [] last h = absurd h
static_into ts o (b ∷ []) None (eq, c, r) = rw eq (static_alone_from ts c b (static_of ts c b r))
static_into ts o (b ∷ []) (Some l) (a, m, w, parts, r, mk, h, off) = rw parts (static_else_from a m w b o l (static_of a false b r) mk h off)
static_into ts o (b ∷ (d ∷ bs)) last (a, m, w, parts, r, mk, h) = rw parts (static_more_from a m w b o (d ∷ bs) last (static_of a false b r) mk (static_into w o (d ∷ bs) last h))

pub static_back : (ts : Tokens) (o : Bool) (bs : List StmtBranch) (last : Option StmtBody) → AreStmtBranches o ts bs last → FChain FStaticBranch Body begins_conditional ts o bs last
static_back ts o bs last (g.static_alone {o = c} {w1 = w1} {w2 = w2} {x = x} {b = y} h is) = (refl, c, ((x, (c, y)), pair w1 w2 h is, refl))
static_back ts o bs last (g.static_else {w1 = w1} {w2 = w2} {w3 = w3} {w4 = w4} {x = x} {b = y} h is mk c off) =
    (w1 ++ w2, w3, w4, sym (append_assoc w1 w2 (w3 ++ w4)), ((x, (false, y)), pair w1 w2 h is, ap (λ (n : ℕ). (false, stmt_branch n x y)) (sym (start_less w1 w2 (w3 ++ w4) x h))), mk, c, off)
static_back ts o bs last (g.static_more {w1 = w1} {w2 = w2} {w3 = w3} {w4 = w4} {x = x} {b = y} {bs = ds} h is mk c) = longer ds (static_back w4 o ds last c)
  where
    longer : (ds : List StmtBranch) → FChain FStaticBranch Body begins_conditional w4 o ds last → FChain FStaticBranch Body begins_conditional (w1 ++ (w2 ++ (w3 ++ w4))) o (stmt_branch (start_of (w1 ++ (w2 ++ (w3 ++ w4)))) x y ∷ ds) last
    longer [] h2 = absurd h2
    longer (d ∷ ds) h2 = (w1 ++ w2, w3, w4, sym (append_assoc w1 w2 (w3 ++ w4)), ((x, (false, y)), pair w1 w2 h is, ap (λ (n : ℕ). (false, stmt_branch n x y)) (sym (start_less w1 w2 (w3 ++ w4) x h))), mk, h2)

-- Of statements, the index of the grammar says whether an `else` that follows would belong to them.
use Rattle.std.proofs.Common.{◌≡◌, ◌∙◌, sym, ap, ℕ, Bool, false, List, [], ◌∷◌, Option, Some, None}
use Rattle.dc_ast.specs.declared.expression.Expr.{Expr}
use Rattle.dc_ast.specs.declared.statement.Stmt.{Stmt}
use Rattle.dc_ast.specs.declared.statement.StmtKind.{StmtKind}
use Rattle.dc_ast.specs.declared.statement.StmtKind.TheVariants as t
use Rattle.dc_ast.specs.declared.statement.Branch.{Branch}
use Rattle.dc_ast.specs.declared.statement.Group.{Group}
use Rattle.dc_ast.specs.declared.statement.StaticTest.{StaticTest}
use Rattle.dc_ast.specs.declared.statement.StmtBranch.{StmtBranch}
use Rattle.dc_ast.specs.declared.statement.StmtBody.{StmtBody}
use Rattle.dc_ast.specs.declared.statement.StmtBody.TheVariants as body
use Rattle.dc_ast.specs.declared.statement.StaticStatement.{StaticStatement}
use Rattle.dc_ast.specs.declared.statement.StaticStatement.TheVariants as static
use Rattle.dc_ast.specs.declared.statement.StaticStatement.TheOpen.{StaticStatement-F, StmtBody-F, StmtKind-F}
use Rattle.dc_ast.specs.declared.statement.StaticStatement.TheViews.{roll-StmtKind, roll-StmtBody, roll-StaticStatement}
use Rattle.dc_ast.specs.declared.statement.StaticStatement.TheFolds.{fold-Group, map-StmtKind, map-StmtBody, map-StaticStatement, fold-roll-Stmt, fold-roll-StmtKind, fold-roll-StmtBody, fold-roll-StaticStatement, fold-roll-Branch, fold-roll-StmtBranch}
use Rattle.dc_grammar.specs.Terminals.{Tokens}
use Rattle.dc_grammar.specs.MoreTrees.{stmt, branch, stmt_branch}
use Rattle.dc_grammar.specs.Statements as st
use Rattle.dc_grammar.specs.Statements.{IsStmt, IsStmtKind, AreBranches, AreStmtBranches, IsStmtBody}
use Rattle.dc_grammar.specs.Dangling.{static_stmt_step, stmt_body_step, stmt_kind_step, stmt_takes_else, stmt_kind_takes_else, static_stmt_takes_else, stmt_body_takes_else, branch_takes_else, stmt_branch_takes_else, EachElseIsNearest}

abbrev group_takes_else : Group → Bool
group_takes_else = fold-Group Bool Bool Bool Bool Bool Bool Bool static_stmt_step stmt_body_step stmt_kind_step (λ b. b.body) (λ _. false) (λ s. s.kind) (λ b. b.body)

-- ---- a form by its parts

of_stmt : (at : ℕ) (kind : StmtKind) → stmt_kind_takes_else kind ≡ stmt_takes_else (stmt at kind)
of_stmt at kind = sym (fold-roll-Stmt Bool Bool Bool Bool Bool Bool Bool static_stmt_step stmt_body_step stmt_kind_step (λ b. b.body) (λ _. false) (λ s. s.kind) (λ b. b.body) (record { at = at; kind = kind }))

of_kind : {x : StmtKind} (k : StmtKind-F StaticStatement StmtBody StmtKind Branch Group Stmt StmtBranch) → roll-StmtKind k ≡ x → stmt_kind_step (map-StmtKind StaticStatement StmtBody StmtKind Branch Group Stmt StmtBranch Bool Bool Bool Bool Bool Bool Bool static_stmt_takes_else stmt_body_takes_else stmt_kind_takes_else branch_takes_else group_takes_else stmt_takes_else stmt_branch_takes_else k) ≡ stmt_kind_takes_else x
of_kind k is = sym (fold-roll-StmtKind Bool Bool Bool Bool Bool Bool Bool static_stmt_step stmt_body_step stmt_kind_step (λ b. b.body) (λ _. false) (λ s. s.kind) (λ b. b.body) k) ∙ ap stmt_kind_takes_else is

of_static : {x : StaticStatement} (k : StaticStatement-F StaticStatement StmtBody StmtKind Branch Group Stmt StmtBranch) → roll-StaticStatement k ≡ x → static_stmt_step (map-StaticStatement StaticStatement StmtBody StmtKind Branch Group Stmt StmtBranch Bool Bool Bool Bool Bool Bool Bool static_stmt_takes_else stmt_body_takes_else stmt_kind_takes_else branch_takes_else group_takes_else stmt_takes_else stmt_branch_takes_else k) ≡ static_stmt_takes_else x
of_static k is = sym (fold-roll-StaticStatement Bool Bool Bool Bool Bool Bool Bool static_stmt_step stmt_body_step stmt_kind_step (λ b. b.body) (λ _. false) (λ s. s.kind) (λ b. b.body) k) ∙ ap static_stmt_takes_else is

of_body : {x : StmtBody} (k : StmtBody-F StaticStatement StmtBody StmtKind Branch Group Stmt StmtBranch) → roll-StmtBody k ≡ x → stmt_body_step (map-StmtBody StaticStatement StmtBody StmtKind Branch Group Stmt StmtBranch Bool Bool Bool Bool Bool Bool Bool static_stmt_takes_else stmt_body_takes_else stmt_kind_takes_else branch_takes_else group_takes_else stmt_takes_else stmt_branch_takes_else k) ≡ stmt_body_takes_else x
of_body k is = sym (fold-roll-StmtBody Bool Bool Bool Bool Bool Bool Bool static_stmt_step stmt_body_step stmt_kind_step (λ b. b.body) (λ _. false) (λ s. s.kind) (λ b. b.body) k) ∙ ap stmt_body_takes_else is

of_branch : (x : Expr) (s : Stmt) → branch_takes_else (branch x s) ≡ stmt_takes_else s
of_branch x s = fold-roll-Branch Bool Bool Bool Bool Bool Bool Bool static_stmt_step stmt_body_step stmt_kind_step (λ b. b.body) (λ _. false) (λ s. s.kind) (λ b. b.body) (record { condition = x; body = s })

of_stmt_branch : (at : ℕ) (x : StaticTest) (b : StmtBody) → stmt_branch_takes_else (stmt_branch at x b) ≡ stmt_body_takes_else b
of_stmt_branch at x b = fold-roll-StmtBranch Bool Bool Bool Bool Bool Bool Bool static_stmt_step stmt_body_step stmt_kind_step (λ b. b.body) (λ _. false) (λ s. s.kind) (λ b. b.body) (record { at = at; test = x; body = b })

-- ---- every form

mutual
  pub in_stmt : {o : Bool} {w : Tokens} {x : Stmt} → IsStmt o w x → o ≡ stmt_takes_else x
  in_stmt (st.a_stmt {x = x} h) = in_kind h ∙ of_stmt _ x

  in_kind : {o : Bool} {w : Tokens} {x : StmtKind} → IsStmtKind o w x → o ≡ stmt_kind_takes_else x
  in_kind (st.block {ss = ss} m1 h m3) = of_kind (StmtKind-F.Block ss) (t.rolls-Block ss)
  in_kind (st.empty m) = of_kind StmtKind-F.Empty t.rolls-Empty
  in_kind (st.variable_stmt {x = x} h) = of_kind (StmtKind-F.Variable x) (t.rolls-Variable x)
  in_kind (st.enum_stmt {x = x} h) = of_kind (StmtKind-F.Enum x) (t.rolls-Enum x)
  in_kind (st.constant_stmt {x = x} h) = of_kind (StmtKind-F.Constant x) (t.rolls-Constant x)
  in_kind (st.alias_stmt {x = x} h) = of_kind (StmtKind-F.Alias x) (t.rolls-Alias x)
  in_kind (st.import_stmt {x = x} h) = of_kind (StmtKind-F.Import x) (t.rolls-Import x)
  in_kind (st.conditional_stmt {bs = bs} {last = last} h) = in_static h ∙ of_kind (StmtKind-F.Static (static.Conditional bs last)) (t.rolls-Static _)
  in_kind (st.foreach_static {r = r} {b = b} h1 h2) = in_body h2 ∙ of_static (StaticStatement-F.«StaticStatement::Foreach» r b) (static.rolls-Foreach r b) ∙ of_kind (StmtKind-F.Static (static.Foreach r b)) (t.rolls-Static _)
  in_kind (st.assert_static {x = x} h) = of_static (StaticStatement-F.Assert x) (static.rolls-Assert x) ∙ of_kind (StmtKind-F.Static (static.Assert x)) (t.rolls-Static _)
  in_kind (st.expr_stmt {x = x} h other m) = of_kind (StmtKind-F.Expr x) (t.rolls-Expr x)
  in_kind (st.mixin_stmt {x = x} h m) = of_kind (StmtKind-F.Mixin x) (t.rolls-Mixin x)
  in_kind (st.if_stmt h) = in_branches h
  in_kind (st.while_stmt {x = x} {s = s} h1 h2) = in_stmt h2 ∙ of_kind (StmtKind-F.While x s) (t.rolls-While x s)
  in_kind (st.do_stmt {x = x} {s = s} m1 h2 h3 m4) = of_kind (StmtKind-F.Do s x) (t.rolls-Do s x)
  in_kind (st.for_stmt {start = start} {x = x} {y = y} {s = s} m1 m2 h3 h4 m5 h6 m7 h8) = in_stmt h8 ∙ of_kind (StmtKind-F.For start x y s) (t.rolls-For start x y s)
  in_kind (st.foreach_stmt {ns = ns} {x = x} {y = y} {s = s} m1 m2 h3 m4 h5 h6 m7 h8) = in_stmt h8 ∙ of_kind (StmtKind-F.«StmtKind::Foreach» ns x y s) (t.rolls-Foreach ns x y s)
  in_kind (st.switch_stmt {x = x} {ss = ss} {gs = gs} h1 m2 h3 h4 m5) = of_kind (StmtKind-F.Switch x ss gs) (t.rolls-Switch x ss gs)
  in_kind (st.break_stmt m1 m2) = of_kind StmtKind-F.Break t.rolls-Break
  in_kind (st.continue_stmt m1 m2) = of_kind StmtKind-F.Continue t.rolls-Continue
  in_kind (st.return_stmt {x = x} m1 h2 m3) = of_kind (StmtKind-F.Return x) (t.rolls-Return x)

  in_branches : {o : Bool} {w : Tokens} {bs : List Branch} {last : Option Stmt} → AreBranches o w bs last → o ≡ stmt_kind_takes_else (t.If bs last)
  in_branches (st.if_alone {x = x} {s = s} h1 h2) = of_kind (StmtKind-F.If (branch x s ∷ []) None) (t.rolls-If _ None)
  in_branches (st.if_else {x = x} {s = s} {r = r} h1 h2 m3 h4 off) = in_stmt h4 ∙ of_kind (StmtKind-F.If (branch x s ∷ []) (Some r)) (t.rolls-If _ (Some r))
  in_branches (st.if_more {x = x} {s = s} {bs = bs} {last = last} h1 h2 m3 h4) = in_branches h4 ∙ sym (of_kind (StmtKind-F.If bs last) (t.rolls-If bs last)) ∙ of_kind (StmtKind-F.If (branch x s ∷ bs) last) (t.rolls-If _ last)

  in_static : {o : Bool} {w : Tokens} {bs : List StmtBranch} {last : Option StmtBody} → AreStmtBranches o w bs last → o ≡ static_stmt_takes_else (static.Conditional bs last)
  in_static (st.static_alone h1 h2) = of_static (StaticStatement-F.Conditional _ None) (static.rolls-Conditional _ None)
  in_static (st.static_else {c = c} h1 h2 m3 h4 off) = in_body h4 ∙ of_static (StaticStatement-F.Conditional _ (Some c)) (static.rolls-Conditional _ (Some c))
  in_static (st.static_more {bs = bs} {last = last} h1 h2 m3 h4) = in_static h4 ∙ sym (of_static (StaticStatement-F.Conditional bs last) (static.rolls-Conditional bs last)) ∙ of_static (StaticStatement-F.Conditional _ last) (static.rolls-Conditional _ last)

  in_body : {o : Bool} {w : Tokens} {x : StmtBody} → IsStmtBody o w x → o ≡ stmt_body_takes_else x
  in_body (st.one_stmt {s = s} h other) = in_stmt h ∙ of_body (StmtBody-F.One s) (body.rolls-One s)
  in_body (st.stmts_in_braces {ss = ss} m1 h m3) = of_body (StmtBody-F.Braces ss) (body.rolls-Braces ss)

-- ---- each `else` of a chain

-- one more branch before an `else`
pub more : {B L : Type 0} (takes_else : B → Bool) (b : B) (bs : List B) (last : Option L) → takes_else b ≡ false → EachElseIsNearest takes_else bs last → EachElseIsNearest takes_else (b ∷ bs) last
more takes_else b [] None e h = tt
more takes_else b [] (Some last) e h = e
more takes_else b (c ∷ bs) last e h = (e, h)

pub each : {o : Bool} {w : Tokens} {bs : List Branch} {last : Option Stmt} → AreBranches o w bs last → EachElseIsNearest branch_takes_else bs last
each (st.if_alone h1 h2) = tt
each (st.if_else {x = x} {s = s} h1 h2 m3 h4 off) = of_branch x s ∙ sym (in_stmt h2)
each (st.if_more {x = x} {s = s} h1 h2 m3 h4) = more branch_takes_else _ _ _ (of_branch x s ∙ sym (in_stmt h2)) (each h4)

pub each_static : {o : Bool} {w : Tokens} {bs : List StmtBranch} {last : Option StmtBody} → AreStmtBranches o w bs last → EachElseIsNearest stmt_branch_takes_else bs last
each_static (st.static_alone h1 h2) = tt
each_static (st.static_else {x = x} {b = b} h1 h2 m3 h4 off) = of_stmt_branch _ x b ∙ sym (in_body h2)
each_static (st.static_more {x = x} {b = b} h1 h2 m3 h4) = more stmt_branch_takes_else _ _ _ (of_stmt_branch _ x b ∙ sym (in_body h2)) (each_static h4)

-- The grammar of statements. The first index says whether an `else` that follows would belong to the statement.
use Rattle.std.specs.Prelude.{◌≡◌, ◌&&◌, ◌||◌, Bool, true, false, List, [], ◌∷◌, Option, Some, None}
use Rattle.dc_ast.specs.declared.expression.Expr.{Expr}
use Rattle.dc_ast.specs.declared.statement.Stmt.{Stmt}
use Rattle.dc_ast.specs.declared.statement.StmtKind.{StmtKind}
use Rattle.dc_ast.specs.declared.statement.StmtKind.TheVariants as t
use Rattle.dc_ast.specs.declared.statement.Branch.{Branch}
use Rattle.dc_ast.specs.declared.statement.Group.{Group}
use Rattle.dc_ast.specs.declared.statement.Label.{Label}
use Rattle.dc_ast.specs.declared.statement.LoopName.{LoopName}
use Rattle.dc_ast.specs.declared.statement.ForStart.{ForStart}
use Rattle.dc_ast.specs.declared.statement.StaticStatement.TheVariants as static
use Rattle.dc_ast.specs.declared.statement.StaticTest.{StaticTest}
use Rattle.dc_ast.specs.declared.statement.StaticRange.{StaticRange}
use Rattle.dc_ast.specs.declared.statement.StaticAssert.{StaticAssert}
use Rattle.dc_ast.specs.declared.statement.StmtBranch.{StmtBranch}
use Rattle.dc_ast.specs.declared.statement.StmtBody.{StmtBody}
use Rattle.dc_ast.specs.declared.statement.StmtBody.TheVariants as body
use Rattle.dc_ast.specs.declared.statement.VariableTree.{VariableTree}
use Rattle.dc_ast.specs.declared.statement.EnumTree.{EnumTree}
use Rattle.dc_ast.specs.declared.statement.ConstantTree.{ConstantTree}
use Rattle.dc_ast.specs.declared.statement.AliasTree.{AliasTree}
use Rattle.dc_ast.specs.declared.statement.ImportTree.{ImportTree}
use Rattle.dc_grammar.specs.declared.terminal.Terminal.{Terminal}
use Rattle.dc_grammar.specs.declared.terminal.Terminal.TheVariants as k
use Rattle.dc_grammar.specs.Terminals.{Tokens, ahead, start_of, same_terminal}
use Rattle.dc_grammar.specs.MoreTrees.{stmt, branch, group, stmt_branch}
use Rattle.dc_grammar.specs.Grammar.{◌·◌, Mark, IsExpr}
use Rattle.dc_grammar.specs.Shapes.{Optional, After}
use Rattle.dc_grammar.specs.Parts.{Head, IsImport, IsEnum, IsConstant, IsAlias, IsVariable, IsStaticTest, IsStaticRange, IsStaticAssert, IsForStart, AreLoops, IsLabel}

-- the terminal of the second token
abbrev pub second : Tokens → Terminal
second [] = k.End
second (token ∷ tokens) = ahead tokens

-- an `if` begins there
abbrev pub begins_if : Tokens → Bool
begins_if w = same_terminal (ahead w) k.If

-- a `static if` or a `version` begins there
abbrev pub begins_conditional : Tokens → Bool
begins_conditional w = (same_terminal (ahead w) k.Static && same_terminal (second w) k.If) || same_terminal (ahead w) k.Version

mutual
  pub data IsStmt : Bool → Tokens → Stmt → Type 0 where
    a_stmt : {o : Bool} {w : Tokens} {x : StmtKind} → IsStmtKind o w x → IsStmt o w (stmt (start_of w) x)

  pub data IsStmtKind : Bool → Tokens → StmtKind → Type 0 where
    block : {w1 w2 w3 : Tokens} {ss : List Stmt} → Mark k.LeftBrace w1 → AreStmts w2 ss → Mark k.RightBrace w3 → IsStmtKind false (w1 · w2 · w3) (t.Block ss)
    empty : {w : Tokens} → Mark k.Semicolon w → IsStmtKind false w t.Empty
    variable_stmt : {w : Tokens} {x : VariableTree} → IsVariable w x → IsStmtKind false w (t.Variable x)
    enum_stmt : {w : Tokens} {x : EnumTree} → IsEnum w x → IsStmtKind false w (t.Enum x)
    constant_stmt : {w : Tokens} {x : ConstantTree} → IsConstant w x → IsStmtKind false w (t.Constant x)
    alias_stmt : {w : Tokens} {x : AliasTree} → IsAlias w x → IsStmtKind false w (t.Alias x)
    import_stmt : {w : Tokens} {x : ImportTree} → IsImport w x → IsStmtKind false w (t.Import x)
    conditional_stmt : {o : Bool} {w : Tokens} {bs : List StmtBranch} {last : Option StmtBody} → AreStmtBranches o w bs last → IsStmtKind o w (t.Static (static.Conditional bs last))
    foreach_static : {o : Bool} {w1 w2 : Tokens} {r : StaticRange} {b : StmtBody} → IsStaticRange w1 r → IsStmtBody o w2 b → IsStmtKind o (w1 · w2) (t.Static (static.Foreach r b))
    assert_static : {w : Tokens} {x : StaticAssert} → IsStaticAssert w x → IsStmtKind false w (t.Static (static.Assert x))
    -- an expression that is no `mixin(..)` alone
    expr_stmt : {w1 w2 : Tokens} {x : Expr} → IsExpr w1 x → ((y : Expr) → Head k.Mixin w1 y → ⊥) → Mark k.Semicolon w2 → IsStmtKind false (w1 · w2) (t.Expr x)
    mixin_stmt : {w1 w2 : Tokens} {x : Expr} → Head k.Mixin w1 x → Mark k.Semicolon w2 → IsStmtKind false (w1 · w2) (t.Mixin x)
    if_stmt : {o : Bool} {w : Tokens} {bs : List Branch} {last : Option Stmt} → AreBranches o w bs last → IsStmtKind o w (t.If bs last)
    while_stmt : {o : Bool} {w1 w2 : Tokens} {x : Expr} {s : Stmt} → Head k.While w1 x → IsStmt o w2 s → IsStmtKind o (w1 · w2) (t.While x s)
    do_stmt : {o : Bool} {w1 w2 w3 w4 : Tokens} {x : Expr} {s : Stmt} → Mark k.Do w1 → IsStmt o w2 s → Head k.While w3 x → Mark k.Semicolon w4 → IsStmtKind false (w1 · w2 · w3 · w4) (t.Do s x)
    for_stmt : {o : Bool} {w1 w2 w3 w4 w5 w6 w7 w8 : Tokens} {start : ForStart} {x y : Option Expr} {s : Stmt} → Mark k.For w1 → Mark k.LeftParen w2 → IsForStart w3 start → Optional IsExpr w4 x
        → Mark k.Semicolon w5 → Optional IsExpr w6 y → Mark k.RightParen w7 → IsStmt o w8 s → IsStmtKind o (w1 · w2 · w3 · w4 · w5 · w6 · w7 · w8) (t.For start x y s)
    foreach_stmt : {o : Bool} {w1 w2 w3 w4 w5 w6 w7 w8 : Tokens} {ns : List LoopName} {x : Expr} {y : Option Expr} {s : Stmt} → Mark k.Foreach w1 → Mark k.LeftParen w2 → AreLoops w3 ns
        → Mark k.Semicolon w4 → IsExpr w5 x → Optional (After k.DotDot IsExpr) w6 y → Mark k.RightParen w7 → IsStmt o w8 s → IsStmtKind o (w1 · w2 · w3 · w4 · w5 · w6 · w7 · w8) (t.Foreach ns x y s)
    switch_stmt : {w1 w2 w3 w4 w5 : Tokens} {x : Expr} {ss : List Stmt} {gs : List Group} → Head k.Switch w1 x → Mark k.LeftBrace w2 → AreStmts w3 ss → AreGroups w4 gs → Mark k.RightBrace w5
        → IsStmtKind false (w1 · w2 · w3 · w4 · w5) (t.Switch x ss gs)
    break_stmt : {w1 w2 : Tokens} → Mark k.Break w1 → Mark k.Semicolon w2 → IsStmtKind false (w1 · w2) t.Break
    continue_stmt : {w1 w2 : Tokens} → Mark k.Continue w1 → Mark k.Semicolon w2 → IsStmtKind false (w1 · w2) t.Continue
    return_stmt : {w1 w2 w3 : Tokens} {x : Option Expr} → Mark k.Return w1 → Optional IsExpr w2 x → Mark k.Semicolon w3 → IsStmtKind false (w1 · w2 · w3) (t.Return x)

  -- {Stmt}
  pub data AreStmts : Tokens → List Stmt → Type 0 where
    no_stmts : AreStmts [] []
    stmts : {o : Bool} {w1 w2 : Tokens} {s : Stmt} {ss : List Stmt} → IsStmt o w1 s → AreStmts w2 ss → AreStmts (w1 · w2) (s ∷ ss)

  -- {Label {Stmt}}
  pub data AreGroups : Tokens → List Group → Type 0 where
    no_groups : AreGroups [] []
    groups : {w1 w2 w3 : Tokens} {l : Label} {ss : List Stmt} {gs : List Group} → IsLabel w1 l → AreStmts w2 ss → AreGroups w3 gs → AreGroups (w1 · w2 · w3) (group (start_of w1) l ss ∷ gs)

  -- "if" "(" Expr ")" Stmt ["else" Stmt], where an `else` belongs to the nearest `if`, and a chain of them is one list
  pub data AreBranches : Bool → Tokens → List Branch → Option Stmt → Type 0 where
    if_alone : {o : Bool} {w1 w2 : Tokens} {x : Expr} {s : Stmt} → Head k.If w1 x → IsStmt o w2 s → AreBranches true (w1 · w2) (branch x s ∷ []) None
    if_else : {o : Bool} {w1 w2 w3 w4 : Tokens} {x : Expr} {s r : Stmt} → Head k.If w1 x → IsStmt false w2 s → Mark k.Else w3 → IsStmt o w4 r → begins_if w4 ≡ false
        → AreBranches o (w1 · w2 · w3 · w4) (branch x s ∷ []) (Some r)
    if_more : {o : Bool} {w1 w2 w3 w4 : Tokens} {x : Expr} {s : Stmt} {bs : List Branch} {last : Option Stmt} → Head k.If w1 x → IsStmt false w2 s → Mark k.Else w3 → AreBranches o w4 bs last
        → AreBranches o (w1 · w2 · w3 · w4) (branch x s ∷ bs) last

  -- the same of `static if` and `version`
  pub data AreStmtBranches : Bool → Tokens → List StmtBranch → Option StmtBody → Type 0 where
    static_alone : {o : Bool} {w1 w2 : Tokens} {x : StaticTest} {b : StmtBody} → IsStaticTest w1 x → IsStmtBody o w2 b → AreStmtBranches true (w1 · w2) (stmt_branch (start_of (w1 · w2)) x b ∷ []) None
    static_else : {o : Bool} {w1 w2 w3 w4 : Tokens} {x : StaticTest} {b c : StmtBody} → IsStaticTest w1 x → IsStmtBody false w2 b → Mark k.Else w3 → IsStmtBody o w4 c → begins_conditional w4 ≡ false
        → AreStmtBranches o (w1 · w2 · w3 · w4) (stmt_branch (start_of (w1 · w2 · w3 · w4)) x b ∷ []) (Some c)
    static_more : {o : Bool} {w1 w2 w3 w4 : Tokens} {x : StaticTest} {b : StmtBody} {bs : List StmtBranch} {last : Option StmtBody} → IsStaticTest w1 x → IsStmtBody false w2 b → Mark k.Else w3
        → AreStmtBranches o w4 bs last → AreStmtBranches o (w1 · w2 · w3 · w4) (stmt_branch (start_of (w1 · w2 · w3 · w4)) x b ∷ bs) last

  -- Body = Stmt | "{" {Stmt} "}", where what begins with a brace is the form in braces
  pub data IsStmtBody : Bool → Tokens → StmtBody → Type 0 where
    one_stmt : {o : Bool} {w : Tokens} {s : Stmt} → IsStmt o w s → same_terminal (ahead w) k.LeftBrace ≡ false → IsStmtBody o w (body.One s)
    stmts_in_braces : {w1 w2 w3 : Tokens} {ss : List Stmt} → Mark k.LeftBrace w1 → AreStmts w2 ss → Mark k.RightBrace w3 → IsStmtBody false (w1 · w2 · w3) (body.Braces ss)

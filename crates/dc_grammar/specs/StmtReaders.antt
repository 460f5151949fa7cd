-- The readers of statements, with statements read one level further down by `inner`. What is read says whether an
-- `else` that follows would belong to it.
use Rattle.std.specs.Prelude.{ℕ, zero, suc, Bool, true, false, List, [], ◌∷◌, length, Option, Some, None}
use Rattle.dc_ast.specs.declared.statement.Stmt.{Stmt}
use Rattle.dc_ast.specs.declared.statement.StmtKind.{StmtKind}
use Rattle.dc_ast.specs.declared.statement.StmtKind.TheVariants as t
use Rattle.dc_ast.specs.declared.statement.Branch.{Branch}
use Rattle.dc_ast.specs.declared.statement.Group.{Group}
use Rattle.dc_ast.specs.declared.statement.StaticStatement.TheVariants as static
use Rattle.dc_ast.specs.declared.statement.StmtBranch.{StmtBranch}
use Rattle.dc_ast.specs.declared.statement.StmtBody.{StmtBody}
use Rattle.dc_ast.specs.declared.statement.StmtBody.TheVariants as body
use Rattle.dc_grammar.specs.declared.terminal.Terminal.{Terminal}
use Rattle.dc_grammar.specs.declared.terminal.Terminal.TheVariants as k
use Rattle.dc_grammar.specs.Terminals.{Tokens, ahead}
use Rattle.dc_grammar.specs.MoreTrees.{stmt, branch, group, stmt_branch}
use Rattle.dc_grammar.specs.Statements.{second, begins_if, begins_conditional}
use Rattle.dc_grammar.specs.Reading.{Reader, mark, both, either, ◌<$>◌, ◌>>=◌, pure, maybe, many, from_start, nothing}
use Rattle.dc_grammar.specs.Readers.{whole_expr}
use Rattle.dc_grammar.specs.PartReaders.{after, head, imported, static_import, enumeration, manifest, alias_read, variable_read, static_test, static_over, static_check, for_start, loops, maybe_end, label_read}

-- ---- a chain of branches with `else` between them

-- a branch, and what follows it behind an `else`
abbrev pub joined : {B L : Type 0} → B → Option (Bool × (List B × Option L)) → Bool × (List B × Option L)
joined b None = (true, (b ∷ [], None))
joined b (Some v) = (v.0, (b ∷ v.1.0, v.1.1))

module _ {B L : Type 0} (first : Reader (Bool × B)) (opens : Tokens → Bool) (other : Reader (Bool × L)) where
  abbrev pub last_else : Reader (Bool × (List B × Option L))
  last_else = (λ v. (v.0, ([], Some v.1))) <$> other

  abbrev pub branch_or : Bool → Reader (Bool × (List B × Option L)) → Reader (Bool × (List B × Option L))
  branch_or true more = more
  branch_or false more = last_else

  -- what is behind an `else`: another branch, or what is done else
  abbrev pub else_part : Reader (Bool × (List B × Option L)) → Reader (Bool × (List B × Option L))
  else_part more = after k.Else (λ ts. branch_or (opens ts) more ts)

  -- an `else` belongs to the branch, unless it belongs to what is in it
  abbrev pub ends_with : Reader (Bool × (List B × Option L)) → Bool × B → Reader (Bool × (List B × Option L))
  ends_with more (true, b) = pure (true, (b ∷ [], None))
  ends_with more (false, b) = joined b <$> maybe (else_part more)

  unfoldable pub chain_from : ℕ → Reader (Bool × (List B × Option L))
  chain_from zero = nothing
  chain_from (suc n) = first >>= ends_with (chain_from n)

  abbrev pub chain : Reader (Bool × (List B × Option L))
  chain = λ ts. chain_from (length ts) ts

-- ---- lists

module _ {X : Type 0} (inner : Reader (Bool × X)) where
  unfoldable pub one_item : Reader X
  one_item = (λ v. v.1) <$> inner

  abbrev pub items : Reader (List X)
  items = many one_item

  unfoldable pub in_braces : Reader (List X)
  in_braces = (λ z. z.1.0) <$> both (mark k.LeftBrace) (both items (mark k.RightBrace))

-- ---- statements

abbrev pub closed : StmtKind → Bool × StmtKind
closed x = (false, x)

unfoldable pub mixin_stmt : Reader (Bool × StmtKind)
mixin_stmt = (λ z. closed (t.Mixin z.0)) <$> both (head k.Mixin) (mark k.Semicolon)

unfoldable pub expr_stmt : Reader (Bool × StmtKind)
expr_stmt = (λ z. closed (t.Expr z.0)) <$> both whole_expr (mark k.Semicolon)

unfoldable pub break_stmt : Reader (Bool × StmtKind)
break_stmt = (λ z. closed t.Break) <$> both (mark k.Break) (mark k.Semicolon)

unfoldable pub continue_stmt : Reader (Bool × StmtKind)
continue_stmt = (λ z. closed t.Continue) <$> both (mark k.Continue) (mark k.Semicolon)

unfoldable pub return_stmt : Reader (Bool × StmtKind)
return_stmt = (λ z. closed (t.Return z.1.0)) <$> both (mark k.Return) (both (maybe whole_expr) (mark k.Semicolon))

unfoldable pub enum_stmt : Reader (Bool × StmtKind)
enum_stmt = either ((λ x. closed (t.Enum x)) <$> enumeration) ((λ x. closed (t.Constant x)) <$> manifest)

-- what reads as a variable is one
abbrev pub simple_stmt : Reader (Bool × StmtKind)
simple_stmt = either ((λ x. closed (t.Variable x)) <$> variable_read) expr_stmt

module _ (inner : Reader (Bool × Stmt)) where
  unfoldable pub block : Reader (Bool × StmtKind)
  block = (λ xs. closed (t.Block xs)) <$> in_braces inner

  unfoldable pub if_branch : Reader (Bool × Branch)
  if_branch = (λ z. (z.1.0, branch z.0 z.1.1)) <$> both (head k.If) inner

  unfoldable pub if_stmt : Reader (Bool × StmtKind)
  if_stmt = (λ v. (v.0, t.If v.1.0 v.1.1)) <$> chain if_branch begins_if inner

  unfoldable pub while_stmt : Reader (Bool × StmtKind)
  while_stmt = (λ z. (z.1.0, t.While z.0 z.1.1)) <$> both (head k.While) inner

  unfoldable pub do_stmt : Reader (Bool × StmtKind)
  do_stmt = (λ z. closed (t.Do z.1.0.1 z.1.1.0)) <$> both (mark k.Do) (both inner (both (head k.While) (mark k.Semicolon)))

  unfoldable pub for_stmt : Reader (Bool × StmtKind)
  for_stmt = (λ z. (z.1.1.1.1.1.1.1.0, t.For z.1.1.0 z.1.1.1.0 z.1.1.1.1.1.0 z.1.1.1.1.1.1.1.1))
      <$> both (mark k.For) (both (mark k.LeftParen) (both for_start (both (maybe whole_expr) (both (mark k.Semicolon) (both (maybe whole_expr) (both (mark k.RightParen) inner))))))

  unfoldable pub foreach_stmt : Reader (Bool × StmtKind)
  foreach_stmt = (λ z. (z.1.1.1.1.1.1.1.0, t.Foreach z.1.1.0 z.1.1.1.1.0 z.1.1.1.1.1.0 z.1.1.1.1.1.1.1.1))
      <$> both (mark k.Foreach) (both (mark k.LeftParen) (both loops (both (mark k.Semicolon) (both whole_expr (both maybe_end (both (mark k.RightParen) inner))))))

  unfoldable pub group_read : Reader Group
  group_read = from_start (λ at z. group at z.0 z.1) (both label_read (items inner))

  abbrev pub groups : Reader (List Group)
  groups = many group_read

  unfoldable pub switch_stmt : Reader (Bool × StmtKind)
  switch_stmt = (λ z. closed (t.Switch z.0 z.1.1.0 z.1.1.1.0)) <$> both (head k.Switch) (both (mark k.LeftBrace) (both (items inner) (both groups (mark k.RightBrace))))

  abbrev pub body_by : Terminal → Reader (Bool × StmtBody)
  body_by k.LeftBrace = (λ xs. (false, body.Braces xs)) <$> in_braces inner
  body_by _ = (λ v. (v.0, body.One v.1)) <$> inner

  unfoldable pub stmt_body : Reader (Bool × StmtBody)
  stmt_body = λ ts. body_by (ahead ts) ts

  unfoldable pub static_branch : Reader (Bool × StmtBranch)
  static_branch = from_start (λ at z. (z.1.0, stmt_branch at z.0 z.1.1)) (both static_test stmt_body)

  unfoldable pub conditional_stmt : Reader (Bool × StmtKind)
  conditional_stmt = (λ v. (v.0, t.Static (static.Conditional v.1.0 v.1.1))) <$> chain static_branch begins_conditional stmt_body

  unfoldable pub static_foreach : Reader (Bool × StmtKind)
  static_foreach = (λ z. (z.1.0, t.Static (static.Foreach z.0 z.1.1))) <$> both static_over stmt_body

  -- by the word behind `static`
  abbrev pub static_by : Terminal → Reader (Bool × StmtKind)
  static_by k.Import = (λ x. closed (t.Import x)) <$> static_import
  static_by k.If = conditional_stmt
  static_by k.Foreach = static_foreach
  static_by k.Assert = (λ x. closed (t.Static (static.Assert x))) <$> static_check
  static_by _ = nothing

  abbrev pub static_stmt : Reader (Bool × StmtKind)
  static_stmt = λ ts. static_by (second ts) ts

  abbrev pub stmt_by : Terminal → Reader (Bool × StmtKind)
  stmt_by k.LeftBrace = block
  stmt_by k.Semicolon = (λ u. closed t.Empty) <$> mark k.Semicolon
  stmt_by k.Enum = enum_stmt
  stmt_by k.Alias = (λ x. closed (t.Alias x)) <$> alias_read
  stmt_by k.Import = (λ x. closed (t.Import x)) <$> imported false
  stmt_by k.Static = static_stmt
  stmt_by k.Version = conditional_stmt
  stmt_by k.Mixin = either mixin_stmt expr_stmt
  stmt_by k.If = if_stmt
  stmt_by k.While = while_stmt
  stmt_by k.Do = do_stmt
  stmt_by k.For = for_stmt
  stmt_by k.Foreach = foreach_stmt
  stmt_by k.Switch = switch_stmt
  stmt_by k.Break = break_stmt
  stmt_by k.Continue = continue_stmt
  stmt_by k.Return = return_stmt
  stmt_by _ = simple_stmt

  unfoldable pub stmt_kind : Reader (Bool × StmtKind)
  stmt_kind = λ ts. stmt_by (ahead ts) ts

  unfoldable pub one_stmt : Reader (Bool × Stmt)
  one_stmt = from_start (λ at v. (v.0, stmt at v.1)) stmt_kind

-- with statements nested no deeper than the first number
unfoldable pub stmt_to : ℕ → Reader (Bool × Stmt)
stmt_to zero = nothing
stmt_to (suc n) = one_stmt (stmt_to n)

-- The depth is no bound, since each level takes a token.
abbrev pub whole_stmt : Reader (Bool × Stmt)
whole_stmt = λ ts. stmt_to (length ts) ts

abbrev pub whole_stmts : Reader (List Stmt)
whole_stmts = λ ts. items (stmt_to (length ts)) ts

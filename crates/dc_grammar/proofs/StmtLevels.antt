-- Statements with statements in them are read, one level up.
use Rattle.std.proofs.Common.{◌≡◌, ℕ, zero, suc, ◌≤◌, Bool, true, false, ◌||◌, ◌⊎◌, List, [], ◌∷◌, ◌++◌, length, Option, Some, None, refl, sym, ap, subst, ◌∙◌, append_assoc, arith, inl, inr}
use Rattle.dc_ast.specs.declared.statement.Stmt.{Stmt}
use Rattle.dc_ast.specs.declared.statement.StmtKind.{StmtKind}
use Rattle.dc_ast.specs.declared.statement.StmtKind.TheVariants as t
use Rattle.dc_ast.specs.declared.statement.Branch.{Branch}
use Rattle.dc_ast.specs.declared.statement.Group.{Group}
use Rattle.dc_ast.specs.declared.statement.StaticStatement.TheVariants as static
use Rattle.dc_ast.specs.declared.statement.StaticRange.{StaticRange}
use Rattle.dc_ast.specs.declared.statement.StaticAssert.{StaticAssert}
use Rattle.dc_ast.specs.declared.statement.StmtBranch.{StmtBranch}
use Rattle.dc_ast.specs.declared.statement.StmtBody.{StmtBody}
use Rattle.dc_ast.specs.declared.statement.StmtBody.TheVariants as body
use Rattle.dc_ast.specs.declared.statement.ImportTree.{ImportTree}
use Rattle.dc_grammar.specs.declared.terminal.Terminal.{Terminal}
use Rattle.dc_grammar.specs.declared.terminal.Terminal.TheVariants as k
use Rattle.dc_grammar.specs.Terminals.{Tokens, ahead, start_of, terminal_of, same_terminal}
use Rattle.dc_grammar.specs.MoreTrees.{stmt, branch, group, stmt_branch}
use Rattle.dc_grammar.specs.Grammar.{IsExpr}
use Rattle.dc_grammar.specs.Shapes as s
use Rattle.dc_grammar.specs.Shapes.{Optional, Several, After}
use Rattle.dc_grammar.specs.Parts as p
use Rattle.dc_grammar.specs.Parts.{Head, IsImported, IsImport, IsEnum, IsConstant, IsAlias, IsVariable, IsStaticTest, IsStaticRange, IsStaticAssert, IsForStart, AreLoops, IsLabel}
use Rattle.dc_grammar.specs.Statements as g
use Rattle.dc_grammar.specs.Statements.{second, begins_if, begins_conditional, IsStmt, IsStmtKind, AreStmts, AreGroups, AreBranches, AreStmtBranches, IsStmtBody}
use Rattle.dc_grammar.specs.Reading.{Outcome, Reader, mark, either, ◌<$>◌, and_then, pure}
use Rattle.dc_grammar.specs.PartReaders.{imported, static_import, alias_read, variable_read, static_check}
use Rattle.dc_grammar.specs.StmtReaders as spec
use Rattle.dc_grammar.specs.StmtReaders.{chain, in_braces, items, closed}
use Rattle.dc_grammar.proofs.Good.{Good, Loose, Holds, Reaches, Marked, Pair, none, or, is, is_same, mark_good}
use Rattle.dc_grammar.proofs.Lists.{Many, refused}
use Rattle.dc_grammar.proofs.Choices.{apart, within}
use Rattle.dc_grammar.proofs.Tools.{pair, seq, seq_loose, loose_seq, narrow, Image, image, lower, Placed, placed}
use Rattle.dc_grammar.proofs.Tools.{start_on}
use Rattle.dc_grammar.proofs.Shapes.{optional_good, loose_retype}
use Rattle.dc_grammar.proofs.Laws.{every_expr}
use Rattle.dc_grammar.proofs.PartRules.{head_good, imported_good, static_import_good, static_test_good, static_over_good, static_check_good, range_end_good, loops_good, label_good, begins_static_test, begins_label}
use Rattle.dc_grammar.proofs.NamedRules.{alias_read_good, variable_good, for_start_good}
use Rattle.dc_grammar.proofs.Fronts.{front_mark, test_opens, conditional_same, conditional_split, import_marks, range_marks, check_marks}
use Rattle.dc_grammar.proofs.Open.{else_after, Ends, open_of, closed_ends, forget, ends_seq, ends_loose_seq, ends_image, ends_placed, ends_rule, Chain, chain_good, FBraces, items_good, braces_good}
use Rattle.dc_grammar.proofs.Lists.{loose_many}
use Rattle.dc_grammar.proofs.Open.{ahead_is}
use Rattle.dc_grammar.proofs.StmtRules.{begins_simple, begins_stmt, stmt_front, kind_front, Kinds, Flagged, stmts_into, stmts_back, StmtFront, holds_into, FSimple, simple_read, simple_good, simple_into, FEnum, enum_good, enum_into, break_good, continue_good, return_good, Body, FIfBranch, FStaticBranch, branches_into, branches_back, static_into, static_back, mixin_good, static_front}

module _ (n : ℕ) (inner : Reader (Bool × Stmt)) (i : Ends n open_of begins_stmt Flagged inner) where
  pub stmts_good : Loose n (or (is k.Else) begins_stmt) begins_stmt AreStmts (items inner)
  unfolding same_terminal
  stmts_good = items_good i AreStmts stmts_into stmts_back refl refl

  braced_good : Good (suc n) none (is k.LeftBrace) (FBraces AreStmts) (in_braces inner)
  unfolding same_terminal
  braced_good = braces_good i AreStmts stmts_into stmts_back refl refl

  -- ---- each form

  abbrev FBlock : Tokens → Bool × StmtKind → Type 0
  FBlock = Image (λ xs. closed (t.Block xs)) (FBraces AreStmts)

  block_ends : Ends (suc n) open_of (is k.LeftBrace) FBlock (spec.block inner)
  unfolding spec.block
  block_ends = closed_ends open_of (image (λ xs. closed (t.Block xs)) braced_good)

  if_branch_ends : Ends (suc n) open_of (is k.If) FIfBranch (spec.if_branch inner)
  unfolding spec.if_branch same_terminal
  if_branch_ends = ends_image (λ z. (z.1.0, branch z.0 z.1.1)) open_of (λ x. refl) (ends_seq (head_good (suc n) k.If) i (omega arith) refl)

  if_opens : (front : Tokens) (v : Bool × Branch) (rest : Tokens) → FIfBranch front v → begins_if (front ++ rest) ≡ true
  if_opens front v rest h = let b = if_branch_ends.begins front v h in rw b.parts b.kind

  if_same : (front : Tokens) (v : Bool × Stmt) (rest : Tokens) → Flagged front v → begins_if (front ++ rest) ≡ begins_if front
  if_same front v rest h = let f = stmt_front v.0 front v.1 h in rw f.parts refl

  abbrev FIf : Tokens → Bool × StmtKind → Type 0
  FIf = Image (λ v. (v.0, t.If v.1.0 v.1.1)) (Chain FIfBranch Flagged begins_if)

  if_ends : Ends (suc n) open_of (is k.If) FIf (spec.if_stmt inner)
  unfolding spec.if_stmt
  if_ends = ends_image (λ v. (v.0, t.If v.1.0 v.1.1)) open_of (λ x. refl) (chain_good FIfBranch Flagged begins_if (spec.if_branch inner) inner if_branch_ends i if_opens if_same)

  abbrev FWhile : Tokens → Bool × StmtKind → Type 0
  FWhile = Image (λ z. (z.1.0, t.While z.0 z.1.1)) (Pair (Head k.While) Flagged)

  while_ends : Ends (suc n) open_of (is k.While) FWhile (spec.while_stmt inner)
  unfolding spec.while_stmt same_terminal
  while_ends = ends_image (λ z. (z.1.0, t.While z.0 z.1.1)) open_of (λ x. refl) (ends_seq (head_good (suc n) k.While) i (omega arith) refl)

  abbrev FDo : Tokens → Bool × StmtKind → Type 0
  FDo = Image (λ z. closed (t.Do z.1.0.1 z.1.1.0)) (Pair (Marked k.Do) (Pair Flagged (Pair (Head k.While) (Marked k.Semicolon))))

  do_ends : Ends (suc n) open_of (is k.Do) FDo (spec.do_stmt inner)
  unfolding spec.do_stmt same_terminal
  do_ends = closed_ends open_of (image (λ z. closed (t.Do z.1.0.1 z.1.1.0)) (seq (mark_good (suc n) k.Do) (seq (forget i) (seq (head_good n k.While) (mark_good n k.Semicolon) (omega arith) refl) (omega arith) refl) (omega arith) refl))

  abbrev FFor : Tokens → Bool × StmtKind → Type 0
  FFor = Image (λ z. (z.1.1.1.1.1.1.1.0, t.For z.1.1.0 z.1.1.1.0 z.1.1.1.1.1.0 z.1.1.1.1.1.1.1.1))
      (Pair (Marked k.For) (Pair (Marked k.LeftParen) (Pair IsForStart (Pair (Optional IsExpr) (Pair (Marked k.Semicolon) (Pair (Optional IsExpr) (Pair (Marked k.RightParen) Flagged)))))))

  for_ends : Ends (suc n) open_of (is k.For) FFor (spec.for_stmt inner)
  unfolding spec.for_stmt same_terminal
  for_ends = ends_image (λ z. (z.1.1.1.1.1.1.1.0, t.For z.1.1.0 z.1.1.1.0 z.1.1.1.1.1.0 z.1.1.1.1.1.1.1.1)) open_of (λ x. refl)
      (ends_seq (mark_good (suc n) k.For) (ends_seq (mark_good n k.LeftParen) (ends_seq (for_start_good n) (ends_loose_seq (optional_good (every_expr n)) (ends_seq (mark_good n k.Semicolon) (ends_loose_seq (optional_good (every_expr n)) (ends_seq (mark_good n k.RightParen) i (omega arith) refl) refl) (omega arith) refl) refl) (omega arith) refl) (omega arith) refl) (omega arith) refl)

  abbrev FForeach : Tokens → Bool × StmtKind → Type 0
  FForeach = Image (λ z. (z.1.1.1.1.1.1.1.0, t.Foreach z.1.1.0 z.1.1.1.1.0 z.1.1.1.1.1.0 z.1.1.1.1.1.1.1.1))
      (Pair (Marked k.Foreach) (Pair (Marked k.LeftParen) (Pair AreLoops (Pair (Marked k.Semicolon) (Pair IsExpr (Pair (Optional (After k.DotDot IsExpr)) (Pair (Marked k.RightParen) Flagged)))))))

  foreach_ends : Ends (suc n) open_of (is k.Foreach) FForeach (spec.foreach_stmt inner)
  unfolding spec.foreach_stmt same_terminal
  foreach_ends = ends_image (λ z. (z.1.1.1.1.1.1.1.0, t.Foreach z.1.1.0 z.1.1.1.1.0 z.1.1.1.1.1.0 z.1.1.1.1.1.1.1.1)) open_of (λ x. refl)
      (ends_seq (mark_good (suc n) k.Foreach) (ends_seq (mark_good n k.LeftParen) (ends_seq (loops_good n) (ends_seq (mark_good n k.Semicolon) (ends_seq (every_expr n) (ends_loose_seq (optional_good (range_end_good n)) (ends_seq (mark_good n k.RightParen) i (omega arith) refl) refl) (omega arith) refl) (omega arith) refl) (omega arith) refl) (omega arith) refl) (omega arith) refl)

  abbrev FGroup : Tokens → Group → Type 0
  FGroup = Placed (λ at z. group at z.0 z.1) (Pair IsLabel AreStmts)

  group_good : Good n (or (is k.Else) begins_stmt) begins_label FGroup (spec.group_read inner)
  unfolding spec.group_read same_terminal
  group_good = narrow (placed (λ at z. group at z.0 z.1) (seq_loose (label_good n) stmts_good (omega arith) refl)) (or (is k.Else) begins_stmt) begins_label refl refl

  groups_into : (ts : Tokens) (xs : List Group) → Many FGroup ts xs → AreGroups ts xs
  groups_into ts [] h = rw h g.no_groups
  groups_into ts (x ∷ xs) (u, v, parts, (z, q, eq), others) =
      let b = (label_good 0).begins q.left z.0 q.one in
      let at : start_of u ≡ start_of q.left = ap start_of q.parts ∙ start_on q.left q.right b in
      rw (parts, ← eq, at, q.parts, append_assoc q.left q.right v) (g.groups q.one q.two (groups_into v xs others))

  groups_back : (ts : Tokens) (xs : List Group) → AreGroups ts xs → Many FGroup ts xs
  groups_back ts xs g.no_groups = refl
  groups_back ts xs (g.groups {w1 = w1} {w2 = w2} {w3 = w3} {l = l} {ss = ss} {gs = gs} h c others) =
      (w1 ++ w2, w3, sym (append_assoc w1 w2 w3), ((l, ss), pair w1 w2 h c, ap (λ (m : ℕ). group m l ss) (start_on w1 w2 ((label_good 0).begins w1 l h))), groups_back w3 gs others)

  groups_good : Loose n (or (or (is k.Else) begins_stmt) begins_label) begins_label AreGroups (spec.groups inner)
  unfolding same_terminal
  groups_good = loose_retype (loose_many group_good (apart begins_label (or (is k.Else) begins_stmt) refl)) AreGroups groups_into groups_back

  abbrev FSwitch : Tokens → Bool × StmtKind → Type 0
  FSwitch = Image (λ z. closed (t.Switch z.0 z.1.1.0 z.1.1.1.0)) (Pair (Head k.Switch) (Pair (Marked k.LeftBrace) (Pair AreStmts (Pair AreGroups (Marked k.RightBrace)))))

  switch_ends : Ends (suc n) open_of (is k.Switch) FSwitch (spec.switch_stmt inner)
  unfolding spec.switch_stmt same_terminal
  switch_ends = closed_ends open_of (image (λ z. closed (t.Switch z.0 z.1.1.0 z.1.1.1.0)) (seq (head_good (suc n) k.Switch) (seq (mark_good n k.LeftBrace) (loose_seq stmts_good (loose_seq groups_good (mark_good n k.RightBrace) refl) refl) (omega arith) refl) (omega arith) refl))

  -- ---- what a conditional takes in

  in_braces_into : (w : Tokens) (v : Bool × StmtBody) → Image (λ xs. (false, body.Braces xs)) (FBraces AreStmts) w v → Body w v
  in_braces_into w v (z, (y, q, same), eq) = rw (← eq, ← same, q.parts, q.two.parts) (g.stmts_in_braces q.one q.two.one q.two.two)

  body_sound : (ts : Tokens) → Holds Body ts (spec.stmt_body inner ts)
  unfolding spec.stmt_body same_terminal
  body_sound ts = go (ahead ts) refl
    where
      ones : same_terminal (ahead ts) k.LeftBrace ≡ false → (r : Outcome (Bool × Stmt)) → Holds Flagged ts r → Holds Body ts (and_then r (λ v. pure (v.0, body.One v.1)))
      ones off (Some r) h =
          let f = stmt_front r.0.0 h.front r.0.1 h.is in
          let same : ahead h.front ≡ ahead ts = ap ahead f.parts ∙ sym (ap ahead h.parts ∙ ap (λ (us : Tokens). ahead (us ++ r.1)) f.parts) in
          record { front = h.front; parts = h.parts; is = g.one_stmt h.is (ap (λ (x : Terminal). same_terminal x k.LeftBrace) same ∙ off) }
      ones off None h = tt

      go : (kind : Terminal) → ahead ts ≡ kind → Holds Body ts (spec.body_by inner kind ts)
      go k.LeftBrace eq = holds_into ts (((λ xs. (false, body.Braces xs)) <$> in_braces inner) ts) in_braces_into ((image (λ xs. (false, body.Braces xs)) braced_good).sound ts)
      go _ eq = ones (rw eq refl) (inner ts) (i.sound ts)

  body_reach : (o : Bool) (front : Tokens) (x : StmtBody) (rest : Tokens) → length front ≤ n → IsStmtBody o front x → Reaches {A = Bool × StmtBody} (else_after o) (spec.stmt_body inner (front ++ rest)) (o, x) rest
  unfolding spec.stmt_body same_terminal
  body_reach o front x rest len (g.one_stmt {s = y} h off) = subst (λ (kind : Terminal). Reaches {A = Bool × StmtBody} (else_after o) (spec.body_by inner kind (front ++ rest)) (o, body.One y) rest) (sym at) (by_one (ahead front) off)
    where
      at : ahead (front ++ rest) ≡ ahead front
      at = let f = stmt_front o front y h in rw f.parts refl

      plain : Reaches {A = Bool × StmtBody} (else_after o) (((λ v. (v.0, body.One v.1)) <$> inner) (front ++ rest)) (o, body.One y) rest
      plain = (ends_image (λ v. (v.0, body.One v.1)) open_of (λ x. refl) i).reach front (o, body.One y) rest len ((o, y), h, refl)

      by_one : (kind : Terminal) → same_terminal kind k.LeftBrace ≡ false → Reaches {A = Bool × StmtBody} (else_after o) (spec.body_by inner kind (front ++ rest)) (o, body.One y) rest
      by_one k.LeftBrace e = absurd cc
      by_one _ e = plain
  body_reach o front x rest len (g.stmts_in_braces {w1 = w1} {w2 = w2} {w3 = w3} {ss = ss} m h c) =
      let at : ahead ((w1 ++ (w2 ++ w3)) ++ rest) ≡ k.LeftBrace = rw (m.alone, m.is) refl in
      subst (λ (kind : Terminal). Reaches {A = Bool × StmtBody} (else_after false) (spec.body_by inner kind ((w1 ++ (w2 ++ w3)) ++ rest)) (false, body.Braces ss) rest) (sym at)
      ((closed_ends open_of (image (λ xs. (false, body.Braces xs)) (lower braced_good))).reach (w1 ++ (w2 ++ w3)) (false, body.Braces ss) rest len (ss, ((tt, (ss, tt)), pair w1 (w2 ++ w3) m (pair w2 w3 h c), refl), refl))

  body_front : (o : Bool) (front : Tokens) (x : StmtBody) → IsStmtBody o front x → StmtFront front
  unfolding same_terminal
  body_front o front x (g.one_stmt {s = y} h off) = stmt_front o front y h
  body_front o front x (g.stmts_in_braces {w1 = w1} {w2 = w2} {w3 = w3} m h c) = front_mark begins_stmt k.LeftBrace w1 (w2 ++ w3) m refl refl

  body_ends : Ends n open_of begins_stmt Body (spec.stmt_body inner)
  body_ends = record {
    sound = body_sound;
    reach = λ front v rest len h. body_reach v.0 front v.1 rest len h;
    begins = λ front v h. let f = body_front v.0 front v.1 h in record { head = f.head; tail = f.tail; parts = f.parts; kind = f.kind };
  }

  static_branch_ends : Ends (suc n) open_of begins_static_test FStaticBranch (spec.static_branch inner)
  unfolding spec.static_branch same_terminal
  static_branch_ends = ends_placed (λ at z. (z.1.0, stmt_branch at z.0 z.1.1)) open_of (λ at x. refl) (ends_seq (static_test_good (suc n)) body_ends (omega arith) refl)

  static_opens : (front : Tokens) (v : Bool × StmtBranch) (rest : Tokens) → FStaticBranch front v → begins_conditional (front ++ rest) ≡ true
  static_opens front v rest (z, q, eq) = ap (λ (ts : Tokens). begins_conditional (ts ++ rest)) q.parts ∙ ap begins_conditional (append_assoc q.left q.right rest) ∙ test_opens q.left (q.right ++ rest) z.0 q.one

  static_same : (front : Tokens) (v : Bool × StmtBody) (rest : Tokens) → Body front v → begins_conditional (front ++ rest) ≡ begins_conditional front
  static_same front v rest h = conditional_same begins_stmt front rest (body_front v.0 front v.1 h)

  abbrev FConditional : Tokens → Bool × StmtKind → Type 0
  FConditional = Image (λ v. (v.0, t.Static (static.Conditional v.1.0 v.1.1))) (Chain FStaticBranch Body begins_conditional)

  conditional_ends : Ends (suc n) open_of begins_static_test FConditional (spec.conditional_stmt inner)
  unfolding spec.conditional_stmt
  conditional_ends = ends_image (λ v. (v.0, t.Static (static.Conditional v.1.0 v.1.1))) open_of (λ x. refl)
      (chain_good FStaticBranch Body begins_conditional (spec.static_branch inner) (spec.stmt_body inner) static_branch_ends body_ends static_opens static_same)

  abbrev FStaticForeach : Tokens → Bool × StmtKind → Type 0
  FStaticForeach = Image (λ z. (z.1.0, t.Static (static.Foreach z.0 z.1.1))) (Pair IsStaticRange Body)

  static_foreach_ends : Ends (suc n) open_of (is k.Static) FStaticForeach (spec.static_foreach inner)
  unfolding spec.static_foreach same_terminal
  static_foreach_ends = ends_image (λ z. (z.1.0, t.Static (static.Foreach z.0 z.1.1))) open_of (λ x. refl) (ends_seq (static_over_good (suc n)) body_ends (omega arith) refl)

  abbrev FCheck : Tokens → Bool × StmtKind → Type 0
  FCheck = Image (λ x. closed (t.Static (static.Assert x))) IsStaticAssert

  check_ends : Ends (suc n) open_of (is k.Static) FCheck ((λ x. closed (t.Static (static.Assert x))) <$> static_check)
  check_ends = closed_ends open_of (image (λ x. closed (t.Static (static.Assert x))) (static_check_good (suc n)))

  abbrev FStaticImport : Tokens → Bool × StmtKind → Type 0
  FStaticImport = Image (λ x. closed (t.Import x)) (After k.Static (IsImported true))

  static_import_ends : Ends (suc n) open_of (is k.Static) FStaticImport ((λ x. closed (t.Import x)) <$> static_import)
  static_import_ends = closed_ends open_of (image (λ x. closed (t.Import x)) (static_import_good (suc n)))

  -- ---- what is read is there

  conditional_into : (w : Tokens) (v : Bool × StmtKind) → FConditional w v → Kinds w v
  conditional_into w v (z, h, eq) = rw (← eq) (g.conditional_stmt (static_into w z.0 z.1.0 z.1.1 h))

  static_import_into : (w : Tokens) (v : Bool × StmtKind) → FStaticImport w v → Kinds w v
  static_import_into w v (x, h, eq) = rw (← eq) (go w x h)
    where
      go : (w : Tokens) (x : ImportTree) → After k.Static (IsImported true) w x → IsStmtKind false w (t.Import x)
      go w x (s.after m h) = g.import_stmt (p.static_import m h)

  static_sound : (ts : Tokens) → Holds Kinds ts (spec.static_stmt inner ts)
  static_sound ts = go (second ts)
    where
      go : (kind : Terminal) → Holds Kinds ts (spec.static_by inner kind ts)
      go k.Import = holds_into ts (((λ x. closed (t.Import x)) <$> static_import) ts) static_import_into (static_import_ends.sound ts)
      go k.If = holds_into ts (spec.conditional_stmt inner ts) conditional_into (conditional_ends.sound ts)
      go k.Foreach = holds_into ts (spec.static_foreach inner ts) (λ w v h. rw (← h.2, h.1.parts) (g.foreach_static h.1.one h.1.two)) (static_foreach_ends.sound ts)
      go k.Assert = holds_into ts (((λ x. closed (t.Static (static.Assert x))) <$> static_check) ts) (λ w v h. rw (← h.2) (g.assert_static h.1)) (check_ends.sound ts)
      go _ = tt

  if_into : (w : Tokens) (v : Bool × StmtKind) → FIf w v → Kinds w v
  if_into w v (z, h, eq) = rw (← eq) (g.if_stmt (branches_into w z.0 z.1.0 z.1.1 h))

  block_into : (w : Tokens) (v : Bool × StmtKind) → FBlock w v → Kinds w v
  block_into w v (z, (y, q, same), eq) = rw (← eq, ← same, q.parts, q.two.parts) (g.block q.one q.two.one q.two.two)

  while_into : (w : Tokens) (v : Bool × StmtKind) → FWhile w v → Kinds w v
  while_into w v (z, q, eq) = rw (← eq, q.parts) (g.while_stmt q.one q.two)

  do_into : (w : Tokens) (v : Bool × StmtKind) → FDo w v → Kinds w v
  do_into w v (z, q, eq) = rw (← eq, q.parts, q.two.parts, q.two.two.parts) (g.do_stmt q.one q.two.one q.two.two.one q.two.two.two)

  for_into : (w : Tokens) (v : Bool × StmtKind) → FFor w v → Kinds w v
  for_into w v (z, q, eq) =
      let d = q.two.two.two in
      rw (← eq, q.parts, q.two.parts, q.two.two.parts, d.parts, d.two.parts, d.two.two.parts, d.two.two.two.parts) (g.for_stmt q.one q.two.one q.two.two.one d.one d.two.one d.two.two.one d.two.two.two.one d.two.two.two.two)

  foreach_into : (w : Tokens) (v : Bool × StmtKind) → FForeach w v → Kinds w v
  foreach_into w v (z, q, eq) =
      let d = q.two.two.two in
      rw (← eq, q.parts, q.two.parts, q.two.two.parts, d.parts, d.two.parts, d.two.two.parts, d.two.two.two.parts) (g.foreach_stmt q.one q.two.one q.two.two.one d.one d.two.one d.two.two.one d.two.two.two.one d.two.two.two.two)

  switch_into : (w : Tokens) (v : Bool × StmtKind) → FSwitch w v → Kinds w v
  switch_into w v (z, q, eq) = rw (← eq, q.parts, q.two.parts, q.two.two.parts, q.two.two.two.parts) (g.switch_stmt q.one q.two.one q.two.two.one q.two.two.two.one q.two.two.two.two)

  kind_sound : (ts : Tokens) → Holds Kinds ts (spec.stmt_kind inner ts)
  unfolding spec.stmt_kind same_terminal
  kind_sound ts = go (ahead ts) refl
    where
      -- the mixin is tried first only where it can begin
      simple : (r : Outcome (Bool × StmtKind)) → simple_read ts ≡ r → Holds Kinds ts r
      simple r same = holds_into ts r simple_into (subst (λ (u : Outcome (Bool × StmtKind)). Holds FSimple ts u) same ((simple_good 0).sound ts))

      go : (kind : Terminal) → ahead ts ≡ kind → Holds Kinds ts (spec.stmt_by inner kind ts)
      go k.LeftBrace eq = holds_into ts (spec.block inner ts) block_into (block_ends.sound ts)
      go k.Semicolon eq = holds_into ts (((λ u. closed t.Empty) <$> mark k.Semicolon) ts) (λ w v h. rw (← h.2) (g.empty h.1)) ((image (λ u. closed t.Empty) (mark_good 0 k.Semicolon)).sound ts)
      go k.Enum eq = holds_into ts (spec.enum_stmt ts) enum_into ((enum_good 0).sound ts)
      go k.Alias eq = holds_into ts (((λ x. closed (t.Alias x)) <$> alias_read) ts) (λ w v h. rw (← h.2) (g.alias_stmt h.1)) ((image (λ x. closed (t.Alias x)) (alias_read_good 0)).sound ts)
      go k.Import eq = holds_into ts (((λ x. closed (t.Import x)) <$> imported false) ts) (λ w v h. rw (← h.2) (g.import_stmt (p.plain_import h.1))) ((image (λ x. closed (t.Import x)) (imported_good false 0)).sound ts)
      go k.Static eq = static_sound ts
      go k.Version eq = holds_into ts (spec.conditional_stmt inner ts) conditional_into (conditional_ends.sound ts)
      go k.Mixin eq =
          let off : variable_read ts ≡ None = refused (variable_good 0) ts (rw eq refl) in
          simple (either spec.mixin_stmt spec.expr_stmt ts) (rw off refl)
      go k.If eq = holds_into ts (spec.if_stmt inner ts) if_into (if_ends.sound ts)
      go k.While eq = holds_into ts (spec.while_stmt inner ts) while_into (while_ends.sound ts)
      go k.Do eq = holds_into ts (spec.do_stmt inner ts) do_into (do_ends.sound ts)
      go k.For eq = holds_into ts (spec.for_stmt inner ts) for_into (for_ends.sound ts)
      go k.Foreach eq = holds_into ts (spec.foreach_stmt inner ts) foreach_into (foreach_ends.sound ts)
      go k.Switch eq = holds_into ts (spec.switch_stmt inner ts) switch_into (switch_ends.sound ts)
      go k.Break eq = holds_into ts (spec.break_stmt ts) (λ w v h. rw (← h.2, h.1.parts) (g.break_stmt h.1.one h.1.two)) ((break_good 0).sound ts)
      go k.Continue eq = holds_into ts (spec.continue_stmt ts) (λ w v h. rw (← h.2, h.1.parts) (g.continue_stmt h.1.one h.1.two)) ((continue_good 0).sound ts)
      go k.Return eq = holds_into ts (spec.return_stmt ts) (λ w v h. rw (← h.2, h.1.parts, h.1.two.parts) (g.return_stmt h.1.one h.1.two.one h.1.two.two)) ((return_good 0).sound ts)
      go _ eq =
          let off : spec.mixin_stmt ts ≡ None = refused (mixin_good 0) ts (rw eq refl) in
          simple (spec.simple_stmt ts) (rw off refl)

  -- ---- what is there is read

  at_kind : (kind : Terminal) (ts : Tokens) (c : Terminal → Bool) (v : Bool × StmtKind) (rest : Tokens) → ahead ts ≡ kind → Reaches c (spec.stmt_by inner kind ts) v rest → Reaches c (spec.stmt_kind inner ts) v rest
  unfolding spec.stmt_kind
  at_kind kind ts c v rest e h = rw e h

  by_kind : (kind : Terminal) (F : Tokens → Bool × StmtKind → Type 0) → Ends (suc n) open_of (is kind) F (spec.stmt_by inner kind) → (front : Tokens) (v : Bool × StmtKind) (rest : Tokens) → length front ≤ suc n → F front v
      → Reaches (else_after v.0) (spec.stmt_kind inner (front ++ rest)) v rest
  by_kind kind F ends front v rest len h = at_kind kind (front ++ rest) (else_after v.0) v rest (ahead_is kind front rest (ends.begins front v h)) (ends.reach front v rest len h)

  at_static : (kind : Terminal) (front : Tokens) (v : Bool × StmtKind) (rest : Tokens) → ahead (front ++ rest) ≡ k.Static → second (front ++ rest) ≡ kind → Reaches (else_after v.0) (spec.static_by inner kind (front ++ rest)) v rest
      → Reaches (else_after v.0) (spec.stmt_kind inner (front ++ rest)) v rest
  at_static kind front v rest e1 e2 h = at_kind k.Static (front ++ rest) (else_after v.0) v rest e1 (subst (λ (x : Terminal). Reaches (else_after v.0) (spec.static_by inner x (front ++ rest)) v rest) (sym e2) h)

  -- the kinds at which neither a mixin nor another form is read
  abbrev is_plain : Terminal → Bool
  is_plain k.Mixin = false
  is_plain x = begins_simple x

  plain_by : (kind : Terminal) (ts : Tokens) → is_plain kind ≡ true → ahead ts ≡ kind → spec.stmt_by inner kind ts ≡ simple_read ts
  unfolding same_terminal
  plain_by k.LeftBrace ts e eq = absurd cc
  plain_by k.Semicolon ts e eq = absurd cc
  plain_by k.Enum ts e eq = absurd cc
  plain_by k.Alias ts e eq = absurd cc
  plain_by k.Import ts e eq = absurd cc
  plain_by k.Static ts e eq = absurd cc
  plain_by k.Version ts e eq = absurd cc
  plain_by k.Mixin ts e eq = absurd cc
  plain_by k.If ts e eq = absurd cc
  plain_by k.While ts e eq = absurd cc
  plain_by k.Do ts e eq = absurd cc
  plain_by k.For ts e eq = absurd cc
  plain_by k.Foreach ts e eq = absurd cc
  plain_by k.Switch ts e eq = absurd cc
  plain_by k.Break ts e eq = absurd cc
  plain_by k.Continue ts e eq = absurd cc
  plain_by k.Return ts e eq = absurd cc
  plain_by _ ts e eq = let off : spec.mixin_stmt ts ≡ None = refused (mixin_good 0) ts (rw eq refl) in rw off refl

  mixin_by : (ts : Tokens) → ahead ts ≡ k.Mixin → spec.stmt_by inner k.Mixin ts ≡ simple_read ts
  unfolding same_terminal
  mixin_by ts eq = let off : variable_read ts ≡ None = refused (variable_good 0) ts (rw eq refl) in rw off refl

  simple_by : (kind : Terminal) (ts : Tokens) → (is k.Mixin kind ≡ true) ⊎ (is_plain kind ≡ true) → ahead ts ≡ kind → spec.stmt_by inner kind ts ≡ simple_read ts
  simple_by kind ts (inl m) eq = let same = is_same k.Mixin kind m in rw same (mixin_by ts (eq ∙ same))
  simple_by kind ts (inr e) eq = plain_by kind ts e eq

  or_cases : (a b : Bool) → (a || b) ≡ true → (a ≡ true) ⊎ (b ≡ true)
  or_cases true b e = inl refl
  or_cases false b e = inr e

  simple_reach : (front : Tokens) (v : Bool × StmtKind) (rest : Tokens) → length front ≤ suc n → FSimple front v → Reaches (else_after v.0) (spec.stmt_kind inner (front ++ rest)) v rest
  unfolding same_terminal
  simple_reach front v rest len h =
      let b = (simple_good 0).begins front v h in
      let at : ahead (front ++ rest) ≡ terminal_of b.head = ap (λ (ts : Tokens). ahead (ts ++ rest)) b.parts in
      let cases = or_cases (is k.Mixin (terminal_of b.head)) (is_plain (terminal_of b.head)) (within begins_simple (or (is k.Mixin) is_plain) refl (terminal_of b.head) b.kind) in
      let same = simple_by (terminal_of b.head) (front ++ rest) cases at in
      at_kind (terminal_of b.head) (front ++ rest) (else_after v.0) v rest at (rw same ((closed_ends open_of (simple_good (suc n))).reach front v rest len h))

  conditional_reach : (o : Bool) (front : Tokens) (bs : List StmtBranch) (last : Option StmtBody) (rest : Tokens) → length front ≤ suc n → AreStmtBranches o front bs last
      → Reaches {A = Bool × StmtKind} (else_after o) (spec.stmt_kind inner (front ++ rest)) (o, t.Static (static.Conditional bs last)) rest
  unfolding same_terminal
  conditional_reach o front bs last rest len h = go (same_terminal (ahead (front ++ rest)) k.Version) refl
    where
      form : FConditional front (o, t.Static (static.Conditional bs last))
      form = ((o, (bs, last)), static_back front o bs last h, refl)

      read : Reaches {A = Bool × StmtKind} (else_after o) (spec.conditional_stmt inner (front ++ rest)) (o, t.Static (static.Conditional bs last)) rest
      read = conditional_ends.reach front (o, t.Static (static.Conditional bs last)) rest len form

      opened : begins_conditional (front ++ rest) ≡ true
      opened = conditional_same begins_stmt front rest (static_front o front bs last h) ∙ starts o front bs last h
        where
          starts : (o : Bool) (front : Tokens) (bs : List StmtBranch) (last : Option StmtBody) → AreStmtBranches o front bs last → begins_conditional front ≡ true
          starts o front bs last (g.static_alone {w1 = w1} {w2 = w2} {x = x} h c) = test_opens w1 w2 x h
          starts o front bs last (g.static_else {w1 = w1} {w2 = w2} {w3 = w3} {w4 = w4} {x = x} h c m d off) = test_opens w1 (w2 ++ (w3 ++ w4)) x h
          starts o front bs last (g.static_more {w1 = w1} {w2 = w2} {w3 = w3} {w4 = w4} {x = x} h c m d) = test_opens w1 (w2 ++ (w3 ++ w4)) x h

      go : (b : Bool) → same_terminal (ahead (front ++ rest)) k.Version ≡ b → Reaches {A = Bool × StmtKind} (else_after o) (spec.stmt_kind inner (front ++ rest)) (o, t.Static (static.Conditional bs last)) rest
      go true e = at_kind k.Version (front ++ rest) (else_after o) (o, t.Static (static.Conditional bs last)) rest (is_same k.Version (ahead (front ++ rest)) e) read
      go false e =
          let d = conditional_split (front ++ rest) opened e in
          at_static k.If front (o, t.Static (static.Conditional bs last)) rest d.0 d.1 read

  import_reach : (front : Tokens) (x : ImportTree) (rest : Tokens) → length front ≤ suc n → IsImport front x → Reaches {A = Bool × StmtKind} (else_after false) (spec.stmt_kind inner (front ++ rest)) (false, t.Import x) rest
  import_reach front x rest len (p.plain_import {t = y} h) = by_kind k.Import (Image (λ x. closed (t.Import x)) (IsImported false)) (closed_ends open_of (image (λ x. closed (t.Import x)) (imported_good false (suc n)))) front (false, t.Import y) rest len (y, h, refl)
  import_reach front x rest len (p.static_import {w1 = w1} {w2 = w2} {t = y} m h) =
      let at = import_marks w2 rest y w1 m h in
      at_static k.Import (w1 ++ w2) (false, t.Import y) rest at.0 at.1 (static_import_ends.reach (w1 ++ w2) (false, t.Import y) rest len (y, s.after m h, refl))

  foreach_reach : (o : Bool) (w1 w2 : Tokens) (r : StaticRange) (b : StmtBody) (rest : Tokens) → length (w1 ++ w2) ≤ suc n → IsStaticRange w1 r → IsStmtBody o w2 b
      → Reaches {A = Bool × StmtKind} (else_after o) (spec.stmt_kind inner ((w1 ++ w2) ++ rest)) (o, t.Static (static.Foreach r b)) rest
  foreach_reach o w1 w2 r b rest len h c =
      let at = range_marks w1 w2 rest r h in
      at_static k.Foreach (w1 ++ w2) (o, t.Static (static.Foreach r b)) rest at.0 at.1 (static_foreach_ends.reach (w1 ++ w2) (o, t.Static (static.Foreach r b)) rest len ((r, (o, b)), pair w1 w2 h c, refl))

  check_reach : (front : Tokens) (x : StaticAssert) (rest : Tokens) → length front ≤ suc n → IsStaticAssert front x → Reaches {A = Bool × StmtKind} (else_after false) (spec.stmt_kind inner (front ++ rest)) (false, t.Static (static.Assert x)) rest
  check_reach front x rest len h = let at = check_marks front rest x h in at_static k.Assert front (false, t.Static (static.Assert x)) rest at.0 at.1 (check_ends.reach front (false, t.Static (static.Assert x)) rest len (x, h, refl))

  kind_reach : (o : Bool) (front : Tokens) (x : StmtKind) (rest : Tokens) → length front ≤ suc n → IsStmtKind o front x → Reaches {A = Bool × StmtKind} (else_after o) (spec.stmt_kind inner (front ++ rest)) (o, x) rest
  unfolding same_terminal
  kind_reach o front x rest len (g.block {w1 = w1} {w2 = w2} {w3 = w3} {ss = ss} m h c) = by_kind k.LeftBrace FBlock block_ends front (o, x) rest len (ss, ((tt, (ss, tt)), pair w1 (w2 ++ w3) m (pair w2 w3 h c), refl), refl)
  kind_reach o front x rest len (g.empty m) = by_kind k.Semicolon (Image (λ u. closed t.Empty) (Marked k.Semicolon)) (closed_ends open_of (image (λ u. closed t.Empty) (mark_good (suc n) k.Semicolon))) front (o, x) rest len (tt, m, refl)
  kind_reach o front x rest len (g.variable_stmt {x = y} h) = simple_reach front (o, x) rest len (inr (inl (y, h, refl)))
  kind_reach o front x rest len (g.enum_stmt {x = y} h) = by_kind k.Enum FEnum (closed_ends open_of (narrow (enum_good (suc n)) none (is k.Enum) refl refl)) front (o, x) rest len (inl (y, h, refl))
  kind_reach o front x rest len (g.constant_stmt {x = y} h) = by_kind k.Enum FEnum (closed_ends open_of (narrow (enum_good (suc n)) none (is k.Enum) refl refl)) front (o, x) rest len (inr (y, h, refl))
  kind_reach o front x rest len (g.alias_stmt {x = y} h) = by_kind k.Alias (Image (λ x. closed (t.Alias x)) IsAlias) (closed_ends open_of (image (λ x. closed (t.Alias x)) (alias_read_good (suc n)))) front (o, x) rest len (y, h, refl)
  kind_reach o front x rest len (g.import_stmt {x = y} h) = import_reach front y rest len h
  kind_reach o front x rest len (g.conditional_stmt {bs = bs} {last = last} h) = conditional_reach o front bs last rest len h
  kind_reach o front x rest len (g.foreach_static {w1 = w1} {w2 = w2} {r = r} {b = b} h c) = foreach_reach o w1 w2 r b rest len h c
  kind_reach o front x rest len (g.assert_static {x = y} h) = check_reach front y rest len h
  kind_reach o front x rest len (g.expr_stmt {w1 = w1} {w2 = w2} {x = y} h off m) = simple_reach front (o, x) rest len (inr (inr ((y, tt), record { left = w1; right = w2; parts = refl; one = (h, off); two = m }, refl)))
  kind_reach o front x rest len (g.mixin_stmt {w1 = w1} {w2 = w2} {x = y} h m) = simple_reach front (o, x) rest len (inl ((y, tt), pair w1 w2 h m, refl))
  kind_reach o front x rest len (g.if_stmt {bs = bs} {last = last} h) = by_kind k.If FIf if_ends front (o, x) rest len ((o, (bs, last)), branches_back front o bs last h, refl)
  kind_reach o front x rest len (g.while_stmt {w1 = w1} {w2 = w2} {x = y} {s = u} h c) = by_kind k.While FWhile while_ends front (o, x) rest len ((y, (o, u)), pair w1 w2 h c, refl)
  kind_reach o front x rest len (g.do_stmt {o = c} {w1 = w1} {w2 = w2} {w3 = w3} {w4 = w4} {x = y} {s = u} h1 h2 h3 h4) =
      by_kind k.Do FDo do_ends front (o, x) rest len ((tt, ((c, u), (y, tt))), pair w1 (w2 ++ (w3 ++ w4)) h1 (pair w2 (w3 ++ w4) h2 (pair w3 w4 h3 h4)), refl)
  kind_reach o front x rest len (g.for_stmt {w1 = w1} {w2 = w2} {w3 = w3} {w4 = w4} {w5 = w5} {w6 = w6} {w7 = w7} {w8 = w8} {start = start} {x = y} {y = z} {s = u} h1 h2 h3 h4 h5 h6 h7 h8) =
      by_kind k.For FFor for_ends front (o, x) rest len (
        (tt, (tt, (start, (y, (tt, (z, (tt, (o, u)))))))),
        pair w1 (w2 ++ (w3 ++ (w4 ++ (w5 ++ (w6 ++ (w7 ++ w8)))))) h1 (pair w2 (w3 ++ (w4 ++ (w5 ++ (w6 ++ (w7 ++ w8))))) h2
            (pair w3 (w4 ++ (w5 ++ (w6 ++ (w7 ++ w8)))) h3 (pair w4 (w5 ++ (w6 ++ (w7 ++ w8))) h4 (pair w5 (w6 ++ (w7 ++ w8)) h5 (pair w6 (w7 ++ w8) h6 (pair w7 w8 h7 h8)))))),
        refl,
      )
  kind_reach o front x rest len (g.foreach_stmt {w1 = w1} {w2 = w2} {w3 = w3} {w4 = w4} {w5 = w5} {w6 = w6} {w7 = w7} {w8 = w8} {ns = ns} {x = y} {y = z} {s = u} h1 h2 h3 h4 h5 h6 h7 h8) =
      by_kind k.Foreach FForeach foreach_ends front (o, x) rest len (
        (tt, (tt, (ns, (tt, (y, (z, (tt, (o, u)))))))),
        pair w1 (w2 ++ (w3 ++ (w4 ++ (w5 ++ (w6 ++ (w7 ++ w8)))))) h1 (pair w2 (w3 ++ (w4 ++ (w5 ++ (w6 ++ (w7 ++ w8))))) h2
            (pair w3 (w4 ++ (w5 ++ (w6 ++ (w7 ++ w8)))) h3 (pair w4 (w5 ++ (w6 ++ (w7 ++ w8))) h4 (pair w5 (w6 ++ (w7 ++ w8)) h5 (pair w6 (w7 ++ w8) h6 (pair w7 w8 h7 h8)))))),
        refl,
      )
  kind_reach o front x rest len (g.switch_stmt {w1 = w1} {w2 = w2} {w3 = w3} {w4 = w4} {w5 = w5} {x = y} {ss = ss} {gs = gs} h1 h2 h3 h4 h5) =
      by_kind k.Switch FSwitch switch_ends front (o, x) rest len ((y, (tt, (ss, (gs, tt)))), pair w1 (w2 ++ (w3 ++ (w4 ++ w5))) h1 (pair w2 (w3 ++ (w4 ++ w5)) h2 (pair w3 (w4 ++ w5) h3 (pair w4 w5 h4 h5))), refl)
  kind_reach o front x rest len (g.break_stmt {w1 = w1} {w2 = w2} h1 h2) = by_kind k.Break (Image (λ z. closed t.Break) (Pair (Marked k.Break) (Marked k.Semicolon))) (closed_ends open_of (break_good (suc n))) front (o, x) rest len ((tt, tt), pair w1 w2 h1 h2, refl)
  kind_reach o front x rest len (g.continue_stmt {w1 = w1} {w2 = w2} h1 h2) = by_kind k.Continue (Image (λ z. closed t.Continue) (Pair (Marked k.Continue) (Marked k.Semicolon))) (closed_ends open_of (continue_good (suc n))) front (o, x) rest len ((tt, tt), pair w1 w2 h1 h2, refl)
  kind_reach o front x rest len (g.return_stmt {w1 = w1} {w2 = w2} {w3 = w3} {x = y} h1 h2 h3) =
      by_kind k.Return (Image (λ z. closed (t.Return z.1.0)) (Pair (Marked k.Return) (Pair (Optional IsExpr) (Marked k.Semicolon)))) (closed_ends open_of (return_good (suc n))) front (o, x) rest len ((tt, (y, tt)), pair w1 (w2 ++ w3) h1 (pair w2 w3 h2 h3), refl)

  kind_ends : Ends (suc n) open_of begins_stmt Kinds (spec.stmt_kind inner)
  kind_ends = record {
    sound = kind_sound;
    reach = λ front v rest len h. kind_reach v.0 front v.1 rest len h;
    begins = λ front v h. let f = kind_front v.0 front v.1 h in record { head = f.head; tail = f.tail; parts = f.parts; kind = f.kind };
  }

  abbrev FStmt : Tokens → Bool × Stmt → Type 0
  FStmt = Placed (λ at v. (v.0, stmt at v.1)) Kinds

  stmt_into : (ts : Tokens) (v : Bool × Stmt) → FStmt ts v → Flagged ts v
  stmt_into ts v (z, h, eq) = rw (← eq) (g.a_stmt h)

  stmt_back : (o : Bool) (ts : Tokens) (x : Stmt) → IsStmt o ts x → FStmt ts (o, x)
  stmt_back o ts x (g.a_stmt {x = y} h) = ((o, y), h, refl)

  pub one_ends : Ends (suc n) open_of begins_stmt Flagged (spec.one_stmt inner)
  unfolding spec.one_stmt same_terminal
  one_ends = ends_rule (ends_placed (λ at v. (v.0, stmt at v.1)) open_of (λ at x. refl) kind_ends) begins_stmt Flagged (spec.one_stmt inner) (λ ts. refl) stmt_into (λ ts v h. stmt_back v.0 ts v.1 h) refl

pub stmt_ends : (n : ℕ) → Ends n open_of begins_stmt Flagged (spec.stmt_to n)
unfolding spec.stmt_to
stmt_ends zero = record {
  sound = λ ts. tt;
  reach = λ front v rest len h. let f = stmt_front v.0 front v.1 h in (let e : length front ≡ suc (length f.tail) = ap length f.parts in absurd (omega arith));
  begins = λ front v h. let f = stmt_front v.0 front v.1 h in record { head = f.head; tail = f.tail; parts = f.parts; kind = f.kind };
}
stmt_ends (suc n) = one_ends n (spec.stmt_to n) (stmt_ends n)

-- A list of tokens has a tree, or is refused at the first token behind the longest list.
use Rattle.std.proofs.Common.{◌≡◌, ℕ, ◌+◌, ◌-◌, ◌≤◌, Bool, true, false, ◌⊎◌, List, [], ◌∷◌, ◌++◌, length, take, drop, Some, None, refl, sym, ap, subst, ◌∙◌, append_assoc, arith, inl, inr, length-append, length-drop}
use Rattle.std.specs.Prelude.{slice_range}
use Rattle.std.proofs.lemmas.List.{take_at, drop_at, take-append-drop}
use Rattle.dc_token.specs.declared.token.Token.{Token}
use Rattle.dc_ast.specs.declared.name.Name.{Name}
use Rattle.dc_ast.specs.declared.declaration.ModuleLine.{ModuleLine}
use Rattle.dc_ast.specs.declared.declaration.ModuleTree.{ModuleTree}
use Rattle.dc_grammar.specs.declared.terminal.Terminal.{Terminal}
use Rattle.dc_grammar.specs.declared.terminal.Terminal.TheVariants as k
use Rattle.dc_grammar.specs.Terminals.{Tokens, same_terminal}
use Rattle.dc_grammar.specs.MoreTrees.{module_line, module_tree}
use Rattle.dc_grammar.specs.Shapes.{Optional}
use Rattle.dc_grammar.specs.Parts.{IsPath}
use Rattle.dc_grammar.specs.Statements as st
use Rattle.dc_grammar.specs.Statements.{IsStmt, AreStmts}
use Rattle.dc_grammar.specs.Declarations as g
use Rattle.dc_grammar.specs.Declarations.{IsDecl, AreDecls, IsModuleLine, IsModule}
use Rattle.dc_grammar.specs.Reading.{Outcome, Reader, and_then, pure, both}
use Rattle.dc_grammar.specs.StmtReaders.{stmt_to, whole_stmts}
use Rattle.dc_grammar.specs.DeclReaders as spec
use Rattle.dc_grammar.specs.DeclReaders.{decl_to, whole_decls, whole_module}
use Rattle.dc_grammar.specs.Reads.{Longest}
use Rattle.dc_grammar.specs.Refusals.{IsRefusedAt, Divides, ListsDivide, OneItem, VariableFirst, NearestIf}
use Rattle.dc_grammar.proofs.Good.{Good, Loose, Holds, Reaches, Fronts, Begins, Marked, Pair, IsRead, Shrunk, shrunk, none, or, is, mark_good, pair_sound, pair_reach, loose_reach, stops_at, wider}
use Rattle.dc_grammar.proofs.Choices.{Disjoint, apart, true_left, true_right}
use Rattle.dc_grammar.proofs.Tools.{pair, seq, Image, image, loose_image, rule, Placed, placed}
use Rattle.dc_grammar.proofs.Shapes.{optional_good, loose_retype, loose_narrow}
use Rattle.dc_grammar.proofs.Laws.{at_start}
use Rattle.dc_grammar.proofs.PartRules.{path_good}
use Rattle.dc_grammar.proofs.Open.{Ends, open_of, else_after, else_less}
use Rattle.dc_grammar.proofs.StmtRules.{begins_stmt}
use Rattle.dc_grammar.proofs.StmtLevels.{stmt_ends, stmts_good}
use Rattle.dc_grammar.proofs.DeclRules.{begins_decl}
use Rattle.dc_grammar.proofs.DeclLevels.{decl_ends, decls_good}

append_nil : (ts : Tokens) → ts ++ [] ≡ ts
append_nil [] = refl
append_nil (t ∷ ts) = ap (λ (us : Tokens). t ∷ us) (append_nil ts)

-- a reader of what may be empty that is as it is to be for texts of each length
abbrev pub EveryLoose : {A : Type 0} → (Terminal → Bool) → (Terminal → Bool) → (Tokens → A → Type 0) → Reader A → Type 0
EveryLoose g f P p = (n : ℕ) → Loose n g f P p

-- ---- the readers of whole lists

pub every_stmts : EveryLoose (or (is k.Else) begins_stmt) begins_stmt AreStmts whole_stmts
every_stmts n = record {
  sound = λ ts. (stmts_good (length ts) (stmt_to (length ts)) (stmt_ends (length ts))).sound ts;
  some = λ ts. (stmts_good (length ts) (stmt_to (length ts)) (stmt_ends (length ts))).some ts;
  reach = λ front x rest len h. (stmts_good (length (front ++ rest)) (stmt_to (length (front ++ rest))) (stmt_ends (length (front ++ rest)))).reach front x rest (omega (arith, length-append front rest)) h;
  begins = (stmts_good n (stmt_to n) (stmt_ends n)).begins;
}

pub every_decls : EveryLoose (or (is k.Else) begins_decl) begins_decl AreDecls whole_decls
every_decls n = record {
  sound = λ ts. (decls_good (length ts) (decl_to (length ts)) (decl_ends (length ts))).sound ts;
  some = λ ts. (decls_good (length ts) (decl_to (length ts)) (decl_ends (length ts))).some ts;
  reach = λ front x rest len h. (decls_good (length (front ++ rest)) (decl_to (length (front ++ rest))) (decl_ends (length (front ++ rest)))).reach front x rest (omega (arith, length-append front rest)) h;
  begins = (decls_good n (decl_to n) (decl_ends n)).begins;
}

-- ---- a module

abbrev FLine : Tokens → ModuleLine → Type 0
FLine = Placed (λ at z. module_line at z.1.0) (Pair (Marked k.Module) (Pair IsPath (Marked k.Semicolon)))

line_into : (ts : Tokens) (x : ModuleLine) → FLine ts x → IsModuleLine ts x
line_into ts x (z, q, eq) = rw (← eq, q.parts, q.two.parts) (g.a_module_line q.one q.two.one q.two.two)

line_back : (ts : Tokens) (x : ModuleLine) → IsModuleLine ts x → FLine ts x
line_back ts x (g.a_module_line {w1 = w1} {w2 = w2} {w3 = w3} {ns = ns} h1 h2 h3) = ((tt, (ns, tt)), pair w1 (w2 ++ w3) h1 (pair w2 w3 h2 h3), refl)

line_good : (n : ℕ) → Good n none (is k.Module) IsModuleLine spec.module_line
unfolding spec.module_line same_terminal
line_good n = rule (placed (λ at z. module_line at z.1.0) (seq (mark_good n k.Module) (seq (path_good n) (mark_good n k.Semicolon) (omega arith) refl) (omega arith) refl)) none (is k.Module) IsModuleLine spec.module_line (λ ts. refl) line_into line_back refl refl

-- two after one another, where both may be empty
loose_both : {A B : Type 0} {n : ℕ} {gP fP gQ fQ : Terminal → Bool} {P : Tokens → A → Type 0} {Q : Tokens → B → Type 0} {p : Reader A} {q : Reader B}
    → Loose n gP fP P p → Loose n gQ fQ Q q → Disjoint fQ gP → Loose n (or gP gQ) (or fP fQ) (Pair P Q) (both p q)
loose_both {A} {B} {n} {gP} {fP} {gQ} {fQ} {P} {Q} {p} {q} gp gq off = record {
  sound = λ ts. pair_sound P Q p q gq.sound ts (p ts) (gp.sound ts);
  some = λ ts. some (p ts) (gp.some ts);
  reach = λ front z rest len is.
      let parts : length front ≡ length is.left + length is.right = ap length is.parts ∙ length-append is.left is.right in
      let first = gp.reach is.left z.0 (is.right ++ rest) (omega arith) is.one in
      let second = gq.reach is.right z.1 rest (omega arith) is.two in
      rw (is.parts, append_assoc) (go z.0 z.1 is.right rest (p (is.left ++ (is.right ++ rest))) first second (gq.begins is.right z.1 is.two));
  begins = λ front z is. begins front z is (gp.begins is.left z.0 is.one) (gq.begins is.right z.1 is.two);
}
  where
    shrinks : (ts : Tokens) → Shrunk ts (q ts)
    shrinks ts = shrunk Q ts (q ts) (gq.some ts) (gq.sound ts)

    second_some : (x : A) (r : Outcome B) → IsRead r → IsRead {A = A × B} (and_then r (λ y. pure (x, y)))
    second_some x (Some r) h = tt
    second_some x None h = h

    some : (r : Outcome A) → IsRead r → IsRead {A = A × B} (and_then r (λ x ts. and_then (q ts) (λ y. pure (x, y))))
    some (Some r) h = second_some r.0 (q r.1) (gq.some r.1)
    some None h = h

    go : (x : A) (y : B) (right rest : Tokens) (r : Outcome A) → Reaches gP r x (right ++ rest) → Reaches gQ (q (right ++ rest)) y rest → (right ≡ []) ⊎ Begins fQ right
        → Reaches {A = A × B} (or gP gQ) (and_then r (λ x ts. and_then (q ts) (λ y. pure (x, y)))) (x, y) rest
    go x y right rest r h s (inl empty) =
        let h' : Reaches gP r x rest = rw empty at h in
        let s' : Reaches gQ (q rest) y rest = rw empty at s in
        loose_reach P Q p q gP gQ x y rest r h' shrinks s'
    go x y right rest r h s (inr c) =
        wider gQ (or gP gQ) (and_then r (λ x ts. and_then (q ts) (λ y. pure (x, y)))) (x, y) rest (λ kind e. right_false (gP kind) (gQ kind) e) (pair_reach P Q p q gP gQ x y (right ++ rest) rest r h (stops_at fQ gP right rest (apart fQ gP off) c) s)
      where
        right_false : (a b : Bool) → or (λ u. a) (λ u. b) k.End ≡ false → b ≡ false
        right_false true b e = absurd cc
        right_false false b e = e

    begins : (front : Tokens) (z : A × B) (is : Pair P Q front z) → (is.left ≡ []) ⊎ Begins fP is.left → (is.right ≡ []) ⊎ Begins fQ is.right → (front ≡ []) ⊎ Begins (or fP fQ) front
    begins front z is (inl empty) (inl empty2) = inl (is.parts ∙ rw (empty, empty2) refl)
    begins front z is (inl empty) (inr b) = inr (record { head = b.head; tail = b.tail; parts = is.parts ∙ rw empty b.parts; kind = true_right _ _ b.kind })
    begins front z is (inr b) c = inr (record { head = b.head; tail = b.tail ++ is.right; parts = is.parts ∙ ap (λ (t : Tokens). t ++ is.right) b.parts; kind = true_left _ _ b.kind })

module_into : (ts : Tokens) (x : ModuleTree) → Image (λ z. module_tree z.0 z.1) (Pair (Optional IsModuleLine) AreDecls) ts x → IsModule ts x
module_into ts x (z, q, eq) = rw (← eq, q.parts) (g.a_module q.one q.two)

module_back : (ts : Tokens) (x : ModuleTree) → IsModule ts x → Image (λ z. module_tree z.0 z.1) (Pair (Optional IsModuleLine) AreDecls) ts x
module_back ts x (g.a_module {w1 = w1} {w2 = w2} {l = l} {ds = ds} h c) = ((l, ds), pair w1 w2 h c, refl)

abbrev pub begins_module : Terminal → Bool
begins_module = or (is k.Module) begins_decl

pub every_module : EveryLoose (or (is k.Else) begins_module) begins_module IsModule whole_module
unfolding whole_module same_terminal
every_module n = loose_narrow (loose_retype (loose_image (λ z. module_tree z.0 z.1) (loose_both (optional_good (line_good n)) (every_decls n) refl)) IsModule module_into module_back) (or (is k.Else) begins_module) begins_module refl refl

-- ---- what they give

abbrev rest_of : {A : Type 0} → Outcome A → Tokens
rest_of (Some p) = p.1
rest_of None = []

abbrev tree_of : {A : Type 0} → A → Outcome A → A
tree_of x (Some p) = p.0
tree_of x None = x

same_trees : {A : Type 0} (x : A) (r u : Outcome A) → r ≡ u → tree_of x r ≡ tree_of x u
same_trees x r u e = ap (tree_of x) e

same_rests : {A : Type 0} (r u : Outcome A) → r ≡ u → rest_of r ≡ rest_of u
same_rests r u e = ap rest_of e

module _ {A : Type 0} {g f : Terminal → Bool} {P : Tokens → A → Type 0} {p : Reader A} (good : EveryLoose g f P p) (stop : g k.End ≡ false) where
  pub never_fails : (ts : Tokens) → p ts ≡ None → ⊥
  never_fails ts e = let h : IsRead {A = A} None = subst (λ (r : Outcome A). IsRead r) e ((good 0).some ts) in h

  sound_at : (ts : Tokens) (x : A) (rest : Tokens) → p ts ≡ Some (x, rest) → Fronts P ts x rest
  sound_at ts x rest e = let h : Holds P ts (Some (x, rest)) = subst (λ (r : Outcome A). Holds P ts r) e ((good 0).sound ts) in h

  reach_at : (ts : Tokens) (other : A) (front rest : Tokens) → ts ≡ front ++ rest → P front other → Reaches g (p ts) other rest
  reach_at ts other front rest parts h = let r = (good (length front)).reach front other rest (omega arith) h in rw (← parts) at r

  -- the tree of a whole list is what is read
  pub whole_is_read : (ts : Tokens) (x : A) → P ts x → p ts ≡ Some (x, [])
  whole_is_read ts x h = go (p ts) (reach_at ts x ts [] (sym (append_nil ts)) h)
    where
      go : (r : Outcome A) → Reaches g r x [] → r ≡ Some (x, [])
      go (Some r) c = let e = c.1 stop in ap Some (rw (e.0, e.1) refl)
      go None c = absurd c

  pub one_whole : (ts : Tokens) (x y : A) → P ts x → P ts y → x ≡ y
  one_whole ts x y h c = same_trees x (Some (x, [])) (Some (y, [])) (sym (whole_is_read ts x h) ∙ whole_is_read ts y c)

  -- what is read to the end is a tree of the list
  pub read_is_whole : (ts : Tokens) (x : A) → p ts ≡ Some (x, []) → P ts x
  read_is_whole ts x e = let h = sound_at ts x [] e in rw (h.parts ∙ append_nil h.front) h.is

  -- what is read is the longest list that begins the tokens
  pub read_is_longest : (ts : Tokens) (x : A) (rest : Tokens) → p ts ≡ Some (x, rest) → Longest P ts 0 x (length ts - length rest)
  read_is_longest ts x rest e =
      let h = sound_at ts x rest e in
      let parts : length ts ≡ length h.front + length rest = ap length h.parts ∙ length-append h.front rest in
      let count : length ts - length rest ≡ length h.front = omega arith in
      let text : take (length ts - length rest) ts ≡ h.front = ap (λ (m : ℕ). take m ts) count ∙ ap (λ (us : Tokens). take (length h.front) us) h.parts ∙ take_at h.front rest (length h.front) refl in
      record {
        within = omega arith;
        is = subst (λ (w : Tokens). P w x) (sym text ∙ at_start ts (length ts - length rest)) h.is;
        longest = λ to other within is.
            let c : Reaches g (Some (x, rest)) other (drop to ts) = subst (λ (r : Outcome A). Reaches g r other (drop to ts)) e (reach_at ts other (take to ts) (drop to ts) (sym (take-append-drop to ts)) (subst (λ (w : Tokens). P w other) (sym (at_start ts to)) is)) in
            let far : length (drop to ts) ≡ length ts - to = length-drop to ts in
            let more : length rest ≤ length (drop to ts) = c.0 in
            omega arith;
      }

  pub read_is_refused : (ts : Tokens) (x : A) (token : Token) (rest : Tokens) → p ts ≡ Some (x, token ∷ rest) → IsRefusedAt P ts token
  read_is_refused ts x token rest e =
      let h = sound_at ts x (token ∷ rest) e in
      let parts : length ts ≡ length h.front + length (token ∷ rest) = ap length h.parts ∙ length-append h.front (token ∷ rest) in
      let count : length ts - length (token ∷ rest) ≡ length h.front = omega arith in
      record {
        tree = x;
        end = length ts - length (token ∷ rest);
        rest = rest;
        longest = read_is_longest ts x (token ∷ rest) e;
        here = ap (λ (m : ℕ). drop m ts) count ∙ ap (λ (us : Tokens). drop (length h.front) us) h.parts ∙ drop_at h.front (token ∷ rest) (length h.front) refl;
      }

  -- the longest list ends where the reader does
  same_rest : (ts : Tokens) (x y : A) (rest : Tokens) (end : ℕ) → p ts ≡ Some (x, rest) → Longest P ts 0 y end → drop end ts ≡ rest
  same_rest ts x y rest end e h =
      let s = sound_at ts x rest e in
      let parts : length ts ≡ length s.front + length rest = ap length s.parts ∙ length-append s.front rest in
      let text : take (length s.front) ts ≡ s.front = ap (λ (us : Tokens). take (length s.front) us) s.parts ∙ take_at s.front rest (length s.front) refl in
      let upto : length s.front ≤ end = h.longest (length s.front) x (omega arith) (subst (λ (w : Tokens). P w x) (sym text ∙ at_start ts (length s.front)) s.is) in
      let other = read_is_longest ts x rest e in
      let below : end ≤ length ts - length rest = other.longest end y h.within h.is in
      let same : end ≡ length s.front = omega arith in
      ap (λ (m : ℕ). drop m ts) same ∙ ap (λ (us : Tokens). drop (length s.front) us) s.parts ∙ drop_at s.front rest (length s.front) refl

  either_at : (ts : Tokens) (r : Outcome A) → p ts ≡ r → ((x : A) × P ts x) ⊎ ((token : Token) × IsRefusedAt P ts token)
  either_at ts None e = absurd (never_fails ts e)
  either_at ts (Some r) e = go r.0 r.1 e
    where
      go : (x : A) (rest : Tokens) → p ts ≡ Some (x, rest) → ((x : A) × P ts x) ⊎ ((token : Token) × IsRefusedAt P ts token)
      go x [] e = inl (x, read_is_whole ts x e)
      go x (token ∷ rest) e = inr (token, read_is_refused ts x token rest e)

  refused_rest : (ts : Tokens) (token : Token) (h : IsRefusedAt P ts token) (r : Outcome A) → p ts ≡ r → (x : A) × (p ts ≡ Some (x, token ∷ h.rest))
  refused_rest ts token h None e = absurd (never_fails ts e)
  refused_rest ts token h (Some r) e = (r.0, e ∙ ap (λ (us : Tokens). Some (r.0, us)) (sym (same_rest ts r.0 h.tree r.1 h.end e h.longest) ∙ h.here))

  longest_at : (ts : Tokens) (r : Outcome A) → p ts ≡ r → (x : A) × (end : ℕ) × Longest P ts 0 x end
  longest_at ts None e = absurd (never_fails ts e)
  longest_at ts (Some r) e = (r.0, length ts - length r.1, read_is_longest ts r.0 r.1 e)

  longest_once : (ts : Tokens) (x y : A) (m i : ℕ) → Longest P ts 0 x m → Longest P ts 0 y i → (x ≡ y) × (m ≡ i)
  longest_once ts x y m i h c =
      let up : m ≤ i = c.longest m x h.within h.is in
      let down : i ≤ m = h.longest i y c.within c.is in
      let same : m ≡ i = omega arith in
      (one_whole (slice_range ts 0 i) x y (subst (λ (j : ℕ). P (slice_range ts 0 j) x) same h.is) c.is, same)

  pub divides : Divides P
  divides = record {
    either = λ ts. either_at ts (p ts) refl;
    never_both = λ ts x token h c. let q = refused_rest ts token c (p ts) refl in let e = same_rests (Some (x, [])) (Some (q.0, token ∷ c.rest)) (sym (whole_is_read ts x h) ∙ q.1) in absurd cc;
    one_tree = one_whole;
    longest = λ ts. longest_at ts (p ts) refl;
    one_longest = longest_once;
    one_place = λ ts token other h c.
        let q1 = refused_rest ts token h (p ts) refl in
        let q2 = refused_rest ts other c (p ts) refl in
        let e = same_rests (Some (q1.0, token ∷ h.rest)) (Some (q2.0, other ∷ c.rest)) (sym q1.1 ∙ q2.1) in cc;
  }

pub lists_divide : ListsDivide
unfolding same_terminal
lists_divide = record {
  modules = divides every_module refl;
  declarations = divides every_decls refl;
  statements = divides every_stmts refl;
}

-- ---- one statement, one declaration

one_of_each : {A : Type 0} {f : Terminal → Bool} {P : Tokens → Bool × A → Type 0} {p : Reader (Bool × A)} (n : ℕ) → Ends n open_of f P p → (ts : Tokens) (v w : Bool × A) → length ts ≤ n → P ts v → P ts w → v ≡ w
unfolding same_terminal
one_of_each {A} {f} {P} {p} n ends ts v w len h c = go (p (ts ++ [])) (ends.reach ts v [] len h) (ends.reach ts w [] len c)
  where
    go : (r : Outcome (Bool × A)) → Reaches (else_after v.0) r v [] → Reaches (else_after w.0) r w [] → v ≡ w
    go (Some r) a b = sym (a.1 (else_less v.0 k.End refl)).0 ∙ (b.1 (else_less w.0 k.End refl)).0
    go None a b = absurd a

both_parts : {A : Type 0} (v w : Bool × A) → v ≡ w → (v.0 ≡ w.0) × (v.1 ≡ w.1)
both_parts {A} v w e = (ap (λ (v : Bool × A). v.0) e, ap (λ (v : Bool × A). v.1) e)

pub one_item : OneItem
one_item = record {
  statement = λ ts o p x y h c. both_parts (o, x) (p, y) (one_of_each (length ts) (stmt_ends (length ts)) ts (o, x) (p, y) (omega arith) h c);
  declaration = λ ts o p x y h c. both_parts (o, x) (p, y) (one_of_each (length ts) (decl_ends (length ts)) ts (o, x) (p, y) (omega arith) h c);
}

pub variable_first : VariableFirst
variable_first ts v o x h c = (one_item.statement ts o false x _ c (st.a_stmt (st.variable_stmt h))).1

pub nearest_if : NearestIf
nearest_if w1 w2 w3 w4 w5 x y s r o p z h1 h2 h3 m h5 off c =
    (one_item.statement (w1 ++ (w2 ++ (w3 ++ (w4 ++ w5)))) p true z _ c (st.a_stmt (st.if_stmt (st.if_alone h1 (st.a_stmt (st.if_stmt (st.if_else h2 h3 m h5 off))))))).1

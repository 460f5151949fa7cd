-- What declarations and statements are made of is read.
use Rattle.std.proofs.Common.{cond, ◌≡◌, ℕ, ◌+◌, ◌≤◌, Bool, true, false, List, [], ◌∷◌, ◌++◌, length, Option, Some, None, refl, sym, ap, ◌∙◌, arith, inl, inr, length-append}
use Rattle.dc_token.specs.declared.token.Token.{Token}
use Rattle.dc_ast.specs.declared.word.Attribute.{Attribute}
use Rattle.dc_ast.specs.declared.name.Name.{Name}
use Rattle.dc_ast.specs.declared.expression.Expr.{Expr}
use Rattle.dc_ast.specs.declared.types.TypeTree.{TypeTree}
use Rattle.dc_ast.specs.declared.statement.Label.{Label}
use Rattle.dc_ast.specs.declared.statement.Label.TheVariants as label
use Rattle.dc_ast.specs.declared.statement.LoopName.{LoopName}
use Rattle.dc_ast.specs.declared.statement.StaticTest.{StaticTest}
use Rattle.dc_ast.specs.declared.statement.StaticTest.TheVariants as test
use Rattle.dc_ast.specs.declared.statement.StaticRange.{StaticRange}
use Rattle.dc_ast.specs.declared.statement.StaticAssert.{StaticAssert}
use Rattle.dc_ast.specs.declared.statement.Variable.{Variable}
use Rattle.dc_ast.specs.declared.statement.EnumMember.{EnumMember}
use Rattle.dc_ast.specs.declared.statement.TemplateParameter.{TemplateParameter}
use Rattle.dc_ast.specs.declared.statement.TemplateParameter.TheVariants as q
use Rattle.dc_ast.specs.declared.statement.ImportTree.{ImportTree}
use Rattle.dc_ast.specs.declared.statement.ImportItem.{ImportItem}
use Rattle.dc_ast.specs.declared.statement.Bind.{Bind}
use Rattle.dc_grammar.specs.declared.terminal.Terminal.{Terminal}
use Rattle.dc_grammar.specs.declared.terminal.Terminal.TheVariants as k
use Rattle.dc_grammar.specs.Terminals.{Tokens, ahead, start_of, terminal_of, same_terminal}
use Rattle.dc_grammar.specs.Words.{Spelt, attribute_word, at_word}
use Rattle.dc_grammar.specs.MoreTrees.{import_item, import_tree, variable, member, loop_name, static_range, static_assert}
use Rattle.dc_grammar.specs.MoreTrees as trees
use Rattle.dc_grammar.specs.Grammar.{Mark, Named, Means, Id, IsExpr, IsType, IsBase}
use Rattle.dc_grammar.specs.Shapes as s
use Rattle.dc_grammar.specs.Shapes.{Optional, Several, After, Listed, Perhaps, Flag}
use Rattle.dc_grammar.specs.Parts as g
use Rattle.dc_grammar.specs.Parts.{Head, IsPath, IsAttribute, IsImportItem, IsBind, IsImported, IsImport, IsTemplateParameter, AreTemplateParameters, IsMember, IsOne, IsStaticTest, IsStaticRange, IsStaticAssert, IsLoop, AreLoops, IsLabel}
use Rattle.dc_grammar.specs.Reading.{Outcome, means, given, either, ◌<$>◌}
use Rattle.dc_grammar.specs.Readers.{whole_type}
use Rattle.dc_grammar.specs.PartReaders as spec
use Rattle.dc_grammar.specs.PartReaders.{after, next, listed, some_listed, flag}
use Rattle.dc_grammar.proofs.Good.{Good, Loose, Holds, Marked, Pair, none, or, is, is_same, same_is, given_by, mark_good, means_good}
use Rattle.dc_grammar.proofs.Lists.{refused}
use Rattle.dc_grammar.proofs.Choices.{Or}
use Rattle.dc_grammar.proofs.Tools.{pair, seq, seq_loose, loose_seq, one_of, narrow, Image, image, rule, lower, or_none, Placed, placed, Over, prefer}
use Rattle.dc_grammar.proofs.Shapes.{retype, optional_good, several_good, after_good, listed_good, some_listed_good, flag_good}
use Rattle.dc_grammar.proofs.Arguments.{id_good}
use Rattle.dc_grammar.proofs.Laws.{every_expr, every_type}
use Rattle.dc_grammar.proofs.Edges.{after_expr, after_type, begins_type}
use Rattle.dc_ast.specs.declared.types.Base.TheVariants as b
use Rattle.dc_grammar.specs.Trees.{symbol, type_tree}
use Rattle.dc_grammar.specs.Grammar as e
use Rattle.dc_grammar.proofs.Tools as tools
use Rattle.dc_grammar.specs.Readers.{id, or_empty}
use Rattle.dc_grammar.proofs.Good.{length_of, or_left, or_right}
use Rattle.dc_grammar.proofs.Tools.{loose_image}
use Rattle.dc_grammar.proofs.Shapes.{loose_retype, loose_narrow, exact_at}

append_nil : (ts : Tokens) → ts ++ [] ≡ ts
append_nil [] = refl
append_nil (t ∷ ts) = ap (λ (us : Tokens). t ∷ us) (append_nil ts)

-- ---- attributes

spelt_sound : {A : Type 0} (f : List ℕ → Option A) (ts : Tokens) → Holds (Spelt f) ts (spec.spelt f ts)
spelt_sound {A} f [] = tt
spelt_sound {A} f (u ∷ us) = go (same_terminal (terminal_of u) k.Name) refl
  where
    found : terminal_of u ≡ k.Name → (r : Option A) → f u.spelling ≡ r → Holds (Spelt f) (u ∷ us) (given r us)
    found e (Some x) means = record { front = u ∷ []; parts = refl; is = record { token = u; alone = refl; is = e; means = means } }
    found e None means = tt

    go : (b : Bool) → same_terminal (terminal_of u) k.Name ≡ b → Holds (Spelt f) (u ∷ us) (cond b (given (f u.spelling) us) None)
    go true e = found (is_same k.Name (terminal_of u) e) (f u.spelling) refl
    go false e = tt

spelt_good : {A : Type 0} (n : ℕ) (f : List ℕ → Option A) → Good n none (is k.Name) (Spelt f) (spec.spelt f)
spelt_good n f = record {
  sound = spelt_sound f;
  reach = λ front x rest len h. let e = same_is k.Name (terminal_of h.token) h.is in rw (h.alone, e, h.means) (omega arith, λ _. (refl, refl));
  begins = λ front x h. record { head = h.token; tail = []; parts = h.alone; kind = same_is k.Name (terminal_of h.token) h.is };
}

abbrev pub begins_attribute : Terminal → Bool
begins_attribute = or (is k.At) (given_by attribute_word)

attribute_into : (ts : Tokens) (x : Attribute) → Or (After k.At (Spelt at_word)) (Means attribute_word) ts x → IsAttribute ts x
attribute_into ts x (inl h) = go ts x h
  where
    go : (ts : Tokens) (x : Attribute) → After k.At (Spelt at_word) ts x → IsAttribute ts x
    go ts x (s.after m h) = g.at_attribute m h
attribute_into ts x (inr h) = g.word_attribute h

attribute_back : (ts : Tokens) (x : Attribute) → IsAttribute ts x → Or (After k.At (Spelt at_word)) (Means attribute_word) ts x
attribute_back ts x (g.word_attribute h) = inr h
attribute_back ts x (g.at_attribute m h) = inl (s.after m h)

attribute_same : (ts : Tokens) → spec.attribute ts ≡ (either spec.at_attribute (means attribute_word)) ts
unfolding spec.attribute spec.at_attribute same_terminal
attribute_same [] = refl
attribute_same (t ∷ ts) = go (terminal_of t) refl
  where
    go : (kind : Terminal) → terminal_of t ≡ kind → spec.attribute_by kind (t ∷ ts) ≡ (either spec.at_attribute (means attribute_word)) (t ∷ ts)
    go k.At eq = rw eq (sym (or_none _))
    go _ eq = rw eq refl

pub attribute_good : (n : ℕ) → Good n none begins_attribute IsAttribute spec.attribute
unfolding spec.at_attribute same_terminal
attribute_good n = rule (one_of (lower (after_good k.At (spelt_good n at_word))) (means_good n attribute_word) refl) none begins_attribute IsAttribute spec.attribute attribute_same attribute_into attribute_back refl refl

pub attributes_good : (n : ℕ) → Loose n begins_attribute begins_attribute (Several IsAttribute) spec.attributes
unfolding same_terminal
attributes_good n = several_good (attribute_good n) (tools.apart_from begins_attribute none refl)

-- ---- a word and an expression in brackets

abbrev pub FHead : Terminal → Tokens → Expr → Type 0
FHead word = Image (λ z. z.1.1.0) (Pair (Marked word) (Pair (Marked k.LeftParen) (Pair IsExpr (Marked k.RightParen))))

head_into : (word : Terminal) (ts : Tokens) (x : Expr) → FHead word ts x → Head word ts x
head_into word ts x (z, p, eq) = rw (← eq, p.parts, p.two.parts, p.two.two.parts) (g.head p.one p.two.one p.two.two.one p.two.two.two)

head_back : (word : Terminal) (ts : Tokens) (x : Expr) → Head word ts x → FHead word ts x
head_back word ts x (g.head {w1 = w1} {w2 = w2} {w3 = w3} {w4 = w4} {x = y} h1 h2 h3 h4) = ((tt, (tt, (y, tt))), pair w1 (w2 ++ (w3 ++ w4)) h1 (pair w2 (w3 ++ w4) h2 (pair w3 w4 h3 h4)), refl)

pub head_good : (n : ℕ) (word : Terminal) → Good n none (is word) (Head word) (spec.head word)
unfolding spec.head same_terminal
head_good n word = retype (image (λ z. z.1.1.0) (seq (mark_good n word) (seq (mark_good n k.LeftParen) (seq (every_expr n) (mark_good n k.RightParen) (omega arith) refl) (omega arith) refl) (omega arith) refl))
    (Head word) (spec.head word) (λ ts. refl) (head_into word) (head_back word)

-- ---- paths and imports

abbrev pub FPath : Tokens → List Name → Type 0
FPath = Image (λ z. z.0 ∷ z.1) (Pair Id (Several (After k.Dot Id)))

path_into : (ts : Tokens) (x : List Name) → FPath ts x → IsPath ts x
path_into ts x (z, p, eq) = rw (← eq, p.parts) (g.path p.one p.two)

path_back : (ts : Tokens) (x : List Name) → IsPath ts x → FPath ts x
path_back ts x (g.path {w1 = w1} {w2 = w2} {n = y} {ns = ys} h1 h2) = ((y, ys), pair w1 w2 h1 h2, refl)

pub path_good : (n : ℕ) → Good n (is k.Dot) (is k.Name) IsPath spec.path
unfolding spec.path same_terminal spec.next_part
path_good n = rule (image (λ z. z.0 ∷ z.1) (seq_loose (id_good n) (several_good (lower (after_good k.Dot (id_good n))) (tools.apart_from (is k.Dot) none refl)) (omega arith) refl)) (is k.Dot) (is k.Name) IsPath spec.path (λ ts. refl) path_into path_back refl refl

abbrev pub after_item : Terminal → Bool
after_item = or (is k.Equals) (is k.Dot)

abbrev pub FRenamedItem : Tokens → ImportItem → Type 0
FRenamedItem = Placed (λ at z. import_item at (Some z.0) z.1.1) (Pair Id (Pair (Marked k.Equals) IsPath))

abbrev pub FPlainItem : Tokens → ImportItem → Type 0
FPlainItem = Placed (λ at z. import_item at None z) IsPath

renamed_item_good : (n : ℕ) → Good n after_item (is k.Name) FRenamedItem spec.renamed_item
unfolding spec.renamed_item same_terminal
renamed_item_good n = narrow (placed (λ at z. import_item at (Some z.0) z.1.1) (seq (id_good n) (seq (mark_good n k.Equals) (path_good n) (omega arith) refl) (omega arith) refl)) after_item (is k.Name) refl refl

plain_item_good : (n : ℕ) → Good n (is k.Dot) (is k.Name) FPlainItem spec.plain_item
unfolding spec.plain_item same_terminal
plain_item_good n = placed (λ at z. import_item at None z) (path_good n)

-- what is renamed begins with one name
item_over : (front : Tokens) (x : ImportItem) (rest : Tokens) → FPlainItem front x → Over after_item (spec.renamed_item (front ++ rest)) rest
unfolding same_terminal
item_over front x rest (ns, h, eq) = go ns front h (spec.renamed_item (front ++ rest)) ((renamed_item_good 0).sound (front ++ rest))
  where
    rests : (m : Token) (w v us : Tokens) (ms : List Name) → Several (After k.Dot Id) w ms → w ++ rest ≡ m ∷ us → terminal_of m ≡ k.Equals → length v ≤ length us → (length v ≤ length rest) × (after_item (ahead rest) ≡ true)
    rests m w v us ms s.finished e eq less = (rw e (omega arith), rw (e, eq) refl)
    rests m w v us ms (s.several {w1 = a} {w2 = c} {x = y} first others) e eq less = dotted a c y first e
      where
        dotted : (a c : Tokens) (y : Name) → After k.Dot Id a y → (a ++ c) ++ rest ≡ m ∷ us → (length v ≤ length rest) × (after_item (ahead rest) ≡ true)
        dotted a c y (s.after mk i2) e = let clash : k.Dot ≡ k.Equals = sym mk.is ∙ ap (λ (ts : Tokens). ahead ts) (rw mk.alone at e) ∙ eq in absurd cc

    go : (ns : List Name) (front : Tokens) → IsPath front ns → (r : Outcome ImportItem) → Holds FRenamedItem (front ++ rest) r → Over after_item r rest
    go ns front h None k = tt
    go ns front (g.path {w1 = w1} {w2 = w2} {ns = ms} i more) (Some r) h =
        let p = h.is.1 in
        let mk = p.two.one in
        let text : (w1 ++ w2) ++ rest ≡ p.one.token ∷ (mk.token ∷ (p.two.right ++ r.1)) = h.parts ∙ rw (p.parts, p.two.parts, p.one.alone, mk.alone) refl in
        let text2 : i.token ∷ (w2 ++ rest) ≡ p.one.token ∷ (mk.token ∷ (p.two.right ++ r.1)) = rw i.alone at text in
        let tail : w2 ++ rest ≡ mk.token ∷ (p.two.right ++ r.1) = cc in
        rests mk.token w2 r.1 (p.two.right ++ r.1) ms more tail mk.is (omega (arith, length-append p.two.right r.1))

item_into : (ts : Tokens) (x : ImportItem) → Or FRenamedItem FPlainItem ts x → IsImportItem ts x
item_into ts x (inl (z, p, eq)) = rw (← eq, p.parts, p.two.parts) (g.renamed_item p.one p.two.one p.two.two)
item_into ts x (inr (z, h, eq)) = rw (← eq) (g.plain_item h)

item_back : (ts : Tokens) (x : ImportItem) → IsImportItem ts x → Or FRenamedItem FPlainItem ts x
item_back ts x (g.plain_item {ns = ns} h) = inr (ns, h, refl)
item_back ts x (g.renamed_item {w1 = w1} {w2 = w2} {w3 = w3} {n = y} {ns = ns} h1 h2 h3) = inl ((y, (tt, ns)), pair w1 (w2 ++ w3) h1 (pair w2 w3 h2 h3), refl)

item_good : (n : ℕ) → Good n after_item (is k.Name) IsImportItem spec.item
unfolding spec.item same_terminal
item_good n = rule (prefer (renamed_item_good n) (plain_item_good n) refl item_over) after_item (is k.Name) IsImportItem spec.item (λ ts. refl) item_into item_back refl refl

abbrev pub FBind : Tokens → Bind → Type 0
FBind = Image (λ z. trees.bind z.0 z.1) (Pair Id (Optional (After k.Equals Id)))

bind_into : (ts : Tokens) (x : Bind) → FBind ts x → IsBind ts x
bind_into ts x (z, p, eq) = rw (← eq, p.parts) (g.a_bind p.one p.two)

bind_back : (ts : Tokens) (x : Bind) → IsBind ts x → FBind ts x
bind_back ts x (g.a_bind {w1 = w1} {w2 = w2} {n = y} {m = m} h1 h2) = ((y, m), pair w1 w2 h1 h2, refl)

pub bind_good : (n : ℕ) → Good n (is k.Equals) (is k.Name) IsBind spec.bind
unfolding spec.bind same_terminal spec.original
bind_good n = rule (image (λ z. trees.bind z.0 z.1) (seq_loose (id_good n) (optional_good (lower (after_good k.Equals (id_good n)))) (omega arith) refl)) (is k.Equals) (is k.Name) IsBind spec.bind (λ ts. refl) bind_into bind_back refl refl

binds_good : (n : ℕ) → Good n (or (is k.Equals) (is k.Comma)) (is k.Colon) (After k.Colon (Listed IsBind)) spec.binds
unfolding spec.binds same_terminal
binds_good n = narrow (lower (after_good k.Colon (listed_good (bind_good n) refl))) (or (is k.Equals) (is k.Comma)) (is k.Colon) refl refl

-- what is behind a colon, or nothing
perhaps_binds_into : (ts : Tokens) (xs : List Bind) → Image or_empty (Optional (After k.Colon (Listed IsBind))) ts xs → Perhaps (After k.Colon (Listed IsBind)) ts xs
perhaps_binds_into ts xs (z, h, eq) = rw (← eq) (go ts z h)
  where
    filled : (ts : Tokens) (ys : List Bind) → After k.Colon (Listed IsBind) ts ys → Perhaps (After k.Colon (Listed IsBind)) ts ys
    filled ts ys (s.after {w1 = w1} {w2 = w2} m h) = inside w2 ys h
      where
        inside : (w2 : Tokens) (ys : List Bind) → Listed IsBind w2 ys → Perhaps (After k.Colon (Listed IsBind)) (w1 ++ w2) ys
        inside w2 ys (s.listed one others) = s.there (s.after m (s.listed one others))

    go : (ts : Tokens) (z : Option (List Bind)) → Optional (After k.Colon (Listed IsBind)) ts z → Perhaps (After k.Colon (Listed IsBind)) ts (or_empty z)
    go ts z s.absent = s.not_there
    go ts z (s.present {x = ys} h) = filled ts ys h

perhaps_binds_back : (ts : Tokens) (xs : List Bind) → Perhaps (After k.Colon (Listed IsBind)) ts xs → Image or_empty (Optional (After k.Colon (Listed IsBind))) ts xs
perhaps_binds_back ts xs s.not_there = (None, s.absent, refl)
perhaps_binds_back ts xs (s.there {x = y} {xs = ys} h) = (Some (y ∷ ys), s.present h, refl)

some_binds_good : (n : ℕ) → Loose n (or (is k.Colon) (or (is k.Equals) (is k.Comma))) (is k.Colon) (Perhaps (After k.Colon (Listed IsBind))) spec.some_binds
unfolding same_terminal
some_binds_good n = loose_narrow (loose_retype (loose_image or_empty (optional_good (binds_good n))) (Perhaps (After k.Colon (Listed IsBind))) perhaps_binds_into perhaps_binds_back) (or (is k.Colon) (or (is k.Equals) (is k.Comma))) (is k.Colon) refl refl

module _ (is_static : Bool) where
  abbrev pub FImported : Tokens → ImportTree → Type 0
  FImported = Image (λ z. import_tree is_static z.1.0 z.1.1.0) (Pair (Marked k.Import) (Pair (Listed IsImportItem) (Pair (Perhaps (After k.Colon (Listed IsBind))) (Marked k.Semicolon))))

  imported_into : (ts : Tokens) (x : ImportTree) → FImported ts x → IsImported is_static ts x
  imported_into ts x (z, p, eq) = rw (← eq, p.parts, p.two.parts, p.two.two.parts) (g.imported p.one p.two.one p.two.two.one p.two.two.two)

  imported_back : (ts : Tokens) (x : ImportTree) → IsImported is_static ts x → FImported ts x
  imported_back ts x (g.imported {w1 = w1} {w2 = w2} {w3 = w3} {w4 = w4} {is = ys} {bs = zs} h1 h2 h3 h4) = ((tt, (ys, (zs, tt))), pair w1 (w2 ++ (w3 ++ w4)) h1 (pair w2 (w3 ++ w4) h2 (pair w3 w4 h3 h4)), refl)

  pub imported_good : (n : ℕ) → Good n none (is k.Import) (IsImported is_static) (spec.imported is_static)
  unfolding spec.imported same_terminal
  imported_good n = rule (image (λ z. import_tree is_static z.1.0 z.1.1.0) (seq (mark_good n k.Import) (seq (listed_good (item_good n) refl) (loose_seq (some_binds_good n) (mark_good n k.Semicolon) refl) (omega arith) refl) (omega arith) refl)) none (is k.Import) (IsImported is_static) (spec.imported is_static) (λ ts. refl) imported_into imported_back refl refl

pub static_import_good : (n : ℕ) → Good n none (is k.Static) (After k.Static (IsImported true)) spec.static_import
unfolding spec.static_import
static_import_good n = lower (after_good k.Static (imported_good true n))

-- ---- names with types

abbrev pub after_typed : Terminal → Bool
after_typed = or after_type (is k.Name)

pub type_name_good : (n : ℕ) → Good n none begins_type (Pair IsType Id) spec.type_name
unfolding spec.type_name same_terminal
type_name_good n = seq (every_type n) (id_good n) (omega arith) refl

abbrev pub FTyped : Tokens → Option TypeTree × Name → Type 0
FTyped = Image (λ z. (Some z.0, z.1)) (Pair IsType Id)

abbrev pub FUntyped : Tokens → Option TypeTree × Name → Type 0
FUntyped = Image (λ n. (None, n)) Id

pub typed_good : (n : ℕ) → Good n none begins_type FTyped spec.typed
typed_good n = image (λ z. (Some z.0, z.1)) (type_name_good n)

untyped_good : (n : ℕ) → Good n none (is k.Name) FUntyped spec.untyped
untyped_good n = image (λ n. (None, n)) (id_good n)

-- a name alone is no type and a name, unless more of one follows
typed_over : (front : Tokens) (x : Option TypeTree × Name) (rest : Tokens) → FUntyped front x → Over after_typed (spec.typed (front ++ rest)) rest
unfolding same_terminal spec.type_name
typed_over front x rest (y, i, eq) = go (after_typed (ahead rest)) refl (spec.typed (front ++ rest)) refl ((typed_good 0).sound (front ++ rest))
  where
    alone : IsType front (type_tree (start_of front) (b.Named (symbol y None ∷ [])) [])
    alone =
        let base : IsBase (front ++ []) (b.Named (symbol y None ∷ [])) = e.named (e.plain_name i) e.end_symbols in
        let base2 : IsBase front (b.Named (symbol y None ∷ [])) = rw append_nil at base in
        let whole : IsType (front ++ []) (type_tree (start_of (front ++ [])) (b.Named (symbol y None ∷ [])) []) = e.type base2 e.no_brackets in
        rw append_nil at whole

    go : (c : Bool) → after_typed (ahead rest) ≡ c → (r : Outcome (Option TypeTree × Name)) → spec.typed (front ++ rest) ≡ r → Holds FTyped (front ++ rest) r → Over after_typed r rest
    go c stop None e h = tt
    go true stop (Some r) e h =
        let p = h.is.1 in
        let head = (every_type 0).begins p.left h.is.0.0 p.one in
        let size : length (front ++ rest) ≡ length h.front + length r.1 = ap length h.parts ∙ length-append h.front r.1 in
        let size2 : length h.front ≡ length p.left + length p.right = ap length p.parts ∙ length-append p.left p.right in
        let some = length_of p.left head in
        let one : length p.right ≡ 1 = rw p.two.alone refl in
        let single : length front ≡ 1 = rw i.alone refl in
        let all : length (front ++ rest) ≡ length front + length rest = length-append front rest in
        (omega arith, stop)
    go false stop (Some r) e h =
        let at : whole_type (front ++ rest) ≡ Some (type_tree (start_of front) (b.Named (symbol y None ∷ [])) [], rest)
        = exact_at after_type (whole_type (front ++ rest)) _ rest ((every_type (length front)).reach front _ rest (omega arith) alone) (or_left _ _ stop) in
        let no_name : id rest ≡ None = refused (id_good 0) rest (or_right _ _ stop) in
        let clash : spec.typed (front ++ rest) ≡ None = rw (at, no_name) refl in
        absurd cc

abbrev pub Typed : Tokens → Option TypeTree × Name → Type 0
Typed = Pair (Optional IsType) Id

typed_into : (ts : Tokens) (x : Option TypeTree × Name) → Or FTyped FUntyped ts x → Typed ts x
typed_into ts x (inl (z, p, eq)) = rw (← eq) (record { left = p.left; right = p.right; parts = p.parts; one = s.present p.one; two = p.two })
typed_into ts x (inr (y, i, eq)) = rw (← eq) (record { left = []; right = ts; parts = refl; one = s.absent; two = i })

typed_back : (ts : Tokens) (x : Option TypeTree × Name) → Typed ts x → Or FTyped FUntyped ts x
typed_back ts x p = go x.0 p.left p.one p.parts
  where
    go : (t : Option TypeTree) (w : Tokens) → Optional IsType w t → ts ≡ w ++ p.right → Or FTyped FUntyped ts (t, x.1)
    go t w s.absent parts = inr (x.1, rw parts p.two, refl)
    go t w (s.present {x = y} h) parts = inl ((y, x.1), record { left = w; right = p.right; parts = parts; one = h; two = p.two }, refl)

pub maybe_typed_good : (n : ℕ) → Good n after_typed begins_type Typed spec.maybe_typed
unfolding spec.maybe_typed same_terminal
maybe_typed_good n = rule (prefer (narrow (typed_good n) after_typed begins_type refl refl) (untyped_good n) refl typed_over) after_typed begins_type Typed spec.maybe_typed (λ ts. refl) typed_into typed_back refl refl

-- ---- template parameters

abbrev pub begins_template_parameter : Terminal → Bool
begins_template_parameter = or (is k.Alias) begins_type

abbrev pub FTemplateParameter : Tokens → TemplateParameter → Type 0
FTemplateParameter = Or (Image q.Alias (After k.Alias Id)) (Image spec.by_kind Typed)

template_parameter_same : (ts : Tokens) → spec.template_parameter ts ≡ (either spec.alias_parameter (spec.by_kind <$> spec.maybe_typed)) ts
unfolding spec.template_parameter spec.alias_parameter same_terminal
template_parameter_same [] = refl
template_parameter_same (t ∷ ts) = go (terminal_of t) refl
  where
    go : (kind : Terminal) → terminal_of t ≡ kind → spec.template_parameter_by kind (t ∷ ts) ≡ (either spec.alias_parameter (spec.by_kind <$> spec.maybe_typed)) (t ∷ ts)
    go k.Alias eq = rw (refused (maybe_typed_good 0) (t ∷ ts) (rw eq refl)) (rw eq (sym (or_none _)))
    go _ eq = rw eq refl

template_parameter_into : (ts : Tokens) (x : TemplateParameter) → FTemplateParameter ts x → IsTemplateParameter ts x
template_parameter_into ts x (inl (y, h, eq)) = rw (← eq) (go ts y h)
  where
    go : (ts : Tokens) (y : Name) → After k.Alias Id ts y → IsTemplateParameter ts (q.Alias y)
    go ts y (s.after m i) = g.alias_parameter m i
template_parameter_into ts x (inr (y, p, eq)) = rw (← eq, p.parts) (go y.0 p.left p.one)
  where
    go : (t : Option TypeTree) (w : Tokens) → Optional IsType w t → IsTemplateParameter (w ++ p.right) (spec.by_kind (t, y.1))
    go t w s.absent = g.type_parameter p.two
    go t w (s.present h) = g.value_parameter h p.two

template_parameter_back : (ts : Tokens) (x : TemplateParameter) → IsTemplateParameter ts x → FTemplateParameter ts x
template_parameter_back ts x (g.type_parameter {n = y} i) = inr ((None, y), pair [] ts s.absent i, refl)
template_parameter_back ts x (g.value_parameter {w1 = w1} {w2 = w2} {t = t} {n = y} h i) = inr ((Some t, y), pair w1 w2 (s.present h) i, refl)
template_parameter_back ts x (g.alias_parameter {n = y} m i) = inl (y, s.after m i, refl)

pub template_parameter_good : (n : ℕ) → Good n after_typed begins_template_parameter IsTemplateParameter spec.template_parameter
unfolding spec.alias_parameter same_terminal
template_parameter_good n = rule (one_of (image q.Alias (lower (after_good k.Alias (id_good n)))) (image spec.by_kind (maybe_typed_good n)) refl) after_typed begins_template_parameter IsTemplateParameter spec.template_parameter
    template_parameter_same template_parameter_into template_parameter_back refl refl

abbrev pub FTemplateParameters : Tokens → List TemplateParameter → Type 0
FTemplateParameters = Image (λ z. z.1.0) (Pair (Marked k.LeftParen) (Pair (Perhaps (Listed IsTemplateParameter)) (Marked k.RightParen)))

template_parameters_into : (ts : Tokens) (x : List TemplateParameter) → FTemplateParameters ts x → AreTemplateParameters ts x
template_parameters_into ts x (z, p, eq) = rw (← eq, p.parts, p.two.parts) (g.template_parameters p.one p.two.one p.two.two)

template_parameters_back : (ts : Tokens) (x : List TemplateParameter) → AreTemplateParameters ts x → FTemplateParameters ts x
template_parameters_back ts x (g.template_parameters {w1 = w1} {w2 = w2} {w3 = w3} {ps = ys} h1 h2 h3) = ((tt, (ys, tt)), pair w1 (w2 ++ w3) h1 (pair w2 w3 h2 h3), refl)

pub template_parameters_good : (n : ℕ) → Good n none (is k.LeftParen) AreTemplateParameters spec.template_parameters
unfolding spec.template_parameters same_terminal
template_parameters_good n = rule (image (λ z. z.1.0) (seq (mark_good n k.LeftParen) (loose_seq (some_listed_good (template_parameter_good n) refl) (mark_good n k.RightParen) refl) (omega arith) refl)) none (is k.LeftParen) AreTemplateParameters spec.template_parameters (λ ts. refl) template_parameters_into template_parameters_back refl refl

-- ---- values

pub value_good : (n : ℕ) → Good n after_expr (is k.Equals) (After k.Equals IsExpr) spec.value
unfolding spec.value
value_good n = lower (after_good k.Equals (every_expr n))

abbrev pub FEnumMember : Tokens → EnumMember → Type 0
FEnumMember = Image (λ z. member z.0 z.1) (Pair Id (Optional (After k.Equals IsExpr)))

enum_member_into : (ts : Tokens) (x : EnumMember) → FEnumMember ts x → IsMember ts x
enum_member_into ts x (z, p, eq) = rw (← eq, p.parts) (g.a_member p.one p.two)

enum_member_back : (ts : Tokens) (x : EnumMember) → IsMember ts x → FEnumMember ts x
enum_member_back ts x (g.a_member {w1 = w1} {w2 = w2} {n = y} {x = v} h1 h2) = ((y, v), pair w1 w2 h1 h2, refl)

pub enum_member_good : (n : ℕ) → Good n after_expr (is k.Name) IsMember spec.enum_member
unfolding spec.enum_member same_terminal
enum_member_good n = rule (image (λ z. member z.0 z.1) (seq_loose (id_good n) (optional_good (value_good n)) (omega arith) refl)) after_expr (is k.Name) IsMember spec.enum_member (λ ts. refl) enum_member_into enum_member_back refl refl

abbrev pub FOne : Tokens → Variable → Type 0
FOne = Image (λ z. variable z.0 z.1) (Pair Id (Optional (After k.Equals IsExpr)))

one_into : (ts : Tokens) (x : Variable) → FOne ts x → IsOne ts x
one_into ts x (z, p, eq) = rw (← eq, p.parts) (g.one p.one p.two)

one_back : (ts : Tokens) (x : Variable) → IsOne ts x → FOne ts x
one_back ts x (g.one {w1 = w1} {w2 = w2} {n = y} {x = v} h1 h2) = ((y, v), pair w1 w2 h1 h2, refl)

pub one_good : (n : ℕ) → Good n after_expr (is k.Name) IsOne spec.one
unfolding spec.one same_terminal
one_good n = rule (image (λ z. variable z.0 z.1) (seq_loose (id_good n) (optional_good (value_good n)) (omega arith) refl)) after_expr (is k.Name) IsOne spec.one (λ ts. refl) one_into one_back refl refl

-- ---- heads of statements

abbrev pub FStaticIf : Tokens → StaticTest → Type 0
FStaticIf = Image test.If (After k.Static (Head k.If))

abbrev pub FVersion : Tokens → StaticTest → Type 0
FVersion = Image (λ z. test.Version z.1.1.0) (Pair (Marked k.Version) (Pair (Marked k.LeftParen) (Pair Id (Marked k.RightParen))))

abbrev pub begins_static_test : Terminal → Bool
begins_static_test = or (is k.Version) (is k.Static)

static_test_same : (ts : Tokens) → spec.static_test ts ≡ (either spec.version spec.static_if) ts
unfolding spec.static_test spec.version spec.static_if same_terminal
static_test_same [] = refl
static_test_same (t ∷ ts) = go (terminal_of t) refl
  where
    go : (kind : Terminal) → terminal_of t ≡ kind → spec.static_test_by kind (t ∷ ts) ≡ (either spec.version spec.static_if) (t ∷ ts)
    go k.Version eq = rw eq (sym (or_none _))
    go _ eq = rw eq refl

static_test_into : (ts : Tokens) (x : StaticTest) → Or FVersion FStaticIf ts x → IsStaticTest ts x
static_test_into ts x (inl (z, p, eq)) = rw (← eq, p.parts, p.two.parts, p.two.two.parts) (g.version p.one p.two.one p.two.two.one p.two.two.two)
static_test_into ts x (inr (y, h, eq)) = rw (← eq) (go ts y h)
  where
    go : (ts : Tokens) (y : Expr) → After k.Static (Head k.If) ts y → IsStaticTest ts (test.If y)
    go ts y (s.after m h) = g.static_if m h

static_test_back : (ts : Tokens) (x : StaticTest) → IsStaticTest ts x → Or FVersion FStaticIf ts x
static_test_back ts x (g.static_if {x = y} m h) = inr (y, s.after m h, refl)
static_test_back ts x (g.version {w1 = w1} {w2 = w2} {w3 = w3} {w4 = w4} {n = y} h1 h2 h3 h4) = inl ((tt, (tt, (y, tt))), pair w1 (w2 ++ (w3 ++ w4)) h1 (pair w2 (w3 ++ w4) h2 (pair w3 w4 h3 h4)), refl)

pub static_test_good : (n : ℕ) → Good n none begins_static_test IsStaticTest spec.static_test
unfolding spec.static_if spec.version same_terminal
static_test_good n = rule (one_of (image (λ z. test.Version z.1.1.0) (seq (mark_good n k.Version) (seq (mark_good n k.LeftParen) (seq (id_good n) (mark_good n k.RightParen) (omega arith) refl) (omega arith) refl) (omega arith) refl)) (image test.If (lower (after_good k.Static (head_good n k.If)))) refl)
    none begins_static_test IsStaticTest spec.static_test static_test_same static_test_into static_test_back refl refl

pub range_end_good : (n : ℕ) → Good n after_expr (is k.DotDot) (After k.DotDot IsExpr) spec.range_end
unfolding spec.range_end
range_end_good n = lower (after_good k.DotDot (every_expr n))

message_good : (n : ℕ) → Good n after_expr (is k.Comma) (After k.Comma IsExpr) spec.message
unfolding spec.message
message_good n = lower (after_good k.Comma (every_expr n))

abbrev pub FStaticOver : Tokens → StaticRange → Type 0
FStaticOver = Image (λ z. static_range z.1.1.1.0 z.1.1.1.1.1.0 z.1.1.1.1.1.1.0) (Pair (Marked k.Static) (Pair (Marked k.Foreach) (Pair (Marked k.LeftParen) (Pair Id (Pair (Marked k.Semicolon) (Pair IsExpr (Pair (Optional (After k.DotDot IsExpr)) (Marked k.RightParen))))))))

static_over_into : (ts : Tokens) (x : StaticRange) → FStaticOver ts x → IsStaticRange ts x
static_over_into ts x (z, p, eq) = rw (← eq, p.parts, p.two.parts, p.two.two.parts, p.two.two.two.parts, p.two.two.two.two.parts, p.two.two.two.two.two.parts, p.two.two.two.two.two.two.parts) (g.a_static_range p.one p.two.one p.two.two.one p.two.two.two.one p.two.two.two.two.one p.two.two.two.two.two.one p.two.two.two.two.two.two.one p.two.two.two.two.two.two.two)

static_over_back : (ts : Tokens) (x : StaticRange) → IsStaticRange ts x → FStaticOver ts x
static_over_back ts x (g.a_static_range {w1 = w1} {w2 = w2} {w3 = w3} {w4 = w4} {w5 = w5} {w6 = w6} {w7 = w7} {w8 = w8} {n = y} {x = u} {y = v} h1 h2 h3 h4 h5 h6 h7 h8) = ((tt, (tt, (tt, (y, (tt, (u, (v, tt))))))), pair w1 (w2 ++ (w3 ++ (w4 ++ (w5 ++ (w6 ++ (w7 ++ w8)))))) h1 (pair w2 (w3 ++ (w4 ++ (w5 ++ (w6 ++ (w7 ++ w8))))) h2 (pair w3 (w4 ++ (w5 ++ (w6 ++ (w7 ++ w8)))) h3 (pair w4 (w5 ++ (w6 ++ (w7 ++ w8))) h4 (pair w5 (w6 ++ (w7 ++ w8)) h5 (pair w6 (w7 ++ w8) h6 (pair w7 w8 h7 h8)))))), refl)

pub static_over_good : (n : ℕ) → Good n none (is k.Static) IsStaticRange spec.static_over
unfolding spec.static_over same_terminal
static_over_good n = rule (image (λ z. static_range z.1.1.1.0 z.1.1.1.1.1.0 z.1.1.1.1.1.1.0) (seq (mark_good n k.Static) (seq (mark_good n k.Foreach) (seq (mark_good n k.LeftParen) (seq (id_good n) (seq (mark_good n k.Semicolon) (seq (every_expr n) (loose_seq (optional_good (range_end_good n)) (mark_good n k.RightParen) refl) (omega arith) refl) (omega arith) refl) (omega arith) refl) (omega arith) refl) (omega arith) refl) (omega arith) refl)) none (is k.Static) IsStaticRange spec.static_over (λ ts. refl) static_over_into static_over_back refl refl

abbrev pub FStaticCheck : Tokens → StaticAssert → Type 0
FStaticCheck = Image (λ z. static_assert z.1.1.1.0 z.1.1.1.1.0) (Pair (Marked k.Static) (Pair (Marked k.Assert) (Pair (Marked k.LeftParen) (Pair IsExpr (Pair (Optional (After k.Comma IsExpr)) (Pair (Marked k.RightParen) (Marked k.Semicolon)))))))

static_check_into : (ts : Tokens) (x : StaticAssert) → FStaticCheck ts x → IsStaticAssert ts x
static_check_into ts x (z, p, eq) = rw (← eq, p.parts, p.two.parts, p.two.two.parts, p.two.two.two.parts, p.two.two.two.two.parts, p.two.two.two.two.two.parts) (g.a_static_assert p.one p.two.one p.two.two.one p.two.two.two.one p.two.two.two.two.one p.two.two.two.two.two.one p.two.two.two.two.two.two)

static_check_back : (ts : Tokens) (x : StaticAssert) → IsStaticAssert ts x → FStaticCheck ts x
static_check_back ts x (g.a_static_assert {w1 = w1} {w2 = w2} {w3 = w3} {w4 = w4} {w5 = w5} {w6 = w6} {w7 = w7} {x = u} {y = v} h1 h2 h3 h4 h5 h6 h7) = ((tt, (tt, (tt, (u, (v, (tt, tt)))))), pair w1 (w2 ++ (w3 ++ (w4 ++ (w5 ++ (w6 ++ w7))))) h1 (pair w2 (w3 ++ (w4 ++ (w5 ++ (w6 ++ w7)))) h2 (pair w3 (w4 ++ (w5 ++ (w6 ++ w7))) h3 (pair w4 (w5 ++ (w6 ++ w7)) h4 (pair w5 (w6 ++ w7) h5 (pair w6 w7 h6 h7))))), refl)

pub static_check_good : (n : ℕ) → Good n none (is k.Static) IsStaticAssert spec.static_check
unfolding spec.static_check same_terminal
static_check_good n = rule (image (λ z. static_assert z.1.1.1.0 z.1.1.1.1.0) (seq (mark_good n k.Static) (seq (mark_good n k.Assert) (seq (mark_good n k.LeftParen) (seq (every_expr n) (loose_seq (optional_good (message_good n)) (seq (mark_good n k.RightParen) (mark_good n k.Semicolon) (omega arith) refl) refl) (omega arith) refl) (omega arith) refl) (omega arith) refl) (omega arith) refl)) none (is k.Static) IsStaticAssert spec.static_check (λ ts. refl) static_check_into static_check_back refl refl

abbrev pub begins_loop : Terminal → Bool
begins_loop = or (is k.Ref) begins_type

loop_into : (ts : Tokens) (x : LoopName) → Image (λ z. loop_name z.0 z.1.0 z.1.1) (Pair (Flag k.Ref) Typed) ts x → IsLoop ts x
loop_into ts x (z, p, eq) = rw (← eq, p.parts, p.two.parts) (g.loop p.one p.two.one p.two.two)

loop_back : (ts : Tokens) (x : LoopName) → IsLoop ts x → Image (λ z. loop_name z.0 z.1.0 z.1.1) (Pair (Flag k.Ref) Typed) ts x
loop_back ts x (g.loop {w1 = w1} {w2 = w2} {w3 = w3} {r = r} {t = t} {n = y} h1 h2 h3) = ((r, (t, y)), pair w1 (w2 ++ w3) h1 (pair w2 w3 h2 h3), refl)

loop_good : (n : ℕ) → Good n after_typed begins_loop IsLoop spec.loop_read
unfolding spec.loop_read same_terminal
loop_good n = rule (image (λ z. loop_name z.0 z.1.0 z.1.1) (loose_seq (flag_good n k.Ref) (maybe_typed_good n) refl)) after_typed begins_loop IsLoop spec.loop_read (λ ts. refl) loop_into loop_back refl refl

next_loop_good : (n : ℕ) → Good n after_typed (is k.Comma) (After k.Comma IsLoop) spec.next_loop
unfolding spec.next_loop
next_loop_good n = lower (after_good k.Comma (loop_good n))

loops_into : (ts : Tokens) (x : List LoopName) → Image spec.loop_list (Pair IsLoop (Optional (After k.Comma IsLoop))) ts x → AreLoops ts x
loops_into ts x (z, p, eq) = rw (← eq, p.parts) (go z.1 p.right p.two)
  where
    two : (w : Tokens) (y : LoopName) → After k.Comma IsLoop w y → AreLoops (p.left ++ w) (z.0 ∷ y ∷ [])
    two w y (s.after m h) = g.two_loops p.one m h

    go : (y : Option LoopName) (w : Tokens) → Optional (After k.Comma IsLoop) w y → AreLoops (p.left ++ w) (spec.loop_list (z.0, y))
    go y w s.absent = rw append_nil (g.one_loop p.one)
    go y w (s.present {x = u} h) = two w u h

loops_back : (ts : Tokens) (x : List LoopName) → AreLoops ts x → Image spec.loop_list (Pair IsLoop (Optional (After k.Comma IsLoop))) ts x
loops_back ts x (g.one_loop {n = y} h) = ((y, None), record { left = ts; right = []; parts = sym (append_nil ts); one = h; two = s.absent }, refl)
loops_back ts x (g.two_loops {w1 = w1} {w2 = w2} {w3 = w3} {m = u} {n = y} h1 h2 h3) = ((u, Some y), pair w1 (w2 ++ w3) h1 (s.present (s.after h2 h3)), refl)

abbrev pub after_loops : Terminal → Bool
after_loops = or after_typed (is k.Comma)

pub loops_good : (n : ℕ) → Good n after_loops begins_loop AreLoops spec.loops
unfolding spec.loops same_terminal
loops_good n = rule (image spec.loop_list (seq_loose (loop_good n) (optional_good (next_loop_good n)) (omega arith) refl)) after_loops begins_loop AreLoops spec.loops (λ ts. refl) loops_into loops_back refl refl

-- ---- labels

abbrev pub begins_label : Terminal → Bool
begins_label = or (is k.Default) (is k.Case)

abbrev pub FCaseLabel : Tokens → Label → Type 0
FCaseLabel = Image (λ z. label.Case z.1.0) (Pair (Marked k.Case) (Pair (Listed IsExpr) (Marked k.Colon)))

abbrev pub FDefaultLabel : Tokens → Label → Type 0
FDefaultLabel = Image (λ z. label.Default) (Pair (Marked k.Default) (Marked k.Colon))

label_same : (ts : Tokens) → spec.label_read ts ≡ (either spec.default_label spec.case_label) ts
unfolding spec.label_read spec.default_label spec.case_label same_terminal
label_same [] = refl
label_same (t ∷ ts) = go (terminal_of t) refl
  where
    go : (kind : Terminal) → terminal_of t ≡ kind → spec.label_by kind (t ∷ ts) ≡ (either spec.default_label spec.case_label) (t ∷ ts)
    go k.Default eq = rw eq (sym (or_none _))
    go _ eq = rw eq refl

label_into : (ts : Tokens) (x : Label) → Or FDefaultLabel FCaseLabel ts x → IsLabel ts x
label_into ts x (inl (z, p, eq)) = rw (← eq, p.parts) (g.default_label p.one p.two)
label_into ts x (inr (z, p, eq)) = rw (← eq, p.parts, p.two.parts) (g.case_label p.one p.two.one p.two.two)

label_back : (ts : Tokens) (x : Label) → IsLabel ts x → Or FDefaultLabel FCaseLabel ts x
label_back ts x (g.case_label {w1 = w1} {w2 = w2} {w3 = w3} {xs = ys} h1 h2 h3) = inr ((tt, (ys, tt)), pair w1 (w2 ++ w3) h1 (pair w2 w3 h2 h3), refl)
label_back ts x (g.default_label {w1 = w1} {w2 = w2} h1 h2) = inl ((tt, tt), pair w1 w2 h1 h2, refl)

pub label_good : (n : ℕ) → Good n none begins_label IsLabel spec.label_read
unfolding spec.default_label spec.case_label same_terminal
label_good n = rule (one_of (image (λ z. label.Default) (seq (mark_good n k.Default) (mark_good n k.Colon) (omega arith) refl)) (image (λ z. label.Case z.1.0) (seq (mark_good n k.Case) (seq (listed_good (every_expr n) refl) (mark_good n k.Colon) (omega arith) refl) (omega arith) refl)) refl)
    none begins_label IsLabel spec.label_read label_same label_into label_back refl refl

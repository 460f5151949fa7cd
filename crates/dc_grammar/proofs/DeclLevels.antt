-- Declarations with declarations in them are read, one level up.
use Rattle.std.proofs.Common.{is_some, ◌≡◌, ℕ, zero, suc, ◌≤◌, Bool, true, false, List, [], ◌∷◌, ◌++◌, length, Option, Some, None, refl, sym, ap, subst, ◌∙◌, append_assoc, arith, inl, inr}
use Rattle.dc_ast.specs.declared.word.Attribute.{Attribute}
use Rattle.dc_ast.specs.declared.word.Visibility.{Visibility}
use Rattle.dc_ast.specs.declared.expression.Expr.{Expr}
use Rattle.dc_ast.specs.declared.statement.StaticTest.{StaticTest}
use Rattle.dc_ast.specs.declared.statement.TemplateParameter.{TemplateParameter}
use Rattle.dc_ast.specs.declared.statement.ImportTree.{ImportTree}
use Rattle.dc_ast.specs.declared.declaration.Declaration.{Declaration}
use Rattle.dc_ast.specs.declared.declaration.DeclarationForm.{DeclarationForm}
use Rattle.dc_ast.specs.declared.declaration.DeclarationForm.TheVariants as d
use Rattle.dc_ast.specs.declared.declaration.DeclarationKind.{DeclarationKind}
use Rattle.dc_ast.specs.declared.declaration.DeclarationKind.TheVariants as t
use Rattle.dc_ast.specs.declared.declaration.Plain.{Plain}
use Rattle.dc_ast.specs.declared.declaration.StaticDeclaration.TheVariants as static
use Rattle.dc_ast.specs.declared.declaration.DeclarationBranch.{DeclarationBranch}
use Rattle.dc_ast.specs.declared.declaration.DeclarationBody.{DeclarationBody}
use Rattle.dc_ast.specs.declared.declaration.DeclarationBody.TheVariants as body
use Rattle.dc_grammar.specs.declared.terminal.Terminal.{Terminal}
use Rattle.dc_grammar.specs.declared.terminal.Terminal.TheVariants as k
use Rattle.dc_grammar.specs.Terminals.{Tokens, ahead, start_of, terminal_of, same_terminal}
use Rattle.dc_grammar.specs.Words.{visibility, attribute_word}
use Rattle.dc_grammar.specs.MoreTrees.{declaration, plain, template_tree, declaration_branch}
use Rattle.dc_grammar.specs.Grammar.{Mark, Means, Id}
use Rattle.dc_grammar.specs.Shapes as s
use Rattle.dc_grammar.specs.Shapes.{Optional, Several, After, Listed}
use Rattle.dc_grammar.specs.Parts as p
use Rattle.dc_grammar.specs.Parts.{Head, IsPath, IsAttribute, IsImported, IsImport, AreTemplateParameters, IsEnum, IsConstant, IsAlias, IsOne, IsKind, IsVariable, AreParameters, IsStaticTest, IsStaticRange, IsStaticAssert}
use Rattle.dc_grammar.specs.Statements.{second, begins_conditional}
use Rattle.dc_grammar.specs.Declarations as g
use Rattle.dc_grammar.specs.Declarations.{IsResult, IsFunction, IsDecl, IsDeclForm, IsPlain, IsPlainKind, AreDecls, AreDeclBranches, IsDeclBody}
use Rattle.dc_grammar.specs.Reading.{Outcome, Reader, mark, either, ◌<$>◌, and_then, pure}
use Rattle.dc_grammar.specs.PartReaders.{attributes, imported, static_import, alias_read, static_check}
use Rattle.dc_grammar.specs.StmtReaders.{items, in_braces}
use Rattle.dc_grammar.specs.DeclReaders as spec
use Rattle.dc_grammar.specs.DeclReaders.{closed}
use Rattle.dc_grammar.proofs.Good.{Good, Loose, Holds, Reaches, Begins, Marked, Pair, none, or, is, is_same, given_by, mark_good, means_good}
use Rattle.dc_grammar.proofs.Lists.{Many}
use Rattle.dc_grammar.proofs.Choices.{Or, apart, within}
use Rattle.dc_grammar.proofs.Tools.{pair, seq, seq_loose, loose_seq, narrow, Image, image, lower, Placed}
use Rattle.dc_grammar.proofs.Shapes.{optional_good}
use Rattle.dc_grammar.proofs.Arguments.{id_good}
use Rattle.dc_grammar.proofs.PartRules.{begins_attribute, attribute_good, attributes_good, head_good, imported_good, static_import_good, template_parameters_good, static_test_good, static_over_good, static_check_good, begins_static_test}
use Rattle.dc_grammar.proofs.NamedRules.{alias_read_good, begins_variable}
use Rattle.dc_grammar.proofs.TypeFirst.{mark_head, mark_is, begins_head, clash}
use Rattle.dc_grammar.proofs.Fronts.{Front, front_mark, start_less, test_opens, conditional_same, conditional_split, import_marks, range_marks, check_marks}
use Rattle.dc_grammar.proofs.Open.{else_after, Ends, open_of, closed_ends, ends_seq, ends_loose_seq, ends_image, ends_placed, ends_rule, ends_one_of, ahead_is, FChain, Chain, chain_good, FBraces, items_good, braces_good}
use Rattle.dc_grammar.proofs.StmtRules.{holds_into}
use Rattle.dc_grammar.specs.DeclReaders.{struct_with}
use Rattle.dc_grammar.proofs.DeclRules.{Kinds, begins_plain, begins_decl, decl_front, form_front, FMixin, mixin_good, FEnum, enum_good, enum_into, FNamed, named_good, named_into, kind_front, branches_front}

abbrev pub Declared : Tokens → Bool × Declaration → Type 0
Declared ts v = IsDecl v.0 ts v.1

abbrev Body : Tokens → Bool × DeclarationBody → Type 0
Body ts v = IsDeclBody v.0 ts v.1

abbrev FStaticBranch : Tokens → Bool × DeclarationBranch → Type 0
FStaticBranch = Placed (λ at z. (z.1.0, declaration_branch at z.0 z.1.1)) (Pair IsStaticTest Body)

-- ---- lists

pub decls_into : (ts : Tokens) (xs : List Declaration) → Many (Image (λ v. v.1) Declared) ts xs → AreDecls ts xs
decls_into ts [] h = rw h g.no_decls
decls_into ts (x ∷ xs) (u, v, parts, (z, h, eq), others) = rw (parts, ← eq) (g.decls h (decls_into v xs others))

pub decls_back : (ts : Tokens) (xs : List Declaration) → AreDecls ts xs → Many (Image (λ v. v.1) Declared) ts xs
decls_back ts xs g.no_decls = refl
decls_back ts xs (g.decls {o = o} {w1 = w1} {w2 = w2} {x = x} {ds = ds} h c) = (w1, w2, refl, ((o, x), h, refl), decls_back w2 ds c)

-- ---- chains

abbrev StaticOf : Tokens → Bool → DeclarationBranch → Type 0
StaticOf w o b = (u : Tokens) × (v : Tokens) × (x : StaticTest) × (y : DeclarationBody) × (w ≡ u ++ v) × (b ≡ declaration_branch (start_of w) x y) × IsStaticTest u x × IsDeclBody o v y

static_of : (w : Tokens) (o : Bool) (b : DeclarationBranch) → FStaticBranch w (o, b) → StaticOf w o b
static_of w o b (z, q, eq) = (q.left, q.right, z.0, z.1.1, q.parts, sym (ap (λ (v : Bool × DeclarationBranch). v.1) eq), q.one, subst (λ c. IsDeclBody c q.right z.1.1) (ap (λ (v : Bool × DeclarationBranch). v.0) eq) q.two)

static_alone_from : (ts : Tokens) (c : Bool) (b : DeclarationBranch) → StaticOf ts c b → AreDeclBranches true ts (b ∷ []) None
static_alone_from ts c b (u, v, x, y, parts, same, h, is) = rw (same, parts) (g.decl_alone h is)

static_else_from : (w m r : Tokens) (b : DeclarationBranch) (o : Bool) (l : DeclarationBody) → StaticOf w false b → Mark k.Else m → IsDeclBody o r l → begins_conditional r ≡ false → AreDeclBranches o (w ++ (m ++ r)) (b ∷ []) (Some l)
static_else_from w m r b o l (u, v, x, y, parts, same, h, is) mk q off =
    let same2 : b ≡ declaration_branch (start_of (u ++ (v ++ (m ++ r)))) x y = same ∙ ap (λ (n : ℕ). declaration_branch n x y) (ap start_of parts ∙ sym (start_less u v (m ++ r) x h)) in
    rw (parts, same2, append_assoc u v (m ++ r)) (g.decl_else h is mk q off)

static_more_from : (w m r : Tokens) (b : DeclarationBranch) (o : Bool) (bs : List DeclarationBranch) (last : Option DeclarationBody) → StaticOf w false b → Mark k.Else m → AreDeclBranches o r bs last → AreDeclBranches o (w ++ (m ++ r)) (b ∷ bs) last
static_more_from w m r b o bs last (u, v, x, y, parts, same, h, is) mk q =
    let same2 : b ≡ declaration_branch (start_of (u ++ (v ++ (m ++ r)))) x y = same ∙ ap (λ (n : ℕ). declaration_branch n x y) (ap start_of parts ∙ sym (start_less u v (m ++ r) x h)) in
    rw (parts, same2, append_assoc u v (m ++ r)) (g.decl_more h is mk q)

static_into : (ts : Tokens) (o : Bool) (bs : List DeclarationBranch) (last : Option DeclarationBody) → FChain FStaticBranch Body begins_conditional ts o bs last → AreDeclBranches o ts bs last
static_into ts o [] last h = absurd h
static_into ts o (b ∷ []) None (eq, c, r) = rw eq (static_alone_from ts c b (static_of ts c b r))
static_into ts o (b ∷ []) (Some l) (a, m, w, parts, r, mk, h, off) = rw parts (static_else_from a m w b o l (static_of a false b r) mk h off)
static_into ts o (b ∷ (c ∷ bs)) last (a, m, w, parts, r, mk, h) = rw parts (static_more_from a m w b o (c ∷ bs) last (static_of a false b r) mk (static_into w o (c ∷ bs) last h))

static_back : (ts : Tokens) (o : Bool) (bs : List DeclarationBranch) (last : Option DeclarationBody) → AreDeclBranches o ts bs last → FChain FStaticBranch Body begins_conditional ts o bs last
static_back ts o bs last (g.decl_alone {o = c} {w1 = w1} {w2 = w2} {x = x} {b = y} h is) = (refl, c, ((x, (c, y)), pair w1 w2 h is, refl))
static_back ts o bs last (g.decl_else {w1 = w1} {w2 = w2} {w3 = w3} {w4 = w4} {x = x} {b = y} h is mk c off) =
    (w1 ++ w2, w3, w4, sym (append_assoc w1 w2 (w3 ++ w4)), ((x, (false, y)), pair w1 w2 h is, ap (λ (n : ℕ). (false, declaration_branch n x y)) (sym (start_less w1 w2 (w3 ++ w4) x h))), mk, c, off)
static_back ts o bs last (g.decl_more {w1 = w1} {w2 = w2} {w3 = w3} {w4 = w4} {x = x} {b = y} {bs = ds} h is mk c) = longer ds (static_back w4 o ds last c)
  where
    longer : (ds : List DeclarationBranch) → FChain FStaticBranch Body begins_conditional w4 o ds last → FChain FStaticBranch Body begins_conditional (w1 ++ (w2 ++ (w3 ++ w4))) o (declaration_branch (start_of (w1 ++ (w2 ++ (w3 ++ w4)))) x y ∷ ds) last
    longer [] h2 = absurd h2
    longer (e ∷ ds) h2 = (w1 ++ w2, w3, w4, sym (append_assoc w1 w2 (w3 ++ w4)), ((x, (false, y)), pair w1 w2 h is, ap (λ (n : ℕ). (false, declaration_branch n x y)) (sym (start_less w1 w2 (w3 ++ w4) x h))), mk, h2)

-- ---- attributes before something else

-- Two lists of attributes that begin one text, with no attribute behind either, end at one place.
same_attributes : (v w r u : Tokens) (xs ys : List Attribute) → Several IsAttribute v xs → Several IsAttribute w ys → v ++ r ≡ w ++ u → begins_attribute (ahead r) ≡ false → begins_attribute (ahead u) ≡ false → r ≡ u
same_attributes v w r u xs ys h c same stop1 stop2 =
    go (attributes (v ++ r)) ((attributes_good (length v)).reach v xs r (omega arith) h) (rw (← same) at ((attributes_good (length w)).reach w ys u (omega arith) c))
  where
    go : (o : Outcome (List Attribute)) → Reaches begins_attribute o xs r → Reaches begins_attribute o ys u → r ≡ u
    go (Some o) a b = sym (a.1 stop1).1 ∙ (b.1 stop2).1
    go None a b = absurd a

abbrev FSection : Tokens → Bool × DeclarationForm → Type 0
FSection = Image (λ z. (false, d.Section z.0)) (Pair (Means visibility) (Marked k.Colon))

section_good : (n : ℕ) → Good n none (given_by visibility) FSection spec.section
unfolding spec.section same_terminal
section_good n = image (λ z. (false, d.Section z.0)) (seq (means_good n visibility) (mark_good n k.Colon) (omega arith) refl)

visible_attribute : (w : Tokens) (x : Visibility) → Means visibility w x → (y : Attribute) × IsAttribute w y
unfolding same_terminal
visible_attribute w x m = go (attribute_word (terminal_of m.token)) refl (within (given_by visibility) (given_by attribute_word) refl (terminal_of m.token) (rw m.means refl))
  where
    go : (r : Option Attribute) → attribute_word (terminal_of m.token) ≡ r → is_some (attribute_word (terminal_of m.token)) ≡ true → (y : Attribute) × IsAttribute w y
    go (Some y) e h = (y, p.word_attribute (record { token = m.token; alone = m.alone; means = e }))
    go None e h = let off : is_some (attribute_word (terminal_of m.token)) ≡ false = rw e refl in absurd cc

-- a section isn't read where attributes are followed by something other than a colon
section_not : (w v : Tokens) (xs : List Attribute) (rest : Tokens) → Several IsAttribute w xs → begins_attribute (ahead (v ++ rest)) ≡ false → is k.Colon (ahead (v ++ rest)) ≡ false → spec.section ((w ++ v) ++ rest) ≡ None
unfolding same_terminal
section_not w v xs rest h off colon = go (spec.section ((w ++ v) ++ rest)) ((section_good 0).sound ((w ++ v) ++ rest))
  where
    go : (r : Outcome (Bool × DeclarationForm)) → Holds FSection ((w ++ v) ++ rest) r → r ≡ None
    go None f = refl
    go (Some r) f =
        let q = f.is.1 in
        let y = visible_attribute q.left f.is.0.0 q.one in
        let one : Several IsAttribute (q.left ++ []) (y.0 ∷ []) = s.several y.1 s.finished in
        let text : (q.left ++ []) ++ (q.right ++ r.1) ≡ w ++ (v ++ rest) = append_assoc q.left [] (q.right ++ r.1) ∙ sym (append_assoc q.left q.right r.1) ∙ ap (λ (ts : Tokens). ts ++ r.1) (sym q.parts) ∙ sym f.parts ∙ append_assoc w v rest in
        let same = same_attributes (q.left ++ []) w (q.right ++ r.1) (v ++ rest) (y.0 ∷ []) xs one h text (rw (q.two.alone, q.two.is) refl) off in
        let on : is k.Colon (ahead (v ++ rest)) ≡ true = rw (← same) (mark_is k.Colon q.right r.1 q.two) in
        absurd cc

module _ (n : ℕ) (inner : Reader (Bool × Declaration)) (i : Ends n open_of begins_decl Declared inner) where
  pub decls_good : Loose n (or (is k.Else) begins_decl) begins_decl AreDecls (items inner)
  unfolding same_terminal
  decls_good = items_good i AreDecls decls_into decls_back refl refl

  braced_good : Good (suc n) none (is k.LeftBrace) (FBraces AreDecls) (in_braces inner)
  unfolding same_terminal
  braced_good = braces_good i AreDecls decls_into decls_back refl refl

  -- ---- each form

  template_head_good : Good n (is k.If) (is k.LeftParen) (Pair AreTemplateParameters (Optional (Head k.If))) spec.template_head
  unfolding spec.template_head same_terminal
  template_head_good = narrow (seq_loose (template_parameters_good n) (optional_good (head_good n k.If)) (omega arith) refl) (is k.If) (is k.LeftParen) refl refl

  abbrev FStruct : Tokens → Bool × DeclarationKind → Type 0
  FStruct = Image (λ z. closed (t.Struct (struct_with z.1.0 z.1.1.0 z.1.1.1))) (Pair (Marked k.Struct) (Pair Id (Pair (Optional (Pair AreTemplateParameters (Optional (Head k.If)))) (FBraces AreDecls))))

  struct_ends : Ends (suc n) open_of (is k.Struct) FStruct (spec.struct_decl inner)
  unfolding spec.struct_decl same_terminal
  struct_ends = closed_ends open_of (image (λ z. closed (t.Struct (struct_with z.1.0 z.1.1.0 z.1.1.1))) (seq (mark_good (suc n) k.Struct) (seq (id_good n) (loose_seq (optional_good template_head_good) (lower braced_good) refl) (omega arith) refl) (omega arith) refl))

  struct_into : (w : Tokens) (v : Bool × DeclarationKind) → FStruct w v → Kinds w v
  struct_into w v (z, q, eq) = rw (← eq, q.parts, q.two.parts, q.two.two.parts) (go z.1.1.1 q.two.two.right q.two.two.two)
    where
      go : (ds : List Declaration) (u : Tokens) → FBraces AreDecls u ds → IsPlainKind false (q.left ++ (q.two.left ++ (q.two.two.left ++ u))) (t.Struct (struct_with z.1.0 z.1.1.0 ds))
      go ds u (y, b, same) = rw (← same, b.parts, b.two.parts) (headed z.1.1.0 q.two.two.left q.two.two.one)
        where
          headed : (h : Option (List TemplateParameter × Option Expr)) (x : Tokens) → Optional (Pair AreTemplateParameters (Optional (Head k.If))) x h
              → IsPlainKind false (q.left ++ (q.two.left ++ (x ++ (b.left ++ (b.two.left ++ b.two.right))))) (t.Struct (struct_with z.1.0 h y.1.0))
          headed h x s.absent = g.struct_decl q.one q.two.one b.one b.two.one b.two.two
          headed h x (s.present c) = rw (c.parts, append_assoc c.left c.right (b.left ++ (b.two.left ++ b.two.right))) (g.struct_template q.one q.two.one c.one c.two b.one b.two.one b.two.two)

  abbrev FTemplate : Tokens → Bool × DeclarationKind → Type 0
  FTemplate = Image (λ z. closed (t.Template (template_tree z.1.0 z.1.1.0.0 z.1.1.0.1 z.1.1.1))) (Pair (Marked k.Template) (Pair Id (Pair (Pair AreTemplateParameters (Optional (Head k.If))) (FBraces AreDecls))))

  template_ends : Ends (suc n) open_of (is k.Template) FTemplate (spec.template_decl inner)
  unfolding spec.template_decl same_terminal
  template_ends = closed_ends open_of (image (λ z. closed (t.Template (template_tree z.1.0 z.1.1.0.0 z.1.1.0.1 z.1.1.1))) (seq (mark_good (suc n) k.Template) (seq (id_good n) (seq template_head_good (lower braced_good) (omega arith) refl) (omega arith) refl) (omega arith) refl))

  template_into : (w : Tokens) (v : Bool × DeclarationKind) → FTemplate w v → Kinds w v
  template_into w v (z, q, eq) = rw (← eq, q.parts, q.two.parts, q.two.two.parts) (go z.1.1.1 q.two.two.right q.two.two.two)
    where
      c : Pair AreTemplateParameters (Optional (Head k.If)) q.two.two.left z.1.1.0
      c = q.two.two.one

      go : (ds : List Declaration) (u : Tokens) → FBraces AreDecls u ds → IsPlainKind false (q.left ++ (q.two.left ++ (q.two.two.left ++ u))) (t.Template (template_tree z.1.0 z.1.1.0.0 z.1.1.0.1 ds))
      go ds u (y, b, same) = rw (← same, b.parts, b.two.parts, c.parts, append_assoc c.left c.right (b.left ++ (b.two.left ++ b.two.right))) (g.template_decl q.one q.two.one c.one c.two b.one b.two.one b.two.two)

  in_braces_into : (w : Tokens) (v : Bool × DeclarationBody) → Image (λ xs. (false, body.Braces xs)) (FBraces AreDecls) w v → Body w v
  in_braces_into w v (z, (y, q, same), eq) = rw (← eq, ← same, q.parts, q.two.parts) (g.decls_in_braces q.one q.two.one q.two.two)

  body_sound : (ts : Tokens) → Holds Body ts (spec.decl_body inner ts)
  unfolding spec.decl_body
  body_sound ts = go (ahead ts)
    where
      ones : (r : Outcome (Bool × Declaration)) → Holds Declared ts r → Holds Body ts (and_then r (λ v. pure (v.0, body.One v.1)))
      ones (Some r) h = record { front = h.front; parts = h.parts; is = g.one_decl h.is }
      ones None h = tt

      go : (kind : Terminal) → Holds Body ts (spec.body_by inner kind ts)
      go k.LeftBrace = holds_into ts (((λ xs. (false, body.Braces xs)) <$> in_braces inner) ts) in_braces_into ((image (λ xs. (false, body.Braces xs)) braced_good).sound ts)
      go _ = ones (inner ts) (i.sound ts)

  body_reach : (o : Bool) (front : Tokens) (x : DeclarationBody) (rest : Tokens) → length front ≤ n → IsDeclBody o front x → Reaches {A = Bool × DeclarationBody} (else_after o) (spec.decl_body inner (front ++ rest)) (o, x) rest
  unfolding spec.decl_body same_terminal
  body_reach o front x rest len (g.one_decl {x = y} h) = subst (λ (kind : Terminal). Reaches {A = Bool × DeclarationBody} (else_after o) (spec.body_by inner kind (front ++ rest)) (o, body.One y) rest) (sym at) (by_one (terminal_of f.head) f.kind)
    where
      f : Front begins_decl front
      f = decl_front o front y h

      at : ahead (front ++ rest) ≡ terminal_of f.head
      at = ap (λ (ts : Tokens). ahead (ts ++ rest)) f.parts

      plain_one : Reaches {A = Bool × DeclarationBody} (else_after o) (((λ v. (v.0, body.One v.1)) <$> inner) (front ++ rest)) (o, body.One y) rest
      plain_one = (ends_image (λ v. (v.0, body.One v.1)) open_of (λ x. refl) i).reach front (o, body.One y) rest len ((o, y), h, refl)

      by_one : (kind : Terminal) → begins_decl kind ≡ true → Reaches {A = Bool × DeclarationBody} (else_after o) (spec.body_by inner kind (front ++ rest)) (o, body.One y) rest
      by_one k.LeftBrace e = absurd cc
      by_one _ e = plain_one
  body_reach o front x rest len (g.decls_in_braces {w1 = w1} {w2 = w2} {w3 = w3} {ds = ds} m h c) =
      let at : ahead ((w1 ++ (w2 ++ w3)) ++ rest) ≡ k.LeftBrace = rw (m.alone, m.is) refl in
      subst (λ (kind : Terminal). Reaches {A = Bool × DeclarationBody} (else_after false) (spec.body_by inner kind ((w1 ++ (w2 ++ w3)) ++ rest)) (false, body.Braces ds) rest) (sym at)
      ((closed_ends open_of (image (λ xs. (false, body.Braces xs)) (lower braced_good))).reach (w1 ++ (w2 ++ w3)) (false, body.Braces ds) rest len (ds, ((tt, (ds, tt)), pair w1 (w2 ++ w3) m (pair w2 w3 h c), refl), refl))

  abbrev begins_body : Terminal → Bool
  begins_body = or (is k.LeftBrace) begins_decl

  body_front : (o : Bool) (front : Tokens) (x : DeclarationBody) → IsDeclBody o front x → Front begins_body front
  unfolding same_terminal
  body_front o front x (g.one_decl {x = y} h) = let f = decl_front o front y h in record { head = f.head; tail = f.tail; parts = f.parts; kind = within begins_decl begins_body refl (terminal_of f.head) f.kind; two = f.two }
  body_front o front x (g.decls_in_braces {w1 = w1} {w2 = w2} {w3 = w3} m h c) = front_mark begins_body k.LeftBrace w1 (w2 ++ w3) m refl refl

  body_ends : Ends n open_of begins_body Body (spec.decl_body inner)
  body_ends = record {
    sound = body_sound;
    reach = λ front v rest len h. body_reach v.0 front v.1 rest len h;
    begins = λ front v h. let f = body_front v.0 front v.1 h in record { head = f.head; tail = f.tail; parts = f.parts; kind = f.kind };
  }

  static_branch_ends : Ends (suc n) open_of begins_static_test FStaticBranch (spec.static_branch inner)
  unfolding spec.static_branch same_terminal
  static_branch_ends = ends_placed (λ at z. (z.1.0, declaration_branch at z.0 z.1.1)) open_of (λ at x. refl) (ends_seq (static_test_good (suc n)) body_ends (omega arith) refl)

  static_opens : (front : Tokens) (v : Bool × DeclarationBranch) (rest : Tokens) → FStaticBranch front v → begins_conditional (front ++ rest) ≡ true
  static_opens front v rest (z, q, eq) = ap (λ (ts : Tokens). begins_conditional (ts ++ rest)) q.parts ∙ ap begins_conditional (append_assoc q.left q.right rest) ∙ test_opens q.left (q.right ++ rest) z.0 q.one

  static_same : (front : Tokens) (v : Bool × DeclarationBody) (rest : Tokens) → Body front v → begins_conditional (front ++ rest) ≡ begins_conditional front
  static_same front v rest h = conditional_same begins_body front rest (body_front v.0 front v.1 h)

  abbrev FConditional : Tokens → Bool × DeclarationKind → Type 0
  FConditional = Image (λ v. (v.0, t.Static (static.Conditional v.1.0 v.1.1))) (Chain FStaticBranch Body begins_conditional)

  conditional_ends : Ends (suc n) open_of begins_static_test FConditional (spec.conditional_decl inner)
  unfolding spec.conditional_decl
  conditional_ends = ends_image (λ v. (v.0, t.Static (static.Conditional v.1.0 v.1.1))) open_of (λ x. refl)
      (chain_good FStaticBranch Body begins_conditional (spec.static_branch inner) (spec.decl_body inner) static_branch_ends body_ends static_opens static_same)

  abbrev FStaticForeach : Tokens → Bool × DeclarationKind → Type 0
  FStaticForeach = Image (λ z. (z.1.0, t.Static (static.Foreach z.0 z.1.1))) (Pair IsStaticRange Body)

  static_foreach_ends : Ends (suc n) open_of (is k.Static) FStaticForeach (spec.static_foreach inner)
  unfolding spec.static_foreach same_terminal
  static_foreach_ends = ends_image (λ z. (z.1.0, t.Static (static.Foreach z.0 z.1.1))) open_of (λ x. refl) (ends_seq (static_over_good (suc n)) body_ends (omega arith) refl)

  abbrev FCheck : Tokens → Bool × DeclarationKind → Type 0
  FCheck = Image (λ x. closed (t.Static (static.Assert x))) IsStaticAssert

  check_ends : Ends (suc n) open_of (is k.Static) FCheck ((λ x. closed (t.Static (static.Assert x))) <$> static_check)
  check_ends = closed_ends open_of (image (λ x. closed (t.Static (static.Assert x))) (static_check_good (suc n)))

  abbrev FStaticImport : Tokens → Bool × DeclarationKind → Type 0
  FStaticImport = Image (λ x. closed (t.Import x)) (After k.Static (IsImported true))

  static_import_ends : Ends (suc n) open_of (is k.Static) FStaticImport ((λ x. closed (t.Import x)) <$> static_import)
  static_import_ends = closed_ends open_of (image (λ x. closed (t.Import x)) (static_import_good (suc n)))

  -- ---- what is read is there

  conditional_into : (w : Tokens) (v : Bool × DeclarationKind) → FConditional w v → Kinds w v
  conditional_into w v (z, h, eq) = rw (← eq) (g.conditional_decl (static_into w z.0 z.1.0 z.1.1 h))

  static_import_into : (w : Tokens) (v : Bool × DeclarationKind) → FStaticImport w v → Kinds w v
  static_import_into w v (x, h, eq) = rw (← eq) (go w x h)
    where
      go : (w : Tokens) (x : ImportTree) → After k.Static (IsImported true) w x → IsPlainKind false w (t.Import x)
      go w x (s.after m h) = g.import_decl (p.static_import m h)

  static_sound : (ts : Tokens) → Holds Kinds ts (spec.static_decl inner ts)
  static_sound ts = go (second ts)
    where
      go : (kind : Terminal) → Holds Kinds ts (spec.static_by inner kind ts)
      go k.Import = holds_into ts (((λ x. closed (t.Import x)) <$> static_import) ts) static_import_into (static_import_ends.sound ts)
      go k.If = holds_into ts (spec.conditional_decl inner ts) conditional_into (conditional_ends.sound ts)
      go k.Foreach = holds_into ts (spec.static_foreach inner ts) (λ w v h. rw (← h.2, h.1.parts) (g.foreach_decl h.1.one h.1.two)) (static_foreach_ends.sound ts)
      go k.Assert = holds_into ts (((λ x. closed (t.Static (static.Assert x))) <$> static_check) ts) (λ w v h. rw (← h.2) (g.assert_decl h.1)) (check_ends.sound ts)
      go _ = tt

  kind_sound : (ts : Tokens) → Holds Kinds ts (spec.decl_kind inner ts)
  unfolding spec.decl_kind
  kind_sound ts = go (ahead ts)
    where
      go : (kind : Terminal) → Holds Kinds ts (spec.kind_by inner kind ts)
      go k.Import = holds_into ts (((λ x. closed (t.Import x)) <$> imported false) ts) (λ w v h. rw (← h.2) (g.import_decl (p.plain_import h.1))) ((image (λ x. closed (t.Import x)) (imported_good false 0)).sound ts)
      go k.Enum = holds_into ts (spec.enum_decl ts) enum_into ((enum_good 0).sound ts)
      go k.Alias = holds_into ts (((λ x. closed (t.Alias x)) <$> alias_read) ts) (λ w v h. rw (← h.2) (g.alias_decl h.1)) ((image (λ x. closed (t.Alias x)) (alias_read_good 0)).sound ts)
      go k.Struct = holds_into ts (spec.struct_decl inner ts) struct_into (struct_ends.sound ts)
      go k.Template = holds_into ts (spec.template_decl inner ts) template_into (template_ends.sound ts)
      go k.Static = static_sound ts
      go k.Version = holds_into ts (spec.conditional_decl inner ts) conditional_into (conditional_ends.sound ts)
      go k.Mixin = holds_into ts (spec.mixin_decl ts) (λ w v h. rw (← h.2, h.1.parts) (g.mixin_decl h.1.one h.1.two)) ((mixin_good 0).sound ts)
      go _ = holds_into ts (spec.typed_decl ts) named_into ((named_good 0).sound ts)

  -- ---- what is there is read

  at_kind : (kind : Terminal) (ts : Tokens) (c : Terminal → Bool) (v : Bool × DeclarationKind) (rest : Tokens) → ahead ts ≡ kind → Reaches c (spec.kind_by inner kind ts) v rest → Reaches c (spec.decl_kind inner ts) v rest
  unfolding spec.decl_kind
  at_kind kind ts c v rest e h = rw e h

  by_kind : (kind : Terminal) (F : Tokens → Bool × DeclarationKind → Type 0) → Ends (suc n) open_of (is kind) F (spec.kind_by inner kind) → (front : Tokens) (v : Bool × DeclarationKind) (rest : Tokens) → length front ≤ suc n → F front v
      → Reaches (else_after v.0) (spec.decl_kind inner (front ++ rest)) v rest
  by_kind kind F ends front v rest len h = at_kind kind (front ++ rest) (else_after v.0) v rest (ahead_is kind front rest (ends.begins front v h)) (ends.reach front v rest len h)

  at_static : (kind : Terminal) (front : Tokens) (v : Bool × DeclarationKind) (rest : Tokens) → ahead (front ++ rest) ≡ k.Static → second (front ++ rest) ≡ kind → Reaches (else_after v.0) (spec.static_by inner kind (front ++ rest)) v rest
      → Reaches (else_after v.0) (spec.decl_kind inner (front ++ rest)) v rest
  at_static kind front v rest e1 e2 h = at_kind k.Static (front ++ rest) (else_after v.0) v rest e1 (subst (λ (x : Terminal). Reaches (else_after v.0) (spec.static_by inner x (front ++ rest)) v rest) (sym e2) h)

  -- functions and variables begin with no other word
  named_by : (kind : Terminal) (ts : Tokens) → begins_variable kind ≡ true → spec.kind_by inner kind ts ≡ spec.typed_decl ts
  unfolding same_terminal
  named_by k.Import ts e = absurd cc
  named_by k.Enum ts e = absurd cc
  named_by k.Alias ts e = absurd cc
  named_by k.Struct ts e = absurd cc
  named_by k.Template ts e = absurd cc
  named_by k.Static ts e = absurd cc
  named_by k.Version ts e = absurd cc
  named_by k.Mixin ts e = absurd cc
  named_by _ ts e = refl

  named_reach : (front : Tokens) (v : Bool × DeclarationKind) (rest : Tokens) → length front ≤ suc n → FNamed front v → Reaches (else_after v.0) (spec.decl_kind inner (front ++ rest)) v rest
  unfolding same_terminal
  named_reach front v rest len h =
      let b = (named_good 0).begins front v h in
      let at : ahead (front ++ rest) ≡ terminal_of b.head = ap (λ (ts : Tokens). ahead (ts ++ rest)) b.parts in
      at_kind (terminal_of b.head) (front ++ rest) (else_after v.0) v rest at (rw (named_by (terminal_of b.head) (front ++ rest) b.kind) ((closed_ends open_of (named_good (suc n))).reach front v rest len h))

  conditional_reach : (o : Bool) (front : Tokens) (bs : List DeclarationBranch) (last : Option DeclarationBody) (rest : Tokens) → length front ≤ suc n → AreDeclBranches o front bs last
      → Reaches {A = Bool × DeclarationKind} (else_after o) (spec.decl_kind inner (front ++ rest)) (o, t.Static (static.Conditional bs last)) rest
  unfolding same_terminal
  conditional_reach o front bs last rest len h = go (same_terminal (ahead (front ++ rest)) k.Version) refl
    where
      form : FConditional front (o, t.Static (static.Conditional bs last))
      form = ((o, (bs, last)), static_back front o bs last h, refl)

      read : Reaches {A = Bool × DeclarationKind} (else_after o) (spec.conditional_decl inner (front ++ rest)) (o, t.Static (static.Conditional bs last)) rest
      read = conditional_ends.reach front (o, t.Static (static.Conditional bs last)) rest len form

      opened : begins_conditional (front ++ rest) ≡ true
      opened = conditional_same begins_plain front rest (branches_front o front bs last h) ∙ starts o front bs last h
        where
          starts : (o : Bool) (front : Tokens) (bs : List DeclarationBranch) (last : Option DeclarationBody) → AreDeclBranches o front bs last → begins_conditional front ≡ true
          starts o front bs last (g.decl_alone {w1 = w1} {w2 = w2} {x = x} h c) = test_opens w1 w2 x h
          starts o front bs last (g.decl_else {w1 = w1} {w2 = w2} {w3 = w3} {w4 = w4} {x = x} h c m q off) = test_opens w1 (w2 ++ (w3 ++ w4)) x h
          starts o front bs last (g.decl_more {w1 = w1} {w2 = w2} {w3 = w3} {w4 = w4} {x = x} h c m q) = test_opens w1 (w2 ++ (w3 ++ w4)) x h

      go : (b : Bool) → same_terminal (ahead (front ++ rest)) k.Version ≡ b → Reaches {A = Bool × DeclarationKind} (else_after o) (spec.decl_kind inner (front ++ rest)) (o, t.Static (static.Conditional bs last)) rest
      go true e = at_kind k.Version (front ++ rest) (else_after o) (o, t.Static (static.Conditional bs last)) rest (is_same k.Version (ahead (front ++ rest)) e) read
      go false e =
          let c = conditional_split (front ++ rest) opened e in
          at_static k.If front (o, t.Static (static.Conditional bs last)) rest c.0 c.1 read

  import_reach : (front : Tokens) (x : ImportTree) (rest : Tokens) → length front ≤ suc n → IsImport front x → Reaches {A = Bool × DeclarationKind} (else_after false) (spec.decl_kind inner (front ++ rest)) (false, t.Import x) rest
  import_reach front x rest len (p.plain_import {t = y} h) = by_kind k.Import (Image (λ x. closed (t.Import x)) (IsImported false)) (closed_ends open_of (image (λ x. closed (t.Import x)) (imported_good false (suc n)))) front (false, t.Import y) rest len (y, h, refl)
  import_reach front x rest len (p.static_import {w1 = w1} {w2 = w2} {t = y} m h) =
      let at = import_marks w2 rest y w1 m h in
      at_static k.Import (w1 ++ w2) (false, t.Import y) rest at.0 at.1 (static_import_ends.reach (w1 ++ w2) (false, t.Import y) rest len (y, s.after m h, refl))

  kind_reach : (o : Bool) (front : Tokens) (x : DeclarationKind) (rest : Tokens) → length front ≤ suc n → IsPlainKind o front x → Reaches {A = Bool × DeclarationKind} (else_after o) (spec.decl_kind inner (front ++ rest)) (o, x) rest
  kind_reach o front x rest len (g.import_decl {x = y} h) = import_reach front y rest len h
  kind_reach o front x rest len (g.enum_decl {x = y} h) = by_kind k.Enum FEnum (closed_ends open_of (enum_good (suc n))) front (o, x) rest len (inl (y, h, refl))
  kind_reach o front x rest len (g.constant_decl {x = y} h) = by_kind k.Enum FEnum (closed_ends open_of (enum_good (suc n))) front (o, x) rest len (inr (y, h, refl))
  kind_reach o front x rest len (g.alias_decl {x = y} h) = by_kind k.Alias (Image (λ x. closed (t.Alias x)) IsAlias) (closed_ends open_of (image (λ x. closed (t.Alias x)) (alias_read_good (suc n)))) front (o, x) rest len (y, h, refl)
  kind_reach o front x rest len (g.struct_decl {w1 = w1} {w2 = w2} {w3 = w3} {w4 = w4} {w5 = w5} {n = y} {ds = ds} h1 h2 h3 h4 h5) =
      by_kind k.Struct FStruct struct_ends front (o, x) rest len ((tt, (y, (None, ds))), pair w1 (w2 ++ (w3 ++ (w4 ++ w5))) h1 (pair w2 (w3 ++ (w4 ++ w5)) h2 (pair [] (w3 ++ (w4 ++ w5)) s.absent ((tt, (ds, tt)), pair w3 (w4 ++ w5) h3 (pair w4 w5 h4 h5), refl))), refl)
  kind_reach o front x rest len (g.struct_template {w1 = w1} {w2 = w2} {w3 = w3} {w4 = w4} {w5 = w5} {w6 = w6} {w7 = w7} {n = y} {ts = ts} {x = c} {ds = ds} h1 h2 h3 h4 h5 h6 h7) =
      by_kind k.Struct FStruct struct_ends front (o, x) rest len (
        (tt, (y, (Some (ts, c), ds))),
        pair w1 (w2 ++ (w3 ++ (w4 ++ (w5 ++ (w6 ++ w7))))) h1 (pair w2 (w3 ++ (w4 ++ (w5 ++ (w6 ++ w7)))) h2
            (record { left = w3 ++ w4; right = w5 ++ (w6 ++ w7); parts = sym (append_assoc w3 w4 (w5 ++ (w6 ++ w7))); one = s.present (pair w3 w4 h3 h4); two = ((tt, (ds, tt)), pair w5 (w6 ++ w7) h5 (pair w6 w7 h6 h7), refl) })),
        refl,
      )
  kind_reach o front x rest len (g.template_decl {w1 = w1} {w2 = w2} {w3 = w3} {w4 = w4} {w5 = w5} {w6 = w6} {w7 = w7} {n = y} {ts = ts} {x = c} {ds = ds} h1 h2 h3 h4 h5 h6 h7) =
      by_kind k.Template FTemplate template_ends front (o, x) rest len (
        (tt, (y, ((ts, c), ds))),
        pair w1 (w2 ++ (w3 ++ (w4 ++ (w5 ++ (w6 ++ w7))))) h1 (pair w2 (w3 ++ (w4 ++ (w5 ++ (w6 ++ w7)))) h2
            (record { left = w3 ++ w4; right = w5 ++ (w6 ++ w7); parts = sym (append_assoc w3 w4 (w5 ++ (w6 ++ w7))); one = pair w3 w4 h3 h4; two = ((tt, (ds, tt)), pair w5 (w6 ++ w7) h5 (pair w6 w7 h6 h7), refl) })),
        refl,
      )
  kind_reach o front x rest len (g.function_decl {x = y} h) = named_reach front (o, x) rest len (inl (y, h, refl))
  kind_reach o front x rest len (g.variable_decl {x = y} h) = named_reach front (o, x) rest len (inr (y, h, refl))
  kind_reach o front x rest len (g.conditional_decl {bs = bs} {last = last} h) = conditional_reach o front bs last rest len h
  kind_reach o front x rest len (g.foreach_decl {w1 = w1} {w2 = w2} {r = r} {b = b} h c) =
      let at = range_marks w1 w2 rest r h in
      at_static k.Foreach (w1 ++ w2) (o, t.Static (static.Foreach r b)) rest at.0 at.1 (static_foreach_ends.reach (w1 ++ w2) (o, t.Static (static.Foreach r b)) rest len ((r, (o, b)), pair w1 w2 h c, refl))
  kind_reach o front x rest len (g.assert_decl {x = y} h) = let at = check_marks front rest y h in at_static k.Assert front (false, t.Static (static.Assert y)) rest at.0 at.1 (check_ends.reach front (false, t.Static (static.Assert y)) rest len (y, h, refl))
  kind_reach o front x rest len (g.mixin_decl {w1 = w1} {w2 = w2} {x = y} h m) = by_kind k.Mixin FMixin (closed_ends open_of (mixin_good (suc n))) front (o, x) rest len ((y, tt), pair w1 w2 h m, refl)

  kind_ends : Ends (suc n) open_of begins_plain Kinds (spec.decl_kind inner)
  kind_ends = record {
    sound = kind_sound;
    reach = λ front v rest len h. kind_reach v.0 front v.1 rest len h;
    begins = λ front v h. let f = kind_front v.0 front v.1 h in record { head = f.head; tail = f.tail; parts = f.parts; kind = f.kind };
  }

  -- ---- with the attributes before it

  abbrev Plains : Tokens → Bool × Plain → Type 0
  Plains ts v = IsPlain v.0 ts v.1

  abbrev FPlain : Tokens → Bool × Plain → Type 0
  FPlain = Placed (λ at v. (v.0, plain at v.1)) Kinds

  plain_into : (ts : Tokens) (v : Bool × Plain) → FPlain ts v → Plains ts v
  plain_into ts v (z, h, eq) = rw (← eq) (g.a_plain h)

  plain_back : (o : Bool) (ts : Tokens) (x : Plain) → IsPlain o ts x → FPlain ts (o, x)
  plain_back o ts x (g.a_plain {x = y} h) = ((o, y), h, refl)

  plain_ends : Ends (suc n) open_of begins_plain Plains (spec.plain_read inner)
  unfolding spec.plain_read same_terminal
  plain_ends = ends_rule (ends_placed (λ at v. (v.0, plain at v.1)) open_of (λ at x. refl) kind_ends) begins_plain Plains (spec.plain_read inner) (λ ts. refl) plain_into (λ ts v h. plain_back v.0 ts v.1 h) refl

  abbrev FPlainDecl : Tokens → Bool × DeclarationForm → Type 0
  FPlainDecl = Image (λ z. (z.1.0, d.Plain z.0 z.1.1)) (Pair (Several IsAttribute) Plains)

  plain_decl_ends : Ends (suc n) open_of (or begins_attribute begins_plain) FPlainDecl (spec.plain_decl inner)
  unfolding spec.plain_decl same_terminal
  plain_decl_ends = ends_image (λ z. (z.1.0, d.Plain z.0 z.1.1)) open_of (λ x. refl) (ends_loose_seq (attributes_good (suc n)) plain_ends refl)

  abbrev FGroupDecl : Tokens → Bool × DeclarationForm → Type 0
  FGroupDecl = Image (λ z. (false, d.Group (z.0 ∷ z.1.0) z.1.1)) (Pair IsAttribute (Pair (Several IsAttribute) (FBraces AreDecls)))

  group_ends : Ends (suc n) open_of begins_attribute FGroupDecl (spec.group_decl inner)
  unfolding spec.group_decl same_terminal
  group_ends = closed_ends open_of (image (λ z. (false, d.Group (z.0 ∷ z.1.0) z.1.1)) (seq (attribute_good (suc n)) (loose_seq (attributes_good n) (lower braced_good) refl) (omega arith) refl))

  -- braces don't follow attributes where a declaration does
  group_not : (front : Tokens) (x : Bool × DeclarationForm) (rest : Tokens) → FPlainDecl front x → spec.group_decl inner (front ++ rest) ≡ None
  unfolding same_terminal
  group_not front x rest (z, q, eq) = go (spec.group_decl inner (front ++ rest)) (group_ends.sound (front ++ rest))
    where
      begin : Begins begins_plain q.right
      begin = plain_ends.begins q.right z.1 q.two

      go : (r : Outcome (Bool × DeclarationForm)) → Holds FGroupDecl (front ++ rest) r → r ≡ None
      go None f = refl
      go (Some r) f =
          let c = f.is.1 in
          let b = braced_good.begins c.two.right f.is.0.1.1 c.two.two in
          let brace : is k.LeftBrace (ahead (c.two.right ++ r.1)) ≡ true = begins_head (is k.LeftBrace) c.two.right r.1 b in
          let named : begins_plain (ahead (q.right ++ rest)) ≡ true = begins_head begins_plain q.right rest begin in
          let all : Several IsAttribute (c.left ++ c.two.left) (f.is.0.0 ∷ f.is.0.1.0) = s.several c.one c.two.one in
          let text : (c.left ++ c.two.left) ++ (c.two.right ++ r.1) ≡ q.left ++ (q.right ++ rest) = group c.left c.two.left c.two.right r.1 ∙ ap (λ (ts : Tokens). (c.left ++ ts) ++ r.1) (sym c.two.parts) ∙ ap (λ (ts : Tokens). ts ++ r.1) (sym c.parts) ∙ sym f.parts ∙ ap (λ (ts : Tokens). ts ++ rest) q.parts ∙ append_assoc q.left q.right rest in
          let same = same_attributes (c.left ++ c.two.left) q.left (c.two.right ++ r.1) (q.right ++ rest) (f.is.0.0 ∷ f.is.0.1.0) z.0 all q.one text
          (apart (is k.LeftBrace) begins_attribute refl (ahead (c.two.right ++ r.1)) brace) (apart begins_plain begins_attribute refl (ahead (q.right ++ rest)) named) in
          absurd (clash (is k.LeftBrace) begins_plain refl (ahead (c.two.right ++ r.1)) (ahead (q.right ++ rest)) (ap ahead same) brace named)
        where
          group : (a b c d : Tokens) → (a ++ b) ++ (c ++ d) ≡ (a ++ (b ++ c)) ++ d
          group a b c d = simp append_assoc

  abbrev FAttributed : Tokens → Bool × DeclarationForm → Type 0
  FAttributed = Or FGroupDecl FPlainDecl

  attributed_ends : Ends (suc n) open_of (or begins_attribute (or begins_attribute begins_plain)) FAttributed (either (spec.group_decl inner) (spec.plain_decl inner))
  attributed_ends = ends_one_of group_ends plain_decl_ends group_not

  colon_not : (front : Tokens) (x : Bool × DeclarationForm) (rest : Tokens) → FAttributed front x → spec.section (front ++ rest) ≡ None
  unfolding same_terminal
  colon_not front x rest (inl (z, q, eq)) =
      let b = braced_good.begins q.two.right z.1.1 q.two.two in
      let brace : is k.LeftBrace (ahead (q.two.right ++ rest)) ≡ true = begins_head (is k.LeftBrace) q.two.right rest b in
      let text : front ++ rest ≡ ((q.left ++ q.two.left) ++ q.two.right) ++ rest = ap (λ (ts : Tokens). ts ++ rest) (q.parts ∙ ap (λ (ts : Tokens). q.left ++ ts) q.two.parts ∙ sym (append_assoc q.left q.two.left q.two.right)) in
      ap spec.section text ∙ section_not (q.left ++ q.two.left) q.two.right (z.0 ∷ z.1.0) rest (s.several q.one q.two.one) (apart (is k.LeftBrace) begins_attribute refl (ahead (q.two.right ++ rest)) brace) (apart (is k.LeftBrace) (is k.Colon) refl (ahead (q.two.right ++ rest)) brace)
  colon_not front x rest (inr (z, q, eq)) =
      let named : begins_plain (ahead (q.right ++ rest)) ≡ true = begins_head begins_plain q.right rest (plain_ends.begins q.right z.1 q.two) in
      ap (λ (ts : Tokens). spec.section (ts ++ rest)) q.parts ∙ section_not q.left q.right z.0 rest q.one (apart begins_plain begins_attribute refl (ahead (q.right ++ rest)) named) (apart begins_plain (is k.Colon) refl (ahead (q.right ++ rest)) named)

  abbrev FOpen : Tokens → Bool × DeclarationForm → Type 0
  FOpen = Or FSection FAttributed

  abbrev begins_open : Terminal → Bool
  begins_open = or begins_attribute begins_plain

  open_ends : Ends (suc n) open_of begins_open FOpen (either spec.section (either (spec.group_decl inner) (spec.plain_decl inner)))
  unfolding same_terminal
  open_ends = ends_rule (ends_one_of (closed_ends open_of (section_good (suc n))) attributed_ends colon_not) begins_open FOpen (either spec.section (either (spec.group_decl inner) (spec.plain_decl inner))) (λ ts. refl) (λ ts x h. h) (λ ts x h. h) refl

  abbrev Forms : Tokens → Bool × DeclarationForm → Type 0
  Forms ts v = IsDeclForm v.0 ts v.1

  group_into : (w : Tokens) (v : Bool × DeclarationForm) → FGroupDecl w v → Forms w v
  group_into w v (z, q, eq) = rw (← eq, q.parts, q.two.parts) (go z.1.1 q.two.right q.two.two)
    where
      go : (ds : List Declaration) (u : Tokens) → FBraces AreDecls u ds → IsDeclForm false (q.left ++ (q.two.left ++ u)) (d.Group (z.0 ∷ z.1.0) ds)
      go ds u (y, b, same) = rw (← same, b.parts, b.two.parts, ← append_assoc q.left q.two.left (b.left ++ (b.two.left ++ b.two.right))) (g.group_decl (s.several q.one q.two.one) b.one b.two.one b.two.two)

  open_into : (w : Tokens) (v : Bool × DeclarationForm) → FOpen w v → Forms w v
  open_into w v (inl (z, q, eq)) = rw (← eq, q.parts) (g.section_decl q.one q.two)
  open_into w v (inr (inl h)) = group_into w v h
  open_into w v (inr (inr (z, q, eq))) = rw (← eq, q.parts) (g.plain_decl q.one q.two)

  form_sound : (ts : Tokens) → Holds Forms ts (spec.decl_form inner ts)
  unfolding spec.decl_form
  form_sound ts = go (ahead ts)
    where
      go : (kind : Terminal) → Holds Forms ts (spec.form_by inner kind ts)
      go k.Semicolon = holds_into ts (((λ u. (false, d.Empty)) <$> mark k.Semicolon) ts) (λ w v h. rw (← h.2) (g.empty_decl h.1)) ((image (λ u. (false, d.Empty)) (mark_good 0 k.Semicolon)).sound ts)
      go _ = holds_into ts (either spec.section (either (spec.group_decl inner) (spec.plain_decl inner)) ts) open_into (open_ends.sound ts)

  at_form : (kind : Terminal) (ts : Tokens) (c : Terminal → Bool) (v : Bool × DeclarationForm) (rest : Tokens) → ahead ts ≡ kind → Reaches c (spec.form_by inner kind ts) v rest → Reaches c (spec.decl_form inner ts) v rest
  unfolding spec.decl_form
  at_form kind ts c v rest e h = rw e h

  open_by : (kind : Terminal) (ts : Tokens) → begins_open kind ≡ true → spec.form_by inner kind ts ≡ either spec.section (either (spec.group_decl inner) (spec.plain_decl inner)) ts
  unfolding same_terminal
  open_by k.Semicolon ts e = absurd cc
  open_by _ ts e = refl

  open_reach : (front : Tokens) (v : Bool × DeclarationForm) (rest : Tokens) → length front ≤ suc n → FOpen front v → Reaches (else_after v.0) (spec.decl_form inner (front ++ rest)) v rest
  open_reach front v rest len h =
      let b = open_ends.begins front v h in
      let at : ahead (front ++ rest) ≡ terminal_of b.head = ap (λ (ts : Tokens). ahead (ts ++ rest)) b.parts in
      at_form (terminal_of b.head) (front ++ rest) (else_after v.0) v rest at (rw (open_by (terminal_of b.head) (front ++ rest) b.kind) (open_ends.reach front v rest len h))

  group_back : (w1 w2 w3 w4 : Tokens) (a : Attribute) (xs : List Attribute) (ds : List Declaration) → (ys : List Attribute) → ys ≡ a ∷ xs → Several IsAttribute w1 ys → Mark k.LeftBrace w2 → AreDecls w3 ds → Mark k.RightBrace w4
      → FGroupDecl (w1 ++ (w2 ++ (w3 ++ w4))) (false, d.Group (a ∷ xs) ds)
  group_back w1 w2 w3 w4 a xs ds ys same s.finished m h c = absurd cc
  group_back w1 w2 w3 w4 a xs ds ys same (s.several {w1 = v1} {w2 = v2} {x = y} {xs = more} one others) m h c =
      let e1 : y ≡ a = cc in
      let e2 : more ≡ xs = cc in
      rw (← e1, ← e2, append_assoc v1 v2 (w2 ++ (w3 ++ w4))) ((y, (more, ds)), pair v1 (v2 ++ (w2 ++ (w3 ++ w4))) one (pair v2 (w2 ++ (w3 ++ w4)) others ((tt, (ds, tt)), pair w2 (w3 ++ w4) m (pair w3 w4 h c), refl)), refl)

  form_reach : (o : Bool) (front : Tokens) (x : DeclarationForm) (rest : Tokens) → length front ≤ suc n → IsDeclForm o front x → Reaches {A = Bool × DeclarationForm} (else_after o) (spec.decl_form inner (front ++ rest)) (o, x) rest
  form_reach o front x rest len (g.plain_decl {w1 = w1} {w2 = w2} {xs = xs} {x = y} h c) = open_reach front (o, x) rest len (inr (inr ((xs, (o, y)), pair w1 w2 h c, refl)))
  form_reach o front x rest len (g.group_decl {w1 = w1} {w2 = w2} {w3 = w3} {w4 = w4} {a = a} {xs = xs} {ds = ds} h m c e) = open_reach front (o, x) rest len (inr (inl (group_back w1 w2 w3 w4 a xs ds (a ∷ xs) refl h m c e)))
  form_reach o front x rest len (g.section_decl {w1 = w1} {w2 = w2} {v = v} m c) = open_reach front (o, x) rest len (inl ((v, tt), pair w1 w2 m c, refl))
  form_reach o front x rest len (g.empty_decl m) =
      at_form k.Semicolon (front ++ rest) (else_after o) (o, x) rest (mark_head k.Semicolon front rest m) ((closed_ends open_of (image (λ u. (false, d.Empty)) (mark_good (suc n) k.Semicolon))).reach front (o, x) rest len (tt, m, refl))

  form_ends : Ends (suc n) open_of begins_decl Forms (spec.decl_form inner)
  form_ends = record {
    sound = form_sound;
    reach = λ front v rest len h. form_reach v.0 front v.1 rest len h;
    begins = λ front v h. let f = form_front v.0 front v.1 h in record { head = f.head; tail = f.tail; parts = f.parts; kind = f.kind };
  }

  abbrev FDecl : Tokens → Bool × Declaration → Type 0
  FDecl = Placed (λ at v. (v.0, declaration at v.1)) Forms

  decl_into : (ts : Tokens) (v : Bool × Declaration) → FDecl ts v → Declared ts v
  decl_into ts v (z, h, eq) = rw (← eq) (g.a_decl h)

  decl_back : (o : Bool) (ts : Tokens) (x : Declaration) → IsDecl o ts x → FDecl ts (o, x)
  decl_back o ts x (g.a_decl {x = y} h) = ((o, y), h, refl)

  pub one_ends : Ends (suc n) open_of begins_decl Declared (spec.one_decl inner)
  unfolding spec.one_decl same_terminal
  one_ends = ends_rule (ends_placed (λ at v. (v.0, declaration at v.1)) open_of (λ at x. refl) form_ends) begins_decl Declared (spec.one_decl inner) (λ ts. refl) decl_into (λ ts v h. decl_back v.0 ts v.1 h) refl

pub decl_ends : (n : ℕ) → Ends n open_of begins_decl Declared (spec.decl_to n)
unfolding spec.decl_to
decl_ends zero = record {
  sound = λ ts. tt;
  reach = λ front v rest len h. let f = decl_front v.0 front v.1 h in (let e : length front ≡ suc (length f.tail) = ap length f.parts in absurd (omega arith));
  begins = λ front v h. let f = decl_front v.0 front v.1 h in record { head = f.head; tail = f.tail; parts = f.parts; kind = f.kind };
}
decl_ends (suc n) = one_ends n (spec.decl_to n) (decl_ends n)

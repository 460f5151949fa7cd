-- A file's text has at most one verdict.
use Rattle.std.proofs.Common.{◌≡◌, sym, ap, subst, ℕ, ◌≤◌, ◌⊎◌, inl, inr, ⊎_elim, List, [], Option, Some, None, length, refl, arith}
use Rattle.std.proofs.lemmas.Bool.{cases_lt}
use Rattle.dc_token.specs.Balance.{Bytes}
use Rattle.dc_token.specs.declared.token.Token.{Token}
use Rattle.dc_token.specs.Names.{IsName}
use Rattle.dc_token.specs.Text.{IsTokens, IsUnreadable, Divides}
use Rattle.dc_ast.specs.declared.declaration.ModuleLine.{ModuleLine}
use Rattle.dc_ast.specs.declared.declaration.ModuleTree.{ModuleTree}
use Rattle.dc_grammar.specs.Declarations.{IsModule}
use Rattle.dc_grammar.specs.Nesting.{first_outside, first_past}
use Rattle.dc_grammar.specs.Refusals.{IsRefusedAt}
use Rattle.dc_grammar.proofs.Wholes.{lists_divide}
use Rattle.dc_top.specs.Names.{default_name}
use Rattle.dc_top.specs.Texts.{Verdict, refused, module_of, broken, name_of, HasName, HasTokens, IsJudged, OneTextVerdict}
use Rattle.dc_top.specs.Texts as t

one_token : {a b : Token} (o : Option Token) → o ≡ Some a → o ≡ Some b → a ≡ b
one_token o e f = cc

some_none : {A : Type 0} {a : Token} (o : Option Token) → o ≡ Some a → o ≡ None → A
some_none o e f = absurd (cc)

one_tree : {tokens : List Token} {x y : ModuleTree} → IsModule tokens x → IsModule tokens y → x ≡ y
one_tree {tokens} {x} {y} a b = lists_divide.modules.one_tree tokens x y a b

tree_or_place : {A : Type 0} {tokens : List Token} {x : ModuleTree} {token : Token} → IsModule tokens x → IsRefusedAt IsModule tokens token → A
tree_or_place {A} {tokens} {x} {token} a b = absurd (lists_divide.modules.never_both tokens x token a b)

one_place : {tokens : List Token} {a b : Token} → IsRefusedAt IsModule tokens a → IsRefusedAt IsModule tokens b → a ≡ b
one_place {tokens} {a} {b} p q = lists_divide.modules.one_place tokens a b p q

named_or_not : {A : Type 0} (file : Bytes) {tokens : List Token} {x y : ModuleTree} → IsModule tokens x → IsModule tokens y → HasName file x.line → (HasName file y.line → ⊥) → A
named_or_not {A} file a b has hasnt = absurd (hasnt (subst (λ (z : ModuleTree). HasName file z.line) (one_tree a b) has))

pub one_of_tokens : (file : Bytes) (tokens : List Token) (v w : Verdict) → HasTokens file tokens v → HasTokens file tokens w → v ≡ w
one_of_tokens file tokens v w (t.left_out e) (t.left_out f) = ap (λ (k : Token). refused (broken 23 file k.start k.spelling)) (one_token (first_outside tokens) e f)
one_of_tokens file tokens v w (t.left_out e) (t.too_deep f _) = some_none (first_outside tokens) e f
one_of_tokens file tokens v w (t.left_out e) (t.no_module f _ _) = some_none (first_outside tokens) e f
one_of_tokens file tokens v w (t.left_out e) (t.no_name f _ _ _) = some_none (first_outside tokens) e f
one_of_tokens file tokens v w (t.left_out e) (t.is_module f _ _ _) = some_none (first_outside tokens) e f
one_of_tokens file tokens v w (t.too_deep e _) (t.left_out f) = some_none (first_outside tokens) f e
one_of_tokens file tokens v w (t.too_deep _ e) (t.too_deep _ f) = ap (λ (k : Token). refused (broken 24 file k.start [])) (one_token (first_past 256 tokens) e f)
one_of_tokens file tokens v w (t.too_deep _ e) (t.no_module _ f _) = some_none (first_past 256 tokens) e f
one_of_tokens file tokens v w (t.too_deep _ e) (t.no_name _ f _ _) = some_none (first_past 256 tokens) e f
one_of_tokens file tokens v w (t.too_deep _ e) (t.is_module _ f _ _) = some_none (first_past 256 tokens) e f
one_of_tokens file tokens v w (t.no_module e _ _) (t.left_out f) = some_none (first_outside tokens) f e
one_of_tokens file tokens v w (t.no_module _ e _) (t.too_deep _ f) = some_none (first_past 256 tokens) f e
one_of_tokens file tokens v w (t.no_module _ _ p) (t.no_module _ _ q) = ap (λ (k : Token). refused (broken 2 file k.start [])) (one_place p q)
one_of_tokens file tokens v w (t.no_module _ _ p) (t.no_name _ _ x _) = tree_or_place x p
one_of_tokens file tokens v w (t.no_module _ _ p) (t.is_module _ _ x _) = tree_or_place x p
one_of_tokens file tokens v w (t.no_name e _ _ _) (t.left_out f) = some_none (first_outside tokens) f e
one_of_tokens file tokens v w (t.no_name _ e _ _) (t.too_deep _ f) = some_none (first_past 256 tokens) f e
one_of_tokens file tokens v w (t.no_name _ _ x _) (t.no_module _ _ q) = tree_or_place x q
one_of_tokens file tokens v w (t.no_name _ _ _ _) (t.no_name _ _ _ _) = refl
one_of_tokens file tokens v w (t.no_name _ _ x lacks) (t.is_module _ _ y has) = named_or_not file y x has lacks
one_of_tokens file tokens v w (t.is_module e _ _ _) (t.left_out f) = some_none (first_outside tokens) f e
one_of_tokens file tokens v w (t.is_module _ e _ _) (t.too_deep _ f) = some_none (first_past 256 tokens) f e
one_of_tokens file tokens v w (t.is_module _ _ x _) (t.no_module _ _ q) = tree_or_place x q
one_of_tokens file tokens v w (t.is_module _ _ x has) (t.no_name _ _ y lacks) = named_or_not file x y has lacks
one_of_tokens file tokens v w (t.is_module _ _ x _) (t.is_module _ _ y _) = ap (λ (z : ModuleTree). module_of (name_of file z.line) tokens z) (one_tree x y)

same_tokens : {text : Bytes} {a b : List Token} → IsTokens text a → IsTokens text b → a ≡ b
same_tokens {text} {a} {b} p q = q.only a p.reads

pub one_verdict : OneTextVerdict
one_verdict file text v w (t.too_large a) (t.too_large b) = refl
one_verdict file text v w (t.too_large a) (t.unreadable b _) = absurd (omega arith)
one_verdict file text v w (t.too_large a) (t.has_tokens b _ _) = absurd (omega arith)
one_verdict file text v w (t.unreadable a _) (t.too_large b) = absurd (omega arith)
one_verdict file text v w (t.unreadable {offset = m} _ p) (t.unreadable {offset = n} _ q) = ap (λ (k : ℕ). refused (broken 1 file k [])) (q.only m p.stuck)
one_verdict file text v w (t.unreadable _ p) (t.has_tokens {tokens = ts} _ q _) = absurd (p.reads_none ts q.reads)
one_verdict file text v w (t.has_tokens a _ _) (t.too_large b) = absurd (omega arith)
one_verdict file text v w (t.has_tokens {tokens = ts} _ p _) (t.unreadable _ q) = absurd (q.reads_none ts p.reads)
one_verdict file text v w (t.has_tokens {tokens = ts} _ p x) (t.has_tokens {tokens = us} _ q y) =
    one_of_tokens file us v w (subst (λ (k : List Token). HasTokens file k v) (same_tokens p q) x) y

-- ---- each text is judged

-- whether a module without a line has a name here
judged_tree : (file : Bytes) (tokens : List Token) (tree : ModuleTree) (line : Option ModuleLine) → line ≡ tree.line → (IsName (default_name file)) ⊎ (IsName (default_name file) → ⊥)
    → first_outside tokens ≡ None → first_past 256 tokens ≡ None → IsModule tokens tree → (v : Verdict) × HasTokens file tokens v
judged_tree file tokens tree (Some line) e named a b x = (module_of (name_of file tree.line) tokens tree, t.is_module a b x (subst (λ (l : Option ModuleLine). HasName file l) e tt))
judged_tree file tokens tree None e (inl named) a b x = (module_of (name_of file tree.line) tokens tree, t.is_module a b x (subst (λ (l : Option ModuleLine). HasName file l) e named))
judged_tree file tokens tree None e (inr nameless) a b x = (refused (broken 2 file 0 []), t.no_name a b x (λ has. nameless (subst (λ (l : Option ModuleLine). HasName file l) (sym e) has)))

judged_grammar : (file : Bytes) (tokens : List Token) → (IsName (default_name file)) ⊎ (IsName (default_name file) → ⊥) → first_outside tokens ≡ None → first_past 256 tokens ≡ None
    → ((x : ModuleTree) × IsModule tokens x) ⊎ ((token : Token) × IsRefusedAt IsModule tokens token) → (v : Verdict) × HasTokens file tokens v
judged_grammar file tokens named a b (inl p) = judged_tree file tokens p.0 p.0.line refl named a b p.1
judged_grammar file tokens named a b (inr p) = (refused (broken 2 file p.0.start []), t.no_module a b p.1)

judged_past : (file : Bytes) (tokens : List Token) (o : Option Token) → (IsName (default_name file)) ⊎ (IsName (default_name file) → ⊥) → first_outside tokens ≡ None → first_past 256 tokens ≡ o
    → (v : Verdict) × HasTokens file tokens v
judged_past file tokens (Some token) named a b = (refused (broken 24 file token.start []), t.too_deep a b)
judged_past file tokens None named a b = judged_grammar file tokens named a b (lists_divide.modules.either tokens)

judged_outside : (file : Bytes) (tokens : List Token) (o : Option Token) → (IsName (default_name file)) ⊎ (IsName (default_name file) → ⊥) → first_outside tokens ≡ o → (v : Verdict) × HasTokens file tokens v
judged_outside file tokens (Some token) named a = (refused (broken 23 file token.start token.spelling), t.left_out a)
judged_outside file tokens None named a = judged_past file tokens (first_past 256 tokens) named a refl

judged_small : (file text : Bytes) → (IsName (default_name file)) ⊎ (IsName (default_name file) → ⊥) → length text ≤ 1048576
    → ((ts : List Token) × IsTokens text ts) ⊎ ((at : ℕ) × IsUnreadable text at) → IsJudged file text
judged_small file text named small (inl p) = let v = judged_outside file p.0 (first_outside p.0) named refl in record { verdict = v.0; is = t.has_tokens small p.1 v.1 }
judged_small file text named small (inr p) = record { verdict = refused (broken 1 file p.0 []); is = t.unreadable small p.1 }

pub judged : (file text : Bytes) → (IsName (default_name file)) ⊎ (IsName (default_name file) → ⊥) → Divides text → IsJudged file text
judged file text named divides =
    ⊎_elim (λ large. record { verdict = refused (broken 24 file 0 []); is = t.too_large large }) (λ small. judged_small file text named small divides) (cases_lt 1048576 (length text))

use Rattle.std.proofs.Common.{◌≡◌, ℕ, Bool, true, false, cond, ◌==◌, ⊎_elim, lit<, refl, sym, ap, subst, ◌∙◌}
use Rattle.dc_token.specs.Vocabulary.{class, starts_name, is_xid_start, is_xid_continue}
use Rattle.dc_token.specs.declared.vocabulary.Class.{Class}
use Rattle.dc_token.specs.declared.vocabulary.Class.TheVariants as class_is
use Rattle.dc_token.proofs.Characters.{is_xid_start-is_xid_continue, is_xid_continue-ascii}
use Rattle.dc_lexer.proofs.SignTable.{or_split, equal}
use Rattle.dc_lexer.proofs.name.continues_name.Goals as goal

continues : Class → Bool
continues class_is.Start = true
continues class_is.Next = true
continues class_is.Neither = false

start_continues : (c : ℕ) → starts_name c ≡ true → is_xid_continue c ≡ true
start_continues c h = ⊎_elim (λ e. is_xid_start-is_xid_continue c e) (λ e. subst (λ x. is_xid_continue x ≡ true) (sym (equal c 95 e)) (is_xid_continue-ascii 95 (lit< tt))) (or_split (is_xid_start c) (c == 95) h)

continues_class : (c : ℕ) → continues (class c) ≡ is_xid_continue c
unfolding continues
continues_class c = go (starts_name c) refl (is_xid_continue c) refl
  where
    go : (x : Bool) → starts_name c ≡ x → (y : Bool) → is_xid_continue c ≡ y → continues (cond x class_is.Start (cond y class_is.Next class_is.Neither)) ≡ y
    go true s true n = refl
    go true s false n = absurd (let k : false ≡ true = sym n ∙ start_continues c s in cc)
    go false s true n = refl
    go false s false n = refl

by_class : (c : ℕ) (r : Class) → r ≡ class c → continues r ≡ is_xid_continue c
by_class c r e = ap continues e ∙ continues_class c

pub returns-in-Start : goal.returns-in-Start
unfolding continues
returns-in-Start c = by_class c.args.c class_is.Start (sym c.in-Start.is ∙ c.class_of.ensures)

pub returns-in-Next : goal.returns-in-Next
unfolding continues
returns-in-Next c = by_class c.args.c class_is.Next (sym c.in-Next.is ∙ c.class_of.ensures)

pub returns-in-Neither : goal.returns-in-Neither
unfolding continues
returns-in-Neither c = by_class c.args.c class_is.Neither (sym c.in-Neither.is ∙ c.class_of.ensures)

-- The machine follows a part of a tree.
use Rattle.std.proofs.Common.{◌≡◌, ℕ, ◌+◌, ◌≤◌, List, [], ◌++◌, length, drop, refl, sym, ap, ap₂, ◌∙◌, subst, arith, append_assoc, length-append, length-drop}
use Rattle.std.specs.Prelude.{slice_index}
use Rattle.dc_types.specs.declared.event.Event.{Event}
use Rattle.dc_types.specs.declared.event.Limits.{Limits}
use Rattle.dc_code.specs.State.{Machine, Run, On}
use Rattle.dc_code.specs.Blocks.{word_in}
use Rattle.dc_code.specs.Perform.{with_words}
use Rattle.dc_code.specs.declared.instr.Instr.{Instr}
use Rattle.dc_code.specs.declared.run.Nest.{Nest}
use Rattle.dc_code.specs.declared.code.Draft.{Draft}
use Rattle.core_tree.specs.Meaning.{State, End, Ran, Goes, Over, Part, and_then, both}
use Rattle.core_tree.specs.declared.tree.Variable.{Variable}
use Rattle.core_lower_expr.specs.Lowered.{Codes, two_code, then_ops}
use Rattle.core_lower_expr.specs.Follows as spec
pub use Rattle.core_lower_expr.specs.Follows.{Here, front, stop_of, IsStop, Ended, Form, value}
use Rattle.core_lower_expr.proofs.Steps.{HasAt, has_front, has_back, Leads, here, leads}
use Rattle.core_lower_expr.proofs.Seams.{read_more, put_more}
use Rattle.core_lower_expr.proofs.Locals.{words_of, Good, good_length}

abbrev pub pair : Form → Form → Form
pair F G = record { A = F.A × G.A; words = λ xy. F.words xy.0 ++ G.words xy.1; Fine = λ xy. F.Fine xy.0 × G.Fine xy.1 }

abbrev pub unit : Form
unit = record { A = Unit {0}; words = λ a. []; Fine = λ a. Unit {0} }

module _ (code : Draft) (limits : Limits) (nest : Nest) (h : Here) (vars : List Variable) where
  abbrev pub having : ℕ → ℕ → State → List ℕ → Machine
  having = spec.having code limits nest h vars

  abbrev pub at : ℕ → ℕ → State → List ℕ → List ℕ → Machine
  at = spec.at code limits nest h vars

  abbrev pub M : ℕ → ℕ → State → List ℕ → List ℕ → Run
  M = spec.M code limits nest h vars

  abbrev pub fixed : ℕ
  fixed = spec.fixed code limits nest h vars

  abbrev pub Went : (F : Form) (from : Run) (pc : ℕ) (temps : List ℕ) (room before : ℕ) (a : F.A) (s : State) → Type 0
  Went = spec.Went code limits nest h vars

  abbrev pub Gives : (F : Form) → Run → ℕ → List ℕ → ℕ → ℕ → Ran F.A → Type 0
  Gives = spec.Gives code limits nest h vars

  pub front_length : (s : State) (temps : List ℕ) → Good vars s.locals → length (front h s temps) ≡ length h.below + (fixed + length temps)
  front_length s temps good =
      omega (arith, good_length vars s.locals good, length-append (h.below ++ words_of s.locals) temps, length-append h.below (words_of s.locals))

  pub ended_after : (from mid : Run) (end : End) (events : List Event) → Leads code limits from mid → Ended code limits mid end events → Ended code limits from end events
  ended_after from mid end events l e = record { taken = e.taken; stops = e.stops; by = leads code limits from mid _ l e.by }

  -- goes on from a result
  pub bind : {B : Type 0} (G : Ran B → Type 0) (F : Form) (from : Run) (pc : ℕ) (temps : List ℕ) (room before : ℕ) → ((end : End) (events : List Event) → Ended code limits from end events → G (Over end events)) → (r : Ran F.A) (go : F.A → Part B) → Gives F from pc temps room before r → ((a : F.A) (s : State) → Went F from pc temps room before a s → G (go a s)) → G (and_then r go)
  bind G F from pc temps room before over (Goes v s) go g k = k v s g
  bind G F from pc temps room before over (Over end events) go g k = over end events g

  -- the same from an earlier point
  pub after : (F : Form) (from mid : Run) (pc pc' : ℕ) (temps : List ℕ) (room room' before before' : ℕ) (r : Ran F.A) → Leads code limits from mid → pc' ≡ pc → room' ≡ room → before' ≤ before → Gives F mid pc' temps room' before' r → Gives F from pc temps room before r
  after F from mid pc pc' temps room room' before before' (Goes a s) l e f le g = record {
    rest = g.rest;
    taken = g.taken;
    fine = g.fine;
    good = g.good;
    fills = g.fills ∙ f;
    ticks = omega (arith, g.ticks, le);
    by = leads code limits from mid _ l (leads code limits mid _ _ g.by (here code limits _ _ (ap (λ p. M p g.taken s temps (F.words a ++ g.rest)) e)));
  }
  after F from mid pc pc' temps room room' before before' (Over end events) l e f le g = ended_after from mid end events l g

  module _ (fuel : ℕ) where
    abbrev pub Follows : (F : Form) → Codes → ℕ → Part F.A → Type 0
    Follows = spec.Follows code limits nest h vars fuel

    abbrev pub Operates : (F G : Form) → (ℕ → List Instr) → (F.A → Part G.A) → Type 0
    Operates = spec.Operates code limits nest h vars fuel

    -- the same of equal codes and parts, with more room
    pub as_follows : (F : Form) (c c' : Codes) (size size' : ℕ) (m m' : Part F.A) → ((pc spare : ℕ) → c pc spare ≡ c' pc spare) → ((s : State) → m s ≡ m' s) → size ≤ size' → Follows F c size m → Follows F c' size' m'
    as_follows F c c' size size' m m' codes parts le f pc spare taken temps more s has e good room ticks =
        let from = M pc taken s temps more in
        let is = codes pc spare in
        subst (λ r. Gives F from (pc + length (c' pc spare)) temps (length more) s.left r) (parts s)
        (subst (λ l. Gives F from (pc + length l) temps (length more) s.left (m s)) is
        (f pc spare taken temps more s (subst (HasAt code.instrs pc) (sym is) has) e good (omega (arith, le, room)) ticks))

    pub then_follows : (F G : Form) (c : Codes) (ops : ℕ → List Instr) (size : ℕ) (m : Part F.A) (go : F.A → Part G.A) → Follows F c size m → Operates F G ops go → Follows G (then_ops c ops) (5 + size) (λ s. and_then (m s) go)
    then_follows F G c ops size m go f op pc spare taken temps more s has e good room ticks =
        let la = c pc spare in
        let lb = ops spare in
        let from = M pc taken s temps more in
        let pc2 = pc + length (la ++ lb) in
        let len : pc + length la + length lb ≡ pc2 = omega (arith, length-append la lb) in
        bind (Gives G from pc2 temps (length more) s.left) F from (pc + length la) temps (length more) s.left (λ end events l. l) (m s) go
        (f pc spare taken temps more s (has_front code.instrs pc la lb has) e good (omega (arith, room)) ticks)
        (λ a t w.
        let fills : length (F.words a ++ w.rest) ≡ length more = omega (arith, w.fills, length-append (F.words a) w.rest) in
        after G from _ pc2 (pc + length la + length lb) temps (length more) (length (F.words a ++ w.rest)) s.left t.left (go a t) w.by len fills w.ticks
        (op (pc + length la) spare w.taken temps w.rest t a (has_back code.instrs pc la lb has) e w.good w.fine (omega (arith, fills, room)) (omega (arith, w.ticks, ticks))))

    -- two parts one behind the other, where the results of the first have one word
    pub with_follows : (F G H' : Form) (f : F.A → G.A → H'.A) (ca cb : Codes) (za zb : ℕ) (ma : Part F.A) (mb : Part G.A) → ((a : F.A) → F.Fine a → length (F.words a) ≡ 1) → ((a : F.A) (b : G.A) → H'.words (f a b) ≡ F.words a ++ G.words b) → ((a : F.A) (b : G.A) → F.Fine a → G.Fine b → H'.Fine (f a b)) → 1 ≤ za →
        Follows F ca za ma → Follows G cb zb mb → Follows H' (two_code ca cb) (za + zb) (λ s. and_then (ma s) (λ x s. and_then (mb s) (λ y s. Goes (f x y) s)))
    with_follows F G H' f ca cb za zb ma mb wide same fine some fa fb pc spare taken temps more s has e good room ticks =
        let la = ca pc spare in
        let pc1 = pc + length la in
        let lb = cb pc1 (spare + 1) in
        let from = M pc taken s temps more in
        let pc2 = pc + length (la ++ lb) in
        let len : pc1 + length lb ≡ pc2 = omega (arith, length-append la lb) in
        let G2 = Gives H' from pc2 temps (length more) s.left in
        bind G2 F from pc1 temps (length more) s.left (λ end events l. l) (ma s) _
        (fa pc spare taken temps more s (has_front code.instrs pc la lb has) e good (omega (arith, room)) ticks)
        (λ x t a.
        let temps1 = temps ++ F.words x in
        let wx = wide x a.fine in
        let e1 : spare + 1 ≡ fixed + length temps1 = omega (arith, e, wx, length-append temps (F.words x)) in
        let seam : (u : State) (l : List ℕ) → front h u temps ++ (F.words x ++ l) ≡ front h u temps1 ++ l = λ u l.
        let low = h.below ++ words_of u.locals in
        sym (append_assoc (low ++ temps) (F.words x) l) ∙ ap (λ k. k ++ l) (append_assoc low temps (F.words x)) in
        let mid = M pc1 a.taken t temps1 a.rest in
        let to_mid : Leads code limits from mid = leads code limits from _ mid a.by (here code limits _ mid (ap (λ l. On (having pc1 a.taken t l)) (seam t a.rest))) in
        bind G2 G from (pc1 + length lb) temps1 (length a.rest) s.left (λ end events l. l) (mb t) _
        (after G from mid (pc1 + length lb) (pc1 + length lb) temps1 (length a.rest) (length a.rest) s.left t.left (mb t) to_mid refl refl a.ticks
        (fb pc1 (spare + 1) a.taken temps1 a.rest t (has_back code.instrs pc la lb has) e1 a.good (omega (arith, room, a.fills, wx, some)) (omega (arith, ticks, a.ticks))))
        (λ y u b. record {
          rest = b.rest;
          taken = b.taken;
          fine = fine x y a.fine b.fine;
          good = b.good;
          fills = omega (arith, a.fills, b.fills, ap length (same x y) ∙ length-append (F.words x) (G.words y));
          ticks = b.ticks;
          by = leads code limits from _ _ b.by (here code limits _ _ (ap₂ (λ p l. On (having p b.taken u l)) len
              (sym (seam u (G.words y ++ b.rest)) ∙ ap (λ l. front h u temps ++ l) (sym (append_assoc (F.words x) (G.words y) b.rest) ∙ ap (λ l. l ++ b.rest) (sym (same x y))))));
        }))

    pub two_follows : (F G : Form) (ca cb : Codes) (za zb : ℕ) (ma : Part F.A) (mb : Part G.A) → ((a : F.A) → F.Fine a → length (F.words a) ≡ 1) → 1 ≤ za → Follows F ca za ma → Follows G cb zb mb → Follows (pair F G) (two_code ca cb) (za + zb) (both ma mb)
    two_follows F G ca cb za zb ma mb wide some = with_follows F G (pair F G) (λ x y. (x, y)) ca cb za zb ma mb wide (λ a b. refl) (λ a b f g. (f, g)) some

    -- words are put behind the temporaries
    pub answers : (G : Form) (from : Run) (pc spare taken : ℕ) (temps more : List ℕ) (s : State) (before : ℕ) (a : G.A) (ws : List ℕ) → spare ≡ fixed + length temps → Good vars s.locals → G.Fine a → G.words a ≡ ws → length ws ≤ length more → s.left ≤ before →
        Leads code limits from (On (with_words spare ws (at pc taken s temps more))) → Went G from (pc + 1) temps (length more) before a s
    answers G from pc spare taken temps more s before a ws e good fine is room ticks l = record {
      rest = drop (length ws) more;
      taken = taken;
      fine = fine;
      good = good;
      fills = omega (arith, ap length is, length-drop (length ws) more, room);
      ticks = ticks;
      by = leads code limits from _ _ l (here code limits _ _ (ap (λ l. On (having (pc + 1) taken s l))
          (put_more (front h s temps) more ws (length h.below + spare) (omega (arith, front_length s temps good, e))
          ∙ ap (λ l. front h s temps ++ (l ++ drop (length ws) more)) (sym is))));
    }

    -- a word of the result on which an instruction works
    pub operand : (pc spare taken j : ℕ) (temps more : List ℕ) (s : State) (i : ℕ) → spare ≡ fixed + length temps → Good vars s.locals → i ≡ spare + j → word_in (at pc taken s temps more) i ≡ slice_index more j
    operand pc spare taken j temps more s i e good f = read_more (front h s temps) more (length h.below + i) j (omega (arith, front_length s temps good, e, f))

    -- no result
    pub none_follows : Follows unit (λ pc spare. []) 0 (λ s. Goes tt s)
    none_follows pc spare taken temps more s has e good room ticks = record {
      rest = more;
      taken = taken;
      fine = tt;
      good = good;
      fills = omega arith;
      ticks = omega arith;
      by = here code limits _ _ (ap (λ p. M p taken s temps more) (omega arith));
    }

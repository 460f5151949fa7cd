-- The machine follows statements.
use Rattle.std.proofs.Common.{◌≡◌, ℕ, zero, suc, ◌+◌, ◌≤◌, ◌==◌, Bool, true, false, List, [], ◌∷◌, ◌++◌, length, map, Some, refl, sym, ap, ap₂, ◌∙◌, subst, arith, append_assoc, length-append, take_at}
use Rattle.std.specs.Prelude.{slice_get, if◌then◌else◌}
use Rattle.dc_types.specs.declared.kind.Kind.{Kind}
use Rattle.dc_types.specs.declared.place.Place.{Place}
use Rattle.dc_types.specs.declared.ty.Ty.{Ty}
use Rattle.dc_types.specs.declared.ty.Ty.TheOpen.{Ty-F}
use Rattle.dc_value.specs.declared.value.Value.{Value}
use Rattle.dc_types.specs.declared.event.Event.{Event}
use Rattle.dc_types.specs.declared.event.Event.TheVariants.{Turn}
use Rattle.dc_types.specs.declared.event.Limits.{Limits}
use Rattle.dc_types.specs.Integers.{InKind}
use Rattle.dc_code.specs.State as machine
use Rattle.dc_code.specs.State.{Machine, Run, On, Done}
use Rattle.dc_code.specs.Exec.{first_blocks}
use Rattle.dc_code.specs.Blocks.{word_in, words_in, put}
use Rattle.dc_code.specs.Perform.{ticked_by, back_to}
use Rattle.dc_code.specs.declared.instr.Op.TheVariants as op
use Rattle.dc_code.specs.declared.instr.Instr.{Instr}
use Rattle.dc_code.specs.declared.run.Nest.{Nest}
use Rattle.dc_code.specs.declared.run.Caller.{Caller}
use Rattle.dc_code.specs.declared.code.Draft.{Draft}
use Rattle.core_tree.specs.Values.{number_in, is_zero}
use Rattle.core_tree.specs.Weight.{sum}
use Rattle.core_tree.specs.Meaning.{State, End, Bound, Ran, Goes, Over, Part, and_then, tick_by, tick, Flow, Next, Back, next_or, block, turns}
use Rattle.core_tree.specs.Typed.{Each}
use Rattle.core_tree.specs.declared.tree.Variable.{Variable}
use Rattle.core_lower_expr.specs.Lowered.{Codes, instr, block_code, then_ops}
use Rattle.core_lower_expr.specs.Frames.{word, fine_at, words_at}
use Rattle.core_lower_expr.proofs.Steps.{HasAt, has_front, has_back, Leads, here, leads, one}
use Rattle.core_lower_expr.proofs.Seams.{take_more}
use Rattle.core_lower_expr.proofs.Words.{zero_test}
use Rattle.core_lower_expr.proofs.Locals.{words_of, Good}
use Rattle.core_lower_expr.proofs.Follow.{Here, front, having, at, Ended, ended_after, Form, value, fixed, front_length, M, Went, bind, Follows, operand}
use Rattle.core_lower_expr.proofs.Ops.{number}
use Rattle.core_lower.specs.Lowered.{if_code, while_code, return_ops}

module _ (code : Draft) (limits : Limits) (nest : Nest) (h : Here) (vars : List Variable) (result : Ty-F Ty) where
  abbrev At : ℕ → ℕ → State → List ℕ → Run
  At pc taken s more = M code limits nest h vars pc taken s [] more

  abbrev L : Run → Run → Type 0
  L = Leads code limits

  abbrev Ends' : Run → End → List Event → Type 0
  Ends' = Ended code limits

  -- the machine after a return of these words
  abbrev pub back_with : List Caller → ℕ → State → List ℕ → Run
  back_with [] taken s ws = Done (machine.Returned ws (first_blocks code)) s.events taken
  back_with (c ∷ callers) taken s ws = On (record {
    pc = c.pc;
    words = put h.below (c.base + c.slot) ws;
    base = c.base;
    callers = callers;
    nest = c.nest;
    blocks = first_blocks code;
    cells = 0;
    pending = [];
    left = s.left;
    taken = taken;
    events = s.events;
  })

  back_is : (callers : List Caller) (pc taken : ℕ) (s : State) (xs ws : List ℕ) → back_to callers ws (having code limits nest h vars pc taken s (h.below ++ xs)) ≡ back_with callers taken s ws
  back_is [] pc taken s xs ws = refl
  back_is (c ∷ callers) pc taken s xs ws =
      ap (λ l. On (record { pc = c.pc; words = put l (c.base + c.slot) ws; base = c.base; callers = callers; nest = c.nest; blocks = first_blocks code; cells = 0; pending = []; left = s.left; taken = taken; events = s.events })) (take_at h.below xs (length h.below) refl)

  pub record WentOn (from : Run) (pc room before : ℕ) (s : State) : Type 0 where
    pub rest : List ℕ
    pub taken : ℕ
    pub good : Good vars s.locals
    pub fills : length rest ≡ room
    pub ticks : s.left ≤ before
    pub by : Leads code limits from (At pc taken s rest)

  pub record WentBack (from : Run) (before : ℕ) (v : Value) (s : State) : Type 0 where
    pub taken : ℕ
    pub fine : fine_at result v
    pub ticks : s.left ≤ before
    pub by : Leads code limits from (back_with h.callers taken s (words_at result v))

  abbrev pub GivesFlow : Run → ℕ → ℕ → ℕ → Ran Flow → Type 0
  GivesFlow from pc room before (Goes Next s) = WentOn from pc room before s
  GivesFlow from pc room before (Goes (Back v) s) = WentBack from before v s
  GivesFlow from pc room before (Over end events) = Ended code limits from end events

  pub after_flow : (from mid : Run) (pc pc' room room' before before' : ℕ) (r : Ran Flow) → L from mid → pc' ≡ pc → room' ≡ room → before' ≤ before → GivesFlow mid pc' room' before' r → GivesFlow from pc room before r
  after_flow from mid pc pc' room room' before before' (Goes Next s) l e f le g = record {
    rest = g.rest;
    taken = g.taken;
    good = g.good;
    fills = g.fills ∙ f;
    ticks = omega (arith, g.ticks, le);
    by = leads code limits from mid _ l (leads code limits mid _ _ g.by (here code limits _ _ (ap (λ p. At p g.taken s g.rest) e)));
  }
  after_flow from mid pc pc' room room' before before' (Goes (Back v) s) l e f le g = record { taken = g.taken; fine = g.fine; ticks = omega (arith, g.ticks, le); by = leads code limits from mid _ l g.by }
  after_flow from mid pc pc' room room' before before' (Over end events) l e f le g = ended_after code limits nest h vars from mid end events l g

  -- goes on with the next statement
  pub seq : (from : Run) (pc1 pc2 room before : ℕ) (r : Ran Flow) (go : Part Flow) → GivesFlow from pc1 room before r → ((s : State) → WentOn from pc1 room before s → GivesFlow from pc2 room before (go s)) → GivesFlow from pc2 room before (and_then r (λ flow. next_or flow go))
  seq from pc1 pc2 room before (Goes Next s) go g k = k s g
  seq from pc1 pc2 room before (Goes (Back v) s) go g k = g
  seq from pc1 pc2 room before (Over end events) go g k = g

  -- a jump where a statement has ended
  jumped : (from : Run) (place : Place) (pc t room before : ℕ) (r : Ran Flow) → slice_get code.instrs pc ≡ Some (instr place (op.Jump t)) → GivesFlow from pc room before r → GivesFlow from t room before r
  jumped from place pc t room before (Goes Next s) has g = record {
    rest = g.rest;
    taken = g.taken;
    good = g.good;
    fills = g.fills;
    ticks = g.ticks;
    by = leads code limits from _ _ g.by (one code limits _ (instr place (op.Jump t)) _ has refl);
  }
  jumped from place pc t room before (Goes (Back v) s) has g = g
  jumped from place pc t room before (Over end events) has g = g

  -- a choice, where the machine stands at the side that it has chosen
  chosen : (from : Run) (pc pc1 pc2 room before taken : ℕ) (s : State) (xs : List ℕ) (b : Bool) (r1 r2 : Ran Flow) → L from (At (if b then pc2 else pc1) taken s xs) → (L from (At pc2 taken s xs) → GivesFlow from pc room before r2) → (L from (At pc1 taken s xs) → GivesFlow from pc room before r1) → GivesFlow from pc room before (if b then r2 else r1)
  chosen from pc pc1 pc2 room before taken s xs true r1 r2 l k2 k1 = k2 l
  chosen from pc pc1 pc2 room before taken s xs false r1 r2 l k2 k1 = k1 l

  -- an event that takes a tick, at the head of a part
  pub on_tick : {A : Type 0} (G : Ran A → Type 0) (from : Run) (l : ℕ) (event : Event) (s : State) (m : Machine) (to : Machine → Run) (go : Part A) → ((events : List Event) → Ends' from Bound events → G (Over Bound events)) → s.events ≡ m.events → L from (ticked_by l event m to) → ((k : ℕ) → l ≡ suc k → L from (ticked_by (suc k) event m to) → G (go (record s { left = k; events = s.events ++ event ∷ [] }))) → G (tick_by l event go s)
  on_tick G from zero event s m to go over e l k = over s.events (record { taken = m.taken; stops = tt; by = leads code limits from _ _ l (here code limits _ _ (ap (λ es. Done machine.Bound es m.taken) (sym e))) })
  on_tick G from (suc n) event s m to go over e l k = k n refl l

  module _ (fuel : ℕ) where
    abbrev wide : ℕ
    wide = fixed code limits nest h vars

    abbrev pub FollowsFlow : Codes → ℕ → Part Flow → Type 0
    FollowsFlow c size m =
        (pc taken : ℕ) (more : List ℕ) (s : State) → HasAt code.instrs pc (c pc wide) → Good vars s.locals → size ≤ length more → s.left ≤ fuel →
        GivesFlow (At pc taken s more) (pc + length (c pc wide)) (length more) s.left (m s)

    pub looser_flow : (c : Codes) (size n : ℕ) (m : Part Flow) → size ≤ n → FollowsFlow c size m → FollowsFlow c n m
    looser_flow c size n m le f pc taken more s has good room ticks = f pc taken more s has good (omega (arith, le, room)) ticks

    -- instructions on the words of a result, at the end of a statement
    abbrev pub Ends : (F : Form) → (ℕ → List Instr) → (F.A → Part Flow) → Type 0
    Ends F ops go =
        (pc taken : ℕ) (rest : List ℕ) (s : State) (a : F.A) → HasAt code.instrs pc (ops wide) → Good vars s.locals → F.Fine a →
        GivesFlow (At pc taken s (F.words a ++ rest)) (pc + length (ops wide)) (length (F.words a ++ rest)) s.left (go a s)

    -- a result at the head of a statement
    head : (F : Form) (G : Ran Flow → Type 0) (c : Codes) (size : ℕ) (m : Part F.A) (go : F.A → Part Flow) → Follows code limits nest h vars fuel F c size m → (pc taken : ℕ) (more : List ℕ) (s : State) →
        HasAt code.instrs pc (c pc wide) → Good vars s.locals → size ≤ length more → s.left ≤ fuel →
        ((end : End) (events : List Event) → Ends' (At pc taken s more) end events → G (Over end events)) →
        ((a : F.A) (t : State) → Went code limits nest h vars F (At pc taken s more) (pc + length (c pc wide)) [] (length more) s.left a t → G (go a t)) →
        G (and_then (m s) go)
    head F G c size m go f pc taken more s has good room ticks over k =
        bind code limits nest h vars G F (At pc taken s more) (pc + length (c pc wide)) [] (length more) s.left over (m s) go (f pc wide taken [] more s has (omega arith) good room ticks) k

    pub then_flow : (F : Form) (c : Codes) (ops : ℕ → List Instr) (size : ℕ) (m : Part F.A) (go : F.A → Part Flow) → Follows code limits nest h vars fuel F c size m → Ends F ops go → FollowsFlow (then_ops c ops) size (λ s. and_then (m s) go)
    then_flow F c ops size m go f op pc taken more s has good room ticks =
        let la = c pc wide in
        let lb = ops wide in
        let pc2 = pc + length (la ++ lb) in
        let len : pc + length la + length lb ≡ pc2 = omega (arith, length-append la lb) in
        head F (GivesFlow (At pc taken s more) pc2 (length more) s.left) c size m go f pc taken more s (has_front code.instrs pc la lb has) good room ticks (λ end events l. l)
        (λ a t w.
        let fills : length (F.words a ++ w.rest) ≡ length more = omega (arith, w.fills, length-append (F.words a) w.rest) in
        after_flow (At pc taken s more) _ pc2 (pc + length la + length lb) (length more) (length (F.words a ++ w.rest)) s.left t.left (go a t) w.by len fills w.ticks
        (op (pc + length la) w.taken w.rest t a (has_back code.instrs pc la lb has) w.good w.fine))

    -- an expression, whose value is dropped
    pub eval_follows : (F : Form) (c : Codes) (size : ℕ) (m : Part F.A) → Follows code limits nest h vars fuel F c size m → FollowsFlow c size (λ s. and_then (m s) (λ a s. Goes Next s))
    eval_follows F c size m f pc taken more s has good room ticks =
        head F (GivesFlow (At pc taken s more) (pc + length (c pc wide)) (length more) s.left) c size m (λ a s. Goes Next s) f pc taken more s has good room ticks (λ end events l. l)
        (λ a t w. record {
          rest = F.words a ++ w.rest;
          taken = w.taken;
          good = w.good;
          fills = omega (arith, w.fills, length-append (F.words a) w.rest);
          ticks = w.ticks;
          by = w.by;
        })

    -- what the first words behind the variables are
    pub handed : (pc taken : ℕ) (s : State) (ws rest : List ℕ) (n : ℕ) → Good vars s.locals → n ≡ length ws → words_in (at code limits nest h vars pc taken s [] (ws ++ rest)) wide n ≡ ws
    handed pc taken s ws rest n good e = take_more (front h s []) ws rest (length h.below + wide) n (omega (arith, front_length code limits nest h vars s [] good)) e

    pub return_op : (place : Place) (n : ℕ) → ((v : Value) → n ≡ length (words_at result v)) → Ends (value result) (return_ops place n) (λ v s. Goes (Back v) s)
    return_op place n count pc taken rest s v has good fine =
        let ws = words_at result v in
        let more = ws ++ rest in
        let m = at code limits nest h vars pc taken s [] more in
        let seam : front h s [] ++ more ≡ h.below ++ (words_of s.locals ++ ([] ++ more)) =
        append_assoc (h.below ++ words_of s.locals) [] more ∙ append_assoc h.below (words_of s.locals) ([] ++ more) in
        record {
          taken = taken;
          fine = fine;
          ticks = omega arith;
          by = one code limits m (instr place (op.Return wide n)) _ has.0 (ap₂ (λ ws l. back_to h.callers ws (having code limits nest h vars pc taken s l)) (handed pc taken s ws rest n good (count v)) seam
              ∙ back_is h.callers pc taken s (words_of s.locals ++ ([] ++ more)) ws);
        }

    module _ {X : Type 0} (c : X → Codes) (z : X → ℕ) (m : X → Part Flow) where
      pub block_follows : (xs : List X) → Each (λ x. FollowsFlow (c x) (z x) (m x)) xs → FollowsFlow (block_code (map c xs)) (sum (map z xs)) (block (map m xs))
      block_follows [] all pc taken more s has good room ticks = record {
        rest = more;
        taken = taken;
        good = good;
        fills = refl;
        ticks = omega arith;
        by = here code limits _ _ (ap (λ p. At p taken s more) (omega arith));
      }
      block_follows (x ∷ xs) all pc taken more s has good room ticks =
          let la = c x pc wide in
          let pc1 = pc + length la in
          let lb = block_code (map c xs) pc1 wide in
          let pc2 = pc + length (la ++ lb) in
          let len : pc1 + length lb ≡ pc2 = omega (arith, length-append la lb) in
          seq (At pc taken s more) pc1 pc2 (length more) s.left (m x s) (block (map m xs))
          (all.0 pc taken more s (has_front code.instrs pc la lb has) good (omega (arith, room)) ticks)
          (λ t a. after_flow (At pc taken s more) _ pc2 (pc1 + length lb) (length more) (length a.rest) s.left t.left (block (map m xs) t) a.by len a.fills a.ticks
          (block_follows xs all.1 pc1 a.taken a.rest t (has_back code.instrs pc la lb has) a.good (omega (arith, room, a.fills)) (omega (arith, ticks, a.ticks))))

    -- the test of a number at the head of the temporaries
    test_is : (pc taken : ℕ) (rest : List ℕ) (s : State) (k : Kind) (v : Value) → Good vars s.locals → InKind k (number_in v) → (word_in (at code limits nest h vars pc taken s [] (word v ∷ rest)) wide == 0) ≡ is_zero v
    test_is pc taken rest s k v good o =
        ap (λ w. w == 0) (operand code limits nest h vars fuel pc wide taken 0 [] (word v ∷ rest) s wide (omega arith) good (omega arith)) ∙ zero_test k (number_in v) o

    pub if_follows : (place : Place) (k : Kind) (ct c1 c2 : Codes) (zt z1 z2 : ℕ) (mt : Part Value) (m1 m2 : Part Flow) → Follows code limits nest h vars fuel (number k) ct zt mt → FollowsFlow c1 z1 m1 → FollowsFlow c2 z2 m2 → FollowsFlow (if_code place ct c1 c2) (zt + (z1 + z2)) (λ s. and_then (mt s) (λ v s. if is_zero v then m2 s else m1 s))
    if_follows place k ct c1 c2 zt z1 z2 mt m1 m2 ft f1 f2 pc taken more s has good room ticks =
        let lt = ct pc wide in
        let pc1 = pc + length lt in
        let first = pc1 + 1 in
        let la = c1 first wide in
        let second = first + length la + 1 in
        let lb = c2 second wide in
        let end = second + length lb in
        let i = instr place (op.JumpZero wide second) in
        let j = instr place (op.Jump end) in
        let tail = la ++ (j ∷ lb) in
        let all = lt ++ (i ∷ tail) in
        let from = At pc taken s more in
        let pc2 = pc + length all in
        let len : end ≡ pc2 = omega (arith, length-append lt (i ∷ tail), length-append la (j ∷ lb)) in
        let has1 = has_back code.instrs pc lt (i ∷ tail) has in
        let has2 = has_back code.instrs first la (j ∷ lb) has1.1 in
        head (number k) (GivesFlow from pc2 (length more) s.left) ct zt mt _ ft pc taken more s (has_front code.instrs pc lt (i ∷ tail) has) good (omega (arith, room)) ticks (λ end events l. l)
        (λ v t a.
        let xs = word v ∷ a.rest in
        let m = at code limits nest h vars pc1 a.taken t [] xs in
        let fills : length xs ≡ length more = omega (arith, a.fills) in
        let to_side : L from (At (if is_zero v then second else first) a.taken t xs) =
        leads code limits from (On m) _ a.by (one code limits m i _ has1.0 (ap (λ b. At (if b then second else first) a.taken t xs) (test_is pc1 a.taken a.rest t k v a.good a.fine))) in
        let left : t.left ≤ fuel = omega (arith, ticks, a.ticks) in
        chosen from pc2 first second (length more) s.left a.taken t xs (is_zero v) (m1 t) (m2 t) to_side
        (λ l. after_flow from _ pc2 end (length more) (length xs) s.left t.left (m2 t) l len fills a.ticks
        (f2 second a.taken xs t has2.1 a.good (omega (arith, room, fills)) left))
        (λ l. jumped from place (first + length la) pc2 (length more) s.left (m1 t) (subst (λ n. slice_get code.instrs (first + length la) ≡ Some (instr place (op.Jump n))) len has2.0)
        (after_flow from _ (first + length la) (first + length la) (length more) (length xs) s.left t.left (m1 t) l refl fills a.ticks
        (f1 first a.taken xs t (has_front code.instrs first la (j ∷ lb) has1.1) a.good (omega (arith, room, fills)) left))))

    module _ (place : Place) (k : Kind) (pc : ℕ) (ct cb : Codes) (zt zb : ℕ) (mt : Part Value) (mb : Part Flow) (ft : Follows code limits nest h vars fuel (number k) ct zt mt) (fb : FollowsFlow cb zb mb) where
      abbrev body : List Instr
      body = cb (pc + 2) wide

      abbrev test_at : ℕ
      test_at = pc + 2 + length body

      abbrev test : List Instr
      test = ct test_at wide

      abbrev back_at : ℕ
      back_at = test_at + length test

      -- the machine stands at the test
      turns_follow : (n taken : ℕ) (more : List ℕ) (s : State) →
          HasAt code.instrs (pc + 1) (instr place op.Turn ∷ (body ++ (test ++ instr place (op.JumpOther wide (pc + 1)) ∷ []))) → Good vars s.locals → zt + zb ≤ length more → s.left ≤ fuel → s.left ≤ n →
          GivesFlow (At test_at taken s more) (back_at + 1) (length more) s.left (turns n place mt mb s)
      turns_follow zero taken more s has good room ticks few =
          let i = instr place (op.JumpOther wide (pc + 1)) in
          let from = At test_at taken s more in
          let has1 = subst (λ p. HasAt code.instrs p (test ++ i ∷ [])) (omega arith) (has_back code.instrs (pc + 1 + 1) body (test ++ i ∷ []) has.1) in
          let has2 = has_back code.instrs test_at test (i ∷ []) has1 in
          head (number k) (GivesFlow from (back_at + 1) (length more) s.left) ct zt mt _ ft test_at taken more s (has_front code.instrs test_at test (i ∷ []) has1) good (omega (arith, room)) ticks (λ end events l. l)
          (λ v t a.
          let xs = word v ∷ a.rest in
          let m = at code limits nest h vars back_at a.taken t [] xs in
          let fills : length xs ≡ length more = omega (arith, a.fills) in
          let to_side : L from (At (if is_zero v then back_at + 1 else pc + 1) a.taken t xs) =
          leads code limits from (On m) _ a.by (one code limits m i _ has2.0 (ap (λ b. At (if b then back_at + 1 else pc + 1) a.taken t xs) (test_is back_at a.taken a.rest t k v a.good a.fine))) in
          let none : t.left ≡ 0 = omega (arith, few, a.ticks) in
          chosen from (back_at + 1) (pc + 1) (back_at + 1) (length more) s.left a.taken t xs (is_zero v) (Over Bound t.events) (Goes Next t) to_side
          (λ l. record { rest = xs; taken = a.taken; good = a.good; fills = fills; ticks = a.ticks; by = l })
          (λ l. record {
            taken = a.taken;
            stops = tt;
            by = leads code limits from _ _ l (one code limits (at code limits nest h vars (pc + 1) a.taken t [] xs) (instr place op.Turn) _ has.0
                (ap (λ n. ticked_by n (Turn place) (at code limits nest h vars (pc + 1) a.taken t [] xs) (λ m. On (record m { pc = m.pc + 1 }))) none));
          }))
      turns_follow (suc n) taken more s has good room ticks few =
          let i = instr place (op.JumpOther wide (pc + 1)) in
          let from = At test_at taken s more in
          let has0 : HasAt code.instrs (pc + 2) (body ++ (test ++ i ∷ [])) = subst (λ p. HasAt code.instrs p (body ++ (test ++ i ∷ []))) (omega arith) has.1 in
          let has1 = has_back code.instrs (pc + 2) body (test ++ i ∷ []) has0 in
          let has2 = has_back code.instrs test_at test (i ∷ []) has1 in
          head (number k) (GivesFlow from (back_at + 1) (length more) s.left) ct zt mt _ ft test_at taken more s (has_front code.instrs test_at test (i ∷ []) has1) good (omega (arith, room)) ticks (λ end events l. l)
          (λ v t a.
          let xs = word v ∷ a.rest in
          let m = at code limits nest h vars back_at a.taken t [] xs in
          let m' = at code limits nest h vars (pc + 1) a.taken t [] xs in
          let fills : length xs ≡ length more = omega (arith, a.fills) in
          let to_side : L from (At (if is_zero v then back_at + 1 else pc + 1) a.taken t xs) =
          leads code limits from (On m) _ a.by (one code limits m i _ has2.0 (ap (λ b. At (if b then back_at + 1 else pc + 1) a.taken t xs) (test_is back_at a.taken a.rest t k v a.good a.fine))) in
          let go : Part Flow = λ s. and_then (mb s) (λ flow. next_or flow (turns n place mt mb)) in
          let to : Machine → Run = λ m. On (record m { pc = m.pc + 1 }) in
          chosen from (back_at + 1) (pc + 1) (back_at + 1) (length more) s.left a.taken t xs (is_zero v) (tick (Turn place) go t) (Goes Next t) to_side
          (λ l. record { rest = xs; taken = a.taken; good = a.good; fills = fills; ticks = a.ticks; by = l })
          (λ l. on_tick (GivesFlow from (back_at + 1) (length more) s.left) from t.left (Turn place) t m' to go (λ events l. l) refl
          (leads code limits from (On m') _ l (one code limits m' (instr place op.Turn) _ has.0 refl))
          (λ j is l'.
          let u : State = record t { left = j; events = t.events ++ Turn place ∷ [] } in
          let mid = At (pc + 2) a.taken u xs in
          let to_mid : L from mid = leads code limits from _ mid l' (here code limits _ mid (ap (λ p. At p a.taken u xs) (omega arith))) in
          let body_only = after_flow mid mid test_at test_at (length more) (length xs) j j (mb u) (here code limits mid mid refl) refl fills (omega arith)
          (fb (pc + 2) a.taken xs u (has_front code.instrs (pc + 2) body (test ++ i ∷ []) has0) a.good (omega (arith, room, fills)) (omega (arith, is, a.ticks, ticks))) in
          after_flow from mid (back_at + 1) (back_at + 1) (length more) (length more) s.left j (go u) to_mid refl refl (omega (arith, is, a.ticks))
          (seq mid test_at (back_at + 1) (length more) j (mb u) (turns n place mt mb) body_only
          (λ w b. after_flow mid _ (back_at + 1) (back_at + 1) (length more) (length b.rest) j w.left (turns n place mt mb w) b.by refl b.fills b.ticks
          (turns_follow n b.taken b.rest w has b.good (omega (arith, room, b.fills)) (omega (arith, is, ticks, a.ticks, b.ticks)) (omega (arith, is, few, a.ticks, b.ticks))))))))

    pub while_follows : (place : Place) (k : Kind) (ct cb : Codes) (zt zb : ℕ) (mt : Part Value) (mb : Part Flow) → Follows code limits nest h vars fuel (number k) ct zt mt → FollowsFlow cb zb mb → FollowsFlow (while_code place ct cb) (zt + zb) (λ s. turns s.left place mt mb s)
    while_follows place k ct cb zt zb mt mb ft fb pc taken more s has good room ticks =
        let lb = cb (pc + 2) wide in
        let at_test = pc + 2 + length lb in
        let lt = ct at_test wide in
        let i = instr place (op.Jump at_test) in
        let j = instr place (op.JumpOther wide (pc + 1)) in
        let len : at_test + length lt + 1 ≡ pc + length (i ∷ (instr place op.Turn ∷ (lb ++ (lt ++ j ∷ [])))) = omega (arith, length-append lb (lt ++ j ∷ []), length-append lt (j ∷ [])) in
        after_flow (At pc taken s more) _ _ (at_test + length lt + 1) (length more) (length more) s.left s.left (turns s.left place mt mb s)
        (one code limits (at code limits nest h vars pc taken s [] more) i _ has.0 refl) len refl (omega arith)
        (turns_follow place k pc ct cb zt zb mt mb ft fb s.left taken more s has.1 good room ticks (omega arith))

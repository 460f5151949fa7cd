-- A part of a meaning with fewer ticks left and with more.
use Rattle.std.proofs.Common.{◌≡◌, ℕ, zero, suc, ◌+◌, ◌≤◌, Bool, true, false, List, [], ◌∷◌, ◌++◌, refl, sym, ap, ◌∙◌, subst, arith, append_assoc, append-nil}
use Rattle.std.specs.Prelude.{if◌then◌else◌}
use Rattle.dc_types.specs.declared.event.Event.{Event}
use Rattle.core_tree.specs.Meaning.{State, End, Gave, Trapped, Bound, Missing, Ran, Goes, Over, Part, and_then, tick_by, tick}
use Rattle.dc_types.specs.Events.{ticks_of, ticks, BeginsWith}
use Rattle.dc_types.proofs.Ticks.{ticks-append}

-- ---- fronts

pub begins : (es : List Event) → BeginsWith es es
begins es = record { rest = []; split = sym (append-nil es) }

pub begins_then : (xs ys zs : List Event) → BeginsWith xs ys → BeginsWith ys zs → BeginsWith xs zs
begins_then xs ys zs a b = record { rest = a.rest ++ b.rest; split = b.split ∙ ap (λ l. l ++ b.rest) a.split ∙ append_assoc xs a.rest b.rest }

pub begins_more : (xs : List Event) (e : Event) → BeginsWith xs (xs ++ e ∷ [])
begins_more xs e = record { rest = e ∷ []; split = refl }

pub ticks_more : (es : List Event) (e : Event) → ticks (es ++ e ∷ []) ≡ ticks es + ticks_of e
ticks_more es e = let all = ticks-append es (e ∷ []) in omega arith

-- ---- ends

IsBound : End → Type 0
IsBound Bound = Unit {0}
IsBound (Gave v) = ⊥
IsBound (Trapped trap place) = ⊥
IsBound (Missing f) = ⊥

-- the same state with d more ticks
abbrev pub more : ℕ → State → State
more d s = record s { left = s.left + d }

abbrev pub events_of : {A : Type 0} → Ran A → List Event
events_of (Goes a s) = s.events
events_of (Over end es) = es

abbrev pub total : State → ℕ
total s = ticks s.events + s.left

-- a part has gone on, and so has the one with more ticks
pub record WentOn {A : Type 0} (d : ℕ) (s : State) (a : A) (t : State) (r : Ran A) : Type 0 where
  pub same : r ≡ Goes a (more d t)
  pub count : total t ≡ total s
  pub front : BeginsWith s.events t.events
  pub fewer : t.left ≤ s.left

-- a part has ended, and the one with more ticks too, or it has gone on where the end is for want of a tick
pub record Ended {A : Type 0} (d : ℕ) (s : State) (end : End) (es : List Event) (r : Ran A) : Type 0 where
  pub front : BeginsWith s.events es
  pub most : ticks es ≤ total s
  pub all : end ≡ Bound → ticks es ≡ total s
  pub longer : BeginsWith es (events_of r)
  pub same : (end ≡ Bound → ⊥) → r ≡ Over end es

abbrev pub Told : {A : Type 0} → ℕ → State → Ran A → Ran A → Type 0
Told d s (Goes a t) r = WentOn d s a t r
Told d s (Over end es) r = Ended d s end es r

abbrev pub Grows : {A : Type 0} → Part A → Type 0
Grows q = (s : State) → BeginsWith s.events (events_of (q s))

-- a part with at most n ticks left, and the one with more
pub record Pair {A : Type 0} (n : ℕ) (p q : Part A) : Type 0 where
  pub told : (s : State) (d : ℕ) → s.left ≤ n → Told d s (p s) (q (more d s))
  pub grows : Grows q

pub grows_then : {A B : Type 0} (q : Part A) (go : A → Part B) → Grows q → ((a : A) → Grows (go a)) → Grows (λ s. and_then (q s) go)
grows_then q go g h s = by (q s) (g s) where
  by : (r : Ran _) → BeginsWith s.events (events_of r) → BeginsWith s.events (events_of (and_then r go))
  by (Goes a t) b = begins_then s.events t.events (events_of (go a t)) b (h a t)
  by (Over end es) b = b

module _ {B : Type 0} where
  pub after : (d : ℕ) (s t : State) (r r' : Ran B) → total t ≡ total s → BeginsWith s.events t.events → t.left ≤ s.left → Told d t r r' → Told d s r r'
  after d s t (Goes b u) r' c f l w = record { same = w.same; count = w.count ∙ c; front = begins_then s.events t.events u.events f w.front; fewer = omega (arith, w.fewer, l) }
  after d s t (Over end es) r' c f l w = record { front = begins_then s.events t.events es f w.front; most = omega (arith, w.most, c); all = λ b. w.all b ∙ c; longer = w.longer; same = w.same }

module _ {A B : Type 0} where
  pub then_told : (d : ℕ) (s : State) (r r' : Ran A) (go go' : A → Part B) → Told d s r r' → ((a : A) (t : State) → t.left ≤ s.left → Told d t (go a t) (go' a (more d t))) → ((a : A) → Grows (go' a)) → Told d s (and_then r go) (and_then r' go')
  then_told d s (Goes a t) r' go go' w k g = subst (λ x. Told d s (go a t) (and_then x go')) (sym w.same) (after d s t (go a t) (go' a (more d t)) w.count w.front w.fewer (k a t w.fewer))
  then_told d s (Over end es) r' go go' w k g = record {
    front = w.front;
    most = w.most;
    all = w.all;
    longer = begins_then es (events_of r') (events_of (and_then r' go')) w.longer (longer r');
    same = λ not_bound. ap (λ x. and_then x go') (w.same not_bound);
  } where
    longer : (x : Ran A) → BeginsWith (events_of x) (events_of (and_then x go'))
    longer (Goes a t) = g a t
    longer (Over end es) = begins es

  pub then_pair : (n : ℕ) (p q : Part A) (go go' : A → Part B) → Pair n p q → ((a : A) → Pair n (go a) (go' a)) → Pair n (λ s. and_then (p s) go) (λ s. and_then (q s) go')
  then_pair n p q go go' f g = record {
    told = λ s d le. then_told d s (p s) (q (more d s)) go go' (f.told s d le) (λ a t fewer. (g a).told t d (omega (arith, le, fewer))) (λ a. (g a).grows);
    grows = grows_then q go' f.grows (λ a. (g a).grows);
  }

module _ {A : Type 0} where
  -- a value without any event
  pub goes_told : (d : ℕ) (a : A) (s t : State) → t.left ≡ s.left → t.events ≡ s.events → Told d s (Goes a t) (Goes a (more d t))
  goes_told d a s t l e = record { same = refl; count = ap (λ (x : List Event × ℕ). ticks x.0 + x.1) (pair_is e l); front = record { rest = []; split = e ∙ sym (append-nil s.events) }; fewer = omega (arith, l) } where
    pair_is : {x y : List Event} {i j : ℕ} → x ≡ y → i ≡ j → ◌≡◌ {A = List Event × ℕ} (x, i) (y, j)
    pair_is e l = λ k. (e k, l k)

  pub goes_pair : (n : ℕ) (a : A) → Pair n (λ s. Goes a s) (λ s. Goes a s)
  goes_pair n a = record { told = λ s d le. goes_told d a s s refl refl; grows = λ s. begins s.events }

  -- an end that isn't for want of a tick
  pub over_told : (d : ℕ) (s : State) (end : End) → (end ≡ Bound → ⊥) → Told {A = A} d s (Over end s.events) (Over end s.events)
  over_told d s end other = record { front = begins s.events; most = omega arith; all = λ b. absurd (other b); longer = begins s.events; same = λ x. refl }

  -- the end for want of a tick
  pub bound_told : (d : ℕ) (s : State) (r : Ran A) → s.left ≡ 0 → BeginsWith s.events (events_of r) → Told d s (Over Bound s.events) r
  bound_told d s r none longer = record { front = begins s.events; most = omega arith; all = λ b. omega (arith, none); longer = longer; same = λ other. absurd (other refl) }

  pub if_told : (d : ℕ) (s : State) (b : Bool) (r1 r2 r1' r2' : Ran A) → Told d s r1 r1' → Told d s r2 r2' → Told d s (if b then r1 else r2) (if b then r1' else r2')
  if_told d s true r1 r2 r1' r2' f g = f
  if_told d s false r1 r2 r1' r2' f g = g

  pub if_grows : (b : Bool) (s : State) (r1 r2 : Ran A) → BeginsWith s.events (events_of r1) → BeginsWith s.events (events_of r2) → BeginsWith s.events (events_of (if b then r1 else r2))
  if_grows true s r1 r2 f g = f
  if_grows false s r1 r2 f g = g

  -- an event that takes a tick
  pub tick_grows : (event : Event) (go : Part A) → Grows go → Grows (tick event go)
  tick_grows event go g s = by s.left where
    by : (l : ℕ) → BeginsWith s.events (events_of (tick_by l event go s))
    by zero = begins s.events
    by (suc k) = begins_then s.events (s.events ++ event ∷ []) _ (begins_more s.events event) (g (record s { left = k; events = s.events ++ event ∷ [] }))

  pub tick_told : (d : ℕ) (s : State) (event : Event) (go go' : Part A) → ticks_of event ≡ 1 → Grows go' → ((t : State) → suc t.left ≡ s.left → Told d t (go t) (go' (more d t))) → Told d s (tick event go s) (tick event go' (more d s))
  tick_told d s event go go' one g k = by s.left refl where
    by : (l : ℕ) → s.left ≡ l → Told d s (tick_by l event go s) (tick_by (s.left + d) event go' (more d s))
    by zero e = bound_told d s (tick_by (s.left + d) event go' (more d s)) e (tick_grows event go' g (more d s))
    by (suc j) e =
        let t : State = record s { left = j; events = s.events ++ event ∷ [] } in
        let l : s.left + d ≡ suc (j + d) = omega (arith, e) in
        let w = k t (sym e) in
        after d s t (go t) (tick_by (s.left + d) event go' (more d s)) (omega (arith, ticks_more s.events event, one, e)) (begins_more s.events event) (omega (arith, e))
        (subst (λ r. Told d t (go t) r) (sym (ap (λ l. tick_by l event go' (more d s)) l)) w)

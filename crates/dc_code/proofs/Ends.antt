-- A run of sound code begins well, goes on until it ends, and is not stuck then.
use Rattle.std.proofs.Common.{◌≡◌, ℕ, zero, suc, ◌<◌, ◌++◌, length, Option, Some, None, refl, ap, ◌∙◌, subst, arith, append_assoc}
use Rattle.std.specs.Prelude.{slice_get}
use Rattle.std.proofs.lemmas.Option.{get_or_from_slice_get}
use Rattle.std.proofs.lemmas.List.{length-replicate}
use Rattle.dc_types.specs.declared.event.Limits.{Limits}
use Rattle.dc_code.specs.State.{Machine, Run, On, Done}
use Rattle.dc_code.specs.Exec.{step, steps, start, begin_at, function_at}
use Rattle.dc_code.specs.Sound.{IsThere, IsSound}
use Rattle.dc_code.specs.Standing.{Stands, rank}
use Rattle.dc_code.specs.Laws.{EndsFrom, EndsWell, KeepsStanding}
use Rattle.dc_code.specs.declared.instr.Function.{Function}
use Rattle.dc_code.specs.declared.code.Draft.{Draft}
use Rattle.dc_code.proofs.Fitting.{is_there}
use Rattle.dc_code.proofs.Keeps.{GoesOn, Onward, onward}

module _ (code : Draft) (limits : Limits) (sound : IsSound code) where
  pub begins : (n k : ℕ) (f : Function) → slice_get code.functions k ≡ Some f → Stands code limits f.weight (start code n f)
  begins n k f there = record {
    function = f;
    within = record { number = k; there = there; from_first = omega arith; to_end = (sound.functions k f there).rises };
    frame = omega (arith, length-replicate {A = ℕ} f.weight 0);
    waits = refl;
    weight = omega (arith, length-replicate {A = ℕ} f.weight 0);
    depth = refl;
    deep = omega arith;
    heavy = omega arith;
  }

  module _ (first : ℕ) where
    one_more : (m x : Machine) → step code limits m ≡ On x → GoesOn code limits first m x → EndsFrom code limits x → EndsFrom code limits m
    one_more m x e o r = record {
      count = suc r.count;
      end = r.end;
      more = o.more ++ r.more;
      taken = r.taken;
      ends = ap (steps code limits r.count) e ∙ r.ends ∙ ap (λ xs. Done r.end xs r.taken) (ap (λ xs. xs ++ r.more) o.events ∙ append_assoc m.events o.more r.more);
      counts = omega (arith, o.counts, r.counts);
      not_stuck = r.not_stuck;
    }

    ends_by : (fuel : ℕ) (m : Machine) → Stands code limits first m → rank code m < fuel → (r : Run) → step code limits m ≡ r → Onward code limits first m r → EndsFrom code limits m
    ends_by zero m s lt r e o = absurd (omega arith)
    ends_by (suc fuel) m s lt (Done end events taken) e o = record {
      count = 1;
      end = end;
      more = o.more;
      taken = taken;
      ends = e ∙ ap (λ xs. Done end xs taken) o.events_are;
      counts = o.counts;
      not_stuck = o.not_stuck;
    }
    ends_by (suc fuel) m s lt (On x) e o =
        one_more m x e o (ends_by fuel x o.stands (omega (arith, o.falls, lt)) (step code limits x) refl (onward code limits first sound x o.stands))

    pub ends_from : (m : Machine) → Stands code limits first m → EndsFrom code limits m
    ends_from m s = ends_by (suc (rank code m)) m s (omega arith) (step code limits m) refl (onward code limits first sound m s)

    keeps_by : (m x : Machine) (r : Run) → r ≡ On x → Onward code limits first m r → GoesOn code limits first m x
    keeps_by m x r e o = subst (Onward code limits first m) e o

    pub goes_on : (m x : Machine) → Stands code limits first m → step code limits m ≡ On x → GoesOn code limits first m x
    goes_on m x s e = keeps_by m x (step code limits m) e (onward code limits first sound m s)

    pub keeps_standing : KeepsStanding code limits first
    keeps_standing = record {
      begins = λ n k f there w. subst (λ first. Stands code limits first (start code n f)) w (begins n k f there);
      keeps = λ m x s e. (goes_on m x s e).stands;
      falls = λ m x s e. (goes_on m x s e).falls;
      ends = ends_from;
    }

  pub runs_well : (entry n k : ℕ) (f : Function) → slice_get code.entries entry ≡ Some k → slice_get code.functions k ≡ Some f → EndsWell code entry limits n
  runs_well entry n k f is there =
      let r = ends_from f.weight (start code n f) (begins n k f there) in
      record {
        events = r.more;
        end = r.end;
        run = record {
          count = r.count;
          taken = r.taken;
          ends = ap (λ o. steps code limits r.count (begin_at code n o)) (ap (function_at code) is ∙ there) ∙ r.ends;
        };
        not_stuck = r.not_stuck;
      }

  entry_by : (entry n k : ℕ) (o : Option Function) → slice_get code.entries entry ≡ Some k → slice_get code.functions k ≡ o → IsThere o (λ f. f.params ≡ 0) → EndsWell code entry limits n
  entry_by entry n k None is there h = absurd h
  entry_by entry n k (Some f) is there h = runs_well entry n k f is there

  by_entry : (entry n : ℕ) (o : Option ℕ) → entry < length code.entries → slice_get code.entries entry ≡ o → EndsWell code entry limits n
  by_entry entry n None lt is = absurd (subst (λ o. IsThere o (λ x. Unit {0})) is (is_there code.entries entry lt))
  by_entry entry n (Some k) lt is = entry_by entry n k (slice_get code.functions k) is refl (subst (λ j. IsThere (slice_get code.functions j) (λ f. f.params ≡ 0)) (get_or_from_slice_get code.entries entry k 0 is) (sound.entries entry 0 lt))

  pub ends_well : (entry n : ℕ) → entry < length code.entries → EndsWell code entry limits n
  ends_well entry n lt = by_entry entry n (slice_get code.entries entry) lt refl

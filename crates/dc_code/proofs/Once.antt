-- A run has one end.
use Rattle.std.proofs.Common.{◌≡◌, ℕ, zero, suc, ◌≤◌, List, [], refl, sym, ap, ◌∙◌, arith, ⊎_elim}
use Rattle.std.proofs.lemmas.Bool.{cases_lt}
use Rattle.dc_types.specs.declared.event.Event.{Event}
use Rattle.dc_types.specs.declared.event.Limits.{Limits}
use Rattle.dc_code.specs.State.{End, Run, On, Done}
use Rattle.dc_code.specs.Exec.{step, steps, begin}
use Rattle.dc_code.specs.Laws.{RunsOnce}
use Rattle.dc_code.specs.declared.code.Draft.{Draft}

abbrev pub events_of : List Event → Run → List Event
events_of d (On m) = d
events_of d (Done end events taken) = events

abbrev pub end_of_run : End → Run → End
end_of_run d (On m) = d
end_of_run d (Done end events taken) = end

module _ (code : Draft) (limits : Limits) where
  pub stays : (j : ℕ) (end : End) (events : List Event) (taken : ℕ) → steps code limits j (Done end events taken) ≡ Done end events taken
  stays zero end events taken = refl
  stays (suc j) end events taken = refl

  pub longer : (k j : ℕ) (r : Run) (end : End) (events : List Event) (taken : ℕ) → k ≤ j → steps code limits k r ≡ Done end events taken → steps code limits j r ≡ Done end events taken
  longer zero j r end events taken le e = ap (steps code limits j) e ∙ stays j end events taken
  longer (suc k) zero r end events taken le e = absurd (omega arith)
  longer (suc k) (suc j) (On m) end events taken le e = longer k j (step code limits m) end events taken (omega arith) e
  longer (suc k) (suc j) (Done d es t) end events taken le e = e

  same : (k j : ℕ) (r : Run) (d1 d2 : End) (es1 es2 : List Event) (t1 t2 : ℕ) → steps code limits k r ≡ Done d1 es1 t1 → steps code limits j r ≡ Done d2 es2 t2 → Done d1 es1 t1 ≡ Done d2 es2 t2
  same k j r d1 d2 es1 es2 t1 t2 e f =
      ⊎_elim (λ lt. sym (longer k j r d1 es1 t1 (omega arith) e) ∙ f) (λ le. sym e ∙ longer j k r d2 es2 t2 le f) (cases_lt k j)

pub runs_once : RunsOnce
runs_once code entry limits n xs ys d e a b =
    let s = same code limits a.count b.count (begin code entry n) d e xs ys a.taken b.taken a.ends b.ends in
    (ap (events_of []) s, ap (end_of_run d) s)

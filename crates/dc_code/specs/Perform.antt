-- How the machine does what an instruction says.
use Rattle.std.specs.Prelude.{ℕ, zero, suc, ◌+◌, ◌-◌, ◌||◌, nat_lt, nat_le, Bool, List, [], ◌∷◌, ◌++◌, length, take, replicate, if◌then◌else◌}
use Rattle.dc_types.specs.declared.place.Place.{Place}
use Rattle.dc_types.specs.declared.event.TrapKind.TheVariants.{Heap, Depth}
use Rattle.dc_types.specs.declared.event.Event.{Event}
use Rattle.dc_types.specs.declared.event.Event.TheVariants.{Enter, Turn, Print}
use Rattle.dc_types.specs.declared.event.Limits.{Limits}
use Rattle.dc_code.specs.State.{Machine, End, Returned, Trapped, Bound, Stuck, Run, On, Done}
use Rattle.dc_code.specs.Blocks.{put, words_in, changed, written, lengthened}
use Rattle.dc_code.specs.Effect.{Effect, Writes, Goes, Turns, Calls, Returns, Changes, Makes, Lengthens, Prints, Flushes, Traps, Sticks}
use Rattle.dc_code.specs.declared.instr.Function.{Function}
use Rattle.dc_code.specs.declared.run.Nest.{Nest}
use Rattle.dc_code.specs.declared.run.Caller.{Caller}

abbrev pub ended : End → Machine → Run
ended end m = Done end m.events m.taken

-- the machine at the next instruction, with words in the slots from d on
abbrev pub with_words : ℕ → List ℕ → Machine → Machine
with_words d ws m = record m { pc = m.pc + 1; words = put m.words (m.base + d) ws }

-- ---- ticks

-- An event that takes a tick is counted before its effect. Where no tick is left the run ends before the event.
abbrev pub ticked_by : ℕ → Event → Machine → (Machine → Run) → Run
ticked_by zero event m go = ended Bound m
ticked_by (suc n) event m go = go (record m { left = n; events = m.events ++ event ∷ [] })

abbrev pub ticked : Event → Machine → (Machine → Run) → Run
ticked event m go = ticked_by m.left event m go

-- ---- calls

-- one more open call of this weight passes a limit
abbrev pub is_too_deep : Limits → Nest → ℕ → Bool
is_too_deep limits nest weight = nat_le limits.depth nest.depth || nat_lt limits.stack (nest.weight + weight)

abbrev pub within : Nest → ℕ → Nest
within nest weight = record { depth = nest.depth + 1; weight = nest.weight + weight }

-- a new frame of zeros, whose first words are the arguments
abbrev pub entered : Function → ℕ → ℕ → Machine → Machine
entered f a d m = record m {
  pc = f.first;
  words = m.words ++ (words_in m a f.params ++ replicate (f.weight - f.params) 0);
  base = length m.words;
  callers = record { pc = m.pc + 1; base = m.base; slot = d; nest = m.nest } ∷ m.callers;
  nest = within m.nest f.weight;
}

-- The function is entered, which is an event of one tick, and then the limits are looked at.
abbrev pub calls : Limits → Place → Function → ℕ → ℕ → Machine → Run
calls limits place f a d m = ticked (Enter f.place) m (λ m.
    if is_too_deep limits m.nest f.weight then ended (Trapped Depth place) m else On (entered f a d m))

-- the last frame is dropped, and its result put into the caller's; the first frame's result ends the run
abbrev pub back_to : List Caller → List ℕ → Machine → Run
back_to [] ws m = ended (Returned ws m.blocks) m
back_to (c ∷ callers) ws m = On (record m {
  pc = c.pc;
  words = put (take m.base m.words) (c.base + c.slot) ws;
  base = c.base;
  callers = callers;
  nest = c.nest;
})

-- ---- blocks

-- so many cells are taken, unless that passes the limit
abbrev pub takes : Limits → Place → ℕ → Machine → (Machine → Run) → Run
takes limits place n m go =
    if nat_lt limits.cells (m.cells + n) then ended (Trapped Heap place) m else go (record m { cells = m.cells + n })

abbrev pub changes : ℕ → ℕ → List ℕ → Machine → Machine
changes zero start ws m = record m { pc = m.pc + 1; words = put m.words start ws }
changes (suc b) start ws m = record m { pc = m.pc + 1; blocks = changed (written start ws) b m.blocks }

abbrev pub with_block : List ℕ → Bool → Machine → Machine
with_block ws growable m = record m { blocks = m.blocks ++ record { words = ws; growable = growable } ∷ [] }

abbrev pub with_longer : ℕ → List ℕ → Machine → Machine
with_longer zero ws m = m
with_longer (suc b) ws m = record m { blocks = changed (lengthened ws) b m.blocks }

-- ---- each effect

abbrev pub perform : Limits → Place → Effect → Machine → Run
perform limits place (Writes d ws) m = On (with_words d ws m)
perform limits place (Goes t) m = On (record m { pc = t })
perform limits place Turns m = ticked (Turn place) m (λ m. On (record m { pc = m.pc + 1 }))
perform limits place (Calls f a d) m = calls limits place f a d m
perform limits place (Returns ws) m = back_to m.callers ws m
perform limits place (Changes block start ws) m = On (changes block start ws m)
perform limits place (Makes d rest ws growable) m = takes limits place (length ws) m (λ m. On (with_block ws growable (with_words d (suc (length m.blocks) ∷ rest) m)))
perform limits place (Lengthens d rest block ws) m = takes limits place (length ws) m (λ m. On (with_longer block ws (with_words d rest m)))
perform limits place (Prints bytes) m = On (record m { pc = m.pc + 1; pending = m.pending ++ bytes })
perform limits place Flushes m = On (record m { pc = m.pc + 1; pending = []; events = m.events ++ Print m.pending ∷ [] })
perform limits place (Traps trap) m = ended (Trapped trap place) m
perform limits place Sticks m = ended Stuck m

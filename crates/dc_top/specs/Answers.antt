-- What a call of the compiler answers, and what its sinks take.
use Rattle.std.specs.Prelude.{◌≡◌, ℕ, List, [], ◌∷◌, Option, Some, None, Result, Ok, Err, ◌⊎◌}
use Rattle.std.specs.Io.KnownBytes.{Appends, Keeps}
use Rattle.dc_types.specs.declared.refusal.Refusal.{Refusal}
use Rattle.dc_types.specs.declared.status.Status.{Status}
use Rattle.dc_types.specs.declared.status.Status.TheVariants as status
use Rattle.dc_types.specs.declared.status.NoMemory.{NoMemory}
use Rattle.dc_edge.specs.Causes.{Rose}
use Rattle.dc_edge.specs.Library.{FileMap, Lacks, MayHold}
use Rattle.dc_edge.specs.Sink.{AppendsFront}
use Rattle.dc_top.specs.Words.{Job}
use Rattle.dc_top.specs.Front.{IsProgramOf, IsRefusedBy}
use Rattle.dc_top.specs.Outcomes.{IsTypedProgram, ending_of, output_of, BreaksAtPut}
use Rattle.dc_top.specs.Reports.{usage_line, read_fault_line, refused_line}
use Rattle.dc_top.specs.Told.{told_as}
use Rattle.dc_top.specs.declared.told.Told.{Told}
use Rattle.dc_top.specs.declared.program.Run.{Run}
use Rattle.dc_top.specs.declared.program.Ending.{Ending}
use Rattle.dc_top.specs.declared.top.Plan.{Plan}
use Rattle.dc_top.specs.declared.top.Plan.TheVariants as plan

-- A job is the file that is to be run and its ticks, if the words are one. The files may be told.

-- ---- what the job's text is

-- The job's file has this program, and the run has the job's ticks: some text has the program, and where files are told
-- that is the file's.
pub record IsRun (job : Option Job) (told : Option FileMap) (run : Run) : Type 0 where
  pub file : List ℕ
  pub of_job : job ≡ Some (record { file = file; ticks = run.ticks })
  pub read : MayHold told file run.text
  pub program : IsProgramOf file run.text run.program

-- The job's file is refused: some text is, and where files are told that is the file's. This is the line that says so.
pub record IsRefused (job : Option Job) (told : Option FileMap) (line : List ℕ) : Type 0 where
  pub file : List ℕ
  pub ticks : ℕ
  pub text : List ℕ
  pub refusal : Refusal
  pub of_job : job ≡ Some (record { file = file; ticks = ticks })
  pub read : MayHold told file text
  pub refused : IsRefusedBy file text refusal
  pub line_is : line ≡ refused_line (text ∷ []) refusal

-- the words are no job, and this is the line that says so
pub record IsUsage (job : Option Job) (line : List ℕ) : Type 0 where
  pub no_job : job ≡ None
  pub line_is : line ≡ usage_line

-- the files are told, and the job's isn't there
pub record LacksFile (job : Option Job) (told : Option FileMap) : Type 0 where
  pub file : List ℕ
  pub ticks : ℕ
  pub of_job : job ≡ Some (record { file = file; ticks = ticks })
  pub lacks : Lacks told file

-- The job's file could not be read: the count of faults rose, or the files are told and it isn't there. This is the line
-- that says so.
pub record IsReadFault (job : Option Job) (told : Option FileMap) (before now : ℕ) (line : List ℕ) : Type 0 where
  pub file : List ℕ
  pub ticks : ℕ
  pub of_job : job ≡ Some (record { file = file; ticks = ticks })
  pub cause : Rose before now ⊎ LacksFile job told
  pub line_is : line ≡ read_fault_line file

-- ---- a run

-- The run ends under this status: `out` took all that the program prints, and `report` the line that tells the end.
pub record EndsUnder (run : Run) (result : Status) (out out' report report' : Option (List ℕ)) : Type 0 where
  pub ending : Ending
  pub ended : ending_of run.program run.ticks ≡ Some ending
  pub under : result ≡ (told_as run.text run.ticks ending).status
  pub printed : Appends out out' (output_of run.program run.ticks)
  pub reported : Appends report report' (told_as run.text run.ticks ending).line

-- `out` took all that the program prints, and `report` a front of the line that tells the end.
pub record CutsOffLine (run : Run) (out out' report report' : Option (List ℕ)) : Type 0 where
  pub ending : Ending
  pub ended : ending_of run.program run.ticks ≡ Some ending
  pub printed : Appends out out' (output_of run.program run.ticks)
  pub reported : AppendsFront report report' (told_as run.text run.ticks ending).line

-- The line that is told was put, or the status says that it wasn't: after a failed put `report` took a front of it, and
-- after want of memory nothing.
abbrev pub Tells : Told → Option (List ℕ) → Option (List ℕ) → Status → Type 0
Tells told old new result =
    ((result ≡ told.status) × Appends old new told.line)
    ⊎ (((result ≡ status.WriteFault) × AppendsFront old new told.line) ⊎ ((result ≡ status.NoMemory) × Keeps old new))

-- What stands of the sinks under each status of a run. A put that failed was one of the program's, and then `report` takes
-- nothing, or that of the line. After want of memory `out` took a front of what the program prints.
abbrev pub Follows : Run → Status → Option (List ℕ) → Option (List ℕ) → Option (List ℕ) → Option (List ℕ) → Type 0
Follows run status.Done out out' report report' = EndsUnder run status.Done out out' report report'
Follows run status.Trapped out out' report report' = EndsUnder run status.Trapped out out' report report'
Follows run status.Bound out out' report report' = EndsUnder run status.Bound out out' report report'
Follows run status.EndedWith out out' report report' = EndsUnder run status.EndedWith out out' report report'
Follows run status.WriteFault out out' report report' =
    (BreaksAtPut run.program run.ticks out out' × Keeps report report') ⊎ CutsOffLine run out out' report report'
Follows run status.NoMemory out out' report report' = AppendsFront out out' (output_of run.program run.ticks) × Keeps report report'
Follows run status.Usage out out' report report' = ⊥
Follows run status.Refused out out' report report' = ⊥
Follows run status.ReadFault out out' report report' = ⊥

-- the job's file has a program whose run comes to this
pub record RanTo (job : Option Job) (told : Option FileMap) (result : Status) (out out' report report' : Option (List ℕ)) : Type 0 where
  pub run : Run
  pub is : IsRun job told run
  pub follows : Follows run result out out' report report'

-- ---- a line alone

-- `report` takes the one line that is due
pub record Reports (IsLine : List ℕ → Type 0) (old new : Option (List ℕ)) : Type 0 where
  pub line : List ℕ
  pub due : IsLine line
  pub took : Appends old new line

-- `report` takes a front of the one line that is due
pub record ReportsFront (job : Option Job) (told : Option FileMap) (before now : ℕ) (old new : Option (List ℕ)) : Type 0 where
  pub line : List ℕ
  pub due : IsUsage job line ⊎ (IsReadFault job told before now line ⊎ IsRefused job told line)
  pub took : AppendsFront old new line

-- What stands of the sinks under each status where this is the line of a refusal.
abbrev pub Refuses : List ℕ → Status → Option (List ℕ) → Option (List ℕ) → Option (List ℕ) → Option (List ℕ) → Type 0
Refuses line status.Refused out out' report report' = Keeps out out' × Appends report report' line
Refuses line status.WriteFault out out' report report' = Keeps out out' × AppendsFront report report' line
Refuses line status.NoMemory out out' report report' = Keeps out out' × Keeps report report'
Refuses line status.Done out out' report report' = ⊥
Refuses line status.Trapped out out' report report' = ⊥
Refuses line status.Bound out out' report report' = ⊥
Refuses line status.EndedWith out out' report report' = ⊥
Refuses line status.Usage out out' report report' = ⊥
Refuses line status.ReadFault out out' report report' = ⊥

-- ---- the whole call

-- what stands of the job, of `out` and of `report` under each status, where the library's count of faults was `before` and
-- is `now`
abbrev pub Answers : Option Job → Option FileMap → ℕ → ℕ → Status → Option (List ℕ) → Option (List ℕ) → Option (List ℕ) → Option (List ℕ) → Type 0
Answers job told before now status.Done out out' report report' = RanTo job told status.Done out out' report report'
Answers job told before now status.Trapped out out' report report' = RanTo job told status.Trapped out out' report report'
Answers job told before now status.Bound out out' report report' = RanTo job told status.Bound out out' report report'
Answers job told before now status.EndedWith out out' report report' = RanTo job told status.EndedWith out out' report report'
Answers job told before now status.Usage out out' report report' = Keeps out out' × Reports (IsUsage job) report report'
Answers job told before now status.Refused out out' report report' = Keeps out out' × Reports (IsRefused job told) report report'
Answers job told before now status.ReadFault out out' report report' = Keeps out out' × Reports (IsReadFault job told before now) report report'
Answers job told before now status.WriteFault out out' report report' =
    RanTo job told status.WriteFault out out' report report' ⊎ (Keeps out out' × ReportsFront job told before now report report')
Answers job told before now status.NoMemory out out' report report' =
    RanTo job told status.NoMemory out out' report report' ⊎ (Keeps out out' × Keeps report report')

-- what is decided before anything is written: the job, the files that are told, and the count of faults before and now
abbrev pub Decides : Option Job → Option FileMap → ℕ → ℕ → Result Plan NoMemory → Type 0
Decides job told before now (Ok plan.Usage) = (job ≡ None) × (now ≡ before)
Decides job told before now (Ok (plan.ReadFault line)) = IsReadFault job told before now line
Decides job told before now (Ok (plan.Refused line)) = IsRefused job told line × (now ≡ before)
Decides job told before now (Ok (plan.Run run)) = IsRun job told run × IsTypedProgram run.program × (now ≡ before)
Decides job told before now (Err nothing) = Unit {0}

-- the result is this one, unless a put failed or memory was wanted
abbrev pub IsOrFails : Status → Status → Type 0
IsOrFails wanted result = (result ≡ wanted) ⊎ ((result ≡ status.WriteFault) ⊎ (result ≡ status.NoMemory))

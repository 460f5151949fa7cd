-- Sound code: what the machine relies on.
use Rattle.std.specs.Prelude.{◌≡◌, ℕ, ◌+◌, ◌-◌, ◌^◌, ◌<◌, ◌≤◌, List, length, Option, Some, None, slice_get}
use Rattle.std.specs.List.{All}
use Rattle.dc_types.specs.declared.place.Step.{Step}
use Rattle.dc_types.specs.declared.place.Step.TheVariants.{At, Round, With}
use Rattle.dc_types.specs.declared.place.Place.{Place}
use Rattle.dc_code.specs.Slots.{NumberSlots, AddressSlots, BlockSlots}
use Rattle.dc_code.specs.declared.instr.Op.{Op}
use Rattle.dc_code.specs.declared.instr.Op.TheVariants as op
use Rattle.dc_code.specs.declared.instr.Instr.{Instr}
use Rattle.dc_code.specs.declared.instr.Function.{Function}
use Rattle.dc_code.specs.declared.code.Draft.{Draft}

abbrev pub IfThere : {X : Type 0} → Option X → (X → Type 0) → Type 0
IfThere None P = Unit {0}
IfThere (Some x) P = P x

abbrev pub IsThere : {X : Type 0} → Option X → (X → Type 0) → Type 0
IsThere None P = ⊥
IsThere (Some x) P = P x

-- ---- lists that a number of 32 bits counts

abbrev pub IsShort : {X : Type 0} → List X → Type 0
IsShort xs = length xs < 2 ^ 32

abbrev pub IsShortStep : Step → Type 0
IsShortStep (At offset) = Unit {0}
IsShortStep (Round number) = Unit {0}
IsShortStep (With key) = IsShort key

pub record IsShortPlace (place : Place) : Type 0 where
  pub module_name : IsShort place.module
  pub steps : IsShort place.steps
  pub keys : All IsShortStep place.steps

pub record IsShortCode (code : Draft) : Type 0 where
  pub functions : IsShort code.functions
  pub instrs : IsShort code.instrs
  pub blocks : IsShort code.blocks
  pub globals : IsShort code.globals
  pub entries : IsShort code.entries
  pub data_words : All IsShort code.blocks
  pub global_words : All IsShort code.globals
  pub function_places : All (λ f. IsShortPlace f.place) code.functions
  pub instr_places : All (λ i. IsShortPlace i.place) code.instrs

-- ---- a function

abbrev pub IsTurn : Op → Type 0
IsTurn op.Turn = Unit {0}
IsTurn _ = ⊥

-- A jump stays in its function, which goes from `first` to `end`, and one that does not lead forward leads to a turn.
pub record JumpFits (instrs : List Instr) (first end pc t : ℕ) : Type 0 where
  pub from_first : first ≤ t
  pub to_end : t < end
  pub back : t ≤ pc → IsThere (slice_get instrs t) (λ i. IsTurn i.op)

abbrev pub JumpsFit : List Instr → ℕ → ℕ → ℕ → Op → Type 0
JumpsFit instrs first end pc (op.Jump t) = JumpFits instrs first end pc t
JumpsFit instrs first end pc (op.JumpZero s t) = JumpFits instrs first end pc t
JumpsFit instrs first end pc (op.JumpOther s t) = JumpFits instrs first end pc t
JumpsFit instrs first end pc _ = Unit {0}

-- A called function's parameters and result fit its weight and the caller's slots.
pub record CalleeFits (weight a d : ℕ) (f : Function) : Type 0 where
  pub params : f.params ≤ f.weight
  pub result : f.result ≤ f.weight
  pub params_here : a + f.params ≤ weight
  pub result_here : d + f.result ≤ weight

abbrev pub CallsFit : List Function → ℕ → Op → Type 0
CallsFit functions weight (op.Call f a d) = IsThere (slice_get functions f) (CalleeFits weight a d)
CallsFit functions weight _ = Unit {0}

-- A return gives as many words as its function.
abbrev pub ReturnsFit : ℕ → Op → Type 0
ReturnsFit result (op.Return s n) = n ≡ result
ReturnsFit result _ = Unit {0}

-- Data and module variables that are named exist, and data of an element's start words have as many as its cells.
abbrev pub NamesFit : Draft → Op → Type 0
NamesFit code (op.GlobalAt d g) = g < length code.globals
NamesFit code (op.Data d g) = g < length code.blocks
NamesFit code (op.Make d s e c g) = IsThere (slice_get code.blocks e) (λ words. length words ≡ c)
NamesFit code (op.PutData g) = g < length code.blocks
NamesFit code _ = Unit {0}

-- an instruction of the function f, which ends before `end`
pub record InstrFits (code : Draft) (f : Function) (end pc : ℕ) (op : Op) : Type 0 where
  pub jumps : JumpsFit code.instrs f.first end pc op
  pub numbers : NumberSlots f.weight op
  pub addresses : AddressSlots f.weight op
  pub blocks : BlockSlots f.weight op
  pub calls : CallsFit code.functions f.weight op
  pub returns : ReturnsFit f.result op
  pub names : NamesFit code op

-- what a function's last instruction is
abbrev pub IsLast : Op → Type 0
IsLast (op.Jump t) = Unit {0}
IsLast (op.Return s n) = Unit {0}
IsLast _ = ⊥

pub record FunctionFits (code : Draft) (f : Function) (end : ℕ) : Type 0 where
  pub rises : f.first < end
  pub ends : end ≤ length code.instrs
  pub weight : f.weight ≤ 4194304
  pub last : IsThere (slice_get code.instrs (end - 1)) (λ i. IsLast i.op)
  pub each : (pc : ℕ) (i : Instr) → f.first ≤ pc → pc < end → slice_get code.instrs pc ≡ Some i → InstrFits code f end pc i.op

-- where the function before this one ends
abbrev pub first_of : Option Function → ℕ → ℕ
first_of None all = all
first_of (Some f) all = f.first

abbrev pub end_of : Draft → ℕ → ℕ
end_of code n = first_of (slice_get code.functions (n + 1)) (length code.instrs)

-- ---- the whole

pub record IsSound (code : Draft) : Type 0 where
  pub short : IsShortCode code
  pub begins : first_of (slice_get code.functions 0) (length code.instrs) ≡ 0
  pub functions : (n : ℕ) (f : Function) → slice_get code.functions n ≡ Some f → FunctionFits code f (end_of code n)
  pub entries : All (λ n. IsThere (slice_get code.functions n) (λ f. f.params ≡ 0)) code.entries

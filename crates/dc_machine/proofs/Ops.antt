-- What an instruction leads to, by what it is.
use Rattle.std.proofs.Common.{◌≡◌, sym, subst}
use Rattle.std.specs.Prelude.{Result, Ok, Err, IfOk}
use Rattle.dc_types.specs.declared.event.Limits.{Limits}
use Rattle.dc_code.specs.declared.code.Draft.{Draft}
use Rattle.dc_code.specs.declared.instr.Op.{Op}
use Rattle.dc_machine.specs.declared.state.State.{State}
use Rattle.dc_machine.specs.declared.state.Next.{Next}
use Rattle.dc_machine.specs.After.{Leads, Does}

pub leads_as : (code : Draft) (limits : Limits) (o p : Op) (m : State) (next : Next) (new : State) → o ≡ p → Does p m next new → Leads code limits o m next new
leads_as code limits o p m next new e d = subst (λ o. Leads code limits o m next new) (sym e) (d code limits)

pub ok_leads_as : {E : Type 0} (code : Draft) (limits : Limits) (o p : Op) (m : State) (r : Result Next E) (new : State) → o ≡ p → IfOk r (λ next. Does p m next new) → IfOk r (λ next. Leads code limits o m next new)
ok_leads_as code limits o p m (Ok next) new e d = leads_as code limits o p m next new e d
ok_leads_as code limits o p m (Err error) new e d = tt

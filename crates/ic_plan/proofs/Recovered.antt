-- Programs and events that texts say are those of which the recovery theorem speaks.
use Rattle.std.proofs.Common.{List, ℕ}
use Rattle.std.specs.List.{AllByRecursion}
use Rattle.std.specs.Prelude.{Contains}
use Rattle.std.proofs.lemmas.List.Elements.{All-weaker, All-contains_itself, recursion_from_All}
use Rattle.ic_base.specs.declared.events.Event.{Event}
use Rattle.ic_base.specs.declared.events.Schedule.{Schedule}
use Rattle.ic_base.specs.declared.scenario.Program.{Program}
use Rattle.def_facts.specs.Flat.{HasFlatParts}
use Rattle.def_facts.specs.Playable.{IsPlayable}
use Rattle.def_syntax.specs.Scenario.{IsScenario}
use Rattle.ic_syntax.specs.Limits.{IsWithin}
use Rattle.law_run.proofs.ScenarioBytes.{scenarios_have_bytes}
use Rattle.law_syntax.specs.Events.{IsEvent}
use Rattle.law_syntax.proofs.Events.{schedules_have_events, client_schedules_have_events}
use Rattle.ic_plan.specs.Accepted.{IsAccepted}
use Rattle.ic_plan.specs.Asking.{SaysSchedule}
use Rattle.ic_plan.specs.Verbs.{forms_for}
use Rattle.ic_plan.specs.declared.verb.Inputs.{Inputs}
use Rattle.ic_plan.specs.declared.verb.Inputs.TheVariants.{Plain, Numbered}
use Rattle.ic_plan.proofs.Small.{is_small}

pub is_accepted : (text : List ℕ) (p : Program) → IsScenario text p → IsWithin p → IsPlayable p → HasFlatParts p → IsAccepted p
is_accepted text p is within playable flat = record { small = is_small p within; fit = record { playable = playable; flat = flat; bytes = scenarios_have_bytes text p is } }

-- each event of a schedule with these inputs may come
have_events : (inputs : Inputs) (p : Program) (s : Schedule) (text : List ℕ) → SaysSchedule (forms_for inputs) p s text → (e : Event) → Contains s.events e → IsEvent p e
have_events Plain p s text says = schedules_have_events p text s.events s.halts says
have_events Numbered p s text says = client_schedules_have_events p text s.events s.halts says

pub each_event : (inputs : Inputs) (p : Program) (s : Schedule) (text : List ℕ) → SaysSchedule (forms_for inputs) p s text → AllByRecursion (IsEvent p) s.events
each_event inputs p s text says =
    recursion_from_All (IsEvent p) s.events (All-weaker (Contains s.events) (IsEvent p) (have_events inputs p s text says) s.events (All-contains_itself s.events))

-- What a written event comes to, as the definitions name it.
use Rattle.std.specs.Prelude.{◌≡◌, List, [], ◌∷◌, Bool, Option, Some, None, option_to_list, Result, Ok, Err}
use Rattle.ic_base.specs.declared.refusals.Cause.{Cause}
use Rattle.ic_base.specs.declared.refusals.Cause.TheVariants.{Unknown}
use Rattle.ic_base.specs.declared.refusals.Cause.TheVariants as causes
use Rattle.ic_base.specs.declared.events.Event.{Event}
use Rattle.ic_tokens.specs.declared.scan.LineRefused.{LineRefused}
use Rattle.ic_tokens.specs.declared.scan.LineRefused.TheVariants as lines

-- what is looked for is found, or unknown
abbrev pub Finds : {X : Type 0} → Option X → Result X Cause → Type 0
Finds found (Ok x) = found ≡ Some x
Finds found (Err cause) = (found ≡ None) × (cause ≡ Unknown)

-- a line is refused for this; want of memory says nothing of it
abbrev pub RefusedBy : {X : Type 0} → Result X Cause → Cause → Type 0
RefusedBy given causes.Memory = Unit {0}
RefusedBy given cause = given ≡ Err cause

-- an event is given, or none
abbrev pub EventGiven : Result (List Event) Cause → Result Event Cause → Type 0
EventGiven given (Ok e) = given ≡ Ok (e ∷ [])
EventGiven given (Err cause) = RefusedBy given cause

abbrev pub EventsGiven : Result (List Event) Cause → Result (Option Event) Cause → Type 0
EventsGiven given (Ok o) = given ≡ Ok (option_to_list o)
EventsGiven given (Err cause) = RefusedBy given cause

-- a line gives this
abbrev pub LineGives : {X : Type 0} → Result (List X × Bool) Cause → Result (Option X × Bool) Cause → Type 0
LineGives given (Ok x) = given ≡ Ok (option_to_list x.0, x.1)
LineGives given (Err cause) = RefusedBy given cause

-- the cause of a line without tokens
abbrev pub StandsFor : LineRefused → Cause → Type 0
StandsFor lines.NotText cause = cause ≡ causes.NotText
StandsFor lines.Word cause = cause ≡ causes.Word
StandsFor lines.Memory cause = cause ≡ causes.Memory

-- What stands behind each verb.
use Rattle.std.specs.Prelude.{List, Option}
use Rattle.def_syntax.specs.Text.{Token}
use Rattle.def_syntax.specs.Schedule.{EventLine, Forms, forms, client_forms, ForceOf, CheckpointOf, ResendOf, EmitOf, CrashOf, RecoverOf, input_of, request_of, deliver_of, packet_of, lose_of, at_one, alone, halt_of}
use Rattle.ic_plan.specs.declared.verb.Inputs.{Inputs}
use Rattle.ic_plan.specs.declared.verb.Inputs.TheVariants.{Plain, Numbered}
use Rattle.ic_plan.specs.declared.verb.Verb.{Verb}
use Rattle.ic_plan.specs.declared.verb.Verb.TheVariants.{Input, Request, Deliver, Packet, Lose, Force, Checkpoint, Resend, Emit, Crash, Recover, Halt}

abbrev pub form_of : Verb → List Token → Option EventLine
form_of Input = input_of
form_of Request = request_of
form_of Deliver = deliver_of
form_of Packet = packet_of
form_of Lose = lose_of
form_of Force = at_one ForceOf
form_of Checkpoint = at_one CheckpointOf
form_of Resend = alone ResendOf
form_of Emit = alone EmitOf
form_of Crash = alone CrashOf
form_of Recover = at_one RecoverOf
form_of Halt = halt_of

-- the forms of a schedule with these inputs
abbrev pub forms_for : Inputs → Forms
forms_for Plain = forms
forms_for Numbered = client_forms

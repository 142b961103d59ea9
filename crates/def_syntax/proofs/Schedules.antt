-- The definitions on whole schedules, accepted and refused.
use Rattle.std.specs.Prelude.{◌≡◌, pos, negsuc, [], ◌∷◌, true, false, Some, None, Ok, Err, codes, refl}
use Rattle.ic_base.specs.declared.messages.ComId.{ComId}
use Rattle.ic_base.specs.declared.messages.Kind.TheVariants.{Pcom}
use Rattle.ic_base.specs.declared.scenario.Body.{Body}
use Rattle.ic_base.specs.declared.scenario.Program.{Program}
use Rattle.ic_base.specs.declared.events.Fill.TheVariants.{Old, Byte}
use Rattle.ic_base.specs.declared.events.What.TheVariants as whats
use Rattle.ic_base.specs.declared.refusals.Cause.TheVariants.{Structure, Unknown, Arity}
use Rattle.def_syntax.specs.Text.{lines_of, pieces, token_with}
use Rattle.def_syntax.specs.Schedule.{schedule_of, clients_of, schedule_in, all_events, line_events, event_of, entry_of}

-- one Pcom with one handler of one parameter, whatever its body
abbrev pub tally : Body → Program
tally body = record { components = record { name = codes "tally"; kind = Pcom; immediate = false; vars = (codes "total", pos 0) ∷ []; keys = []; handlers = record { name = codes "add"; params = 1; body = body } ∷ [] } ∷ [] }

abbrev pub it : ComId
it = record { 0 = 0 }

pub around_a_crash : (body : Body) → schedule_of (tally body) (codes "input tally add 5\ncrash tally # now\n\nrecover tally stop 2 1\ninput tally add -7 stop 3 0 255\nhalt\n")
    ≡ Ok (
      record { what = whats.Input it 0 (pos 5 ∷ []); stop = None } ∷ record { what = whats.Crash it; stop = None } ∷ record { what = whats.Recover it; stop = Some (record { call = 2; keep = 1; fill = Old }) }
          ∷ record { what = whats.Input it 0 (negsuc 6 ∷ []); stop = Some (record { call = 3; keep = 0; fill = Byte 255 }) } ∷ [],
      true,
    )
unfolding schedule_in all_events line_events event_of entry_of token_with pieces lines_of
around_a_crash body = refl

pub no_value : (body : Body) → schedule_of (tally body) (codes "input tally add") ≡ Err (1, Arity)
unfolding schedule_in all_events line_events event_of entry_of token_with pieces lines_of
no_value body = refl

pub no_component : (body : Body) → schedule_of (tally body) (codes "crash tally\nforce stop\n") ≡ Err (2, Unknown)
unfolding schedule_in all_events line_events event_of entry_of token_with pieces lines_of
no_component body = refl

pub behind_halt : (body : Body) → schedule_of (tally body) (codes "halt\ncrash nobody\n") ≡ Err (2, Structure)
unfolding schedule_in all_events line_events event_of entry_of token_with pieces lines_of
behind_halt body = refl

pub call_too_great : (body : Body) → schedule_of (tally body) (codes "force tally stop 17") ≡ Err (1, Structure)
unfolding schedule_in all_events line_events event_of entry_of token_with pieces lines_of
call_too_great body = refl

pub fixed_word : (body : Body) → schedule_of (tally body) (codes "crash end") ≡ Err (1, Unknown)
unfolding schedule_in all_events line_events event_of entry_of token_with pieces lines_of
fixed_word body = refl

-- a handler of a request's two numbers and a value
abbrev pub till : Body → Program
till body = record { components = record { name = codes "till"; kind = Pcom; immediate = false; vars = []; keys = []; handlers = record { name = codes "pay"; params = 3; body = body } ∷ [] } ∷ [] }

pub a_request : (body : Body) → clients_of (till body) (codes "client 1 2 till pay 5 stop 4 1\nemit till\n")
    ≡ Ok (record { what = whats.Input it 0 (pos 1 ∷ pos 2 ∷ pos 5 ∷ []); stop = Some (record { call = 4; keep = 1; fill = Old }) } ∷ record { what = whats.Emit it; stop = None } ∷ [], false)
unfolding schedule_in all_events line_events event_of entry_of token_with pieces lines_of
a_request body = refl

pub a_negative_number : (body : Body) → clients_of (till body) (codes "client 1 -2 till pay 5") ≡ Err (1, Structure)
unfolding schedule_in all_events line_events event_of entry_of token_with pieces lines_of
a_negative_number body = refl

pub no_numbers : (body : Body) → clients_of (till body) (codes "client 1 2 till\n") ≡ Err (1, Structure)
unfolding schedule_in all_events line_events event_of entry_of token_with pieces lines_of
no_numbers body = refl

pub an_input_beside_clients : (body : Body) → clients_of (till body) (codes "\ninput till pay 1 2 5") ≡ Err (2, Structure)
unfolding schedule_in all_events line_events event_of entry_of token_with pieces lines_of
an_input_beside_clients body = refl

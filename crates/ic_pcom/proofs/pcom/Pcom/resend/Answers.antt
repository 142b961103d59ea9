use Rattle.std.proofs.Common.{◌≡◌, ◌∙◌, sym, ap, refl, Bool, true, false, cond, List, [], Some}
use Rattle.std.specs.Prelude.{not, ◌&&◌, ◌||◌, map, option_to_list}
use Rattle.std.proofs.Math.Seq.{drop-length}
use Rattle.ic_base.specs.declared.messages.Packet.{Packet}
use Rattle.ic_base.specs.declared.scenario.Program.{Program}
use Rattle.def_state.specs.Vol.{numbers_fit}
use Rattle.def_step.specs.Pcom as step
use Rattle.def_step.specs.Pcom.{Resends, Effects, StepResult, told, nothing_at_all, carry_out, decide, is_full, pcom_step, all_owed, needed, needed_fetch, fetch_packet}
use Rattle.def_step.specs.Room.{has_no_room}
use Rattle.ic_ckpt.specs.Views.{seen}
use Rattle.ic_pcom.specs.Effects.{effects_of}
use Rattle.ic_gate.specs.RecordCalls.{size_with}
use Rattle.ic_gate.specs.RecordLogs.{records_of}
use Rattle.ic_pcom.specs.Carrying.{up}
use Rattle.ic_pcom.specs.Stages.{vol_of, rest_of, is_up}
use Rattle.ic_pcom.specs.Stepping.{forced_by}
use Rattle.ic_pcom.specs.Views.{component_of, size_of, told_of}
use Rattle.ic_pcom.proofs.Steps.{quiet_is}
use Rattle.ic_pcom.specs.declared.stage.Stage.{Stage}
use Rattle.ic_pcom.proofs.pcom.Pcom.resend.Goals as goal

pub returns-in_ok-decided-in-Up : goal.returns-in_ok-decided-in-Up
returns-in_ok-decided-in-Up g c =
    let p = c.args.self.now in
    let v = seen c.in-Up.state in
    let l = records_of p.log in
    let e = effects_of c.in_ok-decided-in-Up.decided in
    let here : component_of p ≡ up l v = ap (λ (st : Stage). record { log = l; vol = vol_of st; rest = rest_of st }) c.in-Up.is in
    let d : Effects = record nothing_at_all { answers = all_owed p.«com» (up l v) } in
    let same : e ≡ d = c.in_ok-decided-in-Up.ensures l [] (sym c.forced_end.ensures) in
    let makes : (program : Program) → pcom_step program p.«com» (component_of p) Resends ≡ Some (told (up l v) d.answers d) = λ program.
    ap (λ (q : step.Pcom). pcom_step program p.«com» q Resends) here ∙ ap (λ (t : StepResult). Some t) (quiet_is p.«com» l v d.answers) in
    let tell : Effects → StepResult = λ x. record { pcom = up l v; puts = x.answers; word = x.word; shown = x.shown; aborted = x.aborted } in
    record {
      step = λ program. record {
        result = told (up l v) d.answers d;
        step = makes program;
        leads = here;
        tells = c.told.ensures (up l v) ∙ ap (λ (xs : List Packet). told_of (record { pcom = up l v; puts = xs; word = e.word; shown = e.shown; aborted = e.aborted })) c.into_vec-puts.ensures ∙ ap (λ (x : Effects). told_of (tell x)) same;
        room = ap (λ (q : step.Pcom). is_full program p.«com» (size_of p) q Resends) here;
        size = ap (size_with (size_of p)) (sym (ap (forced_by (component_of p)) (makes program) ∙ drop-length l.forced));
        played = refl;
        is_open = c.requires.open;
      };
    }

pub returns-in_ok-puts-in-Replays : goal.returns-in_ok-puts-in-Replays
returns-in_ok-puts-in-Replays g c =
    let p = c.args.self.now in
    let q = component_of p in
    let puts = needed_fetch p.«com» q.rest in
    let replays : step.is_replaying q ≡ true = ap not (sym p.rests ∙ ap is_up c.in-Replays.is) in
    let makes : (program : Program) → pcom_step program p.«com» q Resends ≡ Some (told q puts nothing_at_all) = λ program.
    ap (λ (b : Bool). cond b (Some (told q puts nothing_at_all)) (Some (carry_out program p.«com» q (decide program p.«com» q Resends)))) replays in
    let fetched : c.in_ok-puts-in-Replays.puts.items ≡ puts =
    c.in_ok-puts-in-Replays.ensures ∙ ap (λ o. map (fetch_packet p.«com») (option_to_list o)) (c.needs.ensures ∙ ap (λ (st : Stage). needed (rest_of st)) (sym c.in-Replays.is)) in
    record {
      step = λ program. record {
        result = told q puts nothing_at_all;
        step = makes program;
        leads = refl;
        tells = c.told-in-Replays.ensures q ∙ ap (λ (xs : List Packet). told_of (told q xs nothing_at_all)) fetched;
        room = ap (λ (b : Bool). not b && false && (has_no_room (size_of p) q.log.buffered || not (numbers_fit q.vol))) replays;
        size = ap (size_with (size_of p)) (sym (ap (forced_by q) (makes program) ∙ drop-length q.log.forced));
        played = refl;
        is_open = c.requires.open;
      };
    }

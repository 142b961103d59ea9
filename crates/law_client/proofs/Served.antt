-- A run with clients that begins anew and doesn't halt ends as the crash-free world, and serves its clients.
use Rattle.std.proofs.Common.{◌≡◌, ◌∙◌, refl, ap, subst, ℕ, zero, suc, ◌+◌, false, List, [], ◌∷◌, ◌++◌}
use Rattle.std.specs.Prelude.{slice_get, map, filter_map, unwrap_or}
use Rattle.ic_base.specs.declared.messages.ComId.{ComId}
use Rattle.ic_base.specs.declared.messages.Kind.{Kind}
use Rattle.ic_base.specs.declared.messages.Kind.TheVariants as kinds
use Rattle.ic_base.specs.declared.scenario.Component.{Component}
use Rattle.ic_base.specs.declared.scenario.Program.{Program}
use Rattle.def_step.specs.World.{first_node, first_nodes, first_world}
use Rattle.def_facts.specs.Logs.{log_at}
use Rattle.def_facts.specs.World.{forced_logs, forced_of}
use Rattle.def_run.specs.CrashFree.{input_in}
use Rattle.def_run.specs.Executions.{whole_agenda}
use Rattle.def_run.specs.SystemStates.{last_state}
use Rattle.def_rounds.specs.Rounds.{Told, AreRounds, state_after}
use Rattle.def_client.specs.declared.asked.Asked.TheVariants.{Again}
use Rattle.def_client.specs.Clients.{clients}
use Rattle.law_replay.proofs.Lists.{empty}
use Rattle.law_run.proofs.Along.{at-the-end}
use Rattle.law_run.proofs.Complete.{complete_runs_end, executions_stand}
use Rattle.law_run.proofs.Starts.{starts_are_explained}
use Rattle.law_run.specs.Executions.{here_along}
use Rattle.law_sound.proofs.Explained.{forced-cut}
use Rattle.law_client.specs.Clients.{RequestsStandOnceOnWay, ClientRunsStand, ClientRunsServe}
use Rattle.law_client.specs.Rounds.{Stands}
use Rattle.law_client.proofs.Along.{all-stand}
use Rattle.law_client.proofs.Once.{items-may, no-leaps, once-on-way, requests_stand_once, once_in_history}
use Rattle.law_client.proofs.Replies.{replies_are_first}
use Rattle.law_client.proofs.Shown.{replies_are_plain}

-- nothing is forced in the first world
first-forced : (program : Program) (c : ComId) (k : Kind) → forced_of (first_node program c k) ≡ []
first-forced program c kinds.Pcom = refl
first-forced program c kinds.Tcom = refl
first-forced program c kinds.Xcom = refl

all-empty : (program : Program) (i : ℕ) (xs : List Component) (j : ℕ) → unwrap_or (slice_get (map forced_of (first_nodes program i xs)) j) [] ≡ []
all-empty program i [] j = refl
all-empty program i (x ∷ xs) zero = first-forced program (record { 0 = i }) x.kind
all-empty program i (x ∷ xs) (suc j) = all-empty program (i + 1) xs j

none-forced : (program : Program) (c : ComId) → log_at (forced_logs (first_world program)) c ≡ []
none-forced program c = all-empty program 0 program.components c.0

pub requests_stand_once_on_way : RequestsStandOnceOnWay
requests_stand_once_on_way program fingerprint x items p rs vs files fit may long start allowed are behind =
    let begun = starts_are_explained program fingerprint files p fit.playable fit.bytes long start in
    once-on-way program fingerprint x items p rs vs [] fit may (record { here = λ c. 0; explained = begun.0; keeps = begun.1 }) (λ c pcom. ap (filter_map input_in) (ap (λ z. log_at (forced_logs z) c) start.world ∙ none-forced program c)) allowed are behind

pub client_runs_stand : ClientRunsStand
client_runs_stand program fingerprint x items halts p rs vs files fit may long start run =
    let begun = starts_are_explained program fingerprint files p fit.playable fit.bytes long start in
    let f : Stands program fingerprint [] p = record { here = λ c. 0; explained = begun.0; keeps = begun.1 } in
    let there = all-stand clients program fingerprint x [] fit (no-leaps program fingerprint []) [] p items rs (items-may program items may) run.rounds f in (
      executions_stand program fingerprint x (whole_agenda [] halts) run.settles.agenda (state_after p rs) vs [] there.here fit.playable fit.flat fit.bytes (λ e h. empty e h) there.keeps run.settles.executes there.explained,
      requests_stand_once program fingerprint x items halts p rs vs [] fit may f (λ c pcom. ap (filter_map input_in) (ap (λ z. log_at (forced_logs z) c) start.world ∙ none-forced program c)) run,
    )

pub client_runs_serve : ClientRunsServe
client_runs_serve program fingerprint x items p rs vs files fit may long start run =
    let begun = starts_are_explained program fingerprint files p fit.playable fit.bytes long start in
    let f : Stands program fingerprint [] p = record { here = λ c. 0; explained = begun.0; keeps = begun.1 } in
    let there = all-stand clients program fingerprint x [] fit (no-leaps program fingerprint []) [] p items rs (items-may program items may) run.rounds f in
    let q = state_after p rs in
    let ends = complete_runs_end program fingerprint x [] q vs [] there.here fit.playable fit.flat fit.bytes (λ e h. empty e h) there.keeps there.explained run.settles in
    let last = at-the-end program fingerprint x (whole_agenda [] false) run.settles.agenda q vs [] there.here fit.playable fit.flat fit.bytes (λ e h. empty e h) there.keeps run.settles.executes there.explained in
    let w = (last_state q vs).world in
    let once = requests_stand_once program fingerprint x items false p rs vs [] fit may f (λ c pcom. ap (filter_map input_in) (ap (λ z. log_at (forced_logs z) c) start.world ∙ none-forced program c)) run in
    let cut = forced-cut program [] (here_along there.here q vs) w last.explained.explained.0 last.explained.explained.1 in (
      ends.0,
      ends.1,
      record {
        once = once;
        once_in_history = once_in_history program [] w ends.0 ends.1 once;
        again = λ is js r stop before after m args front at split same.
            let first = replies_are_first program fingerprint x p is js r stop before after m args front (subst (λ l. AreRounds clients program fingerprint x [] p l (before ++ Told (Again m args) front ∷ after)) at (subst (AreRounds clients program fingerprint x [] p items) split run.rounds)) same in
            (first, replies_are_plain program fingerprint x items false p rs vs [] fit may f run before (Told (Again m args) front ∷ after) split (forced_logs w) ends.0 cut ends.1.sound r (m, args) first);
      },
    )

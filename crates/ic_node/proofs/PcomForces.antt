-- What a step of a Pcom forces stands behind its forced records.
use Rattle.std.proofs.Common.{◌≡◌, ◌∙◌, refl, sym, ap, Bool, true, false, cond, List, [], ◌∷◌, ◌++◌, length, drop, Option, Some, None, option_map}
use Rattle.std.proofs.lemmas.List.{append-nil, drop_at}
use Rattle.ic_base.specs.declared.messages.ComId.{ComId}
use Rattle.ic_base.specs.declared.messages.Msg.{Msg}
use Rattle.ic_base.specs.declared.messages.Packet.{Packet}
use Rattle.ic_base.specs.declared.messages.Packet.TheVariants.{Data, Stable, Installed, Fetch, Op, OpReply, Commit, Outcome, Drop}
use Rattle.ic_base.specs.declared.record.Record.{Record}
use Rattle.ic_base.specs.declared.scenario.Program.{Program}
use Rattle.def_state.specs.Names.{Identity}
use Rattle.def_state.specs.Vol.{Vol}
use Rattle.def_step.specs.Packets.{fits_pcom}
use Rattle.def_step.specs.Pcom.{Pcom, Log, Call, Gives, Gets, Forces, Checkpoints, Resends, Emits, Effects, StepResult, is_replaying, decide, stands_at, standing_at, fed, stays, is_needed, packet_at_replay, replay_step, pcom_step, append, absorb, marked, absorb_choice, force_if, force_where, cover_if, carry_out}
use Rattle.def_step.specs.Replay.{Playing, feed}
use Rattle.ic_pcom.specs.Stepping.{forced_by}

-- it has these forced records, or more behind them
abbrev Behind : List Record → List Record → Type 0
Behind fs gs = (more : List Record) × (gs ≡ fs ++ more)

abbrev Adds : List Record → Option StepResult → Type 0
Adds fs None = Unit {0}
Adds fs (Some t) = Behind fs t.pcom.log.forced

none_more : (fs gs : List Record) → gs ≡ fs → Behind fs gs
none_more fs gs same = ([], same ∙ sym (append-nil fs))

either : (fs : List Record) (b : Bool) (x y : Option StepResult) → Adds fs x → Adds fs y → Adds fs (cond b x y)
either fs true x y p q = p
either fs false x y p q = q

one_of : (b : Bool) (x y : StepResult) (fs : List Record) → x.pcom.log.forced ≡ fs → y.pcom.log.forced ≡ fs → (cond b x y).pcom.log.forced ≡ fs
one_of true x y fs e f = e
one_of false x y fs e f = f

stood : (log : Log) (v : Vol) (rs : List Record) → (standing_at log v rs).log ≡ log
stood log v [] = refl
stood log v (r ∷ rs) = refl

fed_adds : (c : ComId) (log : Log) (o : Option Playing) → Adds log.forced (option_map (λ x. fed c (stands_at log x)) o)
fed_adds c log None = tt
fed_adds c log (Some x) =
    none_more log.forced (fed c (stands_at log x)).pcom.log.forced
    (one_of (is_replaying (stands_at log x)) _ _ (stands_at log x).log.forced refl refl ∙ ap (λ (l : Log). l.forced) (stood log x.vol x.rest))

stay : (p : Pcom) (puts : List Packet) → Adds p.log.forced (stays p puts)
stay p puts = none_more p.log.forced p.log.forced refl

packets : (program : Program) (c : ComId) (p : Pcom) (packet : Packet) → Adds p.log.forced (packet_at_replay program c p packet)
packets program c p (Data m) = either p.log.forced (is_needed p.rest m) _ (stays p []) (fed_adds c p.log (feed program c p.vol m p.rest)) (stay p [])
packets program c p (Fetch from to k) = none_more p.log.forced p.log.forced refl
packets program c p (Stable from to k) = stay p []
packets program c p (Installed from to k) = stay p []
packets program c p (Op from to n place session request) = stay p []
packets program c p (OpReply from to n place session value) = stay p []
packets program c p (Commit from to n place session stamp) = stay p []
packets program c p (Outcome from to n place session decision) = stay p []
packets program c p (Drop from to n) = stay p []

replays : (program : Program) (c : ComId) (p : Pcom) (call : Call) → Adds p.log.forced (replay_step program c p call)
replays program c p (Gets packet) = either p.log.forced (fits_pcom program c packet) (packet_at_replay program c p packet) (stays p []) (packets program c p packet) (stay p [])
replays program c p (Gives handler args) = stay p []
replays program c p Forces = stay p []
replays program c p Checkpoints = stay p []
replays program c p Resends = none_more p.log.forced p.log.forced refl
replays program c p Emits = stay p []

absorbed : (program : Program) (c : ComId) (content : Option Msg) (p : Pcom) (rs : List Record) → (absorb program c content p rs).log.forced ≡ p.log.forced
absorbed program c content p [] = refl
absorbed program c content p (r ∷ rs) = absorbed program c content (append program c content p r) rs

mark : (p : Pcom) (o : Option Identity) → (marked p o).log.forced ≡ p.log.forced
mark p None = refl
mark p (Some x) = refl

force : (b : Bool) (p : Pcom) (fs : List Record) → p.log.forced ≡ fs → Behind fs (force_if b p).log.forced
force true p fs same = (p.log.buffered, ap (λ l. l ++ p.log.buffered) same)
force false p fs same = none_more fs p.log.forced same

cover : (b : Bool) (p : Pcom) → (cover_if b p).log ≡ p.log
cover true p = refl
cover false p = refl

forced_where : (before : Vol) (d : Effects) (p : Pcom) (fs : List Record) → p.log.forced ≡ fs → Behind fs (force_where before d p).log.forced
forced_where before d p fs same =
    let one = force _ p fs same in
    (one.0, ap (λ (l : Log). l.forced) (cover d.covers _) ∙ one.1)

carried : (program : Program) (c : ComId) (p : Pcom) (d : Effects) → Behind p.log.forced (carry_out program c p d).pcom.log.forced
carried program c p d =
    let q = absorb_choice program c d p in
    let same : q.log.forced ≡ p.log.forced = absorbed program c d.content (marked p d.marks) d.adds ∙ mark p d.marks in
    let two = forced_where p.vol d q p.log.forced same in
    (two.0, one_of d.is_quiet _ _ (force_where p.vol d q).log.forced refl refl ∙ two.1)

-- the forced records behind a step
pub forces_more : (program : Program) (c : ComId) (p : Pcom) (call : Call) (t : StepResult) → pcom_step program c p call ≡ Some t → t.pcom.log.forced ≡ p.log.forced ++ forced_by p (Some t)
forces_more program c p call t is =
    by (by_step (pcom_step program c p call) (either p.log.forced (is_replaying p) (replay_step program c p call) _ (replays program c p call) (carried program c p (decide program c p call))) is)
  where
    by_step : (o : Option StepResult) → Adds p.log.forced o → o ≡ Some t → Behind p.log.forced t.pcom.log.forced
    by_step None h e = absurd (cc)
    by_step (Some x) h e = let same : x ≡ t = cc in (h.0, ap (λ (y : StepResult). y.pcom.log.forced) (sym same) ∙ h.1)

    by : Behind p.log.forced t.pcom.log.forced → t.pcom.log.forced ≡ p.log.forced ++ forced_by p (Some t)
    by x = x.1 ∙ ap (λ l. p.log.forced ++ l) (sym (drop_at p.log.forced x.0 (length p.log.forced) refl) ∙ ap (drop (length p.log.forced)) (sym x.1))

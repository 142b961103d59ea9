-- A run over sound logs meets no bad log and no foreign one.
use Rattle.std.proofs.Common.{◌≡◌, refl, ◌∙◌, ap, sym, subst, ℕ, suc, Bool, true, false, not, ◌&&◌, cond, List, [], ◌∷◌, ◌++◌, Option, Some, None, option_map, option_and_then, Result, Ok, Err, ⊎_elim}
use Rattle.std.specs.Prelude.{Contains, IsSome, MatchOption, ⊤, bytes_eq, unwrap_or}
use Rattle.std.specs.List.{AllByRecursion}
use Rattle.std.proofs.lemmas.List.Elements.{Contains-push}
use Rattle.std.proofs.lemmas.Option.{same_Some}
use Rattle.std.proofs.lemmas.Slice.Eq.{bytes_eq-Decides}
use Rattle.ic_base.specs.declared.limits.TheConstants.{LOG_BYTES}
use Rattle.ic_base.specs.declared.messages.ComId.{ComId}
use Rattle.ic_base.specs.declared.messages.Msg.{Msg}
use Rattle.ic_base.specs.declared.messages.Packet.{Packet}
use Rattle.ic_base.specs.declared.messages.Packet.TheVariants as packets
use Rattle.ic_base.specs.declared.events.What.{What}
use Rattle.ic_base.specs.declared.events.What.TheVariants.{Input, Deliver, Lose, Packet as Numbered, Force, Checkpoint, Resend, Emit, Crash, Recover}
use Rattle.ic_base.specs.declared.record.Record.{Record}
use Rattle.ic_base.specs.declared.record.Batch.{Batch}
use Rattle.ic_base.specs.declared.refusals.WorldRefused.{WorldRefused}
use Rattle.ic_base.specs.declared.refusals.WorldRefused.TheVariants.{Bad, Foreign}
use Rattle.ic_base.specs.declared.scenario.Program.{Program}
use Rattle.ic_base.specs.Programs.{is_a_pcom, is_a_tcom}
use Rattle.def_log.specs.Directory.{slots_in}
use Rattle.def_log.specs.Frame.{frame_of, fingerprint_in}
use Rattle.def_log.specs.Loads.{Load, Holds, Foreign as OfAnother, Bad as Refuses, load_of, frame_for, framed, is_well_formed}
use Rattle.def_log.specs.Log.{Placed, placed_with, placed_log_of, records_in}
use Rattle.def_log.specs.Sizes.{size_in}
use Rattle.def_log.specs.Spelling.{Fits}
use Rattle.def_state.specs.Hist.{Hist, Contents, apply_all, first_hist}
use Rattle.def_state.specs.Mirrors.{Mirrors}
use Rattle.def_step.specs.Calls.{delivery_of}
use Rattle.def_step.specs.Packets.{receiver_of, sender_of, fits_pcom}
use Rattle.def_step.specs.Pcom.{Pcom, Call, Gives, Gets, Forces, Checkpoints, Resends, Emits, is_needed}
use Rattle.def_step.specs.Replay.{misfit_of, misfit_fed}
use Rattle.def_step.specs.Tcom.{Book, book, booked, book_fits, book_of, book_misfit, first_book, misfit_from, lacks_epoch}
use Rattle.def_step.specs.World.{World, Node, Runs, Serves, Down, External, node_at, packet_at, oldest_of, is_reached, load_calls}
use Rattle.def_run.specs.Executions.{first_of, whole_agenda}
use Rattle.def_run.specs.Refusals.{met, call_refusal, node_refusal, fed_refusal, down_refusal, recovery_refusal, records_refusal, misfit_refusal, pcom_refusal, tcom_refusal, epoch_refusal, bad_at}
use Rattle.def_run.specs.SystemStates.{SystemState, IsLog, KeepsLog, file_of, last_state}
use Rattle.def_facts.specs.Logs.{Logs, contents_in}
use Rattle.def_facts.specs.Pcom.{state_after, VolatileFacts}
use Rattle.def_facts.specs.Playable.{IsPlayable}
use Rattle.def_facts.specs.World.{Past, IsExplainedBy, IsMirrored, is_of_kind, kind_of, forced_logs, whole_logs}
use Rattle.law_run.specs.ProgramBytes.{HasBytes}
use Rattle.law_run.specs.WorldBytes.{LogFits, WorldFits}
use Rattle.law_run.proofs.Knowing.{contents-fit}
use Rattle.law_marks.proofs.Owners.{owned}
use Rattle.law_replay.proofs.Receiving.{contents-more}
use Rattle.law_pcom.proofs.Steps.{content-is}
use Rattle.law_replay.proofs.Growing.{applied_twice}
use Rattle.law_replay.proofs.Lists.{none-some, some-of, empty, head-or-tail, open-content}
use Rattle.law_settle.proofs.Walks.{all-append}
use Rattle.law_step.proofs.Events.{nth-has}
use Rattle.law_step.proofs.PcomSteps.{consistent, runs-pcom}
use Rattle.law_replay.proofs.Records.{book-none}
use Rattle.law_step.proofs.Recoveries.{down-pcom}
use Rattle.law_step.proofs.Stops.{node-logs, node-book}
use Rattle.law_syntax.proofs.Entries.{then-ok, same-ok}
use Rattle.law_run.specs.Executions.{here_along}
use Rattle.law_run.specs.Refusals.{LacksEpoch, EventsMeetSoundLogs, RunsMeetSoundLogs}
use Rattle.law_run.proofs.Along.{at-the-end}
use Rattle.law_run.proofs.Imaged.{images-well}
use Rattle.law_run.proofs.Misfits.{Replayed, recovers-well, none-fed}
use Rattle.law_run.proofs.Starts.{beginnings_are_explained}
use Rattle.law_run.proofs.Steps.{size-some}

-- a file ------------------------------------------------------------------------------------------

-- what the bytes of a log come to
pub record ReadLog (fingerprint : List ℕ) (owner : ℕ) (file : List ℕ) (log : List Record) : Type 0 where
  pub batches : List Batch
  pub placed : List Placed
  pub loads : load_of fingerprint owner file ≡ Holds batches
  pub reads : placed_log_of file ≡ Ok placed
  pub records_are : records_in placed ≡ log

pub read-log : (fingerprint : List ℕ) (owner : ℕ) (file : List ℕ) (log : List Record) → IsLog fingerprint owner file log → ReadLog fingerprint owner file log
read-log fingerprint owner file log k =
    let rs = then-ok (placed_log_of file) (λ rs. Ok (records_in rs)) log k.holds in
    let bs = then-ok (frame_of file) (placed_with (slots_in file)) rs.0 rs.1 in
    record {
      batches = bs.0;
      placed = rs.0;
      loads = ap (λ b. cond b (OfAnother (fingerprint_in file)) (framed (frame_for owner file))) (own (is_well_formed file) (bytes_eq (fingerprint_in file) fingerprint) ((bytes_eq-Decides (fingerprint_in file) fingerprint).1 k.own)) ∙ ap framed (owned owner file (frame_of file) k.owned ∙ bs.1);
      reads = rs.1;
      records_are = same-ok {E = ℕ} (records_in rs.0) log rs.2;
    }
  where
    own : (a b : Bool) → b ≡ true → a && not b ≡ false
    own true b e = ap not e
    own false b e = refl

-- a recovery over it is refused for a misfit alone
misfit-only : (program : Program) (fingerprint : List ℕ) (c : ComId) (file : List ℕ) (log : List Record) (why : WorldRefused) (x : ReadLog fingerprint c.0 file log) → recovery_refusal program fingerprint c file ≡ Some why → misfit_refusal program c file x.placed ≡ Some why
misfit-only program fingerprint c file log why x = at (load_of fingerprint c.0 file) x.loads
  where
    by : (r : Result (List Placed) ℕ) → r ≡ Ok x.placed → elim r [ Ok rs ↦ misfit_refusal program c file rs | Err place ↦ Some (Bad c place) ] ≡ Some why → misfit_refusal program c file x.placed ≡ Some why
    by (Ok rs) e f = ap (misfit_refusal program c file) (sym (same-ok {E = ℕ} rs x.placed e)) ∙ f
    by (Err place) e f = absurd (cc e)

    at : (l : Load) → l ≡ Holds x.batches → elim l [
      | Holds batches ↦ records_refusal program c file
      | OfAnother kept ↦ Some (Foreign c kept)
      | Refuses place ↦ Some (Bad c place)
    ] ≡ Some why → misfit_refusal program c file x.placed ≡ Some why
    at (Holds batches) e f = by (placed_log_of file) x.reads f
    at (OfAnother kept) e f = absurd (cc e)
    at (Refuses place) e f = absurd (cc e)

-- a Tcom ------------------------------------------------------------------------------------------

no-misfit : (program : Program) (t : ComId) (b g : Book) (rs : List Record) → book program t (Some b) rs ≡ Some g → misfit_from program t b rs ≡ None
no-misfit program t b g [] e = refl
no-misfit program t b g (r ∷ rs) e = at (book_fits program t b r) e (no-misfit program t (booked b r) g rs)
  where
    at : (fit : Bool) → book program t (cond fit (Some (booked b r)) None) rs ≡ Some g → (book program t (Some (booked b r)) rs ≡ Some g → misfit_from program t (booked b r) rs ≡ None) → cond fit (option_map suc (misfit_from program t (booked b r) rs)) (Some 0) ≡ None
    at true f more = ap (option_map suc) (more f)
    at false f more = none-some g (sym (book-none program t rs) ∙ f)

-- what its recovery meets is the end of its epochs
record EndsEpochs (program : Program) (t : ComId) (size : ℕ) (log : List Record) (why : WorldRefused) : Type 0 where
  is : why ≡ Bad t LOG_BYTES
  book_is : Book
  reads : book_of program t log ≡ Some book_is
  lacks : lacks_epoch size book_is ≡ true

tcom-met : (program : Program) (t : ComId) (size : ℕ) (log : List Record) (placed : List Placed) (b : Book) (why : WorldRefused) → records_in placed ≡ log → book_of program t log ≡ Some b → tcom_refusal program t size placed ≡ Some why → EndsEpochs program t size log why
tcom-met program t size log placed b why same reads e =
    let own : book_of program t (records_in placed) ≡ Some b = ap (book_of program t) same ∙ reads in
    let none : book_misfit program t (records_in placed) ≡ None = no-misfit program t (first_book program t) b (records_in placed) own in
    at (lacks_epoch size b) refl
    (ap (epoch_refusal t size) (sym own) ∙ ap (λ o. first_of (option_map (bad_at t placed) o) (epoch_refusal t size (book_of program t (records_in placed)))) (sym none) ∙ e)
  where
    at : (l : Bool) → lacks_epoch size b ≡ l → cond l (Some (Bad t LOG_BYTES)) None ≡ Some why → EndsEpochs program t size log why
    at true lacks f = record { is = sym (same_Some (Bad t LOG_BYTES) why f); book_is = b; reads = reads; lacks = lacks }
    at false lacks f = none-some why f

-- a Pcom ------------------------------------------------------------------------------------------

pcom-unmet : (program : Program) (c : ComId) (log : List Record) (placed : List Placed) (why : WorldRefused) → records_in placed ≡ log → misfit_of program c log ≡ None → pcom_refusal program c placed ≡ Some why → ⊥
pcom-unmet program c log placed why same none e = none-some why (ap (option_map (bad_at c placed)) (sym none ∙ ap (misfit_of program c) (sym same)) ∙ e)

-- the log of a Pcom that is down, as its recovery plays it
down-replays : (program : Program) (found : Logs) (here : ComId → ℕ) (w : World) (past : Past) (c : ComId) (log : List Record) → IsPlayable program → HasBytes program → WorldFits w → IsExplainedBy program found here w past → node_at w c ≡ Some (Down log) → is_a_pcom program c ≡ true →
    Replayed program c (contents_in (past.received c)) [] log (first_hist program c)
down-replays program found here w past c log play bytes fits f down pcom = record {
  bytes = bytes;
  good = play;
  contents = contents-fit program found here w past bytes fits f c;
  fit = fits.nodes c (Down log) down;
  is = refl;
  takes = (node-logs program found here w past c (Down log) f down pcom).whole.replays;
}

-- a recovery -----------------------------------------------------------------------------------------

recovery-met : (program : Program) (fingerprint : List ℕ) (found : Logs) (here : ComId → ℕ) (p : SystemState) (past : Past) (c : ComId) (log : List Record) (why : WorldRefused) → IsPlayable program → HasBytes program → IsLog fingerprint c.0 (file_of p c) log → WorldFits p.world → IsExplainedBy program found here p.world past → node_at p.world c ≡ Some (Down log)
    → recovery_refusal program fingerprint c (file_of p c) ≡ Some why → (t : ComId) × (why ≡ Bad t LOG_BYTES) × LacksEpoch program p (Recover c) t
recovery-met program fingerprint found here p past c log why play bytes is fits f down e = at (is_a_tcom program c) refl (misfit-only program fingerprint c (file_of p c) log why x e)
  where
    x : ReadLog fingerprint c.0 (file_of p c) log
    x = read-log fingerprint c.0 (file_of p c) log is

    size : (n : ℕ) × (size_in (file_of p c) ≡ Some n)
    size = size-some (file_of p c) log is.holds

    at : (b : Bool) → is_a_tcom program c ≡ b → cond b (tcom_refusal program c (unwrap_or (size_in (file_of p c)) 0) x.placed) (pcom_refusal program c x.placed) ≡ Some why → (t : ComId) × (why ≡ Bad t LOG_BYTES) × LacksEpoch program p (Recover c) t
    at true tcom g =
        let b = some-of (book_of program c log) (node-book program found here p.world past c (Down log) f down tcom).1.reads in
        let y = tcom-met program c size.0 log x.placed b.0 why x.records_are b.1 (ap (λ o. tcom_refusal program c (unwrap_or o 0) x.placed) (sym size.1) ∙ g) in
        (c, y.is, record { recovers = refl; tcom = tcom; records = log; down = down; book = y.book_is; reads = y.reads; size = size.0; size_is = size.1; lacks = y.lacks })
    at false tcom g =
        let pcom = down-pcom program c log (ap (is_of_kind (kind_of program c)) (sym down) ∙ f.kinds c) tcom in
        let replays = down-replays program found here p.world past c log play bytes fits f down pcom in
        absurd (pcom-unmet program c log x.placed why x.records_are (recovers-well program c (contents_in (past.received c)) log replays (images-well program found here p.world past c log play bytes fits f down pcom replays)) g)

-- a replay that is fed -------------------------------------------------------------------------------

fed-unmet : (program : Program) (found : Logs) (here : ComId → ℕ) (w : World) (past : Past) (c : ComId) (p : Pcom) (m : Msg) → IsPlayable program → HasBytes program → WorldFits w → IsExplainedBy program found here w past → node_at w c ≡ Some (Runs p) → Contains w.packets (packets.Data m) → m.to ≡ c → is_needed p.rest m ≡ true → misfit_fed program c p.vol m p.rest ≡ None
fed-unmet program found here w past c p m play bytes fits f is there to need =
    none-fed program c (contents_in (past.received c)) p.vol m v.played p.rest h.0 (record {
      bytes = bytes;
      good = play;
      contents = contents-fit program found here w past bytes fits f c;
      fit = subst (AllByRecursion Fits) v.rest_stands (all-append Fits p.log.forced p.log.buffered log.forced log.buffered);
      is = h.1;
      takes = subst (λ o. IsSome (apply_all program c k o p.rest)) h.1 (subst (λ o. IsSome o) (applied_twice program c k (Some (first_hist program c)) v.played p.rest) (subst (λ l. IsSome (state_after program c (past.received c) l)) v.rest_stands (node-logs program found here w past c (Runs p) f is pcom).whole.replays));
    }) h.2 only need
  where
    k : Contents
    k = contents_in (past.received c)

    pcom : is_a_pcom program c ≡ true
    pcom = runs-pcom program c p (ap (is_of_kind (kind_of program c)) (sym is) ∙ f.kinds c)

    v : VolatileFacts program c p (past.received c)
    v = subst (λ o. MatchOption o ⊤ (IsMirrored program c (past.received c))) is (f.pcoms c)

    log : LogFits p.log
    log = fits.nodes c (Runs p) is

    h : (y : Hist) × (state_after program c (past.received c) v.played ≡ Some y) × Mirrors p.vol y
    h = open-content (Mirrors p.vol) (state_after program c (past.received c) v.played) v.mirrors

    came : (x : Packet) → Contains (packets.Data m ∷ []) x → (receiver_of x ≡ c) × Contains (past.sent (sender_of x)) x
    came x has = ⊎_elim (λ same. subst (λ y. (receiver_of y ≡ c) × Contains (past.sent (sender_of y)) y) same (to, f.packets.sent (packets.Data m) there)) (λ z. empty x z) (head-or-tail (packets.Data m) x [] has)

    only : (n : Msg) → contents_in (past.received c) m.from m.k ≡ Some n → n ≡ m
    only n e =
        same_Some n m (sym (contents-more (past.received c) (packets.Data m ∷ []) m.from m.k n e)
        ∙ content-is (past.received c ++ packets.Data m ∷ []) m (consistent program found (forced_logs w) (whole_logs w) past f.logs c (packets.Data m ∷ []) came) (Contains-push (past.received c) (packets.Data m)))

fed-met : (program : Program) (found : Logs) (here : ComId → ℕ) (w : World) (past : Past) (c : ComId) (file : List ℕ) (p : Pcom) (packet : Packet) (why : WorldRefused) → IsPlayable program → HasBytes program → WorldFits w → IsExplainedBy program found here w past → node_at w c ≡ Some (Runs p) → Contains w.packets packet → receiver_of packet ≡ c → fed_refusal program c file p packet ≡ Some why → ⊥
fed-met program found here w past c file p (packets.Data m) why play bytes fits f is there to e = at _ (is_needed p.rest m) refl e
  where
    at : (bad : ℕ → WorldRefused) (b : Bool) → is_needed p.rest m ≡ b → cond b (option_map bad (misfit_fed program c p.vol m p.rest)) None ≡ Some why → ⊥
    at bad true need g = none-some why (ap (option_map bad) (sym (fed-unmet program found here w past c p m play bytes fits f is there to need)) ∙ g)
    at bad false need g = none-some why g
fed-met program found here w past c file p (packets.Stable from to k) why play bytes fits f is there same e = none-some why e
fed-met program found here w past c file p (packets.Installed from to k) why play bytes fits f is there same e = none-some why e
fed-met program found here w past c file p (packets.Fetch from to k) why play bytes fits f is there same e = none-some why e
fed-met program found here w past c file p (packets.Op from to n place session request) why play bytes fits f is there same e = none-some why e
fed-met program found here w past c file p (packets.OpReply from to n place session value) why play bytes fits f is there same e = none-some why e
fed-met program found here w past c file p (packets.Commit from to n place session stamp) why play bytes fits f is there same e = none-some why e
fed-met program found here w past c file p (packets.Outcome from to n place session decision) why play bytes fits f is there same e = none-some why e
fed-met program found here w past c file p (packets.Drop from to n) why play bytes fits f is there same e = none-some why e

-- no call but the delivery of a packet meets anything
none-asked : (program : Program) (c : ComId) (file : List ℕ) (call : Call) (o : Option Node) (why : WorldRefused) → ((packet : Packet) → call ≡ Gets packet → ⊥) → option_and_then (node_refusal program c file call) o ≡ Some why → ⊥
none-asked program c file call None why apart e = none-some why e
none-asked program c file (Gets packet) (Some node) why apart e = apart packet refl
none-asked program c file (Gives handler args) (Some node) why apart e = none-some why e
none-asked program c file Forces (Some node) why apart e = none-some why e
none-asked program c file Checkpoints (Some node) why apart e = none-some why e
none-asked program c file Resends (Some node) why apart e = none-some why e
none-asked program c file Emits (Some node) why apart e = none-some why e

-- a delivery of a packet that was put out meets nothing
none-delivered : (program : Program) (fingerprint : List ℕ) (found : Logs) (here : ComId → ℕ) (p : SystemState) (past : Past) (packet : Packet) (why : WorldRefused) → IsPlayable program → HasBytes program → WorldFits p.world → IsExplainedBy program found here p.world past → Contains p.world.packets packet → call_refusal program p (delivery_of packet) ≡ Some why → ⊥
none-delivered program fingerprint found here p past packet why play bytes fits f there e = at (node_at p.world c) refl e
  where
    c : ComId
    c = receiver_of packet

    at : (o : Option Node) → node_at p.world c ≡ o → option_and_then (node_refusal program c (file_of p c) (Gets packet)) o ≡ Some why → ⊥
    at None is g = none-some why g
    at (Some (Runs q)) is g = by (fits_pcom program c packet) g
      where
        by : (b : Bool) → cond b (fed_refusal program c (file_of p c) q packet) None ≡ Some why → ⊥
        by true z = fed-met program found here p.world past c (file_of p c) q packet why play bytes fits f is there refl z
        by false z = none-some why z
    at (Some (Serves t)) is g = none-some why g
    at (Some (Down log)) is g = none-some why g
    at (Some External) is g = none-some why g

-- an event -------------------------------------------------------------------------------------------

-- of a delivery, if there is a packet
none-carried : (program : Program) (fingerprint : List ℕ) (found : Logs) (here : ComId → ℕ) (p : SystemState) (past : Past) (i : ℕ) (why : WorldRefused) → IsPlayable program → HasBytes program → WorldFits p.world → IsExplainedBy program found here p.world past → option_and_then (call_refusal program p) (option_map delivery_of (packet_at p.world i)) ≡ Some why → ⊥
none-carried program fingerprint found here p past i why play bytes fits f e = at (packet_at p.world i) refl e
  where
    at : (o : Option Packet) → packet_at p.world i ≡ o → option_and_then (call_refusal program p) (option_map delivery_of o) ≡ Some why → ⊥
    at None is g = none-some why g
    at (Some packet) is g = none-delivered program fingerprint found here p past packet why play bytes fits f (nth-has p.world.packets i packet is) g

pub events_meet_sound_logs : EventsMeetSoundLogs
events_meet_sound_logs program fingerprint found here p e why play bytes keeps kept m = at e.what m
  where
    past : Past
    past = kept.explained.0

    f : IsExplainedBy program found here p.world past
    f = kept.explained.1

    down : (c : ComId) (n : Node) → node_at p.world c ≡ Some n → down_refusal program fingerprint c e.stop (file_of p c) n ≡ Some why → (t : ComId) × (why ≡ Bad t LOG_BYTES) × LacksEpoch program p (Recover c) t
    down c (Runs q) is g = none-some why g
    down c (Serves t) is g = none-some why g
    down c External is g = none-some why g
    down c (Down log) is g = by (is_reached e.stop (load_calls program c)) g
      where
        by : (b : Bool) → cond b None (recovery_refusal program fingerprint c (file_of p c)) ≡ Some why → (t : ComId) × (why ≡ Bad t LOG_BYTES) × LacksEpoch program p (Recover c) t
        by true z = none-some why z
        by false z = recovery-met program fingerprint found here p past c log why play bytes (subst (KeepsLog fingerprint c (file_of p c)) is (keeps c)) kept.bytes f is z

    at : (what : What) → met program fingerprint p e.stop what ≡ Some why → (t : ComId) × (why ≡ Bad t LOG_BYTES) × LacksEpoch program p what t
    at (Recover c) g = up (node_at p.world c) refl g
      where
        up : (o : Option Node) → node_at p.world c ≡ o → option_and_then (down_refusal program fingerprint c e.stop (file_of p c)) o ≡ Some why → (t : ComId) × (why ≡ Bad t LOG_BYTES) × LacksEpoch program p (Recover c) t
        up None is z = none-some why z
        up (Some n) is z = down c n is z
    at (Deliver from to) g = oldest (oldest_of p.world from to) g
      where
        oldest : (o : Option ℕ) → option_and_then (call_refusal program p) (option_map delivery_of (option_and_then (packet_at p.world) o)) ≡ Some why → (t : ComId) × (why ≡ Bad t LOG_BYTES) × LacksEpoch program p (Deliver from to) t
        oldest None z = none-some why z
        oldest (Some i) z = absurd (none-carried program fingerprint found here p past i why play bytes kept.bytes f z)
    at (Numbered i) g = absurd (none-carried program fingerprint found here p past i why play bytes kept.bytes f g)
    at (Input c handler args) g = absurd (none-asked program c (file_of p c) (Gives handler args) (node_at p.world c) why (λ packet z. absurd (cc z)) g)
    at (Force c) g = absurd (none-asked program c (file_of p c) Forces (node_at p.world c) why (λ packet z. absurd (cc z)) g)
    at (Checkpoint c) g = absurd (none-asked program c (file_of p c) Checkpoints (node_at p.world c) why (λ packet z. absurd (cc z)) g)
    at (Resend c) g = absurd (none-asked program c (file_of p c) Resends (node_at p.world c) why (λ packet z. absurd (cc z)) g)
    at (Emit c) g = absurd (none-asked program c (file_of p c) Emits (node_at p.world c) why (λ packet z. absurd (cc z)) g)
    at (Lose from to) g = none-some why g
    at (Crash c) g = none-some why g

pub runs_meet_sound_logs : RunsMeetSoundLogs
runs_meet_sound_logs program fingerprint before x events halts b p vs received e play flat bytes may begins runs = (bad, foreign)
  where
    meets : (why : WorldRefused) → met program fingerprint (last_state p vs) e.stop e.what ≡ Some why → (t : ComId) × (why ≡ Bad t LOG_BYTES) × LacksEpoch program (last_state p vs) e.what t
    meets why m =
        let g = beginnings_are_explained program fingerprint before p play bytes begins in
        let l = at-the-end program fingerprint x (whole_agenda events halts) b p vs (forced_logs p.world) (λ c. 0) play flat bytes may g.1 runs g.0 in
        events_meet_sound_logs program fingerprint (forced_logs p.world) (here_along (λ c. 0) p vs) (last_state p vs) e why play bytes l.keeps l.explained m

    bad : (t : ComId) (place : ℕ) → met program fingerprint (last_state p vs) e.stop e.what ≡ Some (Bad t place) → (place ≡ LOG_BYTES) × LacksEpoch program (last_state p vs) e.what t
    bad t place m = let y = meets (Bad t place) m in (ap place-of y.1, subst (LacksEpoch program (last_state p vs) e.what) (sym (ap (who-of t) y.1)) y.2)
      where
        place-of : WorldRefused → ℕ
        place-of (Bad u n) = n
        place-of _ = place

        who-of : ComId → WorldRefused → ComId
        who-of u (Bad v n) = v
        who-of u _ = u

    foreign : (c : ComId) (kept : List ℕ) → met program fingerprint (last_state p vs) e.stop e.what ≡ Some (Foreign c kept) → ⊥
    foreign c kept m = let y = meets (Foreign c kept) m in absurd (cc (y.1))

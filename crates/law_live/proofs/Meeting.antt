-- An event of a berth meets no bad log and no foreign one.
use Rattle.std.proofs.Common.{◌≡◌, refl, ◌∙◌, ap, sym, subst, ℕ, suc, Bool, true, false, cond, List, [], ◌∷◌, ◌++◌, Option, Some, None, option_map, Result, Ok, Err}
use Rattle.std.specs.Prelude.{IsSome, unwrap_or}
use Rattle.std.specs.List.{AllByRecursion}
use Rattle.std.proofs.lemmas.List.Elements.{Contains-push}
use Rattle.std.proofs.lemmas.Option.{same_Some}
use Rattle.ic_base.specs.declared.limits.TheConstants.{LOG_BYTES}
use Rattle.ic_base.specs.declared.messages.ComId.{ComId}
use Rattle.ic_base.specs.declared.messages.Msg.{Msg}
use Rattle.ic_base.specs.declared.messages.Packet.{Packet}
use Rattle.ic_base.specs.declared.messages.Packet.TheVariants as packets
use Rattle.ic_base.specs.declared.events.Stop.{Stop}
use Rattle.ic_base.specs.declared.record.Record.{Record}
use Rattle.ic_base.specs.declared.refusals.WorldRefused.{WorldRefused}
use Rattle.ic_base.specs.declared.refusals.WorldRefused.TheVariants.{Bad, Foreign}
use Rattle.ic_base.specs.declared.scenario.Program.{Program}
use Rattle.ic_base.specs.Programs.{is_a_pcom, is_a_tcom}
use Rattle.def_log.specs.Loads.{Load, Holds, Foreign as OfAnother, Bad as Refuses}
use Rattle.def_log.specs.Log.{Placed, records_in}
use Rattle.def_log.specs.Sizes.{size_in}
use Rattle.def_log.specs.Spelling.{Fits}
use Rattle.def_state.specs.Hist.{Hist, Contents, apply_all, first_hist}
use Rattle.def_state.specs.Mirrors.{Mirrors}
use Rattle.def_step.specs.Packets.{fits_pcom}
use Rattle.def_step.specs.Pcom.{Pcom, Call, Gives, Gets, Forces, Checkpoints, Resends, Emits, is_needed}
use Rattle.def_step.specs.Replay.{misfit_of, misfit_fed}
use Rattle.def_step.specs.Tcom.{Book, book, booked, book_fits, book_of, book_misfit, first_book, misfit_from, lacks_epoch}
use Rattle.def_step.specs.World.{Node, Runs, Serves, Down, External, is_reached, load_calls}
use Rattle.def_run.specs.Executions.{first_of}
use Rattle.def_run.specs.Refusals.{node_refusal, fed_refusal, down_refusal, recovery_refusal, records_refusal, misfit_refusal, pcom_refusal, tcom_refusal, epoch_refusal, bad_at}
use Rattle.def_run.specs.SystemStates.{KeepsLog, file_in}
use Rattle.def_facts.specs.Logs.{IsConsistent, contents_in}
use Rattle.def_facts.specs.Pcom.{state_after, VolatileFacts}
use Rattle.def_facts.specs.Playable.{IsPlayable}
use Rattle.def_facts.specs.World.{IsMirrored, records_of, is_of_kind, kind_of}
use Rattle.def_live.specs.Facts.{Part, LocalFacts}
use Rattle.law_run.specs.ProgramBytes.{HasBytes}
use Rattle.law_run.specs.WorldBytes.{LogFits, NodeFits}
use Rattle.law_replay.proofs.Receiving.{contents-more}
use Rattle.law_replay.proofs.Growing.{applied_twice}
use Rattle.law_replay.proofs.Lists.{none-some, some-of, open-content}
use Rattle.law_replay.proofs.Records.{book-none}
use Rattle.law_pcom.proofs.Steps.{content-is}
use Rattle.law_settle.proofs.Walks.{all-append}
use Rattle.law_step.proofs.PcomSteps.{runs-pcom}
use Rattle.law_step.proofs.Recoveries.{down-pcom}
use Rattle.law_run.proofs.Meeting.{ReadLog, read-log}
use Rattle.law_run.proofs.Misfits.{Replayed, recovers-well, none-fed}
use Rattle.law_live.specs.Bytes.{PartFits}
use Rattle.law_live.specs.Meeting.{IsOfSound, BerthsMeetOwnLogs}
use Rattle.law_live.proofs.Bytes.{got-content, own-states, own-images}
use Rattle.law_live.proofs.Imaged.{images-read}

-- a recovery over the log of a berth is refused for a misfit alone
misfit-only : (program : Program) (fingerprint : List ℕ) (c : ComId) (file : List ℕ) (log : List Record) (x : ReadLog fingerprint c.0 file log) → recovery_refusal program fingerprint c file ≡ misfit_refusal program c file x.placed
misfit-only program fingerprint c file log x =
    ap (λ (l : Load). elim l [
      | Holds batches ↦ records_refusal program c file
      | OfAnother kept ↦ Some (Foreign c kept)
      | Refuses place ↦ Some (Bad c place)
    ]) x.loads
    ∙ ap (λ (r : Result (List Placed) ℕ). elim r [ Ok rs ↦ misfit_refusal program c file rs | Err place ↦ Some (Bad c place) ]) x.reads

-- records that a book takes hold no misfit
no-misfit : (program : Program) (t : ComId) (b g : Book) (rs : List Record) → book program t (Some b) rs ≡ Some g → misfit_from program t b rs ≡ None
no-misfit program t b g [] e = refl
no-misfit program t b g (r ∷ rs) e = at (book_fits program t b r) e (no-misfit program t (booked b r) g rs)
  where
    at : (fit : Bool) → book program t (cond fit (Some (booked b r)) None) rs ≡ Some g → (book program t (Some (booked b r)) rs ≡ Some g → misfit_from program t (booked b r) rs ≡ None) → cond fit (option_map suc (misfit_from program t (booked b r) rs)) (Some 0) ≡ None
    at true f more = ap (option_map suc) (more f)
    at false f more = none-some g (sym (book-none program t rs) ∙ f)

-- a Tcom's, for the end of its epochs
tcom-sound : (program : Program) (t : ComId) (size : ℕ) (log : List Record) (placed : List Placed) (b : Book) (why : WorldRefused) → records_in placed ≡ log → book_of program t log ≡ Some b → tcom_refusal program t size placed ≡ Some why → IsOfSound why
tcom-sound program t size log placed b why same reads e =
    let own : book_of program t (records_in placed) ≡ Some b = ap (book_of program t) same ∙ reads in
    let none : book_misfit program t (records_in placed) ≡ None = no-misfit program t (first_book program t) b (records_in placed) own in
    at (lacks_epoch size b)
    (ap (epoch_refusal t size) (sym own) ∙ ap (λ o. first_of (option_map (bad_at t placed) o) (epoch_refusal t size (book_of program t (records_in placed)))) (sym none) ∙ e)
  where
    at : (l : Bool) → cond l (Some (Bad t LOG_BYTES)) None ≡ Some why → IsOfSound why
    at true f = subst IsOfSound (same_Some (Bad t LOG_BYTES) why f) refl
    at false f = none-some why f

module _ (program : Program) (c : ComId) (x : Part) (here : ℕ) (play : IsPlayable program) (bytes : HasBytes program) (f : LocalFacts program c x here) (fits : PartFits x) where
  -- the log of a Pcom that is down, as its recovery plays it
  own-replays : (log : List Record) → x.node ≡ Down log → is_a_pcom program c ≡ true → Replayed program c (contents_in x.received) [] log (first_hist program c)
  own-replays log is pcom = record {
    bytes = bytes;
    good = play;
    contents = got-content x fits;
    fit = subst NodeFits is fits.node;
    is = refl;
    takes = subst (λ n. IsSome (state_after program c x.received (records_of n))) is (f.pcom pcom).logs.whole.replays;
  }

  down-sound : (fingerprint file : List ℕ) (log : List Record) (why : WorldRefused) → x.node ≡ Down log → KeepsLog fingerprint c file (Some (Down log)) → recovery_refusal program fingerprint c file ≡ Some why → IsOfSound why
  down-sound fingerprint file log why is stands e = at (is_a_tcom program c) refl (sym (misfit-only program fingerprint c file log y) ∙ e)
    where
      y : ReadLog fingerprint c.0 file log
      y = read-log fingerprint c.0 file log stands

      at : (b : Bool) → is_a_tcom program c ≡ b → cond b (tcom_refusal program c (unwrap_or (size_in file) 0) y.placed) (pcom_refusal program c y.placed) ≡ Some why → IsOfSound why
      at true tcom g =
          let b = some-of (book_of program c log) (subst (λ n. IsSome (book_of program c (records_of n))) is (f.tcom tcom).logs.logs.reads) in
          tcom-sound program c (unwrap_or (size_in file) 0) log y.placed b.0 why y.records_are b.1 g
      at false tcom g =
          let pcom = down-pcom program c log (ap (λ n. is_of_kind (kind_of program c) (Some n)) (sym is) ∙ f.kind) tcom in
          let replays = own-replays log is pcom in
          let read = images-read program c x.received log replays (own-images program c x here play bytes f fits log is pcom) (own-states program c x here play bytes f fits log is pcom) in
          let none : misfit_of program c (records_in y.placed) ≡ None = ap (misfit_of program c) y.records_are ∙ recovers-well program c (contents_in x.received) log replays read in
          none-some why (ap (option_map (bad_at c y.placed)) (sym none) ∙ g)

  -- a replay that is fed what has one content meets none
  fed-sound : (p : Pcom) (m : Msg) → x.node ≡ Runs p → IsConsistent (x.received ++ packets.Data m ∷ []) → is_needed p.rest m ≡ true → misfit_fed program c p.vol m p.rest ≡ None
  fed-sound p m is same need =
      none-fed program c k p.vol m v.played p.rest h.0 (record {
        bytes = bytes;
        good = play;
        contents = got-content x fits;
        fit = subst (AllByRecursion Fits) v.rest_stands (all-append Fits p.log.forced p.log.buffered log.forced log.buffered);
        is = h.1;
        takes = subst (λ o. IsSome (apply_all program c k o p.rest)) h.1 (subst (λ o. IsSome o) (applied_twice program c k (Some (first_hist program c)) v.played p.rest) (subst (λ l. IsSome (state_after program c x.received l)) v.rest_stands whole));
      }) h.2 only need
    where
      k : Contents
      k = contents_in x.received

      pcom : is_a_pcom program c ≡ true
      pcom = runs-pcom program c p (ap (λ n. is_of_kind (kind_of program c) (Some n)) (sym is) ∙ f.kind)

      v : VolatileFacts program c p x.received
      v = subst (IsMirrored program c x.received) is (f.pcom pcom).state

      whole : IsSome (state_after program c x.received (records_of (Runs p)))
      whole = subst (λ n. IsSome (state_after program c x.received (records_of n))) is (f.pcom pcom).logs.whole.replays

      log : LogFits p.log
      log = subst NodeFits is fits.node

      h : (y : Hist) × (state_after program c x.received v.played ≡ Some y) × Mirrors p.vol y
      h = open-content (Mirrors p.vol) (state_after program c x.received v.played) v.mirrors

      only : (n : Msg) → contents_in x.received m.from m.k ≡ Some n → n ≡ m
      only n e = same_Some n m (sym (contents-more x.received (packets.Data m ∷ []) m.from m.k n e) ∙ content-is (x.received ++ packets.Data m ∷ []) m same (Contains-push x.received (packets.Data m)))

  got-sound : (file : List ℕ) (p : Pcom) (packet : Packet) (why : WorldRefused) → x.node ≡ Runs p → IsConsistent (x.received ++ packet ∷ []) → fed_refusal program c file p packet ≡ Some why → ⊥
  got-sound file p (packets.Data m) why is same e = at _ (is_needed p.rest m) refl e
    where
      at : (bad : ℕ → WorldRefused) (b : Bool) → is_needed p.rest m ≡ b → cond b (option_map bad (misfit_fed program c p.vol m p.rest)) None ≡ Some why → ⊥
      at bad true need g = none-some why (ap (option_map bad) (sym (fed-sound p m is same need)) ∙ g)
      at bad false need g = none-some why g
  got-sound file p (packets.Stable from to n) why is same e = none-some why e
  got-sound file p (packets.Installed from to n) why is same e = none-some why e
  got-sound file p (packets.Fetch from to n) why is same e = none-some why e
  got-sound file p (packets.Op from to n place session request) why is same e = none-some why e
  got-sound file p (packets.OpReply from to n place session value) why is same e = none-some why e
  got-sound file p (packets.Commit from to n place session stamp) why is same e = none-some why e
  got-sound file p (packets.Outcome from to n place session decision) why is same e = none-some why e
  got-sound file p (packets.Drop from to n) why is same e = none-some why e

  -- no call but a delivery meets anything
  call-sound : (file : List ℕ) (call : Call) (node : Node) (why : WorldRefused) → x.node ≡ node → ((p : Packet) → call ≡ Gets p → IsConsistent (x.received ++ p ∷ [])) → node_refusal program c file call node ≡ Some why → ⊥
  call-sound file (Gets packet) (Runs p) why is same e = by (fits_pcom program c packet) e
    where
      by : (b : Bool) → cond b (fed_refusal program c file p packet) None ≡ Some why → ⊥
      by true g = got-sound file p packet why is (same packet refl) g
      by false g = none-some why g
  call-sound file (Gets packet) (Serves t) why is same e = none-some why e
  call-sound file (Gets packet) (Down log) why is same e = none-some why e
  call-sound file (Gets packet) External why is same e = none-some why e
  call-sound file (Gives handler args) node why is same e = none-some why e
  call-sound file Forces node why is same e = none-some why e
  call-sound file Checkpoints node why is same e = none-some why e
  call-sound file Resends node why is same e = none-some why e
  call-sound file Emits node why is same e = none-some why e

  recovery-sound : (fingerprint file : List ℕ) (stop : Option Stop) (node : Node) (why : WorldRefused) → x.node ≡ node → KeepsLog fingerprint c file (Some node) → down_refusal program fingerprint c stop file node ≡ Some why → IsOfSound why
  recovery-sound fingerprint file stop (Down log) why is stands e = by (is_reached stop (load_calls program c)) e
    where
      by : (b : Bool) → cond b None (recovery_refusal program fingerprint c file) ≡ Some why → IsOfSound why
      by true g = none-some why g
      by false g = down-sound fingerprint file log why is stands g
  recovery-sound fingerprint file stop (Runs p) why is stands e = none-some why e
  recovery-sound fingerprint file stop (Serves t) why is stands e = none-some why e
  recovery-sound fingerprint file stop External why is stands e = none-some why e

pub berths_meet_own_logs : BerthsMeetOwnLogs
berths_meet_own_logs program fingerprint c a here play bytes f = record {
  recovers = λ stop why e. recovery-sound program c a.part here play bytes f.facts f.bytes fingerprint (file_in a.files c) stop a.part.node why refl f.kept e;
  calls = λ call why same e. call-sound program c a.part here play bytes f.facts f.bytes (file_in a.files c) call a.part.node why refl same e;
}

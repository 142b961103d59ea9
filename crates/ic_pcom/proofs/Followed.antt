-- A planned step that was made ready, behind its commit and where it is refused.
use Rattle.std.proofs.Common.{◌≡◌, ◌∙◌, sym, ap, refl, subst, arith, ℕ, ◌<◌, inl, inr, Bool, true, false, List, [], ◌∷◌, ◌++◌, length, Option, Some, None}
use Rattle.std.specs.Vec.{vec_capacity}
use Rattle.std.proofs.lemmas.Bool.{false≢true}
use Rattle.std.proofs.lemmas.List.Sums.{sum_by-append, sum_by-cons}
use Rattle.ic_base.specs.declared.messages.ComId.{ComId}
use Rattle.ic_base.specs.declared.messages.Packet.{Packet}
use Rattle.ic_base.specs.declared.record.Record.{Record}
use Rattle.ic_base.specs.declared.record.Record.TheVariants.{Take, TakeWhole, Input, Value, Outcome, Released, Shown, Checkpoint, Epoch, Decided}
use Rattle.ic_base.specs.declared.scenario.Program.{Program}
use Rattle.def_state.specs.Names.{Identity}
use Rattle.def_state.specs.Positions.{end_of, record_length}
use Rattle.def_state.specs.Vol.{Vol, numbers_fit}
use Rattle.def_step.specs.Pcom as step
use Rattle.def_step.specs.Pcom.{Call, Effects, StepResult, Log, all_of}
use Rattle.ic_ckpt.specs.Views.{seen}
use Rattle.ic_ckpt.specs.declared.state.State.{State}
use Rattle.ic_disk.specs.declared.disk.Disk.{Ghosts}
use Rattle.ic_pcom.specs.Effects.{effects_of}
use Rattle.ic_gate.specs.declared.refusals.StepRefused.{StepRefused}
use Rattle.ic_gate.specs.declared.refusals.StepRefused.TheVariants.{Failed, Stopped, Full, Memory}
use Rattle.ic_gate.specs.RecordCalls.{LacksRoom}
use Rattle.ic_gate.specs.RecordCommits as commits
use Rattle.ic_gate.specs.RecordCommits.{adding, forced_if, split_if, CanTake, Commits, IsStill, FailsToCommit}
use Rattle.ic_gate.specs.RecordLogs.{records_of, disk_of, is_closed}
use Rattle.ic_gate.specs.declared.record_log.RecordLog.{RecordLog}
use Rattle.ic_replay.specs.declared.prepared.Prepared.{Prepared}
use Rattle.ic_pcom.specs.Carrying.{last_in, up, led_by, marked_in, put_with}
use Rattle.ic_pcom.specs.Deciding.{IsPlanned, MayFollow}
use Rattle.ic_pcom.specs.Landing.{effects_in, answering, landed, landed_behind, must_force, batch, landing, HasPacketRoom, MayReach, MayLand, Lands}
use Rattle.ic_pcom.specs.Readying.{IsReadied, FailsToReady}
use Rattle.ic_pcom.specs.Stages.{HasPeers}
use Rattle.ic_pcom.specs.Stepping.{IsUnmoved, FailsToStep}
use Rattle.ic_pcom.specs.Views.{component_of, com_of, played_of, told_of}
use Rattle.ic_pcom.specs.Views as views
use Rattle.ic_pcom.specs.declared.pcom.Pcom.{Pcom}
use Rattle.ic_pcom.specs.declared.plan.Plan.{Plan}
use Rattle.ic_pcom.specs.declared.plan.Plan.TheVariants.{Adds, AddsNone}
use Rattle.ic_pcom.specs.declared.ready.Ready.{Ready}
use Rattle.ic_pcom.specs.declared.step.Step.{Step}
use Rattle.ic_pcom.proofs.Finishes.{finishes}
use Rattle.ic_pcom.proofs.Landed.{planned_stands, planned_room, planned_full, all_split}
use Rattle.ic_pcom.proofs.Peers.{applied_peers}
use Rattle.ic_pcom.proofs.Puts.{put_peers, put_fits}

led_peers : (c : ComId) (at : ℕ) (s : State) (p : Prepared) (e : _) (o : Option Record) → MayLand c at s o (Adds e p) → HasPeers (seen s) → HasPeers (led_by c at p (seen s) o)
led_peers c at s p e None may peers = absurd may
led_peers c at s p e (Some r) may peers = applied_peers c at p (seen s) r may.counted peers

marked_peers : (m : Option Identity) (v : Vol) → HasPeers v → HasPeers (marked_in m v)
marked_peers None v peers = peers
marked_peers (Some x) v peers = peers

-- the senders stay those that a scenario may have
landed_peers : (c : ComId) (at : ℕ) (s : State) (rs : List Record) (plan : Plan) → MayLand c at s (last_in rs) plan → HasPeers (seen s) → HasPeers (landed c at (seen s) rs plan)
landed_peers c at s rs (Adds e p) may peers = led_peers c at s p e (last_in rs) may peers
landed_peers c at s rs (AddsNone e) may peers = marked_peers (effects_of e).marks (seen s) peers

-- what is added ends behind what is forced
ends_behind : (forced buffered adds : List Record) → 0 < length adds → end_of forced < end_of ((forced ++ buffered) ++ adds)
ends_behind forced buffered [] some = absurd (omega (arith, some))
ends_behind forced buffered (r ∷ rs) some =
    omega (arith, sum_by-append record_length (forced ++ buffered) (r ∷ rs), sum_by-append record_length forced buffered, sum_by-cons record_length r rs, long r)
  where
    long : (r : Record) → 0 < record_length r
    long (Take from k stamp) = omega arith
    long (TakeWhole from k stamp handler args) = omega arith
    long (Input stamp handler args) = omega arith
    long (Value n place session value) = omega arith
    long (Outcome stamp n abort) = omega arith
    long (Released to k) = omega arith
    long (Shown m) = omega arith
    long (Checkpoint image) = omega arith
    long (Epoch epoch) = omega arith
    long (Decided stamp c n writes) = omega arith

-- a step is ready over a log that is forced as far, with the same records
pub ready_at : (c : ComId) (before after : ℕ) (v : Vol) (plan : Plan) (s : State) (adds given : List Record) (r : Ready) → before ≡ after → given ≡ adds → IsReadied c before v plan s adds r → IsReadied c after v plan s given r
ready_at c before after v plan s adds given r same are x =
    subst (λ (n : ℕ). IsReadied c n v plan s given r) same (subst (λ (rs : List Record). IsReadied c before v plan s rs r) (sym are) x)

-- a log that isn't forced is forced as far as it was
reached : (b : Bool) (old new : Log) (adds : List Record) (forced : ℕ) → new ≡ split_if b (adding old adds) → forced ≡ end_of new.forced → MayReach b (end_of old.forced) forced
reached true old new adds forced is here = tt
reached false old new adds forced is here = here ∙ ap (λ (l : Log). end_of l.forced) is

-- a log that isn't closed though its commit failed has its bytes
pub kept_bytes : {D : Type 0} {d : Ghosts D} (old new : RecordLog D d) (adds : List Record) (why : StepRefused) → FailsToCommit old adds new why → is_closed new ≡ false → d.tells (disk_of old) → d.seen (disk_of new) ≡ d.seen (disk_of old)
kept_bytes old new adds Failed fails is_open told = absurd (false≢true (sym is_open ∙ fails.0))
kept_bytes old new adds Stopped fails is_open told = absurd (false≢true (sym is_open ∙ fails.0))
kept_bytes old new adds Full fails is_open told = fails.0.bytes told
kept_bytes old new adds Memory fails is_open told = fails.bytes told

module _ {D : Type 0} {d : Ghosts D} (c : ComId) (old : RecordLog D d) (v : Vol) (plan : Plan) (s : State) (adds : List Record) (r : Ready) (x : IsReadied c (end_of (records_of old).forced) v plan s adds r) (same : seen s ≡ v) where
  log_is : adding (records_of old) adds ≡ adding (records_of old) (effects_in plan).adds
  log_is = ap (adding (records_of old)) x.adds_are

  lands_is : landed c (end_of (all_of (records_of old) ++ adds)) v adds plan ≡ landed_behind c (records_of old) v plan
  lands_is = ap (λ (rs : List Record). landed c (end_of (all_of (records_of old) ++ rs)) v rs plan) x.adds_are

  must_is : r.forces ≡ must_force v (effects_in plan) (landed_behind c (records_of old) v plan)
  must_is = x.forces (end_of (all_of (records_of old) ++ adds)) ∙ ap (must_force v (effects_in plan)) lands_is

  pub fits_is : numbers_fit (landed_behind c (records_of old) v plan) ≡ true
  fits_is = ap numbers_fit (sym lands_is) ∙ x.fits (end_of (all_of (records_of old) ++ adds))

  -- what is forced is the batch of the step
  pub same_batch : commits.batch_of old adds r.forces ≡ batch c (records_of old) v plan
  same_batch =
      ap (λ (b : Bool). forced_if b (adding (records_of old) adds)) must_is
      ∙ ap (forced_if (must_force v (effects_in plan) (landed_behind c (records_of old) v plan))) log_is

  pub takes_as : CanTake old adds → CanTake old (effects_in plan).adds
  takes_as = subst (λ (rs : List Record). CanTake old rs) x.adds_are

  module _ (new : RecordLog D d) (z : Commits old adds r.forces new) (n : ℕ) (rs : List Record) (at : n ≡ end_of (all_of (records_of new))) (added : rs ≡ adds) where
    all_is : all_of (records_of new) ≡ all_of (records_of old) ++ adds
    all_is = ap all_of z.records ∙ all_split r.forces (records_of old) adds

    pub may_land : MayLand c n s (last_in rs) r.plan
    may_land = subst (λ (q : List Record). MayLand c n s (last_in q) r.plan) (sym added) (x.may n)

    here_is : landed c n (seen s) rs r.plan ≡ landed c n v adds r.plan
    here_is = ap (λ (u : Vol). landed c n u rs r.plan) same ∙ ap (λ (q : List Record). landed c n v q r.plan) added

    pub land_room : (forced : ℕ) → forced ≡ end_of (records_of new).forced → HasPacketRoom (effects_in r.plan).covers r.came forced (length r.puts.items) (vec_capacity r.puts) (landed c n (seen s) rs r.plan)
    land_room forced is =
        subst (λ (b : Bool). HasPacketRoom b r.came forced (length r.puts.items) (vec_capacity r.puts) (landed c n (seen s) rs r.plan)) (sym (ap (λ (e : step.Effects). e.covers) x.rest))
        (subst (λ (u : Vol). HasPacketRoom (effects_in plan).covers r.came forced (length r.puts.items) (vec_capacity r.puts) u) (sym here_is) (x.room n forced (reached r.forces (records_of old) (records_of new) adds forced z.records is) (λ some. subst (λ (k : ℕ). end_of (records_of old).forced < k) (sym (at ∙ ap end_of all_is)) (ends_behind (records_of old).forced (records_of old).buffered adds some))))

    there : landed c n (seen s) rs r.plan ≡ landed_behind c (records_of old) v plan
    there = here_is ∙ x.lands n adds ∙ ap (λ (k : ℕ). landed c k v adds plan) (at ∙ ap end_of all_is) ∙ lands_is

    module _ (now : Vol) (told : Step) (y : Lands c r.came (answering (effects_in r.plan) r.puts.items) (records_of new) (landed c n (seen s) rs r.plan) now told) where
      pub fits_now : numbers_fit now ≡ true
      fits_now =
          let e = answering (effects_in r.plan) r.puts.items in
          ap (λ (q : step.Pcom). numbers_fit q.vol) y.state ∙ put_fits c r.came e (records_of new) (landed c n (seen s) rs r.plan) (ap numbers_fit there ∙ fits_is)

      pub peers_now : HasPeers v → HasPeers now
      peers_now peers =
          let e = answering (effects_in r.plan) r.puts.items in
          let Has : step.Pcom → Type 0 = λ q. HasPeers q.vol in
          let first : HasPeers (seen s) = subst (λ (u : Vol). HasPeers u) (sym same) peers in
          subst Has (sym y.state) (put_peers c r.came e (records_of new) (landed c n (seen s) rs r.plan) (landed_peers c n s rs r.plan may_land first))

      whole : put_with c r.came (answering (effects_in r.plan) r.puts.items) (up (records_of new) (step.cover_if (effects_in r.plan).covers (up (records_of new) (landed c n (seen s) rs r.plan))).vol) ≡ landing c (records_of old) v plan
      whole =
          let e = effects_in plan in
          let l = records_of old in
          let m = records_of new in
          let w = landed_behind c l v plan in
          ap (λ (q : Effects). put_with c r.came (answering q r.puts.items) (up m (step.cover_if q.covers (up m (landed c n (seen s) rs r.plan))).vol)) x.rest
          ∙ ap (λ (ps : List Packet). put_with c r.came (record e { adds = []; answers = ps }) (up m (step.cover_if e.covers (up m (landed c n (seen s) rs r.plan))).vol)) x.puts_are
          ∙ ap (λ (u : Vol). put_with c r.came e (up m (step.cover_if e.covers (up m u)).vol)) there
          ∙ finishes c v w e r.came r.forces (adding l e.adds) m (step.cover_if e.covers (up m w)).vol must_is (λ u txn. x.came (end_of (all_of l ++ adds)) u (txn ∙ ap (λ (q : Vol). q.txn) (sym lands_is))) (z.records ∙ ap (split_if r.forces) log_is) refl

      pub leads_to : up (records_of new) now ≡ (landing c (records_of old) v plan).pcom
      leads_to = y.state ∙ ap (λ (t : StepResult). t.pcom) whole

      pub tells_of : told ≡ told_of (landing c (records_of old) v plan)
      tells_of = y.tells ∙ ap told_of whole

module _ {D : Type 0} {d : Ghosts D} (program : Program) (p : Pcom D d) (call : Call) (v : Vol) (here : component_of p ≡ up (records_of p.log) v) (plan : Plan) (is : IsPlanned program p call plan) (may : MayFollow v plan) (limits : numbers_fit v ≡ true)
    (new : Pcom D d) (s : State) (same : seen s ≡ v) (becomes : component_of new ≡ up (records_of new.log) (seen s)) (closed : views.is_closed new ≡ is_closed new.log) (played : played_of new ≡ played_of p) where
  still : IsStill p.log new.log → IsUnmoved p new
  still x = record {
    same = becomes ∙ ap (λ (l : Log). up l (seen s)) x.records ∙ ap (up (records_of p.log)) same ∙ sym here;
    size = x.size;
    played = played;
    bytes = x.bytes;
    is_open = closed ∙ x.is_open;
  }

  -- a refused commit is that of the step
  pub commit_fails : (adds : List Record) (r : Ready) → IsReadied (com_of p) (end_of (records_of p.log).forced) v plan s adds r → (why : StepRefused) → FailsToCommit p.log adds new.log why → FailsToStep program p call new why
  commit_fails adds r x Failed fails = (closed ∙ fails.0, fails.1, planned_room program p call v here plan is may (takes_as (com_of p) p.log v plan s adds r x same fails.2).room (fits_is (com_of p) p.log v plan s adds r x same))
  commit_fails adds r x Stopped fails =
      let takes = takes_as (com_of p) p.log v plan s adds r x same fails.2 in
      (closed ∙ fails.0, fails.1, planned_room program p call v here plan is may takes.room (fits_is (com_of p) p.log v plan s adds r x same), planned_stands program p call v here plan is may takes)
  commit_fails adds r x Full fails = (still fails.0, planned_full program p call v here plan is may limits (inl (subst (λ (rs : List Record). LacksRoom p.log rs true) x.adds_are fails.1)))
  commit_fails adds r x Memory fails = still fails

  -- so is a step that isn't made ready
  pub ready_fails : new.log ≡ p.log → is_closed p.log ≡ false → (why : StepRefused) → FailsToReady (com_of p) v plan why → FailsToStep program p call new why
  ready_fails stays opened Failed fails = absurd fails
  ready_fails stays opened Stopped fails = absurd fails
  ready_fails stays opened Full fails = (still (subst (λ (l : RecordLog D d). IsStill p.log l) (sym stays) (record { records = refl; size = refl; bytes = λ told. refl; is_open = opened })), planned_full program p call v here plan is may limits (inr (fails (end_of (all_of (records_of p.log) ++ (effects_in plan).adds)))))
  ready_fails stays opened Memory fails = still (subst (λ (l : RecordLog D d). IsStill p.log l) (sym stays) (record { records = refl; size = refl; bytes = λ told. refl; is_open = opened }))

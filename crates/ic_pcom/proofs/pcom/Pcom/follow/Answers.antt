use Rattle.std.proofs.Common.{◌≡◌, ◌∙◌, sym, ap, refl, subst, ◌+◌, List, length}
use Rattle.std.proofs.lemmas.Bool.{false≢true}
use Rattle.ic_base.specs.declared.record.Record.{Record}
use Rattle.def_state.specs.Vol.{numbers_fit}
use Rattle.def_step.specs.Pcom as step
use Rattle.ic_ckpt.specs.Views.{seen}
use Rattle.ic_disk.proofs.Disks.{crash_weaker, makes_named, makes_same}
use Rattle.ic_gate.specs.Calls.{gated_calls}
use Rattle.ic_gate.specs.RecordCalls.{size_with, record_writes}
use Rattle.ic_gate.specs.RecordFiles.{IsBeforeOrBehindFrom}
use Rattle.ic_gate.specs.RecordLogs.{records_of}
use Rattle.ic_gate.proofs.LogSizes.{size_walks, size_agrees, walk_stands, used_stands}
use Rattle.ic_pcom.proofs.Still.{keeps_log, leaves_still}
use Rattle.ic_pcom.specs.Carrying.{up}
use Rattle.ic_pcom.specs.Deciding.{MayFollow}
use Rattle.ic_pcom.specs.Landing.{landing}
use Rattle.ic_pcom.specs.Stages.{HasPeers, vol_of, rest_of}
use Rattle.ic_pcom.specs.Views.{component_of, disk_of, start_of, size_of, used_of}
use Rattle.ic_pcom.specs.declared.stage.Stage.{Stage}
use Rattle.ic_pcom.proofs.Followed.{kept_bytes, ready_at, fits_is, same_batch, takes_as, may_land, land_room, fits_now, peers_now, leads_to, tells_of, commit_fails, ready_fails}
use Rattle.ic_pcom.proofs.Landed.{planned_is, planned_batch, planned_room}
use Rattle.ic_pcom.proofs.Steps.{none_forced}
use Rattle.ic_pcom.proofs.pcom.Pcom.follow.Goals as goal

pub land-requires-clause-may : goal.land-requires-clause-may
land-requires-clause-may g c =
    let p = c.args.self.now in
    may_land p.«com» p.log (seen c.in-Up.state) c.args.plan c.make_ready.new.state c.as_slice.result.now c.in-Ok.ready (ready_at _ _ _ _ _ _ _ _ _ c.forced_end-before.ensures c.as_slice.ensures (c.in-Ok.ensures {u = tt}).ready) c.make_ready.ensures.same c.commit.new.self (c.in-Ok-commit.ensures {u = tt}).step
    c.end-end.result c.as_slice-in-Ok-commit.result.now c.end-end.ensures (c.as_slice-in-Ok-commit.ensures ∙ sym c.as_slice.ensures)

pub land-requires-clause-room : goal.land-requires-clause-room
land-requires-clause-room g c =
    let p = c.args.self.now in
    land_room p.«com» p.log (seen c.in-Up.state) c.args.plan c.make_ready.new.state c.as_slice.result.now c.in-Ok.ready (ready_at _ _ _ _ _ _ _ _ _ c.forced_end-before.ensures c.as_slice.ensures (c.in-Ok.ensures {u = tt}).ready) c.make_ready.ensures.same c.commit.new.self (c.in-Ok-commit.ensures {u = tt}).step
    c.end-end.result c.as_slice-in-Ok-commit.result.now c.end-end.ensures (c.as_slice-in-Ok-commit.ensures ∙ sym c.as_slice.ensures) c.forced_end-forced.result c.forced_end-forced.ensures

pub invariant_of-self : goal.invariant_of-self
invariant_of-self g c =
    let p = c.args.self.now in
    let v = seen c.in-Up.state in
    let new = c.commit.new.self in
    let z = (c.in-Ok-commit.ensures {u = tt}).step in
    let y = c.land.ensures.lands (records_of new) (sym c.end-end.ensures) (sym c.forced_end-forced.ensures) in
    let first : vol_of p.stage ≡ v = ap vol_of c.in-Up.is in
    record {
      durable = λ keeps is. new.durable keeps z.is_open;
      settled = λ is. new.settled z.is_open;
      opened = λ is. z.is_open;
      placed = λ told is no. absurd (false≢true (sym no));
      limits = fits_now p.«com» p.log v c.args.plan c.make_ready.new.state c.as_slice.result.now c.in-Ok.ready (ready_at _ _ _ _ _ _ _ _ _ c.forced_end-before.ensures c.as_slice.ensures (c.in-Ok.ensures {u = tt}).ready) c.make_ready.ensures.same new z
          c.end-end.result c.as_slice-in-Ok-commit.result.now c.end-end.ensures (c.as_slice-in-Ok-commit.ensures ∙ sym c.as_slice.ensures) (seen c.land.new.state) c.land.result y;
      peers = peers_now p.«com» p.log v c.args.plan c.make_ready.new.state c.as_slice.result.now c.in-Ok.ready (ready_at _ _ _ _ _ _ _ _ _ c.forced_end-before.ensures c.as_slice.ensures (c.in-Ok.ensures {u = tt}).ready) c.make_ready.ensures.same new z
          c.end-end.result c.as_slice-in-Ok-commit.result.now c.end-end.ensures (c.as_slice-in-Ok-commit.ensures ∙ sym c.as_slice.ensures) (seen c.land.new.state) c.land.result y (let Has : Stage → Type 0 = λ st. HasPeers (vol_of st) in subst Has c.in-Up.is p.peers);
      rests = refl;
      replays = λ no. absurd (false≢true (sym no));
      counted = λ no. absurd (false≢true (sym no));
    }

pub returns-in-Ok-commit-clause-step : goal.returns-in-Ok-commit-clause-step
returns-in-Ok-commit-clause-step g c program call is =
    let p = c.args.self.now in
    let v = seen c.in-Up.state in
    let here : component_of p ≡ up (records_of p.log) v = ap (λ (st : Stage). record { log = records_of p.log; vol = vol_of st; rest = rest_of st }) c.in-Up.is in
    let may : MayFollow v c.args.plan = let Of : Stage → Type 0 = λ st. MayFollow (vol_of st) c.args.plan in subst Of c.in-Up.is c.requires.ready in
    let new = c.commit.new.self in
    let ready = (ready_at _ _ _ _ _ _ _ _ _ c.forced_end-before.ensures c.as_slice.ensures (c.in-Ok.ensures {u = tt}).ready) in
    let z = (c.in-Ok-commit.ensures {u = tt}).step in
    let same = c.make_ready.ensures.same in
    let s = c.make_ready.new.state in
    let y = c.land.ensures.lands (records_of new) (sym c.end-end.ensures) (sym c.forced_end-forced.ensures) in
    record {
      result = landing p.«com» (records_of p.log) v c.args.plan;
      step = planned_is program p call v here c.args.plan is may;
      leads = leads_to p.«com» p.log v c.args.plan s c.as_slice.result.now c.in-Ok.ready ready same new z c.end-end.result c.as_slice-in-Ok-commit.result.now c.end-end.ensures (c.as_slice-in-Ok-commit.ensures ∙ sym c.as_slice.ensures) (seen c.land.new.state) c.land.result y;
      tells = tells_of p.«com» p.log v c.args.plan s c.as_slice.result.now c.in-Ok.ready ready same new z c.end-end.result c.as_slice-in-Ok-commit.result.now c.end-end.ensures (c.as_slice-in-Ok-commit.ensures ∙ sym c.as_slice.ensures) (seen c.land.new.state) c.land.result y;
      room = planned_room program p call v here c.args.plan is may (takes_as p.«com» p.log v c.args.plan s c.as_slice.result.now c.in-Ok.ready ready same z.takes).room (fits_is p.«com» p.log v c.args.plan s c.as_slice.result.now c.in-Ok.ready ready same);
      size = z.size ∙ ap (size_with (size_of p)) (same_batch p.«com» p.log v c.args.plan s c.as_slice.result.now c.in-Ok.ready ready same ∙ sym (planned_batch program p call v here c.args.plan is may));
      played = ap (λ (q : step.Pcom). p.played + length q.rest) (sym here);
      is_open = c.requires.open;
    }

pub returns-in-Ok-commit-clause-log : goal.returns-in-Ok-commit-clause-log
returns-in-Ok-commit-clause-log g c =
    let p = c.args.self.now in
    let opened = p.opened c.requires.open in
    let x = c.in-Ok-commit.ensures {u = tt} in
    let new = c.commit.new.self in
    record {
      same = refl;
      start = x.log.start;
      disk = x.disk;
      sized = λ told. size_walks p.log told opened;
      of_file = λ told. size_agrees p.log told opened;
      listed = λ told. used_stands p.log told opened;
      stood = λ told. walk_stands p.log told opened;
      log = λ told is. x.log.reads told x.step.is_open;
      whose = λ told is. x.log.whose told x.step.is_open;
      still = λ told is same. x.log.still told (none_forced _ _ (records_of new) x.step.records same);
    }

pub returns-in-Ok-clause-log : goal.returns-in-Ok-clause-log
returns-in-Ok-clause-log g c =
    let p = c.args.self.now in
    let opened = p.opened c.requires.open in
    let x = c.in-Err-commit.ensures {u = tt} in
    let new = c.commit.new.self in
    record {
      same = refl;
      start = x.log.start;
      disk = x.disk;
      sized = λ told. size_walks p.log told opened;
      of_file = λ told. size_agrees p.log told opened;
      listed = λ told. used_stands p.log told opened;
      stood = λ told. walk_stands p.log told opened;
      log = λ told open_. x.log.reads told (sym c.is_closed-self.ensures ∙ open_);
      whose = λ told open_. x.log.whose told (sym c.is_closed-self.ensures ∙ open_);
      still = λ told open_ same. kept_bytes p.log new c.as_slice.result.now c.in-Err-commit.why x.refused (sym c.is_closed-self.ensures ∙ open_) told;
    }

pub returns-clause-log : goal.returns-clause-log
returns-clause-log g c =
    let k = keeps_log c.args.self.now c.requires.open in
    record { same = refl; start = refl; disk = k.disk; sized = k.sized; of_file = k.of_file; listed = k.listed; stood = k.stood; log = λ told is. k.log told c.requires.open; whose = λ told is. record { fingerprint = refl; owner = refl }; still = λ told is same. refl }

pub returns-in-Ok-commit-clause-crash : goal.returns-in-Ok-commit-clause-crash
returns-in-Ok-commit-clause-crash g c program call is =
    let p = c.args.self.now in
    let v = seen c.in-Up.state in
    let here : component_of p ≡ up (records_of p.log) v = ap (λ (st : Stage). record { log = records_of p.log; vol = vol_of st; rest = rest_of st }) c.in-Up.is in
    let may : MayFollow v c.args.plan = let Of : Stage → Type 0 = λ st. MayFollow (vol_of st) c.args.plan in subst Of c.in-Up.is c.requires.ready in
    let b = same_batch p.«com» p.log v c.args.plan c.make_ready.new.state c.as_slice.result.now c.in-Ok.ready (ready_at _ _ _ _ _ _ _ _ _ c.forced_end-before.ensures c.as_slice.ensures (c.in-Ok.ensures {u = tt}).ready) c.make_ready.ensures.same ∙ sym (planned_batch program p call v here c.args.plan is may) in
    crash_weaker (λ keeps image. subst (λ (b : List Record). IsBeforeOrBehindFrom (start_of p) (g.D.Disk.seen (disk_of p)) (records_of p.log).forced b image) b) c.commit.ensures.crash

pub returns-in-Ok-clause-crash : goal.returns-in-Ok-clause-crash
returns-in-Ok-clause-crash g c program call is =
    let p = c.args.self.now in
    let v = seen c.in-Up.state in
    let here : component_of p ≡ up (records_of p.log) v = ap (λ (st : Stage). record { log = records_of p.log; vol = vol_of st; rest = rest_of st }) c.in-Up.is in
    let may : MayFollow v c.args.plan = let Of : Stage → Type 0 = λ st. MayFollow (vol_of st) c.args.plan in subst Of c.in-Up.is c.requires.ready in
    let b = same_batch p.«com» p.log v c.args.plan c.make_ready.new.state c.as_slice.result.now c.in-Ok.ready (ready_at _ _ _ _ _ _ _ _ _ c.forced_end-before.ensures c.as_slice.ensures (c.in-Ok.ensures {u = tt}).ready) c.make_ready.ensures.same ∙ sym (planned_batch program p call v here c.args.plan is may) in
    crash_weaker (λ keeps image. subst (λ (b : List Record). IsBeforeOrBehindFrom (start_of p) (g.D.Disk.seen (disk_of p)) (records_of p.log).forced b image) b) c.commit.ensures.crash

pub returns-in-Ok-commit-clause-calls : goal.returns-in-Ok-commit-clause-calls
returns-in-Ok-commit-clause-calls g c program call is =
    let p = c.args.self.now in
    let v = seen c.in-Up.state in
    let here : component_of p ≡ up (records_of p.log) v = ap (λ (st : Stage). record { log = records_of p.log; vol = vol_of st; rest = rest_of st }) c.in-Up.is in
    let may : MayFollow v c.args.plan = let Of : Stage → Type 0 = λ st. MayFollow (vol_of st) c.args.plan in subst Of c.in-Up.is c.requires.ready in
    let b = same_batch p.«com» p.log v c.args.plan c.make_ready.new.state c.as_slice.result.now c.in-Ok.ready (ready_at _ _ _ _ _ _ _ _ _ c.forced_end-before.ensures c.as_slice.ensures (c.in-Ok.ensures {u = tt}).ready) c.make_ready.ensures.same ∙ sym (planned_batch program p call v here c.args.plan is may) in
    makes_same (ap (λ (b : List Record). gated_calls (record_writes (size_of p) (used_of p) b)) b) (makes_named _ (λ h. cc) (c.in-Ok-commit.ensures {u = tt}).calls)

pub returns-in-Ok-clause-calls : goal.returns-in-Ok-clause-calls
returns-in-Ok-clause-calls g c program call is =
    let p = c.args.self.now in
    let v = seen c.in-Up.state in
    let here : component_of p ≡ up (records_of p.log) v = ap (λ (st : Stage). record { log = records_of p.log; vol = vol_of st; rest = rest_of st }) c.in-Up.is in
    let may : MayFollow v c.args.plan = let Of : Stage → Type 0 = λ st. MayFollow (vol_of st) c.args.plan in subst Of c.in-Up.is c.requires.ready in
    let b = same_batch p.«com» p.log v c.args.plan c.make_ready.new.state c.as_slice.result.now c.in-Ok.ready (ready_at _ _ _ _ _ _ _ _ _ c.forced_end-before.ensures c.as_slice.ensures (c.in-Ok.ensures {u = tt}).ready) c.make_ready.ensures.same ∙ sym (planned_batch program p call v here c.args.plan is may) in
    makes_same (ap (λ (b : List Record). gated_calls (record_writes (size_of p) (used_of p) b)) b) (makes_named _ (λ h. cc) (c.in-Err-commit.ensures {u = tt}).calls)

pub returns-in-Ok-clause-refused : goal.returns-in-Ok-clause-refused
returns-in-Ok-clause-refused g c program call is =
    let p = c.args.self.now in
    let v = seen c.in-Up.state in
    let here : component_of p ≡ up (records_of p.log) v = ap (λ (st : Stage). record { log = records_of p.log; vol = vol_of st; rest = rest_of st }) c.in-Up.is in
    let may : MayFollow v c.args.plan = let Of : Stage → Type 0 = λ st. MayFollow (vol_of st) c.args.plan in subst Of c.in-Up.is c.requires.ready in
    commit_fails program p call v here c.args.plan is may (ap (λ (st : Stage). numbers_fit (vol_of st)) (sym c.in-Up.is) ∙ p.limits) _ c.make_ready.new.state c.make_ready.ensures.same refl c.is_closed-self.ensures refl
    c.as_slice.result.now c.in-Ok.ready (ready_at _ _ _ _ _ _ _ _ _ c.forced_end-before.ensures c.as_slice.ensures (c.in-Ok.ensures {u = tt}).ready) c.in-Err-commit.why (c.in-Err-commit.ensures {u = tt}).refused

pub returns-clause-crash : goal.returns-clause-crash
returns-clause-crash g c program call is =
    let p = c.args.self.now in
    let law = g.met.D.Disk in
    leaves_still {D = g.row.D.Denot} {d = g.D.Disk} p program call c.requires.open law.only_now law.keeping_tells

pub returns-clause-refused : goal.returns-clause-refused
returns-clause-refused g c program call is =
    let p = c.args.self.now in
    let v = seen c.in-Up.state in
    let here : component_of p ≡ up (records_of p.log) v = ap (λ (st : Stage). record { log = records_of p.log; vol = vol_of st; rest = rest_of st }) c.in-Up.is in
    let may : MayFollow v c.args.plan = let Of : Stage → Type 0 = λ st. MayFollow (vol_of st) c.args.plan in subst Of c.in-Up.is c.requires.ready in
    ready_fails program p call v here c.args.plan is may (ap (λ (st : Stage). numbers_fit (vol_of st)) (sym c.in-Up.is) ∙ p.limits) _ c.make_ready.new.state c.make_ready.ensures.same refl (c.requires.open ∙ sym (p.opened c.requires.open)) refl
    refl (p.opened c.requires.open) c.in-Err.why (c.in-Err.ensures {u = tt}).refused

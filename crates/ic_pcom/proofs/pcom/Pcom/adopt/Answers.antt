use Rattle.std.proofs.Common.{◌≡◌, ◌∙◌, sym, ap, subst, refl, arith, ℕ, false, List, [], length}
use Rattle.std.specs.Prelude.{Result, Ok, Some}
use Rattle.std.proofs.lemmas.Result.{err_from_is_err_and}
use Rattle.ic_base.specs.declared.record.Record.{Record}
use Rattle.def_log.specs.Log.{Placed, records_in, ◌>>=◌}
use Rattle.def_standby.specs.Standbys.{contents_among}
use Rattle.def_state.specs.Positions.{end_of}
use Rattle.def_state.specs.Vol.{Vol, numbers_fit}
use Rattle.def_step.specs.Pcom.{Log}
use Rattle.ic_ckpt.specs.Views.{seen}
use Rattle.ic_disk.specs.Disk.{Keeps, CrashLeaves, Makes}
use Rattle.ic_disk.proofs.Disks.{makes_refused}
use Rattle.ic_gate.specs.Reading.{load_calls}
use Rattle.ic_gate.specs.declared.refusals.LoadWhy.TheVariants.{Failed}
use Rattle.ic_gate.specs.Logs as logs
use Rattle.ic_gate.specs.RecordFiles.{records_from}
use Rattle.ic_gate.specs.RecordLogs as records
use Rattle.ic_in.specs.Senders.{are_components}
use Rattle.ic_wire.proofs.Placing.{all_alone}
use Rattle.ic_pcom.specs.Carrying.{up}
use Rattle.ic_pcom.proofs.Adopts.{on_peers, not_adopted, not_played_on, behind_within}
use Rattle.ic_pcom.proofs.pcom.Pcom.adopt.Goals as goal

pub new-requires-clause-open : goal.new-requires-clause-open
new-requires-clause-open g c = c.in_ok-log.ensures.step.is_open

pub new-requires-clause-alone : goal.new-requires-clause-alone
new-requires-clause-alone g c = c.in_ok-log.ensures.step.buffered

pub new-requires-clause-ended : goal.new-requires-clause-ended
new-requires-clause-ended g c = c.in_ok-log.ensures.step.forced ∙ ap end_of (sym (c.in-Ok.ensures {u = tt}).played.whole)

pub new-requires-clause-read : goal.new-requires-clause-read
new-requires-clause-read g c told =
    let x = c.in_ok-log.ensures in
    let before = x.disk.tells.1 told in
    ap (records_from (logs.start_of c.in_ok-log.log)) (x.step.bytes before) ∙ ap (λ (r : Result (List Placed) ℕ). r >>= λ rs. Ok (records_in rs)) (x.step.walk before)
    ∙ ap (λ (rs : List Record). Ok rs) (sym (c.in-Ok.ensures {u = tt}).played.whole)

pub invariant_of-result : goal.invariant_of-result
invariant_of-result g c =
    let p = (c.in-Ok.ensures {u = tt}).played in
    let n = c.new.ensures in
    let peers = on_peers c.args.program.now c.args.«com» (contents_among c.args.«com» c.args.msgs.now) (seen c.args.state) c.args.have (records_in c.in_ok-log.placed) p.state (all_alone c.in_ok-log.placed c.in_ok-log.ensures.step.fit) c.requires.peers p.plays in
    record {
      durable = λ keeps up. c.new.result.durable keeps n.is_open;
      settled = λ up. c.new.result.settled n.is_open;
      opened = λ up. n.is_open;
      placed = λ told up down. cc;
      limits = ap numbers_fit p.is ∙ p.limits;
      peers = ap (λ (v : Vol). are_components v.inbox.taken) p.is ∙ peers;
      rests = refl;
      replays = λ down. cc;
      counted = λ down. cc;
    }

pub returns-in-Ok-clause-step : goal.returns-in-Ok-clause-step
returns-in-Ok-clause-step g c =
    let x = c.in_ok-log.ensures.step in
    let p = (c.in-Ok.ensures {u = tt}).played in
    let n = c.new.ensures in
    let all = records_in c.in_ok-log.placed in
    let l : Log = record { forced = all; buffered = [] } in
    let log : records.records_of c.new.result ≡ l = ap (λ (fs : List Record). record { forced = fs; buffered = (records.records_of c.new.result).buffered }) (n.forced ∙ p.whole) ∙ ap (λ (bs : List Record). record { forced = all; buffered = bs }) n.buffered in
    record {
      records = all;
      state = p.state;
      plays = p.plays;
      within = let within = p.within in omega (arith, ap length p.whole);
      leads = ap (λ (k : Log). up k (seen c.in-Ok.state)) log ∙ ap (λ (v : Vol). up l v) p.is;
      read = λ told. ap (λ (o : Result (List Placed) ℕ). o >>= λ rs. Ok (records_in rs)) (x.read told);
      start = n.start ∙ x.start;
      sized = λ told. x.sized told ∙ ap (λ (k : ℕ). Some k) (sym n.size);
      own = x.own;
      owned = x.owner_same;
      bytes = λ told. ap g.D.Disk.seen n.disk ∙ x.bytes told;
      played = let within = p.within in omega (arith, ap length p.whole);
      which = refl;
      is_open = refl;
    }

pub returns-in-Ok-clause-disk : goal.returns-in-Ok-clause-disk
returns-in-Ok-clause-disk g c = subst (λ (disk : g.row.D.Denot). Keeps g.D.Disk c.args.disk disk) (sym c.new.ensures.disk) c.in_ok-log.ensures.disk

pub returns-in-Ok-clause-crash : goal.returns-in-Ok-clause-crash
returns-in-Ok-clause-crash g c = subst (λ (disk : g.row.D.Denot). CrashLeaves g.D.Disk c.args.disk disk (g.D.Disk.may_leave c.args.disk)) (sym c.new.ensures.disk) c.in_ok-log.ensures.crash

pub returns-in-Ok-clause-bound : goal.returns-in-Ok-clause-bound
returns-in-Ok-clause-bound g c told = behind_within g.D.Disk c.args.program.now c.args.«com» (contents_among c.args.«com» c.args.msgs.now) (seen c.args.state) c.args.have c.args.disk c.args.fingerprint.now c.in_ok-log.log c.in_ok-log.placed _ _ c.in_ok-log.ensures.step (c.play_on.ensures.bound) told

pub returns-in-Err-clause-disk : goal.returns-in-Err-clause-disk
returns-in-Err-clause-disk g c = subst (λ (disk : g.row.D.Denot). Keeps g.D.Disk c.args.disk disk) (sym c.into_disk.ensures) c.in_ok-log.ensures.disk

pub returns-in-Err-clause-crash : goal.returns-in-Err-clause-crash
returns-in-Err-clause-crash g c = subst (λ (disk : g.row.D.Denot). CrashLeaves g.D.Disk c.args.disk disk (g.D.Disk.may_leave c.args.disk)) (sym c.into_disk.ensures) c.in_ok-log.ensures.crash

pub returns-in-Err-clause-refused : goal.returns-in-Err-clause-refused
returns-in-Err-clause-refused g c =
    rw c.into_disk.ensures (not_played_on g.D.Disk c.args.program.now c.args.«com» (contents_among c.args.«com» c.args.msgs.now) (seen c.args.state) c.args.have g.met.D.Disk.keeping_tells c.args.disk c.args.fingerprint.now c.in_ok-log.log c.in_ok-log.placed c.size-size.result c.in-Err.why c.in_ok-log.ensures.step c.in_ok-log.ensures.disk c.size-size.ensures.value (c.in-Err.ensures {u = tt}).refused)

pub returns-in-Err-clause-calls : goal.returns-in-Err-clause-calls
returns-in-Err-clause-calls g c =
    let P : g.row.D.Denot → Type 0 = λ x. Makes g.D.Disk load_calls false (c.in-Err.why ≡ Failed) c.args.disk x in
    subst P (sym c.into_disk.ensures) (makes_refused _ c.in_ok-log.ensures.calls)

pub returns-in-Err-clause-bound : goal.returns-in-Err-clause-bound
returns-in-Err-clause-bound g c told = behind_within g.D.Disk c.args.program.now c.args.«com» (contents_among c.args.«com» c.args.msgs.now) (seen c.args.state) c.args.have c.args.disk c.args.fingerprint.now c.in_ok-log.log c.in_ok-log.placed _ _ c.in_ok-log.ensures.step (c.play_on.ensures.bound) told

pub returns-in_err-log-clause-disk : goal.returns-in_err-log-clause-disk
returns-in_err-log-clause-disk g c =
    let p = err_from_is_err_and c.from_residual.result c.from_residual.ensures.1 in
    rw (p.1, p.2) c.in_err-log.ensures.disk

pub returns-in_err-log-clause-crash : goal.returns-in_err-log-clause-crash
returns-in_err-log-clause-crash g c =
    let p = err_from_is_err_and c.from_residual.result c.from_residual.ensures.1 in
    rw (p.1, p.2) c.in_err-log.ensures.crash

pub returns-in_err-log-clause-calls : goal.returns-in_err-log-clause-calls
returns-in_err-log-clause-calls g c =
    let p = err_from_is_err_and c.from_residual.result c.from_residual.ensures.1 in
    rw (p.1, p.2) c.in_err-log.ensures.calls

pub returns-in_err-log-clause-refused : goal.returns-in_err-log-clause-refused
returns-in_err-log-clause-refused g c =
    let p = err_from_is_err_and c.from_residual.result c.from_residual.ensures.1 in
    rw (p.1, p.2) (not_adopted g.D.Disk c.args.program.now c.args.«com» (contents_among c.args.«com» c.args.msgs.now) (seen c.args.state) c.args.have c.args.disk c.args.fingerprint.now _ _ c.in_err-log.ensures.refused)

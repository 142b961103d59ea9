use Rattle.std.proofs.Common.{◌≡◌, ◌∙◌, sym, ap, subst, refl, arith, ℕ, ◌+◌, false, List, [], length}
use Rattle.std.proofs.lemmas.List.{length-map}
use Rattle.std.specs.List.{AllByRecursion}
use Rattle.std.specs.Prelude.{Result, Ok, Some, option_map}
use Rattle.ic_base.specs.declared.record.Record.{Record}
use Rattle.def_log.specs.Changes.{gate_from}
use Rattle.def_log.specs.Log.{Placed, records_in, ◌>>=◌}
use Rattle.def_log.specs.Spelling.{Fits}
use Rattle.def_state.specs.Positions.{end_of}
use Rattle.def_step.specs.Pcom.{Log, told, stands_at, needed_fetch, nothing_at_all}
use Rattle.def_step.specs.Replay.{Playing, behind_checkpoint}
use Rattle.ic_disk.specs.Disk.{Keeps, CrashLeaves, Makes}
use Rattle.ic_disk.proofs.Disks.{makes_refused}
use Rattle.ic_gate.specs.Reading.{tail_calls}
use Rattle.ic_gate.specs.declared.refusals.LoadWhy.{LoadWhy}
use Rattle.ic_gate.specs.declared.refusals.LoadWhy.TheVariants.{Failed, Memory}
use Rattle.ic_gate.specs.Logs as logs
use Rattle.ic_gate.specs.RecordFiles.{placed_from, records_from}
use Rattle.ic_gate.specs.RecordLogs as records
use Rattle.ic_gate.proofs.Headers.{read_rests}
use Rattle.ic_wire.proofs.Placing.{all_alone}
use Rattle.ic_pcom.specs.Logs.{places_read}
use Rattle.ic_pcom.specs.Standing.{staged}
use Rattle.ic_pcom.proofs.Recovers.{begun_peers}
use Rattle.ic_pcom.proofs.pcom.Pcom.recover.Goals as goal

pub stand-requires : goal.stand-requires
stand-requires g c =
    let x = c.in_ok-restored.ensures.step in
    let fit = all_alone x.placed x.loads.fit in
    record {
      fit = subst (AllByRecursion Fits) (sym x.begins.whole) fit;
      peers = begun_peers c.args.program.now c.args.«com» (records_in x.placed) c.in_ok-restored.restored.replay.playing fit x.begins.playing;
    }

pub new-requires-clause-open : goal.new-requires-clause-open
new-requires-clause-open g c = c.in_ok-restored.ensures.step.loads.is_open

pub new-requires-clause-alone : goal.new-requires-clause-alone
new-requires-clause-alone g c = c.in_ok-restored.ensures.step.loads.buffered

pub new-requires-clause-ended : goal.new-requires-clause-ended
new-requires-clause-ended g c =
    let x = c.in_ok-restored.ensures.step in
    x.loads.forced ∙ ap end_of (sym (c.in-Ok.ensures.records ∙ x.begins.whole))

pub new-requires-clause-read : goal.new-requires-clause-read
new-requires-clause-read g c told =
    let x = c.in_ok-restored.ensures.step in
    let before = c.in_ok-restored.ensures.disk.tells.1 told in
    ap (records_from (logs.start_of c.in_ok-restored.restored.log)) (x.loads.bytes before) ∙ ap (λ (r : Result (List Placed) ℕ). r >>= λ rs. Ok (records_in rs)) (x.loads.walk before)
    ∙ ap (λ (rs : List Record). Ok rs) (sym (c.in-Ok.ensures.records ∙ x.begins.whole))

pub invariant_of-up : goal.invariant_of-up
invariant_of-up g c =
    let x = c.in_ok-restored.ensures.step in
    let s = c.in-Ok.ensures.stage in
    let n = c.new.ensures in
    let whole : c.in-Ok.records ≡ records_in x.placed = c.in-Ok.ensures.records ∙ x.begins.whole in
    let forced : (records.records_of c.new.result).forced ≡ records_in x.placed = n.forced ∙ whole in
    record {
      durable = λ keeps up. c.new.result.durable keeps n.is_open;
      settled = λ up. c.new.result.settled n.is_open;
      opened = λ up. n.is_open;
      placed = λ told up down.
          let before = c.in_ok-restored.ensures.disk.tells.1 (subst g.D.Disk.tells n.disk told) in
          ap (λ (k : ℕ). places_read (placed_from k (g.D.Disk.seen (records.disk_of c.new.result)))) n.start
          ∙ ap (λ (disk : g.row.D.Denot). places_read (placed_from (logs.start_of c.in_ok-restored.restored.log) (g.D.Disk.seen disk))) n.disk
          ∙ ap (λ bytes. places_read (placed_from (logs.start_of c.in_ok-restored.restored.log) bytes)) (x.loads.bytes before)
          ∙ ap places_read (x.loads.walk before) ∙ sym x.places ∙ sym (s.places_are down);
      limits = s.limits;
      peers = s.peers;
      rests = s.rests;
      replays = λ down. (s.owner down ∙ ap (λ (o : _). o.0) x.begins.owner, ap length n.buffered, omega (arith, s.before down, ap length s.left, x.begins.before, ap length forced));
      counted = λ down. (s.played down ∙ sym c.played-played.ensures, omega (arith, c.played-played.ensures, ap length s.left, x.begins.played, ap (λ (rs : List Record). length (behind_checkpoint rs)) forced), omega (arith, ap length (s.places_are down), ap length x.places, ap length forced, length-map x.placed (λ (r : Placed). r.0), length-map x.placed (λ (r : Placed). r.1)));
    }

pub returns-in-Ok-clause-step : goal.returns-in-Ok-clause-step
returns-in-Ok-clause-step g c =
    let x = c.in_ok-restored.ensures.step in
    let s = c.in-Ok.ensures.stage in
    let n = c.new.ensures in
    let own = c.args.«com» in
    let all = records_in x.placed in
    let r = c.in_ok-restored.restored.replay in
    let whole : c.in-Ok.records ≡ all = c.in-Ok.ensures.records ∙ x.begins.whole in
    let l : Log = record { forced = all; buffered = [] } in
    let log : records.records_of c.new.result ≡ l = ap (λ (fs : List Record). record { forced = fs; buffered = (records.records_of c.new.result).buffered }) (n.forced ∙ whole) ∙ ap (λ (bs : List Record). record { forced = all; buffered = bs }) n.buffered in
    record {
      records = all;
      result = told (stands_at l r.playing) (needed_fetch own r.playing.rest) nothing_at_all;
      step = ap (λ o. option_map (λ (y : Playing). told (stands_at l y) (needed_fetch own y.rest) nothing_at_all) o) x.begins.playing;
      leads = ap (λ (k : Log). staged k c.in-Ok.stage) log ∙ c.in-Ok.ensures.stands l;
      tells = c.in-Ok.ensures.told (stands_at l r.playing);
      read = λ told. ap (λ (o : Result (List Placed) ℕ). o >>= λ rs. Ok (records_in rs)) (x.loads.read told);
      start = λ told. x.loads.start told ∙ sym n.start;
      sized = λ told. ap (λ (k : ℕ). option_map (λ gate. gate + 1) (gate_from k (g.D.Disk.seen c.args.disk))) n.start ∙ x.loads.sized told ∙ ap (λ (k : ℕ). Some k) (sym n.size);
      of_file = λ told size e. x.loads.of_file told size e ∙ sym n.size;
      own = x.loads.own;
      owned = x.loads.owner_same;
      bytes = λ told. ap g.D.Disk.seen n.disk ∙ x.loads.bytes told;
      played = omega (arith, c.played-played.ensures, ap length s.left, x.begins.played);
      which = refl;
      is_open = refl;
    }

pub returns-in-Ok-clause-disk : goal.returns-in-Ok-clause-disk
returns-in-Ok-clause-disk g c = subst (λ (disk : g.row.D.Denot). Keeps g.D.Disk c.args.disk disk) (sym c.new.ensures.disk) c.in_ok-restored.ensures.disk

pub returns-in-Ok-clause-crash : goal.returns-in-Ok-clause-crash
returns-in-Ok-clause-crash g c = subst (λ (disk : g.row.D.Denot). CrashLeaves g.D.Disk c.args.disk disk (g.D.Disk.may_leave c.args.disk)) (sym c.new.ensures.disk) c.in_ok-restored.ensures.crash

pub returns-in-Ok-clause-steps : goal.returns-in-Ok-clause-steps
returns-in-Ok-clause-steps g c = c.in_ok-restored.ensures.played ∙ ap (λ (n : ℕ). c.args.steps.now + n) (sym c.played-played.ensures)

pub returns-in-Err-clause-disk : goal.returns-in-Err-clause-disk
returns-in-Err-clause-disk g c = subst (λ (disk : g.row.D.Denot). Keeps g.D.Disk c.args.disk disk) (sym c.into_disk.ensures) c.in_ok-restored.ensures.disk

pub returns-in-Err-clause-crash : goal.returns-in-Err-clause-crash
returns-in-Err-clause-crash g c = subst (λ (disk : g.row.D.Denot). CrashLeaves g.D.Disk c.args.disk disk (g.D.Disk.may_leave c.args.disk)) (sym c.into_disk.ensures) c.in_ok-restored.ensures.crash

pub returns-in-Err-clause-calls : goal.returns-in-Err-clause-calls
returns-in-Err-clause-calls g c =
    subst (λ (disk : g.row.D.Denot). Makes g.D.Disk tail_calls false (◌≡◌ {A = LoadWhy} Memory Failed) c.args.disk disk) (sym c.into_disk.ensures) (makes_refused _ c.in_ok-restored.ensures.calls)

pub returns-in-Err-clause-refused : goal.returns-in-Err-clause-refused
returns-in-Err-clause-refused g c =
    let x = c.in_ok-restored.ensures in
    let log = c.in_ok-restored.restored.log in
    rw c.into_disk.ensures (read_rests g.D.Disk g.met.D.Disk.keeping_tells c.args.disk (logs.disk_of log) x.step.loads.bytes (λ keeps. log.durable (x.disk.keeps.0 keeps) x.step.loads.is_open))

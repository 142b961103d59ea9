-- A Pcom that comes up as its standby, and why it doesn't.
use Rattle.std.proofs.Common.{◌≡◌, ◌∙◌, sym, ap, inl, ℕ, zero, suc, ◌+◌, ◌-◌, ◌<◌, ◌≤◌, cond, List, [], ◌∷◌, length, drop, get_or, arith, Option, Some, option_map}
use Rattle.std.specs.List.{AllByRecursion}
use Rattle.std.specs.Prelude.{Ok}
use Rattle.std.proofs.lemmas.Bool.{le-ltb, lt-ltb}
use Rattle.std.proofs.lemmas.List.{length-map}
use Rattle.ic_base.specs.declared.messages.ComId.{ComId}
use Rattle.ic_base.specs.declared.record.Record.{Record}
use Rattle.ic_base.specs.declared.scenario.Program.{Program}
use Rattle.def_log.specs.Log.{Placed, records_in, ◌>>=◌}
use Rattle.def_log.specs.Loads.{placed_log_for}
use Rattle.def_log.specs.Spelling.{Fits}
use Rattle.def_run.specs.Refusals.{place_of}
use Rattle.def_standby.specs.Standbys.{play_all, stops_at}
use Rattle.def_state.specs.Hist.{Contents}
use Rattle.def_state.specs.Vol.{Vol}
use Rattle.ic_disk.specs.Disk.{Keeps}
use Rattle.ic_disk.specs.declared.disk.Disk.{Ghosts}
use Rattle.ic_gate.specs.Logs.{disk_of, size_of}
use Rattle.ic_gate.specs.RecordFiles.{read_or_none}
use Rattle.ic_gate.specs.RecordLoads.{LoadsRecords, RefusesRecords}
use Rattle.ic_gate.specs.declared.log.Log.{Log}
use Rattle.ic_gate.proofs.Headers.{read_rests}
use Rattle.ic_gate.proofs.RecordLoads.{read_of_own}
use Rattle.ic_gate.specs.declared.refusals.LoadWhy.{LoadWhy}
use Rattle.ic_gate.specs.declared.refusals.LoadWhy.TheVariants.{Bad, Foreign, Failed, Stopped, Memory}
use Rattle.ic_replay.specs.Playing.{counted_from}
use Rattle.ic_standby.specs.Onward.{StopsShort}
use Rattle.ic_replay.specs.declared.refusals.ReplayRefused.{ReplayRefused}
use Rattle.ic_replay.specs.declared.refusals.ReplayRefused.TheVariants.{Misfit, Memory as Wanting}
use Rattle.ic_pcom.specs.Adopting.{stop_among, stop_place, behind_in, FailsToPlayOn, RefusesToAdopt}
use Rattle.ic_pcom.specs.Places.{places_of}
use Rattle.ic_pcom.specs.Stages.{HasPeers}
use Rattle.ic_pcom.proofs.Peers.{all_peers}
use Rattle.ic_pcom.proofs.Places.{place_of-places}

drop_fit : (n : ℕ) (rs : List Record) → AllByRecursion Fits rs → AllByRecursion Fits (drop n rs)
drop_fit zero rs fit = fit
drop_fit (suc n) [] fit = tt
drop_fit (suc n) (r ∷ rs) fit = drop_fit n rs fit.1

-- what was played on has taken messages of components alone
pub on_peers : (program : Program) (c : ComId) (contents : Contents) (v : Vol) (have : ℕ) (rs : List Record) (w : Vol) → AllByRecursion Fits rs → HasPeers v → play_all program c contents v (drop have rs) ≡ Some w → HasPeers w
on_peers program c contents v have rs w fit peers e = all_peers program c contents v (drop have rs) w (inl (drop_fit have rs fit)) peers e

-- a stop that is told by its number, told by its place
pub stop_told : (program : Program) (c : ComId) (contents : Contents) (v : Vol) (have size : ℕ) (rs : List Placed) (records : List Record) (places : List ℕ) (why : ReplayRefused) (i x : ℕ) → records ≡ records_in rs → places ≡ places_of rs → why ≡ Misfit i → have ≤ length records
    → StopsShort program c contents v have records why → stop_place program c contents v have (Some size) (Ok rs) ≡ Some (get_or places i x)
stop_told program c contents v have size rs records places Wanting i x alone stand is enough stops = absurd (cc)
stop_told program c contents v have size rs records places (Misfit j) i x alone stand is enough stops =
    let same : j ≡ i = cc in
    let many : length records ≡ length rs = ap length alone ∙ length-map rs (λ (r : Placed). r.1) in
    let within : i < length rs = omega (arith, same, stops.2, many) in
    let long : have ≤ length rs = omega (arith, enough, many) in
    ap (λ b. cond b (Some size) (stop_among program c contents v have rs)) (le-ltb (length rs) have long)
    ∙ ap (λ (l : List Record). option_map (place_of rs) (counted_from have (stops_at program c contents v (drop have l)))) (sym alone) ∙ ap (option_map (place_of rs)) stops.1
    ∙ ap (λ n. Some (place_of rs n)) same ∙ ap (λ (n : ℕ). Some n) (place_of-places rs i x within ∙ ap (λ l. get_or l i x) (sym stand))

-- a log that has fewer records
pub too_few : (program : Program) (c : ComId) (contents : Contents) (v : Vol) (have size : ℕ) (rs : List Placed) (records : List Record) → records ≡ records_in rs → length records < have → stop_place program c contents v have (Some size) (Ok rs) ≡ Some size
too_few program c contents v have size rs records alone few =
    let many : length records ≡ length rs = ap length alone ∙ length-map rs (λ (r : Placed). r.1) in
    ap (λ b. cond b (Some size) (stop_among program c contents v have rs)) (lt-ltb (length rs) have (omega (arith, few, many)))

module _ {D : Type 0} (d : Ghosts D) (program : Program) (c : ComId) (contents : Contents) (v : Vol) (have : ℕ) where
  -- a refusal of the records is one of the takeover
  pub not_adopted : (old : D) (given : List ℕ) (new : D) (why : LoadWhy) → RefusesRecords d old given c.0 new why → RefusesToAdopt d program c old given contents v have new why
  not_adopted old given new (Bad place) refused = record {
    place = λ told. ap (stop_place program c contents v have _) (refused.place told);
    not_foreign = refused.not_foreign;
    bytes = refused.bytes;
  }
  not_adopted old given new (Foreign kept) refused = refused
  not_adopted old given new Failed refused = refused.0
  not_adopted old given new Stopped refused = refused.0
  not_adopted old given new Memory refused = refused

  -- records that aren't played on refuse the takeover
  pub not_played_on : ((x : D) → d.keeps x → d.tells x) → (disk : D) (given : List ℕ) (log : Log D d) (placed : List Placed) (size : ℕ) (why : LoadWhy) → LoadsRecords d disk given c.0 (log, placed) → Keeps d disk (disk_of log) → size ≡ size_of log
      → FailsToPlayOn program c contents v have size placed why → RefusesToAdopt d program c disk given contents v have (disk_of log) why
  not_played_on tells disk given log placed size (Bad place) loads kept sized fails = record {
    place = λ told.
        ap (λ (o : Option ℕ). stop_place program c contents v have o (placed_log_for c.0 (d.seen disk))) (loads.sized told ∙ ap (λ (n : ℕ). Some n) (sym sized))
        ∙ ap (stop_place program c contents v have (Some size)) (read_of_own d disk given c.0 (log, placed) loads told) ∙ fails;
    not_foreign = λ told kept foreign. foreign.2 (foreign.1 ∙ loads.own told);
    bytes = loads.bytes;
  }
  not_played_on tells disk given log placed size (Foreign other) loads kept sized fails = absurd fails
  not_played_on tells disk given log placed size Failed loads kept sized fails = absurd fails
  not_played_on tells disk given log placed size Stopped loads kept sized fails = absurd fails
  not_played_on tells disk given log placed size Memory loads kept sized fails = read_rests d tells disk (disk_of log) loads.bytes (λ keeps. log.durable (kept.keeps.0 keeps) loads.is_open)

  -- no more is played than the records of the file behind the first `have`
  pub behind_within : (disk : D) (given : List ℕ) (log : Log D d) (placed : List Placed) (old new : ℕ) → LoadsRecords d disk given c.0 (log, placed) → new ≤ old + (length (records_in placed) - have) → d.tells disk → new ≤ old + behind_in have (d.seen disk)
  behind_within disk given log placed old new loads most told =
      let same : behind_in have (d.seen disk) ≡ length (records_in placed) - have = ap (λ r. length (read_or_none (r >>= λ rs. Ok (records_in rs))) - have) (loads.read told) in
      omega (arith, most, same)

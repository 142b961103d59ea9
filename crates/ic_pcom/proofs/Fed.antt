-- A component whose replay is fed.
use Rattle.std.proofs.Common.{◌≡◌, ◌∙◌, sym, ap, refl, ℕ, ◌≤◌, true, false, [], length, drop, arith, Option, Some, None}
use Rattle.std.specs.Prelude.{not, ◌&&◌, option_map}
use Rattle.std.proofs.Math.Seq.{drop-length}
use Rattle.ic_base.specs.declared.limits.TheConstants.{COMPONENTS}
use Rattle.ic_base.specs.declared.messages.Msg.{Msg}
use Rattle.ic_base.specs.declared.messages.Packet.TheVariants.{Data}
use Rattle.ic_base.specs.declared.scenario.Program.{Program}
use Rattle.def_step.specs.Packets.{fits_pcom}
use Rattle.def_step.specs.Pcom as step
use Rattle.def_step.specs.Pcom.{Gets, Log, is_needed, stands_at, standing_at}
use Rattle.def_step.specs.Replay.{Playing, feed}
use Rattle.ic_disk.specs.declared.disk.Disk.{Ghosts}
use Rattle.ic_gate.specs.RecordCalls.{size_with}
use Rattle.ic_gate.specs.RecordLogs as records
use Rattle.ic_gate.specs.RecordLogs.{records_of}
use Rattle.ic_gate.specs.declared.record_log.RecordLog.{RecordLog}
use Rattle.ic_pcom.specs.Restaging.{IsFed, IsMisfit, Rises, RisesTo}
use Rattle.ic_pcom.specs.Stages.{HasPeers, vol_of, rest_of, is_up, places_in, before_of, played_in}
use Rattle.ic_pcom.specs.Standing.{staged}
use Rattle.ic_pcom.specs.Stepping.{forced_by, step_of, batch_of, Does, MeetsMisfit}
use Rattle.ic_pcom.specs.Views.{component_of, com_of, disk_of, start_of, size_of, is_closed, played_of}
use Rattle.ic_pcom.specs.declared.pcom.Pcom.{Pcom}
use Rattle.ic_pcom.specs.declared.stage.Stage.{Stage}
use Rattle.ic_pcom.specs.declared.step.Step.{Step}
use Rattle.ic_pcom.proofs.Feeds.{wanted_feeds, fed_log}
use Rattle.ic_pcom.proofs.Misfits.{fed_at}
use Rattle.ic_pcom.proofs.Peers.{fed_peers}
use Rattle.ic_pcom.proofs.Steps.{replays_within}
use Rattle.ic_pcom.proofs.Waiting.{ComesTo, feeds_to}
use Rattle.ic_pcom.proofs.Wanted.{needs, wanted_peer, takes_from}

module _ {D : Type 0} {d : Ghosts D} (program : Program) (p : Pcom D d) (m : Msg)
    (opened : is_closed p ≡ false) (down : is_up p.stage ≡ false) (both : (fits_pcom program (com_of p) (Data m) && is_needed (component_of p).rest m) ≡ true) where
  pub replays : step.is_replaying (component_of p) ≡ true
  replays = ap not (sym p.rests ∙ down)

  batch_by : (o : Option Playing) → forced_by (component_of p) (option_map (λ (x : Playing). step.fed (com_of p) (stands_at (records_of p.log) x)) o) ≡ []
  batch_by None = refl
  batch_by (Some x) = ap (λ (l : Log). drop (length (records_of p.log).forced) l.forced) (fed_log (com_of p) (records_of p.log) x.vol x.rest) ∙ drop-length (records_of p.log).forced

  -- nothing is forced
  pub wanted_batch : batch_of program p (Gets (Data m)) ≡ []
  wanted_batch =
      ap (forced_by (component_of p)) (wanted_feeds program (com_of p) (component_of p) m replays both) ∙ batch_by (feed program (com_of p) (vol_of p.stage) m (rest_of p.stage))

  module _ (mid : Stage) (fed : IsFed program m p.stage mid) where
    pub fed_comes : ComesTo (vol_of p.stage) (rest_of p.stage) (record { vol = vol_of mid; rest = rest_of mid })
    fed_comes = feeds_to program (com_of p) (vol_of p.stage) m (rest_of p.stage) (record { vol = vol_of mid; rest = rest_of mid }) p.limits (fed.feeds (com_of p) (p.replays down).0)

    pub fed_has_peers : length program.components ≤ COMPONENTS → HasPeers (vol_of mid)
    fed_has_peers few =
        fed_peers program (com_of p) (vol_of p.stage) m (rest_of p.stage) (record { vol = vol_of mid; rest = rest_of mid }) few
        (takes_from (rest_of p.stage) m.from m.k (wanted_peer program (com_of p) (rest_of p.stage) m few both) (needs program (com_of p) (rest_of p.stage) m both)) p.peers (fed.feeds (com_of p) (p.replays down).0)

    fed_step : step_of program p (Gets (Data m)) ≡ Some (step.fed (com_of p) (standing_at (records_of p.log) (vol_of mid) (rest_of mid)))
    fed_step =
        wanted_feeds program (com_of p) (component_of p) m replays both
        ∙ ap (λ o. option_map (λ (x : Playing). step.fed (com_of p) (stands_at (records_of p.log) x)) o) (fed.feeds (com_of p) (p.replays down).0)

    pub fed_does : (new : Pcom D d) (tells : Step) → Rises mid new.stage → RisesTo (com_of p) (records_of p.log) mid new.stage tells
        → new.log ≡ p.log → played_of new ≡ played_in mid → is_closed new ≡ false → Does program p (Gets (Data m)) new tells
    fed_does new tells rises to log played open_ = record {
      result = step.fed (com_of p) (standing_at (records_of p.log) (vol_of mid) (rest_of mid));
      step = fed_step;
      leads = ap (λ (l : RecordLog D d). staged (records_of l) new.stage) log ∙ to.leads;
      tells = to.tells;
      room = replays_within program p (Gets (Data m)) replays;
      size = ap (λ (l : RecordLog D d). records.size_of l) log ∙ ap (size_with (size_of p)) (sym wanted_batch);
      played = omega (arith, played, ap length rises.left, fed.played, (p.counted down).0);
      is_open = open_;
    }

  pub misfit_met : (place : ℕ) (mid : Stage) (new : Pcom D d) → IsMisfit program m p.stage place mid → new.log ≡ p.log → is_closed new ≡ true → MeetsMisfit program p (Data m) place new
  misfit_met place mid new met log closes =
      let own = (p.replays down).0 in
      record {
        none = wanted_feeds program (com_of p) (component_of p) m replays both ∙ ap (λ o. option_map (λ (x : Playing). step.fed (com_of p) (stands_at (records_of p.log) x)) o) (met.none (com_of p) own);
        place_in = λ told. fed_at program (com_of p) (start_of p) (d.seen (disk_of p)) (component_of p) m (places_in p.stage) (before_of p.stage) met.number place both (p.placed told opened down) (p.counted down).2
            (p.replays down).1 (p.replays down).2 (met.counted (com_of p) own) met.within met.place_is;
        bytes = λ told. ap (λ (l : RecordLog D d). d.seen (records.disk_of l)) log;
        closes = closes;
      }

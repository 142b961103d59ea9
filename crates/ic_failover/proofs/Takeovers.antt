-- What a takeover by a standby comes to.
use Rattle.std.proofs.Common.{◌≡◌, refl, subst, ℕ, List, true, false, Some, None, length, drop}
use Rattle.std.specs.Prelude.{filter_map}
use Rattle.ic_base.specs.declared.messages.ComId.{ComId}
use Rattle.ic_base.specs.declared.messages.Msg.{Msg}
use Rattle.ic_base.specs.declared.refusals.WorldRefused.{WorldRefused}
use Rattle.ic_base.specs.declared.scenario.Program.{Program}
use Rattle.def_facts.specs.Logs.{message_in}
use Rattle.def_failover.specs.Orders.{holds_of}
use Rattle.def_failover.specs.declared.note.Note.TheVariants as notes
use Rattle.def_run.specs.CoreSteps.{forced_of}
use Rattle.def_standby.specs.Standbys.{Standby, contents_among}
use Rattle.def_state.specs.Vol.{Vol}
use Rattle.def_step.specs.Settle.{is_down, replays}
use Rattle.def_step.specs.World.{node_at}
use Rattle.ic_disk.specs.TornDisks.{Torn}
use Rattle.ic_disk.specs.declared.disk.Disk.{Ghosts}
use Rattle.ic_failover.proofs.Answering.{takes_leap}
use Rattle.ic_failover.specs.Sides.{Beside}
use Rattle.ic_failover.specs.Taking.{TookOver, WasRefused}
use Rattle.ic_run.specs.declared.running.Cut.TheVariants as cuts
use Rattle.ic_world.specs.Acting.{KeepsOthers}
use Rattle.ic_world.specs.Stepping.{CrashLeavesFiles}
use Rattle.ic_world.specs.TakingOver.{TakesOn, CrashLeavesThem, LeavesSound, FailsToTakeOver}
use Rattle.ic_world.specs.Views.{world_of}
use Rattle.ic_world.specs.declared.world.World.{World}

abbrev with-side : Standby → Beside
with-side s = record { side = Some s; shipped = s.have }

-- by the messages, the state and the count that the code has
same-all : (P : List Msg → Vol → ℕ → Type 0) (ms ns : List Msg) (v w : Vol) (n m : ℕ) → ms ≡ ns → v ≡ w → n ≡ m → P ms v n → P ns w m
same-all P ms ns v w n m a b c p = subst (λ z. P ns w z) c (subst (λ z. P ns z n) b (subst (λ z. P z v n) a p))

module _ {D : Type 0} {d : Ghosts D} (program : Program) (c : ComId) (old new : World D d) (s : Standby) (msgs : List Msg) (state : Vol) (have : ℕ) (are : msgs ≡ filter_map message_in (world_of old).packets) (is : state ≡ s.state) (had : have ≡ s.have)
    (goes_on : holds_of replays (node_at (world_of old) c) ≡ false) (down : holds_of is_down (node_at (world_of old) c) ≡ true) (others : KeepsOthers old c new) (crash : CrashLeavesThem old new) (sound : LeavesSound program old new) where
  pub takes_over_by : (played : ℕ) → TakesOn program old c (contents_among c msgs) state have new played → CrashLeavesFiles new → TookOver program c old new (with-side s) played (record { side = None; shipped = have })
  takes_over_by played t durable = record {
    standby = s;
    stood = refl;
    told = notes.Done (length (drop s.have (forced_of (node_at (world_of old) c))));
    turn_is = takes_leap program c (world_of old) (with-side s) s goes_on down refl;
    takes = same-all (λ ms v n. TakesOn program old c (contents_among c ms) v n new played) msgs (filter_map message_in (world_of old).packets) state s.state have s.have are is had t;
    others = others;
    crash = crash;
    durable = durable;
    sound = sound;
    gone = refl;
    shipped = had;
  }

module _ {D : Type 0} (b : Ghosts D) {d : Ghosts (Torn D)} (program : Program) (c : ComId) (old new : World (Torn D) d) (s : Standby) (msgs : List Msg) (state : Vol) (have : ℕ) (are : msgs ≡ filter_map message_in (world_of old).packets) (is : state ≡ s.state) (had : have ≡ s.have)
    (goes_on : holds_of replays (node_at (world_of old) c) ≡ false) (down : holds_of is_down (node_at (world_of old) c) ≡ true) (others : KeepsOthers old c new) (crash : CrashLeavesThem old new) (sound : LeavesSound program old new) where
  pub refuses_by : (why : WorldRefused) → FailsToTakeOver b program old c (contents_among c msgs) state have new why → WasRefused b program c old new (with-side s) (cuts.Refused why)
  refuses_by why f = record {
    standby = s;
    stood = refl;
    told = notes.Done (length (drop s.have (forced_of (node_at (world_of old) c))));
    turn_is = takes_leap program c (world_of old) (with-side s) s goes_on down refl;
    why = why;
    is = refl;
    fails = same-all (λ ms v n. FailsToTakeOver b program old c (contents_among c ms) v n new why) msgs (filter_map message_in (world_of old).packets) state s.state have s.have are is had f;
    others = others;
    crash = crash;
    sound = sound;
  }

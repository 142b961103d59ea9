-- How many device calls an event makes at the disk of its component.
use Rattle.std.proofs.Common.{◌≡◌, ◌∙◌, refl, sym, ap, subst, ℕ, ◌+◌, ◌<◌, ◌≤◌, Bool, true, false, cond, List, [], length, Option, Some, None, arith}
use Rattle.std.specs.Prelude.{Result, Ok, Err, is_ok, nat_lt}
use Rattle.std.proofs.lemmas.Bool.{both_ways}
use Rattle.std.proofs.lemmas.Bool.Decides.{nat_tests}
use Rattle.ic_base.specs.Programs.{is_a_tcom}
use Rattle.ic_base.specs.declared.events.Stop.{Stop}
use Rattle.ic_base.specs.declared.limits.TheConstants.{SLOTS}
use Rattle.ic_base.specs.declared.messages.ComId.{ComId}
use Rattle.ic_base.specs.declared.scenario.Program.{Program}
use Rattle.def_log.specs.Directory.{slots_in}
use Rattle.def_step.specs.Pcom as step
use Rattle.def_step.specs.Settle.{is_down}
use Rattle.def_step.specs.World as world
use Rattle.def_step.specs.World.{Runs, Serves, Down, External, does, is_reached}
use Rattle.ic_disk.specs.Armings.{set_by}
use Rattle.ic_disk.specs.Disk.{Makes}
use Rattle.ic_disk.specs.Stops.{Script, DeviceCall}
use Rattle.ic_disk.specs.TornDisks as disks
use Rattle.ic_disk.specs.TornDisks.{Torn}
use Rattle.ic_disk.specs.Torns.{or_never, file, torn}
use Rattle.ic_disk.specs.declared.disk.Disk.{Ghosts}
use Rattle.ic_disk.proofs.Armed.{IsArmed, reached_one, shows}
use Rattle.ic_gate.specs.Calls.{gated_calls}
use Rattle.ic_gate.specs.Reading.{load_calls}
use Rattle.ic_gate.specs.RecordCalls.{record_writes}
use Rattle.ic_pcom.specs.declared.step.PacketRefused.{PacketRefused}
use Rattle.ic_pcom.specs.declared.step.PacketRefused.TheVariants as packet
use Rattle.ic_node.specs.DeviceCalls.{AreMade, MakesLoad, MakesCalls, EndsWith, done_calls, recovery_calls, with_load, is_done, made_on, made_at, step_calls}
use Rattle.ic_node.specs.Doing.{IsAllowed}
use Rattle.ic_node.specs.Ending.{refusal_of}
use Rattle.ic_node.specs.Meeting.{adds_in}
use Rattle.ic_node.specs.Nodes.{node_with, disk_in}
use Rattle.ic_node.specs.Steps.{StepsOver}
use Rattle.ic_node.specs.Views.{node_of, disk_of, file_of, com_of, Tells}
use Rattle.ic_node.specs.declared.component.Component.{Component}
use Rattle.ic_node.specs.declared.done.Call.{Call}
use Rattle.ic_node.specs.declared.done.Done.{Done}
use Rattle.ic_node.specs.declared.done.Ended.{Ended}
use Rattle.ic_node.specs.declared.done.Ended.TheVariants as ended
use Rattle.ic_node.specs.declared.done.NodeRefused.{NodeRefused}
use Rattle.ic_node.specs.declared.node.Node.{Node}
use Rattle.ic_node.specs.declared.node.Node.TheVariants.{Off}
use Rattle.ic_node.proofs.Forced.{reached_is}
use Rattle.ic_node.proofs.Steps.{counted}

-- the same count, told of other disks
pub same_made : (stop : Stop) (n : ℕ) (ok told : Bool) (x y u v : ℕ) → AreMade stop n ok x y → (told ≡ true → ok ≡ true) → u ≡ x → v ≡ y → AreMade stop n told u v
same_made stop n ok told x y u v made only from to = record {
  all = λ is. let one = made.all (only is) in omega (arith, one, from, to);
  most = let few = made.most in omega (arith, few, from, to);
  by_stop = λ first. let few = made.by_stop first in omega (arith, few, from, to);
}

-- those of one load
pub load_so : (stop : Stop) (ok : Bool) (x y : ℕ) → AreMade stop (length load_calls) ok x y → MakesLoad ok x y
load_so stop ok x y made = record { all = made.all; most = made.most }

-- calls, and then more of them
pub few_more : (x y z n m : ℕ) → y ≤ x + n → z ≤ y + m → z ≤ x + (n + m)
few_more x y z n m one two = omega (arith, one, two)

pub few_most : (x y n m : ℕ) → y ≤ x + n → y ≤ x + (n + m)
few_most x y n m one = omega (arith, one)

-- of calls that are made, those up to a stop that is reached
pub most_by : (stop : Option Stop) (n : ℕ) (ok : Bool) (x y : ℕ) → IsAllowed stop → AreMade (or_never stop) n ok x y → y ≤ x + with_load stop n
most_by None n ok x y allowed made = made.most
most_by (Some s) n ok x y first made = by (is_reached (Some s) n)
  where
    by : (t : Bool) → y ≤ x + cond t (s.call + length load_calls) n
    by true = few_most x y s.call (length load_calls) (made.by_stop first)
    by false = made.most

-- a stop that is reached is set at a call
first_of : (stop : Option Stop) (n : ℕ) → IsAllowed stop → is_reached stop n ≡ true → 1 ≤ (or_never stop).call
first_of None n allowed reached = absurd (cc)
first_of (Some s) n first reached = first

module _ {D : Type 0} (b : Ghosts D) where
  -- calls on a disk whose stop was set just before
  pub are_made : {cs : List DeviceCall} {ok : Bool} {failed : Type 0} (stop : Stop) (x a s r : Torn D) (v : Option Script) → a ≡ record x { script = Some (set_by stop) } → x.stopped ≡ false → r ≡ record s { script = v } → Makes (torn b) cs ok failed a s → AreMade stop (length cs) ok x.made r.made
  are_made {cs} {ok} stop x a s r v set runs unset made =
      let armed : IsArmed b stop x a = record { set = set; runs = runs } in
      let from : x.made ≡ a.made = sym (ap (λ (t : Torn D). t.made) set) in
      let to : r.made ≡ s.made = ap (λ (t : Torn D). t.made) unset in
      let both : AreMade stop (length cs) ok a.made s.made = record { all = made.all; most = made.most; by_stop = made.by_stop (set_by stop) (shows b stop x a armed) refl } in
      same_made stop (length cs) ok ok a.made s.made x.made r.made both (λ is. is) from to

  -- a disk that is switched on has made as many as before
  pub power_made : (x y : Torn D) (z n : ℕ) → y ≡ record x { stopped = false; held = []; room = y.room } → z ≤ y.made + n → z ≤ x.made + n
  power_made x y z n on few = let same : y.made ≡ x.made = ap (λ (t : Torn D). t.made) on in omega (arith, same, few)

  -- where the disks of components are these
  pub made_here : (o p : Option (Torn D)) (x y : Torn D) (n : ℕ) → o ≡ Some x → p ≡ Some y → y.made ≤ x.made + n → made_on (torn b) p ≤ made_on (torn b) o + n
  made_here o p x y n was now few =
      let from : made_on (torn b) o ≡ x.made = ap (made_on (torn b)) was in
      let to : made_on (torn b) p ≡ y.made = ap (made_on (torn b)) now in
      omega (arith, from, to, few)

  -- of a load
  pub load_here : (o p : Option (Torn D)) (x y : Torn D) (ok : Bool) → o ≡ Some x → p ≡ Some y → MakesLoad ok x.made y.made → MakesLoad ok (made_on (torn b) o) (made_on (torn b) p)
  load_here o p x y ok was now load =
      let from : made_on (torn b) o ≡ x.made = ap (made_on (torn b)) was in
      let to : made_on (torn b) p ≡ y.made = ap (made_on (torn b)) now in
      record { all = λ is. let one = load.all is in omega (arith, one, from, to); most = let few = load.most in omega (arith, few, from, to) }

  -- of a step --------------------------------------------------------------------------------------

  module _ (program : Program) (c : ComId) (before : world.Node) (x : Torn D) (number : ℕ) (call : step.Call) (stop : Option Stop) (s : Torn D) (after : world.Node) where
    count_so : (size used : ℕ) → length (gated_calls (record_writes size used (adds_in before (does program c before number call)))) ≡ done_calls before (does program c before number call) (nat_lt used SLOTS)
    count_so size used = by (does program c before number call) refl
      where
        by : (o : Option world.Done) → does program c before number call ≡ o → length (gated_calls (record_writes size used (adds_in before o))) ≡ done_calls before o (nat_lt used SLOTS)
        by None is = refl
        by (Some d) is = (counted program c before number call d is).1 size used

    pub made_so : x.stopped ≡ false → (result : Result Done PacketRefused) (made : StepsOver (torn b) program c before (record x { script = Some (set_by (or_never stop)) }) number call after s result)
        → AreMade (or_never stop) (done_calls before (does program c before number call) (nat_lt made.used SLOTS)) (is_ok result) x.made s.made
    made_so runs result made =
        let armed : IsArmed b (or_never stop) x (record x { script = Some (set_by (or_never stop)) }) = record { set = refl; runs = runs } in
        subst (λ (n : ℕ). AreMade (or_never stop) n (is_ok result) x.made s.made) (count_so made.size made.used)
        (record { all = made.calls.all; most = made.calls.most; by_stop = made.calls.by_stop (set_by (or_never stop)) (shows b (or_never stop) x _ armed) refl })

    -- a stop that cut it off was reached
    pub reached_so : x.stopped ≡ false → disks.is_reached s.script ≡ true → (made : StepsOver (torn b) program c before (record x { script = Some (set_by (or_never stop)) }) number call after s (Err packet.Stopped))
        → is_reached stop (done_calls before (does program c before number call) (nat_lt made.used SLOTS)) ≡ true
    reached_so runs hit made =
        let armed : IsArmed b (or_never stop) x (record x { script = Some (set_by (or_never stop)) }) = record { set = refl; runs = runs } in
        let one = reached_one b (b.tells x.inner) _ _ (or_never stop) x _ s armed (λ e. cc) hit (file b s) made.calls.stop in
        ap (is_reached stop) (sym (count_so made.size made.used)) ∙ reached_is stop (length (gated_calls (record_writes made.size made.used (adds_in before (does program c before number call))))) one.0 one.1

-- a step that is refused isn't done
pub not_done : (why : PacketRefused) (hit : Bool) → is_done (refusal_of why hit) ≡ false
not_done packet.Full hit = refl
not_done packet.Memory hit = refl
not_done packet.Failed hit = refl
not_done (packet.Bad place) hit = refl
not_done packet.Stopped true = refl
not_done packet.Stopped false = refl

-- its stop cut it off where it was reached
pub cut_by_stop : (why : PacketRefused) (hit : Bool) → refusal_of why hit ≡ Ok ended.Cut → (why ≡ packet.Stopped) × (hit ≡ true)
cut_by_stop packet.Full hit is = cc
cut_by_stop packet.Memory hit is = cc
cut_by_stop packet.Failed hit is = cc
cut_by_stop (packet.Bad place) hit is = cc
cut_by_stop packet.Stopped true is = (refl, refl)
cut_by_stop packet.Stopped false is = cc

module _ {D : Type 0} {d : Ghosts D} where
  -- the calls of an event whose stop isn't reached, or of one that is refused
  pub makes_so : (calls : Bool → ℕ) (stop : Option Stop) (old new : Component D d) (free ok told : Bool) → IsAllowed stop → (Tells old → free ≡ nat_lt (length (slots_in (file_of old))) SLOTS) → (told ≡ true → ok ≡ true) → AreMade (or_never stop) (calls free) ok (made_at old) (made_at new) → MakesCalls calls stop told old new
  makes_so calls stop old new free ok told allowed listed only made = record {
    free = free;
    listed = listed;
    all = λ is unreached. made.all (only is);
    most = most_by stop (calls free) ok (made_at old) (made_at new) allowed made;
  }

  -- where it is reached, and a load comes behind it
  pub makes_cut : (calls : Bool → ℕ) (stop : Option Stop) (old new : Component D d) (free ok : Bool) → (Tells old → free ≡ nat_lt (length (slots_in (file_of old))) SLOTS) → is_reached stop (calls free) ≡ true → made_at new ≤ made_at old + ((or_never stop).call + length load_calls) → MakesCalls calls stop ok old new
  makes_cut calls stop old new free ok listed reached most = record {
    free = free;
    listed = listed;
    all = λ is unreached. absurd (both_ways (is_reached stop (calls free)) unreached reached);
    most = subst (λ (t : Bool). made_at new ≤ made_at old + cond t ((or_never stop).call + length load_calls) (calls free)) (sym reached) most;
  }

  -- nothing is done
  pub makes_none : (calls : Bool → ℕ) (stop : Option Stop) (old new : Component D d) (ok : Bool) → disk_of new ≡ disk_of old → (ok ≡ true → (free : Bool) → calls free ≡ 0) → MakesCalls calls stop ok old new
  makes_none calls stop old new ok same none =
      let free = nat_lt (length (slots_in (file_of old))) SLOTS in
      let still : made_at new ≡ made_at old = ap (made_on d) same in
      record { free = free; listed = λ tells. refl; all = λ is unreached. omega (arith, still, none is free); most = omega (arith, still) }

  -- an event that is refused behind them
  pub makes_less : (calls : Bool → ℕ) (stop : Option Stop) (old new : Component D d) (ok told : Bool) → (told ≡ true → ok ≡ true) → MakesCalls calls stop ok old new → MakesCalls calls stop told old new
  makes_less calls stop old new ok told only made = record { free = made.free; listed = made.listed; all = λ is unreached. made.all (only is) unreached; most = made.most }

  -- a call for which there is nothing to do
  pub idle_ends : (program : Program) (old : Component D d) (stop : Option Stop) (number : ℕ) (call : Call) (done : Done) → ((free : Bool) → step_calls program old number call free ≡ 0) → EndsWith program old stop number call old (Ok (ended.Done done))
  idle_ends program old stop number call done none =
      let free = nat_lt (length (slots_in (file_of old))) SLOTS in
      record {
        free = free;
        listed = λ tells. refl;
        made = record { all = λ is. omega (arith, none free); most = omega arith; by_stop = λ first. omega arith };
        cut = λ is. cc;
      }

  -- a call, by how it ends
  module _ (program : Program) (old mid new : Component D d) (stop : Option Stop) (number : ℕ) (call : Call) (allowed : IsAllowed stop) where
    pub ended_so : (r : Result Ended NodeRefused) (ok : Bool) → (ok ≡ true → is_done r ≡ true) → EndsWith program old stop number call new r → MakesCalls (step_calls program old number call) stop ok old new
    ended_so r ok only ends = makes_so (step_calls program old number call) stop old new ends.free (is_done r) ok allowed ends.listed only ends.made

    pub ended_cut : (r : Result Ended NodeRefused) (ok : Bool) → r ≡ Ok ended.Cut → EndsWith program old stop number call mid r → made_at new ≤ made_at mid + length load_calls → MakesCalls (step_calls program old number call) stop ok old new
    ended_cut r ok is ends lies =
        let reached = ends.cut is in
        makes_cut (step_calls program old number call) stop old new ends.free ok ends.listed reached
        (few_more (made_at old) (made_at mid) (made_at new) (or_never stop).call (length load_calls) (ends.made.by_stop (first_of stop (step_calls program old number call ends.free) allowed reached)) lies)

-- of a recovery ------------------------------------------------------------------------------------

-- what isn't down makes none
pub up_makes : (program : Program) (c : ComId) (node : world.Node) → is_down node ≡ false → recovery_calls program c node ≡ 0
up_makes program c (Runs p) up = refl
up_makes program c (Serves t) up = refl
up_makes program c (Down records) up = cc
up_makes program c External up = refl

module _ {D : Type 0} (b : Ghosts D) (program : Program) (old new : Component (Torn D) (torn b)) (x y : Torn D) (is : old.node ≡ Off x) (now : disk_of new ≡ Some y) (stop : Option Stop) where
  was : made_at old ≡ x.made
  was = ap (λ (n : Node (Torn D) (torn b)). made_on (torn b) (disk_in n)) is

  to : made_at new ≡ y.made
  to = ap (made_on (torn b)) now

  -- the calls of a recovery, of a Tcom or not
  calls_by : (tcom : Bool) → is_a_tcom program (com_of old) ≡ tcom → recovery_calls program (com_of old) (node_of old) ≡ cond tcom 7 4
  calls_by tcom a = ap (λ (n : Node (Torn D) (torn b)). recovery_calls program (com_of old) (node_with old.kept n)) is ∙ ap (λ (t : Bool). cond t 7 4) a

  -- it is done, or refused
  pub up_so : {set : Stop} → set ≡ or_never stop → IsAllowed stop → (tcom up ok : Bool) → is_a_tcom program (com_of old) ≡ tcom → (ok ≡ true → up ≡ true) → AreMade set (cond tcom 7 4) up x.made y.made → MakesCalls (λ free. recovery_calls program (com_of old) (node_of old)) stop ok old new
  up_so {set} so allowed tcom up ok a only made =
      makes_so (λ free. recovery_calls program (com_of old) (node_of old)) stop old new (nat_lt (length (slots_in (file_of old))) SLOTS) up ok allowed (λ tells. refl) only
      (subst (λ (n : ℕ). AreMade (or_never stop) n up (made_at old) (made_at new)) (sym (calls_by tcom a))
      (same_made (or_never stop) (cond tcom 7 4) up up x.made y.made (made_at old) (made_at new) (subst (λ (s : Stop). AreMade s (cond tcom 7 4) up x.made y.made) so made) (λ u. u) was to))

  -- its stop cut it off, and its log is loaded behind it
  pub cut_so : (tcom ok : Bool) → is_a_tcom program (com_of old) ≡ tcom → is_reached stop (cond tcom 7 4) ≡ true → y.made ≤ x.made + ((or_never stop).call + length load_calls) → MakesCalls (λ free. recovery_calls program (com_of old) (node_of old)) stop ok old new
  cut_so tcom ok a reached few =
      let same = calls_by tcom a in
      makes_cut (λ free. recovery_calls program (com_of old) (node_of old)) stop old new (nat_lt (length (slots_in (file_of old))) SLOTS) ok (λ tells. refl) (ap (is_reached stop) same ∙ reached)
      (omega (arith, was, to, few))

-- a stop that lies within the load lies within the recovery
pub within_all : (tcom : Bool) (stop : Stop) → stop.call ≤ cond tcom 3 4 → is_reached (Some stop) (cond tcom 7 4) ≡ true
within_all true stop within = grind (arith, nat_tests)
within_all false stop within = grind (arith, nat_tests)

-- one within the force behind the load too
pub cut_reached : (stop : Option Stop) → 3 < (or_never stop).call → (or_never stop).call ≤ 7 → is_reached stop 7 ≡ true
cut_reached stop later within = reached_is stop 7 (omega (arith, later)) within

-- it was cut off behind the load, and then loaded
pub cut_made : (stop : Option Stop) {set : Stop} (n x y z : ℕ) → set ≡ or_never stop → 3 < (or_never stop).call → AreMade set n false x y → z ≤ y + length load_calls → z ≤ x + ((or_never stop).call + length load_calls)
cut_made stop {set} n x y z so later made load =
    let first : 1 ≤ (or_never stop).call = omega (arith, later) in
    few_more x y z (or_never stop).call (length load_calls) (subst (λ (s : Stop). y ≤ x + s.call) so (made.by_stop (subst (λ (s : Stop). 1 ≤ s.call) (sym so) first))) load

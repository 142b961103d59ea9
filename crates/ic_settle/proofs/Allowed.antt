-- The event that settles is one that the program allows, and it lowers what is left.
use Rattle.std.proofs.Common.{◌≡◌, ◌∙◌, sym, ap, refl, ◌≤◌, true, length, Option, Some, None, option_map}
use Rattle.ic_base.specs.declared.messages.ComId.{ComId}
use Rattle.ic_base.specs.declared.events.Answer.TheVariants as answers
use Rattle.ic_base.specs.declared.events.Event.{Event}
use Rattle.ic_base.specs.declared.events.What.{What}
use Rattle.ic_base.specs.declared.limits.TheConstants.{PACKETS}
use Rattle.ic_base.specs.declared.scenario.Program.{Program}
use Rattle.def_run.specs.SystemStates.{has_disk, without_stop}
use Rattle.def_step.specs.Settle.{PolicyIntervals, asked_of, settling_event, left}
use Rattle.def_step.specs.World.{World, Node, Runs, Serves, Down, External, DiskOutcome, After, happens}
use Rattle.ic_world.specs.Allowing.{is_kept, IsMadeFor, is_allowed}
use Rattle.law_settle.specs.Kept.{HaveDisks, NodeHasDisk}
use Rattle.law_settle.specs.Measure.{IsLower}
use Rattle.law_settle.proofs.Asking.{settles_at_kept}
use Rattle.law_settle.proofs.Settling.{settling_lowers}
use Rattle.law_settle.proofs.Worlds.{represented_can_settle}

-- the event is that of what settles, without a stop
pub none-mapped : (o : Option What) → None ≡ option_map without_stop o → o ≡ None
none-mapped None e = refl
none-mapped (Some what) e = absurd (cc)

pub event-is : (o : Option What) (e : Event) → Some e ≡ option_map without_stop o → (what : What) × (o ≡ Some what) × (e ≡ without_stop what)
event-is None e f = absurd (cc)
event-is (Some what) e f = (what, refl, the-same e (without_stop what) f)
  where
    the-same : (x y : Event) → Some x ≡ Some y → x ≡ y
    the-same x y g = cc

pub same-event : (o : Option What) (e : Event) (what : What) → Some e ≡ option_map without_stop o → o ≡ Some what → e ≡ without_stop what
same-event o e what f is =
    let m = event-is o e f in
    let same : m.0 ≡ what = the-same m.0 what (sym m.1 ∙ is) in
    m.2 ∙ ap without_stop same
  where
    the-same : (x y : What) → Some x ≡ Some y → x ≡ y
    the-same x y g = cc

module _ (program : Program) (w : World) (made : IsMadeFor program w) (x : PolicyIntervals) (last : Option ComId) (what : What) (is : settling_event w x last ≡ Some what) where
  have-disks : HaveDisks program w
  have-disks c n at = by n (ap is_kept (sym at) ∙ made.kept c)
    where
      by : (m : Node) → is_kept (Some m) ≡ has_disk program c → NodeHasDisk program c m
      by (Runs p) k = sym k
      by (Serves t) k = sym k
      by (Down records) k = sym k
      by External k = tt

  pub settling-allowed : is_allowed program what ≡ true
  settling-allowed = by (asked_of what answers.Idle) refl
    where
      by : (o : Option ComId) → asked_of what answers.Idle ≡ o → elim o [ None ↦ true | Some c ↦ has_disk program c ] ≡ true
      by None e = refl
      by (Some c) e = settles_at_kept program w x last what made.puts have-disks is c e

  pub settling-lowers : (d : DiskOutcome) (a : After) → happens program w (without_stop what) d ≡ Some a → length a.world.packets ≤ PACKETS → IsLower (left a.world) (left w)
  settling-lowers d a happened few = settling_lowers program w x last what d a (represented_can_settle program w made.represented) is happened few

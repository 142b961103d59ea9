-- What a component does for its work.
use Rattle.std.proofs.Common.{◌≡◌, ◌∙◌, sym, ap, subst, refl, ℕ, true, false, List, Option, Some, None, option_map, IfOk, Result, Ok, Err}
use Rattle.std.specs.Prelude.{is_ok}
use Rattle.std.proofs.lemmas.Bool.{both_ways}
use Rattle.ic_base.specs.declared.events.Stop.{Stop}
use Rattle.ic_base.specs.declared.messages.ComId.{ComId}
use Rattle.ic_base.specs.declared.record.Record.{Record}
use Rattle.ic_base.specs.declared.scenario.Program.{Program}
use Rattle.def_log.specs.Log.{log_of}
use Rattle.def_run.specs.CoreSteps.{forced_of, is_stopped}
use Rattle.def_run.specs.Reports.{played_by}
use Rattle.def_step.specs.World as definition
use Rattle.def_step.specs.World.{Node, Runs, Serves, Down, External, DiskOutcome, crashes, does, answer_stopped, cut_off}
use Rattle.ic_disk.specs.declared.disk.Disk.{Ghosts}
use Rattle.ic_node.specs.Calling.{call_of}
use Rattle.ic_node.specs.Doing as node
use Rattle.ic_node.specs.Meeting.{adds_in, Meets, where_told}
use Rattle.ic_node.specs.Nodes as parts
use Rattle.ic_node.specs.Recovering.{Recovers as IsRecovery, Crashes as IsCrash, held_by}
use Rattle.ic_node.specs.Standing.{log_in, read_or_none}
use Rattle.ic_node.specs.Views.{node_of, disk_of, file_of, com_of, is_over}
use Rattle.ic_node.specs.declared.component.Component.{Component}
use Rattle.ic_node.specs.declared.done.Call.{Call}
use Rattle.ic_node.specs.declared.done.Done.{Done}
use Rattle.ic_node.specs.declared.done.NodeRefused.{NodeRefused}
use Rattle.ic_node.specs.declared.node.Node.{Node as Kept}
use Rattle.ic_node.specs.declared.node.Node.TheVariants.{Per, Tra, Off, Ext}
use Rattle.ic_work.specs.Components.{Works}
use Rattle.ic_work.specs.declared.work.Work.TheVariants.{Calls, Crashes, Recovers}
use Rattle.ic_work.proofs.Sizes.{sized}

-- a call adds what it would force without its stop
call-adds : (node : Node) (x : DiskOutcome) (n : ℕ) (program : Program) (c : ComId) (call : Call) → adds_in node (does program c node n (call_of call)) ≡ adds_in node (definition.does_or_stops program c node None x n (call_of call))
call-adds node x n program c call = by (does program c node n (call_of call))
  where
    by : (o : Option definition.Done) → adds_in node o ≡ adds_in node (option_map (cut_off None x node (answer_stopped n x.is_open (call_of call))) o)
    by None = refl
    by (Some d) = refl

module _ {D : Type 0} {d : Ghosts D} (program : Program) (old new : Component D d) (stop : Option Stop) where
  pub calls-work : (number : ℕ) (call : Call) (r : Result Done NodeRefused) → IfOk r (node.Does program old stop number call new) → IfOk r (Works program old stop (Calls number call) new)
  calls-work number call (Err e) s = tt
  calls-work number call (Ok told) s =
      let M : List Record → Type 0 = λ rs. where_told d (disk_of old) (Meets program (com_of old) s.outcome stop rs told.answer (node_of old) (node_of new) (file_of old) (file_of new)) in
      record {
        outcome = s.outcome;
        step = s.step;
        room = s.room;
        meets = subst M (call-adds (node_of old) s.outcome number program (com_of old) call) s.meets;
        played = s.played;
        goes_on = s.goes_on;
      }

  pub recovery-works : (r : Result Done NodeRefused) → IfOk r (IsRecovery program old stop new) → IfOk r (Works program old stop Recovers new)
  recovery-works (Err e) s = tt
  recovery-works (Ok told) s = record { outcome = s.outcome; step = s.step; room = tt; meets = s.meets; played = s.played; goes_on = s.goes_on }

-- a crash adds nothing
crash-answers : (n : Node) → is_stopped (crashes n).answer ≡ false
crash-answers (Runs p) = refl
crash-answers (Serves t) = refl
crash-answers (Down rs) = refl
crash-answers External = refl

crash-plays : (before n : Node) → played_by before (crashes n).node ≡ 0
crash-plays before (Runs p) = refl
crash-plays before (Serves t) = refl
crash-plays before (Down rs) = refl
crash-plays before External = refl

read-is : (r : Result (List Record) ℕ) (rs : List Record) → is_ok r ≡ true → read_or_none r ≡ rs → r ≡ Ok rs
read-is (Ok xs) rs ok is = ap (λ (l : List Record). Ok l) is
read-is (Err place) rs ok is = cc

both-told : {D : Type 0} (d : Ghosts D) (o : Option D) {P Q : Type 0} → where_told d o P → (P → Q) → where_told d o Q
both-told d None p f = tt
both-told d (Some disk) p f = λ t. f (p t)

module _ {D : Type 0} {d : Ghosts D} where
  -- what a component that goes on holds on its disk
  held-log : (x : Component D d) → is_over x ≡ false → where_told d (disk_of x) (log_of (file_of x) ≡ Ok (forced_of (Some (node_of x))))
  held-log x going = by x.node x.kept (x.whole going) (x.on_disk going)
    where
      by : (n : Kept D d) (rs : List Record) → (parts.told_of d (parts.disk_in n) → is_ok (log_in d n) ≡ true) → (parts.told_of d (parts.disk_in n) → read_or_none (log_in d n) ≡ forced_of (Some (parts.node_with rs n)))
          → where_told d (parts.disk_in n) (log_of (parts.read_of d (parts.disk_in n)) ≡ Ok (forced_of (Some (parts.node_with rs n))))
      by (Per p) rs whole holds = λ t. read-is _ _ (whole t) (holds t)
      by (Tra x) rs whole holds = λ t. read-is _ _ (whole t) (holds t)
      by (Off disk) rs whole holds = λ t. read-is _ _ (whole t) (holds t)
      by Ext rs whole holds = tt

  pub crash-works : (program : Program) (old new : Component D d) (stop : Option Stop) (r : Result Done NodeRefused) → is_over old ≡ false → IfOk r (IsCrash old new) → IfOk r (Works program old stop Crashes new)
  crash-works program old new stop (Err e) going s = tt
  crash-works program old new stop (Ok told) going s = record {
    outcome = held_by old;
    step = ap (λ z. Some z) s.step;
    room = tt;
    meets = both-told d (disk_of old) (held-log old going) (λ holds. record {
      found = holds;
      size = sized (file_of old) (forced_of (Some (node_of old))) holds;
      free = refl;
      torn = λ e. absurd (both_ways (is_stopped told.answer) (ap (λ z. is_stopped z.answer) (sym s.step) ∙ crash-answers (node_of old)) e);
      same = λ e f. ap (parts.read_of d) s.disk;
    });
    played = s.played ∙ sym (ap (played_by (node_of old)) (ap (λ z. z.node) (sym s.step)) ∙ crash-plays (node_of old) (node_of old));
    goes_on = s.goes_on;
  }

-- What an event comes to, with what is pushed.
use Rattle.std.proofs.Common.{◌≡◌, refl, sym, ℕ, false, List, [], arith, Option, Some, None}
use Rattle.std.proofs.lemmas.List.{append-nil}
use Rattle.ic_base.specs.declared.messages.ComId.{ComId}
use Rattle.ic_base.specs.declared.messages.Packet.{Packet}
use Rattle.ic_base.specs.declared.scenario.Program.{Program}
use Rattle.def_live.specs.Turns.{Choice}
use Rattle.ic_disk.specs.declared.disk.Disk.{Ghosts}
use Rattle.ic_lane.specs.Lanes.{Out}
use Rattle.ic_node.specs.Meeting.{GoesOn}
use Rattle.ic_node.specs.Views.{com_of, is_over}
use Rattle.ic_node.specs.declared.component.Component.{Component}
use Rattle.ic_turn.specs.Doing.{DoesChoice}
use Rattle.ic_turn.specs.declared.progress.Progress.{Progress}
use Rattle.ic_live.specs.Carrying.{CarriesOut}
use Rattle.ic_live.specs.Ends.{ArePushed, sent_to}

-- nothing is pushed
pub none-pushed : (c : ComId) (peers : List ComId) (outs : List Out) → ArePushed c peers outs outs []
none-pushed c peers outs = record {
  lanes = refl;
  pushed = λ to. record { taken = []; among = tt; sent = sym (append-nil (sent_to peers outs to)); lost = λ e. refl };
}

-- one that is no choice is none
pub none-next : {A : Type 0} (o : Option A) → ((x : A) → o ≡ Some x → ⊥) → o ≡ None
none-next None none = refl
none-next (Some x) none = absurd (none x refl)

module _ {D : Type 0} {d : Ghosts D} (program : Program) (print : List ℕ) (peers : List ComId) (old : Component D d) (before : Progress) (outs : List Out) where
  pub goes-on_so : is_over old ≡ false → GoesOn old old
  goes-on_so going = record { same = refl; open_still = going; logs = λ t p k. k }

  -- there is none
  pub carried-none : is_over old ≡ false → CarriesOut program print peers None old before outs old before outs
  carried-none going = record {
    puts = [];
    does = (refl, refl);
    pushed = none-pushed (com_of old) peers outs;
    received = omega arith;
    packets = omega arith;
    played = refl;
    goes_on = goes-on_so going;
  }

  -- it is done
  pub carried-some : (x : Choice) (new : Component D d) (behind : Progress) (news : List Out) (puts : List Packet) → DoesChoice program print x old before new behind puts → GoesOn old new → ArePushed (com_of old) peers outs news puts → CarriesOut program print peers (Some x) old before outs new behind news
  carried-some x new behind news puts does goes pushed = record { puts = puts; does = does.does; pushed = pushed; received = does.received; packets = does.packets; played = does.played; goes_on = goes }

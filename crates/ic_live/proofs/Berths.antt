-- A turn and a flush keep what a berth keeps of its component, and its list; and what its disk and a refusal tell.
use Rattle.std.proofs.Common.{◌≡◌, refl, sym, ap, subst, ◌∙◌, ℕ, ◌+◌, true, false, List, [], ◌∷◌, ◌++◌, append_assoc, arith, ◌≤◌, le_refl, Option, Some, None, option_map}
use Rattle.std.specs.Prelude.{is_some}
use Rattle.std.proofs.lemmas.Bool.{both_ways}
use Rattle.ic_base.specs.declared.events.Event.{Event}
use Rattle.ic_base.specs.declared.events.Stop.{Stop}
use Rattle.ic_base.specs.declared.events.What.{What}
use Rattle.ic_base.specs.declared.messages.ComId.{ComId}
use Rattle.ic_base.specs.declared.messages.Packet.{Packet}
use Rattle.ic_base.specs.declared.refusals.WorldRefused.TheVariants as refused
use Rattle.ic_base.specs.declared.scenario.Program.{Program}
use Rattle.def_live.specs.Turns as definition
use Rattle.def_live.specs.Turns.{Choice, Unlisted, Brings, Lists, Pop, PopUnless, ArePopsOf, choice, policy_of, flushes, brought, senders_of, left_behind}
use Rattle.def_step.specs.Settle.{PolicyIntervals}
use Rattle.def_step.specs.World.{Node}
use Rattle.ic_disk.specs.TornDisks.{Torn}
use Rattle.ic_disk.specs.declared.disk.Disk.{Ghosts}
use Rattle.ic_lane.specs.Lanes.{In, Out}
use Rattle.ic_node.specs.Doing.{IsAllowed}
use Rattle.ic_node.specs.Meeting.{kept_disk}
use Rattle.ic_node.specs.Nodes as parts
use Rattle.ic_node.specs.declared.component.Component.{Component}
use Rattle.ic_turn.specs.Choices.{next_of}
use Rattle.ic_turn.specs.Standings.{Standing, DoesOne, counted}
use Rattle.law_live.proofs.Runs.{AreChosen}
use Rattle.law_live.specs.Berths.{OwnEvents}
use Rattle.law_live.specs.Bytes.{HasWords}
use Rattle.law_replay.proofs.Lists.{in-tail, self-com}
use Rattle.law_syntax.specs.Events.{IsCounted}
use Rattle.ic_live.specs.Berthed.{berthed, AreLeftOf}
use Rattle.ic_live.specs.Carrying.{MayDo, FailsToCarryOut}
use Rattle.ic_live.specs.Faults.{faults_in}
use Rattle.ic_live.specs.Ends.{HaveOneContent, ArePopped, ArePushed, MayPush, others}
use Rattle.ic_live.specs.Standings.{IsKept}
use Rattle.ic_live.proofs.Pops.{popped-none}
use Rattle.ic_live.proofs.Turning.{flush-step, flush-is, turn-step, turn-is, may-push, kept-behind, senders-are}

-- the facts of the component --------------------------------------------------------------------------------

module _ (program : Program) (print : List ℕ) (c : ComId) (plan : List Event) (s : Standing) (ins : List In) (outs : List Out) (tells : Type 0) (told : tells) (k : IsKept program print c plan s ins outs) where
  -- behind a turn
  pub turn-keeps : (policy : PolicyIntervals) (news : List In) (pops : List Pop) → ArePopped (berthed program) ins news pops → (HaveOneContent ins → HaveOneContent news) → ((p : Packet) → brought c pops ≡ Some p → HasWords p) → ArePopsOf policy c s.node (senders_of program c) pops → (puts : List Packet) (r : Standing)
      → DoesOne program print c (choice program policy c s.node (s.turns + 1) s.left pops) tells puts (counted s) r → MayPush c (berthed program) outs puts × ((now : List Out) → ArePushed c (berthed program) outs now puts → IsKept program print c plan r news now)
  turn-keeps policy news pops popped contents words are puts r does =
      let turns = turn-is program print c tells told puts s r k.sent k.received k.keeps.left policy pops are does in
      let step = turn-step program print c plan (self-com c) ins news outs pops popped (contents k.contents) words s r puts policy k turns in
      (may-push program print c plan (self-com c) ins news outs pops popped (contents k.contents) words s r puts k step, kept-behind program print c plan (self-com c) ins news outs pops popped (contents k.contents) words s r puts k step)

  -- behind a flush
  pub flush-keeps : (puts : List Packet) (r : Standing) → DoesOne program print c (option_map Unlisted (flushes program c s.node)) tells puts s r → MayPush c (berthed program) outs puts × ((now : List Out) → ArePushed c (berthed program) outs now puts → IsKept program print c plan r ins now)
  flush-keeps puts r does =
      let flushed = flush-is program print c tells told puts s r k.sent k.received k.keeps.left does in
      let step = flush-step program print c plan ins outs s r puts k flushed in
      let none = popped-none (berthed program) ins in
      let words : (p : Packet) → None ≡ Some p → HasWords p = λ p e. absurd (cc e) in
      (may-push program print c plan (self-com c) ins ins outs [] none k.contents words s r puts k step, kept-behind program print c plan (self-com c) ins ins outs [] none k.contents words s r puts k step)

-- the list ----------------------------------------------------------------------------------------------------

left-own : (program : Program) (c : ComId) (x : Choice) (left : List Event) → OwnEvents program c left → OwnEvents program c (left_behind x left)
left-own program c (Unlisted what) left own = own
left-own program c (Brings p) left own = own
left-own program c (Lists e) [] own = own
left-own program c (Lists e) (f ∷ fs) own = λ z h. own z (in-tail f z fs h)

-- what is left behind the event of a choice is own
pub does-own : (program : Program) (print : List ℕ) (c : ComId) (o : Option Choice) (tells : Type 0) (puts : List Packet) (s r : Standing) → DoesOne program print c o tells puts s r → OwnEvents program c s.left → OwnEvents program c r.left
does-own program print c None tells puts s r d own = subst (λ (z : Standing). OwnEvents program c z.left) (sym d.0) own
does-own program print c (Some x) tells puts s r d own = subst (λ (z : Standing). OwnEvents program c z.left) (sym d.4) (left-own program c x s.left own)

left-listed : (x : Choice) (list left : List Event) → AreLeftOf list left → AreLeftOf list (left_behind x left)
left-listed (Unlisted what) list left are = are
left-listed (Brings p) list left are = are
left-listed (Lists e) list [] are = are
left-listed (Lists e) list (f ∷ fs) are = (are.0 ++ f ∷ [], are.1 ∙ sym (append_assoc are.0 (f ∷ []) fs))

-- so is what is left behind it of the list
pub does-listed : (program : Program) (print : List ℕ) (c : ComId) (o : Option Choice) (tells : Type 0) (puts : List Packet) (s r : Standing) → DoesOne program print c o tells puts s r → (list : List Event) → AreLeftOf list s.left → AreLeftOf list r.left
does-listed program print c None tells puts s r d list are = subst (λ (z : Standing). AreLeftOf list z.left) (sym d.0) are
does-listed program print c (Some x) tells puts s r d list are = subst (λ (z : Standing). AreLeftOf list z.left) (sym d.4) (left-listed x list s.left are)

-- a choice that is one may be done
pub chosen-may : (program : Program) (c : ComId) (pops : List Pop) (left : List Event) (o : Option Choice) → AreChosen program c pops left o → MayDo c o
chosen-may program c pops left None are = tt
chosen-may program c pops left (Some x) are = let is = are.0 x refl in (is.own, allowed (definition.event_of c x).stop is.event.stop)
  where
    allowed : (o : Option Stop) → IsCounted o → IsAllowed o
    allowed None h = tt
    allowed (Some stop) h = omega (arith, h)

-- a turn's choice, as the policy, the pops and the list have it
pub turn-next : (program : Program) (policy : PolicyIntervals) (c : ComId) (node : Node) (turns n : ℕ) (left l : List Event) (pops : List Pop) (asked : Option What) (came : Option Packet) (o : Option Choice) → n ≡ turns + 1 → l ≡ left → asked ≡ policy_of policy c node → brought c pops ≡ came → o ≡ next_of program c node n l asked came → o ≡ choice program policy c node (turns + 1) left pops
turn-next program policy c node turns n left l pops asked came o count same is came_is chosen = chosen ∙ (λ i. next_of program c node (count i) (same i) (is i) (sym came_is i))

-- the pops of a turn are those of the rule
pub pops-of : (program : Program) (policy : PolicyIntervals) (c : ComId) (node : Node) (peers : List ComId) (pops : List Pop) (asked : Option What) → peers ≡ berthed program → asked ≡ policy_of policy c node → PopUnless asked c (others c peers) pops → ArePopsOf policy c node (senders_of program c) pops
pops-of program policy c node peers pops asked all is popped =
    subst (λ z. PopUnless z c (senders_of program c) pops) is (subst (λ z. PopUnless asked c z pops) (ap (others c) all ∙ senders-are program c) popped)

-- the component -----------------------------------------------------------------------------------------------

module _ {D : Type 0} (d : Ghosts D) where
  pub some-kept : (old new : Option D) → kept_disk d old new → is_some old ≡ true → is_some new ≡ true
  some-kept None new k e = absurd (both_ways false refl e)
  some-kept (Some x) (Some y) k e = refl
  some-kept (Some x) None k e = absurd k

  pub tells-kept : (old new : Option D) → kept_disk d old new → parts.told_of d old → parts.told_of d new
  tells-kept None None k t = tt
  tells-kept None (Some y) k t = absurd k
  tells-kept (Some x) (Some y) k t = k.tells.0 t
  tells-kept (Some x) None k t = absurd k

  pub tells-back : (old new : Option D) → kept_disk d old new → parts.told_of d new → parts.told_of d old
  tells-back None None k t = tt
  tells-back None (Some y) k t = absurd k
  tells-back (Some x) (Some y) k t = k.tells.1 t
  tells-back (Some x) None k t = absurd k

-- a disk that is kept has failed no less
pub faults-kept : {D : Type 0} (d : Ghosts D) (old new : Option D) → kept_disk d old new → faults_in d old ≤ faults_in d new
faults-kept d None None k = le_refl 0
faults-kept d None (Some y) k = absurd k
faults-kept d (Some x) (Some y) k = k.later
faults-kept d (Some x) None k = absurd k

pub memory-fails : {D : Type 0} (b : Ghosts D) {d : Ghosts (Torn D)} (program : Program) (print : List ℕ) (o : Option Choice) (old : Component (Torn D) d) (received packets : ℕ) (new : Component (Torn D) d) → FailsToCarryOut b program print o old received packets new refused.Memory
memory-fails b program print None old received packets new = refl
memory-fails b program print (Some x) old received packets new = tt

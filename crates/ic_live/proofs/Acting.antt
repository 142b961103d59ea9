-- What a flush and a turn ask of what a berth keeps, and what they make of it.
use Rattle.std.proofs.Common.{◌≡◌, refl, sym, subst, ◌∙◌, ℕ, ◌+◌, List, [], Option, Some, None}
use Rattle.std.specs.Prelude.{IfSome}
use Rattle.atomic_table.specs.Seated.{TableId}
use Rattle.ic_base.specs.declared.events.Event.{Event}
use Rattle.ic_base.specs.declared.events.What.{What}
use Rattle.ic_base.specs.declared.messages.ComId.{ComId}
use Rattle.ic_base.specs.declared.messages.Packet.{Packet}
use Rattle.ic_base.specs.declared.refusals.WorldRefused.TheVariants.{Memory}
use Rattle.ic_base.specs.declared.scenario.Program.{Program}
use Rattle.def_live.specs.Turns.{Choice, Pop, PopUnless, ArePopsOf, policy_of, brought, senders_of}
use Rattle.def_step.specs.Settle.{PolicyIntervals}
use Rattle.def_step.specs.World.{Node}
use Rattle.ic_disk.specs.declared.disk.Disk.{Ghosts}
use Rattle.ic_lane.specs.Lanes.{In}
use Rattle.ic_node.specs.Meeting.{KeepsDisk}
use Rattle.ic_node.specs.Views.{com_of, node_of, Tells}
use Rattle.ic_node.specs.declared.component.Component.{Component}
use Rattle.ic_turn.specs.Choices.{intervals_of}
use Rattle.ic_turn.specs.Doing.{standing_of}
use Rattle.ic_turn.specs.Progresses.{left_of, turns_of, received_of, packets_of, played_of}
use Rattle.ic_turn.specs.Standings.{counted}
use Rattle.ic_turn.specs.declared.progress.Progress.{Progress}
use Rattle.law_live.proofs.Runs.{chosen, flush-chosen}
use Rattle.law_live.specs.Bytes.{HasWords}
use Rattle.ic_live.specs.Berthed.{berthed}
use Rattle.ic_live.specs.Berths.{Berthed, PopsBy, turn_choice, flush_choice}
use Rattle.ic_live.specs.Ends.{HaveOneContent, ArePopped, others}
use Rattle.ic_live.proofs.Berths.{chosen-may, flush-keeps, turn-keeps, pops-of}
use Rattle.ic_live.proofs.Moored.{Fails, Holds, Acting, acting, acting-of, holds-refused, is-within}
use Rattle.ic_live.proofs.Sounds.{Sounds, turn-ready, flush-ready}

-- what the pops of a turn gave, by the names that the code has
pub pops-by : (program : Program) (policy : PolicyIntervals) (c e : ComId) (node : Node) (peers list : List ComId) (ins news : List In) (asked : Option What) (came : Option Packet) → e ≡ c → list ≡ peers → peers ≡ berthed program → asked ≡ policy_of policy c node
    → ((pops : List Pop) × PopUnless asked e (others e list) pops × (brought e pops ≡ came) × ArePopped list ins news pops)
    → (pops : List Pop) × ArePopsOf policy c node (senders_of program c) pops × (brought c pops ≡ came) × ArePopped (berthed program) ins news pops
pops-by program policy c e node peers list ins news asked came is all whole asks x =
    let P : ComId × List ComId → Type 0 = λ z. (pops : List Pop) × PopUnless asked z.0 (others z.0 z.1) pops × (brought z.0 pops ≡ came) × ArePopped z.1 ins news pops in
    let y = subst P (λ i. (is i, (all ∙ whole) i)) x in (
      y.0,
      pops-of program policy c node (berthed program) y.0 asked refl asks y.1,
      y.2,
      y.3,
    )

module _ {D : Type 0} {d : Ghosts D} (fails : Fails d) (sounds : Sounds fails) (program p : Program) (same : p ≡ program) (print : List ℕ) (plan : ComId → List Event) (lane : ℕ → ℕ → TableId) (began : ℕ → ℕ) (honest : Type 0) (fingerprint : List ℕ) (peers : List ComId) (b : Berthed (Component D d)) (h : Holds fails program print plan lane began honest fingerprint peers b) (going : b.refused ≡ None)
    (code : Option Choice) (list : List ComId) (all : list ≡ peers) where
  pub flush-acting : code ≡ flush_choice program b → Acting fails program print plan lane began honest fingerprint peers b p b.ins (standing_of b.component b.progress) b.progress (flush_choice p b) code list
  flush-acting is =
      let x = b.component in
      let c = com_of x in
      let s = standing_of x b.progress in
      acting-of fails program p print plan lane began honest fingerprint peers b b.ins s b.progress (λ z. flush_choice z b) code list same
      (acting fails program print plan lane began honest fingerprint peers b h going b.ins refl s refl refl b.progress refl refl refl refl (flush_choice program b)
      (chosen-may program c [] (left_of b.progress) (flush_choice program b) (flush-chosen program c (node_of x) [] (left_of b.progress) refl).0)
      (λ y puts r does. flush-keeps program print c (plan c) s b.ins b.outs (Tells x) (h.told y) ((h.goes_on going).kept y) puts r does)
      sounds (λ y. flush-ready program print x (plan c) s b.ins b.outs refl refl (is-within fails program print plan lane began honest fingerprint peers b h going) h.has_disk (h.told y) ((h.goes_on going).kept y)) code list is all)

  module _ (news : List In) (came : Option Packet)
      (x : (pops : List Pop) × ArePopsOf (intervals_of b.policy) (com_of b.component) (node_of b.component) (senders_of program (com_of b.component)) pops × (brought (com_of b.component) pops ≡ came) × ArePopped (berthed program) b.ins news pops) where
    -- the pops are those of the rule
    pub turn-pops : PopsBy p b news x.0
    turn-pops = subst (λ z. PopsBy z b news x.0) (sym same) (record { are = x.1; popped = x.3 })

    -- nothing is chosen for want of memory
    pub turn-ends : (progress : Progress) → KeepsDisk b.component b.component → fails program print None b.component (received_of progress) (packets_of progress) b.component Memory
        → Holds fails program print plan lane began honest fingerprint peers (record { place = b.place; component = b.component; progress = progress; ins = news; outs = b.outs; policy = b.policy; refused = Some Memory })
    turn-ends progress kept memory = holds-refused fails program print plan lane began honest fingerprint peers b h going None b.component progress news b.outs Memory kept x.3.lanes refl tt memory (λ y. tt)

    pub turn-acting : (mid : Progress) → standing_of b.component mid ≡ counted (standing_of b.component b.progress) → received_of mid ≡ received_of b.progress → packets_of mid ≡ packets_of b.progress → played_of mid ≡ played_of b.progress → IfSome came HasWords → (honest → HaveOneContent b.ins → HaveOneContent news) → code ≡ turn_choice program b x.0
        → Acting fails program print plan lane began honest fingerprint peers b p news (counted (standing_of b.component b.progress)) mid (turn_choice p b x.0) code list
    turn-acting mid stands received packets played words contents is =
        let c = com_of b.component in
        let s = standing_of b.component b.progress in
        let policy = intervals_of b.policy in
        let go = h.goes_on going in
        let words' : (q : Packet) → brought c x.0 ≡ Some q → HasWords q = λ q e. subst (λ (o : Option Packet). IfSome o HasWords) (sym x.2 ∙ e) words in
        acting-of fails program p print plan lane began honest fingerprint peers b news (counted s) mid (λ z. turn_choice z b x.0) code list same
        (acting fails program print plan lane began honest fingerprint peers b h going news x.3.lanes (counted s) refl refl mid stands received packets played (turn_choice program b x.0)
        (chosen-may program c x.0 (left_of b.progress) (turn_choice program b x.0) (chosen program policy c (node_of b.component) (turns_of b.progress + 1) (left_of b.progress) (senders_of program c) x.0 go.own x.1).0)
        (λ y puts r does. turn-keeps program print c (plan c) s b.ins b.outs (Tells b.component) (h.told y) (go.kept y) policy news x.0 x.3 (contents y) words' x.1 puts r does)
        sounds (λ y. turn-ready program print b.component (plan c) s b.ins b.outs refl refl (is-within fails program print plan lane began honest fingerprint peers b h going) h.has_disk (h.told y) (go.kept y) policy news x.0 x.3 (contents y) words' x.1) code list is all)

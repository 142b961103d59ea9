-- What each step of a component adds, and what holds of a component that is up.
use Rattle.std.proofs.Common.{◌≡◌, ◌∙◌, refl, sym, ap, subst, arith, ℕ, true, false, cond, List, [], ◌∷◌, ◌++◌, length, drop, Option, Some, None, option_map}
use Rattle.std.specs.Prelude.{nat_lt, not, ◌||◌, is_ok, Result, Ok, Err, IfOk}
use Rattle.std.proofs.lemmas.Bool.{not-true, not_from_false}
use Rattle.std.proofs.lemmas.List.{append-nil, drop_at}
use Rattle.std.proofs.Math.Seq.{drop-length}
use Rattle.ic_base.specs.declared.events.Answer.TheVariants as answers
use Rattle.ic_base.specs.declared.limits.TheConstants.{SLOTS}
use Rattle.ic_base.specs.declared.messages.ComId.{ComId}
use Rattle.ic_base.specs.declared.messages.Packet.{Packet}
use Rattle.ic_base.specs.declared.record.Record.{Record}
use Rattle.ic_base.specs.declared.scenario.Program.{Program}
use Rattle.def_log.specs.Log.{end_with_checkpoint, log_of}
use Rattle.def_run.specs.CoreSteps.{forced_of, loads_first}
use Rattle.def_step.specs.Pcom as step
use Rattle.def_step.specs.Pcom.{Call, Gives, Gets, Forces, Checkpoints, Resends, Emits, StepResult, pcom_step}
use Rattle.def_step.specs.Replay.{has_image}
use Rattle.def_step.specs.Room.{is_empty}
use Rattle.def_step.specs.Tcom as tcom
use Rattle.def_step.specs.Tcom.{tcom_step}
use Rattle.def_step.specs.World as world
use Rattle.def_step.specs.World.{Runs, Serves, Down, External, does, device_calls, done_as, answer_of}
use Rattle.law_tail.specs.Wholes.{with_earlier}
use Rattle.ic_disk.specs.declared.disk.Disk.{Ghosts}
use Rattle.ic_gate.specs.Calls.{gated_calls}
use Rattle.ic_gate.specs.RecordCalls.{record_writes}
use Rattle.ic_pcom.specs.Views as pcoms
use Rattle.ic_pcom.specs.Views.{IsSamePcom}
use Rattle.ic_pcom.specs.declared.pcom.Pcom.{Pcom}
use Rattle.ic_pcom.specs.declared.step.PacketRefused.{PacketRefused}
use Rattle.ic_pcom.specs.declared.step.PacketRefused.TheVariants as packet
use Rattle.ic_tcom.specs.Views as tcoms
use Rattle.ic_tcom.specs.Views.{IsSameTcom}
use Rattle.ic_tcom.specs.declared.tcom.Tcom.{Tcom}
use Rattle.ic_node.specs.Calling.{call_of}
use Rattle.ic_node.specs.Meeting.{adds_in}
use Rattle.ic_node.specs.Nodes.{node_with, disk_in, read_of, told_of}
use Rattle.ic_node.specs.Sittings.{SittingsFit, AreWritable}
use Rattle.ic_node.specs.Standing.{works, is_open, is_begun, is_settled, com_in, owner_on, read_or_none}
use Rattle.ic_node.specs.Steps.{idle_answer, is_live, StaysLive, IsSameNode, Counts}
use Rattle.ic_disk.specs.Torns.{is_working}
use Rattle.ic_node.specs.declared.done.Call.{Call as Made}
use Rattle.ic_node.specs.declared.done.Call.TheVariants as calls
use Rattle.ic_node.specs.declared.done.Done.{Done}
use Rattle.ic_node.specs.declared.node.Node.{Node}
use Rattle.ic_node.specs.declared.node.Node.TheVariants.{Per, Tra, Off, Ext}
use Rattle.ic_node.proofs.Firsts.{same_disk}
use Rattle.ic_node.proofs.Forced.{calls_counted, four_calls}
use Rattle.ic_node.proofs.Growing.{tcom_grows}
use Rattle.ic_node.proofs.Lying.{Stands}
use Rattle.ic_node.proofs.PcomForces.{forces_more}

-- what a step adds stands behind the forced records, and makes the device calls of one force
abbrev Counted : world.Node → world.Done → Type 0
Counted before d =
    (forced_of (Some d.node) ≡ forced_of (Some before) ++ adds_in before (Some d))
    × ((size used : ℕ) → length (gated_calls (record_writes size used (adds_in before (Some d)))) ≡ device_calls (nat_lt used SLOTS) before d.node)

abbrev IsCounted : world.Node → Option world.Done → Type 0
IsCounted before None = Unit {0}
IsCounted before (Some d) = Counted before d

more_behind : (fs gs more : List Record) → gs ≡ fs ++ more → gs ≡ fs ++ drop (length fs) gs
more_behind fs gs more is = is ∙ ap (λ (l : List Record). fs ++ l) (sym (drop_at fs more (length fs) refl) ∙ ap (drop (length fs)) (sym is))

served_more : (fs gs more : List Record) → gs ≡ fs ++ more → end_with_checkpoint more ≡ false
    → (gs ≡ fs ++ drop (length fs) gs) × ((size used : ℕ) → length (gated_calls (record_writes size used (drop (length fs) gs))) ≡ cond (nat_lt (length fs) (length gs)) 4 0)
served_more fs gs more is plain =
    let all = more_behind fs gs more is in
    let same : drop (length fs) gs ≡ more = ap (drop (length fs)) is ∙ drop_at fs more (length fs) refl in (
      all,
      λ size used.
          calls_counted size used fs gs (drop (length fs) gs) all
          ∙ ap (λ n. cond (nat_lt (length fs) (length gs)) n 0) (four_calls (nat_lt used SLOTS) (drop (length fs) gs) (ap end_with_checkpoint same ∙ plain)),
    )

none_served : (fs : List Record)
    → (fs ≡ fs ++ drop (length fs) fs) × ((size used : ℕ) → length (gated_calls (record_writes size used (drop (length fs) fs))) ≡ cond (nat_lt (length fs) (length fs)) 4 0)
none_served fs = served_more fs fs [] (sym (append-nil fs)) refl

each_counted : (program : Program) (c : ComId) (before : world.Node) (number : ℕ) (call : Call) → IsCounted before (does program c before number call)
each_counted program c (Runs p) number call = by (pcom_step program c p call) refl
  where
    by : (o : Option StepResult) → pcom_step program c p call ≡ o → IsCounted (Runs p) (option_map (λ t. done_as (answer_of p number call t) t) o)
    by None is = tt
    by (Some t) is = let all = forces_more program c p call t is in (all, λ size used. calls_counted size used p.log.forced t.pcom.log.forced _ all)
each_counted program c (Serves x) number (Gets p) = let grows = tcom_grows program c x p in served_more x.records (tcom_step program c x p).tcom.records _ grows.0 grows.1
each_counted program c (Serves x) number (Gives handler args) = none_served x.records
each_counted program c (Serves x) number Forces = none_served x.records
each_counted program c (Serves x) number Checkpoints = none_served x.records
each_counted program c (Serves x) number Resends = none_served x.records
each_counted program c (Serves x) number Emits = none_served x.records
each_counted program c (Down rs) number call = (more_behind rs rs [] (sym (append-nil rs)), λ size used. ap (λ (l : List Record). length (gated_calls (record_writes size used l))) (drop-length rs))
each_counted program c External number call = (refl, λ size used. refl)

pub counted : (program : Program) (c : ComId) (before : world.Node) (number : ℕ) (call : Call) (d : world.Done) → does program c before number call ≡ Some d → Counted before d
counted program c before number call d is = subst (IsCounted before) is (each_counted program c before number call)

-- what is up ------------------------------------------------------------------------------------------

abbrev pub com_with : ℕ → ComId
com_with n = record { 0 = n }

module _ {D : Type 0} {d : Ghosts D} where
  -- what isn't closed and has something to do is up
  pub live_here : (n : Node D d) (kept : List Record) (number : ℕ) (call : Call) → is_open n ≡ true → idle_answer (node_with kept n) number call ≡ None → is_live n ≡ true
  live_here (Per p) kept number call is busy = is
  live_here (Tra t) kept number call is busy = is
  live_here (Off disk) kept number call is busy = absurd (cc)
  live_here Ext kept number call is busy = absurd (cc)

  pub live_open : (n : Node D d) → is_live n ≡ true → is_open n ≡ true
  live_open (Per p) live = live
  live_open (Tra t) live = live
  live_open (Off disk) live = absurd (cc)
  live_open Ext live = absurd (cc)

  pub live_disk : (n : Node D d) → is_live n ≡ true → (x : D) × (disk_in n ≡ Some x)
  live_disk (Per p) live = (pcoms.disk_of p, refl)
  live_disk (Tra t) live = (tcoms.disk_of t, refl)
  live_disk (Off disk) live = absurd (cc)
  live_disk Ext live = absurd (cc)

  -- no load comes first in its step
  pub live_first : (program : Program) (c : ComId) (n : Node D d) (kept : List Record) → is_live n ≡ true → loads_first program c (Some (node_with kept n)) ≡ 0
  live_first program c (Per p) kept live = refl
  live_first program c (Tra t) kept live = refl
  live_first program c (Off disk) kept live = absurd (cc)
  live_first program c Ext kept live = absurd (cc)

  -- what its own log says holds of it
  pub live_stands : (owner : ℕ) (n : Node D d) (kept : List Record) → is_live n ≡ true → works d n ≡ true → (told_of d (disk_in n) → owner_on d owner (disk_in n) ≡ owner) → (told_of d (disk_in n) → log_of (read_of d (disk_in n)) ≡ Ok (forced_of (Some (node_with kept n)))) → Stands d owner n kept
  live_stands owner (Per p) kept live working owns reads =
      let going = not-true (pcoms.is_closed p) live in
      record { working = working; on_disk = λ told. ap read_or_none (reads told); whole = λ told. ap is_ok (reads told); owned = owns; durable = λ keeps. p.durable keeps going; settled = p.settled going }
  live_stands owner (Tra t) kept live working owns reads =
      let going = not-true (tcoms.is_closed t) live in
      record { working = working; on_disk = λ told. ap read_or_none (reads told); whole = λ told. ap is_ok (reads told); owned = owns; durable = λ keeps. t.durable keeps going; settled = t.settled going }
  live_stands owner (Off disk) kept live working owns reads = absurd (cc)
  live_stands owner Ext kept live working owns reads = absurd (cc)

  -- its disk works, and nothing waits for a sync
  pub disk_works : (n : Node D d) (x : D) → disk_in n ≡ Some x → works d n ≡ true → is_working d x ≡ true
  disk_works (Per p) x is e = ap (is_working d) (sym (same_disk _ x is)) ∙ e
  disk_works (Tra t) x is e = ap (is_working d) (sym (same_disk _ x is)) ∙ e
  disk_works (Off disk) x is e = ap (is_working d) (sym (same_disk _ x is)) ∙ e
  disk_works Ext x is e = absurd (cc)

  pub disk_settles : (n : Node D d) (x : D) → disk_in n ≡ Some x → is_settled d n ≡ true → d.settled x ≡ true
  disk_settles (Per p) x is e = ap d.settled (sym (same_disk _ x is)) ∙ e
  disk_settles (Tra t) x is e = ap d.settled (sym (same_disk _ x is)) ∙ e
  disk_settles (Off disk) x is e = ap d.settled (sym (same_disk _ x is)) ∙ e
  disk_settles Ext x is e = absurd (cc)

-- kinds -----------------------------------------------------------------------------------------------

pub serves_gets : (t : tcom.Tcom) (number : ℕ) (call : Made) → idle_answer (Serves t) number (call_of call) ≡ None → ((p : Packet) → call ≡ calls.Gets p → ⊥) → ⊥
serves_gets t number (calls.Gets p) busy not = not p refl
serves_gets t number (calls.Gives handler args) busy not = cc
serves_gets t number calls.Forces busy not = cc
serves_gets t number calls.Checkpoints busy not = cc
serves_gets t number calls.Resends busy not = cc
serves_gets t number calls.Emits busy not = cc

pub serves_idle : (t : tcom.Tcom) (number : ℕ) (call : Made) → ((p : Packet) → call ≡ calls.Gets p → ⊥) → Some answers.Idle ≡ idle_answer (Serves t) number (call_of call)
serves_idle t number (calls.Gets p) not = absurd (not p refl)
serves_idle t number (calls.Gives handler args) not = refl
serves_idle t number calls.Forces not = refl
serves_idle t number calls.Checkpoints not = refl
serves_idle t number calls.Resends not = refl
serves_idle t number calls.Emits not = refl

module _ {D : Type 0} {d : Ghosts D} where
  pub live_kind : (n : Node D d) → is_live n ≡ true → ((p : Pcom D d) → n ≡ Per p → ⊥) → ((t : Tcom D d) → n ≡ Tra t → ⊥) → ⊥
  live_kind (Per p) live not_per not_tra = not_per p refl
  live_kind (Tra t) live not_per not_tra = not_tra t refl
  live_kind (Off disk) live not_per not_tra = cc
  live_kind Ext live not_per not_tra = cc

  still_begun : (kept : List Record) (p q : Pcom D d) → (has_image (pcoms.component_of p).log.forced ≡ true → has_image (pcoms.component_of q).log.forced ≡ true) → is_begun kept (Per p) ≡ true → is_begun kept (Per q) ≡ true
  still_begun [] p q more is = refl
  still_begun (r ∷ kept) p q more is = more is

  -- none stand before the first
  pub none_begun : (n : Node D d) → is_begun [] n ≡ true
  none_begun (Per p) = refl
  none_begun (Tra t) = refl
  none_begun (Off disk) = refl
  none_begun Ext = refl

  -- what goes on as it was
  pub pcom_stays : (n : Node D d) (p q : Pcom D d) (r : Result Done PacketRefused) → n ≡ Per p → IfOk r (λ done. (pcoms.is_closed q ≡ false) × (pcoms.com_of q ≡ pcoms.com_of p) × (has_image (pcoms.component_of p).log.forced ≡ true → has_image (pcoms.component_of q).log.forced ≡ true)) → IfOk r (λ done. StaysLive n (Per q))
  pcom_stays n p q (Ok done) is up = record { live = not_from_false (pcoms.is_closed q) up.0; which = λ c. up.1 ∙ ap (com_in c) (sym is); begun = λ kept e. still_begun kept p q up.2 (ap (is_begun kept) (sym is) ∙ e); fit = ∣ tt ∣₁ }
  pcom_stays n p q (Err why) is up = tt

  pub tcom_stays : (n : Node D d) (t u : Tcom D d) (r : Result Done PacketRefused) → n ≡ Tra t → IfOk r (λ done. (tcoms.is_closed u ≡ false) × (tcoms.com_of u ≡ tcoms.com_of t) × ∥ SittingsFit (tcoms.component_of u).sittings ∥₁) → IfOk r (λ done. StaysLive n (Tra u))
  tcom_stays n t u (Ok done) is up = record { live = not_from_false (tcoms.is_closed u) up.0; which = λ c. up.1 ∙ ap (com_in c) (sym is); begun = λ kept e. refl; fit = up.2 }
  tcom_stays n t u (Err why) is up = tt

  -- what is the same but for its stop
  pub per_same : (n : Node D d) (p q : Pcom D d) → n ≡ Per p → IsSamePcom p q → IsSameNode n (Per q)
  per_same n p q is like = record { same = λ kept. ap (λ (x : step.Pcom). Runs (with_earlier kept x)) like.same ∙ ap (node_with kept) (sym is); which = λ c. like.which ∙ ap (com_in c) (sym is); begun = λ kept. ap (λ (x : step.Pcom). is_empty kept || has_image x.log.forced) like.same ∙ ap (is_begun kept) (sym is); live = ap not like.closed ∙ ap is_live (sym is); fit = λ fit. tt }

  pub tra_same : (n : Node D d) (t u : Tcom D d) → n ≡ Tra t → IsSameTcom t u → IsSameNode n (Tra u)
  tra_same n t u is like = record {
    same = λ kept. ap Serves like.same ∙ ap (node_with kept) (sym is);
    which = λ c. like.which ∙ ap (com_in c) (sym is);
    begun = λ kept. ap (is_begun kept) (sym is);
    live = ap not like.closed ∙ ap is_live (sym is);
    fit = λ fit. subst (λ (x : tcom.Tcom). SittingsFit x.sittings) (sym like.same) (subst AreWritable is fit);
  }

  pub off_same : (n : Node D d) (x y : D) → n ≡ Off x → IsSameNode n (Off y)
  off_same n x y is = record { same = λ kept. ap (node_with kept) (sym is); which = λ c. ap (com_in c) (sym is); begun = λ kept. ap (is_begun kept) (sym is); live = ap is_live (sym is); fit = λ fit. tt }

  pub node_same : (n : Node D d) → IsSameNode n n
  node_same n = record { same = λ kept. refl; which = λ c. refl; begun = λ kept. refl; live = refl; fit = λ fit. fit }

pub tra_counts : (n : ℕ) (before : world.Node) (t : tcom.Tcom) (r : Result Done PacketRefused) → Counts n n before (Serves t) r
tra_counts n before t (Ok done) = omega arith
tra_counts n before t (Err packet.Stopped) = refl
tra_counts n before t (Err packet.Full) = tt
tra_counts n before t (Err packet.Memory) = tt
tra_counts n before t (Err packet.Failed) = tt
tra_counts n before t (Err (packet.Bad place)) = tt

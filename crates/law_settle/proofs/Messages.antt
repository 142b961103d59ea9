-- Each message of the crash-free world stands once in the history of a settled world, and no other does.
use Rattle.std.proofs.Common.{◌≡◌, refl, ◌∙◌, ap, sym, subst, ℕ, Bool, true, false, ◌&&◌, ◌||◌, ◌==◌, length, slice_get, Option, Some, None, option_map, option_and_then}
use Rattle.std.specs.Prelude.{Contains, IsSomeAnd, count_by, option_to_list, ⊤, Ok}
use Rattle.std.proofs.lemmas.Option.{same_Some, slice_get-map}
use Rattle.ic_base.specs.declared.messages.ComId.{ComId}
use Rattle.ic_base.specs.declared.messages.Entry.{Entry}
use Rattle.ic_base.specs.declared.messages.Kind.TheVariants as kinds
use Rattle.ic_base.specs.declared.messages.Msg.{Msg}
use Rattle.ic_base.specs.declared.messages.Send.{Send}
use Rattle.ic_base.specs.declared.scenario.Component.{Component}
use Rattle.ic_base.specs.declared.scenario.Program.{Program}
use Rattle.ic_base.specs.declared.record.Record.{Record}
use Rattle.ic_base.specs.declared.record.Record.TheVariants.{Take, TakeWhole, Input, Value, Outcome, Released, Shown, Checkpoint, Epoch, Decided}
use Rattle.ic_base.specs.Programs.{same_com, is_a_pcom, is_pcom, declares}
use Rattle.def_plain.specs.declared.world.PlainPcom.{PlainPcom}
use Rattle.def_plain.specs.declared.world.PlainCom.{PlainCom}
use Rattle.def_plain.specs.declared.world.PlainCom.TheVariants as coms
use Rattle.def_plain.specs.Plain.{PlainWorld, as_pcom, pcom_at, message_of, on_link, counted, plain_run_of}
use Rattle.def_plain.specs.History.{history_of, entry_of}
use Rattle.def_state.specs.Hist.{Hist}
use Rattle.def_facts.specs.Logs.{Logs, log_at, contents_in}
use Rattle.def_facts.specs.Pcom.{state_after}
use Rattle.def_facts.specs.World.{Past}
use Rattle.law_replay.proofs.Lists.{none-some, equal-numbers, same-com, contains-split, true-false, front, back}
use Rattle.law_replay.proofs.Numbers.{numbered_are_sent}
use Rattle.law_sound.specs.Order.{Explains, WasSent}
use Rattle.law_sound.proofs.Histories.{history_has_entries}
use Rattle.law_sound.proofs.Sent.{contents_agree, whole_contents_agree}
use Rattle.law_sound.specs.Assembly.{kind_in}
use Rattle.law_sound.proofs.RunKinds.{runs_keep_kinds}
use Rattle.law_sound.proofs.Stepping.{is-there, the-send}
use Rattle.law_sound.proofs.Contents.{message-last, reached-last}
use Rattle.def_run.specs.CrashFree.{takes_number, is_take}
use Rattle.law_settle.proofs.Commits.{count_none}
use Rattle.law_settle.proofs.Inputs.{entry-com}
use Rattle.law_replay.proofs.Members.{none_contained}
use Rattle.law_settle.proofs.Once.{take-receives}
use Rattle.law_settle.proofs.Released.{Receives}

-- what the crash-free world has as a Pcom is declared as one
pub declared-pcom : (program : Program) (logs : Logs) (v : PlainWorld) (s : ComId) (p : PlainPcom) → plain_run_of program (history_of program logs) ≡ Ok v → pcom_at v s ≡ Some p → is_a_pcom program s ≡ true
declared-pcom program logs v s p run is = by (slice_get program.components s.0) kind
  where
    x : (y : PlainCom) × (slice_get v s.0 ≡ Some y) × (as_pcom y ≡ Some p)
    x = is-there as_pcom (slice_get v s.0) p is

    of : (y : PlainCom) → as_pcom y ≡ Some p → kind_in y ≡ kinds.Pcom
    of (coms.Pcom q) e = refl
    of (coms.Tcom ledger) e = none-some p e
    of coms.Xcom e = none-some p e

    kind : option_map (λ (d : Component). d.kind) (slice_get program.components s.0) ≡ Some kinds.Pcom
    kind =
        sym (slice_get-map (λ (d : Component). d.kind) program.components s.0) ∙ ap (λ l. slice_get l s.0) (sym (runs_keep_kinds program (history_of program logs) v run)) ∙ slice_get-map kind_in v s.0 ∙ ap (option_map kind_in) x.1
        ∙ ap (λ k. Some k) (of x.0 x.2)

    by : (o : Option Component) → option_map (λ (d : Component). d.kind) o ≡ Some kinds.Pcom → declares (λ d. is_pcom d.kind) o ≡ true
    by None e = none-some kinds.Pcom e
    by (Some d) e = ap is_pcom (same_Some d.kind kinds.Pcom e)

-- an entry that takes a message takes one of the crash-free world
taken-there : (program : Program) (found logs : Logs) (past : Past) (v : PlainWorld) → Explains program found logs past → plain_run_of program (history_of program logs) ≡ Ok v → (s c : ComId) (k : ℕ) (e : Entry) → Contains (history_of program logs) e → takes_number c s k e ≡ true → (x : Send) × (message_of v s c k ≡ Some x)
unfolding Receives
taken-there program found logs past v f run s c k e has is = by x.2 y.1 (subst (λ d. Contains (log_at logs d) x.2) same x.4)
  where
    x : (u : ComId) × (d : Component) × (r : Record) × (slice_get program.components u.0 ≡ Some d) × Contains (log_at logs u) r × (entry_of d.kind u r ≡ Some e)
    x = history_has_entries program logs e has

    y : (x.1.kind ≡ kinds.Pcom) × (Receives (record { peer = s; k = k }) x.2 ≡ true)
    y = take-receives c s k x.1.kind x.0 x.2 e x.5 (back (same_com c e.com) (is_take s k e.act) is)

    same : x.0 ≡ c
    same = sym (same-com c e.com (front (same_com c e.com) (is_take s k e.act) is) ∙ entry-com x.1.kind x.0 x.2 e x.5)

    pcom : is_a_pcom program c ≡ true
    pcom = ap (is_a_pcom program) (sym same) ∙ ap (declares (λ (d : Component). is_pcom d.kind)) x.3 ∙ ap is_pcom y.0

    name : (d : ComId) (n : ℕ) → same_com s d && (k == n) ≡ true → (d ≡ s) × (n ≡ k)
    name d n e = (sym (same-com s d (front (same_com s d) (k == n) e)), sym (equal-numbers k n (back (same_com s d) (k == n) e)))

    or-first : (b : Bool) → b || false ≡ true → b ≡ true
    or-first true e = refl
    or-first false e = e

    there : (stamp : ℕ) (Says : Msg → Type 0) → WasSent program logs past c s k stamp Says → (z : Send) × (message_of v s c k ≡ Some z)
    there stamp Says m = (the-send m.0, message-last program found logs past v f c s k stamp Says m ((reached-last program found logs past v f run).pcoms s m.7))

    by : (r : Record) → Receives (record { peer = s; k = k }) r ≡ true → Contains (log_at logs c) r → (z : Send) × (message_of v s c k ≡ Some z)
    by (Take d n stamp) told h =
        let names = name d n told in
        let t = contains-split (log_at logs c) (Take s k stamp) (subst (λ (q : ComId). Contains (log_at logs c) (Take q k stamp)) names.0 (subst (λ i. Contains (log_at logs c) (Take d i stamp)) names.1 h)) in
        there stamp (λ m. ⊤) (contents_agree program found logs past f c s t.0 t.1 k stamp pcom t.2)
    by (TakeWhole d n stamp handler args) told h =
        let names = name d n (or-first (same_com s d && (k == n)) told) in
        let t = contains-split (log_at logs c) (TakeWhole s k stamp handler args) (subst (λ (q : ComId). Contains (log_at logs c) (TakeWhole q k stamp handler args)) names.0 (subst (λ i. Contains (log_at logs c) (TakeWhole d i stamp handler args)) names.1 h)) in
        there stamp (λ m. (m.handler ≡ handler) × (m.args ≡ args)) (whole_contents_agree program found logs past f c s t.0 t.1 k stamp handler args pcom t.2)
    by (Input stamp handler args) told h = true-false told
    by (Value n place session value) told h = true-false told
    by (Outcome stamp n abort) told h = true-false told
    by (Released to n) told h = true-false told
    by (Shown n) told h = true-false told
    by (Checkpoint image) told h = true-false told
    by (Epoch epoch) told h = true-false told
    by (Decided stamp d n writes) told h = true-false told

-- The takes of a message are as many as the crash-free world has such messages: one, or none.
pub messages_counted : (program : Program) (found logs : Logs) (past : Past) (v : PlainWorld) → Explains program found logs past → plain_run_of program (history_of program logs) ≡ Ok v
    → ((s : ComId) → is_a_pcom program s ≡ true → (h : Hist) × (state_after program s (past.received s) (log_at logs s) ≡ Some h) × (pcom_at v s ≡ Some h.plain))
    → ((s : ComId) (m : Msg) → is_a_pcom program s ≡ true → IsSomeAnd (state_after program s (past.received s) (log_at logs s)) (λ h. Contains h.sent m) → count_by (takes_number m.to s m.k) (history_of program logs) ≡ 1)
    → (s c : ComId) (k : ℕ) → count_by (takes_number c s k) (history_of program logs) ≡ length (option_to_list (message_of v s c k))
messages_counted program found logs past v f run cells once s c k = at (message_of v s c k) refl
  where
    at : (o : Option Send) → message_of v s c k ≡ o → count_by (takes_number c s k) (history_of program logs) ≡ length (option_to_list o)
    at None none = count_none (takes_number c s k) (history_of program logs) (none_contained (takes_number c s k) (history_of program logs) (λ e has. by e has (takes_number c s k e) refl))
      where
        by : (e : Entry) → Contains (history_of program logs) e → (b : Bool) → takes_number c s k e ≡ b → takes_number c s k e ≡ false
        by e has false is = is
        by e has true is = let x = taken-there program found logs past v f run s c k e has is in none-some x.0 (sym none ∙ x.1)
    at (Some x) some = by (pcom_at v s) refl some
      where
        by : (o : Option PlainPcom) → pcom_at v s ≡ o → option_and_then (λ p. counted (on_link c p.sent) k) o ≡ Some x → count_by (takes_number c s k) (history_of program logs) ≡ 1
        by None is e = none-some x e
        by (Some p) is e =
            let pcom = declared-pcom program logs v s p run is in
            let h = cells s pcom in
            let same : p ≡ h.0.plain = same_Some p h.0.plain (sym is ∙ h.2) in
            let m = numbered_are_sent program s (contents_in (past.received s)) (log_at logs s) h.0 c k x h.1 (subst (λ q. counted (on_link c q.sent) k ≡ Some x) same e) in
            subst (λ i. count_by (takes_number c s i) (history_of program logs) ≡ 1) m.3
            (subst (λ d. count_by (takes_number d s m.0.k) (history_of program logs) ≡ 1) m.2 (once s m.0 pcom (subst (λ o. IsSomeAnd o (λ g. Contains g.sent m.0)) (sym h.1) m.1)))

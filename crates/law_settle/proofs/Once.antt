-- Each message that was sent stands exactly once in the history of a settled world.
use Rattle.std.proofs.Common.{◌≡◌, refl, ◌∙◌, ap, sym, subst, ℕ, ◌==◌, Bool, true, false, ◌&&◌, ◌||◌, List, [], ◌∷◌, ◌++◌, Option, Some, None, option_map, is_none, arith, ◌⊎◌, inl, inr}
use Rattle.std.specs.Prelude.{Contains, IsSomeAnd, count_by, slice_get}
use Rattle.std.specs.List.{list_any}
use Rattle.std.proofs.lemmas.Option.{same_Some}
use Rattle.std.proofs.lemmas.List.Elements.{Contains-append_cases}
use Rattle.ic_base.specs.declared.messages.ComId.{ComId}
use Rattle.ic_base.specs.declared.messages.Act.TheVariants as acts
use Rattle.ic_base.specs.declared.messages.Done.{Done}
use Rattle.ic_base.specs.declared.messages.Entry.{Entry}
use Rattle.ic_base.specs.declared.messages.Kind.{Kind}
use Rattle.ic_base.specs.declared.messages.Kind.TheVariants as kinds
use Rattle.ic_base.specs.declared.messages.Msg.{Msg}
use Rattle.ic_base.specs.declared.scenario.Component.{Component}
use Rattle.ic_base.specs.declared.scenario.Program.{Program}
use Rattle.ic_base.specs.declared.record.Record.{Record}
use Rattle.ic_base.specs.declared.record.Record.TheVariants.{Take, TakeWhole, Input, Value, Outcome, Released, Shown, Checkpoint, Epoch, Decided}
use Rattle.ic_base.specs.Programs.{same_com, is_a_pcom}
use Rattle.def_plain.specs.declared.world.PlainPcom.{PlainPcom}
use Rattle.def_plain.specs.Cell.{Touch, TakesMessage, TakesInput, SeesAbort, SeesCommit, cell_step, plays_on, new_in_hand, takes}
use Rattle.def_plain.specs.History.{history_of, entry, entry_of, pcom_entry}
use Rattle.def_play.specs.Playing.{handler_of}
use Rattle.def_state.specs.Fits.{fits}
use Rattle.def_state.specs.Names.{Identity, same_identity}
use Rattle.def_state.specs.Hist.{Hist, Contents, apply, apply_all, after, first_hist, first_cell, recorded, played_on, standing_of, last_ended, answered, receipt_identity}
use Rattle.def_facts.specs.Logs.{Logs, log_at, contents_in}
use Rattle.def_facts.specs.Pcom.{state_after}
use Rattle.def_facts.specs.World.{Past, forced_logs}
use Rattle.law_sound.specs.Order.{Rises}
use Rattle.def_run.specs.CrashFree.{takes_number, is_take}
use Rattle.law_replay.proofs.Growing.{apply_none, prefixes_replay}
use Rattle.law_sound.proofs.Histories.{history_has_entries, entries_are_in_history}
use Rattle.law_sound.proofs.Rising.{history_rises}
use Rattle.law_replay.proofs.Lists.{head-or-tail, true-false, none-some, front, back, contains-split, passed, provided-is}
use Rattle.law_replay.proofs.Lists.{same-com, open-content}
use Rattle.def_facts.specs.Playable.{IsPlayable}
use Rattle.def_step.specs.World.{World}
use Rattle.law_settle.proofs.Going.{sent_goes_to_a_pcom}
use Rattle.law_settle.specs.Done.{MessagesStandOnce}
use Rattle.law_settle.proofs.Commits.{count_one}
use Rattle.law_settle.proofs.Done.{settled_is_done}
use Rattle.law_settle.proofs.Inputs.{pcom-component, entry-com, itself-same}
use Rattle.law_replay.proofs.Members.{or-none, none-or, contains_any, any-has}
use Rattle.law_settle.proofs.Mutual.{forced-explained}
use Rattle.law_replay.proofs.Shown.{played_is}
use Rattle.law_settle.proofs.Released.{Taken, Receives, applied-receipt, none-before, none-later}
use Rattle.law_replay.proofs.Applying.{ends-receipts, takes-receipts as cell-receipts, plays-receipts}

-- a receipt has its record ------------------------------------------------------------------------

none-pushed : {A : Type 0} (f : A → Bool) (xs : List A) (y : A) → list_any f xs ≡ false → f y ≡ false → list_any f (xs ++ y ∷ []) ≡ false
none-pushed f [] y e h = none-or (f y) false h refl
none-pushed f (x ∷ xs) y e h = let a = or-none (f x) (list_any f xs) e in none-or (f x) (list_any f (xs ++ y ∷ [])) a.0 (none-pushed f xs y a.1 h)

-- a state with the same receipts
same-taken : (x : Identity) (h g : Hist) → g.plain.receipts ≡ h.plain.receipts → Taken x h ≡ false → Taken x g ≡ false
unfolding Taken
same-taken x h g e none = ap (list_any (λ r. same_identity x (receipt_identity r))) e ∙ none

pushed-taken : (program : Program) (c : ComId) (x : Identity) (h g : Hist) (stamp n handler : ℕ) (from : ComId) (args : _) → same_identity x (record { peer = from; k = n }) ≡ false → Taken x h ≡ false → played_on program c h stamp (Some (TakesMessage from n handler args)) ≡ Some g → Taken x g ≡ false
unfolding Taken
pushed-taken program c x h g stamp n handler from args other none e =
    let p = played_is program c h g stamp (TakesMessage from n handler args) e in
    ap (λ (z : Hist). list_any (λ r. same_identity x (receipt_identity r)) z.plain.receipts) (sym p.2)
    ∙ ap (list_any (λ r. same_identity x (receipt_identity r))) (cell-receipts program c h.plain p.0 from n handler args p.1)
    ∙ none-pushed (λ r. same_identity x (receipt_identity r)) h.plain.receipts (from, n) none other

touched-taken : (program : Program) (c : ComId) (x : Identity) (h g : Hist) (stamp : ℕ) (t : Touch) → ((p : PlainPcom) → cell_step program c h.plain t ≡ Some p → p.receipts ≡ h.plain.receipts) → Taken x h ≡ false → played_on program c h stamp (Some t) ≡ Some g → Taken x g ≡ false
touched-taken program c x h g stamp t same none e =
    let p = played_is program c h g stamp t e in subst (λ (z : Hist). Taken x z ≡ false) p.2 (same-taken x h _ (same p.0 p.1) none)

or-second : (b : Bool) → b || false ≡ false → b ≡ false
or-second true e = e
or-second false e = e

not-received : (program : Program) (c : ComId) (k : Contents) (x : Identity) (h g : Hist) (r : Record) → Receives x r ≡ false → Taken x h ≡ false → recorded program c k h r ≡ Some g → Taken x g ≡ false
unfolding Receives
not-received program c k x h g (Take from n stamp) other none e = at (k from n) e
  where
    at : (o : Option Msg) → played_on program c h stamp (option_map (λ m. TakesMessage from n m.handler m.args) o) ≡ Some g → Taken x g ≡ false
    at None f = none-some g f
    at (Some m) f = pushed-taken program c x h g stamp n m.handler from m.args other none f
not-received program c k x h g (TakeWhole from n stamp handler args) other none e = pushed-taken program c x h g stamp n handler from args (or-second (same_identity x (record { peer = from; k = n })) other) none e
not-received program c k x h g (Input stamp handler args) other none e =
    touched-taken program c x h g stamp (TakesInput handler args) (λ p f. sym (ap (λ (z : PlainPcom). z.receipts) (provided-is (is_none h.plain.hand && takes (handler_of program c handler) args) (plays_on program c h.plain (new_in_hand handler args)) p f)) ∙ plays-receipts program c h.plain (new_in_hand handler args)) none e
not-received program c k x h g (Outcome stamp n None) other none e = touched-taken program c x (last_ended h) g stamp (SeesCommit n h.now) (λ p f. ends-receipts program c h.plain p n (Done.Committed h.now) h.plain.hand f) (same-taken x h (last_ended h) refl none) e
not-received program c k x h g (Outcome stamp n (Some cause)) other none e = touched-taken program c x (last_ended h) g stamp (SeesAbort n) (λ p f. ends-receipts program c h.plain p n Done.Aborted h.plain.hand f) (same-taken x h (last_ended h) refl none) e
not-received program c k x h g (Value n place session value) other none e = subst (λ (z : Hist). Taken x z ≡ false) (same_Some _ g e) (same-taken x h (answered program c h session (h.now ++ value ∷ [])) refl none)
not-received program c k x h g (Released to n) other none e = subst (λ (z : Hist). Taken x z ≡ false) (same_Some _ g e) (same-taken x h _ refl none)
not-received program c k x h g (Shown n) other none e = subst (λ (z : Hist). Taken x z ≡ false) (same_Some _ g e) (same-taken x h _ refl none)
not-received program c k x h g (Checkpoint image) other none e = subst (λ (z : Hist). Taken x z ≡ false) (same_Some _ g e) none
not-received program c k x h g (Epoch epoch) other none e = none-some g e
not-received program c k x h g (Decided stamp d n writes) other none e = none-some g e

none-received : (program : Program) (c : ComId) (k : Contents) (x : Identity) (rs : List Record) (h g : Hist) → list_any (Receives x) rs ≡ false → Taken x h ≡ false → apply_all program c k (Some h) rs ≡ Some g → Taken x g ≡ false
none-received program c k x [] h g none free e = subst (λ (z : Hist). Taken x z ≡ false) (same_Some h g e) free
none-received program c k x (r ∷ rs) h g none free e = at (apply program c k h r) refl e (λ y. none-received program c k x rs y g (or-none (Receives x r) (list_any (Receives x) rs) none).1)
  where
    at : (o : Option Hist) → apply program c k h r ≡ o → apply_all program c k o rs ≡ Some g → ((y : Hist) → Taken x y ≡ false → apply_all program c k (Some y) rs ≡ Some g → Taken x g ≡ false) → Taken x g ≡ false
    at None is f more = none-some g (sym (apply_none program c k rs) ∙ f)
    at (Some y) is f more = more y (not-received program c k x h y r (or-none (Receives x r) (list_any (Receives x) rs) none).0 free (passed (fits program c (standing_of program c h) r) (recorded program c k h r) y is).1) f

first-free : (x : Identity) (program : Program) (c : ComId) → Taken x (first_hist program c) ≡ false
unfolding Taken
first-free x program c = ap (list_any (λ r. same_identity x (receipt_identity r))) (at (slice_get program.components c.0))
  where
    at : (o : Option Component) → (first_cell o).receipts ≡ []
    at None = refl
    at (Some d) = refl

received-record : (program : Program) (c : ComId) (k : Contents) (s : ComId) (n : ℕ) (rs : List Record) (g : Hist) → after program c k rs ≡ Some g → Contains g.plain.receipts (s, n) → (r : Record) × Contains rs r × (Receives (record { peer = s; k = n }) r ≡ true)
unfolding Taken
received-record program c k s n rs g e has = at (list_any (Receives (record { peer = s; k = n })) rs) refl
  where
    equal : (m : ℕ) → (m == m) ≡ true
    equal m = grind arith

    at : (b : Bool) → list_any (Receives (record { peer = s; k = n })) rs ≡ b → (r : Record) × Contains rs r × (Receives (record { peer = s; k = n }) r ≡ true)
    at true f = any-has (Receives (record { peer = s; k = n })) rs f
    at false f =
        true-false
        (sym (none-received program c k (record { peer = s; k = n }) rs (first_hist program c) g f (first-free (record { peer = s; k = n }) program c) e)
        ∙ contains_any (λ r. same_identity (record { peer = s; k = n }) (receipt_identity r)) g.plain.receipts (s, n) has (ap (λ b. b && (n == n)) (equal s.0) ∙ equal n))

-- once --------------------------------------------------------------------------------------------

-- a second record that receives the same message is the first
same-record : (program : Program) (c : ComId) (k : Contents) (x : Identity) (rs : List Record) (g : Hist) (r q : Record) → after program c k rs ≡ Some g → Contains rs r → Receives x r ≡ true → Contains rs q → Receives x q ≡ true → q ≡ r
same-record program c k x rs g r q e has is also too =
    let st = contains-split rs r has in
    let p = prefixes_replay program c k st.0 (r ∷ st.1) g (ap (after program c k) (sym st.2) ∙ e) in
    split st.0 st.1 p.0 p.1 (apply program c k p.0 r) refl p.2 (Contains-append_cases st.0 (r ∷ st.1) q (subst (λ l. Contains l q) st.2 also))
  where
    split : (pre post : List Record) (h : Hist) → after program c k pre ≡ Some h → (o : Option Hist) → apply program c k h r ≡ o → apply_all program c k o post ≡ Some g → Contains pre q ⊎ Contains (r ∷ post) q → q ≡ r
    split pre post h made None f rest w = none-some g (sym (apply_none program c k post) ∙ rest)
    split pre post h made (Some y) f rest (inl w) = true-false (sym (none-before program c k x pre (first_hist program c) h (applied-receipt program c k x h y r is f).0 made) ∙ contains_any (Receives x) pre q w too)
    split pre post h made (Some y) f rest (inr w) = by (head-or-tail r q post w)
      where
        by : (r ≡ q) ⊎ Contains post q → q ≡ r
        by (inl same) = sym same
        by (inr t) = true-false (sym (none-later program c k x post y g (applied-receipt program c k x h y r is f).1 rest) ∙ contains_any (Receives x) post q t too)

-- the entry of a record that receives a message, and back
receives-entry : (c s : ComId) (n : ℕ) (r : Record) → Receives (record { peer = s; k = n }) r ≡ true → (e : Entry) × (pcom_entry c r ≡ Some e) × (takes_number c s n e ≡ true)
unfolding Receives
receives-entry c s n (Take from m stamp) is = (entry c stamp (acts.Take from m), refl, ap (λ b. b && (same_com s from && (n == m))) (itself-same c c refl) ∙ is)
receives-entry c s n (TakeWhole from m stamp handler args) is = (entry c stamp (acts.Take from m), refl, ap (λ b. b && (same_com s from && (n == m))) (itself-same c c refl) ∙ whole (same_com s from && (n == m)) is)
  where
    whole : (b : Bool) → b || false ≡ true → b ≡ true
    whole true f = refl
    whole false f = f
receives-entry c s n (Input stamp handler args) is = true-false is
receives-entry c s n (Outcome stamp m abort) is = true-false is
receives-entry c s n (Value m place session value) is = true-false is
receives-entry c s n (Released to m) is = true-false is
receives-entry c s n (Shown m) is = true-false is
receives-entry c s n (Checkpoint image) is = true-false is
receives-entry c s n (Epoch epoch) is = true-false is
receives-entry c s n (Decided stamp d m writes) is = true-false is

or-some : (b : Bool) → b ≡ true → b || false ≡ true
or-some b e = ap (λ z. z || false) e

pub take-receives : (c s : ComId) (n : ℕ) (k : Kind) (u : ComId) (r : Record) (e : Entry) → entry_of k u r ≡ Some e → is_take s n e.act ≡ true → (k ≡ kinds.Pcom) × (Receives (record { peer = s; k = n }) r ≡ true)
unfolding Receives
take-receives c s n kinds.Pcom u (Take from m stamp) e is told_it = (refl, ap (λ (x : Entry). is_take s n x.act) (same_Some _ e is) ∙ told_it)
take-receives c s n kinds.Pcom u (TakeWhole from m stamp handler args) e is told_it = (refl, or-some (same_com s from && (n == m)) (ap (λ (x : Entry). is_take s n x.act) (same_Some _ e is) ∙ told_it))
take-receives c s n kinds.Pcom u (Input stamp handler args) e is told_it = true-false (ap (λ (x : Entry). is_take s n x.act) (same_Some _ e is) ∙ told_it)
take-receives c s n kinds.Pcom u (Outcome stamp m None) e is told_it = none-some e is
take-receives c s n kinds.Pcom u (Outcome stamp m (Some cause)) e is told_it = true-false (ap (λ (x : Entry). is_take s n x.act) (same_Some _ e is) ∙ told_it)
take-receives c s n kinds.Pcom u (Value m place session value) e is told_it = none-some e is
take-receives c s n kinds.Pcom u (Released to m) e is told_it = none-some e is
take-receives c s n kinds.Pcom u (Shown m) e is told_it = none-some e is
take-receives c s n kinds.Pcom u (Checkpoint image) e is told_it = none-some e is
take-receives c s n kinds.Pcom u (Epoch epoch) e is told_it = none-some e is
take-receives c s n kinds.Pcom u (Decided stamp d m writes) e is told_it = none-some e is
take-receives c s n kinds.Tcom u (Decided stamp d m writes) e is told_it = true-false (ap (λ (x : Entry). is_take s n x.act) (same_Some _ e is) ∙ told_it)
take-receives c s n kinds.Tcom u (Take from m stamp) e is told_it = none-some e is
take-receives c s n kinds.Tcom u (TakeWhole from m stamp handler args) e is told_it = none-some e is
take-receives c s n kinds.Tcom u (Input stamp handler args) e is told_it = none-some e is
take-receives c s n kinds.Tcom u (Outcome stamp m abort) e is told_it = none-some e is
take-receives c s n kinds.Tcom u (Value m place session value) e is told_it = none-some e is
take-receives c s n kinds.Tcom u (Released to m) e is told_it = none-some e is
take-receives c s n kinds.Tcom u (Shown m) e is told_it = none-some e is
take-receives c s n kinds.Tcom u (Checkpoint image) e is told_it = none-some e is
take-receives c s n kinds.Tcom u (Epoch epoch) e is told_it = none-some e is
take-receives c s n kinds.Xcom u r e is told_it = none-some e is

-- a message with a receipt stands once in the history
taken-once : (program : Program) (logs : Logs) (c s : ComId) (n : ℕ) (k : Contents) (g : Hist) → is_a_pcom program c ≡ true → after program c k (log_at logs c) ≡ Some g → Rises (history_of program logs) → Contains g.plain.receipts (s, n) → count_by (takes_number c s n) (history_of program logs) ≡ 1
taken-once program logs c s n k g pcom is rise has =
    let r = received-record program c k s n (log_at logs c) g is has in
    let e = receives-entry c s n r.0 r.2 in
    let y = pcom-component program c pcom in
    count_one (takes_number c s n) (history_of program logs) e.0 rise (entries_are_in_history program logs e.0 c y.0 r.0 y.1 r.1 (ap (λ (q : Kind). entry_of q c r.0) y.2 ∙ e.1)) e.2
    (λ z m told_it.
    let x = history_has_entries program logs z m in
    let w = take-receives c s n x.1.kind x.0 x.2 z x.5 (back (same_com c z.com) (is_take s n z.act) told_it) in
    let same : x.0 ≡ c = sym (same-com c z.com (front (same_com c z.com) (is_take s n z.act) told_it) ∙ entry-com x.1.kind x.0 x.2 z x.5) in
    let one : x.2 ≡ r.0 = same-record program c k (record { peer = s; k = n }) (log_at logs c) g r.0 x.2 is r.1 r.2 (subst (λ d. Contains (log_at logs d) x.2) same x.4) w.1 in
    same_Some z e.0 (sym x.5 ∙ ap (λ (q : Kind). entry_of q x.0 x.2) w.0 ∙ ap (λ (d : ComId). pcom_entry d x.2) same ∙ ap (pcom_entry c) one ∙ e.1))

pub messages_stand_once : MessagesStandOnce
messages_stand_once program found here w past playable good settled s m pcom sent =
    let done = settled_is_done program found here w past playable good settled in
    let taken = open-content (λ (h : Hist). Contains h.plain.receipts (s, m.k)) (state_after program m.to (past.received m.to) (log_at (forced_logs w) m.to)) (done.taken s m pcom sent) in
    let fx = forced-explained program found here w past good in
    taken-once program (forced_logs w) m.to s m.k (contents_in (past.received m.to)) taken.0 (goes-to program found here w past playable s m pcom sent) taken.1 (history_rises program found (forced_logs w) past fx) taken.2
  where
    goes-to : (program : Program) (found : Logs) (here : ComId → ℕ) (w : World) (past : Past) → IsPlayable program → (s : ComId) (m : Msg) → is_a_pcom program s ≡ true → IsSomeAnd (state_after program s (past.received s) (log_at (forced_logs w) s)) (λ h. Contains h.sent m) → is_a_pcom program m.to ≡ true
    goes-to program found here w past playable s m pcom sent =
        let h = open-content (λ (h : Hist). Contains h.sent m) (state_after program s (past.received s) (log_at (forced_logs w) s)) sent in sent_goes_to_a_pcom program s (contents_in (past.received s)) (log_at (forced_logs w) s) h.0 m playable h.1 h.2

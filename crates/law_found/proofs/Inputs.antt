-- The log of a Pcom that takes inputs alone is sound, and the crash-free world has the Pcom where its log leads.
use Rattle.std.proofs.Common.{◌≡◌, refl, ◌∙◌, ap, sym, subst, ℕ, zero, suc, ◌+◌, ◌==◌, Bool, true, false, cond, List, [], ◌∷◌, length, map, filter_map, slice_get, unwrap_or, ℤ, Option, Some, None, arith}
use Rattle.std.specs.Prelude.{Contains, IsSome, Ok, Err, Result, sum_by}
use Rattle.std.specs.List.{list_all, cons_option}
use Rattle.std.specs.Result.{IsOkAnd}
use Rattle.std.proofs.lemmas.List.{append-nil}
use Rattle.std.proofs.lemmas.Option.{same_Some}
use Rattle.ic_base.specs.declared.messages.ComId.{ComId}
use Rattle.ic_base.specs.declared.messages.Entry.{Entry}
use Rattle.ic_base.specs.declared.messages.Kind.{Kind}
use Rattle.ic_base.specs.declared.messages.Kind.TheVariants as kinds
use Rattle.ic_base.specs.declared.scenario.Component.{Component}
use Rattle.ic_base.specs.declared.scenario.Program.{Program}
use Rattle.ic_base.specs.declared.record.Record.{Record}
use Rattle.ic_base.specs.declared.record.Record.TheVariants.{Input, Decided}
use Rattle.ic_base.specs.Programs.{same_com, is_a_pcom, is_pcom, is_tcom, declares}
use Rattle.def_plain.specs.declared.world.PlainPcom.{PlainPcom}
use Rattle.def_plain.specs.declared.world.PlainCom.{PlainCom}
use Rattle.def_plain.specs.declared.world.PlainCom.TheVariants as coms
use Rattle.def_plain.specs.Plain.{PlainWorld, as_pcom, pcom_at, plain_run_of}
use Rattle.def_plain.specs.History.{entry_of, pcom_entry, entries_from, log_entries, placed, in_order, is_before, history_of}
use Rattle.def_report.specs.Summaries.{audit_lines}
use Rattle.def_run.specs.Audits.{values_in, outputs_in, audit_of_run}
use Rattle.def_state.specs.Hist.{Hist, Contents, after, first_hist}
use Rattle.def_facts.specs.Logs.{Logs, log_at, contents_in, is_input, decisions_on}
use Rattle.def_facts.specs.Pcom.{state_after}
use Rattle.def_facts.specs.Sound.{is_unrecorded, history_before}
use Rattle.def_facts.specs.Tcom.{TcomLogFacts}
use Rattle.def_facts.specs.World.{LogsExplained}
use Rattle.law_replay.proofs.Lists.{none-some, true-false, clash, front, back, at-some, same-com, empty, contains-split, before-all}
use Rattle.law_replay.proofs.Members.{none_contained}
use Rattle.law_replay.proofs.Prefixes.{prefix-self}
use Rattle.law_replay.proofs.Narrowing.{forced_family}
use Rattle.law_sound.proofs.Deciding.{decision-record}
use Rattle.law_sound.proofs.Histories.{history_has_entries}
use Rattle.law_sound.specs.Assembly.{kind_in}
use Rattle.law_sound.proofs.Agreeing.{pcoms_agree}
use Rattle.law_sound.proofs.RunKinds.{runs_keep_kinds}
use Rattle.law_sound.proofs.Sound.{families_are_sound}
use Rattle.law_found.specs.Inputs.{HaveInputsOf, LogsOfInputsAreSound, LogsOfInputsArePlain, AuditTellsTheRun}
use Rattle.law_found.proofs.Logs.{quiet, input-is, not-input, inputs-alone, input-facts, tcom-facts}

-- a Tcom is no Pcom
no-pcom : (o : Option Component) → declares (λ d. is_tcom d.kind) o ≡ true → declares (λ d. is_pcom d.kind) o ≡ false
no-pcom None e = true-false e
no-pcom (Some d) e = at d.kind e
  where
    at : (k : Kind) → is_tcom k ≡ true → is_pcom k ≡ false
    at kinds.Tcom f = refl
    at kinds.Pcom f = true-false f
    at kinds.Xcom f = true-false f

inputs-at : (program : Program) (c : ComId) (logs : Logs) → HaveInputsOf program c logs → (d : ComId) → list_all is_input (log_at logs d) ≡ true
inputs-at program c logs x d = at (same_com c d) refl
  where
    at : (b : Bool) → same_com c d ≡ b → list_all is_input (log_at logs d) ≡ true
    at true is = subst (λ z. list_all is_input (log_at logs z) ≡ true) (same-com c d is) x.inputs
    at false is = ap (list_all is_input) (x.others d is)

-- such logs are explained by a past in which nothing was put out
explained : (program : Program) (c : ComId) (logs : Logs) → is_a_pcom program c ≡ true → HaveInputsOf program c logs → IsSome (state_after program c [] (log_at logs c)) → LogsExplained program [] logs logs quiet
explained program c logs pcom x there = record {
  one_each = (x.one_each, x.one_each);
  found_forced = λ d. (log_at logs d, refl);
  forced_all = λ d. prefix-self (log_at logs d);
  pcoms = λ d is. input-facts program d (log_at logs d) (inputs-at program c logs x d) (replays d);
  tcoms = λ t is. (refl, subst (λ l. TcomLogFacts program t 0 l [] []) (sym (empty-at t (no-pcom (slice_get program.components t.0) is))) (tcom-facts program t));
  others = λ d a b. (empty-at d a, refl);
  network = λ d p h. empty p h;
  in_order = record {
    own = λ t d n at has r b. no-decision t d n at has;
    earlier = λ t u d n m at early has too lt. no-decision t d n at has;
  };
  epochs_rise = λ d pre post stamp n a b st. not-input (log_at logs d) pre post _ (inputs-at program c logs x d) refl st;
}
  where
    replays : (d : ComId) → IsSome (state_after program d [] (log_at logs d))
    replays d = at (same_com c d) refl
      where
        at : (b : Bool) → same_com c d ≡ b → IsSome (state_after program d [] (log_at logs d))
        at true is = subst (λ (z : ComId). IsSome (state_after program z [] (log_at logs z))) (same-com c d is) there
        at false is = subst (λ l. IsSome (state_after program d [] l)) (sym (x.others d is)) refl

    empty-at : (d : ComId) → is_a_pcom program d ≡ false → log_at logs d ≡ []
    empty-at d other = at (same_com c d) refl
      where
        at : (b : Bool) → same_com c d ≡ b → log_at logs d ≡ []
        at true is = clash (is_a_pcom program d) (ap (is_a_pcom program) (sym (same-com c d is)) ∙ pcom) other
        at false is = x.others d is

    no-decision : {B : Type 0} (t d : ComId) (n at : ℕ) → Contains (decisions_on (log_at logs t) d n) at → B
    no-decision t d n at has =
        let w = decision-record (log_at logs t) d n at has in
        let s = contains-split (log_at logs t) (Decided at d n w.0) w.1 in
        not-input (log_at logs t) s.0 s.1 (Decided at d n w.0) (inputs-at program c logs x t) refl s.2

-- by no contents at all
replayed-alone : (program : Program) (c : ComId) (log : List Record) (k : Contents) (h : Hist) → list_all is_input log ≡ true → after program c k log ≡ Some h → state_after program c [] log ≡ Some h
replayed-alone program c log k h all e = inputs-alone program c (contents_in []) k log (Some (first_hist program c)) all ∙ e

there-is : (o : Option Hist) (h : Hist) → o ≡ Some h → IsSome o
there-is o h e = subst (λ x. IsSome x) (sym e) refl

pub logs_of_inputs_are_sound : LogsOfInputsAreSound
logs_of_inputs_are_sound program c logs k h pcom x e =
    let f = explained program c logs pcom x (there-is (state_after program c [] (log_at logs c)) h (replayed-alone program c (log_at logs c) k h x.inputs e)) in
    families_are_sound program [] logs logs logs quiet f (forced_family program [] logs logs quiet f)

-- no commit stands in the history of such logs
none-unrecorded : (program : Program) (c : ComId) (logs : Logs) → HaveInputsOf program c logs → (e : Entry) → Contains (history_of program logs) e → is_unrecorded (log_at logs c) c e.act ≡ false
none-unrecorded program c logs x e has =
    let y = history_has_entries program logs e has in
    let i = input-is y.2 (member (log_at logs y.0) y.2 (inputs-at program c logs x y.0) y.4) in at y.1.kind y.0 i.0 i.1 i.2 (subst (λ r. entry_of y.1.kind y.0 r ≡ Some e) i.3 y.5)
  where
    member : (log : List Record) (r : Record) → list_all is_input log ≡ true → Contains log r → is_input r ≡ true
    member log r all h = by (is_input r) refl
      where
        by : (b : Bool) → is_input r ≡ b → is_input r ≡ true
        by true is = is
        by false is = let s = contains-split log r h in not-input log s.0 s.1 r all is s.2

    at : (q : Kind) (u : ComId) (stamp handler : ℕ) (args : List ℤ) → entry_of q u (Input stamp handler args) ≡ Some e → is_unrecorded (log_at logs c) c e.act ≡ false
    at kinds.Pcom u stamp handler args f = ap (λ (z : Entry). is_unrecorded (log_at logs c) c z.act) (sym (same_Some _ e f))
    at kinds.Tcom u stamp handler args f = none-some e f
    at kinds.Xcom u stamp handler args f = none-some e f

pub logs_of_inputs_are_plain : LogsOfInputsArePlain
logs_of_inputs_are_plain program c logs k h pcom x e =
    let is = replayed-alone program c (log_at logs c) k h x.inputs e in
    let f = explained program c logs pcom x (there-is (state_after program c [] (log_at logs c)) h is) in
    let whole : history_before program logs c ≡ history_of program logs =
    before-all (λ y. is_unrecorded (log_at logs c) c y.act) (history_of program logs) (none_contained (λ (y : Entry). is_unrecorded (log_at logs c) c y.act) (history_of program logs) (none-unrecorded program c logs x))
    in
    subst (λ es. IsOkAnd (plain_run_of program es) (λ w. pcom_at w c ≡ Some h.plain)) whole
    (at-some (λ (g : Hist). IsOkAnd (plain_run_of program (history_before program logs c)) (λ w. pcom_at w c ≡ Some g.plain)) (state_after program c [] (log_at logs c)) h is (pcoms_agree program [] logs quiet f c pcom))

-- an audit ----------------------------------------------------------------------------------------

placed-long : {A : Type 0} (lt : A → A → Bool) (e : A) (xs : List A) → length (placed lt e xs) ≡ suc (length xs)
placed-long lt e [] = refl
placed-long lt e (x ∷ xs) = at (lt x e) (placed-long lt e xs)
  where
    at : (b : Bool) → length (placed lt e xs) ≡ suc (length xs) → length (cond b (x ∷ placed lt e xs) (e ∷ x ∷ xs)) ≡ suc (suc (length xs))
    at true more = ap suc more
    at false more = refl

ordered-long : {A : Type 0} (lt : A → A → Bool) (xs : List A) → length (in_order lt xs) ≡ length xs
ordered-long lt [] = refl
ordered-long lt (x ∷ xs) = placed-long lt x (in_order lt xs) ∙ ap suc (ordered-long lt xs)

inputs-long : (c : ComId) (log : List Record) → list_all is_input log ≡ true → length (filter_map (pcom_entry c) log) ≡ length log
inputs-long c [] all = refl
inputs-long c (r ∷ rs) all =
    let i = input-is r (front (is_input r) (list_all is_input rs) all) in
    ap (λ x. length (cons_option (pcom_entry c x) (filter_map (pcom_entry c) rs))) i.3 ∙ ap suc (inputs-long c rs (back (is_input r) (list_all is_input rs) all))

the-first : ComId
the-first = record { 0 = 0 }

history-long : (program : Program) (d : Component) (log : List Record) → program.components ≡ d ∷ [] → d.kind ≡ kinds.Pcom → list_all is_input log ≡ true → length (history_of program (log ∷ [])) ≡ length log
unfolding the-first
history-long program d log one kind all =
    ordered-long is_before (entries_from 0 program.components (log ∷ []))
    ∙ ap (λ xs. length (entries_from 0 xs (log ∷ []))) one
    ∙ ap length (append-nil (log_entries d.kind the-first log))
    ∙ ap (λ k. length (log_entries k the-first log)) kind
    ∙ inputs-long the-first log all

-- a world of one Pcom
one-pcom : (w : PlainWorld) (k : Kind) (p : PlainPcom) → map kind_in w ≡ k ∷ [] → pcom_at w the-first ≡ Some p → w ≡ coms.Pcom p ∷ []
unfolding the-first
one-pcom [] k p e is = none-some p is
one-pcom (x ∷ []) k p e is = ap (λ y. y ∷ []) (by x is)
  where
    by : (y : PlainCom) → as_pcom y ≡ Some p → y ≡ coms.Pcom p
    by (coms.Pcom q) f = ap (λ z. coms.Pcom z) (same_Some q p f)
    by (coms.Tcom ledger) f = none-some p f
    by coms.Xcom f = none-some p f
one-pcom (x ∷ y ∷ w) k p e is = absurd (more (ap tail_of e))
  where
    tail_of : List Kind → List Kind
    tail_of [] = []
    tail_of (z ∷ zs) = zs

    more : kind_in y ∷ map kind_in w ≡ [] → ⊥
    more f = cc

have-inputs : (program : Program) (d : Component) (log : List Record) → program.components ≡ d ∷ [] → list_all is_input log ≡ true → HaveInputsOf program the-first (log ∷ [])
unfolding the-first
have-inputs program d log one all = record { one_each = sym (ap length one); inputs = all; others = λ x other. at x.0 other }
  where
    at : (n : ℕ) → (0 == n) ≡ false → unwrap_or (slice_get (log ∷ []) n) [] ≡ []
    at zero e = true-false (sym e)
    at (suc n) e = refl

pub audit_tells_the_run : AuditTellsTheRun
unfolding the-first
audit_tells_the_run program d log k h one kind all e =
    let pcom : is_a_pcom program the-first ≡ true = ap (λ l. declares (λ x. is_pcom x.kind) (slice_get l 0)) one ∙ ap is_pcom kind in
    ok-audit (plain_run_of program (history_of program (log ∷ []))) refl (logs_of_inputs_are_plain program the-first (log ∷ []) k h pcom (have-inputs program d log one all) e)
  where
    zero-plus : (n : ℕ) → 0 + n ≡ n
    zero-plus n = omega arith

    ok-audit : (r : Result PlainWorld ℕ) → plain_run_of program (history_of program (log ∷ [])) ≡ r → IsOkAnd r (λ w. pcom_at w the-first ≡ Some h.plain) →
        audit_of_run program (history_of program (log ∷ [])) r ≡ Ok (audit_lines program (h.plain.vars ∷ []) (length h.plain.outs) (length log))
    ok-audit (Err i) run is = absurd is
    ok-audit (Ok w) run is =
        let same = one-pcom w d.kind h.plain (runs_keep_kinds program (history_of program (log ∷ [])) w run ∙ ap (map (λ x. x.kind)) one) is in
        ap (λ v. Ok (audit_lines program (map values_in v) (sum_by outputs_in v) (length (history_of program (log ∷ []))))) same
        ∙ ap (λ n. Ok (audit_lines program (h.plain.vars ∷ []) n (length (history_of program (log ∷ []))))) (zero-plus (length h.plain.outs))
        ∙ ap (λ n. Ok (audit_lines program (h.plain.vars ∷ []) (length h.plain.outs) n)) (history-long program d log one kind all)

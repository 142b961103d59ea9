-- Along the run of the crash-free world each value has its bytes.
use Rattle.std.proofs.Common.{◌≡◌, refl, subst, ℕ, zero, suc, ◌+◌, ◌<◌, ◌≤◌, ◌^◌, Bool, true, false, cond, ℤ, List, [], ◌∷◌, ◌++◌, length, slice_get, Option, Some, None, option_map, option_and_then, Result, Ok, arith}
use Rattle.std.specs.Prelude.{⊤, MatchOption, slice_set, filter_map}
use Rattle.std.specs.List.{AllByRecursion, cons_option}
use Rattle.std.proofs.lemmas.List.{length-map}
use Rattle.std.proofs.lemmas.Option.{same_Some}
use Rattle.ic_base.specs.declared.limits.TheConstants.{REQUESTS, VARIABLES}
use Rattle.ic_base.specs.declared.messages.Act.{Act}
use Rattle.ic_base.specs.declared.messages.Act.TheVariants as acts
use Rattle.ic_base.specs.declared.messages.ComId.{ComId}
use Rattle.ic_base.specs.declared.messages.Done.{Done}
use Rattle.ic_base.specs.declared.messages.Done.TheVariants.{Committed, Aborted}
use Rattle.ic_base.specs.declared.messages.Entry.{Entry}
use Rattle.ic_base.specs.declared.messages.Kind.{Kind}
use Rattle.ic_base.specs.declared.messages.Kind.TheVariants as kinds
use Rattle.ic_base.specs.declared.messages.Request.{Request}
use Rattle.ic_base.specs.declared.messages.Request.TheVariants.{Get, Put}
use Rattle.ic_base.specs.declared.messages.Send.{Send}
use Rattle.ic_base.specs.declared.played.Played.{Played}
use Rattle.ic_base.specs.declared.played.Played.TheVariants.{Asks, Ready, NeedFails, Ends}
use Rattle.ic_base.specs.declared.record.Record.{Record}
use Rattle.ic_base.specs.declared.record.Record.TheVariants as records
use Rattle.ic_base.specs.declared.scenario.Component.{Component}
use Rattle.ic_base.specs.declared.scenario.Program.{Program}
use Rattle.def_log.specs.Spelling.{Fits}
use Rattle.def_plain.specs.declared.world.InHand.{InHand}
use Rattle.def_plain.specs.declared.world.PlainPcom.{PlainPcom}
use Rattle.def_plain.specs.declared.world.PlainCom.{PlainCom}
use Rattle.def_plain.specs.declared.world.PlainCom.TheVariants.{Pcom, Tcom, Xcom}
use Rattle.def_plain.specs.Cell.{Touch, TakesMessage, TakesInput, SeesAbort, SeesCommit, come_to, plays_on, transaction_ends, cell_step, hand_played, new_in_hand, first_values, first_pcom}
use Rattle.def_plain.specs.History.{entry_of, log_entries, entries_from, placed, in_order, is_before, history_of}
use Rattle.def_plain.specs.Plain.{PlainWorld, as_pcom, as_ledger, pcom_at, ledger_at, on_link, counted, message_of, touched, part_in_hand, said_with, part_on, act_step, plain_step, first_of_kind, first_world, go_on, run_from, plain_run_of}
use Rattle.def_play.specs.Ledger.{answer_on, ledger_after, Talk, first_talk, heard, talked, talk, whole_part}
use Rattle.def_state.specs.Hist.{first_cell, first_plain}
use Rattle.law_replay.proofs.Lists.{none-some, mapped, provided-is}
use Rattle.law_settle.proofs.Images.{bound}
use Rattle.law_settle.proofs.Tables.{all-push, all-filter, all-map}
use Rattle.law_settle.proofs.Walks.{all-append, all-at}
use Rattle.law_run.specs.ProgramBytes.{IsWord, AreWords, HasBytes, ComponentFits, RequestFits, DoneFits, SendFits, OutFits, PlayedFits}
use Rattle.law_run.proofs.Plays.{play_fits, value-word, all-set}

-- cells -------------------------------------------------------------------------------------------

-- what is in hand
pub record HandFits (h : InHand) : Type 0 where
  pub args : AreWords h.args
  pub done : AllByRecursion DoneFits h.done

pub record CellFits (p : PlainPcom) : Type 0 where
  pub vars : AreWords p.vars
  pub few : length p.vars < 2 ^ 8
  pub hand : MatchOption p.hand ⊤ HandFits
  pub sent : AllByRecursion SendFits p.sent
  pub outs : AllByRecursion OutFits p.outs

come-fits : (p : PlainPcom) (r : Played) → CellFits p → PlayedFits r → CellFits (come_to p r)
come-fits p (Ends vars sends outs) x h = record { vars = h.vars; few = h.few; hand = tt; sent = all-append SendFits p.sent sends x.sent h.sends; outs = all-append OutFits p.outs outs x.outs h.outs }
come-fits p (Asks t q) x h = record { vars = x.vars; few = x.few; hand = x.hand; sent = x.sent; outs = x.outs }
come-fits p (Ready t) x h = record { vars = x.vars; few = x.few; hand = x.hand; sent = x.sent; outs = x.outs }
come-fits p (NeedFails t line) x h = record { vars = x.vars; few = x.few; hand = x.hand; sent = x.sent; outs = x.outs }

pub plays-fit : (program : Program) (c : ComId) (p : PlainPcom) (hand : InHand) → HasBytes program → CellFits p → HandFits hand → CellFits (plays_on program c p hand)
plays-fit program c p hand bytes x h =
    come-fits (record p { hand = Some hand }) (hand_played program c p hand []) (record { vars = x.vars; few = x.few; hand = h; sent = x.sent; outs = x.outs })
    (play_fits program c hand.handler p.vars hand.args hand.done [] bytes x.vars x.few h.args h.done tt)

abbrev pub TouchFits : Touch → Type 0
TouchFits (TakesMessage s k handler args) = AreWords args
TouchFits (TakesInput handler args) = AreWords args
TouchFits (SeesAbort n) = ⊤
TouchFits (SeesCommit n answers) = AreWords answers

new-hand : (handler : ℕ) (args : List ℤ) → AreWords args → HandFits (new_in_hand handler args)
new-hand handler args h = record { args = h; done = tt }

ends-fit : (program : Program) (c : ComId) (p q : PlainPcom) (n : ℕ) (d : Done) → HasBytes program → CellFits p → DoneFits d → (o : Option InHand) → MatchOption o ⊤ HandFits → transaction_ends program c p n d o ≡ Some q → CellFits q
ends-fit program c p q n d bytes x h None k e = none-some q e
ends-fit program c p q n d bytes x h (Some hand) k e =
    subst CellFits (provided-is _ _ q e) (plays-fit program c p (record hand { done = hand.done ++ d ∷ [] }) bytes x (record { args = k.args; done = all-push DoneFits hand.done d k.done h }))

pub cell-fits : (program : Program) (c : ComId) (p q : PlainPcom) (t : Touch) → HasBytes program → CellFits p → TouchFits t → cell_step program c p t ≡ Some q → CellFits q
cell-fits program c p q (TakesMessage s k handler args) bytes x h e =
    subst CellFits (provided-is _ _ q e)
    (plays-fit program c (record p { receipts = p.receipts ++ (s, k) ∷ [] }) (new_in_hand handler args) bytes (record { vars = x.vars; few = x.few; hand = x.hand; sent = x.sent; outs = x.outs }) (new-hand handler args h))
cell-fits program c p q (TakesInput handler args) bytes x h e = subst CellFits (provided-is _ _ q e) (plays-fit program c p (new_in_hand handler args) bytes x (new-hand handler args h))
cell-fits program c p q (SeesAbort n) bytes x h e = ends-fit program c p q n Aborted bytes x tt p.hand x.hand e
cell-fits program c p q (SeesCommit n answers) bytes x h e = ends-fit program c p q n (Committed answers) bytes x h p.hand x.hand e

-- ledgers -----------------------------------------------------------------------------------------

record TalkFits (w : Talk) : Type 0 where
  answers : AreWords w.answers
  ledger : AreWords w.ledger

answered-word : (ledger : List ℤ) (q : Request) → AreWords ledger → RequestFits q → IsWord (answer_on ledger q)
answered-word ledger (Get key) h k = value-word ledger key h
answered-word ledger (Put key z) h k = k

ledger-words : (ledger : List ℤ) (q : Request) → AreWords ledger → RequestFits q → AreWords (ledger_after ledger q)
ledger-words ledger (Get key) h k = h
ledger-words ledger (Put key z) h k = all-set IsWord ledger key z h k

talk-fits : (play : List ℤ → Played) → ((now : List ℤ) → AreWords now → PlayedFits (play now)) → (n : ℕ) (w : Talk) → TalkFits w → MatchOption (talk play n w) ⊤ (λ x. TalkFits x.1)
talk-fits play h zero w x = tt
talk-fits play h (suc n) w x = at (play w.answers) (h w.answers x.answers) (λ v y. talk-fits play h n v y)
  where
    at : (r : Played) → PlayedFits r → ((v : Talk) → TalkFits v → MatchOption (talk play n v) ⊤ (λ y. TalkFits y.1)) → MatchOption (talked (talk play n) w r) ⊤ (λ y. TalkFits y.1)
    at (Asks t q) k more = more (heard w q) (record { answers = all-push IsWord w.answers (answer_on w.ledger q) x.answers (answered-word w.ledger q x.ledger k); ledger = ledger-words w.ledger q x.ledger k })
    at (Ready t) k more = x
    at (NeedFails t line) k more = tt
    at (Ends vars sends outs) k more = tt

whole-fits : (play : List ℤ → Played) (ledger : List ℤ) → ((now : List ℤ) → AreWords now → PlayedFits (play now)) → AreWords ledger → MatchOption (whole_part play ledger) ⊤ (λ x. TalkFits x.1)
unfolding whole_part
whole-fits play ledger h k = talk-fits play h (REQUESTS + 1) (first_talk ledger) (record { answers = tt; ledger = k })

-- worlds ------------------------------------------------------------------------------------------

abbrev ComFits : PlainCom → Type 0
ComFits (Pcom p) = CellFits p
ComFits (Tcom ledger) = AreWords ledger
ComFits Xcom = ⊤

pub PlainFits : PlainWorld → Type 0
PlainFits w = AllByRecursion ComFits w

pcom-fits : (w : PlainWorld) (c : ComId) (p : PlainPcom) → PlainFits w → pcom_at w c ≡ Some p → CellFits p
unfolding PlainFits
pcom-fits w c p h e =
    let x = bound (slice_get w c.0) as_pcom p e in at x.0 (all-at ComFits w c.0 x.0 h x.1) x.2
  where
    at : (d : PlainCom) → ComFits d → as_pcom d ≡ Some p → CellFits p
    at (Pcom q) k f = subst CellFits (same_Some q p f) k
    at (Tcom ledger) k f = none-some p f
    at Xcom k f = none-some p f

ledger-fits : (w : PlainWorld) (c : ComId) (l : List ℤ) → PlainFits w → ledger_at w c ≡ Some l → AreWords l
unfolding PlainFits
ledger-fits w c l h e =
    let x = bound (slice_get w c.0) as_ledger l e in at x.0 (all-at ComFits w c.0 x.0 h x.1) x.2
  where
    at : (d : PlainCom) → ComFits d → as_ledger d ≡ Some l → AreWords l
    at (Pcom q) k f = none-some l f
    at (Tcom ledger) k f = subst AreWords (same_Some ledger l f) k
    at Xcom k f = none-some l f

pub message-fits : (w : PlainWorld) (s c : ComId) (k : ℕ) (m : Send) → PlainFits w → message_of w s c k ≡ Some m → SendFits m
message-fits w s c k m h e = let p = bound (pcom_at w s) (λ p. counted (on_link c p.sent) k) m e in at p.0 (pcom-fits w s p.0 h p.1) k p.2
  where
    at : (p : PlainPcom) → CellFits p → (n : ℕ) → counted (on_link c p.sent) n ≡ Some m → SendFits m
    at p x zero f = none-some m f
    at p x (suc i) f = all-at SendFits (on_link c p.sent) i m (all-filter SendFits _ p.sent x.sent) f

touched-fits : (program : Program) (w v : PlainWorld) (c : ComId) (t : Touch) → HasBytes program → PlainFits w → TouchFits t → touched program w c t ≡ Some v → PlainFits v
unfolding PlainFits
touched-fits program w v c t bytes h k e =
    let q = mapped (λ p. slice_set w c.0 (Pcom p)) (option_and_then (λ p. cell_step program c p t) (pcom_at w c)) v e in
    let p = bound (pcom_at w c) (λ p. cell_step program c p t) q.0 q.1 in
    subst (AllByRecursion ComFits) q.2 (all-set ComFits w c.0 (Pcom q.0) h (cell-fits program c p.0 q.0 t bytes (pcom-fits w c p.0 h p.1) k p.2))

part-fits : (program : Program) (w : PlainWorld) (t c : ComId) (x : Talk) → HasBytes program → PlainFits w → part_on program w t c ≡ Some x → TalkFits x
part-fits program w t c x bytes h e =
    let l = bound (ledger_at w t) (λ ledger. option_and_then (λ play. option_and_then (said_with t) (whole_part play ledger)) (part_in_hand program w c)) x e in
    let f = bound (part_in_hand program w c) (λ play. option_and_then (said_with t) (whole_part play l.0)) x l.2 in
    let p = bound (pcom_at w c) (λ p. option_map (hand_played program c p) p.hand) f.0 f.1 in
    let hand = mapped (hand_played program c p.0) p.0.hand f.0 p.2 in
    let cell = pcom-fits w c p.0 h p.1 in
    let own : HandFits hand.0 = subst (λ o. MatchOption o ⊤ HandFits) hand.1 cell.hand in
    let s = bound (whole_part f.0 l.0) (said_with t) x f.2 in
    let all = subst (λ (g : List ℤ → Played). MatchOption (whole_part g l.0) ⊤ (λ y. TalkFits y.1)) hand.2
    (whole-fits (hand_played program c p.0 hand.0) l.0 (λ now k. play_fits program c hand.0.handler p.0.vars hand.0.args hand.0.done now bytes cell.vars cell.few own.args own.done k) (ledger-fits w t l.0 h l.1)) in
    let one : TalkFits s.0.1 = subst (λ o. MatchOption o ⊤ (λ (y : ComId × Talk). TalkFits y.1)) s.1 all in
    subst TalkFits (provided-is _ s.0.1 x s.2) one

-- an input of the history has values
abbrev pub ActFits : Act → Type 0
ActFits (acts.Take s k) = ⊤
ActFits (acts.Input handler args) = AreWords args
ActFits (acts.Commit c n) = ⊤
ActFits (acts.Abort n) = ⊤

act-fits : (program : Program) (w v : PlainWorld) (c : ComId) (a : Act) → HasBytes program → PlainFits w → ActFits a → act_step program w c a ≡ Some v → PlainFits v
unfolding PlainFits
act-fits program w v c (acts.Take s k) bytes h x e =
    let m = bound (message_of w s c k) (λ m. touched program w c (TakesMessage s k m.handler m.args)) v e in touched-fits program w v c (TakesMessage s k m.0.handler m.0.args) bytes h (message-fits w s c k m.0 h m.1) m.2
act-fits program w v c (acts.Input handler args) bytes h x e = touched-fits program w v c (TakesInput handler args) bytes h x e
act-fits program w v c (acts.Abort n) bytes h x e = touched-fits program w v c (SeesAbort n) bytes h tt e
act-fits program w v t (acts.Commit c n) bytes h x e =
    let p = bound (part_on program w t c) (λ y. option_map (λ u. slice_set u t.0 (Tcom y.ledger)) (touched program w c (SeesCommit n y.answers))) v e in
    let fits = part-fits program w t c p.0 bytes h p.1 in
    let u = mapped (λ u. slice_set u t.0 (Tcom p.0.ledger)) (touched program w c (SeesCommit n p.0.answers)) v p.2 in
    subst (AllByRecursion ComFits) u.2 (all-set ComFits u.0 t.0 (Tcom p.0.ledger) (touched-fits program w u.0 c (SeesCommit n p.0.answers) bytes h fits.answers u.1) fits.ledger)

run-fits : (program : Program) (i : ℕ) (w v : PlainWorld) (es : List Entry) → HasBytes program → PlainFits w → AllByRecursion (λ e. ActFits e.act) es → run_from program i w es ≡ Ok v → PlainFits v
run-fits program i w v [] bytes h x e = subst PlainFits (same w v e) h
  where
    same : (a b : PlainWorld) → ◌≡◌ {A = Result PlainWorld ℕ} (Ok a) (Ok b) → a ≡ b
    same a b f = cc f
run-fits program i w v (e ∷ es) bytes h x f = at (plain_step program w e) refl f (λ u y g. run-fits program (i + 1) u v es bytes y x.1 g)
  where
    at : (o : Option PlainWorld) → plain_step program w e ≡ o → go_on i (λ u. run_from program (i + 1) u es) o ≡ Ok v → ((u : PlainWorld) → PlainFits u → run_from program (i + 1) u es ≡ Ok v → PlainFits v) → PlainFits v
    at None is g more = absurd (cc g)
    at (Some u) is g more = more u (act-fits program w u e.com e.act bytes h x.0 is) g

-- the first world
words : {A : Type 0} (xs : List (A × ℤ)) → AllByRecursion (λ x. IsWord x.1) xs → AreWords (first_values xs)
words xs h = all-map (λ x. IsWord x.1) IsWord (λ x. x.1) (λ x k. k) xs h

few-values : {A : Type 0} (xs : List (A × ℤ)) → length xs ≤ VARIABLES → length (first_values xs) < 2 ^ 8
few-values xs h = omega (arith, h, length-map xs (λ x. x.1))

first-pcom-fits : (d : Component) → ComponentFits d → CellFits (first_pcom d)
first-pcom-fits d k = record { vars = words d.vars k.first_vars; few = few-values d.vars k.vars; hand = tt; sent = tt; outs = tt }

pub first-cell-fits : (program : Program) (c : ComId) → HasBytes program → CellFits (first_plain program c)
first-cell-fits program c bytes = at (slice_get program.components c.0) refl
  where
    at : (o : Option Component) → slice_get program.components c.0 ≡ o → CellFits (first_cell o)
    at None e = record { vars = tt; few = omega arith; hand = tt; sent = tt; outs = tt }
    at (Some d) e = first-pcom-fits d (all-at ComponentFits program.components c.0 d bytes.each e)

first-fits : (program : Program) → HasBytes program → PlainFits (first_world program)
unfolding PlainFits
first-fits program bytes = all-map ComponentFits ComFits (λ x. first_of_kind x.kind x) (λ d k. by d k d.kind) program.components bytes.each
  where
    by : (d : Component) → ComponentFits d → (k : Kind) → ComFits (first_of_kind k d)
    by d k kinds.Pcom = first-pcom-fits d k
    by d k kinds.Tcom = words d.keys k.first_keys
    by d k kinds.Xcom = tt

-- the history -------------------------------------------------------------------------------------

abbrev EntryFits : Entry → Type 0
EntryFits e = ActFits e.act

entry-fits : (k : Kind) (c : ComId) (r : Record) → Fits r → MatchOption (entry_of k c r) ⊤ EntryFits
entry-fits kinds.Pcom c (records.Take s k stamp) h = tt
entry-fits kinds.Pcom c (records.TakeWhole s k stamp handler args) h = tt
entry-fits kinds.Pcom c (records.Input stamp handler args) h = h.1.2
entry-fits kinds.Pcom c (records.Value n place session value) h = tt
entry-fits kinds.Pcom c (records.Outcome stamp n None) h = tt
entry-fits kinds.Pcom c (records.Outcome stamp n (Some cause)) h = tt
entry-fits kinds.Pcom c (records.Released to k) h = tt
entry-fits kinds.Pcom c (records.Shown m) h = tt
entry-fits kinds.Pcom c (records.Checkpoint image) h = tt
entry-fits kinds.Pcom c (records.Epoch epoch) h = tt
entry-fits kinds.Pcom c (records.Decided stamp d n writes) h = tt
entry-fits kinds.Tcom c (records.Take s k stamp) h = tt
entry-fits kinds.Tcom c (records.TakeWhole s k stamp handler args) h = tt
entry-fits kinds.Tcom c (records.Input stamp handler args) h = tt
entry-fits kinds.Tcom c (records.Value n place session value) h = tt
entry-fits kinds.Tcom c (records.Outcome stamp n abort) h = tt
entry-fits kinds.Tcom c (records.Released to k) h = tt
entry-fits kinds.Tcom c (records.Shown m) h = tt
entry-fits kinds.Tcom c (records.Checkpoint image) h = tt
entry-fits kinds.Tcom c (records.Epoch epoch) h = tt
entry-fits kinds.Tcom c (records.Decided stamp d n writes) h = tt
entry-fits kinds.Xcom c r h = tt

entries-fit : (k : Kind) (c : ComId) (log : List Record) → AllByRecursion Fits log → AllByRecursion EntryFits (log_entries k c log)
entries-fit k c [] h = tt
entries-fit k c (r ∷ rs) h = at (entry_of k c r) (entry-fits k c r h.0) (entries-fit k c rs h.1)
  where
    at : (o : Option Entry) → MatchOption o ⊤ EntryFits → AllByRecursion EntryFits (filter_map (entry_of k c) rs) → AllByRecursion EntryFits (cons_option o (filter_map (entry_of k c) rs))
    at None x more = more
    at (Some e) x more = (x, more)

from-fit : (i : ℕ) (ds : List Component) (logs : List (List Record)) → AllByRecursion (AllByRecursion Fits) logs → AllByRecursion EntryFits (entries_from i ds logs)
from-fit i [] logs h = tt
from-fit i (d ∷ ds) [] h = tt
from-fit i (d ∷ ds) (log ∷ logs) h = all-append EntryFits (log_entries d.kind (record { 0 = i }) log) (entries_from (i + 1) ds logs) (entries-fit d.kind (record { 0 = i }) log h.0) (from-fit (i + 1) ds logs h.1)

placed-fits : (e : Entry) (es : List Entry) → EntryFits e → AllByRecursion EntryFits es → AllByRecursion EntryFits (placed is_before e es)
placed-fits e [] h x = (h, tt)
placed-fits e (d ∷ ds) h x = at (is_before d e) (placed-fits e ds h x.1)
  where
    at : (b : Bool) → AllByRecursion EntryFits (placed is_before e ds) → AllByRecursion EntryFits (cond b (d ∷ placed is_before e ds) (e ∷ d ∷ ds))
    at true more = (x.0, more)
    at false more = (h, x)

ordered-fits : (es : List Entry) → AllByRecursion EntryFits es → AllByRecursion EntryFits (in_order is_before es)
ordered-fits [] h = tt
ordered-fits (e ∷ es) h = placed-fits e (in_order is_before es) h.0 (ordered-fits es h.1)

-- the crash-free world of logs whose records have their bytes
pub plain_run_fits : (program : Program) (logs : List (List Record)) (w : PlainWorld) → HasBytes program → AllByRecursion (AllByRecursion Fits) logs → plain_run_of program (history_of program logs) ≡ Ok w → PlainFits w
plain_run_fits program logs w bytes h e = run-fits program 0 (first_world program) w (history_of program logs) bytes (first-fits program bytes) (ordered-fits (entries_from 0 program.components logs) (from-fit 0 program.components logs h)) e

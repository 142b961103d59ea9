-- What each record of a log leaves of a replayed state: its values and numbers have their bytes.
use Rattle.std.proofs.Common.{◌≡◌, refl, ◌∙◌, ap, sym, subst, ℕ, zero, suc, ◌<◌, ◌≤◌, nat_le, Bool, true, false, ◌&&◌, ℤ, List, [], ◌∷◌, ◌++◌, drop, length, slice_get, Option, Some, None, option_map, option_and_then, ⊎_elim, arith}
use Rattle.std.specs.Prelude.{⊤, MatchOption}
use Rattle.std.specs.List.{AllByRecursion, list_all}
use Rattle.std.proofs.lemmas.Option.{same_Some}
use Rattle.ic_base.specs.declared.limits.TheConstants.{COMPONENTS, GREATEST_NUMBER}
use Rattle.ic_base.specs.declared.messages.ComId.{ComId}
use Rattle.ic_base.specs.declared.messages.Msg.{Msg}
use Rattle.ic_base.specs.declared.messages.Request.{Request}
use Rattle.ic_base.specs.declared.messages.Session.{Session}
use Rattle.ic_base.specs.declared.played.Played.{Played}
use Rattle.ic_base.specs.declared.played.Played.TheVariants.{Asks, Ready, NeedFails, Ends}
use Rattle.ic_base.specs.declared.record.Record.{Record}
use Rattle.ic_base.specs.declared.record.Record.TheVariants.{Take, TakeWhole, Input, Value, Outcome, Released, Shown, Checkpoint, Epoch, Decided}
use Rattle.ic_base.specs.declared.scenario.Component.{Component}
use Rattle.ic_base.specs.declared.scenario.Program.{Program}
use Rattle.ic_base.specs.Programs.{declares, is_tcom, is_a_tcom}
use Rattle.def_log.specs.Spelling.{Fits, IsCom}
use Rattle.def_plain.specs.declared.world.InHand.{InHand}
use Rattle.def_plain.specs.declared.world.PlainPcom.{PlainPcom}
use Rattle.def_plain.specs.Cell.{Touch, TakesMessage, TakesInput, SeesAbort, SeesCommit, cell_step}
use Rattle.def_state.specs.Fits.{fits}
use Rattle.def_state.specs.Hist.{Hist, Begun, opened, Contents, apply, apply_all, after, first_hist, first_cell, recorded, played_on, moved, moved_well, is_at_request, hand_plays, numbers_fit, new_messages, stage_of, first_stage, touch_of, standing_of, last_ended, txn_of, answered, staged, links_of}
use Rattle.def_state.specs.Txn.{Stage, Idle, Waiting, Answered, Committing, tcom_of, last_of, asking, readied, answered_in}
use Rattle.def_facts.specs.Logs.{values_of}
use Rattle.def_facts.specs.Playable.{IsPlayable}
use Rattle.law_replay.proofs.Talked.{Opened, StageIs}
use Rattle.law_replay.proofs.Talks.{states-talk}
use Rattle.law_image.specs.Readable.{LastFits}
use Rattle.law_pcom.proofs.Living.{open_begun}
use Rattle.law_replay.proofs.Applying.{Touches, Rests, EndsHere, stamp_of, is_value, what}
use Rattle.law_replay.proofs.Growing.{apply_none, applied_twice}
use Rattle.law_replay.proofs.Lists.{none-some, true-false, front, back, passed, at_most}
use Rattle.law_settle.proofs.Tables.{all-push}
use Rattle.law_run.specs.ProgramBytes.{IsWord, AreWords, HasBytes, RequestFits, PlayedFits}
use Rattle.law_run.proofs.Plays.{play_fits}
use Rattle.law_run.proofs.RunBytes.{HandFits, CellFits, TouchFits, cell-fits, first-cell-fits}
use Rattle.law_run.proofs.Cells.{CellGoes, cell-goes, first-goes}
use Rattle.law_run.proofs.Orders.{stamped-low, links-more}

-- what is asked, where something is
abbrev pub RequestOf : Stage → Type 0
RequestOf Idle = ⊤
RequestOf (Waiting t place session q) = RequestFits q
RequestOf (Answered t place session q) = RequestFits q
RequestOf (Committing t place session) = ⊤

-- what stays along a log
pub record HistFits (program : Program) (c : ComId) (h : Hist) : Type 0 where
  pub cell : CellFits h.plain
  pub goes : CellGoes program c h.plain
  pub now : AreWords h.now
  pub clock : h.clock ≤ GREATEST_NUMBER
  pub numbers : numbers_fit h ≡ true
  pub links : AllByRecursion (λ x. x.1 ≤ GREATEST_NUMBER) (links_of h.sent)
  pub last : LastFits h.last
  pub request : RequestOf h.stage

-- the content of a message that was taken by identity has values
abbrev pub ContentsFit : Contents → Type 0
ContentsFit k = (s : ComId) (n : ℕ) (m : Msg) → k s n ≡ Some m → AreWords m.args

-- what a record says to the cell has values
touch-fits : (k : Contents) (now : List ℤ) (r : Record) (t : Touch) → ContentsFit k → AreWords now → Fits r → touch_of k now r ≡ Some t → TouchFits t
touch-fits k now (Take s n stamp) t contents words h e = at (k s n) refl e
  where
    at : (o : Option Msg) → k s n ≡ o → option_map (λ m. TakesMessage s n m.handler m.args) o ≡ Some t → TouchFits t
    at None is f = none-some t f
    at (Some m) is f = subst TouchFits (same_Some (TakesMessage s n m.handler m.args) t f) (contents s n m is)
touch-fits k now (TakeWhole s n stamp handler args) t contents words h e = subst TouchFits (same_Some (TakesMessage s n handler args) t e) h.3.2
touch-fits k now (Input stamp handler args) t contents words h e = subst TouchFits (same_Some (TakesInput handler args) t e) h.1.2
touch-fits k now (Outcome stamp n None) t contents words h e = subst TouchFits (same_Some (SeesCommit n now) t e) words
touch-fits k now (Outcome stamp n (Some cause)) t contents words h e = subst TouchFits (same_Some (SeesAbort n) t e) tt
touch-fits k now (Value n place session value) t contents words h e = none-some t e
touch-fits k now (Released to n) t contents words h e = none-some t e
touch-fits k now (Shown m) t contents words h e = none-some t e
touch-fits k now (Checkpoint image) t contents words h e = none-some t e
touch-fits k now (Epoch epoch) t contents words h e = none-some t e
touch-fits k now (Decided stamp d n writes) t contents words h e = none-some t e

-- no stamp passes its limit
stamp-low : (r : Record) → Fits r → stamp_of r ≤ GREATEST_NUMBER
stamp-low (Take s n stamp) h = h.2
stamp-low (TakeWhole s n stamp handler args) h = h.2
stamp-low (Input stamp handler args) h = h.0
stamp-low (Outcome stamp n abort) h = h.0
stamp-low (Value n place session value) h = omega arith
stamp-low (Released to n) h = omega arith
stamp-low (Shown m) h = omega arith
stamp-low (Checkpoint image) h = omega arith
stamp-low (Epoch epoch) h = omega arith
stamp-low (Decided stamp d n writes) h = omega arith

-- numbers -----------------------------------------------------------------------------------------

played-numbers : (program : Program) (c : ComId) (h g : Hist) (stamp : ℕ) (t : Option Touch) → played_on program c h stamp t ≡ Some g → numbers_fit g ≡ true
played-numbers program c h g stamp None e = none-some g e
played-numbers program c h g stamp (Some t) e = at (cell_step program c h.plain t) e
  where
    at : (o : Option PlainPcom) → option_and_then (moved_well program c h stamp) o ≡ Some g → numbers_fit g ≡ true
    at None f = none-some g f
    at (Some p) f =
        let m = passed (numbers_fit (moved program c h stamp p) && is_at_request (option_map (hand_plays program c p.vars []) p.hand)) (Some (moved program c h stamp p)) g f in
        subst (λ (z : Hist). numbers_fit z ≡ true) (same_Some (moved program c h stamp p) g m.1) (front (numbers_fit (moved program c h stamp p)) _ m.0)

same-numbers : (h x g : Hist) → Some x ≡ Some g → numbers_fit x ≡ true → numbers_fit g ≡ true
same-numbers h x g e y = subst (λ (z : Hist). numbers_fit z ≡ true) (same_Some x g e) y

recorded-numbers : (program : Program) (c : ComId) (k : Contents) (h g : Hist) (r : Record) → recorded program c k h r ≡ Some g → numbers_fit h ≡ true → numbers_fit g ≡ true
recorded-numbers program c k h g (Take s n stamp) e y = played-numbers program c h g stamp (touch_of k h.now (Take s n stamp)) e
recorded-numbers program c k h g (TakeWhole s n stamp handler args) e y = played-numbers program c h g stamp (touch_of k h.now (TakeWhole s n stamp handler args)) e
recorded-numbers program c k h g (Input stamp handler args) e y = played-numbers program c h g stamp (touch_of k h.now (Input stamp handler args)) e
recorded-numbers program c k h g (Outcome stamp n abort) e y = played-numbers program c (last_ended h) g stamp (touch_of k h.now (Outcome stamp n abort)) e
recorded-numbers program c k h g (Value n place session value) e y = same-numbers h (answered program c h session (h.now ++ value ∷ [])) g e y
recorded-numbers program c k h g (Released to n) e y = same-numbers h (record h { held = _ }) g e y
recorded-numbers program c k h g (Shown m) e y = same-numbers h (record h { unshown = _; shown = m }) g e y
recorded-numbers program c k h g (Checkpoint image) e y = same-numbers h h g e y
recorded-numbers program c k h g (Epoch epoch) e y = none-some g e
recorded-numbers program c k h g (Decided stamp d n writes) e y = none-some g e

-- a transaction -----------------------------------------------------------------------------------

-- the Tcom of an open one is one of the program
pub open-tcom : (program : Program) (c : ComId) (k : Contents) (log : List Record) (h : Hist) (t : ComId) → IsPlayable program → after program c k log ≡ Some h → tcom_of h.stage ≡ Some t → is_a_tcom program t ≡ true
open-tcom program c k log h t good e is = at h.stage (states-talk program c k log h good e).stage is
  where
    opened : (u : ComId) → Opened program c h.plain u → Some u ≡ Some t → is_a_tcom program t ≡ true
    opened u x same = subst (λ v. is_a_tcom program v ≡ true) (same_Some u t same) (good.asks_keys c x.hand.handler h.plain.vars x.hand.args x.hand.done [] u x.request x.results x.asks).0

    at : (s : Stage) → StageIs program c (values_of log h.plain.begun) h.plain h.now s → tcom_of s ≡ Some t → is_a_tcom program t ≡ true
    at Idle x same = none-some t same
    at (Waiting u place session q) x same = opened u x.0 same
    at (Answered u place session q) x same = opened u x.0 same
    at (Committing u place session) x same = opened u x.0 same

pub get-below : {A : Type 0} (xs : List A) (i : ℕ) (x : A) → slice_get xs i ≡ Some x → i < length xs
get-below [] i x e = none-some x e
get-below (y ∷ ys) zero x e = omega arith
get-below (y ∷ ys) (suc i) x e = let lt = get-below ys i x e in omega (arith, lt)

-- a component that is declared has a number that fits
pub declared-com : (program : Program) (c : ComId) (test : Component → Bool) → HasBytes program → declares test (slice_get program.components c.0) ≡ true → IsCom c
declared-com program c test bytes e = at (slice_get program.components c.0) refl e
  where
    less : (a n : ℕ) → a < n → n ≤ COMPONENTS → a < COMPONENTS
    less a n p q = omega (arith, p, q)

    at : (o : Option Component) → slice_get program.components c.0 ≡ o → declares test o ≡ true → c.0 < COMPONENTS
    at None is f = true-false f
    at (Some d) is f = less c.0 (length program.components) (get-below program.components c.0 d is) bytes.components

pub begun-low : (h : Hist) → numbers_fit h ≡ true → h.plain.begun ≤ GREATEST_NUMBER
begun-low h e =
    at_most h.plain.begun GREATEST_NUMBER (back (nat_le (length h.plain.outs) GREATEST_NUMBER) (nat_le h.plain.begun GREATEST_NUMBER) (back (list_all (λ m. nat_le m.k GREATEST_NUMBER) h.sent) _ e))

pub made-low : (h : Hist) → numbers_fit h ≡ true → length h.plain.outs ≤ GREATEST_NUMBER
made-low h e =
    at_most (length h.plain.outs) GREATEST_NUMBER (front (nat_le (length h.plain.outs) GREATEST_NUMBER) (nat_le h.plain.begun GREATEST_NUMBER) (back (list_all (λ m. nat_le m.k GREATEST_NUMBER) h.sent) _ e))

-- what is open was begun
pub open-begun : (program : Program) (c : ComId) (k : Contents) (log : List Record) (h : Hist) (t : ComId) → after program c k log ≡ Some h → tcom_of h.stage ≡ Some t → 1 ≤ h.plain.begun
open-begun program c k log h t e is = at h.plain.begun (open_begun program c k log h t e is).1
  where
    at : (n : ℕ) {b : Begun} → opened h n ≡ Some b → 1 ≤ n
    at zero {b} f = none-some b f
    at (suc n) f = omega arith

last-fits : (program : Program) (c : ComId) (k : Contents) (log : List Record) (h : Hist) → HasBytes program → IsPlayable program → after program c k log ≡ Some h → HistFits program c h → LastFits (last_of (txn_of h) (tcom_of h.stage))
last-fits program c k log h bytes good e x = at (tcom_of h.stage) refl
  where
    at : (o : Option ComId) → tcom_of h.stage ≡ o → LastFits (last_of (txn_of h) o)
    at None is = x.last
    at (Some t) is = (declared-com program t (λ d. is_tcom d.kind) bytes (open-tcom program c k log h t good e is), (open-begun program c k log h t e is, begun-low h x.numbers))

-- stages ------------------------------------------------------------------------------------------

hand-played : (program : Program) (c : ComId) (p : PlainPcom) (now : List ℤ) (hand : InHand) → HasBytes program → CellFits p → AreWords now → p.hand ≡ Some hand → PlayedFits (hand_plays program c p.vars now hand)
hand-played program c p now hand bytes x words is =
    let own : HandFits hand = subst (λ o. MatchOption o ⊤ HandFits) is x.hand in play_fits program c hand.handler p.vars hand.args hand.done now bytes x.vars x.few own.args own.done words

first-request : (program : Program) (c : ComId) (p : PlainPcom) → HasBytes program → CellFits p → RequestOf (stage_of program c p)
first-request program c p bytes x = at p.hand refl
  where
    by : (r : Played) → PlayedFits r → RequestOf (first_stage (Some r))
    by (Asks t q) h = h
    by (Ready t) h = tt
    by (NeedFails t line) h = tt
    by (Ends vars sends outs) h = tt

    at : (o : Option InHand) → p.hand ≡ o → RequestOf (first_stage (option_map (hand_plays program c p.vars []) o))
    at None is = tt
    at (Some hand) is = by (hand_plays program c p.vars [] hand) (hand-played program c p [] hand bytes x tt is)

pub answered-request : (s : Stage) (session : Session) → RequestOf s → RequestOf (answered_in s session)
answered-request Idle session h = tt
answered-request (Waiting t p r q) session h = h
answered-request (Answered t p r q) session h = h
answered-request (Committing t p r) session h = tt

pub asking-request : (s : Stage) (q : Request) → RequestOf s → RequestFits q → RequestOf (asking s q)
asking-request Idle q h k = tt
asking-request (Waiting t p r x) q h k = h
asking-request (Answered t p r x) q h k = k
asking-request (Committing t p r) q h k = tt

pub readied-request : (s : Stage) → RequestOf s → RequestOf (readied s)
readied-request Idle h = tt
readied-request (Waiting t p r x) h = h
readied-request (Answered t p r x) h = tt
readied-request (Committing t p r) h = tt

staged-request : (program : Program) (c : ComId) (p : PlainPcom) (now : List ℤ) (s : Stage) → HasBytes program → CellFits p → AreWords now → RequestOf s → RequestOf (staged s (option_map (hand_plays program c p.vars now) p.hand))
staged-request program c p now s bytes x words h = at p.hand refl
  where
    by : (r : Played) → PlayedFits r → RequestOf (staged s (Some r))
    by (Asks t q) k = asking-request s q h k
    by (Ready t) k = readied-request s h
    by (NeedFails t line) k = h
    by (Ends vars sends outs) k = h

    at : (o : Option InHand) → p.hand ≡ o → RequestOf (staged s (option_map (hand_plays program c p.vars now) o))
    at None is = h
    at (Some hand) is = by (hand_plays program c p.vars now hand) (hand-played program c p now hand bytes x words is)

-- one record --------------------------------------------------------------------------------------

tail-low : (xs ys : List Msg) → list_all (λ m. nat_le m.k GREATEST_NUMBER) (xs ++ ys) ≡ true → AllByRecursion (λ m. m.k ≤ GREATEST_NUMBER) ys
tail-low [] [] e = tt
tail-low [] (y ∷ ys) e = (at_most y.k GREATEST_NUMBER (front (nat_le y.k GREATEST_NUMBER) _ e), tail-low [] ys (back (nat_le y.k GREATEST_NUMBER) _ e))
tail-low (x ∷ xs) ys e = tail-low xs ys (back (nat_le x.k GREATEST_NUMBER) _ e)

more-links : (c : ComId) (stamp : ℕ) (h g : Hist) → g.sent ≡ h.sent ++ new_messages c stamp h g.plain → numbers_fit g ≡ true → AllByRecursion (λ x. x.1 ≤ GREATEST_NUMBER) (links_of h.sent) → AllByRecursion (λ x. x.1 ≤ GREATEST_NUMBER) (links_of g.sent)
more-links c stamp h g more numbers low =
    let news = new_messages c stamp h g.plain in
    subst (λ l. AllByRecursion (λ (x : ComId × ℕ). x.1 ≤ GREATEST_NUMBER) l) (sym (ap links_of more ∙ links-more h.sent (new_messages c stamp h g.plain)))
    (stamped-low GREATEST_NUMBER c stamp (links_of h.sent) (drop (length h.plain.sent) g.plain.sent) low
    (tail-low h.sent news (subst (λ l. list_all (λ (m : Msg). nat_le m.k GREATEST_NUMBER) l ≡ true) more (front (list_all (λ m. nat_le m.k GREATEST_NUMBER) g.sent) _ numbers))))

touched-fits : (program : Program) (c : ComId) (k : Contents) (log : List Record) (h g : Hist) (r : Record) → HasBytes program → IsPlayable program → ContentsFit k → Fits r → after program c k log ≡ Some h → HistFits program c h → numbers_fit g ≡ true → Touches program c k h g r → HistFits program c g
touched-fits program c k log h g r bytes good contents fit e x numbers t =
    let cell = cell-fits program c h.plain g.plain t.touch bytes x.cell (touch-fits k h.now r t.touch contents x.now fit t.is) t.step in
    record {
      cell = cell;
      goes = cell-goes program c h.plain g.plain t.touch good x.goes t.step;
      now = subst AreWords (sym t.now) tt;
      clock = subst (λ n. n ≤ GREATEST_NUMBER) (sym t.clock) (stamp-low r fit);
      numbers = numbers;
      links = more-links c (stamp_of r) h g t.sent numbers x.links;
      last = ⊎_elim (λ same. subst LastFits (sym same) x.last) (λ (y : EndsHere h g r). subst LastFits (sym y.last) (last-fits program c k log h bytes good e x)) t.last;
      request = subst RequestOf (sym t.stage) (first-request program c g.plain bytes cell);
    }

rested-fits : (program : Program) (c : ComId) (h g : Hist) (r : Record) → is_value r ≡ false → HistFits program c h → numbers_fit g ≡ true → Rests h g r → HistFits program c g
rested-fits program c h g r calm x numbers t = record {
  cell = subst CellFits (sym t.plain) x.cell;
  goes = subst (CellGoes program c) (sym t.plain) x.goes;
  now = subst AreWords (sym (t.calm calm).0) x.now;
  clock = subst (λ n. n ≤ GREATEST_NUMBER) (sym t.clock) x.clock;
  numbers = numbers;
  links = subst (λ l. AllByRecursion (λ (y : ComId × ℕ). y.1 ≤ GREATEST_NUMBER) (links_of l)) (sym t.sent) x.links;
  last = subst LastFits (sym t.last) x.last;
  request = subst RequestOf (sym (t.calm calm).1) x.request;
}

valued-fits : (program : Program) (c : ComId) (h : Hist) (session : Session) (value : ℤ) → HasBytes program → IsWord value → HistFits program c h → HistFits program c (answered program c h session (h.now ++ value ∷ []))
valued-fits program c h session value bytes word x =
    let words = all-push IsWord h.now value x.now word in
    record {
      cell = x.cell;
      goes = x.goes;
      now = words;
      clock = x.clock;
      numbers = x.numbers;
      links = x.links;
      last = x.last;
      request = staged-request program c h.plain (h.now ++ value ∷ []) (answered_in h.stage session) bytes x.cell words (answered-request h.stage session x.request);
    }

one-fits : (program : Program) (c : ComId) (k : Contents) (log : List Record) (h g : Hist) (r : Record) → HasBytes program → IsPlayable program → ContentsFit k → Fits r → after program c k log ≡ Some h → HistFits program c h → apply program c k h r ≡ Some g → HistFits program c g
one-fits program c k log h g r bytes good contents fit e x one = at r refl
  where
    two : (fits program c (standing_of program c h) r ≡ true) × (recorded program c k h r ≡ Some g)
    two = passed (fits program c (standing_of program c h) r) (recorded program c k h r) g one

    numbers : numbers_fit g ≡ true
    numbers = recorded-numbers program c k h g r (passed (fits program c (standing_of program c h) r) (recorded program c k h r) g one).1 x.numbers

    any : is_value r ≡ false → HistFits program c g
    any calm = ⊎_elim (touched-fits program c k log h g r bytes good contents fit e x numbers) (rested-fits program c h g r calm x numbers) (what program c k h g r one)

    at : (q : Record) → r ≡ q → HistFits program c g
    at (Value n place session value) is =
        subst (HistFits program c) (same_Some (answered program c h session (h.now ++ value ∷ [])) g (ap (recorded program c k h) (sym is) ∙ two.1)) (valued-fits program c h session value bytes (subst Fits is fit).4 x)
    at (Take s n stamp) is = any (ap is_value is)
    at (TakeWhole s n stamp handler args) is = any (ap is_value is)
    at (Input stamp handler args) is = any (ap is_value is)
    at (Outcome stamp n abort) is = any (ap is_value is)
    at (Released to n) is = any (ap is_value is)
    at (Shown m) is = any (ap is_value is)
    at (Checkpoint image) is = any (ap is_value is)
    at (Epoch epoch) is = any (ap is_value is)
    at (Decided stamp d n writes) is = any (ap is_value is)

all-fits : (program : Program) (c : ComId) (k : Contents) (log rs : List Record) (h g : Hist) → HasBytes program → IsPlayable program → ContentsFit k → AllByRecursion Fits rs → after program c k log ≡ Some h → HistFits program c h → apply_all program c k (Some h) rs ≡ Some g → HistFits program c g
all-fits program c k log [] h g bytes good contents fit before x e = subst (HistFits program c) (same_Some h g e) x
all-fits program c k log (r ∷ rs) h g bytes good contents fit before x e = at (apply program c k h r) refl e (λ y b z. all-fits program c k (log ++ r ∷ []) rs y g bytes good contents fit.1 b z)
  where
    at : (o : Option Hist) → apply program c k h r ≡ o → apply_all program c k o rs ≡ Some g → ((y : Hist) → after program c k (log ++ r ∷ []) ≡ Some y → HistFits program c y → apply_all program c k (Some y) rs ≡ Some g → HistFits program c g) → HistFits program c g
    at None is f more = none-some g (sym (apply_none program c k rs) ∙ f)
    at (Some y) is f more =
        more y (applied_twice program c k (Some (first_hist program c)) log (r ∷ []) ∙ ap (λ o. apply_all program c k o (r ∷ [])) before ∙ is) (one-fits program c k log h y r bytes good contents fit.0 before x is) f

first-fits : (program : Program) (c : ComId) → HasBytes program → HistFits program c (first_hist program c)
first-fits program c bytes = record {
  cell = first-cell-fits program c bytes;
  goes = first-goes program c (slice_get program.components c.0);
  now = tt;
  clock = omega arith;
  numbers = none-numbers (slice_get program.components c.0);
  links = tt;
  last = tt;
  request = tt;
}
  where
    none-numbers : (o : Option Component) → nat_le (length (first_cell o).outs) GREATEST_NUMBER && nat_le (first_cell o).begun GREATEST_NUMBER ≡ true
    none-numbers None = refl
    none-numbers (Some d) = refl

-- the state that records give
pub hist_fits : (program : Program) (c : ComId) (k : Contents) (log : List Record) (h : Hist) → HasBytes program → IsPlayable program → ContentsFit k → AllByRecursion Fits log → after program c k log ≡ Some h → HistFits program c h
hist_fits program c k log h bytes good contents fit e = all-fits program c k [] log (first_hist program c) h bytes good contents fit refl (first-fits program c bytes) e

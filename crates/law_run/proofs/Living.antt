-- A live state whose values have their bytes keeps it so, and its log has records with theirs.
use Rattle.std.proofs.Common.{◌≡◌, refl, ap, sym, subst, ℕ, ◌<◌, ◌^◌, Bool, true, false, cond, ℤ, List, [], ◌∷◌, ◌++◌, length, Option, Some, None, option_map}
use Rattle.std.specs.Prelude.{⊤, MatchOption}
use Rattle.std.specs.List.{AllByRecursion}
use Rattle.ic_base.specs.declared.messages.AbortCause.{AbortCause}
use Rattle.ic_base.specs.declared.messages.ComId.{ComId}
use Rattle.ic_base.specs.declared.messages.Msg.{Msg}
use Rattle.ic_base.specs.declared.played.Played.{Played}
use Rattle.ic_base.specs.declared.played.Played.TheVariants.{Asks, Ready, NeedFails, Ends}
use Rattle.ic_base.specs.declared.record.Record.{Record}
use Rattle.ic_base.specs.declared.record.Record.TheVariants.{Take, TakeWhole, Input, Value, Outcome, Released, Shown, Checkpoint, Epoch, Decided}
use Rattle.ic_base.specs.declared.scenario.Program.{Program}
use Rattle.def_log.specs.Spelling.{Fits}
use Rattle.def_plain.specs.declared.world.InHand.{InHand}
use Rattle.def_state.specs.Hist.{Hist, hand_plays}
use Rattle.def_state.specs.Mirrors.{Mirrors}
use Rattle.def_state.specs.Names.{Identity}
use Rattle.def_state.specs.Txn
use Rattle.def_state.specs.Txn.{Stage, is_idle}
use Rattle.def_state.specs.Vol.{Vol, come_to, play_hand, play_on, take_in_hand, receive, end_txn, done_by, add_done, record_in}
use Rattle.def_step.specs.Pcom.{Pcom, append, absorb, marked, force_if, cover_if}
use Rattle.law_settle.proofs.Tables.{all-push}
use Rattle.law_settle.proofs.Walks.{all-append}
use Rattle.law_run.specs.ProgramBytes.{IsWord, AreWords, HasBytes, DoneFits, PlayedFits}
use Rattle.law_run.specs.WorldBytes.{LogFits}
use Rattle.law_run.proofs.Plays.{play_fits}
use Rattle.law_run.proofs.RunBytes.{HandFits}
use Rattle.law_run.proofs.Hists.{RequestOf, HistFits, answered-request, asking-request, readied-request}

pub record VolFits (v : Vol) : Type 0 where
  pub vars : AreWords v.vars
  pub few : length v.vars < 2 ^ 8
  pub hand : MatchOption v.hand ⊤ HandFits
  pub now : AreWords v.now
  pub request : RequestOf v.txn.stage

-- the state that mirrors a replayed one
pub mirrored-fits : (program : Program) (c : ComId) (v : Vol) (h : Hist) → Mirrors v h → HistFits program c h → VolFits v
mirrored-fits program c v h m x = record {
  vars = subst AreWords (sym m.vars) x.cell.vars;
  few = subst (λ l. length l < 2 ^ 8) (sym m.vars) x.cell.few;
  hand = subst (λ o. MatchOption o ⊤ HandFits) (sym m.hand) x.cell.hand;
  now = subst AreWords (sym m.now) x.now;
  request = subst RequestOf (sym (ap (λ t. t.stage) m.txn)) x.request;
}

come-fits : (c : ComId) (at : ℕ) (v : Vol) (r : Played) → VolFits v → PlayedFits r → VolFits (come_to c at v r)
come-fits c at v (Ends vars sends outs) x h = record { vars = h.vars; few = h.few; hand = tt; now = tt; request = x.request }
come-fits c at v (Asks t q) x h = by (is_idle v.txn.stage)
  where
    by : (b : Bool) → VolFits (record v { txn = cond b (Txn.begin v.txn t q) (Txn.ask v.txn q) })
    by true = record { vars = x.vars; few = x.few; hand = x.hand; now = x.now; request = h }
    by false = record { vars = x.vars; few = x.few; hand = x.hand; now = x.now; request = asking-request v.txn.stage q x.request h }
come-fits c at v (Ready t) x h = record { vars = x.vars; few = x.few; hand = x.hand; now = x.now; request = readied-request v.txn.stage x.request }
come-fits c at v (NeedFails t line) x h = x

pub hand-fits : (program : Program) (c : ComId) (v : Vol) (now : List ℤ) (hand : InHand) → HasBytes program → VolFits v → AreWords now → v.hand ≡ Some hand → PlayedFits (hand_plays program c v.vars now hand)
hand-fits program c v now hand bytes x words is =
    let own : HandFits hand = subst (λ o. MatchOption o ⊤ HandFits) is x.hand in play_fits program c hand.handler v.vars hand.args hand.done now bytes x.vars x.few own.args own.done words

play-fits : (program : Program) (c : ComId) (at : ℕ) (v : Vol) → HasBytes program → VolFits v → VolFits (play_on program c at v)
play-fits program c at v bytes x = by v.hand refl
  where
    by : (o : Option InHand) → v.hand ≡ o → VolFits (play_hand program c at v o)
    by None is = x
    by (Some hand) is = come-fits c at v (hand_plays program c v.vars v.now hand) x (hand-fits program c v v.now hand bytes x x.now is)

abbrev pub ContentFits : Option Msg → Type 0
ContentFits content = MatchOption content ⊤ (λ m. AreWords m.args)

taken-fits : (stamp handler : ℕ) (args : List ℤ) (v : Vol) → VolFits v → AreWords args → VolFits (take_in_hand v stamp handler args)
taken-fits stamp handler args v x h = record { vars = x.vars; few = x.few; hand = record { args = h; done = tt }; now = tt; request = x.request }

received-fits : (from : ComId) (k at : ℕ) (whole : Bool) (v : Vol) → VolFits v → VolFits (receive v from k at whole)
received-fits from k at whole v x = record { vars = x.vars; few = x.few; hand = x.hand; now = x.now; request = x.request }

ended-fits : (stamp at : ℕ) (abort : Option AbortCause) (v : Vol) → VolFits v → VolFits (end_txn v stamp at abort)
ended-fits stamp at abort v x = record { vars = x.vars; few = x.few; hand = by v.hand x.hand; now = tt; request = tt }
  where
    done-fits : (o : Option AbortCause) → DoneFits (done_by v.now o)
    done-fits None = x.now
    done-fits (Some cause) = tt

    by : (o : Option InHand) → MatchOption o ⊤ HandFits → MatchOption (option_map (add_done (done_by v.now abort)) o) ⊤ HandFits
    by None h = tt
    by (Some hand) h = record { args = h.args; done = all-push DoneFits hand.done (done_by v.now abort) h.done (done-fits abort) }

pub record_keeps_values : (program : Program) (c : ComId) (at : ℕ) (content : Option Msg) (v : Vol) (r : Record) → HasBytes program → VolFits v → ContentFits content → Fits r → VolFits (record_in program c at content v r)
record_keeps_values program c at None v (Take from k stamp) bytes x words h = x
record_keeps_values program c at (Some m) v (Take from k stamp) bytes x words h = play-fits program c at (take_in_hand (receive v from k at false) stamp m.handler m.args) bytes (taken-fits stamp m.handler m.args (receive v from k at false) (received-fits from k at false v x) words)
record_keeps_values program c at content v (TakeWhole from k stamp handler args) bytes x words h =
    play-fits program c at (take_in_hand (receive v from k at true) stamp handler args) bytes (taken-fits stamp handler args (receive v from k at true) (received-fits from k at true v x) h.3.2)
record_keeps_values program c at content v (Input stamp handler args) bytes x words h = play-fits program c at (take_in_hand v stamp handler args) bytes (taken-fits stamp handler args v x h.1.2)
record_keeps_values program c at content v (Value n place session value) bytes x words h =
    play-fits program c at (record v { now = v.now ++ value ∷ []; txn = Txn.take_reply v.txn session }) bytes
    (record { vars = x.vars; few = x.few; hand = x.hand; now = all-push IsWord v.now value x.now h.4; request = answered-request v.txn.stage session x.request })
record_keeps_values program c at content v (Outcome stamp n abort) bytes x words h = play-fits program c at (end_txn v stamp at abort) bytes (ended-fits stamp at abort v x)
record_keeps_values program c at content v (Released to k) bytes x words h = record { vars = x.vars; few = x.few; hand = x.hand; now = x.now; request = x.request }
record_keeps_values program c at content v (Shown m) bytes x words h = record { vars = x.vars; few = x.few; hand = x.hand; now = x.now; request = x.request }
record_keeps_values program c at content v (Checkpoint image) bytes x words h = x
record_keeps_values program c at content v (Epoch epoch) bytes x words h = x
record_keeps_values program c at content v (Decided stamp d n writes) bytes x words h = x

-- logs --------------------------------------------------------------------------------------------

pub record LiveFits (p : Pcom) : Type 0 where
  pub log : LogFits p.log
  pub vol : VolFits p.vol

pub absorb-fits : (program : Program) (c : ComId) (content : Option Msg) (p : Pcom) (rs : List Record) → HasBytes program → ContentFits content → LiveFits p → AllByRecursion Fits rs → LiveFits (absorb program c content p rs)
absorb-fits program c content p [] bytes words x h = x
absorb-fits program c content p (r ∷ rs) bytes words x h = absorb-fits program c content (append program c content p r) rs bytes words (record {
  log = record { forced = x.log.forced; buffered = all-push Fits p.log.buffered r x.log.buffered h.0 };
  vol = record_keeps_values program c _ content p.vol r bytes x.vol words h.0;
}) h.1

pub marked-fits : (p : Pcom) (o : Option Identity) → LiveFits p → LiveFits (marked p o)
marked-fits p None x = x
marked-fits p (Some i) x = record { log = x.log; vol = record { vars = x.vol.vars; few = x.vol.few; hand = x.vol.hand; now = x.vol.now; request = x.vol.request } }

pub force-fits : (b : Bool) (p : Pcom) → LiveFits p → LiveFits (force_if b p)
force-fits false p x = x
force-fits true p x = record { log = record { forced = all-append Fits p.log.forced p.log.buffered x.log.forced x.log.buffered; buffered = tt }; vol = x.vol }

pub cover-fits : (b : Bool) (p : Pcom) → LiveFits p → LiveFits (cover_if b p)
cover-fits false p x = x
cover-fits true p x = record { log = x.log; vol = record { vars = x.vol.vars; few = x.vol.few; hand = x.vol.hand; now = x.vol.now; request = x.vol.request } }

-- the clock behind a record -----------------------------------------------------------------------

pub play-clock : (program : Program) (c : ComId) (at : ℕ) (v : Vol) → (play_on program c at v).clock ≡ v.clock
play-clock program c at v = by v.hand
  where
    came : (r : Played) → (come_to c at v r).clock ≡ v.clock
    came (Ends vars sends outs) = refl
    came (Asks t q) = refl
    came (Ready t) = refl
    came (NeedFails t line) = refl

    by : (o : Option InHand) → (play_hand program c at v o).clock ≡ v.clock
    by None = refl
    by (Some hand) = came (hand_plays program c v.vars v.now hand)

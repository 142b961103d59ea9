-- The laws of a step, of its moments and of a recovery.
use Rattle.std.proofs.Common.{◌≡◌, refl, ap, sym, subst, ℕ, ◌+◌, ◌≤◌, Bool, true, false, List, [], ◌∷◌, ◌++◌, length, Option, Some, None, cond, option_and_then, arith}
use Rattle.std.specs.Prelude.{Contains}
use Rattle.std.proofs.lemmas.List.{append-nil}
use Rattle.std.proofs.lemmas.List.Elements.{Contains-append_left}
use Rattle.std.proofs.lemmas.Option.{same_Some}
use Rattle.ic_base.specs.declared.messages.ComId.{ComId}
use Rattle.ic_base.specs.declared.messages.Session.{Session}
use Rattle.ic_base.specs.declared.messages.Packet.{Packet}
use Rattle.ic_base.specs.declared.scenario.Program.{Program}
use Rattle.ic_base.specs.declared.record.Record.{Record}
use Rattle.ic_base.specs.declared.record.Record.TheVariants.{Epoch, Decided}
use Rattle.def_step.specs.Packets.{receiver_of}
use Rattle.def_step.specs.Tcom.{Tcom, Book, Verdict, book_of, book_fits, tcom_step, recover_tcom, in_next_epoch, in_next_epoch_if, lacks_epoch}
use Rattle.def_facts.specs.Logs.{epoch_of}
use Rattle.def_facts.specs.Tcom.{CommitReceived, DecidedFacts, TcomLogFacts, TcomStateFacts}
use Rattle.law_tcom.specs.Decisions.{verdict_in}
use Rattle.law_tcom.specs.Steps.{StepsKeepStates, StepsKeepLogs, StepsAdd, MomentsKeepLogs, RecoveriesKeepStates, RecoveriesKeepLogs}
use Rattle.law_tcom.proofs.Books.{book-push, books_are_of_logs}
use Rattle.law_tcom.proofs.Kept.{decided-within, greatest-told, verdict-is}
use Rattle.law_tcom.proofs.Logs.{log-receives, log-grows, log-untold}
use Rattle.law_tcom.proofs.Leaves.{step-leaves}
use Rattle.law_tcom.proofs.StepFacts.{After}
use Rattle.law_tcom.proofs.Stepping.{steps}
use Rattle.law_replay.proofs.Lists.{self-number, clash, contains-split, empty, none-some, open-content}
use Rattle.law_replay.proofs.Members.{mapped-has}

pub steps_keep_states : StepsKeepStates
steps_keep_states program t x sent received p here f =
    (steps false program t 0 x sent received p here (record { within = omega arith; state = f; log = λ e. clash false e refl })).state

kept : (program : Program) (t : ComId) (old : ℕ) (x : Tcom) (sent received : List Packet) (p : Packet) → receiver_of p ≡ t → old ≤ length x.records → TcomStateFacts program t x sent received → TcomLogFacts program t old x.records sent received → After true program t old sent (received ++ p ∷ []) (tcom_step program t x p)
kept program t old x sent received p here within f g = steps true program t old x sent received p here (record { within = within; state = f; log = λ e. g })

pub steps_keep_logs : StepsKeepLogs
steps_keep_logs program t old x sent received p here within f g = (kept program t old x sent received p here within f g).log refl

pub moments_keep_logs : MomentsKeepLogs
moments_keep_logs program t old x sent received p here within f g = (
  log-receives program t old x.records sent received (received ++ p ∷ []) (λ q h. Contains-append_left received (p ∷ []) q h) g,
  log-untold program t old (tcom_step program t x p).tcom.records (sent ++ (tcom_step program t x p).puts) sent (received ++ p ∷ []) (λ q h. Contains-append_left sent (tcom_step program t x p).puts q h) (steps_keep_logs program t old x sent received p here within f g),
)

-- what a step adds ----------------------------------------------------------------------------------

pub steps_add : StepsAdd
steps_add program t x p = step-leaves program t x p (λ v. v.tcom.records ≡ x.records ++ v.adds) (record {
  quiet = still;
  told = λ c n place session stamp asks e least. still;
  dropped = λ c to n e. still;
  first_again = λ c to n q s e least is. still;
  first_held = λ c to n q r e least is. still;
  first_done = λ c to n q e least key free none unheld. still;
  again = λ to place q s e there lt. still;
  held = λ to place q s r e there is. still;
  next = λ to q s e there small key unheld. still;
  older = λ c n place session asks differ free. still;
  committed = λ to place stamp s e there pcom. refl;
})
  where
    still : x.records ≡ x.records ++ []
    still = sym (append-nil x.records)

-- a recovery ----------------------------------------------------------------------------------------

-- the book that was read, and the Tcom over it
pub comes-up : (program : Program) (t : ComId) (size : ℕ) (log : List Record) (x : Tcom) → recover_tcom program t size log ≡ Some x → (b : Book) × (book_of program t log ≡ Some b) × (in_next_epoch log b ≡ x)
comes-up program t size log x e = at (book_of program t log) e
  where
    room : (lacks : Bool) (b : Book) → cond lacks None (Some (in_next_epoch log b)) ≡ Some x → in_next_epoch log b ≡ x
    room true b f = none-some x f
    room false b f = same_Some (in_next_epoch log b) x f

    at : (o : Option Book) → option_and_then (in_next_epoch_if size log) o ≡ Some x → (b : Book) × (o ≡ Some b) × (in_next_epoch log b ≡ x)
    at None f = none-some x f
    at (Some b) f = (b, refl, room (lacks_epoch size b) b f)

pub next-fits : (program : Program) (t : ComId) (b : Book) → book_fits program t b (Epoch (b.epoch + 1)) ≡ true
next-fits program t b = self-number (b.epoch + 1)

pub recoveries_keep_states : RecoveriesKeepStates
recoveries_keep_states program t old size log x sent received e f =
    let z = comes-up program t size log x e in subst (λ y. TcomStateFacts program t y sent received) z.2 (up z.0 z.1)
  where
    up : (b : Book) → book_of program t log ≡ Some b → TcomStateFacts program t (in_next_epoch log b) sent received
    up b reads = record {
      books = book-push program t log b (Epoch (b.epoch + 1)) reads (next-fits program t b);
      sessions = λ s h. empty s h;
      one_session = λ r s h. empty r h;
      one_holder = λ r s key h. empty r h;
      declared = λ s key h. empty s h;
      own_numbers = λ r s h. empty r h;
      reply_counter = λ c n place session v h same. over session same (f.reply_epoch c n place session v h) (books_are_of_logs program t log b reads).epoch;
      reply_sitting = λ s c n place v h. empty s h;
      least_told = greatest-told t received b.decided committed;
      decided_served = λ c n stamp e. decided-within b.decided c n stamp e;
    }
      where
        -- each decision was asked for
        committed : (v : Verdict) → Contains b.decided v → CommitReceived t received v.peer v.n
        committed v h =
            let r = mapped-has verdict_in log v (subst (λ l. Contains l v) (books_are_of_logs program t log b reads).decided h) in
            let d = verdict-is r.0 v r.2 in
            let s = contains-split log (Decided v.stamp v.peer v.n d.0) (subst (Contains log) d.1 r.1) in
            let z = open-content (λ (y : Book). DecidedFacts t old sent received s.0 y v.stamp v.peer v.n d.0) (book_of program t s.0) (f.decisions s.0 s.1 v.stamp v.peer v.n d.0 s.2) in
            (z.2.place, z.2.session, z.2.asked_at, z.2.commit_received)

        over : {B : Type 0} (session : Session) → session.epoch ≡ b.epoch + 1 → session.epoch ≤ epoch_of log → b.epoch ≡ epoch_of log → B
        over session p q r = absurd (omega (arith, p, q, r))

pub recoveries_keep_logs : RecoveriesKeepLogs
recoveries_keep_logs program t old size log x sent received e within f =
    let z = comes-up program t size log x e in
    subst (λ (y : Tcom). TcomLogFacts program t old y.records sent received) z.2
    (log-grows program t old log z.0 (Epoch (z.0.epoch + 1)) sent received within z.1 (next-fits program t z.0) (λ stamp c n writes d. clash false (ap is_epoch d) refl) f)
  where
    is_epoch : Record → Bool
    is_epoch (Epoch k) = true
    is_epoch _ = false

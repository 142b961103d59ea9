-- One step of a Tcom: a packet is served by the first case that holds.
use Rattle.std.specs.Prelude.{ℕ, suc, ◌+◌, ◌==◌, nat_le, nat_lt, max, Bool, false, not, ◌&&◌, ◌||◌, cond, List, [], ◌∷◌, ◌++◌, map, fold, length, get_or, slice_get, slice_set, ℤ, pos, Option, Some, None, is_none, option_map, option_and_then, filter, find}
use Rattle.ic_base.specs.declared.limits.TheConstants.{GREATEST_NUMBER}
use Rattle.std.specs.List.{list_any, list_all}
use Rattle.ic_base.specs.declared.messages.ComId.{ComId}
use Rattle.ic_base.specs.declared.messages.Session.{Session}
use Rattle.ic_base.specs.declared.messages.Request.{Request}
use Rattle.ic_base.specs.declared.messages.Request.TheVariants.{Get, Put}
use Rattle.ic_base.specs.declared.messages.AbortCause.TheVariants.{Held, Epoch as Epochs}
use Rattle.ic_base.specs.declared.messages.Decision.TheVariants.{Committed, Aborted}
use Rattle.ic_base.specs.declared.messages.Packet.{Packet}
use Rattle.ic_base.specs.declared.messages.Packet.TheVariants.{Op, OpReply, Commit, Outcome, Drop}
use Rattle.ic_base.specs.declared.scenario.Component.{Component}
use Rattle.ic_base.specs.declared.scenario.Program.{Program}
use Rattle.ic_base.specs.declared.record.Record.{Record}
use Rattle.ic_base.specs.declared.record.Record.TheVariants.{Take, TakeWhole, Input, Value, Outcome as Ended, Released, Shown, Checkpoint, Epoch, Decided}
use Rattle.ic_base.specs.Programs.{same_com, is_a_pcom, has_key}
use Rattle.def_state.specs.Names.{Numbers, number_of, put_number, same_session}
use Rattle.def_step.specs.Packets.{fits_tcom, key_of}
use Rattle.def_step.specs.Room.{has_no_room}

-- a decided transaction of a Pcom, with its stamp
pub record Verdict : Type 0 where
  pub peer : ComId
  pub n : ℕ
  pub stamp : ℕ

-- what the records of a Tcom's log give
pub record Book : Type 0 where
  pub ledger : List ℤ
  pub decided : List Verdict
  pub epoch : ℕ
  pub clock : ℕ

-- a session: the transaction it serves, its answers in order of place, the keys that it holds, its writes
pub record Sitting : Type 0 where
  pub session : Session
  pub peer : ComId
  pub n : ℕ
  pub answers : List ℤ
  pub keys : List ℕ
  pub writes : List (ℕ × ℤ)

-- a Tcom over its log: the book of all its records, and `least`, the least number still served of a component, 1 where none stands
pub record Tcom : Type 0 where
  pub records : List Record
  pub book : Book
  pub counter : ℕ
  pub sittings : List Sitting
  pub least : Numbers

-- the book ------------------------------------------------------------------------------

abbrev pub first_ledger : Option Component → List ℤ
first_ledger None = []
first_ledger (Some d) = map (λ k. k.1) d.keys

abbrev pub first_book : Program → ComId → Book
first_book program t = record { ledger = first_ledger (slice_get program.components t.0); decided = []; epoch = 1; clock = 0 }

abbrev pub write_all : List ℤ → List (ℕ × ℤ) → List ℤ
write_all ledger writes = fold (λ l w. slice_set l w.0 w.1) ledger writes

abbrev pub is_of : ComId → ℕ → Verdict → Bool
is_of c n v = same_com c v.peer && (n == v.n)

-- the stamp of the decision on (c, n)
abbrev pub decided_at : Book → ComId → ℕ → Option ℕ
decided_at b c n = option_map (λ v. v.stamp) (find (is_of c n) b.decided)

-- the record is no misfit
abbrev pub book_fits : Program → ComId → Book → Record → Bool
book_fits program t b (Epoch epoch) = epoch == b.epoch + 1
book_fits program t b (Decided stamp c n writes) =
    nat_lt b.clock stamp && (is_none (decided_at b c n) && (is_a_pcom program c && list_all (λ w. has_key program t w.0) writes))
book_fits program t b (Take from k stamp) = false
book_fits program t b (TakeWhole from k stamp handler args) = false
book_fits program t b (Input stamp handler args) = false
book_fits program t b (Value n place session value) = false
book_fits program t b (Ended stamp n abort) = false
book_fits program t b (Released to k) = false
book_fits program t b (Shown m) = false
book_fits program t b (Checkpoint image) = false

abbrev pub booked : Book → Record → Book
booked b (Epoch epoch) = record b { epoch = epoch }
booked b (Decided stamp c n writes) = record b {
  ledger = write_all b.ledger writes;
  decided = b.decided ++ record { peer = c; n = n; stamp = stamp } ∷ [];
  clock = stamp;
}
booked b (Take from k stamp) = b
booked b (TakeWhole from k stamp handler args) = b
booked b (Input stamp handler args) = b
booked b (Value n place session value) = b
booked b (Ended stamp n abort) = b
booked b (Released to k) = b
booked b (Shown m) = b
booked b (Checkpoint image) = b

abbrev pub book : Program → ComId → Option Book → List Record → Option Book
book program t b [] = b
book program t b (r ∷ rs) = book program t (option_and_then (λ x. cond (book_fits program t x r) (Some (booked x r)) None) b) rs

-- the book that a log gives; None where a record is a misfit
abbrev pub book_of : Program → ComId → List Record → Option Book
book_of program t records = book program t (Some (first_book program t)) records

-- sessions ------------------------------------------------------------------------------

abbrev pub sits_for : ComId → ℕ → Sitting → Bool
sits_for c n s = same_com c s.peer && (n == s.n)

abbrev pub sitting_of : Tcom → ComId → ℕ → Option Sitting
sitting_of x c n = find (sits_for c n) x.sittings

-- a session is there for a packet where the session, c and n agree
abbrev pub sitting_in : Tcom → Session → ComId → ℕ → Option Sitting
sitting_in x session c n = find (λ s. same_session session s.session && sits_for c n s) x.sittings

-- the other session that holds the key
abbrev pub holder : Tcom → ComId → ℕ → ℕ → Option Sitting
holder x c n key = find (λ s. list_any (λ k. k == key) s.keys && not (sits_for c n s)) x.sittings

abbrev pub last_write : List (ℕ × ℤ) → ℕ → ℤ → ℤ
last_write writes key before = fold (λ v w. cond (w.0 == key) w.1 v) before writes

-- a get answers the session's own last write or the ledger's value, a put what it writes
abbrev pub answer_to : List ℤ → Sitting → Request → ℤ
answer_to ledger s (Get key) = last_write s.writes key (get_or ledger key (pos 0))
answer_to ledger s (Put key value) = value

abbrev pub writes_with : Sitting → Request → List (ℕ × ℤ)
writes_with s (Get key) = s.writes
writes_with s (Put key value) = s.writes ++ (key, value) ∷ []

-- a request is done: the key's lock is taken and the answer kept
abbrev pub done : List ℤ → Sitting → Request → Sitting
done ledger s request = record s {
  answers = s.answers ++ answer_to ledger s request ∷ [];
  keys = s.keys ++ key_of request ∷ [];
  writes = writes_with s request;
}

-- a step --------------------------------------------------------------------------------

pub record Served : Type 0 where
  pub tcom : Tcom
  pub adds : List Record
  pub puts : List Packet

abbrev pub silent : Tcom → Served
silent x = record { tcom = x; adds = []; puts = [] }

abbrev pub answers_with : Tcom → Packet → Served
answers_with x p = record { tcom = x; adds = []; puts = p ∷ [] }

-- the answer at a place of a session
abbrev pub reply_at : ComId → Sitting → ℕ → Packet
reply_at t s place = OpReply t s.peer s.n place s.session (get_or s.answers place (pos 0))

abbrev pub is_below : ComId → ℕ → Sitting → Bool
is_below c n s = same_com c s.peer && nat_lt s.n n

-- sessions of c below n end
abbrev pub without_below : Tcom → ComId → ℕ → Tcom
without_below x c n = record x { sittings = filter (λ s. not (is_below c n s)) x.sittings }

abbrev pub serves_from : Tcom → ComId → ℕ → Tcom
serves_from x c n = record x { least = put_number c n x.least }

abbrev pub least_of : Tcom → ComId → ℕ
least_of x c = number_of 1 x.least c

-- the stamp of the decision on (c, n) that is kept: a decision is forgotten where its number is served no longer
abbrev pub kept_at : Tcom → ComId → ℕ → Option ℕ
kept_at x c n = cond (nat_lt n (least_of x c)) None (decided_at x.book c n)

-- a Drop ends the sessions up to n, which is served no longer
abbrev pub on_drop : Tcom → ComId → ℕ → Tcom
on_drop x c n = serves_from (without_below x c (n + 1)) c (max (least_of x c) (n + 1))

-- an answered place is answered again, the next one is done unless another session holds the key
abbrev pub held_by : ComId → ComId → ℕ → ℕ → Option Session → Tcom → Sitting → Served
held_by t c n place session x s = answers_with x (Outcome t c n place session (Aborted (Held s.peer s.n)))

abbrev pub replaced : Tcom → Sitting → Tcom
replaced x s = record x { sittings = map (λ r. cond (sits_for s.peer s.n r) s r) x.sittings }

abbrev pub opened_sitting : Tcom → ComId → ℕ → Sitting
opened_sitting x c n = record { session = record { epoch = x.book.epoch; counter = x.counter + 1 }; peer = c; n = n; answers = []; keys = []; writes = [] }

abbrev pub opens : ComId → Tcom → Sitting → Served
opens t x s = answers_with (record x { counter = x.counter + 1; sittings = x.sittings ++ s ∷ [] }) (reply_at t s 0)

abbrev pub opens_unless : ComId → ComId → ℕ → Request → Tcom → Option Sitting → Served
opens_unless t c n request x (Some s) = held_by t c n 0 None x s
opens_unless t c n request x None = opens t x (done x.book.ledger (opened_sitting x c n) request)

abbrev pub first_again : ComId → ComId → ℕ → Request → Tcom → Option Sitting → Served
first_again t c n request x (Some s) = answers_with x (reply_at t s 0)
first_again t c n request x None = opens_unless t c n request x (holder x c n (key_of request))

-- a request at place 0 opens the session, or is answered again; lower numbers are served no longer
abbrev pub on_first : ComId → ComId → ℕ → Request → Tcom → Served
on_first t c n request x = first_again t c n request (without_below (serves_from x c n) c n) (sitting_of x c n)

abbrev pub does_unless : ComId → ℕ → Session → Request → Tcom → Sitting → Option Sitting → Served
does_unless t place session request x s (Some other) = held_by t s.peer s.n place (Some session) x other
does_unless t place session request x s None =
    answers_with (replaced x (done x.book.ledger s request)) (reply_at t (done x.book.ledger s request) place)

abbrev pub on_later : ComId → ℕ → Session → Request → Tcom → Option Sitting → Served
on_later t place session request x None = silent x
on_later t place session request x (Some s) =
    cond (nat_lt place (length s.answers))
    (answers_with x (reply_at t s place))
    (cond (place == length s.answers)
    (does_unless t place session request x s (holder x s.peer s.n (key_of request)))
    (silent x))

abbrev pub without : Tcom → ComId → ℕ → Tcom
without x c n = record x { sittings = filter (λ s. not (sits_for c n s)) x.sittings }

-- the decision enters log and ledger, and the session ends
abbrev pub decides : Tcom → Record → ComId → ℕ → Packet → Served
decides x r c n answer = record {
  tcom = record (without x c n) { records = x.records ++ r ∷ []; book = booked x.book r };
  adds = r ∷ [];
  puts = answer ∷ [];
}

abbrev pub on_commit : ComId → ℕ → ℕ → Session → Tcom → Option Sitting → Served
on_commit t place stamp session x None = silent x
on_commit t place stamp session x (Some s) =
    decides x (Decided (max x.book.clock stamp + 1) s.peer s.n s.writes) s.peer s.n
    (Outcome t s.peer s.n place (Some session) (Committed (max x.book.clock stamp + 1)))

abbrev pub of_old_epoch : ComId → ComId → ℕ → ℕ → Session → Tcom → Served
of_old_epoch t c n place session x = answers_with x (Outcome t c n place (Some session) (Aborted (Epochs session.epoch x.book.epoch)))

-- a request of a transaction that isn't decided
abbrev pub on_op : ComId → ComId → ℕ → ℕ → Option Session → Request → Tcom → Served
on_op t c n place None request x = on_first t c n request x
on_op t c n place (Some session) request x =
    cond (session.epoch == x.book.epoch)
    (on_later t place session request x (sitting_in x session c n))
    (of_old_epoch t c n place session x)

-- a decided transaction is answered so
abbrev pub unless_decided : ComId → ComId → ℕ → ℕ → Option Session → Tcom → Option ℕ → Served → Served
unless_decided t c n place session x (Some stamp) other = answers_with x (Outcome t c n place session (Committed stamp))
unless_decided t c n place session x None other = other

-- a number that is served no longer is answered by nothing, whatever was decided
abbrev pub unless_below : ComId → ℕ → Tcom → Served → Served
unless_below c n x other = cond (nat_lt n (least_of x c)) (silent x) other

abbrev pub served : ComId → Tcom → Packet → Served
served t x (Op from to n place session request) =
    unless_below from n x
    (unless_decided t from n place session x (decided_at x.book from n) (on_op t from n place session request x))
served t x (Commit from to n place session stamp) =
    unless_below from n x
    (unless_decided t from n place (Some session) x (decided_at x.book from n)
    (cond (session.epoch == x.book.epoch)
    (on_commit t place stamp session x (sitting_in x session from n))
    (of_old_epoch t from n place session x)))
served t x (Drop from to n) = silent (on_drop x from n)
served t x _ = silent x

-- one packet; a packet that doesn't fit changes nothing
abbrev pub tcom_step : Program → ComId → Tcom → Packet → Served
tcom_step program t x p = cond (fits_tcom program t p) (served t x p) (silent x)

-- over an empty log
abbrev pub fresh_tcom : Program → ComId → Tcom
fresh_tcom program t = record { records = []; book = first_book program t; counter = 0; sittings = []; least = [] }

-- the greatest number decided of each Pcom
abbrev pub greatest_decided : List Verdict → Numbers
greatest_decided decided = fold (λ xs v. put_number v.peer (max (number_of 1 xs v.peer) v.n) xs) [] decided

-- the last decision of each Pcom is still told
abbrev pub in_next_epoch : List Record → Book → Tcom
in_next_epoch records b = record {
  records = records ++ Epoch (b.epoch + 1) ∷ [];
  book = record b { epoch = b.epoch + 1 };
  counter = 0;
  sittings = [];
  least = greatest_decided b.decided;
}

-- there is no room for the Epoch record of a recovery in a log of this size, or no next epoch
abbrev pub lacks_epoch : ℕ → Book → Bool
lacks_epoch size b = has_no_room size (Epoch (b.epoch + 1) ∷ []) || nat_le GREATEST_NUMBER b.epoch

abbrev pub in_next_epoch_if : ℕ → List Record → Book → Option Tcom
in_next_epoch_if size records b = cond (lacks_epoch size b) None (Some (in_next_epoch records b))

-- a Tcom that comes up over these records, in the next epoch; None where one is a misfit, or the log, of this size on its disk,
-- has no room for the Epoch record
abbrev pub recover_tcom : Program → ComId → ℕ → List Record → Option Tcom
recover_tcom program t size records = option_and_then (in_next_epoch_if size records) (book_of program t records)

-- the place, counted from 0, of the first record that is a misfit
abbrev pub misfit_from : Program → ComId → Book → List Record → Option ℕ
misfit_from program t b [] = None
misfit_from program t b (r ∷ rs) = cond (book_fits program t b r) (option_map suc (misfit_from program t (booked b r) rs)) (Some 0)

abbrev pub book_misfit : Program → ComId → List Record → Option ℕ
book_misfit program t records = misfit_from program t (first_book program t) records

-- the step would give a stamp or a counter past its limit
abbrev pub is_past_limit : Program → ComId → Tcom → Packet → Bool
is_past_limit program t x p =
    nat_lt GREATEST_NUMBER (tcom_step program t x p).tcom.book.clock || nat_lt GREATEST_NUMBER (tcom_step program t x p).tcom.counter

-- the step would pass the log's limit or a number's limit; `size` is the log's size on its disk
abbrev pub is_tcom_full : Program → ComId → ℕ → Tcom → Packet → Bool
is_tcom_full program t size x p = has_no_room size (tcom_step program t x p).adds || is_past_limit program t x p

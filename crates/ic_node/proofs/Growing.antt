-- A step of a Tcom adds its decision to its records, and no Checkpoint.
use Rattle.std.proofs.Common.{◌≡◌, refl, sym, ℕ, Bool, true, false, cond, [], ◌++◌, Option, Some, None}
use Rattle.std.proofs.lemmas.List.{append-nil}
use Rattle.std.specs.Prelude.{nat_lt, ◌==◌, length}
use Rattle.ic_base.specs.declared.messages.ComId.{ComId}
use Rattle.ic_base.specs.declared.messages.Packet.{Packet}
use Rattle.ic_base.specs.declared.messages.Packet.TheVariants.{Data, Stable, Installed, Fetch, Op, OpReply, Commit, Outcome, Drop}
use Rattle.ic_base.specs.declared.messages.Request.{Request}
use Rattle.ic_base.specs.declared.messages.Session.{Session}
use Rattle.ic_base.specs.declared.scenario.Program.{Program}
use Rattle.def_log.specs.Log.{end_with_checkpoint}
use Rattle.def_step.specs.Packets.{fits_tcom, key_of}
use Rattle.def_step.specs.Tcom as step
use Rattle.def_step.specs.Tcom.{Tcom, Sitting, Served, silent, answers_with, sitting_of, sitting_in, holder, decided_at, least_of, without_below, serves_from, first_again, opens_unless, does_unless, on_later, on_commit, of_old_epoch, on_op, unless_decided, served, tcom_step}

module _ (x : Tcom) where
  -- its records are the old ones with what it adds, which doesn't end with a Checkpoint
  abbrev pub Grows : Served → Type 0
  Grows v = (v.tcom.records ≡ x.records ++ v.adds) × (end_with_checkpoint v.adds ≡ false)

  quiet : (y : Tcom) → y.records ≡ x.records → (y.records ≡ x.records ++ []) × (false ≡ false)
  quiet y same = (let more = sym (append-nil x.records) in cc, refl)

  either : (b : Bool) (u v : Served) → Grows u → Grows v → Grows (cond b u v)
  either true u v p q = p
  either false u v p q = q

  unless : (t c : ComId) (n place : ℕ) (session : Option Session) (o : Option ℕ) (other : Served) → Grows other → Grows (unless_decided t c n place session x o other)
  unless t c n place session (Some stamp) other p = quiet x refl
  unless t c n place session None other p = p

  unless_below : (c : ComId) (n : ℕ) (other : Served) → Grows other → Grows (step.unless_below c n x other)
  unless_below c n other p = either (nat_lt n (least_of x c)) (silent x) other (quiet x refl) p

  module _ (y : Tcom) (same : y.records ≡ x.records) where
    opening : (t c : ComId) (n : ℕ) (q : Request) (o : Option Sitting) → Grows (opens_unless t c n q y o)
    opening t c n q (Some s) = quiet y same
    opening t c n q None = quiet y same

    again : (t c : ComId) (n : ℕ) (q : Request) (o : Option Sitting) → Grows (first_again t c n q y o)
    again t c n q (Some s) = quiet y same
    again t c n q None = opening t c n q (holder y c n (key_of q))

  doing : (t : ComId) (place : ℕ) (session : Session) (q : Request) (s : Sitting) (o : Option Sitting) → Grows (does_unless t place session q x s o)
  doing t place session q s (Some other) = quiet x refl
  doing t place session q s None = quiet x refl

  later : (t : ComId) (place : ℕ) (session : Session) (q : Request) (o : Option Sitting) → Grows (on_later t place session q x o)
  later t place session q None = quiet x refl
  later t place session q (Some s) =
      either (nat_lt place (length s.answers)) (answers_with x _) _ (quiet x refl)
      (either (place == length s.answers) _ (silent x) (doing t place session q s (holder x s.peer s.n (key_of q))) (quiet x refl))

  committing : (t : ComId) (place stamp : ℕ) (session : Session) (o : Option Sitting) → Grows (on_commit t place stamp session x o)
  committing t place stamp session None = quiet x refl
  committing t place stamp session (Some s) = (refl, refl)

  asked : (t c : ComId) (n place : ℕ) (session : Option Session) (q : Request) → Grows (on_op t c n place session q x)
  asked t c n place None q = again (without_below (serves_from x c n) c n) refl t c n q (sitting_of x c n)
  asked t c n place (Some session) q =
      either (session.epoch == x.book.epoch) _ (of_old_epoch t c n place session x) (later t place session q (sitting_in x session c n)) (quiet x refl)

  serving : (t : ComId) (p : Packet) → Grows (served t x p)
  serving t (Op from to n place session request) = unless_below from n _ (unless t from n place session (decided_at x.book from n) _ (asked t from n place session request))
  serving t (Commit from to n place session stamp) =
      unless_below from n _
      (unless t from n place (Some session) (decided_at x.book from n) _
      (either (session.epoch == x.book.epoch) _ (of_old_epoch t from n place session x) (committing t place stamp session (sitting_in x session from n)) (quiet x refl)))
  serving t (Drop from to n) = quiet x refl
  serving t (Data m) = quiet x refl
  serving t (Stable from to k) = quiet x refl
  serving t (Installed from to k) = quiet x refl
  serving t (Fetch from to k) = quiet x refl
  serving t (OpReply from to n place session value) = quiet x refl
  serving t (Outcome from to n place session decision) = quiet x refl

-- the records of a step
pub tcom_grows : (program : Program) (t : ComId) (x : Tcom) (p : Packet) → Grows x (tcom_step program t x p)
tcom_grows program t x p = either x (fits_tcom program t p) (served t x p) (silent x) (serving x t p) (quiet x x refl)

-- A Tcom's step keeps its values, and its records have their bytes, where no limit is passed.
use Rattle.std.proofs.Common.{◌≡◌, refl, sym, subst, ℕ, ◌+◌, ◌<◌, ◌≤◌, ◌^◌, ◌==◌, nat_le, nat_lt, max, Bool, true, false, cond, ◌||◌, ℤ, pos, List, [], ◌∷◌, ◌++◌, map, length, get_or, slice_get, Option, Some, None, option_and_then, arith}
use Rattle.std.specs.Prelude.{⊤, MatchOption, slice_set}
use Rattle.std.specs.List.{AllByRecursion}
use Rattle.std.proofs.lemmas.List.{length-append}
use Rattle.std.proofs.lemmas.Option.{same_Some, unwrap_or-slice_get}
use Rattle.ic_base.specs.declared.limits.TheConstants.{GREATEST_NUMBER, KEYS, REQUESTS}
use Rattle.ic_base.specs.declared.messages.ComId.{ComId}
use Rattle.ic_base.specs.declared.messages.Packet.{Packet}
use Rattle.ic_base.specs.declared.messages.Packet.TheVariants.{Op, Commit}
use Rattle.ic_base.specs.declared.messages.Request.{Request}
use Rattle.ic_base.specs.declared.messages.Request.TheVariants.{Get, Put}
use Rattle.ic_base.specs.declared.messages.Session.{Session}
use Rattle.ic_base.specs.declared.record.Record.{Record}
use Rattle.ic_base.specs.declared.record.Record.TheVariants as records
use Rattle.ic_base.specs.declared.record.Record.TheVariants.{Epoch, Decided}
use Rattle.ic_base.specs.declared.scenario.Component.{Component}
use Rattle.ic_base.specs.declared.scenario.Program.{Program}
use Rattle.ic_base.specs.Programs.{declares, is_pcom, is_a_pcom, is_number, has_key}
use Rattle.def_log.specs.Spelling.{Fits, IsCount, IsWrite}
use Rattle.def_step.specs.Packets.{fits_tcom, key_of}
use Rattle.def_step.specs.Room.{has_no_room}
use Rattle.def_step.specs.Tcom.{Tcom, Book, Sitting, Served, write_all, booked, book, book_fits, book_of, first_book, first_ledger, last_write, answer_to, writes_with, done, silent, reply_at, on_drop, replaced, opened_sitting, answers_with, sits_for, tcom_step, served, in_next_epoch, in_next_epoch_if, recover_tcom, fresh_tcom, is_tcom_full}
use Rattle.law_replay.proofs.Lists.{none-some, true-false, front, back}
use Rattle.law_replay.proofs.Members.{found}
use Rattle.law_settle.proofs.Images.{bound}
use Rattle.law_settle.proofs.Tables.{all-push, all-filter, all-map}
use Rattle.law_settle.proofs.Walks.{all-at}
use Rattle.law_tcom.proofs.Leaves.{lower, step-leaves}
use Rattle.law_run.specs.ProgramBytes.{IsWord, AreWords, HasBytes, ComponentFits, RequestFits}
use Rattle.law_run.specs.WorldBytes.{SittingFits, TcomFits, PacketFits}
use Rattle.law_run.proofs.Deciding.{count-is}
use Rattle.law_run.proofs.HasImages.{all-has}
use Rattle.law_run.proofs.Hists.{declared-com}
use Rattle.law_run.proofs.Plays.{all-set, value-word}

-- ledgers -----------------------------------------------------------------------------------------

written-words : (ledger : List ℤ) (writes : List (ℕ × ℤ)) → AreWords ledger → AllByRecursion IsWrite writes → AreWords (write_all ledger writes)
written-words ledger [] h k = h
written-words ledger (w ∷ ws) h k = written-words (slice_set ledger w.0 w.1) ws (all-set IsWord ledger w.0 w.1 h k.0.1) k.1

booked-words : (b : Book) (r : Record) → AreWords b.ledger → Fits r → AreWords (booked b r).ledger
booked-words b (Epoch epoch) h k = h
booked-words b (Decided stamp c n writes) h k = written-words b.ledger writes h k.4
booked-words b (records.Take from n stamp) h k = h
booked-words b (records.TakeWhole from n stamp handler args) h k = h
booked-words b (records.Input stamp handler args) h k = h
booked-words b (records.Value n place session value) h k = h
booked-words b (records.Outcome stamp n abort) h k = h
booked-words b (records.Released to n) h k = h
booked-words b (records.Shown m) h k = h
booked-words b (records.Checkpoint image) h k = h

book-words : (program : Program) (t : ComId) (o : Option Book) (rs : List Record) (b : Book) → MatchOption o ⊤ (λ x. AreWords x.ledger) → AllByRecursion Fits rs → book program t o rs ≡ Some b → AreWords b.ledger
book-words program t o [] b h k e = subst (λ u. MatchOption u ⊤ (λ (x : Book). AreWords x.ledger)) e h
book-words program t o (r ∷ rs) b h k e = book-words program t (option_and_then (λ x. cond (book_fits program t x r) (Some (booked x r)) None) o) rs b (at o h) k.1 e
  where
    by : (x : Book) → AreWords x.ledger → (m : Bool) → MatchOption (cond m (Some (booked x r)) None) ⊤ (λ (y : Book). AreWords y.ledger)
    by x y true = booked-words x r y k.0
    by x y false = tt

    at : (u : Option Book) → MatchOption u ⊤ (λ (x : Book). AreWords x.ledger) → MatchOption (option_and_then (λ x. cond (book_fits program t x r) (Some (booked x r)) None) u) ⊤ (λ (x : Book). AreWords x.ledger)
    at None y = tt
    at (Some x) y = by x y (book_fits program t x r)

first-words : (program : Program) (t : ComId) → HasBytes program → AreWords (first_book program t).ledger
first-words program t bytes = at (slice_get program.components t.0) refl
  where
    at : (o : Option Component) → slice_get program.components t.0 ≡ o → AreWords (first_ledger o)
    at None e = tt
    at (Some d) e = all-map (λ x. IsWord x.1) IsWord (λ x. x.1) (λ x k. k) d.keys (all-at ComponentFits program.components t.0 d bytes.each e).first_keys

-- sessions ----------------------------------------------------------------------------------------

last-word : (writes : List (ℕ × ℤ)) (key : ℕ) (before : ℤ) → AllByRecursion IsWrite writes → IsWord before → IsWord (last_write writes key before)
last-word [] key before h k = k
last-word (w ∷ ws) key before h k = last-word ws key (cond (w.0 == key) w.1 before) h.1 (at (w.0 == key))
  where
    at : (b : Bool) → IsWord (cond b w.1 before)
    at true = h.0.1
    at false = k

get-word : (xs : List ℤ) (i : ℕ) → AreWords xs → IsWord (get_or xs i (pos 0))
get-word xs i h = subst IsWord (unwrap_or-slice_get xs i (pos 0)) (value-word xs i h)

answer-word : (ledger : List ℤ) (s : Sitting) (q : Request) → AreWords ledger → SittingFits s → RequestFits q → IsWord (answer_to ledger s q)
answer-word ledger s (Get key) h x k = last-word s.writes key (get_or ledger key (pos 0)) x.writes (get-word ledger key h)
answer-word ledger s (Put key z) h x k = k

-- a key of the Tcom has two bytes
key-low : (program : Program) (t : ComId) (key : ℕ) → HasBytes program → has_key program t key ≡ true → key < 2 ^ 16
key-low program t key bytes e = at (slice_get program.components t.0) refl e
  where
    less : (k n : ℕ) → nat_lt k n ≡ true → n ≤ KEYS → k < 2 ^ 16
    less k n f h = let lt = under k n f in omega (arith, lt, h)
      where
        under : (a b : ℕ) → nat_lt a b ≡ true → a < b
        under a b g = grind arith

    at : (o : Option Component) → slice_get program.components t.0 ≡ o → declares (λ d. nat_lt key (length d.keys)) o ≡ true → key < 2 ^ 16
    at None is f = true-false f
    at (Some d) is f = less key (length d.keys) f (all-at ComponentFits program.components t.0 d bytes.each is).keys

done-fits : (program : Program) (t : ComId) (ledger : List ℤ) (s : Sitting) (q : Request) → HasBytes program → AreWords ledger → SittingFits s → RequestFits q → has_key program t (key_of q) ≡ true → length s.answers < REQUESTS → SittingFits (done ledger s q)
done-fits program t ledger s q bytes h x k own lt = record {
  answers = all-push IsWord s.answers (answer_to ledger s q) x.answers (answer-word ledger s q h x k);
  few = one (length s.answers) (length (s.answers ++ answer_to ledger s q ∷ [])) lt (length-append s.answers (answer_to ledger s q ∷ []));
  writes = wrote q k own;
  fewer = more q;
}
  where
    one : (n m : ℕ) → n < REQUESTS → m ≡ n + 1 → m ≤ REQUESTS
    one n m f e = omega (arith, f, e)

    wrote : (r : Request) → RequestFits r → has_key program t (key_of r) ≡ true → AllByRecursion IsWrite (writes_with s r)
    wrote (Get key) f g = x.writes
    wrote (Put key z) f g = all-push IsWrite s.writes (key, z) x.writes (key-low program t key bytes g, f)

    more : (r : Request) → length (writes_with s r) ≤ length (s.answers ++ answer_to ledger s q ∷ [])
    more (Get key) = omega (arith, x.fewer, length-append s.answers (answer_to ledger s q ∷ []))
    more (Put key z) = omega (arith, x.fewer, length-append s.answers (answer_to ledger s q ∷ []), length-append s.writes ((key, z) ∷ []))

-- steps -------------------------------------------------------------------------------------------

-- of what is served, where the stamp doesn't pass its limit
pub record ServedFits (v : Served) : Type 0 where
  pub tcom : v.tcom.book.clock ≤ GREATEST_NUMBER → TcomFits v.tcom
  pub puts : AllByRecursion PacketFits v.puts

lowered-fits : (x : Tcom) (c : ComId) (n : ℕ) → TcomFits x → TcomFits (lower x c n)
lowered-fits x c n h = record { records = h.records; ledger = h.ledger; sittings = all-filter SittingFits _ x.sittings h.sittings }

dropped-fits : (x : Tcom) (c : ComId) (n : ℕ) → TcomFits x → TcomFits (on_drop x c n)
dropped-fits x c n h = record { records = h.records; ledger = h.ledger; sittings = all-filter SittingFits _ x.sittings h.sittings }

replaced-fits : (x : Tcom) (s : Sitting) → TcomFits x → SittingFits s → TcomFits (replaced x s)
replaced-fits x s h k = record { records = h.records; ledger = h.ledger; sittings = each x.sittings h.sittings }
  where
    one : (r : Sitting) → SittingFits r → (b : Bool) → SittingFits (cond b s r)
    one r y true = k
    one r y false = y

    each : (rs : List Sitting) → AllByRecursion SittingFits rs → AllByRecursion SittingFits (map (λ r. cond (sits_for s.peer s.n r) s r) rs)
    each [] y = tt
    each (r ∷ rs) y = (one r y.0 (sits_for s.peer s.n r), each rs y.1)

just-answers : (x : Tcom) (p : Packet) → TcomFits x → PacketFits p → ServedFits (answers_with x p)
just-answers x p h k = record { tcom = λ le. h; puts = (k, tt) }

pub served-fits : (program : Program) (t : ComId) (x : Tcom) (p : Packet) → HasBytes program → fits_tcom program t p ≡ true → PacketFits p → TcomFits x → ServedFits (tcom_step program t x p)
served-fits program t x p bytes ok got h = step-leaves program t x p ServedFits (record {
  quiet = record { tcom = λ le. h; puts = tt };
  told = λ c n place session stamp asks e least. just-answers x _ h tt;
  dropped = λ c to n e. record { tcom = λ le. dropped-fits x c n h; puts = tt };
  first_again = λ c to n q s e least sits.
      let s-fits = all-has SittingFits x.sittings s h.sittings (found (sits_for c n) x.sittings s sits).0 in just-answers (lower x c n) (reply_at t s 0) (lowered-fits x c n h) (get-word s.answers 0 s-fits.answers);
  first_held = λ c to n q r e least holds. just-answers (lower x c n) _ (lowered-fits x c n h) tt;
  first_done = λ c to n q e least known free none holds.
      let low = lowered-fits x c n h in
      let s = done x.book.ledger (opened_sitting (lower x c n) c n) q in
      let fit = done-fits program t x.book.ledger (opened_sitting (lower x c n) c n) q bytes h.ledger (new c n) (request q e) known (omega arith) in
      record { tcom = λ le. record { records = low.records; ledger = low.ledger; sittings = all-push SittingFits (lower x c n).sittings s low.sittings fit }; puts = (get-word s.answers 0 fit.answers, tt) };
  again = λ to place q s e there lt. just-answers x (reply_at t s place) h (get-word s.answers place (all-has SittingFits x.sittings s h.sittings there).answers);
  held = λ to place q s r e there holds. just-answers x _ h tt;
  next = λ to q s e there lt known holds.
      let fit = done-fits program t x.book.ledger s q bytes h.ledger (all-has SittingFits x.sittings s h.sittings there) (request q e) known lt in
      just-answers (replaced x (done x.book.ledger s q)) (reply_at t (done x.book.ledger s q) (length s.answers)) (replaced-fits x (done x.book.ledger s q) h fit) (get-word (done x.book.ledger s q).answers (length s.answers) fit.answers);
  older = λ c n place session asks e free. just-answers x _ h tt;
  committed = λ to place stamp s e there pcom.
      let fit = all-has SittingFits x.sittings s h.sittings there in
      let own = within s.peer s.n e in
      record {
        tcom = λ le. record {
          records = all-push Fits x.records (Decided (max x.book.clock stamp + 1) s.peer s.n s.writes) h.records (le, declared-com program s.peer (λ d. is_pcom d.kind) bytes pcom, own, most (length s.writes) (length s.answers) fit.fewer fit.few, fit.writes);
          ledger = written-words x.book.ledger s.writes h.ledger fit.writes;
          sittings = all-filter SittingFits _ x.sittings h.sittings;
        };
        puts = (tt, tt);
      };
})
  where
    new : (c : ComId) (n : ℕ) → SittingFits (opened_sitting (lower x c n) c n)
    new c n = record { answers = tt; few = omega arith; writes = tt; fewer = omega arith }

    request : {c to : ComId} {n place : ℕ} {session : Option Session} (q : Request) → p ≡ Op c to n place session q → RequestFits q
    request q e = subst PacketFits e got

    within : (c : ComId) (n : ℕ) {to : ComId} {place : ℕ} {session : Session} {stamp : ℕ} → p ≡ Commit c to n place session stamp → IsCount n
    within c n e = count-is n (front (is_number n) _ (back (is_a_pcom program c) _ (subst (λ w. fits_tcom program t w ≡ true) e ok)))

    most : (a b : ℕ) → a ≤ b → b ≤ REQUESTS → a ≤ REQUESTS
    most a b f g = omega (arith, f, g)

-- a packet that doesn't fit changes nothing
pub step-fits : (program : Program) (t : ComId) (x : Tcom) (p : Packet) → HasBytes program → PacketFits p → TcomFits x → ServedFits (tcom_step program t x p)
step-fits program t x p bytes got h = at (fits_tcom program t p) refl
  where
    at : (b : Bool) → fits_tcom program t p ≡ b → ServedFits (tcom_step program t x p)
    at true ok = served-fits program t x p bytes ok got h
    at false ok = subst (λ b. ServedFits (cond b (served t x p) (silent x))) (sym ok) (record { tcom = λ le. h; puts = tt })

-- no stamp passes its limit
pub clock-low : (program : Program) (t : ComId) (size : ℕ) (x : Tcom) (p : Packet) → is_tcom_full program t size x p ≡ false → (tcom_step program t x p).tcom.book.clock ≤ GREATEST_NUMBER
clock-low program t size x p e = low (has_no_room size (tcom_step program t x p).adds) (tcom_step program t x p).tcom.book.clock (nat_lt GREATEST_NUMBER (tcom_step program t x p).tcom.counter) e
  where
    under : (k : ℕ) → nat_lt GREATEST_NUMBER k ≡ false → k ≤ GREATEST_NUMBER
    under k f = grind arith

    low : (a : Bool) (k : ℕ) (b : Bool) → a || (nat_lt GREATEST_NUMBER k || b) ≡ false → k ≤ GREATEST_NUMBER
    low true k b f = true-false (sym f)
    low false k b f = under k (first (nat_lt GREATEST_NUMBER k) b f)
      where
        first : (m n : Bool) → m || n ≡ false → m ≡ false
        first true n g = g
        first false n g = refl

-- recoveries --------------------------------------------------------------------------------------

pub fresh-fits : (program : Program) (t : ComId) → HasBytes program → TcomFits (fresh_tcom program t)
fresh-fits program t bytes = record { records = tt; ledger = first-words program t bytes; sittings = tt }

pub recovered-fits : (program : Program) (t : ComId) (size : ℕ) (log : List Record) (x : Tcom) → HasBytes program → AllByRecursion Fits log → recover_tcom program t size log ≡ Some x → TcomFits x
recovered-fits program t size log x bytes fit e =
    let b = bound (book_of program t log) (in_next_epoch_if size log) x e in
    at b.0 (book-words program t (Some (first_book program t)) log b.0 (first-words program t bytes) fit b.1) (has_no_room size (Epoch (b.0.epoch + 1) ∷ [])) (nat_le GREATEST_NUMBER b.0.epoch) refl b.2
  where
    next : (k : ℕ) → nat_le GREATEST_NUMBER k ≡ false → k + 1 ≤ GREATEST_NUMBER
    next k f = grind arith

    at : (b : Book) → AreWords b.ledger → (full last : Bool) → nat_le GREATEST_NUMBER b.epoch ≡ last → cond (full || last) None (Some (in_next_epoch log b)) ≡ Some x → TcomFits x
    at b words true last is f = none-some x f
    at b words false true is f = none-some x f
    at b words false false is f = subst TcomFits (same_Some (in_next_epoch log b) x f) (record { records = all-push Fits log (Epoch (b.epoch + 1)) fit (next b.epoch is); ledger = words; sittings = tt })

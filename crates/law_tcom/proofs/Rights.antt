-- What a step puts out is right.
use Rattle.std.proofs.Common.{◌≡◌, ◌≢◌, refl, ◌∙◌, ap, sym, subst, ℕ, ◌+◌, ◌<◌, max, false, not, ◌&&◌, ◌==◌, [], ◌∷◌, ◌++◌, length, pos, Option, Some, None, arith, ◌⊎◌, inl, inr}
use Rattle.std.specs.Prelude.{Contains}
use Rattle.std.specs.List.{list_any}
use Rattle.std.proofs.lemmas.List.Elements.{Contains-push}
use Rattle.std.proofs.lemmas.Option.{slice_get-get_or}
use Rattle.ic_base.specs.declared.messages.ComId.{ComId}
use Rattle.ic_base.specs.declared.messages.Session.{Session}
use Rattle.ic_base.specs.declared.messages.Request.{Request}
use Rattle.ic_base.specs.declared.messages.AbortCause.TheVariants.{Held, Epoch as Epochs}
use Rattle.ic_base.specs.declared.messages.Decision.TheVariants.{Committed, Aborted}
use Rattle.ic_base.specs.declared.messages.Packet.{Packet}
use Rattle.ic_base.specs.declared.messages.Packet.TheVariants.{Op, Outcome}
use Rattle.ic_base.specs.declared.record.Record.TheVariants.{Decided}
use Rattle.def_step.specs.Packets.{key_of}
use Rattle.def_step.specs.Tcom.{Tcom, Sitting, Served, booked, sits_for, holder, is_below, without, silent, answers_with, reply_at, replaced, opened_sitting, on_drop, of_old_epoch, done}
use Rattle.law_tcom.specs.Engine.{Asks, IsRight, PutsAreRight}
use Rattle.law_tcom.proofs.Books.{decision-in, decided-in}
use Rattle.law_tcom.proofs.Moves.{sits-is, sits-own}
use Rattle.law_tcom.proofs.Leaves.{lower, step-leaves}
use Rattle.law_tcom.proofs.Serving.{done-longer, done-there, kept-still}
use Rattle.law_replay.proofs.Lists.{self-number as self, clash, empty, equal-numbers, front, back, head-or-tail}
use Rattle.law_replay.proofs.Members.{any-has, filter-in, found}

abbrev Rights : ComId → Packet → Served → Type 0
Rights t p v = (q : Packet) → Contains v.puts q → IsRight t v.tcom p q

-- the one packet that is put out
one : (t : ComId) (p : Packet) (y : Tcom) (q : Packet) → IsRight t y p q → Rights t p (answers_with y q)
one t p y q is r h = at (head-or-tail q r [] h)
  where
    at : (q ≡ r) ⊎ Contains [] r → IsRight t y p r
    at (inl e) = subst (IsRight t y p) e is
    at (inr n) = empty r n

quiet : (t : ComId) (p : Packet) (y : Tcom) → Rights t p (silent y)
quiet t p y r h = empty r h

reply : (t : ComId) (p : Packet) (y : Tcom) (s : Sitting) (place : ℕ) (to : ComId) (asked : Option Session) (q : Request) → Contains y.sittings s → place < length s.answers → p ≡ Op s.peer to s.n place asked q → (asked ≡ None) ⊎ (asked ≡ Some s.session) → Rights t p (answers_with y (reply_at t s place))
reply t p y s place to asked q there within e own = one t p y (reply_at t s place) (refl, (to, asked, q, e, own), (s, there, refl, refl, refl, slice_get-get_or s.answers place (pos 0) within))

-- another session has the key
holds-it : (x : Tcom) (c : ComId) (n key : ℕ) (r : Sitting) → holder x c n key ≡ Some r → Contains x.sittings r × (r.peer ≡ c → r.n ≡ n → ⊥) × Contains r.keys key
holds-it x c n key r e =
    let z = found (λ s. list_any (λ k. k == key) s.keys && not (sits_for c n s)) x.sittings r e in
    let other = back (list_any (λ k. k == key) r.keys) (not (sits_for c n r)) z.1 in
    let had = any-has (λ k. k == key) r.keys (front (list_any (λ k. k == key) r.keys) (not (sits_for c n r)) z.1) in
    (z.0, (λ p m. clash (not (sits_for c n r)) other (ap (λ d. not (sits_for d n r)) (sym p) ∙ ap (λ i. not (sits_for r.peer i r)) (sym m) ∙ ap not (sits-own r))), subst (Contains r.keys) (equal-numbers had.0 key had.2) had.1)

refuses : (t : ComId) (p : Packet) (y : Tcom) (c : ComId) (n place : ℕ) (session : Option Session) (to : ComId) (q : Request) (r : Sitting) → p ≡ Op c to n place session q → holder y c n (key_of q) ≡ Some r → Rights t p (answers_with y (Outcome t c n place session (Aborted (Held r.peer r.n))))
refuses t p y c n place session to q r e h = let z = holds-it y c n (key_of q) r h in
    one t p y (Outcome t c n place session (Aborted (Held r.peer r.n))) (refl, inl (to, q, e), (to, place, q, e, (r, z.0, refl, refl, z.1, z.2)))

older : (t : ComId) (p : Packet) (y : Tcom) (c : ComId) (n place : ℕ) (session : Session) → Asks p c n place (Some session) → (session.epoch == y.book.epoch) ≡ false → Rights t p (of_old_epoch t c n place session y)
older t p y c n place session asks differ = one t p y (Outcome t c n place (Some session) (Aborted (Epochs session.epoch y.book.epoch))) (refl, asks, (session, refl, refl, refl, apart))
  where
    apart : session.epoch ≢ y.book.epoch
    apart e = clash (y.book.epoch == y.book.epoch) (self y.book.epoch) (subst (λ i. (i == y.book.epoch) ≡ false) e differ)

pub puts_are_right : PutsAreRight
puts_are_right program t x sent received p q f h = step-leaves program t x p (Rights t p) (record {
  quiet = quiet t p x;
  told = λ c n place session stamp asks e least. one t p x (Outcome t c n place session (Committed stamp)) (refl, asks, decided-in program t x.records x.book c n stamp f.books e);
  dropped = λ c to n e. quiet t p (on_drop x c n);
  first_again = λ c to n r s e least is. let z = found (sits_for c n) x.sittings s is in let own = sits-is c n s z.1 in
      reply t p (lower x c n) s 0 to None r (filter-in (λ w. not (is_below c n w)) x.sittings s z.0 (ap not (kept-still c n s own.1))) (f.sessions s z.0).has_answer
      (e ∙ ap (λ d. Op d to n 0 None r) own.0 ∙ ap (λ m. Op s.peer to m 0 None r) own.1) (inl refl);
  first_held = λ c to n r w e least is. refuses t p (lower x c n) c n 0 None to r w e is;
  first_done = λ c to n r e least key free none unheld.
      reply t p (record (lower x c n) { counter = x.counter + 1; sittings = (lower x c n).sittings ++ done x.book.ledger (opened_sitting (lower x c n) c n) r ∷ [] }) (done x.book.ledger (opened_sitting (lower x c n) c n) r) 0 to None r
      (Contains-push (lower x c n).sittings (done x.book.ledger (opened_sitting (lower x c n) c n) r)) (omega arith) e (inl refl);
  again = λ to place r s e there lt. reply t p x s place to (Some s.session) r there lt e (inr refl);
  held = λ to place r s w e there is. refuses t p x s.peer s.n place (Some s.session) to r w e is;
  next = λ to r s e there small key unheld. reply t p (replaced x (done x.book.ledger s r)) (done x.book.ledger s r) (length s.answers) to (Some s.session) r (done-there x s r there) (done-longer x.book.ledger s r) e (inr refl);
  older = λ c n place session asks differ free. older t p x c n place session asks differ;
  committed = λ to place stamp s e there pcom.
      one t p (record (without x s.peer s.n) { records = x.records ++ Decided (max x.book.clock stamp + 1) s.peer s.n s.writes ∷ []; book = booked x.book (Decided (max x.book.clock stamp + 1) s.peer s.n s.writes) })
      (Outcome t s.peer s.n place (Some s.session) (Committed (max x.book.clock stamp + 1)))
      (refl, inr (to, s.session, stamp, refl, e), decision-in x.records [] (max x.book.clock stamp + 1) s.peer s.n s.writes);
}) q h

-- A Tcom over its whole life.
use Rattle.std.proofs.Common.{◌≡◌, refl, ◌∙◌, ap, sym, subst, ℕ, List, [], ◌∷◌, ◌++◌, slice_get, ℤ, Option, Some, None, option_map, arith}
use Rattle.std.specs.Prelude.{Contains, IsSomeAnd}
use Rattle.std.proofs.lemmas.Option.{same_Some}
use Rattle.ic_base.specs.declared.messages.ComId.{ComId}
use Rattle.ic_base.specs.declared.messages.Packet.{Packet}
use Rattle.ic_base.specs.declared.scenario.Program.{Program}
use Rattle.ic_base.specs.declared.record.Record.{Record}
use Rattle.def_play.specs.Ledger.{answers_on}
use Rattle.def_step.specs.Packets.{receiver_of}
use Rattle.def_step.specs.Tcom.{Tcom, Book, book_of, recover_tcom, tcom_step}
use Rattle.def_facts.specs.Tcom.{DecidedFacts, TcomStateFacts}
use Rattle.def_facts.specs.Live.{LiveTcomFacts}
use Rattle.law_tcom.specs.Lifetime.{Life, first_life, turned, lives, IsSerial, LivesAreSerial}
use Rattle.law_tcom.proofs.Books.{books_are_of_logs, decided_at_most_once}
use Rattle.law_tcom.proofs.Recovering.{steps_keep_states, recoveries_keep_states}
use Rattle.law_tcom.proofs.Lives.{first_facts_hold, steps_keep_live, recoveries_keep_live}
use Rattle.law_replay.proofs.Lists.{none-some, in-head, in-tail}

record Lives (program : Program) (t : ComId) (l : Life) : Type 0 where
  state : TcomStateFacts program t l.tcom l.sent l.received
  live : LiveTcomFacts program t l.tcom.records l.sent l.received

none-stays : (program : Program) (t : ComId) (es : List (Option Packet)) → lives program t None es ≡ None
none-stays program t [] = refl
none-stays program t (e ∷ es) = none-stays program t es

turns : (program : Program) (t : ComId) (l m : Life) (e : Option Packet) → ((p : Packet) → e ≡ Some p → receiver_of p ≡ t) → turned program t l e ≡ Some m → Lives program t l → Lives program t m
turns program t l m (Some p) here e f =
    subst (Lives program t) (same_Some (record { tcom = (tcom_step program t l.tcom p).tcom; sent = l.sent ++ (tcom_step program t l.tcom p).puts; received = l.received ++ p ∷ [] }) m e)
    (record { state = steps_keep_states program t l.tcom l.sent l.received p (here p refl) f.state; live = steps_keep_live program t l.tcom l.sent l.received p (here p refl) f.state f.live })
turns program t l m None here e f = at (recover_tcom program t 0 l.tcom.records) refl e
  where
    at : (o : Option Tcom) → recover_tcom program t 0 l.tcom.records ≡ o → option_map (λ (x : Tcom). record { tcom = x; sent = l.sent; received = l.received }) o ≡ Some m → Lives program t m
    at None is g = none-some m g
    at (Some x) is g =
        subst (Lives program t) (same_Some (record { tcom = x; sent = l.sent; received = l.received }) m g)
        (record { state = recoveries_keep_states program t 0 0 l.tcom.records x l.sent l.received is f.live.logs; live = recoveries_keep_live program t 0 l.tcom.records x l.sent l.received is f.live })

along : (program : Program) (t : ComId) (es : List (Option Packet)) (l m : Life) → ((p : Packet) → Contains es (Some p) → receiver_of p ≡ t) → lives program t (Some l) es ≡ Some m → Lives program t l → Lives program t m
along program t [] l m here e f = subst (Lives program t) (same_Some l m e) f
along program t (w ∷ es) l m here e f = at (turned program t l w) refl e (λ k. along program t es k m (λ p h. here p (in-tail w (Some p) es h)))
  where
    at : (o : Option Life) → turned program t l w ≡ o → lives program t o es ≡ Some m → ((k : Life) → lives program t (Some k) es ≡ Some m → Lives program t k → Lives program t m) → Lives program t m
    at None is g more = none-some m (sym (none-stays program t es) ∙ g)
    at (Some k) is g more = more k g (turns program t l k w (λ p same. here p (subst (λ z. Contains (w ∷ es) z) same (in-head w es))) is f)

-- a decision's facts, with the book of what is before it
serial : (program : Program) (t : ComId) (l : Life) (pre : List Record) (stamp : ℕ) (c : ComId) (n : ℕ) (writes : List (ℕ × ℤ)) (o : Option Book) → book_of program t pre ≡ o → IsSomeAnd o (λ b. DecidedFacts t 0 l.sent l.received pre b stamp c n writes) → IsSerial program t l pre stamp c n writes
serial program t l pre stamp c n writes None e f = absurd f
serial program t l pre stamp c n writes (Some b) e f = record {
  place = f.place;
  session = f.session;
  asked_at = f.asked_at;
  asked = f.commit_received;
  stamp_above = f.stamp_above (omega arith);
  requests = f.requests;
  requested = f.requests_received;
  writes_are = f.writes_are;
  answered = λ i v h. ap (λ m. slice_get (answers_on m f.requests) i) (sym (books_are_of_logs program t pre b e).ledger) ∙ f.replies_are i v h;
}

pub lives_are_serial : LivesAreSerial
lives_are_serial program t es l here e =
    let first = first_facts_hold program t in
    let f = along program t es (first_life program t) l here e (record { state = first.0; live = first.1 }) in
    record {
      ledger = (books_are_of_logs program t l.tcom.records l.tcom.book f.state.books).ledger;
      once = λ c n. decided_at_most_once program t l.tcom.records l.tcom.book c n f.state.books;
      serial = λ pre post stamp c n writes st. serial program t l pre stamp c n writes (book_of program t pre) refl (f.live.logs.decisions pre post stamp c n writes st);
      told = f.live.logs.commits_stand;
      one_owner = f.live.one_owner;
      state = f.state;
      live = f.live;
    }

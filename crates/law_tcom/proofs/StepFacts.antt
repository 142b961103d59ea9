-- A step of a Tcom is made of the moves.
use Rattle.std.proofs.Common.{◌≡◌, refl, ◌∙◌, ap, sym, subst, ℕ, ◌<◌, ◌≤◌, Bool, true, false, List, [], ◌∷◌, ◌++◌, length, slice_get, get_or, ℤ, pos, Option, Some, arith, ◌⊎◌, inl, inr}
use Rattle.std.specs.Prelude.{Contains}
use Rattle.std.proofs.lemmas.List.{append-nil}
use Rattle.std.proofs.lemmas.List.Elements.{Contains-push_cases}
use Rattle.std.proofs.lemmas.Option.{same_Some, slice_get-get_or}
use Rattle.ic_base.specs.declared.messages.ComId.{ComId}
use Rattle.ic_base.specs.declared.messages.Session.{Session}
use Rattle.ic_base.specs.declared.messages.Decision.{Decision}
use Rattle.ic_base.specs.declared.messages.Packet.{Packet}
use Rattle.ic_base.specs.declared.messages.Packet.TheVariants.{OpReply, Outcome}
use Rattle.ic_base.specs.declared.scenario.Program.{Program}
use Rattle.def_step.specs.Tcom.{Tcom, Sitting, Served, silent, answers_with, reply_at}
use Rattle.def_facts.specs.Logs.{epoch_of}
use Rattle.def_facts.specs.Tcom.{TcomStateFacts, TcomLogFacts}
use Rattle.law_tcom.proofs.Books.{books_are_of_logs, undecided-none}
use Rattle.law_tcom.proofs.Moves.{more-comes, replied}
use Rattle.law_tcom.proofs.Logs.{MayBePut, log-puts}
use Rattle.law_replay.proofs.Lists.{clash}

-- the facts of the state, and those of the log where these are asked for
pub record Kept (known : Bool) (program : Program) (t : ComId) (old : ℕ) (x : Tcom) (sent received : List Packet) : Type 0 where
  pub within : old ≤ length x.records
  pub state : TcomStateFacts program t x sent received
  pub log : known ≡ true → TcomLogFacts program t old x.records sent received

abbrev pub After : Bool → Program → ComId → ℕ → List Packet → List Packet → Served → Type 0
After known program t old sent received v = Kept known program t old v.tcom (sent ++ v.puts) received

-- nothing is put out
pub stays : (known : Bool) (program : Program) (t : ComId) (old : ℕ) (x : Tcom) (sent received : List Packet) → Kept known program t old x sent received → After known program t old sent received (silent x)
stays known program t old x sent received k = subst (λ l. Kept known program t old x l received) (sym (append-nil sent)) k

pub is_reply : Packet → Bool
is_reply (OpReply from c n place session v) = true
is_reply _ = false

-- an outcome is put out
pub tells : (known : Bool) (program : Program) (t : ComId) (old : ℕ) (x : Tcom) (sent received : List Packet) (c : ComId) (n place : ℕ) (session : Option Session) (d : Decision) →
    (known ≡ true → MayBePut t x.records old sent received (Outcome t c n place session d)) → Kept known program t old x sent received → After known program t old sent received (answers_with x (Outcome t c n place session d))
unfolding is_reply
tells known program t old x sent received c n place session d may k = record {
  within = k.within;
  state = more-comes program t x sent (sent ++ Outcome t c n place session d ∷ []) received received (λ p h. h) (λ e m i s v h. old_reply e m i s v (Contains-push_cases sent (Outcome t c n place session d) (OpReply t e m i s v) h)) k.state;
  log = λ z. log-puts program t old x.records sent received (Outcome t c n place session d) (may z) (k.log z);
}
  where
    old_reply : (e : ComId) (m i : ℕ) (s : Session) (v : ℤ) → Contains sent (OpReply t e m i s v) ⊎ (Outcome t c n place session d ≡ OpReply t e m i s v) → Contains sent (OpReply t e m i s v)
    old_reply e m i s v (inl h) = h
    old_reply e m i s v (inr f) = clash false (ap is_reply f) refl

-- an answer of a session is put out
pub answers : (known : Bool) (program : Program) (t : ComId) (old : ℕ) (x : Tcom) (sent received : List Packet) (s : Sitting) (place : ℕ) → Contains x.sittings s → place < length s.answers →
    Kept known program t old x sent received → After known program t old sent received (answers_with x (reply_at t s place))
answers known program t old x sent received s place there within k =
    let v = get_or s.answers place (pos 0) in
    let at : slice_get s.answers place ≡ Some v = slice_get-get_or s.answers place (pos 0) within in
    let f = k.state.sessions s there in
    let b = books_are_of_logs program t x.records x.book k.state.books in
    record {
      within = k.within;
      state = replied program t x sent received s place v there at k.state;
      log = λ z. log-puts program t old x.records sent received (OpReply t s.peer s.n place s.session v)
          (now b.epoch f.in_epoch, (λ w h. same_Some v w (sym at ∙ f.replies_are place w h)), (λ stamp h. undecided-none program t x.records x.book s.peer s.n stamp k.state.books f.undecided h)) (k.log z);
    }
  where
    now : x.book.epoch ≡ epoch_of x.records → s.session.epoch ≡ x.book.epoch → s.session.epoch ≤ epoch_of x.records
    now e f = omega (arith, e, f)

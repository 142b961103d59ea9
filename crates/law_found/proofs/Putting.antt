-- The facts of a Tcom over found logs, and the whole.
use Rattle.std.proofs.Common.{◌≡◌, refl, ◌∙◌, ap, sym, subst, ℕ, zero, suc, ◌<◌, Bool, true, false, cond, ◌&&◌, ◌||◌, ◌==◌, List, [], ◌∷◌, ◌++◌, length, take, slice_get, ℤ, Some, None, arith, ◌⊎◌, inl, inr}
use Rattle.std.specs.Prelude.{Contains, IsTrue}
use Rattle.std.proofs.lemmas.List.{append_assoc, append-nil}
use Rattle.std.proofs.lemmas.Option.{same_Some}
use Rattle.ic_base.specs.declared.messages.ComId.{ComId}
use Rattle.ic_base.specs.declared.messages.Request.{Request}
use Rattle.ic_base.specs.declared.messages.Session.{Session}
use Rattle.ic_base.specs.declared.messages.Packet.{Packet}
use Rattle.ic_base.specs.declared.messages.Packet.TheVariants as packets
use Rattle.ic_base.specs.declared.played.Played.{Played}
use Rattle.ic_base.specs.declared.played.Played.TheVariants.{Asks, Ready, NeedFails, Ends}
use Rattle.ic_base.specs.declared.scenario.Program.{Program}
use Rattle.ic_base.specs.declared.record.Record.{Record}
use Rattle.ic_base.specs.declared.record.Record.TheVariants.{Take, TakeWhole, Input, Value, Outcome, Released, Shown, Checkpoint, Epoch, Decided}
use Rattle.ic_base.specs.Programs.{same_com, is_a_pcom, is_a_tcom}
use Rattle.def_plain.specs.Plain.{PlainWorld}
use Rattle.def_step.specs.Packets.{sender_of}
use Rattle.def_facts.specs.Logs.{Logs, log_at, is_kept, Got, in_places, decides_txn}
use Rattle.law_replay.proofs.Lists.{none-some, clash, self-com}
use Rattle.law_replay.proofs.Lists.{in-head, in-tail}
use Rattle.law_replay.proofs.Lists.{contains-split}
use Rattle.law_found.proofs.Sound.{decided-com, decides-tcom}
use Rattle.law_found.proofs.Past.{Origin}
use Rattle.law_found.proofs.Pcoms.{Found, its-pcom, of_pcom, sent-of}
use Rattle.law_found.proofs.Lasting.{reply-tcom}
use Rattle.def_play.specs.Ledger.{Talk, answers_on, AsksInTurn, heard, answer_on, ledger_after}
use Rattle.def_facts.specs.Logs.{receives_whole, receives_name}
use Rattle.def_facts.specs.Tcom.{is_answer}
use Rattle.def_step.specs.Replay.{has_image}
use Rattle.def_state.specs.Names.{Identity}
use Rattle.law_replay.proofs.Members.{mapped-keeps}

-- lists -----------------------------------------------------------------------------------------------

pub two-splits : {A : Type 0} (xs us : List A) (a b : A) (ys vs : List A) → xs ++ a ∷ ys ≡ us ++ b ∷ vs → (xs ≡ us) ⊎ (Contains us a ⊎ Contains xs b)
two-splits [] [] a b ys vs e = inl refl
two-splits {A} [] (u ∷ us) a b ys vs e = inr (inl (subst (Contains (u ∷ us)) (sym (ap head e)) (in-head u us)))
  where
    head : List A → A
    head [] = a
    head (x ∷ l) = x
two-splits {A} (x ∷ xs) [] a b ys vs e = inr (inr (subst (Contains (x ∷ xs)) (ap head e) (in-head x xs)))
  where
    head : List A → A
    head [] = x
    head (y ∷ l) = y
two-splits {A} (x ∷ xs) (u ∷ us) a b ys vs e = by (two-splits xs us a b ys vs (ap tail e))
  where
    head : List A → A
    head [] = x
    head (y ∷ l) = y

    tail : List A → List A
    tail [] = []
    tail (y ∷ l) = l

    by : (xs ≡ us) ⊎ (Contains us a ⊎ Contains xs b) → (x ∷ xs ≡ u ∷ us) ⊎ (Contains (u ∷ us) a ⊎ Contains (x ∷ xs) b)
    by (inl same) = inl (ap (λ y. y ∷ xs) (ap head e) ∙ ap (λ l. u ∷ l) same)
    by (inr (inl h)) = inr (inl (in-tail u a us h))
    by (inr (inr h)) = inr (inr (in-tail x b xs h))

pub first-got : (s : Session) (vs : List ℤ) → 0 < length vs → (g : Got) × (slice_get (in_places 0 s vs) 0 ≡ Some g) × (g.session ≡ s)
first-got s [] lt = absurd (omega (arith, lt))
first-got s (v ∷ vs) lt = (record { place = 0; session = s; value = v }, refl, refl)

pub answers-long : (ledger : List ℤ) (qs : List Request) → length (answers_on ledger qs) ≡ length qs
answers-long ledger [] = refl
answers-long ledger (q ∷ qs) = ap suc (answers-long (ledger_after ledger q) qs)

pub asks-request : (u v : ComId) (q r : Request) → Asks u q ≡ Asks v r → q ≡ r
asks-request u v q r e = ap (of q) e
  where
    of : Request → Played → Request
    of d (Asks t x) = x
    of d (Ready t) = d
    of d (NeedFails t line) = d
    of d (Ends vars sends outs) = d

-- a part that asks in turn asks its i-th request with the answers before it
pub asks-at : (play : List ℤ → Played) (t : ComId) (w : Talk) (qs : List Request) (i : ℕ) (q : Request) → AsksInTurn play t w qs → slice_get qs i ≡ Some q → (u : ComId) × (play (w.answers ++ take i (answers_on w.ledger qs)) ≡ Asks u q)
asks-at play t w [] i q h e = none-some q e
asks-at play t w (r ∷ qs) zero q h e = (h.0.0, ap play (append-nil w.answers) ∙ h.0.1 ∙ ap (Asks h.0.0) (same_Some r q e))
asks-at play t w (r ∷ qs) (suc i) q h e =
    let z = asks-at play t (heard w r) qs i q h.1 e in
    (z.0, ap play (sym (append_assoc w.answers (answer_on w.ledger r ∷ []) (take i (answers_on (ledger_after w.ledger r) qs)))) ∙ z.1)

-- who put out what --------------------------------------------------------------------------------------

pub kept-record : (log : List Record) (x : Identity) → is_kept log x ≡ true → (r : Record) × Contains log r × (of_pcom r ≡ true)
kept-record [] x e = clash false e refl
kept-record (r ∷ rs) x e = at (receives_whole x r) refl (receives_name x r) refl e (kept-record rs x)
  where
    whole-of : (q : Record) → receives_whole x q ≡ true → of_pcom q ≡ true
    whole-of (TakeWhole from k stamp handler args) f = refl
    whole-of (Take from k stamp) f = refl
    whole-of (Input stamp handler args) f = refl
    whole-of (Value n place session value) f = refl
    whole-of (Outcome stamp n abort) f = refl
    whole-of (Released to k) f = refl
    whole-of (Shown m) f = refl
    whole-of (Checkpoint image) f = refl
    whole-of (Epoch epoch) f = clash false f refl
    whole-of (Decided stamp c n writes) f = clash false f refl

    name-of : (q : Record) → receives_name x q ≡ true → of_pcom q ≡ true
    name-of (TakeWhole from k stamp handler args) f = refl
    name-of (Take from k stamp) f = refl
    name-of (Input stamp handler args) f = refl
    name-of (Value n place session value) f = refl
    name-of (Outcome stamp n abort) f = refl
    name-of (Released to k) f = refl
    name-of (Shown m) f = refl
    name-of (Checkpoint image) f = refl
    name-of (Epoch epoch) f = clash false f refl
    name-of (Decided stamp c n writes) f = clash false f refl

    at : (a : Bool) → receives_whole x r ≡ a → (b : Bool) → receives_name x r ≡ b → (a || (b && has_image rs)) || is_kept rs x ≡ true → (is_kept rs x ≡ true → (q : Record) × Contains rs q × (of_pcom q ≡ true)) → (q : Record) × Contains (r ∷ rs) q × (of_pcom q ≡ true)
    at true is b name f more = (r, in-head r rs, whole-of r is)
    at false is true name f more = (r, in-head r rs, name-of r name)
    at false is false name f more = let z = more f in (z.0, in-tail r z.0 rs z.1, z.2)

-- answers and outcomes come from Tcoms, all else from Pcoms
pub sender-is : (program : Program) (logs : Logs) (w : PlainWorld) → Found program logs w → (p : Packet) → Origin program logs w p → ((is_answer p ≡ true) × IsTrue (is_a_tcom program (sender_of p))) ⊎ ((is_answer p ≡ false) × IsTrue (is_a_pcom program (sender_of p)))
sender-is program logs w f (packets.Data m) o = inr (refl, (sent-of program logs w f m o).is_from)
sender-is program logs w f (packets.Stable from to k) o = absurd o
sender-is program logs w f (packets.Installed from to k) o =
    let z = contains-split (log_at logs to) (Released from k) o in
    let x = kept-record (log_at logs from) (record { peer = to; k = k }) (f.sound.released_kept to from z.0 z.1 k z.2) in
    inr (refl, its-pcom program logs w f from x.0 x.2 x.1)
sender-is program logs w f (packets.Fetch from to k) o = absurd o
sender-is program logs w f (packets.Op from to n place session q) o = inr (refl, its-pcom program logs w f from (Value n place o.session o.value) refl o.stands)
sender-is program logs w f (packets.OpReply from to n place session v) o = inl (refl, (reply-tcom program logs w f from to n place session v o).1)
sender-is program logs w f (packets.Commit from to n place session stamp) o =
    let d = mapped-keeps (decides_txn from n) (log_at logs to) (Decided o.stamp from n o.writes) o.stamp o.stands (ap (λ b. cond b (Some o.stamp) None) (both (same_com from from) (n == n) (self-com from) (self n))) in
    inr (refl, decided-com program logs w f.sound to from n o.stamp (decides-tcom program logs w f.list f.sound to from n o.stamp d) d)
  where
    both : (u v : Bool) → u ≡ true → v ≡ true → u && v ≡ true
    both true v p q = q
    both false v p q = p

    self : (m : ℕ) → (m == m) ≡ true
    self m = grind arith
sender-is program logs w f (packets.Outcome from to n place session d) o = inl (refl, subst (λ u. IsTrue (is_a_tcom program u)) o.is_tcom (decides-tcom program logs w f.list f.sound o.begun.tcom to n o.stamp o.decided))
sender-is program logs w f (packets.Drop from to n) o = absurd o

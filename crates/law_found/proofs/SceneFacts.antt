-- The facts of the buyer and of the clerk.
use Rattle.std.proofs.Common.{◌≡◌, refl, ◌∙◌, ap, sym, subst, ℕ, ◌<◌, pos, List, [], ◌∷◌, ◌++◌, Option, Some, None, option_and_then, arith}
use Rattle.std.specs.Prelude.{⊤, Contains, IsSome, IsSomeAnd, IsFalse, IsTrue, MatchOption}
use Rattle.std.specs.List.{AllByRecursion}
use Rattle.std.specs.declared.alloc.Global.{Global}
use Rattle.std.proofs.lemmas.List.{append_assoc}
use Rattle.ic_base.specs.declared.messages.ComId.{ComId}
use Rattle.ic_base.specs.declared.messages.Decision.TheVariants.{Committed, Aborted}
use Rattle.ic_base.specs.declared.messages.Msg.{Msg}
use Rattle.ic_base.specs.declared.messages.Packet.{Packet}
use Rattle.ic_base.specs.declared.messages.Packet.TheVariants as packets
use Rattle.ic_base.specs.declared.messages.Session.{Session}
use Rattle.ic_base.specs.declared.scenario.Program.{Program}
use Rattle.ic_base.specs.declared.record.Record.{Record}
use Rattle.ic_base.specs.declared.record.Record.TheVariants.{Take, TakeWhole, Input, Value, Outcome, Released, Checkpoint}
use Rattle.def_plain.specs.Scenes.{com_at}
use Rattle.def_state.specs.Fits.{failed_line}
use Rattle.def_state.specs.Hist.{Hist, Begun, opened, standing_of}
use Rattle.def_state.specs.Image.{image_of}
use Rattle.def_state.specs.Mirrors.{vol_of}
use Rattle.def_facts.specs.Logs.{contents_in, has_commit}
use Rattle.def_facts.specs.Pcom.{state_after, begun_in, place_of, is_need, PrefixFacts, PcomLogFacts, IsTrueOf, IsNeedOutcome}
use Rattle.law_replay.proofs.Lists.{true-false, some-is, some-at}
use Rattle.law_found.specs.Trade.{trade, the_session, the_note, asking, ready, bought, told, buying, booking, buyer_log, clerk_log, buyer_sent, clerk_sent, buyer_received, clerk_received}
use Rattle.law_found.proofs.SceneRecords.{each, Splits, at-split}
use Rattle.law_found.proofs.ScenePlays.{buy-plays, book-plays}
use Rattle.law_found.proofs.SceneStates.{buyer-asked, buyer-ready, buyer-bought, buyer-replays, clerk-replays}

-- what each record says
abbrev pub Says : Program → ComId → List Packet → List Packet → List Record → Record → List Record → Type 0
Says program c sent received pre (Take s k stamp) post = IsSomeAnd (contents_in received s k) (λ m. m.stamp < stamp)
Says program c sent received pre (TakeWhole s k stamp handler args) post = IsSomeAnd (contents_in received s k) (λ m. (m.stamp < stamp) × (m.handler ≡ handler) × (m.args ≡ args))
Says program c sent received pre (Checkpoint image) post = IsSomeAnd (state_after program c received pre) (λ h. image ≡ image_of (vol_of h))
Says program c sent received pre (Value n place session value) post =
    IsSomeAnd (begun_in program c received pre n) (λ b. Contains received (packets.OpReply b.tcom c n place session value)) × IsSomeAnd (state_after program c received (pre ++ Value n place session value ∷ [])) (λ h. (standing_of program c h).failed ≡ None)
Says program c sent received pre (Outcome stamp n None) post =
    IsSomeAnd (begun_in program c received pre n) (λ b. (decided : ℕ) × (place : ℕ) × (session : Option Session) × (decided < stamp) × Contains received (packets.Outcome b.tcom c n place session (Committed decided)))
Says program c sent received pre (Outcome stamp n (Some cause)) post =
    IsFalse (is_need cause) → IsTrue (has_commit sent n) → IsSomeAnd (option_and_then (λ h. place_of h.stage) (state_after program c received pre)) (λ p. Contains received (packets.Outcome p.tcom c n p.place p.session (Aborted cause)))
Says program c sent received pre (Released d k) post = Contains received (packets.Installed d c k)
Says program c sent received pre r post = ⊤

-- so a log has the facts that each prefix keeps
pub prefix-facts : (program : Program) (c : ComId) (log : List Record) (sent received : List Packet) → IsSome (state_after program c received log) → Splits (Says program c sent received) [] log → PrefixFacts program c log sent received
prefix-facts program c log sent received there says = record {
  replays = there;
  take_received = λ pre post s k stamp st. at-split (Says program c sent received) [] log says pre (Take s k stamp) post st;
  whole_received = λ pre post s k stamp handler args st. at-split (Says program c sent received) [] log says pre (TakeWhole s k stamp handler args) post st;
  image_is = λ pre post image st. at-split (Says program c sent received) [] log says pre (Checkpoint image) post st;
  value_received = λ pre post n place session value st. (at-split (Says program c sent received) [] log says pre (Value n place session value) post st).0;
  commit_received = λ pre post n stamp st. at-split (Says program c sent received) [] log says pre (Outcome stamp n None) post st;
  abort_received = λ pre post n stamp cause st. at-split (Says program c sent received) [] log says pre (Outcome stamp n (Some cause)) post st;
  release_received = λ pre post d k st. at-split (Says program c sent received) [] log says pre (Released d k) post st;
  need_recorded = λ pre post n place session value r st.
      none-fails n r (state_after program c received (pre ++ Value n place session value ∷ []))
      (at-split (Says program c sent received) [] log says pre (Value n place session value) (r ∷ post) (st ∙ append_assoc pre (Value n place session value ∷ []) (r ∷ post))).1;
}
  where
    none-fails : (n : ℕ) (r : Record) (o : Option Hist) → IsSomeAnd o (λ h. (standing_of program c h).failed ≡ None) → IsSomeAnd o (λ h. MatchOption (standing_of program c h).failed ⊤ (λ line. IsNeedOutcome n line r))
    none-fails n r None h = absurd h
    none-fails n r (Some x) h = subst (λ z. MatchOption z ⊤ (λ line. IsNeedOutcome n line r)) (sym h) tt

-- of a packet with a message
abbrev OfMessage : (Msg → Type 0) → Packet → Type 0
OfMessage P (packets.Data m) = P m
OfMessage P p = ⊤

module _ (a : Global) where
  begun-by : (c : ComId) (received : List Packet) (log : List Record) (h : Hist) (n : ℕ) → state_after (trade a) c received log ≡ Some h → begun_in (trade a) c received log n ≡ opened h n
  begun-by c received log h n e = ap (option_and_then (λ g. opened g n)) e

  -- the buyer ---------------------------------------------------------------------------------------------

  buyer-says : Splits (Says (trade a) (com_at 1) buyer_sent buyer_received) [] buyer_log
  buyer-says = (
    tt,
    (
      (
        some-at (λ b. Contains buyer_received (packets.OpReply b.tcom (com_at 1) 1 0 the_session (pos 30))) (begun_in (trade a) (com_at 1) buyer_received (Input 1 0 (pos 30 ∷ []) ∷ []) 1) buying
            (begun-by (com_at 1) buyer_received (Input 1 0 (pos 30 ∷ []) ∷ []) asking 1 (buyer-asked a)) (0, omega arith, refl),
        some-at (λ h. (standing_of (trade a) (com_at 1) h).failed ≡ None) (state_after (trade a) (com_at 1) buyer_received (Input 1 0 (pos 30 ∷ []) ∷ Value 1 0 the_session (pos 30) ∷ [])) ready (buyer-ready a) (ap failed_line (buy-plays a (pos 0 ∷ []) (pos 30 ∷ []) [] (pos 30 ∷ []))),
      ),
      (
        some-at (λ b. (decided : ℕ) × (place : ℕ) × (session : Option Session) × (decided < 3) × Contains buyer_received (packets.Outcome b.tcom (com_at 1) 1 place session (Committed decided)))
            (begun_in (trade a) (com_at 1) buyer_received (Input 1 0 (pos 30 ∷ []) ∷ Value 1 0 the_session (pos 30) ∷ []) 1) buying
            (begun-by (com_at 1) buyer_received (Input 1 0 (pos 30 ∷ []) ∷ Value 1 0 the_session (pos 30) ∷ []) ready 1 (buyer-ready a)) (2, 1, Some the_session, (omega arith), (1, omega arith, refl)),
        (some-at (λ h. image_of (vol_of bought) ≡ image_of (vol_of h)) (state_after (trade a) (com_at 1) buyer_received (Input 1 0 (pos 30 ∷ []) ∷ Value 1 0 the_session (pos 30) ∷ Outcome 3 1 None ∷ [])) bought (buyer-bought a) refl, tt),
      ),
    ),
  )

  buyer-true : AllByRecursion (IsTrueOf (trade a) (com_at 1) buyer_log buyer_received) buyer_sent
  buyer-true = (
    (refl, some-at _ (begun_in (trade a) (com_at 1) buyer_received buyer_log 1) buying (begun-by (com_at 1) buyer_received buyer_log bought 1 (buyer-replays a)) (refl, refl, buy-plays a (pos 0 ∷ []) (pos 30 ∷ []) [] [])),
    (
      (
        refl,
        some-at _ (begun_in (trade a) (com_at 1) buyer_received buyer_log 1) buying (begun-by (com_at 1) buyer_received buyer_log bought 1 (buyer-replays a))
            (pos 30 ∷ [], refl, refl, refl, buy-plays a (pos 0 ∷ []) (pos 30 ∷ []) [] (pos 30 ∷ []), some-at _ (state_after (trade a) (com_at 1) buyer_received (Input 1 0 (pos 30 ∷ []) ∷ Value 1 0 the_session (pos 30) ∷ [])) ready (buyer-ready a) (refl, refl, omega arith)),
      ),
      (
        some-at (λ (h : Hist). Contains h.sent the_note) (state_after (trade a) (com_at 1) buyer_received buyer_log) bought (buyer-replays a) (0, omega arith, refl),
        ((refl, refl, some-at (λ (b : Begun). b.tcom ≡ com_at 0) (begun_in (trade a) (com_at 1) buyer_received buyer_log 1) buying (begun-by (com_at 1) buyer_received buyer_log bought 1 (buyer-replays a)) refl), tt),
      ),
    ),
  )

  pub buyer-facts : PcomLogFacts (trade a) (com_at 1) buyer_log buyer_log buyer_sent buyer_received
  buyer-facts = record {
    consistent = λ m n hm. absurd (each (OfMessage (λ x. ⊥)) buyer_received (tt, (tt, (tt, tt))) (packets.Data m) hm);
    whole = prefix-facts (trade a) (com_at 1) buyer_log buyer_sent buyer_received (some-is (state_after (trade a) (com_at 1) buyer_received buyer_log) bought (buyer-replays a)) buyer-says;
    lasting = record { packets_true = each (IsTrueOf (trade a) (com_at 1) buyer_log buyer_received) buyer_sent buyer-true; ends_well = ends };
    ends_well = ends;
  }
    where
      ends : IsSomeAnd (state_after (trade a) (com_at 1) buyer_received buyer_log) (λ h. (standing_of (trade a) (com_at 1) h).failed ≡ None)
      ends = some-at (λ h. (standing_of (trade a) (com_at 1) h).failed ≡ None) (state_after (trade a) (com_at 1) buyer_received buyer_log) bought (buyer-replays a) refl

  -- the clerk ---------------------------------------------------------------------------------------------

  clerk-says : Splits (Says (trade a) (com_at 2) clerk_sent clerk_received) [] clerk_log
  clerk-says = (tt, ((λ need committed. true-false committed), (omega arith, tt)))

  clerk-true : AllByRecursion (IsTrueOf (trade a) (com_at 2) clerk_log clerk_received) clerk_sent
  clerk-true = (
    (refl, some-at _ (begun_in (trade a) (com_at 2) clerk_received clerk_log 1) booking (begun-by (com_at 2) clerk_received clerk_log told 1 (clerk-replays a)) (refl, refl, book-plays a (pos 0 ∷ []) (pos 50 ∷ []) [] [])),
    (
      (refl, refl, some-at (λ (b : Begun). b.tcom ≡ com_at 0) (begun_in (trade a) (com_at 2) clerk_received clerk_log 1) booking (begun-by (com_at 2) clerk_received clerk_log told 1 (clerk-replays a)) refl),
      ((refl, some-at (λ (h : Hist). Contains h.plain.receipts (com_at 1, 1)) (state_after (trade a) (com_at 2) clerk_received clerk_log) told (clerk-replays a) (0, omega arith, refl)), tt),
    ),
  )

  pub clerk-facts : PcomLogFacts (trade a) (com_at 2) clerk_log clerk_log clerk_sent clerk_received
  clerk-facts = record {
    consistent = λ m n hm hn from to. the-one m hm ∙ sym (the-one n hn);
    whole = prefix-facts (trade a) (com_at 2) clerk_log clerk_sent clerk_received (some-is (state_after (trade a) (com_at 2) clerk_received clerk_log) told (clerk-replays a)) clerk-says;
    lasting = record { packets_true = each (IsTrueOf (trade a) (com_at 2) clerk_log clerk_received) clerk_sent clerk-true; ends_well = ends };
    ends_well = ends;
  }
    where
      the-one : (m : Msg) → Contains clerk_received (packets.Data m) → m ≡ the_note
      the-one m h = each (OfMessage (λ x. x ≡ the_note)) clerk_received (tt, (refl, tt)) (packets.Data m) h

      ends : IsSomeAnd (state_after (trade a) (com_at 2) clerk_received clerk_log) (λ h. (standing_of (trade a) (com_at 2) h).failed ≡ None)
      ends = some-at (λ h. (standing_of (trade a) (com_at 2) h).failed ≡ None) (state_after (trade a) (com_at 2) clerk_received clerk_log) told (clerk-replays a) refl

-- A record that is applied as it was prepared is the record.
use Rattle.std.proofs.Common.{◌≡◌, ◌∙◌, ◌++◌, ℕ, ℤ, true, [], ◌∷◌, ap, sym, refl, Option, Some, None}
use Rattle.std.specs.Option.{option_map}
use Rattle.std.proofs.lemmas.Bool.{false≢true}
use Rattle.ic_base.specs.declared.messages.ComId.{ComId}
use Rattle.ic_base.specs.declared.messages.Msg.{Msg}
use Rattle.ic_base.specs.declared.messages.Session.{Session}
use Rattle.ic_base.specs.declared.messages.AbortCause.{AbortCause}
use Rattle.ic_base.specs.declared.played.Played.TheVariants.{NeedFails}
use Rattle.ic_base.specs.declared.scenario.Program.{Program}
use Rattle.ic_base.specs.declared.record.Record.{Record}
use Rattle.ic_base.specs.declared.record.Record.TheVariants.{Take, TakeWhole, Input, Value, Outcome, Released, Shown, Checkpoint, Epoch, Decided}
use Rattle.def_plain.specs.declared.world.InHand.{InHand}
use Rattle.def_state.specs.Hist.{hand_plays}
use Rattle.def_state.specs.Txn.{Txn, Stage, Idle, Waiting, Answered, Committing, take_reply, end}
use Rattle.def_state.specs.Vol.{Vol, record_in, play_hand, add_done, done_by}
use Rattle.ic_replay.specs.Preparing.{preparation, has_content}
use Rattle.ic_replay.specs.Applying.{entered, applied, come_to_if}

module _ (program : Program) (c : ComId) where
  plays_hand : (at : ℕ) (w : Vol) (hand : Option InHand) → come_to_if c at w (option_map (hand_plays program c w.vars w.now) hand) ≡ play_hand program c at w hand
  plays_hand at w None = refl
  plays_hand at w (Some hand) = refl

  pub applied_is : (at : ℕ) (content : Option Msg) (v : Vol) (r : Record) → has_content content r ≡ true → applied c at (preparation program c content v r) v r ≡ record_in program c at content v r
  applied_is at None v (Take from k stamp) h = absurd (false≢true h)
  applied_is at (Some m) v (Take from k stamp) h = refl
  applied_is at content v (TakeWhole from k stamp handler args) h = refl
  applied_is at content v (Input stamp handler args) h = refl
  applied_is at content v (Value n place session value) h = plays_hand at (record v { now = v.now ++ value ∷ []; txn = take_reply v.txn session }) v.hand
  applied_is at content v (Outcome stamp n abort) h =
      let hand = option_map (add_done (done_by v.now abort)) v.hand in
      plays_hand at (record v { clock = stamp; hand = hand; now = []; txn = end v.txn; ended_at = at; owes_drop = true }) hand
  applied_is at content v (Released to k) h = refl
  applied_is at content v (Shown m) h = refl
  applied_is at content v (Checkpoint image) h = refl
  applied_is at content v (Epoch epoch) h = refl
  applied_is at content v (Decided stamp d n writes) h = refl

  -- a value with which a need fails is kept, and nothing else is done
  kept_value : (at : ℕ) (v : Vol) (n place : ℕ) (session : Session) (value : ℤ) (t : ComId) (line : ℕ) → (preparation program c None v (Value n place session value)).played ≡ Some (NeedFails t line)
      → record_in program c at None v (Value n place session value) ≡ record v { now = v.now ++ value ∷ []; txn = take_reply v.txn session }
  kept_value at v n place session value t line fails =
      sym (applied_is at None v (Value n place session value) refl)
      ∙ ap (come_to_if c at (record v { now = v.now ++ value ∷ []; txn = take_reply v.txn session })) fails

  ended_again : (x : Txn) (session : Session) → end (take_reply x session) ≡ end x
  ended_again x session = by x.stage
    where
      by : (s : Stage) → end (take_reply (record x { stage = s }) session) ≡ end (record x { stage = s })
      by Idle = refl
      by (Waiting t place kept request) = refl
      by (Answered t place kept request) = refl
      by (Committing t place kept) = refl

  -- the abort right behind it is prepared in the state before
  pub need_is : (at behind : ℕ) (v : Vol) (n place : ℕ) (session : Session) (value : ℤ) (t : ComId) (line stamp : ℕ) (cause : AbortCause) → (preparation program c None v (Value n place session value)).played ≡ Some (NeedFails t line)
      → applied c behind (preparation program c None v (Outcome stamp n (Some cause))) v (Outcome stamp n (Some cause)) ≡ record_in program c behind None (record_in program c at None v (Value n place session value)) (Outcome stamp n (Some cause))
  need_is at behind v n place session value t line stamp cause fails =
      let r = Outcome stamp n (Some cause) in
      let w : Vol = record v { now = v.now ++ value ∷ []; txn = take_reply v.txn session } in
      ap (λ (x : Txn). come_to_if c behind (record (entered behind (preparation program c None v r) v r) { txn = x }) (preparation program c None v r).played) (sym (ended_again v.txn session))
      ∙ applied_is behind None w r refl
      ∙ ap (λ (x : Vol). record_in program c behind None x r) (sym (kept_value at v n place session value t line fails))

-- The image of a replayed state with nothing in hand is read back as that state.
use Rattle.std.proofs.Common.{◌≡◌, refl, ◌∙◌, ap, sym, subst, ℕ, Bool, true, false, ◌==◌, ◌⊎◌, inl, inr, List, [], ◌∷◌, ◌++◌, map, ℤ, Option, Some, None, is_none}
use Rattle.std.proofs.lemmas.Bool.{and_parts}
use Rattle.std.proofs.lemmas.Option.{none-some, same_Some}
use Rattle.ic_base.specs.declared.messages.ComId.{ComId}
use Rattle.ic_base.specs.declared.messages.Msg.{Msg}
use Rattle.ic_base.specs.declared.messages.Output.{Output}
use Rattle.ic_base.specs.declared.messages.Session.{Session}
use Rattle.ic_base.specs.declared.scenario.Program.{Program}
use Rattle.ic_base.specs.declared.record.Record.{Record}
use Rattle.ic_base.specs.declared.record.Record.TheVariants.{Take, TakeWhole, Input, Value, Outcome, Released, Shown, Checkpoint, Epoch, Decided}
use Rattle.def_plain.specs.declared.world.InHand.{InHand}
use Rattle.def_state.specs.Outbox.{Held}
use Rattle.def_state.specs.Shelf.{Waiting}
use Rattle.def_state.specs.Txn.{Stage, Idle, is_idle, is_awaited_at}
use Rattle.def_state.specs.Txn
use Rattle.def_state.specs.Fits.{fits}
use Rattle.def_state.specs.Hist.{Hist, Contents, apply, apply_all, after, first_hist, recorded, standing_of}
use Rattle.def_state.specs.Image.{read_image}
use Rattle.def_state.specs.Mirrors.{vol_of}
use Rattle.def_facts.specs.Logs.{contents_in}
use Rattle.law_image.specs.Readable.{as_read, held_as_read, waiting_as_read}
use Rattle.law_image.proofs.ReadBack.{image_only}
use Rattle.law_replay.proofs.Applying.{Touches, Rests, what, is_value}
use Rattle.law_replay.proofs.Committing.{hands_are_open}
use Rattle.law_replay.proofs.Growing.{apply_none, applied_twice}
use Rattle.law_replay.proofs.Lists.{true-false, passed}
use Rattle.law_replay.proofs.Members.{map-has}
use Rattle.law_pcom.specs.Recovering.{ReadsBack, ImagesAreRead}

-- where nothing is in hand no answer is kept
abbrev Empty : Hist → Type 0
Empty h = is_none h.plain.hand ≡ true → h.now ≡ []

-- an answer wants something in hand
answer-waits : (program : Program) (c : ComId) (k : Contents) (h : Hist) (n place : ℕ) (session : Session) (value : ℤ) → is_none h.plain.hand ≡ is_idle h.stage → fits program c (standing_of program c h) (Value n place session value) ≡ true → is_none h.plain.hand ≡ false
answer-waits program c k h n place session value opens e = opens ∙ busy h.stage (and_parts (n == h.plain.begun) (is_awaited_at h.stage place session) e).1
  where
    busy : (s : Stage) → is_awaited_at s place session ≡ true → is_idle s ≡ false
    busy Txn.Idle f = true-false f
    busy (Txn.Waiting t p x q) f = refl
    busy (Txn.Answered t p x q) f = refl
    busy (Txn.Committing t p x) f = refl

one-empty : (program : Program) (c : ComId) (k : Contents) (h g : Hist) (r : Record) → is_none h.plain.hand ≡ is_idle h.stage → apply program c k h r ≡ Some g → Empty h → Empty g
one-empty program c k h g r opens e x = by (what program c k h g r e)
  where
    calm : Rests h g r → (b : Bool) → is_value r ≡ b → Empty g
    calm t false is free = (t.calm is).0 ∙ x (ap (λ p. is_none p.hand) (sym t.plain) ∙ free)
    calm t true is free = at r is e
      where
        at : (y : Record) → is_value y ≡ true → apply program c k h y ≡ Some g → g.now ≡ []
        at (Value n place session value) a f = true-false (sym (answer-waits program c k h n place session value opens (passed (fits program c (standing_of program c h) (Value n place session value)) (recorded program c k h (Value n place session value)) g f).0) ∙ ap (λ p. is_none p.hand) (sym t.plain) ∙ free)
        at (Take s n stamp) a f = true-false a
        at (TakeWhole s n stamp handler args) a f = true-false a
        at (Input stamp handler args) a f = true-false a
        at (Outcome stamp n abort) a f = true-false a
        at (Released to n) a f = true-false a
        at (Shown n) a f = true-false a
        at (Checkpoint image) a f = true-false a
        at (Epoch epoch) a f = true-false a
        at (Decided stamp d n writes) a f = true-false a

    by : Touches program c k h g r ⊎ Rests h g r → Empty g
    by (inl t) = λ free. t.now
    by (inr t) = calm t (is_value r) refl

all-empty : (program : Program) (c : ComId) (k : Contents) (pre rs : List Record) (h g : Hist) → after program c k pre ≡ Some h → Empty h → apply_all program c k (Some h) rs ≡ Some g → Empty g
all-empty program c k pre [] h g is x e = subst Empty (same_Some h g e) x
all-empty program c k pre (r ∷ rs) h g is x e = at (apply program c k h r) refl e (λ y. all-empty program c k (pre ++ r ∷ []) rs y g)
  where
    at : (o : Option Hist) → apply program c k h r ≡ o → apply_all program c k o rs ≡ Some g → ((y : Hist) → after program c k (pre ++ r ∷ []) ≡ Some y → Empty y → apply_all program c k (Some y) rs ≡ Some g → Empty g) → Empty g
    at None f z more = absurd (none-some g (sym (apply_none program c k rs) ∙ z))
    at (Some y) f z more =
        more y (applied_twice program c k (Some (first_hist program c)) pre (r ∷ []) ∙ ap (λ o. apply_all program c k o (r ∷ [])) is ∙ f) (one-empty program c k h y r (hands_are_open program c k pre h is) f x) z

pub none-kept : (program : Program) (c : ComId) (k : Contents) (log : List Record) (h : Hist) → after program c k log ≡ Some h → is_none h.plain.hand ≡ true → h.now ≡ []
none-kept program c k log h e = all-empty program c k [] log (first_hist program c) h refl (λ free. refl) e

-- what an image keeps of the state
read-back : (program : Program) (c : ComId) (k : Contents) (log : List Record) (h : Hist) → after program c k log ≡ Some h → is_none h.plain.hand ≡ true → ReadsBack (as_read (vol_of h)) h
read-back program c k log h e free = record {
  mirrors = record {
    vars = refl;
    clock = refl;
    hand = sym (none-in h.plain.hand free);
    now = sym (none-kept program c k log h e free);
    txn = ap (λ s. record { begun = h.plain.begun; last = h.last; stage = s }) (sym (idle h.stage (sym (hands_are_open program c k log h e) ∙ free)));
    held = messages h.held;
    links = refl;
    taken = refl;
    waiting = outputs h.unshown;
    made = refl;
  };
  held_due = λ x y. let z = map-has held_as_read (vol_of h).outbox.held x y in sym (ap (λ (u : Held). u.at) z.2);
  held_plain = λ x y. let z = map-has held_as_read (vol_of h).outbox.held x y in sym (ap (λ (u : Held). u.stable) z.2);
  shelved_due = λ x y. let z = map-has waiting_as_read (vol_of h).shelf.waiting x y in sym (ap (λ (u : Waiting). u.at) z.2);
  none_open = refl;
  ended_at = refl;
}
  where
    none-in : (o : Option InHand) → is_none o ≡ true → o ≡ None
    none-in None f = refl
    none-in (Some hand) f = true-false f

    idle : (s : Stage) → is_idle s ≡ true → s ≡ Txn.Idle
    idle Txn.Idle f = refl
    idle (Txn.Waiting t p x q) f = true-false f
    idle (Txn.Answered t p x q) f = true-false f
    idle (Txn.Committing t p x) f = true-false f

    messages : (ms : List Msg) → map (λ (x : Held). x.msg) (map held_as_read (map (λ m. record { msg = m; at = 0; put = true; stable = false }) ms)) ≡ ms
    messages [] = refl
    messages (m ∷ ms) = ap (λ l. m ∷ l) (messages ms)

    outputs : (os : List Output) → map (λ (x : Waiting). x.output) (map waiting_as_read (map (λ o. record { output = o; at = 0 }) os)) ≡ os
    outputs [] = refl
    outputs (o ∷ os) = ap (λ l. o ∷ l) (outputs os)

pub images_are_read : ImagesAreRead
images_are_read program c received log has pre post image h v st e is free read =
    subst (λ w. ReadsBack w h) (sym (image_only program c (vol_of h) v (has pre post image h st e free) (ap (read_image program c) (sym is) ∙ read)))
    (read-back program c (contents_in received) pre h e free)

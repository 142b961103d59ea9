-- The facts of logs of which nothing was put out and which received nothing: empty ones, and logs of inputs.
use Rattle.std.proofs.Common.{◌≡◌, refl, ◌∙◌, ap, sym, subst, ℕ, true, false, ◌&&◌, List, [], ◌∷◌, ◌++◌, ℤ, Option, Some, None, option_map, option_and_then}
use Rattle.std.specs.Prelude.{IsSome, IsSomeAnd, slice_get}
use Rattle.std.specs.List.{list_all}
use Rattle.std.proofs.lemmas.List.{append_assoc}
use Rattle.std.proofs.lemmas.Option.{same_Some}
use Rattle.ic_base.specs.declared.messages.ComId.{ComId}
use Rattle.ic_base.specs.declared.played.Played.{Played}
use Rattle.ic_base.specs.declared.played.Played.TheVariants.{Asks, Ready, NeedFails, Ends}
use Rattle.ic_base.specs.declared.scenario.Component.{Component}
use Rattle.ic_base.specs.declared.scenario.Program.{Program}
use Rattle.ic_base.specs.declared.record.Record.{Record}
use Rattle.ic_base.specs.declared.record.Record.TheVariants.{Take, TakeWhole, Input, Value, Outcome, Released, Shown, Checkpoint, Epoch, Decided}
use Rattle.def_plain.specs.declared.world.PlainPcom.{PlainPcom}
use Rattle.def_plain.specs.declared.world.InHand.{InHand}
use Rattle.def_plain.specs.Cell.{TakesInput, cell_step}
use Rattle.def_state.specs.Fits.{fits, failed_line}
use Rattle.def_state.specs.Hist.{Hist, Contents, apply, apply_all, first_hist, first_cell, first_plain, recorded, moved, moved_well, is_at_request, numbers_fit, hand_plays, standing_of}
use Rattle.def_facts.specs.Logs.{contents_in, is_input}
use Rattle.def_facts.specs.Pcom.{PrefixFacts, PcomLogFacts, EndsWell, state_after}
use Rattle.def_facts.specs.Tcom.{TcomLogFacts}
use Rattle.def_facts.specs.World.{Past}
use Rattle.law_replay.proofs.Growing.{apply_none}
use Rattle.law_replay.proofs.Lists.{none-some, true-false, front, back, some-of, empty, passed}

-- nothing was put out or received
abbrev pub quiet : Past
quiet = record { sent = λ c. []; received = λ c. [] }

pub none-stands : {B : Type 0} (pre post : List Record) (r : Record) → [] ≡ pre ++ r ∷ post → B
none-stands [] post r e = absurd (cc)
none-stands (x ∷ pre) post r e = absurd (cc)

-- inputs ------------------------------------------------------------------------------------------

pub input-is : (r : Record) → is_input r ≡ true → (stamp handler : ℕ) × (args : List ℤ) × (r ≡ Input stamp handler args)
input-is (Input stamp handler args) e = (stamp, handler, args, refl)
input-is (Take from k stamp) e = true-false e
input-is (TakeWhole from k stamp handler args) e = true-false e
input-is (Value n place session value) e = true-false e
input-is (Outcome stamp n abort) e = true-false e
input-is (Released to k) e = true-false e
input-is (Shown m) e = true-false e
input-is (Checkpoint image) e = true-false e
input-is (Epoch epoch) e = true-false e
input-is (Decided stamp d n writes) e = true-false e

-- no other record stands in a log of inputs
pub not-input : {B : Type 0} (log pre post : List Record) (r : Record) → list_all is_input log ≡ true → is_input r ≡ false → log ≡ pre ++ r ∷ post → B
not-input {B} log pre post r all other e = at pre (ap (list_all is_input) (sym e) ∙ all)
  where
    at : (xs : List Record) → list_all is_input (xs ++ r ∷ post) ≡ true → B
    at [] f = true-false (sym other ∙ front (is_input r) (list_all is_input post) f)
    at (x ∷ xs) f = at xs (back (is_input x) (list_all is_input (xs ++ r ∷ post)) f)

-- the content of messages doesn't matter to inputs
pub inputs-alone : (program : Program) (c : ComId) (k more : Contents) (rs : List Record) (o : Option Hist) → list_all is_input rs ≡ true → apply_all program c k o rs ≡ apply_all program c more o rs
inputs-alone program c k more [] o all = refl
inputs-alone program c k more (r ∷ rs) None all = inputs-alone program c k more rs None (back (is_input r) (list_all is_input rs) all)
inputs-alone program c k more (r ∷ rs) (Some h) all =
    ap (λ o. apply_all program c k o rs) (same r (front (is_input r) (list_all is_input rs) all)) ∙ inputs-alone program c k more rs (apply program c more h r) (back (is_input r) (list_all is_input rs) all)
  where
    same : (x : Record) → is_input x ≡ true → apply program c k h x ≡ apply program c more h x
    same x e = let i = input-is x e in subst (λ y. apply program c k h y ≡ apply program c more h y) (sym i.3) refl

-- what has just moved fails in no need
Sound : Program → ComId → Hist → Type 0
Sound program c h = (standing_of program c h).failed ≡ None

asks-well : (f : InHand → Played) (o : Option InHand) → is_at_request (option_map f o) ≡ true → option_and_then (λ hand. failed_line (f hand)) o ≡ None
asks-well f None e = refl
asks-well f (Some hand) e = at (f hand) e
  where
    at : (r : Played) → is_at_request (Some r) ≡ true → failed_line r ≡ None
    at (Asks t q) e = refl
    at (Ready t) e = true-false e
    at (NeedFails t line) e = true-false e
    at (Ends vars sends outs) e = true-false e

input-sound : (program : Program) (c : ComId) (k : Contents) (h g : Hist) (stamp handler : ℕ) (args : List ℤ) → apply program c k h (Input stamp handler args) ≡ Some g → Sound program c g
unfolding Sound
input-sound program c k h g stamp handler args e =
    at (cell_step program c h.plain (TakesInput handler args)) (passed (fits program c (standing_of program c h) (Input stamp handler args)) (recorded program c k h (Input stamp handler args)) g e).1
  where
    at : (o : Option PlainPcom) → option_and_then (moved_well program c h stamp) o ≡ Some g → (standing_of program c g).failed ≡ None
    at None f = none-some g f
    at (Some p) f =
        let x = passed (numbers_fit (moved program c h stamp p) && is_at_request (option_map (hand_plays program c p.vars []) p.hand)) (Some (moved program c h stamp p)) g f in
        subst (λ (z : Hist). (standing_of program c z).failed ≡ None) (same_Some (moved program c h stamp p) g x.1)
        (asks-well (hand_plays program c p.vars []) p.hand (back (numbers_fit (moved program c h stamp p)) (is_at_request (option_map (hand_plays program c p.vars []) p.hand)) x.0))

inputs-sound : (program : Program) (c : ComId) (k : Contents) (rs : List Record) (h g : Hist) → list_all is_input rs ≡ true → Sound program c h → apply_all program c k (Some h) rs ≡ Some g → Sound program c g
inputs-sound program c k [] h g all x e = subst (Sound program c) (same_Some h g e) x
inputs-sound program c k (r ∷ rs) h g all x e = at (apply program c k h r) refl e (λ y. inputs-sound program c k rs y g (back (is_input r) (list_all is_input rs) all))
  where
    at : (o : Option Hist) → apply program c k h r ≡ o → apply_all program c k o rs ≡ Some g → ((y : Hist) → Sound program c y → apply_all program c k (Some y) rs ≡ Some g → Sound program c g) → Sound program c g
    at None is f more = none-some g (sym (apply_none program c k rs) ∙ f)
    at (Some y) is f more = let i = input-is r (front (is_input r) (list_all is_input rs) all) in more y (input-sound program c k h y i.0 i.1 i.2 (subst (λ z. apply program c k h z ≡ Some y) i.3 is)) f

first-sound : (program : Program) (c : ComId) → Sound program c (first_hist program c)
unfolding Sound
first-sound program c = ap (λ o. option_and_then (λ hand. failed_line (hand_plays program c (first_plain program c).vars [] hand)) o) (at (slice_get program.components c.0))
  where
    at : (o : Option Component) → (first_cell o).hand ≡ None
    at None = refl
    at (Some d) = refl

ends-well : (program : Program) (c : ComId) (log : List Record) → list_all is_input log ≡ true → IsSome (state_after program c [] log) → EndsWell program c [] log
unfolding Sound
ends-well program c log all there =
    let h = some-of (state_after program c [] log) there in
    subst (λ o. IsSomeAnd o (λ g. (standing_of program c g).failed ≡ None)) (sym h.1) (inputs-sound program c (contents_in []) log (first_hist program c) h.0 all (first-sound program c) h.1)

-- a Pcom over a log of inputs
input-prefix : (program : Program) (c : ComId) (log : List Record) → list_all is_input log ≡ true → IsSome (state_after program c [] log) → PrefixFacts program c log [] []
input-prefix program c log all there = record {
  replays = there;
  take_received = λ pre post s k stamp st. not-input log pre post _ all refl st;
  whole_received = λ pre post s k stamp handler args st. not-input log pre post _ all refl st;
  image_is = λ pre post image st. not-input log pre post _ all refl st;
  value_received = λ pre post n place session value st. not-input log pre post _ all refl st;
  commit_received = λ pre post n stamp st. not-input log pre post _ all refl st;
  abort_received = λ pre post n stamp cause st no_need asked. not-input log pre post _ all refl st;
  release_received = λ pre post d k st. not-input log pre post _ all refl st;
  need_recorded = λ pre post n place session value r st. not-input log pre (r ∷ post) (Value n place session value) all refl (st ∙ append_assoc pre (Value n place session value ∷ []) (r ∷ post));
}

pub input-facts : (program : Program) (c : ComId) (log : List Record) → list_all is_input log ≡ true → IsSome (state_after program c [] log) → PcomLogFacts program c log log [] []
input-facts program c log all there = record {
  consistent = λ m n a. empty _ a;
  whole = input-prefix program c log all there;
  lasting = record { packets_true = λ p x. empty p x; ends_well = ends-well program c log all there };
  ends_well = ends-well program c log all there;
}

-- a Tcom over an empty log
pub tcom-facts : (program : Program) (t : ComId) → TcomLogFacts program t 0 [] [] []
tcom-facts program t = record {
  reads = refl;
  reply_epoch = λ c n place session v x. empty _ x;
  reply_once = λ c n place session v w x. empty _ x;
  decisions = λ pre post stamp c n writes st. none-stands pre post _ st;
  commits_stand = λ c n place session stamp x. empty _ x;
  aborts_are = λ c n place session cause x. empty _ x;
  answers_only = λ p x. empty p x;
}

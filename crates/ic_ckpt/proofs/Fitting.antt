-- An image's fields go together.
use Rattle.std.proofs.Common.{◌≡◌, ◌∙◌, sym, ap, refl, ℕ, zero, suc, ◌+◌, ◌<◌, ◌≤◌, Bool, true, List, [], ◌∷◌, length, map, Option, Some, arith}
use Rattle.std.specs.Prelude.{◌||◌, nat_lt, nat_le, Ok}
use Rattle.std.specs.List.{All, AllPairs, AllByRecursion, list_all}
use Rattle.std.proofs.lemmas.Bool.{and_parts, and_from, ltb-true, leb-true, le-leb}
use Rattle.std.proofs.lemmas.List.Kept.{AllPairs-cons}
use Rattle.ic_base.specs.declared.limits.TheConstants.{GREATEST_NUMBER}
use Rattle.ic_base.specs.declared.messages.ComId.{ComId}
use Rattle.ic_base.specs.declared.messages.Msg.{Msg}
use Rattle.ic_base.specs.declared.messages.Output.{Output}
use Rattle.ic_base.specs.declared.scenario.Program.{Program}
use Rattle.ic_base.specs.Programs.{is_an_xcom, is_other_pcom, has_handler}
use Rattle.def_log.specs.Spelling.{IsCount}
use Rattle.def_log.proofs.Takes.{some_is}
use Rattle.def_state.specs.Names.{number_of}
use Rattle.def_state.specs.Shelf.{Waiting, Shelf}
use Rattle.def_state.specs.Vol.{Vol}
use Rattle.def_state.specs.Image.{many_at, last_at, rises_above, numbers_to, output_fits, message_fits}
use Rattle.def_state.specs.ImagePlaces.{Reading, items, last_txn}
use Rattle.ic_edge.specs.RoomyShelf.{due_at_once}
use Rattle.ic_out.specs.Views.{held_in_image, outbox_of}
use Rattle.ic_in.specs.Senders.{AreParts}
use Rattle.law_image.proofs.Fields.{all_pass, Walks, items_came}
use Rattle.law_image.proofs.Items.{Part, is_last, last_came, are_numbers, is_next_sender}
use Rattle.law_image.proofs.Places.{Parts, vol_of, PassesTests, senders_next}
use Rattle.law_image.proofs.Whole.{passed_rise}
use Rattle.law_image.proofs.Tests.{rises_parts, outputs_came, messages_came, sender_fits, senders_came}
use Rattle.law_image.proofs.Spelled.{PartFits}
use Rattle.law_image.proofs.Texts.{AreSpelled}
use Rattle.ic_ckpt.specs.declared.parts.Parts as code
use Rattle.ic_ckpt.specs.Views.{AreWhole}

-- what was read by items that passed, passed
pub passes-own : {A B : Type 0} {step : A → List ℕ → Reading A} {read : List ℕ → Option (B × List ℕ)} {test : A → B → Bool} {next : A → B → A} → Walks step read test next → (n : ℕ) (a : A) (bytes : List ℕ) (y : A × List ℕ) (xs : List B) (rest : List ℕ) → items step n a bytes ≡ Ok y → many_at read n bytes ≡ Some (xs, rest)
    → all_pass test next a xs ≡ true
passes-own {A} {B} {step} {read} {test} {next} w n a bytes y xs rest e h =
    let t = items_came w n a bytes y e in
    let same : t.0 ≡ (xs, rest) = some_is t.0 (xs, rest) (sym t.1 ∙ h) in
    ap (λ (z : List B × List ℕ). all_pass test next a z.0) (sym same) ∙ t.2

pub last-own : (program : Program) (begun : ℕ) (bytes : List ℕ) (y : ℕ × List ℕ) (o : Option (ComId × ℕ)) (rest : List ℕ) → last_txn program begun bytes ≡ Ok y → last_at bytes ≡ Some (o, rest) → is_last program begun o ≡ true
last-own program begun bytes y o rest e h =
    let t = last_came program begun bytes y e in
    let same : t.0 ≡ (o, rest) = some_is t.0 (o, rest) (sym t.1 ∙ h) in
    ap (λ (z : Option (ComId × ℕ) × List ℕ). is_last program begun z.0) (sym same) ∙ t.2

from-all : {X : Type 0} (P : X → Type 0) (p : X → Bool) (xs : List X) → ((x : X) → p x ≡ true → P x) → list_all p xs ≡ true → All P xs
from-all P p [] w h k d l = absurd (omega arith)
from-all P p (x ∷ xs) w h zero d l = w x (and_parts (p x) (list_all p xs) h).0
from-all P p (x ∷ xs) w h (suc k) d l = from-all P p xs w (and_parts (p x) (list_all p xs) h).1 k d (omega arith)

from-each : {X : Type 0} (P Q : X → Type 0) (xs : List X) → ((x : X) → P x → Q x) → AllByRecursion P xs → All Q xs
from-each P Q [] w h k d l = absurd (omega arith)
from-each P Q (x ∷ xs) w h zero d l = w x h.0
from-each P Q (x ∷ xs) w h (suc k) d l = from-each P Q xs w h.1 k d (omega arith)

above-each : (n : ℕ) (xs : List Output) → list_all (λ k. nat_lt n k) (map (λ (x : Waiting). x.output.m) (map due_at_once xs)) ≡ true → All (λ (x : Output). n < x.m) xs
above-each n [] h k d l = absurd (omega arith)
above-each n (x ∷ xs) h zero d l = ltb-true n x.m (and_parts (nat_lt n x.m) _ h).0
above-each n (x ∷ xs) h (suc k) d l = above-each n xs (and_parts (nat_lt n x.m) _ h).1 k d (omega arith)

rising-pairs : (n : ℕ) (xs : List Output) → rises_above n (map (λ (x : Waiting). x.output.m) (map due_at_once xs)) ≡ true → AllPairs (λ (x y : Output). x.m < y.m) xs
rising-pairs n [] h = λ i j d l m. absurd (omega arith)
rising-pairs n (x ∷ xs) h =
    let parts = and_parts (nat_lt n x.m) (rises_above x.m (map (λ (x : Waiting). x.output.m) (map due_at_once xs))) h in
    let above = rises_parts x.m (map (λ (x : Waiting). x.output.m) (map due_at_once xs)) parts.1 in
    AllPairs-cons (λ (x y : Output). x.m < y.m) x xs (above-each x.m xs above.0) (rising-pairs x.m xs parts.1)

made-each : (program : Program) (s : Shelf) (xs : List Output) → list_all (output_fits program s) (map due_at_once xs) ≡ true → All (λ (x : Output). x.m ≤ s.made) xs
made-each program s [] h k d l = absurd (omega arith)
made-each program s (x ∷ xs) h zero d l = leb-true x.m s.made (and_parts (is_an_xcom program x.to) (nat_le x.m s.made) (and_parts (output_fits program s (due_at_once x)) _ h).0).1
made-each program s (x ∷ xs) h (suc k) d l = made-each program s xs (and_parts (output_fits program s (due_at_once x)) _ h).1 k d (omega arith)

sent-each : (program : Program) (c : ComId) (v : Vol) (ms : List Msg) → list_all (message_fits program c v) (map held_in_image ms) ≡ true → All (λ (m : Msg). m.k ≤ number_of 0 v.outbox.links m.to) ms
sent-each program c v [] h k d l = absurd (omega arith)
sent-each program c v (m ∷ ms) h zero d l =
    let one = (and_parts (message_fits program c v (held_in_image m)) _ h).0 in
    let two = (and_parts (is_other_pcom program c m.to) _ one).1 in
    let three = (and_parts (has_handler program m.to m.handler m.args) _ two).1 in
    leb-true m.k (number_of 0 v.outbox.links m.to) (and_parts (nat_le m.k (number_of 0 v.outbox.links m.to)) _ three).0
sent-each program c v (m ∷ ms) h (suc k) d l = sent-each program c v ms (and_parts (message_fits program c v (held_in_image m)) _ h).1 k d (omega arith)

low-each : (ks : List ℕ) → AllByRecursion IsCount ks → list_all (λ k. nat_le k GREATEST_NUMBER) ks ≡ true
low-each [] h = refl
low-each (k ∷ ks) h = and_from (nat_le k GREATEST_NUMBER) _ (le-leb k GREATEST_NUMBER h.0.1) (low-each ks h.1)

filled-part : (s : Part) → (nat_lt 0 s.1 || nat_lt 0 (length s.2)) ≡ true → 0 < s.1 + length s.2
filled-part s h = by s.1 (length s.2) h
  where
    by : (w n : ℕ) → (nat_lt 0 w || nat_lt 0 n) ≡ true → 0 < w + n
    by zero n h = let l = ltb-true 0 n h in omega arith
    by (suc w) n h = omega arith

parts-fit : (program : Program) (c : ComId) (ss : List Part) → all_pass (is_next_sender program c) senders_next [] ss ≡ true → AllByRecursion PartFits ss → AreParts ss
parts-fit program c ss t f =
    let s = senders_came program c ss t in
    record {
      rising = s.1;
      above = from-all (λ (s : Part). rises_above (s.1 + 1) s.2 ≡ true) (λ (s : Part). rises_above (s.1 + 1) s.2) ss (λ s e. e) (passed_rise program c [] ss t);
      low = from-each PartFits (λ (s : Part). s.1 ≤ GREATEST_NUMBER) ss (λ s h. h.bound) f;
      limited = from-each PartFits (λ (s : Part). list_all (λ k. nat_le k GREATEST_NUMBER) s.2 ≡ true) ss (λ s h. low-each s.2 h.above) f;
      filled = from-all (λ (s : Part). 0 < s.1 + length s.2) (sender_fits program c) ss (λ s e. filled-part s (and_parts (nat_lt 0 s.1 || nat_lt 0 (length s.2)) _ (and_parts (is_other_pcom program c s.0) (are_numbers s.1 s.2) e).1).0) s.0;
    }

-- the fields as the definitions have them
abbrev pub fields_of : code.Parts → Parts
fields_of p = record {
  clock = p.clock;
  vars = p.vars;
  begun = p.begun;
  last = p.last;
  made = p.made;
  waiting = map due_at_once p.outputs;
  links = p.links;
  held = map held_in_image p.messages;
  senders = p.senders;
}

pub are-whole : (program : Program) (c : ComId) (p : code.Parts) → PassesTests program c (fields_of p) → AreSpelled c (fields_of p) → AreWhole p
are-whole program c p t f =
    let v = vol_of (fields_of p) in
    let outputs = outputs_came program v.shelf 0 (map due_at_once p.outputs) t.waiting in
    let messages = messages_came program c v [] (map held_in_image p.messages) t.held in
    record {
      sent = sent-each program c v p.messages messages.0;
      rising = λ to. (rises_parts 0 (numbers_to (outbox_of p.links p.messages) to) (messages.1 to)).1;
      outputs = rising-pairs 0 p.outputs outputs.1;
      made = made-each program v.shelf p.outputs outputs.0;
      senders = parts-fit program c p.senders t.senders f.senders;
    }

-- The fields of an image as they stand in its bytes, and what is tested of them.
use Rattle.std.proofs.Common.{◌≡◌, ℕ, zero, suc, ◌+◌, Bool, true, false, cond, List, [], ◌∷◌, ◌++◌, length, map, Option, Some, None, refl, ap, sym, subst, ◌∙◌, append_assoc, ℤ}
use Rattle.std.specs.Prelude.{◌&&◌, ◌==◌, nat_le, Result, Ok, Err, option_and_then}
use Rattle.std.specs.List.{list_all, flat_map}
use Rattle.std.specs.Int.{Width, w8, w32}
use Rattle.std.proofs.lemmas.Bool.{and_parts, and_from}
use Rattle.std.proofs.lemmas.List.{append-nil}
use Rattle.ic_base.specs.declared.messages.ComId.{ComId}
use Rattle.ic_base.specs.declared.scenario.Program.{Program}
use Rattle.def_log.specs.Reading.{number_at, time_at, value_at, values_at}
use Rattle.def_log.proofs.Takes.{came as some_came, some_is}
use Rattle.def_log.proofs.Again.{goes_on as some_goes_on}
use Rattle.def_state.specs.Names.{Identity, Numbers, put_number}
use Rattle.def_state.specs.Outbox.{Held}
use Rattle.def_state.specs.Shelf.{Waiting}
use Rattle.def_state.specs.Txn.{Idle}
use Rattle.def_state.specs.Vol.{Vol, first_vol}
use Rattle.def_state.specs.Image.{many_at, last_at, output_at, link_at, message_at, part_at, sender_at, identities, rises_above, fields_at}
use Rattle.def_state.specs.ImagePlaces.{Reading, ◌>>=◌, field, any, items, values, counted_values, last_txn, output, link, message, sender, at_end, image}
use Rattle.law_image.proofs.Fields.{came, goes_on, field_came, field_is, all_pass, behind, Walks, items_came, items_goes}
use Rattle.law_image.proofs.Items.{ok_is, Part, is_last, is_next_output, is_next_link, is_next_message, is_next_sender, counted_came, counted_goes, many_values, values_length, last_came, last_goes, outputs_walk, links_walk, messages_walk, senders_walk}

-- the fields
pub record Parts : Type 0 where
  pub clock : ℕ
  pub vars : List ℤ
  pub begun : ℕ
  pub last : Option (ComId × ℕ)
  pub made : ℕ
  pub waiting : List Waiting
  pub links : Numbers
  pub held : List Held
  pub senders : List Part

-- the state that they give
abbrev pub vol_of : Parts → Vol
vol_of p = record {
  vars = p.vars;
  clock = p.clock;
  outbox = record { held = p.held; links = p.links };
  inbox = record { taken = flat_map (λ s. identities s.0 s.1 s.2) p.senders; receipts = [] };
  shelf = record { waiting = p.waiting; made = p.made };
  txn = record { begun = p.begun; last = p.last; stage = Idle };
  hand = None;
  now = [];
  ended_at = 0;
  owes_drop = false;
}

-- a count, and so many items
pub record IsListed {B : Type 0} (w : Width) (read : List ℕ → Option (B × List ℕ)) (bytes : List ℕ) (xs : List B) (rest : List ℕ) : Type 0 where
  pub n : ℕ
  pub front : List ℕ
  pub count_is : number_at w bytes ≡ Some (n, front)
  pub items_are : many_at read n front ≡ Some (xs, rest)

-- the fields stand at the front of the bytes, one behind the other, with these bytes behind each
pub record IsRead (c : ComId) (bytes : List ℕ) (p : Parts) (rest : List ℕ) : Type 0 where
  pub b1 : List ℕ
  pub clock : time_at bytes ≡ Some (p.clock, b1)
  pub b2 : List ℕ
  pub vars : IsListed w8 value_at b1 p.vars b2
  pub b3 : List ℕ
  pub begun : time_at b2 ≡ Some (p.begun, b3)
  pub b4 : List ℕ
  pub last : last_at b3 ≡ Some (p.last, b4)
  pub b5 : List ℕ
  pub made : time_at b4 ≡ Some (p.made, b5)
  pub b6 : List ℕ
  pub waiting : IsListed w32 output_at b5 p.waiting b6
  pub b7 : List ℕ
  pub links : IsListed w8 link_at b6 p.links b7
  pub b8 : List ℕ
  pub held : IsListed w32 (message_at c) b7 p.held b8
  pub senders : IsListed w8 part_at b8 p.senders rest

-- each field passes its test
pub record PassesTests (program : Program) (c : ComId) (p : Parts) : Type 0 where
  pub vars : (length p.vars == length (first_vol program c).vars) ≡ true
  pub last : is_last program p.begun p.last ≡ true
  pub waiting : all_pass (is_next_output program p.made) (λ last w. w.output.m) 0 p.waiting ≡ true
  pub links : all_pass (is_next_link program c) (λ links x. links ++ x ∷ []) [] p.links ≡ true
  pub held : all_pass (is_next_message program c p.clock p.links) (λ last h. put_number h.msg.to h.msg.k last) [] p.held ≡ true
  pub senders : all_pass (is_next_sender program c) (λ senders s. senders ++ s.0.0 ∷ []) [] p.senders ≡ true

-- one field, and what is read behind it ---------------------------------------------------------

record Behind {A B : Type 0} (read : List ℕ → Option (A × List ℕ)) (bytes : List ℕ) (f : A × List ℕ → Reading B) (y : B × List ℕ) : Type 0 where
  value : A
  rest : List ℕ
  is : read bytes ≡ Some (value, rest)
  goes : f (value, rest) ≡ Ok y

number_came : {A B : Type 0} (read : List ℕ → Option (A × List ℕ)) (bytes : List ℕ) (f : A × List ℕ → Reading B) (y : B × List ℕ) → (field read any bytes >>= f) ≡ Ok y → Behind read bytes f y
number_came read bytes f y e =
    let x = came (field read any bytes) f y e in
    let t = field_came read any bytes x.0 x.1 in
    record { value = x.0.0; rest = x.0.1; is = t.read_is; goes = x.2 }

record BehindVars {B : Type 0} (test : ℕ → Bool) (bytes : List ℕ) (f : List ℕ → Reading B) (y : B × List ℕ) : Type 0 where
  vars : List ℤ
  rest : List ℕ
  are : IsListed w8 value_at bytes vars rest
  passes : test (length vars) ≡ true
  goes : f rest ≡ Ok y

vars_came : {B : Type 0} (test : ℕ → Bool) (bytes : List ℕ) (f : List ℕ → Reading B) (y : B × List ℕ) → (counted_values test bytes >>= (λ x. f x.1)) ≡ Ok y → BehindVars test bytes f y
vars_came test bytes f y e =
    let x = came (counted_values test bytes) (λ x. f x.1) y e in
    let t = counted_came test bytes x.0 x.1 in
    let len : length t.1.0 ≡ t.0.0 = values_length t.0.0 t.0.1 t.1 t.2.values_are in
    record {
      vars = t.1.0;
      rest = t.1.1;
      are = record { n = t.0.0; front = t.0.1; count_is = t.2.count_is; items_are = many_values t.0.0 t.0.1 ∙ t.2.values_are };
      passes = ap test len ∙ t.2.test_is;
      goes = ap f (sym t.3) ∙ x.2;
    }

record BehindLast {B : Type 0} (program : Program) (begun : ℕ) (bytes : List ℕ) (f : List ℕ → Reading B) (y : B × List ℕ) : Type 0 where
  last : Option (ComId × ℕ)
  rest : List ℕ
  is : last_at bytes ≡ Some (last, rest)
  passes : is_last program begun last ≡ true
  goes : f rest ≡ Ok y

txn_came : {B : Type 0} (program : Program) (begun : ℕ) (bytes : List ℕ) (f : List ℕ → Reading B) (y : B × List ℕ) → (last_txn program begun bytes >>= (λ x. f x.1)) ≡ Ok y → BehindLast program begun bytes f y
txn_came program begun bytes f y e =
    let x = came (last_txn program begun bytes) (λ x. f x.1) y e in
    let t = last_came program begun bytes x.0 x.1 in
    record { last = t.0.0; rest = t.0.1; is = t.1; passes = t.2; goes = ap f (sym t.3) ∙ x.2 }

record BehindItems {A B C : Type 0} (w : Width) (read : List ℕ → Option (B × List ℕ)) (test : A → B → Bool) (next : A → B → A) (a : A) (bytes : List ℕ) (f : A × List ℕ → Reading C) (y : C × List ℕ) : Type 0 where
  items : List B
  rest : List ℕ
  are : IsListed w read bytes items rest
  passes : all_pass test next a items ≡ true
  goes : f (behind next a items, rest) ≡ Ok y

listed_came : {A B C : Type 0} (w : Width) (step : A → List ℕ → Reading A) (read : List ℕ → Option (B × List ℕ)) (test : A → B → Bool) (next : A → B → A) → Walks step read test next → (a : A) (bytes : List ℕ) (f : A × List ℕ → Reading C) (y : C × List ℕ)
    → (field (number_at w) any bytes >>= (λ n. items step n.0 a n.1 >>= f)) ≡ Ok y → BehindItems w read test next a bytes f y
listed_came w step read test next walk a bytes f y e =
    let n = number_came (number_at w) bytes (λ n. items step n.0 a n.1 >>= f) y e in
    let x = came (items step n.value a n.rest) f y n.goes in
    let t = items_came walk n.value a n.rest x.0 x.1 in
    record {
      items = t.0.0;
      rest = t.0.1;
      are = record { n = n.value; front = n.rest; count_is = n.is; items_are = t.1 };
      passes = t.2;
      goes = ap f (sym t.3) ∙ x.2;
    }

-- the whole, from its end on --------------------------------------------------------------------

abbrev pub links_next : Numbers → ComId × ℕ → Numbers
links_next links x = links ++ x ∷ []

abbrev pub held_next : Numbers → Held → Numbers
held_next last h = put_number h.msg.to h.msg.k last

abbrev pub senders_next : List ℕ → Part → List ℕ
senders_next senders s = senders ++ s.0.0 ∷ []

abbrev pub from_senders : Program → ComId → List ℕ → Reading ℕ
from_senders program c bytes = field (number_at w8) any bytes >>= (λ n. items (sender program c) n.0 [] n.1 >>= (λ x. at_end x.1))

abbrev pub from_held : Program → ComId → ℕ → Numbers → List ℕ → Reading ℕ
from_held program c clock links bytes = field (number_at w32) any bytes >>= (λ n. items (message program c clock links) n.0 [] n.1 >>= (λ x. from_senders program c x.1))

abbrev pub from_links : Program → ComId → ℕ → List ℕ → Reading ℕ
from_links program c clock bytes = field (number_at w8) any bytes >>= (λ n. items (link program c) n.0 [] n.1 >>= (λ x. from_held program c clock x.0 x.1))

abbrev pub from_shelf : Program → ComId → ℕ → ℕ → List ℕ → Reading ℕ
from_shelf program c clock made bytes = field (number_at w32) any bytes >>= (λ n. items (output program made) n.0 0 n.1 >>= (λ x. from_links program c clock x.1))

abbrev pub from_made : Program → ComId → ℕ → List ℕ → Reading ℕ
from_made program c clock bytes = field time_at any bytes >>= (λ made. from_shelf program c clock made.0 made.1)

abbrev pub from_begun : Program → ComId → ℕ → List ℕ → Reading ℕ
from_begun program c clock bytes = field time_at any bytes >>= (λ begun. last_txn program begun.0 begun.1 >>= (λ x. from_made program c clock x.1))

abbrev pub from_vars : Program → ComId → ℕ → List ℕ → Reading ℕ
from_vars program c clock bytes = counted_values (λ n. n == length (first_vol program c).vars) bytes >>= (λ x. from_begun program c clock x.1)

pub image_parts : (program : Program) (c : ComId) (bytes : List ℕ) → image program c bytes ≡ (field time_at any bytes >>= (λ clock. from_vars program c clock.0 clock.1))
unfolding image
image_parts program c bytes = refl

record FromSenders (program : Program) (c : ComId) (bytes : List ℕ) : Type 0 where
  senders : List Part
  are : IsListed w8 part_at bytes senders []
  passes : all_pass (is_next_sender program c) senders_next [] senders ≡ true

record FromHeld (program : Program) (c : ComId) (clock : ℕ) (links : Numbers) (bytes : List ℕ) : Type 0 where
  held : List Held
  rest : List ℕ
  are : IsListed w32 (message_at c) bytes held rest
  passes : all_pass (is_next_message program c clock links) held_next [] held ≡ true
  more : FromSenders program c rest

record FromLinks (program : Program) (c : ComId) (clock : ℕ) (bytes : List ℕ) : Type 0 where
  links : Numbers
  rest : List ℕ
  are : IsListed w8 link_at bytes links rest
  passes : all_pass (is_next_link program c) links_next [] links ≡ true
  more : FromHeld program c clock links rest

record FromShelf (program : Program) (c : ComId) (clock made : ℕ) (bytes : List ℕ) : Type 0 where
  waiting : List Waiting
  rest : List ℕ
  are : IsListed w32 output_at bytes waiting rest
  passes : all_pass (is_next_output program made) (λ last w. w.output.m) 0 waiting ≡ true
  more : FromLinks program c clock rest

record FromMade (program : Program) (c : ComId) (clock : ℕ) (bytes : List ℕ) : Type 0 where
  made : ℕ
  rest : List ℕ
  is : time_at bytes ≡ Some (made, rest)
  more : FromShelf program c clock made rest

record FromLast (program : Program) (c : ComId) (clock begun : ℕ) (bytes : List ℕ) : Type 0 where
  last : Option (ComId × ℕ)
  rest : List ℕ
  is : last_at bytes ≡ Some (last, rest)
  passes : is_last program begun last ≡ true
  more : FromMade program c clock rest

record FromBegun (program : Program) (c : ComId) (clock : ℕ) (bytes : List ℕ) : Type 0 where
  begun : ℕ
  rest : List ℕ
  is : time_at bytes ≡ Some (begun, rest)
  more : FromLast program c clock begun rest

record FromVars (program : Program) (c : ComId) (clock : ℕ) (bytes : List ℕ) : Type 0 where
  vars : List ℤ
  rest : List ℕ
  are : IsListed w8 value_at bytes vars rest
  passes : (length vars == length (first_vol program c).vars) ≡ true
  more : FromBegun program c clock rest

record FromClock (program : Program) (c : ComId) (bytes : List ℕ) : Type 0 where
  clock : ℕ
  rest : List ℕ
  is : time_at bytes ≡ Some (clock, rest)
  more : FromVars program c clock rest

end_came : (bytes : List ℕ) (y : ℕ × List ℕ) → at_end bytes ≡ Ok y → bytes ≡ []
end_came [] y e = refl
end_came (b ∷ bytes) y e = absurd cc

senders_came : (program : Program) (c : ComId) (bytes : List ℕ) (y : ℕ × List ℕ) → from_senders program c bytes ≡ Ok y → FromSenders program c bytes
senders_came program c bytes y e =
    let s = listed_came w8 (sender program c) part_at (is_next_sender program c) senders_next (senders_walk program c) [] bytes (λ x. at_end x.1) y e in
    record { senders = s.items; are = subst (λ z. IsListed w8 part_at bytes s.items z) (end_came s.rest y s.goes) s.are; passes = s.passes }

held_came : (program : Program) (c : ComId) (clock : ℕ) (links : Numbers) (bytes : List ℕ) (y : ℕ × List ℕ) → from_held program c clock links bytes ≡ Ok y → FromHeld program c clock links bytes
held_came program c clock links bytes y e =
    let s = listed_came w32 (message program c clock links) (message_at c) (is_next_message program c clock links) held_next (messages_walk program c clock links) [] bytes (λ x. from_senders program c x.1) y e in
    record { held = s.items; rest = s.rest; are = s.are; passes = s.passes; more = senders_came program c s.rest y s.goes }

pub behind_all : (links xs : Numbers) → behind links_next links xs ≡ links ++ xs
behind_all links [] = sym (append-nil links)
behind_all links (x ∷ xs) = behind_all (links ++ x ∷ []) xs ∙ append_assoc links (x ∷ []) xs

links_came : (program : Program) (c : ComId) (clock : ℕ) (bytes : List ℕ) (y : ℕ × List ℕ) → from_links program c clock bytes ≡ Ok y → FromLinks program c clock bytes
links_came program c clock bytes y e =
    let s = listed_came w8 (link program c) link_at (is_next_link program c) links_next (links_walk program c) [] bytes (λ x. from_held program c clock x.0 x.1) y e in
    record { links = s.items; rest = s.rest; are = s.are; passes = s.passes; more = held_came program c clock s.items s.rest y (ap (λ z. from_held program c clock z s.rest) (sym (behind_all [] s.items)) ∙ s.goes) }

shelf_came : (program : Program) (c : ComId) (clock made : ℕ) (bytes : List ℕ) (y : ℕ × List ℕ) → from_shelf program c clock made bytes ≡ Ok y → FromShelf program c clock made bytes
shelf_came program c clock made bytes y e =
    let s = listed_came w32 (output program made) output_at (is_next_output program made) (λ last w. w.output.m) (outputs_walk program made) 0 bytes (λ x. from_links program c clock x.1) y e in
    record { waiting = s.items; rest = s.rest; are = s.are; passes = s.passes; more = links_came program c clock s.rest y s.goes }

made_came : (program : Program) (c : ComId) (clock : ℕ) (bytes : List ℕ) (y : ℕ × List ℕ) → from_made program c clock bytes ≡ Ok y → FromMade program c clock bytes
made_came program c clock bytes y e =
    let s = number_came time_at bytes (λ made. from_shelf program c clock made.0 made.1) y e in
    record { made = s.value; rest = s.rest; is = s.is; more = shelf_came program c clock s.value s.rest y s.goes }

begun_came : (program : Program) (c : ComId) (clock : ℕ) (bytes : List ℕ) (y : ℕ × List ℕ) → from_begun program c clock bytes ≡ Ok y → FromBegun program c clock bytes
begun_came program c clock bytes y e =
    let s = number_came time_at bytes (λ begun. last_txn program begun.0 begun.1 >>= (λ x. from_made program c clock x.1)) y e in
    let t = txn_came program s.value s.rest (from_made program c clock) y s.goes in
    record { begun = s.value; rest = s.rest; is = s.is; more = record { last = t.last; rest = t.rest; is = t.is; passes = t.passes; more = made_came program c clock t.rest y t.goes } }

clock_came : (program : Program) (c : ComId) (bytes : List ℕ) (y : ℕ × List ℕ) → image program c bytes ≡ Ok y → FromClock program c bytes
clock_came program c bytes y e =
    let s = number_came time_at bytes (λ clock. from_vars program c clock.0 clock.1) y (sym (image_parts program c bytes) ∙ e) in
    let t = vars_came (λ n. n == length (first_vol program c).vars) s.rest (from_begun program c s.value) y s.goes in
    record { clock = s.value; rest = s.rest; is = s.is; more = record { vars = t.vars; rest = t.rest; are = t.are; passes = t.passes; more = begun_came program c s.value t.rest y t.goes } }

abbrev parts_in : {program : Program} {c : ComId} {bytes : List ℕ} → FromClock program c bytes → Parts
parts_in r = record {
  clock = r.clock;
  vars = r.more.vars;
  begun = r.more.more.begun;
  last = r.more.more.more.last;
  made = r.more.more.more.more.made;
  waiting = r.more.more.more.more.more.waiting;
  links = r.more.more.more.more.more.more.links;
  held = r.more.more.more.more.more.more.more.held;
  senders = r.more.more.more.more.more.more.more.more.senders;
}

parts_read : (program : Program) (c : ComId) (bytes : List ℕ) (r : FromClock program c bytes) → IsRead c bytes (parts_in r) [] × PassesTests program c (parts_in r)
parts_read program c bytes r = (
  record {
    b1 = r.rest;
    clock = r.is;
    b2 = r.more.rest;
    vars = r.more.are;
    b3 = r.more.more.rest;
    begun = r.more.more.is;
    b4 = r.more.more.more.rest;
    last = r.more.more.more.is;
    b5 = r.more.more.more.more.rest;
    made = r.more.more.more.more.is;
    b6 = r.more.more.more.more.more.rest;
    waiting = r.more.more.more.more.more.are;
    b7 = r.more.more.more.more.more.more.rest;
    links = r.more.more.more.more.more.more.are;
    b8 = r.more.more.more.more.more.more.more.rest;
    held = r.more.more.more.more.more.more.more.are;
    senders = r.more.more.more.more.more.more.more.more.are;
  },
  record {
    vars = r.more.passes;
    last = r.more.more.more.passes;
    waiting = r.more.more.more.more.more.passes;
    links = r.more.more.more.more.more.more.passes;
    held = r.more.more.more.more.more.more.more.passes;
    senders = r.more.more.more.more.more.more.more.more.passes;
  },
)

-- the fields of an image, with their tests
pub image_came : (program : Program) (c : ComId) (bytes : List ℕ) (y : ℕ × List ℕ) → image program c bytes ≡ Ok y → (p : Parts) × IsRead c bytes p [] × PassesTests program c p
image_came program c bytes y e =
    let r = clock_came program c bytes y e in
    let both = parts_read program c bytes r in
    (parts_in r, both.0, both.1)

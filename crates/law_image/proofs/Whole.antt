-- Fields that stand in the bytes and pass their tests are read, as a state and place after place.
use Rattle.std.proofs.Common.{◌≡◌, ℕ, zero, suc, ◌+◌, Bool, true, false, cond, List, [], ◌∷◌, ◌++◌, length, map, Option, Some, None, refl, ap, sym, subst, ◌∙◌, ℤ}
use Rattle.std.specs.Prelude.{◌&&◌, ◌||◌, ◌==◌, nat_lt, Result, Ok, Err, option_and_then}
use Rattle.std.specs.List.{list_all, flat_map}
use Rattle.std.specs.Int.{Width, w8, w32}
use Rattle.std.proofs.lemmas.Bool.{and_parts, and_from}
use Rattle.ic_base.specs.declared.messages.ComId.{ComId}
use Rattle.ic_base.specs.declared.scenario.Program.{Program}
use Rattle.ic_base.specs.Programs.{is_other_pcom}
use Rattle.def_log.specs.Reading.{number_at, time_at, value_at, values_at}
use Rattle.def_log.proofs.Takes.{came as some_came, some_is}
use Rattle.def_log.proofs.Again.{goes_on as some_goes_on}
use Rattle.def_state.specs.Names.{Identity, Numbers}
use Rattle.def_state.specs.Vol.{Vol, first_vol}
use Rattle.def_state.specs.Image.{many_at, last_at, output_at, link_at, message_at, part_at, sender_at, identities, rises_above, fields_at}
use Rattle.def_state.specs.ImagePlaces.{Reading, ◌>>=◌, field, any, items, counted_values, last_txn, output, link, message, sender, image}
use Rattle.law_image.proofs.Fields.{goes_on, field_is, all_pass, behind, Walks, items_came, items_goes}
use Rattle.law_image.proofs.Items.{Part, is_last, is_next_output, is_next_link, is_next_message, is_next_sender, are_numbers, counted_goes, many_values, values_length, last_goes, outputs_walk, links_walk, messages_walk, senders_walk}
use Rattle.law_image.proofs.Places.{Parts, vol_of, IsListed, IsRead, PassesTests, links_next, held_next, senders_next, from_senders, from_held, from_links, from_shelf, from_made, from_begun, from_vars, image_parts, behind_all}

-- place after place -------------------------------------------------------------------------------

listed_goes : {A B C : Type 0} (w : Width) (step : A → List ℕ → Reading A) (read : List ℕ → Option (B × List ℕ)) (test : A → B → Bool) (next : A → B → A) → Walks step read test next → (a : A) (bytes : List ℕ) (f : A × List ℕ → Reading C) (xs : List B) (rest : List ℕ)
    → IsListed w read bytes xs rest → all_pass test next a xs ≡ true → (field (number_at w) any bytes >>= (λ n. items step n.0 a n.1 >>= f)) ≡ f (behind next a xs, rest)
listed_goes w step read test next walk a bytes f xs rest is passes =
    goes_on (λ n. items step n.0 a n.1 >>= f) (field (number_at w) any bytes) (is.n, is.front) (field_is (number_at w) any bytes (is.n, is.front) is.count_is refl)
    ∙ goes_on f (items step is.n a is.front) (behind next a xs, rest) (items_goes walk is.n a is.front (xs, rest) is.items_are passes)

vars_go : (test : ℕ → Bool) (bytes : List ℕ) (f : List ℕ → Reading ℕ) (vars : List ℤ) (rest : List ℕ) → IsListed w8 value_at bytes vars rest → test (length vars) ≡ true → (counted_values test bytes >>= (λ x. f x.1)) ≡ f rest
vars_go test bytes f vars rest is passes =
    let are : values_at is.n is.front ≡ Some (vars, rest) = sym (many_values is.n is.front) ∙ is.items_are in
    let len : length vars ≡ is.n = values_length is.n is.front (vars, rest) are in
    let v = counted_goes test bytes (is.n, is.front) (vars, rest) (record { count_is = is.count_is; test_is = ap test (sym len) ∙ passes; values_are = are }) in
    goes_on (λ x. f x.1) (counted_values test bytes) (v.0, rest) v.1

txn_goes : (program : Program) (begun : ℕ) (bytes : List ℕ) (f : List ℕ → Reading ℕ) (last : Option (ComId × ℕ)) (rest : List ℕ) → last_at bytes ≡ Some (last, rest) → is_last program begun last ≡ true → (last_txn program begun bytes >>= (λ x. f x.1)) ≡ f rest
txn_goes program begun bytes f last rest is passes =
    let n = last_goes program begun bytes (last, rest) is passes in
    goes_on (λ x. f x.1) (last_txn program begun bytes) (n.0, rest) n.1

number_goes : {A : Type 0} (read : List ℕ → Option (A × List ℕ)) (bytes : List ℕ) (f : A × List ℕ → Reading ℕ) (x : A × List ℕ) → read bytes ≡ Some x → (field read any bytes >>= f) ≡ f x
number_goes read bytes f x is = goes_on f (field read any bytes) x (field_is read any bytes x is refl)

senders_go : (program : Program) (c : ComId) (bytes : List ℕ) (senders : List Part) → IsListed w8 part_at bytes senders [] → all_pass (is_next_sender program c) senders_next [] senders ≡ true → from_senders program c bytes ≡ Ok (0, [])
senders_go program c bytes senders is passes = listed_goes w8 (sender program c) part_at (is_next_sender program c) senders_next (senders_walk program c) [] bytes _ senders [] is passes

-- bytes whose fields pass their tests are an image
pub image_goes : (program : Program) (c : ComId) (bytes : List ℕ) (p : Parts) → IsRead c bytes p [] → PassesTests program c p → image program c bytes ≡ Ok (0, [])
image_goes program c bytes p r t =
    image_parts program c bytes
    ∙ number_goes time_at bytes (λ clock. from_vars program c clock.0 clock.1) (p.clock, r.b1) r.clock
    ∙ vars_go (λ n. n == length (first_vol program c).vars) r.b1 (from_begun program c p.clock) p.vars r.b2 r.vars t.vars
    ∙ number_goes time_at r.b2 (λ begun. last_txn program begun.0 begun.1 >>= (λ x. from_made program c p.clock x.1)) (p.begun, r.b3) r.begun
    ∙ txn_goes program p.begun r.b3 (from_made program c p.clock) p.last r.b4 r.last t.last
    ∙ number_goes time_at r.b4 (λ made. from_shelf program c p.clock made.0 made.1) (p.made, r.b5) r.made
    ∙ listed_goes w32 (output program p.made) output_at (is_next_output program p.made) (λ last w. w.output.m) (outputs_walk program p.made) 0 r.b5 (λ x. from_links program c p.clock x.1) p.waiting r.b6 r.waiting t.waiting
    ∙ listed_goes w8 (link program c) link_at (is_next_link program c) links_next (links_walk program c) [] r.b6 (λ x. from_held program c p.clock x.0 x.1) p.links r.b7 r.links t.links
    ∙ ap (λ z. from_held program c p.clock z r.b7) (behind_all [] p.links)
    ∙ listed_goes w32 (message program c p.clock p.links) (message_at c) (is_next_message program c p.clock p.links) held_next (messages_walk program c p.clock p.links) [] r.b7 (λ x. from_senders program c x.1) p.held r.b8 r.held t.held
    ∙ senders_go program c r.b8 p.senders r.senders t.senders

-- as a state ----------------------------------------------------------------------------------------

-- each sender's numbers above rise
abbrev pub all_rise : List Part → Bool
all_rise ps = list_all (λ (s : Part). rises_above (s.1 + 1) s.2) ps

abbrev pub taken_by : Part → List Identity
taken_by s = identities s.0 s.1 s.2

pub passed_rise : (program : Program) (c : ComId) (senders : List ℕ) (ps : List Part) → all_pass (is_next_sender program c) senders_next senders ps ≡ true → all_rise ps ≡ true
passed_rise program c senders [] h = refl
passed_rise program c senders (s ∷ ss) h =
    let parts = and_parts (is_next_sender program c senders s) (all_pass (is_next_sender program c) senders_next (senders_next senders s) ss) h in
    let numbers = and_parts (is_other_pcom program c s.0 && list_all (λ x. nat_lt x s.0.0) senders) (are_numbers s.1 s.2) parts.0 in
    let rises = and_parts (nat_lt 0 s.1 || nat_lt 0 (length s.2)) (rises_above (s.1 + 1) s.2) numbers.1 in
    and_from (rises_above (s.1 + 1) s.2) (all_rise ss) rises.1 (passed_rise program c (senders_next senders s) ss parts.1)

sender_goes : (bytes : List ℕ) (s : Part × List ℕ) → part_at bytes ≡ Some s → rises_above (s.0.1 + 1) s.0.2 ≡ true → sender_at bytes ≡ Some (taken_by s.0, s.1)
unfolding sender_at
sender_goes bytes s e r = some_goes_on _ (part_at bytes) s e ∙ ap (λ b. cond b (taken (taken_by s.0) s.1) None) r
  where
    taken : List Identity → List ℕ → Option (List Identity × List ℕ)
    taken xs rest = Some (xs, rest)

senders_taken : (n : ℕ) (bytes : List ℕ) (ps : List Part × List ℕ) → many_at part_at n bytes ≡ Some ps → all_rise ps.0 ≡ true → many_at sender_at n bytes ≡ Some (map taken_by ps.0, ps.1)
unfolding many_at
senders_taken zero bytes ps e r = let none : List Part × List ℕ = ([], bytes) in ap (λ (z : List Part × List ℕ). taken (map taken_by z.0) z.1) (some_is none ps e)
  where
    taken : List (List Identity) → List ℕ → Option (List (List Identity) × List ℕ)
    taken xs rest = Some (xs, rest)
senders_taken (suc n) bytes ps e r =
    let s = some_came _ (part_at bytes) ps e in
    let ss = some_came _ (many_at part_at n s.0.1) ps s.2 in
    let whole : List Part × List ℕ = (s.0.0 ∷ ss.0.0, ss.0.1) in
    let same : whole ≡ ps = some_is whole ps ss.2 in
    let rise : all_rise whole.0 ≡ true = ap (λ (z : List Part × List ℕ). all_rise z.0) same ∙ r in
    let parts = and_parts (rises_above (s.0.0.1 + 1) s.0.0.2) (all_rise ss.0.0) rise in
    some_goes_on _ (sender_at bytes) (taken_by s.0.0, s.0.1) (sender_goes bytes s.0 s.1 parts.0)
    ∙ some_goes_on _ (many_at sender_at n s.0.1) (map taken_by ss.0.0, ss.0.1) (senders_taken n s.0.1 ss.0 ss.1 parts.1)
    ∙ ap (λ (z : List Part × List ℕ). taken (map taken_by z.0) z.1) same
  where
    taken : List (List Identity) → List ℕ → Option (List (List Identity) × List ℕ)
    taken xs rest = Some (xs, rest)

pub all_together : (ps : List Part) → flat_map (λ (xs : List Identity). xs) (map taken_by ps) ≡ flat_map taken_by ps
all_together [] = refl
all_together (s ∷ ss) = ap (λ l. taken_by s ++ l) (all_together ss)

abbrev pub vol_with : Parts → List Identity → Vol
vol_with p taken = record (vol_of p) { inbox = record { taken = taken; receipts = [] } }

abbrev read_as : Vol → List ℕ → Option (Vol × List ℕ)
read_as v rest = Some (v, rest)

-- the fields give the state
pub fields_go : (program : Program) (c : ComId) (bytes : List ℕ) (p : Parts) (rest : List ℕ) → IsRead c bytes p rest → all_rise p.senders ≡ true → fields_at program c bytes ≡ Some (vol_of p, rest)
unfolding fields_at
fields_go program c bytes p rest r rise =
    some_goes_on _ (time_at bytes) (p.clock, r.b1) r.clock
    ∙ some_goes_on _ (number_at w8 r.b1) (r.vars.n, r.vars.front) r.vars.count_is
    ∙ some_goes_on _ (values_at r.vars.n r.vars.front) (p.vars, r.b2) (sym (many_values r.vars.n r.vars.front) ∙ r.vars.items_are)
    ∙ some_goes_on _ (time_at r.b2) (p.begun, r.b3) r.begun
    ∙ some_goes_on _ (last_at r.b3) (p.last, r.b4) r.last
    ∙ some_goes_on _ (time_at r.b4) (p.made, r.b5) r.made
    ∙ some_goes_on _ (number_at w32 r.b5) (r.waiting.n, r.waiting.front) r.waiting.count_is
    ∙ some_goes_on _ (many_at output_at r.waiting.n r.waiting.front) (p.waiting, r.b6) r.waiting.items_are
    ∙ some_goes_on _ (number_at w8 r.b6) (r.links.n, r.links.front) r.links.count_is
    ∙ some_goes_on _ (many_at link_at r.links.n r.links.front) (p.links, r.b7) r.links.items_are
    ∙ some_goes_on _ (number_at w32 r.b7) (r.held.n, r.held.front) r.held.count_is
    ∙ some_goes_on _ (many_at (message_at c) r.held.n r.held.front) (p.held, r.b8) r.held.items_are
    ∙ some_goes_on _ (number_at w8 r.b8) (r.senders.n, r.senders.front) r.senders.count_is
    ∙ some_goes_on _ (many_at sender_at r.senders.n r.senders.front) (map taken_by p.senders, rest) (senders_taken r.senders.n r.senders.front (p.senders, rest) r.senders.items_are rise)
    ∙ ap (λ z. read_as (vol_with p z) rest) (all_together p.senders)

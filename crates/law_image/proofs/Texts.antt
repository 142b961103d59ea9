-- An image's fields and its bytes give one another.
use Rattle.std.proofs.Common.{◌≡◌, ℕ, ◌+◌, ◌^◌, ◌<◌, ◌≤◌, List, [], ◌∷◌, ◌++◌, length, map, Option, Some, None, refl, ap, sym, subst, ◌∙◌, append_assoc, ℤ}
use Rattle.std.specs.Prelude.{FitsSigned}
use Rattle.std.specs.List.{flat_map, AllByRecursion}
use Rattle.std.specs.Int.{w8, w32, w64, to_be_bytes}
use Rattle.ic_base.specs.declared.limits.TheConstants.{GREATEST_NUMBER}
use Rattle.ic_base.specs.declared.messages.ComId.{ComId}
use Rattle.def_log.specs.Spelling.{number, value}
use Rattle.def_log.proofs.Takes.{IsBytes, Takes, time_takes}
use Rattle.def_log.proofs.Again.{time_again}
use Rattle.def_state.specs.Image.{counted, listed, last_bytes, output_bytes, message_bytes, link_bytes}
use Rattle.law_image.specs.Readable.{LastFits, LinkFits}
use Rattle.law_image.proofs.Places.{Parts, IsListed, IsRead}
use Rattle.law_image.proofs.Spelled.{in_byte, in_word, listed_taken, listed_again, values_spell, WaitingFits, outputs_spell, links_spell, HeldFits, messages_spell, part_bytes, PartFits, parts_spell, last_again, last_taken}

-- the fields can be spelled
pub record AreSpelled (c : ComId) (p : Parts) : Type 0 where
  pub clock : p.clock ≤ GREATEST_NUMBER
  pub few_vars : length p.vars < 256
  pub vars : AllByRecursion (FitsSigned w64) p.vars
  pub begun : p.begun ≤ GREATEST_NUMBER
  pub last : LastFits p.last
  pub made : p.made ≤ GREATEST_NUMBER
  pub few_outputs : length p.waiting < 2 ^ 32
  pub outputs : AllByRecursion WaitingFits p.waiting
  pub few_links : length p.links < 256
  pub links : AllByRecursion LinkFits p.links
  pub few_held : length p.held < 2 ^ 32
  pub held : AllByRecursion (HeldFits c) p.held
  pub few_senders : length p.senders < 256
  pub senders : AllByRecursion PartFits p.senders

-- the fields in a row, from their end on
abbrev pub senders_text : Parts → List ℕ → List ℕ
senders_text p rest = (length p.senders ∷ flat_map part_bytes p.senders) ++ rest

abbrev held_text : Parts → List ℕ → List ℕ
held_text p rest = to_be_bytes w32 (length p.held) ++ (flat_map (λ h. message_bytes h.msg) p.held ++ senders_text p rest)

abbrev links_text : Parts → List ℕ → List ℕ
links_text p rest = (length p.links ∷ []) ++ (flat_map link_bytes p.links ++ held_text p rest)

abbrev shelf_text : Parts → List ℕ → List ℕ
shelf_text p rest = to_be_bytes w32 (length p.waiting) ++ (flat_map (λ w. output_bytes w.output) p.waiting ++ links_text p rest)

abbrev made_text : Parts → List ℕ → List ℕ
made_text p rest = number p.made ++ shelf_text p rest

abbrev last_text : Parts → List ℕ → List ℕ
last_text p rest = last_bytes p.last ++ made_text p rest

abbrev begun_text : Parts → List ℕ → List ℕ
begun_text p rest = number p.begun ++ last_text p rest

abbrev vars_text : Parts → List ℕ → List ℕ
vars_text p rest = (length p.vars ∷ []) ++ (flat_map value p.vars ++ begun_text p rest)

abbrev pub text_of : Parts → List ℕ → List ℕ
text_of p rest = number p.clock ++ vars_text p rest

-- what was read is spelled so
pub read_text : (c : ComId) (bytes : List ℕ) (p : Parts) (rest : List ℕ) → IsBytes bytes → IsRead c bytes p rest → (bytes ≡ text_of p rest) × AreSpelled c p
read_text c bytes p rest fits r =
    let t1 = time_takes bytes p.clock r.b1 fits r.clock in
    let t2 = listed_taken in_byte values_spell r.b1 p.vars r.b2 t1.0.rest_fits r.vars in
    let t3 = time_takes r.b2 p.begun r.b3 t2.0.rest_fits r.begun in
    let t4 = last_taken r.b3 (p.last, r.b4) t3.0.rest_fits r.last in
    let t5 = time_takes r.b4 p.made r.b5 t4.0.rest_fits r.made in
    let t6 = listed_taken in_word outputs_spell r.b5 p.waiting r.b6 t5.0.rest_fits r.waiting in
    let t7 = listed_taken in_byte links_spell r.b6 p.links r.b7 t6.0.rest_fits r.links in
    let t8 = listed_taken in_word (messages_spell c) r.b7 p.held r.b8 t7.0.rest_fits r.held in
    let t9 = listed_taken in_byte parts_spell r.b8 p.senders rest t8.0.rest_fits r.senders in
    let e9 : r.b8 ≡ senders_text p rest = t9.0.parts in
    let e8 : r.b7 ≡ held_text p rest = t8.0.parts ∙ append_assoc (to_be_bytes w32 (length p.held)) (flat_map (λ h. message_bytes h.msg) p.held) r.b8 ∙ ap (λ (l : List ℕ). to_be_bytes w32 (length p.held) ++ (flat_map (λ h. message_bytes h.msg) p.held ++ l)) e9 in
    let e7 : r.b6 ≡ links_text p rest = t7.0.parts ∙ ap (λ (l : List ℕ). length p.links ∷ (flat_map link_bytes p.links ++ l)) e8 in
    let e6 : r.b5 ≡ shelf_text p rest = t6.0.parts ∙ append_assoc (to_be_bytes w32 (length p.waiting)) (flat_map (λ w. output_bytes w.output) p.waiting) r.b6 ∙ ap (λ (l : List ℕ). to_be_bytes w32 (length p.waiting) ++ (flat_map (λ w. output_bytes w.output) p.waiting ++ l)) e7 in
    let e5 : r.b4 ≡ made_text p rest = t5.0.parts ∙ ap (λ (l : List ℕ). number p.made ++ l) e6 in
    let e4 : r.b3 ≡ last_text p rest = t4.0.parts ∙ ap (λ (l : List ℕ). last_bytes p.last ++ l) e5 in
    let e3 : r.b2 ≡ begun_text p rest = t3.0.parts ∙ ap (λ (l : List ℕ). number p.begun ++ l) e4 in
    let e2 : r.b1 ≡ vars_text p rest = t2.0.parts ∙ ap (λ (l : List ℕ). length p.vars ∷ (flat_map value p.vars ++ l)) e3 in (
      t1.0.parts ∙ ap (λ (l : List ℕ). number p.clock ++ l) e2,
      record {
        clock = t1.1;
        few_vars = t2.1;
        vars = t2.2;
        begun = t3.1;
        last = t4.1;
        made = t5.1;
        few_outputs = t6.1;
        outputs = t6.2;
        few_links = t7.1;
        links = t7.2;
        few_held = t8.1;
        held = t8.2;
        few_senders = t9.1;
        senders = t9.2;
      },
    )

-- what is spelled is read again
pub text_read : (c : ComId) (p : Parts) (rest : List ℕ) → AreSpelled c p → IsRead c (text_of p rest) p rest
text_read c p rest f = record {
  b1 = vars_text p rest;
  clock = time_again p.clock (vars_text p rest) f.clock;
  b2 = begun_text p rest;
  vars = listed_again in_byte values_spell p.vars (begun_text p rest) f.few_vars f.vars;
  b3 = last_text p rest;
  begun = time_again p.begun (last_text p rest) f.begun;
  b4 = made_text p rest;
  last = last_again p.last (made_text p rest) f.last;
  b5 = shelf_text p rest;
  made = time_again p.made (shelf_text p rest) f.made;
  b6 = links_text p rest;
  waiting = listed_again in_word outputs_spell p.waiting (links_text p rest) f.few_outputs f.outputs;
  b7 = held_text p rest;
  links = listed_again in_byte links_spell p.links (held_text p rest) f.few_links f.links;
  b8 = senders_text p rest;
  held = listed_again in_word (messages_spell c) p.held (senders_text p rest) f.few_held f.held;
  senders = listed_again in_byte parts_spell p.senders rest f.few_senders f.senders;
}

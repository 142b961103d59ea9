-- The image of a state is read back.
use Rattle.std.proofs.Common.{◌≡◌, ◌∙◌, sym, ap, subst, refl, ℕ, ◌<◌, ◌≤◌, ◌^◌, Bool, true, false, cond, List, [], ◌∷◌, ◌++◌, length, map, arith, Option, Some, None, zero, suc}
use Rattle.std.specs.Prelude.{◌&&◌, option_and_then}
use Rattle.std.specs.List.{All, AllByRecursion, flat_map}
use Rattle.std.specs.Int.{w32, to_be_bytes}
use Rattle.std.proofs.lemmas.Bool.{and_from}
use Rattle.ic_base.specs.declared.messages.ComId.{ComId}
use Rattle.ic_base.specs.declared.scenario.Program.{Program}
use Rattle.def_log.proofs.Takes.{came as some_came, some_is}
use Rattle.def_log.proofs.Again.{goes_on as some_goes_on}
use Rattle.def_state.specs.Outbox.{Held}
use Rattle.def_state.specs.Shelf.{Waiting}
use Rattle.def_state.specs.Vol.{Vol}
use Rattle.def_log.specs.Spelling.{number, value}
use Rattle.def_state.specs.Image.{image_of, last_bytes, link_bytes, output_bytes, message_bytes, senders_of, image_fits, same_bytes, if_image, read_image, fields_at}
use Rattle.law_image.specs.Readable.{OutputFits, MessageFits, HasImage, waiting_as_read, held_as_read, as_read}
use Rattle.law_image.proofs.Places.{Parts, vol_of}
use Rattle.law_image.proofs.Whole.{fields_go, vol_with}
use Rattle.law_image.proofs.Spelled.{WaitingFits, HeldFits, part_bytes}
use Rattle.law_image.proofs.Texts.{AreSpelled, text_of, text_read}
use Rattle.law_image.proofs.Grouped.{part_of}
use Rattle.law_image.proofs.Exact.{parts_of, image_text, flat_mapped, length_mapped, same_is}
use Rattle.law_image.proofs.Canonical.{IsFew, senders_few, senders_fit, senders_rise, taken_again}

abbrev parts_with : Vol → List Waiting → List Held → Parts
parts_with v ws hs = record (parts_of v) { waiting = ws; held = hs }

-- the fields as they are read
abbrev parts_read : Vol → Parts
parts_read v = parts_with v (map waiting_as_read v.shelf.waiting) (map held_as_read v.outbox.held)

same_outputs : (ws : List Waiting) → flat_map (λ (w : Waiting). output_bytes w.output) (map waiting_as_read ws) ≡ flat_map (λ (w : Waiting). output_bytes w.output) ws
same_outputs ws = flat_mapped (λ (w : Waiting). output_bytes w.output) waiting_as_read ws

same_messages : (hs : List Held) → flat_map (λ (h : Held). message_bytes h.msg) (map held_as_read hs) ≡ flat_map (λ (h : Held). message_bytes h.msg) hs
same_messages hs = flat_mapped (λ (h : Held). message_bytes h.msg) held_as_read hs

-- marks and positions are no part of the bytes
same_text : (v : Vol) → text_of (parts_read v) [] ≡ text_of (parts_of v) []
same_text v =
    let p = parts_of v in
    ap (λ n. texted p n (flat_map (λ (w : Waiting). output_bytes w.output) (map waiting_as_read p.waiting)) (length (map held_as_read p.held)) (flat_map (λ (h : Held). message_bytes h.msg) (map held_as_read p.held))) (length_mapped waiting_as_read p.waiting)
    ∙ ap (λ l. texted p (length p.waiting) l (length (map held_as_read p.held)) (flat_map (λ (h : Held). message_bytes h.msg) (map held_as_read p.held))) (same_outputs p.waiting)
    ∙ ap (λ n. texted p (length p.waiting) (flat_map (λ (w : Waiting). output_bytes w.output) p.waiting) n (flat_map (λ (h : Held). message_bytes h.msg) (map held_as_read p.held))) (length_mapped held_as_read p.held)
    ∙ ap (λ l. texted p (length p.waiting) (flat_map (λ (w : Waiting). output_bytes w.output) p.waiting) (length p.held) l) (same_messages p.held)
  where
    texted : Parts → ℕ → List ℕ → ℕ → List ℕ → List ℕ
    texted p n outputs m messages =
        number p.clock ++ ((length p.vars ∷ []) ++ (flat_map value p.vars ++ (number p.begun ++ (last_bytes p.last ++ (number p.made
        ++ (to_be_bytes w32 n ++ (outputs ++ ((length p.links ∷ []) ++ (flat_map link_bytes p.links ++ (to_be_bytes w32 m ++ (messages ++ ((length p.senders ∷ flat_map part_bytes p.senders) ++ []))))))))))))

image_as_read : (v : Vol) → image_of (as_read v) ≡ image_of v
image_as_read v = image_text (as_read v) ∙ same_text v ∙ sym (image_text v)

outputs_fit : (ws : List Waiting) → AllByRecursion (λ w. OutputFits w.output) ws → AllByRecursion WaitingFits (map waiting_as_read ws)
outputs_fit [] h = tt
outputs_fit (w ∷ ws) h = (record { fits = h.0; due = refl }, outputs_fit ws h.1)

messages_fit : (c : ComId) (hs : List Held) → AllByRecursion (λ h. MessageFits c h.msg) hs → AllByRecursion (HeldFits c) (map held_as_read hs)
messages_fit c [] h = tt
messages_fit c (x ∷ xs) h = (record { fits = h.0; due = refl; put = refl; unstable = refl }, messages_fit c xs h.1)

each_of : {X : Type 0} (P : X → Type 0) (xs : List X) → All P xs → AllByRecursion P xs
each_of P [] h = tt
each_of P (x ∷ xs) h = (h 0 x (omega arith), each_of P xs (λ k d l. h (suc k) d (omega arith)))

are_spelled : (c : ComId) (v : Vol) → HasImage c v → AreSpelled c (parts_read v)
are_spelled c v h =
    let few = senders_few v.inbox in
    let senders = length_mapped part_of (senders_of v.inbox) in
    let outputs = length_mapped waiting_as_read v.shelf.waiting in
    let held = length_mapped held_as_read v.outbox.held in
    record {
      clock = h.clock;
      few_vars = omega (arith, h.counts.vars);
      vars = h.vars;
      begun = h.begun;
      last = h.last;
      made = h.made;
      few_outputs = omega (arith, h.counts.waiting, outputs);
      outputs = outputs_fit v.shelf.waiting h.outputs;
      few_links = omega (arith, h.counts.links);
      links = h.links;
      few_held = omega (arith, h.counts.held, held);
      held = messages_fit c v.outbox.held h.held;
      few_senders = omega (arith, few, senders);
      senders = senders_fit v.inbox.taken h.taken (each_of IsFew (senders_of v.inbox) h.counts.above);
    }

abbrev read_as : Vol → List ℕ → Option (Vol × List ℕ)
read_as v rest = Some (v, rest)

-- the fields of a state's image are the state, as it is read
fields_again : (program : Program) (c : ComId) (v : Vol) → HasImage c v → fields_at program c (image_of v) ≡ Some (as_read v, [])
fields_again program c v h =
    ap (fields_at program c) (image_text v ∙ sym (same_text v))
    ∙ fields_go program c (text_of (parts_read v) []) (parts_read v) [] (text_read c (parts_read v) [] (are_spelled c v h)) (senders_rise v.inbox.taken h.taken h.ordered)
    ∙ ap (λ l. read_as (vol_with (parts_read v) l) []) (taken_again v.inbox.taken h.taken h.ordered)

pub image_back : (program : Program) (c : ComId) (v : Vol) → HasImage c v → image_fits program c (as_read v) ≡ true → read_image program c (image_of v) ≡ Some (as_read v)
unfolding read_image
image_back program c v h fits =
    let same : same_bytes (image_of (as_read v)) (image_of v) ≡ true = ap (λ z. same_bytes z (image_of v)) (image_as_read v) ∙ same_is (image_of v) in
    some_goes_on (if_image program c (image_of v)) (fields_at program c (image_of v)) (as_read v, []) (fields_again program c v h)
    ∙ ap (λ b. cond b (some (as_read v)) None) (and_from (image_fits program c (as_read v)) (same_bytes (image_of (as_read v)) (image_of v)) fits same)
  where
    some : Vol → Option Vol
    some v = Some v

-- it is read as nothing else
pub image_only : (program : Program) (c : ComId) (v w : Vol) → HasImage c v → read_image program c (image_of v) ≡ Some w → w ≡ as_read v
unfolding read_image
image_only program c v w h e =
    let x = some_came (if_image program c (image_of v)) (fields_at program c (image_of v)) w e in
    let same : x.0 ≡ (as_read v, []) = some_is x.0 (as_read v, []) (sym x.1 ∙ fields_again program c v h) in
    met (image_fits program c x.0.0 && same_bytes (image_of x.0.0) (image_of v)) x.0.0 x.2 ∙ ap (λ (z : Vol × List ℕ). z.0) same
  where
    some : Vol → Option Vol
    some v = Some v

    met : (b : Bool) (u : Vol) → cond b (Some u) None ≡ some w → w ≡ u
    met true u e = sym (some_is u w e)
    met false u e = absurd cc

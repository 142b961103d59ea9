use Rattle.std.proofs.Common.{◌≡◌, Some, [], List, ℕ, length, arith, subst, ap, ◌∙◌}
use Rattle.std.proofs.lemmas.Bool.{eq-eqb}
use Rattle.def_log.proofs.Takes.{IsBytes}
use Rattle.def_state.specs.Image.{many_at, part_at}
use Rattle.def_state.specs.ImagePlaces.{at_end}
use Rattle.law_image.proofs.Places.{IsRead, PassesTests}
use Rattle.law_image.proofs.Items.{many_values, outputs_walk, links_walk, messages_walk, senders_walk}
use Rattle.law_image.proofs.Texts.{read_text}
use Rattle.law_image.proofs.Exact.{reads_as, counts_fit}
use Rattle.ic_ckpt.specs.declared.parts.Parts as code
use Rattle.ic_ckpt.proofs.Wholes.{IsWalked, image-walked}
use Rattle.ic_ckpt.proofs.Fitting.{passes-own, last-own, fields_of, are-whole}
use Rattle.ic_ckpt.proofs.parts.read_parts.Goals as goal

walked : (c : goal.In_ok-end) → IsWalked c.args.program.now c.args.c c.args.bytes.now c.in_ok-senders.rest.now
walked c = record {
  clock = (c.in_ok-clock.clock, c.in_ok-clock.rest.now);
  clock_is = c.in_ok-clock.ensures.place;
  count = (c.in_ok-count.count, c.in_ok-count.rest.now);
  wanted = c.count_of_vars.result;
  wanted_is = c.count_of_vars.ensures;
  count_is = c.in_ok-count.ensures.place;
  vars = (length c.in_ok-vars.vars, c.in_ok-vars.rest.now);
  vars_are = c.in_ok-vars.ensures.place;
  begun = (c.in_ok-begun.begun, c.in_ok-begun.rest.now);
  begun_is = c.in_ok-begun.ensures.place;
  last = (c.in_ok-last.ensures.place.0, c.in_ok-last.rest.now);
  last_is = c.in_ok-last.ensures.place.1;
  made = (c.in_ok-made.made, c.in_ok-made.rest.now);
  made_is = c.in_ok-made.ensures.place;
  outputs = (c.in_ok-count-2.count, c.in_ok-count-2.rest.now);
  outputs_is = c.in_ok-count-2.ensures.place;
  shelf = (c.in_ok-outputs.ensures.place.0, c.in_ok-outputs.rest.now);
  shelf_is = c.in_ok-outputs.ensures.place.1;
  ends = (c.in_ok-count-3.count, c.in_ok-count-3.rest.now);
  ends_is = c.in_ok-count-3.ensures.place;
  links = (c.in_ok-links.links, c.in_ok-links.rest.now);
  links_are = c.in_ok-links.ensures.place;
  held = (c.in_ok-count-4.count, c.in_ok-count-4.rest.now);
  held_is = c.in_ok-count-4.ensures.place;
  messages = (c.in_ok-messages.ensures.place.0, c.in_ok-messages.rest.now);
  messages_are = c.in_ok-messages.ensures.place.1;
  senders = (c.in_ok-count-5.count, c.in_ok-count-5.rest.now);
  senders_is = c.in_ok-count-5.ensures.place;
  taken = c.in_ok-senders.ensures.place.0;
  taken_are = c.in_ok-senders.ensures.place.1;
}

pub returns-clause-place : goal.returns-clause-place
returns-clause-place c = (0, image-walked c.args.program.now c.args.c c.args.bytes.now c.in_ok-senders.rest.now (walked c) ∙ ap at_end (c.in_ok-end.ensures.none))

fields : goal.In_ok-end → code.Parts
fields c = record {
  clock = c.in_ok-clock.clock;
  vars = c.in_ok-vars.vars;
  begun = c.in_ok-begun.begun;
  last = c.in_ok-last.last;
  made = c.in_ok-made.made;
  outputs = c.in_ok-outputs.outputs;
  links = c.in_ok-links.links;
  messages = c.in_ok-messages.messages;
  senders = c.in_ok-senders.senders;
}

is_read : (c : goal.In_ok-end) → IsRead c.args.c c.args.bytes.now (fields_of (fields c)) []
unfolding fields
is_read c =
    let none : c.in_ok-senders.rest.now ≡ [] = c.in_ok-end.ensures.none in
    let senders : many_at part_at c.in_ok-count-5.count c.in_ok-count-5.rest.now ≡ Some (c.in_ok-senders.senders, c.in_ok-senders.rest.now) = c.in_ok-senders.ensures.read in
    record {
      b1 = c.in_ok-clock.rest.now;
      clock = c.in_ok-clock.ensures.read;
      b2 = c.in_ok-vars.rest.now;
      vars = record { n = c.in_ok-count.count; front = c.in_ok-count.rest.now; count_is = c.in_ok-count.ensures.read; items_are = many_values c.in_ok-count.count c.in_ok-count.rest.now ∙ c.in_ok-vars.ensures.read };
      b3 = c.in_ok-begun.rest.now;
      begun = c.in_ok-begun.ensures.read;
      b4 = c.in_ok-last.rest.now;
      last = c.in_ok-last.ensures.read;
      b5 = c.in_ok-made.rest.now;
      made = c.in_ok-made.ensures.read;
      b6 = c.in_ok-outputs.rest.now;
      waiting = record { n = c.in_ok-count-2.count; front = c.in_ok-count-2.rest.now; count_is = c.in_ok-count-2.ensures.read; items_are = c.in_ok-outputs.ensures.read };
      b7 = c.in_ok-links.rest.now;
      links = record { n = c.in_ok-count-3.count; front = c.in_ok-count-3.rest.now; count_is = c.in_ok-count-3.ensures.read; items_are = c.in_ok-links.ensures.read };
      b8 = c.in_ok-messages.rest.now;
      held = record { n = c.in_ok-count-4.count; front = c.in_ok-count-4.rest.now; count_is = c.in_ok-count-4.ensures.read; items_are = c.in_ok-messages.ensures.read };
      senders = record { n = c.in_ok-count-5.count; front = c.in_ok-count-5.rest.now; count_is = c.in_ok-count-5.ensures.read; items_are = subst (λ (z : List ℕ). many_at part_at c.in_ok-count-5.count c.in_ok-count-5.rest.now ≡ Some (c.in_ok-senders.senders, z)) none senders };
    }

tests : (c : goal.In_ok-end) → PassesTests c.args.program.now c.args.c (fields_of (fields c))
unfolding fields
tests c = record {
  vars = eq-eqb (length c.in_ok-vars.vars) _ (c.in_ok-vars.ensures.count ∙ c.in_ok-count.ensures.same ∙ c.count_of_vars.ensures);
  last = last-own c.args.program.now c.in_ok-begun.begun c.in_ok-begun.rest.now (c.in_ok-last.ensures.place.0, c.in_ok-last.rest.now) c.in_ok-last.last c.in_ok-last.rest.now c.in_ok-last.ensures.place.1 c.in_ok-last.ensures.read;
  waiting = passes-own (outputs_walk c.args.program.now c.in_ok-made.made) c.in_ok-count-2.count 0 c.in_ok-count-2.rest.now (c.in_ok-outputs.ensures.place.0, c.in_ok-outputs.rest.now) _ c.in_ok-outputs.rest.now c.in_ok-outputs.ensures.place.1 c.in_ok-outputs.ensures.read;
  links = passes-own (links_walk c.args.program.now c.args.c) c.in_ok-count-3.count [] c.in_ok-count-3.rest.now (c.in_ok-links.links, c.in_ok-links.rest.now) _ c.in_ok-links.rest.now c.in_ok-links.ensures.place c.in_ok-links.ensures.read;
  held = passes-own (messages_walk c.args.program.now c.args.c c.in_ok-clock.clock c.in_ok-links.links) c.in_ok-count-4.count [] c.in_ok-count-4.rest.now (c.in_ok-messages.ensures.place.0, c.in_ok-messages.rest.now) _ c.in_ok-messages.rest.now c.in_ok-messages.ensures.place.1 c.in_ok-messages.ensures.read;
  senders = passes-own (senders_walk c.args.program.now c.args.c) c.in_ok-count-5.count [] c.in_ok-count-5.rest.now (c.in_ok-senders.ensures.place.0, c.in_ok-senders.rest.now) _ c.in_ok-senders.rest.now c.in_ok-senders.ensures.place.1 c.in_ok-senders.ensures.read;
}

are_bytes : (c : goal.In_ok-end) → IsBytes c.args.bytes.now
are_bytes c i = omega (arith, c.type_inv.bytes i)

pub returns-clause-read : goal.returns-clause-read
unfolding fields
returns-clause-read c = reads_as c.args.program.now c.args.c c.args.bytes.now (fields_of (fields c)) (are_bytes c) (is_read c) (tests c)

pub returns-clause-whole : goal.returns-clause-whole
unfolding fields
returns-clause-whole c = are-whole c.args.program.now c.args.c (fields c) (tests c) (read_text c.args.c c.args.bytes.now (fields_of (fields c)) [] (are_bytes c) (is_read c)).1

pub returns-clause-counts : goal.returns-clause-counts
unfolding fields
returns-clause-counts c = counts_fit c.args.program.now c.args.c (fields_of (fields c)) (tests c) (read_text c.args.c c.args.bytes.now (fields_of (fields c)) [] (are_bytes c) (is_read c)).1

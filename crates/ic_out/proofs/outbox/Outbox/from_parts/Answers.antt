use Rattle.std.proofs.Common.{◌∙◌, ap, sym, refl, map, List}
use Rattle.def_state.specs.Image.{is_rising}
use Rattle.def_state.specs.Names.{Numbers}
use Rattle.def_state.specs.Outbox.{Held, Outbox}
use Rattle.ic_out.specs.Views.{held_of, numbers_among, row_in_image, message_name}
use Rattle.ic_out.proofs.Kept.{kept-same}
use Rattle.ic_out.proofs.Images.{numbers-are, image-kept, held-are}
use Rattle.ic_out.proofs.outbox.Outbox.from_parts.Goals as goal

pub names_of-requires : goal.names_of-requires
names_of-requires c =
    λ to.
    ap (λ ms. is_rising (numbers_among ms to)) c.as_slice-2.ensures
    ∙ ap is_rising (sym (numbers-are c.args.links.now c.args.held.now to))
    ∙ c.requires.rising to

pub invariant_of-result : goal.invariant_of-result
invariant_of-result c =
    kept-same _ _ _ _ _ _ _ _ _ _
    (c.in_ok-rows_of.ensures ∙ ap (map row_in_image) c.as_slice.ensures)
    (c.in_ok-names_of.ensures ∙ ap (map message_name) c.as_slice-2.ensures)
    (c.in_ok-from_list.ensures ∙ c.as_slice-3.ensures)
    c.len.ensures
    refl
    (image-kept c.args.held.now c.args.links.now c.requires.sent)

pub returns : goal.returns
returns c =
    let P : List Held → Numbers → Outbox = λ hs ls. record { held = hs; links = ls } in
    ap (λ hs. P hs c.in_ok-from_list.field-0.seen) (ap (map held_of) (c.in_ok-rows_of.ensures ∙ ap (map row_in_image) c.as_slice.ensures) ∙ held-are c.args.held.now)
    ∙ ap (P _) (c.in_ok-from_list.ensures ∙ c.as_slice-3.ensures)

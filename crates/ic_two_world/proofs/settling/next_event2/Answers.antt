use Rattle.std.proofs.Common.{◌∙◌, sym, ap, true, false, map, None, option_map}
use Rattle.std.specs.Prelude.{slice_get}
use Rattle.def_two.specs.World.{lowest_from}
use Rattle.ic_seat.specs.Seats.{site_of}
use Rattle.ic_two_world.specs.Views.{done_if_up_in, without_stop}
use Rattle.ic_two_world.proofs.Lists.{no-some}
use Rattle.ic_two_world.proofs.Settled.{next-down, next-resend, none-settled}
use Rattle.ic_two_world.proofs.settling.next_event2.Goals as goal

pub returns-then-done_if_up-clause-next : goal.returns-then-done_if_up-clause-next
returns-then-done_if_up-clause-next g c =
    let t = c.args.world.now in
    let seats = c.as_slice-seats.ensures.value in
    let up = sym (c.lowest_down.ensures ∙ ap (λ l. lowest_from 0 (map site_of l)) seats) ∙ no-some c.lowest_down.result c.in_default.not-Some in
    let none = sym c.oldest.ensures ∙ no-some c.oldest.result c.in_default-oldest.not-Some in
    let done = sym (c.done_if_up.ensures ∙ ap (λ l. done_if_up_in (slice_get l 0)) seats) ∙ c.if-done_if_up.true in
    sym (ap (option_map without_stop) (next-resend g.D.Disk t c.requires true up none done))

pub returns-then-done_if_up-clause-none : goal.returns-then-done_if_up-clause-none
returns-then-done_if_up-clause-none g c =
    let t = c.args.world.now in
    let seats = c.as_slice-seats.ensures.value in
    let up = sym (c.lowest_down.ensures ∙ ap (λ l. lowest_from 0 (map site_of l)) seats) ∙ no-some c.lowest_down.result c.in_default.not-Some in
    let none = sym c.oldest.ensures ∙ no-some c.oldest.result c.in_default-oldest.not-Some in
    let done = sym (c.done_if_up.ensures ∙ ap (λ l. done_if_up_in (slice_get l 0)) seats) ∙ c.if-done_if_up.true in
    none-settled g.D.Disk t c.requires None (sym (ap (option_map without_stop) (next-resend g.D.Disk t c.requires true up none done)))

pub returns-in-Some-clause-none : goal.returns-in-Some-clause-none
returns-in-Some-clause-none g c =
    let t = c.args.world.now in
    let down = sym (c.lowest_down.ensures ∙ ap (λ l. lowest_from 0 (map site_of l)) c.as_slice-seats.ensures.value) ∙ c.in-Some.is in
    none-settled g.D.Disk t c.requires _ (sym (ap (option_map without_stop) (next-down g.D.Disk t c.requires c.in-Some.c down)))

pub returns-else-done_if_up-clause-next : goal.returns-else-done_if_up-clause-next
returns-else-done_if_up-clause-next g c =
    let t = c.args.world.now in
    let seats = c.as_slice-seats.ensures.value in
    let up = sym (c.lowest_down.ensures ∙ ap (λ l. lowest_from 0 (map site_of l)) seats) ∙ no-some c.lowest_down.result c.in_default.not-Some in
    let none = sym c.oldest.ensures ∙ no-some c.oldest.result c.in_default-oldest.not-Some in
    let left = sym (c.done_if_up.ensures ∙ ap (λ l. done_if_up_in (slice_get l 0)) seats) ∙ c.if-done_if_up.false in
    sym (ap (option_map without_stop) (next-resend g.D.Disk t c.requires false up none left))

pub returns-else-done_if_up-clause-none : goal.returns-else-done_if_up-clause-none
returns-else-done_if_up-clause-none g c =
    let t = c.args.world.now in
    let seats = c.as_slice-seats.ensures.value in
    let up = sym (c.lowest_down.ensures ∙ ap (λ l. lowest_from 0 (map site_of l)) seats) ∙ no-some c.lowest_down.result c.in_default.not-Some in
    let none = sym c.oldest.ensures ∙ no-some c.oldest.result c.in_default-oldest.not-Some in
    let left = sym (c.done_if_up.ensures ∙ ap (λ l. done_if_up_in (slice_get l 0)) seats) ∙ c.if-done_if_up.false in
    none-settled g.D.Disk t c.requires _ (sym (ap (option_map without_stop) (next-resend g.D.Disk t c.requires false up none left)))

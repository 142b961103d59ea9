-- What a crash and a loss leave of a world.
use Rattle.std.proofs.Common.{◌≡◌, refl, ◌∙◌, ap, sym, subst, slice_set, Some, option_map, append-nil}
use Rattle.std.proofs.lemmas.Option.{same_Some}
use Rattle.ic_base.specs.declared.messages.ComId.{ComId}
use Rattle.ic_base.specs.declared.events.What.TheVariants as whats
use Rattle.def_step.specs.Pcom.{Pcom}
use Rattle.def_step.specs.World.{World, Runs, Down, After, behind, crashes, happens_as, loses, loses_oldest}
use Rattle.law_table.specs.Rows.{Crashes, Losses}

abbrev Left : World → ComId → Pcom → World → Type 0
Left w c p v = (v.nodes ≡ slice_set w.nodes c.0 (Down p.log.forced)) × (v.packets ≡ w.packets) × (v.waiting ≡ w.waiting)

pub crashes_leave : Crashes
crashes_leave program w e x c p a what here is =
    subst (λ (a : After). Left w c p a.world)
    (same_Some (behind w e c (crashes (Runs p))) a (sym (ap (λ node. option_map (λ n. behind w e c (crashes n)) node) here) ∙ sym (ap (happens_as program w e x) what) ∙ is))
    (refl, append-nil w.packets, append-nil w.waiting)

pub losses_take : Losses
losses_take program w e x from to number packet a what oldest waits is =
    ap (λ (a : After). a.world)
    (sym (same_Some (loses w e number (Some packet)) a
    (sym (ap (λ o. Some (loses w e number o)) waits) ∙ sym (ap (λ o. Some (loses_oldest w e o)) oldest) ∙ sym (ap (happens_as program w e x) what) ∙ is)))

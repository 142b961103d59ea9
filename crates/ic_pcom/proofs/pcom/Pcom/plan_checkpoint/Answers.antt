use Rattle.std.proofs.Common.{◌≡◌, ◌∙◌, sym, ap, refl, ℕ, true, false, List, [], ◌∷◌}
use Rattle.std.specs.Prelude.{is_some}
use Rattle.ic_base.specs.declared.record.Record.TheVariants.{Checkpoint}
use Rattle.def_state.specs.Vol.{Vol}
use Rattle.def_step.specs.Pcom.{Effects, just_tail}
use Rattle.ic_ckpt.specs.Views.{seen}
use Rattle.ic_pcom.proofs.Imaged.{image_leads, not_imaged}
use Rattle.ic_pcom.proofs.Planned.{stands_up}
use Rattle.ic_pcom.proofs.pcom.Pcom.plan_checkpoint.Goals as goal

pub returns-in-Err-clause-refused : goal.returns-in-Err-clause-refused
returns-in-Err-clause-refused g c program =
    let p = c.args.self.now in
    let v = seen c.state-state.result.now in
    let free : is_some v.hand ≡ false = ap (λ (x : Vol). is_some x.hand) (sym c.state-state.ensures) ∙ c.requires.free in
    not_imaged program p v (stands_up p v c.requires.up c.state-state.ensures) free c.requires.open c.in-Err.why (c.in-Err.ensures {u = tt}).refused

pub returns-in-Ok-on_checkpoint-clause-decided : goal.returns-in-Ok-on_checkpoint-clause-decided
returns-in-Ok-on_checkpoint-clause-decided g c program =
    let p = c.args.self.now in
    let v = seen c.state-state.result.now in
    let free : is_some v.hand ≡ false = ap (λ (x : Vol). is_some x.hand) (sym c.state-state.ensures) ∙ c.requires.free in
    let of : List ℕ → Effects = λ image. record just_tail { adds = Checkpoint image ∷ []; forces = true; covers = true } in
    image_leads program p v (stands_up p v c.requires.up c.state-state.ensures) free c.in-Ok-on_checkpoint.decided _ ((c.in-Ok-on_checkpoint.ensures {u = tt}) ∙ ap of (c.in-Ok.ensures {u = tt}).image) refl

use Rattle.std.proofs.Common.{subst, sym}
use Rattle.std.specs.Prelude.{IfOk}
use Rattle.std.proofs.lemmas.Result.{IfOk-weaker}
use Rattle.ic_base.specs.declared.messages.Packet.{Packet}
use Rattle.def_step.specs.Pcom.{on_packet}
use Rattle.ic_ckpt.specs.Views.{seen}
use Rattle.ic_pcom.specs.Effects.{AreEffects}
use Rattle.ic_pcom.proofs.decide.on_fitting.Goals as goal

pub returns-in-Data : goal.returns-in-Data
returns-in-Data c =
    let Is : Packet → Type 0 = λ packet. IfOk c.on_data.result (AreEffects (λ p. on_packet c.args.program.now c.args.com p packet) (seen c.args.state.now) c.args.forced) in
    subst Is (sym c.in-Data.is) c.on_data.ensures

pub returns-in-Stable : goal.returns-in-Stable
returns-in-Stable c =
    let Is : Packet → Type 0 = λ packet. AreEffects (λ p. on_packet c.args.program.now c.args.com p packet) (seen c.args.state.now) c.args.forced c.on_stable.result in
    subst Is (sym c.in-Stable.is) (c.on_stable.ensures c.args.forced)

pub returns-in-Installed : goal.returns-in-Installed
returns-in-Installed c =
    let Is : Packet → Type 0 = λ packet. IfOk c.on_installed.result (AreEffects (λ p. on_packet c.args.program.now c.args.com p packet) (seen c.args.state.now) c.args.forced) in
    subst Is (sym c.in-Installed.is) (IfOk-weaker c.on_installed.result _ _ (λ e all. all c.args.forced) c.on_installed.ensures)

pub returns-in-Fetch : goal.returns-in-Fetch
returns-in-Fetch c =
    let Is : Packet → Type 0 = λ packet. IfOk c.on_fetch.result (AreEffects (λ p. on_packet c.args.program.now c.args.com p packet) (seen c.args.state.now) c.args.forced) in
    subst Is (sym c.in-Fetch.is) c.on_fetch.ensures

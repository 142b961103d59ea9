use Rattle.std.proofs.Common.{◌≡◌, ◌∙◌, sym, ap, subst, Bool, false, List, length}
use Rattle.std.specs.Vec.{vec_capacity}
use Rattle.ic_base.specs.declared.messages.Packet.{Packet}
use Rattle.def_state.specs.Vol.{Vol}
use Rattle.def_step.specs.Pcom as step
use Rattle.def_step.specs.Pcom.{Effects, StepResult}
use Rattle.ic_ckpt.specs.Views.{seen}
use Rattle.ic_pcom.specs.Effects.{effects_of, kind_of}
use Rattle.ic_pcom.specs.Carrying.{put_with, up}
use Rattle.ic_pcom.specs.Landing.{HasPacketRoom, landed, answering, effects_in}
use Rattle.ic_pcom.specs.Views.{told_of}
use Rattle.ic_pcom.proofs.Puts.{told_put, covered_is, covered_room}
use Rattle.ic_pcom.proofs.land.land.Goals as goal

pub put_if-requires : goal.put_if-requires
put_if-requires c =
    let n = length c.args.ready.puts.items in
    let capacity = vec_capacity c.args.ready.puts in
    let w = landed c.args.«com» c.args.end (seen c.args.state.now) c.args.records.now c.args.ready.plan in
    let entered = seen c.enter-decided.new.state in
    let came = c.args.ready.came in
    let forced = c.args.forced in
    let Has : Vol → Type 0 = λ v. HasPacketRoom (effects_in c.args.ready.plan).covers came forced n capacity v in
    let Covers : Bool → Type 0 = λ b. HasPacketRoom b came forced n capacity entered in
    let Told : Vol → Type 0 = λ v. HasPacketRoom false came forced n capacity v in
    let there : Covers c.enter-decided.result.covers = subst Covers (sym (ap (λ (e : Effects). e.covers) c.enter-decided.ensures.rest)) (subst Has (sym c.enter-decided.ensures.state) c.requires.room) in
    record { room = subst Told (sym c.cover_if.ensures) (covered_room c.enter-decided.result.covers came forced c.args.end entered n capacity there) }

pub returns : goal.returns
returns c = record {
  lands = λ log ends forced.
      let who = c.args.«com» in
      let came = c.args.ready.came in
      let w = landed who c.args.end (seen c.args.state.now) c.args.records.now c.args.ready.plan in
      let d = effects_of c.enter-decided.result in
      let puts = c.args.ready.puts.items in
      let rest : d ≡ effects_in c.args.ready.plan = c.enter-decided.ensures.rest in
      let covered : seen c.cover_if.new.state ≡ (step.cover_if d.covers (up log w)).vol =
      c.cover_if.ensures
      ∙ covered_is d.covers c.args.end (seen c.enter-decided.new.state) log ends
      ∙ ap (λ (v : Vol). (step.cover_if d.covers (up log v)).vol) c.enter-decided.ensures.state in
      let whole : put_with who came (answering d puts) (up log (seen c.cover_if.new.state)) ≡ put_with who came (answering (effects_in c.args.ready.plan) puts) (up log (step.cover_if (effects_in c.args.ready.plan).covers (up log w)).vol) =
      ap (λ (v : Vol). put_with who came (answering d puts) (up log v)) covered
      ∙ ap (λ (e : Effects). put_with who came (answering e puts) (up log (step.cover_if e.covers (up log w)).vol)) rest in
      let t = put_with who came (answering d puts) (up log (seen c.cover_if.new.state)) in
      let with_puts : List Packet → StepResult = λ xs. record { pcom = t.pcom; puts = xs; word = kind_of c.enter-decided.result.word; shown = c.enter-decided.result.shown; aborted = c.enter-decided.result.aborted } in
      record {
        state = c.put_if.ensures.state log forced ∙ ap (λ (x : StepResult). x.pcom) whole;
        tells = c.told.ensures t.pcom
            ∙ ap (λ (xs : List Packet). told_of (with_puts xs)) (c.put_if.ensures.puts log forced)
            ∙ told_put who came (answering d puts) (up log (seen c.cover_if.new.state))
            ∙ ap told_of whole;
      };
}

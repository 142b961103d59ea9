use Rattle.std.proofs.Common.{◌∙◌, sym, ap, cond, length, [], ◌++◌, Bool}
use Rattle.std.specs.Vec.{vec_capacity}
use Rattle.def_step.specs.Pcom.{told, after_tail, tail_packets}
use Rattle.ic_ckpt.specs.Views.{seen}
use Rattle.ic_pcom.specs.Effects.{effects_of}
use Rattle.ic_pcom.specs.Carrying.{up}
use Rattle.ic_pcom.specs.Landing.{answering}
use Rattle.ic_pcom.proofs.Finishes.{room_enough}
use Rattle.ic_pcom.proofs.land.put_if.Goals as goal

pub put_out-requires : goal.put_out-requires
put_out-requires c = record { room = room_enough c.args.came (length c.args.puts.now.items) (vec_capacity c.args.puts.now) c.args.forced (seen c.args.state.now) c.requires.room }

pub returns-clause-state : goal.returns-clause-state
returns-clause-state c log end =
    let d = answering (effects_of c.args.decided.now) c.args.puts.now.items in
    let p = up log (seen c.args.state.now) in
    ap (up log) (c.put_out.ensures.marked log [] end)
    ∙ ap (λ (b : Bool). (cond b (told p d.answers d) (told (after_tail p) (d.answers ++ tail_packets c.args.«com» c.args.came p) d)).pcom) (sym c.if-decided.false)

pub returns-clause-puts : goal.returns-clause-puts
returns-clause-puts c log end =
    let d = answering (effects_of c.args.decided.now) c.args.puts.now.items in
    let p = up log (seen c.args.state.now) in
    c.put_out.ensures.packets log [] end
    ∙ ap (λ (b : Bool). (cond b (told p d.answers d) (told (after_tail p) (d.answers ++ tail_packets c.args.«com» c.args.came p) d)).puts) (sym c.if-decided.false)

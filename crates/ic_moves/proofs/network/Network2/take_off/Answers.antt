use Rattle.std.proofs.Common.{◌∙◌, ap, sym, inl, inr, ℕ, List, arith}
use Rattle.ic_moves.specs.Networks.{Network, without}
use Rattle.ic_moves.proofs.Waiting.{off_none, off_some}
use Rattle.ic_moves.proofs.network.Network2.take_off.Goals as goal
use Rattle.ic_moves.proofs.network.Network2.take_off.Goals.{then-number-eq0-via-then-number-eq0, then-number-eq0-via-else-number-eq0+then-len-number}

pub returns-then-number-eq0 : goal.returns-then-number-eq0
returns-then-number-eq0 c =
    let P : List ℕ → Network = λ ws. record { packets = c.self.inside.packets.items; waiting = ws } in
    sym c.self.view_is
    ∙ ap P (sym (off_none c.args.number c.self.inside.waits.items (elim c.then-number-eq0.branch [
      | then-number-eq0-via-then-number-eq0 w ↦ inl (omega (arith, w.if-number-eq0.true))
      | then-number-eq0-via-else-number-eq0+then-len-number w ↦ inr (omega (arith, w.if-len-number.true, w.len.ensures))
    ])))
    ∙ ap (λ (v : Network). without v c.args.number) c.self.view_is

pub returns : goal.returns
returns c =
    let P : List ℕ → Network = λ ws. record { packets = c.self.inside.packets.items; waiting = ws } in
    ap P (off_some c.args.number c.self.inside.waits.items (omega (arith, c.if-number-eq0.false)))
    ∙ ap (λ (v : Network). without v c.args.number) c.self.view_is

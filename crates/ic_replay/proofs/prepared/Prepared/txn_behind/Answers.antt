use Rattle.std.proofs.Common.{◌≡◌, ◌∙◌, ap, sym, true, Some}
use Rattle.def_state.specs.Txn as txn
use Rattle.ic_base.specs.declared.messages.ComId.{ComId}
use Rattle.ic_base.specs.declared.played.Played.{Played}
use Rattle.ic_base.specs.declared.played.Played.TheVariants.{Asks}
use Rattle.ic_ckpt.specs.Views.{seen}
use Rattle.ic_replay.proofs.Entering.{asks_within}
use Rattle.ic_replay.specs.Preparing.{entered_txn}
use Rattle.ic_replay.proofs.prepared.Prepared.txn_behind.Goals as goal

pub begin-requires : goal.begin-requires
begin-requires c =
    let v = seen c.args.state.now in
    let r = c.args.stored.now in
    let who : ComId = record { 0 = 0 } in
    let same : c.entered_txn-txn.result ≡ entered_txn v.txn r = c.entered_txn-txn.ensures in
    let idle : txn.is_idle (entered_txn v.txn r).stage ≡ true = ap (λ (y : txn.Txn). txn.is_idle y.stage) (sym same) ∙ sym c.is_idle.ensures ∙ c.if-is_idle.true in
    let asks : c.args.self.now.played ≡ Some (Asks c.in-Asks.tcom c.in-Asks.request) = c.in-Some.is ∙ ap (λ (x : Played). Some x) c.in-Asks.is in
    rw same (asks_within who 0 c.args.self.now v r c.in-Asks.tcom c.in-Asks.request asks idle (c.requires.limits who 0))

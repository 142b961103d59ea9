use Rattle.std.proofs.Common.{◌∙◌, ap, sym, arith, option_and_then}
use Rattle.def_plain.specs.Plain.{pcom_at, counted, on_link}
use Rattle.ic_model.proofs.Indexing.{index-within, index-is}
use Rattle.ic_model.proofs.indexed.IndexedWorld.message_of.Goals as goal

pub index-requires : goal.index-requires
index-requires c = let within = index-within c.self.inside.components c.self.inside.indexes.items c.args.from c.from.result c.in-Some.field-0.now c.self.invariant (ap (λ w. pcom_at w c.args.from) c.self.view_is ∙ c.in-Some.ensures.some) c.from.ensures in omega (arith, within, c.self.inside.indexes.ok.0)

pub returns-in-Some : goal.returns-in-Some
returns-in-Some c =
    let p = c.in-Some.field-0.now in
    c.message.ensures p.receipts p.sent (index-is c.self.inside.components c.self.inside.indexes.items c.args.from c.from.result p c.index.result.now c.self.invariant (ap (λ w. pcom_at w c.args.from) c.self.view_is ∙ c.in-Some.ensures.some) c.from.ensures c.index.ensures)
    ∙ ap (option_and_then (λ q. counted (on_link c.args.to q.sent) c.args.k)) (sym c.in-Some.ensures.some)

pub returns-in-None : goal.returns-in-None
returns-in-None c = ap (option_and_then (λ q. counted (on_link c.args.to q.sent) c.args.k)) (sym c.in-None.ensures.none)

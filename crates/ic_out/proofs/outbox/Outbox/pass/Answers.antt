use Rattle.ic_out.proofs.Kept.{kept-passed}
use Rattle.ic_out.proofs.outbox.Outbox.pass.Goals as goal

pub invariant_of-self : goal.invariant_of-self
invariant_of-self c = kept-passed c.self.inside.rows.items c.self.inside.names.seen c.self.inside.links.seen c.self.inside.first c.self.inside.quiet c.first_without_put-self-inside.result c.self.invariant c.first_without_put-self-inside.ensures.within c.first_without_put-self-inside.ensures.put

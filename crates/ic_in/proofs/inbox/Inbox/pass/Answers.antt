use Rattle.ic_in.proofs.Kept.{kept-passed}
use Rattle.ic_in.proofs.inbox.Inbox.pass.Goals as goal

pub invariant_of-self : goal.invariant_of-self
invariant_of-self c = kept-passed c.self.inside.taken.seen c.self.inside.rows.items c.self.inside.names.seen c.self.inside.first c.self.inside.quiet c.first_waiting-self-inside.result c.self.invariant c.first_waiting-self-inside.ensures.within c.first_waiting-self-inside.ensures.told

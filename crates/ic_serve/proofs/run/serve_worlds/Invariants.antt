use Rattle.ic_serve.proofs.Renewing.{IsServedUpTo}
use Rattle.ic_serve.proofs.run.serve_worlds.Given as goal

-- worlds were served one behind another, and the last one is to be renewed
abbrev pub invariant-loop : goal.invariant-loop
invariant-loop g l = IsServedUpTo g.D.Disk g.K.Sink l.texts g.I.Lines (record { source = l.fn.lines; service = l.fn.service; world = l.fn.world; out = l.fn.out }) (record { source = l.lines; service = l.service; world = l.world; out = l.out }) l.line

use Rattle.ic_serve.specs.Serving.{IsSettledFrom}
use Rattle.ic_serve.specs.Worlds.{ServesBetween}
use Rattle.ic_serve.proofs.stretch.serve_rest.Given as goal

-- lines were served, and the world goes on with nothing left to do
abbrev pub invariant-loop : goal.invariant-loop
invariant-loop g l =
    ServesBetween g.D.Disk g.K.Sink l.texts g.I.Lines (record { source = l.fn.lines; service = l.fn.service; world = l.fn.world; out = l.fn.out }) (record { source = l.lines; service = l.service; world = l.world; out = l.out })
    × IsSettledFrom l.texts.program l.fn.world l.world

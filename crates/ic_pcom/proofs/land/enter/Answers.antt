use Rattle.std.proofs.Common.{◌∙◌}
use Rattle.ic_pcom.proofs.Puts.{may_apply, applied_lands}
use Rattle.ic_pcom.proofs.land.enter.Goals as goal

pub apply-requires-clause-room : goal.apply-requires-clause-room
apply-requires-clause-room c = (may_apply c.args.«com» c.args.at c.args.state.now c.args.records.now c.in-Adds.decided c.in-Adds.prepared c.args.plan c.index-records-records.result c.in-Adds.is c.requires.may c.index-records-records.is).room

pub apply-requires-clause-new : goal.apply-requires-clause-new
apply-requires-clause-new c = (may_apply c.args.«com» c.args.at c.args.state.now c.args.records.now c.in-Adds.decided c.in-Adds.prepared c.args.plan c.index-records-records.result c.in-Adds.is c.requires.may c.index-records-records.is).new

pub apply-requires-clause-place : goal.apply-requires-clause-place
apply-requires-clause-place c = (may_apply c.args.«com» c.args.at c.args.state.now c.args.records.now c.in-Adds.decided c.in-Adds.prepared c.args.plan c.index-records-records.result c.in-Adds.is c.requires.may c.index-records-records.is).place

pub apply-requires-clause-limits : goal.apply-requires-clause-limits
apply-requires-clause-limits c = (may_apply c.args.«com» c.args.at c.args.state.now c.args.records.now c.in-Adds.decided c.in-Adds.prepared c.args.plan c.index-records-records.result c.in-Adds.is c.requires.may c.index-records-records.is).limits

pub returns-in-Adds-clause-state : goal.returns-in-Adds-clause-state
returns-in-Adds-clause-state c = c.apply.ensures.applied ∙ applied_lands c.args.«com» c.args.at c.args.state.now c.args.records.now c.in-Adds.decided c.in-Adds.prepared c.args.plan c.index-records-records.result c.in-Adds.is c.requires.may c.index-records-records.is

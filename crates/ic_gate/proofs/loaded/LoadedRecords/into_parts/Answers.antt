use Rattle.std.proofs.Common.{sym}
use Rattle.ic_gate.proofs.LoadedPlaces.{records_are, places_are}
use Rattle.ic_gate.proofs.loaded.LoadedRecords.into_parts.Goals as goal

pub returns-clause-places : goal.returns-clause-places
returns-clause-places c = sym (places_are c.self.inside.places c.self.inside.records c.args.self c.self.invariant c.self.view_is)

pub returns-clause-records : goal.returns-clause-records
returns-clause-records c = sym (records_are c.self.inside.places c.self.inside.records c.args.self c.self.invariant c.self.view_is)

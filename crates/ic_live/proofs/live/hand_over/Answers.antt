use Rattle.std.proofs.Common.{◌≡◌, ◌∙◌, ◌<◌, refl, sym, ap, subst, rules, length, ℕ, inl, inr, Option}
use Rattle.std.specs.Prelude.{slice_get, Some, None}
use Rattle.ic_base.specs.declared.refusals.WorldRefused.{WorldRefused}
use Rattle.ic_live.specs.Carrying.{FailsToCarryOut}
use Rattle.ic_live.specs.Ended.{WasRefused}
use Rattle.ic_live.specs.Turned.{HaveTurned}
use Rattle.ic_live.proofs.Endings.{returned, have-left, failed, square, same-lanes, joins, refused-within, refusal-of}
use Rattle.ic_live.proofs.live.hand_over.Goals as goal

pub returns-in_default-clause-refused : goal.returns-in_default-clause-refused
returns-in_default-clause-refused g c = inl c.out_of_memory.ensures

pub close_all-requires-clause-square : goal.close_all-requires-clause-square
close_all-requires-clause-square g c =
    let N = g.N.Scene in
    let e = c.in-Some.ended in
    square (FailsToCarryOut g.D.Disk) N.program N.fingerprint N.plan N.lane N.began g.M.Mark.honest e.components e.progresses e.refusals e.ins e.outs c.in-Some.ensures.ended (c.in-Some.ensures.count ∙ c.requires.count)

pub close_all-requires-clause-lanes : goal.close_all-requires-clause-lanes
close_all-requires-clause-lanes g c =
    let N = g.N.Scene in
    let e = c.in-Some.ended in
    same-lanes (FailsToCarryOut g.D.Disk) N.program N.fingerprint N.plan N.lane N.began g.M.Mark.honest e.components e.progresses e.refusals e.ins e.outs c.in-Some.ensures.ended (c.in-Some.ensures.count ∙ c.requires.count)

pub returns-in_default-lowest-clause-joined : goal.returns-in_default-lowest-clause-joined
returns-in_default-lowest-clause-joined g c =
    let N = g.N.Scene in
    let e = c.in-Some.ended in
    let quiet : (k : ℕ) (r : Option WorldRefused) → slice_get e.refusals k ≡ Some r → r ≡ None = λ k r at. c.in_default-lowest.ensures.none k r (ap (λ l. slice_get l k) c.as_slice.ensures ∙ at) in
    joins (FailsToCarryOut g.D.Disk) N.program N.fingerprint N.plan N.lane N.began g.M.Mark.honest e.components e.progresses e.refusals e.ins e.outs c.in-Some.ensures.ended (c.in-Some.ensures.count ∙ c.requires.count) quiet c.requires.bytes c.close_all.ensures

pub returns-in_default-lowest-clause-each : goal.returns-in_default-lowest-clause-each
returns-in_default-lowest-clause-each g c =
    let N = g.N.Scene in
    let e = c.in-Some.ended in
    let quiet : (k : ℕ) (r : Option WorldRefused) → slice_get e.refusals k ≡ Some r → r ≡ None = λ k r at. c.in_default-lowest.ensures.none k r (ap (λ l. slice_get l k) c.as_slice.ensures ∙ at) in
    returned (FailsToCarryOut g.D.Disk) N.program N.fingerprint N.plan N.lane N.began g.M.Mark.honest e.components e.progresses e.refusals e.ins e.outs c.in-Some.ensures.ended (c.in-Some.ensures.count ∙ c.requires.count) quiet

pub returns-in_default-lowest-clause-since : goal.returns-in_default-lowest-clause-since
returns-in_default-lowest-clause-since g c =
    let N = g.N.Scene in
    let e = c.in-Some.ended in
    failed (FailsToCarryOut g.D.Disk) N.program N.fingerprint N.plan N.lane N.began g.M.Mark.honest e.components e.progresses e.refusals e.ins e.outs c.in-Some.ensures.ended

pub returns-in_default-lowest-clause-left : goal.returns-in_default-lowest-clause-left
returns-in_default-lowest-clause-left g c =
    let N = g.N.Scene in
    let e = c.in-Some.ended in
    let quiet : (k : ℕ) (r : Option WorldRefused) → slice_get e.refusals k ≡ Some r → r ≡ None = λ k r at. c.in_default-lowest.ensures.none k r (ap (λ l. slice_get l k) c.as_slice.ensures ∙ at) in
    have-left (FailsToCarryOut g.D.Disk) N.program N.fingerprint N.plan N.lane N.began g.M.Mark.honest e.components e.progresses e.refusals e.ins e.outs c.in-Some.ensures.ended quiet

pub returns-in_default-lowest-clause-turned : goal.returns-in_default-lowest-clause-turned
returns-in_default-lowest-clause-turned g c = subst (λ l. HaveTurned c.args.policy.now.workers c.args.policy.now.turns l) c.as_slice-in_default-lowest.ensures (c.if-not-have_turned.ensures refl)

pub bounds-all-at : goal.bounds-all-at
bounds-all-at g c =
    let N = g.N.Scene in
    let e = c.in-Some.ended in
    refused-within g.D.Disk N.program N.fingerprint N.plan N.lane N.began g.M.Mark.honest e.components e.progresses e.refusals e.ins e.outs c.in-Some.ensures.ended c.in-Some-lowest.at c.as_slice.result.now c.as_slice-all.result.now c.in-Some-lowest.why c.as_slice.ensures c.as_slice-all.ensures c.in-Some-lowest.ensures.found.0

pub offset_bounds-all-at : goal.offset_bounds-all-at
offset_bounds-all-at g c =
    let N = g.N.Scene in
    let e = c.in-Some.ended in
    let below : c.in-Some-lowest.at < length c.as_slice-all.result.now = refused-within g.D.Disk N.program N.fingerprint N.plan N.lane N.began g.M.Mark.honest e.components e.progresses e.refusals e.ins e.outs c.in-Some.ensures.ended c.in-Some-lowest.at c.as_slice.result.now c.as_slice-all.result.now c.in-Some-lowest.why c.as_slice.ensures c.as_slice-all.ensures c.in-Some-lowest.ensures.found.0 in
    search rules

pub returns-clause-refused : goal.returns-clause-refused
returns-clause-refused g c =
    let N = g.N.Scene in
    let e = c.in-Some.ended in
    let P : ℕ × ℕ → Type 0 = λ z. WasRefused g.D.Disk N.began g.M.Mark.honest N.program N.fingerprint e.components z.0 z.1 c.in-Some-lowest.why in
    inr (subst P (λ i. (sym c.received-received.ensures i, sym c.packets-packets.ensures i)) (refusal-of g.D.Disk N.program N.fingerprint N.plan N.lane N.began g.M.Mark.honest e.components e.progresses e.refusals e.ins e.outs c.in-Some.ensures.ended c.in-Some-lowest.at c.as_slice.result.now c.as_slice-all.result.now c.in-Some-lowest.why c.index-all-at.result (c.in-Some.ensures.count ∙ c.requires.count) c.as_slice.ensures c.as_slice-all.ensures c.in-Some-lowest.ensures.found.0 c.in-Some-lowest.ensures.found.1 c.index-all-at.is))

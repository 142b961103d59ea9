use Rattle.std.proofs.Common.{◌∙◌, ap, refl, arith, true, false}
use Rattle.std.specs.Prelude.{slice_get, slice_set, is_ok}
use Rattle.ic_world.proofs.Acts.{at-place, admits-same, still-placed, still-logs, keeps-others, adds-there, makes-there, makes-nowhere, played-where, acts-as_told, did-work, puts-too_many, adds-none, fails-to_tell, fails-at_work}
use Rattle.ic_world.proofs.Lists.{get-within}
use Rattle.ic_world.proofs.acting.World+TornDisk+D.acts.Goals as goal

pub returns-in_default-clause-crash : goal.returns-in_default-clause-crash
returns-in_default-clause-crash g c =
    let law = g.met.D.Disk in
    let none = c.in_default.ensures.refused refl in
    adds-none g.D.Disk law.only_now law.keeping_tells c.args.program.now c.args.work.now c.args.self.now.components.items c.args.c.0 none.before none.at (c.args.self.now.placed c.requires.going c.args.c.0 none.before none.at).1

pub returns-in_default-clause-refused : goal.returns-in_default-clause-refused
returns-in_default-clause-refused g c =
    let none = c.in_default.ensures.refused refl in
    (record { before = none.before; at = none.at; receives = none.receives; past = none.past }, refl)

pub index_mut-requires : goal.index_mut-requires
index_mut-requires g c =
    let may = c.in-Some.ensures.admitted in
    omega (arith, c.from.ensures, get-within c.args.self.now.components.items c.args.c.0 may.before may.at, c.args.self.now.components.ok)

pub does_work-requires : goal.does_work-requires
does_work-requires g c =
    let may = c.in-Some.ensures.admitted in
    let at = at-place c.args.self.now.components.items c.args.c.0 c.from.result may.before c.index_mut.result.now may.at c.from.ensures c.index_mut.ensures.value in
    record { ready = record { going = (c.args.self.now.placed c.requires.going c.args.c.0 c.index_mut.result.now at).1; allowed = c.requires.stop; few = c.requires.few } }

pub tell-requires-clause-placed : goal.tell-requires-clause-placed
tell-requires-clause-placed g c =
    let may = c.in-Some.ensures.admitted in
    let xs = c.args.self.now.components.items in
    let at = at-place xs c.args.c.0 c.from.result may.before c.index_mut.result.now may.at c.from.ensures c.index_mut.ensures.value in
    let works = c.in-Ok.ensures.step in
    still-placed xs c.from.result c.index_mut.result.now c.does_work.new.x (ap (slice_get xs) c.from.ensures ∙ at) (c.args.self.now.placed c.requires.going) works.goes_on.same works.goes_on.open_still

pub tell-requires-clause-logs : goal.tell-requires-clause-logs
tell-requires-clause-logs g c =
    let may = c.in-Some.ensures.admitted in
    let xs = c.args.self.now.components.items in
    let at = at-place xs c.args.c.0 c.from.result may.before c.index_mut.result.now may.at c.from.ensures c.index_mut.ensures.value in
    let works = c.in-Ok.ensures.step in
    still-logs xs c.from.result c.index_mut.result.now c.does_work.new.x (ap (slice_get xs) c.from.ensures ∙ at) c.args.self.now.fingerprint (c.args.self.now.placed c.requires.going c.from.result c.index_mut.result.now (ap (slice_get xs) c.from.ensures ∙ at)).0 (c.args.self.now.logs c.requires.going) c.does_work.ensures.disk works.goes_on

pub returns-in-Ok-clause-step : goal.returns-in-Ok-clause-step
returns-in-Ok-clause-step g c =
    let may = c.in-Some.ensures.admitted in
    let xs = c.args.self.now.components.items in
    let at = at-place xs c.args.c.0 c.from.result may.before c.index_mut.result.now may.at c.from.ensures c.index_mut.ensures.value in
    let set = c.tell.ensures.same ∙ ap (λ i. slice_set xs i c.does_work.new.x) c.from.ensures in
    acts-as_told c.args.program.now c.args.self.now c.tell.new.self c.args.event.now c.args.c c.args.work.now c.index_mut.result.now c.does_work.new.x at set _ c.in-Some.more c.in-Ok.done (admits-same c.args.program.now _ c.args.self.now c.args.c c.args.work.now c.in-Some.more refl refl may) c.in-Ok.ensures.step c.does_work.ensures.disk (λ ns. refl) refl refl c.tell.result c.tell.ensures.step

pub returns-in-Ok-clause-others : goal.returns-in-Ok-clause-others
returns-in-Ok-clause-others g c =
    let may = c.in-Some.ensures.admitted in
    let xs = c.args.self.now.components.items in
    let at = at-place xs c.args.c.0 c.from.result may.before c.index_mut.result.now may.at c.from.ensures c.index_mut.ensures.value in
    let set = c.tell.ensures.same ∙ ap (λ i. slice_set xs i c.does_work.new.x) c.from.ensures in
    keeps-others c.args.self.now c.tell.new.self c.args.c c.index_mut.result.now c.does_work.new.x at set c.tell.ensures.print c.does_work.ensures.disk

pub returns-in-Ok-clause-crash : goal.returns-in-Ok-clause-crash
returns-in-Ok-clause-crash g c =
    let may = c.in-Some.ensures.admitted in
    let xs = c.args.self.now.components.items in
    let at = at-place xs c.args.c.0 c.from.result may.before c.index_mut.result.now may.at c.from.ensures c.index_mut.ensures.value in
    let set = c.tell.ensures.same ∙ ap (λ i. slice_set xs i c.does_work.new.x) c.from.ensures in
    adds-there c.args.program.now c.args.work.now xs c.tell.new.self.components.items c.args.c.0 c.index_mut.result.now c.does_work.new.x at set c.does_work.ensures.crash

pub returns-in-Ok-clause-refused : goal.returns-in-Ok-clause-refused
returns-in-Ok-clause-refused g c =
    let may = c.in-Some.ensures.admitted in
    let xs = c.args.self.now.components.items in
    let at = at-place xs c.args.c.0 c.from.result may.before c.index_mut.result.now may.at c.from.ensures c.index_mut.ensures.value in
    let set = c.tell.ensures.same ∙ ap (λ i. slice_set xs i c.does_work.new.x) c.from.ensures in
    fails-to_tell g.D.Disk c.args.program.now c.args.self.now c.tell.new.self c.args.event.now c.args.c c.args.work.now c.index_mut.result.now c.does_work.new.x at c.args.self.now c.in-Ok.done
    (did-work c.args.program.now c.args.self.now c.tell.new.self c.args.event.now c.args.c c.args.work.now c.index_mut.result.now c.does_work.new.x at set c.args.self.now c.in-Some.more c.in-Ok.done (admits-same c.args.program.now _ c.args.self.now c.args.c c.args.work.now c.in-Some.more refl refl may) c.in-Ok.ensures.step c.does_work.ensures.disk (λ ns. refl) refl refl)
    (puts-too_many c.args.program.now c.args.self.now c.tell.new.self c.args.event.now c.args.c c.args.work.now c.index_mut.result.now c.does_work.new.x at set c.args.self.now c.in-Some.more c.in-Ok.done (admits-same c.args.program.now _ c.args.self.now c.args.c c.args.work.now c.in-Some.more refl refl may) c.in-Ok.ensures.step c.does_work.ensures.disk (λ ns. refl) refl refl)
    c.tell.result c.tell.ensures.refused

pub returns-in-Ok-clause-played : goal.returns-in-Ok-clause-played
returns-in-Ok-clause-played g c =
    let may = c.in-Some.ensures.admitted in
    let xs = c.args.self.now.components.items in
    let at = at-place xs c.args.c.0 c.from.result may.before c.index_mut.result.now may.at c.from.ensures c.index_mut.ensures.value in
    let set = c.tell.ensures.same ∙ ap (λ i. slice_set xs i c.does_work.new.x) c.from.ensures in
    played-where c.args.program.now c.args.self.now c.tell.new.self c.args.event.now c.args.c c.args.work.now c.index_mut.result.now c.does_work.new.x at set c.tell.result c.args.steps.now _ c.in-Ok.ensures.played

pub returns-in-Err-clause-others : goal.returns-in-Err-clause-others
returns-in-Err-clause-others g c =
    let may = c.in-Some.ensures.admitted in
    let xs = c.args.self.now.components.items in
    let at = at-place xs c.args.c.0 c.from.result may.before c.index_mut.result.now may.at c.from.ensures c.index_mut.ensures.value in
    keeps-others c.args.self.now _ c.args.c c.index_mut.result.now c.does_work.new.x at (ap (λ i. slice_set xs i c.does_work.new.x) c.from.ensures) refl c.does_work.ensures.disk

pub returns-in-Err-clause-crash : goal.returns-in-Err-clause-crash
returns-in-Err-clause-crash g c =
    let may = c.in-Some.ensures.admitted in
    let xs = c.args.self.now.components.items in
    let at = at-place xs c.args.c.0 c.from.result may.before c.index_mut.result.now may.at c.from.ensures c.index_mut.ensures.value in
    adds-there c.args.program.now c.args.work.now xs (slice_set xs c.from.result c.does_work.new.x) c.args.c.0 c.index_mut.result.now c.does_work.new.x at (ap (λ i. slice_set xs i c.does_work.new.x) c.from.ensures) c.does_work.ensures.crash

pub returns-in-Err-clause-refused : goal.returns-in-Err-clause-refused
returns-in-Err-clause-refused g c =
    let may = c.in-Some.ensures.admitted in
    let xs = c.args.self.now.components.items in
    let at = at-place xs c.args.c.0 c.from.result may.before c.index_mut.result.now may.at c.from.ensures c.index_mut.ensures.value in
    fails-at_work g.D.Disk c.args.program.now c.args.self.now _ c.args.event.now c.args.c c.args.work.now c.index_mut.result.now c.does_work.new.x at (ap (λ i. slice_set xs i c.does_work.new.x) c.from.ensures) c.requires.kept c.in-Some.more (admits-same c.args.program.now _ c.args.self.now c.args.c c.args.work.now c.in-Some.more refl refl may) c.in-Err.why c.in-Err.ensures.refused c.refusal.result c.refusal.ensures

pub returns-in_default-clause-calls : goal.returns-in_default-clause-calls
returns-in_default-clause-calls g c = makes-nowhere c.args.program.now c.args.work.now c.args.event.now.stop c.args.self.now.components.items c.args.c.0

pub returns-in-Ok-clause-calls : goal.returns-in-Ok-clause-calls
returns-in-Ok-clause-calls g c =
    let may = c.in-Some.ensures.admitted in
    let xs = c.args.self.now.components.items in
    let at = at-place xs c.args.c.0 c.from.result may.before c.index_mut.result.now may.at c.from.ensures c.index_mut.ensures.value in
    let set = c.tell.ensures.same ∙ ap (λ i. slice_set xs i c.does_work.new.x) c.from.ensures in
    makes-there c.args.program.now c.args.work.now c.args.event.now.stop true (is_ok c.tell.result) xs c.tell.new.self.components.items c.args.c.0 c.index_mut.result.now c.does_work.new.x at set (λ ok. refl) c.in-Ok.ensures.calls

pub returns-in-Err-clause-calls : goal.returns-in-Err-clause-calls
returns-in-Err-clause-calls g c =
    let may = c.in-Some.ensures.admitted in
    let xs = c.args.self.now.components.items in
    let at = at-place xs c.args.c.0 c.from.result may.before c.index_mut.result.now may.at c.from.ensures c.index_mut.ensures.value in
    makes-there c.args.program.now c.args.work.now c.args.event.now.stop false false xs (slice_set xs c.from.result c.does_work.new.x) c.args.c.0 c.index_mut.result.now c.does_work.new.x at (ap (λ i. slice_set xs i c.does_work.new.x) c.from.ensures) (λ ok. ok) c.in-Err.ensures.calls

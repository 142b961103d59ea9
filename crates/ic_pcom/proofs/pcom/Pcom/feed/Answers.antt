use Rattle.std.proofs.Common.{◌∙◌, sym, ap, refl, subst, ℕ, length, arith, Option, Some}
use Rattle.def_state.specs.Vol.{Vol}
use Rattle.ic_gate.specs.RecordLogs.{records_of}
use Rattle.ic_pcom.specs.Restaging.{FailsToBeFed}
use Rattle.ic_pcom.specs.Views.{component_of}
use Rattle.ic_pcom.proofs.Fed.{fed_comes, fed_has_peers, fed_does, misfit_met}
use Rattle.ic_pcom.proofs.Still.{keeps_log}
use Rattle.ic_pcom.proofs.Wanted.{needs}
use Rattle.ic_pcom.proofs.pcom.Pcom.feed.Goals as goal

pub feed-requires-clause-needed : goal.feed-requires-clause-needed
feed-requires-clause-needed g c = let p = c.args.self.now in needs c.args.program.now p.«com» (component_of p).rest c.args.msg c.requires.wanted

pub rise-requires-clause-waits : goal.rise-requires-clause-waits
rise-requires-clause-waits g c =
    (fed_comes c.args.program.now c.args.self.now c.args.msg c.requires.open c.requires.replays c.requires.wanted c.feed.new.stage (c.in-Ok-feed.ensures {u = tt}).fed).ends

pub rise-requires-clause-limits : goal.rise-requires-clause-limits
rise-requires-clause-limits g c =
    (fed_comes c.args.program.now c.args.self.now c.args.msg c.requires.open c.requires.replays c.requires.wanted c.feed.new.stage (c.in-Ok-feed.ensures {u = tt}).fed).fits

pub rise-requires-clause-peers : goal.rise-requires-clause-peers
rise-requires-clause-peers g c =
    fed_has_peers c.args.program.now c.args.self.now c.args.msg c.requires.open c.requires.replays c.requires.wanted c.feed.new.stage (c.in-Ok-feed.ensures {u = tt}).fed c.requires.few

pub rise-requires-clause-room : goal.rise-requires-clause-room
rise-requires-clause-room g c =
    let comes = fed_comes c.args.program.now c.args.self.now c.args.msg c.requires.open c.requires.replays c.requires.wanted c.feed.new.stage (c.in-Ok-feed.ensures {u = tt}).fed in
    omega (arith, (c.in-Ok.ensures {u = tt}).room c.forced_end-forced.result refl, comes.few, c.left-left.ensures, ap (λ (v : Vol). length v.inbox.receipts) c.state-state.ensures)

pub invariant_of-self : goal.invariant_of-self
invariant_of-self g c =
    let p = c.args.self.now in
    let down = c.requires.replays in
    let f = (c.in-Ok-feed.ensures {u = tt}).fed in
    let r = c.rise.ensures.stage (records_of p.log) (sym c.forced_end-forced.ensures) in
    record {
      durable = p.durable;
      settled = p.settled;
      opened = p.opened;
      placed = λ told up still. p.placed told c.requires.open down ∙ sym (r.places_are still ∙ f.places_are);
      limits = r.limits;
      peers = r.peers;
      rests = r.rests;
      replays = λ still. (r.owner still ∙ f.owner ∙ (p.replays down).0, (p.replays down).1, omega (arith, r.before still, ap length r.left, f.before, (p.replays down).2));
      counted = λ still. (r.played still ∙ sym c.played-self.ensures, omega (arith, c.played-self.ensures, ap length r.left, f.played, (p.counted down).0, (p.counted down).1), omega (arith, ap length (r.places_are still), ap length f.places_are, (p.counted down).2));
    }

pub returns-in-Ok-feed-clause-step : goal.returns-in-Ok-feed-clause-step
returns-in-Ok-feed-clause-step g c =
    let p = c.args.self.now in
    let end = sym c.forced_end-forced.ensures in
    fed_does c.args.program.now p c.args.msg c.requires.open c.requires.replays c.requires.wanted c.feed.new.stage (c.in-Ok-feed.ensures {u = tt}).fed _ c.rise.result (c.rise.ensures.stage (records_of p.log) end) (c.rise.ensures.told (records_of p.log) end) refl c.played-self.ensures c.requires.open

pub returns-in-Ok-feed-clause-log : goal.returns-in-Ok-feed-clause-log
returns-in-Ok-feed-clause-log g c =
    let k = keeps_log c.args.self.now c.requires.open in
    record { same = refl; start = refl; disk = k.disk; sized = k.sized; of_file = k.of_file; listed = k.listed; stood = k.stood; log = λ told is. k.log told c.requires.open; whose = λ told is. record { fingerprint = refl; owner = refl }; still = λ told is same. refl }

pub returns-in-Err-None-clause-log : goal.returns-in-Err-None-clause-log
returns-in-Err-None-clause-log g c =
    let k = keeps_log c.args.self.now c.requires.open in
    record { same = refl; start = refl; disk = k.disk; sized = k.sized; of_file = k.of_file; listed = k.listed; stood = k.stood; log = λ told is. k.log told c.requires.open; whose = λ told is. record { fingerprint = refl; owner = refl }; still = λ told is same. refl }

pub returns-clause-log : goal.returns-clause-log
returns-clause-log g c =
    let k = keeps_log c.args.self.now c.requires.open in
    record { same = refl; start = refl; disk = k.disk; sized = k.sized; of_file = k.of_file; listed = k.listed; stood = k.stood; log = λ told is. k.log told c.requires.open; whose = λ told is. record { fingerprint = refl; owner = refl }; still = λ told is same. refl }

pub returns-in_default-clause-log : goal.returns-in_default-clause-log
returns-in_default-clause-log g c = keeps_log c.args.self.now c.requires.open

pub returns-in-Ok-feed-clause-steps : goal.returns-in-Ok-feed-clause-steps
returns-in-Ok-feed-clause-steps g c =
    let r = c.rise.ensures.stage (records_of c.args.self.now.log) (sym c.forced_end-forced.ensures) in
    let f = c.in-Ok-feed.ensures {u = tt} in
    omega (arith, f.steps, ap length r.left, f.fed.played)

pub returns-clause-refused : goal.returns-clause-refused
returns-clause-refused g c =
    let p = c.args.self.now in
    let P : Option ℕ → Type 0 = λ o. FailsToBeFed c.args.program.now c.args.msg p.stage c.feed.new.stage o in
    misfit_met c.args.program.now p c.args.msg c.requires.open c.requires.replays c.requires.wanted _ c.feed.new.stage _ (subst P (c.in-Err-Some.field-0-is ∙ ap (λ n. Some n) (sym c.in-Err-Some.place-is)) (c.in-Err-Some.ensures {u = tt}).refused) refl refl

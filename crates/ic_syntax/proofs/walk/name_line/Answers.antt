use Rattle.std.proofs.Common.{ap, subst, is_some, option_map}
use Rattle.ic_items.specs.Views.{item_seen}
use Rattle.ic_syntax.specs.BuilderStates.{BuilderState, state_of}
use Rattle.ic_syntax.specs.ResolvedLine.{said_lines}
use Rattle.ic_syntax.specs.Places.{all_behind, LeadsTo}
use Rattle.ic_syntax.proofs.Leading.{leads, same_state}
use Rattle.ic_syntax.proofs.walk.name_line.Goals as goal

pub with_said-requires : goal.with_said-requires
with_said-requires c =
    let led = leads c.args.all.now c.args.number c.args.seen.now c.step_if.new.seen (option_map item_seen c.in_ok-item.item) (said_lines c.in_ok-said.said) (state_of c.args.draft.place) c.requires.leads c.in_ok-said.ensures c.in_ok-step_if.ensures.ok in
    ap is_some led.1

pub returns-clause-spot : goal.returns-clause-spot
returns-clause-spot c =
    let spot = state_of c.args.draft.place in
    let led = leads c.args.all.now c.args.number c.args.seen.now c.step_if.new.seen (option_map item_seen c.in_ok-item.item) (said_lines c.in_ok-said.said) spot c.requires.leads c.in_ok-said.ensures c.in_ok-step_if.ensures.ok in
    subst (λ (s : BuilderState). LeadsTo c.step_if.new.seen s) (same_state (all_behind (said_lines c.in_ok-said.said) spot) led.0 (state_of c.in_ok-with_said.field-0.place) led.1 c.in_ok-with_said.ensures.spot) led.2

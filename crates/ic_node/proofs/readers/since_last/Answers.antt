use Rattle.std.proofs.Common.{◌∙◌, ◌<◌, length, length-append, arith}
use Rattle.def_step.specs.Pcom.{all_of}
use Rattle.def_step.specs.Replay.{behind_checkpoint}
use Rattle.ic_pcom.specs.Views.{component_of}
use Rattle.ic_node.proofs.Counts.{few_forced, few_buffered}
use Rattle.ic_node.proofs.Tails.{behind_short, since_some, since_none}
use Rattle.ic_node.proofs.readers.since_last.Goals as goal

pub overflow_add-forced : goal.overflow_add-forced
overflow_add-forced g c =
    let few = few_forced c.args.pcom.now in
    let more = few_buffered c.args.pcom.now in
    omega (arith, few, more, c.forced.ensures, c.buffered.ensures)

pub returns-then-own-forced : goal.returns-then-own-forced
returns-then-own-forced g c =
    let l = (component_of c.args.pcom.now).log in
    let all = length-append l.forced l.buffered in
    let less : length (behind_checkpoint (all_of l)) < length (all_of l) = omega (arith, c.if-own-forced.true, c.since_checkpoint-own.ensures, c.forced.ensures, c.buffered.ensures, all) in
    c.since_checkpoint-own.ensures ∙ since_some c.args.records.now (all_of l) less

pub overflow_sub-passed : goal.overflow_sub-passed
overflow_sub-passed g c =
    let short = behind_short c.args.records.now in
    omega (arith, short, c.count_behind.ensures)

pub count_both-requires : goal.count_both-requires
count_both-requires g c =
    let l = (component_of c.args.pcom.now).log in
    let few = few_forced c.args.pcom.now in
    let more = few_buffered c.args.pcom.now in
    let short = behind_short (all_of l) in
    record { few = omega (arith, few, more, short, length-append l.forced l.buffered, c.since_checkpoint-own.ensures) }

pub returns : goal.returns
returns g c =
    let l = (component_of c.args.pcom.now).log in
    let all = length-append l.forced l.buffered in
    let short = behind_short c.args.records.now in
    let since = since_none c.args.records.now (all_of l) (λ less. omega (arith, less, c.if-own-forced.false, c.since_checkpoint-own.ensures, c.forced.ensures, c.buffered.ensures, all)) in
    omega (arith, since, short, c.count_both.ensures, c.count_behind.ensures, c.since_checkpoint-own.ensures)

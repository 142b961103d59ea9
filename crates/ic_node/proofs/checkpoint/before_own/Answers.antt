use Rattle.std.proofs.Common.{◌∙◌, sym, ap, length, ◌-◌, take}
use Rattle.def_step.specs.Replay.{behind_checkpoint}
use Rattle.ic_pcom.specs.Views.{component_of}
use Rattle.ic_node.proofs.Tails.{own_all, none_kept, kept_through}
use Rattle.ic_node.proofs.checkpoint.before_own.Goals as goal

pub returns-then-own-since : goal.returns-then-own-since
returns-then-own-since g c kept is same =
    let l = (component_of c.args.pcom.now).log in
    c.new.ensures ∙ none_kept kept l.forced (sym c.forced-own.ensures ∙ c.if-own-since.true ∙ c.since_checkpoint-since.ensures ∙ ap (λ rs. length (behind_checkpoint rs)) (own_all l c.requires.forced))

pub returns : goal.returns
returns g c kept is same =
    let l = (component_of c.args.pcom.now).log in
    let own_is = c.forced-own.ensures in
    let since_is = c.since_checkpoint-since.ensures ∙ ap (λ rs. length (behind_checkpoint rs)) (own_all l c.requires.forced) in
    c.first.ensures
    ∙ ap (λ n. take n c.args.through) (c.saturating_sub-n.ensures ∙ ap (λ n. n - (c.forced-own.result - c.since_checkpoint-since.result)) c.len.ensures.count ∙ ap (λ n. length c.args.through - (n - c.since_checkpoint-since.result)) own_is ∙ ap (λ n. length c.args.through - (length l.forced - n)) since_is)
    ∙ ap (λ rs. take (length rs - (length l.forced - length (behind_checkpoint l.forced))) rs) is
    ∙ kept_through kept l.forced same (λ all. c.if-own-since.false (own_is ∙ all ∙ sym since_is))

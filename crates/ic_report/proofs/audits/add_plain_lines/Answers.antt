use Rattle.std.proofs.Common.{◌≡◌, ◌∙◌, ◌++◌, ap, sym, append-nil, rules, length, min}
use Rattle.std.proofs.lemmas.Slice.Zip.{zip_end}
use Rattle.ic_report.proofs.Saying.{plains-end}
use Rattle.ic_report.proofs.audits.add_plain_lines.Goals as goal

pub returns : goal.returns
returns c =
    let all : length c.loop-component.yielded ≡ min (length c.args.components.now) (length c.args.world.now) =
    zip_end c.args.components.now c.args.world.now c.loop-component.yielded c.into_iter-component-iterator.result c.loop-component.component-iterator c.next.new.self c.next.result
    (search rules) (search rules) c.loop-component.yielded_by c.in-None.is c.next.ensures.steps in
    let e = plains-end c.args.components.now c.args.world.now (length c.loop-component.yielded) all in
    let out = c.loop-component.out.items in
    sym (append-nil out) ∙ sym (ap (λ t. out ++ t) e) ∙ c.loop-component.invariant

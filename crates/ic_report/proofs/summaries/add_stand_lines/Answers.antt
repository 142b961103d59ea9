use Rattle.std.proofs.Common.{◌≡◌, ◌∙◌, ◌++◌, ap, sym, append-nil, rules, length, min}
use Rattle.std.proofs.lemmas.Slice.Zip.{zip_end}
use Rattle.ic_report.proofs.Saying.{stands-end}
use Rattle.ic_report.proofs.summaries.add_stand_lines.Goals as goal

pub returns : goal.returns
returns c =
    let all : length c.loop-component.yielded ≡ min (length c.args.components.now) (length c.args.stands.now) =
    zip_end c.args.components.now c.args.stands.now c.loop-component.yielded c.into_iter-component-iterator.result c.loop-component.component-iterator c.next.new.self c.next.result
    (search rules) (search rules) c.loop-component.yielded_by c.in-None.is c.next.ensures.steps in
    let e = stands-end c.args.components.now c.args.stands.now (length c.loop-component.yielded) all in
    let out = c.loop-component.out.items in
    sym (append-nil out) ∙ sym (ap (λ t. out ++ t) e) ∙ c.loop-component.invariant

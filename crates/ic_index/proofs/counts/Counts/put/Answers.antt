use Rattle.std.proofs.Common.{◌≡◌, ap, ◌∙◌, arith, length}
use Rattle.std.specs.Prelude.{slice_set}
use Rattle.std.specs.List.{insert}
use Rattle.std.proofs.lemmas.Grind.{common_steps}
use Rattle.ic_index.proofs.Numbering.{put-set, put-insert}
use Rattle.ic_index.proofs.counts.Counts.put.Goals as goal

pub insert-requires : goal.insert-requires
insert-requires c = let v = ap (λ v. length v.seen) c.self.view_is in omega arith

pub returns-then-is_at-clause-put : goal.returns-then-is_at-clause-put
returns-then-is_at-clause-put c =
    ap (λ v. slice_set v.seen c.place-i.result (c.args.com, c.args.n)) c.self.view_is
    ∙ put-set c.args.com c.args.n c.args.self.now.seen c.place-i.result c.place-i.ensures.below (cc)

pub returns-else-is_err-clause-put : goal.returns-else-is_err-clause-put
returns-else-is_err-clause-put c =
    let inserted : c.insert.new.self.items ≡ insert c.self.inside.numbers.items c.place-i.result (c.args.com, c.args.n) = grind (arith, common_steps) in
    inserted
    ∙ ap (λ v. insert v.seen c.place-i.result (c.args.com, c.args.n)) c.self.view_is
    ∙ put-insert c.args.com c.args.n c.args.self.now.seen c.place-i.result c.place-i.ensures.below (cc)

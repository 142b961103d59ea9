use Rattle.std.proofs.Common.{◌≡◌, ◌∙◌, ◌++◌, ◌∷◌, [], List, ℕ, ap, append_assoc}
use Rattle.def_log.specs.Spelling.{number, args}
use Rattle.ic_wire.proofs.Ranges.{two}
use Rattle.ic_ckpt.proofs.writing.put_message.Goals as goal

pub returns : goal.returns
returns c =
    let m = c.args.message.now in
    let old = c.args.out.now.items in
    let numbers = number m.k ++ number m.stamp in
    let front : c.put_pair.new.out.items ≡ old ++ (m.to.0 ∷ numbers) = two old (m.to.0 ∷ []) numbers c.push.new.self.items c.put_pair.new.out.items c.in_ok-push.ensures.items c.in_ok-put_pair.ensures in
    two old (m.to.0 ∷ numbers) (m.handler ∷ args m.args) c.put_pair.new.out.items c.put_content.new.out.items front c.in_ok-put_content.ensures.spelled
    ∙ ap (λ (l : List ℕ). old ++ (m.to.0 ∷ l)) (append_assoc (number m.k) (number m.stamp) (m.handler ∷ args m.args))

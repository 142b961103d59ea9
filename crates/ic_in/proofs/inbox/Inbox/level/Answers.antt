use Rattle.std.proofs.Common.{◌∙◌, ap, sym, option_map}
use Rattle.std.specs.List.{list_any}
use Rattle.def_state.specs.Names.{Identity, same_identity}
use Rattle.def_state.specs.Inbox.{level_of, level_found, level_of_other, is_taken}
use Rattle.ic_index.proofs.Alone.{alone-find, none-find}
use Rattle.ic_in.proofs.inbox.Inbox.level.Goals as goal

pub returns-in-Some : goal.returns-in-Some
returns-in-Some c =
    let x : Identity = record { peer = c.args.from; k = c.args.k } in
    c.level.ensures
    ∙ sym (ap (λ o. level_found (option_map (level_of c.args.forced) o) (is_taken c.args.self.now.seen x)) (alone-find (λ r. same_identity x r.name) c.args.self.now.seen.receipts _ _ c.in-Some.ensures.found))

pub returns-then-contains : goal.returns-then-contains
returns-then-contains c =
    let x : Identity = record { peer = c.args.from; k = c.args.k } in
    let taken = sym c.if-contains.true ∙ c.contains.ensures ∙ ap (λ v. list_any (same_identity x) v.seen.taken) c.self.view_is in
    ap level_of_other taken
    ∙ sym (ap (λ o. level_found (option_map (level_of c.args.forced) o) (is_taken c.args.self.now.seen x)) (none-find (λ r. same_identity x r.name) c.args.self.now.seen.receipts (c.find.ensures.none c.in-None.is)))

pub returns-else-contains : goal.returns-else-contains
returns-else-contains c =
    let x : Identity = record { peer = c.args.from; k = c.args.k } in
    let taken = sym c.if-contains.false ∙ c.contains.ensures ∙ ap (λ v. list_any (same_identity x) v.seen.taken) c.self.view_is in
    ap level_of_other taken
    ∙ sym (ap (λ o. level_found (option_map (level_of c.args.forced) o) (is_taken c.args.self.now.seen x)) (none-find (λ r. same_identity x r.name) c.args.self.now.seen.receipts (c.find.ensures.none c.in-None.is)))

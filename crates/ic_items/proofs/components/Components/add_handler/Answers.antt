use Rattle.std.proofs.Common.{◌≤◌, ◌-◌, ◌++◌, ◌∷◌, ◌∙◌, [], map, ap, sym, length, arith}
use Rattle.std.proofs.lemmas.Result.{on_ok_weaker, on_err_weaker}
use Rattle.indexmap.specs.Layout.{set_value_at}
use Rattle.def_syntax.specs.Scope.{Declared, is_in, names}
use Rattle.ic_items.specs.declared.components.Components.TheInside.{Inside}
use Rattle.ic_items.specs.Contents.{Content, declared_seen}
use Rattle.ic_items.specs.Tables.{entries_seen}
use Rattle.ic_items.proofs.Latest.{latest_is, latest_changed, latest_kept, length_kept}
use Rattle.ic_items.proofs.components.Components.add_handler.Goals as goal

pub add_handler-requires-clause-new : goal.add_handler-requires-clause-new
add_handler-requires-clause-new c =
    ap (λ (x : Content). is_in c.args.name (names x.handlers)) (sym (latest_is _ _ (sym c.in-Some.ensures.value) _ (ap (λ (s : Inside). map declared_seen s.table) c.self-inside.view_is ∙ c.self.view_is))) ∙ c.requires.new

pub add_handler-requires-clause-room : goal.add_handler-requires-clause-room
add_handler-requires-clause-room c =
    let e = latest_is _ _ (sym c.in-Some.ensures.value) _ (ap (λ (s : Inside). map declared_seen s.table) c.self-inside.view_is ∙ c.self.view_is) in
    omega (arith, ap (λ (x : Content). length x.handlers) e, c.requires.room)

pub invariant_of-self : goal.invariant_of-self
invariant_of-self c =
    let es = c.self-inside.inside.0.0.entries.entries in
    let kept = length_kept es (length es - 1) c.add_handler.new.self in
    let same = ap (λ (s : Inside). length s.table) c.self-inside.view_is in
    let small : length (entries_seen (set_value_at es (length es - 1) c.add_handler.new.self)) ≤ 32 = omega (arith, kept, same, c.self.invariant) in
    small

pub returns-in-Some-clause-ok : goal.returns-in-Some-clause-ok
returns-in-Some-clause-ok c =
    on_ok_weaker c.add_handler.result (λ e. latest_changed _ _ (sym c.in-Some.ensures.value) _ (ap (λ (s : Inside). map declared_seen s.table) c.self-inside.view_is ∙ c.self.view_is)
    (λ (x : Declared). record x { handlers = x.handlers ++ (c.args.name, c.args.params) ∷ [] }) c.add_handler.new.self (λ n. ap (λ (x : Content). declared_seen (n, x)) (sym e))) c.add_handler.ensures.ok

pub returns-in-Some-clause-err : goal.returns-in-Some-clause-err
returns-in-Some-clause-err c = on_err_weaker c.add_handler.result (λ e. latest_kept _ _ (sym c.in-Some.ensures.value) _ (ap (λ (s : Inside). map declared_seen s.table) c.self-inside.view_is ∙ c.self.view_is) c.add_handler.new.self e) c.add_handler.ensures.err

use Rattle.std.proofs.Common.{◌≡◌, ◌∙◌, ◌+◌, ◌∷◌, List, ℕ, drop, true, false, ap, sym, arith}
use Rattle.std.proofs.lemmas.List.{drop_more}
use Rattle.def_syntax.specs.Scope.{is_in}
use Rattle.ic_items.specs.Tables.{slices_seen}
use Rattle.ic_items.proofs.Twice.{told, told_none, twice_here, twice_on, new_by, slice_added}
use Rattle.ic_items.proofs.name_set.has_twice.Goals as goal

pub loop-name-init : goal.loop-name-init
loop-name-init c = ap (λ ks. told (slices_seen ks) c.args.names.now) c.new-before.ensures.empty ∙ told_none c.args.names.now

pub returns-then-not-is_new : goal.returns-then-not-is_new
returns-then-not-is_new c =
    let n = c.name-item.result in
    let i = c.loop-name.name-index in
    let names = c.args.names.now in
    let ks = c.loop-name.before.keys in
    let d : drop i names ≡ n ∷ drop (i + 1) names = drop_more names i n (omega arith) ∙ ap (λ (x : List ℕ). x ∷ drop (i + 1) names) (sym c.name-item.is) in
    twice_here names (slices_seen ks) (drop (i + 1) names) n i d c.loop-name.invariant (new_by c.as_slice.result ks n false c.in_ok-is_new.is_new c.as_slice.ensures c.if-not-is_new.true c.in_ok-is_new.ensures.added)

pub loop-name-preserved : goal.loop-name-preserved
loop-name-preserved c =
    let n = c.name-item.result in
    let i = c.loop-name.name-index in
    let names = c.args.names.now in
    let ks = c.loop-name.before.keys in
    let d : drop i names ≡ n ∷ drop (i + 1) names = drop_more names i n (omega arith) ∙ ap (λ (x : List ℕ). x ∷ drop (i + 1) names) (sym c.name-item.is) in
    let new : is_in n (slices_seen ks) ≡ false = new_by c.as_slice.result ks n true c.in_ok-is_new.is_new c.as_slice.ensures c.if-not-is_new.false c.in_ok-is_new.ensures.added in
    ap (λ (ms : List (List ℕ)). told ms (drop (i + 1) names)) (slice_added c.as_slice.result ks c.insert.new.self.keys n c.as_slice.ensures new c.in_ok-is_new.ensures.keys)
    ∙ twice_on names (slices_seen ks) (drop (i + 1) names) n i d c.loop-name.invariant new

use Rattle.std.proofs.Common.{◌≡◌, ◌∙◌, ap, suc, ℕ, ◌-◌, ◌<◌, List, length, take, get_or, arith}
use Rattle.def_log.specs.Spelling.{spellings}
use Rattle.ic_gate.proofs.Encodings.{opened, ends_of-length, ends_of-get}
use Rattle.ic_gate.proofs.spelled.SpelledRecords.end_of.Goals as goal

pub offset_bounds-as_slice-n : goal.offset_bounds-as_slice-n
offset_bounds-as_slice-n c =
    let e = opened c.self.inside.bytes c.self.inside.ends c.args.self.now c.self.invariant c.self.view_is in
    let count : length c.as_slice.result.now ≡ length c.args.self.now = ap length (c.as_slice.ensures ∙ e.ended) ∙ ends_of-length c.args.self.now in
    let h = c.as_slice.type_inv in
    omega (arith, count, c.requires, h.1)

pub bounds-as_slice-n : goal.bounds-as_slice-n
bounds-as_slice-n c =
    let e = opened c.self.inside.bytes c.self.inside.ends c.args.self.now c.self.invariant c.self.view_is in
    omega (arith, ap length (c.as_slice.ensures ∙ e.ended), ends_of-length c.args.self.now, c.requires, c.if-n-eq0.false)

pub returns-else-n-eq0 : goal.returns-else-n-eq0
returns-else-n-eq0 c =
    let e = opened c.self.inside.bytes c.self.inside.ends c.args.self.now c.self.invariant c.self.view_is in
    let n = c.args.n in
    let lt : n - 1 < length c.args.self.now = omega (arith, c.requires, c.if-n-eq0.false) in
    let next : suc (n - 1) ≡ n = omega (arith, c.if-n-eq0.false) in
    ap (λ (l : List ℕ). get_or l (n - 1) 0) (c.as_slice.ensures ∙ e.ended) ∙ ends_of-get c.args.self.now (n - 1) lt ∙ ap (λ k. length (spellings (take k c.args.self.now))) next

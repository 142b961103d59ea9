use Rattle.std.proofs.Common.{◌≡◌, ◌∙◌, ap, sym, ◌≤◌, ℕ, List, length, arith}
use Rattle.std.specs.Prelude.{Option, Some, None}
use Rattle.ic_base.specs.declared.record.Record.{Record}
use Rattle.ic_gate.proofs.Encodings.{opened, long-take, one_read}
use Rattle.ic_gate.proofs.spelled.SpelledRecords.record.Goals as goal

same_record : (read : Option (Record × List ℕ)) (r s : Record) (x y : List ℕ) → read ≡ Some (r, x) → read ≡ Some (s, y) → r ≡ s
same_record read r s x y e f =
    let same : ◌≡◌ {A = Option (Record × List ℕ)} (Some (r, x)) (Some (s, y)) = sym e ∙ f in
    let pair : ◌≡◌ {A = Record × List ℕ} (r, x) (s, y) = cc in
    ap (λ (p : Record × List ℕ). p.0) pair

not_none : (read : Option (Record × List ℕ)) (x : Record × List ℕ) → read ≡ Some x → read ≡ None → ⊥
not_none read x e none = let no : ◌≡◌ {A = Option (Record × List ℕ)} (Some x) None = sym e ∙ none in cc

pub slice_bounds-record_of-count : goal.slice_bounds-record_of-count
slice_bounds-record_of-count c =
    let e = opened c.self.inside.bytes c.self.inside.ends c.args.self.now c.self.invariant c.self.view_is in
    omega (arith, c.end_of.ensures, ap length (c.as_slice.ensures ∙ e.spelled), long-take c.args.i c.args.self.now)

pub slice_bounds-record_of-start : goal.slice_bounds-record_of-start
slice_bounds-record_of-start c =
    let e = opened c.self.inside.bytes c.self.inside.ends c.args.self.now c.self.invariant c.self.view_is in
    let le : c.end_of.result ≤ length c.as_slice.result.now = omega (arith, c.end_of.ensures, ap length (c.as_slice.ensures ∙ e.spelled), long-take c.args.i c.args.self.now) in
    le

pub unreachable-requires : goal.unreachable-requires
unreachable-requires c =
    let e = opened c.self.inside.bytes c.self.inside.ends c.args.self.now c.self.invariant c.self.view_is in
    let p = one_read c.as_slice.result.now c.args.self.now c.args.i c.end_of.result (c.as_slice.ensures ∙ e.spelled) e.fit c.requires c.end_of.ensures in
    let none = rw c.in-Err-Cut.field-0-is at (c.in-Err-Cut.ensures {u = tt}).reads in
    not_none _ _ p.2 none

pub returns-in-Ok : goal.returns-in-Ok
returns-in-Ok c =
    let e = opened c.self.inside.bytes c.self.inside.ends c.args.self.now c.self.invariant c.self.view_is in
    let p = one_read c.as_slice.result.now c.args.self.now c.args.i c.end_of.result (c.as_slice.ensures ∙ e.spelled) e.fit c.requires c.end_of.ensures in
    p.1 ∙ ap (λ (r : Record). Some r) (same_record _ _ _ _ _ p.2 ((c.in-Ok.ensures {u = tt}).reads))

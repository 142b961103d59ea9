use Rattle.std.proofs.Common.{◌≡◌, ◌∙◌, sym, ap, suc, ℕ, ◌+◌, ◌<◌, ◌≤◌, List, ◌++◌, length, take, get_or, vec_len, arith}
use Rattle.std.proofs.Math.Seq.{take-append_seam}
use Rattle.std.proofs.lemmas.List.{take_all}
use Rattle.ic_base.specs.declared.record.Record.{Record}
use Rattle.def_log.specs.Spelling.{spellings}
use Rattle.ic_gate.specs.Encoding.{Encode, ends_of, decoded}
use Rattle.ic_gate.proofs.Encodings.{opened, closed, seen, long-take, ends_of-length, ends_of-get, ends_of-take, end_on, joined, same_encoding}
use Rattle.ic_gate.proofs.spelled.SpelledRecords.with.Goals as goal

-- where one of the others ends
end_at : (ss : List Record) (ends : List ℕ) (i : ℕ) → ends ≡ ends_of ss → i < length ends → (get_or ends i 0 ≡ length (spellings (take (i + 1) ss))) × (i < length ss)
end_at ss ends i is lt =
    let less : i < length ss = omega (arith, lt, ap length is, ends_of-length ss) in
    let next : suc i ≡ i + 1 = omega arith in
    (ap (λ (l : List ℕ). get_or l i 0) is ∙ ends_of-get ss i less ∙ ap (λ k. length (spellings (take k ss))) next, less)

pub overflow_add-before : goal.overflow_add-before
overflow_add-before c =
    let ss = decoded c.args.more.now in
    let i = c.loop-end.end-index in
    let p = end_at ss c.args.more_ends.now i c.requires.ended c.loop-end-test.true in
    let whole = long-take (i + 1) ss in
    let count = ap length c.requires.spelled in
    let sum = (c.in-Ok.ensures {u = tt}).len in
    let all = c.extend_from_slice.new.self in
    omega (arith, p.0, whole, count, sum, c.len-before.ensures, all.small, all.ok)

pub loop-end-preserved : goal.loop-end-preserved
loop-end-preserved c =
    let e = opened c.self.inside.bytes c.self.inside.ends c.args.self c.self.invariant c.self.view_is in
    let ss = decoded c.args.more.now in
    let i = c.loop-end.end-index in
    let p = end_at ss c.args.more_ends.now i c.requires.ended c.loop-end-test.true in
    let long : vec_len c.into_vec-bytes.result ≡ length c.into_vec-bytes.result.items = omega arith in
    end_on c.args.self ss i c.loop-end.ends c.push_end.new.ends c.len-before.result (get_or c.args.more_ends.now i 0) p.1 c.loop-end.invariant
    ((c.in-Ok-push_end.ensures {u = tt}).ok) (c.len-before.ensures ∙ long ∙ ap length (c.into_vec-bytes.ensures ∙ e.spelled)) p.0

all : (c : goal.After-from_vec-whole) → Encode c.from_vec-whole.result c.loop-end.ends (c.args.self ++ decoded c.args.more.now)
all c =
    let e = opened c.self.inside.bytes c.self.inside.ends c.args.self c.self.invariant c.self.view_is in
    let ss = decoded c.args.more.now in
    let last : length ss ≤ c.loop-end.end-index = omega (arith, c.loop-end-test.false, ap length c.requires.ended, ends_of-length ss) in
    joined c.self.inside.bytes c.args.more.now c.from_vec-whole.result c.loop-end.ends c.args.self ss e.spelled e.fit c.requires.spelled c.requires.fit
    (c.from_vec-whole.ensures ∙ (c.in-Ok.ensures {u = tt}).items ∙ ap (λ (l : List ℕ). l ++ c.args.more.now) c.into_vec-bytes.ensures)
    (c.loop-end.invariant ∙ ap (λ (l : List Record). ends_of (c.args.self ++ l)) (take_all c.loop-end.end-index ss last))

pub invariant_of-all : goal.invariant_of-all
invariant_of-all c = closed c.from_vec-whole.result c.loop-end.ends (c.args.self ++ decoded c.args.more.now) (all c)

pub returns-clause-added : goal.returns-clause-added
returns-clause-added c = seen c.from_vec-whole.result c.loop-end.ends (c.args.self ++ decoded c.args.more.now) (all c)

-- the ends of the first records, of those of all
first_ends : (ends : List ℕ) (rs ss : List Record) → ends ≡ ends_of rs → take (length ends) (ends_of (rs ++ ss)) ≡ ends
first_ends ends rs ss is =
    ap (λ k. take k (ends_of (rs ++ ss))) (ap length is ∙ ends_of-length rs) ∙ ends_of-take (length rs) (rs ++ ss) ∙ ap ends_of (take-append_seam rs ss) ∙ sym is

alone : (c : goal.After-from_vec-old_ends) → Encode c.from_vec-old_bytes.result c.from_vec-old_ends.result c.args.self
alone c =
    let e = opened c.self.inside.bytes c.self.inside.ends c.args.self c.self.invariant c.self.view_is in
    let before = c.into_vec-bytes.result.items in
    let long : vec_len c.into_vec-bytes.result ≡ length before = omega arith in
    same_encoding c.self.inside.bytes c.self.inside.ends c.from_vec-old_bytes.result c.from_vec-old_ends.result c.args.self e
    (c.from_vec-old_bytes.ensures ∙ c.truncate.ensures.items ∙ ap (λ k. take k c.extend_from_slice.new.self.items) (c.len-before.ensures ∙ long) ∙ ap (take (length before)) ((c.in-Ok.ensures {u = tt}).items) ∙ take-append_seam before c.args.more.now ∙ c.into_vec-bytes.ensures)
    (c.from_vec-old_ends.ensures ∙ c.truncate-in-Err.ensures.items ∙ ap (λ k. take k c.into_vec-kept.result.items) c.len-count.ensures
    ∙ ap (take (length c.self.inside.ends)) (c.into_vec-kept.ensures ∙ (c.in-Err.ensures {u = tt}).err ∙ c.loop-end.invariant) ∙ first_ends c.self.inside.ends c.args.self (take c.loop-end.end-index (decoded c.args.more.now)) e.ended)

pub invariant_of-old : goal.invariant_of-old
invariant_of-old c = closed c.from_vec-old_bytes.result c.from_vec-old_ends.result c.args.self (alone c)

pub returns-in-Err-clause-same : goal.returns-in-Err-clause-same
returns-in-Err-clause-same c = seen c.from_vec-old_bytes.result c.from_vec-old_ends.result c.args.self (alone c)

use Rattle.std.proofs.Common.{◌≡◌, ◌∙◌, ap, ℕ, length, take}
use Rattle.def_log.specs.Spelling.{spellings}
use Rattle.ic_gate.specs.Encoding.{Encode}
use Rattle.ic_gate.proofs.Encodings.{opened, closed, seen, cut, same_encoding}
use Rattle.ic_gate.proofs.spelled.SpelledRecords.first.Goals as goal

kept : (c : goal.After-from_vec-2) → Encode c.from_vec.result c.from_vec-2.result (take c.args.n c.args.self)
kept c =
    let n = c.args.n in
    let rs = c.args.self in
    let end : ℕ = length (spellings (take n rs)) in
    let bytes : c.from_vec.result ≡ take end c.self.inside.bytes = c.from_vec.ensures ∙ c.truncate.ensures.items ∙ ap (λ k. take k c.into_vec-bytes.result.items) c.end_of-end.ensures ∙ ap (take end) c.into_vec-bytes.ensures in
    let ends : c.from_vec-2.result ≡ take n c.self.inside.ends = c.from_vec-2.ensures ∙ c.truncate-2.ensures.items ∙ ap (take n) c.into_vec-ends.ensures in
    same_encoding (take end c.self.inside.bytes) (take n c.self.inside.ends) c.from_vec.result c.from_vec-2.result (take n rs) (cut c.self.inside.bytes c.self.inside.ends rs n (opened c.self.inside.bytes c.self.inside.ends c.args.self c.self.invariant c.self.view_is)) bytes ends

pub invariant_of-result-2 : goal.invariant_of-result-2
invariant_of-result-2 c = closed c.from_vec.result c.from_vec-2.result (take c.args.n c.args.self) (kept c)

pub returns : goal.returns
returns c = seen c.from_vec.result c.from_vec-2.result (take c.args.n c.args.self) (kept c)

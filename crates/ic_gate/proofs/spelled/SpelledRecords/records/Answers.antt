use Rattle.std.proofs.Common.{◌≡◌, ◌∙◌, ap, sym, ℕ, List}
use Rattle.std.specs.Prelude.{Result, Ok}
use Rattle.def_log.specs.Log.{◌>>=◌, Placed, records_in, records_of}
use Rattle.ic_gate.proofs.Encodings.{opened, reads}
use Rattle.ic_gate.proofs.spelled.SpelledRecords.records.Goals as goal

pub unreachable-requires : goal.unreachable-requires
unreachable-requires c =
    let e = opened c.self.inside.bytes c.self.inside.ends c.args.self.now c.self.invariant c.self.view_is in
    let read = reads c.as_slice.result.now c.args.self.now (c.as_slice.ensures ∙ e.spelled) e.fit in
    let ok : records_of c.as_slice.result.now ≡ Ok (records_in read.0) = ap (λ (r : Result (List Placed) ℕ). r >>= λ ps. Ok (records_in ps)) read.1 in
    let bad = (c.in-Err-BadAt.ensures {u = tt}).bad c.in-Err-BadAt.field-0-0 c.in-Err-BadAt.field-0-is in
    cc (sym ok ∙ bad)

-- What a stop leaves of a log reads as before the step or as behind it.
use Rattle.std.proofs.Common.{◌≡◌, ◌∙◌, ap, ℕ, ◌+◌, ◌<◌, ◌≤◌, List, [], ◌∷◌, ◌++◌, length, map, arith}
use Rattle.std.specs.Prelude.{Ok}
use Rattle.std.specs.List.{AllByRecursion}
use Rattle.std.proofs.lemmas.List.{length-append}
use Rattle.def_two.specs.declared.moves.Record2.{Record2}
use Rattle.ic_base.specs.declared.record.Batch.{Batch}
use Rattle.def_two.specs.Records.{spelling2, payload2_of, Fits2}
use Rattle.def_two.specs.Logs.{Placed2, placed2_at, placed2_in}
use Rattle.def_log.proofs.TornRecords as records
use Rattle.law_two_run.specs.Torn.{TornReadsByGate2}
use Rattle.law_two_run.proofs.Reading.{spelled-some, read-all, placed-push}

some-bytes : (rs : List Record2) → 0 < length rs → 1 ≤ length (payload2_of rs)
some-bytes [] h = absurd (omega (arith, h))
some-bytes (r ∷ rs) h = omega (arith, spelled-some r, length-append (spelling2 r) (payload2_of rs))

push : (slots : List ℕ) (bs : List Batch) (b : Batch) (ps : List Placed2) (rs : List Record2) → AllByRecursion Fits2 rs → b.payload ≡ payload2_of rs → placed2_in bs ≡ Ok ps → (qs : List Placed2) × (placed2_in (bs ++ b ∷ []) ≡ Ok (ps ++ qs)) × (map (λ q. q.1) qs ≡ rs)
push slots bs b ps rs fits is e =
    let q = read-all rs (length (payload2_of rs)) (b.at + length (payload2_of rs)) fits (omega arith) in
    (q.places, placed-push bs b ps q.places e (ap (λ l. placed2_at b.at l) is ∙ q.is), q.records)

pub torn_reads : TornReadsByGate2
torn_reads stop loads gate old added before left log at_gate some fits reads = records.reads-by-gate (λ slots. placed2_in) payload2_of Fits2 some-bytes push old gate added before left log at_gate some fits stop loads reads

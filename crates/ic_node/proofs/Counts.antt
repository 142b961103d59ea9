-- How many records a log may have.
use Rattle.std.proofs.Common.{◌≡◌, ap, ◌+◌, ◌<◌, ◌≤◌, List, [], ◌∷◌, length, arith}
use Rattle.std.proofs.lemmas.List.Sums.{sum_by-append}
use Rattle.ic_base.specs.declared.limits.TheConstants.{LOG_BYTES}
use Rattle.ic_base.specs.declared.record.Record.{Record}
use Rattle.ic_base.specs.declared.record.Record.TheVariants.{Take, TakeWhole, Input, Value, Outcome, Released, Shown, Checkpoint, Epoch, Decided}
use Rattle.def_state.specs.Positions.{record_length, end_of}
use Rattle.ic_disk.specs.declared.disk.Disk.{Ghosts}
use Rattle.ic_gate.proofs.Lengths.{spellings-length}
use Rattle.ic_pcom.specs.Views.{component_of}
use Rattle.ic_pcom.specs.declared.pcom.Pcom.{Pcom}

-- a record has bytes
some_bytes : (r : Record) → 0 < record_length r
some_bytes (Take from k stamp) = omega arith
some_bytes (TakeWhole from k stamp handler args) = omega arith
some_bytes (Input stamp handler args) = omega arith
some_bytes (Value n place session value) = omega arith
some_bytes (Outcome stamp n abort) = omega arith
some_bytes (Released to k) = omega arith
some_bytes (Shown m) = omega arith
some_bytes (Checkpoint image) = omega arith
some_bytes (Epoch epoch) = omega arith
some_bytes (Decided stamp c n writes) = omega arith

-- so there are no more records than bytes
few_records : (rs : List Record) → length rs ≤ end_of rs
few_records [] = omega arith
few_records (r ∷ rs) =
    let less = few_records rs in
    let more : end_of (r ∷ rs) ≡ (0 + record_length r) + end_of rs = sum_by-append record_length (r ∷ []) rs in
    omega (arith, less, more, some_bytes r)

pub few_forced : {D : Type 0} {d : Ghosts D} (p : Pcom D d) → length (component_of p).log.forced < LOG_BYTES
few_forced p =
    let few = few_records (component_of p).log.forced in
    omega (arith, few, p.log.ended, p.log.log.few, p.log.log.short)

pub few_buffered : {D : Type 0} {d : Ghosts D} (p : Pcom D d) → length (component_of p).log.buffered < LOG_BYTES
few_buffered p =
    let few = few_records (component_of p).log.buffered in
    grind (arith, few, spellings-length (component_of p).log.buffered, ap length p.log.waiting, p.log.log.fits)

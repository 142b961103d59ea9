-- What is known of a record that was read.
use Rattle.std.proofs.Common.{◌≡◌, ℕ, ◌+◌, ◌<◌, List, ◌++◌, length, subst, sym, arith}
use Rattle.std.specs.Prelude.{Result, Ok, Err, IfOk, OnOk}
use Rattle.std.proofs.lemmas.List.{length-append}
use Rattle.ic_base.specs.declared.record.Record.{Record}
use Rattle.ic_base.specs.declared.record.Record.TheVariants.{Take, TakeWhole, Input, Value, Outcome, Released, Shown, Checkpoint, Epoch, Decided}
use Rattle.def_log.specs.Spelling.{spelling, Fits}
use Rattle.def_log.specs.Reading.{record_at}
use Rattle.def_log.proofs.Takes.{IsBytes, record_takes}
use Rattle.ic_wire.specs.declared.unread.Unread.{Unread}
use Rattle.ic_wire.specs.Gives.{Gives}
use Rattle.ic_wire.specs.Placed.{IsCounted}

spelling_some : (r : Record) → 0 < length (spelling r)
spelling_some (Take from k stamp) = omega arith
spelling_some (TakeWhole from k stamp handler xs) = omega arith
spelling_some (Input stamp handler xs) = omega arith
spelling_some (Value n place s x) = omega arith
spelling_some (Outcome stamp n abort) = omega arith
spelling_some (Released to k) = omega arith
spelling_some (Shown m) = omega arith
spelling_some (Checkpoint image) = omega arith
spelling_some (Epoch epoch) = omega arith
spelling_some (Decided stamp c n ws) = omega arith

pub read_fits : {X : Type 0} (view : X → Record × List ℕ) (result : Result X Unread) (bytes : List ℕ) → IsBytes bytes → Gives view result (record_at bytes) → IfOk result (λ x. Fits (view x).0)
read_fits view (Ok x) bytes fits h = (record_takes bytes (view x).0 (view x).1 fits h).1
read_fits view (Err e) bytes fits h = tt

pub read_less : {X : Type 0} (view : X → Record × List ℕ) (result : Result X Unread) (bytes : List ℕ) → IsBytes bytes → Gives view result (record_at bytes) → IfOk result (λ x. length (view x).1 < length bytes)
read_less view (Err e) bytes fits h = tt
read_less view (Ok x) bytes fits h =
    let parts : bytes ≡ spelling (view x).0 ++ (view x).1 = (record_takes bytes (view x).0 (view x).1 fits h).0.parts in
    let some : 0 < length (spelling (view x).0) = spelling_some (view x).0 in
    let sum : length (spelling (view x).0 ++ (view x).1) ≡ length (spelling (view x).0) + length (view x).1 = length-append (spelling (view x).0) (view x).1 in
    rw parts (omega (arith, sum, some))

-- a record fits where its numbers are counted and its spelling says the rest
pub fits_where : {T E P : Type 0} (result : Result T E) (stored now : Record) → stored ≡ now → (P → IsCounted now → Fits now) → IsCounted stored → OnOk result P → OnOk result (Fits stored)
fits_where (Ok x) stored now e f counted h = subst Fits (sym e) (f h (subst IsCounted e counted))
fits_where (Err x) stored now e f counted h = tt

-- How many entries of the merged history some records give.
use Rattle.std.proofs.Common.{◌≡◌, ◌∙◌, refl, sym, ap, ℕ, ◌+◌, ◌<◌, arith, Bool, true, false, cond, List, [], ◌∷◌, ◌++◌, take, length, length-append, get_or, Option, Some, None}
use Rattle.std.proofs.lemmas.List.{take_more}
use Rattle.std.proofs.lemmas.List.Elements.{filter_map-append}
use Rattle.std.specs.List.{cons_option}
use Rattle.std.specs.Prelude.{◌==◌, is_some}
use Rattle.ic_base.specs.declared.messages.ComId.{ComId}
use Rattle.ic_base.specs.declared.messages.Entry.{Entry}
use Rattle.ic_base.specs.declared.messages.Kind.{Kind}
use Rattle.ic_base.specs.declared.record.Record.{Record}
use Rattle.ic_base.specs.declared.record.Record.TheVariants.{Take, TakeWhole, Input, Value, Outcome, Released, Shown, Checkpoint, Epoch, Decided}
use Rattle.def_plain.specs.History.{pcom_entry, tcom_entry, entry_of, log_entries}
use Rattle.ic_gate.specs.Encoding.{kind_of}

-- the entries of two rows of records
pub both_counted : (kind : Kind) (c : ComId) (before own : List Record) → length (log_entries kind c (before ++ own)) ≡ length (log_entries kind c before) + length (log_entries kind c own)
both_counted kind c before own =
    ap length (filter_map-append (entry_of kind c) before own) ∙ length-append (log_entries kind c before) (log_entries kind c own)

alone : (o : Option Entry) → length (cons_option o []) ≡ cond (is_some o) 1 0
alone None = refl
alone (Some e) = refl

-- those of one record more
pub one_counted : (kind : Kind) (c : ComId) (rs : List Record) (i : ℕ) (r : Record) → i < length rs → r ≡ get_or rs i r
    → length (log_entries kind c (take (i + 1) rs)) ≡ length (log_entries kind c (take i rs)) + cond (is_some (entry_of kind c r)) 1 0
one_counted kind c rs i r lt at =
    ap (λ l. length (log_entries kind c l)) (take_more rs i r lt ∙ ap (λ x. take i rs ++ x ∷ []) (sym at))
    ∙ both_counted kind c (take i rs) (r ∷ []) ∙ ap (λ n. length (log_entries kind c (take i rs)) + n) (alone (entry_of kind c r))

-- its kind tells whether a record of a Pcom's log gives an entry
pub pcom_gives : (t : ComId) (r : Record) (gives : Bool) → (0 < kind_of r → kind_of r < 4 → gives ≡ true) → (kind_of r ≡ 11 → gives ≡ true) → (3 < kind_of r → kind_of r < 11 → gives ≡ false) → gives ≡ is_some (pcom_entry t r)
pcom_gives t (Take from k stamp) gives small last great = small (omega arith) (omega arith)
pcom_gives t (TakeWhole from k stamp handler xs) gives small last great = small (omega arith) (omega arith)
pcom_gives t (Input stamp handler xs) gives small last great = small (omega arith) (omega arith)
pcom_gives t (Value n place s x) gives small last great = great (omega arith) (omega arith)
pcom_gives t (Outcome stamp n None) gives small last great = great (omega arith) (omega arith)
pcom_gives t (Outcome stamp n (Some cause)) gives small last great = last refl
pcom_gives t (Released to k) gives small last great = great (omega arith) (omega arith)
pcom_gives t (Shown m) gives small last great = great (omega arith) (omega arith)
pcom_gives t (Checkpoint image) gives small last great = great (omega arith) (omega arith)
pcom_gives t (Epoch epoch) gives small last great = great (omega arith) (omega arith)
pcom_gives t (Decided stamp c n writes) gives small last great = great (omega arith) (omega arith)

-- and whether one of a Tcom's log does
pub tcom_gives : (t : ComId) (r : Record) → (kind_of r == 10) ≡ is_some (tcom_entry t r)
tcom_gives t (Take from k stamp) = refl
tcom_gives t (TakeWhole from k stamp handler xs) = refl
tcom_gives t (Input stamp handler xs) = refl
tcom_gives t (Value n place s x) = refl
tcom_gives t (Outcome stamp n None) = refl
tcom_gives t (Outcome stamp n (Some cause)) = refl
tcom_gives t (Released to k) = refl
tcom_gives t (Shown m) = refl
tcom_gives t (Checkpoint image) = refl
tcom_gives t (Epoch epoch) = refl
tcom_gives t (Decided stamp c n writes) = refl

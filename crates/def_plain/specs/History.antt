-- The merged history of logs: their entries by stamp, then by component.
use Rattle.std.specs.Prelude.{◌≡◌, false, ℕ, ◌+◌, Bool, cond, ◌&&◌, ◌||◌, ◌==◌, nat_lt, List, [], ◌∷◌, ◌++◌, filter_map, Option, None, Some}
use Rattle.ic_base.specs.declared.messages.ComId.{ComId}
use Rattle.ic_base.specs.declared.messages.Kind.{Kind}
use Rattle.ic_base.specs.declared.messages.Kind.TheVariants.{Pcom, Tcom, Xcom}
use Rattle.ic_base.specs.declared.messages.Entry.{Entry}
use Rattle.ic_base.specs.declared.messages.Act.{Act}
use Rattle.ic_base.specs.declared.messages.Act.TheVariants as act
use Rattle.ic_base.specs.declared.scenario.Component.{Component}
use Rattle.ic_base.specs.declared.scenario.Program.{Program}
use Rattle.ic_base.specs.declared.record.Record.{Record}
use Rattle.ic_base.specs.declared.record.Record.TheVariants.{Take, TakeWhole, Input, Outcome, Decided}

abbrev pub entry : ComId → ℕ → Act → Entry
entry c stamp x = record { «com» = c; stamp = stamp; act = x }

-- the entry of a record of a Pcom's log, and of a Tcom's
abbrev pub pcom_entry : ComId → Record → Option Entry
pcom_entry c (Take s k stamp) = Some (entry c stamp (act.Take s k))
pcom_entry c (TakeWhole s k stamp h args) = Some (entry c stamp (act.Take s k))
pcom_entry c (Input stamp h args) = Some (entry c stamp (act.Input h args))
pcom_entry c (Outcome stamp n (Some cause)) = Some (entry c stamp (act.Abort n))
pcom_entry c _ = None

abbrev pub tcom_entry : ComId → Record → Option Entry
tcom_entry t (Decided stamp c n writes) = Some (entry t stamp (act.Commit c n))
tcom_entry t _ = None

abbrev pub entry_of : Kind → ComId → Record → Option Entry
entry_of Pcom c r = pcom_entry c r
entry_of Tcom c r = tcom_entry c r
entry_of Xcom c r = None

-- the entries of one log, in its order
abbrev pub log_entries : Kind → ComId → List Record → List Entry
log_entries kind c log = filter_map (entry_of kind c) log

-- the entries of the logs of the components from number i on, one log after another
abbrev pub entries_from : ℕ → List Component → List (List Record) → List Entry
entries_from i [] logs = []
entries_from i (x ∷ xs) [] = []
entries_from i (x ∷ xs) (log ∷ logs) = log_entries x.kind (record { 0 = i }) log ++ entries_from (i + 1) xs logs

-- an entry stands before another: by its stamp, then by its component
abbrev pub is_before : Entry → Entry → Bool
is_before x y = nat_lt x.stamp y.stamp || ((x.stamp == y.stamp) && nat_lt x.com.0 y.com.0)

-- an item in its place among ordered ones, before those that tie with it
abbrev pub placed : {A : Type 0} → (A → A → Bool) → A → List A → List A
placed lt e [] = e ∷ []
placed lt e (x ∷ xs) = cond (lt x e) (x ∷ placed lt e xs) (e ∷ x ∷ xs)

-- items in order; those that tie stay in the order that they had
abbrev pub in_order : {A : Type 0} → (A → A → Bool) → List A → List A
in_order lt [] = []
in_order lt (e ∷ es) = placed lt e (in_order lt es)

-- the merged history of logs, one per component
abbrev pub history_of : Program → List (List Record) → List Entry
history_of program logs = in_order is_before (entries_from 0 program.components logs)

-- no item of a list stands before x
abbrev pub NoneBefore : {A : Type 0} → (A → A → Bool) → A → List A → Type 0
NoneBefore lt x [] = Unit {0}
NoneBefore lt x (y ∷ ys) = (lt y x ≡ false) × NoneBefore lt x ys

-- a list is in order
abbrev pub IsOrdered : {A : Type 0} → (A → A → Bool) → List A → Type 0
IsOrdered lt [] = Unit {0}
IsOrdered lt (x ∷ xs) = NoneBefore lt x xs × IsOrdered lt xs

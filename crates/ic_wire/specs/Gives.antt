-- What a reader answers, seen by view, is what reading gives, unless memory ran out.
use Rattle.std.specs.Prelude.{◌≡◌, Option, Some, None, Result, Ok, Err}
use Rattle.ic_wire.specs.declared.unread.Unread.{Unread}
use Rattle.ic_wire.specs.declared.unread.Unread.TheVariants.{Cut, Memory}

-- what reading gives where a reader gave up
abbrev pub Fails : {Y : Type 0} → Unread → Option Y → Type 0
Fails Cut read = read ≡ None
Fails Memory read = Unit {0}

-- a reader that answers gives what is read
abbrev pub Gives : {X Y : Type 0} → (X → Y) → Result X Unread → Option Y → Type 0
Gives view (Ok x) read = read ≡ Some (view x)
Gives view (Err e) read = Fails e read

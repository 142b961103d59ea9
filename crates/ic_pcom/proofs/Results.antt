-- What is said of a result holds of it more weakly.
use Rattle.std.specs.Prelude.{Result, Ok, Err, IfOk, IfErr}

pub ok_then : {T E : Type 0} {P Q : T → Type 0} (r : Result T E) → IfOk r P → ((t : T) → P t → Q t) → IfOk r Q
ok_then (Ok t) h f = f t h
ok_then (Err e) h f = tt

pub err_then : {T E : Type 0} {P Q : E → Type 0} (r : Result T E) → IfErr r P → ((e : E) → P e → Q e) → IfErr r Q
err_then (Ok t) h f = tt
err_then (Err e) h f = f e h

-- What a result is, by what it was before.
use Rattle.std.proofs.Common.{OnOk, IfOk, IfErr}
use Rattle.std.specs.Prelude.{Result, Ok, Err}

pub on-done : {T E : Type 0} {P Q : Type 0} (r : Result T E) → OnOk r P → (P → Q) → OnOk r Q
on-done (Ok x) p f = f p
on-done (Err e) p f = tt

pub on-any : {T E : Type 0} {Q : Type 0} (r : Result T E) → Q → OnOk r Q
on-any (Ok x) q = q
on-any (Err e) q = tt

pub on-refused : {T E : Type 0} {P Q : E → Type 0} (r : Result T E) → IfErr r P → ((e : E) → P e → Q e) → IfErr r Q
on-refused (Ok x) p f = tt
on-refused (Err e) p f = f e p

pub on-ok : {T E : Type 0} {P Q : T → Type 0} (r : Result T E) → IfOk r P → ((x : T) → P x → Q x) → IfOk r Q
on-ok (Ok x) p f = f x p
on-ok (Err e) p f = tt

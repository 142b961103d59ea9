-- The components that have logs.
use Rattle.std.specs.Prelude.{ℕ, ◌+◌, Bool, true, false, cond, List, [], ◌∷◌, ◌++◌}
use Rattle.ic_base.specs.declared.messages.ComId.{ComId}
use Rattle.ic_base.specs.declared.messages.Kind.{Kind}
use Rattle.ic_base.specs.declared.messages.Kind.TheVariants as kinds
use Rattle.ic_base.specs.declared.scenario.Component.{Component}

-- an Xcom has none
abbrev pub has_log : Kind → Bool
has_log kinds.Pcom = true
has_log kinds.Tcom = true
has_log kinds.Xcom = false

-- with a component of this kind, if it has a log
abbrev pub with_logged : Kind → ComId → List ComId → List ComId
with_logged kind c coms = cond (has_log kind) (coms ++ c ∷ []) coms

-- those of these components, the first of which has this number
abbrev pub logged : ℕ → List Component → List ComId
logged i [] = []
logged i (x ∷ xs) = cond (has_log x.kind) (record { 0 = i } ∷ logged (i + 1) xs) (logged (i + 1) xs)

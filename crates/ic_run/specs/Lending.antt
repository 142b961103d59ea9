-- The disks of a program's components among those of a call. The disk in a component's place is its own; an Xcom has none.
use Rattle.std.specs.Prelude.{cond, List, [], ◌∷◌}
use Rattle.ic_base.specs.declared.scenario.Component.{Component}
use Rattle.ic_world.specs.Opening.{is_outside}

-- the disks of these components, in order
abbrev pub lent : {D : Type 0} → List Component → List D → List D
lent [] disks = []
lent (x ∷ xs) [] = []
lent (x ∷ xs) (d ∷ disks) = cond (is_outside x.kind) (lent xs disks) (d ∷ lent xs disks)

-- the disks of none of these components, in order
abbrev pub left_over : {D : Type 0} → List Component → List D → List D
left_over [] disks = disks
left_over (x ∷ xs) [] = []
left_over (x ∷ xs) (d ∷ disks) = cond (is_outside x.kind) (d ∷ left_over xs disks) (left_over xs disks)

-- the first of these disks, if there is one, before what comes of the others
abbrev pub first_before : {D : Type 0} → List D → (List D → List D) → List D
first_before [] more = more []
first_before (d ∷ disks) more = d ∷ more disks

-- the disks of these components, each in its place, among the others in order
abbrev pub merged : {D : Type 0} → List Component → List D → List D → List D
merged [] others disks = others
merged (x ∷ xs) others disks = cond (is_outside x.kind) (first_before others (λ more. merged xs more disks)) (first_before disks (λ more. merged xs others more))

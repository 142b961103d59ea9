-- Values kept by the identity of a message, in order of identities.
use Rattle.std.specs.Prelude.{ℕ, Bool, true, ◌&&◌, cond, List, [], ◌∷◌, Option, Some, None}
use Rattle.std.specs.List.{list_all, prefix_len}
use Rattle.ic_index.specs.declared.sorted.Entry.{Entry}
use Rattle.def_state.specs.Names.{Identity, same_identity}
use Rattle.def_state.specs.Inbox.{comes_before}

-- the identity under which a value is kept
abbrev pub name_of : {T : Type 0} → Entry T → Identity
name_of e = record { peer = e.peer; k = e.k }

-- the value kept under an identity
abbrev pub value_of : {T : Type 0} → List (Entry T) → Identity → Option T
value_of [] x = None
value_of (e ∷ es) x = cond (same_identity x (name_of e)) (Some e.value) (value_of es x)

-- the entry in its place, instead of the one under its identity
abbrev pub put_entry : {T : Type 0} → Entry T → List (Entry T) → List (Entry T)
put_entry e [] = e ∷ []
put_entry e (f ∷ es) = cond (same_identity (name_of e) (name_of f)) (e ∷ es) (cond (comes_before (name_of e) (name_of f)) (e ∷ f ∷ es) (f ∷ put_entry e es))

-- no entry under the identity
abbrev pub without : {T : Type 0} → Identity → List (Entry T) → List (Entry T)
without x [] = []
without x (e ∷ es) = cond (same_identity x (name_of e)) es (e ∷ without x es)

-- each entry comes before those behind it
abbrev pub is_in_order : {T : Type 0} → List (Entry T) → Bool
is_in_order [] = true
is_in_order (e ∷ es) = list_all (λ f. comes_before (name_of e) (name_of f)) es && is_in_order es

-- how many entries come before an identity
abbrev pub count_before : {T : Type 0} → Identity → List (Entry T) → ℕ
count_before x es = prefix_len (λ e. comes_before (name_of e) x) es

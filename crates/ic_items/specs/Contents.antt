-- What stands behind the name of a component.
use Rattle.std.specs.Prelude.{◌≤◌, ℕ, List, [], ◌∷◌, length, reverse, All}
use Rattle.ic_base.specs.declared.limits.TheConstants.{HANDLERS, KEYS, VALUES, VARIABLES}
use Rattle.ic_base.specs.declared.messages.Kind.{Kind}
use Rattle.def_syntax.specs.Scope.{Declared, nobody}

-- its kind and its names
pub record Content : Type 0 where
  pub kind : Kind
  pub vars : List (List ℕ)
  pub keys : List (List ℕ)
  pub handlers : List (List ℕ × ℕ)

-- no limit of a component is passed
pub record KeepsLimits (c : Content) : Type 0 where
  pub vars : length c.vars ≤ VARIABLES
  pub keys : length c.keys ≤ KEYS
  pub handlers : length c.handlers ≤ HANDLERS
  pub params : All (λ (h : List ℕ × ℕ). h.1 ≤ VALUES) c.handlers

-- a name and what stands behind it are a component
abbrev pub declared_seen : List ℕ × Content → Declared
declared_seen (n, c) = record { name = n; kind = c.kind; vars = c.vars; keys = c.keys; handlers = c.handlers }

abbrev pub content_of : Declared → Content
content_of c = record { kind = c.kind; vars = c.vars; keys = c.keys; handlers = c.handlers }

-- the component that was declared last
abbrev pub last_of : List Declared → Declared
last_of cs = elim (reverse cs) [ [] ↦ nobody | c ∷ cs ↦ c ]

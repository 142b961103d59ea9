-- A record does the same to the live state and to the replayed one.
use Rattle.std.proofs.Common.{◌≡◌, refl, ◌∙◌, ap, ℕ, Bool, true, false, not, cond, List, [], ◌∷◌, map, filter, Option, ◌==◌}
use Rattle.ic_base.specs.declared.messages.ComId.{ComId}
use Rattle.ic_base.specs.declared.messages.Msg.{Msg}
use Rattle.ic_base.specs.declared.scenario.Program.{Program}
use Rattle.ic_base.specs.declared.record.Record.TheVariants.{Released, Shown}
use Rattle.def_state.specs.Names.{same_identity}
use Rattle.def_state.specs.Hist.{Hist, identity_of}
use Rattle.def_state.specs.Vol.{Vol, record_in}
use Rattle.def_state.specs.Mirrors.{Mirrors}

-- filtering by what a map gives, before or behind it
filter-by : {A B : Type 0} (f : A → B) (test : B → Bool) (xs : List A) → map f (filter (λ x. test (f x)) xs) ≡ filter test (map f xs)
filter-by f test [] = refl
filter-by f test (x ∷ xs) = at (test (f x)) (filter-by f test xs)
  where
    at : (b : Bool) → map f (filter (λ y. test (f y)) xs) ≡ filter test (map f xs) → map f (cond b (x ∷ filter (λ y. test (f y)) xs) (filter (λ y. test (f y)) xs)) ≡ cond b (f x ∷ filter test (map f xs)) (filter test (map f xs))
    at true e = ap (λ ys. f x ∷ ys) e
    at false e = e

pub mirrors-released : (program : Program) (c to : ComId) (at k : ℕ) (content : Option Msg) (v : Vol) (h : Hist) → Mirrors v h → Mirrors (record_in program c at content v (Released to k)) (record h { held = filter (λ m. not (same_identity (record { peer = to; k = k }) (identity_of m))) h.held })
mirrors-released program c to at k content v h m = record {
  vars = m.vars;
  clock = m.clock;
  hand = m.hand;
  now = m.now;
  txn = m.txn;
  links = m.links;
  taken = m.taken;
  waiting = m.waiting;
  made = m.made;
  held =
      filter-by (λ x. x.msg) (λ x. not (same_identity (record { peer = to; k = k }) (identity_of x))) v.outbox.held
      ∙ ap (filter (λ x. not (same_identity (record { peer = to; k = k }) (identity_of x)))) m.held;
}

pub mirrors-shown : (program : Program) (c : ComId) (at n : ℕ) (content : Option Msg) (v : Vol) (h : Hist) → Mirrors v h → Mirrors (record_in program c at content v (Shown n)) (record h { unshown = filter (λ o. not (o.m == n)) h.unshown; shown = n })
mirrors-shown program c at n content v h m = record {
  vars = m.vars;
  clock = m.clock;
  hand = m.hand;
  now = m.now;
  txn = m.txn;
  held = m.held;
  links = m.links;
  taken = m.taken;
  made = m.made;
  waiting = filter-by (λ x. x.output) (λ o. not (o.m == n)) v.shelf.waiting ∙ ap (filter (λ o. not (o.m == n))) m.waiting;
}

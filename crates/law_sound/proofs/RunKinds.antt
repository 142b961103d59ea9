-- The crash-free world has a component of each declared kind in its place.
use Rattle.std.proofs.Common.{◌≡◌, refl, ◌∙◌, ap, sym, ℕ, zero, suc, ◌+◌, List, [], ◌∷◌, map, slice_get, slice_set, ℤ, Option, Some, None, option_map, option_and_then}
use Rattle.std.specs.Prelude.{Ok, Err, Result}
use Rattle.std.proofs.lemmas.Option.{same_Some, slice_get-map}
use Rattle.ic_base.specs.declared.messages.ComId.{ComId}
use Rattle.ic_base.specs.declared.messages.Entry.{Entry}
use Rattle.ic_base.specs.declared.messages.Act.{Act}
use Rattle.ic_base.specs.declared.messages.Act.TheVariants.{Take, Input, Commit, Abort}
use Rattle.ic_base.specs.declared.messages.Kind.{Kind}
use Rattle.ic_base.specs.declared.messages.Kind.TheVariants as kinds
use Rattle.ic_base.specs.declared.messages.Send.{Send}
use Rattle.ic_base.specs.declared.scenario.Component.{Component}
use Rattle.ic_base.specs.declared.scenario.Program.{Program}
use Rattle.def_play.specs.Ledger.{Talk, whole_part}
use Rattle.def_plain.specs.declared.world.PlainPcom.{PlainPcom}
use Rattle.def_plain.specs.declared.world.PlainCom.{PlainCom}
use Rattle.def_plain.specs.declared.world.PlainCom.TheVariants as coms
use Rattle.def_plain.specs.Cell.{Touch, TakesMessage, TakesInput, SeesAbort, SeesCommit, cell_step}
use Rattle.def_plain.specs.Plain.{PlainWorld, as_pcom, as_ledger, pcom_at, ledger_at, message_of, touched as touched_world, part_in_hand, said_with, part_on, act_step, plain_step, first_of_kind, first_world, go_on, run_from}
use Rattle.law_replay.proofs.Lists.{none-some}
use Rattle.law_sound.specs.Assembly.{kind_in, RunsKeepKinds}
use Rattle.law_sound.proofs.Stepping.{is-there}

kinds-in : PlainWorld → List Kind
kinds-in w = map kind_in w

-- one component replaced by one of its kind
set-kinds : (w : PlainWorld) (i : ℕ) (x y : PlainCom) → slice_get w i ≡ Some x → kind_in y ≡ kind_in x → kinds-in (slice_set w i y) ≡ kinds-in w
unfolding kinds-in
set-kinds [] i x y e k = refl
set-kinds (z ∷ w) zero x y e k = ap (λ v. v ∷ map kind_in w) (k ∙ ap kind_in (sym (same_Some z x e)))
set-kinds (z ∷ w) (suc i) x y e k = ap (λ l. kind_in z ∷ l) (set-kinds w i x y e k)

pcom-kind : (x : PlainCom) (p : PlainPcom) → as_pcom x ≡ Some p → kind_in x ≡ kinds.Pcom
pcom-kind (coms.Pcom q) p e = refl
pcom-kind (coms.Tcom ledger) p e = none-some p e
pcom-kind coms.Xcom p e = none-some p e

touched-kinds : (program : Program) (w v : PlainWorld) (c : ComId) (t : Touch) → touched_world program w c t ≡ Some v → kinds-in v ≡ kinds-in w
touched-kinds program w v c t e = at (pcom_at w c) refl e
  where
    by : (p : PlainPcom) → pcom_at w c ≡ Some p → (o : Option PlainPcom) → option_map (λ q. slice_set w c.0 (coms.Pcom q)) o ≡ Some v → kinds-in v ≡ kinds-in w
    by p is None f = none-some v f
    by p is (Some q) f = let x = is-there as_pcom (slice_get w c.0) p is in ap kinds-in (sym (same_Some (slice_set w c.0 (coms.Pcom q)) v f)) ∙ set-kinds w c.0 x.0 (coms.Pcom q) x.1 (sym (pcom-kind x.0 p x.2))

    at : (o : Option PlainPcom) → pcom_at w c ≡ o → option_map (λ q. slice_set w c.0 (coms.Pcom q)) (option_and_then (λ p. cell_step program c p t) o) ≡ Some v → kinds-in v ≡ kinds-in w
    at None is f = none-some v f
    at (Some p) is f = by p is (cell_step program c p t) f

-- what stands in a place of one world stands, by its kind, in that of the other
kind-at : (w u : PlainWorld) (i : ℕ) (x : PlainCom) → kinds-in u ≡ kinds-in w → slice_get w i ≡ Some x → (y : PlainCom) × (slice_get u i ≡ Some y) × (kind_in y ≡ kind_in x)
unfolding kinds-in
kind-at w u i x same e = at (slice_get u i) refl (sym (slice_get-map kind_in u i) ∙ ap (λ l. slice_get l i) same ∙ slice_get-map kind_in w i ∙ ap (option_map kind_in) e)
  where
    at : (o : Option PlainCom) → slice_get u i ≡ o → option_map kind_in o ≡ Some (kind_in x) → (y : PlainCom) × (slice_get u i ≡ Some y) × (kind_in y ≡ kind_in x)
    at None is f = none-some (kind_in x) f
    at (Some y) is f = (y, is, same_Some (kind_in y) (kind_in x) f)

ledger-kind : (x : PlainCom) (l : List ℤ) → as_ledger x ≡ Some l → kind_in x ≡ kinds.Tcom
ledger-kind (coms.Tcom m) l e = refl
ledger-kind (coms.Pcom p) l e = none-some l e
ledger-kind coms.Xcom l e = none-some l e

-- a part is played on a ledger
ledger-there : (program : Program) (w : PlainWorld) (t c : ComId) (x : Talk) → part_on program w t c ≡ Some x → (y : PlainCom) × (slice_get w t.0 ≡ Some y) × (kind_in y ≡ kinds.Tcom)
ledger-there program w t c x e = at (ledger_at w t) refl e
  where
    at : (o : Option (List ℤ)) → ledger_at w t ≡ o → option_and_then (λ ledger. option_and_then (λ play. option_and_then (said_with t) (whole_part play ledger)) (part_in_hand program w c)) o ≡ Some x → (y : PlainCom) × (slice_get w t.0 ≡ Some y) × (kind_in y ≡ kinds.Tcom)
    at None is f = none-some x f
    at (Some l) is f = let y = is-there as_ledger (slice_get w t.0) l is in (y.0, y.1, ledger-kind y.0 l y.2)

pub err-ok : {B : Type 0} {A E : Type 0} (x : E) (y : A) → Err x ≡ Ok y → B
err-ok x y e = absurd (cc)

-- a step keeps the kinds
step-kinds : (program : Program) (w v : PlainWorld) (c : ComId) (act : Act) → act_step program w c act ≡ Some v → kinds-in v ≡ kinds-in w
step-kinds program w v c (Take s k) e = at (message_of w s c k) e
  where
    at : (o : Option Send) → option_and_then (λ m. touched_world program w c (TakesMessage s k m.handler m.args)) o ≡ Some v → kinds-in v ≡ kinds-in w
    at None f = none-some v f
    at (Some m) f = touched-kinds program w v c (TakesMessage s k m.handler m.args) f
step-kinds program w v c (Input h args) e = touched-kinds program w v c (TakesInput h args) e
step-kinds program w v c (Abort n) e = touched-kinds program w v c (SeesAbort n) e
step-kinds program w v t (Commit c n) e = at (part_on program w t c) refl e
  where
    -- where the part is played, the place of t has a ledger, before and behind
    by : (x : Talk) → (y : PlainCom) × (slice_get w t.0 ≡ Some y) × (kind_in y ≡ kinds.Tcom) → (o : Option PlainWorld) → touched_world program w c (SeesCommit n x.answers) ≡ o → option_map (λ u. slice_set u t.0 (coms.Tcom x.ledger)) o ≡ Some v → kinds-in v ≡ kinds-in w
    by x here None made g = none-some v g
    by x here (Some u) made g =
        let same = touched-kinds program w u c (SeesCommit n x.answers) made in
        let y = kind-at w u t.0 here.0 same here.1 in
        ap kinds-in (sym (same_Some (slice_set u t.0 (coms.Tcom x.ledger)) v g)) ∙ set-kinds u t.0 y.0 (coms.Tcom x.ledger) y.1 (sym (y.2 ∙ here.2)) ∙ same

    at : (o : Option Talk) → part_on program w t c ≡ o → option_and_then (λ x. option_map (λ u. slice_set u t.0 (coms.Tcom x.ledger)) (touched_world program w c (SeesCommit n x.answers))) o ≡ Some v → kinds-in v ≡ kinds-in w
    at None is f = none-some v f
    at (Some x) is f = by x (ledger-there program w t c x is) (touched_world program w c (SeesCommit n x.answers)) refl f

run-kinds : (program : Program) (es : List Entry) (i : ℕ) (w v : PlainWorld) → run_from program i w es ≡ Ok v → kinds-in v ≡ kinds-in w
run-kinds program [] i w v e = ap (λ (o : Result PlainWorld ℕ). kinds-of o) (sym e)
  where
    kinds-of : Result PlainWorld ℕ → List Kind
    kinds-of (Ok u) = kinds-in u
    kinds-of (Err j) = []
run-kinds program (x ∷ es) i w v e = at (plain_step program w x) refl e (λ u. run-kinds program es (i + 1) u v)
  where
    at : (o : Option PlainWorld) → plain_step program w x ≡ o → go_on i (λ u. run_from program (i + 1) u es) o ≡ Ok v → ((u : PlainWorld) → run_from program (i + 1) u es ≡ Ok v → kinds-in v ≡ kinds-in u) → kinds-in v ≡ kinds-in w
    at None is f more = err-ok i v f
    at (Some u) is f more = more u f ∙ step-kinds program w u x.com x.act is

first-kinds : (xs : List Component) → kinds-in (map (λ x. first_of_kind x.kind x) xs) ≡ map (λ x. x.kind) xs
unfolding kinds-in
first-kinds [] = refl
first-kinds (x ∷ xs) = ap (λ k. k ∷ kinds-in (map (λ y. first_of_kind y.kind y) xs)) (of x.kind) ∙ ap (λ l. x.kind ∷ l) (first-kinds xs)
  where
    of : (k : Kind) → kind_in (first_of_kind k x) ≡ k
    of kinds.Pcom = refl
    of kinds.Tcom = refl
    of kinds.Xcom = refl

pub runs_keep_kinds : RunsKeepKinds
unfolding kinds-in
runs_keep_kinds program es w e = run-kinds program es 0 (first_world program) w e ∙ first-kinds program.components

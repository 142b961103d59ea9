-- The checkpoints behind which a world is given up.
use Rattle.std.proofs.Common.{◌≡◌, ◌∙◌, sym, ap, subst, refl, ℕ, zero, suc, ◌+◌, ◌<◌, ◌≤◌, arith, Bool, true, false, List, [], ◌∷◌, ◌++◌, length, take, Some, get_or}
use Rattle.std.specs.List.{AllByRecursion}
use Rattle.std.specs.Option.{IsSomeAnd}
use Rattle.std.specs.Prelude.{Option, slice_get, IsTrue, cond}
use Rattle.std.proofs.lemmas.List.{take_all}
use Rattle.std.proofs.lemmas.Option.{same_Some}
use Rattle.std.proofs.lemmas.Option.{slice_get-get_or}
use Rattle.def_run.specs.SystemStates.{without_stop}
use Rattle.def_syntax.specs.Schedule.{is_inside}
use Rattle.ic_base.specs.Programs.{is_pcom}
use Rattle.ic_base.specs.declared.events.Event.{Event}
use Rattle.ic_base.specs.declared.events.What.TheVariants as whats
use Rattle.ic_base.specs.declared.messages.Kind.{Kind}
use Rattle.ic_base.specs.declared.messages.Kind.TheVariants.{Pcom, Tcom, Xcom}
use Rattle.ic_base.specs.declared.scenario.Component.{Component}
use Rattle.ic_base.specs.declared.scenario.Program.{Program}
use Rattle.law_serve.proofs.Staying.{AllStopless}
use Rattle.ic_run.specs.Agendas.{MayCome}
use Rattle.ic_serve.specs.Worlds.{checkpoints_from, checkpoints_of}

-- a checkpoint of a Pcom
pub checkpoint-may : (program : Program) (i : ℕ) (x : Component) → i < length program.components → slice_get program.components i ≡ Some x → x.kind ≡ Pcom → MayCome program (without_stop (whats.Checkpoint (record { 0 = i })))
checkpoint-may program i x below at kind =
    let P : Option Component → Type 0 = λ o. IsSomeAnd o (λ y. IsTrue (is_inside y.kind)) in
    let inside : IsTrue (is_inside x.kind) = subst (λ k. IsTrue (is_inside k)) (sym kind) refl in
    record {
      allowed = record { below = below; holds = subst P (sym at) inside };
      event = record { handler = tt; values = tt; stop = tt };
    }

pub checkpoint-at : (program : Program) (list : List Component) → list ≡ program.components → (i : ℕ) (d : Component) → i < length list → (get_or list i d).kind ≡ Pcom → MayCome program (without_stop (whats.Checkpoint (record { 0 = i })))
checkpoint-at program list same i d below kind =
    let at : slice_get program.components i ≡ Some (get_or list i d) = ap (λ l. slice_get l i) (sym same) ∙ slice_get-get_or list i d below in
    checkpoint-may program i (get_or list i d) (subst (λ l. i < length l) same below) at kind

-- one more that may come
pub all-more : {X : Type 0} (P : X → Type 0) (xs : List X) (x : X) → AllByRecursion P xs → P x → AllByRecursion P (xs ++ x ∷ [])
all-more P [] x all one = (one, tt)
all-more P (y ∷ ys) x all one = (all.0, all-more P ys x all.1 one)

-- the checkpoints of the first components and of the next one
pub checkpoints-next : (xs : List Component) (n i : ℕ) (x : Component) → slice_get xs i ≡ Some x → checkpoints_from n (take (suc i) xs) ≡ checkpoints_from n (take i xs) ++ cond (is_pcom x.kind) (without_stop (whats.Checkpoint (record { 0 = n + i })) ∷ []) []
checkpoints-next [] n i x at = absurd (cc)
checkpoints-next (y ∷ xs) n zero x at =
    let same : y ≡ x = same_Some y x at in
    ap (λ (z : Component). cond (is_pcom z.kind) (without_stop (whats.Checkpoint (record { 0 = n })) ∷ []) []) same
    ∙ ap (λ m. cond (is_pcom x.kind) (without_stop (whats.Checkpoint (record { 0 = m })) ∷ []) []) (let e : n ≡ n + 0 = omega arith in e)
checkpoints-next (y ∷ xs) n (suc i) x at = by (is_pcom y.kind) (checkpoints-next xs (n + 1) i x at ∙ ap (λ m. checkpoints_from (n + 1) (take i xs) ++ cond (is_pcom x.kind) (without_stop (whats.Checkpoint (record { 0 = m })) ∷ []) []) (let e : n + 1 + i ≡ n + suc i = omega arith in e))
  where
    more : List Event
    more = cond (is_pcom x.kind) (without_stop (whats.Checkpoint (record { 0 = n + suc i })) ∷ []) []

    by : (p : Bool) → checkpoints_from (n + 1) (take (suc i) xs) ≡ checkpoints_from (n + 1) (take i xs) ++ more
        → cond p (without_stop (whats.Checkpoint (record { 0 = n })) ∷ checkpoints_from (n + 1) (take (suc i) xs)) (checkpoints_from (n + 1) (take (suc i) xs)) ≡ cond p (without_stop (whats.Checkpoint (record { 0 = n })) ∷ checkpoints_from (n + 1) (take i xs)) (checkpoints_from (n + 1) (take i xs)) ++ more
    by true e = ap (λ l. without_stop (whats.Checkpoint (record { 0 = n })) ∷ l) e
    by false e = e

-- a list that has those of the first components has those of one more, a Pcom with its checkpoint
pub one-checkpoint : (list xs : List Component) (list-is : list ≡ xs) (i : ℕ) (d : Component) (events next : List Event) → i < length list → events ≡ checkpoints_from 0 (take i xs) → (p : Bool) → is_pcom (get_or list i d).kind ≡ p → next ≡ events ++ cond p (without_stop (whats.Checkpoint (record { 0 = i })) ∷ []) []
    → next ≡ checkpoints_from 0 (take (i + 1) xs)
one-checkpoint list xs list-is i d events next below so_far p kind more =
    let x = get_or list i d in
    let at : slice_get xs i ≡ Some x = ap (λ l. slice_get l i) (sym list-is) ∙ slice_get-get_or list i d below in
    let tail : Bool → List Event = λ q. cond q (without_stop (whats.Checkpoint (record { 0 = i })) ∷ []) [] in
    more ∙ ap (λ l. l ++ tail p) so_far ∙ ap (λ q. checkpoints_from 0 (take i xs) ++ tail q) (sym kind) ∙ ap (λ m. checkpoints_from 0 (take i xs) ++ cond (is_pcom x.kind) (without_stop (whats.Checkpoint (record { 0 = m })) ∷ []) []) (let e : i ≡ 0 + i = omega arith in e) ∙ sym (checkpoints-next xs 0 i x at) ∙ ap (λ n. checkpoints_from 0 (take n xs)) (let e : suc i ≡ i + 1 = omega arith in e)

pub not-pcom : (k : Kind) → (k ≡ Pcom → ⊥) → is_pcom k ≡ false
not-pcom Pcom isnt = absurd (isnt refl)
not-pcom Tcom isnt = refl
not-pcom Xcom isnt = refl

-- those of all components
pub all-checkpoints : (program : Program) (list : List Component) (list-is : list ≡ program.components) (i : ℕ) (events : List Event) → length list ≤ i → events ≡ checkpoints_from 0 (take i program.components) → events ≡ checkpoints_of program
all-checkpoints program list list-is i events all is = is ∙ ap (checkpoints_from 0) (take_all i program.components (subst (λ l. length l ≤ i) list-is all))

-- none of them has a stop
pub checkpoints-stopless : (i : ℕ) (xs : List Component) → AllStopless (checkpoints_from i xs)
checkpoints-stopless i [] = tt
checkpoints-stopless i (x ∷ xs) = by (is_pcom x.kind) (checkpoints-stopless (i + 1) xs)
  where
    by : (p : Bool) → AllStopless (checkpoints_from (i + 1) xs) → AllStopless (cond p (without_stop (whats.Checkpoint (record { 0 = i })) ∷ checkpoints_from (i + 1) xs) (checkpoints_from (i + 1) xs))
    by true rest = (refl, rest)
    by false rest = rest

-- What holds of all lanes, berths and files of the scene, from those of its three components.
use Rattle.std.proofs.Common.{◌≡◌, refl, ℕ, zero, suc, List, [], ◌∷◌}
use Rattle.ic_base.specs.declared.messages.ComId.{ComId}
use Rattle.def_plain.specs.Scenes.{com_at}
use Rattle.def_facts.specs.Logs.{IsPrefixOf}
use Rattle.def_live.specs.Lanes.{Lane, AreJoined}
use Rattle.def_live.specs.Turns.{Berth}
use Rattle.def_run.specs.SystemStates.{file_in}
use Rattle.law_live_scene.specs.Scene.{pick, no_lane, lanes_with, live}

-- each lane
pub each-lane : (P : Lane → Type 0) (x y z : Lane) → P no_lane → P x → P y → P z → (m n : ℕ) → P (lanes_with x y z m n)
each-lane P x y z none f g h zero zero = none
each-lane P x y z none f g h zero (suc zero) = f
each-lane P x y z none f g h zero (suc (suc n)) = none
each-lane P x y z none f g h (suc zero) zero = none
each-lane P x y z none f g h (suc zero) (suc zero) = none
each-lane P x y z none f g h (suc zero) (suc (suc zero)) = g
each-lane P x y z none f g h (suc zero) (suc (suc (suc n))) = none
each-lane P x y z none f g h (suc (suc zero)) zero = none
each-lane P x y z none f g h (suc (suc zero)) (suc zero) = h
each-lane P x y z none f g h (suc (suc zero)) (suc (suc n)) = none
each-lane P x y z none f g h (suc (suc (suc m))) n = none

-- what is read of the lanes of some pairs stays
pub lanes-stay : {A : Type 0} (read : Lane → A) (K : ℕ → ℕ → Type 0) (x y z x' y' z' : Lane) → (K 0 1 → read x' ≡ read x) → (K 1 2 → read y' ≡ read y) → (K 2 1 → read z' ≡ read z) → (m n : ℕ) → K m n → read (lanes_with x' y' z' m n) ≡ read (lanes_with x y z m n)
lanes-stay read K x y z x' y' z' f g h zero zero k = refl
lanes-stay read K x y z x' y' z' f g h zero (suc zero) k = f k
lanes-stay read K x y z x' y' z' f g h zero (suc (suc n)) k = refl
lanes-stay read K x y z x' y' z' f g h (suc zero) zero k = refl
lanes-stay read K x y z x' y' z' f g h (suc zero) (suc zero) k = refl
lanes-stay read K x y z x' y' z' f g h (suc zero) (suc (suc zero)) k = g k
lanes-stay read K x y z x' y' z' f g h (suc zero) (suc (suc (suc n))) k = refl
lanes-stay read K x y z x' y' z' f g h (suc (suc zero)) zero k = refl
lanes-stay read K x y z x' y' z' f g h (suc (suc zero)) (suc zero) k = h k
lanes-stay read K x y z x' y' z' f g h (suc (suc zero)) (suc (suc n)) k = refl
lanes-stay read K x y z x' y' z' f g h (suc (suc (suc m))) n k = refl

-- what belongs to some components stays
pub picks-stay : {A : Type 0} (K : ℕ → Type 0) (x y z w x' y' z' : A) → (K 0 → x' ≡ x) → (K 1 → y' ≡ y) → (K 2 → z' ≡ z) → (n : ℕ) → K n → pick x' y' z' w n ≡ pick x y z w n
picks-stay K x y z w x' y' z' f g h zero k = f k
picks-stay K x y z w x' y' z' f g h (suc zero) k = g k
picks-stay K x y z w x' y' z' f g h (suc (suc zero)) k = h k
picks-stay K x y z w x' y' z' f g h (suc (suc (suc n))) k = refl

pub files-stay : (K : ℕ → Type 0) (x y z x' y' z' : List ℕ) → (K 0 → x' ≡ x) → (K 1 → y' ≡ y) → (K 2 → z' ≡ z) → (n : ℕ) → K n → file_in (x' ∷ y' ∷ z' ∷ []) (com_at n) ≡ file_in (x ∷ y ∷ z ∷ []) (com_at n)
files-stay K x y z x' y' z' f g h zero k = f k
files-stay K x y z x' y' z' f g h (suc zero) k = g k
files-stay K x y z x' y' z' f g h (suc (suc zero)) k = h k
files-stay K x y z x' y' z' f g h (suc (suc (suc n))) k = refl

pub joined : (a b c : Berth) (x y z : Lane) → IsPrefixOf x.received x.sent → IsPrefixOf y.received y.sent → IsPrefixOf z.received z.sent → AreJoined (live a b c x y z).lanes
joined a b c x y z f g h from to = each-lane (λ l. IsPrefixOf l.received l.sent) x y z ([], refl) f g h from.0 to.0

pub none-to-itself : (a b c : Berth) (x y z : Lane) (d : ComId) → ((live a b c x y z).lanes d d).sent ≡ []
none-to-itself a b c x y z d = at d.0
  where
    at : (n : ℕ) → (lanes_with x y z n n).sent ≡ []
    at zero = refl
    at (suc zero) = refl
    at (suc (suc zero)) = refl
    at (suc (suc (suc n))) = refl

-- What a Tcom keeps of its decisions, and what it forgets.
use Rattle.std.proofs.Common.{◌≡◌, refl, ◌∙◌, ap, sym, subst, ℕ, ◌≤◌, nat_lt, Bool, true, false, cond, ◌==◌, Some, None, option_map, arith, ◌⊎◌, inl, inr}
use Rattle.std.specs.Prelude.{Contains, IsSome}
use Rattle.ic_base.specs.declared.messages.ComId.{ComId}
use Rattle.ic_base.specs.declared.messages.Packet.TheVariants.{Op, Commit}
use Rattle.ic_base.specs.Programs.{same_com}
use Rattle.def_state.specs.Names.{number_of}
use Rattle.def_step.specs.Packets.{fits_tcom}
use Rattle.def_step.specs.Tcom.{Tcom, Served, Verdict, decided_at, greatest_decided, is_of, kept_at, least_of, silent, served, tcom_step, unless_below}
use Rattle.law_tcom.specs.Engine.{Asks}
use Rattle.law_tcom.specs.Kept.{KeptIsLeast, ForgottenIsSilent, StartsKeepTheLast}
use Rattle.law_tcom.proofs.Kept.{decided-within, greatest-is, kept-least}
use Rattle.law_replay.proofs.Lists.{both-true, none-some, self-com, self-number, some-is}
use Rattle.law_replay.proofs.Members.{found-one}

pub kept_is_least : KeptIsLeast
kept_is_least program t x sent received c n stamp f e = kept-least x f.decided_served c n stamp e

pub forgotten_is_silent : ForgottenIsSilent
forgotten_is_silent program t x p c n place session asks low = at asks
  where
    under : nat_lt n (least_of x c) ≡ true
    under = grind arith

    either : (b : Bool) (v : Served) → v ≡ silent x → cond b v (silent x) ≡ silent x
    either true v e = e
    either false v e = refl

    quiet : (other : Served) → unless_below c n x other ≡ silent x
    quiet other = ap (λ b. cond b (silent x) other) under

    at : Asks p c n place session → tcom_step program t x p ≡ silent x
    at (inl z) = ap (tcom_step program t x) z.2 ∙ either (fits_tcom program t (Op c z.0 n place session z.1)) (served t x (Op c z.0 n place session z.1)) (quiet _)
    at (inr z) = ap (tcom_step program t x) z.4 ∙ either (fits_tcom program t (Commit c z.0 n place z.1 z.2)) (served t x (Commit c z.0 n place z.1 z.2)) (quiet _)

-- the decision of the least number served is kept
kept-now : (x : Tcom) (c : ComId) → IsSome (decided_at x.book c (least_of x c)) → IsSome (kept_at x c (least_of x c))
kept-now x c some = subst (λ b. IsSome (cond b None (decided_at x.book c (least_of x c)))) (sym (not-below (least_of x c))) some
  where
    not-below : (m : ℕ) → nat_lt m m ≡ false
    not-below m = grind arith

pub starts_keep_the_last : StartsKeepTheLast
starts_keep_the_last program t x c is = ((λ n stamp one e. (within n stamp e, kept n stamp one e (greatest-is x.book.decided c))), λ none. alone none (greatest-is x.book.decided c))
  where
    least : least_of x c ≡ number_of 1 (greatest_decided x.book.decided) c
    least = ap (λ l. number_of 1 l c) is.2

    within : (n stamp : ℕ) → decided_at x.book c n ≡ Some stamp → n ≤ least_of x c
    within n stamp e = subst (λ m. n ≤ m) (sym least) (decided-within x.book.decided c n stamp e)

    there : (v : Verdict) → Contains x.book.decided v → v.peer ≡ c → (stamp : ℕ) × (decided_at x.book c v.n ≡ Some stamp)
    there v h e =
        let z = found-one (is_of c v.n) x.book.decided v h (both-true (same_com c v.peer) (v.n == v.n) (ap (same_com c) e ∙ self-com c) (self-number v.n)) in
        (z.0.stamp, ap (option_map (λ (w : Verdict). w.stamp)) z.1)

    kept : (n stamp : ℕ) → 1 ≤ n → decided_at x.book c n ≡ Some stamp → (number_of 1 (greatest_decided x.book.decided) c ≡ 1) ⊎ ((v : Verdict) × Contains x.book.decided v × (v.peer ≡ c) × (number_of 1 (greatest_decided x.book.decided) c ≡ v.n)) → IsSome (kept_at x c (least_of x c))
    kept n stamp one e (inl f) = kept-now x c (some-is (decided_at x.book c (least_of x c)) stamp (ap (decided_at x.book c) (same (least_of x c) (least ∙ f) (within n stamp e)) ∙ e))
      where
        same : (m : ℕ) → m ≡ 1 → n ≤ m → m ≡ n
        same m f le = omega (arith, f, le, one)
    kept n stamp one e (inr v) = let s = there v.0 v.1 v.2 in kept-now x c (some-is (decided_at x.book c (least_of x c)) s.0 (ap (decided_at x.book c) (least ∙ v.3) ∙ s.1))

    alone : ((n : ℕ) → decided_at x.book c n ≡ None) → (number_of 1 (greatest_decided x.book.decided) c ≡ 1) ⊎ ((v : Verdict) × Contains x.book.decided v × (v.peer ≡ c) × (number_of 1 (greatest_decided x.book.decided) c ≡ v.n)) → least_of x c ≡ 1
    alone none (inl f) = least ∙ f
    alone none (inr v) = let s = there v.0 v.1 v.2 in none-some s.0 (sym (none v.0.n) ∙ s.1)

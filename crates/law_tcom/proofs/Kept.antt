-- The decisions that a Tcom keeps: where it comes up, its least numbers are the greatest that are decided.
use Rattle.std.proofs.Common.{◌≡◌, refl, ◌∙◌, ap, sym, subst, ℕ, ◌≤◌, nat_lt, max, Bool, true, false, cond, ◌==◌, List, [], ◌∷◌, find, fold, ℤ, Some, None, option_map, arith, ◌⊎◌, inl, inr}
use Rattle.std.specs.Prelude.{Contains}
use Rattle.std.proofs.lemmas.Option.{same_Some}
use Rattle.ic_base.specs.declared.messages.ComId.{ComId}
use Rattle.ic_base.specs.declared.messages.Packet.{Packet}
use Rattle.ic_base.specs.declared.record.Record.{Record}
use Rattle.ic_base.specs.declared.record.Record.TheVariants.{Take, TakeWhole, Input, Value, Outcome, Released, Shown, Checkpoint, Epoch, Decided}
use Rattle.ic_base.specs.Programs.{same_com}
use Rattle.def_state.specs.Names.{Numbers, number_of, put_number}
use Rattle.def_step.specs.Tcom.{Tcom, Verdict, decided_at, greatest_decided, is_of, kept_at, least_of}
use Rattle.def_facts.specs.Tcom.{CommitReceived, LeastIsTold}
use Rattle.law_tcom.specs.Decisions.{verdict_in}
use Rattle.law_tcom.proofs.Moves.{number-put}
use Rattle.law_replay.proofs.Lists.{clash, empty, equal-numbers, front, back, head-or-tail, in-head, in-tail, mapped, none-some, same-com, self-com}
use Rattle.law_replay.proofs.Members.{found}

-- the greatest numbers ----------------------------------------------------------------------------

abbrev grown : Numbers → List Verdict → Numbers
grown ns xs = fold (λ zs v. put_number v.peer (max (number_of 1 zs v.peer) v.n) zs) ns xs

-- m is c's number behind one verdict
record Behind (ns : Numbers) (x : Verdict) (c : ComId) (m : ℕ) : Type 0 where
  rises : number_of 1 ns c ≤ m
  above : x.peer ≡ c → x.n ≤ m
  is_one : (m ≡ number_of 1 ns c) ⊎ ((x.peer ≡ c) × (m ≡ x.n))

behind : (ns : Numbers) (x : Verdict) (c : ComId) → Behind ns x c (number_of 1 (put_number x.peer (max (number_of 1 ns x.peer) x.n) ns) c)
behind ns x c = subst (Behind ns x c) (sym (number-put x.peer (max (number_of 1 ns x.peer) x.n) 1 ns c)) (at (same_com c x.peer) refl)
  where
    left : (a b : ℕ) → a ≤ max a b
    left a b = omega arith

    right : (a b : ℕ) → b ≤ max a b
    right a b = omega arith

    either : (a b : ℕ) → (max a b ≡ a) ⊎ (max a b ≡ b)
    either a b = by (nat_lt a b) refl
      where
        by : (v : Bool) → nat_lt a b ≡ v → (max a b ≡ a) ⊎ (max a b ≡ b)
        by true is = inr (grind arith)
        by false is = inl (grind arith)

    own : x.peer ≡ c → (max (number_of 1 ns c) x.n ≡ number_of 1 ns c) ⊎ (max (number_of 1 ns c) x.n ≡ x.n) → (max (number_of 1 ns c) x.n ≡ number_of 1 ns c) ⊎ ((x.peer ≡ c) × (max (number_of 1 ns c) x.n ≡ x.n))
    own same (inl e) = inl e
    own same (inr e) = inr (same, e)

    same-number : (m : ℕ) → m ≤ m
    same-number m = omega arith

    at : (b : Bool) → same_com c x.peer ≡ b → Behind ns x c (cond b (max (number_of 1 ns x.peer) x.n) (number_of 1 ns c))
    at true is = let same : x.peer ≡ c = sym (same-com c x.peer is) in
        subst (λ d. Behind ns x c (max (number_of 1 ns d) x.n)) (sym same) (record {
          rises = left (number_of 1 ns c) x.n;
          above = λ e. right (number_of 1 ns c) x.n;
          is_one = own same (either (number_of 1 ns c) x.n);
        })
    at false is = record {
      rises = same-number (number_of 1 ns c);
      above = λ e. clash (same_com c x.peer) (ap (same_com c) e ∙ self-com c) is;
      is_one = inl refl;
    }

-- m is c's number behind all these verdicts
record Greatest (ns : Numbers) (xs : List Verdict) (c : ComId) (m : ℕ) : Type 0 where
  rises : number_of 1 ns c ≤ m
  above : (v : Verdict) → Contains xs v → v.peer ≡ c → v.n ≤ m
  is_one : (m ≡ number_of 1 ns c) ⊎ ((v : Verdict) × Contains xs v × (v.peer ≡ c) × (m ≡ v.n))

greatest : (ns : Numbers) (xs : List Verdict) (c : ComId) → Greatest ns xs c (number_of 1 (grown ns xs) c)
greatest ns [] c = record { rises = same-number (number_of 1 ns c); above = λ v h. empty v h; is_one = inl refl }
  where
    same-number : (m : ℕ) → m ≤ m
    same-number m = omega arith
greatest ns (x ∷ xs) c = longer (put_number x.peer (max (number_of 1 ns x.peer) x.n) ns) (behind ns x c) (greatest (put_number x.peer (max (number_of 1 ns x.peer) x.n) ns) xs c)
  where
    further : (a b d : ℕ) → a ≤ b → b ≤ d → a ≤ d
    further a b d p q = omega (arith, p, q)

    longer : (zs : Numbers) → Behind ns x c (number_of 1 zs c) → Greatest zs xs c (number_of 1 (grown zs xs) c) → Greatest ns (x ∷ xs) c (number_of 1 (grown zs xs) c)
    longer zs a b = record {
      rises = further (number_of 1 ns c) (number_of 1 zs c) (number_of 1 (grown zs xs) c) a.rises b.rises;
      above = λ v h e. over v e (head-or-tail x v xs h);
      is_one = one b.is_one a.is_one;
    }
      where
        over : (v : Verdict) → v.peer ≡ c → (x ≡ v) ⊎ Contains xs v → v.n ≤ number_of 1 (grown zs xs) c
        over v e (inl same) = further v.n (number_of 1 zs c) (number_of 1 (grown zs xs) c) (subst (λ (w : Verdict). w.n ≤ number_of 1 zs c) same (a.above (ap (λ (w : Verdict). w.peer) same ∙ e))) b.rises
        over v e (inr h) = b.above v h e

        one : (number_of 1 (grown zs xs) c ≡ number_of 1 zs c) ⊎ ((v : Verdict) × Contains xs v × (v.peer ≡ c) × (number_of 1 (grown zs xs) c ≡ v.n)) → (number_of 1 zs c ≡ number_of 1 ns c) ⊎ ((x.peer ≡ c) × (number_of 1 zs c ≡ x.n)) →
            (number_of 1 (grown zs xs) c ≡ number_of 1 ns c) ⊎ ((v : Verdict) × Contains (x ∷ xs) v × (v.peer ≡ c) × (number_of 1 (grown zs xs) c ≡ v.n))
        one (inr v) y = inr (v.0, in-tail x v.0 xs v.1, v.2, v.3)
        one (inl e) (inl f) = inl (e ∙ f)
        one (inl e) (inr f) = inr (x, in-head x xs, f.0, e ∙ f.1)

-- no number that is decided is above the greatest
pub decided-within : (xs : List Verdict) (c : ComId) (n stamp : ℕ) → option_map (λ (v : Verdict). v.stamp) (find (is_of c n) xs) ≡ Some stamp → n ≤ number_of 1 (greatest_decided xs) c
decided-within xs c n stamp e =
    let v = mapped (λ (v : Verdict). v.stamp) (find (is_of c n) xs) stamp e in
    let z = found (is_of c n) xs v.0 v.1 in
    subst (λ m. m ≤ number_of 1 (greatest_decided xs) c) (sym (equal-numbers n v.0.n (back (same_com c v.0.peer) (n == v.0.n) z.1)))
    ((greatest [] xs c).above v.0 z.0 (sym (same-com c v.0.peer (front (same_com c v.0.peer) (n == v.0.n) z.1))))

-- the greatest number is that of a decision, or 1
pub greatest-is : (xs : List Verdict) (c : ComId) → (number_of 1 (greatest_decided xs) c ≡ 1) ⊎ ((v : Verdict) × Contains xs v × (v.peer ≡ c) × (number_of 1 (greatest_decided xs) c ≡ v.n))
greatest-is xs c = (greatest [] xs c).is_one

-- where the least numbers are the greatest decided and each decision's Commit was received, each least number is told
pub greatest-told : (t : ComId) (received : List Packet) (xs : List Verdict) → ((v : Verdict) → Contains xs v → CommitReceived t received v.peer v.n) → (c : ComId) → LeastIsTold t received c (number_of 1 (greatest_decided xs) c)
greatest-told t received xs got c = at (greatest-is xs c)
  where
    at : (number_of 1 (greatest_decided xs) c ≡ 1) ⊎ ((v : Verdict) × Contains xs v × (v.peer ≡ c) × (number_of 1 (greatest_decided xs) c ≡ v.n)) → LeastIsTold t received c (number_of 1 (greatest_decided xs) c)
    at (inl e) = inl e
    at (inr v) = inr (inr (inr (subst (CommitReceived t received c) (sym v.3) (subst (λ d. CommitReceived t received d v.0.n) v.2 (got v.0 v.1)))))

-- a verdict is that of a decision
pub verdict-is : (r : Record) (v : Verdict) → verdict_in r ≡ Some v → (writes : List (ℕ × ℤ)) × (r ≡ Decided v.stamp v.peer v.n writes)
verdict-is (Decided stamp c n writes) v e = (writes, ap (λ (w : Verdict). Decided w.stamp w.peer w.n writes) (same_Some (record { peer = c; n = n; stamp = stamp }) v e))
verdict-is (Epoch k) v e = none-some v e
verdict-is (Take from k stamp) v e = none-some v e
verdict-is (TakeWhole from k stamp handler args) v e = none-some v e
verdict-is (Input stamp handler args) v e = none-some v e
verdict-is (Value m place session value) v e = none-some v e
verdict-is (Outcome stamp m abort) v e = none-some v e
verdict-is (Released to k) v e = none-some v e
verdict-is (Shown m) v e = none-some v e
verdict-is (Checkpoint image) v e = none-some v e

-- what is kept ------------------------------------------------------------------------------------

-- where no number above the least served is decided, the decision that is kept is that of the least
pub kept-least : (x : Tcom) → ((c : ComId) (n stamp : ℕ) → decided_at x.book c n ≡ Some stamp → n ≤ least_of x c) → (c : ComId) (n stamp : ℕ) → kept_at x c n ≡ Some stamp → n ≡ least_of x c
kept-least x within c n stamp e = at (nat_lt n (least_of x c)) refl e
  where
    equal : (m : ℕ) → nat_lt n m ≡ false → n ≤ m → n ≡ m
    equal m is le = let low : m ≤ n = grind arith in omega (arith, low, le)

    at : (b : Bool) → nat_lt n (least_of x c) ≡ b → cond b None (decided_at x.book c n) ≡ Some stamp → n ≡ least_of x c
    at true is f = none-some stamp f
    at false is f = equal (least_of x c) is (within c n stamp f)

-- The last decision of each Pcom among all of a log.
use Rattle.std.proofs.Common.{◌≡◌, ◌≢◌, ◌∙◌, ◌<◌, ◌≤◌, ◌++◌, ◌∷◌, [], ℕ, Bool, true, false, cond, not, eqb, max, List, ℤ, Option, None, Some, find, filter, ap, refl, sym, subst, arith, inl, inr}
use Rattle.std.specs.Prelude.{◌&&◌, ◌⊎◌, All}
use Rattle.std.specs.Option.{option_map}
use Rattle.std.proofs.lemmas.Bool.{cases_Bool}
use Rattle.std.proofs.lemmas.Bool.Decides.{nat_tests}
use Rattle.std.proofs.lemmas.List.{append-nil}
use Rattle.std.proofs.lemmas.List.Elements.{All-nil, All-cons, filter_map-append}
use Rattle.ic_base.specs.declared.messages.ComId.{ComId}
use Rattle.ic_base.specs.declared.record.Record.{Record}
use Rattle.ic_base.specs.declared.record.Record.TheVariants.{Take, TakeWhole, Input, Value, Outcome, Released, Shown, Checkpoint, Epoch, Decided}
use Rattle.ic_base.specs.Programs.{same_com}
use Rattle.def_state.specs.Names.{Numbers, number_of, put_number}
use Rattle.def_step.specs.Tcom.{Book, Verdict, is_of}
use Rattle.ic_tcom.specs.CarriesOut.{GoesOn}
use Rattle.ic_tcom.specs.EngineState.{EngineState, Keeps, IsDecision, entered}
use Rattle.ic_tcom.specs.Last.{AreLast, stamp_at, with_last, verdict_in, verdicts_in}
use Rattle.ic_tcom.proofs.Found.{same_number}
use Rattle.ic_tcom.proofs.Among.{com_sym}
use Rattle.ic_tcom.proofs.Indexing.{find_push, last_stamp, stamp_first, stamp_last}
use Rattle.ic_tcom.proofs.Sessions.{find-filter}

module _ {X : Type 0} (p : X → Bool) where
  find_never : (xs : List X) → ((x : X) → p x ≡ false) → find p xs ≡ None
  find_never [] never = refl
  find_never (x ∷ xs) never = ap (λ b. cond b (Some x) (find p xs)) (never x) ∙ find_never xs never

  find_same : (q : X → Bool) (xs : List X) → ((x : X) → p x ≡ q x) → find p xs ≡ find q xs
  find_same q [] same = refl
  find_same q (x ∷ xs) same = ap (λ b. cond b (Some x) (find p xs)) (same x) ∙ ap (cond (q x) (Some x)) (find_same q xs same)

-- one more decision: on another transaction, on this one, and on one that was decided before
push_other : (vs : List Verdict) (v : Verdict) (c : ComId) (n : ℕ) → is_of c n v ≡ false → stamp_at (vs ++ v ∷ []) c n ≡ stamp_at vs c n
push_other vs v c n other =
    ap (option_map (λ (v : Verdict). v.stamp)) (find_push (is_of c n) vs v) ∙ ap (λ b. last_stamp (find (is_of c n) vs) b v) other ∙ stamp_first _ v _ refl

push_it : (vs : List Verdict) (v : Verdict) (c : ComId) (n : ℕ) → is_of c n v ≡ true → stamp_at vs c n ≡ None → stamp_at (vs ++ v ∷ []) c n ≡ Some v.stamp
push_it vs v c n it none =
    ap (option_map (λ (v : Verdict). v.stamp)) (find_push (is_of c n) vs v) ∙ ap (λ b. last_stamp (find (is_of c n) vs) b v) it ∙ stamp_last _ v none

stamp_known : (o : Option Verdict) (b : Bool) (v : Verdict) (s : ℕ) → option_map (λ (v : Verdict). v.stamp) o ≡ Some s → last_stamp o b v ≡ Some s
stamp_known None b v s known = cc
stamp_known (Some w) b v s known = known

push_known : (vs : List Verdict) (v : Verdict) (c : ComId) (n s : ℕ) → stamp_at vs c n ≡ Some s → stamp_at (vs ++ v ∷ []) c n ≡ Some s
push_known vs v c n s known = ap (option_map (λ (v : Verdict). v.stamp)) (find_push (is_of c n) vs v) ∙ stamp_known (find (is_of c n) vs) (is_of c n v) v s known

abbrev pub others : Verdict → List Verdict → List Verdict
others v vs = filter (λ w. not (same_com v.peer w.peer)) vs

-- those of other Pcoms
none_of_it : (v : Verdict) (vs : List Verdict) (c : ComId) (n : ℕ) → same_com v.peer c ≡ true → stamp_at (others v vs) c n ≡ None
none_of_it v vs c n same =
    ap (option_map (λ (v : Verdict). v.stamp))
    (find-filter (is_of c n) (λ w. not (same_com v.peer w.peer)) vs ∙ find_never (λ w. not (same_com v.peer w.peer) && is_of c n w) vs (λ w. grind (arith, nat_tests)))

same_of_other : (v : Verdict) (vs : List Verdict) (c : ComId) (n : ℕ) → same_com v.peer c ≡ false → stamp_at (others v vs) c n ≡ stamp_at vs c n
same_of_other v vs c n other =
    ap (option_map (λ (v : Verdict). v.stamp))
    (find-filter (is_of c n) (λ w. not (same_com v.peer w.peer)) vs ∙ find_same (λ w. not (same_com v.peer w.peer) && is_of c n w) (is_of c n) vs (λ w. grind (arith, nat_tests)))

pub others_differ : (v : Verdict) (vs : List Verdict) → All (λ w. same_com w.peer v.peer ≡ false) (others v vs)
others_differ v [] = All-nil (λ w. same_com w.peer v.peer ≡ false)
others_differ v (w ∷ vs) = elim (cases_Bool (same_com v.peer w.peer)) [
  | inl same ↦ rw same (others_differ v vs)
  | inr other ↦ rw other (All-cons (λ w. same_com w.peer v.peer ≡ false) w (others v vs) (com_sym w.peer v.peer ∙ other) (others_differ v vs))
]

-- the number of a Pcom behind one more decision
abbrev pub greater : Numbers → Verdict → Numbers
greater xs v = put_number v.peer (max (number_of 1 xs v.peer) v.n) xs

-- they stay the last where the least numbers rise
pub last_on : (all : List Verdict) (least more : Numbers) (held : List Verdict) → ((c : ComId) → number_of 1 least c ≤ number_of 1 more c) → AreLast all least held → AreLast all more held
last_on all least more held rises h = (λ c n le. h.0 c n (omega (arith, rises c)), λ c n lt. h.1 c n (omega (arith, rises c)))

module _ (all : List Verdict) (least : Numbers) (held : List Verdict) (v : Verdict) (h : AreLast all least held) where
  -- a decision on the least number that is served takes the place of the one before
  pub last_put : v.n ≡ number_of 1 least v.peer → stamp_at held v.peer v.n ≡ None → AreLast (all ++ v ∷ []) least (with_last v held)
  last_put is none = (same, above)
    where
      at_it : (c : ComId) (n : ℕ) → same_com v.peer c ≡ true → v.peer ≡ c → number_of 1 least c ≤ n → (eqb n v.n ≡ true) ⊎ (eqb n v.n ≡ false) → stamp_at (with_last v held) c n ≡ stamp_at (all ++ v ∷ []) c n
      at_it c n its peer le (inl it) =
          let e : n ≡ v.n = grind (arith, nat_tests) in
          let t : is_of c n v ≡ true = grind (arith, nat_tests) in
          let was : stamp_at held c n ≡ None = rw (← peer, e) none in
          push_it (others v held) v c n t (none_of_it v held c n its) ∙ sym (push_it all v c n t (sym (h.0 c n le) ∙ was))
      at_it c n its peer le (inr other) =
          let t : is_of c n v ≡ false = grind (arith, nat_tests) in
          let at : number_of 1 least c ≡ v.n = sym (is ∙ ap (λ (d : ComId). number_of 1 least d) peer) in
          let differs : n ≢ v.n = λ e. grind (arith, nat_tests) in
          let beyond : number_of 1 least c < n = omega (arith, at, le, differs) in
          push_other (others v held) v c n t ∙ none_of_it v held c n its ∙ sym (push_other all v c n t ∙ h.1 c n beyond)

      same : (c : ComId) (n : ℕ) → number_of 1 least c ≤ n → stamp_at (with_last v held) c n ≡ stamp_at (all ++ v ∷ []) c n
      same c n le = elim (cases_Bool (same_com v.peer c)) [
        | inl its ↦ at_it c n its (same_number v.peer c its) le (cases_Bool (eqb n v.n))
        | inr other ↦
            let t : is_of c n v ≡ false = grind (arith, nat_tests) in
            push_other (others v held) v c n t ∙ same_of_other v held c n other ∙ h.0 c n le ∙ sym (push_other all v c n t)
      ]

      above : (c : ComId) (n : ℕ) → number_of 1 least c < n → stamp_at (all ++ v ∷ []) c n ≡ None
      above c n lt = elim (cases_Bool (is_of c n v)) [
        | inl it ↦
            let its : same_com c v.peer ≡ true = grind (arith, nat_tests) in
            let e : n ≡ v.n = grind (arith, nat_tests) in
            let at : number_of 1 least c ≡ v.n = sym (is ∙ ap (λ (d : ComId). number_of 1 least d) (sym (same_number c v.peer its))) in
            absurd (omega (arith, at, e, lt))
        | inr other ↦ push_other all v c n other ∙ h.1 c n lt
      ]

  -- one below the least number, or on a transaction that was decided before, changes nothing
  pub last_below : v.n < number_of 1 least v.peer → AreLast (all ++ v ∷ []) least held
  last_below below = (λ c n le. h.0 c n le ∙ sym (push_other all v c n (other c n le)), λ c n lt. push_other all v c n (other c n (omega arith)) ∙ h.1 c n lt)
    where
      other : (c : ComId) (n : ℕ) → number_of 1 least c ≤ n → is_of c n v ≡ false
      other c n le = elim (cases_Bool (is_of c n v)) [
        | inl it ↦
            let its : same_com c v.peer ≡ true = grind (arith, nat_tests) in
            let e : n ≡ v.n = grind (arith, nat_tests) in
            let at : number_of 1 least c ≡ number_of 1 least v.peer = ap (λ (d : ComId). number_of 1 least d) (same_number c v.peer its) in
            absurd (omega (arith, at, e, le, below))
        | inr differs ↦ differs
      ]

  pub last_known : (s : ℕ) → v.n ≡ number_of 1 least v.peer → stamp_at held v.peer v.n ≡ Some s → AreLast (all ++ v ∷ []) least held
  last_known s is known = (same, above)
    where
      same : (c : ComId) (n : ℕ) → number_of 1 least c ≤ n → stamp_at held c n ≡ stamp_at (all ++ v ∷ []) c n
      same c n le = elim (cases_Bool (is_of c n v)) [
        | inl it ↦
            let its : same_com c v.peer ≡ true = grind (arith, nat_tests) in
            let e : n ≡ v.n = grind (arith, nat_tests) in
            let was : stamp_at held c n ≡ Some s = rw (same_number c v.peer its, e) known in
            was ∙ sym (push_known all v c n s (sym (h.0 c n le) ∙ was))
        | inr other ↦ h.0 c n le ∙ sym (push_other all v c n other)
      ]

      above : (c : ComId) (n : ℕ) → number_of 1 least c < n → stamp_at (all ++ v ∷ []) c n ≡ None
      above c n lt = elim (cases_Bool (is_of c n v)) [
        | inl it ↦
            let its : same_com c v.peer ≡ true = grind (arith, nat_tests) in
            let e : n ≡ v.n = grind (arith, nat_tests) in
            let at : number_of 1 least c ≡ v.n = sym (is ∙ ap (λ (d : ComId). number_of 1 least d) (sym (same_number c v.peer its))) in
            absurd (omega (arith, at, e, lt))
        | inr other ↦ push_other all v c n other ∙ h.1 c n lt
      ]

-- the decisions of records with one more
pub decided_more : (records : List Record) (stamp : ℕ) (c : ComId) (n : ℕ) (writes : List (ℕ × ℤ)) → verdicts_in (records ++ Decided stamp c n writes ∷ []) ≡ verdicts_in records ++ record { peer = c; n = n; stamp = stamp } ∷ []
decided_more records stamp c n writes = filter_map-append verdict_in records (Decided stamp c n writes ∷ [])

-- they are held where the book is as it was and no least number falls
pub held_on : (log : List Record) (old new : EngineState) → GoesOn old new → Keeps log old → Keeps log new
held_on log old new on h =
    let P : Book → Type 0 = λ b. AreLast (verdicts_in log) new.least b.decided in
    subst P (sym on.0) (last_on (verdicts_in log) old.least new.least old.book.decided on.1 h)

-- and where a decision is entered
pub held_entered : (log : List Record) (old new : EngineState) (r : Record) → IsDecision old r → new ≡ entered old r → Keeps log old → Keeps (log ++ r ∷ []) new
held_entered log old new (Decided stamp c n writes) d is h =
    let v : Verdict = record { peer = c; n = n; stamp = stamp } in
    let P : List Verdict → Type 0 = λ vs. AreLast vs old.least (with_last v old.book.decided) in
    let Q : EngineState → Type 0 = λ e. Keeps (log ++ Decided stamp c n writes ∷ []) e in
    subst Q (sym is) (subst P (sym (decided_more log stamp c n writes)) (last_put (verdicts_in log) old.least old.book.decided v h d.1 d.0))
held_entered log old new (Take from k stamp) d is h = absurd d
held_entered log old new (TakeWhole from k stamp handler args) d is h = absurd d
held_entered log old new (Input stamp handler args) d is h = absurd d
held_entered log old new (Value n place session value) d is h = absurd d
held_entered log old new (Outcome stamp n abort) d is h = absurd d
held_entered log old new (Released to k) d is h = absurd d
held_entered log old new (Shown m) d is h = absurd d
held_entered log old new (Checkpoint image) d is h = absurd d
held_entered log old new (Epoch epoch) d is h = absurd d

pub epoch_adds_none : (log : List Record) (epoch : ℕ) → verdicts_in (log ++ Epoch epoch ∷ []) ≡ verdicts_in log
epoch_adds_none log epoch = filter_map-append verdict_in log (Epoch epoch ∷ []) ∙ append-nil (verdicts_in log)

-- behind the record of an epoch they are the same
pub held_in_epoch : (log : List Record) (epoch : ℕ) (all : List Verdict) (e : EngineState) → verdicts_in log ≡ all → AreLast all e.least e.book.decided → Keeps (log ++ Epoch epoch ∷ []) e
held_in_epoch log epoch all e same h =
    let P : List Verdict → Type 0 = λ vs. AreLast vs e.least e.book.decided in
    subst P (sym (epoch_adds_none log epoch ∙ same)) h

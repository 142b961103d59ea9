-- Each recorded commit stands once in the merged history, and where all commits are recorded no other does.
use Rattle.std.proofs.Common.{◌≡◌, refl, ◌∙◌, ap, sym, subst, ℕ, ◌+◌, ◌==◌, Bool, true, false, cond, not, ◌&&◌, ◌||◌, List, [], ◌∷◌, ◌++◌, Option, Some, None, arith, ◌⊎◌, inl, inr}
use Rattle.std.specs.Prelude.{Contains, count_by}
use Rattle.std.specs.List.{list_any}
use Rattle.std.proofs.lemmas.List.{append_assoc}
use Rattle.std.proofs.lemmas.List.Sums.{sum_by-cons, sum_by-append}
use Rattle.ic_base.specs.declared.messages.ComId.{ComId}
use Rattle.ic_base.specs.declared.messages.AbortCause.{AbortCause}
use Rattle.ic_base.specs.declared.messages.Entry.{Entry}
use Rattle.ic_base.specs.declared.messages.Act.{Act}
use Rattle.ic_base.specs.declared.messages.Act.TheVariants as acts
use Rattle.ic_base.specs.declared.scenario.Program.{Program}
use Rattle.ic_base.specs.declared.record.Record.{Record}
use Rattle.ic_base.specs.declared.record.Record.TheVariants.{Take, TakeWhole, Input, Value, Outcome, Released, Shown, Checkpoint, Epoch, Decided}
use Rattle.ic_base.specs.Programs.{same_com, is_a_pcom, is_a_tcom}
use Rattle.def_plain.specs.History.{history_of, entry}
use Rattle.def_state.specs.Hist.{Hist, Contents, after}
use Rattle.def_facts.specs.Logs.{Logs, log_at, contents_in, has_outcome, ends_txn, decides_txn, decisions_on}
use Rattle.def_facts.specs.Pcom.{state_after}
use Rattle.def_facts.specs.Sound.{is_unrecorded}
use Rattle.def_facts.specs.World.{Past}
use Rattle.law_sound.specs.Order.{Explains, Rises, is_commit_of}
use Rattle.def_run.specs.CrashFree.{commits_number, ends_committed}
use Rattle.law_sound.proofs.Aborting.{none_decided_and_aborted}
use Rattle.law_replay.proofs.Ending.{ending}
use Rattle.law_sound.proofs.Deciding.{commits-is, declared-tcom, decided_once, decision-record}
use Rattle.law_replay.proofs.Lists.{contains-split, self-number as equal, true-false}
use Rattle.law_sound.proofs.Histories.{history_has_entries}
use Rattle.law_sound.proofs.Positions.{told}
use Rattle.law_sound.proofs.Reaching.{find-passes}
use Rattle.law_sound.proofs.Rising.{Below, history_rises, to-below, below-never}
use Rattle.law_replay.proofs.Lists.{head-or-tail}
use Rattle.law_replay.proofs.Lists.{in-head, in-tail, equal-numbers}
use Rattle.law_replay.proofs.Members.{contains_any, or-none, none-or, none_contained, any-has, mapped-keeps}
use Rattle.law_replay.proofs.Records.{ends-is}

-- counting ----------------------------------------------------------------------------------------

count-cons : {A : Type 0} (test : A → Bool) (x : A) (xs : List A) → count_by test (x ∷ xs) ≡ cond (test x) 1 0 + count_by test xs
count-cons test x xs = sum_by-cons (λ y. cond (test y) 1 0) x xs

pub count_none : {A : Type 0} (test : A → Bool) (xs : List A) → list_any test xs ≡ false → count_by test xs ≡ 0
count_none test [] e = refl
count_none test (x ∷ xs) e =
    let h = or-none (test x) (list_any test xs) e in
    let zero_here : cond (test x) 1 0 ≡ 0 = ap {B = ℕ} (λ b. cond b 1 0) h.0 in omega (arith, count-cons test x xs, zero_here, count_none test xs h.1)

-- of a rising list whose passing members are all one
pub count_one : (test : Entry → Bool) (xs : List Entry) (e : Entry) → Rises xs → Contains xs e → test e ≡ true → ((x : Entry) → Contains xs x → test x ≡ true → x ≡ e) → count_by test xs ≡ 1
count_one test [] e rise has is one = absurd (omega (arith, has.1))
count_one test (y ∷ ys) e rise has is one = at (test y) refl (head-or-tail y e ys has) (λ t. count_one test ys e rise.1 t is (λ x m p. one x (in-tail y x ys m) p))
  where
    none-else : test y ≡ true → (z : Entry) → Contains ys z → test z ≡ false
    none-else passes z m = by (test z) refl
      where
        by : (b : Bool) → test z ≡ b → test z ≡ false
        by false f = f
        by true f =
            let same : y ≡ z = one y (in-head y ys) passes ∙ sym (one z (in-tail y z ys m) f) in
            let itself = subst (λ (x : Entry). Below x z) same (to-below y z (rise.0 z m)) in below-never z z itself itself

    at : (b : Bool) → test y ≡ b → (y ≡ e) ⊎ Contains ys e → (Contains ys e → count_by test ys ≡ 1) → count_by test (y ∷ ys) ≡ 1
    at true p where_is more =
        let here : cond (test y) 1 0 ≡ 1 = ap {B = ℕ} (λ b. cond b 1 0) p in omega (arith, count-cons test y ys, here, count_none test ys (none_contained test ys (none-else p)))
    at false p (inl same) more = true-false (sym p ∙ ap test same ∙ is)
    at false p (inr t) more = let here : cond (test y) 1 0 ≡ 0 = ap {B = ℕ} (λ b. cond b 1 0) p in omega (arith, count-cons test y ys, here, more t)

-- records -----------------------------------------------------------------------------------------

committed-is : (n : ℕ) (r : Record) → ends_committed n r ≡ true → (stamp : ℕ) × (r ≡ Outcome stamp n None)
committed-is n (Outcome stamp m None) e = (stamp, ap (λ k. Outcome stamp k None) (sym (equal-numbers n m e)))
committed-is n (Outcome stamp m (Some cause)) e = true-false e
committed-is n (Take from k stamp) e = true-false e
committed-is n (TakeWhole from k stamp handler args) e = true-false e
committed-is n (Input stamp handler args) e = true-false e
committed-is n (Value m place session value) e = true-false e
committed-is n (Released to k) e = true-false e
committed-is n (Shown m) e = true-false e
committed-is n (Checkpoint image) e = true-false e
committed-is n (Epoch epoch) e = true-false e
committed-is n (Decided stamp d m writes) e = true-false e

-- without an outcome there is no commit
committed-ends : (n : ℕ) (r : Record) → ends_txn n r ≡ false → ends_committed n r ≡ false
committed-ends n r e = at (ends_committed n r) refl
  where
    at : (b : Bool) → ends_committed n r ≡ b → ends_committed n r ≡ false
    at false f = f
    at true f = let x = committed-is n r f in true-false (sym e ∙ ap (ends_txn n) x.1 ∙ equal n)

none-committed : (n : ℕ) (rs : List Record) → has_outcome rs n ≡ false → list_any (ends_committed n) rs ≡ false
none-committed n [] e = refl
none-committed n (r ∷ rs) e =
    let h = or-none (ends_txn n r) (has_outcome rs n) e in
    none-or (ends_committed n r) (list_any (ends_committed n) rs) (committed-ends n r h.0) (none-committed n rs h.1)

-- an outcome stands once
none-behind : (program : Program) (c : ComId) (k : Contents) (pre post : List Record) (at n : ℕ) (abort : Option AbortCause) (g : Hist) → after program c k (pre ++ Outcome at n abort ∷ post) ≡ Some g → has_outcome post n ≡ false
none-behind program c k pre post stamp n abort g e = by (has_outcome post n) refl
  where
    second : (xs : List Record) (r : Record) (ys : List Record) → ends_txn n r ≡ true → has_outcome (xs ++ r ∷ ys) n ≡ true
    second [] r ys f = ap (λ b. b || has_outcome ys n) f
    second (x ∷ xs) r ys f = at (ends_txn n x) (second xs r ys f)
      where
        at : (b : Bool) → has_outcome (xs ++ r ∷ ys) n ≡ true → b || has_outcome (xs ++ r ∷ ys) n ≡ true
        at true h = refl
        at false h = h

    by : (b : Bool) → has_outcome post n ≡ b → has_outcome post n ≡ false
    by false f = f
    by true f =
        let m = any-has (ends_txn n) post f in
        let r = ends-is n m.0 m.2 in
        let st = contains-split post m.0 m.1 in
        let x = ending program c k (pre ++ Outcome stamp n abort ∷ st.0) st.1 r.0 n r.1 g
        (ap (after program c k) (append_assoc pre (Outcome stamp n abort ∷ st.0) (Outcome r.0 n r.1 ∷ st.1) ∙ ap (λ z. pre ++ Outcome stamp n abort ∷ (st.0 ++ z ∷ st.1)) (sym r.2) ∙ ap (λ l. pre ++ Outcome stamp n abort ∷ l) (sym st.2)) ∙ e) in
        true-false (sym x.first ∙ second pre (Outcome stamp n abort) st.0 (equal n))

-- commits -----------------------------------------------------------------------------------------

-- a commit of the history is a decision
record IsDecision (program : Program) (logs : Logs) (c : ComId) (n : ℕ) (e : Entry) : Type 0 where
  tcom : ComId
  at : ℕ
  is_tcom : is_a_tcom program tcom ≡ true
  stands : Contains (decisions_on (log_at logs tcom) c n) at
  is : e ≡ entry tcom at (acts.Commit c n)

decision-of : (program : Program) (logs : Logs) (c : ComId) (n : ℕ) (e : Entry) → Contains (history_of program logs) e → is_commit_of c n e.act ≡ true → IsDecision program logs c n e
decision-of program logs c n e has told_it =
    let x = history_has_entries program logs e has in
    let y = commits-is x.1 x.0 c n x.2 e x.5 told_it in
    record { tcom = x.0; at = y.1; is_tcom = declared-tcom program x.0 x.1 x.3 y.0; stands = mapped-keeps (decides_txn c n) (log_at logs x.0) x.2 y.1 x.4 y.2; is = y.3 }

same-act : (c : ComId) (n : ℕ) (act : Act) → commits_number c n act ≡ true → is_commit_of c n act ≡ true
same-act c n (acts.Commit d m) e = e
same-act c n (acts.Take d k) e = true-false e
same-act c n (acts.Input h args) e = true-false e
same-act c n (acts.Abort m) e = true-false e

-- two commits of one transaction are one entry
one-commit : (program : Program) (found logs : Logs) (past : Past) → Explains program found logs past → (c : ComId) (n : ℕ) (e x : Entry) → Contains (history_of program logs) e → is_commit_of c n e.act ≡ true → Contains (history_of program logs) x → is_commit_of c n x.act ≡ true → x ≡ e
one-commit program found logs past f c n e x has p also q =
    let a = decision-of program logs c n e has p in
    let b = decision-of program logs c n x also q in
    let same = decided_once program found logs past f b.tcom a.tcom c n b.at a.at b.is_tcom a.is_tcom b.stands a.stands in
    b.is ∙ ap (λ (t : ComId). entry t b.at (acts.Commit c n)) same.0 ∙ ap (λ k. entry a.tcom k (acts.Commit c n)) same.1 ∙ sym a.is

-- a recorded commit stands once on both sides
count-recorded : (program : Program) (found logs : Logs) (past : Past) → Explains program found logs past → (c : ComId) (n stamp : ℕ) (g : Hist) → is_a_pcom program c ≡ true → state_after program c (past.received c) (log_at logs c) ≡ Some g → Contains (log_at logs c) (Outcome stamp n None)
    → count_by (λ e. commits_number c n e.act) (history_of program logs) ≡ count_by (ends_committed n) (log_at logs c)
count-recorded program found logs past f c n stamp g pcom is has = left ∙ sym right
  where
    left : count_by (λ (e : Entry). commits_number c n e.act) (history_of program logs) ≡ 1
    left =
        let st = contains-split (log_at logs c) (Outcome stamp n None) has in
        let t = told program found logs past f c pcom st.0 st.1 n stamp st.2 in
        let x = find-passes (λ e. is_commit_of c n e.act) (history_of program logs) (entry t.tcom t.at (acts.Commit c n)) t.commit in
        count_one (λ e. commits_number c n e.act) (history_of program logs) (entry t.tcom t.at (acts.Commit c n)) (history_rises program found logs past f) x.1 x.0
        (λ z m p. one-commit program found logs past f c n (entry t.tcom t.at (acts.Commit c n)) z x.1 x.0 m (same-act c n z.act p))

    right : count_by (ends_committed n) (log_at logs c) ≡ 1
    right =
        let st = contains-split (log_at logs c) (Outcome stamp n None) has in
        let made : after program c (contents_in (past.received c)) (st.0 ++ Outcome stamp n None ∷ st.1) ≡ Some g = ap (after program c (contents_in (past.received c))) (sym st.2) ∙ is in
        let before_it = count_none (ends_committed n) st.0 (none-committed n st.0 (ending program c (contents_in (past.received c)) st.0 st.1 stamp n None g made).first) in
        let behind_it = count_none (ends_committed n) st.1 (none-committed n st.1 (none-behind program c (contents_in (past.received c)) st.0 st.1 stamp n None g made)) in
        let here : cond (n == n) 1 0 ≡ 1 = ap {B = ℕ} (λ b. cond b 1 0) (equal n) in
        ap (count_by (ends_committed n)) st.2 ∙ omega (arith, sum_by-append (λ r. cond (ends_committed n r) 1 0) st.0 (Outcome stamp n None ∷ st.1), count-cons (ends_committed n) (Outcome stamp n None) st.1, before_it, behind_it, here)

-- where all commits are recorded, no other stands in the history
no-commit : (program : Program) (found logs : Logs) (past : Past) → Explains program found logs past → (c : ComId) (n : ℕ) → ((e : Entry) → Contains (history_of program logs) e → is_unrecorded (log_at logs c) c e.act ≡ false) → list_any (ends_committed n) (log_at logs c) ≡ false
    → (e : Entry) → Contains (history_of program logs) e → commits_number c n e.act ≡ false
no-commit program found logs past f c n all none e has = at (commits_number c n e.act) refl
  where
    recorded : (b : Bool) → same_com c c && not b ≡ false → b ≡ true
    recorded true g = refl
    recorded false g = true-false (sym g ∙ ap (λ z. z && true) (equal c.0))

    at : (b : Bool) → commits_number c n e.act ≡ b → commits_number c n e.act ≡ false
    at false p = p
    at true p =
        let a = decision-of program logs c n e has (same-act c n e.act p) in
        let ended = recorded (has_outcome (log_at logs c) n) (ap (λ (x : Entry). is_unrecorded (log_at logs c) c x.act) (sym a.is) ∙ all e has) in
        let m = any-has (ends_txn n) (log_at logs c) ended in
        let r = ends-is n m.0 m.2 in by a r.0 r.1 (subst (λ z. Contains (log_at logs c) z) r.2 m.1)
      where
        by : IsDecision program logs c n e → (stamp : ℕ) (abort : Option AbortCause) → Contains (log_at logs c) (Outcome stamp n abort) → commits_number c n e.act ≡ false
        by a stamp None stands = true-false (sym none ∙ contains_any (ends_committed n) (log_at logs c) (Outcome stamp n None) stands (equal n))
        by a stamp (Some cause) stands =
            let w = decision-record (log_at logs a.tcom) c n a.at a.stands in
            let d = contains-split (log_at logs a.tcom) (Decided a.at c n w.0) w.1 in
            let o = contains-split (log_at logs c) (Outcome stamp n (Some cause)) stands in
            absurd (none_decided_and_aborted program found logs past f a.tcom c d.0 d.1 o.0 o.1 a.at stamp n w.0 cause a.is_tcom d.2 o.2)

-- the commits of the history are those that the log records
pub commits_counted : (program : Program) (found logs : Logs) (past : Past) → Explains program found logs past → (c : ComId) (n : ℕ) (g : Hist) → is_a_pcom program c ≡ true → state_after program c (past.received c) (log_at logs c) ≡ Some g
    → ((e : Entry) → Contains (history_of program logs) e → is_unrecorded (log_at logs c) c e.act ≡ false) → count_by (λ e. commits_number c n e.act) (history_of program logs) ≡ count_by (ends_committed n) (log_at logs c)
commits_counted program found logs past f c n g pcom is all = at (list_any (ends_committed n) (log_at logs c)) refl
  where
    at : (b : Bool) → list_any (ends_committed n) (log_at logs c) ≡ b → count_by (λ (e : Entry). commits_number c n e.act) (history_of program logs) ≡ count_by (ends_committed n) (log_at logs c)
    at true e =
        let m = any-has (ends_committed n) (log_at logs c) e in
        let r = committed-is n m.0 m.2 in count-recorded program found logs past f c n r.0 g pcom is (subst (λ z. Contains (log_at logs c) z) r.1 m.1)
    at false e =
        count_none (λ (x : Entry). commits_number c n x.act) (history_of program logs) (none_contained (λ (x : Entry). commits_number c n x.act) (history_of program logs) (no-commit program found logs past f c n all e))
        ∙ sym (count_none (ends_committed n) (log_at logs c) e)

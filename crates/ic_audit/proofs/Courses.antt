-- The logs of several components, read one after another.
use Rattle.std.proofs.Common.{◌≡◌, refl, ap, sym, ◌∙◌, subst, ℕ, ◌+◌, ◌<◌, ◌≤◌, List, [], ◌∷◌, ◌++◌, length, drop, map, inl, inr, Some, arith, le_refl, append_assoc}
use Rattle.std.specs.Prelude.{slice_get, slice_set, option_map, Result, Ok, Err}
use Rattle.std.proofs.lemmas.Bool.{cases_eq}
use Rattle.std.proofs.lemmas.List.{drop_all, append-nil, length-set}
use Rattle.std.proofs.lemmas.Option.{slice_get-map}
use Rattle.ic_base.specs.declared.messages.ComId.{ComId}
use Rattle.ic_base.specs.declared.record.Record.{Record}
use Rattle.ic_base.specs.declared.report.Fault.{Fault}
use Rattle.ic_base.specs.declared.report.Fault.TheVariants as faults
use Rattle.ic_base.specs.declared.scenario.Component.{Component}
use Rattle.ic_disk.specs.declared.disk.Disk.{Ghosts}
use Rattle.ic_audit.specs.Disks.{Refuses, HasFailed, IsLookedAt, AreLookedAt, AllTell}
use Rattle.ic_audit.specs.Logs.{◌>>=◌, log_in, logs_in}
use Rattle.ic_audit.specs.Steps.{ReadsLogAt, HoldLogs, IsFirstToFail}
use Rattle.ic_report.specs.declared.ending.Why.{Why}
use Rattle.ic_report.specs.declared.ending.Why.TheVariants.{Fault as AFault, Print, Memory}
use Rattle.ic_audit.proofs.Lists.{set_there, set_other, drop_there, same_item}

abbrev pub com_at : ℕ → ComId
com_at n = record { 0 = n }

-- logs behind others
abbrev pub behind : List (List Record) → Result (List (List Record)) Fault → Result (List (List Record)) Fault
behind front r = r >>= (λ logs. Ok (front ++ logs))

behind_none : (r : Result (List (List Record)) Fault) → behind [] r ≡ r
behind_none (Ok logs) = refl
behind_none (Err fault) = refl

joined : (front : List (List Record)) (log : List Record) (r : Result (List (List Record)) Fault) → behind front (r >>= (λ logs. Ok (log ∷ logs))) ≡ behind (front ++ log ∷ []) r
joined front log (Ok logs) = ap Ok (sym (append_assoc front (log ∷ []) logs))
joined front log (Err fault) = refl

-- a refusal of a part is one of the whole
pub lifted : {A B : Type 0} (tells all : Type 0) (faulted other : ComId → Type 0) (r : Result A Fault) (s : Result B Fault) (why : Why) → (all → tells) → ((c : ComId) → faulted c → other c) → (all → (fault : Fault) → r ≡ Err fault → s ≡ Err fault) → Refuses tells faulted r why → Refuses all other s why
lifted tells all faulted other r s (AFault (faults.Foreign c kept given)) t f g is = λ told. g told _ (is (t told))
lifted tells all faulted other r s (AFault (faults.Bad c place)) t f g is = λ told. g told _ (is (t told))
lifted tells all faulted other r s (AFault (faults.Illegal entry)) t f g is = λ told. g told _ (is (t told))
lifted tells all faulted other r s (AFault (faults.Disk c)) t f g is = f c is
lifted tells all faulted other r s (AFault faults.Usage) t f g is = absurd is
lifted tells all faulted other r s (AFault (faults.Scenario line cause)) t f g is = absurd is
lifted tells all faulted other r s (AFault (faults.Schedule line cause)) t f g is = absurd is
lifted tells all faulted other r s (AFault (faults.Policy why)) t f g is = absurd is
lifted tells all faulted other r s (AFault faults.Receipts) t f g is = absurd is
lifted tells all faulted other r s (AFault faults.Packets) t f g is = absurd is
lifted tells all faulted other r s (AFault (faults.LogFull c)) t f g is = absurd is
lifted tells all faulted other r s (AFault faults.Read) t f g is = absurd is
lifted tells all faulted other r s (AFault (faults.NotBlank c)) t f g is = absurd is
lifted tells all faulted other r s Print t f g is = absurd is
lifted tells all faulted other r s Memory t f g is = tt

module _ {D : Type 0} (d : Ghosts D) where
  pub stays : (disk : D) → IsLookedAt d disk disk
  stays disk = record {
    kept = record { tells = (λ x. x, λ x. x); keeps = (λ x. x, λ x. x); later = le_refl (d.faults disk) };
    calls = omega arith;
    settled = λ tells still. refl;
    bytes = λ tells. inl refl;
  }

  -- The logs until number i were read; the disks from there on weren't touched.
  pub record Course (given : List ℕ) (xs : List Component) (olds : List D) (i : ℕ) (logs : List (List Record)) (disks : List D) : Type 0 where
    pub now : AllTell d olds → logs_in given 0 xs (map d.seen olds) ≡ behind logs (logs_in given i (drop i xs) (drop i (map d.seen olds)))
    pub rest : (j : ℕ) → i ≤ j → slice_get disks j ≡ slice_get olds j
    pub looked : AreLookedAt d olds disks
    pub read : HoldLogs d given xs olds i

  pub begins : (given : List ℕ) (xs : List Component) (olds : List D) → Course given xs olds 0 [] olds
  begins given xs olds = record {
    now = λ told. sym (behind_none (logs_in given 0 xs (map d.seen olds)));
    rest = λ j h. refl;
    looked = record { long = refl; each = λ i old there. (old, there, stays old) };
    read = λ j x disk h. absurd (omega (arith, h));
  }

  pub ends : (given : List ℕ) (xs : List Component) (olds : List D) (i : ℕ) (logs : List (List Record)) (disks : List D) → Course given xs olds i logs disks → length xs ≤ i → AllTell d olds → logs_in given 0 xs (map d.seen olds) ≡ Ok logs
  ends given xs olds i logs disks course over told =
      course.now told ∙ ap (λ l. behind logs (logs_in given i l (drop i (map d.seen olds)))) (drop_all i xs over) ∙ ap Ok (append-nil logs)

  module _ (given : List ℕ) (xs : List Component) (olds : List D) (i : ℕ) (logs : List (List Record)) (disks news : List D) (course : Course given xs olds i logs disks) (x : Component) (there : slice_get xs i ≡ Some x) (c : ComId) (is : c.0 ≡ i) (result : Result (List Record) Why) (reads : ReadsLogAt d x.kind given c disks news result) where
    here : slice_get olds i ≡ Some reads.old
    here = sym (course.rest i (le_refl i)) ∙ ap (slice_get disks) (sym is) ∙ reads.there

    stands : news ≡ slice_set disks i reads.new
    stands = reads.stands ∙ ap (λ n. slice_set disks n reads.new) is

    now_there : slice_get news i ≡ Some reads.new
    now_there = ap (λ l. slice_get l i) stands ∙ set_there disks i reads.old reads.new (course.rest i (le_refl i) ∙ here)

    now_other : (j : ℕ) → (j ≡ i → ⊥) → slice_get news j ≡ slice_get disks j
    now_other j other = ap (λ l. slice_get l j) stands ∙ set_other disks i j reads.new other

    file : slice_get (map d.seen olds) i ≡ Some (d.seen reads.old)
    file = slice_get-map d.seen olds i ∙ ap (option_map d.seen) here

    split : logs_in given i (drop i xs) (drop i (map d.seen olds)) ≡ (log_in x.kind given c (d.seen reads.old) >>= (λ log. logs_in given (i + 1) (drop (i + 1) xs) (drop (i + 1) (map d.seen olds)) >>= (λ more. Ok (log ∷ more))))
    split =
        ap (λ l. logs_in given i l (drop i (map d.seen olds))) (drop_there xs i x there) ∙ ap (logs_in given i (x ∷ drop (i + 1) xs)) (drop_there (map d.seen olds) i (d.seen reads.old) file)
        ∙ ap (λ n. log_in x.kind given (com_at n) (d.seen reads.old) >>= (λ log. logs_in given (i + 1) (drop (i + 1) xs) (drop (i + 1) (map d.seen olds)) >>= (λ more. Ok (log ∷ more)))) (sym is)

    pub looked_after : AreLookedAt d olds news
    looked_after = record {
      long = ap length stands ∙ length-set disks i reads.new ∙ course.looked.long;
      each = λ j old at. elim (cases_eq j i) [
        | inl e ↦ (reads.new, ap (slice_get news) e ∙ now_there, subst (λ o. IsLookedAt d o reads.new) (same_item reads.old old (sym here ∙ ap (slice_get olds) (sym e) ∙ at)) reads.looked)
        | inr other ↦ (let was = course.looked.each j old at in (was.0, now_other j other ∙ was.1, was.2))
      ];
    }

    failed_at : (e : ComId) → (e ≡ c) × HasFailed d reads.old reads.new → IsFirstToFail d given xs olds news e
    failed_at e f =
        let at : e.0 ≡ i = ap (λ (n : ComId). n.0) f.0 ∙ is in
        record { failed = (reads.old, reads.new, ap (slice_get olds) at ∙ here, ap (slice_get news) at ∙ now_there, f.1); below = subst (HoldLogs d given xs olds) (sym at) course.read }

    pub goes_on : (log : List Record) → (d.tells reads.old → log_in x.kind given c (d.seen reads.old) ≡ Ok log) → Course given xs olds (i + 1) (logs ++ log ∷ []) news
    goes_on log read = record {
      now = λ told. course.now told ∙ ap (behind logs) (split ∙ ap (λ r. r >>= (λ l. logs_in given (i + 1) (drop (i + 1) xs) (drop (i + 1) (map d.seen olds)) >>= (λ more. Ok (l ∷ more)))) (read (told i reads.old here))) ∙ joined logs log (logs_in given (i + 1) (drop (i + 1) xs) (drop (i + 1) (map d.seen olds)));
      rest = λ j h. now_other j (λ e. absurd (omega (arith, h, e))) ∙ course.rest j (omega (arith, h));
      looked = looked_after;
      read = λ j y disk h at on tells. elim (cases_eq j i) [
        | inl e ↦ (log, read_here j y disk e at on tells)
        | inr other ↦ course.read j y disk (omega (arith, h, other)) at on tells
      ];
    }
      where
        read_here : (j : ℕ) (y : Component) (disk : D) → j ≡ i → slice_get xs j ≡ Some y → slice_get olds j ≡ Some disk → d.tells disk → log_in y.kind given (com_at j) (d.seen disk) ≡ Ok log
        read_here j y disk e at on tells =
            let same : x ≡ y = same_item x y (sym there ∙ ap (slice_get xs) (sym e) ∙ at) in
            let one : reads.old ≡ disk = same_item reads.old disk (sym here ∙ ap (slice_get olds) (sym e) ∙ on) in
            let L : Component → D → ComId → Type 0 = λ z o n. log_in z.kind given n (d.seen o) ≡ Ok log in
            subst (λ z. L z disk (com_at j)) same (subst (λ o. L x o (com_at j)) one (subst (L x reads.old) (ap com_at (is ∙ sym e)) (read (subst d.tells (sym one) tells))))

    -- a log that is refused refuses all
    pub refuses : (why : Why) → Refuses (d.tells reads.old) (λ e. (e ≡ c) × HasFailed d reads.old reads.new) (log_in x.kind given c (d.seen reads.old)) why → Refuses (AllTell d olds) (IsFirstToFail d given xs olds news) (logs_in given 0 xs (map d.seen olds)) why
    refuses why h =
        lifted (d.tells reads.old) (AllTell d olds) (λ e. (e ≡ c) × HasFailed d reads.old reads.new) (IsFirstToFail d given xs olds news) (log_in x.kind given c (d.seen reads.old)) (logs_in given 0 xs (map d.seen olds)) why (λ told. told i reads.old here) failed_at
        (λ told fault e. course.now told ∙ ap (behind logs) (split ∙ ap (λ r. r >>= (λ l. logs_in given (i + 1) (drop (i + 1) xs) (drop (i + 1) (map d.seen olds)) >>= (λ more. Ok (l ∷ more)))) e)) h

-- The records of a log that has one more, and what the images of a crash read as.
use Rattle.std.proofs.Common.{◌≡◌, ◌∙◌, sym, ap, refl, subst, arith, ◌+◌, inl, inr, ℕ, List, [], ◌∷◌, ◌++◌, length, true}
use Rattle.std.specs.Prelude.{Result, Ok, Err, is_ok}
use Rattle.std.proofs.lemmas.List.{append-nil, map-append}
use Rattle.ic_base.specs.declared.record.Batch.{Batch}
use Rattle.def_log.specs.Frame.{frame_of, fingerprint_in, owner_in}
use Rattle.def_log.specs.Images.{LeavesJust}
use Rattle.def_log.specs.Log.{◌>>=◌}
use Rattle.def_log.proofs.Moments.{started}
use Rattle.def_two.specs.declared.moves.Record2.{Record2}
use Rattle.def_two.specs.Records.{spelling2, payload2_of, Fits2}
use Rattle.def_two.specs.Logs.{Placed2, placed2_in, records2_in, log2_of}
use Rattle.law_two_run.proofs.Reading.{read-all, placed-push}
use Rattle.ic_disk.specs.Disk.{CrashLeaves}
use Rattle.ic_disk.specs.declared.disk.Disk.{Ghosts}
use Rattle.def_log.specs.Changes.{IsOfSame, IsSameLog, IsOldOrForced, IsForced}
use Rattle.ic_two.specs.Standing.{read_or_none}
use Rattle.ic_two.specs.RecordLogs.{IsBeforeOrBehind}

-- what was read
pub read_is : (r : Result (List Record2) ℕ) (rs : List Record2) → is_ok r ≡ true → read_or_none r ≡ rs → r ≡ Ok rs
read_is (Ok xs) rs ok is = ap (λ (l : List Record2). Ok l) is
read_is (Err place) rs ok is = cc

abbrev alone : Result (List Placed2) ℕ → Result (List Record2) ℕ
alone read = read >>= (λ ps. Ok (records2_in ps))

ok_is : (a b : List Record2) → ◌≡◌ {A = Result (List Record2) ℕ} (Ok a) (Ok b) → a ≡ b
ok_is a b e = cc

-- the records of the batches with one more
push_placed : (bs : List Batch) (at : ℕ) (r : Record2) (rs : List Record2) (read : Result (List Placed2) ℕ) → Fits2 r → placed2_in bs ≡ read → alone read ≡ Ok rs → alone (placed2_in (bs ++ record { at = at; payload = payload2_of (r ∷ []) } ∷ [])) ≡ Ok (rs ++ r ∷ [])
push_placed bs at r rs (Err place) fit is e = cc
push_placed bs at r rs (Ok ps) fit is e =
    let p = payload2_of (r ∷ []) in
    let q = read-all (r ∷ []) (length p) (at + length p) (fit, tt) (omega arith) in
    let b : Batch = record { at = at; payload = p } in
    ap alone (placed-push bs b ps q.places is q.is)
    ∙ ap (λ (l : List Record2). Ok l) (map-append (λ (x : Placed2). x.1) ps q.places ∙ ap (λ l. l ++ records2_in q.places) (ok_is (records2_in ps) rs e) ∙ ap (λ l. rs ++ l) q.records)

push_frame : (start : ℕ) (old new : List ℕ) (at : ℕ) (r : Record2) (rs : List Record2) (f : Result (List Batch) ℕ) → Fits2 r → IsForced start old new at (payload2_of (r ∷ [])) → frame_of old ≡ f → alone (f >>= placed2_in) ≡ Ok rs → log2_of new ≡ Ok (rs ++ r ∷ [])
push_frame start old new at r rs (Err place) fit forced frame is = cc
push_frame start old new at r rs (Ok bs) fit forced frame is = ap (λ f. alone (f >>= placed2_in)) (forced.batch bs frame) ∙ push_placed bs at r rs (placed2_in bs) fit refl is

-- a forced record stands behind the records before it
pub pushed : (start : ℕ) (old new : List ℕ) (at : ℕ) (r : Record2) (payload : List ℕ) (rs : List Record2) → Fits2 r → payload ≡ spelling2 r → IsForced start old new at payload → log2_of old ≡ Ok rs → log2_of new ≡ Ok (rs ++ r ∷ [])
pushed start old new at r payload rs fit bytes forced is =
    let P : List ℕ → Type 0 = λ l. IsForced start old new at l in
    push_frame start old new at r rs (frame_of old) fit (subst P (bytes ∙ sym (append-nil (spelling2 r))) forced) refl is

-- a log with the same batches has the same records
same_frame : (start : ℕ) (old new : List ℕ) (rs : List Record2) (f : Result (List Batch) ℕ) → IsSameLog start old new → frame_of old ≡ f → alone (f >>= placed2_in) ≡ Ok rs → log2_of new ≡ Ok rs
same_frame start old new rs (Err place) same frame is = cc
same_frame start old new rs (Ok bs) same frame is = ap (λ f. alone (f >>= placed2_in)) (same.batches bs frame) ∙ is

-- a log that has the old batches or one more with a record has the old records, or that one behind them
pub old_or_behind : (start : ℕ) (old image : List ℕ) (at : ℕ) (r : Record2) (payload : List ℕ) (rs : List Record2) → Fits2 r → payload ≡ spelling2 r → log2_of old ≡ Ok rs → IsOldOrForced start old at payload image → IsBeforeOrBehind old rs r image
old_or_behind start old image at r payload rs fit bytes is (inl same) = (same.same, inl (same_frame start old image rs (frame_of old) same refl is))
old_or_behind start old image at r payload rs fit bytes is (inr forced) = (forced.same, inr (pushed start old image at r payload rs fit bytes forced is))

-- the same bytes are a log of the same component
pub of_same : {old new : List ℕ} → new ≡ old → IsOfSame old new
of_same e = record { fingerprint = ap fingerprint_in e; owner = ap owner_in e }

-- a crash while nothing is done leaves what is there
pub nothing_done : {D : Type 0} {d : Ghosts D} (disk : D) (P : List ℕ → Type 0)
    → ((disk : D) (image : List ℕ) → d.keeps disk → d.left_since disk (d.moment disk) image → d.may_leave disk image)
    → (d.keeps disk → LeavesJust (d.may_leave disk) (d.seen disk))
    → (d.keeps disk → P (d.seen disk))
    → CrashLeaves d disk disk P
nothing_done {d = d} disk P only_now just there =
    let leaves : d.keeps disk → (image : List ℕ) → d.may_leave disk image → P image = λ keeps image may. subst P (sym (just keeps image may)) (there keeps) in
    record {
      any_moment = λ keeps. started d.moment d.left_since disk P (λ image left. leaves keeps image (only_now disk image keeps left));
      behind = leaves;
    }

-- What a log of the former format that isn't read is refused for.
use Rattle.std.proofs.Common.{◌≡◌, ◌∙◌, inl, inr, sym, ap, subst, refl, ℕ, ◌+◌, ◌<◌, true, List, length, arith}
use Rattle.std.specs.Prelude.{Result, Ok, Err, nat_lt}
use Rattle.std.proofs.lemmas.Bool.{lt-ltb}
use Rattle.ic_base.specs.declared.record.Batch.{Batch}
use Rattle.def_log.specs.Frame.{fingerprint_in}
use Rattle.def_log.specs.Log.{◌>>=◌, placed_in}
use Rattle.def_former.specs.declared.limits.TheConstants.{FORMER_LOG_BYTES}
use Rattle.def_former.specs.Frame.{former_frame_of, IsFormerForeign}
use Rattle.def_former.specs.Log.{placed_former_log_of}
use Rattle.ic_disk.specs.declared.disk.Disk.{Ghosts}
use Rattle.ic_former.specs.Reading.{FailsToRead, RefusesFile, RefusesFormer}
use Rattle.ic_former.specs.Refusals.{IsNotForeign, IsOfFile}
use Rattle.ic_former.specs.declared.refusals.LoadWhy.{LoadWhy}
use Rattle.ic_former.specs.declared.refusals.LoadWhy.TheVariants.{Bad, Foreign, Failed, Stopped, Memory}

too_long : (bytes : List ℕ) → FORMER_LOG_BYTES < length bytes → former_frame_of bytes ≡ Err FORMER_LOG_BYTES
unfolding former_frame_of
too_long bytes long =
    let test : nat_lt FORMER_LOG_BYTES (length bytes) ≡ true = lt-ltb _ _ long in
    rw test refl

-- the records of a frame
pub placed_by_frame : (bytes : List ℕ) (r : Result (List Batch) ℕ) → former_frame_of bytes ≡ r → placed_former_log_of bytes ≡ (r >>= placed_in)
placed_by_frame bytes r e = ap (λ (f : Result (List Batch) ℕ). f >>= placed_in) e

module _ {D : Type 0} (d : Ghosts D) (old new : D) (given : List ℕ) where
  -- a file that isn't read
  pub file_refused : (why : LoadWhy) → RefusesFile d old new why → RefusesFormer d old given new why
  file_refused (Bad place) r = record {
    place = λ t. placed_by_frame (d.seen old) (Err FORMER_LOG_BYTES) (too_long (d.seen old) (r.1 t)) ∙ ap (λ (n : ℕ). Err n) (sym r.0);
    not_foreign = λ t kept foreign. absurd (omega (arith, foreign.0.short, r.1 t));
    bytes = r.2;
    calls = inr (r.3, r.0, r.1);
  }
  file_refused (Foreign kept) r = absurd r
  file_refused Failed r = r
  file_refused Stopped r = r
  file_refused Memory r = r

  module _ (read : List ℕ) (told : d.tells old → read ≡ d.seen old) (same : d.tells old → d.seen new ≡ d.seen old) (three : d.calls new ≡ d.calls old + 3) where
    -- a frame that is refused
    pub frame_refused : (why : LoadWhy) → ((place : ℕ) → why ≡ Bad place → former_frame_of read ≡ Err place) → ((place : ℕ) → why ≡ Bad place → IsNotForeign given read)
        → ((kept : List ℕ) → why ≡ Foreign kept → IsFormerForeign given read kept) → IsOfFile why → RefusesFormer d old given new why
    frame_refused (Bad place) bad not foreign is = record {
      place = λ t. subst (λ (l : List ℕ). placed_former_log_of l ≡ Err place) (told t) (placed_by_frame read (Err place) (bad place refl));
      not_foreign = λ t. subst (IsNotForeign given) (told t) (not place refl);
      bytes = same;
      calls = inl three;
    }
    frame_refused (Foreign kept) bad not foreign is = record { foreign = λ t. subst (λ (l : List ℕ). IsFormerForeign given l kept) (told t) (foreign kept refl); bytes = same; calls = three }
    frame_refused Failed bad not foreign is = absurd is
    frame_refused Stopped bad not foreign is = absurd is
    frame_refused Memory bad not foreign is = same

    -- batches whose records aren't read
    pub records_refused : (bs : List Batch) → former_frame_of read ≡ Ok bs → fingerprint_in read ≡ given → (why : LoadWhy) → FailsToRead (placed_in bs) why → RefusesFormer d old given new why
    records_refused bs frame own (Bad place) fails = record {
      place = λ t. subst (λ (l : List ℕ). placed_former_log_of l ≡ Err place) (told t) (placed_by_frame read (Ok bs) frame ∙ fails);
      not_foreign = λ t kept foreign. foreign.2 (foreign.1 ∙ ap fingerprint_in (sym (told t)) ∙ own);
      bytes = same;
      calls = inl three;
    }
    records_refused bs frame own (Foreign kept) fails = absurd fails
    records_refused bs frame own Failed fails = absurd fails
    records_refused bs frame own Stopped fails = absurd fails
    records_refused bs frame own Memory fails = same

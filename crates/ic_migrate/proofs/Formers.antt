-- What is read of logs of the former format, and what is made of them.
use Rattle.std.proofs.Common.{◌≡◌, ◌∙◌, ap, sym, subst, refl, ◌⊎◌, inl, inr, ℕ, zero, suc, ◌+◌, ◌<◌, ◌≤◌, List, [], ◌∷◌, ◌++◌, length, take, get_or, Some, arith}
use Rattle.std.specs.Prelude.{Result, Ok, Err, OnOk, slice_get, slice_set}
use Rattle.std.proofs.lemmas.Bool.{cases_eq}
use Rattle.std.proofs.lemmas.List.{length-append, length-take}
use Rattle.std.proofs.lemmas.Option.{slice_get-get_or, slice_get_within}
use Rattle.ic_base.specs.declared.limits.TheConstants.{FIRST_GATE, SLOTS}
use Rattle.ic_base.specs.declared.messages.ComId.{ComId}
use Rattle.ic_base.specs.declared.record.Batch.{Batch}
use Rattle.def_log.specs.Frame.{header, batches, placed}
use Rattle.def_log.specs.Log.{◌>>=◌, Placed, records_in}
use Rattle.def_log.specs.Sizes.{span}
use Rattle.def_log.proofs.Frames.{length-header}
use Rattle.def_former.specs.Migrated.{payloads_of, checkpoint_gates, slots_for, migrated}
use Rattle.def_former.proofs.Frames.{length-batches}
use Rattle.ic_disk.specs.declared.disk.Disk.{Ghosts}
use Rattle.ic_former.specs.Reading.{ReadsFormer, RefusesFormer}
use Rattle.ic_former.specs.declared.refusals.LoadWhy.{LoadWhy}
use Rattle.ic_former.specs.declared.refusals.LoadWhy.TheVariants.{Bad, Foreign, Failed, Stopped, Memory}
use Rattle.ic_opening.specs.Disks.{HasFailed, IsOnlyRead}
use Rattle.ic_migrate.specs.NewLogs.{IsMigrated, IsFormerLog, IsNewLogOf}
use Rattle.ic_migrate.specs.Refusals.{why_of_load, IsNoLog}
use Rattle.ic_opening.proofs.Loops.{DoneTo, go_on, was_there, same_item}

-- how long a migrated log is
pub length-migrated : (fingerprint : List ℕ) (owner : ℕ) (bs : List Batch) → length fingerprint ≡ 32 → length (migrated fingerprint owner bs) ≡ FIRST_GATE + span bs + 1
length-migrated fingerprint owner bs print =
    let ps : List (List ℕ) = payloads_of bs in
    let slots : List ℕ = slots_for ps in
    let few : length slots ≤ SLOTS = omega (arith, length-take SLOTS (checkpoint_gates (placed FIRST_GATE ps))) in
    omega (arith, length-header fingerprint owner slots print few, length-append (header fingerprint owner slots) (batches ps ++ 0 ∷ []), length-append (batches ps) (0 ∷ []), length-batches bs)

-- it is a new log
pub migrates : (fingerprint : List ℕ) (owner : ℕ) (bs : List Batch) (log : List ℕ) → length fingerprint ≡ 32 → 40 + span bs < 67108864 → log ≡ migrated fingerprint owner bs → IsMigrated fingerprint owner bs log
migrates fingerprint owner bs log print small is = record {
  is = is;
  new = record { first = ap (take 1) is; short = omega (arith, ap length is, length-migrated fingerprint owner bs print, small) };
}

module _ {D : Type 0} (d : Ghosts D) (old new : D) (given : List ℕ) (c : ComId) where
  -- why there is none
  pub no_log : (why : LoadWhy) → RefusesFormer d old given new why → IsNoLog d given c old new (why_of_load c why)
  no_log (Bad place) r = (refl, λ t. (r.place t, r.not_foreign t))
  no_log (Foreign kept) r = (refl, r.foreign)
  no_log Failed r = (refl, inl r.0)
  no_log Stopped r = (refl, inr r.0)
  no_log Memory r = tt

  pub bytes_left : (why : LoadWhy) → RefusesFormer d old given new why → d.tells old → (d.seen new ≡ d.seen old) ⊎ HasFailed d old new
  bytes_left (Bad place) r t = inl (r.bytes t)
  bytes_left (Foreign kept) r t = inl (r.bytes t)
  bytes_left Failed r t = inr (inl r.0)
  bytes_left Stopped r t = inr (inr r.0)
  bytes_left Memory r t = inl (r t)

  pub former_read : (bs : List Batch) → ReadsFormer d old given bs new → d.tells old → IsFormerLog given (d.seen old) bs
  former_read bs r t =
      let read = r.records t in
      record {
        frame = r.frame t;
        records = records_in read.0;
        log = ap (λ (x : Result (List Placed) ℕ). x >>= (λ rs. Ok (records_in rs))) read.1;
        fingerprint_same = r.fingerprint_same t;
      }

  pub new_log_of : (bs : List Batch) (log : List ℕ) → ReadsFormer d old given bs new → IsMigrated given c.0 bs log → IsNewLogOf d given c old log
  new_log_of bs log r is = record { batches = bs; stands = is; former = former_read bs r }

-- whatever comes of it
pub on_ok : {T E : Type 0} (r : Result T E) (P : Type 0) → P → OnOk r P
on_ok (Ok x) P p = p
on_ok (Err e) P p = tt

module _ {D : Type 0} (d : Ghosts D) where
  -- the disk was read, and has the same bytes
  abbrev pub was_read : ℕ → D → D → Type 0
  was_read j old new = IsOnlyRead d old new × (d.tells old → d.seen new ≡ d.seen old)

module _ {D : Type 0} (d : Ghosts D) (given : List ℕ) (coms : List ComId) (olds : List D) where
  -- the logs of the first ones were read
  pub record ReadTo (i : ℕ) (now : List D) (logs : List (List ℕ)) : Type 0 where
    pub run : DoneTo (was_read d) i olds now
    pub count : length logs ≡ i
    pub each : (j : ℕ) (c : ComId) (x : D) (log : List ℕ) → slice_get coms j ≡ Some c → slice_get olds j ≡ Some x → slice_get logs j ≡ Some log → IsNewLogOf d given c x log

  pub none_read : (logs : List (List ℕ)) → DoneTo (was_read d) 0 olds olds → logs ≡ [] → ReadTo 0 olds logs
  none_read logs start none = record {
    run = start;
    count = ap length none;
    each = λ j c x log names there at. absurd (omega (arith, slice_get_within logs j log at, ap length none));
  }

  -- those below have logs
  pub was_former : (i : ℕ) (now : List D) (logs : List (List ℕ)) → ReadTo i now logs → (j : ℕ) (c : ComId) (x : D) → j < i → slice_get coms j ≡ Some c → slice_get olds j ≡ Some x → d.tells x → (bs : List Batch) × IsFormerLog given (d.seen x) bs
  was_former i now logs s j c x below names there t =
      let log = s.each j c x (get_or logs j []) names there (slice_get-get_or logs j [] (omega (arith, below, s.count))) in
      (log.batches, log.former t)

  pushed_below : (logs : List (List ℕ)) (log : List ℕ) (j : ℕ) → j < length logs → slice_get (logs ++ log ∷ []) j ≡ slice_get logs j
  pushed_below [] log j lt = absurd (omega (arith, lt))
  pushed_below (x ∷ logs) log zero lt = refl
  pushed_below (x ∷ logs) log (suc j) lt = pushed_below logs log j (omega (arith, lt))

  pushed_at : (logs : List (List ℕ)) (log : List ℕ) → slice_get (logs ++ log ∷ []) (length logs) ≡ Some log
  pushed_at [] log = refl
  pushed_at (x ∷ logs) log = pushed_at logs log

  -- one more
  pub read_on : (i : ℕ) (now : List D) (logs : List (List ℕ)) (s : ReadTo i now logs) (other new : D) (lt : i < length now) (c : ComId) (log : List ℕ) → slice_get coms i ≡ Some c → was_read d i (get_or now i other) new → IsNewLogOf d given c (get_or now i other) log
      → ReadTo (i + 1) (slice_set now i new) (logs ++ log ∷ [])
  read_on i now logs s other new lt c log names read is = record {
    run = go_on (was_read d) i olds now s.run other new lt read;
    count = omega (arith, s.count, length-append logs (log ∷ []));
    each = λ j e x l at there got. by j e x l at there got (cases_eq j i);
  }
    where
      more : List (List ℕ)
      more = logs ++ log ∷ []

      by : (j : ℕ) (e : ComId) (x : D) (l : List ℕ) → slice_get coms j ≡ Some e → slice_get olds j ≡ Some x → slice_get more j ≡ Some l → (j ≡ i) ⊎ (j ≡ i → ⊥) → IsNewLogOf d given e x l
      by j e x l at there got (inl same) =
          let named : c ≡ e = same_item c e (sym names ∙ ap (slice_get coms) (sym same) ∙ at) in
          let disk : get_or now i other ≡ x = same_item (get_or now i other) x (sym (was_there (was_read d) i olds now s.run other lt) ∙ ap (slice_get olds) (sym same) ∙ there) in
          let file : log ≡ l = same_item log l (sym (pushed_at logs log) ∙ ap (slice_get more) (s.count ∙ sym same) ∙ got) in
          subst (λ (z : ComId). IsNewLogOf d given z x l) named (subst (λ (z : D). IsNewLogOf d given c z l) disk (subst (λ (z : List ℕ). IsNewLogOf d given c (get_or now i other) z) file is))
      by j e x l at there got (inr differs) =
          let below : j < length logs = omega (arith, slice_get_within more j l got, length-append logs (log ∷ []), s.count, differs) in
          s.each j e x l at there (sym (pushed_below logs log j below) ∙ got)

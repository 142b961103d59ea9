-- A recovery gives the facts of a Pcom that comes up.
use Rattle.std.proofs.Common.{◌≡◌, refl, ◌∙◌, ap, sym, subst, ℕ, ◌≤◌, Bool, true, false, cond, ◌⊎◌, inl, inr, List, [], ◌∷◌, ◌++◌, Option, Some, None, option_map, option_and_then, is_some, arith}
use Rattle.std.specs.Prelude.{Contains}
use Rattle.std.proofs.lemmas.List.{append-nil, append_assoc}
use Rattle.std.proofs.lemmas.Option.{none-some, same_Some}
use Rattle.ic_base.specs.declared.messages.ComId.{ComId}
use Rattle.ic_base.specs.declared.messages.Packet.{Packet}
use Rattle.ic_base.specs.declared.scenario.Program.{Program}
use Rattle.ic_base.specs.declared.record.Record.{Record}
use Rattle.ic_base.specs.declared.record.Record.TheVariants.{Take, TakeWhole, Input, Value, Outcome, Released, Shown, Checkpoint, Epoch, Decided}
use Rattle.def_state.specs.Positions.{end_of}
use Rattle.def_state.specs.Fits.{fits}
use Rattle.def_state.specs.Hist.{Hist, apply, recorded, first_hist, standing_of}
use Rattle.def_state.specs.Vol.{Vol, first_vol, regenerated}
use Rattle.def_state.specs.Image.{image_of, read_image}
use Rattle.def_state.specs.Mirrors.{vol_of}
use Rattle.def_step.specs.Replay.{Playing, play_records, image_in, has_image, image_or, last_image, behind_checkpoint, start_at}
use Rattle.def_step.specs.Pcom.{StepResult, recover_pcom, Log, told, stands_at, standing_at, needed, needed_fetch, nothing_at_all}
use Rattle.def_facts.specs.Logs.{contents_in, is_kept}
use Rattle.def_facts.specs.Pcom.{state_after, IsAtTake, PcomLogFacts}
use Rattle.law_replay.proofs.Truth.{kept-lasts}
use Rattle.law_replay.proofs.Lists.{open-content, true-false, empty, passed}
use Rattle.law_pcom.specs.Mirroring.{NoPartEnds}
use Rattle.law_pcom.specs.Stepping.{StepKept}
use Rattle.law_pcom.specs.Replaying.{Plays}
use Rattle.law_pcom.specs.Recovering.{ReadsBack, ImagesRead}
use Rattle.law_pcom.proofs.Living.{lives}
use Rattle.law_pcom.proofs.Following.{after-push, taken-received}
use Rattle.law_pcom.proofs.Calls.{kept-all}
use Rattle.law_pcom.proofs.Upkeep.{of-up}
use Rattle.law_pcom.proofs.Plays.{Comes, comes, next-applied}
use Rattle.law_pcom.proofs.Replaying.{plays-volatile, logs-put, asks-true, up-again}
use Rattle.law_replay.proofs.Firsts.{first-mirrors}

-- a log up to its last checkpoint
record AtImage (log : List Record) : Type 0 where
  pre : List Record
  image : List ℕ
  post : List Record
  is : log ≡ pre ++ Checkpoint image ∷ post
  last : last_image log ≡ Some image
  behind : behind_checkpoint log ≡ post
  none_behind : has_image post ≡ false
  has : has_image log ≡ true

record NoImage (log : List Record) : Type 0 where
  last : last_image log ≡ None
  behind : behind_checkpoint log ≡ log
  none : has_image log ≡ false

simple-image : (r : Record) (rs : List Record) → NoImage rs → image_in r ≡ None → NoImage (r ∷ rs)
simple-image r rs n e = record {
  last = ap (λ o. image_or o (image_in r)) n.last ∙ e;
  behind = ap (λ b. cond b (behind_checkpoint rs) (cond (is_some (image_in r)) rs (r ∷ rs))) n.none ∙ ap (λ o. cond (is_some o) rs (r ∷ rs)) e;
  none = ap (λ o. cond (is_some o) true (has_image rs)) e ∙ n.none;
}

image-splits : (log : List Record) → NoImage log ⊎ AtImage log
image-splits [] = inl (record { last = refl; behind = refl; none = refl })
image-splits (r ∷ rs) = by (image-splits rs)
  where
    here : NoImage rs → (x : Record) → NoImage (x ∷ rs) ⊎ AtImage (x ∷ rs)
    here n (Checkpoint image) = inr (record { pre = []; image = image; post = rs; is = refl; last = ap (λ o. image_or o (Some image)) n.last; behind = ap (λ b. cond b (behind_checkpoint rs) rs) n.none; none_behind = n.none; has = refl })
    here n (Take s k stamp) = inl (simple-image (Take s k stamp) rs n refl)
    here n (TakeWhole s k stamp handler args) = inl (simple-image (TakeWhole s k stamp handler args) rs n refl)
    here n (Input stamp handler args) = inl (simple-image (Input stamp handler args) rs n refl)
    here n (Value m place session value) = inl (simple-image (Value m place session value) rs n refl)
    here n (Outcome stamp m abort) = inl (simple-image (Outcome stamp m abort) rs n refl)
    here n (Released to k) = inl (simple-image (Released to k) rs n refl)
    here n (Shown m) = inl (simple-image (Shown m) rs n refl)
    here n (Epoch epoch) = inl (simple-image (Epoch epoch) rs n refl)
    here n (Decided stamp d m writes) = inl (simple-image (Decided stamp d m writes) rs n refl)

    true-if : (b : Bool) → cond b true true ≡ true
    true-if true = refl
    true-if false = refl

    by : NoImage rs ⊎ AtImage rs → NoImage (r ∷ rs) ⊎ AtImage (r ∷ rs)
    by (inl n) = here n r
    by (inr a) = inr (record {
      pre = r ∷ a.pre;
      image = a.image;
      post = a.post;
      is = ap (λ l. r ∷ l) a.is;
      last = ap (λ o. image_or o (image_in r)) a.last;
      behind = ap (λ b. cond b (behind_checkpoint rs) (cond (is_some (image_in r)) rs (r ∷ rs))) a.has ∙ a.behind;
      none_behind = a.none_behind;
      has = ap (λ b. cond (is_some (image_in r)) true b) a.has ∙ true-if (is_some (image_in r));
    })

-- where it starts -----------------------------------------------------------------------------------

pub first-plays : (program : Program) (c : ComId) (received : List Packet) (forced : List Record) → Plays program c received (first_vol program c) [] forced
first-plays program c received forced = record {
  state = first_hist program c;
  is_state = refl;
  mirrors = first-mirrors program c;
  held_within = λ x y. empty x y;
  shelved_within = λ x y. empty x y;
  received_within = λ x y. empty x y;
  ended_within = λ t n y. absurd (none-some (t, n) y);
  receipt_taken = λ x y. empty x y;
  stable_received = λ x y. empty x y;
  kept = λ x y. empty x y;
}

image-plays : (program : Program) (c : ComId) (sent received : List Packet) (records : List Record) (v : Vol) (a : AtImage records) → ImagesRead program c received records → PcomLogFacts program c records records sent received → read_image program c a.image ≡ Some v → Plays program c received v (a.pre ++ Checkpoint a.image ∷ []) records
image-plays program c sent received records v a reads logs e = record {
  state = h.0;
  is_state = after-push program c received a.pre (Checkpoint a.image) h.0 h.0 h.1 (g.1 ∙ ap (λ y. Some y) (sym same));
  mirrors = back.mirrors;
  held_within = λ x y. least x.at (back.held_due x y);
  shelved_within = λ x y. least x.at (back.shelved_due x y);
  received_within = λ x y. empty x (subst (λ l. Contains l x) back.none_open y);
  ended_within = λ t n y. least v.ended_at back.ended_at;
  receipt_taken = λ x y. empty x (subst (λ l. Contains l x) back.none_open y);
  stable_received = λ x y s. true-false (sym (back.held_plain x y) ∙ s);
  kept = λ x y may. subst (λ l. is_kept l x ≡ true) (append_assoc a.pre (Checkpoint a.image ∷ []) a.post ∙ sym a.is)
      (kept-lasts (a.pre ++ Checkpoint a.image ∷ []) a.post x (kept-all a.pre a.image x ((lives program c (contents_in received) a.pre h.0 h.1).received x.peer x.k (taken-received h.0 x (subst (λ xs. Contains xs x) back.mirrors.taken y)))));
}
  where
    h : (y : Hist) × (state_after program c received a.pre ≡ Some y) × (a.image ≡ image_of (vol_of y))
    h = open-content (λ y. a.image ≡ image_of (vol_of y)) (state_after program c received a.pre) (logs.whole.image_is a.pre a.post a.image a.is)

    g : (y : Hist) × (apply program c (contents_in received) h.0 (Checkpoint a.image) ≡ Some y)
    g = next-applied program c received a.pre a.post records (Checkpoint a.image) h.0 h.1 a.is logs.whole.replays

    z : (fits program c (standing_of program c h.0) (Checkpoint a.image) ≡ true) × (recorded program c (contents_in received) h.0 (Checkpoint a.image) ≡ Some g.0)
    z = passed (fits program c (standing_of program c h.0) (Checkpoint a.image)) (recorded program c (contents_in received) h.0 (Checkpoint a.image)) g.0 g.1

    same : h.0 ≡ g.0
    same = same_Some h.0 g.0 z.1

    back : ReadsBack v h.0
    back = reads a.pre a.post a.image h.0 v a.is h.1 h.2 z.0 e

    least : (n : ℕ) → n ≡ 0 → n ≤ end_of records
    least n y = omega (arith, y)

-- what comes up -------------------------------------------------------------------------------------

pub stands-kept : (program : Program) (c : ComId) (sent received : List Packet) (records : List Record) (v : Vol) (rest played : List Record) → Plays program c received v played records → records ≡ played ++ rest → IsAtTake rest → PcomLogFacts program c records records sent received →
    StepKept program c sent received (told (standing_at (record { forced = records; buffered = [] }) v rest) (needed_fetch c rest) nothing_at_all)
stands-kept program c sent received records v [] played f all waits logs =
    let log : Log = record { forced = records; buffered = [] } in
    let now = subst (λ l. PcomLogFacts program c records l sent received) (sym (append-nil records)) logs in
    let up = up-again program c sent received log v played refl f (all ∙ append-nil played) now in
    (subst (λ l. PcomLogFacts program c records (records ++ []) l received) (sym (append-nil sent)) now, of-up program c sent received (record { log = log; vol = regenerated v; rest = [] }) up)
stands-kept program c sent received records v (r ∷ rs) played f all waits logs =
    let now = subst (λ l. PcomLogFacts program c records l sent received) (sym (append-nil records)) logs in (
      logs-put program c records (records ++ []) sent received (needed_fetch c (r ∷ rs)) (asks-true program c received records (needed (r ∷ rs))) now,
      plays-volatile program c received (record { log = record { forced = records; buffered = [] }; vol = v; rest = r ∷ rs }) played f all refl waits logs.whole.replays refl,
    )

abbrev pub RecoveriesKeep : Type 0
RecoveriesKeep = (program : Program) (c : ComId) (sent received : List Packet) (records : List Record) (t : StepResult) → NoPartEnds program → ImagesRead program c received records →
    PcomLogFacts program c records records sent received → recover_pcom program c records ≡ Some t → StepKept program c sent received t

pub recoveries_keep : RecoveriesKeep
recoveries_keep program c sent received records t no_end reads logs e = by (image-splits records)
  where
    done : (o : Option Playing) → ((x : Playing) → o ≡ Some x → Comes program c received records x) → option_map (λ x. told (stands_at (record { forced = records; buffered = [] }) x) (needed_fetch c x.rest) nothing_at_all) o ≡ Some t → StepKept program c sent received t
    done None come f = absurd (none-some t f)
    done (Some x) come f =
        let y = come x refl in
        subst (StepKept program c sent received) (same_Some _ t f) (stands-kept program c sent received records x.vol x.rest y.played y.plays y.is y.waits logs)

    from : (o : Option Vol) (back : List Record) → start_at program c (last_image records) ≡ o → behind_checkpoint records ≡ back → option_map (λ x. told (stands_at (record { forced = records; buffered = [] }) x) (needed_fetch c x.rest) nothing_at_all) (option_and_then (λ v. play_records program c v back) o) ≡ Some t
    from o back a b = ap (λ l. option_map (λ x. told (stands_at (record { forced = records; buffered = [] }) x) (needed_fetch c x.rest) nothing_at_all) (option_and_then (λ v. play_records program c v l) o)) (sym b)
        ∙ ap (λ u. option_map (λ x. told (stands_at (record { forced = records; buffered = [] }) x) (needed_fetch c x.rest) nothing_at_all) (option_and_then (λ v. play_records program c v (behind_checkpoint records)) u)) (sym a) ∙ e

    fresh : NoImage records → StepKept program c sent received t
    fresh n = done (play_records program c (first_vol program c) records)
        (λ x f. comes program c received records no_end logs.whole.replays (first_vol program c) [] records x (first-plays program c received records) refl n.none f)
        (from (Some (first_vol program c)) records (ap (start_at program c) n.last) n.behind)

    imaged : AtImage records → StepKept program c sent received t
    imaged a = read (read_image program c a.image) refl
      where
        read : (o : Option Vol) → read_image program c a.image ≡ o → StepKept program c sent received t
        read None f = absurd (none-some t (from None a.post (ap (start_at program c) a.last ∙ f) a.behind))
        read (Some v) f = done (play_records program c v a.post)
            (λ x k. comes program c received records no_end logs.whole.replays v (a.pre ++ Checkpoint a.image ∷ []) a.post x (image-plays program c sent received records v a reads logs f) (a.is ∙ sym (append_assoc a.pre (Checkpoint a.image ∷ []) a.post)) a.none_behind k)
            (from (Some v) a.post (ap (start_at program c) a.last ∙ f) a.behind)

    by : NoImage records ⊎ AtImage records → StepKept program c sent received t
    by (inl n) = fresh n
    by (inr a) = imaged a

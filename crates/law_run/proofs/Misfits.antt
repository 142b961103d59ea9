-- Records that a replay takes hold no misfit for a recovery, nor for a replay that is fed.
use Rattle.std.proofs.Common.{◌≡◌, refl, ◌∙◌, ap, sym, subst, ℕ, suc, ◌≤◌, nat_le, Bool, true, false, cond, List, [], ◌∷◌, ◌++◌, map, Option, Some, None, option_map, is_none, is_some}
use Rattle.std.specs.Prelude.{IsSome}
use Rattle.std.specs.List.{AllByRecursion, list_all}
use Rattle.std.proofs.lemmas.List.{append-nil, append_assoc}
use Rattle.std.proofs.lemmas.Option.{same_Some}
use Rattle.ic_base.specs.declared.limits.TheConstants.{GREATEST_NUMBER}
use Rattle.ic_base.specs.declared.messages.ComId.{ComId}
use Rattle.ic_base.specs.declared.messages.Msg.{Msg}
use Rattle.ic_base.specs.declared.scenario.Program.{Program}
use Rattle.ic_base.specs.declared.record.Record.{Record}
use Rattle.ic_base.specs.declared.record.Record.TheVariants.{Take, TakeWhole, Input, Value, Outcome, Released, Shown, Checkpoint, Epoch, Decided}
use Rattle.def_log.specs.Spelling.{Fits}
use Rattle.def_plain.specs.Cell.{TakesMessage}
use Rattle.def_state.specs.Names.{Identity, same_identity}
use Rattle.def_state.specs.Fits.{fits}
use Rattle.def_state.specs.Image.{read_image}
use Rattle.def_state.specs.Hist.{Hist, Contents, apply, apply_all, after, first_hist, recorded, played_on, standing_of}
use Rattle.def_state.specs.Mirrors.{Mirrors}
use Rattle.def_state.specs.Txn.{Txn}
use Rattle.def_state.specs.Vol.{Vol, first_vol, standing, record_in, numbers_fit}
use Rattle.def_step.specs.Replay.{waits_for, image_in, image_or, has_image, last_image, behind_checkpoint, start_at, misfit_at, misfit_behind, misfit_from, misfit_fed, recovery_misfit, misfit_of}
use Rattle.def_step.specs.Pcom.{is_needed}
use Rattle.def_facts.specs.Playable.{IsPlayable}
use Rattle.law_run.specs.ProgramBytes.{HasBytes}
use Rattle.law_run.proofs.Hists.{HistFits, ContentsFit, hist_fits, begun-low, made-low}
use Rattle.law_pcom.specs.Mirroring.{IsContentOf}
use Rattle.law_pcom.proofs.Ending.{no_part_ends}
use Rattle.law_pcom.proofs.Living.{lives}
use Rattle.law_pcom.proofs.Playing.{records_mirror}
use Rattle.law_pcom.proofs.Plays.{not-take}
use Rattle.law_pcom.proofs.Standing.{fits_both}
use Rattle.law_replay.proofs.Firsts.{first-mirrors}
use Rattle.law_replay.proofs.Growing.{apply_none, applied_twice}
use Rattle.law_replay.proofs.Lists.{none-some, true-false, some-of, both-true, le-true, passed, same-identity}
use Rattle.law_settle.proofs.Walks.{all-front}

-- what records behind others make of the state that those give
pub record Replayed (program : Program) (c : ComId) (k : Contents) (played rs : List Record) (h : Hist) : Type 0 where
  pub bytes : HasBytes program
  pub good : IsPlayable program
  pub contents : ContentsFit k
  pub fit : AllByRecursion Fits (played ++ rs)
  pub is : after program c k played ≡ Some h
  pub takes : IsSome (apply_all program c k (Some h) rs)

-- numbers -----------------------------------------------------------------------------------------

low-links : (xs : List (ComId × ℕ)) → AllByRecursion (λ x. x.1 ≤ GREATEST_NUMBER) xs → list_all (λ n. nat_le n GREATEST_NUMBER) (map (λ x. x.1) xs) ≡ true
low-links [] h = refl
low-links (x ∷ xs) h = both-true (nat_le x.1 GREATEST_NUMBER) _ (le-true x.1 GREATEST_NUMBER h.0) (low-links xs h.1)

low-numbers : (program : Program) (c : ComId) (v : Vol) (h : Hist) → HistFits program c h → Mirrors v h → numbers_fit v ≡ true
low-numbers program c v h x m =
    both-true (nat_le v.clock GREATEST_NUMBER) _ (le-true v.clock GREATEST_NUMBER (subst (λ n. n ≤ GREATEST_NUMBER) (sym m.clock) x.clock))
    (both-true (nat_le v.shelf.made GREATEST_NUMBER) _ (le-true v.shelf.made GREATEST_NUMBER (subst (λ n. n ≤ GREATEST_NUMBER) (sym m.made) (made-low h x.numbers)))
    (both-true (nat_le v.txn.begun GREATEST_NUMBER) _ (le-true v.txn.begun GREATEST_NUMBER (subst (λ (t : Txn). t.begun ≤ GREATEST_NUMBER) (sym m.txn) (begun-low h x.numbers)))
    (low-links v.outbox.links (subst (λ l. AllByRecursion (λ (y : ComId × ℕ). y.1 ≤ GREATEST_NUMBER) l) (sym m.links) x.links))))

-- one record --------------------------------------------------------------------------------------

-- the next record is taken, and then the others
pub record NextOf (program : Program) (c : ComId) (k : Contents) (played : List Record) (r : Record) (rs : List Record) (h : Hist) : Type 0 where
  pub next : Hist
  pub applied : apply program c k h r ≡ Some next
  pub is_fit : fits program c (standing_of program c h) r ≡ true
  pub then : Replayed program c k (played ++ r ∷ []) rs next

pub next-of : (program : Program) (c : ComId) (k : Contents) (played : List Record) (r : Record) (rs : List Record) (h : Hist) → Replayed program c k played (r ∷ rs) h → NextOf program c k played r rs h
next-of program c k played r rs h x = at (apply program c k h r) refl x.takes
  where
    at : (o : Option Hist) → apply program c k h r ≡ o → IsSome (apply_all program c k o rs) → NextOf program c k played r rs h
    at None e some = let y = some-of (apply_all program c k None rs) some in none-some y.0 (sym (apply_none program c k rs) ∙ y.1)
    at (Some g) e some = record {
      next = g;
      applied = e;
      is_fit = (passed (fits program c (standing_of program c h) r) (recorded program c k h r) g e).0;
      then = record {
        bytes = x.bytes;
        good = x.good;
        contents = x.contents;
        fit = subst (AllByRecursion Fits) (sym (append_assoc played (r ∷ []) rs)) x.fit;
        is = applied_twice program c k (Some (first_hist program c)) played (r ∷ []) ∙ ap (λ o. apply_all program c k o (r ∷ [])) x.is ∙ e;
        takes = some;
      };
    }

pub state-fits : (program : Program) (c : ComId) (k : Contents) (played rs : List Record) (h : Hist) → Replayed program c k played rs h → HistFits program c h
state-fits program c k played rs h x = hist_fits program c k played h x.bytes x.good x.contents (all-front Fits played rs x.fit) x.is

-- a replay ----------------------------------------------------------------------------------------

behind-none : (v : Vol) (later : Option ℕ) → numbers_fit v ≡ true → later ≡ None → misfit_behind v later ≡ None
behind-none v later e f = ap (λ b. cond b (option_map suc later) (Some 0)) e ∙ ap (option_map suc) f

-- records are played until one waits, and none is a misfit
pub none-misfits : (program : Program) (c : ComId) (k : Contents) (v : Vol) (played rs : List Record) (h : Hist) → Replayed program c k played rs h → Mirrors v h → misfit_from program c v rs ≡ None
none-misfits program c k v played [] h x m = refl
none-misfits program c k v played (r ∷ rs) h x m =
    let n = next-of program c k played r rs h x in
    at n (is_some (waits_for r)) refl (λ w f. none-misfits program c k w (played ++ r ∷ []) rs n.next n.then f)
  where
    fit : (n : NextOf program c k played r rs h) → fits program c (standing program c v) r ≡ true
    fit n = fits_both program c v h r m ∙ n.is_fit

    at : (n : NextOf program c k played r rs h) (b : Bool) → is_some (waits_for r) ≡ b → ((w : Vol) → Mirrors w n.next → misfit_from program c w rs ≡ None) → misfit_at program c v r (misfit_from program c (record_in program c 0 None v r) rs) ≡ None
    at n true e more =
        let later = misfit_from program c (record_in program c 0 None v r) rs in
        ap (λ b. cond b (cond (is_some (waits_for r)) None (misfit_behind (record_in program c 0 None v r) later)) (Some 0)) (fit n)
        ∙ ap (λ b. cond b None (misfit_behind (record_in program c 0 None v r) later)) e
    at n false e more =
        let later = misfit_from program c (record_in program c 0 None v r) rs in
        let w = record_in program c 0 None v r in
        let mirrors = records_mirror program c 0 k None v h n.next r (no_part_ends program) (lives program c k played h x.is).sits (not-take k r e) m n.applied in
        ap (λ b. cond b (cond (is_some (waits_for r)) None (misfit_behind w later)) (Some 0)) (fit n)
        ∙ ap (λ b. cond b None (misfit_behind w later)) e
        ∙ behind-none w later (low-numbers program c w n.next (state-fits program c k (played ++ r ∷ []) rs n.next n.then) mirrors) (more w mirrors)

abbrev identity_named : ComId → ℕ → Identity
identity_named from k = record { peer = from; k = k }

-- the Take that a fed message answers, where the message is the only one of its identity
content-of : (program : Program) (c : ComId) (k : Contents) (h g : Hist) (m : Msg) (r : Record) (rs : List Record) → ((n : Msg) → k m.from m.k ≡ Some n → n ≡ m) → is_needed (r ∷ rs) m ≡ true → apply program c k h r ≡ Some g → IsContentOf k r (Some m)
content-of program c k h g m (Take from n stamp) rs only e f = named (same_identity (record { peer = from; k = n }) (record { peer = m.from; k = m.k })) refl e
  where
    there : (o : Option Msg) → k from n ≡ o → played_on program c h stamp (option_map (λ x. TakesMessage from n x.handler x.args) o) ≡ Some g → ((x : Msg) → o ≡ Some x → x ≡ m) → k from n ≡ Some m
    there None is z own = none-some g z
    there (Some x) is z own = is ∙ ap Some (own x refl)

    named : (b : Bool) → same_identity (record { peer = from; k = n }) (record { peer = m.from; k = m.k }) ≡ b → is_some (cond b (Some (identity_named from n)) None) ≡ true → k from n ≡ Some m
    named true same z =
        let y = same-identity (record { peer = from; k = n }) (record { peer = m.from; k = m.k }) same in
        there (k from n) refl (passed (fits program c (standing_of program c h) (Take from n stamp)) (recorded program c k h (Take from n stamp)) g f).1 (λ x is. only x (ap (λ (i : Identity). k i.peer i.k) (sym y) ∙ is))
    named false same z = true-false z
content-of program c k h g m (TakeWhole from n stamp handler args) rs only e f = tt
content-of program c k h g m (Input stamp handler args) rs only e f = tt
content-of program c k h g m (Value n place session value) rs only e f = tt
content-of program c k h g m (Outcome stamp n abort) rs only e f = tt
content-of program c k h g m (Released to n) rs only e f = tt
content-of program c k h g m (Shown n) rs only e f = tt
content-of program c k h g m (Checkpoint image) rs only e f = tt
content-of program c k h g m (Epoch epoch) rs only e f = tt
content-of program c k h g m (Decided stamp d n writes) rs only e f = tt

-- a waiting Take that is fed its message is none, nor is one behind it
pub none-fed : (program : Program) (c : ComId) (k : Contents) (v : Vol) (msg : Msg) (played rs : List Record) (h : Hist) → Replayed program c k played rs h → Mirrors v h → ((n : Msg) → k msg.from msg.k ≡ Some n → n ≡ msg) → is_needed rs msg ≡ true → misfit_fed program c v msg rs ≡ None
none-fed program c k v msg played [] h x m only need = refl
none-fed program c k v msg played (r ∷ rs) h x m only need =
    let n = next-of program c k played r rs h x in
    let w = record_in program c 0 (Some msg) v r in
    let mirrors = records_mirror program c 0 k (Some msg) v h n.next r (no_part_ends program) (lives program c k played h x.is).sits (content-of program c k h n.next msg r rs only need n.applied) m n.applied in
    behind-none w (misfit_from program c w rs) (low-numbers program c w n.next (state-fits program c k (played ++ r ∷ []) rs n.next n.then) mirrors) (none-misfits program c k w (played ++ r ∷ []) rs n.next n.then mirrors)

-- a recovery --------------------------------------------------------------------------------------

-- where a recovery begins: before all records, or behind the last image
abbrev Begins : List Record → Option (List ℕ) → Type 0
Begins log None = (has_image log ≡ false) × (behind_checkpoint log ≡ log)
Begins log (Some image) = (pre : List Record) × (has_image log ≡ true) × (log ≡ pre ++ Checkpoint image ∷ behind_checkpoint log)

begins : (log : List Record) → Begins log (last_image log)
begins [] = (refl, refl)
begins (r ∷ rs) = at (last_image rs) (begins rs)
  where
    none : (x : Record) → image_in x ≡ None → Begins rs None → Begins (x ∷ rs) (image_or None (image_in x))
    none x e n = subst (λ o. Begins (x ∷ rs) (image_or None o)) (sym e) (
      ap (λ o. cond (is_some o) true (has_image rs)) e ∙ n.0,
      ap (λ b. cond b (behind_checkpoint rs) (cond (is_some (image_in x)) rs (x ∷ rs))) n.0 ∙ ap (λ o. cond (is_some o) rs (x ∷ rs)) e,
    )

    here : (x : Record) → Begins rs None → Begins (x ∷ rs) (image_or None (image_in x))
    here (Checkpoint image) n = ([], refl, ap (λ l. Checkpoint image ∷ l) (ap (λ b. cond b (behind_checkpoint rs) rs) (sym n.0)))
    here (Take s k stamp) n = none (Take s k stamp) refl n
    here (TakeWhole s k stamp handler args) n = none (TakeWhole s k stamp handler args) refl n
    here (Input stamp handler args) n = none (Input stamp handler args) refl n
    here (Value m place session value) n = none (Value m place session value) refl n
    here (Outcome stamp m abort) n = none (Outcome stamp m abort) refl n
    here (Released to k) n = none (Released to k) refl n
    here (Shown m) n = none (Shown m) refl n
    here (Epoch epoch) n = none (Epoch epoch) refl n
    here (Decided stamp d m writes) n = none (Decided stamp d m writes) refl n

    either : (b : Bool) → cond b true true ≡ true
    either true = refl
    either false = refl

    at : (o : Option (List ℕ)) → Begins rs o → Begins (r ∷ rs) (image_or o (image_in r))
    at None n = here r n
    at (Some image) n = (
      r ∷ n.0,
      ap (λ b. cond (is_some (image_in r)) true b) n.1 ∙ either (is_some (image_in r)),
      ap (λ l. r ∷ l) n.2 ∙ ap (λ l. r ∷ n.0 ++ Checkpoint image ∷ l) (ap (λ b. cond b (behind_checkpoint rs) (cond (is_some (image_in r)) rs (r ∷ rs))) (sym n.1)),
    )

-- the first of the records behind are played
played-more : (program : Program) (c : ComId) (k : Contents) (played pre rs : List Record) (h : Hist) → Replayed program c k played (pre ++ rs) h → (g : Hist) × Replayed program c k (played ++ pre) rs g
played-more program c k played [] rs h x = (h, subst (λ l. Replayed program c k l rs h) (sym (append-nil played)) x)
played-more program c k played (r ∷ pre) rs h x =
    let n = next-of program c k played r (pre ++ rs) h x in
    let y = played-more program c k (played ++ r ∷ []) pre rs n.next n.then in (y.0, subst (λ l. Replayed program c k l rs y.0) (append_assoc played (r ∷ []) pre) y.1)

-- each image is read, as the state of the records before it
abbrev pub AreRead : Program → ComId → Contents → List Record → Type 0
AreRead program c k log = (pre post : List Record) (image : List ℕ) (h : Hist) → log ≡ pre ++ Checkpoint image ∷ post → after program c k pre ≡ Some h → is_none h.plain.hand ≡ true → (v : Vol) × (read_image program c image ≡ Some v) × Mirrors v h

pub recovers-well : (program : Program) (c : ComId) (k : Contents) (log : List Record) → Replayed program c k [] log (first_hist program c) → AreRead program c k log → misfit_of program c log ≡ None
recovers-well program c k log x read = at (last_image log) (begins log)
  where
    from : (v : Vol) → misfit_from program c v (behind_checkpoint log) ≡ None → recovery_misfit program c log (Some v) ≡ None
    from v e = ap (option_map _) e

    at : (o : Option (List ℕ)) → Begins log o → recovery_misfit program c log (start_at program c o) ≡ None
    at None n = from (first_vol program c) (ap (misfit_from program c (first_vol program c)) n.1 ∙ none-misfits program c k (first_vol program c) [] log (first_hist program c) x (first-mirrors program c))
    at (Some image) n =
        let rs = behind_checkpoint log in
        let y = played-more program c k [] n.0 (Checkpoint image ∷ rs) (first_hist program c) (subst (λ l. Replayed program c k [] l (first_hist program c)) n.2 x) in
        let z = next-of program c k n.0 (Checkpoint image) rs y.0 y.1 in
        let same : y.0 ≡ z.next = same_Some y.0 z.next (passed (fits program c (standing_of program c y.0) (Checkpoint image)) (recorded program c k y.0 (Checkpoint image)) z.next z.applied).1 in
        let v = read n.0 rs image y.0 n.2 y.1.is z.is_fit in
        ap (recovery_misfit program c log) v.1 ∙ from v.0 (none-misfits program c k v.0 (n.0 ++ Checkpoint image ∷ []) rs z.next z.then (subst (Mirrors v.0) same v.2))

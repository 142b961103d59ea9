-- The components that are made over the disks, one after another.
use Rattle.std.proofs.Common.{◌≡◌, ◌∙◌, sym, ap, subst, refl, ℕ, zero, suc, ◌+◌, ◌<◌, ◌≤◌, Bool, true, false, ◌⊎◌, inl, inr, ⊎_elim, List, [], ◌∷◌, ◌++◌, length, length-append, arith, Option, Some, None}
use Rattle.std.specs.Prelude.{slice_get, slice_set, drop, cond, not, is_some, option_to_list, option_map, reverse, unwrap_or, Result, Ok, Err, IfOk, IfErr}
use Rattle.std.proofs.lemmas.List.{append-nil, reverse-append, drop_all}
use Rattle.ic_base.specs.declared.messages.ComId.{ComId}
use Rattle.ic_base.specs.declared.record.Record.{Record}
use Rattle.ic_base.specs.declared.scenario.Component.{Component}
use Rattle.ic_base.specs.declared.scenario.Program.{Program}
use Rattle.ic_base.specs.declared.refusals.StartWhy.{StartWhy}
use Rattle.ic_base.specs.declared.refusals.StartWhy.TheVariants as starts
use Rattle.def_log.specs.Frame.{fingerprint_in, owner_in, IsForeign}
use Rattle.def_log.specs.Loads.{placed_log_for}
use Rattle.def_log.specs.Log.{log_of}
use Rattle.def_log.specs.Torn.{all_written}
use Rattle.def_run.specs.Openings.{IsStartRefused, IsToldFrom, if_disk, log_refusal, unless_blank, start_refusal, found_refusal}
use Rattle.def_run.specs.SystemStates.{file_in, has_disk, IsLog, KeepsLog}
use Rattle.def_step.specs.World.{External}
use Rattle.def_log.proofs.Moments.{started}
use Rattle.ic_disk.proofs.Disks.{Keeps-refl, Keeps-trans, crash_weaker, crash_then}
use Rattle.ic_disk.specs.Causes.{Rose}
use Rattle.ic_disk.specs.Disk.{Keeps, CrashLeaves}
use Rattle.ic_disk.specs.TornDisks.{Torn, TornBy}
use Rattle.ic_disk.specs.TornLaws.{may_none}
use Rattle.ic_disk.specs.declared.disk.Disk.{Ghosts}
use Rattle.ic_gate.specs.Refusals.{IsNotForeign}
use Rattle.ic_gate.specs.declared.refusals.LoadRefused.{LoadRefused}
use Rattle.ic_gate.specs.declared.refusals.LoadWhy.{LoadWhy}
use Rattle.ic_gate.specs.declared.refusals.LoadWhy.TheVariants as loads
use Rattle.ic_node.specs.Beginning.{Starts, IsFound, KeepsMade, LeavesMade, fails_to_start, FailsToStart, FailsToBeFound}
use Rattle.ic_node.specs.Loading.{fails_to_load}
use Rattle.ic_node.specs.Meeting.{kept_disk, left_disk}
use Rattle.ic_node.specs.Nodes.{node_with, disk_in, told_of}
use Rattle.ic_disk.specs.Torns.{torn}
use Rattle.ic_node.specs.Views.{node_of, disk_of, file_of, com_of, is_over, Tells}
use Rattle.ic_node.specs.declared.component.Component.{Component as Part}
use Rattle.ic_node.specs.declared.node.Node.{Node}
use Rattle.ic_node.specs.declared.node.Node.TheVariants.{Per, Tra, Off, Ext}
use Rattle.ic_world.specs.Opening.{is_outside, disks_in, places, inner_of, disks_under, start_why, AllTell, EachMeets, AllKept, LeavesNoMore, files_on, place_in, HasFailed, IsStartFailed}
use Rattle.ic_world.specs.Making.{IsOnlyRead, MayBeginAt, MayBeginOver, KeepsBy, BeginsAs, IsMadeOn, IsMadeOver, FailsOver, is_fault, is_log_cause, is_cause, IsPlaced, Stands, AreMade, refusal_over, FailsAt}
use Rattle.ic_world.specs.declared.making.Beginning.{Beginning}
use Rattle.ic_world.specs.declared.making.Beginning.TheVariants.{Fresh, Found}
use Rattle.ic_world.proofs.Lists.{nil-of, get-there, get-behind, get-within, get-map, same-com}
use Rattle.ic_world.proofs.Places.{disks-split, same-some, snoc-get, from-drop, next-drop, at-drop, places-step, enough-step, has-at, places-in, places-count, file_at, files-so, told-first, told-from, untold-all}
use Rattle.ic_world.proofs.Refused.{told_foreign, told_bad, told_none, own_log, own_if_disk}

append-twice : {X : Type 0} (xs ys zs : List X) → (xs ++ ys) ++ zs ≡ xs ++ (ys ++ zs)
append-twice [] ys zs = refl
append-twice (x ∷ xs) ys zs = ap (λ l. x ∷ l) (append-twice xs ys zs)

pub reverse-twice : {X : Type 0} (xs : List X) → reverse (reverse xs) ≡ xs
reverse-twice [] = refl
reverse-twice (x ∷ xs) = ap reverse (reverse-append (x ∷ []) xs) ∙ reverse-append (reverse xs) (x ∷ []) ∙ ap (λ l. x ∷ l) (reverse-twice xs)

-- what is put behind the first disks, one after another
pub put-behind : {X : Type 0} (first under rest taken pushed back : List X) (inner disk : X) → first ≡ [] → taken ≡ first ++ under → pushed ≡ taken ++ inner ∷ [] → back ≡ pushed ++ rest → inner ≡ disk → back ≡ under ++ disk ∷ rest
put-behind first under rest taken pushed back inner disk none t p b same =
    b ∙ ap (λ l. l ++ rest) (p ∙ ap (λ l. l ++ inner ∷ []) (t ∙ ap (λ l. l ++ under) none)) ∙ append-twice under (inner ∷ []) rest ∙ ap (λ i. under ++ i ∷ rest) same

pub popped : {X : Type 0} (all left : List X) (o : Option X) (x : X) → all ≡ left ++ option_to_list o → o ≡ Some x → all ≡ left ++ x ∷ []
popped all left o x e is = e ∙ ap (λ p. left ++ option_to_list p) is

-- the last one that is left goes behind the others
pub put-step : {X : Type 0} (back pushed all left : List X) (x : X) → pushed ≡ back ++ x ∷ [] → all ≡ left ++ x ∷ [] → pushed ++ reverse left ≡ back ++ reverse all
put-step back pushed all left x p e =
    ap (λ l. l ++ reverse left) p ∙ append-twice back (x ∷ []) (reverse left) ∙ ap (λ l. back ++ l) (sym (ap reverse e ∙ reverse-append left (x ∷ [])))

pub put-end : {X : Type 0} (back rest all : List X) → back ++ reverse rest ≡ all → length rest ≡ 0 → back ≡ all
put-end back rest all e none = sym (append-nil back) ∙ ap (λ l. back ++ reverse l) (sym (nil-of rest none)) ∙ e

none-of : (h : Bool) → cond {A = Option StartWhy} h None None ≡ None
none-of true = refl
none-of false = refl

-- what each meets in its place
module _ {D : Type 0} (P : D → D → Type 0) where
  each-all : ((x : D) → P x x) → (xs : List D) → EachMeets P xs xs
  each-all same [] = tt
  each-all same (x ∷ xs) = (same x, each-all same xs)

  each-step : ((x y z : D) → P x y → P y z → P x z) → (ds xs ys : List D) (d e : D) → EachMeets P ds (xs ++ d ∷ ys) → P d e → EachMeets P ds (xs ++ e ∷ ys)
  each-step on [] [] ys d e h k = absurd h
  each-step on (z ∷ ds) [] ys d e h k = (on z d e h.0 k, h.1)
  each-step on [] (x ∷ xs) ys d e h k = absurd h
  each-step on (z ∷ ds) (x ∷ xs) ys d e h k = (h.0, each-step on ds xs ys d e h.1 k)

  each-set : ((x y z : D) → P x y → P y z → P x z) → (ds xs : List D) (n : ℕ) (d e : D) → EachMeets P ds xs → slice_get xs n ≡ Some d → P d e → EachMeets P ds (slice_set xs n e)
  each-set on [] [] n d e h at k = tt
  each-set on (y ∷ ds) (x ∷ xs) zero d e h at k = (on y d e (subst (λ z. P y z) (same-some x d at) h.0) k, h.1)
  each-set on (y ∷ ds) (x ∷ xs) (suc n) d e h at k = (h.0, each-set on ds xs n d e h.1 at k)
  each-set on [] (x ∷ xs) n d e h at k = absurd h
  each-set on (y ∷ ds) [] n d e h at k = absurd h

  pub each-at : (xs ys : List D) → EachMeets P xs ys → (k : ℕ) (old new : D) → slice_get xs k ≡ Some old → slice_get ys k ≡ Some new → P old new
  each-at [] [] h k old new e f = absurd (cc)
  each-at (x ∷ xs) (y ∷ ys) h zero old new e f = subst (λ u. P u new) (same-some x old e) (subst (λ v. P x v) (same-some y new f) h.0)
  each-at (x ∷ xs) (y ∷ ys) h (suc k) old new e f = each-at xs ys h.1 k old new e f
  each-at [] (y ∷ ys) h k old new e f = absurd h
  each-at (x ∷ xs) [] h k old new e f = absurd h

  pub each-count : (xs ys : List D) → EachMeets P xs ys → length xs ≡ length ys
  each-count [] [] h = refl
  each-count (x ∷ xs) (y ∷ ys) h = ap suc (each-count xs ys h.1)
  each-count [] (y ∷ ys) h = absurd h
  each-count (x ∷ xs) [] h = absurd h

  -- they take as much room as those that were given
  pub each-room : (ds xs ys : List D) (d : D) → EachMeets P ds (xs ++ d ∷ ys) → length xs + (1 + length ys) ≡ length ds
  each-room ds xs ys d h = omega (arith, each-count ds (xs ++ d ∷ ys) h, length-append xs (d ∷ ys))

  each-weaker : (Q : D → D → Type 0) → ((x y : D) → P x y → Q x y) → (xs ys : List D) → EachMeets P xs ys → EachMeets Q xs ys
  each-weaker Q so [] [] h = tt
  each-weaker Q so (x ∷ xs) (y ∷ ys) h = (so x y h.0, each-weaker Q so xs ys h.1)
  each-weaker Q so [] (y ∷ ys) h = absurd h
  each-weaker Q so (x ∷ xs) [] h = absurd h

module _ {D : Type 0} (b : Ghosts D) where
  -- the disks that are handed back
  pub kept-count : (xs ys : List D) → AllKept b xs ys → length xs ≡ length ys
  kept-count = each-count (Keeps b)

  pub kept-at : (xs ys : List D) → AllKept b xs ys → (k : ℕ) (old new : D) → slice_get xs k ≡ Some old → slice_get ys k ≡ Some new → Keeps b old new
  kept-at = each-at (Keeps b)

  pub kept-all : (xs : List D) → AllKept b xs xs
  kept-all = each-all (Keeps b) (λ x. Keeps-refl x)

  -- disks that are only read, and then more is done
  pub leaves-then : (x y z : D) → IsOnlyRead b x y → LeavesNoMore b y z → LeavesNoMore b x z
  leaves-then x y z h l = crash_then h.0 h.1 (crash_weaker (λ keeps image may. h.1.behind (h.0.keeps.1 keeps) image may) l)

  pub read-none : ((disk : D) (image : List ℕ) → b.keeps disk → b.left_since disk (b.moment disk) image → b.may_leave disk image) → (x : D) → IsOnlyRead b x x
  read-none only_now x = (Keeps-refl x, record { any_moment = λ keeps. started b.moment b.left_since x (b.may_leave x) (λ image left. only_now x image keeps left); behind = λ keeps image may. may })

  read-then : (x y z : D) → IsOnlyRead b x y → IsOnlyRead b y z → IsOnlyRead b x z
  read-then x y z h k = (Keeps-trans h.0 k.0, leaves-then x y z h k.1)

  pub read-set : (ds xs : List D) (n : ℕ) (d e : D) → EachMeets (IsOnlyRead b) ds xs → slice_get xs n ≡ Some d → IsOnlyRead b d e → EachMeets (IsOnlyRead b) ds (slice_set xs n e)
  read-set = each-set (IsOnlyRead b) read-then

  -- the same of each way to begin
  keeps-of : (way : Beginning) (x y : D) → KeepsBy b way x y → Keeps b x y
  keeps-of Fresh x y h = h
  keeps-of Found x y h = h.0

  pub by-kept : (way : Beginning) (xs ys : List D) → EachMeets (KeepsBy b way) xs ys → AllKept b xs ys
  by-kept way = each-weaker (KeepsBy b way) (Keeps b) (keeps-of way)

  pub by-found : (xs ys : List D) → EachMeets (KeepsBy b Found) xs ys → EachMeets (LeavesNoMore b) xs ys
  by-found = each-weaker (KeepsBy b Found) (LeavesNoMore b) (λ x y h. h.1)

  pub by-all : ((disk : D) (image : List ℕ) → b.keeps disk → b.left_since disk (b.moment disk) image → b.may_leave disk image) → (way : Beginning) (xs : List D) → EachMeets (KeepsBy b way) xs xs
  by-all only_now way = each-all (KeepsBy b way) (by way)
    where
      by : (w : Beginning) (x : D) → KeepsBy b w x x
      by Fresh x = Keeps-refl x
      by Found x = read-none only_now x

  by-step : (way : Beginning) (ds xs ys : List D) (d e : D) → EachMeets (KeepsBy b way) ds (xs ++ d ∷ ys) → KeepsBy b way d e → EachMeets (KeepsBy b way) ds (xs ++ e ∷ ys)
  by-step way = each-step (KeepsBy b way) (by way)
    where
      by : (w : Beginning) (x y z : D) → KeepsBy b w x y → KeepsBy b w y z → KeepsBy b w x z
      by Fresh x y z h k = Keeps-trans h k
      by Found x y z h k = read-then x y z h k

  pub kept-trans : (xs ys zs : List D) → AllKept b xs ys → AllKept b ys zs → AllKept b xs zs
  kept-trans [] [] [] h k = tt
  kept-trans (x ∷ xs) (y ∷ ys) (z ∷ zs) h k = (Keeps-trans h.0 k.0, kept-trans xs ys zs h.1 k.1)
  kept-trans [] (y ∷ ys) zs h k = absurd h
  kept-trans (x ∷ xs) [] zs h k = absurd h
  kept-trans [] [] (z ∷ zs) h k = absurd k
  kept-trans (x ∷ xs) (y ∷ ys) [] h k = absurd k

  -- a disk that was kept before it failed has failed since then
  pub fault-since : (first old new : D) → Keeps b first old → Rose (b.faults old) (b.faults new) ⊎ b.stopped new → Rose (b.faults first) (b.faults new) ⊎ b.stopped new
  fault-since first old new kept (inl rose) = inl (let later : b.faults first ≤ b.faults old = kept.later in omega arith)
  fault-since first old new kept (inr stopped) = inr stopped

  -- they tell their bytes where the first ones do
  pub kept-tell : (xs ys : List D) → AllKept b xs ys → AllTell b xs → AllTell b ys
  kept-tell xs ys kept all k y at =
      let x = get-there xs k (omega (arith, get-within ys k y at, kept-count xs ys kept)) in
      (kept-at xs ys kept k x.0 y x.1 at).tells.0 (all k x.0 x.1)

  pub under-snoc : (xs : List (Part (Torn D) (torn b))) (x : Part (Torn D) (torn b)) → disks_under (xs ++ x ∷ []) ≡ disks_under xs ++ inner_of (disk_of x)
  under-snoc [] x = append-nil (inner_of (disk_of x))
  under-snoc (y ∷ xs) x = ap (λ l. inner_of (disk_of y) ++ l) (under-snoc xs x) ∙ sym (append-twice (inner_of (disk_of y)) (disks_under xs) (inner_of (disk_of x)))

  no-disk-in : (kept : List Record) (n : Node (Torn D) (torn b)) → node_with kept n ≡ External → disk_in n ≡ None
  no-disk-in kept (Per p) e = absurd (cc)
  no-disk-in kept (Tra t) e = absurd (cc)
  no-disk-in kept (Off disk) e = absurd (cc)
  no-disk-in kept Ext e = refl

  pub no-disk : (x : Part (Torn D) (torn b)) → node_of x ≡ External → disk_of x ≡ None
  no-disk x e = no-disk-in x.kept x.node e

  under-more : (made : List (Part (Torn D) (torn b))) (x : Part (Torn D) (torn b)) (rest : List D) (o : Option (Torn D)) → disk_of x ≡ o → disks_under made ++ (inner_of o ++ rest) ≡ disks_under (made ++ x ∷ []) ++ rest
  under-more made x rest o is =
      ap (λ p. disks_under made ++ (inner_of p ++ rest)) (sym is)
      ∙ sym (append-twice (disks_under made) (inner_of (disk_of x)) rest)
      ∙ ap (λ l. l ++ rest) (sym (under-snoc made x))

  stands-kept : (way : Beginning) (program : Program) (ds : List D) (made : List (Part (Torn D) (torn b))) (c : ComId) (print : List ℕ) (place : Option D) (x : Part (Torn D) (torn b)) (rest : List D) → EachMeets (KeepsBy b way) ds (disks_under made ++ (option_to_list place ++ rest)) → IsMadeOver b way program c print place x → EachMeets (KeepsBy b way) ds (disks_under (made ++ x ∷ []) ++ rest)
  stands-kept way program ds made c print None x rest kept is = subst (λ l. EachMeets (KeepsBy b way) ds l) (under-more made x rest None (no-disk x is.node)) kept
  stands-kept way program ds made c print (Some d) x rest kept is = subst (λ l. EachMeets (KeepsBy b way) ds l) (under-more made x rest (Some is.disk) is.has) (by-step way ds (disks_under made) rest d is.disk.inner kept is.kept)

  -- the next disks stay as they were given
  stays-untouched : (way : Beginning) (program : Program) (ds : List D) (made : List (Part (Torn D) (torn b))) (c : ComId) (print : List ℕ) (place : Option D) (x : Part (Torn D) (torn b)) (rest left : List D) → drop (length (disks_under made)) ds ≡ rest → rest ≡ option_to_list place ++ left → IsMadeOver b way program c print place x → drop (length (disks_under (made ++ x ∷ []))) ds ≡ left
  stays-untouched way program ds made c print None x rest left before split is =
      let none : length (inner_of (disk_of x)) ≡ 0 = ap (λ o. length (inner_of o)) (no-disk x is.node) in
      let same : length (disks_under (made ++ x ∷ [])) ≡ length (disks_under made) = omega (arith, ap length (under-snoc made x), length-append (disks_under made) (inner_of (disk_of x)), none) in
      ap (λ n. drop n ds) same ∙ before ∙ split
  stays-untouched way program ds made c print (Some d) x rest left before split is =
      let one : length (inner_of (disk_of x)) ≡ 1 = ap (λ o. length (inner_of o)) is.has in
      let more : length (disks_under (made ++ x ∷ [])) ≡ length (disks_under made) + 1 = omega (arith, ap length (under-snoc made x), length-append (disks_under made) (inner_of (disk_of x)), one) in
      ap (λ n. drop n ds) more ∙ next-drop ds (length (disks_under made)) d left (before ∙ split)

  -- over a disk that is new, with nothing held
  module _ (program : Program) (c : ComId) (print : List ℕ) (t : Torn D) (old : D) (inner : t.inner ≡ old) (held : t.held ≡ []) where
    seen-so : (torn b).seen t ≡ b.seen old
    seen-so = ap (λ ws. all_written (b.seen t.inner) ws) held ∙ ap b.seen inner

    told-so : b.tells old → b.tells t.inner
    told-so h = subst (λ u. b.tells u) (sym inner) h

    kept-inner : (y : Torn D) → Keeps (torn b) t y → Keeps b old y.inner
    kept-inner y k = subst (λ u. Keeps b u y.inner) inner (record { tells = k.tells; keeps = k.keeps; later = k.later })

    -- what a crash may leave of it is what it may leave of the disk below
    left-inner : ((disk : D) → b.keeps disk → b.may_leave disk (b.seen disk)) → (y : Torn D) → CrashLeaves (torn b) t y ((torn b).may_leave t) → LeavesNoMore b old y.inner
    left-inner may_stay y l = subst (λ u. LeavesNoMore b u y.inner) inner (record {
      any_moment = λ keeps. record {
        later = (l.any_moment keeps).later;
        each = λ image left. below keeps image ((l.any_moment keeps).each image left);
        earlier = λ time image le left. ⊎_elim (λ was. inl was) (λ now. inr (below keeps image now)) ((l.any_moment keeps).earlier time image le left);
      };
      behind = λ keeps image may. below keeps image (l.behind keeps image (inr (image, may, may_none y.held image)));
    })
      where
        by : b.keeps t.inner → (image : List ℕ) → (image ≡ b.seen t.inner) ⊎ TornBy [] (b.may_leave t.inner) image → b.may_leave t.inner image
        by keeps image (inl is) = subst (b.may_leave t.inner) (sym is) (may_stay t.inner keeps)
        by keeps image (inr came) = subst (b.may_leave t.inner) (sym came.2) came.1

        below : b.keeps t.inner → (image : List ℕ) → (torn b).may_leave t image → b.may_leave t.inner image
        below keeps image may = by keeps image (subst (λ ws. (image ≡ all_written (b.seen t.inner) ws) ⊎ TornBy ws (b.may_leave t.inner) image) held may)

    -- what is met of the disk meanwhile, and what then stands below
    abbrev pub MetBy : Beginning → Option (Torn D) → Type 0
    MetBy Fresh o = kept_disk (torn b) (Some t) o
    MetBy Found o = kept_disk (torn b) (Some t) o × left_disk (torn b) (Some t) o ((torn b).may_leave t)

    met-inner : ((disk : D) → b.keeps disk → b.may_leave disk (b.seen disk)) → (way : Beginning) (y : Torn D) → MetBy way (Some y) → KeepsBy b way old y.inner
    met-inner may_stay Fresh y m = kept-inner y m
    met-inner may_stay Found y m = (kept-inner y m.0, left-inner may_stay y m.1)

    none-met : (way : Beginning) → MetBy way None → ⊥
    none-met Fresh m = m
    none-met Found m = m.0

    made-on : ((disk : D) → b.keeps disk → b.may_leave disk (b.seen disk)) → (way : Beginning) (x : Part (Torn D) (torn b)) → com_of x ≡ c → is_over x ≡ false → (Tells x → KeepsLog print c (file_of x) (Some (node_of x))) → BeginsAs b way program c print old x → (o : Option (Torn D)) → disk_of x ≡ o → MetBy way o → IsMadeOn b way program c print old x
    made-on may_stay way x which going logs begins None has met = absurd (none-met way met)
    made-on may_stay way x which going logs begins (Some y) has met = record { disk = y; which = which; going = going; has = has; kept = met-inner may_stay way y met; logs = logs; begins = begins }

    pub found-on : ((disk : D) → b.keeps disk → b.may_leave disk (b.seen disk)) → (x : Part (Torn D) (torn b)) → IsFound c print t x → MetBy Found (disk_of x) → IsMadeOn b Found program c print old x
    found-on may_stay x is =
        made-on may_stay Found x is.which is.going (λ told. subst (λ n. KeepsLog print c (file_of x) (Some n)) (sym is.down) (is.logs told))
        (record { records = is.records; down = is.down; read = λ h. ap log_of (sym seen-so) ∙ is.read (told-so h); bytes = λ h. is.bytes (told-so h) ∙ seen-so }) (disk_of x) refl

    pub started-on : ((disk : D) → b.keeps disk → b.may_leave disk (b.seen disk)) → (x : Part (Torn D) (torn b)) → Starts program c print x → MetBy Fresh (disk_of x) → IsMadeOn b Fresh program c print old x
    started-on may_stay x is = made-on may_stay Fresh x is.which is.going is.logs (record { first = is.first; fresh = is.fresh }) (disk_of x) refl

    rose : (m : ℕ) → Rose (b.faults t.inner) m → Rose (b.faults old) m
    rose m h = subst (λ (x : D). Rose (b.faults x) m) inner h

    found-cause : (new : Torn D) (why : LoadWhy) → fails_to_load b t print c.0 new why → is_log_cause b c print old new.inner why
    found-cause new (loads.Bad place) fails = λ h. let bad = fails (told-so h) in (ap (placed_log_for c.0) (sym seen-so) ∙ bad.0, subst (λ (l : List ℕ). IsNotForeign print l) seen-so bad.1)
    found-cause new (loads.Foreign own) fails = λ h. subst (λ (l : List ℕ). IsForeign print l own) seen-so (fails (told-so h))
    found-cause new loads.Failed fails = rose (b.faults new.inner) fails
    found-cause new loads.Stopped fails = fails
    found-cause new loads.Memory fails = tt

    start-cause : (new : Torn D) (why : LoadWhy) → fails_to_start b t new why → is_fault b old new.inner why
    start-cause new (loads.Bad place) fails = fails
    start-cause new (loads.Foreign own) fails = fails
    start-cause new loads.Failed fails = rose (b.faults new.inner) fails
    start-cause new loads.Stopped fails = fails
    start-cause new loads.Memory fails = tt

    pub not-found : (refused : LoadRefused (Torn D)) → FailsToBeFound b t print c.0 refused → is_cause b Found c print old refused.disk.inner refused.why
    not-found refused fails = found-cause refused.disk refused.why fails

    pub not-started : (refused : LoadRefused (Torn D)) → FailsToStart b t refused → is_cause b Fresh c print old refused.disk.inner refused.why
    not-started refused fails = start-cause refused.disk refused.why fails

    -- what a call tells of the disk
    abbrev pub Meets : Beginning → Result (Part (Torn D) (torn b)) (LoadRefused (Torn D)) → Type 0
    Meets Fresh r = KeepsMade t r
    Meets Found r = KeepsMade t r × LeavesMade t r

    met-ok : (way : Beginning) (x : Part (Torn D) (torn b)) → Meets way (Ok x) → MetBy way (disk_of x)
    met-ok Fresh x m = m
    met-ok Found x m = m

    met-err : (way : Beginning) (refused : LoadRefused (Torn D)) → Meets way (Err refused) → MetBy way (Some refused.disk)
    met-err Fresh refused m = m
    met-err Found refused m = m

    -- the component that was made over it, or why there is none
    module _ (way : Beginning) (place : Option D) (at : place ≡ Some old) where
      pub made-ok : (made : Part (Torn D) (torn b) → Type 0) → ((x : Part (Torn D) (torn b)) → made x → MetBy way (disk_of x) → IsMadeOn b way program c print old x) → (r : Result (Part (Torn D) (torn b)) (LoadRefused (Torn D))) → IfOk r made → Meets way r → IfOk r (IsMadeOver b way program c print place)
      made-ok made on (Ok x) step met = subst (λ (o : Option D). IsMadeOver b way program c print o x) (sym at) (on x step (met-ok way x met))
      made-ok made on (Err refused) step met = tt

      pub made-err : ((disk : D) → b.keeps disk → b.may_leave disk (b.seen disk)) → (fails : LoadRefused (Torn D) → Type 0) → ((refused : LoadRefused (Torn D)) → fails refused → is_cause b way c print old refused.disk.inner refused.why) → (r : Result (Part (Torn D) (torn b)) (LoadRefused (Torn D))) → IfErr r fails → Meets way r → IfErr r (FailsOver b way c print place)
      made-err may_stay fails cause (Ok x) is met = tt
      made-err may_stay fails cause (Err refused) is met = subst (λ (o : Option D). FailsOver b way c print o refused) (sym at) (met-inner may_stay way refused.disk (met-err way refused met), cause refused is)

  -- the last of these is taken back first
  pub under-last : (xs : List (Part (Torn D) (torn b))) (x : Part (Torn D) (torn b)) (all : List (Part (Torn D) (torn b))) → all ≡ xs ++ x ∷ [] → disks_under (reverse all) ≡ inner_of (disk_of x) ++ disks_under (reverse xs)
  under-last xs x all is = ap (λ l. disks_under (reverse l)) is ∙ ap (λ l. disks_under l) (reverse-append xs (x ∷ []))

  pub take-step : (back pushed : List D) (left made : List (Part (Torn D) (torn b))) (x : Part (Torn D) (torn b)) (o : Option (Torn D)) → made ≡ left ++ x ∷ [] → o ≡ disk_of x → pushed ≡ back ++ inner_of o → pushed ++ disks_under (reverse left) ≡ back ++ disks_under (reverse made)
  take-step back pushed left made x o m e p =
      ap (λ l. l ++ disks_under (reverse left)) p
      ∙ append-twice back (inner_of o) (disks_under (reverse left))
      ∙ ap (λ q. back ++ (inner_of q ++ disks_under (reverse left))) e
      ∙ ap (λ l. back ++ l) (sym (under-last left x made m))

  pub some-under : (left made : List (Part (Torn D) (torn b))) (x : Part (Torn D) (torn b)) (t : Torn D) → made ≡ left ++ x ∷ [] → disk_of x ≡ Some t → 0 < length (disks_under (reverse made))
  some-under left made x t m e =
      let same : disks_under (reverse made) ≡ t.inner ∷ disks_under (reverse left) = under-last left x made m ∙ ap (λ q. inner_of q ++ disks_under (reverse left)) e in
      omega (arith, ap length same)

  pub take-end : (back : List D) (made : List (Part (Torn D) (torn b))) (all : List D) → back ++ disks_under (reverse made) ≡ all → length made ≡ 0 → back ≡ all
  take-end back made all e none = sym (append-nil back) ∙ ap (λ l. back ++ disks_under (reverse l)) (sym (nil-of made none)) ∙ e

  module _ (way : Beginning) (program : Program) (print : List ℕ) (disks : List D) where
    pub stands-first : ((disk : D) (image : List ℕ) → b.keeps disk → b.left_since disk (b.moment disk) image → b.may_leave disk image) → length disks ≡ disks_in program.components → Stands b way program print disks [] disks
    stands-first only_now count = record { each = λ c x e. absurd (cc); left = refl; enough = count; kept = by-all only_now way disks; untouched = refl }

    -- the next component, over the next disk if it is to have one
    module _ (made : List (Part (Torn D) (torn b))) (rest : List D) (s : Stands b way program print disks made rest) (d : Component) (at : slice_get program.components (length made) ≡ Some d) (place : Option D) (left : List D) (split : rest ≡ option_to_list place ++ left) (fits : is_some place ≡ not (is_outside d.kind)) where
      abbrev here : ComId
      here = record { 0 = length made }

      place-here : drop (length made) (places program.components disks) ≡ place ∷ places (drop (length made + 1) program.components) left
      place-here =
          s.left
          ∙ ap (λ l. places l rest) (at-drop program.components (length made) d at)
          ∙ ap (λ r. places (d ∷ drop (length made + 1) program.components) r) split
          ∙ places-step d (drop (length made + 1) program.components) place left fits

      pub at-place : slice_get (places program.components disks) (length made) ≡ Some place
      at-place = from-drop (places program.components disks) (length made) place (places (drop (length made + 1) program.components) left) place-here

      pub has-here : is_some place ≡ has_disk program here
      has-here = has-at program here d (is_some place) at fits

      pub may-here : MayBeginOver b way disks → MayBeginAt b way place
      may-here may = by place at-place
        where
          by : (o : Option D) → slice_get (places program.components disks) (length made) ≡ Some o → MayBeginAt b way o
          by None is = tt
          by (Some old) is = let there = places-in program.components disks (length made) old is in may there.0 old there.1

      pub stands-step : (x : Part (Torn D) (torn b)) → IsMadeOver b way program here print place x → Stands b way program print disks (made ++ x ∷ []) left
      stands-step x is = record {
        each = λ c y e. by c y (snoc-get made x y c.0 e);
        left = subst (λ n. drop n (places program.components disks) ≡ places (drop n program.components) left) (sym count) (next-drop (places program.components disks) (length made) place (places (drop (length made + 1) program.components) left) place-here);
        enough = subst (λ n. length left ≡ disks_in (drop n program.components)) (sym count)
            (enough-step d (drop (length made + 1) program.components) place left fits (ap length (sym split) ∙ s.enough ∙ ap disks_in (at-drop program.components (length made) d at)));
        kept = stands-kept way program disks made here print place x left (subst (λ r. EachMeets (KeepsBy b way) disks (disks_under made ++ r)) split s.kept) is;
        untouched = stays-untouched way program disks made here print place x rest left s.untouched split is;
      }
        where
          count : length (made ++ x ∷ []) ≡ length made + 1
          count = omega (arith, length-append made (x ∷ []))

          by : (c : ComId) (y : Part (Torn D) (torn b)) → (slice_get made c.0 ≡ Some y) ⊎ ((c.0 ≡ length made) × (y ≡ x)) → IsPlaced b way program print disks c y
          by c y (inl h) = s.each c y h
          by c y (inr h) = subst (λ z. IsPlaced b way program print disks c z) (sym h.1) (subst (λ z. IsPlaced b way program print disks z x) (sym (same-com c here h.0)) (record { place = place; at = at-place; has = has-here; made = is }))

    pub all-made : (made : List (Part (Torn D) (torn b))) (rest : List D) → Stands b way program print disks made rest → length made ≡ length program.components → AreMade b way program print disks made
    all-made made rest s count =
        let none : length rest ≡ 0 = s.enough ∙ ap disks_in (drop_all (length made) program.components (omega (arith, count))) in
        record { count = count; kept = subst (λ l. EachMeets (KeepsBy b way) disks l) (ap (λ l. disks_under made ++ l) (nil-of rest none) ∙ append-nil (disks_under made)) s.kept; each = s.each }

  module _ (program : Program) (disks : List D) where
    pub file-there : (c : ComId) (o : Option D) → slice_get (places program.components disks) c.0 ≡ Some o → file_in (files_on b program disks) c ≡ file_at b.seen o
    file-there c o is =
        ap (λ l. unwrap_or (slice_get l c.0) []) (files-so b.seen program.components disks)
        ∙ ap (λ p. unwrap_or p []) (get-map (λ p. file_at b.seen p) (places program.components disks) c.0)
        ∙ ap (λ p. unwrap_or (option_map (λ q. file_at b.seen q) p) []) is

    pub tells-there : AllTell b disks → (c : ComId) (old : D) → slice_get (places program.components disks) c.0 ≡ Some (Some old) → b.tells old
    tells-there all c old is = let there = places-in program.components disks c.0 old is in all there.0 old there.1

  module _ (program : Program) (print : List ℕ) (disks : List D) where
    abbrev pub test : ComId → Option StartWhy
    test c = if_disk program c (log_refusal print c (file_in (files_on b program disks) c))

    pub tells-part : (way : Beginning) (c : ComId) (old : D) (x : Part (Torn D) (torn b)) → IsMadeOn b way program c print old x → b.tells old → Tells x
    tells-part way c old x is told = subst (λ (o : Option (Torn D)). told_of (torn b) o) (sym is.has) ((keeps-of way old is.disk.inner is.kept).tells.0 told)

    none-told : AllTell b disks → (c : ComId) (place : Option D) (x : Part (Torn D) (torn b)) → slice_get (places program.components disks) c.0 ≡ Some place → is_some place ≡ has_disk program c → IsMadeOver b Found program c print place x → test c ≡ None
    none-told all c None x at has is = ap (λ h. cond h (log_refusal print c (file_in (files_on b program disks) c)) None) (sym has)
    none-told all c (Some old) x at has is =
        let told = tells-there program disks all c old at in
        let logs : IsLog print c.0 (file_of x) is.begins.records = subst (λ n. KeepsLog print c (file_of x) (Some n)) is.begins.down (is.logs (tells-part Found c old x is told)) in
        ap (λ f. cond (has_disk program c) (log_refusal print c f) None) (file-there program disks c (Some old) at)
        ∙ ap (λ w. cond (has_disk program c) w None) (told_none print c (b.seen old) is.begins.records (is.begins.read told) (ap fingerprint_in (sym (is.begins.bytes told)) ∙ logs.own) (ap owner_in (sym (is.begins.bytes told)) ∙ logs.owned))
        ∙ none-of (has_disk program c)

    -- of blank disks nothing is told
    abbrev blank-test : ComId → Option StartWhy
    blank-test c = if_disk program c (unless_blank c (file_in (files_on b program disks) c))

    none-blank : AllTell b disks → MayBeginOver b Fresh disks → (c : ComId) (place : Option D) → slice_get (places program.components disks) c.0 ≡ Some place → blank-test c ≡ None
    none-blank all may c None at = ap (λ f. cond (has_disk program c) (unless_blank c f) None) (file-there program disks c None at) ∙ none-of (has_disk program c)
    none-blank all may c (Some old) at =
        let there = places-in program.components disks c.0 old at in
        ap (λ f. cond (has_disk program c) (unless_blank c f) None) (file-there program disks c (Some old) at ∙ may there.0 old there.1 (all there.0 old there.1)) ∙ none-of (has_disk program c)

    none-fresh : AllTell b disks → MayBeginOver b Fresh disks → (n : ℕ) (w : StartWhy) → start_refusal program (files_on b program disks) ≡ Some w → IsToldFrom n w
    none-fresh all may n w e = absurd (let none = untold-all blank-test program.components 0 (λ k l. let at = get-there (places program.components disks) k (omega (arith, l, places-count program.components disks)) in let same : 0 + k ≡ k = omega arith in ap (λ m. blank-test (record { 0 = m })) same ∙ none-blank all may (record { 0 = k }) at.0 at.1) in let f : ◌≡◌ {A = Option StartWhy} None (Some w) = sym none ∙ e in cc)

    -- why none is made over the next disk
    module _ (made : List (Part (Torn D) (torn b))) (rest : List D) (d : Component) (at : slice_get program.components (length made) ≡ Some d) (old : D) (left : List D) (split : rest ≡ old ∷ left) (fits : true ≡ not (is_outside d.kind)) where
      abbrev there : ComId
      there = record { 0 = length made }

      module _ (s : Stands b Found program print disks made rest) where
        place-is : slice_get (places program.components disks) (length made) ≡ Some (Some old)
        place-is = at-place Found program print disks made rest s d at (Some old) left split fits

        has-is : true ≡ has_disk program there
        has-is = has-here Found program print disks made rest s d at (Some old) left split fits

        first-is : AllTell b disks → (w : StartWhy) → log_refusal print there (b.seen old) ≡ Some w → found_refusal program print (files_on b program disks) ≡ Some w
        first-is all w is =
            told-first test program.components 0 (length made) w (get-within program.components (length made) d at)
            (λ k l. let x = get-there made k l in let p = s.each (record { 0 = k }) x.0 x.1 in let none : 0 + k ≡ k = omega arith in ap (λ m. test (record { 0 = m })) none ∙ none-told all (record { 0 = k }) p.place x.0 p.at p.has p.made)
            (let none : 0 + length made ≡ length made = omega arith in ap (λ m. test (record { 0 = m })) none ∙ ap (λ h. cond h (log_refusal print there (file_in (files_on b program disks) there)) None) (sym has-is) ∙ ap (λ f. log_refusal print there f) (file-there program disks there (Some old) place-is) ∙ is)

        from-there : AllTell b disks → (w : StartWhy) → found_refusal program print (files_on b program disks) ≡ Some w → IsToldFrom (length made) w
        from-there all w e =
            let same : 0 + length made ≡ length made = omega arith in
            subst (λ n. IsToldFrom n w) same
            (told-from test (λ c. own_if_disk program c (log_refusal print c (file_in (files_on b program disks) c)) (own_log print c (file_in (files_on b program disks) c))) program.components 0 (length made)
            (λ k l. let x = get-there made k l in let p = s.each (record { 0 = k }) x.0 x.1 in let none : 0 + k ≡ k = omega arith in ap (λ m. test (record { 0 = m })) none ∙ none-told all (record { 0 = k }) p.place x.0 p.at p.has p.made) w e)

        why-found : (new : D) → AllTell b disks → (why : LoadWhy) → is_log_cause b there print old new why → IsStartRefused (found_refusal program print (files_on b program disks)) (start_why there why)
        why-found new all (loads.Bad place) is = let bad = is (tells-there program disks all there old place-is) in first-is all (starts.Bad there place) (told_bad print there (b.seen old) place bad.0 bad.1)
        why-found new all (loads.Foreign own) is = first-is all (starts.Foreign there own) (told_foreign print there (b.seen old) own (is (tells-there program disks all there old place-is)))
        why-found new all loads.Failed is = from-there all
        why-found new all loads.Stopped is = from-there all
        why-found new all loads.Memory is = tt

      why-fresh : AllTell b disks → MayBeginOver b Fresh disks → (new : D) (why : LoadWhy) → is_fault b old new why → IsStartRefused (refusal_over b Fresh program print disks) (start_why there why)
      why-fresh all may new (loads.Bad place) is = absurd is
      why-fresh all may new (loads.Foreign own) is = absurd is
      why-fresh all may new loads.Failed is = λ w e. none-fresh all may (length made) w e
      why-fresh all may new loads.Stopped is = λ w e. none-fresh all may (length made) w e
      why-fresh all may new loads.Memory is = tt

      why-so : (way : Beginning) → Stands b way program print disks made rest → MayBeginOver b way disks → AllTell b disks → (new : D) (why : LoadWhy) → is_cause b way there print old new why → IsStartRefused (refusal_over b way program print disks) (start_why there why)
      why-so Found s may all new why is = why-found s new all why is
      why-so Fresh s may all new why is = why-fresh all may new why is

      fault-so : (way : Beginning) (new : D) (why : LoadWhy) → is_cause b way there print old new why → IsStartFailed b program disks (disks_under made ++ new ∷ left) (start_why there why) ⊎ is_fault b old new why
      fault-so Found new (loads.Bad place) is = inl tt
      fault-so Found new (loads.Foreign own) is = inl tt
      fault-so Found new loads.Failed is = inr is
      fault-so Found new loads.Stopped is = inr is
      fault-so Found new loads.Memory is = inl tt
      fault-so Fresh new why is = inr is

      -- the disk that failed stands in its place
      module _ (way : Beginning) (s : Stands b way program print disks made rest) (count : length disks ≡ disks_in program.components) (new : D) (kept : KeepsBy b way old new) where
        all-kept : EachMeets (KeepsBy b way) disks (disks_under made ++ new ∷ left)
        all-kept = by-step way disks (disks_under made) left old new (subst (λ r. EachMeets (KeepsBy b way) disks (disks_under made ++ r)) split s.kept) kept

        before-kept : AllKept b disks (disks_under made ++ old ∷ left)
        before-kept = by-kept way disks (disks_under made ++ old ∷ left) (subst (λ r. EachMeets (KeepsBy b way) disks (disks_under made ++ r)) split s.kept)

        used : place_in program there ≡ length (disks_under made)
        used = omega (arith, disks-split program.components (length made), count, s.enough, ap length split, kept-count disks (disks_under made ++ new ∷ left) (by-kept way disks (disks_under made ++ new ∷ left) all-kept), length-append (disks_under made) (new ∷ left))

        failed-there : Rose (b.faults old) (b.faults new) ⊎ b.stopped new → HasFailed b program there disks (disks_under made ++ new ∷ left)
        failed-there fault =
            let was = get-there disks (length (disks_under made)) (omega (arith, kept-count disks (disks_under made ++ old ∷ left) before-kept, length-append (disks_under made) (old ∷ left))) in
            let before = kept-at disks (disks_under made ++ old ∷ left) before-kept (length (disks_under made)) was.0 old was.1 (get-behind (disks_under made) old left) in
            record {
              before = was.0;
              now = new;
              has = sym (has-here way program print disks made rest s d at (Some old) left split fits);
              was = ap (slice_get disks) used ∙ was.1;
              is = ap (slice_get (disks_under made ++ new ∷ left)) used ∙ get-behind (disks_under made) new left;
              fault = fault-since was.0 old new before fault;
            }

        failed-so : (why : LoadWhy) → IsStartFailed b program disks (disks_under made ++ new ∷ left) (start_why there why) ⊎ is_fault b old new why → IsStartFailed b program disks (disks_under made ++ new ∷ left) (start_why there why)
        failed-so why (inl is) = is
        failed-so (loads.Bad place) (inr is) = absurd is
        failed-so (loads.Foreign own) (inr is) = absurd is
        failed-so loads.Failed (inr is) = failed-there (inl is)
        failed-so loads.Stopped (inr is) = failed-there (inr is)
        failed-so loads.Memory (inr is) = tt

      pub fails-with : (way : Beginning) → Stands b way program print disks made rest → MayBeginOver b way disks → length disks ≡ disks_in program.components → (refused : LoadRefused (Torn D)) → KeepsBy b way old refused.disk.inner → is_cause b way there print old refused.disk.inner refused.why → FailsAt b way program print disks there refused made left
      fails-with way s may count refused kept cause = record {
        why = λ all. why-so way s may all refused.disk.inner refused.why cause;
        failed = failed-so way s count refused.disk.inner kept refused.why (fault-so way refused.disk.inner refused.why cause);
        kept = all-kept way s count refused.disk.inner kept;
      }

    pub fails-step : (way : Beginning) (made : List (Part (Torn D) (torn b))) (rest : List D) → Stands b way program print disks made rest → MayBeginOver b way disks → length disks ≡ disks_in program.components → (d : Component) → slice_get program.components (length made) ≡ Some d → (place : Option D) (left : List D) → rest ≡ option_to_list place ++ left → is_some place ≡ not (is_outside d.kind) → (refused : LoadRefused (Torn D)) → FailsOver b way (record { 0 = length made }) print place refused
        → FailsAt b way program print disks (record { 0 = length made }) refused made left
    fails-step way made rest s may count d at None left split fits refused fails = absurd fails
    fails-step way made rest s may count d at (Some old) left split fits refused fails = fails-with made rest d at old left split fits way s may count refused fails.0 fails.1

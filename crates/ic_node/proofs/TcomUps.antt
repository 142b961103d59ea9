-- A Tcom comes up over a disk whose stop doesn't lie within the load, or its stop cuts it off.
use Rattle.std.proofs.Common.{◌≡◌, ◌∙◌, refl, sym, ap, subst, ◌⊎◌, inl, inr, ℕ, zero, suc, ◌+◌, ◌-◌, ◌<◌, ◌≤◌, Bool, true, false, cond, List, [], ◌∷◌, ◌++◌, length, Option, Some, None, option_map, option_and_then, arith}
use Rattle.std.specs.Prelude.{Result, Ok, Err, ◌&&◌, nat_le, unwrap_or}
use Rattle.std.proofs.lemmas.Bool.Decides.{nat_tests}
use Rattle.std.proofs.lemmas.List.{append-nil}
use Rattle.ic_base.specs.declared.events.Fill.{Fill}
use Rattle.ic_base.specs.declared.events.Stop.{Stop}
use Rattle.ic_base.specs.declared.messages.ComId.{ComId}
use Rattle.ic_base.specs.declared.record.Record.{Record}
use Rattle.ic_base.specs.declared.record.Record.TheVariants.{Epoch}
use Rattle.ic_base.specs.declared.scenario.Program.{Program}
use Rattle.def_log.specs.Changes.{IsOfSame}
use Rattle.def_log.specs.Frame.{IsForeign}
use Rattle.def_log.specs.Loads.{payload_of}
use Rattle.def_log.specs.Log.{Placed, placed_log_of, log_of, records_in, ◌>>=◌}
use Rattle.def_log.specs.Sizes.{size_in}
use Rattle.def_log.specs.Spelling.{spelling}
use Rattle.def_log.specs.Gated.{GatedWrite, batch_write}
use Rattle.def_log.specs.Stops.{writes_torn, stop_torn}
use Rattle.def_step.specs.Tcom.{Tcom as TcomState, Book, book_of, lacks_epoch, in_next_epoch, in_next_epoch_if, recover_tcom}
use Rattle.ic_disk.specs.Armings.{set_by}
use Rattle.ic_disk.specs.Causes.{Rose}
use Rattle.ic_disk.specs.Disk.{Keeps, Makes}
use Rattle.ic_disk.specs.Stops.{DeviceCall, image_at}
use Rattle.ic_disk.specs.TornDisks.{Torn, is_reached}
use Rattle.ic_disk.specs.declared.disk.Disk.{Ghosts}
use Rattle.ic_gate.specs.Calls.{gated_calls, force_writes}
use Rattle.ic_gate.specs.Reading.{load_calls}
use Rattle.ic_gate.specs.Refusals.{IsNotForeign}
use Rattle.ic_gate.specs.declared.refusals.LoadWhy.{LoadWhy}
use Rattle.ic_gate.specs.declared.refusals.LoadWhy.TheVariants.{Bad, Foreign, Failed, Stopped, Memory}
use Rattle.ic_gate.proofs.WriteStops.{writes_image, held_file}
use Rattle.ic_tcom.specs.Recovering.{ComesUp, WouldComeUp, RefusesToComeUp, bad_place, calls_of_epoch, calls_of_recovery, next_epoch_in}
use Rattle.ic_tcom.specs.Views.{disk_of, IsSameTcom}
use Rattle.ic_tcom.specs.declared.tcom.Tcom.{Tcom}
use Rattle.ic_node.specs.ComingUp.{IsBeyondLoad, is_halt, fails_to_come_up}
use Rattle.ic_disk.specs.Torns.{file, torn}
use Rattle.ic_node.specs.TcomComing.{TcomIsUp, TcomIsCut}
use Rattle.ic_disk.proofs.Armed.{IsArmed, runs_on, later_on, reached_one, not_stopped, works_armed, stopped_below}
use Rattle.law_marks.proofs.Reading.{spelled-some}
use Rattle.ic_node.proofs.LoadCuts.{is_both, not_failed}
use Rattle.ic_node.specs.Loading.{Rests}
use Rattle.ic_node.proofs.Loads.{rests_of}

-- books ---------------------------------------------------------------------------------------

-- what a recovery that comes up rests on
pub record Next (program : Program) (c : ComId) (size : ℕ) (records : List Record) (up : TcomState) : Type 0 where
  pub book : Book
  pub gives : book_of program c records ≡ Some book
  pub room : lacks_epoch size book ≡ false
  pub leads : up ≡ in_next_epoch records book

pub next_of : (program : Program) (c : ComId) (size : ℕ) (records : List Record) (up : TcomState) → recover_tcom program c size records ≡ Some up → Next program c size records up
next_of program c size records up is = by (book_of program c records) refl is
  where
    by_room : (book : Book) → book_of program c records ≡ Some book → (lacks : Bool) → lacks_epoch size book ≡ lacks → cond lacks None (Some (in_next_epoch records book)) ≡ Some up → Next program c size records up
    by_room book gives true room e = absurd (cc)
    by_room book gives false room e = let same : in_next_epoch records book ≡ up = cc in record { book = book; gives = gives; room = room; leads = sym same }

    by : (o : Option Book) → book_of program c records ≡ o → option_and_then (in_next_epoch_if size records) o ≡ Some up → Next program c size records up
    by None gives e = absurd (cc)
    by (Some book) gives e = by_room book gives (lacks_epoch size book) refl e

pub comes_so : (program : Program) (c : ComId) (size : ℕ) (records : List Record) (book : Book) → book_of program c records ≡ Some book → lacks_epoch size book ≡ false → recover_tcom program c size records ≡ Some (in_next_epoch records book)
comes_so program c size records book gives room = ap (option_and_then (in_next_epoch_if size records)) gives ∙ ap (λ t. cond t None (Some (in_next_epoch records book))) room

-- the epoch whose record is forced
next_epoch : (program : Program) (c : ComId) (r : Result (List Placed) ℕ) (records : List Record) (book : Book) → (r >>= λ rs. Ok (records_in rs)) ≡ Ok records → book_of program c records ≡ Some book → next_epoch_in program c r ≡ book.epoch + 1
next_epoch program c (Ok rs) records book is gives =
    let same : records_in rs ≡ records = cc in
    ap (λ (l : List Record). unwrap_or (option_map (λ b. b.epoch + 1) (book_of program c l)) 0) same ∙ ap (λ (o : Option Book). unwrap_or (option_map (λ b. b.epoch + 1) o) 0) gives
next_epoch program c (Err place) records book is gives = absurd (cc)

-- device calls --------------------------------------------------------------------------------

-- a recovery makes seven
pub seven : (program : Program) (c : ComId) (bytes : List ℕ) → length (calls_of_recovery program c bytes) ≡ 7
seven program c bytes = refl

-- a stop behind a load is one within the calls behind it
behind_load : (call : ℕ) (calls : List DeviceCall) (f : List ℕ) (keep : ℕ) (fill : Fill) → 3 < call → call ≤ 7 → image_at call (load_calls ++ calls) f [] keep fill ≡ image_at (call - 3) calls f [] keep fill
behind_load zero calls f keep fill later within = absurd (omega (arith, later))
behind_load (suc zero) calls f keep fill later within = absurd (omega (arith, later))
behind_load (suc (suc zero)) calls f keep fill later within = absurd (omega (arith, later))
behind_load (suc (suc (suc zero))) calls f keep fill later within = absurd (omega (arith, later))
behind_load (suc (suc (suc (suc zero)))) calls f keep fill later within = refl
behind_load (suc (suc (suc (suc (suc zero))))) calls f keep fill later within = refl
behind_load (suc (suc (suc (suc (suc (suc zero)))))) calls f keep fill later within = refl
behind_load (suc (suc (suc (suc (suc (suc (suc zero))))))) calls f keep fill later within = refl
behind_load (suc (suc (suc (suc (suc (suc (suc (suc n)))))))) calls f keep fill later within = absurd (omega (arith, within))

-- it leaves the image of a stop within the force
force_behind_load : (stop : Stop) (f : List ℕ) (size : ℕ) (payload : List ℕ) → 0 < length payload → 3 < stop.call → stop.call ≤ 7
    → image_at stop.call (load_calls ++ gated_calls (force_writes size payload)) f [] stop.keep stop.fill ≡ stop_torn stop 3 f (batch_write (size - 1) payload ∷ [])
force_behind_load stop f size [] some later within = absurd (omega (arith, some))
force_behind_load stop f size (x ∷ payload) some later within =
    let ws : List GatedWrite = batch_write (size - 1) (x ∷ payload) ∷ [] in
    let late : nat_le stop.call 3 ≡ false = grind (arith, nat_tests) in
    behind_load stop.call (gated_calls ws) f stop.keep stop.fill later within
    ∙ writes_image ws (stop.call - 3) f stop.keep stop.fill (omega (arith, later)) (omega (arith, within))
    ∙ ap (λ t. cond t f (writes_torn (stop.call - 3) stop.keep stop.fill f ws)) (sym late)

-- recoveries ----------------------------------------------------------------------------------

module _ {D : Type 0} (b : Ghosts D) (program : Program) (c : ComId) (stop : Stop) (old armed : Torn D) (is : IsArmed b stop old armed) where
  told : b.tells old.inner → b.tells armed.inner
  told h = subst (λ (x : Torn D). b.tells x.inner) (sym is.set) h

  same_file : file b armed ≡ file b old
  same_file = ap (file b) is.set

  -- it is up, and a stop is set again that is never reached
  pub tcom_is_up : (print : List ℕ) (s n : Tcom (Torn D) (torn b)) (never : Stop) (failed : Type 0) → ComesUp (torn b) program c armed print s → Makes (torn b) (calls_of_recovery program c (file b armed)) true failed armed (disk_of s)
      → IsSameTcom s n → disk_of n ≡ record (disk_of s) { script = Some (set_by never) } → TcomIsUp b program c old stop n
  tcom_is_up print s n never failed up made like set = record {
    records = up.records;
    size = up.size;
    step = up.step ∙ ap Some (sym like.same);
    read = λ h. ap log_of (sym same_file) ∙ up.read (told h);
    sized = λ h. ap size_in (sym same_file) ∙ up.sized (told h);
    log = λ h. ap (λ (x : Torn D). log_of (file b x)) set ∙ up.log (told h) ∙ ap (λ (l : List Record). Ok l) (ap (λ (x : TcomState). x.records) (sym like.same));
    whose = λ h. subst (λ (f : List ℕ). IsOfSame f (file b (disk_of n))) same_file (subst (λ (x : Torn D). IsOfSame (file b armed) (file b x)) (sym set) (up.whose (told h)));
    later = λ one. omega (arith, later_on b (b.tells armed.inner) failed (calls_of_recovery program c (file b armed)) stop old armed (disk_of s) is (file b (disk_of s)) made.stop one, seven program c (file b armed));
    which = like.which ∙ up.which;
    is_open = like.closed ∙ up.is_open;
    works = works_armed b never (disk_of s) (disk_of n) (record { set = set; runs = runs_on b (b.tells armed.inner) failed (calls_of_recovery program c (file b armed)) stop old armed (disk_of s) is (file b (disk_of s)) made.stop });
  }

  module _ (new off : Torn D) (unset : off ≡ record new { script = None }) where
    off_file : file b off ≡ file b new
    off_file = ap (file b) unset

    -- a stop that is reached doesn't lie within the load
    not_in_load : IsBeyondLoad 3 stop → is_reached new.script ≡ true → Makes (torn b) load_calls false ⊥ armed new → ⊥
    not_in_load beyond hit made = by beyond (reached_one b (b.tells armed.inner) ⊥ load_calls stop old armed new is (λ no. no) hit (file b new) made.stop)
      where
        by : {P : Type 0} → IsBeyondLoad 3 stop → (1 ≤ stop.call) × (stop.call ≤ 3) × P → ⊥
        by (inl none) one = omega (arith, none, one.0)
        by (inr past) one = omega (arith, past, one.1)

    beyond_one : IsBeyondLoad 3 stop → 1 ≤ stop.call → 3 < stop.call
    beyond_one (inl none) one = absurd (omega (arith, none, one))
    beyond_one (inr past) one = past

    -- the stop cut off a recovery that would come up
    cut_would : (failed : Type 0) → (failed → ⊥) → IsBeyondLoad 3 stop → old.held ≡ [] → is_reached new.script ≡ true → (torn b).stopped new → WouldComeUp (torn b) program c armed
        → Makes (torn b) (calls_of_recovery program c (file b armed)) false failed armed new → TcomIsCut b program c old stop off
    cut_would failed no_fault beyond none hit halted would made =
        let one = reached_one b (b.tells armed.inner) failed (calls_of_recovery program c (file b armed)) stop old armed new is no_fault hit (file b new) made.stop in
        let next = next_of program c would.size would.records would.up would.step in
        let later = beyond_one beyond one.0 in
        let within : stop.call ≤ 7 = omega (arith, one.1, seven program c (file b armed)) in
        record {
          records = would.records;
          size = would.size;
          book = next.book;
          gives = next.gives;
          room = next.room;
          read = λ h. ap log_of (sym same_file) ∙ would.read (told h);
          sized = λ h. ap size_in (sym same_file) ∙ would.sized (told h);
          later = later;
          within = within;
          image = λ h.
              off_file ∙ one.2 (told h)
              ∙ ap (λ ws. image_at stop.call (calls_of_recovery program c (file b armed)) (b.seen old.inner) ws stop.keep stop.fill) none
              ∙ ap (λ f. image_at stop.call (calls_of_recovery program c (file b armed)) f [] stop.keep stop.fill) (held_file b old none)
              ∙ ap (λ o. image_at stop.call (load_calls ++ calls_of_epoch (unwrap_or o 0) (next_epoch_in program c (placed_log_of (file b armed)))) (file b old) [] stop.keep stop.fill) (would.sized (told h))
              ∙ ap (λ n. image_at stop.call (load_calls ++ calls_of_epoch would.size n) (file b old) [] stop.keep stop.fill) (next_epoch program c (placed_log_of (file b armed)) would.records next.book (would.read (told h)) next.gives)
              ∙ force_behind_load stop (file b old) would.size (spelling (Epoch (next.book.epoch + 1))) (spelled-some (Epoch (next.book.epoch + 1))) later within
              ∙ ap (λ p. stop_torn stop 3 (file b old) (batch_write (would.size - 1) p ∷ [])) (payload_one (Epoch (next.book.epoch + 1)));
          halted = subst (λ (x : Torn D). (x.stopped ≡ true) ⊎ b.stopped x.inner) (sym unset) halted;
        }
      where
        payload_one : (r : Record) → spelling r ≡ payload_of (r ∷ [])
        payload_one r = sym (append-nil (spelling r))

    pub tcom_is_cut : (print : List ℕ) (why : LoadWhy) (hit : Bool) → hit ≡ is_reached new.script → (hit && is_halt why) ≡ true → IsBeyondLoad 3 stop → old.held ≡ [] → RefusesToComeUp (torn b) program c armed print new why
        → Makes (torn b) (calls_of_recovery program c (file b armed)) false (why ≡ Failed) armed new → TcomIsCut b program c old stop off
    tcom_is_cut print why hit is_hit cut beyond none refused made =
        let both = is_both hit why cut in
        let stopped = subst (RefusesToComeUp (torn b) program c armed print new) both.1 refused in
        by (sym is_hit ∙ both.0) stopped.0 stopped.1
      where
        by : is_reached new.script ≡ true → (torn b).stopped new → Makes (torn b) load_calls false ⊥ armed new ⊎ WouldComeUp (torn b) program c armed → TcomIsCut b program c old stop off
        by hit_so halted (inl load) = absurd (not_in_load beyond hit_so load)
        by hit_so halted (inr would) = cut_would (why ≡ Failed) (not_failed why (is_both hit why cut).1) beyond none hit_so halted would made

    -- why it doesn't come up, where its stop wasn't reached
    pub tcom_fails : ((disk : D) → b.keeps disk → b.tells disk) → (print : List ℕ) (why : LoadWhy) (hit : Bool) (failed : Type 0) → hit ≡ is_reached new.script → (hit ≡ true → why ≡ Stopped → ⊥) → RefusesToComeUp (torn b) program c armed print new why
        → Keeps (torn b) armed new → Makes (torn b) (calls_of_recovery program c (file b armed)) false failed armed new → fails_to_come_up b (λ bytes place. bad_place program c bytes ≡ Some place) old print off why
    tcom_fails tells print (Bad place) hit failed is_hit never refused keeps made = λ h. (ap (bad_place program c) (sym same_file) ∙ refused.place (told h), subst (IsNotForeign print) same_file (refused.not_foreign (told h)))
    tcom_fails tells print (Foreign kept) hit failed is_hit never refused keeps made = λ h. subst (λ (l : List ℕ). IsForeign print l kept) same_file (refused (told h)).0
    tcom_fails tells print Failed hit failed is_hit never refused keeps made =
        subst (λ (x : Torn D). Rose (b.faults old.inner) (b.faults x.inner)) (sym unset) (subst (λ (x : Torn D). Rose (b.faults x.inner) (b.faults new.inner)) is.set refused)
    tcom_fails tells print Stopped true failed is_hit never refused keeps made = absurd (never refl refl)
    tcom_fails tells print Stopped false failed is_hit never refused keeps made =
        subst (λ (x : Torn D). b.stopped x.inner) (sym unset)
        (stopped_below b new (not_stopped b (b.tells armed.inner) failed (calls_of_recovery program c (file b armed)) stop old armed new is (file b new) (sym is_hit) made.stop) refused.0)
    tcom_fails tells print Memory hit failed is_hit never refused keeps made = subst (Rests (torn b)) (sym unset) (rests_of b stop old armed is tells new keeps refused)

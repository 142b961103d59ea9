-- What a component did is an event of the world.
use Rattle.std.proofs.Common.{◌≡◌, ◌∙◌, refl, sym, ap, subst, ◌⊎◌, inl, inr, ℕ, zero, suc, ◌+◌, ◌-◌, ◌<◌, ◌≤◌, Bool, true, false, cond, ◌&&◌, ◌||◌, List, [], ◌∷◌, ◌++◌, length, map, Option, Some, None, option_map, arith}
use Rattle.std.specs.Prelude.{slice_get, slice_set, unwrap_or, ⊤, MatchOption, Ok}
use Rattle.std.specs.List.{range_with_len}
use Rattle.std.proofs.lemmas.Bool.Decides.{nat_tests}
use Rattle.std.proofs.lemmas.List.{append-nil}
use Rattle.std.proofs.lemmas.Option.{slice_get-map}
use Rattle.ic_base.specs.declared.events.Stop.{Stop}
use Rattle.def_log.specs.Sizes.{size_in}
use Rattle.def_log.specs.Gated.{batch_write}
use Rattle.def_log.specs.Stops.{stop_torn, is_open_at}
use Rattle.def_two.specs.declared.moves.Packet2.{Packet2}
use Rattle.def_two.specs.declared.moves.Record2.{Record2}
use Rattle.def_two.specs.declared.script.Event2.{Event2}
use Rattle.def_two.specs.declared.states.Heard.{Heard}
use Rattle.def_two.specs.Chief.{Call, Step}
use Rattle.def_two.specs.CoreSteps.{SystemState2, file2_of, IsLog2, KeepsLogs2, loads_first, forces, is_stopped, IsTornAt2, IsTornBy2, MeetsDisk2, has_no_room2, is_past_number, is_call_full2, is_full2, CoreStep2}
use Rattle.def_two.specs.Logs.{log2_of}
use Rattle.def_two.specs.Moves.{Openings}
use Rattle.def_two.specs.Records.{payload2_of}
use Rattle.def_two.specs.Runs.{called, call_of, component_of, would_add, IsEvent2}
use Rattle.def_two.specs.World.{World2, Site, DiskOutcome2, site_at, log_in, log_at, is_up as site_up, does, device_calls, is_reached, calls, site_calls, behind_step, goes_down, with_site, heard_without, happens2}
use Rattle.ic_disk.specs.Disk.{Keeps}
use Rattle.ic_disk.specs.TornDisks.{Torn}
use Rattle.ic_disk.specs.declared.disk.Disk.{Ghosts}
use Rattle.ic_moves.specs.Networks.{Network, with_puts}
use Rattle.ic_seat.specs.Seats.{site_of, heard_in, disk_in, is_up, step_in, is_past, is_full, IsSeatOf}
use Rattle.ic_seat.specs.Serving.{IsDone, IsCut, IsIdle, Serves}
use Rattle.ic_disk.specs.Torns.{torn, file}
use Rattle.ic_seat.specs.declared.seat.Seat.{Seat}
use Rattle.ic_seat.specs.declared.seat.Seat.TheVariants as seats
use Rattle.ic_two_world.specs.Views.{heard_at, file_in, world_with, state_with, KeepModel, IsSeated, AreSeated}
use Rattle.ic_two_world.proofs.Lists.{some-is, get-set_same, get-set_other, set-got, map-set}
use Rattle.ic_two_world.proofs.Calling.{same-world, heard-first, heard-later, heard-of, site-there, does-it}

pub same-or-not : (i j : ℕ) → (i ≡ j) ⊎ (i ≡ j → ⊥)
same-or-not zero zero = inl refl
same-or-not zero (suc j) = inr (λ e. omega (arith, e))
same-or-not (suc i) zero = inr (λ e. omega (arith, e))
same-or-not (suc i) (suc j) = by (same-or-not i j)
  where
    by : (i ≡ j) ⊎ (i ≡ j → ⊥) → (suc i ≡ suc j) ⊎ (suc i ≡ suc j → ⊥)
    by (inl e) = inl (ap suc e)
    by (inr d) = inr (λ e. d (omega (arith, e)))

true-false : {A : Type 0} (t : Bool) → t ≡ true → t ≡ false → A
true-false t e f = let unlike : true ≡ false = sym e ∙ f in absurd (cc)

-- the gate's byte of a log that had this size
abbrev gate_byte : Option ℕ → List ℕ → Bool
gate_byte None bytes = false
gate_byte (Some size) bytes = is_open_at bytes (size - 1)

module _ {D : Type 0} (d : Ghosts D) where
  pub file-there : (xs : List (Seat D d)) (n : Network) (c : ℕ) (x : Seat D d) → slice_get xs c ≡ Some x → file2_of (state_with xs n) c ≡ file_in x
  file-there xs n c x e = ap (λ o. unwrap_or o []) (slice_get-map file_in xs c ∙ ap (option_map file_in) e)

  pub file-other : (xs : List (Seat D d)) (n m : Network) (c k : ℕ) (y : Seat D d) → (k ≡ c → ⊥) → file2_of (state_with (slice_set xs c y) m) k ≡ file2_of (state_with xs n) k
  file-other xs n m c k y unlike = ap (λ o. unwrap_or o []) (slice_get-map file_in (slice_set xs c y) k ∙ ap (option_map file_in) (get-set_other xs c k y unlike) ∙ sym (slice_get-map file_in xs k))

  pub seated-set : (openings : Openings) (print : List ℕ) (xs : List (Seat D d)) (c : ℕ) (x y : Seat D d) → slice_get xs c ≡ Some x → AreSeated d openings print xs → IsSeated d openings print c y → AreSeated d openings print (slice_set xs c y)
  seated-set openings print xs c x y at all new k z e = by (same-or-not k c)
    where
      by : (k ≡ c) ⊎ (k ≡ c → ⊥) → IsSeated d openings print k z
      by (inl same) =
          let is : y ≡ z = some-is y z (sym (get-set_same xs c x y at) ∙ ap (slice_get (slice_set xs c y)) (sym same) ∙ e) in
          subst (λ w. IsSeated d openings print k w) is (subst (λ i. IsSeated d openings print i y) (sym same) new)
      by (inr unlike) = all k z (sym (get-set_other xs c k y unlike) ∙ e)

  pub keeps-set : (xs : List (Seat D d)) (c : ℕ) (x y : Seat D d) → slice_get xs c ≡ Some x → (d.keeps (disk_in x) → d.keeps (disk_in y)) → KeepModel xs → KeepModel (slice_set xs c y)
  keeps-set xs c x y at new all k z e = by (same-or-not k c)
    where
      by : (k ≡ c) ⊎ (k ≡ c → ⊥) → d.keeps (disk_in z)
      by (inl same) = subst (λ w. d.keeps (disk_in w)) (some-is y z (sym (get-set_same xs c x y at) ∙ ap (slice_get (slice_set xs c y)) (sym same) ∙ e)) (new (all c x at))
      by (inr unlike) = all k z (sym (get-set_other xs c k y unlike) ∙ e)

  -- the logs stand on the disks
  pub keeps-logs : (openings : Openings) (print : List ℕ) (xs : List (Seat D d)) (n : Network) → AreSeated d openings print xs → KeepModel xs → KeepsLogs2 print (state_with xs n)
  keeps-logs openings print xs n all keeps c = by (slice_get xs c) refl
    where
      Here : Option Site → Type 0
      Here o = MatchOption o ⊤ (λ s. IsLog2 print c (file2_of (state_with xs n) c) s.log)

      by : (o : Option (Seat D d)) → slice_get xs c ≡ o → Here (site_at (world_with xs n) c)
      by None e = subst Here (sym (slice_get-map site_of xs c ∙ ap (option_map site_of) e)) tt
      by (Some x) e = subst Here (sym (site-there xs n c x e)) (subst (λ f. IsLog2 print c f (site_of x).log) (sym (file-there xs n c x e)) ((all c x e).holds (keeps c x e)))

module _ {D : Type 0} (b : Ghosts D) (tells_kept : (x : D) → b.keeps x → b.tells x) (openings : Openings) (print : List ℕ) (xs : List (Seat (Torn D) (torn b))) (n : Network) (all : AreSeated (torn b) openings print xs) where
  abbrev W : World2
  W = world_with xs n

  -- what a disk gives where its component becomes another one
  abbrev pub outcome-of : List Record2 → Seat (Torn D) (torn b) → Seat (Torn D) (torn b) → DiskOutcome2
  outcome-of found x y = record { found = found; left = (site_of y).log; is_open = gate_byte (size_in (file b (disk_in x))) (file b (disk_in y)) }

  module _ (e : Event2) (c : ℕ) (call : Call) (m : Network) (x : Seat (Torn D) (torn b)) (at : slice_get xs c ≡ Some x) (ok : IsEvent2 openings e)
      (is_called : call_of W e.what ≡ Some (called c call)) (component : component_of W e.what ≡ Some c) (first : loads_first e.what ≡ 0)
      (stops : is_stopped openings W e ≡ is_reached e.stop (device_calls (forces openings W e.what))) (low : 0 < c → is_past_number call ≡ false) where
    abbrev L : List Record2
    L = (site_of x).log

    seat : IsSeatOf openings c x
    seat = (all c x at).seat

    abbrev Adds : List Record2
    Adds = (step_in x call).adds

    abbrev S : Step
    S = does openings (heard_at xs) c L call

    own-heard : c ≡ 0 → heard_at xs ≡ heard_in x
    own-heard z = heard-of xs x (ap (slice_get xs) (sym z) ∙ at)

    site-is : (k : Network) → site_at (world_with xs k) c ≡ Some (site_of x)
    site-is k = site-there xs k c x at

    abbrev p : SystemState2
    p = state_with xs n

    file-p : file2_of p c ≡ file b (disk_in x)
    file-p = file-there (torn b) xs n c x at

    forces-are : forces openings W e.what ≡ would_add openings W (called c call)
    forces-are = ap (λ o. elim o as (λ z. List Record2) [ None ↦ [] | Some z ↦ would_add openings W z ]) is_called

    -- what the event would force
    adds-up : is_up x ≡ true → would_add openings W (called c call) ≡ Adds
    adds-up up =
        let it = does-it openings xs c x call at seat (heard_at xs) up own-heard in
        ap (λ s. cond (site_up s) (does openings (heard_at xs) c (log_in s) call).adds []) (site-is n) ∙ ap (λ u. cond u S.adds []) up ∙ it.0

    adds-down : is_up x ≡ false → would_add openings W (called c call) ≡ []
    adds-down down = ap (λ s. cond (site_up s) (does openings (heard_at xs) c (log_in s) call).adds []) (site-is n) ∙ ap (λ u. cond u S.adds []) down

    stopped-up : is_up x ≡ true → is_stopped openings W e ≡ is_reached e.stop (device_calls Adds)
    stopped-up up = stops ∙ ap (λ l. is_reached e.stop (device_calls l)) (forces-are ∙ adds-up up)

    no-call : (stop : Option Stop) → MatchOption stop ⊤ (λ s. 1 ≤ s.call) → is_reached stop 0 ≡ false
    no-call None may = refl
    no-call (Some s) may = grind (arith, nat_tests)

    stopped-down : is_up x ≡ false → is_stopped openings W e ≡ false
    stopped-down down = stops ∙ ap (λ l. is_reached e.stop (device_calls l)) (forces-are ∙ adds-down down) ∙ no-call e.stop ok.1

    pub full-of : (t : Bool) → is_up x ≡ true → (size : ℕ) → size_in (file b (disk_in x)) ≡ Some size → is_full size x call ≡ t → is_full2 openings p e.what ≡ t
    full-of t up size sized full =
        ap (λ o. elim o as (λ z. Bool) [ None ↦ false | Some z ↦ is_call_full2 openings p z ]) is_called
        ∙ ap (λ s. site_up s && (is_past_number call || elim (size_in (file2_of p c)) as (λ z. Bool) [ None ↦ false | Some k ↦ has_no_room2 k (would_add openings W (called c call)) ])) (site-is n)
        ∙ ap (λ u. u && (is_past_number call || elim (size_in (file2_of p c)) as (λ z. Bool) [ None ↦ false | Some k ↦ has_no_room2 k (would_add openings W (called c call)) ])) up
        ∙ ap (λ z. is_past_number call || elim z as (λ z. Bool) [ None ↦ false | Some k ↦ has_no_room2 k (would_add openings W (called c call)) ]) (ap size_in file-p ∙ sized)
        ∙ ap (λ l. is_past_number call || has_no_room2 size l) (adds-up up)
        ∙ ap (λ t. t || has_no_room2 size Adds) (past x seat up)
        ∙ full
      where
        past : (z : Seat (Torn D) (torn b)) → IsSeatOf openings c z → is_up z ≡ true → is_past_number call ≡ is_past z call
        past (seats.Chief v) s u = refl
        past (seats.Book v) s u = low (omega (arith, s.0))
        past (seats.Down v k) s u = absurd (cc)

    full-down : is_up x ≡ false → is_full2 openings p e.what ≡ false
    full-down down =
        ap (λ o. elim o as (λ z. Bool) [ None ↦ false | Some z ↦ is_call_full2 openings p z ]) is_called
        ∙ ap (λ s. site_up s && (is_past_number call || elim (size_in (file2_of p c)) as (λ z. Bool) [ None ↦ false | Some k ↦ has_no_room2 k (would_add openings W (called c call)) ])) (site-is n)
        ∙ ap (λ u. u && (is_past_number call || elim (size_in (file2_of p c)) as (λ z. Bool) [ None ↦ false | Some k ↦ has_no_room2 k (would_add openings W (called c call)) ])) down

    module _ (y : Seat (Torn D) (torn b)) (puts : List Packet2) (serves : Serves b x e.stop call y puts) (disk : Keeps (torn b) (disk_in x) (disk_in y)) where
      abbrev ys : List (Seat (Torn D) (torn b))
      ys = slice_set xs c y

      abbrev o : DiskOutcome2
      o = outcome-of L x y

      abbrev mw : World2
      mw = world_with xs m

      calls-site : calls openings mw c e.stop o call ≡ cond (is_up x) (behind_step mw c L e.stop o S) mw
      calls-site = ap (site_calls openings mw c e.stop o call) (site-is m)

      heard-set : (h : Heard) → (c ≡ 0 → h ≡ heard_in y) → (0 < c → h ≡ heard_at xs) → h ≡ heard_at ys
      heard-set h zero-one later = by c refl
        where
          by : (k : ℕ) → c ≡ k → h ≡ heard_at ys
          by zero z = zero-one z ∙ sym (heard-first xs x y (ap (slice_get xs) (sym z) ∙ at)) ∙ ap (λ i. heard_at (slice_set xs i y)) (sym z)
          by (suc k) z = later (omega (arith, z)) ∙ sym (heard-later xs k y) ∙ ap (λ i. heard_at (slice_set xs i y)) (sym z)

      sites-set : (s : Site) → s ≡ site_of y → slice_set (map site_of xs) c s ≡ map site_of ys
      sites-set s is = ap (slice_set (map site_of xs) c) is ∙ sym (map-set site_of xs c y)

      put-with : (s : Site) (h : Heard) (ps : List Packet2) → s ≡ site_of y → h ≡ heard_at ys → ps ≡ puts → with_site mw c s h ps ≡ world_with ys (with_puts m puts)
      put-with s h ps es eh ep =
          same-world _ _ _ _ _ _ _ _ (sites-set s es) eh (ap (λ l. m.packets ++ l) ep) (ap (λ (l : List Packet2). m.waiting ++ range_with_len (length m.packets + 1) (length l)) ep)

      done-world : IsDone b x e.stop call y puts → calls openings mw c e.stop o call ≡ world_with ys (with_puts m puts)
      done-world done =
          let it = does-it openings xs c x call at seat (heard_at xs) done.was_up own-heard in
          let not-reached : is_reached e.stop (device_calls S.adds) ≡ false = ap (λ l. is_reached e.stop (device_calls l)) it.0 ∙ done.unreached in
          let up-log : List Record2 → Site = λ l. record { up = true; log = l } in
          calls-site
          ∙ ap (λ u. cond u (behind_step mw c L e.stop o S) mw) done.was_up
          ∙ ap (λ r. cond r (goes_down mw c o.left) (with_site mw c (up-log (L ++ S.adds)) S.heard S.puts)) not-reached
          ∙ put-with (up-log (L ++ S.adds)) S.heard S.puts (ap (λ l. up-log (L ++ l)) it.0 ∙ sym done.site) (heard-set S.heard (λ z. it.2.0 z ∙ sym done.heard) it.2.1) (it.1 ∙ sym done.puts_out)

      cut-world : IsCut b x e.stop call y puts → calls openings mw c e.stop o call ≡ world_with ys (with_puts m puts)
      cut-world cut =
          let it = does-it openings xs c x call at seat (heard_at xs) cut.was_up own-heard in
          let is-reached : is_reached e.stop (device_calls S.adds) ≡ true = ap (λ l. is_reached e.stop (device_calls l)) it.0 ∙ cut.reached in
          let down-log : List Record2 → Site = λ l. record { up = false; log = l } in
          calls-site
          ∙ ap (λ u. cond u (behind_step mw c L e.stop o S) mw) cut.was_up
          ∙ ap (λ r. cond r (goes_down mw c o.left) (with_site mw c (record { up = true; log = L ++ S.adds }) S.heard S.puts)) is-reached
          ∙ put-with (down-log o.left) (heard_without c (heard_at xs)) [] (ap (λ (s : Site). down-log s.log) cut.site ∙ sym cut.site) (heard-set (heard_without c (heard_at xs)) (λ z. ap (λ i. heard_without i (heard_at xs)) z ∙ sym cut.heard) (later c)) (sym cut.puts_out)
        where
          later : (k : ℕ) → 0 < k → heard_without k (heard_at xs) ≡ heard_at xs
          later zero l = absurd (omega (arith, l))
          later (suc k) l = refl

      idle-world : IsIdle b x y puts → calls openings mw c e.stop o call ≡ world_with ys (with_puts m puts)
      idle-world idle =
          let seats-same : xs ≡ ys = sym (set-got xs c x at) ∙ ap (slice_set xs c) (sym idle.same) in
          calls-site
          ∙ ap (λ u. cond u (behind_step mw c L e.stop o S) mw) idle.was_down
          ∙ same-world _ _ _ _ _ _ _ _ (ap (map site_of) seats-same) (ap heard_at seats-same) (sym (append-nil m.packets) ∙ ap (λ l. m.packets ++ l) (sym idle.puts_out))
          (sym (append-nil m.waiting) ∙ ap (λ (l : List Packet2). m.waiting ++ range_with_len (length m.packets + 1) (length l)) (sym idle.puts_out))

      -- the world behind the call
      pub calls-world : calls openings mw c e.stop o call ≡ world_with ys (with_puts m puts)
      calls-world = by serves.ends
        where
          by : IsDone b x e.stop call y puts ⊎ (IsCut b x e.stop call y puts ⊎ IsIdle b x y puts) → calls openings mw c e.stop o call ≡ world_with ys (with_puts m puts)
          by (inl done) = done-world done
          by (inr (inl cut)) = cut-world cut
          by (inr (inr idle)) = idle-world idle

      -- over disks that keep the disk model -------------------------------------------------------

      abbrev q : SystemState2
      q = state_with ys (with_puts m puts)

      file-q : file2_of q c ≡ file b (disk_in y)
      file-q = file-there (torn b) ys (with_puts m puts) c y (get-set_same xs c x y at)

      new-seat : IsSeated (torn b) openings print c y
      new-seat = record { stands = serves.stands; holds = serves.holds print c (all c x at).holds; seat = serves.seated openings c seat }

      pub new-seated : AreSeated (torn b) openings print ys
      new-seated = seated-set (torn b) openings print xs c x y at all new-seat

      pub new-keeps : KeepModel xs → KeepModel ys
      new-keeps = keeps-set (torn b) xs c x y at (λ k. disk.keeps.0 k)

      module _ (keeps : KeepModel xs) where
        told : b.tells (disk_in x).inner
        told = tells_kept (disk_in x).inner (keeps c x at)

        read-old : log2_of (file b (disk_in x)) ≡ Ok L
        read-old = ((all c x at).holds (keeps c x at)).holds

        read-new : log2_of (file b (disk_in y)) ≡ Ok (site_of y).log
        read-new = (new-seat.holds (disk.keeps.0 (keeps c x at))).holds

        fits : is_full2 openings p e.what ≡ false
        fits = by serves.ends
          where
            by : IsDone b x e.stop call y puts ⊎ (IsCut b x e.stop call y puts ⊎ IsIdle b x y puts) → is_full2 openings p e.what ≡ false
            by (inl done) = let z = done.sized told in full-of false done.was_up z.0 z.1 (done.room told z.0 z.1)
            by (inr (inl cut)) = let z = cut.sized told in full-of false cut.was_up z.0 z.1 (cut.room told z.0 z.1)
            by (inr (inr idle)) = full-down idle.was_down

        -- its stop is reached
        torn-by : IsCut b x e.stop call y puts → IsTornBy2 openings o p e c q e.stop
        torn-by cut =
            let z = cut.sized told in
            let size-p : size_in (file2_of p c) ≡ Some z.0 = ap size_in file-p ∙ z.1 in
            let image : file2_of q c ≡ stop_torn cut.at (loads_first e.what) (file2_of p c) (batch_write (z.0 - 1) (payload2_of (forces openings W e.what)) ∷ []) =
            file-q ∙ cut.image told z.0 z.1
            ∙ ap (λ l. stop_torn cut.at 0 (file b (disk_in x)) (batch_write (z.0 - 1) (payload2_of l) ∷ [])) (sym (forces-are ∙ adds-up cut.was_up))
            ∙ ap (λ f. stop_torn cut.at 0 f (batch_write (z.0 - 1) (payload2_of (forces openings W e.what)) ∷ [])) (sym file-p)
            ∙ ap (λ k. stop_torn cut.at k (file2_of p c) (batch_write (z.0 - 1) (payload2_of (forces openings W e.what)) ∷ [])) (sym first) in
            let gate : o.is_open ≡ is_open_at (file2_of q c) (z.0 - 1) = ap (λ s. gate_byte s (file b (disk_in y))) z.1 ∙ ap (λ f. is_open_at f (z.0 - 1)) (sym file-q) in
            let here : IsTornAt2 o cut.at (loads_first e.what) (z.0 - 1) (forces openings W e.what) (file2_of p c) (file2_of q c) = record { image = image; left = ap log2_of file-q ∙ read-new; gate_byte = gate } in
            subst (λ s. IsTornBy2 openings o p e c q s) (sym cut.is_stop)
            (subst (λ s. MatchOption s ⊥ (λ size. IsTornAt2 o cut.at (loads_first e.what) (size - 1) (forces openings W e.what) (file2_of p c) (file2_of q c))) (sym size-p) here)

        log-p : log_at W c ≡ L
        log-p = ap log_in (site-is n)

        log-q : log_at q.world c ≡ (site_of y).log
        log-q = ap log_in (site-there ys (with_puts m puts) c y (get-set_same xs c x y at))

        meets : MeetsDisk2 openings o p e c q
        meets = by serves.ends
          where
            found : log2_of (file2_of p c) ≡ Ok L
            found = ap log2_of file-p ∙ read-old

            none-more : (l k : List Record2) → l ++ k ≡ l → k ≡ []
            none-more [] k f = f
            none-more (r ∷ l) k f = let tail : l ++ k ≡ l = cc in none-more l k tail

            by : IsDone b x e.stop call y puts ⊎ (IsCut b x e.stop call y puts ⊎ IsIdle b x y puts) → MeetsDisk2 openings o p e c q
            by (inl done) = record {
              found = found;
              torn = λ hit. true-false (is_stopped openings W e) hit (stopped-up done.was_up ∙ done.unreached);
              same = λ calm kept.
                  let logs : L ++ Adds ≡ L = ap (λ (s : Site). s.log) (sym done.site) ∙ sym log-q ∙ kept ∙ log-p in
                  file-q ∙ done.same told (none-more L Adds logs) ∙ sym file-p;
            }
            by (inr (inl cut)) = record {
              found = found;
              torn = λ hit. torn-by cut;
              same = λ calm kept. true-false (is_stopped openings W e) (stopped-up cut.was_up ∙ cut.reached) calm;
            }
            by (inr (inr idle)) = record {
              found = found;
              torn = λ hit. true-false (is_stopped openings W e) hit (stopped-down idle.was_down);
              same = λ calm kept. file-q ∙ ap (λ z. file b (disk_in z)) idle.same ∙ sym file-p;
            }

        pub core-step : happens2 openings W e o ≡ Some (calls openings mw c e.stop o call) → CoreStep2 openings print p e o q
        core-step happens = record {
          event = ok;
          happens = happens ∙ ap Some calls-world;
          fits = fits;
          disk = λ k s there here. subst (λ i. MeetsDisk2 openings o p e i q) (some-is c k (sym component ∙ there)) meets;
          others = λ k other. file-other (torn b) xs n (with_puts m puts) c k y (λ same. other (component ∙ ap Some (sym same)));
          logs = keeps-logs (torn b) openings print ys (with_puts m puts) new-seated (new-keeps keeps);
        }

-- Each event keeps it so that packets go to components that have a disk.
use Rattle.std.proofs.Common.{◌≡◌, refl, ◌∙◌, sym, subst, ℕ, ◌==◌, Bool, true, false, cond, ◌&&◌, ◌||◌, List, [], ◌∷◌, ◌++◌, map, length, Option, Some, None, option_map, is_some}
use Rattle.std.specs.Prelude.{⊤, MatchOption, option_to_list}
use Rattle.std.specs.List.{AllByRecursion, list_all}
use Rattle.std.proofs.lemmas.Option.{same_Some}
use Rattle.ic_base.specs.declared.messages.ComId.{ComId}
use Rattle.ic_base.specs.declared.messages.Msg.{Msg}
use Rattle.ic_base.specs.declared.messages.Packet.{Packet}
use Rattle.ic_base.specs.declared.messages.Packet.TheVariants.{Data, Stable, Installed, Fetch, Op, OpReply, Commit, Outcome, Drop}
use Rattle.ic_base.specs.declared.scenario.Program.{Program}
use Rattle.ic_base.specs.declared.record.Record.{Record}
use Rattle.ic_base.specs.declared.record.Record.TheVariants.{Take, TakeWhole, Input, Value, Outcome as Ended, Released, Shown, Checkpoint, Epoch, Decided}
use Rattle.ic_base.specs.Programs.{is_other_pcom, is_a_tcom}
use Rattle.def_state.specs.Names.{Identity}
use Rattle.def_state.specs.Fits.{fits}
use Rattle.def_state.specs.Outbox.{Held}
use Rattle.def_state.specs.Txn.{Txn, tcom_of}
use Rattle.def_state.specs.Image.{read_image, image_fits, image_of, same_bytes, if_image, fields_at, last_fits, output_fits, message_fits, link_fits, is_rising}
use Rattle.def_state.specs.Vol.{Vol, standing, record_in, numbers_fit, first_vol}
use Rattle.def_step.specs.Packets.{fits_pcom}
use Rattle.def_step.specs.Replay.{Playing, waits_for, play_records, feed, recovered, start_at, last_image, behind_checkpoint}
use Rattle.def_step.specs.Pcom.{Log, Pcom, is_replaying, Call, Gives, Gets, Forces, Checkpoints, Resends, Emits, Effects, just_tail, nothing_at_all, decide, marked, append, absorb, must_force, force_if, cover_if, after_tail, tail_packets, came_to_first, came_further, StepResult, told, Fed, carry_out, fed, standing_at, stands_at, is_needed, fetch_packet, needed, needed_fetch, packet_at_replay, replay_step, stays, pcom_step, recover_pcom}
use Rattle.def_facts.specs.Playable.{IsPlayable}
use Rattle.law_settle.specs.Kept.{HasDisk, GoesToKept, NamesKept, WaitsForKept, PutsToKept}
use Rattle.law_settle.specs.Represented.{HandFits, RestFits, IsRepresented}
use Rattle.law_settle.proofs.Addresses.{PeerKept, fits_kept, waits_kept, tcom-kept, other-kept, record_keeps_names}
use Rattle.law_settle.proofs.Hands.{fits_follow, record_keeps_hand}
use Rattle.law_settle.proofs.Images.{bound, FieldsFit, fields-fit, starts-fit}
use Rattle.law_settle.proofs.Putting.{AllKept, marked-names, tail-names, force-names, cover-names, regenerated-names, tail-kept, fetched-kept, choice-kept}
use Rattle.law_settle.proofs.Replaying.{take-follows}
use Rattle.law_settle.proofs.Stepping.{LiveFits, append-keeps, FollowAll, Follows, marked-keeps, decided-follows}
use Rattle.law_settle.proofs.Walks.{all-append}
use Rattle.law_replay.proofs.Lists.{none-some, true-false, front, back, mapped, passed}

-- of a step's result
pub record StepKept (program : Program) (t : StepResult) : Type 0 where
  pub pcom : PutsToKept program t.pcom
  pub puts : AllByRecursion (GoesToKept program) t.puts

-- a live one --------------------------------------------------------------------------------------

absorb-kept : (program : Program) (c : ComId) (content : Option Msg) (p : Pcom) (rs : List Record) → IsPlayable program → LiveFits program c p → FollowAll program c content p rs → AllByRecursion (PeerKept program) rs → NamesKept program p.vol → NamesKept program (absorb program c content p rs).vol
unfolding FollowAll
absorb-kept program c content p [] good x ok peers k = k
absorb-kept program c content p (r ∷ rs) good x ok peers k =
    let next = append-keeps program c content p r good x ok.0 in
    absorb-kept program c content (append program c content p r) rs good next ok.1 peers.1 (record_keeps_names program c _ content p.vol r good next.hand peers.0 k)

absorb-rest : (program : Program) (c : ComId) (content : Option Msg) (p : Pcom) (rs : List Record) → (absorb program c content p rs).rest ≡ p.rest
absorb-rest program c content p [] = refl
absorb-rest program c content p (r ∷ rs) = absorb-rest program c content (append program c content p r) rs

marked-rest : (p : Pcom) (o : Option Identity) → (marked p o).rest ≡ p.rest
marked-rest p None = refl
marked-rest p (Some x) = refl

force-rest : (b : Bool) (p : Pcom) → (force_if b p).rest ≡ p.rest
force-rest true p = refl
force-rest false p = refl

cover-rest : (b : Bool) (p : Pcom) → (cover_if b p).rest ≡ p.rest
cover-rest true p = refl
cover-rest false p = refl

put-kept : (program : Program) (c : ComId) (b came : Bool) (d : Effects) (q : Pcom) → AllByRecursion (GoesToKept program) d.answers → NamesKept program q.vol → WaitsForKept program q.rest → StepKept program (cond b (told q d.answers d) (told (after_tail q) (d.answers ++ tail_packets c came q) d))
unfolding AllKept
put-kept program c true came d q answers x rest = record { pcom = record { state = x; rest = rest }; puts = answers }
put-kept program c false came d q answers x rest = record { pcom = record { state = tail-names program q x; rest = rest }; puts = all-append (GoesToKept program) d.answers (tail_packets c came q) answers (tail-kept program c came q x) }

live-kept : (program : Program) (c : ComId) (p : Pcom) (call : Call) → IsPlayable program → LiveFits program c p → PutsToKept program p → StepKept program (carry_out program c p (decide program c p call))
unfolding Follows
live-kept program c p call good fits x =
    let d = decide program c p call in
    let k = choice-kept program c p call x.state in
    let m = marked p d.marks in
    let q = absorb program c d.content m d.adds in
    let f = force_if (d.forces || must_force p.vol q.vol) q in
    let g = cover_if d.covers f in
    put-kept program c d.is_quiet (came_to_first p.vol g.vol || came_further p.vol g.vol) d g k.answers
    (cover-names program d.covers f (force-names program (d.forces || must_force p.vol q.vol) q
    (absorb-kept program c d.content m d.adds good (marked-keeps program c p d.marks fits) (decided-follows program c p call) k.adds (marked-names program p d.marks x.state))))
    (subst (WaitsForKept program) (sym (cover-rest d.covers f ∙ force-rest (d.forces || must_force p.vol q.vol) q ∙ absorb-rest program c d.content m d.adds ∙ marked-rest p d.marks)) x.rest)

-- a replay ----------------------------------------------------------------------------------------

record PlayingKept (program : Program) (x : Playing) : Type 0 where
  state : NamesKept program x.vol
  rest : WaitsForKept program x.rest

played-kept : (program : Program) (c : ComId) (v : Vol) (rs : List Record) (x : Playing) → IsPlayable program → HandFits program c v → NamesKept program v → play_records program c v rs ≡ Some x → PlayingKept program x
played-kept program c v [] x good hand k e = subst (PlayingKept program) (same_Some (record { vol = v; rest = [] }) x e) (record { state = k; rest = tt })
played-kept program c v (r ∷ rs) x good hand k e =
    at (fits program c (standing program c v) r) refl (is_some (waits_for r)) (numbers_fit (record_in program c 0 None v r)) e
    (λ ok f.
    let next = record_keeps_hand program c 0 None v r good hand (fits_follow program c v r ok) in
    played-kept program c (record_in program c 0 None v r) rs x good next (record_keeps_names program c 0 None v r good next (fits_kept program c (standing program c v) r ok) k) f)
  where
    at : (b : Bool) → fits program c (standing program c v) r ≡ b → (w m : Bool)
        → cond b (cond w (Some (record { vol = v; rest = r ∷ rs })) (cond m (play_records program c (record_in program c 0 None v r) rs) None)) None ≡ Some x
        → (fits program c (standing program c v) r ≡ true → play_records program c (record_in program c 0 None v r) rs ≡ Some x → PlayingKept program x) → PlayingKept program x
    at false ok w m f more = none-some x f
    at true ok true m f more = subst (PlayingKept program) (same_Some (record { vol = v; rest = r ∷ rs }) x f) (record { state = k; rest = waits_kept program r (fits_kept program c (standing program c v) r ok) })
    at true ok false true f more = more ok f
    at true ok false false f more = none-some x f

-- the waiting Take
rest-peer : (program : Program) (r : Record) → is_some (waits_for r) ≡ true → MatchOption (waits_for r) ⊤ (λ x. HasDisk program x.peer) → PeerKept program r
rest-peer program (Take from k stamp) waits h = h
rest-peer program (TakeWhole from k stamp handler args) waits h = true-false waits
rest-peer program (Input stamp handler args) waits h = tt
rest-peer program (Value n place session value) waits h = tt
rest-peer program (Ended stamp n abort) waits h = tt
rest-peer program (Released to k) waits h = tt
rest-peer program (Shown m) waits h = tt
rest-peer program (Checkpoint image) waits h = tt
rest-peer program (Epoch epoch) waits h = tt
rest-peer program (Decided stamp d n writes) waits h = tt

feed-kept : (program : Program) (c : ComId) (v : Vol) (m : Msg) (rs : List Record) (x : Playing) → IsPlayable program → HandFits program c v → RestFits v rs → NamesKept program v → WaitsForKept program rs → feed program c v m rs ≡ Some x → PlayingKept program x
feed-kept program c v m [] x good hand rest k h e = subst (PlayingKept program) (same_Some (record { vol = v; rest = [] }) x e) (record { state = k; rest = tt })
feed-kept program c v m (r ∷ rs) x good hand rest k h e = at (numbers_fit (record_in program c 0 (Some m) v r)) e
  where
    at : (b : Bool) → cond b (play_records program c (record_in program c 0 (Some m) v r) rs) None ≡ Some x → PlayingKept program x
    at false f = none-some x f
    at true f =
        let next = record_keeps_hand program c 0 (Some m) v r good hand (take-follows v r rest.0 rest.1) in
        played-kept program c (record_in program c 0 (Some m) v r) rs x good next (record_keeps_names program c 0 (Some m) v r good next (rest-peer program r rest.0 h) k) f

stands-kept : (program : Program) (log : Log) (v : Vol) (rs : List Record) → NamesKept program v → WaitsForKept program rs → PutsToKept program (standing_at log v rs)
stands-kept program log v [] k h = record { state = regenerated-names program v k; rest = tt }
stands-kept program log v (r ∷ rs) k h = record { state = k; rest = h }

fetch-kept : (program : Program) (c : ComId) (rs : List Record) → WaitsForKept program rs → AllByRecursion (GoesToKept program) (needed_fetch c rs)
fetch-kept program c rs h = at (needed rs) h
  where
    at : (o : Option Identity) → MatchOption o ⊤ (λ x. HasDisk program x.peer) → AllByRecursion (GoesToKept program) (map (fetch_packet c) (option_to_list o))
    at None k = tt
    at (Some x) k = (k, tt)

fed-kept : (program : Program) (c : ComId) (p : Pcom) → PutsToKept program p → StepKept program (fed c p)
unfolding AllKept
fed-kept program c p x = at (is_replaying p)
  where
    at : (b : Bool) → StepKept program (cond b (told p [] (record nothing_at_all { word = Fed })) (told (after_tail p) (tail_packets c false p) (record just_tail { word = Fed })))
    at true = record { pcom = x; puts = tt }
    at false = record { pcom = record { state = tail-names program p x.state; rest = x.rest }; puts = tail-kept program c false p x.state }

stays-kept : (program : Program) (p : Pcom) (puts : List Packet) (t : StepResult) → PutsToKept program p → AllByRecursion (GoesToKept program) puts → stays p puts ≡ Some t → StepKept program t
stays-kept program p puts t x y e = subst (StepKept program) (same_Some (told p puts nothing_at_all) t e) (record { pcom = x; puts = y })

packet-replay-kept : (program : Program) (c : ComId) (p : Pcom) (packet : Packet) (t : StepResult) → IsPlayable program → IsRepresented program c p → PutsToKept program p → packet_at_replay program c p packet ≡ Some t → StepKept program t
unfolding AllKept
packet-replay-kept program c p (Data m) t good is x e = at (is_needed p.rest m) e
  where
    at : (b : Bool) → cond b (option_map (λ y. fed c (stands_at p.log y)) (feed program c p.vol m p.rest)) (stays p []) ≡ Some t → StepKept program t
    at true f =
        let y = mapped (λ y. fed c (stands_at p.log y)) (feed program c p.vol m p.rest) t f in
        let k = feed-kept program c p.vol m p.rest y.0 good is.hand is.rest x.state x.rest y.1 in
        subst (StepKept program) y.2 (fed-kept program c (stands_at p.log y.0) (stands-kept program p.log y.0.vol y.0.rest k.state k.rest))
    at false f = stays-kept program p [] t x tt f
packet-replay-kept program c p (Fetch from to k) t good is x e = stays-kept program p _ t x (fetched-kept program _ p.vol.outbox.held x.state.held) e
packet-replay-kept program c p (Stable from to k) t good is x e = stays-kept program p [] t x tt e
packet-replay-kept program c p (Installed from to k) t good is x e = stays-kept program p [] t x tt e
packet-replay-kept program c p (Op from to n place session request) t good is x e = stays-kept program p [] t x tt e
packet-replay-kept program c p (OpReply from to n place session value) t good is x e = stays-kept program p [] t x tt e
packet-replay-kept program c p (Commit from to n place session stamp) t good is x e = stays-kept program p [] t x tt e
packet-replay-kept program c p (Outcome from to n place session decision) t good is x e = stays-kept program p [] t x tt e
packet-replay-kept program c p (Drop from to n) t good is x e = stays-kept program p [] t x tt e

replay-kept : (program : Program) (c : ComId) (p : Pcom) (call : Call) (t : StepResult) → IsPlayable program → IsRepresented program c p → PutsToKept program p → replay_step program c p call ≡ Some t → StepKept program t
replay-kept program c p (Gets packet) t good is x e = at (fits_pcom program c packet) e
  where
    at : (b : Bool) → cond b (packet_at_replay program c p packet) (stays p []) ≡ Some t → StepKept program t
    at true f = packet-replay-kept program c p packet t good is x f
    at false f = stays-kept program p [] t x tt f
replay-kept program c p Resends t good is x e = stays-kept program p (needed_fetch c p.rest) t x (fetch-kept program c p.rest x.rest) e
replay-kept program c p (Gives handler args) t good is x e = stays-kept program p [] t x tt e
replay-kept program c p Forces t good is x e = stays-kept program p [] t x tt e
replay-kept program c p Checkpoints t good is x e = stays-kept program p [] t x tt e
replay-kept program c p Emits t good is x e = stays-kept program p [] t x tt e

pub step_kept : (program : Program) (c : ComId) (p : Pcom) (call : Call) (t : StepResult) → IsPlayable program → IsRepresented program c p → PutsToKept program p → pcom_step program c p call ≡ Some t → StepKept program t
step_kept program c p call t good is x e = at (is_replaying p) refl e
  where
    at : (b : Bool) → is_replaying p ≡ b → cond b (replay_step program c p call) (Some (carry_out program c p (decide program c p call))) ≡ Some t → StepKept program t
    at true on f = replay-kept program c p call t good is x f
    at false on f = subst (StepKept program) (same_Some (carry_out program c p (decide program c p call)) t f) (live-kept program c p call good (record { hand = is.hand; tables = is.tables; live = on }) x)

-- a recovery --------------------------------------------------------------------------------------

each-held : (program : Program) (c : ComId) (v : Vol) (hs : List Held) → list_all (message_fits program c v) hs ≡ true → AllByRecursion (λ h. HasDisk program h.msg.to) hs
each-held program c v [] e = tt
each-held program c v (h ∷ hs) e =
    (other-kept program c h.msg.to (front (is_other_pcom program c h.msg.to) _ (front (message_fits program c v h) (list_all (message_fits program c v) hs) e)), each-held program c v hs (back (message_fits program c v h) (list_all (message_fits program c v) hs) e))

last-is : (program : Program) (x : Txn) (o : Option (ComId × ℕ)) → last_fits program x o ≡ true → MatchOption o ⊤ (λ y. HasDisk program y.0)
last-is program x None e = tt
last-is program x (Some y) e = tcom-kept program y.0 (front (is_a_tcom program y.0) _ e)

image-names : (program : Program) (c : ComId) (v : Vol) → FieldsFit v → image_fits program c v ≡ true → NamesKept program v
image-names program c v x e =
    let one = back (length v.vars == length (first_vol program c).vars) _ e in
    let two = back (last_fits program v.txn v.txn.last) _ one in
    let six = back (is_rising (map (λ x. x.0.0) v.outbox.links)) _ (back (list_all (link_fits program c) v.outbox.links) _ (back (is_rising (map (λ w. w.output.m) v.shelf.waiting)) _ (back (list_all (output_fits program v.shelf) v.shelf.waiting) _ two))) in
    record {
      held = each-held program c v v.outbox.held (front (list_all (message_fits program c v) v.outbox.held) _ six);
      receipts = subst (λ l. AllByRecursion (λ r. HasDisk program r.name.peer) l) (sym x.receipts) tt;
      last = last-is program v.txn v.txn.last (front (last_fits program v.txn v.txn.last) _ one);
      open_on = subst (λ s. MatchOption (tcom_of s) ⊤ (HasDisk program)) (sym x.stage) tt;
    }

image-kept : (program : Program) (c : ComId) (image : List ℕ) (v : Vol) → read_image program c image ≡ Some v → NamesKept program v
unfolding read_image
image-kept program c image v e =
    let x = bound (fields_at program c image) (if_image program c image) v e in
    let p = passed (image_fits program c x.0.0 && same_bytes (image_of x.0.0) image) (Some x.0.0) v x.2 in
    subst (NamesKept program) (same_Some x.0.0 v p.1)
    (image-names program c x.0.0 (fields-fit program c image x.0 x.1) (front (image_fits program c x.0.0) (same_bytes (image_of x.0.0) image) p.0))

pub first-kept : (program : Program) (c : ComId) → NamesKept program (first_vol program c)
first-kept program c = record { held = tt; receipts = tt; last = tt; open_on = tt }

start-kept : (program : Program) (c : ComId) (o : Option (List ℕ)) (v : Vol) → start_at program c o ≡ Some v → NamesKept program v
start-kept program c None v e = subst (NamesKept program) (same_Some (first_vol program c) v e) (first-kept program c)
start-kept program c (Some image) v e = image-kept program c image v e

pub recover_kept : (program : Program) (c : ComId) (records : List Record) (t : StepResult) → IsPlayable program → recover_pcom program c records ≡ Some t → StepKept program t
recover_kept program c records t good e =
    let y = mapped (λ y. told (stands_at (record { forced = records; buffered = [] }) y) (needed_fetch c y.rest) nothing_at_all) (recovered program c records) t e in
    let s = bound (start_at program c (last_image records)) (λ v. play_records program c v (behind_checkpoint records)) y.0 y.1 in
    let k = played-kept program c s.0 (behind_checkpoint records) y.0 good (starts-fit program c (last_image records) s.0 s.1).0 (start-kept program c (last_image records) s.0 s.1) s.2 in
    subst (StepKept program) y.2 (record { pcom = stands-kept program (record { forced = records; buffered = [] }) y.0.vol y.0.rest k.state k.rest; puts = fetch-kept program c y.0.rest k.rest })

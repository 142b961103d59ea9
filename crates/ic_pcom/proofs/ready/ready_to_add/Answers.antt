use Rattle.std.proofs.Common.{◌≡◌, ◌∙◌, sym, ap, refl, subst, ℕ, ◌+◌, ◌-◌, List, [], length, arith, Option, Some}
use Rattle.std.specs.List.{AllByRecursion}
use Rattle.std.specs.Prelude.{IfSome, IsTrue, get_or}
use Rattle.std.specs.Vec.{vec_capacity}
use Rattle.ic_base.specs.declared.messages.Packet.{Packet}
use Rattle.ic_base.specs.declared.record.Record.{Record}
use Rattle.def_state.specs.Vol.{Vol, numbers_fit}
use Rattle.ic_ckpt.specs.Views.{seen}
use Rattle.ic_pcom.specs.Effects.{effects_of}
use Rattle.ic_replay.specs.Applying.{applied, TakesNew}
use Rattle.ic_replay.specs.Preparing.{has_place}
use Rattle.ic_wire.specs.Placed.{IsCounted}
use Rattle.ic_pcom.specs.Carrying.{last_in, led_by}
use Rattle.ic_pcom.specs.Landing.{HasPacketRoom, MayReach, MayLand}
use Rattle.ic_pcom.specs.Telling.{HasRoomFor}
use Rattle.ic_pcom.specs.declared.plan.Plan.TheVariants.{Adds}
use Rattle.ic_pcom.specs.declared.telling.Outgoing.{Outgoing}
use Rattle.ic_pcom.proofs.Lasts.{last-get, last_all}
use Rattle.ic_pcom.proofs.Rooms.{room_behind, not_yet}
use Rattle.ic_pcom.proofs.ready.ready_to_add.Goals as goal

pub returns-then-not-keeps_limits-clause-refused : goal.returns-then-not-keeps_limits-clause-refused
returns-then-not-keeps_limits-clause-refused c at =
    let adds = c.replace-adds.result in
    let r = c.index-as_slice-len.result in
    let same : adds ≡ c.args.decided.adds = c.replace-adds.ensures.value in
    let long : c.len.result - 1 + 1 ≡ length adds = omega (arith, c.len.ensures, ap length same, c.requires.ready.some) in
    let last : last_in adds ≡ Some r = last-get adds (c.len.result - 1) r long (c.index-as_slice-len.is ∙ ap (λ l. get_or l (c.len.result - 1) r) c.as_slice.ensures) in
    ap (λ (o : Option Record). numbers_fit (led_by c.args.«com» at c.args.prepared (seen c.args.state.now) o)) (ap last_in (sym same) ∙ last) ∙ sym (c.keeps_limits.ensures c.args.«com» at) ∙ c.if-not-keeps_limits.true

pub txn_behind-txn-requires-clause-place : goal.txn_behind-txn-requires-clause-place
txn_behind-txn-requires-clause-place c =
    let adds = c.replace-adds.result in
    let r = c.index-as_slice-len.result in
    let same : adds ≡ c.args.decided.adds = c.replace-adds.ensures.value in
    let long : c.len.result - 1 + 1 ≡ length adds = omega (arith, c.len.ensures, ap length same, c.requires.ready.some) in
    let last : last_in adds ≡ Some r = last-get adds (c.len.result - 1) r long (c.index-as_slice-len.is ∙ ap (λ l. get_or l (c.len.result - 1) r) c.as_slice.ensures) in
    let If : Option Record → Type 0 = λ o. IfSome o (λ x. IsTrue (has_place (seen c.args.state.now) x)) in
    subst If (ap last_in (sym same) ∙ last) c.requires.ready.place

pub returns-clause-ready : goal.returns-clause-ready
returns-clause-ready c =
    let adds = c.replace-adds.result in
    let r = c.index-as_slice-len.result in
    let same : adds ≡ c.args.decided.adds = c.replace-adds.ensures.value in
    let long : c.len.result - 1 + 1 ≡ length adds = omega (arith, c.len.ensures, ap length same, c.requires.ready.some) in
    let last : last_in adds ≡ Some r = last-get adds (c.len.result - 1) r long (c.index-as_slice-len.is ∙ ap (λ l. get_or l (c.len.result - 1) r) c.as_slice.ensures) in
    let first : last_in c.args.decided.adds ≡ Some r = ap last_in (sym same) ∙ last in
    let who = c.args.«com» in
    let p = c.args.prepared in
    let v = seen c.args.state.now in
    let s = c.reserve.new.state in
    let e = effects_of c.args.decided in
    let Counted : List Record → Type 0 = λ rs. AllByRecursion IsCounted rs in
    let counted : AllByRecursion IsCounted adds = subst Counted c.as_slice-2.ensures (c.are_counted.ensures c.if-not-are_counted.false) in
    let New : Option Record → Type 0 = λ o. IfSome o (TakesNew v) in
    let NewIn : Vol → Type 0 = λ x. TakesNew x r in
    let Placed : Option Record → Type 0 = λ o. IfSome o (λ x. IsTrue (has_place v x)) in
    let PlacedIn : Vol → Type 0 = λ x. IsTrue (has_place x r) in
    let May : (ℕ → Option Record → Type 0) = λ at o. MayLand who at s o (Adds (record c.args.decided { adds = c.replace-adds.new.dest; answers = c.replace-answers.new.dest }) p) in
    let behind : (at : ℕ) → (led_by who at p v (last_in adds)).txn ≡ c.txn_behind-txn.result = λ at. ap (λ (o : Option Record). (led_by who at p v o).txn) last ∙ sym (c.txn_behind-txn.ensures who at) in
    let puts : c.in-Ok.puts.items ≡ c.replace-answers.result = (c.in-Ok.ensures {u = tt}).answers in
    let o : Outgoing = record { covers = e.covers; forces = c.came-came.result.1; forced = c.args.forced; receipts = c.receipts.result; messages = c.sends.result; drops = c.drops.result; came = c.came-came.result.0 } in
    let Room : ℕ → Type 0 = λ n. (forced : ℕ) → MayReach o.forces o.forced forced → HasRoomFor o forced n (vec_capacity c.in-Ok.puts) v in
    let room : Room (length c.in-Ok.puts.items) = subst Room (ap length (sym puts)) (c.in-Ok.ensures {u = tt}).room in
    record {
      adds_are = same;
      puts_are = puts ∙ c.replace-answers.ensures.value;
      rest =
          ap (λ (xs : List Record). record e { adds = xs; answers = c.replace-answers.new.dest }) (c.replace-adds.ensures.after ∙ c.new.ensures)
          ∙ ap (λ (ys : List Packet). record e { adds = []; answers = ys }) (c.replace-answers.ensures.after ∙ c.new-2.ensures);
      counted = counted;
      may = λ at. subst (May at) (sym last) (record {
        room = (c.in-Ok-reserve.ensures {u = tt}).room;
        new = subst NewIn (sym c.reserve.ensures.same) (subst New first c.requires.ready.new);
        place = subst PlacedIn (sym c.reserve.ensures.same) (subst Placed first c.requires.ready.place);
        limits = ap (λ (x : Vol). numbers_fit (applied who at p x r)) c.reserve.ensures.same ∙ sym (c.keeps_limits.ensures who at) ∙ c.if-not-keeps_limits.false;
        counted = last_all IsCounted adds r counted last;
      });
      room = λ at forced reach behind.
          let Has : Option Record → Type 0 = λ q. HasPacketRoom e.covers o.came forced (length c.in-Ok.puts.items) (vec_capacity c.in-Ok.puts) (led_by who at p v q) in
          subst Has (sym last) (room_behind who o forced at p v r (length c.in-Ok.puts.items) (vec_capacity c.in-Ok.puts) c.receipts.ensures c.sends.ensures c.drops.ensures (not_yet o.forces o.forced at forced reach (behind (omega (arith, ap length same, c.requires.ready.some)))) (room forced reach));
      lands = λ at rs. refl;
      fits = λ at. ap (λ (o : Option Record). numbers_fit (led_by who at p v o)) last ∙ sym (c.keeps_limits.ensures who at) ∙ c.if-not-keeps_limits.false;
      forces = λ at. c.came-came.ensures.must v (led_by who at p v (last_in adds)) refl (behind at);
      came = λ at u txn. c.came-came.ensures.came v u refl (txn ∙ behind at);
    }

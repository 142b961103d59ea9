use Rattle.std.proofs.Common.{◌≡◌, ◌∙◌, sym, ap, refl, subst, ℕ, List, [], length}
use Rattle.std.specs.List.{AllByRecursion}
use Rattle.std.specs.Vec.{vec_capacity}
use Rattle.ic_base.specs.declared.messages.Packet.{Packet}
use Rattle.ic_base.specs.declared.record.Record.{Record}
use Rattle.ic_ckpt.specs.Views.{seen}
use Rattle.ic_pcom.specs.Effects.{effects_of}
use Rattle.ic_wire.specs.Placed.{IsCounted}
use Rattle.ic_pcom.specs.Carrying.{marked_in}
use Rattle.ic_pcom.specs.Landing.{MayReach}
use Rattle.ic_pcom.specs.Telling.{HasRoomFor}
use Rattle.ic_pcom.specs.declared.telling.Outgoing.{Outgoing}
use Rattle.ic_pcom.proofs.Landed.{marked_fits, marked_txn}
use Rattle.ic_pcom.proofs.Rooms.{room_marked}
use Rattle.ic_pcom.proofs.ready.ready_alone.Goals as goal

pub returns-clause-ready : goal.returns-clause-ready
returns-clause-ready c =
    let v = seen c.args.state.now in
    let e = effects_of c.args.decided in
    let none : c.replace-adds.result ≡ [] = c.replace-adds.ensures.value ∙ c.requires.none in
    let Counted : List Record → Type 0 = λ rs. AllByRecursion IsCounted rs in
    let puts : c.in-Ok.puts.items ≡ c.replace-answers.result = (c.in-Ok.ensures {u = tt}).answers in
    let o : Outgoing = record { covers = e.covers; forces = c.came-came.result.1; forced = c.args.forced; receipts = 0; messages = 0; drops = v.owes_drop; came = c.came-came.result.0 } in
    let Room : ℕ → Type 0 = λ n. (forced : ℕ) → MayReach o.forces o.forced forced → HasRoomFor o forced n (vec_capacity c.in-Ok.puts) v in
    let room : Room (length c.in-Ok.puts.items) = subst Room (ap length (sym puts)) (c.in-Ok.ensures {u = tt}).room in
    record {
      adds_are = c.replace-adds.ensures.value;
      puts_are = puts ∙ c.replace-answers.ensures.value;
      rest =
          ap (λ (xs : List Record). record e { adds = xs; answers = c.replace-answers.new.dest }) (c.replace-adds.ensures.after ∙ c.new.ensures)
          ∙ ap (λ (ys : List Packet). record e { adds = []; answers = ys }) (c.replace-answers.ensures.after ∙ c.new-2.ensures);
      counted = subst Counted (sym none) tt;
      may = λ at. tt;
      room = λ at forced reach behind. room_marked e.marks o forced v (length c.in-Ok.puts.items) (vec_capacity c.in-Ok.puts) refl (room forced reach);
      lands = λ at rs. refl;
      fits = λ at. marked_fits e.marks v ∙ c.requires.limits;
      forces = λ at. c.came-came.ensures.must v (marked_in e.marks v) refl (marked_txn e.marks v);
      came = λ at u txn. c.came-came.ensures.came v u refl (txn ∙ marked_txn e.marks v);
    }

-- A turn of a berth is a turn of the definitions, and keeps what the berth keeps.
use Rattle.std.proofs.Common.{◌≡◌, refl, sym, ap, subst, ◌∙◌, ℕ, zero, suc, ◌+◌, ◌<◌, Bool, true, false, cond, not, ◌&&◌, List, [], ◌∷◌, ◌++◌, filter, length, arith, Option, Some, None, option_map, option_to_list}
use Rattle.std.specs.Prelude.{slice_get, unwrap_or, slice_index_or, Contains}
use Rattle.std.proofs.lemmas.List.{append-nil}
use Rattle.std.proofs.lemmas.List.Elements.{Contains-append_right}
use Rattle.ic_base.specs.declared.events.Event.{Event}
use Rattle.ic_base.specs.declared.events.Trace.{Trace}
use Rattle.ic_base.specs.declared.messages.ComId.{ComId}
use Rattle.ic_base.specs.declared.messages.Kind.{Kind}
use Rattle.ic_base.specs.declared.messages.Output.{Output}
use Rattle.ic_base.specs.declared.messages.Packet.{Packet}
use Rattle.ic_base.specs.declared.scenario.Program.{Program}
use Rattle.ic_base.specs.Programs.{same_com}
use Rattle.def_step.specs.Settle.{PolicyIntervals}
use Rattle.def_step.specs.World.{Node, External, first_node}
use Rattle.def_facts.specs.Flat.{HasFlatParts}
use Rattle.def_facts.specs.Playable.{IsPlayable}
use Rattle.def_facts.specs.World.{kind_of}
use Rattle.def_live.specs.Facts.{Part}
use Rattle.law_live.specs.Berths.{OwnEvents}
use Rattle.law_run.specs.ProgramBytes.{HasBytes}
use Rattle.def_live.specs.Lanes.{Lanes, HasOneContent}
use Rattle.def_live.specs.Turns as definition
use Rattle.def_live.specs.Turns.{Pop, Choice, Unlisted, Turns, Flushes, StepsAlone, Does, LanesMove, ArePopsOf, choice, flushes, brought, brings, popped_of, senders_of, coms_from}
use Rattle.def_run.specs.SystemStates.{KeepsLog, has_disk}
use Rattle.ic_lane.specs.Lanes.{In, Out}
use Rattle.law_live.specs.Bytes.{HasWords}
use Rattle.law_live.specs.Keeping.{BerthKept, LanesGive}
use Rattle.law_live.proofs.Keeping.{turns_keep_berths, flushes_keep_berths, first_berths_keep}
use Rattle.law_live.proofs.Runs.{chosen, flush-chosen}
use Rattle.ic_live.specs.Ends.{others, at_peer, received_from, sent_to, lanes_at, HaveOneContent, ArePopped, ArePushed, MayPush}
use Rattle.ic_live.specs.Berthed.{berthed}
use Rattle.ic_turn.specs.Standings.{Standing, files_with, Leads, DoesOne, stands_behind, counted}
use Rattle.ic_live.specs.Standings.{berth_of, IsKept}
use Rattle.ic_turn.proofs.Works.{file-in}
use Rattle.law_live.proofs.Among.{among-has}

module _ (program : Program) (print : List ℕ) (c : ComId) (tells : Type 0) (told : tells) where
  -- the event of a choice, had its component put out and got these packets
  pub steps-alone : (x : Choice) (s : Standing) (node : Node) (file : List ℕ) (t : Trace) (sent received : List Packet) → Leads program print c x tells s node file t
      → (m : StepsAlone program print c x (berth_of program c s sent received) (berth_of program c (stands_behind x s node file t) (sent ++ t.puts) (received ++ brings x))) × (m.trace.puts ≡ t.puts)
  steps-alone x s node file t sent received l = (
    record {
      trace = t;
      behind = record { world = l.behind; files = files_with program c file };
      step = l.core told;
      part = ap (λ o. record { node = unwrap_or o External; sent = sent ++ t.puts; received = received ++ brings x; showings = s.shown ++ definition.shown_in t }) (sym l.leads);
      files = refl;
      left = refl;
      answers = refl;
      turns = refl;
    },
    refl,
  )

  pub does-one : (o : Option Choice) (puts : List Packet) (s r : Standing) (sent received more : List Packet) → ((x : Choice) → o ≡ Some x → brings x ≡ more) → (o ≡ None → more ≡ []) → DoesOne program print c o tells puts s r
      → Does program print c o puts (berth_of program c s sent received) (berth_of program c r (sent ++ puts) (received ++ more))
  does-one None puts s r sent received more is none d = (
    ap (λ z. berth_of program c z (sent ++ puts) (received ++ more)) d.0
        ∙ ap (λ z. berth_of program c s (sent ++ z) (received ++ more)) d.1
        ∙ ap (λ z. berth_of program c s z (received ++ more)) (append-nil sent)
        ∙ ap (λ z. berth_of program c s sent (received ++ z)) (none refl)
        ∙ ap (λ z. berth_of program c s sent z) (append-nil received),
    d.1,
  )
  does-one (Some x) puts s r sent received more is none d =
      let y = steps-alone x s d.0 d.1 d.2 sent received d.3 in
      let P : Standing × List Packet × List Packet → Type 0 = λ z. (m : StepsAlone program print c x (berth_of program c s sent received) (berth_of program c z.0 (sent ++ z.1) (received ++ z.2))) × (m.trace.puts ≡ z.1) in
      subst P (λ i. (sym d.4 i, d.5 i, is x refl i)) y

-- lanes ------------------------------------------------------------------------------------------------------

-- a lane with nothing but what its end received has one content
pub contents-from : (peers : List ComId) (ins : List In) → HaveOneContent ins → (from : ComId) → HasOneContent (received_from peers ins from)
contents-from [] ins all from = λ m n hm hn k. absurd (omega (arith, hm.1))
contents-from (p ∷ peers) [] all from = λ m n hm hn k. absurd (omega (arith, hm.1))
contents-from (p ∷ peers) (x ∷ ins) all from = by (same_com from p) (contents-from peers ins (λ k y e. all (suc k) y e) from)
  where
    by : (b : Bool) → HasOneContent (received_from peers ins from) → HasOneContent (cond b x.received (received_from peers ins from))
    by true more = all 0 x refl
    by false more = more

-- ends of which each is empty
none-at : {A : Type 0} (read : A → List Packet) (peers : List ComId) (ends : List A) → ((k : ℕ) (x : A) → slice_get ends k ≡ Some x → read x ≡ []) → (d : ComId) → at_peer [] read peers ends d ≡ []
none-at read [] ends none d = refl
none-at read (p ∷ peers) [] none d = refl
none-at read (p ∷ peers) (x ∷ ends) none d = by (same_com d p) (none-at read peers ends (λ k y e. none (suc k) y e) d)
  where
    by : (b : Bool) → at_peer [] read peers ends d ≡ [] → cond b (read x) (at_peer [] read peers ends d) ≡ []
    by true more = none 0 x refl
    by false more = more

module _ (c : ComId) (peers : List ComId) (olds news : List In) (pops : List Pop) (popped : ArePopped peers olds news pops) where
  -- what a pop gave is only of lanes to c
  gained : (from to : ComId) → same_com to c ≡ true → (lanes_at c peers news [] from to).received ≡ received_from peers news from
  gained from to e = ap (λ b. cond b (received_from peers news from) []) e

  pub lanes-move : (outs now : List Out) (puts : List Packet) → ArePushed c peers outs now puts → (self : same_com c c ≡ true) → LanesMove c pops puts (lanes_at c peers olds outs) (lanes_at c peers news now)
  lanes-move outs now puts pushed self = record {
    popped = λ from. ap (λ b. cond b (received_from peers news from) []) self ∙ popped.gains from ∙ ap (λ b. cond b (received_from peers olds from) [] ++ popped_of from pops) (sym self);
    pushed = λ to. let x = pushed.pushed to in (
      x.taken,
      x.among,
      ap (λ b. cond b (sent_to peers now to) []) self ∙ x.sent ∙ ap (λ b. cond b (sent_to peers outs to) [] ++ x.taken) (sym self),
    );
  }

  -- as long as nothing is pushed
  pub lanes-wait : (outs : List Out) (puts : List Packet) → (self : same_com c c ≡ true) → LanesMove c pops puts (lanes_at c peers olds outs) (lanes_at c peers news outs)
  lanes-wait outs puts self = record {
    popped = λ from. ap (λ b. cond b (received_from peers news from) []) self ∙ popped.gains from ∙ ap (λ b. cond b (received_from peers olds from) [] ++ popped_of from pops) (sym self);
    pushed = λ to. ([], tt, sym (append-nil (cond (same_com c c) (sent_to peers outs to) [])));
  }

  pub lanes-give : (outs : List Out) → (self : same_com c c ≡ true) → HaveOneContent news → ((p : Packet) → brought c pops ≡ Some p → HasWords p) → LanesGive c pops (lanes_at c peers news outs)
  lanes-give outs self contents words = record {
    one_content = λ from. subst HasOneContent (sym (ap (λ b. cond b (received_from peers news from) []) self)) (contents-from peers news contents from);
    words = λ p h. by (brought c pops) refl p h;
  }
    where
      by : (o : Option Packet) → brought c pops ≡ o → (p : Packet) → Contains (option_to_list o) p → HasWords p
      by None e p h = absurd (omega (arith, h.1))
      by (Some q) e p h = words p (e ∙ ap (λ z. Some z) (only h.0 h.1 h.2))
        where
          only : (k : ℕ) → k < 1 → slice_index_or (q ∷ []) k p ≡ p → q ≡ p
          only zero small is = is
          only (suc k) small is = absurd (omega (arith, small))

-- what a berth keeps ---------------------------------------------------------------------------------------

module _ (program : Program) (print : List ℕ) (c : ComId) (plan : List Event) (self : same_com c c ≡ true) (ins news : List In) (outs : List Out) (pops : List Pop) (popped : ArePopped (berthed program) ins news pops)
    (contents : HaveOneContent news) (words : (p : Packet) → brought c pops ≡ Some p → HasWords p) (s r : Standing) (puts : List Packet) where
  abbrev pub peers : List ComId
  peers = berthed program

  -- what the lanes give behind the pops
  gives : (now : List Out) → LanesGive c pops (lanes_at c peers news now)
  gives now = lanes-give c peers ins news pops popped now self contents words

  -- from what holds of a step whatever lanes it moves
  module _ (k : IsKept program print c plan s ins outs)
      (step : (new : Lanes) → LanesMove c pops puts (lanes_at c peers ins outs) new → LanesGive c pops new
      → BerthKept program print c plan new k.here (berth_of program c s k.sent k.received) (berth_of program c r (k.sent ++ puts) (k.received ++ option_to_list (brought c pops))) puts) where
    -- each push keeps the rule of its lane
    pub may-push : MayPush c peers outs puts
    may-push =
        let b = step (lanes_at c peers news outs) (lanes-wait c peers ins news pops popped outs puts self) (gives outs) in
        record {
          all = k.sent ++ puts;
          took = λ to p h. let own : (lanes_at c peers news outs c to).sent ≡ sent_to peers outs to = ap (λ t. cond t (sent_to peers outs to) []) self in
              let there = subst (λ l. Contains l p) (sym own) h in (among-has (lanes_at c peers news outs c to).sent (k.sent ++ puts) p (b.keeps.own.outs to) there, b.keeps.own.pairs to p there);
          are_put = λ p h. Contains-append_right k.sent puts p h;
          one_content = b.one_content;
        }

    -- the berth keeps its facts behind the pushes
    pub kept-behind : (now : List Out) → ArePushed c peers outs now puts → IsKept program print c plan r news now
    kept-behind now pushed =
        let b = step (lanes_at c peers news now) (lanes-move c peers ins news pops popped outs now puts pushed self) (gives now) in
        record {
          playable = k.playable;
          flat = k.flat;
          bytes = k.bytes;
          sent = k.sent ++ puts;
          received = k.received ++ option_to_list (brought c pops);
          here = b.later;
          keeps = b.keeps;
          contents = contents;
        }

  -- a turn
  pub turn-step : (policy : PolicyIntervals) (k : IsKept program print c plan s ins outs) → Turns program print policy c pops puts (berth_of program c s k.sent k.received) (berth_of program c r (k.sent ++ puts) (k.received ++ option_to_list (brought c pops))) → (new : Lanes)
      → LanesMove c pops puts (lanes_at c peers ins outs) new → LanesGive c pops new → BerthKept program print c plan new k.here (berth_of program c s k.sent k.received) (berth_of program c r (k.sent ++ puts) (k.received ++ option_to_list (brought c pops))) puts
  turn-step policy k turns new moves give = turns_keep_berths program print policy c plan pops puts (lanes_at c peers ins outs) new k.here (berth_of program c s k.sent k.received) (berth_of program c r (k.sent ++ puts) (k.received ++ option_to_list (brought c pops))) k.playable k.flat k.bytes turns moves give k.keeps

-- a flush, which pops nothing
pub flush-step : (program : Program) (print : List ℕ) (c : ComId) (plan : List Event) (ins : List In) (outs : List Out) (s r : Standing) (puts : List Packet) (k : IsKept program print c plan s ins outs)
    → Flushes program print c puts (berth_of program c s k.sent k.received) (berth_of program c r (k.sent ++ puts) (k.received ++ [])) → (new : Lanes) → LanesMove c [] puts (lanes_at c (berthed program) ins outs) new → LanesGive c [] new
    → BerthKept program print c plan new k.here (berth_of program c s k.sent k.received) (berth_of program c r (k.sent ++ puts) (k.received ++ [])) puts
flush-step program print c plan ins outs s r puts k flushed new moves give =
    flushes_keep_berths program print c plan puts (lanes_at c (berthed program) ins outs) new k.here (berth_of program c s k.sent k.received) (berth_of program c r (k.sent ++ puts) (k.received ++ [])) k.playable k.flat k.bytes flushed moves give k.keeps

-- where it begins
pub first-kept : (program : Program) (print : List ℕ) (c : ComId) (kind : Kind) (s : Standing) (ins : List In) (outs : List Out) → IsPlayable program → HasFlatParts program → HasBytes program → kind_of program c ≡ Some kind → c.0 < length program.components → s.node ≡ first_node program c kind → s.shown ≡ [] → s.answers ≡ []
    → KeepsLog print c s.file (Some s.node) → OwnEvents program c s.left → ((k : ℕ) (x : In) → slice_get ins k ≡ Some x → x.received ≡ []) → ((k : ℕ) (x : Out) → slice_get outs k ≡ Some x → x.sent ≡ []) → IsKept program print c s.left s ins outs
first-kept program print c kind s ins outs play flat bytes is there node shown answers log own no_in no_out = record {
  playable = play;
  flat = flat;
  bytes = bytes;
  sent = [];
  received = [];
  here = 0;
  keeps = first_berths_keep program print c kind (lanes_at c (berthed program) ins outs) (berth_of program c s [] []) bytes is
      (let P : Node × List Output → Part = λ z. record { node = z.0; sent = []; received = []; showings = z.1 } in ap P (λ i. (node i, shown i))) answers
      (subst (λ f. KeepsLog print c f (Some s.node)) (sym (file-in program c s.file there)) log) own (λ to. none-there (same_com c c) (none-at (λ (o : Out). o.sent) (berthed program) outs no_out to))
      (λ from. none-there (same_com c c) (none-at (λ (x : In). x.received) (berthed program) ins no_in from));
  contents = λ k x e. subst HasOneContent (sym (no_in k x e)) (λ m n hm hn same. absurd (omega (arith, hm.1)));
}
  where
    none-there : (b : Bool) {xs : List Packet} → xs ≡ [] → cond b xs [] ≡ []
    none-there true e = e
    none-there false e = refl

-- the lanes of others are those of the other berthed components
pub senders-are : (program : Program) (c : ComId) → others c (berthed program) ≡ senders_of program c
senders-are program c = both (coms_from 0 program.components)
  where
    both : (xs : List ComId) → filter (λ d. not (same_com c d)) (filter (has_disk program) xs) ≡ filter (λ d. has_disk program d && not (same_com c d)) xs
    both [] = refl
    both (x ∷ xs) = by (has_disk program x) (not (same_com c x)) refl (both xs)
      where
        by : (a b : Bool) → not (same_com c x) ≡ b → filter (λ d. not (same_com c d)) (filter (has_disk program) xs) ≡ filter (λ d. has_disk program d && not (same_com c d)) xs
            → filter (λ d. not (same_com c d)) (cond a (x ∷ filter (has_disk program) xs) (filter (has_disk program) xs)) ≡ cond (a && b) (x ∷ filter (λ d. has_disk program d && not (same_com c d)) xs) (filter (λ d. has_disk program d && not (same_com c d)) xs)
        by false b e more = more
        by true b e more = ap (λ t. cond t (x ∷ filter (λ d. not (same_com c d)) (filter (has_disk program) xs)) (filter (λ d. not (same_com c d)) (filter (has_disk program) xs))) e ∙ ap (λ l. cond b (x ∷ l) l) more

module _ (program : Program) (print : List ℕ) (c : ComId) (tells : Type 0) (told : tells) (puts : List Packet) (s r : Standing) (sent received : List Packet) (own : OwnEvents program c s.left) where
  -- the turn of a berth is one of the definitions
  pub turn-is : (policy : PolicyIntervals) (pops : List Pop) → ArePopsOf policy c s.node (senders_of program c) pops → DoesOne program print c (choice program policy c s.node (s.turns + 1) s.left pops) tells puts (counted s) r
      → Turns program print policy c pops puts (berth_of program c s sent received) (berth_of program c r (sent ++ puts) (received ++ option_to_list (brought c pops)))
  turn-is policy pops are does =
      let is = (chosen program policy c s.node (s.turns + 1) s.left (senders_of program c) pops own are).0 in
      record {
        pops_are = are;
        does = does-one program print c tells told (choice program policy c s.node (s.turns + 1) s.left pops) puts (counted s) r sent received (option_to_list (brought c pops)) (λ x e. (is.0 x e).brings_are) (λ e. ap option_to_list (is.1 e)) does;
      }

  -- so is a flush
  pub flush-is : DoesOne program print c (option_map Unlisted (flushes program c s.node)) tells puts s r → Flushes program print c puts (berth_of program c s sent received) (berth_of program c r (sent ++ puts) (received ++ []))
  flush-is does =
      let is = (flush-chosen program c s.node [] s.left refl).0 in
      does-one program print c tells told (option_map Unlisted (flushes program c s.node)) puts s r sent received [] (λ x e. (is.0 x e).brings_are) (λ e. refl) does

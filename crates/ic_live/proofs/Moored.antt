-- What the type of a berth keeps is kept.
use Rattle.std.proofs.Common.{◌≡◌, refl, sym, ap, subst, ◌∙◌, ℕ, ◌+◌, ◌<◌, ◌≤◌, true, false, cond, List, [], map, length, arith, Option, Some, None, option_map}
use Rattle.std.specs.Prelude.{is_some, slice_get}
use Rattle.std.proofs.lemmas.List.{length-map}
use Rattle.std.proofs.lemmas.Option.{same_Some}
use Rattle.ic_base.specs.declared.events.Event.{Event}
use Rattle.ic_base.specs.declared.messages.ComId.{ComId}
use Rattle.ic_base.specs.declared.messages.Packet.{Packet}
use Rattle.ic_base.specs.declared.refusals.WorldRefused.{WorldRefused}
use Rattle.ic_base.specs.declared.scenario.Component.{Component as Declared}
use Rattle.ic_base.specs.declared.scenario.Program.{Program}
use Rattle.def_live.specs.Turns.{Choice}
use Rattle.def_run.specs.SystemStates.{KeepsLog}
use Rattle.ic_disk.specs.declared.disk.Disk.{Ghosts}
use Rattle.atomic_table.specs.Seated.{TableId}
use Rattle.ic_lane.specs.Lanes.{In, Out}
use Rattle.ic_node.specs.Meeting.{KeepsDisk, CrashAdds, GoesOn}
use Rattle.ic_node.specs.Views.{node_of, disk_of, com_of, file_of, is_over, Tells}
use Rattle.ic_node.specs.declared.component.Component.{Component}
use Rattle.ic_turn.specs.Doing.{standing_of, choice_adds}
use Rattle.ic_turn.specs.Progresses.{left_of, answers_of, shown_of, received_of, packets_of, played_of}
use Rattle.ic_turn.specs.Standings.{Standing, DoesOne}
use Rattle.ic_turn.specs.declared.progress.Progress.{Progress}
use Rattle.law_live.specs.Berths.{OwnEvents}
use Rattle.law_live.specs.Meeting.{IsOfSound}
use Rattle.ic_live.specs.Berthed.{berthed, AreLeftOf}
use Rattle.ic_live.specs.Berths.{Berthed, BerthHolds, BeginsBerth, ActsBy, AreEndsOf, AreNamed}
use Rattle.ic_live.specs.Carrying.{MayDo, CarriesOut, next_receives, next_played}
use Rattle.ic_live.specs.Ends.{AreApart, ArePushed, MayPush}
use Rattle.ic_live.specs.Faults.{faults_of}
use Rattle.ic_live.specs.Standings.{IsKept, FitsProgram}
use Rattle.ic_live.proofs.Peers.{berthed-within, berthed-apart}
use Rattle.ic_live.proofs.Closed.{none-past}
use Rattle.ic_live.proofs.Fits.{berthed-has, does-fit, first-fits}
use Rattle.ic_live.proofs.Turning.{first-kept}
use Rattle.ic_live.proofs.Berths.{does-own, does-listed, some-kept, tells-kept, tells-back, faults-kept}
use Rattle.ic_live.proofs.Sounds.{Readied, Sounds}

-- over components with their disks
abbrev pub Fails : {D : Type 0} → Ghosts D → Type 1
Fails {D} d = Program → List ℕ → Option Choice → Component D d → ℕ → ℕ → Component D d → WorldRefused → Type 0

abbrev pub Holds : {D : Type 0} {d : Ghosts D} → Fails d → Program → List ℕ → (ComId → List Event) → (ℕ → ℕ → TableId) → (ℕ → ℕ) → Type 0 → List ℕ → List ComId → Berthed (Component D d) → Type 0
Holds fails program print plan lane began honest fingerprint peers b = BerthHolds (λ x. node_of x) (λ x. com_of x) (λ x. file_of x) (λ x. Tells x) (λ x. is_over x) (λ x. is_some (disk_of x)) (λ x. faults_of x) fails program print plan lane began honest fingerprint peers b

-- ends --------------------------------------------------------------------------------------------------------

pub ends-stay : (lane : ℕ → ℕ → TableId) (place count : ℕ) (ins news : List In) (outs now : List Out) → map (λ x. x.lane) news ≡ map (λ x. x.lane) ins → map (λ o. o.lane) now ≡ map (λ o. o.lane) outs → AreEndsOf lane place count ins outs → AreEndsOf lane place count news now
ends-stay lane place count ins news outs now i o e = (subst (AreNamed count (λ k. lane k place)) (sym i) e.0, subst (AreNamed count (lane place)) (sym o) e.1)

pub outs-count : (lane : ℕ → ℕ → TableId) (place count : ℕ) (ins : List In) (outs : List Out) → AreEndsOf lane place count ins outs → length outs ≡ count
outs-count lane place count ins outs e = sym (length-map outs (λ (o : Out). o.lane)) ∙ e.1.0

pub ins-count : (lane : ℕ → ℕ → TableId) (place count : ℕ) (ins : List In) (outs : List Out) → AreEndsOf lane place count ins outs → length ins ≡ count
ins-count lane place count ins outs e = sym (length-map ins (λ (x : In). x.lane)) ∙ e.0.0

-- what the type keeps ---------------------------------------------------------------------------------------

module _ {D : Type 0} {d : Ghosts D} (fails : Fails d) (program : Program) (print : List ℕ) (plan : ComId → List Event) (lane : ℕ → ℕ → TableId) (began : ℕ → ℕ) (honest : Type 0) (fingerprint : List ℕ) (peers : List ComId) (b : Berthed (Component D d)) (h : Holds fails program print plan lane began honest fingerprint peers b) where
  pub peers-apart : AreApart peers
  peers-apart = subst AreApart (sym h.all_peers) (berthed-apart program)

  pub ins-fit : length b.ins ≡ length peers
  ins-fit = ins-count lane b.place (length (berthed program)) b.ins b.outs h.ends ∙ sym (ap length h.all_peers)

  pub outs-fit : length b.outs ≡ length peers
  outs-fit = outs-count lane b.place (length (berthed program)) b.ins b.outs h.ends ∙ sym (ap length h.all_peers)

  pub is-within : b.refused ≡ None → (com_of b.component).0 < length program.components
  is-within going = berthed-within program b.place (com_of b.component) (h.goes_on going).at_place

  -- a disk that is kept has failed no less
  since-kept : (component : Component D d) → KeepsDisk b.component component → began b.place ≤ faults_of component
  since-kept component kept = omega (arith, h.since, faults-kept d (disk_of b.component) (disk_of component) kept)

  -- behind a refusal
  pub holds-refused : (going : b.refused ≡ None) (next : Option Choice) (component : Component D d) (progress : Progress) (news : List In) (now : List Out) (why : WorldRefused) → KeepsDisk b.component component → map (λ x. x.lane) news ≡ map (λ x. x.lane) b.ins → map (λ o. o.lane) now ≡ map (λ o. o.lane) b.outs
      → MayDo (com_of b.component) next → fails program print next b.component (received_of progress) (packets_of progress) component why → (honest → IsOfSound why)
      → Holds fails program print plan lane began honest fingerprint peers (record { place = b.place; component = component; progress = progress; ins = news; outs = now; policy = b.policy; refused = Some why })
  holds-refused going next component progress news now why kept i o own cause sound = record {
    own_print = h.own_print;
    all_peers = h.all_peers;
    ends = ends-stay lane b.place (length (berthed program)) b.ins news b.outs now i o h.ends;
    has_disk = some-kept d (disk_of b.component) (disk_of component) kept h.has_disk;
    told = λ honest. tells-kept d (disk_of b.component) (disk_of component) kept (h.told honest);
    since = since-kept component kept;
    goes_on = λ e. absurd (cc e);
    ended = λ y e. record {
      old = b.component;
      next = next;
      at_place = (h.goes_on going).at_place;
      own = own;
      cause = subst (λ z. fails program print next b.component (received_of progress) (packets_of progress) component z) (same_Some why y e) cause;
      since = h.since;
      sound = λ z. subst IsOfSound (same_Some why y e) (sound z);
    };
  }

  -- behind an event
  pub holds-behind : (going : b.refused ≡ None) (next : Option Choice) (may : MayDo (com_of b.component) next) (puts : List Packet) (s : Standing) (component : Component D d) (progress : Progress) (news : List In) (now : List Out) → s.left ≡ left_of b.progress → s.node ≡ node_of b.component → DoesOne program print (com_of b.component) next (Tells b.component) puts s (standing_of component progress) → GoesOn b.component component
      → KeepsDisk b.component component → map (λ x. x.lane) news ≡ map (λ x. x.lane) b.ins → map (λ o. o.lane) now ≡ map (λ o. o.lane) b.outs → (honest → IsKept program print (com_of b.component) (plan (com_of b.component)) (standing_of component progress) news now)
      → Holds fails program print plan lane began honest fingerprint peers (record { place = b.place; component = component; progress = progress; ins = news; outs = now; policy = b.policy; refused = None })
  holds-behind going next may puts s component progress news now left node does goes kept i o facts =
      let g = h.goes_on going in
      let c = com_of b.component in
      record {
        own_print = h.own_print;
        all_peers = h.all_peers;
        ends = ends-stay lane b.place (length (berthed program)) b.ins news b.outs now i o h.ends;
        has_disk = some-kept d (disk_of b.component) (disk_of component) kept h.has_disk;
        told = λ honest. tells-kept d (disk_of b.component) (disk_of component) kept (h.told honest);
        since = since-kept component kept;
        goes_on = λ e. record {
          at_place = g.at_place ∙ ap (λ z. Some z) (sym goes.same);
          own = subst (λ z. OwnEvents program z (left_of progress)) (sym goes.same) (does-own program print c next (Tells b.component) puts s (standing_of component progress) does (subst (OwnEvents program c) (sym left) g.own));
          listed = subst (λ z. AreLeftOf (plan z) (left_of progress)) (sym goes.same) (does-listed program print c next (Tells b.component) puts s (standing_of component progress) does (plan c) (subst (AreLeftOf (plan c)) (sym left) g.listed));
          playable = g.playable;
          fits = subst (λ z. FitsProgram program z (node_of component)) (sym goes.same)
              (does-fit program print c (Tells b.component) g.playable (berthed-has program b.place c g.at_place) next puts s (standing_of component progress) may does (subst (FitsProgram program c) (sym node) g.fits));
          going = goes.open_still;
          logs = λ t. let was = tells-back d (disk_of b.component) (disk_of component) kept t in goes.logs was print (g.logs was);
          kept = λ honest. subst (λ z. IsKept program print z (plan z) (standing_of component progress) news now) (sym goes.same) (facts honest);
        };
        ended = λ y e. absurd (cc e);
      }

-- an event ----------------------------------------------------------------------------------------------------

-- What carrying out an event asks of what a berth keeps, and what it makes of it. The code has the event and the peers by other names.
pub record Acting {D : Type 0} {d : Ghosts D} (fails : Fails d) (program : Program) (print : List ℕ) (plan : ComId → List Event) (lane : ℕ → ℕ → TableId) (began : ℕ → ℕ) (honest : Type 0) (fingerprint : List ℕ) (peers : List ComId) (b : Berthed (Component D d)) (p : Program) (news : List In) (s : Standing) (mid : Progress) (next code : Option Choice) (list : List ComId) : Type 0 where
  pub own : MayDo (com_of b.component) code
  pub within : (com_of b.component).0 < length p.components
  pub going : is_over b.component ≡ false
  pub has : is_some (disk_of b.component) ≡ true
  pub logs : Tells b.component → KeepsLog fingerprint (com_of b.component) (file_of b.component) (Some (node_of b.component))
  pub apart : AreApart list
  pub count : length b.outs ≡ length list
  pub once : honest → (puts : List Packet) (r : Standing) → DoesOne p fingerprint (com_of b.component) code (Tells b.component) puts (standing_of b.component mid) r → MayPush (com_of b.component) list b.outs puts
  pub acts : (component : Component D d) (progress : Progress) (now : List Out) → CarriesOut p fingerprint list code b.component mid b.outs component progress now
      → ActsBy p print next s b (record { place = b.place; component = component; progress = progress; ins = news; outs = now; policy = b.policy; refused = b.refused })
  pub holds : (component : Component D d) (progress : Progress) (now : List Out) → KeepsDisk b.component component → CarriesOut p fingerprint list code b.component mid b.outs component progress now
      → Holds fails program print plan lane began honest fingerprint peers (record { place = b.place; component = component; progress = progress; ins = news; outs = now; policy = b.policy; refused = b.refused })
  pub refuses : (component : Component D d) (why : WorldRefused) → fails p fingerprint code b.component (received_of mid) (packets_of mid) component why → fails p print next b.component (received_of b.progress) (packets_of b.progress) component why
  pub ends : (component : Component D d) (progress : Progress) (now : List Out) (why : WorldRefused) → KeepsDisk b.component component → now ≡ b.outs → received_of progress ≡ received_of mid → packets_of progress ≡ packets_of mid → fails p fingerprint code b.component (received_of mid) (packets_of mid) component why
      → Holds fails program print plan lane began honest fingerprint peers (record { place = b.place; component = component; progress = progress; ins = news; outs = now; policy = b.policy; refused = Some why })
  pub adds : (component : Component D d) → CrashAdds (choice_adds p code b.component) b.component component → CrashAdds (choice_adds p next b.component) b.component component

module _ {D : Type 0} {d : Ghosts D} (fails : Fails d) (program : Program) (print : List ℕ) (plan : ComId → List Event) (lane : ℕ → ℕ → TableId) (began : ℕ → ℕ) (honest : Type 0) (fingerprint : List ℕ) (peers : List ComId) (b : Berthed (Component D d)) (h : Holds fails program print plan lane began honest fingerprint peers b) (going : b.refused ≡ None)
    (news : List In) (same : map (λ x. x.lane) news ≡ map (λ x. x.lane) b.ins) (s : Standing) (left : s.left ≡ left_of b.progress) (node : s.node ≡ node_of b.component) (mid : Progress) (stands : standing_of b.component mid ≡ s) (received : received_of mid ≡ received_of b.progress) (packets : packets_of mid ≡ packets_of b.progress) (played : played_of mid ≡ played_of b.progress)
    (next : Option Choice) (may : MayDo (com_of b.component) next)
    (keeps : honest → (puts : List Packet) (r : Standing) → DoesOne program print (com_of b.component) next (Tells b.component) puts s r
    → MayPush (com_of b.component) (berthed program) b.outs puts × ((now : List Out) → ArePushed (com_of b.component) (berthed program) b.outs now puts → IsKept program print (com_of b.component) (plan (com_of b.component)) r news now))
    (sounds : Sounds fails) (ready : honest → Readied program print b.component next) where
  once-so : honest → (puts : List Packet) (r : Standing) → DoesOne program fingerprint (com_of b.component) next (Tells b.component) puts (standing_of b.component mid) r → MayPush (com_of b.component) peers b.outs puts
  once-so y puts r does =
      let P : List ℕ × Standing → Type 0 = λ z. DoesOne program z.0 (com_of b.component) next (Tells b.component) puts z.1 r in
      subst (λ z. MayPush (com_of b.component) z b.outs puts) (sym h.all_peers) ((keeps y puts r (subst P (λ i. (h.own_print i, stands i)) does)).0)

  logs-so : Tells b.component → KeepsLog fingerprint (com_of b.component) (file_of b.component) (Some (node_of b.component))
  logs-so t = subst (λ z. KeepsLog z (com_of b.component) (file_of b.component) (Some (node_of b.component))) (sym h.own_print) ((h.goes_on going).logs t)

  refuses-so : (component : Component D d) (why : WorldRefused) → fails program fingerprint next b.component (received_of mid) (packets_of mid) component why → fails program print next b.component (received_of b.progress) (packets_of b.progress) component why
  refuses-so component why f =
      let P : List ℕ × ℕ × ℕ → Type 0 = λ z. fails program z.0 next b.component z.1 z.2 component why in
      subst P (λ i. (h.own_print i, received i, packets i)) f

  ends-so : (component : Component D d) (progress : Progress) (now : List Out) (why : WorldRefused) → KeepsDisk b.component component → now ≡ b.outs → received_of progress ≡ received_of mid → packets_of progress ≡ packets_of mid → fails program fingerprint next b.component (received_of mid) (packets_of mid) component why
      → Holds fails program print plan lane began honest fingerprint peers (record { place = b.place; component = component; progress = progress; ins = news; outs = now; policy = b.policy; refused = Some why })
  ends-so component progress now why kept o r q f =
      let P : List ℕ × ℕ × ℕ → Type 0 = λ z. fails program z.0 next b.component z.1 z.2 component why in
      holds-refused fails program print plan lane began honest fingerprint peers b h going next component progress news now why kept same (ap (map (λ (x : Out). x.lane)) o) may (subst P (λ i. (h.own_print i, sym r i, sym q i)) f)
      (λ y. sounds program print b.component next (received_of mid) (packets_of mid) component why (ready y) (subst (λ z. fails program z next b.component (received_of mid) (packets_of mid) component why) h.own_print f))

  module _ (component : Component D d) (progress : Progress) (now : List Out) (carried : CarriesOut program fingerprint peers next b.component mid b.outs component progress now) where
    does-so : DoesOne program print (com_of b.component) next (Tells b.component) carried.puts s (standing_of component progress)
    does-so = let P : List ℕ × Standing → Type 0 = λ z. DoesOne program z.0 (com_of b.component) next (Tells b.component) carried.puts z.1 (standing_of component progress) in subst P (λ i. (h.own_print i, stands i)) carried.does

    pushed-so : ArePushed (com_of b.component) (berthed program) b.outs now carried.puts
    pushed-so = subst (λ z. ArePushed (com_of b.component) z b.outs now carried.puts) h.all_peers carried.pushed

    acts-so : ActsBy program print next s b (record { place = b.place; component = component; progress = progress; ins = news; outs = now; policy = b.policy; refused = b.refused })
    acts-so = record {
      puts = carried.puts;
      does = does-so;
      pushed = pushed-so;
      received = carried.received ∙ ap (λ n. n + cond (next_receives program (com_of b.component) next (node_of b.component)) 1 0) received;
      packets = carried.packets ∙ ap (λ n. n + length carried.puts) packets;
      played = carried.played ∙ ap (λ n. next_played next n (node_of b.component) (node_of component)) played;
      going = going;
    }

    holds-so : KeepsDisk b.component component → Holds fails program print plan lane began honest fingerprint peers (record { place = b.place; component = component; progress = progress; ins = news; outs = now; policy = b.policy; refused = b.refused })
    holds-so kept = subst (λ r. Holds fails program print plan lane began honest fingerprint peers (record { place = b.place; component = component; progress = progress; ins = news; outs = now; policy = b.policy; refused = r })) (sym going) (holds-behind fails program print plan lane began honest fingerprint peers b h going next may carried.puts s component progress news now left node does-so carried.goes_on kept same pushed-so.lanes (λ y. (keeps y carried.puts (standing_of component progress) does-so).1 now pushed-so))

  acting-here : Acting fails program print plan lane began honest fingerprint peers b program news s mid next next peers
  acting-here = record {
    own = may;
    within = is-within fails program print plan lane began honest fingerprint peers b h going;
    going = (h.goes_on going).going;
    has = h.has_disk;
    logs = logs-so;
    apart = peers-apart fails program print plan lane began honest fingerprint peers b h;
    count = outs-fit fails program print plan lane began honest fingerprint peers b h;
    once = once-so;
    acts = λ component progress now carried. acts-so component progress now carried;
    holds = λ component progress now kept carried. holds-so component progress now carried kept;
    refuses = refuses-so;
    ends = ends-so;
    adds = λ component added. added;
  }

  pub acting : (code : Option Choice) (list : List ComId) → code ≡ next → list ≡ peers → Acting fails program print plan lane began honest fingerprint peers b program news s mid next code list
  acting code list is all =
      let P : Option Choice × List ComId → Type 0 = λ z. Acting fails program print plan lane began honest fingerprint peers b program news s mid next z.0 z.1 in
      subst P (λ i. (sym is i, sym all i)) acting-here

-- the program is the scene's
pub acting-of : {D : Type 0} {d : Ghosts D} (fails : Fails d) (program p : Program) (print : List ℕ) (plan : ComId → List Event) (lane : ℕ → ℕ → TableId) (began : ℕ → ℕ) (honest : Type 0) (fingerprint : List ℕ) (peers : List ComId) (b : Berthed (Component D d)) (news : List In) (s : Standing) (mid : Progress) (next : Program → Option Choice) (code : Option Choice) (list : List ComId)
    → p ≡ program → Acting fails program print plan lane began honest fingerprint peers b program news s mid (next program) code list → Acting fails program print plan lane began honest fingerprint peers b p news s mid (next p) code list
acting-of fails program p print plan lane began honest fingerprint peers b news s mid next code list is a = subst (λ z. Acting fails program print plan lane began honest fingerprint peers b z news s mid (next z) code list) (sym is) a

-- where it begins ---------------------------------------------------------------------------------------------

pub declared-kind : (program : Program) (c : ComId) → c.0 < length program.components → (x : Declared) × (slice_get program.components c.0 ≡ Some x)
declared-kind program c there = by (slice_get program.components c.0) refl
  where
    by : (o : Option Declared) → slice_get program.components c.0 ≡ o → (x : Declared) × (slice_get program.components c.0 ≡ Some x)
    by (Some x) e = (x, e)
    by None e = let p = none-past program.components c.0 e in absurd (omega (arith, p, there))

pub first-holds : {D : Type 0} {d : Ghosts D} (fails : Fails d) (program : Program) (print : List ℕ) (plan : ComId → List Event) (lane : ℕ → ℕ → TableId) (began : ℕ → ℕ) (honest : Type 0) (fingerprint : List ℕ) (peers : List ComId) (b : Berthed (Component D d)) (events : List Event) → fingerprint ≡ print → BeginsBerth program print plan lane began honest b.place b.component peers b.ins b.outs events
    → b.refused ≡ None → left_of b.progress ≡ events → shown_of b.progress ≡ [] → answers_of b.progress ≡ [] → Holds fails program print plan lane began honest fingerprint peers b
first-holds fails program print plan lane began honest fingerprint peers b events is begins going left shown answers =
    let c = com_of b.component in
    let at : slice_get (berthed program) b.place ≡ Some c = ap (λ l. slice_get l b.place) (sym begins.all_peers) ∙ begins.at_place in
    let there = berthed-within program b.place c at in
    let x = declared-kind program c there in
    let own : OwnEvents program c (left_of b.progress) = subst (OwnEvents program c) (sym left) begins.own in
    record {
      own_print = is;
      all_peers = begins.all_peers;
      ends = subst (λ n. AreEndsOf lane b.place n b.ins b.outs) (ap length begins.all_peers) begins.ends;
      has_disk = begins.has_disk;
      told = begins.told;
      since = begins.since;
      goes_on = λ e. record {
        at_place = at;
        own = own;
        listed = ([], sym (left ∙ begins.listed));
        playable = begins.playable;
        fits = first-fits program c x.0 (node_of b.component) x.1 (begins.up.first x.0 x.1);
        going = begins.up.going;
        logs = begins.up.logs;
        kept = λ h. subst (λ l. IsKept program print c l (standing_of b.component b.progress) b.ins b.outs) (left ∙ begins.listed)
            (first-kept program print c x.0.kind (standing_of b.component b.progress) b.ins b.outs begins.playable begins.flat begins.bytes (ap (option_map (λ (y : Declared). y.kind)) x.1) there (begins.up.first x.0 x.1) shown answers (begins.up.logs (begins.told h)) own begins.none_received begins.none_sent);
      };
      ended = λ why e. absurd (cc (sym going ∙ e));
    }

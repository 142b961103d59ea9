-- What a step of a Pcom leaves to be played.
use Rattle.std.proofs.Common.{◌≡◌, ◌∙◌, refl, ap, subst, ℕ, ◌≤◌, Bool, true, false, cond, List, [], ◌∷◌, length, Option, Some, None, option_map, arith}
use Rattle.std.specs.Prelude.{is_some}
use Rattle.ic_base.specs.declared.messages.ComId.{ComId}
use Rattle.ic_base.specs.declared.messages.Msg.{Msg}
use Rattle.ic_base.specs.declared.messages.Packet.{Packet}
use Rattle.ic_base.specs.declared.messages.Packet.TheVariants.{Data, Stable, Installed, Fetch, Op, OpReply, Commit, Outcome, Drop}
use Rattle.ic_base.specs.declared.record.Record.{Record}
use Rattle.ic_base.specs.declared.scenario.Program.{Program}
use Rattle.def_state.specs.Fits.{fits}
use Rattle.def_state.specs.Names.{Identity}
use Rattle.def_state.specs.Vol.{Vol, standing, record_in, numbers_fit}
use Rattle.def_step.specs.Packets.{fits_pcom}
use Rattle.def_step.specs.Pcom.{Pcom, Log, Call, Gives, Gets, Forces, Checkpoints, Resends, Emits, Effects, StepResult, is_replaying, decide, stands_at, standing_at, fed, stays, is_needed, packet_at_replay, replay_step, pcom_step, append, absorb, marked, absorb_choice, force_if, force_where, cover_if, carry_out}
use Rattle.def_step.specs.Replay.{Playing, play_records, feed, waits_for}

-- the records that are still to be played are no more
abbrev NoMore : List Record → Option Playing → Type 0
NoMore rs None = Unit {0}
NoMore rs (Some x) = length x.rest ≤ length rs

more : (r : Record) (rs : List Record) (o : Option Playing) → NoMore rs o → NoMore (r ∷ rs) o
more r rs None h = tt
more r rs (Some x) h = omega (arith, h)

in_turn : (program : Program) (c : ComId) (v : Vol) (r : Record) (rs : List Record) (later : Option Playing) (fit waits within : Bool) → NoMore rs later
    → NoMore (r ∷ rs) (cond fit (cond waits (Some (record { vol = v; rest = r ∷ rs })) (cond within later None)) None)
in_turn program c v r rs later false waits within h = tt
in_turn program c v r rs later true true within h = omega arith
in_turn program c v r rs later true false true h = more r rs later h
in_turn program c v r rs later true false false h = tt

plays : (program : Program) (c : ComId) (v : Vol) (rs : List Record) → NoMore rs (play_records program c v rs)
plays program c v [] = omega arith
plays program c v (r ∷ rs) =
    in_turn program c v r rs (play_records program c (record_in program c 0 None v r) rs) (fits program c (standing program c v) r) (is_some (waits_for r)) (numbers_fit (record_in program c 0 None v r))
    (plays program c (record_in program c 0 None v r) rs)

fed_if : (within : Bool) (r : Record) (rs : List Record) (later : Option Playing) → NoMore rs later → NoMore (r ∷ rs) (cond within later None)
fed_if true r rs later h = more r rs later h
fed_if false r rs later h = tt

feeds : (program : Program) (c : ComId) (v : Vol) (m : Msg) (rs : List Record) → NoMore rs (feed program c v m rs)
feeds program c v m [] = omega arith
feeds program c v m (r ∷ rs) = fed_if (numbers_fit (record_in program c 0 (Some m) v r)) r rs (play_records program c (record_in program c 0 (Some m) v r) rs) (plays program c (record_in program c 0 (Some m) v r) rs)

-- what a step leaves to be played
abbrev Leaves : ℕ → Option StepResult → Type 0
Leaves n None = Unit {0}
Leaves n (Some t) = length t.pcom.rest ≤ n

stood : (log : Log) (v : Vol) (rs : List Record) → (standing_at log v rs).rest ≡ rs
stood log v [] = refl
stood log v (r ∷ rs) = refl

told_fed : (c : ComId) (p : Pcom) (b : Bool) → (x y : StepResult) → x.pcom.rest ≡ p.rest → y.pcom.rest ≡ p.rest → (cond b x y).pcom.rest ≡ p.rest
told_fed c p true x y e f = e
told_fed c p false x y e f = f

fed_rest : (c : ComId) (p : Pcom) → (fed c p).pcom.rest ≡ p.rest
fed_rest c p = told_fed c p (is_replaying p) _ _ refl refl

fed_leaves : (c : ComId) (log : Log) (rs : List Record) (o : Option Playing) → NoMore rs o → Leaves (length rs) (option_map (λ x. fed c (stands_at log x)) o)
fed_leaves c log rs None h = tt
fed_leaves c log rs (Some x) h =
    let same : (fed c (stands_at log x)).pcom.rest ≡ x.rest = fed_rest c (stands_at log x) ∙ stood log x.vol x.rest in
    omega (arith, h, ap length same)

either : (n : ℕ) (b : Bool) (x y : Option StepResult) → Leaves n x → Leaves n y → Leaves n (cond b x y)
either n true x y p q = p
either n false x y p q = q

stay : (p : Pcom) (puts : List Packet) → Leaves (length p.rest) (stays p puts)
stay p puts = omega arith

packets : (program : Program) (c : ComId) (p : Pcom) (packet : Packet) → Leaves (length p.rest) (packet_at_replay program c p packet)
packets program c p (Data m) =
    either (length p.rest) (is_needed p.rest m) _ (stays p []) (fed_leaves c p.log p.rest (feed program c p.vol m p.rest) (feeds program c p.vol m p.rest)) (stay p [])
packets program c p (Fetch from to k) = omega arith
packets program c p (Stable from to k) = stay p []
packets program c p (Installed from to k) = stay p []
packets program c p (Op from to n place session request) = stay p []
packets program c p (OpReply from to n place session value) = stay p []
packets program c p (Commit from to n place session stamp) = stay p []
packets program c p (Outcome from to n place session decision) = stay p []
packets program c p (Drop from to n) = stay p []

-- one that is up has nothing to play, before and behind --------------------------------------

absorbed : (program : Program) (c : ComId) (content : Option Msg) (p : Pcom) (rs : List Record) → (absorb program c content p rs).rest ≡ p.rest
absorbed program c content p [] = refl
absorbed program c content p (r ∷ rs) = absorbed program c content (append program c content p r) rs

mark : (p : Pcom) (o : Option Identity) → (marked p o).rest ≡ p.rest
mark p None = refl
mark p (Some x) = refl

force : (b : Bool) (p : Pcom) → (force_if b p).rest ≡ p.rest
force true p = refl
force false p = refl

cover : (b : Bool) (p : Pcom) → (cover_if b p).rest ≡ p.rest
cover true p = refl
cover false p = refl

carried : (program : Program) (c : ComId) (p : Pcom) (d : Effects) → (carry_out program c p d).pcom.rest ≡ p.rest
carried program c p d =
    let q = absorb_choice program c d p in
    let one : q.rest ≡ p.rest = absorbed program c d.content (marked p d.marks) d.adds ∙ mark p d.marks in
    let two : (force_where p.vol d q).rest ≡ p.rest = cover d.covers _ ∙ force _ q ∙ one in
    told_fed c p d.is_quiet _ _ two two

replays : (program : Program) (c : ComId) (p : Pcom) (call : Call) → Leaves (length p.rest) (replay_step program c p call)
replays program c p (Gets packet) = either (length p.rest) (fits_pcom program c packet) (packet_at_replay program c p packet) (stays p []) (packets program c p packet) (stay p [])
replays program c p (Gives handler args) = stay p []
replays program c p Forces = stay p []
replays program c p Checkpoints = stay p []
replays program c p Resends = omega arith
replays program c p Emits = stay p []

-- no step leaves more to be played than there was
pub leaves_no_more : (program : Program) (c : ComId) (p : Pcom) (call : Call) (t : StepResult) → pcom_step program c p call ≡ Some t → length t.pcom.rest ≤ length p.rest
leaves_no_more program c p call t is = by (pcom_step program c p call) (either (length p.rest) (is_replaying p) (replay_step program c p call) _ (replays program c p call) (let same = carried program c p (decide program c p call) in omega (arith, ap length same))) is
  where
    by : (o : Option StepResult) → Leaves (length p.rest) o → o ≡ Some t → length t.pcom.rest ≤ length p.rest
    by None h e = absurd (cc)
    by (Some x) h e = let same : x ≡ t = cc in omega (arith, h, ap (λ (y : StepResult). length y.pcom.rest) same)

-- a call that brings no packet leaves just what there was
abbrev pub IsPlain : Call → Type 0
IsPlain (Gets packet) = ⊥
IsPlain _ = Unit {0}

abbrev Rests : List Record → Option StepResult → Type 0
Rests rs None = Unit {0}
Rests rs (Some t) = t.pcom.rest ≡ rs

each_rests : (rs : List Record) (b : Bool) (x y : Option StepResult) → Rests rs x → Rests rs y → Rests rs (cond b x y)
each_rests rs true x y p q = p
each_rests rs false x y p q = q

replays_rests : (program : Program) (c : ComId) (p : Pcom) (call : Call) → IsPlain call → Rests p.rest (replay_step program c p call)
replays_rests program c p (Gets packet) plain = absurd plain
replays_rests program c p (Gives handler args) plain = refl
replays_rests program c p Forces plain = refl
replays_rests program c p Checkpoints plain = refl
replays_rests program c p Resends plain = refl
replays_rests program c p Emits plain = refl

pub plain_rests : (program : Program) (c : ComId) (p : Pcom) (call : Call) (t : StepResult) → IsPlain call → pcom_step program c p call ≡ Some t → t.pcom.rest ≡ p.rest
plain_rests program c p call t plain is =
    subst (Rests p.rest) is (each_rests p.rest (is_replaying p) (replay_step program c p call) _ (replays_rests program c p call plain) (carried program c p (decide program c p call)))

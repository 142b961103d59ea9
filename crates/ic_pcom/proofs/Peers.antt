-- The senders of taken messages are components that a scenario may have.
use Rattle.std.proofs.Common.{◌≡◌, ◌∙◌, ap, refl, subst, ℕ, ◌<◌, ◌≤◌, ◌⊎◌, inl, inr, Bool, true, false, cond, List, [], ◌∷◌, length, arith, Option, Some, None}
use Rattle.std.specs.Prelude.{◌&&◌, not, nat_lt, is_some, slice_get}
use Rattle.std.specs.List.{AllByRecursion}
use Rattle.std.proofs.lemmas.Bool.{and_parts, and_from, lt-ltb}
use Rattle.std.proofs.lemmas.Option.{slice_get_within}
use Rattle.ic_base.specs.declared.limits.TheConstants.{COMPONENTS}
use Rattle.ic_base.specs.declared.messages.ComId.{ComId}
use Rattle.ic_base.specs.declared.messages.Msg.{Msg}
use Rattle.ic_base.specs.declared.played.Played.{Played}
use Rattle.ic_base.specs.declared.record.Record.{Record}
use Rattle.ic_base.specs.declared.record.Record.TheVariants.{Take, TakeWhole, Input, Value, Outcome, Released, Shown, Checkpoint, Epoch, Decided}
use Rattle.ic_base.specs.declared.scenario.Component.{Component}
use Rattle.ic_base.specs.declared.scenario.Program.{Program}
use Rattle.ic_base.specs.Programs.{declares, is_pcom, is_immediate, has_handler, is_other_pcom}
use Rattle.def_log.specs.Spelling.{IsCom, Fits}
use Rattle.def_standby.specs.Standbys.{content_of, is_missing, played_on, play_all}
use Rattle.def_state.specs.Fits.{fits, may_take, Standing}
use Rattle.def_state.specs.Hist.{Contents}
use Rattle.def_state.specs.Inbox.{Inbox, comes_before, insert_identity}
use Rattle.def_state.specs.Names.{Identity}
use Rattle.def_state.specs.Vol.{Vol, numbers_fit, record_in, take_in_hand, receive, standing}
use Rattle.def_step.specs.Replay.{Playing, waits_for, play_records, feed}
use Rattle.ic_in.specs.Senders.{are_components}
use Rattle.ic_replay.specs.Applying.{applied, entered, come_to_if}
use Rattle.ic_replay.specs.declared.prepared.Prepared.{Prepared}
use Rattle.ic_wire.specs.Placed.{IsCounted}
use Rattle.ic_pcom.specs.Stages.{HasPeers}
use Rattle.ic_pcom.proofs.Waiting.{come_to-inbox, on_inbox, fed_if}

-- a record that takes a message takes it from such a component
abbrev pub FromCom : Record → Type 0
FromCom (Take from k stamp) = IsCom from
FromCom (TakeWhole from k stamp handler args) = IsCom from
FromCom _ = Unit {0}

pub from_fitting : (r : Record) → Fits r → FromCom r
from_fitting (Take from k stamp) fit = fit.0
from_fitting (TakeWhole from k stamp handler args) fit = fit.0
from_fitting (Input stamp handler args) fit = tt
from_fitting (Value n place session value) fit = tt
from_fitting (Outcome stamp n abort) fit = tt
from_fitting (Released to k) fit = tt
from_fitting (Shown m) fit = tt
from_fitting (Checkpoint image) fit = tt
from_fitting (Epoch epoch) fit = tt
from_fitting (Decided stamp c n writes) fit = tt

declared_within : (xs : List Component) (i : ℕ) (test : Component → Bool) (found : Option Component) → slice_get xs i ≡ found → declares test found ≡ true → i < length xs
declared_within xs i test None is declared = cc
declared_within xs i test (Some d) is declared = slice_get_within xs i d is

-- another Pcom of a scenario with no more components than one may have
pub other_is_com : (program : Program) (c d : ComId) → length program.components ≤ COMPONENTS → is_other_pcom program c d ≡ true → IsCom d
other_is_com program c d few is =
    omega (arith, few, declared_within program.components d.0 (λ x. is_pcom x.kind) (slice_get program.components d.0) refl (and_parts _ _ is).0)

fourth : (a b d e f : Bool) → (a && (b && (d && (e && f)))) ≡ true → e ≡ true
fourth true true true true f is = refl
fourth true true true false f is = cc
fourth true true false e f is = cc
fourth true false d e f is = cc
fourth false b d e f is = cc

inner : (a b h : Bool) → (a && (b && h)) ≡ true → (a && b) ≡ true
inner true true h is = refl
inner true false h is = cc
inner false b h is = cc

from_fit : (program : Program) (c : ComId) (s : Standing) (r : Record) → length program.components ≤ COMPONENTS → fits program c s r ≡ true → FromCom r
from_fit program c s (Take from k stamp) few is = other_is_com program c from few (fourth (nat_lt s.clock stamp) s.is_free (not (is_immediate program c)) (is_other_pcom program c from) (not (s.has_taken (record { peer = from; k = k }))) is)
from_fit program c s (TakeWhole from k stamp handler args) few is =
    other_is_com program c from few
    (fourth (nat_lt s.clock stamp) s.is_free (is_immediate program c) (is_other_pcom program c from) (not (s.has_taken (record { peer = from; k = k })))
    (inner (nat_lt s.clock stamp) (may_take program c s true from k) (has_handler program c handler args) is))
from_fit program c s (Input stamp handler args) few is = tt
from_fit program c s (Value n place session value) few is = tt
from_fit program c s (Outcome stamp n abort) few is = tt
from_fit program c s (Released to k) few is = tt
from_fit program c s (Shown m) few is = tt
from_fit program c s (Checkpoint image) few is = tt
from_fit program c s (Epoch epoch) few is = tt
from_fit program c s (Decided stamp d n writes) few is = tt

placed_peer : (b : Bool) (x y : Identity) (ys : List Identity) → IsCom x.peer → are_components (y ∷ ys) ≡ true → are_components (insert_identity x ys) ≡ true
    → are_components (cond b (x ∷ y ∷ ys) (y ∷ insert_identity x ys)) ≡ true
placed_peer true x y ys is all behind = and_from _ _ (lt-ltb x.peer.0 COMPONENTS is) all
placed_peer false x y ys is all behind = and_from _ _ (and_parts (nat_lt y.peer.0 COMPONENTS) (are_components ys) all).0 behind

inserted : (x : Identity) (ys : List Identity) → IsCom x.peer → are_components ys ≡ true → are_components (insert_identity x ys) ≡ true
inserted x [] is all = and_from _ _ (lt-ltb x.peer.0 COMPONENTS is) refl
inserted x (y ∷ ys) is all = placed_peer (comes_before x y) x y ys is all (inserted x ys is (and_parts (nat_lt y.peer.0 COMPONENTS) (are_components ys) all).1)

same_peers : (i j : Inbox) → i ≡ j → are_components j.taken ≡ true → are_components i.taken ≡ true
same_peers i j same all = ap (λ (x : Inbox). are_components x.taken) same ∙ all

pub received : (v : Vol) (from : ComId) (k at : ℕ) (whole : Bool) → IsCom from → HasPeers v → HasPeers (receive v from k at whole)
received v from k at whole is all = inserted (record { peer = from; k = k }) v.inbox.taken is all

-- a record leaves them so
record_peers : (program : Program) (c : ComId) (at : ℕ) (content : Option Msg) (v : Vol) (r : Record) → FromCom r → HasPeers v → HasPeers (record_in program c at content v r)
record_peers program c at None v (Take from k stamp) is all = all
record_peers program c at (Some m) v (Take from k stamp) is all = same_peers _ _ (on_inbox program c at (take_in_hand (receive v from k at false) stamp m.handler m.args)) (received v from k at false is all)
record_peers program c at content v (TakeWhole from k stamp handler args) is all = same_peers _ _ (on_inbox program c at (take_in_hand (receive v from k at true) stamp handler args)) (received v from k at true is all)
record_peers program c at content v (Input stamp handler args) is all = same_peers _ v.inbox (on_inbox program c at (take_in_hand v stamp handler args)) all
record_peers program c at content v (Value n place session value) is all = same_peers _ v.inbox (on_inbox program c at _) all
record_peers program c at content v (Outcome stamp n abort) is all = same_peers _ v.inbox (on_inbox program c at _) all
record_peers program c at content v (Released to k) is all = all
record_peers program c at content v (Shown m) is all = all
record_peers program c at content v (Checkpoint image) is all = all
record_peers program c at content v (Epoch epoch) is all = all
record_peers program c at content v (Decided stamp c2 n writes) is all = all

-- the records are those of a log, or the scenario has no more components than one may have
abbrev pub Named : Program → List Record → Type 0
Named program rs = AllByRecursion Fits rs ⊎ (length program.components ≤ COMPONENTS)

rest_named : (program : Program) (r : Record) (rs : List Record) → Named program (r ∷ rs) → Named program rs
rest_named program r rs (inl fit) = inl fit.1
rest_named program r rs (inr few) = inr few

first_named : (program : Program) (c : ComId) (s : Standing) (r : Record) (rs : List Record) → Named program (r ∷ rs) → fits program c s r ≡ true → FromCom r
first_named program c s r rs (inl fit) is = from_fitting r fit.0
first_named program c s r rs (inr few) is = from_fit program c s r few is

some_peers : (a b : Playing) → ◌≡◌ {A = Option Playing} (Some a) (Some b) → HasPeers a.vol → HasPeers b.vol
some_peers a b e all = let same : a ≡ b = cc in subst (λ (x : Playing). HasPeers x.vol) same all

turned_peers : (v : Vol) (r : Record) (rs : List Record) (later : Option Playing) (x : Playing) (f w n : Bool)
    → HasPeers v → (f ≡ true → later ≡ Some x → HasPeers x.vol)
    → cond f (cond w (Some (record { vol = v; rest = r ∷ rs })) (cond n later None)) None ≡ Some x → HasPeers x.vol
turned_peers v r rs later x false w n all more e = cc
turned_peers v r rs later x true true n all more e = some_peers (record { vol = v; rest = r ∷ rs }) x e all
turned_peers v r rs later x true false false all more e = cc
turned_peers v r rs later x true false true all more e = more refl e

-- records that are played leave them so
pub played_peers : (program : Program) (c : ComId) (v : Vol) (rs : List Record) (x : Playing) → Named program rs → HasPeers v → play_records program c v rs ≡ Some x → HasPeers x.vol
played_peers program c v [] x named all e = some_peers (record { vol = v; rest = [] }) x e all
played_peers program c v (r ∷ rs) x named all e =
    let s = standing program c v in
    let w = record_in program c 0 None v r in
    turned_peers v r rs (play_records program c w rs) x (fits program c s r) (is_some (waits_for r)) (numbers_fit w) all
    (λ is later. played_peers program c w rs x (rest_named program r rs named) (record_peers program c 0 None v r (first_named program c s r rs named is) all) later) e

-- and so does a message that is fed
pub fed_peers : (program : Program) (c : ComId) (v : Vol) (m : Msg) (rs : List Record) (x : Playing) → length program.components ≤ COMPONENTS → ((r : Record) (qs : List Record) → rs ≡ r ∷ qs → FromCom r) → HasPeers v → feed program c v m rs ≡ Some x → HasPeers x.vol
fed_peers program c v m [] x few first all e = some_peers (record { vol = v; rest = [] }) x e all
fed_peers program c v m (r ∷ rs) x few first all e =
    let w = record_in program c 0 (Some m) v r in
    let q = fed_if (numbers_fit w) (play_records program c w rs) x e in
    played_peers program c w rs x (inr few) (record_peers program c 0 (Some m) v r (first r rs refl) all) q.1

-- and so do records that are all played, each Take with its content
all_if : (f m n : Bool) (later : Option Vol) (w : Vol) → cond (f && not m && n) later None ≡ Some w → (f ≡ true) × (later ≡ Some w)
all_if true false true later w e = (refl, e)
all_if true false false later w e = cc
all_if true true n later w e = cc
all_if false m n later w e = cc

pub all_peers : (program : Program) (c : ComId) (contents : Contents) (v : Vol) (rs : List Record) (w : Vol) → Named program rs → HasPeers v → play_all program c contents v rs ≡ Some w → HasPeers w
all_peers program c contents v [] w named all e =
    let same : v ≡ w = cc in
    subst (λ (x : Vol). HasPeers x) same all
all_peers program c contents v (r ∷ rs) w named all e =
    let now = played_on program c contents v r in
    let q = all_if (fits program c (standing program c v) r) (is_missing contents r) (numbers_fit now) (play_all program c contents now rs) w e in
    all_peers program c contents now rs w (rest_named program r rs named) (record_peers program c 0 (content_of contents r) v r (first_named program c (standing program c v) r rs named q.0) all) q.1

come_if-inbox : (c : ComId) (at : ℕ) (v : Vol) (played : Option Played) → (come_to_if c at v played).inbox ≡ v.inbox
come_if-inbox c at v None = refl
come_if-inbox c at v (Some played) = come_to-inbox c at v played

entered_peers : (at : ℕ) (p : Prepared) (v : Vol) (r : Record) → IsCounted r → HasPeers v → HasPeers (entered at p v r)
entered_peers at p v (Take from k stamp) is all = received v from k at false is.0 all
entered_peers at p v (TakeWhole from k stamp handler args) is all = received v from k at true is.0 all
entered_peers at p v (Input stamp handler args) is all = all
entered_peers at p v (Value n place session value) is all = all
entered_peers at p v (Outcome stamp n abort) is all = all
entered_peers at p v (Released to k) is all = all
entered_peers at p v (Shown m) is all = all
entered_peers at p v (Checkpoint image) is all = all
entered_peers at p v (Epoch epoch) is all = all
entered_peers at p v (Decided stamp c n writes) is all = all

-- a record whose numbers fit, applied as it was prepared, leaves them so
pub applied_peers : (c : ComId) (at : ℕ) (p : Prepared) (v : Vol) (r : Record) → IsCounted r → HasPeers v → HasPeers (applied c at p v r)
applied_peers c at p v r is all = same_peers _ _ (come_if-inbox c at (entered at p v r) p.played) (entered_peers at p v r is all)

-- What a world's packets bring to a component was received, as far as its records ask for it.
use Rattle.std.proofs.Common.{◌≡◌, ◌∙◌, refl, ap, sym, true, false, ◌==◌, ◌<◌, Option, Some, None, is_none, ℕ}
use Rattle.std.specs.Prelude.{Contains}
use Rattle.std.proofs.lemmas.List.Elements.{Contains-append_left}
use Rattle.ic_base.specs.declared.messages.ComId.{ComId}
use Rattle.ic_base.specs.declared.messages.Msg.{Msg}
use Rattle.ic_base.specs.declared.messages.Packet.TheVariants.{Data}
use Rattle.ic_base.specs.declared.record.Record.{Record}
use Rattle.ic_base.specs.declared.record.Record.TheVariants as records
use Rattle.ic_base.specs.declared.scenario.Program.{Program}
use Rattle.ic_base.specs.Programs.{same_com, is_a_pcom}
use Rattle.def_step.specs.Pcom.{Pcom, all_of}
use Rattle.def_step.specs.World.{World, Runs, node_at}
use Rattle.def_facts.specs.Logs.{Logs, contents_in, has_identity}
use Rattle.def_facts.specs.World.{Past, IsExplainedBy, forced_logs, whole_logs}
use Rattle.law_replay.proofs.Lists.{front, back, equal-numbers, same-com, open-content, contains-split, true-false}
use Rattle.law_sound.proofs.Sent.{found-data}
use Rattle.law_sound.proofs.Messages.{one_content}
use Rattle.law_step.proofs.Stops.{node-logs}
use Rattle.def_standby.specs.Standbys.{goes_to, contents_to, content_of, is_missing}

pub running-contents : (program : Program) (found : Logs) (here : ComId → ℕ) (w : World) (past : Past) (c : ComId) (q : Pcom) → is_a_pcom program c ≡ true → IsExplainedBy program found here w past → node_at w c ≡ Some (Runs q) →
    (r : Record) → Contains q.log.forced r → is_missing (contents_to c w.packets) r ≡ false → content_of (contents_to c w.packets) r ≡ content_of (contents_in (past.received c)) r
running-contents program found here w past c q pcom f is (records.Take s k stamp) stands none = at (contents_to c w.packets s k) refl none
  where
    at : (o : Option Msg) → contents_to c w.packets s k ≡ o → is_none o ≡ false → contents_to c w.packets s k ≡ contents_in (past.received c) s k
    at None e n = true-false (sym n)
    at (Some m) e n =
        let x = found-data (goes_to c s k) w.packets m e in
        let split = contains-split (all_of q.log) (records.Take s k stamp) (Contains-append_left q.log.forced q.log.buffered (records.Take s k stamp) stands) in
        let y = open-content (λ (z : Msg). z.stamp < stamp) (contents_in (past.received c) s k) ((node-logs program found here w past c (Runs q) f is pcom).whole.take_received split.0 split.1 s k stamp split.2) in
        let z = found-data (has_identity s k) (past.received c) y.0 y.1 in
        let net = f.logs.network c (Data y.0) z.1 in
        let mine = front (has_identity s k m) (same_com c m.to) x.0 in
        let from : y.0.from ≡ m.from = sym (same-com s y.0.from (front (same_com s y.0.from) (k == y.0.k) z.0)) ∙ same-com s m.from (front (same_com s m.from) (k == m.k) mine) in
        let to : y.0.to ≡ m.to = net.0 ∙ same-com c m.to (back (has_identity s k m) (same_com c m.to) x.0) in
        let number : y.0.k ≡ m.k = sym (equal-numbers k y.0.k (back (same_com s y.0.from) (k == y.0.k) z.0)) ∙ equal-numbers k m.k (back (same_com s m.from) (k == m.k) mine) in
        e ∙ sym (y.1 ∙ ap (λ u. Some u) (one_content program found (forced_logs w) (whole_logs w) past f.logs y.0.from m.from y.0 m net.1 (f.packets.sent (Data m) x.1) from to number))
running-contents program found here w past c q pcom f is (records.TakeWhole s k stamp handler args) stands none = refl
running-contents program found here w past c q pcom f is (records.Input stamp handler args) stands none = refl
running-contents program found here w past c q pcom f is (records.Value n place session value) stands none = refl
running-contents program found here w past c q pcom f is (records.Outcome stamp n abort) stands none = refl
running-contents program found here w past c q pcom f is (records.Released to k) stands none = refl
running-contents program found here w past c q pcom f is (records.Shown m) stands none = refl
running-contents program found here w past c q pcom f is (records.Checkpoint image) stands none = refl
running-contents program found here w past c q pcom f is (records.Epoch epoch) stands none = refl
running-contents program found here w past c q pcom f is (records.Decided stamp d n writes) stands none = refl

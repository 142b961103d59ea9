-- What a world's packets bring was received.
use Rattle.std.proofs.Common.{◌≡◌, ◌∙◌, refl, ap, sym, false, ◌==◌, ◌<◌, Option, Some, None, is_none}
use Rattle.ic_base.specs.declared.messages.Msg.{Msg}
use Rattle.ic_base.specs.declared.messages.Packet.TheVariants.{Data}
use Rattle.ic_base.specs.declared.record.Record.TheVariants as records
use Rattle.ic_base.specs.Programs.{same_com}
use Rattle.def_step.specs.World.{Down}
use Rattle.def_facts.specs.Logs.{contents_in, has_identity}
use Rattle.def_facts.specs.World.{forced_logs, whole_logs}
use Rattle.law_replay.proofs.Lists.{front, back, equal-numbers, same-com, open-content, contains-split, true-false}
use Rattle.law_sound.proofs.Sent.{found-data}
use Rattle.law_sound.proofs.Messages.{one_content}
use Rattle.law_step.proofs.Stops.{node-logs}
use Rattle.def_standby.specs.Standbys.{goes_to, contents_to}
use Rattle.law_standby.specs.TakeOvers.{PacketsHaveContents}

pub packets_have_contents : PacketsHaveContents
packets_have_contents program found here w past c log pcom f is (records.Take s k stamp) stands none = at (contents_to c w.packets s k) refl none
  where
    at : (o : Option Msg) → contents_to c w.packets s k ≡ o → is_none o ≡ false → contents_to c w.packets s k ≡ contents_in (past.received c) s k
    at None e n = true-false (sym n)
    at (Some m) e n =
        let x = found-data (goes_to c s k) w.packets m e in
        let split = contains-split log (records.Take s k stamp) stands in
        let y = open-content (λ (z : Msg). z.stamp < stamp) (contents_in (past.received c) s k) ((node-logs program found here w past c (Down log) f is pcom).whole.take_received split.0 split.1 s k stamp split.2) in
        let z = found-data (has_identity s k) (past.received c) y.0 y.1 in
        let net = f.logs.network c (Data y.0) z.1 in
        let mine = front (has_identity s k m) (same_com c m.to) x.0 in
        let from : y.0.from ≡ m.from = sym (same-com s y.0.from (front (same_com s y.0.from) (k == y.0.k) z.0)) ∙ same-com s m.from (front (same_com s m.from) (k == m.k) mine) in
        let to : y.0.to ≡ m.to = net.0 ∙ same-com c m.to (back (has_identity s k m) (same_com c m.to) x.0) in
        let number : y.0.k ≡ m.k = sym (equal-numbers k y.0.k (back (same_com s y.0.from) (k == y.0.k) z.0)) ∙ equal-numbers k m.k (back (same_com s m.from) (k == m.k) mine) in
        e ∙ sym (y.1 ∙ ap (λ u. Some u) (one_content program found (forced_logs w) (whole_logs w) past f.logs y.0.from m.from y.0 m net.1 (f.packets.sent (Data m) x.1) from to number))
packets_have_contents program found here w past c log pcom f is (records.TakeWhole s k stamp handler args) stands none = refl
packets_have_contents program found here w past c log pcom f is (records.Input stamp handler args) stands none = refl
packets_have_contents program found here w past c log pcom f is (records.Value n place session value) stands none = refl
packets_have_contents program found here w past c log pcom f is (records.Outcome stamp n abort) stands none = refl
packets_have_contents program found here w past c log pcom f is (records.Released to k) stands none = refl
packets_have_contents program found here w past c log pcom f is (records.Shown m) stands none = refl
packets_have_contents program found here w past c log pcom f is (records.Checkpoint image) stands none = refl
packets_have_contents program found here w past c log pcom f is (records.Epoch epoch) stands none = refl
packets_have_contents program found here w past c log pcom f is (records.Decided stamp d n writes) stands none = refl

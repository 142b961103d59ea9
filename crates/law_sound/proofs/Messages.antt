-- Each message that was put out is the one of its number in the crash-free world.
use Rattle.std.proofs.Common.{◌≡◌, refl, ◌∙◌, ap, sym, subst, Some}
use Rattle.std.specs.Prelude.{Contains, IsTrue, IsSomeAnd}
use Rattle.std.proofs.lemmas.Option.{same_Some}
use Rattle.ic_base.specs.declared.messages.ComId.{ComId}
use Rattle.ic_base.specs.declared.messages.Msg.{Msg}
use Rattle.ic_base.specs.declared.messages.Packet.TheVariants as packets
use Rattle.ic_base.specs.declared.scenario.Program.{Program}
use Rattle.ic_base.specs.Programs.{is_a_pcom}
use Rattle.def_plain.specs.Plain.{message_of}
use Rattle.def_state.specs.Hist.{Hist}
use Rattle.def_facts.specs.Logs.{Logs, log_at, contents_in}
use Rattle.def_facts.specs.Pcom.{state_after}
use Rattle.def_facts.specs.World.{Past}
use Rattle.law_replay.proofs.Lists.{open-content}
use Rattle.law_replay.proofs.Numbers.{sent_are_numbered, sent_once}
use Rattle.law_replay.proofs.Narrowing.{families_explained, forced_explained}
use Rattle.law_sound.specs.Order.{Explains}
use Rattle.law_sound.proofs.Sent.{by-pcom}
use Rattle.law_sound.specs.Sound.{MessagesArePlain, ReceivedArePlain, OneContent}
use Rattle.law_sound.proofs.Contents.{sent-last, reached-last}

-- a message that was put out stands in its sender's log
record Sent (program : Program) (logs : Logs) (past : Past) (s : ComId) (m : Msg) : Type 0 where
  is_pcom : IsTrue (is_a_pcom program s)
  state : Hist
  is_state : state_after program s (past.received s) (log_at logs s) ≡ Some state
  stands : Contains state.sent m
  from : m.from ≡ s

sent-of : (program : Program) (found logs : Logs) (past : Past) → Explains program found logs past → (s : ComId) (m : Msg) → Contains (past.sent s) (packets.Data m) → Sent program logs past s m
sent-of program found logs past f s m put =
    let x = by-pcom program found logs past f s (packets.Data m) refl put in
    let h = open-content (λ (h : Hist). Contains h.sent m) (state_after program s (past.received s) (log_at logs s)) x.1 in
    record { is_pcom = x.0; state = h.0; is_state = h.1; stands = h.2; from = (sent_are_numbered program s (contents_in (past.received s)) (log_at logs s) h.0 m h.1 h.2).0 }

pub messages_are_plain : MessagesArePlain
messages_are_plain program found forced all logs past w e family run s m put =
    let f = families_explained program found forced all logs past family e in
    let x = sent-of program found logs past f s m put in
    ap (λ (z : ComId). message_of w z m.to m.k) x.from
    ∙ sent-last program found logs past w f s m x.is_pcom (subst (λ o. IsSomeAnd o (λ h. Contains h.sent m)) (sym x.is_state) x.stands) ((reached-last program found logs past w f run).pcoms s x.is_pcom)

pub received_are_plain : ReceivedArePlain
received_are_plain program found forced all logs past w e family run c m came =
    let net = e.network c (packets.Data m) came in
    subst (λ (d : ComId). message_of w m.from d m.k ≡ Some (record { to = d; handler = m.handler; args = m.args })) net.0 (messages_are_plain program found forced all logs past w e family run m.from m net.1)

pub one_content : OneContent
one_content program found forced all past e s t m n put too from to k =
    let f = forced_explained program found forced all past e in
    let x = sent-of program found forced past f s m put in
    let y = sent-of program found forced past f s n (subst (λ d. Contains (past.sent d) (packets.Data n)) (sym (sent-of program found forced past f t n too).from ∙ sym from ∙ x.from) too) in
    sent_once program s (contents_in (past.received s)) (log_at forced s) x.state m n x.is_state x.stands (subst (λ h. Contains h.sent n) (same_Some y.state x.state (sym y.is_state ∙ x.is_state)) y.stands) to k

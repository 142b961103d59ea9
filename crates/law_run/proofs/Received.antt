-- What was received of messages has values with their bytes.
use Rattle.std.specs.List.{AllByRecursion}
use Rattle.std.specs.Prelude.{Contains}
use Rattle.ic_base.specs.declared.messages.ComId.{ComId}
use Rattle.ic_base.specs.declared.messages.Msg.{Msg}
use Rattle.ic_base.specs.declared.messages.Packet.TheVariants.{Data}
use Rattle.ic_base.specs.declared.scenario.Program.{Program}
use Rattle.def_log.specs.Spelling.{Fits}
use Rattle.def_facts.specs.Logs.{Logs}
use Rattle.def_facts.specs.World.{Past, IsExplainedBy, forced_logs, whole_logs}
use Rattle.def_step.specs.World.{World}
use Rattle.law_sound.proofs.Explained.{cut-family, cut-sound, forced-cut}
use Rattle.law_sound.proofs.Messages.{received_are_plain}
use Rattle.law_run.specs.ProgramBytes.{AreWords, HasBytes}
use Rattle.law_run.proofs.RunBytes.{plain_run_fits, message-fits}

pub received_words : (program : Program) (found : Logs) (here : ComId → _) (w : World) (past : Past) → HasBytes program → IsExplainedBy program found here w past → AllByRecursion (AllByRecursion Fits) (forced_logs w) → (c : ComId) (m : Msg) → Contains (past.received c) (Data m) → AreWords m.args
received_words program found here w past bytes f fits c m came =
    let cut = forced-cut program found here w past f in
    let s = cut-sound program found here w past f (forced_logs w) cut in
    message-fits s.0 m.from c m.k _ (plain_run_fits program (forced_logs w) s.0 bytes fits s.1.legal)
    (received_are_plain program found (forced_logs w) (whole_logs w) (forced_logs w) past s.0 f.logs (cut-family program found here w past f (forced_logs w) cut) s.1.legal c m came)

-- What is found after a crash at any moment of a step is explained.
use Rattle.std.proofs.Common.{sym, subst}
use Rattle.def_log.specs.Log.{log_of}
use Rattle.def_run.specs.SystemStates.{KeepsLog, file_of}
use Rattle.def_facts.specs.World.{forced_logs}
use Rattle.law_found.specs.Past.{IsLogList}
use Rattle.law_step.proofs.Moments.{moments_are_sound}
use Rattle.law_run.specs.Moments.{FoundAtMoments}
use Rattle.law_run.proofs.Starts.{found-list, found_are_explained}
use Rattle.law_run.proofs.Steps.{reads-images, same-read, passes-none}

pub found_at_moments : FoundAtMoments
found_at_moments program fingerprint found here p what x a before r play flat bytes event keeps fits loads ran kept start are left =
    found_are_explained program fingerprint before r play start are
    (moments_are_sound program found here p.world what x a play flat event (passes-none program fingerprint p what keeps fits)
    (λ c log is down. same-read (log_of (file_of p c)) x.found log (loads c is) (subst (KeepsLog fingerprint c (file_of p c)) down (keeps c)).holds)
    (reads-images program found p.world what play bytes kept.bytes) ran kept.explained (forced_logs r.world) (record {
      one_each = (subst (λ w. IsLogList program (forced_logs w)) (sym start.world) (found-list program start.logs)).one_each;
      each = left;
    }))

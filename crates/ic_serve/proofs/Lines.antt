-- Lines that are served one behind another.
use Rattle.std.proofs.Common.{◌≡◌, ◌∙◌, ap, sym, subst, refl, ℕ, Some, None}
use Rattle.std.specs.Prelude.{IfSome, Option, option_map}
use Rattle.ic_disk.specs.TornDisks.{Torn}
use Rattle.ic_disk.specs.declared.disk.Disk as disk
use Rattle.ic_disk.specs.declared.sink.Sink as sink
use Rattle.ic_lines.specs.declared.lines.Lines as source
use Rattle.ic_lines.specs.declared.lines.Read.{Read}
use Rattle.ic_plan.specs.declared.run_texts.ServedTexts.{ServedTexts}
use Rattle.ic_report.specs.declared.ending.Why.{Why}
use Rattle.ic_report.specs.declared.ending.Why.TheVariants.{Memory}
use Rattle.ic_run.proofs.Onward.{keeps-then}
use Rattle.ic_settle.specs.Policies.{intervals_of}
use Rattle.ic_world.specs.declared.world.World.{World}
use Rattle.ic_serve.specs.Reading.{ReadsNext, FailsToRead, line_read, line_as, MayBeServed}
use Rattle.ic_serve.specs.Serving.{IsSettledFrom, IsServed, FailsToServe, Moment, passed_over, was_served}
use Rattle.ic_serve.specs.Worlds.{ServesBetween, HasServed, FailsToServeOn, unread, unserved, short}
use Rattle.ic_serve.specs.declared.line.Line as code
use Rattle.ic_serve.specs.declared.service.Service.{Service}
use Rattle.ic_serve.proofs.Settled.{serve-keeps}

-- from a start some lines were served up to here
module _ {D : Type 0} (b : disk.Ghosts D) {d : disk.Ghosts (Torn D)} {K : Type 0} (k : sink.Ghosts K) (r : ServedTexts) {I : Type 0} (i : source.Ghosts I) (start here : Moment d I K) (so_far : ServesBetween b k r i start here) (from : IsSettledFrom r.program start.world here.world) where
  abbrev moment : I → Service → World (Torn D) d → K → Moment d I K
  moment source service world out = record { source = source; service = service; world = world; out = out }

  -- nothing is left
  pub at-end : (source : I) (service : Service) (o : Option Read) → ReadsNext i here.source source here.service service o → o ≡ None → HasServed b k r i start (moment source service here.world here.out) None
  at-end source service o reads none =
      let P : Option Read → Type 0 = λ o. ReadsNext i here.source source here.service service o in
      record { last = here; serves = so_far; read = None; reads = subst P none reads; is = tt; world = refl; silent = refl }

  -- no line is read
  pub not-read : (source : I) (service : Service) (why : Why) → FailsToRead i here.source source why → FailsToServeOn b k r i start (moment source service here.world here.out) why
  not-read source service why fails = record { last = here; serves = so_far; stops = unread fails refl refl; disks = from.disks }

  -- memory is wanting
  pub short-of : (source : I) (service : Service) (why : Why) → why ≡ Memory → FailsToServeOn b k r i start (moment source service here.world here.out) why
  short-of source service why memory = record { last = here; serves = so_far; stops = short memory refl refl; disks = from.disks }

  module _ (source : I) (next : Service) (o : Option Read) (read : Read) (reads : ReadsNext i here.source source here.service next o) (some : o ≡ Some read) (asked : Option code.Line) (is : (n : ℕ) → option_map (line_as n) asked ≡ line_read r.program n read) where
    reads-it : ReadsNext i here.source source here.service next (Some read)
    reads-it = let P : Option Read → Type 0 = λ o. ReadsNext i here.source source here.service next o in subst P some reads

    line-is : (line : code.Line) → asked ≡ Some line → line_read r.program next.lines read ≡ Some (line_as next.lines line)
    line-is line one = sym (is next.lines) ∙ ap (option_map (line_as next.lines)) one

    -- a line without tokens is passed over
    pub pass-over : asked ≡ None → ServesBetween b k r i start (moment source next here.world here.out)
    pass-over none = passed_over so_far reads-it (sym (is next.lines) ∙ ap (option_map (line_as next.lines)) none)

    -- a line is answered first over the next world
    pub hand-on : (line : code.Line) → asked ≡ Some line → IfSome asked (MayBeServed r.program) → HasServed b k r i start (moment source next here.world here.out) (Some line)
    hand-on line one may =
        let P : Option code.Line → Type 0 = λ o. IfSome o (MayBeServed r.program) in
        record { last = here; serves = so_far; read = Some read; reads = reads-it; is = (line-is line one, subst P one may); world = refl; silent = refl }

    module _ (line : code.Line) (one : asked ≡ Some line) (after : Service) (world : World (Torn D) d) (out : K) where
      pub serve-one : IsServed r.program (intervals_of r.policy) r.policy.report k (line_as next.lines line) next after here.world world here.out out → ServesBetween b k r i start (moment source after world out)
      serve-one served = was_served so_far reads-it (line-is line one) served

      pub not-served : (why : Why) → FailsToServe b r.program (intervals_of r.policy) r.policy.report k r.fingerprint (line_as next.lines line) next here.world world here.out out why → FailsToServeOn b k r i start (moment source after world out) why
      not-served why fails = record {
        last = here;
        serves = so_far;
        stops = unserved read next (line_as next.lines line) reads-it (line-is line one) fails;
        disks = keeps-then start.world here.world world from.disks (serve-keeps b r.program (intervals_of r.policy) r.policy.report k r.fingerprint (line_as next.lines line) next here.world world here.out out why fails);
      }

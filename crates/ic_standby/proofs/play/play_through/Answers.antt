use Rattle.std.proofs.Common.{◌≡◌, sym, subst, true, rules}
use Rattle.def_log.specs.Spelling.{Fits}
use Rattle.def_state.specs.Fits.{fits}
use Rattle.def_state.specs.Vol.{standing}
use Rattle.ic_ckpt.specs.Views.{seen}
use Rattle.ic_standby.proofs.Fresh.{takes_new}
use Rattle.ic_standby.proofs.play.play_through.Goals as goal

pub play_record-requires-clause-new : goal.play_record-requires-clause-new
play_record-requires-clause-new g c =
    let ok : fits c.args.program.now c.args.«com» (standing c.args.program.now c.args.«com» (seen c.loop-next.state)) c.index-records-next.result ≡ true = search rules in
    takes_new c.args.program.now c.args.«com» (seen c.loop-next.state) c.index-records-next.result (subst Fits (sym c.index-records-next.is) (c.requires.fields c.loop-next.next c.index-records-next.result (search rules))) ok

use Rattle.std.proofs.Common.{◌∙◌, sym}
use Rattle.ic_moves.specs.Chiefs as cores
use Rattle.ic_moves.specs.Chiefs.{openings_of}
use Rattle.ic_two.proofs.ChiefServing.{counted_same}
use Rattle.ic_two.proofs.Replaying.{docket_on, good_on, misfit_on, counted_at}
use Rattle.ic_two.proofs.replay.chief_behind.Goals as goal

pub loop-place-preserved : goal.loop-place-preserved
loop-place-preserved c =
    let books = openings_of c.args.books.now in
    let x = cores.docket_of c.loop-place.core in
    let now = cores.docket_of c.enter.new.self in
    let ps = c.args.placed.now in
    let i = c.loop-place.place-index in
    let inv = c.loop-place.invariant in
    let same = c.reserve.ensures.same in
    let lt = c.loop-place-test.true in
    let fits = sym c.fits.ensures ∙ c.if-not-fits.false in
    let mid = cores.docket_of c.reserve.new.self in
    record {
      docket = docket_on books x mid now ps i _ lt fits same.docket c.enter.ensures.docket ∙ inv.docket;
      good = good_on books x mid now ps i _ lt fits same.docket c.enter.ensures.docket ∙ inv.good;
      misfit = misfit_on books x mid now ps i _ lt fits same.docket c.enter.ensures.docket ∙ inv.misfit;
      heard = c.enter.ensures.heard ∙ same.heard ∙ inv.heard;
      counted = c.enter.ensures.counted (counted_same c.loop-place.core c.reserve.new.self same inv.counted) (counted_at ps i _ lt c.requires.fit);
    }

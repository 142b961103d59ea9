use Rattle.std.proofs.Common.{◌≡◌, ◌≢◌, ◌++◌, take, sym, ap, subst, ◌∙◌, rules, true≢false}
use Rattle.std.proofs.lemmas.List.Elements.{All-append}
use Rattle.std.specs.Io.{StopsAt}
use Rattle.std.specs.Io.BufRead.{take_through}
use Rattle.std.proofs.Transfers.{StopsAt-append}
use Rattle.std.proofs.KnownBytes.{Consumes-trans}
use Rattle.std.proofs.BufReadLemmas.{Consumes_through}
use Rattle.ic_lines.proofs.Cuts.{stops_take, take_again, if_known}
use Rattle.ic_lines.proofs.reader_lines.take_line.Goals as goal

pub loop-preserved : goal.loop-preserved
loop-preserved g c =
    let (done, kept, none, read, room) = c.loop.invariant in
    let (piece, stops, kept', read', none', ends, end) = c.in_ok-take_piece.ensures.taken in (
      done ++ piece,
      kept' ∙ ap (λ l. take c.args.room (l ++ piece)) kept ∙ take_again c.args.room done piece,
      All-append (λ b. b ≢ 10) done piece none (none' (λ e. true≢false (sym e ∙ c.if-branch.false))),
      Consumes-trans _ _ _ _ _ read read',
      search rules,
    )

pub returns-then-branch : goal.returns-then-branch
returns-then-branch g c =
    let (done, kept, none, read, room) = c.loop.invariant in
    let (piece, stops, kept', read', none', ends, end) = c.in_ok-take_piece.ensures.taken in
    let front = kept' ∙ ap (λ l. take c.args.room (l ++ piece)) kept ∙ take_again c.args.room done piece in
    let all = Consumes_through 10 _ _ _ done piece read none read' stops (ends c.if-branch.true) (end c.if-branch.true) in
    record {
      line = if_known (g.B.Read.remaining c.args.reader.now) (λ xs. done ++ piece ≡ take_through 10 xs) (λ xs. c.take_piece.new.line.items ≡ take c.args.room (take_through 10 xs)) (λ xs e. front ∙ ap (take c.args.room) e) all.0;
      rest = all.1;
      stops = subst (λ l. StopsAt l 10) (sym front) (stops_take c.args.room (done ++ piece) (StopsAt-append done piece 10 none stops));
    }

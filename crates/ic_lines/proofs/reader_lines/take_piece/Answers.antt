use Rattle.std.proofs.Common.{◌≡◌, ◌≢◌, ◌-◌, ◌+◌, min, [], ◌++◌, All, take, length, sym, ap, subst, ◌∙◌, rules, arith, true≢false, append-nil, take_all, eq-eqb, eqb-true}
use Rattle.std.proofs.lemmas.List.Elements.{All-nil, All-more}
use Rattle.std.specs.Io.BufRead.{FillKeeps, DropsConsumable}
use Rattle.std.specs.Io.KnownBytes.{Consumes}
use Rattle.std.proofs.KnownBytes.{Consumes-nil, Consumes-kept}
use Rattle.std.proofs.BufReadLemmas.{Consumes_shown}
use Rattle.ic_lines.proofs.Cuts.{room_for}
use Rattle.ic_lines.proofs.reader_lines.take_piece.Goals.{then-count-eq0, else-count-eq0}
use Rattle.ic_lines.proofs.reader_lines.take_piece.Goals as goal

pub returns-in-Err-clause-taken : goal.returns-in-Err-clause-taken
returns-in-Err-clause-taken g c = (
  [],
  All-nil (λ b. b ≢ 10),
  sym (ap (take c.args.room) (append-nil _) ∙ take_all c.args.room c.args.line.now.items (search rules)),
  Consumes-kept _ _ _ [] (Consumes-nil _) c.fill_buf.follows.holds-at-none.0,
  λ _. All-nil (λ b. b ≢ 10),
  λ done. absurd (true≢false (sym done)),
  λ done. absurd (true≢false (sym done)),
)

pub returns-clause-taken : goal.returns-clause-taken
returns-clause-taken g c =
    let shown = c.in-Ok.held.now in
    let piece = c.first_line-piece in
    let n = length piece.result.now in
    let rested = c.fill_buf.follows.lender-at-none in
    let filled = subst (FillKeeps _ (g.B.Read.remaining rested) (g.B.BufRead.consumable_len rested)) c.in-Ok.is c.fill_buf.follows.holds-at-none in
    let drops : DropsConsumable (g.B.Read.remaining rested) (g.B.Read.remaining c.consume.new.self) (g.B.BufRead.consumable_len rested) n = search rules in
    let moved = Consumes_shown _ _ _ _ shown n piece.ensures.within c.in-Ok.ensures.front c.in-Ok.ensures.end filled.0 filled.1 drops in
    let grown : c.extend_from_slice.new.self.items ≡ c.args.line.now.items ++ take (min n (c.args.room - length c.args.line.now.items)) piece.result.now = search rules in (
      piece.result.now,
      piece.ensures.stops,
      grown ∙ room_for c.args.room c.args.line.now.items piece.result.now (search rules),
      subst (Consumes _ _) (sym piece.ensures.front) moved.0,
      λ more. elim c.if-count-eq0.branch [
        | then-count-eq0 w ↦ absurd (more (search rules))
        | else-count-eq0 w ↦ subst (All (λ b. b ≢ 10)) (take_all (n - 1 + 1) piece.result.now (omega (arith, w.if-count-eq0.false)))
            (All-more (λ b. b ≢ 10) piece.result.now (n - 1) 0 (omega (arith, w.if-count-eq0.false)) piece.ensures.stops (λ e. more (w.is_done-is ∙ eq-eqb _ _ e)))
      ],
      λ done some. elim c.if-count-eq0.branch [
        | then-count-eq0 w ↦ absurd (omega (arith, w.if-count-eq0.true))
        | else-count-eq0 w ↦ eqb-true _ _ (sym w.is_done-is ∙ done)
      ],
      λ done none. moved.1 (ap length (piece.ensures.some none)),
    )

use Rattle.std.proofs.Common.{◌∙◌, ap, arith, length}
use Rattle.def_syntax.specs.Text.{lines_of, numbered}
use Rattle.def_two.specs.Script.{reads_lines, if_any}
use Rattle.ic_script.specs.Views.{read_so_far}
use Rattle.ic_script.proofs.Lawful.{are_openings}
use Rattle.ic_script.proofs.Lines.{all_in_front, read_more, read_all, read_refused, refused_on, ends_without, ends_with}
use Rattle.ic_script.proofs.script.read_lines.Goals as goal

pub returns-in-Err-clause-refused : goal.returns-in-Err-clause-refused
returns-in-Err-clause-refused c =
    let s = c.loop-line.so_far in
    let read = c.loop-line.invariant.read ∙ ap (λ ls. all_in_front s.events (reads_lines (read_so_far s) (numbered c.loop-line.number ls))) c.in-Some.ensures.line in
    rw (c.refused_at.ensures.line, c.refused_at.ensures.cause)
    (refused_on _ (if_any (length (lines_of c.args.bytes.now))) _ c.in-Err.cause (read_refused (read_so_far s) c.loop-line.number _ _ s.events c.in-Err.cause _ c.in-Err.ensures.refused read))

pub loop-line-preserved : goal.loop-line-preserved
loop-line-preserved c =
    let s = c.loop-line.so_far in
    let read = c.loop-line.invariant.read ∙ ap (λ ls. all_in_front s.events (reads_lines (read_so_far s) (numbered c.loop-line.number ls))) c.in-Some.ensures.line in
    let one = ap length c.in-Some.ensures.line in
    record {
      near = omega (arith, c.loop-line.invariant.near, c.in-Some.ensures.less);
      count = omega (arith, c.loop-line.invariant.count, one);
      read = read_more (read_so_far s) (read_so_far c.read_line.new.self) c.loop-line.number _ _ s.events c.read_line.new.self.events _ c.in-Ok.ensures.read read;
      sound = c.in-Ok.ensures.sound;
    }

pub returns-then-len-lt1-clause-refused : goal.returns-then-len-lt1-clause-refused
returns-then-len-lt1-clause-refused c =
    let s = c.loop-line.so_far in
    let read = read_all (read_so_far s) s.events _ (c.loop-line.invariant.read ∙ ap (λ ls. all_in_front s.events (reads_lines (read_so_far s) (numbered c.loop-line.number ls))) c.in_default.ensures.line) in
    let none = ap length c.in_default.ensures.line in
    ends_without (length (lines_of c.args.bytes.now)) c.loop-line.number _ (read_so_far s) s.events read (omega (arith, c.if-len-lt1.true, c.len.ensures)) (omega (arith, none, c.loop-line.invariant.count))

pub returns-clause-accepted : goal.returns-clause-accepted
returns-clause-accepted c =
    let s = c.loop-line.so_far in
    let read = read_all (read_so_far s) s.events _ (c.loop-line.invariant.read ∙ ap (λ ls. all_in_front s.events (reads_lines (read_so_far s) (numbered c.loop-line.number ls))) c.in_default.ensures.line) in
    ends_with (length (lines_of c.args.bytes.now)) _ (read_so_far s) s.events read (omega (arith, c.if-len-lt1.false, c.len.ensures))

pub returns-clause-openings : goal.returns-clause-openings
returns-clause-openings c = are_openings c.loop-line.so_far.books c.loop-line.invariant.sound.few c.loop-line.invariant.sound.rows

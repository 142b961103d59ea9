use Rattle.std.proofs.Common.{◌≡◌, sym, subst, arith, true, false, List}
use Rattle.std.specs.List.{AllByRecursion}
use Rattle.def_two.specs.declared.script.Event2.{Event2}
use Rattle.def_two.specs.Runs.{IsEvent2}
use Rattle.ic_script.specs.Reading.{openings_in}
use Rattle.ic_script.specs.Views.{line_seen, read_so_far}
use Rattle.ic_script.proofs.Lawful.{all_with, event_lawful, moves_behind}
use Rattle.ic_script.proofs.so_far.SoFar.add_event.Goals as goal

pub returns-in-Ok-clause-sound : goal.returns-in-Ok-clause-sound
returns-in-Ok-clause-sound c =
    let x = c.args.self.now in
    let l = line_seen c.args.line.now in
    let s = c.requires.sound in
    let moves = moves_behind (read_so_far x) l c.requires.placed s.moves in
    let lawful = event_lawful (read_so_far x) l c.in-Some.event s.few c.requires.written (sym c.in-Some.ensures) in
    let all : List Event2 → Type 0 = AllByRecursion (IsEvent2 (openings_in x.books)) in
    record {
      few = s.few;
      moves = omega (arith, moves, c.counts.ensures);
      rows = s.rows;
      before = λ no. (let clash : true ≡ false = no in absurd (cc));
      lawful = subst all (sym c.in-Ok.ensures.ok) (all_with (IsEvent2 (openings_in x.books)) x.events c.in-Some.event s.lawful lawful);
    }

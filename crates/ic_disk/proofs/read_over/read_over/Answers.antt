use Rattle.std.proofs.Common.{◌≡◌, ◌∙◌, sym, ap, subst, ℕ, ◌+◌, ◌-◌, ◌<◌, ◌≤◌, ◌++◌, min, List, length, get_or, take, drop, replicate, length-append, arith}
use Rattle.std.proofs.lemmas.List.{length-replicate, length-take-le, get_or-take, take-take, drop-take}
use Rattle.def_log.specs.Torn.{all_written}
use Rattle.ic_disk.specs.TornDisks.{Shows}
use Rattle.ic_disk.proofs.Overlays.{shows_below, shows_is}
use Rattle.ic_disk.proofs.Reaches.{same_front}
use Rattle.ic_disk.proofs.read_over.read_over.Goals as goal

pub returns-clause-bytes : goal.returns-clause-bytes
returns-clause-bytes g c told =
    let file = g.D.Disk.seen c.args.disk.now in
    let writes = c.args.held.now.writes in
    let least = c.least_below-least.result in
    let gives = c.least_below-least.ensures in
    let b = c.in_ok-below.ensures {u = tt} in
    let below = c.in_ok-below.below.items in
    let end : c.in-Some.end ≡ c.args.at + c.args.count = (c.in-Some.ensures {u = tt}).1 in
    let le : least ≤ length file = (gives file).1 (c.requires.reached told, omega (arith, end, c.requires.range told)) in
    let front : List ℕ = take least file in
    let long : length front ≡ least = length-take-le least file le in
    let reaches = (gives front).0 (omega (arith, long)) in
    let from : c.min-from.result ≡ min c.args.at (length front) = c.min-from.ensures ∙ ap (min c.args.at) (sym long) in
    let part : c.min-part.result ≡ min (length front - c.min-from.result) c.args.count = c.min-part.ensures ∙ ap (λ n. min (n - c.min-from.result) c.args.count) (sym long) in
    let is : below ≡ take c.min-part.result (drop c.min-from.result front) =
    b.bytes told ∙ sym (drop-take c.min-from.result c.min-part.result file)
    ∙ ap (drop c.min-from.result) (sym (take-take (c.min-from.result + c.min-part.result) least file (omega (arith, c.min-from.ensures, c.min-part.ensures)))) ∙ drop-take c.min-from.result c.min-part.result front in
    let shown = shows_below front below c.args.at c.min-from.result c.min-part.result c.args.count from part is in
    let padded : c.in_ok-shown.shown.items ≡ below ++ replicate (c.args.count - length below) 0 =
    c.in_ok-shown.ensures {u = tt} ∙ ap (λ (l : List ℕ). l ++ replicate (c.args.count - length l) 0) c.deref.ensures.value in
    let all : length c.show_over.new.shown.items ≡ c.args.count =
    omega (arith, c.show_over.ensures.length, ap length padded, length-append below (replicate (c.args.count - length below) 0), length-replicate {A = ℕ} (c.args.count - length below) 0, b.count, part) in
    let P : List ℕ → Type 0 = Shows c.args.at front in
    let over_front = c.show_over.ensures.shows front reaches.0 (subst P (sym padded) shown) in
    let same : (i : ℕ) → i < length front → get_or front i 0 ≡ get_or file i 0 = λ i within. get_or-take least file i 0 (omega (arith, within, long)) in
    let over : Shows c.args.at (all_written file writes) c.show_over.new.shown.items =
    λ i within. over_front i within ∙ same_front front file writes reaches.0 (omega (arith, long, le)) same (c.args.at + i) (omega (arith, within, all, end, reaches.1)) in
    shows_is (all_written file writes) c.show_over.new.shown.items c.args.at c.args.count over all (c.requires.range told)

-- Over disks that hold the logs no recovery is refused.
use Rattle.std.proofs.Common.{◌≡◌, refl, ◌∙◌, ap, sym, ℕ, zero, suc, Bool, true, false, cond, not, ◌&&◌, List, [], ◌∷◌, ◌++◌, Option, Some, None, option_map, arith}
use Rattle.std.specs.Prelude.{Result, Ok, Err, bytes_eq}
use Rattle.ic_base.specs.declared.record.Batch.{Batch}
use Rattle.def_log.specs.Frame.{frame_of, fingerprint_in, owner_in}
use Rattle.def_log.specs.Loads.{Load, Holds, Foreign, Bad, is_well_formed, framed, frame_for, load_of}
use Rattle.def_log.specs.Log.{◌>>=◌}
use Rattle.def_two.specs.declared.moves.Record2.{Record2}
use Rattle.def_two.specs.declared.script.Event2.{Event2}
use Rattle.def_two.specs.declared.script.What2.TheVariants as whats
use Rattle.def_two.specs.declared.script.TwoRefused.{TwoRefused}
use Rattle.def_two.specs.declared.script.TwoRefused.TheVariants as refused
use Rattle.def_two.specs.Moves.{Openings, nth_book}
use Rattle.def_two.specs.declared.states.BookState.{BookState}
use Rattle.def_two.specs.Book.{first_book, book_fits, booked, books_fit}
use Rattle.def_two.specs.declared.states.Docket.{Docket}
use Rattle.def_two.specs.Chief.{first_docket, docket_fits, docketed, dockets_fit}
use Rattle.def_two.specs.World.{World2, Site, site_at, log_in, is_log, first_world2}
use Rattle.def_two.specs.Ends.{AreOpenings}
use Rattle.def_two.specs.declared.script.What2.{What2}
use Rattle.def_two.specs.Logs.{Placed2, placed2_in, placed2_log_of, records2_in, log2_of}
use Rattle.def_two.specs.CoreSteps.{SystemState2, SystemStep, file2_of, Executes2, last_state2}
use Rattle.def_two.specs.Refusals.{chief_misfit, book_misfit, misfit2, records2_refusal, recovery2_refusal, met2}
use Rattle.law_marks.proofs.Owners.{owned}
use Rattle.law_two.proofs.Lists.{true-false, front, back}
use Rattle.law_two_run.specs.Runs.{ExecutionsMeetGoodLogs}
use Rattle.law_two_run.proofs.Leading.{log-read, own-name, own-number}
use Rattle.law_two_run.proofs.Executing.{Stands, starts, stands-on}

-- no record of a good log is a misfit
chief-good : (books : Openings) (d : Docket) (rs : List Placed2) → dockets_fit books d (records2_in rs) ≡ true → chief_misfit books d rs ≡ None
chief-good books d [] e = refl
chief-good books d (r ∷ rs) e =
    ap (λ b. cond b (chief_misfit books (docketed d r.1) rs) (Some r.0)) (front (docket_fits books d r.1) _ e) ∙ chief-good books (docketed d r.1) rs (back (docket_fits books d r.1) _ e)

book-good : (b : ℕ) (x : BookState) (rs : List Placed2) → books_fit b x (records2_in rs) ≡ true → book_misfit b x rs ≡ None
book-good b x [] e = refl
book-good b x (r ∷ rs) e = ap (λ c. cond c (book_misfit b (booked b x r.1) rs) (Some r.0)) (front (book_fits b x r.1) _ e) ∙ book-good b (booked b x r.1) rs (back (book_fits b x r.1) _ e)

log-good : (books : Openings) (c : ℕ) (rs : List Placed2) → is_log books c (records2_in rs) ≡ true → misfit2 books c rs ≡ None
log-good books zero rs e = chief-good books first_docket rs e
log-good books (suc b) rs e = book-good (suc b) (first_book (nth_book books (suc b))) rs e

-- bytes that are read as these records
pub read-places : (file : List ℕ) (log : List Record2) → log2_of file ≡ Ok log → (bs : List Batch) × (frame_of file ≡ Ok bs) × ((rs : List Placed2) × (placed2_log_of file ≡ Ok rs) × (records2_in rs ≡ log))
read-places file log e = at (frame_of file) refl e
  where
    records-are : (l : List Record2) → ◌≡◌ {A = Result (List Record2) ℕ} (Ok l) (Ok log) → l ≡ log
    records-are l h = cc h

    places : (bs : List Batch) → frame_of file ≡ Ok bs → (r : Result (List Placed2) ℕ) → placed2_in bs ≡ r → r >>= (λ rs. Ok (records2_in rs)) ≡ Ok log →
        (bs : List Batch) × (frame_of file ≡ Ok bs) × ((rs : List Placed2) × (placed2_log_of file ≡ Ok rs) × (records2_in rs ≡ log))
    places bs f (Err place) g h = absurd (cc h)
    places bs f (Ok rs) g h = (bs, f, (rs, ap (λ r. r >>= placed2_in) f ∙ g, records-are (records2_in rs) h))

    at : (r : Result (List Batch) ℕ) → frame_of file ≡ r → (r >>= placed2_in) >>= (λ rs. Ok (records2_in rs)) ≡ Ok log → (bs : List Batch) × (frame_of file ≡ Ok bs) × ((rs : List Placed2) × (placed2_log_of file ≡ Ok rs) × (records2_in rs ≡ log))
    at (Err place) f h = absurd (cc h)
    at (Ok bs) f h = places bs f (placed2_in bs) refl h

pub same-bytes : (xs : List ℕ) → bytes_eq xs xs ≡ true
same-bytes [] = refl
same-bytes (x ∷ xs) = grind (arith, same-bytes xs)

-- a recovery over a file that holds a good log of this component of the script
not-refused : (books : Openings) (fingerprint : List ℕ) (c : ℕ) (file : List ℕ) (log : List Record2) → fingerprint_in file ≡ fingerprint → owner_in file ≡ c → log2_of file ≡ Ok log → is_log books c log ≡ true → recovery2_refusal books fingerprint c file ≡ None
not-refused books fingerprint c file log own number read good = ap answer loads ∙ records
  where
    z : (bs : List Batch) × (frame_of file ≡ Ok bs) × ((rs : List Placed2) × (placed2_log_of file ≡ Ok rs) × (records2_in rs ≡ log))
    z = read-places file log read

    answer : Load → Option TwoRefused
    answer l = elim l [
      | Holds batches ↦ records2_refusal books c file
      | Foreign kept ↦ Some (refused.Foreign c kept)
      | Bad place ↦ Some (refused.Bad c place)
    ]

    ours : (a b : Bool) → b ≡ true → a && not b ≡ false
    ours true true e = refl
    ours false true e = refl
    ours a false e = true-false e

    loads : load_of fingerprint c file ≡ Holds z.0
    loads =
        ap (λ b. cond b (Foreign (fingerprint_in file)) (framed (frame_for c file))) (ours (is_well_formed file) (bytes_eq (fingerprint_in file) fingerprint) (ap (λ l. bytes_eq l fingerprint) own ∙ same-bytes fingerprint))
        ∙ ap framed (owned c file (frame_of file) number ∙ z.1)

    records : records2_refusal books c file ≡ None
    records =
        ap (λ r. elim r as (λ q. Option TwoRefused) [ Ok rs ↦ option_map (refused.Bad c) (misfit2 books c rs) | Err place ↦ Some (refused.Bad c place) ]) z.2.1
        ∙ ap (option_map (refused.Bad c)) (log-good books c z.2.0 (ap (is_log books c) z.2.2 ∙ good))

meets-none : (books : Openings) (fingerprint : List ℕ) (past : List World2) (p : SystemState2) (e : Event2) → Stands books fingerprint past p → met2 books fingerprint p e ≡ None
meets-none books fingerprint past p e s = at e.what
  where
    recover : (c : ℕ) (o : Option Site) → site_at p.world c ≡ o → cond (elim o as (λ q. Bool) [ None ↦ false | Some z ↦ not z.up ]) (recovery2_refusal books fingerprint c (file2_of p c)) None ≡ None
    recover c None f = refl
    recover c (Some z) f = down (not z.up)
      where
        fine : recovery2_refusal books fingerprint c (file2_of p c) ≡ None
        fine = not-refused books fingerprint c (file2_of p c) z.log (own-name fingerprint p c z s.kept f) (own-number fingerprint p c z s.kept f) (log-read fingerprint p c z s.kept f) (ap (is_log books c) (sym (ap log_in f)) ∙ s.holds.logs c)

        down : (a : Bool) → cond a (recovery2_refusal books fingerprint c (file2_of p c)) None ≡ None
        down false = refl
        down true = fine

    at : (what : What2) → met2 books fingerprint p (record { what = what; stop = e.stop }) ≡ None
    at (whats.Recover c) = recover c (site_at p.world c) refl
    at (whats.Move from source to target amount) = refl
    at (whats.Deliver from to) = refl
    at (whats.Packet i) = refl
    at (whats.Lose from to) = refl
    at (whats.Crash c) = refl
    at (whats.Resend c) = refl

-- along an execution
stands-last : (books : Openings) (fingerprint : List ℕ) (past : List World2) (events : List Event2) (p : SystemState2) (vs : List SystemStep) (rest : List Event2) → AreOpenings books → Stands books fingerprint past p → Executes2 books fingerprint events p vs rest →
    (all : List World2) × Stands books fingerprint all (last_state2 p vs)
stands-last books fingerprint past events p [] rest o s run = (past, s)
stands-last books fingerprint past events p (v ∷ vs) rest o s run = stands-last books fingerprint (past ++ v.state.world ∷ []) run.0 v.state vs rest o (stands-on books fingerprint past p v o s run.2) run.3

pub executions_meet : ExecutionsMeetGoodLogs
executions_meet books fingerprint events before p vs rest e o long start run =
    let z = stands-last books fingerprint (first_world2 books ∷ []) events p vs rest o (starts books fingerprint before p o long start) run in
    meets-none books fingerprint z.0 (last_state2 p vs) e z.1

-- The history of logs that are explained is legal.
use Rattle.std.proofs.Common.{◌≡◌, refl, ◌∙◌, ap, sym, subst, ℕ, ◌+◌, Bool, true, false, List, [], ◌∷◌, ◌++◌, slice_get, Some, option_map, option_and_then}
use Rattle.std.specs.Prelude.{IsTrue}
use Rattle.std.specs.Result.{IsOkAnd}
use Rattle.std.proofs.lemmas.List.{append_assoc, append-nil}
use Rattle.std.proofs.lemmas.Option.{slice_get-map}
use Rattle.ic_base.specs.declared.messages.ComId.{ComId}
use Rattle.ic_base.specs.declared.messages.Entry.{Entry}
use Rattle.ic_base.specs.declared.scenario.Component.{Component}
use Rattle.ic_base.specs.declared.scenario.Program.{Program}
use Rattle.ic_base.specs.Programs.{is_a_pcom, is_a_tcom}
use Rattle.def_plain.specs.Plain.{PlainWorld, as_pcom, as_ledger, plain_step, run_from, go_on, first_world, first_of_kind}
use Rattle.def_plain.specs.History.{history_of}
use Rattle.def_state.specs.Hist.{first_hist, first_plain, first_cell}
use Rattle.def_step.specs.Tcom.{first_book, first_ledger}
use Rattle.def_facts.specs.Logs.{Logs, log_at}
use Rattle.def_facts.specs.World.{Past}
use Rattle.law_replay.proofs.Lists.{empty}
use Rattle.law_replay.proofs.Prefixes.{prefix-self}
use Rattle.law_sound.specs.Order.{Explains}
use Rattle.law_sound.proofs.Deciding.{the-component}
use Rattle.law_sound.specs.Assembly.{PcomReached, TcomReached, IsReached, is_own, HistoryIsLegal}
use Rattle.law_sound.proofs.Commits.{commits_have_steps}
use Rattle.law_sound.proofs.Reaching.{the-pcom}
use Rattle.law_sound.proofs.Stepping.{own_entries_have_steps}

-- before the first entry
start : (program : Program) (logs : Logs) (past : Past) → IsReached program logs past [] (first_world program)
start program logs past = record { pcoms = pcoms; tcoms = tcoms }
  where
    place : (c : ComId) → slice_get (first_world program) c.0 ≡ option_map (λ x. first_of_kind x.kind x) (slice_get program.components c.0)
    place c = slice_get-map (λ (x : Component). first_of_kind x.kind x) program.components c.0

    pcoms : (c : ComId) → IsTrue (is_a_pcom program c) → PcomReached program logs past c [] (first_world program)
    pcoms c is = record {
      done = [];
      left = log_at logs c;
      split = refl;
      inside = λ r e h t. empty r h;
      outside = λ r e h t k. empty e k;
      state = first_hist program c;
      is_state = refl;
      cell = first_plain program c;
      is_cell =
          let d = the-pcom program c is in
          ap (option_and_then as_pcom) (place c ∙ ap (option_map (λ (x : Component). first_of_kind x.kind x)) d.1) ∙ ap (λ k. as_pcom (first_of_kind k d.0)) d.2 ∙ ap (λ o. Some (first_cell o)) (sym d.1);
      grows = prefix-self (first_plain program c).sent;
      exact = λ all. refl;
    }

    tcoms : (t : ComId) → IsTrue (is_a_tcom program t) → TcomReached program logs t [] (first_world program)
    tcoms t is = record {
      done = [];
      left = log_at logs t;
      split = refl;
      inside = λ r e h k. empty r h;
      outside = λ r e h k z. empty e z;
      book = first_book program t;
      is_book = refl;
      ledger =
          let d = the-component program t is in
          ap (option_and_then as_ledger) (place t ∙ ap (option_map (λ (x : Component). first_of_kind x.kind x)) d.1) ∙ ap (λ k. as_ledger (first_of_kind k d.0)) d.2 ∙ ap (λ o. Some (first_ledger o)) (sym d.1);
    }

-- entry after entry
runs : (program : Program) (found logs : Logs) (past : Past) → Explains program found logs past → (front es back : List Entry) (i : ℕ) (w : PlainWorld) → history_of program logs ≡ front ++ (es ++ back) → IsReached program logs past front w →
    IsOkAnd (run_from program i w es) (IsReached program logs past (front ++ es))
runs program found logs past f front [] back i w split reached = subst (λ l. IsReached program logs past l w) (sym (append-nil front)) reached
runs program found logs past f front (e ∷ es) back i w split reached =
    by (is_own e.act) refl (λ v r. runs program found logs past f (front ++ e ∷ []) es back (i + 1) v (split ∙ sym (append_assoc front (e ∷ []) (es ++ back))) r)
  where
    go : (s : (v : PlainWorld) × (plain_step program w e ≡ Some v) × IsReached program logs past (front ++ e ∷ []) v) →
        ((v : PlainWorld) → IsReached program logs past (front ++ e ∷ []) v → IsOkAnd (run_from program (i + 1) v es) (IsReached program logs past ((front ++ e ∷ []) ++ es))) →
        IsOkAnd (run_from program i w (e ∷ es)) (IsReached program logs past (front ++ e ∷ es))
    go s more =
        subst (λ o. IsOkAnd (go_on i (λ v. run_from program (i + 1) v es) o) (IsReached program logs past (front ++ e ∷ es))) (sym s.1)
        (subst (λ l. IsOkAnd (run_from program (i + 1) s.0 es) (IsReached program logs past l)) (append_assoc front (e ∷ []) es) (more s.0 s.2))

    by : (b : Bool) → is_own e.act ≡ b →
        ((v : PlainWorld) → IsReached program logs past (front ++ e ∷ []) v → IsOkAnd (run_from program (i + 1) v es) (IsReached program logs past ((front ++ e ∷ []) ++ es))) →
        IsOkAnd (run_from program i w (e ∷ es)) (IsReached program logs past (front ++ e ∷ es))
    by true own more = go (own_entries_have_steps program found logs past f front (es ++ back) e w split own reached) more
    by false own more = go (commits_have_steps program found logs past f front (es ++ back) e w split own reached) more

pub history_is_legal : HistoryIsLegal
history_is_legal program found logs past f front back split = runs program found logs past f [] front back 0 (first_world program) split (start program logs past)

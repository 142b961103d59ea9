-- A part is whole on a ledger where it is ready with what its requests get there.
use Rattle.std.proofs.Common.{◌≡◌, refl, ◌∙◌, sym, ap, subst, ⊎_elim, ℕ, zero, suc, ◌+◌, ◌<◌, ◌≤◌, ℤ, List, [], ◌∷◌, ◌++◌, length, take, slice_get, Some, unwrap_or, arith}
use Rattle.std.proofs.lemmas.List.{append_assoc, append-nil, length-append, length-take-le}
use Rattle.std.proofs.lemmas.Option.{slice_get_cases}
use Rattle.std.proofs.Math.Seq.{take-append_seam}
use Rattle.ic_base.specs.declared.messages.ComId.{ComId}
use Rattle.ic_base.specs.declared.messages.Done.{Done}
use Rattle.ic_base.specs.declared.messages.Request.{Request}
use Rattle.ic_base.specs.declared.played.Played.{Played}
use Rattle.ic_base.specs.declared.played.Played.TheVariants.{Asks, Ready}
use Rattle.ic_base.specs.declared.scenario.Stmt.{Stmt}
use Rattle.def_play.specs.Playing.{played_all}
use Rattle.def_play.specs.Ledger.{Talk, first_talk, heard, AsksInTurn, answered, answers_on, answer_on, ledger_after, ledger_after_all, whole_part}
use Rattle.def_play.proofs.Talks.{whole_part_of, whole_part_asks}
use Rattle.ic_eval.specs.Counts.{count_of_all}
use Rattle.ic_eval.specs.Laws.{AreRequests, LacksNone}
use Rattle.ic_eval.proofs.Few.{asks_no_more}

-- fewer than 256 requests, since with 255 answers a part asks no more
pub asks_few : (stmts : List Stmt) (vars args : List ℤ) (done : List Done) (now : List ℤ) (qs : List Request) → count_of_all stmts ≤ 256 → AreRequests (played_all stmts vars args done) now qs → LacksNone (played_all stmts vars args done now) → length qs < 256
asks_few stmts vars args done now qs few are lacks =
    ⊎_elim
    (λ k.
    let one = are.1 255 k.0 k.2 in
    let many : length (take 255 now) ≡ 255 = length-take-le 255 now (omega (arith, k.1, are.0)) in
    absurd (lacks one.0 k.0 (asks_no_more stmts vars args done (take 255 now) now one.0 k.0 few (omega (arith, many)) one.1)))
    (λ k. omega (arith, k.0))
    ((slice_get_cases qs 255).1)

said_before : (w : Talk) (rest a : List ℤ) → a ≡ w.answers ++ rest → take (length w.answers + 0) a ≡ w.answers
said_before w rest a is =
    let n : length w.answers + 0 ≡ length w.answers = omega arith in
    ap (λ k. take k a) n ∙ ap (take (length w.answers)) is ∙ take-append_seam w.answers rest

one_more : (w : Talk) (x : ℤ) (n : ℕ) → length (w.answers ++ x ∷ []) + n ≡ length w.answers + suc n
one_more w x n = omega (arith, length-append w.answers (x ∷ []))

-- a part that is ready with what its requests get asks them in turn
pub part_asks : (play : List ℤ → Played) (t : ComId) (w : Talk) (qs : List Request) (a : List ℤ) → a ≡ w.answers ++ answers_on w.ledger qs → ((n : ℕ) (q : Request) → slice_get qs n ≡ Some q → (u : ComId) × (play (take (length w.answers + n) a) ≡ Asks u q)) → play a ≡ Ready t → AsksInTurn play t w qs
part_asks play t w [] a is asks end = ap play (sym (append-nil w.answers)) ∙ ap play (sym is) ∙ end
part_asks play t w (q ∷ qs) a is asks end =
    let first = asks 0 q refl in
    let x = answer_on w.ledger q in
    let rest = answers_on (ledger_after w.ledger q) qs in (
      (first.0, ap play (sym (said_before w (x ∷ rest) a is)) ∙ first.1),
      part_asks play t (heard w q) qs a (is ∙ sym (append_assoc w.answers (x ∷ []) rest))
          (λ n r g. ((asks (suc n) r g).0, ap (λ k. play (take k a)) (one_more w x n) ∙ (asks (suc n) r g).1)) end,
    )

-- and back
pub part_asked : (play : List ℤ → Played) (t : ComId) (w : Talk) (qs : List Request) → AsksInTurn play t w qs → (n : ℕ) (r : Request) → slice_get qs n ≡ Some r → (u : ComId) × (play (take (length w.answers + n) (w.answers ++ answers_on w.ledger qs)) ≡ Asks u r)
part_asked play t w [] h n r g = absurd (cc)
part_asked play t w (q ∷ qs) h zero r g =
    let same : q ≡ r = ap (λ o. unwrap_or o q) g in
    (h.0.0, ap play (said_before w (answers_on w.ledger (q ∷ qs)) _ refl) ∙ h.0.1 ∙ ap (Asks h.0.0) same)
part_asked play t w (q ∷ qs) h (suc n) r g =
    let x = answer_on w.ledger q in
    let rest = answers_on (ledger_after w.ledger q) qs in
    let next = part_asked play t (heard w q) qs h.1 n r g in
    (next.0, ap (λ k. play (take k (w.answers ++ x ∷ rest))) (sym (one_more w x n)) ∙ ap (λ l. play (take (length (w.answers ++ x ∷ []) + n) l)) (sym (append_assoc w.answers (x ∷ []) rest)) ∙ next.1)

pub part_ready : (play : List ℤ → Played) (t : ComId) (w : Talk) (qs : List Request) → AsksInTurn play t w qs → play (w.answers ++ answers_on w.ledger qs) ≡ Ready t
part_ready play t w [] h = ap play (append-nil w.answers) ∙ h
part_ready play t w (q ∷ qs) h =
    ap play (sym (append_assoc w.answers (answer_on w.ledger q ∷ []) (answers_on (ledger_after w.ledger q) qs))) ∙ part_ready play t (heard w q) qs h.1

each_answered : (ledger : List ℤ) (qs : List Request) → length (answers_on ledger qs) ≡ length qs
each_answered ledger [] = refl
each_answered ledger (q ∷ qs) = ap suc (each_answered (ledger_after ledger q) qs)

from_none : (n : ℕ) → n ≡ 0 + n
from_none n = omega arith

pub whole_where_ready : (stmts : List Stmt) (vars args : List ℤ) (done : List Done) (ledger now : List ℤ) (t : ComId) (qs : List Request) → count_of_all stmts ≤ 256 → AreRequests (played_all stmts vars args done) now qs → now ≡ answers_on ledger qs → played_all stmts vars args done now ≡ Ready t → whole_part (played_all stmts vars args done) ledger ≡ Some (t, answered ledger qs)
whole_where_ready stmts vars args done ledger now t qs few are is end =
    let le = asks_few stmts vars args done now qs few are (λ u q h. absurd (cc)) in
    whole_part_of (played_all stmts vars args done) t ledger qs (omega (arith, le))
    (part_asks (played_all stmts vars args done) t (first_talk ledger) qs now is
    (λ n q g. ((are.1 n q g).0, ap (λ k. played_all stmts vars args done (take k now)) (sym (from_none n)) ∙ (are.1 n q g).1)) end)

-- what is known of a talk that is whole
abbrev IsTold : (List ℤ → Played) → List ℤ → ComId → Talk → Type 0
IsTold play ledger t x = (play x.answers ≡ Ready t) × AreRequests play x.answers x.asked × (x.answers ≡ answers_on ledger x.asked) × (x.ledger ≡ ledger_after_all ledger x.asked)

pub ready_where_whole : (play : List ℤ → Played) (ledger : List ℤ) (t : ComId) (x : Talk) → whole_part play ledger ≡ Some (t, x) → IsTold play ledger t x
ready_where_whole play ledger t x h =
    let s = whole_part_asks play t ledger x h in
    let P : Talk → Type 0 = IsTold play ledger t in
    let asks = s.1.2 in
    subst P (sym s.1.1) (
      part_ready play t (first_talk ledger) s.0 asks,
      (
        each_answered ledger s.0,
        λ n q g.
            let one = part_asked play t (first_talk ledger) s.0 asks n q g in
            (one.0, ap (λ k. play (take k (answers_on ledger s.0))) (from_none n) ∙ one.1),
      ),
      refl,
      refl,
    )

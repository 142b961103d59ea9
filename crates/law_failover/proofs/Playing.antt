-- What is shipped to a standby plays: no record is a misfit, and each message that is taken is at hand.
use Rattle.std.proofs.Common.{◌≡◌, refl, ◌∙◌, ap, sym, subst, ℕ, ◌≤◌, nat_le, true, false, cond, not, ◌&&◌, List, [], ◌∷◌, ◌++◌, map, Some, None}
use Rattle.std.specs.Prelude.{Contains}
use Rattle.std.specs.List.{AllByRecursion, list_all}
use Rattle.ic_base.specs.declared.limits.TheConstants.{GREATEST_NUMBER}
use Rattle.ic_base.specs.declared.messages.ComId.{ComId}
use Rattle.ic_base.specs.declared.record.Record.{Record}
use Rattle.ic_base.specs.declared.record.Record.TheVariants as records
use Rattle.ic_base.specs.declared.scenario.Program.{Program}
use Rattle.def_state.specs.Fits.{fits}
use Rattle.def_state.specs.Hist.{Hist, Contents}
use Rattle.def_state.specs.Mirrors.{Mirrors}
use Rattle.def_state.specs.Txn.{Txn}
use Rattle.def_state.specs.Vol.{Vol, standing, record_in, numbers_fit}
use Rattle.def_standby.specs.Standbys.{content_of, is_missing, played_on, play_all}
use Rattle.law_pcom.specs.Mirroring.{IsContentOf}
use Rattle.law_pcom.proofs.Ending.{no_part_ends}
use Rattle.law_pcom.proofs.Living.{lives}
use Rattle.law_pcom.proofs.Playing.{records_mirror}
use Rattle.law_pcom.proofs.Standing.{fits_both}
use Rattle.law_replay.proofs.Lists.{both-true, le-true, in-head, in-tail}
use Rattle.law_run.proofs.Hists.{HistFits, begun-low, made-low}
use Rattle.law_run.proofs.Misfits.{Replayed, next-of, state-fits}

low-links : (xs : List (ComId × ℕ)) → AllByRecursion (λ x. x.1 ≤ GREATEST_NUMBER) xs → list_all (λ n. nat_le n GREATEST_NUMBER) (map (λ x. x.1) xs) ≡ true
low-links [] h = refl
low-links (x ∷ xs) h = both-true (nat_le x.1 GREATEST_NUMBER) _ (le-true x.1 GREATEST_NUMBER h.0) (low-links xs h.1)

low-numbers : (program : Program) (c : ComId) (v : Vol) (h : Hist) → HistFits program c h → Mirrors v h → numbers_fit v ≡ true
low-numbers program c v h x m =
    both-true (nat_le v.clock GREATEST_NUMBER) _ (le-true v.clock GREATEST_NUMBER (subst (λ n. n ≤ GREATEST_NUMBER) (sym m.clock) x.clock))
    (both-true (nat_le v.shelf.made GREATEST_NUMBER) _ (le-true v.shelf.made GREATEST_NUMBER (subst (λ n. n ≤ GREATEST_NUMBER) (sym m.made) (made-low h x.numbers)))
    (both-true (nat_le v.txn.begun GREATEST_NUMBER) _ (le-true v.txn.begun GREATEST_NUMBER (subst (λ (t : Txn). t.begun ≤ GREATEST_NUMBER) (sym m.txn) (begun-low h x.numbers)))
    (low-links v.outbox.links (subst (λ l. AllByRecursion (λ (y : ComId × ℕ). y.1 ≤ GREATEST_NUMBER) l) (sym m.links) x.links))))

own-content : (k : Contents) (r : Record) → IsContentOf k r (content_of k r)
own-content k (records.Take s n stamp) = refl
own-content k (records.TakeWhole s n stamp handler args) = tt
own-content k (records.Input stamp handler args) = tt
own-content k (records.Value n place session value) = tt
own-content k (records.Outcome stamp n abort) = tt
own-content k (records.Released to n) = tt
own-content k (records.Shown m) = tt
own-content k (records.Checkpoint image) = tt
own-content k (records.Epoch epoch) = tt
own-content k (records.Decided stamp d n writes) = tt

-- records that a replay takes with the contents that were received play with those at hand
pub plays-all : (program : Program) (c : ComId) (k contents : Contents) (v : Vol) (played rs : List Record) (h : Hist) → Replayed program c k played rs h → Mirrors v h → ((r : Record) → Contains rs r → (is_missing contents r ≡ false) × (content_of contents r ≡ content_of k r)) →
    (w : Vol) × (play_all program c contents v rs ≡ Some w)
plays-all program c k contents v played [] h x m hand = (v, refl)
plays-all program c k contents v played (r ∷ rs) h x m hand =
    let n = next-of program c k played r rs h x in
    let at = hand r (in-head r rs) in
    let now : Vol = played_on program c contents v r in
    let mirrors : Mirrors now n.next =
    subst (λ o. Mirrors (record_in program c 0 o v r) n.next) (sym at.1)
    (records_mirror program c 0 k (content_of k r) v h n.next r (no_part_ends program) (lives program c k played h x.is).sits (own-content k r) m n.applied) in
    let rest = plays-all program c k contents now (played ++ r ∷ []) rs n.next n.then mirrors (λ q g. hand q (in-tail r q rs g)) in (
      rest.0,
      ap (λ b. cond b (play_all program c contents now rs) None)
          (both-true (fits program c (standing program c v) r && not (is_missing contents r)) (numbers_fit now)
          (both-true (fits program c (standing program c v) r) (not (is_missing contents r)) (fits_both program c v h r m ∙ n.is_fit) (ap not at.0))
          (low-numbers program c now n.next (state-fits program c k (played ++ r ∷ []) rs n.next n.then) mirrors))
          ∙ rest.1,
    )

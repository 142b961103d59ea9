-- A whole part as it is played: one request more, and its end.
use Rattle.std.proofs.Common.{◌≡◌, refl, ap, sym, ◌∙◌, ℕ, suc, ◌+◌, ◌-◌, ◌<◌, ◌≤◌, ℤ, List, Some, None, arith, true, false, ◌==◌}
use Rattle.std.specs.Prelude.{Option, option_map}
use Rattle.ic_base.specs.declared.messages.ComId.{ComId}
use Rattle.ic_base.specs.declared.messages.Request.{Request}
use Rattle.ic_base.specs.declared.played.Played.{Played}
use Rattle.ic_base.specs.declared.played.Played.TheVariants.{Asks, Ready, NeedFails, Ends}
use Rattle.ic_base.specs.declared.scenario.Program.{Program}
use Rattle.def_play.specs.Ledger.{Talk, talk, talked, heard, whole_part, first_talk}
use Rattle.def_plain.specs.declared.world.InHand.{InHand}
use Rattle.def_plain.specs.declared.world.PlainPcom.{PlainPcom}
use Rattle.std.proofs.lemmas.Grind.{common_steps}
use Rattle.def_plain.proofs.Steps.{part-is}
use Rattle.ic_model.specs.declared.whole.Talk as code
use Rattle.ic_model.specs.Views.{talk_seen, ended_seen}
use Rattle.def_plain.specs.Cell.{hand_played, provided}
use Rattle.def_plain.specs.Plain.{PlainWorld, pcom_at, ledger_at, part_on, said_with}

-- what a part comes to that has made i requests
unfoldable pub part_behind : (List ℤ → Played) → ℕ → Talk → Option (ComId × Talk)
part_behind play i w = talk play (257 - i) w

pub behind_none : (play : List ℤ → Played) (ledger : List ℤ) → part_behind play 0 (first_talk ledger) ≡ whole_part play ledger
unfolding part_behind whole_part
behind_none play ledger = refl

goes_on : (play : List ℤ → Played) (i : ℕ) (w : Talk) (r : Played) → i < 257 → play w.answers ≡ r → part_behind play i w ≡ talked (part_behind play (i + 1)) w r
unfolding part_behind
goes_on play i w r h is = by_left (257 - i) (257 - (i + 1)) (omega (arith, h))
  where
    by_left : (n k : ℕ) → n ≡ suc k → talk play n w ≡ talked (talk play k) w r
    by_left n k e = ap (λ j. talk play j w) e ∙ ap (talked (talk play k) w) is

pub behind_ask : (play : List ℤ → Played) (i : ℕ) (w : Talk) (t : ComId) (q : Request) → i < 257 → play w.answers ≡ Asks t q → part_behind play i w ≡ part_behind play (i + 1) (heard w q)
behind_ask play i w t q h is = goes_on play i w (Asks t q) h is

pub behind_ready : (play : List ℤ → Played) (i : ℕ) (w : Talk) (t : ComId) → i < 257 → play w.answers ≡ Ready t → part_behind play i w ≡ Some (t, w)
behind_ready play i w t h is = goes_on play i w (Ready t) h is

-- a need that fails and an end break the part off
pub behind_other : (play : List ℤ → Played) (i : ℕ) (w : Talk) (r : Played) → i < 257 → play w.answers ≡ r → ((t : ComId) (q : Request) → r ≡ Asks t q → ⊥) → ((t : ComId) → r ≡ Ready t → ⊥) → part_behind play i w ≡ None
behind_other play i w (Asks t q) h is a b = absurd (a t q refl)
behind_other play i w (Ready t) h is a b = absurd (b t refl)
behind_other play i w (NeedFails t line) h is a b = goes_on play i w (NeedFails t line) h is
behind_other play i w (Ends vars sends outs) h is a b = goes_on play i w (Ends vars sends outs) h is

pub behind_all : (play : List ℤ → Played) (i : ℕ) (w : Talk) → 257 ≤ i → part_behind play i w ≡ None
unfolding part_behind
behind_all play i w h = let e : 257 - i ≡ 0 = omega (arith, h) in ap (λ j. talk play j w) e

-- the whole part of c on the ledger of t, from how it ended
pub part_found : (program : Program) (w : PlainWorld) (t c : ComId) (p : PlainPcom) (hand : InHand) (ledger copy : List ℤ) (u : ComId) (x : code.Talk) (r : Option (ComId × code.Talk)) → ledger_at w t ≡ Some ledger → pcom_at w c ≡ Some p → p.hand ≡ Some hand → copy ≡ ledger → option_map ended_seen r ≡ whole_part (hand_played program c p hand) copy → r ≡ Some (u, x) → part_on program w t c ≡ said_with t (u, talk_seen x)
part_found program w t c p hand ledger copy u x r at here held same whole is =
    part-is program w t c p hand ledger (u, talk_seen x) at here held (ap (whole_part (hand_played program c p hand)) (sym same) ∙ sym whole ∙ ap (option_map ended_seen) is)

pub said_same : (t u : ComId) (x : Talk) → u.0 ≡ t.0 → said_with t (u, x) ≡ Some x
said_same t u x h = ap (λ b. provided b x) (by_number u.0 t.0 h)
  where
    by_number : (a b : ℕ) → a ≡ b → (a == b) ≡ true
    by_number a b e = grind (arith, common_steps)

pub said_other : (t u : ComId) (x : Talk) → (u.0 ≡ t.0 → ⊥) → said_with t (u, x) ≡ None
said_other t u x h = ap (λ b. provided b x) (by_number u.0 t.0 h)
  where
    by_number : (a b : ℕ) → (a ≡ b → ⊥) → (a == b) ≡ false
    by_number a b e = grind (arith, common_steps)

-- The whole of an image, from what its readers came to.
use Rattle.std.proofs.Common.{◌≡◌, ℕ, ◌-◌, List, [], length, refl, Some, subst, ◌∙◌}
use Rattle.std.specs.Prelude.{Ok, Err, ◌==◌}
use Rattle.std.specs.Int.{w8, w32}
use Rattle.ic_base.specs.declared.messages.ComId.{ComId}
use Rattle.ic_base.specs.declared.scenario.Program.{Program}
use Rattle.def_log.specs.Reading.{number_at, time_at}
use Rattle.def_state.specs.Names.{Numbers}
use Rattle.def_state.specs.Vol.{first_vol}
use Rattle.def_state.specs.ImagePlaces.{Reading, field, any, items, values, counted_values, last_txn, output, link, message, sender, at_end, place_in, image}
use Rattle.ic_ckpt.specs.Reads.{left}
use Rattle.law_image.proofs.Fields.{goes_on}

-- place after place, up to the end
pub record IsWalked (program : Program) (c : ComId) (bytes rest : List ℕ) : Type 0 where
  pub clock : ℕ × List ℕ
  pub clock_is : field time_at any bytes ≡ Ok clock
  pub count : ℕ × List ℕ
  pub wanted : ℕ
  pub wanted_is : wanted ≡ length (first_vol program c).vars
  pub count_is : field (number_at w8) (λ n. n == wanted) clock.1 ≡ Ok count
  pub vars : ℕ × List ℕ
  pub vars_are : values count.0 count.1 ≡ Ok vars
  pub begun : ℕ × List ℕ
  pub begun_is : field time_at any vars.1 ≡ Ok begun
  pub last : ℕ × List ℕ
  pub last_is : last_txn program begun.0 begun.1 ≡ Ok last
  pub made : ℕ × List ℕ
  pub made_is : field time_at any last.1 ≡ Ok made
  pub outputs : ℕ × List ℕ
  pub outputs_is : field (number_at w32) any made.1 ≡ Ok outputs
  pub shelf : ℕ × List ℕ
  pub shelf_is : items (output program made.0) outputs.0 0 outputs.1 ≡ Ok shelf
  pub ends : ℕ × List ℕ
  pub ends_is : field (number_at w8) any shelf.1 ≡ Ok ends
  pub links : Numbers × List ℕ
  pub links_are : items (link program c) ends.0 [] ends.1 ≡ Ok links
  pub held : ℕ × List ℕ
  pub held_is : field (number_at w32) any links.1 ≡ Ok held
  pub messages : Numbers × List ℕ
  pub messages_are : items (message program c clock.0 links.0) held.0 [] held.1 ≡ Ok messages
  pub senders : ℕ × List ℕ
  pub senders_is : field (number_at w8) any messages.1 ≡ Ok senders
  pub taken : List ℕ
  pub taken_are : items (sender program c) senders.0 [] senders.1 ≡ Ok (taken, rest)

pub image-walked : (program : Program) (c : ComId) (bytes rest : List ℕ) → IsWalked program c bytes rest → image program c bytes ≡ at_end rest
unfolding image counted_values
image-walked program c bytes rest h =
    goes_on _ (field time_at any bytes) h.clock h.clock_is
    ∙ goes_on _ (counted_values (λ n. n == length (first_vol program c).vars) h.clock.1) h.vars
    (goes_on (λ n. values n.0 n.1) (field (number_at w8) (λ n. n == length (first_vol program c).vars) h.clock.1) h.count (subst (λ (z : ℕ). field (number_at w8) (λ n. n == z) h.clock.1 ≡ Ok h.count) h.wanted_is h.count_is) ∙ h.vars_are)
    ∙ goes_on _ (field time_at any h.vars.1) h.begun h.begun_is
    ∙ goes_on _ (last_txn program h.begun.0 h.begun.1) h.last h.last_is
    ∙ goes_on _ (field time_at any h.last.1) h.made h.made_is
    ∙ goes_on _ (field (number_at w32) any h.made.1) h.outputs h.outputs_is
    ∙ goes_on _ (items (output program h.made.0) h.outputs.0 0 h.outputs.1) h.shelf h.shelf_is
    ∙ goes_on _ (field (number_at w8) any h.shelf.1) h.ends h.ends_is
    ∙ goes_on _ (items (link program c) h.ends.0 [] h.ends.1) h.links h.links_are
    ∙ goes_on _ (field (number_at w32) any h.links.1) h.held h.held_is
    ∙ goes_on _ (items (message program c h.clock.0 h.links.0) h.held.0 [] h.held.1) h.messages h.messages_are
    ∙ goes_on _ (field (number_at w8) any h.messages.1) h.senders h.senders_is
    ∙ goes_on _ (items (sender program c) h.senders.0 [] h.senders.1) (h.taken, rest) h.taken_are

-- where a reading stops there is a place
pub stops-at : (bytes : List ℕ) (reading : Reading ℕ) (n : ℕ) → left reading ≡ Some n → (place : ℕ) × (place_in bytes reading ≡ Some place)
stops-at bytes (Ok x) n e = absurd cc
stops-at bytes (Err rest) n e = (length bytes - length rest, refl)

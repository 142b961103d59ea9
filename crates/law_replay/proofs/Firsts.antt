-- The first state, live and replayed.
use Rattle.std.proofs.Common.{◌≡◌, refl, ap, sym, [], length, map, slice_get, Option, Some, None, fold}
use Rattle.ic_base.specs.declared.messages.ComId.{ComId}
use Rattle.ic_base.specs.declared.scenario.Component.{Component}
use Rattle.ic_base.specs.declared.scenario.Program.{Program}
use Rattle.def_state.specs.Inbox.{insert_identity}
use Rattle.def_state.specs.Txn.{Idle}
use Rattle.def_state.specs.Hist.{first_hist, first_cell, first_plain, receipt_identity}
use Rattle.def_plain.specs.declared.world.PlainPcom.{PlainPcom}
use Rattle.def_state.specs.Mirrors.{Mirrors}
use Rattle.def_state.specs.Vol.{first_vol}

pub first-mirrors : (program : Program) (c : ComId) → Mirrors (first_vol program c) (first_hist program c)
first-mirrors program c = at (slice_get program.components c.0) refl
  where
    at : (o : Option Component) → slice_get program.components c.0 ≡ o → Mirrors (first_vol program c) (first_hist program c)
    at None e = mirror (ap first_cell e)
      where
        mirror : first_plain program c ≡ first_cell None → Mirrors (first_vol program c) (first_hist program c)
        mirror f = record {
          vars = refl;
          clock = refl;
          hand = sym (ap (λ (p : PlainPcom). p.hand) f);
          now = refl;
          txn = ap (λ n. record { begun = n; last = None; stage = Idle }) (sym (ap (λ (p : PlainPcom). p.begun) f));
          held = refl;
          links = refl;
          taken = ap (λ (p : PlainPcom). fold (λ xs x. insert_identity x xs) [] (map receipt_identity p.receipts)) (sym f);
          waiting = refl;
          made = sym (ap (λ (p : PlainPcom). length p.outs) f);
        }
    at (Some d) e = mirror (ap first_cell e)
      where
        mirror : first_plain program c ≡ first_cell (Some d) → Mirrors (first_vol program c) (first_hist program c)
        mirror f = record {
          vars = refl;
          clock = refl;
          hand = sym (ap (λ (p : PlainPcom). p.hand) f);
          now = refl;
          txn = ap (λ n. record { begun = n; last = None; stage = Idle }) (sym (ap (λ (p : PlainPcom). p.begun) f));
          held = refl;
          links = refl;
          taken = ap (λ (p : PlainPcom). fold (λ xs x. insert_identity x xs) [] (map receipt_identity p.receipts)) (sym f);
          waiting = refl;
          made = sym (ap (λ (p : PlainPcom). length p.outs) f);
        }

-- What an image asks of a replayed state, beside the bytes of its fields.
use Rattle.std.proofs.Common.{◌≡◌, refl, ◌∙◌, sym, subst, ℕ, ◌==◌, Bool, true, not, List, [], ◌∷◌, ◌++◌, length, Option, Some, None}
use Rattle.std.specs.Prelude.{⊤, MatchOption, filter}
use Rattle.std.proofs.lemmas.List.{append-nil, append_assoc}
use Rattle.std.proofs.lemmas.Option.{same_Some}
use Rattle.ic_base.specs.declared.messages.ComId.{ComId}
use Rattle.ic_base.specs.declared.messages.Msg.{Msg}
use Rattle.ic_base.specs.declared.record.Record.{Record}
use Rattle.ic_base.specs.declared.record.Record.TheVariants.{Take, TakeWhole, Input, Value, Outcome, Released, Shown, Checkpoint, Epoch, Decided}
use Rattle.ic_base.specs.declared.scenario.Program.{Program}
use Rattle.ic_base.specs.Programs.{is_a_tcom}
use Rattle.def_plain.specs.Cell.{Touch}
use Rattle.def_state.specs.Fits.{fits}
use Rattle.def_state.specs.Hist.{Hist, Contents, after, first_hist, first_plain, recorded, played_on, new_messages, touch_of, standing_of, last_ended, txn_of, answered, links_of, identity_of}
use Rattle.def_state.specs.Names.{same_identity}
use Rattle.def_state.specs.Txn.{tcom_of, last_of}
use Rattle.def_facts.specs.Playable.{IsPlayable}
use Rattle.law_run.proofs.Hists.{open-tcom}
use Rattle.law_run.proofs.Orders.{links-more}
use Rattle.law_replay.proofs.Lists.{none-some, passed}
use Rattle.law_replay.proofs.Shown.{played_is}
use Rattle.law_run.proofs.Misfits.{Replayed, next-of}
use Rattle.law_run.proofs.Rising.{RiseOn, rise-more, rise-less}
use Rattle.law_run.proofs.Variables.{cell-vars}

-- as many variables as the component has, an ended transaction of a Tcom, and held messages that rise on each link
pub record Shaped (program : Program) (c : ComId) (h : Hist) : Type 0 where
  pub vars : length h.plain.vars ≡ length (first_plain program c).vars
  pub last : MatchOption h.last ⊤ (λ x. is_a_tcom program x.0 ≡ true)
  pub held : RiseOn (links_of h.sent) h.held

played-shaped : (program : Program) (c : ComId) (h g : Hist) (stamp : ℕ) (t : Option Touch) → Shaped program c h → played_on program c h stamp t ≡ Some g → Shaped program c g
played-shaped program c h g stamp None x e = none-some g e
played-shaped program c h g stamp (Some t) x e =
    let y = played_is program c h g stamp t e in
    let news = new_messages c stamp h y.0 in
    subst (Shaped program c) y.2 (record {
      vars = cell-vars program c h.plain y.0 t y.1 ∙ x.vars;
      last = x.last;
      held = subst (λ l. RiseOn l (h.held ++ news)) (sym (links-more h.sent news)) (rise-more c stamp (links_of h.sent) h.held _ x.held);
    })

-- a transaction that ends is of a Tcom
ended-shaped : (program : Program) (c : ComId) (k : Contents) (log : List Record) (h : Hist) → IsPlayable program → after program c k log ≡ Some h → Shaped program c h → Shaped program c (last_ended h)
ended-shaped program c k log h good e x = record { vars = x.vars; last = at (tcom_of h.stage) refl; held = x.held }
  where
    at : (o : Option ComId) → tcom_of h.stage ≡ o → MatchOption (last_of (txn_of h) o) ⊤ (λ y. is_a_tcom program y.0 ≡ true)
    at None is = x.last
    at (Some t) is = open-tcom program c k log h t good e is

recorded-shaped : (program : Program) (c : ComId) (k : Contents) (log : List Record) (h g : Hist) (r : Record) → IsPlayable program → after program c k log ≡ Some h → Shaped program c h → recorded program c k h r ≡ Some g → Shaped program c g
recorded-shaped program c k log h g (Take from n stamp) good is x e = played-shaped program c h g stamp (touch_of k h.now (Take from n stamp)) x e
recorded-shaped program c k log h g (TakeWhole from n stamp handler args) good is x e = played-shaped program c h g stamp (touch_of k h.now (TakeWhole from n stamp handler args)) x e
recorded-shaped program c k log h g (Input stamp handler args) good is x e = played-shaped program c h g stamp (touch_of k h.now (Input stamp handler args)) x e
recorded-shaped program c k log h g (Outcome stamp n abort) good is x e = played-shaped program c (last_ended h) g stamp (touch_of k h.now (Outcome stamp n abort)) (ended-shaped program c k log h good is x) e
recorded-shaped program c k log h g (Value n place session value) good is x e = subst (Shaped program c) (same_Some (answered program c h session (h.now ++ value ∷ [])) g e) (record { vars = x.vars; last = x.last; held = x.held })
recorded-shaped program c k log h g (Released to n) good is x e =
    let kept : Msg → Bool = λ m. not (same_identity (record { peer = to; k = n }) (identity_of m)) in
    subst (Shaped program c) (same_Some (record h { held = filter kept h.held }) g e) (record { vars = x.vars; last = x.last; held = rise-less kept (links_of h.sent) h.held x.held })
recorded-shaped program c k log h g (Shown m) good is x e = subst (Shaped program c) (same_Some (record h { unshown = filter (λ o. not (o.m == m)) h.unshown; shown = m }) g e) (record { vars = x.vars; last = x.last; held = x.held })
recorded-shaped program c k log h g (Checkpoint image) good is x e = subst (Shaped program c) (same_Some h g e) x
recorded-shaped program c k log h g (Epoch epoch) good is x e = none-some g e
recorded-shaped program c k log h g (Decided stamp d n writes) good is x e = none-some g e

pub first-shaped : (program : Program) (c : ComId) → Shaped program c (first_hist program c)
first-shaped program c = record { vars = refl; last = tt; held = λ to. (refl, refl) }

-- each state that a replay comes to
pub replayed-shaped : (program : Program) (c : ComId) (k : Contents) (log rs : List Record) (h : Hist) → Replayed program c k log rs h → Shaped program c h → (pre post : List Record) → rs ≡ pre ++ post → (g : Hist) × Replayed program c k (log ++ pre) post g × Shaped program c g
replayed-shaped program c k log rs h x s [] post e = (h, subst (λ l. Replayed program c k l post h) (sym (append-nil log)) (subst (λ l. Replayed program c k log l h) e x), s)
replayed-shaped program c k log rs h x s (r ∷ pre) post e =
    let n = next-of program c k log r (pre ++ post) h (subst (λ l. Replayed program c k log l h) e x) in
    let y = replayed-shaped program c k (log ++ r ∷ []) (pre ++ post) n.next n.then (recorded-shaped program c k log h n.next r x.good x.is s (passed (fits program c (standing_of program c h) r) (recorded program c k h r) n.next n.applied).1) pre post refl in
    (y.0, subst (λ l. Replayed program c k l post y.0) (append_assoc log (r ∷ []) pre) y.1, y.2)

pub states-shaped : (program : Program) (c : ComId) (k : Contents) (log post : List Record) (h : Hist) → Replayed program c k [] (log ++ post) (first_hist program c) → after program c k log ≡ Some h → Shaped program c h
states-shaped program c k log post h x e =
    let y = replayed-shaped program c k [] (log ++ post) (first_hist program c) x (first-shaped program c) log post refl in
    subst (Shaped program c) (same_Some y.0 h (sym y.1.is ∙ e)) y.2

-- What a Pcom's crash-free part sends and shows goes where the program lets it, and it takes each message once.
use Rattle.std.proofs.Common.{◌≡◌, refl, ◌∙◌, ap, sym, subst, ℕ, Bool, true, false, not, ◌&&◌, ℤ, List, [], ◌∷◌, ◌++◌, map, fold, Option, Some, None, is_none}
use Rattle.std.specs.Prelude.{Contains}
use Rattle.std.specs.List.{AllByRecursion}
use Rattle.std.proofs.lemmas.List.{map-append}
use Rattle.std.proofs.lemmas.List.Sums.{fold-append}
use Rattle.ic_base.specs.declared.messages.ComId.{ComId}
use Rattle.ic_base.specs.declared.messages.Done.{Done}
use Rattle.ic_base.specs.declared.messages.Done.TheVariants.{Committed, Aborted}
use Rattle.ic_base.specs.declared.messages.Out.{Out}
use Rattle.ic_base.specs.declared.messages.Send.{Send}
use Rattle.ic_base.specs.declared.played.Played.{Played}
use Rattle.ic_base.specs.declared.played.Played.TheVariants.{Asks, Ready, NeedFails, Ends}
use Rattle.ic_base.specs.declared.scenario.Component.{Component}
use Rattle.ic_base.specs.declared.scenario.Program.{Program}
use Rattle.ic_base.specs.Programs.{is_other_pcom, is_an_xcom, has_handler}
use Rattle.def_plain.specs.declared.world.InHand.{InHand}
use Rattle.def_plain.specs.declared.world.PlainPcom.{PlainPcom}
use Rattle.def_plain.specs.Cell.{Touch, TakesMessage, TakesInput, SeesAbort, SeesCommit, provided, come_to, has_taken, plays_on, transaction_ends, cell_step, hand_played, new_in_hand}
use Rattle.def_play.specs.Playing.{played}
use Rattle.def_state.specs.Hist.{first_cell, receipt_identity}
use Rattle.def_state.specs.Inbox.{insert_identity}
use Rattle.def_state.specs.Names.{Identity, same_identity}
use Rattle.def_facts.specs.Playable.{IsPlayable}
use Rattle.law_image.specs.Readable.{is_ordered}
use Rattle.law_pcom.proofs.Recorded.{same-taken}
use Rattle.law_replay.proofs.Lists.{none-some, not-true, back, provided-is, in-head, in-tail}
use Rattle.law_settle.proofs.Walks.{all-append}
use Rattle.law_run.proofs.Orders.{insert-ordered, taken-any}

pub record SendGoes (program : Program) (c : ComId) (s : Send) : Type 0 where
  pub to : is_other_pcom program c s.to ≡ true
  pub handler : has_handler program s.to s.handler s.args ≡ true

abbrev pub OutGoes : Program → Out → Type 0
OutGoes program o = is_an_xcom program o.to ≡ true

-- the taken identities, in order
abbrev pub taken_in : PlainPcom → List Identity
taken_in p = fold (λ xs x. insert_identity x xs) [] (map receipt_identity p.receipts)

pub record CellGoes (program : Program) (c : ComId) (p : PlainPcom) : Type 0 where
  pub sent : AllByRecursion (SendGoes program c) p.sent
  pub outs : AllByRecursion (OutGoes program) p.outs
  pub ordered : is_ordered (taken_in p) ≡ true

pub each-of : {A : Type 0} (P : A → Type 0) (xs : List A) → ((x : A) → Contains xs x → P x) → AllByRecursion P xs
each-of P [] h = tt
each-of P (x ∷ xs) h = (h x (in-head x xs), each-of P xs (λ y k. h y (in-tail x y xs k)))

come-goes : (program : Program) (c : ComId) (p : PlainPcom) (handler : ℕ) (vars args : List ℤ) (done : List Done) (now : List ℤ) (r : Played) → IsPlayable program → played program c handler vars args done now ≡ r → CellGoes program c p → CellGoes program c (come_to p r)
come-goes program c p handler vars args done now (Ends last sends outs) good e x = record {
  sent = all-append (SendGoes program c) p.sent sends x.sent (each-of (SendGoes program c) sends (λ s k. let y = good.sends_fit c handler vars args done now last sends outs e s k in record { to = y.0; handler = y.1 }));
  outs = all-append (OutGoes program) p.outs outs x.outs (each-of (OutGoes program) outs (λ o k. good.outs_fit c handler vars args done now last sends outs e o k));
  ordered = x.ordered;
}
come-goes program c p handler vars args done now (Asks t q) good e x = record { sent = x.sent; outs = x.outs; ordered = x.ordered }
come-goes program c p handler vars args done now (Ready t) good e x = record { sent = x.sent; outs = x.outs; ordered = x.ordered }
come-goes program c p handler vars args done now (NeedFails t line) good e x = record { sent = x.sent; outs = x.outs; ordered = x.ordered }

plays-go : (program : Program) (c : ComId) (p : PlainPcom) (hand : InHand) → IsPlayable program → CellGoes program c p → CellGoes program c (plays_on program c p hand)
plays-go program c p hand good x = come-goes program c (record p { hand = Some hand }) hand.handler p.vars hand.args hand.done [] (hand_played program c p hand []) good refl (record { sent = x.sent; outs = x.outs; ordered = x.ordered })

ends-go : (program : Program) (c : ComId) (p q : PlainPcom) (n : ℕ) (d : Done) → IsPlayable program → CellGoes program c p → (o : Option InHand) → transaction_ends program c p n d o ≡ Some q → CellGoes program c q
ends-go program c p q n d good x None e = none-some q e
ends-go program c p q n d good x (Some hand) e = subst (CellGoes program c) (provided-is _ _ q e) (plays-go program c p (record hand { done = hand.done ++ d ∷ [] }) good x)

provided-true : {A : Type 0} (b : Bool) (x y : A) → provided b x ≡ Some y → b ≡ true
provided-true true x y e = refl
provided-true false x y e = none-some y e

-- a new message in its place
new-ordered : (p : PlainPcom) (s : ComId) (k : ℕ) → has_taken p s k ≡ false → is_ordered (taken_in p) ≡ true → is_ordered (taken_in (record p { receipts = p.receipts ++ (s, k) ∷ [] })) ≡ true
new-ordered p s k new h =
    let x : Identity = record { peer = s; k = k } in
    ap (λ l. is_ordered (fold (λ xs y. insert_identity y xs) [] l)) (map-append receipt_identity p.receipts ((s, k) ∷ []))
    ∙ ap is_ordered (fold-append (λ l z. insert_identity z l) [] (map receipt_identity p.receipts) (record { peer = s; k = k } ∷ []))
    ∙ insert-ordered x (taken_in p) (taken-any (same_identity x) (map receipt_identity p.receipts) ∙ sym (same-taken p.receipts s k) ∙ new) h

pub cell-goes : (program : Program) (c : ComId) (p q : PlainPcom) (t : Touch) → IsPlayable program → CellGoes program c p → cell_step program c p t ≡ Some q → CellGoes program c q
cell-goes program c p q (TakesMessage s k handler args) good x e =
    subst (CellGoes program c) (provided-is _ _ q e)
    (plays-go program c (record p { receipts = p.receipts ++ (s, k) ∷ [] }) (new_in_hand handler args) good (record {
      sent = x.sent;
      outs = x.outs;
      ordered = new-ordered p s k (not-true (has_taken p s k) (back (is_none p.hand) (not (has_taken p s k)) (provided-true (is_none p.hand && not (has_taken p s k)) _ q e))) x.ordered;
    }))
cell-goes program c p q (TakesInput handler args) good x e = subst (CellGoes program c) (provided-is _ _ q e) (plays-go program c p (new_in_hand handler args) good x)
cell-goes program c p q (SeesAbort n) good x e = ends-go program c p q n Aborted good x p.hand e
cell-goes program c p q (SeesCommit n answers) good x e = ends-go program c p q n (Committed answers) good x p.hand e

pub first-goes : (program : Program) (c : ComId) (o : Option Component) → CellGoes program c (first_cell o)
first-goes program c None = record { sent = tt; outs = tt; ordered = refl }
first-goes program c (Some d) = record { sent = tt; outs = tt; ordered = refl }

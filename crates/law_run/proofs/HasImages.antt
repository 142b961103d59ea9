-- The state that a log gives has an image, where that isn't longer than a record may be.
use Rattle.std.proofs.Common.{◌≡◌, refl, ap, sym, subst, ℕ, zero, suc, ◌+◌, ◌<◌, ◌≤◌, ◌^◌, nat_le, nat_lt, Bool, true, false, ◌||◌, ℤ, List, [], ◌∷◌, ◌++◌, map, filter, length, slice_get, Option, Some, None, arith, ◌⊎◌, inl, inr}
use Rattle.std.specs.Prelude.{Contains}
use Rattle.std.specs.List.{AllByRecursion, flat_map, list_all}
use Rattle.std.specs.Int.{w32, to_be_bytes}
use Rattle.std.proofs.lemmas.List.{length-append}
use Rattle.std.proofs.lemmas.List.Elements.{All-from_recursion, recursion_from_All}
use Rattle.ic_base.specs.declared.limits.TheConstants.{COMPONENTS, GREATEST_NUMBER, VALUES, HANDLERS}
use Rattle.ic_base.specs.declared.messages.ComId.{ComId}
use Rattle.ic_base.specs.declared.messages.Msg.{Msg}
use Rattle.ic_base.specs.declared.messages.Out.{Out}
use Rattle.ic_base.specs.declared.messages.Output.{Output}
use Rattle.ic_base.specs.declared.messages.Send.{Send}
use Rattle.ic_base.specs.declared.record.Record.{Record}
use Rattle.ic_base.specs.declared.record.Record.TheVariants.{Take, TakeWhole, Input, Value, Outcome, Released, Shown, Checkpoint, Epoch, Decided}
use Rattle.ic_base.specs.declared.scenario.Component.{Component}
use Rattle.ic_base.specs.declared.scenario.Handler.{Handler}
use Rattle.ic_base.specs.declared.scenario.Program.{Program}
use Rattle.ic_base.specs.Programs.{declares, takes_args, has_handler, is_pcom, is_xcom}
use Rattle.def_log.specs.Spelling.{Fits, IsCom, number, value, args}
use Rattle.def_plain.specs.Plain.{counted, on_link}
use Rattle.def_state.specs.Hist.{Hist, Contents, after, outputs_of, number_outputs, links_of, receipt_identity}
use Rattle.def_state.specs.Image.{image_of, senders_of, sender_bytes, run_from, output_bytes, message_bytes, link_bytes, last_bytes, listed}
use Rattle.def_state.specs.Image.{counted as counts}
use Rattle.def_state.specs.Mirrors.{vol_of, taken_of}
use Rattle.def_state.specs.Names.{Identity, same_identity}
use Rattle.def_state.specs.Vol.{Vol}
use Rattle.def_facts.specs.Playable.{IsPlayable}
use Rattle.law_image.specs.Readable.{HasImage, OutputFits, MessageFits, LinkFits, TakenFits}
use Rattle.law_image.proofs.Back.{few_each}
use Rattle.law_pcom.specs.Keeping.{receives}
use Rattle.law_pcom.proofs.Living.{lives, sent-below}
use Rattle.law_replay.proofs.Lists.{none-some, true-false, front, back, equal-numbers, at_most, head-or-tail, empty, same-identity, both-true, in-head, in-tail}
use Rattle.law_replay.proofs.Members.{any-has}
use Rattle.law_replay.proofs.Numbers.{sent_are_numbered}
use Rattle.law_replay.proofs.Outputs.{outputs-above, outputs-below}
use Rattle.law_settle.proofs.Tables.{all-map, all-same, all-filter}
use Rattle.law_settle.proofs.Walks.{all-at}
use Rattle.law_run.specs.ProgramBytes.{AreWords, HasBytes, ComponentFits, SendFits, OutFits}
use Rattle.law_run.proofs.Cells.{SendGoes, OutGoes, each-of}
use Rattle.law_run.proofs.Hists.{HistFits, ContentsFit, hist_fits, get-below, declared-com, made-low, begun-low}
use Rattle.law_run.proofs.Orders.{links-few, links-coms, links-counted, taken-all}

-- members -----------------------------------------------------------------------------------------

pub all-has : {A : Type 0} (P : A → Type 0) (xs : List A) (x : A) → AllByRecursion P xs → Contains xs x → P x
all-has P [] x h k = empty x k
all-has P (y ∷ ys) x h k = at (head-or-tail y x ys k) (all-has P ys x h.1)
  where
    at : (y ≡ x) ⊎ Contains ys x → (Contains ys x → P x) → P x
    at (inl e) more = subst P e h.0
    at (inr c) more = more c

-- what a program lets a handler have --------------------------------------------------------------

-- a handler that there is has a number of one byte and no more values than it may
pub handler-fits : (program : Program) (c : ComId) (handler : ℕ) (args : List ℤ) → HasBytes program → has_handler program c handler args ≡ true → (handler < 2 ^ 8) × (length args ≤ VALUES)
handler-fits program c handler args bytes e = at (slice_get program.components c.0) refl e
  where
    by : (d : Component) → ComponentFits d → (o : Option Handler) → slice_get d.handlers handler ≡ o → takes_args o args ≡ true → (handler < 2 ^ 8) × (length args ≤ VALUES)
    by d fit None is f = true-false f
    by d fit (Some h) is f = (
      below handler (length d.handlers) (get-below d.handlers handler h is) fit.handlers,
      few h.params (length args) (equal-numbers h.params (length args) f) (all-at (λ (y : Handler). y.params ≤ VALUES) d.handlers handler h (recursion_from_All (λ (y : Handler). y.params ≤ VALUES) d.handlers fit.params) is),
    )
      where
        below : (a n : ℕ) → a < n → n ≤ HANDLERS → a < 2 ^ 8
        below a n p q = omega (arith, p, q)

        few : (a b : ℕ) → a ≡ b → a ≤ VALUES → b ≤ VALUES
        few a b p q = omega (arith, p, q)

    at : (o : Option Component) → slice_get program.components c.0 ≡ o → declares (λ d. takes_args (slice_get d.handlers handler) args) o ≡ true → (handler < 2 ^ 8) × (length args ≤ VALUES)
    at None is f = true-false f
    at (Some d) is f = by d (all-at ComponentFits program.components c.0 d bytes.each is) (slice_get d.handlers handler) refl f

-- outputs -----------------------------------------------------------------------------------------

pub numbered-from : (m : ℕ) (os : List Out) (o : Output) → Contains (number_outputs m os) o → (x : Out) × Contains os x × (x.to ≡ o.to) × (x.args ≡ o.args)
numbered-from m [] o h = empty o h
numbered-from m (x ∷ xs) o h = at (head-or-tail (record { m = m; to = x.to; args = x.args }) o (number_outputs (m + 1) xs) h) (numbered-from (m + 1) xs o)
  where
    at : (record { m = m; to = x.to; args = x.args } ≡ o) ⊎ Contains (number_outputs (m + 1) xs) o → (Contains (number_outputs (m + 1) xs) o → (y : Out) × Contains xs y × (y.to ≡ o.to) × (y.args ≡ o.args)) → (y : Out) × Contains (x ∷ xs) y × (y.to ≡ o.to) × (y.args ≡ o.args)
    at (inl e) more = (x, in-head x xs, ap (λ (z : Output). z.to) e, ap (λ (z : Output). z.args) e)
    at (inr k) more = let y = more k in (y.0, in-tail x y.0 xs y.1, y.2, y.3)

pub output-fits : (program : Program) (c : ComId) (h : Hist) (o : Output) → HasBytes program → HistFits program c h → Contains (outputs_of h) o → OutputFits o
output-fits program c h o bytes x k =
    let y = numbered-from 1 h.plain.outs o k in
    let fit : OutFits y.0 = all-has OutFits h.plain.outs y.0 x.cell.outs y.1 in
    let to : IsCom y.0.to = declared-com program y.0.to (λ d. is_xcom d.kind) bytes (all-has (OutGoes program) h.plain.outs y.0 x.goes.outs y.1) in
    record {
      m = (outputs-above 1 h.plain.outs o k, low o.m (length h.plain.outs) (outputs-below 1 h.plain.outs o k) (made-low h x.numbers));
      to = subst IsCom y.2 to;
      few = subst (λ l. length l ≤ VALUES) y.3 fit.few;
      args = subst AreWords y.3 fit.args;
    }
  where
    low : (m n : ℕ) → m < 1 + n → n ≤ GREATEST_NUMBER → m ≤ GREATEST_NUMBER
    low m n p q = omega (arith, p, q)

-- messages ----------------------------------------------------------------------------------------

pub link-has : (to : ComId) (ss : List Send) (k : ℕ) (s : Send) → counted (on_link to ss) k ≡ Some s → Contains ss s × (1 ≤ k)
link-has to ss zero s e = none-some s e
link-has to ss (suc i) s e = (all-at (λ y. Contains ss y) (on_link to ss) i s (all-filter (λ y. Contains ss y) _ ss (each-of (λ y. Contains ss y) ss (λ y k. k))) e, omega arith)

tested : {A : Type 0} (test : A → Bool) (xs : List A) → list_all test xs ≡ true → AllByRecursion (λ x. test x ≡ true) xs
tested test [] e = tt
tested test (x ∷ xs) e = (front (test x) (list_all test xs) e, tested test xs (back (test x) (list_all test xs) e))

pub untested : {A : Type 0} (P : A → Type 0) (test : A → Bool) → ((x : A) → P x → test x ≡ true) → (xs : List A) → AllByRecursion P xs → list_all test xs ≡ true
untested P test f [] h = refl
untested P test f (x ∷ xs) h = both-true (test x) (list_all test xs) (f x h.0) (untested P test f xs h.1)

message-fits : (program : Program) (c : ComId) (k : Contents) (log : List Record) (h : Hist) (m : Msg) → HasBytes program → after program c k log ≡ Some h → HistFits program c h → Contains h.sent m → MessageFits c m
message-fits program c k log h m bytes e x has =
    let y = sent_are_numbered program c k log h m e has in
    let s : Send = record { to = m.to; handler = m.handler; args = m.args } in
    let own = link-has m.to h.plain.sent m.k s y.1 in
    let goes : SendGoes program c s = all-has (SendGoes program c) h.plain.sent s x.goes.sent own.0 in
    let fit = handler-fits program m.to m.handler m.args bytes goes.handler in
    record {
      from = y.0;
      to = declared-com program m.to (λ d. is_pcom d.kind) bytes (front _ _ goes.to);
      k = (own.1, at_most m.k GREATEST_NUMBER (all-has (λ n. nat_le n.k GREATEST_NUMBER ≡ true) h.sent m (tested (λ n. nat_le n.k GREATEST_NUMBER) h.sent (front (list_all (λ n. nat_le n.k GREATEST_NUMBER) h.sent) _ x.numbers)) has));
      stamp = low m.stamp h.clock (sent-below program c k log h m e has) x.clock;
      handler = fit.0;
      few = fit.1;
      args = all-has SendFits h.plain.sent s x.cell.sent own.0;
    }
  where
    low : (a n : ℕ) → a ≤ n → n ≤ GREATEST_NUMBER → a ≤ GREATEST_NUMBER
    low a n p q = omega (arith, p, q)

-- receipts ----------------------------------------------------------------------------------------

-- what a record receives has its bytes
received-fits : (x : Identity) (r : Record) → receives x r ≡ true → Fits r → TakenFits x
received-fits x (Take from k stamp) e h = subst TakenFits (sym (same-identity x (record { peer = from; k = k }) e)) (record { peer = h.0; k = h.1 })
received-fits x (TakeWhole from k stamp handler args) e h = subst TakenFits (sym (same-identity x (record { peer = from; k = k }) (only (same_identity x (record { peer = from; k = k })) e))) (record { peer = h.0; k = h.1 })
  where
    only : (b : Bool) → b || false ≡ true → b ≡ true
    only true f = refl
    only false f = f
received-fits x (Input stamp handler args) e h = true-false e
received-fits x (Value n place session value) e h = true-false e
received-fits x (Outcome stamp n abort) e h = true-false e
received-fits x (Released to k) e h = true-false e
received-fits x (Shown m) e h = true-false e
received-fits x (Checkpoint image) e h = true-false e
received-fits x (Epoch epoch) e h = true-false e
received-fits x (Decided stamp d n writes) e h = true-false e

receipts-fit : (program : Program) (c : ComId) (k : Contents) (log : List Record) (h : Hist) → AllByRecursion Fits log → after program c k log ≡ Some h → AllByRecursion TakenFits (taken_of h)
receipts-fit program c k log h fit e =
    taken-all TakenFits (map receipt_identity h.plain.receipts)
    (all-map (λ r. Contains h.plain.receipts r) TakenFits receipt_identity
    (λ r has.
    let y = any-has (receives (record { peer = r.0; k = r.1 })) log ((lives program c k log h e).received r.0 r.1 has) in
    received-fits (record { peer = r.0; k = r.1 }) y.0 y.2 (all-has Fits log y.0 fit y.1))
    h.plain.receipts (each-of (λ r. Contains h.plain.receipts r) h.plain.receipts (λ r has. has)))

-- lengths -----------------------------------------------------------------------------------------

flat-longer : {A : Type 0} (f : A → List ℕ) (xs : List A) → ((x : A) → 1 ≤ length (f x)) → length xs ≤ length (flat_map f xs)
flat-longer f [] h = omega arith
flat-longer f (x ∷ xs) h = omega (arith, length-append (f x) (flat_map f xs), h x, flat-longer f xs h)

-- how many there are in an image that isn't longer than a record may be
record FewIn (v : Vol) : Type 0 where
  waiting : length v.shelf.waiting < 2 ^ 32
  held : length v.outbox.held < 2 ^ 32
  above : AllByRecursion (λ x. length (filter (λ k. nat_lt (run_from 0 x.1) k) x.1) < 2 ^ 32) (senders_of v.inbox)

few-in : (v : Vol) → length (image_of v) < 2 ^ 32 → FewIn v
few-in v small =
    let a = number v.clock in
    let b = counts value v.vars in
    let d = number v.txn.begun in
    let e = last_bytes v.txn.last in
    let f = number v.shelf.made in
    let g = listed (λ w. output_bytes w.output) v.shelf.waiting in
    let l = counts link_bytes v.outbox.links in
    let m = listed (λ h. message_bytes h.msg) v.outbox.held in
    let s = counts sender_bytes (senders_of v.inbox) in
    let last = length-append (a ++ b ++ d ++ e ++ f ++ g ++ l ++ m) s in
    let eight = length-append (a ++ b ++ d ++ e ++ f ++ g ++ l) m in
    let seven = length-append (a ++ b ++ d ++ e ++ f ++ g) l in
    let six = length-append (a ++ b ++ d ++ e ++ f) g in
    let outputs = length-append (to_be_bytes w32 (length v.shelf.waiting)) (flat_map (λ w. output_bytes w.output) v.shelf.waiting) in
    let messages = length-append (to_be_bytes w32 (length v.outbox.held)) (flat_map (λ h. message_bytes h.msg) v.outbox.held) in
    let shown = flat-longer (λ w. output_bytes w.output) v.shelf.waiting (λ w. output-some w.output) in
    let sent = flat-longer (λ h. message_bytes h.msg) v.outbox.held (λ h. message-some h.msg) in
    record {
      waiting = omega (arith, last, eight, seven, six, outputs, shown, small);
      held = omega (arith, last, eight, messages, sent, small);
      above = few_each (senders_of v.inbox) (2 ^ 32) (omega (arith, last, small));
    }
  where
    output-some : (o : Output) → 1 ≤ length (output_bytes o)
    output-some o = omega (arith, length-append (number o.m) (o.to.0 ∷ args o.args))

    message-some : (m : Msg) → 1 ≤ length (message_bytes m)
    message-some m = omega arith

-- the state ---------------------------------------------------------------------------------------

three : (P Q R S : ComId × ℕ → Type 0) → ((x : ComId × ℕ) → P x → Q x → R x → S x) → (xs : List (ComId × ℕ)) → AllByRecursion P xs → AllByRecursion Q xs → AllByRecursion R xs → AllByRecursion S xs
three P Q R S f [] p q r = tt
three P Q R S f (x ∷ xs) p q r = (f x p.0 q.0 r.0, three P Q R S f xs p.1 q.1 r.1)

pub has_image : (program : Program) (c : ComId) (k : Contents) (log : List Record) (h : Hist) → HasBytes program → IsPlayable program → ContentsFit k → AllByRecursion Fits log → after program c k log ≡ Some h → length (image_of (vol_of h)) < 2 ^ 32 → HasImage c (vol_of h)
has_image program c k log h bytes good contents fit e small =
    let x = hist_fits program c k log h bytes good contents fit e in
    let living = lives program c k log h e in
    let few = few-in (vol_of h) small in
    let taken = receipts-fit program c k log h fit e in
    let sent = each-of (MessageFits c) h.sent (λ m has. message-fits program c k log h m bytes e x has) in
    let tos = all-same (MessageFits c) (λ m. IsCom m.to) (λ m y. y.to) h.sent sent in
    record {
      counts = record {
        vars = x.cell.few;
        waiting = few.waiting;
        links = links-few h.sent tos;
        held = few.held;
        peers = untested TakenFits (λ y. nat_lt y.peer.0 COMPONENTS) (λ y z. less y.peer.0 COMPONENTS z.peer) (taken_of h) taken;
        above = All-from_recursion _ (senders_of (vol_of h).inbox) few.above;
      };
      clock = x.clock;
      vars = x.cell.vars;
      begun = begun-low h x.numbers;
      last = x.last;
      made = made-low h x.numbers;
      outputs = all-map OutputFits (λ w. OutputFits w.output) _ (λ o y. y) h.unshown (each-of OutputFits h.unshown (λ o has. output-fits program c h o bytes x (living.unshown_made o has)));
      links = three (λ y. IsCom y.0) (λ y. 1 ≤ y.1) (λ y. y.1 ≤ GREATEST_NUMBER) LinkFits (λ y p q r. record { to = p; sent = (q, r) }) (links_of h.sent) (links-coms h.sent tos) (links-counted h.sent) x.links;
      held = all-map (MessageFits c) (λ y. MessageFits c y.msg) _ (λ m y. y) h.held (each-of (MessageFits c) h.held (λ m has. all-has (MessageFits c) h.sent m sent (living.held_sent m has)));
      taken = taken;
      ordered = x.goes.ordered;
    }
  where
    less : (a b : ℕ) → a < b → nat_lt a b ≡ true
    less a b f = grind arith

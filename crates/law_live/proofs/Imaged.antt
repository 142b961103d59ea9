-- The images in the log of a Pcom are read, each as the state of the records before it.
use Rattle.std.proofs.Common.{◌≡◌, refl, ◌∙◌, ap, sym, subst, ℕ, ◌+◌, ◌<◌, ◌==◌, nat_le, nat_lt, Bool, true, false, not, ◌&&◌, ◌||◌, List, [], ◌∷◌, ◌++◌, map, filter, length, Option, Some, None, arith, cond}
use Rattle.std.proofs.lemmas.List.{append_assoc}
use Rattle.std.proofs.lemmas.List.Folds.{list_all-map}
use Rattle.std.proofs.lemmas.Option.{same_Some}
use Rattle.std.specs.Prelude.{⊤, Contains, MatchOption}
use Rattle.std.specs.List.{AllByRecursion, list_all, list_any}
use Rattle.ic_base.specs.declared.limits.TheConstants.{GREATEST_NUMBER}
use Rattle.ic_base.specs.declared.messages.ComId.{ComId}
use Rattle.ic_base.specs.declared.messages.Msg.{Msg}
use Rattle.ic_base.specs.declared.messages.Output.{Output}
use Rattle.ic_base.specs.declared.messages.Packet.{Packet}
use Rattle.ic_base.specs.declared.messages.Send.{Send}
use Rattle.ic_base.specs.declared.record.Record.{Record}
use Rattle.ic_base.specs.declared.record.Record.TheVariants.{Take, TakeWhole, Input, Value, Outcome, Released, Shown, Checkpoint, Epoch, Decided}
use Rattle.ic_base.specs.declared.scenario.Program.{Program}
use Rattle.ic_base.specs.Programs.{same_com, is_a_tcom, is_an_xcom, is_immediate, is_other_pcom, has_handler}
use Rattle.def_log.specs.Spelling.{Fits}
use Rattle.def_state.specs.Fits.{Standing, fits, may_take}
use Rattle.def_state.specs.Hist.{Hist, Contents, after, first_hist, standing_of, links_of, receipt_identity}
use Rattle.def_state.specs.Image.{image_of, image_fits, read_image, all_coms, last_fits, output_fits, message_fits, link_fits, is_rising, numbers_to}
use Rattle.def_state.specs.Mirrors.{vol_of, taken_of}
use Rattle.def_state.specs.Names.{Identity, number_of, same_identity}
use Rattle.def_state.specs.Outbox.{Held}
use Rattle.def_state.specs.Shelf.{Waiting}
use Rattle.def_state.specs.Vol.{first_vol}
use Rattle.def_facts.specs.Logs.{Stands, contents_in}
use Rattle.def_facts.specs.Pcom.{state_after}
use Rattle.law_run.proofs.Cells.{SendGoes, OutGoes, each-of}
use Rattle.law_run.proofs.HasImages.{all-has, link-has, numbered-from, untested}
use Rattle.law_run.proofs.Hists.{HistFits}
use Rattle.law_run.proofs.Orders.{taken-all}
use Rattle.law_image.specs.Readable.{as_read, held_as_read, waiting_as_read}
use Rattle.law_image.proofs.ReadBack.{image_back}
use Rattle.law_pcom.specs.Keeping.{receives}
use Rattle.law_pcom.specs.Recovering.{HaveImages}
use Rattle.law_pcom.proofs.Images.{images_are_read}
use Rattle.law_pcom.proofs.Living.{lives, sent-below}
use Rattle.law_replay.proofs.Lists.{true-false, front, back, both-true, le-true, self-number, same-identity, contains-split}
use Rattle.law_replay.proofs.Members.{any-has}
use Rattle.law_replay.proofs.Numbers.{sent_are_numbered, sent-within}
use Rattle.law_replay.proofs.Outputs.{outputs-below}
use Rattle.law_replay.proofs.Places.{opened-within}
use Rattle.law_replay.proofs.Shown.{shown-up-to}
use Rattle.law_settle.proofs.Tables.{all-map}
use Rattle.law_run.proofs.Misfits.{Replayed, AreRead, next-of, state-fits}
use Rattle.law_run.proofs.Rising.{numbers_on, outputs-rise, links-tested, links-rise}
use Rattle.law_run.proofs.Shapes.{Shaped, replayed-shaped, first-shaped}

-- what a test passes of each
all-pass : {A : Type 0} (test : A → Bool) (xs : List A) → ((x : A) → Contains xs x → test x ≡ true) → list_all test xs ≡ true
all-pass test xs h = untested (λ x. test x ≡ true) test (λ x k. k) xs (each-of (λ x. test x ≡ true) xs h)

-- outputs -----------------------------------------------------------------------------------------

output-goes : (program : Program) (c : ComId) (k : Contents) (log : List Record) (h : Hist) (o : Output) → HistFits program c h → after program c k log ≡ Some h → Contains h.unshown o → (is_an_xcom program o.to && nat_le o.m (length h.plain.outs)) ≡ true
output-goes program c k log h o x e has =
    let made = (lives program c k log h e).unshown_made o has in
    let y = numbered-from 1 h.plain.outs o made in
    both-true (is_an_xcom program o.to) (nat_le o.m (length h.plain.outs)) (subst (λ to. is_an_xcom program to ≡ true) y.2 (all-has (OutGoes program) h.plain.outs y.0 x.goes.outs y.1)) (low o.m (length h.plain.outs) (outputs-below 1 h.plain.outs o made))
  where
    low : (m n : ℕ) → m < 1 + n → nat_le m n ≡ true
    low m n p = le-true m n (omega (arith, p))

unshown-rise : (program : Program) (c : ComId) (k : Contents) (log : List Record) (h : Hist) → after program c k log ≡ Some h → is_rising (map (λ o. o.m) h.unshown) ≡ true
unshown-rise program c k log h e = ap (λ l. is_rising (map (λ (o : Output). o.m) l)) (shown-up-to program c k log h e).rest ∙ outputs-rise (h.shown + 1) _

-- messages ----------------------------------------------------------------------------------------

sent-goes : (program : Program) (c : ComId) (k : Contents) (log : List Record) (h : Hist) (m : Msg) → HistFits program c h → after program c k log ≡ Some h → Contains h.sent m → SendGoes program c (record { to = m.to; handler = m.handler; args = m.args })
sent-goes program c k log h m x e has =
    let s : Send = record { to = m.to; handler = m.handler; args = m.args } in
    all-has (SendGoes program c) h.plain.sent s x.goes.sent (link-has m.to h.plain.sent m.k s (sent_are_numbered program c k log h m e has).1).0

held-goes : (program : Program) (c : ComId) (k : Contents) (log : List Record) (h : Hist) (m : Msg) → HistFits program c h → after program c k log ≡ Some h → Contains h.held m →
    (is_other_pcom program c m.to && (has_handler program m.to m.handler m.args && (nat_le m.k (number_of 0 (links_of h.sent) m.to) && nat_le m.stamp h.clock))) ≡ true
held-goes program c k log h m x e has =
    let sent = (lives program c k log h e).held_sent m has in
    let goes = sent-goes program c k log h m x e sent in
    both-true (is_other_pcom program c m.to) _ goes.to
    (both-true (has_handler program m.to m.handler m.args) _ goes.handler
    (both-true (nat_le m.k (number_of 0 (links_of h.sent) m.to)) (nat_le m.stamp h.clock) (le-true m.k _ (sent-within program c k log h e m sent)) (le-true m.stamp h.clock (sent-below program c k log h m e sent))))

-- the numbers on a link, as an image has them
same-numbers : (to : ComId) (ms : List Msg) → map (λ (y : Held). y.msg.k) (filter (λ (y : Held). same_com to y.msg.to) (map held_as_read (map (λ m. record { msg = m; at = 0; put = true; stable = false }) ms))) ≡ numbers_on to ms
same-numbers to [] = refl
same-numbers to (m ∷ ms) = at (same_com to m.to) (same-numbers to ms)
  where
    rest : List Held
    rest = filter (λ (y : Held). same_com to y.msg.to) (map held_as_read (map (λ m. record { msg = m; at = 0; put = true; stable = false }) ms))

    at : (b : Bool) → map (λ (y : Held). y.msg.k) rest ≡ numbers_on to ms → map (λ (y : Held). y.msg.k) (cond b (held_as_read (record { msg = m; at = 0; put = true; stable = false }) ∷ rest) rest) ≡ map (λ (y : Msg). y.k) (cond b (m ∷ filter (λ y. same_com to y.to) ms) (filter (λ y. same_com to y.to) ms))
    at true e = ap (λ l. m.k ∷ l) e
    at false e = e

-- what is taken -----------------------------------------------------------------------------------

-- a record that receives a message is from another Pcom
from-other : (program : Program) (c : ComId) (s : Standing) (x : Identity) (r : Record) → receives x r ≡ true → fits program c s r ≡ true → Fits r → (is_other_pcom program c x.peer && nat_le x.k GREATEST_NUMBER) ≡ true
from-other program c s x (Take from n stamp) e f h =
    let y = same-identity x (record { peer = from; k = n }) e in
    subst (λ (z : Identity). (is_other_pcom program c z.peer && nat_le z.k GREATEST_NUMBER) ≡ true) (sym y)
    (both-true (is_other_pcom program c from) (nat_le n GREATEST_NUMBER)
    (front (is_other_pcom program c from) _ (back (not (is_immediate program c)) _ (back s.is_free _ (back (nat_lt s.clock stamp) (may_take program c s false from n) f)))) (le-true n GREATEST_NUMBER h.1.1))
from-other program c s x (TakeWhole from n stamp handler args) e f h =
    let y = same-identity x (record { peer = from; k = n }) (only (same_identity x (record { peer = from; k = n })) e) in
    subst (λ (z : Identity). (is_other_pcom program c z.peer && nat_le z.k GREATEST_NUMBER) ≡ true) (sym y)
    (both-true (is_other_pcom program c from) (nat_le n GREATEST_NUMBER)
    (front (is_other_pcom program c from) _ (back (is_immediate program c) _ (back s.is_free _ (front (may_take program c s true from n) _ (back (nat_lt s.clock stamp) (may_take program c s true from n && has_handler program c handler args) f))))) (le-true n GREATEST_NUMBER h.1.1))
  where
    only : (b : Bool) → b || false ≡ true → b ≡ true
    only true z = refl
    only false z = z
from-other program c s x (Input stamp handler args) e f h = true-false e
from-other program c s x (Value n place session value) e f h = true-false e
from-other program c s x (Outcome stamp n abort) e f h = true-false e
from-other program c s x (Released to n) e f h = true-false e
from-other program c s x (Shown m) e f h = true-false e
from-other program c s x (Checkpoint image) e f h = true-false e
from-other program c s x (Epoch epoch) e f h = true-false e
from-other program c s x (Decided stamp d n writes) e f h = true-false e

fit-at : (pre post : List Record) (r : Record) → AllByRecursion Fits (pre ++ r ∷ post) → Fits r
fit-at [] post r h = h.0
fit-at (x ∷ pre) post r h = fit-at pre post r h.1

receipt-goes : (program : Program) (c : ComId) (k : Contents) (log more : List Record) (h : Hist) (x : Identity) → Replayed program c k [] (log ++ more) (first_hist program c) → list_any (receives x) log ≡ true → (is_other_pcom program c x.peer && nat_le x.k GREATEST_NUMBER) ≡ true
receipt-goes program c k log more h x rep e =
    let y = any-has (receives x) log e in
    let z = contains-split log y.0 y.1 in
    let whole : log ++ more ≡ z.0 ++ y.0 ∷ (z.1 ++ more) = ap (λ l. l ++ more) z.2 ∙ append_assoc z.0 (y.0 ∷ z.1) more in
    let g = replayed-shaped program c k [] (log ++ more) (first_hist program c) rep (first-shaped program c) z.0 (y.0 ∷ (z.1 ++ more)) whole in
    from-other program c (standing_of program c g.0) x y.0 y.2 (next-of program c k z.0 y.0 (z.1 ++ more) g.0 g.1).is_fit (fit-at z.0 (z.1 ++ more) y.0 (subst (AllByRecursion Fits) whole rep.fit))

taken-goes : (program : Program) (c : ComId) (k : Contents) (log more : List Record) (h : Hist) → Replayed program c k [] (log ++ more) (first_hist program c) → after program c k log ≡ Some h → list_all (λ x. is_other_pcom program c x.peer && nat_le x.k GREATEST_NUMBER) (taken_of h) ≡ true
taken-goes program c k log more h rep e =
    untested (λ x. (is_other_pcom program c x.peer && nat_le x.k GREATEST_NUMBER) ≡ true) (λ x. is_other_pcom program c x.peer && nat_le x.k GREATEST_NUMBER) (λ x y. y) (taken_of h)
    (taken-all (λ x. (is_other_pcom program c x.peer && nat_le x.k GREATEST_NUMBER) ≡ true) (map receipt_identity h.plain.receipts)
    (all-map (λ r. Contains h.plain.receipts r) (λ x. (is_other_pcom program c x.peer && nat_le x.k GREATEST_NUMBER) ≡ true) receipt_identity
    (λ r has. receipt-goes program c k log more h (receipt_identity r) rep ((lives program c k log h e).received r.0 r.1 has)) h.plain.receipts (each-of (λ r. Contains h.plain.receipts r) h.plain.receipts (λ r has. has))))

-- the whole image ---------------------------------------------------------------------------------

last-goes : (program : Program) (c : ComId) (k : Contents) (log : List Record) (h : Hist) → after program c k log ≡ Some h → Shaped program c h → last_fits program (as_read (vol_of h)).txn h.last ≡ true
last-goes program c k log h e x = at h.last refl x.last
  where
    at : (o : Option (ComId × ℕ)) → h.last ≡ o → MatchOption o ⊤ (λ y. is_a_tcom program y.0 ≡ true) → last_fits program (as_read (vol_of h)).txn o ≡ true
    at None is t = refl
    at (Some y) is t =
        let b = (lives program c k log h e).last_begun y.0 y.1 is in
        both-true (is_a_tcom program y.0) (nat_le y.1 h.plain.begun) t (le-true y.1 h.plain.begun (opened-within program c k log h y.1 b.0 e b.1).1)

-- the image of each state that a replay comes to says nothing that doesn't fit
image-fits : (program : Program) (c : ComId) (k : Contents) (log more : List Record) (h : Hist) → Replayed program c k [] (log ++ more) (first_hist program c) → Replayed program c k log more h → Shaped program c h → image_fits program c (as_read (vol_of h)) ≡ true
image-fits program c k log more h whole rep s =
    let v = as_read (vol_of h) in
    let x = state-fits program c k log more h rep in
    both-true (length h.plain.vars == length (first_vol program c).vars) _ (ap (λ n. n == length (first_vol program c).vars) s.vars ∙ self-number (length (first_vol program c).vars))
    (both-true (last_fits program v.txn h.last) _ (last-goes program c k log h rep.is s)
    (both-true (list_all (output_fits program v.shelf) v.shelf.waiting) _ outputs
    (both-true (is_rising (map (λ w. w.output.m) v.shelf.waiting)) _ (ap is_rising (same-outputs h.unshown) ∙ unshown-rise program c k log h rep.is)
    (both-true (list_all (link_fits program c) (links_of h.sent)) _ (links-tested (is_other_pcom program c) h.sent (each-of (λ m. is_other_pcom program c m.to ≡ true) h.sent (λ m has. (sent-goes program c k log h m x rep.is has).to)))
    (both-true (is_rising (map (λ y. y.0.0) (links_of h.sent))) _ (links-rise h.sent)
    (both-true (list_all (message_fits program c v) v.outbox.held) _ held
    (both-true (list_all (λ to. is_rising (numbers_to v.outbox to)) all_coms) _ (all-pass (λ to. is_rising (numbers_to v.outbox to)) all_coms (λ to has. ap is_rising (same-numbers to h.held) ∙ (s.held to).0))
    (taken-goes program c k log more h whole rep.is))))))))
  where
    same-outputs : (os : List Output) → map (λ (w : Waiting). w.output.m) (map waiting_as_read (map (λ o. record { output = o; at = 0 }) os)) ≡ map (λ (o : Output). o.m) os
    same-outputs [] = refl
    same-outputs (o ∷ os) = ap (λ l. o.m ∷ l) (same-outputs os)

    outputs : list_all (output_fits program (as_read (vol_of h)).shelf) (as_read (vol_of h)).shelf.waiting ≡ true
    outputs =
        list_all-map (output_fits program (as_read (vol_of h)).shelf) waiting_as_read _ ∙ list_all-map (λ w. output_fits program (as_read (vol_of h)).shelf (waiting_as_read w)) _ h.unshown
        ∙ all-pass _ h.unshown (λ o has. output-goes program c k log h o (state-fits program c k log more h rep) rep.is has)

    held : list_all (message_fits program c (as_read (vol_of h))) (as_read (vol_of h)).outbox.held ≡ true
    held =
        list_all-map (message_fits program c (as_read (vol_of h))) held_as_read _ ∙ list_all-map (λ y. message_fits program c (as_read (vol_of h)) (held_as_read y)) _ h.held
        ∙ all-pass _ h.held (λ m has. held-goes program c k log h m (state-fits program c k log more h rep) rep.is has)

-- a log on a disk ---------------------------------------------------------------------------------

pub images-read : (program : Program) (c : ComId) (received : List Packet) (log : List Record) → Replayed program c (contents_in received) [] log (first_hist program c) → HaveImages program c received log
    → ((pre post : List Record) (image : List ℕ) (h : Hist) → Stands log pre (Checkpoint image) post → state_after program c received pre ≡ Some h → image ≡ image_of (vol_of h)) → AreRead program c (contents_in received) log
images-read program c received log rep have same pre post image h stands e free =
    (as_read (vol_of h), read, (images_are_read program c received log have pre post image h (as_read (vol_of h)) stands e (same pre post image h stands e) free read).mirrors)
  where
    k : Contents
    k = contents_in received

    read : read_image program c image ≡ Some (as_read (vol_of h))
    read =
        let y = replayed-shaped program c k [] log (first_hist program c) rep (first-shaped program c) pre (Checkpoint image ∷ post) stands in
        let is : y.0 ≡ h = same_Some y.0 h (sym y.1.is ∙ e) in
        ap (read_image program c) (same pre post image h stands e)
        ∙ image_back program c (vol_of h) (have pre post image h stands e free)
        (image-fits program c k pre (Checkpoint image ∷ post) h (subst (λ l. Replayed program c k [] l (first_hist program c)) stands rep) (subst (Replayed program c k pre (Checkpoint image ∷ post)) is y.1) (subst (Shaped program c) is y.2))

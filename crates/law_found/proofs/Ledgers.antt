-- The ledgers along the run of a legal history.
use Rattle.std.proofs.Common.{◌≡◌, refl, ◌∙◌, ap, sym, subst, ℕ, ◌+◌, Bool, true, false, cond, List, [], ◌∷◌, ◌++◌, map, filter_map, slice_get, ℤ, Option, Some, None, option_map, option_and_then, ◌⊎◌, inl, inr}
use Rattle.std.specs.Prelude.{Contains, IsTrue, IsSomeAnd}
use Rattle.std.proofs.lemmas.List.{append_assoc, append-nil}
use Rattle.std.proofs.lemmas.List.Elements.{Contains-append_left, Contains-append_right, Contains-append_cases}
use Rattle.std.proofs.lemmas.Option.{same_Some}
use Rattle.ic_base.specs.declared.messages.ComId.{ComId}
use Rattle.ic_base.specs.declared.scenario.Program.{Program}
use Rattle.ic_base.specs.declared.scenario.Component.{Component}
use Rattle.ic_base.specs.declared.messages.Kind.TheVariants as kinds
use Rattle.ic_base.specs.declared.record.Record.{Record}
use Rattle.ic_base.specs.declared.record.Record.TheVariants.{Decided}
use Rattle.def_plain.specs.Cell.{Touch, TakesMessage}
use Rattle.def_plain.specs.Plain.{PlainWorld, message_of}
use Rattle.def_plain.specs.History.{entry, history_of}
use Rattle.ic_base.specs.declared.messages.Act.TheVariants as acts
use Rattle.ic_base.specs.declared.messages.Entry.{Entry}
use Rattle.def_step.specs.Tcom.{Book, book, book_of, first_book, book_fits, booked}
use Rattle.def_facts.specs.Logs.{Logs, log_at, Stands, values_of}
use Rattle.def_facts.specs.Sound.{IsSound}
use Rattle.law_replay.proofs.Lists.{none-some, clash, self-com, mapped, apart-coms}
use Rattle.law_replay.proofs.Lists.{in-head, in-tail, same-com}
use Rattle.law_replay.proofs.Lists.{head-or-tail}
use Rattle.law_sound.proofs.Deciding.{the-component}
use Rattle.law_replay.proofs.Lists.{contains-split}
use Rattle.law_found.proofs.Runs.{then-is}
use Rattle.law_found.proofs.SoundLogs.{the-ledger-book}
use Rattle.std.specs.Prelude.{Ok, Result, slice_set}
use Rattle.std.specs.Result.{IsOkAnd}
use Rattle.ic_base.specs.declared.messages.Act.{Act}
use Rattle.ic_base.specs.declared.messages.Send.{Send}
use Rattle.ic_base.specs.declared.messages.Kind.{Kind}
use Rattle.ic_base.specs.Programs.{same_com, is_a_tcom}
use Rattle.def_play.specs.Ledger.{Talk, whole_part, puts_of}
use Rattle.def_play.proofs.Talks.{whole_part_asks}
use Rattle.def_plain.specs.declared.world.PlainCom.TheVariants as coms
use Rattle.def_plain.specs.Cell.{SeesCommit, TakesInput, SeesAbort, is_com}
use Rattle.def_plain.specs.Plain.{as_ledger, ledger_at, plain_step, act_step, touched, part_on, part_in_hand, said_with, run_from, plain_run_of, first_world, first_of_kind}
use Rattle.def_plain.specs.History.{entry_of, tcom_entry}
use Rattle.def_step.specs.Tcom.{write_all, first_ledger}
use Rattle.law_sound.specs.Assembly.{is_own}
use Rattle.law_sound.specs.Order.{Rises}
use Rattle.law_sound.proofs.Histories.{history_has_entries, entries_are_in_history}
use Rattle.law_sound.proofs.Rising.{Below, to-below, below-never, tcom-stamp, tcom-rises}
use Rattle.law_sound.proofs.Reaching.{rises-split}
use Rattle.law_sound.proofs.Stepping.{own-is, set-same, ledger-other, not-both, is-there}
use Rattle.law_sound.proofs.Decided.{written, filter-pair, ledger-stays}
use Rattle.law_found.proofs.Runs.{Touched, touched-is, run-step, run-more}
use Rattle.law_found.proofs.SoundLogs.{sound-rises}
use Rattle.std.proofs.lemmas.Option.{slice_get-map}
use Rattle.law_replay.proofs.Records.{book-none, book-twice}

-- one step ----------------------------------------------------------------------------------------------

-- t commits, or its ledger stays
abbrev pub LedgerStep : Program → PlainWorld → PlainWorld → ComId → ComId → Act → List ℤ → Type 0
LedgerStep program w v t d act l =
    ((ledger_at v t ≡ Some l) × (d ≡ t → is_own act ≡ true)) ⊎ ((c : ComId) × (n : ℕ) × (x : Talk) × (d ≡ t) × (act ≡ acts.Commit c n) × (part_on program w t c ≡ Some x) × (ledger_at v t ≡ Some x.ledger))

own-ledger : (program : Program) (w v : PlainWorld) (t d : ComId) (act : Act) (z : Touch) (l : List ℤ) → ledger_at w t ≡ Some l → Touched program w v d z → is_own act ≡ true → LedgerStep program w v t d act l
own-ledger program w v t d act z l at x own =
    inl (subst (λ u. ledger_at u t ≡ Some l) x.is (ledger-other w d t (coms.Pcom x.behind) (λ same. not-both w d t x.before l same x.there at) ∙ at), λ e. own)

ledger-step : (program : Program) (w v : PlainWorld) (t d : ComId) (act : Act) (l : List ℤ) → act_step program w d act ≡ Some v → ledger_at w t ≡ Some l → LedgerStep program w v t d act l
ledger-step program w v t d (acts.Take s k) l e at =
    let x = then-is (λ (m : Send). touched program w d (TakesMessage s k m.handler m.args)) (message_of w s d k) v e in
    own-ledger program w v t d (acts.Take s k) (TakesMessage s k x.0.handler x.0.args) l at (touched-is program w v d (TakesMessage s k x.0.handler x.0.args) x.2) refl
ledger-step program w v t d (acts.Input h args) l e at = own-ledger program w v t d (acts.Input h args) (TakesInput h args) l at (touched-is program w v d (TakesInput h args) e) refl
ledger-step program w v t d (acts.Abort n) l e at = own-ledger program w v t d (acts.Abort n) (SeesAbort n) l at (touched-is program w v d (SeesAbort n) e) refl
ledger-step program w v t d (acts.Commit c n) l e at = by (same_com d t) refl
  where
    x : (x : Talk) × (part_on program w d c ≡ Some x) × (option_map (λ u. slice_set u d.0 (coms.Tcom x.ledger)) (touched program w c (SeesCommit n x.answers)) ≡ Some v)
    x = then-is (λ (x : Talk). option_map (λ u. slice_set u d.0 (coms.Tcom x.ledger)) (touched program w c (SeesCommit n x.answers))) (part_on program w d c) v e

    y : (mid : PlainWorld) × (touched program w c (SeesCommit n x.0.answers) ≡ Some mid) × (slice_set mid d.0 (coms.Tcom x.0.ledger) ≡ v)
    y = mapped (λ u. slice_set u d.0 (coms.Tcom x.0.ledger)) (touched program w c (SeesCommit n x.0.answers)) v x.2

    m : Touched program w y.0 c (SeesCommit n x.0.answers)
    m = touched-is program w y.0 c (SeesCommit n x.0.answers) y.1

    mid : ledger_at y.0 t ≡ Some l
    mid = subst (λ u. ledger_at u t ≡ Some l) m.is (ledger-other w c t (coms.Pcom m.behind) (λ same. not-both w c t m.before l same m.there at) ∙ at)

    by : (b : Bool) → same_com d t ≡ b → LedgerStep program w v t d (acts.Commit c n) l
    by true is =
        let same = same-com d t is in
        let z = is-there as_ledger (slice_get y.0 t.0) l mid in
        inr (c, n, x.0, same, refl, subst (λ u. part_on program w u c ≡ Some x.0) same x.1, subst (λ u. ledger_at u t ≡ Some x.0.ledger) y.2 (subst (λ (u : ComId). ledger_at (slice_set y.0 u.0 (coms.Tcom x.0.ledger)) t ≡ Some x.0.ledger) (sym same) (ap (option_and_then as_ledger) (set-same y.0 t.0 (coms.Tcom x.0.ledger) z.0 z.1))))
    by false is = inl (subst (λ u. ledger_at u t ≡ Some l) y.2 (ledger-other y.0 d t (coms.Tcom x.0.ledger) (apart-coms d t is) ∙ mid), λ same. clash (same_com d t) (ap (same_com d) (sym same) ∙ self-com d) is)

-- the walk ------------------------------------------------------------------------------------------------

-- the Tcom stands in the world u where the first records of its log lead; the entries of the others are to come
pub record LedgerHere (program : Program) (logs : Logs) (t : ComId) (u : PlainWorld) (coming : List Entry) : Type 0 where
  pub done : List Record
  pub rest : List Record
  pub split : log_at logs t ≡ done ++ rest
  pub book-there : Book
  pub is_book : book_of program t done ≡ Some book-there
  pub ledger : ledger_at u t ≡ Some book-there.ledger
  pub within : (e : Entry) → Contains coming e → e.com ≡ t → is_own e.act ≡ false → (r : Record) × Contains rest r × (tcom_entry t r ≡ Some e)
  pub out : (r : Record) (e : Entry) → Contains rest r → tcom_entry t r ≡ Some e → Contains coming e

-- the record of the next entry
pub record LedgerTurn (program : Program) (logs : Logs) (t : ComId) (done rest : List Record) (ledger : List ℤ) (e : Entry) : Type 0 where
  pub skip : List Record
  pub r : Record
  pub post : List Record
  pub rest_is : rest ≡ skip ++ r ∷ post
  pub entry_is : tcom_entry t r ≡ Some e
  pub quiet : (q : Record) (x : Entry) → Contains skip q → tcom_entry t q ≡ Some x → ⊥
  pub mid : Book
  pub is_mid : book_of program t (done ++ skip) ≡ Some mid
  pub same : mid.ledger ≡ ledger
  pub behind : book_of program t ((done ++ skip) ++ r ∷ []) ≡ Some (booked mid r)

split-book : (program : Program) (t : ComId) (o : Option Book) (ys : List Record) (g : Book) → book program t o ys ≡ Some g → (b : Book) × (o ≡ Some b) × (book program t (Some b) ys ≡ Some g)
split-book program t None ys g e = none-some g (sym (book-none program t ys) ∙ e)
split-book program t (Some b) ys g e = (b, refl, e)

pub ledger-turn : (program : Program) (logs : Logs) (w : PlainWorld) → IsSound program logs w → (t : ComId) → IsTrue (is_a_tcom program t) → (u : PlainWorld) (e : Entry) (coming : List Entry) → (h : LedgerHere program logs t u (e ∷ coming)) → e.com ≡ t → is_own e.act ≡ false → ((y : Entry) → Contains coming y → Below e y) →
    LedgerTurn program logs t h.done h.rest h.book-there.ledger e
ledger-turn program logs w sound t is u e coming h here own order = record {
  skip = s.0;
  r = q.0;
  post = s.1;
  rest_is = s.2;
  entry_is = q.2;
  quiet = quiet;
  mid = m.0;
  is_mid = m.1;
  same = ledger-stays program t s.0 h.book-there m.0 quiet (sym (book-twice program t (Some (first_book program t)) h.done s.0 ∙ ap (λ o. book program t o s.0) h.is_book) ∙ m.1);
  behind = book-twice program t (Some (first_book program t)) (h.done ++ s.0) (q.0 ∷ []) ∙ ap (λ o. book program t o (q.0 ∷ [])) m.1 ∙ fit (book_fits program t m.0 q.0) m.2;
}
  where
    g : (b : Book) × (book_of program t (log_at logs t) ≡ Some b)
    g = the-ledger-book program logs w sound t is

    q : (r : Record) × Contains h.rest r × (tcom_entry t r ≡ Some e)
    q = h.within e (in-head e coming) here own

    s : (pre : List Record) × (post : List Record) × (h.rest ≡ pre ++ q.0 ∷ post)
    s = contains-split h.rest q.0 q.1

    shape : log_at logs t ≡ (h.done ++ s.0) ++ q.0 ∷ s.1
    shape = h.split ∙ ap (λ l. h.done ++ l) s.2 ∙ sym (append_assoc h.done s.0 (q.0 ∷ s.1))

    m : (b : Book) × (book_of program t (h.done ++ s.0) ≡ Some b) × (book program t (Some b) (q.0 ∷ s.1) ≡ Some g.0)
    m = split-book program t (book_of program t (h.done ++ s.0)) (q.0 ∷ s.1) g.0 (sym (book-twice program t (Some (first_book program t)) (h.done ++ s.0) (q.0 ∷ s.1)) ∙ ap (book_of program t) (sym shape) ∙ g.1)

    fit : (b : Bool) → book program t (cond b (Some (booked m.0 q.0)) None) s.1 ≡ Some g.0 → cond b (Some (booked m.0 q.0)) None ≡ Some (booked m.0 q.0)
    fit true v = refl
    fit false v = none-some g.0 (sym (book-none program t s.1) ∙ v)

    quiet : (z : Record) (x : Entry) → Contains s.0 z → tcom_entry t z ≡ Some x → ⊥
    quiet z x i te = last (head-or-tail e x coming (h.out z x (subst (λ l. Contains l z) (sym s.2) (Contains-append_left s.0 (q.0 ∷ s.1) z i)) te))
      where
        v : (pre : List Record) × (post : List Record) × (s.0 ≡ pre ++ z ∷ post)
        v = contains-split s.0 z i

        whole : log_at logs t ≡ (h.done ++ v.0) ++ z ∷ (v.1 ++ q.0 ∷ s.1)
        whole = shape ∙ ap (λ l. (h.done ++ l) ++ q.0 ∷ s.1) v.2 ∙ append_assoc h.done (v.0 ++ z ∷ v.1) (q.0 ∷ s.1) ∙ ap (λ l. h.done ++ l) (append_assoc v.0 (z ∷ v.1) (q.0 ∷ s.1)) ∙ sym (append_assoc h.done v.0 (z ∷ (v.1 ++ q.0 ∷ s.1)))

        low : Below x e
        low = to-below x e (filter-pair t (h.done ++ v.0) v.1 s.1 z q.0 x e (subst (λ l. Rises (filter_map (tcom_entry t) l)) whole (tcom-rises program t (log_at logs t) (first_book program t) g.0 g.1)) te q.2)

        last : (e ≡ x) ⊎ Contains coming x → ⊥
        last (inl same) = let b = subst (λ o. Below o e) (sym same) low in below-never e e b b
        last (inr j) = below-never x e low (order x j)

-- one entry more
pub ledger-next : (program : Program) (logs : Logs) (w : PlainWorld) → IsSound program logs w → (t : ComId) → IsTrue (is_a_tcom program t) → (front coming : List Entry) (u v : PlainWorld) (e : Entry) → history_of program logs ≡ front ++ e ∷ coming → plain_run_of program front ≡ Ok u → plain_step program u e ≡ Some v →
    ((y : Entry) → Contains coming y → Below e y) → LedgerHere program logs t u (e ∷ coming) → LedgerHere program logs t v coming
ledger-next program logs w sound t is front coming u v e split run step order h = by (ledger-step program u v t e.com e.act h.book-there.ledger step h.ledger)
  where
    apart : (y : Entry) → Contains coming y → e ≡ y → ⊥
    apart y i same = let b = subst (Below e) (sym same) (order y i) in below-never e e b b

    stays : ledger_at v t ≡ Some h.book-there.ledger → (e.com ≡ t → is_own e.act ≡ true) → LedgerHere program logs t v coming
    stays there other = record {
      done = h.done;
      rest = h.rest;
      split = h.split;
      book-there = h.book-there;
      is_book = h.is_book;
      ledger = there;
      within = λ y i a b. h.within y (in-tail e y coming i) a b;
      out = λ r y i te. later r y te (head-or-tail e y coming (h.out r y i te));
    }
      where
        later : (r : Record) (y : Entry) → tcom_entry t r ≡ Some y → (e ≡ y) ⊎ Contains coming y → Contains coming y
        later r y te (inr j) = j
        later r y te (inl same) =
            let z = tcom-stamp t r y te in
            let act : is_own y.act ≡ false = ap (λ (o : Entry). is_own o.act) (sym (same_Some (entry t z.0 (acts.Commit z.1 z.2)) y (ap (tcom_entry t) (sym z.4) ∙ te))) in
            clash (is_own e.act) (other (ap (λ (o : Entry). o.com) same ∙ z.6)) (ap (λ (o : Entry). is_own o.act) same ∙ act)

    moves : (c : ComId) (n : ℕ) (x : Talk) → e.com ≡ t → e.act ≡ acts.Commit c n → part_on program u t c ≡ Some x → ledger_at v t ≡ Some x.ledger → LedgerHere program logs t v coming
    moves c n x here act part there = record {
      done = (h.done ++ y.skip) ++ y.r ∷ [];
      rest = y.post;
      split = h.split ∙ ap (λ l. h.done ++ l) y.rest_is ∙ sym (append_assoc h.done y.skip (y.r ∷ y.post)) ∙ sym (append_assoc (h.done ++ y.skip) (y.r ∷ []) y.post);
      book-there = booked y.mid y.r;
      is_book = y.behind;
      ledger = there ∙ ap Some (sym ledger-is);
      within = within;
      out = out;
    }
      where
        y : LedgerTurn program logs t h.done h.rest h.book-there.ledger e
        y = ledger-turn program logs w sound t is u e coming h here (ap is_own act) order

        shape : log_at logs t ≡ (h.done ++ y.skip) ++ y.r ∷ y.post
        shape = h.split ∙ ap (λ l. h.done ++ l) y.rest_is ∙ sym (append_assoc h.done y.skip (y.r ∷ y.post))

        z : (stamp : ℕ) × (d : ComId) × (m : ℕ) × (writes : List (ℕ × ℤ)) × (y.r ≡ Decided stamp d m writes) × (e.stamp ≡ stamp) × (e.com ≡ t)
        z = tcom-stamp t y.r e y.entry_is

        e-is : e ≡ entry t z.0 (acts.Commit z.1 z.2)
        e-is = sym (same_Some (entry t z.0 (acts.Commit z.1 z.2)) e (ap (tcom_entry t) (sym z.4) ∙ y.entry_is))

        commits : acts.Commit z.1 z.2 ≡ acts.Commit c n
        commits = ap (λ (o : Entry). o.act) (sym e-is) ∙ act

        peer : z.1 ≡ c
        peer = ap (peer-of c) commits
          where
            peer-of : ComId → Act → ComId
            peer-of d (acts.Commit f m) = f
            peer-of d _ = d

        ledger-is : (booked y.mid y.r).ledger ≡ x.ledger
        ledger-is =
            let p = then-is (λ l. option_and_then (λ play. option_and_then (said_with t) (whole_part play l)) (part_in_hand program u c)) (ledger_at u t) x part in
            let q = then-is (λ play. option_and_then (said_with t) (whole_part play p.0)) (part_in_hand program u c) x p.2 in
            let k = then-is (said_with t) (whole_part q.0 p.0) x q.2 in
            let said = said-is t k.0 x k.2 in
            let asks = whole_part_asks q.0 t p.0 x (k.1 ∙ ap Some said) in
            let l-is : p.0 ≡ h.book-there.ledger = same_Some p.0 h.book-there.ledger (sym p.1 ∙ h.ledger) in
            let puts = decided-puts z.3 (subst (λ r. Stands (log_at logs t) (h.done ++ y.skip) r y.post) (z.4 ∙ ap (λ f. Decided z.0 f z.2 z.3) peer) shape) in
            ap (λ r. (booked y.mid r).ledger) z.4 ∙ ap (λ l. write_all l z.3) (y.same ∙ sym l-is) ∙ ap (write_all p.0) (puts ∙ ap (λ (o : Talk). puts_of o.asked) asks.1.1) ∙ written p.0 asks.0 ∙ ap (λ (o : Talk). o.ledger) (sym asks.1.1)
          where
            said-is : (a : ComId) (b : ComId × Talk) (o : Talk) → said_with a b ≡ Some o → b ≡ (a, o)
            said-is a b o f = at (is_com b.0 a) refl f
              where
                at : (v2 : Bool) → is_com b.0 a ≡ v2 → cond v2 (Some b.1) None ≡ Some o → b ≡ (a, o)
                at false g k = none-some o k
                at true g k = ap (λ d. (d, b.1)) (same-com b.0 a g) ∙ ap (λ d. (a, d)) (same_Some b.1 o k)

            decided-puts : (writes : List (ℕ × ℤ)) → Stands (log_at logs t) (h.done ++ y.skip) (Decided z.0 c z.2 writes) y.post → writes ≡ puts_of x.asked
            decided-puts writes st =
                at (plain_run_of program front) run (sound.decided_whole t c (h.done ++ y.skip) y.post z.0 z.2 writes st front (coming, z.0, split ∙ ap (λ o. front ++ o ∷ coming) (e-is ∙ ap (λ f. entry t z.0 (acts.Commit f z.2)) peer)))
              where
                at : (o : Result PlainWorld ℕ) → o ≡ Ok u → IsOkAnd o (λ v2. IsSomeAnd (part_on program v2 t c) (λ q. (writes ≡ puts_of q.asked) × (map (λ g. g.value) (values_of (log_at logs c) z.2) ≡ q.answers))) → writes ≡ puts_of x.asked
                at o o-is f =
                    let p = subst (λ q. IsOkAnd q (λ v2. IsSomeAnd (part_on program v2 t c) (λ q. (writes ≡ puts_of q.asked) × (map (λ g. g.value) (values_of (log_at logs c) z.2) ≡ q.answers)))) o-is f in
                    (subst (λ q. IsSomeAnd q (λ q. (writes ≡ puts_of q.asked) × (map (λ g. g.value) (values_of (log_at logs c) z.2) ≡ q.answers))) part p).0

        within : (a : Entry) → Contains coming a → a.com ≡ t → is_own a.act ≡ false → (r : Record) × Contains y.post r × (tcom_entry t r ≡ Some a)
        within a i b own = at (h.within a (in-tail e a coming i) b own)
          where
            at : ((r : Record) × Contains h.rest r × (tcom_entry t r ≡ Some a)) → (r : Record) × Contains y.post r × (tcom_entry t r ≡ Some a)
            at p = which (Contains-append_cases y.skip (y.r ∷ y.post) p.0 (subst (λ l. Contains l p.0) y.rest_is p.1))
              where
                last-two : (y.r ≡ p.0) ⊎ Contains y.post p.0 → (r : Record) × Contains y.post r × (tcom_entry t r ≡ Some a)
                last-two (inl same) = absurd (apart a i (same_Some e a (sym y.entry_is ∙ ap (tcom_entry t) same ∙ p.2)))
                last-two (inr j) = (p.0, j, p.2)

                which : Contains y.skip p.0 ⊎ Contains (y.r ∷ y.post) p.0 → (r : Record) × Contains y.post r × (tcom_entry t r ≡ Some a)
                which (inl j) = absurd (y.quiet p.0 a j p.2)
                which (inr j) = last-two (head-or-tail y.r p.0 y.post j)

        out : (r : Record) (a : Entry) → Contains y.post r → tcom_entry t r ≡ Some a → Contains coming a
        out r a i te = which (head-or-tail e a coming (h.out r a (subst (λ l. Contains l r) (sym y.rest_is) (Contains-append_right y.skip (y.r ∷ y.post) r (in-tail y.r r y.post i))) te))
          where
            which : (e ≡ a) ⊎ Contains coming a → Contains coming a
            which (inr j) = j
            which (inl same) =
                let g = the-ledger-book program logs w sound t is in
                let p = contains-split y.post r i in
                let low = to-below e a (filter-pair t (h.done ++ y.skip) p.0 p.1 y.r r e a (subst (λ l. Rises (filter_map (tcom_entry t) l)) (shape ∙ ap (λ l. (h.done ++ y.skip) ++ y.r ∷ l) p.2) (tcom-rises program t (log_at logs t) (first_book program t) g.0 g.1)) y.entry_is te) in
                let b = subst (Below e) (sym same) low in
                below-never e e b b

    by : LedgerStep program u v t e.com e.act h.book-there.ledger → LedgerHere program logs t v coming
    by (inl x) = stays x.0 x.1
    by (inr x) = moves x.0 x.1 x.2 x.3 x.4 x.5 x.6

-- the Tcom behind the first entries of the history
pub record LedgerAt (program : Program) (logs : Logs) (w : PlainWorld) (t : ComId) (front back : List Entry) : Type 0 where
  pub world : PlainWorld
  pub run : plain_run_of program front ≡ Ok world
  pub place : ℕ
  pub onward : run_from program place world back ≡ Ok w
  pub here : LedgerHere program logs t world back

walk : (program : Program) (logs : Logs) (w : PlainWorld) → IsSound program logs w → (t : ComId) → IsTrue (is_a_tcom program t) → (front es back : List Entry) → history_of program logs ≡ front ++ (es ++ back) → LedgerAt program logs w t front (es ++ back) → LedgerAt program logs w t (front ++ es) back
walk program logs w sound t is front [] back split a = subst (λ l. LedgerAt program logs w t l back) (sym (append-nil front)) a
walk program logs w sound t is front (e ∷ es) back split a =
    subst (λ l. LedgerAt program logs w t l back) (append_assoc front (e ∷ []) es)
    (walk program logs w sound t is (front ++ e ∷ []) es back (split ∙ sym (append_assoc front (e ∷ []) (es ++ back)))
    (record {
      world = s.0;
      run = run-more program 0 (first_world program) a.world s.0 front e a.run s.1;
      place = a.place + 1;
      onward = s.2;
      here = ledger-next program logs w sound t is front (es ++ back) a.world s.0 e split a.run s.1 (rises-split front (es ++ back) e (subst Rises split (sound-rises program logs w sound))).1 a.here;
    }))
  where
    s : (u : PlainWorld) × (plain_step program a.world e ≡ Some u) × (run_from program (a.place + 1) u (es ++ back) ≡ Ok w)
    s = run-step program a.place a.world w e (es ++ back) a.onward

tcom-record : (program : Program) (logs : Logs) (t : ComId) (e : Entry) → Contains (history_of program logs) e → e.com ≡ t → is_own e.act ≡ false → (r : Record) × Contains (log_at logs t) r × (tcom_entry t r ≡ Some e)
tcom-record program logs t e h here own = by z.1.kind refl z.5
  where
    z : (d : ComId) × (x : Component) × (r : Record) × (slice_get program.components d.0 ≡ Some x) × Contains (log_at logs d) r × (entry_of x.kind d r ≡ Some e)
    z = history_has_entries program logs e h

    by : (k : Kind) → z.1.kind ≡ k → entry_of k z.0 z.2 ≡ Some e → (r : Record) × Contains (log_at logs t) r × (tcom_entry t r ≡ Some e)
    by kinds.Pcom same is = clash (is_own e.act) (own-is z.0 z.2 e is) own
    by kinds.Tcom same is =
        let y = tcom-stamp z.0 z.2 e is in
        let d : z.0 ≡ t = sym y.6 ∙ here in
        (z.2, subst (λ u. Contains (log_at logs u) z.2) d z.4, ap (λ u. tcom_entry u z.2) (sym d) ∙ is)
    by kinds.Xcom same is = none-some e is

pub ledger-at : (program : Program) (logs : Logs) (w : PlainWorld) → IsSound program logs w → (t : ComId) → IsTrue (is_a_tcom program t) → (front back : List Entry) → history_of program logs ≡ front ++ back → LedgerAt program logs w t front back
ledger-at program logs w sound t is front back split = walk program logs w sound t is [] front back split (subst (LedgerAt program logs w t []) split start)
  where
    x : (x : Component) × (slice_get program.components t.0 ≡ Some x) × (x.kind ≡ kinds.Tcom)
    x = the-component program t is

    start : LedgerAt program logs w t [] (history_of program logs)
    start = record {
      world = first_world program;
      run = refl;
      place = 0;
      onward = sound.legal;
      here = record {
        done = [];
        rest = log_at logs t;
        split = refl;
        book-there = first_book program t;
        is_book = refl;
        ledger =
            ap (option_and_then as_ledger) (slice_get-map (λ (z : Component). first_of_kind z.kind z) program.components t.0 ∙ ap (option_map (λ (z : Component). first_of_kind z.kind z)) x.1) ∙ ap (λ k. as_ledger (first_of_kind k x.0)) x.2 ∙ ap (λ o. Some (first_ledger o)) (sym x.1);
        within = λ e h here own. tcom-record program logs t e h here own;
        out = λ r e h te. entries_are_in_history program logs e t x.0 r x.1 h (ap (λ k. entry_of k t r) x.2 ∙ te);
      };
    }

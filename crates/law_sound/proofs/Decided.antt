-- A commit of the history has a step of the crash-free world.
use Rattle.std.proofs.Common.{◌≡◌, refl, ◌∙◌, ap, sym, subst, Bool, true, false, cond, List, [], ◌∷◌, ◌++◌, filter_map, slice_set, ℤ, Option, Some, None, ◌⊎◌, inl, inr}
use Rattle.std.specs.Prelude.{Contains, IsTrue}
use Rattle.std.specs.List.{cons_option}
use Rattle.std.proofs.lemmas.List.{append_assoc}
use Rattle.std.proofs.lemmas.List.Elements.{Contains-append_left, Contains-append_right, Contains-append_cases}
use Rattle.std.proofs.lemmas.Option.{same_Some}
use Rattle.ic_base.specs.declared.messages.ComId.{ComId}
use Rattle.ic_base.specs.declared.messages.Entry.{Entry}
use Rattle.ic_base.specs.declared.messages.Act.TheVariants as acts
use Rattle.ic_base.specs.declared.messages.Request.{Request}
use Rattle.ic_base.specs.declared.messages.Request.TheVariants.{Get, Put}
use Rattle.ic_base.specs.declared.scenario.Program.{Program}
use Rattle.ic_base.specs.declared.record.Record.{Record}
use Rattle.ic_base.specs.declared.record.Record.TheVariants.{Take, TakeWhole, Input, Value, Outcome, Released, Shown, Checkpoint, Epoch, Decided}
use Rattle.ic_base.specs.Programs.{is_a_tcom}
use Rattle.def_play.specs.Ledger.{ledger_after_all, puts_of}
use Rattle.def_plain.specs.Plain.{PlainWorld}
use Rattle.def_plain.specs.History.{entry, entry_of, tcom_entry, history_of, is_before}
use Rattle.def_step.specs.Tcom.{Book, book, booked, book_fits, book_of, first_book, write_all}
use Rattle.def_facts.specs.Logs.{Logs, log_at}
use Rattle.def_facts.specs.World.{Past}
use Rattle.law_replay.proofs.Lists.{none-some, some-of, in-head, in-tail, head-or-tail, contains-split}
use Rattle.law_sound.specs.Order.{Explains, Rises}
use Rattle.law_sound.proofs.Deciding.{the-component}
use Rattle.law_sound.proofs.Histories.{entries_are_in_history}
use Rattle.law_sound.proofs.Rising.{Below, to-below, below-never, history_rises, tcom-rises}
use Rattle.law_sound.specs.Assembly.{TcomReached}
use Rattle.law_sound.proofs.Reaching.{rises-split}
use Rattle.law_replay.proofs.Members.{mapped-keeps}
use Rattle.law_replay.proofs.Records.{book-none, book-twice}

-- the puts of requests, written in order -------------------------------------------------------------

pub written : (ledger : List ℤ) (qs : List Request) → write_all ledger (puts_of qs) ≡ ledger_after_all ledger qs
written ledger [] = refl
written ledger (Get key ∷ qs) = written ledger qs
written ledger (Put key v ∷ qs) = written (slice_set ledger key v) qs

-- the log of the Tcom -----------------------------------------------------------------------------------

pub filter-pair : (t : ComId) (pre mid post : List Record) (z r : Record) (x e : Entry) → Rises (filter_map (tcom_entry t) (pre ++ z ∷ (mid ++ r ∷ post))) → tcom_entry t z ≡ Some x → tcom_entry t r ≡ Some e → is_before x e ≡ true
filter-pair t [] mid post z r x e rises a b = at (tcom_entry t z) a rises
  where
    there : Contains (filter_map (tcom_entry t) (mid ++ r ∷ post)) e
    there = mapped-keeps (tcom_entry t) (mid ++ r ∷ post) r e (Contains-append_right mid (r ∷ post) r (in-head r post)) b

    at : (o : Option Entry) → o ≡ Some x → Rises (cons_option o (filter_map (tcom_entry t) (mid ++ r ∷ post))) → is_before x e ≡ true
    at None u v = none-some x u
    at (Some y) u v = subst (λ w. is_before w e ≡ true) (same_Some y x u) (v.0 e there)
filter-pair t (y ∷ pre) mid post z r x e rises a b = filter-pair t pre mid post z r x e (at (tcom_entry t y) rises) a b
  where
    at : (o : Option Entry) → Rises (cons_option o (filter_map (tcom_entry t) (pre ++ z ∷ (mid ++ r ∷ post)))) → Rises (filter_map (tcom_entry t) (pre ++ z ∷ (mid ++ r ∷ post)))
    at None v = v
    at (Some w) v = v.1

pub ledger-stays : (program : Program) (t : ComId) (rs : List Record) (b g : Book) → ((r : Record) (x : Entry) → Contains rs r → tcom_entry t r ≡ Some x → ⊥) → book program t (Some b) rs ≡ Some g → g.ledger ≡ b.ledger
ledger-stays program t [] b g never e = ap (λ (z : Book). z.ledger) (sym (same_Some b g e))
ledger-stays program t (r ∷ rs) b g never e = at (book_fits program t b r) refl e (ledger-stays program t rs (booked b r) g (λ q x h. never q x (in-tail r q rs h)))
  where
    one : (q : Record) → ((x : Entry) → tcom_entry t q ≡ Some x → ⊥) → (booked b q).ledger ≡ b.ledger
    one (Decided stamp c n writes) no_entry = absurd (no_entry (entry t stamp (acts.Commit c n)) refl)
    one (Epoch epoch) no_entry = refl
    one (Take from k stamp) no_entry = refl
    one (TakeWhole from k stamp handler args) no_entry = refl
    one (Input stamp handler args) no_entry = refl
    one (Outcome stamp n abort) no_entry = refl
    one (Value n place session value) no_entry = refl
    one (Released to k) no_entry = refl
    one (Shown m) no_entry = refl
    one (Checkpoint image) no_entry = refl

    at : (v : Bool) → book_fits program t b r ≡ v → book program t (cond v (Some (booked b r)) None) rs ≡ Some g → (book program t (Some (booked b r)) rs ≡ Some g → g.ledger ≡ (booked b r).ledger) → g.ledger ≡ b.ledger
    at false is f more = none-some g (sym (book-none program t rs) ∙ f)
    at true is f more = more f ∙ one r (λ x. never r x (in-head r rs))

-- what the Tcom's log has before a decision, and behind it
pub record Deciding (program : Program) (logs : Logs) (t : ComId) (done left : List Record) (ledger : List ℤ) (r : Record) : Type 0 where
  pub skip : List Record
  pub rest : List Record
  pub left_is : left ≡ skip ++ r ∷ rest
  pub quiet : (q : Record) (x : Entry) → Contains skip q → tcom_entry t q ≡ Some x → ⊥
  pub before : Book
  pub is_before_book : book_of program t (done ++ skip) ≡ Some before
  pub same : before.ledger ≡ ledger
  pub behind : book_of program t ((done ++ skip) ++ r ∷ []) ≡ Some (booked before r)

pub deciding : (program : Program) (found logs : Logs) (past : Past) → Explains program found logs past → (front back : List Entry) (e : Entry) (w : PlainWorld) → history_of program logs ≡ front ++ e ∷ back →
    (t : ComId) → IsTrue (is_a_tcom program t) → (p : TcomReached program logs t front w) → (r : Record) → Contains (log_at logs t) r → tcom_entry t r ≡ Some e → Deciding program logs t p.done p.left p.book.ledger r
deciding program found logs past f front back e w split t is p r inside te = in-left where-it-is
  where
    order : ((x : Entry) → Contains front x → Below x e) × ((x : Entry) → Contains back x → Below e x)
    order = rises-split front back e (subst Rises split (history_rises program found logs past f))

    where-it-is : Contains p.left r
    where-it-is = by (Contains-append_cases p.done p.left r (subst (λ l. Contains l r) p.split inside))
      where
        by : Contains p.done r ⊎ Contains p.left r → Contains p.left r
        by (inl a) = let b = order.0 e (p.inside r e a te) in below-never e e b b
        by (inr b) = b

    in-left : Contains p.left r → Deciding program logs t p.done p.left p.book.ledger r
    in-left h = record { skip = s.0; rest = s.1; left_is = s.2; quiet = quiet; before = m.0; is_before_book = m.1; same = same; behind = book-twice program t (Some (first_book program t)) (p.done ++ s.0) (r ∷ []) ∙ ap (λ o. book program t o (r ∷ [])) m.1 ∙ fits }
      where
        s : (pre : List Record) × (post : List Record) × (p.left ≡ pre ++ r ∷ post)
        s = contains-split p.left r h

        log : log_at logs t ≡ p.done ++ (s.0 ++ r ∷ s.1)
        log = p.split ∙ ap (λ l. p.done ++ l) s.2

        g : (z : Book) × (book_of program t (log_at logs t) ≡ Some z)
        g = some-of (book_of program t (log_at logs t)) (f.tcoms t is).1.reads

        all-rise : Rises (filter_map (tcom_entry t) (log_at logs t))
        all-rise = tcom-rises program t (log_at logs t) (first_book program t) g.0 g.1

        quiet : (q : Record) (x : Entry) → Contains s.0 q → tcom_entry t q ≡ Some x → ⊥
        quiet q x hq tq = by (Contains-append_cases front (e ∷ back) x (subst (λ l. Contains l x) split stands))
          where
            v : (pre : List Record) × (post : List Record) × (s.0 ≡ pre ++ q ∷ post)
            v = contains-split s.0 q hq

            in-log : Contains (log_at logs t) q
            in-log = subst (λ l. Contains l q) (sym log) (Contains-append_right p.done (s.0 ++ r ∷ s.1) q (Contains-append_left s.0 (r ∷ s.1) q hq))

            stands : Contains (history_of program logs) x
            stands = let d = the-component program t is in entries_are_in_history program logs x t d.0 q d.1 in-log (ap (λ k. entry_of k t q) d.2 ∙ tq)

            shape : log_at logs t ≡ (p.done ++ v.0) ++ q ∷ (v.1 ++ r ∷ s.1)
            shape = log ∙ ap (λ l. p.done ++ (l ++ r ∷ s.1)) v.2 ∙ ap (λ l. p.done ++ l) (append_assoc v.0 (q ∷ v.1) (r ∷ s.1)) ∙ sym (append_assoc p.done v.0 (q ∷ (v.1 ++ r ∷ s.1)))

            earlier : Below x e
            earlier = to-below x e (filter-pair t (p.done ++ v.0) v.1 s.1 q r x e (subst (λ l. Rises (filter_map (tcom_entry t) l)) shape all-rise) tq te)

            left-has : Contains p.left q
            left-has = subst (λ l. Contains l q) (sym s.2) (Contains-append_left s.0 (r ∷ s.1) q hq)

            last : (e ≡ x) ⊎ Contains back x → ⊥
            last (inl same) = let b = subst (λ z. Below z e) (sym same) earlier in below-never e e b b
            last (inr b) = below-never x e earlier (order.1 x b)

            by : Contains front x ⊎ Contains (e ∷ back) x → ⊥
            by (inl a) = p.outside q x left-has tq a
            by (inr b) = last (head-or-tail e x back b)

        cut : (o : Option Book) (ys : List Record) (z : Book) → book program t o ys ≡ Some z → (b : Book) × (o ≡ Some b) × (book program t (Some b) ys ≡ Some z)
        cut None ys z e2 = none-some z (sym (book-none program t ys) ∙ e2)
        cut (Some b) ys z e2 = (b, refl, e2)

        m : (b : Book) × (book_of program t (p.done ++ s.0) ≡ Some b) × (book program t (Some b) (r ∷ s.1) ≡ Some g.0)
        m = cut (book_of program t (p.done ++ s.0)) (r ∷ s.1) g.0 (sym (book-twice program t (Some (first_book program t)) (p.done ++ s.0) (r ∷ s.1)) ∙ ap (book_of program t) (append_assoc p.done s.0 (r ∷ s.1) ∙ sym log) ∙ g.1)

        same : m.0.ledger ≡ p.book.ledger
        same = ledger-stays program t s.0 p.book m.0 quiet (sym (book-twice program t (Some (first_book program t)) p.done s.0 ∙ ap (λ o. book program t o s.0) p.is_book) ∙ m.1)

        fits : book program t (Some m.0) (r ∷ []) ≡ Some (booked m.0 r)
        fits = at (book_fits program t m.0 r) m.2
          where
            at : (b : Bool) → book program t (cond b (Some (booked m.0 r)) None) s.1 ≡ Some g.0 → cond b (Some (booked m.0 r)) None ≡ Some (booked m.0 r)
            at true u = refl
            at false u = none-some g.0 (sym (book-none program t s.1) ∙ u)

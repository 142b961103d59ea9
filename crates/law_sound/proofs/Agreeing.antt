-- The crash-free world has each component where its log says.
use Rattle.std.proofs.Common.{◌≡◌, refl, ◌∙◌, ap, sym, subst, ℕ, Bool, true, false, cond, List, [], ◌∷◌, ◌++◌, Some, ◌⊎◌, inl, inr}
use Rattle.std.specs.Prelude.{Contains, IsSomeAnd, Ok, Err, Result}
use Rattle.std.specs.Result.{IsOkAnd}
use Rattle.std.proofs.lemmas.List.{append-nil}
use Rattle.std.proofs.lemmas.List.Elements.{Contains-append_right, Contains-append_cases}
use Rattle.ic_base.specs.declared.messages.Entry.{Entry}
use Rattle.ic_base.specs.declared.record.Record.{Record}
use Rattle.def_plain.specs.Plain.{PlainWorld, pcom_at, ledger_at, plain_run_of}
use Rattle.def_plain.specs.History.{entry_of, tcom_entry, history_of}
use Rattle.def_state.specs.Hist.{Hist, Contents, after, apply_all, first_hist}
use Rattle.def_step.specs.Tcom.{Book, book, book_of, first_book}
use Rattle.def_facts.specs.Logs.{log_at, before, contents_in}
use Rattle.def_facts.specs.Sound.{is_unrecorded, history_before}
use Rattle.law_replay.proofs.Growing.{applied_twice}
use Rattle.law_replay.proofs.Lists.{some-of, in-head, empty, head-or-tail}
use Rattle.law_sound.specs.Order.{Rises, touching}
use Rattle.law_sound.proofs.Deciding.{the-component}
use Rattle.law_sound.proofs.Histories.{entries_are_in_history}
use Rattle.law_sound.proofs.Rising.{Below, below-never, history_rises}
use Rattle.law_sound.specs.Assembly.{PcomReached, TcomReached, IsReached, LedgersAgree, PcomsAgree}
use Rattle.law_sound.proofs.Decided.{ledger-stays}
use Rattle.law_sound.proofs.Legal.{history_is_legal}
use Rattle.law_sound.proofs.Reaching.{rises-split, touching-stands, plain-stays, unrecorded-last}
use Rattle.law_replay.proofs.Records.{book-twice}

pub ledgers_agree : LedgersAgree
ledgers_agree program found logs past w f run t is = subst (λ o. IsSomeAnd o (λ b. ledger_at w t ≡ Some b.ledger)) (sym g.1) (q.ledger ∙ ap Some (sym same))
  where
    reached : IsReached program logs past (history_of program logs) w
    reached = subst (λ o. IsOkAnd o (IsReached program logs past (history_of program logs))) run (history_is_legal program found logs past f (history_of program logs) [] (sym (append-nil (history_of program logs))))

    q : TcomReached program logs t (history_of program logs) w
    q = reached.tcoms t is

    g : (b : Book) × (book_of program t (log_at logs t) ≡ Some b)
    g = some-of (book_of program t (log_at logs t)) (f.tcoms t is).1.reads

    never : (r : Record) (x : Entry) → Contains q.left r → tcom_entry t r ≡ Some x → ⊥
    never r x h e =
        let d = the-component program t is in
        q.outside r x h e (entries_are_in_history program logs x t d.0 r d.1 (subst (λ l. Contains l r) (sym q.split) (Contains-append_right q.done q.left r h)) (ap (λ k. entry_of k t r) d.2 ∙ e))

    same : g.0.ledger ≡ q.book.ledger
    same = ledger-stays program t q.left q.book g.0 never (sym (book-twice program t (Some (first_book program t)) q.done q.left ∙ ap (λ o. book program t o q.left) q.is_book) ∙ ap (book_of program t) (sym q.split) ∙ g.1)

-- what stands behind the items before the first that passes
pub before-rest : {A : Type 0} (test : A → Bool) (xs : List A) → (zs : List A) × (xs ≡ before test xs ++ zs) × ((x : A) → Contains (before test xs) x → test x ≡ false) × ((zs ≡ []) ⊎ ((y : A) × (ys : List A) × (zs ≡ y ∷ ys) × (test y ≡ true)))
before-rest test [] = ([], refl, (λ x h. empty x h), inl refl)
before-rest test (x ∷ xs) = at (test x) refl (before-rest test xs)
  where
    at : (b : Bool) → test x ≡ b → (zs : List _) × (xs ≡ before test xs ++ zs) × ((y : _) → Contains (before test xs) y → test y ≡ false) × ((zs ≡ []) ⊎ ((y : _) × (ys : List _) × (zs ≡ y ∷ ys) × (test y ≡ true))) →
        (zs : List _) × (x ∷ xs ≡ cond b [] (x ∷ before test xs) ++ zs) × ((y : _) → Contains (cond b [] (x ∷ before test xs)) y → test y ≡ false) × ((zs ≡ []) ⊎ ((y : _) × (ys : List _) × (zs ≡ y ∷ ys) × (test y ≡ true)))
    at true is more = (x ∷ xs, refl, (λ y h. empty y h), inr (x, xs, refl, is))
    at false is more = (more.0, ap (λ l. x ∷ l) more.1, (λ y h. by y (head-or-tail x y (before test xs) h)), more.3)
      where
        by : (y : _) → (x ≡ y) ⊎ Contains (before test xs) y → test y ≡ false
        by y (inl a) = ap test (sym a) ∙ is
        by y (inr b) = more.2 y b

pub pcoms_agree : PcomsAgree
pcoms_agree program found logs past f c is = subst (λ o. IsSomeAnd o (λ h. IsOkAnd (plain_run_of program front) (λ v. pcom_at v c ≡ Some h.plain))) (sym g.1) (at (plain_run_of program front) (history_is_legal program found logs past f front b.0 b.1))
  where
    test : Entry → Bool
    test e = is_unrecorded (log_at logs c) c e.act

    front : List Entry
    front = history_before program logs c

    k : Contents
    k = contents_in (past.received c)

    b : (zs : List Entry) × (history_of program logs ≡ front ++ zs) × ((x : Entry) → Contains front x → is_unrecorded (log_at logs c) c x.act ≡ false) × ((zs ≡ []) ⊎ ((y : Entry) × (ys : List Entry) × (zs ≡ y ∷ ys) × (is_unrecorded (log_at logs c) c y.act ≡ true)))
    b = before-rest (λ e. is_unrecorded (log_at logs c) c e.act) (history_of program logs)

    g : (z : Hist) × (after program c k (log_at logs c) ≡ Some z)
    g = some-of (after program c k (log_at logs c)) (f.pcoms c is).whole.replays

    here : (v : PlainWorld) → IsReached program logs past front v → pcom_at v c ≡ Some g.0.plain
    here v reached = p.is_cell ∙ ap Some (p.exact b.2 ∙ sym plain)
      where
        p : PcomReached program logs past c front v
        p = reached.pcoms c is

        never : (r : Record) (x : Entry) → Contains p.left r → touching program logs c r ≡ Some x → ⊥
        never r x h t = which (Contains-append_cases front b.0 x (subst (λ l. Contains l x) b.1 stands))
          where
            in-log : Contains (log_at logs c) r
            in-log = subst (λ l. Contains l r) (sym p.split) (Contains-append_right p.done p.left r h)

            stands : Contains (history_of program logs) x
            stands = touching-stands program logs c r x is in-log t

            rest : Contains b.0 x → ((b.0 ≡ []) ⊎ ((y : Entry) × (ys : List Entry) × (b.0 ≡ y ∷ ys) × (is_unrecorded (log_at logs c) c y.act ≡ true))) → ⊥
            rest i (inl e) = empty x (subst (λ l. Contains l x) e i)
            rest i (inr z) = last (head-or-tail z.0 x z.1 (subst (λ l. Contains l x) z.2 i))
              where
                shape : history_of program logs ≡ front ++ z.0 ∷ z.1
                shape = b.1 ∙ ap (λ l. front ++ l) z.2

                low : Below x z.0
                low = unrecorded-last program found logs past f c is r x z.0 in-log t (subst (λ l. Contains l z.0) (sym shape) (Contains-append_right front (z.0 ∷ z.1) z.0 (in-head z.0 z.1))) z.3

                last : (z.0 ≡ x) ⊎ Contains z.1 x → ⊥
                last (inl same) = let d = subst (λ u. Below u z.0) (sym same) low in below-never z.0 z.0 d d
                last (inr j) = below-never x z.0 low ((rises-split front z.1 z.0 (subst Rises shape (history_rises program found logs past f))).1 x j)

            which : Contains front x ⊎ Contains b.0 x → ⊥
            which (inl i) = p.outside r x h t i
            which (inr i) = rest i b.3

        plain : g.0.plain ≡ p.state.plain
        plain =
            plain-stays program found logs past f c is p.done p.left [] p.state g.0 (p.split ∙ ap (λ l. p.done ++ l) (sym (append-nil p.left))) never
            (sym (applied_twice program c k (Some (first_hist program c)) p.done p.left ∙ ap (λ o. apply_all program c k o p.left) p.is_state) ∙ ap (after program c k) (sym p.split) ∙ g.1)

    at : (o : Result PlainWorld ℕ) → IsOkAnd o (IsReached program logs past front) → IsOkAnd o (λ v. pcom_at v c ≡ Some g.0.plain)
    at (Ok v) r = here v r
    at (Err i) r = absurd r

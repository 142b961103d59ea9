-- The entries of a Pcom stand in the merged history in the order of its log; so do its inputs.
use Rattle.std.proofs.Common.{◌≡◌, refl, ◌∙◌, ap, sym, subst, ◌==◌, Bool, true, false, cond, List, [], ◌∷◌, filter, Option, Some, None, ◌⊎◌, inl, inr}
use Rattle.std.specs.Prelude.{Contains, filter_map, slice_get}
use Rattle.std.specs.List.{cons_option}
use Rattle.std.proofs.lemmas.Option.{same_Some}
use Rattle.ic_base.specs.declared.messages.ComId.{ComId}
use Rattle.ic_base.specs.declared.messages.Entry.{Entry}
use Rattle.ic_base.specs.declared.messages.Kind.{Kind}
use Rattle.ic_base.specs.declared.messages.Kind.TheVariants as kinds
use Rattle.ic_base.specs.declared.scenario.Component.{Component}
use Rattle.ic_base.specs.declared.scenario.Program.{Program}
use Rattle.ic_base.specs.declared.record.Record.{Record}
use Rattle.ic_base.specs.declared.record.Record.TheVariants.{Take, TakeWhole, Input, Value, Outcome, Released, Shown, Checkpoint, Epoch, Decided}
use Rattle.ic_base.specs.Programs.{same_com, is_a_pcom, is_pcom, declares}
use Rattle.def_plain.specs.History.{history_of, entry_of, pcom_entry, is_before}
use Rattle.def_state.specs.Hist.{Hist, Contents, after, first_hist}
use Rattle.def_facts.specs.Logs.{Logs, log_at, contents_in}
use Rattle.def_facts.specs.Pcom.{state_after}
use Rattle.law_sound.specs.Order.{Rises}
use Rattle.def_run.specs.CrashFree.{input_in, input_act, input_of}
use Rattle.law_settle.specs.Ends.{InputsStandInOrder}
use Rattle.law_replay.proofs.Narrowing.{families_explained}
use Rattle.law_sound.proofs.Histories.{history_has_entries, entries_are_in_history}
use Rattle.law_sound.proofs.Rising.{Below, history_rises, own-entry, tcom-stamp, to-below, below-never, pcom-rises}
use Rattle.law_replay.proofs.Lists.{head-or-tail, self-number, true-false, empty, none-some}
use Rattle.law_replay.proofs.Lists.{in-head, in-tail, same-com, some-of}
use Rattle.law_replay.proofs.Members.{filter-has, filter-in as kept-member, mapped-has, mapped-keeps}

-- rising lists ------------------------------------------------------------------------------------

never-itself : {B : Type 0} (e x : Entry) → e ≡ x → is_before e x ≡ true → B
never-itself e x same lt = let itself = subst (λ (z : Entry). Below z x) same (to-below e x lt) in below-never x x itself itself

-- two rising lists with the same members are equal
rises-equal : (xs ys : List Entry) → Rises xs → Rises ys → ((e : Entry) → Contains xs e → Contains ys e) → ((e : Entry) → Contains ys e → Contains xs e) → xs ≡ ys
rises-equal [] [] r s f g = refl
rises-equal [] (y ∷ ys) r s f g = empty y (g y (in-head y ys))
rises-equal (x ∷ xs) [] r s f g = empty x (f x (in-head x xs))
rises-equal (x ∷ xs) (y ∷ ys) r s f g =
    at (heads (head-or-tail y x ys (f x (in-head x xs))) (head-or-tail x y xs (g y (in-head y ys)))) (λ same. rises-equal xs ys r.1 s.1 (there same) (back same))
  where
    heads : (y ≡ x) ⊎ Contains ys x → (x ≡ y) ⊎ Contains xs y → x ≡ y
    heads (inl e) b = sym e
    heads (inr a) (inl e) = e
    heads (inr a) (inr b) = below-never y x (to-below y x (s.0 x a)) (to-below x y (r.0 y b))

    there : x ≡ y → (e : Entry) → Contains xs e → Contains ys e
    there same e has = by (head-or-tail y e ys (f e (in-tail x e xs has)))
      where
        by : (y ≡ e) ⊎ Contains ys e → Contains ys e
        by (inl p) = never-itself x e (same ∙ p) (r.0 e has)
        by (inr t) = t

    back : x ≡ y → (e : Entry) → Contains ys e → Contains xs e
    back same e has = by (head-or-tail x e xs (g e (in-tail y e ys has)))
      where
        by : (x ≡ e) ⊎ Contains xs e → Contains xs e
        by (inl p) = never-itself y e (sym same ∙ p) (s.0 e has)
        by (inr t) = t

    at : x ≡ y → (x ≡ y → xs ≡ ys) → x ∷ xs ≡ y ∷ ys
    at same more = ap (λ z. z ∷ xs) same ∙ ap (λ l. y ∷ l) (more same)

rises-filter : (test : Entry → Bool) (xs : List Entry) → Rises xs → Rises (filter test xs)
rises-filter test [] r = tt
rises-filter test (x ∷ xs) r = at (test x) (rises-filter test xs r.1)
  where
    at : (b : Bool) → Rises (filter test xs) → Rises (cond b (x ∷ filter test xs) (filter test xs))
    at true more = (λ e has. r.0 e (filter-has test xs e has).0, more)
    at false more = more

-- the entries of a log ----------------------------------------------------------------------------

pub entry-com : (k : Kind) (u : ComId) (r : Record) (e : Entry) → entry_of k u r ≡ Some e → e.com ≡ u
entry-com kinds.Pcom u r e is = (own-entry u r e is).1
entry-com kinds.Tcom u r e is = (tcom-stamp u r e is).6
entry-com kinds.Xcom u r e is = none-some e is

pub itself-same : (c d : ComId) → d ≡ c → same_com c d ≡ true
itself-same c d e = ap (λ (z : ComId). c.0 == z.0) e ∙ self-number c.0

pub pcom-component : (program : Program) (c : ComId) → is_a_pcom program c ≡ true → (x : Component) × (slice_get program.components c.0 ≡ Some x) × (x.kind ≡ kinds.Pcom)
pcom-component program c is = at (slice_get program.components c.0) refl is
  where
    kind : (k : Kind) → is_pcom k ≡ true → k ≡ kinds.Pcom
    kind kinds.Pcom f = refl
    kind kinds.Tcom f = true-false f
    kind kinds.Xcom f = true-false f

    at : (o : Option Component) → slice_get program.components c.0 ≡ o → declares (λ d. is_pcom d.kind) o ≡ true → (x : Component) × (slice_get program.components c.0 ≡ Some x) × (x.kind ≡ kinds.Pcom)
    at None e f = true-false f
    at (Some x) e f = (x, e, kind x.kind f)

-- the entries of a Pcom in the history are those of its log, in its order
pub own_entries : (program : Program) (logs : Logs) (c : ComId) (k : Contents) (g : Hist) → is_a_pcom program c ≡ true → after program c k (log_at logs c) ≡ Some g → Rises (history_of program logs) → filter (λ e. same_com c e.com) (history_of program logs) ≡ filter_map (pcom_entry c) (log_at logs c)
own_entries program logs c k g pcom is rise =
    rises-equal (filter (λ (e : Entry). same_com c e.com) (history_of program logs)) (filter_map (pcom_entry c) (log_at logs c)) (rises-filter (λ (e : Entry). same_com c e.com) (history_of program logs) rise) (pcom-rises program c k (log_at logs c) (first_hist program c) g is) there back
  where
    there : (e : Entry) → Contains (filter (λ (x : Entry). same_com c x.com) (history_of program logs)) e → Contains (filter_map (pcom_entry c) (log_at logs c)) e
    there e has =
        let m = filter-has (λ (x : Entry). same_com c x.com) (history_of program logs) e has in
        let x = history_has_entries program logs e m.0 in
        let same : x.0 ≡ c = sym (same-com c e.com m.1 ∙ entry-com x.1.kind x.0 x.2 e x.5) in
        let y = pcom-component program c pcom in
        let component : x.1 ≡ y.0 = same_Some x.1 y.0 (sym x.3 ∙ ap (λ (d : ComId). slice_get program.components d.0) same ∙ y.1) in
        let made : pcom_entry c x.2 ≡ Some e = ap (λ (d : ComId). pcom_entry d x.2) (sym same) ∙ ap (λ (q : Kind). entry_of q x.0 x.2) (sym (ap (λ (q : Component). q.kind) component ∙ y.2)) ∙ x.5 in
        mapped-keeps (pcom_entry c) (log_at logs c) x.2 e (subst (λ d. Contains (log_at logs d) x.2) same x.4) made

    back : (e : Entry) → Contains (filter_map (pcom_entry c) (log_at logs c)) e → Contains (filter (λ (x : Entry). same_com c x.com) (history_of program logs)) e
    back e has =
        let r = mapped-has (pcom_entry c) (log_at logs c) e has in
        let y = pcom-component program c pcom in
        kept-member (λ (x : Entry). same_com c x.com) (history_of program logs) e (entries_are_in_history program logs e c y.0 r.0 y.1 r.1 (ap (λ (q : Kind). entry_of q c r.0) y.2 ∙ r.2)) (itself-same c e.com (own-entry c r.0 e r.2).1)

-- inputs ------------------------------------------------------------------------------------------

of-com : (c : ComId) (es : List Entry) → filter_map (input_of c) es ≡ filter_map (λ e. input_act e.act) (filter (λ e. same_com c e.com) es)
of-com c [] = refl
of-com c (e ∷ es) = at (same_com c e.com) (of-com c es)
  where
    at : (b : Bool) → filter_map (input_of c) es ≡ filter_map (λ x. input_act x.act) (filter (λ x. same_com c x.com) es) → cons_option (cond b (input_act e.act) None) (filter_map (input_of c) es) ≡ filter_map (λ x. input_act x.act) (cond b (e ∷ filter (λ x. same_com c x.com) es) (filter (λ x. same_com c x.com) es))
    at true h = ap (cons_option (input_act e.act)) h
    at false h = h

of-log : (c : ComId) (rs : List Record) → filter_map (λ e. input_act e.act) (filter_map (pcom_entry c) rs) ≡ filter_map input_in rs
of-log c [] = refl
of-log c (Take s k stamp ∷ rs) = of-log c rs
of-log c (TakeWhole s k stamp h args ∷ rs) = of-log c rs
of-log c (Input stamp h args ∷ rs) = ap (λ l. (h, args) ∷ l) (of-log c rs)
of-log c (Value n place session value ∷ rs) = of-log c rs
of-log c (Outcome stamp n None ∷ rs) = of-log c rs
of-log c (Outcome stamp n (Some cause) ∷ rs) = of-log c rs
of-log c (Released to k ∷ rs) = of-log c rs
of-log c (Shown m ∷ rs) = of-log c rs
of-log c (Checkpoint image ∷ rs) = of-log c rs
of-log c (Epoch epoch ∷ rs) = of-log c rs
of-log c (Decided stamp d n writes ∷ rs) = of-log c rs

pub inputs_in_order : (program : Program) (logs : Logs) (c : ComId) (k : Contents) (g : Hist) → is_a_pcom program c ≡ true → after program c k (log_at logs c) ≡ Some g → Rises (history_of program logs) → filter_map (input_of c) (history_of program logs) ≡ filter_map input_in (log_at logs c)
inputs_in_order program logs c k g pcom is rise = of-com c (history_of program logs) ∙ ap (filter_map (λ (e : Entry). input_act e.act)) (own_entries program logs c k g pcom is rise) ∙ of-log c (log_at logs c)

pub inputs_stand_in_order : InputsStandInOrder
inputs_stand_in_order program found forced all logs past e family c pcom =
    let f = families_explained program found forced all logs past family e in
    let g = some-of (state_after program c (past.received c) (log_at logs c)) (f.pcoms c pcom).whole.replays in
    inputs_in_order program logs c (contents_in (past.received c)) g.0 pcom g.1 (history_rises program found logs past f)

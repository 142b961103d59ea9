-- The world in which all components are down over sound logs is explained.
use Rattle.std.proofs.Common.{◌≡◌, refl, ◌∙◌, ap, sym, subst, ℕ, zero, suc, ◌+◌, ◌<◌, ◌≤◌, true, false, not, ◌&&◌, ◌==◌, List, [], ◌∷◌, ◌++◌, length, map, take, drop, fold, slice_get, unwrap_or, Option, Some, None, option_map, option_and_then, arith, ◌⊎◌, inl, inr}
use Rattle.std.specs.Prelude.{Contains, IsTrue, IsSomeAnd, MatchOption, ⊤}
use Rattle.std.proofs.lemmas.List.{append-nil, length-append, drop_at}
use Rattle.std.proofs.lemmas.List.Elements.{Contains-append_cases}
use Rattle.std.proofs.lemmas.Option.{same_Some}
use Rattle.ic_base.specs.declared.messages.ComId.{ComId}
use Rattle.ic_base.specs.declared.messages.Kind.{Kind}
use Rattle.ic_base.specs.declared.messages.Kind.TheVariants as kinds
use Rattle.ic_base.specs.declared.messages.Out.{Out}
use Rattle.ic_base.specs.declared.messages.Output.{Output}
use Rattle.ic_base.specs.declared.scenario.Component.{Component}
use Rattle.ic_base.specs.declared.scenario.Program.{Program}
use Rattle.ic_base.specs.declared.record.Record.{Record}
use Rattle.ic_base.specs.declared.record.Record.TheVariants.{Take, TakeWhole, Input, Value, Outcome, Released, Shown, Checkpoint, Epoch, Decided}
use Rattle.ic_base.specs.Programs.{is_a_pcom, is_pcom, is_tcom, declares}
use Rattle.def_plain.specs.declared.world.PlainPcom.{PlainPcom}
use Rattle.def_plain.specs.Cell.{Touch, cell_step}
use Rattle.def_state.specs.Fits.{fits, is_number_of}
use Rattle.def_state.specs.Hist.{Hist, Contents, apply, apply_all, after, first_hist, recorded, played_on, moved, moved_well, is_at_request, hand_plays, numbers_fit, touch_of, standing_of, last_ended, number_outputs, new_outputs, outputs_of}
use Rattle.def_step.specs.World.{Node, Down, External}
use Rattle.def_facts.specs.Logs.{Logs, log_at, shown_by, last_shown}
use Rattle.def_facts.specs.Pcom.{state_after}
use Rattle.def_facts.specs.Sound.{contents_of}
use Rattle.def_facts.specs.World.{forced_of, records_of, forced_logs, whole_logs, LogsExplained, ShowingFacts, Past, is_of_kind, IsMirrored, IsServed}
use Rattle.law_found.specs.Past.{past_of, packets_told}
use Rattle.law_replay.proofs.Lists.{none-some, clash, passed}
use Rattle.law_replay.proofs.Growing.{apply_none, cell-grows}
use Rattle.law_replay.proofs.Lists.{in-head, equal-numbers}
use Rattle.law_replay.proofs.Lists.{empty}
use Rattle.law_found.specs.Resumed.{down_node, down_nodes, down_world, FoundWorldIsExplained}
use Rattle.law_found.proofs.SoundLogs.{the-state}
use Rattle.law_found.proofs.Pcoms.{Found, state-same}
use Rattle.law_found.proofs.Explaining.{found_logs_are_explained}
use Rattle.law_replay.proofs.Members.{filter-has}
use Rattle.law_replay.proofs.Outputs.{outputs-below}

-- outputs ---------------------------------------------------------------------------------------------

-- what is recorded as shown was put out, and so is what isn't shown yet
record Made (s : ℕ) (h : Hist) : Type 0 where
  shown : s ≤ length h.plain.outs
  unshown : (o : Output) → Contains h.unshown o → o.m ≤ length h.plain.outs

moved-made : (program : Program) (c : ComId) (s : ℕ) (h : Hist) (stamp : ℕ) (p : PlainPcom) (extra : List Out) → p.outs ≡ h.plain.outs ++ extra → Made s h → Made s (moved program c h stamp p)
moved-made program c s h stamp p extra grow x = record { shown = up s x.shown; unshown = λ o k. at o (Contains-append_cases h.unshown (new_outputs h p) o k) }
  where
    long : length p.outs ≡ length h.plain.outs + length extra
    long = ap length grow ∙ length-append h.plain.outs extra

    up : (n : ℕ) → n ≤ length h.plain.outs → n ≤ length p.outs
    up n le = omega (arith, le, long)

    new : drop (length h.plain.outs) p.outs ≡ extra
    new = ap (drop (length h.plain.outs)) grow ∙ drop_at h.plain.outs extra (length h.plain.outs) refl

    low : (a b l m : ℕ) → m ≡ b + l → a < (b + 1) + l → a ≤ m
    low a b l m e k = omega (arith, e, k)

    at : (o : Output) → Contains h.unshown o ⊎ Contains (new_outputs h p) o → o.m ≤ length p.outs
    at o (inl k) = up o.m (x.unshown o k)
    at o (inr k) = low o.m (length h.plain.outs) (length extra) (length p.outs) long (outputs-below (length h.plain.outs + 1) extra o (subst (λ l. Contains (number_outputs (length h.plain.outs + 1) l) o) new k))

played-made : (program : Program) (c : ComId) (s : ℕ) (h g : Hist) (stamp : ℕ) (t : Option Touch) → Made s h → played_on program c h stamp t ≡ Some g → Made s g
played-made program c s h g stamp None x e = none-some g e
played-made program c s h g stamp (Some t) x e = at (cell_step program c h.plain t) refl e
  where
    at : (o : Option PlainPcom) → cell_step program c h.plain t ≡ o → option_and_then (moved_well program c h stamp) o ≡ Some g → Made s g
    at None is f = none-some g f
    at (Some p) is f =
        let m = passed (numbers_fit (moved program c h stamp p) && is_at_request (option_map (hand_plays program c p.vars []) p.hand)) (Some (moved program c h stamp p)) g f in
        let grow = (cell-grows program c h.plain p t is).outs in
        subst (Made s) (same_Some (moved program c h stamp p) g m.1) (moved-made program c s h stamp p grow.0 grow.1 x)

same-made : (s : ℕ) (h x g : Hist) → x.plain ≡ h.plain → x.unshown ≡ h.unshown → Some x ≡ Some g → Made s h → Made s g
same-made s h x g p u e y = subst (Made s) (same_Some x g e) (record { shown = subst (λ (z : PlainPcom). s ≤ length z.outs) (sym p) y.shown; unshown = λ o k. subst (λ (z : PlainPcom). o.m ≤ length z.outs) (sym p) (y.unshown o (subst (λ l. Contains l o) u k)) })

oldest-made : (s m : ℕ) (h : Hist) (xs : List Output) → h.unshown ≡ xs → Made s h → is_number_of (option_map (λ (o : Output). o.m) (slice_get xs 0)) m ≡ true → m ≤ length h.plain.outs
oldest-made s m h [] is x e = clash false e refl
oldest-made s m h (o ∷ os) is x e = subst (λ n. n ≤ length h.plain.outs) (equal-numbers o.m m e) (x.unshown o (subst (λ l. Contains l o) (sym is) (in-head o os)))

recorded-made : (program : Program) (c : ComId) (k : Contents) (s : ℕ) (h g : Hist) (r : Record) → Made s h → fits program c (standing_of program c h) r ≡ true → recorded program c k h r ≡ Some g → Made (shown_by s r) g
recorded-made program c k s h g (Take from n stamp) x ok e = played-made program c s h g stamp (touch_of k h.now (Take from n stamp)) x e
recorded-made program c k s h g (TakeWhole from n stamp handler args) x ok e = played-made program c s h g stamp (touch_of k h.now (TakeWhole from n stamp handler args)) x e
recorded-made program c k s h g (Input stamp handler args) x ok e = played-made program c s h g stamp (touch_of k h.now (Input stamp handler args)) x e
recorded-made program c k s h g (Outcome stamp n abort) x ok e = played-made program c s (last_ended h) g stamp (touch_of k h.now (Outcome stamp n abort)) (same-made s h (last_ended h) (last_ended h) refl refl refl x) e
recorded-made program c k s h g (Value n place session value) x ok e = same-made s h _ g refl refl e x
recorded-made program c k s h g (Released to n) x ok e = same-made s h _ g refl refl e x
recorded-made program c k s h g (Shown m) x ok e = subst (Made m) (same_Some _ g e) (record {
  shown = oldest-made s m h h.unshown refl x ok;
  unshown = λ o i. x.unshown o (filter-has (λ (z : Output). not (z.m == m)) h.unshown o i).0;
})
recorded-made program c k s h g (Checkpoint image) x ok e = same-made s h h g refl refl e x
recorded-made program c k s h g (Epoch epoch) x ok e = none-some g e
recorded-made program c k s h g (Decided stamp d n writes) x ok e = none-some g e

all-made : (program : Program) (c : ComId) (k : Contents) (rs : List Record) (s : ℕ) (h g : Hist) → Made s h → apply_all program c k (Some h) rs ≡ Some g → fold shown_by s rs ≤ length g.plain.outs
all-made program c k [] s h g x e = subst (λ (z : Hist). s ≤ length z.plain.outs) (same_Some h g e) x.shown
all-made program c k (r ∷ rs) s h g x e = at (apply program c k h r) refl e (λ y. all-made program c k rs (shown_by s r) y g)
  where
    at : (o : Option Hist) → apply program c k h r ≡ o → apply_all program c k o rs ≡ Some g → ((y : Hist) → Made (shown_by s r) y → apply_all program c k (Some y) rs ≡ Some g → fold shown_by (shown_by s r) rs ≤ length g.plain.outs) → fold shown_by s (r ∷ rs) ≤ length g.plain.outs
    at None is f more = none-some g (sym (apply_none program c k rs) ∙ f)
    at (Some y) is f more = let p = passed (fits program c (standing_of program c h) r) (recorded program c k h r) y is in more y (recorded-made program c k s h y r x p.0 p.1) f

shown-made : (program : Program) (c : ComId) (k : Contents) (rs : List Record) (h : Hist) → after program c k rs ≡ Some h → last_shown rs ≤ length h.plain.outs
shown-made program c k rs h e = all-made program c k rs 0 (first_hist program c) h (record { shown = zero-le (length (first_hist program c).plain.outs); unshown = λ o i. empty o i }) e
  where
    zero-le : (n : ℕ) → 0 ≤ n
    zero-le n = omega arith

drop-take : {A : Type 0} (n : ℕ) (xs : List A) → drop n (take n xs) ≡ []
drop-take zero xs = refl
drop-take (suc n) [] = refl
drop-take (suc n) (x ∷ xs) = drop-take n xs

-- nodes -----------------------------------------------------------------------------------------------

logs-same : (f : Node → List Record) → ((log : List Record) → f (Down log) ≡ log) → f External ≡ [] → (xs : List Component) (logs : Logs) → length logs ≡ length xs → ((j : ℕ) (x : Component) → slice_get xs j ≡ Some x → x.kind ≡ kinds.Xcom → unwrap_or (slice_get logs j) [] ≡ []) → map f (down_nodes xs logs) ≡ logs
logs-same f down out [] [] long others = refl
logs-same f down out [] (log ∷ logs) long others = absurd (never (length logs) long)
  where
    never : (n : ℕ) → suc n ≡ 0 → ⊥
    never n e = omega (arith, e)
logs-same f down out (x ∷ xs) [] long others = absurd (never (length xs) long)
  where
    never : (n : ℕ) → 0 ≡ suc n → ⊥
    never n e = omega (arith, e)
logs-same f down out (x ∷ xs) (log ∷ logs) long others =
    ap (λ l. l ∷ map f (down_nodes xs logs)) (at x.kind refl) ∙ ap (λ l. log ∷ l) (logs-same f down out xs logs (less (length logs) (length xs) long) (λ j y e k. others (suc j) y e k))
  where
    less : (m n : ℕ) → suc m ≡ suc n → m ≡ n
    less m n e = omega (arith, e)

    at : (k : Kind) → x.kind ≡ k → f (down_node k log) ≡ log
    at kinds.Pcom is = down log
    at kinds.Tcom is = down log
    at kinds.Xcom is = out ∙ sym (others 0 x refl is)

kinds-fit : (xs : List Component) (logs : Logs) (j : ℕ) → is_of_kind (option_map (λ d. d.kind) (slice_get xs j)) (slice_get (down_nodes xs logs) j) ≡ true
kinds-fit [] logs j = refl
kinds-fit (x ∷ xs) [] zero = at x.kind
  where
    at : (k : Kind) → is_of_kind (Some k) (Some (down_node k [])) ≡ true
    at kinds.Pcom = refl
    at kinds.Tcom = refl
    at kinds.Xcom = refl
kinds-fit (x ∷ xs) (log ∷ logs) zero = at x.kind
  where
    at : (k : Kind) → is_of_kind (Some k) (Some (down_node k log)) ≡ true
    at kinds.Pcom = refl
    at kinds.Tcom = refl
    at kinds.Xcom = refl
kinds-fit (x ∷ xs) [] (suc j) = kinds-fit xs [] j
kinds-fit (x ∷ xs) (log ∷ logs) (suc j) = kinds-fit xs logs j

all-down : (P : Node → Type 0) → ((log : List Record) → P (Down log)) → P External → (xs : List Component) (logs : Logs) (j : ℕ) → MatchOption (slice_get (down_nodes xs logs) j) ⊤ P
all-down P down out [] logs j = tt
all-down P down out (x ∷ xs) [] zero = at x.kind
  where
    at : (k : Kind) → P (down_node k [])
    at kinds.Pcom = down []
    at kinds.Tcom = down []
    at kinds.Xcom = out
all-down P down out (x ∷ xs) (log ∷ logs) zero = at x.kind
  where
    at : (k : Kind) → P (down_node k log)
    at kinds.Pcom = down log
    at kinds.Tcom = down log
    at kinds.Xcom = out
all-down P down out (x ∷ xs) [] (suc j) = all-down P down out xs [] j
all-down P down out (x ∷ xs) (log ∷ logs) (suc j) = all-down P down out xs logs j

-- the whole -----------------------------------------------------------------------------------------------

pub found_world_is_explained : FoundWorldIsExplained
found_world_is_explained program logs w play list sound = record {
  kinds = λ c. kinds-fit program.components logs c.0;
  logs = subst (λ l. LogsExplained program logs l (whole_logs (down_world program logs)) past) (sym forced) (subst (λ l. LogsExplained program logs logs l past) (sym whole) (found_logs_are_explained program logs w play list sound));
  pcoms = λ c. all-down (IsMirrored program c (past.received c)) (λ log. tt) tt program.components logs c.0;
  tcoms = λ t. all-down (IsServed program t (past.sent t) (past.received t)) (λ log. tt) tt program.components logs t.0;
  packets = record {
    sent = λ p x. empty p x;
    numbered = λ i x. empty i x;
    epochs_rise = λ t c n place session x y h. empty _ h;
    one_owner = λ t c d n m i j session v u h. empty _ h;
    outcomes_answer = λ t c n place session d h. empty _ h;
  };
  showings = λ c is.
      subst (λ l. IsSomeAnd (state_after program c (past.received c) (log_at l c)) (λ h. ShowingFacts (log_at logs c) (log_at l c) (log_at (whole_logs (down_world program logs)) c) 0 h [])) (sym forced)
      (subst (λ l. IsSomeAnd (state_after program c (past.received c) (log_at logs c)) (λ h. ShowingFacts (log_at logs c) (log_at logs c) (log_at l c) 0 h [])) (sym whole) (showing c is));
  shown_by = λ c o x. empty (c, o) x;
}
  where
    past : Past
    past = past_of (packets_told program logs w)

    f : Found program logs w
    f = record { play = play; list = list; sound = sound }

    others : (j : ℕ) (x : Component) → slice_get program.components j ≡ Some x → x.kind ≡ kinds.Xcom → unwrap_or (slice_get logs j) [] ≡ []
    others j x is kind = list.others (record { 0 = j }) (ap (declares (λ d. is_pcom d.kind)) is ∙ ap is_pcom kind) (ap (declares (λ d. is_tcom d.kind)) is ∙ ap is_tcom kind)

    forced : forced_logs (down_world program logs) ≡ logs
    forced = logs-same forced_of (λ log. refl) refl program.components logs list.one_each others

    whole : whole_logs (down_world program logs) ≡ logs
    whole = logs-same records_of (λ log. refl) refl program.components logs list.one_each others

    self : (n : ℕ) → n ≤ n
    self n = omega arith

    zero-le : (n : ℕ) → 0 ≤ n
    zero-le n = omega arith

    showing : (c : ComId) → IsTrue (is_a_pcom program c) → IsSomeAnd (state_after program c (past.received c) (log_at logs c)) (λ h. ShowingFacts (log_at logs c) (log_at logs c) (log_at logs c) 0 h [])
    showing c is =
        let g = the-state program logs w sound c is in
        subst (λ o. IsSomeAnd o (λ h. ShowingFacts (log_at logs c) (log_at logs c) (log_at logs c) 0 h [])) (sym (state-same program logs w f c is (log_at logs c) [] (sym (append-nil (log_at logs c))) ∙ g.1)) (record {
          top = last_shown (log_at logs c);
          found_forced = self (last_shown (log_at logs c));
          forced_all = self (last_shown (log_at logs c));
          recorded_shown = self (last_shown (log_at logs c));
          top_made = shown-made program c (contents_of w c) (log_at logs c) g.0 g.1;
          here_recorded = zero-le (last_shown (log_at logs c));
          firsts_are = sym (drop-take (last_shown (log_at logs c)) (outputs_of g.0));
          each_made = λ o x. empty o x;
        })

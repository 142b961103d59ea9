-- What the logs say is kept where more records are forced, and where fewer are kept.
use Rattle.std.proofs.Common.{◌≡◌, refl, ◌∙◌, ap, sym, subst, ℕ, Bool, true, false, List, [], ◌∷◌, ◌++◌, length, Option, Some, None}
use Rattle.std.specs.Prelude.{Contains, IsSome, IsSomeAnd}
use Rattle.std.specs.List.{list_any}
use Rattle.std.proofs.lemmas.List.{append-nil}
use Rattle.std.proofs.lemmas.List.Elements.{filter_map-append}
use Rattle.ic_base.specs.declared.messages.ComId.{ComId}
use Rattle.ic_base.specs.declared.messages.AbortCause.TheVariants.{Epoch as Epochs}
use Rattle.ic_base.specs.declared.messages.Packet.{Packet}
use Rattle.ic_base.specs.declared.scenario.Program.{Program}
use Rattle.ic_base.specs.declared.record.Record.{Record}
use Rattle.ic_base.specs.declared.record.Record.TheVariants.{Take, TakeWhole, Value, Outcome, Released, Checkpoint}
use Rattle.def_state.specs.Hist.{standing_of}
use Rattle.def_facts.specs.Logs.{Logs, log_at, IsPrefixOf, contents_in, before, before_outcome, ends_txn, decisions_on, decides_txn}
use Rattle.def_facts.specs.Pcom.{state_after, IsTrueOf, EndsWell}
use Rattle.def_facts.specs.Tcom.{TcomLogFacts}
use Rattle.def_facts.specs.World.{InOrder, Past, LogsExplained, IsFamily}
use Rattle.law_replay.proofs.Growing.{prefixes_replay}
use Rattle.law_replay.proofs.Lists.{some-of, before-has, before-none, before-all, some-is}
use Rattle.law_replay.proofs.Prefixes.{prefix-self, prefix-trans, prefix-contains, prefix-both, stands-more}
use Rattle.law_replay.specs.Stability.{PrefixFactsOfPrefix, PcomsNarrow, LogsNarrow, FamiliesExplained}
use Rattle.law_replay.proofs.Truth.{truth_lasts}

pub prefix_facts : PrefixFactsOfPrefix
prefix_facts program c log all sent received p f =
    let more = p.0 in
    let g = some-of (state_after program c received all) f.replays in
    let h = prefixes_replay program c (contents_in received) log more g.0 (sym (ap (state_after program c received) p.1) ∙ g.1) in
    record {
      replays = some-is (state_after program c received log) h.0 h.1;
      take_received = λ pre post s k stamp st. f.take_received pre (post ++ more) s k stamp (stands-more all log more pre post (Take s k stamp) p.1 st);
      whole_received = λ pre post s k stamp handler args st. f.whole_received pre (post ++ more) s k stamp handler args (stands-more all log more pre post (TakeWhole s k stamp handler args) p.1 st);
      image_is = λ pre post image st. f.image_is pre (post ++ more) image (stands-more all log more pre post (Checkpoint image) p.1 st);
      value_received = λ pre post n place session value st. f.value_received pre (post ++ more) n place session value (stands-more all log more pre post (Value n place session value) p.1 st);
      commit_received = λ pre post n stamp st. f.commit_received pre (post ++ more) n stamp (stands-more all log more pre post (Outcome stamp n None) p.1 st);
      abort_received = λ pre post n stamp cause st. f.abort_received pre (post ++ more) n stamp cause (stands-more all log more pre post (Outcome stamp n (Some cause)) p.1 st);
      release_received = λ pre post d k st. f.release_received pre (post ++ more) d k (stands-more all log more pre post (Released d k) p.1 st);
      need_recorded = λ pre post n place session value r st. f.need_recorded pre (post ++ more) n place session value r (stands-more all log more (pre ++ Value n place session value ∷ []) post r p.1 st);
    }

known-some : {A : Type 0} (P : A → Type 0) (o : Option A) → IsSomeAnd o P → IsSome o
known-some P None y = absurd y
known-some P (Some h) y = refl

ends-some : (program : Program) (c : ComId) (received : List Packet) (log : List Record) → EndsWell program c received log → IsSome (state_after program c received log)
ends-some program c received log x = known-some (λ h. (standing_of program c h).failed ≡ None) (state_after program c received log) x

pub pcoms_narrow : PcomsNarrow
pcoms_narrow program c forced all lower upper sent received low mid up low_ends up_ends f = record {
  consistent = f.consistent;
  whole = prefix_facts program c upper all sent received up f.whole;
  lasting = record {
    packets_true = λ p x.
        subst (λ log. IsTrueOf program c log received p) (sym low.1)
        (truth_lasts program c forced low.0 received p (subst (λ log. IsSome (state_after program c received log)) low.1 (ends-some program c received lower low_ends)) (f.lasting.packets_true p x));
    ends_well = low_ends;
  };
  ends_well = up_ends;
}

before-prefix : {A : Type 0} (test : A → Bool) (xs ys : List A) → IsPrefixOf (before test xs) (before test (xs ++ ys))
before-prefix test xs ys = at (list_any test xs) refl
  where
    at : (b : Bool) → list_any test xs ≡ b → IsPrefixOf (before test xs) (before test (xs ++ ys))
    at true e = ([], before-has test xs ys e ∙ sym (append-nil (before test xs)))
    at false e = (before test ys, before-none test xs ys e ∙ ap (λ l. l ++ before test ys) (sym (before-all test xs e)))

before-more : (xs ys : List Record) (n : ℕ) (r : Record) → IsPrefixOf xs ys → Contains (before_outcome xs n) r → Contains (before_outcome ys n) r
before-more xs ys n r p x =
    prefix-contains (before_outcome xs n) (before_outcome ys n) r
    (subst (λ l. IsPrefixOf (before_outcome xs n) (before_outcome l n)) (sym p.1) (before-prefix (ends_txn n) xs p.0)) x

decisions-more : (xs ys : List Record) (c : ComId) (n at : ℕ) → IsPrefixOf xs ys → Contains (decisions_on xs c n) at → Contains (decisions_on ys c n) at
decisions-more xs ys c n at p x =
    prefix-contains (decisions_on xs c n) (decisions_on ys c n) at (decisions_on p.0 c n, ap (λ l. decisions_on l c n) p.1 ∙ filter_map-append (decides_txn c n) xs p.0) x

-- fewer records keep the order
pub in-order : (upper all : Logs) → ((c : ComId) → IsPrefixOf (log_at upper c) (log_at all c)) → InOrder all → InOrder upper
in-order upper all up x = record {
  own = λ t c n at d r b. x.own t c n at (decisions-more (log_at upper t) (log_at all t) c n at (up t) d) r (before-more (log_at upper c) (log_at all c) n r (up c) b);
  earlier = λ t u c n m at early d e lt.
      x.earlier t u c n m at early (decisions-more (log_at upper t) (log_at all t) c n at (up t) d) (decisions-more (log_at upper u) (log_at all u) c m early (up u) e) lt;
}

empty-front : {A : Type 0} (xs ys : List A) → IsPrefixOf xs ys → ys ≡ [] → xs ≡ []
empty-front [] ys p e = refl
empty-front (x ∷ xs) ys p e = absurd (cons-nil (sym p.1 ∙ e))
  where
    cons-nil : x ∷ (xs ++ p.0) ≡ [] → ⊥
    cons-nil f = cc

pub logs_narrow : LogsNarrow
logs_narrow program found forced all lower upper past n f = record {
  one_each = n.one_each;
  found_forced = λ c. prefix-trans (log_at found c) (log_at forced c) (log_at lower c) (f.found_forced c) (n.forced_lower c);
  forced_all = n.lower_upper;
  pcoms = λ c is.
      pcoms_narrow program c (log_at forced c) (log_at all c) (log_at lower c) (log_at upper c) (past.sent c) (past.received c) (n.forced_lower c) (n.lower_upper c) (n.upper_all c) (n.lower_ends c is) (n.upper_ends c is) (f.pcoms c is);
  tcoms = λ t is.
      let x = f.tcoms t is in
      let whole : log_at upper t ≡ log_at all t =
      prefix-both (log_at upper t) (log_at all t) (n.upper_all t)
      (subst (λ l. IsPrefixOf l (log_at upper t)) x.0 (prefix-trans (log_at forced t) (log_at lower t) (log_at upper t) (n.forced_lower t) (n.lower_upper t)))
      in
      let low : log_at lower t ≡ log_at all t =
      prefix-both (log_at lower t) (log_at all t) (prefix-trans (log_at lower t) (log_at upper t) (log_at all t) (n.lower_upper t) (n.upper_all t))
      (subst (λ l. IsPrefixOf l (log_at lower t)) x.0 (n.forced_lower t))
      in
      (low ∙ sym whole, subst (λ l. TcomLogFacts program t (length (log_at found t)) l (past.sent t) (past.received t)) (sym whole) x.1);
  others = λ c no_pcom no_tcom.
      let x = f.others c no_pcom no_tcom in (empty-front (log_at upper c) (log_at all c) (n.upper_all c) x.0, x.1);
  network = f.network;
  in_order = in-order upper all n.upper_all f.in_order;
  epochs_rise = λ c pre post stamp m x y st.
      f.epochs_rise c pre (post ++ (n.upper_all c).0) stamp m x y (stands-more (log_at all c) (log_at upper c) (n.upper_all c).0 pre post (Outcome stamp m (Some (Epochs x y))) (n.upper_all c).1 st);
}

pub families_explained : FamiliesExplained
families_explained program found forced all logs past n f =
    logs_narrow program found forced all logs logs past
    (record { one_each = (n.one_each, n.one_each); forced_lower = n.has_forced; lower_upper = λ c. prefix-self (log_at logs c); upper_all = n.within_all; lower_ends = n.ends_well; upper_ends = n.ends_well })
    f

-- the forced logs are a family
pub forced_family : (program : Program) (found forced all : Logs) (past : Past) → LogsExplained program found forced all past → IsFamily program forced all past forced
forced_family program found forced all past f = record { one_each = f.one_each.0; has_forced = λ c. prefix-self (log_at forced c); within_all = f.forced_all; ends_well = λ c is. (f.pcoms c is).lasting.ends_well }

pub forced_explained : (program : Program) (found forced all : Logs) (past : Past) → LogsExplained program found forced all past → LogsExplained program found forced forced past
forced_explained program found forced all past f = families_explained program found forced all forced past (forced_family program found forced all past f) f

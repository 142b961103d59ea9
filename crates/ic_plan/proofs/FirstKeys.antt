-- That the key at which a table is refused is the first of those that are.
use Rattle.std.proofs.Common.{◌≡◌, ℕ, List, [], ◌∷◌, Option, Some, Ordering, Less, Equal, Greater, string_bytes, nat_cmp, sym, ap, refl, ◌∙◌}
use Rattle.std.specs.Prelude.{Result, Ok, Err, IsOk, ok_or}
use Rattle.std.specs.List.{AllByRecursion}
use Rattle.std.specs.List.Sorted.{IsStrictlySortedBy}
use Rattle.std.specs.Map.{keys_of}
use Rattle.std.specs.Ordering.{match_ordering, ordering_reverse}
use Rattle.std.specs.String.{string_cmp}
use Rattle.std.specs.Cmp.{tied_itself}
use Rattle.std.specs.Cmp.Lexicographic.{slice_cmp}
use Rattle.std.proofs.lemmas.Cmp.{nat_list_cmp_total}
use Rattle.std.proofs.lemmas.Map.Lookups.{exact_bytes}
use Rattle.ic_base.specs.declared.report.Policy.{Policy}
use Rattle.ic_base.specs.declared.refusals.PolicyRefused.{PolicyRefused}
use Rattle.ic_base.specs.declared.refusals.PolicyRefused.TheVariants.{Unknown}
use Rattle.toml.specs.Data.{Data, get_member}
use Rattle.toml.specs.View.{view, members_view}
use Rattle.toml.proofs.Views.{Entry}
use Rattle.def_syntax.specs.Text.{◌>>=◌, look_up}
use Rattle.def_policy.specs.declared.policy.Setting.{Setting}
use Rattle.def_policy.specs.declared.policy.Setting.TheVariants as settings
use Rattle.def_policy.specs.Policies.{keys, defaults, number_in, level_in, with_setting, with_key, with_members}
use Rattle.ic_plan.specs.Keys.{ComesBefore, IsFirstRefusal}

-- what two readings have in common: both succeed, or both are refused so
abbrev AlikeRefused : Result Policy PolicyRefused → Result Policy PolicyRefused → Type 0
AlikeRefused (Ok p) (Ok q) = Unit {0}
AlikeRefused (Err e) (Err f) = e ≡ f
AlikeRefused _ _ = ⊥

both_alike : {X : Type 0} (r : Result X PolicyRefused) (f g : X → Policy) → AlikeRefused (r >>= (λ x. Ok (f x))) (r >>= (λ x. Ok (g x)))
both_alike (Ok x) f g = tt
both_alike (Err e) f g = refl

setting_alike : (p q : Policy) (d : Data) (s : Setting) → AlikeRefused (with_setting p d s) (with_setting q d s)
setting_alike p q d settings.CheckpointEvery = both_alike (number_in 0 100000 d) (λ n. record p { checkpoint_every = n }) (λ n. record q { checkpoint_every = n })
setting_alike p q d settings.ForceEvery = both_alike (number_in 0 100000 d) (λ n. record p { force_every = n }) (λ n. record q { force_every = n })
setting_alike p q d settings.Report = both_alike (level_in d) (λ x. record p { report = x }) (λ x. record q { report = x })
setting_alike p q d settings.Workers = both_alike (number_in 1 8 d) (λ n. record p { workers = n }) (λ n. record q { workers = n })
setting_alike p q d settings.Lane = both_alike (number_in 1 1024 d) (λ n. record p { lane = n }) (λ n. record q { lane = n })
setting_alike p q d settings.Turns = both_alike (number_in 0 1000000 d) (λ n. record p { turns = n }) (λ n. record q { turns = n })

found_alike : (p q : Policy) (d : Data) (r : Result Setting PolicyRefused) → AlikeRefused (r >>= with_setting p d) (r >>= with_setting q d)
found_alike p q d (Ok s) = setting_alike p q d s
found_alike p q d (Err e) = refl

-- whether a key is refused doesn't depend on what other keys ask for
key_alike : (p q : Policy) (k : List ℕ) (d : Data) → AlikeRefused (with_key p k d) (with_key q k d)
unfolding with_key
key_alike p q k d = found_alike p q d (ok_or (look_up k keys) Unknown)

alike_err : (a b : Result Policy PolicyRefused) (e : PolicyRefused) → AlikeRefused a b → a ≡ Err e → b ≡ Err e
alike_err (Err f) (Err g) e alike is = ap Err (sym alike) ∙ is
alike_err (Err f) (Ok q) e alike is = absurd alike
alike_err (Ok p) b e alike is = absurd (cc)

alike_ok : (a b : Result Policy PolicyRefused) (p : Policy) → AlikeRefused a b → a ≡ Ok p → IsOk b
alike_ok (Ok q) (Ok r) p alike is = refl
alike_ok (Ok q) (Err g) p alike is = absurd alike
alike_ok (Err f) b p alike is = absurd (cc)

-- the keys of these entries come behind this one
abbrev AllBehind : List ℕ → List Entry → Type 0
AllBehind k es = AllByRecursion (λ y. slice_cmp nat_cmp k (string_bytes y) ≡ Less) (keys_of es)

-- what an ordering of two keys finds at the first of some members
at_first : (o : Ordering) (d v : Data) (rest : Option Data) → match_ordering o rest (Some d) rest ≡ Some v → (o ≡ Equal → d ≡ v) × ((o ≡ Equal → ⊥) → rest ≡ Some v)
at_first Less d v rest is = (λ e. absurd (cc), λ _. is)
at_first Greater d v rest is = (λ e. absurd (cc), λ _. is)
at_first Equal d v rest is = (λ _. cc, λ no. absurd (no refl))

-- a key that comes before all of them isn't there
none_before : (es : List Entry) (j k : List ℕ) (v : Data) → AllBehind k es → ComesBefore j k → get_member j (members_view es) ≡ Some v → ⊥
none_before [] j k v behind order is = cc
none_before (x ∷ es) j k v behind order is =
    let less : slice_cmp nat_cmp j (string_bytes x.0) ≡ Less = nat_list_cmp_total.trans j k (string_bytes x.0) order behind.0 in
    none_before es j k v behind.1 order ((at_first (slice_cmp nat_cmp j (string_bytes x.0)) (view x.1) v (get_member j (members_view es)) is).1 (λ e. absurd (cc)))

-- a key that is there comes behind one that comes before all of them
key_behind : (x : Entry) (es : List Entry) (j k : List ℕ) (v : Data) (o : Ordering) → slice_cmp nat_cmp j (string_bytes x.0) ≡ o → AllBehind k (x ∷ es) → (get_member j (members_view es) ≡ Some v → slice_cmp nat_cmp j k ≡ Greater)
    → get_member j (members_view (x ∷ es)) ≡ Some v → slice_cmp nat_cmp j k ≡ Greater
key_behind x es j k v Equal tie behind more is = nat_list_cmp_total.congr j (string_bytes x.0) k tie ∙ nat_list_cmp_total.antisymm (string_bytes x.0) k ∙ ap ordering_reverse behind.0
key_behind x es j k v Less less behind more is = more (rw less at is)
key_behind x es j k v Greater greater behind more is = more (rw greater at is)

all_behind : (es : List Entry) (j k : List ℕ) (v : Data) → AllBehind k es → get_member j (members_view es) ≡ Some v → slice_cmp nat_cmp j k ≡ Greater
all_behind [] j k v behind is = absurd (cc)
all_behind (x ∷ es) j k v behind is = key_behind x es j k v (slice_cmp nat_cmp j (string_bytes x.0)) refl behind (all_behind es j k v behind.1) is

-- the first key is refused
refused_first : (x : Entry) (es : List Entry) (p : Policy) (e : PolicyRefused) → with_key p (string_bytes x.0) (view x.1) ≡ Err e → AllBehind (string_bytes x.0) es → IsFirstRefusal (members_view (x ∷ es)) e
refused_first x es p e is behind = record {
  key = string_bytes x.0;
  value = view x.1;
  there = rw (tied_itself nat_list_cmp_total (string_bytes x.0)) refl;
  refused = alike_err _ _ e (key_alike p defaults (string_bytes x.0) (view x.1)) is;
  before = λ k d there order. absurd (none_before es k (string_bytes x.0) d behind order ((at_first (slice_cmp nat_cmp k (string_bytes x.0)) (view x.1) d (get_member k (members_view es)) there).1 (λ tie. absurd (cc))));
}

allowed_first : (x : Entry) (es : List Entry) (p q : Policy) (k : List ℕ) (d : Data) (o : Ordering) → slice_cmp nat_cmp k (string_bytes x.0) ≡ o → with_key p (string_bytes x.0) (view x.1) ≡ Ok q → (get_member k (members_view es) ≡ Some d → IsOk (with_key defaults k d))
    → get_member k (members_view (x ∷ es)) ≡ Some d → IsOk (with_key defaults k d)
allowed_first x es p q k d Equal tie ok more is =
    let same : k ≡ string_bytes x.0 = exact_bytes k (string_bytes x.0) tie in
    let value : d ≡ view x.1 = sym ((at_first (slice_cmp nat_cmp k (string_bytes x.0)) (view x.1) d (get_member k (members_view es)) is).0 tie) in
    rw (same, value) (alike_ok _ _ q (key_alike p defaults (string_bytes x.0) (view x.1)) ok)
allowed_first x es p q k d Less less ok more is = more (rw less at is)
allowed_first x es p q k d Greater greater ok more is = more (rw greater at is)

-- a later key is refused
refused_later : (x : Entry) (es : List Entry) (p q : Policy) (e : PolicyRefused) → with_key p (string_bytes x.0) (view x.1) ≡ Ok q → AllBehind (string_bytes x.0) es → IsFirstRefusal (members_view es) e → IsFirstRefusal (members_view (x ∷ es)) e
refused_later x es p q e ok behind f = record {
  key = f.key;
  value = f.value;
  there = rw (all_behind es f.key (string_bytes x.0) f.value behind f.there) f.there;
  refused = f.refused;
  before = λ k d is order. allowed_first x es p q k d (slice_cmp nat_cmp k (string_bytes x.0)) refl ok (λ there. f.before k d there order) is;
}

refused_somewhere : (x : Entry) (es : List Entry) (p : Policy) (e : PolicyRefused) (r : Result Policy PolicyRefused) → with_key p (string_bytes x.0) (view x.1) ≡ r → AllBehind (string_bytes x.0) es
    → ((q : Policy) → with_members q (members_view es) ≡ Err e → IsFirstRefusal (members_view es) e) → (r >>= (λ q. with_members q (members_view es))) ≡ Err e → IsFirstRefusal (members_view (x ∷ es)) e
refused_somewhere x es p e (Err f) at behind more is = refused_first x es p e (at ∙ is) behind
refused_somewhere x es p e (Ok q) at behind more is = refused_later x es p q e at behind (more q is)

-- where the keys ascend, the refusal of all is that of the first key that is refused
pub first_refusal : (es : List Entry) (p : Policy) (e : PolicyRefused) → IsStrictlySortedBy string_cmp (keys_of es) → with_members p (members_view es) ≡ Err e → IsFirstRefusal (members_view es) e
unfolding IsStrictlySortedBy
first_refusal [] p e ascend is = absurd (cc)
first_refusal (x ∷ es) p e ascend is = refused_somewhere x es p e (with_key p (string_bytes x.0) (view x.1)) refl ascend.0 (λ q. first_refusal es q e ascend.1) is

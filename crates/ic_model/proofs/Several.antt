-- The entries of logs, one log after another.
use Rattle.std.proofs.Common.{◌≡◌, refl, ap, sym, ◌∙◌, ℕ, suc, ◌+◌, ◌<◌, ◌≤◌, List, [], ◌∷◌, ◌++◌, drop, length, arith, append_assoc, get_or, ◌⊎◌, inl, inr}
use Rattle.std.proofs.lemmas.List.{drop_all, take_more}
use Rattle.std.proofs.lemmas.List.Elements.{filter_map-append}
use Rattle.std.specs.Prelude.{option_to_list, Option, None, Some, Bool, false, take}
use Rattle.std.specs.List.{cons_option}
use Rattle.std.specs.List.Sorted.{IsSortedBy}
use Rattle.std.proofs.lemmas.List.Sorted.{sorted_far}
use Rattle.def_plain.specs.History.{is_before, NoneBefore, IsOrdered, entry_of, log_entries, entries_from}
use Rattle.def_plain.proofs.Before.{before_order}
use Rattle.ic_base.specs.declared.messages.ComId.{ComId}
use Rattle.ic_base.specs.declared.messages.Entry.{Entry}
use Rattle.ic_base.specs.declared.messages.Kind.{Kind}
use Rattle.ic_base.specs.declared.scenario.Component.{Component}
use Rattle.ic_base.specs.declared.record.Record.{Record}

-- the entry of one record more
pub one_more : (kind : Kind) (c : ComId) (done : List Record) (r : Record) → log_entries kind c (done ++ r ∷ []) ≡ log_entries kind c done ++ option_to_list (entry_of kind c r)
one_more kind c done r =
    filter_map-append (entry_of kind c) done (r ∷ []) ∙ ap (λ l. log_entries kind c done ++ l) (alone (entry_of kind c r))
  where
    alone : (o : Option Entry) → cons_option o [] ≡ option_to_list o
    alone None = refl
    alone (Some e) = refl

-- past the last component or the last log there is no entry more
none_from : (i : ℕ) (xs : List Component) (logs : List (List Record)) → (xs ≡ []) ⊎ (logs ≡ []) → entries_from i xs logs ≡ []
none_from i [] logs h = refl
none_from i (x ∷ xs) [] h = refl
none_from i (x ∷ xs) (log ∷ logs) (inl h) = absurd (cc)
none_from i (x ∷ xs) (log ∷ logs) (inr h) = absurd (cc)

pub none_left : (i : ℕ) (xs : List Component) (logs : List (List Record)) → (length xs ≤ i) ⊎ (length logs ≤ i) → entries_from i (drop i xs) (drop i logs) ≡ []
none_left i xs logs (inl h) = none_from i (drop i xs) (drop i logs) (inl (drop_all i xs h))
none_left i xs logs (inr h) = none_from i (drop i xs) (drop i logs) (inr (drop_all i logs h))

pub next_record : (kind : Kind) (c : ComId) (log : List Record) (old before after : List Entry) (i : ℕ) (r : Record) → i < length log → r ≡ get_or log i r → after ≡ before ++ option_to_list (entry_of kind c r) → before ≡ old ++ log_entries kind c (take i log) → after ≡ old ++ log_entries kind c (take (i + 1) log)
next_record kind c log old before after i r lt at one done =
    let more : take (i + 1) log ≡ take i log ++ r ∷ [] = take_more log i r lt ∙ ap (λ x. take i log ++ x ∷ []) (sym at) in
    one ∙ ap (λ l. l ++ option_to_list (entry_of kind c r)) done ∙ append_assoc old (log_entries kind c (take i log)) (option_to_list (entry_of kind c r))
    ∙ ap (λ l. old ++ l) (sym (one_more kind c (take i log) r)) ∙ ap (λ l. old ++ log_entries kind c l) (sym more)

-- what a sort ensures, as the definition of a history has it
none_before : (lt : Entry → Entry → Bool) (x : Entry) (ys : List Entry) → ((j : ℕ) (d : Entry) → j < length ys → lt (get_or ys j d) x ≡ false) → NoneBefore lt x ys
none_before lt x [] h = tt
none_before lt x (y ∷ ys) h = (h 0 y (omega arith), none_before lt x ys (λ j d b. h (suc j) d (omega (arith, b))))

ordered_by : (lt : Entry → Entry → Bool) (xs : List Entry) → ((i j : ℕ) (d : Entry) → i ≤ j → j < length xs → lt (get_or xs j d) (get_or xs i d) ≡ false) → IsOrdered lt xs
ordered_by lt [] h = tt
ordered_by lt (x ∷ xs) h = (none_before lt x xs (λ j d b. h 0 (suc j) d (omega arith) (omega (arith, b))), ordered_by lt xs (λ i j d a b. h (suc i) (suc j) d (omega (arith, a)) (omega (arith, b))))

pub in_history_order : (xs : List Entry) → IsSortedBy is_before xs → IsOrdered is_before xs
in_history_order xs h = ordered_by is_before xs (λ i j d a b. sorted_far is_before before_order xs h i j d a b)

-- The first world is explained.
use Rattle.std.proofs.Common.{◌≡◌, refl, ◌∙◌, ap, sym, subst, ℕ, zero, suc, ◌+◌, ◌≤◌, true, List, [], ◌∷◌, ◌++◌, length, map, slice_get, unwrap_or, Option, Some, None, option_map, arith, inl}
use Rattle.std.specs.Prelude.{Contains, IsSomeAnd, MatchOption, ⊤}
use Rattle.ic_base.specs.declared.messages.ComId.{ComId}
use Rattle.ic_base.specs.declared.messages.Kind.{Kind}
use Rattle.ic_base.specs.declared.messages.Kind.TheVariants as kinds
use Rattle.ic_base.specs.declared.scenario.Component.{Component}
use Rattle.ic_base.specs.declared.scenario.Program.{Program}
use Rattle.ic_base.specs.declared.record.Record.{Record}
use Rattle.def_state.specs.Hist.{first_hist, first_plain}
use Rattle.def_step.specs.Pcom.{fresh_pcom}
use Rattle.def_step.specs.Tcom.{fresh_tcom}
use Rattle.def_step.specs.World.{Node, node_at, first_node, first_nodes, first_world}
use Rattle.def_facts.specs.Logs.{log_at, decisions_on}
use Rattle.def_facts.specs.Pcom.{PcomLogFacts, VolatileFacts, state_after}
use Rattle.def_facts.specs.Tcom.{TcomLogFacts, TcomStateFacts}
use Rattle.def_facts.specs.World.{LogsExplained, ShowingFacts, IsMirrored, IsServed, forced_of, records_of, forced_logs, whole_logs, kind_of, is_of_kind}
use Rattle.law_found.specs.First.{FirstWorldIsExplained}
use Rattle.law_replay.proofs.Lists.{none-some, empty}
use Rattle.law_found.proofs.Logs.{quiet, none-stands, input-facts, tcom-facts}
use Rattle.law_replay.proofs.Firsts.{first-mirrors}

pub pcom-state : (program : Program) (c : ComId) → VolatileFacts program c (fresh_pcom program c) []
pcom-state program c = record {
  played = [];
  rest_stands = refl;
  mirrors = first-mirrors program c;
  rest_waits = tt;
  rest_forced = λ is. absurd (cc);
  inputs_forced = refl;
  held_at = λ x h. empty x h;
  shelved_at = λ x h. empty x h;
  received_at = λ x h. empty x h;
  ended_at = λ t n is. none-some (t, n) is;
  receipt_taken = λ x h. empty x h;
  stable_received = λ x h is. empty x h;
  installed_kept = λ x h may. empty x h;
  open_begun = λ is. absurd (cc);
  committing_forced = λ is now. absurd (cc);
}

tcom-state : (program : Program) (t : ComId) → TcomStateFacts program t (fresh_tcom program t) [] []
tcom-state program t = record {
  books = refl;
  sessions = λ s h. empty s h;
  one_session = λ r s h. empty r h;
  one_holder = λ r s key h. empty r h;
  declared = λ s key h. empty s h;
  own_numbers = λ r s h. empty r h;
  reply_counter = λ c n place session v x. empty _ x;
  reply_sitting = λ s c n place v h. empty s h;
  least_told = λ c. inl refl;
  decided_served = λ c n stamp e. none-some stamp e;
}

-- nodes -------------------------------------------------------------------------------------------

-- the node of the component in place j
node-is : (program : Program) (i : ℕ) (xs : List Component) (j : ℕ) → slice_get (first_nodes program i xs) j ≡ option_map (λ d. first_node program (record { 0 = i + j }) d.kind) (slice_get xs j)
node-is program i [] j = refl
node-is program i (x ∷ xs) zero = ap (λ k. Some (first_node program (record { 0 = k }) x.kind)) (plus i)
  where
    plus : (n : ℕ) → n ≡ n + 0
    plus n = omega arith
node-is program i (x ∷ xs) (suc j) = node-is program (i + 1) xs j ∙ ap (λ k. option_map (λ d. first_node program (record { 0 = k }) d.kind) (slice_get xs j)) (plus i j)
  where
    plus : (n m : ℕ) → (n + 1) + m ≡ n + suc m
    plus n m = omega arith

pub node-at : (program : Program) (c : ComId) → node_at (first_world program) c ≡ option_map (λ d. first_node program c d.kind) (slice_get program.components c.0)
node-at program c = node-is program 0 program.components c.0 ∙ ap (λ k. option_map (λ d. first_node program (record { 0 = k }) d.kind) (slice_get program.components c.0)) (plus c.0)
  where
    plus : (n : ℕ) → 0 + n ≡ n
    plus n = omega arith

-- every log is empty
empty-forced : (program : Program) (c : ComId) (k : Kind) → forced_of (first_node program c k) ≡ []
empty-forced program c kinds.Pcom = refl
empty-forced program c kinds.Tcom = refl
empty-forced program c kinds.Xcom = refl

empty-records : (program : Program) (c : ComId) (k : Kind) → records_of (first_node program c k) ≡ []
empty-records program c kinds.Pcom = refl
empty-records program c kinds.Tcom = refl
empty-records program c kinds.Xcom = refl

all-empty : (program : Program) (f : Node → List Record) → ((c : ComId) (k : Kind) → f (first_node program c k) ≡ []) → (i : ℕ) (xs : List Component) (j : ℕ) → unwrap_or (slice_get (map f (first_nodes program i xs)) j) [] ≡ []
all-empty program f e i [] j = refl
all-empty program f e i (x ∷ xs) zero = e (record { 0 = i }) x.kind
all-empty program f e i (x ∷ xs) (suc j) = all-empty program f e (i + 1) xs j

forced-empty : (program : Program) (c : ComId) → log_at (forced_logs (first_world program)) c ≡ []
forced-empty program c = all-empty program forced_of (empty-forced program) 0 program.components c.0

whole-empty : (program : Program) (c : ComId) → log_at (whole_logs (first_world program)) c ≡ []
whole-empty program c = all-empty program records_of (empty-records program) 0 program.components c.0

nodes-long : (program : Program) (f : Node → List Record) (i : ℕ) (xs : List Component) → length (map f (first_nodes program i xs)) ≡ length xs
nodes-long program f i [] = refl
nodes-long program f i (x ∷ xs) = ap suc (nodes-long program f (i + 1) xs)

found-empty : (c : ComId) → log_at [] c ≡ []
found-empty c = refl

first-logs : (program : Program) → LogsExplained program [] (forced_logs (first_world program)) (whole_logs (first_world program)) quiet
first-logs program = record {
  one_each = (nodes-long program forced_of 0 program.components, nodes-long program records_of 0 program.components);
  found_forced = λ c. ([], forced-empty program c);
  forced_all = λ c. ([], whole-empty program c ∙ ap (λ l. l ++ []) (sym (forced-empty program c)));
  pcoms = λ c is. subst (λ l. PcomLogFacts program c l (log_at (whole_logs (first_world program)) c) [] []) (sym (forced-empty program c)) (subst (λ l. PcomLogFacts program c [] l [] []) (sym (whole-empty program c)) (input-facts program c [] refl refl));
  tcoms = λ t is. (forced-empty program t ∙ sym (whole-empty program t), subst (λ l. TcomLogFacts program t 0 l [] []) (sym (whole-empty program t)) (tcom-facts program t));
  others = λ c a b. (whole-empty program c, refl);
  network = λ c p x. empty p x;
  in_order = record {
    own = λ t c n at d r b. empty at (subst (λ l. Contains (decisions_on l c n) at) (whole-empty program t) d);
    earlier = λ t u c n m at early d e lt. empty at (subst (λ l. Contains (decisions_on l c n) at) (whole-empty program t) d);
  };
  epochs_rise = λ c pre post stamp n x y st. none-stands pre post _ (sym (whole-empty program c) ∙ st);
}

first-kinds : (program : Program) (c : ComId) → is_of_kind (kind_of program c) (node_at (first_world program) c) ≡ true
first-kinds program c = ap (is_of_kind (kind_of program c)) (node-at program c) ∙ at (slice_get program.components c.0)
  where
    by : (k : Kind) → is_of_kind (Some k) (Some (first_node program c k)) ≡ true
    by kinds.Pcom = refl
    by kinds.Tcom = refl
    by kinds.Xcom = refl

    at : (o : Option Component) → is_of_kind (option_map (λ d. d.kind) o) (option_map (λ d. first_node program c d.kind) o) ≡ true
    at None = refl
    at (Some d) = by d.kind

first-pcoms : (program : Program) (c : ComId) → MatchOption (node_at (first_world program) c) ⊤ (IsMirrored program c [])
first-pcoms program c = subst (λ o. MatchOption o ⊤ (IsMirrored program c [])) (sym (node-at program c)) (at (slice_get program.components c.0))
  where
    by : (k : Kind) → IsMirrored program c [] (first_node program c k)
    by kinds.Pcom = pcom-state program c
    by kinds.Tcom = tt
    by kinds.Xcom = tt

    at : (o : Option Component) → MatchOption (option_map (λ d. first_node program c d.kind) o) ⊤ (IsMirrored program c [])
    at None = tt
    at (Some d) = by d.kind

first-tcoms : (program : Program) (t : ComId) → MatchOption (node_at (first_world program) t) ⊤ (IsServed program t [] [])
first-tcoms program t = subst (λ o. MatchOption o ⊤ (IsServed program t [] [])) (sym (node-at program t)) (at (slice_get program.components t.0))
  where
    by : (k : Kind) → IsServed program t [] [] (first_node program t k)
    by kinds.Pcom = tt
    by kinds.Tcom = tcom-state program t
    by kinds.Xcom = tt

    at : (o : Option Component) → MatchOption (option_map (λ d. first_node program t d.kind) o) ⊤ (IsServed program t [] [])
    at None = tt
    at (Some d) = by d.kind

first-showings : (program : Program) (c : ComId) → ShowingFacts [] [] [] 0 (first_hist program c) []
first-showings program c = record {
  top = 0;
  found_forced = zero-le 0;
  forced_all = zero-le 0;
  recorded_shown = zero-le 0;
  top_made = zero-le (length (first_plain program c).outs);
  here_recorded = zero-le 0;
  firsts_are = refl;
  each_made = λ o x. empty o x;
}
  where
    zero-le : (n : ℕ) → 0 ≤ n
    zero-le n = omega arith

pub first_world_is_explained : FirstWorldIsExplained
first_world_is_explained program playable = (
  quiet,
  record {
    kinds = first-kinds program;
    logs = first-logs program;
    pcoms = first-pcoms program;
    tcoms = first-tcoms program;
    packets = record {
      sent = λ p x. empty p x;
      numbered = λ i x. empty i x;
      epochs_rise = λ t c n place session x y h. empty _ h;
      one_owner = λ t c d n m i j session v w h. empty _ h;
      outcomes_answer = λ t c n place session d h. empty _ h;
    };
    showings = λ c is.
        subst (λ l. IsSomeAnd (state_after program c [] l) (λ h. ShowingFacts [] l (log_at (whole_logs (first_world program)) c) 0 h [])) (sym (forced-empty program c))
        (subst (λ l. ShowingFacts [] [] l 0 (first_hist program c) []) (sym (whole-empty program c)) (first-showings program c));
    shown_by = λ c o x. empty (c, o) x;
  },
)

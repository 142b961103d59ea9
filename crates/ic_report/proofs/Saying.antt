-- What stands behind a text.
use Rattle.std.proofs.Common.{◌≡◌, ℕ, ◌+◌, ◌<◌, min, ℤ, pos, List, [], ◌∷◌, ◌++◌, map, length, get_or, unwrap_or, drop, refl, sym, ap, ◌∙◌, append_assoc, inl, inr, arith, add-one, drop-cons}
use Rattle.std.specs.Prelude.{codes}
use Rattle.std.specs.Fmt.{signed_decimal}
use Rattle.std.specs.List.{slice_get}
use Rattle.std.proofs.lemmas.Bool.{cases_lt}
use Rattle.std.proofs.lemmas.List.{drop_all}
use Rattle.std.proofs.lemmas.Option.{unwrap_or-slice_get, same_Some, none-some}
use Rattle.std.specs.Prelude.{Some, None}
use Rattle.ic_base.specs.declared.messages.ComId.{ComId}
use Rattle.ic_base.specs.declared.events.Event.{Event}
use Rattle.ic_base.specs.declared.events.Trace.{Trace}
use Rattle.ic_base.specs.declared.events.What.{What}
use Rattle.ic_base.specs.declared.events.What.TheVariants as whats
use Rattle.ic_base.specs.declared.report.ReportLevel.{ReportLevel}
use Rattle.ic_base.specs.declared.report.ReportLevel.TheVariants as levels
use Rattle.def_report.specs.Lines.{trace_lines}
use Rattle.def_client.specs.Clients.{Plain, item_at, item_of, item_words, request_words, item_lines}
use Rattle.ic_base.specs.declared.events.Answer.{Answer}
use Rattle.ic_base.specs.declared.events.Answer.TheVariants as answers
use Rattle.ic_base.specs.declared.report.Stand.{Stand}
use Rattle.ic_base.specs.declared.scenario.Component.{Component}
use Rattle.ic_base.specs.declared.scenario.Program.{Program}
use Rattle.def_report.specs.Words.{spaced, line, answer_words, name_of, handler_of, stop_words}
use Rattle.def_report.specs.Summaries.{cell_words, stand_lines, plain_lines}
use Rattle.def_plain.specs.declared.world.PlainCom.{PlainCom}
use Rattle.def_run.specs.Audits.{values_in}
use Rattle.ic_report.specs.Said.{said}

-- two lists of words, one behind the other
pub said-append : (text : List ℕ) (a b : List (List ℕ)) → said text (a ++ b) ≡ said (said text a) b
said-append text [] b = refl
said-append text (w ∷ a) b = said-append (text ++ 32 ∷ w) a b

-- a first word with no blank before it
pub said-starts : (text w : List ℕ) (ws : List (List ℕ)) → said (text ++ w) ws ≡ text ++ spaced (w ∷ ws)
said-starts text w [] = refl
said-starts text w (v ∷ ws) =
    let front : (text ++ w) ++ 32 ∷ v ≡ (text ++ (w ++ 32 ∷ [])) ++ v = simp append_assoc in
    let back : (text ++ (w ++ 32 ∷ [])) ++ spaced (v ∷ ws) ≡ text ++ (w ++ (32 ∷ spaced (v ∷ ws))) = simp append_assoc in
    ap (λ t. said t ws) front ∙ said-starts (text ++ (w ++ 32 ∷ [])) v ws ∙ back

-- words of which there is a first, behind a text
pub said-first : (text w : List ℕ) (ws : List (List ℕ)) → said text (w ∷ ws) ≡ text ++ (32 ∷ spaced (w ∷ ws))
said-first text w ws =
    let front : text ++ 32 ∷ w ≡ (text ++ 32 ∷ []) ++ w = simp append_assoc in
    let back : (text ++ 32 ∷ []) ++ spaced (w ∷ ws) ≡ text ++ (32 ∷ spaced (w ∷ ws)) = simp append_assoc in
    ap (λ t. said t ws) front ∙ said-starts (text ++ 32 ∷ []) w ws ∙ back

-- a line by its first word and the others
pub said-line : (text w : List ℕ) (ws : List (List ℕ)) → said (text ++ w) ws ++ 10 ∷ [] ≡ text ++ line (w ∷ ws)
said-line text w ws = ap (λ t. t ++ 10 ∷ []) (said-starts text w ws) ∙ append_assoc text (spaced (w ∷ ws)) (10 ∷ [])

-- a line made of its first word, the others and an end
pub said-ends : (text start middle end w : List ℕ) (ws : List (List ℕ)) → start ≡ text ++ w → middle ≡ said start ws → end ≡ middle ++ 10 ∷ [] → end ≡ text ++ line (w ∷ ws)
said-ends text start middle end w ws first others last =
    last ∙ ap (λ t. t ++ 10 ∷ []) (others ∙ ap (λ t. said t ws) first) ∙ said-line text w ws

-- its words behind a first one, where the first stands with no blank
pub said-behind : (text t1 t2 w : List ℕ) (ws : List (List ℕ)) → t1 ≡ text ++ w → t2 ≡ said t1 ws → t2 ≡ text ++ spaced (w ∷ ws)
said-behind text t1 t2 w ws first words = words ∙ ap (λ t. said t ws) first ∙ said-starts text w ws

-- a line of an event: its number and words, a colon, and the words of its answer, of which there is a first
pub said-event : (text t2 t3 t4 end front : List ℕ) (a : List ℕ) (more : List (List ℕ)) →
    t2 ≡ text ++ front → t3 ≡ t2 ++ 58 ∷ [] → t4 ≡ said t3 (a ∷ more) → end ≡ t4 ++ 10 ∷ [] → end ≡ text ++ (front ++ codes ": " ++ line (a ∷ more))
said-event text t2 t3 t4 end front a more event colon answer last =
    let behind : t3 ≡ (text ++ front) ++ 58 ∷ [] = colon ∙ ap (λ t. t ++ 58 ∷ []) event in
    let answered : t4 ≡ ((text ++ front) ++ 58 ∷ []) ++ (32 ∷ spaced (a ∷ more)) = answer ∙ said-first t3 a more ∙ ap (λ t. t ++ (32 ∷ spaced (a ∷ more))) behind in
    last ∙ ap (λ t. t ++ 10 ∷ []) answered ∙ simp append_assoc

-- a line that tells of an item, likewise, with any words
pub said-note : (text t2 t3 t4 end front : List ℕ) (ws : List (List ℕ)) → t2 ≡ text ++ front → t3 ≡ t2 ++ codes ": " → t4 ≡ t3 ++ spaced ws → end ≡ t4 ++ 10 ∷ [] → end ≡ text ++ (front ++ codes ": " ++ line ws)
said-note text t2 t3 t4 end front ws first colon words last =
    last ∙ ap (λ t. t ++ 10 ∷ []) (words ∙ ap (λ t. t ++ spaced ws) (colon ∙ ap (λ t. t ++ codes ": ") first)) ∙ simp append_assoc

-- some words behind a text, and then others
pub said-joined : (text middle end : List ℕ) (a b : List (List ℕ)) → middle ≡ said text a → end ≡ said middle b → end ≡ said text (a ++ b)
said-joined text middle end a b first second = second ∙ ap (λ t. said t b) first ∙ sym (said-append text a b)

-- the value at a place behind a text, and then the later ones
pub said-value : (text next : List ℕ) (vs : List ℤ) (i : ℕ) (v : ℤ) → i < length vs → v ≡ unwrap_or (slice_get vs i) (pos 0) → next ≡ text ++ 32 ∷ signed_decimal v →
    said next (map signed_decimal (drop (i + 1) vs)) ≡ said text (map signed_decimal (drop i vs))
said-value text next vs i v h is behind =
    let there : v ≡ get_or vs i (pos 0) = is ∙ unwrap_or-slice_get vs i (pos 0) in
    let e : drop i vs ≡ v ∷ drop (i + 1) vs = rw (add-one, there) (drop-cons vs i (pos 0) h) in
    ap (λ t. said t (map signed_decimal (drop (i + 1) vs))) behind ∙ sym (ap (λ l. said text (map signed_decimal l)) e)

-- an answer has a first word
pub answer-first : (p : Program) (answer : Answer) → (a : List ℕ) × (more : List (List ℕ)) × (answer_words p answer ≡ a ∷ more)
answer-first p answers.Taken = (_, _, refl)
answer-first p answers.Kept = (_, _, refl)
answer-first p answers.Lost = (_, _, refl)
answer-first p answers.MissedDown = (_, _, refl)
answer-first p answers.MissedReplaying = (_, _, refl)
answer-first p answers.MissedBusy = (_, _, refl)
answer-first p answers.Empty = (_, _, refl)
answer-first p answers.Unknown = (_, _, refl)
answer-first p (answers.Packet number packet fate) = (_, _, refl)
answer-first p answers.Down = (_, _, refl)
answer-first p answers.Replaying = (_, _, refl)
answer-first p answers.Busy = (_, _, refl)
answer-first p answers.Idle = (_, _, refl)
answer-first p answers.Stopped = (_, _, refl)
answer-first p answers.Ended = (_, _, refl)
answer-first p answers.Already = (_, _, refl)
answer-first p answers.Up = (_, _, refl)

-- with no values there are no words of cells, and with no stands no lines of them
no-values : (cells : List (List ℕ × ℤ)) → cell_words cells [] ≡ []
no-values [] = refl
no-values (x ∷ xs) = refl

no-stands : (cs : List Component) → stand_lines cs [] ≡ []
no-stands [] = refl
no-stands (c ∷ cs) = refl

-- past the end of one of two lists there is nothing to say of both
pub cells-end : (cells : List (List ℕ × ℤ)) (vs : List ℤ) (n : ℕ) → n ≡ min (length cells) (length vs) → cell_words (drop n cells) (drop n vs) ≡ []
cells-end cells vs n e = elim (cases_lt n (length cells)) [
  | inl more ↦ rw (drop_all n vs (omega arith)) (no-values (drop n cells))
  | inr over ↦ rw (drop_all n cells over)
]

pub stands-end : (cs : List Component) (ss : List Stand) (n : ℕ) → n ≡ min (length cs) (length ss) → stand_lines (drop n cs) (drop n ss) ≡ []
stands-end cs ss n e = elim (cases_lt n (length cs)) [
  | inl more ↦ rw (drop_all n ss (omega arith)) (no-stands (drop n cs))
  | inr over ↦ rw (drop_all n cs over)
]

no-worlds : (cs : List Component) → plain_lines cs [] ≡ []
no-worlds [] = refl
no-worlds (c ∷ cs) = refl

pub plains-end : (cs : List Component) (w : List PlainCom) (n : ℕ) → n ≡ min (length cs) (length w) → plain_lines (drop n cs) (map values_in (drop n w)) ≡ []
plains-end cs w n e = elim (cases_lt n (length cs)) [
  | inl more ↦ rw (drop_all n w (omega arith)) (no-worlds (drop n cs))
  | inr over ↦ rw (drop_all n cs over)
]

-- the words of a request with two values or more, and of one with fewer
pub request-said : (p : Program) (c : ComId) (handler : ℕ) (args : List ℤ) (u q : ℤ) → slice_get args 0 ≡ Some u → slice_get args 1 ≡ Some q →
    request_words p (record { who = c; handler = handler; args = args }) args ≡ codes "client" ∷ signed_decimal u ∷ signed_decimal q ∷ name_of p c ∷ handler_of p c handler ∷ map signed_decimal (drop 2 args)
request-said p c handler [] u q first second = absurd (none-some u first)
request-said p c handler (x ∷ []) u q first second = absurd (none-some q second)
request-said p c handler (x ∷ y ∷ rest) u q first second =
    ap (λ z. codes "client" ∷ signed_decimal z ∷ signed_decimal y ∷ name_of p c ∷ handler_of p c handler ∷ map signed_decimal rest) (same_Some x u first)
    ∙ ap (λ z. codes "client" ∷ signed_decimal u ∷ signed_decimal z ∷ name_of p c ∷ handler_of p c handler ∷ map signed_decimal rest) (same_Some y q second)

pub no-client : (p : Program) (c : ComId) (handler : ℕ) (args : List ℤ) → slice_get args 0 ≡ None → request_words p (record { who = c; handler = handler; args = args }) args ≡ []
no-client p c handler [] none = refl
no-client p c handler (x ∷ xs) none = absurd (none-some x (sym none))

pub no-request : (p : Program) (c : ComId) (handler : ℕ) (args : List ℤ) → slice_get args 1 ≡ None → request_words p (record { who = c; handler = handler; args = args }) args ≡ []
no-request p c handler [] none = refl
no-request p c handler (x ∷ []) none = refl
no-request p c handler (x ∷ y ∷ rest) none = absurd (none-some y (sym none))

-- the words of an input's item
pub item-said : (p : Program) (e : Event) (c : ComId) (handler : ℕ) (args : List ℤ) → e.what ≡ whats.Input c handler args → request_words p (record { who = c; handler = handler; args = args }) args ++ stop_words e.stop ≡ item_words p (item_of e)
item-said p e c handler args is = ap (λ (w : What). item_words p (item_at w e)) (sym is)

-- the lines of an event in its own form
pub event-lines : (p : Program) (level : ReportLevel) (number : ℕ) (t : Trace) → item_lines p level number (Plain t.event) t ≡ trace_lines p number t level
event-lines p levels.Full number t = refl
event-lines p levels.Brief number t = refl
event-lines p levels.Summary number t = refl

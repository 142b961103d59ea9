-- The facts of a live run and of a world's packets.
use Rattle.std.proofs.Common.{◌≡◌, ◌≢◌, refl, ◌∙◌, ap, sym, subst, ℕ, ◌<◌, ◌≤◌, List, [], ◌∷◌, ◌++◌, Some, arith, ◌⊎◌, inl, inr}
use Rattle.std.specs.Prelude.{Contains}
use Rattle.std.proofs.lemmas.List.{append_assoc, append-nil}
use Rattle.std.proofs.lemmas.List.Elements.{Contains-append_left, Contains-append_right, Contains-append_cases}
use Rattle.std.proofs.lemmas.Option.{same_Some}
use Rattle.ic_base.specs.declared.messages.ComId.{ComId}
use Rattle.ic_base.specs.declared.messages.Session.{Session}
use Rattle.ic_base.specs.declared.messages.AbortCause.TheVariants.{Epoch as Epochs}
use Rattle.ic_base.specs.declared.messages.Decision.TheVariants.{Aborted}
use Rattle.ic_base.specs.declared.messages.Packet.{Packet}
use Rattle.ic_base.specs.declared.messages.Packet.TheVariants.{Op, OpReply, Commit, Outcome}
use Rattle.ic_base.specs.declared.record.Record.TheVariants.{Decided}
use Rattle.def_step.specs.Packets.{receiver_of}
use Rattle.def_step.specs.Tcom.{tcom_step, fresh_tcom}
use Rattle.def_facts.specs.Logs.{epoch_of}
use Rattle.def_facts.specs.Tcom.{TcomStateFacts}
use Rattle.def_facts.specs.World.{HasRequest, HasCommit}
use Rattle.def_facts.specs.Live.{HasReply, LiveTcomFacts}
use Rattle.law_tcom.specs.Engine.{Asks, after_all}
use Rattle.law_tcom.specs.Live.{NewAbortsRise, StepsKeepLive, RecoveriesKeepLive, StepsKeepAnswering, FirstFactsHold, RunsKeepFacts, puts_by}
use Rattle.law_tcom.proofs.Books.{books_are_of_logs}
use Rattle.law_tcom.proofs.Recovering.{steps_keep_states, steps_keep_logs, recoveries_keep_logs}
use Rattle.law_tcom.proofs.Rights.{puts_are_right}
use Rattle.law_tcom.proofs.Engines.{started, steps_keep_owners}
use Rattle.law_replay.proofs.Lists.{empty, in-head, in-tail}

-- an item of two lists together stands in the first, or in the second with what is before it
split-of : {A : Type 0} (xs ys pre post : List A) (o : A) → xs ++ ys ≡ pre ++ o ∷ post → ((more : List A) × (xs ≡ pre ++ o ∷ more)) ⊎ ((before : List A) × (pre ≡ xs ++ before) × (ys ≡ before ++ o ∷ post))
split-of [] ys pre post o e = inr (pre, refl, e)
split-of {A} (x ∷ xs) ys [] post o e = inl (xs, ap (λ z. z ∷ xs) (ap first e))
  where
    first : List A → A
    first [] = o
    first (z ∷ zs) = z
split-of {A} (x ∷ xs) ys (y ∷ pre) post o e = by (split-of xs ys pre post o (ap rest e))
  where
    first : List A → A
    first [] = o
    first (z ∷ zs) = z

    rest : List A → List A
    rest [] = []
    rest (z ∷ zs) = zs

    by : ((more : List A) × (xs ≡ pre ++ o ∷ more)) ⊎ ((before : List A) × (pre ≡ xs ++ before) × (ys ≡ before ++ o ∷ post)) → ((more : List A) × (x ∷ xs ≡ y ∷ (pre ++ o ∷ more))) ⊎ ((before : List A) × (y ∷ pre ≡ x ∷ (xs ++ before)) × (ys ≡ before ++ o ∷ post))
    by (inl z) = inl (z.0, ap (λ l. x ∷ l) z.1 ∙ ap (λ v. v ∷ (pre ++ o ∷ z.0)) (ap first e))
    by (inr z) = inr (z.0, ap (λ l. y ∷ l) z.1 ∙ ap (λ v. v ∷ (xs ++ z.0)) (sym (ap first e)), z.2)

in-middle : {A : Type 0} (xs ys : List A) (o : A) → Contains (xs ++ o ∷ ys) o
in-middle xs ys o = Contains-append_right xs (o ∷ ys) o (in-head o ys)

pub new_aborts_rise : NewAbortsRise
new_aborts_rise program t old x sent received p c n place session a b here within f g h reply =
    let state = steps_keep_states program t x sent received p here f in
    let log = steps_keep_logs program t old x sent received p here within f g in
    let right = puts_are_right program t x sent received p (Outcome t c n place (Some session) (Aborted (Epochs a b))) f h in
    let is = log.aborts_are c n place (Some session) (Epochs a b) (Contains-append_right sent (tcom_step program t x p).puts (Outcome t c n place (Some session) (Aborted (Epochs a b))) h) in
    let low = log.reply_epoch c n reply.0 session reply.1 reply.2 in
    below a b session.epoch (tcom_step program t x p).tcom.book.epoch (epoch_of (tcom_step program t x p).tcom.records)
    (is.2 ∙ ap (λ (s : Session). s.epoch) (sym (same_Some session is.0 is.1))) right.2.4 right.2.3 low (books_are_of_logs program t (tcom_step program t x p).tcom.records (tcom_step program t x p).tcom.book state.books).epoch
  where
    below : (a b e now top : ℕ) → a ≡ e → a ≢ b → b ≡ now → e ≤ top → now ≡ top → a < b
    below a b e now top p q r s u = omega (arith, p, q, r, s, u)

pub steps_keep_live : StepsKeepLive
steps_keep_live program t x sent received p here f g = record {
  logs = steps_keep_logs program t 0 x sent received p here (omega arith) f g.logs;
  aborts_rise = λ pre post c n place session a b e reply.
      rises pre post c n place session a b reply (split-of sent (tcom_step program t x p).puts pre post (Outcome t c n place (Some session) (Aborted (Epochs a b))) e);
  one_owner = steps_keep_owners program t x sent received sent p here f (λ q h. h) g.one_owner;
}
  where
    rises : (pre post : List Packet) (c : ComId) (n place : ℕ) (session : Session) (a b : ℕ) → HasReply pre t c n session →
        ((more : List Packet) × (sent ≡ pre ++ Outcome t c n place (Some session) (Aborted (Epochs a b)) ∷ more))
        ⊎ ((before : List Packet) × (pre ≡ sent ++ before) × ((tcom_step program t x p).puts ≡ before ++ Outcome t c n place (Some session) (Aborted (Epochs a b)) ∷ post)) → a < b
    rises pre post c n place session a b reply (inl z) = g.aborts_rise pre z.0 c n place session a b z.1 reply
    rises pre post c n place session a b reply (inr z) =
        let o = Outcome t c n place (Some session) (Aborted (Epochs a b)) in
        new_aborts_rise program t 0 x sent received p c n place session a b here (omega arith) f g.logs (subst (λ l. Contains l o) (sym z.2) (in-middle z.0 post o))
        (reply.0, reply.1, among (OpReply t c n reply.0 session reply.1) (Contains-append_cases sent z.0 (OpReply t c n reply.0 session reply.1) (subst (λ l. Contains l (OpReply t c n reply.0 session reply.1)) z.1 reply.2)))
      where
        among : (q : Packet) → Contains sent q ⊎ Contains z.0 q → Contains (sent ++ (tcom_step program t x p).puts) q
        among q (inl h) = Contains-append_left sent (tcom_step program t x p).puts q h
        among q (inr h) =
            Contains-append_right sent (tcom_step program t x p).puts q (subst (λ l. Contains l q) (sym z.2) (Contains-append_left z.0 (Outcome t c n place (Some session) (Aborted (Epochs a b)) ∷ post) q h))

pub recoveries_keep_live : RecoveriesKeepLive
recoveries_keep_live program t size log x sent received e g = record {
  logs = recoveries_keep_logs program t 0 size log x sent received e (omega arith) g.logs;
  aborts_rise = g.aborts_rise;
  one_owner = g.one_owner;
}

pub steps_keep_answering : StepsKeepAnswering
steps_keep_answering program t x sent received packets p here f there was u c n place session d h = at (Contains-append_cases packets (tcom_step program t x p).puts (Outcome u c n place session d) h)
  where
    all : List Packet
    all = packets ++ (tcom_step program t x p).puts

    more : (q : Packet) → Contains packets q → Contains (packets ++ (tcom_step program t x p).puts) q
    more q k = Contains-append_left packets (tcom_step program t x p).puts q k

    old : HasRequest packets c u n place session ⊎ HasCommit packets c u n place session → HasRequest (packets ++ (tcom_step program t x p).puts) c u n place session ⊎ HasCommit (packets ++ (tcom_step program t x p).puts) c u n place session
    old (inl z) = inl (z.0, more (Op c u n place session z.0) z.1)
    old (inr z) = inr (z.0, z.1, z.2, more (Commit c u n place z.0 z.1) z.3)

    new : u ≡ t → Asks p c n place session → HasRequest (packets ++ (tcom_step program t x p).puts) c u n place session ⊎ HasCommit (packets ++ (tcom_step program t x p).puts) c u n place session
    new own (inl z) =
        let to : z.0 ≡ u = ap receiver_of (sym z.2) ∙ here ∙ sym own in
        inl (z.1, subst (λ w. Contains (packets ++ (tcom_step program t x p).puts) (Op c w n place session z.1)) to (subst (Contains (packets ++ (tcom_step program t x p).puts)) z.2 (more p there)))
    new own (inr z) =
        let to : z.0 ≡ u = ap receiver_of (sym z.4) ∙ here ∙ sym own in
        inr (z.1, z.2, z.3, subst (λ w. Contains (packets ++ (tcom_step program t x p).puts) (Commit c w n place z.1 z.2)) to (subst (Contains (packets ++ (tcom_step program t x p).puts)) z.4 (more p there)))

    at : Contains packets (Outcome u c n place session d) ⊎ Contains (tcom_step program t x p).puts (Outcome u c n place session d) → HasRequest (packets ++ (tcom_step program t x p).puts) c u n place session ⊎ HasCommit (packets ++ (tcom_step program t x p).puts) c u n place session
    at (inl k) = old (was u c n place session d k)
    at (inr k) = let r = puts_are_right program t x sent received p (Outcome u c n place session d) f k in new r.0 r.1

-- the start and the whole run ---------------------------------------------------------------------

none-stands : {A B : Type 0} (pre post : List A) (r : A) → [] ≡ pre ++ r ∷ post → B
none-stands [] post r e = absurd (cc)
none-stands (x ∷ pre) post r e = absurd (cc)

pub first_facts_hold : FirstFactsHold
first_facts_hold program t = (
  started program t (fresh_tcom program t) [] (refl, refl, refl) (λ v h. empty v h),
  record {
    logs = record {
      reads = refl;
      reply_epoch = λ c n place session v x. empty (OpReply t c n place session v) x;
      reply_once = λ c n place session v w x. empty (OpReply t c n place session v) x;
      decisions = λ pre post stamp c n writes st. none-stands pre post (Decided stamp c n writes) st;
      commits_stand = λ c n place session stamp x. empty _ x;
      aborts_are = λ c n place session cause x. empty _ x;
      answers_only = λ p x. empty p x;
    };
    aborts_rise = λ pre post c n place session x y e. none-stands pre post (Outcome t c n place (Some session) (Aborted (Epochs x y))) e;
    one_owner = λ c d n m i j session v w x. empty (OpReply t c n i session v) x;
  },
)

pub runs_keep_facts : RunsKeepFacts
runs_keep_facts program t x sent received [] here f g = (
  subst (λ l. TcomStateFacts program t x l (received ++ [])) (sym (append-nil sent)) (subst (TcomStateFacts program t x sent) (sym (append-nil received)) f),
  subst (λ l. LiveTcomFacts program t x.records l (received ++ [])) (sym (append-nil sent)) (subst (LiveTcomFacts program t x.records sent) (sym (append-nil received)) g),
)
runs_keep_facts program t x sent received (p ∷ ps) here f g =
    let y = (tcom_step program t x p).tcom in
    let puts = (tcom_step program t x p).puts in
    let to = here p (in-head p ps) in
    let z = runs_keep_facts program t y (sent ++ puts) (received ++ p ∷ []) ps (λ q h. here q (in-tail p q ps h)) (steps_keep_states program t x sent received p to f) (steps_keep_live program t x sent received p to f g) in (
      subst (λ l. TcomStateFacts program t (after_all program t y ps) l (received ++ p ∷ ps)) (append_assoc sent puts (puts_by program t y ps)) (subst (TcomStateFacts program t (after_all program t y ps) ((sent ++ puts) ++ puts_by program t y ps)) (append_assoc received (p ∷ []) ps) z.0),
      subst (λ l. LiveTcomFacts program t (after_all program t y ps).records l (received ++ p ∷ ps)) (append_assoc sent puts (puts_by program t y ps)) (subst (LiveTcomFacts program t (after_all program t y ps).records ((sent ++ puts) ++ puts_by program t y ps)) (append_assoc received (p ∷ []) ps) z.1),
    )

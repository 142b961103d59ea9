-- What a front keeps.
use Rattle.std.proofs.Common.{◌≡◌, ◌∙◌, refl, ap, sym, Bool, true, false, cond, ◌&&◌, ◌||◌, List, [], ◌∷◌, ◌++◌, ℕ, ℤ, Option, Some, None, option_to_list, is_none}
use Rattle.std.specs.Prelude.{find, fold}
use Rattle.std.specs.List.{list_any, cons_option}
use Rattle.std.proofs.lemmas.List.{append-nil}
use Rattle.std.proofs.lemmas.List.Folds.{list_any-append}
use Rattle.ic_base.specs.declared.messages.ComId.{ComId}
use Rattle.ic_base.specs.declared.messages.Output.{Output}
use Rattle.ic_base.specs.declared.events.What.{What}
use Rattle.ic_base.specs.declared.events.What.TheVariants.{Input, Deliver, Lose, Packet as Numbered, Force, Checkpoint, Resend, Emit, Crash, Recover}
use Rattle.ic_base.specs.declared.events.Trace.{Trace}
use Rattle.def_run.specs.CrashFree.{is_received}
use Rattle.def_run.specs.Executions.{is_input}
use Rattle.def_client.specs.declared.asked.Asked.TheVariants.{New, Differs}
use Rattle.def_client.specs.Fronts.{Request, Given, Taken, Front, replied, is_same, same_numbers, is_numbered, is_under, taken_under, asked_of, ask, takes, replies_to, shows, saw_event, saw_showing, saw}
use Rattle.def_client.specs.Promises.{AreApart}
use Rattle.def_client.specs.Rebuilding.{own, requests_of}
use Rattle.law_client.proofs.Quiet.{AreQuiet}
use Rattle.ic_base.specs.Programs.{same_com}

-- a showing keeps them
same-own : (c d : ComId) (o : Output) (t : Taken) → own c (replies_to d o t) ≡ own c t
same-own c d o t = at (is_under d o.args t.request && is_none t.reply)
  where
    at : (b : Bool) → own c (cond b (record t { reply = Some (o.m, o.args) }) t) ≡ own c t
    at true = refl
    at false = refl

pub shows-keeps : (c d : ComId) (o : Output) (front : Front) → requests_of c (shows d o front) ≡ requests_of c front
shows-keeps c d o [] = refl
shows-keeps c d o (t ∷ ts) = ap (λ u. cons_option u (requests_of c (shows d o ts))) (same-own c d o t) ∙ ap (cons_option (own c t)) (shows-keeps c d o ts)

pub showing-keeps : (c : ComId) (what : What) (shown : Option (Output × Bool)) (front : Front) → requests_of c (saw_showing what shown front) ≡ requests_of c front
showing-keeps c (Emit d) (Some x) front = shows-keeps c d x.0 front
showing-keeps c (Emit d) None front = refl
showing-keeps c (Input d h xs) o front = refl
showing-keeps c (Deliver d e) o front = refl
showing-keeps c (Lose d e) o front = refl
showing-keeps c (Numbered i) o front = refl
showing-keeps c (Force d) o front = refl
showing-keeps c (Checkpoint d) o front = refl
showing-keeps c (Resend d) o front = refl
showing-keeps c (Crash d) o front = refl
showing-keeps c (Recover d) o front = refl

event-quiet : (what : What) (received : Bool) (front : Front) → is_input what ≡ false → saw_event what received front ≡ front
event-quiet (Input d h xs) r front e = absurd (cc e)
event-quiet (Deliver d e) r front f = refl
event-quiet (Lose d e) r front f = refl
event-quiet (Numbered i) r front f = refl
event-quiet (Force d) r front f = refl
event-quiet (Checkpoint d) r front f = refl
event-quiet (Resend d) r front f = refl
event-quiet (Emit d) r front f = refl
event-quiet (Crash d) r front f = refl
event-quiet (Recover d) r front f = refl

pub quiet-keeps : (c : ComId) (ts : List Trace) (front : Front) → AreQuiet ts → requests_of c (fold saw front ts) ≡ requests_of c front
quiet-keeps c [] front q = refl
quiet-keeps c (t ∷ ts) front q =
    quiet-keeps c ts (saw front t) q.1 ∙ showing-keeps c t.event.what t.shown (saw_event t.event.what (is_received t.answer) front) ∙ ap (requests_of c) (event-quiet t.event.what (is_received t.answer) front q.0)

-- a request that is taken stands last
cons-more : (o : Option Given) (xs ys zs : List Given) → xs ≡ ys ++ zs → cons_option o xs ≡ cons_option o ys ++ zs
cons-more None xs ys zs e = e
cons-more (Some x) xs ys zs e = ap (λ l. x ∷ l) e

to-list : (o : Option Given) → cons_option o [] ≡ option_to_list o
to-list None = refl
to-list (Some x) = refl

pub push-own : (c : ComId) (front : Front) (t : Taken) → requests_of c (front ++ t ∷ []) ≡ requests_of c front ++ option_to_list (own c t)
push-own c [] t = to-list (own c t)
push-own c (u ∷ us) t = cons-more (own c u) (requests_of c (us ++ t ∷ [])) (requests_of c us) (option_to_list (own c t)) (push-own c us t)

abbrev pub given : ℕ → List ℤ → Given
given handler args = (handler, args)

pub taken-own : (c d : ComId) (handler : ℕ) (args : List ℤ) (received : Bool) (front : Front) → is_numbered args ≡ true →
    requests_of c (saw_event (Input d handler args) received front) ≡ requests_of c front ++ option_to_list (cond (same_com c d && received) (Some (given handler args)) None)
taken-own c d handler args received front numbered = at received
  where
    t : Taken
    t = record { request = record { who = d; handler = handler; args = args }; reply = None }

    by : (b : Bool) → option_to_list (cond b (Some (given handler args)) None) ≡ option_to_list (cond (b && true) (Some (given handler args)) None)
    by true = refl
    by false = refl

    nothing : (b : Bool) → [] ≡ option_to_list (cond (b && false) (Some (given handler args)) None)
    nothing true = refl
    nothing false = refl

    at : (received : Bool) → requests_of c (cond received (takes t.request front) front) ≡ requests_of c front ++ option_to_list (cond (same_com c d && received) (Some (given handler args)) None)
    at true = ap (λ b. requests_of c (cond b (front ++ t ∷ []) front)) numbered ∙ push-own c front t ∙ ap (λ l. requests_of c front ++ l) (by (same_com c d))
    at false = sym (append-nil (requests_of c front)) ∙ ap (λ l. requests_of c front ++ l) (nothing (same_com c d))

-- behind an input's trace the front has what was received
pub input-keeps : (c d : ComId) (handler : ℕ) (args : List ℤ) (t : Trace) (front : Front) → t.event.what ≡ Input d handler args → is_numbered args ≡ true →
    requests_of c (saw front t) ≡ requests_of c front ++ option_to_list (cond (same_com c d && is_received t.answer) (Some (given handler args)) None)
input-keeps c d handler args t front is numbered =
    showing-keeps c t.event.what t.shown (saw_event t.event.what (is_received t.answer) front)
    ∙ ap (λ what. requests_of c (saw_event what (is_received t.answer) front)) is
    ∙ taken-own c d handler args (is_received t.answer) front numbered

-- where a request is new no other of its numbers stands --------------------------------------------

pub new-is-none : (o : Option Taken) (r : Request) → asked_of o r ≡ New → o ≡ None
new-is-none None r e = refl
new-is-none (Some t) r e = absurd (never (is_same r t.request) t.reply e)
  where
    never : (b : Bool) (reply : Option (ℕ × List ℤ)) → cond b (replied reply) Differs ≡ New → ⊥
    never true None e = cc e
    never true (Some x) e = cc e
    never false reply e = cc e

-- an input of these numbers is among those
abbrev pub has_one : List ℤ → List Given → Bool
has_one args inputs = list_any (λ x. same_numbers args x.1) inputs

pub none-found : (c : ComId) (args : List ℤ) (front : Front) → taken_under front c args ≡ None → has_one args (requests_of c front) ≡ false
none-found c args [] e = refl
none-found c args (t ∷ ts) e = at (same_com c t.request.who) (same_numbers args t.request.args) refl (none-found c args ts) e
  where
    at : (b d : Bool) → same_numbers args t.request.args ≡ d → (find (λ u. is_under c args u.request) ts ≡ None → has_one args (requests_of c ts) ≡ false) → cond (b && d) (Some t) (find (λ u. is_under c args u.request) ts) ≡ None →
        list_any (λ (x : Given). same_numbers args x.1) (cons_option (cond b (Some (given t.request.handler t.request.args)) None) (requests_of c ts)) ≡ false
    at true true q f e = absurd (cc e)
    at true false q f e = ap (λ z. z || has_one args (requests_of c ts)) q ∙ f e
    at false true q f e = f e
    at false false q f e = f e

pub new-has-none : (front : Front) (r : Request) → ask front r ≡ New → has_one r.args (requests_of r.who front) ≡ false
new-has-none front r e = none-found r.who r.args front (new-is-none (taken_under front r.who r.args) r e)

both-false : (a b : Bool) → (a || b) ≡ false → (a ≡ false) × (b ≡ false)
both-false true b e = absurd (cc e)
both-false false b e = (refl, e)

-- inputs that are apart, with one more that none of them has the numbers of
pub apart-push : (xs : List Given) (n : Given) → AreApart xs → has_one n.1 xs ≡ false → AreApart (xs ++ n ∷ [])
apart-push [] n a e = (refl, tt)
apart-push (x ∷ xs) n a e =
    let f = both-false (same_numbers n.1 x.1) (has_one n.1 xs) e in
    (list_any-append (λ (y : Given). same_numbers y.1 x.1) xs (n ∷ []) ∙ ap (λ z. z || (same_numbers n.1 x.1 || false)) a.0 ∙ ap (λ z. z || false) f.0, apart-push xs n a.1 f.1)

-- A front that keeps the first request of each number stays alike to one that keeps all of them.
use Rattle.std.proofs.Common.{◌≡◌, ◌∙◌, ap, sym, refl, subst, ℤ, Bool, true, false, cond, List, [], ◌∷◌, ◌++◌, Option, None, Some, option_map, is_some}
use Rattle.std.specs.Prelude.{◌==◌, ◌&&◌, is_none}
use Rattle.std.specs.Cmp.{signed_Decides, unsigned_Decides}
use Rattle.std.specs.Ordering.{int_eq}
use Rattle.std.proofs.lemmas.Bool.{and_parts}
use Rattle.ic_base.specs.declared.messages.ComId.{ComId}
use Rattle.ic_base.specs.declared.messages.Output.{Output}
use Rattle.ic_base.specs.declared.events.What.{What}
use Rattle.ic_base.specs.declared.events.What.TheVariants as whats
use Rattle.ic_base.specs.declared.events.Trace.{Trace}
use Rattle.ic_base.specs.Programs.{same_com}
use Rattle.def_run.specs.CrashFree.{is_received}
use Rattle.def_client.specs.Fronts.{Request, Taken, Front, same_numbers, is_numbered, is_under, taken_under, takes, replies_to, shows, saw_event, saw_showing, saw}
use Rattle.ic_client.specs.Seeing.{TakenAlike, takes_first, saw_first_event, saw_first, IsSeen}

-- who is taken under what -----------------------------------------------------------------------------

abbrev first_of : Option Taken → Option Taken → Option Taken
first_of None o = o
first_of (Some t) o = Some t

abbrev alone : ComId → List ℤ → Taken → Option Taken
alone c args t = cond (is_under c args t.request) (Some t) None

under-one : (front : Front) (t : Taken) (c : ComId) (args : List ℤ) → taken_under (front ++ t ∷ []) c args ≡ first_of (taken_under front c args) (alone c args t)
under-one [] t c args = refl
under-one (u ∷ us) t c args = at (is_under c args u.request) (under-one us t c args)
  where
    at : (b : Bool) → taken_under (us ++ t ∷ []) c args ≡ first_of (taken_under us c args) (alone c args t) → cond b (Some u) (taken_under (us ++ t ∷ []) c args) ≡ first_of (cond b (Some u) (taken_under us c args)) (alone c args t)
    at true more = refl
    at false more = more

same-with : (xs ys zs : List ℤ) → same_numbers xs ys ≡ true → same_numbers xs zs ≡ same_numbers ys zs
same-with [] ys zs e = absurd (cc e)
same-with (u ∷ []) ys zs e = absurd (cc e)
same-with (u ∷ q ∷ us) [] zs e = absurd (cc e)
same-with (u ∷ q ∷ us) (v ∷ []) zs e = absurd (cc e)
same-with (u ∷ q ∷ us) (v ∷ r ∷ vs) zs e =
    let p = and_parts (int_eq u v) (int_eq q r) e in
    let first : u ≡ v = (signed_Decides u v).0 p.0 in
    let second : q ≡ r = (signed_Decides q r).0 p.1 in
    at zs first second
  where
    at : (zs : List ℤ) → u ≡ v → q ≡ r → same_numbers (u ∷ q ∷ us) zs ≡ same_numbers (v ∷ r ∷ vs) zs
    at [] f s = refl
    at (w ∷ []) f s = refl
    at (w ∷ x ∷ ws) f s = ap (λ n. int_eq n w && int_eq q x) f ∙ ap (λ n. int_eq v w && int_eq n x) s

same-under : (c : ComId) (args : List ℤ) (r q : Request) → is_under c args r ≡ true → is_under c args q ≡ is_under r.who r.args q
same-under c args r q e =
    let p = and_parts (same_com c r.who) (same_numbers args r.args) e in
    let who : c.0 ≡ r.who.0 = (unsigned_Decides c.0 r.who.0).0 p.0 in
    ap (λ n. (n == q.who.0) && same_numbers args q.args) who ∙ ap (λ b. same_com r.who q.who && b) (same-with args r.args q.args p.1)

same-taken : (front : Front) (c : ComId) (args : List ℤ) (r : Request) → is_under c args r ≡ true → taken_under front c args ≡ taken_under front r.who r.args
same-taken [] c args r e = refl
same-taken (t ∷ ts) c args r e =
    ap (λ b. cond b (Some t) (taken_under ts c args)) (same-under c args r t.request e)
    ∙ ap (λ o. cond (is_under r.who r.args t.request) (Some t) o) (same-taken ts c args r e)

-- a request is taken ------------------------------------------------------------------------------------

abbrev pub new_one : Request → Taken
new_one r = record { request = r; reply = None }

-- where one is taken under its numbers, another one behind it is never found
hidden : (front : Front) (r : Request) (t : Taken) (c : ComId) (args : List ℤ) → taken_under front r.who r.args ≡ Some t → taken_under front c args ≡ taken_under (front ++ new_one r ∷ []) c args
hidden front r t c args there = at (is_under c args r) refl ∙ sym (under-one front (new_one r) c args)
  where
    some : (o : Option Taken) (x : Taken) → o ≡ Some x → (p : Option Taken) → o ≡ first_of o p
    some None x e p = absurd (cc e)
    some (Some y) x e p = refl

    none : (o : Option Taken) → o ≡ first_of o None
    none None = refl
    none (Some y) = refl

    at : (b : Bool) → is_under c args r ≡ b → taken_under front c args ≡ first_of (taken_under front c args) (cond b (Some (new_one r)) None)
    at true e = some (taken_under front c args) t (same-taken front c args r e ∙ there) (Some (new_one r))
    at false e = none (taken_under front c args)

pub takes-alike : (front other : Front) (r : Request) → TakenAlike front other → TakenAlike (takes_first r front) (takes r other)
takes-alike front other r h c args = numbered (is_numbered r.args)
  where
    either : (b : Bool) → taken_under (cond b front front) c args ≡ taken_under other c args
    either true = h c args
    either false = h c args

    more : (o : Option Taken) → taken_under front r.who r.args ≡ o → taken_under (cond (is_some o) front (front ++ new_one r ∷ [])) c args ≡ taken_under (other ++ new_one r ∷ []) c args
    more None e = under-one front (new_one r) c args ∙ ap (λ o. first_of o (alone c args (new_one r))) (h c args) ∙ sym (under-one other (new_one r) c args)
    more (Some t) e = h c args ∙ hidden other r t c args (sym (h r.who r.args) ∙ e)

    numbered : (b : Bool) → taken_under (cond (is_some (taken_under front r.who r.args)) front (cond b (front ++ new_one r ∷ []) front)) c args ≡ taken_under (cond b (other ++ new_one r ∷ []) other) c args
    numbered true = more (taken_under front r.who r.args) refl
    numbered false = either (is_some (taken_under front r.who r.args))

-- an output is shown ------------------------------------------------------------------------------------

pub same-request : (c : ComId) (o : Output) (t : Taken) → (replies_to c o t).request ≡ t.request
same-request c o t = at (is_under c o.args t.request && is_none t.reply)
  where
    at : (b : Bool) → (cond b (record t { reply = Some (o.m, o.args) }) t).request ≡ t.request
    at true = refl
    at false = refl

under-shows : (front : Front) (c : ComId) (o : Output) (d : ComId) (args : List ℤ) → taken_under (shows c o front) d args ≡ option_map (replies_to c o) (taken_under front d args)
under-shows [] c o d args = refl
under-shows (t ∷ ts) c o d args = ap (λ r. cond (is_under d args r) (Some (replies_to c o t)) (taken_under (shows c o ts) d args)) (same-request c o t) ∙ at (is_under d args t.request) (under-shows ts c o d args)
  where
    at : (b : Bool) → taken_under (shows c o ts) d args ≡ option_map (replies_to c o) (taken_under ts d args) → cond b (Some (replies_to c o t)) (taken_under (shows c o ts) d args) ≡ option_map (replies_to c o) (cond b (Some t) (taken_under ts d args))
    at true more = refl
    at false more = more

pub shows-alike : (front other : Front) (c : ComId) (o : Output) → TakenAlike front other → TakenAlike (shows c o front) (shows c o other)
shows-alike front other c o h d args = under-shows front c o d args ∙ ap (option_map (replies_to c o)) (h d args) ∙ sym (under-shows other c o d args)

-- an event is seen --------------------------------------------------------------------------------------

saw-alike : (front other : Front) (t : Trace) → TakenAlike front other → TakenAlike (saw_first front t) (saw other t)
saw-alike front other t h = at t.event.what t.shown (is_received t.answer)
  where
    at : (what : What) (shown : Option (Output × Bool)) (received : Bool) → TakenAlike (saw_showing what shown (saw_first_event what received front)) (saw_showing what shown (saw_event what received other))
    at (whats.Input c handler args) shown true = takes-alike front other (record { who = c; handler = handler; args = args }) h
    at (whats.Input c handler args) shown false = h
    at (whats.Deliver from to) shown received = h
    at (whats.Lose from to) shown received = h
    at (whats.Packet n) shown received = h
    at (whats.Force c) shown received = h
    at (whats.Checkpoint c) shown received = h
    at (whats.Resend c) shown received = h
    at (whats.Emit c) None received = h
    at (whats.Emit c) (Some x) received = shows-alike front other c x.0 h
    at (whats.Crash c) shown received = h
    at (whats.Recover c) shown received = h

pub is_seen : (old new : Front) (t : Trace) → new ≡ saw_first old t → IsSeen old new t
is_seen old new t e = record { alike = λ other h. subst (λ f. TakenAlike f (saw other t)) (sym e) (saw-alike old other t h) }

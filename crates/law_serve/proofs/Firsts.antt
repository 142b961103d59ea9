-- A front that is built again from logs tells the first output of each request.
use Rattle.std.proofs.Common.{◌≡◌, ◌∙◌, refl, ap, sym, subst, ℕ, ℤ, zero, suc, ◌+◌, ◌<◌, ◌≤◌, arith, Bool, true, false, ◌&&◌, cond, List, [], ◌∷◌, ◌++◌, Option, Some, None, is_none, option_map, ◌⊎◌, inl, inr}
use Rattle.std.specs.Prelude.{◌==◌, ◌≢◌, Contains, fold, slice_get, unwrap_or}
use Rattle.std.proofs.lemmas.Bool.Decides.{Decides-eqb, eqb_tells}
use Rattle.std.proofs.lemmas.List.{append-nil, append_assoc}
use Rattle.std.proofs.lemmas.List.Sums.{fold_push}
use Rattle.std.proofs.lemmas.Option.{same_Some}
use Rattle.ic_base.specs.declared.messages.ComId.{ComId}
use Rattle.ic_base.specs.declared.messages.Out.{Out}
use Rattle.ic_base.specs.declared.messages.Output.{Output}
use Rattle.ic_base.specs.declared.messages.Packet.{Packet}
use Rattle.ic_base.specs.declared.record.Record.{Record}
use Rattle.ic_base.specs.declared.record.Record.TheVariants as records
use Rattle.ic_base.specs.declared.scenario.Program.{Program}
use Rattle.ic_base.specs.Programs.{same_com}
use Rattle.def_client.specs.Fronts.{Taken, Front, is_numbered, is_under, same_numbers, taken_under, takes, shows}
use Rattle.def_client.specs.Rebuilding.{saw_record, shows_if, front_of_log, front_from, outputs_at}
use Rattle.def_facts.specs.Logs.{Logs, log_at, last_shown, shown_by, contents_in}
use Rattle.def_facts.specs.Pcom.{state_after}
use Rattle.def_facts.specs.World.{forced_logs}
use Rattle.def_plain.specs.Plain.{PlainWorld, pcom_at, counted}
use Rattle.def_plain.specs.declared.world.PlainPcom.{PlainPcom}
use Rattle.def_state.specs.Fits.{fits, is_number_of}
use Rattle.def_state.specs.Hist.{Hist, after, recorded, standing_of, number_outputs}
use Rattle.law_client.proofs.Replies.{both-true}
use Rattle.law_replay.proofs.Growing.{prefixes_replay}
use Rattle.law_replay.proofs.Lists.{none-some, true-false, empty, in-head, in-tail, head-or-tail, same-com}
use Rattle.law_replay.proofs.Shown.{shown-up-to}
use Rattle.law_syntax.proofs.Entries.{same-ok}
use Rattle.law_serve.proofs.Replies.{WasThere, found-under, taken-joined, was-there, the-state}
use Rattle.law_serve.specs.Replies.{IsTaken, IsToldOf, RebuiltFrontsTellFirst}

-- numbered outputs -------------------------------------------------------------------------------------

record IsAt (n : ℕ) (xs : List Out) (o : Output) : Type 0 where
  place : ℕ
  number : o.m ≡ n + place
  got : slice_get (number_outputs n xs) place ≡ Some o

where-is : (n : ℕ) (xs : List Out) (o : Output) → Contains (number_outputs n xs) o → IsAt n xs o
where-is n [] o h = empty o h
where-is n (x ∷ xs) o h = at (head-or-tail (record { m = n; to = x.to; args = x.args }) o (number_outputs (n + 1) xs) h) (where-is (n + 1) xs o)
  where
    one : Output
    one = record { m = n; to = x.to; args = x.args }

    at : (one ≡ o) ⊎ Contains (number_outputs (n + 1) xs) o → (Contains (number_outputs (n + 1) xs) o → IsAt (n + 1) xs o) → IsAt n (x ∷ xs) o
    at (inl e) more = record { place = 0; number = omega (arith, ap (λ (y : Output). y.m) e); got = ap (λ y. Some y) e }
    at (inr k) more = let z = more k in record { place = suc z.place; number = omega (arith, z.number); got = z.got }

what-is : (n : ℕ) (xs : List Out) (i : ℕ) (o : Output) → slice_get (number_outputs n xs) i ≡ Some o → (o.m ≡ n + i) × Contains (number_outputs n xs) o
what-is n [] i o e = none-some o e
what-is n (x ∷ xs) zero o e =
    let one : Output = record { m = n; to = x.to; args = x.args } in
    let same : one ≡ o = same_Some one o e in
    (omega (arith, ap (λ (y : Output). y.m) same), subst (λ z. Contains (number_outputs n (x ∷ xs)) z) same (in-head one (number_outputs (n + 1) xs)))
what-is n (x ∷ xs) (suc i) o e = let z = what-is (n + 1) xs i o e in (omega (arith, z.0), in-tail _ o (number_outputs (n + 1) xs) z.1)

-- outputs of which each has its number
pub record AreNumbered (outs : List Output) : Type 0 where
  pub stands : (o : Output) → Contains outs o → counted outs o.m ≡ Some o
  pub is : (m : ℕ) (o : Output) → counted outs m ≡ Some o → (o.m ≡ m) × Contains outs o

numbered-so : (xs : List Out) → AreNumbered (number_outputs 1 xs)
numbered-so xs = record { stands = there; is = here }
  where
    there : (o : Output) → Contains (number_outputs 1 xs) o → counted (number_outputs 1 xs) o.m ≡ Some o
    there o h =
        let z = where-is 1 xs o h in
        let next : suc z.place ≡ o.m = omega (arith, z.number) in
        ap (counted (number_outputs 1 xs)) (sym next) ∙ z.got

    here : (m : ℕ) (o : Output) → counted (number_outputs 1 xs) m ≡ Some o → (o.m ≡ m) × Contains (number_outputs 1 xs) o
    here zero o e = none-some o e
    here (suc i) o e = let z = what-is 1 xs i o e in (omega (arith, z.0), z.1)

-- along a log ------------------------------------------------------------------------------------------

-- what is shown is numbered on, one after another
abbrev pub Rises : List Record → Type 0
Rises log = (xs ys : List Record) (m : ℕ) → log ≡ xs ++ records.Shown m ∷ ys → m ≡ last_shown xs + 1

-- The requests of d in a front, each where it was taken in a log, with the outputs of d: all up to `high` were shown.
module _ (d : ComId) (outs : List Output) (are : AreNumbered outs) where
  -- no output with the numbers of the request comes behind `low` and up to `high`
  abbrev pub NoneBetween : ℕ → ℕ → Taken → Type 0
  NoneBetween low high t = (o : Output) → Contains outs o → same_numbers o.args t.request.args ≡ true → o.m ≤ high → o.m ≤ low

  pub record IsFirst (low : ℕ) (t : Taken) (reply : ℕ × List ℤ) : Type 0 where
    pub output : Output
    pub number : output.m ≡ reply.0
    pub values : output.args ≡ reply.1
    pub own : same_numbers output.args t.request.args ≡ true
    pub stands : Contains outs output
    pub first : (o : Output) → Contains outs o → same_numbers o.args t.request.args ≡ true → o.m < output.m → o.m ≤ low

  abbrev pub Stage : ℕ → ℕ → Taken → Option (ℕ × List ℤ) → Type 0
  Stage low high t None = NoneBetween low high t
  Stage low high t (Some reply) = IsFirst low t reply

  -- where it was taken, and how far it is
  pub record Marked (log : List Record) (high : ℕ) (t : Taken) : Type 0 where
    pub before : List Record
    pub stamp : ℕ
    pub behind : List Record
    pub is : log ≡ before ++ records.Input stamp t.request.handler t.request.args ∷ behind
    pub stage : Stage (last_shown before) high t t.reply

  abbrev pub AllMarked : List Record → ℕ → Front → Type 0
  AllMarked log high front = (args : List ℤ) (t : Taken) → taken_under front d args ≡ Some t → Marked log high t

  -- a longer log, where no output with its numbers was shown
  pub grown-marked : (log more : List Record) (high next : ℕ) (t : Taken) → ((o : Output) → t.reply ≡ None → Contains outs o → same_numbers o.args t.request.args ≡ true → o.m ≤ next → o.m ≤ high) → Marked log high t → Marked (log ++ more) next t
  grown-marked log more high next t quiet k = record { before = k.before; stamp = k.stamp; behind = k.behind ++ more; is = ap (λ l. l ++ more) k.is ∙ append_assoc k.before (records.Input k.stamp t.request.handler t.request.args ∷ k.behind) more; stage = by t.reply refl k.stage }
    where
      by : (o : Option (ℕ × List ℤ)) → t.reply ≡ o → Stage (last_shown k.before) high t o → Stage (last_shown k.before) next t o
      by None none s = λ o h own up. s o h own (quiet o none h own up)
      by (Some reply) some s = s

  pub all-grown : (log more : List Record) (high next : ℕ) (front : Front) → next ≤ high → AllMarked log high front → AllMarked (log ++ more) next front
  all-grown log more high next front less all args t h = grown-marked log more high next t (λ o none there own up. omega (arith, up, less)) (all args t h)

  -- a request that is taken
  module _ (log before behind : List Record) (high stamp handler : ℕ) (args : List ℤ) (is : log ≡ before ++ records.Input stamp handler args ∷ behind) (few : high ≤ last_shown before) (front : Front) (all : AllMarked log high front) where
    abbrev new : Taken
    new = record { request = record { who = d; handler = handler; args = args }; reply = None }

    own : Marked log high new
    own = record { before = before; stamp = stamp; behind = behind; is = is; stage = λ o h own up. omega (arith, up, few) }

    joined : AllMarked log high (front ++ new ∷ [])
    joined xs t h = by (taken-joined front (new ∷ []) d xs t h)
      where
        last : (b : Bool) → cond b (Some new) None ≡ Some t → Marked log high t
        last true e = subst (Marked log high) (same_Some new t e) own
        last false e = none-some t e

        by : (taken_under front d xs ≡ Some t) ⊎ (taken_under (new ∷ []) d xs ≡ Some t) → Marked log high t
        by (inl e) = all xs t e
        by (inr e) = last (is_under d xs new.request) e

    pub taken-marked : AllMarked log high (takes (record { who = d; handler = handler; args = args }) front)
    taken-marked = at (is_numbered args)
      where
        at : (b : Bool) → AllMarked log high (cond b (front ++ new ∷ []) front)
        at true = joined
        at false = all

  module _ (log more : List Record) (high m : ℕ) (next : m ≡ high + 1) (front : Front) (all : AllMarked log high front) where
    below : (a b n : ℕ) → a ≢ b → a ≤ b → b ≡ n + 1 → a ≤ n
    below a b n apart le is = omega (arith, apart, le, is)

    -- the output of this number is another one
    stays-but : (t : Taken) → ((o : Output) → t.reply ≡ None → counted outs m ≡ Some o → same_numbers o.args t.request.args ≡ true → ⊥) → Marked log high t → Marked (log ++ more) m t
    stays-but t other k = grown-marked log more high m t quiet k
      where
        quiet : (o : Output) → t.reply ≡ None → Contains outs o → same_numbers o.args t.request.args ≡ true → o.m ≤ m → o.m ≤ high
        quiet o none h own up = at (eqb_tells o.m m)
          where
            at : (((o.m == m) ≡ true) × (o.m ≡ m)) ⊎ (((o.m == m) ≡ false) × (o.m ≢ m)) → o.m ≤ high
            at (inl same) = absurd (other o none (ap (counted outs) (sym same.1) ∙ are.stands o h) own)
            at (inr apart) = below o.m m high apart.1 up next

    pub shown-marked : (o : Output) → counted outs m ≡ Some o → AllMarked (log ++ more) m (shows d o front)
    shown-marked o is args t h = at (is_under d o.args u.request && is_none u.reply) refl z.is
      where
        z : WasThere d o front d args t
        z = was-there d o front d args t h

        u : Taken
        u = z.was

        k : Marked log high u
        k = all args u z.found

        -- the request is one of d
        mine : same_com d u.request.who ≡ true
        mine = (both-true (same_com d u.request.who) (same_numbers args u.request.args) (found-under front d args u z.found)).0

        at : (b : Bool) → (is_under d o.args u.request && is_none u.reply) ≡ b → cond b (record u { reply = Some (o.m, o.args) }) u ≡ t → Marked (log ++ more) m t
        at false isnt same = subst (Marked (log ++ more) m) same (stays-but u other k)
          where
            other : (p : Output) → u.reply ≡ None → counted outs m ≡ Some p → same_numbers p.args u.request.args ≡ true → ⊥
            other p none there own =
                let one : o ≡ p = same_Some o p (sym is ∙ there) in
                let yes : (is_under d o.args u.request && is_none u.reply) ≡ true =
                ap (λ b. (b && same_numbers o.args u.request.args) && is_none u.reply) mine ∙ ap (λ (x : Output). same_numbers x.args u.request.args && is_none u.reply) one ∙ ap (λ b. b && is_none u.reply) own ∙ ap is_none none in
                true-false (sym isnt ∙ yes)
        at true are_both same = subst (Marked (log ++ more) m) same (record { before = k.before; stamp = k.stamp; behind = k.behind ++ more; is = ap (λ l. l ++ more) k.is ∙ append_assoc k.before (records.Input k.stamp u.request.handler u.request.args ∷ k.behind) more; stage = first u.reply refl k.stage })
          where
            both : (is_under d o.args u.request ≡ true) × (is_none u.reply ≡ true)
            both = both-true (is_under d o.args u.request) (is_none u.reply) are_both

            first : (x : Option (ℕ × List ℤ)) → u.reply ≡ x → Stage (last_shown k.before) high u x → IsFirst (last_shown k.before) (record u { reply = Some (o.m, o.args) }) (o.m, o.args)
            first None none s = record { output = o; number = refl; values = refl; own = (both-true (same_com d u.request.who) (same_numbers o.args u.request.args) both.0).1; stands = (are.is m o is).1; first = λ p there own less. s p there own (omega (arith, less, (are.is m o is).0, next)) }
            first (Some reply) some s = true-false (sym (ap is_none some) ∙ both.1)

    none-marked : counted outs m ≡ None → AllMarked (log ++ more) m front
    none-marked none args t h = stays-but t (λ o waits there own. none-some o (sym none ∙ there)) (all args t h)

    showing-marked : AllMarked (log ++ more) m (shows_if d (counted outs m) front)
    showing-marked = at (counted outs m) refl
      where
        at : (x : Option Output) → counted outs m ≡ x → AllMarked (log ++ more) m (shows_if d x front)
        at None is = none-marked is
        at (Some o) is = shown-marked o is

  -- one record more
  abbrev Told : List Record → Front → Type 0
  Told us front = AllMarked us (last_shown us) front

  same-shown : (us : List Record) (r : Record) → shown_by (last_shown us) r ≡ last_shown us → last_shown (us ++ r ∷ []) ≡ last_shown us
  same-shown us r e = fold_push shown_by 0 us r ∙ e

  all-stay : (us : List Record) (r : Record) (front : Front) → shown_by (last_shown us) r ≡ last_shown us → Told us front → Told (us ++ r ∷ []) front
  all-stay us r front e all = all-grown us (r ∷ []) (last_shown us) (last_shown (us ++ r ∷ [])) front (omega (arith, same-shown us r e)) all

  record-marked : (us : List Record) (r : Record) (front : Front) → ((m : ℕ) → r ≡ records.Shown m → m ≡ last_shown us + 1) → Told us front → Told (us ++ r ∷ []) (saw_record d outs front r)
  record-marked us (records.Input stamp handler args) front next all =
      taken-marked (us ++ records.Input stamp handler args ∷ []) us [] (last_shown (us ++ records.Input stamp handler args ∷ [])) stamp handler args refl (omega (arith, same-shown us (records.Input stamp handler args) refl)) front (all-stay us (records.Input stamp handler args) front refl all)
  record-marked us (records.Shown m) front next all =
      subst (λ n. AllMarked (us ++ records.Shown m ∷ []) n (shows_if d (counted outs m) front)) (sym (fold_push shown_by 0 us (records.Shown m))) (showing-marked us (records.Shown m ∷ []) (last_shown us) m (next m refl) front all)
  record-marked us (records.Take s n stamp) front next all = all-stay us (records.Take s n stamp) front refl all
  record-marked us (records.TakeWhole s n stamp handler args) front next all = all-stay us (records.TakeWhole s n stamp handler args) front refl all
  record-marked us (records.Outcome stamp n abort) front next all = all-stay us (records.Outcome stamp n abort) front refl all
  record-marked us (records.Value n place session value) front next all = all-stay us (records.Value n place session value) front refl all
  record-marked us (records.Released to n) front next all = all-stay us (records.Released to n) front refl all
  record-marked us (records.Checkpoint image) front next all = all-stay us (records.Checkpoint image) front refl all
  record-marked us (records.Epoch epoch) front next all = all-stay us (records.Epoch epoch) front refl all
  record-marked us (records.Decided stamp c n writes) front next all = all-stay us (records.Decided stamp c n writes) front refl all

  log-marked : (us ws : List Record) (front : Front) → Rises (us ++ ws) → Told us front → Told (us ++ ws) (fold (saw_record d outs) front ws)
  log-marked us [] front rises all = subst (λ l. Told l front) (sym (append-nil us)) all
  log-marked us (r ∷ ws) front rises all =
      let longer : (us ++ r ∷ []) ++ ws ≡ us ++ r ∷ ws = append_assoc us (r ∷ []) ws in
      subst (λ l. Told l (fold (saw_record d outs) (saw_record d outs front r) ws)) longer
      (log-marked (us ++ r ∷ []) ws (saw_record d outs front r) (subst Rises (sym longer) rises)
      (record-marked us r front (λ m is. rises us ws m (ap (λ z. us ++ z ∷ ws) is)) all))

-- the log of a Pcom ------------------------------------------------------------------------------------

passed-both : {A : Type 0} (b : Bool) (o : Option A) (x : A) → cond b o None ≡ Some x → b ≡ true
passed-both true o x e = refl
passed-both false o x e = none-some x e

number-is : (n m : ℕ) (xs : List Out) → is_number_of (option_map (λ (z : Output). z.m) (slice_get (number_outputs n xs) 0)) m ≡ true → m ≡ n
number-is n m [] e = true-false e
number-is n m (x ∷ xs) e = sym ((Decides-eqb n m).0 e)

pub rises-so : (program : Program) (c : ComId) (received : List Packet) (log : List Record) (h : Hist) → state_after program c received log ≡ Some h → Rises log
rises-so program c received log h is xs ys m split =
    let k = contents_in received in
    let g = prefixes_replay program c k xs (records.Shown m ∷ ys) h (ap (after program c k) (sym split) ∙ is) in
    let f = prefixes_replay program c k (xs ++ records.Shown m ∷ []) ys h (ap (after program c k) (append_assoc xs (records.Shown m ∷ []) ys ∙ sym split) ∙ is) in
    let x = shown-up-to program c k xs g.0 g.1 in
    let one = prefixes_replay program c k xs (records.Shown m ∷ []) f.0 f.1 in
    let same : one.0 ≡ g.0 = same_Some one.0 g.0 (sym one.1 ∙ g.1) in
    let fit = passed-both (fits program c (standing_of program c one.0) (records.Shown m)) (recorded program c k one.0 (records.Shown m)) f.0 one.2 in
    let number = number-is (g.0.shown + 1) m _ (sym (ap (λ l. is_number_of (option_map (λ (z : Output). z.m) (slice_get l 0)) m) x.rest) ∙ ap (λ (y : Hist). fits program c (standing_of program c y) (records.Shown m)) (sym same) ∙ fit) in
    omega (arith, number, x.count)

-- of all logs ------------------------------------------------------------------------------------------

-- the requests of a log are those of its component
module _ (d : ComId) (outs : List Output) where
  abbrev AllOwn : Front → Type 0
  AllOwn front = (c : ComId) (args : List ℤ) (t : Taken) → taken_under front c args ≡ Some t → c ≡ d

  takes-own : (handler : ℕ) (args : List ℤ) (front : Front) → AllOwn front → AllOwn (takes (record { who = d; handler = handler; args = args }) front)
  takes-own handler args front all = at (is_numbered args)
    where
      new : Taken
      new = record { request = record { who = d; handler = handler; args = args }; reply = None }

      joined : AllOwn (front ++ new ∷ [])
      joined c xs t h = by (taken-joined front (new ∷ []) c xs t h)
        where
          last : (b : Bool) → is_under c xs new.request ≡ b → cond b (Some new) None ≡ Some t → c ≡ d
          last true under e = same-com c d (both-true (same_com c d) (same_numbers xs args) under).0
          last false under e = none-some t e

          by : (taken_under front c xs ≡ Some t) ⊎ (taken_under (new ∷ []) c xs ≡ Some t) → c ≡ d
          by (inl e) = all c xs t e
          by (inr e) = last (is_under c xs new.request) refl e

      at : (b : Bool) → AllOwn (cond b (front ++ new ∷ []) front)
      at true = joined
      at false = all

  shown-own : (o : Option Output) (front : Front) → AllOwn front → AllOwn (shows_if d o front)
  shown-own None front all = all
  shown-own (Some o) front all = λ c args t h. let z = was-there d o front c args t h in all c args z.was z.found

  record-own : (r : Record) (front : Front) → AllOwn front → AllOwn (saw_record d outs front r)
  record-own (records.Input stamp handler args) front all = takes-own handler args front all
  record-own (records.Shown m) front all = shown-own (counted outs m) front all
  record-own (records.Take s n stamp) front all = all
  record-own (records.TakeWhole s n stamp handler args) front all = all
  record-own (records.Outcome stamp n abort) front all = all
  record-own (records.Value n place session value) front all = all
  record-own (records.Released to n) front all = all
  record-own (records.Checkpoint image) front all = all
  record-own (records.Epoch epoch) front all = all
  record-own (records.Decided stamp c n writes) front all = all

  log-own : (log : List Record) (front : Front) → AllOwn front → AllOwn (fold (saw_record d outs) front log)
  log-own [] front all = all
  log-own (r ∷ rs) front all = log-own rs (saw_record d outs front r) (record-own r front all)

record FoundIn (v : PlainWorld) (i : ℕ) (logs : Logs) (c : ComId) (args : List ℤ) (t : Taken) : Type 0 where
  place : ℕ
  numbers : i + place ≡ c.0
  log : List Record
  there : slice_get logs place ≡ Some log
  found : taken_under (front_of_log c (outputs_at v c) log) c args ≡ Some t

found-in : (v : PlainWorld) (i : ℕ) (logs : Logs) (c : ComId) (args : List ℤ) (t : Taken) → taken_under (front_from v i logs) c args ≡ Some t → FoundIn v i logs c args t
found-in v i [] c args t e = none-some t e
found-in v i (log ∷ logs) c args t e = at (taken-joined (front_of_log d (outputs_at v d) log) (front_from v (i + 1) logs) c args t e) (found-in v (i + 1) logs c args t)
  where
    d : ComId
    d = record { 0 = i }

    at : (taken_under (front_of_log d (outputs_at v d) log) c args ≡ Some t) ⊎ (taken_under (front_from v (i + 1) logs) c args ≡ Some t) → (taken_under (front_from v (i + 1) logs) c args ≡ Some t → FoundIn v (i + 1) logs c args t) → FoundIn v i (log ∷ logs) c args t
    at (inl k) more =
        let same : c ≡ d = log-own d (outputs_at v d) log [] (λ c args t e. none-some t e) c args t k in
        record { place = 0; numbers = omega (arith, ap (λ (x : ComId). x.0) same); log = log; there = refl; found = subst (λ x. taken_under (front_of_log x (outputs_at v x) log) c args ≡ Some t) (sym same) k }
    at (inr k) more = let z = more k in record { place = suc z.place; numbers = omega (arith, z.numbers); log = z.log; there = z.there; found = z.found }

pub outputs-numbered : (v : PlainWorld) (c : ComId) → AreNumbered (outputs_at v c)
outputs-numbered v c = at (pcom_at v c)
  where
    rebuilt : Option PlainPcom → List Output
    rebuilt None = []
    rebuilt (Some p) = number_outputs 1 p.outs

    at : (o : Option PlainPcom) → AreNumbered (rebuilt o)
    at None = numbered-so []
    at (Some p) = numbered-so p.outs

-- what is kept of a request is what is told of it
pub told-of : (logs : Logs) (v : PlainWorld) (c : ComId) (t : Taken) → Marked c (outputs_at v c) (outputs-numbered v c) (log_at logs c) (last_shown (log_at logs c)) t → IsToldOf logs v c t t.reply
told-of logs v c t k = at t.reply k.stage
  where
    taken : IsTaken logs c t
    taken = record { before = k.before; stamp = k.stamp; behind = k.behind; are = k.is }

    at : (o : Option (ℕ × List ℤ)) → Stage c (outputs_at v c) (outputs-numbered v c) (last_shown k.before) (last_shown (log_at logs c)) t o → IsToldOf logs v c t o
    at None s = record { taken = taken; none = s }
    at (Some y) s = record { output = s.output; number = s.number; values = s.values; own = s.own; stands = s.stands; taken = taken; first = s.first }

pub rebuilt_fronts_tell_first : RebuiltFrontsTellFirst
rebuilt_fronts_tell_first program found here w v x run u c args t runs pcom e = subst (λ y. IsToldOf (forced_logs w) y c t t.reply) (same-ok {E = ℕ} v u (sym run ∙ runs)) (told-of (forced_logs w) v c t k)
  where
    z : FoundIn v 0 (forced_logs w) c args t
    z = found-in v 0 (forced_logs w) c args t e

    same-log : z.log ≡ log_at (forced_logs w) c
    same-log = sym (let same : c.0 ≡ z.place = omega (arith, z.numbers) in ap (λ k. unwrap_or (slice_get (forced_logs w) k) []) same ∙ ap (λ o. unwrap_or o []) z.there)

    rises : Rises z.log
    rises = let h = the-state program found here w x.0 x.1 v run c pcom in subst Rises (sym same-log) (rises-so program c (x.0.received c) (log_at (forced_logs w) c) h.0 h.1)

    k : Marked c (outputs_at v c) (outputs-numbered v c) (log_at (forced_logs w) c) (last_shown (log_at (forced_logs w) c)) t
    k = subst (λ l. Marked c (outputs_at v c) (outputs-numbered v c) l (last_shown l) t) same-log (log-marked c (outputs_at v c) (outputs-numbered v c) [] z.log [] rises (λ args t e. none-some t e) args t z.found)

-- A front that is built again from logs with the first request of each number is alike to the one that has all of them.
use Rattle.std.proofs.Common.{◌≡◌, ◌∙◌, ap, sym, refl, subst, arith, ℕ, suc, zero, ◌+◌, ◌-◌, ◌<◌, ◌≤◌, ◌==◌, Bool, true, false, cond, List, [], ◌∷◌, ◌++◌, length, Option, None, Some, option_map, slice_get}
use Rattle.std.specs.Prelude.{◌&&◌, is_none, fold}
use Rattle.std.specs.List.{AllByRecursion}
use Rattle.std.proofs.lemmas.List.{append-nil, append_assoc, map-append}
use Rattle.ic_base.specs.declared.messages.ComId.{ComId}
use Rattle.ic_base.specs.declared.messages.Out.{Out}
use Rattle.ic_base.specs.declared.messages.Output.{Output}
use Rattle.ic_base.specs.declared.record.Record.{Record}
use Rattle.ic_base.specs.declared.record.Record.TheVariants as records
use Rattle.ic_base.specs.Programs.{same_com}
use Rattle.def_facts.specs.Logs.{Logs}
use Rattle.def_plain.specs.Plain.{PlainWorld, counted}
use Rattle.def_state.specs.Hist.{number_outputs}
use Rattle.def_client.specs.Fronts.{Request, Taken, Front, same_numbers, is_numbered, takes, replies_to, shows}
use Rattle.def_client.specs.Rebuilding.{shows_if, saw_record, front_of_log, front_from, outputs_at}
use Rattle.ic_client.specs.Rebuilding.{saw_first_record}
use Rattle.ic_client.specs.Seeing.{TakenAlike, takes_first}
use Rattle.ic_client.proofs.Alike.{new_one, takes-alike, same-request, shows-alike}

-- outputs by number -------------------------------------------------------------------------------------

abbrev pub numbered_out : ℕ → Out → Output
numbered_out m o = record { m = m; to = o.to; args = o.args }

numbered-at : (k i : ℕ) (outs : List Out) → slice_get (number_outputs k outs) i ≡ option_map (numbered_out (k + i)) (slice_get outs i)
numbered-at k zero [] = refl
numbered-at k (suc i) [] = refl
numbered-at k zero (o ∷ os) = let same : k ≡ k + 0 = omega arith in ap (λ m. Some (numbered_out m o)) same
numbered-at k (suc i) (o ∷ os) = let same : k + 1 + i ≡ k + suc i = omega arith in numbered-at (k + 1) i os ∙ ap (λ m. option_map (numbered_out m) (slice_get os i)) same

pub output_at : (outs : List Out) (m p : ℕ) → m ≡ suc p → counted (number_outputs 1 outs) m ≡ option_map (numbered_out m) (slice_get outs p)
output_at outs m p e =
    let same : 1 + p ≡ suc p = omega arith in
    ap (counted (number_outputs 1 outs)) e ∙ numbered-at 1 p outs ∙ ap (λ n. option_map (numbered_out n) (slice_get outs p)) (same ∙ sym e)

pub output_before : (outs : List Out) (m : ℕ) → (m ≡ 0 → ⊥) → counted (number_outputs 1 outs) m ≡ option_map (numbered_out m) (slice_get outs (m - 1))
output_before outs zero e = absurd (e refl)
output_before outs (suc p) e = let same : p ≡ suc p - 1 = omega arith in output_at outs (suc p) p refl ∙ ap (λ q. option_map (numbered_out (suc p)) (slice_get outs q)) same

-- requests of other components --------------------------------------------------------------------------

abbrev AllOther : ComId → Front → Type 0
AllOther c front = AllByRecursion (λ (t : Taken). same_com c t.request.who ≡ false) front

other-append : (c : ComId) (f g : Front) → AllOther c f → AllOther c g → AllOther c (f ++ g)
other-append c [] g a b = b
other-append c (t ∷ ts) g a b = (a.0, other-append c ts g a.1 b)

shows-other : (c : ComId) (o : Output) (front : Front) → AllOther c front → shows c o front ≡ front
shows-other c o [] h = refl
shows-other c o (t ∷ ts) h =
    ap (λ b. cond ((b && same_numbers o.args t.request.args) && is_none t.reply) (record t { reply = Some (o.m, o.args) }) t ∷ shows c o ts) h.0 ∙ ap (λ l. t ∷ l) (shows-other c o ts h.1)

shows-still : (c d : ComId) (o : Output) (front : Front) → AllOther c front → AllOther c (shows d o front)
shows-still c d o [] h = tt
shows-still c d o (t ∷ ts) h = (ap (λ (r : Request). same_com c r.who) (same-request d o t) ∙ h.0, shows-still c d o ts h.1)

shown-still : (c d : ComId) (o : Option Output) (front : Front) → AllOther c front → AllOther c (shows_if d o front)
shown-still c d None front h = h
shown-still c d (Some o) front h = shows-still c d o front h

takes-still : (c : ComId) (r : Request) (front : Front) → same_com c r.who ≡ false → AllOther c front → AllOther c (takes r front)
takes-still c r front e h = at (is_numbered r.args)
  where
    at : (b : Bool) → AllOther c (cond b (front ++ new_one r ∷ []) front)
    at true = other-append c front (new_one r ∷ []) h (e, tt)
    at false = h

record-still : (c d : ComId) (outs : List Output) (front : Front) (r : Record) → same_com c d ≡ false → AllOther c front → AllOther c (saw_record d outs front r)
record-still c d outs front (records.Input stamp handler args) e h = takes-still c (record { who = d; handler = handler; args = args }) front e h
record-still c d outs front (records.Shown m) e h = shown-still c d (counted outs m) front h
record-still c d outs front (records.Take s k stamp) e h = h
record-still c d outs front (records.TakeWhole s k stamp handler args) e h = h
record-still c d outs front (records.Value n place session value) e h = h
record-still c d outs front (records.Outcome stamp n abort) e h = h
record-still c d outs front (records.Released to k) e h = h
record-still c d outs front (records.Checkpoint image) e h = h
record-still c d outs front (records.Epoch epoch) e h = h
record-still c d outs front (records.Decided stamp n m writes) e h = h

log-still : (c d : ComId) (outs : List Output) (front : Front) (log : List Record) → same_com c d ≡ false → AllOther c front → AllOther c (fold (saw_record d outs) front log)
log-still c d outs front [] e h = h
log-still c d outs front (r ∷ rs) e h = log-still c d outs (saw_record d outs front r) rs e (record-still c d outs front r e h)

others : (v : PlainWorld) (k : ℕ) (logs : Logs) (c : ComId) → k + length logs ≤ c.0 → AllOther c (front_from v k logs)
others v k [] c le = tt
others v k (log ∷ logs) c le =
    other-append c (front_of_log (record { 0 = k }) (outputs_at v (record { 0 = k })) log) (front_from v (k + 1) logs)
    (log-still c (record { 0 = k }) (outputs_at v (record { 0 = k })) [] log (apart c.0 k (less k (length logs) c.0 le)) tt) (others v (k + 1) logs c (on k (length logs) c.0 le))
  where
    less : (k n i : ℕ) → k + suc n ≤ i → k < i
    less k n i h = omega (arith, h)

    on : (k n i : ℕ) → k + suc n ≤ i → k + 1 + n ≤ i
    on k n i h = omega (arith, h)

    apart : (i k : ℕ) → k < i → (i == k) ≡ false
    apart i k h = grind arith

-- a log behind others -----------------------------------------------------------------------------------

takes-behind : (r : Request) (p g : Front) → takes r (p ++ g) ≡ p ++ takes r g
takes-behind r p g = at (is_numbered r.args)
  where
    at : (b : Bool) → cond b ((p ++ g) ++ new_one r ∷ []) (p ++ g) ≡ p ++ cond b (g ++ new_one r ∷ []) g
    at true = append_assoc p g (new_one r ∷ [])
    at false = refl

shows-behind : (c : ComId) (o : Output) (p g : Front) → AllOther c p → shows c o (p ++ g) ≡ p ++ shows c o g
shows-behind c o p g h = map-append (replies_to c o) p g ∙ ap (λ l. l ++ shows c o g) (shows-other c o p h)

shown-behind : (c : ComId) (o : Option Output) (p f g : Front) → AllOther c p → TakenAlike f (p ++ g) → TakenAlike (shows_if c o f) (p ++ shows_if c o g)
shown-behind c None p f g a h = h
shown-behind c (Some o) p f g a h = subst (TakenAlike (shows c o f)) (shows-behind c o p g a) (shows-alike f (p ++ g) c o h)

record-behind : (c : ComId) (outs : List Output) (p f g : Front) (r : Record) → AllOther c p → TakenAlike f (p ++ g) → TakenAlike (saw_first_record c outs f r) (p ++ saw_record c outs g r)
record-behind c outs p f g (records.Input stamp handler args) a h =
    let r : Request = record { who = c; handler = handler; args = args } in subst (TakenAlike (takes_first r f)) (takes-behind r p g) (takes-alike f (p ++ g) r h)
record-behind c outs p f g (records.Shown m) a h = shown-behind c (counted outs m) p f g a h
record-behind c outs p f g (records.Take s k stamp) a h = h
record-behind c outs p f g (records.TakeWhole s k stamp handler args) a h = h
record-behind c outs p f g (records.Value n place session value) a h = h
record-behind c outs p f g (records.Outcome stamp n abort) a h = h
record-behind c outs p f g (records.Released to k) a h = h
record-behind c outs p f g (records.Checkpoint image) a h = h
record-behind c outs p f g (records.Epoch epoch) a h = h
record-behind c outs p f g (records.Decided stamp n m writes) a h = h

log-behind : (c : ComId) (outs : List Output) (p f g : Front) (log : List Record) → AllOther c p → TakenAlike f (p ++ g) → TakenAlike (fold (saw_first_record c outs) f log) (p ++ fold (saw_record c outs) g log)
log-behind c outs p f g [] a h = h
log-behind c outs p f g (r ∷ rs) a h = log-behind c outs p (saw_first_record c outs f r) (saw_record c outs g r) rs a (record-behind c outs p f g r a h)

abbrev pub nth : ℕ → ComId
nth i = record { 0 = i }

front-append : (v : PlainWorld) (k : ℕ) (logs : Logs) (log : List Record) → front_from v k (logs ++ log ∷ []) ≡ front_from v k logs ++ front_of_log (nth (k + length logs)) (outputs_at v (nth (k + length logs))) log
front-append v k [] log =
    let same : k ≡ k + 0 = omega arith in append-nil (front_of_log (nth k) (outputs_at v (nth k)) log) ∙ ap (λ i. front_of_log (nth i) (outputs_at v (nth i)) log) same
front-append v k (l ∷ ls) log =
    let same : k + 1 + length ls ≡ k + suc (length ls) = omega arith in
    let here : Front = front_of_log (nth k) (outputs_at v (nth k)) l in
    ap (λ f. here ++ f) (front-append v (k + 1) ls log ∙ ap (λ i. front_from v (k + 1) ls ++ front_of_log (nth i) (outputs_at v (nth i)) log) same)
    ∙ sym (append_assoc here (front_from v (k + 1) ls) (front_of_log (nth (k + suc (length ls))) (outputs_at v (nth (k + suc (length ls)))) log))

-- one log more
pub log_more : (v : PlainWorld) (front : Front) (before : Logs) (i : ℕ) (log : List Record) → length before ≡ i → TakenAlike front (front_from v 0 before) →
    TakenAlike (fold (saw_first_record (nth i) (outputs_at v (nth i))) front log) (front_from v 0 (before ++ log ∷ []))
log_more v front before i log is h =
    let c : ComId = nth i in
    let p : Front = front_from v 0 before in
    let le : 0 + length before ≤ i = omega (arith, is) in
    let at : 0 + length before ≡ i = omega (arith, is) in
    subst (TakenAlike (fold (saw_first_record c (outputs_at v c)) front log))
    (sym (front-append v 0 before log ∙ ap (λ j. p ++ front_of_log (nth j) (outputs_at v (nth j)) log) at))
    (log-behind c (outputs_at v c) p front [] log (others v 0 before c le) (subst (TakenAlike front) (sym (append-nil p)) h))

-- Contents that agree on handlers and arguments give the same state; a number is of one message.
use Rattle.std.proofs.Common.{◌≡◌, refl, ◌∙◌, ap, sym, subst, ℕ, ◌+◌, ◌≤◌, Bool, true, false, cond, ◌&&◌, List, [], ◌∷◌, ◌++◌, length, drop, fold, Option, Some, None, option_map, option_and_then, arith, ◌⊎◌, inl, inr}
use Rattle.std.specs.Prelude.{Contains}
use Rattle.std.proofs.lemmas.List.{append_assoc, append-nil}
use Rattle.std.proofs.lemmas.List.Elements.{Contains-append_cases}
use Rattle.std.proofs.lemmas.Option.{same_Some}
use Rattle.ic_base.specs.declared.messages.ComId.{ComId}
use Rattle.ic_base.specs.declared.messages.Msg.{Msg}
use Rattle.ic_base.specs.declared.messages.Send.{Send}
use Rattle.ic_base.specs.declared.scenario.Program.{Program}
use Rattle.ic_base.specs.declared.record.Record.{Record}
use Rattle.ic_base.specs.declared.record.Record.TheVariants.{Take, TakeWhole, Input, Value, Outcome, Released, Shown, Checkpoint, Epoch, Decided}
use Rattle.ic_base.specs.Programs.{same_com}
use Rattle.def_plain.specs.declared.world.PlainPcom.{PlainPcom}
use Rattle.def_plain.specs.Cell.{Touch, cell_step}
use Rattle.def_state.specs.Names.{Numbers, number_of, count_up}
use Rattle.def_state.specs.Fits.{fits}
use Rattle.def_state.specs.Hist.{Hist, Contents, apply, apply_all, first_hist, recorded, played_on, moved, moved_well, is_at_request, hand_plays, numbers_fit, touch_of, standing_of, last_ended, stamp_all, links_of, new_messages}
use Rattle.law_replay.specs.Asking.{take_of, LikeContentsAgree, NumbersAreOwn}
use Rattle.law_replay.proofs.Lists.{none-some, passed}
use Rattle.law_replay.proofs.Growing.{apply_none}
use Rattle.law_replay.proofs.Lists.{in-head, in-tail, same-com}
use Rattle.law_replay.proofs.Lists.{head-or-tail}
use Rattle.law_replay.proofs.Lists.{empty}
use Rattle.law_replay.proofs.Numbers.{put-same, put-other}

-- contents --------------------------------------------------------------------------------------------

recorded-same : (program : Program) (c : ComId) (k l : Contents) (h : Hist) (r : Record) → ((s : ComId) (i stamp : ℕ) → r ≡ Take s i stamp → take_of k s i ≡ take_of l s i) → recorded program c k h r ≡ recorded program c l h r
recorded-same program c k l h (Take from i stamp) same = ap (played_on program c h stamp) (same from i stamp refl)
recorded-same program c k l h (TakeWhole from i stamp handler args) same = refl
recorded-same program c k l h (Input stamp handler args) same = refl
recorded-same program c k l h (Outcome stamp n None) same = refl
recorded-same program c k l h (Outcome stamp n (Some cause)) same = refl
recorded-same program c k l h (Value n place session value) same = refl
recorded-same program c k l h (Released to i) same = refl
recorded-same program c k l h (Shown m) same = refl
recorded-same program c k l h (Checkpoint image) same = refl
recorded-same program c k l h (Epoch epoch) same = refl
recorded-same program c k l h (Decided stamp d n writes) same = refl

pub all-same : (program : Program) (c : ComId) (k l : Contents) (rs : List Record) (o : Option Hist) → ((s : ComId) (i stamp : ℕ) → Contains rs (Take s i stamp) → take_of k s i ≡ take_of l s i) → apply_all program c k o rs ≡ apply_all program c l o rs
all-same program c k l [] o same = refl
all-same program c k l (r ∷ rs) None same = all-same program c k l rs None (λ s i stamp h. same s i stamp (in-tail r (Take s i stamp) rs h))
all-same program c k l (r ∷ rs) (Some h) same =
    ap (λ o. apply_all program c k (cond (fits program c (standing_of program c h) r) o None) rs) (recorded-same program c k l h r (λ s i stamp e. same s i stamp (subst (Contains (r ∷ rs)) e (in-head r rs))))
    ∙ all-same program c k l rs (apply program c l h r) (λ s i stamp h2. same s i stamp (in-tail r (Take s i stamp) rs h2))

pub after-same : LikeContentsAgree
after-same program c k l rs same = all-same program c k l rs (Some (first_hist program c)) same

-- numbers ---------------------------------------------------------------------------------------------

-- no number is above its link's, and none is of two messages
record Unique (ms : List Msg) (links : Numbers) : Type 0 where
  low : (m : Msg) → Contains ms m → m.k ≤ number_of 0 links m.to
  one : (m n : Msg) → Contains ms m → Contains ms n → m.to ≡ n.to → m.k ≡ n.k → m ≡ n

unique-more : (ms : List Msg) (links : Numbers) (x : Msg) → x.k ≡ number_of 0 links x.to + 1 → Unique ms links → Unique (ms ++ x ∷ []) (count_up x.to links)
unique-more ms links x is u = record {
  low = λ m h. low m (where-is m h);
  one = λ m n h k to num. one m n (where-is m h) (where-is n k) to num;
}
  where
    where-is : (m : Msg) → Contains (ms ++ x ∷ []) m → Contains ms m ⊎ (x ≡ m)
    where-is m h = at (Contains-append_cases ms (x ∷ []) m h)
      where
        last : (x ≡ m) ⊎ Contains [] m → Contains ms m ⊎ (x ≡ m)
        last (inl a) = inr a
        last (inr b) = empty m b

        at : Contains ms m ⊎ Contains (x ∷ []) m → Contains ms m ⊎ (x ≡ m)
        at (inl a) = inl a
        at (inr b) = last (head-or-tail x m [] b)

    new : number_of 0 (count_up x.to links) x.to ≡ x.k
    new = put-same x.to (number_of 0 links x.to + 1) links ∙ sym is

    low : (m : Msg) → Contains ms m ⊎ (x ≡ m) → m.k ≤ number_of 0 (count_up x.to links) m.to
    low m (inr same) = subst (λ (z : Msg). z.k ≤ number_of 0 (count_up x.to links) z.to) same (equal x.k (number_of 0 (count_up x.to links) x.to) (sym new))
      where
        equal : (a b : ℕ) → a ≡ b → a ≤ b
        equal a b e = omega (arith, e)
    low m (inl h) = at (same_com m.to x.to) refl
      where
        up : (a b d : ℕ) → a ≤ b → d ≡ b + 1 → a ≤ d
        up a b d l e = omega (arith, l, e)

        at : (b : Bool) → same_com m.to x.to ≡ b → m.k ≤ number_of 0 (count_up x.to links) m.to
        at true same = up m.k (number_of 0 links m.to) (number_of 0 (count_up x.to links) m.to) (u.low m h) (ap (number_of 0 (count_up x.to links)) (same-com m.to x.to same) ∙ new ∙ is ∙ ap (λ z. number_of 0 links z + 1) (sym (same-com m.to x.to same)))
        at false other = subst (λ z. m.k ≤ z) (sym (put-other m.to x.to (number_of 0 links x.to + 1) links other)) (u.low m h)

    above : {B : Type 0} (m : Msg) → Contains ms m → x.to ≡ m.to → x.k ≡ m.k → B
    above m h to num = absurd (never m.k (number_of 0 links m.to) (u.low m h) (sym num ∙ is ∙ ap (λ z. number_of 0 links z + 1) to))
      where
        never : (a b : ℕ) → a ≤ b → a ≡ b + 1 → ⊥
        never a b l e = omega (arith, l, e)

    one : (m n : Msg) → Contains ms m ⊎ (x ≡ m) → Contains ms n ⊎ (x ≡ n) → m.to ≡ n.to → m.k ≡ n.k → m ≡ n
    one m n (inl a) (inl b) to num = u.one m n a b to num
    one m n (inl a) (inr b) to num = above m a (ap (λ (z : Msg). z.to) b ∙ sym to) (ap (λ (z : Msg). z.k) b ∙ sym num)
    one m n (inr a) (inl b) to num = above n b (ap (λ (z : Msg). z.to) a ∙ to) (ap (λ (z : Msg). z.k) a ∙ num)
    one m n (inr a) (inr b) to num = sym a ∙ b

-- sends in order
unique-all : (c : ComId) (stamp : ℕ) (ms : List Msg) (links : Numbers) (ss : List Send) → Unique ms links → (more : Numbers) × Unique (ms ++ stamp_all c stamp links ss) more × (fold (λ l m. count_up m.to l) links (stamp_all c stamp links ss) ≡ more)
unique-all c stamp ms links [] u = (links, subst (λ l. Unique l links) (sym (append-nil ms)) u, refl)
unique-all c stamp ms links (s ∷ ss) u =
    let x : Msg = record { from = c; to = s.to; k = number_of 0 links s.to + 1; stamp = stamp; handler = s.handler; args = s.args } in
    let z = unique-all c stamp (ms ++ x ∷ []) (count_up s.to links) ss (unique-more ms links x refl u) in
    (z.0, subst (λ l. Unique l z.0) (append_assoc ms (x ∷ []) (stamp_all c stamp (count_up s.to links) ss)) z.1, z.2)

links-more : (xs ys : List Msg) (links : Numbers) → fold (λ l (m : Msg). count_up m.to l) links (xs ++ ys) ≡ fold (λ l (m : Msg). count_up m.to l) (fold (λ l (m : Msg). count_up m.to l) links xs) ys
links-more [] ys links = refl
links-more (x ∷ xs) ys links = links-more xs ys (count_up x.to links)

AllUnique : Hist → Type 0
AllUnique h = Unique h.sent (links_of h.sent)

played-unique : (program : Program) (c : ComId) (h g : Hist) (stamp : ℕ) (t : Option Touch) → AllUnique h → played_on program c h stamp t ≡ Some g → AllUnique g
unfolding AllUnique
played-unique program c h g stamp None u e = none-some g e
played-unique program c h g stamp (Some t) u e = at (cell_step program c h.plain t) e
  where
    at : (o : Option PlainPcom) → option_and_then (moved_well program c h stamp) o ≡ Some g → AllUnique g
    at None f = none-some g f
    at (Some p) f =
        let m = passed (numbers_fit (moved program c h stamp p) && is_at_request (option_map (hand_plays program c p.vars []) p.hand)) (Some (moved program c h stamp p)) g f in
        let z = unique-all c stamp h.sent (links_of h.sent) (drop (length h.plain.sent) p.sent) u in
        subst AllUnique (same_Some (moved program c h stamp p) g m.1) (subst (Unique (h.sent ++ new_messages c stamp h p)) (sym (links-more h.sent (new_messages c stamp h p) [] ∙ z.2)) z.1)

same-unique : (h x g : Hist) → x.sent ≡ h.sent → Some x ≡ Some g → AllUnique h → AllUnique g
unfolding AllUnique
same-unique h x g same e u = subst AllUnique (same_Some x g e) (subst (λ l. Unique l (links_of l)) (sym same) u)

recorded-unique : (program : Program) (c : ComId) (k : Contents) (h g : Hist) (r : Record) → AllUnique h → recorded program c k h r ≡ Some g → AllUnique g
recorded-unique program c k h g (Take from n stamp) u e = played-unique program c h g stamp (touch_of k h.now (Take from n stamp)) u e
recorded-unique program c k h g (TakeWhole from n stamp handler args) u e = played-unique program c h g stamp (touch_of k h.now (TakeWhole from n stamp handler args)) u e
recorded-unique program c k h g (Input stamp handler args) u e = played-unique program c h g stamp (touch_of k h.now (Input stamp handler args)) u e
recorded-unique program c k h g (Outcome stamp n abort) u e = played-unique program c (last_ended h) g stamp (touch_of k h.now (Outcome stamp n abort)) (same-unique h (last_ended h) (last_ended h) refl refl u) e
recorded-unique program c k h g (Value n place session value) u e = same-unique h _ g refl e u
recorded-unique program c k h g (Released to n) u e = same-unique h _ g refl e u
recorded-unique program c k h g (Shown n) u e = same-unique h _ g refl e u
recorded-unique program c k h g (Checkpoint image) u e = same-unique h h g refl e u
recorded-unique program c k h g (Epoch epoch) u e = none-some g e
recorded-unique program c k h g (Decided stamp d n writes) u e = none-some g e

all-unique : (program : Program) (c : ComId) (k : Contents) (rs : List Record) (h g : Hist) → AllUnique h → apply_all program c k (Some h) rs ≡ Some g → AllUnique g
all-unique program c k [] h g u e = same-unique h h g refl e u
all-unique program c k (r ∷ rs) h g u e = at (apply program c k h r) refl e (λ y. all-unique program c k rs y g)
  where
    at : (o : Option Hist) → apply program c k h r ≡ o → apply_all program c k o rs ≡ Some g → ((y : Hist) → AllUnique y → apply_all program c k (Some y) rs ≡ Some g → AllUnique g) → AllUnique g
    at None is f more = none-some g (sym (apply_none program c k rs) ∙ f)
    at (Some y) is f more = more y (recorded-unique program c k h y r u (passed (fits program c (standing_of program c h) r) (recorded program c k h r) y is).1) f

-- a number of a link is of one message
pub one-message : NumbersAreOwn
unfolding AllUnique
one-message program c k rs h e = (all-unique program c k rs (first_hist program c) h start e).one
  where
    start : AllUnique (first_hist program c)
    start = record { low = λ m h2. empty m h2; one = λ m n h2 k2 to num. empty m h2 }

-- The crash-free part of a replayed state is what the touches of its records make of the first one.
use Rattle.std.proofs.Common.{◌≡◌, refl, ◌∙◌, ap, sym, ℕ, Bool, true, false, cond, ◌&&◌, List, [], ◌∷◌, ◌++◌, Option, Some, None, option_map, option_and_then, option_to_list, filter, not, ◌==◌}
use Rattle.ic_base.specs.declared.messages.ComId.{ComId}
use Rattle.ic_base.specs.declared.scenario.Program.{Program}
use Rattle.ic_base.specs.declared.record.Record.{Record}
use Rattle.ic_base.specs.declared.record.Record.TheVariants.{Take, TakeWhole, Input, Value, Outcome, Released, Shown, Checkpoint, Epoch, Decided}
use Rattle.def_plain.specs.declared.world.PlainPcom.{PlainPcom}
use Rattle.def_plain.specs.Cell.{Touch, cell_step}
use Rattle.def_state.specs.Fits.{fits}
use Rattle.def_state.specs.Hist.{Hist, Contents, apply, apply_all, recorded, played_on, moved, moved_well, is_at_request, hand_plays, numbers_fit, touch_of, touches, cells, standing_of, last_ended, answered, identity_of}
use Rattle.def_state.specs.Names.{same_identity}

plain_of : Option Hist → Option PlainPcom
plain_of o = option_map (λ h. h.plain) o

none-some : {A B : Type 0} (x : A) → None ≡ Some x → B
none-some x e = absurd (cc)

-- what passes a test is what stands behind it
passed : {A : Type 0} (b : Bool) (o : Option A) (x : A) → cond b o None ≡ Some x → o ≡ Some x
passed true o x e = e
passed false o x e = none-some x e

-- a touch that is played on is the cell's step
played-cell : (program : Program) (c : ComId) (h g : Hist) (stamp : ℕ) (o : Option PlainPcom) → option_and_then (moved_well program c h stamp) o ≡ Some g → o ≡ Some g.plain
played-cell program c h g stamp None e = none-some g e
played-cell program c h g stamp (Some p) e =
    ap (option_map (λ x. x.plain)) (passed (numbers_fit (moved program c h stamp p) && is_at_request (option_map (hand_plays program c p.vars []) p.hand)) (Some (moved program c h stamp p)) g e)

played-touch : (program : Program) (c : ComId) (h g : Hist) (stamp : ℕ) (t : Option Touch) → played_on program c h stamp t ≡ Some g → cells program c (Some h.plain) (option_to_list t) ≡ Some g.plain
played-touch program c h g stamp None e = none-some g e
played-touch program c h g stamp (Some t) e = played-cell program c h g stamp (cell_step program c h.plain t) e

same-plain : (h g : Hist) → Some h ≡ Some g → Some h.plain ≡ Some g.plain
same-plain h g e = ap (option_map (λ x. x.plain)) e

-- one record
recorded-touch : (program : Program) (c : ComId) (k : Contents) (h g : Hist) (r : Record) → recorded program c k h r ≡ Some g → cells program c (Some h.plain) (option_to_list (touch_of k h.now r)) ≡ Some g.plain
recorded-touch program c k h g (Take from n stamp) e = played-touch program c h g stamp (touch_of k h.now (Take from n stamp)) e
recorded-touch program c k h g (TakeWhole from n stamp handler args) e = played-touch program c h g stamp (touch_of k h.now (TakeWhole from n stamp handler args)) e
recorded-touch program c k h g (Input stamp handler args) e = played-touch program c h g stamp (touch_of k h.now (Input stamp handler args)) e
recorded-touch program c k h g (Outcome stamp n abort) e = played-touch program c (last_ended h) g stamp (touch_of k h.now (Outcome stamp n abort)) e
recorded-touch program c k h g (Value n place session value) e = same-plain (answered program c h session (h.now ++ value ∷ [])) g e
recorded-touch program c k h g (Released to n) e = same-plain (record h { held = filter (λ m. not (same_identity (record { peer = to; k = n }) (identity_of m))) h.held }) g e
recorded-touch program c k h g (Shown m) e = same-plain (record h { unshown = filter (λ o. not (o.m == m)) h.unshown; shown = m }) g e
recorded-touch program c k h g (Checkpoint image) e = same-plain h g e
recorded-touch program c k h g (Epoch epoch) e = none-some g e
recorded-touch program c k h g (Decided stamp d n writes) e = none-some g e

applied-touch : (program : Program) (c : ComId) (k : Contents) (h g : Hist) (r : Record) → apply program c k h r ≡ Some g → cells program c (Some h.plain) (option_to_list (touch_of k h.now r)) ≡ Some g.plain
applied-touch program c k h g r e = recorded-touch program c k h g r (passed (fits program c (standing_of program c h) r) (recorded program c k h r) g e)

cells-append : (program : Program) (c : ComId) (o : Option PlainPcom) (xs ys : List Touch) → cells program c o (xs ++ ys) ≡ cells program c (cells program c o xs) ys
cells-append program c o [] ys = refl
cells-append program c o (x ∷ xs) ys = cells-append program c (option_and_then (λ q. cell_step program c q x) o) xs ys

apply_none : (program : Program) (c : ComId) (k : Contents) (rs : List Record) → apply_all program c k None rs ≡ None
apply_none program c k [] = refl
apply_none program c k (r ∷ rs) = apply_none program c k rs

pub plain-cells : (program : Program) (c : ComId) (k : Contents) (rs : List Record) (h g : Hist) → apply_all program c k (Some h) rs ≡ Some g → cells program c (Some h.plain) (touches program c k (Some h) rs) ≡ Some g.plain
plain-cells program c k [] h g e = same-plain h g e
plain-cells program c k (r ∷ rs) h g e = by_next (apply program c k h r) refl (λ x. plain-cells program c k rs x g) e
  where
    by_next : (o : Option Hist) → apply program c k h r ≡ o → ((x : Hist) → apply_all program c k (Some x) rs ≡ Some g → cells program c (Some x.plain) (touches program c k (Some x) rs) ≡ Some g.plain) → apply_all program c k o rs ≡ Some g → cells program c (Some h.plain) (option_to_list (touch_of k h.now r) ++ touches program c k o rs) ≡ Some g.plain
    by_next None is later f = none-some g (sym (apply_none program c k rs) ∙ f)
    by_next (Some x) is later f =
        cells-append program c (Some h.plain) (option_to_list (touch_of k h.now r)) (touches program c k (Some x) rs)
        ∙ ap (λ o. cells program c o (touches program c k (Some x) rs)) (applied-touch program c k h x r is)
        ∙ later x f

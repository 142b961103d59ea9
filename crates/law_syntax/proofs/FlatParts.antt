-- Where statements are placed no transaction stands within a part.
use Rattle.std.proofs.Common.{◌≡◌, refl, ap, sym, ◌∙◌, Bool, true, ◌&&◌, List, [], ◌∷◌, Some, None, is_none}
use Rattle.std.specs.List.{AllByRecursion}
use Rattle.ic_base.specs.declared.messages.ComId.{ComId}
use Rattle.ic_base.specs.declared.scenario.Program.{Program}
use Rattle.ic_base.specs.declared.scenario.Stmt.{Stmt}
use Rattle.ic_base.specs.declared.scenario.Stmt as stmt
use Rattle.ic_base.specs.declared.scenario.Stmt.TheOpen.{Set, Send, Out, Get, Put, Need}
use Rattle.ic_base.specs.declared.scenario.Stmt.TheVariants.{rolls-Set, rolls-Send, rolls-Out, rolls-Get, rolls-Put, rolls-Need}
use Rattle.ic_base.specs.declared.scenario.Stmt.TheFolds.{fold-roll-Stmt}
use Rattle.ic_base.specs.Programs.{is_a_tcom}
use Rattle.def_play.specs.Playing.{stmts_of, handler_of}
use Rattle.def_facts.specs.Flat.{flat_stmt, flat_body, flat, all_flat}
use Rattle.law_replay.proofs.ByKind.{Kinds, each_of}
use Rattle.law_replay.proofs.FlatShapes.{flat-If, flat-Txn}
use Rattle.law_replay.proofs.Lists.{true-false, front, back, both-true}
use Rattle.law_syntax.specs.Placed.{Place, shape, shapes}
use Rattle.law_syntax.specs.Grammatical.{PlacedHaveFlatParts}
use Rattle.law_syntax.proofs.Shapes.{shape-If, shape-Txn}

module _ (program : Program) (c : ComId) where
  record IsFlat (s : Stmt) : Type 0 where
    inner : (t : ComId) → (shape program c s).stands (Some t) ≡ true → (flat s).0 ≡ true
    outer : (x : Place) → (shape program c s).stands x ≡ true → (flat s).1 ≡ true

  all-inner : (ss : List Stmt) → AllByRecursion IsFlat ss → (t : ComId) → (shapes program c ss).stands (Some t) ≡ true → (all_flat ss).0 ≡ true
  all-inner [] h t e = refl
  all-inner (s ∷ ss) h t e =
      both-true (flat s).0 (all_flat ss).0 (h.0.inner t (front ((shape program c s).stands (Some t)) ((shapes program c ss).stands (Some t)) e)) (all-inner ss h.1 t (back ((shape program c s).stands (Some t)) ((shapes program c ss).stands (Some t)) e))

  all-outer : (ss : List Stmt) → AllByRecursion IsFlat ss → (x : Place) → (shapes program c ss).stands x ≡ true → (all_flat ss).1 ≡ true
  all-outer [] h x e = refl
  all-outer (s ∷ ss) h x e =
      both-true (flat s).1 (all_flat ss).1 (h.0.outer x (front ((shape program c s).stands x) ((shapes program c ss).stands x) e)) (all-outer ss h.1 x (back ((shape program c s).stands x) ((shapes program c ss).stands x) e))

  single : (s : Stmt) → flat s ≡ (true, true) → IsFlat s
  single s e = record { inner = λ t h. ap (λ (x : Bool × Bool). x.0) e; outer = λ x h. ap (λ (y : Bool × Bool). y.1) e }

  kinds : Kinds IsFlat
  kinds = record {
    set = λ i e. single (stmt.Set i e) (ap flat (sym (rolls-Set i e)) ∙ fold-roll-Stmt (Bool × Bool) (Bool × Bool) flat_stmt flat_body (Set i e));
    send = λ to n es. single (stmt.Send to n es) (ap flat (sym (rolls-Send to n es)) ∙ fold-roll-Stmt (Bool × Bool) (Bool × Bool) flat_stmt flat_body (Send to n es));
    out = λ to es. single (stmt.Out to es) (ap flat (sym (rolls-Out to es)) ∙ fold-roll-Stmt (Bool × Bool) (Bool × Bool) flat_stmt flat_body (Out to es));
    choice = λ e a b x y. record {
      inner = λ t h.
          let z = sym (ap (λ k. k.stands (Some t)) (shape-If program c e a b)) ∙ h in
          ap (λ (w : Bool × Bool). w.0) (flat-If e a b)
          ∙ both-true (all_flat a.stmts.items).0 (all_flat b.stmts.items).0 (all-inner a.stmts.items x t (front ((shapes program c a.stmts.items).stands (Some t)) ((shapes program c b.stmts.items).stands (Some t)) z)) (all-inner b.stmts.items y t (back ((shapes program c a.stmts.items).stands (Some t)) ((shapes program c b.stmts.items).stands (Some t)) z));
      outer = λ p h.
          let z = sym (ap (λ k. k.stands p) (shape-If program c e a b)) ∙ h in
          ap (λ (w : Bool × Bool). w.1) (flat-If e a b)
          ∙ both-true (all_flat a.stmts.items).1 (all_flat b.stmts.items).1 (all-outer a.stmts.items x p (front ((shapes program c a.stmts.items).stands p) ((shapes program c b.stmts.items).stands p) z)) (all-outer b.stmts.items y p (back ((shapes program c a.stmts.items).stands p) ((shapes program c b.stmts.items).stands p) z));
    };
    part = λ t a b x y. record {
      inner = λ u h. true-false (sym (ap (λ k. k.stands (Some u)) (shape-Txn program c t a b)) ∙ h);
      outer = λ p h.
          let sa = shapes program c a.stmts.items in
          let sb = shapes program c b.stmts.items in
          let z = sym (ap (λ k. k.stands p) (shape-Txn program c t a b)) ∙ h in
          let d = back (is_a_tcom program t) (sa.request && (sa.stands (Some t) && sb.stands None)) (back (is_none p) (is_a_tcom program t && (sa.request && (sa.stands (Some t) && sb.stands None))) z) in
          let k = back sa.request (sa.stands (Some t) && sb.stands None) d in
          let part = front (sa.stands (Some t)) (sb.stands None) k in
          ap (λ (w : Bool × Bool). w.1) (flat-Txn t a b)
          ∙ both-true ((all_flat a.stmts.items).0 && (all_flat a.stmts.items).1) (all_flat b.stmts.items).1 (both-true (all_flat a.stmts.items).0 (all_flat a.stmts.items).1 (all-inner a.stmts.items x t part) (all-outer a.stmts.items x (Some t) part)) (all-outer b.stmts.items y None (back (sa.stands (Some t)) (sb.stands None) k));
    };
    get = λ i key. single (stmt.Get i key) (ap flat (sym (rolls-Get i key)) ∙ fold-roll-Stmt (Bool × Bool) (Bool × Bool) flat_stmt flat_body (Get i key));
    put = λ key e. single (stmt.Put key e) (ap flat (sym (rolls-Put key e)) ∙ fold-roll-Stmt (Bool × Bool) (Bool × Bool) flat_stmt flat_body (Put key e));
    need = λ line e. single (stmt.Need line e) (ap flat (sym (rolls-Need line e)) ∙ fold-roll-Stmt (Bool × Bool) (Bool × Bool) flat_stmt flat_body (Need line e));
  }

pub placed_have_flat_parts : PlacedHaveFlatParts
placed_have_flat_parts program placed c handler =
    let ss = stmts_of (handler_of program c handler) in all-outer program c ss (each_of (IsFlat program c) (kinds program c) ss) None (placed c handler).stand

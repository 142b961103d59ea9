-- A program whose statements are placed is playable.
use Rattle.std.proofs.Common.{◌≡◌, refl, ◌∙◌, ap, sym, subst, ℕ, ◌<◌, ℤ, true, List, [], length, ◌⊎◌, inl, inr}
use Rattle.std.specs.Prelude.{Contains}
use Rattle.ic_base.specs.declared.messages.ComId.{ComId}
use Rattle.ic_base.specs.declared.messages.Done.{Done}
use Rattle.ic_base.specs.declared.messages.Done.TheVariants.{Committed, Aborted}
use Rattle.ic_base.specs.declared.messages.Out.{Out}
use Rattle.ic_base.specs.declared.messages.Request.{Request}
use Rattle.ic_base.specs.declared.messages.Send.{Send}
use Rattle.ic_base.specs.declared.played.Played.{Played}
use Rattle.ic_base.specs.declared.played.Played.TheVariants.{Asks, Ready, NeedFails, Ends}
use Rattle.ic_base.specs.declared.scenario.Program.{Program}
use Rattle.ic_base.specs.declared.scenario.Stmt.{Stmt}
use Rattle.ic_base.specs.Programs.{is_a_tcom, is_an_xcom, is_other_pcom, has_handler, has_key}
use Rattle.def_play.specs.Playing.{Turn, Goes, Stops, no_part, start, result_of, stmts_of, handler_of, played}
use Rattle.def_step.specs.Packets.{key_of}
use Rattle.def_facts.specs.Playable.{BeginsWithRequest, IsResult, AreResults}
use Rattle.law_replay.proofs.Lists.{empty}
use Rattle.law_syntax.specs.Placed.{IsPlaced}
use Rattle.law_syntax.specs.Grammatical.{PlacedArePlayable}
use Rattle.law_syntax.proofs.Handlings.{Meets, answers_in, IsOwn, Passes, Waits, StopsOn, handles-well}
use Rattle.law_syntax.proofs.Parts.{Run, run-all}
use Rattle.law_syntax.proofs.Sends.{Fit, GoesWell, goes-well}

ends-asks : {B : Type 0} (vars : List ℤ) (sends : List Send) (outs : List Out) (t : ComId) (q : Request) → Ends vars sends outs ≡ Asks t q → B
ends-asks vars sends outs t q e = absurd (cc)

ends-ready : {B : Type 0} (vars : List ℤ) (sends : List Send) (outs : List Out) (t : ComId) → Ends vars sends outs ≡ Ready t → B
ends-ready vars sends outs t e = absurd (cc)

module _ (program : Program) (placed : IsPlaced program) (c : ComId) (handler : ℕ) (vars args : List ℤ) where
  abbrev ss : List Stmt
  ss = stmts_of (handler_of program c handler)

  abbrev run : Run
  run = run-all program c args ss no_part (start vars [])

  -- the results of a handler are its own
  own : (done : List Done) → AreResults program c handler vars args done → IsOwn run done
  own done are pre post d e = by d (are pre post d e)
    where
      ready-meets : (now : List ℤ) (x : Turn) (t : ComId) → result_of x ≡ Ready t → Meets x (Committed now)
      ready-meets now (Goes u) t f = tt
      ready-meets now (Stops r) t f = subst (λ z. Meets (Stops z) (Committed now)) (sym f) tt

      asks-meets : (x : Turn) (t : ComId) (q : Request) → result_of x ≡ Asks t q → Meets x Aborted
      asks-meets (Goes u) t q f = tt
      asks-meets (Stops r) t q f = subst (λ z. Meets (Stops z) Aborted) (sym f) tt

      by : (x : Done) → IsResult program c handler vars args pre x → Meets (run pre (answers_in x)) x
      by (Committed now) is = ready-meets now (run pre now) is.0 is.1
      by Aborted is = asks-meets (run pre []) is.0 is.1 is.2

  played-is : (done : List Done) (now : List ℤ) → played program c handler vars args done now ≡ result_of (run done now)
  played-is done now = refl

  handles : (done : List Done) → AreResults program c handler vars args done → Passes run done ⊎ Waits program run done
  handles done are = handles-well program c ss (placed c handler).stand (placed c handler).few args no_part (start vars []) done (own done are)

  -- where all results are used the handler comes to its end
  passes-ends : (done : List Done) (now : List ℤ) (x : Passes run done) → result_of (run done now) ≡ Ends x.to.vars x.to.sends x.to.outs
  passes-ends done now x = ap (λ l. result_of (run l now)) x.rest ∙ ap result_of (x.goes x.to.left now)

  waits-stops : (done : List Done) (now : List ℤ) (x : Waits program run done) → (r : Played) × (result_of (run done now) ≡ r) × StopsOn program x.tcom now r
  waits-stops done now x = let z = x.stops now in (z.0, ap result_of z.1, z.2)

  first-request : (done : List Done) → AreResults program c handler vars args done → BeginsWithRequest (played program c handler vars args done [])
  first-request done are = at (handles done are)
    where
      begins : (t : ComId) (r : Played) → StopsOn program t [] r → BeginsWithRequest r
      begins t (Asks u q) h = tt
      begins t (Ready u) h = absurd (h.1 refl)
      begins t (NeedFails u line) h = absurd (h refl)
      begins t (Ends v s o) h = tt

      at : Passes run done ⊎ Waits program run done → BeginsWithRequest (result_of (run done []))
      at (inl x) = subst BeginsWithRequest (sym (passes-ends done [] x)) tt
      at (inr x) = let z = waits-stops done [] x in subst BeginsWithRequest (sym z.1) (begins x.tcom z.0 z.2)

  asks-there : (done : List Done) (now : List ℤ) (t : ComId) (q : Request) → AreResults program c handler vars args done → played program c handler vars args done now ≡ Asks t q → (w : Waits program run done) × (t ≡ w.tcom) × (has_key program w.tcom (key_of q) ≡ true) × (length now < 256)
  asks-there done now t q are e = at (handles done are)
    where
      at : Passes run done ⊎ Waits program run done → (w : Waits program run done) × (t ≡ w.tcom) × (has_key program w.tcom (key_of q) ≡ true) × (length now < 256)
      at (inl x) = ends-asks x.to.vars x.to.sends x.to.outs t q (sym (passes-ends done now x) ∙ e)
      at (inr x) = let z = waits-stops done now x in let h = subst (StopsOn program x.tcom now) (sym z.1 ∙ e) z.2 in (x, h.0, h.1, h.2)

  ready-there : (done : List Done) (now : List ℤ) (t : ComId) → (w : Waits program run done) → played program c handler vars args done now ≡ Ready t → t ≡ w.tcom
  ready-there done now t w e = let z = waits-stops done now w in let h = subst (StopsOn program w.tcom now) (sym z.1 ∙ e) z.2 in h.0

  same-there : (done : List Done) (now : List ℤ) (t : ComId) (q : Request) → (w : Waits program run done) → played program c handler vars args done now ≡ Asks t q → t ≡ w.tcom
  same-there done now t q w e = let z = waits-stops done now w in let h = subst (StopsOn program w.tcom now) (sym z.1 ∙ e) z.2 in h.0

  -- the end of a handler
  first-fit : (done : List Done) → Fit program c (record (start vars []) { left = done })
  first-fit done = record { sends = λ x h. empty x h; outs = λ x h. empty x h }

  ends-fit : (done : List Done) (now last : List ℤ) (sends : List Send) (outs : List Out) → played program c handler vars args done now ≡ Ends last sends outs
      → ((s : Send) → Contains sends s → (is_other_pcom program c s.to ≡ true) × (has_handler program s.to s.handler s.args ≡ true)) × ((o : Out) → Contains outs o → is_an_xcom program o.to ≡ true)
  ends-fit done now last sends outs e = at (run done now) e (goes-well program c ss (placed c handler).stand args now no_part (record (start vars []) { left = done }) (first-fit done))
    where
      sends-of : Played → List Send
      sends-of (Ends v s o) = s
      sends-of r = []

      outs-of : Played → List Out
      outs-of (Ends v s o) = o
      outs-of r = []

      no-end : (r : Played) → r ≡ Ends last sends outs → GoesWell program c (Stops r) → ⊥
      no-end r f h = subst (λ z. GoesWell program c (Stops z)) f h

      at : (x : Turn) → result_of x ≡ Ends last sends outs → GoesWell program c x
          → ((s : Send) → Contains sends s → (is_other_pcom program c s.to ≡ true) × (has_handler program s.to s.handler s.args ≡ true)) × ((o : Out) → Contains outs o → is_an_xcom program o.to ≡ true)
      at (Goes u) f h = ((λ s has. h.sends s (subst (λ l. Contains l s) (sym (ap sends-of f)) has)), (λ o has. h.outs o (subst (λ l. Contains l o) (sym (ap outs-of f)) has)))
      at (Stops r) f h = absurd (no-end r f h)

pub placed_are_playable : PlacedArePlayable
placed_are_playable program placed = record {
  asks_first = λ c handler vars args done are. first-request program placed c handler vars args done are;
  asks_keys = λ c handler vars args done now t q are e.
      let x = asks-there program placed c handler vars args done now t q are e in
      (subst (λ z. is_a_tcom program z ≡ true) (sym x.1) x.0.is_tcom, subst (λ z. has_key program z (key_of q) ≡ true) (sym x.1) x.2, x.3);
  asks_one = λ c handler vars args done now t u q r are e f.
      let x = asks-there program placed c handler vars args done [] t q are e in same-there program placed c handler vars args done now u r x.0 f ∙ sym x.1;
  ready_one = λ c handler vars args done now t u q are e f.
      let x = asks-there program placed c handler vars args done [] t q are e in ready-there program placed c handler vars args done now u x.0 f ∙ sym x.1;
  sends_fit = λ c handler vars args done now last sends outs e. (ends-fit program placed c handler vars args done now last sends outs e).0;
  outs_fit = λ c handler vars args done now last sends outs e. (ends-fit program placed c handler vars args done now last sends outs e).1;
}

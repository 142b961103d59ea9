-- The records of a step, added at once, are these added one by one.
use Rattle.std.proofs.Common.{◌≡◌, ◌∙◌, sym, ap, ℕ, List, [], ◌∷◌, ◌++◌, append_assoc, Option, Some, None}
use Rattle.std.proofs.lemmas.List.{append-nil}
use Rattle.ic_base.specs.declared.messages.ComId.{ComId}
use Rattle.ic_base.specs.declared.messages.Msg.{Msg}
use Rattle.ic_base.specs.declared.record.Record.{Record}
use Rattle.ic_base.specs.declared.scenario.Program.{Program}
use Rattle.def_state.specs.Names.{Identity}
use Rattle.def_state.specs.Outbox as sent
use Rattle.def_state.specs.Positions.{end_of}
use Rattle.def_state.specs.Vol.{Vol, record_in}
use Rattle.def_step.specs.Pcom.{Pcom, all_of, absorb, marked}
use Rattle.ic_pcom.specs.Carrying.{absorbed}

-- the last of these records leads from the state v to w, at the end of a log
abbrev pub AreLed : Program → ComId → Option Msg → Option Identity → Pcom → List Record → Vol → Type 0
AreLed program c content marks p [] w = w ≡ (marked p marks).vol
AreLed program c content marks p (r ∷ []) w = (marks ≡ None) × (w ≡ record_in program c (end_of (all_of p.log ++ r ∷ [])) content p.vol r)
AreLed program c content marks p (r ∷ s ∷ []) w =
    (marks ≡ None) × ((at : ℕ) → w ≡ record_in program c (end_of (all_of p.log ++ r ∷ s ∷ [])) content (record_in program c at content p.vol r) s)
AreLed program c content marks p (r ∷ s ∷ t ∷ rs) w = ⊥

with_mark : (p : Pcom) (marks : Option Identity) → marked p marks ≡ absorbed p [] (marked p marks).vol
with_mark p None = ap (λ b. record p { log = record p.log { buffered = b } }) (sym (append-nil p.log.buffered))
with_mark p (Some x) = ap (λ b. record p { log = record p.log { buffered = b }; vol = record p.vol { outbox = sent.stable p.vol.outbox x } }) (sym (append-nil p.log.buffered))

pub absorbs_at_once : (program : Program) (c : ComId) (content : Option Msg) (marks : Option Identity) (p : Pcom) (adds : List Record) (w : Vol) → AreLed program c content marks p adds w
    → absorb program c content (marked p marks) adds ≡ absorbed p adds w
absorbs_at_once program c content marks p [] w led = with_mark p marks ∙ ap (absorbed p []) (sym led)
absorbs_at_once program c content marks p (r ∷ []) w led =
    ap (λ m. absorb program c content (marked p m) (r ∷ [])) led.0 ∙ ap (absorbed p (r ∷ [])) (sym led.1)
absorbs_at_once program c content marks p (r ∷ s ∷ []) w led =
    let at = end_of (all_of p.log ++ r ∷ []) in
    let v1 = record_in program c at content p.vol r in
    let b : p.log.buffered ++ r ∷ [] ++ s ∷ [] ≡ p.log.buffered ++ r ∷ s ∷ [] = append_assoc p.log.buffered (r ∷ []) (s ∷ []) in
    let all : p.log.forced ++ (p.log.buffered ++ r ∷ []) ++ s ∷ [] ≡ all_of p.log ++ r ∷ s ∷ [] =
    append_assoc p.log.forced (p.log.buffered ++ r ∷ []) (s ∷ []) ∙ ap (λ l. p.log.forced ++ l) b ∙ sym (append_assoc p.log.forced p.log.buffered (r ∷ s ∷ [])) in
    ap (λ m. absorb program c content (marked p m) (r ∷ s ∷ [])) led.0
    ∙ ap (λ l. record p { log = record p.log { buffered = p.log.buffered ++ r ∷ [] ++ s ∷ [] }; vol = record_in program c (end_of l) content v1 s }) all
    ∙ ap (λ l. record p { log = record p.log { buffered = l }; vol = record_in program c (end_of (all_of p.log ++ r ∷ s ∷ [])) content v1 s }) b
    ∙ ap (absorbed p (r ∷ s ∷ [])) (sym (led.1 at))
absorbs_at_once program c content marks p (r ∷ s ∷ t ∷ rs) w led = absurd led

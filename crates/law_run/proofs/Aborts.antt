-- Each abort of a run has its cause.
use Rattle.std.proofs.Common.{refl, ap, subst, ℕ, List, [], ◌∷◌, ◌++◌, Option, ◌⊎◌, inl, inr, ⊎_elim}
use Rattle.std.specs.Prelude.{Contains}
use Rattle.std.proofs.lemmas.List.Elements.{Contains-append_cases}
use Rattle.ic_base.specs.declared.messages.ComId.{ComId}
use Rattle.ic_base.specs.declared.messages.AbortCause.{AbortCause}
use Rattle.ic_base.specs.declared.messages.AbortCause.TheVariants.{Need, Held, Epoch as Epochs}
use Rattle.ic_base.specs.declared.messages.Decision.TheVariants.{Aborted}
use Rattle.ic_base.specs.declared.messages.Packet.{Packet}
use Rattle.ic_base.specs.declared.messages.Packet.TheVariants.{Outcome}
use Rattle.ic_base.specs.declared.messages.Session.{Session}
use Rattle.ic_base.specs.declared.scenario.Program.{Program}
use Rattle.def_step.specs.Pcom.{Pcom}
use Rattle.def_step.specs.Settle.{PolicyIntervals}
use Rattle.def_run.specs.SystemStates.{SystemState, Transition, last_state}
use Rattle.def_run.specs.Executions.{Agenda}
use Rattle.def_facts.specs.Flat.{HasFlatParts}
use Rattle.def_facts.specs.Logs.{Logs}
use Rattle.def_facts.specs.Playable.{IsPlayable}
use Rattle.law_replay.proofs.Lists.{empty}
use Rattle.law_step.specs.Causes.{TellsCauses, IsTold}
use Rattle.law_step.specs.Steps.{here_behind}
use Rattle.law_step.proofs.Causes.{events_tell_causes}
use Rattle.law_run.specs.Aborts.{WasRefused, ComesOf, AbortsHaveCauses}
use Rattle.law_run.specs.Executions.{here_along}
use Rattle.law_run.proofs.Along.{Left, behind-one, behind-all}
use Rattle.law_run.specs.ProgramBytes.{HasBytes}

-- the next transition tells the causes of its aborts
tells : (program : Program) (fingerprint : List ℕ) (x : PolicyIntervals) (b : Agenda) (found : Logs) (here : ComId → ℕ) (p : SystemState) (v : Transition) (ws : List Transition) → Left program fingerprint x b found here p (v ∷ ws) → TellsCauses program p.world v.trace.event (record { world = v.state.world; trace = v.trace })
tells program fingerprint x b found here p v ws l = events_tell_causes program found here p.world v.trace.event l.runs.2.outcome (record { world = v.state.world; trace = v.trace }) l.explained.explained l.runs.2.happens

-- an abort that was put out was there before, or one of the transitions put it out
put-out : (program : Program) (fingerprint : List ℕ) (x : PolicyIntervals) (b : Agenda) (found : Logs) (here : ComId → ℕ) (p : SystemState) (us ws : List Transition) (t c : ComId) (n place : ℕ) (session : Option Session) (cause : AbortCause) → IsPlayable program → HasFlatParts program → HasBytes program →
    Left program fingerprint x b found here p (us ++ ws) → Contains (last_state p us).world.packets (Outcome t c n place session (Aborted cause)) → Contains p.world.packets (Outcome t c n place session (Aborted cause)) ⊎ WasRefused program p us t c n place session cause
put-out program fingerprint x b found here p [] ws t c n place session cause play flat bytes l h = inl h
put-out program fingerprint x b found here p (v ∷ us) ws t c n place session cause play flat bytes l h =
    let s = tells program fingerprint x b found here p v (us ++ ws) l in
    let l1 = behind-one program fingerprint x b found here p v (us ++ ws) play flat bytes l in
    ⊎_elim
    (λ k. ⊎_elim (λ y. inl y) (λ y. inr (record { front = []; v = v; back = us; is = refl; refuses = s.refuses t c n place session cause y }))
    (Contains-append_cases p.world.packets v.trace.puts (Outcome t c n place session (Aborted cause)) (subst (λ xs. Contains xs (Outcome t c n place session (Aborted cause))) s.grows k)))
    (λ r. inr (record { front = v ∷ r.front; v = r.v; back = r.back; is = ap (λ xs. v ∷ xs) r.is; refuses = r.refuses }))
    (put-out program fingerprint x b found (here_behind here p.world v.state.world) v.state us ws t c n place session cause play flat bytes l1 h)

pub aborts_have_causes : AbortsHaveCauses
aborts_have_causes program fingerprint x a b p us ws w found here play flat bytes may keeps runs f none n cause told =
    let y = (tells program fingerprint x b found (here_along here p us) (last_state p us) w ws l).aborts n cause told in (y, at y.who y.pcom cause y.packet y.came y.why)
  where
    whole : Left program fingerprint x b found here p (us ++ (w ∷ ws))
    whole = record { agenda = a; may = may; keeps = keeps; runs = runs; explained = f }

    l : Left program fingerprint x b found (here_along here p us) (last_state p us) (w ∷ ws)
    l = behind-all program fingerprint x b found here p us (w ∷ ws) play flat bytes whole

    was : (t c : ComId) (m place : ℕ) (session : Option Session) (k : AbortCause) → Contains (last_state p us).world.packets (Outcome t c m place session (Aborted k)) → WasRefused program p us t c m place session k
    was t c m place session k h = ⊎_elim (λ z. empty _ (subst (λ xs. Contains xs (Outcome t c m place session (Aborted k))) none z)) (λ z. z) (put-out program fingerprint x b found here p us (w ∷ ws) t c m place session k play flat bytes whole h)

    at : (c : ComId) (q : Pcom) (k : AbortCause) (packet : Packet) → Contains (last_state p us).world.packets packet → IsTold program c q packet n k → ComesOf program p us packet n k
    at c q (Need line) packet h why = tt
    at c q (Held holder j) packet h why = (why.0, why.1, why.2, why.3, why.4, was why.0 why.1 n why.2 why.3 (Held holder j) (subst (Contains (last_state p us).world.packets) why.4 h))
    at c q (Epochs old present) packet h why = (why.0, why.1, why.2, why.3, why.4, was why.0 why.1 n why.2 why.3 (Epochs old present) (subst (Contains (last_state p us).world.packets) why.4 h))

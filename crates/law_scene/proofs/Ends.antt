-- The scene ends as the crash-free world of its log does, whose total is 12.
use Rattle.std.proofs.Common.{◌≡◌, refl, ◌∙◌, sym, subst, ℕ, ℤ, pos, List, [], ◌∷◌, Some, None, inl}
use Rattle.std.specs.Prelude.{Result, Ok}
use Rattle.std.specs.declared.alloc.Global.{Global}
use Rattle.ic_base.specs.declared.messages.Act.TheVariants as act
use Rattle.ic_base.specs.declared.messages.Entry.{Entry}
use Rattle.def_play.proofs.Handlers.{add_plays}
use Rattle.def_plain.specs.declared.world.PlainCom.TheVariants.{Pcom}
use Rattle.def_plain.specs.declared.world.PlainPcom.{PlainPcom}
use Rattle.def_plain.specs.Cell.{TakesInput}
use Rattle.def_plain.specs.History.{entry, history_of}
use Rattle.def_plain.specs.Plain.{PlainWorld, plain_run_of, plain_step}
use Rattle.def_plain.specs.Scenes.{com_at, summed}
use Rattle.def_plain.proofs.Steps.{cell-input, touched-is, run-step}
use Rattle.def_facts.specs.World.{forced_logs}
use Rattle.def_run.specs.CrashFree.{EndsCrashFree}
use Rattle.law_run.proofs.Complete.{text_runs_end}
use Rattle.law_scene.specs.Tally.{EndsAtTwelve, program, scenario, schedule, events, intervals, begins, run, ends, nothing_left}
use Rattle.law_scene.proofs.Texts.{texts_are_read}
use Rattle.law_scene.proofs.Whole.{runs_whole}

abbrev idle : ℤ → PlainPcom
idle total = record { vars = total ∷ []; hand = None; sent = []; receipts = []; outs = []; begun = 0 }

first : (a : Global) → plain_step (program a) (Pcom (idle (pos 0)) ∷ []) (entry (com_at 0) 1 (act.Input 0 (pos 5 ∷ []))) ≡ Some (Pcom (idle (pos 5)) ∷ [])
first a = touched-is (program a) (Pcom (idle (pos 0)) ∷ []) (com_at 0) (idle (pos 0)) _ (TakesInput 0 (pos 5 ∷ [])) refl (cell-input (program a) (com_at 0) (idle (pos 0)) 0 (pos 5 ∷ []) _ refl (add_plays (pos 0 ∷ []) (pos 5 ∷ []) [] []))

second : (a : Global) → plain_step (program a) (Pcom (idle (pos 5)) ∷ []) (entry (com_at 0) 2 (act.Input 0 (pos 7 ∷ []))) ≡ Some (Pcom (idle (pos 12)) ∷ [])
second a = touched-is (program a) (Pcom (idle (pos 5)) ∷ []) (com_at 0) (idle (pos 5)) _ (TakesInput 0 (pos 7 ∷ [])) refl (cell-input (program a) (com_at 0) (idle (pos 5)) 0 (pos 7 ∷ []) _ refl (add_plays (pos 5 ∷ []) (pos 7 ∷ []) [] []))

abbrev last : Entry
last = entry (com_at 0) 2 (act.Input 0 (pos 7 ∷ []))

sums : (a : Global) (f : List ℕ) → plain_run_of (program a) (history_of (program a) (forced_logs (ends a f).world)) ≡ Ok summed
sums a f =
    run-step (program a) 0 (Pcom (idle (pos 0)) ∷ []) (Pcom (idle (pos 5)) ∷ []) (entry (com_at 0) 1 (act.Input 0 (pos 5 ∷ []))) (last ∷ []) (first a)
    ∙ run-step (program a) 1 (Pcom (idle (pos 5)) ∷ []) (Pcom (idle (pos 12)) ∷ []) last [] (second a)

same : (v w : PlainWorld) → ◌≡◌ {A = Result PlainWorld ℕ} (Ok v) (Ok w) → v ≡ w
same v w e = cc e

pub ends_at_twelve : EndsAtTwelve
ends_at_twelve a f long =
    let texts = texts_are_read a in
    let whole = runs_whole a f long in
    let end = text_runs_end scenario schedule (program a) f ([] ∷ []) intervals events (begins a f) (run a f) texts.0 texts.1 (inl (long, whole.started)) (record { agenda = nothing_left; executes = whole.executes; nothing = whole.nothing }) in
    (end.0, subst (EndsCrashFree (program a) (forced_logs (begins a f).world) (ends a f).world) (same end.1.0 summed (sym end.1.1.sound.legal ∙ sums a f)) end.1.1)

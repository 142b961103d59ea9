-- A step whose records are added at once, and lead to a state that was computed before.
use Rattle.std.specs.Prelude.{ℕ, Bool, cond, List, [], ◌∷◌, ◌++◌, Option, Some, None}
use Rattle.ic_base.specs.declared.messages.ComId.{ComId}
use Rattle.ic_base.specs.declared.record.Record.{Record}
use Rattle.def_state.specs.Names.{Identity}
use Rattle.def_state.specs.Outbox
use Rattle.def_state.specs.Positions.{end_of}
use Rattle.def_state.specs.Vol.{Vol}
use Rattle.def_step.specs.Pcom.{Pcom, Log, Effects, StepResult, told, after_tail, tail_packets, put_out, force_where, all_of}
use Rattle.ic_replay.specs.Applying.{applied}
use Rattle.ic_replay.specs.declared.prepared.Prepared.{Prepared}

-- the last of some records
abbrev pub last_in : List Record → Option Record
last_in [] = None
last_in (r ∷ []) = Some r
last_in (r ∷ s ∷ rs) = last_in (s ∷ rs)

-- a component that is up, with this log and this state
abbrev pub up : Log → Vol → Pcom
up l v = record { log = l; vol = v; rest = [] }

-- the component with these records behind its log, in this state
abbrev pub absorbed : Pcom → List Record → Vol → Pcom
absorbed p adds w = record p { log = record p.log { buffered = p.log.buffered ++ adds }; vol = w }

-- the state to which this record leads, where there is one
abbrev pub led_by : ComId → ℕ → Prepared → Vol → Option Record → Vol
led_by c at p v None = v
led_by c at p v (Some r) = applied c at p v r

-- the state to which the last of these records leads, behind a log
abbrev pub led : ComId → Prepared → Log → Vol → List Record → Vol
led c p l v adds = led_by c (end_of (all_of l ++ adds)) p v (last_in adds)

-- the state in which this message of its own, if any, is known to be stable
abbrev pub marked_in : Option Identity → Vol → Vol
marked_in None v = v
marked_in (Some x) v = record v { outbox = Outbox.stable v.outbox x }

-- what is forced and put out behind the records, where the step began in the state v
abbrev pub finished : ComId → Vol → Effects → Pcom → StepResult
finished c v d p = put_out c v d (force_where v d p)

-- what is put out, where the step came to a request or to a Commit, or didn't
abbrev pub put_with : ComId → Bool → Effects → Pcom → StepResult
put_with c came d p = cond d.is_quiet (told p d.answers d) (told (after_tail p) (d.answers ++ tail_packets c came p) d)

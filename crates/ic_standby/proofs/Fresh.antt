-- A record that fits takes a message that is new.
use Rattle.std.proofs.Common.{◌≡◌, refl, Bool, true, false}
use Rattle.std.specs.Prelude.{not, ◌&&◌, nat_lt}
use Rattle.std.proofs.lemmas.Bool.{and_parts}
use Rattle.ic_base.specs.declared.messages.ComId.{ComId}
use Rattle.ic_base.specs.declared.record.Record.{Record}
use Rattle.ic_base.specs.declared.record.Record.TheVariants.{Take, TakeWhole, Input, Value, Outcome, Released, Shown, Checkpoint, Epoch, Decided}
use Rattle.ic_base.specs.declared.scenario.Program.{Program}
use Rattle.ic_base.specs.Programs.{is_immediate, is_other_pcom, has_handler}
use Rattle.def_log.specs.Spelling.{Fits}
use Rattle.def_state.specs.Fits.{fits, may_take}
use Rattle.def_state.specs.Vol.{Vol, standing}
use Rattle.ic_replay.specs.Applying.{TakesNew}

never : (b i o : Bool) → (b && (i && (o && false))) ≡ true → ⊥
never true true true is = cc
never true true false is = cc
never true false o is = cc
never false i o is = cc

fresh : (b i o t : Bool) → (b && (i && (o && not t))) ≡ true → t ≡ false
fresh b i o false is = refl
fresh b i o true is = absurd (never b i o is)

pub takes_new : (program : Program) (c : ComId) (v : Vol) (r : Record) → Fits r → fits program c (standing program c v) r ≡ true → TakesNew v r
takes_new program c v (Take from k stamp) fit is =
    let s = standing program c v in
    record {
      first = fit.1.0;
      last = fit.1.1;
      new = fresh s.is_free (not (is_immediate program c)) (is_other_pcom program c from) (s.has_taken (record { peer = from; k = k })) (and_parts (nat_lt s.clock stamp) (may_take program c s false from k) is).1;
    }
takes_new program c v (TakeWhole from k stamp handler args) fit is =
    let s = standing program c v in
    record {
      first = fit.1.0;
      last = fit.1.1;
      new = fresh s.is_free (is_immediate program c) (is_other_pcom program c from) (s.has_taken (record { peer = from; k = k }))
          (and_parts (may_take program c s true from k) (has_handler program c handler args) (and_parts (nat_lt s.clock stamp) (may_take program c s true from k && has_handler program c handler args) is).1).0;
    }
takes_new program c v (Input stamp handler args) fit is = tt
takes_new program c v (Value n place session value) fit is = tt
takes_new program c v (Outcome stamp n abort) fit is = tt
takes_new program c v (Released to k) fit is = tt
takes_new program c v (Shown m) fit is = tt
takes_new program c v (Checkpoint image) fit is = tt
takes_new program c v (Epoch epoch) fit is = tt
takes_new program c v (Decided stamp d n writes) fit is = tt

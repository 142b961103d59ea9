-- Which kinds a name of an event may have.
use Rattle.std.specs.Prelude.{Bool}
use Rattle.ic_base.specs.declared.messages.Kind.{Kind}
use Rattle.ic_plan.specs.declared.names.Wanted.{Wanted}
use Rattle.ic_plan.specs.declared.names.Wanted.TheVariants.{Pcom, Inside}
use Rattle.def_syntax.specs.Schedule.{is_inside, is_pcom}

abbrev pub kind_test : Wanted → Kind → Bool
kind_test Pcom = is_pcom
kind_test Inside = is_inside

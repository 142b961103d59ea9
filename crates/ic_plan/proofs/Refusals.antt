-- The refusals of one text are refusals of the texts.
use Rattle.std.proofs.Common.{◌≡◌, sym, subst, ℕ, ◌<◌, List, length, arith}
use Rattle.ic_base.specs.declared.limits.TheConstants.{TEXT_BYTES}
use Rattle.std.specs.Prelude.{Option, Some, None, Err}
use Rattle.std.proofs.lemmas.Bool.Decides.{nat_tests}
use Rattle.ic_base.specs.declared.refusals.Cause.TheVariants.{Limit}
use Rattle.ic_base.specs.declared.scenario.Program.{Program}
use Rattle.ic_base.specs.declared.report.Policy.{Policy}
use Rattle.ic_base.specs.declared.events.Schedule.{Schedule}
use Rattle.def_policy.specs.Policies.{defaults}
use Rattle.def_syntax.specs.Commands.{TextNames}
use Rattle.def_syntax.specs.Scenario.{IsScenario, IsRefused}
use Rattle.def_syntax.specs.Schedule.{Forms, schedule_in}
use Rattle.ic_syntax.proofs.Walks.{too_long}
use Rattle.ic_disk.specs.Causes.{IsTooLong}
use Rattle.ic_plan.specs.Asking.{Held, Holds, SaysProgram, SaysSchedule, IsPolicyOf}
use Rattle.ic_plan.specs.Refusing.{RefusesScenario, RefusesSchedule, RefusesPolicy, RefusesNamed, Refuses, AreRefused}
use Rattle.ic_plan.specs.declared.run_texts.TextsRefused.{TextsRefused}
use Rattle.ic_plan.specs.declared.run_texts.TextsRefused.TheVariants as refused

pub long-scenario : (held : Held) (name : List ℕ) → IsTooLong (held name) TEXT_BYTES → Holds held name (λ text. IsRefused text 0 Limit)
long-scenario held name long = record { text = long.0; there = long.1; says = too_long long.0 long.2 }

schedule-too-long : (fs : Forms) (p : Program) (text : List ℕ) → TEXT_BYTES < length text → schedule_in fs p text ≡ Err (0, Limit)
unfolding schedule_in
schedule-too-long fs p text lt = grind (arith, nat_tests)

pub long-schedule : (fs : Forms) (p : Program) (held : Held) (name : List ℕ) → IsTooLong (held name) TEXT_BYTES → Holds held name (λ text. schedule_in fs p text ≡ Err (0, Limit))
long-schedule fs p held name long = record { text = long.0; there = long.1; says = schedule-too-long fs p long.0 long.2 }

-- the scenario, without its fingerprint
pub scenario-alone : (held : Held) (name : List ℕ) (p : Program) (f : List ℕ) → Holds held name (SaysProgram p f) → Holds held name (λ text. IsScenario text p)
scenario-alone held name p f h = record { text = h.text; there = h.there; says = h.says.scenario }

-- what texts hold stays
pub refused-before : (P : TextsRefused → List ℕ → Type 0) (held now : Held) (name : List ℕ) (e : TextsRefused) → now ≡ held → Refuses P now name e → Refuses P held name e
refused-before P held now name e same r = let Q : Held → Type 0 = λ h. Refuses P h name e in subst Q same r

pub held-before : (P : List ℕ → Type 0) (held now : Held) (name : List ℕ) → now ≡ held → Holds now name P → Holds held name P
held-before P held now name same h = let Q : Held → Type 0 = λ x. Holds x name P in subst Q same h

pub default-policy : (held : Held) (o : Option (List ℕ)) (p : Policy) → o ≡ None → p ≡ defaults → IsPolicyOf held o p
default-policy held o p is e = let Q : Option (List ℕ) → Type 0 = λ x. IsPolicyOf held x p in subst Q (sym is) e

pub named-policy : (held now : Held) (o : Option (List ℕ)) (name : List ℕ) (p q : Policy) → o ≡ Some name → p ≡ q → now ≡ held → IsPolicyOf now (Some name) q → IsPolicyOf held o p
named-policy held now o name p q is e same h =
    let Q : Option (List ℕ) → Type 0 = λ x. IsPolicyOf held x p in
    let R : Policy → Type 0 = λ x. IsPolicyOf held (Some name) x in
    let S : Held → Type 0 = λ x. IsPolicyOf x (Some name) q in
    subst Q (sym is) (subst R (sym e) (subst S same h))

pub at-scenario : (fs : Forms) (names : TextNames) (held : Held) (e : TextsRefused) → Refuses RefusesScenario held names.scenario e → AreRefused fs names held e
at-scenario fs names held (refused.Scenario line cause) r = r
at-scenario fs names held (refused.Schedule line cause) r = absurd r.says
at-scenario fs names held (refused.Policy p) r = absurd r.says
at-scenario fs names held refused.Read r = tt
at-scenario fs names held refused.Memory r = tt

pub at-schedule : (fs : Forms) (names : TextNames) (held : Held) (p : Program) → Holds held names.scenario (λ text. IsScenario text p)
    → (e : TextsRefused) → Refuses (RefusesSchedule fs p) held names.schedule e → AreRefused fs names held e
at-schedule fs names held p s (refused.Scenario line cause) r = absurd r.says
at-schedule fs names held p s (refused.Schedule line cause) r = record { program = p; scenario = s; refused = r }
at-schedule fs names held p s (refused.Policy e) r = absurd r.says
at-schedule fs names held p s refused.Read r = tt
at-schedule fs names held p s refused.Memory r = tt

named : (held : Held) (o : Option (List ℕ)) (name : List ℕ) → o ≡ Some name → (e : TextsRefused) → Holds held name (RefusesPolicy e) → RefusesNamed held o e
named held o name is e r = let P : Option (List ℕ) → Type 0 = λ x. RefusesNamed held x e in subst P (sym is) r

pub at-policy : (fs : Forms) (names : TextNames) (held : Held) (p : Program) → Holds held names.scenario (λ text. IsScenario text p) → (s : Schedule) → Holds held names.schedule (SaysSchedule fs p s)
    → (name : List ℕ) → names.policy ≡ Some name → (e : TextsRefused) → Refuses RefusesPolicy held name e → AreRefused fs names held e
at-policy fs names held p s es eh name is (refused.Scenario line cause) r = absurd r.says
at-policy fs names held p s es eh name is (refused.Schedule line cause) r = absurd r.says
at-policy fs names held p s es eh name is (refused.Policy e) r =
    record { program = p; scenario = s; refused = record { schedule = es; events = eh; refused = named held names.policy name is (refused.Policy e) r } }
at-policy fs names held p s es eh name is refused.Read r = tt
at-policy fs names held p s es eh name is refused.Memory r = tt

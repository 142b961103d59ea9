-- What an image of a state has room for.
use Rattle.std.specs.Prelude.{◌<◌, ◌^◌, ⊤, length}
use Rattle.std.specs.List.{All}
use Rattle.ic_base.specs.declared.limits.TheConstants.{LOG_BYTES}
use Rattle.def_state.specs.Image.{senders_of, image_of}
use Rattle.def_state.specs.Vol.{Vol}
use Rattle.ic_gate.specs.declared.refusals.StepRefused.{StepRefused}
use Rattle.ic_gate.specs.declared.refusals.StepRefused.TheVariants.{Failed, Stopped, Full, Memory}
use Rattle.ic_in.specs.Senders.{above_bound}

-- the counts that an image has in four bytes go into these
pub record HasWords (v : Vol) : Type 0 where
  pub waiting : length v.shelf.waiting < 2 ^ 32
  pub held : length v.outbox.held < 2 ^ 32
  pub above : All (λ x. length (above_bound x.1) < 2 ^ 32) (senders_of v.inbox)

-- and those that it has in one byte
pub record HasBytes (v : Vol) : Type 0 where
  pub vars : length v.vars < 2 ^ 8
  pub links : length v.outbox.links < 2 ^ 8

-- why there is no image of a state: it would be longer than a log may be
abbrev pub FailsToImage : Vol → StepRefused → Type 0
FailsToImage v Failed = ⊥
FailsToImage v Stopped = ⊥
FailsToImage v Full = LOG_BYTES < length (image_of v)
FailsToImage v Memory = ⊤

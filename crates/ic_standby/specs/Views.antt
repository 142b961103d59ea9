-- What contracts see of a standby.
use Rattle.ic_base.specs.declared.messages.ComId.{ComId}
use Rattle.ic_ckpt.specs.Views.{seen}
use Rattle.def_standby.specs.Standbys as def
use Rattle.ic_standby.specs.declared.standby.Standby.{Standby}

-- the state, and the number of records that were played
abbrev pub standby_of : Standby → def.Standby
standby_of s = record { state = seen s.state; have = s.have }

-- whose standby it is
abbrev pub com_of : Standby → ComId
com_of s = s.«com»

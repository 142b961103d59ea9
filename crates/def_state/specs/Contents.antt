-- The contents of messages as the crash-free world has them.
use Rattle.std.specs.Prelude.{ℕ, option_map}
use Rattle.ic_base.specs.declared.messages.ComId.{ComId}
use Rattle.ic_base.specs.declared.messages.Msg.{Msg}
use Rattle.ic_base.specs.declared.messages.Send.{Send}
use Rattle.def_plain.specs.Plain.{PlainWorld, message_of}
use Rattle.def_state.specs.Hist.{Contents}

-- the message as the crash-free world gives it to c; its stamp isn't said
abbrev pub content : ComId → ComId → ℕ → Send → Msg
content c s k m = record { from = s; to = c; k = k; stamp = 0; handler = m.handler; args = m.args }

-- the contents that the crash-free world gives to c
abbrev pub contents_of : PlainWorld → ComId → Contents
contents_of w c s k = option_map (content c s k) (message_of w s c k)

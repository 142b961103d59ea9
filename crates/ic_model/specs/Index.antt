-- How the messages of a Pcom are found by their number.
use Rattle.std.specs.Prelude.{◌≡◌, ℕ, Bool, ◌&&◌, ◌==◌, List, [], slice_get, Some, unwrap_or}
use Rattle.std.specs.List.{list_any}
use Rattle.std.specs.HashSet.{contains}
use Rattle.ic_base.specs.declared.messages.ComId.{ComId}
use Rattle.ic_base.specs.declared.messages.Send.{Send}
use Rattle.def_plain.specs.declared.world.PlainCom.{PlainCom}
use Rattle.def_plain.specs.declared.world.PlainPcom.{PlainPcom}
use Rattle.def_plain.specs.Cell.{is_com}
use Rattle.def_plain.specs.Plain.{pcom_at, on_link}
use Rattle.ic_model.specs.declared.index.MessageIndex.{MessageIndex}

-- a receipt of the k-th message of s is among these
abbrev pub is_among : List (ComId × ℕ) → ComId → ℕ → Bool
is_among receipts s k = list_any (λ r. is_com r.0 s && (r.1 == k)) receipts

abbrev pub same_key : ℕ × ℕ → ℕ × ℕ → Bool
same_key x y = (x.0 == y.0) && (x.1 == y.1)

-- the index of a Pcom that has these receipts and has sent these messages
pub record IsIndexOf (receipts : List (ComId × ℕ)) (sent : List Send) (x : MessageIndex) : Type 0 where
  pub taken : (s : ComId) (k : ℕ) → contains same_key x.taken (s.0, k) ≡ is_among receipts s k
  pub sent_to : (c : ComId) → unwrap_or (slice_get x.sent.items c.0) [] ≡ on_link c sent

-- each Pcom of a world has its index, in its place
abbrev pub AreIndexed : List PlainCom → List MessageIndex → Type 0
AreIndexed w indexes = (c : ComId) (p : PlainPcom) → pcom_at w c ≡ Some p → (x : MessageIndex) × (slice_get indexes c.0 ≡ Some x) × IsIndexOf p.receipts p.sent x

-- a Pcom that has neither taken nor sent a message
abbrev pub HasNoMessages : PlainPcom → Type 0
HasNoMessages p = (p.receipts ≡ []) × (p.sent ≡ [])

-- A standby: records are played in order, each Take with its content at hand.
use Rattle.std.specs.Prelude.{◌≡◌, ℕ, suc, ◌+◌, nat_lt, Bool, not, ◌&&◌, cond, List, [], ◌∷◌, length, find, filter_map, Option, Some, None, is_some, is_none, option_map, option_and_then}
use Rattle.ic_base.specs.declared.messages.ComId.{ComId}
use Rattle.ic_base.specs.declared.messages.Msg.{Msg}
use Rattle.ic_base.specs.declared.messages.Packet.{Packet}
use Rattle.ic_base.specs.declared.scenario.Program.{Program}
use Rattle.ic_base.specs.declared.record.Record.{Record}
use Rattle.def_state.specs.Fits.{fits}
use Rattle.def_state.specs.Hist.{Contents}
use Rattle.def_state.specs.Names.{Identity}
use Rattle.ic_base.specs.Programs.{same_com}
use Rattle.def_state.specs.Vol.{Vol, first_vol, standing, record_in, numbers_fit}
use Rattle.def_step.specs.Replay.{waits_for}
use Rattle.def_facts.specs.Logs.{message_in, has_identity}
use Rattle.def_standby.specs.declared.shipped.Shipped.{Shipped}
use Rattle.def_standby.specs.declared.shipped.Shipped.TheVariants.{Applied, Early, Again, Missing}

-- the content of the message that a record takes by identity
abbrev pub content_of : Contents → Record → Option Msg
content_of contents r = option_and_then (λ x. contents x.peer x.k) (waits_for r)

-- a Take by identity has no content at hand
abbrev pub is_missing : Contents → Record → Bool
is_missing contents r = is_some (waits_for r) && is_none (content_of contents r)

-- the first identity that has none
abbrev pub first_missing : Contents → List Record → Option Identity
first_missing contents [] = None
first_missing contents (r ∷ rs) = cond (is_missing contents r) (waits_for r) (first_missing contents rs)

abbrev pub played_on : Program → ComId → Contents → Vol → Record → Vol
played_on program c contents v r = record_in program c 0 (content_of contents r) v r

-- All the records are played from a state on, a checkpoint among them changing nothing. None where one is a misfit, or a number passes
-- its limit, or a content isn't at hand.
abbrev pub play_all : Program → ComId → Contents → Vol → List Record → Option Vol
play_all program c contents v [] = Some v
play_all program c contents v (r ∷ rs) = let later = play_all program c contents (played_on program c contents v r) rs in
    cond (fits program c (standing program c v) r && not (is_missing contents r) && numbers_fit (played_on program c contents v r)) later None

-- the place, counted from 0, of the first record at which that stops
abbrev pub stops_at : Program → ComId → Contents → Vol → List Record → Option ℕ
stops_at program c contents v [] = None
stops_at program c contents v (r ∷ rs) = let later = option_map suc (stops_at program c contents (played_on program c contents v r) rs) in
    cond (fits program c (standing program c v) r && not (is_missing contents r) && numbers_fit (played_on program c contents v r)) later (Some 0)

-- the state, and the number of records that were played
pub record Standby : Type 0 where
  pub state : Vol
  pub have : ℕ

abbrev pub first_standby : Program → ComId → Standby
first_standby program c = record { state = first_vol program c; have = 0 }

abbrev pub missing_as : Option Identity → Shipped
missing_as None = Applied
missing_as (Some x) = Missing x.peer x.k

-- what becomes of records that are shipped, the first of which has so many before it
abbrev pub shipping : Contents → Standby → ℕ → List Record → Shipped
shipping contents s first records = cond (nat_lt s.have first) (Early s.have) (cond (nat_lt first s.have) (Again s.have) (missing_as (first_missing contents records)))

abbrev pub shipped_to : Program → ComId → Contents → Standby → List Record → Option Standby
shipped_to program c contents s records = option_map (λ v. record { state = v; have = s.have + length records }) (play_all program c contents s.state records)

abbrev pub goes_to : ComId → ComId → ℕ → Msg → Bool
goes_to c from k m = has_identity from k m && same_com c m.to

-- shipments that are played one after another, each with the contents that are at hand for it
abbrev pub ships_all : Program → ComId → Vol → List (Contents × List Record) → Option Vol
ships_all program c v [] = Some v
ships_all program c v (s ∷ ss) = option_and_then (λ w. ships_all program c w ss) (play_all program c s.0 v s.1)

-- a state that shipments made of the first one
pub record Arises (program : Program) (c : ComId) (v : Vol) : Type 0 where
  pub shipments : List (Contents × List Record)
  pub made : ships_all program c (first_vol program c) shipments ≡ Some v

-- the contents that messages bring to c: of each identity the first
abbrev pub contents_among : ComId → List Msg → Contents
contents_among c msgs from k = find (goes_to c from k) msgs

-- the contents that packets bring to c
abbrev pub contents_to : ComId → List Packet → Contents
contents_to c packets = contents_among c (filter_map message_in packets)

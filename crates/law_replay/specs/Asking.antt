-- What a replayed state says of its transactions and its messages.
use Rattle.std.specs.Prelude.{◌≡◌, ℕ, ◌<◌, List, length, take, ℤ, Option, Some, option_map, Contains, IsTrue}
use Rattle.ic_base.specs.declared.messages.ComId.{ComId}
use Rattle.ic_base.specs.declared.messages.Msg.{Msg}
use Rattle.ic_base.specs.declared.messages.Request.{Request}
use Rattle.ic_base.specs.declared.messages.Session.{Session}
use Rattle.ic_base.specs.declared.played.Played.TheVariants.{Asks}
use Rattle.ic_base.specs.declared.scenario.Program.{Program}
use Rattle.ic_base.specs.declared.record.Record.{Record}
use Rattle.ic_base.specs.declared.record.Record.TheVariants.{Take}
use Rattle.ic_base.specs.Programs.{is_a_tcom}
use Rattle.def_plain.specs.Cell.{Touch, TakesMessage}
use Rattle.def_state.specs.Hist.{Hist, Begun, Contents, after, opened, plays_again}
use Rattle.def_facts.specs.Logs.{Got, values_of, in_places}
use Rattle.def_facts.specs.Playable.{IsPlayable}

-- each answer of a transaction was asked for on its Tcom, with the answers before it
abbrev pub AreAsked : Program → ComId → Option Begun → List ℤ → Type 0
AreAsked program c o vs = (i : ℕ) → i < length vs → (b : Begun) × (q : Request) × (o ≡ Some b) × IsTrue (is_a_tcom program b.tcom) × (plays_again program c b (take i vs) ≡ Asks b.tcom q)

-- its answers are of one session, and stand in the order of their places
abbrev pub TxnAsked : Program → ComId → List Got → Option Begun → Type 0
TxnAsked program c gots o = (s : Session) × (vs : List ℤ) × (gots ≡ in_places 0 s vs) × AreAsked program c o vs

abbrev pub AnswersWereAsked : Type 0
AnswersWereAsked = (program : Program) (c : ComId) (k : Contents) (rs : List Record) (h : Hist) → IsPlayable program → after program c k rs ≡ Some h → (n : ℕ) → TxnAsked program c (values_of rs n) (opened h n)

-- what a Take says with these contents
abbrev pub take_of : Contents → ComId → ℕ → Option Touch
take_of k s i = option_map (λ m. TakesMessage s i m.handler m.args) (k s i)

-- contents that agree on the handler and the arguments of each Take give the same state
abbrev pub LikeContentsAgree : Type 0
LikeContentsAgree = (program : Program) (c : ComId) (k l : Contents) (rs : List Record) → ((s : ComId) (i stamp : ℕ) → Contains rs (Take s i stamp) → take_of k s i ≡ take_of l s i) → after program c k rs ≡ after program c l rs

-- a number of a link is of one message
abbrev pub NumbersAreOwn : Type 0
NumbersAreOwn = (program : Program) (c : ComId) (k : Contents) (rs : List Record) (h : Hist) → after program c k rs ≡ Some h → (m n : Msg) → Contains h.sent m → Contains h.sent n → m.to ≡ n.to → m.k ≡ n.k → m ≡ n

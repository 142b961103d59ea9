-- What the memory forms hold.
use Rattle.std.specs.Prelude.{◌≡◌, ℕ, ◌+◌, ◌||◌, Bool, List, length, Option, is_none, option_map, find, bytes_eq}
use Rattle.def_log.specs.Torn.{Write}
use Rattle.ic_disk.specs.Past.{LeftSince}
use Rattle.ic_disk.specs.Calls.{Tally, fails_next, after_call}

-- a disk: its bytes, at most how many it takes, its calls by their numbers, how many device calls were made in all, how many
-- bytes it takes without memory, what it held at first, and the writes since
pub record MemoryDisk : Type 0 where
  pub bytes : List ℕ
  pub capacity : ℕ
  pub calls : Tally
  pub made : ℕ
  pub spare : ℕ
  pub first : List ℕ
  pub writes : List Write

-- a disk after one more call, which changed no byte and failed or not
abbrev pub counted : Bool → MemoryDisk → MemoryDisk
counted failed d = record d { calls = after_call failed d.calls; made = d.made + 1 }

-- how many writes the disk took, which is its time
abbrev pub writes_made : MemoryDisk → ℕ
writes_made d = length d.writes

-- a crash leaves what is there
abbrev pub IsThere : MemoryDisk → List ℕ → Type 0
IsThere d image = image ≡ d.bytes

-- a crash since a time would have left what is there, or what was there since that time
abbrev pub WasThere : MemoryDisk → ℕ → List ℕ → Type 0
WasThere d time image = LeftSince d.bytes d.first d.writes time image

-- a file of the host: its name, its faults, and how many device calls were made
pub record HostDisk : Type 0 where
  pub name : List ℕ
  pub faults : ℕ
  pub made : ℕ

-- texts: each name with its text, the calls, and the names that were asked for
pub record MemoryTexts : Type 0 where
  pub held : List (List ℕ × List ℕ)
  pub calls : Tally
  pub asked : List (List ℕ)

-- a sink: the bytes that it took, at most how many it takes, its calls, and the pieces that were put
pub record MemorySink : Type 0 where
  pub bytes : List ℕ
  pub capacity : ℕ
  pub calls : Tally
  pub pieces : List (List ℕ)

-- the files of the host, and its standard output
pub record HostTexts : Type 0 where
  pub faults : ℕ
  pub asked : List (List ℕ)

pub record HostSink : Type 0 where
  pub faults : ℕ
  pub pieces : List (List ℕ)

-- the text of the first pair of a name
abbrev pub text_of : List (List ℕ × List ℕ) → List ℕ → Option (List ℕ)
text_of held name = option_map (λ p. p.1) (find (λ p. bytes_eq p.0 name) held)

-- whether a read fails: by its number, or since no text has the name
abbrev pub fails_to_read : MemoryTexts → List ℕ → Bool
fails_to_read t name = fails_next t.calls || is_none (text_of t.held name)

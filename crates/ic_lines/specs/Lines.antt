-- The lines of a text as they are read.
use Rattle.std.specs.Prelude.{◌≢◌, ◌<◌, ◌≤◌, nat_lt, if◌then◌else◌, ⊤, ℕ, List, [], ◌∷◌, length, All, Option, Some, None}
use Rattle.std.specs.Io.BufRead.{take_through, drop_through, ends_with_byte, strip_last}
use Rattle.ic_lines.specs.declared.lines.Read.{Read}
use Rattle.ic_lines.specs.declared.lines.Read.TheVariants.{Line, Unterminated, TooLong}

-- a line of these bytes, if they aren't more than the limit
abbrev pub up_to : ℕ → (List ℕ → Read) → List ℕ → Read
up_to limit form line = if nat_lt limit (length line) then TooLong else form line

-- how a line is read that has these bytes, the byte 10 that ends it included; no bytes are no line
abbrev pub read_of : ℕ → List ℕ → Option Read
read_of limit [] = None
read_of limit (b ∷ bs) = Some (if ends_with_byte 10 (b ∷ bs) then up_to limit Line (strip_last 10 (b ∷ bs)) else up_to limit Unterminated (b ∷ bs))

-- what is read first of these bytes
abbrev pub first_read : ℕ → List ℕ → Option Read
first_read limit bytes = read_of limit (take_through 10 bytes)

-- the bytes behind the first line
abbrev pub behind_line : List ℕ → List ℕ
behind_line bytes = drop_through 10 bytes

-- at most so many bytes, of which none ends a line
pub record IsShort (limit : ℕ) (line : List ℕ) : Type 0 where
  pub short : length line ≤ limit
  pub one : All (λ b. b ≢ 10) line

abbrev pub IsLine : ℕ → Read → Type 0
IsLine limit (Line line) = IsShort limit line
IsLine limit (Unterminated line) = (0 < length line) × IsShort limit line
IsLine limit TooLong = ⊤

-- A new log before it is opened, and while it is: a byte 0 stands in place of its first letter.
use Rattle.std.specs.Prelude.{◌≡◌, ◌⊎◌, ℕ, ◌≤◌, List, [], ◌∷◌, length, take, drop, Err}
use Rattle.def_log.specs.Images.{IsTorn}
use Rattle.def_log.specs.Loads.{Bad, load_of, load_tail_of}
use Rattle.def_log.specs.Log.{log_of}
use Rattle.def_log.specs.Frame.{letters}

-- the file with a byte 0 in place of its first letter
abbrev pub unopened : List ℕ → List ℕ
unopened file = 0 ∷ drop 1 file

-- what a crash leaves before the log is opened: at most one byte, or a byte 0 and whatever stands behind it
abbrev pub IsUnopened : List ℕ → Type 0
IsUnopened image = (length image ≤ 1) ⊎ (take 1 image ≡ 0 ∷ [])

-- each load refuses the bytes as no log
pub record IsRefused (image : List ℕ) : Type 0 where
  pub place : ℕ
  pub log : log_of image ≡ Err place
  pub load : (given : List ℕ) (owner : ℕ) → load_of given owner image ≡ Bad place
  pub load_tail : (given : List ℕ) (owner : ℕ) → load_tail_of given owner image ≡ Bad place

-- the bytes are the file, or are refused
abbrev pub IsWholeOrRefused : List ℕ → List ℕ → Type 0
IsWholeOrRefused file image = (image ≡ file) ⊎ IsRefused image

-- what isn't opened yet is refused
abbrev pub UnopenedIsRefused : Type 0
UnopenedIsRefused = (image : List ℕ) → IsUnopened image → IsRefused image

-- while the first letter is written, and behind that, the log is refused or whole
abbrev pub OpeningLeavesWholeOrRefused : Type 0
OpeningLeavesWholeOrRefused = (file image : List ℕ) → take 1 file ≡ take 1 letters → IsTorn 0 1 (unopened file) image → IsWholeOrRefused file image

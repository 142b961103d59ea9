-- Laws of the image of a Pcom's state.
use Rattle.std.specs.Prelude.{◌≡◌, ◌<◌, ◌^◌, ℕ, List, length, true, Some, is_none, is_some}
use Rattle.ic_base.specs.declared.messages.ComId.{ComId}
use Rattle.ic_base.specs.declared.scenario.Program.{Program}
use Rattle.def_log.specs.Laws.{IsBytes}
use Rattle.def_state.specs.Vol.{Vol}
use Rattle.def_state.specs.Image.{image_of, image_fits, read_image}
use Rattle.def_state.specs.ImagePlaces.{bad_image_at}
use Rattle.law_image.specs.Readable.{HasImage, as_read}

-- bytes, as many as a record may hold, are an image exactly where each field fits
abbrev pub IsExact : Type 0
IsExact = (program : Program) (c : ComId) (bytes : List ℕ) → IsBytes bytes → length bytes < 2 ^ 32 → is_some (read_image program c bytes) ≡ is_none (bad_image_at program c bytes)

-- the image of a state whose fields fit is read back as what it keeps of the state
abbrev pub IsReadBack : Type 0
IsReadBack = (program : Program) (c : ComId) (v : Vol) → HasImage c v → image_fits program c (as_read v) ≡ true → read_image program c (image_of v) ≡ Some (as_read v)

-- and as nothing else
abbrev pub IsReadSo : Type 0
IsReadSo = (program : Program) (c : ComId) (v w : Vol) → HasImage c v → read_image program c (image_of v) ≡ Some w → w ≡ as_read v

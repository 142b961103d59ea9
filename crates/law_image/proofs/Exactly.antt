-- The laws, from what is proved of the readers.
use Rattle.std.proofs.Common.{◌≡◌, ◌∙◌, sym, ap, refl, ℕ, ◌<◌, ◌^◌, true, false, List, length, Option, Some, None}
use Rattle.std.specs.Prelude.{Result, Ok, Err, is_none, is_some}
use Rattle.ic_base.specs.declared.messages.ComId.{ComId}
use Rattle.ic_base.specs.declared.scenario.Program.{Program}
use Rattle.def_log.proofs.Takes.{IsBytes}
use Rattle.def_state.specs.Vol.{Vol}
use Rattle.def_state.specs.Image.{read_image}
use Rattle.def_state.specs.ImagePlaces.{Reading, place_in, image, bad_image_at}
use Rattle.law_image.specs.Laws.{IsExact}
use Rattle.law_image.proofs.Places.{image_came}
use Rattle.law_image.proofs.Exact.{reads_as}
use Rattle.law_image.proofs.Back.{read_passes}

pub exact : IsExact
exact program c bytes fits small = by (image program c bytes) refl (read_image program c bytes) refl
  where
    by : (r : Reading ℕ) → image program c bytes ≡ r → (o : Option Vol) → read_image program c bytes ≡ o → is_some o ≡ is_none (place_in bytes r)
    by (Ok y) e o f =
        let p = image_came program c bytes y e in
        ap is_some (sym f ∙ reads_as program c bytes p.0 fits p.1 p.2)
    by (Err rest) e None f = refl
    by (Err rest) e (Some v) f = let passes = read_passes program c bytes v fits small f in absurd cc

-- bytes that stop being an image are read as nothing
pub unread : (program : Program) (c : ComId) (bytes : List ℕ) (place : ℕ) → IsBytes bytes → length bytes < 2 ^ 32 → bad_image_at program c bytes ≡ Some place → read_image program c bytes ≡ None
unread program c bytes place fits small e = by (read_image program c bytes) (exact program c bytes fits small ∙ ap is_none e)
  where
    by : (o : Option Vol) → is_some o ≡ false → o ≡ None
    by None h = refl
    by (Some v) h = absurd cc

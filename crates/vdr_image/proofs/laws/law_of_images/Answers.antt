use Rattle.vdr_image.proofs.ImageLemmas.{IsImage-from_reading, reading-from_IsImage}
use Rattle.vdr_image.proofs.laws.law_of_images.Goals as goal

pub returns : goal.returns
returns c = λ bytes header are_bytes. (IsImage-from_reading bytes header are_bytes, reading-from_IsImage bytes header)

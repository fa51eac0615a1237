-- How an image header follows the one last seen (this project's profile).
use Rattle.std.specs.Prelude.{◌+◌, Bool, not, ◌&&◌, ◌||◌, ◌==◌, bytes_eq, Option, Some, None, if◌then◌else◌}
use Rattle.vdr_image.specs.Headers.{Header}
use Rattle.vdr_image.specs.declared.part.Part.{Part}
use Rattle.vdr_image.specs.declared.step.ImageStep.{ImageStep}
use Rattle.vdr_image.specs.declared.step.ImageStep.TheVariants.{First, Next, Break}

-- Which part of which image a header announces.
abbrev pub part_of : Header → Part
part_of h = record { source = h.source; block = h.block; sequence = h.sequence; greatest = h.greatest }

-- The next part of the same block.
abbrev pub goes_on : (last now : Part) → Bool
goes_on last now = last.block == now.block && now.sequence == last.sequence + 1

-- The first part of another block, behind the greatest part of the last one.
abbrev pub begins_anew : (last now : Part) → Bool
begins_anew last now = last.sequence == last.greatest && not (last.block == now.block) && now.sequence == 1

abbrev pub follows : (last now : Part) → Bool
follows last now = bytes_eq last.source now.source && (goes_on last now || begins_anew last now)

-- The step from the part last seen, None where none was, to this one.
abbrev pub image_step : (last : Option Part) → (now : Part) → ImageStep
image_step None now = First
image_step (Some last) now = if follows last now then Next else Break

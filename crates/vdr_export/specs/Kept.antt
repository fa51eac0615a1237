-- The parts of an image as contracts see them.
use Rattle.std.specs.Prelude.{ℕ, List, option_map, Option}
use Rattle.std.specs.declared.alloc.Global.{Global}
use Rattle.std.specs.declared.vec.Vec.{Vec}
use Rattle.vdr_image.specs.Views.{header_of}
use Rattle.vdr_image.specs.declared.header.ImageHeader.{ImageHeader}
use Rattle.vdr_export.specs.Pictures.{Shown}

-- The data of a part, where it was met.
abbrev pub kept : Option (Vec ℕ Global) → Option (List ℕ)
kept part = option_map (λ v. v.items) part

-- A part of the record at this place.
abbrev pub shown_as : (place : ℕ) → ImageHeader → Shown
shown_as place header = record { place = place; header = header_of header }

use Rattle.std.proofs.Common.{ap, arith}
use Rattle.vdr_durability.specs.Readings.{next_after}
use Rattle.vdr_opening.specs.Media.{parts_of, reading_of}
use Rattle.vdr_opening.proofs.PartsHeld.{ends_known}
use Rattle.vdr_opening.proofs.SameEnds.{same_last}
use Rattle.vdr_command.proofs.opening.law_of_openings.Goals as goal

pub returns : goal.returns
returns c = λ image.
    let contents = c.law_of_contents.ensures in
    let parts = c.law_of_parts.ensures in
    let refusals = c.law_of_refusals.ensures in
    record {
      config = λ x y h k. (parts.config image x y h k).0;
      known = λ x y h k. parts.known image x y h k 0 (omega arith);
      table = parts.table image;
      parts = parts.legible image;
      last = parts.last image;
      place = λ x holds. ap next_after (same_last (reading_of (parts_of x)) (reading_of x) x.further (ends_known image x holds 0 0 (omega arith)));
      placed = λ x y h k. contents.placed image x y h k 0 (omega arith);
      formatted = contents.formatted image;
      opens = refusals.parts image;
      either = refusals.either image;
      one = refusals.one image;
    }

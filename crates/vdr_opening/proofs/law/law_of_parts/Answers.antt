use Rattle.std.proofs.Common.{◌<◌, ◌+◌, ℕ, Option, None, ap, arith, sym, ◌∙◌, subst}
use Rattle.vdr_terms.specs.Records.{Record}
use Rattle.vdr_core.specs.Histories.{stamp_of}
use Rattle.vdr_opening.specs.Media.{parts_of, reading_of}
use Rattle.vdr_opening.proofs.ContentsHeld.{never_unformatted}
use Rattle.vdr_opening.proofs.PartsHeld.{are_legal, ends_known, legible, meet_known, one_config, one_configured_text, one_placed_known, parts_table}
use Rattle.vdr_opening.proofs.SameEnds.{same_last}
use Rattle.vdr_opening.proofs.law.law_of_parts.Goals as goal

pub returns-clause-legible : goal.returns-clause-legible
returns-clause-legible c = legible

pub returns-clause-config : goal.returns-clause-config
returns-clause-config c image x y h k = (one_config (are_legal h) (are_legal k), one_configured_text (are_legal h) (are_legal k))

pub returns-clause-further : goal.returns-clause-further
returns-clause-further c image x y h k = h.further ∙ sym k.further

pub returns-clause-known : goal.returns-clause-known
returns-clause-known c image x y h k m lt = one_placed_known (are_legal h) (are_legal k) m (subst (λ (n : ℕ). m < 2 + n) h.further lt)

pub returns-clause-table : goal.returns-clause-table
returns-clause-table c image x y h k = parts_table h k

pub returns-clause-formatted : goal.returns-clause-formatted
returns-clause-formatted c image x h = never_unformatted 0 x.config.segment image (h.media 0 0 (omega arith)).front.superblock

pub returns-clause-meet : goal.returns-clause-meet
returns-clause-meet c = meet_known

pub returns-clause-last : goal.returns-clause-last
returns-clause-last c image x h =
    ap (λ (newest : Option Record). stamp_of newest None) (same_last (reading_of (parts_of x)) (reading_of x) x.further (ends_known image x h 0 0 (omega arith)))

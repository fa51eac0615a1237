-- The lines in which a link asks for an order (this project's profile).
use Rattle.std.specs.Prelude.{◌≡◌, ◌≤◌, ◌<◌, ℕ, ℤ, pos, List, [], ◌∷◌, ◌++◌, length, codes, decimal}
use Rattle.vdr_terms.specs.Stamps.{last_stamp}
use Rattle.vdr_entry.specs.declared.query.Medium.{Medium}
use Rattle.vdr_control.specs.Exports.{IsExportLine}
use Rattle.vdr_control.specs.Orders.{PlainOrder}
use Rattle.vdr_control.specs.Orders.PlainOrder.{Status, Save, Release, Incidents, Play, Evidence, Tell}
use Rattle.vdr_control.specs.Orders.PlainOrder.{Health}
use Rattle.vdr_control.specs.Orders.PlainOrder.{Export}
use Rattle.vdr_control.specs.Plays.{IsMedium, SpellsBound, SpellsPlay, medium_word}
use Rattle.vdr_control.specs.Words.{words}
use Rattle.vdr_control.specs.declared.order.Telling.{Telling}
use Rattle.vdr_control.specs.declared.order.Telling.TheVariants.{Sources, Watch, Targets, Digest}

-- `PLAY`, and the words of the play, of which the channel is not empty.
pub record IsPlayLine (line : List ℕ) (order : PlainOrder) : Type 0 where
  pub rest : List ℕ
  pub medium : List ℕ
  pub channel : List ℕ
  pub from : List ℕ
  pub to : List ℕ
  pub begins : line ≡ codes "PLAY " ++ rest
  pub cut : words rest ≡ medium ∷ channel ∷ from ∷ to ∷ []
  pub named : 0 < length channel
  pub spelled : SpellsPlay medium channel from to order

-- `TARGETS`, and its words: the medium, and the last stamp or `-`.
pub record IsTargetsLine (line : List ℕ) (medium : Medium) (at : ℤ) : Type 0 where
  pub rest : List ℕ
  pub bound : List ℕ
  pub begins : line ≡ codes "TARGETS " ++ rest
  pub cut : words rest ≡ medium_word medium ∷ bound ∷ []
  pub spelled : SpellsBound (pos last_stamp) bound at

-- The line asks for this of the medium.
abbrev pub IsTellingLine : List ℕ → Medium → Telling → Type 0
IsTellingLine line medium Sources = line ≡ codes "SOURCES " ++ medium_word medium
IsTellingLine line medium Watch = line ≡ codes "WATCH " ++ medium_word medium
IsTellingLine line medium (Targets at) = IsTargetsLine line medium at
IsTellingLine line medium Digest = line ≡ codes "DIGEST " ++ medium_word medium

-- The line asks for this order. A label is the rest of the line, with its spaces, and may be empty.
abbrev pub AsksFor : List ℕ → PlainOrder → Type 0
AsksFor line Status = line ≡ codes "STATUS"
AsksFor line (Save label) = line ≡ codes "SAVE " ++ label
AsksFor line (Release id) = (1 ≤ id) × (id ≤ 32) × (line ≡ codes "RELEASE " ++ decimal id)
AsksFor line Incidents = line ≡ codes "INCIDENTS"
AsksFor line Health = line ≡ codes "HEALTH"
AsksFor line (Play medium channel from to) = IsPlayLine line (Play medium channel from to)
AsksFor line (Evidence id) = (1 ≤ id) × (id ≤ 32) × (line ≡ codes "EVIDENCE incident-" ++ decimal id)
AsksFor line (Tell medium telling) = IsMedium medium × IsTellingLine line medium telling
AsksFor line (Export medium channel from to exporting) = IsExportLine line medium channel from to exporting

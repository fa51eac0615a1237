-- What a record may be: what every reader of the media may rely on (this project's profile).
use Rattle.std.specs.Prelude.{◌≡◌, ◌≤◌, ◌<◌, ◌^◌, ℕ, List, slice_index}
use Rattle.vdr_terms.specs.declared.counts.Counts.{Counts}
use Rattle.vdr_terms.specs.declared.datagram.Verdict.TheVariants.{Yes}
use Rattle.vdr_terms.specs.Records.{Record, Content, total}
use Rattle.vdr_terms.specs.Records.Content.{Start, Datagram, Gap, Stop}
use Rattle.vdr_terms.specs.Datagrams.{verdict}
use Rattle.vdr_terms.specs.Stamps.{IsStamp}

-- Each is a byte.
abbrev pub IsBytes : List ℕ → Type 0
IsBytes bytes = (i : ℕ) → slice_index bytes i < 256

-- Each count fits eight bytes, and something was missed.
pub record IsMissed (c : Counts) : Type 0 where
  pub full : c.full < 2 ^ 64
  pub rate : c.rate < 2 ^ 64
  pub bad : c.bad < 2 ^ 64
  pub large : c.large < 2 ^ 64
  pub some : 0 < total c

-- What a record may say under a group and a number. Start and Stop belong to no group, which is written as 255.
abbrev pub IsContent : (group number : ℕ) → Content → Type 0
IsContent group number Start = (group ≡ 255) × (number ≡ 0)
IsContent group number (Datagram payload) = (group ≤ 15) × (verdict payload ≡ Yes) × IsBytes payload
IsContent group number (Gap missed) = (group ≤ 15) × IsMissed missed
IsContent group number Stop = (group ≡ 255) × (number ≡ 0)

-- A legal record.
pub record IsRecord (r : Record) : Type 0 where
  pub content : IsContent r.group r.number r.content
  pub bits : r.bits < 2 ^ 64
  pub place : r.place < 2 ^ 63
  pub number : r.number < 2 ^ 64
  pub tick : r.tick < 2 ^ 63
  pub utc : IsStamp r.utc

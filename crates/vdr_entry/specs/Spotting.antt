-- What the reader looks for at the front of some bytes, field by field. No public clause cites it: what a record is stands
-- in Reading.
use Rattle.std.specs.Prelude.{◌≡◌, ◌≤◌, ◌<◌, ◌+◌, ◌^◌, ℕ, pos, List, length, take, drop, slice_index}
use Rattle.vdr_bytes.specs.Numbers.{u16_at, u64_at}
use Rattle.vdr_terms.specs.Records.{Record}
use Rattle.vdr_terms.specs.Stamps.{last_stamp}
use Rattle.vdr_terms.specs.Legality.{IsContent}
use Rattle.vdr_entry.specs.declared.kind.Kind.{Kind}
use Rattle.vdr_entry.specs.Fields.{content_of, code_of}
use Rattle.vdr_entry.specs.Spelling.{payload}

-- What stands where a record has its payload.
unfoldable pub payload_in : List ℕ → List ℕ
payload_in bytes = take (u16_at 2 bytes) (drop 44 bytes)

-- The record that the fields at the front tell, under a kind.
unfoldable pub record_in : Kind → List ℕ → Record
record_in kind bytes = record {
  content = content_of kind (payload_in bytes);
  group = slice_index bytes 1;
  bits = u64_at 4 bytes;
  place = u64_at 12 bytes;
  number = u64_at 20 bytes;
  tick = u64_at 28 bytes;
  utc = pos (u64_at 36 bytes);
}

-- What is wanted of a payload under a kind, a group and a number.
pub record Suits (kind : Kind) (group number : ℕ) (bytes : List ℕ) : Type 0 where
  pub content : IsContent group number (content_of kind bytes)
  pub payload_is : bytes ≡ payload number (content_of kind bytes)

-- The numbers at the front are in their ranges.
pub record AreInRange (p t u : ℕ) : Type 0 where
  pub place : p < 2 ^ 63
  pub tick : t < 2 ^ 63
  pub utc : u ≤ last_stamp

-- A record of this kind stands at the front.
pub record Spots (bytes : List ℕ) (kind : Kind) : Type 0 where
  pub long : 44 + u16_at 2 bytes ≤ length bytes
  pub code : slice_index bytes 0 ≡ code_of kind
  pub numbers : AreInRange (u64_at 12 bytes) (u64_at 28 bytes) (u64_at 36 bytes)
  pub payload : Suits kind (slice_index bytes 1) (u64_at 20 bytes) (payload_in bytes)

-- The rows of a page that a record has of its own (this project's profile).
use Rattle.std.specs.Prelude.{ℕ, List, [], ◌∷◌, codes, Option, Some, None, if◌then◌else◌}
use Rattle.base64.specs.Engines.{standard}
use Rattle.base64.specs.GeneralPurpose.{encode_of}
use Rattle.vdr_terms.specs.Groups.{group_name}
use Rattle.vdr_terms.specs.Records.{Record}
use Rattle.vdr_image.specs.Headers.{Header}
use Rattle.vdr_image.specs.Images.{image_in}
use Rattle.vdr_pcm.specs.Datagrams.{pcm_in}
use Rattle.vdr_pcm.specs.Frames.{Frame}
use Rattle.vdr_page.specs.Fields.{row}
use Rattle.vdr_page.specs.Fields.Field.{Number, Text}
use Rattle.vdr_page.specs.Gaps.{stamp_of}
use Rattle.vdr_page.specs.declared.survey.Survey.{Survey}

-- What the payload of a datagram is: a part of an image, a frame of PCM samples, or neither.
pub data Load : Type 0 where
  Part : (header : Header) → Load
  Sound : (frame : Frame) → Load
  Raw : (payload : List ℕ) → Load

abbrev pub sound_or_raw : Option Frame → (payload : List ℕ) → Load
sound_or_raw (Some frame) payload = Sound frame
sound_or_raw None payload = Raw payload

abbrev pub part_or_else : Option Header → Load → Load
part_or_else (Some header) rest = Part header
part_or_else None rest = rest

abbrev pub load_of : (payload : List ℕ) → Load
load_of payload = part_or_else (image_in payload) (sound_or_raw (pcm_in payload) payload)

-- `["start",PLACE,UTC]` and `["stop",PLACE,UTC]`
abbrev pub mark_row : (name : List ℕ) → Record → List ℕ
mark_row name r = row name (Number r.place ∷ Number (stamp_of r) ∷ [])

-- `["part",PLACE,UTC,GROUP,SOURCE,BLOCK,NUMBER,OF,BASE64]`
abbrev pub part_row : Record → Header → List ℕ
part_row r h =
    row (codes "part")
    (Number r.place ∷ Number (stamp_of r) ∷ Text (group_name r.group) ∷ Text h.source ∷ Number h.block ∷ Number h.sequence ∷ Number h.greatest ∷ Text (encode_of standard h.body) ∷ [])

-- `["pcm",PLACE,UTC,MICROPHONE,FRAME,RATE,BASE64]`
abbrev pub sound_row : Record → Frame → List ℕ
sound_row r f = row (codes "pcm") (Number r.place ∷ Number (stamp_of r) ∷ Number f.microphone ∷ Number f.frame ∷ Number f.rate ∷ Text (encode_of standard f.samples) ∷ [])

-- `["raw",PLACE,UTC,GROUP,PAYLOAD]`
abbrev pub raw_row : Record → (payload : List ℕ) → List ℕ
raw_row r payload = row (codes "raw") (Number r.place ∷ Number (stamp_of r) ∷ Text (group_name r.group) ∷ Text payload ∷ [])

-- The row of a payload, where the page has those of its kind.
abbrev pub load_row : Survey → Record → Load → List ℕ
load_row s r (Part header) = if s.pictures then part_row r header else []
load_row s r (Sound frame) = if s.sound then sound_row r frame else []
load_row s r (Raw payload) = if s.raw then raw_row r payload else []

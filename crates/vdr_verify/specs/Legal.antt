-- What an evidence file may hold (this project's profile).
use Rattle.std.specs.Prelude.{◌≡◌, ◌≤◌, ◌<◌, ◌^◌, ◌⊎◌, ℕ, Bool, true, List, [], ◌∷◌, ◌++◌, Option, Some, None, IfSome, Ok, ⊤, length, option_map, position, bytes_eq, codes, if◌then◌else◌}
use Rattle.vdr_bytes.specs.Numbers.{le_u32}
use Rattle.vdr_terms.specs.Legality.{IsRecord}
use Rattle.vdr_terms.specs.Queries.{matches}
use Rattle.vdr_terms.specs.Queries.Medium.{WindowOf}
use Rattle.vdr_terms.specs.Records.{Record, last}
use Rattle.vdr_terms.specs.Stamps.{IsStamp}
use Rattle.vdr_terms.specs.Texts.{is_label}
use Rattle.vdr_config.specs.Configuration.{Configuration}
use Rattle.vdr_config.specs.Grammar.{configuration}
use Rattle.vdr_evidence.specs.Files.{Heading, evidence_bytes, heading_bytes, query_text}
use Rattle.vdr_verify.specs.declared.query.Asked.{Asked}

-- ---- the heading

-- The channel of this name: None for all records, and nothing where no channel has the name.
abbrev pub channel_named : Configuration → (name : List ℕ) → Option (Option ℕ)
channel_named c name = if bytes_eq name (codes "all") then Some None else option_map Some (position (λ s. bytes_eq s.name name) c.channels)

-- The text of a query: CHANNEL FROM TO.
pub record Asks (c : Configuration) (text : List ℕ) (q : Asked) : Type 0 where
  pub name : List ℕ
  pub spelled : text ≡ query_text name q.from q.to
  pub channel : channel_named c name ≡ Some q.channel
  pub from_stamp : IsStamp q.from
  pub to_stamp : IsStamp q.to

-- the text of a configuration
pub record IsText (text : List ℕ) : Type 0 where
  pub config : Configuration
  pub read : configuration text ≡ Ok config

-- one byte, 0 or 1
pub record IsMedium (medium : List ℕ) : Type 0 where
  pub number : ℕ
  pub small : number ≤ 1
  pub spelled : medium ≡ number ∷ []

-- The id of an incident: on the long-term medium, one of the slots of the configuration.
pub record IsSlot (text medium : List ℕ) (id : ℕ) : Type 0 where
  pub config : Configuration
  pub read : configuration text ≡ Ok config
  pub long_term : medium ≡ 1 ∷ []
  pub least : 1 ≤ id
  pub most : id ≤ config.incident_slots

-- four bytes: 0, or the id of an incident
pub record IsIncident (text medium incident : List ℕ) : Type 0 where
  pub id : ℕ
  pub small : id < 2 ^ 32
  pub spelled : incident ≡ le_u32 id
  pub slot : (id ≡ 0) ⊎ IsSlot text medium id

-- Nothing where there is no incident, else the label of a save.
abbrev pub IsLabelOf : (incident label : List ℕ) → Type 0
IsLabelOf incident label = ((incident ≡ le_u32 0) × (label ≡ [])) ⊎ ((incident ≡ le_u32 0 → ⊥) × (is_label label ≡ true))

pub record IsQuery (text query : List ℕ) : Type 0 where
  pub config : Configuration
  pub read : configuration text ≡ Ok config
  pub asked : Asked
  pub asks : Asks config query asked
  pub short : length query ≤ 82  -- a name has 32 bytes at most

-- What may stand in the next part of a heading, behind those before it.
abbrev pub MayFollow : (before : List (List ℕ)) → List ℕ → Type 0
MayFollow [] text = IsText text
MayFollow (text ∷ []) medium = IsMedium medium
MayFollow (text ∷ medium ∷ []) incident = IsIncident text medium incident
MayFollow (text ∷ medium ∷ incident ∷ []) label = IsLabelOf incident label
MayFollow (text ∷ medium ∷ incident ∷ label ∷ []) query = IsQuery text query
MayFollow (text ∷ medium ∷ incident ∷ label ∷ query ∷ more) x = ⊥

-- Each may stand behind those before it.
abbrev pub AreParts : (before parts : List (List ℕ)) → Type 0
AreParts before [] = ⊤
AreParts before (p ∷ parts) = MayFollow before p × AreParts (before ++ p ∷ []) parts

abbrev pub parts_of : Heading → List (List ℕ)
parts_of h = h.text ∷ (h.medium ∷ []) ∷ le_u32 h.incident ∷ h.label ∷ h.query ∷ []

-- A heading that asks for this.
pub record IsHeading (h : Heading) (q : Asked) : Type 0 where
  pub parts : AreParts [] (parts_of h)
  pub small : h.incident < 2 ^ 32
  pub config : Configuration
  pub read : configuration h.text ≡ Ok config
  pub asks : Asks config h.query q

-- ---- the records

-- The record has the bit of the channel, and its stamp is within the bounds: whatever the medium.
abbrev pub selects : Asked → Record → Bool
selects q r = matches (record { medium = WindowOf 0; channel = q.channel; from = q.from; to = q.to }) r

-- What may be the next record behind these: its place is above theirs, and the query selects it.
pub record IsNext (q : Asked) (before : List Record) (r : Record) : Type 0 where
  pub legal : IsRecord r
  pub selected : selects q r ≡ true
  pub later : IfSome (last before) (λ s. s.place < r.place)

-- Each may stand behind those before it.
abbrev pub AreNext : Asked → (before records : List Record) → Type 0
AreNext q before [] = ⊤
AreNext q before (r ∷ records) = IsNext q before r × AreNext q (before ++ r ∷ []) records

-- ---- the file

-- The bytes are the evidence file of this heading and of these records.
pub record IsEvidence (bytes : List ℕ) (h : Heading) (records : List Record) : Type 0 where
  pub query : Asked
  pub heading : IsHeading h query
  pub legal : AreNext query [] records
  pub spelled : bytes ≡ evidence_bytes (heading_bytes h) records

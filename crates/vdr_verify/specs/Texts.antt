-- What is printed of an evidence file (this project's profile).
use Rattle.std.specs.Prelude.{ℕ, ◌==◌, List, [], ◌++◌, Option, None, Some, codes, decimal, if◌then◌else◌}
use Rattle.hex.specs.Hex.{encode_lower}
use Rattle.sha2.specs.Sha256.{sha256}
use Rattle.vdr_terms.specs.Records.{Record}
use Rattle.vdr_terms.specs.declared.counts.Counts.{Counts}
use Rattle.vdr_entry.specs.Utc.{utc_text}
use Rattle.vdr_evidence.specs.Files.{Heading}
use Rattle.vdr_verify.specs.Accounts.{account_of}
use Rattle.vdr_verify.specs.declared.account.Account.{Account}
use Rattle.vdr_verify.specs.declared.account.Spot.{Spot}

-- a word, and the SHA-256 of a message
abbrev pub digest_line : (word digest : List ℕ) → List ℕ
digest_line word digest = word ++ encode_lower digest ++ codes "\n"

abbrev pub medium_line : ℕ → List ℕ
medium_line medium = if medium == 0 then codes "medium capsule\n" else codes "medium longterm\n"

-- the id of the incident, and its label; nothing where there is none
abbrev pub incident_line : ℕ → (label : List ℕ) → List ℕ
incident_line incident label = if incident == 0 then [] else codes "incident " ++ decimal incident ++ codes " " ++ label ++ codes "\n"

abbrev pub query_line : (query : List ℕ) → List ℕ
query_line query = codes "query " ++ query ++ codes "\n"

-- a word, a place and a stamp; nothing where there is no record
abbrev pub spot_line : (word : List ℕ) → Option Spot → List ℕ
spot_line word None = []
spot_line word (Some spot) = word ++ decimal spot.place ++ codes " " ++ utc_text spot.utc ++ codes "\n"

-- how many records, and of each kind
abbrev pub kinds_line : Account → List ℕ
kinds_line a =
    codes "records " ++ decimal a.records ++ codes " start " ++ decimal a.starts ++ codes " data " ++ decimal a.datagrams
    ++ codes " gap " ++ decimal a.gaps ++ codes " stop " ++ decimal a.stops ++ codes "\n"

-- what the gaps count, by cause
abbrev pub missed_line : Counts → List ℕ
missed_line missed =
    codes "missed full " ++ decimal missed.full ++ codes " rate " ++ decimal missed.rate ++ codes " bad " ++ decimal missed.bad
    ++ codes " large " ++ decimal missed.large ++ codes "\n"

-- the lines of the heading, with the SHA-256 of its text
unfoldable pub heading_lines : (digest : List ℕ) → (medium incident : ℕ) → (label query : List ℕ) → List ℕ
heading_lines digest medium incident label query = digest_line (codes "configuration ") digest ++ medium_line medium ++ incident_line incident label ++ query_line query

-- the lines of the records
unfoldable pub record_lines : Account → List ℕ
record_lines a = kinds_line a ++ missed_line a.missed ++ spot_line (codes "first ") a.first ++ spot_line (codes "last ") a.last

-- What a file of these bytes holds, with this heading and these records: the last line has the SHA-256 of the whole file.
abbrev pub evidence_text : (bytes : List ℕ) → Heading → List Record → List ℕ
evidence_text bytes h records =
    heading_lines (sha256 h.text) h.medium h.incident h.label h.query ++ record_lines (account_of records) ++ digest_line (codes "sha256 ") (sha256 bytes)

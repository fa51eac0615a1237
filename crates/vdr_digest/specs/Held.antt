-- What a digester holds of the records that it has visited.
use Rattle.std.specs.Prelude.{◌≡◌, ℕ, List, [], ◌∷◌, Option, None}
use Rattle.sha2.specs.Hashers.{Holds256}
use Rattle.vdr_terms.specs.Records.{Record}
use Rattle.vdr_entry.specs.Spelling.{records_bytes}
use Rattle.vdr_digest.specs.Digests.{held_behind, hour, lines_before}
use Rattle.vdr_digest.specs.Spans.{span_of}
use Rattle.vdr_digest.specs.declared.digester.Digester.{Digester}
use Rattle.vdr_digest.specs.declared.hours.Hours.{Hours}

-- the hour of the records that are held, 0 where there is none
abbrev pub hour_of : List Record → ℕ
hour_of [] = 0
hour_of (r ∷ records) = hour r.tick

-- It holds these records of one hour.
pub record HoldsHour (h : Hours) (held : List Record) : Type 0 where
  pub hour_is : h.hour ≡ hour_of held
  pub span_is : h.span ≡ span_of held
  pub bytes_are : Holds256 h.records (records_bytes held)

-- It has visited these records.
pub record HasVisited (d : Digester) (seen : List Record) : Type 0 where
  pub held : HoldsHour d.hours (held_behind seen)
  pub lines : Holds256 d.lines (lines_before seen)
  pub all : d.all ≡ span_of seen

-- It has visited none.
abbrev pub IsNew : Digester → Type 0
IsNew d = HasVisited d []

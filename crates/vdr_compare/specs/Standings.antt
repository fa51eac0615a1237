-- What stands at the places of two media (this project's profile).
use Rattle.std.specs.Prelude.{◌==◌, Bool, bytes_eq, nat_lt, if◌then◌else◌, List, [], ◌∷◌}
use Rattle.vdr_terms.specs.Records.{Record, second}
use Rattle.vdr_entry.specs.Spelling.{record_bytes}
use Rattle.vdr_compare.specs.declared.standing.Standing.{Standing}
use Rattle.vdr_compare.specs.declared.standing.Standing.TheVariants.{Both, Capsule, LongTerm}

-- The bytes of both records are the same.
abbrev pub is_same : Record → Record → Bool
is_same r s = bytes_eq (record_bytes r) (record_bytes s)

abbrev pub capsule_alone : Record → Standing
capsule_alone r = Capsule r.place (second r.tick)

abbrev pub longterm_alone : Record → Standing
longterm_alone s = LongTerm s.place (second s.tick)

-- The places of the capsule's records and of the long-term medium's, by rising place: each that stands on both, or on one alone.
abbrev pub standings : (capsule longterm : List Record) → List Standing
standings [] [] = []
standings (r ∷ rs) [] = capsule_alone r ∷ standings rs []
standings [] (s ∷ ss) = longterm_alone s ∷ standings [] ss
standings (r ∷ rs) (s ∷ ss) =
    if r.place == s.place then Both r.place (is_same r s) ∷ standings rs ss
    else (if nat_lt r.place s.place then capsule_alone r ∷ standings rs (s ∷ ss)
    else longterm_alone s ∷ standings (r ∷ rs) ss)

-- What is kept of the records that were surveyed.
use Rattle.std.specs.Prelude.{◌≡◌, ◌-◌, ℕ, nat_le, List, length, Option, Some, None, if◌then◌else◌}
use Rattle.vdr_terms.specs.Records.{Record}
use Rattle.vdr_page.specs.Gaps.{capped}
use Rattle.vdr_page.specs.Surveys.{bytes_where, greatest, is_part, is_raw, is_sound, least, stamps_of}
use Rattle.vdr_page.specs.declared.surveyor.Surveyor.{Surveyor}

-- What is left of a bound, None once it is exceeded.
abbrev pub spare : (bound spent : ℕ) → Option ℕ
spare bound spent = if nat_le spent bound then Some (bound - spent) else None

pub record HasSurveyed (s : Surveyor) (seen : List Record) : Type 0 where
  pub low_is : s.low ≡ least (stamps_of seen)
  pub high_is : s.high ≡ greatest (stamps_of seen)
  pub records_is : s.records ≡ capped (length seen)
  pub raw_is : s.raw ≡ spare 4_194_304 (bytes_where is_raw seen)
  pub sound_is : s.sound ≡ spare 16_777_216 (bytes_where is_sound seen)
  pub pictures_is : s.pictures ≡ spare 8_388_608 (bytes_where is_part seen)

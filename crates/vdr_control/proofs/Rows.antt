-- Worked examples, computed.
use Rattle.std.proofs.Common.{inl, inr, refl, arith, pos, codes}
use Rattle.std.specs.Fmt.{digits}
use Rattle.vdr_entry.specs.Utc.{utc_text, date_text, time_text, year_after, month_after}
use Rattle.vdr_entry.specs.declared.query.Medium.TheVariants.{Capsule, Incident}
use Rattle.vdr_control.specs.Orders.PlainOrder.{Play}
use Rattle.vdr_control.specs.Plays.{SpellsPlay}

-- Incident 32, and no bound.
whole_incident : SpellsPlay (codes "incident-32") (codes "all") (codes "-") (codes "-") (Play (Incident 32) (codes "all") (pos 0) (pos 253_402_300_799_999))
unfolding digits
whole_incident = (((omega arith, omega arith), refl), refl, inl (refl, refl), inl (refl, refl))

-- From the start of 2024 on to the first stamp: no record, but a play.
from_above_to : SpellsPlay (codes "capsule") (codes "GP HDT") (codes "2024-01-01T00:00:00.000Z") (codes "1970-01-01T00:00:00.000Z")
    (Play Capsule (codes "GP HDT") (pos 1_704_067_200_000) (pos 0))
unfolding utc_text date_text time_text year_after month_after
from_above_to =
    ((tt, refl), refl, inr (record { whole = refl; in_time = omega arith }, refl), inr (record { whole = refl; in_time = omega arith }, refl))

-- No medium has the word of an incident 33.
no_incident_33 : SpellsPlay (codes "incident-33") (codes "all") (codes "-") (codes "-") (Play (Incident 33) (codes "all") (pos 0) (pos 253_402_300_799_999)) → ⊥
no_incident_33 spells = let bad : ⊥ = omega (arith, spells.0.0.1) in absurd bad

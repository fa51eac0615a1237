-- One more report of a ship.
use Rattle.std.proofs.Common.{◌≡◌, ◌∙◌, ℕ, ℤ, [], length, set, get_or, unwrap_or, Some, refl, sym, ap, subst, Result, Ok, Err, IsOk, is_ok, if◌then◌else◌, nat_cmp}
use Rattle.std.specs.Prelude.{⊤}
use Rattle.std.specs.List.{insert, slice_get}
use Rattle.std.specs.List.Sorted.{IsStrictlySortedBy}
use Rattle.std.specs.BTreeMap.{insert_entry}
use Rattle.std.proofs.lemmas.Cmp.{nat_cmp_total}
use Rattle.std.proofs.lemmas.Option.{slice_get_read}
use Rattle.vdr_ais.specs.Places.{IsAt, IsGap}
use Rattle.vdr_ais.specs.Reports.{Report}
use Rattle.vdr_ais.specs.Tables.{AreShips}
use Rattle.vdr_ais.specs.Targets.{Ship, Ships, told, unknown, with_report}
use Rattle.vdr_ais.proofs.Entries.{look_at, look_gap, put_at, put_in, sorted_with}

pub with_known : (utc : ℤ) (ships : Ships) (r : Report) (i : ℕ) (here new : ℕ × Ship) → IsAt (nat_cmp r.mmsi) ships i → here ≡ get_or ships i here → new ≡ (here.0, told utc r here.1) → set ships i new ≡ with_report utc ships r
with_known utc ships r i here new p at is =
    let found : slice_get ships i ≡ Some here = slice_get_read ships (length ships) i here refl p.within at in
    let known : Ship → ℕ × Ship = λ ship. (here.0, told utc r ship) in
    ap (λ (x : ℕ × Ship). set ships i x) is
    ∙ sym (put_at nat_cmp r.mmsi (told utc r here.1) ships i here p found)
    ∙ ap (λ o. insert_entry nat_cmp ships r.mmsi (told utc r (unwrap_or o unknown))) (sym (look_at nat_cmp nat_cmp_total r.mmsi ships i here p found))

pub with_new : {E : Type 0} (utc : ℤ) (ships new : Ships) (r : Report) (mmsi i : ℕ) (known ship : ℕ × Ship) (result : Result ⊤ E) → AreShips ships → mmsi ≡ r.mmsi → IsGap (nat_cmp mmsi) ships i → IsOk result
    → known ≡ (mmsi, unknown) → ship ≡ (known.0, told utc r known.1) → new ≡ (if is_ok result then insert ships i ship else ships) → new ≡ with_report utc ships r
with_new utc ships new r mmsi i known ship (Ok done) s own p ok first is made =
    let told_of : ℕ × Ship → ℕ × Ship = λ x. (x.0, told utc r x.1) in
    let gap : IsGap (nat_cmp r.mmsi) ships i = subst (λ n. IsGap (nat_cmp n) ships i) own p in
    made
    ∙ ap (λ (x : ℕ × Ship). insert ships i x) (is ∙ ap told_of first ∙ ap (λ n. told_of (n, unknown)) own)
    ∙ sym (put_in nat_cmp r.mmsi (told utc r unknown) ships i gap)
    ∙ ap (λ o. insert_entry nat_cmp ships r.mmsi (told utc r (unwrap_or o unknown))) (sym (look_gap nat_cmp nat_cmp_total r.mmsi ships i s gap))
with_new utc ships new r mmsi i known ship (Err e) s own p ok first is made = let none : ⊥ = cc in absurd none

pub still_ships : (utc : ℤ) (ships : Ships) (r : Report) → AreShips ships → AreShips (with_report utc ships r)
still_ships utc ships r s = sorted_with nat_cmp nat_cmp_total r.mmsi _ ships s

pub no_ships : AreShips []
unfolding IsStrictlySortedBy
no_ships = tt

-- What an extent tells of the end of records.
use Rattle.std.proofs.Common.{◌≡◌, List, [], ◌∷◌, ◌++◌, Option, Some, None, refl, sym, ◌∙◌, ap}
use Rattle.std.proofs.lemmas.Option.{same_Some}
use Rattle.std.proofs.lemmas.Grind.{flat_map-append}
use Rattle.vdr_terms.specs.Records.{Record}
use Rattle.vdr_index.specs.declared.extent.Extent.{Extent}
use Rattle.vdr_index.specs.Extents.{records_in, first_records, extent_between, extent_of}
use Rattle.vdr_directory.specs.Sequence.{Placed, batches_of, batches_in, all_records}

-- Batches

pub none_recorded : (bs : List (List Record)) → extent_of bs ≡ None → (records_in bs ≡ []) × (first_records bs ≡ [])
none_recorded [] e = (refl, refl)
none_recorded ([] ∷ bs) e = none_recorded bs e
none_recorded ((r ∷ rs) ∷ bs) e = absurd (differs _ e)
  where
    differs : (x : Extent) → Some x ≡ None → ⊥
    differs x e = cc

-- the last record, and what the extent has of it
pub record Newest (o : Option Record) (x : Extent) : Type 0 where
  pub r : Record
  pub is : o ≡ Some r
  pub place : x.last_place ≡ r.place
  pub tick : x.last_tick ≡ r.tick
  pub utc : x.last_utc ≡ r.utc

pub newest_recorded : (a b c : Option Record) (x : Extent) → extent_between a b c ≡ Some x → Newest b x
newest_recorded None b c x e = cc
newest_recorded (Some f) None c x e = cc
newest_recorded (Some f) (Some r) None x e = cc
newest_recorded (Some f) (Some r) (Some g) x e =
    let same = sym (same_Some _ x e) in
    record { r = r; is = refl; place = ap (λ (y : Extent). y.last_place) same; tick = ap (λ (y : Extent). y.last_tick) same; utc = ap (λ (y : Extent). y.last_utc) same }

-- A medium

pub records_of_all : (placed : List Placed) → records_in (batches_in placed) ≡ all_records placed
records_of_all [] = refl
records_of_all (p ∷ ps) = flat_map-append (λ (b : List Record). b) (batches_of p) (batches_in ps) ∙ ap (λ (rs : List Record). records_in (batches_of p) ++ rs) (records_of_all ps)

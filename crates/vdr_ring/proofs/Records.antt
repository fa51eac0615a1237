-- The records of a medium's batches are its records.
use Rattle.std.proofs.Common.{◌≡◌, List, [], ◌∷◌, refl, ap, ◌∙◌, ◌++◌, All}
use Rattle.std.proofs.lemmas.List.Elements.{All-nil, All-head, All-tail, All-append}
use Rattle.std.proofs.lemmas.Grind.{flat_map-append}
use Rattle.vdr_terms.specs.Records.{Record}
use Rattle.vdr_durability.specs.Layout.{segment_records, Batches}
use Rattle.vdr_directory.specs.Sequence.{Placed, all_records, batches_in, batches_of}
use Rattle.vdr_terms.specs.Legality.{IsRecord}
use Rattle.vdr_segment.specs.Batches.{IsBatch}

-- The records of the batches of a medium are its records.
pub records_are : (placed : List Placed) → segment_records (batches_in placed) ≡ all_records placed
records_are [] = refl
records_are (p ∷ ps) =
    flat_map-append (λ (b : List Record). b) (batches_of p) (batches_in ps)
    ∙ ap (λ (rs : List Record). segment_records (batches_of p) ++ rs) (records_are ps)

-- The records of a medium are legal.

pub legal_records : (batches : Batches) → All IsBatch batches → All IsRecord (segment_records batches)
legal_records [] h = All-nil IsRecord
legal_records (b ∷ batches) h = All-append IsRecord b (segment_records batches) (All-head IsBatch b batches h).legal (legal_records batches (All-tail IsBatch b batches h))

pub all_legal : (placed : List Placed) → All (λ p. All IsBatch (batches_of p)) placed → All IsRecord (all_records placed)
all_legal [] h = All-nil IsRecord
all_legal (p ∷ placed) h =
    All-append IsRecord (segment_records (batches_of p)) (all_records placed)
    (legal_records (batches_of p) (All-head (λ p. All IsBatch (batches_of p)) p placed h))
    (all_legal placed (All-tail (λ p. All IsBatch (batches_of p)) p placed h))

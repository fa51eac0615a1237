-- Segments in a legal order end as what opening knows of them does.
use Rattle.std.proofs.Common.{◌≡◌, List, [], ◌∷◌, ◌++◌, map, All, Option, Some, None, refl, sym, ap, ◌∙◌}
use Rattle.std.proofs.lemmas.List.Elements.{All-nil, All-cons, All-contains, Contains-append_left, Contains-append_right}
use Rattle.std.proofs.lemmas.Option.{none-some}
use Rattle.vdr_terms.specs.Records.{Record, last, last_after}
use Rattle.vdr_terms.specs.Legality.{IsRecord}
use Rattle.vdr_durability.proofs.Lists.{all_from, last_behind}
use Rattle.vdr_entry.specs.declared.summary.Summary.{Summary}
use Rattle.vdr_index.specs.Extents.{records_in}
use Rattle.vdr_directory.specs.Sequence.{Placed, all_records, batches_in, batches_of, records_of}
use Rattle.vdr_directory.specs.Order.{AreInOrder, AreInPlace}
use Rattle.vdr_directory.specs.Knowns.{summary_of, known_of, AreInOrderBy}
use Rattle.vdr_directory.proofs.ByKnowns.{AreLow, IsLow, in_place_by, in_place_known}
use Rattle.vdr_directory.proofs.Ends.{records_of_all}
use Rattle.vdr_directory.proofs.EndingsBy.{behind_summarized, ended_some, precede_known, read_same}
use Rattle.vdr_directory.proofs.Runs.{last_behind_some}

last_more : {X : Type 0} (xs ys zs : List X) → last ys ≡ last zs → last (xs ++ ys) ≡ last (xs ++ zs)
last_more xs [] [] e = refl
last_more xs [] (z ∷ zs) e = absurd (none-some (last_after z zs) e)
last_more xs (y ∷ ys) [] e = absurd (none-some (last_after y ys) (sym e))
last_more xs (y ∷ ys) (z ∷ zs) e = last_behind xs y ys ∙ e ∙ sym (last_behind xs z zs)

last_same : {X : Type 0} (xs ys zs : List X) → (zs ≡ [] → ⊥) → last (xs ++ zs) ≡ last (ys ++ zs)
last_same xs ys zs some = last_behind_some xs zs some ∙ sym (last_behind_some ys zs some)

module _ (o : Option Placed) (p : Placed) (ps : List Placed) (h : AreInPlace o (p ∷ ps)) (s : Summary) (is : summary_of p ≡ Some s) where
  records_behind : records_in (batches_in (map known_of ps)) ≡ [] → ⊥
  records_behind = let k = precede_known o (p ∷ ps) h in ended_some (batches_in (map known_of ps)) (behind_summarized (known_of p) s (map known_of ps) k.0 k.1 is)

  batches_behind : batches_in (map known_of ps) ≡ [] → ⊥
  batches_behind none = records_behind (ap records_in none)

  all_behind : all_records (map known_of ps) ≡ [] → ⊥
  all_behind none = records_behind (records_of_all (map known_of ps) ∙ none)

-- the last batch
pub last_batch_known : (o : Option Placed) (ps : List Placed) → AreInPlace o ps → last (batches_in (map known_of ps)) ≡ last (batches_in ps)
last_batch_known o [] h = refl
last_batch_known o (p ∷ ps) h = go (summary_of p) refl ∙ last_more (batches_of p) (batches_in (map known_of ps)) (batches_in ps) (last_batch_known (Some p) ps h.1)
  where
    go : (x : Option Summary) → summary_of p ≡ x → last (batches_of (known_of p) ++ batches_in (map known_of ps)) ≡ last (batches_of p ++ batches_in (map known_of ps))
    go None none = ap (λ (bs : List (List Record)). last (bs ++ batches_in (map known_of ps))) (read_same p none)
    go (Some s) is = last_same (batches_of (known_of p)) (batches_of p) (batches_in (map known_of ps)) (batches_behind o p ps h s is)

-- the last record
pub last_record_known : (o : Option Placed) (ps : List Placed) → AreInPlace o ps → last (all_records (map known_of ps)) ≡ last (all_records ps)
last_record_known o [] h = refl
last_record_known o (p ∷ ps) h = go (summary_of p) refl ∙ last_more (records_of p) (all_records (map known_of ps)) (all_records ps) (last_record_known (Some p) ps h.1)
  where
    go : (x : Option Summary) → summary_of p ≡ x → last (records_of (known_of p) ++ all_records (map known_of ps)) ≡ last (records_of p ++ all_records (map known_of ps))
    go None none = ap (λ (bs : List (List Record)). last (records_in bs ++ all_records (map known_of ps))) (read_same p none)
    go (Some s) is = last_same (records_of (known_of p)) (records_of p) (all_records (map known_of ps)) (all_behind o p ps h s is)

-- Where their records are legal, what is known is in a legal order.
low_records : (ps : List Placed) → All IsRecord (all_records ps) → All AreLow ps
low_records [] h = All-nil AreLow
low_records (p ∷ ps) h =
    All-cons AreLow p ps
    (all_from IsLow (records_of p) (λ r m. let l = All-contains IsRecord (all_records (p ∷ ps)) r h (Contains-append_left (records_of p) (all_records ps) r m) in record { place = l.place; tick = l.tick }))
    (low_records ps (all_from IsRecord (all_records ps) (λ r m. All-contains IsRecord (all_records (p ∷ ps)) r h (Contains-append_right (records_of p) (all_records ps) r m))))

pub in_order_legal : (ps : List Placed) → All IsRecord (all_records ps) → AreInOrder ps → AreInOrderBy (map known_of ps)
in_order_legal ps legal order = in_place_known None ps (in_place_by None ps tt order (low_records ps legal))

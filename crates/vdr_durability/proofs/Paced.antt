-- Regular media stay regular: as a batch is appended, a segment begun, or a victim removed.
use Rattle.std.proofs.Common.{ℕ, ◌+◌, ◌-◌, ◌<◌, ◌≤◌, List, [], ◌∷◌, ◌++◌, length, All, ◌≡◌, sym, ap, ◌∙◌, subst, arith, append_assoc, append-nil}
use Rattle.std.proofs.lemmas.List.Sums.{sum_by-cons, sum_by-append}
use Rattle.std.proofs.lemmas.List.Elements.{All-append, All-cons, All-nil, All-contains, Contains-append_left, Contains-append_right, Contains-push}
use Rattle.std.proofs.lemmas.Grind.{flat_map-append}
use Rattle.vdr_terms.specs.Records.{Record, last}
use Rattle.vdr_terms.specs.Order.{AreInOrder}
use Rattle.vdr_terms.specs.Sizes.{records_size}
use Rattle.vdr_durability.specs.Layout.{Batches, batch_size_at, batches_size, batches_size_at, records_in, segment_records}
use Rattle.vdr_durability.specs.Regular.{FollowOn, IsPaced, IsRegular}
use Rattle.vdr_durability.proofs.Lists.{all_from, contains_there, records_split}
use Rattle.vdr_durability.proofs.Following.{follow_in_order}
use Rattle.vdr_durability.proofs.Ordered.{remove_held_in_order}

abbrev IsBatch : ℕ → List Record → Type 0
IsBatch batch b = (0 < length b) × (records_size b ≤ batch)

all_with : (batches : Batches) (b : List Record) → segment_records (batches ++ b ∷ []) ≡ segment_records batches ++ b
all_with batches b = flat_map-append (λ (b : List Record). b) batches (b ∷ []) ∙ ap (λ (xs : List Record). segment_records batches ++ xs) (append-nil b)

-- the records with the batch in the newest segment
pub records_with : (older : List Batches) (newest : Batches) (b : List Record) → records_in (older ++ (newest ++ b ∷ []) ∷ []) ≡ records_in (older ++ newest ∷ []) ++ b
records_with older newest b =
    records_split older (newest ++ b ∷ [])
    ∙ (ap (λ (xs : List Record). records_in older ++ xs) (all_with newest b)
    ∙ (sym (append_assoc (records_in older) (segment_records newest) b) ∙ ap (λ (xs : List Record). xs ++ b) (sym (records_split older newest))))

module _ (cost usable batch : ℕ) (older : List Batches) (newest : Batches) where
  -- A paced batch goes into the newest segment.
  pub append_stays_regular : (b : List Record) → IsRegular cost usable batch older newest → IsPaced cost batch (older ++ newest ∷ []) b → IsRegular cost usable batch older (newest ++ b ∷ [])
  append_stays_regular b h p = record {
    order = subst AreInOrder (sym (records_with older newest b)) (follow_in_order (records_in (older ++ newest ∷ [])) b h.order p.order);
    filled = h.filled;
    batches = All-append (λ s. All (IsBatch batch) s) older ((newest ++ b ∷ []) ∷ [])
        (all_from (λ s. All (IsBatch batch) s) older (λ s m. All-contains (λ s. All (IsBatch batch) s) (older ++ newest ∷ []) s h.batches (Contains-append_left older (newest ∷ []) s m)))
        (All-cons (λ s. All (IsBatch batch) s) (newest ++ b ∷ []) []
        (All-append (IsBatch batch) newest (b ∷ []) here (All-cons (IsBatch batch) b [] (p.some, p.short) (All-nil (IsBatch batch))))
        (All-nil (λ s. All (IsBatch batch) s)));
    paced = λ s.
        let a = sum_by-append (batches_size_at s) older ((newest ++ b ∷ []) ∷ []) in
        let c = sum_by-append (batches_size_at s) older (newest ∷ []) in
        let d = sum_by-append (batch_size_at s) newest (b ∷ []) in
        let e = p.paced s in
        omega (arith, a, c, d, e);
  }
    where
      here : All (IsBatch batch) newest
      here = last_all older h.batches
        where
          last_all : (older : List Batches) → All (λ s. All (IsBatch batch) s) (older ++ newest ∷ []) → All (IsBatch batch) newest
          last_all older k = All-contains (λ s. All (IsBatch batch) s) (older ++ newest ∷ []) newest k (Contains-push older newest)

  -- A segment is begun, as the newest has more than the usable bytes.
  pub begin_stays_regular : usable < batches_size newest → IsRegular cost usable batch older newest → IsRegular cost usable batch (older ++ newest ∷ []) []
  begin_stays_regular full h = record {
    order = subst AreInOrder (sym (records_split (older ++ newest ∷ []) [] ∙ append-nil (records_in (older ++ newest ∷ [])))) h.order;
    filled = All-append (λ s. usable < batches_size s) older (newest ∷ []) h.filled (All-cons (λ s. usable < batches_size s) newest [] full (All-nil (λ s. usable < batches_size s)));
    batches = All-append (λ s. All (IsBatch batch) s) (older ++ newest ∷ []) ([] ∷ []) h.batches (All-cons (λ s. All (IsBatch batch) s) [] [] (All-nil (IsBatch batch)) (All-nil (λ s. All (IsBatch batch) s)));
    paced = λ s. let a = sum_by-append (batches_size_at s) (older ++ newest ∷ []) ([] ∷ []) in let b = h.paced s in omega (arith, a, b);
  }

-- A victim may be removed.
pub remove_stays_regular : (cost usable batch : ℕ) (before : List Batches) (victim : Batches) (after : List Batches) (newest : Batches)
    → IsRegular cost usable batch (before ++ victim ∷ after) newest → IsRegular cost usable batch (before ++ after) newest
remove_stays_regular cost usable batch before victim after newest h = record {
  order = subst AreInOrder (sym (ap records_in (append_assoc before after (newest ∷ [])) ∙ flat_map-append segment_records before (after ++ newest ∷ [])))
      (remove_held_in_order (records_in before) (segment_records victim) (records_in (after ++ newest ∷ []))
      (subst AreInOrder (ap records_in (append_assoc before (victim ∷ after) (newest ∷ [])) ∙ flat_map-append segment_records before (victim ∷ (after ++ newest ∷ []))) h.order));
  filled = fewer (λ s. usable < batches_size s) before victim after h.filled;
  batches = subst (λ (xs : List Batches). All (λ s. All (IsBatch batch) s) xs) (sym (append_assoc before after (newest ∷ [])))
      (fewer (λ s. All (IsBatch batch) s) before victim (after ++ newest ∷ []) (subst (λ (xs : List Batches). All (λ s. All (IsBatch batch) s) xs) (append_assoc before (victim ∷ after) (newest ∷ [])) h.batches));
  paced = λ s.
      let a = sum_by-append (batches_size_at s) (before ++ after) (newest ∷ []) in
      let b = sum_by-append (batches_size_at s) before after in
      let c = sum_by-append (batches_size_at s) (before ++ victim ∷ after) (newest ∷ []) in
      let d = sum_by-append (batches_size_at s) before (victim ∷ after) in
      let e = sum_by-cons (batches_size_at s) victim after in
      let f = h.paced s in
      omega (arith, a, b, c, d, e, f);
}
  where
    fewer : (P : Batches → Type 0) (before : List Batches) (victim : Batches) (after : List Batches) → All P (before ++ victim ∷ after) → All P (before ++ after)
    fewer P before victim after k = All-append P before after
        (all_from P before (λ s m. All-contains P (before ++ victim ∷ after) s k (Contains-append_left before (victim ∷ after) s m)))
        (all_from P after (λ s m. All-contains P (before ++ victim ∷ after) s k (Contains-append_right before (victim ∷ after) s (contains_there victim after s m))))

-- A batch that may come next may still come once a segment is begun, still empty.
pub begin_stays_paced : (cost batch : ℕ) (segments : List Batches) (b : List Record) → IsPaced cost batch segments b → IsPaced cost batch (segments ++ [] ∷ []) b
begin_stays_paced cost batch segments b p = record {
  some = p.some;
  short = p.short;
  order = subst (λ (rs : List Record). FollowOn (last rs) b) (sym (records_split segments [] ∙ append-nil (records_in segments))) p.order;
  paced = λ s. let a = sum_by-append (batches_size_at s) segments ([] ∷ []) in let c = p.paced s in omega (arith, a, c);
}

-- A batch that does not fit leaves a segment with more than the usable bytes.
pub full_where_unfit : (segment batch bytes n : ℕ) → n ≤ batch → 64 + (batch + 6) ≤ segment → segment < 64 + bytes + 5 + n + 1 → segment - 64 - (batch + 6) < bytes
full_where_unfit segment batch bytes n short roomy unfit = omega arith

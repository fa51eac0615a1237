-- A batch that may come next continues a medium, and the last record of a regular medium is that of its last batch.
use Rattle.std.proofs.Common.{◌≡◌, ◌≢◌, inl, inr, ◌<◌, ◌≤◌, ℕ, List, [], ◌∷◌, ◌++◌, length, All, true, Option, Some, None, refl, sym, ap, ◌∙◌, subst, arith}
use Rattle.std.proofs.lemmas.Bool.{eq-eqb}
use Rattle.std.proofs.lemmas.List.Elements.{All-nil, All-append, All-contains, All-head, All-tail, All-weaker}
use Rattle.vdr_terms.specs.Needs.{cost, usable}
use Rattle.vdr_terms.specs.Order.{NeverFalls, RunOn}
use Rattle.vdr_terms.specs.Records.{Record, last}
use Rattle.vdr_terms.specs.Sizes.{records_size}
use Rattle.vdr_durability.specs.Layout.{Batches, segment_records}
use Rattle.vdr_durability.specs.Regular.{FollowOn}
use Rattle.vdr_durability.proofs.Lists.{last_contained}
use Rattle.vdr_durability.specs.Readings.{begins_at, comes_next, ends_before, next_after}
use Rattle.vdr_durability.proofs.Restored.{all_with, comes_behind, ends_in}
use Rattle.vdr_directory.specs.Sequence.{Placed, all_records, batches_in, batches_of, segments_in}
use Rattle.vdr_directory.specs.Order.{AreInOrder}
use Rattle.vdr_ring.specs.Regularity.{AreLaidOut, AreRegular}
use Rattle.vdr_directory.specs.Growing.{Continues, next_of, tick_of}
use Rattle.vdr_ring.proofs.Medium.{next_after_last, place_after}
use Rattle.vdr_directory.proofs.Runs.{nil_from_last}
use Rattle.vdr_ring.proofs.Allowed.{last_of_both}
use Rattle.vdr_ring.proofs.Records.{records_are}

-- The last record is that of the last batch

abbrev pub IsSome : List Record → Type 0
IsSome b = 0 < length b

abbrev pub last_of : Option (List Record) → Option Record
last_of None = None
last_of (Some b) = last b

some_batches : (ps : List Placed) → All (λ segment. All IsSome segment) (segments_in ps) → All IsSome (batches_in ps)
some_batches [] h = All-nil IsSome
some_batches (p ∷ ps) h = All-append IsSome (batches_of p) (batches_in ps) (All-head (λ segment. All IsSome segment) (batches_of p) (segments_in ps) h) (some_batches ps (All-tail (λ segment. All IsSome segment) (batches_of p) (segments_in ps) h))

-- no batch of a regular medium is empty
pub regular_batches : (cost usable batch : ℕ) (placed : List Placed) → AreLaidOut cost usable batch placed → All IsSome (batches_in placed)
regular_batches cost usable batch placed (inl e) = subst (λ (ps : List Placed). All IsSome (batches_in ps)) (sym e) (All-nil IsSome)
regular_batches cost usable batch placed (inr (older, newest, e, h)) =
    some_batches placed (subst (All (λ (segment : Batches). All IsSome segment)) (sym e)
    (All-weaker (λ segment. All (λ b. (0 < length b) × (records_size b ≤ batch)) segment) (λ segment. All IsSome segment)
    (λ segment k. All-weaker (λ b. (0 < length b) × (records_size b ≤ batch)) IsSome (λ b l. l.0) segment k) (older ++ newest ∷ []) h.batches))

pub last_by_batch : (bs : Batches) → All IsSome bs → last (segment_records bs) ≡ last_of (last bs)
last_by_batch bs some = go (last bs) refl
  where
    go : (o : Option (List Record)) → last bs ≡ o → last (segment_records bs) ≡ last_of o
    go None e = ap (λ (l : Batches). last (segment_records l)) (nil_from_last bs e)
    go (Some b) e =
        let k = ends_in bs b e in
        ap (λ (l : Batches). last (segment_records l)) k.split ∙ ap last (all_with k.front b) ∙ last_of_both (segment_records k.front) b (All-contains IsSome bs b some (last_contained bs b e))

-- Two regular media that end with one batch end with one record.
pub one_end : (cost usable batch : ℕ) (x y : List Placed) → AreRegular cost usable batch x → AreRegular cost usable batch y → last (batches_in x) ≡ last (batches_in y) → last (all_records x) ≡ last (all_records y)
one_end cost usable batch x y h k e =
    ap last (sym (records_are x)) ∙ last_by_batch (batches_in x) (regular_batches cost usable batch x h.layout) ∙ ap last_of e
    ∙ sym (last_by_batch (batches_in y) (regular_batches cost usable batch y k.layout)) ∙ ap last (records_are y)

-- A batch from the next place on that follows the last record is the one before which the medium ends.
pub waits : (placed : List Placed) (records : List Record) (next : ℕ) → next_after (last (all_records placed)) ≡ next → RunOn next records → 0 < length records → FollowOn (last (all_records placed)) records
    → ends_before (Some records) (batches_in placed) ≡ true
waits placed records next is run some follow = ap (λ (rs : List Record). comes_next (last rs) records) (records_are placed)
    ∙ comes_behind (last (all_records placed)) records (ap (λ (n : ℕ). begins_at n records) is ∙ begins records run some) follow
  where
    begins : (records : List Record) → RunOn next records → 0 < length records → begins_at next records ≡ true
    begins [] run lt = absurd (omega (arith, lt))
    begins (r ∷ rs) run lt = eq-eqb r.place next run.0

-- It continues the medium

same_next : (o : Option Record) → place_after o ≡ next_after o
same_next None = refl
same_next (Some r) = refl

goes_on_ticks : (o : Option Record) (records : List Record) → FollowOn o records → NeverFalls (tick_of o) records
goes_on_ticks None records h = h.2
goes_on_ticks (Some r) records h = h.1

pub continues : (placed : List Placed) (records : List Record) (next : ℕ) → AreInOrder placed → next_after (last (all_records placed)) ≡ next → RunOn next records → 0 < length records
    → FollowOn (last (all_records placed)) records → Continues placed next records
continues placed records next order is run some follow = record {
  some = nonempty records some;
  from = λ p e. sym is ∙ sym (same_next (last (all_records placed))) ∙ sym (next_after_last placed order) ∙ ap next_of e;
  places = run;
  ticks = goes_on_ticks (last (all_records placed)) records follow;
}
  where
    nonempty : (xs : List Record) → 0 < length xs → xs ≢ []
    nonempty xs lt = λ e. let n : length xs ≡ 0 = ap length e in omega (arith, lt, n)

-- A first batch on a medium without segments begins at place 0.
pub begins_first : (placed : List Placed) (next : ℕ) → next_after (last (all_records placed)) ≡ next → placed ≡ [] → next ≡ 0
begins_first placed next is e = sym is ∙ ap (λ (ps : List Placed). next_after (last (all_records ps))) e

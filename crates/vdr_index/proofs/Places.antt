-- The order once a slot is moved to the place of its new key.
use Rattle.std.proofs.Common.{◌≡◌, ◌≢◌, ◌⊎◌, ◌<◌, ◌≤◌, ◌^◌, ℕ, zero, suc, List, length, get_or, set, Contains, Option, Some, None, inl, inr, ⊎_elim, refl, sym, ap, ◌∙◌, arith, length-set}
use Rattle.std.proofs.lemmas.Bool.{cases_eq, cases_lt}
use Rattle.std.proofs.lemmas.List.{get_or-set_same, get_or-set_other, get_or_default}
use Rattle.std.proofs.lemmas.Option.{slice_get-get_or, slice_get_within, get_or_from_slice_get}
use Rattle.vdr_index.specs.declared.known.Known.{Known}
use Rattle.vdr_index.specs.Indexes.{Keeps}
use Rattle.vdr_index.specs.Keys.{key_of, key_in, Rises, IsOrdered, IsRank, IsMoved}
use Rattle.vdr_index.proofs.Ranks.{keeps_at, Stands, place_of, one_place, rank_here}

-- What stands at i stood at s.
pub data Went (from to i s : ℕ) : Type 0 where
  low : i < to → i < from → s ≡ i → Went from to i s
  up : i < to → from ≤ i → s ≡ suc i → Went from to i s
  high : to < i → from < i → s ≡ i → Went from to i s
  down : to < i → i ≤ from → suc s ≡ i → Went from to i s

went_up : (from to i j s t : ℕ) → Went from to i s → Went from to j t → i < j → s < t
went_up from to i j s t (low a b c) (low d e f) lt = omega (arith, a, b, c, d, e, f, lt)
went_up from to i j s t (low a b c) (up d e f) lt = omega (arith, a, b, c, d, e, f, lt)
went_up from to i j s t (low a b c) (high d e f) lt = omega (arith, a, b, c, d, e, f, lt)
went_up from to i j s t (low a b c) (down d e f) lt = omega (arith, a, b, c, d, e, f, lt)
went_up from to i j s t (up a b c) (low d e f) lt = omega (arith, a, b, c, d, e, f, lt)
went_up from to i j s t (up a b c) (up d e f) lt = omega (arith, a, b, c, d, e, f, lt)
went_up from to i j s t (up a b c) (high d e f) lt = omega (arith, a, b, c, d, e, f, lt)
went_up from to i j s t (up a b c) (down d e f) lt = omega (arith, a, b, c, d, e, f, lt)
went_up from to i j s t (high a b c) (low d e f) lt = omega (arith, a, b, c, d, e, f, lt)
went_up from to i j s t (high a b c) (up d e f) lt = omega (arith, a, b, c, d, e, f, lt)
went_up from to i j s t (high a b c) (high d e f) lt = omega (arith, a, b, c, d, e, f, lt)
went_up from to i j s t (high a b c) (down d e f) lt = omega (arith, a, b, c, d, e, f, lt)
went_up from to i j s t (down a b c) (low d e f) lt = omega (arith, a, b, c, d, e, f, lt)
went_up from to i j s t (down a b c) (up d e f) lt = omega (arith, a, b, c, d, e, f, lt)
went_up from to i j s t (down a b c) (high d e f) lt = omega (arith, a, b, c, d, e, f, lt)
went_up from to i j s t (down a b c) (down d e f) lt = omega (arith, a, b, c, d, e, f, lt)

went_other : (from to i s : ℕ) → Went from to i s → s ≢ from
went_other from to i s (low a b c) e = omega (arith, a, b, c, e)
went_other from to i s (up a b c) e = omega (arith, a, b, c, e)
went_other from to i s (high a b c) e = omega (arith, a, b, c, e)
went_other from to i s (down a b c) e = omega (arith, a, b, c, e)

went_within : (from to i s n : ℕ) → Went from to i s → i < n → to < n → from < n → s < n
went_within from to i s n (low a b c) h k m = omega (arith, a, b, c, h, k, m)
went_within from to i s n (up a b c) h k m = omega (arith, a, b, c, h, k, m)
went_within from to i s n (high a b c) h k m = omega (arith, a, b, c, h, k, m)
went_within from to i s n (down a b c) h k m = omega (arith, a, b, c, h, k, m)

came_within : (from to i s n : ℕ) → Went from to i s → s < n → to < n → from < n → i < n
came_within from to i s n (low a b c) h k m = omega (arith, a, b, c, h, k, m)
came_within from to i s n (up a b c) h k m = omega (arith, a, b, c, h, k, m)
came_within from to i s n (high a b c) h k m = omega (arith, a, b, c, h, k, m)
came_within from to i s n (down a b c) h k m = omega (arith, a, b, c, h, k, m)

-- where the element is to go, by the rank of its new key
abbrev pub GoesTo : (from behind to : ℕ) → Type 0
GoesTo from behind to = ((from < behind) × (suc to ≡ behind)) ⊎ ((behind ≤ from) × (to ≡ behind))

went_low : (from behind to i s : ℕ) → GoesTo from behind to → Went from to i s → i < to → s < behind
went_low from behind to i s (inl g) (low a b c) lt = omega (arith, g.0, g.1, a, b, c, lt)
went_low from behind to i s (inl g) (up a b c) lt = omega (arith, g.0, g.1, a, b, c, lt)
went_low from behind to i s (inl g) (high a b c) lt = omega (arith, g.0, g.1, a, b, c, lt)
went_low from behind to i s (inl g) (down a b c) lt = omega (arith, g.0, g.1, a, b, c, lt)
went_low from behind to i s (inr g) (low a b c) lt = omega (arith, g.0, g.1, a, b, c, lt)
went_low from behind to i s (inr g) (up a b c) lt = omega (arith, g.0, g.1, a, b, c, lt)
went_low from behind to i s (inr g) (high a b c) lt = omega (arith, g.0, g.1, a, b, c, lt)
went_low from behind to i s (inr g) (down a b c) lt = omega (arith, g.0, g.1, a, b, c, lt)

went_high : (from behind to i s : ℕ) → GoesTo from behind to → Went from to i s → to < i → behind ≤ s
went_high from behind to i s (inl g) (low a b c) lt = omega (arith, g.0, g.1, a, b, c, lt)
went_high from behind to i s (inl g) (up a b c) lt = omega (arith, g.0, g.1, a, b, c, lt)
went_high from behind to i s (inl g) (high a b c) lt = omega (arith, g.0, g.1, a, b, c, lt)
went_high from behind to i s (inl g) (down a b c) lt = omega (arith, g.0, g.1, a, b, c, lt)
went_high from behind to i s (inr g) (low a b c) lt = omega (arith, g.0, g.1, a, b, c, lt)
went_high from behind to i s (inr g) (up a b c) lt = omega (arith, g.0, g.1, a, b, c, lt)
went_high from behind to i s (inr g) (high a b c) lt = omega (arith, g.0, g.1, a, b, c, lt)
went_high from behind to i s (inr g) (down a b c) lt = omega (arith, g.0, g.1, a, b, c, lt)

-- each index but one, forwards and back
source : (from to i : ℕ) → i ≢ to → (s : ℕ) × Went from to i s
source from to i ne = ⊎_elim
    (λ (l : i < to). ⊎_elim
    (λ (k : i < from). let r : (s : ℕ) × Went from to i s = (i, low l k refl) in r)
    (λ (k : from ≤ i). let r : (s : ℕ) × Went from to i s = (suc i, up l k refl) in r)
    (cases_lt i from))
    (λ (l : to ≤ i). ⊎_elim
    (λ (k : from < i). let r : (s : ℕ) × Went from to i s = (i, high (omega (arith, l, ne)) k refl) in r)
    (λ (k : i ≤ from). before i (omega (arith, l, ne)) k)
    (cases_lt from i))
    (cases_lt i to)
  where
    before : (i : ℕ) → to < i → i ≤ from → (s : ℕ) × Went from to i s
    before zero l k = absurd (omega (arith, l))
    before (suc i) l k = (i, down l k refl)

target : (from to s : ℕ) → s ≢ from → (i : ℕ) × Went from to i s
target from to s ne = ⊎_elim
    (λ (l : s < from). ⊎_elim
    (λ (k : s < to). let r : (i : ℕ) × Went from to i s = (s, low k l refl) in r)
    (λ (k : to ≤ s). let r : (i : ℕ) × Went from to i s = (suc s, down (omega (arith, k)) (omega (arith, l)) refl) in r)
    (cases_lt s to))
    (λ (l : from ≤ s). ⊎_elim
    (λ (k : to < s). let r : (i : ℕ) × Went from to i s = (s, high k (omega (arith, l, ne)) refl) in r)
    (λ (k : s ≤ to). before s (omega (arith, l, ne)) k)
    (cases_lt to s))
    (cases_lt s from)
  where
    before : (s : ℕ) → from < s → s ≤ to → (i : ℕ) × Went from to i s
    before zero l k = absurd (omega (arith, l))
    before (suc s) l k = (s, up (omega (arith, k)) (omega (arith, l)) refl)

moved_from : (old new : List ℕ) (from to i s : ℕ) → IsMoved old new from to → Went from to i s → (d : ℕ) → get_or new i d ≡ get_or old s d
moved_from old new from to i s m (low a b c) d = m.low i d b a ∙ ap (λ (n : ℕ). get_or old n d) (sym c)
moved_from old new from to i s m (up a b c) d = m.up i d b a ∙ ap (λ (n : ℕ). get_or old n d) (omega (arith, c))
moved_from old new from to i s m (high a b c) d = m.high i d b a ∙ ap (λ (n : ℕ). get_or old n d) (sym c)
moved_from old new from to i s m (down a b c) d = m.down i d a b ∙ ap (λ (n : ℕ). get_or old n d) (omega (arith, c))

-- No other slot has the key.
module _ (kept : List (Option Known)) (order : List ℕ) (o : IsOrdered kept order) (slot : ℕ) (known : Option Known) (within : slot < length kept) (fits : (k : Known) → known ≡ Some k → k.seq < 2 ^ 64) where
  low_slot : slot < 2 ^ 32
  low_slot = let few = o.few in omega (arith, within, few)

  low_other : (other : ℕ) (k : Known) → Keeps kept other k → other < 2 ^ 32
  low_other other k at = let lt = slice_get_within kept other (Some k) at in let few = o.few in omega (arith, lt, few)

  apart : (other : ℕ) → other ≢ slot → (x y : Option Known) → get_or kept other None ≡ x → known ≡ y → key_of other x ≢ key_of slot y
  apart other ne None None at is same = ne (omega (arith, same))
  apart other ne None (Some new) at is same = let low : new.seq < 2 ^ 64 = fits new is in let last = low_slot in omega (arith, same, low, last)
  apart other ne (Some k) None at is same =
      let there : Keeps kept other k = keeps_at kept other k at in let low : k.seq < 2 ^ 64 = o.low other k there in let last = low_other other k there in omega (arith, same, low, last)
  apart other ne (Some k) (Some new) at is same =
      let last = low_slot in let last_other = low_other other k (keeps_at kept other k at) in ne (omega (arith, same, last, last_other))

  pub unlike_key : (other : ℕ) → other ≢ slot → key_of other (get_or kept other None) ≢ key_of slot known
  unlike_key other ne = apart other ne (get_or kept other None) known refl refl

module _ (kept : List (Option Known)) (order : List ℕ) (o : IsOrdered kept order) (slot : ℕ) (known : Option Known) (within : slot < length kept) (fits : (k : Known) → known ≡ Some k → k.seq < 2 ^ 64)
    (differs : (other : ℕ) → other ≢ slot → key_of other (get_or kept other None) ≢ key_of slot known) (from behind to : ℕ) (here : IsRank kept order (key_in kept slot) from) (rank : IsRank kept order (key_of slot known) behind)
    (goes : GoesTo from behind to) where
  stands : Stands kept order o slot from
  stands = rank_here kept order o slot from within here

  pub from_within : from < length order
  from_within = stands.within

  pub to_within : to < length order
  to_within = reach goes
    where
      reach : GoesTo from behind to → to < length order
      reach (inl g) = let a = rank.within in omega (arith, g.0, g.1, a)
      reach (inr g) = let a = stands.within in omega (arith, g.0, g.1, a)

  abbrev after_set : List (Option Known)
  after_set = set kept slot known

  key_same : (j : ℕ) → j ≢ slot → key_in after_set j ≡ key_in kept j
  key_same j ne = ap (key_of j) (get_or-set_other kept slot j known None ne)

  key_slot : key_in after_set slot ≡ key_of slot known
  key_slot = ap (key_of slot) (get_or-set_same kept slot known None within)

  -- what stands elsewhere is another slot
  other_slot : (s d : ℕ) → s < length order → s ≢ from → get_or order s d ≢ slot
  other_slot s d lt ne same = ne (one_place kept order o slot s from (record { within = lt; is = λ e. get_or_default order s e d lt ∙ same }) stands)

  module _ (new : List ℕ) (m : IsMoved order new from to) where
    -- the key of what went
    key_went : (i s d : ℕ) → Went from to i s → s < length order → key_in after_set (get_or new i d) ≡ key_in kept (get_or order s d)
    key_went i s d w lt =
        ap (key_in after_set) (moved_from order new from to i s m w d) ∙ key_same (get_or order s d) (other_slot s d lt (went_other from to i s w))

    key_moved : (d : ℕ) → key_in after_set (get_or new to d) ≡ key_of slot known
    key_moved d = ap (key_in after_set) (m.here d ∙ stands.is d) ∙ key_slot

    long : length new ≡ length order
    long = m.size

    rises : Rises after_set new
    rises i j d lt in_new = ⊎_elim
        (λ (is : i ≡ to).
        let w : (s : ℕ) × Went from to j s = source from to j (λ e. omega (arith, is, e, lt)) in
        let ws : w.0 < length order = went_within from to j w.0 (length order) w.1 (omega (arith, in_new, long)) to_within from_within in
        let above : behind ≤ w.0 = went_high from behind to j w.0 goes w.1 (omega (arith, is, lt)) in
        let key : key_of slot known ≤ key_in kept (get_or order w.0 d) = rank.above w.0 d above ws in
        let ne : key_in kept (get_or order w.0 d) ≢ key_of slot known = differs (get_or order w.0 d) (other_slot w.0 d ws (went_other from to j w.0 w.1)) in
        let a : key_in after_set (get_or new i d) ≡ key_of slot known = ap (λ (n : ℕ). key_in after_set (get_or new n d)) is ∙ key_moved d in
        let b : key_in after_set (get_or new j d) ≡ key_in kept (get_or order w.0 d) = key_went j w.0 d w.1 ws in
        omega (arith, key, ne, a, b))
        (λ (ne_i : i ≡ to → ⊥).
        let v : (s : ℕ) × Went from to i s = source from to i ne_i in
        let vs : v.0 < length order = went_within from to i v.0 (length order) v.1 (omega (arith, lt, in_new, long)) to_within from_within in
        let a : key_in after_set (get_or new i d) ≡ key_in kept (get_or order v.0 d) = key_went i v.0 d v.1 vs in
        ⊎_elim
        (λ (is : j ≡ to).
        let below : v.0 < behind = went_low from behind to i v.0 goes v.1 (omega (arith, is, lt)) in
        let key : key_in kept (get_or order v.0 d) < key_of slot known = rank.below v.0 d below in
        let b : key_in after_set (get_or new j d) ≡ key_of slot known = ap (λ (n : ℕ). key_in after_set (get_or new n d)) is ∙ key_moved d in
        omega (arith, key, a, b))
        (λ (ne_j : j ≡ to → ⊥).
        let w : (s : ℕ) × Went from to j s = source from to j ne_j in
        let ws : w.0 < length order = went_within from to j w.0 (length order) w.1 (omega (arith, in_new, long)) to_within from_within in
        let key : key_in kept (get_or order v.0 d) < key_in kept (get_or order w.0 d) = o.rises v.0 w.0 d (went_up from to i j v.0 w.0 v.1 w.1 lt) ws in
        let b : key_in after_set (get_or new j d) ≡ key_in kept (get_or order w.0 d) = key_went j w.0 d w.1 ws in
        omega (arith, key, a, b))
        (cases_eq j to))
        (cases_eq i to)

    all_there : (j : ℕ) → j < length kept → Contains new j
    all_there j lt =
        let p : (i : ℕ) × Stands kept order o j i = place_of kept order o j lt in
        ⊎_elim
        (λ (same : p.0 ≡ from).
        let r : Contains new j = (to, omega (arith, to_within, long), m.here j ∙ ap (λ (n : ℕ). get_or order n j) (sym same) ∙ p.1.is j) in r)
        (λ (ne : p.0 ≡ from → ⊥).
        let w : (i : ℕ) × Went from to i p.0 = target from to p.0 ne in
        let r : Contains new j = (w.0, omega (arith, long, came_within from to w.0 p.0 (length order) w.1 p.1.within to_within from_within), moved_from order new from to w.0 p.0 m w.1 j ∙ p.1.is j) in r)
        (cases_eq p.0 from)

    slot_in : (k d : ℕ) → k < length new → get_or new k d < length kept
    slot_in k d lt = ⊎_elim
        (λ (is : k ≡ to).
        let e : get_or new k d ≡ slot = ap (λ (n : ℕ). get_or new n d) is ∙ m.here d ∙ stands.is d in omega (arith, e, within))
        (λ (ne : k ≡ to → ⊥).
        let w : (s : ℕ) × Went from to k s = source from to k ne in
        let ws : w.0 < length order = went_within from to k w.0 (length order) w.1 (omega (arith, lt, long)) to_within from_within in
        let b : get_or order w.0 d < length kept = o.within w.0 d ws in
        let e : get_or new k d ≡ get_or order w.0 d = moved_from order new from to k w.0 m w.1 d in omega (arith, b, e))
        (cases_eq k to)

    low_seq : (j : ℕ) (k : Known) → Keeps after_set j k → k.seq < 2 ^ 64
    low_seq j k at =
        let is : get_or after_set j None ≡ Some k = get_or_from_slice_get after_set j (Some k) None at in
        ⊎_elim
        (λ (same : j ≡ slot). fits k (sym (get_or-set_same kept slot known None within) ∙ ap (λ (n : ℕ). get_or after_set n None) (sym same) ∙ is))
        (λ (ne : j ≡ slot → ⊥).
        let lt : j < length kept = omega (arith, slice_get_within after_set j (Some k) at, length-set kept slot known) in
        o.low j k (slice_get-get_or kept j None lt ∙ ap (λ (x : Option Known). Some x) (sym (get_or-set_other kept slot j known None ne) ∙ is)))
        (cases_eq j slot)

    pub moved_ordered : IsOrdered (set kept slot known) new
    moved_ordered = record {
      size = let a = o.size in omega (arith, long, a, length-set kept slot known);
      few = let a = o.few in omega (arith, a, length-set kept slot known);
      low = low_seq;
      within = λ k d lt. let b = slot_in k d lt in omega (arith, b, length-set kept slot known);
      all = λ j lt. all_there j (omega (arith, lt, length-set kept slot known));
      rises = rises;
    }

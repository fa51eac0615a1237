-- The open segments of a medium once they are sorted: each comes before those behind it.
use Rattle.std.proofs.Common.{◌≡◌, ◌≢◌, ◌⊎◌, ◌<◌, ◌≤◌, ℕ, true, false, eqb, List, [], ◌∷◌, map, get_or, All, Contains, Some, None, inl, inr, ⊎_elim, sym, ap, ◌∙◌, subst, arith}
use Rattle.std.specs.List.{AllByRecursion, IsDistinct}
use Rattle.std.specs.List.Sorted.{IsPermutation}
use Rattle.std.proofs.lemmas.Bool.Decides.{eqb_tells}
use Rattle.std.proofs.lemmas.Bool.{eqb-false}
use Rattle.std.proofs.lemmas.List.Elements.{All-nil, All-cons, All-head, All-tail}
use Rattle.std.proofs.lemmas.List.Sorted.{IsPermutation-map, All-permutation, Contains-permutation}
use Rattle.std.proofs.lemmas.Map.Keys.{IsDistinct-cons, IsDistinct-head, IsDistinct-tail, IsDistinct-IsPermutation}
use Rattle.vdr_segment.specs.Slots.{IsFront}
use Rattle.vdr_directory.specs.declared.entry.Entry.{Entry}
use Rattle.vdr_directory.specs.Entries.{slot_of}
use Rattle.vdr_directory.specs.Opening.{front_bytes}
use Rattle.vdr_directory.specs.Fronts.{Ascends, Head, head_of, IsNotLater, AreSorted, HasHeader, TellFronts, AreSlots}
use Rattle.vdr_directory.proofs.Surveying.{heads_all}

-- The first comes before the second.
abbrev pub IsSooner : Entry → Entry → Type 0
IsSooner e f = (e.seq < f.seq) ⊎ ((e.seq ≡ f.seq) × (e.slot < f.slot))

abbrev pub AreSooner : List Entry → Type 0
AreSooner [] = Unit {0}
AreSooner (e ∷ es) = All (IsSooner e) es × AreSooner es

-- Slots apart

pub flips : (j k : ℕ) → eqb j k ≡ eqb k j
flips j k =
    ⊎_elim
    (λ (h : (eqb j k ≡ true) × (j ≡ k)). ⊎_elim
    (λ (i : (eqb k j ≡ true) × (k ≡ j)). h.0 ∙ sym i.0)
    (λ (i : (eqb k j ≡ false) × (k ≢ j)). absurd (i.1 (sym h.1)))
    (eqb_tells k j))
    (λ (h : (eqb j k ≡ false) × (j ≢ k)). ⊎_elim
    (λ (i : (eqb k j ≡ true) × (k ≡ j)). absurd (h.1 (sym i.1)))
    (λ (i : (eqb k j ≡ false) × (k ≢ j)). h.0 ∙ sym i.0)
    (eqb_tells k j))
    (eqb_tells j k)

apart : (j : ℕ) (js : List ℕ) → All (λ k. j < k) js → AllByRecursion (λ k. eqb j k ≡ false) js
apart j [] h = tt
apart j (k ∷ js) h =
    let lt : j < k = All-head (λ k. j < k) k js h in
    let other : eqb j k ≡ false = ⊎_elim (λ (e : (eqb j k ≡ true) × (j ≡ k)). absurd (omega (arith, lt, e.1))) (λ (e : (eqb j k ≡ false) × (j ≢ k)). e.0) (eqb_tells j k) in
    (other, apart j js (All-tail (λ k. j < k) k js h))

pub distinct : (js : List ℕ) → Ascends js → IsDistinct eqb js
unfolding IsDistinct
distinct [] h = tt
distinct (j ∷ js) h = IsDistinct-cons eqb j js (apart j js h.0) (distinct js h.1)

-- Each before those behind it

sooner_than : (e : Entry) (es : List Entry) → All (IsNotLater e) es → AllByRecursion (λ k. eqb e.slot k ≡ false) (map slot_of es) → All (IsSooner e) es
sooner_than e [] h d = All-nil (IsSooner e)
sooner_than e (f ∷ es) h d =
    let ne : e.slot ≢ f.slot = eqb-false e.slot f.slot d.0 in
    All-cons (IsSooner e) f es (before (All-head (IsNotLater e) f es h) ne) (sooner_than e es (All-tail (IsNotLater e) f es h) d.1)
  where
    before : IsNotLater e f → e.slot ≢ f.slot → IsSooner e f
    before (inl lt) ne = inl lt
    before (inr le) ne = inr (le.0, omega (arith, le.1, ne))

pub are_sooner : (es : List Entry) → AreSorted es → IsDistinct eqb (map slot_of es) → AreSooner es
are_sooner [] h d = tt
are_sooner (e ∷ es) h d = (sooner_than e es h.0 (IsDistinct-head eqb e.slot (map slot_of es) d), are_sooner es h.1 (IsDistinct-tail eqb e.slot (map slot_of es) d))

-- Heads alone

not_later_by : (e f : Entry) (es fs : List Entry) → head_of e ≡ head_of f → map head_of fs ≡ map head_of es → All (IsNotLater e) es → All (IsNotLater f) fs
not_later_by e f es fs one same h = heads_all (IsNotLater f)
    (λ x y heads k. subst (λ (y : Head). (f.seq < y.seq) ⊎ ((f.seq ≡ y.seq) × (f.slot ≤ y.slot))) heads k) es fs same
    (λ k d lt. subst (λ (x : Head). (x.seq < (get_or es k d).seq) ⊎ ((x.seq ≡ (get_or es k d).seq) × (x.slot ≤ (get_or es k d).slot))) one (h k d lt))

pub sorted_by_heads : (es fs : List Entry) → map head_of fs ≡ map head_of es → AreSorted es → AreSorted fs
sorted_by_heads [] [] same h = tt
sorted_by_heads [] (f ∷ fs) same h = let bad : ⊥ = cc in absurd bad
sorted_by_heads (e ∷ es) [] same h = let bad : ⊥ = cc in absurd bad
sorted_by_heads (e ∷ es) (f ∷ fs) same h =
    let first : head_of f ≡ head_of e = cc in
    let rest : map head_of fs ≡ map head_of es = cc in
    (not_later_by e f es fs (sym first) rest h.0, sorted_by_heads es fs rest h.1)

pub slots_by_heads : (es fs : List Entry) → map head_of fs ≡ map head_of es → map slot_of fs ≡ map slot_of es
slots_by_heads [] [] same = cc
slots_by_heads [] (f ∷ fs) same = let bad : ⊥ = cc in absurd bad
slots_by_heads (e ∷ es) [] same = let bad : ⊥ = cc in absurd bad
slots_by_heads (e ∷ es) (f ∷ fs) same =
    let first : head_of f ≡ head_of e = cc in
    let rest : map head_of fs ≡ map head_of es = cc in
    let slots : map slot_of fs ≡ map slot_of es = slots_by_heads es fs rest in
    let slot : f.slot ≡ e.slot = ap (λ (h : Head). h.slot) first in
    cc

-- Sorted

-- The entries that were read, sorted and then surveyed.
pub record Sequenced (n : ℕ) (read sorted done : List Entry) : Type 0 where
  pub slots : AreSlots n read
  pub ascends : Ascends (map slot_of read)
  pub moved : IsPermutation read sorted
  pub in_order : AreSorted sorted
  pub heads : map head_of done ≡ map head_of sorted

module _ (n : ℕ) (read sorted done : List Entry) (h : Sequenced n read sorted done) where
  slots_moved : IsPermutation (map slot_of read) (map slot_of sorted)
  slots_moved = IsPermutation-map slot_of read sorted h.moved

  same_slots : map slot_of done ≡ map slot_of sorted
  same_slots = slots_by_heads sorted done h.heads

  pub sequenced_sooner : AreSooner done
  sequenced_sooner = are_sooner done (sorted_by_heads sorted done h.heads h.in_order)
      (subst (λ (js : List ℕ). IsDistinct eqb js) (sym same_slots) (IsDistinct-IsPermutation eqb flips (map slot_of read) (map slot_of sorted) slots_moved (distinct (map slot_of read) h.ascends)))

  pub sequenced_slots : AreSlots n done
  sequenced_slots = subst (λ (js : List ℕ). All (λ j. j < n) js) (sym same_slots) (All-permutation (λ j. j < n) (map slot_of read) (map slot_of sorted) slots_moved h.slots)

  pub sequenced_fronts : (segment : ℕ) (bytes : List ℕ) → TellFronts segment n bytes read → TellFronts segment n bytes done
  sequenced_fronts segment bytes t = record {
    headers = heads_all (HasHeader segment bytes) keeps sorted done h.heads (All-permutation (HasHeader segment bytes) read sorted h.moved t.headers);
    each = λ j lt. ⊎_elim
        (λ (l : IsFront (front_bytes segment j bytes) None). inl l)
        (λ (l : Contains (map slot_of read) j). inr (subst (λ (js : List ℕ). Contains js j) (sym same_slots) (Contains-permutation (map slot_of read) (map slot_of sorted) j slots_moved l)))
        (t.each j lt);
  }
    where
      keeps : (e f : Entry) → head_of e ≡ head_of f → HasHeader segment bytes e → HasHeader segment bytes f
      keeps e f same k = record {
        header = k.header;
        front = subst (λ (x : Head). IsFront (front_bytes segment x.slot bytes) (Some k.header)) same k.front;
        seq = sym (ap (λ (x : Head). x.seq) same) ∙ k.seq;
        first = sym (ap (λ (x : Head). x.first) same) ∙ k.first;
        summary = sym (ap (λ (x : Head). x.summary) same) ∙ k.summary;
      }

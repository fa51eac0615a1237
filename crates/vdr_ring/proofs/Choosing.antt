-- The segment that goes, by what the index knows of it.
use Rattle.std.proofs.Common.{◌≡◌, ◌↔◌, ◌<◌, ◌+◌, ◌&&◌, ℕ, Bool, true, nat_le, List, [], ◌∷◌, ◌++◌, length, map, get_or, All, Contains, IsTrue, Option, Some, None, inl, inr, refl, sym, ap, ◌∙◌, subst, arith}
use Rattle.std.specs.List.{list_all}
use Rattle.std.proofs.lemmas.List.Folds.{list_all-map}
use Rattle.std.proofs.lemmas.Option.{none-some, get_or_from_slice_get, slice_get_within}
use Rattle.std.proofs.lemmas.List.Elements.{All-contains, Contains-append_left}
use Rattle.vdr_durability.specs.Retention.{Pin}
use Rattle.vdr_durability.specs.Victims.{IsLastSecond, is_apart}
use Rattle.vdr_durability.proofs.Lists.{contains_here, last_contained, all_from}
use Rattle.vdr_index.specs.declared.known.Known.{Known}
use Rattle.vdr_index.specs.Indexes.{IsAbove, IsFirst, IsNextAbove, Keeps, passes_by}
use Rattle.vdr_directory.specs.declared.newest.Newest.{Newest}
use Rattle.vdr_ring.specs.declared.pins.Pin.{Pin as KeptPin}
use Rattle.vdr_directory.specs.Sequence.{Placed, seq_of, all_records}
use Rattle.vdr_directory.specs.Order.{HasNone, AreInOrder}
use Rattle.vdr_directory.specs.Directories.{DirectoryState, newest_of}
use Rattle.vdr_directory.specs.Holds.{Tells}
use Rattle.vdr_directory.specs.Closed.{IsFull}
use Rattle.vdr_ring.specs.Stages.{IsOldest, IsVictim}
use Rattle.vdr_ring.specs.Candidates.{MayGoAsKnown, goes, known_of, pin_of}
use Rattle.vdr_directory.specs.Indexed.{IsKnown}
use Rattle.vdr_directory.proofs.Known.{IsInIndex, IsEarlier, Splits, agrees, in_index, not_before_empty, placed_at, runs_on, split_at}
use Rattle.vdr_directory.proofs.Telling.{empty_told, newest_told}
use Rattle.vdr_ring.proofs.Going.{empty_goes, known_decides, own_records}

-- by what the code tests
pub goes_by_test : (seconds : ℕ) (pins : List KeptPin) (held : List Pin) (medium_second : ℕ) (k : Known) (o : Option Known) (old apart : Bool) → map pin_of pins ≡ held → o ≡ Some k
    → old ≡ nat_le (k.summary.last_second + seconds) medium_second → old ≡ true → apart ≡ list_all (λ pin. is_apart (known_of k) (pin_of pin)) pins → apart ≡ passes_by (goes seconds held medium_second) o
goes_by_test seconds pins held medium_second k o old apart are is e so a =
    a ∙ sym (list_all-map (is_apart (known_of k)) pin_of pins) ∙ ap (list_all (is_apart (known_of k))) are
    ∙ ap (λ (b : Bool). b && list_all (is_apart (known_of k)) held) (sym (sym e ∙ so)) ∙ ap (passes_by (goes seconds held medium_second)) (sym is)

pub first_within : (index : List (Option Known)) (test : Known → Bool) (slot : ℕ) → IsFirst index test slot → slot < length index
first_within index test slot f = slice_get_within index slot (Some f.known) f.there

module _ (seconds : ℕ) (pins : List Pin) (s count : ℕ) (placed : List Placed) (t : DirectoryState) (tells : Tells count placed t) (order : AreInOrder placed) (lasts : IsLastSecond s (all_records placed)) where
  decides : (p : Placed) (k : Known) → Contains placed p → IsKnown p k → IsTrue (goes seconds pins s k) ↔ MayGoAsKnown seconds pins (all_records placed) p
  decides p k m is = known_decides pins p k is (agrees None placed order p m) (runs_on None placed order p m) seconds s (all_records placed) (own_records placed p m) lasts

  -- none before this one may go
  none_before : (p : Placed) → Contains placed p → (sp : Splits placed p) → ((other : ℕ) (l : Known) → Keeps t.index other l → goes seconds pins s l ≡ true → l.seq < seq_of p → ⊥)
      → All (λ q. MayGoAsKnown seconds pins (all_records placed) q → ⊥) sp.before
  none_before p m sp least = all_from (λ q. MayGoAsKnown seconds pins (all_records placed) q → ⊥) sp.before (λ q n may.
      let there : Contains placed q = subst (λ (ps : List Placed). Contains ps q) (sym sp.split) (Contains-append_left sp.before (p ∷ sp.after) q n) in
      let earlier : IsEarlier q p = All-contains (λ q. IsEarlier q p) sp.before q sp.earlier n in
      go q there earlier may (in_index count placed t.index tells.index q there))
    where
      go : (q : Placed) → Contains placed q → IsEarlier q p → MayGoAsKnown seconds pins (all_records placed) q → IsInIndex t.index q → ⊥
      go q there earlier may (inl (none, at)) = not_before_empty placed order p q m there earlier none
      go q there earlier may (inr (l, at, is)) = let lt = earlier.0 in let seq = is.seq in least q.slot l at ((decides q l there is).1 may) (omega (arith, lt, seq))

  pub oldest_first : (slot : ℕ) → IsFirst t.index (goes seconds pins s) slot → (before : List Placed) × (victim : Placed) × (after : List Placed) × IsOldest seconds pins placed before victim after × (slot ≡ victim.slot)
  oldest_first slot f =
      let p = placed_at count placed t.index tells.index slot f.known f.there in
      let sp = split_at None placed order p.0 p.1 in
      let seq = p.3.seq in (
        sp.before,
        p.0,
        sp.after,
        record {
          split = sp.split;
          may_go = (decides p.0 f.known p.1 p.3).0 f.passed;
          none_before = none_before p.0 p.1 sp (λ other l at passes lt. let le = f.least other l at passes in omega (arith, le, lt, seq));
        },
        sym p.2,
      )

  pub oldest_empty : (n : Newest) → ((slot : ℕ) (k : Known) → Keeps t.index slot k → goes seconds pins s k ≡ true → ⊥) → t.newest ≡ Some n → get_or t.index n.slot None ≡ None
      → (before : List Placed) × (victim : Placed) × (after : List Placed) × IsOldest seconds pins placed before victim after × (n.slot ≡ victim.slot)
  oldest_empty n none is clear =
      let p = newest_told count placed t tells n is in
      let m : Contains placed p.0 = last_contained placed p.0 p.1 in
      let slot : n.slot ≡ p.0.slot = ap (λ (n : Newest). n.slot) p.2 in
      let sp = split_at None placed order p.0 m in (
        sp.before,
        p.0,
        sp.after,
        record {
          split = sp.split;
          may_go = empty_goes seconds pins (all_records placed) p.0 (empty p.0 (ap (λ (j : ℕ). get_or t.index j None) (sym slot) ∙ clear) (in_index count placed t.index tells.index p.0 m));
          none_before = none_before p.0 m sp (λ other l at passes lt. none other l at passes);
        },
        slot,
      )
    where
      empty : (p : Placed) → get_or t.index p.slot None ≡ None → IsInIndex t.index p → HasNone p
      empty p clear (inl (none, at)) = none
      empty p clear (inr (k, at, is)) = absurd (none-some k (sym clear ∙ get_or_from_slice_get t.index p.slot (Some k) None at))

  pub none_goes : ((slot : ℕ) (k : Known) → Keeps t.index slot k → goes seconds pins s k ≡ true → ⊥) → ((n : Newest) → t.newest ≡ Some n → (k : Known) × (get_or t.index n.slot None ≡ Some k))
      → All (λ p. MayGoAsKnown seconds pins (all_records placed) p → ⊥) placed
  none_goes none some = all_from (λ p. MayGoAsKnown seconds pins (all_records placed) p → ⊥) placed (λ p m may. go p m may (in_index count placed t.index tells.index p m))
    where
      go : (p : Placed) → Contains placed p → MayGoAsKnown seconds pins (all_records placed) p → IsInIndex t.index p → ⊥
      go p m may (inl (empty, at)) = let k = some (newest_of p) (empty_told count placed t tells order p m empty) in none-some k.0 (sym at ∙ k.1)
      go p m may (inr (k, at, is)) = none p.slot k at ((decides p k m is).1 may)

-- Where none may go, it is the oldest of all.
module _ (seconds count : ℕ) (pins : List Pin) (placed : List Placed) (t : DirectoryState) (tells : Tells count placed t) (order : AreInOrder placed)
    (none : All (λ p. MayGoAsKnown seconds pins (all_records placed) p → ⊥) placed) where
  in_it : (p : Placed) → Contains placed p → (k : Known) × Keeps t.index p.slot k × IsKnown p k
  in_it p m = go (in_index count placed t.index tells.index p m)
    where
      go : IsInIndex t.index p → (k : Known) × Keeps t.index p.slot k × IsKnown p k
      go (inl (empty, at)) = absurd (All-contains (λ p. MayGoAsKnown seconds pins (all_records placed) p → ⊥) placed p none m (empty_goes seconds pins (all_records placed) p empty))
      go (inr k) = k

  pub forced : (slot : ℕ) → IsNextAbove t.index None slot → (before : List Placed) × (victim : Placed) × (after : List Placed) × IsVictim seconds pins placed before victim after × (slot ≡ victim.slot)
  forced slot f =
      let p = placed_at count placed t.index tells.index slot f.known f.there in
      let sp = split_at None placed order p.0 p.1 in
      let first : sp.before ≡ [] = none_earlier p.0 p.3.seq sp sp.before refl in (
        sp.before,
        p.0,
        sp.after,
        inr (first, record { split = sp.split ∙ ap (λ (qs : List Placed). qs ++ p.0 ∷ sp.after) first; none = none }),
        sym p.2,
      )
    where
      none_earlier : (p : Placed) → f.known.seq ≡ seq_of p → (sp : Splits placed p) → (qs : List Placed) → sp.before ≡ qs → sp.before ≡ []
      none_earlier p seq sp [] is = is
      none_earlier p seq sp (q ∷ qs) is =
          let n : Contains sp.before q = subst (λ (ps : List Placed). Contains ps q) (sym is) (contains_here q qs) in
          let there : Contains placed q = subst (λ (ps : List Placed). Contains ps q) (sym sp.split) (Contains-append_left sp.before (p ∷ sp.after) q n) in
          let k = in_it q there in
          let le = f.least q.slot k.0 k.1 tt in
          let lt = (All-contains (λ q. IsEarlier q p) sp.before q sp.earlier n).0 in
          let seq_q = k.2.seq in absurd (omega (arith, le, lt, seq, seq_q))

  pub none_forced : ((slot : ℕ) (k : Known) → Keeps t.index slot k → IsAbove None k.seq → ⊥) → 0 < count → IsFull count placed → ⊥
  none_forced empty some full = go placed refl
    where
      go : (ps : List Placed) → placed ≡ ps → ⊥
      go [] is = let e = ap length is in omega (arith, e, full, some)
      go (p ∷ ps) is = let k = in_it p (subst (λ (qs : List Placed). Contains qs p) (sym is) (contains_here p ps)) in empty p.slot k.0 k.1 tt

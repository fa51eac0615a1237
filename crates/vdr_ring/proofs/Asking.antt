-- What a ring answers of its segments without reading them.
use Rattle.std.proofs.Common.{◌≡◌, ◌≤◌, ℕ, List, get_or, Contains, Option, Some, None, inl, inr, sym, ap, ◌∙◌, subst, arith}
use Rattle.std.proofs.lemmas.Option.{none-some, same_Some}
use Rattle.vdr_durability.proofs.Lists.{last_contained}
use Rattle.vdr_index.specs.declared.known.Known.{Known}
use Rattle.vdr_index.specs.Indexes.{IsNextAbove, Keeps}
use Rattle.vdr_index.specs.Indexes as indexes
use Rattle.vdr_directory.specs.declared.newest.Newest.{Newest}
use Rattle.vdr_directory.specs.Sequence.{Placed, seq_of}
use Rattle.vdr_directory.specs.Order.{HasNone, AreInOrder}
use Rattle.vdr_directory.specs.Directories.{DirectoryState, newest_of}
use Rattle.vdr_directory.specs.Holds.{Tells}
use Rattle.vdr_index.specs.Indexes.{IsAbove}
use Rattle.vdr_directory.specs.Lookup.{IsNext}
use Rattle.vdr_directory.proofs.Known.{IsInIndex, empty_last, in_index, newest_greatest, placed_at}
use Rattle.vdr_ring.proofs.Answering.{above_index, above_ring}
use Rattle.vdr_directory.proofs.Telling.{empty_told, newest_told}

module _ (count : ℕ) (placed : List Placed) (t : DirectoryState) (tells : Tells count placed t) (order : AreInOrder placed) (after : Option ℕ) where
  -- The segment of least number above another

  pub next_kept : (slot seq : ℕ) → (f : IsNextAbove t.index after slot) → ((k : Known) → Keeps t.index slot k → seq ≡ k.seq)
      → (p : Placed) × IsNext after placed p × (slot ≡ p.slot) × (seq ≡ seq_of p)
  next_kept slot seq f is =
      let p = placed_at count placed t.index tells.index slot f.known f.there in (
        p.0,
        record {
          there = p.1;
          above = above_ring after (seq_of p.0) (subst (indexes.IsAbove after) p.3.seq f.above);
          least = λ q m up. least p.0 p.1 p.3.seq q m up (in_index count placed t.index tells.index q m);
        },
        sym p.2,
        is f.known f.there ∙ p.3.seq,
      )
    where
      least : (p : Placed) → Contains placed p → f.known.seq ≡ seq_of p → (q : Placed) → Contains placed q → IsAbove after (seq_of q) → IsInIndex t.index q → seq_of p ≤ seq_of q
      least p m seq q n up (inl (none, at)) = newest_greatest placed order q (empty_last None placed order q n none) p m
      least p m seq q n up (inr (l, at, is_l)) =
          let le = f.least q.slot l at (subst (indexes.IsAbove after) (sym is_l.seq) (above_index after (seq_of q) up)) in
          let there = is_l.seq in omega (arith, le, seq, there)

  module _ (none : (slot : ℕ) (k : Known) → Keeps t.index slot k → indexes.IsAbove after k.seq → ⊥) where
    -- one that is above has no records
    only_empty : (q : Placed) → IsAbove after (seq_of q) → IsInIndex t.index q → HasNone q
    only_empty q up (inl (empty, at)) = empty
    only_empty q up (inr (k, at, is)) = absurd (none q.slot k at (subst (indexes.IsAbove after) (sym is.seq) (above_index after (seq_of q) up)))

    pub next_empty : (n : Newest) → t.newest ≡ Some n → IsAbove after n.seq → (p : Placed) × IsNext after placed p × (n.slot ≡ p.slot) × (n.seq ≡ seq_of p)
    next_empty n is up =
        let p = newest_told count placed t tells n is in
        let seq : n.seq ≡ seq_of p.0 = ap (λ (m : Newest). m.seq) p.2 in (
          p.0,
          record {
            there = last_contained placed p.0 p.1;
            above = subst (IsAbove after) seq up;
            least = λ q m up.
                let last_is = empty_last None placed order q m (only_empty q up (in_index count placed t.index tells.index q m)) in
                let same : p.0 ≡ q = same_Some p.0 q (sym p.1 ∙ last_is) in
                let e = ap seq_of same in omega (arith, e);
          },
          ap (λ (m : Newest). m.slot) p.2,
          seq,
        )

    pub none_next : ((n : Newest) → t.newest ≡ Some n → (k : Known) × (get_or t.index n.slot None ≡ Some k)) → (p : Placed) → Contains placed p → IsAbove after (seq_of p) → ⊥
    none_next some p m up = go (in_index count placed t.index tells.index p m)
      where
        go : IsInIndex t.index p → ⊥
        go (inl (empty, at)) = let k = some (newest_of p) (empty_told count placed t tells order p m empty) in none-some k.0 (sym at ∙ k.1)
        go (inr (k, at, is)) = none p.slot k at (subst (indexes.IsAbove after) (sym is.seq) (above_index after (seq_of p) up))

    pub none_above : (n : Newest) → t.newest ≡ Some n → (IsAbove after n.seq → ⊥) → (p : Placed) → Contains placed p → IsAbove after (seq_of p) → ⊥
    none_above n is not p m up =
        let e = empty_told count placed t tells order p m (only_empty p up (in_index count placed t.index tells.index p m)) in
        let same : n ≡ newest_of p = same_Some n (newest_of p) (sym is ∙ e) in
        not (subst (IsAbove after) (sym (ap (λ (m : Newest). m.seq) same)) up)

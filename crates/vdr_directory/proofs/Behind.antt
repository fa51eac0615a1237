-- Which segment stands before a newest one without records, and what is known of it.
use Rattle.std.proofs.Common.{◌≡◌, ◌≢◌, ◌⊎◌, ◌<◌, ◌≤◌, ℕ, List, [], ◌∷◌, ◌++◌, length, get_or, All, Contains, Option, Some, None, option_map, inl, inr, ⊎_elim, refl, sym, ap, ◌∙◌, subst, arith, length-append}
use Rattle.std.proofs.lemmas.Option.{none-some, same_Some, get_or_from_slice_get}
use Rattle.std.proofs.lemmas.List.Elements.{All-contains, Contains-append_cases, Contains-append_left, Contains-append_right}
use Rattle.vdr_terms.specs.Records.{Record, last, last_after}
use Rattle.vdr_durability.proofs.Lists.{all_from, contains_cases, contains_here, contains_there, last_behind, last_contained, none_contained}
use Rattle.vdr_entry.specs.declared.summary.Summary.{Summary}
use Rattle.vdr_index.specs.Extents.{extent_of}
use Rattle.vdr_index.specs.declared.known.Known.{Known}
use Rattle.vdr_index.specs.Indexes.{IsNewest, Keeps}
use Rattle.vdr_directory.specs.declared.newest.Newest.{Newest}
use Rattle.vdr_directory.specs.Sequence.{Placed, records_of, seq_of}
use Rattle.vdr_directory.specs.Order.{HasNone, MayPrecede, AreInPlace, AreInOrder}
use Rattle.vdr_directory.specs.Directories.{DirectoryState, ending_by, newest_of}
use Rattle.vdr_directory.specs.Indexed.{IsKnown, IsKnownAs, StandsFor}
use Rattle.vdr_directory.specs.Holds.{Tells}
use Rattle.vdr_directory.specs.Leaving.{IsExact, IsLeftBehind, LeavesNone, summarized}
use Rattle.vdr_directory.proofs.Known.{IsInIndex, IsEarlier, all_behind, in_index, one_stands, placed_at, some_record}
use Rattle.vdr_directory.proofs.Leaving.{left_batches}
use Rattle.vdr_directory.proofs.Telling.{newest_is, newest_told}

-- The newest stands alone, or behind another.
pub alone_or_behind : (placed : List Placed) (p : Placed) → last placed ≡ Some p → (placed ≡ p ∷ []) ⊎ ((older : List Placed) × (q : Placed) × (placed ≡ older ++ q ∷ p ∷ []))
alone_or_behind [] p e = absurd (none-some p e)
alone_or_behind (x ∷ []) p e = inl (ap (λ (y : Placed). y ∷ []) (same_Some x p e))
alone_or_behind (x ∷ y ∷ ys) p e = ⊎_elim
    (λ (k : y ∷ ys ≡ p ∷ []). inr ([], x, ap (λ (zs : List Placed). x ∷ zs) k))
    (λ (k : (older : List Placed) × (q : Placed) × (y ∷ ys ≡ older ++ q ∷ p ∷ [])). inr (x ∷ k.0, k.1, ap (λ (zs : List Placed). x ∷ zs) k.2))
    (alone_or_behind (y ∷ ys) p e)

pub in_its_place : (o : Option Placed) (older : List Placed) (p : Placed) (rest : List Placed) → AreInPlace o (older ++ p ∷ rest) → MayPrecede p rest
in_its_place o [] p rest h = h.0.precedes
in_its_place o (z ∷ older) p rest h = in_its_place (Some z) older p rest h.1

-- a segment of no lesser number is one of the last two
last_two : (o : Option Placed) (older : List Placed) (q p x : Placed) → AreInPlace o (older ++ q ∷ p ∷ []) → Contains (older ++ q ∷ p ∷ []) x → seq_of q ≤ seq_of x → (x ≡ q) ⊎ (x ≡ p)
last_two o [] q p x h m le = ⊎_elim
    (λ (e : q ≡ x). inl (sym e))
    (λ (k : Contains (p ∷ []) x). ⊎_elim (λ (e : p ≡ x). inr (sym e)) (λ (n : Contains [] x). absurd (none_contained x n)) (contains_cases p [] x k))
    (contains_cases q (p ∷ []) x m)
last_two o (z ∷ older) q p x h m le = ⊎_elim
    (λ (e : z ≡ x).
    let lt = (All-contains (λ r. IsEarlier z r) (older ++ q ∷ p ∷ []) q (all_behind z (older ++ q ∷ p ∷ []) h.1) (Contains-append_right older (q ∷ p ∷ []) q (contains_here q (p ∷ [])))).0 in
    let s = ap seq_of e in absurd (omega (arith, lt, s, le)))
    (λ (k : Contains (older ++ q ∷ p ∷ []) x). last_two (Some z) older q p x h.1 k le)
    (contains_cases z (older ++ q ∷ p ∷ []) x m)

-- where they are two
two_in_order : (placed older : List Placed) (q p : Placed) → (1 < length placed → AreInOrder placed) → placed ≡ older ++ q ∷ p ∷ [] → AreInOrder (older ++ q ∷ p ∷ [])
two_in_order placed older q p order split =
    let long = ap length split in
    let more = length-append older (q ∷ p ∷ []) in
    subst AreInOrder split (order (omega (arith, long, more)))

not_none : {X : Type 0} (x : X) (xs : List X) → x ∷ xs ≡ [] → ⊥
not_none x xs e = cc

pub in_the_middle : (older : List Placed) (q : Placed) (rest : List Placed) → Contains (older ++ q ∷ rest) q
in_the_middle older q rest = Contains-append_right older (q ∷ rest) q (contains_here q rest)

-- What is known of a segment without a summary is exact.
pub known_exactly : (p : Placed) (k : Known) → IsKnown p k → p.segment.header.summary ≡ None → IsExact p k.summary
known_exactly p k is bare = subst (λ (o : Option Summary). StandsFor o p k.summary) bare is.summary

module _ (count : ℕ) (placed : List Placed) (t : DirectoryState) (tells : Tells count placed t) where
  -- what is known of a segment with records and without a summary is exact
  pub exact_known : (p : Placed) → Contains placed p → (HasNone p → ⊥) → p.segment.header.summary ≡ None → (s : Summary) × IsExact p s
  exact_known p m some bare = go (in_index count placed t.index tells.index p m)
    where
      go : IsInIndex t.index p → (s : Summary) × IsExact p s
      go (inl (none, clear)) = absurd (some none)
      go (inr (k, at, is)) = (k.summary, known_exactly p k is bare)

  -- what stands before the newest
  pub which_left : (1 < length placed → AreInOrder placed) → LeavesNone placed ⊎ ((slot : ℕ) × (s : Summary) × IsLeftBehind placed slot s)
  which_left order = at_last (last placed) refl
    where
      behind : (p : Placed) → HasNone p → (older : List Placed) (q : Placed) → placed ≡ older ++ q ∷ p ∷ [] → (slot : ℕ) × (s : Summary) × IsLeftBehind placed slot s
      behind p empty older q split =
          let before = in_its_place None older q (p ∷ []) (two_in_order placed older q p order split) in
          let known = exact_known q (subst (λ (ps : List Placed). Contains ps q) (sym split) (in_the_middle older q (p ∷ []))) before.0 (before.1 empty) in
          (q.slot, known.0, record { older = older; left = q; newest = p; split = split; empty = empty; at = refl; none = before.1 empty; exact = known.1 })

      at_records : (p : Placed) → last placed ≡ Some p → (rs : List Record) → records_of p ≡ rs → LeavesNone placed ⊎ ((slot : ℕ) × (s : Summary) × IsLeftBehind placed slot s)
      at_records p e [] none = ⊎_elim
          (λ (alone : placed ≡ p ∷ []). inl (λ q f _. alone ∙ ap (λ (x : Placed). x ∷ []) (same_Some p q (sym e ∙ f))))
          (λ (b : (older : List Placed) × (q : Placed) × (placed ≡ older ++ q ∷ p ∷ [])). inr (behind p none b.0 b.1 b.2))
          (alone_or_behind placed p e)
      at_records p e (r ∷ rs) some = inl (λ q f none. absurd (not_none r rs (sym some ∙ ap records_of (same_Some p q (sym e ∙ f)) ∙ none)))

      at_last : (o : Option Placed) → last placed ≡ o → LeavesNone placed ⊎ ((slot : ℕ) × (s : Summary) × IsLeftBehind placed slot s)
      at_last None e = inl (λ q f _. absurd (none-some q (sym e ∙ f)))
      at_last (Some p) e = at_records p e (records_of p) refl

  -- the newest has records
  pub none_left_full : ((n : Newest) → t.newest ≡ Some n → (k : Known) × (get_or t.index n.slot None ≡ Some k)) → LeavesNone placed
  none_left_full full p e none =
      let k = full (newest_of p) (newest_is count placed t tells p e) in
      let is : IsKnownAs p (Some k.0) = subst (IsKnownAs p) k.1 (All-contains (λ p. IsKnownAs p (get_or t.index p.slot None)) placed p tells.index.kept (last_contained placed p e)) in
      absurd (some_record p k.0 is none)

  -- no segment has records
  pub none_left_clear : (1 < length placed → AreInOrder placed) → ((slot : ℕ) (k : Known) → Keeps t.index slot k → ⊥) → LeavesNone placed
  none_left_clear order clear p e none = ⊎_elim
      (λ (alone : placed ≡ p ∷ []). alone)
      (λ (b : (older : List Placed) × (q : Placed) × (placed ≡ older ++ q ∷ p ∷ [])).
      let some = (in_its_place None b.0 b.1 (p ∷ []) (two_in_order placed b.0 b.1 p order b.2)).0 in
      absurd (go b.1 some (in_index count placed t.index tells.index b.1 (subst (λ (ps : List Placed). Contains ps b.1) (sym b.2) (in_the_middle b.0 b.1 (p ∷ []))))))
      (alone_or_behind placed p e)
    where
      go : (q : Placed) → (HasNone q → ⊥) → IsInIndex t.index q → ⊥
      go q some (inl (none, gone)) = some none
      go q some (inr (k, at, is)) = clear q.slot k at

  -- the segment of greatest number that has records, behind which the newest has none
  pub left_newest : (1 < length placed → AreInOrder placed) → (n : Newest) → t.newest ≡ Some n → get_or t.index n.slot None ≡ None → (slot : ℕ) (k : Known) → IsNewest t.index slot → get_or t.index slot None ≡ Some k → IsLeftBehind placed slot k.summary
  left_newest order n is gone slot k newest at =
      let p = newest_told count placed t tells n is in
      let empty : HasNone p.0 = subst (IsKnownAs p.0) (ap (λ (m : Newest). get_or t.index m.slot None) (sym p.2) ∙ gone)
      (All-contains (λ p. IsKnownAs p (get_or t.index p.slot None)) placed p.0 tells.index.kept (last_contained placed p.0 p.1)) in
      let w = placed_at count placed t.index tells.index slot newest.known newest.there in
      ⊎_elim
      (λ (alone : placed ≡ p.0 ∷ []). absurd (some_record w.0 newest.known w.3 (lone p.0 w.0 empty (subst (λ (ps : List Placed). Contains ps w.0) alone w.1))))
      (λ (b : (older : List Placed) × (q : Placed) × (placed ≡ older ++ q ∷ p.0 ∷ [])). behind p.0 empty b.0 b.1 b.2 w.0 w.1 w.2 w.3
      (in_index count placed t.index tells.index b.1 (subst (λ (ps : List Placed). Contains ps b.1) (sym b.2) (in_the_middle b.0 b.1 (p.0 ∷ [])))))
      (alone_or_behind placed p.0 p.1)
    where
      known_is : newest.known ≡ k
      known_is = same_Some newest.known k (sym (get_or_from_slice_get t.index slot (Some newest.known) None newest.there) ∙ at)

      lone : (p w : Placed) → HasNone p → Contains (p ∷ []) w → HasNone w
      lone p w empty m = ⊎_elim (λ (e : p ≡ w). subst HasNone e empty) (λ (l : Contains [] w). absurd (none_contained w l)) (contains_cases p [] w m)

      behind : (p : Placed) → HasNone p → (older : List Placed) (q : Placed) → placed ≡ older ++ q ∷ p ∷ [] → (w : Placed) → Contains placed w → w.slot ≡ slot → IsKnown w newest.known → IsInIndex t.index q
          → IsLeftBehind placed slot k.summary
      behind p empty older q split w m there is (inl (none, clear)) = absurd ((in_its_place None older q (p ∷ []) (two_in_order placed older q p order split)).0 none)
      behind p empty older q split w m there is (inr (l, kept, own)) =
          let le = newest.greatest q.slot l kept in
          let a = own.seq in
          let b = is.seq in
          ⊎_elim
          (λ (same : w ≡ q). let bare : q.segment.header.summary ≡ None = (in_its_place None older q (p ∷ []) (two_in_order placed older q p order split)).1 empty in record {
            older = older;
            left = q;
            newest = p;
            split = split;
            empty = empty;
            at = ap (λ (x : Placed). x.slot) (sym same) ∙ there;
            none = bare;
            exact = known_exactly q k (subst (λ (y : Known). IsKnown q y) known_is (subst (λ (x : Placed). IsKnown x newest.known) same is)) bare;
          })
          (λ (other : w ≡ p). absurd (some_record w newest.known is (subst HasNone (sym other) empty)))
          (last_two None older q p w (two_in_order placed older q p order split) (subst (λ (ps : List Placed). Contains ps w) split m) (omega (arith, le, a, b)))

-- The directory tells of the segments also once one of them has its summary, which is what was known of it.
known_still : (p : Placed) (s : Summary) (o : Option Known) → p.segment.header.summary ≡ None → IsExact p s → IsKnownAs p o → IsKnownAs (summarized p s) o
known_still p s None bare exact none = none
known_still p s (Some k) bare exact is = record { seq = is.seq; first = is.first; some = is.some; summary = one_stands None p k.summary s (known_exactly p k is bare) exact }

newest_still : (p : Placed) (s : Summary) (rest : List Placed) → newest_of (last_after p rest) ≡ newest_of (last_after (summarized p s) rest)
newest_still p s [] = refl
newest_still p s (q ∷ rest) = refl

pub tells_left : (count : ℕ) (older : List Placed) (p : Placed) (rest : List Placed) (s : Summary) (t : DirectoryState) → p.segment.header.summary ≡ None → IsExact p s → Tells count (older ++ p ∷ rest) t
    → Tells count (older ++ summarized p s ∷ rest) t
tells_left count older p rest s t bare exact tells = record {
  index = record {
    size = tells.index.size;
    kept = all_from (λ p. IsKnownAs p (get_or t.index p.slot None)) (older ++ summarized p s ∷ rest) (λ x m. ⊎_elim
        (λ (l : Contains older x). kept x (Contains-append_left older (p ∷ rest) x l))
        (λ (l : Contains (summarized p s ∷ rest) x). ⊎_elim
        (λ (e : summarized p s ≡ x). subst (λ (x : Placed). IsKnownAs x (get_or t.index x.slot None)) e (known_still p s (get_or t.index p.slot None) bare exact (kept p (in_the_middle older p rest))))
        (λ (k : Contains rest x). kept x (Contains-append_right older (p ∷ rest) x (contains_there p rest x k)))
        (contains_cases (summarized p s) rest x l))
        (Contains-append_cases older (summarized p s ∷ rest) x m));
    clear = λ j apart. tells.index.clear j (all_from (λ p. p.slot ≢ j) (older ++ p ∷ rest) (λ x m. ⊎_elim
        (λ (l : Contains older x). not_in j apart x (Contains-append_left older (summarized p s ∷ rest) x l))
        (λ (l : Contains (p ∷ rest) x). ⊎_elim
        (λ (e : p ≡ x). subst (λ (x : Placed). x.slot ≢ j) e (not_in j apart (summarized p s) (in_the_middle older (summarized p s) rest)))
        (λ (k : Contains rest x). not_in j apart x (Contains-append_right older (summarized p s ∷ rest) x (contains_there (summarized p s) rest x k)))
        (contains_cases p rest x l))
        (Contains-append_cases older (p ∷ rest) x m)));
  };
  newest =
      tells.newest ∙ ap (option_map newest_of) (last_behind older p rest) ∙ ap (λ (n : Newest). Some n) (newest_still p s rest)
      ∙ sym (ap (option_map newest_of) (last_behind older (summarized p s) rest));
  ending = tells.ending ∙ ap (λ (bs : List (List Record)). option_map ending_by (extent_of bs)) (sym (left_batches older p rest s));
}
  where
    kept : (x : Placed) → Contains (older ++ p ∷ rest) x → IsKnownAs x (get_or t.index x.slot None)
    kept x m = All-contains (λ p. IsKnownAs p (get_or t.index p.slot None)) (older ++ p ∷ rest) x tells.index.kept m

    not_in : (j : ℕ) → All (λ p. p.slot ≢ j) (older ++ summarized p s ∷ rest) → (x : Placed) → Contains (older ++ summarized p s ∷ rest) x → x.slot ≢ j
    not_in j apart x m = All-contains (λ p. p.slot ≢ j) (older ++ summarized p s ∷ rest) x apart m

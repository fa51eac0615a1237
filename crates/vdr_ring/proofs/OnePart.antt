-- One segment alone has places up to its last one.
use Rattle.std.proofs.Common.{◌≡◌, inl, inr, ◌≤◌, ◌<◌, ◌+◌, ◌*◌, cond, ℕ, zero, suc, Bool, true, false, List, [], ◌∷◌, get_or, count_by, ⊎_elim, ◌⊎◌, Option, Some, None, refl, sym, ap, ◌∙◌, subst, arith}
use Rattle.std.specs.Prelude.{All, nat_le}
use Rattle.std.proofs.lemmas.Bool.{and_parts, leb-true, ltb-true, le-leb, and_from, true≢false}
use Rattle.std.proofs.lemmas.List.Sums.{sum_by-cons}
use Rattle.std.proofs.lemmas.Option.{get_or_from_slice_get, same_Some}
use Rattle.std.proofs.lemmas.List.Elements.{All-nil, All-cons}
use Rattle.vdr_terms.specs.Records.{Record}
use Rattle.vdr_terms.specs.Queries.{Query, meets, in_span, matches}
use Rattle.vdr_terms.specs.Queries.Span.{Places}
use Rattle.vdr_index.specs.declared.known.Known.{Known}
use Rattle.vdr_index.specs.Indexes.{Keeps, passes_by, summary_of}
use Rattle.vdr_directory.specs.Sequence.{Placed, records_of}
use Rattle.vdr_directory.specs.Order.{AreInOrder}
use Rattle.vdr_directory.specs.Holds.{Tells}
use Rattle.vdr_directory.specs.Indexed.{HasNoneSelected, is_selected}
use Rattle.vdr_directory.proofs.Known.{IsEarlier, agrees, known_count, placed_at, which_first}
use Rattle.vdr_index.proofs.Ranks.{keeps_at}
use Rattle.vdr_ring.specs.Meets.{IsKnownToMeet}
use Rattle.vdr_ring.specs.Budgets.{budget, is_to_enter, to_enter}
use Rattle.vdr_ring.specs.Rings.{RingState}

-- What meets the places from a to b begins at b or before it, and ends behind a.
pub record Within (a b : ℕ) (k : Known) : Type 0 where
  pub begins : k.first ≤ b
  pub ends : a < k.first + k.summary.count

pub within_places : (query : Query) (a b : ℕ) (k : Known) → meets query (Places a b) (summary_of k) ≡ true → Within a b k
within_places query a b k h =
    let spans = (and_parts _ _ h).0 in
    let p = and_parts (nat_le k.first b) _ spans in
    record { begins = leb-true k.first b p.0; ends = ltb-true a (k.first + k.summary.count) p.1 }

nothing : {X : Type 0} (p : X → Bool) (d : X) (xs : List X) → ((i : ℕ) → p (get_or xs i d) ≡ true → ⊥) → count_by p xs ≡ 0
nothing p d [] h = refl
nothing p d (x ∷ xs) h = by (p x) refl (sum_by-cons (λ z. cond (p z) 1 0) x xs) (nothing p d xs (λ i. h (suc i)))
  where
    by : (t : Bool) → p x ≡ t → count_by p (x ∷ xs) ≡ cond (p x) 1 0 + count_by p xs → count_by p xs ≡ 0 → count_by p (x ∷ xs) ≡ 0
    by true e s more = absurd (h zero e)
    by false e s more = let c = ap {B = ℕ} (λ (b : Bool). cond b 1 0) e in omega (arith, s, more, c)

-- A test that no two of a list pass is passed once at most.
once : {X : Type 0} (p : X → Bool) (d : X) (xs : List X) → ((i j : ℕ) → p (get_or xs i d) ≡ true → p (get_or xs j d) ≡ true → i ≡ j) → count_by p xs ≤ 1
once p d [] one = omega arith
once p d (x ∷ xs) one =
    by (p x) refl (sum_by-cons (λ z. cond (p z) 1 0) x xs) (once p d xs (λ i j u v. let e = one (suc i) (suc j) u v in omega (arith, e)))
  where
    by : (t : Bool) → p x ≡ t → count_by p (x ∷ xs) ≡ cond (p x) 1 0 + count_by p xs → count_by p xs ≤ 1 → count_by p (x ∷ xs) ≤ 1
    by true e s more =
        let none_more = nothing p d xs (λ i u. let same = one zero (suc i) e u in absurd (omega (arith, same))) in
        let c = ap {B = ℕ} (λ (b : Bool). cond b 1 0) e in omega (arith, s, none_more, c)
    by false e s more = let c = ap {B = ℕ} (λ (b : Bool). cond b 1 0) e in omega (arith, s, more, c)

-- Where this is known of the segment of least number that meets the places from a to b, and these end with one of its own, no other has places from
-- a to there.
module _ (query : Query) (a b end slot seq : ℕ) (ring : RingState) (found : IsKnownToMeet query (Places a b) ring.directory.index slot seq)
    (least : (other : ℕ) (k : Known) → Keeps ring.directory.index other k → meets query (Places a b) (summary_of k) ≡ true → seq ≤ k.seq)
    (below : end ≤ b) (own : end < found.known.first + found.known.summary.count)
    (placed : List Placed) (tells : Tells ring.slots placed ring.directory) (order : AreInOrder placed) where
  index : List (Option Known)
  index = ring.directory.index

  -- it meets the whole too
  widened : (k : Known) → meets query (Places a end) (summary_of k) ≡ true → meets query (Places a b) (summary_of k) ≡ true
  widened k h =
      let p = and_parts _ _ h in
      let spans = and_parts (nat_le k.first end) _ p.0 in
      let low = leb-true k.first end spans.0 in
      and_from _ _ (and_from (nat_le k.first b) _ (le-leb k.first b (omega (arith, low, below))) spans.1) p.1

  only : (i : ℕ) (k : Known) → Keeps ring.directory.index i k → meets query (Places a end) (summary_of k) ≡ true → i ≡ slot
  only i k at h =
      let p = placed_at ring.slots placed ring.directory.index tells.index slot found.known found.there in
      let q = placed_at ring.slots placed ring.directory.index tells.index i k at in
      let in_k = within_places query a end k h in
      let p_first = p.3.first in
      let p_count = known_count p.0 found.known p.3 (agrees None placed order p.0 p.1) in
      let q_first = q.3.first in
      let q_count = known_count q.0 k q.3 (agrees None placed order q.0 q.1) in
      let low = least i k at (widened k h) in
      let p_seq = p.3.seq in
      let q_seq = q.3.seq in
      let number = found.number in
      let begins = in_k.begins in
      ⊎_elim
      (λ (e : p.0 ≡ q.0). sym q.2 ∙ ap (λ (x : Placed). x.slot) (sym e) ∙ p.2)
      (λ (h : IsEarlier q.0 p.0 ⊎ IsEarlier p.0 q.0). ⊎_elim
      (λ (s : IsEarlier q.0 p.0). let seqs = s.0 in absurd (omega (arith, seqs, low, p_seq, q_seq, number)))
      (λ (s : IsEarlier p.0 q.0). let places = s.1 in absurd (omega (arith, places, own, p_first, p_count, q_first, begins)))
      h)
      (which_first placed order p.0 q.0 p.1 q.1)

  passes : (i : ℕ) → passes_by (is_to_enter query (Places a end) None) (get_or ring.directory.index i None) ≡ true → i ≡ slot
  passes i h = go (get_or ring.directory.index i None) refl h
    where
      go : (o : Option Known) → get_or ring.directory.index i None ≡ o → passes_by (is_to_enter query (Places a end) None) o ≡ true → i ≡ slot
      go None at h = absurd (true≢false (sym h))
      go (Some k) at h = only i k (keeps_at ring.directory.index i k at) (and_parts true _ h).1

  -- So the steps of a new cursor over these places read one segment at most.
  pub one_segment : budget ring query (Places a end) None ≤ ring.segment
  one_segment =
      let few : to_enter query (Places a end) None ring.directory.index ≤ 1 =
      once (passes_by (is_to_enter query (Places a end) None)) None ring.directory.index (λ i j u v. passes i u ∙ sym (passes j v)) in
      go (to_enter query (Places a end) None ring.directory.index) few
    where
      go : (n : ℕ) → n ≤ 1 → ring.segment * (0 + n) ≤ ring.segment
      go zero le = omega arith
      go (suc zero) le = omega arith
      go (suc (suc n)) le = absurd (omega (arith, le))

-- Of places that end before they begin the query selects nothing.
pub none_between : (query : Query) (a b : ℕ) → b < a → (q : Placed) → HasNoneSelected query (Places a b) q
none_between query a b less q = all (records_of q)
  where
    fails : (r : Record) (t : Bool) → is_selected query (Places a b) r ≡ t → t ≡ false
    fails r false e = refl
    fails r true e =
        let p = and_parts (nat_le a r.place) (nat_le r.place b) (and_parts (in_span (Places a b) r) (matches query r) e).0 in
        let low = leb-true a r.place p.0 in
        let high = leb-true r.place b p.1 in
        absurd (omega (arith, low, high, less))

    all : (rs : List Record) → All (λ r. is_selected query (Places a b) r ≡ false) rs
    all [] = All-nil (λ r. is_selected query (Places a b) r ≡ false)
    all (r ∷ rs) = All-cons (λ r. is_selected query (Places a b) r ≡ false) r rs (fails r (is_selected query (Places a b) r) refl) (all rs)

-- What is found in a slot is what the index keeps there.
pub kept_is : (index read : List (Option Known)) (slot : ℕ) (k known : Known) (o : Option Known) → read ≡ index → Keeps index slot k → o ≡ get_or read slot None → o ≡ Some known → k ≡ known
kept_is index read slot k known o same there is at =
    same_Some k known (sym (get_or_from_slice_get index slot (Some k) None there) ∙ ap (λ (xs : List (Option Known)). get_or xs slot None) (sym same) ∙ sym is ∙ at)

-- What is known of a segment that meets the places from a to b, by what is found in its slot.
pub within_kept : (query : Query) (a b : ℕ) (k known : Known) → k ≡ known → meets query (Places a b) (summary_of k) ≡ true → Within a b known
within_kept query a b k known same h = subst (Within a b) same (within_places query a b k h)

-- The places end with the last one that the segment has of them.
pub ends_within : (a b end first count : ℕ) → a ≤ b → first ≤ b → a < first + count → end ≤ b → (end ≡ b) ⊎ (suc end ≡ first + count) → (a ≤ end) × (end ≤ b)
ends_within a b end first count ab begins ends below (inl same) = (omega (arith, same, ab), below)
ends_within a b end first count ab begins ends below (inr same) = (omega (arith, same, ends), below)

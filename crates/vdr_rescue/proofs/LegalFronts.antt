-- The fronts of a medium whose slots hold segments, and in which order those are read.
use Rattle.std.proofs.Common.{Ordering, ◌≡◌, ◌≢◌, ◌<◌, ◌≤◌, ◌+◌, ℕ, zero, suc, false, List, [], ◌∷◌, ◌++◌, length, length-append, map, get_or, set, slice_get, All, Contains, Option, Some, None, ⊎_elim, refl, sym, ap, ◌∙◌, subst, arith, get_or-set_other}
use Rattle.std.specs.Prelude.{sum_by}
use Rattle.std.specs.Cmp.{nat_cmp_is}
use Rattle.std.specs.declared.cmp.Ordering.TheVariants.{Equal, Greater}
use Rattle.std.specs.Ordering.{nat_cmp, is_lt, ordering_then}
use Rattle.std.proofs.lemmas.Bool.{cases_eq, cases_lt}
use Rattle.std.proofs.lemmas.List.{get_or_past, get_or-set_same, length-map, length-set}
use Rattle.std.proofs.lemmas.List.Elements.{All-cons, All-contains, All-head, All-nil, All-tail}
use Rattle.std.proofs.lemmas.List.Sorted.{sum_by-IsPermutation}
use Rattle.std.proofs.lemmas.List.Sums.{sum_by-append, sum_by-cons}
use Rattle.std.proofs.lemmas.Option.{get_or_from_slice_get, none-some, same_Some, slice_get-get_or, slice_get_within}
use Rattle.vdr_segment.specs.declared.header.Header.{Header}
use Rattle.vdr_segment.specs.Segments.{Segment}
use Rattle.vdr_segment.specs.Slots.{HoldsSlots, IsFront, header_of}
use Rattle.vdr_segment.proofs.Holding.{front_at}
use Rattle.vdr_segment.proofs.SegmentLemmas.{one_header}
use Rattle.vdr_durability.proofs.Lists.{all_from, contains_cases, none_contained}
use Rattle.vdr_directory.specs.Opening.{front_bytes}
use Rattle.vdr_directory.specs.Order.{AreInPlace}
use Rattle.vdr_directory.specs.Sequence.{AreInSequence, IsBefore, Placed, Rises, first_of, seq_of}
use Rattle.vdr_directory.proofs.Known.{IsEarlier, all_behind}
use Rattle.vdr_rescue.specs.declared.front.Front.{Front}
use Rattle.vdr_rescue.specs.declared.front.Front.TheVariants.{Closed, Torn, Headless}
use Rattle.vdr_rescue.specs.declared.front.Front.TheVariants as front
use Rattle.vdr_rescue.specs.declared.fronts.Head.{Head}
use Rattle.vdr_rescue.specs.Alones.{IsReadingOrder, is_before}
use Rattle.vdr_rescue.specs.Fronts.{AreFronts, FrontsState, ShowsFront, with_front}
use Rattle.vdr_rescue.proofs.OneAnswer.{open_closed}
use Rattle.vdr_rescue.proofs.SortLemmas.{Rising, SameSums, never_itself, one_head, one_rising, rising_heads}

abbrev pub head_of : Placed → Head
head_of p = record { slot = p.slot; seq = seq_of p; first = first_of p }

-- Sums over what slots hold, which tell apart lists of heads with other elements

abbrev worth : (Head → ℕ) → ℕ → Option Segment → ℕ
worth f slot None = 0
worth f slot (Some s) = f (record { slot = slot; seq = s.header.seq; first = s.header.first })

abbrev slots_worth : (Head → ℕ) → List (Option Segment) → ℕ → ℕ
slots_worth f slots zero = 0
slots_worth f slots (suc n) = slots_worth f slots n + worth f n (get_or slots n None)

-- What the front of one slot more adds.
record GrowsBy (n : ℕ) (held : Option Segment) (g h : FrontsState) : Type 0 where
  pub sums : (f : Head → ℕ) → sum_by f h.heads ≡ sum_by f g.heads + worth f n held
  pub headless : h.headless ≡ g.headless
  pub count : h.closed + length h.heads ≡ suc (g.closed + length g.heads)

head_path : (slot a b c d : ℕ) → a ≡ b → c ≡ d → ◌≡◌ {A = Head} (record { slot = slot; seq = a; first = c }) (record { slot = slot; seq = b; first = d })
head_path slot a b c d p q = λ i. record { slot = slot; seq = p i; first = q i }

grows : (bytes : List ℕ) (n : ℕ) (held : Option Segment) (shown : Front) (g : FrontsState) → IsFront bytes (header_of held) → ShowsFront bytes shown → GrowsBy n held g (with_front n shown g)
grows bytes n None Closed g is shows = record { sums = λ f. omega arith; headless = refl; count = omega arith }
grows bytes n None Torn g is shows = record { sums = λ f. omega arith; headless = refl; count = omega arith }
grows bytes n None Headless g is shows = absurd (is shows.0)
grows bytes n None (front.Segment seq first) g is shows = absurd (is shows.0)
grows bytes n (Some s) Closed g is shows = absurd (open_closed bytes shows is.0)
grows bytes n (Some s) Torn g is shows = absurd (shows.0 is.0)
grows bytes n (Some s) Headless g is shows = absurd (shows.1 s.header is.1)
grows bytes n (Some s) (front.Segment seq first) g is shows =
    let same : shows.1 ≡ s.header = one_header bytes shows.1 s.header shows.2 is.1 in
    let head : Head = record { slot = n; seq = seq; first = first } in
    let is_head : head ≡ record { slot = n; seq = s.header.seq; first = s.header.first } =
    head_path n seq s.header.seq first s.header.first (sym shows.3 ∙ ap (λ (h : Header). h.seq) same) (sym shows.4 ∙ ap (λ (h : Header). h.first) same) in
    record {
      sums = λ f.
          let one : sum_by f (head ∷ []) ≡ f head + 0 = sum_by-cons f head [] in
          let all : sum_by f (g.heads ++ head ∷ []) ≡ sum_by f g.heads + sum_by f (head ∷ []) = sum_by-append f g.heads (head ∷ []) in
          let own = ap f is_head in omega (arith, one, all, own);
      headless = refl;
      count = omega (arith, length-append g.heads (head ∷ []));
    }

-- The fronts of the first n slots.
pub record AreFrontsOf (slots : List (Option Segment)) (n : ℕ) (g : FrontsState) : Type 0 where
  pub sums : (f : Head → ℕ) → sum_by f g.heads ≡ slots_worth f slots n
  pub headless : g.headless ≡ []
  pub count : g.closed + length g.heads ≡ n

pub fronts_of : (segment : ℕ) (bytes : List ℕ) (slots : List (Option Segment)) → 64 ≤ segment → HoldsSlots segment slots bytes → (n : ℕ) → n ≤ length slots → (g : FrontsState) → AreFronts segment bytes n g
    → AreFrontsOf slots n g
fronts_of segment bytes slots le holds zero within g are =
    subst (AreFrontsOf slots 0) (sym are) (record { sums = λ f. refl; headless = refl; count = refl })
fronts_of segment bytes slots le holds (suc n) within g (shown, shows, f, are, is) =
    let before = fronts_of segment bytes slots le holds n (omega (arith, within)) f are in
    let held : Option Segment = get_or slots n None in
    let here : IsFront (front_bytes segment n bytes) (header_of held) = front_at segment n slots held bytes holds (slice_get-get_or slots n None (omega (arith, within))) le in
    let more = grows (front_bytes segment n bytes) n held shown f here shows in
    subst (AreFrontsOf slots (suc n)) (sym is) (record {
      sums = λ v. more.sums v ∙ ap (λ (k : ℕ). k + worth v n held) (before.sums v);
      headless = more.headless ∙ before.headless;
      count = more.count ∙ ap suc before.count;
    })

-- The segments in the slots, one after another, each cleared from its slot

record AreIn (slots : List (Option Segment)) (placed : List Placed) : Type 0 where
  pub there : All (λ p. (p.slot < length slots) × (get_or slots p.slot None ≡ Some p.segment)) placed
  pub all : (j : ℕ) (s : Segment) → get_or slots j None ≡ Some s → Contains placed (record { slot = j; segment = s })
  pub rises : Rises placed

at_slot : (slots : List (Option Segment)) (j : ℕ) (s : Segment) → get_or slots j None ≡ Some s → slice_get slots j ≡ Some (Some s)
at_slot slots j s is = ⊎_elim
    (λ (lt : j < length slots). slice_get-get_or slots j None lt ∙ ap (λ (o : Option Segment). Some o) is)
    (λ (past : length slots ≤ j). absurd (none-some s (sym (get_or_past slots j None past) ∙ is)))
    (cases_lt j (length slots))

are_in : (slots : List (Option Segment)) (placed : List Placed) → AreInSequence slots placed → AreIn slots placed
are_in slots placed h = record {
  there = all_from (λ p. (p.slot < length slots) × (get_or slots p.slot None ≡ Some p.segment)) placed (λ p m.
      let at = All-contains (λ p. slice_get slots p.slot ≡ Some (Some p.segment)) placed p h.there m in
      (slice_get_within slots p.slot (Some p.segment) at, get_or_from_slice_get slots p.slot (Some p.segment) None at));
  all = λ j s is. h.all j s (at_slot slots j s is);
  rises = h.rising;
}

apart : (p q : Placed) → IsBefore p q → p.slot ≡ q.slot → ◌≡◌ {A = Option Segment} (Some p.segment) (Some q.segment) → ⊥
apart p q before slot same =
    let seq : seq_of p ≡ seq_of q = ap (λ (s : Segment). s.header.seq) (same_Some p.segment q.segment same) in
    ⊎_elim (λ (lt : seq_of p < seq_of q). omega (arith, lt, seq)) (λ (b : (seq_of p ≡ seq_of q) × (p.slot < q.slot)). let lt = b.1 in omega (arith, lt, slot)) before

module _ (slots : List (Option Segment)) (p : Placed) (ps : List Placed) (h : AreIn slots (p ∷ ps)) where
  here_at : (p.slot < length slots) × (get_or slots p.slot None ≡ Some p.segment)
  here_at = All-head (λ p. (p.slot < length slots) × (get_or slots p.slot None ≡ Some p.segment)) p ps h.there

  cleared_in : AreIn (set slots p.slot None) ps
  cleared_in = record {
    there = all_from (λ q. (q.slot < length (set slots p.slot None)) × (get_or (set slots p.slot None) q.slot None ≡ Some q.segment)) ps (λ q m.
        let at = All-contains (λ q. (q.slot < length slots) × (get_or slots q.slot None ≡ Some q.segment)) ps q (All-tail (λ p. (p.slot < length slots) × (get_or slots p.slot None ≡ Some p.segment)) p ps h.there) m in
        let other : q.slot ≢ p.slot = λ e. apart p q (All-contains (IsBefore p) ps q h.rises.0 m) (sym e) (sym here_at.1 ∙ ap (λ (j : ℕ). get_or slots j None) (sym e) ∙ at.1) in
        let lt = at.0 in
        (omega (arith, lt, length-set slots p.slot None), get_or-set_other slots p.slot q.slot None None other ∙ at.1));
    all = λ j s is. ⊎_elim
        (λ (e : j ≡ p.slot). absurd (none-some s (sym (ap (λ (k : ℕ). get_or (set slots p.slot None) k None) e ∙ get_or-set_same slots p.slot None None here_at.0) ∙ is)))
        (λ (ne : j ≡ p.slot → ⊥). ⊎_elim
        (λ (e : p ≡ record { slot = j; segment = s }). absurd (ne (ap (λ (q : Placed). q.slot) (sym e))))
        (λ (m : Contains ps (record { slot = j; segment = s })). m)
        (contains_cases p ps (record { slot = j; segment = s }) (h.all j s (sym (get_or-set_other slots p.slot j None None ne) ∙ is))))
        (cases_eq j p.slot);
    rises = h.rises.1;
  }

module _ (f : Head → ℕ) where
  cleared_above : (slots : List (Option Segment)) (j n : ℕ) → n ≤ j → slots_worth f (set slots j None) n ≡ slots_worth f slots n
  cleared_above slots j zero le = refl
  cleared_above slots j (suc n) le =
      let rest = cleared_above slots j n (omega (arith, le)) in
      let own : get_or (set slots j None) n None ≡ get_or slots n None = get_or-set_other slots j n None None (λ e. omega (arith, e, le)) in
      let same = ap (worth f n) own in
      omega (arith, rest, same)

  cleared : (slots : List (Option Segment)) (j n : ℕ) → j < n → j < length slots → slots_worth f slots n ≡ worth f j (get_or slots j None) + slots_worth f (set slots j None) n
  cleared slots j zero lt there = absurd (omega (arith, lt))
  cleared slots j (suc n) lt there = ⊎_elim
      (λ (e : n ≡ j).
      let rest = cleared_above slots j n (omega (arith, e)) in
      let gone : worth f n (get_or (set slots j None) n None) ≡ 0 = ap (worth f n) (ap (λ (k : ℕ). get_or (set slots j None) k None) e ∙ get_or-set_same slots j None None there) in
      let own : worth f n (get_or slots n None) ≡ worth f j (get_or slots j None) = ap (λ (k : ℕ). worth f k (get_or slots k None)) e in
      omega (arith, rest, gone, own))
      (λ (ne : n ≡ j → ⊥).
      let rest = cleared slots j n (omega (arith, ne, lt)) there in
      let same = ap (worth f n) (get_or-set_other slots j n None None ne) in
      omega (arith, rest, same))
      (cases_eq n j)

  none_worth : (slots : List (Option Segment)) → AreIn slots [] → (n : ℕ) → slots_worth f slots n ≡ 0
  none_worth slots h zero = refl
  none_worth slots h (suc n) = go (none_worth slots h n) (get_or slots n None) refl
    where
      go : slots_worth f slots n ≡ 0 → (o : Option Segment) → get_or slots n None ≡ o → slots_worth f slots (suc n) ≡ 0
      go rest None is = let own : worth f n (get_or slots n None) ≡ 0 = ap (worth f n) is in omega (arith, rest, own)
      go rest (Some s) is = absurd (none_contained (record { slot = n; segment = s }) (h.all n s is))

  placed_worth : (slots : List (Option Segment)) (placed : List Placed) → AreIn slots placed → slots_worth f slots (length slots) ≡ sum_by f (map head_of placed)
  placed_worth slots [] h = none_worth slots h (length slots)
  placed_worth slots (p ∷ ps) h =
      let at = here_at slots p ps h in
      let rest = placed_worth (set slots p.slot None) ps (cleared_in slots p ps h) in
      let long : slots_worth f (set slots p.slot None) (length (set slots p.slot None)) ≡ slots_worth f (set slots p.slot None) (length slots) =
      ap (slots_worth f (set slots p.slot None)) (length-set slots p.slot None) in
      let all = cleared slots p.slot (length slots) at.0 at.0 in
      let own : worth f p.slot (get_or slots p.slot None) ≡ f (head_of p) = ap (worth f p.slot) at.1 in
      let sum : sum_by f (head_of p ∷ map head_of ps) ≡ f (head_of p) + sum_by f (map head_of ps) = sum_by-cons f (head_of p) (map head_of ps) in
      omega (arith, rest, long, all, own, sum)

-- Their order

not_sooner : (g h : Head) → h.first ≤ g.first → h.seq < g.seq → is_before g h ≡ false
not_sooner g h le lt = ⊎_elim
    (λ (e : g.first ≡ h.first).
    let a : Equal ≡ nat_cmp g.first h.first = nat_cmp_is g.first h.first Equal e in
    let b : Greater ≡ nat_cmp g.seq h.seq = nat_cmp_is g.seq h.seq Greater lt in
    ap (λ (o : Ordering). is_lt (ordering_then (ordering_then o (nat_cmp g.seq h.seq)) (nat_cmp g.slot h.slot))) (sym a)
    ∙ ap (λ (o : Ordering). is_lt (ordering_then o (nat_cmp g.slot h.slot))) (sym b))
    (λ (ne : g.first ≡ h.first → ⊥).
    let a : Greater ≡ nat_cmp g.first h.first = nat_cmp_is g.first h.first Greater (omega (arith, le, ne)) in
    ap (λ (o : Ordering). is_lt (ordering_then (ordering_then o (nat_cmp g.seq h.seq)) (nat_cmp g.slot h.slot))) (sym a))
    (cases_eq g.first h.first)

later_heads : (p : Placed) (ps : List Placed) → All (IsEarlier p) ps → All (λ z. is_before z (head_of p) ≡ false) (map head_of ps)
later_heads p [] h = All-nil (λ z. is_before z (head_of p) ≡ false)
later_heads p (q ∷ qs) h =
    let e : IsEarlier p q = All-head (IsEarlier p) q qs h in
    let le = e.1 in
    All-cons (λ z. is_before z (head_of p) ≡ false) (head_of q) (map head_of qs) (not_sooner (head_of q) (head_of p) (omega (arith, le)) e.0) (later_heads p qs (All-tail (IsEarlier p) q qs h))

rising_placed : (o : Option Placed) (placed : List Placed) → AreInPlace o placed → Rising is_before (map head_of placed)
rising_placed o [] h = tt
rising_placed o (p ∷ ps) h = (later_heads p ps (all_behind p ps h.1), rising_placed (Some p) ps h.1)

module _ (slots : List (Option Segment)) (placed : List Placed) (sequence : AreInSequence slots placed) (g : FrontsState) (fronts : AreFrontsOf slots (length slots) g) where
  same_sums : SameSums g.heads (map head_of placed)
  same_sums = λ f. fronts.sums f ∙ placed_worth f slots placed (are_in slots placed sequence)

  -- the segments are read in order of sequence number
  pub order_of : AreInPlace None placed → (order : List Head) → IsReadingOrder g.heads order → order ≡ map head_of placed
  order_of legal order is = one_rising is_before never_itself one_head order (map head_of placed) (rising_heads order is.sorted) (rising_placed None placed legal)
      (λ f. sum_by-IsPermutation f g.heads order is.moved ∙ same_sums f)

  -- how many slots are not open
  pub closed_of : g.closed + length placed ≡ length slots
  closed_of =
      let ones : (hs : List Head) → sum_by (λ (h : Head). 1) hs ≡ length hs = ones_of in
      let same : length g.heads ≡ length (map head_of placed) = sym (ones g.heads) ∙ same_sums (λ (h : Head). 1) ∙ ones (map head_of placed) in
      omega (arith, fronts.count, same, length-map placed head_of)
    where
      ones_of : (hs : List Head) → sum_by (λ (h : Head). 1) hs ≡ length hs
      ones_of [] = refl
      ones_of (h ∷ hs) = let rest = ones_of hs in let one : sum_by (λ (h : Head). 1) (h ∷ hs) ≡ 1 + sum_by (λ (h : Head). 1) hs = sum_by-cons (λ (h : Head). 1) h hs in omega (arith, rest, one)

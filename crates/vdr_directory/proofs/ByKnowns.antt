-- Segments in a legal order are in order by what opening knows of them.
use Rattle.std.proofs.Common.{◌≡◌, ◌≢◌, ◌<◌, ◌≤◌, ◌*◌, ◌^◌, ℕ, List, [], ◌∷◌, length, map, drop, slice_get, All, Option, Some, None, refl, sym, ap, ◌∙◌, subst, arith}
use Rattle.std.specs.Prelude.{IfSome, option_map}
use Rattle.std.proofs.lemmas.List.{nil_from_length}
use Rattle.std.proofs.lemmas.List.Elements.{All-nil, All-head, All-tail, All-append, All-weaker}
use Rattle.std.proofs.lemmas.Option.{none-some, same_Some}
use Rattle.vdr_terms.specs.Records.{Record, last, last_after, second}
use Rattle.vdr_terms.specs.Legality.{IsRecord}
use Rattle.vdr_terms.specs.Order.{RunOn, NeverFalls}
use Rattle.vdr_terms.proofs.Running.{last_of_run}
use Rattle.vdr_durability.specs.Layout.{segment_records}
use Rattle.vdr_entry.specs.declared.summary.Summary.{Summary}
use Rattle.vdr_segment.specs.Batches.{IsBatch}
use Rattle.vdr_segment.specs.Segments.{AreBatches}
use Rattle.vdr_index.specs.Audits.{IsCovered}
use Rattle.vdr_directory.specs.Sequence.{Placed, first_of, batches_of, records_of}
use Rattle.vdr_directory.specs.Order.{Agrees, AreInOrder, AreInPlace, HasNone, IsInPlace, MayFollow, MayPrecede, RunsOn, begin_second, end_second}
use Rattle.vdr_directory.specs.Knowns.{summary_of, batches_read, known_of, records_read, count_by, known_count, HasNoneBy, MayStand, IsWhole, RunsOnBy, begin_by, end_by, MayFollowBy, MayPrecedeBy, AreInPlaceBy, AreInOrderBy}
use Rattle.vdr_directory.specs.Holds.{HoldsPlaced}
use Rattle.vdr_directory.specs.Opening.{slot_bytes}
use Rattle.vdr_directory.proofs.Agreeing.{seconds_within}
use Rattle.vdr_directory.proofs.Extents.{read_all, read_none, count_bare, count_summarized}
use Rattle.vdr_directory.proofs.Knowing.{batches_held}

-- Places and milliseconds below 2^63

pub record IsLow (r : Record) : Type 0 where
  pub place : r.place < 2 ^ 63
  pub tick : r.tick < 2 ^ 63

low_batches : (bs : List (List Record)) → All IsBatch bs → All IsLow (segment_records bs)
low_batches [] h = All-nil IsLow
low_batches (b ∷ bs) h =
    All-append IsLow b (segment_records bs) (All-weaker IsRecord IsLow (λ r l. record { place = l.place; tick = l.tick }) b (All-head IsBatch b bs h).legal) (low_batches bs (All-tail IsBatch b bs h))

abbrev pub AreLow : Placed → Type 0
AreLow p = All IsLow (records_of p)

low_last : (r : Record) (rs : List Record) → All IsLow (r ∷ rs) → IsLow (last_after r rs)
low_last r [] h = All-head IsLow r [] h
low_last r (s ∷ rs) h = low_last s rs (All-tail IsLow r (s ∷ rs) h)

-- The second in which a segment ends

covered_by : (p : Placed) (o : Option Summary) → summary_of p ≡ o → IfSome (summary_of p) (Agrees p) → (s : Summary) → o ≡ Some s → All (IsCovered s) (records_of p)
covered_by p o o_is agrees s is =
    let a : Agrees p s = subst (λ (x : Option Summary). IfSome x (Agrees p)) (o_is ∙ is) agrees in a.covered

low_own : (rs : List Record) (a : ℕ) → All IsLow rs → end_second None rs ≡ Some a → 1000 * a < 2 ^ 63
low_own [] a low e = absurd (none-some a e)
low_own (r ∷ rs) a low e =
    let l = (low_last r rs low).tick in
    let s : second (last_after r rs).tick ≡ a = same_Some (second (last_after r rs).tick) a e in
    omega (arith, l, s)

-- of the segment before one with records
low_before : (p q : Placed) (a : ℕ) → ((b : ℕ) → begin_second (summary_of q) (records_of q) ≡ Some b → a ≤ b) → (HasNone q → ⊥) → RunsOn q → IfSome (summary_of q) (Agrees q)
    → ((n : ℕ) → end_second (summary_of q) (records_of q) ≡ Some n → 1000 * n < 2 ^ 63) → 1000 * a < 2 ^ 63
low_before p q a rise some runs agrees low = go (records_of q) refl
  where
    go : (rs : List Record) → records_of q ≡ rs → 1000 * a < 2 ^ 63
    go [] e = absurd (some e)
    go (r ∷ rs) e =
        let w = seconds_within (summary_of q) r rs (subst (λ (xs : List Record). NeverFalls 0 xs) e runs.ticks) (λ s is. subst (λ (xs : List Record). All (IsCovered s) xs) e (covered_by q (summary_of q) refl agrees s is)) in
        let x = rise w.0 (ap (λ (xs : List Record). begin_second (summary_of q) xs) e ∙ w.2) in
        let y = low w.1 (ap (λ (xs : List Record). end_second (summary_of q) xs) e ∙ w.3) in
        let le = w.4 in
        omega (arith, x, y, le)

low_end : (o : Option Placed) (p : Placed) (ps : List Placed) → AreInPlace o (p ∷ ps) → All AreLow (p ∷ ps) → (a : ℕ) → end_second (summary_of p) (records_of p) ≡ Some a → 1000 * a < 2 ^ 63
low_end o p [] h low a e =
    low_own (records_of p) a (All-head AreLow p [] low) (ap (λ (x : Option Summary). end_second x (records_of p)) (sym h.0.precedes) ∙ e)
low_end o p (q ∷ []) h low a e = go (low_end (Some p) q [] h.1 (All-tail AreLow p (q ∷ []) low)) (summary_of p) refl
  where
    go : ((n : ℕ) → end_second (summary_of q) (records_of q) ≡ Some n → 1000 * n < 2 ^ 63) → (x : Option Summary) → summary_of p ≡ x → 1000 * a < 2 ^ 63
    go next None is = low_own (records_of p) a (All-head AreLow p (q ∷ []) low) (ap (λ (x : Option Summary). end_second x (records_of p)) (sym is) ∙ e)
    go next (Some s) is = low_before p q a (λ b f. h.1.0.follows.seconds a b e f) (λ none. none-some s (sym (h.0.precedes.1 none) ∙ is)) h.1.0.runs_on h.1.0.agrees next
low_end o p (q ∷ x ∷ rest) h low a e =
    low_before p q a (λ b f. h.1.0.follows.seconds a b e f) some h.1.0.runs_on h.1.0.agrees (low_end (Some p) q (x ∷ rest) h.1 (All-tail AreLow p (q ∷ x ∷ rest) low))
  where
    behind : (rest : List Placed) → MayPrecede q (x ∷ rest) → HasNone q → ⊥
    behind [] h = h.0
    behind (y ∷ ys) h = h

    some : HasNone q → ⊥
    some = behind rest h.1.0.precedes

-- What is known of a segment in its place

pub record IsTold (p : Placed) : Type 0 where
  pub count : known_count p ≡ length (records_of p)
  pub begins : (a : ℕ) → begin_by (summary_of p) (records_read p) ≡ Some a → begin_second (summary_of p) (records_of p) ≡ Some a
  pub ends : (a : ℕ) → end_by (summary_of p) (records_read p) ≡ Some a → end_second (summary_of p) (records_of p) ≡ Some a
  pub first : (r : Record) → slice_get (records_read p) 0 ≡ Some r → slice_get (records_of p) 0 ≡ Some r
  pub newest : (r : Record) → last (records_read p) ≡ Some r → last (records_of p) ≡ Some r

begins_own : (rs : List Record) → begin_by None rs ≡ begin_second None rs
begins_own [] = refl
begins_own (r ∷ rs) = refl

ends_own : (rs : List Record) → end_by None rs ≡ end_second None rs
ends_own [] = refl
ends_own (r ∷ rs) = refl

told_bare : (p : Placed) → summary_of p ≡ None → IsTold p
told_bare p none =
    let read : records_read p ≡ records_of p = read_all p none in
    record {
      count = count_bare p none ∙ ap length read;
      begins = λ a e. (λ i. begin_second (none i) (records_of p)) ∙ sym (begins_own (records_of p)) ∙ (λ i. begin_by (sym none i) (sym read i)) ∙ e;
      ends = λ a e. (λ i. end_second (none i) (records_of p)) ∙ sym (ends_own (records_of p)) ∙ (λ i. end_by (sym none i) (sym read i)) ∙ e;
      first = λ r e. ap (λ (rs : List Record). slice_get rs 0) (sym read) ∙ e;
      newest = λ r e. ap (λ (rs : List Record). last rs) (sym read) ∙ e;
    }

begin_some : (s : Summary) (rs : List Record) → rs ≢ [] → begin_second (Some s) rs ≡ Some s.first_second
begin_some s [] some = absurd (some refl)
begin_some s (r ∷ rs) some = refl

end_some : (s : Summary) (rs : List Record) → rs ≢ [] → end_second (Some s) rs ≡ Some s.last_second
end_some s [] some = absurd (some refl)
end_some s (r ∷ rs) some = refl

told_summarized : (p : Placed) (s : Summary) → summary_of p ≡ Some s → Agrees p s → (HasNone p → ⊥) → IsTold p
told_summarized p s is agrees some =
    let read : records_read p ≡ [] = read_none p s is in
    record {
      count = count_summarized p s is ∙ agrees.count;
      begins = λ a e. ap (λ (o : Option Summary). begin_second o (records_of p)) is ∙ begin_some s (records_of p) some ∙ sym (ap (λ (o : Option Summary). begin_by o (records_read p)) is) ∙ e;
      ends = λ a e. ap (λ (o : Option Summary). end_second o (records_of p)) is ∙ end_some s (records_of p) some ∙ sym (ap (λ (o : Option Summary). end_by o (records_read p)) is) ∙ e;
      first = λ r e. absurd (none-some r (ap (λ (rs : List Record). slice_get rs 0) (sym read) ∙ e));
      newest = λ r e. absurd (none-some r (ap (λ (rs : List Record). last rs) (sym read) ∙ e));
    }

some_before : (p : Placed) (ps : List Placed) (s : Summary) → summary_of p ≡ Some s → MayPrecede p ps → HasNone p → ⊥
some_before p [] s is none empty = none-some s (sym none ∙ is)
some_before p (q ∷ []) s is h empty = h.0 empty
some_before p (q ∷ x ∷ rest) s is h empty = h empty

agrees_with : (p : Placed) (s : Summary) → summary_of p ≡ Some s → IfSome (summary_of p) (Agrees p) → Agrees p s
agrees_with p s is h = subst (λ (x : Option Summary). IfSome x (Agrees p)) is h

pub told : (o : Option Placed) (p : Placed) (ps : List Placed) → IsInPlace o p ps → IsTold p
told o p ps h = go (summary_of p) refl
  where
    go : (x : Option Summary) → summary_of p ≡ x → IsTold p
    go None is = told_bare p is
    go (Some s) is = told_summarized p s is (agrees_with p s is h.agrees) (some_before p ps s is h.precedes)

may_stand : (p : Placed) (s : Summary) → RunsOn p → Agrees p s → All IsLow (records_of p) → (HasNone p → ⊥) → 1000 * s.last_second < 2 ^ 63 → MayStand (first_of p) s
may_stand p s runs agrees low some ticks = go (records_of p) refl
  where
    go : (rs : List Record) → records_of p ≡ rs → MayStand (first_of p) s
    go [] e = absurd (some e)
    go (r ∷ rs) e =
        let c = All-head (IsCovered s) r rs (subst (λ (xs : List Record). All (IsCovered s) xs) e agrees.covered) in
        let a = c.no_earlier in
        let b = c.no_later in
        let l = (low_last r rs (subst (λ (xs : List Record). All IsLow xs) e low)).place in
        let n = last_of_run (first_of p) r rs (subst (λ (xs : List Record). RunOn (first_of p) xs) e runs.places) in
        let count = agrees.count ∙ ap length e in
        record { forward = omega (arith, a, b); places = omega (arith, l, n, count); ticks = ticks }

runs_on_by : (o : Option Placed) (p : Placed) (ps : List Placed) → AreInPlace o (p ∷ ps) → All AreLow (p ∷ ps) → RunsOnBy p
runs_on_by o p ps h low = record { low = h.0.runs_on.low; by_place = h.0.runs_on.by_place; whole = go (summary_of p) refl }
  where
    go : (x : Option Summary) → summary_of p ≡ x → IsWhole p
    go None is = record {
      places = subst (λ (rs : List Record). RunOn (first_of p) rs) (sym (read_all p is)) h.0.runs_on.places;
      ticks = subst (λ (rs : List Record). NeverFalls 0 rs) (sym (read_all p is)) h.0.runs_on.ticks;
      stands = subst (λ (x : Option Summary). IfSome x (MayStand (first_of p))) (sym is) tt;
    }
    go (Some s) is =
        let some = some_before p ps s is h.0.precedes in
        let a = agrees_with p s is h.0.agrees in
        let ends : end_second (summary_of p) (records_of p) ≡ Some s.last_second = ap (λ (o : Option Summary). end_second o (records_of p)) is ∙ end_some s (records_of p) some in
        record {
          places = subst (λ (rs : List Record). RunOn (first_of p) rs) (sym (read_none p s is)) tt;
          ticks = subst (λ (rs : List Record). NeverFalls 0 rs) (sym (read_none p s is)) tt;
          stands = subst (λ (x : Option Summary). IfSome x (MayStand (first_of p))) (sym is)
              (may_stand p s h.0.runs_on a (All-head AreLow p ps low) some (low_end o p ps h low s.last_second ends));
        }

none_told : (p : Placed) → IsTold p → HasNoneBy p → HasNone p
none_told p t none = nil_from_length (records_of p) (sym t.count ∙ none)

follows_by : (o : Option Placed) (p : Placed) → IfSome o IsTold → IsTold p → MayFollow o p → MayFollowBy o p
follows_by None p before t h = λ none. h (none_told p t none)
follows_by (Some q) p before t h =
    let a = h.place in
    let count = before.count in
    record {
      seq = h.seq;
      place = omega (arith, a, count);
      joined = λ next. let b = h.joined next in omega (arith, b, count);
      ticks = λ r s ends begins. h.ticks r s (before.newest r ends) (t.first s begins);
      seconds = λ m n ends begins. h.seconds m n (before.ends m ends) (t.begins n begins);
      begun = λ none. h.begun (none_told p t none);
    }

pub precedes_by : (p : Placed) (ps : List Placed) → IsTold p → AreInPlace (Some p) ps → MayPrecede p ps → MayPrecedeBy p ps
precedes_by p [] t after h = h
precedes_by p (q ∷ []) t after h = (λ none. h.0 (none_told p t none), λ none. h.1 (none_told q (told (Some p) q [] after.0) none))
precedes_by p (q ∷ x ∷ rest) t after h = λ none. h (none_told p t none)

pub in_place_by : (o : Option Placed) (ps : List Placed) → IfSome o IsTold → AreInPlace o ps → All AreLow ps → AreInPlaceBy o ps
in_place_by o [] before h low = tt
in_place_by o (p ∷ ps) before h low =
    let t = told o p ps h.0 in (
      record { runs_on = runs_on_by o p ps h low; follows = follows_by o p before t h.0.follows; precedes = precedes_by p ps t h.1 h.0.precedes },
      in_place_by (Some p) ps t h.1 (All-tail AreLow p ps low),
    )

-- As they are known

read_twice : (p : Placed) → records_read (known_of p) ≡ records_read p
read_twice p = ap (λ (bs : List (List Record)). segment_records bs) (go (summary_of p))
  where
    go : (o : Option Summary) → batches_read o (batches_read o (batches_of p)) ≡ batches_read o (batches_of p)
    go None = refl
    go (Some s) = refl

pub count_twice : (p : Placed) → known_count (known_of p) ≡ known_count p
count_twice p = ap (λ (rs : List Record). count_by (summary_of p) rs) (read_twice p)

follows_known : (o : Option Placed) (p : Placed) → MayFollowBy o p → MayFollowBy (option_map known_of o) (known_of p)
follows_known None p h = λ none. h (sym (count_twice p) ∙ none)
follows_known (Some q) p h =
    let a = h.place in
    let count = count_twice q in
    record {
      seq = h.seq;
      place = omega (arith, a, count);
      joined = λ next. let b = h.joined next in omega (arith, b, count);
      ticks = λ r s ends begins. h.ticks r s (ap (λ (rs : List Record). last rs) (sym (read_twice q)) ∙ ends) (ap (λ (rs : List Record). slice_get rs 0) (sym (read_twice p)) ∙ begins);
      seconds = λ m n ends begins. h.seconds m n (ap (λ (rs : List Record). end_by (summary_of q) rs) (sym (read_twice q)) ∙ ends) (ap (λ (rs : List Record). begin_by (summary_of p) rs) (sym (read_twice p)) ∙ begins);
      begun = λ none. h.begun (sym (count_twice p) ∙ none);
    }

pub precedes_known : (p : Placed) (ps : List Placed) → MayPrecedeBy p ps → MayPrecedeBy (known_of p) (map known_of ps)
precedes_known p [] h = h
precedes_known p (q ∷ []) h = (λ none. h.0 (sym (count_twice p) ∙ none), λ none. h.1 (sym (count_twice q) ∙ none))
precedes_known p (q ∷ x ∷ rest) h = λ none. h (sym (count_twice p) ∙ none)

pub in_place_known : (o : Option Placed) (ps : List Placed) → AreInPlaceBy o ps → AreInPlaceBy (option_map known_of o) (map known_of ps)
in_place_known o [] h = tt
in_place_known o (p ∷ ps) h = (
  record {
    runs_on = record {
      low = h.0.runs_on.low;
      by_place = h.0.runs_on.by_place;
      whole = record {
        places = subst (λ (rs : List Record). RunOn (first_of p) rs) (sym (read_twice p)) h.0.runs_on.whole.places;
        ticks = subst (λ (rs : List Record). NeverFalls 0 rs) (sym (read_twice p)) h.0.runs_on.whole.ticks;
        stands = h.0.runs_on.whole.stands;
      };
    };
    follows = follows_known o p h.0.follows;
    precedes = precedes_known p ps h.0.precedes;
  },
  in_place_known (Some p) ps h.1,
)

low_placed : (segment : ℕ) (bytes : List ℕ) (ps : List Placed) → All (λ p. AreBatches (drop 64 (slot_bytes segment p.slot bytes)) p.segment.batches) ps → All AreLow ps
low_placed segment bytes ps h = All-weaker (λ p. AreBatches (drop 64 (slot_bytes segment p.slot bytes)) p.segment.batches) AreLow (λ p a. low_batches p.segment.batches a.legal) ps h

pub in_order_by : (segment count : ℕ) (bytes : List ℕ) (placed : List Placed) → 64 ≤ segment → HoldsPlaced segment count placed bytes → AreInOrder placed → AreInOrderBy placed
in_order_by segment count bytes placed long holds order = in_place_by None placed tt order (low_placed segment bytes placed (batches_held segment count bytes placed long holds))

pub in_order_known : (segment count : ℕ) (bytes : List ℕ) (placed : List Placed) → 64 ≤ segment → HoldsPlaced segment count placed bytes → AreInOrder placed → AreInOrderBy (map known_of placed)
in_order_known segment count bytes placed long holds order = in_place_known None placed (in_order_by segment count bytes placed long holds order)

-- One more item of a feed is counted as the definition counts it.
use Rattle.std.proofs.Common.{◌≡◌, ◌≢◌, ◌≤◌, ◌<◌, ◌+◌, ◌^◌, ℕ, suc, List, [], ◌∷◌, ◌++◌, length, take, map, filter, count_by, All, Bool, true, false, if◌then◌else◌, ◌==◌, fold, None, Some, slice_index_or, slice_set, refl, sym, ap, ◌∙◌, subst, arith, ⊎_elim, append-nil, append_assoc, length-set, get_or-set_same, get_or-set_other, Option}
use Rattle.std.proofs.lemmas.Bool.{cases_eq, cases_lt, cond-false, cond-true, lt-ltb, ne_eqb}
use Rattle.std.proofs.lemmas.List.{get_or_default, length-take-le, take_all}
use Rattle.std.proofs.lemmas.List.Elements.{All-nil, All-cons, All-head, All-tail}
use Rattle.std.proofs.Math.ListN.{get_or-eq_default}
use Rattle.vdr_terms.specs.declared.counts.Counts.{Counts}
use Rattle.vdr_terms.specs.declared.datagram.Verdict.{Verdict}
use Rattle.vdr_terms.specs.declared.datagram.Verdict.TheVariants.{Yes, Bad, Large}
use Rattle.vdr_terms.specs.Counting.{Tally, no_tally, one_bad, one_large, pushed, tallied}
use Rattle.vdr_terms.specs.Datagrams.{largest, verdict, is_yes, is_bad, is_large}
use Rattle.vdr_terms.specs.Channels.{no_channels}
use Rattle.vdr_terms.specs.Rates.Limit.{NotConfigured}
use Rattle.vdr_terms.specs.Records.{FeedItem, Item, none_missed}
use Rattle.vdr_core.specs.Feed.{items_of, counts_of}
use Rattle.vdr_core.specs.Runs.{RunStart}
use Rattle.vdr_core.specs.Taken.{Captured}
use Rattle.vdr_core.specs.Replay.{IsOfGroups, captured_if, missed_with, rest_after, since_yes, taken_of}
use Rattle.vdr_core.proofs.OneMore.{goes_on}
use Rattle.vdr_core.proofs.Counted.{count_no, count_yes}
use Rattle.vdr_core.proofs.Feeding.{counts_path, items_other, items_own}
use Rattle.vdr_feed.specs.Feed.{longest_feed}
use Rattle.vdr_feed.specs.Kept.{Holds}
use Rattle.vdr_feed.specs.Reader.{GivesItem, Reading}
use Rattle.vdr_feed.specs.declared.item.Item.{Item as Held}
use Rattle.vdr_run.specs.declared.ports.Ports.{Ports}
use Rattle.vdr_run.specs.Given.{CountsFeed, pushed_as, tally_after, tally_of, totals_of}
use Rattle.vdr_run.specs.Making.{rest_of}

-- Groups of which the feed has nothing

pub none_in : (g : ℕ) (feed : List FeedItem) → All (λ i. i.group ≢ g) feed → items_of g feed ≡ []
none_in g [] h = refl
none_in g (x ∷ xs) h =
    ap (map (λ (y : FeedItem). y.item)) (cond-false (x.group == g) (x ∷ filter (λ (y : FeedItem). y.group == g) xs) (filter (λ (y : FeedItem). y.group == g) xs)
    (ne_eqb x.group g (All-head (λ (i : FeedItem). i.group ≢ g) x xs h)))
    ∙ none_in g xs (All-tail (λ (i : FeedItem). i.group ≢ g) x xs h)

pub all_but : (P : FeedItem → Type 0) (g : ℕ) → ((x : FeedItem) → P x → x.group ≢ g) → (feed : List FeedItem) → All P feed → All (λ i. i.group ≢ g) feed
all_but P g to [] h = All-nil (λ (i : FeedItem). i.group ≢ g)
all_but P g to (x ∷ xs) h = All-cons (λ (i : FeedItem). i.group ≢ g) x xs (to x (All-head P x xs h)) (all_but P g to xs (All-tail P x xs h))

pub of_groups : (feed : List FeedItem) → All (λ i. i.group < 16) feed → IsOfGroups feed
of_groups feed low g high = none_in g feed (all_but (λ i. i.group < 16) g (λ x l e. omega (arith, l, e, high)) feed low)

pub high_group : (feed : List FeedItem) (g : ℕ) → All (λ i. i.group < 16) feed → 16 ≤ g → rest_after feed g ≡ none_missed
high_group feed g low high = ap (λ (items : List Item). counts_of (since_yes items)) (of_groups feed low g high)

-- The items of a group are no more than those of all.
pub fewer : (g : ℕ) (feed : List FeedItem) → length (items_of g feed) ≤ length feed
fewer g [] = omega arith
fewer g (x ∷ xs) = go (x.group == g) refl (fewer g xs)
  where
    size : (b : Bool) → (x.group == g) ≡ b
        → length (items_of g (x ∷ xs)) ≡ length (map (λ (y : FeedItem). y.item) (if b then x ∷ filter (λ (y : FeedItem). y.group == g) xs else filter (λ (y : FeedItem). y.group == g) xs))
    size b e = ap (λ (b : Bool). length (map (λ (y : FeedItem). y.item) (if b then x ∷ filter (λ (y : FeedItem). y.group == g) xs else filter (λ (y : FeedItem). y.group == g) xs))) e

    go : (b : Bool) → (x.group == g) ≡ b → length (items_of g xs) ≤ length xs → length (items_of g (x ∷ xs)) ≤ length (x ∷ xs)
    go true e h = let a = size true e in omega (arith, a, h)
    go false e h = let a = size false e in omega (arith, a, h)

-- Nothing that the rate refuses is among what a port missed.
abbrev since_from : List Item → List Item → List Item
since_from since items = fold (λ since i. if is_yes (verdict i.bytes) then [] else since ++ i ∷ []) since items

none_yes : (since items : List Item) → count_by (λ i. is_yes (verdict i.bytes)) since ≡ 0 → count_by (λ i. is_yes (verdict i.bytes)) (since_from since items) ≡ 0
none_yes since [] h = h
none_yes since (x ∷ xs) h = go (is_yes (verdict x.bytes)) refl (λ since k. none_yes since xs k)
  where
    go : (b : Bool) → is_yes (verdict x.bytes) ≡ b
        → ((since : List Item) → count_by (λ i. is_yes (verdict i.bytes)) since ≡ 0 → count_by (λ i. is_yes (verdict i.bytes)) (since_from since xs) ≡ 0)
        → count_by (λ i. is_yes (verdict i.bytes)) (since_from since (x ∷ xs)) ≡ 0
    go true e more =
        ap (λ (b : Bool). count_by (λ (i : Item). is_yes (verdict i.bytes)) (since_from (if b then [] else since ++ x ∷ []) xs)) e
        ∙ more [] refl
    go false e more =
        ap (λ (b : Bool). count_by (λ (i : Item). is_yes (verdict i.bytes)) (since_from (if b then [] else since ++ x ∷ []) xs)) e
        ∙ more (since ++ x ∷ []) (count_no (λ (i : Item). is_yes (verdict i.bytes)) since x e ∙ h)

pub no_rate : (feed : List FeedItem) (g : ℕ) → (rest_after feed g).rate ≡ 0
no_rate feed g = none_yes [] (items_of g feed) refl

-- One more item of a port

pub tally_path : (t u : Tally) → t.taken ≡ u.taken → t.missed ≡ u.missed → t.totals ≡ u.totals → t ≡ u
tally_path t u p q r = λ i. record { taken = p i; missed = q i; totals = r i }

abbrev pub stepped : Verdict → Tally → Tally
stepped Yes t = pushed t
stepped Bad t = tallied one_bad t
stepped Large t = tallied one_large t

abbrev tally_told : List Item → Tally
tally_told items = record { taken = length items; missed = counts_of (since_yes items); totals = totals_of items }

-- a start, of which nothing depends
pub no_start : RunStart
no_start = record { limits = λ g. NotConfigured; channels = no_channels; place = 0; last = None }

module _ (feed : List FeedItem) (x : FeedItem) where
  totals_more : (v : Verdict) → verdict x.item.bytes ≡ v → totals_of (items_of x.group feed ++ x.item ∷ []) ≡ (stepped v (tally_after feed x.group)).totals
  totals_more Yes e = counts_path _ _ refl refl
      (count_no (λ (i : Item). is_bad (verdict i.bytes)) (items_of x.group feed) x.item (ap is_bad e))
      (count_no (λ (i : Item). is_large (verdict i.bytes)) (items_of x.group feed) x.item (ap is_large e))
  totals_more Bad e = counts_path _ _ refl refl
      (count_yes (λ (i : Item). is_bad (verdict i.bytes)) (items_of x.group feed) x.item (ap is_bad e))
      (count_no (λ (i : Item). is_large (verdict i.bytes)) (items_of x.group feed) x.item (ap is_large e))
  totals_more Large e = counts_path _ _ refl refl
      (count_no (λ (i : Item). is_bad (verdict i.bytes)) (items_of x.group feed) x.item (ap is_bad e))
      (count_yes (λ (i : Item). is_large (verdict i.bytes)) (items_of x.group feed) x.item (ap is_large e))

  missed_step : (v : Verdict) (t : Tally) → missed_with v t.missed ≡ (stepped v t).missed
  missed_step Yes t = refl
  missed_step Bad t = refl
  missed_step Large t = refl

  taken_step : (v : Verdict) (t : Tally) → suc t.taken ≡ (stepped v t).taken
  taken_step Yes t = refl
  taken_step Bad t = refl
  taken_step Large t = refl

  pub tally_more : tally_after (feed ++ x ∷ []) x.group ≡ stepped (verdict x.item.bytes) (tally_after feed x.group)
  tally_more = tally_path _ _
      ((goes_on no_start feed x).own_count ∙ taken_step (verdict x.item.bytes) (tally_after feed x.group))
      ((goes_on no_start feed x).own_missed ∙ missed_step (verdict x.item.bytes) (tally_after feed x.group))
      (ap totals_of (items_own feed x) ∙ totals_more (verdict x.item.bytes) refl)

  pub tally_other : (g : ℕ) → (x.group ≡ g → ⊥) → tally_after (feed ++ x ∷ []) g ≡ tally_after feed g
  tally_other g ne = ap (λ (items : List Item). tally_told items) (items_other feed x g ne)

  pub counts_more : (old new : Ports) (t : Tally) → CountsFeed feed old → x.group < 16 → new.tallies ≡ slice_set old.tallies x.group t
      → t ≡ stepped (verdict x.item.bytes) (tally_of old x.group) → CountsFeed (feed ++ x ∷ []) new
  counts_more old new t h low set step = record {
    sixteen = ap (λ (ts : List Tally). length ts) set ∙ length-set old.tallies x.group t ∙ h.sixteen;
    each = λ g l. ⊎_elim (own g l) (other g l) (cases_eq x.group g);
  }
    where
      own : (g : ℕ) → g < 16 → x.group ≡ g → tally_of new g ≡ tally_after (feed ++ x ∷ []) g
      own g l e = subst (λ (k : ℕ). tally_of new k ≡ tally_after (feed ++ x ∷ []) k) e
          (ap (λ (ts : List Tally). slice_index_or ts x.group no_tally) set
          ∙ get_or-set_same old.tallies x.group t no_tally (omega (arith, low, h.sixteen))
          ∙ step ∙ ap (stepped (verdict x.item.bytes)) (h.each x.group low) ∙ sym tally_more)

      other : (g : ℕ) → g < 16 → (x.group ≡ g → ⊥) → tally_of new g ≡ tally_after (feed ++ x ∷ []) g
      other g l ne =
          ap (λ (ts : List Tally). slice_index_or ts g no_tally) set
          ∙ get_or-set_other old.tallies x.group g t no_tally (λ e. ne (sym e))
          ∙ h.each g l ∙ sym (tally_other g ne)

-- What is taken of a feed with one more item
taken_snoc : (feed xs : List FeedItem) (x : FeedItem) → taken_of feed (xs ++ x ∷ []) ≡ taken_of feed xs ++ captured_if (is_yes (verdict x.item.bytes)) (feed ++ xs) x
taken_snoc feed [] x =
    append-nil (captured_if (is_yes (verdict x.item.bytes)) feed x) ∙ ap (λ (ys : List FeedItem). captured_if (is_yes (verdict x.item.bytes)) ys x) (sym (append-nil feed))
taken_snoc feed (y ∷ ys) x =
    ap (λ (cs : List Captured). captured_if (is_yes (verdict y.item.bytes)) feed y ++ cs)
    (taken_snoc (feed ++ y ∷ []) ys x ∙ ap (λ (zs : List FeedItem). taken_of (feed ++ y ∷ []) ys ++ captured_if (is_yes (verdict x.item.bytes)) zs x) (append_assoc feed (y ∷ []) ys))
    ∙ sym (append_assoc (captured_if (is_yes (verdict y.item.bytes)) feed y) (taken_of (feed ++ y ∷ []) ys) (captured_if (is_yes (verdict x.item.bytes)) (feed ++ y ∷ ys) x))

pub taken_one_more : (feed : List FeedItem) (x : FeedItem) → taken_of [] (feed ++ x ∷ []) ≡ taken_of [] feed ++ captured_if (is_yes (verdict x.item.bytes)) feed x
taken_one_more feed x = taken_snoc [] feed x

-- What the code has of an item

-- The first 1,473 bytes tell the verdict, and a recordable datagram has no more.
pub same_verdict : (b : List ℕ) → verdict (take 1473 b) ≡ verdict b
same_verdict b = ⊎_elim
    (λ (l : largest < length b).
    let n : length (take 1473 b) ≡ 1473 = length-take-le 1473 b (omega (arith, l)) in
    cond-true _ Large _ (lt-ltb largest (length (take 1473 b)) (omega (arith, n))) ∙ sym (cond-true _ Large _ (lt-ltb largest (length b) l)))
    (λ (l : length b ≤ largest). ap verdict (take_all 1473 b (omega (arith, l))))
    (cases_lt largest (length b))

whole_bytes : (b : List ℕ) → verdict (take 1473 b) ≡ Yes → take 1473 b ≡ b
whole_bytes b e = ⊎_elim
    (λ (l : largest < length b).
    let large : verdict b ≡ Large = cond-true _ Large _ (lt-ltb largest (length b) l) in
    let clash : Large ≡ Yes = sym large ∙ (sym (same_verdict b) ∙ e) in
    let none : ⊥ = cc in absurd none)
    (λ (l : length b ≤ largest). take_all 1473 b (omega (arith, l)))
    (cases_lt largest (length b))

pub taken_fits : (feed : List FeedItem) (ports : Ports) (g : ℕ) (d : Tally) → CountsFeed feed ports → length feed ≤ longest_feed → g < 16 → (slice_index_or ports.tallies g d).taken + 1 < 2 ^ 63
taken_fits feed ports g d h few low =
    let e = ap (λ (t : Tally). t.taken) (get_or_default ports.tallies g d no_tally (omega (arith, low, h.sixteen)) ∙ h.each g low) in
    let k = fewer g feed in omega (arith, e, k, few)

pub rate_fits : (feed : List FeedItem) (ports : Ports) (g : ℕ) (d : Tally) → CountsFeed feed ports → g < 16 → (slice_index_or ports.tallies g d).missed.rate ≡ 0
rate_fits feed ports g d h low =
    ap (λ (t : Tally). t.missed.rate) (get_or_default ports.tallies g d no_tally (omega (arith, low, h.sixteen)) ∙ h.each g low) ∙ no_rate feed g

module _ (feed : List FeedItem) (x : FeedItem) (item : Held) (old : Ports) (d : Tally) (h : CountsFeed feed old) (holds : Holds item x) (low : item.group < 16) where
  its_tally : slice_index_or old.tallies item.group d ≡ tally_of old item.group
  its_tally = get_or_default old.tallies item.group d no_tally (omega (arith, low, h.sixteen))

  its_verdict : (v : Verdict) → verdict item.bytes.items ≡ v → verdict x.item.bytes ≡ v
  its_verdict v e = sym (same_verdict x.item.bytes) ∙ ap verdict (sym holds.bytes) ∙ e

  pub counts_taken : (new : Ports) (t : Tally) (v : Verdict) → verdict item.bytes.items ≡ v → new.tallies ≡ slice_set old.tallies item.group t
      → t ≡ stepped v (slice_index_or old.tallies item.group d) → CountsFeed (feed ++ x ∷ []) new
  counts_taken new t v is set step =
      counts_more feed x old new t h (subst (λ (g : ℕ). g < 16) holds.group low) (set ∙ ap (λ (g : ℕ). slice_set old.tallies g t) holds.group)
      (step ∙ ap (stepped v) (its_tally ∙ ap (tally_of old) holds.group) ∙ ap (λ (v : Verdict). stepped v (tally_of old x.group)) (sym (its_verdict v is)))

  its_count : slice_index_or old.tallies item.group d ≡ tally_after feed x.group
  its_count = its_tally ∙ h.each item.group low ∙ ap (tally_after feed) holds.group

  -- a recordable item, with what is told of it
  pub pushed_is : (told : ℕ × Counts) → verdict item.bytes.items ≡ Yes → told.0 ≡ (slice_index_or old.tallies item.group d).taken
      → told.1 ≡ (slice_index_or old.tallies item.group d).missed → pushed_as item (Some told) ≡ captured_if (is_yes (verdict x.item.bytes)) feed x
  pushed_is told recordable number missed =
      (λ i. record {
        group = holds.group i;
        number = (number ∙ ap (λ (t : Tally). t.taken) its_count) i;
        received = holds.received i;
        utc = holds.utc i;
        missed = (missed ∙ ap (λ (t : Tally). t.missed) its_count) i;
        bytes = (holds.bytes ∙ whole_bytes x.item.bytes (ap verdict (sym holds.bytes) ∙ recordable)) i;
      } ∷ [])
      ∙ ap (λ (b : Bool). captured_if b feed x) (sym (ap is_yes (its_verdict Yes recordable)))

  pub missed_is : (v : Verdict) → verdict item.bytes.items ≡ v → is_yes v ≡ false → pushed_as item None ≡ captured_if (is_yes (verdict x.item.bytes)) feed x
  missed_is v is other = ap (λ (b : Bool). captured_if b feed x) (sym (ap is_yes (its_verdict v is) ∙ other))

-- What each port missed at the end
pub rests : (feed : List FeedItem) (ports : Ports) (rest : List Counts) → CountsFeed feed ports → All (λ i. i.group < 16) feed → length rest ≡ 16
    → ((g : ℕ) → g < 16 → rest_of rest g ≡ (tally_of ports g).missed) → rest_of rest ≡ rest_after feed
rests feed ports rest counts low sixteen each = λ i g. at g i
  where
    at : (g : ℕ) → rest_of rest g ≡ rest_after feed g
    at g = ⊎_elim
        (λ (l : g < 16). each g l ∙ ap (λ (t : Tally). t.missed) (counts.each g l))
        (λ (h : 16 ≤ g). get_or-eq_default rest none_missed (omega (arith, sixteen, h)) ∙ sym (high_group feed g low h))
        (cases_lt g 16)

-- What a reader gives where it answers that there is an item.
pub gave_true : (before now : Option (List ℕ)) (r r' : Reading) (held : Held) (b : Bool) → b ≡ true → GivesItem before now r r' held b → GivesItem before now r r' held true
gave_true before now r r' held true is p = p
gave_true before now r r' held false is p = let none : ⊥ = cc in absurd none

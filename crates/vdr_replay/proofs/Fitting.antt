-- What is counted of a feed fits the recorder.
use Rattle.std.proofs.Common.{◌≡◌, ◌≤◌, ◌<◌, ◌+◌, ◌/◌, ◌^◌, ℕ, List, [], ◌∷◌, ◌++◌, length, sum_by, All, Bool, true, false, ◌==◌, refl, sym, ap, ◌∙◌, subst, arith, ⊎_elim, add-zero, length-append}
use Rattle.std.proofs.lemmas.Bool.{cases_eq, cond-true, cond-false, eq-eqb, ne_eqb}
use Rattle.std.proofs.lemmas.List.Sums.{sum_by-cons}
use Rattle.std.proofs.lemmas.List.Elements.{All-nil, All-cons, All-append}
use Rattle.vdr_terms.specs.declared.datagram.Verdict.{Verdict}
use Rattle.vdr_terms.specs.declared.datagram.Verdict.TheVariants.{Yes, Bad, Large}
use Rattle.vdr_terms.specs.Counting.{Tally, next_number}
use Rattle.vdr_terms.specs.Datagrams.{verdict, is_yes}
use Rattle.vdr_terms.specs.Rates.{is_configured}
use Rattle.vdr_terms.specs.Records.{FeedItem, total}
use Rattle.vdr_core.specs.Feed.{items_of}
use Rattle.vdr_core.specs.Taken.{Captured}
use Rattle.vdr_core.specs.Replay.{captured_after, captured_if, missed_with, rest_after}
use Rattle.vdr_core.proofs.OneMore.{goes_on}
use Rattle.vdr_core.proofs.Counted.{length_snoc}
use Rattle.vdr_config.specs.Configuration.{Configuration}
use Rattle.vdr_config.specs.Sizes.{limits_in}
use Rattle.vdr_feed.specs.Kept.{Holds}
use Rattle.vdr_feed.specs.declared.item.Item.{Item as Held}
use Rattle.vdr_run.specs.Making.{counted_of}
use Rattle.vdr_recorder.specs.Making.{MakesBy, least_datagram, numbers_of}
use Rattle.vdr_recorder.specs.Calls.{GoesOnWith}
use Rattle.vdr_recorder.specs.Recordings.{RecorderState}
use Rattle.vdr_recorder.proofs.Batches.{numbers_append}
use Rattle.vdr_run.specs.declared.maker.Maker.{Maker}
use Rattle.vdr_replay.specs.declared.lanes.Lanes.{Lanes}
use Rattle.vdr_feed.specs.Feed.{longest_feed}
use Rattle.vdr_replay.specs.Feeding.{AreConfigured, HasRate}
use Rattle.vdr_run.specs.Given.{CountsFeed}
use Rattle.vdr_replay.specs.Given.{AreFew, HoldsFeed, IsAhead, IsSized}
use Rattle.vdr_run.proofs.Given.{fewer, no_start, tally_other}
use Rattle.vdr_replay.proofs.Charged.{ahead_of_all}
use Rattle.vdr_replay.proofs.Given.{rated}

-- What fits the recorder

numbers_own : (g : ℕ) (c : Captured) → c.group ≡ g → numbers_of g (c ∷ []) ≡ total c.missed + 1
numbers_own g c e =
    ap (λ (cs : List Captured). sum_by (λ (c : Captured). total c.missed + 1) cs) (cond-true (c.group == g) (c ∷ []) [] (eq-eqb c.group g e))
    ∙ sum_by-cons (λ (c : Captured). total c.missed + 1) c [] ∙ add-zero (total c.missed + 1)

numbers_other : (g : ℕ) (c : Captured) → (c.group ≡ g → ⊥) → numbers_of g (c ∷ []) ≡ 0
numbers_other g c ne = ap (λ (cs : List Captured). sum_by (λ (c : Captured). total c.missed + 1) cs) (cond-false (c.group == g) (c ∷ []) [] (ne_eqb c.group g ne))

module _ (feed : List FeedItem) (x : FeedItem) (batch : List Captured) (maker : Maker) (h : AreFew feed batch maker) where
  own_more : (v : Verdict) → verdict x.item.bytes ≡ v → x.group < 16
      → next_number (counted_of maker x.group).pending + numbers_of x.group (batch ++ captured_if (is_yes v) feed x) + total (rest_after (feed ++ x ∷ []) x.group) ≤ length (items_of x.group (feed ++ x ∷ []))
  own_more v e low =
      let k = h.numbers x.group low in
      let n = (goes_on no_start feed x).own_count in
      let m : rest_after (feed ++ x ∷ []) x.group ≡ missed_with v (rest_after feed x.group) = (goes_on no_start feed x).own_missed ∙ ap (λ (v : Verdict). missed_with v (rest_after feed x.group)) e in
      let t : total (rest_after (feed ++ x ∷ []) x.group) ≡ total (missed_with v (rest_after feed x.group)) = ap total m in
      let a : numbers_of x.group (batch ++ captured_if (is_yes v) feed x) ≡ numbers_of x.group batch + numbers_of x.group (captured_if (is_yes v) feed x) = numbers_append x.group batch (captured_if (is_yes v) feed x) in
      let b : numbers_of x.group (captured_if (is_yes v) feed x) + total (missed_with v (rest_after feed x.group)) ≡ total (rest_after feed x.group) + 1 = sums v in
      omega (arith, k, n, t, a, b)
    where
      sums : (v : Verdict) → numbers_of x.group (captured_if (is_yes v) feed x) + total (missed_with v (rest_after feed x.group)) ≡ total (rest_after feed x.group) + 1
      sums Yes = let a = numbers_own x.group (captured_after feed x) refl in omega (arith, a)
      sums Bad = omega arith
      sums Large = omega arith

  other_more : (b : Bool) (g : ℕ) → g < 16 → (x.group ≡ g → ⊥)
      → next_number (counted_of maker g).pending + numbers_of g (batch ++ captured_if b feed x) + total (rest_after (feed ++ x ∷ []) g) ≤ length (items_of g (feed ++ x ∷ []))
  other_more b g low ne =
      let k = h.numbers g low in
      let n : length (items_of g (feed ++ x ∷ [])) ≡ length (items_of g feed) = ap (λ (t : Tally). t.taken) (tally_other feed x g ne) in
      let t : total (rest_after (feed ++ x ∷ []) g) ≡ total (rest_after feed g) = ap (λ (t : Tally). total t.missed) (tally_other feed x g ne) in
      let a = numbers_append g batch (captured_if b feed x) in
      let c = none b in
      omega (arith, k, n, t, a, c)
    where
      none : (b : Bool) → numbers_of g (captured_if b feed x) ≡ 0
      none true = numbers_other g (captured_after feed x) ne
      none false = refl

  pub few_more : AreFew (feed ++ x ∷ []) (batch ++ captured_if (is_yes (verdict x.item.bytes)) feed x) maker
  few_more = record {
    place =
        let a = length-append batch (captured_if (is_yes (verdict x.item.bytes)) feed x) in
        let b = one (is_yes (verdict x.item.bytes)) in
        let c = length_snoc feed x in
        let d = h.place in
        omega (arith, a, b, c, d);
    numbers = λ g low. ⊎_elim
        (λ (e : x.group ≡ g). subst (λ (k : ℕ). next_number (counted_of maker k).pending + numbers_of k (batch ++ captured_if (is_yes (verdict x.item.bytes)) feed x) + total (rest_after (feed ++ x ∷ []) k) ≤ length (items_of k (feed ++ x ∷ []))) e
        (own_more (verdict x.item.bytes) refl (subst (λ (k : ℕ). k < 16) (sym e) low)))
        (other_more (is_yes (verdict x.item.bytes)) g low) (cases_eq x.group g);
  }
    where
      one : (b : Bool) → length (captured_if b feed x) ≤ 1
      one true = omega arith
      one false = omega arith

-- The numbers of each group fit.
pub numbers_fit : (feed : List FeedItem) (batch : List Captured) (maker : Maker) → AreFew feed batch maker → length feed ≤ longest_feed
    → (g : ℕ) → g < 16 → next_number (counted_of maker g).pending + numbers_of g batch + total (rest_after feed g) < 2 ^ 63
numbers_fit feed batch maker h few g low = let a = h.numbers g low in let b = fewer g feed in omega (arith, a, b, few)

-- All that is held, with one more item
module _ (config : Configuration) (feed : List FeedItem) (x : FeedItem) (item : Held) (old new : Lanes) (maker : Maker) (h : HoldsFeed config feed old maker) (few : length feed < longest_feed)
    (holds : Holds item x) (low : item.group < 16) (rate : HasRate config.groups item.group) (counts : CountsFeed (feed ++ x ∷ []) new.ports)
    (batch : new.batch.items ≡ old.batch.items ++ captured_if (is_yes (verdict x.item.bytes)) feed x) (room : new.room ≡ old.room) (sized : IsSized new) (ahead : IsAhead config new maker) where
  rated_one : (b : Bool) → All (λ c. is_configured (limits_in config.groups c.group) ≡ true) (captured_if b feed x)
  rated_one true = All-cons (λ (c : Captured). is_configured (limits_in config.groups c.group) ≡ true) (captured_after feed x) []
      (rated config.groups x.group (subst (HasRate config.groups) holds.group rate)) (All-nil (λ (c : Captured). is_configured (limits_in config.groups c.group) ≡ true))
  rated_one false = All-nil (λ (c : Captured). is_configured (limits_in config.groups c.group) ≡ true)

  pub holds_more : HoldsFeed config (feed ++ x ∷ []) new maker
  holds_more = record {
    few = let a = length_snoc feed x in omega (arith, a, few);
    counts = counts;
    batch = record {
      room = room ∙ h.batch.room;
      sized = sized;
      configured = subst (All (λ c. is_configured (limits_in config.groups c.group) ≡ true)) (sym batch)
          (All-append (λ c. is_configured (limits_in config.groups c.group) ≡ true) old.batch.items (captured_if (is_yes (verdict x.item.bytes)) feed x) h.batch.configured (rated_one (is_yes (verdict x.item.bytes))));
    };
    fits = subst (λ (cs : List Captured). AreFew (feed ++ x ∷ []) cs maker) (sym batch) (few_more feed x old.batch.items maker h.fits);
    ahead = ahead;
    known = All-append (λ i. HasRate config.groups i.group) feed (x ∷ []) h.known
        (All-cons (λ (i : FeedItem). HasRate config.groups i.group) x [] (subst (HasRate config.groups) holds.group rate) (All-nil (λ (i : FeedItem). HasRate config.groups i.group)));
    low = All-append (λ i. i.group < 16) feed (x ∷ []) h.low
        (All-cons (λ (i : FeedItem). i.group < 16) x [] (subst (λ (g : ℕ). g < 16) holds.group low) (All-nil (λ (i : FeedItem). i.group < 16)));
  }

-- All that is held, once the batch was recorded
pub holds_recorded : (feed : List FeedItem) (lanes after : Lanes) (r made : RecorderState) (sizes : List ℕ) (items : List Captured) → HoldsFeed r.vault.config feed lanes r.maker → items ≡ lanes.batch.items
    → r.vault.failed ≡ false → GoesOnWith items r made sizes → after.batch.items ≡ [] → after.batch.capacity ≡ lanes.batch.capacity → after.ports ≡ lanes.ports → after.charges ≡ lanes.charges
    → after.left ≡ after.room → after.room ≡ lanes.room → HoldsFeed made.vault.config feed after made.maker
holds_recorded feed lanes after r made sizes items h is works goes empty capacity ports charges left room = record {
  few = h.few;
  counts = subst (CountsFeed feed) (sym ports) h.counts;
  batch = record {
    room = room ∙ h.batch.room ∙ ap (λ (config : Configuration). config.batch) (sym goes.config);
    sized = record {
      any = let any = h.batch.sized.any in omega (arith, any, room);
      space = subst (λ (x : ℕ × ℕ). x.0 / least_datagram ≤ x.1) (λ i. (sym room i, sym capacity i)) h.batch.sized.space;
      few = let none = ap length empty in omega (arith, none);
    };
    configured = subst (All (λ c. is_configured (limits_in made.vault.config.groups c.group) ≡ true)) (sym empty) (All-nil (λ (c : Captured). is_configured (limits_in made.vault.config.groups c.group) ≡ true));
  };
  fits = record {
    place =
        let place = h.fits.place in
        let places = goes.places in
        let none = ap length empty in
        let count = ap length is in
        omega (arith, place, places, none, count);
    numbers = λ g low.
        let had = h.fits.numbers g low in
        let more = goes.numbers g low in
        let none = ap (numbers_of g) empty in
        let count = ap (numbers_of g) is in
        omega (arith, had, more, none, count);
  };
  ahead = subst (λ (config : Configuration). IsAhead config after made.maker) (sym goes.config)
      (ahead_of_all r.vault.config lanes after r.maker made.maker h.ahead empty charges left
      (subst (λ (x : Configuration × List Captured). MakesBy x.0 h.ahead.start (h.ahead.popped ++ x.1) made.maker) (λ i. (goes.config i, is i)) (goes.makes works h.ahead.start h.ahead.popped h.ahead.makes)));
  known = subst (λ (config : Configuration). AreConfigured config.groups feed) (sym goes.config) h.known;
  low = h.low;
}

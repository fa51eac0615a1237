-- A walk that has taken an item has met it, and its numbers stay far below the ends of their types.
use Rattle.std.proofs.Common.{◌≡◌, ◌≤◌, ◌<◌, ◌+◌, ◌^◌, ℕ, List, [], ◌∷◌, ◌++◌, length, All, None, Some, sym, ap, ◌∙◌, subst, arith, append_assoc, append-nil}
use Rattle.std.proofs.lemmas.List.Elements.{All-append, All-cons, All-nil, filter-append}
use Rattle.vdr_terms.specs.declared.counts.Counts.{Counts}
use Rattle.vdr_terms.specs.Counting.{next_number}
use Rattle.vdr_terms.specs.Datagrams.{verdict, is_yes}
use Rattle.vdr_terms.specs.Rates.{Limit}
use Rattle.vdr_terms.specs.Records.{Record, FeedItem, has_items, second, total}
use Rattle.vdr_core.specs.Recorder.{recorder_after}
use Rattle.vdr_core.specs.Runs.{RunStart}
use Rattle.vdr_core.specs.Taken.{Captured}
use Rattle.vdr_core.specs.Replay.{NumbersAddUp, captured_if, fed, rest_after, taken_of}
use Rattle.vdr_feed.specs.Kept.{Holds}
use Rattle.vdr_feed.specs.declared.item.Item.{Item}
use Rattle.vdr_config.specs.Configuration.{Configuration}
use Rattle.vdr_run.specs.declared.maker.Maker.{Maker}
use Rattle.vdr_run.specs.declared.ports.Ports.{Ports}
use Rattle.vdr_run.specs.Given.{CountsFeed, pushed_as}
use Rattle.vdr_run.specs.Making.{IsMaking, Makes, counted_of}
use Rattle.vdr_run.proofs.Given.{fewer, taken_one_more}
use Rattle.vdr_review.specs.declared.walk.Walk.{Walk}
use Rattle.vdr_review.specs.Review.{review_start, review_seconds}
use Rattle.vdr_review.specs.Walks.{KeepsWindow, TakesItem, Tells, kept_of, second_in}

-- there is room for the numbers of one more item, and for those of a close
pub number_fits : (limit : Limit) (walk : Walk) (feed : List FeedItem) (g : ℕ) → Tells limit walk feed → length feed < 2 ^ 32 → g < 16
    → NumbersAddUp (review_start limit) feed g → next_number (counted_of walk.maker g).pending + total (rest_after feed g) + 1 < 2 ^ 63
number_fits limit walk feed g t few l numbers =
    let next = ap next_number (t.makes.pending g l) in
    let n = fewer g feed in
    omega (arith, n, numbers, next, few)

-- more records were made, and some that were kept went
keeps_more : (before after : ℕ) (made kept more now gone : List Record) → before ≤ after → KeepsWindow before made kept
    → kept ++ kept_of more ≡ gone ++ now → All (λ r. second r.tick + review_seconds ≤ after) gone → KeepsWindow after (made ++ more) now
keeps_more before after made kept more now gone le k whole old = record {
  gone = k.gone ++ gone;
  order = filter-append (λ (r : Record). has_items r.content) made more
      ∙ (ap (λ (xs : List Record). xs ++ kept_of more) k.order
      ∙ (append_assoc k.gone kept (kept_of more)
      ∙ (ap (λ (xs : List Record). k.gone ++ xs) whole ∙ sym (append_assoc k.gone gone now))));
  old = All-append (λ (r : Record). second r.tick + review_seconds ≤ after) k.gone gone (λ i d l. let h = k.old i d l in omega (arith, h, le)) old;
}

-- The maker's records of an item are kept.
pub has_taken : (item : Item) (told : ℕ × Counts) (old new : Walk) (cleared : Maker) (c : Captured) → c ∷ [] ≡ pushed_as item (Some told) → new.config ≡ old.config → new.ports ≡ old.ports
    → ((start : RunStart) (popped : List Captured) → Makes old.config start popped old.maker → Makes old.config start popped cleared) → cleared.records.items ≡ []
    → ((start : RunStart) (popped : List Captured) (before : List Record) → IsMaking old.config start popped before cleared → IsMaking old.config start (popped ++ c ∷ []) before new.maker)
    → second_in old ≤ second_in new → (gone : List Record) → old.window ++ kept_of new.maker.records.items ≡ gone ++ new.window → All (λ r. second r.tick + review_seconds ≤ second_in new) gone
    → TakesItem item told old new
has_taken item told old new cleared c is config ports clear empty take later gone whole olds = record {
  ports = ports;
  later = later;
  makes = λ start popped m. subst (λ (k : Configuration). Makes k start (popped ++ pushed_as item (Some told)) new.maker) (sym config)
      (subst (λ (cs : List Captured). Makes old.config start (popped ++ cs) new.maker) is (making start popped m).makes);
  window = λ start popped m. (
    new.maker.records.items,
    gone,
    subst (λ (cs : List Captured). (recorder_after start (popped ++ cs)).made ≡ (recorder_after start popped).made ++ new.maker.records.items) is (making start popped m).ends,
    whole,
    olds,
  );
}
  where
    making : (start : RunStart) (popped : List Captured) → Makes old.config start popped old.maker → IsMaking old.config start (popped ++ c ∷ []) (recorder_after start popped).made new.maker
    making start popped m = take start popped (recorder_after start popped).made (record {
      makes = clear start popped m;
      ends = sym (ap (λ (xs : List Record). (recorder_after start popped).made ++ xs) empty ∙ append-nil (recorder_after start popped).made);
    })

low_more : (feed : List FeedItem) (x : FeedItem) (item : Item) → Holds item x → item.group < 16 → All (λ i. i.group < 16) feed → All (λ i. i.group < 16) (feed ++ x ∷ [])
low_more feed x item holds low all = All-append (λ (i : FeedItem). i.group < 16) feed (x ∷ []) all
    (All-cons (λ (i : FeedItem). i.group < 16) x [] (subst (λ (g : ℕ). g < 16) holds.group low) (All-nil (λ (i : FeedItem). i.group < 16)))

module _ (limit : Limit) (feed : List FeedItem) (x : FeedItem) (old : Walk) (item : Item) (t : Tells limit old feed) (holds : Holds item x) (low : item.group < 16) where
  taken_with : (pushed : List Captured) → pushed ≡ captured_if (is_yes (verdict x.item.bytes)) feed x → taken_of [] (feed ++ x ∷ []) ≡ taken_of [] feed ++ pushed
  taken_with pushed is = taken_one_more feed x ∙ ap (λ (cs : List Captured). taken_of [] feed ++ cs) (sym is)

  -- a recordable item
  pub takes : (ports : Ports) (new : Walk) (told : ℕ × Counts) → CountsFeed (feed ++ x ∷ []) ports → pushed_as item (Some told) ≡ captured_if (is_yes (verdict x.item.bytes)) feed x
      → TakesItem item told (record old { ports = ports }) new → Tells limit new (feed ++ x ∷ [])
  takes ports new told counts is h = record {
    counts = subst (CountsFeed (feed ++ x ∷ [])) (sym h.ports) counts;
    low = low_more feed x item holds low t.low;
    makes = subst (λ (cs : List Captured). Makes new.config (review_start limit) cs new.maker) (sym path) (h.makes (review_start limit) (taken_of [] feed) t.makes);
    window =
        let more = h.window (review_start limit) (taken_of [] feed) t.makes in
        subst (λ (made : List Record). KeepsWindow (second_in new) made new.window) (sym (ap (λ (cs : List Captured). (recorder_after (review_start limit) cs).made) path ∙ more.2))
        (keeps_more (second_in old) (second_in new) (fed (review_start limit) feed).made old.window more.0 new.window more.1 h.later t.window more.3 more.4);
  }
    where
      path : taken_of [] (feed ++ x ∷ []) ≡ taken_of [] feed ++ pushed_as item (Some told)
      path = taken_with (pushed_as item (Some told)) is

  -- an item that is not recordable
  pub passes : (ports : Ports) → CountsFeed (feed ++ x ∷ []) ports → pushed_as item None ≡ captured_if (is_yes (verdict x.item.bytes)) feed x → Tells limit (record old { ports = ports }) (feed ++ x ∷ [])
  passes ports counts is = record {
    counts = counts;
    low = low_more feed x item holds low t.low;
    makes = subst (λ (cs : List Captured). Makes old.config (review_start limit) cs old.maker) (sym path) t.makes;
    window = subst (λ (cs : List Captured). KeepsWindow (second_in old) (recorder_after (review_start limit) cs).made old.window) (sym path) t.window;
  }
    where
      path : taken_of [] (feed ++ x ∷ []) ≡ taken_of [] feed
      path = taken_with [] is ∙ append-nil (taken_of [] feed)

-- What a run over the generator's items comes to, from what `replay` ensures.
use Rattle.std.proofs.Common.{◌≡◌, ◌+◌, inl, inr, ⊎_elim, ℕ, zero, suc, List, [], length, Option, Some, None, Result, Err, refl, ap, subst, ◌∙◌, arith}
use Rattle.std.specs.Prelude.{slice_index_or}
use Rattle.std.proofs.lemmas.List.Elements.{All-cons, All-nil}
use Rattle.vdr_recorder.specs.Watched.{nothing_told}
use Rattle.vdr_terms.specs.Records.{FeedItem}
use Rattle.vdr_core.specs.Feed.{feed_records, items_of}
use Rattle.vdr_core.specs.Runs.{base_after}
use Rattle.vdr_capture.specs.declared.sums.GroupSums.{GroupSums}
use Rattle.vdr_capture.specs.Sums.{sums_of}
use Rattle.vdr_outside.specs.Disk.{Disk}
use Rattle.vdr_feed.specs.Feed.{IsFeed, longest_feed}
use Rattle.vdr_feed.specs.Law.{OneFeed}
use Rattle.vdr_feed.specs.Trial.{trial_item, trial_state}
use Rattle.vdr_feed.proofs.Unique.{begins}
use Rattle.vdr_feed.specs.Generated.{generated_feed, items_from}
use Rattle.vdr_media.specs.Formatted.{IsFormatted, IsUnformatted}
use Rattle.vdr_opening.specs.Media.{HoldsContents, opening_of}
use Rattle.vdr_opening.specs.Refusals.{IsRefused}
use Rattle.vdr_opening.proofs.Fronts.{empty_meet}
use Rattle.vdr_replay.specs.Answers.{Answers, IsRecorded, TellsHeader}
use Rattle.vdr_replay.specs.Feeding.{AreConfigured, HasRate, ReadsFeed}
use Rattle.vdr_replay.specs.Headline.{ReplayHeadline}
use Rattle.vdr_replay.specs.Headline.RunEnd.{Closed}
use Rattle.vdr_replay.specs.declared.ended.FeedEnd.{FeedEnd}
use Rattle.vdr_replay.specs.declared.ended.FeedEnd.TheVariants as ends
use Rattle.vdr_replay.specs.declared.ended.Replayed.{Replayed}
use Rattle.vdr_replay.specs.declared.ended.ReplayRefused.{ReplayRefused}
use Rattle.vdr_replay.specs.declared.ended.ReplayRefused.TheVariants as stops
use Rattle.vdr_command.specs.Opened.{OneAnswer}
use Rattle.vdr_command.specs.Statuses.{status_of_replay}
use Rattle.vdr_tool.specs.TrialParts.{RunsItems}
use Rattle.vdr_tool.specs.Trials.{bench, bench_text, first_run, fresh, trial_items, trial_records, trial_sums}
use Rattle.vdr_tool.proofs.FeedLemmas.{not_refused}

-- The bench has the items' group.
configured : (count state index : ℕ) → AreConfigured bench.groups (items_from count state index)
configured zero state index = All-nil (λ (i : FeedItem). HasRate bench.groups i.group)
configured (suc n) state index =
    All-cons (λ (i : FeedItem). HasRate bench.groups i.group) (trial_item (trial_state state) index) (items_from n (trial_state state) (index + 1)) refl (configured n (trial_state state) (index + 1))

module _ {tells tells_images : Type 0} (seed count : ℕ) (rose : Type 0) (old new : Disk tells tells_images) (whole : IsFeed longest_feed (generated_feed seed count) (trial_items seed count)) where
  -- The run was not closed.
  pub run_stopped : OneAnswer old.reads → HoldsContents old.reads fresh → (now : Option (List ℕ)) (stop : ReplayRefused)
      → Answers fresh (generated_feed seed count) now rose old new ⊥ nothing_told (Err stop) → TellsHeader (Some (generated_feed seed count)) now (Err stop)
      → (◌≡◌ {A = Result Replayed ReplayRefused} (Err stop) (Err stops.Input) → ⊥)
      → (◌≡◌ {A = Result Replayed ReplayRefused} (Err stop) (Err stops.NotFormatted) → IsUnformatted old.reads)
      → ((m offset : ℕ) → ◌≡◌ {A = Result Replayed ReplayRefused} (Err stop) (Err (stops.Damaged m offset)) → IsFormatted old.reads × IsRefused old.reads m offset)
      → RunsItems seed count rose old new (Err (status_of_replay stop))
  run_stopped law holds now stops.NoMemory answers header input unformatted damaged = answers (empty_meet 0 bench bench_text)
  run_stopped law holds now stops.Input answers header input unformatted damaged = input refl
  run_stopped law holds now (stops.Refused number offset) answers header input unformatted damaged = header.2 (begins longest_feed (generated_feed seed count) (trial_items seed count) [] whole)
  run_stopped law holds now stops.NotFormatted answers header input unformatted damaged = law.formatted fresh holds (unformatted refl)
  run_stopped law holds now (stops.Damaged m offset) answers header input unformatted damaged = law.either fresh m offset holds (empty_meet 0 bench bench_text) (damaged m offset refl).1
  run_stopped law holds now stops.Place answers header input unformatted damaged =
      let high = answers.0 in let low : (opening_of fresh).next_place ≡ 0 = refl in omega (arith, high, low)
  run_stopped law holds now stops.Tick answers header input unformatted damaged =
      let high = answers.1 in let low : base_after (opening_of fresh).last ≡ 0 = refl in omega (arith, high, low)
  run_stopped law holds now stops.Media answers header input unformatted damaged = ⊎_elim
      (λ nothing. inl nothing)
      (λ broken. inr (broken.feed, (broken.rest, broken.read), broken.left))
      (answers (empty_meet 0 bench bench_text))

  -- The run was closed over all items.
  pub run_whole : OneFeed → (now : Option (List ℕ)) (r : Replayed) → IsRecorded fresh (generated_feed seed count) now rose old new ⊥ nothing_told r → r.end ≡ ends.Whole
      → (sums : GroupSums) → ((told : GroupSums) → slice_index_or r.groups 3 None ≡ Some told → sums ≡ told)
      → (sums ≡ trial_sums seed count) × (r.records ≡ length (trial_records seed count)) × ReplayHeadline fresh rose old new ⊥ nothing_told (trial_items seed count) Closed
  unfolding trial_sums trial_records
  run_whole one now r h is sums given =
      let read : IsFeed longest_feed (generated_feed seed count) h.feed = subst (λ (e : FeedEnd). ReadsFeed bench.groups (generated_feed seed count) now e h.feed) is h.read in
      let same : h.feed ≡ trial_items seed count = one longest_feed (generated_feed seed count) h.feed (trial_items seed count) read whole in (
        given (sums_of 3 (items_of 3 h.feed) (feed_records first_run h.feed)) (h.sums.each 3 (omega arith)) ∙ ap (λ (f : List FeedItem). sums_of 3 (items_of 3 f) (feed_records first_run f)) same,
        h.total ∙ ap (λ (f : List FeedItem). length (feed_records first_run f)) same,
        subst (λ (f : List FeedItem). ReplayHeadline fresh rose old new ⊥ nothing_told f Closed) same h.left,
      )

  -- It is not refused.
  pub run_refused : (now : Option (List ℕ)) (r : Replayed) → IsRecorded fresh (generated_feed seed count) now rose old new ⊥ nothing_told r → (number offset : ℕ) → r.end ≡ ends.Refused number offset → ⊥
  run_refused now r h number offset is =
      not_refused bench.groups (generated_feed seed count) number offset (trial_items seed count) h.feed (configured count seed 0) h.configured whole
      (subst (λ (e : FeedEnd). ReadsFeed bench.groups (generated_feed seed count) now e h.feed) is h.read)

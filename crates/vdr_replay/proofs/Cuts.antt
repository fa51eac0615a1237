-- A run that was cut off has the first of the feed's records, and accounts for the first of what the feed has.
use Rattle.std.proofs.Common.{◌≡◌, ◌<◌, inl, inr, ℕ, List, [], ◌∷◌, ◌++◌, All, Bool, true, false, refl, sym, ap, ◌∙◌, subst, append-nil, append_assoc}
use Rattle.std.proofs.lemmas.List.Sums.{fold-append}
use Rattle.vdr_terms.specs.Records.{Record, FeedItem}
use Rattle.vdr_core.specs.Accounts.{Accounts, AccountsPrefix}
use Rattle.vdr_core.specs.Feed.{feed_records, items_of}
use Rattle.vdr_core.specs.Recorder.{Recorder, admits, begun, closing, passed, recorder_after, taken_all, tick_with, took}
use Rattle.vdr_core.specs.Runs.{RunStart, base_of}
use Rattle.vdr_core.specs.Taken.{Captured, AllFeed}
use Rattle.vdr_terms.specs.Counting.{with_missed}
use Rattle.vdr_core.specs.Law.{Admits}
use Rattle.vdr_core.specs.Replay.{rest_after, taken_of}
use Rattle.vdr_core.proofs.FeedAccounts.{all_feed, feed_accounts}
use Rattle.vdr_core.proofs.Feeding.{is_replay}
use Rattle.vdr_core.proofs.Taken.{cut_runs}
use Rattle.vdr_replay.specs.Headline.{AccountBy, RecordsAre}
use Rattle.vdr_replay.specs.Headline.RunEnd.{Broken, Closed}
use Rattle.vdr_replay.specs.Taking.{IsCut}
use Rattle.vdr_run.proofs.Given.{of_groups}

-- The records grow by what further items make.
abbrev Grows : List Record → List Record → Type 0
Grows before after = (new : List Record) × (after ≡ before ++ new)

took_grows : (start : RunStart) (r : Recorder) (c : Captured) (b : Bool) → Grows r.made (passed b start c (tick_with start r c) r (with_missed c.missed (r.pending c.group))).made
took_grows start r c true = (_, refl)
took_grows start r c false = ([], sym (append-nil r.made))

all_grow : (start : RunStart) (r : Recorder) (items : List Captured) → Grows r.made (taken_all start r items).made
all_grow start r [] = ([], sym (append-nil r.made))
all_grow start r (c ∷ cs) =
    let first = took_grows start r c (admits start r c) in
    let later = all_grow start (took start r c) cs in
    (first.0 ++ later.0, later.1 ∙ ap (λ (rs : List Record). rs ++ later.0) first.1 ∙ append_assoc r.made first.0 later.0)

more_grow : (start : RunStart) (items more : List Captured) → Grows (recorder_after start items).made (recorder_after start (items ++ more)).made
more_grow start items more =
    let all = all_grow start (recorder_after start items) more in
    (all.0, ap (λ (r : Recorder). r.made) (fold-append (took start) (begun start) items more) ∙ all.1)

module _ (start : RunStart) (feed : List FeedItem) (records : List Record) where
  pub cut_records : IsCut start feed records → RecordsAre Broken start feed records
  cut_records (inr is) = ([], sym is ∙ sym (append-nil records))
  cut_records (inl (items, more, split, is)) =
      let grown = more_grow start items more in
      let end = closing start (recorder_after start (taken_of [] feed)) (rest_after feed) in (
        grown.0 ++ end,
        is_replay start feed
            ∙ ap (λ (cs : List Captured). (recorder_after start cs).made ++ end) split
            ∙ ap (λ (rs : List Record). rs ++ end) (grown.1 ∙ ap (λ (rs : List Record). rs ++ grown.0) (sym is))
            ∙ append_assoc records grown.0 end,
      )

  module _ (admits_all : Admits start.limits) (low : All (λ i. i.group < 16) feed) where
    abbrev given : List Captured → Type 0
    given items = AllFeed items (rest_after feed) (λ g. items_of g feed)

    pub closed_accounts : records ≡ feed_records start feed → (g : ℕ) → AccountBy Closed start feed records g
    closed_accounts is g = subst (λ (rs : List Record). Accounts (start.limits g) (base_of start) rs g (items_of g feed)) (sym is) (feed_accounts start admits_all feed (of_groups feed low) g)

    pub cut_accounts : IsCut start feed records → (g : ℕ) → AccountBy Broken start feed records g
    cut_accounts (inr is) g = (items_of g feed, [], sym (append-nil (items_of g feed)), closed_accounts is g)
    cut_accounts (inl (items, more, split, is)) g =
        subst (λ (rs : List Record). AccountsPrefix (start.limits g) (base_of start) rs g (items_of g feed)) (sym is)
        (cut_runs start admits_all items more (rest_after feed) (λ g. items_of g feed) (subst given split (all_feed feed (of_groups feed low))) g)

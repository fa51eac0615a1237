-- What the rates of a configuration say of a feed's groups.
use Rattle.std.proofs.Common.{◌≡◌, ◌<◌, ℕ, List, [], length, true, false, Option, None, Some, is_some, slice_index_or, refl, sym, ap, ◌∙◌, subst, true≢false}
use Rattle.std.proofs.lemmas.List.{get_or_default}
use Rattle.vdr_terms.specs.declared.rate.Rate.{Rate}
use Rattle.vdr_terms.specs.Rates.{is_configured, limit_of}
use Rattle.vdr_terms.specs.Records.{FeedItem, Item, total}
use Rattle.vdr_core.specs.Feed.{items_of, counts_of}
use Rattle.vdr_core.specs.Replay.{rest_after, since_yes}
use Rattle.vdr_config.specs.Sizes.{limits_in}
use Rattle.vdr_run.proofs.Given.{all_but, none_in}
use Rattle.vdr_replay.specs.Feeding.{AreConfigured, HasRate}

pub none_strange : (rates : List (Option Rate)) (g : ℕ) (feed : List FeedItem) → AreConfigured rates feed → (HasRate rates g → ⊥) → items_of g feed ≡ []
none_strange rates g feed known strange = none_in g feed (all_but (λ i. HasRate rates i.group) g (λ x k e. strange (subst (HasRate rates) e k)) feed known)

-- A rate is there for the groups that are configured.
pub rated : (rates : List (Option Rate)) (g : ℕ) → HasRate rates g → is_configured (limits_in rates g) ≡ true
rated rates g h = go (slice_index_or rates g None) h
  where
    go : (o : Option Rate) → is_some o ≡ true → is_configured (limit_of o) ≡ true
    go None h = absurd (true≢false (sym h))
    go (Some rate) h = refl

pub unrated : (rates : List (Option Rate)) (g : ℕ) → is_configured (limits_in rates g) ≡ false → HasRate rates g → ⊥
unrated rates g h k = true≢false (sym (rated rates g k) ∙ h)

-- What a port of a group that isn't configured missed.
pub quiet_group : (rates : List (Option Rate)) (feed : List FeedItem) (g : ℕ) → AreConfigured rates feed → is_configured (limits_in rates g) ≡ false → total (rest_after feed g) ≡ 0
quiet_group rates feed g known off = ap (λ (items : List Item). total (counts_of (since_yes items))) (none_strange rates g feed known (unrated rates g off))

-- What the code finds at a group's number
pub none_there : (rates inside : List (Option Rate)) (g k : ℕ) (d : Option Rate) → inside ≡ rates → k ≡ g → k < length inside → is_some (slice_index_or inside k d) ≡ false → HasRate rates g → ⊥
none_there rates inside g k d same own within none rate =
    true≢false (sym rate ∙ ap (λ (rs : List (Option Rate)). is_some (slice_index_or rs g None)) (sym same)
    ∙ ap (λ (n : ℕ). is_some (slice_index_or inside n None)) (sym own) ∙ ap is_some (get_or_default inside k None d within) ∙ none)

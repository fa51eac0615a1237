-- By exclusion: what has no other cause is done, or there was no memory.
use Rattle.std.proofs.Common.{◌≡◌, ℕ, List, Option, Some, None, Ok, Err, refl, sym, ap, ◌∙◌}
use Rattle.vdr_terms.specs.Records.{FeedItem}
use Rattle.vdr_terms.specs.Rates.{Limit}
use Rattle.vdr_feed.specs.Feed.{IsFeed, IsRefused, longest_feed}
use Rattle.vdr_feed.specs.Reader.{IfKnown}
use Rattle.vdr_feed.specs.Law.{NoFeedIsRefused, OneRefusal}
use Rattle.vdr_review.specs.Review.{IfReviewed}
use Rattle.vdr_config.specs.Configuration.{Configuration}
use Rattle.vdr_config.specs.Grammar.{configuration}
use Rattle.vdr_tool.specs.Check.{IfChecked}
use Rattle.vdr_command.specs.Refusals.{RefusesConfig, number_of}
use Rattle.vdr_tool.specs.Checks.{ChecksAll, IsCheckStatus}
use Rattle.vdr_command.specs.Outside.{OutputSeen}
use Rattle.vdr_tool.specs.Reviews.{IsReviewStatus, ReviewsAll}
use Rattle.vdr_command.specs.StatusLine.{IfFeed}
use Rattle.vdr_command.specs.declared.status.Status.{Status}
use Rattle.vdr_command.specs.declared.status.Status.TheVariants.{Done, Words, Config, Small, Unformatted, Formatted, Damaged, MediaFault, PortFault, LinkFault, InputFault, OutputFault, NoMemory, Feed, NoChannel, NoIncident, SaveRefused, Place, Tick, ExportKind, ExportNothing, ExportMixed, ExportLong, ExportPart, Capture, NoEvidence, Missing}
use Rattle.vdr_tool.proofs.FormatLemmas.{same_refusal}

pub completes : (left : Option (List ℕ)) (status : Status) → IsReviewStatus status → NoFeedIsRefused → OneRefusal
    → (status ≡ InputFault → ⊥) → (status ≡ OutputFault → ⊥)
    → (status ≡ Done → IfKnown left (λ bytes. (items : List FeedItem) × IsFeed longest_feed bytes items))
    → IfFeed status (λ number offset. IfKnown left (λ bytes. IsRefused longest_feed bytes number offset))
    → IfKnown left (λ bytes. ReviewsAll bytes status)
completes None status own none one input output done feed = tt
completes (Some bytes) Done own none one input output done feed =
    let is : (items : List FeedItem) × IsFeed longest_feed bytes items = done refl in
    (λ items f. tt, λ number offset r. none longest_feed bytes is.0 number offset is.1 r)
completes (Some bytes) Words own none one input output done feed = absurd own
completes (Some bytes) (Config n) own none one input output done feed = absurd own
completes (Some bytes) (Small small) own none one input output done feed = absurd own
completes (Some bytes) Formatted own none one input output done feed = absurd own
completes (Some bytes) Unformatted own none one input output done feed = absurd own
completes (Some bytes) (Damaged m offset) own none one input output done feed = absurd own
completes (Some bytes) NoChannel own none one input output done feed = absurd own
completes (Some bytes) (NoIncident id) own none one input output done feed = absurd own
completes (Some bytes) Place own none one input output done feed = absurd own
completes (Some bytes) (PortFault group) own none one input output done feed = absurd own
completes (Some bytes) (LinkFault link) own none one input output done feed = absurd own
completes (Some bytes) (SaveRefused cause) own none one input output done feed = absurd own
completes (Some bytes) Tick own none one input output done feed = absurd own
completes (Some bytes) ExportKind own none one input output done feed = absurd own
completes (Some bytes) ExportNothing own none one input output done feed = absurd own
completes (Some bytes) (ExportMixed place) own none one input output done feed = absurd own
completes (Some bytes) ExportLong own none one input output done feed = absurd own
completes (Some bytes) (ExportPart number) own none one input output done feed = absurd own
completes (Some bytes) (Missing place) own none one input output done feed = absurd own
completes (Some bytes) (Capture number offset) own none one input output done feed = absurd own
completes (Some bytes) (NoEvidence named offset) own none one input output done feed = absurd own
completes (Some bytes) MediaFault own none one input output done feed = absurd own
completes (Some bytes) InputFault own none one input output done feed = absurd (input refl)
completes (Some bytes) OutputFault own none one input output done feed = absurd (output refl)
completes (Some bytes) NoMemory own none one input output done feed = (λ items f. tt, λ number offset r. tt)
completes (Some bytes) (Feed n at) own none one input output done feed =
    (λ items f. none longest_feed bytes items n at f feed, λ number offset r. one longest_feed bytes n at number offset feed r)

pub is_feed : (limit : Limit) (left : Option (List ℕ)) (P : List ℕ → Type 0) → IfReviewed limit left P → IfKnown left (λ bytes. (items : List FeedItem) × IsFeed longest_feed bytes items)
is_feed limit None P h = tt
is_feed limit (Some bytes) P h = (h.0, h.1)

pub checks_all : (left : Option (List ℕ)) (was next : OutputSeen) (status : Status) → IsCheckStatus status
    → (status ≡ InputFault → ⊥) → (status ≡ OutputFault → ⊥)
    → (status ≡ Done → IfKnown left (λ bytes. (c : Configuration) × (configuration bytes ≡ Ok c)))
    → RefusesConfig status left was next
    → IfKnown left (λ bytes. ChecksAll bytes status)
checks_all None was next status own input output done config = tt
checks_all (Some bytes) was next Done own input output done config =
    let is : (c : Configuration) × (configuration bytes ≡ Ok c) = done refl in
    (λ c e. tt, λ bad e. let clash : Ok is.0 ≡ Err bad = sym is.1 ∙ e in let none : ⊥ = cc in absurd none)
checks_all (Some bytes) was next Words own input output done config = absurd own
checks_all (Some bytes) was next (Small small) own input output done config = absurd own
checks_all (Some bytes) was next Formatted own input output done config = absurd own
checks_all (Some bytes) was next Unformatted own input output done config = absurd own
checks_all (Some bytes) was next (Damaged m offset) own input output done config = absurd own
checks_all (Some bytes) was next NoChannel own input output done config = absurd own
checks_all (Some bytes) was next (NoIncident id) own input output done config = absurd own
checks_all (Some bytes) was next Place own input output done config = absurd own
checks_all (Some bytes) was next (PortFault group) own input output done config = absurd own
checks_all (Some bytes) was next (LinkFault link) own input output done config = absurd own
checks_all (Some bytes) was next (SaveRefused cause) own input output done config = absurd own
checks_all (Some bytes) was next Tick own input output done config = absurd own
checks_all (Some bytes) was next ExportKind own input output done config = absurd own
checks_all (Some bytes) was next ExportNothing own input output done config = absurd own
checks_all (Some bytes) was next (ExportMixed place) own input output done config = absurd own
checks_all (Some bytes) was next ExportLong own input output done config = absurd own
checks_all (Some bytes) was next (ExportPart number) own input output done config = absurd own
checks_all (Some bytes) was next (Missing place) own input output done config = absurd own
checks_all (Some bytes) was next (Capture number offset) own input output done config = absurd own
checks_all (Some bytes) was next (NoEvidence named offset) own input output done config = absurd own
checks_all (Some bytes) was next MediaFault own input output done config = absurd own
checks_all (Some bytes) was next InputFault own input output done config = absurd (input refl)
checks_all (Some bytes) was next OutputFault own input output done config = absurd (output refl)
checks_all (Some bytes) was next NoMemory own input output done config = (λ c e. tt, λ bad e. tt)
checks_all (Some bytes) was next (Feed n at) own input output done config = absurd own
checks_all (Some bytes) was next (Config n) own input output done config = (
  λ c e. let clash : Ok c ≡ Err config.0 = sym e ∙ config.2 in let none : ⊥ = cc in absurd none,
  λ bad e. sym config.1 ∙ ap number_of (same_refusal (configuration bytes) config.0 bad config.2 e),
)

pub is_configuration : (left : Option (List ℕ)) (P : List ℕ → Type 0) → IfChecked left P → IfKnown left (λ bytes. (c : Configuration) × (configuration bytes ≡ Ok c))
is_configuration None P h = tt
is_configuration (Some bytes) P h = (h.0, h.1)

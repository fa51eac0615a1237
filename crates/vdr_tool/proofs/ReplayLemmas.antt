-- By exclusion: a feed that may be recorded is, and what may not is refused by its own refusal.
use Rattle.std.specs.Prelude.{OnOk}
use Rattle.std.specs.Io.KnownBytes.{Appends}
use Rattle.std.proofs.Common.{◌≡◌, ◌≤◌, ◌<◌, ◌^◌, ◌∷◌, ◌++◌, inl, inr, ℕ, List, [], take, Option, None, Some, Result, Ok, Err, refl, sym, ap, subst, ◌∙◌, arith}
use Rattle.vdr_terms.specs.Records.{FeedItem}
use Rattle.vdr_terms.specs.declared.rate.Rate.{Rate}
use Rattle.vdr_core.specs.Runs.{base_after}
use Rattle.vdr_outside.specs.Causes.{HasCause}
use Rattle.vdr_outside.specs.Disk.{Image}
use Rattle.vdr_outside.specs.Writes.{AppendsFront}
use Rattle.vdr_feed.specs.Feed.{feed_header, longest_feed}
use Rattle.vdr_feed.specs.Reader.{IfKnown}
use Rattle.vdr_feed.proofs.Unique.{begins as has_header}
use Rattle.vdr_media.specs.Formatted.{IsFormatted, IsUnformatted}
use Rattle.vdr_opening.specs.Media.{Contents, HoldsContents, HoldsParts, opening_of, parts_of}
use Rattle.vdr_opening.specs.Refusals.{IsRefused}
use Rattle.vdr_config.specs.Configuration.{Configuration}
use Rattle.vdr_replay.specs.Answers.{Decides, IfOpened, TellsHeader}
use Rattle.vdr_replay.specs.Feeding.{AreConfigured, ReadsFeed, RefusesNext}
use Rattle.vdr_replay.specs.declared.ended.FeedEnd.{FeedEnd}
use Rattle.vdr_replay.specs.declared.ended.FeedEnd.TheVariants as ends
use Rattle.vdr_replay.specs.declared.ended.Replayed.{Replayed}
use Rattle.vdr_replay.specs.declared.ended.ReplayRefused.{ReplayRefused}
use Rattle.vdr_replay.specs.declared.ended.ReplayRefused.TheVariants as stops
use Rattle.vdr_command.specs.Endings.{IsDone, IsRefusal}
use Rattle.vdr_command.specs.Opened.{IsOpenableWith, OneAnswer}
use Rattle.vdr_command.specs.Outside.{MediaFailed, MediaSeen, OutputSeen}
use Rattle.vdr_command.specs.StatusLine.{Wrote}
use Rattle.vdr_recorder.specs.Refusals.{MayBegin}
use Rattle.vdr_tool.specs.Summaries.{summary_text}
use Rattle.vdr_recorder.specs.Watched.{Watched}
use Rattle.vdr_tool.specs.Replays.{PrintsRun, ReplayEnds, ReplaysAll, TellsRun}
use Rattle.vdr_command.specs.Statuses.{status_of_replay}
use Rattle.vdr_command.specs.declared.status.Status.{Status}
use Rattle.vdr_command.specs.declared.status.Status.TheVariants.{Done, MediaFault, InputFault, OutputFault, Feed}
use Rattle.vdr_tool.proofs.FeedLemmas.{not_refused, one_refusal}
use Rattle.vdr_vault.proofs.OpenMoments.{never_both}
use Rattle.vdr_command.proofs.OpenedCompleteness.{damaged_alike, last_read, place_read}

-- A feed that is refused behind its header has one.
reads_header : (rates : List (Option Rate)) (bytes : List ℕ) (number offset : ℕ) (items : List FeedItem) → RefusesNext rates bytes number offset items → take 8 bytes ≡ feed_header
reads_header rates bytes number offset items (inl fault) = has_header longest_feed bytes items fault.0 fault.1.front
reads_header rates bytes number offset items (inr group) = has_header longest_feed bytes (items ++ group.next ∷ []) group.rest group.legal

-- Where the feed was read to its end.
whole_is_done : (was next : OutputSeen) (summary : List ℕ) (status : Status) → (status ≡ OutputFault → ⊥) → PrintsRun ends.Whole summary status was next → status ≡ Done
whole_is_done was next summary status output (inl done) = done.0
whole_is_done was next summary status output (inr failed) = absurd (output failed.0)

is_done_as : (status : Status) → status ≡ Done → IsDone status
is_done_as status is = subst IsDone (sym is) tt

is_refused_as : (status : Status) (number offset other at : ℕ) → status ≡ Feed other at → (number ≡ other) × (offset ≡ at) → IsRefusal number offset status
is_refused_as status number offset other at is same = subst (IsRefusal number offset) (sym is) (sym same.0, sym same.1)

-- The tick that a run begins with is so much.
base_read : (image : Image) → OneAnswer image → (x y : Contents) → HoldsParts image x → HoldsContents image y → base_after (opening_of x).last ≡ base_after (opening_of y).last
base_read image law x y hx hy = ap base_after (last_read image law x y hx hy)

may_too : (image : Image) → OneAnswer image → (x y : Contents) → HoldsParts image x → HoldsContents image y → MayBegin (opening_of x) → MayBegin (opening_of y)
may_too image law x y hx hy may = record {
  place = subst (λ (n : ℕ). n < 2 ^ 62) (place_read image law x y hx hy) may.place;
  base = subst (λ (n : ℕ). n < 2 ^ 62) (base_read image law x y hx hy) may.base;
}

-- All that may be said of a status by its answer, in one place: what `replay` ends with where no object outside fails.
module _ {tells tells_images : Type 0} (bytes : List ℕ) (now : Option (List ℕ)) (old new : MediaSeen tells tells_images) (was next : OutputSeen)
    (told : tells) (law : OneAnswer old.disk.reads) where
  abbrev Opened : Result Replayed ReplayRefused → Type 0
  Opened answer = IsOpenableWith old.disk.reads (λ x. Decides x (Some bytes) now answer)

  no_place : (n : ℕ) → 2 ^ 62 ≤ n → n < 2 ^ 62 → ⊥
  no_place n high low = omega (arith, high, low)

  closed : (status : Status) (run : Replayed) → (status ≡ InputFault → ⊥) → (status ≡ OutputFault → ⊥) → take 8 bytes ≡ feed_header → Opened (Ok run)
      → (end : FeedEnd) → run.end ≡ end → (summary : List ℕ) → PrintsRun end summary status was next → ReplaysAll bytes old.disk.reads status
  closed status run input output header (formatted, y, hy, my, decides) ends.Whole is summary prints =
      let may = decides.0 in
      let feed = decides.1.0 in
      let read = decides.1.1 in
      let configured = decides.1.2 in
      let done = whole_is_done was next summary status output prints in
      record {
        header = λ other. absurd (other header);
        unformatted = λ h un. absurd (never_both old.disk.reads formatted un);
        damaged = λ h f m offset r. absurd (law.opens y m offset hy my r);
        place = λ x h holds meet high. absurd (no_place (opening_of x).next_place high (may_too old.disk.reads law y x hy holds may).place);
        tick = λ x h holds meet low high. absurd (no_place (base_after (opening_of x).last) high (may_too old.disk.reads law y x hy holds may).base);
        refused = λ x items number offset holds meet begins reads known.
            let same = law.config y (parts_of x) hy (law.parts x holds) in
            absurd (not_refused x.config.groups bytes number offset feed items (subst (λ (c : Configuration). AreConfigured c.groups feed) same configured) known
            (subst (λ (e : FeedEnd). ReadsFeed x.config.groups bytes now e feed) is (subst (λ (c : Configuration). ReadsFeed c.groups bytes now run.end feed) same read)) reads);
        done = λ x items holds meet begins whole known. is_done_as status done;
      }
  closed status run input output header opened ends.Input is summary prints = absurd (input prints.0)
  closed status run input output header (formatted, y, hy, my, decides) (ends.Refused other at) is summary prints =
      let may = decides.0 in
      let feed = decides.1.0 in
      let read = decides.1.1 in
      let configured = decides.1.2 in
      record {
        header = λ no. absurd (no header);
        unformatted = λ h un. absurd (never_both old.disk.reads formatted un);
        damaged = λ h f m offset r. absurd (law.opens y m offset hy my r);
        place = λ x h holds meet high. absurd (no_place (opening_of x).next_place high (may_too old.disk.reads law y x hy holds may).place);
        tick = λ x h holds meet low high. absurd (no_place (base_after (opening_of x).last) high (may_too old.disk.reads law y x hy holds may).base);
        refused = λ x items number offset holds meet begins reads known.
            let same = law.config y (parts_of x) hy (law.parts x holds) in
            is_refused_as status number offset other at prints.0
            (one_refusal x.config.groups bytes number offset other at items feed known (subst (λ (c : Configuration). AreConfigured c.groups feed) same configured) reads
            (subst (λ (e : FeedEnd). ReadsFeed x.config.groups bytes now e feed) is (subst (λ (c : Configuration). ReadsFeed c.groups bytes now run.end feed) same read)));
        done = λ x items holds meet begins whole known.
            let same = law.config y (parts_of x) hy (law.parts x holds) in
            absurd (not_refused x.config.groups bytes other at items feed known (subst (λ (c : Configuration). AreConfigured c.groups feed) same configured) whole
            (subst (λ (e : FeedEnd). ReadsFeed x.config.groups bytes now e feed) is (subst (λ (c : Configuration). ReadsFeed c.groups bytes now run.end feed) same read)));
      }

  stopped : (stop : ReplayRefused) → (status_of_replay stop ≡ InputFault → ⊥) → (status_of_replay stop ≡ MediaFault → ⊥) → TellsHeader (Some bytes) now (Err stop) → IfOpened (Err stop) (Opened (Err stop))
      → (◌≡◌ {A = Result Replayed ReplayRefused} (Err stop) (Err stops.NotFormatted) → tells → IsUnformatted old.disk.reads)
      → ((m offset : ℕ) → ◌≡◌ {A = Result Replayed ReplayRefused} (Err stop) (Err (stops.Damaged m offset)) → tells → IsFormatted old.disk.reads × IsRefused old.disk.reads m offset)
      → ReplaysAll bytes old.disk.reads (status_of_replay stop)
  stopped stops.NoMemory input media header opened unformatted damaged = record {
    header = λ no. absurd (no header);
    unformatted = λ h un. inr refl;
    damaged = λ h f m offset r. inr refl;
    place = λ x h holds meet high. inr refl;
    tick = λ x h holds meet low high. inr refl;
    refused = λ x feed number offset holds meet may reads known. tt;
    done = λ x feed holds meet may whole known. tt;
  }
  stopped stops.Input input media header opened unformatted damaged = absurd (input refl)
  stopped stops.Media input media header opened unformatted damaged = absurd (media refl)
  stopped (stops.Refused number offset) input media header opened unformatted damaged = record {
    header = λ no. (header.0, header.1);
    unformatted = λ h un. absurd (header.2 h);
    damaged = λ h f m offset r. absurd (header.2 h);
    place = λ x h holds meet high. absurd (header.2 h);
    tick = λ x h holds meet low high. absurd (header.2 h);
    refused = λ x feed n at holds meet may reads known. absurd (header.2 (reads_header x.config.groups bytes n at feed reads));
    done = λ x feed holds meet may whole known. absurd (header.2 (has_header longest_feed bytes feed [] whole));
  }
  stopped stops.NotFormatted input media header opened unformatted damaged =
      let un = unformatted refl told in
      record {
        header = λ no. absurd (no header);
        unformatted = λ h un. inl refl;
        damaged = λ h f m offset r. absurd (never_both old.disk.reads f un);
        place = λ x h holds meet high. absurd (law.formatted x holds un);
        tick = λ x h holds meet low high. absurd (law.formatted x holds un);
        refused = λ x feed n at holds meet may reads known. absurd (law.formatted x holds un);
        done = λ x feed holds meet may whole known. absurd (law.formatted x holds un);
      }
  stopped (stops.Damaged k at) input media header opened unformatted damaged =
      let r = damaged k at refl told in
      record {
        header = λ no. absurd (no header);
        unformatted = λ h un. absurd (never_both old.disk.reads r.0 un);
        damaged = λ h f m offset also. inl (damaged_alike k at m offset (law.one k at m offset r.1 also));
        place = λ x h holds meet high. absurd (law.either x k at holds meet r.1);
        tick = λ x h holds meet low high. absurd (law.either x k at holds meet r.1);
        refused = λ x feed n other holds meet may reads known. absurd (law.either x k at holds meet r.1);
        done = λ x feed holds meet may whole known. absurd (law.either x k at holds meet r.1);
      }
  stopped stops.Place input media header (formatted, y, hy, my, high) unformatted damaged = record {
    header = λ no. absurd (no header);
    unformatted = λ h un. absurd (never_both old.disk.reads formatted un);
    damaged = λ h f m offset r. absurd (law.opens y m offset hy my r);
    place = λ x h holds meet also. inl refl;
    tick = λ x h holds meet low also. absurd (no_place (opening_of x).next_place (too_high x holds) low);
    refused = λ x feed n at holds meet may reads known. absurd (no_place (opening_of x).next_place (too_high x holds) may.place);
    done = λ x feed holds meet may whole known. absurd (no_place (opening_of x).next_place (too_high x holds) may.place);
  }
    where
      too_high : (x : Contents) → HoldsContents old.disk.reads x → 2 ^ 62 ≤ (opening_of x).next_place
      too_high x holds = subst (λ (n : ℕ). 2 ^ 62 ≤ n) (place_read old.disk.reads law y x hy holds) high
  stopped stops.Tick input media header (formatted, y, hy, my, decides) unformatted damaged = record {
    header = λ no. absurd (no header);
    unformatted = λ h un. absurd (never_both old.disk.reads formatted un);
    damaged = λ h f m offset r. absurd (law.opens y m offset hy my r);
    place = λ x h holds meet also. absurd (no_place (opening_of x).next_place also (subst (λ (n : ℕ). n < 2 ^ 62) (place_read old.disk.reads law y x hy holds) decides.0));
    tick = λ x h holds meet below also. inl refl;
    refused = λ x feed n at holds meet may reads known. absurd (no_place (base_after (opening_of x).last) (too_late x holds) may.base);
    done = λ x feed holds meet may whole known. absurd (no_place (base_after (opening_of x).last) (too_late x holds) may.base);
  }
    where
      too_late : (x : Contents) → HoldsContents old.disk.reads x → 2 ^ 62 ≤ base_after (opening_of x).last
      too_late x holds = subst (λ (n : ℕ). 2 ^ 62 ≤ n) (base_read old.disk.reads law y x hy holds) decides.1

  by_answer : (status : Status) (answer : Result Replayed ReplayRefused) → (status ≡ InputFault → ⊥) → (status ≡ OutputFault → ⊥) → (status ≡ MediaFault → ⊥)
      → TellsRun answer status was next → TellsHeader (Some bytes) now answer → IfOpened answer (Opened answer)
      → (answer ≡ Err stops.NotFormatted → tells → IsUnformatted old.disk.reads)
      → ((m offset : ℕ) → answer ≡ Err (stops.Damaged m offset) → tells → IsFormatted old.disk.reads × IsRefused old.disk.reads m offset)
      → ReplaysAll bytes old.disk.reads status
  by_answer status (Ok run) input output media prints header opened unformatted damaged = closed status run input output header opened run.end refl _ prints
  by_answer status (Err stop) input output media prints header opened unformatted damaged =
      subst (λ (s : Status). ReplaysAll bytes old.disk.reads s) (sym prints.0)
      (stopped stop (λ is. input (prints.0 ∙ is)) (λ is. media (prints.0 ∙ is)) header opened unformatted damaged)

  pub replays_all : (hears : Type 0) (w : Watched) (status : Status) (answer : Result Replayed ReplayRefused) → (status ≡ InputFault → ⊥) → (status ≡ OutputFault → ⊥) → (status ≡ MediaFault → ⊥)
      → TellsRun answer status was next → ReplayEnds (Some bytes) now old new hears w answer → ReplaysAll bytes old.disk.reads status
  replays_all hears w status answer input output media tells_it ends =
      by_answer status answer input output media tells_it ends.header (ends.openable told) ends.unformatted ends.damaged

-- The media's fault has its cause.
stop_at_fault : (stop : ReplayRefused) → status_of_replay stop ≡ MediaFault → ◌≡◌ {A = Result Replayed ReplayRefused} (Err stop) (Err stops.Media)
stop_at_fault stops.NoMemory is = let none : ⊥ = cc in absurd none
stop_at_fault stops.Input is = let none : ⊥ = cc in absurd none
stop_at_fault (stops.Refused number offset) is = let none : ⊥ = cc in absurd none
stop_at_fault stops.NotFormatted is = let none : ⊥ = cc in absurd none
stop_at_fault (stops.Damaged m offset) is = let none : ⊥ = cc in absurd none
stop_at_fault stops.Place is = let none : ⊥ = cc in absurd none
stop_at_fault stops.Tick is = let none : ⊥ = cc in absurd none
stop_at_fault stops.Media is = refl

no_media_fault : (was next : OutputSeen) (end : FeedEnd) (summary : List ℕ) (status : Status) → PrintsRun end summary status was next → status ≡ MediaFault → ⊥
no_media_fault was next ends.Whole summary status (inl done) is = let clash : Done ≡ MediaFault = sym done.0 ∙ is in cc
no_media_fault was next ends.Whole summary status (inr failed) is = let clash : OutputFault ≡ MediaFault = sym failed.0 ∙ is in cc
no_media_fault was next ends.Input summary status prints is = let clash : InputFault ≡ MediaFault = sym prints.0 ∙ is in cc
no_media_fault was next (ends.Refused number offset) summary status prints is = let clash : Feed number offset ≡ MediaFault = sym prints.0 ∙ is in cc

fault_of_answer : (was next : OutputSeen) (answer : Result Replayed ReplayRefused) (status : Status) → TellsRun answer status was next → status ≡ MediaFault → answer ≡ Err stops.Media
fault_of_answer was next (Ok run) status prints is = absurd (no_media_fault was next run.end (summary_text run.groups run.records) status prints is)
fault_of_answer was next (Err stop) status prints is = stop_at_fault stop (sym prints.0 ∙ is)

pub replay_fault : {tells tells_images : Type 0} (left now : Option (List ℕ)) (old new : MediaSeen tells tells_images) (hears : Type 0) (w : Watched) (was next : OutputSeen) (status : Status) (answer : Result Replayed ReplayRefused)
    → TellsRun answer status was next → ReplayEnds left now old new hears w answer → status ≡ MediaFault → MediaFailed old new
replay_fault left now old new hears w was next status answer told ends is = ends.cause.in_all (fault_of_answer was next answer status told is)

-- What a print has written.
pub wrote_of : {T E : Type 0} (r : Result T E) (text : List ℕ) (old new : Option (List ℕ)) (before now : ℕ) → OnOk r (Appends old new text) → AppendsFront old new text → HasCause before now r
    → Wrote text old new before now
wrote_of (Ok x) text old new before now all front cause = record { front = front; all = inl all; later = cause.later }
wrote_of (Err e) text old new before now all front cause = record { front = front; all = inr cause.failed; later = cause.later }

pub replays_known : {tells tells_images : Type 0} (left now : Option (List ℕ)) (old new : MediaSeen tells tells_images) (hears : Type 0) (w : Watched) (was next : OutputSeen) → OneAnswer old.disk.reads → (status : Status) (answer : Result Replayed ReplayRefused)
    → (status ≡ InputFault → ⊥) → (status ≡ OutputFault → ⊥) → (status ≡ MediaFault → ⊥) → TellsRun answer status was next → ReplayEnds left now old new hears w answer
    → IfKnown left (λ bytes. tells → ReplaysAll bytes old.disk.reads status)
replays_known None now old new hears w was next law status answer input output media told_it ends = tt
replays_known (Some bytes) now old new hears w was next law status answer input output media told_it ends = λ told. replays_all bytes now old new was next told law hears w status answer input output media told_it ends

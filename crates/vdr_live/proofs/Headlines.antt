-- A session on media that were opened, in the words of the headline.
use Rattle.std.proofs.Common.{◌≡◌, ◌≤◌, ◌<◌, ◌+◌, ◌++◌, ◌&&◌, inl, inr, ⊎_elim, ℕ, true, true≢false, List, [], get_or, is_some, Option, Some, None, Ok, refl, sym, ap, ◌∙◌, subst}
use Rattle.vdr_terms.specs.declared.counts.Counts.{Counts}
use Rattle.vdr_terms.specs.declared.rate.Rate.{Rate}
use Rattle.vdr_terms.specs.Records.{Item, Record}
use Rattle.vdr_core.specs.Histories.{Event, recorded}
use Rattle.vdr_core.specs.Runs.{RunStart}
use Rattle.vdr_core.specs.Sums.{missed_in, recorded_in}
use Rattle.vdr_core.specs.Taken.{AllFeed, Captured}
use Rattle.vdr_outside.specs.Causes.{Rose}
use Rattle.vdr_outside.specs.Disk.{Disk}
use Rattle.vdr_config.specs.Grammar.{configuration}
use Rattle.vdr_intake.specs.Ends.{QueueId, Taking}
use Rattle.vdr_opening.specs.Media.{Contents, opening_of}
use Rattle.vdr_vault.specs.Regularity.{AreSound}
use Rattle.vdr_recorder.specs.Recordings.{HasRecorded, Passes, RecorderState, start_of_opening}
use Rattle.vdr_capture.specs.declared.sums.Outcome.{Outcome}
use Rattle.vdr_capture.specs.declared.sums.Outcome.TheVariants.{Done, NoMemory, Place, Tick, MediaFault, PortFault, LinkFault}
use Rattle.vdr_session.specs.Sessions.{HasGroups, KeepsSession, RecordsSession, has_groups, is_closed}
use Rattle.vdr_session.specs.declared.session.SessionEnd.{SessionEnd}
use Rattle.vdr_recorder.specs.Headline.{IsHeard}
use Rattle.vdr_recorder.specs.Watched.{Watched}
use Rattle.vdr_recorder.proofs.Headlines.{after_opening, order_after}
use Rattle.vdr_recorder.proofs.Playing.{plays}
use Rattle.vdr_live.specs.Headline.{AccountsForSession, SessionHeadline}
use Rattle.vdr_live.specs.Links.{AreReplied, LinkSeen}

-- Of a run that was closed there are sums and queues.
closed_has : (outcome : Outcome) → is_closed outcome ≡ true → has_groups outcome ≡ true
closed_has Done closed = refl
closed_has NoMemory closed = absurd (true≢false (sym closed))
closed_has Place closed = absurd (true≢false (sym closed))
closed_has Tick closed = absurd (true≢false (sym closed))
closed_has MediaFault closed = absurd (true≢false (sym closed))
closed_has (PortFault g) closed = refl
closed_has (LinkFault i) closed = refl

full_held : (start : RunStart) (rates : List (Option Rate)) (capacity : ℕ) (given : ℕ → List Item) (rest : ℕ → Counts) (items lost : List Captured) (end : SessionEnd) (run : List Record)
    → RecordsSession start rates capacity given rest items lost end run → HasGroups rates end → is_closed end.outcome ≡ true → (g : ℕ) → g < 16 → is_some (get_or rates g None) ≡ true
    → 0 < (missed_in g run).full → capacity ≤ recorded_in g run + (missed_in g run).rate
full_held start rates capacity given rest items lost end run s groups closed g small known some =
    at (get_or end.intakes g None) refl (groups.intakes g small ∙ (λ i. closed_has end.outcome closed i && known i))
  where
    at : (o : Option (QueueId × Taking)) → get_or end.intakes g None ≡ o → is_some (get_or end.intakes g None) ≡ true → capacity ≤ recorded_in g run + (missed_in g run).rate
    at None is there = absurd (true≢false (sym there ∙ ap (λ (o : Option (QueueId × Taking)). is_some o) is))
    at (Some intake) is there =
        let f = s.full closed g intake small is in
        f.held (subst (λ (n : ℕ). 0 < n) f.full some)

module _ {tells tells_images : Type 0} (x : Contents) (reads : configuration x.text ≡ Ok x.config) (sound : AreSound x) (was now : ℕ) (t0 : ℕ) (r : RecorderState)
    (old mid new : Disk tells tells_images) (opened : HasRecorded (opening_of x) [] t0 r mid) (passes : Passes (opening_of x) [] old mid) (entry : old.clock ≤ t0) (exit : t0 ≤ mid.clock)
    (hears : Type 0) (w : Watched) where
  pub headline : (given : ℕ → List Item) (rest : ℕ → Counts) (items lost : List Captured) → AllFeed (items ++ lost) rest given → (end : SessionEnd) (events : List Event)
      → KeepsSession (opening_of x) t0 end.outcome mid new events
      → RecordsSession (start_of_opening (opening_of x)) x.config.groups x.config.queue given rest items lost end (recorded events) → HasGroups x.config.groups end
      → (end.outcome ≡ MediaFault → Rose was now) → (turns : ℕ) (links_old links_new : List LinkSeen) → AreReplied turns x.config.channels was now end.outcome (opening_of x) events links_old links_new
      → (hears → IsHeard (opening_of x) events t0 old w) → SessionHeadline x was now given turns links_old links_new end old new hears w
  headline given rest items lost feed end events k s groups risen turns links_old links_new replies heard =
      after_opening x reads (AccountsForSession x was now given turns links_old links_new end new) ((end.outcome ≡ MediaFault) × Rose was now) old hears w t0 mid new passes entry exit events
      (order_after x sound t0 r mid opened events k.made) k.history k.kept k.rises k.passes (⊎_elim (λ whole. inl whole) (λ is. inr (is, risen is)) k.pending)
      (record {
        means = k.means;
        items = items;
        lost = lost;
        rest = rest;
        feed = feed;
        records = s;
        full = full_held (start_of_opening (opening_of x)) x.config.groups x.config.queue given rest items lost end (recorded events) s groups;
        replies = replies;
        reads = λ told closed. plays x reads events (order_after x sound t0 r mid opened events k.made) new.reads (k.reads closed told);
      }) heard

-- Where all is there that a command asks for, it is done.
use Rattle.std.proofs.Common.{◌≡◌, ◌∙◌, ◌⊎◌, ◌<◌, inl, inr, ℕ, zero, suc, Bool, List, Option, Result, Ok, Err, sym, ap, subst, arith}
use Rattle.vdr_config.specs.Sizes.{window_of}
use Rattle.vdr_outside.specs.Disk.{content}
use Rattle.vdr_outside.specs.declared.fault.PartRefused.TheVariants as parts
use Rattle.vdr_compare.specs.Comparisons.{comparison_verdict, windows_of}
use Rattle.vdr_compare.specs.Media.{ComparesMedia}
use Rattle.vdr_compare.specs.Standings.{standings}
use Rattle.vdr_compare.specs.declared.comparing.CompareRefused.TheVariants as compares
use Rattle.vdr_compare.specs.declared.difference.Verdict.{Verdict}
use Rattle.vdr_compare.specs.declared.difference.Verdict.TheVariants.{Same}
use Rattle.vdr_compare.specs.declared.media.MediaRefused.{MediaRefused}
use Rattle.vdr_compare.specs.declared.media.MediaRefused.TheVariants.{Opening, Comparing}
use Rattle.vdr_rescue.specs.Alones.{RefusesAlone, Rescue, Rescued}
use Rattle.vdr_readout.specs.Compares.{ComparesBoth, status_of_comparison}
use Rattle.vdr_feed.specs.Reader.{IfKnown}
use Rattle.vdr_recorder.specs.Watched.{Watched}
use Rattle.vdr_rescue.specs.Findings.{found_in}
use Rattle.vdr_rescue.specs.declared.found.Found.{Found}
use Rattle.vdr_rescue.specs.declared.found.Found.TheVariants as found
use Rattle.vdr_command.specs.Endings.{IsDone}
use Rattle.vdr_command.specs.Outside.{NothingFailed, Outside}
use Rattle.vdr_command.specs.declared.status.Status.{Status}
use Rattle.vdr_command.specs.declared.status.Status.TheVariants.{Done, NoMemory}
use Rattle.vdr_readout.specs.Readings.{OwesReading, Reading, RescuesReading, asked_in}
use Rattle.vdr_readout.specs.Readings.Reading.{Play, Values, Track, Sources, Watch, Runs, Digest, Targets, Wav, TimedWav, Picture, Pictures}
use Rattle.vdr_readout.specs.Reads.{number_asked}
use Rattle.vdr_readout.specs.Rescues.{status_found}
use Rattle.vdr_readout.specs.Sources.{whole_of}
use Rattle.vdr_tool.specs.Captures.{CapturesAll}
use Rattle.vdr_tool.specs.Checks.{ChecksAll}
use Rattle.vdr_tool.specs.Commands.{Asked}
use Rattle.vdr_tool.specs.Commands.Asked.{Review, Check, Format, Replay, Read, Evidence, Page, Incidents, Info, Save, Release, Trial, Import, Packets, Verify, Rescue as Rescuing, RescueInfo, Compare}
use Rattle.vdr_tool.specs.Formats.{FormatsAll}
use Rattle.vdr_tool.specs.Permits.{AreComparedSame, Permits}
use Rattle.vdr_tool.specs.Replays.{ReplaysAll}
use Rattle.vdr_tool.specs.Reviews.{ReviewsAll}
use Rattle.vdr_tool.specs.Runs.{page}
use Rattle.vdr_tool.specs.Verifying.{VerifiesAll}

done_by : (status : Status) → (status ≡ Done) ⊎ (status ≡ NoMemory) → IsDone status
done_by status (inl is) = subst IsDone (sym is) tt
done_by status (inr is) = subst IsDone (sym is) tt

-- Nothing is missing or damaged.
found_done : (status : Status) (m : ℕ) (f : Found) → f ≡ found.Whole → (status ≡ status_found m f) ⊎ (status ≡ NoMemory) → IsDone status
found_done status m f whole (inl is) = done_by status (inl (is ∙ ap (status_found m) whole))
found_done status m f whole (inr is) = done_by status (inr is)

-- A medium that gives something is not refused.
gives_or_refuses : (m offset : ℕ) (bytes : List ℕ) (x : Rescue) → Rescued m bytes x → RefusesAlone m bytes offset → ⊥
gives_or_refuses m offset bytes x gives (inl (other, at)) = other gives.kind
gives_or_refuses m offset bytes x gives (inr (kind, none, at)) = none x.config gives.config

module _ {tells tells_images : Type 0} (old new : Outside tells tells_images) (status : Status) where
  -- What may be read out is.
  reading_done : (reading : Reading) → OwesReading reading old new status → NothingFailed old new → Permits old (Read reading) → IsDone status
  reading_done (Play asked) owed none p = (owed.complete none p.told).done p.contents p.holds p.meet p.has.0 p.has.1
  reading_done (Values asked) owed none p = (owed.complete none p.told).done p.contents p.holds p.meet p.has.0 p.has.1
  reading_done (Track asked source) owed none p = (owed.complete none p.told).done p.contents p.holds p.meet p.has.0 p.has.1
  reading_done (Sources medium) owed none p = (owed.complete none p.told).done p.contents p.holds p.meet p.has.0 p.has.1
  reading_done (Watch medium) owed none p = (owed.complete none p.told).done p.contents p.holds p.meet p.has.0 p.has.1
  reading_done (Runs medium) owed none p = (owed.complete none p.told).done p.contents p.holds p.meet p.has.0 p.has.1
  reading_done (Digest medium) owed none p = (owed.complete none p.told).done p.contents p.holds p.meet p.has.0 p.has.1
  reading_done (Targets medium at) owed none p = (owed.complete none p.told).done p.contents p.holds p.meet p.has.0 p.has.1
  reading_done (Wav asked) owed none p = (owed.complete none p.told).done p.contents p.has.2.0 p.has.2.1 p.holds p.meet p.has.0 p.has.1 p.has.2.2 p.has.2.3
  reading_done (TimedWav asked) owed none p = (owed.complete none p.told).done p.contents p.has.2.0 p.has.2.1 p.holds p.meet p.has.0 p.has.1 p.has.2.2 p.has.2.3
  reading_done (Picture asked block) owed none p = (owed.complete none p.told).done p.contents p.has.2.0 p.has.2.1 p.holds p.meet p.has.0 p.has.1 p.has.2.2 p.has.2.3
  reading_done (Pictures asked) owed none p = (owed.complete none p.told).done p.contents p.has.2.0 p.has.2.1 p.holds p.meet p.has.0 p.has.1 p.has.2.2 p.has.2.3

  rescue_done : (reading : Reading) → RescuesReading reading old new status → NothingFailed old new → Permits old (Rescuing reading) → IsDone status
  rescue_done (Play asked) owed none p = found_done status (number_asked (asked_in (Play asked))) (found_in p.gives.findings) p.has.1 ((owed.complete none p.told).done p.gives p.rescued p.has.0)
  rescue_done (Values asked) owed none p = found_done status (number_asked (asked_in (Values asked))) (found_in p.gives.findings) p.has.1 ((owed.complete none p.told).done p.gives p.rescued p.has.0)
  rescue_done (Track asked source) owed none p = found_done status (number_asked (asked_in (Track asked source))) (found_in p.gives.findings) p.has.1 ((owed.complete none p.told).done p.gives p.rescued p.has.0)
  rescue_done (Sources medium) owed none p = found_done status (number_asked (asked_in (Sources medium))) (found_in p.gives.findings) p.has.1 ((owed.complete none p.told).done p.gives p.rescued p.has.0)
  rescue_done (Watch medium) owed none p = found_done status (number_asked (asked_in (Watch medium))) (found_in p.gives.findings) p.has.1 ((owed.complete none p.told).done p.gives p.rescued p.has.0)
  rescue_done (Runs medium) owed none p = found_done status (number_asked (asked_in (Runs medium))) (found_in p.gives.findings) p.has.1 ((owed.complete none p.told).done p.gives p.rescued p.has.0)
  rescue_done (Digest medium) owed none p = found_done status (number_asked (asked_in (Digest medium))) (found_in p.gives.findings) p.has.1 ((owed.complete none p.told).done p.gives p.rescued p.has.0)
  rescue_done (Targets medium at) owed none p = found_done status (number_asked (asked_in (Targets medium at))) (found_in p.gives.findings) p.has.1 ((owed.complete none p.told).done p.gives p.rescued p.has.0)
  rescue_done (Wav asked) owed none p = found_done status (number_asked (asked_in (Wav asked))) (found_in p.gives.findings) p.has.1 ((owed.complete none p.told).done p.gives p.has.2.0 p.has.2.1 p.rescued p.has.0 p.has.2.2 p.has.2.3)
  rescue_done (TimedWav asked) owed none p = found_done status (number_asked (asked_in (TimedWav asked))) (found_in p.gives.findings) p.has.1 ((owed.complete none p.told).done p.gives p.has.2.0 p.has.2.1 p.rescued p.has.0 p.has.2.2 p.has.2.3)
  rescue_done (Picture asked block) owed none p = found_done status (number_asked (asked_in (Picture asked block))) (found_in p.gives.findings) p.has.1 ((owed.complete none p.told).done p.gives p.has.2.0 p.has.2.1 p.rescued p.has.0 p.has.2.2 p.has.2.3)
  rescue_done (Pictures asked) owed none p = found_done status (number_asked (asked_in (Pictures asked))) (found_in p.gives.findings) p.has.1 ((owed.complete none p.told).done p.gives p.has.2.0 p.has.2.1 p.rescued p.has.0 p.has.2.2 p.has.2.3)

  -- What their comparison comes to, where their texts are alike or not.
  abbrev verdict_if : AreComparedSame old → Bool → Verdict
  verdict_if p alike = comparison_verdict (record { alike = alike; capsule = p.capsule.findings; longterm = p.longterm.findings })
      (windows_of (window_of p.capsule.config 0) (window_of p.longterm.config 1) p.capsule.given p.longterm.given) (standings p.capsule.given p.longterm.given)

  -- Media of which nothing is said are compared.
  compare_done : ComparesBoth old new status → NothingFailed old new → AreComparedSame old → IsDone status
  compare_done owed none p = go owed.ended owed.status_is owed.shown
    where
      never : (m offset : ℕ) → m < 2 → RefusesAlone m (content old.media.disk.reads m) offset → ⊥
      never zero offset lt refused = gives_or_refuses 0 offset (content old.media.disk.reads 0) p.capsule p.capsule_gives refused
      never (suc zero) offset lt refused = gives_or_refuses 1 offset (content old.media.disk.reads 1) p.longterm p.longterm_gives refused
      never (suc (suc m)) offset lt refused = omega (arith, lt)

      go : (ended : Result Verdict MediaRefused) → status ≡ status_of_comparison ended → (tells → ComparesMedia old.media.disk.reads old.output.taken new.output.taken ended) → IsDone status
      go (Ok verdict) is shown =
          let s = shown p.told in
          let same : verdict ≡ Same = (s.2 p.capsule p.longterm p.capsule_gives p.longterm_gives).1 ∙ ap (verdict_if p) (p.texts s.0 s.1) ∙ p.same in
          done_by status (inl (is ∙ ap (λ (v : Verdict). status_of_comparison (Ok v)) same))
      go (Err (Opening parts.NoMemory)) is shown = done_by status (inr is)
      go (Err (Opening (parts.Damaged m offset))) is shown = let s = shown p.told in absurd (never m offset s.1 s.2)
      go (Err (Opening parts.Fault)) is shown = absurd (none.media (owed.fault is))
      go (Err (Comparing compares.Fault)) is shown = absurd (none.media (owed.fault is))
      go (Err (Comparing compares.Output)) is shown = absurd (none.output (owed.output is))

module _ {tells tells_images : Type 0} (old new : Outside tells tells_images) (hears : Type 0) (w : Watched) (status : Status) where
  pub permitted_done : (command : Asked) → (page command).owes old new hears w status → NothingFailed old new → Permits old command → IsDone status
  permitted_done (Review rate) owed none p = (subst (λ (l : Option (List ℕ)). IfKnown l (λ bytes. ReviewsAll bytes status)) p.known (owed.complete none)).0 p.has.0 p.has.1
  permitted_done Check owed none p = (subst (λ (l : Option (List ℕ)). IfKnown l (λ bytes. ChecksAll bytes status)) p.known (owed.complete none)).0 p.has.0 p.has.1
  permitted_done (Format again) owed none p = ((subst (λ (l : Option (List ℕ)). IfKnown l (λ bytes. tells → FormatsAll again bytes old.media.disk status)) p.2.known (owed.complete none)) p.0).done p.2.has.0 p.2.has.1 p.1 p.2.has.2
  permitted_done Replay owed none p = ((subst (λ (l : Option (List ℕ)). IfKnown l (λ bytes. tells → ReplaysAll bytes old.media.disk.reads status)) p.has.1.known (owed.complete none)) p.told).done p.contents p.has.1.has.0 p.holds p.meet p.has.0 p.has.1.has.1 p.has.1.has.2
  permitted_done (Read reading) owed none p = reading_done old new status reading owed none p
  permitted_done (Evidence asked) owed none p = (owed.complete none p.told).done p.contents p.holds p.meet p.has.0 p.has.1
  permitted_done (Page asked words) owed none p = (owed.complete none p.told).done p.contents p.holds p.meet p.has.0 p.has.1
  permitted_done Incidents owed none p = (owed.complete none p.told).done p.contents p.holds p.meet
  permitted_done Info owed none p = (owed.complete none p.0).done p.1 p.2 p.3
  permitted_done (Save label) owed none p = (owed.complete none p.told).done p.contents p.holds p.meet p.has.0 p.has.1
  permitted_done (Release id) owed none p = (owed.complete none p.told).done p.contents p.holds p.meet p.has
  permitted_done (Trial seed count) owed none p = (owed.complete none p.0).done p.1 p.2
  permitted_done Import owed none p = done_by status (inl ((subst (λ (l : Option (List ℕ)). IfKnown l (λ bytes. CapturesAll bytes status)) p.known (owed.complete none)).0 p.has.0 p.has.1))
  permitted_done Packets owed none p = done_by status (inl ((subst (λ (l : Option (List ℕ)). IfKnown l (λ bytes. CapturesAll bytes status)) p.known (owed.complete none)).0 p.has.0 p.has.1))
  permitted_done Verify owed none p = (subst (λ (l : Option (List ℕ)). IfKnown l (λ bytes. VerifiesAll bytes status)) p.known (owed.complete none)).0 p.has.0 p.has.1 p.has.2
  permitted_done (Rescuing reading) owed none p = rescue_done old new status reading owed none p
  permitted_done (RescueInfo medium) owed none p = found_done status (number_asked (whole_of medium)) (found_in p.gives.findings) p.has.1 (((owed.told p.told p.has.2 p.has.3).complete none p.told).done p.gives p.rescued p.has.0)
  permitted_done Compare owed none p = compare_done old new status owed none p

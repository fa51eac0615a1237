-- What is owed for each reading of a stored file, by what its visitor prints.
use Rattle.std.proofs.Common.{◌≡◌, ◌≤◌, ℕ, ℤ, List, [], fold, map, string_bytes, Option, Some, None, Result, Ok, Err, refl, subst}
use Rattle.std.specs.Bool.{⊤}
use Rattle.std.specs.Prelude.{String}
use Rattle.std.specs.declared.alloc.Global.{Global}
use Rattle.vdr_terms.specs.Records.{Record}
use Rattle.vdr_durability.specs.Sources.{Row}
use Rattle.vdr_play.specs.Streams.{Seen, nothing_seen}
use Rattle.vdr_play.specs.Texts.{record_text, seen_by}
use Rattle.vdr_sources.specs.Tables.{sources_of, sources_text, with_record}
use Rattle.vdr_watch.specs.Supervision.{met_in}
use Rattle.vdr_watch.specs.Texts.{closing_text, record_text as shown_text}
use Rattle.vdr_ais.specs.Targets.{targets_of, targets_text}
use Rattle.vdr_digest.specs.Digests.{last_lines as digest_last, line_at as digest_line}
use Rattle.vdr_entry.specs.declared.query.Medium.{Medium}
use Rattle.vdr_export.specs.declared.timing.Timing.{Timing}
use Rattle.vdr_export.specs.declared.timing.Timing.TheVariants.{Numbered}
use Rattle.vdr_rows.specs.Tables.{last_lines as table_last, line_at as table_line}
use Rattle.vdr_track.specs.Texts.{last_lines as track_last, line_at as track_line}
use Rattle.vdr_runs.specs.Runs.{last_lines as runs_last, line_at as runs_line}
use Rattle.vdr_verify.specs.Stored.{ReadsFile}
use Rattle.vdr_verify.specs.declared.refused.VerifyRefused.{VerifyRefused}
use Rattle.vdr_command.specs.Endings.{WritesLine, ending}
use Rattle.vdr_command.specs.Outside.{OutputSeen}
use Rattle.vdr_command.specs.declared.status.Status.{Status}
use Rattle.vdr_command.specs.declared.status.Status.TheVariants.{Done, Words}
use Rattle.vdr_export.specs.Wishes.{timed_from}
use Rattle.vdr_readout.specs.Readings.{Reading}
use Rattle.vdr_readout.specs.Readings.Reading.{Play, Values, Track, Sources, Watch, Runs, Digest, Targets, Wav, TimedWav, Picture, Pictures}
use Rattle.vdr_readout.specs.Reads.{AskedPlay}
use Rattle.vdr_readout.specs.Sources.{whole_of}
use Rattle.vdr_readout.specs.Targets.{up_to}
use Rattle.vdr_export.specs.declared.wish.Wish.TheVariants as wishes
use Rattle.vdr_readout.proofs.TableLemmas.{sources_last}
use Rattle.vdr_tool.specs.Verifying.{status_of_verify}
use Rattle.vdr_from.specs.Readings.{EndsFrom, OwesFrom, RunsFrom}
use Rattle.vdr_from.specs.Tellings.{TellsHeld}
use Rattle.vdr_from.specs.Words.{SpellsFrom}
use Rattle.vdr_from.specs.Writings.{WritesHeld}
use Rattle.vdr_from.proofs.TellLemmas.{refused_tells}
use Rattle.vdr_from.proofs.WriteLemmas.{refused_writes}

module _ (whole : Option (List ℕ)) (was next : OutputSeen) where
  module _ (status : Status) where
    -- From tracks that have seen nothing.
    pub play_told : (asked : AskedPlay) (tracks : Seen) → tracks ≡ nothing_seen → TellsHeld whole asked (λ seen r. record_text (seen_by tracks seen) r) (λ seen. []) was next status
        → TellsHeld whole asked (λ seen r. record_text (seen_by nothing_seen seen) r) (λ seen. []) was next status
    play_told asked tracks is h = subst (λ (s : Seen). TellsHeld whole asked (λ seen r. record_text (seen_by s seen) r) (λ seen. []) was next status) is h

    -- From a table without a row.
    pub sources_told : (asked is_asked : AskedPlay) → asked ≡ is_asked → (table : List Row) → table ≡ [] → TellsHeld whole asked (λ seen r. []) (λ seen. sources_text (fold with_record table seen)) was next status
        → TellsHeld whole is_asked (λ seen r. []) (λ seen. sources_text (sources_of seen)) was next status
    sources_told asked is_asked same table none h =
        subst (λ (a : AskedPlay). TellsHeld whole a (λ seen r. []) (λ seen. sources_text (sources_of seen)) was next status) same
        (subst (λ (f : List Record → List ℕ). TellsHeld whole asked (λ seen r. []) f was next status) (λ i seen. sources_last table none seen i) h)

    -- Of the same records.
    pub same_told : (asked is_asked : AskedPlay) → asked ≡ is_asked → (line : List Record → Record → List ℕ) (last : List Record → List ℕ) → TellsHeld whole asked line last was next status
        → TellsHeld whole is_asked line last was next status
    same_told asked is_asked same line last h = subst (λ (a : AskedPlay). TellsHeld whole a line last was next status) same h

    -- Of the source that is asked for.
    pub track_told : (asked : AskedPlay) (source own : List ℕ) → own ≡ source → TellsHeld whole asked (track_line own) (track_last own) was next status
        → TellsHeld whole asked (track_line source) (track_last source) was next status
    track_told asked source own is h = subst (λ (s : List ℕ). TellsHeld whole asked (track_line s) (track_last s) was next status) is h

  -- A file that was not read to its end, or is no evidence.
  pub refused_owed : (reading : Reading) (refused : VerifyRefused) → ReadsFile whole (Err refused) → next ≡ was → OwesFrom reading whole was next (status_of_verify refused)
  refused_owed (Play asked) refused is same = refused_tells whole asked (λ seen r. record_text (seen_by nothing_seen seen) r) (λ seen. []) was next refused is same
  refused_owed (Values asked) refused is same = refused_tells whole asked table_line table_last was next refused is same
  refused_owed (Track asked source) refused is same = refused_tells whole asked (track_line source) (track_last source) was next refused is same
  refused_owed (Sources medium) refused is same = refused_tells whole (whole_of medium) (λ seen r. []) (λ seen. sources_text (sources_of seen)) was next refused is same
  refused_owed (Watch medium) refused is same = refused_tells whole (whole_of medium) (λ seen r. shown_text (met_in seen) r) (λ seen. closing_text seen) was next refused is same
  refused_owed (Runs medium) refused is same = refused_tells whole (whole_of medium) runs_line runs_last was next refused is same
  refused_owed (Digest medium) refused is same = refused_tells whole (whole_of medium) digest_line digest_last was next refused is same
  refused_owed (Targets medium at) refused is same = refused_tells whole (up_to medium at) (λ seen r. []) (λ seen. targets_text (targets_of seen)) was next refused is same
  refused_owed (Wav asked) refused is same = refused_writes whole (wishes.Sound Numbered) asked was next refused is same
  refused_owed (TimedWav asked) refused is same = refused_writes whole (wishes.Sound (timed_from asked.from)) asked was next refused is same
  refused_owed (Picture asked block) refused is same = refused_writes whole (wishes.Picture block) asked was next refused is same
  refused_owed (Pictures asked) refused is same = refused_writes whole wishes.Listing asked was next refused is same

-- Up to the same stamp.
pub same_stamp : (medium : Medium) (t u : ℤ) → t ≡ u → (whole : Option (List ℕ)) (was next : OutputSeen) (status : Status) → TellsHeld whole (up_to medium t) (λ seen r. []) (λ seen. targets_text (targets_of seen)) was next status
    → TellsHeld whole (up_to medium u) (λ seen r. []) (λ seen. targets_text (targets_of seen)) was next status
same_stamp medium t u is whole was next status h = subst (λ (at : ℤ). TellsHeld whole (up_to medium at) (λ seen r. []) (λ seen. targets_text (targets_of seen)) was next status) is h

-- With the same timing.
pub same_sound : (t u : Timing) → t ≡ u → (whole : Option (List ℕ)) (asked : AskedPlay) (was next : OutputSeen) (status : Status) → WritesHeld whole (wishes.Sound t) asked was next status
    → WritesHeld whole (wishes.Sound u) asked was next status
same_sound t u is whole asked was next status h = subst (λ (timing : Timing). WritesHeld whole (wishes.Sound timing) asked was next status) is h

-- No reading ends as words that ask for nothing.
never_words : (reading : Reading) (whole : Option (List ℕ)) (was next : OutputSeen) → OwesFrom reading whole was next Words → ⊥
never_words (Play asked) whole was next h = h.shown
never_words (Values asked) whole was next h = h.shown
never_words (Track asked source) whole was next h = h.shown
never_words (Sources medium) whole was next h = h.shown
never_words (Watch medium) whole was next h = h.shown
never_words (Runs medium) whole was next h = h.shown
never_words (Digest medium) whole was next h = h.shown
never_words (Targets medium at) whole was next h = h.shown
never_words (Wav asked) whole was next h = h.shown
never_words (TimedWav asked) whole was next h = h.shown
never_words (Picture asked block) whole was next h = h.shown
never_words (Pictures asked) whole was next h = h.shown

some_same : (x y : Reading) → ◌≡◌ {A = Option Reading} (Some x) (Some y) → x ≡ y
some_same x y e = cc

-- The words ask for one reading, which was done.
pub runs_so : (words : List (String Global)) (whole : Option (List ℕ)) (was between next : OutputSeen) (status : Status) (reading : Reading) → SpellsFrom (map string_bytes words) reading
    → ((other : Reading) → SpellsFrom (map string_bytes words) other → ◌≡◌ {A = Option Reading} (Some reading) (Some other)) → OwesFrom reading whole was between status
    → WritesLine status between next → was.faults ≤ between.faults → between.faults ≤ next.faults → RunsFrom words whole was next status
runs_so words whole was between next status reading spelled one owed line earlier later = record {
  done = λ other s. subst (λ (r : Reading). EndsFrom r whole was next status) (some_same reading other (one other s)) (record { between = between; owed = owed; line = line; later = (earlier, later) });
  refused = λ none. absurd (none reading spelled);
  words_only = λ is other s. never_words reading whole was between (subst (OwesFrom reading whole was between) is owed);
}

-- They ask for none.
pub none_so : (words : List (String Global)) (whole : Option (List ℕ)) (was next : OutputSeen) → ((other : Reading) → SpellsFrom (map string_bytes words) other → ◌≡◌ {A = Option Reading} None (Some other))
    → WritesLine Words was next → RunsFrom words whole was next Words
none_so words whole was next none line = record {
  done = λ other s. let clash = none other s in let no : ⊥ = cc in absurd no;
  refused = λ asked. (refl, line);
  words_only = λ is other s. let clash = none other s in let no : ⊥ = cc in absurd no;
}

-- What did not end otherwise is done.
pub done_so : (r : Result ⊤ Status) → ((status : Status) → r ≡ Err status → ⊥) → ending r ≡ Done
done_so (Ok all) not = refl
done_so (Err status) not = absurd (not status refl)

-- What is written of the frames that were heard, once one more is.
use Rattle.std.proofs.Common.{◌≡◌, ◌++◌, ℕ, List, [], ◌∷◌, Some, sym, ap, ◌∙◌, subst}
use Rattle.vdr_terms.specs.Records.{Record}
use Rattle.vdr_export.specs.Heard.{IsTrack, IsWritten, added, added_by}
use Rattle.vdr_export.specs.Sounds.{Heard, heard, heard_in, silence, track_of, with_heard}
use Rattle.vdr_export.specs.Tracks.{Track, gap}
use Rattle.vdr_export.specs.declared.timing.Timing.{Timing}
use Rattle.vdr_export.specs.declared.writing.Writing.{Writing}
use Rattle.vdr_export.proofs.Sounding.{track_more}

module _ (of : ℕ) (timing : Timing) (hs : List Heard) (was : Writing) (written : IsWritten of timing hs was) (h : Heard) where
  pub written_more : (now : Writing) → now.microphone ≡ was.microphone → IsTrack timing (with_heard timing (track_of timing hs) h) now.track → IsWritten of timing (hs ++ h ∷ []) now
  written_more now microphone track = record {
    microphone = microphone ∙ written.microphone;
    track = subst (λ (t : Track). IsTrack timing t now.track) (sym (track_more timing hs h)) track;
  }

-- What a record with a frame adds.
pub added_is : (microphone : ℕ) (timing : Timing) (seen : List Record) (r : Record) (h : Heard) (n : ℕ) → heard_in microphone r ≡ Some h → n ≡ gap timing (track_of timing (heard microphone seen)) h.stamp h.frame
    → silence n ++ h.frame.samples ≡ added microphone timing seen r
added_is microphone timing seen r h n is silent =
    ap (λ (k : ℕ). silence k ++ h.frame.samples) silent ∙ sym (ap (added_by timing (track_of timing (heard microphone seen))) is)

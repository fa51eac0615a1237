use Rattle.std.proofs.Common.{◌+◌, ◌∙◌, min, ℕ, Some, ap, refl}
use Rattle.vdr_pcm.specs.Views.{frame_of}
use Rattle.vdr_export.specs.declared.frames.Tail.{Tail}
use Rattle.vdr_export.proofs.Tracking.{track_next}
use Rattle.vdr_export.proofs.track.Track.follow.Goals as goal

pub returns-clause-next : goal.returns-clause-next
returns-clause-next c = λ timing told h.
    track_next timing told c.args.self.now _ c.args.stamp (frame_of c.args.frame.now) c.gap-gap.result h (c.gap-gap.ensures.gap timing told h) refl
    (ap (λ (t : Tail). Some t) c.tail_of-tail.ensures) (ap (λ (n : ℕ). Some n) c.unwrap_or.ensures)
    (c.min-self.ensures ∙ ap (λ (n : ℕ). min n 72057594037927936) c.saturating_add.ensures
    ∙ ap (λ (n : ℕ). min (min (c.args.self.now.end + (c.gap-gap.result + n)) 18446744073709551615) 72057594037927936) (c.from.ensures ∙ ap (λ (t : Tail). t.samples) c.tail_of-tail.ensures))

use Rattle.std.proofs.Common.{◌≤◌, ◌-◌, ◌∙◌, ℕ, Option, ap, arith, sym, unwrap_or}
use Rattle.std.specs.Option.{option_or}
use Rattle.vdr_terms.specs.Stamps.{last_stamp}
use Rattle.vdr_pcm.specs.Views.{frame_of}
use Rattle.vdr_export.specs.Tracks.{jitter, pause, samples_in, start_of}
use Rattle.vdr_export.proofs.Tracking.{few_samples, gap_by_number, gap_by_stamp}
use Rattle.vdr_export.proofs.track.Track.gap.Goals as goal

pub returns-in-Numbered-clause-gap : goal.returns-in-Numbered-clause-gap
returns-in-Numbered-clause-gap c = λ timing told h.
    gap_by_number timing told c.args.stamp (frame_of c.args.frame.now) c.missing.result (sym c.in-Numbered.is ∙ h.timing) (c.missing.ensures.missing told.last h.last)

pub returns-in-Stamped-clause-gap : goal.returns-in-Stamped-clause-gap
returns-in-Stamped-clause-gap c = λ timing told h.
    let rate = c.args.frame.now.rate in
    let start = c.unwrap_or-start.ensures ∙ ap (λ (o : Option ℕ). unwrap_or o c.args.stamp) (c.or.ensures ∙ ap (λ (o : Option ℕ). option_or c.in-Stamped.from o) h.first) in
    let behind : c.args.stamp - start_of c.in-Stamped.from told.first c.args.stamp ≤ last_stamp = omega (arith, c.requires) in
    gap_by_stamp timing told c.args.stamp (frame_of c.args.frame.now) c.in-Stamped.from c.pause.result c.args.self.now.end (sym c.in-Stamped.is ∙ h.timing) h.end
    (few_samples rate _ c.args.frame.now.legal.greatest behind)
    (c.pause.ensures.pause ∙ ap (λ (ms : ℕ). pause (samples_in rate jitter) (samples_in rate ms - c.args.self.now.end)) (c.saturating_sub.ensures ∙ ap (λ (s : ℕ). c.args.stamp - s) start))

use Rattle.std.proofs.Common.{◌∙◌, ℕ, List, None, Some, refl, ap, subst, unsigned_abs}
use Rattle.std.proofs.lemmas.Result.{err_from_is_err_and}
use Rattle.vdr_outside.specs.Writes.{AppendsFront}
use Rattle.vdr_export.specs.Heard.{IsTrack, IsWritten}
use Rattle.vdr_export.specs.Sounds.{Heard, heard, track_of}
use Rattle.vdr_export.specs.Tails.{heard_as}
use Rattle.vdr_pcm.specs.Views.{frame_of}
use Rattle.vdr_export.specs.Tracks.{gap, next}
use Rattle.vdr_export.proofs.Sounding.{heard_none, heard_so, heard_some}
use Rattle.vdr_export.proofs.Written.{added_is, written_more}
use Rattle.vdr_export.proofs.writing.WritingVisitor.visit.Goals as goal

pub returns-in_default-clause-has : goal.returns-in_default-clause-has
returns-in_default-clause-has g c first seen has =
    heard_none (λ (hs : List Heard). IsWritten first.microphone first.track.timing hs c.args.self.now) first.microphone seen c.args.item.now
    (heard_so first.microphone c.args.self.now.microphone c.args.item.now c.heard_in.result None c.heard_in.ensures has.microphone c.in_default.is) has

pub returns-clause-has : goal.returns-clause-has
returns-clause-has g c first seen has =
    let timing = first.track.timing in
    let h : Heard = heard_as c.args.item.now.place (unsigned_abs c.args.item.now.utc) c.in-Some.frame in
    let track = track_of timing (heard first.microphone seen) in
    heard_some (λ (hs : List Heard). IsWritten first.microphone timing hs (record { microphone = c.args.self.now.microphone; track = c.follow-gap.new.self }))
    first.microphone seen c.args.item.now h
    (heard_so first.microphone c.args.self.now.microphone c.args.item.now c.heard_in.result (Some c.in-Some.frame) c.heard_in.ensures has.microphone c.in-Some.is)
    (written_more first.microphone timing (heard first.microphone seen) c.args.self.now has h _ refl
    (subst (λ (n : ℕ). IsTrack timing (next timing track n (frame_of c.in-Some.frame)) c.follow-gap.new.self) c.stamp_of.ensures.stamp (c.follow-gap.ensures.next timing track has.track)))

pub returns-in_err-write_frame-clause-printed : goal.returns-in_err-write_frame-clause-printed
returns-in_err-write_frame-clause-printed g c first seen has =
    let timing = first.track.timing in
    let track = track_of timing (heard first.microphone seen) in
    let p = err_from_is_err_and c.from_residual.result c.from_residual.ensures.1 in
    rw (p.1, p.2)
    (subst (λ (l : List ℕ). AppendsFront (g.O.Sink.taken c.args.out.now) (g.O.Sink.taken c.write_frame.new.out) l)
    (added_is first.microphone timing seen c.args.item.now (heard_as c.args.item.now.place (unsigned_abs c.args.item.now.utc) c.in-Some.frame) c.follow-gap.result
    (heard_so first.microphone c.args.self.now.microphone c.args.item.now c.heard_in.result (Some c.in-Some.frame) c.heard_in.ensures has.microphone c.in-Some.is)
    (c.follow-gap.ensures.gap timing track has.track ∙ ap (λ (n : ℕ). gap timing track n (frame_of c.in-Some.frame)) c.stamp_of.ensures.stamp))
    c.write_frame.ensures.front)

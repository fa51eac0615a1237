use Rattle.std.proofs.Common.{refl, ap, ◌∙◌, ◌+◌, ◌*◌, min, length, ℕ, subst, sym}
use Rattle.std.specs.Prelude.{option_map}
use Rattle.vdr_export.specs.Heard.{IsTrack}
use Rattle.vdr_export.specs.Sounds.{track_of}
use Rattle.vdr_export.specs.Tails.{heard_as}
use Rattle.vdr_export.specs.declared.sizing.Sizing.{Sizing}
use Rattle.vdr_export.proofs.Sized.{mixed_here, other_rate, same_rate, sized_first, sized_next}
use Rattle.vdr_export.proofs.sizing.Sizing.hear.Goals.{in-None, in-Some+else-rate-frame}
use Rattle.vdr_export.proofs.sizing.Sizing.hear.Goals as goal

pub returns-in-Some-clause-mixed : goal.returns-in-Some-clause-mixed
returns-in-Some-clause-mixed c = λ timing hs sized. (
  c.args.place,
  refl,
  mixed_here timing hs c.args.self.now sized (heard_as c.args.place c.args.stamp c.args.frame.now) c.in-Some.rate c.in-Some.is (other_rate _ _ c.if-rate-frame.true),
)

pub returns-clause-sized : goal.returns-clause-sized
returns-clause-sized c = λ timing hs sized.
    elim c.match-self.branch [
      | in-None w ↦
          let track = subst (λ (s : Sizing). IsTrack timing (track_of timing hs) s.track) (sym w.self-is) sized.track in
          sized_first timing hs c.args.self.now sized (heard_as c.args.place c.args.stamp c.args.frame.now) _ c.follow.result
          (c.follow.ensures.next timing (track_of timing hs) track) (c.follow.ensures.gap timing (track_of timing hs) track)
          (c.min-self.ensures ∙ ap (λ (n : ℕ). min n 4294967296) c.saturating_add.ensures
          ∙ ap (λ (s : Sizing). min (min (s.bytes + (2 * c.follow.result + length c.args.frame.now.samples.now)) 18446744073709551615) 4294967296) w.self-is)
          w.in-None.is (ap (λ (s : Sizing). option_map (λ r. r.hertz) s.rate) w.self-is)
      | in-Some+else-rate-frame w ↦
          let track = subst (λ (s : Sizing). IsTrack timing (track_of timing hs) s.track) (sym w.self-is) sized.track in
          sized_next timing hs c.args.self.now sized (heard_as c.args.place c.args.stamp c.args.frame.now) _ c.follow.result
          (c.follow.ensures.next timing (track_of timing hs) track) (c.follow.ensures.gap timing (track_of timing hs) track)
          (c.min-self.ensures ∙ ap (λ (n : ℕ). min n 4294967296) c.saturating_add.ensures
          ∙ ap (λ (s : Sizing). min (min (s.bytes + (2 * c.follow.result + length c.args.frame.now.samples.now)) 18446744073709551615) 4294967296) w.self-is)
          w.in-Some.rate w.in-Some.is (same_rate _ _ w.if-rate-frame.false) (ap (λ (s : Sizing). s.rate) w.self-is)
    ]

use Rattle.std.proofs.Common.{Result, ap, append-nil, refl, subst, sym, ◌++◌, ◌∙◌}
use Rattle.std.specs.Prelude.{List, ℕ, [], Some}
use Rattle.vdr_directory.specs.Sequence.{all_records}
use Rattle.vdr_durability.specs.Playback.{found, medium_of}
use Rattle.vdr_entry.specs.Queries.{asked, asked_medium}
use Rattle.vdr_ring.specs.declared.refused.ReadRefused.{ReadRefused}
use Rattle.vdr_ring.specs.declared.refused.ReadRefused.TheVariants.{Damaged, Fault}
use Rattle.vdr_terms.specs.Queries.Span.{Places}
use Rattle.vdr_vault.proofs.Coming.{holds_on}
use Rattle.vdr_recorder.specs.Recordings.{RecorderState}
use Rattle.vdr_recorder.specs.Resuming.{HasPrintedPart, IsPlaying}
use Rattle.vdr_recorder.proofs.Looking.{looked}
use Rattle.vdr_recorder.proofs.PlayGone.{all_held, is_gone}
use Rattle.vdr_recorder.proofs.PlayOn.{all_gone_on, passed_so, refused_on}
use Rattle.vdr_recorder.proofs.PlayTurns.{all_not_gone, err_not_gone, not_refused, over_not_gone, passed_not_gone, refused_so, upto_not_gone}
use Rattle.vdr_recorder.proofs.Visits.{looked_as, looked_nothing}
use Rattle.vdr_recorder.proofs.recorder.Recorder.play_on.Goals as goal

pub returns-then-failed-clause-looked : goal.returns-then-failed-clause-looked
returns-then-failed-clause-looked g c =
    looked_nothing (asked c.args.play.now.query) c.args.self.now (g.M.Media.disk c.args.media.now) (g.M.Media.bytes_read c.args.media.now) (g.M.Media.faults c.args.media.now) _
    (λ is. ap (λ (r : RecorderState). r.vault.failed) (sym c.self.view_is) ∙ sym c.failed.ensures ∙ c.if-failed.true) c.requires.rings

pub returns-in-Gone-clause-gone : goal.returns-in-Gone-clause-gone
returns-in-Gone-clause-gone g c = rw (sym c.self.view_is) (λ opening events placed told readable.
    let at = holds_on opening events c.self.inside.vault placed (g.M.Media.disk c.args.media.now) readable c.args.play.now.query.medium in
    (λ is. (c.part_of.ensures.gone (placed (medium_of (asked_medium c.args.play.now.query.medium))) at.reads.directory at.reads.order).0 c.in-Gone.is, λ lost. (c.args.play.now.stretch.next, refl)))

pub returns-in-Gone-clause-lost : goal.returns-in-Gone-clause-lost
returns-in-Gone-clause-lost g c = rw (sym c.self.view_is) (λ opening events placed place told readable is.
    let at = holds_on opening events c.self.inside.vault placed (g.M.Media.disk c.args.media.now) readable c.args.play.now.query.medium in
    is_gone opening events c.self.inside.vault placed (g.M.Media.disk c.args.media.now) readable c.args.play.now.query c.args.play.now.stretch
    ((c.part_of.ensures.gone (placed (medium_of (asked_medium c.args.play.now.query.medium))) at.reads.directory at.reads.order).0 c.in-Gone.is))

pub returns-in-Gone-clause-played : goal.returns-in-Gone-clause-played
returns-in-Gone-clause-played g c opening before later placed printed told readable playing =
    ([], sym (append-nil _), (subst (λ (text : List ℕ). IsPlaying opening before text c.args.play.now) (sym (append-nil printed)) playing, refl))

pub returns-in-Gone-clause-looked : goal.returns-in-Gone-clause-looked
returns-in-Gone-clause-looked g c = looked_nothing _ _ _ _ _ _ (λ is. let none : ⊥ = cc in absurd none) c.requires.rings

pub returns-in-Over-clause-played : goal.returns-in-Over-clause-played
returns-in-Over-clause-played g c = rw (sym c.self.view_is) (λ opening before later placed printed told readable playing.
    let at = holds_on opening (before ++ later) c.self.inside.vault placed (g.M.Media.disk c.args.media.now) readable c.args.play.now.query.medium in
    let gone = c.part_of.ensures.gone (placed (medium_of (asked_medium c.args.play.now.query.medium))) at.reads.directory at.reads.order in (
      [],
      sym (append-nil _),
      all_gone_on opening before later c.self.inside.vault placed (g.M.Media.disk c.args.media.now) readable printed c.args.play.now playing
          (all_held c.args.play.now.stretch.next c.args.play.now.stretch.last (placed (medium_of (asked_medium c.args.play.now.query.medium))) (λ lost. over_not_gone c.part_of.result c.in-Over.is (gone.1 lost)))
          (c.part_of.ensures.over c.in-Over.is (placed (medium_of (asked_medium c.args.play.now.query.medium))) at.reads.directory at.reads.order),
    ))

pub returns-in-Over-clause-gone : goal.returns-in-Over-clause-gone
returns-in-Over-clause-gone g c = rw (sym c.self.view_is) (λ opening events placed told readable.
    let at = holds_on opening events c.self.inside.vault placed (g.M.Media.disk c.args.media.now) readable c.args.play.now.query.medium in
    let gone = c.part_of.ensures.gone (placed (medium_of (asked_medium c.args.play.now.query.medium))) at.reads.directory at.reads.order in
    (λ is. absurd (all_not_gone is.0 is.1), λ lost. absurd (over_not_gone c.part_of.result c.in-Over.is (gone.1 lost))))

pub returns-in-Over-clause-looked : goal.returns-in-Over-clause-looked
returns-in-Over-clause-looked g c = looked_nothing _ _ _ _ _ _ (λ is. let none : ⊥ = cc in absurd none) c.requires.rings

pub returns-in-Err-clause-played : goal.returns-in-Err-clause-played
returns-in-Err-clause-played g c = rw (sym c.self.view_is) (λ opening before later placed printed told readable playing.
    let query = c.args.play.now.query in
    let at = holds_on opening (before ++ later) c.self.inside.vault placed (g.M.Media.disk c.args.media.now) readable query.medium in
    let gone = c.part_of.ensures.gone (placed (medium_of (asked_medium query.medium))) at.reads.directory at.reads.order in
    let within = c.part_of.ensures.within c.in-Upto.end c.in-Upto.is in
    refused_on opening before later c.self.inside.vault placed (g.M.Media.disk c.args.media.now) readable printed c.args.play.now playing c.in-Upto.end within.0 within.1
    (all_held c.args.play.now.stretch.next c.args.play.now.stretch.last (placed (medium_of (asked_medium query.medium))) (λ lost. upto_not_gone c.part_of.result c.in-Upto.end c.in-Upto.is (gone.1 lost)))
    (record { query = query; stretch = c.args.play.now.stretch; tracks = c.print_part-printed.new.tracks }) c.print_part-printed.new.tracks c.args.piece.now.bytes.items c.print_part-printed.new.piece.bytes.items c.in-Err.refused
    (subst (λ (r : Result ℕ ReadRefused). HasPrintedPart (found (asked query) (Some (Places c.args.play.now.stretch.next c.in-Upto.end)) (all_records (placed (medium_of (asked_medium query.medium))))) c.in-Upto.end
    c.args.play.now.tracks c.print_part-printed.new.tracks c.args.piece.now.bytes.items c.print_part-printed.new.piece.bytes.items r) c.in-Err.is
    (c.print_part-printed.ensures.printed opening (before ++ later) placed told readable)) refl)

pub returns-in-Err-clause-gone : goal.returns-in-Err-clause-gone
returns-in-Err-clause-gone g c = rw (sym c.self.view_is) (λ opening events placed told readable.
    let at = holds_on opening events c.self.inside.vault placed (g.M.Media.disk c.args.media.now) readable c.args.play.now.query.medium in
    let gone = c.part_of.ensures.gone (placed (medium_of (asked_medium c.args.play.now.query.medium))) at.reads.directory at.reads.order in
    (λ is. absurd (err_not_gone c.in-Err.refused is.0 is.1), λ lost. absurd (upto_not_gone c.part_of.result c.in-Upto.end c.in-Upto.is (gone.1 lost))))

pub returns-in-Err-clause-lost : goal.returns-in-Err-clause-lost
returns-in-Err-clause-lost g c opening events placed place told readable is = absurd (err_not_gone c.in-Err.refused place is)

pub returns-in-Err-clause-damage : goal.returns-in-Err-clause-damage
returns-in-Err-clause-damage g c = rw (sym c.self.view_is) (record {
  medium = λ m offset is. c.print_part-printed.ensures.damage.medium m offset (refused_so c.print_part-printed.result _ c.in-Err.refused (Damaged m offset) c.in-Err.is refl is);
  damaged = λ m offset is. c.print_part-printed.ensures.damage.damaged m offset (refused_so c.print_part-printed.result _ c.in-Err.refused (Damaged m offset) c.in-Err.is refl is);
})

pub returns-in-Err-clause-looked : goal.returns-in-Err-clause-looked
returns-in-Err-clause-looked g c = rw (sym c.self.view_is)
    (looked_as _ _ _ _ _ _ _ _ _ _ _ (λ is. refused_so c.print_part-printed.result _ c.in-Err.refused Fault c.in-Err.is refl is)
    (looked (asked c.args.play.now.query) _ c.print_part-printed.new.vault _ _ _ _ _ _ _ c.print_part-printed.ensures.read c.print_part-printed.ensures.cause))

pub returns-in-Err-clause-bound : goal.returns-in-Err-clause-bound
returns-in-Err-clause-bound g c = rw (sym c.self.view_is) (λ opening events placed told readable.
    let at = holds_on opening events c.self.inside.vault placed (g.M.Media.disk c.args.media.now) readable c.args.play.now.query.medium in
    c.print_part-printed.ensures.bound _ (c.part_of.ensures.one c.in-Upto.end (placed (medium_of (asked_medium c.args.play.now.query.medium))) c.in-Upto.is at.reads.directory at.reads.order))

pub returns-clause-played : goal.returns-clause-played
returns-clause-played g c = rw (sym c.self.view_is) (λ opening before later placed printed told readable playing.
    let query = c.args.play.now.query in
    let at = holds_on opening (before ++ later) c.self.inside.vault placed (g.M.Media.disk c.args.media.now) readable query.medium in
    let gone = c.part_of.ensures.gone (placed (medium_of (asked_medium query.medium))) at.reads.directory at.reads.order in
    let within = c.part_of.ensures.within c.in-Upto.end c.in-Upto.is in
    passed_so opening before later c.self.inside.vault placed (g.M.Media.disk c.args.media.now) readable printed c.args.play.now playing c.in-Upto.end within.0 within.1
    (all_held c.args.play.now.stretch.next c.args.play.now.stretch.last (placed (medium_of (asked_medium query.medium))) (λ lost. upto_not_gone c.part_of.result c.in-Upto.end c.in-Upto.is (gone.1 lost)))
    c.in-Ok.upto c.pass.new.self c.print_part-printed.new.tracks c.args.piece.now.bytes.items c.print_part-printed.new.piece.bytes.items c.pass.result
    (subst (λ (r : Result ℕ ReadRefused). HasPrintedPart (found (asked query) (Some (Places c.args.play.now.stretch.next c.in-Upto.end)) (all_records (placed (medium_of (asked_medium query.medium))))) c.in-Upto.end
    c.args.play.now.tracks c.print_part-printed.new.tracks c.args.piece.now.bytes.items c.print_part-printed.new.piece.bytes.items r) c.in-Ok.is
    (c.print_part-printed.ensures.printed opening (before ++ later) placed told readable)) c.pass.ensures.same.0 c.pass.ensures.same.1 c.pass.ensures.passes)

pub returns-clause-looked : goal.returns-clause-looked
returns-clause-looked g c = rw (sym c.self.view_is)
    (looked_as _ _ _ _ _ _ _ _ _ _ _ (λ is. not_refused c.print_part-printed.result _ _ Fault refl is)
    (looked (asked c.args.play.now.query) _ c.print_part-printed.new.vault _ _ _ _ _ _ _ c.print_part-printed.ensures.read c.print_part-printed.ensures.cause))

pub returns-clause-bound : goal.returns-clause-bound
returns-clause-bound g c = rw (sym c.self.view_is) (λ opening events placed told readable.
    let at = holds_on opening events c.self.inside.vault placed (g.M.Media.disk c.args.media.now) readable c.args.play.now.query.medium in
    c.print_part-printed.ensures.bound _ (c.part_of.ensures.one c.in-Upto.end (placed (medium_of (asked_medium c.args.play.now.query.medium))) c.in-Upto.is at.reads.directory at.reads.order))

pub returns-clause-gone : goal.returns-clause-gone
returns-clause-gone g c = rw (sym c.self.view_is) (λ opening events placed told readable.
    let at = holds_on opening events c.self.inside.vault placed (g.M.Media.disk c.args.media.now) readable c.args.play.now.query.medium in
    let gone = c.part_of.ensures.gone (placed (medium_of (asked_medium c.args.play.now.query.medium))) at.reads.directory at.reads.order in
    (λ is. absurd (passed_not_gone c.pass.result is.0 (c.pass.ensures.there is.0) is.1), λ lost. absurd (upto_not_gone c.part_of.result c.in-Upto.end c.in-Upto.is (gone.1 lost))))

pub returns-clause-lost : goal.returns-clause-lost
returns-clause-lost g c opening events placed place told readable is = absurd (passed_not_gone c.pass.result place (c.pass.ensures.there place) is)

use Rattle.std.proofs.Common.{ℕ, List, drop, sym, ◌∙◌, subst, arith}
use Rattle.std.proofs.lemmas.Result.{on_ok_weaker}
use Rattle.vdr_ring.specs.Damage.{HasDamage}
use Rattle.vdr_remake.specs.Copies.{Hold}
use Rattle.vdr_remake.specs.Remade.{IsFilledMedium, IsRemade}
use Rattle.vdr_remake.proofs.Causes.{rose_later, rose_second}
use Rattle.vdr_remake.proofs.Copies.{newest_held}
use Rattle.vdr_remake.proofs.Remade.{remade_of, remakes_after, remakes_closing, settled_weaker}
use Rattle.vdr_remake.proofs.remaking.remake_from.Goals as goal

pub returns-in_err-close_medium-clause-moments : goal.returns-in_err-close_medium-clause-moments
returns-in_err-close_medium-clause-moments g c placed told h order = remakes_closing _ _ _ _ _ c.from_residual.ensures.0 c.close_medium.ensures.moments

pub returns-in_err-close_medium-clause-cause : goal.returns-in_err-close_medium-clause-cause
returns-in_err-close_medium-clause-cause g c = rose_second _ _ c.in_err-close_medium.ensures.cause.later _ _ _ (λ is. c.in_err-close_medium.ensures.cause.failed)

pub returns-clause-moments : goal.returns-clause-moments
returns-clause-moments g c placed told h order =
    let n = c.newest-entries.ensures.newest.0 in
    let held = subst (λ (b : List ℕ). Hold c.args.from.segment b c.args.opened.now placed) (sym (c.close_medium.ensures.others told c.args.from.medium c.requires.apart)) h in
    let kept = newest_held n c.args.from.segment c.args.to.slots _ c.args.opened.now c.newest-entries.result.now placed held (c.newest-entries.ensures.newest.1, c.newest-entries.ensures.newest.2) c.newest-entries.ensures.few in
    remakes_after c.args.to.medium (IsFilledMedium c.args.to.medium c.args.to.slots c.args.config.now c.args.text.now (drop n placed)) (IsRemade c.args.to.medium c.args.config.now c.args.text.now placed) _ _ _ _
    (remade_of c.args.to.medium c.args.to.slots n c.args.config.now c.args.text.now placed order (omega (arith, c.requires.fits, c.requires.to_slots)) kept.most kept.few)
    c.close_medium.ensures.moments
    (c.make_whole.ensures.moments (drop n placed) told kept.held c.in_ok-close_medium.ensures.done)

pub returns-clause-done : goal.returns-clause-done
returns-clause-done g c placed told h order =
    let n = c.newest-entries.ensures.newest.0 in
    let held = subst (λ (b : List ℕ). Hold c.args.from.segment b c.args.opened.now placed) (sym (c.close_medium.ensures.others told c.args.from.medium c.requires.apart)) h in
    let kept = newest_held n c.args.from.segment c.args.to.slots _ c.args.opened.now c.newest-entries.result.now placed held (c.newest-entries.ensures.newest.1, c.newest-entries.ensures.newest.2) c.newest-entries.ensures.few in
    on_ok_weaker c.make_whole.result
    (settled_weaker c.args.to.medium (IsFilledMedium c.args.to.medium c.args.to.slots c.args.config.now c.args.text.now (drop n placed)) (IsRemade c.args.to.medium c.args.config.now c.args.text.now placed) _
    (remade_of c.args.to.medium c.args.to.slots n c.args.config.now c.args.text.now placed order (omega (arith, c.requires.fits, c.requires.to_slots)) kept.most kept.few))
    (c.make_whole.ensures.done (drop n placed) told kept.held)

pub returns-clause-others : goal.returns-clause-others
returns-clause-others g c told k ne = c.make_whole.ensures.others told k ne ∙ c.close_medium.ensures.others told k ne

pub returns-clause-damaged : goal.returns-clause-damaged
returns-clause-damaged g c m offset is =
    let h = c.make_whole.ensures.damaged m offset is in
    (h.0, λ told. subst (λ (b : List ℕ). HasDamage c.args.from.segment c.args.from.slots b offset) (c.close_medium.ensures.others told c.args.from.medium c.requires.apart) (h.1 told))

pub returns-clause-cause : goal.returns-clause-cause
returns-clause-cause g c = rose_later _ _ _ _ _ c.close_medium.ensures.cause.later c.make_whole.ensures.cause

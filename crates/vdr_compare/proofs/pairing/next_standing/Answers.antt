use Rattle.std.proofs.Common.{Bool, ◌∙◌, sym, subst}
use Rattle.vdr_outside.specs.Disk.{Image, content}
use Rattle.vdr_outside.proofs.Counts.{none_fell}
use Rattle.vdr_compare.specs.Sides.{IsAhead, behind}
use Rattle.vdr_compare.proofs.Causes.{read_failed}
use Rattle.vdr_compare.proofs.Pairs.{goes_next}
use Rattle.vdr_compare.proofs.pairing.next_standing.Goals as goal

pub returns-in_err-pass-clause-cause : goal.returns-in_err-pass-clause-cause
returns-in_err-pass-clause-cause g c = read_failed _ _ _ _ c.pass.result c.in_err-pass.field-0.0 _ c.in_err-pass.was (none_fell _) c.pass.ensures.cause

pub returns-in_err-pass-2-clause-cause : goal.returns-in_err-pass-2-clause-cause
returns-in_err-pass-2-clause-cause g c = read_failed _ _ _ _ c.pass-2.result c.in_err-pass-2.field-0.0 _ c.in_err-pass-2.was c.pass.ensures.cause.later c.pass-2.ensures.cause

pub returns-clause-gives : goal.returns-clause-gives
returns-clause-gives g c told ahead a =
    let image = (g.M.Media.disk c.args.media.now).reads in
    let b0 = content image c.args.capsule.now.cursor.area.medium in
    let m1 = c.args.longterm.now.cursor.area.medium in
    goes_next b0 (content image m1) c.args.capsule.now c.args.longterm.now ahead a c.pass.new.self c.pass-2.new.self c.in-Some.standing
    (sym c.standing_at.ensures ∙ c.in-Some.is)
    (λ given h. subst (λ (b : Bool). IsAhead b0 c.pass.new.self (behind b given)) c.is_on_capsule.ensures (c.in_ok-pass.ensures.gives told given h))
    (λ given h. subst (λ (b : Bool). IsAhead (content image m1) c.pass-2.new.self (behind b given)) c.is_on_longterm.ensures
    (subst (λ (i : Image). IsAhead (content i m1) c.args.longterm.now given → IsAhead (content i m1) c.pass-2.new.self (behind c.is_on_longterm.result given)) (c.pass.ensures.unchanged.reads told)
    (c.in_ok-pass-2.ensures.gives told given) h))

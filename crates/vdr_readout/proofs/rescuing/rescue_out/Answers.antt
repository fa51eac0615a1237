use Rattle.std.proofs.Common.{◌∙◌, Err, ap, refl, subst}
use Rattle.vdr_outside.specs.Disk.{content}
use Rattle.vdr_outside.specs.declared.fault.PartRefused.{PartRefused}
use Rattle.vdr_rescue.specs.Alones.{IsAloneOn, RefusesAlone}
use Rattle.vdr_rescue.specs.Costs.{ReadsNoOther}
use Rattle.vdr_readout.specs.Reads.{plain_play}
use Rattle.vdr_readout.proofs.RescueLemmas.{LawsOfAlone, media_rose, refused_rescues}
use Rattle.vdr_readout.proofs.rescuing.rescue_out.Goals as goal

pub returns-in-Err-clause-rescues : goal.returns-in-Err-clause-rescues
returns-in-Err-clause-rescues g c first had =
    let laws : LawsOfAlone = record { same = c.law_of_alone.ensures.same; refused = c.law_of_alone.ensures.refused; never = c.law_of_alone.ensures.never; one = c.law_of_alone.ensures.one; given = c.law_of_alone.ensures.given; found = c.law_of_alone.ensures.found } in
    let m = c.number_of-m.ensures.number in
    let told = c.open.ensures in
    rw c.status_of_part.ensures
    (refused_rescues laws (plain_play c.args.wanted) _ _ _ _ refl told.unchanged (subst (λ n. ReadsNoOther n (g.M.Media.bytes_read c.args.world.now.media) (g.M.Media.bytes_read c.open.new.media)) m told.others)
    c.in-Err.refused
    (λ k offset is. let why = told.damaged k offset (c.in-Err.is ∙ ap (λ (p : PartRefused). Err p) is) in
    (why.0 ∙ m, λ t. subst (λ n. RefusesAlone n (content (g.M.Media.disk c.args.world.now.media).reads n) offset) m (why.1 t)))
    (λ is. media_rose (g.M.Media.faults c.args.world.now.media) (g.M.Media.faults c.open.new.media) _ told.cause c.in-Err.refused c.in-Err.is is))

pub returns-in-Ok-clause-rescues : goal.returns-in-Ok-clause-rescues
returns-in-Ok-clause-rescues g c first had =
    let m = c.number_of-m.ensures.number in
    let told = c.open.ensures in
    c.rescue_opened.ensures.rescues first had c.args.world.now.media (record {
      medium = c.in-Ok.ensures.medium ∙ m;
      alone = λ t. subst (λ n. IsAloneOn n (content (g.M.Media.disk c.args.world.now.media).reads n) c.in-Ok.alone) m (c.in-Ok.ensures.opened t);
      unchanged = told.unchanged;
      others = subst (λ n. ReadsNoOther n (g.M.Media.bytes_read c.args.world.now.media) (g.M.Media.bytes_read c.open.new.media)) m told.others;
      later = told.cause.later;
    })

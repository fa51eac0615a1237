use Rattle.std.proofs.Common.{◌∙◌, Err, sym, ap, refl, subst}
use Rattle.vdr_outside.specs.Disk.{Image, content}
use Rattle.vdr_outside.specs.declared.fault.PartRefused.{PartRefused}
use Rattle.vdr_outside.proofs.Counts.{none_falls_join, rose_after, sum_not_less}
use Rattle.vdr_outside.proofs.Moments.{unchanged_join}
use Rattle.vdr_rescue.specs.Alones.{IsAloneOn, RefusesAlone}
use Rattle.vdr_rescue.specs.Costs.{ReadsNoOther}
use Rattle.vdr_readout.specs.Informs.{IsToldAlone}
use Rattle.vdr_readout.proofs.InformAlone.{informs_alone, informs_refused}
use Rattle.vdr_readout.proofs.RescueLemmas.{LawsOfAlone, media_rose}
use Rattle.vdr_readout.proofs.informing_alone.answer_rescue_info.Goals as goal

pub returns-in-Err-clause-owed : goal.returns-in-Err-clause-owed
returns-in-Err-clause-owed g c =
    let laws : LawsOfAlone = record { same = c.law_of_alone.ensures.same; refused = c.law_of_alone.ensures.refused; never = c.law_of_alone.ensures.never; one = c.law_of_alone.ensures.one; given = c.law_of_alone.ensures.given; found = c.law_of_alone.ensures.found } in
    let m = c.number_of.ensures.number in
    let told = c.open.ensures in
    rw c.status_of_part.ensures
    (informs_refused c.args.medium _ _ laws refl told.unchanged (subst (λ n. ReadsNoOther n (g.M.Media.bytes_read c.args.world.now.media) (g.M.Media.bytes_read c.open.new.media)) m told.others)
    c.in-Err.refused
    (λ k offset is. let why = told.damaged k offset (c.in-Err.is ∙ ap (λ (p : PartRefused). Err p) is) in
    (why.0 ∙ m, λ t. subst (λ n. RefusesAlone n (content (g.M.Media.disk c.args.world.now.media).reads n) offset) m (why.1 t)))
    (λ is. media_rose (g.M.Media.faults c.args.world.now.media) (g.M.Media.faults c.open.new.media) _ told.cause c.in-Err.refused c.in-Err.is is))

pub returns-in-Err-teller_for-clause-owed : goal.returns-in-Err-teller_for-clause-owed
returns-in-Err-teller_for-clause-owed g c =
    let laws : LawsOfAlone = record { same = c.law_of_alone.ensures.same; refused = c.law_of_alone.ensures.refused; never = c.law_of_alone.ensures.never; one = c.law_of_alone.ensures.one; given = c.law_of_alone.ensures.given; found = c.law_of_alone.ensures.found } in
    let m = c.number_of.ensures.number in
    let on = c.in-Ok.ensures.medium ∙ m in
    let told = c.open.ensures in
    let tried = c.teller_for.ensures in
    let others = subst (λ n. ReadsNoOther n (g.M.Media.bytes_read c.args.world.now.media) (g.M.Media.bytes_read c.open.new.media)) m told.others in
    let no_more = subst (λ n. ReadsNoOther n (g.M.Media.bytes_read c.open.new.media) (g.M.Media.bytes_read c.teller_for.new.media)) on tried.others in
    rw c.status_of_part-in-Err-teller_for.ensures
    (informs_refused c.args.medium _ _ laws refl (unchanged_join _ _ _ told.unchanged tried.unchanged) (λ k other. no_more k other ∙ others k other)
    c.in-Err-teller_for.refused
    (λ k offset is. let why = tried.damaged k offset (c.in-Err-teller_for.is ∙ ap (λ (p : PartRefused). Err p) is) in
    (why.0 ∙ on, λ t. absurd (why.1 t c.number_of.result (subst (λ (i : Image). IsAloneOn c.number_of.result (content i c.number_of.result) c.in-Ok.alone) (sym (told.unchanged.reads t)) (c.in-Ok.ensures.opened t)))))
    (λ is. rose_after _ _ _ (sum_not_less _ _ told.cause.later.same_media told.cause.later.none_falls)
    (media_rose (g.M.Media.faults c.open.new.media) (g.M.Media.faults c.teller_for.new.media) _ tried.cause c.in-Err-teller_for.refused c.in-Err-teller_for.is is)))

pub returns-clause-owed : goal.returns-clause-owed
returns-clause-owed g c =
    let m = c.number_of.ensures.number in
    let told = c.open.ensures in
    let on = c.in-Ok.ensures.medium ∙ m in
    let tried = c.teller_for.ensures in
    let others = subst (λ n. ReadsNoOther n (g.M.Media.bytes_read c.args.world.now.media) (g.M.Media.bytes_read c.open.new.media)) m told.others in
    let no_more = subst (λ n. ReadsNoOther n (g.M.Media.bytes_read c.open.new.media) (g.M.Media.bytes_read c.teller_for.new.media)) on tried.others in
    informs_alone c.args.medium _ _ c.in-Ok-teller_for.teller
    (λ t. subst (λ n. IsToldAlone n (content (g.M.Media.disk c.args.world.now.media).reads n) c.in-Ok-teller_for.teller) m
    (subst (λ (i : Image). IsToldAlone c.number_of.result (content i c.number_of.result) c.in-Ok-teller_for.teller) (told.unchanged.reads t)
    (c.in-Ok-teller_for.ensures.told t c.number_of.result (subst (λ (i : Image). IsAloneOn c.number_of.result (content i c.number_of.result) c.in-Ok.alone) (sym (told.unchanged.reads t)) (c.in-Ok.ensures.opened t)))))
    _
    (c.rescue_opened.ensures.rescues c.in-Ok-teller_for.teller refl c.args.world.now.media (record {
      medium = on;
      alone = λ t. subst (λ n. IsAloneOn n (content (g.M.Media.disk c.args.world.now.media).reads n) c.in-Ok.alone) m (c.in-Ok.ensures.opened t);
      unchanged = unchanged_join _ _ _ told.unchanged tried.unchanged;
      others = λ k other. no_more k other ∙ others k other;
      later = none_falls_join _ _ _ told.cause.later tried.cause.later;
    }))

pub returns-clause-known : goal.returns-clause-known
returns-clause-known g c = (returns-clause-owed g c).own

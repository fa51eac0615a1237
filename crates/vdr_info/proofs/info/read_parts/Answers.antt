use Rattle.std.proofs.Common.{◌∙◌, ℕ, get_or, arith, subst, sym}
use Rattle.std.proofs.lemmas.Result.{err_from_is_err_and}
use Rattle.vdr_terms.proofs.Results.{same_err}
use Rattle.vdr_outside.proofs.Moments.{unchanged_join}
use Rattle.vdr_opening.specs.Costs.{ReadsParts}
use Rattle.vdr_info.proofs.InfoLemmas.{bytes_here, held_here, known_here, order_here, parts_read, text_here, text_there, unchanged_still}
use Rattle.vdr_info.proofs.info.read_parts.Goals as goal

pub returns-in_err-capsule-clause-legal : goal.returns-in_err-capsule-clause-legal
returns-in_err-capsule-clause-legal g c =
    let p = err_from_is_err_and c.from_residual.result c.from_residual.ensures.1 in
    rw (p.1, p.2) (λ k offset e told x holds is.
    let area = c.area_of.ensures in
    c.in_err-capsule.ensures.legal k offset (same_err _ _ e) told (x.placed 0)
    (known_here _ _ (unchanged_still (g.M.Media.disk c.args.media.now)) told x holds c.args.config.now is 0 (omega arith) c.area_of.result area.medium area.segment _ area.slots c.size.ensures)
    (order_here _ _ (unchanged_still (g.M.Media.disk c.args.media.now)) told x holds c.args.config.now is 0 (omega arith) c.area_of.result area.medium area.segment _ area.slots c.size.ensures))

pub returns-in_err-long_term-clause-legal : goal.returns-in_err-long_term-clause-legal
returns-in_err-long_term-clause-legal g c =
    let p = err_from_is_err_and c.from_residual-in_err-long_term.result c.from_residual-in_err-long_term.ensures.1 in
    rw (p.1, p.2) (λ k offset e told x holds is.
    let area = c.area_of-2.ensures in
    let same = c.survey.ensures.unchanged in
    let size = c.size-2.ensures ∙ (λ i. get_or (same.sizes i) 1 0) in
    c.in_err-long_term.ensures.legal k offset (same_err _ _ e) told (x.placed 1)
    (known_here _ _ same told x holds c.args.config.now is 1 (omega arith) c.area_of-2.result area.medium area.segment _ area.slots size)
    (order_here _ _ same told x holds c.args.config.now is 1 (omega arith) c.area_of-2.result area.medium area.segment _ area.slots size))

pub returns-in_err-text-clause-legal : goal.returns-in_err-text-clause-legal
returns-in_err-text-clause-legal g c =
    let p = err_from_is_err_and c.from_residual-in_err-text.result c.from_residual-in_err-text.ensures.1 in
    rw (p.1, p.2) (λ k offset e told x holds is.
    let same = unchanged_join _ _ _ c.survey.ensures.unchanged c.survey-2.ensures.unchanged in
    text_there _ _ same told x holds c.args.config.now is ((c.in_err-text.ensures.damaged k offset (same_err _ _ e)).2 told))

pub returns-clause-told : goal.returns-clause-told
returns-clause-told g c told x holds is =
    let first = c.area_of.ensures in
    let second = c.area_of-2.ensures in
    let same = c.survey.ensures.unchanged in
    let still = unchanged_still (g.M.Media.disk c.args.media.now) in
    let both = unchanged_join _ _ _ same c.survey-2.ensures.unchanged in
    let size = c.size-2.ensures ∙ (λ i. get_or (same.sizes i) 1 0) in
    record {
      capsule_is = held_here _ _ still told x holds c.args.config.now is 0 (omega arith) c.area_of.result first.medium first.segment _ first.slots c.size.ensures _ (c.in_ok-capsule.ensures.held told (x.placed 0)
          (known_here _ _ still told x holds c.args.config.now is 0 (omega arith) c.area_of.result first.medium first.segment _ first.slots c.size.ensures)
          (order_here _ _ still told x holds c.args.config.now is 0 (omega arith) c.area_of.result first.medium first.segment _ first.slots c.size.ensures));
      long_term_is = held_here _ _ same told x holds c.args.config.now is 1 (omega arith) c.area_of-2.result second.medium second.segment _ second.slots size _ (c.in_ok-long_term.ensures.held told (x.placed 1)
          (known_here _ _ same told x holds c.args.config.now is 1 (omega arith) c.area_of-2.result second.medium second.segment _ second.slots size)
          (order_here _ _ same told x holds c.args.config.now is 1 (omega arith) c.area_of-2.result second.medium second.segment _ second.slots size));
      text_is = text_here _ _ both told x holds c.args.config.now is c.in_ok-text.text.items c.in_ok-text.ensures.short (c.in_ok-text.ensures.text told);
    }

pub returns-clause-counts : goal.returns-clause-counts
returns-clause-counts g c told x holds is =
    let first = c.area_of.ensures in
    let second = c.area_of-2.ensures in
    let same = c.survey.ensures.unchanged in
    let still = unchanged_still (g.M.Media.disk c.args.media.now) in
    let size = c.size-2.ensures ∙ (λ i. get_or (same.sizes i) 1 0) in
    subst (λ (n : ℕ). ReadsParts n 16385 x.config.segment x.placed (g.M.Media.disk c.args.media.now).sizes (g.M.Media.bytes_read c.args.media.now) (g.M.Media.bytes_read c.read_text.new.media)) (sym holds.further)
    (parts_read x.config.segment x.placed (g.M.Media.disk c.args.media.now).sizes _ _ _ _
    (bytes_here _ _ still told x holds c.args.config.now is 0 (omega arith) c.area_of.result first.medium first.segment _ first.slots c.size.ensures _ _ (c.in_ok-capsule.ensures.counts told (x.placed 0)
    (known_here _ _ still told x holds c.args.config.now is 0 (omega arith) c.area_of.result first.medium first.segment _ first.slots c.size.ensures)))
    (bytes_here _ _ same told x holds c.args.config.now is 1 (omega arith) c.area_of-2.result second.medium second.segment _ second.slots size _ _ (c.in_ok-long_term.ensures.counts told (x.placed 1)
    (known_here _ _ same told x holds c.args.config.now is 1 (omega arith) c.area_of-2.result second.medium second.segment _ second.slots size)))
    c.read_text.ensures.counts)

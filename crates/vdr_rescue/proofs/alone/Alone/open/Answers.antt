use Rattle.std.proofs.Common.{rules, ◌≡◌, ℕ, List, get_or, length, sym, ap, ◌∙◌, subst}
use Rattle.std.proofs.lemmas.Result.{err_from_is_err_and}
use Rattle.vdr_terms.specs.Slots.{slot_count}
use Rattle.vdr_terms.proofs.Results.{same_err}
use Rattle.vdr_outside.specs.Disk.{Image, content}
use Rattle.vdr_outside.proofs.Counts.{none_falls_join}
use Rattle.vdr_outside.proofs.Moments.{size_read, unchanged_join}
use Rattle.vdr_rescue.specs.Fronts.{AreFronts}
use Rattle.vdr_rescue.specs.Saves.{AreSaves, saved_slots}
use Rattle.vdr_rescue.proofs.AloneLemmas.{opened_alone}
use Rattle.vdr_rescue.proofs.alone.Alone.open.Goals as goal

pub returns-in_err-fronts-clause-damaged : goal.returns-in_err-fronts-clause-damaged
returns-in_err-fronts-clause-damaged g c =
    let p = err_from_is_err_and c.from_residual-in_err-fronts.result c.from_residual-in_err-fronts.ensures.1 in
    rw (p.1, p.2) (λ k offset e. absurd (c.in_err-fronts.ensures.damaged k offset (same_err _ _ e)))

pub returns-in_default-clause-unchanged : goal.returns-in_default-clause-unchanged
returns-in_default-clause-unchanged g c = unchanged_join _ _ _ (unchanged_join _ _ _ c.read_before.ensures.unchanged c.read_saves_of.ensures.unchanged) c.read_fronts.ensures.unchanged

pub returns-in_default-clause-others : goal.returns-in_default-clause-others
returns-in_default-clause-others g c k other =
    c.read_fronts.ensures.counts.others k (λ e. other (e ∙ c.area_of-area.ensures.medium)) ∙ c.read_saves_of.ensures.counts.others k other ∙ c.read_before.ensures.counts.others k other

pub returns-clause-unchanged : goal.returns-clause-unchanged
returns-clause-unchanged g c = unchanged_join _ _ _ (unchanged_join _ _ _ c.read_before.ensures.unchanged c.read_saves_of.ensures.unchanged) c.read_fronts.ensures.unchanged

pub returns-clause-opened : goal.returns-clause-opened
returns-clause-opened g c told =
    let m = c.args.m in
    let b = content (g.M.Media.disk c.args.media.now).reads m in
    let area = c.area_of-area.result in
    let saves_read : content (g.M.Media.disk c.read_before.new.media).reads m ≡ b = ap (λ (i : Image). content i m) (c.read_before.ensures.unchanged.reads told) in
    let fronts_read : content (g.M.Media.disk c.read_saves_of.new.media).reads m ≡ b = ap (λ (i : Image). content i m) (c.read_saves_of.ensures.unchanged.reads told ∙ c.read_before.ensures.unchanged.reads told) in
    let segment : area.segment ≡ c.in_ok-config.config.segment = search rules in
    let size : c.size.result ≡ length b =
    c.size.ensures ∙ ap (λ (s : List ℕ). get_or s m 0) (c.read_saves_of.ensures.unchanged.sizes ∙ c.read_before.ensures.unchanged.sizes) ∙ sym (size_read (g.M.Media.disk c.args.media.now) m told) in
    let slots : area.slots ≡ slot_count c.in_ok-config.config.segment c.size.result = search rules in
    let saved : AreSaves b (saved_slots m c.in_ok-config.config) c.in_ok-saves.saves =
    subst (λ (l : List ℕ). AreSaves l (saved_slots m c.in_ok-config.config) c.in_ok-saves.saves) saves_read (c.in_ok-saves.ensures.saves told) in
    let are : AreFronts area.segment b area.slots c.in_ok-fronts.fronts =
    subst (λ (l : List ℕ). AreFronts area.segment l area.slots c.in_ok-fronts.fronts) fronts_read
    (subst (λ (k : ℕ). AreFronts area.segment (content (g.M.Media.disk c.read_saves_of.new.media).reads k) area.slots c.in_ok-fronts.fronts) c.area_of-area.ensures.medium (c.in_ok-fronts.ensures.shown told)) in
    opened_alone m b c.in_ok-config.config area c.in_ok-saves.saves c.in_ok-fronts.fronts c.in_ok-config.legal c.in-Ok.alone
    (c.in_ok-config.ensures.kind told) (c.in_ok-config.ensures.config told) (c.in_ok-config.ensures.legal told)
    c.area_of-area.ensures.medium segment (slots ∙ ap (λ (n : ℕ). slot_count c.in_ok-config.config.segment n) size)
    saved are
    (search rules) c.in-Ok.ensures.legal c.in-Ok.ensures.saves c.in-Ok.ensures.area c.in-Ok.ensures.order c.in-Ok.ensures.shown

pub returns-clause-cause : goal.returns-clause-cause
returns-clause-cause g c = record {
  later = none_falls_join _ _ _ (none_falls_join _ _ _ c.read_before.ensures.cause.later c.read_saves_of.ensures.cause.later) c.read_fronts.ensures.cause.later;
  rose = λ fault. let none : ⊥ = cc in absurd none;
}

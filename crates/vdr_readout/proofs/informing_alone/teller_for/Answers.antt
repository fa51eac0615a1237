use Rattle.std.proofs.Common.{◌≡◌, ◌∙◌, ℕ, List, get_or, length, sym, ap, subst}
use Rattle.std.proofs.lemmas.Result.{err_from_is_err_and}
use Rattle.vdr_terms.specs.Slots.{slot_count}
use Rattle.vdr_terms.proofs.Results.{same_err}
use Rattle.vdr_outside.specs.Disk.{Image, content}
use Rattle.vdr_outside.proofs.Moments.{size_read}
use Rattle.vdr_config.specs.Configuration.{Configuration}
use Rattle.vdr_media.specs.Medium.{HoldsText}
use Rattle.vdr_info.specs.Used.{AreUsed}
use Rattle.vdr_info.specs.Infos.{TellerState}
use Rattle.vdr_readout.specs.Informs.{IsToldAlone, below_text}
use Rattle.vdr_readout.proofs.AloneInfoLemmas.{no_text, teller_is, told_alone}
use Rattle.vdr_readout.proofs.informing_alone.teller_for.Goals as goal

pub returns-in_err-used-clause-damaged : goal.returns-in_err-used-clause-damaged
returns-in_err-used-clause-damaged g c =
    let p = err_from_is_err_and c.from_residual.result c.from_residual.ensures.1 in
    rw (p.1, p.2) (λ k offset e. absurd (c.in_err-used.ensures.legal k offset (same_err _ _ e)))

pub returns-in_err-text-clause-damaged : goal.returns-in_err-text-clause-damaged
returns-in_err-text-clause-damaged g c =
    let p = err_from_is_err_and c.from_residual-in_err-text.result c.from_residual-in_err-text.ensures.1 in
    rw (p.1, p.2) (λ k offset e.
    let h = c.in_err-text.ensures.damaged k offset (same_err _ _ e) in (
      h.0 ∙ c.medium-m.ensures,
      λ t m alone. no_text c.args.alone.now.config (content (g.M.Media.disk c.args.media.now).reads m) alone.config
          (λ text short holds. h.2 t text short (subst (λ (i : Image). HoldsText text (content i c.medium-m.result)) (sym (c.count_used.ensures.unchanged.reads t))
          (subst (λ (n : ℕ). HoldsText text (content (g.M.Media.disk c.args.media.now).reads n)) (sym (c.medium-m.ensures ∙ alone.medium)) holds))),
    ))

pub returns-clause-told : goal.returns-clause-told
returns-clause-told g c t m alone =
    let area = c.area_of-area.ensures in
    let on = c.medium-m.ensures ∙ alone.medium in
    let config = ap (λ (d : Configuration). d.segment) c.config.ensures in
    let size : c.size.result ≡ length (content (g.M.Media.disk c.args.media.now).reads m) = c.size.ensures ∙ ap (λ (n : ℕ). get_or (g.M.Media.disk c.args.media.now).sizes n 0) on ∙ sym (size_read (g.M.Media.disk c.args.media.now) m t) in
    subst (λ (x : TellerState). IsToldAlone m (content (g.M.Media.disk c.args.media.now).reads m) x)
    (sym (teller_is c.new.result c.empty.result _ c.in-Ok.below.items c.new.ensures c.empty.ensures))
    (told_alone m (content (g.M.Media.disk c.args.media.now).reads m) c.args.alone.now alone c.area_of-area.result (area.medium ∙ on) (area.segment ∙ config)
    (area.slots ∙ (λ i. slot_count (config i) (size i))) c.in_ok-used.used c.in_ok-text.text.items c.in-Ok.below.items
    (subst (λ (n : ℕ). AreUsed c.area_of-area.result.segment (content (g.M.Media.disk c.args.media.now).reads n) c.area_of-area.result.slots c.in_ok-used.used) (area.medium ∙ on) (c.in_ok-used.ensures.used t))
    (subst (λ (i : Image). HoldsText c.in_ok-text.text.items (content i m)) (c.count_used.ensures.unchanged.reads t)
    (subst (λ (n : ℕ). HoldsText c.in_ok-text.text.items (content (g.M.Media.disk c.count_used.new.media).reads n)) on (c.in_ok-text.ensures.text t))) c.in_ok-text.ensures.short
    (c.in-Ok.ensures ∙ ap (λ (text : List ℕ). below_text c.args.alone.now.saves.table text) c.deref.ensures.value))

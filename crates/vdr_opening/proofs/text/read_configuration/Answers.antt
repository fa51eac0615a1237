use Rattle.std.proofs.Common.{ℕ, List, get_or, sym, ◌∙◌, ap, subst}
use Rattle.std.proofs.lemmas.Result.{err_from_is_err_and}
use Rattle.vdr_terms.specs.Needs.{Fits}
use Rattle.vdr_terms.proofs.Results.{same_err}
use Rattle.vdr_outside.specs.Disk.{content}
use Rattle.vdr_config.specs.Sizes.{sizes_of}
use Rattle.vdr_media.specs.Medium.{HoldsText}
use Rattle.vdr_opening.specs.Parts.{text_of}
use Rattle.vdr_opening.specs.Refusals.{RefusesConfiguration}
use Rattle.vdr_opening.proofs.Fronts.{named, refused_textless, refused_text, has_front, other_config}
use Rattle.vdr_outside.proofs.Moments.{size_read}
use Rattle.vdr_opening.proofs.text.read_configuration.Goals as goal

pub returns-in_err-text-clause-damaged : goal.returns-in_err-text-clause-damaged
returns-in_err-text-clause-damaged g c =
    let p = err_from_is_err_and c.from_residual.result c.from_residual.ensures.1 in
    rw (p.1, p.2) (λ k offset e. let h = c.in_err-text.ensures.damaged k offset (same_err _ _ e) in (
      h.0,
      λ told. subst (λ (n : ℕ). RefusesConfiguration c.args.m (text_of c.args.before) (content (g.M.Media.disk c.args.media.now).reads c.args.m) n) (sym h.1) (refused_textless _ _ _ _ (c.requires.superblock told) (h.2 told)),
    ))

pub returns-in_err-configured-clause-damaged : goal.returns-in_err-configured-clause-damaged
returns-in_err-configured-clause-damaged g c =
    let p = err_from_is_err_and c.from_residual-in_err-configured.result c.from_residual-in_err-configured.ensures.1 in
    rw (p.1, p.2) (λ k offset e. let h = c.in_err-configured.ensures.damaged k offset (same_err _ _ e) in (
      h.0,
      λ told. subst (λ (n : ℕ). RefusesConfiguration c.args.m (text_of c.args.before) (content (g.M.Media.disk c.args.media.now).reads c.args.m) n) (sym h.1)
          (refused_text _ _ _ _ (c.requires.superblock told) c.in_ok-text.text.items c.in_ok-text.ensures.short (c.in_ok-text.ensures.text told)
          (λ config reads segment fits same. h.2 config reads same)),
    ))

pub returns-then-not-goes_with-clause-damaged : goal.returns-then-not-goes_with-clause-damaged
returns-then-not-goes_with-clause-damaged g c k offset e =
    let h = named _ _ _ _ _ c.refused.ensures e in (
      h.0,
      λ told.
          let measures = c.size.ensures ∙ ap (λ (s : List ℕ). get_or s c.args.m 0) c.read_text.ensures.unchanged.sizes ∙ sym (size_read (g.M.Media.disk c.args.media.now) c.args.m told) in
          subst (λ (n : ℕ). RefusesConfiguration c.args.m (text_of c.args.before) (content (g.M.Media.disk c.args.media.now).reads c.args.m) n) (sym h.1)
          (refused_text _ _ _ _ (c.requires.superblock told) c.in_ok-text.text.items c.in_ok-text.ensures.short (c.in_ok-text.ensures.text told)
          (λ config reads segment fits same. other_config c.args.m c.args.segment _ _ _ _ _ _ _ c.in_ok-configured.ensures.text c.in_ok-configured.ensures.reads reads segment fits measures c.goes_with.ensures c.if-not-goes_with.true)),
    )

pub returns-clause-front : goal.returns-clause-front
returns-clause-front g c told =
    let measures = c.size.ensures ∙ ap (λ (s : List ℕ). get_or s c.args.m 0) c.read_text.ensures.unchanged.sizes ∙ sym (size_read (g.M.Media.disk c.args.media.now) c.args.m told) in
    let h = c.goes_with.ensures.0 c.if-not-goes_with.false in
    has_front c.args.m c.args.segment (text_of c.args.before) _ (c.requires.superblock told) _ _
    (subst (λ (l : List ℕ). HoldsText l (content (g.M.Media.disk c.args.media.now).reads c.args.m)) (sym c.in_ok-configured.ensures.text) (c.in_ok-text.ensures.text told)) c.in_ok-configured.ensures.reads h.0
    (subst (λ (n : ℕ). Fits (sizes_of c.in_ok-configured.configured.config) c.args.m n) measures h.1)

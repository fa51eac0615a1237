use Rattle.std.proofs.Common.{sym, subst}
use Rattle.std.proofs.lemmas.Result.{err_from_is_err_and}
use Rattle.vdr_terms.proofs.Results.{same_err}
use Rattle.vdr_outside.specs.Disk.{Image, content}
use Rattle.vdr_outside.proofs.Moments.{unchanged_join}
use Rattle.vdr_media.specs.Medium.{HoldsText}
use Rattle.vdr_compare.proofs.Opened.{no_text}
use Rattle.vdr_compare.proofs.opening.open_with_text.Goals as goal

pub returns-in_err-text-clause-damaged : goal.returns-in_err-text-clause-damaged
returns-in_err-text-clause-damaged g c =
    let p = err_from_is_err_and c.from_residual-in_err-text.result c.from_residual-in_err-text.ensures.1 in
    rw (p.1, p.2) (λ k offset e.
    let h = c.in_err-text.ensures.damaged k offset (same_err _ _ e) in (
      h.0,
      λ t. no_text c.in_ok-alone.alone.config (content (g.M.Media.disk c.args.media.now).reads c.args.m) (c.in_ok-alone.ensures.opened t).config
          (λ text short holds. h.2 t text short (subst (λ (i : Image). HoldsText text (content i c.args.m)) (sym (c.open.ensures.unchanged.reads t)) holds)),
    ))

pub returns-clause-text : goal.returns-clause-text
returns-clause-text g c t = subst (λ (i : Image). HoldsText c.in_ok-text.text.items (content i c.args.m)) (c.open.ensures.unchanged.reads t) (c.in_ok-text.ensures.text t)

pub returns-clause-unchanged : goal.returns-clause-unchanged
returns-clause-unchanged g c = unchanged_join _ _ _ c.open.ensures.unchanged c.read_text.ensures.unchanged

use Rattle.std.proofs.Common.{◌≡◌, ℕ, rules, bytes_eq, sym, subst, arith}
use Rattle.std.proofs.lemmas.Result.{err_from_is_err_and}
use Rattle.vdr_terms.proofs.Results.{same_err}
use Rattle.vdr_outside.specs.Disk.{Image, content}
use Rattle.vdr_outside.proofs.Counts.{none_falls_join, none_fell}
use Rattle.vdr_outside.proofs.Moments.{unchanged_join}
use Rattle.vdr_media.specs.Medium.{HoldsText}
use Rattle.vdr_rescue.specs.Alones.{IsAloneOn, RefusesAlone}
use Rattle.vdr_compare.proofs.Opened.{part_done, part_failed}
use Rattle.vdr_compare.proofs.opening.open_both.Goals as goal

pub returns-in_err-capsule-clause-damaged : goal.returns-in_err-capsule-clause-damaged
returns-in_err-capsule-clause-damaged g c =
    let p = err_from_is_err_and c.from_residual.result c.from_residual.ensures.1 in
    rw (p.1, p.2) (λ k offset e t.
    let h = c.in_err-capsule.ensures.damaged k offset (same_err _ _ e) in
    let first = h.0 in
    (omega (arith, first), subst (λ (n : ℕ). RefusesAlone n (content (g.M.Media.disk c.args.media.now).reads n) offset) (sym h.0) (h.1 t)))

pub returns-in_err-capsule-clause-cause : goal.returns-in_err-capsule-clause-cause
returns-in_err-capsule-clause-cause g c =
    let p = err_from_is_err_and c.from_residual.result c.from_residual.ensures.1 in
    part_failed 0 _ _ _ c.open_with_text.result c.in_err-capsule.field-0.0 c.from_residual.result p.0 c.in_err-capsule.was p.1 p.2 (none_fell _) c.open_with_text.ensures.cause

pub returns-in_err-longterm-clause-damaged : goal.returns-in_err-longterm-clause-damaged
returns-in_err-longterm-clause-damaged g c =
    let p = err_from_is_err_and c.from_residual-in_err-longterm.result c.from_residual-in_err-longterm.ensures.1 in
    rw (p.1, p.2) (λ k offset e t.
    let h = c.in_err-longterm.ensures.damaged k offset (same_err _ _ e) in
    let second = h.0 in (
      omega (arith, second),
      subst (λ (i : Image). RefusesAlone k (content i k) offset) (c.open_with_text.ensures.unchanged.reads t)
          (subst (λ (n : ℕ). RefusesAlone n (content (g.M.Media.disk c.open_with_text.new.media).reads n) offset) (sym h.0) (h.1 t)),
    ))

pub returns-in_err-longterm-clause-cause : goal.returns-in_err-longterm-clause-cause
returns-in_err-longterm-clause-cause g c =
    let p = err_from_is_err_and c.from_residual-in_err-longterm.result c.from_residual-in_err-longterm.ensures.1 in
    part_failed 1 _ _ _ c.open_with_text-2.result c.in_err-longterm.field-0.0 c.from_residual-in_err-longterm.result p.0 c.in_err-longterm.was p.1 p.2
    c.open_with_text.ensures.cause.later c.open_with_text-2.ensures.cause

pub returns-clause-longterm : goal.returns-clause-longterm
returns-clause-longterm g c t =
    subst (λ (i : Image). IsAloneOn 1 (content i 1) c.in_ok-longterm.longterm) (c.open_with_text.ensures.unchanged.reads t) (c.in_ok-longterm.ensures.alone t)

pub returns-clause-alike : goal.returns-clause-alike
returns-clause-alike g c t =
    let same : c.eq-alike.result ≡ bytes_eq c.in_ok-capsule.capsule_text.items c.in_ok-longterm.longterm_text.items = search rules in (
      c.in_ok-capsule.capsule_text.items,
      c.in_ok-longterm.longterm_text.items,
      c.in_ok-capsule.ensures.text t,
      subst (λ (i : Image). HoldsText c.in_ok-longterm.longterm_text.items (content i 1)) (c.open_with_text.ensures.unchanged.reads t) (c.in_ok-longterm.ensures.text t),
      same,
    )

pub returns-clause-unchanged : goal.returns-clause-unchanged
returns-clause-unchanged g c = unchanged_join _ _ _ c.open_with_text.ensures.unchanged c.open_with_text-2.ensures.unchanged

pub returns-clause-cause : goal.returns-clause-cause
returns-clause-cause g c = part_done _ _ _ (none_falls_join _ _ _ c.open_with_text.ensures.cause.later c.open_with_text-2.ensures.cause.later)

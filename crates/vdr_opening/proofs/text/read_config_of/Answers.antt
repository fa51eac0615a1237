use Rattle.std.proofs.Common.{◌≡◌, ℕ, List, Ok, subst}
use Rattle.std.proofs.lemmas.Result.{err_from_is_err_and}
use Rattle.vdr_terms.proofs.Results.{same_err}
use Rattle.vdr_outside.specs.Disk.{content}
use Rattle.vdr_config.specs.Grammar.{configuration}
use Rattle.vdr_media.proofs.Rooms.{text_fits}
use Rattle.vdr_opening.proofs.ContentsHeld.{one_text}
use Rattle.vdr_opening.proofs.text.read_config_of.Goals as goal

pub returns-in_err-text-clause-damaged : goal.returns-in_err-text-clause-damaged
returns-in_err-text-clause-damaged g c =
    let p = err_from_is_err_and c.from_residual.result c.from_residual.ensures.1 in
    rw (p.1, p.2) (λ k offset e. let h = c.in_err-text.ensures.damaged k offset (same_err _ _ e) in
    (h.0, h.1, λ told d x. h.2 told x.text (text_fits x.text d x.reads) x.holds))

pub returns-in_err-configured-clause-damaged : goal.returns-in_err-configured-clause-damaged
returns-in_err-configured-clause-damaged g c =
    let p = err_from_is_err_and c.from_residual-in_err-configured.result c.from_residual-in_err-configured.ensures.1 in
    rw (p.1, p.2) (λ k offset e. let h = c.in_err-configured.ensures.damaged k offset (same_err _ _ e) in (
      h.0,
      h.1,
      λ told d x.
          let one = one_text x.text c.in_ok-text.text.items (content (g.M.Media.disk c.args.media.now).reads c.args.m) x.holds (c.in_ok-text.ensures.text told) (text_fits x.text d x.reads) c.in_ok-text.ensures.short in
          h.2 d (subst (λ (l : List ℕ). configuration l ≡ Ok d) one x.reads) tt,
    ))

pub returns-clause-config : goal.returns-clause-config
returns-clause-config g c told = record {
  text = c.in_ok-text.text.items;
  holds = c.in_ok-text.ensures.text told;
  reads = subst (λ (l : List ℕ). configuration l ≡ Ok c.in_ok-configured.configured.config) c.in_ok-configured.ensures.text c.in_ok-configured.ensures.reads;
}

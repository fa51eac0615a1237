use Rattle.std.proofs.Common.{ℕ, inl, inr, sym, ap, ◌∙◌, subst, arith}
use Rattle.std.specs.Prelude.{◌↔◌, IsTrue}
use Rattle.std.proofs.lemmas.Result.{err_from_is_err_and}
use Rattle.vdr_terms.proofs.Results.{same_err}
use Rattle.vdr_outside.specs.Disk.{content}
use Rattle.vdr_outside.proofs.Moments.{size_read}
use Rattle.vdr_config.specs.Configuration.{Configuration}
use Rattle.vdr_media.specs.Medium.{IsSuperblock}
use Rattle.vdr_opening.specs.Media.{HoldsConfigText}
use Rattle.vdr_opening.proofs.Rings.{same_content}
use Rattle.vdr_rescue.proofs.AloneLemmas.{kind_here, legal_by, other_kind}
use Rattle.vdr_rescue.proofs.JudgeLemmas.{clash}
use Rattle.vdr_rescue.proofs.alone.read_before.Goals as goal

pub returns-in_err-bytes-clause-damaged : goal.returns-in_err-bytes-clause-damaged
returns-in_err-bytes-clause-damaged g c =
    let p = err_from_is_err_and c.from_residual.result c.from_residual.ensures.1 in
    rw (p.1, p.2) (λ k offset e. let h = c.in_err-bytes.ensures.damaged k offset (same_err _ _ e) in
    (h.0, λ told. inl (λ kind. let less = h.2 told in let room = kind.room in omega (arith, less, room), h.1)))

pub returns-then-not-is_of_kind-clause-damaged : goal.returns-then-not-is_of_kind-clause-damaged
returns-then-not-is_of_kind-clause-damaged g c k offset e = (
  cc,
  λ told. inl (other_kind c.args.m _ c.in_ok-bytes.bytes (c.in_ok-bytes.ensures.bytes told) (λ is. clash (sym c.if-not-is_of_kind.true ∙ c.is_of_kind.ensures.1 is)), cc),
)

pub returns-in_err-config-clause-damaged : goal.returns-in_err-config-clause-damaged
returns-in_err-config-clause-damaged g c =
    let p = err_from_is_err_and c.from_residual-in_err-config.result c.from_residual-in_err-config.ensures.1 in
    rw (p.1, p.2) (λ k offset e. let h = c.in_err-config.ensures.damaged k offset (same_err _ _ e) in (
      h.0,
      λ told. inr (
        kind_here c.args.m _ c.in_ok-bytes.bytes (c.in_ok-bytes.ensures.bytes told) (let size = size_read (g.M.Media.disk c.args.media.now) c.args.m told in let room = c.in_ok-bytes.ensures.room in omega (arith, size, room))
            (c.is_of_kind.ensures.0 c.if-not-is_of_kind.false),
        λ d holds. h.2 told d (subst (HoldsConfigText d) (sym (same_content c.args.m _ _ c.read_first.ensures.unchanged told)) holds),
        h.1,
      ),
    ))

pub returns-clause-kind : goal.returns-clause-kind
returns-clause-kind g c told =
    kind_here c.args.m _ c.in_ok-bytes.bytes (c.in_ok-bytes.ensures.bytes told) (let size = size_read (g.M.Media.disk c.args.media.now) c.args.m told in let room = c.in_ok-bytes.ensures.room in omega (arith, size, room))
    (c.is_of_kind.ensures.0 c.if-not-is_of_kind.false)

pub returns-clause-config : goal.returns-clause-config
returns-clause-config g c told = subst (HoldsConfigText c.in_ok-config.config) (same_content c.args.m _ _ c.read_first.ensures.unchanged told) (c.in_ok-config.ensures.config told)

pub returns-clause-legal : goal.returns-clause-legal
returns-clause-legal g c told =
    subst (λ (k : ℕ). IsTrue c.is_superblock-legal.result ↔ IsSuperblock c.args.m k (content (g.M.Media.disk c.args.media.now).reads c.args.m)) (ap (λ (x : Configuration). x.segment) c.config.view_is)
    (legal_by c.args.m _ c.in_ok-bytes.bytes (c.in_ok-bytes.ensures.bytes told) c.size-size.result _ _ (size_read (g.M.Media.disk c.args.media.now) c.args.m told ∙ sym c.size-size.ensures)
    (let is = c.size-size.ensures in let room = c.in_ok-bytes.ensures.room in omega (arith, is, room)) c.is_superblock-legal.ensures)

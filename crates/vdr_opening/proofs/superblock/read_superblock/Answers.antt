use Rattle.std.proofs.Common.{ℕ, arith, refl, sym, ◌∙◌, subst}
use Rattle.vdr_outside.specs.Disk.{content}
use Rattle.vdr_outside.proofs.Moments.{size_read}
use Rattle.vdr_opening.specs.Refusals.{RefusesSuperblock}
use Rattle.vdr_opening.proofs.Fronts.{named, is_superblock, refused_front}
use Rattle.vdr_opening.proofs.superblock.read_superblock.Goals as goal

pub returns-in-Some-clause-legal : goal.returns-in-Some-clause-legal
returns-in-Some-clause-legal g c told =
    is_superblock _ _ _ _ _ (c.in_ok-read.ensures.bytes told) (size_read (g.M.Media.disk c.args.media.now) c.args.m told ∙ sym c.size-size.ensures) (omega (arith, c.if-size-lt-SLOTS_FROM.false)) c.in-Some.ensures.some

pub returns-in-None-clause-damaged : goal.returns-in-None-clause-damaged
returns-in-None-clause-damaged g c k offset e =
    let h = named _ _ _ _ _ refl e in (
      h.0,
      λ told. subst (λ (n : ℕ). RefusesSuperblock c.args.m (content (g.M.Media.disk c.args.media.now).reads c.args.m) n) (sym h.1)
          (refused_front _ _ _ _ (c.in_ok-read.ensures.bytes told) (size_read (g.M.Media.disk c.args.media.now) c.args.m told ∙ sym c.size-size.ensures) c.in-None.ensures.none),
    )

use Rattle.std.proofs.Common.{◌∙◌, List, ℕ, sym, subst}
use Rattle.std.specs.Prelude.{OnOk}
use Rattle.std.specs.Io.KnownBytes.{Appends}
use Rattle.vdr_outside.specs.Writes.{AppendsFront}
use Rattle.vdr_play.proofs.TrackLemmas.{image_under, image_seen, pcm_under, pcm_seen}
use Rattle.vdr_play.proofs.verdicts.print_under.Goals as goal

pub returns-in-Image-clause-all : goal.returns-in-Image-clause-all
returns-in-Image-clause-all g c =
    let text = image_under c.args.tracks.now c.tracks.inside.image c.tracks.inside.pcm c.args.payload.now (sym c.in-Image.is ∙ c.token.ensures) c.tracks.view_is in
    subst (λ (t : List ℕ). OnOk c.print_image.result (Appends (g.O.Sink.taken c.args.out.now) (g.O.Sink.taken c.print_image.new.out) t)) text c.print_image.ensures.all

pub returns-in-Image-clause-front : goal.returns-in-Image-clause-front
returns-in-Image-clause-front g c =
    let text = image_under c.args.tracks.now c.tracks.inside.image c.tracks.inside.pcm c.args.payload.now (sym c.in-Image.is ∙ c.token.ensures) c.tracks.view_is in
    subst (λ (t : List ℕ). AppendsFront (g.O.Sink.taken c.args.out.now) (g.O.Sink.taken c.print_image.new.out) t) text c.print_image.ensures.front

pub returns-in-Image-clause-seen : goal.returns-in-Image-clause-seen
returns-in-Image-clause-seen g c =
    image_seen c.args.tracks.now c.tracks.inside.image c.print_image.new.track c.tracks.inside.pcm c.args.payload.now (sym c.in-Image.is ∙ c.token.ensures) c.tracks.view_is c.print_image.ensures.seen

pub returns-in-Pcm-clause-all : goal.returns-in-Pcm-clause-all
returns-in-Pcm-clause-all g c =
    let text = pcm_under c.args.tracks.now c.tracks.inside.image c.tracks.inside.pcm c.args.payload.now (sym c.in-Pcm.is ∙ c.token.ensures) c.tracks.view_is in
    subst (λ (t : List ℕ). OnOk c.print_pcm.result (Appends (g.O.Sink.taken c.args.out.now) (g.O.Sink.taken c.print_pcm.new.out) t)) text c.print_pcm.ensures.all

pub returns-in-Pcm-clause-front : goal.returns-in-Pcm-clause-front
returns-in-Pcm-clause-front g c =
    let text = pcm_under c.args.tracks.now c.tracks.inside.image c.tracks.inside.pcm c.args.payload.now (sym c.in-Pcm.is ∙ c.token.ensures) c.tracks.view_is in
    subst (λ (t : List ℕ). AppendsFront (g.O.Sink.taken c.args.out.now) (g.O.Sink.taken c.print_pcm.new.out) t) text c.print_pcm.ensures.front

pub returns-in-Pcm-clause-seen : goal.returns-in-Pcm-clause-seen
returns-in-Pcm-clause-seen g c =
    pcm_seen c.args.tracks.now c.tracks.inside.image c.tracks.inside.pcm c.print_pcm.new.track c.args.payload.now (sym c.in-Pcm.is ∙ c.token.ensures) c.tracks.view_is c.print_pcm.ensures.seen

use Rattle.std.proofs.Common.{◌∙◌}
use Rattle.vdr_reply.specs.Texts.{state_line}
use Rattle.vdr_reply.proofs.Answered.{status_answer}
use Rattle.vdr_reply.proofs.answering.answer_status.Goals as goal

pub returns : goal.returns
returns g c = record {
  answered = λ opening events t0 h. status_answer opening events t0 c.args.recorder.now (g.M.Media.disk c.args.media.now) h c.args.recorder.now.vault.config.channels _ c.of_state.result g.W.Watch.hears (g.W.Watch.seen c.args.watch.now) _ c.requires.works
      (c.look_watched.ensures.told opening events t0 h) (c.of_state.ensures ∙ (λ i. state_line (c.status.ensures.records i) (c.status.ensures.tick i) (c.status.ensures.incidents i)));
  watched = c.look_watched.ensures.watched;
}

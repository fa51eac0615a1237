use Rattle.std.proofs.Common.{[]}
use Rattle.vdr_recorder.specs.Recordings.{HasRecorded}
use Rattle.vdr_session.proofs.recording.record_and_reply.Given as goal

abbrev pub ghosts-run_lent : goal.ghosts-run_lent
ghosts-run_lent g a = record {
  name = a.media.ghost_name;
  watch_name = a.watch.ghost_name;
  began = λ opening t0. HasRecorded opening [] t0 a.recorder (g.M.Media.disk a.media.now);
  clock = (g.M.Media.disk a.media.now).clock;
  now = (g.M.Media.disk a.media.now).now;
  since = (g.M.Media.disk a.media.now).since;
  until = (g.M.Media.disk a.media.now).until;
  reads = (g.M.Media.disk a.media.now).reads;
  channels = a.recorder.vault.config.channels;
  heard = g.W.Watch.seen a.watch.now;
  rates = a.recorder.vault.config.groups;
  room = a.recorder.vault.config.batch;
  sizes = (g.M.Media.disk a.media.now).sizes;
  faults = g.M.Media.faults a.media.now;
}

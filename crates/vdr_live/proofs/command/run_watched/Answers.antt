use Rattle.vdr_command.specs.Outside.{MediaSeen}
use Rattle.vdr_live.specs.Links.{seen_links}
use Rattle.vdr_live.specs.Ports.{seen_ports}
use Rattle.vdr_live.proofs.Lives.{record_life, record_lives}
use Rattle.vdr_live.proofs.command.run_watched.Goals as goal

pub returns-in_default-answer_record-clause-lives : goal.returns-in_default-answer_record-clause-lives
returns-in_default-answer_record-clause-lives g c =
    let old : MediaSeen g.M.Media.tells g.M.Media.tells_images = record { disk = g.M.Media.disk c.args.world.now.media; faults = g.M.Media.faults c.args.world.now.media; bytes_read = g.M.Media.bytes_read c.args.world.now.media } in
    let new : MediaSeen g.M.Media.tells g.M.Media.tells_images = record { disk = g.M.Media.disk c.answer_record.new.world.media; faults = g.M.Media.faults c.answer_record.new.world.media; bytes_read = g.M.Media.bytes_read c.answer_record.new.world.media } in
    record {
      ours = λ told ours. record_lives c.in-Some.turns (seen_ports g.P.Port c.args.lanes.now) (seen_ports g.P.Port c.answer_record.new.lanes) (seen_links g.L.Link c.args.desks.now) (seen_links g.L.Link c.answer_record.new.desks) old new g.W.Watch.hears _ c.answer_record.ensures.owed.answer c.answer_record.ensures.owed.ends told ours;
      life = λ config text runs told nothing live. record_life c.in-Some.turns (seen_ports g.P.Port c.args.lanes.now) (seen_ports g.P.Port c.answer_record.new.lanes) (seen_links g.L.Link c.args.desks.now) (seen_links g.L.Link c.answer_record.new.desks) old new g.W.Watch.hears _ config text runs c.answer_record.ensures.owed.answer c.answer_record.ensures.owed.ends
          told live;
    }

pub returns-clause-lives : goal.returns-clause-lives
returns-clause-lives g c =
    let old : MediaSeen g.M.Media.tells g.M.Media.tells_images = record { disk = g.M.Media.disk c.args.world.now.media; faults = g.M.Media.faults c.args.world.now.media; bytes_read = g.M.Media.bytes_read c.args.world.now.media } in
    let new : MediaSeen g.M.Media.tells g.M.Media.tells_images = record { disk = g.M.Media.disk c.answer_record.new.world.media; faults = g.M.Media.faults c.answer_record.new.world.media; bytes_read = g.M.Media.bytes_read c.answer_record.new.world.media } in
    record {
      ours = λ told ours. record_lives c.in-Some.turns (seen_ports g.P.Port c.args.lanes.now) (seen_ports g.P.Port c.answer_record.new.lanes) (seen_links g.L.Link c.args.desks.now) (seen_links g.L.Link c.answer_record.new.desks) old new g.W.Watch.hears _ c.answer_record.ensures.owed.answer c.answer_record.ensures.owed.ends told ours;
      life = λ config text runs told nothing live. record_life c.in-Some.turns (seen_ports g.P.Port c.args.lanes.now) (seen_ports g.P.Port c.answer_record.new.lanes) (seen_links g.L.Link c.args.desks.now) (seen_links g.L.Link c.answer_record.new.desks) old new g.W.Watch.hears _ config text runs c.answer_record.ensures.owed.answer c.answer_record.ensures.owed.ends
          told live;
    }

-- `record` is none of the other words.
pub returns-in_default-answer_record-clause-answers : goal.returns-in_default-answer_record-clause-answers
returns-in_default-answer_record-clause-answers g c = λ other. absurd (other c.in-Some.turns c.in-Some.ensures.only)

pub returns-in_default-answer_record-clause-completes : goal.returns-in_default-answer_record-clause-completes
returns-in_default-answer_record-clause-completes g c = λ other. absurd (other c.in-Some.turns c.in-Some.ensures.only)

pub returns-clause-answers : goal.returns-clause-answers
returns-clause-answers g c = λ other. absurd (other c.in-Some.turns c.in-Some.ensures.only)

pub returns-clause-completes : goal.returns-clause-completes
returns-clause-completes g c = λ other. absurd (other c.in-Some.turns c.in-Some.ensures.only)

-- All other words are those of `run_alone`.
pub returns-in_default-clause-answers : goal.returns-in_default-clause-answers
returns-in_default-clause-answers g c = λ other. c.run_alone_watched.ensures.answers

pub returns-in_default-clause-completes : goal.returns-in_default-clause-completes
returns-in_default-clause-completes g c = λ other. c.run_alone_watched.ensures.completes

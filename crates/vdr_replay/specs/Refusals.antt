-- Why a feed is not recorded, by what refused it.
use Rattle.vdr_feed.specs.declared.fault.FeedFault.{FeedFault}
use Rattle.vdr_feed.specs.declared.fault.FeedFault.TheVariants.{Fault as feed_fault, Refused as feed_refused}
use Rattle.vdr_opening.specs.declared.refused.OpenRefused.{OpenRefused}
use Rattle.vdr_opening.specs.declared.refused.OpenRefused.TheVariants as open_refusals
use Rattle.vdr_recorder.specs.declared.run.StartRefused.{StartRefused}
use Rattle.vdr_recorder.specs.declared.run.StartRefused.TheVariants as start_refusals
use Rattle.vdr_replay.specs.declared.ended.ReplayRefused.{ReplayRefused}
use Rattle.vdr_replay.specs.declared.ended.ReplayRefused.TheVariants.{NoMemory, Input, Refused, NotFormatted, Damaged, Place, Tick, Media}

abbrev pub refused_by_feed : FeedFault → ReplayRefused
refused_by_feed feed_fault = Input
refused_by_feed (feed_refused number offset) = Refused number offset

abbrev pub refused_by_opening : OpenRefused → ReplayRefused
refused_by_opening open_refusals.NoMemory = NoMemory
refused_by_opening open_refusals.NotFormatted = NotFormatted
refused_by_opening (open_refusals.Damaged medium offset) = Damaged medium offset
refused_by_opening open_refusals.Fault = Media

abbrev pub refused_by_start : StartRefused → ReplayRefused
refused_by_start start_refusals.Place = Place
refused_by_start start_refusals.Tick = Tick
refused_by_start start_refusals.Fault = Media

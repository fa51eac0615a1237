use Rattle.std.proofs.Common.{ap}
use Rattle.vdr_durability.specs.Layout.{records_in}
use Rattle.vdr_directory.proofs.Bringing.{alike_batches, alike_places, alike_segments, places_alike}
use Rattle.vdr_ring.proofs.Exact.{alike_regular}
use Rattle.vdr_ring.proofs.law.law_of_alike.Goals as goal

pub returns-clause-segments : goal.returns-clause-segments
returns-clause-segments c = alike_segments

pub returns-clause-batches : goal.returns-clause-batches
returns-clause-batches c = alike_batches

pub returns-clause-records : goal.returns-clause-records
returns-clause-records c placed now h = ap records_in (alike_segments placed now h)

pub returns-clause-holds : goal.returns-clause-holds
returns-clause-holds c a b placed now h = (
  λ hold place from to. alike_places place placed now h (hold place from to),
  λ hold place from to. places_alike place placed now h (hold place from to),
)

pub returns-clause-regular : goal.returns-clause-regular
returns-clause-regular c = alike_regular

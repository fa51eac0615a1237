use Rattle.vdr_core.proofs.law_of_shapes.Goals as goal
use Rattle.vdr_core.proofs.Shapes.{made_open, closed_shape, feed_shape}

pub returns-clause-made : goal.returns-clause-made
returns-clause-made c = made_open

pub returns-clause-closed : goal.returns-clause-closed
returns-clause-closed c = closed_shape

pub returns-clause-feed : goal.returns-clause-feed
returns-clause-feed c = feed_shape

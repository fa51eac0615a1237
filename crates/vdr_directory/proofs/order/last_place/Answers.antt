use Rattle.std.proofs.Common.{sym, ◌∙◌}
use Rattle.vdr_directory.proofs.Extents.{last_bare, none_bare}
use Rattle.vdr_directory.proofs.order.last_place.Goals as goal

pub returns-in-Some-extent : goal.returns-in-Some-extent
returns-in-Some-extent c p d runs = last_bare p _ _ d runs c.in-None.is (sym c.extent.ensures ∙ c.in-Some-extent.is)

pub returns-in-None-extent : goal.returns-in-None-extent
returns-in-None-extent c p d runs = none_bare p _ d c.in-None.is (sym c.extent.ensures ∙ c.in-None-extent.is)

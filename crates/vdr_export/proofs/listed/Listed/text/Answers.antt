use Rattle.std.proofs.Common.{rules}
use Rattle.vdr_export.specs.Listings.{listed_text}
use Rattle.vdr_export.proofs.listed.Listed.text.Goals as goal

pub returns : goal.returns
unfolding listed_text
returns c = search rules

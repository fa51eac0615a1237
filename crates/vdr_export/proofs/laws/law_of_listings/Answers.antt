use Rattle.vdr_export.proofs.Listings.{all_listed}
use Rattle.vdr_export.proofs.laws.law_of_listings.Goals as goal

pub returns : goal.returns
returns c = all_listed

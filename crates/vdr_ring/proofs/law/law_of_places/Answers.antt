use Rattle.vdr_ring.proofs.KeptPlaces.{kept_alike, kept_nothing, keeps_stages}
use Rattle.vdr_ring.proofs.law.law_of_places.Goals as goal

pub returns-clause-nothing : goal.returns-clause-nothing
returns-clause-nothing c = kept_nothing

pub returns-clause-stages : goal.returns-clause-stages
returns-clause-stages c sizes m size count seconds pins placed first records stages allowed are start k =
    let batches = c.law_of_stages.ensures.batches size count seconds pins placed first records stages are in
    keeps_stages sizes m size count seconds pins placed first records stages allowed are batches.1 batches.2 batches.3 k start

pub returns-clause-alike : goal.returns-clause-alike
returns-clause-alike c = kept_alike

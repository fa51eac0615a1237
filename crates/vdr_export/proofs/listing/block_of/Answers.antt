use Rattle.std.proofs.Common.{◌≡◌, length}
use Rattle.std.proofs.lemmas.Bool.{and_parts, eqb-true}
use Rattle.vdr_export.proofs.Lines.{six_of}
use Rattle.vdr_export.proofs.listing.block_of.Goals as goal

pub returns : goal.returns
returns c =
    let six : length c.args.header.now.source.now ≡ 6 = eqb-true _ _ (and_parts _ _ c.args.header.now.legal.source).0 in
    λ i. record { source = six_of c.args.header.now.source.now six i; number = c.args.header.now.block }

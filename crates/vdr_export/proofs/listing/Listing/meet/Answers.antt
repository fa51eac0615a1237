use Rattle.std.proofs.Common.{◌∙◌, sym}
use Rattle.vdr_image.specs.Views.{header_of}
use Rattle.vdr_export.proofs.Lines.{met}
use Rattle.vdr_export.proofs.listing.Listing.meet.Goals as goal

pub returns-in-Some : goal.returns-in-Some
returns-in-Some c =
    met c.self.inside.images.entries c.args.self.now c.block_of-block.result (header_of c.args.header.now) _ c.in-Some.at c.index_mut.result.now c.add.new.self c.self.view_is c.block_of-block.ensures
    (sym c.get_index_of.ensures.index ∙ c.in-Some.is) (sym c.in-Some.ensures.value ∙ c.index_mut.ensures.value) c.add.ensures

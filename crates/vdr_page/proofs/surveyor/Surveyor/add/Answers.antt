use Rattle.std.proofs.Common.{◌∙◌}
use Rattle.vdr_page.specs.Surveys.{bytes_where, is_part, is_raw, is_sound}
use Rattle.vdr_page.proofs.Surveying.{counted, spent}
use Rattle.vdr_page.proofs.surveyor.Surveyor.add.Goals as goal

pub returns : goal.returns
returns c seen before = record {
  low_is = c.note.ensures.low seen before.low_is;
  high_is = c.note.ensures.high seen before.high_is;
  records_is = c.saturating_add-self.ensures ∙ counted seen c.args.item.now _ (c.note.ensures.records ∙ before.records_is);
  raw_is = spent is_raw 4_194_304 seen c.args.item.now _ _ c.sizes_in-sizes.ensures.raw (c.spend-self.ensures 4_194_304 (bytes_where is_raw seen) (c.note.ensures.raw ∙ before.raw_is));
  sound_is = spent is_sound 16_777_216 seen c.args.item.now _ _ c.sizes_in-sizes.ensures.sound (c.spend-self-2.ensures 16_777_216 (bytes_where is_sound seen) (c.note.ensures.sound ∙ before.sound_is));
  pictures_is = spent is_part 8_388_608 seen c.args.item.now _ _ c.sizes_in-sizes.ensures.pictures (c.spend-self-3.ensures 8_388_608 (bytes_where is_part seen) (c.note.ensures.pictures ∙ before.pictures_is));
}

use Rattle.std.proofs.Common.{◌≡◌, ◌≤◌, ◌+◌, ◌*◌, length, subst, sym, arith}
use Rattle.vdr_outside.specs.Disk.{Image, content}
use Rattle.vdr_outside.specs.Parts.{part}
use Rattle.vdr_outside.proofs.Counts.{none_falls_join}
use Rattle.vdr_outside.proofs.Moments.{unchanged_join}
use Rattle.vdr_directory.proofs.CostLemmas.{reads_join}
use Rattle.vdr_incident.specs.Tables.{place_of}
use Rattle.vdr_rescue.specs.Saves.{SavesState, ShowsSave}
use Rattle.vdr_rescue.proofs.SaveLemmas.{bad_more, pins_more, saves_more, table_more}
use Rattle.vdr_rescue.proofs.saves.read_saves.Goals as goal

pub loop-slot-preserved : goal.loop-slot-preserved
loop-slot-preserved g c =
    let i = c.loop-slot.invariant in
    let is = c.add.ensures in
    record {
      unchanged = unchanged_join _ _ _ i.unchanged c.read_shown.ensures.unchanged;
      later = none_falls_join _ _ _ i.later c.read_shown.ensures.cause.later;
      counts = reads_join 1 (256 * c.loop-slot.slot) 256 _ _ _ _ (omega arith) i.counts c.read_shown.ensures.counts;
      table = subst (λ (s : SavesState). length s.table ≡ c.loop-slot.slot + 1) (sym is) (table_more c.loop-slot.slot c.in_ok-shown.shown c.loop-slot.saves i.table);
      pins = subst (λ (s : SavesState). length s.pins ≤ c.loop-slot.slot + 1) (sym is) (pins_more c.loop-slot.slot c.in_ok-shown.shown c.loop-slot.saves i.pins);
      bad = subst (λ (s : SavesState). length s.bad ≤ c.loop-slot.slot + 1) (sym is) (bad_more c.loop-slot.slot c.in_ok-shown.shown c.loop-slot.saves i.bad);
      told = λ told. saves_more _ _ _ c.loop-slot.saves c.in_ok-shown.shown (i.told told)
          (subst (λ (image : Image). ShowsSave (part (content image 1) (place_of c.loop-slot.slot) 256) c.in_ok-shown.shown) (i.unchanged.reads told) (c.in_ok-shown.ensures.shown told)) is;
    }

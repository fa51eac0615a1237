use Rattle.std.proofs.Common.{◌≡◌, ◌++◌, map, take}
use Rattle.std.specs.List.{flat_map}
use Rattle.vdr_page.specs.Fronts.{save_of, save_row}
use Rattle.vdr_page.proofs.front.push_saves.Given as goal

abbrev pub invariant-loop-save : goal.invariant-loop-save
invariant-loop-save l = l.text.items ≡ l.initial.text.items ++ flat_map save_row (map save_of (take l.save-index l.saves))

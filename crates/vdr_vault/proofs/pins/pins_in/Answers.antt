use Rattle.std.proofs.Common.{[], ◌∷◌, ◌++◌, append-nil, length, sym, ap, ◌∙◌, arith}
use Rattle.std.specs.Option.{option_copied}
use Rattle.vdr_core.specs.Histories.{Incident}
use Rattle.vdr_vault.proofs.pins.pins_in.Goals as goal
use Rattle.vdr_vault.proofs.pins.pins_in.Goals.{in-Some, in_default}
use Rattle.vdr_vault.proofs.PinsTaken.{few_pins, pin_in, pins_with}

pub add-requires : goal.add-requires
add-requires c = omega (arith, ap length c.loop-slot.invariant, few_pins c.args.table.now c.loop-slot.slot, c.loop-slot.auto.slot-end)

pub loop-slot-preserved : goal.loop-slot-preserved
loop-slot-preserved c = elim c.match-live.branch [
  | in-Some w ↦ pins_with c.args.table.now c.loop-slot.slot c.loop-slot.pins _ (option_copied c.live.result) c.loop-slot.invariant c.live.ensures
      (w.pins-is ∙ w.add.ensures
      ∙ ap (λ (i : Incident). c.loop-slot.pins ++ record { a = i.a; b = i.b } ∷ []) w.save.view_is
      ∙ ap (λ (o : _). c.loop-slot.pins ++ pin_in (option_copied o)) (sym w.in-Some.is))
  | in_default w ↦ pins_with c.args.table.now c.loop-slot.slot c.loop-slot.pins _ (option_copied c.live.result) c.loop-slot.invariant c.live.ensures
      (w.pins-is ∙ sym (append-nil c.loop-slot.pins) ∙ ap (λ (o : _). c.loop-slot.pins ++ pin_in (option_copied o)) (sym w.in_default.is))
]

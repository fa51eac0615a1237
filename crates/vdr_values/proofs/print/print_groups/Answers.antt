use Rattle.std.proofs.Common.{ap, arith, length, length-append, option_map, take}
use Rattle.vdr_values.specs.Texts.{field_text, group_text}
use Rattle.vdr_values.specs.Views.{value_of, values_of}
use Rattle.vdr_values.proofs.Pieces.{group-room}
use Rattle.vdr_values.proofs.print.print_groups.Goals as goal

pub push-requires : goal.push-requires
push-requires c =
    let front = group_text (values_of (take c.loop-value.value-index c.args.values.now)) in (
      omega arith,
      omega (
        arith,
        c.requires,
        ap length c.loop-value.invariant,
        length-append c.args.out.now.items front,
        group-room c.args.values.now c.loop-value.value-index c.value-item.result c.loop-value-test.true,
      ),
    )

pub print_field-requires : goal.print_field-requires
print_field-requires c =
    let front = group_text (values_of (take c.loop-value.value-index c.args.values.now)) in
    omega (
      arith,
      c.requires,
      c.push.ensures.len,
      ap length c.loop-value.invariant,
      length-append c.args.out.now.items front,
      group-room c.args.values.now c.loop-value.value-index c.value-item.result c.loop-value-test.true,
      ap (λ v. length (field_text (option_map value_of v))) c.value-item.is,
    )

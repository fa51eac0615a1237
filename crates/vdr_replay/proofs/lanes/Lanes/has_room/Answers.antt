use Rattle.std.proofs.Common.{◌/◌, ◌++◌, length, sym, ap, ◌∙◌, arith}
use Rattle.std.proofs.lemmas.Bool.{leb-true, lt-ltb, ltb-true}
use Rattle.vdr_terms.specs.Datagrams.{verdict}
use Rattle.vdr_replay.proofs.Charged.{has_room, pushed_is, room_fits, room_there}
use Rattle.vdr_replay.proofs.lanes.Lanes.has_room.Goals as goal

pub returns-then-size-self-clause-room : goal.returns-then-size-self-clause-room
returns-then-size-self-clause-room c limits popped feed counts a =
    let pushed = pushed_is feed c.args.item.now c.taken.result c.counts.result c.tally-tally.result.now (c.tally-tally.ensures feed counts) c.taken.ensures c.counts.ensures.missed
    (ap verdict (sym c.as_slice.ensures.value) ∙ sym c.recordable.ensures ∙ c.in-Yes.is) _ c.head_of-head.ensures.told in
    let grown = c.size_of-size.ensures limits (popped ++ c.args.self.now.batch.items) c.args.item.now.bytes.items a.foretells (sym c.len.ensures.value) in
    let count = ap length c.as_slice-then-size-self.ensures in (
      λ less. has_room limits popped feed c.args.item.now c.args.self.now a _ c.size_of-size.result pushed grown c.if-size-self.true (let within = ltb-true (length c.as_slice-then-size-self.result.now) (c.args.self.now.room / 50) less in omega (arith, within, count)),
      λ room. let there = room_there limits popped feed c.args.item.now c.args.self.now a _ c.size_of-size.result pushed grown room in
          lt-ltb (length c.as_slice-then-size-self.result.now) (c.args.self.now.room / 50) (omega (arith, there, count)),
    )

pub returns-else-size-self-clause-room : goal.returns-else-size-self-clause-room
returns-else-size-self-clause-room c limits popped feed counts a =
    let pushed = pushed_is feed c.args.item.now c.taken.result c.counts.result c.tally-tally.result.now (c.tally-tally.ensures feed counts) c.taken.ensures c.counts.ensures.missed
    (ap verdict (sym c.as_slice.ensures.value) ∙ sym c.recordable.ensures ∙ c.in-Yes.is) _ c.head_of-head.ensures.told in
    let grown = c.size_of-size.ensures limits (popped ++ c.args.self.now.batch.items) c.args.item.now.bytes.items a.foretells (sym c.len.ensures.value) in (
      λ less. absurd (let fits = leb-true c.size_of-size.result c.args.self.now.left less in omega (arith, fits, c.if-size-self.false)),
      λ room. let fits = room_fits limits popped feed c.args.item.now c.args.self.now a _ c.size_of-size.result pushed grown room in absurd (omega (arith, fits, c.if-size-self.false)),
    )

use Rattle.std.proofs.Common.{◌++◌, ◌∷◌, [], List, sym, ap, ◌∙◌, refl, arith}
use Rattle.vdr_terms.proofs.Stamping.{stamp_kept}
use Rattle.vdr_core.specs.Taken.{Captured}
use Rattle.vdr_feed.specs.Kept.{item_in}
use Rattle.vdr_replay.proofs.Charged.{holds_own, one_charged, room_fits, room_there}
use Rattle.vdr_replay.proofs.lanes.Lanes.take.Goals as goal

pub overflow_sub-self : goal.overflow_sub-self
overflow_sub-self c =
    let f = c.requires.fits in
    let value = c.len-len.ensures.value in
    let short = c.len-len.ensures.fits in
    let pushed = sym (c.in-Some.ensures.taken f.2 (item_in c.args.item.now) f.3 (holds_own c.args.item.now (omega (arith, value, short)))) ∙ sym c.head_of-head.ensures.told in
    room_fits f.0 f.1 f.2 c.args.item.now c.args.self.now f.5 _ c.size_of.result pushed
    (c.size_of.ensures f.0 (f.1 ++ c.args.self.now.batch.items) c.args.item.now.bytes.items f.5.foretells (sym value)) f.6

pub push-requires-clause-room : goal.push-requires-clause-room
push-requires-clause-room c =
    let f = c.requires.fits in
    let value = c.len-len.ensures.value in
    let short = c.len-len.ensures.fits in
    let pushed = sym (c.in-Some.ensures.taken f.2 (item_in c.args.item.now) f.3 (holds_own c.args.item.now (omega (arith, value, short)))) ∙ sym c.head_of-head.ensures.told in
    let there = room_there f.0 f.1 f.2 c.args.item.now c.args.self.now f.5 _ c.size_of.result pushed
    (c.size_of.ensures f.0 (f.1 ++ c.args.self.now.batch.items) c.args.item.now.bytes.items f.5.foretells (sym value)) f.6 in
    let space = c.requires.sized.space in
    omega (arith, there, space)

pub returns-clause-charged : goal.returns-clause-charged
returns-clause-charged c limits popped feed counts a room =
    let value = c.len-len.ensures.value in
    let short = c.len-len.ensures.fits in
    let pushed = sym (c.in-Some.ensures.taken feed (item_in c.args.item.now) counts (holds_own c.args.item.now (omega (arith, value, short)))) ∙ sym c.head_of-head.ensures.told in
    one_charged limits popped feed c.args.item.now c.args.self.now a _ c.size_of.result pushed
    (c.size_of.ensures limits (popped ++ c.args.self.now.batch.items) c.args.item.now.bytes.items a.foretells (sym value)) _ room
    (c.count.ensures limits (popped ++ c.args.self.now.batch.items) c.args.item.now.bytes.items a.foretells (sym value))
    (c.push.ensures.items ∙ ap (λ (xs : List Captured). c.args.self.now.batch.items ++ xs)
    ((λ i. record {
      group = c.args.item.now.group;
      number = c.in-Some.number;
      received = c.args.item.now.received;
      utc = stamp_kept c.args.item.now.utc c.requires.legal.utc i;
      missed = c.in-Some.missed;
      bytes = c.as_slice.ensures.value i;
    } ∷ [])
    ∙ sym c.head_of-head.ensures.told)) refl refl

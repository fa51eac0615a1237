use Rattle.std.proofs.Common.{◌≡◌, sym, ap, ◌∙◌, arith}
use Rattle.vdr_directory.specs.declared.newest.Newest.{Newest}
use Rattle.vdr_directory.specs.Directories.{DirectoryState, count_of}
use Rattle.std.proofs.lemmas.Result.{IfOk-from_err}
use Rattle.vdr_ring.proofs.Alike.{front_more}
use Rattle.vdr_ring.proofs.ring.Ring.begin.Goals as goal
use Rattle.vdr_ring.proofs.Beginning.{stages_begun, next_segment, begins, begun_before, begun_moments, begun_stands, begun_table, begun_in_order, free_at, ready_at}

pub returns-in_err-slot-clause-begun : goal.returns-in_err-slot-clause-begun
returns-in_err-slot-clause-begun g c placed records told reads may no_room =
    let f = c.free_slot.ensures.freed placed c.args.first records told reads may no_room in (
      stages_begun f.1 (next_segment placed f.0 c.args.first) records,
      begins _ _ _ _ placed c.args.first records f.0 f.1 f.2 no_room,
      begun_before _ _ _ placed f.1 _ _ _ f.3,
      IfOk-from_err c.from_residual.result _ c.from_residual.ensures.0,
    )

pub returns-in_err-begin_segment-clause-begun : goal.returns-in_err-begin_segment-clause-begun
returns-in_err-begin_segment-clause-begun g c placed records told reads may no_room =
    let f = c.in_ok-slot.ensures.freed placed c.args.first records told reads may no_room in
    let same = rw (sym c.self.view_is) at c.free_slot.ensures.ring in
    let k = free_at c.args.self.now _ f.0 f.1 _ same (rw (sym c.self.view_is) at f.4.1) in
    let slot_is : c.in_ok-slot.slot ≡ f.0 = f.4.0 in
    let m : c.self.inside.area.medium ≡ c.args.self.now.medium = same.medium in
    let s : c.self.inside.area.segment ≡ c.args.self.now.segment = same.segment in (
      stages_begun f.1 (next_segment placed f.0 c.args.first) records,
      begins _ _ _ _ placed c.args.first records f.0 f.1 f.2 no_room,
      begun_moments _ _ _ _ _ placed f.0 _ c.args.first f.1 _ _ _ _ told k.0 k.1 k.2 k.3 f.2 reads.order (c.next_seq-seq.ensures placed reads.directory reads.order) f.3 (rw (m, s, slot_is) at c.begin_segment.ensures.moments),
      IfOk-from_err c.from_residual-in_err-begin_segment.result _ c.from_residual-in_err-begin_segment.ensures.0,
    )

pub invariant_of-self : goal.invariant_of-self
invariant_of-self g c =
    let i = c.self.invariant in
    (ap count_of c.begin.ensures.directory ∙ i.0, i.1, i.2, i.3, i.4)

pub returns-clause-begun : goal.returns-clause-begun
returns-clause-begun g c placed records told reads may no_room =
    let f = c.in_ok-slot.ensures.freed placed c.args.first records told reads may no_room in
    let same = rw (sym c.self.view_is) at c.free_slot.ensures.ring in
    let k = free_at c.args.self.now _ f.0 f.1 _ same (rw (sym c.self.view_is) at f.4.1) in
    let slot_is : c.in_ok-slot.slot ≡ f.0 = f.4.0 in
    let m : c.self.inside.area.medium ≡ c.args.self.now.medium = same.medium in
    let s : c.self.inside.area.segment ≡ c.args.self.now.segment = same.segment in
    let i = c.self.invariant in
    let seq_is = c.next_seq-seq.ensures placed reads.directory reads.order in
    let stands = begun_stands _ _ _ _ _ placed f.0 _ c.args.first f.1 _ (g.M.Media.disk c.args.media.now) _ _ told k.0 k.1 k.2 k.3 f.2 reads.order seq_is _ (begun_table c.self.inside.directory c.begin.new.self _ _ _ _ _ c.begin.ensures.directory c.begin.ensures.begun slot_is) (rw (m, s, slot_is) at c.in_ok-begin_segment.ensures.settled) in (
      stages_begun f.1 (next_segment placed f.0 c.args.first) records,
      begins _ _ _ _ placed c.args.first records f.0 f.1 f.2 no_room,
      begun_moments _ _ _ _ _ placed f.0 _ c.args.first f.1 _ _ _ _ told k.0 k.1 k.2 k.3 f.2 reads.order seq_is f.3 (rw (m, s, slot_is) at c.begin_segment.ensures.moments),
      ready_at c.args.self.now _ f.1 (next_segment placed f.0 c.args.first) records _ (record { medium = same.medium; segment = same.segment; slots = same.slots; seconds = same.seconds }) stands
          (begun_in_order _ _ _ _ _ placed c.args.first records f.0 f.1 _ told reads.settled reads.order may no_room f.2 (omega (arith, i.3, same.seconds)) (omega (arith, i.2, same.slots))),
    )

pub returns-clause-newest : goal.returns-clause-newest
returns-clause-newest g c =
    let w = rw (sym c.self.view_is) at c.in_ok-slot.ensures.within in
    let e = ap (λ (n : Newest). n.slot) c.begin.ensures.begun in
    (ap (λ (t : DirectoryState). t.newest) c.begin.ensures.directory, ap (λ (n : Newest). n.end) c.begin.ensures.begun, omega (arith, e, w))

pub returns-in_err-begin_segment-clause-front : goal.returns-in_err-begin_segment-clause-front
returns-in_err-begin_segment-clause-front g c =
    let m : c.self.inside.area.medium ≡ c.args.self.now.medium = (rw (sym c.self.view_is) at c.free_slot.ensures.ring).medium in
    front_more _ _ _ _ c.free_slot.ensures.front c.in_ok-slot.ensures.durable (rw m at c.begin_segment.ensures.front)

pub returns-clause-front : goal.returns-clause-front
returns-clause-front g c =
    let m : c.self.inside.area.medium ≡ c.args.self.now.medium = (rw (sym c.self.view_is) at c.free_slot.ensures.ring).medium in
    front_more _ _ _ _ c.free_slot.ensures.front c.in_ok-slot.ensures.durable (rw m at c.begin_segment.ensures.front)

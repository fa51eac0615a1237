-- A packet that lies whole at the front is taken there, or it may not follow.
use Rattle.std.proofs.Common.{rules, ◌≡◌, ◌≤◌, ◌<◌, ◌+◌, ◌^◌, [], Option, refl, ap}
use Rattle.vdr_pcap.specs.Account.{Datagram, item_from}
use Rattle.vdr_pcap.specs.Seen.{standing_of}
use Rattle.vdr_pcap.specs.Steps.{course_of}
use Rattle.vdr_pcap.specs.Within.{front_packet}
use Rattle.vdr_pcap.proofs.StepLemmas.{room_for, too_many}
use Rattle.vdr_pcap.proofs.WithinLemmas.{front_left, front_taken, no_item, too_long}
use Rattle.vdr_pcap.proofs.within.take_front.Goals as goal

pub returns-in_default-clause-takes : goal.returns-in_default-clause-takes
returns-in_default-clause-takes c = λ bytes is.
    let long : 2 ^ 64 ≤ c.args.course.now.offset + c.args.front.size = search rules in (
      refl,
      front_left c.args.limit (course_of c.args.course.now) bytes c.args.front is
          (too_long c.args.limit c.args.course.now.offset c.args.course.now.account.items c.args.front.size (front_packet c.args.front) long),
    )

pub returns-in-TooMany-clause-takes : goal.returns-in-TooMany-clause-takes
returns-in-TooMany-clause-takes c = λ bytes is.
    let j = c.in-TooMany.ensures.judges in (
      (λ i. record { standing = standing_of c.args.course.now.said; offset = c.args.course.now.offset; account = j.2 i }),
      front_left c.args.limit (course_of c.args.course.now) bytes c.args.front is
          (too_many c.args.limit c.args.course.now.offset c.args.course.now.account.items c.args.front.size (front_packet c.args.front) j.0 j.1),
    )

pub returns-in-Left-clause-takes : goal.returns-in-Left-clause-takes
returns-in-Left-clause-takes c = λ bytes is.
    let j = c.in-Left.ensures.judges in
    let fits : c.args.course.now.offset + c.args.front.size < 2 ^ 64 = search rules in
    let end : c.in-Some.end ≡ c.args.course.now.offset + c.args.front.size = search rules in
    front_taken c.args.limit (course_of c.args.course.now) c.in-Some.end c.judge_packet.new.account bytes c.args.front [] is
    (no_item c.args.limit c.args.course.now.offset c.args.course.now.account.items c.args.front.size (front_packet c.args.front) fits j.0) end j.1
    (ap (λ (d : Option Datagram). item_from c.args.course.now.account d) j.0)

pub returns-in-Item-clause-takes : goal.returns-in-Item-clause-takes
returns-in-Item-clause-takes c = λ bytes is.
    let j = c.in-Item.ensures.judges in
    let fits : c.args.course.now.offset + c.args.front.size < 2 ^ 64 = search rules in
    let end : c.in-Some.end ≡ c.args.course.now.offset + c.args.front.size = search rules in
    front_taken c.args.limit (course_of c.args.course.now) c.in-Some.end c.judge_packet.new.account bytes c.args.front _ is
    (room_for c.args.limit c.args.course.now.offset c.args.course.now.account.items c.args.front.size (front_packet c.args.front) fits j.0) end j.1 j.2

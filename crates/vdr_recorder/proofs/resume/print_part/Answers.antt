use Rattle.std.proofs.Common.{Bool, Ok, ap, arith, refl, rules, subst, sym, ◌∙◌}
use Rattle.std.specs.Prelude.{Some}
use Rattle.vdr_directory.specs.Sequence.{all_records}
use Rattle.vdr_durability.specs.Playback.{found, medium_of}
use Rattle.vdr_entry.specs.Queries.{asked}
use Rattle.vdr_outside.proofs.Counts.{none_fell, none_falls_join}
use Rattle.vdr_ring.specs.declared.refused.ReadRefused.TheVariants.{Damaged, Fault}
use Rattle.vdr_ring.specs.Walks.{slots_read}
use Rattle.vdr_terms.specs.Queries.Span.{Places}
use Rattle.vdr_terms.specs.Records.{Record}
use Rattle.vdr_vault.specs.Plays.{HasReadCause, ring_for}
use Rattle.vdr_vault.specs.Stretches.{AreLeftWithin}
use Rattle.vdr_vault.proofs.Reading.{damaged_before, left_of, only_read_join, reads_keep_failed}
use Rattle.vdr_vault.proofs.Stepping.{in_no_slot}
use Rattle.vdr_recorder.proofs.PlayParts.{all_left, none_printed, printed_all, printed_full, printed_one, printed_some, whole_left}
use Rattle.vdr_recorder.proofs.PlayTurns.{cause_behind, only_read, refused_so}
use Rattle.vdr_recorder.proofs.Visits.{still}
use Rattle.vdr_recorder.proofs.resume.print_part.Goals as goal

pub loop-part-init : goal.loop-part-init
loop-part-init g c =
    let query = asked c.args.query.now in
    let room = c.requires.room in
    record {
      read = still query c.args.vault.now (g.M.Media.disk c.args.media.now) (g.M.Media.bytes_read c.args.media.now) c.requires.rings;
      later = none_fell (g.M.Media.faults c.args.media.now);
      spent = whole_left (ring_for c.args.vault.now query) query c.args.part.next c.args.part.last c.new-cursor.result.standing _ c.new-cursor.ensures.standing;
      may = search rules;
      among = λ told judged. in_no_slot (ring_for c.args.vault.now query) (g.M.Media.disk c.args.media.now) c.new-cursor.result.visit c.new-cursor.ensures.slot;
      room = omega (arith, room);
      printed = λ opening events placed told readable.
          none_printed (found query (Some (Places c.args.part.next c.args.part.last)) (all_records (placed (medium_of query.medium)))) c.args.piece.now.bytes.items c.args.tracks.now c.args.part.next
          (AreLeftWithin query c.args.part c.args.vault.now placed (g.M.Media.disk c.args.media.now) c.new-cursor.result)
          (all_left (slots_read (ring_for c.args.vault.now query) (g.M.Media.disk c.args.media.now)) (placed (medium_of query.medium)) query c.args.part.next c.args.part.last c.new-cursor.result c.new-cursor.ensures.standing);
    }

pub returns-in-Ok-false-clause-printed : goal.returns-in-Ok-false-clause-printed
returns-in-Ok-false-clause-printed g c = λ opening events placed told readable.
    let i = c.loop-part.invariant in
    printed_all (i.printed opening events placed told readable) c.step_within.result c.step_within.new.cursor.visit.item
    (AreLeftWithin (asked c.args.query.now) c.args.part c.step_within.new.self placed (g.M.Media.disk c.step_within.new.media) c.step_within.new.cursor)
    (λ rs come. c.step_within.ensures.plays opening events placed rs told (i.read.readable opening events placed readable) come) c.args.part.last (c.in-Ok-false.is ∙ ap (λ (b : Bool). Ok b) c.in-Ok-false.field-0-test)

pub returns-in-Ok-false-clause-read : goal.returns-in-Ok-false-clause-read
returns-in-Ok-false-clause-read g c =
    only_read_join (asked c.args.query.now) c.args.vault.now c.loop-part.vault c.step_within.new.self _ _ _ _ _ _ c.loop-part.invariant.read
    (only_read g.M.Media (asked c.args.query.now) _ _ _ _ c.step_within.result c.step_within.ensures.keeps c.step_within.ensures.reads)

pub returns-in-Err-clause-printed : goal.returns-in-Err-clause-printed
returns-in-Err-clause-printed g c = λ opening events placed told readable.
    let i = c.loop-part.invariant in
    printed_some (i.printed opening events placed told readable) c.step_within.result c.step_within.new.cursor.visit.item
    (AreLeftWithin (asked c.args.query.now) c.args.part c.step_within.new.self placed (g.M.Media.disk c.step_within.new.media) c.step_within.new.cursor)
    (λ rs come. c.step_within.ensures.plays opening events placed rs told (i.read.readable opening events placed readable) come) c.args.part.last c.in-Err.refused c.in-Err.is

pub returns-in-Err-clause-damage : goal.returns-in-Err-clause-damage
returns-in-Err-clause-damage g c =
    let i = c.loop-part.invariant in
    record {
      medium = λ m offset is. c.step_within.ensures.steps.medium m offset (refused_so c.step_within.result _ c.in-Err.refused (Damaged m offset) c.in-Err.is refl is);
      damaged = λ m offset is told judged.
          damaged_before (medium_of (asked c.args.query.now).medium) c.args.vault.now c.loop-part.vault (g.M.Media.disk c.args.media.now) (g.M.Media.disk c.loop-part.media) i.read.vault i.read.unchanged told m offset
          (c.step_within.ensures.steps.damaged m offset (refused_so c.step_within.result _ c.in-Err.refused (Damaged m offset) c.in-Err.is refl is) told (i.read.judged judged) (i.among told judged));
    }

pub returns-in-Err-clause-read : goal.returns-in-Err-clause-read
returns-in-Err-clause-read g c =
    only_read_join (asked c.args.query.now) c.args.vault.now c.loop-part.vault c.step_within.new.self _ _ _ _ _ _ c.loop-part.invariant.read
    (only_read g.M.Media (asked c.args.query.now) _ _ _ _ c.step_within.result c.step_within.ensures.keeps c.step_within.ensures.reads)

pub returns-in-Err-clause-cause : goal.returns-in-Err-clause-cause
returns-in-Err-clause-cause g c =
    let m = medium_of (asked c.args.query.now).medium in
    let i = c.loop-part.invariant in
    let kept = reads_keep_failed m c.args.vault.now c.loop-part.vault i.read.vault in
    cause_behind m c.args.vault.now.failed (g.M.Media.faults c.args.media.now) (g.M.Media.faults c.loop-part.media) (g.M.Media.faults c.step_within.new.media) c.step_within.result _ i.later
    (subst (λ (b : Bool). HasReadCause m b (g.M.Media.faults c.loop-part.media) (g.M.Media.faults c.step_within.new.media) c.step_within.result) kept c.step_within.ensures.reads.cause)
    (λ is. refused_so c.step_within.result _ c.in-Err.refused Fault c.in-Err.is refl is)

pub loop-part-preserved : goal.loop-part-preserved
loop-part-preserved g c =
    let i = c.loop-part.invariant in
    let query = asked c.args.query.now in
    let true_is = c.in-Ok-true.is ∙ ap (λ (b : Bool). Ok b) c.in-Ok-true.field-0-test in
    record {
      read = only_read_join query c.args.vault.now c.loop-part.vault c.step_within.new.self _ _ _ _ _ _ i.read
          (only_read g.M.Media query _ _ _ _ c.step_within.result c.step_within.ensures.keeps c.step_within.ensures.reads);
      later = none_falls_join (g.M.Media.faults c.args.media.now) (g.M.Media.faults c.loop-part.media) (g.M.Media.faults c.step_within.new.media) i.later c.step_within.ensures.reads.cause.later;
      spent = let before = i.spent in let now = left_of true_is c.step_within.ensures.steps.spends.left in omega (arith, before, now);
      may = c.step_within.ensures.cursor.may;
      among = λ told judged. c.step_within.ensures.steps.among told (i.read.judged judged) (i.among told judged);
      room = c.print_whole.ensures.room;
      printed = λ opening events placed told readable.
          printed_one (i.printed opening events placed told readable) c.step_within.result c.step_within.new.cursor.visit.item
          (AreLeftWithin query c.args.part c.step_within.new.self placed (g.M.Media.disk c.step_within.new.media) c.step_within.new.cursor)
          (λ rs come. c.step_within.ensures.plays opening events placed rs told (i.read.readable opening events placed readable) come) true_is
          c.in-Some.item.now (sym c.in-Some.ensures) c.print_whole.new.piece.bytes.items c.print_whole.ensures.printed c.print_whole.new.tracks c.print_whole.ensures.seen
          c.item-in-loop-part.inside.place (ap (λ (r : Record). r.place) c.item-in-loop-part.view_is);
    }

pub returns-clause-printed : goal.returns-clause-printed
returns-clause-printed g c = λ opening events placed told readable.
    let i = c.loop-part.invariant in
    printed_full _ _ _ _ _ _ c.args.part.last _ (i.printed opening events placed told readable) (let long = c.loop-part-test.false in let is = c.len.ensures.value in let room = c.requires.room in omega (arith, long, is, room))

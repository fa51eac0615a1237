use Rattle.std.proofs.Common.{◌≡◌, ℕ, ◌<◌, ◌≤◌, List, length, get_or, Ok, sym, ◌∙◌, ap, subst, arith}
use Rattle.std.proofs.lemmas.Result.{on_ok_weaker}
use Rattle.vdr_bytes.specs.Numbers.{le_u32}
use Rattle.vdr_terms.specs.Needs.{Fits}
use Rattle.vdr_outside.specs.Disk.{Image, InRange, content, over, written}
use Rattle.vdr_outside.proofs.Images.{content_written}
use Rattle.vdr_outside.proofs.Counts.{none_falls_join}
use Rattle.vdr_outside.proofs.Moments.{size_read}
use Rattle.vdr_config.specs.Configuration.{Configuration}
use Rattle.vdr_config.specs.Sizes.{sizes_of}
use Rattle.vdr_config.specs.Grammar.{configuration}
use Rattle.vdr_terms.specs.Slots.{slot_count}
use Rattle.vdr_media.specs.Layout.{superblock_bytes}
use Rattle.vdr_media.specs.Writing.{HasClosedGates, IsLaidOut}
use Rattle.vdr_media.proofs.Behind.{range_still, behind_join, behind_write, behind_sync}
use Rattle.vdr_media.proofs.Causes.{cause_after}
use Rattle.vdr_media.proofs.LaidOut.{is_laid_out}
use Rattle.vdr_media.proofs.Rooms.{text_fits, slots_fit, some_slot}
use Rattle.vdr_media.proofs.Spelling.{length-superblock_bytes}
use Rattle.vdr_media.proofs.laying.lay_out.Goals as goal

-- what was computed of a configuration c and a size: the segment, the slots, and the superblock's fields
record IsPlanned (c : Configuration) (m size segment slots : ℕ) (fields : List ℕ) : Type 0 where
  pub reads_segment : segment ≡ c.segment
  pub low : 8192 ≤ c.segment
  pub high : c.segment ≤ 16777216
  pub fits : Fits (sizes_of c) m size
  pub slots_are : slots ≡ slot_count c.segment size
  pub fields_are : fields ≡ superblock_bytes m size c.segment (slot_count c.segment size)

planned : (c : Configuration) (m size measured segment slots : ℕ) (fields : List ℕ) → segment ≡ c.segment → 8192 ≤ segment → segment ≤ 16777216 → Fits (sizes_of c) m size → measured ≡ size → slots ≡ slot_count segment measured → fields ≡ superblock_bytes m measured segment slots
    → IsPlanned c m size segment slots fields
planned c m size measured segment slots fields is low high fits measures counts spells =
    let slots_are : slots ≡ slot_count c.segment size = counts ∙ (λ i. slot_count (is i) (measures i)) in
    record {
      reads_segment = is;
      low = omega (arith, is, low);
      high = omega (arith, is, high);
      fits = fits;
      slots_are = slots_are;
      fields_are = spells ∙ (λ i. superblock_bytes m (measures i) (is i) (slots_are i));
    }

-- what the medium reads as once all is written
all_written : (c : Configuration) (m size segment slots : ℕ) (fields text : List ℕ) (d1 d2 d3 d4 : Image) → IsPlanned c m size segment slots fields → configuration text ≡ Ok c → length (content d1 m) ≡ size → HasClosedGates segment slots (content d1 m)
    → content d2 m ≡ over (over (content d1 m) 12288 (le_u32 (length text))) 12292 text → d3 ≡ written d2 m 1 fields → d4 ≡ d3 → IsLaidOut m c text (content d4 m)
all_written c m size segment slots fields text d1 d2 d3 d4 plan reads whole gates text_is fields_are same =
    let last : content d4 m ≡ over (over (over (content d1 m) 12288 (le_u32 (length text))) 12292 text) 1 (superblock_bytes m size c.segment (slot_count c.segment size)) =
    ap (λ (l : Image). content l m) (same ∙ fields_are) ∙ content_written d2 m 1 fields ∙ (λ i. over (text_is i) 1 (plan.fields_are i)) in
    let room = slots_fit c.segment size (omega (arith, plan.low)) (some_slot (sizes_of c) m size plan.fits) in
    let closed : HasClosedGates c.segment (slot_count c.segment size) (content d1 m) =
    subst (λ (n : ℕ). HasClosedGates c.segment n (content d1 m)) plan.slots_are (subst (λ (n : ℕ). HasClosedGates n slots (content d1 m)) plan.reads_segment gates) in
    subst (IsLaidOut m c text) (sym last) (is_laid_out m c.segment size text (content d1 m) whole room (omega (arith, plan.low)) (text_fits text c reads) closed c (λ i. c.segment) plan.low plan.high reads plan.fits)

-- the superblock's fields stand within the medium
fields_fit : (c : Configuration) (first now : List ℕ) (m segment slots : ℕ) (fields : List ℕ) → IsPlanned c m (get_or first m 0) segment slots fields → m < length first → now ≡ first → InRange now m 1 (length fields)
fields_fit c first now m segment slots fields plan there same =
    let size : ℕ = get_or first m 0 in
    let room = slots_fit c.segment size (omega (arith, plan.low)) (some_slot (sizes_of c) m size plan.fits) in
    let long : length fields ≡ 22 = ap length plan.fields_are ∙ length-superblock_bytes m size c.segment (slot_count c.segment size) in
    range_still first now m 1 (length fields) same (there, omega (arith, room, long))

pub write_text-requires-clause-short : goal.write_text-requires-clause-short
write_text-requires-clause-short g c = text_fits _ _ c.requires.reads

pub returns-in_err-write_text-clause-writes : goal.returns-in_err-write_text-clause-writes
returns-in_err-write_text-clause-writes g c = behind_join _ _ _ _ c.close_all_gates.ensures.writes c.write_text.ensures.writes

pub returns-in_err-write-clause-writes : goal.returns-in_err-write-clause-writes
returns-in_err-write-clause-writes g c =
    let plan = planned c.args.config.now c.args.m _ _ _ _ _ (ap (λ (x : Configuration). x.segment) c.config.view_is) c.config.invariant.segment_low c.config.invariant.segment_high c.requires.fits c.size-size.ensures c.slot_count-slots.ensures.count c.superblock_bytes-superblock.ensures in
    let so_far = behind_join _ _ _ _ c.close_all_gates.ensures.writes c.write_text.ensures.writes in
    behind_join _ _ _ _ so_far
    (behind_write c.write.result _ _ _ _ _ (fields_fit _ _ _ _ _ _ _ plan c.requires.there so_far.sizes) (omega arith) c.write.ensures.time c.write.ensures.images c.write.ensures.reads c.write.ensures.torn c.write.ensures.sizes)

pub returns-clause-writes : goal.returns-clause-writes
returns-clause-writes g c =
    let plan = planned c.args.config.now c.args.m _ _ _ _ _ (ap (λ (x : Configuration). x.segment) c.config.view_is) c.config.invariant.segment_low c.config.invariant.segment_high c.requires.fits c.size-size.ensures c.slot_count-slots.ensures.count c.superblock_bytes-superblock.ensures in
    let so_far = behind_join _ _ _ _ c.close_all_gates.ensures.writes c.write_text.ensures.writes in
    behind_join _ _ _ _
    (behind_join _ _ _ _ so_far
    (behind_write c.write.result _ _ _ _ _ (fields_fit _ _ _ _ _ _ _ plan c.requires.there so_far.sizes) (omega arith) c.write.ensures.time c.write.ensures.images c.write.ensures.reads c.write.ensures.torn c.write.ensures.sizes))
    (behind_sync _ _ _ c.sync.ensures.time c.sync.ensures.images c.sync.ensures.reads c.sync.ensures.sizes)

pub returns-clause-laid_out : goal.returns-clause-laid_out
returns-clause-laid_out g c =
    let plan = planned c.args.config.now c.args.m _ _ _ _ _ (ap (λ (x : Configuration). x.segment) c.config.view_is) c.config.invariant.segment_low c.config.invariant.segment_high c.requires.fits c.size-size.ensures c.slot_count-slots.ensures.count c.superblock_bytes-superblock.ensures in
    on_ok_weaker c.sync.result (λ durable. record {
      durable = durable;
      reads = λ told.
          all_written c.args.config.now c.args.m _ _ _ _ _ _ _ _ _ plan c.requires.reads (size_read (g.M.Media.disk c.close_all_gates.new.media) c.args.m told ∙ ap (λ (s : List ℕ). get_or s c.args.m 0) c.close_all_gates.ensures.writes.sizes)
          (c.in_ok-close_all_gates.ensures.closed told) (c.in_ok-write_text.ensures.reads told) (c.in_ok-write.ensures.reads told) (c.sync.ensures.reads told);
    }) c.sync.ensures.durable

pub returns-clause-cause : goal.returns-clause-cause
returns-clause-cause g c = cause_after _ _ _ _ _ (none_falls_join _ _ _ c.close_all_gates.ensures.cause.later (none_falls_join _ _ _ c.write_text.ensures.cause.later c.write.ensures.cause.later)) c.sync.ensures.cause

use Rattle.std.proofs.Common.{◌≡◌, ℕ, List, [], ◌∷◌, length, ◌∙◌, ap, arith}
use Rattle.std.proofs.lemmas.Result.{on_ok_weaker}
use Rattle.vdr_bytes.specs.Numbers.{Puts, le_u32}
use Rattle.vdr_bytes.proofs.NumberLemmas.{length-le_u32}
use Rattle.vdr_bytes.proofs.PutsLemmas.{puts-whole}
use Rattle.vdr_outside.specs.Disk.{Image, content, over, written}
use Rattle.vdr_outside.proofs.Images.{content_written}
use Rattle.vdr_media.proofs.Behind.{range_still, behind_join, behind_write}
use Rattle.vdr_media.proofs.laying.write_text.Goals as goal

spelled : (new : List ℕ) (n : ℕ) → Puts (0 ∷ 0 ∷ 0 ∷ 0 ∷ []) new 0 (le_u32 n) → new ≡ le_u32 n
spelled new n puts = puts-whole (0 ∷ 0 ∷ 0 ∷ 0 ∷ []) new (le_u32 n) puts (length-le_u32 n)

both : (old mid new : Image) (m : ℕ) (size text : List ℕ) → size ≡ le_u32 (length text) → mid ≡ written old m 12288 size → new ≡ written mid m 12292 text → content new m ≡ over (over (content old m) 12288 (le_u32 (length text))) 12292 text
both old mid new m size text is first second =
    ap (λ (l : Image). content l m) second ∙ content_written mid m 12292 text
    ∙ ap (λ (b : List ℕ). over b 12292 text) (ap (λ (l : Image). content l m) first ∙ content_written old m 12288 size ∙ ap (λ (x : List ℕ). over (content old m) 12288 x) is)

pub returns-in_err-write-clause-writes : goal.returns-in_err-write-clause-writes
returns-in_err-write-clause-writes g c =
    behind_write c.write.result _ _ _ _ _ (c.requires.there, omega (arith, c.requires.room, c.put_u32.auto.into)) (omega arith) c.write.ensures.time c.write.ensures.images c.write.ensures.reads c.write.ensures.torn c.write.ensures.sizes

pub returns-clause-writes : goal.returns-clause-writes
returns-clause-writes g c =
    behind_join _ _ _ _
    (behind_write c.write.result _ _ _ _ _ (c.requires.there, omega (arith, c.requires.room, c.put_u32.auto.into)) (omega arith) c.write.ensures.time c.write.ensures.images c.write.ensures.reads c.write.ensures.torn c.write.ensures.sizes)
    (behind_write c.write-2.result _ _ _ _ _ (range_still _ _ _ _ _ c.write.ensures.sizes (c.requires.there, omega (arith, c.requires.room, c.requires.short))) (omega arith) c.write-2.ensures.time c.write-2.ensures.images c.write-2.ensures.reads c.write-2.ensures.torn c.write-2.ensures.sizes)

pub returns-clause-reads : goal.returns-clause-reads
returns-clause-reads g c =
    on_ok_weaker c.write-2.result (λ second told. both _ _ _ _ _ _ (spelled _ _ c.put_u32.ensures) (c.in_ok-write.ensures.reads told) (second told)) c.write-2.ensures.reads

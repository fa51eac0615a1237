-- The fields of a superblock, written one after another.
use Rattle.std.proofs.Common.{◌≡◌, ℕ, List, [], ◌∷◌, ◌++◌, length, codes, arith, length-append}
use Rattle.vdr_bytes.specs.Numbers.{Puts, le_u32, le_u64}
use Rattle.vdr_bytes.proofs.NumberLemmas.{length-le_u32, length-le_u64}
use Rattle.vdr_bytes.proofs.PutsLemmas.{puts-more, puts-whole}
use Rattle.vdr_media.specs.Layout.{superblock_bytes}

pub length-superblock_bytes : (kind size segment slots : ℕ) → length (superblock_bytes kind size segment slots) ≡ 22
length-superblock_bytes kind size segment slots =
    let numbers : length (le_u64 size ++ le_u32 segment ++ le_u32 slots) ≡ 16 =
    omega (arith, length-append (le_u64 size ++ le_u32 segment) (le_u32 slots), length-append (le_u64 size) (le_u32 segment), length-le_u64 size, length-le_u32 segment, length-le_u32 slots) in
    omega (arith, numbers)

pub superblock_put : (kind size segment slots : ℕ) (b0 b1 b2 b3 b4 b5 : List ℕ) → length b0 ≡ 22 → Puts b0 b1 0 (codes "VDRM") → Puts b1 b2 4 (1 ∷ kind ∷ []) → Puts b2 b3 6 (le_u64 size) → Puts b3 b4 14 (le_u32 segment) → Puts b4 b5 18 (le_u32 slots)
    → b5 ≡ superblock_bytes kind size segment slots
superblock_put kind size segment slots b0 b1 b2 b3 b4 b5 long mark version place segments count =
    let p2 = puts-more b0 b1 b2 0 4 (codes "VDRM") (1 ∷ kind ∷ []) mark version (omega arith) (omega (arith, long)) in
    let p3 = puts-more b0 b2 b3 0 6 _ (le_u64 size) p2 place (omega arith) (omega (arith, long)) in
    let l3 : length (86 ∷ 68 ∷ 82 ∷ 77 ∷ 1 ∷ kind ∷ le_u64 size) ≡ 14 = omega (arith, length-le_u64 size) in
    let p4 = puts-more b0 b3 b4 0 14 _ (le_u32 segment) p3 segments (omega (arith, l3)) (omega (arith, long, l3)) in
    let l4 : length (86 ∷ 68 ∷ 82 ∷ 77 ∷ 1 ∷ kind ∷ (le_u64 size ++ le_u32 segment)) ≡ 18 = omega (arith, length-append (le_u64 size) (le_u32 segment), length-le_u64 size, length-le_u32 segment) in
    let p5 = puts-more b0 b4 b5 0 18 _ (le_u32 slots) p4 count (omega (arith, l4)) (omega (arith, long, l4)) in
    puts-whole b0 b5 (superblock_bytes kind size segment slots) p5 (omega (arith, long, length-superblock_bytes kind size segment slots))

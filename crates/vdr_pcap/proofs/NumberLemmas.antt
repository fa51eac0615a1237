-- A number stands in the front that has its bytes.
use Rattle.std.proofs.Common.{◌≡◌, ◌≤◌, ◌+◌, ℕ, Bool, cond, List, ◌++◌, length, ap, w16, w32, w64}
use Rattle.std.specs.Int.{from_le_bytes, from_be_bytes}
use Rattle.vdr_feed.proofs.Grammar.{part_of}
use Rattle.vdr_pcap.specs.Numbers.{u16_in, u32_in, u64_in}

pub u16_in-front : (big : Bool) (at : ℕ) (xs rest : List ℕ) → at + 2 ≤ length xs → u16_in big at (xs ++ rest) ≡ u16_in big at xs
unfolding u16_in
u16_in-front big at xs rest within = ap (λ (t : List ℕ). cond big (from_be_bytes w16 t) (from_le_bytes w16 t)) (part_of at 2 xs rest within)

pub u32_in-front : (big : Bool) (at : ℕ) (xs rest : List ℕ) → at + 4 ≤ length xs → u32_in big at (xs ++ rest) ≡ u32_in big at xs
unfolding u32_in
u32_in-front big at xs rest within = ap (λ (t : List ℕ). cond big (from_be_bytes w32 t) (from_le_bytes w32 t)) (part_of at 4 xs rest within)

pub u64_in-front : (big : Bool) (at : ℕ) (xs rest : List ℕ) → at + 8 ≤ length xs → u64_in big at (xs ++ rest) ≡ u64_in big at xs
unfolding u64_in
u64_in-front big at xs rest within = ap (λ (t : List ℕ). cond big (from_be_bytes w64 t) (from_le_bytes w64 t)) (part_of at 8 xs rest within)

-- Numbers read and spelled.
use Rattle.std.proofs.Common.{◌≡◌, ◌≤◌, ◌<◌, ◌+◌, ◌^◌, ℕ, zero, suc, List, [], ◌∷◌, ◌++◌, length, take, drop, refl, ap, ◌∙◌, sym, arith, lit<, w16, w32, w64}
use Rattle.std.specs.Int.{from_le_bytes}
use Rattle.std.proofs.lemmas.List.{take-append-le, take-append-drop, drop-drop, take_all}
use Rattle.std.proofs.lemmas.Nat.{le_bytes_8, le_bytes_4, le_bytes_2, from_le_bytes-to_le_bytes_2, from_le_bytes-to_le_bytes_4, from_le_bytes-to_le_bytes_8}
use Rattle.vdr_terms.specs.Legality.{IsBytes}
use Rattle.vdr_terms.proofs.Bytes.{IsBytes-drop, IsBytes-take, part_long}
use Rattle.vdr_bytes.specs.Numbers.{le_u16, le_u32, le_u64, u16_at, u32_at, u64_at}

pub length-le_u16 : (n : ℕ) → length (le_u16 n) ≡ 2
unfolding le_u16
length-le_u16 n = refl

pub length-le_u32 : (n : ℕ) → length (le_u32 n) ≡ 4
unfolding le_u32
length-le_u32 n = refl

pub length-le_u64 : (n : ℕ) → length (le_u64 n) ≡ 8
unfolding le_u64
length-le_u64 n = refl

-- Parts of lists

pub drop-front : (n : ℕ) (xs ys : List ℕ) → length xs ≡ n → drop n (xs ++ ys) ≡ ys
drop-front n [] ys e = let none : n ≡ 0 = omega (arith, e) in rw none refl
drop-front zero (x ∷ xs) ys e = absurd (omega (arith, e))
drop-front (suc n) (x ∷ xs) ys e = drop-front n xs ys (omega (arith, e))

pub take-front : (n : ℕ) (xs ys : List ℕ) → length xs ≡ n → take n (xs ++ ys) ≡ xs
take-front n xs ys e = take-append-le n xs ys (omega (arith, e)) ∙ take_all n xs (omega (arith, e))

-- bytes that have this part at an offset, and this rest behind it
pub part_after : (at n : ℕ) (bytes part rest : List ℕ) → drop at bytes ≡ part ++ rest → length part ≡ n → (take n (drop at bytes) ≡ part) × (drop (at + n) bytes ≡ rest)
part_after at n bytes part rest e long = (
  ap (λ (xs : List ℕ). take n xs) e ∙ take-front n part rest long,
  sym (drop-drop n at bytes) ∙ ap (λ (xs : List ℕ). drop n xs) e ∙ drop-front n part rest long,
)

-- bytes from an offset on are a part and what follows it
pub cut : (at n : ℕ) (bytes : List ℕ) → drop at bytes ≡ take n (drop at bytes) ++ drop (at + n) bytes
cut at n bytes = sym (take-append-drop n (drop at bytes)) ∙ ap (λ (xs : List ℕ). take n (drop at bytes) ++ xs) (drop-drop n at bytes)

-- What is spelled is read

pub read_u16 : (at n : ℕ) (bytes rest : List ℕ) → drop at bytes ≡ le_u16 n ++ rest → n < 2 ^ 16 → (u16_at at bytes ≡ n) × (drop (at + 2) bytes ≡ rest)
unfolding u16_at le_u16
read_u16 at n bytes rest e small =
    let p = part_after at 2 bytes (le_u16 n) rest e refl in
    (ap (λ (xs : List ℕ). from_le_bytes w16 xs) p.0 ∙ from_le_bytes-to_le_bytes_2 n small, p.1)

pub read_u32 : (at n : ℕ) (bytes rest : List ℕ) → drop at bytes ≡ le_u32 n ++ rest → n < 2 ^ 32 → (u32_at at bytes ≡ n) × (drop (at + 4) bytes ≡ rest)
unfolding u32_at le_u32
read_u32 at n bytes rest e small =
    let p = part_after at 4 bytes (le_u32 n) rest e refl in
    (ap (λ (xs : List ℕ). from_le_bytes w32 xs) p.0 ∙ from_le_bytes-to_le_bytes_4 n small, p.1)

pub read_u64 : (at n : ℕ) (bytes rest : List ℕ) → drop at bytes ≡ le_u64 n ++ rest → n < 2 ^ 64 → (u64_at at bytes ≡ n) × (drop (at + 8) bytes ≡ rest)
unfolding u64_at le_u64
read_u64 at n bytes rest e small =
    let p = part_after at 8 bytes (le_u64 n) rest e refl in
    (ap (λ (xs : List ℕ). from_le_bytes w64 xs) p.0 ∙ from_le_bytes-to_le_bytes_8 n small, p.1)

-- What is read is spelled so

pub spelled_u16 : (at : ℕ) (bytes : List ℕ) → IsBytes bytes → at + 2 ≤ length bytes → drop at bytes ≡ le_u16 (u16_at at bytes) ++ drop (at + 2) bytes
unfolding u16_at le_u16
spelled_u16 at bytes are_bytes within =
    let part : List ℕ = take 2 (drop at bytes) in
    let spelled = le_bytes_2 part (u16_at at bytes) (part_long at 2 bytes within) (IsBytes-take 2 _ (IsBytes-drop at bytes are_bytes)) refl in
    cut at 2 bytes ∙ ap (λ (xs : List ℕ). xs ++ drop (at + 2) bytes) (sym spelled)

pub spelled_u32 : (at : ℕ) (bytes : List ℕ) → IsBytes bytes → at + 4 ≤ length bytes → drop at bytes ≡ le_u32 (u32_at at bytes) ++ drop (at + 4) bytes
unfolding u32_at le_u32
spelled_u32 at bytes are_bytes within =
    let part : List ℕ = take 4 (drop at bytes) in
    let spelled = le_bytes_4 part (u32_at at bytes) (part_long at 4 bytes within) (IsBytes-take 4 _ (IsBytes-drop at bytes are_bytes)) refl in
    cut at 4 bytes ∙ ap (λ (xs : List ℕ). xs ++ drop (at + 4) bytes) (sym spelled)

pub spelled_u64 : (at : ℕ) (bytes : List ℕ) → IsBytes bytes → at + 8 ≤ length bytes → drop at bytes ≡ le_u64 (u64_at at bytes) ++ drop (at + 8) bytes
unfolding u64_at le_u64
spelled_u64 at bytes are_bytes within =
    let part : List ℕ = take 8 (drop at bytes) in
    let spelled = le_bytes_8 part (u64_at at bytes) (part_long at 8 bytes within) (IsBytes-take 8 _ (IsBytes-drop at bytes are_bytes)) refl in
    cut at 8 bytes ∙ ap (λ (xs : List ℕ). xs ++ drop (at + 8) bytes) (sym spelled)

-- A number of so many bytes fits them

pub u16_at-fits : (at : ℕ) (bytes : List ℕ) → IsBytes bytes → u16_at at bytes < 2 ^ 16
unfolding u16_at
u16_at-fits at bytes are_bytes =
    let f : IsBytes (take 2 (drop at bytes)) = IsBytes-take 2 _ (IsBytes-drop at bytes are_bytes) in
    omega (arith, f 0, f 1)

pub u32_at-fits : (at : ℕ) (bytes : List ℕ) → IsBytes bytes → u32_at at bytes < 2 ^ 32
unfolding u32_at
u32_at-fits at bytes are_bytes =
    let f : IsBytes (take 4 (drop at bytes)) = IsBytes-take 4 _ (IsBytes-drop at bytes are_bytes) in
    omega (arith, f 0, f 1, f 2, f 3)

pub u64_at-fits : (at : ℕ) (bytes : List ℕ) → IsBytes bytes → u64_at at bytes < 2 ^ 64
unfolding u64_at
u64_at-fits at bytes are_bytes =
    let f : IsBytes (take 8 (drop at bytes)) = IsBytes-take 8 _ (IsBytes-drop at bytes are_bytes) in
    omega (arith, f 0, f 1, f 2, f 3, f 4, f 5, f 6, f 7)

-- The laws of a disk, for what writes and syncs leave. Disks.antt needs their proofs.
use Rattle.std.specs.Prelude.{◌≡◌, ◌≤◌, ◌⊎◌, ◌+◌, ℕ, zero, suc, true, false, List, [], ◌∷◌, ◌++◌, length, map, set, take, drop, replicate, refl}
use Rattle.std.proofs.Common.{inl, inr, ⊎_elim, sym, ◌∙◌, ap, arith, length-append}
use Rattle.std.proofs.lemmas.Bool.{cases_lt}
use Rattle.std.proofs.lemmas.List.{length-take, length-replicate, set-get_or}
use Rattle.vdr_outside.specs.Disk.{Image, Overwritten, content, over}
use Rattle.vdr_outside.proofs.Bytes.{sizes_written}
use Rattle.vdr_memory.specs.Steps.{Step, reads_after, Left, LeftSince, LeftUntil}
use Rattle.vdr_memory.specs.Steps.Step.{write, sync}

-- The bytes that stand there, and any past the end.
over_own_more : (b : List ℕ) (at n : ℕ) (z : List ℕ) → over b at (take n (drop at b ++ z)) ≡ b
over_own_more [] at n z = refl
over_own_more (y ∷ b) (suc at) n z = ap (λ (l : List ℕ). y ∷ l) (over_own_more b at n z)
over_own_more (y ∷ b) zero zero z = refl
over_own_more (y ∷ b) zero (suc n) z = ap (λ (l : List ℕ). y ∷ l) (over_own_more b zero n z)

-- The n bytes from a position on, filled up past the end.
pub filled : List ℕ → ℕ → ℕ → List ℕ
filled b at n = take n (drop at b ++ replicate n 0)

pub length-filled : (b : List ℕ) (at n : ℕ) → length (filled b at n) ≡ n
unfolding filled
length-filled b at n = let zero_byte : ℕ = 0 in omega (arith, length-take n (drop at b ++ replicate n 0), length-append (drop at b) (replicate n 0), length-replicate n zero_byte)

pub over-filled : (b : List ℕ) (at n : ℕ) → over b at (filled b at n) ≡ b
unfolding filled
over-filled b at n = over_own_more b at n (replicate n 0)

-- An image is itself with its own bytes in the range.
pub overwritten_own : (from : Image → Type 0) (i : Image) (m at n : ℕ) → from i → Overwritten m at n from i
overwritten_own from i m at n was = record {
  image = i;
  was = was;
  bytes = filled (content i m) at n;
  size = length-filled (content i m) at n;
  is = sym (ap (λ (b : List ℕ). set i m b) (over-filled (content i m) at n) ∙ set-get_or i m []);
}

-- What the media read as is left.
pub as_read : (start : Image) (steps : List Step) → Left start steps (reads_after start steps)
as_read start [] = refl
as_read start (write m at bytes true ∷ earlier) = record { image = reads_after start earlier; was = as_read start earlier; bytes = bytes; size = refl; is = refl }
as_read start (write m at bytes false ∷ earlier) = overwritten_own (Left start earlier) (reads_after start earlier) m at (length bytes) (as_read start earlier)
as_read start (sync m true ∷ earlier) = (as_read start earlier, refl)
as_read start (sync m false ∷ earlier) = as_read start earlier

-- Sizes stay.
overwritten_sized : (start : Image) (m at n : ℕ) (from : Image → Type 0) → ((j : Image) → from j → map length j ≡ map length start) → (i : Image) → Overwritten m at n from i → map length i ≡ map length start
overwritten_sized start m at n from was i o = ap (λ (l : Image). map length l) o.is ∙ sizes_written o.image m at o.bytes ∙ was o.image o.was

pub left_sized : (start : Image) (steps : List Step) (i : Image) → Left start steps i → map length i ≡ map length start
left_sized start [] i left = ap (λ (l : Image). map length l) left
left_sized start (write m at bytes done ∷ earlier) i left = overwritten_sized start m at (length bytes) (Left start earlier) (left_sized start earlier) i left
left_sized start (sync m true ∷ earlier) i left = left_sized start earlier i left.0
left_sized start (sync m false ∷ earlier) i left = left_sized start earlier i left

pub reads_sized : (start : Image) (steps : List Step) → map length (reads_after start steps) ≡ map length start
reads_sized start steps = left_sized start steps (reads_after start steps) (as_read start steps)

pub since_sized : (start : Image) (steps : List Step) (t : ℕ) (i : Image) → LeftSince start t steps i → map length i ≡ map length start
since_sized start [] t i left = left_sized start [] i left
since_sized start (step ∷ earlier) t i (inl now) = left_sized start (step ∷ earlier) i now
since_sized start (step ∷ earlier) t i (inr before) = since_sized start earlier t i before.1

-- What may be left now counts since every moment, and alone since the last.
pub now_since : (start : Image) (steps : List Step) (t : ℕ) (i : Image) → Left start steps i → LeftSince start t steps i
now_since start [] t i left = left
now_since start (step ∷ earlier) t i left = inl left

pub now_alone : (start : Image) (steps : List Step) (t : ℕ) (i : Image) → length steps ≤ t → LeftSince start t steps i → Left start steps i
now_alone start [] t i le left = left
now_alone start (step ∷ earlier) t i le (inl now) = now
now_alone start (step ∷ earlier) t i le (inr before) = absurd (omega (arith, before.0))

pub since_earlier : (start : Image) (steps : List Step) (t u : ℕ) (i : Image) → t ≤ u → LeftSince start u steps i → LeftSince start t steps i
since_earlier start [] t u i le left = left
since_earlier start (step ∷ before) t u i le (inl now) = inl now
since_earlier start (step ∷ before) t u i le (inr was) = inr (omega (arith, le, was.0), since_earlier start before t u i le was.1)

pub only_now : (start : Image) (steps : List Step) (lost : ℕ) (i : Image) → (length steps + lost ≤ length steps + lost) × LeftSince start (length steps + lost) steps i → Left start steps i
only_now start steps lost i left = now_alone start steps (length steps + lost) i (omega arith) left.1

pub earlier : (start : Image) (steps : List Step) (lost t u : ℕ) (i : Image) → t ≤ u → (u ≤ length steps + lost) × LeftSince start u steps i → (t ≤ length steps + lost) × LeftSince start t steps i
earlier start steps lost t u i le left = (omega (arith, le, left.0), since_earlier start steps t u i le left.1)

-- What may be left now counts until each moment from now on.
now_until : (start : Image) (steps : List Step) (t : ℕ) (i : Image) → length steps ≤ t → Left start steps i → LeftUntil start t steps i
now_until start [] t i le left = left
now_until start (step ∷ earlier) t i le left = inl (le, left)

pub counts_until : (start : Image) (steps : List Step) (lost t : ℕ) (i : Image) → length steps + lost ≤ t → Left start steps i → LeftUntil start t steps i
counts_until start steps lost t i le left = now_until start steps t i (omega (arith, le)) left

pub until_later : (start : Image) (steps : List Step) (t u : ℕ) (i : Image) → t ≤ u → LeftUntil start t steps i → LeftUntil start u steps i
until_later start [] t u i le left = left
until_later start (step ∷ earlier) t u i le (inl now) = inl (omega (arith, now.0, le), now.1)
until_later start (step ∷ earlier) t u i le (inr was) = inr (until_later start earlier t u i le was)

-- Each step stands before t, or from it on.
until_split : (start : Image) (steps : List Step) (t u : ℕ) (i : Image) → LeftUntil start u steps i → LeftUntil start t steps i ⊎ ((t ≤ length steps) × LeftSince start t steps i)
until_split start [] t u i left = inl left
until_split start (step ∷ earlier) t u i (inl now) = ⊎_elim
    (λ (late : length (step ∷ earlier) ≤ t). inl (inl (late, now.1)))
    (λ (early : t ≤ length (step ∷ earlier)). inr (early, inl now.1))
    (in_order (length (step ∷ earlier)) t)
  where
    in_order : (a b : ℕ) → (a ≤ b) ⊎ (b ≤ a)
    in_order a b = ⊎_elim (λ less. inl (omega (arith, less))) (λ more. inr more) (cases_lt a b)
until_split start (step ∷ earlier) t u i (inr was) = ⊎_elim
    (λ before. inl (inr before))
    (λ since. inr (omega (arith, since.0), inr since))
    (until_split start earlier t u i was)

pub until_or_since : (start : Image) (steps : List Step) (lost t u : ℕ) (i : Image) → t ≤ length steps + lost → LeftUntil start u steps i → LeftUntil start t steps i ⊎ ((t ≤ length steps + lost) × LeftSince start t steps i)
until_or_since start steps lost t u i le left = ⊎_elim (λ before. inl before) (λ since. inr (le, since.1)) (until_split start steps t u i left)

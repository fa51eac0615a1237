-- Zeros that are written one piece behind the other.
use Rattle.std.proofs.Common.{arith, ◌≡◌, ◌+◌, ◌-◌, ◌*◌, ◌<◌, ◌∙◌, ℕ, List, [], ◌∷◌, ◌++◌, Option, Some, None, length, min, replicate, subst, sym, ap}
use Rattle.std.proofs.lemmas.List.{append_assoc, length-replicate}
use Rattle.vdr_adapters.specs.Files.{Call, FileSeen, Makes}
use Rattle.vdr_adapters.specs.Files.Call.{Length, Lock, Read, Write, Sync, Leave}
use Rattle.vdr_adapters.specs.Making.{AreZeros, WritesZeros}

-- Calls, and calls behind them.
pub makes_then : (s0 s1 s2 : Option FileSeen) (xs ys : List Call) → Makes s0 s1 xs → Makes s1 s2 ys → Makes s0 s2 (xs ++ ys)
makes_then None s1 s2 xs ys first second = subst (λ (s : Option FileSeen). Makes s s2 ys) first second
makes_then (Some file) s1 s2 xs ys first second =
    let some : s2 ≡ Some (record file { calls = (file.calls ++ xs) ++ ys }) = subst (λ (s : Option FileSeen). Makes s s2 ys) first second in
    some ∙ ap (λ (calls : List Call). Some (record file { calls = calls })) (append_assoc file.calls xs ys)

-- A piece more.
pub zeros_then : (a b : ℕ) (calls : List Call) (bytes : List ℕ) → WritesZeros a b calls → AreZeros bytes → WritesZeros a (b + length bytes) (calls ++ Write b bytes ∷ [])
zeros_then a b [] bytes is zeros = (sym is, zeros, ap (λ (n : ℕ). n + length bytes) is)
zeros_then a b (Write at zs ∷ rest) bytes is zeros = (is.0, is.1, zeros_then (a + length zs) b rest bytes is.2 zeros)
zeros_then a b (Length n ∷ rest) bytes is zeros = elim is [ ]
zeros_then a b (Lock access ∷ rest) bytes is zeros = elim is [ ]
zeros_then a b (Read at n ∷ rest) bytes is zeros = elim is [ ]
zeros_then a b (Sync ∷ rest) bytes is zeros = elim is [ ]
zeros_then a b (Leave ∷ rest) bytes is zeros = elim is [ ]

-- The calls between both, where the file tells them, write zeros up to here.
abbrev pub IsFilledTo : (old new : Option FileSeen) → (here : ℕ) → Type 0
IsFilledTo old new here = (writes : List Call) × WritesZeros 0 here writes × Makes old new writes

pub are_zeros : (n : ℕ) (bytes : List ℕ) → bytes ≡ replicate n 0 → AreZeros bytes
are_zeros n bytes is =
    let long : length bytes ≡ n = ap (λ (b : List ℕ). length b) is ∙ length-replicate n 0 in
    is ∙ ap (λ (k : ℕ). replicate k 0) (sym long)

-- One more piece of 65,536 bytes, or what is left.
pub piece_more : (s0 s1 s2 : Option FileSeen) (piece size : ℕ) (bytes : List ℕ) → piece * 65536 < size
    → bytes ≡ replicate (min 65536 (size - piece * 65536)) 0
    → IsFilledTo s0 s1 (min (piece * 65536) size) → Makes s1 s2 (Write (piece * 65536) bytes ∷ []) → IsFilledTo s0 s2 (min ((piece + 1) * 65536) size)
piece_more s0 s1 s2 piece size bytes below is filled made =
    let long : length bytes ≡ min 65536 (size - piece * 65536) = ap (λ (b : List ℕ). length b) is ∙ length-replicate (min 65536 (size - piece * 65536)) 0 in
    let here : min (piece * 65536) size ≡ piece * 65536 = omega arith in
    let there : piece * 65536 + length bytes ≡ min ((piece + 1) * 65536) size = omega arith in
    let writes : List Call = filled.0 in
    let all : List Call = writes ++ Write (piece * 65536) bytes ∷ [] in
    let before : WritesZeros 0 (piece * 65536) writes = subst (λ (n : ℕ). WritesZeros 0 n writes) here filled.1 in
    let zeros : WritesZeros 0 (piece * 65536 + length bytes) all = zeros_then 0 (piece * 65536) writes bytes before (are_zeros (min 65536 (size - piece * 65536)) bytes is) in
    (all, subst (λ (n : ℕ). WritesZeros 0 n all) there zeros, makes_then s0 s1 s2 writes (Write (piece * 65536) bytes ∷ []) filled.2 made)

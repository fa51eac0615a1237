-- How many words a reading of a stored file has behind `from`.
use Rattle.std.proofs.Common.{◌≡◌, ◌∙◌, ◌⊎◌, ◌≤◌, ◌+◌, ◌∷◌, ⊎_elim, ℕ, List, [], length, codes, refl, ap, arith}
use Rattle.vdr_readout.specs.Readings.{Reading}
use Rattle.vdr_readout.specs.Readings.Reading.{Play, Values, Track, Sources, Watch, Runs, Digest, Targets, Wav, TimedWav, Picture, Pictures}
use Rattle.vdr_from.specs.Words.{SpellsBehind}

abbrev pub count_of : Reading → ℕ
count_of (Play asked) = 4
count_of (Values asked) = 4
count_of (Track asked source) = 4
count_of (Sources medium) = 1
count_of (Watch medium) = 1
count_of (Runs medium) = 1
count_of (Digest medium) = 1
count_of (Targets medium at) = 2
count_of (Wav asked) = 4
count_of (TimedWav asked) = 5
count_of (Picture asked block) = 6
count_of (Pictures asked) = 4

-- The medium stands among the words of the command.
one_less : (w m : List ℕ) (rest words : List (List ℕ)) (n : ℕ) → w ∷ m ∷ rest ≡ words → length words ≡ n → length (w ∷ m ∷ rest) ≡ n
one_less w m rest words n is counted = ap (λ (l : List (List ℕ)). length l) is ∙ counted

behind : (w m : List ℕ) (rest : List (List ℕ)) (n : ℕ) → length (w ∷ m ∷ rest) ≡ n + 1 → length (w ∷ rest) ≡ n
behind w m rest n e = omega (arith)

pub counted : (texts : List (List ℕ)) (reading : Reading) → SpellsBehind texts reading → length texts ≡ count_of reading
counted [] reading s = absurd s
counted (w ∷ rest) (Play asked) s = behind w (codes "longterm") rest 4 (one_less w (codes "longterm") rest _ 5 s.words.words refl)
counted (w ∷ rest) (Values asked) s = behind w (codes "longterm") rest 4 (one_less w (codes "longterm") rest _ 5 s.words.words refl)
counted (w ∷ rest) (Track asked source) s = behind w (codes "longterm") rest 4 (one_less w (codes "longterm") rest _ 5 s.words.words refl)
counted (w ∷ rest) (Sources medium) s = behind w (codes "longterm") rest 1 (one_less w (codes "longterm") rest _ 2 s.words refl)
counted (w ∷ rest) (Watch medium) s = behind w (codes "longterm") rest 1 (one_less w (codes "longterm") rest _ 2 s.words refl)
counted (w ∷ rest) (Runs medium) s = behind w (codes "longterm") rest 1 (one_less w (codes "longterm") rest _ 2 s.words refl)
counted (w ∷ rest) (Digest medium) s = behind w (codes "longterm") rest 1 (one_less w (codes "longterm") rest _ 2 s.words refl)
counted (w ∷ rest) (Targets medium at) s = behind w (codes "longterm") rest 2 (one_less w (codes "longterm") rest _ 3 s.words.words refl)
counted (w ∷ rest) (Wav asked) s = behind w (codes "longterm") rest 4 (one_less w (codes "longterm") rest _ 5 s.words.words refl)
counted (w ∷ rest) (TimedWav asked) s = behind w (codes "longterm") rest 5 (one_less w (codes "longterm") rest _ 6 s.words.words refl)
counted (w ∷ rest) (Picture asked block) s = behind w (codes "longterm") rest 6 (one_less w (codes "longterm") rest _ 7 s.words.words refl)
counted (w ∷ rest) (Pictures asked) s = behind w (codes "longterm") rest 4 (one_less w (codes "longterm") rest _ 5 s.words.words refl)

-- So many words ask for nothing.
abbrev pub AreNone : ℕ → Type 0
AreNone n = (n ≡ 0) ⊎ ((n ≡ 3) ⊎ (7 ≤ n))

none_at : (n k : ℕ) → n ≡ k → (k ≡ 0 → ⊥) → (k ≡ 3 → ⊥) → (7 ≤ k → ⊥) → AreNone n → ⊥
none_at n k is zero three seven bad = ⊎_elim (λ (z : n ≡ 0). zero (omega (arith))) (λ other. ⊎_elim (λ (t : n ≡ 3). three (omega (arith))) (λ (s : 7 ≤ n). seven (omega (arith))) other) bad

pub none_spelled : (n : ℕ) (reading : Reading) → n ≡ count_of reading → AreNone n → ⊥
none_spelled n (Play asked) is bad = none_at n 4 is (λ e. omega (arith)) (λ e. omega (arith)) (λ e. omega (arith)) bad
none_spelled n (Values asked) is bad = none_at n 4 is (λ e. omega (arith)) (λ e. omega (arith)) (λ e. omega (arith)) bad
none_spelled n (Track asked source) is bad = none_at n 4 is (λ e. omega (arith)) (λ e. omega (arith)) (λ e. omega (arith)) bad
none_spelled n (Sources medium) is bad = none_at n 1 is (λ e. omega (arith)) (λ e. omega (arith)) (λ e. omega (arith)) bad
none_spelled n (Watch medium) is bad = none_at n 1 is (λ e. omega (arith)) (λ e. omega (arith)) (λ e. omega (arith)) bad
none_spelled n (Runs medium) is bad = none_at n 1 is (λ e. omega (arith)) (λ e. omega (arith)) (λ e. omega (arith)) bad
none_spelled n (Digest medium) is bad = none_at n 1 is (λ e. omega (arith)) (λ e. omega (arith)) (λ e. omega (arith)) bad
none_spelled n (Targets medium at) is bad = none_at n 2 is (λ e. omega (arith)) (λ e. omega (arith)) (λ e. omega (arith)) bad
none_spelled n (Wav asked) is bad = none_at n 4 is (λ e. omega (arith)) (λ e. omega (arith)) (λ e. omega (arith)) bad
none_spelled n (TimedWav asked) is bad = none_at n 5 is (λ e. omega (arith)) (λ e. omega (arith)) (λ e. omega (arith)) bad
none_spelled n (Picture asked block) is bad = none_at n 6 is (λ e. omega (arith)) (λ e. omega (arith)) (λ e. omega (arith)) bad
none_spelled n (Pictures asked) is bad = none_at n 4 is (λ e. omega (arith)) (λ e. omega (arith)) (λ e. omega (arith)) bad

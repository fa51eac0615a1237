-- The image that choices give is one that a stop may leave.
use Rattle.std.proofs.Common.{◌≡◌, ◌≢◌, ◌≤◌, inl, inr, ℕ, zero, suc, true, false, List, [], ◌∷◌, length, get_or, set, drop, refl, sym, ◌∙◌, ap, arith}
use Rattle.std.proofs.lemmas.Bool.{cases_eq}
use Rattle.std.proofs.lemmas.List.{set-get_or, set-set, set_comm, length-map, length-take, length-replicate}
use Rattle.vdr_outside.specs.Disk.{Image, content, over, written}
use Rattle.vdr_outside.proofs.Bytes.{content_set_other}
use Rattle.vdr_outside.proofs.Images.{content_written}
use Rattle.vdr_memory.specs.declared.image.Torn.{Torn}
use Rattle.vdr_memory.specs.declared.image.Torn.TheVariants.{Old, New, Filled, Given}
use Rattle.vdr_memory.specs.Images.{image_by, kept_of}
use Rattle.vdr_memory.specs.Laws.{as_read, left_sized}
use Rattle.vdr_memory.specs.Steps.{Step, Left, reads_after}
use Rattle.vdr_memory.specs.Steps.Step.{write, sync}
use Rattle.vdr_memory.proofs.Overwriting.{overwritten_front}

-- A medium of one image in another of the same length.
pub content_mixed : (i j : Image) (m : ℕ) → length i ≡ length j → content (set i m (content j m)) m ≡ content j m
content_mixed [] [] m same = refl
content_mixed [] (y ∷ j) m same = absurd (omega arith)
content_mixed (x ∷ i) [] m same = absurd (omega arith)
content_mixed (x ∷ i) (y ∷ j) zero same = refl
content_mixed (x ∷ i) (y ∷ j) (suc m) same = content_mixed i j m (omega arith)

-- A write to a medium that was just set.
written_set : (i : Image) (m at : ℕ) (b x : List ℕ) → written (set i m b) m at x ≡ set i m (over b at x)
written_set [] m at b x = refl
written_set (c ∷ i) zero at b x = refl
written_set (c ∷ i) (suc m) at b x = ap (λ (l : Image). c ∷ l) (written_set i m at b x)

same_length : (start : Image) (steps : List Step) (i j : Image) → Left start steps i → Left start steps j → length i ≡ length j
same_length start steps i j a b = omega (arith, length-map i (λ (l : List ℕ). length l), length-map j (λ (l : List ℕ). length l), ap (λ (l : List ℕ). length l) (left_sized start steps i a ∙ sym (left_sized start steps j b)))

-- What may be left of one medium may be left beside what may be left of the others.
pub mixed : (start : Image) (steps : List Step) (i j : Image) (m : ℕ) → Left start steps i → Left start steps j → Left start steps (set i m (content j m))
mixed start [] i j m a b = ap (λ (l : Image). set l m (content j m)) a ∙ ap (λ (l : Image). set start m (content l m)) b ∙ set-get_or start m []
mixed start (write n at bytes done ∷ earlier) i j m a b = elim (cases_eq n m) [
  | inl same ↦ record {
    image = set a.image m (content b.image m);
    was = mixed start earlier a.image b.image m a.was b.was;
    bytes = b.bytes;
    size = b.size;
    is =
        ap (λ (l : Image). set l m (content j m)) (a.is ∙ ap (λ (k : ℕ). written a.image k at a.bytes) same)
        ∙ set-set a.image m _ (content j m)
        ∙ ap (λ (l : List ℕ). set a.image m l) (ap (λ (l : Image). content l m) (b.is ∙ ap (λ (k : ℕ). written b.image k at b.bytes) same) ∙ content_written b.image m at b.bytes)
        ∙ sym (written_set a.image m at (content b.image m) b.bytes)
        ∙ ap (λ (k : ℕ). written (set a.image m (content b.image m)) k at b.bytes) (sym same);
  }
  | inr other ↦
      let apart : m ≢ n = λ same. other (sym same) in
      record {
        image = set a.image m (content b.image m);
        was = mixed start earlier a.image b.image m a.was b.was;
        bytes = a.bytes;
        size = a.size;
        is =
            ap (λ (l : Image). set l m (content j m)) a.is
            ∙ ap (λ (l : List ℕ). set (written a.image n at a.bytes) m l) (ap (λ (l : Image). content l m) b.is ∙ content_set_other b.image n m _ apart)
            ∙ set_comm a.image n m _ (content b.image m) other
            ∙ ap (λ (l : List ℕ). set (set a.image m (content b.image m)) n (over l at a.bytes)) (sym (content_set_other a.image m n (content b.image m) other));
      }
]
mixed start (sync n true ∷ earlier) i j m a b = (
  mixed start earlier i j m a.0 b.0,
  elim (cases_eq n m) [
    | inl same ↦ ap (λ (k : ℕ). content (set i m (content j m)) k) same ∙ content_mixed i j m (same_length start earlier i j a.0 b.0) ∙ ap (λ (k : ℕ). content j k) (sym same) ∙ b.1
    | inr other ↦ content_set_other i m n (content j m) other ∙ a.1
  ],
)
mixed start (sync n false ∷ earlier) i j m a b = mixed start earlier i j m a b

-- No more is kept of a write than it wrote.
kept_short : (torn : Torn) (bytes : List ℕ) → length (kept_of torn bytes) ≤ length bytes
kept_short Old bytes = omega arith
kept_short New bytes = omega arith
kept_short (Filled byte) bytes = omega (arith, length-replicate (length bytes) byte)
kept_short (Given given) bytes = omega (arith, length-take (length bytes) given.items)

pub left_chosen : (choices : List Torn) (rest : Torn) (start : Image) (steps : List Step) → Left start steps (image_by choices rest start steps)
left_chosen choices rest start [] = refl
left_chosen choices rest start (write m at bytes done ∷ earlier) =
    overwritten_front (Left start earlier) (image_by (drop 1 choices) rest start earlier) m at (length bytes) (kept_of (get_or choices 0 rest) bytes) (kept_short (get_or choices 0 rest) bytes) (left_chosen (drop 1 choices) rest start earlier)
left_chosen choices rest start (sync m true ∷ earlier) =
    let image = image_by (drop 1 choices) rest start earlier in
    let left = left_chosen (drop 1 choices) rest start earlier in
    let read = as_read start earlier in
    (mixed start earlier image (reads_after start earlier) m left read, content_mixed image (reads_after start earlier) m (same_length start earlier image (reads_after start earlier) left read))
left_chosen choices rest start (sync m false ∷ earlier) = left_chosen (drop 1 choices) rest start earlier

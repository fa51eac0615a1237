use Rattle.std.proofs.Common.{rules, ◌≡◌, ◌≤◌, ◌+◌, ◌-◌, ◌++◌, ℕ, List, length, take, drop, arith, subst, refl}
use Rattle.std.proofs.lemmas.List.{length-take-le, take-append-le, length-take, length-drop}
use Rattle.std.proofs.Math.Seq.{take-append-add}
use Rattle.std.proofs.KnownBytes.{Consumes-trans}
use borrow.Rule.Slice.PartMut.{put_mid, post_of, same_len_mid}
use Rattle.vdr_outside.proofs.filling.fill.Goals as goal

-- the front of a buffer whose rest was written from the a-th byte on
take_more : (a k n : ℕ) (xs ys : List ℕ) → a ≤ length xs → n ≤ length ys → take (a + n) (put_mid a k xs ys) ≡ take a xs ++ take n ys
take_more a k n xs ys within fits =
    let long : length (take a xs) ≡ a = length-take-le a xs within in
    subst (λ (m : ℕ). take (m + n) (put_mid a k xs ys) ≡ take a xs ++ take n ys) long
    (rw (take-append-add, take-append-le n ys (post_of a k xs) fits) refl)

more_within : (a n : ℕ) (xs ys : List ℕ) → a ≤ length xs → n ≤ length ys → length ys ≡ length (take (length xs - a) (drop a xs)) → a + n ≤ length (put_mid a (length xs - a) xs ys)
more_within a n xs ys within fits same =
    rw (same_len_mid a (length xs - a) xs ys same) (grind (arith, within, fits, same, length-take, length-drop))

pub loop-done-preserved : goal.loop-done-preserved
loop-done-preserved g c =
    let fits : c.in_ok-count.count ≤ length c.read.new.into = c.in_ok-count.ensures.bound.0 in
    let same : length c.read.new.into ≡ length (take (length c.loop-done.into - c.loop-done.done) (drop c.loop-done.done c.loop-done.into)) = c.read.auto.into in
    let within : c.loop-done.done ≤ length c.loop-done.into = c.loop-done.invariant.within in
    record {
      within = more_within c.loop-done.done c.in_ok-count.count c.loop-done.into c.read.new.into within fits same;
      read = rw (take_more c.loop-done.done (length c.loop-done.into - c.loop-done.done) c.in_ok-count.count c.loop-done.into c.read.new.into within fits)
          (Consumes-trans _ _ _ _ _ c.loop-done.invariant.read c.in_ok-count.ensures.bytes.0);
      later = search rules;
    }

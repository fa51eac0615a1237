-- Reading piece by piece.
use Rattle.std.proofs.Common.{◌≡◌, ◌<◌, ◌≤◌, ◌^◌, ◌+◌, ℕ, Bool, true, false, List, [], ◌++◌, length, take, drop, Option, None, Some, IfSome, Ok, refl, ap, ◌∙◌, sym, subst, append_assoc, append-nil, arith, bytes_eq, true≢false, length-append, length-drop, Result}
use Rattle.std.proofs.lemmas.List.{length-take-le, nil_from_length}
use Rattle.std.proofs.lemmas.Slice.Eq.{bytes_eq-Decides}
use Rattle.std.proofs.KnownBytes.{Consumes-trans}
use Rattle.std.specs.Io.KnownBytes.{Consumes}
use Rattle.vdr_bytes.specs.Numbers.{le_u32, u32_at}
use Rattle.vdr_bytes.proofs.NumberLemmas.{drop-front, length-le_u32, read_u32, spelled_u32, take-front}
use Rattle.vdr_terms.specs.Legality.{IsBytes}
use Rattle.vdr_evidence.specs.Files.{part}
use Rattle.vdr_outside.specs.declared.fault.Failed.{Failed}
use Rattle.vdr_verify.specs.Reading.{Expects, HasNoPart, HasRead, Lacks, ReadsOn, Takes}
use Rattle.vdr_verify.specs.Standing.{IsBehind}
use Rattle.vdr_verify.specs.declared.reader.Reader.{Reader}

pub length-part : (x : List ℕ) → length (part x) ≡ 4 + length x
unfolding part
length-part x = length-append (le_u32 (length x)) x ∙ ap (λ (n : ℕ). n + length x) (length-le_u32 (length x))

-- The length of a part, by the number at its front.
pub size_is : (size : ℕ) (mid x after : List ℕ) → size < 2 ^ 32 → length x < 2 ^ 32 → le_u32 size ++ mid ≡ part x ++ after → (size ≡ length x) × (mid ≡ x ++ after)
unfolding part
size_is size mid x after small too e =
    let first = read_u32 0 size (part x ++ after) mid (sym e) small in
    let second = read_u32 0 (length x) (part x ++ after) (x ++ after) (append_assoc (le_u32 (length x)) x after) too in
    (sym first.0 ∙ second.0, sym first.1 ∙ second.1)

-- Parts at the front of the same bytes are the same.
pub one_part : (x y s t : List ℕ) → length x < 2 ^ 32 → length y < 2 ^ 32 → part x ++ s ≡ part y ++ t → (x ≡ y) × (s ≡ t)
unfolding part
one_part x y s t small too e =
    let p = size_is (length x) (x ++ s) y t small too (sym (append_assoc (le_u32 (length x)) x s) ∙ e) in (
      sym (take-front (length x) x s refl) ∙ ap (λ (l : List ℕ). take (length x) l) p.1 ∙ take-front (length x) y t (sym p.0),
      sym (drop-front (length x) x s refl) ∙ ap (λ (l : List ℕ). drop (length x) l) p.1 ∙ drop-front (length x) y t (sym p.0),
    )

-- ---- no part stands there

pub short_none : (left : Option (List ℕ)) (room n : ℕ) → n ≤ 4 → IfSome left (λ rest. length rest < n) → IfSome left (HasNoPart room)
short_none None room n few short = tt
short_none (Some rest) room n few short = λ x after fits e.
    let size : length rest ≡ length (part x) + length after = ap (λ (l : List ℕ). length l) e ∙ length-append (part x) after in
    let more = length-part x in
    let no : ⊥ = omega (arith, size, more, short, few) in absurd no

pub long_none : (left mid : Option (List ℕ)) (four : List ℕ) (room size : ℕ) → Consumes left mid four → four ≡ le_u32 size → size < 2 ^ 32 → room < size → IfSome left (HasNoPart room)
long_none None mid four room size read is fits past = tt
long_none (Some rest) None four room size read is fits past = absurd read
long_none (Some rest) (Some behind) four room size read is fits past = λ x after within e.
    let p = size_is size behind x after fits (omega (arith, within, fits, past)) (ap (λ (l : List ℕ). l ++ behind) (sym is) ∙ sym read ∙ e) in
    let no : ⊥ = omega (arith, within, past, p.0) in absurd no

pub cut_none : (left mid : Option (List ℕ)) (four : List ℕ) (room size : ℕ) → Consumes left mid four → four ≡ le_u32 size → size < 2 ^ 32 → room < 2 ^ 32 → IfSome mid (λ rest. length rest < size)
    → IfSome left (HasNoPart room)
cut_none None mid four room size read is fits small short = tt
cut_none (Some rest) None four room size read is fits small short = absurd read
cut_none (Some rest) (Some behind) four room size read is fits small short = λ x after within e.
    let p = size_is size behind x after fits (omega (arith, within, small)) (ap (λ (l : List ℕ). l ++ behind) (sym is) ∙ sym read ∙ e) in
    let long : length behind ≡ length x + length after = ap (λ (l : List ℕ). length l) p.1 ∙ length-append x after in
    let no : ⊥ = omega (arith, short, p.0, long) in absurd no

-- ---- a part was read

pub then_on : (left mid now : Option (List ℕ)) (old middle new : Reader) (a b : List ℕ) → ReadsOn left mid old middle a → ReadsOn mid now middle new b → ReadsOn left now old new (a ++ b)
then_on left mid now old middle new a b p q = record {
  consumed = Consumes-trans left mid now a b p.consumed q.consumed;
  held = λ front has. subst (λ (l : List ℕ). HasRead new l) (append_assoc front a b) (q.held (front ++ a) (p.held front has));
}

pub part_read : (left mid now : Option (List ℕ)) (old middle new : Reader) (four piece : List ℕ) (size : ℕ) → ReadsOn left mid old middle four → ReadsOn mid now middle new piece → four ≡ le_u32 size → length piece ≡ size
    → ReadsOn left now old new (part piece)
unfolding part
part_read left mid now old middle new four piece size p q is fits =
    subst (λ (l : List ℕ). ReadsOn left now old new (l ++ piece)) (is ∙ ap (λ (n : ℕ). le_u32 n) (sym fits)) (then_on left mid now old middle new four piece p q)

-- what a call answered
pub took : (left now : Option (List ℕ)) (old new : Reader) (piece : List ℕ) (r : Result Bool Failed) (x b : Bool) → r ≡ Ok x → x ≡ b → Takes left now old new piece r → Takes left now old new piece (Ok b)
took left now old new piece r x b was is takes =
    subst (λ (y : Bool). Takes left now old new piece (Ok y)) is (subst (λ (s : Result Bool Failed). Takes left now old new piece s) was takes)

-- four bytes, and nothing behind them
pub four_are : (four : List ℕ) (n : ℕ) → length four ≡ 4 → IsBytes four → n ≡ u32_at 0 four → four ≡ le_u32 n
four_are four n long bytes is =
    let spelled : four ≡ le_u32 (u32_at 0 four) ++ drop 4 four = spelled_u32 0 four bytes (omega (arith, long)) in
    let none : drop 4 four ≡ [] = nil_from_length (drop 4 four) (length-drop 4 four ∙ omega (arith, long)) in
    spelled ∙ ap (λ (l : List ℕ). le_u32 (u32_at 0 four) ++ l) none ∙ append-nil (le_u32 (u32_at 0 four)) ∙ ap (λ (m : ℕ). le_u32 m) (sym is)

-- ---- a piece that is expected

pub short_lacks : (left : Option (List ℕ)) (wanted : List ℕ) (n : ℕ) → n ≡ length wanted → IfSome left (λ rest. length rest < n) → IfSome left (Lacks wanted)
short_lacks None wanted n is short = tt
short_lacks (Some rest) wanted n is short = λ after e.
    let size : length rest ≡ length wanted + length after = ap (λ (l : List ℕ). length l) e ∙ length-append wanted after in
    let no : ⊥ = omega (arith, size, is, short) in absurd no

pub other_lacks : (left now : Option (List ℕ)) (piece wanted : List ℕ) → Consumes left now piece → length piece ≡ length wanted → (piece ≡ wanted → ⊥) → IfSome left (Lacks wanted)
other_lacks None now piece wanted read long other = tt
other_lacks (Some rest) None piece wanted read long other = absurd read
other_lacks (Some rest) (Some behind) piece wanted read long other = λ after e.
    other (sym (take-front (length wanted) piece behind long) ∙ ap (λ (l : List ℕ). take (length wanted) l) (sym read ∙ e) ∙ take-front (length wanted) wanted after refl)

pub expects_by : (left now : Option (List ℕ)) (old new : Reader) (piece wanted : List ℕ) (b : Bool) → b ≡ bytes_eq piece wanted → length piece ≡ length wanted → ReadsOn left now old new piece → Expects left now old new wanted (Ok b)
expects_by left now old new piece wanted true is long read = subst (λ (l : List ℕ). ReadsOn left now old new l) ((bytes_eq-Decides piece wanted).0 (sym is)) read
expects_by left now old new piece wanted false is long read =
    other_lacks left now piece wanted read.consumed long (λ same. true≢false (sym ((bytes_eq-Decides piece wanted).1 same) ∙ sym is))

-- a buffer after its front was filled
pub room_kept : (a l : List ℕ) (n : ℕ) → length a ≡ length (take n l) → n ≤ length l → (length a ≡ n) × (length (a ++ drop n l) ≡ length l)
room_kept a l n e within =
    let first : length a ≡ n = e ∙ length-take-le n l within in
    (first, length-append a (drop n l) ∙ omega (arith, first, length-drop n l, within))

-- what stands behind what was read
pub read_behind : (first left now : Option (List ℕ)) (old new : Reader) (front piece : List ℕ) → IsBehind first left old front → ReadsOn left now old new piece → IsBehind first now new (front ++ piece)
read_behind first left now old new front piece is more = record {
  consumed = Consumes-trans first left now front piece is.consumed more.consumed;
  held = more.held front is.held;
}

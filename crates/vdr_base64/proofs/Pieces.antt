-- The pieces of bytes: of more bytes, and joined again.
use Rattle.std.proofs.Common.{◌≡◌, ◌≤◌, ◌<◌, ◌+◌, ◌-◌, ◌*◌, ◌/◌, ◌%◌, ◌∙◌, ℕ, zero, suc, List, [], ◌∷◌, ◌++◌, take, drop, length, refl, sym, ap, arith, append_assoc, append-nil, zero-add}
use Rattle.std.specs.List.{flat_map}
use Rattle.std.specs.Prelude.{Result, Ok, Err, OnOk, OnErr}
use Rattle.std.proofs.Math.Seq.{take-add}
use Rattle.std.proofs.lemmas.Grind.{flat_map-append}
use Rattle.std.proofs.lemmas.Int.{ints}
use Rattle.std.proofs.lemmas.List.{drop-append-le, drop-drop, length-append, length-drop, length-take-le, take-append-drop, take-append-le}
use Rattle.base64.specs.Engines.{standard}
use Rattle.base64.specs.GeneralPurpose.{decode_of, encode_of}
use Rattle.base64.proofs.EngineFacts.{decode_of-encode_of, encode_of-append, encode_of-nil}
use Rattle.vdr_base64.specs.Laws.{LinesAreRead}
use Rattle.vdr_base64.specs.Lines.{last_piece, left_over, line_of, lines_of, pieces, pieces_to, whole_lines, whole_pieces}

-- ---- of more bytes

fits : (bytes : List ℕ) → length bytes / 4095 * 4095 ≤ length bytes
fits bytes = omega (arith, ints)

pub joined_to : (q n : ℕ) (a b : List ℕ) → q * 4095 ≤ length a → pieces_to (q + n) (a ++ b) ≡ pieces_to q a ++ pieces_to n (drop (q * 4095) a ++ b)
joined_to zero n a b within = ap (λ (m : ℕ). pieces_to m (a ++ b)) (zero-add n)
joined_to (suc q) n a b within =
    let more : (suc q) + n ≡ suc (q + n) = omega (arith) in
    let first : 4095 ≤ length a = omega (arith, within) in
    let rest : q * 4095 ≤ length (drop 4095 a) = omega (arith, within, length-drop 4095 a) in
    let place : 4095 + q * 4095 ≡ suc q * 4095 = omega (arith) in
    ap (λ (m : ℕ). pieces_to m (a ++ b)) more
    ∙ (λ i. take-append-le 4095 a b first i ∷ pieces_to (q + n) (drop-append-le 4095 a b first i))
    ∙ ap (λ (l : List (List ℕ)). take 4095 a ∷ l) (joined_to q n (drop 4095 a) b rest)
    ∙ ap (λ (l : List ℕ). take 4095 a ∷ (pieces_to q (drop 4095 a) ++ pieces_to n (l ++ b))) (drop-drop (q * 4095) 4095 a ∙ ap (λ (k : ℕ). drop k a) place)

-- How many are whole.
counts : (a b : List ℕ) → length (a ++ b) / 4095 ≡ length a / 4095 + length (left_over a ++ b) / 4095
unfolding left_over
counts a b = omega (arith, ints, length-append a b, length-append (drop (length a / 4095 * 4095) a) b, length-drop (length a / 4095 * 4095) a)

pub whole_joined : (a b : List ℕ) → whole_pieces (a ++ b) ≡ whole_pieces a ++ whole_pieces (left_over a ++ b)
unfolding whole_pieces left_over
whole_joined a b =
    ap (λ (m : ℕ). pieces_to m (a ++ b)) (counts a b) ∙ joined_to (length a / 4095) (length (drop (length a / 4095 * 4095) a ++ b) / 4095) a b (fits a)

pub left_joined : (a b : List ℕ) → left_over (a ++ b) ≡ left_over (left_over a ++ b)
unfolding left_over
left_joined a b =
    let q = length a / 4095 in
    let n = length (drop (q * 4095) a ++ b) / 4095 in
    let place : length (a ++ b) / 4095 * 4095 ≡ q * 4095 + n * 4095 = omega (arith, ints, counts a b) in
    ap (λ (k : ℕ). drop k (a ++ b)) place
    ∙ sym (drop-drop (n * 4095) (q * 4095) (a ++ b))
    ∙ ap (drop (n * 4095)) (drop-append-le (q * 4095) a b (fits a))

pub pieces_joined : (a b : List ℕ) → pieces (a ++ b) ≡ whole_pieces a ++ pieces (left_over a ++ b)
pieces_joined a b =
    (λ i. whole_joined a b i ++ last_piece (left_joined a b i))
    ∙ append_assoc (whole_pieces a) (whole_pieces (left_over a ++ b)) (last_piece (left_over (left_over a ++ b)))

-- The same of their lines.
pub whole_lines_joined : (a b : List ℕ) → whole_lines (a ++ b) ≡ whole_lines a ++ whole_lines (left_over a ++ b)
whole_lines_joined a b = ap (flat_map line_of) (whole_joined a b) ∙ flat_map-append line_of (whole_pieces a) (whole_pieces (left_over a ++ b))

pub lines_joined : (a b : List ℕ) → lines_of (a ++ b) ≡ whole_lines a ++ lines_of (left_over a ++ b)
lines_joined a b = ap (flat_map line_of) (pieces_joined a b) ∙ flat_map-append line_of (whole_pieces a) (pieces (left_over a ++ b))

pub lines_split : (bytes : List ℕ) → lines_of bytes ≡ whole_lines bytes ++ flat_map line_of (last_piece (left_over bytes))
lines_split bytes = flat_map-append line_of (whole_pieces bytes) (last_piece (left_over bytes))

-- ---- one piece after another

pub one_more : (rest : List ℕ) → 4095 ≤ length rest → whole_lines rest ≡ line_of (take 4095 rest) ++ whole_lines (drop 4095 rest)
unfolding whole_pieces
one_more rest some =
    let more : length rest / 4095 ≡ suc (length (drop 4095 rest) / 4095) = omega (arith, ints, some, length-drop 4095 rest) in
    ap (λ (m : ℕ). flat_map line_of (pieces_to m rest)) more

pub no_more : (rest : List ℕ) → length rest < 4095 → whole_lines rest ≡ []
unfolding whole_pieces
no_more rest few =
    let none : length rest / 4095 ≡ 0 = omega (arith, ints, few) in
    ap (λ (m : ℕ). flat_map line_of (pieces_to m rest)) none

pub left_few : (bytes : List ℕ) → length (left_over bytes) < 4095
unfolding left_over
left_few bytes = omega (arith, ints, length-drop (length bytes / 4095 * 4095) bytes)

-- ---- joined again

-- What is made of bytes, and of a front of them and what is behind it, where the front has groups of three.
module _ (f : List ℕ → List ℕ) (none : f [] ≡ []) (splits : (a b : List ℕ) → length a % 3 ≡ 0 → f (a ++ b) ≡ f a ++ f b) where
  made_to : (n : ℕ) (bytes : List ℕ) → n * 4095 ≤ length bytes → flat_map f (pieces_to n bytes) ≡ f (take (n * 4095) bytes)
  made_to zero bytes within = sym none
  made_to (suc n) bytes within =
      let first : length (take 4095 bytes) % 3 ≡ 0 = omega (arith, ints, length-take-le 4095 bytes (omega (arith, within))) in
      let rest : n * 4095 ≤ length (drop 4095 bytes) = omega (arith, within, length-drop 4095 bytes) in
      let place : 4095 + n * 4095 ≡ suc n * 4095 = omega (arith) in
      ap (λ (l : List ℕ). f (take 4095 bytes) ++ l) (made_to n (drop 4095 bytes) rest)
      ∙ sym (splits (take 4095 bytes) (take (n * 4095) (drop 4095 bytes)) first)
      ∙ ap f (sym (take-add 4095 (n * 4095) bytes) ∙ ap (λ (k : ℕ). take k bytes) place)

  made_last : (rest : List ℕ) → flat_map f (last_piece rest) ≡ f rest
  made_last [] = sym none
  made_last (b ∷ bs) = append-nil (f (b ∷ bs))

  pub made : (bytes : List ℕ) → flat_map f (pieces bytes) ≡ f bytes
  unfolding whole_pieces left_over
  made bytes =
      let k = length bytes / 4095 * 4095 in
      let groups : length (take k bytes) % 3 ≡ 0 = omega (arith, ints, length-take-le k bytes (fits bytes)) in
      flat_map-append f (pieces_to (length bytes / 4095) bytes) (last_piece (drop k bytes))
      ∙ (λ i. made_to (length bytes / 4095) bytes (fits bytes) i ++ made_last (drop k bytes) i)
      ∙ sym (splits (take k bytes) (drop k bytes) groups)
      ∙ ap f (take-append-drop k bytes)

pub lines_are_read : LinesAreRead
lines_are_read bytes =
    let encoded = made (encode_of standard) (encode_of-nil standard) (encode_of-append standard) bytes in (
      made (λ (piece : List ℕ). piece) refl (λ a b groups. refl) bytes,
      encoded,
      λ are. ap (decode_of standard) encoded ∙ decode_of-encode_of standard bytes refl are,
    )

-- ---- as it is printed

-- A piece was cut off.
pub cut_off : (rest piece behind : List ℕ) → 4095 ≤ length rest → piece ≡ take 4095 rest → behind ≡ drop 4095 rest → whole_lines rest ≡ line_of piece ++ whole_lines behind
cut_off rest piece behind some first next = one_more rest some ∙ (λ i. line_of (sym first i) ++ whole_lines (sym next i))

-- The line of what is behind the last whole piece.
pub last_some : (rest : List ℕ) → 0 < length rest → flat_map line_of (last_piece rest) ≡ line_of rest
last_some [] some = let none : ⊥ = omega (arith, some) in absurd none
last_some (b ∷ bs) some = append-nil (line_of (b ∷ bs))

pub last_none : (rest : List ℕ) → length rest ≡ 0 → flat_map line_of (last_piece rest) ≡ []
last_none [] none = refl
last_none (b ∷ bs) none = let no : ⊥ = omega (arith, none) in absurd no

-- What waits at first.
pub none_left : left_over [] ≡ []
unfolding left_over
none_left = refl

-- What is behind the whole pieces, cut off at its place.
place_is : (bytes : List ℕ) (size : ℕ) → size ≡ length bytes → size / 4095 * 4095 ≡ length bytes / 4095 * 4095
place_is bytes size is = ap (λ (n : ℕ). n / 4095 * 4095) is

pub rest_is : (bytes rest : List ℕ) (size : ℕ) → size ≡ length bytes → rest ≡ drop (size / 4095 * 4095) bytes → rest ≡ left_over bytes
unfolding left_over
rest_is bytes rest size is cut = cut ∙ ap (λ (k : ℕ). drop k bytes) (place_is bytes size is)

pub rest_few : (bytes rest : List ℕ) (size : ℕ) → size ≡ length bytes → rest ≡ drop (size / 4095 * 4095) bytes → length rest < 4095
rest_few bytes rest size is cut = let few = left_few bytes in omega (arith, few, ap length (rest_is bytes rest size is cut))

pub lines_behind : (bytes rest : List ℕ) (size : ℕ) → size ≡ length bytes → rest ≡ drop (size / 4095 * 4095) bytes → lines_of bytes ≡ whole_lines bytes ++ flat_map line_of (last_piece rest)
lines_behind bytes rest size is cut = lines_split bytes ∙ ap (λ (l : List ℕ). whole_lines bytes ++ flat_map line_of (last_piece l)) (sym (rest_is bytes rest size is cut))

-- ---- how a step ended

pub on_ok : {T E P Q : Type 0} (r : Result T E) → (P → Q) → OnOk r P → OnOk r Q
on_ok (Ok x) f p = f p
on_ok (Err e) f p = tt

pub on_either : {T E P : Type 0} (r : Result T E) → P → OnOk r P
on_either (Ok x) p = p
on_either (Err e) p = tt

-- One step is done only where the other is.
pub on_ok_by : {T E U F P Q : Type 0} (printed : Result T E) (ended : Result U F) (stop : F) → (P → Q) → OnOk printed P → OnErr printed (ended ≡ Err stop) → OnOk ended Q
on_ok_by (Ok x) ended stop f p failed = on_either ended (f p)
on_ok_by (Err e) (Ok y) stop f p failed = let none : ⊥ = cc in absurd none
on_ok_by (Err e) (Err g) stop f p failed = tt

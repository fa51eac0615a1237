-- Bytes are cut into lines, in one way.
use Rattle.std.proofs.Common.{◌≡◌, ◌<◌, ◌≤◌, ◌+◌, ℕ, Bool, true, false, ◌&&◌, ◌==◌, List, [], ◌∷◌, ◌++◌, length, take, drop, get_or, inl, inr, refl, sym, ap, ◌∙◌, subst, arith}
use Rattle.std.specs.List.{concat}
use Rattle.std.proofs.lemmas.List.{append_assoc, append-nil, append_cancel_left, take-append-drop, take-append-le, length-append, length-take, length-drop, get_or-take, get_or-append-add}
use Rattle.std.proofs.Math.Seq.{take-append_seam, get_or-append_seam}
use Rattle.std.proofs.lemmas.Bool.{cases_lt, eq-eqb, eqb-true}
use Rattle.vdr_terms.proofs.Somewhere.{same_rest}
use Rattle.vdr_datagram.specs.Lines.{AreLines, HoldsNoOther, IsClosed, IsCutting, and_lines, cut, cut_behind, with_byte}

-- ---- single lines

-- a byte more at the front of a line that holds no other, unless it begins a CR LF
alone-cons : (x : ℕ) (line : List ℕ) → HoldsNoOther line → ((after : List ℕ) → x ∷ line ≡ 13 ∷ 10 ∷ after → ⊥) → HoldsNoOther (x ∷ line)
alone-cons x line alone none [] after e = absurd (none after e)
alone-cons x line alone none (y ∷ before) after e = alone before after (same_rest x y line (before ++ 13 ∷ 10 ∷ after) e)

closed-more : (xs line : List ℕ) → IsClosed line → IsClosed (xs ++ line)
closed-more xs line closed = (xs ++ closed.0, ap (λ (ys : List ℕ). xs ++ ys) closed.1 ∙ sym (append_assoc xs closed.0 (13 ∷ 10 ∷ [])))

closed-some : (line : List ℕ) → IsClosed line → 0 < length line
closed-some line closed = omega (arith, ap length closed.1, length-append closed.0 (13 ∷ 10 ∷ []))

-- ---- the lines that are computed are a cutting

abbrev cr_before : Bool → List ℕ
cr_before true = 13 ∷ []
cr_before false = []

-- What is said of a line that was begun, behind a CR or not, and of the lines behind it.
record AreBehind (cr : Bool) (bytes line : List ℕ) (lines : List (List ℕ)) : Type 0 where
  joined : line ++ concat lines ≡ bytes
  alone : HoldsNoOther (cr_before cr ++ line)
  closed : 0 < length lines → IsClosed (cr_before cr ++ line)
  parts : AreLines lines
  some : 0 < length bytes → 0 < length line

and_lines-concat : (line : List ℕ) (lines : List (List ℕ)) → concat (and_lines line lines) ≡ line ++ concat lines
and_lines-concat [] lines = refl
and_lines-concat (b ∷ line) lines = refl

front-lines : (line : List ℕ) (lines : List (List ℕ)) → 0 < length line → HoldsNoOther line → (0 < length lines → IsClosed line) → AreLines lines → AreLines (line ∷ lines)
front-lines line [] some alone closed are = (some, alone)
front-lines line (next ∷ lines) some alone closed are = (closed (omega arith), alone, are)

and_lines-lines : (line : List ℕ) (lines : List (List ℕ)) → HoldsNoOther line → (0 < length lines → IsClosed line) → AreLines lines → AreLines (and_lines line lines)
and_lines-lines [] lines alone closed are = are
and_lines-lines (b ∷ line) lines alone closed are = front-lines (b ∷ line) lines (omega arith) alone closed are

alone-none : HoldsNoOther []
alone-none before after e = let none : ⊥ = omega (arith, ap length e, length-append before (13 ∷ 10 ∷ after)) in absurd none

alone-one : (b : ℕ) → HoldsNoOther (b ∷ [])
alone-one b before after e = let none : ⊥ = omega (arith, ap length e, length-append before (13 ∷ 10 ∷ after)) in absurd none

alone-mark : HoldsNoOther (13 ∷ 10 ∷ [])
alone-mark before [] e = refl
alone-mark before (b ∷ after) e = let none : ⊥ = omega (arith, ap length e, length-append before (13 ∷ 10 ∷ b ∷ after)) in absurd none

-- a byte that ends no line is put before a line that was begun
alone-more : (cr : Bool) (b : ℕ) (line : List ℕ) → (cr && b == 10) ≡ false → HoldsNoOther (cr_before (b == 13) ++ line) → HoldsNoOther (cr_before cr ++ b ∷ line)
alone-more cr b line goes alone = behind cr goes
  where
    -- without a CR before it
    alone-byte : (is : Bool) → (b == 13) ≡ is → HoldsNoOther (cr_before is ++ line) → HoldsNoOther (b ∷ line)
    alone-byte true e a = subst (λ (x : ℕ). HoldsNoOther (x ∷ line)) (sym (eqb-true b 13 e)) a
    alone-byte false e a = alone-cons b line a (λ after same. let is : b ≡ 13 = ap (λ (xs : List ℕ). get_or xs 0 0) same in let no : false ≡ true = sym e ∙ eq-eqb b 13 is in cc)

    behind : (was : Bool) → (was && b == 10) ≡ false → HoldsNoOther (cr_before was ++ b ∷ line)
    behind false e = alone-byte (b == 13) refl alone
    behind true e = alone-cons 13 (b ∷ line) (alone-byte (b == 13) refl alone) (λ after same. let is : b ≡ 10 = ap (λ (xs : List ℕ). get_or xs 1 0) same in let no : false ≡ true = sym e ∙ eq-eqb b 10 is in cc)

closed-byte : (cr : Bool) (b : ℕ) (line : List ℕ) → IsClosed (cr_before (b == 13) ++ line) → IsClosed (cr_before cr ++ b ∷ line)
closed-byte cr b line closed = closed-more (cr_before cr) (b ∷ line) (byte (b == 13) refl closed)
  where
    byte : (is : Bool) → (b == 13) ≡ is → IsClosed (cr_before is ++ line) → IsClosed (b ∷ line)
    byte true e a = subst (λ (x : ℕ). IsClosed (x ∷ line)) (sym (eqb-true b 13 e)) a
    byte false e a = closed-more (b ∷ []) line a

-- one byte more
step : (cr : Bool) (b : ℕ) (bytes line : List ℕ) (lines : List (List ℕ)) (ends : Bool) → (cr && b == 10) ≡ ends → AreBehind (b == 13) bytes line lines
    → AreBehind cr (b ∷ bytes) (with_byte ends b (line, lines)).0 (with_byte ends b (line, lines)).1
step cr b bytes line lines false goes behind = record {
  joined = ap (λ (xs : List ℕ). b ∷ xs) behind.joined;
  alone = alone-more cr b line goes behind.alone;
  closed = λ some. closed-byte cr b line (behind.closed some);
  parts = behind.parts;
  some = λ some. omega arith;
}
step cr b bytes line lines true ends behind = mark cr ends
  where
    rest : (is : Bool) → (b == 13) ≡ is → b ≡ 10 → AreBehind is bytes line lines → AreLines (and_lines line lines)
    rest true e ten are = let no : ⊥ = omega (arith, eqb-true b 13 e, ten) in absurd no
    rest false e ten are = and_lines-lines line lines are.alone are.closed are.parts

    mark : (was : Bool) → (was && b == 10) ≡ true → AreBehind was (b ∷ bytes) (b ∷ []) (and_lines line lines)
    mark false e = let no : false ≡ true = e in cc
    mark true e =
        let ten : b ≡ 10 = eqb-true b 10 e in
        record {
          joined = ap (λ (xs : List ℕ). b ∷ xs) (and_lines-concat line lines ∙ behind.joined);
          alone = subst (λ (x : ℕ). HoldsNoOther (13 ∷ x ∷ [])) (sym ten) alone-mark;
          closed = λ some. ([], ap (λ (x : ℕ). 13 ∷ x ∷ []) ten);
          parts = rest (b == 13) refl ten behind;
          some = λ some. omega arith;
        }

behind-all : (cr : Bool) (bytes : List ℕ) → HoldsNoOther (cr_before cr) → AreBehind cr bytes (cut_behind cr bytes).0 (cut_behind cr bytes).1
behind-all cr [] alone = record { joined = refl; alone = subst (λ (xs : List ℕ). HoldsNoOther xs) (sym (append-nil (cr_before cr))) alone; closed = λ some. (let no : ⊥ = omega (arith, some) in absurd no); parts = tt; some = λ some. some }
behind-all cr (b ∷ bytes) alone = step cr b bytes (cut_behind (b == 13) bytes).0 (cut_behind (b == 13) bytes).1 (cr && b == 10) refl (behind-all (b == 13) bytes (before (b == 13)))
  where
    before : (is : Bool) → HoldsNoOther (cr_before is)
    before true = alone-one 13
    before false = alone-none

-- the lines that are computed are a cutting
pub cut-is : (bytes : List ℕ) → IsCutting bytes (cut bytes)
unfolding cut
cut-is bytes =
    let behind = behind-all false bytes alone-none in
    record {
      joined = and_lines-concat (cut_behind false bytes).0 (cut_behind false bytes).1 ∙ behind.joined;
      parts = and_lines-lines (cut_behind false bytes).0 (cut_behind false bytes).1 behind.alone behind.closed behind.parts;
    }

-- ---- there is one cutting

tail-lines : (line : List ℕ) (lines : List (List ℕ)) → AreLines (line ∷ lines) → AreLines lines
tail-lines line [] are = tt
tail-lines line (next ∷ lines) are = are.2

head-alone : (line : List ℕ) (lines : List (List ℕ)) → AreLines (line ∷ lines) → HoldsNoOther line
head-alone line [] are = are.1
head-alone line (next ∷ lines) are = are.1

head-some : (line : List ℕ) (lines : List (List ℕ)) → AreLines (line ∷ lines) → 0 < length line
head-some line [] are = are.0
head-some line (next ∷ lines) are = closed-some line are.0

head-closed : (line : List ℕ) (lines : List (List ℕ)) → AreLines (line ∷ lines) → 0 < length (concat lines) → IsClosed line
head-closed line [] are some = let no : ⊥ = omega (arith, some) in absurd no
head-closed line (next ∷ lines) are some = are.0

-- a line that is closed, or that nothing follows, is as long as the other
no_more : (l m z : List ℕ) → m ≡ l ++ z → (0 < length z → IsClosed l) → HoldsNoOther m → l ≡ m
no_more l m [] e closed alone = sym (e ∙ append-nil l)
no_more l m (b ∷ z) e closed alone =
    let end : IsClosed l = closed (omega arith) in
    let is : m ≡ end.0 ++ 13 ∷ 10 ∷ b ∷ z = e ∙ ap (λ (xs : List ℕ). xs ++ b ∷ z) end.1 ∙ append_assoc end.0 (13 ∷ 10 ∷ []) (b ∷ z) in
    let none : b ∷ z ≡ [] = alone end.0 (b ∷ z) is in
    let no : ⊥ = omega (arith, ap length none) in absurd no

shorter : (l m a b : List ℕ) → l ++ a ≡ m ++ b → length l ≤ length m → (m ≡ l ++ drop (length l) m) × (a ≡ drop (length l) m ++ b)
shorter l m a b e le =
    let front : l ≡ take (length l) m = sym (take-append_seam l a) ∙ ap (take (length l)) e ∙ take-append-le (length l) m b le in
    let whole : m ≡ l ++ drop (length l) m = sym (take-append-drop (length l) m) ∙ ap (λ (xs : List ℕ). xs ++ drop (length l) m) (sym front) in
    (whole, append_cancel_left l a (drop (length l) m ++ b) (e ∙ ap (λ (xs : List ℕ). xs ++ b) whole ∙ append_assoc l (drop (length l) m) b))

not_longer : (l m : List ℕ) (a b : List ℕ) → l ++ a ≡ m ++ b → length l ≤ length m → (0 < length a → IsClosed l) → HoldsNoOther m → l ≡ m
not_longer l m a b e le closed alone =
    let parts = shorter l m a b e le in
    no_more l m (drop (length l) m) parts.0 (λ some. closed (omega (arith, ap length parts.1, length-append (drop (length l) m) b, some))) alone

same_head : (l m : List ℕ) (ls ms : List (List ℕ)) → AreLines (l ∷ ls) → AreLines (m ∷ ms) → l ++ concat ls ≡ m ++ concat ms → l ≡ m
same_head l m ls ms are also e = elim (cases_lt (length m) (length l)) [
  | inl longer ↦ sym (not_longer m l (concat ms) (concat ls) (sym e) (omega (arith, longer)) (head-closed m ms also) (head-alone l ls are))
  | inr le ↦ not_longer l m (concat ls) (concat ms) e (omega (arith, le)) (head-closed l ls are) (head-alone m ms also)
]

same_lines : (ls ms : List (List ℕ)) → AreLines ls → AreLines ms → concat ls ≡ concat ms → ls ≡ ms
same_lines [] [] are also e = refl
same_lines [] (m ∷ ms) are also e = let no : ⊥ = omega (arith, ap length e, length-append m (concat ms), head-some m ms also) in absurd no
same_lines (l ∷ ls) [] are also e = let no : ⊥ = omega (arith, ap length e, length-append l (concat ls), head-some l ls are) in absurd no
same_lines (l ∷ ls) (m ∷ ms) are also e =
    let head : l ≡ m = same_head l m ls ms are also e in
    let rest : concat ls ≡ concat ms = append_cancel_left m (concat ls) (concat ms) (ap (λ (xs : List ℕ). xs ++ concat ls) (sym head) ∙ e) in
    let tail : ls ≡ ms = same_lines ls ms (tail-lines l ls are) (tail-lines m ms also) rest in
    ap (λ (x : List ℕ). x ∷ ls) head ∙ ap (λ (xs : List (List ℕ)). m ∷ xs) tail

-- a cutting is the lines that are computed
pub cut-only : (bytes : List ℕ) (lines : List (List ℕ)) → IsCutting bytes lines → cut bytes ≡ lines
cut-only bytes lines is = same_lines (cut bytes) lines (cut-is bytes).parts is.parts ((cut-is bytes).joined ∙ sym is.joined)

-- ---- the first line

pub cut-none : (bytes : List ℕ) → length bytes ≡ 0 → cut bytes ≡ []
cut-none [] e = cut-only [] [] (record { joined = refl; parts = tt })
cut-none (b ∷ bytes) e = let no : ⊥ = omega (arith, e) in absurd no

with_rest : (line : List ℕ) (lines : List (List ℕ)) → 0 < length line → HoldsNoOther line → (0 < length (concat lines) → IsClosed line) → AreLines lines → AreLines (line ∷ lines)
with_rest line [] some alone closed are = (some, alone)
with_rest line (next ∷ lines) some alone closed are = (closed (omega (arith, length-append next (concat lines), head-some next lines are)), alone, are)

-- a first line, and the lines behind it
pub cut-first : (bytes : List ℕ) (n : ℕ) → 0 < n → n ≤ length bytes → (n < length bytes → IsClosed (take n bytes)) → HoldsNoOther (take n bytes)
    → cut bytes ≡ take n bytes ∷ cut (drop n bytes)
cut-first bytes n some within closed alone =
    let later = cut-is (drop n bytes) in
    let line : 0 < length (take n bytes) = omega (arith, length-take n bytes, some, within) in
    cut-only bytes (take n bytes ∷ cut (drop n bytes)) (record {
      joined = ap (λ (xs : List ℕ). take n bytes ++ xs) later.joined ∙ take-append-drop n bytes;
      parts = with_rest (take n bytes) (cut (drop n bytes)) line alone (λ more. closed (omega (arith, more, ap length later.joined, length-drop n bytes))) later.parts;
    })

-- no CR LF stands in the first bytes but at their end
pub alone-from : (bytes : List ℕ) (n : ℕ) → n ≤ length bytes → ((k : ℕ) → k + 2 < n → get_or bytes k 0 ≡ 13 → get_or bytes (k + 1) 0 ≡ 10 → ⊥) → HoldsNoOther (take n bytes)
alone-from bytes n within none before [] e = refl
alone-from bytes n within none before (b ∷ after) e =
    let long : length before + 2 < n = omega (arith, ap length e, length-append before (13 ∷ 10 ∷ b ∷ after), length-take n bytes, within) in
    let cr : get_or bytes (length before) 0 ≡ 13 = sym (get_or-take n bytes (length before) 0 (omega (arith, long))) ∙ ap (λ (xs : List ℕ). get_or xs (length before) 0) e ∙ get_or-append_seam before 13 (10 ∷ b ∷ after) 0 in
    let lf : get_or bytes (length before + 1) 0 ≡ 10 = sym (get_or-take n bytes (length before + 1) 0 (omega (arith, long))) ∙ ap (λ (xs : List ℕ). get_or xs (length before + 1) 0) e ∙ get_or-append-add before (13 ∷ 10 ∷ b ∷ after) 1 0 in
    let no : ⊥ = none (length before) long cr lf in absurd no

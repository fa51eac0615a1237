-- What is read ahead, and what is gathered.
use Rattle.std.proofs.Common.{◌≡◌, ◌≤◌, ◌<◌, ◌+◌, ◌-◌, ℕ, List, [], ◌++◌, length, take, drop, Option, None, Some, refl, ap, sym, ◌∙◌, subst, arith, append_assoc}
use Rattle.std.proofs.lemmas.Grind.{common_steps}
use Rattle.std.proofs.lemmas.List.{append-nil, take-append-le, length-drop, length-take, length-append, drop-drop, take-append-drop, nil_from_length, drop-append-le, drop-take, length-take-le, take-take, take_all}
use Rattle.std.proofs.Math.Seq.{take-append-add}
use borrow.Rule.Slice.PartMut.{put_mid, post_of}
use Rattle.std.specs.Io.KnownBytes.{Appends, Consumes, IsAtEnd, Keeps, prepend_known}
use Rattle.std.proofs.Math.Seq.{take-append_seam}
use Rattle.vdr_outside.proofs.Known.{begins-appends, front-printed}
use Rattle.vdr_outside.specs.Writes.{AppendsFront}
use Rattle.vdr_outside.specs.Causes.{Rose}
use Rattle.vdr_import.specs.Relayed.{Blames, Gathers}
use Rattle.vdr_import.specs.declared.side.Side.{Side}
use Rattle.vdr_import.specs.declared.side.Side.TheVariants.{Input}

-- ---- ahead

-- the bytes from one place to another
pub part_held : (bytes : List ℕ) (from to : ℕ) → from ≤ to → take (to - from) (drop from bytes) ≡ drop from (take to bytes)
part_held bytes from to order =
    sym (drop-take from (to - from) bytes) ∙ ap (λ (k : ℕ). drop from (take k bytes)) (let e : from + (to - from) ≡ to = omega (arith, order) in e)

-- the bytes that were given, and those behind them
pub took_ahead : (bytes slice given behind : List ℕ) (from to n : ℕ) → from ≤ to → to ≤ length bytes → n ≤ to - from
    → slice ≡ take n (drop from bytes) → given ≡ slice → drop from (take to bytes) ≡ take n (given ++ behind) ++ drop (from + n) (take to bytes)
took_ahead bytes slice given behind from to n order within few is same =
    let m : ℕ = to - from in
    let ahead : drop from (take to bytes) ≡ take m (drop from bytes) = sym (part_held bytes from to order) in
    let all : given ≡ take n (drop from (take to bytes)) =
    same ∙ is ∙ sym (take-take n m (drop from bytes) few) ∙ ap (take n) (sym ahead) in
    let long : length given ≡ n =
    omega (arith, ap (λ (l : List ℕ). length l) all, length-take n (drop from (take to bytes)), length-drop from (take to bytes), length-take to bytes, few, within, order) in
    let front : take n (given ++ behind) ≡ given = ap (λ (k : ℕ). take k (given ++ behind)) (sym long) ∙ take-append_seam given behind in
    sym (take-append-drop n (drop from (take to bytes)))
    ∙ ap (λ (l : List ℕ). take n (drop from (take to bytes)) ++ l) (drop-drop n from (take to bytes))
    ∙ ap (λ (l : List ℕ). l ++ drop (from + n) (take to bytes)) (sym all ∙ sym front)

pub nothing_ahead : (bytes : List ℕ) (from to : ℕ) → to ≤ from → drop from (take to bytes) ≡ []
nothing_ahead bytes from to less = nil_from_length (drop from (take to bytes)) (omega (arith, length-drop from (take to bytes), length-take to bytes, less))

pub some_ahead : (bytes : List ℕ) (from to : ℕ) → from < to → to ≤ length bytes → 0 < length (drop from (take to bytes))
some_ahead bytes from to less within = omega (arith, length-drop from (take to bytes), length-take to bytes, less, within)

-- what was read of the input is ahead
pub read_ahead : (a b : Option (List ℕ)) (bytes : List ℕ) → Consumes a b bytes → Keeps a (prepend_known bytes b)
read_ahead None b bytes p = tt
read_ahead (Some x) None bytes p = absurd p
read_ahead (Some x) (Some y) bytes p = sym p

pub end_behind : (a : Option (List ℕ)) (bytes : List ℕ) → IsAtEnd (prepend_known bytes a) → IsAtEnd a
end_behind None bytes p = tt
end_behind (Some x) bytes p = nil_from_length x (omega (arith, length-append bytes x, ap (λ (l : List ℕ). length l) p))

-- ---- gathered

pub gathers_all : (a : Option (List ℕ)) (text : List ℕ) → Gathers a a text text
gathers_all None text = record { grown = refl; whole = refl }
gathers_all (Some x) text = record { grown = ap (λ (l : List ℕ). Some l) (grind (arith, common_steps)); whole = refl }

-- A front of all was written.
pub gathers_some : (a b : Option (List ℕ)) (text waiting : List ℕ) → Gathers a b text waiting → AppendsFront a b text
gathers_some None b text waiting p = ([], text, refl, tt)
gathers_some (Some x) None text waiting p = let no : ⊥ = let e = p.whole in cc in absurd no
gathers_some (Some x) (Some y) text waiting p =
    let e : x ++ text ≡ y ++ waiting = let f = p.whole in cc in
    front-printed (Some x) (Some x) (Some (x ++ text)) (Some y) text refl (text, [], sym (append-nil text), refl) (waiting, e) p.grown

-- once more
pub gathers_on : (a b c : Option (List ℕ)) (text more rest : List ℕ) → Gathers a b text more → Gathers b c more rest → Gathers a c text rest
gathers_on None b c text more rest p q = record { grown = refl; whole = refl }
gathers_on (Some x) None c text more rest p q = let none : ⊥ = let e = p.whole in cc in absurd none
gathers_on (Some x) (Some y) None text more rest p q = let none : ⊥ = let e = q.whole in cc in absurd none
gathers_on (Some x) (Some y) (Some z) text more rest p q = record {
  grown = let front = gathers_some (Some y) (Some z) more rest q in begins-appends (Some x) (Some y) (Some z) front.0 p.grown front.3;
  whole = q.whole ∙ p.whole;
}

-- with more to be written
pub gathers_more : (a b : Option (List ℕ)) (text waiting more : List ℕ) → Gathers a b text waiting → Gathers a b (text ++ more) (waiting ++ more)
gathers_more None b text waiting more p = record { grown = refl; whole = refl }
gathers_more (Some x) None text waiting more p = let none : ⊥ = let e = p.whole in cc in absurd none
gathers_more (Some x) (Some y) text waiting more p = record {
  grown = p.grown;
  whole = let e : y ++ waiting ≡ x ++ text = let f = p.whole in cc in
      ap (λ (l : List ℕ). Some l) (sym (append_assoc y waiting more) ∙ ap (λ (l : List ℕ). l ++ more) e ∙ append_assoc x text more);
}

-- a front of what waited was written
pub gathers_front : (a b : Option (List ℕ)) (text front rest : List ℕ) → Appends a b front → text ≡ front ++ rest → Gathers a b text rest
gathers_front None b text front rest p is = record { grown = refl; whole = refl }
gathers_front (Some x) None text front rest p is = absurd p
gathers_front (Some x) (Some y) text front rest p is = record {
  grown = ap (λ (l : List ℕ). Some l) (ap (take (length x)) p ∙ grind (arith, common_steps));
  whole = ap (λ (l : List ℕ). Some l) (ap (λ (l : List ℕ). l ++ rest) p ∙ append_assoc x front rest ∙ ap (λ (l : List ℕ). x ++ l) (sym is));
}

-- one write of what is held
pub gathers_write : (a b : Option (List ℕ)) (bytes : List ℕ) (from to n : ℕ) → from ≤ to → Appends a b (take n (take (to - from) (drop from bytes)))
    → Gathers a b (drop from (take to bytes)) (drop (from + n) (take to bytes))
gathers_write a b bytes from to n order p =
    let held : take (to - from) (drop from bytes) ≡ drop from (take to bytes) = part_held bytes from to order in
    let written : Appends a b (take n (drop from (take to bytes))) = subst (λ (l : List ℕ). Appends a b (take n l)) held p in
    gathers_front a b (drop from (take to bytes)) (take n (drop from (take to bytes))) (drop (from + n) (take to bytes)) written
    (sym (take-append-drop n (drop from (take to bytes))) ∙ ap (λ (l : List ℕ). take n (drop from (take to bytes)) ++ l) (drop-drop n from (take to bytes)))

-- bytes that were put behind what is held
put_behind : (xs ys : List ℕ) (from to k : ℕ) → from ≤ to → to ≤ length xs → drop from (take (to + length ys) (put_mid to k xs ys)) ≡ drop from (take to xs) ++ ys
put_behind xs ys from to k order within =
    let long : length (take to xs) ≡ to = length-take-le to xs within in
    let all : take (to + length ys) (put_mid to k xs ys) ≡ take to xs ++ ys =
    subst (λ (m : ℕ). take (m + length ys) (put_mid to k xs ys) ≡ take to xs ++ ys) long
    (rw (take-append-add, take-append-le (length ys) ys (post_of to k xs) (omega arith)) (ap (λ (l : List ℕ). take to xs ++ l) (take_all (length ys) ys (omega arith)))) in
    ap (λ (l : List ℕ). drop from l) all ∙ drop-append-le from (take to xs) ys (omega (arith, long, order))

pub held_more : (xs ys put : List ℕ) (from to k : ℕ) → from ≤ to → to ≤ length xs → put ≡ ys → drop from (take (to + length ys) (put_mid to k xs put)) ≡ drop from (take to xs) ++ ys
held_more xs ys put from to k order within same =
    ap (λ (l : List ℕ). drop from (take (to + length ys) (put_mid to k xs l))) same ∙ put_behind xs ys from to k order within

-- an item behind what is held
pub gathers_item : (a b : Option (List ℕ)) (held room head body h slice one two : List ℕ) → Gathers a b held room → h ≡ head → slice ≡ body → one ≡ room ++ h → two ≡ one ++ slice
    → Gathers a b (held ++ (head ++ body)) two
gathers_item a b held room head body h slice one two p same_head same_body first second =
    let whole : two ≡ room ++ (head ++ body) =
    second ∙ (λ i. first i ++ same_body i) ∙ ap (λ (t : List ℕ). (room ++ t) ++ body) same_head ∙ append_assoc room head body in
    subst (λ (t : List ℕ). Gathers a b (held ++ (head ++ body)) t) (sym whole) (gathers_more a b held room (head ++ body) p)

-- All was written.
pub gathers_none : (a b : Option (List ℕ)) (text waiting : List ℕ) → Gathers a b text waiting → waiting ≡ [] → Appends a b text
gathers_none None b text waiting p none = tt
gathers_none (Some x) None text waiting p none = let no : ⊥ = let e = p.whole in cc in absurd no
gathers_none (Some x) (Some y) text waiting p none =
    let e : y ++ waiting ≡ x ++ text = let f = p.whole in cc in
    sym (append-nil y) ∙ ap (λ (l : List ℕ). y ++ l) (sym none) ∙ e

-- ---- blame

pub blames_on : (failed : Option Side) (i i' i'' o o' o'' : ℕ) → Blames failed i i' o o' → i' ≤ i'' → o' ≤ o'' → Blames failed i i'' o o''
blames_on failed i i' i'' o o' o'' b more_i more_o = record {
  later_input = omega (arith, b.later_input);
  later_output = omega (arith, b.later_output);
  input_rose = λ e. let rose = b.input_rose e in omega (arith, rose);
  output_rose = λ e. let rose = b.output_rose e in omega (arith, rose);
}

pub blames_input : (failed : Option Side) (i i' i'' o o' o'' : ℕ) → Blames failed i i' o o' → i' ≤ i'' → Rose i' i'' → o' ≤ o'' → Blames (Some Input) i i'' o o''
blames_input failed i i' i'' o o' o'' b more_i rose more_o = record {
  later_input = omega (arith, b.later_input);
  later_output = omega (arith, b.later_output);
  input_rose = λ e. omega (arith, b.later_input);
  output_rose = λ e. let none : ⊥ = cc in absurd none;
}

-- No byte of a data block begins markup.
use Rattle.std.proofs.Common.{◌≡◌, ◌/◌, ◌%◌, ◌<◌, ℕ, zero, suc, Bool, true, false, not, ◌&&◌, ◌==◌, nat_le, cond, List, [], ◌∷◌, ◌++◌, All, codes, refl, arith, ◌||◌, subst, sym}
use Rattle.std.specs.List.{flat_map, list_all}
use Rattle.std.proofs.lemmas.Bool.{and_from, and_parts, eqb-true, or_right}
use Rattle.std.specs.Fmt.{decimal, digit_glyph, digits, digits_onto}
use Rattle.std.proofs.lemmas.List.Elements.{All-append, All-cons, All-nil}
use Rattle.vdr_page.specs.Laws.{is_quiet}
use Rattle.vdr_page.specs.Strings.{escaped, hex_digit, inlined, is_plain}

abbrev pub IsQuiet : ℕ → Type 0
IsQuiet byte = is_quiet byte ≡ true

abbrev pub AreQuiet : List ℕ → Type 0
AreQuiet text = All IsQuiet text

pub none : AreQuiet []
none = All-nil IsQuiet

one : (byte : ℕ) → IsQuiet byte → AreQuiet (byte ∷ [])
one byte is = All-cons IsQuiet byte [] is none

pub both : (a b : List ℕ) → AreQuiet a → AreQuiet b → AreQuiet (a ++ b)
both a b p q = All-append IsQuiet a b p q

pub each : {X : Type 0} (f : X → List ℕ) → ((x : X) → AreQuiet (f x)) → (xs : List X) → AreQuiet (flat_map f xs)
each f quiet [] = none
each f quiet (x ∷ xs) = both (f x) (flat_map f xs) (quiet x) (each f quiet xs)

-- by the test
pub all_of : (text : List ℕ) → list_all is_quiet text ≡ true → AreQuiet text
all_of [] is = none
all_of (b ∷ bs) is = let p = and_parts (is_quiet b) (list_all is_quiet bs) is in All-cons IsQuiet b bs p.0 (all_of bs p.1)

-- ---- numbers

glyph : (d : ℕ) → d < 10 → IsQuiet (digit_glyph false d)
glyph zero small = refl
glyph (suc zero) small = refl
glyph (suc (suc zero)) small = refl
glyph (suc (suc (suc zero))) small = refl
glyph (suc (suc (suc (suc zero)))) small = refl
glyph (suc (suc (suc (suc (suc zero))))) small = refl
glyph (suc (suc (suc (suc (suc (suc zero)))))) small = refl
glyph (suc (suc (suc (suc (suc (suc (suc zero))))))) small = refl
glyph (suc (suc (suc (suc (suc (suc (suc (suc zero)))))))) small = refl
glyph (suc (suc (suc (suc (suc (suc (suc (suc (suc zero))))))))) small = refl
glyph (suc (suc (suc (suc (suc (suc (suc (suc (suc (suc d)))))))))) small = absurd (omega arith)

last_digit : (n : ℕ) (behind rest : List ℕ) (last : Bool) → AreQuiet (digit_glyph false (n % 10) ∷ behind) → AreQuiet rest → AreQuiet (cond last (digit_glyph false (n % 10) ∷ behind) rest)
last_digit n behind rest true here later = here
last_digit n behind rest false here later = later

digits_quiet : (k n : ℕ) (behind : List ℕ) → AreQuiet behind → AreQuiet (digits_onto k 10 false n behind)
digits_quiet zero n behind quiet = quiet
digits_quiet (suc k) n behind quiet =
    let here : AreQuiet (digit_glyph false (n % 10) ∷ behind) = All-cons IsQuiet (digit_glyph false (n % 10)) behind (glyph (n % 10) (omega arith)) quiet in
    last_digit n behind (digits_onto k 10 false (n / 10) (digit_glyph false (n % 10) ∷ behind)) (n / 10 == 0) here (digits_quiet k (n / 10) (digit_glyph false (n % 10) ∷ behind) here)

pub number_quiet : (n : ℕ) → AreQuiet (decimal n)
unfolding digits
number_quiet n = digits_quiet 64 n [] none

-- ---- strings

plain_quiet : (byte : ℕ) → is_plain byte ≡ true → IsQuiet byte
plain_quiet byte is =
    let p = and_parts _ (not (byte == 92)) is in
    let q = and_parts _ (not (byte == 62)) p.0 in
    let r = and_parts _ (not (byte == 60)) q.0 in
    let s = and_parts _ (not (byte == 38)) r.0 in
    let t = and_parts (nat_le 32 byte && nat_le byte 126) (not (byte == 34)) s.0 in
    or_right (byte == 10) _ (and_from _ _ (and_from _ _ (and_from _ _ t.0 s.1) r.1) q.1)

hex_quiet : (n : ℕ) → n < 16 → IsQuiet (hex_digit n)
hex_quiet zero small = refl
hex_quiet (suc zero) small = refl
hex_quiet (suc (suc zero)) small = refl
hex_quiet (suc (suc (suc zero))) small = refl
hex_quiet (suc (suc (suc (suc zero)))) small = refl
hex_quiet (suc (suc (suc (suc (suc zero))))) small = refl
hex_quiet (suc (suc (suc (suc (suc (suc zero)))))) small = refl
hex_quiet (suc (suc (suc (suc (suc (suc (suc zero))))))) small = refl
hex_quiet (suc (suc (suc (suc (suc (suc (suc (suc zero)))))))) small = refl
hex_quiet (suc (suc (suc (suc (suc (suc (suc (suc (suc zero))))))))) small = refl
hex_quiet (suc (suc (suc (suc (suc (suc (suc (suc (suc (suc zero)))))))))) small = refl
hex_quiet (suc (suc (suc (suc (suc (suc (suc (suc (suc (suc (suc zero))))))))))) small = refl
hex_quiet (suc (suc (suc (suc (suc (suc (suc (suc (suc (suc (suc (suc zero)))))))))))) small = refl
hex_quiet (suc (suc (suc (suc (suc (suc (suc (suc (suc (suc (suc (suc (suc zero))))))))))))) small = refl
hex_quiet (suc (suc (suc (suc (suc (suc (suc (suc (suc (suc (suc (suc (suc (suc zero)))))))))))))) small = refl
hex_quiet (suc (suc (suc (suc (suc (suc (suc (suc (suc (suc (suc (suc (suc (suc (suc zero))))))))))))))) small = refl
hex_quiet (suc (suc (suc (suc (suc (suc (suc (suc (suc (suc (suc (suc (suc (suc (suc (suc n)))))))))))))))) small = absurd (omega arith)

pub escaped_quiet : (byte : ℕ) → AreQuiet (escaped byte)
unfolding escaped
escaped_quiet byte = go (is_plain byte) refl
  where
    digits : List ℕ
    digits = hex_digit (byte / 16 % 16) ∷ hex_digit (byte % 16) ∷ []

    go : (plain : Bool) → is_plain byte ≡ plain → AreQuiet (cond plain (byte ∷ []) (codes "\\u00" ++ digits))
    go true is = one byte (plain_quiet byte is)
    go false is = both (codes "\\u00") digits (all_of (codes "\\u00") refl)
        (All-cons IsQuiet (hex_digit (byte / 16 % 16)) (hex_digit (byte % 16) ∷ []) (hex_quiet (byte / 16 % 16) (omega arith)) (one (hex_digit (byte % 16)) (hex_quiet (byte % 16) (omega arith))))

pub inlined_quiet : (byte : ℕ) → AreQuiet (inlined byte)
unfolding inlined
inlined_quiet byte = go (is_plain byte) refl (byte == 34) refl (byte == 92) refl
  where
    go : (plain : Bool) → is_plain byte ≡ plain → (quote : Bool) → (byte == 34) ≡ quote → (slash : Bool) → (byte == 92) ≡ slash → AreQuiet (cond (plain || quote || slash) (byte ∷ []) (escaped byte))
    go true is quote of_quote slash of_slash = one byte (plain_quiet byte is)
    go false is true of_quote slash of_slash = one byte (subst IsQuiet (sym (eqb-true byte 34 of_quote)) refl)
    go false is false of_quote true of_slash = one byte (subst IsQuiet (sym (eqb-true byte 92 of_slash)) refl)
    go false is false of_quote false of_slash = escaped_quiet byte

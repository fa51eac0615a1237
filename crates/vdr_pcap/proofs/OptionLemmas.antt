-- What options say, one after another.
use Rattle.std.proofs.Common.{◌≡◌, ◌≢◌, ◌≤◌, ◌<◌, ℕ, zero, suc, Bool, cond, nat_eq, List, [], ◌∷◌, ◌++◌, length, take, Option, None, Some, refl, ap, ◌∙◌, sym, arith}
use Rattle.std.proofs.lemmas.Bool.{eq-eqb, ne_eqb}
use Rattle.std.proofs.lemmas.List.{append_assoc, take-append-le}
use Rattle.vdr_pcap.specs.Numbers.{u16_in}
use Rattle.vdr_pcap.specs.Options.{noted_with, options_from, padded}
use Rattle.vdr_pcap.specs.declared.options.Noted.{Noted}

-- bytes that are passed over
pub passes_over : (big : Bool) (kind : ℕ) (noted : Noted) (n : ℕ) (xs rest : List ℕ) → length xs ≡ n → options_from big kind noted n (xs ++ rest) ≡ options_from big kind noted 0 rest
unfolding options_from
passes_over big kind noted zero [] rest e = refl
passes_over big kind noted (suc n) [] rest e = absurd (none_some n e) where
  none_some : (n : ℕ) → 0 ≡ suc n → ⊥
  none_some n h = omega (arith, h)
passes_over big kind noted zero (x ∷ xs) rest e = absurd (some_none (length xs) e) where
  some_none : (n : ℕ) → suc n ≡ 0 → ⊥
  some_none n h = omega (arith, h)
passes_over big kind noted (suc n) (x ∷ xs) rest e = passes_over big kind noted n xs rest (down (length xs) n e) where
  down : (a b : ℕ) → suc a ≡ suc b → a ≡ b
  down a b h = omega (arith, h)

-- bytes to be passed over that pass the end
pub passes_end : (big : Bool) (kind : ℕ) (noted : Noted) (n : ℕ) (xs : List ℕ) → length xs < n → options_from big kind noted n xs ≡ None
unfolding options_from
passes_end big kind noted zero xs h = absurd (below_none (length xs) h) where
  below_none : (n : ℕ) → n < 0 → ⊥
  below_none n h = omega (arith, h)
passes_end big kind noted (suc n) [] h = refl
passes_end big kind noted (suc n) (x ∷ xs) h = passes_end big kind noted n xs (down (length xs) n h) where
  down : (a b : ℕ) → suc a < suc b → a < b
  down a b h = omega (arith, h)

-- fewer bytes than an option's head
pub too_few : (big : Bool) (kind : ℕ) (noted : Noted) (xs : List ℕ) → 0 < length xs → length xs < 4 → options_from big kind noted 0 xs ≡ None
unfolding options_from
too_few big kind noted [] some few = absurd (none some) where
  none : 0 < 0 → ⊥
  none h = omega (arith, h)
too_few big kind noted (a ∷ []) some few = refl
too_few big kind noted (a ∷ b ∷ []) some few = refl
too_few big kind noted (a ∷ b ∷ c ∷ []) some few = refl
too_few big kind noted (a ∷ b ∷ c ∷ d ∷ xs) some few = absurd (many (length xs) few) where
  many : (n : ℕ) → suc (suc (suc (suc n))) < 4 → ⊥
  many n h = omega (arith, h)

-- what goes on behind an option, with what is then noted
abbrev pub going : (big : Bool) → (kind size : ℕ) → Option Noted → List ℕ → Option Noted
going big kind size noted bytes = elim noted [
  | None ↦ None
  | Some more ↦ options_from big kind more (padded size) bytes
]

abbrev pub headed : (big : Bool) → (kind code size : ℕ) → Noted → List ℕ → Option Noted
headed big kind code size noted bytes = cond (nat_eq code 0) (Some noted) (going big kind size (noted_with big kind code size (take size bytes) noted) bytes)

-- an option's head
pub at_head : (big : Bool) (kind : ℕ) (noted : Noted) (head bytes : List ℕ) → length head ≡ 4
    → options_from big kind noted 0 (head ++ bytes) ≡ headed big kind (u16_in big 0 head) (u16_in big 2 head) noted bytes
unfolding options_from
at_head big kind noted [] bytes e = absurd (clash e) where
  clash : ◌≡◌ {A = ℕ} 0 4 → ⊥
  clash h = omega (arith, h)
at_head big kind noted (a ∷ []) bytes e = absurd (clash e) where
  clash : ◌≡◌ {A = ℕ} 1 4 → ⊥
  clash h = omega (arith, h)
at_head big kind noted (a ∷ b ∷ []) bytes e = absurd (clash e) where
  clash : ◌≡◌ {A = ℕ} 2 4 → ⊥
  clash h = omega (arith, h)
at_head big kind noted (a ∷ b ∷ c ∷ []) bytes e = absurd (clash e) where
  clash : ◌≡◌ {A = ℕ} 3 4 → ⊥
  clash h = omega (arith, h)
at_head big kind noted (a ∷ b ∷ c ∷ d ∷ []) bytes e = refl
at_head big kind noted (a ∷ b ∷ c ∷ d ∷ x ∷ xs) bytes e = absurd (clash (length xs) e) where
  clash : (n : ℕ) → suc (suc (suc (suc (suc n)))) ≡ 4 → ⊥
  clash n h = omega (arith, h)

-- An option whose value and padding were read, and what is then noted.
pub one_more : (big : Bool) (kind : ℕ) (noted more : Noted) (head value rest : List ℕ) (code size : ℕ) → length head ≡ 4 → code ≡ u16_in big 0 head → size ≡ u16_in big 2 head
    → code ≢ 0 → length value ≡ padded size → size ≤ padded size → noted_with big kind code size (take size value) noted ≡ Some more
    → options_from big kind noted 0 ((head ++ value) ++ rest) ≡ options_from big kind more 0 rest
one_more big kind noted more head value rest code size four code_is size_is some long within is =
    ap (λ (b : List ℕ). options_from big kind noted 0 b) (append_assoc head value rest)
    ∙ (at_head big kind noted head (value ++ rest) four
    ∙ ((λ i. headed big kind (sym code_is i) (sym size_is i) noted (value ++ rest))
    ∙ (ap (λ (b : Bool). cond b (Some noted) (going big kind size (noted_with big kind code size (take size (value ++ rest)) noted) (value ++ rest))) (ne_eqb code 0 some)
    ∙ ((λ i. going big kind size (noted_with big kind code size (take-append-le size value rest (omega (arith, within, long)) i) noted) (value ++ rest))
    ∙ (ap (λ (o : Option Noted). going big kind size o (value ++ rest)) is ∙ passes_over big kind more (padded size) value rest long)))))

-- An option with a size that it may not have.
pub one_bad : (big : Bool) (kind : ℕ) (noted : Noted) (head value rest : List ℕ) (code size : ℕ) → length head ≡ 4 → code ≡ u16_in big 0 head → size ≡ u16_in big 2 head
    → code ≢ 0 → length value ≡ padded size → size ≤ padded size → noted_with big kind code size (take size value) noted ≡ None
    → options_from big kind noted 0 ((head ++ value) ++ rest) ≡ None
one_bad big kind noted head value rest code size four code_is size_is some long within is =
    ap (λ (b : List ℕ). options_from big kind noted 0 b) (append_assoc head value rest)
    ∙ (at_head big kind noted head (value ++ rest) four
    ∙ ((λ i. headed big kind (sym code_is i) (sym size_is i) noted (value ++ rest))
    ∙ (ap (λ (b : Bool). cond b (Some noted) (going big kind size (noted_with big kind code size (take size (value ++ rest)) noted) (value ++ rest))) (ne_eqb code 0 some)
    ∙ ((λ i. going big kind size (noted_with big kind code size (take-append-le size value rest (omega (arith, within, long)) i) noted) (value ++ rest))
    ∙ ap (λ (o : Option Noted). going big kind size o (value ++ rest)) is))))

-- The option that ends them.
pub one_last : (big : Bool) (kind : ℕ) (noted : Noted) (head rest : List ℕ) (code : ℕ) → length head ≡ 4 → code ≡ u16_in big 0 head → code ≡ 0
    → options_from big kind noted 0 (head ++ rest) ≡ Some noted
one_last big kind noted head rest code four code_is none =
    at_head big kind noted head rest four
    ∙ ap (λ (b : Bool). cond b (Some noted) (going big kind (u16_in big 2 head) (noted_with big kind (u16_in big 0 head) (u16_in big 2 head) (take (u16_in big 2 head) rest) noted) rest))
    (eq-eqb (u16_in big 0 head) 0 (sym code_is ∙ none))

-- An option that passes their end.
pub one_beyond : (big : Bool) (kind : ℕ) (noted : Noted) (head rest : List ℕ) (code size : ℕ) → length head ≡ 4 → code ≡ u16_in big 0 head → size ≡ u16_in big 2 head
    → code ≢ 0 → length rest < padded size → options_from big kind noted 0 (head ++ rest) ≡ None
one_beyond big kind noted head rest code size four code_is size_is some beyond =
    at_head big kind noted head rest four
    ∙ ((λ i. headed big kind (sym code_is i) (sym size_is i) noted rest)
    ∙ (ap (λ (b : Bool). cond b (Some noted) (going big kind size (noted_with big kind code size (take size rest) noted) rest)) (ne_eqb code 0 some)
    ∙ either (noted_with big kind code size (take size rest) noted)))
  where
    either : (o : Option Noted) → going big kind size o rest ≡ None
    either None = refl
    either (Some more) = passes_end big kind more (padded size) rest beyond

pub none_left : (big : Bool) (kind : ℕ) (noted : Noted) → options_from big kind noted 0 [] ≡ Some noted
unfolding options_from
none_left big kind noted = refl

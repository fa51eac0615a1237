-- The images that a stop leaves, by choice.
use Rattle.std.proofs.Common.{◌≡◌, ◌<◌, ◌+◌, inl, inr, ℕ, zero, suc, Bool, true, false, List, [], length, get_or, set, replicate, refl, sym, ◌∙◌, ap, subst, arith, get_or-set_same, get_or-set_other}
use Rattle.std.proofs.lemmas.Bool.{cases_eq}
use Rattle.std.proofs.lemmas.List.{get_or_default, set-get_or}
use Rattle.vdr_outside.specs.Disk.{Image, content}
use Rattle.vdr_memory.specs.declared.call.Call.{Call}
use Rattle.vdr_memory.specs.declared.image.Torn.TheVariants.{Old}
use Rattle.vdr_memory.specs.Images.{IsLast, makes_last, torn_by}
use Rattle.vdr_memory.specs.Steps.{Step}
use Rattle.vdr_memory.specs.Steps.Step.{write, sync}
use Rattle.vdr_memory.proofs.Overwriting.{over_nothing}

-- Where the old bytes stay, the image stays.
pub torn_old : (step : Step) (image : Image) → torn_by Old step image ≡ image
torn_old (write m at bytes done) image = ap (λ (b : List ℕ). set image m b) (over_nothing (content image m) at) ∙ set-get_or image m []
torn_old (sync m done) image = refl

-- The last syncs of the calls so far.

pub zeros : (n m : ℕ) → get_or {A = ℕ} (replicate n 0) m 0 ≡ 0
zeros zero m = refl
zeros (suc n) zero = refl
zeros (suc n) (suc m) = zeros n m

-- What a call is does not depend on what is read past the end.
abbrev Makes : List Call → ℕ → Call → Bool → Type 0
Makes calls i d b = makes_last (get_or calls i d).work (get_or calls i d).done ≡ b

any_default : (calls : List Call) (i : ℕ) (d e : Call) (P : Call → Type 0) → i < length calls → P (get_or calls i d) → P (get_or calls i e)
any_default calls i d e P within p = subst P (get_or_default calls i d e within) p

pub last_same : (calls : List Call) (i : ℕ) (last : List ℕ) (d : Call) → i < length calls → makes_last (get_or calls i d).work (get_or calls i d).done ≡ false → IsLast calls i last → IsLast calls (i + 1) last
last_same calls i last d within none old = record {
  covers = λ k e below makes. elim (cases_eq k i) [
    | inl same ↦ absurd (
        let none_here : makes_last (get_or calls k e).work (get_or calls k e).done ≡ false = subst (λ (j : ℕ). Makes calls j e false) (sym same) (any_default calls i d e (λ (c : Call). makes_last c.work c.done ≡ false) within none) in
        cc)
    | inr other ↦ old.covers k e (omega (arith, below, other)) makes
  ];
  exact = λ m k e is. let was = old.exact m k e is in (omega (arith, was.0), was.1, was.2);
}

pub last_more : (calls : List Call) (i : ℕ) (last : List ℕ) (d : Call) → i < length calls → makes_last (get_or calls i d).work (get_or calls i d).done ≡ true → (get_or calls i d).medium < length last → IsLast calls i last
    → IsLast calls (i + 1) (set last (get_or calls i d).medium (i + 1))
last_more calls i last d within makes there old =
    let m = (get_or calls i d).medium in
    record {
      covers = λ k e below made. elim (cases_eq (get_or calls k e).medium m) [
        | inl here ↦ subst (λ (n : ℕ). k < get_or (set last m (i + 1)) n 0) (sym here) (omega (arith, below, get_or-set_same last m (i + 1) 0 there))
        | inr apart ↦ elim (cases_eq k i) [
          | inl same ↦ absurd (apart (subst (λ (j : ℕ). (get_or calls j e).medium ≡ m) (sym same) (any_default calls i d e (λ (c : Call). c.medium ≡ m) within refl)))
          | inr other ↦ omega (arith, old.covers k e (omega (arith, below, other)) made, get_or-set_other last m (get_or calls k e).medium (i + 1) 0 apart)
        ]
      ];
      exact = λ n k e is. elim (cases_eq n m) [
        | inl here ↦
            let now : get_or (set last m (i + 1)) m 0 ≡ k + 1 = subst (λ (j : ℕ). get_or (set last m (i + 1)) j 0 ≡ k + 1) here is in
            let same : k ≡ i = omega (arith, now, get_or-set_same last m (i + 1) 0 there) in (
              omega (arith, same),
              subst (λ (j : ℕ). Makes calls j e true) (sym same) (any_default calls i d e (λ (c : Call). makes_last c.work c.done ≡ true) within makes),
              subst (λ (j : ℕ). (get_or calls j e).medium ≡ m) (sym same) (any_default calls i d e (λ (c : Call). c.medium ≡ m) within refl) ∙ sym here,
            )
        | inr apart ↦
            let was : get_or last n 0 ≡ k + 1 = sym (get_or-set_other last m n (i + 1) 0 apart) ∙ is in
            let then = old.exact n k e was in
            (omega (arith, then.0), then.1, then.2)
      ];
    }

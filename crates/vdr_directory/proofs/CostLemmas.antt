-- How many bytes are read, one call after another.
use Rattle.std.proofs.Common.{◌≡◌, ◌<◌, ◌≤◌, ◌+◌, ◌-◌, ◌*◌, ◌^◌, ℕ, Bool, true, false, cond, List, [], ◌∷◌, length, map, take, get_or, min, nat_lt, Option, None, zero, suc, refl, sym, ap, ◌∙◌, subst, arith, length-set, get_or-set_same, get_or-set_other, add-one}
use Rattle.std.proofs.Math.ListN.{get_or-eq_default}
use Rattle.std.proofs.Math.Nat.{mul-le-mul_left, mul-add}
use Rattle.std.proofs.lemmas.Bool.{ltb-true, ltb-false, cond-false}
use Rattle.vdr_entry.specs.declared.summary.Summary.{Summary}
use Rattle.vdr_outside.specs.Causes.{counted}
use Rattle.vdr_directory.specs.declared.entry.Entry.{Entry}
use Rattle.vdr_directory.specs.Sequence.{Placed}
use Rattle.vdr_directory.specs.Entries.{Describe}
use Rattle.vdr_directory.specs.Costs.{ReadsAtMost, one_if_none, unsummarized, lacking}
use Rattle.vdr_directory.specs.Fronts.{Head, head_of}

pub reads_none : (m n : ℕ) (before now : List ℕ) → now ≡ before → ReadsAtMost m n before now
reads_none m n before now same = record { others = λ k other. ap (λ (xs : List ℕ). get_or xs k 0) same; own = let e = ap (λ (xs : List ℕ). get_or xs m 0) same in omega (arith, e) }

counted_most : (counts : List ℕ) (m n : ℕ) → get_or (counted counts m n) m 0 ≤ get_or counts m 0 + n
counted_most counts m n = go (nat_lt m (length counts)) refl
  where
    go : (b : Bool) → nat_lt m (length counts) ≡ b → get_or (counted counts m n) m 0 ≤ get_or counts m 0 + n
    go true lt = let a = get_or-set_same counts m (min (get_or counts m 0 + n) (2 ^ 64 - 1)) 0 (ltb-true m (length counts) lt) in omega (arith, a)
    go false ge =
        let a = get_or-eq_default (counted counts m n) 0 {n = m} (subst (λ (k : ℕ). k ≤ m) (sym (length-set counts m (min (get_or counts m 0 + n) (2 ^ 64 - 1)))) (ltb-false m (length counts) ge)) in omega (arith, a)

pub reads_counted : (m n : ℕ) (before now : List ℕ) → now ≡ counted before m n → ReadsAtMost m n before now
reads_counted m n before now is = subst (ReadsAtMost m n before) (sym is) (record {
  others = λ k other. get_or-set_other before m k (min (get_or before m 0 + n) (2 ^ 64 - 1)) 0 other;
  own = counted_most before m n;
})

-- of a segment without a summary, and of one with one
pub reads_bare : (m segment : ℕ) (o : Option Summary) (before now : List ℕ) → o ≡ None → now ≡ counted before m segment → ReadsAtMost m (segment * one_if_none o) before now
reads_bare m segment o before now none is =
    let h = reads_counted m segment before now is in
    let n = ap (λ (o : Option Summary). segment * one_if_none o) none in
    record { others = h.others; own = let x = h.own in omega (arith, x, n) }

pub reads_join : (m a b n : ℕ) (before mid now : List ℕ) → a + b ≤ n → ReadsAtMost m a before mid → ReadsAtMost m b mid now → ReadsAtMost m n before now
reads_join m a b n before mid now most h k = record {
  others = λ j other. k.others j other ∙ h.others j other;
  own = let x = h.own in let y = k.own in omega (arith, x, y, most);
}

pub reads_both : (m a b : ℕ) (before mid now : List ℕ) → ReadsAtMost m a before mid → ReadsAtMost m b mid now → ReadsAtMost m (a + b) before now
reads_both m a b before mid now h k = reads_join m a b (a + b) before mid now (omega arith) h k

pub reads_more : (m a n : ℕ) (before now : List ℕ) → a ≤ n → ReadsAtMost m a before now → ReadsAtMost m n before now
reads_more m a n before now most h = record { others = h.others; own = let x = h.own in omega (arith, x, most) }

-- Entries without a summary

unsummarized_same : (es fs : List Entry) → map head_of fs ≡ map head_of es → unsummarized fs ≡ unsummarized es
unsummarized_same [] [] same = refl
unsummarized_same [] (f ∷ fs) same = let bad : ⊥ = cc in absurd bad
unsummarized_same (e ∷ es) [] same = let bad : ⊥ = cc in absurd bad
unsummarized_same (e ∷ es) (f ∷ fs) same =
    let first : head_of f ≡ head_of e = cc in
    let rest : map head_of fs ≡ map head_of es = cc in
    λ i. one_if_none (first i).summary + unsummarized_same es fs rest i

pub unsummarized_by_heads : (es fs : List Entry) → map head_of fs ≡ map head_of es → unsummarized fs ≡ unsummarized es
unsummarized_by_heads es fs same = unsummarized_same es fs same

unsummarized_more : (es : List Entry) (i : ℕ) (d : Entry) → i < length es → unsummarized (take i es) + one_if_none (get_or es i d).summary ≡ unsummarized (take (suc i) es)
unsummarized_more [] i d lt = absurd (omega (arith, lt))
unsummarized_more (e ∷ es) zero d lt = omega arith
unsummarized_more (e ∷ es) (suc i) d lt = let k = unsummarized_more es i d (omega (arith, lt)) in omega (arith, k)

pub unsummarized_front : (es : List Entry) (i : ℕ) → unsummarized (take i es) ≤ unsummarized es
unsummarized_front [] zero = omega arith
unsummarized_front [] (suc i) = omega arith
unsummarized_front (e ∷ es) zero = omega arith
unsummarized_front (e ∷ es) (suc i) = let k = unsummarized_front es i in omega (arith, k)

pub lacking_described : (ps : List Placed) (es : List Entry) → Describe ps es → unsummarized es ≡ lacking ps
lacking_described [] [] d = refl
lacking_described [] (e ∷ es) d = absurd d
lacking_described (p ∷ ps) [] d = absurd d
lacking_described (p ∷ ps) (e ∷ es) d = λ i. one_if_none (d.0.summary i) + lacking_described ps es d.1 i

summary_at : (es fs : List Entry) (i : ℕ) (d : Entry) → map head_of fs ≡ map head_of es → (get_or fs i d).summary ≡ (get_or es i d).summary
summary_at [] [] i d same = refl
summary_at [] (f ∷ fs) i d same = let bad : ⊥ = cc in absurd bad
summary_at (e ∷ es) [] i d same = let bad : ⊥ = cc in absurd bad
summary_at (e ∷ es) (f ∷ fs) zero d same = let first : head_of f ≡ head_of e = cc in ap (λ (h : Head). h.summary) first
summary_at (e ∷ es) (f ∷ fs) (suc i) d same = let rest : map head_of fs ≡ map head_of es = cc in summary_at es fs i d rest

length_by_heads : (es fs : List Entry) → map head_of fs ≡ map head_of es → length fs ≡ length es
length_by_heads [] [] same = refl
length_by_heads [] (f ∷ fs) same = let bad : ⊥ = cc in absurd bad
length_by_heads (e ∷ es) [] same = let bad : ⊥ = cc in absurd bad
length_by_heads (e ∷ es) (f ∷ fs) same = let rest : map head_of fs ≡ map head_of es = cc in ap (λ (n : ℕ). suc n) (length_by_heads es fs rest)

-- so many bytes for each
bytes_more : (segment : ℕ) (es : List Entry) (i : ℕ) (d : Entry) → i < length es → segment * unsummarized (take i es) + segment * one_if_none (get_or es i d).summary ≤ segment * unsummarized (take (i + 1) es)
bytes_more segment es i d lt =
    let a = mul-add segment (unsummarized (take i es)) (one_if_none (get_or es i d).summary) in
    let b = ap (λ (n : ℕ). segment * n) (unsummarized_more es i d lt) in
    let c = ap (λ (n : ℕ). segment * unsummarized (take n es)) (add-one i) in
    omega (arith, a, b, c)

bytes_most : (segment : ℕ) (es : List Entry) (i : ℕ) → segment * unsummarized (take i es) ≤ segment * unsummarized es
bytes_most segment es i = mul-le-mul_left segment (unsummarized_front es i)

-- one entry more, by the heads of those before they were surveyed
pub reads_next : (m segment : ℕ) (es fs : List Entry) (i : ℕ) (d : Entry) (gate : ℕ) (before mid now : List ℕ) → map head_of fs ≡ map head_of es → i < length fs → ReadsAtMost m (segment * unsummarized (take i es)) before mid
    → ReadsAtMost m (gate + segment * one_if_none (get_or fs i d).summary) mid now → ReadsAtMost m (gate + segment * unsummarized (take (i + 1) es)) before now
reads_next m segment es fs i d gate before mid now same lt h k =
    let long = length_by_heads es fs same in
    let one = ap (λ (o : Option Summary). segment * one_if_none o) (summary_at es fs i d same) in
    let more = bytes_more segment es i d (omega (arith, lt, long)) in
    reads_join m (segment * unsummarized (take i es)) (gate + segment * one_if_none (get_or fs i d).summary) (gate + segment * unsummarized (take (i + 1) es)) before mid now (omega (arith, one, more)) h k

-- with the first gate of the newest, or with none
pub reads_none_more : (m n : ℕ) (b : Bool) (before now : List ℕ) → b ≡ false → ReadsAtMost m (cond b 1 0 + n) before now → ReadsAtMost m n before now
reads_none_more m n b before now none h = reads_more m (cond b 1 0 + n) n before now (let c : cond b 1 0 ≡ 0 = cond-false {A = ℕ} b 1 0 none in omega (arith, c)) h

pub reads_one_more : (m n : ℕ) (b : Bool) (before now : List ℕ) → ReadsAtMost m (cond b 1 0 + n) before now → ReadsAtMost m (1 + n) before now
reads_one_more m n false before now h = reads_more m (0 + n) (1 + n) before now (omega arith) h
reads_one_more m n true before now h = h

pub reads_front : (m segment : ℕ) (es : List Entry) (i : ℕ) (before now : List ℕ) → ReadsAtMost m (1 + segment * unsummarized (take i es)) before now → ReadsAtMost m (1 + segment * unsummarized es) before now
reads_front m segment es i before now h =
    let most = bytes_most segment es i in reads_more m (1 + segment * unsummarized (take i es)) (1 + segment * unsummarized es) before now (omega (arith, most)) h

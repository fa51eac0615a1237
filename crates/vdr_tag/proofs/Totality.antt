-- Bytes have a front of TAG blocks, or a block in it is refused.
use Rattle.std.proofs.Common.{◌≡◌, ◌≤◌, ◌<◌, ◌++◌, ◌+◌, ◌∙◌, ap, refl, sym, subst, ℕ, zero, suc, Bool, true, false, ◌⊎◌, inl, inr, ⊎_elim, List, [], ◌∷◌, length, flat_map, Option, Some, None, Ok, Err, eqb, ltb, arith, append_assoc, length-drop}
use Rattle.std.specs.List.{after_first, before_first, position_or_len}
use Rattle.std.proofs.lemmas.Bool.{eqb-true, ltb-true}
use Rattle.vdr_tag.specs.declared.bad.BadTag.{BadTag}
use Rattle.vdr_tag.specs.declared.bad.BadTag.TheVariants.{Unclosed}
use Rattle.vdr_tag.specs.Values.{TagValues, nothing, over}
use Rattle.vdr_tag.specs.Blocks.{block_refusal, block_values}
use Rattle.vdr_tag.specs.Fronts.{HasFront, IsRefused, OpensBlock, begins_block, block_text, opened_refusal, reading}
use Rattle.vdr_tag.proofs.FrontLemmas.{OpensBlock-from_none}
use Rattle.vdr_tag.proofs.Readings.{reading-front, reading-refused}

record IsLegal (bytes : List ℕ) : Type 0 where
  values : TagValues
  size : ℕ
  front : HasFront bytes values size

record IsIllegal (bytes : List ℕ) : Type 0 where
  bad : BadTag
  refused : IsRefused bytes bad

no_blocks : (bytes : List ℕ) → begins_block bytes ≡ false → IsLegal bytes
no_blocks bytes h = record { values = nothing; size = 0; front = record { insides = []; blocks = refl; rest = bytes; spelled = refl; ended = h; size = refl } }

-- The block that these bytes open, before what is behind it.
before_more : (after more before : List ℕ) (block : List ℕ) → after ≡ block ++ 92 ∷ more → more ≡ before → 92 ∷ after ≡ block_text block ++ before
before_more after more before block cut e = ap (λ xs. 92 ∷ xs) (cut ∙ ap (λ xs. block ++ 92 ∷ xs) e ∙ sym (append_assoc block (92 ∷ []) before))

legal_more : (after more : List ℕ) (values : TagValues) → OpensBlock after values more → IsLegal more → IsLegal (92 ∷ after)
legal_more after more values block h = record {
  values = over values h.values;
  size = length (flat_map block_text (block.inside ∷ h.front.insides));
  front = record {
    insides = block.inside ∷ h.front.insides;
    blocks = (values, h.values, block.block, h.front.blocks, refl);
    rest = h.front.rest;
    spelled =
        before_more after more (flat_map block_text h.front.insides ++ h.front.rest) block.inside block.spelled h.front.spelled
        ∙ sym (append_assoc (block_text block.inside) (flat_map block_text h.front.insides) h.front.rest);
    ended = h.front.ended;
    size = refl;
  };
}

illegal_more : (after more : List ℕ) (values : TagValues) → OpensBlock after values more → IsIllegal more → IsIllegal (92 ∷ after)
illegal_more after more values block h = record {
  bad = h.bad;
  refused = record {
    insides = block.inside ∷ h.refused.insides;
    values = over values h.refused.values;
    blocks = (values, h.refused.values, block.block, h.refused.blocks, refl);
    rest = h.refused.rest;
    spelled =
        before_more after more (flat_map block_text h.refused.insides ++ 92 ∷ h.refused.rest) block.inside block.spelled h.refused.spelled
        ∙ sym (append_assoc (block_text block.inside) (flat_map block_text h.refused.insides) (92 ∷ h.refused.rest));
    refused = h.refused.refused;
  };
}

refused_here : (after : List ℕ) (bad : BadTag) → opened_refusal after ≡ Some bad → IsIllegal (92 ∷ after)
refused_here after bad h = record { bad = bad; refused = record { insides = []; values = nothing; blocks = refl; rest = after; spelled = refl; refused = h } }

abbrev inside_of : List ℕ → List ℕ
inside_of after = before_first (λ b. eqb b 92) after

abbrev rest_of : List ℕ → List ℕ
rest_of after = after_first (λ b. eqb b 92) after

-- What is behind the block that is opened before these bytes is shorter.
opened_block : (after : List ℕ) → ((more : List ℕ) → length more < length after → IsLegal more ⊎ IsIllegal more) → IsLegal (92 ∷ after) ⊎ IsIllegal (92 ∷ after)
opened_block after behind = by_place (ltb (position_or_len (λ b. eqb b 92) after) (length after)) refl
  where
    by_refusal : (o : Option BadTag) → block_refusal (inside_of after) ≡ o → ltb (position_or_len (λ b. eqb b 92) after) (length after) ≡ true → IsLegal (92 ∷ after) ⊎ IsIllegal (92 ∷ after)
    by_refusal (Some bad) e place = inr (refused_here after bad (rw place e))
    by_refusal None e place =
        let inside_it = ltb-true (position_or_len (λ b. eqb b 92) after) (length after) place in
        let block = OpensBlock-from_none after (inside_of after) (rest_of after) inside_it refl refl e in
        let shorter : length (rest_of after) < length after = omega (arith, inside_it, length-drop (position_or_len (λ b. eqb b 92) after + 1) after) in
        ⊎_elim (λ h. inl (legal_more after (rest_of after) (block_values (inside_of after)) block h)) (λ h. inr (illegal_more after (rest_of after) (block_values (inside_of after)) block h)) (behind (rest_of after) shorter)

    by_place : (t : Bool) → ltb (position_or_len (λ b. eqb b 92) after) (length after) ≡ t → IsLegal (92 ∷ after) ⊎ IsIllegal (92 ∷ after)
    by_place true e = by_refusal (block_refusal (inside_of after)) refl e
    by_place false e = inr (refused_here after Unclosed (rw e refl))

decided : (k : ℕ) (bytes : List ℕ) → length bytes ≤ k → IsLegal bytes ⊎ IsIllegal bytes
decided k [] h = inl (no_blocks [] refl)
decided zero (b ∷ after) h = absurd (omega arith)
decided (suc k) (b ∷ after) h = by_start (eqb b 92) refl (opened_block after (λ more shorter. decided k more (omega arith)))
  where
    by_start : (t : Bool) → eqb b 92 ≡ t → IsLegal (92 ∷ after) ⊎ IsIllegal (92 ∷ after) → IsLegal (b ∷ after) ⊎ IsIllegal (b ∷ after)
    by_start true e opened = let P : ℕ → Type 0 = λ x. IsLegal (x ∷ after) ⊎ IsIllegal (x ∷ after) in subst P (sym (eqb-true b 92 e)) opened
    by_start false e opened = inl (no_blocks (b ∷ after) e)

-- What bytes read as is what they have.
pub HasFront-from_reading : (bytes : List ℕ) (values : TagValues) (n : ℕ) → reading bytes ≡ Ok (values, n) → HasFront bytes values n
HasFront-from_reading bytes values n h = by_kind (decided (length bytes) bytes (omega arith))
  where
    by_kind : IsLegal bytes ⊎ IsIllegal bytes → HasFront bytes values n
    by_kind (inl legal) =
        let read = reading-front bytes legal.values legal.size legal.front in
        let P : TagValues × ℕ → Type 0 = λ (v, m). HasFront bytes v m in
        let same : ◌≡◌ {A = TagValues × ℕ} (legal.values, legal.size) (values, n) = cc in
        subst P same legal.front
    by_kind (inr illegal) = absurd (cc (h, reading-refused bytes illegal.bad illegal.refused))

pub IsRefused-from_reading : (bytes : List ℕ) (bad : BadTag) → reading bytes ≡ Err bad → IsRefused bytes bad
IsRefused-from_reading bytes bad h = by_kind (decided (length bytes) bytes (omega arith))
  where
    by_kind : IsLegal bytes ⊎ IsIllegal bytes → IsRefused bytes bad
    by_kind (inl legal) = absurd (cc (h, reading-front bytes legal.values legal.size legal.front))
    by_kind (inr illegal) =
        let read = reading-refused bytes illegal.bad illegal.refused in
        let same : illegal.bad ≡ bad = cc in
        subst (IsRefused bytes) same illegal.refused

-- Reading the TAG blocks at a front one after another.
use Rattle.std.proofs.Common.{◌≡◌, ◌++◌, ◌-◌, ◌<◌, ◌∙◌, ap, refl, sym, subst, ℕ, false, not, List, [], ◌∷◌, length, flat_map, Some, None, arith, length-append, eqb, append_assoc, append-nil}
use Rattle.std.specs.List.{after_first, before_first, list_all, position_or_len}
use Rattle.std.proofs.lemmas.Grind.{flat_map-append}
use Rattle.vdr_tag.specs.declared.bad.BadTag.{BadTag}
use Rattle.vdr_tag.specs.Values.{TagValues, nothing, over}
use Rattle.vdr_tag.specs.Blocks.{IsBlock, block_refusal, block_values}
use Rattle.vdr_tag.specs.Fronts.{AreBlocks, HasFront, IsRefused, OpensBlock, begins_block, block_text, opened_refusal}
use Rattle.vdr_tag.proofs.BlockLemmas.{IsBlock-from_none, IsCut-from_place}
use Rattle.vdr_tag.proofs.ValueLemmas.{IsCounted, IsCounted-all_said, nothing-over, over-nothing, over_assoc}

-- Before the rest stand these blocks, which say these values.
pub record IsBehind (bytes rest : List ℕ) (values : TagValues) : Type 0 where
  pub insides : List (List ℕ)
  pub blocks : AreBlocks insides values
  pub spelled : bytes ≡ flat_map block_text insides ++ rest

IsCounted-block : (inside : List ℕ) (values : TagValues) → IsBlock inside values → IsCounted values
IsCounted-block inside values h = let P : TagValues → Type 0 = IsCounted in subst P (sym h.values_are) (IsCounted-all_said h.said)

AreBlocks-push : (insides : List (List ℕ)) (inside : List ℕ) (said values : TagValues) → AreBlocks insides said → IsBlock inside values → AreBlocks (insides ++ inside ∷ []) (over said values)
AreBlocks-push [] inside said values h block =
    let counted = IsCounted-block inside values block in
    (values, nothing, block, refl, ap (λ v. over v values) h ∙ nothing-over values counted ∙ sym (over-nothing values counted))
AreBlocks-push (first ∷ insides) inside said values h block =
    (h.0, over h.1 values, h.2, AreBlocks-push insides inside h.1 values h.3 block, ap (λ v. over v values) h.4 ∙ over_assoc h.0 h.1 values)

regrouped : (before inside rest : List ℕ) → before ++ 92 ∷ (inside ++ 92 ∷ rest) ≡ (before ++ (block_text inside ++ [])) ++ rest
regrouped before inside rest = simp (append_assoc, append-nil)

pub IsBehind-more : (bytes after rest : List ℕ) (said values : TagValues) → IsBehind bytes (92 ∷ after) said → OpensBlock after values rest → IsBehind bytes rest (over said values)
IsBehind-more bytes after rest said values h block = record {
  insides = h.insides ++ block.inside ∷ [];
  blocks = AreBlocks-push h.insides block.inside said values h.blocks block.block;
  spelled =
      h.spelled
      ∙ ap (λ xs. flat_map block_text h.insides ++ 92 ∷ xs) block.spelled
      ∙ regrouped (flat_map block_text h.insides) block.inside rest
      ∙ ap (λ xs. xs ++ rest) (sym (flat_map-append block_text h.insides (block.inside ∷ [])));
}

-- A block that is closed and has no refusal.
pub OpensBlock-from_none : (after inside rest : List ℕ) → position_or_len (λ b. eqb b 92) after < length after
    → inside ≡ before_first (λ b. eqb b 92) after → rest ≡ after_first (λ b. eqb b 92) after → block_refusal inside ≡ None → OpensBlock after (block_values inside) rest
OpensBlock-from_none after inside rest place before behind none =
    let cut = IsCut-from_place 92 after place in
    record {
      inside = inside;
      block = IsBlock-from_none inside (ap (list_all (λ b. not (eqb b 92))) before ∙ cut.ended) none;
      spelled = cut.spelled ∙ (λ i. sym before i ++ 92 ∷ sym behind i);
    }

-- Where no block is opened any more.
pub HasFront-from_behind : (bytes rest : List ℕ) (values : TagValues) → IsBehind bytes rest values → begins_block rest ≡ false → HasFront bytes values (length bytes - length rest)
HasFront-from_behind bytes rest values h ended = record {
  insides = h.insides;
  blocks = h.blocks;
  rest = rest;
  spelled = h.spelled;
  ended = ended;
  size = omega (arith, ap length h.spelled, length-append (flat_map block_text h.insides) rest);
}

pub IsRefused-from_behind : (bytes rest after : List ℕ) (values : TagValues) (bad : BadTag) → IsBehind bytes rest values → rest ≡ 92 ∷ after → opened_refusal after ≡ Some bad → IsRefused bytes bad
IsRefused-from_behind bytes rest after values bad h opened refused = record {
  insides = h.insides;
  values = values;
  blocks = h.blocks;
  rest = after;
  spelled = h.spelled ∙ ap (λ xs. flat_map block_text h.insides ++ xs) opened;
  refused = refused;
}

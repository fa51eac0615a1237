-- Worked examples, by computation.
use Rattle.std.proofs.Common.{◌≡◌, ◌++◌, ℕ, List, [], ◌∷◌, Some, Ok, Err, refl, codes}
use Rattle.vdr_bytes.specs.Checksum.{checksum}
use Rattle.vdr_tag.specs.declared.bad.BadTag.TheVariants.{Unclosed, Missing, Wrong, Field, Value}
use Rattle.vdr_tag.specs.Values.{nothing}
use Rattle.vdr_tag.specs.Items.{items_refusal}
use Rattle.vdr_tag.specs.Blocks.{block_refusal, block_values}
use Rattle.vdr_tag.specs.Fronts.{block_text, reading}

-- A block, and bytes behind it.
abbrev block : (inside behind : List ℕ) → List ℕ
block inside behind = block_text inside ++ behind

pub items_checksum : checksum (codes "s:GP0001,n:7") ≡ 0x10
items_checksum = refl

pub heading_tags : reading (block (codes "s:GP0001,n:7*10") (codes "$GPHDT")) ≡ Ok (record nothing { source = Some (codes "GP0001"); line = Some 7 }, 17)
unfolding reading block_refusal block_values items_refusal
heading_tags = refl

pub no_tags : (reading (codes "$GPHDT") ≡ Ok (nothing, 0)) × (reading [] ≡ Ok (nothing, 0))
unfolding reading block_refusal block_values items_refusal
no_tags = (refl, refl)

-- Every code, and another one.
pub every_code : reading (block (codes "d:VD0001,t:hello,g:2-2-999999,c:0,r:12,1G2:0125*4a") []) ≡ Ok (
  record nothing {
    destination = Some (codes "VD0001");
    text = Some (codes "hello");
    group = Some (record { number = 2; total = 2; code = 999999 });
    time = Some 0;
    relative = Some 12;
    others = 1;
  },
  52,
)
unfolding reading block_refusal block_values items_refusal
every_code = refl

-- Where a code stands twice the first counts, in one block and in two.
pub first_counts :
    (reading (block (codes "n:7,n:8*23") []) ≡ Ok (record nothing { line = Some 7 }, 12))
    × (reading (block (codes "s:GP0001*5F") (block (codes "s:GP0002,d:VD0001*3D") [])) ≡ Ok (record nothing { source = Some (codes "GP0001"); destination = Some (codes "VD0001") }, 35))
unfolding reading block_refusal block_values items_refusal
first_counts = (refl, refl)

-- The refusals in their order, each where later ones hold too.
pub refusals_in_order :
    (reading (92 ∷ codes "n7*00") ≡ Err Unclosed)
    × (reading (block (codes "n7*0") []) ≡ Err Missing)
    × (reading (block (codes "n7*58") []) ≡ Err (Wrong 0x58 0x59))
    × (reading (block (codes "n:1000,7*4E") []) ≡ Err Field)
    × (reading (block (codes "n:1000*55") []) ≡ Err Value)
    × (reading (block (codes "s:GP0001,n:7*11") (block (codes "n7*58") [])) ≡ Err (Wrong 0x11 0x10))
    × (reading (block (codes "s:GP0001,n:7*10") (92 ∷ codes "n7*59")) ≡ Err Unclosed)
unfolding reading block_refusal block_values items_refusal
refusals_in_order = (refl, refl, refl, refl, refl, refl, refl)

-- Items without a code.
pub refused_fields :
    (reading (block (codes "n7*59") []) ≡ Err Field)
    × (reading (block (codes ":7*0D") []) ≡ Err Field)
    × (reading (block (codes "*00") []) ≡ Err Field)
unfolding reading block_refusal block_values items_refusal
refused_fields = (refl, refl, refl)

-- Values at the edge of what is accepted.
pub accepted_values :
    (reading (block (codes "n:007*63") []) ≡ Ok (record nothing { line = Some 7 }, 10))
    × (reading (block (codes "t:*4E") []) ≡ Ok (record nothing { text = Some [] }, 7))
    × (reading (block (codes "t:a*b*67") []) ≡ Ok (record nothing { text = Some (codes "a*b") }, 10))
    × (reading (block (codes "s:a:b*70") []) ≡ Ok (record nothing { source = Some (codes "a:b") }, 10))
    × (reading (block (codes "x:1,y:2*2E") []) ≡ Ok (record nothing { others = 2 }, 12))
unfolding reading block_refusal block_values items_refusal
accepted_values = (refl, refl, refl, refl, refl)

pub refused_values :
    (reading (block (codes "s:*49") []) ≡ Err Value)
    × (reading (block (codes "s:1234567890123456*4F") []) ≡ Err Value)
    × (reading (block (codes "s:GP 01*7F") []) ≡ Err Value)
    × (reading (block (codes "g:3-2-1234*58") []) ≡ Err Value)
    × (reading (block (codes "g:0-2-1234*5B") []) ≡ Err Value)
    × (reading (block (codes "g:1-2*73") []) ≡ Err Value)
    × (reading (block (codes "g:1-2-3-4*74") []) ≡ Err Value)
    × (reading (block (codes "g:1-2-1234567*6E") []) ≡ Err Value)
    × (reading (block (codes "r:1234567890123456789*78") []) ≡ Err Value)
unfolding reading block_refusal block_values items_refusal
refused_values = (refl, refl, refl, refl, refl, refl, refl, refl, refl)

-- The first items of the generated feed with the seed 0, worked out.
use Rattle.std.proofs.Common.{◌≡◌, ◌++◌, ◌∷◌, [], codes, refl}
use Rattle.vdr_feed.specs.Trial.{trial_bytes}

pub first_bytes : trial_bytes 12345 0 ≡ codes "UdPbC" ++ 0 ∷ 92 ∷ [] ++ codes "s:GP0001,n:000*17" ++ 92 ∷ [] ++ codes "$GPHDT,154.5,T*30" ++ 13 ∷ 10 ∷ []
first_bytes = refl

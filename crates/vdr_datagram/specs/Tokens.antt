-- The tokens with which datagrams begin: `UdPbC`, `RaUdP` and `RrUdP` of IEC 61162-450, and `PcmFr` of this project's profile.
use Rattle.std.specs.Prelude.{ℕ, Bool, ◌||◌, List, [], ◌∷◌, ◌++◌, codes, nat_eq, if◌then◌else◌}
use Rattle.std.specs.List.{starts_with}
use Rattle.vdr_terms.specs.Datagrams.{has_token}
use Rattle.vdr_datagram.specs.declared.tokens.Token.{Token}
use Rattle.vdr_datagram.specs.declared.tokens.Token.TheVariants.{Sentences, Image, Pcm, Other, NoToken}

-- The bytes begin with these letters and NUL.
abbrev pub begins : (letters : List ℕ) → List ℕ → Bool
begins letters bytes = starts_with nat_eq bytes (letters ++ 0 ∷ [])

-- The token, by the first six bytes.
abbrev pub token : List ℕ → Token
token bytes =
    if begins (codes "UdPbC") bytes then Sentences
    else if begins (codes "RaUdP") bytes || begins (codes "RrUdP") bytes then Image
    else if begins (codes "PcmFr") bytes then Pcm
    else if has_token bytes then Other
    else NoToken

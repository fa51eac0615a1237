-- What is told of a line and of a datagram where nothing is told of those that are left: that there was one.
use Rattle.std.proofs.Common.{◌≡◌, ◌≤◌, ◌<◌, ◌^◌, ◌-◌, ◌==◌, ◌++◌, ℕ, ℤ, true, List, [], ◌∷◌, length, get_or, take, None, refl, sym, ap, ◌∙◌, arith}
use Rattle.std.proofs.lemmas.Bool.{cond-true}
use Rattle.std.proofs.lemmas.List.{length-append, length-replicate, take_all}
use Rattle.std.proofs.Math.ListN.{replicate}
use Rattle.std.proofs.Math.Seq.{get_or-append_seam, take-append_seam}
use Rattle.vdr_terms.specs.Stamps.{IsStamp}
use Rattle.vdr_outside.specs.Hears.{Passes, bare}
use Rattle.vdr_outside.specs.Takes.{Gives}
use Rattle.vdr_sockets.specs.Sockets.{untold}

-- A text is what is left of the text and a CR.
bare_cr : (text : List ℕ) → bare (text ++ 13 ∷ []) ≡ text
bare_cr text =
    let line = text ++ 13 ∷ [] in
    let last : length line - 1 ≡ length text = omega (arith, length-append text (13 ∷ [])) in
    let is_cr : get_or line (length line - 1) 0 ≡ 13 = ap (λ (k : ℕ). get_or line k 0) last ∙ get_or-append_seam text 13 [] 0 in
    cond-true (get_or line (length line - 1) 0 == 13) _ _ (ap (λ (b : ℕ). b == 13) is_cr)
    ∙ ap (λ (k : ℕ). take k line) last
    ∙ take-append_seam text (13 ∷ [])

pub passes_line : (text : List ℕ) → length text ≤ 256 → Passes None None (λ line. (text ≡ line) × (length line ≤ 256))
passes_line text short =
    let is = bare_cr text in
    record { line = text ++ 13 ∷ []; left = tt; is = (sym is, omega (arith, short, ap length is)) }

pub passes_long : (text : List ℕ) → text ≡ [] → Passes None None (λ line. (256 < length line) × (text ≡ []))
passes_long text empty =
    let long = replicate 257 0 in
    record { line = long ++ 13 ∷ []; left = tt; is = (omega (arith, ap length (bare_cr long), length-replicate {A = ℕ} 257 0), empty) }

pub gives : (floor received : ℕ) (utc : ℤ) (bytes : List ℕ) → length bytes ≤ 1473 → floor ≤ received → received < 2 ^ 48 → IsStamp utc → Gives (untold floor) (untold received) received utc bytes
gives floor received utc bytes short later small stamp =
    record {
      item = record { received = received; utc = utc; bytes = bytes };
      received_is = refl;
      utc_is = refl;
      bytes = sym (take_all 1473 bytes short);
      left = tt;
      taken = tt;
      later = later;
      floor = refl;
      small = small;
      stamp = stamp;
    }

-- What a block says, by the bytes that were read of it.
use Rattle.std.proofs.Common.{◌≡◌, ◌≢◌, ◌≤◌, ◌+◌, ◌-◌, ℕ, Bool, true, false, cond, nat_eq, List, [], ◌++◌, length, take, drop, Option, None, refl, ap, ◌∙◌, sym, subst, arith}
use Rattle.std.proofs.lemmas.Bool.{eq-eqb, ne_eqb}
use Rattle.std.proofs.lemmas.List.{length-append, length-drop, take_at, drop_at, take-append-le, drop-append-le, take-take}
use Rattle.vdr_pcap.specs.Blocks.{block_said, block_says, block_with, fixed_size, has_options}
use Rattle.vdr_pcap.specs.Options.{none_noted, options_from}
use Rattle.vdr_pcap.specs.Numbers.{u32_in}
use Rattle.vdr_pcap.specs.Packets.{Packet, Reads, Refuses, Standing, longest_front}
use Rattle.vdr_pcap.specs.Seen.{Fits, IsBody, IsRest, parsed_as}
use Rattle.vdr_pcap.specs.declared.options.Noted.{Noted}
use Rattle.vdr_pcap.specs.declared.unit.Unit.{Unit as Found}
use Rattle.vdr_pcap.specs.declared.unit.Unit.TheVariants as found
use Rattle.vdr_pcap.proofs.NumberLemmas.{u32_in-front}
use Rattle.vdr_pcap.proofs.Telling.{long_enough}

-- the fixed bytes, the rest and the length again are the body
pub body_is : (big : Bool) (kind size : ℕ) (fixed rest tail : List ℕ) (noted : Option Noted) (kept : ℕ) (front : List ℕ) (again : ℕ)
    → length fixed ≡ fixed_size kind → length rest ≡ size - fixed_size kind → fixed_size kind ≤ size → IsRest big kind rest noted kept front → again ≡ u32_in big 0 tail
    → IsBody big kind size ((fixed ++ rest) ++ tail) fixed noted kept front again
body_is big kind size fixed rest tail noted kept front again few many within r a =
    let all : length (fixed ++ rest) ≡ size = omega (arith, length-append fixed rest, few, many, within) in
    let body : take size ((fixed ++ rest) ++ tail) ≡ fixed ++ rest = take_at (fixed ++ rest) tail size all in
    record {
      fixed_is = sym (ap (λ (b : List ℕ). take (fixed_size kind) b) body ∙ take_at fixed rest (fixed_size kind) few);
      rest_is = subst (λ (b : List ℕ). IsRest big kind b noted kept front) (sym (ap (λ (b : List ℕ). drop (fixed_size kind) b) body ∙ drop_at fixed rest (fixed_size kind) few)) r;
      again_is = a ∙ sym (ap (λ (b : List ℕ). u32_in big 0 b) (drop_at (fixed ++ rest) tail size all));
    }

-- whatever stands behind the block
pub block_with-front : (big : Bool) (kind len size : ℕ) (s : Standing) (bytes rest : List ℕ) → length bytes ≡ size + 4
    → block_with big kind len size s (bytes ++ rest) ≡ cond (nat_eq (u32_in big 0 (drop size bytes)) len) (block_said big kind len s (take size bytes)) (Refuses 4)
block_with-front big kind len size s bytes rest long =
    let more : size + 4 ≤ length (bytes ++ rest) = omega (arith, length-append bytes rest, long) in
    let tail : drop size (bytes ++ rest) ≡ drop size bytes ++ rest = drop-append-le size bytes rest (omega (arith, long)) in
    let four : length (drop size bytes) ≡ 4 = length-drop size bytes ∙ omega (arith, long) in
    let again : u32_in big 0 (drop size (bytes ++ rest)) ≡ u32_in big 0 (drop size bytes) =
    ap (λ (b : List ℕ). u32_in big 0 b) tail ∙ u32_in-front big 0 (drop size bytes) rest (omega (arith, four)) in
    long_enough (length (bytes ++ rest)) (size + 4) (Refuses 2) (cond (nat_eq (u32_in big 0 (drop size (bytes ++ rest))) len) (block_said big kind len s (take size (bytes ++ rest))) (Refuses 4)) more
    ∙ (λ i. cond (nat_eq (again i) len) (block_said big kind len s (take-append-le size bytes rest (omega (arith, long)) i)) (Refuses 4))

-- a length that does not stand again
pub other_length : (big : Bool) (kind len size : ℕ) (s : Standing) (bytes rest : List ℕ) (again : ℕ) → length bytes ≡ size + 4 → again ≡ u32_in big 0 (drop size bytes) → again ≢ len
    → block_with big kind len size s (bytes ++ rest) ≡ Refuses 4
other_length big kind len size s bytes rest again long is other =
    block_with-front big kind len size s bytes rest long
    ∙ ap (λ (b : Bool). cond b (block_said big kind len s (take size bytes)) (Refuses 4)) (ne_eqb (u32_in big 0 (drop size bytes)) len (λ e. other (is ∙ e)))

-- what the bytes of a packet are does not depend on how much of the front stands behind them
pub parsed_as-front : (kind kept : ℕ) (u : Found) (s : Standing) (front : List ℕ) → Fits kind kept u → parsed_as u s (take kept front) ≡ parsed_as u s front
parsed_as-front kind kept (found.Refuses number) s front fits = refl
parsed_as-front kind kept (found.Says size) s front fits = refl
parsed_as-front kind kept (found.Unread size) s front fits = refl
parsed_as-front kind kept (found.Packet size link stamp n) s front fits =
    ap (λ (b : List ℕ). Reads size s (Packet (record { link = link; stamp = stamp; front = b }))) (take-take n kept front fits.1)

-- what was read of a block is what it says
pub block_is : (big : Bool) (kind len size : ℕ) (s s' : Standing) (bytes fixed rest : List ℕ) (noted : Option Noted) (kept : ℕ) (front : List ℕ) (again : ℕ) (u : Found)
    → length bytes ≡ size + 4 → IsBody big kind size bytes fixed noted kept front again → again ≡ len → Fits kind kept u
    → parsed_as u s' (take kept front) ≡ block_says big kind len s fixed noted (take kept front)
    → block_with big kind len size s (bytes ++ rest) ≡ parsed_as u s' front
block_is big kind len size s s' bytes fixed rest noted kept front again u long body same fits says =
    block_with-front big kind len size s bytes rest long
    ∙ (ap (λ (b : Bool). cond b (block_said big kind len s (take size bytes)) (Refuses 4)) (eq-eqb (u32_in big 0 (drop size bytes)) len (sym body.again_is ∙ same))
    ∙ ((λ i. block_says big kind len s (sym body.fixed_is i) (sym body.rest_is.noted_is i) (sym body.rest_is.front_is i))
    ∙ (sym says ∙ parsed_as-front kind kept u s' front fits)))

-- ---- the rest of a block behind its bytes at fixed places

-- options that were noted
pub noted_rest : (big : Bool) (kind : ℕ) (bytes front : List ℕ) (noted : Option Noted) → has_options kind ≡ true → noted ≡ options_from big kind none_noted 0 bytes
    → IsRest big kind bytes noted 0 front
noted_rest big kind bytes front noted options is = record {
  noted_is = is ∙ sym (ap (λ (b : Bool). cond b (options_from big kind none_noted 0 bytes) None) options);
  front_is = sym (ap (λ (b : Bool). cond b (take longest_front bytes) []) (no_packet kind options));
  within = omega arith;
}
  where
    no_packet : (kind : ℕ) → has_options kind ≡ true → nat_eq kind 6 ≡ false
    no_packet kind h = ne_eqb kind 6 (λ e. (let bad : has_options 6 ≡ true = subst (λ (k : ℕ). has_options k ≡ true) e h in (let none : ⊥ = cc in none)))

-- a packet's front
pub kept_rest : (big : Bool) (bytes front : List ℕ) (kept : ℕ) → kept ≤ 2048 → take kept front ≡ take longest_front bytes → IsRest big 6 bytes None kept front
kept_rest big bytes front kept within is = record { noted_is = refl; front_is = is; within = within }

-- nothing of another block
pub other_rest : (big : Bool) (kind : ℕ) (bytes front : List ℕ) → has_options kind ≡ false → (kind ≡ 6 → ⊥) → IsRest big kind bytes None 0 front
other_rest big kind bytes front options packet = record {
  noted_is = sym (ap (λ (b : Bool). cond b (options_from big kind none_noted 0 bytes) None) options);
  front_is = sym (ap (λ (b : Bool). cond b (take longest_front bytes) []) (ne_eqb kind 6 packet));
  within = omega arith;
}

-- a packet's bytes are within a longer front too
pub fits_longer : (kind n m : ℕ) (u : Found) → n ≤ m → Fits kind n u → Fits kind m u
fits_longer kind n m (found.Refuses number) h f = f
fits_longer kind n m (found.Says size) h f = f
fits_longer kind n m (found.Unread size) h f = f
fits_longer kind n m (found.Packet size link stamp kept) h f = let k : kept ≤ n = f.1 in (f.0, omega (arith, k, h), f.2)

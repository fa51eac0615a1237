use Rattle.std.proofs.Common.{arith, ◌≡◌, ◌≤◌, ◌+◌, ◌-◌, ◌++◌, min, ℕ, List, length, take, Option, inl, inr, subst, sym, ◌∙◌}
use Rattle.std.specs.Io.KnownBytes.{Consumes}
use Rattle.std.proofs.KnownBytes.{Consumes-trans}
use Rattle.std.proofs.lemmas.Grind.{common_steps}
use Rattle.std.proofs.lemmas.List.{append-nil, length-append, nil_from_length, take_all, take_at}
use Rattle.std.proofs.lemmas.Bool.Decides.{leb_tells}
use Rattle.vdr_pcap.specs.Packets.{longest_front}
use Rattle.vdr_pcap.proofs.FillingLemmas.{Whole, filled, passed, short_after, unpassed}
use Rattle.vdr_pcap.proofs.filling.read_front.Goals as goal

pub returns-then-not-branch-2-clause-read : goal.returns-then-not-branch-2-clause-read
returns-then-not-branch-2-clause-read g c =
    let long : length c.read_all.new.into ≡ c.min-kept.result = grind (arith, common_steps) in
    let within : length c.read_all.new.into + (c.args.size - c.min-kept.result) ≤ c.args.size = grind (arith, common_steps) in
    short_after _ _ _ c.read_all.new.into (c.args.size - c.min-kept.result) c.args.size (filled _ _ c.read_all.new.into c.in_ok-read_all.field-0 c.in_ok-read_all.ensures.read c.if-not-branch.false)
    within (unpassed _ _ (c.args.size - c.min-kept.result) c.in_ok-pass.field-0 c.in_ok-pass.ensures.read c.if-not-branch-2.true)

-- of all bytes the first 2,048 are the part that was kept
front_is : (size : ℕ) (part bytes : List ℕ) → length part ≡ min size 2048 → length bytes ≡ size - min size 2048 → part ≡ take 2048 (part ++ bytes)
front_is size part bytes long rest = elim (leb_tells 2048 (length part)) [
  | inl full ↦ let full_is : length part ≡ 2048 = omega (arith, long, full.1) in sym (take_at part bytes 2048 full_is)
  | inr less ↦ let none : length bytes ≡ 0 = omega (arith, long, rest, less.1) in
      let whole : part ++ bytes ≡ part = subst (λ (b : List ℕ). part ++ b ≡ part) (sym (nil_from_length bytes none)) (append-nil part) in
      rw whole (sym (take_all 2048 part (omega (arith, less.1))))
]

-- the part that was kept is the front of all
kept_is : (a b c : Option (List ℕ)) (size kept : ℕ) (part behind : List ℕ) → Consumes a b part → length part ≡ kept → kept ≡ min size 2048 → Whole b c (size - kept)
    → (bytes : List ℕ) × (length bytes ≡ size) × Consumes a c bytes × ((kept ≤ 2048) × (take kept (part ++ behind) ≡ take longest_front bytes))
kept_is a b c size kept part behind read long is rest =
    let many : length rest.0 ≡ size - kept = rest.1 in (
      part ++ rest.0,
      omega (arith, length-append part rest.0, long, many, is),
      Consumes-trans a b c part rest.0 read rest.2,
      (omega (arith, is), take_at part behind kept long ∙ front_is size part rest.0 (omega (arith, long, is)) (omega (arith, many, is))),
    )

pub returns-clause-read : goal.returns-clause-read
returns-clause-read g c =
    let long : length c.read_all.new.into ≡ c.min-kept.result = grind (arith, common_steps) in
    kept_is _ _ _ c.args.size c.min-kept.result c.read_all.new.into _ (filled _ _ c.read_all.new.into c.in_ok-read_all.field-0 c.in_ok-read_all.ensures.read c.if-not-branch.false)
    long c.min-kept.ensures (passed _ _ (c.args.size - c.min-kept.result) c.in_ok-pass.field-0 c.in_ok-pass.ensures.read c.if-not-branch-2.false)

use Rattle.std.proofs.Common.{rules, ◌≡◌, ◌≤◌, ◌+◌, ◌-◌, ◌++◌, ℕ, List, length, Option, arith}
use Rattle.std.proofs.lemmas.List.{length-append}
use Rattle.std.proofs.lemmas.Grind.{common_steps}
use Rattle.std.proofs.KnownBytes.{Consumes-trans}
use Rattle.std.specs.Io.KnownBytes.{Consumes}
use Rattle.vdr_pcap.proofs.FillingLemmas.{Short, filled, short_after, unfilled}
use Rattle.vdr_pcap.proofs.filling.pass.Goals as goal

-- one more piece
more : (a b c : Option (List ℕ)) (left total piece : ℕ) (buffer : List ℕ) → (bytes : List ℕ) × (length bytes + left ≡ total) × Consumes a b bytes
    → Consumes b c buffer → length buffer ≡ piece → piece ≤ left → (bytes : List ℕ) × (length bytes + (left - piece) ≡ total) × Consumes a c bytes
more a b c left total piece buffer p next long within =
    let count : length p.0 + left ≡ total = p.1 in
    (p.0 ++ buffer, omega (arith, length-append p.0 buffer, count, long, within), Consumes-trans a b c p.0 buffer p.2 next)

ends : (a b c : Option (List ℕ)) (left total piece : ℕ) → (bytes : List ℕ) × (length bytes + left ≡ total) × Consumes a b bytes
    → Short b c piece → piece ≤ left → Short a c total
ends a b c left total piece p q within = let count : length p.0 + left ≡ total = p.1 in short_after a b c p.0 piece total p.2 (omega (arith, count, within)) q

pub loop-left-preserved : goal.loop-left-preserved
loop-left-preserved g c = record {
  within = search rules;
  read = more _ _ _ _ _ _ c.read_all.new.into c.loop-left.invariant.read (filled _ _ c.read_all.new.into c.in_ok-read_all.field-0 c.in_ok-read_all.ensures.read c.if-not-branch.false) (grind (arith, common_steps)) (grind (arith, common_steps));
  later = search rules;
}

pub returns-then-not-branch-clause-read : goal.returns-then-not-branch-clause-read
returns-then-not-branch-clause-read g c =
    ends _ _ _ c.loop-left.left c.args.size (length c.read_all.new.into) c.loop-left.invariant.read (unfilled _ _ c.read_all.new.into c.in_ok-read_all.field-0 c.in_ok-read_all.ensures.read c.if-not-branch.true) (grind (arith, common_steps))

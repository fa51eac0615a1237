use Rattle.std.proofs.Common.{arith, ◌≡◌, ◌≤◌, ◌+◌, ◌-◌, ◌++◌, ℕ, Bool, List, length, Option, Some, subst, ◌∙◌}
use Rattle.std.specs.Io.KnownBytes.{Consumes}
use Rattle.std.proofs.KnownBytes.{Consumes-trans}
use Rattle.std.proofs.lemmas.List.{length-append}
use Rattle.vdr_pcap.specs.Blocks.{fixed_size}
use Rattle.vdr_pcap.specs.Numbers.{u32_in}
use Rattle.vdr_pcap.specs.Seen.{IsBody, IsRest, Takes}
use Rattle.vdr_pcap.specs.declared.blocks.Rest.{Rest}
use Rattle.vdr_pcap.proofs.BlockLemmas.{body_is}
use Rattle.vdr_pcap.proofs.FillingLemmas.{Short, filled, not_took, short_after, shorter, took, unfilled}
use Rattle.vdr_pcap.proofs.blocks.read_body.Goals as goal

-- the length behind the body is missing
no_tail : (a b c d : Option (List ℕ)) (big : Bool) (kind size : ℕ) (fixed front tail : List ℕ) (o : Option Rest) (r : Rest) → Consumes a b fixed → length fixed ≡ fixed_size kind → fixed_size kind ≤ size
    → Takes b c (size - fixed_size kind) (λ bytes r. IsRest big kind bytes r.noted r.kept front) o → o ≡ Some r → length tail ≡ 4 → Short c d (length tail) → Short a d (size + 4)
no_tail a b c d big kind size fixed front tail o r read few within t is four short =
    let v = took b c (size - fixed_size kind) (λ bytes r. IsRest big kind bytes r.noted r.kept front) o r t is in
    let many : length v.0 ≡ size - fixed_size kind = v.1 in
    short_after a c d (fixed ++ v.0) (length tail) (size + 4) (Consumes-trans a b c fixed v.0 read v.2) (omega (arith, length-append fixed v.0, few, many, within, four)) short

all_read : (a b c d : Option (List ℕ)) (big : Bool) (kind size : ℕ) (fixed front tail : List ℕ) (o : Option Rest) (r : Rest) (again : ℕ) → Consumes a b fixed → length fixed ≡ fixed_size kind → fixed_size kind ≤ size
    → Takes b c (size - fixed_size kind) (λ bytes r. IsRest big kind bytes r.noted r.kept front) o → o ≡ Some r → length tail ≡ 4 → Consumes c d tail → again ≡ u32_in big 0 tail
    → (bytes : List ℕ) × (length bytes ≡ size + 4) × Consumes a d bytes × IsBody big kind size bytes fixed r.noted r.kept front again
all_read a b c d big kind size fixed front tail o r again read few within t is four last again_is =
    let v = took b c (size - fixed_size kind) (λ bytes r. IsRest big kind bytes r.noted r.kept front) o r t is in
    let many : length v.0 ≡ size - fixed_size kind = v.1 in (
      (fixed ++ v.0) ++ tail,
      omega (arith, length-append (fixed ++ v.0) tail, length-append fixed v.0, few, many, within, four),
      Consumes-trans a c d (fixed ++ v.0) tail (Consumes-trans a b c fixed v.0 read v.2) last,
      body_is big kind size fixed v.0 tail r.noted r.kept front again few many within v.3 again_is,
    )

pub returns-then-not-branch-clause-read : goal.returns-then-not-branch-clause-read
returns-then-not-branch-clause-read g c =
    let few : length c.read_all.new.into ≡ fixed_size c.args.kind = c.read_all.auto.into ∙ c.requires.fixed in
    let within : fixed_size c.args.kind ≤ c.args.size = c.requires.size in
    shorter _ _ (length c.read_all.new.into) (c.args.size + 4) (omega (arith, few, within)) (unfilled _ _ c.read_all.new.into c.in_ok-read_all.field-0 c.in_ok-read_all.ensures.read c.if-not-branch.true)

pub returns-in_default-clause-read : goal.returns-in_default-clause-read
returns-in_default-clause-read g c =
    let few : length c.read_all.new.into ≡ fixed_size c.args.kind = c.read_all.auto.into ∙ c.requires.fixed in
    let within : fixed_size c.args.kind ≤ c.args.size = c.requires.size in
    short_after _ _ _ c.read_all.new.into (c.args.size - length c.read_all.new.into) (c.args.size + 4) (filled _ _ c.read_all.new.into c.in_ok-read_all.field-0 c.in_ok-read_all.ensures.read c.if-not-branch.false)
    (omega (arith, few, within)) (not_took _ _ (c.args.size - length c.read_all.new.into) (λ bytes r. IsRest c.args.big c.args.kind bytes r.noted r.kept c.read_rest.new.buffers.front) c.in_ok-rest.field-0 c.in_ok-rest.ensures.read c.in_default.is)

pub returns-then-not-branch-2-clause-read : goal.returns-then-not-branch-2-clause-read
returns-then-not-branch-2-clause-read g c =
    let few : length c.read_all.new.into ≡ fixed_size c.args.kind = c.read_all.auto.into ∙ c.requires.fixed in
    no_tail _ _ _ _ c.args.big c.args.kind c.args.size c.read_all.new.into c.read_rest.new.buffers.front c.read_all-2.new.into c.in_ok-rest.field-0 c.in-Some.rest
    (filled _ _ c.read_all.new.into c.in_ok-read_all.field-0 c.in_ok-read_all.ensures.read c.if-not-branch.false) few c.requires.size
    (subst (λ (n : ℕ). Takes (g.I.Source.left c.read_all.new.input) (g.I.Source.left c.read_rest.new.input) (c.args.size - n) (λ bytes r. IsRest c.args.big c.args.kind bytes r.noted r.kept c.read_rest.new.buffers.front) c.in_ok-rest.field-0) few c.in_ok-rest.ensures.read)
    c.in-Some.is c.read_all-2.auto.into (unfilled _ _ c.read_all-2.new.into c.in_ok-read_all-2.field-0 c.in_ok-read_all-2.ensures.read c.if-not-branch-2.true)

pub returns-clause-read : goal.returns-clause-read
returns-clause-read g c =
    let few : length c.read_all.new.into ≡ fixed_size c.args.kind = c.read_all.auto.into ∙ c.requires.fixed in
    all_read _ _ _ _ c.args.big c.args.kind c.args.size c.read_all.new.into c.read_rest.new.buffers.front c.read_all-2.new.into c.in_ok-rest.field-0 c.in-Some.rest c.u32_in.result
    (filled _ _ c.read_all.new.into c.in_ok-read_all.field-0 c.in_ok-read_all.ensures.read c.if-not-branch.false) few c.requires.size
    (subst (λ (n : ℕ). Takes (g.I.Source.left c.read_all.new.input) (g.I.Source.left c.read_rest.new.input) (c.args.size - n) (λ bytes r. IsRest c.args.big c.args.kind bytes r.noted r.kept c.read_rest.new.buffers.front) c.in_ok-rest.field-0) few c.in_ok-rest.ensures.read)
    c.in-Some.is c.read_all-2.auto.into (filled _ _ c.read_all-2.new.into c.in_ok-read_all-2.field-0 c.in_ok-read_all-2.ensures.read c.if-not-branch-2.false) c.u32_in.ensures

use Rattle.std.proofs.Common.{arith, ◌≡◌, ◌≤◌, ◌+◌, ℕ, List, length, take, subst}
use Rattle.std.proofs.lemmas.List.{length-take}
use Rattle.vdr_pcap.specs.Blocks.{block_with}
use Rattle.vdr_pcap.specs.Packets.{Refuses}
use Rattle.vdr_pcap.specs.Seen.{HasSize, IsBody, standing_of}
use Rattle.vdr_pcap.specs.declared.blocks.Rest.{Rest}
use Rattle.vdr_pcap.proofs.BlockLemmas.{block_is, fits_longer, other_length}
use Rattle.vdr_pcap.proofs.FillingLemmas.{not_took, took}
use Rattle.vdr_pcap.proofs.Telling.{ended, known, read_whole, too_short}
use Rattle.vdr_pcap.proofs.blocks.read_block_with.Goals as goal

front_within : (n : ℕ) (xs : List ℕ) → length (take n xs) ≤ n
front_within n xs = omega (arith, length-take n xs)

within_longest : (n m : ℕ) (xs : List ℕ) → n ≤ m → length (take n xs) ≤ m
within_longest n m xs h = omega (arith, length-take n xs, h)

pub returns-in_default-clause-read : goal.returns-in_default-clause-read
returns-in_default-clause-read g c = λ before e.
    ended _ _ (c.args.size + 4) 2 (block_with c.args.big c.args.kind c.args.len c.args.size (standing_of c.args.said.now))
    (λ bytes few. too_short (length bytes) (c.args.size + 4) (Refuses 2) _ few)
    (not_took _ _ (c.args.size + 4) (λ bytes (b : Rest × ℕ). IsBody c.args.big c.args.kind c.args.size bytes c.read_body.new.fixed b.0.noted b.0.kept c.read_body.new.buffers.front b.1) c.in_ok-rest.field-0 c.in_ok-rest.ensures.read c.in_default.is)

pub returns-then-again-len-clause-read : goal.returns-then-again-len-clause-read
returns-then-again-len-clause-read g c = λ before e.
    let v = took _ _ (c.args.size + 4) (λ bytes (b : Rest × ℕ). IsBody c.args.big c.args.kind c.args.size bytes c.read_body.new.fixed b.0.noted b.0.kept c.read_body.new.buffers.front b.1)
    c.in_ok-rest.field-0 (c.in-Some.rest, c.in-Some.again) c.in_ok-rest.ensures.read c.in-Some.is in
    known _ _ v.0 (λ bytes. block_with c.args.big c.args.kind c.args.len c.args.size (standing_of c.args.said.now) bytes ≡ Refuses 4) v.2
    (λ rest is. other_length c.args.big c.args.kind c.args.len c.args.size (standing_of c.args.said.now) v.0 rest c.in-Some.again v.1 v.3.again_is c.if-again-len.true)

pub returns-clause-read : goal.returns-clause-read
returns-clause-read g c = λ before e.
    let v = took _ _ (c.args.size + 4) (λ bytes (b : Rest × ℕ). IsBody c.args.big c.args.kind c.args.size bytes c.read_body.new.fixed b.0.noted b.0.kept c.read_body.new.buffers.front b.1)
    c.in_ok-rest.field-0 (c.in-Some.rest, c.in-Some.again) c.in_ok-rest.ensures.read c.in-Some.is in
    let long : length v.0 ≡ c.args.size + 4 = v.1 in
    let total : before + c.args.size + 4 ≡ c.args.len = e in
    let all : c.args.len ≡ before + length v.0 = omega (arith, long, total) in
    read_whole _ _ (block_with c.args.big c.args.kind c.args.len c.args.size (standing_of c.args.said.now)) before v.0 c.say.result (standing_of c.say.new.said) c.read_body.new.buffers.front v.2
    (subst (λ (n : ℕ). HasSize c.say.result n) all c.say.ensures.size)
    (λ rest. block_is c.args.big c.args.kind c.args.len c.args.size (standing_of c.args.said.now) (standing_of c.say.new.said) v.0 c.read_body.new.fixed rest c.in-Some.rest.noted c.in-Some.rest.kept c.read_body.new.buffers.front
    c.in-Some.again c.say.result v.1 v.3 c.if-again-len.false
    (fits_longer c.args.kind _ c.in-Some.rest.kept c.say.result (front_within c.in-Some.rest.kept c.read_body.new.buffers.front) c.say.ensures.fits) c.say.ensures.is)

pub returns-clause-fits : goal.returns-clause-fits
returns-clause-fits g c =
    let v = took _ _ (c.args.size + 4) (λ bytes (b : Rest × ℕ). IsBody c.args.big c.args.kind c.args.size bytes c.read_body.new.fixed b.0.noted b.0.kept c.read_body.new.buffers.front b.1)
    c.in_ok-rest.field-0 (c.in-Some.rest, c.in-Some.again) c.in_ok-rest.ensures.read c.in-Some.is in
    fits_longer c.args.kind _ 2048 c.say.result (within_longest c.in-Some.rest.kept 2048 c.read_body.new.buffers.front v.3.rest_is.within) c.say.ensures.fits

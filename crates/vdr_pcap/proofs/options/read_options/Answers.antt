use Rattle.std.proofs.Common.{rules, arith, ◌≡◌, ◌≤◌, ◌+◌, ◌++◌, ℕ, Bool, List, [], length, Option, Some, refl, ap, sym, subst, ◌∙◌, append_assoc, append-nil}
use Rattle.std.specs.Io.KnownBytes.{Consumes}
use Rattle.std.proofs.KnownBytes.{Consumes-nil, Consumes-trans}
use Rattle.std.proofs.lemmas.List.{length-append}
use Rattle.vdr_pcap.specs.Options.{none_noted, options_from}
use Rattle.vdr_pcap.specs.Seen.{ReadsOption}
use Rattle.vdr_pcap.specs.declared.options.NextOption.{NextOption}
use Rattle.vdr_pcap.specs.declared.options.NextOption.TheVariants.{Last, More, Short}
use Rattle.vdr_pcap.specs.declared.options.Noted.{Noted}
use Rattle.vdr_pcap.proofs.FillingLemmas.{Short as ReadsShort, short_after, unpassed}
use Rattle.vdr_pcap.proofs.OptionLemmas.{none_left}
use Rattle.vdr_pcap.proofs.options.read_options.Goals as goal

-- of options so many bytes are left, and this is noted
abbrev Noting : (a b : Option (List ℕ)) → (big : Bool) → (kind size left : ℕ) → Noted → Type 0
Noting a b big kind size left noted = (bytes : List ℕ) × (length bytes + left ≡ size) × Consumes a b bytes
    × ((rest : List ℕ) → length rest ≡ left → options_from big kind none_noted 0 (bytes ++ rest) ≡ options_from big kind noted 0 rest)

next_is : (a b : Option (List ℕ)) (big : Bool) (kind : ℕ) (noted : Noted) (left : ℕ) (n m : NextOption) → ReadsOption a b big kind noted left n → n ≡ m → ReadsOption a b big kind noted left m
next_is a b big kind noted left n m r e = subst (λ (x : NextOption). ReadsOption a b big kind noted left x) e r

ends : (a b c : Option (List ℕ)) (big : Bool) (kind size left : ℕ) (noted : Noted) → Noting a b big kind size left noted → ReadsShort b c left → ReadsShort a c size
ends a b c big kind size left noted p q = let count : length p.0 + left ≡ size = p.1 in short_after a b c p.0 left size p.2 (omega (arith, count)) q

further : (a b c : Option (List ℕ)) (big : Bool) (kind size left after : ℕ) (noted next : Noted) → Noting a b big kind size left noted → ReadsOption b c big kind noted left (More next after)
    → Noting a c big kind size after next
further a b c big kind size left after noted next p r =
    let count : length p.0 + left ≡ size = p.1 in
    let less : length r.0 + after ≡ left = r.1 in (
      p.0 ++ r.0,
      omega (arith, length-append p.0 r.0, count, less),
      Consumes-trans a b c p.0 r.0 p.2 r.3,
      λ rest e. (let n : length rest ≡ after = e in ap (λ (b : List ℕ). options_from big kind none_noted 0 b) (append_assoc p.0 r.0 rest)
          ∙ (p.3 (r.0 ++ rest) (omega (arith, length-append r.0 rest, less, n)) ∙ r.4 rest e)),
    )

all : (a b : Option (List ℕ)) (big : Bool) (kind size left : ℕ) (noted : Noted) → Noting a b big kind size left noted → left ≤ 0
    → (bytes : List ℕ) × (length bytes ≡ size) × Consumes a b bytes × (Some noted ≡ options_from big kind none_noted 0 bytes)
all a b big kind size left noted p none =
    let count : length p.0 + left ≡ size = p.1 in
    let nothing : left ≡ 0 = omega (arith, none) in
    (p.0, omega (arith, count, nothing), p.2, sym (ap (λ (b : List ℕ). options_from big kind none_noted 0 b) (sym (append-nil p.0)) ∙ (p.3 [] (sym nothing) ∙ none_left big kind noted)))

begins : (a : Option (List ℕ)) (big : Bool) (kind size : ℕ) → Noting a a big kind size size none_noted
begins a big kind size = ([], omega arith, Consumes-nil a, λ rest e. refl)

short_left : (a b c : Option (List ℕ)) (big : Bool) (kind left after : ℕ) (noted : Noted) (said : Option Noted) → ReadsOption a b big kind noted left (Last said after) → ReadsShort b c after → ReadsShort a c left
short_left a b c big kind left after noted said r q = let less : length r.0 + after ≡ left = r.1 in short_after a b c r.0 after left r.2 (omega (arith, less)) q

pub returns-in-Short-clause-read : goal.returns-in-Short-clause-read
returns-in-Short-clause-read g c =
    ends _ _ _ c.args.big c.args.kind c.args.size c.loop-left.left c.loop-left.noted c.loop-left.invariant.read
    (next_is _ _ c.args.big c.args.kind c.loop-left.noted c.loop-left.left c.in_ok-read_option.field-0 Short c.in_ok-read_option.ensures.read c.in-Short.is)

pub returns-then-not-branch-clause-read : goal.returns-then-not-branch-clause-read
returns-then-not-branch-clause-read g c =
    ends _ _ _ c.args.big c.args.kind c.args.size c.loop-left.left c.loop-left.noted c.loop-left.invariant.read
    (short_left _ _ _ c.args.big c.args.kind c.loop-left.left c.in-Last.after c.loop-left.noted c.in-Last.said
    (next_is _ _ c.args.big c.args.kind c.loop-left.noted c.loop-left.left c.in_ok-read_option.field-0 (Last c.in-Last.said c.in-Last.after) c.in_ok-read_option.ensures.read c.in-Last.is)
    (unpassed _ _ c.in-Last.after c.in_ok-pass-in-Last.field-0 c.in_ok-pass-in-Last.ensures.read c.if-not-branch.true))

pub loop-left-preserved : goal.loop-left-preserved
loop-left-preserved g c = record {
  read = further _ _ _ c.args.big c.args.kind c.args.size c.loop-left.left c.in-More.after c.loop-left.noted c.in-More.next c.loop-left.invariant.read
      (next_is _ _ c.args.big c.args.kind c.loop-left.noted c.loop-left.left c.in_ok-read_option.field-0 (More c.in-More.next c.in-More.after) c.in_ok-read_option.ensures.read c.in-More.is);
  later = search rules;
}

pub returns-clause-read : goal.returns-clause-read
returns-clause-read g c = all _ _ c.args.big c.args.kind c.args.size c.loop-left.left c.loop-left.noted c.loop-left.invariant.read c.loop-left-test.false

use Rattle.std.proofs.Common.{arith, ◌≡◌, ◌≢◌, ◌≤◌, ◌<◌, ◌+◌, ◌-◌, ◌++◌, ℕ, Bool, List, [], length, take, Option, None, Some, sym, ◌∙◌}
use Rattle.std.specs.Io.KnownBytes.{Consumes}
use Rattle.std.proofs.KnownBytes.{Consumes-nil, Consumes-trans}
use Rattle.std.proofs.lemmas.List.{length-append}
use Rattle.vdr_pcap.specs.Numbers.{u16_in}
use Rattle.vdr_pcap.specs.Options.{noted_with, padded}
use Rattle.vdr_pcap.specs.Seen.{ReadsOption, Takes}
use Rattle.vdr_pcap.specs.declared.options.NextOption.TheVariants.{Last, More}
use Rattle.vdr_pcap.specs.declared.options.Noted.{Noted}
use Rattle.vdr_pcap.proofs.FillingLemmas.{filled, not_took, short_after, took}
use Rattle.vdr_pcap.proofs.OptionLemmas.{one_bad, one_beyond, one_last, one_more, too_few}
use Rattle.vdr_pcap.proofs.options.read_option.Goals as goal

pad_le : (n : ℕ) → n ≤ padded n
pad_le n = omega arith

few : (a : Option (List ℕ)) (big : Bool) (kind : ℕ) (noted : Noted) (left : ℕ) → 0 < left → left < 4 → ReadsOption a a big kind noted left (Last None left)
few a big kind noted left some less =
    ([], omega arith, Consumes-nil a, λ rest e. (let n : length rest ≡ left = e in too_few big kind noted rest (omega (arith, n, some)) (omega (arith, n, less))))

last : (a b : Option (List ℕ)) (big : Bool) (kind : ℕ) (noted : Noted) (left code : ℕ) (head : List ℕ) → Consumes a b head → length head ≡ 4 → 4 ≤ left → code ≡ u16_in big 0 head → code ≡ 0
    → ReadsOption a b big kind noted left (Last (Some noted) (left - 4))
last a b big kind noted left code head read four room is none = (head, omega (arith, four, room), read, λ rest e. one_last big kind noted head rest code four is none)

beyond : (a b : Option (List ℕ)) (big : Bool) (kind : ℕ) (noted : Noted) (left code size pad : ℕ) (head : List ℕ) → Consumes a b head → length head ≡ 4 → 4 ≤ left → code ≡ u16_in big 0 head
    → size ≡ u16_in big 2 head → code ≢ 0 → pad ≡ padded size → left - 4 < pad → ReadsOption a b big kind noted left (Last None (left - 4))
beyond a b big kind noted left code size pad head read four room is size_is some pad_is more =
    (head, omega (arith, four, room), read, λ rest e. (let n : length rest ≡ left - 4 = e in one_beyond big kind noted head rest code size four is size_is some (omega (arith, n, pad_is, more))))

bad : (a b c : Option (List ℕ)) (big : Bool) (kind : ℕ) (noted : Noted) (left code size pad : ℕ) (head : List ℕ) (o : Option (Option Noted)) (x : Option Noted) → Consumes a b head → length head ≡ 4
    → code ≡ u16_in big 0 head → size ≡ u16_in big 2 head → code ≢ 0 → pad ≡ padded size → 4 + pad ≤ left
    → Takes b c (padded size) (λ bytes more. more ≡ noted_with big kind code size (take size bytes) noted) o → o ≡ Some x → x ≡ None → ReadsOption a c big kind noted left (Last None (left - 4 - pad))
bad a b c big kind noted left code size pad head o x read four is size_is some pad_is room t o_is x_is =
    let v = took b c (padded size) (λ bytes more. more ≡ noted_with big kind code size (take size bytes) noted) o x t o_is in
    let long : length v.0 ≡ padded size = v.1 in (
      head ++ v.0,
      omega (arith, length-append head v.0, four, long, pad_is, room),
      Consumes-trans a b c head v.0 read v.2,
      λ rest e. one_bad big kind noted head v.0 rest code size four is size_is some long (pad_le size) (sym v.3 ∙ x_is),
    )

more : (a b c : Option (List ℕ)) (big : Bool) (kind : ℕ) (noted next : Noted) (left code size pad : ℕ) (head : List ℕ) (o : Option (Option Noted)) (x : Option Noted) → Consumes a b head → length head ≡ 4
    → code ≡ u16_in big 0 head → size ≡ u16_in big 2 head → code ≢ 0 → pad ≡ padded size → 4 + pad ≤ left
    → Takes b c (padded size) (λ bytes more. more ≡ noted_with big kind code size (take size bytes) noted) o → o ≡ Some x → x ≡ Some next
    → ReadsOption a c big kind noted left (More next (left - 4 - pad))
more a b c big kind noted next left code size pad head o x read four is size_is some pad_is room t o_is x_is =
    let v = took b c (padded size) (λ bytes more. more ≡ noted_with big kind code size (take size bytes) noted) o x t o_is in
    let long : length v.0 ≡ padded size = v.1 in (
      head ++ v.0,
      omega (arith, length-append head v.0, four, long, pad_is, room),
      omega (arith, room),
      Consumes-trans a b c head v.0 read v.2,
      λ rest e. one_more big kind noted next head v.0 rest code size four is size_is some long (pad_le size) (sym v.3 ∙ x_is),
    )

pub returns-then-left-lt4-clause-read : goal.returns-then-left-lt4-clause-read
returns-then-left-lt4-clause-read g c = few _ c.args.big c.args.kind c.args.noted c.args.left c.requires c.if-left-lt4.true

pub returns-then-code-eq0-clause-read : goal.returns-then-code-eq0-clause-read
returns-then-code-eq0-clause-read g c =
    last _ _ c.args.big c.args.kind c.args.noted c.args.left c.u16_in-code.result c.read_all.new.into (filled _ _ c.read_all.new.into c.in_ok-read_all.field-0 c.in_ok-read_all.ensures.read c.if-not-branch.false)
    c.read_all.auto.into c.if-left-lt4.false c.u16_in-code.ensures c.if-code-eq0.true

pub returns-then-padded-left-clause-read : goal.returns-then-padded-left-clause-read
returns-then-padded-left-clause-read g c =
    beyond _ _ c.args.big c.args.kind c.args.noted c.args.left c.u16_in-code.result c.u16_in-size.result c.padded.result c.read_all.new.into (filled _ _ c.read_all.new.into c.in_ok-read_all.field-0 c.in_ok-read_all.ensures.read c.if-not-branch.false)
    c.read_all.auto.into c.if-left-lt4.false c.u16_in-code.ensures c.u16_in-size.ensures c.if-code-eq0.false c.padded.ensures c.if-padded-left.true

pub returns-in-None-clause-read : goal.returns-in-None-clause-read
returns-in-None-clause-read g c =
    let four : length c.read_all.new.into ≡ 4 = c.read_all.auto.into in
    let pad : c.padded.result ≡ padded c.u16_in-size.result = c.padded.ensures in
    let least : 4 ≤ c.args.left = c.if-left-lt4.false in
    let room : c.padded.result ≤ c.args.left - 4 = c.if-padded-left.false in
    short_after _ _ _ c.read_all.new.into (padded c.u16_in-size.result) c.args.left (filled _ _ c.read_all.new.into c.in_ok-read_all.field-0 c.in_ok-read_all.ensures.read c.if-not-branch.false)
    (omega (arith, four, pad, least, room)) (not_took _ _ (padded c.u16_in-size.result) _ c.in_ok-read_value.field-0 c.in_ok-read_value.ensures.read c.in-None.is)

pub returns-in-Some-None-clause-read : goal.returns-in-Some-None-clause-read
returns-in-Some-None-clause-read g c =
    let pad : c.padded.result ≡ padded c.u16_in-size.result = c.padded.ensures in
    let again : c.padded-in-Some-None.result ≡ padded c.u16_in-size.result = c.padded-in-Some-None.ensures in
    let least : 4 ≤ c.args.left = c.if-left-lt4.false in
    let room : c.padded.result ≤ c.args.left - 4 = c.if-padded-left.false in
    bad _ _ _ c.args.big c.args.kind c.args.noted c.args.left c.u16_in-code.result c.u16_in-size.result c.padded-in-Some-None.result c.read_all.new.into c.in_ok-read_value.field-0 c.in-Some-None.field-0
    (filled _ _ c.read_all.new.into c.in_ok-read_all.field-0 c.in_ok-read_all.ensures.read c.if-not-branch.false) c.read_all.auto.into c.u16_in-code.ensures c.u16_in-size.ensures c.if-code-eq0.false again
    (omega (arith, pad, again, least, room)) c.in_ok-read_value.ensures.read c.in-Some-None.is c.in-Some-None.field-0-is

pub returns-in-Some-Some-clause-read : goal.returns-in-Some-Some-clause-read
returns-in-Some-Some-clause-read g c =
    let pad : c.padded.result ≡ padded c.u16_in-size.result = c.padded.ensures in
    let again : c.padded-in-Some-Some.result ≡ padded c.u16_in-size.result = c.padded-in-Some-Some.ensures in
    let least : 4 ≤ c.args.left = c.if-left-lt4.false in
    let room : c.padded.result ≤ c.args.left - 4 = c.if-padded-left.false in
    more _ _ _ c.args.big c.args.kind c.args.noted c.in-Some-Some.more c.args.left c.u16_in-code.result c.u16_in-size.result c.padded-in-Some-Some.result c.read_all.new.into c.in_ok-read_value.field-0 c.in-Some-Some.field-0
    (filled _ _ c.read_all.new.into c.in_ok-read_all.field-0 c.in_ok-read_all.ensures.read c.if-not-branch.false) c.read_all.auto.into c.u16_in-code.ensures c.u16_in-size.ensures c.if-code-eq0.false again
    (omega (arith, pad, again, least, room)) c.in_ok-read_value.ensures.read c.in-Some-Some.is c.in-Some-Some.field-0-is

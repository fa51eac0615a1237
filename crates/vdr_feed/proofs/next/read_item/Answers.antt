use Rattle.std.proofs.Common.{arith, ◌≡◌, ◌≤◌, ◌<◌, ◌^◌, ◌∙◌, ◌++◌, ℕ, List, Bool, true, false, inr, Option, None, length, take, subst, sym, ap, refl, pos, w64}
use Rattle.std.specs.Io.KnownBytes.{Consumes, IsAtEnd}
use Rattle.std.proofs.KnownBytes.{Consumes-trans}
use Rattle.std.proofs.lemmas.List.{take_all}
use Rattle.std.proofs.lemmas.Int.{to_z_pos}
use Rattle.vdr_terms.specs.Records.{FeedItem}
use Rattle.vdr_terms.specs.Legality.{IsBytes}
use Rattle.vdr_feed.specs.Body.{ReadsBody}
use Rattle.vdr_feed.specs.Feed.{length_in, head_fault, group_in, received_in, utc_in}
use Rattle.vdr_feed.specs.Reader.{IsNext}
use Rattle.vdr_feed.specs.declared.item.Item.{Item as Held}
use Rattle.vdr_feed.proofs.Grammar.{inside_body, refuses_short, refuses_head, refuses_body, item_of, item_spelled, item_legal, number_legal}
use Rattle.vdr_feed.proofs.next.read_item.Goals as goal

whole_head : (a b : Option (List ℕ)) (got : ℕ) (h : List ℕ) → Consumes a b (take got h) → length h ≡ 19 → 19 ≤ got → Consumes a b h
whole_head a b got h front long full = subst (λ (xs : List ℕ). Consumes a b xs) (take_all got h (omega (arith, long, full))) front

body_short : (b c : Option (List ℕ)) (len : ℕ) (whole : Bool) (kept : List ℕ) → ReadsBody b c len whole kept → whole ≡ false → (body : List ℕ) × (length body < len) × Consumes b c body × IsAtEnd c
body_short b c len false kept p e = p
body_short b c len true kept p e = let bad : ⊥ = cc in absurd bad

body_whole : (b c : Option (List ℕ)) (len : ℕ) (whole : Bool) (kept : List ℕ) → ReadsBody b c len whole kept → whole ≡ true → (body : List ℕ) × (length body ≡ len) × Consumes b c body × (kept ≡ take 1473 body)
body_whole b c len true kept p e = p
body_whole b c len false kept p e = let bad : ⊥ = cc in absurd bad

read_is : (a b c : Option (List ℕ)) (limit count floor : ℕ) (h : List ℕ) (held : Held) → Consumes a b h → length h ≡ 19 → IsBytes h → count < limit → head_fault floor h ≡ None
    → (p : (body : List ℕ) × (length body ≡ length_in h) × Consumes b c body × (held.bytes.items ≡ take 1473 body)) → length_in h < 2 ^ 16
    → held.group ≡ group_in h → held.received ≡ received_in h → held.utc ≡ pos (utc_in h)
    → (i : FeedItem) × IsNext a c limit count floor held i × (length i.item.bytes ≡ length_in h)
read_is a b c limit count floor h held front long bytes room none p short group received utc =
    let len : length p.0 ≡ length_in h = p.1 in (
      item_of h p.0,
      record {
        bytes = subst (λ (xs : List ℕ). Consumes a c xs) (item_spelled h p.0 long bytes len) (Consumes-trans a b c h p.0 front p.2);
        legal = item_legal floor h p.0 none (omega (arith, len, short));
        few = room;
        holds = record { group = group; received = received; utc = utc; bytes = p.3 };
      },
      len,
    )

pub returns-then-got-lt19-clause-refused : goal.returns-then-got-lt19-clause-refused
returns-then-got-lt19-clause-refused g c =
    let long : length c.fill.new.into ≡ 19 = c.fill.auto.into in
    refuses_short _ _ c.args.limit c.args.count c.args.floor c.in_ok-got.got c.fill.new.into c.in_ok-got.ensures.bytes (c.in_ok-got.ensures.end (omega (arith, long, c.if-got-lt19.true)))
    c.in_ok-got.ensures.bound c.if-count-limit.false c.if-got-eq0.false c.if-got-lt19.true

pub returns-in-Some-clause-refused : goal.returns-in-Some-clause-refused
returns-in-Some-clause-refused g c =
    let long : length c.fill.new.into ≡ 19 = c.fill.auto.into in
    refuses_head _ _ c.args.limit c.args.count c.args.floor c.in-Some.number c.fill.new.into (whole_head _ _ c.in_ok-got.got c.fill.new.into c.in_ok-got.ensures.bytes long c.if-got-lt19.false) long
    c.if-count-limit.false (sym c.fault_of_head.ensures.fault ∙ c.in-Some.is)

pub returns-then-not-branch-clause-refused : goal.returns-then-not-branch-clause-refused
returns-then-not-branch-clause-refused g c =
    let long : length c.fill.new.into ≡ 19 = c.fill.auto.into in
    let body = body_short _ _ c.length_of-len.result c.in_ok-read_body.field-0 _ c.in_ok-read_body.ensures.body c.if-not-branch.true in
    refuses_body _ _ _ c.args.limit c.args.count c.args.floor c.fill.new.into (whole_head _ _ c.in_ok-got.got c.fill.new.into c.in_ok-got.ensures.bytes long c.if-got-lt19.false) long
    c.if-count-limit.false (sym c.fault_of_head.ensures.fault ∙ c.in_default.is)
    (body.0, subst (λ (n : ℕ). length body.0 < n) c.length_of-len.ensures body.1, body.2, body.3)

pub returns-clause-read : goal.returns-clause-read
returns-clause-read g c =
    let long : length c.fill.new.into ≡ 19 = c.fill.auto.into in
    let short : c.length_of-len.result < 2 ^ 16 = c.length_of-len.type_inv in
    let none : head_fault c.args.floor c.fill.new.into ≡ None = sym c.fault_of_head.ensures.fault ∙ c.in_default.is in
    let legal = number_legal c.args.floor (group_in c.fill.new.into) (received_in c.fill.new.into) (utc_in c.fill.new.into) none in
    let utc_is : c.utc_of.result ≡ utc_in c.fill.new.into = c.utc_of.ensures in
    let utc_small : c.utc_of.result < 2 ^ 63 = omega (arith, utc_is, legal.3) in
    let body = body_whole _ _ c.length_of-len.result c.in_ok-read_body.field-0 _ c.in_ok-read_body.ensures.body c.if-not-branch.false in
    let read = read_is _ _ _ c.args.limit c.args.count c.args.floor c.fill.new.into (record { group = _; received = c.received_of-into.result; utc = _; bytes = c.read_body.new.into }) (whole_head _ _ c.in_ok-got.got c.fill.new.into c.in_ok-got.ensures.bytes long c.if-got-lt19.false) long
    c.fault_of_head.ensures.bytes c.if-count-limit.false none
    (body.0, body.1 ∙ c.length_of-len.ensures, body.2, body.3) (subst (λ (n : ℕ). n < 2 ^ 16) c.length_of-len.ensures short)
    refl c.received_of-into.ensures (to_z_pos w64 c.utc_of.result utc_small ∙ ap (λ (n : ℕ). pos n) utc_is) in
    (read.0, read.1, read.2 ∙ sym c.length_of-len.ensures)

pub returns-in_err-read_body-clause-part : goal.returns-in_err-read_body-clause-part
returns-in_err-read_body-clause-part g c = λ _.
    let long : length c.fill.new.into ≡ 19 = c.fill.auto.into in
    let p = c.in_err-read_body.ensures.part in (
      c.fill.new.into ++ p.0,
      inr (inside_body c.args.limit c.args.count c.args.floor c.fill.new.into p.0 long c.if-count-limit.false (sym c.fault_of_head.ensures.fault ∙ c.in_default.is)
          (subst (λ (n : ℕ). length p.0 < n) c.length_of-len.ensures p.1)),
      Consumes-trans _ _ _ c.fill.new.into p.0 (whole_head _ _ c.in_ok-got.got c.fill.new.into c.in_ok-got.ensures.bytes long c.if-got-lt19.false) p.2,
    )

use Rattle.std.proofs.Common.{◌≡◌, ◌≤◌, ◌<◌, ◌+◌, min, ℕ, ℤ, List, [], ◌∷◌, ◌++◌, length, map, take, drop, refl, sym, ◌∙◌, ap, subst, arith, rules, w64, to_z, of_z}
use mir.Val.{SFits}
use Rattle.std.proofs.lemmas.Int.{to_z-of_z}
use Rattle.std.proofs.lemmas.List.{drop_more, length-take, map-append, take_min, take_more}
use Rattle.vdr_terms.specs.Records.{Item}
use Rattle.vdr_terms.specs.Stamps.{IsStamp}
use Rattle.vdr_terms.proofs.Results.{of_ok}
use Rattle.vdr_outside.specs.Takes.{cut}
use Rattle.vdr_memory.specs.Ports.{DatagramsInMemory, NeverFalls}
use Rattle.vdr_memory.proofs.datagrams.Datagrams.give.Goals as goal

-- The bytes that are given.
first_bytes : (bytes slice into before : List ℕ) (count : ℕ) → into ≡ before ++ take count slice → before ≡ [] → slice ≡ bytes → count ≡ min (length bytes) 1473 → into ≡ take 1473 bytes
first_bytes bytes slice into before count is none same count_is =
    is
    ∙ ap (λ (l : List ℕ). l ++ take count slice) none
    ∙ ap (λ (l : List ℕ). take count l) same
    ∙ ap (λ (k : ℕ). take k bytes) (let other : count ≡ min 1473 (length bytes) = omega (arith, count_is) in other)
    ∙ take_min 1473 bytes

pub returns-clause-took : goal.returns-clause-took
returns-clause-took c =
    let items = c.self.inside.items.items in
    let given = c.self.inside.given in
    let stored = c.item.inside in
    let item : Item = record { received = stored.received; utc = stored.utc; bytes = stored.bytes.items } in
    let within : given < length items = omega (arith, c.self.invariant.0, c.if-self-len.false, c.len.ensures) in
    let here = c.item.view_is ∙ c.index-item.ensures in
    let rest : drop given items ≡ item ∷ drop (given + 1) items = drop_more items given c.index-item.result.now within ∙ ap (λ (x : Item). x ∷ drop (given + 1) items) (sym here) in
    let front : take (given + 1) items ≡ take given items ++ item ∷ [] = take_more items given c.index-item.result.now within ∙ ap (λ (x : Item). take given items ++ x ∷ []) (sym here) in
    let fits : SFits w64 stored.utc = search rules in
    let whole : to_z w64 (of_z w64 stored.utc) ≡ stored.utc = to_z-of_z w64 stored.utc fits in
    let falls : NeverFalls c.self.inside.floor (item ∷ drop (given + 1) items) = subst (λ (l : List Item). NeverFalls c.self.inside.floor l) rest c.self.invariant.1 in
    let room : length c.clear.new.self.items + length (take c.min-count.result c.deref.result.now) ≤ 1473 = omega (arith, ap (λ (l : List ℕ). length l) c.clear.ensures, length-take c.min-count.result c.deref.result.now, c.min-count.ensures) in
    record {
      item = item;
      received_is = refl;
      utc_is = sym whole;
      bytes =
          first_bytes stored.bytes.items c.deref.result.now c.try_extend_from_slice.new.self.items c.clear.new.self.items c.min-count.result (of_ok c.try_extend_from_slice.result (c.try_extend_from_slice.ensures.variant.1 room) c.try_extend_from_slice.ensures.ok) c.clear.ensures c.deref.ensures.value
          (omega (arith, c.min-count.ensures, c.len-2.ensures));
      left = sym (ap (λ (d : DatagramsInMemory). d.left) c.self.view_is) ∙ rest;
      taken = ap (λ (l : List Item). map cut l) front ∙ map-append cut (take given items) (item ∷ []) ∙ ap (λ (d : DatagramsInMemory). d.taken ++ cut item ∷ []) c.self.view_is;
      later = omega (arith, falls.0, ap (λ (d : DatagramsInMemory). d.floor) c.self.view_is);
      floor = refl;
      small = c.item.invariant.0;
      stamp = subst IsStamp (sym whole) c.item.invariant.1;
    }

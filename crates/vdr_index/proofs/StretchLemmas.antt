-- What records come to, one more at a time, and what is kept of the record at the front of some bytes.
use Rattle.std.proofs.Common.{◌≡◌, ◌≤◌, ◌<◌, ◌+◌, ◌^◌, ℕ, List, [], ◌∷◌, ◌++◌, length, get_or, take, drop, ap, ◌∙◌, sym, subst, arith, Bool, IsTrue, ℤ, pos, to_z, w64}
use Rattle.std.specs.Prelude.{◌↔◌}
use Rattle.std.proofs.lemmas.Int.{to_z_pos}
use Rattle.std.proofs.lemmas.List.{append_assoc, append-nil, take_more}
use Rattle.vdr_bytes.specs.Numbers.{u16_at, u64_at}
use Rattle.vdr_terms.specs.Records.{Record, last_after}
use Rattle.vdr_terms.specs.Sizes.{record_size}
use Rattle.vdr_terms.proofs.Running.{last_join}
use Rattle.vdr_entry.specs.Reading.{Begins}
use Rattle.vdr_entry.specs.Spotting.{record_in}
use Rattle.vdr_entry.specs.Spelling.{records_bytes}
use Rattle.vdr_entry.proofs.ReadingLemmas.{begun_spots, kind_for, spotted_size, length-payload_in, one_record}
use Rattle.vdr_segment.specs.Batches.{AreRecords}
use Rattle.vdr_segment.proofs.WalkLemmas.{first_begins, records_behind}
use Rattle.vdr_index.specs.declared.head.Head.{Head}
use Rattle.vdr_index.specs.Selections.{head_of}
use Rattle.vdr_index.specs.declared.stretch.Mark.{Mark}
use Rattle.vdr_index.specs.declared.stretch.Stretch.{Stretch}
use Rattle.vdr_entry.specs.declared.summary.Summary.{Summary}
use Rattle.vdr_index.specs.Summaries.{IsSummaryOf}
use Rattle.vdr_index.specs.Stretches.{mark_of, Follows, ComesTo}
use Rattle.vdr_index.proofs.OrderLemmas.{order_join, order_split, order_alone}

-- One record more

pub stretch_more : (records : List Record) (r : Record) (s : Stretch) (mark : Mark) (b : Bool) (t : Summary) → ComesTo records s → mark ≡ mark_of r → (IsTrue b ↔ (IsTrue s.in_order × Follows s.last mark))
    → IsSummaryOf (records ++ r ∷ []) t → ComesTo (records ++ r ∷ []) (record { first = s.first; last = mark; in_order = b; summary = t })
stretch_more records r s mark b t c is tells summary =
    let follows : Follows s.last mark ≡ Follows (mark_of (last_after c.head c.tail)) (mark_of r) =
    ap (λ (m : Mark). Follows m mark) c.newest ∙ ap (λ (m : Mark). Follows (mark_of (last_after c.head c.tail)) m) is in
    record {
      head = c.head;
      tail = c.tail ++ r ∷ [];
      are = ap (λ (xs : List Record). xs ++ r ∷ []) c.are;
      first = c.first;
      newest = is ∙ ap mark_of (sym (last_join c.head c.tail r []));
      in_order = (
        λ h. let t = tells.0 h in order_join _ _ c.head c.tail r [] (c.in_order.0 t.0) (subst (λ (A : Type 0). A) follows t.1) (order_alone r),
        λ o. let p = order_split _ _ c.head c.tail r [] o in tells.1 (c.in_order.1 p.0, subst (λ (A : Type 0). A) (sym follows) p.1),
      );
      summary = summary;
    }

-- so many of a list, and one more
pub taken_more : (front xs : List Record) (i : ℕ) (r : Record) → i < length xs → r ≡ get_or xs i r → (front ++ take i xs) ++ r ∷ [] ≡ front ++ take (i + 1) xs
taken_more front xs i r within is =
    append_assoc front (take i xs) (r ∷ []) ∙ ap (λ (x : Record). front ++ (take i xs ++ x ∷ [])) is ∙ ap (λ (ys : List Record). front ++ ys) (sym (take_more xs i r within))

-- At the front of bytes

pub mark_by : (p q t u : ℕ) (y z : ℤ) → p ≡ q → t ≡ u → y ≡ z → ◌≡◌ {A = Mark} (record { place = p; tick = t; utc = y }) (record { place = q; tick = u; utc = z })
mark_by p q t u y z e f g = cc

head_by : (b c p q t u m n : ℕ) (y z : ℤ) → b ≡ c → p ≡ q → t ≡ u → y ≡ z → m ≡ n
    → ◌≡◌ {A = Head} (record { bits = b; place = p; tick = t; utc = y; size = m }) (record { bits = c; place = q; tick = u; utc = z; size = n })
head_by b c p q t u m n y z e f g h i = cc

pub stamp_read : (bytes rest : List ℕ) (r : Record) → Begins bytes r rest → u64_at 36 bytes < 2 ^ 63
stamp_read bytes rest r g = omega (arith, (begun_spots bytes rest r g).0.numbers.utc)

pub size_read : (bytes rest : List ℕ) (r : Record) → Begins bytes r rest → 44 + u16_at 2 bytes ≡ record_size r
size_read bytes rest r g =
    let b = begun_spots bytes rest r g in
    omega (arith, spotted_size bytes (kind_for r.content) b.0, length-payload_in bytes b.0.long, ap record_size b.1)

pub front_long : (bytes rest : List ℕ) (r : Record) → Begins bytes r rest → 44 ≤ length bytes
front_long bytes rest r g = omega (arith, (begun_spots bytes rest r g).0.long)

pub head_read : (bytes rest : List ℕ) (r : Record) → Begins bytes r rest → (b p t u n : ℕ) → b ≡ u64_at 4 bytes → p ≡ u64_at 12 bytes → t ≡ u64_at 28 bytes → u ≡ u64_at 36 bytes → n ≡ u16_at 2 bytes
    → ◌≡◌ {A = Head} (record { bits = b; place = p; tick = t; utc = to_z w64 u; size = 44 + n }) (head_of r)
unfolding record_in
head_read bytes rest r g b p t u n b_is p_is t_is u_is n_is =
    let s = begun_spots bytes rest r g in
    let small : u < 2 ^ 63 = omega (arith, u_is, s.0.numbers.utc) in
    head_by _ _ _ _ _ _ _ _ _ _ (b_is ∙ ap (λ (x : Record). x.bits) s.1) (p_is ∙ ap (λ (x : Record). x.place) s.1) (t_is ∙ ap (λ (x : Record). x.tick) s.1)
    (to_z_pos w64 u small ∙ ap (λ (n : ℕ). pos n) u_is ∙ ap (λ (x : Record). x.utc) s.1) (ap (λ (k : ℕ). 44 + k) n_is ∙ size_read bytes rest r g)

-- Through bytes

-- Records of the bytes were met, which come to this, and others are left.
pub record Midway (bytes rest : List ℕ) (s : Stretch) : Type 0 where
  pub met : List Record
  pub left : List Record
  pub whole : AreRecords bytes (met ++ left)
  pub ahead : AreRecords rest left
  pub comes : ComesTo met s

-- bytes that are records and not none begin with one
pub some_begin : (bytes : List ℕ) → 0 < length bytes → (records : List Record) → AreRecords bytes records → (r : Record) × (rest : List ℕ) × Begins bytes r rest
some_begin bytes some [] a = let bad : ⊥ = omega (arith, ap length a.spelled) in absurd bad
some_begin bytes some (r ∷ rs) a = (r, records_bytes rs, first_begins bytes r rs a)

-- the record at the front is the first of them
pub behind_front : (bytes after : List ℕ) (r : Record) (n : ℕ) → Begins bytes r after → n ≡ record_size r → (records : List Record) → AreRecords bytes records → 0 < length bytes
    → (rs : List Record) × (records ≡ r ∷ rs) × AreRecords (drop n bytes) rs
behind_front bytes after r n g size [] a some = let bad : ⊥ = omega (arith, ap length a.spelled) in absurd bad
behind_front bytes after r n g size (q ∷ qs) a some =
    let same : q ≡ r = one_record bytes (records_bytes qs) after q r (first_begins bytes q qs a) g in
    (qs, ap (λ (x : Record). x ∷ qs) same, subst (λ (k : ℕ). AreRecords (drop k bytes) qs) (ap record_size same ∙ sym size) (records_behind bytes q qs a))

pub midway_begun : (bytes after : List ℕ) (r : Record) (n : ℕ) (s : Stretch) → Begins bytes r after → n ≡ record_size r → ComesTo (r ∷ []) s → (records : List Record) → AreRecords bytes records → 0 < length bytes
    → Midway bytes (drop n bytes) s
midway_begun bytes after r n s g size c records a some =
    let b = behind_front bytes after r n g size records a some in
    record { met = r ∷ []; left = b.0; whole = subst (λ (xs : List Record). AreRecords bytes xs) b.1 a; ahead = b.2; comes = c }

pub midway_more : (bytes rest after : List ℕ) (r : Record) (n : ℕ) (s t : Stretch) → (m : Midway bytes rest s) → Begins rest r after → n ≡ record_size r → ComesTo (m.met ++ r ∷ []) t → 0 < length rest
    → Midway bytes (drop n rest) t
midway_more bytes rest after r n s t m g size c some =
    let b = behind_front rest after r n g size m.left m.ahead some in
    record {
      met = m.met ++ r ∷ [];
      left = b.0;
      whole = subst (λ (xs : List Record). AreRecords bytes xs) (ap (λ (xs : List Record). m.met ++ xs) b.1 ∙ sym (append_assoc m.met (r ∷ []) b.0)) m.whole;
      ahead = b.2;
      comes = c;
    }

pub midway_done : (bytes rest : List ℕ) (s : Stretch) → Midway bytes rest s → length rest ≡ 0 → (records : List Record) × AreRecords bytes records × ComesTo records s
midway_done bytes rest s m none = all m.left m.whole m.ahead
  where
    all : (left : List Record) → AreRecords bytes (m.met ++ left) → AreRecords rest left → (records : List Record) × AreRecords bytes records × ComesTo records s
    all [] whole ahead = (m.met ++ [], whole, subst (λ (xs : List Record). ComesTo xs s) (sym (append-nil m.met)) m.comes)
    all (r ∷ rs) whole ahead = let bad : ⊥ = omega (arith, none, front_long rest (records_bytes rs) r (first_begins rest r rs ahead)) in absurd bad

-- A segment is judged in one way.
use Rattle.std.proofs.Common.{◌≡◌, ℕ, Bool, true, false, List, take, drop, Option, Some, None, inl, inr, ⊎_elim, refl, sym, ap, ◌∙◌, subst}
use Rattle.std.specs.Prelude.{◌↔◌, IsTrue, not}
use Rattle.vdr_terms.specs.Records.{Record}
use Rattle.vdr_terms.specs.Order.{RunOn, NeverFalls}
use Rattle.vdr_entry.specs.declared.summary.Summary.{Summary}
use Rattle.vdr_segment.specs.declared.header.Header.{Header}
use Rattle.vdr_segment.specs.Gates.{IsOpenAt}
use Rattle.vdr_segment.specs.Headers.{IsHeader}
use Rattle.vdr_segment.specs.Segments.{AreBatches}
use Rattle.vdr_segment.proofs.SegmentLemmas.{one_header}
use Rattle.vdr_segment.proofs.BatchListLemmas.{one_batches}
use Rattle.vdr_index.specs.declared.extent.Survey.{Survey}
use Rattle.vdr_index.specs.Extents.{records_in}
use Rattle.vdr_index.specs.Surveys.{BreaksAt, Surveys}
use Rattle.vdr_index.proofs.AuditLemmas.{never_agrees, one_difference}
use Rattle.vdr_index.proofs.SpanLemmas.{never_both, one_break}
use Rattle.vdr_ring.specs.Damage.{AgreeBy, FailsBy, IsDamagedAt, IsIntact}
use Rattle.vdr_rescue.specs.declared.fronts.Head.{Head}
use Rattle.vdr_rescue.specs.Judging.{AreOff, IsOutOfOrder, Judges, JudgesAlone, JudgesBare, strays}
use Rattle.vdr_ring.proofs.Legible.{IsJudged}

pub clash : IsTrue false → ⊥
clash e = cc

some_none : (s : Summary) → ◌≡◌ {A = Option Summary} (Some s) None → ⊥
some_none s e = cc

some_not_none : (n : ℕ) → ◌≡◌ {A = Option ℕ} (Some n) None → ⊥
some_not_none n e = cc

off_by : (b : Bool) (P Q : Type 0) → IsTrue b ↔ P → (Q → P → ⊥) → ((P → ⊥) → Q) → IsTrue (not b) ↔ Q
off_by true P Q i f g = (λ e. absurd (clash e), λ q. absurd (f q (i.0 refl)))
off_by false P Q i f g = (λ e. g (λ p. clash (i.1 p)), λ q. refl)

pub off_here : (bytes : List ℕ) (first : ℕ) (batches : List (List Record)) (s : Survey) → AreBatches (drop 64 bytes) batches → Surveys first batches s → IsTrue (not s.in_order) ↔ AreOff bytes first
off_here bytes first batches s are sur = off_by s.in_order (RunOn first (records_in batches) × NeverFalls 0 (records_in batches)) (AreOff bytes first) sur.in_order
    (λ x p. x.off (subst (λ (bs : List (List Record)). RunOn first (records_in bs) × NeverFalls 0 (records_in bs)) (one_batches (drop 64 bytes) batches x.batches are x.are) p))
    (λ none. record { batches = batches; are = are; off = none })

pub bare_whole : (bytes : List ℕ) (first : ℕ) (batches : List (List Record)) (s : Survey) → AreBatches (drop 64 bytes) batches → Surveys first batches s → s.in_order ≡ true → JudgesBare bytes first None
bare_whole bytes first batches s are sur whole = ((batches, are), λ x. clash (ap (λ (b : Bool). not b) (sym whole) ∙ (off_here bytes first batches s are sur).1 x))

pub bare_off : (bytes : List ℕ) (first : ℕ) (batches : List (List Record)) (s : Survey) → AreBatches (drop 64 bytes) batches → Surveys first batches s → s.in_order ≡ false → JudgesBare bytes first (Some 0)
bare_off bytes first batches s are sur off = inr ((off_here bytes first batches s are sur).0 (ap (λ (b : Bool). not b) off), refl)

-- A segment of an open slot with this header

module _ (bytes : List ℕ) (header : Header) (opened : IsOpenAt bytes 0) (is : IsHeader (take 64 bytes) header) where
  out_of_order : header.summary ≡ None → AreOff bytes header.first → IsOutOfOrder bytes
  out_of_order none off = record { opened = opened; header = header; is = is; bare = none; off = off }

  off_by_header : IsOutOfOrder bytes → AreOff bytes header.first
  off_by_header x = subst (λ (h : Header). AreOff bytes h.first) (one_header (take 64 bytes) x.header header x.is is) x.off

  none_by_header : IsOutOfOrder bytes → header.summary ≡ None
  none_by_header x = ap (λ (h : Header). h.summary) (sym (one_header (take 64 bytes) x.header header x.is is)) ∙ x.bare

  intact : header.summary ≡ None → (batches : List (List Record)) → AreBatches (drop 64 bytes) batches → IsIntact bytes
  intact none batches are o = (header, is, batches, are, subst (λ (s : Option Summary). AgreeBy s header.first batches) (sym none) tt)

  pub judged_bare : header.summary ≡ None → (found : Option ℕ) → JudgesBare bytes header.first found → JudgesAlone bytes found
  judged_bare none None x = (intact none x.0.0 x.0.1, λ o. x.1 (off_by_header o))
  judged_bare none (Some at) x = ⊎_elim
      (λ (b : BreaksAt bytes at). inl (record { opened = opened; part = inr (header, is, subst (λ (s : Option Summary). FailsBy s header.first bytes at) (sym none) b) }))
      (λ (b : AreOff bytes header.first × (at ≡ 0)). inr (intact none b.0.batches b.0.are, out_of_order none b.0, b.1))
      x

  pub judged_summed : (s : Summary) → header.summary ≡ Some s → (found : Option ℕ) → IsJudged bytes found → JudgesAlone bytes found
  judged_summed s some None x = (x.1, λ o. some_none s (sym some ∙ none_by_header o))
  judged_summed s some (Some at) x = inl x.0

-- One offset

fails_once : (o : Option Summary) (first : ℕ) (bytes : List ℕ) (m n : ℕ) → FailsBy o first bytes m → FailsBy o first bytes n → m ≡ n
fails_once None first bytes m n x y = one_break bytes m n x y
fails_once (Some s) first bytes m n x y = one_difference first s bytes m n x y

never_fails : (o : Option Summary) (first : ℕ) (bytes : List ℕ) (batches : List (List Record)) (at : ℕ) → AreBatches (drop 64 bytes) batches → AgreeBy o first batches → FailsBy o first bytes at → ⊥
never_fails None first bytes batches at stand agree fails = never_both bytes batches at stand fails
never_fails (Some s) first bytes batches at stand agree fails = never_agrees first s bytes batches at stand agree fails

module _ (bytes : List ℕ) where
  damaged_once : (m n : ℕ) → IsDamagedAt bytes m → IsDamagedAt bytes n → m ≡ n
  damaged_once m n x y = ⊎_elim
      (λ (a : ((h : Header) → IsHeader (take 64 bytes) h → ⊥) × (m ≡ 0)). ⊎_elim
      (λ (b : ((h : Header) → IsHeader (take 64 bytes) h → ⊥) × (n ≡ 0)). a.1 ∙ sym b.1)
      (λ (b : (h : Header) × IsHeader (take 64 bytes) h × FailsBy h.summary h.first bytes n). absurd (a.0 b.0 b.1))
      y.part)
      (λ (a : (h : Header) × IsHeader (take 64 bytes) h × FailsBy h.summary h.first bytes m). ⊎_elim
      (λ (b : ((h : Header) → IsHeader (take 64 bytes) h → ⊥) × (n ≡ 0)). absurd (b.0 a.0 a.1))
      (λ (b : (h : Header) × IsHeader (take 64 bytes) h × FailsBy h.summary h.first bytes n).
      fails_once b.0.summary b.0.first bytes m n (subst (λ (h : Header). FailsBy h.summary h.first bytes m) (one_header (take 64 bytes) a.0 b.0 a.1 b.1) a.2) b.2)
      y.part)
      x.part

  never_damaged : (at : ℕ) → IsDamagedAt bytes at → IsIntact bytes → ⊥
  never_damaged at x intact =
      let i = intact x.opened in ⊎_elim
      (λ (a : ((h : Header) → IsHeader (take 64 bytes) h → ⊥) × (at ≡ 0)). a.0 i.0 i.1)
      (λ (a : (h : Header) × IsHeader (take 64 bytes) h × FailsBy h.summary h.first bytes at).
      never_fails i.0.summary i.0.first bytes i.2 at i.3 i.4 (subst (λ (h : Header). FailsBy h.summary h.first bytes at) (one_header (take 64 bytes) a.0 i.0 a.1 i.1) a.2))
      x.part

  alone_once : (a b : Option ℕ) → JudgesAlone bytes a → JudgesAlone bytes b → a ≡ b
  alone_once None None x y = refl
  alone_once None (Some n) x y = ⊎_elim
      (λ (d : IsDamagedAt bytes n). absurd (never_damaged n d x.0))
      (λ (d : IsIntact bytes × IsOutOfOrder bytes × (n ≡ 0)). absurd (x.1 d.1))
      y
  alone_once (Some m) None x y = ⊎_elim
      (λ (d : IsDamagedAt bytes m). absurd (never_damaged m d y.0))
      (λ (d : IsIntact bytes × IsOutOfOrder bytes × (m ≡ 0)). absurd (y.1 d.1))
      x
  alone_once (Some m) (Some n) x y = ⊎_elim
      (λ (d : IsDamagedAt bytes m). ⊎_elim
      (λ (e : IsDamagedAt bytes n). ap (λ (k : ℕ). Some k) (damaged_once m n d e))
      (λ (e : IsIntact bytes × IsOutOfOrder bytes × (n ≡ 0)). absurd (never_damaged m d e.0))
      y)
      (λ (d : IsIntact bytes × IsOutOfOrder bytes × (m ≡ 0)). ⊎_elim
      (λ (e : IsDamagedAt bytes n). absurd (never_damaged n e d.0))
      (λ (e : IsIntact bytes × IsOutOfOrder bytes × (n ≡ 0)). ap (λ (k : ℕ). Some k) (d.2 ∙ sym e.2))
      y)
      x

  module _ (before : Option ℕ) (floor : ℕ) (head : Head) where
    some_alone : (n : ℕ) → JudgesAlone bytes (Some n) → JudgesAlone bytes None → ⊥
    some_alone n x y = some_not_none n (alone_once (Some n) None x y)

    both_strays : strays before floor head ≡ true → strays before floor head ≡ false → ⊥
    both_strays x y = clash (sym y ∙ x)

    pub one_judgement : (a b : Option ℕ) → Judges bytes before floor head a → Judges bytes before floor head b → a ≡ b
    one_judgement None None x y = refl
    one_judgement None (Some n) x y = ⊎_elim
        (λ (d : JudgesAlone bytes (Some n)). absurd (some_alone n d x.0))
        (λ (d : JudgesAlone bytes None × (strays before floor head ≡ true) × (n ≡ 0)). absurd (both_strays d.1 x.1))
        y
    one_judgement (Some m) None x y = ⊎_elim
        (λ (d : JudgesAlone bytes (Some m)). absurd (some_alone m d y.0))
        (λ (d : JudgesAlone bytes None × (strays before floor head ≡ true) × (m ≡ 0)). absurd (both_strays d.1 y.1))
        x
    one_judgement (Some m) (Some n) x y = ⊎_elim
        (λ (d : JudgesAlone bytes (Some m)). ⊎_elim
        (λ (e : JudgesAlone bytes (Some n)). alone_once (Some m) (Some n) d e)
        (λ (e : JudgesAlone bytes None × (strays before floor head ≡ true) × (n ≡ 0)). absurd (some_alone m d e.0))
        y)
        (λ (d : JudgesAlone bytes None × (strays before floor head ≡ true) × (m ≡ 0)). ⊎_elim
        (λ (e : JudgesAlone bytes (Some n)). absurd (some_alone n e d.0))
        (λ (e : JudgesAlone bytes None × (strays before floor head ≡ true) × (n ≡ 0)). ap (λ (k : ℕ). Some k) (d.2 ∙ sym e.2))
        y)
        x

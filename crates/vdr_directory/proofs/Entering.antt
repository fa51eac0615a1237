-- What the entries of a medium in order tell of its newest segment and of the end of its records.
use Rattle.std.proofs.Common.{◌≡◌, ◌<◌, ◌+◌, ◌-◌, ℕ, List, [], ◌∷◌, ◌++◌, length, map, take, get_or, slice_get, All, Option, Some, None, option_map, inl, inr, refl, sym, ap, ◌∙◌, subst, arith}
use Rattle.std.specs.Prelude.{◌⊎◌, IfSome, MatchOption}
use Rattle.std.proofs.lemmas.List.{take_more}
use Rattle.std.proofs.lemmas.Option.{none-some, same_Some}
use Rattle.vdr_terms.specs.Records.{last}
use Rattle.vdr_index.specs.declared.extent.Extent.{Extent}
use Rattle.vdr_index.specs.declared.extent.Survey.{Survey}
use Rattle.vdr_directory.specs.declared.entry.Entry.{Entry}
use Rattle.vdr_directory.specs.declared.newest.Newest.{Newest}
use Rattle.vdr_directory.specs.declared.newest.Ending.{Ending}
use Rattle.vdr_directory.specs.Sequence.{Placed, batches_of, batches_in}
use Rattle.vdr_directory.specs.Bringing.{EndsBare}
use Rattle.vdr_directory.specs.Order.{AreInOrder}
use Rattle.vdr_directory.specs.Knowns.{known_of}
use Rattle.vdr_directory.specs.Entries.{Describes, Describe}
use Rattle.vdr_directory.specs.Indexed.{extent_by}
use Rattle.vdr_directory.specs.Directories.{ending_by, later, newest_of}
use Rattle.vdr_directory.proofs.Runs.{last_at, nil_from_last}
use Rattle.vdr_directory.proofs.Endings.{ending_append, ending_in}
use Rattle.vdr_directory.proofs.EndingsBy.{PrecedeBy, behind_summarized, ending_known, later_same, precede_known}
use Rattle.vdr_directory.proofs.Extents.{IsBare, IsSummarized, bare_or_not}
use Rattle.vdr_directory.proofs.Knowing.{known_described}

-- The newest

newest_described : (p : Placed) (e : Entry) (v : Survey) → Describes p e → p.segment.header.summary ≡ None → e.survey ≡ Some v
    → ◌≡◌ {A = Newest} (record { slot = e.slot; seq = e.seq; first = e.first; end = v.end }) (newest_of p)
newest_described p e v d none is = go (bare_or_not p e d)
  where
    go : IsBare p e ⊎ IsSummarized p e → ◌≡◌ {A = Newest} (record { slot = e.slot; seq = e.seq; first = e.first; end = v.end }) (newest_of p)
    go (inr t) = absurd (none-some t.summary (sym none ∙ t.some))
    go (inl b) =
        let same : v.end ≡ b.survey.end = ap (λ (s : Survey). s.end) (same_Some v b.survey (sym is ∙ b.is)) in
        let end = same ∙ b.surveys.end in
        λ i. record { slot = d.slot i; seq = d.seq i; first = d.first i; end = end i }

newest_surveyed : (p : Placed) (e : Entry) → Describes p e → p.segment.header.summary ≡ None → e.survey ≡ None → ⊥
newest_surveyed p e d none is = go (bare_or_not p e d)
  where
    go : IsBare p e ⊎ IsSummarized p e → ⊥
    go (inr t) = none-some t.summary (sym none ∙ t.some)
    go (inl b) = none-some b.survey (sym is ∙ b.is)

pub newest_read : (p : Placed) (e : Entry) (end : ℕ) → Describes p e → p.segment.header.summary ≡ None → MatchOption e.survey (end ≡ 64) (λ s. end ≡ s.end)
    → ◌≡◌ {A = Newest} (record { slot = e.slot; seq = e.seq; first = e.first; end = end }) (newest_of p)
newest_read p e end d none h = go e.survey refl h
  where
    go : (o : Option Survey) → e.survey ≡ o → MatchOption o (end ≡ 64) (λ s. end ≡ s.end) → ◌≡◌ {A = Newest} (record { slot = e.slot; seq = e.seq; first = e.first; end = end }) (newest_of p)
    go None is at = absurd (newest_surveyed p e d none is)
    go (Some v) is at = ap (λ (n : ℕ). record { slot = e.slot; seq = e.seq; first = e.first; end = n }) at ∙ newest_described p e v d none is

-- its slot is one of the index
pub newest_within : (es : List Entry) (slots count : ℕ) (o : Option Newest) → count ≡ slots → All (λ e. e.slot < slots) es → IfSome o (λ n. (slots : ℕ) → All (λ e. e.slot < slots) es → n.slot < slots) → IfSome o (λ n. n.slot < count)
newest_within es slots count None size below h = tt
newest_within es slots count (Some n) size below h = let lt = h slots below in omega (arith, lt, size)

-- The last segment, and the entry that tells of it.
pub record LastTold (ps : List Placed) (e : Entry) : Type 0 where
  pub p : Placed
  pub is : last ps ≡ Some p
  pub describes : Describes p e
  pub bare : p.segment.header.summary ≡ None

last_by : (ps : List Placed) (es : List Entry) (e : Entry) → EndsBare ps → Describe ps es → last es ≡ Some e → LastTold ps e
last_by [] [] e h d is = absurd (none-some e is)
last_by [] (x ∷ es) e h d is = absurd d
last_by (p ∷ ps) [] e h d is = absurd d
last_by (p ∷ []) (x ∷ []) e h d is = record { p = p; is = refl; describes = subst (Describes p) (same_Some x e is) d.0; bare = h }
last_by (p ∷ []) (x ∷ y ∷ es) e h d is = absurd d.1
last_by (p ∷ q ∷ ps) (x ∷ []) e h d is = absurd d.1
last_by (p ∷ q ∷ ps) (x ∷ y ∷ es) e h d is =
    let k = last_by (q ∷ ps) (y ∷ es) e h d.1 is in record { p = k.p; is = k.is; describes = k.describes; bare = k.bare }

pub last_told : (ps : List Placed) (es : List Entry) (e : Entry) → EndsBare ps → Describe ps es → Some e ≡ slice_get es (length es - 1) → LastTold ps e
last_told ps es e bare d at = last_by ps es e bare d (sym (at ∙ last_at es))

pub none_told : (ps : List Placed) (es : List Entry) → Describe ps es → None ≡ slice_get es (length es - 1) → last ps ≡ None
none_told ps es d at = go ps (subst (Describe ps) (nil_from_last es (sym (at ∙ last_at es))) d)
  where
    go : (ps : List Placed) → Describe ps [] → last ps ≡ None
    go [] d = refl
    go (p ∷ ps) d = absurd d

-- The end of the records

abbrev pub own_ending : Entry → Option Ending
own_ending e = option_map ending_by (extent_by e.survey)

abbrev pub ending_read : List Entry → Option Ending
ending_read [] = None
ending_read (e ∷ es) = later (own_ending e) (ending_read es)

later_none : (a : Option Ending) → later None a ≡ a
later_none None = refl
later_none (Some x) = refl

later_joined : (a b c : Option Ending) → later a (later b c) ≡ later (later a b) c
later_joined a b None = refl
later_joined a b (Some x) = refl

read_push : (es : List Entry) (e : Entry) → ending_read (es ++ e ∷ []) ≡ later (ending_read es) (own_ending e)
read_push [] e = sym (later_none (own_ending e))
read_push (x ∷ es) e = ap (later (own_ending x)) (read_push es e) ∙ later_joined (own_ending x) (ending_read es) (own_ending e)

pub read_more : (es : List Entry) (i : ℕ) (d : Entry) (now before : Option Ending) → i < length es → now ≡ later before (own_ending (get_or es i d)) → before ≡ ending_read (take i es) → now ≡ ending_read (take (i + 1) es)
read_more es i d now before lt is was =
    is ∙ ap (λ (o : Option Ending). later o (own_ending (get_or es i d))) was ∙ sym (read_push (take i es) (get_or es i d)) ∙ ap ending_read (sym (take_more es i d lt))

pub ending_told : (ps : List Placed) (es : List Entry) → PrecedeBy ps → Describe ps es → ending_read es ≡ ending_in (batches_in ps)
ending_told [] [] h d = refl
ending_told [] (e ∷ es) h d = absurd d
ending_told (p ∷ ps) [] h d = absurd d
ending_told (p ∷ ps) (e ∷ es) h d = ap (later (own_ending e)) (ending_told ps es h.1 d.1) ∙ go (bare_or_not p e d.0) ∙ sym (ending_append (batches_of p) (batches_in ps))
  where
    go : IsBare p e ⊎ IsSummarized p e → later (own_ending e) (ending_in (batches_in ps)) ≡ later (ending_in (batches_of p)) (ending_in (batches_in ps))
    go (inl b) = ap (λ (x : Option Extent). later (option_map ending_by x) (ending_in (batches_in ps))) (ap extent_by b.is ∙ b.surveys.extent)
    go (inr t) = later_same (own_ending e) (ending_in (batches_of p)) (ending_in (batches_in ps)) (behind_summarized p t.summary ps h.0 h.1 t.some)

-- of segments in order, by what is known of them
pub ending_placed : (ps : List Placed) (es : List Entry) → AreInOrder ps → Describe ps es → ending_read es ≡ ending_in (batches_in ps)
ending_placed ps es order d = ending_told (map known_of ps) es (precede_known None ps order) (known_described ps es d) ∙ ending_known None ps order

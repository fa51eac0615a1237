-- Opening has one answer: which part is the first that is not legal, and where.
use Rattle.std.proofs.Common.{◌≡◌, ◌<◌, ◌+◌, ℕ, List, [], ◌∷◌, length, All, Option, Some, None, inl, inr, sym, ◌∙◌, subst, arith, ◌++◌, ap, ◌⊎◌, refl}
use Rattle.std.proofs.lemmas.List.Elements.{All-head, All-tail, All-contains, Contains-append_right}
use Rattle.vdr_outside.specs.Disk.{Image, content}
use Rattle.vdr_directory.specs.Sequence.{Placed, batches_in}
use Rattle.vdr_directory.specs.Opening.{Refuses}
use Rattle.vdr_directory.specs.Telling.{HoldAllBy}
use Rattle.vdr_directory.proofs.OneAnswer.{never_refused, one_refusal}
use Rattle.vdr_config.specs.Configuration.{Configuration}
use Rattle.vdr_terms.specs.Slots.{slot_count}
use Rattle.vdr_durability.specs.Readings.{EndsMeet, EndsOff}
use Rattle.vdr_durability.proofs.Meeting.{none_off, one_off}
use Rattle.vdr_core.specs.Histories.{Incident}
use Rattle.vdr_durability.proofs.Lists.{contains_here}
use Rattle.vdr_incident.specs.Tables.{HoldsTable, place_of}
use Rattle.vdr_incident.specs.Tables as incidents
use Rattle.vdr_incident.proofs.Holding.{held_not_refused as table_not_refused, one_refused}
use Rattle.vdr_media.proofs.Members.{of_all}
use Rattle.vdr_opening.specs.Media.{members_in, members_with, HasFront, IsMediumBy, AreThereBy, Contents, HoldsParts, reading_of}
use Rattle.vdr_opening.specs.Refusals.{IsSameText, RefusesSegments, RefusesMedium, RefusesFrom, AreLegal, RefusesIncidents, RefusesPlaces, RefusesEnds, IsRefused}
use Rattle.vdr_opening.specs.Parts.{IsThere}
use Rattle.vdr_opening.proofs.ContentsHeld.{one_front, table_once}
use Rattle.vdr_opening.proofs.PartsHeld.{are_legal, one_config, one_long_term, one_placed_known}
use Rattle.vdr_opening.proofs.SameEnds.{EndsAlike, same_end, same_off}

-- The slots of a configuration are refused at this offset.
abbrev RefusesSlots : Configuration → List ℕ → ℕ → Type 0
RefusesSlots c bytes offset = Refuses c.segment (slot_count c.segment (length bytes)) bytes offset

-- One medium

module _ (m : ℕ) (before : Option (List ℕ)) (bytes : List ℕ) where
  -- Its slots are refused under the configuration that it holds, which is one.
  refused_under : {c : Configuration} {text : List ℕ} (offset : ℕ)
      → HasFront m c text bytes → RefusesSegments m before bytes offset → RefusesSlots c bytes offset
  refused_under {c} offset h r = subst (λ (d : Configuration). RefusesSlots d bytes offset) (one_front r.front h).0 r.refuses

  -- A medium that is legal is not refused.
  legal_medium : {c : Configuration} {text : List ℕ} {known : List Placed} (offset : ℕ)
      → IsMediumBy m c text known bytes → IsSameText before text → RefusesMedium m before bytes offset → ⊥
  legal_medium {c} offset h same (inl r) = r.broken c.segment h.front.superblock
  legal_medium {c} {text} offset h same (inr (inl r)) = r.broken c text h.front same
  legal_medium {c} {text} {known} offset h same (inr (inr r)) =
      never_refused c.segment (slot_count c.segment (length bytes)) bytes known offset h.segments.are h.segments.order (refused_under offset h.front r)

  segments_once : (a b : ℕ) → RefusesSegments m before bytes a → RefusesSegments m before bytes b → a ≡ b
  segments_once a b r s =
      one_refusal s.config.segment (slot_count s.config.segment (length bytes)) bytes a b (refused_under a s.front r) s.refuses

  -- It is refused at one offset.
  medium_once : (a b : ℕ) → RefusesMedium m before bytes a → RefusesMedium m before bytes b → a ≡ b
  medium_once a b (inl r) (inl s) = r.at ∙ sym s.at
  medium_once a b (inl r) (inr (inl s)) = absurd (r.broken s.segment s.superblock)
  medium_once a b (inl r) (inr (inr s)) = absurd (r.broken s.config.segment s.front.superblock)
  medium_once a b (inr (inl r)) (inl s) = absurd (s.broken r.segment r.superblock)
  medium_once a b (inr (inl r)) (inr (inl s)) = r.at ∙ sym s.at
  medium_once a b (inr (inl r)) (inr (inr s)) = absurd (r.broken s.config s.text s.front s.same)
  medium_once a b (inr (inr r)) (inl s) = absurd (s.broken r.config.segment r.front.superblock)
  medium_once a b (inr (inr r)) (inr (inl s)) = absurd (s.broken r.config r.text r.front r.same)
  medium_once a b (inr (inr r)) (inr (inr s)) = segments_once a b r s

-- One medium after the other

module _ (image : Image) where
  legal_from : (ks : List ℕ) (before : Option (List ℕ)) (c : Configuration) (text : List ℕ) (known : ℕ → List Placed) (m offset : ℕ)
      → All (λ k. IsMediumBy k c text (known k) (content image k)) ks → IsSameText before text → RefusesFrom before ks image m offset → ⊥
  legal_from [] before c text known m offset h same r = r
  legal_from (k ∷ ks) before c text known m offset h same (inl (e, r)) =
      legal_medium k before (content image k) offset (All-head (λ k. IsMediumBy k c text (known k) (content image k)) k ks h) same r
  legal_from (k ∷ ks) before c text known m offset h same (inr (t, l, more)) =
      let first = All-head (λ k. IsMediumBy k c text (known k) (content image k)) k ks h in
      let others = All-tail (λ k. IsMediumBy k c text (known k) (content image k)) k ks h in
      legal_from ks (Some t) c text known m offset others (one_front first.front l.legal.front).1 more

  pub from_once : (ks : List ℕ) (before : Option (List ℕ)) (m n a b : ℕ)
      → RefusesFrom before ks image m a → RefusesFrom before ks image n b → (m ≡ n) × (a ≡ b)
  from_once [] before m n a b r s = absurd r
  from_once (k ∷ ks) before m n a b (inl (e, r)) (inl (f, s)) = (e ∙ sym f, medium_once k before (content image k) a b r s)
  from_once (k ∷ ks) before m n a b (inl (e, r)) (inr (t, l, s)) = absurd (legal_medium k before (content image k) a l.legal l.same r)
  from_once (k ∷ ks) before m n a b (inr (t, l, r)) (inl (f, s)) = absurd (legal_medium k before (content image k) b l.legal l.same s)
  from_once (k ∷ ks) before m n a b (inr (t, l, r)) (inr (u, g, s)) =
      from_once ks (Some u) m n a b (subst (λ (text : List ℕ). RefusesFrom (Some text) ks image m a) (one_front l.legal.front g.legal.front).1 r) s

  -- Media that are legal are not refused before their incidents.
  pub media_legal : {c : Configuration} {text : List ℕ} {known : ℕ → List Placed} (m offset : ℕ)
      → AreLegal image c text known → RefusesFrom None (members_in image) image m offset → ⊥
  media_legal {c} {text} {known} m offset h r = legal_from (members_in image) None c text known m offset h.each tt r

-- Opening has one answer: each part is tested behind those that are legal, so that no two parts are the first that is not.

-- The incidents

-- The first slot of a table that fails a test stands at one index.
one_index : (P : Option Incident → Type 0) (b c : List (Option Incident)) (x y : Option Incident) (a d : List (Option Incident))
    → b ++ x ∷ a ≡ c ++ y ∷ d → All P b → All P c → (P x → ⊥) → (P y → ⊥) → length b ≡ length c
one_index P [] [] x y a d e hb hc nx ny = refl
one_index P [] (z ∷ c) x y a d e hb hc nx ny = let same : z ≡ x = cc in absurd (nx (subst P same (All-head P z c hc)))
one_index P (z ∷ b) [] x y a d e hb hc nx ny = let same : z ≡ y = cc in absurd (ny (subst P same (All-head P z b hb)))
one_index P (z ∷ b) (w ∷ c) x y a d e hb hc nx ny =
    let rest : b ++ x ∷ a ≡ c ++ y ∷ d = cc in
    let more : length b ≡ length c = one_index P b c x y a d rest (All-tail P z b hb) (All-tail P w c hc) nx ny in
    omega (arith, more)

module _ (image : Image) where
  -- The slots are refused under the configuration of media that are legal, which is one.
  slots_under : {c : Configuration} {text : List ℕ} {known : ℕ → List Placed} (m offset : ℕ)
      → AreLegal image c text known → RefusesIncidents image m offset → incidents.Refuses c.incident_slots (content image 1) offset
  slots_under m offset h r = subst (λ (d : Configuration). incidents.Refuses d.incident_slots (content image 1) offset) (one_config r.legal h) r.refuses

  slots_once : (m n a b : ℕ) → RefusesIncidents image m a → RefusesIncidents image n b → (m ≡ n) × (a ≡ b)
  slots_once m n a b r s = (r.on ∙ sym s.on, one_refused s.config.incident_slots a b (content image 1) (slots_under m a s.legal r) s.refuses)

  -- Where a table is held no slot is refused by its bytes.
  table_legal : {c : Configuration} {text : List ℕ} {known : ℕ → List Placed} (table : List (Option Incident)) (m offset : ℕ)
      → AreLegal image c text known → HoldsTable c.incident_slots table (content image 1) → RefusesIncidents image m offset → ⊥
  table_legal {c} table m offset h held r = table_not_refused c.incident_slots offset table (content image 1) held (slots_under m offset h r)

  places_once : (m n a b : ℕ) → RefusesPlaces image m a → RefusesPlaces image n b → (m ≡ n) × (a ≡ b)
  places_once m n a b r s = (r.on ∙ sym s.on, r.at ∙ ap place_of index ∙ sym s.at)
    where
      same : r.known 1 ≡ s.known 1
      same = one_long_term r.legal s.legal

      index : length r.before ≡ length s.before
      index =
          one_index (IsThere (s.known 1)) r.before s.before (Some r.here) (Some s.here) r.after s.after (table_once (one_config r.legal s.legal) r.table s.table)
          (subst (λ (ps : List Placed). AreThereBy r.before ps) same r.there) s.there
          (subst (λ (ps : List Placed). HoldAllBy r.here.a r.here.b ps → ⊥) same r.missing) s.missing

  -- Where all that is read is legal, the places of all saves are there.
  places_legal : (x : Contents) (m offset : ℕ) → HoldsParts image x → RefusesPlaces image m offset → ⊥
  places_legal x m offset h r = r.missing (subst (λ (ps : List Placed). HoldAllBy r.here.a r.here.b ps) (sym (one_long_term r.legal (are_legal h))) there)
    where
      all : AreThereBy (r.before ++ Some r.here ∷ r.after) (x.placed 1)
      all = subst (λ (slots : List (Option Incident)). AreThereBy slots (x.placed 1)) (sym (table_once (one_config r.legal (are_legal h)) r.table h.table)) h.there

      there : IsThere (x.placed 1) (Some r.here)
      there =
          All-contains (IsThere (x.placed 1)) (r.before ++ Some r.here ∷ r.after) (Some r.here) all
          (Contains-append_right r.before (Some r.here ∷ r.after) (Some r.here) (contains_here (Some r.here) r.after))

  -- The ends

  -- What is read of the image has one first medium whose end is off.
  one_end : (x y : Contents) (m : ℕ)
      → HoldsParts image x → HoldsParts image y → EndsOff (members_with x.further) (reading_of x) m → EndsOff (members_with y.further) (reading_of y) m
  one_end x y m h k off =
      same_off (reading_of x) (reading_of y) (members_with y.further) m
      (of_all (EndsAlike (reading_of x) (reading_of y)) y.further (λ j lt. same_end (ap batches_in (one_placed_known (are_legal h) (are_legal k) j (subst (λ (n : ℕ). j < 2 + n) k.further lt)))))
      (subst (λ (n : ℕ). EndsOff (members_with n) (reading_of x) m) (h.further ∙ sym k.further) off)

  ends_once : (m n a b : ℕ) → RefusesEnds image m a → RefusesEnds image n b → (m ≡ n) × (a ≡ b)
  ends_once m n a b r s = (one_off (members_with s.parts.further) (reading_of s.parts) m n (one_end r.parts s.parts m r.holds s.holds r.off) s.off, r.at ∙ sym s.at)

-- All parts

-- Media of which all that is read is legal and whose ends meet are not refused.
pub held_not_refused : (image : Image) (x : Contents) (m offset : ℕ) → HoldsParts image x → EndsMeet (members_with x.further) (reading_of x) → IsRefused image m offset → ⊥
held_not_refused image x m offset h meet (inl r) = media_legal image m offset (are_legal h) r
held_not_refused image x m offset h meet (inr (inl r)) = table_legal image x.table m offset (are_legal h) h.table r
held_not_refused image x m offset h meet (inr (inr (inl r))) = places_legal image x m offset h r
held_not_refused image x m offset h meet (inr (inr (inr r))) = none_off (members_with x.further) (reading_of x) m meet (one_end image r.parts x m r.holds h r.off)

-- A part is refused where those before it are legal.
module _ (image : Image) (m n a b : ℕ) where
  media_first : RefusesFrom None (members_in image) image m a → RefusesIncidents image n b ⊎ (RefusesPlaces image n b ⊎ RefusesEnds image n b) → ⊥
  media_first r (inl s) = media_legal image m a s.legal r
  media_first r (inr (inl s)) = media_legal image m a s.legal r
  media_first r (inr (inr s)) = media_legal image m a (are_legal s.holds) r

  slots_first : RefusesIncidents image m a → RefusesPlaces image n b ⊎ RefusesEnds image n b → ⊥
  slots_first r (inl s) = table_legal image (s.before ++ Some s.here ∷ s.after) m a s.legal s.table r
  slots_first r (inr s) = table_legal image s.parts.table m a (are_legal s.holds) s.holds.table r

  places_first : RefusesPlaces image m a → RefusesEnds image n b → ⊥
  places_first r s = places_legal image s.parts m a s.holds r

-- Those that are refused are refused at one offset of one medium.
pub one_answer : (image : Image) (m offset k other : ℕ) → IsRefused image m offset → IsRefused image k other → (m ≡ k) × (offset ≡ other)
one_answer image m a n b (inl r) (inl s) = from_once image (members_in image) None m n a b r s
one_answer image m a n b (inl r) (inr s) = absurd (media_first image m n a b r s)
one_answer image m a n b (inr r) (inl s) = absurd (media_first image n m b a s r)
one_answer image m a n b (inr (inl r)) (inr (inl s)) = slots_once image m n a b r s
one_answer image m a n b (inr (inl r)) (inr (inr s)) = absurd (slots_first image m n a b r s)
one_answer image m a n b (inr (inr r)) (inr (inl s)) = absurd (slots_first image n m b a s r)
one_answer image m a n b (inr (inr (inl r))) (inr (inr (inl s))) = places_once image m n a b r s
one_answer image m a n b (inr (inr (inl r))) (inr (inr (inr s))) = absurd (places_first image m n a b r s)
one_answer image m a n b (inr (inr (inr r))) (inr (inr (inl s))) = absurd (places_first image n m b a s r)
one_answer image m a n b (inr (inr (inr r))) (inr (inr (inr s))) = ends_once image m n a b r s

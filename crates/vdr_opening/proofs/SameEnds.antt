-- Whether ends meet, where they don't, and what some media lack depends on the last batch and the last record of each.
use Rattle.std.proofs.Common.{◌≡◌, ℕ, List, [], ◌∷◌, ◌++◌, Bool, All, Option, Some, None, inl, inr, sym, ◌∙◌, subst, arith, true, false, ap, append_assoc, refl, append-nil}
use Rattle.std.specs.Prelude.{if◌then◌else◌}
use Rattle.std.proofs.lemmas.List.Elements.{All-head, All-tail, All-cons, All-nil}
use Rattle.std.proofs.lemmas.Grind.{flat_map-append}
use Rattle.vdr_terms.specs.Records.{Record, last}
use Rattle.vdr_durability.specs.Layout.{Batches, segment_records}
use Rattle.vdr_durability.proofs.Lists.{last_behind}
use Rattle.vdr_durability.specs.Readings.{Reading, EndBy, EndsMeet, EndsOff, IsPassedOn, comes_next, ends_before, records_on, restored, with_next}
use Rattle.vdr_opening.specs.Media.{members_with}
use Rattle.vdr_opening.specs.Answers.{IsMissing}

-- Medium m ends alike in both readings.
pub record EndsAlike (r s : Reading) (m : ℕ) : Type 0 where
  pub batch : last (r.batches m) ≡ last (s.batches m)
  pub newest : last (records_on r m) ≡ last (records_on s m)

pub same_end : {r s : Reading} {m : ℕ} → r.batches m ≡ s.batches m → EndsAlike r s m
same_end same = record { batch = ap (λ (batches : Batches). last batches) same; newest = ap (λ (batches : Batches). last (segment_records batches)) same }

pub alike_back : (r s : Reading) (ms : List ℕ) → All (EndsAlike r s) ms → All (EndsAlike s r) ms
alike_back r s ms h k d lt = let at = h k d lt in record { batch = sym at.batch; newest = sym at.newest }

pub alike_join : (r s t : Reading) (ms : List ℕ) → All (EndsAlike r s) ms → All (EndsAlike s t) ms → All (EndsAlike r t) ms
alike_join r s t ms h g k d lt = let a = h k d lt in let b = g k d lt in record { batch = a.batch ∙ b.batch; newest = a.newest ∙ b.newest }

before_alike : (batch : Option (List Record)) (xs ys : Batches) → last (segment_records xs) ≡ last (segment_records ys) → ends_before batch xs ≡ ends_before batch ys
before_alike None xs ys same = refl
before_alike (Some batch) xs ys same = ap (λ (newest : Option Record). comes_next newest batch) same

all_front : (P : ℕ → Type 0) (xs ys : List ℕ) → All P (xs ++ ys) → All P xs
all_front P [] ys h = All-nil P
all_front P (x ∷ xs) ys h = All-cons P x xs (All-head P x (xs ++ ys) h) (all_front P xs ys (All-tail P x (xs ++ ys) h))

all_behind : (P : ℕ → Type 0) (xs ys : List ℕ) → All P (xs ++ ys) → All P ys
all_behind P [] ys h = h
all_behind P (x ∷ xs) ys h = all_behind P xs ys (All-tail P x (xs ++ ys) h)

module _ (r s : Reading) where
  same_lack : (batch : Option (List Record)) (ms : List ℕ) → All (EndsAlike r s) ms
      → All (λ k. ends_before batch (r.batches k) ≡ true) ms → All (λ k. ends_before batch (s.batches k) ≡ true) ms
  same_lack batch ms same all k d lt = sym (before_alike batch _ _ (same k d lt).newest) ∙ all k d lt

  same_given : (batch : Option (List Record)) (ms : List ℕ) → All (EndsAlike r s) ms
      → All (λ k. last (r.batches k) ≡ batch) ms → All (λ k. last (s.batches k) ≡ batch) ms
  same_given batch ms same all k d lt = sym (same k d lt).batch ∙ all k d lt

  ends_by : (batch : Option (List Record)) (ms : List ℕ) → All (EndsAlike r s) ms → EndBy r batch ms → EndBy s batch ms
  ends_by batch [] same h = tt
  ends_by batch (m ∷ ms) same (inl (e, more)) =
      let first = All-head (EndsAlike r s) m ms same in
      inl (sym first.batch ∙ e, ends_by batch ms (All-tail (EndsAlike r s) m ms same) more)
  ends_by batch (m ∷ ms) same (inr all) = inr (same_lack batch (m ∷ ms) same all)

  pub same_ends : (ms : List ℕ) → All (EndsAlike r s) ms → EndsMeet ms r → EndsMeet ms s
  same_ends [] same h = tt
  same_ends (m ∷ ms) same h =
      let first = All-head (EndsAlike r s) m ms same in
      subst (λ (batch : Option (List Record)). EndBy s batch (m ∷ ms)) first.batch (ends_by (last (r.batches m)) (m ∷ ms) same h)

pub same_off : (r s : Reading) (numbers : List ℕ) (m : ℕ) → All (EndsAlike r s) numbers → EndsOff numbers r m → EndsOff numbers s m
same_off r s numbers m same h = record {
  before = h.before;
  after = h.after;
  split = h.split;
  meet = same_ends r s h.before (all_front (EndsAlike r s) h.before (m ∷ h.after) along) h.meet;
  off = λ meet. h.off (same_ends s r (h.before ++ m ∷ []) (alike_back r s (h.before ++ m ∷ []) up_to) meet);
}
  where
    along : All (EndsAlike r s) (h.before ++ m ∷ h.after)
    along = subst (λ (ms : List ℕ). All (EndsAlike r s) ms) h.split same

    up_to : All (EndsAlike r s) (h.before ++ m ∷ [])
    up_to =
        all_front (EndsAlike r s) (h.before ++ m ∷ []) h.after
        (subst (λ (ms : List ℕ). All (EndsAlike r s) ms) (sym (append_assoc h.before (m ∷ []) h.after)) along)

-- What some media lack

same_passing : (r s : Reading) (numbers given waiting : List ℕ) (batch : List Record) → All (EndsAlike r s) numbers → IsPassedOn numbers given waiting batch r → IsPassedOn numbers given waiting batch s
same_passing r s numbers given waiting batch same h = record {
  split = h.split;
  some = h.some;
  given_end = same_given r s (Some batch) given (all_front (EndsAlike r s) given waiting along) h.given_end;
  waiting_end = same_lack r s (Some batch) waiting (all_behind (EndsAlike r s) given waiting along) h.waiting_end;
}
  where
    along : All (EndsAlike r s) (given ++ waiting)
    along = subst (λ (ms : List ℕ). All (EndsAlike r s) ms) h.split same

pub same_missing : (r s : Reading) (n : ℕ) (missing : List Record) (lacking : ℕ) → All (EndsAlike r s) (members_with n) → IsMissing (members_with n) missing lacking r → IsMissing (members_with n) missing lacking s
same_missing r s n missing lacking same (inl (none, level)) =
    inl (none, λ k d lt. sym (same k d lt).batch ∙ level k d lt ∙ (same 0 0 (omega arith)).batch)
same_missing r s n missing lacking same (inr passed) = inr (same_passing r s (members_with n) _ _ missing same passed)

-- The last record of a medium that leads, as opening restores it

last_pushed : (batches : Batches) (batch : List Record) → last (segment_records (batches ++ batch ∷ [])) ≡ last (segment_records batches ++ batch)
last_pushed batches batch = ap (λ (records : List Record). last records) (flat_map-append (λ batch. batch) batches (batch ∷ []) ∙ ap (λ (more : List Record). segment_records batches ++ more) (append-nil batch))

last_longer : (xs ys zs : List Record) → last xs ≡ last ys → last (xs ++ zs) ≡ last (ys ++ zs)
last_longer xs ys [] same = ap (λ (records : List Record). last records) (append-nil xs) ∙ same ∙ ap (λ (records : List Record). last records) (sym (append-nil ys))
last_longer xs ys (z ∷ zs) same = last_behind xs z zs ∙ sym (last_behind ys z zs)

with_next_alike : (batch : Option (List Record)) (xs ys : Batches) → last (segment_records xs) ≡ last (segment_records ys) → last (segment_records (with_next batch xs)) ≡ last (segment_records (with_next batch ys))
with_next_alike None xs ys same = same
with_next_alike (Some batch) xs ys same =
    subst (λ (before : Bool). last (segment_records (if before then xs ++ batch ∷ [] else xs)) ≡ last (segment_records (with_next (Some batch) ys))) (sym (before_alike (Some batch) xs ys same))
    (go (ends_before (Some batch) ys))
  where
    go : (before : Bool) → last (segment_records (if before then xs ++ batch ∷ [] else xs)) ≡ last (segment_records (if before then ys ++ batch ∷ [] else ys))
    go true = last_pushed xs batch ∙ last_longer (segment_records xs) (segment_records ys) batch same ∙ sym (last_pushed ys batch)
    go false = same

pub same_last : (r s : Reading) (n : ℕ) → EndsAlike r s 0 → last (records_on (restored (members_with n) r) 0) ≡ last (records_on (restored (members_with n) s) 0)
same_last r s n same =
    with_next_alike (last (r.batches 0)) (r.batches 0) (s.batches 0) same.newest
    ∙ ap (λ (batch : Option (List Record)). last (segment_records (with_next batch (s.batches 0)))) same.batch

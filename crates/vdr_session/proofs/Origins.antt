-- One event more, and in how many a call on the media failed.
use Rattle.std.proofs.Common.{◌≡◌, ◌++◌, ℕ, suc, Bool, true, false, List, [], ◌∷◌, length, cond, get_or, map, refl, ap, ◌∙◌}
use Rattle.std.proofs.lemmas.Bool.{cond-false, cond-true}
use Rattle.std.proofs.lemmas.List.{map-append}
use Rattle.vdr_session.specs.declared.mark.Mark.{Mark}
use Rattle.vdr_session.specs.Origins.{Origin, failures_in, origin_of, origins_of}

pub none_failed : failures_in [] ≡ 0
unfolding failures_in
none_failed = refl

also_one : (b : Bool) (n : ℕ) → cond b (suc (suc n)) (suc n) ≡ suc (cond b (suc n) n)
also_one true n = refl
also_one false n = refl

one_failed : (origins : List Origin) (o : Origin) → o.failed ≡ true → failures_in (origins ++ o ∷ []) ≡ suc (failures_in origins)
unfolding failures_in
one_failed [] o is = cond-true o.failed 1 0 is
one_failed (x ∷ origins) o is = ap (λ (n : ℕ). cond x.failed (suc n) n) (one_failed origins o is) ∙ also_one x.failed (failures_in origins)

none_more : (origins : List Origin) (o : Origin) → o.failed ≡ false → failures_in (origins ++ o ∷ []) ≡ failures_in origins
unfolding failures_in
none_more [] o is = cond-false o.failed 1 0 is
none_more (x ∷ origins) o is = ap (λ (n : ℕ). cond x.failed (suc n) n) (none_more origins o is)

-- of a further mark
pub failures_once : (marks : List Mark) (m : Mark) → (origin_of m).failed ≡ true → failures_in (origins_of (marks ++ m ∷ [])) ≡ suc (failures_in (origins_of marks))
failures_once marks m is = ap failures_in (map-append origin_of marks (m ∷ [])) ∙ one_failed (origins_of marks) (origin_of m) is

pub failures_same : (marks : List Mark) (m : Mark) → (origin_of m).failed ≡ false → failures_in (origins_of (marks ++ m ∷ [])) ≡ failures_in (origins_of marks)
failures_same marks m is = ap failures_in (map-append origin_of marks (m ∷ [])) ∙ none_more (origins_of marks) (origin_of m) is

-- where a mark stands
pub origin_behind : (first : List Mark) (own : Mark) (behind : List Mark) (d : Origin) → get_or (map origin_of (first ++ own ∷ behind)) (length first) d ≡ origin_of own
origin_behind [] own behind d = refl
origin_behind (m ∷ first) own behind d = origin_behind first own behind d

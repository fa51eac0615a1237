-- Media that are opened alone, and what is said of both.
use Rattle.std.proofs.Common.{◌≡◌, ◌≤◌, ℕ, Bool, max, List, length, Option, Result, Ok, Err, sym, ap, ◌∙◌, subst}
use Rattle.std.specs.Prelude.{sum}
use Rattle.vdr_terms.specs.Records.{Record}
use Rattle.vdr_config.specs.Configuration.{Configuration}
use Rattle.vdr_config.specs.Sizes.{window_of}
use Rattle.vdr_outside.specs.Causes.{NoneFalls}
use Rattle.vdr_outside.specs.Disk.{Image, content}
use Rattle.vdr_outside.specs.declared.fault.PartRefused.{PartRefused}
use Rattle.vdr_outside.specs.declared.fault.PartRefused.TheVariants as parts
use Rattle.vdr_outside.proofs.Counts.{none_falls_join, rose_after, sum_not_less, sum_rose}
use Rattle.vdr_directory.specs.Opening.{HasFaultCause}
use Rattle.vdr_media.specs.Medium.{HoldsText}
use Rattle.vdr_media.proofs.Rooms.{text_fits}
use Rattle.vdr_opening.specs.Media.{HoldsConfigText}
use Rattle.vdr_rescue.specs.Alones.{Rescue, Rescued}
use Rattle.vdr_compare.specs.declared.comparing.CompareRefused.{CompareRefused}
use Rattle.vdr_compare.specs.declared.comparing.CompareRefused.TheVariants as compares
use Rattle.vdr_compare.specs.declared.difference.Verdict.{Verdict}
use Rattle.vdr_compare.specs.declared.media.MediaRefused.{MediaRefused}
use Rattle.vdr_compare.specs.declared.media.MediaRefused.TheVariants.{Opening, Comparing}
use Rattle.vdr_compare.specs.Comparisons.{Compares, HasCompareCause, windows_of}
use Rattle.vdr_compare.specs.Media.{HasMediaCause, OfBoth}
use Rattle.vdr_compare.specs.Openings.{AreAlike, HasPartCause}
use Rattle.vdr_compare.specs.Sides.{Gives}
use Rattle.vdr_compare.specs.Standings.{standings}
use Rattle.vdr_compare.specs.Surveys.{IsSurveyOf, SurveyState, surveyed_condition, surveyed_windows}
use Rattle.vdr_compare.proofs.Going.{compares_as}

pub no_text : {P : Type 0} (c : Configuration) (bytes : List ℕ) → HoldsConfigText c bytes → ((text : List ℕ) → length text ≤ 16380 → HoldsText text bytes → ⊥) → P
no_text c bytes h none = absurd (none h.text (text_fits h.text c h.reads) h.holds)

ok_err : {T E : Type 0} (x : T) (e : E) → ◌≡◌ {A = Result T E} (Ok x) (Err e) → ⊥
ok_err x e same = cc

err_is : {T E : Type 0} (d e : E) → ◌≡◌ {A = Result T E} (Err d) (Err e) → d ≡ e
err_is d e same = cc

pub part_done : {T : Type 0} (before now : List ℕ) (x : T) → NoneFalls before now → HasPartCause before now (Ok x)
part_done before now x later = record { later = later; rose = λ e. absurd (ok_err x parts.Fault e) }

pub part_failed : {T U : Type 0} (m : ℕ) (before mid now : List ℕ) (r : Result U PartRefused) (e : PartRefused) (out : Result T PartRefused) (why : PartRefused) → r ≡ Err e → out ≡ Err why → why ≡ e
    → NoneFalls before mid → HasFaultCause m mid now r → HasPartCause before now out
part_failed {T} {U} m before mid now r e out why is ended same earlier cause = record {
  later = none_falls_join before mid now earlier cause.later;
  rose = λ fault.
      let here : e ≡ parts.Fault = sym same ∙ err_is why parts.Fault (sym ended ∙ fault) in
      rose_after (sum before) (sum mid) (sum now) (sum_not_less before mid earlier.same_media earlier.none_falls)
      (sum_rose mid now m cause.later.same_media cause.later.none_falls (cause.rose (is ∙ ap (λ (x : PartRefused). Err x) here)));
}

-- What is said of what both media give, by what was read of each.
pub of_both : (image : Image) (alike : Bool) (a b : SurveyState) (old new : Option (List ℕ)) (r : Result Verdict CompareRefused)
    → ((x y : Rescue) → Rescued 0 (content image 0) x → Rescued 1 (content image 1) y → IsSurveyOf 0 (content image 0) x a × IsSurveyOf 1 (content image 1) y b)
    → AreAlike (content image 0) (content image 1) alike
    → ((rs ss : List Record) → Gives (content image 0) a.cursor rs → Gives (content image 1) b.cursor ss
    → Compares (surveyed_condition alike a b) (surveyed_windows a b) (standings rs ss) old new r)
    → OfBoth image (λ k w places. Compares k w places old new r)
of_both image alike a b old new r surveyed are compared = (
  alike,
  are,
  λ x y h k.
      let s = surveyed x y h k in
      let first = s.0 in
      let second = s.1 in
      compares_as (surveyed_condition alike a b) (record { alike = alike; capsule = x.findings; longterm = y.findings }) (surveyed_windows a b)
      (windows_of (window_of x.config 0) (window_of y.config 1) x.given y.given) (standings x.given y.given) old new r
      (λ i. record { alike = alike; capsule = first.findings i; longterm = second.findings i })
      (λ i. record { capsule = first.seconds i; longterm = second.seconds i; last_second = max (first.last_second i) (second.last_second i) })
      (compared x.given y.given first.gives second.gives),
)

-- The media that were read have these numbers, and read as they did.
pub on_media : (image now : Image) (alike : Bool) (a b : SurveyState) (old new : Option (List ℕ)) (r : Result Verdict CompareRefused) → now ≡ image → a.cursor.area.medium ≡ 0 → b.cursor.area.medium ≡ 1
    → ((rs ss : List Record) → Gives (content now a.cursor.area.medium) a.cursor rs → Gives (content now b.cursor.area.medium) b.cursor ss
    → Compares (surveyed_condition alike a b) (surveyed_windows a b) (standings rs ss) old new r)
    → (rs ss : List Record) → Gives (content image 0) a.cursor rs → Gives (content image 1) b.cursor ss
    → Compares (surveyed_condition alike a b) (surveyed_windows a b) (standings rs ss) old new r
on_media image now alike a b old new r same zero one compared rs ss first second =
    compared rs ss
    (subst (λ (bytes : List ℕ). Gives bytes a.cursor rs) (λ i. content (sym same i) (sym zero i)) first)
    (subst (λ (bytes : List ℕ). Gives bytes b.cursor ss) (λ i. content (sym same i) (sym one i)) second)

comparing_is : {T : Type 0} (why e : CompareRefused) → ◌≡◌ {A = Result T MediaRefused} (Err (Comparing why)) (Err (Comparing e)) → why ≡ e
comparing_is why e same = cc

not_opening : {T : Type 0} (why : CompareRefused) (e : PartRefused) → ◌≡◌ {A = Result T MediaRefused} (Err (Comparing why)) (Err (Opening e)) → ⊥
not_opening why e same = cc

-- Why a comparison failed, behind both openings.
pub media_failed : {T U : Type 0} (before mid now : List ℕ) (a b : ℕ) (r : Result U CompareRefused) (why : CompareRefused) → r ≡ Err why → NoneFalls before mid → HasCompareCause mid now a b r
    → HasMediaCause {T = T} before now a b (Err (Comparing why))
media_failed {T} {U} before mid now a b r why is earlier cause = record {
  later = none_falls_join before mid now earlier cause.later;
  opening = λ e. absurd (not_opening why parts.Fault e);
  fault = λ e. rose_after (sum before) (sum mid) (sum now) (sum_not_less before mid earlier.same_media earlier.none_falls)
      (cause.fault (is ∙ ap (λ (x : CompareRefused). Err x) (comparing_is why compares.Fault e)));
  written = cause.written;
  output = λ e. cause.output (is ∙ ap (λ (x : CompareRefused). Err x) (comparing_is why compares.Output e));
}

-- What holds at every moment of one call after another.
use Rattle.std.proofs.Common.{◌≡◌, ◌⊎◌, inl, inr, ℕ, List, [], ◌∷◌, ◌++◌, Result, ⊎_elim, refl, ap, ◌∙◌, subst, append_assoc, arith}
use Rattle.vdr_core.specs.Histories.{Event, Opening}
use Rattle.vdr_durability.specs.Keeping.{ShowsPrefix}
use Rattle.vdr_outside.specs.Disk.{Disk, Image}
use Rattle.vdr_outside.specs.Moments.{AtEachMoment}
use Rattle.vdr_outside.proofs.Moments.{in_calls, moments_join, moments_none, moments_weaken, now_after}
use Rattle.vdr_opening.specs.declared.refused.OpenRefused.{OpenRefused}
use Rattle.vdr_vault.specs.Openings.{GoesOnSynced, OpensAtEachMoment}
use Rattle.vdr_vault.specs.Vaults.{ShowsHistory}
use Rattle.vdr_recorder.specs.Recordings.{Passes}

prefix_more : (shows : List Event → Image → Type 0) (events more : List Event) (image : Image) → ShowsPrefix shows events 0 image → ShowsPrefix shows (events ++ more) 0 image
prefix_more shows events more image p = record {
  first = p.first;
  rest = p.rest ++ more;
  split = ap (λ (es : List Event). es ++ more) p.split ∙ append_assoc p.first p.rest more;
  enough = p.enough;
  shown = p.shown;
}

module _ {tells tells_images : Type 0} (opening : Opening) where
  pub passes_first : (events : List Event) (disk : Disk tells tells_images) → Passes opening events disk disk
  passes_first events disk = moments_none disk (λ image. disk.now image ⊎ ShowsPrefix (ShowsHistory opening) events 0 image) (λ image now. inl now)

  pub passes_join : (events more : List Event) (old mid new : Disk tells tells_images) → Passes opening events old mid
      → Passes opening (events ++ more) mid new → Passes opening (events ++ more) old new
  passes_join events more old mid new first then =
      moments_join old mid new Now so_far
      (moments_weaken mid new (λ image. mid.now image ⊎ ShowsPrefix (ShowsHistory opening) (events ++ more) 0 image) Now then
      (λ image p. ⊎_elim (now_after old mid Now so_far image) (λ shown. inr shown) p))
    where
      Now : Image → Type 0
      Now image = old.now image ⊎ ShowsPrefix (ShowsHistory opening) (events ++ more) 0 image

      so_far : AtEachMoment old mid Now
      so_far = moments_weaken old mid (λ image. old.now image ⊎ ShowsPrefix (ShowsHistory opening) events 0 image) Now first
          (λ image p. ⊎_elim (λ now. inl now) (λ shown. inr (prefix_more (ShowsHistory opening) events more image shown)) p)

  -- What was left by some moment of calls that are no event was left before them, or shows none.
  pub none_seen : (old mid : Disk tells tells_images) (t : ℕ) (image : Image) → Passes opening [] old mid → mid.until t image → old.until old.clock image ⊎ ShowsHistory opening [] image
  none_seen old mid t image passes left = ⊎_elim (λ was. inl was)
      (λ p. ⊎_elim (λ now. inl (old.counts_until old.clock image (omega arith) now))
      (λ (k : ShowsPrefix (ShowsHistory opening) [] 0 image). inr (subst (λ (es : List Event). ShowsHistory opening es image) (none_first k.first k.rest k.split) k.shown)) p)
      (in_calls old mid (λ image. old.now image ⊎ ShowsPrefix (ShowsHistory opening) [] 0 image) passes t image left)
    where
      none_first : (first rest : List Event) → [] ≡ first ++ rest → first ≡ []
      none_first [] rest split = refl
      none_first (e ∷ first) rest split = let none : ⊥ = cc in absurd none

  -- What opening leaves, whatever it answers.
  pub passes_synced : (old new : Disk tells tells_images) → GoesOnSynced old new (ShowsHistory opening []) → Passes opening [] old new
  passes_synced old new goes = moments_weaken old new (λ image. old.now image ⊎ ShowsHistory opening [] image)
      (λ image. old.now image ⊎ ShowsPrefix (ShowsHistory opening) [] 0 image) goes.moments
      (λ image p. ⊎_elim (λ now. inl now) (λ shown. inr (record { first = []; rest = []; split = refl; enough = omega arith; shown = shown })) p)

  pub passes_opened : {T : Type 0} (old new : Disk tells tells_images) (result : Result T OpenRefused)
      → OpensAtEachMoment old new result (ShowsHistory opening []) → Passes opening [] old new
  passes_opened old new result (inl ends) =
      moments_weaken old new (λ image. old.now image) (λ image. old.now image ⊎ ShowsPrefix (ShowsHistory opening) [] 0 image) ends.moments (λ image now. inl now)
  passes_opened old new result (inr goes) = passes_synced old new goes

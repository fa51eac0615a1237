-- The marks of a session: what each turn at the latch did.
use Rattle.std.specs.Prelude.{◌≡◌, ◌++◌, ℕ, Bool, true, false, List, [], ◌∷◌, flat_map, All, ◌&&◌, is_some, not, None, ◌⊎◌}
use Rattle.std.specs.List.{list_any}
use Rattle.vdr_terms.specs.Rates.{Limit}
use Rattle.vdr_core.specs.Taken.{Captured, of_group}
use Rattle.vdr_intake.specs.Items.{IsRun}
use Rattle.vdr_run.specs.Sizes.{FitAfter}
use Rattle.vdr_session.specs.declared.mark.Did.{Did}
use Rattle.vdr_session.specs.declared.mark.Did.TheVariants.{Begin, Take, Save, Release, Look, Miss}
use Rattle.vdr_session.specs.declared.mark.Mark.{Mark}
use Rattle.vdr_session.specs.declared.records.Began.{Began}
use Rattle.vdr_session.specs.declared.records.Began.TheVariants.{Begun, Place, Tick, Fault}

-- The items that a turn took.
abbrev pub taken_by : Did → List Captured
taken_by Begin = []
taken_by (Take items) = items
taken_by (Save label) = []
taken_by (Release id) = []
taken_by Look = []
taken_by Miss = []

abbrev pub taken_in : List Mark → List Captured
taken_in marks = flat_map (λ m. taken_by m.did) marks

-- Only the recorder's loop begins the run and takes items.
abbrev pub leads : Did → Bool
leads Begin = true
leads (Take items) = true
leads (Save label) = false
leads (Release id) = false
leads Look = false
leads Miss = false

abbrev pub is_leading : Mark → Bool
is_leading m = leads m.did

abbrev pub begins : Did → Bool
begins Begin = true
begins (Take items) = false
begins (Save label) = false
begins (Release id) = false
begins Look = false
begins Miss = false

-- The run was begun, and its Start stands on the media.
abbrev pub is_begun : List Mark → Bool
is_begun marks = list_any (λ m. begins m.did && is_some m.moment) marks

-- A call met a fault, or came after one: from then on no turn has a moment.
abbrev pub has_fault : List Mark → Bool
has_fault marks = list_any (λ m. not (is_some m.moment)) marks

-- A call on the media failed in a turn that changed nothing.
abbrev pub misses : Did → Bool
misses Begin = false
misses (Take items) = false
misses (Save label) = false
misses (Release id) = false
misses Look = false
misses Miss = true

-- Further items may be taken in a run by these limits in which these were: whose records fit a batch of so many bytes, of configured groups,
-- each behind those of its group.
pub record MayTake (room : ℕ) (limits : ℕ → Limit) (configured : ℕ → Bool) (popped items : List Captured) : Type 0 where
  pub short : FitAfter limits popped items room
  pub known : All (λ c. configured c.group ≡ true) (popped ++ items)
  pub runs : (g : ℕ) → IsRun g [] (of_group g (popped ++ items))

-- The mark of a batch of these items: where the media still work it took them all. Else it took them, or nothing, and has no moment.
pub record IsMarkOf (items : List Captured) (works : Bool) (mark : Mark) : Type 0 where
  pub lost : List Captured
  pub split : items ≡ taken_by mark.did ++ lost
  pub whole : works ≡ true → lost ≡ []
  pub told : works ≡ is_some mark.moment

-- The mark of a start: it took nothing, the run was begun exactly where that was answered, a refused one is no start at all, and a fault
-- has no moment.
pub record IsStartOf (began : Began) (mark : Mark) : Type 0 where
  pub takes : taken_by mark.did ≡ []
  pub begun : began ≡ Begun → is_begun (mark ∷ []) ≡ true
  pub refused : (began ≡ Begun → ⊥) → is_begun (mark ∷ []) ≡ false
  pub idle : (began ≡ Place) ⊎ (began ≡ Tick) → (begins mark.did ≡ false) × (is_some mark.moment ≡ true)
  pub fails : began ≡ Fault → mark.moment ≡ None

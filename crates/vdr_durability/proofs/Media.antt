-- What a recorder commits is a batch that may come next on its media.
use mathlib.Core.List.{Sublist, sublist-append_left, sublist-append_right}
use mathlib.Core.List.Sublist
use Rattle.std.proofs.Common.{ℕ, ◌*◌, ◌/◌, ◌<◌, ◌≤◌, List, [], ◌∷◌, ◌++◌, length, map, flat_map, sum_by, All, true≢false, Option, Some, None, ◌≡◌, ◌⊎◌, inl, inr, ⊎_elim, refl, sym, ap, ◌∙◌, subst, arith, append-nil, append_assoc}
use Rattle.std.proofs.lemmas.Grind.{flat_map-append}
use Rattle.std.proofs.lemmas.List.{map-append}
use Rattle.std.proofs.lemmas.List.Elements.{All-nil}
use Rattle.std.proofs.lemmas.List.Sums.{sum_by-append}
use Rattle.vdr_terms.specs.Records.{Record, last, last_after}
use Rattle.vdr_terms.specs.Sizes.{records_size}
use Rattle.vdr_terms.specs.Order.{AreInOrder, NeverFalls}
use Rattle.vdr_terms.specs.Needs.{Sizes, cost}
use Rattle.vdr_terms.specs.Rates.{Limit}
use Rattle.vdr_core.specs.Runs.{RunStart, Stamp, last_tick}
use Rattle.vdr_core.specs.Taken.{Captured}
use Rattle.vdr_core.specs.Histories.{Act, Continues, records_of_act, stamp_of}
use Rattle.vdr_core.specs.Histories.Act.{Commit, Save, Release, Look}
use Rattle.vdr_core.specs.RunStates.{RunState, after_act, between_runs, state_along, BeginsWith, IsMadeIn, AreMadeFrom}
use Rattle.vdr_core.proofs.MadeHistory.{made_runs_on}
use Rattle.vdr_durability.specs.Layout.{Batches, batch_size_at, records_in, segment_records, batches_in}
use Rattle.vdr_durability.specs.Regular.{FollowOn, IsPaced}
use Rattle.vdr_durability.proofs.Lists.{all_from, records_of_batches}
use Rattle.vdr_durability.proofs.Ordered.{no_later}
use Rattle.vdr_durability.specs.Commits.{TakesItems, ClosesRun, IsDoneIn, AreDoneFrom, closing_size}
use Rattle.vdr_durability.specs.Media.{AreLimitsOf, EndsBefore, IsAppended, IsMediumOf, IsOpened, state_after}
use Rattle.vdr_durability.proofs.Follow.{follow_last}
use Rattle.vdr_durability.proofs.ItemSizes.{closes_size}
use Rattle.vdr_durability.proofs.Parts.{part_has_less, same_last, sum_of_all}
use Rattle.vdr_durability.proofs.Seconds.{IsNoLater, Kept, all_paced}

one_made : (limits : ℕ → Limit) (batch : ℕ) (s : RunState) (act : Act) → IsDoneIn limits batch s act → IsMadeIn s act
one_made limits batch s (Commit records taken) h =
    ⊎_elim
    (λ (t : TakesItems limits batch s records taken). inl t.made)
    (λ (o : BeginsWith s records taken ⊎ ClosesRun limits s records taken). inr (⊎_elim (λ (b : BeginsWith s records taken). inl b) (λ (c : ClosesRun limits s records taken). inr c.made) o))
    h
one_made limits batch s (Save id label a b) h = tt
one_made limits batch s (Release id) h = tt
one_made limits batch s Look h = tt

-- What is done is what a recorder makes.
pub all_made : (limits : ℕ → Limit) (batch : ℕ) (s : RunState) (acts : List Act) → AreDoneFrom limits batch s acts → AreMadeFrom s acts
all_made limits batch s [] h = tt
all_made limits batch s (act ∷ acts) h = (one_made limits batch s act h.0, all_made limits batch (after_act s act) acts h.1)

done_push : (limits : ℕ → Limit) (batch : ℕ) (s : RunState) (acts : List Act) (act : Act) → AreDoneFrom limits batch s acts → IsDoneIn limits batch (state_along s acts) act
    → AreDoneFrom limits batch s (acts ++ act ∷ [])
done_push limits batch s [] act h k = (k, tt)
done_push limits batch s (x ∷ acts) act h k = (h.0, done_push limits batch (after_act s x) acts act h.1 k)

-- each record of a medium is no later than the recorder's last stamp
opened_late : (start : RunStart) (rs : List Record) → AreInOrder rs → EndsBefore start (last rs) → All (IsNoLater start.last) rs
opened_late start [] order ends = All-nil (IsNoLater start.last)
opened_late start (x ∷ xs) order ends = subst (λ (o : Option Stamp). All (IsNoLater o) (x ∷ xs)) (sym ends.1)
    (all_from (IsNoLater (stamp_of (Some (last_after x xs)) None)) (x ∷ xs) (λ r m. (no_later x xs r order m).1))

-- No second has more bytes than its cost.
pub seconds_paced : (sizes : Sizes) (start : RunStart) (opened : List Batches) (acts : List Act) → AreLimitsOf sizes start.limits → IsOpened (cost sizes) start opened
    → AreDoneFrom start.limits sizes.batch (between_runs start) acts → (s : ℕ) → sum_by (batch_size_at s) (batches_in opened ++ map records_of_act acts) ≤ cost sizes
seconds_paced sizes start opened acts of was done s =
    let falls = (made_runs_on start acts (all_made start.limits sizes.batch (between_runs start) acts done)).1 in
    let kept : Kept sizes start.limits of (batches_in opened) (between_runs start) = record {
      same = refl;
      fit = λ opened. absurd (true≢false (sym opened));
      late = subst (λ (rs : List Record). All (IsNoLater start.last) rs) (sym (records_of_batches opened)) (opened_late start (records_in opened) was.order was.ends);
      paced = λ at. let a = sum_of_all at opened in let b = was.paced at in omega (arith, a, b);
      paid = λ opened. absurd (true≢false (sym opened));
    } in
    let a = all_paced sizes start.limits of (batches_in opened) (between_runs start) acts kept done falls s in
    let b = sum_by-append (batch_size_at s) (batches_in opened) (map records_of_act acts) in
    omega (arith, a, b)

is_short : (limits : ℕ → Limit) (batch : ℕ) (s : RunState) (records : List Record) (taken : List Captured) → closing_size ≤ batch → IsDoneIn limits batch s (Commit records taken) → records_size records ≤ batch
is_short limits batch s records taken roomy done =
    ⊎_elim
    (λ (t : TakesItems limits batch s records taken). t.short)
    (λ (o : BeginsWith s records taken ⊎ ClosesRun limits s records taken). ⊎_elim
    (λ (b : BeginsWith s records taken). let a = ap records_size b.made in omega (arith, a, roomy))
    (λ (c : ClosesRun limits s records taken). let a = ap records_size c.made.made in let b = closes_size s.start s.popped c.made.rest in omega (arith, a, b, roomy))
    o)
    done

module _ (sizes : Sizes) (start : RunStart) (opened : List Batches) (acts : List Act) where
  more_records : (act : Act) → flat_map records_of_act (acts ++ act ∷ []) ≡ flat_map records_of_act acts ++ records_of_act act
  more_records act = flat_map-append records_of_act acts (act ∷ []) ∙ ap (λ (rs : List Record). flat_map records_of_act acts ++ rs) (append-nil (records_of_act act))

  more_batches : (act : Act) → batches_in opened ++ map records_of_act (acts ++ act ∷ []) ≡ (batches_in opened ++ map records_of_act acts) ++ records_of_act act ∷ []
  more_batches act = ap (λ (bs : Batches). batches_in opened ++ bs) (map-append records_of_act acts (act ∷ [])) ∙ sym (append_assoc (batches_in opened) (map records_of_act acts) (records_of_act act ∷ []))

  pub is_paced : (segments : List Batches) (records : List Record) (taken : List Captured) → IsMediumOf sizes start opened acts segments → closing_size ≤ sizes.batch
      → IsDoneIn start.limits sizes.batch (state_after start acts) (Commit records taken) → 0 < length records → IsPaced (cost sizes) sizes.batch segments records
  is_paced segments records taken h roomy done some =
      let all : AreDoneFrom start.limits sizes.batch (between_runs start) (acts ++ Commit records taken ∷ []) = done_push start.limits sizes.batch (between_runs start) acts (Commit records taken) h.done done in
      let run = made_runs_on start (acts ++ Commit records taken ∷ []) (all_made start.limits sizes.batch (between_runs start) (acts ++ Commit records taken ∷ []) all) in
      let more : flat_map records_of_act (acts ++ Commit records taken ∷ []) ≡ flat_map records_of_act acts ++ records = more_records (Commit records taken) in
      record {
        some = some;
        short = is_short start.limits sizes.batch (state_after start acts) records taken roomy done;
        order = subst (λ (o : Option Record). FollowOn o records) (sym h.newest)
            (follow_last start (records_in opened) (flat_map records_of_act acts) records h.was_opened.ends
            (subst (Continues start.channels start.place) more run.0) (subst (NeverFalls (last_tick start.last)) more run.1));
        paced = λ s.
            let a = seconds_paced sizes start opened (acts ++ Commit records taken ∷ []) h.limits h.was_opened all s in
            let b = ap (sum_by (batch_size_at s)) (more_batches (Commit records taken)) in
            let c = sum_by-append (batch_size_at s) (batches_in opened ++ map records_of_act acts) (records ∷ []) in
            let d = part_has_less (batch_size_at s) (batches_in segments) (batches_in opened ++ map records_of_act acts) h.some in
            let e = sum_of_all s segments in
            omega (arith, a, b, c, d, e);
      }

  -- once a batch was appended
  pub appended : (before after : List Batches) (records : List Record) (taken : List Captured) → IsMediumOf sizes start opened acts before
      → IsDoneIn start.limits sizes.batch (state_after start acts) (Commit records taken) → 0 < length records → IsAppended before records after
      → IsMediumOf sizes start opened (acts ++ Commit records taken ∷ []) after
  appended before after records taken h done some k = record {
    limits = h.limits;
    was_opened = h.was_opened;
    done = done_push start.limits sizes.batch (between_runs start) acts (Commit records taken) h.done done;
    some = subst (λ (x : Batches × Batches). Sublist x.0 x.1) (λ i. (sym k.order i, sym (more_batches (Commit records taken)) i))
        (Sublist.append (Sublist.trans k.some h.some) (Sublist.refl (records ∷ [])));
    newest = ap last (sym (records_of_batches after) ∙ (ap segment_records k.order ∙ (flat_map-append (λ (b : List Record). b) k.kept (records ∷ []) ∙ ap (λ (rs : List Record). segment_records k.kept ++ rs) (append-nil records))))
        ∙ (same_last (segment_records k.kept) (records_in opened ++ flat_map records_of_act acts) records some
        ∙ ap last (append_assoc (records_in opened) (flat_map records_of_act acts) records ∙ ap (λ (rs : List Record). records_in opened ++ rs) (sym (more_records (Commit records taken)))));
  }

  -- and after an act that records nothing
  pub silent : (segments : List Batches) (act : Act) → IsMediumOf sizes start opened acts segments → IsDoneIn start.limits sizes.batch (state_after start acts) act → records_of_act act ≡ []
      → IsMediumOf sizes start opened (acts ++ act ∷ []) segments
  silent segments act h done none = record {
    limits = h.limits;
    was_opened = h.was_opened;
    done = done_push start.limits sizes.batch (between_runs start) acts act h.done done;
    some = subst (Sublist (batches_in segments)) (sym (more_batches act)) (Sublist.trans h.some (sublist-append_left (batches_in opened ++ map records_of_act acts) (records_of_act act ∷ [])));
    newest = h.newest ∙ ap last (ap (λ (rs : List Record). records_in opened ++ rs) (sym (more_records act ∙ (ap (λ (rs : List Record). flat_map records_of_act acts ++ rs) none ∙ append-nil (flat_map records_of_act acts)))));
  }

pub at_opening : (sizes : Sizes) (start : RunStart) (opened : List Batches) → AreLimitsOf sizes start.limits → IsOpened (cost sizes) start opened → IsMediumOf sizes start opened [] opened
at_opening sizes start opened of was = record {
  limits = of;
  was_opened = was;
  done = tt;
  some = subst (Sublist (batches_in opened)) (sym (append-nil (batches_in opened))) (Sublist.refl (batches_in opened));
  newest = ap last (sym (append-nil (records_in opened)));
}

all_batches : (xs ys : List Batches) → batches_in (xs ++ ys) ≡ batches_in xs ++ batches_in ys
all_batches xs ys = flat_map-append (λ (s : Batches). s) xs ys

-- The three ways of an append.
pub fits : (older : List Batches) (newest : Batches) (batch : List Record) → IsAppended (older ++ newest ∷ []) batch (older ++ (newest ++ batch ∷ []) ∷ [])
fits older newest batch = record {
  kept = batches_in older ++ newest;
  some = subst (Sublist (batches_in older ++ newest)) (sym (all_batches older (newest ∷ []) ∙ ap (λ (bs : Batches). batches_in older ++ bs) (append-nil newest))) (Sublist.refl (batches_in older ++ newest));
  order = all_batches older ((newest ++ batch ∷ []) ∷ [])
      ∙ (ap (λ (bs : Batches). batches_in older ++ bs) (append-nil (newest ++ batch ∷ [])) ∙ sym (append_assoc (batches_in older) newest (batch ∷ [])));
}

pub begun_for : (segments : List Batches) (batch : List Record) → IsAppended segments batch (segments ++ (batch ∷ []) ∷ [])
begun_for segments batch = record { kept = batches_in segments; some = Sublist.refl (batches_in segments); order = all_batches segments ((batch ∷ []) ∷ []) }

pub replaced : (before : List Batches) (victim : Batches) (after : List Batches) (batch : List Record) → IsAppended (before ++ victim ∷ after) batch ((before ++ after) ++ (batch ∷ []) ∷ [])
replaced before victim after batch = record {
  kept = batches_in (before ++ after);
  some = subst (λ (x : Batches × Batches). Sublist x.0 x.1) (λ i. (sym (all_batches before after) i, sym (all_batches before (victim ∷ after)) i))
      (Sublist.append (Sublist.refl (batches_in before)) (sublist-append_right victim (batches_in after)));
  order = all_batches (before ++ after) ((batch ∷ []) ∷ []);
}

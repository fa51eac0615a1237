-- The full counts of a closed run.
use Rattle.std.proofs.Common.{◌≡◌, ◌≤◌, ◌+◌, ℕ, List, [], ◌∷◌, ◌++◌, length, filter, Bool, true, cond, ◌&&◌, ◌==◌, refl, sym, ap, ◌∙◌, subst, ⊎_elim, append_assoc}
use Rattle.std.proofs.lemmas.Bool.{cases_eq, eq-eqb, ne_eqb, cond-true, cond-false, and_parts}
use Rattle.std.proofs.lemmas.List.Elements.{filter-append}
use Rattle.vdr_terms.specs.declared.counts.Counts.{Counts}
use Rattle.vdr_terms.specs.Records.{Content, Record, Item, is_datagram, datagrams_of}
use Rattle.vdr_core.specs.Runs.{RunStart}
use Rattle.vdr_core.specs.Taken.{Captured, AllFeed, of_group}
use Rattle.vdr_core.specs.Recorder.{recorder_after, stop_of, closed_run}
use Rattle.vdr_core.specs.Sums.{Sums, missed_before}
use Rattle.vdr_core.specs.Shapes.{AreTaken, IsOpenRun}
use Rattle.vdr_core.specs.FullCounts.{AreFullSteps, AreSomeOf, FullCounts}
use Rattle.vdr_core.proofs.Meter.{filter_twice}
use Rattle.vdr_core.proofs.Sums.{run_datagrams}
use Rattle.vdr_core.proofs.RunSums.{closed_sums}
use Rattle.vdr_core.proofs.Shapes.{made_open}

some_taken : (start : RunStart) (before items : List Captured) (rs : List Record) → AreTaken start before items rs → AreSomeOf items rs
some_taken start before items [] h = tt
some_taken start before items (r ∷ rs) (refused, rest, c, split, is, tick, more) =
    (refused, rest, c, split, is, some_taken start (before ++ (refused ++ c ∷ [])) rest rs more)

some_later : (xs ys : List Captured) (rs : List Record) → AreSomeOf ys rs → AreSomeOf (xs ++ ys) rs
some_later xs ys [] h = tt
some_later xs ys (r ∷ rs) (refused, rest, c, split, is, more) =
    (xs ++ refused, rest, c, ap (λ (cs : List Captured). xs ++ cs) split ∙ sym (append_assoc xs refused (c ∷ rest)), is, more)

some_of_group : (g : ℕ) (items : List Captured) (rs : List Record) → AreSomeOf items rs → AreSomeOf (of_group g items) (datagrams_of g rs)
some_of_group g items [] h = tt
some_of_group g items (r ∷ rs) (refused, rest, c, split, is, more) =
    let later : AreSomeOf (of_group g rest) (datagrams_of g rs) = some_of_group g rest rs more in
    let order : of_group g items ≡ of_group g refused ++ of_group g (c ∷ rest) = ap (of_group g) split ∙ filter-append (λ (c : Captured). c.group == g) refused (c ∷ rest) in
    let content : is_datagram r.content ≡ true = ap is_datagram is.content in
    ⊎_elim
    (λ (e : r.group ≡ g). subst (AreSomeOf (of_group g items)) (sym (ap (λ (b : Bool). cond (b && r.group == g) (r ∷ datagrams_of g rs) (datagrams_of g rs)) content
    ∙ cond-true (r.group == g) (r ∷ datagrams_of g rs) (datagrams_of g rs) (eq-eqb r.group g e))) (
      of_group g refused,
      of_group g rest,
      c,
      order ∙ ap (λ (cs : List Captured). of_group g refused ++ cs) (cond-true (c.group == g) (c ∷ of_group g rest) (of_group g rest) (eq-eqb c.group g (sym is.group ∙ e))),
      is,
      later,
    ))
    (λ (ne : r.group ≡ g → ⊥). subst (AreSomeOf (of_group g items)) (sym (ap (λ (b : Bool). cond (b && r.group == g) (r ∷ datagrams_of g rs) (datagrams_of g rs)) content
    ∙ cond-false (r.group == g) (r ∷ datagrams_of g rs) (datagrams_of g rs) (ne_eqb r.group g ne)))
    (subst (λ (cs : List Captured). AreSomeOf cs (datagrams_of g rs))
    (sym (order ∙ ap (λ (cs : List Captured). of_group g refused ++ cs) (cond-false (c.group == g) (c ∷ of_group g rest) (of_group g rest) (ne_eqb c.group g (λ e. ne (is.group ∙ e))))))
    (some_later (of_group g refused) (of_group g rest) (datagrams_of g rs) later)))
    (cases_eq r.group g)

-- the Datagrams of a group, of an open run
open_some : (start : RunStart) (items : List Captured) (made : List Record) (g : ℕ) → IsOpenRun start items made → AreSomeOf (of_group g items) (datagrams_of g made)
open_some start items made g h =
    subst (AreSomeOf (of_group g items))
    (filter_twice (λ (r : Record). is_datagram r.content && r.group == g) (λ (r : Record). is_datagram r.content) (λ r e. (and_parts (is_datagram r.content) (r.group == g) e).0) h.body
    ∙ sym (ap (datagrams_of g) h.order ∙ ap (λ (c : Content). cond (is_datagram c && h.first.group == g) (h.first ∷ datagrams_of g h.body) (datagrams_of g h.body)) h.is_start.content))
    (some_of_group g items (filter (λ (r : Record). is_datagram r.content) h.body)
    (some_taken start [] items (filter (λ (r : Record). is_datagram r.content) h.body) h.are_taken))

counts_full : (capacity full_steps g : ℕ) (start : RunStart) (items : List Captured) (rest : ℕ → Counts) (given : ℕ → List Item) (run : List Record) → AllFeed items rest given
    → AreFullSteps capacity full_steps (of_group g items) (rest g)
    → Sums g (given g) (length (of_group g items)) ((missed_before (of_group g items)).full + (rest g).full) run
    → AreSomeOf (of_group g items) (datagrams_of g run)
    → FullCounts capacity full_steps g (of_group g items) (rest g) (given g) run
counts_full capacity full_steps g start items rest given run feed steps sums some = record {
  full = sums.full ∙ steps.counted;
  feeds = feed.lanes g;
  passed = sums.passed;
  recorded = some;
  held = λ l. subst (λ (n : ℕ). capacity ≤ n) sums.passed (steps.held l);
}

pub closed_counts : (start : RunStart) (items : List Captured) (rest : ℕ → Counts) (given : ℕ → List Item) → AllFeed items rest given → (g capacity full_steps : ℕ)
    → AreFullSteps capacity full_steps (of_group g items) (rest g) → FullCounts capacity full_steps g (of_group g items) (rest g) (given g) (closed_run start items rest)
closed_counts start items rest given feed g capacity full_steps steps =
    counts_full capacity full_steps g start items rest given (closed_run start items rest) feed steps (closed_sums start items rest given feed g)
    (subst (AreSomeOf (of_group g items)) (sym (run_datagrams start (recorder_after start items) rest 16 g (stop_of start (recorder_after start items) rest) refl))
    (open_some start items (recorder_after start items).made g (made_open start items)))

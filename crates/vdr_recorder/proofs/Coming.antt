-- What a save that came after these events keeps.
use Rattle.std.proofs.Common.{◌≡◌, ℕ, List, [], ◌∷◌, ◌++◌, Option, Some, None, sym, ap, subst, append-nil, append_assoc}
use Rattle.std.specs.Prelude.{option_map, slice_get}
use Rattle.vdr_terms.specs.Records.{Record, last}
use Rattle.vdr_terms.specs.Windows.{window}
use Rattle.vdr_core.specs.Histories.{Act, Event, MayCome, MayFollow, Opening, all_records}
use Rattle.vdr_durability.specs.Replies.{free_id, place_or_0, save_of}
use Rattle.vdr_recorder.specs.Watched.{id_or_0}

pub same_some : {A : Type 0} (a b : A) → Some a ≡ Some b → a ≡ b
same_some a b e = cc

come_behind : (opening : Opening) (before events : List Event) (e : Event) → MayFollow opening before (events ++ e ∷ []) → MayCome opening (before ++ events) e.act
come_behind opening before [] e h = subst (λ (es : List Event). MayCome opening es e.act) (sym (append-nil before)) h.0
come_behind opening before (x ∷ xs) e h = subst (λ (es : List Event). MayCome opening es e.act) (append_assoc before (x ∷ []) xs) (come_behind opening (before ++ x ∷ []) xs e h.1)

-- the last event of a history comes after those before it
pub come_last : (opening : Opening) (events : List Event) (e : Event) → MayFollow opening [] (events ++ e ∷ []) → MayCome opening events e.act
come_last opening events e h = come_behind opening [] events e h

place_is : (o : Option Record) (a : ℕ) → option_map (λ r. r.place) o ≡ Some a → place_or_0 o ≡ a
place_is None a e = let none : ⊥ = cc in absurd none
place_is (Some r) a e = same_some r.place a e

-- its id and its places are determined
pub save_is : (opening : Opening) (events : List Event) (label : List ℕ) (id a b : ℕ) → MayCome opening events (Act.Save id label a b)
    → Act.Save id label a b ≡ save_of opening events label (id_or_0 (free_id opening events))
save_is opening events label id a b may =
    let first = place_is (slice_get (window opening.settings.incident_seconds (all_records opening 1 events)) 0) a may.1.first in
    let newest = place_is (last (all_records opening 1 events)) b may.1.newest in
    let own : id_or_0 (free_id opening events) ≡ id = ap id_or_0 may.0 in
    λ i. Act.Save (sym own i) label (sym first i) (sym newest i)

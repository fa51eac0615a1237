-- How an order is answered, with another cause of a fault.
use Rattle.std.proofs.Common.{◌≡◌, ◌⊎◌, inl, inr, ⊎_elim, ◌&&◌, not, ℕ, Bool, true, false, List, refl}
use Rattle.vdr_terms.specs.Queries.{Query}
use Rattle.vdr_core.specs.Histories.{Event, Opening}
use Rattle.vdr_config.specs.Configuration.{Selector}
use Rattle.vdr_control.specs.Orders.{PlainOrder}
use Rattle.vdr_control.specs.Orders.PlainOrder.{Status, Save, Release, Incidents, Play, Evidence, Tell}
use Rattle.vdr_control.specs.Orders.PlainOrder.{Health}
use Rattle.vdr_control.specs.Orders.PlainOrder.{Export}
use Rattle.vdr_vault.specs.Vaults.{VaultState}
use Rattle.vdr_desk.specs.Answers.{Answer}
use Rattle.vdr_reply.specs.Answers.{IsAnswer, Spells}
use Rattle.vdr_reply.specs.Orders.{changes}
use Rattle.vdr_reply.specs.Plays.{AsksToPlay, IsCutAsGone, IsCutByFault, IsPlayed}

and_false : (b : Bool) → (not b && false) ≡ false
and_false true = refl
and_false false = refl

-- with another cause of a fault, which counts for what reads media alone
spelled_unless : (A B : Type 0) (order : PlainOrder) (vault : VaultState) (said text : List ℕ) → (changes order vault ≡ false → A → B) → Spells A order said text → Spells B order said text
spelled_unless A B Status vault said text so h = h
spelled_unless A B (Save label) vault said text so h = h
spelled_unless A B (Release id) vault said text so h = h
spelled_unless A B Incidents vault said text so h = h
spelled_unless A B Health vault said text so h = h
spelled_unless A B (Play medium name from to) vault said text so (inl h) = inl h
spelled_unless A B (Play medium name from to) vault said text so (inr h) = inr (h.0, so (and_false vault.failed) h.1)
spelled_unless A B (Evidence id) vault said text so (inl h) = inl h
spelled_unless A B (Evidence id) vault said text so (inr (inl h)) = inr (inl (h.0, so (and_false vault.failed) h.1))
spelled_unless A B (Evidence id) vault said text so (inr (inr h)) = inr (inr h)
spelled_unless A B (Tell medium telling) vault said text so (inl h) = inl h
spelled_unless A B (Tell medium telling) vault said text so (inr (inl h)) = inr (inl (h.0, so (and_false vault.failed) h.1))
spelled_unless A B (Tell medium telling) vault said text so (inr (inr h)) = inr (inr h)
spelled_unless A B (Export medium name from to exporting) vault said text so (inl h) = inl h
spelled_unless A B (Export medium name from to exporting) vault said text so (inr (inl h)) = inr (inl (h.0, so (and_false vault.failed) h.1))
spelled_unless A B (Export medium name from to exporting) vault said text so (inr (inr h)) = inr (inr h)

-- with another cause of a fault
spelled_so : (A B : Type 0) (order : PlainOrder) (said text : List ℕ) → (A → B) → Spells A order said text → Spells B order said text
spelled_so A B Status said text so h = h
spelled_so A B (Save label) said text so h = h
spelled_so A B (Release id) said text so h = h
spelled_so A B Incidents said text so h = h
spelled_so A B Health said text so h = h
spelled_so A B (Play medium name from to) said text so (inl h) = inl h
spelled_so A B (Play medium name from to) said text so (inr h) = inr (h.0, so h.1)
spelled_so A B (Evidence id) said text so (inl h) = inl h
spelled_so A B (Evidence id) said text so (inr (inl h)) = inr (inl (h.0, so h.1))
spelled_so A B (Evidence id) said text so (inr (inr h)) = inr (inr h)
spelled_so A B (Tell medium telling) said text so (inl h) = inl h
spelled_so A B (Tell medium telling) said text so (inr (inl h)) = inr (inl (h.0, so h.1))
spelled_so A B (Tell medium telling) said text so (inr (inr h)) = inr (inr h)
spelled_so A B (Export medium name from to exporting) said text so (inl h) = inl h
spelled_so A B (Export medium name from to exporting) said text so (inr (inl h)) = inr (inl (h.0, so h.1))
spelled_so A B (Export medium name from to exporting) said text so (inr (inr h)) = inr (inr h)

-- a play in several turns
ends_so : (met fault : Type 0) (opening : Opening) (a : Answer Event) (query : Query) → (met → fault) → (A : Type 0) → A ⊎ (IsCutByFault met opening a query ⊎ IsCutAsGone opening a query) → A ⊎ (IsCutByFault fault opening a query ⊎ IsCutAsGone opening a query)
ends_so met fault opening a query so A (inl whole) = inl whole
ends_so met fault opening a query so A (inr (inl cut)) = inr (inl (record { left = cut.left; cut = cut.cut; turn = cut.turn; fault = ⊎_elim (λ h. inl (so h)) (λ none. inr none) cut.fault }))
ends_so met fault opening a query so A (inr (inr gone)) = inr (inr gone)

played_so : (channels : List Selector) (A B : Type 0) (opening : Opening) (a : Answer Event) → (A → B) → IsPlayed channels A opening a → IsPlayed channels B opening a
played_so channels A B opening a so p = record { query = p.query; begun = p.begun; ends = ends_so A B opening a p.query so _ p.ends }

plays_none : (channels : List Selector) (query : Query) (vault : VaultState) (order : PlainOrder) → AsksToPlay channels order query → changes order vault ≡ false
plays_none channels query vault Status a = absurd a
plays_none channels query vault (Save label) a = absurd a
plays_none channels query vault (Release id) a = absurd a
plays_none channels query vault Incidents a = absurd a
plays_none channels query vault Health a = absurd a
plays_none channels query vault (Play medium name from to) a = and_false vault.failed
plays_none channels query vault (Evidence id) a = absurd a
plays_none channels query vault (Tell medium telling) a = absurd a
plays_none channels query vault (Export medium name from to exporting) a = absurd a

pub answer_so : {channels : List Selector} {A B : Type 0} {opening : Opening} {a : Answer Event} → (A → B) → IsAnswer channels A opening a → IsAnswer channels B opening a
answer_so {A = A} {B = B} {a = a} so (inl h) = inl (record { act_is = h.0.act_is; gauged = h.0.gauged; text_is = spelled_so A B a.order _ a.text so h.0.text_is }, h.1)
answer_so {channels = channels} {A = A} {B = B} {opening = opening} {a = a} so (inr p) = inr (played_so channels A B opening a so p)

pub answer_unless : (channels : List Selector) (A B : Type 0) (opening : Opening) (vault : VaultState) (a : Answer Event) → (changes a.order vault ≡ false → A → B) → IsAnswer channels A opening a → IsAnswer channels B opening a
answer_unless channels A B opening vault a so (inl h) = inl (record { act_is = h.0.act_is; gauged = h.0.gauged; text_is = spelled_unless A B a.order vault _ a.text so h.0.text_is }, h.1)
answer_unless channels A B opening vault a so (inr p) = inr (played_so channels A B opening a (so (plays_none channels p.query vault a.order p.begun.asks)) p)

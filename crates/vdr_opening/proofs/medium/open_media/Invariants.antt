use Rattle.std.proofs.Common.{◌≡◌, ◌≤◌, ◌<◌, ℕ, List, length, get_or, All, IfNone, IfSome, Ok, drop, None}
use Rattle.vdr_outside.specs.Causes.{NoneFalls}
use Rattle.vdr_outside.specs.Disk.{Durable, Unchanged}
use Rattle.vdr_config.specs.Grammar.{configuration}
use Rattle.vdr_directory.specs.Sequence.{Placed}
use Rattle.vdr_ring.specs.Rings.{HoldsNewest}
use Rattle.vdr_ring.specs.Visits.{HasJudged}
use Rattle.vdr_opening.specs.Media.{members_in}
use Rattle.vdr_opening.specs.Refusals.{RefusesFrom}
use Rattle.vdr_opening.specs.Answers.{ring_at}
use Rattle.vdr_ring.specs.Openings.{IsRingOf}
use Rattle.vdr_opening.specs.Parts.{ReadsLegal, text_of}
use Rattle.vdr_opening.proofs.Costs.{IsReadBy}
use Rattle.vdr_opening.proofs.medium.open_media.Given as goal

abbrev pub invariant-loop-m : goal.invariant-loop-m
invariant-loop-m g l = record {
  high : l.m ≤ l.fn.count;
  count : length l.rings.items ≡ l.m;
  first : IfNone l.before (l.m ≡ 0);
  configured : IfSome l.before (λ c. configuration c.text.items ≡ Ok c.config);
  rings : IfSome l.before (λ c. (k : ℕ) → k < l.m → IsRingOf c.config (g.M.Media.disk l.fn.media).sizes k (ring_at l.rings.items k));
  reads : g.M.Media.tells → All (λ m. Durable m (g.M.Media.disk l.fn.media)) (members_in (g.M.Media.disk l.fn.media).reads)
      → IfSome l.before (λ c. (k : ℕ) → k < l.m → ReadsLegal k c.config c.text.items (ring_at l.rings.items k) (g.M.Media.disk l.media));
  parts : g.M.Media.tells → IfSome l.before (λ c. (k : ℕ) → k < l.m → (known : List Placed)
      × IsReadBy k c.config c.text.items known (ring_at l.rings.items k) (g.M.Media.disk l.media) (g.M.Media.disk l.fn.media).sizes (g.M.Media.bytes_read l.fn.media) (g.M.Media.bytes_read l.media));
  unread : g.M.Media.tells → (k : ℕ) → l.m ≤ k → get_or (g.M.Media.bytes_read l.media) k 0 ≡ get_or (g.M.Media.bytes_read l.fn.media) k 0;
  held : g.M.Media.tells → (k : ℕ) → k < l.m → HoldsNewest (ring_at l.rings.items k);
  judged : (k : ℕ) → k < l.m → HasJudged (ring_at l.rings.items k) (g.M.Media.disk l.media);
  behind : g.M.Media.tells → (m offset : ℕ) → RefusesFrom (text_of l.before) (drop l.m (members_in (g.M.Media.disk l.fn.media).reads)) (g.M.Media.disk l.fn.media).reads m offset → RefusesFrom None (members_in (g.M.Media.disk l.fn.media).reads) (g.M.Media.disk l.fn.media).reads m offset;
  unchanged : Unchanged (g.M.Media.disk l.fn.media) (g.M.Media.disk l.media);
  later : NoneFalls (g.M.Media.faults l.fn.media) (g.M.Media.faults l.media);
}

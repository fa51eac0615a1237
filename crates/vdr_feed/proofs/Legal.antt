-- The generated items may follow one another in a feed.
use Rattle.std.proofs.Common.{◌≡◌, ◌≤◌, ◌+◌, ◌*◌, ℕ, zero, suc, arith, length, refl, sym, ap, append-nil}
use Rattle.vdr_feed.specs.Feed.{AreItems, IsFeed, feed, longest_feed}
use Rattle.vdr_feed.specs.Trial.{trial_bytes, trial_state}
use Rattle.vdr_feed.specs.Generated.{generated_feed, items_from}

short : (state index : ℕ) → length (trial_bytes state index) ≡ 44
short state index = refl

legal : (count state index floor : ℕ) → floor ≤ 400 * index → index + count ≤ 1_000_000 → AreItems floor (items_from count state index)
legal zero state index floor low high = tt
legal (suc n) state index floor low high = (
  record {
    group = omega arith;
    later = low;
    received = omega (arith, high);
    utc = record { whole = refl; in_time = omega (arith, high) };
    short = let l = short (trial_state state) index in omega (arith, l);
  },
  legal n (trial_state state) (index + 1) (400 * index) (omega arith) (omega (arith, high)),
)

so_many : (count state index : ℕ) → length (items_from count state index) ≡ count
so_many zero state index = refl
so_many (suc n) state index = ap suc (so_many n (trial_state state) (index + 1))

pub is_feed : (seed count : ℕ) → count ≤ 1_000_000 → IsFeed longest_feed (generated_feed seed count) (items_from count seed 0)
is_feed seed count few = record {
  spelled = sym (append-nil (feed (items_from count seed 0)));
  legal = legal count seed 0 0 (omega arith) (omega (arith, few));
  few = let n = so_many count seed 0 in omega (arith, n, few);
}

use Rattle.std.proofs.Common.{◌≡◌, ◌+◌, ◌-◌, ℕ, List, Vec, false, length, get_or, take, drop, refl, sym, ◌∙◌, ap, arith, length-drop}
use Rattle.std.specs.declared.alloc.Global.{Global}
use Rattle.std.proofs.lemmas.List.{drop-drop, length-map}
use Rattle.vdr_memory.specs.declared.call.Call.{Call}
use Rattle.vdr_memory.specs.declared.call.Work.TheVariants.{Write}
use Rattle.vdr_memory.specs.declared.image.Torn.{Torn}
use Rattle.vdr_memory.specs.Contents.{contents}
use Rattle.vdr_memory.specs.Images.{image_by, torn_by}
use Rattle.vdr_memory.specs.Steps.{after, reads_after}
use Rattle.vdr_memory.specs.Traces.{length_of, step_of}
use Rattle.vdr_memory.proofs.Replaying.{first_steps, is_at, next_synced, next_torn, replays_all, replays_more, replays_none}
use Rattle.vdr_memory.proofs.Traces.{length_of_all, all_more, all_within}
use Rattle.vdr_memory.proofs.image.replay.Goals as goal
use Rattle.vdr_memory.proofs.image.replay.Goals.{then-index-synced, else-index-synced}

-- What a read past the end of the calls would give.
abbrev none : Call
none = record { medium = 0; work = Write 0 0; done = false }

pub split_at-requires : goal.split_at-requires
split_at-requires c =
    let calls = c.args.calls.now in
    let i = c.loop-index.index in
    let from = length_of_all (take i calls) in
    omega (arith, all_within calls c.args.bytes.now i none c.loop-index-test.true c.requires, ap (λ (l : List ℕ). length l) c.loop-index.invariant.left, length-drop from c.args.bytes.now, c.length.ensures)

pub loop-index-init : goal.loop-index-init
loop-index-init c = record { left = refl; replays = replays_none c.args.calls.now c.args.bytes.now c.last_syncs-synced.result c.args.choices.now c.args.rest.now (contents c.args.image.now) }

pub loop-index-preserved : goal.loop-index-preserved
loop-index-preserved c =
    let calls = c.args.calls.now in
    let bytes = c.args.bytes.now in
    let last = c.last_syncs-synced.result in
    let choices = c.args.choices.now in
    let rest = c.args.rest.now in
    let start = contents c.args.image.now in
    let i = c.loop-index.index in
    let from = length_of_all (take i calls) in
    let call = get_or calls i none in
    let n = length_of call.work in
    let image = contents c.loop-index.image in
    let reads = reads_after start (first_steps calls bytes i) in
    let chosen = image_by (drop (length calls - i) choices) rest start (first_steps calls bytes i) in
    let torn = get_or choices (length calls - 1 - i) rest in
    let own = take n (drop from bytes) in
    let at = is_at calls last i none c.loop-index-test.true c.last_syncs-synced.ensures in
    let part : c.split_at.result.0.now ≡ own = c.split_at.ensures.front ∙ ap (λ (k : ℕ). take k c.loop-index.left.now) c.length.ensures ∙ ap (λ (l : List ℕ). take n l) c.loop-index.invariant.left in
    let left : c.split_at.result.1.now ≡ drop (length_of_all (take (i + 1) calls)) bytes =
    c.split_at.ensures.back
    ∙ ap (λ (k : ℕ). drop k c.loop-index.left.now) c.length.ensures
    ∙ ap (λ (l : List ℕ). drop n l) c.loop-index.invariant.left
    ∙ drop-drop n from bytes
    ∙ ap (λ (k : ℕ). drop k bytes) (sym (all_more calls i none c.loop-index-test.true)) in
    elim c.if-index-synced.branch [
      | then-index-synced w ↦ record {
        left = left;
        replays =
            replays_more calls bytes last choices rest torn start i from none (after (step_of call.medium call.work own call.done) image) (contents c.if-index-synced.image) c.loop-index-test.true refl refl
            (next_synced i last reads chosen image torn call.medium call.work own call.done at w.if-index-synced.true c.loop-index.invariant.replays)
            (ap (λ (l : List (Vec ℕ Global)). contents l) w.image-is ∙ w.apply.ensures ∙ ap (λ (l : List ℕ). after (step_of call.medium call.work l call.done) image) part);
      }
      | else-index-synced w ↦ record {
        left = left;
        replays =
            replays_more calls bytes last choices rest torn start i from none (torn_by torn (step_of call.medium call.work own call.done) image) (contents c.if-index-synced.image) c.loop-index-test.true refl refl
            (next_torn i last reads chosen image torn call.medium call.work own call.done at w.if-index-synced.false c.loop-index.invariant.replays)
            (ap (λ (l : List (Vec ℕ Global)). contents l) w.image-is ∙ w.tear.ensures ∙ ap (λ (t : Torn). torn_by t (step_of call.medium call.work c.split_at.result.0.now call.done) image) c.choice-torn.ensures
            ∙ ap (λ (l : List ℕ). torn_by torn (step_of call.medium call.work l call.done) image) part);
      }
    ]

pub returns : goal.returns
returns c =
    let start = contents c.args.image.now in
    let image = contents c.loop-index.image in
    let long : length image ≡ length start = omega (arith, length-map c.loop-index.image (λ (v : Vec ℕ Global). v.items), length-map c.args.image.now (λ (v : Vec ℕ Global). v.items), c.loop-index.auto.image) in
    replays_all c.args.calls.now c.args.bytes.now c.last_syncs-synced.result c.args.choices.now c.args.rest.now start c.loop-index.index image c.loop-index-test.false c.loop-index.auto.index-end c.last_syncs-synced.ensures long none c.loop-index.invariant.replays

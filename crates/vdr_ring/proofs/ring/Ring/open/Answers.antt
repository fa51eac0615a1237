use Rattle.std.proofs.Common.{rules, ◌≡◌, ◌<◌, ℕ, List, Some, get_or, All, sym, ◌∙◌, ap, subst, arith, length-append, length-drop, length-take}
use Rattle.std.specs.Vec.{with_items}
use Rattle.std.proofs.lemmas.List.{with_items_is}
use Rattle.std.proofs.lemmas.Result.{err_from_is_err_and}
use Rattle.vdr_terms.specs.Needs.{slots_in}
use Rattle.vdr_terms.proofs.Results.{same_err}
use Rattle.vdr_outside.specs.Disk.{content}
use Rattle.vdr_config.specs.Sizes.{sizes_of}
use Rattle.vdr_directory.specs.declared.entry.Entry.{Entry}
use Rattle.vdr_directory.specs.Entries.{Describe}
use Rattle.vdr_directory.specs.Holds.{HoldsPlaced}
use Rattle.vdr_directory.specs.Opening.{slot_bytes}
use Rattle.vdr_directory.proofs.Reordering.{slots_below}
use Rattle.vdr_ring.specs.Rings.{RingState}
use Rattle.vdr_ring.proofs.LastBatch.{bare_intact}
use Rattle.vdr_ring.proofs.Newest.{bare_placed, held_is}
use Rattle.vdr_ring.proofs.Shaping.{counts_by, four_slots, holds_by, refused_by, ring_knows, ring_reads}
use Rattle.vdr_ring.proofs.ring.Ring.open.Goals as goal

pub returns-in_err-opened-clause-damaged : goal.returns-in_err-opened-clause-damaged
returns-in_err-opened-clause-damaged g c =
    let p = err_from_is_err_and c.from_residual.result c.from_residual.ensures.1 in
    rw (p.1, p.2) (λ k offset e.
    let h = c.in_err-opened.ensures.damaged k offset (same_err _ _ e) in
    let a = c.area_of-area.ensures in
    (h.0 ∙ a.medium, λ told. refused_by _ _ _ _ _ _ (g.M.Media.disk c.args.media.now).reads offset a.segment (a.slots ∙ ap (λ (n : ℕ). slots_in (sizes_of c.args.config.now) n) c.size.ensures) a.medium (h.1 told)))

pub of-requires : goal.of-requires
of-requires g c =
    subst (λ (es : List Entry). All (λ e. e.slot < c.area_of-area.result.slots) es) (sym c.deref.ensures.value) (slots_below _ _ c.in_ok-opened.ensures.slots)

pub invariant_of-result : goal.invariant_of-result
invariant_of-result g c = (
  c.in-Ok-of.ensures.size,
  omega (arith, c.in-Ok.buffer.ok.0, c.in-Ok.ensures.len, c.read_segments.auto.buffer, c.deref_mut.ensures.len, length-take {A = ℕ}, length-append {A = ℕ}, length-drop {A = ℕ}),
  let four = four_slots (sizes_of c.args.config.now) c.args.m (get_or (g.M.Media.disk c.args.media.now).sizes c.args.m 0) c.requires.fits in
      let same = ap (λ (n : ℕ). slots_in (sizes_of c.args.config.now) n) c.size.ensures in
      omega (arith, four, same, c.area_of-area.ensures.slots),
  c.window.ensures.low,
  c.window.ensures.high,
)

pub returns-clause-opened : goal.returns-clause-opened
returns-clause-opened g c =
    let written = with_items_is c.in-Ok.buffer c.read_segments.new.buffer (c.read_segments.auto.buffer ∙ c.deref_mut.ensures.len) in
    let a = c.area_of-area.ensures in
    let slots = a.slots ∙ ap (λ (n : ℕ). slots_in (sizes_of c.args.config.now) n) c.size.ensures in
    let low = c.area_of-area.result.segment_low in
    let high = c.area_of-area.result.segment_high in
    let before = g.M.Media.disk c.args.media.now in
    let now = g.M.Media.disk c.read_segments.new.media in
    let found = c.in_ok-opened.ensures.parts in
    let described = λ (told : g.M.Media.tells). subst (λ (es : List Entry). Describe (found told).known es) (sym c.deref.ensures.value) (found told).describe in
    let tells = λ (told : g.M.Media.tells).
    c.in-Ok-of.ensures.known c.area_of-area.result.segment (found told).known _ (omega (arith, high)) (found told).are (found told).order (described told) in
    let ring : RingState = record {
      medium = c.area_of-area.result.medium;
      segment = c.area_of-area.result.segment;
      slots = c.area_of-area.result.slots;
      seconds = c.window.result;
      directory = c.in-Ok-of.directory;
      buffer = (with_items c.in-Ok.buffer c.read_segments.new.buffer).items;
      loaded = c.in_ok-opened.loaded;
      bare = c.in-Ok-bare_slots.bare.items;
    } in
    let knows = λ (told : g.M.Media.tells).
    ring_knows before now ring (λ j at. written ∙ c.in_ok-opened.ensures.held told j at) c.read_segments.ensures.unchanged told (found told).known
    (found told).are (found told).order (tells told) in
    record {
      reads = λ told durable placed holds order.
          let held = λ (j : ℕ) (at : c.in_ok-opened.loaded ≡ Some j).
          subst (λ (m : ℕ). ring.buffer ≡ slot_bytes ring.segment j (content before.reads m)) a.medium (written ∙ c.in_ok-opened.ensures.held told j at) in
          let there = holds_by _ _ _ _ _ _ before.reads placed a.segment slots a.medium holds in
          let describe = c.in_ok-opened.ensures.found told placed there order in
          ring_reads before now _ _ a.medium held c.read_segments.ensures.unchanged durable told placed
          (subst (λ (m : ℕ). HoldsPlaced ring.segment ring.slots placed (content before.reads m)) a.medium there) order
          (c.in-Ok-of.ensures.told ring.segment placed _ (omega (arith, high)) there order
          (subst (λ (es : List Entry). Describe placed es) (sym c.deref.ensures.value) describe))
          (c.in-Ok-bare_slots.ensures placed order (subst (λ (es : List Entry). Describe placed es) (sym c.deref-2.ensures.value) describe));
      parts = λ told. (
        (found told).known,
        knows told,
        counts_by _ _ _ _ _ _ (found told).known c.in_ok-opened.opened.items a.medium (found told).describe c.in_ok-opened.ensures.counts,
      );
      held = λ told.
          held_is c.in_ok-opened.opened.items c.in_ok-opened.loaded (c.in_ok-opened.ensures.latest told) _ (found told).known _ (tells told).index
          (found told).order (found told).describe;
      judged = λ slot at told.
          let b = (c.in_ok-opened.ensures.latest told).bare slot at in
          let p = bare_placed (found told).known c.in_ok-opened.opened.items slot b.0 b.1 (found told).describe b.2 b.3 b.4.0 b.4.1 in
          ((knows told).loaded slot at told, bare_intact ring (found told).known now slot told (omega (arith, low)) (knows told) p.0 p.1 p.2 p.3);
      its = search rules;
    }

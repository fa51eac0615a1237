use Rattle.std.proofs.Common.{◌≡◌, ◌∙◌, List, ℕ, ap, subst, sym, refl, rules}
use Rattle.std.specs.Io.KnownBytes.{Appends}
use Rattle.vdr_outside.specs.Writes.{AppendsFront}
use Rattle.vdr_durability.specs.Sources.{Source, source_cmp}
use Rattle.vdr_alerts.specs.Rows.{IsPlaced, row_at}
use Rattle.vdr_watch.specs.Signs.{Heartbeat}
use Rattle.vdr_alerts.specs.Rows.{AreOrdered}
use Rattle.vdr_watch.specs.Supervision.{beat_cmp}
use Rattle.vdr_watch.proofs.Keeping.{beat_same, kept_with_beat, predecessor_found}
use Rattle.vdr_watch.proofs.Orders.{latest_ordered}
use Rattle.vdr_watch.proofs.tables.Tables.tell_heartbeat.Goals as goal

pub place_of_heartbeat-place-requires : goal.place_of_heartbeat-place-requires
place_of_heartbeat-place-requires g c = subst (AreOrdered beat_cmp) (sym (c.as_slice.ensures.value ∙ c.requires.kept.1.beats)) (latest_ordered c.requires.kept.0)

pub returns-in_err-print_heartbeat-clause-front : goal.returns-in_err-print_heartbeat-clause-front
returns-in_err-print_heartbeat-clause-front g c met keeps =
    let s : Source = record { group = c.beat.inside.group; name = c.as_slice-2.result.now } in
    let same : s ≡ c.args.beat.source = search rules in
    let p = subst (λ (rows : List Heartbeat). IsPlaced (λ b. source_cmp b.source s) rows c.place_of_heartbeat-place.result) c.as_slice.ensures.value c.place_of_heartbeat-place.ensures in
    let before = c.found-before.ensures ∙ ap (row_at c.place_of_heartbeat-place.result) c.as_slice-3.ensures.value ∙ predecessor_found met _ keeps.beats s _ same _ p in
    let text = beat_same c.args.mark.now _ _ _ _ before (ap (λ (b : Heartbeat). b.sequence) c.beat.view_is) in
    subst (λ (xs : List ℕ). AppendsFront (g.O.Sink.taken c.args.out.now) (g.O.Sink.taken c.print_heartbeat.new.out) xs) text c.in_err-print_heartbeat.ensures.front

pub returns-clause-kept : goal.returns-clause-kept
returns-clause-kept g c met keeps =
    let s : Source = record { group = c.beat.inside.group; name = c.as_slice-2.result.now } in
    let same : s ≡ c.args.beat.source = search rules in
    let p = subst (λ (rows : List Heartbeat). IsPlaced (λ b. source_cmp b.source s) rows c.place_of_heartbeat-place.result) c.as_slice.ensures.value c.place_of_heartbeat-place.ensures in
    record {
      beats = c.put_row.ensures.rows ∙ kept_with_beat met _ keeps.beats s _ same _ p _ refl;
      states = keeps.states;
      alerts = keeps.alerts;
    }

pub returns-clause-all : goal.returns-clause-all
returns-clause-all g c met keeps =
    let s : Source = record { group = c.beat.inside.group; name = c.as_slice-2.result.now } in
    let same : s ≡ c.args.beat.source = search rules in
    let p = subst (λ (rows : List Heartbeat). IsPlaced (λ b. source_cmp b.source s) rows c.place_of_heartbeat-place.result) c.as_slice.ensures.value c.place_of_heartbeat-place.ensures in
    let before = c.found-before.ensures ∙ ap (row_at c.place_of_heartbeat-place.result) c.as_slice-3.ensures.value ∙ predecessor_found met _ keeps.beats s _ same _ p in
    let text = beat_same c.args.mark.now _ _ _ _ before (ap (λ (b : Heartbeat). b.sequence) c.beat.view_is) in
    subst (λ (xs : List ℕ). Appends (g.O.Sink.taken c.args.out.now) (g.O.Sink.taken c.print_heartbeat.new.out) xs) text c.in_ok-print_heartbeat.ensures.all

pub returns-clause-front : goal.returns-clause-front
returns-clause-front g c met keeps =
    let s : Source = record { group = c.beat.inside.group; name = c.as_slice-2.result.now } in
    let same : s ≡ c.args.beat.source = search rules in
    let p = subst (λ (rows : List Heartbeat). IsPlaced (λ b. source_cmp b.source s) rows c.place_of_heartbeat-place.result) c.as_slice.ensures.value c.place_of_heartbeat-place.ensures in
    let before = c.found-before.ensures ∙ ap (row_at c.place_of_heartbeat-place.result) c.as_slice-3.ensures.value ∙ predecessor_found met _ keeps.beats s _ same _ p in
    let text = beat_same c.args.mark.now _ _ _ _ before (ap (λ (b : Heartbeat). b.sequence) c.beat.view_is) in
    subst (λ (xs : List ℕ). AppendsFront (g.O.Sink.taken c.args.out.now) (g.O.Sink.taken c.print_heartbeat.new.out) xs) text c.in_ok-print_heartbeat.ensures.front

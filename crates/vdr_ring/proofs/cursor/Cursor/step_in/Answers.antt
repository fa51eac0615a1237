use Rattle.std.proofs.Common.{Option, Some, IfSome, sym, subst, rules}
use Rattle.std.proofs.lemmas.Result.{on_ok_weaker}
use Rattle.vdr_entry.specs.Queries.{asked}
use Rattle.vdr_index.specs.Indexes.{span_as}
use Rattle.vdr_ring.specs.Damage.{IsIntact}
use Rattle.vdr_ring.specs.Visits.{StandsAmong, slot_read}
use Rattle.vdr_ring.specs.declared.cursor.Standing.{Standing}
use Rattle.vdr_ring.specs.contracts.cursor.Cursor.{the_view}
use Rattle.vdr_ring.specs.Walks.{CursorState, IsBefore, AreLeft, slots_read}
use Rattle.vdr_ring.proofs.Spending.{step_spends}
use Rattle.vdr_ring.proofs.Walking.{gives_here}
use Rattle.vdr_ring.proofs.cursor.Cursor.step_in.Goals as goal

pub returns-in-Some-clause-steps : goal.returns-in-Some-clause-steps
returns-in-Some-clause-steps g c told placed records reads left =
    let slots = slots_read c.args.ring.now (g.M.Media.disk c.args.media.now) in
    let selection = c.args.selection.now in
    let here = subst (λ (s : CursorState). AreLeft slots placed (asked selection.query) (Some (span_as selection.span)) s records) (sym c.self.view_is) left in
    let inside = here.are_ahead in
    let from = subst (λ (o : Option Standing). IsBefore slots placed o c.self.inside.visit here.ahead) c.in-Some.is inside.from in
    gives_here selection slots placed c.in-Some.standing c.self.inside.visit (the_view (record { standing = c.self.inside.standing; visit = c.read_span.new.visit })) from.0 here.ahead inside.passed records from.1
    inside.split here.are c.in-Some.is c.read_span.result
    (c.read_span.ensures.steps.visits told placed from.0 reads from.1.in_slot)

pub returns-in-Some-clause-keeps : goal.returns-in-Some-clause-keeps
returns-in-Some-clause-keeps g c =
    let selection = c.args.selection.now in
    record {
      read = search rules;
      counts = search rules;
      spends = rw (sym c.self.view_is) (step_spends (asked selection.query) (span_as selection.span) c.args.ring.now c.read_span.new.self
          c.self.inside.standing c.in-Some.standing (g.M.Media.bytes_read c.args.media.now) (g.M.Media.bytes_read c.read_span.new.media) c.read_span.result
          c.in-Some.is c.read_span.ensures.keeps.ring c.read_span.ensures.steps.loaded c.read_span.ensures.counts.again c.read_span.ensures.counts.once);
      may = search rules;
      item = search rules;
      onward = search rules;
      cause = search rules;
    }

pub returns-in-Some-clause-judges : goal.returns-in-Some-clause-judges
returns-in-Some-clause-judges g c =
    let disk = g.M.Media.disk c.args.media.now in
    let steps = c.read_span.ensures.steps in
    let among_now = λ (stands : StandsAmong c.args.ring.now disk c.args.self.now.visit).
    subst (λ (s : CursorState). StandsAmong c.args.ring.now disk s.visit) (sym c.self.view_is) stands in
    record {
      standing = search rules;
      among = λ told judged stands. steps.among told judged (among_now stands);
      intact = on_ok_weaker c.read_span.result (λ intact told judged.
          let own =
          subst (λ (o : Option Standing). IfSome o (λ t. IsIntact (slot_read c.args.ring.now t.slot disk))) (sym c.in-Some.is) (intact told judged) in
          subst (λ (s : CursorState). IfSome s.standing (λ t. IsIntact (slot_read c.args.ring.now t.slot disk))) c.self.view_is own) steps.intact;
      medium = steps.medium;
      named = λ m offset is told judged stands. record {
        segment = c.in-Some.standing;
        stands = c.in-Some.is;
        within = search rules;
        damaged = steps.damaged told judged (among_now stands) m offset is;
      };
    }

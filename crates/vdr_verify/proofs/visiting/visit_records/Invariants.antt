-- Records were handed on.
use Rattle.std.proofs.Common.{◌≤◌, ◌++◌, ℕ, List, [], Option, None}
use Rattle.std.specs.Io.KnownBytes.{Appends}
use Rattle.vdr_terms.specs.Records.{Record as Entry}
use Rattle.vdr_entry.specs.Queries.{asked as wanted}
use Rattle.vdr_visit.specs.Prints.{text_of}
use Rattle.vdr_evidence.specs.Files.{Heading, record_parts}
use Rattle.vdr_verify.specs.Lists.{IsBehindRecords, places_above}
use Rattle.vdr_verify.specs.Reading.{HasRead}
use Rattle.vdr_verify.specs.Visiting.{selected_in}
use Rattle.vdr_verify.proofs.visiting.visit_records.Given as goal

abbrev pub invariant-loop-item : goal.invariant-loop-item
invariant-loop-item g l = record {
  later : g.I.Source.faults l.fn.input ≤ g.I.Source.faults l.input;
  output : g.O.Sink.faults l.fn.out ≤ g.O.Sink.faults l.out;
  visits : (all : List Entry)
      × ((first : g.row.V.Denot) → g.V.Visitor.has first [] l.fn.visitor
      → g.V.Visitor.has first (selected_in (wanted l.query) all) l.visitor × Appends (g.O.Sink.taken l.fn.out) (g.O.Sink.taken l.out) (text_of (g.V.Visitor.line first) (selected_in (wanted l.query) all)))
      × ((first : Option (List ℕ)) (h : Heading) → IsBehindRecords first (g.I.Source.left l.fn.input) l.fn.reader l.asked None h [] → IsBehindRecords first (g.I.Source.left l.input) l.reader l.asked l.last h all)
      × ((front : List ℕ) → HasRead l.fn.reader front → HasRead l.reader (front ++ record_parts all));
}

abbrev pub decreases-loop-item : goal.decreases-loop-item
decreases-loop-item g l = places_above l.last

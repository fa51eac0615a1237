-- What `watch` owes, from what its lines are.
use Rattle.std.proofs.Common.{ℕ, List, subst}
use Rattle.vdr_entry.specs.declared.query.Medium.{Medium}
use Rattle.vdr_teller.proofs.Wholes.{all_shown, closing, lines_shown, shown}
use Rattle.vdr_command.specs.Opened.{PrintsText}
use Rattle.vdr_command.specs.Outside.{Outside, Prints}
use Rattle.vdr_command.specs.declared.status.Status.{Status}
use Rattle.vdr_readout.specs.Lines.{TellsLines}
use Rattle.vdr_readout.specs.Reads.{records_asked}
use Rattle.vdr_readout.specs.Sources.{whole_of}
use Rattle.vdr_readout.specs.Watches.{TellsWatch}

-- Its lines are its text.
pub watch_owed : {tells tells_images : Type 0} {medium : Medium} {old new : Outside tells tells_images} {status : Status} → TellsLines shown closing medium old new status → TellsWatch medium old new status
watch_owed {medium = medium} {old = old} {new = new} {status = status} h = record {
  own = h.own;
  no_channel = h.no_channel;
  printed = λ x t holds can. subst (λ (l : List ℕ). PrintsText l status old.output new.output) (all_shown (records_asked x (whole_of medium))) (h.printed x t holds can);
  cut = λ short. let c = h.cut short in (c.0, subst (λ (l : List ℕ). Prints l old.output new.output) (lines_shown c.0) c.1, c.2);
  output = h.output;
  silent = h.silent;
  media = h.media;
  missing = h.missing;
  bytes = h.bytes;
  complete = h.complete;
}

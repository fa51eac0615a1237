-- What is written of a capture is a feed of its items.
use Rattle.std.proofs.Common.{false, ◌∙◌, sym, arith}
use Rattle.std.proofs.lemmas.List.{append-nil}
use Rattle.vdr_feed.specs.Feed.{feed, longest_feed}
use Rattle.vdr_pcap.specs.Account.{items_of}
use Rattle.vdr_pcap.specs.Capture.{no_course, pieces_of}
use Rattle.vdr_pcap.proofs.Items.{items_are_legal}
use Rattle.vdr_import.specs.Laws.{FeedsAreFeeds}
use Rattle.vdr_import.proofs.Parts.{items_grow}
use Rattle.vdr_import.proofs.Progress.{imported_is}

pub feeds_are_feeds : FeedsAreFeeds
feeds_are_feeds bytes rest parts reached begins =
    let grown = items_grow longest_feed false no_course parts (omega arith) (omega arith) reached.legal in
    record {
      spelled = imported_is parts begins ∙ sym (append-nil (feed (items_of (pieces_of parts))));
      legal = items_are_legal longest_feed parts reached.legal;
      few = omega (arith, grown.0, grown.1);
    }

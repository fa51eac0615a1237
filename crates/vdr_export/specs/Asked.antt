-- What may be asked of a reader.
use Rattle.std.specs.Prelude.{◌≡◌, false, ℕ, List}
use Rattle.vdr_entry.specs.declared.query.Query.{Query}
use Rattle.vdr_entry.specs.Queries.{asked}
use Rattle.vdr_visit.specs.declared.reader.Reader.{Ghosts as ReaderTells}

-- The query's channel is configured, and its incident is live, where it asks for one.
pub record MayBeAsked {R : Type 0} (of : ReaderTells R) (query : Query) (reader : R) (sizes : List ℕ) : Type 0 where
  -- the reader may read media of these sizes
  pub may : of.may_read reader sizes
  -- the query's channel is configured
  pub channel : of.lacks_channel reader query.channel ≡ false
  -- its incident is live
  pub incident : of.lacks_incident reader (asked query).medium ≡ false

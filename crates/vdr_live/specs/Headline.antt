-- What a live recording leaves, at each moment and in the end: one history, in which each datagram that a port gave, that found room in its
-- queue and that the rate admits is once, in its port's order, and each other one is counted in a Gap; each reply to an operator's order is a
-- function of the history before that; and media that play it back after a stop at any moment, with all that was acknowledged (this
-- project's profile; IEC 61996-1 and IMO MSC.333(90) for the windows that the media keep).
use Rattle.std.specs.Prelude.{◌≡◌, ◌≤◌, ◌<◌, ◌+◌, ◌++◌, ℕ, true, List, get_or, is_some, None}
use Rattle.vdr_terms.specs.declared.counts.Counts.{Counts}
use Rattle.vdr_terms.specs.Records.{Item}
use Rattle.vdr_core.specs.Histories.{Event, recorded}
use Rattle.vdr_core.specs.Sums.{missed_in, recorded_in}
use Rattle.vdr_core.specs.Taken.{AllFeed, Captured}
use Rattle.vdr_outside.specs.Causes.{Rose}
use Rattle.vdr_outside.specs.Disk.{Disk}
use Rattle.vdr_opening.specs.Media.{Contents, opening_of}
use Rattle.vdr_recorder.specs.Recordings.{start_of_opening}
use Rattle.vdr_recorder.specs.Headline.{PlaysBack, ToldHeadline}
use Rattle.vdr_recorder.specs.Watched.{Watched}
use Rattle.vdr_capture.specs.declared.sums.Outcome.TheVariants.{MediaFault}
use Rattle.vdr_session.specs.Sessions.{OutcomeMeans, RecordsSession, is_closed}
use Rattle.vdr_session.specs.declared.session.SessionEnd.{SessionEnd}
use Rattle.vdr_live.specs.Links.{AreReplied, LinkSeen}

-- The media held these contents at entry, and are `after` at the return. Their count of faults, before and after; what each port gave; the links, of which each was asked for a
-- line at most so often, before and after; and how the session ended.
module _ (x : Contents) (faults_old faults_new : ℕ) (given : ℕ → List Item) (turns : ℕ) (links_old links_new : List LinkSeen) (end : SessionEnd) where
  -- What the events record of it, and what the media are at the return.
  pub record AccountsForSession {tells tells_images : Type 0} (after : Disk tells tells_images) (events : List Event) : Type 0 where
    pub means : OutcomeMeans (opening_of x) end.outcome
    -- what was taken from the queues, what was lost as the media failed, and what each port missed at the end, come to what the ports gave
    pub items : List Captured
    pub lost : List Captured
    pub rest : ℕ → Counts
    pub feed : AllFeed (items ++ lost) rest given
    -- the records are those of the run; they account for what each port gave, and the sums are theirs
    pub records : RecordsSession (start_of_opening (opening_of x)) x.config.groups x.config.queue given rest items lost end (recorded events)
    -- a queue is full only where it holds as many items as it has room for, and each of these was recorded or refused by the rate
    pub full : is_closed end.outcome ≡ true → (g : ℕ) → g < 16 → is_some (get_or x.config.groups g None) ≡ true
        → 0 < (missed_in g (recorded events)).full → x.config.queue ≤ recorded_in g (recorded events) + (missed_in g (recorded events)).rate
    -- each order of a link is one event of its own, and its reply is a function of the events before that
    pub replies : AreReplied turns x.config.channels faults_old faults_new end.outcome (opening_of x) events links_old links_new
    -- what the media read as at the return plays back all of a run that was closed
    pub reads : tells → is_closed end.outcome ≡ true → PlaysBack (opening_of x) events after.reads

  -- `w`: what an object outside was told of it, where it `hears`.
  abbrev pub SessionHeadline : {tells tells_images : Type 0} → (before after : Disk tells tells_images) → (hears : Type 0) → Watched → Type 0
  SessionHeadline before after hears w = ToldHeadline x (AccountsForSession after) ((end.outcome ≡ MediaFault) × Rose faults_old faults_new) before after hears w

use Rattle.std.proofs.Common.{◌≡◌, Option, inl, refl, sym, subst}
use Rattle.std.specs.Prelude.{MatchOption, ℕ}
use Rattle.std.proofs.lemmas.Result.{IfOk-from_err}
use Rattle.vdr_entry.specs.declared.summary.Summary.{Summary}
use Rattle.vdr_directory.specs.Leaving.{IsLeftBehind, LeavesNone}
use Rattle.vdr_ring.proofs.Alike.{front_more}
use Rattle.vdr_ring.specs.Appends.{MayCome}
use Rattle.vdr_ring.proofs.Beginning.{finds}
use Rattle.vdr_ring.proofs.Leaving.{leaving, left_by, still_written, done_behind, leaves, left_any, done_before, left_moments, left_reads}
use Rattle.vdr_ring.proofs.ring.Ring.append_staged.Goals as goal

pub returns-in_err-slot-clause-appended : goal.returns-in_err-slot-clause-appended
returns-in_err-slot-clause-appended g c placed first told reads goes_on =
    let made = c.add.ensures.added placed first told reads goes_on in
    let may : MayCome c.args.self.now.segment placed first c.args.records.now = record { legal = c.add.ensures.legal; fits = c.requires.fits; goes_on = goes_on } in
    let found = finds _ _ _ _ placed first c.args.records.now _ told reads.settled reads.order may c.add.ensures.enough.0 c.add.ensures.enough.1 in
    let left = left_any _ _ _ _ placed first c.args.records.now made.0 _ _ found reads.directory made.1 in (
      leaving made.0 left.0,
      (still_written _ _ _ _ placed first c.args.records.now made.0 left.0 made.1, left.1),
      done_before _ _ _ placed made.0 left.0 _ _ made.2,
      IfOk-from_err c.from_residual.result _ c.from_residual.ensures.0,
    )

pub returns-in_default-clause-appended : goal.returns-in_default-clause-appended
returns-in_default-clause-appended g c placed first told reads goes_on =
    let made = c.in_ok-slot.ensures.added placed first told reads goes_on in
    let none = subst (λ (o : Option (ℕ × Summary)). MatchOption o (LeavesNone made.0.begun) (λ x. IsLeftBehind made.0.begun x.0 x.1)) c.in_default.is made.3.1 in (
      leaving made.0 made.0.done,
      (still_written _ _ _ _ placed first c.args.records.now made.0 made.0.done made.1, inl (none, refl)),
      done_before _ _ _ placed made.0 made.0.done _ _ made.2,
      made.3.0,
    )

pub returns-clause-appended : goal.returns-clause-appended
returns-clause-appended g c = rw (sym c.self.view_is) (λ placed first told reads goes_on.
    let made = c.in_ok-slot.ensures.added placed first told reads goes_on in
    let behind = subst (λ (o : Option (ℕ × Summary)). MatchOption o (LeavesNone made.0.begun) (λ x. IsLeftBehind made.0.begun x.0 x.1)) c.in-Some.is made.3.1 in
    let left = left_by made.0 c.args.records.now c.in-Some.slot c.in-Some.summary behind in
    let done = done_behind _ _ _ _ placed first c.args.records.now made.0 made.1 c.in-Some.slot c.in-Some.summary behind in
    let is = leaves _ _ _ _ placed first c.args.records.now made.0 made.1 c.in-Some.slot c.in-Some.summary behind in
    let same = (rw (sym c.self.view_is) at c.add.ensures.ring).same in
    let loaded = rw (sym c.self.view_is) at c.add.ensures.loaded in
    let none_bare = rw (sym c.self.view_is) at c.in_ok-slot.ensures.bare in
    let reads_done = rw (sym c.self.view_is) at made.3.0 in (
      leaving made.0 left,
      (still_written _ _ _ _ placed first c.args.records.now made.0 left made.1, is),
      left_moments c.args.self.now _ placed made.0 c.args.records.now c.in-Some.slot c.in-Some.summary behind done _ _ _ told same reads_done made.2 c.summarize.ensures.moments,
      left_reads c.args.self.now _ placed made.0 c.args.records.now c.in-Some.slot c.in-Some.summary behind done (g.M.Media.disk c.args.media.now) _ _ told same reads_done c.summarize.result goes_on.some is loaded none_bare c.summarize.ensures.settled,
    ))

pub returns-clause-front : goal.returns-clause-front
returns-clause-front g c =
    let m : c.self.inside.area.medium ≡ c.args.self.now.medium = (rw (sym c.self.view_is) at c.add.ensures.ring).same.medium in
    front_more _ _ _ _ c.add.ensures.front (λ durable. c.in_ok-slot.ensures.durable) (rw m at c.summarize.ensures.front)

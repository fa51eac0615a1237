use Rattle.std.proofs.Common.{rules, inr, []}
use Rattle.std.proofs.lemmas.Result.{err_from_is_err_and}
use Rattle.vdr_opening.specs.Media.{opening_of}
use Rattle.vdr_vault.specs.Vaults.{ShowsHistory}
use Rattle.vdr_recorder.proofs.Opened.{has_opened, opens_as, same_refused, synced_where}
use Rattle.vdr_recorder.proofs.recorder.Recorder.open.Goals as goal

pub returns-in_err-vault-clause-moments : goal.returns-in_err-vault-clause-moments
returns-in_err-vault-clause-moments g c x told holds meet regular =
    let p = err_from_is_err_and c.from_residual.result c.from_residual.ensures.1 in
    opens_as (g.M.Media.disk c.args.media.now) (g.M.Media.disk c.open.new.media) c.open.result c.from_residual.result c.in_err-vault.field-0.0 p.0 (ShowsHistory (opening_of x) [])
    c.in_err-vault.was p.1 p.2 (c.open.ensures.moments x told holds meet regular)

pub returns-in_default-clause-moments : goal.returns-in_default-clause-moments
returns-in_default-clause-moments g c x told holds meet regular =
    inr (synced_where (g.M.Media.disk c.args.media.now) (g.M.Media.disk c.open.new.media) c.open.result c.in_ok-vault.vault (ShowsHistory (opening_of x) []) c.in_ok-vault.was
    (c.open.ensures.moments x told holds meet regular))

pub returns-clause-moments : goal.returns-clause-moments
returns-clause-moments g c x told holds meet regular =
    inr (synced_where (g.M.Media.disk c.args.media.now) (g.M.Media.disk c.open.new.media) c.open.result c.in_ok-vault.vault (ShowsHistory (opening_of x) []) c.in_ok-vault.was
    (c.open.ensures.moments x told holds meet regular))

pub returns-in_err-vault-clause-refused : goal.returns-in_err-vault-clause-refused
returns-in_err-vault-clause-refused g c = record {
  unformatted = search rules;
  damaged = λ m offset damage.
      let p = err_from_is_err_and c.from_residual.result c.from_residual.ensures.1 in
      c.open.ensures.refused.damaged m offset (same_refused c.open.result c.from_residual.result c.in_err-vault.field-0.0 p.0 _ c.in_err-vault.was p.1 p.2 damage);
  untouched = search rules;
  blank = search rules;
}

pub returns-clause-opened : goal.returns-clause-opened
returns-clause-opened g c = record {
  opened = λ x told holds regular.
      let opened = c.in_ok-vault.ensures.opened.opened x told holds regular in
      let meet = (c.in_ok-vault.ensures.opened.contents x told holds).0 in
      let on = synced_where (g.M.Media.disk c.args.media.now) (g.M.Media.disk c.open.new.media) c.open.result c.in_ok-vault.vault (ShowsHistory (opening_of x) []) c.in_ok-vault.was
      (c.open.ensures.moments x told holds meet regular) in (
        on.synced,
        on.after_entry,
        on.before_exit,
        has_opened (opening_of x) c.in_ok-vault.vault opened.0 (g.M.Media.disk c.open.new.media) opened.1 on.synced c.in-Ok.maker on.before_exit on.since,
      );
  parts = search rules;
  known = search rules;
  contents = search rules;
  readable = search rules;
  works = search rules;
  judged = search rules;
  closed = search rules;
  rings = search rules;
}

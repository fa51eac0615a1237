use Rattle.vdr_durability.proofs.keeping.law_of_keeping.Goals as goal
use Rattle.vdr_durability.proofs.Acknowledged.{rises_with}
use Rattle.vdr_durability.proofs.Kept.{keeps_opened, keeps_since, keeps_done, keeps_faulted, keeps_call, keeps_silent, keeps_after_fault, keeps_still, keeps_on}

pub returns : goal.returns
returns g c =
    let shows = g.S.Showing.shows in
    let before = g.M.Media.disk c.args.old.now in
    let now = g.M.Media.disk c.args.new.now in
    record {
      opened = keeps_opened shows now;
      since = λ events t0 later. keeps_since shows events t0 later now;
      done = λ events t0 e h. keeps_done shows events t0 e before now h;
      faulted = λ events t0 e h. keeps_faulted shows events t0 e before now h;
      call = λ events t0 e failed h. keeps_call shows events t0 e failed before now h;
      silent = λ events t0 e h. keeps_silent shows events t0 e before now h;
      after_fault = λ events t0 e h. keeps_after_fault shows events t0 e before now h;
      rises = λ events t0 e failed. rises_with events t0 before.clock now.clock e failed;
      still = λ events t0. keeps_still shows events t0 before now;
      on = λ events t0. keeps_on shows events t0 before now;
    }

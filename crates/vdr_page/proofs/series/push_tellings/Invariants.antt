use Rattle.std.proofs.Common.{◌≡◌, ◌++◌, drop, map}
use Rattle.vdr_page.specs.Series.{rows_after, tellings_text}
use Rattle.vdr_page.specs.TellingViews.{telling_of}
use Rattle.vdr_page.proofs.series.push_tellings.Given as goal

-- what is to come of rows and text is what there was to come
abbrev pub invariant-loop-telling : goal.invariant-loop-telling
invariant-loop-telling l = record {
  step : l.series.step ≡ l.initial.series.step;
  rows : rows_after l.initial.series.step l.moment.utc l.moment.gaps l.series.rows (map telling_of (drop l.telling-index l.tellings)) ≡ rows_after l.initial.series.step l.moment.utc l.moment.gaps l.initial.series.rows (map telling_of l.tellings);
  text : l.text.items ++ tellings_text l.initial.series.step l.moment.utc l.moment.gaps l.series.rows (map telling_of (drop l.telling-index l.tellings))
      ≡ l.initial.text.items ++ tellings_text l.initial.series.step l.moment.utc l.moment.gaps l.initial.series.rows (map telling_of l.tellings);
}

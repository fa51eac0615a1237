use Rattle.std.proofs.Common.{rules, inl, inr, refl, sym, subst}
use Rattle.vdr_recorder.specs.Chains.{LivesOn}
use Rattle.vdr_vault.specs.Ours.{StayOurs}
use Rattle.vdr_tool.specs.Commands.{plain}
use Rattle.vdr_tool.proofs.AllCommands.{answers_none, answers_one, completes_by}
use Rattle.vdr_tool.proofs.LifeGoesOn.{life_of, life_still}
use Rattle.vdr_tool.proofs.Lives.{lives_of, ours_still}
use Rattle.vdr_tool.proofs.command.run_alone_watched.Goals as goal

pub returns-in_default-clause-lives : goal.returns-in_default-clause-lives
returns-in_default-clause-lives g c = record {
  ours = λ told ours. ours_still (g.M.Media.disk c.args.world.now.media) ours;
  life = λ config text runs told nothing live. life_still config text runs (g.M.Media.disk c.args.world.now.media);
}

pub returns-in_default-answer-clause-lives : goal.returns-in_default-answer-clause-lives
returns-in_default-answer-clause-lives g c = record {
  ours = λ told ours. elim c.answer.ensures.untouched [
    | inl uses ↦ lives_of (plain c.in-Some.command) _ _ g.W.Watch.hears _ _ c.answer.ensures.owed uses told ours
    | inr same ↦ subst (λ m. StayOurs (g.M.Media.disk c.args.world.now.media) (g.M.Media.disk m)) (sym same) (ours_still (g.M.Media.disk c.args.world.now.media) ours)
  ];
  life = λ config text runs told nothing live. elim c.answer.ensures.untouched [
    | inl uses ↦ life_of config text runs (plain c.in-Some.command) _ _ g.W.Watch.hears _ _ c.answer.ensures.owed uses (nothing _ c.in-Some.ensures.only) told live
    | inr same ↦ subst (λ m. LivesOn config text runs (g.M.Media.disk c.args.world.now.media) (g.M.Media.disk m)) (sym same) (life_still config text runs (g.M.Media.disk c.args.world.now.media))
  ];
}

pub returns-clause-lives : goal.returns-clause-lives
returns-clause-lives g c = record {
  ours = λ told ours. elim c.answer.ensures.untouched [
    | inl uses ↦ lives_of (plain c.in-Some.command) _ _ g.W.Watch.hears _ _ c.answer.ensures.owed uses told ours
    | inr same ↦ subst (λ m. StayOurs (g.M.Media.disk c.args.world.now.media) (g.M.Media.disk m)) (sym same) (ours_still (g.M.Media.disk c.args.world.now.media) ours)
  ];
  life = λ config text runs told nothing live. elim c.answer.ensures.untouched [
    | inl uses ↦ life_of config text runs (plain c.in-Some.command) _ _ g.W.Watch.hears _ _ c.answer.ensures.owed uses (nothing _ c.in-Some.ensures.only) told live
    | inr same ↦ subst (λ m. LivesOn config text runs (g.M.Media.disk c.args.world.now.media) (g.M.Media.disk m)) (sym same) (life_still config text runs (g.M.Media.disk c.args.world.now.media))
  ];
}

-- Over all commands, from what each of them owes.
pub returns-in_default-clause-runs : goal.returns-in_default-clause-runs
returns-in_default-clause-runs g c = search rules

pub returns-in_default-answer-clause-runs : goal.returns-in_default-answer-clause-runs
returns-in_default-answer-clause-runs g c = search rules

pub returns-clause-runs : goal.returns-clause-runs
returns-clause-runs g c = search rules

pub returns-in_default-clause-answers : goal.returns-in_default-clause-answers
returns-in_default-clause-answers g c =
    let runs = returns-in_default-clause-runs g c in
    answers_none _ _ _ _ _ _ runs (λ asked. runs.words_only refl asked.0 asked.1)

pub returns-in_default-clause-completes : goal.returns-in_default-clause-completes
returns-in_default-clause-completes g c = completes_by _ _ _ _ _ _ (returns-in_default-clause-runs g c)

pub returns-in_default-answer-clause-answers : goal.returns-in_default-answer-clause-answers
returns-in_default-answer-clause-answers g c = answers_one _ _ _ _ _ _ (returns-in_default-answer-clause-runs g c) (plain c.in-Some.command) c.in-Some.ensures.only

pub returns-in_default-answer-clause-completes : goal.returns-in_default-answer-clause-completes
returns-in_default-answer-clause-completes g c = completes_by _ _ _ _ _ _ (returns-in_default-answer-clause-runs g c)

pub returns-clause-answers : goal.returns-clause-answers
returns-clause-answers g c = answers_one _ _ _ _ _ _ (returns-clause-runs g c) (plain c.in-Some.command) c.in-Some.ensures.only

pub returns-clause-completes : goal.returns-clause-completes
returns-clause-completes g c = completes_by _ _ _ _ _ _ (returns-clause-runs g c)

use Rattle.std.proofs.Common.{◌≡◌, length}
use Rattle.vdr_sentence.specs.Characters.{each_passes, is_body_character}
use Rattle.vdr_sentence.proofs.characters.are_body_characters.Given as goal

abbrev pub invariant-loop-rest : goal.invariant-loop-rest
invariant-loop-rest l = each_passes is_body_character l.body ≡ each_passes is_body_character l.rest

abbrev pub decreases-loop-rest : goal.decreases-loop-rest
decreases-loop-rest l = length l.rest

use Rattle.std.proofs.Common.{◌≡◌, length}
use Rattle.vdr_sentence.specs.Characters.{each_passes, is_character}
use Rattle.vdr_sentence.proofs.characters.are_characters.Given as goal

abbrev pub invariant-loop-rest : goal.invariant-loop-rest
invariant-loop-rest l = each_passes is_character l.content ≡ each_passes is_character l.rest

abbrev pub decreases-loop-rest : goal.decreases-loop-rest
decreases-loop-rest l = length l.rest

use Rattle.answer_rules.proofs.Cuts.{cut_is_sound}
use Rattle.answer_rules.proofs.SoundChunks.{chunk_is_sound}
use Rattle.answer_rules.proofs.laws.chunk_is_sound.Goals as goal

pub returns-clause-any : goal.returns-clause-any
returns-clause-any c = chunk_is_sound

pub returns-clause-cut : goal.returns-clause-cut
returns-clause-cut c = cut_is_sound

use Rattle.codec.proofs.Words.{word-codec, word_cut, word-longer}
use Rattle.codec.proofs.word_laws.Goals as goal

pub returns : goal.returns
returns c = record { words = word-codec; shorter = word_cut; longer = word-longer }

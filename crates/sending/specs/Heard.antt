-- What comes of a word that a side heard. Assumes nothing.
--   word_of s  the bytes of what is sent
use Rattle.std.specs.Prelude.{ℕ}
use Rattle.locked.specs.Locked.{Bytes}
use Rattle.sending.specs.declared.heard.Sent.{Sent}
use Rattle.sending.specs.declared.heard.Sent.TheVariants.{Answer, Refusal}

abbrev pub word_of : {N : ℕ} → Sent N → Bytes
word_of (Answer w) = w
word_of (Refusal w) = w

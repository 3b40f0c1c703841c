-- The verbs: the first word of a line. Assumes nothing.
--   verb_of s   the verb that the word s is
use Rattle.std.specs.Prelude.{ℕ, cond, List, Some, None, codes, Option}
use Rattle.std.specs.Str.{bytes_eq}
use Rattle.commands.specs.declared.verbs.Verb.{Verb}
use Rattle.commands.specs.declared.verbs.Verb.TheVariants as verb

-- who there is, and the time; what readers and the archive do; what outsiders do with words and keys; what befalls a side
abbrev pub verb_of : List ℕ → Option Verb
verb_of s =
    cond (bytes_eq s (codes "town")) (Some verb.Town)
    (cond (bytes_eq s (codes "reader")) (Some verb.Reader)
    (cond (bytes_eq s (codes "service")) (Some verb.Service)
    (cond (bytes_eq s (codes "tick")) (Some verb.Tick)
    (cond (bytes_eq s (codes "want")) (Some verb.Want)
    (cond (bytes_eq s (codes "close")) (Some verb.Close)
    (cond (bytes_eq s (codes "hold")) (Some verb.Hold)
    (cond (bytes_eq s (codes "repeat")) (Some verb.Repeat)
    (cond (bytes_eq s (codes "join")) (Some verb.Join)
    (cond (bytes_eq s (codes "bytes")) (Some verb.Bytes)
    (cond (bytes_eq s (codes "steal")) (Some verb.Steal)
    (cond (bytes_eq s (codes "lock")) (Some verb.Lock)
    (cond (bytes_eq s (codes "unlock")) (Some verb.Unlock)
    (cond (bytes_eq s (codes "fall")) (Some verb.Fall)
    (cond (bytes_eq s (codes "cut")) (Some verb.Cut)
    (cond (bytes_eq s (codes "device")) (Some verb.Device) None)))))))))))))))

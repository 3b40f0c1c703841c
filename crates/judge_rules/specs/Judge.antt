-- What the judge holds, and what he says of a deed. Assumes nothing.
--
-- Noted, Act         a line and a deed in plain words
-- View               the judge as his contracts see him
-- fits lag a l       the line is not spent, and is of the same reader, for the same service, with the same words, and of lately
-- oldest lag a k ls  the first of these lines that fits, the first having the index k, and its tick
-- spend lag a ls     these lines, when the first that fits is spent
-- key_of m ps         the own key of a number
-- robbed v m         the own key of that number had been stolen
-- verdict v a        what the judge says of a deed
-- judged v a         what he is afterwards
-- noted, stole, joined  the judge when a line, a theft, a principal was noted
use Rattle.std.specs.Prelude.{ℕ, ◌+◌, Bool, true, false, cond, not, ◌&&◌, ◌||◌, List, [], ◌∷◌, ◌++◌, map, Some, None, vec_items, Option, ◌==◌}
use Rattle.judge_rules.specs.declared.record.Done.{Done}
use Rattle.judge_rules.specs.declared.record.Judge.{Judge}
use Rattle.judge_rules.specs.declared.record.Line.{Line}
use Rattle.judge_rules.specs.declared.record.Principal.{Principal}
use Rattle.judge_rules.specs.declared.record.Verdict.{Verdict}
use Rattle.judge_rules.specs.declared.record.Verdict.TheVariants.{Asked, NotAsked, Stolen}
use Rattle.parts.specs.Tick.{lately}
use Rattle.parts.specs.What.{words_in}
use Rattle.parts.specs.declared.word.Key.{Key}
use Rattle.std.specs.Str.{bytes_eq}

-- a line that no box refused, with its words, and whether it was spent
pub record Noted : Type 0 where
  pub reader : ℕ
  pub service : ℕ
  pub words : List ℕ
  pub at : ℕ
  pub spent : Bool

-- a deed: which service, for whom, in which words, when
pub record Act : Type 0 where
  pub service : ℕ
  pub reader : ℕ
  pub words : List ℕ
  pub at : ℕ

-- own: whoever has an own key; lines: the oldest first; stolen: the keys stolen so far
pub record View : Type 0 where
  pub lag : ℕ
  pub own : List Principal
  pub lines : List Noted
  pub stolen : List Key

abbrev pub plain : Line → Noted
plain l = record { reader = l.wanted.reader; service = l.wanted.service; words = words_in l.wanted.what; at = l.wanted.at; spent = l.spent }

abbrev pub act_of : Done → Act
act_of d = record { service = d.service; reader = d.reader; words = words_in d.what; at = d.at }

abbrev pub seen : Judge → View
seen j = record { lag = j.lag; own = vec_items j.principals; lines = map plain (vec_items j.lines); stolen = vec_items j.stolen }

-- the judge with other lines, other thefts, other principals
abbrev pub with_lines : List Noted → View → View
with_lines ls v = record { lag = v.lag; own = v.own; lines = ls; stolen = v.stolen }

abbrev pub with_stolen : List Key → View → View
with_stolen ks v = record { lag = v.lag; own = v.own; lines = v.lines; stolen = ks }

abbrev pub with_own : List Principal → View → View
with_own ps v = record { lag = v.lag; own = ps; lines = v.lines; stolen = v.stolen }

-- at the start the house alone has a key
abbrev pub fresh : ℕ → Key → View
fresh lag k = record { lag = lag; own = record { number = 0; key = k } ∷ []; lines = []; stolen = [] }

abbrev pub fits : ℕ → Act → Noted → Bool
fits lag a l =
    not l.spent
    && (l.reader == a.reader && (l.service == a.service && (lately a.at lag l.at && bytes_eq l.words a.words)))

-- which line was found: how many came before it, and its tick
pub record Found : Type 0 where
  pub index : ℕ
  pub at : ℕ

abbrev pub oldest : ℕ → Act → ℕ → List Noted → Option Found
oldest lag a k [] = None
oldest lag a k (l ∷ ls) = cond (fits lag a l) (Some (record { index = k; at = l.at })) (oldest lag a (k + 1) ls)

abbrev pub spent_line : Noted → Noted
spent_line l = record { reader = l.reader; service = l.service; words = l.words; at = l.at; spent = true }

abbrev pub spend : ℕ → Act → List Noted → List Noted
spend lag a [] = []
spend lag a (l ∷ ls) = cond (fits lag a l) (spent_line l ∷ ls) (l ∷ spend lag a ls)

abbrev pub key_of : ℕ → List Principal → Option Key
key_of m [] = None
key_of m (p ∷ ps) = cond (p.number == m) (Some p.key) (key_of m ps)

-- these bytes are among these keys
abbrev pub is_key_in : Key → List Key → Bool
is_key_in k [] = false
is_key_in k (x ∷ xs) = bytes_eq x.0 k.0 || is_key_in k xs

abbrev pub is_taken : Option Key → List Key → Bool
is_taken None ks = false
is_taken (Some k) ks = is_key_in k ks

-- where two have one key, the theft of one's key is the theft of the other's
abbrev pub robbed : View → ℕ → Bool
robbed v m = is_taken (key_of m v.own) v.stolen

-- no line accounts for it: which keys of the three had been stolen
abbrev pub unasked : (reader service house : Bool) → Verdict
unasked r s h = cond (r || (s || h)) (Stolen r s h) NotAsked

abbrev pub said : Option Found → Verdict → Verdict
said None o = o
said (Some f) o = Asked (f.index + 1) f.at

abbrev pub verdict : View → Act → Verdict
verdict v a = said (oldest v.lag a 0 v.lines) (unasked (robbed v a.reader) (robbed v a.service) (robbed v 0))

-- the line that accounts for it is spent; nothing else changes
abbrev pub judged : View → Act → View
judged v a = with_lines (spend v.lag a v.lines) v

-- a new line, not spent
abbrev pub line_of : (reader service : ℕ) → List ℕ → ℕ → Noted
line_of r s ws t = record { reader = r; service = s; words = ws; at = t; spent = false }

abbrev pub noted : View → Noted → View
noted v l = with_lines (v.lines ++ l ∷ []) v

abbrev pub with_key : Option Key → List Key → List Key
with_key None ks = ks
with_key (Some k) ks = ks ++ k ∷ []

-- the theft of a number that has no own key is nothing
abbrev pub stole : View → ℕ → View
stole v m = with_stolen (with_key (key_of m v.own) v.stolen) v

abbrev pub joined : View → Principal → View
joined v p = with_own (v.own ++ p ∷ []) v

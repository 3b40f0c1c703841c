-- What outsiders may know in a state, and that a state that has grown keeps it. Assumes nothing.
use mathlib.Core.Path.{◌≡◌}
use mathlib.Core.Bool.{true}
use mathlib.Core.List.{Memᴰ}
use Prim.Native.Nat.{ℕ, ◌+◌, ◌*◌, ◌≤◌}
use Rattle.tickets.specs.Term.{Term, Num, Drawn, Own, Pair, Lock, even}
use Rattle.tickets.specs.State.{Rules, Line, LoggingIn, Wish, Key, Asked, Done, State, is_in, relies}
use Rattle.tickets.specs.Event.{body_term, body_of}
use Rattle.tickets.proofs.Bools.{Sub, Unsafe, any_in-sub}

-- what outsiders may know: numbers, stolen keys, draws of their own, the numbers of logins and askings, session keys that aren't safe,
-- pairs and locks of what they know, and every lock that one of the honest made
pub data Known (r : Rules) (s : State) : Term → Type 0 where
  number : (n : ℕ) → Known r s (Num n)
  stolen : (a : ℕ) → is_in a s.stolen ≡ true → Known r s (Own a)
  odd : (n d : ℕ) → d ≡ n * 2 + 1 → Known r s (Drawn d)
  wish-number : (x : Wish) (d : ℕ) → Memᴰ x s.wishes → d ≡ x.number * 2 → Known r s (Drawn d)
  asking-number : (q : Asked) (d : ℕ) → Memᴰ q s.asked → d ≡ q.number * 2 → Known r s (Drawn d)
  unsafe-key : (m : Key) (d : ℕ) → Memᴰ m s.made → Unsafe r s.stolen m.who m.service → d ≡ m.key * 2 → Known r s (Drawn d)
  pair : {a e : Term} → Known r s a → Known r s e → Known r s (Pair a e)
  lock : {k t : Term} (n : ℕ) → Known r s k → Known r s t → Known r s (Lock n k t)
  a-ticket : (m : Key) (k t : Term) → Memᴰ m s.made → k ≡ Own (r.key_of m.service) → t ≡ body_term (body_of m) → Known r s (Lock 1 k t)
  a-letter : (m : Key) (k t : Term) → Memᴰ m s.made → k ≡ m.under
      → t ≡ Pair m.upon (Pair (Num m.service) (Pair (even m.key) (Num m.until))) → Known r s (Lock 2 k t)
  an-asking : (q : Asked) (k t : Term) → Memᴰ q s.asked → k ≡ q.key
      → t ≡ Pair (Num q.service) (Pair (even q.number) (Pair q.what (Num q.at))) → Known r s (Lock 3 k t)
  a-login : (x : Wish) (k t : Term) → Memᴰ x s.wishes → x.stage ≡ LoggingIn → k ≡ Own x.line.reader
      → t ≡ Pair (even x.number) (Num x.since) → Known r s (Lock 4 k t)
  a-receipt : (d : Done) (k t : Term) → Memᴰ d s.done → k ≡ d.key → t ≡ d.number → Known r s (Lock 5 k t)

-- a later state has all that an earlier one has
pub record Grows (s t : State) : Type 0 where
  pub now_le : s.now ≤ t.now
  pub next_le : s.next ≤ t.next
  pub thefts : Sub s.stolen t.stolen
  pub taken : Sub s.taken t.taken
  pub lines : (l : Line) → Memᴰ l s.lines → Memᴰ l t.lines
  pub wishes : (x : Wish) → Memᴰ x s.wishes → Memᴰ x t.wishes
  pub made : (m : Key) → Memᴰ m s.made → Memᴰ m t.made
  pub asked : (q : Asked) → Memᴰ q s.asked → Memᴰ q t.asked
  pub done : (d : Done) → Memᴰ d s.done → Memᴰ d t.done

-- what is known stays known
pub known-grows : {r : Rules} {s t : State} {x : Term} → Grows s t → Known r s x → Known r t x
known-grows g (number n) = number n
known-grows g (stolen a h) = stolen a (g.thefts a h)
known-grows g (odd n d h) = odd n d h
known-grows g (wish-number x d h e) = wish-number x d (g.wishes x h) e
known-grows g (asking-number q d h e) = asking-number q d (g.asked q h) e
known-grows {r} {s} {t} g (unsafe-key m d h u e) =
    unsafe-key m d (g.made m h) (any_in-sub (relies r m.who m.service) s.stolen t.stolen g.thefts u) e
known-grows g (pair a e) = pair (known-grows g a) (known-grows g e)
known-grows g (lock n k t) = lock n (known-grows g k) (known-grows g t)
known-grows g (a-ticket m k t h i j) = a-ticket m k t (g.made m h) i j
known-grows g (a-letter m k t h i j) = a-letter m k t (g.made m h) i j
known-grows g (an-asking q k t h i j) = an-asking q k t (g.asked q h) i j
known-grows g (a-login x k t h y i j) = a-login x k t (g.wishes x h) y i j
known-grows g (a-receipt d k t h i j) = a-receipt d k t (g.done d h) i j

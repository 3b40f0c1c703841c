-- After a start. Assumes nothing.
use Rattle.std.proofs.Common.{◌≡◌, ℕ, ◌+◌, ◌-◌, ◌*◌, ◌<◌, ◌≤◌, Bool, true, false, cond, eqb, ◌⊎◌, List, length, get_or, take, drop, replicate, Some, None, Option, sym, refl, ap, ◌∙◌, subst, inl, inr, arith}
use Rattle.account_laws.proofs.Codec.{at_in, full-in, length-in, low-from}
use Rattle.account_laws.proofs.Sound.{Sound, finds-some, newest-stands, on-newest, rise-same}
use Rattle.account_laws.specs.Falls.{Rise, Risen}
use Rattle.accounts.specs.Bytes.{head_at, measure-is, steady}
use Rattle.accounts.specs.Entry.{account_in, key_bytes, stated}
use Rattle.accounts.specs.File.{Begins, State, all_in, begun, holding, state, whole}
use Rattle.accounts.specs.Payload.{account_at, accounts_in, low, measure}
use Rattle.halves.proofs.Written.{decoded-after, part-after}
use Rattle.halves.specs.Blocks.{Blocks, Writes, block, over}
use Rattle.halves.specs.Half.{decoded, half, payload_in}
use Rattle.halves.specs.Halves.{Makes, Starts, good_of, is_new, known_of, part_of, payload_of, standing, whether}
use Rattle.halves.specs.declared.halves.Good.{Good}
use Rattle.halves.specs.declared.halves.Halves.{Halves}
use Rattle.halves.specs.declared.which.Which.{Which}
use Rattle.halves.specs.declared.which.Which.TheVariants.{First, Second}
use Rattle.house_rules.specs.Account.{account_of}
use Rattle.parts.specs.declared.account.Account.{Account}
use Rattle.parts.specs.declared.account.Account.TheVariants.{Absent}
use Rattle.std.proofs.lemmas.List.{drop-replicate, get_or_past, get_or-replicate, length-replicate, take-replicate}
use Rattle.std.proofs.lemmas.Bool.{cases_lt, eqb-true}

-- what is held after a start was found in the newest good half
pub record Held (h : Halves) (b : Blocks) (s : State) : Type 0 where
  pub good : Good
  pub newest : h.newest ≡ Some good
  pub size : whole b ≡ true
  pub len : length (payload_of (Some good) b) ≡ 33792
  pub same : s ≡ state (accounts_in (payload_of (Some good) b)) h b

pub held-is : (h : Halves) (b : Blocks) (s : State) → Some s ≡ begun h b → Held h b s
held-is h b s e = on (whole b) refl e
  where
    by : (g : Good) (v : Bool) → whole b ≡ true → h.newest ≡ Some g → eqb (length (payload_of (Some g) b)) 33792 ≡ v
        → Some s ≡ holding (cond v (Some (accounts_in (payload_of (Some g) b))) None) h b → Held h b s
    by g true w n l f = record { good = g; newest = n; size = w; len = eqb-true _ 33792 l; same = (cc) }
    by g false w n l f = let z : ◌≡◌ {A = ℕ} 0 1 = cc in absurd (omega arith)

    at : (o : Option Good) → whole b ≡ true → h.newest ≡ o → Some s ≡ holding (all_in (payload_of o b)) h b → Held h b s
    at None w n f = let z : ◌≡◌ {A = ℕ} 0 1 = cc in absurd (omega arith)
    at (Some g) w n f = by g (eqb (length (payload_of (Some g) b)) 33792) w n refl f

    on : (v : Bool) → whole b ≡ v → Some s ≡ holding (cond v (all_in (payload_of h.newest b)) None) h b → Held h b s
    on true w f = at h.newest w refl f
    on false w f = let z : ◌≡◌ {A = ℕ} 0 1 = cc in absurd (omega arith)

abbrev pub SoundAt : State → Type 0
SoundAt s = Sound s.accounts s.known s.blocks

-- a file that was read
pub read-sound : (b : Blocks) (s : State) → Some s ≡ begun (standing measure b) b → SoundAt s
read-sound b s e =
    let h = standing measure b in
    let i = held-is h b s e in
    let g = i.good in
    let xs = accounts_in (payload_of (Some g) b) in
    let P : State → Type 0 = λ t. SoundAt t in
    let it : SoundAt (state xs h b) = record {
      full = full-in (payload_of (Some g) b) i.len;
      size = i.size;
      good = g;
      newest = i.newest;
      stands = newest-stands b g i.newest;
      holds = refl;
      later = record { then = xs; found = on-newest b g i.size i.newest; risen = rise-same xs xs refl };
    } in
    subst P (sym i.same) it

-- bytes that are all zero
abbrev Zero : List ℕ → Type 0
Zero p = (i : ℕ) → get_or p i 0 ≡ 0

zero-replicate : (n : ℕ) → Zero (replicate n 0)
zero-replicate n i = go (cases_lt i n)
  where
    go : (i < n) ⊎ (n ≤ i) → get_or {A = ℕ} (replicate n 0) i 0 ≡ 0
    go (inl h) = get_or-replicate n i 0 0 h
    go (inr h) = get_or_past (replicate n 0) i 0 (omega (arith, length-replicate {A = ℕ} n 0))

-- accounts in zeros are absent
absent-at : (p : List ℕ) → Zero p → (n : ℕ) → account_at p n ≡ Absent
absent-at p z n = go (eqb n 0)
  where
    x : List ℕ
    x = take 33 (drop (33 * n) p)

    go : (v : Bool) → cond v Absent (account_in x) ≡ Absent
    go true = refl
    go false = ap (λ (k : ℕ). stated k (key_bytes x)) (head_at p (33 * n) ∙ z (33 * n))

absent-in : (p : List ℕ) → Zero p → (n : ℕ) → account_of (accounts_in p) n ≡ Absent
absent-in p z n = go (cases_lt n 1024)
  where
    go : (n < 1024) ⊎ (1024 ≤ n) → account_of (accounts_in p) n ≡ Absent
    go (inl h) = at_in p n h ∙ absent-at p z n
    go (inr h) = get_or_past (accounts_in p) n Absent (omega (arith, length-in p))

rise-absent : (xs ys : List Account) → ((n : ℕ) → account_of xs n ≡ Absent) → Rise xs ys
rise-absent xs ys a n = let P : Account → Type 0 = λ x. Risen x (account_of ys n) in subst P (sym (a n)) tt

-- a half of zeros that was written and is known as the newest
made_at : (c : Blocks) (h : Halves) (s : State) (w : Which) (t : ℕ) (p : List ℕ) → Zero p → length p ≡ 33792
    → h.newest ≡ Some (good_of w record { turn = t; len = 33792 })
    → decoded measure (block w c) ≡ Some record { turn = t; len = length p }
    → part_of (length p) (block w c) ≡ p
    → Some s ≡ begun h c → SoundAt s
made_at c h s w t p z l n d e f =
    let i = held-is h c s f in
    let g : Good = (good_of w record { turn = t; len = 33792 }) in
    let same : i.good ≡ g = cc in
    let q : payload_of (Some i.good) c ≡ p =
    ap (λ (y : Good). payload_of (Some y) c) same ∙ ap (λ (k : ℕ). part_of k (block w c)) (sym l) ∙ e in
    let xs = accounts_in (payload_of (Some i.good) c) in
    let D : Good → Type 0 = λ y. decoded measure (block y.which c) ≡ Some y.half in
    let d' : D g = d ∙ ap (λ (k : ℕ). Some record { turn = t; len = k }) l in
    let ys = finds-some c w record { turn = t; len = length p } i.size d in
    let none : (k : ℕ) → account_of xs k ≡ Absent = λ k. ap (λ (y : List ℕ). account_of (accounts_in y) k) q ∙ absent-in p z k in
    let P : State → Type 0 = λ y. SoundAt y in
    let it : SoundAt (state xs h c) = record {
      full = full-in (payload_of (Some i.good) c) i.len;
      size = i.size;
      good = i.good;
      newest = i.newest;
      stands = subst D (sym same) d';
      holds = refl;
      later = record { then = ys.0; found = ys.1; risen = rise-absent xs ys.0 none };
    } in
    subst P (sym i.same) it

-- a file that was made: whatever the writes left, nobody had an account
made_by : (one two : Bool) (p : List ℕ) (b m c : Blocks) (h : Halves) (s : State) → Zero p → length p ≡ 33792 → measure p ≡ Some (length p)
    → Writes First (half 1 p) b one m → Writes Second (half 2 p) m two c
    → h.newest ≡ (known_of 2 (whether one 1 33792) (whether two 2 33792)).newest
    → Some s ≡ begun h c → SoundAt s
made_by true true p b m c h s z l f u v n e =
    let d : block Second c ≡ over (half 2 p) m.second = ap (block Second) v in
    made_at c h s Second 2 p z l n (ap (decoded measure) d ∙ decoded-after measure steady 2 p m.second (omega arith) (omega arith) f)
    (ap (part_of (length p)) d ∙ part-after 2 p m.second) e
made_by false true p b m c h s z l f u v n e =
    let d : block Second c ≡ over (half 2 p) m.second = ap (block Second) v in
    made_at c h s Second 2 p z l n (ap (decoded measure) d ∙ decoded-after measure steady 2 p m.second (omega arith) (omega arith) f)
    (ap (part_of (length p)) d ∙ part-after 2 p m.second) e
made_by true false p b m c h s z l f u v n e =
    let d : block First c ≡ over (half 1 p) b.first = v ∙ ap (block First) u in
    made_at c h s First 1 p z l n (ap (decoded measure) d ∙ decoded-after measure steady 1 p b.first (omega arith) (omega arith) f)
    (ap (part_of (length p)) d ∙ part-after 1 p b.first) e
made_by false false p b m c h s z l f u v n e =
    let i = held-is h c s e in
    let y : Some i.good ≡ None = sym i.newest ∙ n in
    let k : ◌≡◌ {A = ℕ} 0 1 = cc in
    absurd (omega arith)

made-sound : (b c : Blocks) (x : List ℕ) (h : Halves) (s : State) (left : List ℕ) → Zero (payload_in x) → length x ≡ 33816 → length (payload_in x) ≡ 33792
    → Makes b x h c left → Some s ≡ begun h c → SoundAt s
made-sound b c x h s left z l lp m e =
    let p = payload_in x in
    let n : length x - 24 ≡ 33792 = omega arith in
    let lo : low p 1023 ≡ true = low-from p 1023 (λ j k. let q = z (33 * (j + 1)) in omega arith) in
    let f : measure p ≡ Some (length p) = measure-is p (omega arith) lo ∙ ap Some (sym lp) in
    let k : h.newest ≡ (known_of 2 (whether m.one 1 33792) (whether m.two 2 33792)).newest =
    ap (λ (y : Halves). y.newest) m.known ∙ ap (λ (j : ℕ). (known_of 2 (whether m.one 1 j) (whether m.two 2 j)).newest) n in
    made_by m.one m.two p b m.between c h s z lp f m.first m.second k e

zero-payload : (k : ℕ) → payload_in (replicate k 0) ≡ replicate (k - 24) 0
zero-payload k =
    ap (λ (n : ℕ). take (n - 24) (drop 8 (replicate k 0))) (length-replicate {A = ℕ} k 0)
    ∙ ap (take (k - 24)) (drop-replicate 8 k 0)
    ∙ take-replicate (k - 24) (k - 8) 0 (omega arith)

-- every start that is not refused
pub start-sound : (b c : Blocks) (s : State) → Begins b (Some s) c → SoundAt s
start-sound b c s g = by (is_new 33792 b) (replicate 33816 0) refl g.starts g.holds
  where
    by : (v : Bool) (x : List ℕ) → x ≡ replicate 33816 0 → Starts v measure b x g.known c g.left → Some s ≡ begun g.known c → SoundAt s
    by true x q m e =
        let p : payload_in x ≡ replicate 33792 0 = ap payload_in q ∙ zero-payload 33816 in
        let Z : List ℕ → Type 0 = λ y. Zero y in
        made-sound b c x g.known s g.left (subst Z (sym p) (zero-replicate 33792)) (ap length q ∙ length-replicate {A = ℕ} 33816 0)
        (ap length p ∙ length-replicate {A = ℕ} 33792 0) m e
    by false x q m e =
        let P : Halves → Blocks → Type 0 = λ h d. Some s ≡ begun h d in
        read-sound b s (e ∙ ap (λ (h : Halves). begun h c) m.0 ∙ ap (λ (d : Blocks). begun (standing measure b) d) m.1)

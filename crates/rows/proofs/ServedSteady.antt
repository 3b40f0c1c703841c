-- What holds of every row that can happen: one tick for all, own keys in boxes and accounts, and old names for the numbers under way. Assumes nothing.
use Rattle.std.proofs.Common.{◌≡◌, ℕ, zero, suc, ◌<◌, ◌≤◌, Bool, true, false, cond, not, ◌||◌, eqb, ◌⊎◌, List, [], ◌∷◌, ◌++◌, length, take, set, replicate, Some, None, Ok, Err, filter, Option, sym, refl, ap, ◌∙◌, subst, inl, inr, arith, length-append, eqb-true}
use mathlib.Core.List.Memᴰ
use mathlib.Core.List.{Memᴰ}
use Rattle.std.specs.Str.{bytes_eq}
use Rattle.parts.specs.Condition.{first_fault, unless}
use Rattle.parts.specs.Drawn.{number_of}
use Rattle.parts.specs.Tick.{clock}
use Rattle.parts.specs.declared.account.Account.{Account}
use Rattle.parts.specs.declared.account.Account.TheVariants.{Absent, Closed, Open}
use Rattle.parts.specs.declared.fault.Fault.{Fault}
use Rattle.parts.specs.declared.fault.Fault.TheVariants.{OutOfRange}
use Rattle.parts.specs.declared.tick.Ticked.{Ticked}
use Rattle.parts.specs.declared.tick.Ticked.TheVariants.{On, Back, Stopped}
use Rattle.parts.specs.declared.word.Letter.{Letter}
use Rattle.parts.specs.declared.word.What.{What}
use Rattle.service_rules.specs.Service.{View, view, nobody}
use Rattle.service_rules.specs.Service as service
use Rattle.service_rules.specs.Side.{on_tick, set_tick}
use Rattle.held.specs.declared.cut.Cut.{Cut}
use Rattle.service_rules.specs.declared.side.Side.{Side}
use Rattle.house_rules.specs.Account.{account_of, unknown, own_key}
use Rattle.parts.specs.Account.{is_absent, key_in}
use Rattle.house_rules.specs.Change.{changed, opened, opened_after, shut, shut_after, closed_of}
use Rattle.house_rules.specs.Change.{Answer as Changed}
use Rattle.house_rules.specs.declared.change.Changed.TheVariants.{Done, Same}
use Rattle.house_rules.specs.House.{Home, readable}
use Rattle.house_rules.specs.House as house
use Rattle.box_rules.specs.Line as line
use Rattle.box_rules.specs.Letter as letter
use Rattle.box_rules.specs.Table.{without}
use Rattle.box_rules.specs.Line.{Told}
use Rattle.box_rules.specs.declared.answer.Answer.TheVariants as told
use Rattle.box_rules.specs.declared.line.Pass.{Pass}
use Rattle.box_rules.specs.declared.line.Pending.{Pending}
use Rattle.box_rules.specs.declared.line.Under.{Under}
use Rattle.box_rules.specs.declared.line.Under.TheVariants.{Own as OwnKey, Session}
use Rattle.tickets.specs.Term.{Term, even}
use Rattle.tickets.proofs.Bools.{clash, or-false-left, or-false-right}
use Rattle.rows.specs.Name.{Bytes, Naming, own_of}
use Rattle.rows.specs.Word.{told_sent, told_drawn, reply_sent, reply_drawn, answer_sent}
use Rattle.rows.specs.Setting.{Setting}
use Rattle.rows.proofs.Matches.{told_box}
use Rattle.rows.specs.System.{System, Box, Act, at, step, run, first, Can, Possible, New, with_home, with-side, with_box, with_sent, home_left, home_accounts, home_memory, box_left, empty_box, view_of, crashed_view, crashed_home, restarted}
use Rattle.rows.specs.System

-- one of many: the changed one, or as before
pub at-either : {A : Type 0} (P : ℕ → A → Type 0) (k : ℕ) (x : A) (f : ℕ → A) → P k x → (j : ℕ) → P j (f j) → P j (at k x f j)
at-either {A} P k x f h j old = go (eqb j k) refl
  where
    go : (b : Bool) → eqb j k ≡ b → P j (cond b x (f j))
    go true e = subst (λ (i : ℕ). P i x) (sym (eqb-true j k e)) h
    go false e = old

-- what holds of both ways
pub unless-either : {A : Type 0} (P : A → Type 0) (o : Option Fault) (x : A) (f : Fault → A) → P x → ((e : Fault) → P (f e)) → P (unless o x f)
unless-either P None x f h k = h
unless-either P (Some e) x f h k = k e

pub cond_either : {A : Type 0} (P : A → Type 0) (b : Bool) (x y : A) → P x → P y → P (cond b x y)
cond_either P true x y h k = h
cond_either P false x y h k = k

-- and of two things together
pub unless-both : {A B : Type 0} (P : A → B → Type 0) (o : Option Fault) (x : A) (f : Fault → A) (y : B) (g : Fault → B) → P x y → ((e : Fault) → P (f e) (g e)) → P (unless o x f) (unless o y g)
unless-both P None x f y g h k = h
unless-both P (Some e) x f y g h k = k e

pub cond_both : {A B : Type 0} (P : A → B → Type 0) (b : Bool) (x x' : A) (y y' : B) → P x y → P x' y' → P (cond b x x') (cond b y y')
cond_both P true x x' y y' h k = h
cond_both P false x x' y y' h k = k

-- where a side's tick goes
abbrev now_at : ℕ → ℕ → Ticked → ℕ
now_at t to On = to
now_at t to Back = t
now_at t to Stopped = t

set-now : (x : Side) (to : ℕ) (r : Ticked) → (set_tick x to r).now ≡ now_at x.now to r
set-now x to On = refl
set-now x to Back = refl
set-now x to Stopped = refl

set-number : (x : Side) (to : ℕ) (r : Ticked) → (set_tick x to r).number ≡ x.number
set-number x to On = refl
set-number x to Back = refl
set-number x to Stopped = refl

tick-now : (x y : Side) (to : ℕ) → x.now ≡ y.now → (on_tick x to).now ≡ (on_tick y to).now
tick-now x y to e = set-now x to (clock x.now to) ∙ (ap (λ (k : ℕ). now_at k to (clock k to)) e ∙ sym (set-now y to (clock y.now to)))

-- a side that starts again has its number and tick
restart-now : (x : Side) (j : Bool) (w : ℕ) → (restarted x (cond j (Err OutOfRange) (Ok (record { number = x.number; lag = x.lag; now = x.now; wake = w })))).now ≡ x.now
restart-now x true w = refl
restart-now x false w = refl

restart-number : (x : Side) (j : Bool) (w : ℕ) → (restarted x (cond j (Err OutOfRange) (Ok (record { number = x.number; lag = x.lag; now = x.now; wake = w })))).number ≡ x.number
restart-number x true w = refl
restart-number x false w = refl

crash-now : (cut : Cut ℕ) (w : View) → (crashed_view cut w).side.now ≡ w.side.now
crash-now cut w = restart-now w.side _ _

crash-number : (cut : Cut ℕ) (w : View) → (crashed_view cut w).side.number ≡ w.side.number
crash-number cut w = restart-number w.side _ _

-- an account that is written stands at its number only
account-set : (xs : List Account) (m : ℕ) (x : Account) (j : ℕ) → (account_of (set xs m x) j ≡ account_of xs j) ⊎ ((j ≡ m) × (account_of (set xs m x) j ≡ x))
account-set [] m x j = inl refl
account-set (y ∷ xs) zero x zero = inr (refl, refl)
account-set (y ∷ xs) zero x (suc j) = inl refl
account-set (y ∷ xs) (suc m) x zero = inl refl
account-set (y ∷ xs) (suc m) x (suc j) = go (account-set xs m x j)
  where
    go : (account_of (set xs m x) j ≡ account_of xs j) ⊎ ((j ≡ m) × (account_of (set xs m x) j ≡ x))
        → (account_of (set xs m x) j ≡ account_of xs j) ⊎ ((suc j ≡ suc m) × (account_of (set xs m x) j ≡ x))
    go (inl e) = inl e
    go (inr e) = inr (ap suc e.0, e.1)

absent-all : (i k : ℕ) → account_of (replicate i Absent) k ≡ Absent
absent-all zero k = refl
absent-all (suc i) zero = refl
absent-all (suc i) (suc k) = absent-all i k

drawn-more : (xs used : List Bytes) → length used ≤ length (xs ++ used)
drawn-more xs used = let e = length-append xs used in omega arith

closed-there : (x : Account) → is_absent (closed_of x) ≡ false → is_absent x ≡ false
closed-there Absent h = h
closed-there (Open k) h = refl
closed-there (Closed k) h = refl

closed-key : (x : Account) → key_in (closed_of x) ≡ key_in x
closed-key Absent = refl
closed-key (Open k) = refl
closed-key (Closed k) = refl

module _ (c : Setting) (n : Naming c.own) where
  -- numbers with names of draws up to the k-th
  abbrev pub Below : ℕ → List Pending → Type 0
  Below k ps = (p : Pending) → Memᴰ p ps → (i : ℕ) × (n.name p.number.0 ≡ even i) × (i ≤ k)

  pub record AccountsSteady (xs : List Account) (k : ℕ) : Type 0 where
    pub there : k < length c.own
    pub own : own_key xs k ≡ own_of c.own k

  pub record SideSteady (now v : ℕ) (u : View) : Type 0 where
    pub now_is : u.side.now ≡ now
    pub number_is : u.side.number ≡ v

  pub record BoxSteady (now used a : ℕ) (b : Box) : Type 0 where
    pub now_is : b.now ≡ now
    pub key_is : b.key ≡ own_of c.own a
    pub logins : Below used b.logins
    pub askings : Below used b.askings

  pub record Steady (s : System) : Type 0 where
    pub accounts : (k : ℕ) → unknown s.home.accounts k ≡ false → AccountsSteady s.home.accounts k
    pub sides : (v : ℕ) → SideSteady s.home.side.now v (s.side v)
    pub boxes : (a : ℕ) → BoxSteady s.home.side.now (length s.used) a (s.box a)

  below-nil : (k : ℕ) → Below k []
  below-nil k p h = absurd (Memᴰ.not-nil h)

  below_more : (j k : ℕ) (ps : List Pending) → j ≤ k → Below j ps → Below k ps
  below_more j k ps h b p m = let r = b p m in let q = r.2 in (r.0, r.1, omega arith)

  below-cons : (k : ℕ) (x : Pending) (ps : List Pending) → (i : ℕ) × (n.name x.number.0 ≡ even i) × (i ≤ k) → Below k ps → Below k (x ∷ ps)
  below-cons k x ps h b p m = go (Memᴰ.cases_cons m)
    where
      go : (p ≡ x) ⊎ Memᴰ p ps → (i : ℕ) × (n.name p.number.0 ≡ even i) × (i ≤ k)
      go (inl e) = (h.0, ap (λ (y : Pending). n.name y.number.0) e ∙ h.1, h.2)
      go (inr j) = b p j

  below-tail : (k : ℕ) (x : Pending) (ps : List Pending) → Below k (x ∷ ps) → Below k ps
  below-tail k x ps b p m = b p (Memᴰ.tail m)

  pub below-take : (k i : ℕ) (ps : List Pending) → Below k ps → Below k (take i ps)
  below-take k zero [] b = below-nil k
  below-take k (suc i) [] b = below-nil k
  below-take k zero (x ∷ ps) b = below-nil k
  below-take k (suc i) (x ∷ ps) b = below-cons k x (take i ps) (b x (Memᴰ.head refl)) (below-take k i ps (below-tail k x ps b))

  below-kept : (k : ℕ) (f : Pending → Bool) (ps : List Pending) → Below k ps → Below k (filter f ps)
  below-kept k f [] b = b
  below-kept k f (x ∷ ps) b =
      let rest = below-kept k f ps (below-tail k x ps b) in
      cond_either (λ (l : List Pending). Below k l) (f x) (x ∷ filter f ps) (filter f ps) (below-cons k x (filter f ps) (b x (Memᴰ.head refl)) rest) rest

  -- more draws were used
  box-used : (now j k a : ℕ) (b : Box) → j ≤ k → BoxSteady now j a b → BoxSteady now k a b
  box-used now j k a b h o = record { now_is = o.now_is; key_is = o.key_is; logins = below_more j k b.logins h o.logins; askings = below_more j k b.askings h o.askings }

  -- a draw with the next name
  newest : (s : System) (x : Bytes) → n.name x ≡ even (suc (length s.used)) → (i : ℕ) × (n.name x ≡ even i) × (i ≤ suc (length s.used))
  newest s x e = (suc (length s.used), e, omega arith)

  abbrev Keeps : System → ℕ → Told → Box → Type 0
  Keeps s a r b = New c n s (told_drawn r) → BoxSteady s.home.side.now (length (told_drawn r ++ s.used)) a b

  -- a line, and a letter, leave a box steady
  line-keeps : (s : System) (a v : ℕ) (by : Option ℕ) (w : What) (b : Box) → BoxSteady s.home.side.now (length s.used) a b
      → Keeps s a (line.wanted b v by w) (line.wanted_after b v by w)
  line-keeps s a v by w b o =
      cond_both (Keeps s a) (line.unread b.lines v w) (Err OutOfRange) _ b _ (λ _. o)
      (unless-both (Keeps s a) (first_fault (line.line_conditions b v by)) (line.sent_by b (line.pass_by by b.tickets) (line.line_of b v w)) Err (line.sent_after b (line.pass_by by b.tickets) (line.line_of b v w)) (λ _. b) (go (line.pass_by by b.tickets)) (λ _ _. o))
    where
      up : BoxSteady s.home.side.now (suc (length s.used)) a b
      up = box-used s.home.side.now (length s.used) (suc (length s.used)) a b (omega arith) o

      go : (p : Option Pass) → Keeps s a (line.sent_by b p (line.line_of b v w)) (line.sent_after b p (line.line_of b v w))
      go None e =
          record {
            now_is = o.now_is;
            key_is = o.key_is;
            logins = below-take (suc (length s.used)) 16 _ (below-cons (suc (length s.used)) (record { number = number_of b.left; key = b.key; asks = 0; line = line.line_of b v w }) b.logins (newest s (number_of b.left).0 e) up.logins);
            askings = up.askings;
          }
      go (Some p) e =
          record {
            now_is = o.now_is;
            key_is = o.key_is;
            logins = up.logins;
            askings = below-take (suc (length s.used)) 16 _ (below-cons (suc (length s.used)) (record { number = number_of b.left; key = p.key; asks = p.service; line = line.line_of b v w }) b.askings (newest s (number_of b.left).0 e) up.askings);
          }

  letter-keeps : (s : System) (a : ℕ) (u : Under) (l : Letter) (b : Box) → BoxSteady s.home.side.now (length s.used) a b
      → Keeps s a (letter.taken b u l) (letter.taken_after b u l tt)
  letter-keeps s a u l b o =
      unless-both (Keeps s a) (first_fault (letter.letter_conditions b u l)) (letter.taken_by b l (letter.pending_for b u l)) Err (letter.taken_from b u l tt (letter.pending_for b u l)) (λ _. b) (go u (letter.pending_for b u l)) (λ _ _. o)
    where
      k : ℕ
      k = suc (length s.used)

      up : BoxSteady s.home.side.now (suc (length s.used)) a b
      up = box-used s.home.side.now (length s.used) (suc (length s.used)) a b (omega arith) o

      go : (u : Under) (p : Option Pending) → Keeps s a (letter.taken_by b l p) (letter.taken_from b u l tt p)
      go OwnKey None e = o
      go (Session x) None e = o
      go OwnKey (Some p) e =
          record {
            now_is = o.now_is;
            key_is = o.key_is;
            logins = below-kept (suc (length s.used)) (λ q. not (bytes_eq q.number.0 l.number.0)) b.logins up.logins;
            askings = below-take (suc (length s.used)) 16 _ (below-cons (suc (length s.used)) (record { number = number_of b.left; key = l.key; asks = l.service; line = p.line }) b.askings (newest s (number_of b.left).0 e) up.askings);
          }
      go (Session x) (Some p) e =
          record {
            now_is = o.now_is;
            key_is = o.key_is;
            logins = up.logins;
            askings =
                below-take (suc (length s.used)) 16 _ (below-cons (suc (length s.used)) (record { number = number_of b.left; key = l.key; asks = l.service; line = p.line }) (without l.number b.askings) (newest s (number_of b.left).0 e)
                (below-kept (suc (length s.used)) (λ q. not (bytes_eq q.number.0 l.number.0)) b.askings up.askings));
          }

  -- a tick leaves a box steady
  told-keeps : (used a now to : ℕ) (b : Box) (r : Ticked) → BoxSteady now used a b → BoxSteady (now_at now to r) used a (told_box b to r)
  told-keeps used a now to b On o = record { now_is = refl; key_is = o.key_is; logins = o.logins; askings = o.askings }
  told-keeps used a now to b Back o = o
  told-keeps used a now to b Stopped o = o

  abbrev AllSteady : List Account → Type 0
  AllSteady xs = (j : ℕ) → unknown xs j ≡ false → AccountsSteady xs j

  changed-keeps : (xs : List Account) (m : ℕ) (x : Account) (r : Changed) → AllSteady xs
      → (nobody m ≡ false → is_absent x ≡ false → (m < length c.own) × (key_in x ≡ own_of c.own m)) → AllSteady (changed xs m x r)
  changed-keeps xs m x (Ok Same) o h j e = o j e
  changed-keeps xs m x (Err f) o h j e = o j e
  changed-keeps xs m x (Ok Done) o h j e = go (account-set xs m x j)
    where
      go : (account_of (set xs m x) j ≡ account_of xs j) ⊎ ((j ≡ m) × (account_of (set xs m x) j ≡ x)) → AccountsSteady (set xs m x) j
      go (inl f) =
          let r = o j (subst (λ (y : Account). (nobody j || is_absent y) ≡ false) f e) in
          record { there = r.there; own = ap (λ (y : Account). key_in y) f ∙ r.own }
      go (inr f) =
          let p = or-false-left (nobody j) (is_absent (account_of (set xs m x) j)) e in
          let q = or-false-right (nobody j) (is_absent (account_of (set xs m x) j)) e in
          let r = h (subst (λ (i : ℕ). nobody i ≡ false) f.0 p) (subst (λ (y : Account). is_absent y ≡ false) f.1 q) in
          record {
            there = subst (λ (i : ℕ). i < length c.own) (sym f.0) r.0;
            own = ap (λ (y : Account). key_in y) f.1 ∙ (r.1 ∙ ap (λ (i : ℕ). own_of c.own i) (sym f.0));
          }

  shut-keeps : (xs : List Account) (m : ℕ) (w : Bool) → AllSteady xs → AllSteady (shut_after xs m w)
  shut-keeps xs m w o = changed-keeps xs m (closed_of (account_of xs m)) (shut xs m w) o one
    where
      one : nobody m ≡ false → is_absent (closed_of (account_of xs m)) ≡ false → (m < length c.own) × (key_in (closed_of (account_of xs m)) ≡ own_of c.own m)
      one p q =
          let there = closed-there (account_of xs m) q in
          let r = o m (subst (λ (b : Bool). (b || is_absent (account_of xs m)) ≡ false) (sym p) there) in
          (r.there, closed-key (account_of xs m) ∙ r.own)

  -- another home at the same tick
  home-keeps : (s : System) (h : Home) → h.side.now ≡ s.home.side.now → AllSteady h.accounts → Steady s → Steady (with_home h s)
  home-keeps s h e x o =
      record {
        accounts = x;
        sides = λ v. subst (λ (k : ℕ). SideSteady k v (s.side v)) (sym e) (o.sides v);
        boxes = λ a. subst (λ (k : ℕ). BoxSteady k (length s.used) a (s.box a)) (sym e) (o.boxes a);
      }

  side-keeps : (s : System) (v : ℕ) (u : View) → u.side.now ≡ (s.side v).side.now → u.side.number ≡ (s.side v).side.number → Steady s → Steady (with-side v u s)
  side-keeps s v u e f o =
      record {
        accounts = o.accounts;
        sides = λ j. at-either (λ (i : ℕ) (x : View). SideSteady s.home.side.now i x) v u s.side (record { now_is = e ∙ (o.sides v).now_is; number_is = f ∙ (o.sides v).number_is }) j (o.sides j);
        boxes = o.boxes;
      }

  -- what is sent and drawn does not change it
  sent-keeps : (s : System) (ts : List Term) (ds : List Bytes) → Steady s → Steady (with_sent ts ds s)
  sent-keeps s ts ds o =
      record {
        accounts = o.accounts;
        sides = o.sides;
        boxes = λ a. box-used s.home.side.now (length s.used) (length (ds ++ s.used)) a (s.box a) (drawn-more ds s.used) (o.boxes a);
      }

  -- a box that keeps to it with its draws
  box-keeps : (s : System) (a : ℕ) (ts : List Term) (ds : List Bytes) (b : Box) → BoxSteady s.home.side.now (length (ds ++ s.used)) a b → Steady s → Steady (with_sent ts ds (with_box a b s))
  box-keeps s a ts ds b k o =
      record {
        accounts = o.accounts;
        sides = o.sides;
        boxes =
            λ j. at-either (λ (i : ℕ) (x : Box). BoxSteady s.home.side.now (length (ds ++ s.used)) i x) a b s.box k j
            (box-used s.home.side.now (length s.used) (length (ds ++ s.used)) j (s.box j) (drawn-more ds s.used) (o.boxes j));
      }

  step_keeps : (s : System) (e : Act) → Can c n s e → Steady s → Steady (step c n e s)
  step_keeps s (System.tells to) k o =
      record {
        accounts = o.accounts;
        sides =
            λ v. record {
              now_is = tick-now (s.side v).side s.home.side to (o.sides v).now_is;
              number_is = set-number (s.side v).side to (clock (s.side v).side.now to) ∙ (o.sides v).number_is;
            };
        boxes =
            λ a. subst (λ (t : ℕ). BoxSteady t (length s.used) a (told_box (s.box a) to (clock (s.box a).now to)))
            (ap (λ (t : ℕ). now_at s.home.side.now to (clock t to)) (o.boxes a).now_is ∙ sym (set-now s.home.side to (clock s.home.side.now to)))
            (told-keeps (length s.used) a s.home.side.now to (s.box a) (clock (s.box a).now to) (o.boxes a));
      }
  step_keeps s (System.hands System.House bs) k o = home-keeps s (home_left (s.home.left ++ bs) s.home) refl o.accounts o
  step_keeps s (System.hands (System.Service v) bs) k o = side-keeps s v (view (s.side v).side (s.side v).kept (s.side v).junk (s.side v).writes ((s.side v).left ++ bs)) refl refl o
  step_keeps s (System.hands (System.Reader a) bs) k o =
      let b = o.boxes a in
      box-keeps s a [] [] (box_left ((s.box a).left ++ bs) (s.box a)) (record { now_is = b.now_is; key_is = b.key_is; logins = b.logins; askings = b.askings }) o
  step_keeps s (System.steals m) k o = record { accounts = o.accounts; sides = o.sides; boxes = o.boxes }
  step_keeps s (System.opens m x w) k o =
      home-keeps s (home_accounts (opened_after s.home.accounts m x w) s.home) refl (changed-keeps s.home.accounts m (Open x) (opened s.home.accounts m w) o.accounts (λ _ _. (k.there, k.own))) o
  step_keeps s (System.closes m w) k o = home-keeps s (home_accounts (shut_after s.home.accounts m w) s.home) refl (shut-keeps s.home.accounts m w o.accounts) o
  step_keeps s (System.wants a v by w) k o =
      box-keeps s a (told_sent n.name (line.wanted (s.box a) v by w)) (told_drawn (line.wanted (s.box a) v by w)) (line.wanted_after (s.box a) v by w) (line-keeps s a v by w (s.box a) (o.boxes a) k.new) o
  step_keeps s (System.logs_in a l) k o =
      sent-keeps (with_home (house.login_after s.home a l) s) (reply_sent n.name (house.logged_in s.home a l)) (reply_drawn (house.logged_in s.home a l))
      (unless-either (λ (h : Home). Steady (with_home h s)) (first_fault (house.login_conditions s.home a l)) (house.drew s.home) (λ _. s.home)
      (home-keeps s (house.drew s.home) refl o.accounts o) (λ _. home-keeps s s.home refl o.accounts o))
  step_keeps s (System.asks_house t q) k o =
      sent-keeps (with_home (house.after s.home t q (c.digest t.key q.number)) s) (reply_sent n.name (house.answered s.home t q (c.digest t.key q.number))) (reply_drawn (house.answered s.home t q (c.digest t.key q.number)))
      (cond_either (λ (h : Home). Steady (with_home h s)) (readable q) _ s.home
      (unless-either (λ (h : Home). Steady (with_home h s)) (first_fault (house.conditions s.home t q (c.digest t.key q.number))) (house.drew (house.noted s.home (c.digest t.key q.number))) (λ _. s.home)
      (home-keeps s (house.drew (house.noted s.home (c.digest t.key q.number))) refl o.accounts o) (λ _. home-keeps s s.home refl o.accounts o)) (home-keeps s s.home refl o.accounts o))
  step_keeps s (System.asks v t q) k o =
      sent-keeps (with-side v (service.after (s.side v) t q (c.digest t.key q.number)) s) (answer_sent n.name (service.answered (s.side v) t q (c.digest t.key q.number))) []
      (unless-either (λ (u : View). Steady (with-side v u s)) (first_fault (service.conditions (s.side v) t q (c.digest t.key q.number))) (service.done_by (s.side v) (c.digest t.key q.number)) (λ _. s.side v)
      (side-keeps s v (service.done_by (s.side v) (c.digest t.key q.number)) refl refl o) (λ _. side-keeps s v (s.side v) refl refl o))
  step_keeps s (System.takes a u l) k o =
      box-keeps s a (told_sent n.name (letter.taken (s.box a) u l)) (told_drawn (letter.taken (s.box a) u l)) (letter.taken_after (s.box a) u l tt) (letter-keeps s a u l (s.box a) (o.boxes a) k.new) o
  step_keeps s (System.hears who) k o = o
  step_keeps s (System.device System.House w) k o = home-keeps s (home_memory s.home.side s.home.kept s.home.junk w s.home) refl o.accounts o
  step_keeps s (System.device (System.Service v) w) k o = side-keeps s v (view (s.side v).side (s.side v).kept (s.side v).junk w (s.side v).left) refl refl o
  step_keeps s (System.device (System.Reader a) w) k o = o
  step_keeps s (System.crashes System.House cut) k o = home-keeps s (crashed_home cut s.home) (crash-now cut (view_of s.home)) o.accounts o
  step_keeps s (System.crashes (System.Service v) cut) k o = side-keeps s v (crashed_view cut (s.side v)) (crash-now cut (s.side v)) (crash-number cut (s.side v)) o
  step_keeps s (System.crashes (System.Reader a) cut) k o =
      let b = o.boxes a in
      box-keeps s a [] [] (empty_box (s.box a).number (s.box a).key (s.box a).now (s.box a).left) (record { now_is = b.now_is; key_is = b.key_is; logins = below-nil (length s.used); askings = below-nil (length s.used) }) o

  first-steady : (t : ℕ) → Steady (first c n t)
  first-steady t =
      record {
        accounts = λ k e. absurd (clash {b = is_absent (account_of (replicate 1024 Absent) k)} (ap (λ (x : Account). is_absent x) (absent-all 1024 k)) (or-false-right (nobody k) (is_absent (account_of (replicate 1024 Absent) k)) e));
        sides = λ v. record { now_is = refl; number_is = refl };
        boxes = λ a. record { now_is = refl; key_is = refl; logins = below-nil 0; askings = below-nil 0 };
      }

  pub row-steady : (t : ℕ) (es : List Act) → Possible c n t es → Steady (run c n t es)
  row-steady t [] p = first-steady t
  row-steady t (e ∷ es) p = step_keeps (run c n t es) e p.0 (row-steady t es p.1)

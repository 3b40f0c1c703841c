-- A row that can happen is heard in order, so no deed of it is one that was not asked. Assumes nothing.
use Rattle.std.proofs.Common.{◌≡◌, ℕ, ◌+◌, ◌^◌, ◌<◌, ◌≤◌, Bool, true, false, cond, eqb, ltb, leb, ◌⊎◌, List, [], ◌∷◌, ◌++◌, map, length, Some, None, Option, sym, refl, ap, ◌∙◌, subst, inl, inr, arith, ltb-false, Err, Ok}
use Rattle.judge_rules.specs.Judge.{View, key_of}
use Rattle.judge_rules.specs.Total.{total_of}
use Rattle.judge_rules.specs.declared.record.Principal.{Principal}
use Rattle.judge_rules.specs.declared.record.Verdict.{Verdict}
use Rattle.judge_rules.specs.declared.record.Verdict.TheVariants.{Asked, NotAsked, Stolen}
use Rattle.judge.specs.Hearing.{Hearing, InOrder, Introduced, KnowingAll, KnownTo, Knows, KnowsThree, NamedFirst, NeverUnasked, NoneUnasked, Orderly, sat, joins, deed, deed_in, hear, heard_by, heard_deeds, heard_lines, hearings, line, line_in, nothing, of_deed, of_line, theft, theft_in, thefts, verdicts}
use Rattle.judge.proofs.Settled.{settled}
use Rattle.parts.specs.Condition.{first_fault, unless}
use Rattle.parts.specs.declared.fault.Fault.{Fault}
use Rattle.parts.specs.declared.tick.Ticked.TheVariants.{Back, On, Stopped}
use Rattle.parts.specs.declared.word.Asking.{Asking}
use Rattle.parts.specs.declared.word.Key.{Key}
use Rattle.parts.specs.declared.word.Ticket.{Ticket}
use Rattle.service_rules.specs.Service as service
use Rattle.service_rules.specs.Side.{set_tick, unfit}
use Rattle.service_rules.specs.Service.{Answer}
use Rattle.service_rules.specs.declared.side.Side.{Side}
use Rattle.house_rules.specs.House.{Home, conditions, drew, login_conditions, readable}
use Rattle.house_rules.specs.House as house
use Rattle.box_rules.specs.Line as boxline
use Rattle.box_rules.specs.Line.{Told}
use Rattle.box_rules.specs.declared.answer.Answer.TheVariants as told
use Rattle.held.specs.Crash.{reread, rejunk}
use Rattle.rows.specs.Name.{Bytes, Naming, own_name, own_of}
use Rattle.rows.specs.Setting.{Setting}
use Rattle.rows.specs.System.{Act, Possible, System, crashed_home, crashed_view, restarted, run, step, view_of}
use Rattle.rows.specs.System as system
use Rattle.rows.specs.Row.{Accounted, Deed, Wanted, deed_by, deed_told, deeds, line_by, line_told, lines}
use Rattle.rows.proofs.Promises.{asked-once, there, tied}
use Rattle.rows.proofs.Names.{own-found}
use mathlib.Core.List.Memᴰ
use mathlib.Core.List.{Memᴰ}

-- where none was said to be not asked, none is counted so
none-counted : (rs : List Verdict) → (Memᴰ NotAsked rs → ⊥) → (total_of rs).unasked ≡ 0
none-counted [] h = refl
none-counted (Asked k t ∷ rs) h = none-counted rs (λ i. h (Memᴰ.tail i))
none-counted (Stolen x y z ∷ rs) h = none-counted rs (λ i. h (Memᴰ.tail i))
none-counted (NotAsked ∷ rs) h = absurd (h (Memᴰ.head refl))

-- what a hearing tells is what the act told
line_of : (a : Told) (w : Wanted) → line_in (of_line (line_told a w)) ≡ line_told a w
line_of (Ok (told.LogsIn l)) w = refl
line_of (Ok (told.Asks i l)) w = refl
line_of (Ok (told.Takes g l)) w = refl
line_of (Ok (told.Receipt i)) w = refl
line_of (Ok (told.Shown k)) w = refl
line_of (Err f) w = refl

no-deed-of : (ws : List Wanted) → deed_in (of_line ws) ≡ []
no-deed-of [] = refl
no-deed-of (w ∷ ws) = refl

no-theft-of : (ws : List Wanted) → theft_in (of_line ws) ≡ []
no-theft-of [] = refl
no-theft-of (w ∷ ws) = refl

deed-of : (a : Answer) (p v t : ℕ) (st : List ℕ) → deed_in (of_deed (deed_told a p v t st)) ≡ deed_told a p v t st
deed-of (Ok y) p v t st = refl
deed-of (Err f) p v t st = refl

no-line-of : (ds : List Deed) → line_in (of_deed ds) ≡ []
no-line-of [] = refl
no-line-of (d ∷ ds) = refl

no-theft-in : (ds : List Deed) → theft_in (of_deed ds) ≡ []
no-theft-in [] = refl
no-theft-in (d ∷ ds) = refl

-- time goes on
stays : (x : ℕ) → x ≤ x
stays x = omega arith

tick-on : (s : Side) (to : ℕ) (a b : Bool) → ltb to s.now ≡ b → s.now ≤ (set_tick s to (cond a Stopped (cond b Back On))).now
tick-on s to true b e = stays _
tick-on s to false true e = stays _
tick-on s to false false e = ltb-false _ _ e

login-on : (h : Home) (o : Option Fault) → h.side.now ≤ (unless o (drew h) (λ _. h)).side.now
login-on h None = stays _
login-on h (Some f) = stays _

asking-on : (h : Home) (d : ℕ) (b : Bool) (o : Option Fault) → h.side.now ≤ (cond b (unless o (drew (house.noted h d)) (λ _. h)) h).side.now
asking-on h d true None = stays _
asking-on h d true (Some f) = stays _
asking-on h d false o = stays _

crash-on : (s : Side) (k l : ℕ) (j : Bool) (b : Bool) → s.now ≤ (restarted s (cond b (Rattle.std.specs.declared.result.Result.TheVariants.Err Rattle.parts.specs.declared.fault.Fault.TheVariants.OutOfRange) (Rattle.std.specs.declared.result.Result.TheVariants.Ok (record { number = k; lag = l; now = s.now; wake = cond j (s.now + l + 1) 0 })))).now
crash-on s k l j true = stays _
crash-on s k l j false = stays _

module _ (c : Setting) (n : Naming c.own) where
  line-by : (e : Act) (s : System) (p : ℕ) → line_in (heard_by c n e s p) ≡ line_by c n e s p
  line-by (system.tells to) s p = refl
  line-by (system.hands who bs) s p = refl
  line-by (system.steals m) s p = refl
  line-by (system.opens m k w) s p = refl
  line-by (system.closes m w) s p = refl
  line-by (system.wants a v by w) s p = line_of (boxline.wanted (s.box a) v by w) _
  line-by (system.logs_in a l) s p = refl
  line-by (system.asks_house t q) s p = refl
  line-by (system.asks v t q) s p = no-line-of _
  line-by (system.takes a u l) s p = refl
  line-by (system.hears who) s p = refl
  line-by (system.device who w) s p = refl
  line-by (system.crashes who cut) s p = refl

  deed-by : (e : Act) (s : System) (p : ℕ) → deed_in (heard_by c n e s p) ≡ deed_by c n e s p
  deed-by (system.tells to) s p = refl
  deed-by (system.hands who bs) s p = refl
  deed-by (system.steals m) s p = refl
  deed-by (system.opens m k w) s p = refl
  deed-by (system.closes m w) s p = refl
  deed-by (system.wants a v by w) s p = no-deed-of _
  deed-by (system.logs_in a l) s p = refl
  deed-by (system.asks_house t q) s p = refl
  deed-by (system.asks v t q) s p = deed-of (service.answered (s.side v) t q (c.digest t.key q.number)) _ _ _ _
  deed-by (system.takes a u l) s p = refl
  deed-by (system.hears who) s p = refl
  deed-by (system.device who w) s p = refl
  deed-by (system.crashes who cut) s p = refl

  theft-by : (e : Act) (s : System) (p : ℕ) (ms : List ℕ) → s.stolen ≡ map n.key_of ms → (step c n e s).stolen ≡ map n.key_of (theft_in (heard_by c n e s p) ++ ms)
  theft-by (system.tells to) s p ms i = i
  theft-by (system.hands system.House bs) s p ms i = i
  theft-by (system.hands (system.Service v) bs) s p ms i = i
  theft-by (system.hands (system.Reader a) bs) s p ms i = i
  theft-by (system.steals m) s p ms i = ap (λ (z : List ℕ). n.key_of m ∷ z) i
  theft-by (system.opens m k w) s p ms i = i
  theft-by (system.closes m w) s p ms i = i
  theft-by (system.wants a v by w) s p ms i = i ∙ ap (λ (z : List ℕ). map n.key_of (z ++ ms)) (sym (no-theft-of (line_by c n (system.wants a v by w) s p)))
  theft-by (system.logs_in a l) s p ms i = i
  theft-by (system.asks_house t q) s p ms i = i
  theft-by (system.asks v t q) s p ms i = i ∙ ap (λ (z : List ℕ). map n.key_of (z ++ ms)) (sym (no-theft-in (deed_by c n (system.asks v t q) s p)))
  theft-by (system.takes a u l) s p ms i = i
  theft-by (system.hears who) s p ms i = i
  theft-by (system.device system.House w) s p ms i = i
  theft-by (system.device (system.Service v) w) s p ms i = i
  theft-by (system.device (system.Reader a) w) s p ms i = i
  theft-by (system.crashes system.House cut) s p ms i = i
  theft-by (system.crashes (system.Service v) cut) s p ms i = i
  theft-by (system.crashes (system.Reader a) cut) s p ms i = i

  now_on : (e : Act) (s : System) → s.home.side.now ≤ (step c n e s).home.side.now
  now_on (system.tells to) s = tick-on s.home.side to (leb (2 ^ 63) to) (ltb to s.home.side.now) refl
  now_on (system.hands system.House bs) s = stays _
  now_on (system.hands (system.Service v) bs) s = stays _
  now_on (system.hands (system.Reader a) bs) s = stays _
  now_on (system.steals m) s = stays _
  now_on (system.opens m k w) s = stays _
  now_on (system.closes m w) s = stays _
  now_on (system.wants a v by w) s = stays _
  now_on (system.logs_in a l) s = login-on s.home (first_fault (login_conditions s.home a l))
  now_on (system.asks_house t q) s =
      asking-on s.home (c.digest t.key q.number) (readable q) (first_fault (conditions s.home t q (c.digest t.key q.number)))
  now_on (system.asks v t q) s = stays _
  now_on (system.takes a u l) s = stays _
  now_on (system.hears who) s = stays _
  now_on (system.device system.House w) s = stays _
  now_on (system.device (system.Service v) w) s = stays _
  now_on (system.device (system.Reader a) w) s = stays _
  now_on (system.crashes system.House cut) s =
      crash-on s.home.side s.home.side.number s.home.side.lag (rejunk s.home.side.now s.home.side.lag cut s.home.kept s.home.junk)
      (unfit s.home.side.lag s.home.side.now (reread s.home.side.now s.home.side.lag cut s.home.kept))
  now_on (system.crashes (system.Service v) cut) s = stays _
  now_on (system.crashes (system.Reader a) cut) s = stays _

  -- as many are heard as there are acts; lines and deeds are those of the row; thefts those of the system
  length-heard : (t : ℕ) (es : List Act) → length (hearings c n t es) ≡ length es
  length-heard t [] = refl
  length-heard t (e ∷ es) = let l = length-heard t es in omega arith

  pub lines-heard : (t : ℕ) (es : List Act) → heard_lines (hearings c n t es) ≡ lines c n t es
  lines-heard t [] = refl
  lines-heard t (e ∷ es) =
      ap (λ (z : List Wanted). z ++ heard_lines (hearings c n t es)) (line-by e (run c n t es) (length es))
      ∙ ap (λ (z : List Wanted). line_by c n e (run c n t es) (length es) ++ z) (lines-heard t es)

  pub deeds-heard : (t : ℕ) (es : List Act) → heard_deeds (hearings c n t es) ≡ deeds c n t es
  deeds-heard t [] = refl
  deeds-heard t (e ∷ es) =
      ap (λ (z : List Deed). z ++ heard_deeds (hearings c n t es)) (deed-by e (run c n t es) (length es))
      ∙ ap (λ (z : List Deed). deed_by c n e (run c n t es) (length es) ++ z) (deeds-heard t es)

  pub thefts-heard : (t : ℕ) (es : List Act) → (run c n t es).stolen ≡ map n.key_of (thefts (hearings c n t es))
  thefts-heard t [] = refl
  thefts-heard t (e ∷ es) = theft-by e (run c n t es) (length es) (thefts (hearings c n t es)) (thefts-heard t es)

  -- a new line and a new deed are of the house's tick
  line-now : (a : Told) (w u : Wanted) → Memᴰ u (line_told a w) → u ≡ w
  line-now (Ok (told.LogsIn l)) w u h = Memᴰ.eq_of_singleton h
  line-now (Ok (told.Asks i l)) w u h = Memᴰ.eq_of_singleton h
  line-now (Ok (told.Takes g l)) w u h = absurd (Memᴰ.not-nil h)
  line-now (Ok (told.Receipt i)) w u h = absurd (Memᴰ.not-nil h)
  line-now (Ok (told.Shown k)) w u h = absurd (Memᴰ.not-nil h)
  line-now (Err f) w u h = absurd (Memᴰ.not-nil h)

  box_now : (t : ℕ) (es : List Act) → Possible c n t es → (a : ℕ) → ((run c n t es).box a).now ≡ (run c n t es).home.side.now
  box_now t es h a = let o = tied c n t es h in (o.matches.box a).now_is ∙ sym o.matches.home.now_is

  side-now : (t : ℕ) (es : List Act) → Possible c n t es → (v : ℕ) → (v ≡ 0 → ⊥) → ((run c n t es).side v).side.now ≡ (run c n t es).home.side.now
  side-now t es h v z = let o = tied c n t es h in (o.matches.side v z).now_is ∙ sym o.matches.home.now_is

  new_line_lem : (t : ℕ) (es : List Act) → Possible c n t es → (e : Act) (u : Wanted) → Memᴰ u (line_by c n e (run c n t es) (length es)) → u.at ≡ (run c n t es).home.side.now
  new_line_lem t es h (system.tells to) u k = absurd (Memᴰ.not-nil k)
  new_line_lem t es h (system.hands who bs) u k = absurd (Memᴰ.not-nil k)
  new_line_lem t es h (system.steals m) u k = absurd (Memᴰ.not-nil k)
  new_line_lem t es h (system.opens m x w) u k = absurd (Memᴰ.not-nil k)
  new_line_lem t es h (system.closes m w) u k = absurd (Memᴰ.not-nil k)
  new_line_lem t es h (system.wants a v by w) u k = ap (λ (z : Wanted). z.at) (line-now (boxline.wanted ((run c n t es).box a) v by w) _ u k) ∙ box_now t es h a
  new_line_lem t es h (system.logs_in a l) u k = absurd (Memᴰ.not-nil k)
  new_line_lem t es h (system.asks_house x q) u k = absurd (Memᴰ.not-nil k)
  new_line_lem t es h (system.asks v x q) u k = absurd (Memᴰ.not-nil k)
  new_line_lem t es h (system.takes a y l) u k = absurd (Memᴰ.not-nil k)
  new_line_lem t es h (system.hears who) u k = absurd (Memᴰ.not-nil k)
  new_line_lem t es h (system.device who w) u k = absurd (Memᴰ.not-nil k)
  new_line_lem t es h (system.crashes who cut) u k = absurd (Memᴰ.not-nil k)

  deed-now : (a : Answer) (p v t : ℕ) (st : List ℕ) (u : Deed) → Memᴰ u (deed_told a p v t st) → u.at ≡ t
  deed-now (Ok y) p v t st u h = ap (λ (z : Deed). z.at) (Memᴰ.eq_of_singleton h)
  deed-now (Err f) p v t st u h = absurd (Memᴰ.not-nil h)

  new-deed : (t : ℕ) (es : List Act) → Possible c n t es → (e : Act) → system.Can c n (run c n t es) e → (u : Deed) → Memᴰ u (deed_by c n e (run c n t es) (length es)) → u.at ≡ (run c n t es).home.side.now
  new-deed t es h (system.tells to) j u k = absurd (Memᴰ.not-nil k)
  new-deed t es h (system.hands who bs) j u k = absurd (Memᴰ.not-nil k)
  new-deed t es h (system.steals m) j u k = absurd (Memᴰ.not-nil k)
  new-deed t es h (system.opens m x w) j u k = absurd (Memᴰ.not-nil k)
  new-deed t es h (system.closes m w) j u k = absurd (Memᴰ.not-nil k)
  new-deed t es h (system.wants a v by w) j u k = absurd (Memᴰ.not-nil k)
  new-deed t es h (system.logs_in a l) j u k = absurd (Memᴰ.not-nil k)
  new-deed t es h (system.asks_house x q) j u k = absurd (Memᴰ.not-nil k)
  new-deed t es h (system.asks v x q) j u k =
      deed-now (service.answered ((run c n t es).side v) x q (c.digest x.key q.number)) _ _ _ _ u k ∙ side-now t es h v j.a_service
  new-deed t es h (system.takes a y l) j u k = absurd (Memᴰ.not-nil k)
  new-deed t es h (system.hears who) j u k = absurd (Memᴰ.not-nil k)
  new-deed t es h (system.device who w) j u k = absurd (Memᴰ.not-nil k)
  new-deed t es h (system.crashes who cut) j u k = absurd (Memᴰ.not-nil k)

  -- no line and no deed is of a tick above the house's
  line-bound : (t : ℕ) (es : List Act) → Possible c n t es → (u : Wanted) → Memᴰ u (lines c n t es) → u.at ≤ (run c n t es).home.side.now
  line-bound t [] h u k = absurd (Memᴰ.not-nil k)
  line-bound t (e ∷ es) h u k = go (Memᴰ.append_cases (line_by c n e (run c n t es) (length es)) k) (line-bound t es h.1 u)
    where
      go : Memᴰ u (line_by c n e (run c n t es) (length es)) ⊎ Memᴰ u (lines c n t es) → (Memᴰ u (lines c n t es) → u.at ≤ (run c n t es).home.side.now) → u.at ≤ (run c n t (e ∷ es)).home.side.now
      go (inl i) rest = let p = new_line_lem t es h.1 e u i in let q = now_on e (run c n t es) in subst (λ (z : ℕ). z ≤ (run c n t (e ∷ es)).home.side.now) (sym p) q
      go (inr i) rest = between (rest i) (now_on e (run c n t es))
        where
          between : {x y z : ℕ} → x ≤ y → y ≤ z → x ≤ z
          between a b = omega arith

  deed-bound : (t : ℕ) (es : List Act) → Possible c n t es → (u : Deed) → Memᴰ u (deeds c n t es) → u.at ≤ (run c n t es).home.side.now
  deed-bound t [] h u k = absurd (Memᴰ.not-nil k)
  deed-bound t (e ∷ es) h u k = go (Memᴰ.append_cases (deed_by c n e (run c n t es) (length es)) k) (deed-bound t es h.1 u)
    where
      go : Memᴰ u (deed_by c n e (run c n t es) (length es)) ⊎ Memᴰ u (deeds c n t es) → (Memᴰ u (deeds c n t es) → u.at ≤ (run c n t es).home.side.now) → u.at ≤ (run c n t (e ∷ es)).home.side.now
      go (inl i) rest = let p = new-deed t es h.1 e h.0 u i in let q = now_on e (run c n t es) in subst (λ (z : ℕ). z ≤ (run c n t (e ∷ es)).home.side.now) (sym p) q
      go (inr i) rest = between (rest i) (now_on e (run c n t es))
        where
          between : {x y z : ℕ} → x ≤ y → y ≤ z → x ≤ z
          between a b = omega arith

  module _ (v : View) where
    -- one act is heard in order
    in-order-line : (t : ℕ) (es : List Act) → Possible c n t es → (a : Told) (w : Wanted) → w.place ≡ length es → w.at ≡ (run c n t es).home.side.now → InOrder c n v (of_line (line_told a w)) (hearings c n t es)
    in-order-line t es h (Ok (told.LogsIn l)) w p i =
        record {
          place = p ∙ sym (length-heard t es);
          time = λ u k r. subst (λ (z : ℕ). u.at ≤ z) (sym i) (line-bound t es h u (subst (λ (z : List Wanted). Memᴰ u z) (lines-heard t es) k));
        }
    in-order-line t es h (Ok (told.Asks j l)) w p i =
        record {
          place = p ∙ sym (length-heard t es);
          time = λ u k r. subst (λ (z : ℕ). u.at ≤ z) (sym i) (line-bound t es h u (subst (λ (z : List Wanted). Memᴰ u z) (lines-heard t es) k));
        }
    in-order-line t es h (Ok (told.Takes g l)) w p i = tt
    in-order-line t es h (Ok (told.Receipt j)) w p i = tt
    in-order-line t es h (Ok (told.Shown k)) w p i = tt
    in-order-line t es h (Err f) w p i = tt

    in-order-deed : (t : ℕ) (es : List Act) → Possible c n t es → (s : ℕ) (x : Ticket) (q : Asking) → (s ≡ 0 → ⊥) → s < length c.own → KnowsThree c n (sat v (hearings c n t es)) s x.reader → (o : Option Fault)
        → InOrder c n v (of_deed (deed_told (unless o (service.done (service.deed_of x q) (service.receipt_of ((run c n t es).side s) x q)) Err) (length es) s ((run c n t es).side s).side.now (run c n t es).stolen)) (hearings c n t es)
    in-order-deed t es h s x q z i k None =
        record {
          place = sym (length-heard t es);
          time = λ u j r. subst (λ (y : ℕ). u.at ≤ y) (sym (side-now t es h s z)) (deed-bound t es h u (subst (λ (y : List Deed). Memᴰ u y) (deeds-heard t es) j));
          stolen = thefts-heard t es;
          there = i;
          knows = k;
        }
    in-order-deed t es h s x q z i k (Some f) = tt

    in_order : (t : ℕ) (es : List Act) → Possible c n t es → (e : Act) → system.Can c n (run c n t es) e → KnownTo c n (sat v (hearings c n t es)) e → InOrder c n v (heard_by c n e (run c n t es) (length es)) (hearings c n t es)
    in_order t es h (system.tells to) j k = tt
    in_order t es h (system.hands who bs) j k = tt
    in_order t es h (system.steals m) j k = record { there = j; knows = k }
    in_order t es h (system.opens m x w) j k = tt
    in_order t es h (system.closes m w) j k = tt
    in_order t es h (system.wants a s by w) j k = in-order-line t es h (boxline.wanted ((run c n t es).box a) s by w) _ refl (box_now t es h a)
    in_order t es h (system.logs_in a l) j k = tt
    in_order t es h (system.asks_house x q) j k = tt
    in_order t es h (system.asks s x q) j k =
        in-order-deed t es h s x q j.a_service j.there k (first_fault (service.conditions ((run c n t es).side s) x q (c.digest x.key q.number)))
    in_order t es h (system.takes a y l) j k = tt
    in_order t es h (system.hears who) j k = tt
    in_order t es h (system.device who w) j k = tt
    in_order t es h (system.crashes who cut) j k = tt

    -- a row that can happen is heard in order
    pub orderly : (t : ℕ) (es : List Act) → Possible c n t es → Introduced c n v t es → Orderly c n v (hearings c n t es)
    orderly t [] h i = h
    orderly t (e ∷ es) h i = (in_order t es h.1 e h.0 i.0, orderly t es h.1 i.1)

  pub accounted : (t : ℕ) (es : List Act) → Possible c n t es → Accounted c n (heard_lines (hearings c n t es)) (heard_deeds (hearings c n t es))
  accounted t es h =
      subst (λ (z : List Wanted). Accounted c n z (heard_deeds (hearings c n t es))) (sym (lines-heard t es))
      (subst (λ (z : List Deed). Accounted c n (lines c n t es) z) (sym (deeds-heard t es)) (asked-once c n t es h))

  pub never-unasked : NeverUnasked c n
  never-unasked f v r t es h i k = settled c n f v r (hearings c n t es) (orderly v t es h i) (accounted t es h) k

  pub none-unasked : NoneUnasked c n
  none-unasked f v r t es h i = none-counted (verdicts v (hearings c n t es)) (never-unasked f v r t es h i)

  -- whom the judge knows, he knows for good
  knows_more : (m : ℕ) (k : Key) (ps : List Principal) (p : Principal) → key_of m ps ≡ Some k → key_of m (ps ++ (p ∷ [])) ≡ Some k
  knows_more m k [] p e = absurd (let z : ◌≡◌ {A = ℕ} 0 1 = cc in omega arith)
  knows_more m k (x ∷ ps) p e = go (eqb x.number m) e (knows_more m k ps p)
    where
      go : (b : Bool) → cond b (Some x.key) (key_of m ps) ≡ Some k → (key_of m ps ≡ Some k → key_of m (ps ++ (p ∷ [])) ≡ Some k) → cond b (Some x.key) (key_of m (ps ++ (p ∷ []))) ≡ Some k
      go true i rest = i
      go false i rest = rest i

  knows_on : (v : View) (x : Hearing) (m : ℕ) → Knows c n v m → Knows c n (hear x v) m
  knows_on v nothing m h = h
  knows_on v (line w) m h = h
  knows_on v (deed d) m h = h
  knows_on v (theft y) m h = h
  knows_on v (joins p) m h = knows_more m (own_of c.own m) v.own p h

  knows-all : (v : View) (xs : List Hearing) (m : ℕ) → Knows c n v m → Knows c n (sat v xs) m
  knows-all v [] m h = h
  knows-all v (x ∷ xs) m h = knows_on (sat v xs) x m (knows-all v xs m h)

  known-to : (v : View) → ((m : ℕ) → m < length c.own → Knows c n v m) → (s : System) → 0 < length c.own → (e : Act) → system.Can c n s e → KnownTo c n v e
  known-to v h s z (system.tells to) j = tt
  known-to v h s z (system.hands who bs) j = tt
  known-to v h s z (system.steals m) j = h m j
  known-to v h s z (system.opens m x w) j = tt
  known-to v h s z (system.closes m w) j = tt
  known-to v h s z (system.wants a y by w) j = tt
  known-to v h s z (system.logs_in a l) j = tt
  known-to v h s z (system.asks_house x q) j = tt
  known-to v h s z (system.asks y x q) j = record { of_service = h y j.there; of_house = h 0 z; of_reader = λ i. h x.reader i }
  known-to v h s z (system.takes a y l) j = tt
  known-to v h s z (system.hears who) j = tt
  known-to v h s z (system.device who w) j = tt
  known-to v h s z (system.crashes who cut) j = tt

  pub knowing-all : KnowingAll c n
  knowing-all v h t [] p = tt
  knowing-all v h t (e ∷ es) p =
      (known-to (sat v (hearings c n t es)) (λ m i. knows-all v (hearings c n t es) m (h m i)) (run c n t es) (there c n t es p.1) e p.0, knowing-all v h t es p.1)

  pub named-first : NamedFirst c n
  named-first h =
      record {
        there = λ m i. let r = own-found c.own 0 (n.key_of m) (own_of c.own m).0 (h m i) in let p = r.1 in let q = r.2 in omega arith;
        same = λ m i. same m i;
      }
    where
      same : (m : ℕ) → m < length c.own → n.key_of (n.key_of m) ≡ n.key_of m
      same m i =
          let r = own-found c.own 0 (n.key_of m) (own_of c.own m).0 (h m i) in
          let p = r.1 in
          let q = r.2 in
          let k : r.0 ≡ n.key_of m = omega arith in
          let there : n.key_of m < length c.own = omega arith in
          let key : (own_of c.own (n.key_of m)).0 ≡ (own_of c.own m).0 = ap (λ (z : ℕ). (own_of c.own z).0) (sym k) ∙ r.3 in
          let e : Some (n.key_of (n.key_of m)) ≡ Some (n.key_of m) = sym (h (n.key_of m) there) ∙ ap (λ (z : Bytes). own_name c.own 0 z) key ∙ h m i in
          cc

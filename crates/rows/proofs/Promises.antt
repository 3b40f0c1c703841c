-- Every possible row is a run of the model, and so the promises over rows. Assumes nothing.
use Rattle.std.proofs.Common.{◌≡◌, ℕ, zero, suc, ◌<◌, Bool, true, false, List, [], ◌∷◌, ◌++◌, length, replicate, sym, refl, ap, ◌∙◌, subst, append_assoc, arith}
use mathlib.Core.List.Memᴰ
use mathlib.Core.List.{Memᴰ}
use Rattle.parts.specs.declared.account.Account.{Account}
use Rattle.parts.specs.declared.account.Account.TheVariants.{Absent}
use Rattle.service_rules.specs.Service.{nobody}
use Rattle.house_rules.specs.Account.{account_of}
use Rattle.parts.specs.Account.{is_absent, is_closed as is_shut}
use Rattle.tickets.specs.Term.{Term, Gets}
use Rattle.tickets.specs.State.{Line, LoggingIn, Done, Closing, State, Safe, is_in, is_closed, start}
use Rattle.tickets.specs.Event.{Event, Reach}
use Rattle.tickets.specs.Event as events
use Rattle.tickets.specs.Promise.{by_reader}
use Rattle.tickets.proofs.Bools.{clash, or_right}
use Rattle.tickets.proofs.Main.{main}
use Rattle.rows.specs.Name.{Naming}
use Rattle.rows.specs.Setting.{Setting, rules_of}
use Rattle.rows.specs.System.{System, Act, Possible, run, first}
use Rattle.rows.specs.System as system
use Rattle.rows.specs.Row
use Rattle.rows.specs.Row.{Wanted, Deed, Given, Begun, Taken, SafeDeed, For, Accounted, AskedOnce, Kept, Over, LoggedIn, Fresh, IsRun, lines, deeds, keys, begun, takens}
use Rattle.rows.proofs.Names.{spell-apart}
use Rattle.rows.proofs.Pairs.{Pairs, none, Among, At, Down, at_one, at_first, pairs-at, pairs_of, among_of}
use Rattle.rows.proofs.Pairs as pairs
use Rattle.rows.proofs.Matches.{gets_more}
use Rattle.rows.proofs.Tied.{Tied, SameDeed, LineFact, DeedFact, stage_of, unseen}
use Rattle.rows.proofs.Quiet.{hands-house, hands-service, hands-reader, device-house, device-service, crash-house, crash-service, crash-reader, steals-one}
use Rattle.rows.proofs.Accounts.{opens_one, closes-one}
use Rattle.rows.proofs.Ticking.{waited, reach-waited, tells_all}
use Rattle.rows.proofs.Doing.{logs-in, asks-house, asks-service}
use Rattle.rows.proofs.Wanting.{wants-so}
use Rattle.rows.proofs.Taking.{takes-so}

-- nobody has an account at the start
none-absent : (k j : ℕ) → account_of (replicate k Absent) j ≡ Absent
none-absent zero j = refl
none-absent (suc k) zero = refl
none-absent (suc k) (suc j) = none-absent k j

module _ (c : Setting) (n : Naming c.own) where
  pub there : (t : ℕ) (es : List Act) → Possible c n t es → 0 < length c.own
  there t [] h = h
  there t (e ∷ es) h = there t es h.1

  -- the first start
  tied-first : (t : ℕ) → Tied c n [] 0 (first c n t) [] [] [] [] []
  unfolding is_closed
  tied-first t =
      let reach = reach-waited (rules_of c n) [] start events.here t in
      record {
        events = reach.0;
        model = waited t start;
        reach = reach.1;
        matches =
            record {
              net = record { air = λ x h. absurd (Memᴰ.not-nil h); next = refl; stolen = refl };
              home =
                  record {
                    now_is = omega arith;
                    lag_is = refl;
                    number_is = refl;
                    life_is = refl;
                    key_is = refl;
                    accounts = λ k h. absurd (clash (or_right (nobody k) (is_absent (account_of (replicate 1024 Absent) k)) (ap (λ (x : Account). is_absent x) (none-absent 1024 k))) h);
                    is_open = λ k h. refl;
                    is-closed = λ k h. absurd (clash h (ap (λ (x : Account). is_shut x) (none-absent 1024 k)));
                    notes = record { of = λ d h. absurd (Memᴰ.not-nil h) };
                  };
              side = λ v z. record { now_is = omega arith; lag_is = refl; number_is = refl; notes = record { of = λ d h. absurd (Memᴰ.not-nil h) } };
              box =
                  λ a. record {
                    now_is = omega arith;
                    key_is = refl;
                    logins = λ q h. absurd (Memᴰ.not-nil h);
                    askings = λ q h. absurd (Memᴰ.not-nil h);
                    tickets = λ q h. absurd (Memᴰ.not-nil h);
                  };
            };
        lines = pairs.Pairs.none;
        keys = pairs.Pairs.none;
        begun = pairs.Pairs.none;
        deeds = pairs.Among.none;
        takens = λ x h. absurd (Memᴰ.not-nil h);
        since = λ x h. absurd (Memᴰ.not-nil h);
        low_lines = tt;
        low_keys = tt;
      }

  -- one act more
  next : (K : List Closing) (p : ℕ) (s : System) (ls : List Wanted) (gs : List Given) (bs : List Begun) (ds : List Deed) (xs : List Taken) → 0 < length c.own → Tied c n K p s ls gs bs ds xs → (e : Act) → system.Can c n s e
      → Tied c n K (suc p) (system.step c n e s) (Row.line_by c n e s p ++ ls) (Row.key_by c n e s p ++ gs) (Row.begun_by c n e s p ++ bs) (Row.deed_by c n e s p ++ ds) (Row.taken_by c n e s p ++ xs)
  next K p s ls gs bs ds xs own o (system.tells to) h = tells_all c n o to
  next K p s ls gs bs ds xs own o (system.hands system.House b) h = hands-house c n o b
  next K p s ls gs bs ds xs own o (system.hands (system.Service v) b) h = hands-service c n o v b
  next K p s ls gs bs ds xs own o (system.hands (system.Reader a) b) h = hands-reader c n o a b
  next K p s ls gs bs ds xs own o (system.steals k) h = steals-one c n o k h
  next K p s ls gs bs ds xs own o (system.opens k key w) h = opens_one c n o k key w h
  next K p s ls gs bs ds xs own o (system.closes k w) h = closes-one c n o k w
  next K p s ls gs bs ds xs own o (system.wants a v by w) h = wants-so c n o a v w h.reader by h
  next K p s ls gs bs ds xs own o (system.logs_in a l) h = logs-in c n o a l h own
  next K p s ls gs bs ds xs own o (system.asks_house t q) h = asks-house c n o t q h own
  next K p s ls gs bs ds xs own o (system.asks v t q) h = asks-service c n o v t q h
  next K p s ls gs bs ds xs own o (system.takes a u l) h = takes-so c n o a l h.reader u h
  next K p s ls gs bs ds xs own o (system.hears who) h = unseen c n o s o.matches
  next K p s ls gs bs ds xs own o (system.device system.House w) h = device-house c n o w
  next K p s ls gs bs ds xs own o (system.device (system.Service v) w) h = device-service c n o v w
  next K p s ls gs bs ds xs own o (system.device (system.Reader a) w) h = unseen c n o s o.matches
  next K p s ls gs bs ds xs own o (system.crashes system.House cut) h = crash-house c n o cut h
  next K p s ls gs bs ds xs own o (system.crashes (system.Service v) cut) h = crash-service c n o v cut h
  next K p s ls gs bs ds xs own o (system.crashes (system.Reader a) cut) h = crash-reader c n o a

  -- every possible row is a run of the model
  pub tied : (t : ℕ) (es : List Act) → Possible c n t es → Tied c n [] (length es) (run c n t es) (lines c n t es) (keys c n t es) (begun c n t es) (deeds c n t es) (takens c n t es)
  tied t [] h = tied-first t
  tied t (e ∷ es) h = next [] (length es) (run c n t es) _ _ _ _ _ (there t es h.1) (tied t es h.1) e h.0

-- a deed of the row, its deed in the model, and the line from which it comes
record Wit (c : Setting) (n : Naming c.own) (ls : List Wanted) (m : State) (es : List Done) (d : Deed) : Type 0 where
  deed : Done
  stands : Memᴰ deed es
  same_deed : SameDeed c n d deed
  fact : LineFact c n ls m d deed

module _ (c : Setting) (n : Naming c.own) {ls : List Wanted} {m : State} where
  lift : {es : List Done} {d : Deed} (e : Done) → Wit c n ls m es d → Wit c n ls m (e ∷ es) d
  lift e w = record { deed = w.deed; stands = Memᴰ.tail w.stands; same_deed = w.same_deed; fact = w.fact }

  at_head : {es : List Done} (a : Deed) (e : Done) → DeedFact c n ls m a e → (d : Deed) → d ≡ a → SafeDeed c n d → Wit c n ls m (e ∷ es) d
  at_head a e f d i w =
      record {
        deed = e;
        stands = Memᴰ.head refl;
        same_deed = subst (λ (x : Deed). SameDeed c n x e) (sym i) f.same_deed;
        fact = subst (λ (x : Deed). SafeDeed c n x → LineFact c n ls m x e) (sym i) f.from w;
      }

  wit : {ds : List Deed} {es : List Done} → Among (DeedFact c n ls m) ds es → (d : Deed) → Memᴰ d ds → SafeDeed c n d → Wit c n ls m es d
  wit pairs.Among.none d h w = absurd (Memᴰ.not-nil h)
  wit (pairs.Among.skip {b} a) d h w = lift b (wit a d h w)
  wit (pairs.Among.both {a = x} {b} f a) d (Memᴰ.head i) w = at_head x b f d i w
  wit (pairs.Among.both {a = x} {b} f a) d (Memᴰ.tail h) w = lift b (wit a d h w)

-- the safe deed, as the model has it
safe-so : (c : Setting) (n : Naming c.own) (d : Deed) (e : Done) → SameDeed c n d e → SafeDeed c n d → Safe (rules_of c n) e.stolen e.who e.service
safe-so c n d e s w =
    subst (λ (x : List ℕ). Safe (rules_of c n) x e.who e.service) (sym s.stolen)
    (subst (λ (x : ℕ). Safe (rules_of c n) d.stolen x e.service) (sym s.reader) (subst (λ (x : ℕ). Safe (rules_of c n) d.stolen d.reader x) (sym s.service) w))

module _ (c : Setting) (n : Naming c.own) {K : List Closing} {p : ℕ} {s : System} {ls : List Wanted} {gs : List Given} {bs : List Begun} {ds₀ : List Deed} {xs : List Taken} (o : Tied c n K p s ls gs bs ds₀ xs) where
  -- two deeds of the model, the one earlier than the other, don't come from one line
  apart : (pre es : List Done) (b : Done) → o.model.done ≡ pre ++ (b ∷ es) → (d e : Deed) → (x : Wit c n ls o.model (b ∷ es) d) → x.deed ≡ b → SafeDeed c n d → (y : Wit c n ls o.model es e)
      → x.fact.line.place ≡ y.fact.line.place → ⊥
  apart pre es b split d e x head w y same =
      let one : x.fact.asked.line ≡ y.fact.asked.line = at_one (λ (z : Wanted). z.place) p x.fact.beside y.fact.beside o.low_lines same in
      let split' : o.model.done ≡ pre ++ (x.deed ∷ es) = subst (λ (z : Done). o.model.done ≡ pre ++ (z ∷ es)) (sym head) split in
      (main (rules_of c n) o.events o.model o.reach).once pre es x.deed y.deed split' y.stands (safe-so c n d x.deed x.same_deed w)
      (by_reader x.fact.asked x.fact.answers x.fact.as_wanted) (by_reader y.fact.asked y.fact.answers y.fact.as_wanted)
      (ap (λ (z : Line). z.id) one)

  once-wit : (pre : List Done) {ds : List Deed} {es : List Done} → o.model.done ≡ pre ++ es → (A : Among (DeedFact c n ls o.model) ds es) → (d e : Deed) (h : Memᴰ d ds) (k : Memᴰ e ds) (w : SafeDeed c n d) (u : SafeDeed c n e)
      → (wit c n A d h w).fact.line.place ≡ (wit c n A e k u).fact.line.place → d.place ≡ e.place
  unfolding wit at_head lift
  once-wit pre split pairs.Among.none d e h k w u q = absurd (Memᴰ.not-nil h)
  once-wit pre split (pairs.Among.skip {b} a) d e h k w u q = once-wit (pre ++ (b ∷ [])) (split ∙ sym (append_assoc pre (b ∷ []) _)) a d e h k w u q
  once-wit pre split (pairs.Among.both {a = x} {b} f a) d e (Memᴰ.head i) (Memᴰ.head j) w u q = ap (λ (z : Deed). z.place) (i ∙ sym j)
  once-wit pre split (pairs.Among.both {a = x} {b} {bs = es} f a) d e (Memᴰ.head i) (Memᴰ.tail k) w u q = absurd (apart pre es b split d e (at_head c n x b f d i w) refl w (wit c n a e k u) q)
  once-wit pre split (pairs.Among.both {a = x} {b} {bs = es} f a) d e (Memᴰ.tail h) (Memᴰ.head j) w u q = absurd (apart pre es b split e d (at_head c n x b f e j u) refl u (wit c n a d h w) (sym q))
  once-wit pre split (pairs.Among.both {a = x} {b} f a) d e (Memᴰ.tail h) (Memᴰ.tail k) w u q = once-wit (pre ++ (b ∷ [])) (split ∙ sym (append_assoc pre (b ∷ []) _)) a d e h k w u q

  for : (d : Deed) (x : Wit c n ls o.model o.model.done d) → For c n d x.fact.line
  for d x =
      let l = pairs.at_pair o.lines x.fact.beside in
      let a = x.fact.answers in
      let w = x.fact.as_wanted in
      let time = a.in_time in
      record {
        reader = sym l.reader ∙ a.by_reader ∙ x.same_deed.reader;
        service = sym l.service ∙ w.of_service ∙ a.of_service ∙ x.same_deed.service;
        what = spell-apart _ _ (sym l.what ∙ w.in_words ∙ a.in_words ∙ x.same_deed.what);
        before = x.fact.before;
        not_later = let i = l.at in let j = w.at_tick in let k = time.not_ahead in let u = x.same_deed.at in omega arith;
        lately = let i = l.at in let j = w.at_tick in let k = time.not_old in let u = x.same_deed.at in omega arith;
      }

  accounted : Accounted c n ls ds₀
  accounted =
      record {
        line_for = λ d h w. (wit c n o.deeds d h w).fact.line;
        known = λ d h w. at_first (wit c n o.deeds d h w).fact.beside;
        asked = λ d h w. for d (wit c n o.deeds d h w);
        once = λ d e h k w u q. once-wit [] refl o.deeds d e h k w u q;
      }

module _ (c : Setting) (n : Naming c.own) where
  pub asked-once : AskedOnce c n
  asked-once t es h = accounted c n (tied c n t es h)

  pub kept : Kept c n
  kept t es h g known safe heard =
      let o = tied c n t es h in
      let k = pairs_of o.keys g known in
      (main (rules_of c n) o.events o.model o.reach).kept k.0 k.1
      (subst (λ (x : List ℕ). Safe (rules_of c n) x k.0.who k.0.service) (sym o.matches.net.stolen)
      (subst (λ (x : ℕ). Safe (rules_of c n) (run c n t es).stolen x k.0.service) (sym k.2.reader) (subst (λ (x : ℕ). Safe (rules_of c n) (run c n t es).stolen g.reader x) (sym k.2.service) safe)))
      (subst (λ (x : Term). Gets o.model.air x) (sym k.2.key) (gets_more o.matches.net.air heard))

  pub logged-in : LoggedIn c n
  logged-in t es h g known house free =
      let o = tied c n t es h in
      let k = pairs_of o.keys g known in
      let m =
      (main (rules_of c n) o.events o.model o.reach).logged-in k.0 k.1 (k.2.service ∙ house)
      (subst (λ (x : List ℕ). is_in k.0.who x ≡ false) (sym k.2.stolen) (subst (λ (x : ℕ). is_in x g.stolen ≡ false) (sym k.2.reader) free))
      in
      let x = m.0 in
      let u = m.1 in
      let b = pairs-at o.begun x u.known in
      let time = u.in_time in (
        b.0,
        at_first b.1,
        login-stage b.0.login (sym b.2.stage ∙ u.at_login),
        sym b.2.reader ∙ u.by_reader ∙ k.2.reader,
        n.apart _ _ (sym b.2.number ∙ sym u.same_number ∙ k.2.number),
        (let i = b.2.at in let j = k.2.at in let y = time.not_ahead in omega arith),
        (let i = b.2.at in let j = k.2.at in let y = time.not_old in omega arith),
      )
    where
      login-stage : (b : Bool) → stage_of b ≡ LoggingIn → b ≡ true
      login-stage true e = refl
      login-stage false e = absurd (let z : ◌≡◌ {A = ℕ} 0 1 = cc in omega arith)

  pub fresh : Fresh c n
  fresh t es h x known safe = (tied c n t es h).takens x known safe

  -- a row whose closings so far are kept in mind
  since-now : {p : ℕ} {s : System} {ls : List Wanted} {gs : List Given} {bs : List Begun} {ds : List Deed} {xs : List Taken} (o : Tied c n [] p s ls gs bs ds xs) → Tied c n o.model.closed p s ls gs bs ds xs
  since-now o =
      record {
        events = o.events;
        model = o.model;
        reach = o.reach;
        matches = o.matches;
        lines = o.lines;
        keys = o.keys;
        begun = o.begun;
        deeds = o.deeds;
        takens = o.takens;
        since = λ x h. h;
        low_lines = o.low_lines;
        low_keys = o.low_keys;
      }

  back : (t : ℕ) (fs es : List Act) → Possible c n t (fs ++ es) → Possible c n t es
  back t [] es h = h
  back t (e ∷ fs) es h = back t fs es h.1

  tied-since : (t : ℕ) (fs es : List Act) (h : Possible c n t es) → Possible c n t (fs ++ es)
      → Tied c n (tied c n t es h).model.closed (length (fs ++ es)) (run c n t (fs ++ es)) (lines c n t (fs ++ es)) (keys c n t (fs ++ es)) (begun c n t (fs ++ es)) (deeds c n t (fs ++ es)) (takens c n t (fs ++ es))
  tied-since t [] es h k = since-now (tied c n t es h)
  tied-since t (e ∷ fs) es h k =
      next c n (tied c n t es h).model.closed (length (fs ++ es)) (run c n t (fs ++ es)) _ _ _ _ _ (there c n t es h) (tied-since t fs es h k.1) e k.0

  pub over : Over c n
  over t es fs h a shut d known reader free =
      let k = back t fs es h in
      let o = tied c n t es k in
      let x = o.matches.home.is-closed a shut in
      let u = tied-since t fs es k h in
      let e = among_of u.deeds d known in
      let same = e.2.same_deed in
      let m =
      (main (rules_of c n) u.events u.model u.reach).over x.closing e.0 (u.since x.closing x.known) e.1
      (same.reader ∙ reader ∙ sym x.whose)
      (subst (λ (y : List ℕ). is_in (n.key_of e.0.service) y ≡ false) (sym same.stolen) (subst (λ (y : ℕ). is_in (n.key_of y) d.stolen ≡ false) (sym same.service) free))
      in
      let i = same.at in
      let j = x.past in
      let l = o.matches.home.now_is in
      omega arith

  pub is-run : IsRun c n
  is-run t es h =
      let o = tied c n t es h in (
        o.events,
        o.model,
        record {
          reach = o.reach;
          same_tick = o.matches.home.now_is;
          same_thefts = o.matches.net.stolen;
          sent = o.matches.net.air;
          done =
              λ d k. let e = among_of o.deeds d k in
              let s = e.2.same_deed in
              (e.0, e.1, s.service, s.reader, s.key, s.number, s.what, s.at);
        },
      )

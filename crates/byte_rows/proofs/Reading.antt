-- What stands behind a word that was read: how it was framed, which locks opened, and what was inside. Assumes nothing.
use Rattle.std.proofs.Common.{◌≡◌, ℕ, suc, ◌≤◌, Bool, true, false, cond, List, [], ◌∷◌, Some, None, Ok, Err, Option, Result, sym, refl, ap, ◌∙◌, subst, arith}
use Rattle.box_rules.specs.Chest.{Boxed}
use Rattle.box_rules.specs.Keys.{letter_keys}
use Rattle.box_rules.specs.declared.line.Under.{Under}
use Rattle.box_side.specs.Box as box
use Rattle.box_side.specs.Box.{opens_first, under_of}
use Rattle.contents.specs.Inside.{read_asking, read_letter, read_login, read_receipt}
use Rattle.house_rules.specs.Account.{own_key, unknown}
use Rattle.house_rules.specs.House.{Home}
use Rattle.house_side.specs.House as house
use Rattle.locked.specs.Locked.{Bytes, Locks, Tried, asking_in, asking_ok, login_in, opened_as, ticket_in}
use Rattle.parts.specs.declared.fault.Fault.{Fault}
use Rattle.parts.specs.declared.fault.Fault.TheVariants.{Unknown}
use Rattle.parts.specs.declared.word.Asking.{Asking}
use Rattle.parts.specs.declared.word.Key.{Key}
use Rattle.parts.specs.declared.word.Letter.{Letter}
use Rattle.parts.specs.declared.word.Login.{Login}
use Rattle.parts.specs.declared.word.Receipt.{Receipt}
use Rattle.parts.specs.declared.word.Ticket.{Ticket}
use Rattle.service_side.specs.Service as service
use Rattle.wire.specs.Word.{Frame, framed}
use Rattle.wire.specs.Word as frame
use mathlib.Core.List.{Memᴰ}

-- a lock that opened, and what was read in it
pub record Opened {X : Type 0} (read : Bytes → Result X Fault) (o : Option Bytes) (x : X) : Type 0 where
  pub inside : Bytes
  pub opens : o ≡ Some inside
  pub reads : read inside ≡ Ok x

pub opened-as : {X : Type 0} (read : Bytes → Result X Fault) (o : Option Bytes) (x : X) → opened_as read o ≡ Ok x → Opened read o x
opened-as read None x e = absurd (let z : ◌≡◌ {A = ℕ} 0 1 = cc in omega arith)
opened-as read (Some inside) x e = record { inside = inside; opens = refl; reads = e }

module _ (l : Locks) where
  -- a login that was read at the house
  pub record ReadLogin (h : Home) (w : Bytes) (a : ℕ) (x : Login) : Type 0 where
    pub lock : Bytes
    pub frames : framed w ≡ Ok (frame.login a lock)
    pub opened : Opened read_login (l.opens 4 (own_key h.accounts a).0 lock) x
    pub known : unknown h.accounts a ≡ false

  -- a ticket and an asking that were read by the key of the ticket
  pub record ReadAsking (k : Key) (w : Bytes) (t : Ticket) (q : Asking) : Type 0 where
    pub ticket : Bytes
    pub asking : Bytes
    pub frames : framed w ≡ Ok (frame.asking ticket asking)
    pub is_ticket : ticket_in l k ticket ≡ Ok t
    pub opened : Opened (λ bs. asking_ok (read_asking bs)) (l.opens 3 t.key.0 asking) q

  -- a letter that was read at a box
  pub record ReadLetter (b : Boxed Bytes) (w : Bytes) (ticket : Bytes) (u : Under) (x : Letter) : Type 0 where
    pub letter : Bytes
    pub frames : framed w ≡ Ok (frame.ticket_and_letter ticket letter)
    pub tried : Tried
    pub first : opens_first l 2 0 (letter_keys b) letter ≡ Some tried
    pub reads : read_letter tried.inside ≡ Ok x
    pub under : u ≡ under_of tried.place tried.key

  pub login-read : (h : Home) (w : Bytes) (a : ℕ) (x : Login) → house.read_at_house l h w ≡ house.logs a x → ReadLogin h w a x
  login-read h w a x e = go (framed w) refl e
    where
      opens : (b : ℕ) (lock : Bytes) → framed w ≡ Ok (frame.login b lock) → (u : Bool) → unknown h.accounts b ≡ u → (r : Result Login Fault) → login_in l (own_key h.accounts b) lock ≡ r
          → cond u (house.wrong Unknown) (elim r [ Ok x ↦ house.logs b x | Err f ↦ house.wrong f ]) ≡ house.logs a x → ReadLogin h w a x
      opens b lock f true k r i j = absurd (let z : ◌≡◌ {A = ℕ} 0 1 = cc in omega arith)
      opens b lock f false k (Ok y) i j =
          let p : b ≡ a = cc in
          let q : y ≡ x = cc in
          record {
            lock = lock;
            frames = f ∙ ap (λ (z : ℕ). Ok (frame.login z lock)) p;
            opened = opened-as read_login (l.opens 4 (own_key h.accounts a).0 lock) x (subst (λ (z : ℕ). login_in l (own_key h.accounts z) lock ≡ Ok x) p (i ∙ ap (λ (z : Login). Ok z) q));
            known = subst (λ (z : ℕ). unknown h.accounts z ≡ false) p k;
          }
      opens b lock f false k (Err g) i j = absurd (let z : ◌≡◌ {A = ℕ} 0 1 = cc in omega arith)

      asks : (q : Bytes) (r : Result Ticket Fault) → house.asking_under l q r ≡ house.logs a x → ⊥
      asks q (Err f) k = let z : ◌≡◌ {A = ℕ} 0 1 = cc in omega arith
      asks q (Ok t) k = then (asking_in l t.key q) k
        where
          then : (r : Result Asking Fault) → elim r [ Ok y ↦ house.asks t y | Err f ↦ house.wrong f ] ≡ house.logs a x → ⊥
          then (Ok y) i = let z : ◌≡◌ {A = ℕ} 0 1 = cc in omega arith
          then (Err f) i = let z : ◌≡◌ {A = ℕ} 0 1 = cc in omega arith

      go : (r : Result Frame Fault) → framed w ≡ r → elim r [ Ok f ↦ house.read_frame l h f | Err f ↦ house.wrong f ] ≡ house.logs a x → ReadLogin h w a x
      go (Err f) i k = absurd (let z : ◌≡◌ {A = ℕ} 0 1 = cc in omega arith)
      go (Ok (frame.login b lock)) i k = opens b lock i (unknown h.accounts b) refl (login_in l (own_key h.accounts b) lock) refl k
      go (Ok (frame.ticket_and_letter t y)) i k = absurd (let z : ◌≡◌ {A = ℕ} 0 1 = cc in omega arith)
      go (Ok (frame.asking t q)) i k = absurd (asks q (ticket_in l h.key t) k)
      go (Ok (frame.receipt lock)) i k = absurd (let z : ◌≡◌ {A = ℕ} 0 1 = cc in omega arith)
      go (Ok (frame.refusal class)) i k = absurd (let z : ◌≡◌ {A = ℕ} 0 1 = cc in omega arith)

  pub asking-read-house : (h : Home) (w : Bytes) (t : Ticket) (q : Asking) → house.read_at_house l h w ≡ house.asks t q → ReadAsking h.key w t q
  asking-read-house h w t q e = go (framed w) refl e
    where
      logs : (a : ℕ) (lock : Bytes) (u : Bool) (r : Result Login Fault)
          → cond u (house.wrong Unknown) (elim r [ Ok x ↦ house.logs a x | Err f ↦ house.wrong f ]) ≡ house.asks t q → ⊥
      logs a lock true r j = let z : ◌≡◌ {A = ℕ} 0 1 = cc in omega arith
      logs a lock false (Ok y) j = let z : ◌≡◌ {A = ℕ} 0 1 = cc in omega arith
      logs a lock false (Err g) j = let z : ◌≡◌ {A = ℕ} 0 1 = cc in omega arith

      asks : (tk qb : Bytes) → framed w ≡ Ok (frame.asking tk qb) → (r : Result Ticket Fault) → ticket_in l h.key tk ≡ r → house.asking_under l qb r ≡ house.asks t q → ReadAsking h.key w t q
      asks tk qb f (Err g) i k = absurd (let z : ◌≡◌ {A = ℕ} 0 1 = cc in omega arith)
      asks tk qb f (Ok t') i k = then (asking_in l t'.key qb) refl k
        where
          then : (r : Result Asking Fault) → asking_in l t'.key qb ≡ r → elim r [ Ok y ↦ house.asks t' y | Err f ↦ house.wrong f ] ≡ house.asks t q → ReadAsking h.key w t q
          then (Ok y) j m =
              let p : t' ≡ t = cc in
              let o : y ≡ q = cc in
              record {
                ticket = tk;
                asking = qb;
                frames = f;
                is_ticket = i ∙ ap (λ (z : Ticket). Ok z) p;
                opened = opened-as (λ bs. asking_ok (read_asking bs)) (l.opens 3 t.key.0 qb) q (subst (λ (z : Ticket). asking_in l z.key qb ≡ Ok q) p (j ∙ ap (λ (z : Asking). Ok z) o));
              }
          then (Err g) j m = absurd (let z : ◌≡◌ {A = ℕ} 0 1 = cc in omega arith)

      go : (r : Result Frame Fault) → framed w ≡ r → elim r [ Ok f ↦ house.read_frame l h f | Err f ↦ house.wrong f ] ≡ house.asks t q → ReadAsking h.key w t q
      go (Err f) i k = absurd (let z : ◌≡◌ {A = ℕ} 0 1 = cc in omega arith)
      go (Ok (frame.login b lock)) i k = absurd (logs b lock (unknown h.accounts b) (login_in l (own_key h.accounts b) lock) k)
      go (Ok (frame.ticket_and_letter tk y)) i k = absurd (let z : ◌≡◌ {A = ℕ} 0 1 = cc in omega arith)
      go (Ok (frame.asking tk qb)) i k = asks tk qb i (ticket_in l h.key tk) refl k
      go (Ok (frame.receipt lock)) i k = absurd (let z : ◌≡◌ {A = ℕ} 0 1 = cc in omega arith)
      go (Ok (frame.refusal class)) i k = absurd (let z : ◌≡◌ {A = ℕ} 0 1 = cc in omega arith)

  pub asking-read-service : (own : Key) (w : Bytes) (t : Ticket) (q : Asking) → service.read_at_service l own w ≡ service.asks t q → ReadAsking own w t q
  asking-read-service own w t q e = go (framed w) refl e
    where
      asks : (tk qb : Bytes) → framed w ≡ Ok (frame.asking tk qb) → (r : Result Ticket Fault) → ticket_in l own tk ≡ r → service.asking_under l qb r ≡ service.asks t q → ReadAsking own w t q
      asks tk qb f (Err g) i k = absurd (let z : ◌≡◌ {A = ℕ} 0 1 = cc in omega arith)
      asks tk qb f (Ok t') i k = then (asking_in l t'.key qb) refl k
        where
          then : (r : Result Asking Fault) → asking_in l t'.key qb ≡ r → elim r [ Ok y ↦ service.asks t' y | Err f ↦ service.wrong f ] ≡ service.asks t q → ReadAsking own w t q
          then (Ok y) j m =
              let p : t' ≡ t = cc in
              let o : y ≡ q = cc in
              record {
                ticket = tk;
                asking = qb;
                frames = f;
                is_ticket = i ∙ ap (λ (z : Ticket). Ok z) p;
                opened = opened-as (λ bs. asking_ok (read_asking bs)) (l.opens 3 t.key.0 qb) q (subst (λ (z : Ticket). asking_in l z.key qb ≡ Ok q) p (j ∙ ap (λ (z : Asking). Ok z) o));
              }
          then (Err g) j m = absurd (let z : ◌≡◌ {A = ℕ} 0 1 = cc in omega arith)

      go : (r : Result Frame Fault) → framed w ≡ r → elim r [ Ok f ↦ service.read_frame l own f | Err f ↦ service.wrong f ] ≡ service.asks t q → ReadAsking own w t q
      go (Err f) i k = absurd (let z : ◌≡◌ {A = ℕ} 0 1 = cc in omega arith)
      go (Ok (frame.login b lock)) i k = absurd (let z : ◌≡◌ {A = ℕ} 0 1 = cc in omega arith)
      go (Ok (frame.ticket_and_letter tk y)) i k = absurd (let z : ◌≡◌ {A = ℕ} 0 1 = cc in omega arith)
      go (Ok (frame.asking tk qb)) i k = asks tk qb i (ticket_in l own tk) refl k
      go (Ok (frame.receipt lock)) i k = absurd (let z : ◌≡◌ {A = ℕ} 0 1 = cc in omega arith)
      go (Ok (frame.refusal class)) i k = absurd (let z : ◌≡◌ {A = ℕ} 0 1 = cc in omega arith)

  pub letter-read : (b : Boxed Bytes) (w ticket : Bytes) (u : Under) (x : Letter) → box.read_at_box l b w ≡ box.brings ticket u x → ReadLetter b w ticket u x
  letter-read b w ticket u x e = go (framed w) refl e
    where
      letters : (tk y : Bytes) → framed w ≡ Ok (frame.ticket_and_letter tk y) → (o : Option Tried) → opens_first l 2 0 (letter_keys b) y ≡ o → box.letter_read tk o ≡ box.brings ticket u x → ReadLetter b w ticket u x
      letters tk y f None i k = absurd (let z : ◌≡◌ {A = ℕ} 0 1 = cc in omega arith)
      letters tk y f (Some d) i k = then (read_letter d.inside) refl k
        where
          then : (r : Result Letter Fault) → read_letter d.inside ≡ r → elim r [ Ok z ↦ box.brings tk (under_of d.place d.key) z | Err f ↦ box.wrong f ] ≡ box.brings ticket u x → ReadLetter b w ticket u x
          then (Ok z) j m =
              let p : tk ≡ ticket = cc in
              let q : under_of d.place d.key ≡ u = cc in
              let o : z ≡ x = cc in
              record {
                letter = y;
                frames = f ∙ ap (λ (v : Bytes). Ok (frame.ticket_and_letter v y)) p;
                tried = d;
                first = i;
                reads = j ∙ ap (λ (v : Letter). Ok v) o;
                under = sym q;
              }
          then (Err g) j m = absurd (let z : ◌≡◌ {A = ℕ} 0 1 = cc in omega arith)

      receipts : (o : Option Tried) → box.receipt_read o ≡ box.brings ticket u x → ⊥
      receipts None k = let z : ◌≡◌ {A = ℕ} 0 1 = cc in omega arith
      receipts (Some d) k = then (read_receipt d.inside) k
        where
          then : (r : Result Receipt Fault) → elim r [ Ok z ↦ box.confirms d.key z | Err f ↦ box.wrong f ] ≡ box.brings ticket u x → ⊥
          then (Ok y) j = let z : ◌≡◌ {A = ℕ} 0 1 = cc in omega arith
          then (Err g) j = let z : ◌≡◌ {A = ℕ} 0 1 = cc in omega arith

      go : (r : Result Frame Fault) → framed w ≡ r → elim r [ Ok f ↦ box.read_frame l b f | Err f ↦ box.wrong f ] ≡ box.brings ticket u x → ReadLetter b w ticket u x
      go (Err f) i k = absurd (let z : ◌≡◌ {A = ℕ} 0 1 = cc in omega arith)
      go (Ok (frame.login a lock)) i k = absurd (let z : ◌≡◌ {A = ℕ} 0 1 = cc in omega arith)
      go (Ok (frame.ticket_and_letter tk y)) i k = letters tk y i (opens_first l 2 0 (letter_keys b) y) refl k
      go (Ok (frame.asking tk q)) i k = absurd (let z : ◌≡◌ {A = ℕ} 0 1 = cc in omega arith)
      go (Ok (frame.receipt lock)) i k = absurd (receipts (opens_first l 5 0 _ lock) k)
      go (Ok (frame.refusal class)) i k = absurd (let z : ◌≡◌ {A = ℕ} 0 1 = cc in omega arith)

  -- the key that opened is one of those that were tried, and opened to this inside
  pub record OpenedBy (kind n : ℕ) (ks : List Key) (w : Bytes) (t : Tried) : Type 0 where
    pub known : Memᴰ t.key ks
    pub opens : l.opens kind t.key.0 w ≡ Some t.inside
    pub not_before : n ≤ t.place

  pub opened-by : (kind n : ℕ) (ks : List Key) (w : Bytes) (t : Tried) → opens_first l kind n ks w ≡ Some t → OpenedBy kind n ks w t
  opened-by kind n [] w t e = absurd (let z : ◌≡◌ {A = ℕ} 0 1 = cc in omega arith)
  opened-by kind n (k ∷ ks) w t e = go (λ i. opened-by kind (suc n) ks w t i) (l.opens kind k.0 w) refl e
    where
      go : (opens_first l kind (suc n) ks w ≡ Some t → OpenedBy kind (suc n) ks w t) → (o : Option Bytes) → l.opens kind k.0 w ≡ o
          → elim o [ None ↦ opens_first l kind (suc n) ks w | Some x ↦ Some (record { place = n; key = k; inside = x }) ] ≡ Some t → OpenedBy kind n (k ∷ ks) w t
      go rest None i j = let r = rest j in record { known = Memᴰ.tail r.known; opens = r.opens; not_before = let a = r.not_before in omega arith }
      go rest (Some x) i j =
          let p : record { place = n; key = k; inside = x } ≡ t = cc in
          let a : k ≡ t.key = ap (λ (z : Tried). z.key) p in
          let d : x ≡ t.inside = ap (λ (z : Tried). z.inside) p in
          let m : n ≡ t.place = ap (λ (z : Tried). z.place) p in
          record {
            known = Memᴰ.head (sym a);
            opens = subst (λ (z : Key). l.opens kind z.0 w ≡ Some t.inside) a (i ∙ ap (λ (z : Bytes). Some z) d);
            not_before = omega arith;
          }

  -- at the first place the first key opened
  pub opened-first : (kind : ℕ) (k : Key) (ks : List Key) (w : Bytes) (t : Tried) → opens_first l kind 0 (k ∷ ks) w ≡ Some t → t.place ≡ 0 → t.key ≡ k
  opened-first kind k ks w t e zero = go (l.opens kind k.0 w) e
    where
      go : (o : Option Bytes) → elim o [ None ↦ opens_first l kind 1 ks w | Some x ↦ Some (record { place = 0; key = k; inside = x }) ] ≡ Some t → t.key ≡ k
      go None j = absurd (let r = (opened-by kind 1 ks w t j).not_before in omega arith)
      go (Some x) j =
          let p : record { place = 0; key = k; inside = x } ≡ t = cc in
          sym (ap (λ (z : Tried). z.key) p)

-- Served: from every state of every row, six named acts, line, login, letter, asking, letter, asking, end with a new deed of this line. Assumes nothing.
--
-- first_login .. service_asking  what the six acts bring: the code's own answers, by the drawn bytes that are left
-- six_calls s a v w              the six acts by which reader a is served by v with words w, in system s
-- six_sent s a v w               what is sent by them
-- Ready s a v w                  what the six acts need
-- Same s s'                      nothing was stolen, opened or closed, and no tick was told
-- Served                         in every row that can happen, whoever is ready is served, at the same tick, and nothing else is done
use Rattle.std.specs.Prelude.{◌≡◌, ℕ, suc, ◌+◌, ◌-◌, ◌^◌, ◌<◌, ◌≤◌, true, false, List, [], ◌∷◌, ◌++◌, length, drop, None}
use Rattle.parts.specs.Drawn.{number_of, key_of}
use Rattle.parts.specs.declared.word.Asking.{Asking}
use Rattle.parts.specs.declared.word.Letter.{Letter}
use Rattle.parts.specs.declared.word.Login.{Login}
use Rattle.parts.specs.declared.word.Ticket.{Ticket}
use Rattle.parts.specs.declared.word.What.{What}
use Rattle.service_rules.specs.Memory.{live_of, stands}
use Rattle.service_rules.specs.Service.{View}
use Rattle.service_rules.specs.Side.{waiting}
use Rattle.house_rules.specs.Account.{closed, unknown}
use Rattle.house_rules.specs.House.{Home, until_of}
use Rattle.box_rules.specs.Chest.{two_bytes}
use Rattle.box_rules.specs.declared.line.Under.TheVariants.{Own as OwnKey, Session}
use Rattle.tickets.specs.Term.{Term, even}
use Rattle.rows.specs.Name.{Bytes, Naming, own_of}
use Rattle.rows.specs.Word.{words_of, ticket_term, letter_term, asking_term, login_term, receipt_term}
use Rattle.rows.specs.Setting.{Setting}
use Rattle.rows.specs.System.{System, Box, Act, wants, logs_in, asks_house, asks, takes, Alone, Possible, run}
use Rattle.rows.specs.Row.{Wanted, Deed, lines, deeds}

-- the login that the line begins
abbrev pub first_login : Box → Login
first_login b = record { number = number_of b.left; tick = b.now }

-- the ticket for the house, and the letter that comes with it
abbrev pub house_ticket : Home → ℕ → Ticket
house_ticket h a = record { service = 0; reader = a; key = key_of h.left; until = until_of h }

abbrev pub house_letter : Box → Home → Letter
house_letter b h = record { number = number_of b.left; service = 0; key = key_of h.left; until = until_of h }

-- the asking for the house: for that service
abbrev pub house_asking : Box → ℕ → Asking
house_asking b v = record { service = 0; number = number_of (drop 32 b.left); what = two_bytes v; tick = b.now }

-- the ticket for the service, and the letter that comes with it
abbrev pub service_ticket : Home → (a v : ℕ) → Ticket
service_ticket h a v = record { service = v; reader = a; key = key_of (drop 64 h.left); until = until_of h }

abbrev pub service_letter : Box → Home → ℕ → Letter
service_letter b h v =
    record { number = number_of (drop 32 b.left); service = v; key = key_of (drop 64 h.left); until = until_of h }

-- the asking to the service: what the line says
abbrev pub service_asking : Box → ℕ → What → Asking
service_asking b v w = record { service = v; number = number_of (drop 32 (drop 32 b.left)); what = w; tick = b.now }

-- the newest first: line, login, letter, asking, letter, asking
abbrev pub six_calls : System → (a v : ℕ) → What → List Act
six_calls s a v w =
    asks v (service_ticket s.home a v) (service_asking (s.box a) v w)
    ∷ takes a (Session (key_of s.home.left)) (service_letter (s.box a) s.home v)
    ∷ asks_house (house_ticket s.home a) (house_asking (s.box a) v)
    ∷ takes a OwnKey (house_letter (s.box a) s.home)
    ∷ logs_in a (first_login (s.box a))
    ∷ wants a v None w
    ∷ []

-- the draws that the six acts use, in this order
abbrev pub five_draws : Box → Home → List Bytes
five_draws b h =
    (first_login b).number.0
    ∷ (key_of h.left).0
    ∷ (number_of (drop 32 b.left)).0
    ∷ (key_of (drop 64 h.left)).0
    ∷ (number_of (drop 32 (drop 32 b.left))).0
    ∷ []

-- the line, at its place in the row
abbrev pub wanted_line : System → (place a v : ℕ) → What → Wanted
wanted_line s p a v w = record { place = p; reader = a; service = v; what = words_of w; at = s.home.side.now }

-- the deed, five acts later, at the tick of the line
abbrev pub new_deed : System → (place a v : ℕ) → What → Deed
new_deed s p a v w =
    record {
      place = p + 5;
      service = v;
      reader = a;
      key = (key_of (drop 64 s.home.left)).0;
      number = (number_of (drop 32 (drop 32 (s.box a).left))).0;
      what = words_of w;
      at = s.home.side.now;
      stolen = s.stolen;
    }

-- one system as another, but for what is under way, remembered, sent and drawn
pub record Same (s s' : System) : Type 0 where
  pub stolen : s'.stolen ≡ s.stolen
  pub accounts : s'.home.accounts ≡ s.home.accounts
  pub house : s'.home.side ≡ s.home.side
  pub sides : (v : ℕ) → (s'.side v).side ≡ (s.side v).side
  pub boxes : (a : ℕ) → (s'.box a).now ≡ (s.box a).now

-- a service that does what it is asked, at once: it does not wait, its device writes, there is room, and 16 drawn bytes
pub record AtWork (u : View) : Type 0 where
  pub awake : waiting u.side ≡ false
  pub writes : u.writes ≡ true
  pub room : length (live_of u.side.now u.side.lag u.kept) < 8192
  pub drawn : 16 ≤ length u.left

-- so the house, with 128
pub record HouseAtWork (h : Home) : Type 0 where
  pub awake : waiting h.side ≡ false
  pub writes : h.writes ≡ true
  pub room : length (live_of h.side.now h.side.lag h.kept) < 8192
  pub drawn : 128 ≤ length h.left

-- a box with 96, that can number one more line and two more tickets
pub record BoxAtWork (b : Box) : Type 0 where
  pub drawn : 96 ≤ length b.left
  pub lines : b.lines < 2 ^ 64 - 1
  pub tickets : b.taken + 1 < 2 ^ 64 - 1

module _ (c : Setting) (n : Naming c.own) where
  -- each of these draws has the next name, when those were used
  abbrev pub NewDraws : (used draws : List Bytes) → Type 0
  NewDraws used [] = Unit {0}
  NewDraws used (x ∷ xs) = (n.name x ≡ even (suc (length used))) × NewDraws (x ∷ used) xs

  -- what the six acts need: both accounts are there (so their numbers are 1 to 1,023, and they have own keys), the reader's is not
  -- closed; all who take part are at work; the draws are new. The two digests are asked not to meet any that is remembered for Served alone: nothing that is promised
  -- of what was done rests on it. That the new numbers differ from all that are under way in the box is not asked: their names are new.
  pub record Ready (s : System) (a v : ℕ) (w : What) : Type 0 where
    pub reader : Alone c n a
    pub known : unknown s.home.accounts a ≡ false
    pub is_open : closed s.home.accounts a ≡ false
    pub service_known : unknown s.home.accounts v ≡ false
    pub words : w.len ≤ 1024
    pub house_at_work : HouseAtWork s.home
    pub at_work : AtWork (s.side v)
    pub box_at_work : BoxAtWork (s.box a)
    pub draws : NewDraws s.used (five_draws (s.box a) s.home)
    pub house_digest : stands (c.digest (key_of s.home.left) (number_of (drop 32 (s.box a).left))) (live_of s.home.side.now s.home.side.lag s.home.kept) ≡ false
    pub digest : stands (c.digest (key_of (drop 64 s.home.left)) (number_of (drop 32 (drop 32 (s.box a).left)))) (live_of (s.side v).side.now (s.side v).side.lag (s.side v).kept) ≡ false

  -- what is sent by the six acts, the newest first: just the words that the later ones of them bring, and a receipt
  abbrev pub six_sent : System → (a v : ℕ) → What → List Term
  six_sent s a v w =
      receipt_term n.name (service_ticket s.home a v).key (record { number = (service_asking (s.box a) v w).number })
      ∷ asking_term n.name (service_ticket s.home a v).key (service_asking (s.box a) v w)
      ∷ ticket_term n.name (own_of c.own v) (service_ticket s.home a v)
      ∷ letter_term n.name (house_ticket s.home a).key (service_letter (s.box a) s.home v)
      ∷ asking_term n.name (house_ticket s.home a).key (house_asking (s.box a) v)
      ∷ ticket_term n.name s.home.key (house_ticket s.home a)
      ∷ letter_term n.name (own_of c.own a) (house_letter (s.box a) s.home)
      ∷ login_term n.name (own_of c.own a) (first_login (s.box a))
      ∷ []

  -- how the six acts end, upon a row
  pub record Ends (t : ℕ) (es : List Act) (a v : ℕ) (w : What) : Type 0 where
    pub possible : Possible c n t (six_calls (run c n t es) a v w ++ es)
    pub deed : deeds c n t (six_calls (run c n t es) a v w ++ es) ≡ new_deed (run c n t es) (length es) a v w ∷ deeds c n t es
    pub line : lines c n t (six_calls (run c n t es) a v w ++ es) ≡ wanted_line (run c n t es) (length es) a v w ∷ lines c n t es
    pub sent : (run c n t (six_calls (run c n t es) a v w ++ es)).air ≡ six_sent (run c n t es) a v w ++ (run c n t es).air
    pub same : Same (run c n t es) (run c n t (six_calls (run c n t es) a v w ++ es))

  abbrev pub Served : Type 0
  Served = (t : ℕ) (es : List Act) → Possible c n t es → (a v : ℕ) (w : What) → Ready (run c n t es) a v w → Ends t es a v w

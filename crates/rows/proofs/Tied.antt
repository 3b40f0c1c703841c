-- A row of acts beside a run of the model: what the row tells is what the model knows. Assumes nothing.
use Rattle.std.proofs.Common.{◌≡◌, ℕ, suc, ◌<◌, ◌≤◌, Bool, true, false, List, arith}
use mathlib.Core.List.{Memᴰ}
use Rattle.tickets.specs.Term.{even}
use Rattle.tickets.specs.State.{Closing, Line, Stage, LoggingIn, AskingHouse, Wish, Key, Asked, Done, State, Safe}
use Rattle.tickets.specs.Event.{Event, Reach}
use Rattle.tickets.specs.Promise.{Answers, AsWanted}
use Rattle.tickets.proofs.Known.{Grows}
use Rattle.tickets.proofs.Keep.{answers-grows}
use Rattle.rows.specs.Name.{Naming, spell}
use Rattle.rows.specs.Setting.{Setting, rules_of}
use Rattle.rows.specs.System.{System}
use Rattle.rows.specs.Row.{Wanted, Deed, Given, Begun, Taken, SafeDeed}
use Rattle.rows.proofs.Pairs.{Pairs, Among, among-map, At, Down, down-more}
use Rattle.rows.proofs.Matches.{Matches}

-- the stage of a login or of an asking
abbrev pub stage_of : Bool → Stage
stage_of true = LoggingIn
stage_of false = AskingHouse

module _ (c : Setting) (n : Naming c.own) where
  pub record SameLine (w : Wanted) (l : Line) : Type 0 where
    pub reader : l.reader ≡ w.reader
    pub service : l.service ≡ w.service
    pub what : l.what ≡ spell w.what
    pub at : l.at ≡ w.at

  pub record SameDeed (d : Deed) (e : Done) : Type 0 where
    pub service : e.service ≡ d.service
    pub reader : e.who ≡ d.reader
    pub key : e.key ≡ n.name d.key
    pub number : e.number ≡ n.name d.number
    pub what : e.what ≡ spell d.what
    pub at : e.at ≡ d.at
    pub stolen : e.stolen ≡ d.stolen

  pub record SameKey (g : Given) (m : Key) : Type 0 where
    pub reader : m.who ≡ g.reader
    pub service : m.service ≡ g.service
    pub key : even m.key ≡ n.name g.key
    pub number : m.upon ≡ n.name g.number
    pub at : m.at ≡ g.at
    pub stolen : m.stolen ≡ g.stolen

  pub record SameBegun (b : Begun) (x : Wish) : Type 0 where
    pub reader : x.line.reader ≡ b.reader
    pub number : even x.number ≡ n.name b.number
    pub at : x.since ≡ b.at
    pub stage : x.stage ≡ stage_of b.login

  -- the line from which a deed comes stands in the row, before it
  pub record LineFact (ls : List Wanted) (m : State) (d : Deed) (e : Done) : Type 0 where
    pub asked : Asked
    pub answers : Answers (rules_of c n) m e asked
    pub as_wanted : AsWanted asked
    pub line : Wanted
    pub beside : At ls m.lines line asked.line
    pub before : line.place < d.place

  pub record DeedFact (ls : List Wanted) (m : State) (d : Deed) (e : Done) : Type 0 where
    pub same_deed : SameDeed d e
    pub from : SafeDeed c n d → LineFact ls m d e

  -- what is promised of a letter that was taken
  abbrev pub TakenFact : List Given → List Begun → Taken → Type 0
  TakenFact gs bs x =
      Safe (rules_of c n) x.stolen x.reader 0
      → (g : Given) × Memᴰ g gs × (g.reader ≡ x.reader) × (g.service ≡ x.service) × (g.key ≡ x.key) × (g.number ≡ x.number) × (g.place < x.place)
      × ((b : Begun) × Memᴰ b bs × (b.reader ≡ x.reader) × (b.number ≡ x.number) × (b.at ≤ g.at))

  -- p: how many acts there were; K: closings that are known
  pub record Tied (K : List Closing) (p : ℕ) (s : System) (ls : List Wanted) (gs : List Given) (bs : List Begun) (ds : List Deed) (xs : List Taken) : Type 0 where
    pub events : List Event
    pub model : State
    pub reach : Reach (rules_of c n) events model
    pub matches : Matches c n s model
    pub lines : Pairs SameLine ls model.lines
    pub keys : Pairs SameKey gs model.made
    pub begun : Pairs SameBegun bs model.wishes
    pub deeds : Among (DeedFact ls model) ds model.done
    pub takens : (x : Taken) → Memᴰ x xs → TakenFact gs bs x
    pub since : (x : Closing) → Memᴰ x K → Memᴰ x model.closed
    pub low_lines : Down (λ (w : Wanted). w.place) p ls
    pub low_keys : Down (λ (g : Given). g.place) p gs

  -- what was told stays told, where the model has grown and lines stand where they stood
  pub deeds-stay : (ls ls' : List Wanted) (m t : State) {ds : List Deed} {es : List Done} → Grows m t
      → ((w : Wanted) (l : Line) → At ls m.lines w l → At ls' t.lines w l) → Among (DeedFact ls m) ds es → Among (DeedFact ls' t) ds es
  deeds-stay ls ls' m t g lift = among-map fact
    where
      fact : (d : Deed) (e : Done) → DeedFact ls m d e → DeedFact ls' t d e
      fact d e f = record { same_deed = f.same_deed; from = λ w. line (f.from w) }
        where
          line : LineFact ls m d e → LineFact ls' t d e
          line x =
              record {
                asked = x.asked;
                answers = answers-grows (rules_of c n) g x.answers;
                as_wanted = x.as_wanted;
                line = x.line;
                beside = lift x.line x.asked.line x.beside;
                before = x.before;
              }

  pub taken-stays : (gs gs' : List Given) (bs bs' : List Begun) (x : Taken) → ((g : Given) → Memᴰ g gs → Memᴰ g gs') → ((b : Begun) → Memᴰ b bs → Memᴰ b bs')
      → TakenFact gs bs x → TakenFact gs' bs' x
  taken-stays gs gs' bs bs' x f g h w =
      let y = h w in
      let z = y.7 in
      (y.0, f y.0 y.1, y.2, y.3, y.4, y.5, y.6, (z.0, g z.0 z.1, z.2, z.3, z.4))

  -- an act that tells nothing and that the model does not see
  pub unseen : {K : List Closing} {p : ℕ} {s : System} {ls : List Wanted} {gs : List Given} {bs : List Begun} {ds : List Deed} {xs : List Taken} (o : Tied K p s ls gs bs ds xs)
      → (t : System) → Matches c n t o.model → Tied K (suc p) t ls gs bs ds xs
  unseen {K} {p} {s} {ls} {gs} o t k =
      record {
        events = o.events;
        model = o.model;
        reach = o.reach;
        matches = k;
        lines = o.lines;
        keys = o.keys;
        begun = o.begun;
        deeds = o.deeds;
        takens = o.takens;
        since = o.since;
        low_lines = down-more (λ (w : Wanted). w.place) p (suc p) ls (omega arith) o.low_lines;
        low_keys = down-more (λ (g : Given). g.place) p (suc p) gs (omega arith) o.low_keys;
      }

-- A row of calls over bytes is a row of acts on what was opened, which tells the same. Assumes nothing.
use Rattle.std.proofs.Common.{◌≡◌, ℕ, suc, List, [], ◌∷◌, ◌++◌, length, Some, None, Option, sym, refl, ap, ◌∙◌, subst, append_assoc}
use Rattle.box_rules.specs.Letter.{shown_for}
use Rattle.box_rules.specs.Line.{wanted}
use Rattle.box_rules.specs.Table.{oldest}
use Rattle.box_rules.specs.Line.{Told}
use Rattle.box_rules.specs.declared.line.Pending.{Pending}
use Rattle.box_rules.specs.declared.line.Sought.TheVariants.{AtService}
use Rattle.box_side.proofs.Tickets.{taken-by, wanted_by}
use Rattle.box_side.specs.Box as box
use Rattle.byte_rows.proofs.Air.{Fronted}
use Rattle.byte_rows.proofs.Calls.{goes}
use Rattle.byte_rows.proofs.Simulates.{C, FitsCall, Known, N, seen}
use Rattle.byte_rows.specs.Premise.{Each, nonces}
use Rattle.byte_rows.specs.Row.{act_at_box, act_at_house, act_at_service, act_of, acts_of, taken_read}
use Rattle.byte_rows.specs.Row as row
use Rattle.byte_rows.specs.System.{Basis, Bytewise, Call, Made, answer_made, answered, brings, closes, crashes, device, hands, opens, read_by_box, read_by_house, read_by_service, replied, reply_made, run, steals, step, tells, told_by, told_made, wants}
use Rattle.byte_rows.specs.Term.{Whole}
use Rattle.house_side.specs.House as house
use Rattle.locked.specs.Locked.{Bytes, Locks}
use Rattle.rows.specs.Name.{Apart}
use Rattle.rows.specs.Row.{Begun, Deed, Given, Taken, Wanted, begun_told, deed_told, key_told, line_told, taken_told}
use Rattle.rows.specs.Row as rows
use Rattle.rows.specs.System.{Act, Can, House, Possible, Reader, Service, System}
use Rattle.rows.specs.System as acts
use Rattle.rows.specs.Word.{reply_drawn, told_drawn, words_of}
use Rattle.service_side.specs.Service as service
use Rattle.tickets.specs.Term.{Term}
use mathlib.Core.List.Memᴰ
use mathlib.Core.List.{Memᴰ}

-- what a call draws and makes comes before what was there
pub grown-used : (l : Locks) (c : Basis) (b : Bytewise) (e : Call) → (ds : List Bytes) × ((step l c e b).used ≡ ds ++ b.used)
grown-used l c b (tells to) = ([], refl)
grown-used l c b (hands House bs) = ([], refl)
grown-used l c b (hands (Service v) bs) = ([], refl)
grown-used l c b (hands (Reader a) bs) = ([], refl)
grown-used l c b (steals m) = ([], refl)
grown-used l c b (opens m k w) = ([], refl)
grown-used l c b (closes m w) = ([], refl)
grown-used l c b (wants a v by w) = (told_drawn (wanted (b.box a) v by w), refl)
grown-used l c b (brings House w) = (reply_drawn (replied l c b w), refl)
grown-used l c b (brings (Service v) w) = ([], refl)
grown-used l c b (brings (Reader a) w) = (told_drawn (told_by l c b a w), refl)
grown-used l c b (device House w) = ([], refl)
grown-used l c b (device (Service v) w) = ([], refl)
grown-used l c b (device (Reader a) w) = ([], refl)
grown-used l c b (crashes House cut) = ([], refl)
grown-used l c b (crashes (Service v) cut) = ([], refl)
grown-used l c b (crashes (Reader a) cut) = ([], refl)

-- the locks that a call makes
abbrev pub made_by : (l : Locks) (c : Basis) → Bytewise → Call → List Made
made_by l c b (tells to) = []
made_by l c b (hands who bs) = []
made_by l c b (steals m) = []
made_by l c b (opens m k w) = []
made_by l c b (closes m w) = []
made_by l c b (wants a v by w) = told_made (wanted (b.box a) v by w)
made_by l c b (brings House w) = reply_made (replied l c b w)
made_by l c b (brings (Service v) w) = answer_made (answered l c b v w)
made_by l c b (brings (Reader a) w) = told_made (told_by l c b a w)
made_by l c b (device who w) = []
made_by l c b (crashes who cut) = []

pub grown-made : (l : Locks) (c : Basis) (b : Bytewise) (e : Call) → (step l c e b).made ≡ made_by l c b e ++ b.made
grown-made l c b (tells to) = refl
grown-made l c b (hands House bs) = refl
grown-made l c b (hands (Service v) bs) = refl
grown-made l c b (hands (Reader a) bs) = refl
grown-made l c b (steals m) = refl
grown-made l c b (opens m k w) = refl
grown-made l c b (closes m w) = refl
grown-made l c b (wants a v by w) = refl
grown-made l c b (brings House w) = refl
grown-made l c b (brings (Service v) w) = refl
grown-made l c b (brings (Reader a) w) = refl
grown-made l c b (device House w) = refl
grown-made l c b (device (Service v) w) = refl
grown-made l c b (device (Reader a) w) = refl
grown-made l c b (crashes House cut) = refl
grown-made l c b (crashes (Service v) cut) = refl
grown-made l c b (crashes (Reader a) cut) = refl

module _ (l : Locks) (c : Basis) (g : Whole) where
  -- every word that is sent frames as it was written, and its locks stand for what was locked
  abbrev pub EachFits : ℕ → List Call → Type 0
  EachFits t [] = Unit {0}
  EachFits t (e ∷ es) = FitsCall l c g (run l c t es) e × EachFits t es

  -- the calls so far are a part of the whole run
  pub record Part (b : Bytewise) : Type 0 where
    pub later : List Bytes
    pub draws : g.draws ≡ later ++ b.used
    pub made : (m : Made) → Memᴰ m b.made → Memᴰ m g.made

  pub part-before : (b : Bytewise) (e : Call) → Part (step l c e b) → Part b
  part-before b e p =
      let u = grown-used l c b e in
      record {
        later = p.later ++ u.0;
        draws = p.draws ∙ ap (λ (xs : List Bytes). p.later ++ xs) u.1 ∙ sym (append_assoc p.later u.0 b.used);
        made = λ m k. p.made m (subst (λ (ms : List Made). Memᴰ m ms) (sym (grown-made l c b e)) (Memᴰ.append_right (made_by l c b e) k));
      }

  -- the acts lead to the same system
  pub record Same (t : ℕ) (es : List Call) : Type 0 where
    pub possible : Possible (C l c g) (N l c g) t (acts_of l c t es)
    pub air : List Term
    pub same : acts.run (C l c g) (N l c g) t (acts_of l c t es) ≡ seen (run l c t es) air
    pub known : Known l c g (run l c t es) air

  module _ (apart : Apart c.own g.draws) (locks : Apart [] (nonces g.made)) (fronted : Fronted l c g g.made) where
    pub same_row : (t : ℕ) (es : List Call) → Each l c g t es → EachFits t es → Part (run l c t es) → Same t es
    same_row t [] h f p =
        record {
          possible = h;
          air = [];
          same = refl;
          known = record { gets = λ x k. absurd (Memᴰ.not-nil k); held = λ a x k. absurd (Memᴰ.not-nil k) };
        }
    same_row t (e ∷ es) h f p =
        let q = part-before (run l c t es) e p in
        let s = same_row t es h.1 f.1 q in
        let n = goes l c g apart locks fronted (run l c t es) s.air s.known q.made e h.0 f.0 p.later p.draws in
        record {
          possible = (subst (λ (x : System). Can (C l c g) (N l c g) x (act_of l c (run l c t es) e)) (sym s.same) n.can, s.possible);
          air = n.air';
          same = ap (λ (x : System). acts.step (C l c g) (N l c g) (act_of l c (run l c t es) e) x) s.same ∙ n.same;
          known = n.known;
        }

  module _ (b : Bytewise) (air : List Term) (p : ℕ) where
    -- what one call tells is what its act tells
    line_same : (e : Call) → rows.line_by (C l c g) (N l c g) (act_of l c b e) (seen b air) p ≡ row.line_by l c e b p
    line_same (tells to) = refl
    line_same (hands who bs) = refl
    line_same (steals m) = refl
    line_same (opens m k w) = refl
    line_same (closes m w) = refl
    line_same (wants a v by w) = ap (λ (r : Told). line_told r (record { place = p; reader = a; service = v; what = words_of w; at = (b.box a).now })) (wanted_by (λ _. tt {0}) (b.box a) v by w)
    line_same (brings House w) = go (read_by_house l c b w)
      where
        go : (r : house.Read) → rows.line_by (C l c g) (N l c g) (act_at_house l c r) (seen b air) p ≡ []
        go (house.logs a x) = refl
        go (house.asks t q) = refl
        go (house.wrong f) = refl
    line_same (brings (Service v) w) = go (read_by_service l c b v w)
      where
        go : (r : service.Read) → rows.line_by (C l c g) (N l c g) (act_at_service l c v r) (seen b air) p ≡ []
        go (service.asks t q) = refl
        go (service.wrong f) = refl
    line_same (brings (Reader a) w) = go (read_by_box l c b a w)
      where
        go : (r : box.Read) → rows.line_by (C l c g) (N l c g) (act_at_box l c a r) (seen b air) p ≡ []
        go (box.brings t u x) = refl
        go (box.confirms k x) = refl
        go (box.refuses k) = refl
        go (box.wrong f) = refl
    line_same (device who w) = refl
    line_same (crashes who cut) = refl

    deed-same : (e : Call) → rows.deed_by (C l c g) (N l c g) (act_of l c b e) (seen b air) p ≡ row.deed_by l c e b p
    deed-same (tells to) = refl
    deed-same (hands who bs) = refl
    deed-same (steals m) = refl
    deed-same (opens m k w) = refl
    deed-same (closes m w) = refl
    deed-same (wants a v by w) = refl
    deed-same (brings House w) = go (read_by_house l c b w)
      where
        go : (r : house.Read) → rows.deed_by (C l c g) (N l c g) (act_at_house l c r) (seen b air) p ≡ []
        go (house.logs a x) = refl
        go (house.asks t q) = refl
        go (house.wrong f) = refl
    deed-same (brings (Service v) w) = go (read_by_service l c b v w)
      where
        go : (r : service.Read) → rows.deed_by (C l c g) (N l c g) (act_at_service l c v r) (seen b air) p ≡ deed_told (service.answer_to l (b.side v) r) p v (b.side v).side.now b.stolen
        go (service.asks t q) = refl
        go (service.wrong f) = refl
    deed-same (brings (Reader a) w) = go (read_by_box l c b a w)
      where
        go : (r : box.Read) → rows.deed_by (C l c g) (N l c g) (act_at_box l c a r) (seen b air) p ≡ []
        go (box.brings t u x) = refl
        go (box.confirms k x) = refl
        go (box.refuses k) = refl
        go (box.wrong f) = refl
    deed-same (device who w) = refl
    deed-same (crashes who cut) = refl

    key-same : (e : Call) → rows.key_by (C l c g) (N l c g) (act_of l c b e) (seen b air) p ≡ row.key_by l c e b p
    key-same (tells to) = refl
    key-same (hands who bs) = refl
    key-same (steals m) = refl
    key-same (opens m k w) = refl
    key-same (closes m w) = refl
    key-same (wants a v by w) = refl
    key-same (brings House w) = go (read_by_house l c b w)
      where
        go : (r : house.Read) → rows.key_by (C l c g) (N l c g) (act_at_house l c r) (seen b air) p ≡ key_told (house.answer_to l b.home r) p b.home.side.now b.stolen
        go (house.logs a x) = refl
        go (house.asks t q) = refl
        go (house.wrong f) = refl
    key-same (brings (Service v) w) = go (read_by_service l c b v w)
      where
        go : (r : service.Read) → rows.key_by (C l c g) (N l c g) (act_at_service l c v r) (seen b air) p ≡ []
        go (service.asks t q) = refl
        go (service.wrong f) = refl
    key-same (brings (Reader a) w) = go (read_by_box l c b a w)
      where
        go : (r : box.Read) → rows.key_by (C l c g) (N l c g) (act_at_box l c a r) (seen b air) p ≡ []
        go (box.brings t u x) = refl
        go (box.confirms k x) = refl
        go (box.refuses k) = refl
        go (box.wrong f) = refl
    key-same (device who w) = refl
    key-same (crashes who cut) = refl

    begun-same : (e : Call) → rows.begun_by (C l c g) (N l c g) (act_of l c b e) (seen b air) p ≡ row.begun_by l c e b p
    begun-same (tells to) = refl
    begun-same (hands who bs) = refl
    begun-same (steals m) = refl
    begun-same (opens m k w) = refl
    begun-same (closes m w) = refl
    begun-same (wants a v by w) = ap (λ (r : Told). begun_told r p a (b.box a).now) (wanted_by (λ _. tt {0}) (b.box a) v by w)
    begun-same (brings House w) = go (read_by_house l c b w)
      where
        go : (r : house.Read) → rows.begun_by (C l c g) (N l c g) (act_at_house l c r) (seen b air) p ≡ []
        go (house.logs a x) = refl
        go (house.asks t q) = refl
        go (house.wrong f) = refl
    begun-same (brings (Service v) w) = go (read_by_service l c b v w)
      where
        go : (r : service.Read) → rows.begun_by (C l c g) (N l c g) (act_at_service l c v r) (seen b air) p ≡ []
        go (service.asks t q) = refl
        go (service.wrong f) = refl
    begun-same (brings (Reader a) w) = go (read_by_box l c b a w)
      where
        confirms : (o : Option Pending) → [] ≡ begun_told (shown_for o) p a (b.box a).now
        confirms None = refl
        confirms (Some x) = refl

        go : (r : box.Read) → rows.begun_by (C l c g) (N l c g) (act_at_box l c a r) (seen b air) p ≡ begun_told (box.answer_to (b.box a) r) p a (b.box a).now
        go (box.brings t u x) = ap (λ (r : Told). begun_told r p a (b.box a).now) (taken-by (λ _. tt {0}) (b.box a) u x)
        go (box.confirms k x) = confirms (oldest (AtService k x.number) (b.box a).askings)
        go (box.refuses k) = refl
        go (box.wrong f) = refl
    begun-same (device who w) = refl
    begun-same (crashes who cut) = refl

    taken-same : (e : Call) → rows.taken_by (C l c g) (N l c g) (act_of l c b e) (seen b air) p ≡ row.taken_by l c e b p
    taken-same (tells to) = refl
    taken-same (hands who bs) = refl
    taken-same (steals m) = refl
    taken-same (opens m k w) = refl
    taken-same (closes m w) = refl
    taken-same (wants a v by w) = refl
    taken-same (brings House w) = go (read_by_house l c b w)
      where
        go : (r : house.Read) → rows.taken_by (C l c g) (N l c g) (act_at_house l c r) (seen b air) p ≡ []
        go (house.logs a x) = refl
        go (house.asks t q) = refl
        go (house.wrong f) = refl
    taken-same (brings (Service v) w) = go (read_by_service l c b v w)
      where
        go : (r : service.Read) → rows.taken_by (C l c g) (N l c g) (act_at_service l c v r) (seen b air) p ≡ []
        go (service.asks t q) = refl
        go (service.wrong f) = refl
    taken-same (brings (Reader a) w) = go (read_by_box l c b a w)
      where
        go : (r : box.Read) → rows.taken_by (C l c g) (N l c g) (act_at_box l c a r) (seen b air) p ≡ taken_read b p a r
        go (box.brings t u x) = ap (λ (r : Told). taken_told r p a x b.stolen) (taken-by (λ _. tt {0}) (b.box a) u x)
        go (box.confirms k x) = refl
        go (box.refuses k) = refl
        go (box.wrong f) = refl
    taken-same (device who w) = refl
    taken-same (crashes who cut) = refl

  -- what a row of calls tells is what its row of acts tells
  pub record Tells (t : ℕ) (es : List Call) : Type 0 where
    pub long : length (acts_of l c t es) ≡ length es
    pub lines : rows.lines (C l c g) (N l c g) t (acts_of l c t es) ≡ row.lines l c t es
    pub deeds : rows.deeds (C l c g) (N l c g) t (acts_of l c t es) ≡ row.deeds l c t es
    pub keys : rows.keys (C l c g) (N l c g) t (acts_of l c t es) ≡ row.keys l c t es
    pub begun : rows.begun (C l c g) (N l c g) t (acts_of l c t es) ≡ row.begun l c t es
    pub takens : rows.takens (C l c g) (N l c g) t (acts_of l c t es) ≡ row.takens l c t es

  -- each of two parts is the same
  joined : {A : Type 0} {xs ys us vs : List A} → xs ≡ ys → us ≡ vs → xs ++ us ≡ ys ++ vs
  joined {A} {xs} {ys} {us} {vs} e f = ap (λ (z : List A). z ++ us) e ∙ ap (λ (z : List A). ys ++ z) f

  module _ (apart : Apart c.own g.draws) (locks : Apart [] (nonces g.made)) (fronted : Fronted l c g g.made) where
    pub tells-same : (t : ℕ) (es : List Call) → Each l c g t es → EachFits t es → Part (run l c t es) → Tells t es
    tells-same t [] h f p = record { long = refl; lines = refl; deeds = refl; keys = refl; begun = refl; takens = refl }
    tells-same t (e ∷ es) h f p =
        let q = part-before (run l c t es) e p in
        let r = tells-same t es h.1 f.1 q in
        let s = same_row apart locks fronted t es h.1 f.1 q in
        let b = run l c t es in
        let a = act_of l c b e in
        record {
          long = ap (λ (k : ℕ). suc k) r.long;
          lines =
              joined
              (ap (λ (x : System). rows.line_by (C l c g) (N l c g) a x (length (acts_of l c t es))) s.same
              ∙ ap (λ (k : ℕ). rows.line_by (C l c g) (N l c g) a (seen b s.air) k) r.long ∙ line_same b s.air (length es) e)
              r.lines;
          deeds =
              joined
              (ap (λ (x : System). rows.deed_by (C l c g) (N l c g) a x (length (acts_of l c t es))) s.same
              ∙ ap (λ (k : ℕ). rows.deed_by (C l c g) (N l c g) a (seen b s.air) k) r.long ∙ deed-same b s.air (length es) e)
              r.deeds;
          keys =
              joined
              (ap (λ (x : System). rows.key_by (C l c g) (N l c g) a x (length (acts_of l c t es))) s.same
              ∙ ap (λ (k : ℕ). rows.key_by (C l c g) (N l c g) a (seen b s.air) k) r.long ∙ key-same b s.air (length es) e)
              r.keys;
          begun =
              joined
              (ap (λ (x : System). rows.begun_by (C l c g) (N l c g) a x (length (acts_of l c t es))) s.same
              ∙ ap (λ (k : ℕ). rows.begun_by (C l c g) (N l c g) a (seen b s.air) k) r.long ∙ begun-same b s.air (length es) e)
              r.begun;
          takens =
              joined
              (ap (λ (x : System). rows.taken_by (C l c g) (N l c g) a x (length (acts_of l c t es))) s.same
              ∙ ap (λ (k : ℕ). rows.taken_by (C l c g) (N l c g) a (seen b s.air) k) r.long ∙ taken-same b s.air (length es) e)
              r.takens;
        }

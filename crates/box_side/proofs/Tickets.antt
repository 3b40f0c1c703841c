-- A box does not look into its tickets: what it answers is the same however they are seen, and what it is afterwards
-- is seen as it was. Assumes nothing.
use Rattle.std.proofs.Common.{◌≡◌, ℕ, ◌+◌, Bool, true, false, cond, not, ◌&&◌, ◌||◌, eqb, List, [], ◌∷◌, ◌++◌, map, filter, reverse, Some, None, Err, Option, sym, refl, ap, ◌∙◌}
use Rattle.box_rules.specs.Chest.{Boxed, asked, box_on_tick, fresh, ticket_of}
use Rattle.box_rules.specs.Keys.{holds, house_keys, is_house, is_stray, letter_keys, receipt_keys, stray_keys}
use Rattle.box_rules.specs.Letter.{letter_conditions, pending_for, settled, stored, taken, taken_after, taken_by, taken_from}
use Rattle.box_rules.specs.Line as line
use Rattle.box_rules.specs.Line.{Told, line_conditions, line_judged, line_of, pass_by, pass_of, sent_after, unread, wanted_after}
use Rattle.box_rules.specs.declared.line.Held.{Held}
use Rattle.box_rules.specs.declared.line.Line.{Line}
use Rattle.box_rules.specs.declared.line.Pass.{Pass}
use Rattle.box_rules.specs.declared.line.Pending.{Pending}
use Rattle.box_rules.specs.declared.line.Under.{Under}
use Rattle.box_side.specs.Tickets.{boxed_by, held_by}
use Rattle.parts.specs.Condition.{first_fault, unless}
use Rattle.parts.specs.declared.fault.Fault.{Fault}
use Rattle.parts.specs.declared.fault.Fault.TheVariants.{OutOfRange}
use Rattle.parts.specs.declared.word.Key.{Key}
use Rattle.parts.specs.declared.word.Letter.{Letter}
use Rattle.parts.specs.declared.word.What.{What}
use Rattle.std.proofs.lemmas.List.{take-map}
use Rattle.std.specs.Option.{option_map}
use Rattle.std.specs.Str.{bytes_eq}
use mathlib.Core.List.{reverse_aux}

-- what is known of a ticket
pub pass_of-by : {T U : Type 0} (f : T → U) (i : ℕ) (hs : List (Held T)) → pass_of i (map (held_by f) hs) ≡ pass_of i hs
pass_of-by f i [] = refl
pass_of-by f i (h ∷ hs) = ap (λ (o : Option Pass). cond (eqb h.pass.id i) (Some h.pass) o) (pass_of-by f i hs)

pub pass_by-by : {T U : Type 0} (f : T → U) (by : Option ℕ) (hs : List (Held T)) → pass_by by (map (held_by f) hs) ≡ pass_by by hs
pass_by-by f None hs = refl
pass_by-by f (Some i) hs = pass_of-by f i hs

-- the ticket of an id is that ticket, seen through f
pub ticket_of-by : {T U : Type 0} (f : T → U) (i : ℕ) (hs : List (Held T)) → ticket_of i (map (held_by f) hs) ≡ option_map f (ticket_of i hs)
ticket_of-by f i [] = refl
ticket_of-by {T} {U} f i (h ∷ hs) =
    ap (λ (o : Option U). cond (eqb h.pass.id i) (Some (f h.ticket)) o) (ticket_of-by f i hs) ∙ by (eqb h.pass.id i)
  where
    by : (b : Bool) → cond b (Some (f h.ticket)) (option_map f (ticket_of i hs)) ≡ option_map f (cond b (Some h.ticket) (ticket_of i hs))
    by true = refl
    by false = refl

-- which keys are tried
kept-by : {T U : Type 0} (f : T → U) (hs : List (Held T)) →
    map (λ (h : Held U). h.pass.key) (filter is_house (map (held_by f) hs)) ≡ map (λ (h : Held T). h.pass.key) (filter is_house hs)
kept-by f [] = refl
kept-by {T} {U} f (h ∷ hs) = by (is_house h) (kept-by f hs)
  where
    by : (b : Bool) → map (λ (x : Held U). x.pass.key) (filter is_house (map (held_by f) hs)) ≡ map (λ (x : Held T). x.pass.key) (filter is_house hs) →
        map (λ (x : Held U). x.pass.key) (cond b (held_by f h ∷ filter is_house (map (held_by f) hs)) (filter is_house (map (held_by f) hs)))
        ≡ map (λ (x : Held T). x.pass.key) (cond b (h ∷ filter is_house hs) (filter is_house hs))
    by true e = ap (λ (ks : List Key). h.pass.key ∷ ks) e
    by false e = e

reversed-by : {X Y : Type 0} (f : X → Y) (xs ys : List X) → reverse_aux (map f xs) (map f ys) ≡ map f (reverse_aux xs ys)
reversed-by f [] ys = refl
reversed-by f (x ∷ xs) ys = reversed-by f xs (x ∷ ys)

pub house_keys-by : {T U : Type 0} (f : T → U) (hs : List (Held T)) → house_keys (map (held_by f) hs) ≡ house_keys hs
house_keys-by {T} {U} f hs =
    ap (λ (l : List (Held U)). map (λ (h : Held U). h.pass.key) (filter is_house l)) (reversed-by (held_by f) hs [])
    ∙ kept-by f (reverse hs)

pub holds_by : {T U : Type 0} (f : T → U) (k : Key) (hs : List (Held T)) → holds k (map (held_by f) hs) ≡ holds k hs
holds_by f k [] = refl
holds_by f k (h ∷ hs) = ap (λ (b : Bool). (is_house h && bytes_eq h.pass.key.0 k.0) || b) (holds_by f k hs)

pub is_stray-by : {T U : Type 0} (f : T → U) (hs : List (Held T)) (p : Pending) → is_stray (map (held_by f) hs) p ≡ is_stray hs p
is_stray-by f hs p = ap (λ (b : Bool). eqb p.asks 0 && not b) (holds_by f p.key hs)

strays-by : {T U : Type 0} (f : T → U) (hs : List (Held T)) (ps : List Pending) → filter (is_stray (map (held_by f) hs)) ps ≡ filter (is_stray hs) ps
strays-by f hs [] = refl
strays-by f hs (p ∷ ps) =
    ap (λ (l : List Pending). cond (is_stray (map (held_by f) hs) p) (p ∷ l) l) (strays-by f hs ps)
    ∙ ap (λ (b : Bool). cond b (p ∷ filter (is_stray hs) ps) (filter (is_stray hs) ps)) (is_stray-by f hs p)

pub stray_keys-by : {T U : Type 0} (f : T → U) (hs : List (Held T)) (ps : List Pending) → stray_keys (map (held_by f) hs) ps ≡ stray_keys hs ps
stray_keys-by f hs ps = ap (λ (l : List Pending). map (λ (p : Pending). p.key) l) (strays-by f hs (reverse ps))

pub letter_keys-by : {T U : Type 0} (f : T → U) (b : Boxed T) → letter_keys (boxed_by f b) ≡ letter_keys b
letter_keys-by f b =
    ap (λ (ks : List Key). (b.key ∷ ks) ++ stray_keys (map (held_by f) b.tickets) b.askings) (house_keys-by f b.tickets)
    ∙ ap (λ (ks : List Key). (b.key ∷ house_keys b.tickets) ++ ks) (stray_keys-by f b.tickets b.askings)

pub receipt_keys-by : {T U : Type 0} (f : T → U) (b : Boxed T) → receipt_keys (boxed_by f b).askings ≡ receipt_keys b.askings
receipt_keys-by f b = refl

-- a box that holds nothing yet, and one that was told a tick
pub fresh-by : {T U : Type 0} (f : T → U) (n tick : ℕ) (k : Key) (bs : List ℕ) → boxed_by f (fresh n tick k bs) ≡ fresh n tick k bs
fresh-by f n tick k bs = refl

pub box_on_tick-by : {T U : Type 0} (f : T → U) (b : Boxed T) (to : ℕ) → boxed_by f (box_on_tick b to) ≡ box_on_tick (boxed_by f b) to
box_on_tick-by f b to = refl

-- a line
pub line_conditions-by : {T U : Type 0} (f : T → U) (b : Boxed T) (v : ℕ) (by : Option ℕ) →
    line_conditions (boxed_by f b) v by ≡ line_conditions b v by
line_conditions-by f b v by = ap (λ (o : Option Pass). line_judged b.now b.left v by o) (pass_by-by f by b.tickets)

sent_by-by : {T U : Type 0} (f : T → U) (b : Boxed T) (o : Option Pass) (l : Line) → line.sent_by (boxed_by f b) o l ≡ line.sent_by b o l
sent_by-by f b None l = refl
sent_by-by f b (Some p) l = refl

sent_after-by : {T U : Type 0} (f : T → U) (b : Boxed T) (o : Option Pass) (l : Line) →
    boxed_by f (sent_after b o l) ≡ sent_after (boxed_by f b) o l
sent_after-by f b None l = refl
sent_after-by f b (Some p) l = refl

-- a box, or one that went on
either : {T U : Type 0} (f : T → U) (c : Bool) (b b' : Boxed T) → boxed_by f (cond c b b') ≡ cond c (boxed_by f b) (boxed_by f b')
either f true b b' = refl
either f false b b' = refl

without-fault : {T U : Type 0} (f : T → U) (o : Option Fault) (b b' : Boxed T) →
    boxed_by f (unless o b (λ _. b')) ≡ unless o (boxed_by f b) (λ _. boxed_by f b')
without-fault f None b b' = refl
without-fault f (Some e) b b' = refl

pub wanted_by : {T U : Type 0} (f : T → U) (b : Boxed T) (v : ℕ) (by : Option ℕ) (w : What) →
    line.wanted (boxed_by f b) v by w ≡ line.wanted b v by w
wanted_by f b v by w =
    ap
    (λ (o : Option Pass). cond (unread b.lines v w) (Err OutOfRange) (unless (first_fault (line_judged b.now b.left v by o)) (line.sent_by (boxed_by f b) o (line_of b v w)) Err))
    (pass_by-by f by b.tickets)
    ∙ ap
    (λ (a : Told). cond (unread b.lines v w) (Err OutOfRange) (unless (first_fault (line_conditions b v by)) a Err))
    (sent_by-by f b (pass_by by b.tickets) (line_of b v w))

pub wanted_after-by : {T U : Type 0} (f : T → U) (b : Boxed T) (v : ℕ) (by : Option ℕ) (w : What) →
    boxed_by f (wanted_after b v by w) ≡ wanted_after (boxed_by f b) v by w
wanted_after-by {T} {U} f b v by w =
    either f (unread b.lines v w) b _
    ∙ ap (λ (x : Boxed U). cond (unread b.lines v w) (boxed_by f b) x) (without-fault f (first_fault (line_conditions b v by)) _ b)
    ∙ ap
    (λ (x : Boxed U). cond (unread b.lines v w) (boxed_by f b) (unless (first_fault (line_conditions b v by)) x (λ _. boxed_by f b)))
    (sent_after-by f b (pass_by by b.tickets) (line_of b v w))
    ∙ ap
    (λ (o : Option Pass). cond (unread b.lines v w) (boxed_by f b) (unless (first_fault (line_judged b.now b.left v by o)) (sent_after (boxed_by f b) o (line_of b v w)) (λ _. boxed_by f b)))
    (sym (pass_by-by f by b.tickets))

-- a letter
pub pending_for-by : {T U : Type 0} (f : T → U) (b : Boxed T) (u : Under) (l : Letter) → pending_for (boxed_by f b) u l ≡ pending_for b u l
pending_for-by f b u l = refl

taken_by-by : {T U : Type 0} (f : T → U) (b : Boxed T) (l : Letter) (o : Option Pending) → taken_by (boxed_by f b) l o ≡ taken_by b l o
taken_by-by f b l None = refl
taken_by-by f b l (Some p) = refl

pub taken-by : {T U : Type 0} (f : T → U) (b : Boxed T) (u : Under) (l : Letter) → taken (boxed_by f b) u l ≡ taken b u l
taken-by f b u l =
    ap (λ (a : Told). unless (first_fault (letter_conditions b u l)) a Err) (taken_by-by f b l (pending_for b u l))

stored-by : {T U : Type 0} (f : T → U) (b : Boxed T) (l : Letter) (t : T) → boxed_by f (stored b l t) ≡ stored (boxed_by f b) l (f t)
stored-by {T} {U} f b l t =
    ap
    (λ (hs : List (Held U)). record { number = b.number; key = b.key; now = b.now; lines = b.lines; taken = b.taken + 1; logins = b.logins; tickets = hs; askings = b.askings; left = b.left })
    (sym (take-map (held_by f) 16 (record { pass = record { id = b.taken + 1; service = l.service; key = l.key; until = l.until }; ticket = t } ∷ b.tickets)))

taken_from-by : {T U : Type 0} (f : T → U) (b : Boxed T) (u : Under) (l : Letter) (t : T) (o : Option Pending) →
    boxed_by f (taken_from b u l t o) ≡ taken_from (boxed_by f b) u l (f t) o
taken_from-by f b u l t None = refl
taken_from-by {T} {U} f b u l t (Some p) =
    ap (λ (x : Boxed U). asked x l.key l.service p.line) (stored-by f (settled b u l) l t)

pub taken_after-by : {T U : Type 0} (f : T → U) (b : Boxed T) (u : Under) (l : Letter) (t : T) →
    boxed_by f (taken_after b u l t) ≡ taken_after (boxed_by f b) u l (f t)
taken_after-by {T} {U} f b u l t =
    without-fault f (first_fault (letter_conditions b u l)) _ b
    ∙ ap
    (λ (x : Boxed U). unless (first_fault (letter_conditions b u l)) x (λ _. boxed_by f b))
    (taken_from-by f b u l t (pending_for b u l))

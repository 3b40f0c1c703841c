-- What is answered to a letter and left, by what was found wrong. Assumes nothing.
use Rattle.std.proofs.Common.{◌≡◌, ℕ, ◌+◌, ◌-◌, ◌^◌, ◌<◌, ◌≤◌, List, length, Some, None, Ok, Err, Option, sym, refl, ap, ◌∙◌, arith}
use Rattle.box_rules.specs.Chest.{Boxed, asked, asking_of}
use Rattle.box_rules.specs.Letter.{TakesLetter, letter_conditions, letter_judged, pending_for, settled, stored, taken, taken_by, taken_from}
use Rattle.box_rules.specs.Line.{Told, wrong}
use Rattle.box_rules.specs.declared.answer.Answer.TheVariants.{Takes}
use Rattle.box_rules.specs.declared.answer.Got.{Got}
use Rattle.box_rules.specs.declared.line.Pending.{Pending}
use Rattle.box_rules.specs.declared.line.Under.{Under}
use Rattle.parts.proofs.Conditions.{first_fault-cons, lowest-first, passed}
use Rattle.parts.specs.Condition.{first_fault, unless}
use Rattle.parts.specs.declared.fault.Fault.{Fault}
use Rattle.parts.specs.declared.fault.Fault.TheVariants.{NotUnderWay}
use Rattle.parts.specs.declared.lock.Lock.{Lock}
use Rattle.parts.specs.declared.word.Asking.{Asking}
use Rattle.parts.specs.declared.word.Letter.{Letter}
use Rattle.std.proofs.lemmas.Bool.{leb-false, ltb-false}

pub record Met (n : ℕ) (bs : List ℕ) : Type 0 where
  pub drawn : 32 ≤ length bs
  pub more : n < 2 ^ 64 - 1

pub met : (n : ℕ) (bs : List ℕ) (o : Option Pending) → None ≡ first_fault (letter_judged n bs o) → Met n bs
met n bs o h =
    let p11 = passed _ _ (sym h) in
    let p12 = passed _ _ p11.1 in
    let p13 = passed _ _ p12.1 in
    record { drawn = ltb-false _ _ p12.0; more = leb-false _ _ p13.0 }

-- where nothing is under way that is what is wrong
nothing : (n : ℕ) (bs : List ℕ) → first_fault (letter_judged n bs None) ≡ Some NotUnderWay
nothing n bs = first_fault-cons _ _

pub never : (n : ℕ) (bs : List ℕ) (o : Option Pending) → None ≡ first_fault (letter_judged n bs o) → o ≡ None → ⊥
never n bs o e z =
    let k : None ≡ Some NotUnderWay = e ∙ ap (λ (x : Option Pending). first_fault (letter_judged n bs x)) z ∙ nothing n bs in
    let y : ◌≡◌ {A = ℕ} 0 1 = cc in
    omega arith

told : {T : Type 0} (b : Boxed T) (l : Letter) (o : Option Pending) →
    wrong (unless (first_fault (letter_judged b.taken b.left o)) (taken_by b l o) Err) ≡ first_fault (letter_judged b.taken b.left o)
told b l None =
    ap (λ (f : Option Fault). wrong (unless f (taken_by b l None) Err)) (nothing b.taken b.left) ∙ sym (nothing b.taken b.left)
told b l (Some p) = by (first_fault (letter_judged b.taken b.left (Some p)))
  where
    by : (f : Option Fault) → wrong (unless f (taken_by b l (Some p)) Err) ≡ f
    by None = refl
    by (Some e) = refl

pub by-table : {T : Type 0} (b : Boxed T) (u : Under) (l : Letter) (t : T) (o : Option Pending) (f : Option Fault) (r : Told) (b' : Boxed T) →
    o ≡ pending_for b u l → f ≡ first_fault (letter_judged b.taken b.left o) →
    r ≡ unless f (taken_by b l o) Err → b' ≡ unless f (taken_from b u l t o) (λ _. b) → TakesLetter b u l t r b'
by-table b u l t o f r b' k e p q =
    let e' : f ≡ first_fault (letter_conditions b u l) = e ∙ ap (λ (x : Option Pending). first_fault (letter_judged b.taken b.left x)) k in
    let a : r ≡ taken b u l =
    p ∙ ap (λ (x : Option Pending). unless f (taken_by b l x) Err) k ∙ ap (λ (x : Option Fault). unless x (taken_by b l (pending_for b u l)) Err) e' in
    record {
      answer = a;
      after = q ∙ ap (λ (x : Option Pending). unless f (taken_from b u l t x) (λ _. b)) k ∙ ap (λ (x : Option Fault). unless x (taken_from b u l t (pending_for b u l)) (λ _. b)) e';
      lowest = lowest-first (letter_conditions b u l) (wrong r) (ap (λ (z : Told). wrong z) a ∙ told b l (pending_for b u l)) refl;
    }

abbrev takes_it : Got → Lock Asking → Told
takes_it g s = Ok (Takes g s)

pub takes : {T : Type 0} (b b₁ b₂ b₃ : Boxed T) (u : Under) (l : Letter) (t : T) (o : Option Pending) (p : Pending) (s : Lock Asking) (n : ℕ) →
    o ≡ pending_for b u l → None ≡ first_fault (letter_judged b.taken b.left o) → o ≡ Some p →
    b₁ ≡ settled b u l → b₂ ≡ stored b₁ l t → n ≡ b₂.taken → s ≡ asking_of b₂ l.key l.service p.line → b₃ ≡ asked b₂ l.key l.service p.line →
    TakesLetter b u l t (takes_it (record { id = n; service = l.service; until = l.until }) s) b₃
takes {T} b b₁ b₂ b₃ u l t o p s n k e z e₁ e₂ m x y =
    let e₃ : b₂ ≡ stored (settled b u l) l t = e₂ ∙ ap (λ (c : Boxed T). stored c l t) e₁ in
    let m' = m ∙ ap (λ (c : Boxed T). c.taken) e₃ in
    let x' : s ≡ asking_of b l.key l.service p.line = x ∙ ap (λ (c : Boxed T). asking_of c l.key l.service p.line) e₃ in
    by-table b u l t o None (takes_it (record { id = n; service = l.service; until = l.until }) s) b₃ k e
    (ap (λ (i : ℕ). takes_it (record { id = i; service = l.service; until = l.until }) s) m'
    ∙ ap (takes_it (got b.taken)) x'
    ∙ ap (λ (i : Option Pending). taken_by b l i) (sym z))
    (y ∙ ap (λ (c : Boxed T). asked c l.key l.service p.line) e₃ ∙ ap (λ (i : Option Pending). taken_from b u l t i) (sym z))
  where
    got : ℕ → Got
    got i = record { id = i + 1; service = l.service; until = l.until }

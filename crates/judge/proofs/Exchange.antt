-- A deed is judged: the oldest line that fits is spent, and whoever needed it takes the line of this deed. Assumes nothing.
use Rattle.std.proofs.Common.{◌≡◌, ℕ, suc, ◌<◌, ◌≤◌, Bool, true, false, cond, eqb, ◌⊎◌, List, ◌∷◌, ◌++◌, sym, refl, ap, ◌∙◌, subst, inl, inr, arith, eqb-true}
use Rattle.judge_rules.specs.Judge.{Noted, spend}
use Rattle.judge.specs.Hearing.{claim}
use Rattle.judge.proofs.Marks.{First, Mark, NoFit, Up, among, beside, fit-for, look, mark, middle, of-fit, spent_mark, up-after, up-spent}
use Rattle.judge.proofs.Standing.{InTime, Standing}
use Rattle.rows.specs.Name.{Naming}
use Rattle.rows.specs.Setting.{Setting, rules_of}
use Rattle.rows.specs.Row.{Deed, For, SafeDeed, Wanted}
use Rattle.tickets.specs.State.{Safe, any_in, relies}
use Rattle.tickets.proofs.Bools.{Unsafe, clash, either, safe-back}
use borrow.Author.Tests.{eqb-false}
use mathlib.Core.List.{Memᴰ}

-- one of two
pub pick : (b : Bool) → Wanted → Wanted → Wanted
pick b x y = cond b x y

pub picked : (P : Wanted → Type 0) (b : Bool) (x y : Wanted) → (b ≡ true → P x) → (b ≡ false → P y) → P (pick b x y)
unfolding pick
picked P true x y f g = f refl
picked P false x y f g = g refl

module _ (c : Setting) (n : Naming c.own) (ls : List Wanted) (ds : List Deed) (t : InTime c n ls ds) (p : ℕ) (ns : List Noted) (s : Standing c n ls ds p ns) (x : Deed) (here : Memᴰ x ds) (place : x.place ≡ p) where
  on : {y : ℕ} → suc p ≤ y → p ≤ y
  on h = omega arith

  -- the marks, when this one is spent
  abbrev spent_marks : First c.lag (claim x) s.marks → List Mark
  spent_marks f = f.before ++ (spent_mark f.it ∷ f.after)

  -- one that stands spent was spent before, or is this one
  was : (f : First c.lag (claim x) s.marks) (m : Mark) → Memᴰ m (spent_marks f) → Memᴰ m s.marks ⊎ (m ≡ spent_mark f.it)
  was f m h = go (among f.before f.after (spent_mark f.it) m h)
    where
      go : (Memᴰ m f.before ⊎ Memᴰ m f.after) ⊎ (m ≡ spent_mark f.it) → Memᴰ m s.marks ⊎ (m ≡ spent_mark f.it)
      go (inl k) = inl (subst (λ (y : List Mark). Memᴰ m y) (sym f.split) (beside f.before f.after f.it m k))
      go (inr e) = inr e

  it-stands : (f : First c.lag (claim x) s.marks) → Memᴰ f.it s.marks
  it-stands f = subst (λ (y : List Mark). Memᴰ f.it y) (sym f.split) (middle f.before f.after f.it)

  it-known : (f : First c.lag (claim x) s.marks) → Memᴰ f.it.wanted ls
  it-known f = s.known_mark f.it (it-stands f)

  known_mark : (f : First c.lag (claim x) s.marks) (m : Mark) → Memᴰ m s.marks ⊎ (m ≡ spent_mark f.it) → Memᴰ m.wanted ls
  known_mark f m (inl h) = s.known_mark m h
  known_mark f m (inr e) = subst (λ (y : Mark). Memᴰ y.wanted ls) (sym e) (it-known f)

  low : (f : First c.lag (claim x) s.marks) (m : Mark) → Memᴰ m s.marks ⊎ (m ≡ spent_mark f.it) → m.wanted.place < suc p
  low f m (inl h) = let l = s.low m h in omega arith
  low f m (inr e) = subst (λ (y : Mark). y.wanted.place < suc p) (sym e) (let l = s.low f.it (it-stands f) in let r : f.it.wanted.place < suc p = omega arith in r)

  complete : (f : First c.lag (claim x) s.marks) (w : Wanted) → (b : Bool) × Memᴰ (mark w b) s.marks → (b : Bool) × Memᴰ (mark w b) (spent_marks f)
  complete f w r = go (among f.before f.after f.it (mark w r.0) (subst (λ (y : List Mark). Memᴰ (mark w r.0) y) f.split r.1))
    where
      go : (Memᴰ (mark w r.0) f.before ⊎ Memᴰ (mark w r.0) f.after) ⊎ (mark w r.0 ≡ f.it) → (b : Bool) × Memᴰ (mark w b) (spent_marks f)
      go (inl k) = (r.0, beside f.before f.after (spent_mark f.it) (mark w r.0) k)
      go (inr e) = (true, subst (λ (y : Mark). Memᴰ (mark y.wanted true) (spent_marks f)) (sym e) (middle f.before f.after (spent_mark f.it)))

  -- no line is heard with the deed
  strictly : ((w : Wanted) → Memᴰ w ls → w.place ≡ p → ⊥) → (w : Wanted) → Memᴰ w ls → w.place < suc p → w.place < p
  strictly none w h l = go (either (eqb w.place p))
    where
      go : (eqb w.place p ≡ true) ⊎ (eqb w.place p ≡ false) → w.place < p
      go (inl e) = absurd (none w h (eqb-true _ _ e))
      go (inr e) = let f = eqb-false _ _ e in omega arith

  -- none fits: nothing is spent
  idle : ((w : Wanted) → Memᴰ w ls → w.place ≡ p → ⊥) → NoFit c.lag (claim x) s.marks → Standing c n ls ds (suc p) (spend c.lag (claim x) ns)
  idle none f =
      record {
        marks = s.marks;
        same = ap (λ (y : List Noted). spend c.lag (claim x) y) s.same ∙ f.keeps;
        known_mark = s.known_mark;
        low = λ m h. let l = s.low m h in omega arith;
        up = s.up;
        complete = λ w h l. s.complete w h (strictly none w h l);
        line_for = λ d h w q. s.line_for d h w (on q);
        known = λ d h w q. s.known d h w (on q);
        asked = λ d h w q. s.asked d h w (on q);
        once = λ d e h k w u q r i. s.once d e h k w u (on q) (on r) i;
        free = λ d h w q i. s.free d h w (on q) i;
      }

  -- the deed is not safe: no safe deed of this reader and service comes after it, so none needs the line
  unsafe : ((w : Wanted) → Memᴰ w ls → w.place ≡ p → ⊥) → (f : First c.lag (claim x) s.marks) → Unsafe (rules_of c n) x.stolen x.reader x.service → Standing c n ls ds (suc p) (spend c.lag (claim x) ns)
  unsafe none f bad =
      record {
        marks = spent_marks f;
        same = ap (λ (y : List Noted). spend c.lag (claim x) y) s.same ∙ f.spends;
        known_mark = λ m h. known_mark f m (was f m h);
        low = λ m h. low f m (was f m h);
        up = up-spent 0 f.before f.after f.it (subst (λ (y : List Mark). Up 0 y) f.split s.up);
        complete = λ w h l. complete f w (s.complete w h (strictly none w h l));
        line_for = λ d h w q. s.line_for d h w (on q);
        known = λ d h w q. s.known d h w (on q);
        asked = λ d h w q. s.asked d h w (on q);
        once = λ d e h k w u q r i. s.once d e h k w u (on q) (on r) i;
        free = λ d h w q i. still d h w q (was f _ i);
      }
    where
      still : (d : Deed) (h : Memᴰ d ds) (w : SafeDeed c n d) (q : suc p ≤ d.place) → Memᴰ (mark (s.line_for d h w (on q)) true) s.marks ⊎ (mark (s.line_for d h w (on q)) true ≡ spent_mark f.it) → ⊥
      still d h w q (inl i) = s.free d h w (on q) i
      still d h w q (inr e) =
          let g : s.line_for d h w (on q) ≡ f.it.wanted = ap (λ (y : Mark). y.wanted) e in
          let a = s.asked d h w (on q) in
          let reader : d.reader ≡ x.reader = sym a.reader ∙ ap (λ (y : Wanted). y.reader) g ∙ f.fit.reader in
          let service : d.service ≡ x.service = sym a.service ∙ ap (λ (y : Wanted). y.service) g ∙ f.fit.service in
          let safe = safe-back (rules_of c n) x.stolen d.stolen d.reader d.service (t.thefts_stay x d here h (omega arith)) w in
          clash bad (subst (λ (y : ℕ). Safe (rules_of c n) x.stolen x.reader y) service (subst (λ (y : ℕ). Safe (rules_of c n) x.stolen y d.service) reader safe))

  -- the deed is safe: its own line goes to whoever had the one that is spent
  module _ (none : (w : Wanted) → Memᴰ w ls → w.place ≡ p → ⊥) (f : First c.lag (claim x) s.marks) (good : SafeDeed c n x) where
    at_least : p ≤ x.place
    at_least = omega arith

    own : Wanted
    own = s.line_for x here good at_least

    abbrev spent_line : Wanted
    spent_line = f.it.wanted

    -- the line of the deed is no older than the one that is spent
    not-older : (f.it.wanted.place ≡ own.place) ⊎ (f.it.wanted.place < own.place)
    unfolding own
    not-older =
        let a = s.asked x here good at_least in
        let b = a.before in
        let r = s.complete (s.line_for x here good at_least) (s.known x here good at_least) (omega arith) in
        go r.0 r.1
      where
        l : Wanted
        l = s.line_for x here good at_least

        found : (Memᴰ (mark (s.line_for x here good at_least) false) f.before ⊎ Memᴰ (mark (s.line_for x here good at_least) false) f.after) ⊎ (mark (s.line_for x here good at_least) false ≡ f.it)
            → (f.it.wanted.place ≡ (s.line_for x here good at_least).place) ⊎ (f.it.wanted.place < (s.line_for x here good at_least).place)
        found (inl (inl k)) =
            absurd (clash (of-fit c.lag (claim x) (mark (s.line_for x here good at_least) false) (fit-for c n x _ (s.asked x here good at_least))) (f.none_before _ k))
        found (inl (inr k)) = inr (up-after 0 f.before f.after f.it (subst (λ (y : List Mark). Up 0 y) f.split s.up) (mark (s.line_for x here good at_least) false) k)
        found (inr e) = inl (ap (λ (y : Mark). y.wanted.place) (sym e))

        go : (b : Bool) → Memᴰ (mark (s.line_for x here good at_least) b) s.marks
            → (f.it.wanted.place ≡ (s.line_for x here good at_least).place) ⊎ (f.it.wanted.place < (s.line_for x here good at_least).place)
        go true i = absurd (s.free x here good at_least i)
        go false i = found (among f.before f.after f.it _ (subst (λ (y : List Mark). Memᴰ (mark (s.line_for x here good at_least) false) y) f.split i))

    own-known : Memᴰ own ls
    unfolding own
    own-known = s.known x here good at_least

    own-asked : For c n x own
    unfolding own
    own-asked = s.asked x here good at_least

    own-once : (d : Deed) (h : Memᴰ d ds) (w : SafeDeed c n d) (q : suc p ≤ d.place) → own.place ≡ (s.line_for d h w (on q)).place → ⊥
    unfolding own
    own-once d h w q e = let i = s.once x d here h good w at_least (on q) e in omega arith

    own-free : Memᴰ (mark own true) s.marks → ⊥
    unfolding own
    own-free i = s.free x here good at_least i

    -- the tick of the line that is spent is no higher
    not-above : f.it.wanted.at ≤ own.at
    not-above = go not-older
      where
        reader : f.it.wanted.reader ≡ own.reader
        reader = f.fit.reader ∙ sym own-asked.reader

        go : (f.it.wanted.place ≡ own.place) ⊎ (f.it.wanted.place < own.place) → f.it.wanted.at ≤ own.at
        go (inl e) = let i = ap (λ (y : Wanted). y.at) (t.single f.it.wanted own (it-known f) own-known e) in omega arith
        go (inr e) = t.lines_on f.it.wanted own (it-known f) own-known e reader

    -- this deed had the line that is spent
    abbrev had : (d : Deed) (h : Memᴰ d ds) (w : SafeDeed c n d) (q : suc p ≤ d.place) → Bool
    had d h w q = eqb (s.line_for d h w (on q)).place f.it.wanted.place

    abbrev next : (d : Deed) (h : Memᴰ d ds) (w : SafeDeed c n d) (q : suc p ≤ d.place) → Wanted
    next d h w q = pick (had d h w q) own (s.line_for d h w (on q))

    -- it can have the other
    other : (d : Deed) (h : Memᴰ d ds) (w : SafeDeed c n d) (q : suc p ≤ d.place) → had d h w q ≡ true → For c n d own
    other d h w q e =
        let a = s.asked d h w (on q) in
        let g : s.line_for d h w (on q) ≡ f.it.wanted = t.single _ _ (s.known d h w (on q)) (it-known f) (eqb-true _ _ e) in
        let m = own-asked in
        let reader : d.reader ≡ x.reader = sym a.reader ∙ ap (λ (y : Wanted). y.reader) g ∙ f.fit.reader in
        let service : d.service ≡ x.service = sym a.service ∙ ap (λ (y : Wanted). y.service) g ∙ f.fit.service in
        let what : d.what ≡ x.what = sym a.what ∙ ap (λ (y : Wanted). y.what) g ∙ f.fit.what in
        let on-time : x.at ≤ d.at = t.deeds_on x d here h (omega arith) (sym service) in
        let before = m.before in
        let after = m.not_later in
        let i = a.lately in
        let j = not-above in
        let k : (s.line_for d h w (on q)).at ≡ f.it.wanted.at = ap (λ (y : Wanted). y.at) g in
        record {
          reader = m.reader ∙ sym reader;
          service = m.service ∙ sym service;
          what = m.what ∙ sym what;
          before = omega arith;
          not_later = omega arith;
          lately = omega arith;
        }

    -- no two have one line
    apart : (d e : Deed) (h : Memᴰ d ds) (k : Memᴰ e ds) (w : SafeDeed c n d) (u : SafeDeed c n e) (q : suc p ≤ d.place) (r : suc p ≤ e.place)
        → (b b' : Bool) → had d h w q ≡ b → had e k u r ≡ b' → (pick b own (s.line_for d h w (on q))).place ≡ (pick b' own (s.line_for e k u (on r))).place → d.place ≡ e.place
    unfolding pick
    apart d e h k w u q r true true i j o = s.once d e h k w u (on q) (on r) (eqb-true _ _ i ∙ sym (eqb-true _ _ j))
    apart d e h k w u q r true false i j o = absurd (own-once e k u r o)
    apart d e h k w u q r false true i j o = absurd (own-once d h w q (sym o))
    apart d e h k w u q r false false i j o = s.once d e h k w u (on q) (on r) o

    -- none of these is spent
    unspent : (d : Deed) (h : Memᴰ d ds) (w : SafeDeed c n d) (q : suc p ≤ d.place) → (b : Bool) → had d h w q ≡ b
        → Memᴰ (mark (pick b own (s.line_for d h w (on q))) true) s.marks ⊎ (mark (pick b own (s.line_for d h w (on q))) true ≡ spent_mark f.it) → ⊥
    unfolding pick
    unspent d h w q true i (inl k) = own-free k
    unspent d h w q true i (inr e) = own-once d h w q (ap (λ (y : Mark). y.wanted.place) e ∙ sym (eqb-true _ _ i))
    unspent d h w q false i (inl k) = s.free d h w (on q) k
    unspent d h w q false i (inr e) = eqb-false _ _ i (ap (λ (y : Mark). y.wanted.place) e)

    safe : Standing c n ls ds (suc p) (spend c.lag (claim x) ns)
    safe =
        record {
          marks = spent_marks f;
          same = ap (λ (y : List Noted). spend c.lag (claim x) y) s.same ∙ f.spends;
          known_mark = λ m h. known_mark f m (was f m h);
          low = λ m h. low f m (was f m h);
          up = up-spent 0 f.before f.after f.it (subst (λ (y : List Mark). Up 0 y) f.split s.up);
          complete = λ w h l. complete f w (s.complete w h (strictly none w h l));
          line_for = λ d h w q. next d h w q;
          known = λ d h w q. picked (λ y. Memᴰ y ls) (had d h w q) own (s.line_for d h w (on q)) (λ i. own-known) (λ i. s.known d h w (on q));
          asked = λ d h w q. picked (λ y. For c n d y) (had d h w q) own (s.line_for d h w (on q)) (λ i. other d h w q i) (λ i. s.asked d h w (on q));
          once = λ d e h k w u q r i. apart d e h k w u q r (had d h w q) (had e k u r) refl refl i;
          free = λ d h w q i. unspent d h w q (had d h w q) refl (was f _ i);
        }

  -- the deed is judged
  pub judges : ((w : Wanted) → Memᴰ w ls → w.place ≡ p → ⊥) → Standing c n ls ds (suc p) (spend c.lag (claim x) ns)
  judges none = go (look c.lag (claim x) s.marks)
    where
      by : First c.lag (claim x) s.marks → Unsafe (rules_of c n) x.stolen x.reader x.service ⊎ SafeDeed c n x → Standing c n ls ds (suc p) (spend c.lag (claim x) ns)
      by f (inl bad) = unsafe none f bad
      by f (inr good) = safe none f good

      go : First c.lag (claim x) s.marks ⊎ NoFit c.lag (claim x) s.marks → Standing c n ls ds (suc p) (spend c.lag (claim x) ns)
      go (inl f) = by f (either (any_in (relies (rules_of c n) x.reader x.service) x.stolen))
      go (inr f) = idle none f

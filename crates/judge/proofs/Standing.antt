-- The deeds still to come can be accounted for by lines that are not spent, whatever the judge has spent so far. Assumes nothing.
use Rattle.std.proofs.Common.{◌≡◌, ℕ, suc, ◌<◌, ◌≤◌, Bool, true, false, eqb, ◌⊎◌, List, [], ◌∷◌, ◌++◌, map, None, sym, refl, ap, ◌∙◌, subst, inl, inr, arith, eqb-true}
use Rattle.judge_rules.specs.Judge.{Noted, line_of, oldest}
use Rattle.judge.specs.Hearing.{claim}
use Rattle.judge.proofs.Marks.{Mark, Up, fit-for, mark, none-fits, noted_of, of-fit, up_more}
use Rattle.rows.specs.Name.{Naming}
use Rattle.rows.specs.Setting.{Setting}
use Rattle.rows.specs.Row.{Accounted, Deed, For, SafeDeed, Wanted}
use Rattle.tickets.proofs.Bools.{Sub, clash, either}
use Rattle.std.proofs.lemmas.List.{map-append}
use borrow.Author.Tests.{eqb-false}
use mathlib.Core.List.Memᴰ
use mathlib.Core.List.{Memᴰ}

module _ (c : Setting) (n : Naming c.own) (ls : List Wanted) (ds : List Deed) where
  -- how the lines and deeds of a row stand in time
  pub record InTime : Type 0 where
    pub single : (w u : Wanted) → Memᴰ w ls → Memᴰ u ls → w.place ≡ u.place → w ≡ u
    pub lines_on : (w u : Wanted) → Memᴰ w ls → Memᴰ u ls → w.place < u.place → w.reader ≡ u.reader → w.at ≤ u.at
    pub deeds_on : (d e : Deed) → Memᴰ d ds → Memᴰ e ds → d.place < e.place → d.service ≡ e.service → d.at ≤ e.at
    pub thefts_stay : (d e : Deed) → Memᴰ d ds → Memᴰ e ds → d.place < e.place → Sub d.stolen e.stolen

  -- the judge's lines at a place: those of the row before it, in order; and each safe deed from there on has one that is not spent
  pub record Standing (p : ℕ) (ns : List Noted) : Type 0 where
    pub marks : List Mark
    pub same : ns ≡ map noted_of marks
    pub known_mark : (m : Mark) → Memᴰ m marks → Memᴰ m.wanted ls
    pub low : (m : Mark) → Memᴰ m marks → m.wanted.place < p
    pub up : Up 0 marks
    pub complete : (w : Wanted) → Memᴰ w ls → w.place < p → (b : Bool) × Memᴰ (mark w b) marks
    pub line_for : (d : Deed) → Memᴰ d ds → SafeDeed c n d → p ≤ d.place → Wanted
    pub known : (d : Deed) (h : Memᴰ d ds) (w : SafeDeed c n d) (q : p ≤ d.place) → Memᴰ (line_for d h w q) ls
    pub asked : (d : Deed) (h : Memᴰ d ds) (w : SafeDeed c n d) (q : p ≤ d.place) → For c n d (line_for d h w q)
    pub once : (d e : Deed) (h : Memᴰ d ds) (k : Memᴰ e ds) (w : SafeDeed c n d) (u : SafeDeed c n e) (q : p ≤ d.place) (r : p ≤ e.place)
        → (line_for d h w q).place ≡ (line_for e k u r).place → d.place ≡ e.place
    pub free : (d : Deed) (h : Memᴰ d ds) (w : SafeDeed c n d) (q : p ≤ d.place) → Memᴰ (mark (line_for d h w q) true) marks → ⊥

  -- at the start
  pub begins : Accounted c n ls ds → Standing 0 []
  begins a =
      record {
        marks = [];
        same = refl;
        known_mark = λ m h. absurd (Memᴰ.not-nil h);
        low = λ m h. absurd (Memᴰ.not-nil h);
        up = tt;
        complete = λ w h l. absurd (omega arith);
        line_for = λ d h w q. a.line_for d h w;
        known = λ d h w q. a.known d h w;
        asked = λ d h w q. a.asked d h w;
        once = λ d e h k w u q r i. a.once d e h k w u i;
        free = λ d h w q i. absurd (Memᴰ.not-nil i);
      }

  later : {p x : ℕ} → suc p ≤ x → p ≤ x
  later h = omega arith

  -- nothing is heard
  pub passes : (p : ℕ) (ns : List Noted) → Standing p ns → ((w : Wanted) → Memᴰ w ls → w.place ≡ p → ⊥) → Standing (suc p) ns
  passes p ns s none =
      record {
        marks = s.marks;
        same = s.same;
        known_mark = s.known_mark;
        low = λ m h. let l = s.low m h in omega arith;
        up = s.up;
        complete = λ w h l. s.complete w h (strictly w h l);
        line_for = λ d h w q. s.line_for d h w (later q);
        known = λ d h w q. s.known d h w (later q);
        asked = λ d h w q. s.asked d h w (later q);
        once = λ d e h k w u q r i. s.once d e h k w u (later q) (later r) i;
        free = λ d h w q i. s.free d h w (later q) i;
      }
    where
      strictly : (w : Wanted) → Memᴰ w ls → w.place < suc p → w.place < p
      strictly w h l = go (either (eqb w.place p))
        where
          go : (eqb w.place p ≡ true) ⊎ (eqb w.place p ≡ false) → w.place < p
          go (inl e) = absurd (none w h (eqb-true _ _ e))
          go (inr e) = let f = eqb-false _ _ e in omega arith

  -- a line is heard
  pub notes : (t : InTime) (p : ℕ) (ns : List Noted) → Standing p ns → (x : Wanted) → Memᴰ x ls → x.place ≡ p → Standing (suc p) (ns ++ (line_of x.reader x.service x.what x.at ∷ []))
  notes t p ns s x here place =
      record {
        marks = s.marks ++ (mark x false ∷ []);
        same = ap (λ (y : List Noted). y ++ (noted_of (mark x false) ∷ [])) s.same ∙ sym (map-append noted_of s.marks (mark x false ∷ []));
        known_mark = λ m h. known-one m (Memᴰ.append_cases s.marks h);
        low = λ m h. low-one m (Memᴰ.append_cases s.marks h);
        up = up_more 0 s.marks (mark x false) s.up (omega arith) (λ m h. let l = s.low m h in omega arith);
        complete = λ w h l. there w h l (either (eqb w.place p));
        line_for = λ d h w q. s.line_for d h w (later q);
        known = λ d h w q. s.known d h w (later q);
        asked = λ d h w q. s.asked d h w (later q);
        once = λ d e h k w u q r i. s.once d e h k w u (later q) (later r) i;
        free = λ d h w q i. free_one d h w q (Memᴰ.append_cases s.marks i);
      }
    where
      known-one : (m : Mark) → Memᴰ m s.marks ⊎ Memᴰ m (mark x false ∷ []) → Memᴰ m.wanted ls
      known-one m (inl h) = s.known_mark m h
      known-one m (inr h) = subst (λ (y : Mark). Memᴰ y.wanted ls) (sym (Memᴰ.eq_of_singleton h)) here

      low-one : (m : Mark) → Memᴰ m s.marks ⊎ Memᴰ m (mark x false ∷ []) → m.wanted.place < suc p
      low-one m (inl h) = let l = s.low m h in omega arith
      low-one m (inr h) = subst (λ (y : Mark). y.wanted.place < suc p) (sym (Memᴰ.eq_of_singleton h)) (let e : x.place < suc p = omega arith in e)

      there : (w : Wanted) → Memᴰ w ls → w.place < suc p → (eqb w.place p ≡ true) ⊎ (eqb w.place p ≡ false) → (b : Bool) × Memᴰ (mark w b) (s.marks ++ (mark x false ∷ []))
      there w h l (inl e) =
          let i : w ≡ x = t.single w x h here (eqb-true _ _ e ∙ sym place) in
          (false, Memᴰ.append_right s.marks (Memᴰ.head (ap (λ (y : Wanted). mark y false) i)))
      there w h l (inr e) =
          let f = eqb-false _ _ e in
          let r = s.complete w h (omega arith) in
          (r.0, Memᴰ.append_left (mark x false ∷ []) r.1)

      free_one : (d : Deed) (h : Memᴰ d ds) (w : SafeDeed c n d) (q : suc p ≤ d.place) → Memᴰ (mark (s.line_for d h w (later q)) true) s.marks ⊎ Memᴰ (mark (s.line_for d h w (later q)) true) (mark x false ∷ []) → ⊥
      free_one d h w q (inl i) = s.free d h w (later q) i
      free_one d h w q (inr i) = let e = Memᴰ.eq_of_singleton i in let z : true ≡ false = ap (λ (y : Mark). y.spent) e in clash {b = true} refl z

  -- a safe deed finds a line
  pub finds : (p : ℕ) (ns : List Noted) → Standing p ns → (d : Deed) → Memᴰ d ds → d.place ≡ p → SafeDeed c n d → oldest c.lag (claim d) 0 ns ≡ None → ⊥
  finds p ns s d h place w none =
      let q : p ≤ d.place = omega arith in
      let l = s.line_for d h w q in
      let f = s.asked d h w q in
      let b = f.before in
      let r = s.complete l (s.known d h w q) (omega arith) in
      go r.0 r.1
    where
      go : (b : Bool) → Memᴰ (mark (s.line_for d h w (let q : p ≤ d.place = omega arith in q)) b) s.marks → ⊥
      go true i = s.free d h w _ i
      go false i =
          clash (of-fit c.lag (claim d) (mark (s.line_for d h w (let q : p ≤ d.place = omega arith in q)) false) (fit-for c n d _ (s.asked d h w _)))
          (none-fits c.lag (claim d) 0 s.marks (subst (λ (y : List Noted). oldest c.lag (claim d) 0 y ≡ None) s.same none) _ i)

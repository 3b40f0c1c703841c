-- The first key that opens a lock, one key after the other. Assumes nothing.
use Rattle.std.proofs.Common.{◌≡◌, ℕ, suc, ◌+◌, ◌<◌, true, false, List, [], length, get_or, drop, is_some, Some, None, Option, sym, refl, ap, ◌∙◌, ⊎_elim, add-one, arith}
use Rattle.box_side.specs.Box.{opens_first}
use Rattle.locked.specs.Locked.{Bytes, Tried, ours}
use Rattle.parts.specs.declared.word.Key.{Key}
use Rattle.seal.specs.Lock.{fits, opens, unsealed}
use Rattle.std.proofs.lemmas.List.{at_drop_more}
use Rattle.std.proofs.lemmas.Bool.{cases_Bool, cond-false, cond-true}

-- what stands where there is no key
abbrev pub no_key : Key
no_key = record { 0 = [] }

-- what is there, where something is
pub some : {X : Type 0} (o : Option X) → is_some o ≡ true → (x : X) × (o ≡ Some x)
some None e = absurd (let y : ◌≡◌ {A = ℕ} 0 1 = cc in omega arith)
some (Some x) e = (x, refl)

pub none : {X : Type 0} (o : Option X) → is_some o ≡ false → o ≡ None
none None e = refl
none (Some x) e = absurd (let y : ◌≡◌ {A = ℕ} 0 1 = cc in omega arith)

-- a word that does not open is left as it was
pub shut : (kind : ℕ) (key w : Bytes) → opens kind key w ≡ None → unsealed kind key w ≡ w
unfolding opens unsealed
shut kind key w e =
    ⊎_elim
    (λ t.
    let z : Some _ ≡ None = sym (cond-true (fits kind key w) _ None t) ∙ e in
    absurd (let y : ◌≡◌ {A = ℕ} 0 1 = cc in omega arith))
    (λ f. cond-false (fits kind key w) _ w f)
    (cases_Bool (fits kind key w))

module _ (kind : ℕ) (ks : List Key) (i : ℕ) (w : Bytes) where
  -- what the key at this place decides
  abbrev decided : Option Bytes → Option Tried
  decided None = opens_first ours kind (i + 1) (drop (i + 1) ks) w
  decided (Some x) = Some (record { place = i; key = get_or ks i no_key; inside = x })

  at_key : i < length ks → opens_first ours kind i (drop i ks) w ≡ decided (opens kind (get_or ks i no_key).0 w)
  at_key h =
      at_drop_more (λ (l : List Key). opens_first ours kind i l w) ks i no_key h
      ∙ by (opens kind (get_or ks i no_key).0 w)
    where
      by : (o : Option Bytes) →
          elim o [ None ↦ opens_first ours kind (suc i) (drop (i + 1) ks) w | Some x ↦ Some (record { place = i; key = get_or ks i no_key; inside = x }) ]
          ≡ decided o
      by None = ap (λ (n : ℕ). opens_first ours kind n (drop (i + 1) ks) w) (sym (add-one i))
      by (Some x) = refl

  -- it does not open: the next is tried
  pub next : i < length ks → opens kind (get_or ks i no_key).0 w ≡ None →
      opens_first ours kind i (drop i ks) w ≡ opens_first ours kind (i + 1) (drop (i + 1) ks) w
  next h e = at_key h ∙ ap decided e

  -- it opens
  pub here : (x : Bytes) → i < length ks → opens kind (get_or ks i no_key).0 w ≡ Some x →
      opens_first ours kind i (drop i ks) w ≡ Some (record { place = i; key = get_or ks i no_key; inside = x })
  here x h e = at_key h ∙ ap decided e

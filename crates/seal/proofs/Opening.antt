-- What was locked opens again, and what opens was locked.
use Rattle.std.proofs.Common.{◌≡◌, ℕ, ◌+◌, ◌-◌, ◌<◌, ◌≤◌, Bool, true, false, ltb, [], ◌∷◌, ◌++◌, length, take, drop, is_some, Some, None, sym, refl, ap, ◌∙◌, ⊎_elim, append_assoc, append-nil, arith, length-append, length-drop, take-add}
use Rattle.std.proofs.lemmas.List.{take_at, drop_at, take-append-drop, length-take-le, take-take, drop-drop, drop_all}
use Rattle.std.proofs.lemmas.Bool.{lt-ltb, le-ltb, cases_Bool, cases_lt, cond-true, cond-false}
use borrow.Rule.Slice.PartMut.{put_mid}
use Rattle.hash.specs.Hmac.{hmac}
use Rattle.hash.proofs.Keys.{length-hmac}
use Rattle.cipher.specs.ChaCha20.{setup, chacha20}
use Rattle.cipher.proofs.Stream.{turned-back, length-turned}
use Rattle.seal.specs.Lock.{Bytes, turn, sum, lock, body_of, sum_of, inside_of, turned_in, same, fits, opens, sealed, unsealed, OpensAgain, OpensLocks}
use Rattle.seal.proofs.Same.{same_refl, same-eq}

module _ (kind : ℕ) (key : Bytes) where
  pub turn-back : (drawn xs : Bytes) → turn kind key drawn (turn kind key drawn xs) ≡ xs
  unfolding turn
  turn-back drawn xs = turned-back (setup (hmac key (1 ∷ kind ∷ [])) 0 (take 12 drawn)) xs

  pub length-turn : (drawn xs : Bytes) → length (turn kind key drawn xs) ≡ length xs
  unfolding turn
  length-turn drawn xs = length-turned (setup (hmac key (1 ∷ kind ∷ [])) 0 (take 12 drawn)) xs

  pub length-sum : (body : Bytes) → length (sum kind key body) ≡ 16
  unfolding sum
  length-sum body =
      let n = length-hmac key (2 ∷ kind ∷ body) in length-take-le 16 (hmac key (2 ∷ kind ∷ body)) (omega arith)

  pub length-lock : (drawn xs : Bytes) → length (lock kind key drawn xs) ≡ length drawn + length xs + 16
  unfolding lock
  length-lock drawn xs =
      let body = drawn ++ turn kind key drawn xs in
      let a = length-append body (sum kind key body) in
      let b = length-append drawn (turn kind key drawn xs) in
      let c = length-turn drawn xs in
      let d = length-sum body in
      omega arith

  -- the parts of a lock
  module _ (drawn xs : Bytes) (fit : length drawn ≡ 16) where
    body_of-lock : body_of (lock kind key drawn xs) ≡ drawn ++ turn kind key drawn xs
    unfolding lock
    body_of-lock =
        let body = drawn ++ turn kind key drawn xs in
        let n = length-lock drawn xs in
        let b = length-append drawn (turn kind key drawn xs) in
        let c = length-turn drawn xs in
        take_at body (sum kind key body) _ (omega arith)

    sum_of-lock : sum_of (lock kind key drawn xs) ≡ sum kind key (drawn ++ turn kind key drawn xs)
    unfolding lock
    sum_of-lock =
        let body = drawn ++ turn kind key drawn xs in
        let n = length-lock drawn xs in
        let b = length-append drawn (turn kind key drawn xs) in
        let c = length-turn drawn xs in
        drop_at body (sum kind key body) _ (omega arith)

    whole : lock kind key drawn xs ≡ drawn ++ (turn kind key drawn xs ++ sum kind key (drawn ++ turn kind key drawn xs))
    unfolding lock
    whole = append_assoc drawn (turn kind key drawn xs) (sum kind key (drawn ++ turn kind key drawn xs))

    pub take-lock : take 16 (lock kind key drawn xs) ≡ drawn
    take-lock = ap (take 16) whole ∙ take_at drawn _ 16 fit

    inside_of-lock : inside_of (lock kind key drawn xs) ≡ turn kind key drawn xs
    inside_of-lock =
        let n = length-lock drawn xs in
        let c = length-turn drawn xs in
        ap (take (length (lock kind key drawn xs) - 32)) (ap (drop 16) whole ∙ drop_at drawn _ 16 fit)
        ∙ take_at (turn kind key drawn xs) _ _ (omega arith)

    fits-lock : fits kind key (lock kind key drawn xs) ≡ true
    fits-lock =
        let n = length-lock drawn xs in
        let w = lock kind key drawn xs in
        cond-false (ltb (length w) 32) false _ (le-ltb (length w) 32 (omega arith))
        ∙ ap (λ s. same s (sum kind key (body_of w))) sum_of-lock
        ∙ ap (λ b. same (sum kind key (drawn ++ turn kind key drawn xs)) (sum kind key b)) body_of-lock
        ∙ same_refl (sum kind key (drawn ++ turn kind key drawn xs))

    pub opens-lock : opens kind key (lock kind key drawn xs) ≡ Some xs
    unfolding opens
    opens-lock =
        cond-true (fits kind key (lock kind key drawn xs)) _ None fits-lock
        ∙ ap (λ d. Some (turn kind key d (inside_of (lock kind key drawn xs)))) take-lock
        ∙ ap (λ l. Some (turn kind key drawn l)) inside_of-lock ∙ ap Some (turn-back drawn xs)

  -- what a sum that fits says of a word
  pub fits-long : (w : Bytes) → fits kind key w ≡ true → 32 ≤ length w
  fits-long w e =
      ⊎_elim
      (λ lt. let z : ◌≡◌ {A = Bool} false true = sym (cond-true (ltb (length w) 32) false _ (lt-ltb (length w) 32 lt)) ∙ e in absurd (let y : ◌≡◌ {A = ℕ} 0 1 = cc in omega arith))
      (λ ge. ge)
      (cases_lt (length w) 32)

  pub body-split : (w : Bytes) → 32 ≤ length w → take 16 w ++ inside_of w ≡ body_of w
  body-split w le =
      let on : 16 + (length w - 32) ≡ length w - 16 = omega arith in
      sym (take-add 16 (length w - 32) w) ∙ ap (λ n. take n w) on

  pub fits_sum : (w : Bytes) → fits kind key w ≡ true → sum_of w ≡ sum kind key (body_of w)
  fits_sum w e =
      let le = fits-long w e in
      same-eq (sum_of w) (sum kind key (body_of w))
      (sym (cond-false (ltb (length w) 32) false _ (le-ltb (length w) 32 le)) ∙ e)

  -- a word whose sum fits is the lock of what comes out
  fits-locks : (w : Bytes) → fits kind key w ≡ true → w ≡ lock kind key (take 16 w) (turn kind key (take 16 w) (inside_of w))
  unfolding lock
  fits-locks w e =
      let split : take 16 w ++ turn kind key (take 16 w) (turn kind key (take 16 w) (inside_of w)) ≡ body_of w =
      ap (λ l. take 16 w ++ l) (turn-back (take 16 w) (inside_of w)) ∙ body-split w (fits-long w e) in
      sym (take-append-drop (length w - 16) w) ∙ ap (λ s. body_of w ++ s) (fits_sum w e)
      ∙ ap (λ b. b ++ sum kind key b) (sym split)

  pub opens-locks : (w xs : Bytes) → opens kind key w ≡ Some xs → w ≡ lock kind key (take 16 w) xs
  unfolding opens
  opens-locks w xs e =
      ⊎_elim
      (λ t.
      let some : Some (turn kind key (take 16 w) (inside_of w)) ≡ Some xs = sym (cond-true (fits kind key w) _ None t) ∙ e in
      let is : turn kind key (take 16 w) (inside_of w) ≡ xs = cc in
      fits-locks w t ∙ ap (lock kind key (take 16 w)) is)
      (λ f.
      let none : None ≡ Some xs = sym (cond-false (fits kind key w) _ None f) ∙ e in
      absurd (let y : ◌≡◌ {A = ℕ} 0 1 = cc in omega arith))
      (cases_Bool (fits kind key w))

pub opens_again : OpensAgain
opens_again kind key drawn xs fit = opens-lock kind key drawn xs fit

pub opens-only : OpensLocks
opens-only kind key w xs e = opens-locks kind key w xs e

-- what the code leaves in a word, as lists
module _ (kind : ℕ) (key w : Bytes) where
  pub turned-put :
      (code nonce ys : Bytes) → 32 ≤ length w → code ≡ hmac key (1 ∷ kind ∷ []) → nonce ≡ take 12 w
      → ys ≡ chacha20 code 0 nonce (take (length w - 16 - 16) (drop 16 w))
      → put_mid 16 (length w - 16 - 16) w ys ≡ turned_in kind key w
  unfolding turn
  turned-put code nonce ys le e n is =
      let k : length w - 16 - 16 ≡ length w - 32 = omega arith in
      let on : 16 + (length w - 16 - 16) ≡ length w - 16 = omega arith in
      let turned : ys ≡ turn kind key (take 16 w) (inside_of w) =
      is ∙ ap (λ c. chacha20 c 0 nonce (take (length w - 16 - 16) (drop 16 w))) e
      ∙ ap (λ c. chacha20 (hmac key (1 ∷ kind ∷ [])) 0 c (take (length w - 16 - 16) (drop 16 w))) (n ∙ sym (take-take 12 16 w (omega arith)))
      ∙ ap (λ j. chacha20 (hmac key (1 ∷ kind ∷ [])) 0 (take 12 (take 16 w)) (take j (drop 16 w))) k in
      ap (λ l. take 16 w ++ (l ++ drop (length w - 16 - 16) (drop 16 w))) turned
      ∙ ap (λ l. take 16 w ++ (turn kind key (take 16 w) (inside_of w) ++ l))
      (drop-drop (length w - 16 - 16) 16 w ∙ ap (λ j. drop j w) on)

  module _ (le : 32 ≤ length w) where
    length-inside : length (inside_of w) ≡ length w - 32
    length-inside = length-take-le (length w - 32) (drop 16 w) (let d = length-drop 16 w in omega arith)

    length-body : length (take 16 w ++ turn kind key (take 16 w) (inside_of w)) ≡ length w - 16
    length-body =
        let a = length-append (take 16 w) (turn kind key (take 16 w) (inside_of w)) in
        let b = length-take-le 16 w (omega arith) in
        let c = length-turn kind key (take 16 w) (inside_of w) in
        let d = length-inside in
        omega arith

    regrouped : turned_in kind key w ≡ (take 16 w ++ turn kind key (take 16 w) (inside_of w)) ++ drop (length w - 16) w
    regrouped = sym (append_assoc (take 16 w) (turn kind key (take 16 w) (inside_of w)) (drop (length w - 16) w))

    pub length-turned_in : length (turned_in kind key w) ≡ length w
    length-turned_in =
        ap length regrouped ∙ length-append (take 16 w ++ turn kind key (take 16 w) (inside_of w)) (drop (length w - 16) w)
        ∙ (let b = length-body in let d = length-drop (length w - 16) w in omega arith)

    -- the sum written at the end of it
    pub sealed-put :
        (v s : Bytes) (a k : ℕ) → v ≡ turned_in kind key w → a ≡ length w - 16 → k ≡ 16 → s ≡ sum kind key (take a v)
        → put_mid a k v s ≡ sealed kind key w
    unfolding sealed lock
    sealed-put v s a k e at size is =
        let body = take 16 w ++ turn kind key (take 16 w) (inside_of w) in
        let long : length body ≡ a = length-body ∙ sym at in
        let is-v : v ≡ body ++ drop (length w - 16) w = e ∙ regrouped in
        let front : take a v ≡ body = ap (take a) is-v ∙ take_at body _ a long in
        let behind : drop a v ≡ drop (length w - 16) w = ap (drop a) is-v ∙ drop_at body _ a long in
        let none : drop k (drop a v) ≡ [] =
        ap (drop k) behind ∙ drop_all k (drop (length w - 16) w) (let d = length-drop (length w - 16) w in omega arith) in
        ap (λ l. l ++ (s ++ drop k (drop a v))) front ∙ ap (λ l. body ++ (s ++ l)) none
        ∙ ap (λ l. body ++ l) (append-nil s ∙ is ∙ ap (sum kind key) front)
        ∙ sym (cond-false (ltb (length w) 32) w _ (le-ltb (length w) 32 le))

  pub sealed-short : length w < 32 → w ≡ sealed kind key w
  unfolding sealed
  sealed-short lt = sym (cond-true (ltb (length w) 32) w _ (lt-ltb (length w) 32 lt))

  -- what opening leaves, says and shows
  abbrev pub Tried : Bytes → Bool → Type 0
  Tried v ok =
      (v ≡ unsealed kind key w) × (ok ≡ is_some (opens kind key w))
      × ((x : Bytes) → opens kind key w ≡ Some x → inside_of v ≡ x)

  pub tried-shut : fits kind key w ≡ false → Tried w false
  unfolding unsealed opens
  tried-shut no' = (
    sym (cond-false (fits kind key w) _ w no'),
    sym (ap is_some (cond-false (fits kind key w) (Some (turn kind key (take 16 w) (inside_of w))) None no')),
    λ x e.
        let none : None ≡ Some x = sym (cond-false (fits kind key w) _ None no') ∙ e in
        absurd (let y : ◌≡◌ {A = ℕ} 0 1 = cc in omega arith),
  )

  pub tried_open : (v : Bytes) → fits kind key w ≡ true → v ≡ turned_in kind key w → Tried v true
  unfolding unsealed opens
  tried_open v fit e =
      let le = fits-long kind key w fit in
      let t = turn kind key (take 16 w) (inside_of w) in
      let n : length v - 32 ≡ length t =
      let a = ap length e ∙ length-turned_in le in
      let b = length-turn kind key (take 16 w) (inside_of w) in
      let d = length-inside le in
      omega arith in
      let out : inside_of v ≡ t =
      ap (λ j. take j (drop 16 v)) n ∙ ap (λ l. take (length t) (drop 16 l)) e
      ∙ ap (take (length t)) (drop_at (take 16 w) (t ++ drop (length w - 16) w) 16 (length-take-le 16 w (omega arith)))
      ∙ take_at t _ (length t) refl in (
        e ∙ sym (cond-true (fits kind key w) _ w fit),
        sym (ap is_some (cond-true (fits kind key w) (Some t) None fit)),
        λ x o.
            let some : Some t ≡ Some x = sym (cond-true (fits kind key w) _ None fit) ∙ o in
            let is : t ≡ x = cc in
            out ∙ is,
      )

  pub fits-short : length w < 32 → fits kind key w ≡ false
  fits-short lt = cond-true (ltb (length w) 32) false _ (lt-ltb (length w) 32 lt)

  -- the comparison of the sum in the word with the sum of the rest
  pub fits-compared :
      (body given s : Bytes) (r : Bool) → 32 ≤ length w → body ≡ body_of w → given ≡ sum_of w
      → s ≡ sum kind key body → r ≡ same given s → r ≡ fits kind key w
  fits-compared body given s r le b g e is =
      is ∙ ap (same given) (e ∙ ap (sum kind key) b) ∙ ap (λ l. same l (sum kind key (body_of w))) g
      ∙ sym (cond-false (ltb (length w) 32) false _ (le-ltb (length w) 32 le))

-- What holds of the accounts file at every moment. Assumes nothing.
use Rattle.std.proofs.Common.{◌≡◌, ℕ, ◌-◌, ◌≤◌, Bool, true, false, cond, eqb, leb, List, length, take, drop, Some, None, Option, refl, ap, ◌∙◌, subst, arith}
use Rattle.account_laws.specs.Codec.{Full}
use Rattle.account_laws.specs.Falls.{Rise, Risen}
use Rattle.accounts.specs.Bytes.{measure-some}
use Rattle.accounts.specs.File.{accounts_on, all_in, whole}
use Rattle.accounts.specs.Payload.{accounts_in, measure}
use Rattle.halves.proofs.Finding.{starting}
use Rattle.halves.specs.Blocks.{Blocks, block}
use Rattle.halves.specs.Half.{blank, decoded, fits, sized}
use Rattle.halves.specs.Halves.{good_of, known_of, newer_of, part_of, payload_of, standing}
use Rattle.halves.specs.Laws.{KnowsAt}
use Rattle.halves.specs.declared.half.Half.{Half}
use Rattle.halves.specs.declared.halves.Good.{Good}
use Rattle.halves.specs.declared.halves.Halves.{Halves}
use Rattle.halves.specs.declared.which.Which.{Which}
use Rattle.halves.specs.declared.which.Which.TheVariants.{First, Second}
use Rattle.house_rules.specs.Account.{account_of}
use Rattle.parts.specs.declared.account.Account.{Account}
use Rattle.parts.specs.declared.account.Account.TheVariants.{Absent, Closed, Open}
use Rattle.std.proofs.lemmas.List.{length-drop, length-take-le}
use Rattle.std.proofs.lemmas.Bool.{and_parts, cond-true, eq-eqb, leb-true}

-- what a start would find: accounts that have risen from these
pub record Finds (xs : List Account) (b : Blocks) : Type 0 where
  pub then : List Account
  pub found : accounts_on (standing measure b) b ≡ Some then
  pub risen : Rise xs then

-- the newest good half that is known stands there, and has what is held; a start would find that or more
pub record Sound (xs : List Account) (h : Halves) (b : Blocks) : Type 0 where
  pub full : Full xs
  pub size : whole b ≡ true
  pub good : Good
  pub newest : h.newest ≡ Some good
  pub stands : decoded measure (block good.which b) ≡ Some good.half
  pub holds : accounts_in (payload_of (Some good) b) ≡ xs
  pub later : Finds xs b

pub risen-same : (a : Account) → Risen a a
risen-same Absent = tt
risen-same (Open k) = refl
risen-same (Closed k) = refl

pub rise-same : (xs ys : List Account) → xs ≡ ys → Rise xs ys
rise-same xs ys e = let P : List Account → Type 0 = λ zs. Rise xs zs in subst P e (λ n. risen-same (account_of xs n))

pub risen-more : (a b c : Account) → Risen a b → Risen b c → Risen a c
risen-more Absent b c r s = tt
risen-more (Open k) Absent c r s = absurd r
risen-more (Open k) (Open l) Absent r s = absurd s
risen-more (Open k) (Open l) (Open m) r s = r ∙ s
risen-more (Open k) (Open l) (Closed m) r s = r ∙ s
risen-more (Open k) (Closed l) Absent r s = absurd s
risen-more (Open k) (Closed l) (Open m) r s = absurd s
risen-more (Open k) (Closed l) (Closed m) r s = r ∙ s
risen-more (Closed k) Absent c r s = absurd r
risen-more (Closed k) (Open l) c r s = absurd r
risen-more (Closed k) (Closed l) Absent r s = absurd s
risen-more (Closed k) (Closed l) (Open m) r s = absurd s
risen-more (Closed k) (Closed l) (Closed m) r s = r ∙ s

pub rise-more : (xs ys zs : List Account) → Rise xs ys → Rise ys zs → Rise xs zs
rise-more xs ys zs r s n = risen-more (account_of xs n) (account_of ys n) (account_of zs n) (r n) (s n)

-- a good half has room for all accounts
pub good-len : (x : List ℕ) (k : Half) → decoded measure x ≡ Some k → (k.len ≡ 33792) × (33792 ≤ length x - 24)
good-len x k e = by (blank x) e
  where
    fit : (t n : ℕ) (v : Bool) → fits n x ≡ v → measure (drop 8 x) ≡ Some n → cond v (Some record { turn = t; len = n }) None ≡ Some k
        → (k.len ≡ 33792) × (33792 ≤ length x - 24)
    fit t n true f m d =
        let s = measure-some (drop 8 x) n m in
        let l = leb-true n (length x - 24) (and_parts (leb n (length x - 24)) _ f).0 in
        let j : k ≡ record { turn = t; len = n } = cc in
        let q : k.len ≡ n = ap (λ (y : Half). y.len) j in
        (q ∙ s.2, (omega (arith, s.2)))
    fit t n false f m d = let z : ◌≡◌ {A = ℕ} 0 1 = cc in absurd (omega arith)

    at : (o : Option ℕ) → measure (drop 8 x) ≡ o → sized o x ≡ Some k → (k.len ≡ 33792) × (33792 ≤ length x - 24)
    at None m d = let z : ◌≡◌ {A = ℕ} 0 1 = cc in absurd (omega arith)
    at (Some n) m d = fit _ n (fits n x) refl m d

    by : (v : Bool) → cond v None (sized (measure (drop 8 x)) x) ≡ Some k → (k.len ≡ 33792) × (33792 ≤ length x - 24)
    by true d = let z : ◌≡◌ {A = ℕ} 0 1 = cc in absurd (omega arith)
    by false d = at (measure (drop 8 x)) refl d

-- what it holds are accounts
pub good-part : (x : List ℕ) (t n : ℕ) → decoded measure x ≡ Some record { turn = t; len = n } → length (part_of n x) ≡ 33792
good-part x t n e =
    let g = good-len x record { turn = t; len = n } e in
    ap (λ (j : ℕ). length (take j (drop 8 x))) g.0
    ∙ length-take-le 33792 (drop 8 x) (omega (arith, length-drop 8 x, g.1))

pub all_in_lem : (p : List ℕ) → length p ≡ 33792 → all_in p ≡ Some (accounts_in p)
all_in_lem p l = cond-true (eqb (length p) 33792) (Some (accounts_in p)) None (eq-eqb (length p) 33792 l)

-- where one half is good, one is the newest
newest-first : (h : Half) (q : Option Half) → (g : Good) × ((known_of 0 (Some h) q).newest ≡ Some g)
newest-first h None = (good_of First h, refl)
newest-first h (Some k) = (newer_of h k, refl)

newest-second : (o : Option Half) (k : Half) → (g : Good) × ((known_of 0 o (Some k)).newest ≡ Some g)
newest-second None k = (good_of Second k, refl)
newest-second (Some h) k = (newer_of h k, refl)

pub newest-is : (b : Blocks) (w : Which) (k : Half) → decoded measure (block w b) ≡ Some k → (g : Good) × ((standing measure b).newest ≡ Some g)
newest-is b First k e =
    let n = newest-first k (decoded measure b.second) in
    (n.0, ap (λ (o : Option Half). (known_of 0 o (decoded measure b.second)).newest) e ∙ n.1)
newest-is b Second k e =
    let n = newest-second (decoded measure b.first) k in
    (n.0, ap (λ (o : Option Half). (known_of 0 (decoded measure b.first) o).newest) e ∙ n.1)

-- a start reads the newest good half
pub newest-stands : (b : Blocks) (g : Good) → (standing measure b).newest ≡ Some g
    → decoded measure (block g.which b) ≡ Some g.half
newest-stands b g e = go (standing measure b).newest (standing measure b).last e (starting measure b)
  where
    go : (o : Option Good) (l : ℕ) → o ≡ Some g → KnowsAt measure o l b → decoded measure (block g.which b) ≡ Some g.half
    go None l f k = let z : ◌≡◌ {A = ℕ} 0 1 = cc in absurd (omega arith)
    go (Some m) l f k = let P : Good → Type 0 = λ y. decoded measure (block y.which b) ≡ Some y.half in
        let j : m ≡ g = cc in
        subst P j k

pub on-newest : (b : Blocks) (g : Good) → whole b ≡ true → (standing measure b).newest ≡ Some g
    → accounts_on (standing measure b) b ≡ Some (accounts_in (payload_of (Some g) b))
on-newest b g v e =
    cond-true (whole b) (all_in (payload_of (standing measure b).newest b)) None v
    ∙ ap (λ (o : Option Good). all_in (payload_of o b)) e
    ∙ all_in_lem (payload_of (Some g) b) (good-part (block g.which b) g.half.turn g.half.len (newest-stands b g e))

-- where one half is good, a start finds accounts
pub finds-some : (b : Blocks) (w : Which) (k : Half) → whole b ≡ true → decoded measure (block w b) ≡ Some k
    → (ys : List Account) × (accounts_on (standing measure b) b ≡ Some ys)
finds-some b w k v e =
    let n = newest-is b w k e in
    (accounts_in (payload_of (Some n.0) b), on-newest b n.0 v n.1)

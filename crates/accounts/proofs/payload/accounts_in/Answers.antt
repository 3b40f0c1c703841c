use Rattle.std.proofs.Common.{◌≡◌, ℕ, zero, suc, ◌+◌, ◌<◌, List, get_or, sym, ap, ◌∙◌, subst, arith, rules}
use Rattle.accounts.proofs.payload.accounts_in.Goals as goal
use Rattle.accounts.specs.Payload.{account_at, accounts_in}
use Rattle.parts.specs.declared.account.Account.TheVariants.{Absent}
use Rattle.std.proofs.lemmas.List.FromFn.{fill_by_all}
use Rattle.std.specs.Array.{IsFromFnResultFrom}
use Rattle.std.specs.Fn.{Called}
use denote.Param.Members.{Mut}

-- each element is what the closure gives of its place, if it gives one value and is left as it is
each : {F B : Type 0} {g : Mut F (ℕ × Unit {0}) B} (h : ℕ → B) (f : F) (ys : List B) (d : B)
    → ((i : ℕ) (y : B) (q : F) → Called g f (i, tt) y q → (q ≡ f) × (y ≡ h i))
    → (n i : ℕ) → IsFromFnResultFrom g f ys i n → (k j : ℕ) → k < n → i + k ≡ j → get_or ys j d ≡ h j
each h f ys d s zero i r k j l e = absurd (omega arith)
each h f ys d s (suc n) i r zero j l e =
    let q : i ≡ j = omega arith in
    ap (λ (t : ℕ). get_or ys t d) (sym q) ∙ r.2.1 d ∙ (s i r.1 r.0 r.3).1 ∙ ap h q
each {F} {B} {g} h f ys d s (suc n) i r (suc k) j l e =
    let P : F → Type 0 = λ q. IsFromFnResultFrom g q ys (i + 1) n in
    each h f ys d s n (i + 1) (subst P (s i r.1 r.0 r.3).0 r.4) k j (omega arith) (omega arith)

pub returns : goal.returns
unfolding accounts_in
returns c =
    let m = c.from_fn.ensures.items in
    fill_by_all (account_at c.args.bytes.now) c.from_fn.result 1024 Absent m.long
    (λ k h. each (account_at c.args.bytes.now) _ c.from_fn.result Absent (λ i y q w. search rules) 1024 0 m.each k k h (omega arith))

use Rattle.std.proofs.Common.{◌≡◌, ℕ, ◌&&◌, leb, List, length, replicate, Some, None, Option, sym, ap, ◌∙◌, subst}
use Rattle.accounts.proofs.file.AccountFile.start.Goals as goal
use Rattle.accounts.specs.File.{Begins, accounts_on, holding}
use Rattle.accounts.specs.Payload.{measure}
use Rattle.halves.specs.Blocks.{Blocks}
use Rattle.halves.specs.Halves.{Starts, is_new}
use Rattle.halves.specs.declared.halves.Halves.{Halves}
use Rattle.parts.specs.declared.account.Account.{Account}
use Rattle.std.proofs.lemmas.List.{length-replicate}

-- there is room for a half, and what counts is held
begins : (b : Blocks) (h : Halves) (b' : Blocks) (x' : List ℕ) (o : Option (List Account))
    → Starts (leb 24 (length {A = ℕ} (replicate 33816 0)) && is_new 33792 b) measure b (replicate 33816 0) h b' x'
    → o ≡ accounts_on h b' → Begins b (holding o h b') b'
begins b h b' x' o s e =
    let P : ℕ → Type 0 = λ n. Starts (leb 24 n && is_new 33792 b) measure b (replicate 33816 0) h b' x' in
    record {
      known = h;
      left = x';
      starts = subst P (length-replicate {A = ℕ} 33816 0) s;
      holds = ap (λ (y : Option (List Account)). holding y h b') e;
    }

pub returns-in-Some : goal.returns-in-Some
returns-in-Some g c =
    begins (g.D.Device.blocks c.args.device) c.start-halves.result (g.D.Device.blocks c.start-halves.new.device) c.start-halves.new.bytes
    (Some c.in-Some.accounts) c.start-halves.ensures (sym c.in-Some.is ∙ c.accounts_of.ensures)

pub returns-in-None : goal.returns-in-None
returns-in-None g c =
    begins (g.D.Device.blocks c.args.device) c.start-halves.result (g.D.Device.blocks c.start-halves.new.device) c.start-halves.new.bytes
    None c.start-halves.ensures (sym c.in-None.is ∙ c.accounts_of.ensures)

-- The kinds of locks and their numbers. Assumes nothing. Vocabulary:
--   number_of   the number of a kind, which goes into its locks' keys and sums
--   numbered    the kind of a number, if it has one
use Rattle.std.specs.Prelude.{◌≡◌, ℕ, cond, ◌==◌, Some, None, Option, Result}
use Rattle.std.specs.Result.{result_ok}
use Rattle.seal.specs.declared.kind.Kind.{Kind}
use Rattle.seal.specs.declared.kind.Kind.TheVariants.{Ticket, Letter, Asking, Login, Receipt}
use Rattle.seal.specs.declared.kind.NoKind.{NoKind}

abbrev pub number_of : Kind → ℕ
number_of Ticket = 1
number_of Letter = 2
number_of Asking = 3
number_of Login = 4
number_of Receipt = 5

-- the kinds have the numbers 1 to 5
abbrev pub numbered : ℕ → Option Kind
numbered n =
    cond (n == 1) (Some Ticket)
    (cond (n == 2) (Some Letter)
    (cond (n == 3) (Some Asking)
    (cond (n == 4) (Some Login)
    (cond (n == 5) (Some Receipt) None))))

-- what is read of a number: its kind, or that it has none
abbrev pub Numbers : ℕ → Result Kind NoKind → Type 0
Numbers n r = result_ok r ≡ numbered n

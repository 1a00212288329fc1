-- A test whether two optional numbers are one, for facts that are shown by computing a table.
use Rattle.std.proofs.Common.{◌≡◌, ℕ, Bool, true, false, eqb, Option, Some, None, rules}

abbrev pub same_option : Option ℕ → Option ℕ → Bool
same_option None None = true
same_option None (Some y) = false
same_option (Some x) None = false
same_option (Some x) (Some y) = eqb x y

pub same_option-true : (o p : Option ℕ) → same_option o p ≡ true → o ≡ p
same_option-true o p e = search rules

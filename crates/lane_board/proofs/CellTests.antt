-- Small laws of tests, as fields are made of them.
use Rattle.std.proofs.Common.{◌≡◌, Bool, true, false, ◌&&◌, ◌||◌, rules}

pub or_none : (a b : Bool) → b ≡ false → (a || b) ≡ a
or_none a b none = search rules

pub and_true : (a b : Bool) → b ≡ true → (a && b) ≡ a
and_true a b one = search rules

pub same_from_both : (a b : Bool) → (a ≡ true → b ≡ true) → (b ≡ true → a ≡ true) → a ≡ b
same_from_both a b there back = search rules

-- The laws of counts that rise.
use Rattle.std.specs.Prelude.{◌≡◌, ℕ, ◌≤◌, Bool, true, Ok}
use Rattle.std.proofs.Common.{◌∙◌, arith, refl}
use Rattle.pc_outside.specs.Counts.{HasCause}

-- of some calls none failed
pub record NoneFailed (alone : Bool) (before now : ℕ) : Type 0 where
  pub later : before ≤ now
  pub kept : alone ≡ true → now ≡ before

-- before the first call
pub none_yet : (alone : Bool) (count : ℕ) → NoneFailed alone count count
none_yet alone count = record { later = omega arith; kept = λ _. refl }

-- one more call succeeded
pub none_more : {T E : Type 0} {alone : Bool} {before mid now : ℕ} {x : T} → NoneFailed alone before mid
    → HasCause {T = T} {E = E} alone mid now (Ok x) → NoneFailed alone before now
none_more so_far cause = record {
  later = let one = so_far.later in let other = cause.later in omega arith;
  kept = λ is. cause.kept is ∙ so_far.kept is;
}

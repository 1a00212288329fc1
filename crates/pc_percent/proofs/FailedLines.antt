-- The lines of failed queues, queue by queue.
use Rattle.std.proofs.Common.{◌≡◌, ℕ, zero, suc, List, [], ◌∷◌, ◌++◌, Bool, true, false, refl}
use Rattle.srs.specs.declared.piece.Piece.{Piece}
use Rattle.pc_percent.specs.Lines.{failed_form, failed_lines}

module _ (test : List Piece → Bool) where
  pub none_asked : (queues : List (List Piece)) → failed_lines test 0 queues ≡ []
  unfolding failed_lines
  none_asked queues = refl

  pub none_left : (limit : ℕ) → failed_lines test limit [] ≡ []
  unfolding failed_lines
  none_left zero = refl
  none_left (suc limit) = refl

  pub good_passed : (limit : ℕ) (queue : List Piece) (queues : List (List Piece)) → test queue ≡ true → failed_lines test limit (queue ∷ queues) ≡ failed_lines test limit queues
  unfolding failed_lines
  good_passed limit queue queues good = rw (good) refl

  pub failed_first : (limit : ℕ) (queue : List Piece) (queues : List (List Piece)) → test queue ≡ false
      → failed_lines test (suc limit) (queue ∷ queues) ≡ failed_form queue ++ failed_lines test limit queues
  unfolding failed_lines
  failed_first limit queue queues bad = rw (bad) refl

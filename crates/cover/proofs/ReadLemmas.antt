-- What stands at an index of a list after a write and after a push.
use Rattle.std.proofs.Common.{◌≡◌, ℕ, zero, suc, ◌<◌, List, [], ◌∷◌, ◌++◌, length, Some, slice_get, set, refl, ap, arith}

pub get-written : {A : Type 0} (xs : List A) (i : ℕ) (x : A) → i < length xs → slice_get (set xs i x) i ≡ Some x
get-written [] i x within = absurd (omega arith)
get-written (y ∷ ys) zero x within = refl
get-written (y ∷ ys) (suc i) x within = get-written ys i x (omega arith)

pub get-others : {A : Type 0} (xs : List A) (i j : ℕ) (x : A) → (j ≡ i → ⊥) → slice_get (set xs i x) j ≡ slice_get xs j
get-others [] i j x other = refl
get-others (y ∷ ys) zero zero x other = absurd (other refl)
get-others (y ∷ ys) zero (suc j) x other = refl
get-others (y ∷ ys) (suc i) zero x other = refl
get-others (y ∷ ys) (suc i) (suc j) x other = get-others ys i j x (λ e. other (ap suc e))

pub get-before : {A : Type 0} (xs : List A) (j : ℕ) (x : A) → j < length xs → slice_get (xs ++ x ∷ []) j ≡ slice_get xs j
get-before [] j x within = absurd (omega arith)
get-before (y ∷ ys) zero x within = refl
get-before (y ∷ ys) (suc j) x within = get-before ys j x (omega arith)

pub get-pushed : {A : Type 0} (xs : List A) (j : ℕ) (x : A) → j ≡ length xs → slice_get (xs ++ x ∷ []) j ≡ Some x
get-pushed [] zero x is = refl
get-pushed [] (suc j) x is = absurd (omega arith)
get-pushed (y ∷ ys) zero x is = absurd (omega arith)
get-pushed (y ∷ ys) (suc j) x is = get-pushed ys j x (omega arith)

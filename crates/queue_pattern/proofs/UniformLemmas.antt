-- A flat map whose parts are equally long: how long it is, and what it has at a place.
use Rattle.std.proofs.Common.{◌≡◌, ℕ, zero, suc, ◌+◌, ◌*◌, ◌<◌, List, [], ◌∷◌, ◌++◌, length, refl, ap, sym, arith, length-append, Contains, zero-mul, rules}
use Rattle.std.specs.List.{flat_map, slice_get}
use Rattle.std.specs.Option.{option_and_then}
use Rattle.srs.proofs.CallerLemmas.{Contains-here, Contains-there}

-- each part has n elements
pub record IsUniform {X A : Type 0} (f : X → List A) (xs : List X) (n : ℕ) : Type 0 where
  pub each : (x : X) → Contains xs x → length (f x) ≡ n

uniform_rest : {X A : Type 0} (f : X → List A) (x : X) (xs : List X) (n : ℕ) → IsUniform f (x ∷ xs) n → IsUniform f xs n
uniform_rest f x xs n uniform = record { each = λ y there. uniform.each y (Contains-there x xs y there) }

pub length-uniform : {X A : Type 0} (f : X → List A) (xs : List X) (n : ℕ) → IsUniform f xs n → length (flat_map f xs) ≡ length xs * n
length-uniform f [] n uniform = sym (zero-mul n)
length-uniform f (x ∷ xs) n uniform =
    search (rules, Contains-here, uniform_rest, length-append, length-uniform f xs n (uniform_rest f x xs n uniform))

get-left : {A : Type 0} (xs ys : List A) (i : ℕ) → i < length xs → slice_get (xs ++ ys) i ≡ slice_get xs i
get-left [] ys i within = absurd (omega arith)
get-left (x ∷ xs) ys zero within = refl
get-left (x ∷ xs) ys (suc i) within = get-left xs ys i (omega arith)

get-right : {A : Type 0} (xs ys : List A) (i k : ℕ) → k ≡ length xs + i → slice_get (xs ++ ys) k ≡ slice_get ys i
get-right [] ys i k is = ap (slice_get ys) (omega arith)
get-right (x ∷ xs) ys i zero is = absurd (omega arith)
get-right (x ∷ xs) ys i (suc k) is = get-right xs ys i k (omega arith)

pub get-uniform : {X A : Type 0} (f : X → List A) (xs : List X) (n q r : ℕ) → IsUniform f xs n → r < n
    → slice_get (flat_map f xs) (q * n + r) ≡ option_and_then (λ x. slice_get (f x) r) (slice_get xs q)
get-uniform f [] n q r uniform within = refl
get-uniform f (x ∷ xs) n zero r uniform within = search (rules, zero-mul, get-left, Contains-here)
get-uniform f (x ∷ xs) n (suc q) r uniform within =
    search (rules, get-right, Contains-here, uniform_rest, get-uniform f xs n q r (uniform_rest f x xs n uniform) within)

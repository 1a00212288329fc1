-- Where a text leaves a form, whatever the form.
use Rattle.std.specs.Prelude.{◌≡◌, ℕ, List, [], ◌∷◌, ◌++◌, length}

-- some text of the form begins with this one
pub record IsFront (HasForm : List ℕ → Type 0) (text : List ℕ) : Type 0 where
  pub rest : List ℕ
  pub form : HasForm (text ++ rest)

-- no text of the form goes on so
abbrev pub IsStopped : (List ℕ → Type 0) → List ℕ → List ℕ → Type 0
IsStopped HasForm front [] = HasForm front → ⊥
IsStopped HasForm front (byte ∷ rest) = IsFront HasForm (front ++ byte ∷ []) → ⊥

-- at this place stands the first byte that no text of the form goes on with, or the text ends there and isn't of the
-- form
pub record LeavesForm (HasForm : List ℕ → Type 0) (text : List ℕ) (place : ℕ) : Type 0 where
  pub front : List ℕ
  pub rest : List ℕ
  pub whole : text ≡ front ++ rest
  pub stands : place ≡ length front
  pub begins : IsFront HasForm front
  pub stops : IsStopped HasForm front rest

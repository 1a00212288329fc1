-- The form of a sequence's text: which texts spell which sequences of placements.
use Rattle.std.specs.Prelude.{◌≡◌, ℕ, ◌<◌, ◌≤◌, List, [], ◌∷◌, ◌++◌, length, take}
use Rattle.srs.specs.declared.placement.Placement.{Placement}
use Rattle.moves.specs.declared.key.Key.{Key}
use Rattle.moves.specs.Keys.{word_letters}
use Rattle.placement_form.specs.Form.{IsPlacementText}

-- the text of a placement, alone or with keys that lead to it: a colon, the letters of any keys, and `H` for the hard
-- drop
pub data SpellsPlacement : List ℕ → Placement → Type 0 where
  alone : {text : List ℕ} {placement : Placement} → IsPlacementText text placement → SpellsPlacement text placement
  with_keys : {text : List ℕ} {placement : Placement} → IsPlacementText text placement → (keys : List Key)
      → SpellsPlacement (text ++ 58 ∷ word_letters keys) placement

-- placements divided by single blanks
pub data SpellsSequence : List ℕ → List Placement → Type 0 where
  none : SpellsSequence [] []
  last : {text : List ℕ} {placement : Placement} → SpellsPlacement text placement → SpellsSequence text (placement ∷ [])
  more : {front back : List ℕ} {first second : Placement} {rest : List Placement} → SpellsPlacement front first
      → SpellsSequence back (second ∷ rest)
      → SpellsSequence (front ++ 32 ∷ back) (first ∷ second ∷ rest)

-- a text spells a sequence of so many placements
pub record Spells (needed : ℕ) (text : List ℕ) (sequence : List Placement) : Type 0 where
  pub spelled : SpellsSequence text sequence
  pub count : length sequence ≡ needed

-- a text begins the text of some sequence of so many placements
pub record Begins (needed : ℕ) (front : List ℕ) : Type 0 where
  pub rest : List ℕ
  pub sequence : List Placement
  pub whole : Spells needed (front ++ rest) sequence

-- so many bytes are the longest front of a text that begins the text of some sequence of so many placements
pub record IsLongestFront (needed : ℕ) (text : List ℕ) (place : ℕ) : Type 0 where
  pub within : place ≤ length text
  pub begins : Begins needed (take place text)
  pub longest : (longer : ℕ) → place < longer → longer ≤ length text → Begins needed (take longer text) → ⊥

-- a text spells no sequence of so many placements, and its longest front that begins one has so many bytes
pub record IsRefusedAt (needed : ℕ) (text : List ℕ) (place : ℕ) : Type 0 where
  pub unspelled : (sequence : List Placement) → Spells needed text sequence → ⊥
  pub longest_front : IsLongestFront needed text place

-- The lines of the source: which texts spell which sequences, and which line has which fault.
use Rattle.std.specs.Prelude.{◌≡◌, ℕ, ◌+◌, ◌<◌, ◌≤◌, ◌⊎◌, All, List, [], ◌∷◌, ◌++◌, codes, length}
use Rattle.srs.specs.declared.placement.Placement.{Placement}
use Rattle.page_list.specs.ListReading.{lines_of}
use Rattle.sequence_text.specs.Form.{Spells}
use Rattle.pc_faults.specs.declared.cover_fault.CoverFault.{CoverFault}
use Rattle.pc_faults.specs.declared.cover_fault.CoverKind.{CoverKind}
use Rattle.pc_faults.specs.declared.cover_fault.CoverKind.TheVariants.{BadSequence, TooManySequences}

-- one to twenty decimal digits
pub record IsCount (text : List ℕ) : Type 0 where
  pub some : 0 < length text
  pub few : length text ≤ 20
  pub digits : All (λ byte. (48 ≤ byte) × (byte ≤ 57)) text

-- a name with its blank
abbrev pub IsName : List ℕ → Type 0
IsName name = (name ≡ codes "end ") ⊎ (name ≡ codes "limit ") ⊎ (name ≡ codes "floods ")

-- a line that `path` writes behind its sequences: `end`, `limit` or `floods`, a blank and a count
pub record IsTail (line : List ℕ) : Type 0 where
  pub name : List ℕ
  pub named : IsName name
  pub count : List ℕ
  pub counts : IsCount count
  pub joined : line ≡ name ++ count

-- these lines spell these sequences of so many placements, one each but for those that are passed over
pub data SpellsLines (needed : ℕ) : List (List ℕ) → List (List Placement) → Type 0 where
  none : SpellsLines needed [] []
  passed : {line : List ℕ} {lines : List (List ℕ)} {sequences : List (List Placement)} → IsTail line
      → SpellsLines needed lines sequences → SpellsLines needed (line ∷ lines) sequences
  more : {line : List ℕ} {lines : List (List ℕ)} {sequence : List Placement} {sequences : List (List Placement)}
      → (IsTail line → ⊥) → Spells needed line sequence → SpellsLines needed lines sequences
      → SpellsLines needed (line ∷ lines) (sequence ∷ sequences)

-- up to 100,000 sequences
pub record SpellsGiven (needed : ℕ) (text : List ℕ) (sequences : List (List Placement)) : Type 0 where
  pub most : length sequences ≤ 100000
  pub spelled : SpellsLines needed (lines_of text) sequences

-- behind 100,000 sequences a line that isn't passed over is too many, whatever it holds; else it spells no sequence
abbrev pub IsFaultOfLine : ℕ → ℕ → List ℕ → CoverKind → Type 0
IsFaultOfLine needed count line TooManySequences = count ≡ 100000
IsFaultOfLine needed count line BadSequence =
    (count < 100000) × ((sequence : List Placement) → Spells needed line sequence → ⊥)

-- lines that spell sequences stand before the first line with a fault, which is counted from 1
pub record IsGivenFault (needed : ℕ) (text : List ℕ) (fault : CoverFault) : Type 0 where
  pub before : List (List ℕ)
  pub sequences : List (List Placement)
  pub spelled : SpellsLines needed before sequences
  pub line : List ℕ
  pub behind : List (List ℕ)
  pub divided : lines_of text ≡ before ++ line ∷ behind
  pub taken : IsTail line → ⊥
  pub number : fault.line ≡ length before + 1
  pub kind : IsFaultOfLine needed (length sequences) line fault.kind

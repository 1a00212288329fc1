-- The four rotations in the order 0, R, 2, L, their letters and their neighbours.
use Rattle.std.specs.Prelude.{ℕ, ◌==◌, List, [], ◌∷◌, Option, find}
use Rattle.srs.specs.declared.rotation.Rotation.{Rotation}
use Rattle.srs.specs.declared.rotation.Rotation.TheVariants.{Spawn, Right, Reverse, Left}

-- all rotations, in their order
abbrev pub all_rotations : List Rotation
all_rotations = Spawn ∷ Right ∷ Reverse ∷ Left ∷ []

-- the index of a rotation in the order 0, R, 2, L
abbrev pub rotation_index : Rotation → ℕ
rotation_index Spawn = 0
rotation_index Right = 1
rotation_index Reverse = 2
rotation_index Left = 3

-- the letter `0`, `R`, `2` or `L`, as its ASCII code
abbrev pub rotation_letter : Rotation → ℕ
rotation_letter Spawn = 48
rotation_letter Right = 82
rotation_letter Reverse = 50
rotation_letter Left = 76

-- the rotation with this letter, if there is one
abbrev pub rotation_with_letter : ℕ → Option Rotation
rotation_with_letter byte = find (λ rotation. rotation_letter rotation == byte) all_rotations

-- a quarter turn clockwise
abbrev pub clockwise_of : Rotation → Rotation
clockwise_of Spawn = Right
clockwise_of Right = Reverse
clockwise_of Reverse = Left
clockwise_of Left = Spawn

-- a quarter turn anticlockwise
abbrev pub anticlockwise_of : Rotation → Rotation
anticlockwise_of Spawn = Left
anticlockwise_of Right = Spawn
anticlockwise_of Reverse = Right
anticlockwise_of Left = Reverse

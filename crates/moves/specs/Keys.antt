-- The keys and their letters, and which of them a drop mode allows.
use Rattle.std.specs.Prelude.{ℕ, Bool, true, false, List, [], ◌∷◌, ◌++◌, map}
use Rattle.moves.specs.declared.key.Key.{Key}
use Rattle.moves.specs.declared.key.Key.TheVariants.{Left, Right, Down, Clockwise, Anti}
use Rattle.moves.specs.declared.key.DropMode.{DropMode}
use Rattle.moves.specs.declared.key.DropMode.TheVariants.{Hard}

-- all keys, in the order of their letters
abbrev pub all_keys : List Key
all_keys = Left ∷ Right ∷ Down ∷ Clockwise ∷ Anti ∷ []

-- the letter L, R, D, C or A, as its ASCII code
abbrev pub key_letter : Key → ℕ
key_letter Left = 76
key_letter Right = 82
key_letter Down = 68
key_letter Clockwise = 67
key_letter Anti = 65

-- the letters of some keys, and `H` for the hard drop at the end
abbrev pub word_letters : List Key → List ℕ
word_letters keys = map key_letter keys ++ 72 ∷ []

-- with soft drop each key may be pressed, with hard drop each but Down
abbrev pub allows : DropMode → Key → Bool
allows Hard Down = false
allows _ _ = true

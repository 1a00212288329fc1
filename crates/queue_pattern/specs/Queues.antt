-- The queues that a list of elements stands for.
use Rattle.std.specs.Prelude.{ℕ, zero, suc, ◌-◌, ◌*◌, Bool, not, ◌==◌, List, [], ◌∷◌, ◌++◌, map, filter, length, sum_by}
use Rattle.std.specs.List.{flat_map}
use Rattle.std.specs.Int.{bit_at}
use Rattle.srs.specs.declared.piece.Piece.{Piece}
use Rattle.srs.specs.Piece.{all_pieces, piece_code}
use Rattle.queue_pattern.specs.declared.element.Element.{Element}

-- whether a set of pieces has this piece
abbrev pub is_in : Piece → ℕ → Bool
is_in piece set = bit_at set (piece_code piece - 1) == 1

-- the pieces of a set, in the order of their codes
unfoldable pub pieces_in : ℕ → List Piece
pieces_in set = filter (λ piece. is_in piece set) all_pieces

-- the pieces of a list other than this one
unfoldable pub others : Piece → List Piece → List Piece
others piece pieces = filter (λ p. not (piece_code p == piece_code piece)) pieces

-- the ordered choices of n different pieces of a list
unfoldable pub choices : List Piece → ℕ → List (List Piece)
choices pieces zero = [] ∷ []
choices pieces (suc n) = flat_map (λ piece. map (λ rest. piece ∷ rest) (choices (others piece pieces) n)) pieces

-- each choice for the first element, followed by each queue of the rest
unfoldable pub queues : List Element → List (List Piece)
queues [] = [] ∷ []
queues (element ∷ elements) =
    flat_map (λ choice. map (λ rest. choice ++ rest) (queues elements)) (choices (pieces_in element.set) element.chosen)

-- what may follow within an element: each choice of n of these pieces, followed by each queue of the elements after it
unfoldable pub tails : List Piece → ℕ → List Element → List (List Piece)
tails pieces n elements = flat_map (λ choice. map (λ rest. choice ++ rest) (queues elements)) (choices pieces n)

-- m * (m - 1) * .. * (m - n + 1)
unfoldable pub falling_factor : ℕ → ℕ → ℕ
falling_factor m zero = 1
falling_factor m (suc n) = m * falling_factor (m - 1) n

-- how many queues there are
unfoldable pub queue_count : List Element → ℕ
queue_count [] = 1
queue_count (element ∷ elements) = falling_factor (length (pieces_in element.set)) element.chosen * queue_count elements

-- how many pieces each queue has
abbrev pub queue_len : List Element → ℕ
queue_len elements = sum_by (λ element. element.chosen) elements

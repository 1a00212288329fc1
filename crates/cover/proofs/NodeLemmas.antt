-- The nodes below a node, by kind.
use Rattle.std.proofs.Common.{◌≡◌, ℕ, ◌-◌, [], ◌∷◌, get_or, set, ap, rules}
use Rattle.srs.specs.declared.piece.Piece.{Piece}
use Rattle.srs.specs.Piece.{piece_code}
use Rattle.cover.specs.declared.node.Node.{Node}
use Rattle.cover.specs.Nodes.{node_child, IsWith}

pub none-below : (node : Node) (kind : Piece) → node.below ≡ 0 ∷ 0 ∷ 0 ∷ 0 ∷ 0 ∷ 0 ∷ 0 ∷ [] → node_child node kind ≡ 0
unfolding node_child
none-below node kind zeros = search rules

pub child-read : (node : Node) (kind : Piece) (index : ℕ) → index ≡ piece_code kind - 1 → get_or node.below index 0 ≡ node_child node kind
unfolding node_child
child-read node kind index is = ap (λ n. get_or node.below n 0) is

pub child-with : (old new : Node) (kind : Piece) (number index : ℕ) → index ≡ piece_code kind - 1 → new.below ≡ set old.below index number → new.ends ≡ old.ends → IsWith old kind number new
unfolding node_child
child-with old new kind number index is below ends = search rules

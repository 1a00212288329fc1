-- Lists of kinds as a tree of nodes.
use Rattle.std.specs.Prelude.{◌≡◌, ℕ, ◌-◌, ◌<◌, ◌≤◌, Bool, false, ◌&&◌, ◌||◌, ◌==◌, nat_lt, List, [], ◌∷◌, length, Option, Some, None, slice_get, slice_index}
use Rattle.srs.specs.declared.piece.Piece.{Piece}
use Rattle.srs.specs.Piece.{piece_code}
use Rattle.cover.specs.declared.node.Node.{Node}

-- the node below a node for a kind, or 0
unfoldable pub node_child : Node → Piece → ℕ
node_child node kind = slice_index node.below (piece_code kind - 1)

abbrev pub child_of : Option Node → Piece → ℕ
child_of None kind = 0
child_of (Some node) kind = node_child node kind

abbrev pub ends_of : Option Node → Bool
ends_of None = false
ends_of (Some node) = node.ends

-- the same of the node with a number
unfoldable pub child : List Node → ℕ → Piece → ℕ
child nodes at kind = child_of (slice_get nodes at) kind

unfoldable pub has_end : List Node → ℕ → Bool
has_end nodes at = ends_of (slice_get nodes at)

-- a list of kinds leads down from a node to one at which a list ends
unfoldable pub spells : List Node → ℕ → List Piece → Bool
spells nodes at [] = has_end nodes at
spells nodes at (kind ∷ kinds) = nat_lt 0 (child nodes at kind) && spells nodes (child nodes at kind) kinds

-- kinds, the last one first, that lead from the first node to this one
abbrev pub LeadsTo : List Node → List Piece → ℕ → Type 0
LeadsTo nodes [] node = node ≡ 0
LeadsTo nodes (kind ∷ kinds) node =
    (at : ℕ) × LeadsTo nodes kinds at × (child nodes at kind ≡ node) × (0 < node)

-- there is a first node, and each node below another one comes later and is below that one alone, for one kind
pub record IsTree (nodes : List Node) : Type 0 where
  pub rooted : 0 < length nodes
  pub later : (at : ℕ) (kind : Piece) → 0 < child nodes at kind → at < child nodes at kind
  pub within : (at : ℕ) (kind : Piece) → child nodes at kind < length nodes
  pub one_above : (at other : ℕ) (kind second : Piece) → 0 < child nodes at kind
      → child nodes at kind ≡ child nodes other second → at ≡ other
  pub one_kind : (at other : ℕ) (kind second : Piece) → 0 < child nodes at kind
      → child nodes at kind ≡ child nodes other second → piece_code kind ≡ piece_code second

pub record IsBlank (node : Node) : Type 0 where
  pub none : (kind : Piece) → node_child node kind ≡ 0
  pub open_end : node.ends ≡ false

pub record IsWith (old : Node) (kind : Piece) (number : ℕ) (new : Node) : Type 0 where
  pub there : node_child new kind ≡ number
  pub others : (other : Piece) → (piece_code other == piece_code kind) ≡ false
      → node_child new other ≡ node_child old other
  pub same_end : new.ends ≡ old.ends

-- nodes at which no list ends may have come
pub record HasGrown (old new : List Node) : Type 0 where
  pub longer : length old ≤ length new
  pub kept : (at : ℕ) (kind : Piece) → 0 < child old at kind → child new at kind ≡ child old at kind
  pub spelled : (at : ℕ) (kinds : List Piece) → at < length old → spells new at kinds ≡ spells old at kinds

-- a list ends at one node more
pub record Ends (old new : List Node) (node : ℕ) : Type 0 where
  pub same : (at : ℕ) (kind : Piece) → child new at kind ≡ child old at kind
  pub ends : (at : ℕ) → has_end new at ≡ (has_end old at || at == node)
  pub long : length new ≡ length old

-- Looking for a list of a tree that can be taken from the pieces at hand, and how much of the queue that looks at.
use Rattle.std.specs.Prelude.{◌≡◌, ℕ, ◌+◌, ◌≤◌, ◌<◌, true, List, length}
use Rattle.srs.specs.declared.piece.Piece.{Piece}
use Rattle.hold_queue.specs.declared.hand.Hand.{Hand}
use Rattle.hold_queue.specs.declared.hold.Hold.{Hold}
use Rattle.hold_queue.specs.AtHand.{Takes}
use Rattle.hold_queue.specs.Hand.{HasSameFront, pieces_at}
use Rattle.cover.specs.declared.look.Look.{Look}
use Rattle.cover.specs.declared.look.Look.TheVariants.{Found, Missed}
use Rattle.cover.specs.declared.node.Node.{Node}
use Rattle.cover.specs.Nodes.{child, spells}

-- a list that ends below a node can be taken from these pieces
pub record TakesOne (nodes : List Node) (hold : Hold) (at : ℕ) (pieces : List Piece) : Type 0 where
  pub kinds : List Piece
  pub spelled : spells nodes at kinds ≡ true
  pub taken : Takes hold pieces kinds

-- for no queue with the same front can one be taken
pub record Misses (nodes : List Node) (hold : Hold) (at : ℕ) (queue : List Piece) (hand : Hand)
    (seen : ℕ) : Type 0 where
  pub later : hand.drawn ≤ seen
  pub few : seen ≤ length queue + 1
  pub none : (other : List Piece) → HasSameFront seen queue other → TakesOne nodes hold at (pieces_at other hand) → ⊥

abbrev pub Looks : List Node → Hold → ℕ → List Piece → Hand → Look → Type 0
Looks nodes hold at queue hand Found = TakesOne nodes hold at (pieces_at queue hand)
Looks nodes hold at queue hand (Missed seen) = Misses nodes hold at queue hand seen

-- the same where a piece was taken: of the node that it leads to, if there is one
pub record TakesBelow (nodes : List Node) (hold : Hold) (at : ℕ) (piece : Piece) (pieces : List Piece) : Type 0 where
  pub some : 0 < child nodes at piece
  pub below : TakesOne nodes hold (child nodes at piece) pieces

pub record MissesBelow (nodes : List Node) (hold : Hold) (at : ℕ) (piece : Piece) (queue : List Piece) (rest : Hand)
    (seen : ℕ) : Type 0 where
  pub later : rest.drawn ≤ seen
  pub few : seen ≤ length queue + 1
  pub none : (other : List Piece) → HasSameFront seen queue other
      → TakesBelow nodes hold at piece (pieces_at other rest) → ⊥

abbrev pub LooksBelow : List Node → Hold → ℕ → Piece → List Piece → Hand → Look → Type 0
LooksBelow nodes hold at piece queue rest Found = TakesBelow nodes hold at piece (pieces_at queue rest)
LooksBelow nodes hold at piece queue rest (Missed seen) = MissesBelow nodes hold at piece queue rest seen

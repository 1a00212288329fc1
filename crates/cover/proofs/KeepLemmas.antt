-- A tree has the kept lists after one more is kept.
use Rattle.std.proofs.Common.{◌≡◌, ℕ, List, reverse, ◌∙◌, rules}
use Rattle.lane_board.proofs.CallerLemmas.{same_from_both}
use Rattle.srs.specs.declared.piece.Piece.{Piece}
use Rattle.cover.specs.declared.node.Node.{Node}
use Rattle.cover.specs.Covered.{Keeps}
use Rattle.cover.specs.Lists.{has_kinds}
use Rattle.cover.specs.Nodes.{spells, Ends, HasGrown, IsTree, LeadsTo}
use Rattle.cover.proofs.KindLemmas.{has-item, has-old, has-only}
use Rattle.cover.proofs.WayLemmas.{spells-new, spells-only, spells-still}

-- the tree spells just these lists
pub record IsTreeOf (nodes : List Node) (lists : List (List Piece)) : Type 0 where
  pub each : (kinds : List Piece) → spells nodes 0 kinds ≡ has_kinds lists kinds

pub grown-of : (old new : List Node) (lists : List (List Piece)) → IsTree old → HasGrown old new → IsTreeOf old lists → IsTreeOf new lists
grown-of old new lists tree grows of = record { each = λ kinds. grows.spelled 0 kinds tree.rooted ∙ of.each kinds }

pub kept-of : (old new : List Node) (lists kept : List (List Piece)) (kinds : List Piece) (node : ℕ) → IsTree old → LeadsTo old (reverse kinds) node → Ends old new node → Keeps lists kept kinds
    → IsTreeOf old lists → IsTreeOf new kept
kept-of old new lists kept kinds node tree leads ends keeps of =
    search (rules, same_from_both, (spells-only old new kinds node tree leads ends), (has-old lists kept kinds), of.each, (has-item lists kept kinds keeps), (has-only lists kept kinds), (spells-still old new kinds node tree leads ends 0), (spells-new old new kinds node tree leads ends))

-- What contracts see of a set of kept lists: its problem, and its lists of kinds in the order of first sight.
use Rattle.std.specs.Prelude.{List, map}
use Rattle.srs.specs.declared.piece.Piece.{Piece}
use Rattle.problem.specs.declared.problem.Problem.{Problem}
use Rattle.cover.specs.declared.set.CoverSet.{CoverSet}
use Rattle.cover.specs.Lists.{listed_kinds}

unfoldable pub kept_problem : CoverSet → Problem
kept_problem set = set.problem

unfoldable pub lists_of : CoverSet → List (List Piece)
lists_of set = map listed_kinds set.lists.keys

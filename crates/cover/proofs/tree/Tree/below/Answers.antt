-- The node at an index.
use Rattle.std.proofs.Common.{rules}
use Rattle.std.proofs.lemmas.Option.{slice_get_read}
use Rattle.cover.specs.Tree.{nodes_of}
use Rattle.cover.proofs.GrownLemmas.{child-at}
use Rattle.cover.proofs.tree.Tree.below.Goals as goal

pub returns : goal.returns
unfolding nodes_of
returns c = search (rules, child-at, slice_get_read)

-- The node at an index.
use Rattle.std.proofs.Common.{rules}
use Rattle.std.proofs.lemmas.Option.{slice_get_read}
use Rattle.cover.specs.Tree.{nodes_of}
use Rattle.cover.proofs.GrownLemmas.{end-at}
use Rattle.cover.proofs.tree.Tree.ends.Goals as goal

pub returns : goal.returns
unfolding nodes_of
returns c = search (rules, end-at, slice_get_read)

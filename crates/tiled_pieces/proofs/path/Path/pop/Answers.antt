-- The last piece's index is free again.
use Rattle.std.proofs.Common.{rules}
use Rattle.std.proofs.lemmas.Bool.{cases_eq}
use Rattle.tiled_pieces.specs.Listings.{path_of}
use Rattle.tiled_pieces.proofs.PathLemmas.{none_to_take, nothing_there, one_fewer, put_elsewhere}
use Rattle.tiled_pieces.proofs.path.Path.pop.Goals as goal

pub returns-then-self-eq0 : goal.returns-then-self-eq0
unfolding path_of
returns-then-self-eq0 c = λ path last is. absurd (none_to_take c.args.self.now.tiling c.args.self.now.count path last c.if-self-eq0.true is)

pub invariant_of-self : goal.invariant_of-self
invariant_of-self c = search (rules, cases_eq, nothing_there, put_elsewhere)

pub returns : goal.returns
unfolding path_of
returns c = search (rules, one_fewer, put_elsewhere)

-- The test of a group, by its size and then by the characters still to come.
use Rattle.std.proofs.Common.{rules}
use Rattle.std.proofs.lemmas.Bool.{le-ltb, lt-ltb}
use Rattle.fumen_comment.specs.Part.{is_group}
use Rattle.fumen_comment.proofs.Packing.{taken}
use Rattle.fumen_comment.proofs.part.is_group.Goals as goal

pub returns-then-group-ge84934656 : goal.returns-then-group-ge84934656
unfolding is_group
returns-then-group-ge84934656 c = search (rules, le-ltb)

pub returns : goal.returns
unfolding is_group
returns c = search (rules, taken, lt-ltb)

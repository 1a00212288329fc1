-- What is found, waits and is marked belongs together; each turn takes one state that waits, and each mark adds one.
use Rattle.std.proofs.Common.{◌+◌, length}
use Rattle.std.specs.List.{count_by}
use Rattle.srs.specs.Rules.{table_of}
use Rattle.well.specs.Well.{filled}
use Rattle.key_path.specs.Marks.{is_unseen}
use Rattle.key_path.specs.Search.{IsFinding}
use Rattle.key_path.proofs.finder.Finder.word_from.Given as goal

abbrev pub invariant-loop-state : goal.invariant-loop-state
invariant-loop-state l = IsFinding (table_of l.rules) (filled l.states.well) l.drop_mode l.aim l.marks.marks l.self.waiting.items

abbrev pub decreases-loop-state : goal.decreases-loop-state
decreases-loop-state l = count_by is_unseen l.marks.marks + length l.self.waiting.items

-- While the keys are tried, each mark adds a state that waits.
use Rattle.std.proofs.Common.{◌≡◌, ◌+◌, length}
use Rattle.std.specs.List.{count_by}
use Rattle.srs.specs.Rules.{table_of}
use Rattle.well.specs.Well.{filled}
use Rattle.key_path.specs.Marks.{is_unseen}
use Rattle.key_path.specs.Search.{IsTrying}
use Rattle.key_path.proofs.finder.Finder.press_keys.Given as goal

abbrev pub invariant-loop-key : goal.invariant-loop-key
invariant-loop-key l =
    IsTrying (table_of l.rules) (filled l.states.well) l.drop_mode l.aim l.marks.marks l.self.waiting.items l.state l.key-index
    × (count_by is_unseen l.marks.marks + length l.self.waiting.items ≡ count_by is_unseen l.initial.marks.marks + length l.initial.self.waiting.items)

-- None of the options so far has the name.
use Rattle.std.proofs.Common.{◌≡◌, drop}
use Rattle.pc_words.specs.Options.{named_in}
use Rattle.pc_words.proofs.options.option_of.Given as goal

abbrev pub invariant-loop-option : goal.invariant-loop-option
invariant-loop-option l = named_in l.name (drop l.option-index l.option-items) ≡ named_in l.name l.option-items

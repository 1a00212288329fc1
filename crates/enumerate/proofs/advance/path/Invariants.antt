-- The path of the frames so far.
use Rattle.std.proofs.Common.{◌≡◌, ◌≤◌, take, length}
use Rattle.enumerate.specs.Frames.{path_of}
use Rattle.enumerate.proofs.advance.path.Given as goal

abbrev pub invariant-loop-frame : goal.invariant-loop-frame
invariant-loop-frame l = (l.sequence.items ≡ path_of (take l.frame-index l.frames)) × (length l.sequence.items ≤ l.frame-index)

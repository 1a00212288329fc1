-- What is still to be passed by at the last frame is what is left of the given sequence.
use Rattle.std.proofs.Common.{◌≡◌, ◌+◌, ◌<◌, IsTrue, [], suc, drop, take, length}
use Rattle.std.specs.Prelude.{slice_index_or}
use Rattle.reach.specs.FloodRules.{flood_table}
use Rattle.enumerate.specs.declared.frame.Frame.{Frame}
use Rattle.enumerate.specs.Counted.{CountsUp}
use Rattle.enumerate.specs.Events.{sought}
use Rattle.enumerate.specs.Frames.{has_room}
use Rattle.enumerate.specs.Setups.{state_of}
use Rattle.enumerate.specs.Seeks.{IsFresh, SkipsTo, sought_at}
use Rattle.enumerate.proofs.seek.seek.Given as goal

abbrev pub invariant-loop-target : goal.invariant-loop-target
invariant-loop-target g l = record {
  at : l.top ≡ l.target-index;
  within : l.top < 20;
  long : length l.frames ≡ 20;
  room : IsTrue (has_room 0 (take (l.top + 1) l.frames));
  fresh : (d : Frame) → IsFresh (flood_table l.rules) l.drop_mode (slice_index_or l.frames l.top d);
  skips : (d : Frame) → SkipsTo
      (sought (suc (slice_index_or l.initial.frames 0 d).setup.left) [] (state_of (flood_table l.rules) l.drop_mode (slice_index_or l.initial.frames 0 d).setup) l.given)
      (sought_at (flood_table l.rules) l.drop_mode l.frames l.top (drop l.target-index l.given) d) l.initial.steps l.steps;
  noted : CountsUp l.initial.notes.floods l.notes.floods l.initial.steps l.steps;
}

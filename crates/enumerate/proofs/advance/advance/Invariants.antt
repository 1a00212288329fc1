-- The tries so far found nothing, and each made the events to come fewer.
use Rattle.std.proofs.Common.{◌≡◌, ◌+◌, ◌≤◌, IsTrue, [], take, length}
use Rattle.reach.specs.FloodRules.{flood_table}
use Rattle.enumerate.specs.Counted.{CountsUp}
use Rattle.enumerate.specs.Events.{found, floods}
use Rattle.enumerate.specs.Frames.{has_room, stacked}
use Rattle.enumerate.proofs.advance.advance.Given as goal

abbrev pub invariant-loop-depth : goal.invariant-loop-depth
invariant-loop-depth g l = record {
  within : l.depth ≤ 20;
  room : IsTrue (has_room 0 (take l.depth l.frames));
  same : found (stacked (flood_table l.rules) l.drop_mode [] (take l.initial.depth l.initial.frames)) ≡ found (stacked (flood_table l.rules) l.drop_mode [] (take l.depth l.frames));
  counted : floods (stacked (flood_table l.rules) l.drop_mode [] (take l.initial.depth l.initial.frames)) + l.initial.steps ≡ floods (stacked (flood_table l.rules) l.drop_mode [] (take l.depth l.frames)) + l.steps;
  fewer : floods (stacked (flood_table l.rules) l.drop_mode [] (take l.depth l.frames)) ≤ floods (stacked (flood_table l.rules) l.drop_mode [] (take l.initial.depth l.initial.frames));
  noted : CountsUp l.initial.notes.floods l.notes.floods l.initial.steps l.steps;
}

abbrev pub decreases-loop-depth : goal.decreases-loop-depth
decreases-loop-depth g l = length (stacked (flood_table l.rules) l.drop_mode [] (take l.depth l.frames))

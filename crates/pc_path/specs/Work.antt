-- What `path` adds to the counter of floods.
use Rattle.std.specs.Prelude.{◌≡◌, ℕ, ◌+◌, ◌<◌, ◌≤◌, List, ◌++◌, length, take, drop, Option, None}
use Rattle.std.specs.List.{flat_map}
use Rattle.lane_board.specs.Field.{Field}
use Rattle.srs.specs.declared.placement.Placement.{Placement}
use Rattle.pc_outside.specs.Writes.{Grows}
use Rattle.problem.specs.declared.problem.Problem.{Problem}
use Rattle.enumerate.specs.declared.search.Search.{Search}
use Rattle.enumerate.specs.ViewOf.{after_given, solutions, view_of, work}
use Rattle.enumerate.specs.Work.{pairs}
use Rattle.pc_faults.specs.declared.status.Status.{Status}
use Rattle.pc_faults.specs.declared.status.Status.TheVariants.{Done, NoMemory, SinkFault}
use Rattle.pc_settings.specs.declared.format.Format.TheVariants.{Fumen}
use Rattle.pc_settings.specs.Request.{PathRequest}
use Rattle.pc_source.specs.Sink.{SinkChange}
use Rattle.pc_path.specs.Formats.{solution_form}
use Rattle.pc_path.specs.Output.{Listed}

-- A search of all queues for the solutions of a problem after a sequence that was given, which has made so many floods:
-- never more than the pairs of an unfinished live prefix and a kind that may come next.
pub record IsSearchOf (problem : Problem) (after : Option (List Placement)) (search : Search) (floods : ℕ)
    : Type 0 where
  pub same : (view_of search).problem ≡ problem
  pub all : (view_of search).queue ≡ None
  pub given : after_given search ≡ after
  pub made : work search ≡ floods
  pub bound : floods ≤ pairs problem None

-- the sink holds this text and maybe more behind what it held
pub record GrowsFrom (held holds : Option (List ℕ)) (text : List ℕ) : Type 0 where
  pub more : List ℕ
  pub grown : Grows held holds (text ++ more)

-- A write failed, or memory was wanting: so many sequences are written whole, at most one more was begun, and these are
-- left behind what was begun.
pub record StoppedBefore (line : List Placement → List ℕ) (sequences left : List (List Placement))
    (held holds : Option (List ℕ)) : Type 0 where
  pub whole : ℕ
  pub begun : ℕ
  pub some : whole ≤ begun
  pub close : begun ≤ whole + 1
  pub written : GrowsFrom held holds (flat_map line (take whole sequences))
  pub behind : left ≡ drop begun sequences

-- What a search would still list once the report has ended: what is behind the limit, or behind the sequence at which
-- a write failed or memory was wanting.
abbrev pub IsNotWritten : (line : List Placement → List ℕ) (limit : ℕ) (sequences : List (List Placement)) → SinkChange
    → Status → List (List Placement) → Type 0
IsNotWritten line limit sequences sink Done left = left ≡ drop limit sequences
IsNotWritten line limit sequences sink SinkFault left = StoppedBefore line sequences left sink.held sink.holds
IsNotWritten line limit sequences sink NoMemory left = StoppedBefore line sequences left sink.held sink.holds
IsNotWritten line limit sequences sink other left = ⊥

-- The floods about this field are those of one search, which would still list what is behind the limit, or behind the
-- sequence at which it stopped. They are all pairs where the report ended before the limit and no sequence was given.
-- Memory is wanting after a search was begun for fumen texts alone.
pub record IsListingWork (request : PathRequest) (F : Field) (sink : SinkChange) (status : Status) (floods : ℕ)
    : Type 0 where
  pub listed : Listed request F
  pub search : Search
  pub searched : IsSearchOf listed.problem listed.after search floods
  pub left : IsNotWritten (solution_form request.format request.keys listed.problem) request.limit
      listed.sequences sink status (solutions search)
  pub late : status ≡ NoMemory → request.format ≡ Fumen
  pub ended : status ≡ Done → listed.after ≡ None → length listed.sequences < request.limit
      → floods ≡ pairs listed.problem None

-- The first offset and those so far are written.
use Rattle.std.proofs.Common.{◌≡◌, ◌∷◌, ◌++◌, take}
use Rattle.std.specs.List.{flat_map}
use Rattle.srs.specs.Kick.{pair_of}
use Rattle.kick_file.specs.Form.{offset_form}
use Rattle.kick_file.proofs.printing.push_some_offsets.Given as goal

abbrev pub invariant-loop-offset : goal.invariant-loop-offset
invariant-loop-offset l = l.text.items ≡ l.initial.text.items ++ flat_map (λ offset. 47 ∷ offset_form (pair_of offset)) (take l.offset-index l.rest)

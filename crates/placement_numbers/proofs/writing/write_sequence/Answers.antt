-- Each turn writes the numbers of the next placement.
use Rattle.std.proofs.Common.{◌≡◌, ◌+◌, ◌-◌, ◌≤◌, ◌∙◌, ◌++◌, length, take, sym, ap, arith}
use Rattle.std.proofs.lemmas.List.{take_more}
use Rattle.placement_numbers.specs.Numbers.{sequence_numbers}
use Rattle.placement_numbers.proofs.OneMore.{more_left, more_written}
use Rattle.placement_numbers.proofs.writing.write_sequence.Goals as goal

pub loop-placement-preserved : goal.loop-placement-preserved
loop-placement-preserved c =
    let at = c.loop-placement.at in
    let index = c.loop-placement.placement-index in
    let bytes = c.loop-placement.bytes in
    let placements = c.args.placements.now in
    let front = take c.args.at c.args.bytes.now in
    let four : at + 4 - at ≡ 4 = omega arith in
    let room : at + 4 ≤ length bytes = omega (arith, c.requires, c.loop-placement.invariant.0, c.loop-placement.auto.bytes, c.loop-placement-test.true) in
    let is = c.copy_from_slice.ensures.after ∙ c.numbers_of.ensures in (
      omega (arith, c.loop-placement.invariant.0),
      more_written c.args.bytes.now bytes c.copy_from_slice.new.self at (at + 4 - at) four room _ is front (take index placements) c.loop-placement.invariant.1
          ∙ ap (λ done. front ++ sequence_numbers done) (sym (take_more placements index _ c.loop-placement-test.true)),
      more_left c.args.bytes.now bytes c.copy_from_slice.new.self at (at + 4 - at) four room _ is c.loop-placement.invariant.2,
    )

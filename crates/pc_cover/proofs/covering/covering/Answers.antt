-- One more sequence is looked at.
use Rattle.std.proofs.Common.{◌≡◌, ◌∙◌, ◌+◌, ◌++◌, ◌∷◌, ◌↔◌, [], IsTrue, length, map, take, sum_by, sym, ap, subst, arith, rules}
use Rattle.std.proofs.lemmas.List.{map_more, take_all}
use Rattle.problem.specs.Solution.{PlaysIn}
use Rattle.cover.specs.Kept.{lists_of}
use Rattle.pc_cover.specs.Covering.{KeepsKindsOf}
use Rattle.pc_cover.specs.Sequences.{listed_placements}
use Rattle.pc_cover.proofs.CoveringLemmas.{covered-list, kinds-added, size-front, size-more}
use Rattle.pc_cover.proofs.covering.covering.Goals as goal

pub loop-sequence-preserved : goal.loop-sequence-preserved
loop-sequence-preserved g c =
    let problem = c.args.problem.now in
    let sequences = c.args.sequences.now in
    let i = c.loop-sequence.sequence-index in
    let item = c.sequence-item.result in
    let before = map listed_placements (take i sequences) in
    let split : map listed_placements (take (i + 1) sequences) ≡ before ++ listed_placements item ∷ [] =
    map_more listed_placements sequences i item c.loop-sequence-test.true ∙ ap (λ s. before ++ listed_placements s ∷ []) (sym c.sequence-item.is) in
    let plays = subst (λ p. IsTrue c.in_ok-add.field-0 ↔ PlaysIn p (listed_placements item)) c.loop-sequence.invariant.0 c.in_ok-add.ensures.plays in (
      c.in_ok-add.ensures.problem ∙ c.loop-sequence.invariant.0,
      subst (KeepsKindsOf problem (lists_of c.add.new.self)) (sym split)
          (kinds-added problem (lists_of c.loop-sequence.set) (lists_of c.add.new.self) before (listed_placements item) c.loop-sequence.invariant.1 c.in_ok-add.field-0 plays c.in_ok-add.ensures.kept),
      omega (arith, c.loop-sequence.invariant.2, c.in_ok-add.ensures.counted),
      omega (arith, c.loop-sequence.invariant.3, c.in_ok-add.ensures.few, ap (sum_by length) split, size-more before (listed_placements item)),
    )

pub returns-clause-covered : goal.returns-clause-covered
returns-clause-covered g c =
    let sequences = c.args.sequences.now in
    let all : take c.loop-sequence.sequence-index sequences ≡ sequences = take_all c.loop-sequence.sequence-index sequences c.loop-sequence-test.false in
    covered-list c.permits_is_decided.ensures.queue c.args.problem.now (lists_of c.loop-sequence.set) (map listed_placements sequences)
    (subst (λ l. KeepsKindsOf c.args.problem.now (lists_of c.loop-sequence.set) (map listed_placements l)) all c.loop-sequence.invariant.1)

pub returns-clause-few : goal.returns-clause-few
returns-clause-few g c = search (rules, (take_all c.loop-sequence.sequence-index c.args.sequences.now c.loop-sequence-test.false))

pub returns-in_err-add-clause-few : goal.returns-in_err-add-clause-few
returns-in_err-add-clause-few g c =
    search (rules, (map_more listed_placements c.args.sequences.now c.loop-sequence.sequence-index c.sequence-item.result c.loop-sequence-test.true), (size-more (map listed_placements (take c.loop-sequence.sequence-index c.args.sequences.now)) (listed_placements c.sequence-item.result)), (size-front c.args.sequences.now (c.loop-sequence.sequence-index + 1)))

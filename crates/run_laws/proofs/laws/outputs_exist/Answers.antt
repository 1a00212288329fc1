-- What the laws of the crates below say gives each command its output.
use Rattle.run_laws.proofs.Outputs.{LawsBelow}
use Rattle.run_laws.proofs.OutputsOfWords.{has_output}
use Rattle.run_laws.proofs.laws.outputs_exist.Goals as goal

pub returns : goal.returns
returns c = λ words bytes floods none.
    let known : LawsBelow = record {
      tables = c.texts_are_read_as_they_spell.ensures;
      rows = c.texts_without_fault_are_rows.ensures;
      fields = c.fields_are_read_as_they_are_asked.ensures.there;
      patterns = c.texts_without_a_fault_have_a_pattern.ensures;
      lists = c.lists_exist.ensures;
      given = c.bad_after_is_at_the_longest_front.ensures.none;
      covered = c.covered_lists_exist.ensures;
      longest = c.longest_runs_exist.ensures;
      drawn = c.column_problems_are_fit.ensures.drawn;
      column = c.column_problems_are_fit.ensures.fit;
      good = c.good_is_decided.ensures;
    } in
    let has = has_output known words bytes floods none in
    (has.output, has.is)

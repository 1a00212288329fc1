-- Each turn is a lemma of the search.
use Rattle.std.proofs.Common.{[], ◌∷◌, Some, sym, ap, subst, ◌∙◌, rules}
use Rattle.std.proofs.lemmas.List.{length-append}
use Rattle.srs.specs.declared.placement.Placement.{Placement}
use Rattle.srs.specs.Rules.{table_of}
use Rattle.well.specs.Well.{filled}
use Rattle.circular_buffer.specs.Buffer.{Buffer}
use Rattle.key_path.specs.declared.marks.Mark.TheVariants.{Start}
use Rattle.key_path.specs.LeastKeyWord.{IsLeastKeyWord}
use Rattle.key_path.specs.Marks.{with_mark}
use Rattle.key_path.specs.Search.{LeadsBack}
use Rattle.key_path.proofs.FindLemmas.{pushed, finding_first, trying_first, none_found}
use Rattle.key_path.proofs.finder.Finder.word_from.Goals as goal

pub loop-state-init : goal.loop-state-init
loop-state-init c =
    search (rules, (finding_first (table_of c.args.rules.now) (filled c.args.states.now.well) c.args.drop_mode c.args.aim.now c.set.new.self.marks c.push_back.new.self.items c.requires.free c.requires.elsewhere (c.set.ensures ∙ (λ i. with_mark (c.new-marks.ensures i) (c.spawn-start.ensures i) Start))), (pushed c.clear.new.self c.push_back.new.self c.spawn-start.result c.push_back.ensures.items), (length-append c.clear.new.self.items (c.spawn-start.result ∷ [])), c.spawn-start.ensures)

pub press_keys-reached-requires-clause-trying : goal.press_keys-reached-requires-clause-trying
press_keys-reached-requires-clause-trying c =
    trying_first (table_of c.args.rules.now) (filled c.args.states.now.well) c.args.drop_mode c.args.aim.now c.loop-state.marks.marks c.loop-state.self.waiting.items c.pop_front.new.self.items c.in-Some.state
    (sym c.pop_front.ensures.value ∙ c.in-Some.is) (ap (λ (b : Buffer Placement). b.items) c.pop_front.ensures.items) c.loop-state.invariant

pub returns-in-Some-reached : goal.returns-in-Some-reached
returns-in-Some-reached c =
    let reached : LeadsBack (table_of c.args.rules.now) (filled c.args.states.now.well) c.args.drop_mode c.args.aim.now c.press_keys-reached.new.marks.marks c.in-Some-reached.reached = c.in-Some-reached.ensures.1 in
    subst (λ word. IsLeastKeyWord (table_of c.args.rules.now) (filled c.args.states.now.well) c.args.drop_mode c.args.aim.now (Some word)) (sym (c.word_to.ensures reached.traced)) (reached.least reached.traced)

pub returns : goal.returns
returns c =
    none_found (table_of c.args.rules.now) (filled c.args.states.now.well) c.args.drop_mode c.args.aim.now c.requires.free c.loop-state.marks.marks c.loop-state.self.waiting.items (sym c.pop_front.ensures.value ∙ c.in_default.is) c.loop-state.invariant

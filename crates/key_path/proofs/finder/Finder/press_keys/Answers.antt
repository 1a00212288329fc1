-- Each turn is a lemma of the search.
use Rattle.std.proofs.Common.{◌≡◌, ◌++◌, [], ◌∷◌, Some, List, length, sym, ap, subst, ◌∙◌, arith, rules}
use Rattle.std.proofs.lemmas.List.{length-append}
use Rattle.srs.specs.declared.placement.Placement.{Placement}
use Rattle.srs.specs.Rules.{table_of}
use Rattle.well.specs.Well.{filled}
use Rattle.well.proofs.CallerLemmas.{free_pivot_inside}
use Rattle.key_path.specs.Marks.{new_state}
use Rattle.key_path.specs.Search.{IsTrying}
use Rattle.key_path.proofs.WordLemmas.{key_at, key_index-at}
use Rattle.key_path.proofs.FindLemmas.{pushed, new_free, new_counts, finding_next, trying_free, trying_kind, trying_same, trying_new, new_fits, new_reached}
use Rattle.key_path.proofs.finder.Finder.press_keys.Goals as goal

pub new_state-requires-clause-kind : goal.new_state-requires-clause-kind
new_state-requires-clause-kind c =
    trying_kind (table_of c.args.rules.now) (filled c.args.states.now.well) c.args.drop_mode c.args.aim.now c.requires.free c.loop-key.marks.marks c.loop-key.self.waiting.items c.args.state.now c.loop-key.key-index c.loop-key.invariant.0
    ∙ sym c.requires.kind

pub new_state-requires-clause-free : goal.new_state-requires-clause-free
new_state-requires-clause-free c =
    trying_free (table_of c.args.rules.now) (filled c.args.states.now.well) c.args.drop_mode c.args.aim.now c.requires.free c.loop-key.marks.marks c.loop-key.self.waiting.items c.args.state.now c.loop-key.key-index c.loop-key.invariant.0

pub loop-key-preserved-in_default : goal.loop-key-preserved-in_default
loop-key-preserved-in_default c =
    search (rules, (trying_same (table_of c.args.rules.now) (filled c.args.states.now.well) c.args.drop_mode c.args.aim.now c.requires.free c.loop-key.marks.marks c.loop-key.self.waiting.items c.args.state.now c.loop-key.key-index (key_at c.loop-key.key-index) (key_index-at c.loop-key.key-index c.loop-key-test.true) (sym c.new_state.ensures ∙ c.in_default.is) c.loop-key.invariant.0))

pub set-requires : goal.set-requires
set-requires c =
    free_pivot_inside (filled c.args.states.now.well) c.in-Some.next
    (new_free (table_of c.args.rules.now) (filled c.args.states.now.well) c.args.drop_mode c.args.aim.now c.requires.free c.loop-key.marks.marks c.loop-key.self.waiting.items c.args.state.now c.loop-key.key-index (key_at c.loop-key.key-index) c.in-Some.next
    (sym c.new_state.ensures ∙ c.in-Some.is) c.loop-key.invariant.0).free

pub rests_on-requires-clause-kind : goal.rests_on-requires-clause-kind
rests_on-requires-clause-kind c =
    (new_free (table_of c.args.rules.now) (filled c.args.states.now.well) c.args.drop_mode c.args.aim.now c.requires.free c.loop-key.marks.marks c.loop-key.self.waiting.items c.args.state.now c.loop-key.key-index (key_at c.loop-key.key-index) c.in-Some.next
    (sym c.new_state.ensures ∙ c.in-Some.is) c.loop-key.invariant.0).kind

pub rests_on-requires-clause-free : goal.rests_on-requires-clause-free
rests_on-requires-clause-free c =
    (new_free (table_of c.args.rules.now) (filled c.args.states.now.well) c.args.drop_mode c.args.aim.now c.requires.free c.loop-key.marks.marks c.loop-key.self.waiting.items c.args.state.now c.loop-key.key-index (key_at c.loop-key.key-index) c.in-Some.next
    (sym c.new_state.ensures ∙ c.in-Some.is) c.loop-key.invariant.0).free

pub returns-then-rests_on : goal.returns-then-rests_on
returns-then-rests_on c = (
  free_pivot_inside (filled c.args.states.now.well) c.in-Some.next
      (new_free (table_of c.args.rules.now) (filled c.args.states.now.well) c.args.drop_mode c.args.aim.now c.requires.free c.loop-key.marks.marks c.loop-key.self.waiting.items c.args.state.now c.loop-key.key-index (key_at c.loop-key.key-index) c.in-Some.next
      (sym c.new_state.ensures ∙ c.in-Some.is) c.loop-key.invariant.0).free,
  new_reached (table_of c.args.rules.now) (filled c.args.states.now.well) c.args.drop_mode c.args.aim.now c.requires.free c.loop-key.marks.marks c.set.new.self.marks c.loop-key.self.waiting.items c.args.state.now c.loop-key.key-index (key_at c.loop-key.key-index) c.in-Some.next
      (key_index-at c.loop-key.key-index c.loop-key-test.true) (sym c.new_state.ensures ∙ c.in-Some.is) (sym c.rests_on.ensures ∙ c.if-rests_on.true) c.set.ensures c.loop-key.invariant.0,
)

pub loop-key-preserved : goal.loop-key-preserved
loop-key-preserved c =
    let found : new_state (table_of c.args.rules.now) (filled c.args.states.now.well) c.args.drop_mode c.loop-key.marks.marks c.args.state.now (key_at c.loop-key.key-index) ≡ Some c.in-Some.next = sym c.new_state.ensures ∙ c.in-Some.is in
    let fits = new_fits (table_of c.args.rules.now) (filled c.args.states.now.well) c.args.drop_mode c.args.aim.now c.loop-key.marks.marks c.loop-key.self.waiting.items c.args.state.now c.loop-key.key-index (key_at c.loop-key.key-index) c.in-Some.next found c.loop-key.invariant.0 in
    let waits : c.push_back.new.self.items ≡ c.loop-key.self.waiting.items ++ c.in-Some.next ∷ [] =
    pushed c.loop-key.self.waiting c.push_back.new.self c.in-Some.next c.push_back.ensures.items (omega (arith, fits, c.loop-key.self.room)) in
    let counts = new_counts (table_of c.args.rules.now) (filled c.args.states.now.well) c.args.drop_mode c.args.aim.now c.loop-key.marks.marks c.set.new.self.marks c.loop-key.self.waiting.items c.args.state.now c.loop-key.key-index (key_at c.loop-key.key-index) c.in-Some.next found c.set.ensures c.loop-key.invariant.0 in (
      trying_new (table_of c.args.rules.now) (filled c.args.states.now.well) c.args.drop_mode c.args.aim.now c.requires.free c.loop-key.marks.marks c.set.new.self.marks c.loop-key.self.waiting.items c.push_back.new.self.items c.args.state.now c.loop-key.key-index (key_at c.loop-key.key-index) c.in-Some.next
          (key_index-at c.loop-key.key-index c.loop-key-test.true) found (sym c.rests_on.ensures ∙ c.if-rests_on.false) c.set.ensures waits c.loop-key.invariant.0,
      omega (arith, c.loop-key.invariant.1, counts, ap (λ (xs : List Placement). length xs) waits, length-append c.loop-key.self.waiting.items (c.in-Some.next ∷ [])),
    )

pub returns : goal.returns
returns c =
    let all : c.loop-key.key-index ≡ 5 = omega (arith, c.loop-key-test.false, c.loop-key.auto.key-index-end) in (
      finding_next (table_of c.args.rules.now) (filled c.args.states.now.well) c.args.drop_mode c.args.aim.now c.loop-key.marks.marks c.loop-key.self.waiting.items c.args.state.now
          (subst (IsTrying (table_of c.args.rules.now) (filled c.args.states.now.well) c.args.drop_mode c.args.aim.now c.loop-key.marks.marks c.loop-key.self.waiting.items c.args.state.now) all c.loop-key.invariant.0),
      c.loop-key.invariant.1,
    )

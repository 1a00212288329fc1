-- Each answer is made of sets whose contracts say what they have.
use Rattle.std.proofs.Common.{◌≡◌, ◌<◌, ℕ, ◌-◌, ◌&&◌, ◌||◌, All, Bool, List, length, get_or, rules, true, ap, subst, ◌∙◌, sym, arith}
use Rattle.std.specs.Prelude.{IsPermutation, Option, Some, IfSome}
use Rattle.srs.specs.declared.piece.Piece.{Piece}
use Rattle.srs.specs.declared.piece.Piece.TheVariants.{I}
use Rattle.srs.specs.Piece.{all_pieces}
use Rattle.std.proofs.lemmas.List.Sorted.{length_permutation}
use Rattle.well.specs.Well.{filled}
use Rattle.hands.specs.Numbers.{has_number}
use Rattle.tails.specs.declared.tail_set.TailSet.{TailSet}
use Rattle.tails.specs.declared.tree.TailTree.{TailTree}
use Rattle.tails.specs.TailSets.{has}
use Rattle.tails.specs.Tails.{AreTails, hand_at}
use Rattle.percent.specs.declared.position.Child.{Child}
use Rattle.percent.specs.declared.game.Game.{Game}
use Rattle.percent.specs.Children.{IsChild}
use Rattle.percent.specs.declared.marks.Asked.{Asked}
use Rattle.percent.specs.declared.marks.Marks.{Marks}
use Rattle.percent.specs.ListedHands.{AreMarksOfTails, AreRestsOfTails, HasHands, IsAbout}
use Rattle.percent.specs.Marks.{IsStanding}
use Rattle.percent.specs.GoodHands.{is_good_after}
use Rattle.percent.specs.GoodTails.{is_good_tail, is_good_tail_after}
use Rattle.percent.specs.Children.{is_good_at}
use Rattle.std.proofs.lemmas.Result.{IfOk-weaker}
use Rattle.percent.proofs.GoodSteps.{answer-found, answer-known, answer-looked, answers-at, answers-same, asked-tails, explore-open, explore-step, found-good, good-ends, good-same, none-of, open-bad, try-all, try-ends, try-starts, try-step}
use Rattle.percent.proofs.RestLemmas.{asked-at, asked-hand, first-true, rests-at, rests-fewer}
use Rattle.percent.proofs.answered.+search.Goals as goal

-- what holds of a value that may be there holds of the one that is
some-holds : {T : Type 0} (o : Option T) (v : T) → o ≡ Some v → (P : T → Type 0) → IfSome o P → P v
some-holds o v is P holds = subst (λ o. IfSome o P) is holds

pub answered-returns-then-left-eq0-clause-members : goal.answered-returns-then-left-eq0-clause-members
answered-returns-then-left-eq0-clause-members g t c =
    let p = c.args.child.now.position in
    IfOk-weaker c.answered_at_end.result _ _ (λ v h tail. h tail ∙ ap (λ b. has c.args.tails.now tail && b) (sym (good-ends c.args.kept.now.tree c.args.kept.now.game (filled p.well) p.rows c.args.left tail c.if-left-eq0.true)))
    c.answered_at_end.ensures

pub answered-returns-then-is_empty-clause-members : goal.answered-returns-then-is_empty-clause-members
answered-returns-then-is_empty-clause-members g t c = λ tail.
    let p = c.args.child.now.position in
    c.none.ensures.none tail ∙ none-of c.args.tails.now (is_good_tail c.args.kept.now.tree c.args.kept.now.game (filled p.well) p.rows c.args.left) tail (c.is_empty.ensures.0 c.if-is_empty.true tail)

pub answered-returns-then-is_empty-2-clause-members : goal.answered-returns-then-is_empty-2-clause-members
answered-returns-then-is_empty-2-clause-members g t c =
    let p = c.args.child.now.position in
    let good : ℕ → Bool = is_good_tail c.args.kept.now.tree c.args.kept.now.game (filled p.well) p.rows c.args.left in
    answer-known c.in-Some.known c.in-Some.unknown c.args.tails.now good
    (some-holds c.in_ok-known.field-0 (c.in-Some.known, c.in-Some.unknown) c.in-Some.is
    (λ v. (tail : ℕ) → (has v.0 tail || (has v.1 tail && good tail)) ≡ (has c.args.tails.now tail && good tail)) c.in_ok-known.ensures.good)
    (c.is_empty-2.ensures.0 c.if-is_empty-2.true)

pub answered-returns-then-is_empty-3-clause-members : goal.answered-returns-then-is_empty-3-clause-members
answered-returns-then-is_empty-3-clause-members g t c =
    let p = c.args.child.now.position in
    let good : ℕ → Bool = is_good_tail c.args.kept.now.tree c.args.kept.now.game (filled p.well) p.rows c.args.left in
    answer-found c.in-Some.known c.in-Some.unknown c.in_ok-found.found c.args.tails.now good
    (some-holds c.in_ok-known.field-0 (c.in-Some.known, c.in-Some.unknown) c.in-Some.is
    (λ v. (tail : ℕ) → (has v.0 tail || (has v.1 tail && good tail)) ≡ (has c.args.tails.now tail && good tail)) c.in_ok-known.ensures.good)
    (c.is_empty-3.ensures.0 c.if-is_empty-3.true) c.in_ok-found.ensures.members

pub answered-returns-clause-members : goal.answered-returns-clause-members
answered-returns-clause-members g t c =
    let p = c.args.child.now.position in
    let good : ℕ → Bool = is_good_tail c.args.kept.now.tree c.args.kept.now.game (filled p.well) p.rows c.args.left in
    IfOk-weaker c.merged.result _ _
    (λ v h. answer-looked c.in-Some.known c.in-Some.unknown c.in_ok-found.found c.args.tails.now v good
    (some-holds c.in_ok-known.field-0 (c.in-Some.known, c.in-Some.unknown) c.in-Some.is
    (λ v. (tail : ℕ) → (has v.0 tail || (has v.1 tail && good tail)) ≡ (has c.args.tails.now tail && good tail)) c.in_ok-known.ensures.good)
    c.in_ok-found.ensures.members h)
    c.merged.ensures

pub searched-explored-requires : goal.searched-explored-requires
searched-explored-requires g t c =
    let link = c.in_ok-below.ensures.same_game ∙ sym c.in_ok-below.ensures.game in
    let lists = subst (λ tree. AreMarksOfTails tree c.in_ok-below.below c.args.left (has c.args.tails.now)) (sym c.in_ok-below.ensures.tree) c.in_ok-below.ensures.lists in
    search (rules, link, lists)

pub searched-keep-requires-clause-found_true : goal.searched-keep-requires-clause-found_true
searched-keep-requires-clause-found_true g t c = λ tail there.
    let p = c.args.child.now.position in
    let tree = c.args.kept.now.tree in
    let game = c.args.kept.now.game in
    let answers = answers-at tree game c.in_ok-below.below.position p c.args.left c.args.tails.now c.in_ok-good.good c.in_ok-good.bad c.in_ok-below.ensures.position
    (answers-same c.args.kept.now.tree _ c.args.kept.now.game _ _ _ _ _ _ _ c.in_ok-below.ensures.tree c.in_ok-below.ensures.same_game c.in_ok-good.ensures.answers) in
    good-same tree _ game _ (filled p.well) p.rows c.args.left tail (c.in_ok-good.ensures.tree ∙ c.in_ok-below.ensures.tree) (c.in_ok-good.ensures.game ∙ c.in_ok-below.ensures.same_game)
    ∙ found-good c.in_ok-good.good c.args.tails.now (is_good_tail tree game (filled p.well) p.rows c.args.left) answers.goods tail there

pub searched-keep-requires-clause-missed_true : goal.searched-keep-requires-clause-missed_true
searched-keep-requires-clause-missed_true g t c = λ tail there.
    let p = c.args.child.now.position in
    let tree = c.args.kept.now.tree in
    let game = c.args.kept.now.game in
    let answers = answers-at tree game c.in_ok-below.below.position p c.args.left c.args.tails.now c.in_ok-good.good c.in_ok-good.bad c.in_ok-below.ensures.position
    (answers-same c.args.kept.now.tree _ c.args.kept.now.game _ _ _ _ _ _ _ c.in_ok-below.ensures.tree c.in_ok-below.ensures.same_game c.in_ok-good.ensures.answers) in
    good-same tree _ game _ (filled p.well) p.rows c.args.left tail (c.in_ok-good.ensures.tree ∙ c.in_ok-below.ensures.tree) (c.in_ok-good.ensures.game ∙ c.in_ok-below.ensures.same_game)
    ∙ open-bad c.args.tails.now c.in_ok-good.bad (is_good_tail tree game (filled p.well) p.rows c.args.left) answers.bads tail there

pub searched-returns-clause-members : goal.searched-returns-clause-members
searched-returns-clause-members g t c =
    (answers-at c.args.kept.now.tree c.args.kept.now.game c.in_ok-below.below.position c.args.child.now.position c.args.left c.args.tails.now c.in_ok-good.good c.in_ok-good.bad
    c.in_ok-below.ensures.position
    (answers-same c.args.kept.now.tree _ c.args.kept.now.game _ _ _ _ _ _ _ c.in_ok-below.ensures.tree c.in_ok-below.ensures.same_game c.in_ok-good.ensures.answers)).goods

seven : (order : List Piece) → IsPermutation all_pieces order → length order ≡ 7
seven order same = length_permutation all_pieces order same

-- what is still open is of tails
pub missed-rests_of-requires : goal.missed-rests_of-requires
missed-rests_of-requires g t c =
    let p = c.args.marks.now.position in
    asked-tails c.wanted_first-order.result c.args.kept.now.tree c.loop-piece.kept.tree c.args.kept.now.game c.loop-piece.kept.game (filled p.well) p.rows (c.args.left - 1) c.args.tails
    c.loop-piece.open c.args.steps.now c.loop-piece.steps c.loop-piece.piece-index c.loop-piece.invariant c.requires.lists.are_tails

pub missed-not_leading_to-requires : goal.missed-not_leading_to-requires
missed-not_leading_to-requires g t c =
    let p = c.args.marks.now.position in
    subst (λ (tree : TailTree). AreTails tree (has c.loop-piece.open)) (sym c.in_ok-good.ensures.tree)
    (asked-tails c.wanted_first-order.result c.args.kept.now.tree c.loop-piece.kept.tree c.args.kept.now.game c.loop-piece.kept.game (filled p.well) p.rows (c.args.left - 1) c.args.tails
    c.loop-piece.open c.args.steps.now c.loop-piece.steps c.loop-piece.piece-index c.loop-piece.invariant c.requires.lists.are_tails)

pub missed-tried-requires : goal.missed-tried-requires
missed-tried-requires g t c =
    let marks = c.args.marks.now in
    let tree = c.loop-piece.kept.tree in
    let link = c.loop-piece.invariant.same ∙ c.requires.game in
    let lists = subst (λ (tree : TailTree). AreMarksOfTails tree marks c.args.left (has c.args.tails)) (sym c.loop-piece.invariant.same_tree) c.requires.lists in
    let rests = rests-at tree marks (get_or c.wanted_first-order.result c.loop-piece.piece-index I) c.args.left (has c.args.tails) (has c.loop-piece.open) (has c.in_ok-rests.rests)
    (c.loop-piece.kept.same_hold ∙ ap (λ (game : Game). game.hold) link)
    (λ tail. first-true (has c.loop-piece.open tail) (has c.args.tails tail) _ (c.loop-piece.invariant.members tail)) c.in_ok-rests.ensures c.requires.some lists in
    search (rules, link, rests)

pub missed-loop-piece-preserved : goal.missed-loop-piece-preserved
missed-loop-piece-preserved g t c =
    let p = c.args.marks.now.position in
    explore-step c.wanted_first-order.result c.args.kept.now.tree c.loop-piece.kept.tree c.tried.new.kept.tree c.args.kept.now.game c.loop-piece.kept.game c.tried.new.kept.game
    (filled p.well) p.rows (c.args.left - 1) c.args.tails c.loop-piece.open c.in_ok-rests.rests c.in_ok-good.good c.in_ok-open.open
    c.args.steps.now c.loop-piece.steps c.tried.new.steps c.loop-piece.piece-index _
    c.loop-piece.invariant (omega (arith, seven c.wanted_first-order.result c.wanted_first-order.ensures, c.loop-piece-test.true)) c.requires.lists.are_tails c.loop-piece.kept.same_hold
    c.in_ok-rests.ensures c.in_ok-good.ensures.members c.in_ok-good.ensures.game c.in_ok-good.ensures.tree c.in_ok-good.ensures.counted c.in_ok-open.ensures

pub missed-returns-clause-members : goal.missed-returns-clause-members
missed-returns-clause-members g t c =
    let p = c.args.marks.now.position in
    let order = c.wanted_first-order.result in
    explore-open order c.args.kept.now.tree c.loop-piece.kept.tree c.args.kept.now.game c.loop-piece.kept.game (filled p.well) p.rows c.args.left c.args.tails c.loop-piece.open
    c.args.steps.now c.loop-piece.steps c.loop-piece.piece-index
    c.requires.some c.wanted_first-order.ensures c.loop-piece.invariant (omega (arith, seven order c.wanted_first-order.ensures, c.loop-piece-test.false))

pub tried-returns-then-is_empty-clause-members : goal.tried-returns-then-is_empty-clause-members
tried-returns-then-is_empty-clause-members g t c = λ rest.
    let p = c.args.marks.now.position in
    c.none.ensures.none rest
    ∙ none-of c.args.rests.now (is_good_tail_after c.args.kept.now.tree c.args.kept.now.game (filled p.well) p.rows c.args.piece c.args.left) rest (c.is_empty.ensures.0 c.if-is_empty.true rest)

-- all rests are asked about at first
all-asked : (asked all rests : TailSet) → asked ≡ all → ((rest : ℕ) → has all rest ≡ has rests rest) → (rest : ℕ) → has asked rest ≡ has rests rest
all-asked asked all rests same copied rest = ap (λ (tails : TailSet). has tails rest) same ∙ copied rest

pub tried-asked-requires-clause-tails : goal.tried-asked-requires-clause-tails
tried-asked-requires-clause-tails g t c = λ rest there. c.requires.rests.are_tails rest (sym (c.in_ok-all.ensures rest) ∙ there)

pub tried-loop-child-init : goal.tried-loop-child-init
tried-loop-child-init g t c = (
  try-starts c.args.kept.now.tree c.args.kept.now.game c.args.left c.deref-child-items.result.now c.args.rests.now c.in_ok-asked.asked.rests c.args.steps.now c.children.new.steps
      (all-asked c.in_ok-asked.asked.rests c.in_ok-all.all c.args.rests.now c.in_ok-asked.ensures.rests c.in_ok-all.ensures) (omega (arith, c.in_ok-children.ensures.counted)),
  c.in_ok-asked.ensures.about,
  c.in_ok-asked.ensures.indexes,
  c.in_ok-asked.ensures.hands,
)

pub tried-children-requires-clause-asked : goal.tried-children-requires-clause-asked
tried-children-requires-clause-asked g t c =
    asked-at c.args.kept.now.tree c.args.marks.now c.args.piece c.args.left (has c.args.rests.now) c.in_ok-asked.asked c.in_ok-asked.ensures.about c.in_ok-asked.ensures.indexes c.in_ok-asked.ensures.hands
    (λ rest there. sym (all-asked c.in_ok-asked.asked.rests c.in_ok-all.all c.args.rests.now c.in_ok-asked.ensures.rests c.in_ok-all.ensures rest) ∙ there) c.requires.rests

-- what holds of all children holds of that of the iteration
holds_of : (P : Child → Type 0) (items children : List Child) (i : ℕ) (child : Child) → children ≡ items → All P items → i < length children → child ≡ get_or children i child → P child
holds_of P items children i child same all within is = subst P (sym is) (subst (All P) (sym same) all i child within)

pub tried-fitting_after-requires-clause-child : goal.tried-fitting_after-requires-clause-child
tried-fitting_after-requires-clause-child g t c =
    let marks = c.args.marks.now in
    subst (λ piece. IsChild marks.game marks.position piece c.child-item.result) (c.in_ok-asked.ensures.about.kind ∙ sym c.loop-child.invariant.1.kind)
    (holds_of (IsChild marks.game marks.position c.in_ok-asked.asked.piece) c.in_ok-children.children.items c.deref-child-items.result.now c.loop-child.child-index c.child-item.result
    c.deref-child-items.ensures.value c.in_ok-children.ensures.after c.loop-child-test.true c.child-item.is)

pub tried-fitting_after-requires-clause-standing : goal.tried-fitting_after-requires-clause-standing
tried-fitting_after-requires-clause-standing g t c =
    let marks = c.args.marks.now in
    holds_of (λ child. IsStanding marks.known.items marks.rows child.placement child.standing) c.in_ok-children.children.items c.deref-child-items.result.now c.loop-child.child-index c.child-item.result
    c.deref-child-items.ensures.value c.in_ok-children.ensures.standing c.loop-child-test.true c.child-item.is

-- the rests are those of the tree that is kept
rests-now : (tree tree_now : TailTree) (marks : Marks) (piece : Piece) (left : ℕ) (rests : ℕ → Bool) → tree_now ≡ tree → AreRestsOfTails tree marks piece left rests → AreRestsOfTails tree_now marks piece left rests
rests-now tree tree_now marks piece left rests same are = subst (λ (t : TailTree). AreRestsOfTails t marks piece left rests) (sym same) are

pub tried-fitting_after-requires-clause-asked : goal.tried-fitting_after-requires-clause-asked
tried-fitting_after-requires-clause-asked g t c =
    let rests = rests-now c.args.kept.now.tree c.loop-child.kept.tree c.args.marks.now c.args.piece c.args.left (has c.args.rests.now) c.loop-child.invariant.0.same_tree c.requires.rests in
    asked-at c.loop-child.kept.tree c.args.marks.now c.args.piece c.args.left (has c.args.rests.now) c.loop-child.asked c.loop-child.invariant.1 c.loop-child.invariant.2 c.loop-child.invariant.3
    (λ rest. first-true (has c.loop-child.asked.rests rest) (has c.args.rests.now rest) _ (c.loop-child.invariant.0.members rest)) rests

pub tried-answered-requires : goal.tried-answered-requires
tried-answered-requires g t c =
    let marks = c.args.marks.now in
    let tree = c.loop-child.kept.tree in
    let is = holds_of (IsChild marks.game marks.position c.in_ok-asked.asked.piece) c.in_ok-children.children.items c.deref-child-items.result.now c.loop-child.child-index c.child-item.result
    c.deref-child-items.ensures.value c.in_ok-children.ensures.after c.loop-child-test.true c.child-item.is in
    let child = subst (λ piece. IsChild marks.game marks.position piece c.child-item.result) (sym is.kind) is in
    let fits = c.in_ok-fit.ensures tree c.loop-child.invariant.3 in
    let rests = subst (λ piece. AreRestsOfTails tree marks piece c.args.left (has c.in_ok-fit.fit)) (sym (is.kind ∙ c.in_ok-asked.ensures.about.kind))
    (rests-fewer tree marks c.args.piece c.args.left (has c.in_ok-fit.fit) (has c.args.rests.now)
    (λ rest there. first-true (has c.loop-child.asked.rests rest) (has c.args.rests.now rest) _ (c.loop-child.invariant.0.members rest) (fits.fewer rest there))
    (rests-now c.args.kept.now.tree tree marks c.args.piece c.args.left (has c.args.rests.now) c.loop-child.invariant.0.same_tree c.requires.rests)) in
    let link = c.loop-child.invariant.0.same ∙ c.requires.game in
    search (rules, link, child, rests)

pub tried-less-requires-clause-hands : goal.tried-less-requires-clause-hands
tried-less-requires-clause-hands g t c = subst (λ (tree : TailTree). HasHands tree c.loop-child.asked) (sym c.in_ok-good.ensures.tree) c.loop-child.invariant.3

pub tried-less-requires-clause-tails : goal.tried-less-requires-clause-tails
tried-less-requires-clause-tails g t c =
    subst (λ (tree : TailTree). AreTails tree (has c.loop-child.asked.rests)) (sym (c.in_ok-good.ensures.tree ∙ c.loop-child.invariant.0.same_tree))
    (λ rest there. c.requires.rests.are_tails rest (first-true (has c.loop-child.asked.rests rest) (has c.args.rests.now rest) _ (c.loop-child.invariant.0.members rest) there))

pub tried-loop-child-preserved : goal.tried-loop-child-preserved
tried-loop-child-preserved g t c =
    let about = c.loop-child.invariant.1 in
    let tree = c.loop-child.kept.tree in
    let fits = c.in_ok-fit.ensures tree c.loop-child.invariant.3 in
    let p = c.child-item.result.position in (
      try-step c.args.kept.now.tree tree c.answered.new.kept.tree c.args.kept.now.game c.loop-child.kept.game c.answered.new.kept.game c.args.left c.deref-child-items.result.now c.args.rests.now
          c.loop-child.asked.rests c.in_ok-good.good c.in_ok-asked-2.asked.rests
          c.args.steps.now c.loop-child.steps c.answered.new.steps c.loop-child.child-index c.child-item.result
          c.loop-child.invariant.0 c.loop-child-test.true (sym c.child-item.is)
          (λ rest. c.in_ok-good.ensures.members rest
          ∙ subst (λ (game : Game). (has c.in_ok-fit.fit rest && is_good_tail tree game (filled p.well) p.rows c.args.left rest)
          ≡ (has c.loop-child.asked.rests rest && is_good_tail tree game (filled p.well) p.rows c.args.left rest))
          (sym (c.loop-child.invariant.0.same ∙ c.requires.game))
          (subst (λ left. (has c.in_ok-fit.fit rest && is_good_tail tree c.args.marks.now.game (filled p.well) p.rows left rest)
          ≡ (has c.loop-child.asked.rests rest && is_good_tail tree c.args.marks.now.game (filled p.well) p.rows left rest)) about.to_come (fits.same rest)))
          c.in_ok-good.ensures.game c.in_ok-good.ensures.tree c.in_ok-good.ensures.counted c.in_ok-asked-2.ensures.members,
      record { kind = c.in_ok-asked-2.ensures.about.kind ∙ about.kind; to_come = c.in_ok-asked-2.ensures.about.to_come ∙ about.to_come },
      c.in_ok-asked-2.ensures.indexes,
      c.in_ok-asked-2.ensures.hands,
    )

-- what is said of the hands of the rests asked about at first is said of those of all
children-are : (tree : TailTree) (children items : List Child) (asked : Asked) (rests : TailSet) (good : Piece → ℕ → ℕ → Bool) (game : Game) (piece : Piece) (left : ℕ)
    → IsAbout piece left asked → HasHands tree asked → items ≡ children → ((rest : ℕ) → has asked.rests rest ≡ has rests rest)
    → ((hand : ℕ) → has_number asked.hands.items hand ≡ true → is_good_at game children asked.left hand ≡ good asked.piece asked.left hand)
    → (rest : ℕ) → has rests rest ≡ true → is_good_at game items left (hand_at tree rest) ≡ good piece left (hand_at tree rest)
children-are tree children items asked rests good game piece left about hands same all are rest there =
    let hand = hand_at tree rest in
    subst (λ n. is_good_at game items n hand ≡ good piece n hand) about.to_come
    (subst (λ p. is_good_at game items asked.left hand ≡ good p asked.left hand) about.kind
    (ap (λ l. is_good_at game l asked.left hand) same ∙ are hand (asked-hand tree asked hands rest (all rest ∙ there))))

pub tried-returns-then-is_empty-2-clause-members : goal.tried-returns-then-is_empty-2-clause-members
tried-returns-then-is_empty-2-clause-members g t c =
    let p = c.args.marks.now.position in
    let tree = c.args.kept.now.tree in
    let all = all-asked c.in_ok-asked.asked.rests c.in_ok-all.all c.args.rests.now c.in_ok-asked.ensures.rests c.in_ok-all.ensures in
    IfOk-weaker c.copied-then-is_empty-2.result _ _
    (λ v h rest. h rest
    ∙ try-all tree c.loop-child.kept.tree c.args.kept.now.game c.loop-child.kept.game (filled p.well) p.rows c.args.piece c.args.left c.deref-child-items.result.now c.args.rests.now c.loop-child.asked.rests
    c.args.steps.now c.loop-child.steps c.loop-child.child-index c.loop-child.invariant.0 (c.is_empty-in-loop-child.ensures.0 c.if-is_empty-2.true)
    (children-are tree c.in_ok-children.children.items c.deref-child-items.result.now c.in_ok-asked.asked c.args.rests.now (is_good_after c.args.kept.now.game (filled p.well) p.rows)
    c.args.kept.now.game c.args.piece c.args.left c.in_ok-asked.ensures.about c.in_ok-asked.ensures.hands c.deref-child-items.ensures.value all c.in_ok-children.ensures.good)
    rest)
    c.copied-then-is_empty-2.ensures

pub tried-returns-clause-members : goal.tried-returns-clause-members
tried-returns-clause-members g t c =
    let p = c.args.marks.now.position in
    let tree = c.args.kept.now.tree in
    let all = all-asked c.in_ok-asked.asked.rests c.in_ok-all.all c.args.rests.now c.in_ok-asked.ensures.rests c.in_ok-all.ensures in
    IfOk-weaker c.without.result _ _
    (λ v h. try-ends tree c.loop-child.kept.tree c.args.kept.now.game c.loop-child.kept.game (filled p.well) p.rows c.args.piece c.args.left c.deref-child-items.result.now c.args.rests.now c.loop-child.asked.rests v
    c.args.steps.now c.loop-child.steps c.loop-child.child-index c.loop-child.invariant.0 c.loop-child-test.false
    (children-are tree c.in_ok-children.children.items c.deref-child-items.result.now c.in_ok-asked.asked c.args.rests.now (is_good_after c.args.kept.now.game (filled p.well) p.rows)
    c.args.kept.now.game c.args.piece c.args.left c.in_ok-asked.ensures.about c.in_ok-asked.ensures.hands c.deref-child-items.ensures.value all c.in_ok-children.ensures.good)
    h)
    c.without.ensures

-- The steps of looking into tails, as facts about what sets have.
use Rattle.std.proofs.Common.{ℕ, suc, ◌≡◌, ◌+◌, ◌-◌, ◌<◌, ◌≤◌, Bool, true, false, not, ◌&&◌, ◌||◌, ◌==◌, List, length, get_or, take, drop, refl, ap, subst, ◌∙◌, sym, inl, inr, arith, rules}
use Rattle.std.specs.List.{list_any}
use Rattle.std.specs.Prelude.{IsPermutation}
use Rattle.std.proofs.lemmas.List.Sorted.{list_any-IsPermutation}
use Rattle.std.proofs.lemmas.List.{take_all, take-append-drop}
use Rattle.std.proofs.lemmas.List.Folds.{list_any-append, list_any_more}
use Rattle.std.proofs.lemmas.Bool.{and_from, cases_Bool, eq-eqb, eqb-true, not-false, or_left, or_right}
use Rattle.lane_board.specs.Field.{Field}
use Rattle.srs.specs.declared.piece.Piece.{Piece}
use Rattle.srs.specs.Piece.{all_pieces, piece_code}
use Rattle.srs.proofs.CallerLemmas.{piece_code-some}
use Rattle.well.specs.Well.{filled}
use Rattle.hands.specs.Hands.{takes}
use Rattle.tails.specs.declared.tail_set.TailSet.{TailSet}
use Rattle.tails.specs.declared.tree.TailTree.{TailTree}
use Rattle.tails.specs.TailSets.{AreRests, has}
use Rattle.tails.specs.Tails.{AreTails, behind_letter, hand_at, leads, letter_at}
use Rattle.tails.specs.Numbers.{held_of}
use Rattle.tails.proofs.CallerLemmas.{hand-leads, or_false}
use Rattle.percent.specs.declared.game.Game.{Game}
use Rattle.percent.specs.declared.position.Child.{Child}
use Rattle.percent.specs.declared.position.Position.{Position}
use Rattle.percent.specs.GoodHands.{is_good, is_good_after}
use Rattle.percent.specs.GoodTails.{is_good_tail, is_good_tail_after}
use Rattle.percent.specs.Children.{is_good_at}
use Rattle.percent.specs.Kept.{AreAnswered}
use Rattle.percent.proofs.GoodLemmas.{good-step}

and_same : (a b c : Bool) → (a ≡ true → b ≡ c) → (a && b) ≡ (a && c)
and_same a b c same = search rules

-- taking so that one test passes, or another that agrees where it is asked
leads-same : (tree : TailTree) (code tail : ℕ) (f g : ℕ → Bool)
    → (held_of tail ≡ code → f (behind_letter tree tail (letter_at tree tail)) ≡ g (behind_letter tree tail (letter_at tree tail)))
    → (letter_at tree tail ≡ code → f (behind_letter tree tail (held_of tail)) ≡ g (behind_letter tree tail (held_of tail)))
    → leads tree code f tail ≡ leads tree code g tail
unfolding leads
leads-same tree code tail f g held drawn = search (rules, and_same, eqb-true)

-- the rest behind the held piece, and that behind the first that is drawn
leads-held : (tree : TailTree) (code tail : ℕ) → held_of tail ≡ code
    → leads tree code (λ rest. rest == behind_letter tree tail (letter_at tree tail)) tail ≡ true
unfolding leads
leads-held tree code tail is =
    let rest = behind_letter tree tail (letter_at tree tail) in
    or_left (held_of tail == code && rest == rest) _ (and_from _ _ (eq-eqb (held_of tail) code is) (eq-eqb rest rest refl))

leads-drawn : (tree : TailTree) (code tail : ℕ) → letter_at tree tail ≡ code
    → leads tree code (λ rest. rest == behind_letter tree tail (held_of tail)) tail ≡ true
unfolding leads
leads-drawn tree code tail is =
    let rest = behind_letter tree tail (held_of tail) in
    or_right (held_of tail == code && behind_letter tree tail (letter_at tree tail) == rest) _
    (and_from _ _ (eq-eqb (letter_at tree tail) code is) (eq-eqb rest rest refl))

-- the rests of a tail that is asked about are asked about, so the answer for them is that for the tail
answer-taken : (tree : TailTree) (code : ℕ) (asked rests good after : ℕ → Bool) (tail : ℕ) → asked tail ≡ true
    → AreRests tree code asked rests → ((rest : ℕ) → good rest ≡ (rests rest && after rest))
    → leads tree code good tail ≡ leads tree code after tail
answer-taken tree code asked rests good after tail there are good_is =
    leads-same tree code tail good after
    (λ is. agrees (behind_letter tree tail (letter_at tree tail)) (leads-held tree code tail is))
    (λ is. agrees (behind_letter tree tail (held_of tail)) (leads-drawn tree code tail is))
  where
    agrees : (rest : ℕ) → leads tree code (λ other. other == rest) tail ≡ true → good rest ≡ after rest
    agrees rest led = good_is rest ∙ ap (λ b. b && after rest) (are.all tail rest there led)

-- and so it is that for the hand of the tail
answer-hand : (tree : TailTree) (game : Game) (F : Field) (rows left : ℕ) (piece : Piece) (asked rests good : ℕ → Bool) (tail : ℕ) → asked tail ≡ true
    → AreTails tree asked → tree.hold ≡ game.hold → AreRests tree (piece_code piece) asked rests
    → ((rest : ℕ) → good rest ≡ (rests rest && is_good_tail_after tree game F rows piece left rest))
    → leads tree (piece_code piece) good tail ≡ takes game.hold (piece_code piece) (is_good_after game F rows piece left) (hand_at tree tail)
unfolding is_good_tail_after
answer-hand tree game F rows left piece asked rests good tail there tails hold are good_is =
    answer-taken tree (piece_code piece) asked rests good (λ rest. is_good_after game F rows piece left (hand_at tree rest)) tail there are good_is
    ∙ sym (hand-leads tree tail (piece_code piece) (is_good_after game F rows piece left) (tails tail there) (piece_code-some piece))
    ∙ ap (λ h. takes h (piece_code piece) (is_good_after game F rows piece left) (hand_at tree tail)) hold

-- ---- one kind after the other

-- the tails for which none of the first i kinds leads to a good rest are still asked about
pub record Exploring (order : List Piece) (tree tree_now : TailTree) (game now : Game) (F : Field) (rows left : ℕ) (tails asked : TailSet) (before after : ℕ) (i : ℕ) : Type 0 where
  pub same : now ≡ game
  pub same_tree : tree_now ≡ tree
  pub counted : before ≤ after
  pub members : (tail : ℕ) → has asked tail ≡ (has tails tail
      && not (list_any (λ piece. takes game.hold (piece_code piece) (is_good_after game F rows piece left) (hand_at tree tail)) (take i order)))

not_none : (a : Bool) → a ≡ (a && not false)
not_none a = search rules

ask_less : (w a t u : Bool) → ((w && not a) ≡ true → t ≡ u) → ((w && not a) && not t) ≡ (w && not (a || u))
ask_less w a t u same = search rules

first_true : (a b c : Bool) → a ≡ (b && c) → a ≡ true → b ≡ true
first_true a b c is there = search rules

-- what is still asked about is of tails
pub asked-tails : (order : List Piece) (tree tree_now : TailTree) (game now : Game) (F : Field) (rows left : ℕ) (tails asked : TailSet) (before after i : ℕ)
    → Exploring order tree tree_now game now F rows left tails asked before after i → AreTails tree (has tails) → AreTails tree_now (has asked)
asked-tails order tree tree_now game now F rows left tails asked before after i state are =
    subst (λ (t : TailTree). AreTails t (has asked)) (sym state.same_tree)
    (λ tail there. are tail (first_true (has asked tail) (has tails tail) _ (state.members tail) there))

pub explore-step : (order : List Piece) (tree tree_now tree_next : TailTree) (game now next_game : Game) (F : Field) (rows left : ℕ) (tails asked rests good next : TailSet) (before middle after i : ℕ) (d : Piece)
    → Exploring order tree tree_now game now F rows left tails asked before middle i → i < length order
    → AreTails tree (has tails) → tree_now.hold ≡ now.hold
    → AreRests tree_now (piece_code (get_or order i d)) (has asked) (has rests)
    → ((rest : ℕ) → has good rest ≡ (has rests rest && is_good_tail_after tree_now now F rows (get_or order i d) left rest))
    → next_game ≡ now → tree_next ≡ tree_now → middle ≤ after
    → ((tail : ℕ) → has next tail ≡ (has asked tail && not (leads tree_next (piece_code (get_or order i d)) (has good) tail)))
    → Exploring order tree tree_next game next_game F rows left tails next before after (i + 1)
explore-step order tree tree_now tree_next game now next_game F rows left tails asked rests good next before middle after i d state within are hold rests_are good_is same same_tree later next_is =
    record {
      same = same ∙ state.same;
      same_tree = same_tree ∙ state.same_tree;
      counted = omega (arith, state.counted, later);
      members = members;
    }
  where
    piece : Piece
    piece = get_or order i d

    test : ℕ → Piece → Bool
    test tail p = takes game.hold (piece_code p) (is_good_after game F rows p left) (hand_at tree tail)

    asked_are : AreTails tree_now (has asked)
    asked_are = asked-tails order tree tree_now game now F rows left tails asked before middle i state are

    answer : (tail : ℕ) → has asked tail ≡ true → leads tree_next (piece_code piece) (has good) tail ≡ test tail piece
    answer tail there =
        ap (λ (t : TailTree). leads t (piece_code piece) (has good) tail) same_tree
        ∙ answer-hand tree_now now F rows left piece (has asked) (has rests) (has good) tail there asked_are hold rests_are good_is
        ∙ ap (λ (g : Game). takes g.hold (piece_code piece) (is_good_after g F rows piece left) (hand_at tree_now tail)) state.same
        ∙ ap (λ (t : TailTree). takes game.hold (piece_code piece) (is_good_after game F rows piece left) (hand_at t tail)) state.same_tree

    members : (tail : ℕ) → has next tail ≡ (has tails tail && not (list_any (test tail) (take (i + 1) order)))
    members tail =
        let led = leads tree_next (piece_code piece) (has good) tail in
        next_is tail ∙ ap (λ b. b && not led) (state.members tail)
        ∙ ask_less (has tails tail) (list_any (test tail) (take i order)) led (test tail piece) (λ there. answer tail (state.members tail ∙ there))
        ∙ ap (λ b. has tails tail && not b) (sym (list_any_more (test tail) order i d within))

taken_back : (w a : Bool) → (w && not (w && not a)) ≡ (w && a)
taken_back w a = search rules

-- all kinds, in whatever order
all_tried : (order : List Piece) (game : Game) (F : Field) (rows left i : ℕ) → 1 ≤ left → IsPermutation all_pieces order → length order ≤ i
    → (hand : ℕ) → list_any (λ piece. takes game.hold (piece_code piece) (is_good_after game F rows piece (left - 1)) hand) (take i order) ≡ is_good game F rows left hand
all_tried order game F rows left i some same all hand =
    let test : Piece → Bool = λ piece. takes game.hold (piece_code piece) (is_good_after game F rows piece (left - 1)) hand in
    let one : left ≡ suc (left - 1) = omega (arith, some) in
    ap (list_any test) (take_all i order all) ∙ sym (list_any-IsPermutation test all_pieces order same) ∙ sym (good-step game F rows (left - 1) hand) ∙ ap (λ n. is_good game F rows n hand) (sym one)

-- the tails that are still open are those that aren't good
pub explore-open : (order : List Piece) (tree tree_now : TailTree) (game now : Game) (F : Field) (rows left : ℕ) (tails asked : TailSet) (before after i : ℕ) → 1 ≤ left → IsPermutation all_pieces order
    → Exploring order tree tree_now game now F rows (left - 1) tails asked before after i → length order ≤ i
    → (tail : ℕ) → has asked tail ≡ (has tails tail && not (is_good_tail tree game F rows left tail))
unfolding is_good_tail
explore-open order tree tree_now game now F rows left tails asked before after i some same state all tail =
    state.members tail ∙ ap (λ b. has tails tail && not b) (all_tried order game F rows left i some same all (hand_at tree tail))

not_second : (w t : Bool) → (w && not t) ≡ true → t ≡ false
not_second w t there = search rules

pub open-bad : (tails asked : TailSet) (good : ℕ → Bool) → ((tail : ℕ) → has asked tail ≡ (has tails tail && not (good tail))) → (tail : ℕ) → has asked tail ≡ true → good tail ≡ false
open-bad tails asked good asked_is tail there = not_second (has tails tail) (good tail) (sym (asked_is tail) ∙ there)

-- the same tail of the same tree in the same game
pub good-same : (tree tree_now : TailTree) (game now : Game) (F : Field) (rows left tail : ℕ) → tree_now ≡ tree → now ≡ game
    → is_good_tail tree_now now F rows left tail ≡ is_good_tail tree game F rows left tail
good-same tree tree_now game now F rows left tail same_tree same = λ i. is_good_tail (same_tree i) (same i) F rows left tail

-- the answers with a tree and rules are those with the same ones
pub answers-same : (tree other : TailTree) (game same : Game) (F : Field) (rows left : ℕ) (tails good bad : TailSet) → other ≡ tree → same ≡ game
    → AreAnswered other same F rows left tails good bad → AreAnswered tree game F rows left tails good bad
answers-same tree other game same F rows left tails good bad tree_is game_is are =
    subst (λ t. AreAnswered t game F rows left tails good bad) tree_is (subst (λ g. AreAnswered other g F rows left tails good bad) game_is are)

-- the answers at a position are those at one that is the same
pub answers-at : (tree : TailTree) (game : Game) (p q : Position) (left : ℕ) (tails good bad : TailSet) → p ≡ q
    → AreAnswered tree game (filled p.well) p.rows left tails good bad → AreAnswered tree game (filled q.well) q.rows left tails good bad
answers-at tree game p q left tails good bad at answers = subst (λ (p : Position). AreAnswered tree game (filled p.well) p.rows left tails good bad) at answers

-- ---- one child after the other

-- the rests that are good at none of the first i children are still asked about
pub record Trying (tree tree_now : TailTree) (game now : Game) (left : ℕ) (children : List Child) (rests asked : TailSet) (before after : ℕ) (i : ℕ) : Type 0 where
  pub same : now ≡ game
  pub same_tree : tree_now ≡ tree
  pub counted : before ≤ after
  pub members : (rest : ℕ) → has asked rest ≡ (has rests rest && not (is_good_at game (take i children) left (hand_at tree rest)))

pub try-starts : (tree : TailTree) (game : Game) (left : ℕ) (children : List Child) (rests asked : TailSet) (before after : ℕ) → ((rest : ℕ) → has asked rest ≡ has rests rest) → before ≤ after
    → Trying tree tree game game left children rests asked before after 0
unfolding is_good_at
try-starts tree game left children rests asked before after same more = search (rules, not_none)

and_again : (w a g : Bool) → ((w && not a) && not ((w && not a) && g)) ≡ (w && not (a || g))
and_again w a g = search rules

pub try-step : (tree tree_now tree_next : TailTree) (game now next_game : Game) (left : ℕ) (children : List Child) (rests asked good next : TailSet) (before middle after i : ℕ) (child : Child)
    → Trying tree tree_now game now left children rests asked before middle i → i < length children → get_or children i child ≡ child
    → ((rest : ℕ) → has good rest ≡ (has asked rest && is_good_tail tree_now now (filled child.position.well) child.position.rows left rest))
    → next_game ≡ now → tree_next ≡ tree_now → middle ≤ after
    → ((rest : ℕ) → has next rest ≡ (has asked rest && not (has good rest)))
    → Trying tree tree_next game next_game left children rests next before after (i + 1)
unfolding is_good_at is_good_tail
try-step tree tree_now tree_next game now next_game left children rests asked good next before middle after i child state within at good_is same same_tree later next_is = record {
  same = same ∙ state.same;
  same_tree = same_tree ∙ state.same_tree;
  counted = omega (arith, state.counted, later);
  members = λ rest.
      let test : Child → Bool = λ child. is_good game (filled child.position.well) child.position.rows left (hand_at tree rest) in
      let here : is_good now (filled child.position.well) child.position.rows left (hand_at tree_now rest) ≡ test child =
      ap (λ (g : Game). is_good g (filled child.position.well) child.position.rows left (hand_at tree_now rest)) state.same
      ∙ ap (λ (t : TailTree). is_good game (filled child.position.well) child.position.rows left (hand_at t rest)) state.same_tree in
      let more : list_any test (take (i + 1) children) ≡ (list_any test (take i children) || test child) =
      list_any_more test children i child within ∙ ap (λ p. list_any test (take i children) || test p) at in
      next_is rest ∙ ap (λ b. has asked rest && not b) (good_is rest ∙ ap (λ b. has asked rest && b) here)
      ∙ ap (λ b. b && not (b && test child)) (state.members rest)
      ∙ and_again (has rests rest) (list_any test (take i children)) (test child)
      ∙ ap (λ b. has rests rest && not b) (sym more);
}

pub try-ends : (tree tree_now : TailTree) (game now : Game) (F : Field) (rows : ℕ) (piece : Piece) (left : ℕ) (children : List Child) (rests asked found : TailSet) (before after i : ℕ)
    → Trying tree tree_now game now left children rests asked before after i → length children ≤ i
    → ((rest : ℕ) → has rests rest ≡ true → is_good_at game children left (hand_at tree rest) ≡ is_good_after game F rows piece left (hand_at tree rest))
    → ((rest : ℕ) → has found rest ≡ (has rests rest && not (has asked rest)))
    → (rest : ℕ) → has found rest ≡ (has rests rest && is_good_tail_after tree game F rows piece left rest)
unfolding is_good_tail_after
try-ends tree tree_now game now F rows piece left children rests asked found before after i state all children_are found_is rest =
    search (rules, taken_back, and_same, take_all)

-- what is good at one of the first children is good at one of all
good_before : (game : Game) (left hand i : ℕ) (children : List Child) → is_good_at game (take i children) left hand ≡ true → is_good_at game children left hand ≡ true
unfolding is_good_at
good_before game left hand i children good =
    let test : Child → Bool = λ child. is_good game (filled child.position.well) child.position.rows left hand in
    sym (ap (list_any test) (take-append-drop i children)) ∙ list_any-append test (take i children) (drop i children) ∙ or_left _ _ good

-- where none is asked about any more, all are good
pub try-all : (tree tree_now : TailTree) (game now : Game) (F : Field) (rows : ℕ) (piece : Piece) (left : ℕ) (children : List Child) (rests asked : TailSet) (before after i : ℕ)
    → Trying tree tree_now game now left children rests asked before after i → ((rest : ℕ) → has asked rest ≡ false)
    → ((rest : ℕ) → has rests rest ≡ true → is_good_at game children left (hand_at tree rest) ≡ is_good_after game F rows piece left (hand_at tree rest))
    → (rest : ℕ) → has rests rest ≡ (has rests rest && is_good_tail_after tree game F rows piece left rest)
unfolding is_good_tail_after
try-all tree tree_now game now F rows piece left children rests asked before after i state none children_are rest =
    let hand = hand_at tree rest in
    elim (cases_Bool (has rests rest)) [
      | inl there ↦
          let open_now : (has rests rest && not (is_good_at game (take i children) left hand)) ≡ false = sym (state.members rest) ∙ none rest in
          let found : is_good_at game (take i children) left hand ≡ true = not-false _ (sym (ap (λ b. b && not (is_good_at game (take i children) left hand)) there) ∙ open_now) in
          there ∙ sym (and_from _ _ there (sym (children_are rest there) ∙ good_before game left hand i children found))
      | inr apart ↦ apart ∙ sym (ap (λ b. b && is_good_after game F rows piece left hand) apart)
    ]

-- ---- the whole answer

pub answer-looked : (known unknown found tails answer : TailSet) (good : ℕ → Bool)
    → ((tail : ℕ) → (has known tail || (has unknown tail && good tail)) ≡ (has tails tail && good tail))
    → ((tail : ℕ) → has found tail ≡ (has unknown tail && good tail))
    → ((tail : ℕ) → has answer tail ≡ (has known tail || has found tail))
    → (tail : ℕ) → has answer tail ≡ (has tails tail && good tail)
answer-looked known unknown found tails answer good whole found_is answer_is tail = search rules

less_none : (a b : Bool) → b ≡ false → a ≡ (a && not b)
less_none a b h = search rules

-- less nothing all stay
pub less-none : (tails found : TailSet) → ((tail : ℕ) → has found tail ≡ false) → (tail : ℕ) → has tails tail ≡ (has tails tail && not (has found tail))
less-none tails found none tail = less_none (has tails tail) (has found tail) (none tail)

-- nothing of nothing
pub none-of : (tails : TailSet) (good : ℕ → Bool) (tail : ℕ) → has tails tail ≡ false → false ≡ (has tails tail && good tail)
none-of tails good tail none = search rules

pub answer-known : (known unknown tails : TailSet) (good : ℕ → Bool)
    → ((tail : ℕ) → (has known tail || (has unknown tail && good tail)) ≡ (has tails tail && good tail))
    → ((tail : ℕ) → has unknown tail ≡ false)
    → (tail : ℕ) → has known tail ≡ (has tails tail && good tail)
answer-known known unknown tails good whole none tail = search (rules, or_false)

pub answer-found : (known unknown found tails : TailSet) (good : ℕ → Bool)
    → ((tail : ℕ) → (has known tail || (has unknown tail && good tail)) ≡ (has tails tail && good tail))
    → ((tail : ℕ) → has known tail ≡ false) → ((tail : ℕ) → has found tail ≡ (has unknown tail && good tail))
    → (tail : ℕ) → has found tail ≡ (has tails tail && good tail)
answer-found known unknown found tails good whole none found_is tail = search rules

second_true : (a b c : Bool) → a ≡ (b && c) → a ≡ true → c ≡ true
second_true a b c is there = search rules

-- what is found is good, and what isn't found isn't
pub found-good : (found unknown : TailSet) (good : ℕ → Bool) → ((tail : ℕ) → has found tail ≡ (has unknown tail && good tail)) → (tail : ℕ) → has found tail ≡ true → good tail ≡ true
found-good found unknown good found_is tail there = second_true (has found tail) (has unknown tail) (good tail) (found_is tail) there

pub good-ends : (tree : TailTree) (game : Game) (F : Field) (rows left tail : ℕ) → left ≡ 0 → is_good_tail tree game F rows left tail ≡ (rows == 0)
unfolding is_good is_good_tail
good-ends tree game F rows left tail none = ap (λ n. is_good game F rows n (hand_at tree tail)) none

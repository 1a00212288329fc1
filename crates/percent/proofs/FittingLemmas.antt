-- Tails that are left out are not good, one tail on.
use Rattle.std.proofs.Common.{ℕ, suc, ◌≡◌, ◌+◌, ◌-◌, ◌/◌, ◌%◌, ◌<◌, ◌≤◌, Bool, true, false, ◌&&◌, ◌||◌, ◌==◌, cond, List, [], ◌∷◌, length, length-set, get_or, take, refl, sym, ap, subst, ◌∙◌, inl, inr, arith, rules}
use Rattle.std.proofs.Common.{set as list_set, slice_index}
use Rattle.std.proofs.Math.Bool.{and-false, and-true, or-false, or-true, or_assoc}
use Rattle.std.proofs.Math.Path.{fun_ext}
use Rattle.std.proofs.lemmas.List.{get_or-set_other}
use Rattle.std.proofs.lemmas.Grind.{get_or-set_at}
use Rattle.std.proofs.lemmas.Bool.{cases_eq, false_from_ne_true, eqb-true, false≢true, or_left, or_right}
use Rattle.std.proofs.lemmas.Bool.Decides.{nat_tests}
use Rattle.lane_board.specs.Field.{difference, rows_below}
use Rattle.srs.specs.declared.piece.Piece.{Piece}
use Rattle.srs.specs.Piece.{piece_code}
use Rattle.well.specs.Well.{filled}
use Rattle.srs.proofs.CallerLemmas.{piece_code-small, or_second}
use Rattle.prune.specs.Tiling.{Supply, Tiling, supply_in}
use Rattle.prune.proofs.CallerLemmas.{more_pieces}
use Rattle.empty_cells.specs.declared.empties.Empties.{Empties}
use Rattle.empty_cells.specs.Empties.{all_but, empty_cells}
use Rattle.empty_cells.proofs.CallerLemmas.{tiling_below}
use Rattle.hands.specs.Numbers.{has_number}
use Rattle.hands.proofs.CallerLemmas.{has-all, has-more, has-none}
use Rattle.tails.specs.declared.tail_set.TailSet.{TailSet}
use Rattle.tails.specs.declared.tree.TailTree.{TailTree}
use Rattle.tails.specs.TailSets.{block_count, has}
use Rattle.tails.specs.Tails.{AreTails}
use Rattle.tails.proofs.CallerLemmas.{none-counted}
use Rattle.problem.proofs.CallerLemmas.{IsLow}
use Rattle.percent.specs.declared.game.Game.{Game}
use Rattle.percent.specs.declared.position.Position.{Position}
use Rattle.percent.specs.Counts.{supply_by}
use Rattle.percent.specs.Fitting.{codes_in, supply_at}
use Rattle.percent.specs.GoodHands.{is_good}
use Rattle.percent.specs.GoodTails.{is_good_tail}
use Rattle.percent.specs.LeftOut.{LeavesOutBad}
use Rattle.percent.proofs.TiledLemmas.{codes-few, good-tiled}

pub low-position : (p : Position) → IsLow (filled p.well) p.rows
low-position p = record { none = p.below.none; within = omega (arith, p.few) }

-- where pieces of a supply that has those of a hand have no tiling, the hand is not good
untiled : (game : Game) (p : Position) (left hand count : ℕ) (supply : Supply) → suc left ≤ count → ((piece : Piece) → supply_at count hand piece ≤ supply piece)
    → (Tiling (filled p.well) p.rows supply → ⊥) → is_good game (filled p.well) p.rows left hand ≡ false
untiled game p left hand count supply enough more none = false_from_ne_true _ (λ good.
    none (more_pieces (filled p.well) p.rows (supply_at count hand) supply more (good-tiled game (filled p.well) p.rows left hand count (low-position p) enough good)))

pub refused : (game : Game) (p : Position) (left hand count : ℕ) (supply : Supply) → count ≡ left + 1 → count ≤ 21 → ((piece : Piece) → 21 ≤ supply piece)
    → (Tiling (filled p.well) p.rows supply → ⊥) → is_good game (filled p.well) p.rows left hand ≡ false
unfolding supply_at
refused game p left hand count supply one few many none = search (rules, untiled, codes-few)

pub unfit : (game : Game) (p : Position) (cells : Empties) (counts : List ℕ) (left hand count : ℕ) → count ≡ left + 1
    → empty_cells cells ≡ difference (rows_below p.rows) (filled p.well)
    → ((code : ℕ) → code < 8 → codes_in count hand code ≤ get_or counts code 0)
    → (Tiling (all_but (empty_cells cells)) 8 (supply_by counts) → ⊥) → is_good game (filled p.well) p.rows left hand ≡ false
unfolding supply_at supply_by
unfit game p cells counts left hand count one cells_are most none =
    untiled game p left hand count (supply_by counts) (omega (arith, one)) (λ piece. most (piece_code piece) (let few = piece_code-small piece in omega arith))
    (λ tiled. none (subst (λ E. Tiling (all_but E) 8 (supply_by counts)) (sym cells_are) ((tiling_below (filled p.well) p.rows 8 (supply_by counts) p.few).1 tiled)))

-- ---- the tails that are kept

-- where no tail is good none need be kept
pub none-kept : (v : TailSet) (asked good : ℕ → Bool) → ((tail : ℕ) → asked tail ≡ true → good tail ≡ false) → ((tail : ℕ) → has v tail ≡ false) → LeavesOutBad good asked (has v)
none-kept v asked good bad none = record { fewer = λ tail there. absurd (false≢true (sym (none tail) ∙ there)); same = same }
  where
    same : (tail : ℕ) → (has v tail && good tail) ≡ (asked tail && good tail)
    same tail = search rules

-- what is left of some tails is left of the same ones
pub same-asked : (good asked tails fit : ℕ → Bool) → ((tail : ℕ) → asked tail ≡ tails tail) → LeavesOutBad good asked fit → LeavesOutBad good tails fit
same-asked good asked tails fit same leaves = subst (λ (tails : ℕ → Bool). LeavesOutBad good tails fit) (fun_ext same) leaves

-- of the first i tails those that are good are kept, and no other tail is
abbrev pub Sifting : (ℕ → Bool) → List ℕ → TailSet → ℕ → Type 0
Sifting good tails v i = LeavesOutBad good (has_number (take i tails)) (has v)

both_none : (a b g : Bool) → a ≡ false → b ≡ false → (a && g) ≡ (b && g)
both_none a b g first second = search rules

pub sift-starts : (good : ℕ → Bool) (tails : List ℕ) (v : TailSet) → ((tail : ℕ) → has v tail ≡ false) → Sifting good tails v 0
sift-starts good tails v none = record {
  fewer = λ tail there. absurd (false≢true (sym (none tail) ∙ there));
  same = λ tail. both_none (has v tail) (has_number [] tail) (good tail) (none tail) (has-none tail);
}

pushed : (a b e g : Bool) → (a && g) ≡ (b && g) → ((a || e) && g) ≡ ((b || e) && g)
pushed a b e g h = search rules

passed : (a b e g : Bool) → (a && g) ≡ (b && g) → (e ≡ true → g ≡ false) → (a && g) ≡ ((b || e) && g)
passed a b e g h bad = search rules

wider : (a b e : Bool) → (a ≡ true → b ≡ true) → (a || e) ≡ true → (b || e) ≡ true
wider a b e more there = search rules

pub sift-push : (good : ℕ → Bool) (tails : List ℕ) (v more : TailSet) (i : ℕ) → Sifting good tails v i → i < length tails
    → ((other : ℕ) → has more other ≡ (has v other || get_or tails i 0 == other)) → Sifting good tails more (i + 1)
sift-push good tails v more i state in_tails more_is = record {
  fewer = λ tail there. has-more tails i tail in_tails ∙ wider (has v tail) (has_number (take i tails) tail) (get_or tails i 0 == tail) (state.fewer tail) (sym (more_is tail) ∙ there);
  same = λ tail. ap (λ b. b && good tail) (more_is tail)
      ∙ pushed (has v tail) (has_number (take i tails) tail) (get_or tails i 0 == tail) (good tail) (state.same tail)
      ∙ ap (λ b. b && good tail) (sym (has-more tails i tail in_tails));
}

pub sift-pass : (good : ℕ → Bool) (tails : List ℕ) (v : TailSet) (i : ℕ) → Sifting good tails v i → i < length tails → good (get_or tails i 0) ≡ false → Sifting good tails v (i + 1)
sift-pass good tails v i state in_tails bad = record {
  fewer = λ tail there. has-more tails i tail in_tails ∙ or_left (has_number (take i tails) tail) (get_or tails i 0 == tail) (state.fewer tail there);
  same = λ tail. passed (has v tail) (has_number (take i tails) tail) (get_or tails i 0 == tail) (good tail) (state.same tail)
      (λ same. ap good (sym (eqb-true (get_or tails i 0) tail same)) ∙ bad)
      ∙ ap (λ b. b && good tail) (sym (has-more tails i tail in_tails));
}

pub sift-ends : (good asked : ℕ → Bool) (tails : List ℕ) (v : TailSet) (i : ℕ) → ((tail : ℕ) → has_number tails tail ≡ asked tail) → length tails ≤ i → Sifting good tails v i → LeavesOutBad good asked (has v)
sift-ends good asked tails v i listed all state = same-asked good (has_number (take i tails)) asked (has v) (λ tail. has-all tails i tail all ∙ listed tail) state

-- ---- the greatest counts

-- the counts are as great as those of each of the first i hands
pub record Covering (hands counts : List ℕ) (pieces i : ℕ) : Type 0 where
  pub each : (hand : ℕ) → has_number (take i hands) hand ≡ true → (code : ℕ) → code < 8 → codes_in pieces hand code ≤ get_or counts code 0

pub cover-starts : (hands counts : List ℕ) (pieces : ℕ) → Covering hands counts pieces 0
cover-starts hands counts pieces = record { each = λ hand there. let none = has-none hand in cc }

pub cover-more : (hands counts more next : List ℕ) (pieces i : ℕ) → Covering hands counts pieces i → i < length hands
    → ((code : ℕ) → code < 8 → get_or more code 0 ≡ codes_in pieces (get_or hands i 0) code)
    → ((code : ℕ) → code < 8 → get_or counts code 0 ≤ get_or next code 0) → ((code : ℕ) → code < 8 → get_or more code 0 ≤ get_or next code 0)
    → Covering hands next pieces (i + 1)
cover-more hands counts more next pieces i state in_hands more_is first second = record {
  each = λ hand there code few. at hand code few (has_number (take i hands) hand) refl (sym (has-more hands i hand in_hands) ∙ there);
}
  where
    at : (hand code : ℕ) → code < 8 → (b : Bool) → has_number (take i hands) hand ≡ b → (has_number (take i hands) hand || get_or hands i 0 == hand) ≡ true → codes_in pieces hand code ≤ get_or next code 0
    at hand code few true old there = let before = state.each hand old code few in let step = first code few in omega arith
    at hand code few false old there =
        let same : get_or hands i 0 ≡ hand = eqb-true (get_or hands i 0) hand (or_second (has_number (take i hands) hand) (get_or hands i 0 == hand) old there) in
        let is = more_is code few in
        let step = second code few in
        let equal = ap (λ n. codes_in pieces n code) same in
        omega (arith, equal)

pub cover-ends : (hands counts : List ℕ) (pieces i : ℕ) → length hands ≤ i → Covering hands counts pieces i
    → (hand : ℕ) → has_number hands hand ≡ true → (code : ℕ) → code < 8 → codes_in pieces hand code ≤ get_or counts code 0
cover-ends hands counts pieces i all state hand there = state.each hand (has-all hands i hand all ∙ there)

-- ---- counts one by one

-- the entries behind the first are the supply
pub entries-supply : (counts : List ℕ) → supply_in (slice_index counts 1 ∷ slice_index counts 2 ∷ slice_index counts 3 ∷ slice_index counts 4 ∷ slice_index counts 5 ∷ slice_index counts 6 ∷ slice_index counts 7 ∷ []) ≡ supply_by counts
unfolding supply_in supply_by
entries-supply counts = fun_ext read
  where
    read : (piece : Piece) → supply_in (slice_index counts 1 ∷ slice_index counts 2 ∷ slice_index counts 3 ∷ slice_index counts 4 ∷ slice_index counts 5 ∷ slice_index counts 6 ∷ slice_index counts 7 ∷ []) piece ≡ supply_by counts piece
    read piece = search rules

-- the counts and those of the rest make up the whole hand
pub record Tallying (hand pieces i : ℕ) (counts : List ℕ) (rest : ℕ) : Type 0 where
  pub is : (code : ℕ) → code < 8 → get_or counts code 0 + codes_in (pieces - i) rest code ≡ codes_in pieces hand code
  pub few : (code : ℕ) → get_or counts code 0 ≤ i
  pub size : length counts ≡ 8

pub tally-more : (hand pieces i : ℕ) (counts : List ℕ) (rest : ℕ) → i < pieces → Tallying hand pieces i counts rest
    → Tallying hand pieces (i + 1) (list_set counts (rest % 8) (get_or counts (rest % 8) 0 + 1)) (rest / 8)
unfolding codes_in
tally-more hand pieces i counts rest more state = let size = state.size in record {
  size = length-set counts (rest % 8) (get_or counts (rest % 8) 0 + 1) ∙ size;
  is = λ code few.
      let one : pieces - i ≡ suc (pieces - (i + 1)) = omega arith in
      let before = ap (λ n. get_or counts code 0 + codes_in n rest code) (sym one) ∙ state.is code few in
      elim (cases_eq code (rest % 8)) [
        | inl same ↦
            let put = get_or-set_at counts (rest % 8) code (get_or counts (rest % 8) 0 + 1) 0 same (omega arith) in
            let passes : (rest % 8 == code) ≡ true = grind (arith, nat_tests) in
            let equal = ap (λ c. get_or counts c 0) same in
            let split = ap (λ b. get_or counts code 0 + (cond b 1 0 + codes_in (pieces - (i + 1)) (rest / 8) code)) (sym passes) ∙ before in
            omega (arith, put, equal, split)
        | inr apart ↦
            let put = get_or-set_other counts (rest % 8) code (get_or counts (rest % 8) 0 + 1) 0 apart in
            let fails : (rest % 8 == code) ≡ false = grind (arith, nat_tests) in
            let split = ap (λ b. get_or counts code 0 + (cond b 1 0 + codes_in (pieces - (i + 1)) (rest / 8) code)) (sym fails) ∙ before in
            omega (arith, put, split)
      ];
  few = λ code. elim (cases_eq code (rest % 8)) [
    | inl same ↦
        let put = get_or-set_at counts (rest % 8) code (get_or counts (rest % 8) 0 + 1) 0 same (omega arith) in
        let old = state.few (rest % 8) in omega arith
    | inr apart ↦
        let put = get_or-set_other counts (rest % 8) code (get_or counts (rest % 8) 0 + 1) 0 apart in
        let old = state.few code in omega arith
  ];
}

pub tally-ends : (hand pieces i : ℕ) (counts : List ℕ) (rest : ℕ) → pieces ≤ i → Tallying hand pieces i counts rest → (code : ℕ) → code < 8 → get_or counts code 0 ≡ codes_in pieces hand code
unfolding codes_in
tally-ends hand pieces i counts rest all state code few = search rules

-- the counts of the first codes are as great as both
pub record Raising (a b counts : List ℕ) (i : ℕ) : Type 0 where
  pub first : (code : ℕ) → code < i → get_or a code 0 ≤ get_or counts code 0
  pub second : (code : ℕ) → code < i → get_or b code 0 ≤ get_or counts code 0
  pub size : length counts ≡ 8

raised : (xs counts : List ℕ) (i most : ℕ) → i < length counts → ((code : ℕ) → code < i → get_or xs code 0 ≤ get_or counts code 0) → get_or xs i 0 ≤ most
    → (code : ℕ) → code < i + 1 → get_or xs code 0 ≤ get_or (list_set counts i most) code 0
raised xs counts i most within before here code low = search (rules, cases_eq, get_or-set_at, get_or-set_other)

pub raise-more : (a b counts : List ℕ) (i most : ℕ) → i < 8 → Raising a b counts i → get_or a i 0 ≤ most → get_or b i 0 ≤ most → Raising a b (list_set counts i most) (i + 1)
raise-more a b counts i most low8 state first second = search (rules, length-set, raised)

-- ---- one part of the tails after the other

-- what fits so far and the rest are tails, and the good ones are among them
abbrev pub FitsSoFar : (ℕ → Bool) → TailSet → TailSet → TailSet → Type 0
FitsSoFar good tails fit rest = LeavesOutBad good (has tails) (λ tail. has fit tail || has rest tail)

pub parts-start : (good : ℕ → Bool) (tails fit rest : TailSet) → ((tail : ℕ) → has fit tail ≡ false) → ((tail : ℕ) → has rest tail ≡ has tails tail) → FitsSoFar good tails fit rest
parts-start good tails fit rest none same = record {
  fewer = λ tail some. sym (λ i. none tail i || same tail i) ∙ some;
  same = λ tail i. (none tail i || same tail i) && good tail;
}

part_fits : (fit part others more good : Bool) → (more && good) ≡ (part && good) → (((fit || more) || others) && good) ≡ ((fit || (part || others)) && good)
part_fits fit part others more true same =
    ap (λ b. b && true) (or_assoc fit more others ∙ ap (λ b. fit || (b || others)) (sym (and-true more) ∙ same ∙ and-true part))
part_fits fit part others more false same = and-false _ ∙ sym (and-false _)

part_fewer : (fit part others more : Bool) → (more ≡ true → part ≡ true) → ((fit || more) || others) ≡ true → (fit || (part || others)) ≡ true
part_fewer true part others more fits some = refl
part_fewer false part others true fits some = ap (λ b. b || others) (fits refl)
part_fewer false part others false fits some = ap (λ b. part || b) some ∙ or-true part

pub parts-more : (good : ℕ → Bool) (tails fit next rest part others more : TailSet) → ((tail : ℕ) → has rest tail ≡ (has part tail || has others tail)) → LeavesOutBad good (has part) (has more)
    → ((tail : ℕ) → has next tail ≡ (has fit tail || has more tail)) → FitsSoFar good tails fit rest → FitsSoFar good tails next others
parts-more good tails fit next rest part others more cut fits merged state = record {
  fewer = λ tail some. state.fewer tail (ap (λ b. has fit tail || b) (cut tail)
      ∙ part_fewer (has fit tail) (has part tail) (has others tail) (has more tail) (fits.fewer tail) (sym (ap (λ b. b || has others tail) (merged tail)) ∙ some));
  same = λ tail.
      ap (λ b. (b || has others tail) && good tail) (merged tail)
      ∙ part_fits (has fit tail) (has part tail) (has others tail) (has more tail) (good tail) (fits.same tail)
      ∙ ap (λ b. (has fit tail || b) && good tail) (sym (cut tail)) ∙ state.same tail;
}

pub parts-end : (good : ℕ → Bool) (tails fit rest : TailSet) → block_count rest ≡ 0 → FitsSoFar good tails fit rest → LeavesOutBad good (has tails) (has fit)
parts-end good tails fit rest none state = record {
  fewer = λ tail is. state.fewer tail (ap (λ b. b || has rest tail) is);
  same = λ tail. ap (λ b. b && good tail) (sym (or-false (has fit tail)) ∙ ap (λ b. has fit tail || b) (sym (none-counted rest none tail))) ∙ state.same tail;
}

-- so it is for each game, and the rest are tails of the tree
pub record FitsOfTree (tree : TailTree) (p : Position) (left : ℕ) (tails fit rest : TailSet) : Type 0 where
  pub are_tails : AreTails tree (has rest)
  pub so_far : (game : Game) → FitsSoFar (is_good_tail tree game (filled p.well) p.rows left) tails fit rest

-- the tails of a list are those of a part of the rest
pub part-tails : (tree : TailTree) (rest part others : TailSet) (numbers : List ℕ) → AreTails tree (has rest) → ((tail : ℕ) → has rest tail ≡ (has part tail || has others tail))
    → ((tail : ℕ) → has_number numbers tail ≡ has part tail) → AreTails tree (has_number numbers)
part-tails tree rest part others numbers are cut listed = λ tail there. are tail (cut tail ∙ or_left (has part tail) (has others tail) (sym (listed tail) ∙ there))

pub other-tails : (tree : TailTree) (rest part others : TailSet) → AreTails tree (has rest) → ((tail : ℕ) → has rest tail ≡ (has part tail || has others tail)) → AreTails tree (has others)
other-tails tree rest part others are cut = λ tail there. are tail (cut tail ∙ or_right (has part tail) (has others tail) there)

-- Hands that no listed tiling of their mark serves are not good. Of the others the tilings that serve them are used.
use Rattle.std.proofs.Common.{◌≡◌, ◌↔◌, ℕ, ◌+◌, ◌<◌, ◌≤◌, ◌==◌, ◌&&◌, ◌||◌, ◌/◌, Bool, true, false, not, List, [], ◌∷◌, ◌++◌, length, length-append, length-set, get_or, drop, take, refl, sym, ap, subst, ◌∙◌, inl, inr, arith, div-one}
use Rattle.std.proofs.Common.{set as list_set}
use Rattle.std.specs.Prelude.{All, Contains, Some, slice_get}
use Rattle.std.proofs.lemmas.Bool.{and_parts, cases_eq, cases_lt, eq-eqb, eqb-true, false≢true, not-false, not-true, or_left, or_parts, or_right, true_from_ne_false}
use Rattle.std.proofs.lemmas.Grind.{get_or-set_at, same_number_lists}
use Rattle.std.proofs.lemmas.List.{get_or_append_left, get_or-drop, get_or_default, get_or_push, get_or-set_other, get_or-take, length-drop, length-take-le, take_all, take_more}
use Rattle.std.proofs.lemmas.List.Elements.{All-set, Contains-append_left, Contains-append_right, Contains-push_cases}
use Rattle.std.proofs.lemmas.Option.{get_or_from_slice_get, slice_get_read, slice_get_within}
use Rattle.lane_board.specs.Field.{Field}
use Rattle.lane_board.specs.Lanes.{has_bit}
use Rattle.lane_board.proofs.CallerLemmas.{has_bit-zero}
use Rattle.well.specs.Well.{filled}
use Rattle.hands.specs.Numbers.{has_number}
use Rattle.hands.proofs.CallerLemmas.{has-push, has-there, number-at}
use Rattle.empty_cells.specs.Empties.{empty_cells}
use Rattle.tiled_pieces.specs.declared.listed.ListedTiling.{ListedTiling}
use Rattle.tiled_pieces.specs.Served.{IsServed}
use Rattle.percent.specs.declared.game.Game.{Game}
use Rattle.percent.specs.declared.marks.Mark.{Mark}
use Rattle.percent.specs.declared.marks.Marks.{Marks}
use Rattle.percent.specs.declared.position.Position.{Position}
use Rattle.percent.specs.Building.{AreCountsOf, AreNarrowed, AreOwn, AreTested, HasOwn, IsOwn, IsRefused, IsUsedBy, IsUsedByAll, KeepsCounts, StaysUsed, Tests}
use Rattle.hands.specs.Weights.{AreNoted}
use Rattle.percent.specs.GoodHands.{is_good}
use Rattle.percent.specs.ListedHands.{AreMarksOf, ListsHand}
use Rattle.percent.specs.Marks.{HasCounts}
use Rattle.percent.proofs.ServedLemmas.{built-serves, unserved-bad}

-- ---- one tiling after the other

-- a hand whose bit is set is not open, and none of the first i tilings serves it
pub record Pending (list : List ListedTiling) (E : Field) (drops : Bool) (weights allowed : List ℕ) (open_hands pending i : ℕ) : Type 0 where
  pub closed : (k : ℕ) → has_bit pending k ≡ true → has_bit open_hands k ≡ false
  pub none : (k : ℕ) → k < 64 → has_bit pending k ≡ true → (tiling : ListedTiling) → Contains (take i list) tiling → IsServed tiling E drops weights allowed k → ⊥

pub pending-starts : (list : List ListedTiling) (E : Field) (drops : Bool) (weights allowed : List ℕ) (all open_hands pending : ℕ) → ((k : ℕ) → has_bit pending k ≡ (has_bit all k && not (has_bit open_hands k)))
    → Pending list E drops weights allowed open_hands pending 0
pending-starts list E drops weights allowed all open_hands pending less = record {
  closed = λ k there. not-true (has_bit open_hands k) (and_parts (has_bit all k) (not (has_bit open_hands k)) (sym (less k) ∙ there)).1;
  none = λ k few there tiling listed. absurd (omega (arith, listed.1));
}

pub pending-more : (list : List ListedTiling) (E : Field) (drops : Bool) (weights allowed : List ℕ) (open_hands pending i asked served next : ℕ) (x : ListedTiling) → i < length list → x ≡ get_or list i x
    → ((k : ℕ) → k < 64 → has_bit pending k ≡ true → has_bit asked k ≡ true)
    → ((k : ℕ) → has_bit served k ≡ true ↔ ((has_bit asked k ≡ true) × IsServed x E drops weights allowed k))
    → ((k : ℕ) → has_bit next k ≡ (has_bit pending k && not (has_bit served k)))
    → Pending list E drops weights allowed open_hands pending i → Pending list E drops weights allowed open_hands next (i + 1)
pending-more list E drops weights allowed open_hands pending i asked served next x within at wider both less state = record {
  closed = λ k there. state.closed k (parts k there).0;
  none = λ k few there tiling listed is.
      elim (Contains-push_cases (take i list) (get_or list i x) tiling (subst (λ l. Contains l tiling) (take_more list i x within) listed)) [
        | inl before ↦ state.none k few (parts k there).0 tiling before is
        | inr here ↦
            false≢true (sym (not-true (has_bit served k) (parts k there).1) ∙ (both k).1 (wider k few (parts k there).0, subst (λ t. IsServed t E drops weights allowed k) (sym (at ∙ here)) is))
      ];
}
  where
    parts : (k : ℕ) → has_bit next k ≡ true → (has_bit pending k ≡ true) × (not (has_bit served k) ≡ true)
    parts k there = and_parts (has_bit pending k) (not (has_bit served k)) (sym (less k) ∙ there)

pub pending-ends : (marks : Marks) (mark : Mark) (left : ℕ) (hands weights allowed : List ℕ) (open_hands pending i k : ℕ) → length mark.tilings.tilings.items ≤ i → length hands ≤ 64
    → AreNoted marks.game.hold left hands weights 1 allowed open_hands (length hands)
    → Pending mark.tilings.tilings.items (empty_cells marks.cells) marks.drops weights allowed open_hands pending i → k < length hands → has_bit pending k ≡ true → IsRefused marks left mark (get_or hands k 0)
pending-ends marks mark left hands weights allowed open_hands pending i k all few noted state within there = record {
  weights = weights;
  allowed = allowed;
  bit = k / 1;
  allows = noted.each k within (ap (has_bit open_hands) same ∙ state.closed k there);
  none = λ tiling listed. state.none (k / 1) (omega (arith, within, few, same)) (ap (has_bit pending) same ∙ there) tiling (subst (λ l. Contains l tiling) (sym (take_all i mark.tilings.tilings.items all)) listed);
}
  where
    same : k / 1 ≡ k
    same = div-one k

-- ---- tilings that are used

-- of the first i tilings those that are not used serve no hand, and no hand is open
pub record Using (list : List ListedTiling) (E : Field) (drops : Bool) (weights allowed : List ℕ) (open_hands : ℕ) (first used : List Bool) (i : ℕ) : Type 0 where
  pub size : length used ≡ length list
  pub stays : StaysUsed first used
  pub unused : (j : ℕ) → j < i → (tiling : ListedTiling) → slice_get list j ≡ Some tiling → get_or used j false ≡ false
      → (open_hands ≡ 0) × ((k : ℕ) → k < 64 → IsServed tiling E drops weights allowed k → ⊥)

stays-same : (used : List Bool) → StaysUsed used used
stays-same used = record { size = λ i. length used; each = λ j is. is }

pub using-starts : (list : List ListedTiling) (E : Field) (drops : Bool) (weights allowed : List ℕ) (open_hands : ℕ) (used : List Bool) → length used ≡ length list → Using list E drops weights allowed open_hands used used 0
using-starts list E drops weights allowed open_hands used size = record { size = size; stays = stays-same used; unused = λ j low. absurd (omega arith) }

-- one tiling more
pub using-more : (list : List ListedTiling) (E : Field) (drops : Bool) (weights allowed : List ℕ) (open_hands : ℕ) (first used : List Bool) (i asked served : ℕ) (was is_used now : Bool) (x : ListedTiling) → i < length list → x ≡ get_or list i x
    → was ≡ get_or used i was → is_used ≡ (was || not (open_hands == 0)) → now ≡ (is_used || not (served == 0))
    → (is_used ≡ false → (k : ℕ) → k < 64 → has_bit asked k ≡ true)
    → ((k : ℕ) → has_bit served k ≡ true ↔ ((has_bit asked k ≡ true) × IsServed x E drops weights allowed k))
    → Using list E drops weights allowed open_hands first used i → Using list E drops weights allowed open_hands first (list_set used i now) (i + 1)
using-more list E drops weights allowed open_hands first used i asked served was is_used now x within at was_is is_used_is now_is all both state = record {
  size = length-set used i now ∙ state.size;
  stays = record {
    size = length-set used i now ∙ state.stays.size;
    each = λ j set. elim (cases_eq j i) [
      | inl same ↦
          let before : get_or used i false ≡ true = ap (λ n. get_or used n false) (sym same) ∙ state.stays.each j set in
          get_or-set_at used i j now false same long
          ∙ now_is ∙ ap (λ b. b || not (served == 0)) (is_used_is ∙ ap (λ b. b || not (open_hands == 0)) (was_is ∙ default was ∙ before))
      | inr apart ↦ get_or-set_other used i j now false apart ∙ state.stays.each j set
    ];
  };
  unused = λ j low tiling there unset. elim (cases_eq j i) [
    | inl same ↦
        let none = or_parts is_used (not (served == 0)) (sym now_is ∙ sym (get_or-set_at used i j now false same long) ∙ unset) in
        let parts = or_parts was (not (open_hands == 0)) (sym is_used_is ∙ none.0) in
        let here : x ≡ tiling = at ∙ ap (λ n. get_or list n x) (sym same) ∙ get_or_from_slice_get list j tiling x there in (
          eqb-true open_hands 0 (not-false (open_hands == 0) parts.1),
          λ k few is. false≢true (sym (ap (λ n. has_bit n k) (eqb-true served 0 (not-false (served == 0) none.1)) ∙ has_bit-zero k)
              ∙ (both k).1 (all none.0 k few, subst (λ t. IsServed t E drops weights allowed k) (sym here) is)),
        )
    | inr apart ↦ state.unused j (omega (arith, low, apart)) tiling there (sym (get_or-set_other used i j now false apart) ∙ unset)
  ];
}
  where
    long : i < length used
    long = let size = state.size in omega (arith, size, within)

    default : (d : Bool) → get_or used i d ≡ get_or used i false
    default d = get_or_default used i d false long

-- so all that serve one of the hands are used
pub using-ends : (marks : Marks) (mark : Mark) (left : ℕ) (hands weights : List ℕ) (size : ℕ) (allowed : List ℕ) (open_hands : ℕ) (first used : List Bool) (i k : ℕ) → length mark.tilings.tilings.items ≤ i → k / size < 64
    → AreNoted marks.game.hold left hands weights size allowed open_hands (length hands)
    → Using mark.tilings.tilings.items (empty_cells marks.cells) marks.drops weights allowed open_hands first used i → k < length hands
    → IsUsedBy marks left mark.tilings.tilings.items used (get_or hands k 0)
using-ends marks mark left hands weights size allowed open_hands first used i k all few noted state within = record {
  each = λ built j tiling there parts. true_from_ne_false (get_or used j false) (λ unset.
      let none = state.unused j (let low = slice_get_within mark.tilings.tilings.items j tiling there in omega (arith, low, all)) tiling there unset in
      let allows = noted.each k within (ap (λ n. has_bit n (k / size)) none.0 ∙ has_bit-zero (k / size)) in
      none.1 (k / size) few
      (built-serves (empty_cells marks.cells) marks.drops marks.game.hold left (get_or hands k 0) weights allowed (k / size) built tiling parts allows));
}

pub used-stays : (marks : Marks) (left hand : ℕ) (list : List ListedTiling) (old new : List Bool) → StaysUsed old new → IsUsedBy marks left list old hand → IsUsedBy marks left list new hand
used-stays marks left hand list old new stays is = record { each = λ built j tiling there all. stays.each j (is.each built j tiling there all) }

-- ---- hands that are refused

pub refused-bad : (marks : Marks) (left hand : ℕ) (mark : Mark) → HasCounts mark.counts left hand → ListsHand (empty_cells marks.cells) marks.drops marks.game.hold left hand mark → IsRefused marks left mark hand
    → is_good marks.game (filled marks.position.well) marks.position.rows left hand ≡ false
refused-bad marks left hand mark counts lists refused = unserved-bad marks left hand refused.bit refused.weights refused.allowed mark counts lists refused.allows refused.none

-- ---- hands that are tested

-- a hand that is bad
pub tested-bad : (game : Game) (p : Position) (left : ℕ) (hands : List ℕ) (may : List Bool) (index : ℕ) → index < length hands
    → is_good game (filled p.well) p.rows left (get_or hands index 0) ≡ false → AreTested game p left hands may → AreTested game p left hands (list_set may index false)
tested-bad game p left hands may index within bad state = record {
  size = length-set may index false ∙ state.size;
  each = λ k below none. elim (cases_eq k index) [
    | inl same ↦ ap (λ n. is_good game (filled p.well) p.rows left (get_or hands n 0)) same ∙ bad
    | inr apart ↦ state.each k below (sym (get_or-set_other may index k false true apart) ∙ none)
  ];
}

-- ---- the counts of hands

-- those of the first i hands
pub record AreCountsBefore (left : ℕ) (hands : List ℕ) (counts : List (List ℕ)) (i : ℕ) : Type 0 where
  pub size : length counts ≡ i
  pub each : (k : ℕ) → k < i → HasCounts (get_or counts k []) left (get_or hands k 0)

pub counts-start : (left : ℕ) (hands : List ℕ) (counts : List (List ℕ)) → counts ≡ [] → AreCountsBefore left hands counts 0
counts-start left hands counts nil = record { size = ap length nil; each = λ k low. absurd (omega arith) }

pub counts-more : (left : ℕ) (hands : List ℕ) (counts : List (List ℕ)) (more : List ℕ) (i : ℕ) → HasCounts more left (get_or hands i 0)
    → AreCountsBefore left hands counts i → AreCountsBefore left hands (counts ++ more ∷ []) (i + 1)
counts-more left hands counts more i here state = record {
  size = let long = length-append counts (more ∷ []) in let size = state.size in omega (arith, long, size);
  each = λ k low. elim (cases_lt k i) [
    | inl before ↦
        let old = get_or_append_left counts (more ∷ []) [] k (let size = state.size in omega (arith, size)) in
        subst (λ c. HasCounts c left (get_or hands k 0)) (sym old) (state.each k before)
    | inr past ↦
        let last : k ≡ i = omega arith in
        let new = get_or_push counts more [] k (state.size ∙ sym last) in
        subst (λ c. HasCounts c left (get_or hands k 0)) (sym new) (subst (λ j. HasCounts more left (get_or hands j 0)) (sym last) here)
  ];
}

pub counts-end : (left : ℕ) (hands : List ℕ) (counts : List (List ℕ)) (i : ℕ) → i ≡ length hands → AreCountsBefore left hands counts i → AreCountsOf left hands counts
counts-end left hands counts i all state = record { size = state.size ∙ all; each = λ k below. state.each k (omega (arith, all, below)) }

-- a hand has one list of counts
pub same-counts : (left hand : ℕ) (a b : List ℕ) → HasCounts a left hand → HasCounts b left hand → a ≡ b
same-counts left hand a b first second = same_number_lists a b (first.size ∙ sym second.size) (λ k low. let few : k < 8 = omega (arith, low, first.size) in first.each k few ∙ sym (second.each k few))

pub part-length : (l : List ℕ) (start size : ℕ) → start + size ≤ length l → length (take size (drop start l)) ≡ size
part-length l start size within = length-take-le size (drop start l) (let rest = length-drop start l in omega (arith, rest, within))

pub part-at : (l : List ℕ) (start size k : ℕ) → k < size → get_or (take size (drop start l)) k 0 ≡ get_or l (start + k) 0
part-at l start size k low = get_or-take size (drop start l) k 0 low ∙ get_or-drop start l k 0

-- ---- the hands of a mark

-- those of the first i hands that have these counts, and no others
pub record OwnSoFar (wanted : List ℕ) (left : ℕ) (hands own indexes : List ℕ) (i : ℕ) : Type 0 where
  pub those : AreOwn wanted left hands own indexes
  pub all : (n : ℕ) → n < i → HasCounts wanted left (get_or hands n 0) → has_number own (get_or hands n 0) ≡ true

pub own-more : (wanted : List ℕ) (left : ℕ) (hands own indexes : List ℕ) (i : ℕ) → i < length hands → HasCounts wanted left (get_or hands i 0)
    → OwnSoFar wanted left hands own indexes i → OwnSoFar wanted left hands (own ++ get_or hands i 0 ∷ []) (indexes ++ i ∷ []) (i + 1)
own-more wanted left hands own indexes i within here state = record {
  those = record {
    size = let a = length-append own (get_or hands i 0 ∷ []) in let b = length-append indexes (i ∷ []) in let size = state.those.size in omega (arith, a, b, size);
    each = λ k below. elim (cases_lt k (length own)) [
      | inl before ↦
          let hand : get_or (own ++ get_or hands i 0 ∷ []) k 0 ≡ get_or own k 0 = get_or_append_left own (get_or hands i 0 ∷ []) 0 k before in
          let index : get_or (indexes ++ i ∷ []) k 0 ≡ get_or indexes k 0 = get_or_append_left indexes (i ∷ []) 0 k (let size = state.those.size in omega (arith, size)) in
          let is = state.those.each k before in
          subst (IsOwn wanted left hands (get_or (own ++ get_or hands i 0 ∷ []) k 0)) (sym index) (subst (λ h. IsOwn wanted left hands h (get_or indexes k 0)) (sym hand) is)
      | inr past ↦
          let long = length-append own (get_or hands i 0 ∷ []) in
          let last : k ≡ length own = omega (arith, long) in
          let hand : get_or (own ++ get_or hands i 0 ∷ []) k 0 ≡ get_or hands i 0 = get_or_push own (get_or hands i 0) 0 k (sym last) in
          let index : get_or (indexes ++ i ∷ []) k 0 ≡ i = get_or_push indexes i 0 k (state.those.size ∙ sym last) in
          subst (IsOwn wanted left hands (get_or (own ++ get_or hands i 0 ∷ []) k 0)) (sym index)
          (subst (λ h. IsOwn wanted left hands h i) (sym hand) (record { within = within; there = refl; counts = here }))
    ];
  };
  all = λ n low counts. has-push own (get_or hands i 0) (get_or hands n 0) ∙ elim (cases_lt n i) [
    | inl before ↦ or_left (has_number own (get_or hands n 0)) (get_or hands i 0 == get_or hands n 0) (state.all n before counts)
    | inr past ↦
        let same : i ≡ n = omega arith in
        or_right (has_number own (get_or hands n 0)) (get_or hands i 0 == get_or hands n 0) (eq-eqb (get_or hands i 0) (get_or hands n 0) (ap (λ k. get_or hands k 0) same))
  ];
}

pub own-pass : (wanted : List ℕ) (left : ℕ) (hands own indexes : List ℕ) (i : ℕ) → (HasCounts wanted left (get_or hands i 0) → ⊥) → OwnSoFar wanted left hands own indexes i → OwnSoFar wanted left hands own indexes (i + 1)
own-pass wanted left hands own indexes i other state = record {
  those = state.those;
  all = λ n low counts. elim (cases_lt n i) [
    | inl before ↦ state.all n before counts
    | inr past ↦ let same : n ≡ i = omega arith in absurd (other (subst (λ n. HasCounts wanted left (get_or hands n 0)) same counts))
  ];
}

pub own-ends : (wanted : List ℕ) (left : ℕ) (hands own indexes : List ℕ) (i : ℕ) → length hands ≤ i → OwnSoFar wanted left hands own indexes i → HasOwn wanted left hands own
own-ends wanted left hands own indexes i all state = record {
  each = λ hand there counts.
      let at = number-at hands hand there in
      let low = at.1 in
      subst (λ h. has_number own h ≡ true) at.2 (state.all at.0 (omega (arith, low, all)) (subst (HasCounts wanted left) (sym at.2) counts));
}

-- a part of them
pub own-part : (wanted : List ℕ) (left : ℕ) (hands own indexes : List ℕ) (start size : ℕ) → start + size ≤ length own → AreOwn wanted left hands own indexes
    → AreOwn wanted left hands (take size (drop start own)) (take size (drop start indexes))
own-part wanted left hands own indexes start size within are = record {
  size = part-length indexes start size (let same = are.size in omega (arith, same, within)) ∙ sym (part-length own start size within);
  each = λ k below.
      let low : k < size = let long = part-length own start size within in omega (arith, long, below) in
      subst (IsOwn wanted left hands (get_or (take size (drop start own)) k 0)) (sym (part-at indexes start size k low))
      (subst (λ h. IsOwn wanted left hands h (get_or indexes (start + k) 0)) (sym (part-at own start size k low)) (are.each (start + k) (omega (arith, low, within))));
}

-- a mark lists the tilings by which one of the hands is built if all marks do
one-lists : (marks : Marks) (left : ℕ) (hands : ℕ → Bool) (mark : Mark) (hand : ℕ) → Contains marks.known.items mark → AreMarksOf marks left hands → hands hand ≡ true
    → ListsHand (empty_cells marks.cells) marks.drops marks.game.hold left hand mark
one-lists marks left hands mark hand among all there = subst (ListsHand (empty_cells marks.cells) marks.drops marks.game.hold left hand) among.2 (all.each hand there among.0 mark among.1)

pub tests-none : (marks : Marks) (wanted : List ℕ) (left : ℕ) (own indexes : List ℕ) (may : List Bool) → Tests marks wanted left own indexes may may
tests-none marks wanted left own indexes may = record { size = refl; each = λ hands are lists tested. tested }

-- one hand more, which no tiling of its mark serves
pub tests-bad : (marks : Marks) (mark : Mark) (left : ℕ) (own indexes : List ℕ) (old may : List Bool) (k : ℕ) → k < length own → Contains marks.known.items mark → IsRefused marks left mark (get_or own k 0)
    → Tests marks mark.counts left own indexes old may → Tests marks mark.counts left own indexes old (list_set may (get_or indexes k 0) false)
tests-bad marks mark left own indexes old may k low among refused state = record {
  size = length-set may (get_or indexes k 0) false ∙ state.size;
  each = λ hands are lists tested.
      let is = are.each k low in
      let listed = one-lists marks left (has_number hands) mark (get_or own k 0) among lists (has-there hands (get_or indexes k 0) (get_or own k 0) is.within is.there) in
      tested-bad marks.game marks.position left hands may (get_or indexes k 0) is.within
      (ap (is_good marks.game (filled marks.position.well) marks.position.rows left) is.there ∙ refused-bad marks left (get_or own k 0) mark is.counts listed refused)
      (state.each hands are lists tested);
}

-- one part more
pub tests-part : (marks : Marks) (wanted : List ℕ) (left : ℕ) (own indexes : List ℕ) (old may next : List Bool) (start size : ℕ) → start + size ≤ length own
    → Tests marks wanted left (take size (drop start own)) (take size (drop start indexes)) may next → Tests marks wanted left own indexes old may → Tests marks wanted left own indexes old next
tests-part marks wanted left own indexes old may next start size within part state = record {
  size = part.size ∙ state.size;
  each = λ hands are lists tested. part.each hands (own-part wanted left hands own indexes start size within are) lists (state.each hands are lists tested);
}

-- the tilings that serve those are used, so are the tilings that serve any of the hands with the pieces of the mark
pub used-by-own : (marks : Marks) (left : ℕ) (hands own : List ℕ) (mark : Mark) (used : List Bool) → length used ≡ length mark.tilings.tilings.items → HasOwn mark.counts left hands own
    → ((k : ℕ) → k < length own → IsUsedBy marks left mark.tilings.tilings.items used (get_or own k 0)) → IsUsedByAll marks left hands mark used
used-by-own marks left hands own mark used size owned is_used = record {
  size = size;
  each = λ hand there counts.
      let at = number-at own hand (owned.each hand there counts) in
      subst (IsUsedBy marks left mark.tilings.tilings.items used) at.2 (is_used at.0 at.1);
}

-- a mark is read at its index
pub mark-read : (known : List Mark) (index : ℕ) (old : Mark) → index < length known → old ≡ get_or known index old → slice_get known index ≡ Some old
mark-read known index old within at = slice_get_read known (length known) index old refl within at

pub mark-is : (known : List Mark) (index : ℕ) (old mark : Mark) → old ≡ get_or known index old → slice_get known index ≡ Some mark → old ≡ mark
mark-is known index old mark at there = at ∙ get_or_from_slice_get known index mark old there

-- a mark that takes the place of one with the same counts
pub keeps-set : (known : List Mark) (index : ℕ) (old new : Mark) → index < length known → old ≡ get_or known index old → new.counts ≡ old.counts
    → (before after : Mark) → slice_get known index ≡ Some before → slice_get (list_set known index new) index ≡ Some after → after.counts ≡ before.counts
keeps-set known index old new within at same before after there now =
    let is : new ≡ after = sym (get_or-set_at known index index new new refl within) ∙ get_or_from_slice_get (list_set known index new) index after new now in
    ap (λ (m : Mark). m.counts) (sym is) ∙ same ∙ ap (λ (m : Mark). m.counts) (mark-is known index old before at there)

-- ---- a mark that is narrowed before its hands are tested

pub own-read : (wanted : List ℕ) (left : ℕ) (hands own indexes first second : List ℕ) → first ≡ own → second ≡ indexes → AreOwn wanted left hands own indexes → AreOwn wanted left hands first second
own-read wanted left hands own indexes first second same alike are =
    subst (λ l. AreOwn wanted left hands l second) (sym same) (subst (AreOwn wanted left hands own) (sym alike) are)

pub narrowed-once : (marks mid : Marks) (left index : ℕ) (hands own slice : List ℕ) (first : Mark) → first ≡ get_or marks.known.items index first → slice ≡ own
    → HasOwn first.counts left hands own → AreMarksOf marks left (has_number hands)
    → ((hands : List ℕ) → AreMarksOf marks left (has_number hands) → ((mark : Mark) → slice_get marks.known.items index ≡ Some mark → HasOwn mark.counts left hands slice) → AreNarrowed marks mid left hands)
    → AreNarrowed marks mid left hands
narrowed-once marks mid left index hands own slice first at same all lists narrows =
    narrows hands lists (λ mark there. subst (HasOwn mark.counts left hands) (sym same) (subst (λ (m : Mark). HasOwn m.counts left hands own) (mark-is marks.known.items index first mark at there) all))

pub same-own : (marks mid : Marks) (index : ℕ) (first old : Mark) → index < length marks.known.items → length mid.known.items ≡ length marks.known.items
    → first ≡ get_or marks.known.items index first → old ≡ get_or mid.known.items index old → KeepsCounts marks mid index → old.counts ≡ first.counts
same-own marks mid index first old within size before after keeps =
    keeps.same first old (mark-read marks.known.items index first within before) (mark-read mid.known.items index old (omega (arith, within, size)) after)

-- ---- the tilings that stay

-- a list has those of the first i tilings that are used
pub record HasUsed (list : List ListedTiling) (used : List Bool) (kept : List ListedTiling) (i : ℕ) : Type 0 where
  pub each : (j : ℕ) → j < i → (tiling : ListedTiling) → slice_get list j ≡ Some tiling → get_or used j false ≡ true → Contains kept tiling

pub has_used-starts : (list : List ListedTiling) (used : List Bool) (kept : List ListedTiling) → HasUsed list used kept 0
has_used-starts list used kept = record { each = λ j low. absurd (omega arith) }

pub has_used-more : (list : List ListedTiling) (used : List Bool) (kept : List ListedTiling) (i : ℕ) (x : ListedTiling) → x ≡ get_or list i x → HasUsed list used kept i → HasUsed list used (kept ++ x ∷ []) (i + 1)
has_used-more list used kept i x at state = record {
  each = λ j low tiling there set. elim (cases_lt j i) [
    | inl before ↦ Contains-append_left kept (x ∷ []) tiling (state.each j before tiling there set)
    | inr past ↦
        let same : j ≡ i = omega arith in
        let here : x ≡ tiling = at ∙ ap (λ n. get_or list n x) (sym same) ∙ get_or_from_slice_get list j tiling x there in
        subst (Contains (kept ++ x ∷ [])) here (Contains-append_right kept (x ∷ []) x (0, omega arith, refl))
  ];
}

pub has_used-pass : (list : List ListedTiling) (used : List Bool) (kept : List ListedTiling) (i : ℕ) → get_or used i false ≡ false → HasUsed list used kept i → HasUsed list used kept (i + 1)
has_used-pass list used kept i unset state = record {
  each = λ j low tiling there set. elim (cases_lt j i) [
    | inl before ↦ state.each j before tiling there set
    | inr past ↦ let same : j ≡ i = omega arith in absurd (false≢true (sym unset ∙ ap (λ n. get_or used n false) (sym same) ∙ set))
  ];
}

pub has_used-ends : (list : List ListedTiling) (used : List Bool) (kept : List ListedTiling) (i : ℕ) → length list ≤ i → HasUsed list used kept i
    → (j : ℕ) (tiling : ListedTiling) → slice_get list j ≡ Some tiling → get_or used j false ≡ true → Contains kept tiling
has_used-ends list used kept i all state j tiling there set = state.each j (let low = slice_get_within list j tiling there in omega (arith, low, all)) tiling there set

-- ---- marks with fewer tilings

-- a mark lists those by which the hands are built if it keeps those that are used
kept-lists : (marks : Marks) (left hand : ℕ) (used : List Bool) (old new : Mark) → new.counts ≡ old.counts
    → ((j : ℕ) (tiling : ListedTiling) → slice_get old.tilings.tilings.items j ≡ Some tiling → get_or used j false ≡ true → Contains new.tilings.tilings.items tiling)
    → (HasCounts old.counts left hand → IsUsedBy marks left old.tilings.tilings.items used hand)
    → ListsHand (empty_cells marks.cells) marks.drops marks.game.hold left hand old → ListsHand (empty_cells marks.cells) marks.drops marks.game.hold left hand new
kept-lists marks left hand used old new same keeps is_used lists = record {
  each = λ counts built none.
      let counted : HasCounts old.counts left hand = subst (λ c. HasCounts c left hand) same counts in
      lists.each counted built (λ has.
      let there = slice_get_read old.tilings.tilings.items (length old.tilings.tilings.items) has.listed.0 has.tiling refl has.listed.1 (sym has.listed.2) in
      none (record { tiling = has.tiling; listed = keeps has.listed.0 has.tiling there ((is_used counted).each built has.listed.0 has.tiling there has.all); all = has.all }));
}

pub narrowed : (marks : Marks) (left : ℕ) (hands : List ℕ) (index : ℕ) (used : List Bool) (old new : Mark) → index < length marks.known.items → old ≡ get_or marks.known.items index old → new.counts ≡ old.counts
    → ((j : ℕ) (tiling : ListedTiling) → slice_get old.tilings.tilings.items j ≡ Some tiling → get_or used j false ≡ true → Contains new.tilings.tilings.items tiling)
    → ((hand : ℕ) → has_number hands hand ≡ true → HasCounts old.counts left hand → IsUsedBy marks left old.tilings.tilings.items used hand)
    → AreMarksOf marks left (has_number hands)
    → (hand : ℕ) → has_number hands hand ≡ true → All (ListsHand (empty_cells marks.cells) marks.drops marks.game.hold left hand) (list_set marks.known.items index new)
narrowed marks left hands index used old new within at same keeps is_used all hand there =
    let Holds : Mark → Type 0 = ListsHand (empty_cells marks.cells) marks.drops marks.game.hold left hand in
    All-set Holds marks.known.items index new (kept-lists marks left hand used old new same keeps (is_used hand there) (subst Holds (sym at) (all.each hand there index old within))) (all.each hand there)

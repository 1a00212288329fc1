-- Marks: the keys by which they lead back, and as many of them as there are items.
use Rattle.std.proofs.Common.{◌≡◌, ◌≢◌, ◌⊎◌, ℕ, ◌+◌, ◌<◌, true, false, cond, List, [], ◌∷◌, ◌++◌, length, get_or, refl, sym, ap, subst, ◌∙◌, inl, inr, arith, rules}
use Rattle.std.specs.Prelude.{Contains, replicate, reverse}
use Rattle.std.specs.List.{count_by, refill}
use Rattle.std.proofs.lemmas.Bool.{cases_order, false≢true}
use Rattle.std.proofs.lemmas.List.{append-nil, append_assoc, length-append, length-set, length-replicate, get_or-set_same, get_or-set_other, reverse-append}
use Rattle.std.proofs.lemmas.List.Sums.{sum_by-cons, sum_by-set}
use Rattle.std.proofs.lemmas.List.Elements.{Contains-append_left, Contains-push, Contains-push_cases}
use Rattle.std.proofs.lemmas.Grind.{common_steps}
use Rattle.srs.specs.declared.placement.Placement.{Placement}
use Rattle.srs.proofs.CallerLemmas.{Contains-here, Contains-cases, Contains-none}
use Rattle.srs.specs.Cells.{HasPivotInWell}
use Rattle.moves.specs.declared.key.Key.{Key}
use Rattle.key_path.specs.declared.marks.Mark.{Mark}
use Rattle.key_path.specs.declared.marks.Mark.TheVariants.{Unseen, Start, From}
use Rattle.moves.specs.States.{state_code}
use Rattle.moves.proofs.CallerLemmas.{code_below}
use Rattle.key_path.specs.Marks.{mark_at, with_mark, is_unseen, Traces}
use Rattle.key_path.specs.Search.{Item, with_key, AreMarked}

-- the keys back are determined
pub traces_once : (marks : List Mark) (s : Placement) (keys others : List Key) → Traces marks s keys → Traces marks s others → keys ≡ others
traces_once marks s [] [] one other = refl
traces_once marks s [] (l ∷ ls) one other = let e : Start ≡ From other.0 l = sym one ∙ other.1 in absurd cc
traces_once marks s (k ∷ ks) [] one other = let e : From one.0 k ≡ Start = sym one.1 ∙ other in absurd cc
traces_once marks s (k ∷ ks) (l ∷ ls) one other = search (rules, (traces_once marks one.0 ks ls one.3))

-- a mark that was set is there, and the others stay
mark_here : (marks : List Mark) (s : Placement) (mark : Mark) → length marks ≡ 920 → HasPivotInWell s → mark_at (with_mark marks s mark) s ≡ mark
unfolding mark_at with_mark
mark_here marks s mark size pivot = get_or-set_same marks (state_code s) mark Unseen (omega (arith, size, code_below s pivot))

mark_there : (marks : List Mark) (s t : Placement) (mark : Mark) → state_code t ≢ state_code s → mark_at (with_mark marks s mark) t ≡ mark_at marks t
unfolding mark_at with_mark
mark_there marks s t mark other = get_or-set_other marks (state_code s) (state_code t) mark Unseen other

one_mark : (marks : List Mark) (s t : Placement) → state_code t ≡ state_code s → mark_at marks t ≡ mark_at marks s
unfolding mark_at
one_mark marks s t e = ap (λ n. get_or marks n Unseen) e

-- setting the mark of an unseen state leaves a mark that is no Unseen
mark_kept : (marks : List Mark) (s t : Placement) (mark : Mark) → is_unseen (mark_at marks s) ≡ true → is_unseen (mark_at marks t) ≡ false → mark_at (with_mark marks s mark) t ≡ mark_at marks t
mark_kept marks s t mark unseen seen = search (rules, mark_there, false≢true, one_mark)

traces_kept : (marks : List Mark) (s t : Placement) (mark : Mark) (keys : List Key) → is_unseen (mark_at marks s) ≡ true → Traces marks t keys → Traces (with_mark marks s mark) t keys
traces_kept marks s t mark [] unseen traces = mark_kept marks s t mark unseen (ap is_unseen traces) ∙ traces
traces_kept marks s t mark (key ∷ keys) unseen traces =
    (traces.0, mark_kept marks s t mark unseen (ap is_unseen traces.1) ∙ traces.1, traces.2, traces_kept marks s traces.0 mark keys unseen traces.3)

count_step : (x : Mark) (xs : List Mark) → count_by is_unseen (x ∷ xs) ≡ cond (is_unseen x) 1 0 + count_by is_unseen xs
count_step x xs = sum_by-cons (λ x. cond (is_unseen x) 1 0) x xs

all_unseen : (n : ℕ) → count_by is_unseen (replicate n Unseen) ≡ n
all_unseen n = grind (arith, common_steps, count_step)

unseen_anywhere : (n i : ℕ) → get_or (replicate n Unseen) i Unseen ≡ Unseen
unseen_anywhere n i = grind (arith, common_steps)

unseen_at : (s : Placement) → mark_at (replicate 920 Unseen) s ≡ Unseen
unfolding mark_at
unseen_at s = unseen_anywhere 920 (state_code s)

not_same : (m n : ℕ) → (m < n) ⊎ (n < m) → m ≢ n
not_same m n apart same = elim apart [ inl less ↦ omega (arith, less, same) | inr more ↦ omega (arith, more, same) ]

-- one mark fewer is unseen
pub count_marked : (marks : List Mark) (s : Placement) (mark : Mark) → length marks ≡ 920 → HasPivotInWell s → is_unseen (mark_at marks s) ≡ true → is_unseen mark ≡ false →
    count_by is_unseen (with_mark marks s mark) + 1 ≡ count_by is_unseen marks
unfolding mark_at with_mark
count_marked marks s mark size pivot unseen other = search (rules, sum_by-set, code_below)

-- where a state is unseen there is room for an item
pub room_left : (marks : List Mark) (items : List Item) (s : Placement) → HasPivotInWell s → is_unseen (mark_at marks s) ≡ true → AreMarked marks items → length items < 920
room_left marks items s pivot unseen noted = omega (arith, noted.counted, count_marked marks s Start noted.size pivot unseen refl)

sized : (marks : List Mark) (s : Placement) (mark : Mark) → length marks ≡ 920 → length (with_mark marks s mark) ≡ 920
unfolding with_mark
sized marks s mark size = length-set marks (state_code s) mark ∙ size

pub noted_first : (start : Placement) → HasPivotInWell start → AreMarked (with_mark (replicate 920 Unseen) start Start) (record { state = start; word = [] } ∷ [])
noted_first start pivot = record {
  size = sized (replicate 920 Unseen) start Start none;
  traces = λ x among. subst (λ x. Traces (with_mark (replicate 920 Unseen) start Start) x.state (reverse x.word)) (only x among) (mark_here (replicate 920 Unseen) start Start none pivot);
  seen = λ s seen. elim (cases_order (state_code s) (state_code start)) [
    | inl same ↦ (record { state = start; word = [] }, Contains-here _ [], sym same)
    | inr apart ↦ absurd (false≢true (sym seen ∙ ap is_unseen (mark_there (replicate 920 Unseen) start s Start (not_same (state_code s) (state_code start) apart) ∙ unseen_at s)))
  ];
  counted = omega (arith, count_marked (replicate 920 Unseen) start Start none pivot (ap is_unseen (unseen_at start)) refl, all_unseen 920);
}
  where
    none : length (replicate 920 Unseen) ≡ 920
    none = length-replicate 920 Unseen

    only : (x : Item) → Contains (record { state = start; word = [] } ∷ []) x → record { state = start; word = [] } ≡ x
    only x among = elim (Contains-cases _ [] x among) [ inl e ↦ e | inr none ↦ absurd (Contains-none x none) ]

pub noted_new : (marks : List Mark) (items : List Item) (x : Item) (key : Key) (t : Placement) → Contains items x → HasPivotInWell x.state → HasPivotInWell t → is_unseen (mark_at marks t) ≡ true → AreMarked marks items →
    AreMarked (with_mark marks t (From x.state key)) (items ++ with_key x key t ∷ [])
noted_new marks items x key t here from pivot unseen noted = record {
  size = sized marks t (From x.state key) noted.size;
  traces = λ y among. elim (Contains-push_cases items (with_key x key t) y among) [
    | inl old ↦ traces_kept marks t y.state (From x.state key) (reverse y.word) unseen (noted.traces y old)
    | inr new ↦ subst (λ y. Traces (with_mark marks t (From x.state key)) y.state (reverse y.word)) new
        (subst (Traces (with_mark marks t (From x.state key)) t) (sym (reverse-append x.word (key ∷ [])))
        (x.state, mark_here marks t (From x.state key) noted.size pivot, from, traces_kept marks t x.state (From x.state key) (reverse x.word) unseen (noted.traces x here)))
  ];
  seen = λ s seen. elim (cases_order (state_code s) (state_code t)) [
    | inl same ↦ (with_key x key t, Contains-push items (with_key x key t), sym same)
    | inr apart ↦
        let before = noted.seen s (sym (ap is_unseen (mark_there marks t s (From x.state key) (not_same (state_code s) (state_code t) apart))) ∙ seen) in
        (before.0, Contains-append_left items (with_key x key t ∷ []) before.0 before.1, before.2)
  ];
  counted = omega (arith, count_marked marks t (From x.state key) noted.size pivot unseen refl, noted.counted, length-append items (with_key x key t ∷ []));
}

-- one key back from a state that has one
pub record IsBack (marks : List Mark) (from : Placement) (key : Key) (keys : List Key) : Type 0 where
  pub rest : List Key
  pub is : keys ≡ key ∷ rest
  pub pivot : HasPivotInWell from
  pub traces : Traces marks from rest

pub one_back : (marks : List Mark) (s from : Placement) (key : Key) (keys : List Key) → mark_at marks s ≡ From from key → Traces marks s keys → IsBack marks from key keys
one_back marks s from key [] at traces = let e : Start ≡ From from key = sym traces ∙ at in absurd cc
one_back marks s from key (k ∷ ks) at traces = search rules

-- and none back from the start
pub none_back : (marks : List Mark) (s : Placement) (keys : List Key) → ((from : Placement) (key : Key) → mark_at marks s ≡ From from key → ⊥) → Traces marks s keys → keys ≡ []
none_back marks s [] none traces = refl
none_back marks s (k ∷ ks) none traces = absurd (none traces.0 k traces.1)

-- the same with the keys that were passed on the way, the last one last
pub record IsPassed (marks : List Mark) (from : Placement) (passed keys : List Key) : Type 0 where
  pub rest : List Key
  pub traces : Traces marks from rest
  pub is : keys ≡ passed ++ rest

pub one_passed : (marks : List Mark) (s from : Placement) (key : Key) (passed more keys : List Key) → mark_at marks s ≡ From from key → more ≡ passed ++ key ∷ [] → IsPassed marks s passed keys → IsPassed marks from more keys
one_passed marks s from key passed more keys at e way =
    search (rules, (one_back marks s from key way.rest), (append_assoc passed (key ∷ []) (one_back marks s from key way.rest at way.traces).rest))

pub passed_few : (marks : List Mark) (s from : Placement) (key : Key) (passed keys : List Key) → mark_at marks s ≡ From from key → IsPassed marks s passed keys → length passed < length keys
passed_few marks s from key passed keys at way = grind (arith, common_steps, one_back, length-append)

pub passed_all : (marks : List Mark) (s : Placement) (passed keys : List Key) → ((from : Placement) (key : Key) → mark_at marks s ≡ From from key → ⊥) → IsPassed marks s passed keys → keys ≡ passed
passed_all marks s passed keys none way = way.is ∙ ap (λ ks. passed ++ ks) (none_back marks s way.rest none way.traces) ∙ append-nil passed

-- as many items in the place of others are themselves
pub refilled : {X : Type 0} (xs ws : List X) → length ws ≡ length xs → refill (length xs) xs ws ≡ ws
refilled X xs same = grind (arith, common_steps)

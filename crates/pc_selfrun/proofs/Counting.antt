-- A search whose solutions are counted.
use Rattle.std.proofs.Common.{◌≡◌, ◌∙◌, ℕ, ◌+◌, ◌-◌, ◌<◌, ◌≤◌, List, [], ◌∷◌, length, Some, refl, ap, arith}
use Rattle.srs.specs.declared.placement.Placement.{Placement}
use Rattle.enumerate.specs.declared.search.Search.{Search}
use Rattle.problem.specs.SolutionList.{View}
use Rattle.enumerate.specs.ViewOf.{after_given, solutions, view_of, work}
use Rattle.enumerate.specs.Work.{pairs}

-- so many solutions were passed, and the floods since the start are those of the search
pub record IsCounted (start now : Search) (before steps count : ℕ) : Type 0 where
  pub whole : count + length (solutions now) ≡ length (solutions start)
  pub given : after_given now ≡ after_given start
  pub problem : (view_of now).problem ≡ (view_of start).problem
  pub queue : (view_of now).queue ≡ (view_of start).queue
  pub counted : work now + before ≡ work start + steps
  pub rose : before ≤ steps

pub begins : (start : Search) (steps : ℕ) → IsCounted start start steps steps 0
begins start steps = record { whole = omega arith; given = refl; problem = refl; queue = refl; counted = refl; rose = omega arith }

module _ (start old new : Search) (before mid now count : ℕ) (is : IsCounted start old before mid count) (counted : work new + mid ≡ work old + now) (rose : mid ≤ now) where
  pub goes_on : (s : List Placement) → solutions old ≡ s ∷ solutions new → view_of new ≡ record (view_of old) { bound = Some s } → after_given new ≡ after_given old
      → IsCounted start new before now (count + 1)
  goes_on s next view given =
      let whole = is.whole in
      let sum = is.counted in
      let low = is.rose in
      let one : length (solutions old) ≡ 1 + length (solutions new) = ap length next ∙ omega arith in
      record {
        whole = omega (arith, whole, one);
        given = given ∙ is.given;
        problem = ap (λ (v : View). v.problem) view ∙ is.problem;
        queue = ap (λ (v : View). v.queue) view ∙ is.queue;
        counted = omega (arith, sum, counted);
        rose = omega (arith, low, rose);
      }

  pub counts_all : solutions old ≡ [] → count ≡ length (solutions start)
  counts_all none = let whole = is.whole in let empty : length (solutions old) ≡ 0 = ap length none in omega (arith, whole, empty)

  pub floods_all : work start ≡ 0 → work new ≡ pairs (view_of old).problem (view_of old).queue → now - before ≡ pairs (view_of start).problem (view_of start).queue
  floods_all idle all =
      let sum = is.counted in
      let low = is.rose in
      let made : now - before ≡ work new = omega (arith, sum, counted, idle, low, rose) in
      made ∙ all ∙ (λ i. pairs (is.problem i) (is.queue i))

pub fewer : (old new : Search) (s : List Placement) → solutions old ≡ s ∷ solutions new → length (solutions new) < length (solutions old)
fewer old new s next = let one : length (solutions old) ≡ 1 + length (solutions new) = ap length next ∙ omega arith in omega (arith, one)

-- The runs of the tails that begin with a piece, as lists.
use Rattle.std.proofs.Common.{ℕ, ◌≡◌, zero, suc, ◌+◌, ◌-◌, ◌*◌, ◌^◌, ◌<◌, ◌≤◌, Bool, true, false, ◌&&◌, ◌||◌, ◌==◌, if◌then◌else◌, List, [], ◌∷◌, ◌++◌, length, get_or, slice_index, refl, ap, ◌∙◌, arith}
use Rattle.std.specs.List.{list_any}
use Rattle.std.proofs.Math.Bool.{or-false}
use Rattle.std.proofs.lemmas.Bool.Decides.{nat_tests}
use Rattle.std.proofs.lemmas.List.Folds.{list_any-append}
use Rattle.srs.specs.declared.piece.Piece.{Piece}
use Rattle.srs.specs.declared.piece.Piece.TheVariants.{I}
use Rattle.srs.specs.Piece.{piece_code}
use Rattle.tails.specs.declared.states.State.{State}
use Rattle.tails.specs.declared.takings.Taking.{Taking}
use Rattle.tails.specs.Numbers.{place_of, tail_number}
use Rattle.tails.specs.Takings.{in_run, left_of, run_at, taken_at}

-- the runs of the tails that begin with these letters, each of which has as many tails
unfoldable pub taken_from : State → ℕ → ℕ → ℕ → List Piece → List Taking
taken_from state first held code [] = []
taken_from state first held code (letter ∷ letters) =
    taken_at state first held code letter ++ taken_from state (first + state.each) held code letters

-- a tail in a run leads on
abbrev pub leads_by : (ℕ → Bool) → ℕ → Taking → Bool
leads_by goes_on tail taking = in_run taking tail && goes_on (left_of taking tail)

-- what a tail with this first letter leads to, if its place behind the letter is this one
unfoldable pub leads_at : State → ℕ → ℕ → (ℕ → Bool) → Piece → ℕ → Bool
leads_at state held code goes_on letter place =
    ((held == code) && goes_on (tail_number (slice_index state.next (piece_code letter)) (piece_code letter) place))
    || ((piece_code letter == code) && goes_on (tail_number (slice_index state.next (piece_code letter)) held place))

run-inside : (state : State) (first held place tail : ℕ) (goes_on : ℕ → Bool) (letter : Piece) → place_of tail ≡ first + place → place < state.each
    → leads_by goes_on tail (run_at state first letter held) ≡ goes_on (tail_number (slice_index state.next (piece_code letter)) held place)
unfolding in_run left_of tail_number
run-inside state first held place tail goes_on letter at inside =
    let left = ap goes_on {x = (slice_index state.next (piece_code letter) * 8 + held) * 2 ^ 32 + 0 + (place_of tail - first)} {y = (slice_index state.next (piece_code letter) * 8 + held) * 2 ^ 32 + place} (omega arith) in
    grind (arith, nat_tests)

run-before : (state : State) (first held tail : ℕ) (goes_on : ℕ → Bool) (letter : Piece) → place_of tail < first
    → leads_by goes_on tail (run_at state first letter held) ≡ false
unfolding in_run
run-before state first held tail goes_on letter before = grind (arith, nat_tests)

run-behind : (state : State) (first held tail : ℕ) (goes_on : ℕ → Bool) (letter : Piece) → first + state.each ≤ place_of tail
    → leads_by goes_on tail (run_at state first letter held) ≡ false
unfolding in_run
run-behind state first held tail goes_on letter behind = grind (arith, nat_tests)

any-two : (test : Taking → Bool) (a b : Bool) (x y : Taking)
    → list_any test ((if a then x ∷ [] else []) ++ (if b then y ∷ [] else [])) ≡ ((a && test x) || (b && test y))
any-two test true true x y = ap (λ c. test x || c) (or-false (test y))
any-two test true false x y = refl
any-two test false true x y = or-false (test y)
any-two test false false x y = refl

-- a test passed by one of the runs that begin with a letter
at-any : (test : Taking → Bool) (state : State) (first held code : ℕ) (letter : Piece)
    → list_any test (taken_at state first held code letter)
    ≡ (((held == code) && test (run_at state first letter (piece_code letter))) || ((piece_code letter == code) && test (run_at state first letter held)))
unfolding taken_at
at-any test state first held code letter =
    any-two test (held == code) (piece_code letter == code) (run_at state first letter (piece_code letter)) (run_at state first letter held)

none-at : (a b x y : Bool) → x ≡ false → y ≡ false → ((a && x) || (b && y)) ≡ false
none-at a b x y one other = grind (arith, nat_tests)

at-inside : (state : State) (first held code place tail : ℕ) (goes_on : ℕ → Bool) (letter : Piece) → place_of tail ≡ first + place → place < state.each
    → list_any (leads_by goes_on tail) (taken_at state first held code letter) ≡ leads_at state held code goes_on letter place
unfolding leads_at
at-inside state first held code place tail goes_on letter at inside =
    at-any (leads_by goes_on tail) state first held code letter
    ∙ (λ i. ((held == code) && run-inside state first (piece_code letter) place tail goes_on letter at inside i)
    || ((piece_code letter == code) && run-inside state first held place tail goes_on letter at inside i))

at-before : (state : State) (first held code tail : ℕ) (goes_on : ℕ → Bool) (letter : Piece) → place_of tail < first
    → list_any (leads_by goes_on tail) (taken_at state first held code letter) ≡ false
at-before state first held code tail goes_on letter before =
    at-any (leads_by goes_on tail) state first held code letter
    ∙ none-at (held == code) (piece_code letter == code) _ _ (run-before state first (piece_code letter) tail goes_on letter before) (run-before state first held tail goes_on letter before)

at-behind : (state : State) (first held code tail : ℕ) (goes_on : ℕ → Bool) (letter : Piece) → first + state.each ≤ place_of tail
    → list_any (leads_by goes_on tail) (taken_at state first held code letter) ≡ false
at-behind state first held code tail goes_on letter behind =
    at-any (leads_by goes_on tail) state first held code letter
    ∙ none-at (held == code) (piece_code letter == code) _ _ (run-behind state first (piece_code letter) tail goes_on letter behind) (run-behind state first held tail goes_on letter behind)

from-more : (test : Taking → Bool) (state : State) (first held code : ℕ) (letter : Piece) (letters : List Piece)
    → list_any test (taken_from state first held code (letter ∷ letters))
    ≡ (list_any test (taken_at state first held code letter) || list_any test (taken_from state (first + state.each) held code letters))
unfolding taken_from
from-more test state first held code letter letters =
    list_any-append test (taken_at state first held code letter) (taken_from state (first + state.each) held code letters)

-- no run begins before the first place
from-before : (state : State) (first held code tail : ℕ) (goes_on : ℕ → Bool) (letters : List Piece) → place_of tail < first
    → list_any (leads_by goes_on tail) (taken_from state first held code letters) ≡ false
unfolding taken_from
from-before state first held code tail goes_on [] before = refl
from-before state first held code tail goes_on (letter ∷ letters) before =
    from-more (leads_by goes_on tail) state first held code letter letters
    ∙ (λ i. at-before state first held code tail goes_on letter before i
    || from-before state (first + state.each) held code tail goes_on letters (omega arith) i)

-- the runs of a tail are those of its first letter
pub from-letter : (state : State) (first held code tail : ℕ) (goes_on : ℕ → Bool) (letters : List Piece) (number place : ℕ)
    → number < length letters → place < state.each → place_of tail ≡ first + number * state.each + place
    → list_any (leads_by goes_on tail) (taken_from state first held code letters) ≡ leads_at state held code goes_on (get_or letters number I) place
from-letter state first held code tail goes_on [] number place there inside at = absurd (omega arith)
from-letter state first held code tail goes_on (letter ∷ letters) zero place there inside at =
    from-more (leads_by goes_on tail) state first held code letter letters
    ∙ (λ i. at-inside state first held code place tail goes_on letter (omega arith) inside i
    || from-before state (first + state.each) held code tail goes_on letters (omega arith) i)
    ∙ or-false (leads_at state held code goes_on letter place)
from-letter state first held code tail goes_on (letter ∷ letters) (suc number) place there inside at =
    from-more (leads_by goes_on tail) state first held code letter letters
    ∙ (λ i. at-behind state first held code tail goes_on letter (omega arith) i
    || from-letter state (first + state.each) held code tail goes_on letters number place (omega arith) inside (omega arith) i)

-- The first prefix decides: none stands before this place, or one stands here.
use Rattle.std.proofs.Common.{◌≡◌, sym, ◌-◌, ◌<◌, Option, Some, None, Result, Ok, Err, List, ℕ, take, drop, length, rules}
use Rattle.std.proofs.lemmas.List.{take_rest}
use Rattle.std.proofs.lemmas.Result.{err_from_is_err_and}
use Rattle.fumen_digits.specs.declared.dialect.Dialect.{Dialect}
use Rattle.fumen_digits.specs.Framing.{dialect_at, digits_in, digits_behind}
use Rattle.fumen_digits.proofs.Framings.{none_here, found_here, none_left}
use Rattle.fumen_digits.proofs.framing.digits_of.Goals as goal

-- a prefix stands at this place, from which rest is left, and none before it
digits_here : (text rest behind : List ℕ) (place : ℕ) (d : Dialect) → place < length text → rest ≡ drop place text → behind ≡ drop 5 rest → dialect_at rest ≡ Some d → digits_in (drop place text) ≡ digits_in text → digits_in text ≡ Some (d, digits_behind behind)
digits_here text rest behind place d lt is behind_is found same = search (rules, found_here)

never_none : {A : Type 0} {o : Option A} {x : A} → o ≡ Some x → o ≡ None → ⊥
never_none some none = cc

err_never_ok : {T E : Type 0} {r : Result T E} {y : E} {x : T} → r ≡ Err y → r ≡ Ok x → ⊥
err_never_ok err ok = cc

pub returns-in-Some-clause-found : goal.returns-in-Some-clause-found
returns-in-Some-clause-found c = search (rules, digits_here, take_rest)

pub returns-in-Some-clause-none : goal.returns-in-Some-clause-none
returns-in-Some-clause-none c = search (rules, digits_here, take_rest, never_none)

pub returns-in_err-digits_behind-clause-none : goal.returns-in_err-digits_behind-clause-none
returns-in_err-digits_behind-clause-none c =
    let text = c.args.text.now in
    let place = c.loop-place.place in
    let refused = err_from_is_err_and c.from_residual.result c.from_residual.ensures.1 in
    let here = digits_here text _ _ place c.in-Some.dialect c.loop-place-test.true (take_rest text place) (take_rest (take (length text - place) (drop place text)) 5) (sym c.in-Some.ensures.value) c.loop-place.invariant in (
      λ e. absurd (err_never_ok refused.1 e),
      λ none. absurd (never_none here none),
    )

pub loop-place-preserved : goal.loop-place-preserved
loop-place-preserved c = search (rules, none_here, take_rest)

pub returns-clause-found : goal.returns-clause-found
returns-clause-found c = search (rules, none_left)

pub returns-clause-none : goal.returns-clause-none
returns-clause-none c = search (rules, none_left)

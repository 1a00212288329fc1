-- A search that goes on, and the lines that are written of what it gives.
use Rattle.std.proofs.Common.{◌≡◌, ◌∙◌, ℕ, zero, suc, ◌+◌, ◌-◌, ◌≤◌, List, [], ◌∷◌, ◌++◌, length, take, drop, Option, None, Result, OnOk, OnErr, IsOk, IsErr, refl, sym, ap, subst, arith, append-nil, append_assoc, rules}
use Rattle.std.specs.List.{flat_map}
use Rattle.std.proofs.lemmas.List.{drop-drop, length-drop}
use Rattle.std.proofs.lemmas.List.Concat.{flat_map-append}
use Rattle.srs.specs.declared.placement.Placement.{Placement}
use Rattle.pc_outside.specs.Writes.{Grows, GrowsByFront}
use Rattle.pc_outside.specs.WriteLaws.{grows_more}
use Rattle.problem.specs.declared.problem.Problem.{Problem}
use Rattle.enumerate.specs.declared.search.Search.{Search}
use Rattle.enumerate.specs.ViewOf.{after_given, view_of, work}
use Rattle.enumerate.specs.Work.{pairs}
use Rattle.pc_path.specs.Work.{IsSearchOf, StoppedBefore}

-- an answer that is known to be one or the other
pub on_ok : {T E : Type 0} {P : Type 0} (result : Result T E) → P → OnOk result P
on_ok result p = search rules

pub on_err : {T E : Type 0} {P : Type 0} (result : Result T E) → P → OnErr result P
on_err result p = search rules

pub no_ok : {T E : Type 0} (P : Type 0) (result : Result T E) → IsErr result → OnOk result P
no_ok P result err = search rules

pub never_ok : {T E : Type 0} (result : Result T E) → IsErr result → IsOk result → ⊥
never_ok result err ok = search rules

pub more_on_err : {T E : Type 0} {P Q : Type 0} (result : Result T E) → (P → Q) → OnErr result P → OnErr result Q
more_on_err result more p = search rules

-- the same search before its first flood
pub not_begun : (problem : Problem) (after : Option (List Placement)) (search : Search) (start : ℕ) → IsSearchOf problem after search 0 → IsSearchOf problem after search (start - start)
not_begun problem after search start s = let none : 0 ≡ start - start = omega arith in subst (IsSearchOf problem after search) none s

-- and after some more floods
pub goes_on : (problem : Problem) (after : Option (List Placement)) (old new : Search) (start before now : ℕ) → IsSearchOf problem after old (before - start) → start ≤ before
    → (view_of new).problem ≡ (view_of old).problem → (view_of new).queue ≡ (view_of old).queue → after_given new ≡ after_given old
    → work new + before ≡ work old + now → before ≤ now → work new ≤ pairs (view_of old).problem (view_of old).queue → IsSearchOf problem after new (now - start)
goes_on problem after old new start before now s within same all given counted rose bound = search rules

-- all pairs were flooded
pub all_pairs : (problem : Problem) (after : Option (List Placement)) (old : Search) (floods made : ℕ) → IsSearchOf problem after old floods
    → made ≡ pairs (view_of old).problem (view_of old).queue → made ≡ pairs problem None
all_pairs problem after old floods made s is = is ∙ (λ i. pairs (s.same i) (s.all i))

-- the member at a number, and what is behind it
module _ {X : Type 0} where
  next_both : (xs : List X) (n : ℕ) (x : X) (rest : List X) → drop n xs ≡ x ∷ rest → (take (suc n) xs ≡ take n xs ++ x ∷ []) × (drop (suc n) xs ≡ rest)
  next_both [] zero x rest e = cc
  next_both [] (suc n) x rest e = cc
  next_both (y ∷ ys) zero x rest e = let here : y ≡ x = cc in let behind : ys ≡ rest = cc in (ap (λ z. z ∷ []) here, behind)
  next_both (y ∷ ys) (suc n) x rest e = let both = next_both ys n x rest e in (ap (λ l. y ∷ l) both.0, both.1)

  pub take_next : (xs : List X) (n : ℕ) (x : X) (rest : List X) → drop n xs ≡ x ∷ rest → take (n + 1) xs ≡ take n xs ++ x ∷ []
  take_next xs n x rest e = let one : n + 1 ≡ suc n = omega arith in ap (λ k. take k xs) one ∙ (next_both xs n x rest e).0

  pub drop_next : (xs : List X) (n : ℕ) (x : X) (rest : List X) → drop n xs ≡ x ∷ rest → drop (n + 1) xs ≡ rest
  drop_next xs n x rest e = let one : n + 1 ≡ suc n = omega arith in ap (λ k. drop k xs) one ∙ (next_both xs n x rest e).1

  pub within_next : (xs : List X) (n : ℕ) (x : X) (rest : List X) → drop n xs ≡ x ∷ rest → n + 1 ≤ length xs
  within_next xs n x rest e = let same : length xs - n ≡ suc (length rest) = sym (length-drop n xs) ∙ ap length e in omega (arith, same)

  drop_none : (k : ℕ) → ◌≡◌ {A = List X} (drop k []) []
  drop_none zero = refl
  drop_none (suc k) = refl

  pub drop_over : (xs : List X) (n m : ℕ) → drop n xs ≡ [] → n ≤ m → drop m xs ≡ []
  drop_over xs n m none within =
      let same : m ≡ n + (m - n) = omega (arith, within) in
      ap (λ k. drop k xs) same ∙ sym (drop-drop (m - n) n xs) ∙ ap (drop (m - n)) none ∙ drop_none (m - n)

module _ (line : List Placement → List ℕ) (sequences : List (List Placement)) (n : ℕ) {held mid holds : Option (List ℕ)} where
  -- one more line is written
  pub lines_more : (sequence : List Placement) (rest : List (List Placement)) → drop n sequences ≡ sequence ∷ rest → Grows held mid (flat_map line (take n sequences)) → Grows mid holds (line sequence)
      → Grows held holds (flat_map line (take (n + 1) sequences))
  lines_more sequence rest next before here =
      let whole = ap (flat_map line) (take_next sequences n sequence rest next) ∙ flat_map-append line (take n sequences) (sequence ∷ []) ∙ ap (λ l. flat_map line (take n sequences) ++ l) (append-nil (line sequence)) in
      subst (Grows held holds) (sym whole) (grows_more before here)

  -- a write failed in the next line
  pub stopped_line : (sequence : List Placement) (rest left : List (List Placement)) → drop n sequences ≡ sequence ∷ rest → left ≡ rest → Grows held mid (flat_map line (take n sequences))
      → GrowsByFront mid holds (line sequence) → StoppedBefore line sequences left held holds
  stopped_line sequence rest left next is before part = record {
    whole = n;
    begun = n + 1;
    some = omega arith;
    close = omega arith;
    written = record { more = part.up_to.front; grown = grows_more before part.up_to.grown };
    behind = is ∙ sym (drop_next sequences n sequence rest next);
  }

  -- a write failed behind these lines
  pub stopped_behind : (left : List (List Placement)) (text : List ℕ) → left ≡ drop n sequences → Grows held mid (flat_map line (take n sequences)) → GrowsByFront mid holds text
      → StoppedBefore line sequences left held holds
  stopped_behind left text is before part = record {
    whole = n;
    begun = n;
    some = omega arith;
    close = omega arith;
    written = record { more = part.up_to.front; grown = grows_more before part.up_to.grown };
    behind = is;
  }

  -- a write failed behind these lines and a text after them
  pub stopped_after : (left : List (List Placement)) (tail text : List ℕ) → left ≡ drop n sequences → Grows held mid (flat_map line (take n sequences) ++ tail) → GrowsByFront mid holds text
      → StoppedBefore line sequences left held holds
  stopped_after left tail text is before part = record {
    whole = n;
    begun = n;
    some = omega arith;
    close = omega arith;
    written = record {
      more = tail ++ part.up_to.front;
      grown = subst (Grows held holds) (append_assoc (flat_map line (take n sequences)) tail part.up_to.front) (grows_more before part.up_to.grown);
    };
    behind = is;
  }

-- A report, line by line.
use Rattle.std.proofs.Common.{◌≡◌, ℕ, suc, ◌+◌, ◌-◌, ◌<◌, ◌≤◌, List, [], ◌∷◌, ◌++◌, length, take, min, nat_le, true, false, le-leb, if◌then◌else◌, refl, ap, ◌∙◌, arith, append_assoc, subst, Option, rules}
use Rattle.std.specs.List.{flat_map}
use Rattle.std.proofs.Math.Dec.{leb-suc-suc, leb-suc-zero}
use Rattle.pc_outside.specs.Writes.{GrowsUpTo}
use Rattle.pc_outside.specs.WriteLaws.{begins}
use Rattle.problem.specs.declared.problem.Problem.{Problem}
use Rattle.problem.specs.Solution.{PlaysIn}
use Rattle.problem.specs.SolutionList.{View, IsList}
use Rattle.srs.specs.declared.placement.Placement.{Placement}
use Rattle.report.specs.Forms.{tail_form, report_form}
use Rattle.report.specs.declared.tail.Tail.TheVariants.{End, Limit}

-- what is left of a report after so many lines, where at most so many lines follow
unfoldable pub report_from : (List Placement → List ℕ) → ℕ → ℕ → List (List Placement) → List ℕ
report_from form count left sequences =
    flat_map form (take left sequences)
    ++ tail_form (if nat_le left (length sequences) then Limit else End) (count + min left (length sequences))

module _ (form : List Placement → List ℕ) where
  pub report_whole : (limit : ℕ) (sequences : List (List Placement)) → report_form form limit sequences ≡ report_from form 0 limit sequences
  unfolding report_form report_from
  report_whole limit sequences =
      let e : min limit (length sequences) ≡ 0 + min limit (length sequences) = omega arith in
      ap (λ n. flat_map form (take limit sequences) ++ tail_form (if nat_le limit (length sequences) then Limit else End) n) e

  full : (count : ℕ) (sequences : List (List Placement)) → report_from form count 0 sequences ≡ tail_form Limit count
  unfolding report_from
  full count sequences =
      let e : count + min 0 (length sequences) ≡ count = omega arith in
      let t : nat_le 0 (length sequences) ≡ true = le-leb 0 (length sequences) (omega arith) in
      rw (t, e) refl

  over : (count left : ℕ) → report_from form count (suc left) [] ≡ tail_form End count
  unfolding report_from
  over count left =
      let e : count + min (suc left) 0 ≡ count = omega arith in
      let t : nat_le (suc left) 0 ≡ false = leb-suc-zero left in
      rw (t, e) refl

  next : (count left : ℕ) (sequence : List Placement) (rest : List (List Placement))
      → report_from form count (suc left) (sequence ∷ rest) ≡ form sequence ++ report_from form (count + 1) left rest
  unfolding report_from
  next count left sequence rest =
      let e : count + min (suc left) (suc (length rest)) ≡ count + 1 + min left (length rest) = omega arith in
      let t : nat_le (suc left) (suc (length rest)) ≡ nat_le left (length rest) = leb-suc-suc left (length rest) in
      rw (append_assoc, e, t) refl

  -- the line that ends a report where no sequence is left
  pub left_over : (count limit number : ℕ) (sequences : List (List Placement)) → count < limit → sequences ≡ [] → number ≡ count
      → report_from form count (limit - count) sequences ≡ tail_form End number
  left_over count limit number sequences more none same =
      let e : limit - count ≡ suc (limit - count - 1) = omega arith in
      rw (none, e, same) (over count (limit - count - 1))

  -- the next line, and what follows it
  pub left_next : (count limit : ℕ) (sequences : List (List Placement)) (sequence : List Placement) (rest : List (List Placement)) → count < limit → sequences ≡ sequence ∷ rest
      → report_from form count (limit - count) sequences ≡ form sequence ++ report_from form (count + 1) (limit - (count + 1)) rest
  left_next count limit sequences sequence rest more first =
      let e : limit - count ≡ suc (limit - (count + 1)) = omega arith in
      rw (first, e) (next count (limit - (count + 1)) sequence rest)

  -- the line that ends a report where no line may follow
  pub left_full : (count limit number : ℕ) (sequences : List (List Placement)) → limit ≤ count → count ≤ limit → number ≡ limit
      → report_from form count (limit - count) sequences ≡ tail_form Limit number
  left_full count limit number sequences past within same =
      let e : limit - count ≡ 0 = omega arith in
      let n : number ≡ count = omega arith in
      rw (e, n) (full count sequences)

  -- nothing is written yet
  pub report_begins : (old : Option (List ℕ)) (limit : ℕ) (sequences : List (List Placement)) → GrowsUpTo old old (report_form form limit sequences) (report_from form 0 (limit - 0) sequences)
  report_begins old limit sequences =
      let e : limit ≡ limit - 0 = omega arith in
      subst (λ rest. GrowsUpTo old old (report_form form limit sequences) rest) (report_whole limit sequences ∙ ap (λ n. report_from form 0 n sequences) e) (begins old (report_form form limit sequences))

-- the same bytes are left
pub left_as : {old new : Option (List ℕ)} {whole left rest : List ℕ} → left ≡ rest → GrowsUpTo old new whole left → GrowsUpTo old new whole rest
left_as {old} {new} {whole} same grown = subst (λ rest. GrowsUpTo old new whole rest) same grown

-- a solution plays in its problem
pub next_plays : (problem : Problem) (view : View) (sequence : List Placement) (rest : List (List Placement)) (all : List (List Placement)) → view.problem ≡ problem → IsList view all → all ≡ sequence ∷ rest → PlaysIn problem sequence
next_plays problem view sequence rest all same list first = search rules

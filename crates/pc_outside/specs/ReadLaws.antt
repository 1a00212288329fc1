-- The laws of reads that follow each other.
use Rattle.std.specs.Prelude.{◌≡◌, ℕ, ◌≤◌, Option, Some, None, List, ◌++◌, drop, length, refl}
use Rattle.std.proofs.Common.{sym, ap, ◌∙◌, arith}
use Rattle.std.proofs.KnownBytes.{Consumes-trans}
use Rattle.std.proofs.lemmas.Option.{same_Some}
use Rattle.std.proofs.lemmas.List.{drop_at, length-append}
use Rattle.pc_outside.specs.Reads.{TakesBytes, TakesFirst, TakesAtMost}

-- what is left where the source tells it
pub takes_told : (old new : Option (List ℕ)) (left bytes : List ℕ) → TakesBytes old new bytes → old ≡ Some left
    → (rest : List ℕ) × (left ≡ bytes ++ rest) × (new ≡ Some rest)
takes_told None new left bytes taken told = cc
takes_told (Some all) None left bytes taken told = absurd taken.consumed
takes_told (Some all) (Some rest) left bytes taken told = (rest, sym (same_Some all left told) ∙ taken.consumed, refl)

-- what two reads took, one after the other
pub takes_more : {old mid new : Option (List ℕ)} {bytes more : List ℕ} → TakesBytes old mid bytes
    → TakesBytes mid new more → TakesBytes old new (bytes ++ more)
takes_more one other = record { consumed = Consumes-trans _ _ _ _ _ one.consumed other.consumed }

-- the bytes that were taken are the first of what was left
pub first_are_taken : {old new : Option (List ℕ)} {bytes : List ℕ} (n : ℕ) → TakesBytes old new bytes → n ≡ length bytes
    → TakesFirst old new n
first_are_taken {old} {new} {bytes} n taken count = record {
  enough = λ left told. let h =
      takes_told old new left bytes taken told in omega (arith, ap length h.1, length-append bytes h.0);
  gone = λ left told.
      let h = takes_told old new left bytes taken told in
      h.2 ∙ ap Some (sym (ap (drop n) h.1 ∙ drop_at bytes h.0 n (sym count)));
}

-- a number that bounds what was taken
pub takes_at_most : {old new : Option (List ℕ)} {bytes : List ℕ} (most : ℕ) → TakesBytes old new bytes
    → length bytes ≤ most → TakesAtMost old new most
takes_at_most {bytes = bytes} most taken bounded =
    record { count = length bytes; bounded = bounded; taken = first_are_taken (length bytes) taken refl }

-- One more placement is written.
use Rattle.std.proofs.Common.{◌≡◌, ℕ, ◌+◌, ◌≤◌, List, [], ◌∷◌, ◌++◌, length, take, drop, ap, sym, ◌∙◌, arith}
use Rattle.std.proofs.lemmas.List.{drop-drop, flat_map_more}
use Rattle.std.proofs.lemmas.Slice.{drop-put_mid, take-put_mid}
use borrow.Rule.Slice.PartMut.{put_mid}
use Rattle.srs.specs.declared.placement.Placement.{Placement}
use Rattle.placement_numbers.specs.Numbers.{numbers_of, sequence_numbers}

module _ (old bytes numbers : List ℕ) (at width : ℕ) (four : width ≡ 4) (room : at + 4 ≤ length bytes) (q : Placement) (is : numbers ≡ numbers_of q) where
  size : length numbers ≡ 4
  size = ap length is

  pub more_written : (front : List ℕ) (done : List Placement) → take at bytes ≡ front ++ sequence_numbers done
      → take (at + 4) (put_mid at width bytes numbers) ≡ front ++ sequence_numbers (done ++ q ∷ [])
  more_written front done written =
      take-put_mid at width bytes numbers (at + 4) (omega (arith, size)) (omega (arith, room))
      ∙ (λ i. written i ++ is i)
      ∙ flat_map_more numbers_of front done q

  pub more_left : drop at bytes ≡ drop at old → drop (at + 4) (put_mid at width bytes numbers) ≡ drop (at + 4) old
  more_left left =
      drop-put_mid at width bytes numbers (at + 4) (omega (arith, four)) (omega (arith, room)) (size ∙ sym four)
      ∙ sym (drop-drop 4 at bytes) ∙ ap (drop 4) left ∙ drop-drop 4 at old

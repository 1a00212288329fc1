-- The text of placements without keys is that of placements with none.
use Rattle.std.proofs.Common.{◌≡◌, List, [], ◌∷◌, ◌++◌, append-nil, refl, sym}
use Rattle.srs.specs.declared.placement.Placement.{Placement}
use Rattle.placement_form.specs.Form.{placement_form}
use Rattle.sequence_text.specs.Plain.{plain_form}
use Rattle.sequence_text.specs.Written.{sequence_form, without_keys}

pub plain_is : (s : List Placement) → plain_form s ≡ sequence_form (without_keys s)
unfolding sequence_form
plain_is [] = refl
plain_is (first ∷ []) = refl
plain_is (first ∷ second ∷ rest) = λ i. sym (append-nil (placement_form first)) i ++ 32 ∷ plain_is (second ∷ rest) i

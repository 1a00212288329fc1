-- The definitions at worked cases, by computing them.
use Rattle.std.proofs.Common.{◌≡◌, ◌∷◌, ◌++◌, replicate, Some, None, Ok, Err, refl}
use Rattle.std.specs.Prelude.{codes}
use Rattle.fumen_digits.specs.declared.dialect.Dialect.TheVariants.{V110, V115}
use Rattle.fumen_digits.specs.Number.{digits}
use Rattle.fumen_digits.specs.declared.fault.FumenFault.TheVariants.{BadDigit, Truncated}
use Rattle.fumen_digits.specs.Reading.{number_at, number_from, value_at}
use Rattle.fumen_digits.specs.Framing.{digits_in, broken, digits_behind}
use Rattle.fumen_digits.specs.Digit.{digit, digit_value}

written : digits 2 2159 ≡ codes "vh"
unfolding digits digit
written = refl

read : number_at (codes "AvhA") 1 2 ≡ Ok 2159
unfolding number_from value_at digit_value
read = refl

truncated : number_at (codes "v") 0 2 ≡ Err (Truncated 0)
unfolding number_from value_at digit_value
truncated = refl

bad : number_at (codes "v-") 0 2 ≡ Err (BadDigit 1)
unfolding number_from value_at digit_value
bad = refl

no_fumen : digits_in (codes "V115@ v114@") ≡ None
unfolding digits_in
no_fumen = refl

framed : digits_in (codes "?&d110@7e\n? A&v115@") ≡ Some (V110, codes "7eA")
unfolding digits_in digits_behind
framed = refl

one_line : broken V115 (replicate 42 65) ≡ codes "v115@" ++ replicate 42 65
unfolding broken
one_line = refl

three_lines : broken V110 (replicate 90 65) ≡ codes "v110@" ++ replicate 42 65 ++ (63 ∷ replicate 47 65) ++ codes "?A"
unfolding broken
three_lines = refl

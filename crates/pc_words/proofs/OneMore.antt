-- The values of pairs, behind which stands one pair more of a new option.
use Rattle.std.proofs.Common.{◌≡◌, ◌∙◌, ℕ, zero, suc, ◌+◌, ◌/◌, ◌%◌, true, false, List, [], ◌∷◌, ◌++◌, length, Option, Some, None, refl, ap, sym, arith, inl, inr, rules}
use Rattle.std.specs.Prelude.{is_some, if◌then◌else◌}
use Rattle.std.specs.Str.{bytes_eq}
use Rattle.std.proofs.Math.Path.{fun_ext}
use Rattle.std.proofs.lemmas.Bool.{cases_Bool}
use Rattle.std.proofs.lemmas.Option.{same_Some}
use Rattle.std.proofs.lemmas.Slice.Eq.{bytes_eq-Decides}
use Rattle.pc_words.specs.declared.options.Command.{Command}
use Rattle.pc_words.specs.declared.options.CommandOption.{CommandOption}
use Rattle.pc_words.specs.declared.options.CommandOption.TheVariants as options
use Rattle.pc_words.specs.declared.options.Values.{Values}
use Rattle.pc_words.specs.Options.{named_in, option_name, option_of, options_of}
use Rattle.pc_words.specs.Values.{is_value_of, no_values, values_by, with_value}
use Rattle.pc_words.specs.Words.{is_given, is_other_field, pair_fault, value_of, values_in}

-- the texts of options, with that of one more
abbrev with_text : (CommandOption → Option (List ℕ)) → CommandOption → List ℕ → CommandOption → Option (List ℕ)
with_text text_of option text other = if bytes_eq (option_name option) (option_name other) then Some text else text_of other

other_name : (x one other : List ℕ) → bytes_eq x other ≡ true → bytes_eq x one ≡ false → bytes_eq one other ≡ false
other_name x one other is is_not = search rules

-- a name with its value behind pairs that do not have it
one_more : (option other : CommandOption) (name text : List ℕ) (before : List (List ℕ)) (half : ℕ) → length before ≡ half + half → option_name option ≡ name → value_of option before ≡ None
    → value_of other (before ++ name ∷ text ∷ []) ≡ with_text (λ o. value_of o before) option text other
unfolding value_of
one_more option other name text [] half size named none = ap (λ n. if bytes_eq n (option_name other) then Some text else None) (sym named)
one_more option other name text (x ∷ []) half size named none = absurd (omega (arith, size))
one_more option other name text (x ∷ y ∷ rest) zero size named none = absurd (omega (arith, size))
one_more option other name text (x ∷ y ∷ rest) (suc half) size named none = elim (cases_Bool (bytes_eq x (option_name option))) [
  | inl mine ↦ let bad : Some y ≡ None = sym (ap (λ b. if b then Some y else value_of option rest) mine) ∙ none in cc
  | inr not_mine ↦
      let rest_none : value_of option rest ≡ None = sym (ap (λ b. if b then Some y else value_of option rest) not_mine) ∙ none in
      let later = one_more option other name text rest half (omega (arith, size)) named rest_none in
      elim (cases_Bool (bytes_eq x (option_name other))) [
        | inl here ↦
            ap (λ b. if b then Some y else value_of other (rest ++ name ∷ text ∷ [])) here
            ∙ sym (ap (λ b. if b then Some text else (if bytes_eq x (option_name other) then Some y else value_of other rest)) (other_name x (option_name option) (option_name other) here not_mine)
            ∙ ap (λ b. if b then Some y else value_of other rest) here)
        | inr there ↦
            ap (λ b. if b then Some y else value_of other (rest ++ name ∷ text ∷ [])) there ∙ later
            ∙ sym (ap (λ b. if bytes_eq (option_name option) (option_name other) then Some text else (if b then Some y else value_of other rest)) there)
      ]
]

-- ---- one value more

taken : (text_of : CommandOption → Option (List ℕ)) (option : CommandOption) (text : List ℕ) (new : Values) → with_value (values_by text_of) option text ≡ Some new
    → values_by (with_text text_of option text) ≡ new
taken text_of option text new is = search rules

-- a value is read exactly where it is one of the option
pub read_known : (values : Values) (option : CommandOption) (text : List ℕ) → is_some (with_value values option text) ≡ is_value_of option text
read_known values option text = search rules

-- ---- the two together

has_name : (name : List ℕ) (list : List CommandOption) (option : CommandOption) → named_in name list ≡ Some option → option_name option ≡ name
unfolding named_in
has_name name [] option is = cc
has_name name (first ∷ rest) option is = elim (cases_Bool (bytes_eq (option_name first) name)) [
  | inl same ↦
      let found : Some first ≡ Some option = sym (ap (λ b. if b then Some first else named_in name rest) same) ∙ is in
      ap option_name (sym (same_Some first option found)) ∙ (bytes_eq-Decides (option_name first) name).0 same
  | inr other ↦ has_name name rest option (sym (ap (λ b. if b then Some first else named_in name rest) other) ∙ is)
]

not_given : (value : Option (List ℕ)) → is_some value ≡ false → value ≡ None
not_given value none = search rules

pub values_more : (command : Command) (option : CommandOption) (name text : List ℕ) (before : List (List ℕ)) (new : Values) → option_of command name ≡ Some option → length before % 2 ≡ 0
    → is_given option before ≡ false → with_value (values_in before) option text ≡ Some new → new ≡ values_in (before ++ name ∷ text ∷ [])
values_more command option name text before new named even none is =
    let named = has_name name (options_of command) option named in
    let half : length before ≡ length before / 2 + length before / 2 = omega (arith, even) in
    let more = λ (other : CommandOption). one_more option other name text before (length before / 2) half named (not_given (value_of option before) none) in
    sym (ap values_by (fun_ext more) ∙ taken (λ o. value_of o before) option text new is)

pub no_pairs : no_values ≡ values_in []
unfolding value_of
no_pairs = refl

-- such a pair has no fault
pub no_pair_fault : (command : Command) (option : CommandOption) (name text : List ℕ) (before : List (List ℕ)) (value : Option (List ℕ)) → option_of command name ≡ Some option
    → is_given option before ≡ false → is_other_field option before ≡ false → value ≡ Some text → is_value_of option text ≡ true → pair_fault command before name value ≡ None
unfolding pair_fault
no_pair_fault command option name text before value named given other is known = search rules

-- A turn of a loop over options takes one, and a turn of a loop over pairs takes a name and its value.
use Rattle.std.proofs.Common.{◌≡◌, ℕ, zero, suc, ◌+◌, ◌<◌, ◌≤◌, true, false, List, [], ◌∷◌, ◌++◌, length, map, drop, take, get_or, Option, Some, None, refl, sym, ap, ◌∙◌, arith, rules}
use Rattle.std.specs.Prelude.{is_some}
use Rattle.std.specs.List.{slice_get}
use Rattle.std.specs.Option.{ForSome}
use Rattle.std.specs.Str.{bytes_eq}
use Rattle.std.proofs.lemmas.List.{get_or-map, drop_all, drop_more}
use Rattle.pc_faults.specs.declared.words_fault.WordsFault.{WordsFault}
use Rattle.pc_words.specs.declared.options.Command.{Command}
use Rattle.pc_words.specs.declared.options.CommandOption.{CommandOption}
use Rattle.pc_words.specs.Options.{named_in, option_name}
use Rattle.pc_words.specs.declared.options.Values.{Values}
use Rattle.pc_words.specs.Words.{pair_fault, pairs_fault, value_of, values_in}

-- the options from one on
pub named_first : (name : List ℕ) (options : List CommandOption) (i : ℕ) (option : CommandOption) → i < length options → bytes_eq (option_name (get_or options i option)) name ≡ true
    → named_in name (drop i options) ≡ Some (get_or options i option)
unfolding named_in
named_first name options i option within same = ap (named_in name) (drop_more options i option within) ∙ rw (same) refl

pub named_next : (name : List ℕ) (options : List CommandOption) (i : ℕ) (option : CommandOption) → i < length options → bytes_eq (option_name (get_or options i option)) name ≡ false
    → named_in name (drop (i + 1) options) ≡ named_in name (drop i options)
unfolding named_in
named_next name options i option within other = sym (ap (named_in name) (drop_more options i option within) ∙ rw (other) refl)

pub named_none : (name : List ℕ) (options : List CommandOption) (i : ℕ) → length options ≤ i → named_in name (drop i options) ≡ None
unfolding named_in
named_none name options i past = ap (named_in name) (drop_all i options past)

-- a list from a place on: the item there, the one after it, and what follows both
record Cut (texts rest tail : List (List ℕ)) (i : ℕ) : Type 0 where
  here : rest ≡ get_or texts i [] ∷ tail
  next : slice_get texts (suc i) ≡ slice_get tail 0
  later : drop (suc (suc i)) texts ≡ drop 1 tail
  taken : (value : List ℕ) → slice_get tail 0 ≡ Some value → take (suc (suc i)) texts ≡ take i texts ++ get_or texts i [] ∷ value ∷ []

two : (x value : List ℕ) (xs : List (List ℕ)) → slice_get xs 0 ≡ Some value → take (suc (suc zero)) (x ∷ xs) ≡ x ∷ value ∷ []
two x value xs is = search rules

cut : (texts : List (List ℕ)) (i : ℕ) → i < length texts → Cut texts (drop i texts) (drop (suc i) texts) i
cut [] i within = absurd (omega arith)
cut (x ∷ xs) zero within = record { here = refl; next = refl; later = refl; taken = λ value is. two x value xs is }
cut (x ∷ xs) (suc i) within = search (rules, cut xs i (omega arith))

-- the pairs from one on, of which the first has the name or not
value_on : (option : CommandOption) (name : List ℕ) (tail : List (List ℕ)) → bytes_eq name (option_name option) ≡ true → value_of option (name ∷ tail) ≡ slice_get tail 0
unfolding value_of
value_on option name tail same = search rules

value_off : (option : CommandOption) (name : List ℕ) (tail : List (List ℕ)) → bytes_eq name (option_name option) ≡ false → value_of option (name ∷ tail) ≡ value_of option (drop 1 tail)
unfolding value_of
value_off option name tail other = search rules

pub value_first : (option : CommandOption) (texts : List (List ℕ)) (i : ℕ) (name : List ℕ) (value : Option (List ℕ)) → i < length texts → name ≡ get_or texts i [] → value ≡ slice_get texts (i + 1)
    → bytes_eq name (option_name option) ≡ true → value ≡ value_of option (drop i texts)
value_first option texts i name value within named valued same =
    let h = cut texts i within in
    let e : i + 1 ≡ suc i = omega arith in
    let at = sym (ap (value_of option) (h.here ∙ ap (λ n. n ∷ drop (suc i) texts) (sym named)) ∙ value_on option name (drop (suc i) texts) same) in
    valued ∙ ap (slice_get texts) e ∙ h.next ∙ at

pub value_next : (option : CommandOption) (texts : List (List ℕ)) (i : ℕ) (name : List ℕ) → i < length texts → name ≡ get_or texts i []
    → bytes_eq name (option_name option) ≡ false → value_of option (drop (i + 2) texts) ≡ value_of option (drop i texts)
value_next option texts i name within named other =
    let h = cut texts i within in
    let e : i + 2 ≡ suc (suc i) = omega arith in
    ap (λ k. value_of option (drop k texts)) e ∙ ap (value_of option) h.later
    ∙ sym (ap (value_of option) (h.here ∙ ap (λ n. n ∷ drop (suc i) texts) (sym named)) ∙ value_off option name (drop (suc i) texts) other)

pub value_none : (option : CommandOption) (texts : List (List ℕ)) (i : ℕ) → length texts ≤ i → value_of option (drop i texts) ≡ None
unfolding value_of
value_none option texts i past = ap (value_of option) (drop_all i texts past)

-- the first fault of pairs that begin with a name
fault_on : (command : Command) (before : List (List ℕ)) (name : List ℕ) (tail : List (List ℕ)) (f : WordsFault)
    → pair_fault command before name (slice_get tail 0) ≡ Some f → pairs_fault command before (name ∷ tail) ≡ Some f
unfolding pairs_fault
fault_on command before name tail f is = search rules

fault_off : (command : Command) (before after : List (List ℕ)) (name : List ℕ) (tail : List (List ℕ)) → ((value : List ℕ) → slice_get tail 0 ≡ Some value → after ≡ before ++ name ∷ value ∷ [])
    → pair_fault command before name (slice_get tail 0) ≡ None → pairs_fault command after (drop 1 tail) ≡ pairs_fault command before (name ∷ tail)
unfolding pairs_fault
fault_off command before after name [] taken is = sym is
fault_off command before after name (y ∷ ys) taken is = search rules

pub fault_first : (command : Command) (texts before : List (List ℕ)) (i : ℕ) (name : List ℕ) (value : Option (List ℕ)) (fault : Option WordsFault) → i < length texts → before ≡ take i texts
    → name ≡ get_or texts i [] → value ≡ slice_get texts (i + 1) → fault ≡ pair_fault command before name value → is_some fault ≡ true → fault ≡ pairs_fault command (take i texts) (drop i texts)
fault_first command texts before i name value None within taken named valued is some = cc
fault_first command texts before i name value (Some f) within taken named valued is some =
    let h = cut texts i within in
    let e : i + 1 ≡ suc i = omega arith in
    let there = valued ∙ ap (slice_get texts) e ∙ h.next in
    let found : pair_fault command (take i texts) (get_or texts i []) (slice_get (drop (suc i) texts) 0) ≡ Some f =
    (λ k. pair_fault command (sym taken k) (sym named k) (sym there k)) ∙ sym is in
    sym (ap (pairs_fault command (take i texts)) h.here ∙ fault_on command (take i texts) (get_or texts i []) (drop (suc i) texts) f found)

pub fault_next : (command : Command) (texts before : List (List ℕ)) (i : ℕ) (name : List ℕ) (value : Option (List ℕ)) (fault : Option WordsFault) → i < length texts → before ≡ take i texts
    → name ≡ get_or texts i [] → value ≡ slice_get texts (i + 1) → fault ≡ pair_fault command before name value → is_some fault ≡ false
    → pairs_fault command (take (i + 2) texts) (drop (i + 2) texts) ≡ pairs_fault command (take i texts) (drop i texts)
fault_next command texts before i name value (Some f) within taken named valued is none_there = cc
fault_next command texts before i name value None within taken named valued is none_there =
    let h = cut texts i within in
    let e : i + 1 ≡ suc i = omega arith in
    let two : i + 2 ≡ suc (suc i) = omega arith in
    let there = valued ∙ ap (slice_get texts) e ∙ h.next in
    let none : pair_fault command (take i texts) (get_or texts i []) (slice_get (drop (suc i) texts) 0) ≡ None =
    (λ k. pair_fault command (sym taken k) (sym named k) (sym there k)) ∙ sym is in
    ap (λ k. pairs_fault command (take k texts) (drop k texts)) two ∙ ap (pairs_fault command (take (suc (suc i)) texts)) h.later
    ∙ fault_off command (take i texts) (take (suc (suc i)) texts) (get_or texts i []) (drop (suc i) texts) h.taken none
    ∙ sym (ap (pairs_fault command (take i texts)) h.here)

pub fault_none : (command : Command) (texts : List (List ℕ)) (i : ℕ) → length texts ≤ i → pairs_fault command (take i texts) (drop i texts) ≡ None
unfolding pairs_fault
fault_none command texts i past = ap (pairs_fault command (take i texts)) (drop_all i texts past)

-- the text of a word
pub text_at : {W : Type 0} (text : W → List ℕ) (words : List W) (i : ℕ) (word : W) → i < length words → word ≡ get_or words i word → text word ≡ get_or (map text words) i []
text_at text words i word within read = ap text read ∙ sym (get_or-map text words i word [] within)

-- the texts of the first words
pub first_texts : {W : Type 0} (text : W → List ℕ) (words : List W) (i : ℕ) → map text (take i words) ≡ take i (map text words)
first_texts text [] zero = refl
first_texts text [] (suc i) = refl
first_texts text (word ∷ words) zero = refl
first_texts text (word ∷ words) (suc i) = ap (λ l. text word ∷ l) (first_texts text words i)

-- the values of one pair more
there_below : (xs : List (List ℕ)) (i : ℕ) → is_some (slice_get xs i) ≡ true → i < length xs
there_below [] i is = cc
there_below (x ∷ xs) zero is = omega arith
there_below (x ∷ xs) (suc i) is = let below = there_below xs i is in omega (arith, below)

pub pair_within : (texts : List (List ℕ)) (i : ℕ) (value : Option (List ℕ)) → value ≡ slice_get texts (i + 1) → is_some value ≡ true → i + 2 ≤ length texts
pair_within texts i value valued some = search (rules, there_below)

pub values_next : (texts before : List (List ℕ)) (i : ℕ) (name : List ℕ) (value : Option (List ℕ)) (after : Values) → i < length texts → before ≡ take i texts → name ≡ get_or texts i [] → value ≡ slice_get texts (i + 1)
    → ForSome value (λ text. after ≡ values_in (before ++ name ∷ text ∷ [])) → is_some value ≡ true → after ≡ values_in (take (i + 2) texts)
values_next texts before i name None after within taken named valued holds some = cc
values_next texts before i name (Some text) after within taken named valued holds some =
    let h = cut texts i within in
    let e : i + 1 ≡ suc i = omega arith in
    let two : i + 2 ≡ suc (suc i) = omega arith in
    let there : slice_get (drop (suc i) texts) 0 ≡ Some text = sym (valued ∙ ap (slice_get texts) e ∙ h.next) in
    holds text refl ∙ (λ k. values_in (taken k ++ named k ∷ text ∷ [])) ∙ sym (ap values_in (h.taken text there)) ∙ ap (λ n. values_in (take n texts)) (sym two)

-- A text is read element by element.
use Rattle.std.proofs.Common.{◌≡◌, ℕ, List, [], ◌∷◌, ◌++◌, append_assoc, Ok, Err, rules}
use Rattle.queue_pattern.specs.declared.element.Element.{Element}
use Rattle.queue_pattern.specs.Grammar.{Elements, elements, read_at, outside, before}

-- these elements before those that follow
abbrev pub after_front : List Element → Elements → Elements
after_front front (Ok rest) = Ok (front ++ rest)
after_front front (Err fault) = Err fault

-- the text spells these elements and then what it spells from a place on
pub record ReadsOn (text : List ℕ) (front : List Element) (place : ℕ) : Type 0 where
  pub reads : elements text ≡ after_front front (read_at text outside place)

pub reads_more : (text : List ℕ) (front : List Element) (place next : ℕ) (element : Element) → ReadsOn text front place
    → read_at text outside place ≡ before (Ok element) (read_at text outside next) → ReadsOn text (front ++ element ∷ []) next
reads_more text front place next element so_far is = search (rules, append_assoc)

pub none_before : (read : Elements) → read ≡ after_front [] read
none_before read = search rules

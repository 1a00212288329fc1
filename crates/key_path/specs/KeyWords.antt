-- Words of keys, and their order.
use Rattle.std.specs.Prelude.{◌≡◌, ℕ, zero, suc, false, List, [], ◌∷◌, length, map}
use Rattle.std.specs.List.{flat_map, range_with_len}
use Rattle.std.specs.Ordering.{ordering_then, nat_cmp, is_gt}
use Rattle.std.specs.declared.cmp.Ordering.{Ordering}
use Rattle.std.specs.Cmp.Lexicographic.{slice_cmp}
use Rattle.moves.specs.declared.key.Key.{Key}
use Rattle.moves.specs.declared.key.Key.TheVariants.{Left, Right, Down, Clockwise, Anti}
use Rattle.moves.specs.Keys.{all_keys}

-- the index of a key in the order L, R, D, C, A
abbrev pub key_index : Key → ℕ
key_index Left = 0
key_index Right = 1
key_index Down = 2
key_index Clockwise = 3
key_index Anti = 4

abbrev pub key_cmp : Key → Key → Ordering
key_cmp key other = nat_cmp (key_index key) (key_index other)

-- by length, then key by key, the first difference deciding
abbrev pub key_word_cmp : List Key → List Key → Ordering
key_word_cmp word other = ordering_then (nat_cmp (length word) (length other)) (slice_cmp key_cmp word other)

-- a key word is not after another one
abbrev pub NotAfter : List Key → List Key → Type 0
NotAfter v w = is_gt (key_word_cmp v w) ≡ false

-- all key words of so many keys, in their order
unfoldable pub key_words_of : ℕ → List (List Key)
key_words_of zero = [] ∷ []
key_words_of (suc n) = flat_map (λ key. map (λ word. key ∷ word) (key_words_of n)) all_keys

-- all key words of fewer than so many keys, in their order
unfoldable pub key_words_below : ℕ → List (List Key)
key_words_below n = flat_map key_words_of (range_with_len 0 n)

-- The order of key words: it is total, and what one more key does in it.
use Rattle.std.proofs.lemmas.Grind.{common_steps}
use Rattle.std.proofs.Common.{◌≡◌, ◌⊎◌, ℕ, suc, ◌<◌, List, [], ◌∷◌, ◌++◌, length, refl, sym, ap, subst, ◌∙◌, arith, rules}
use Rattle.std.specs.Prelude.{slice_index_or}
use Rattle.std.specs.Ordering.{ordering_then, nat_cmp, is_gt}
use Rattle.std.specs.Cmp.{IsTotalOrder, nat_cmp_total, on_total, then_total, tied_itself}
use Rattle.std.specs.Cmp.Lexicographic.{slice_cmp, lists_total}
use Rattle.std.specs.FinMap.{IsAntisymmetric, nat_cmp-IsAntisymmetric, slice_cmp-IsAntisymmetric}
use Rattle.std.specs.declared.cmp.Ordering.{Ordering}
use Rattle.std.specs.declared.cmp.Ordering.TheVariants.{Less, Equal}
use Rattle.std.proofs.lemmas.Cmp.{ranked, upto}
use Rattle.std.proofs.lemmas.List.{length-append, append-nil}
use Rattle.srs.proofs.CallerLemmas.{below_is_less, then_second}
use Rattle.moves.specs.declared.key.Key.{Key}
use Rattle.moves.specs.declared.key.Key.TheVariants.{Left}
use Rattle.moves.specs.Keys.{all_keys}
use Rattle.key_path.specs.KeyWords.{key_index, key_cmp, key_word_cmp, NotAfter}

-- the key with an index
abbrev pub key_at : ℕ → Key
key_at index = slice_index_or all_keys index Left

pub key_at-index : (key : Key) → key_at (key_index key) ≡ key
key_at-index key = search rules

pub key_index-injective : (key other : Key) → key_index key ≡ key_index other → key ≡ other
key_index-injective key other e = sym (key_at-index key) ∙ ap key_at e ∙ key_at-index other

pub key_index-small : (key : Key) → key_index key < 5
key_index-small key = search rules

pub key_index-at : (index : ℕ) → index < 5 → key_index (key_at index) ≡ index
key_index-at index below = search rules

key_cmp-total : IsTotalOrder key_cmp
key_cmp-total = on_total key_index nat_cmp_total

key_cmp-antisymmetric : IsAntisymmetric key_cmp
key_cmp-antisymmetric key other e = key_index-injective key other (nat_cmp-IsAntisymmetric _ _ e)

pub word_cmp-total : IsTotalOrder key_word_cmp
word_cmp-total = then_total (on_total (λ (word : List Key). length word) nat_cmp_total) (lists_total key_cmp-total)

pub word_cmp-antisymmetric : IsAntisymmetric key_word_cmp
word_cmp-antisymmetric v w e = slice_cmp-IsAntisymmetric key_cmp-antisymmetric v w (then_second (nat_cmp (length v) (length w)) (slice_cmp key_cmp v w) e)

pub not_after-itself : (v : List Key) → NotAfter v v
not_after-itself v = ap is_gt (tied_itself word_cmp-total v)

pub not_after-trans : (u v w : List Key) → NotAfter u v → NotAfter v w → NotAfter u w
not_after-trans = upto word_cmp-total

pub not_after-before : (v w : List Key) → key_word_cmp v w ≡ Less → NotAfter v w
not_after-before v w e = ap is_gt e

-- a key word that is not after another one is before it or is it
pub not_after-cases : (v w : List Key) → NotAfter v w → (key_word_cmp v w ≡ Less) ⊎ (v ≡ w)
not_after-cases v w not = search (rules, word_cmp-antisymmetric)

-- before a key word that is not after another one is before that
pub before_not_after : (u v w : List Key) → key_word_cmp u v ≡ Less → NotAfter v w → key_word_cmp u w ≡ Less
before_not_after u v w first not = search (rules, not_after-cases, word_cmp-total)

-- a shorter key word is before a longer one
pub shorter_before : (v w : List Key) → length v < length w → key_word_cmp v w ≡ Less
shorter_before v w shorter = ap (λ o. ordering_then o (slice_cmp key_cmp v w)) (below_is_less _ _ shorter)

-- between key words of one length the keys decide
pub as_long : (v w : List Key) → length v ≡ length w → key_word_cmp v w ≡ slice_cmp key_cmp v w
as_long v w same = ap (λ o. ordering_then o (slice_cmp key_cmp v w)) (subst (λ n. nat_cmp (length v) n ≡ Equal) same (tied_itself nat_cmp_total (length v)))

before_cases : (v w : List Key) → key_word_cmp v w ≡ Less → (length v < length w) ⊎ ((length v ≡ length w) × (slice_cmp key_cmp v w ≡ Less))
before_cases v w = search (rules, ranked)

then_cases : (a b : Ordering) → ordering_then a b ≡ Less → (a ≡ Less) ⊎ ((a ≡ Equal) × (b ≡ Less))
then_cases a b e = search rules

-- the first difference decides, whatever follows
first_difference : (v w xs ys : List Key) → length v ≡ length w → slice_cmp key_cmp v w ≡ Less → slice_cmp key_cmp (v ++ xs) (w ++ ys) ≡ Less
first_difference [] [] xs ys same e = absurd cc
first_difference [] (y ∷ w) xs ys same e = absurd (omega arith)
first_difference (x ∷ v) [] xs ys same e = absurd (omega arith)
first_difference (x ∷ v) (y ∷ w) xs ys same e = search (rules, (then_cases (key_cmp x y) (slice_cmp key_cmp v w) e), (first_difference v w xs ys))

-- what two key words begin with alike decides nothing
same_front : (front v w : List Key) → slice_cmp key_cmp (front ++ v) (front ++ w) ≡ slice_cmp key_cmp v w
same_front [] v w = refl
same_front (x ∷ front) v w = ap (λ o. ordering_then o (slice_cmp key_cmp (front ++ v) (front ++ w))) (tied_itself key_cmp-total x) ∙ same_front front v w

-- a key word is before what it begins
pub before_longer : (v : List Key) (key : Key) (w : List Key) → key_word_cmp v (v ++ key ∷ w) ≡ Less
before_longer v key w = shorter_before v (v ++ key ∷ w) (omega (arith, length-append v (key ∷ w)))

pub not_after-front : (v w : List Key) → NotAfter v (v ++ w)
not_after-front v w = grind (arith, common_steps, append-nil, not_after-itself, not_after-before, before_longer)

-- with one more key a lesser key word stays the lesser one, whatever the keys are
pub more_before : (v w : List Key) (key other : Key) → key_word_cmp v w ≡ Less → key_word_cmp (v ++ key ∷ []) (w ++ other ∷ []) ≡ Less
more_before v w key other less = search (rules, before_cases, shorter_before, length-append, as_long, first_difference)

-- an earlier key makes of one key word the lesser one
pub key_before : (v : List Key) (key other : Key) → key_index key < key_index other → key_word_cmp (v ++ key ∷ []) (v ++ other ∷ []) ≡ Less
key_before v key other less = search (rules, as_long, length-append, same_front, below_is_less)

-- the same key makes of a key word that is not after another one no later one
pub more_not_after : (v w : List Key) (key : Key) → NotAfter v w → NotAfter (v ++ key ∷ []) (w ++ key ∷ [])
more_not_after v w key not = search (rules, not_after-cases, not_after-before, more_before, not_after-itself)

-- no key word is before another one and after it
pub not_both : (v w : List Key) → key_word_cmp v w ≡ Less → key_word_cmp w v ≡ Less → ⊥
not_both v w less more = let tied : key_word_cmp v v ≡ Equal = tied_itself word_cmp-total v in let itself : key_word_cmp v v ≡ Less = word_cmp-total.trans v w v less more in cc

-- no key word is before one that is not after it
pub not_earlier : (v w : List Key) → NotAfter v w → key_word_cmp w v ≡ Less → ⊥
not_earlier v w not less = search (rules, not_after-cases, not_both, word_cmp-total)

-- the same first key changes nothing, and between key words of one length a lesser first key decides
pub more_first : (key : Key) (v w : List Key) → key_word_cmp v w ≡ Less → key_word_cmp (key ∷ v) (key ∷ w) ≡ Less
more_first key v w less = search (rules, before_cases, shorter_before, as_long, same_front)

pub first_key : (j k : Key) (v w : List Key) → key_cmp j k ≡ Less → length v ≡ length w → key_word_cmp (j ∷ v) (k ∷ w) ≡ Less
first_key j k v w less same = as_long (j ∷ v) (k ∷ w) (ap suc same) ∙ ap (λ o. ordering_then o (slice_cmp key_cmp v w)) less

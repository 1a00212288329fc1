-- What is written for a text spells it.
use Rattle.std.proofs.Common.{◌≡◌, ℕ, zero, suc, ◌*◌, ◌^◌, ◌<◌, ◌≤◌, true, ltb, List, [], ◌∷◌, length, take, drop, All, Ok, refl, sym, ap, arith, rules}
use Rattle.std.specs.List.{list_all, AllByRecursion}
use Rattle.std.proofs.Math.Nat.{pow-succ', pow-le-pow_right}
use Rattle.std.proofs.lemmas.Bool.{lt-ltb, and_from}
use Rattle.std.proofs.lemmas.List.{take_min, length-take, length-drop, take-append-drop, nil_from_length}
use Rattle.std.proofs.lemmas.List.Elements.{recursion_from_All, All-take, All-drop}
use Rattle.fumen_digits.specs.Digit.{AreDigits}
use Rattle.fumen_digits.proofs.CallerLemmas.{AreDigits-append, AreDigits-flat_map, AreDigits-digits}
use Rattle.fumen_digits.specs.Number.{Stands}
use Rattle.fumen_comment.specs.Escape.{IsPrintable}
use Rattle.fumen_comment.specs.Unescape.{unescaped}
use Rattle.fumen_comment.specs.Part.{packed, unpacked, group_count, groups_of, comment_digits, is_group, AreGroups, SpellsText, SpellsComment}
use Rattle.fumen_comment.specs.Reading.{comment_at}
use Rattle.fumen_comment.proofs.Packing.{length-unpacked}
use Rattle.fumen_comment.proofs.Groups.{characters_of, characters_of-is}
use Rattle.fumen_comment.proofs.CommentReadAsSpelled.{read_from_comment}

-- ---- one group

-- packed characters are unpacked again
unpacked-packed : (count : ℕ) (text : List ℕ) → length text ≤ count → AllByRecursion IsPrintable text → take (length text) (unpacked count (packed text)) ≡ text
unfolding packed unpacked
unpacked-packed count [] le each = refl
unpacked-packed zero (c ∷ text) le each = absurd (omega arith)
unpacked-packed (suc count) (c ∷ text) le each = search (rules, unpacked-packed count text (omega arith) each.1)

packed_below : (text : List ℕ) → AllByRecursion IsPrintable text → packed text < 96 ^ length text
unfolding packed
packed_below [] each = omega arith
packed_below (c ∷ text) each = search (rules, pow-succ', packed_below text each.1)

all_small : (text : List ℕ) → AllByRecursion IsPrintable text → list_all (λ c. ltb c 127) text ≡ true
all_small [] each = refl
all_small (c ∷ text) each = and_from (ltb c 127) (list_all (λ k. ltb k 127) text) (lt-ltb c 127 (omega (arith, each.0.1))) (all_small text each.1)

-- the characters of the next group are the next characters
next_group : (text : List ℕ) → All IsPrintable text → take (length text) (unpacked 4 (packed (take 4 text))) ≡ take 4 text
next_group text each =
    search (rules, (length-take 4 text), (length-unpacked 4 (packed (take 4 text))), (take_min (length text) (unpacked 4 (packed (take 4 text)))), (unpacked-packed 4 (take 4 text)), (recursion_from_All IsPrintable (take 4 text) (All-take IsPrintable 4 text each)))

group_is_good : (text : List ℕ) → All IsPrintable text → is_group (length text) (packed (take 4 text)) ≡ true
unfolding is_group
group_is_good text each =
    search (rules, (length-take 4 text), pow-le-pow_right, (packed_below (take 4 text) (recursion_from_All IsPrintable (take 4 text) (All-take IsPrintable 4 text each))), (and_from (ltb (packed (take 4 text)) (96 ^ 4)) (list_all (λ c. ltb c 127) (take (length text) (unpacked 4 (packed (take 4 text)))))), (lt-ltb (packed (take 4 text)) (96 ^ 4)), (next_group text each), (all_small (take 4 text) (recursion_from_All IsPrintable (take 4 text) (All-take IsPrintable 4 text each))))

-- ---- all groups

groups_good : (count : ℕ) (text : List ℕ) → All IsPrintable text → AreGroups (length text) (groups_of count text)
unfolding groups_of
groups_good zero text each = tt
groups_good (suc count) text each = search (rules, (group_is_good text each), (length-drop 4 text), (groups_good count (drop 4 text) (All-drop IsPrintable 4 text each)))

groups_count : (count : ℕ) (text : List ℕ) → length (groups_of count text) ≡ count
unfolding groups_of
groups_count zero text = refl
groups_count (suc count) text = ap suc (groups_count count (drop 4 text))

groups_hold : (count : ℕ) (text : List ℕ) → length text ≤ 4 * count → All IsPrintable text → characters_of (length text) (groups_of count text) ≡ text
unfolding groups_of
groups_hold zero text le each = sym (nil_from_length text (omega arith))
groups_hold (suc count) text le each =
    search (rules, (length-drop 4 text), (groups_hold count (drop 4 text)), (All-drop IsPrintable 4 text each), (next_group text each), (take-append-drop 4 text))

pub written_spells : (text : List ℕ) → length text ≤ 4095 → All IsPrintable text → SpellsText text (comment_digits text)
unfolding comment_digits
written_spells text short printable =
    search (rules, (groups_count (group_count (length text)) text), (groups_good (group_count (length text)) text printable), (groups_hold (group_count (length text)) text), (characters_of-is (length text) (groups_of (group_count (length text)) text)))

pub written_comment : (text : List ℕ) → length text ≤ 4095 → All IsPrintable text → SpellsComment (unescaped text) (comment_digits text)
written_comment text short printable = record { text = text; spells = written_spells text short printable; means = refl }

pub written_read : (ds : List ℕ) (place : ℕ) (text : List ℕ) (end : ℕ) → length text ≤ 4095 → All IsPrintable text → Stands ds place (comment_digits text) end → comment_at ds place ≡ Ok (unescaped text, end)
written_read ds place text end short printable s = search (rules, read_from_comment, written_comment)

pub written_digits : (text : List ℕ) → AreDigits (comment_digits text)
unfolding comment_digits
written_digits text = search (rules, AreDigits-append, AreDigits-digits, AreDigits-flat_map)

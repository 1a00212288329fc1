-- Writing the groups of a text one after the other, as a loop does.
use Rattle.std.proofs.Common.{◌≡◌, ℕ, suc, ◌<◌, ◌≤◌, min, List, ◌∷◌, ◌++◌, length, take, drop, All, refl, sym, ap, subst, ◌∙◌, append_assoc, arith, rules}
use Rattle.std.specs.List.{flat_map}
use Rattle.std.proofs.lemmas.Bool.{cases_lt}
use Rattle.std.proofs.lemmas.List.{append-nil, take_at, drop_at, take_all, drop_all, take-append-le, length-append, length-take, nil_from_length}
use Rattle.std.proofs.lemmas.List.Elements.{All-drop}
use Rattle.fumen_digits.specs.Number.{digits}
use Rattle.fumen_comment.specs.Escape.{IsPrintable}
use Rattle.fumen_comment.specs.Part.{packed, group_count, groups_of, comment_digits}

abbrev pub groups : List ℕ → List ℕ
groups text = groups_of (group_count (length text)) text

-- what is appended so far and the groups of what is left are the whole part, and what stood before still stands
pub record IsWrittenSoFar (old escaped out rest : List ℕ) (size : ℕ) : Type 0 where
  pub four : size ≡ 4
  pub printable : All IsPrintable rest
  pub kept : take (length old) out ≡ old
  pub completes : out ++ flat_map (digits 5) (groups rest) ≡ old ++ comment_digits escaped

pub written_starts : (old escaped out rest : List ℕ) (size : ℕ) → size ≡ 4 → rest ≡ escaped → All IsPrintable escaped → out ≡ old ++ digits 2 (length escaped) → IsWrittenSoFar old escaped out rest size
unfolding comment_digits
written_starts old escaped out rest size four all printable is = search (rules, take_at, append_assoc)

-- the first four characters, or all where fewer are left
record IsChunk (rest chunk next : List ℕ) : Type 0 where
  front : take 4 rest ≡ chunk
  back : drop 4 rest ≡ next
  count : group_count (length rest) ≡ suc (group_count (length next))

chunk_of : (rest chunk next : List ℕ) → rest ≡ chunk ++ next → length chunk ≡ min 4 (length rest) → 0 < length rest → IsChunk rest chunk next
chunk_of rest chunk next parts len some =
    search (rules, (length-append chunk next), (cases_lt (length rest) 4), (nil_from_length next), (append-nil chunk), (take_all 4 rest), (drop_all 4 rest), (take_at chunk next 4), (drop_at chunk next 4))

groups_next : (rest chunk next : List ℕ) → IsChunk rest chunk next → groups rest ≡ packed chunk ∷ groups next
unfolding groups_of
groups_next rest chunk next is = rw (is.count, is.front, is.back) refl

pub written_more : (old escaped out rest chunk next written : List ℕ) (size next_size : ℕ) → rest ≡ chunk ++ next → length chunk ≡ min size (length rest) → 0 < length rest → next_size ≡ size
    → written ≡ out ++ digits 5 (packed chunk) → IsWrittenSoFar old escaped out rest size → IsWrittenSoFar old escaped written next next_size
written_more old escaped out rest chunk next written size next_size parts len some same written_is s =
    let four : length chunk ≡ min 4 (length rest) = len ∙ ap (λ (n : ℕ). min n (length rest)) s.four in
    let is = chunk_of rest chunk next parts four some in
    let first : flat_map (digits 5) (groups rest) ≡ digits 5 (packed chunk) ++ flat_map (digits 5) (groups next) = ap (λ (x : List ℕ). flat_map (digits 5) x) (groups_next rest chunk next is) in
    let room : length old ≤ length out = omega (arith, length-take (length old) out, ap length s.kept) in
    record {
      four = same ∙ s.four;
      printable = subst (λ (x : List ℕ). All IsPrintable x) is.back (All-drop IsPrintable 4 rest s.printable);
      kept = ap (λ (x : List ℕ). take (length old) x) written_is ∙ (take-append-le (length old) out (digits 5 (packed chunk)) room ∙ s.kept);
      completes = ap (λ (x : List ℕ). x ++ flat_map (digits 5) (groups next)) written_is ∙ (append_assoc out (digits 5 (packed chunk)) (flat_map (digits 5) (groups next)) ∙ (ap (λ (x : List ℕ). out ++ x) (sym first) ∙ s.completes));
    }

pub written_all : (old escaped out rest : List ℕ) (size : ℕ) → length rest ≡ 0 → IsWrittenSoFar old escaped out rest size → out ≡ old ++ comment_digits escaped
unfolding groups_of
written_all old escaped out rest size none s = search (rules, nil_from_length, append-nil)

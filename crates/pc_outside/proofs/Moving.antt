-- A buffer whose front is replaced by the front of what was left has the bytes that moved.
use Rattle.std.proofs.Common.{◌≡◌, ℕ, ◌<◌, ◌≤◌, ◌↔◌, List, [], ◌++◌, length, take, drop, sym, ap, subst, ◌∙◌, Some, arith}
use Rattle.std.proofs.lemmas.List.{length-take, nil_from_length, take-append-drop, take_at}
use Rattle.std.proofs.lemmas.Option.{same_Some}
use Rattle.pc_outside.specs.Reads.{Moves}

pub moves_front : (bytes before after rest : List ℕ) (n : ℕ) → after ≡ take n bytes ++ drop n before → rest ≡ drop n bytes → n ≤ length before → n ≤ length bytes
    → (0 < length before → n ≡ 0 → length bytes ≡ 0) → Moves (Some bytes) (Some rest) before after n
moves_front bytes before after rest n moved left room enough some =
    let len : length (take n bytes) ≡ n = omega (arith, length-take n bytes) in
    let front : take n after ≡ take n bytes = ap (take n) moved ∙ take_at (take n bytes) (drop n before) n len in
    record {
      within = room;
      taken = record { consumed = rw (front, left) (sym (take-append-drop n bytes)) };
      ended = λ has all told. subst (λ l. (n ≡ 0) ↔ (l ≡ [])) (same_Some bytes all told) (at_end has);
    } where
      at_end : 0 < length before → (n ≡ 0) ↔ (bytes ≡ [])
      at_end has = (λ none. nil_from_length bytes (some has none), λ none. let e : length bytes ≡ 0 = ap length none in omega arith)

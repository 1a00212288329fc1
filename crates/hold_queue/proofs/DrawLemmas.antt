-- The families after a draw, case by case.
use Rattle.std.proofs.Common.{◌≡◌, ℕ, zero, suc, ◌<◌, if◌then◌else◌, Bool, true, false, not, ◌&&◌, ◌||◌, ◌==◌, Option, Some, None, refl, ap, ◌∙◌, sym, inl, inr, arith, ap₂, rules}
use Rattle.std.proofs.lemmas.Bool.{cases_Bool, cases_lt, or_cases, or_left, or_right, and_right}
use Rattle.srs.specs.declared.piece.Piece.{Piece}
use Rattle.queue_pattern.specs.Queues.{is_in}
use Rattle.hold_queue.specs.declared.family.Family.{Family}
use Rattle.hold_queue.specs.declared.family.Draw.{Draw}
use Rattle.hold_queue.specs.Family.{has_set, with_piece, any_below, after_draw, IsDrawn}
use Rattle.hold_queue.proofs.FamilyBits.{has_set-empty, has_set-one}

-- a number below n that passes, where there is one
pub any_below-from : (test : ℕ → Bool) (n : ℕ) → any_below test n ≡ true → (k : ℕ) × (k < n) × (test k ≡ true)
unfolding any_below
any_below-from test zero h = cc
any_below-from test (suc n) h = search (rules, or_cases, (any_below-from test n))

pub any_below-to : (test : ℕ → Bool) (n k : ℕ) → k < n → test k ≡ true → any_below test n ≡ true
unfolding any_below
any_below-to test zero k within passes = absurd (omega arith)
any_below-to test (suc n) k within passes = search (rules, cases_lt, or_right, or_left, (any_below-to test n k))

any_below-none : (test : ℕ → Bool) (n : ℕ) → ((k : ℕ) → k < n → test k ≡ false) → any_below test n ≡ false
any_below-none test n none = elim (cases_Bool (any_below test n)) [
  | inl some ↦ let found = any_below-from test n some in cc (none found.0 found.1, found.2)
  | inr fails ↦ fails
]

fails : (inside last : Bool) (b c : Bool) → b ≡ false → c ≡ false → (if inside then (if last then b else c) else false) ≡ false
fails inside last b c e f = search rules

abbrev empty : Family
empty = record { low = 0; high = 0 }

pub drawn_from_none : (draw : Option Draw) (piece : Piece) (before : Family) → draw ≡ None → IsDrawn draw piece before empty
unfolding after_draw
drawn_from_none draw piece before is = record { each = λ set within. has_set-empty set ∙ sym (ap (λ d. after_draw d piece (has_set before) set) is) }

-- nothing is drawn where no set is
pub drawn_from_empty : (draw : Option Draw) (piece : Piece) (before : Family) → ((set : ℕ) → set < 128 → has_set before set ≡ false) → IsDrawn draw piece before empty
unfolding after_draw with_piece
drawn_from_empty draw piece before none = search (rules, has_set-empty, and_right, fails, any_below-none)

pub drawn_outside : (draw : Option Draw) (d : Draw) (piece : Piece) (before : Family) → draw ≡ Some d → is_in piece d.element.set ≡ false → IsDrawn draw piece before empty
unfolding after_draw
drawn_outside draw d piece before is out = record { each = λ set within. has_set-empty set ∙ sym (ap (λ d. after_draw d piece (has_set before) set) is ∙ rw out refl) }

pub drawn_within : (draw : Option Draw) (d : Draw) (piece : Piece) (before after : Family) → draw ≡ Some d → is_in piece d.element.set ≡ true → d.is_last ≡ false
    → ((set : ℕ) → set < 128 → has_set after set ≡ with_piece piece (has_set before) set) → IsDrawn draw piece before after
unfolding after_draw
drawn_within draw d piece before after is inside more each = record { each = λ set within. each set within ∙ sym (ap (λ d. after_draw d piece (has_set before) set) is ∙ rw (inside, more) refl) }

same_below : (f g : ℕ → Bool) (n : ℕ) → ((k : ℕ) → k < n → f k ≡ g k) → any_below f n ≡ any_below g n
unfolding any_below
same_below f g zero same = refl
same_below f g (suc n) same = ap₂ ◌||◌ (same n (omega arith)) (same_below f g n (λ k within. same k (omega arith)))

pub drawn_last : (draw : Option Draw) (d : Draw) (piece : Piece) (before moved after : Family) → draw ≡ Some d → is_in piece d.element.set ≡ true → d.is_last ≡ true
    → ((set : ℕ) → set < 128 → has_set moved set ≡ with_piece piece (has_set before) set)
    → ((set : ℕ) → set < 128 → has_set after set ≡ (set == 0 && any_below (has_set moved) 128)) → IsDrawn draw piece before after
unfolding after_draw
drawn_last draw d piece before moved after is inside last each begins = search (rules, same_below)

-- at the end of an element no set is left where none was
pub begins_none : (moved : Family) → ((set : ℕ) → set < 128 → has_set moved set ≡ false) → (set : ℕ) → set < 128
    → has_set empty set ≡ (set == 0 && any_below (has_set moved) 128)
begins_none moved none set within = has_set-empty set ∙ sym (and_right (set == 0) _ (any_below-none (has_set moved) 128 none))

and_true : (b c : Bool) → c ≡ true → b ≡ (b && c)
and_true b c e = search rules

-- and else the empty set is
pub begins_some : (moved : Family) → (((set : ℕ) → set < 128 → has_set moved set ≡ false) → ⊥) → (set : ℕ) → set < 128
    → has_set (record { low = 1; high = 0 }) set ≡ (set == 0 && any_below (has_set moved) 128)
begins_some moved some set within = has_set-one set within ∙ and_true (set == 0) _ there
  where
    there : any_below (has_set moved) 128 ≡ true
    there = elim (cases_Bool (any_below (has_set moved) 128)) [
      | inl is ↦ is
      | inr not ↦ absurd (some (λ k within. elim (cases_Bool (has_set moved k)) [
        | inl has ↦ cc (any_below-to (has_set moved) 128 k within has, not)
        | inr lacks ↦ lacks
      ]))
    ]

-- The walk goes through the sets of pieces in rising order: each hand that an order serves is found, or waits at a set
-- from which the rest of the order goes on.
use Rattle.std.proofs.Common.{◌≡◌, ◌⊎◌, ◌↔◌, ℕ, zero, suc, ◌+◌, ◌^◌, ◌<◌, ◌≤◌, Bool, true, false, ◌||◌, if◌then◌else◌, bit_or, List, [], ◌∷◌, length, replicate, slice_index, slice_set, refl, sym, ap, subst, ◌∙◌, inl, inr, arith, rules}
use Rattle.std.proofs.lemmas.Bool.{both_ways, cases_Bool, cases_eq, cases_lt}
use Rattle.std.proofs.lemmas.List.{get_or-replicate, get_or-set_other, get_or-set_same, get_or_past}
use Rattle.std.proofs.lemmas.Nat.{pow_pos}
use Rattle.lane_board.specs.Field.{Field, difference}
use Rattle.lane_board.specs.Lanes.{has_bit}
use Rattle.lane_board.proofs.CallerLemmas.{has_bit-or, has_bit-zero}
use Rattle.tiled_pieces.specs.declared.laid.Laid.{Laid}
use Rattle.tiled_pieces.specs.Orders.{HasOrder, IsCarried, MayFollow, UsesUp, Visits, cells_at, left_after, number_after, weight_at}
use Rattle.tiled_pieces.proofs.SetLemmas.{joined_above, joined_below, left_joined, number_joined, taken}

module _ (pieces : List Laid) (drops : Bool) (allowed : List ℕ) (pending : ℕ) (E : Field) where
  -- a hand waits at a set that is still to come
  pub record Waits (table : List ℕ) (m bit : ℕ) : Type 0 where
    pub set : ℕ
    pub from : m ≤ set
    pub below : set < 2 ^ length pieces
    pub has : has_bit (slice_index table set) bit ≡ true
    pub more : List ℕ
    pub goes : UsesUp pieces drops allowed bit (left_after pieces E set (length pieces)) (number_after pieces set (length pieces)) more

  -- a hand came to a set by some order of its pieces
  pub record Came (set bit : ℕ) : Type 0 where
    pub pends : has_bit pending bit ≡ true
    pub orders : (more : List ℕ) → UsesUp pieces drops allowed bit (left_after pieces E set (length pieces)) (number_after pieces set (length pieces)) more
        → HasOrder pieces drops allowed bit E

  -- the walk has visited the sets before m
  pub record Walked (table : List ℕ) (found m : ℕ) : Type 0 where
    pub comes : (bit : ℕ) → has_bit pending bit ≡ true → HasOrder pieces drops allowed bit E → (has_bit found bit ≡ true) ⊎ Waits table m bit
    pub came : (set bit : ℕ) → has_bit (slice_index table set) bit ≡ true → Came set bit
    pub found_is : (bit : ℕ) → has_bit found bit ≡ true → (has_bit pending bit ≡ true) × HasOrder pieces drops allowed bit E

  uses_same : (bit : ℕ) (F G : Field) (k l : ℕ) (more : List ℕ) → F ≡ G → k ≡ l → UsesUp pieces drops allowed bit F k more → UsesUp pieces drops allowed bit G l more
  uses_same bit F G k l more same equal goes =
      subst (λ (F : Field). UsesUp pieces drops allowed bit F l more) same (subst (λ k. UsesUp pieces drops allowed bit F k more) equal goes)

  none_left : (n : ℕ) → left_after pieces E 0 n ≡ E
  unfolding left_after
  none_left zero = refl
  none_left (suc n) = ap (λ (b : Bool). if b then difference (left_after pieces E 0 n) (cells_at pieces n) else left_after pieces E 0 n) (has_bit-zero n) ∙ none_left n

  no_number : (n : ℕ) → number_after pieces 0 n ≡ 0
  unfolding number_after
  no_number zero = refl
  no_number (suc n) = ap (λ (b : Bool). number_after pieces 0 n + (if b then weight_at pieces n else 0)) (has_bit-zero n) ∙ omega (arith, no_number n)

  zeros : (s : ℕ) → slice_index (replicate 512 0) s ≡ 0
  zeros s = elim (cases_lt s 512) [
    | inl low ↦ get_or-replicate 512 s 0 0 low
    | inr high ↦ get_or_past (replicate 512 0) s 0 high
  ]

  pub walk_start : Walked (slice_set (replicate 512 0) 0 pending) 0 0
  walk_start = record {
    comes = λ bit pends some. inr (record {
      set = 0;
      from = omega arith;
      below = pow_pos (length pieces);
      has = ap (λ n. has_bit n bit) (get_or-set_same (replicate 512 0) 0 pending 0 (omega arith)) ∙ pends;
      more = some.order;
      goes = uses_same bit _ _ _ _ some.order (sym (none_left (length pieces))) (sym (no_number (length pieces))) some.uses_up;
    });
    came = λ set bit has. elim (cases_eq set 0) [
      | inl same ↦ rw same (record {
        pends = ap (λ n. has_bit n bit) (sym (get_or-set_same (replicate 512 0) 0 pending 0 (omega arith))) ∙ ap (λ s. has_bit (slice_index (slice_set (replicate 512 0) 0 pending) s) bit) (sym same) ∙ has;
        orders = λ more goes. record { order = more; uses_up = uses_same bit _ _ _ _ more (none_left (length pieces)) (no_number (length pieces)) goes };
      })
      | inr other ↦ absurd (both_ways _ (ap (λ n. has_bit n bit) (get_or-set_other (replicate 512 0) 0 set pending 0 other ∙ zeros set) ∙ has_bit-zero bit) has)
    ];
    found_is = λ bit has. absurd (both_ways _ (has_bit-zero bit) has);
  }

  is_one : (p q : Bool) → (p || q) ≡ true → (p ≡ true) ⊎ (q ≡ true)
  is_one true q e = inl refl
  is_one false q e = inr e

  or_left : (p q : Bool) → p ≡ true → (p || q) ≡ true
  or_left p q e = search rules

  or_right : (p q : Bool) → q ≡ true → (p || q) ≡ true
  or_right p q e = search rules

  -- one set more
  module _ (table new : List ℕ) (found more_found m : ℕ) (small : m < 2 ^ length pieces) (visits : Visits pieces drops allowed E m table new more_found) (walked : Walked table found m) where
    abbrev left : Field
    left = left_after pieces E m (length pieces)

    abbrev number : ℕ
    number = number_after pieces m (length pieces)

    -- a piece of the set does not follow
    unset : (bit i : ℕ) → MayFollow pieces drops allowed bit left number i → has_bit m i ≡ false
    unset bit i follows = elim (cases_Bool (has_bit m i)) [
      | inl has ↦
          let rests = follows.fits.rests in
          absurd (both_ways _ (taken pieces E m i (length pieces) rests.x rests.y has follows.known (follows.fits.inside rests.x rests.y rests.there)) rests.there)
      | inr none ↦ none
    ]

    moves : (bit : ℕ) → has_bit (slice_index table m) bit ≡ true → (rest : List ℕ) → UsesUp pieces drops allowed bit left number rest →
        (has_bit (bit_or found more_found) bit ≡ true) ⊎ Waits new (m + 1) bit
    unfolding UsesUp
    moves bit hand [] goes = inl (has_bit-or found more_found bit ∙ or_right (has_bit found bit) (has_bit more_found bit) (visits.ends bit goes hand))
    moves bit hand (i ∷ rest) goes =
        let none = unset bit i goes.0 in
        inr (record {
          set = bit_or m (2 ^ i);
          from = omega (arith, joined_above m i none);
          below = joined_below m i (length pieces) small goes.0.known;
          has = visits.carries.carries i bit goes.0.known (record { unset = none; hand = hand; follows = goes.0 });
          more = rest;
          goes = uses_same bit _ _ _ _ rest (sym (left_joined pieces E m i none (length pieces) goes.0.known)) (sym (number_joined pieces E m i none (length pieces) goes.0.known)) goes.1;
        })

    on : (bit : ℕ) → (has_bit found bit ≡ true) ⊎ Waits table m bit → (has_bit (bit_or found more_found) bit ≡ true) ⊎ Waits new (m + 1) bit
    on bit (inl has) = inl (has_bit-or found more_found bit ∙ or_left (has_bit found bit) (has_bit more_found bit) has)
    on bit (inr waits) = elim (cases_eq waits.set m) [
      | inl same ↦ moves bit (ap (λ s. has_bit (slice_index table s) bit) (sym same) ∙ waits.has) waits.more
          (subst (λ s. UsesUp pieces drops allowed bit (left_after pieces E s (length pieces)) (number_after pieces s (length pieces)) waits.more) same waits.goes)
      | inr other ↦ inr (record {
        set = waits.set;
        from = omega (arith, waits.from, other);
        below = waits.below;
        has = visits.carries.keeps waits.set bit waits.has;
        more = waits.more;
        goes = waits.goes;
      })
    ]

    came_on : (bit i : ℕ) → IsCarried pieces drops allowed (slice_index table m) m left number i bit → Came (bit_or m (2 ^ i)) bit
    unfolding UsesUp
    came_on bit i carried =
        let before = walked.came m bit carried.hand in
        record {
          pends = before.pends;
          orders = λ rest goes. before.orders (i ∷ rest) (
            carried.follows,
            uses_same bit _ _ _ _ rest (left_joined pieces E m i carried.unset (length pieces) carried.follows.known) (number_joined pieces E m i carried.unset (length pieces) carried.follows.known) goes,
          );
        }

    comes_from : (set bit : ℕ) → (has_bit (slice_index table set) bit ≡ true) ⊎ ((i : ℕ) × (set ≡ bit_or m (2 ^ i)) × IsCarried pieces drops allowed (slice_index table m) m left number i bit) → Came set bit
    comes_from set bit (inl has) = walked.came set bit has
    comes_from set bit (inr carried) = subst (λ s. Came s bit) (sym carried.1) (came_on bit carried.0 carried.2)

    finds : (bit : ℕ) → (has_bit found bit ≡ true) ⊎ (has_bit more_found bit ≡ true) → (has_bit pending bit ≡ true) × HasOrder pieces drops allowed bit E
    unfolding UsesUp
    finds bit (inl has) = walked.found_is bit has
    finds bit (inr has) =
        let ends = visits.finds bit has in
        let before = walked.came m bit ends.1 in
        (before.pends, before.orders [] ends.0)

    pub walk_on : Walked new (bit_or found more_found) (m + 1)
    walk_on = record {
      comes = λ bit pends some. on bit (walked.comes bit pends some);
      came = λ set bit has. comes_from set bit (visits.carries.only set bit has);
      found_is = λ bit has. finds bit (is_one _ _ (sym (has_bit-or found more_found bit) ∙ has));
    }

  -- no hand waits at some sets
  pub walk_past : (table : List ℕ) (found m next : ℕ) → ((k : ℕ) → m ≤ k → k < next → slice_index table k ≡ 0) → Walked table found m → Walked table found next
  walk_past table found m next none walked = record {
    comes = λ bit pends some. past bit (walked.comes bit pends some);
    came = walked.came;
    found_is = walked.found_is;
  }
    where
      past : (bit : ℕ) → (has_bit found bit ≡ true) ⊎ Waits table m bit → (has_bit found bit ≡ true) ⊎ Waits table next bit
      past bit (inl has) = inl has
      past bit (inr waits) = elim (cases_lt waits.set next) [
        | inl low ↦ absurd (both_ways _ (ap (λ n. has_bit n bit) (none waits.set waits.from low) ∙ has_bit-zero bit) waits.has)
        | inr high ↦ inr (record { set = waits.set; from = high; below = waits.below; has = waits.has; more = waits.more; goes = waits.goes })
      ]

  pub walk_end : (table : List ℕ) (found m bit : ℕ) → 2 ^ length pieces ≤ m → Walked table found m → has_bit found bit ≡ true ↔ ((has_bit pending bit ≡ true) × HasOrder pieces drops allowed bit E)
  walk_end table found m bit past walked = (walked.found_is bit, λ both. no_more (walked.comes bit both.0 both.1))
    where
      no_more : (has_bit found bit ≡ true) ⊎ Waits table m bit → has_bit found bit ≡ true
      no_more (inl has) = has
      no_more (inr waits) = absurd (omega (arith, waits.from, waits.below, past))

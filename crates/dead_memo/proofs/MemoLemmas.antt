-- What a promotion and a put do to what a store keeps.
use Rattle.std.proofs.Common.{◌≡◌, Bool, true, false, Result, Ok, Err, is_some, All, Contains, Decides, sym, ap, subst, ◌∙◌, inl, inr}
use Rattle.std.specs.Prelude.{OnOk, OnErr}
use Rattle.std.specs.Map.{lookup}
use Rattle.std.proofs.lemmas.Bool.{cases_Bool}
use Rattle.lru.specs.LruCache.{LruCache, lru_cache, promoted, put_entries}
use Rattle.dead_memo.specs.Question.{Question, HasNoTiling}
use Rattle.dead_memo.specs.Keys.{question_of, kept_in, AreDead}
use Rattle.dead_memo.specs.Use.{IsUsed, IsNoted}
use Rattle.dead_memo.specs.declared.key.Key.{Key}
use Rattle.dead_memo.proofs.KeyLemmas.{same_key, same_key-decides}
use Rattle.dead_memo.proofs.UseLemmas.{found_kept, used_kept, same_kept, noted_kept, all_used, all_noted}

abbrev Store : Type 0
Store = LruCache Key (Unit {0})

module _ (store : Store) (key : Key) (q : Question) (is : question_of key ≡ q) where
  module _ (found : Bool) (value : found ≡ is_some (lookup (same_key key) store.entries)) where
    pub is_found : Decides found (Contains (kept_in store) q)
    unfolding kept_in
    is_found = subst (λ q. Decides found (Contains (kept_in store) q)) is (subst (λ b. Decides b (Contains (kept_in store) (question_of key))) (sym value) (found_kept same_key question_of same_key-decides key store.entries))

    module _ (after : Store) (entries : after ≡ lru_cache (promoted (same_key key) store.entries) store.cap) where
      pub is_used : found ≡ true → IsUsed (kept_in store) q (kept_in after)
      unfolding kept_in
      is_used some = subst (λ q. IsUsed (kept_in store) q (kept_in after)) is (subst (λ after. IsUsed (kept_in store) (question_of key) (kept_in after)) (sym entries) (used_kept same_key question_of same_key-decides key store.entries (sym value ∙ some)))

      pub is_same : found ≡ false → kept_in after ≡ kept_in store
      unfolding kept_in
      is_same none = ap kept_in entries ∙ ap (λ es. kept_in (lru_cache es store.cap)) (same_kept same_key question_of same_key-decides key store.entries (sym value ∙ none))

      pub stays_dead : AreDead store → AreDead after
      stays_dead dead = elim (cases_Bool found) [
        | inl some ↦ all_used HasNoTiling (kept_in store) q (kept_in after) (is_used some) dead
        | inr none ↦ subst (All HasNoTiling) (sym (is_same none)) dead
      ]

  module _ (after : Store) where
    pub is_noted : after ≡ lru_cache (put_entries same_key store key (tt {0})) store.cap → IsNoted store.cap (kept_in store) q (kept_in after)
    unfolding kept_in
    is_noted entries = subst (λ q. IsNoted store.cap (kept_in store) q (kept_in after)) is (subst (λ after. IsNoted store.cap (kept_in store) (question_of key) (kept_in after)) (sym entries) (noted_kept same_key question_of same_key-decides key store (tt {0})))

    pub put_dead : {A E : Type 0} (result : Result A E) → OnOk result (after ≡ lru_cache (put_entries same_key store key (tt {0})) store.cap) → OnErr result (after ≡ store) → HasNoTiling q → AreDead store → AreDead after
    put_dead (Ok x) entries refused none dead = all_noted HasNoTiling store.cap (kept_in store) q (kept_in after) (is_noted entries) none dead
    put_dead (Err e) entries refused none dead = subst AreDead (sym refused) dead

-- What a look-up, a promotion and a put do to the list of what the entries are seen as.
use Rattle.std.proofs.Common.{◌≡◌, ℕ, ◌-◌, Bool, true, false, List, [], ◌∷◌, ◌++◌, map, take, All, Contains, Decides, Some, None, is_some, refl, sym, ap, subst, ◌∙◌, ◌⊎◌, inl, inr, true≢false, arith}
use Rattle.std.specs.Option.{option_map_or}
use Rattle.std.specs.Map.{lookup, lookup_entry, remove_entry}
use Rattle.std.proofs.lemmas.Bool.{cases_Bool, cond-true, cond-false, false≢true}
use Rattle.std.proofs.lemmas.List.Elements.{All-cons, All-head, All-tail, All-take}
use Rattle.std.proofs.lemmas.List.{map-append, take-map}
use Rattle.lru.specs.LruCache.{LruCache, promoted, put_entries}
use Rattle.dead_memo.specs.Use.{IsUsed, IsNoted, again, new}
use Rattle.srs.proofs.CallerLemmas.{Contains-cases, Contains-here, Contains-there}

-- what holds of each element holds of each after a use, and after something is noted of which it holds
all_split : {X : Type 0} (P : X → Type 0) (front : List X) (x : X) (back : List X) → All P (front ++ x ∷ back) → P x × All P (front ++ back)
all_split P [] x back all = (All-head P x back all, All-tail P x back all)
all_split P (y ∷ front) x back all =
    let rest = all_split P front x back (All-tail P y (front ++ x ∷ back) all) in
    (rest.0, All-cons P y (front ++ back) (All-head P y (front ++ x ∷ back) all) rest.1)

pub all_used : {X : Type 0} (P : X → Type 0) (before : List X) (x : X) (after : List X) → IsUsed before x after → All P before → All P after
all_used P before x after u all =
    let parts = all_split P u.front x u.back (subst (All P) u.was all) in
    subst (All P) (sym u.is) (All-cons P x (u.front ++ u.back) parts.0 parts.1)

pub all_noted : {X : Type 0} (P : X → Type 0) (capacity : ℕ) (before : List X) (x : X) (after : List X) → IsNoted capacity before x after → P x → All P before → All P after
all_noted P capacity before x after (again u) holds all = all_used P before x after u all
all_noted P capacity before x after (new none is) holds all = subst (All P) (sym is) (All-cons P x (take (capacity - 1) before) holds (All-take P (capacity - 1) before all))

module _ {K V Q : Type 0} (eq : K → K → Bool) (see : K → Q) (decides : (a b : K) → Decides (eq a b) (see a ≡ see b)) where
  abbrev pub seen : List (K × V) → List Q
  seen es = map (λ e. see e.0) es

  module _ (k : K) where
    -- an entry with this key, and what stands before it and after it
    record Found (es : List (K × V)) : Type 0 where
      pub front : List (K × V)
      pub entry : K × V
      pub back : List (K × V)
      pub was : es ≡ front ++ entry ∷ back
      pub same : see entry.0 ≡ see k
      pub looked_up : lookup_entry (eq k) es ≡ Some entry
      pub value : lookup (eq k) es ≡ Some entry.1
      pub removed : remove_entry (eq k) es ≡ front ++ back

    record Absent (es : List (K × V)) : Type 0 where
      pub none : Contains (seen es) (see k) → ⊥
      pub looked_up : lookup_entry (eq k) es ≡ None
      pub value : lookup (eq k) es ≡ None

    look : (es : List (K × V)) → Found es ⊎ Absent es
    look [] = inr (record { none = λ has. absurd (omega (arith, has.1)); looked_up = refl; value = refl })
    look (e ∷ es) = elim (cases_Bool (eq k e.0)) [
      | inl same ↦ inl (record {
        front = [];
        entry = e;
        back = es;
        was = refl;
        same = sym ((decides k e.0).0 same);
        looked_up = cond-true _ _ _ same;
        value = cond-true _ _ _ same;
        removed = cond-true _ _ _ same;
      })
      | inr other ↦ elim (look es) [
        | inl f ↦ inl (record {
          front = e ∷ f.front;
          entry = f.entry;
          back = f.back;
          was = ap (λ rest. e ∷ rest) f.was;
          same = f.same;
          looked_up = cond-false _ _ _ other ∙ f.looked_up;
          value = cond-false _ _ _ other ∙ f.value;
          removed = cond-false _ _ _ other ∙ ap (λ rest. e ∷ rest) f.removed;
        })
        | inr a ↦ inr (record {
          none = λ has. elim (Contains-cases (see e.0) (seen es) (see k) has) [
            | inl same ↦ true≢false (sym ((decides k e.0).1 (sym same)) ∙ other)
            | inr later ↦ a.none later
          ];
          looked_up = cond-false _ _ _ other ∙ a.looked_up;
          value = cond-false _ _ _ other ∙ a.value;
        })
      ]
    ]

    contains_found : (es : List (K × V)) → Found es → Contains (seen es) (see k)
    contains_found es f = subst (λ qs. Contains qs (see k)) (sym (ap seen f.was)) (at f.front)
      where
        at : (front : List (K × V)) → Contains (seen (front ++ f.entry ∷ f.back)) (see k)
        at [] = subst (Contains (see f.entry.0 ∷ seen f.back)) f.same (Contains-here (see f.entry.0) (seen f.back))
        at (e ∷ es) = Contains-there (see e.0) (seen (es ++ f.entry ∷ f.back)) (see k) (at es)

    -- the look-up finds something exactly where what the key is seen as is among what the entries are seen as
    pub found_kept : (es : List (K × V)) → Decides (is_some (lookup (eq k) es)) (Contains (seen es) (see k))
    found_kept es = elim (look es) [
      | inl f ↦ (λ _. contains_found es f, λ _. ap is_some f.value)
      | inr a ↦ (λ some. absurd (false≢true (sym (ap is_some a.value) ∙ some)), λ has. absurd (a.none has))
    ]

    -- what is found and put first is used
    used : (es : List (K × V)) (f : Found es) (v : V) → IsUsed (seen es) (see k) (seen ((f.entry.0, v) ∷ remove_entry (eq k) es))
    used es f v = record {
      front = seen f.front;
      back = seen f.back;
      was = ap seen f.was ∙ map-append (λ e. see e.0) f.front (f.entry ∷ f.back) ∙ ap (λ q. seen f.front ++ q ∷ seen f.back) f.same;
      is = ap (λ rest. see f.entry.0 ∷ seen rest) f.removed ∙ ap (λ q. q ∷ seen (f.front ++ f.back)) f.same ∙ ap (λ rest. see k ∷ rest) (map-append (λ e. see e.0) f.front f.back);
    }

    pub used_kept : (es : List (K × V)) → is_some (lookup (eq k) es) ≡ true → IsUsed (seen es) (see k) (seen (promoted (eq k) es))
    used_kept es some = elim (look es) [
      | inl f ↦ subst (λ o. IsUsed (seen es) (see k) (seen (option_map_or (λ e. e ∷ remove_entry (eq k) es) o es))) (sym f.looked_up) (used es f f.entry.1)
      | inr a ↦ absurd (false≢true (sym (ap is_some a.value) ∙ some))
    ]

    pub same_kept : (es : List (K × V)) → is_some (lookup (eq k) es) ≡ false → promoted (eq k) es ≡ es
    same_kept es none = elim (look es) [
      | inl f ↦ absurd (true≢false (sym (ap is_some f.value) ∙ none))
      | inr a ↦ ap (λ o. option_map_or (λ e. e ∷ remove_entry (eq k) es) o es) a.looked_up
    ]

    pub noted_kept : (c : LruCache K V) (v : V) → IsNoted c.cap (seen c.entries) (see k) (seen (put_entries eq c k v))
    noted_kept c v = elim (look c.entries) [
      | inl f ↦ again (subst (λ o. IsUsed (seen c.entries) (see k) (seen (option_map_or (λ e. (e.0, v) ∷ remove_entry (eq k) c.entries) o ((k, v) ∷ take (c.cap - 1) c.entries)))) (sym f.looked_up) (used c.entries f v))
      | inr a ↦ new a.none (ap (λ o. seen (option_map_or (λ e. (e.0, v) ∷ remove_entry (eq k) c.entries) o ((k, v) ∷ take (c.cap - 1) c.entries))) a.looked_up ∙ ap (λ rest. see k ∷ rest) (sym (take-map (λ e. see e.0) (c.cap - 1) c.entries)))
    ]

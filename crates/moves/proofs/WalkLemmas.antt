-- Where keys lead from a state to another, fewer keys than there are states do so; and the search for keys finds them.
use Rattle.std.proofs.Common.{◌≡◌, ℕ, zero, suc, ◌+◌, ◌<◌, ◌≤◌, Bool, true, false, ◌&&◌, eqb, Option, Some, None, List, [], ◌∷◌, length, map, refl, sym, subst, ◌∙◌, inl, inr, arith, rules}
use Rattle.std.specs.Option.{option_map_or}
use Rattle.std.specs.List.{list_all, list_any, AllByRecursion, IsDistinct}
use Rattle.std.proofs.lemmas.Bool.{and_parts, and_from, or_cases, or_parts, or_left, or_right, cases_Bool, false≢true, eqb-true}
use Rattle.std.proofs.lemmas.Map.Steps.{length-le_from_distinct_below}
use Rattle.std.proofs.lemmas.List.{length-map}
use Rattle.std.proofs.lemmas.List.Folds.{list_any_at}
use Rattle.srs.specs.declared.placement.Placement.{Placement}
use Rattle.moves.specs.declared.key.Key.{Key}
use Rattle.moves.specs.Keys.{all_keys}
use Rattle.moves.specs.Walk.{led, Leads, some_keys_lead}
use Rattle.srs.proofs.CallerLemmas.{some_same}

pub not_some : {A : Type 0} {x : A} → None ≡ Some x → ⊥
not_some e = cc

-- a table of moves among finitely many states: those that it leads to are good where the first is, and good states have
-- different codes below a bound
pub record IsFinite (next : Placement → Key → Option Placement) (good : Placement → Type 0) (code : Placement → ℕ) (bound : ℕ) : Type 0 where
  pub kept : (s : Placement) (key : Key) (t : Placement) → good s → next s key ≡ Some t → good t
  pub below : (s : Placement) → good s → code s < bound
  pub one : (s t : Placement) → good s → good t → code s ≡ code t → s ≡ t

-- nothing leads nowhere
pub led_none : (next : Placement → Key → Option Placement) (keys : List Key) → led next None keys ≡ None
led_none next [] = refl
led_none next (key ∷ keys) = led_none next keys

-- the states that keys pass, from the start on
visited : (Placement → Key → Option Placement) → Option Placement → List Key → List Placement
visited next None keys = []
visited next (Some s) [] = s ∷ []
visited next (Some s) (key ∷ keys) = s ∷ visited next (next s key) keys

where_false : (p : ℕ → Bool) (xs : List ℕ) → list_any p xs ≡ false → AllByRecursion (λ x. p x ≡ false) xs
where_false p [] none = tt
where_false p (x ∷ xs) none = search (rules, or_parts, (where_false p xs))

visited_length : (next : Placement → Key → Option Placement) (start : Option Placement) (target : Placement) (keys : List Key) → led next start keys ≡ Some target → length (visited next start keys) ≡ length keys + 1
unfolding visited
visited_length next None target keys e = absurd (not_some (sym (led_none next keys) ∙ e))
visited_length next (Some s) target [] e = refl
visited_length next (Some s) target (key ∷ keys) e = omega (arith, visited_length next (next s key) target keys e)

-- keys lead to good states only
pub led_good : {next : Placement → Key → Option Placement} {good : Placement → Type 0} {code : Placement → ℕ} {bound : ℕ} → IsFinite next good code bound → (start : Option Placement) → ((s : Placement) → start ≡ Some s → good s) →
    (keys : List Key) (target : Placement) → led next start keys ≡ Some target → good target
led_good {next} finite None from keys target e = absurd (not_some (sym (led_none next keys) ∙ e))
led_good finite (Some s) from [] target e = from target e
led_good {next} finite (Some s) from (key ∷ keys) target e = led_good finite (next s key) (λ t f. finite.kept s key t (from s refl) f) keys target e

module _ (next : Placement → Key → Option Placement) (good : Placement → Type 0) (code : Placement → ℕ) (bound : ℕ) (finite : IsFinite next good code bound) (allowed : Key → Bool) where
  codes : Option Placement → List Key → List ℕ
  codes start keys = map code (visited next start keys)

  -- where there is a state, it is good
  Good : Option Placement → Type 0
  Good start = (s : Placement) → start ≡ Some s → good s

  good_next : (s : Placement) (key : Key) → Good (Some s) → Good (next s key)
  unfolding Good
  good_next s key start t e = finite.kept s key t (start s refl) e

  codes_below : (start : Option Placement) (keys : List Key) → Good start → (q : ℕ) → list_any (eqb q) (codes start keys) ≡ true → q < bound
  unfolding codes visited Good
  codes_below None keys start q has = absurd (false≢true has)
  codes_below (Some s) [] start q has = search (rules, or_cases, eqb-true, false≢true)
  codes_below (Some s) (key ∷ keys) start q has = search (rules, or_cases, eqb-true, (codes_below (next s key) keys))

  -- keys that lead there and pass no state twice
  record Simple (start : Option Placement) (target : Placement) : Type 0 where
    keys : List Key
    leads : Leads next allowed start target keys
    distinct : IsDistinct eqb (codes start keys)

  tail_leads : (s target : Placement) (key : Key) (keys : List Key) → Leads next allowed (Some s) target (key ∷ keys) → Leads next allowed (next s key) target keys
  tail_leads s target key keys leads = record { each = (and_parts (allowed key) (list_all allowed keys) leads.each).1; reached = leads.reached }

  -- where keys pass a state, the rest of them leads from it
  from_passed : (start : Option Placement) (target : Placement) (keys : List Key) (s : Placement) → Good start → good s →
      Leads next allowed start target keys → IsDistinct eqb (codes start keys) → list_any (eqb (code s)) (codes start keys) ≡ true → Simple (Some s) target
  unfolding codes visited Good IsDistinct
  from_passed None target keys s start here leads distinct has = absurd (false≢true has)
  from_passed (Some t) target [] s start here leads distinct has = elim (or_cases (eqb (code s) (code t)) false has) [
    | inl same ↦ subst (λ u. Simple (Some u) target) (finite.one t s (start t refl) here (sym (eqb-true _ _ same))) (record { keys = []; leads = leads; distinct = distinct })
    | inr none ↦ absurd (false≢true none)
  ]
  from_passed (Some t) target (key ∷ keys) s start here leads distinct has =
      search (rules, or_cases, eqb-true, (from_passed (next t key) target keys s))

  simple : (start : Option Placement) (target : Placement) (keys : List Key) → Good start → Leads next allowed start target keys → Simple start target
  unfolding codes visited Good IsDistinct
  simple None target keys start leads = absurd (not_some (sym (led_none next keys) ∙ leads.reached))
  simple (Some s) target [] start leads = record { keys = []; leads = leads; distinct = (tt, tt) }
  simple (Some s) target (key ∷ keys) start leads =
      let later : Simple (next s key) target = simple (next s key) target keys (good_next s key start) (tail_leads s target key keys leads) in
      elim (cases_Bool (list_any (eqb (code s)) (codes (next s key) later.keys))) [
        | inl again ↦ from_passed (next s key) target later.keys s (good_next s key start) (start s refl) later.leads later.distinct again
        | inr new ↦ record {
          keys = key ∷ later.keys;
          leads = record { each = and_from _ _ (and_parts (allowed key) (list_all allowed keys) leads.each).0 later.leads.each; reached = later.leads.reached };
          distinct = (where_false (eqb (code s)) (codes (next s key) later.keys) new, later.distinct);
        }
      ]

  -- fewer keys than the bound, where there are any
  pub record Short (start : Option Placement) (target : Placement) : Type 0 where
    pub keys : List Key
    pub leads : Leads next allowed start target keys
    pub few : length keys < bound

  pub short_keys : (start : Option Placement) (target : Placement) (keys : List Key) → ((s : Placement) → start ≡ Some s → good s) → Leads next allowed start target keys → Short start target
  unfolding codes Good
  short_keys start target keys from leads =
      let way : Simple start target = simple start target keys from leads in
      let few : length (codes start way.keys) ≤ bound = length-le_from_distinct_below _ bound way.distinct (codes_below start way.keys from) in
      search (rules, (length-map (visited next start way.keys) code), (visited_length next start target way.keys way.leads.reached))

-- some key passes the test where one does
any_key : (test : Key → Bool) (key : Key) → test key ≡ true → list_any test all_keys ≡ true
any_key test key passes = search (rules, list_any_at)

first_passing : (test : Key → Bool) (keys : List Key) → list_any test keys ≡ true → (key : Key) × (test key ≡ true)
first_passing test [] any = absurd (false≢true any)
first_passing test (key ∷ keys) any = search (rules, or_cases, (first_passing test keys))

-- allowed keys that lead from the start to a state that passes the test
pub record Found (next : Placement → Key → Option Placement) (allowed : Key → Bool) (passes : Placement → Bool) (start : Option Placement) : Type 0 where
  pub target : Placement
  pub keys : List Key
  pub leads : Leads next allowed start target keys
  pub ends : passes target ≡ true

module _ (next : Placement → Key → Option Placement) (allowed : Key → Bool) (passes : Placement → Bool) where
  -- the search finds such keys where there are some, few enough
  pub finds : (n : ℕ) (start : Option Placement) (target : Placement) (keys : List Key) → length keys ≤ n → Leads next allowed start target keys → passes target ≡ true →
      option_map_or (some_keys_lead next allowed passes n) start false ≡ true
  unfolding some_keys_lead
  finds n None target keys few leads ends = absurd (not_some (sym (led_none next keys) ∙ leads.reached))
  finds zero (Some s) target [] few leads ends = subst (λ t. passes t ≡ true) (sym (some_same leads.reached)) ends
  finds zero (Some s) target (key ∷ keys) few leads ends = absurd (omega arith)
  finds (suc n) (Some s) target [] few leads ends = or_left _ _ (subst (λ t. passes t ≡ true) (sym (some_same leads.reached)) ends)
  finds (suc n) (Some s) target (key ∷ keys) few leads ends =
      search (rules, (finds n (next s key) target keys), (and_parts (allowed key) (list_all allowed keys) leads.each), (or_right (passes s)), (any_key (λ key. allowed key && option_map_or (some_keys_lead next allowed passes n) (next s key) false) key), and_from)

  -- what it finds are such keys
  pub found : (n : ℕ) (start : Option Placement) → option_map_or (some_keys_lead next allowed passes n) start false ≡ true → Found next allowed passes start
  unfolding some_keys_lead
  found n None finds = absurd (false≢true finds)
  found zero (Some s) finds = record { target = s; keys = []; leads = record { each = refl; reached = refl }; ends = finds }
  found (suc n) (Some s) finds = elim (or_cases (passes s) _ finds) [
    | inl here ↦ record { target = s; keys = []; leads = record { each = refl; reached = refl }; ends = here }
    | inr later ↦
        let key : (key : Key) × ((allowed key && option_map_or (some_keys_lead next allowed passes n) (next s key) false) ≡ true) = first_passing _ all_keys later in
        let parts = and_parts (allowed key.0) _ key.1 in
        let rest = found n (next s key.0) parts.1 in
        record { target = rest.target; keys = key.0 ∷ rest.keys; leads = record { each = and_from _ _ parts.0 rest.leads.each; reached = rest.leads.reached }; ends = rest.ends }
  ]

-- A search for states, the lesser key words first: what it has found, and that nothing before it is left out.
use Rattle.std.proofs.Common.{◌≡◌, ◌⊎◌, ℕ, ◌+◌, ◌≤◌, Bool, true, Option, Some, None, List, [], ◌∷◌, ◌++◌, refl, sym, ap, subst, ◌∙◌, inl, inr, arith, rules}
use Rattle.std.specs.Prelude.{Contains}
use Rattle.std.specs.List.{list_all}
use Rattle.std.specs.declared.cmp.Ordering.TheVariants.{Less}
use Rattle.std.proofs.lemmas.Bool.{and_parts, and_from, cases_order, cases_lt}
use Rattle.std.proofs.lemmas.List.{append-nil, append_assoc, length-append}
use Rattle.std.proofs.lemmas.List.Sums.{fold-append}
use Rattle.std.proofs.lemmas.List.Elements.{Contains-append_left, Contains-push, Contains-push_cases}
use Rattle.srs.specs.declared.placement.Placement.{Placement}
use Rattle.srs.proofs.CallerLemmas.{Contains-here, Contains-there, Contains-cases, Contains-none, rising-first, rising-rest, rising-none, rising-cons, rising-append, some_same}
use Rattle.moves.specs.declared.key.Key.{Key}
use Rattle.moves.specs.Walk.{led, Leads}
use Rattle.moves.proofs.CallerLemmas.{not_some, led_none}
use Rattle.key_path.specs.KeyWords.{key_index, key_word_cmp, NotAfter}
use Rattle.key_path.specs.Search.{Item, item_cmp, HasBy, with_key, IsClosed, AreFound, IsAhead, IsPressed}
use Rattle.key_path.proofs.WordLemmas.{key_index-injective, not_after-itself, not_after-trans, not_after-before, before_not_after, shorter_before, not_after-front, more_before, key_before, more_not_after, key_index-small}

pub has_more : (items : List Item) (new : Item) (state : Placement) (word : List Key) → HasBy items state word → HasBy (items ++ new ∷ []) state word
has_more items new state word has = record { item = has.item; among = Contains-append_left items (new ∷ []) has.item has.among; is = has.is; in_time = has.in_time }

pub has_later : (items : List Item) (state : Placement) (word later : List Key) → NotAfter word later → HasBy items state word → HasBy items state later
has_later items state word later not has = record { item = has.item; among = has.among; is = has.is; in_time = not_after-trans has.item.word word later has.in_time not }

module _ (next : Placement → Key → Option Placement) (allowed : Key → Bool) (start : Placement) where
  -- at first there is the start, by no key
  abbrev pub first : Item
  first = record { state = start; word = [] }

  pub sought_first : AreFound next allowed start (first ∷ []) (first ∷ [])
  sought_first =
      search (rules, (Contains-here first []), (not_after-itself []), (rising-cons item_cmp first []), Contains-none, (rising-none item_cmp), (Contains-cases first []))

  pub ahead_first : IsAhead next allowed start (first ∷ []) (first ∷ [])
  ahead_first = search (rules, (Contains-cases first []), (shorter_before []), length-append, Contains-none)

  -- the first that waits is taken
  pub taken : (items : List Item) (x : Item) (waiting : List Item) → IsAhead next allowed start items (x ∷ waiting) → IsPressed next allowed start items x 0
  taken items x waiting ahead = search (rules, (ahead.ahead x), (Contains-here x waiting), (not_after-before x.word), (not_after-itself x.word))

  -- a key that is not allowed, or leads to nothing new
  pub pressed_again : (items : List Item) (x : Item) (n : ℕ) (key : Key) → key_index key ≡ n →
      ((t : Placement) → allowed key ≡ true → next x.state key ≡ Some t → (y : Item) × Contains items y × (y.state ≡ t)) → IsPressed next allowed start items x n → IsPressed next allowed start items x (n + 1)
  pressed_again items x n key place known pressed = record {
    tried = λ other t below may e. elim (cases_order (key_index other) n) [
      | inl same ↦ let one : other ≡ key = key_index-injective other key (same ∙ sym place) in
          let found = known t (subst (λ k. allowed k ≡ true) one may) (subst (λ k. next x.state k ≡ Some t) one e) in
          record { item = found.0; among = found.1; is = found.2; in_time = not_after-before found.0.word (x.word ++ other ∷ []) (pressed.ahead found.0 x.word other found.1 (inr (refl, omega (arith, same)))) }
      | inr apart ↦ elim apart [ inl less ↦ pressed.tried other t less may e | inr more ↦ absurd (omega (arith, below, more)) ]
    ];
    ahead = λ y word other among still. pressed.ahead y word other among (elim still [ inl later ↦ inl later | inr here ↦ inr (here.0, omega (arith, here.1)) ]);
  }

  -- a key that leads to a new state
  pub pressed_new : (items : List Item) (x : Item) (n : ℕ) (key : Key) (t : Placement) → key_index key ≡ n → next x.state key ≡ Some t → IsPressed next allowed start items x n → IsPressed next allowed start (items ++ with_key x key t ∷ []) x (n + 1)
  pressed_new items x n key t place e pressed = record {
    tried = λ other u below may f. elim (cases_order (key_index other) n) [
      | inl same ↦ let one : key ≡ other = key_index-injective key other (place ∙ sym same) in
          record { item = with_key x key t; among = Contains-push items (with_key x key t); is = some_same (sym e ∙ ap (next x.state) one ∙ f); in_time = subst (λ k. NotAfter (x.word ++ key ∷ []) (x.word ++ k ∷ [])) one (not_after-itself (x.word ++ key ∷ [])) }
      | inr apart ↦ elim apart [ inl less ↦ has_more items (with_key x key t) u _ (pressed.tried other u less may f) | inr more ↦ absurd (omega (arith, below, more)) ]
    ];
    ahead = λ y word other among still. elim (Contains-push_cases items (with_key x key t) y among) [
      | inl old ↦ pressed.ahead y word other old (elim still [ inl later ↦ inl later | inr here ↦ inr (here.0, omega (arith, here.1)) ])
      | inr new ↦ subst (λ y. key_word_cmp y.word (word ++ other ∷ []) ≡ Less) new (elim still [
        | inl later ↦ more_before x.word word key other later
        | inr here ↦ subst (λ w. key_word_cmp (x.word ++ key ∷ []) (w ++ other ∷ []) ≡ Less) here.0 (key_before x.word key other (omega (arith, here.1, place)))
      ])
    ];
  }

  closed_more : (items : List Item) (new x : Item) → IsClosed next allowed start items x → IsClosed next allowed start (items ++ new ∷ []) x
  closed_more items new x closed = record { each = λ key t may e. has_more items new t (x.word ++ key ∷ []) (closed.each key t may e) }

  -- one more key leads one step further
  leads_more : (x : Item) (key : Key) (t : Placement) → allowed key ≡ true → next x.state key ≡ Some t → Leads next allowed (Some start) x.state x.word → Leads next allowed (Some start) t (x.word ++ key ∷ [])
  leads_more x key t may e leads = record {
    each = all_more x.word leads.each;
    reached = fold-append _ (Some start) x.word (key ∷ []) ∙ ap (λ s. led next s (key ∷ [])) leads.reached ∙ e;
  }
    where
      all_more : (word : List Key) → list_all allowed word ≡ true → list_all allowed (word ++ key ∷ []) ≡ true
      all_more [] each = and_from (allowed key) true may refl
      all_more (k ∷ word) each = let parts = and_parts (allowed k) (list_all allowed word) each in and_from _ _ parts.0 (all_more word parts.1)

  -- the new item waits last
  pub sought_new : (items : List Item) (x : Item) (waiting : List Item) (n : ℕ) (key : Key) (t : Placement) → key_index key ≡ n → allowed key ≡ true → next x.state key ≡ Some t →
      Contains items x → AreFound next allowed start items (x ∷ waiting) → IsPressed next allowed start items x n → AreFound next allowed start (items ++ with_key x key t ∷ []) (x ∷ (waiting ++ with_key x key t ∷ []))
  sought_new items x waiting n key t place may e here sought pressed = record {
    reached = λ y among. elim (Contains-push_cases items (with_key x key t) y among) [
      | inl old ↦ sought.reached y old
      | inr new ↦ subst (λ y. Leads next allowed (Some start) y.state y.word) new (leads_more x key t may e (sought.reached x here))
    ];
    begins = has_more items (with_key x key t) start [] sought.begins;
    each = λ y among. elim (Contains-push_cases items (with_key x key t) y among) [
      | inl old ↦ elim (sought.each y old) [
        | inl closed ↦ inl (closed_more items (with_key x key t) y closed)
        | inr waits ↦ inr (Contains-append_left (x ∷ waiting) (with_key x key t ∷ []) y waits)
      ]
      | inr new ↦ inr (subst (Contains ((x ∷ waiting) ++ with_key x key t ∷ [])) new (Contains-push (x ∷ waiting) (with_key x key t)))
    ];
    among = λ y waits. elim (Contains-push_cases (x ∷ waiting) (with_key x key t) y waits) [
      | inl old ↦ Contains-append_left items (with_key x key t ∷ []) y (sought.among y old)
      | inr new ↦ subst (Contains (items ++ with_key x key t ∷ [])) new (Contains-push items (with_key x key t))
    ];
    rising = rising-append item_cmp (x ∷ waiting) (with_key x key t ∷ []) sought.rising (rising-cons item_cmp (with_key x key t) [] (λ y none. absurd (Contains-none y none)) (rising-none item_cmp))
        (λ y z waits last. elim (Contains-cases (with_key x key t) [] z last) [
          | inl new ↦ subst (λ z. item_cmp y z ≡ Less) new (pressed.ahead y x.word key (sought.among y waits) (inr (refl, omega (arith, place))))
          | inr none ↦ absurd (Contains-none z none)
        ]);
  }

  all_tried : (items : List Item) (x : Item) → IsPressed next allowed start items x 5 → IsClosed next allowed start items x
  all_tried items x pressed = record { each = λ key t may e. pressed.tried key t (key_index-small key) may e }

  -- where all keys of the first that waits were tried, the next is to be taken
  pub sought_next : (items : List Item) (x : Item) (waiting : List Item) → AreFound next allowed start items (x ∷ waiting) → IsPressed next allowed start items x 5 → AreFound next allowed start items waiting
  sought_next items x waiting sought pressed =
      search (rules, sought.each, (Contains-cases x waiting), (all_tried items x pressed), sought.among, (Contains-there x waiting), (rising-rest item_cmp x waiting sought.rising))

  pub ahead_next : (items : List Item) (x : Item) (waiting : List Item) → AreFound next allowed start items (x ∷ waiting) → IsPressed next allowed start items x 5 → IsAhead next allowed start items waiting
  ahead_next items x waiting sought pressed = record {
    ahead = λ z y word key waits not among. pressed.ahead y word key among (inl (before_not_after x.word z.word word (rising-first item_cmp x waiting sought.rising z waits) not));
  }

  -- Where each key leads from an item to one that is in time, or the key word has passed a mark, so do all key words.
  leads_on : (items : List Item) (Past : List Key → Type 0) → ((u v : List Key) → Past u → Past (u ++ v)) →
      ((x : Item) (u : List Key) (key : Key) (t : Placement) → Contains items x → NotAfter x.word u → allowed key ≡ true → next x.state key ≡ Some t → HasBy items t (u ++ key ∷ []) ⊎ Past (u ++ key ∷ [])) →
      (v : List Key) (x : Item) (u : List Key) (s : Placement) → Contains items x → NotAfter x.word u → list_all allowed v ≡ true → led next (Some x.state) v ≡ Some s → HasBy items s (u ++ v) ⊎ Past (u ++ v)
  leads_on items Past past_more step [] x u s among not each e = inl (subst (HasBy items s) (sym (append-nil u)) (record { item = x; among = among; is = some_same e; in_time = not }))
  leads_on items Past past_more step (key ∷ v) x u s among not each e =
      let parts = and_parts (allowed key) (list_all allowed v) each in
      by_next v s (next x.state key) refl e (λ t there after. elim (step x u key t among not parts.0 there) [
        | inl has ↦ subst (λ w. HasBy items s w ⊎ Past w) (append_assoc u (key ∷ []) v)
            (leads_on items Past past_more step v has.item (u ++ key ∷ []) s has.among has.in_time parts.1 (subst (λ t. led next (Some t) v ≡ Some s) (sym has.is) after))
        | inr past ↦ inr (subst Past (append_assoc u (key ∷ []) v) (past_more (u ++ key ∷ []) v past))
      ])
    where
      by_next : {G : Type 0} (v : List Key) (s : Placement) (o : Option Placement) → next x.state key ≡ o → led next o v ≡ Some s → ((t : Placement) → next x.state key ≡ Some t → led next (Some t) v ≡ Some s → G) → G
      by_next v s None there e found = absurd (not_some (sym (led_none next v) ∙ e))
      by_next v s (Some t) there e found = found t there e

  from_start : (items : List Item) (Past : List Key → Type 0) → ((u v : List Key) → Past u → Past (u ++ v)) → HasBy items start [] →
      ((x : Item) (u : List Key) (key : Key) (t : Placement) → Contains items x → NotAfter x.word u → allowed key ≡ true → next x.state key ≡ Some t → HasBy items t (u ++ key ∷ []) ⊎ Past (u ++ key ∷ [])) →
      (v : List Key) (s : Placement) → Leads next allowed (Some start) s v → HasBy items s v ⊎ Past v
  from_start items Past past_more begins step v s leads =
      leads_on items Past past_more step v begins.item [] s begins.among begins.in_time leads.each (subst (λ t. led next (Some t) v ≡ Some s) (sym begins.is) leads.reached)

  closed_step : (items : List Item) (x : Item) (u : List Key) (key : Key) (t : Placement) → NotAfter x.word u → allowed key ≡ true → next x.state key ≡ Some t → IsClosed next allowed start items x → HasBy items t (u ++ key ∷ [])
  closed_step items x u key t not may e closed = has_later items t (x.word ++ key ∷ []) (u ++ key ∷ []) (more_not_after x.word u key not) (closed.each key t may e)

  -- where nothing waits, each state to which a key word leads was found
  pub all_found : (items : List Item) → AreFound next allowed start items [] → (v : List Key) (s : Placement) → Leads next allowed (Some start) s v → HasBy items s v
  all_found items sought v s leads = elim (from_start items (λ _. ⊥) (λ u v never. never) sought.begins step v s leads) [ inl has ↦ has | inr never ↦ absurd never ]
    where
      step : (x : Item) (u : List Key) (key : Key) (t : Placement) → Contains items x → NotAfter x.word u → allowed key ≡ true → next x.state key ≡ Some t → HasBy items t (u ++ key ∷ []) ⊎ ⊥
      step x u key t among not may e = search (rules, sought.each, (closed_step items), Contains-none)

  -- while keys are tried, so was each state to which a key word before the one that is tried leads
  pub found_before : (items : List Item) (x : Item) (waiting : List Item) (key : Key) → AreFound next allowed start items (x ∷ waiting) → IsPressed next allowed start items x (key_index key) →
      (v : List Key) (s : Placement) → Leads next allowed (Some start) s v → HasBy items s v ⊎ NotAfter (x.word ++ key ∷ []) v
  found_before items x waiting key sought pressed v s leads =
      from_start items (NotAfter (x.word ++ key ∷ [])) (λ u v past. not_after-trans (x.word ++ key ∷ []) u (u ++ v) past (not_after-front u v)) sought.begins step v s leads
    where
      later_key : (u : List Key) (other : Key) → NotAfter x.word u → key_index key ≤ key_index other → NotAfter (x.word ++ key ∷ []) (u ++ other ∷ [])
      later_key u other not later = elim (cases_order (key_index key) (key_index other)) [
        | inl same ↦ subst (λ k. NotAfter (x.word ++ key ∷ []) (u ++ k ∷ [])) (key_index-injective key other same) (more_not_after x.word u key not)
        | inr apart ↦ elim apart [
          | inl less ↦ not_after-trans (x.word ++ key ∷ []) (x.word ++ other ∷ []) (u ++ other ∷ [])
              (not_after-before (x.word ++ key ∷ []) (x.word ++ other ∷ []) (key_before x.word key other less)) (more_not_after x.word u other not)
          | inr more ↦ absurd (omega (arith, later, more))
        ]
      ]

      first_step : (u : List Key) (other : Key) (t : Placement) → NotAfter x.word u → allowed other ≡ true → next x.state other ≡ Some t → HasBy items t (u ++ other ∷ []) ⊎ NotAfter (x.word ++ key ∷ []) (u ++ other ∷ [])
      first_step u other t not may e = elim (cases_lt (key_index other) (key_index key)) [
        | inl tried ↦ inl (has_later items t (x.word ++ other ∷ []) (u ++ other ∷ []) (more_not_after x.word u other not) (pressed.tried other t tried may e))
        | inr later ↦ inr (later_key u other not later)
      ]

      step : (y : Item) (u : List Key) (other : Key) (t : Placement) → Contains items y → NotAfter y.word u → allowed other ≡ true → next y.state other ≡ Some t → HasBy items t (u ++ other ∷ []) ⊎ NotAfter (x.word ++ key ∷ []) (u ++ other ∷ [])
      step y u other t among not may e = elim (sought.each y among) [
        | inl closed ↦ inl (closed_step items y u other t not may e closed)
        | inr waits ↦ elim (Contains-cases x waiting y waits) [
          | inl here ↦ first_step u other t (subst (λ y. NotAfter y.word u) (sym here) not) may (subst (λ y. next y.state other ≡ Some t) (sym here) e)
          | inr behind ↦ inr (not_after-before (x.word ++ key ∷ []) (u ++ other ∷ []) (more_before x.word u key other (before_not_after x.word y.word u (rising-first item_cmp x waiting sought.rising y behind) not)))
        ]
      ]

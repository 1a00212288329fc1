-- What a search for the least key word has found, while it goes through states in the order of their least key words.
use Rattle.std.specs.Prelude.{◌≡◌, ◌⊎◌, ℕ, ◌+◌, ◌<◌, ◌≤◌, Bool, true, false, Option, Some, List, [], ◌∷◌, ◌++◌, length, map, reverse, Contains}
use Rattle.std.specs.List.{count_by}
use Rattle.std.specs.List.Sorted.{IsStrictlySortedBy}
use Rattle.std.specs.declared.cmp.Ordering.{Ordering}
use Rattle.std.specs.declared.cmp.Ordering.TheVariants.{Less}
use Rattle.lane_board.specs.Field.{Field}
use Rattle.srs.specs.declared.placement.Placement.{Placement}
use Rattle.srs.specs.Kick.{Table}
use Rattle.moves.specs.declared.key.Key.{Key}
use Rattle.moves.specs.declared.key.DropMode.{DropMode}
use Rattle.moves.specs.Keys.{allows}
use Rattle.moves.specs.Leads.{spawn_of}
use Rattle.moves.specs.PlaceTest.{comes_to_rest}
use Rattle.moves.specs.States.{state_code}
use Rattle.moves.specs.Step.{step_of}
use Rattle.moves.specs.Walk.{Leads}
use Rattle.key_path.specs.declared.marks.Mark.{Mark}
use Rattle.key_path.specs.KeyWords.{key_index, key_word_cmp, NotAfter}
use Rattle.key_path.specs.LeastKeyWord.{IsLeastKeyWord}
use Rattle.key_path.specs.Marks.{mark_at, is_unseen, Traces, Traced}

-- a state that was found, and the key word by which it was found
pub record Item : Type 0 where
  pub state : Placement
  pub word : List Key

abbrev pub item_cmp : Item → Item → Ordering
item_cmp x y = key_word_cmp x.word y.word

-- an item with this state, and with a key word that is not after this one
pub record HasBy (items : List Item) (state : Placement) (word : List Key) : Type 0 where
  pub item : Item
  pub among : Contains items item
  pub is : item.state ≡ state
  pub in_time : NotAfter item.word word

-- the state to which one more key leads from an item, with its key word
abbrev pub with_key : Item → Key → Placement → Item
with_key x key t = record { state = t; word = x.word ++ key ∷ [] }

module _ (next : Placement → Key → Option Placement) (allowed : Key → Bool) (start : Placement) where
  -- each key that is allowed leads from the item to one that was found
  pub record IsClosed (items : List Item) (x : Item) : Type 0 where
    pub each : (key : Key) (t : Placement) → allowed key ≡ true → next x.state key ≡ Some t
        → HasBy items t (x.word ++ key ∷ [])

  -- What was found: items with key words that lead to them, the start with no key, and each item is closed or waits.
  -- Those that wait rise by their key words.
  pub record AreFound (items waiting : List Item) : Type 0 where
    pub reached : (x : Item) → Contains items x → Leads next allowed (Some start) x.state x.word
    pub begins : HasBy items start []
    pub each : (x : Item) → Contains items x → IsClosed items x ⊎ Contains waiting x
    pub among : (x : Item) → Contains waiting x → Contains items x
    pub rising : IsStrictlySortedBy item_cmp waiting

  -- every key word that is still to be tried is after those of the items
  pub record IsAhead (items waiting : List Item) : Type 0 where
    pub ahead : (x y : Item) (word : List Key) (key : Key) → Contains waiting x → NotAfter x.word word
        → Contains items y → key_word_cmp y.word (word ++ key ∷ []) ≡ Less

  -- the same where the first keys of an item were tried
  pub record IsPressed (items : List Item) (x : Item) (n : ℕ) : Type 0 where
    pub tried : (key : Key) (t : Placement) → key_index key < n → allowed key ≡ true → next x.state key ≡ Some t
        → HasBy items t (x.word ++ key ∷ [])
    pub ahead : (y : Item) (word : List Key) (key : Key) → Contains items y
        → (key_word_cmp x.word word ≡ Less) ⊎ ((x.word ≡ word) × (n ≤ key_index key))
        → key_word_cmp y.word (word ++ key ∷ []) ≡ Less

-- each item is marked by the keys of its key word, each mark is that of an item, and there are as many marks as items
pub record AreMarked (marks : List Mark) (items : List Item) : Type 0 where
  pub size : length marks ≡ 920
  pub traces : (x : Item) → Contains items x → Traces marks x.state (reverse x.word)
  pub seen : (s : Placement) → is_unseen (mark_at marks s) ≡ false
      → (x : Item) × Contains items x × (state_code x.state ≡ state_code s)
  pub counted : count_by is_unseen marks + length items ≡ 920

module _ (table : Table) (F : Field) (mode : DropMode) (target : Placement) where
  -- the states that were found, those that wait, and the marks; none of them comes to rest on the target
  pub record IsFinding (marks : List Mark) (waiting : List Placement) : Type 0 where
    pub items : List Item
    pub front : List Item
    pub states : waiting ≡ map (λ (x : Item). x.state) front
    pub few : length front ≤ length items
    pub sought : AreFound (step_of table F) (allows mode) (spawn_of target.piece) items front
    pub ahead : IsAhead (step_of table F) (allows mode) (spawn_of target.piece) items front
    pub noted : AreMarked marks items
    pub misses : (x : Item) → Contains items x → comes_to_rest F target x.state ≡ false

  -- the same while the keys of a state are tried, of which the first n were
  pub record IsTrying (marks : List Mark) (waiting : List Placement) (state : Placement) (n : ℕ) : Type 0 where
    pub items : List Item
    pub x : Item
    pub front : List Item
    pub at : x.state ≡ state
    pub states : waiting ≡ map (λ (x : Item). x.state) front
    pub few : length front + 1 ≤ length items
    pub sought : AreFound (step_of table F) (allows mode) (spawn_of target.piece) items (x ∷ front)
    pub pressed : IsPressed (step_of table F) (allows mode) (spawn_of target.piece) items x n
    pub noted : AreMarked marks items
    pub misses : (y : Item) → Contains items y → comes_to_rest F target y.state ≡ false

  -- the marks lead back from a state by the least key word
  pub record LeadsBack (marks : List Mark) (t : Placement) : Type 0 where
    pub traced : Traced marks t
    pub least : (traced : Traced marks t) → IsLeastKeyWord table F mode target (Some (reverse traced.keys))

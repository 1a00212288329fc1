-- Frames in an array go to the place of a given sequence.
use Rattle.std.proofs.Common.{◌≡◌, ℕ, zero, suc, ◌+◌, ◌<◌, ◌≤◌, Bool, true, false, List, [], ◌∷◌, ◌++◌, length, get_or, set, take, refl, sym, ap, subst, ◌∙◌, arith, length-take, length-append, rules}
use Rattle.std.specs.Prelude.{drop}
use Rattle.std.proofs.Math.Seq.{take-suc}
use Rattle.srs.specs.declared.placement.Placement.{Placement}
use Rattle.srs.specs.Kick.{Table}
use Rattle.moves.specs.declared.key.DropMode.{DropMode}
use Rattle.enumerate.specs.declared.frame.Frame.{Frame}
use Rattle.enumerate.specs.declared.setup.Setup.{Setup}
use Rattle.enumerate.specs.Events.{Event, sought}
use Rattle.enumerate.specs.Frames.{events_of, has_room, path_of, places_left, stacked, entered_placement}
use Rattle.enumerate.specs.Setups.{state_of}
use Rattle.enumerate.specs.Seeks.{IsDeeper, IsFresh, IsSought, IsThere, Skips, SkipsTo, sought_at}
use Rattle.enumerate.proofs.SkipLemmas.{skips-before, skips-same}
use Rattle.std.proofs.lemmas.List.{get_or-take, length-take-le, take-take}
use Rattle.enumerate.proofs.Stacks.{path-last, room-last, room-more, stacked-last, walked-last, written-child, written-deeper, written-top}
use Rattle.std.proofs.Common.{append_assoc, append-nil}
use Rattle.std.proofs.lemmas.Bool.{cond-true}

-- within a list the default has no part
pub read-any : (xs : List Frame) (i : ℕ) (d e : Frame) → i < length xs → get_or xs i d ≡ get_or xs i e
read-any [] i d e within = absurd (omega arith)
read-any (x ∷ xs) zero d e within = refl
read-any (x ∷ xs) (suc i) d e within = read-any xs i d e (omega arith)

take-top : (frames : List Frame) (top : ℕ) (d : Frame) → top < length frames → take (top + 1) frames ≡ take top frames ++ get_or frames top d ∷ []
take-top frames top d within = let next : top + 1 ≡ suc top = omega arith in ap (λ k. take k frames) next ∙ take-suc frames top d within

-- what was done at the top frame, the last of the front, is done of all
module _ (table : Table) (mode : DropMode) (frames walked : List Frame) (top : ℕ) (front : walked ≡ take (top + 1) frames) (within : top < length frames) (d0 : Frame) where
  abbrev below : List Frame
  below = take top frames

  abbrev old : Frame
  old = get_or walked top d0

  long : length walked ≡ top + 1
  long = ap length front ∙ length-take-le (top + 1) frames (omega arith)

  below-same : take top walked ≡ below
  below-same = ap (take top) front ∙ take-take top (top + 1) frames (omega arith)

  old-there : (d : Frame) → old ≡ get_or frames top d
  old-there d = ap (λ l. get_or l top d0) front ∙ get_or-take (top + 1) frames top d0 (omega arith) ∙ read-any frames top d0 d within

  whole : take (top + 1) frames ≡ below ++ old ∷ []
  whole = sym front ∙ walked-last walked top (top + 1) refl long d0 ∙ ap (λ l. l ++ old ∷ []) below-same

  pub old-fresh : ((d : Frame) → IsFresh table mode (get_or frames top d)) → IsFresh table mode old
  old-fresh fresh = subst (IsFresh table mode) (sym (old-there d0)) (fresh d0)

  fits : has_room 0 (take (top + 1) frames) ≡ true → old.setup.left + top ≤ 19
  fits room = let last = room-last 0 below old (subst (λ l. has_room 0 l ≡ true) whole room) in omega (arith, last.1, length-take top frames)

  -- there is room behind it for the placements that come after its next one
  pub old-within : has_room 0 (take (top + 1) frames) ≡ true → old.setup.left + (top + 1) ≤ 20
  old-within room = omega (arith, fits room)

  module _ (new : Frame) (room : has_room 0 (take (top + 1) frames) ≡ true) (same : new.setup ≡ old.setup) (behind : List Frame) (before now : ℕ) (q : Placement) where
    room-below : has_room 0 below ≡ true
    room-below = (room-last 0 below old (subst (λ l. has_room 0 l ≡ true) whole room)).0

    room-new : has_room 0 (below ++ new ∷ []) ≡ true
    room-new = room-more 0 below new room-below (omega (arith, fits room, ap (λ (s : Setup). s.left) same, length-take top frames))

    abbrev more : List Frame
    more = set walked top new ++ behind

    written : take (top + 1) more ≡ below ++ new ∷ []
    written = written-top walked top (top + 1) refl long new behind ∙ ap (λ l. l ++ new ∷ []) below-same

    there : ((prefix given : List Placement) → SkipsTo (sought (suc old.setup.left) prefix (state_of table mode old.setup) (q ∷ given)) (events_of table mode prefix new) before now) → IsThere table mode frames more top q before now
    there skips = record {
      room = subst (λ l. has_room 0 l ≡ true) (sym written) room-new;
      skips = λ given d.
          subst (λ l. SkipsTo (sought_at table mode frames top (q ∷ given) d) l before now) (sym (ap (stacked table mode []) written ∙ stacked-last table mode [] below new))
          (search (rules, (old-there d), (skips-before (sought (suc old.setup.left) (path_of below) (state_of table mode old.setup) (q ∷ given)) (events_of table mode (path_of below) new) (stacked table mode [] below) before now (skips (path_of below) given))));
    }

    module _ (e : Frame) (fewer : (get_or behind 0 e).setup.left + 1 ≡ old.setup.left) (some : 0 < length behind) where
      abbrev child : Frame
      child = get_or behind 0 e

      child-there : (d : Frame) → child ≡ get_or more (top + 1) d
      child-there d = sym (written-child walked top (top + 1) refl long new behind e d some)

      deeper : IsFresh table mode child →
          ((prefix given : List Placement) → SkipsTo (sought (suc old.setup.left) prefix (state_of table mode old.setup) (q ∷ given)) (sought (suc child.setup.left) (prefix ++ entered_placement new) (state_of table mode child.setup) given ++ events_of table mode prefix new) before now) →
          IsDeeper table mode frames more top q before now
      deeper fresh skips = record {
        within = omega (arith, fits room, fewer);
        room = subst (λ l. has_room 0 l ≡ true) (sym (written-deeper walked top (top + 1) refl long new behind e some ∙ ap (λ l. (l ++ new ∷ []) ++ child ∷ []) below-same))
            (room-more 0 (below ++ new ∷ []) child room-new (omega (arith, fits room, fewer, length-take top frames, length-append below (new ∷ []))));
        fresh = λ d. subst (IsFresh table mode) (child-there d) fresh;
        skips = λ given d.
            subst (λ l. SkipsTo (sought_at table mode frames top (q ∷ given) d) l before now) (shape given d)
            (subst (λ f. SkipsTo (sought (suc f.setup.left) (path_of below) (state_of table mode f.setup) (q ∷ given) ++ stacked table mode [] below) ((sought (suc child.setup.left) (path_of below ++ entered_placement new) (state_of table mode child.setup) given ++ events_of table mode (path_of below) new) ++ stacked table mode [] below) before now) (old-there d)
            (skips-before (sought (suc old.setup.left) (path_of below) (state_of table mode old.setup) (q ∷ given)) (sought (suc child.setup.left) (path_of below ++ entered_placement new) (state_of table mode child.setup) given ++ events_of table mode (path_of below) new) (stacked table mode [] below) before now (skips (path_of below) given)));
      }
        where
          shape : (given : List Placement) (d : Frame) → (sought (suc child.setup.left) (path_of below ++ entered_placement new) (state_of table mode child.setup) given ++ events_of table mode (path_of below) new) ++ stacked table mode [] below ≡ sought_at table mode more (top + 1) given d
          shape given d = search (rules, (append_assoc (sought (suc child.setup.left) (path_of below ++ entered_placement new) (state_of table mode child.setup) given) (events_of table mode (path_of below) new) (stacked table mode [] below)), (child-there d), (path-last below new), (stacked-last table mode [] below new), written)

    pub skipped : length behind + (top + 1) ≡ 20 → (entered : Bool) → Skips table mode old new q (get_or behind 0 new) entered before now → IsSought table mode frames (set walked top new ++ behind) top q entered before now
    skipped size false skips = there skips
    skipped size true skips = deeper new skips.2 (omega (arith, fits room, skips.2, size)) skips.1 skips.0

-- a fresh frame, with nothing to be passed by
pub fresh-events : (table : Table) (mode : DropMode) (prefix : List Placement) (frame : Frame) → IsFresh table mode frame → sought (suc frame.setup.left) prefix (state_of table mode frame.setup) [] ≡ events_of table mode prefix frame
unfolding sought events_of places_left
fresh-events table mode prefix frame fresh = search (rules, cond-true)

pub at-end : (table : Table) (mode : DropMode) (frames : List Frame) (top : ℕ) (d : Frame) → top < length frames → IsFresh table mode (get_or frames top d) → sought_at table mode frames top [] d ≡ stacked table mode [] (take (top + 1) frames)
at-end table mode frames top d within fresh =
    search (rules, (fresh-events table mode (path_of (take top frames)) (get_or frames top d) fresh), (stacked-last table mode [] (take top frames) (get_or frames top d)), (take-top frames top d within))

-- at the start
pub at-start : (table : Table) (mode : DropMode) (frames : List Frame) (given : List Placement) (d : Frame) → sought_at table mode frames 0 given d ≡ sought (suc (get_or frames 0 d).setup.left) [] (state_of table mode (get_or frames 0 d).setup) given
unfolding stacked path_of
at-start table mode frames given d = append-nil (sought (suc (get_or frames 0 d).setup.left) [] (state_of table mode (get_or frames 0 d).setup) given)

pub starts : (table : Table) (mode : DropMode) (frames : List Frame) (given : List Placement) (d : Frame) (before : ℕ) →
    SkipsTo (sought (suc (get_or frames 0 d).setup.left) [] (state_of table mode (get_or frames 0 d).setup) given) (sought_at table mode frames 0 given d) before before
starts table mode frames given d before = skips-same (sought (suc (get_or frames 0 d).setup.left) [] (state_of table mode (get_or frames 0 d).setup) given) (sought_at table mode frames 0 given d) before (sym (at-start table mode frames given d))

pub drop-none : (given : List Placement) (i : ℕ) → length given ≤ i → drop i given ≡ []
drop-none [] zero within = refl
drop-none [] (suc i) within = refl
drop-none (q ∷ given) zero within = absurd (omega arith)
drop-none (q ∷ given) (suc i) within = drop-none given i (omega arith)

-- where nothing is left to be passed by
pub skips-to : (table : Table) (mode : DropMode) (frames : List Frame) (top : ℕ) (left : List Placement) (d : Frame) (whole : List Event) (before now : ℕ) → left ≡ [] → top < length frames → IsFresh table mode (get_or frames top d) →
    SkipsTo whole (sought_at table mode frames top left d) before now → SkipsTo whole (stacked table mode [] (take (top + 1) frames)) before now
skips-to table mode frames top left d whole before now none within fresh skips = search (rules, at-end)

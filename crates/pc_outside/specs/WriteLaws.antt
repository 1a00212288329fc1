-- The laws of writes that follow each other.
use Rattle.std.specs.Prelude.{◌≡◌, ℕ, ◌+◌, ◌<◌, Option, Some, None, Result, Ok, Err, List, [], ◌++◌, length, take, drop, IsErr, refl}
use Rattle.std.specs.List.{flat_map}
use Rattle.std.proofs.Common.{sym, ap, subst, ◌∙◌, append_assoc, append-nil, take-append-drop, get_or}
use Rattle.std.proofs.lemmas.List.{at_drop_more}
use Rattle.std.proofs.lemmas.Option.{same_Some}
use Rattle.std.proofs.KnownBytes.{Appends-nil, Appends-trans}
use Rattle.pc_outside.specs.Writes.{Grows, GrowsUpTo, GrowsByFront, WritesAll}

-- what a sink holds now, where it tells its bytes
pub grows_told : (old new : Option (List ℕ)) (held bytes : List ℕ) → Grows old new bytes → old ≡ Some held
    → new ≡ Some (held ++ bytes)
grows_told None new held bytes grown told = cc
grows_told (Some before) None held bytes grown told = absurd grown.appended
grows_told (Some before) (Some after) held bytes grown told =
    ap Some (grown.appended ∙ ap (λ l. l ++ bytes) (same_Some before held told))

pub grows_nothing : (old : Option (List ℕ)) → Grows old old []
grows_nothing old = record { appended = Appends-nil old }

pub grows_more : {old mid new : Option (List ℕ)} {bytes more : List ℕ} → Grows old mid bytes → Grows mid new more
    → Grows old new (bytes ++ more)
grows_more one other = record { appended = Appends-trans _ _ _ _ _ one.appended other.appended }

-- nothing is written yet
pub begins : (old : Option (List ℕ)) (whole : List ℕ) → GrowsUpTo old old whole whole
begins old whole = record { front = []; divided = refl; grown = grows_nothing old }

-- a piece was written, and then the rest is left
pub goes_on : {old mid new : Option (List ℕ)} {whole left piece rest : List ℕ} → GrowsUpTo old mid whole left
    → left ≡ piece ++ rest → Grows mid new piece → GrowsUpTo old new whole rest
goes_on {piece = piece} {rest = rest} so_far divided grown = record {
  front = so_far.front ++ piece;
  divided = so_far.divided ∙ ap (λ l. so_far.front ++ l) divided ∙ sym (append_assoc so_far.front piece rest);
  grown = grows_more so_far.grown grown;
}

-- the first n bytes of what was left were written
pub after_first : {old mid new : Option (List ℕ)} {whole left : List ℕ} (n : ℕ) → GrowsUpTo old mid whole left
    → Grows mid new (take n left) → GrowsUpTo old new whole (drop n left)
after_first {left = left} n so_far grown = goes_on so_far (sym (take-append-drop n left)) grown

-- nothing is left to write
pub ends : {old new : Option (List ℕ)} {whole : List ℕ} → GrowsUpTo old new whole [] → Grows old new whole
ends {old} {new} {whole} so_far =
    let same : so_far.front ≡ whole = sym (so_far.divided ∙ append-nil so_far.front) in
    subst (Grows old new) same so_far.grown

pub is_front : {old new : Option (List ℕ)} {whole rest : List ℕ} → GrowsUpTo old new whole rest
    → GrowsByFront old new whole
is_front {rest = rest} so_far = record { rest = rest; up_to = so_far }

-- a front of a piece was written, and nothing after it
pub stops : {old mid new : Option (List ℕ)} {whole left piece : List ℕ} (rest : List ℕ)
    → GrowsUpTo old mid whole left → left ≡ piece ++ rest → GrowsByFront mid new piece
    → GrowsByFront old new whole
stops rest so_far divided part =
    let parts = divided ∙ ap (λ l. l ++ rest) part.up_to.divided ∙ append_assoc part.up_to.front part.rest rest in
    is_front (goes_on so_far parts part.up_to.grown)

-- the first n of these bytes were written, to a sink that tells its bytes
pub front_taken : {old new bytes : List ℕ} (n : ℕ) → new ≡ old ++ take n bytes
    → GrowsByFront (Some old) (Some new) bytes
front_taken {bytes = bytes} n taken = record {
  rest = drop n bytes;
  up_to = record {
    front = take n bytes;
    divided = sym
        (take-append-drop n bytes);
    grown = record { appended = taken };
  };
}

-- a call wrote its piece
pub after_piece : {T E : Type 0} {old mid new : Option (List ℕ)} {whole left piece rest : List ℕ} {x : T}
    → GrowsUpTo old mid whole left → left ≡ piece ++ rest
    → WritesAll {T = T} {E = E} mid new (Ok x) piece → GrowsUpTo old new whole rest
after_piece so_far divided written = goes_on so_far divided written.done

-- a call failed at its piece
pub failed_piece : {T E : Type 0} {old mid new : Option (List ℕ)} {whole left piece : List ℕ} {e : E} (rest : List ℕ)
    → GrowsUpTo old mid whole left → left ≡ piece ++ rest
    → WritesAll {T = T} {E = E} mid new (Err e) piece → GrowsByFront old new whole
failed_piece rest so_far divided written = stops rest so_far divided written.failed

-- the last call writes what is left, and its answer is the answer
pub last_call : {T E : Type 0} {old mid new : Option (List ℕ)} {whole piece : List ℕ} {result : Result T E}
    → GrowsUpTo old mid whole piece → WritesAll mid new result piece
    → WritesAll old new result whole
last_call {piece = piece} {result = Ok x} so_far written =
    record { done = ends (goes_on so_far (sym (append-nil piece)) written.done); failed = tt }
last_call {piece = piece} {result = Err e} so_far written =
    record { done = tt; failed = stops [] so_far (sym (append-nil piece)) written.failed }

-- the answer is an error, after a front was written
pub at_err : {T E : Type 0} {old new : Option (List ℕ)} {whole : List ℕ} {result : Result T E} → IsErr result
    → GrowsByFront old new whole → WritesAll old new result whole
at_err {result = Ok x} err part = cc
at_err {result = Err e} err part = record { done = tt; failed = part }

-- two calls one after the other
pub two_calls : {S E T F : Type 0} {old mid new : Option (List ℕ)} {bytes more : List ℕ} {x : S}
    {result : Result T F} → WritesAll {T = S} {E = E} old mid (Ok x) bytes
    → WritesAll mid new result more → WritesAll old new result (bytes ++ more)
two_calls {old = old} {bytes = bytes} {more = more} first last =
    last_call (after_piece (begins old (bytes ++ more)) refl first) last

-- the first of two calls failed
pub first_failed : {S E T F : Type 0} {old new : Option (List ℕ)} {bytes : List ℕ} (more : List ℕ) {e : E}
    {result : Result T F} → WritesAll {T = S} {E = E} old new (Err e) bytes → IsErr result
    → WritesAll old new result (bytes ++ more)
first_failed {old = old} {bytes = bytes} more first err =
    at_err err (failed_piece more (begins old (bytes ++ more)) refl first)

-- whatever the answer, a front was written
pub writes_front : {T E : Type 0} {old new : Option (List ℕ)} {bytes : List ℕ} {result : Result T E}
    → WritesAll old new result bytes → GrowsByFront old new bytes
writes_front {bytes = bytes}
    {result = Ok x} written = record {
      rest = [];
      up_to = record {
        front = bytes;
        divided = sym
            (append-nil bytes);
        grown = written.done;
      };
    }
writes_front {result = Err e} written = written.failed

-- of a sink that doesn't tell its bytes nothing is said
pub writes_untold : {T E : Type 0} {new : Option (List ℕ)} {bytes : List ℕ} {result : Result T E}
    → WritesAll None new result bytes
writes_untold {result = Ok x} = record { done = record { appended = tt }; failed = tt }
writes_untold {bytes = bytes} {result = Err e} = record {
  done = tt;
  failed = record { rest = bytes; up_to = record { front = []; divided = refl; grown = record { appended = tt } } };
}

-- a call wrote what stands for one more item of a list
pub next_item : {T E X : Type 0} {old mid new : Option (List ℕ)} {x : T} (text : X → List ℕ) (items : List X)
    (i : ℕ) (default : X) → i < length items
    → GrowsUpTo old mid (flat_map text items) (flat_map text (drop i items))
    → WritesAll {T = T} {E = E} mid new (Ok x) (text (get_or items i default))
    → GrowsUpTo old new (flat_map text items) (flat_map text (drop (i + 1) items))
next_item text items i default within so_far written =
    after_piece so_far (at_drop_more (flat_map text) items i default within) written

-- a call failed at an item of a list
pub item_failed : {T E X : Type 0} {old mid new : Option (List ℕ)} {e : E} (text : X → List ℕ) (items : List X)
    (i : ℕ) (default : X) → i < length items
    → GrowsUpTo old mid (flat_map text items) (flat_map text (drop i items))
    → WritesAll {T = T} {E = E} mid new (Err e) (text (get_or items i default))
    → GrowsByFront old new (flat_map text items)
item_failed text items i default within so_far written =
    failed_piece _ so_far (at_drop_more (flat_map text) items i default within) written

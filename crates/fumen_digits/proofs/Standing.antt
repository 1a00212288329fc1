-- Texts that stand among the digits, one behind the other.
use Rattle.std.proofs.Common.{◌≡◌, ℕ, ◌+◌, ◌<◌, ◌≤◌, List, [], ◌∷◌, ◌++◌, length, get_or, take, drop, refl, sym, ap, ◌∙◌, append_assoc, arith, rules}
use Rattle.std.proofs.lemmas.List.{drop_more, drop-drop, drop_at, take_at, length-append}
use Rattle.fumen_digits.specs.Number.{Stands}

pub Stands-nil : (ds : List ℕ) (k : ℕ) → k ≤ length ds → Stands ds k [] k
Stands-nil ds k le = record { here = refl; upto = omega arith; within = le }

-- a text behind another
pub Stands-then : (ds : List ℕ) (k : ℕ) (a : List ℕ) (j : ℕ) (b : List ℕ) (m : ℕ) → Stands ds k a j → Stands ds j b m → Stands ds k (a ++ b) m
Stands-then ds k a j b m one other = search (rules, append_assoc, length-append)

-- the parts of a text
pub Stands-parts : (ds : List ℕ) (k : ℕ) (a b : List ℕ) (m : ℕ) → Stands ds k (a ++ b) m → Stands ds k a (k + length a) × Stands ds (k + length a) b m
Stands-parts ds k a b m s =
    let whole : drop k ds ≡ a ++ (b ++ drop m ds) = s.here ∙ append_assoc a b (drop m ds) in
    let behind : drop (k + length a) ds ≡ b ++ drop m ds = sym (drop-drop (length a) k ds) ∙ (ap (λ (x : List ℕ). drop (length a) x) whole ∙ drop_at a (b ++ drop m ds) (length a) refl) in
    let inside : k + length a ≤ length ds = omega (arith, s.upto, s.within, length-append a b) in
    (record { here = whole ∙ ap (λ (x : List ℕ). a ++ x) (sym behind); upto = refl; within = inside }, record { here = behind; upto = omega (arith, s.upto, length-append a b); within = s.within })

-- one byte, and a text behind it
pub Stands-head : (ds : List ℕ) (k x : ℕ) (text : List ℕ) (j : ℕ) → Stands ds k (x ∷ text) j → (k < length ds) × (get_or ds k 0 ≡ x) × Stands ds (k + 1) text j
Stands-head ds k x text j s =
    let lt : k < length ds = omega (arith, s.upto, s.within) in
    let one : get_or ds k 0 ∷ drop (k + 1) ds ≡ x ∷ (text ++ drop j ds) = sym (drop_more ds k 0 lt) ∙ s.here in
    let head : get_or ds k 0 ≡ x = cc in
    let tail : drop (k + 1) ds ≡ text ++ drop j ds = cc in
    (lt, head, record { here = tail; upto = omega (arith, s.upto); within = s.within })

pub Stands-cons : (ds : List ℕ) (k x : ℕ) (text : List ℕ) (j : ℕ) → k < length ds → get_or ds k 0 ≡ x → Stands ds (k + 1) text j → Stands ds k (x ∷ text) j
Stands-cons ds k x text j lt head s = search (rules, drop_more)

-- a text that stands at a place is the bytes there, as many as it has
pub Stands-is : (ds : List ℕ) (k : ℕ) (text : List ℕ) (j : ℕ) → Stands ds k text j → text ≡ take (length text) (drop k ds)
Stands-is ds k text j s = sym (ap (λ (x : List ℕ). take (length text) x) s.here ∙ take_at text (drop j ds) (length text) refl)

-- two texts of one length that stand at a place are one
pub Stands-same : (ds : List ℕ) (k : ℕ) (a b : List ℕ) (j m : ℕ) → Stands ds k a j → Stands ds k b m → length a ≡ length b → a ≡ b
Stands-same ds k a b j m one other len =
    Stands-is ds k a j one ∙ (ap (λ (n : ℕ). take n (drop k ds)) len ∙ sym (Stands-is ds k b m other))

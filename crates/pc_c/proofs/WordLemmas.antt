-- A text spells at most one list of words, and a part of it was read.
use Rattle.std.proofs.Common.{◌≡◌, ◌≢◌, ℕ, ◌==◌, false, List, [], ◌∷◌, ◌++◌, refl, sym, ap, subst, ◌∙◌, append_assoc, append-nil, true≢false, inl, inr, arith, rules}
use Rattle.std.specs.Prelude.{IsUtf8}
use Rattle.std.proofs.lemmas.List.Elements.{All-head, All-tail}
use Rattle.pc_c.specs.Call.{IsStatus, IsStatusOf}
use Rattle.pc_c.specs.Words.{SpellsWords, SpellsNoWords}
use Rattle.pc_c.specs.declared.words.NoWords.{NoWords}
use Rattle.pc_c.specs.declared.words.NoWords.TheVariants.{Unspelled, NoMemory}
use Rattle.pc_c.proofs.NulLemmas.{IsPlain}

abbrev head_of : ℕ → List ℕ → ℕ
head_of default [] = default
head_of default (x ∷ xs) = x

abbrev tail_of : List ℕ → List ℕ
tail_of [] = []
tail_of (x ∷ xs) = xs

zero_plain : (byte : ℕ) → byte ≡ 0 → (byte == 0) ≡ false → ⊥
zero_plain byte is other = true≢false (sym (ap (λ b. b == 0) is) ∙ other)

-- what stands before the first NUL byte, and behind it
pub same_cut : (one other rest more : List ℕ) → IsPlain one → IsPlain other → one ++ 0 ∷ rest ≡ other ++ 0 ∷ more
    → (one ≡ other) × (rest ≡ more)
same_cut [] [] rest more plain also same = (refl, ap tail_of same)
same_cut [] (y ∷ other) rest more plain also same = search (rules, zero_plain, All-head)
same_cut (x ∷ one) [] rest more plain also same = search (rules, zero_plain, All-head)
same_cut (x ∷ one) (y ∷ other) rest more plain also same =
    let behind = same_cut one other rest more (All-tail (λ byte. (byte == 0) ≡ false) x one plain)
    (All-tail (λ byte. (byte == 0) ≡ false) y other also) (ap tail_of same) in
    (ap (λ b. b ∷ one) (ap (head_of 0) same) ∙ ap (λ (l : List ℕ). y ∷ l) behind.0, behind.1)

some_byte : (word rest : List ℕ) → word ++ 0 ∷ rest ≡ [] → ⊥
some_byte [] rest none = cc
some_byte (x ∷ word) rest none = cc

pub one_spelling : (text : List ℕ) (one other : List (List ℕ)) → SpellsWords text one → SpellsWords text other
    → one ≡ other
one_spelling text [] [] is also = refl
one_spelling text [] (y ∷ other) is also = absurd (some_byte y also.1 (sym also.2 ∙ is))
one_spelling text (x ∷ one) [] is also = absurd (some_byte x is.1 (sym is.2 ∙ also))
one_spelling text (x ∷ one) (y ∷ other) is also =
    let cut = same_cut x y is.1 also.1 is.0.plain also.0.plain (sym is.2 ∙ also.2) in
    let more = one_spelling also.1 one other (subst (λ (l : List ℕ). SpellsWords l one) cut.1 is.3) also.3 in
    ap (λ (w : List ℕ). w ∷ one) cut.0 ∙ ap (λ (l : List (List ℕ)). y ∷ l) more

-- of the words of a text some were read, and the rest is left
pub record HasRead (text : List ℕ) (words : List (List ℕ)) (rest : List ℕ) : Type 0 where
  pub ahead : (more : List (List ℕ)) → SpellsWords rest more → SpellsWords text (words ++ more)
  pub behind : (all : List (List ℕ)) → SpellsWords text all → (more : List (List ℕ)) × SpellsWords rest more

pub read_all : (text : List ℕ) (words : List (List ℕ)) (rest : List ℕ) → HasRead text words rest → rest ≡ []
    → SpellsWords text words
read_all text words rest so_far none = subst (SpellsWords text) (append-nil words) (so_far.ahead [] none)

pub read_more : (text : List ℕ) (words : List (List ℕ)) (rest word more : List ℕ) → HasRead text words rest
    → rest ≡ word ++ 0 ∷ more → IsPlain word → IsUtf8 word → HasRead text (words ++ word ∷ []) more
read_more text words rest word more so_far cut plain utf8 = record {
  ahead = λ later is. subst (SpellsWords text) (sym (append_assoc words (word ∷ []) later))
      (so_far.ahead (word ∷ later) (record { utf8 = utf8; plain = plain }, more, cut, is));
  behind = λ all is. let left = so_far.behind all is in behind left.0 left.1;
} where
  behind : (left : List (List ℕ)) → SpellsWords rest left → (later : List (List ℕ)) × SpellsWords more later
  behind [] is = absurd (some_byte word more (sym cut ∙ is))
  behind (w ∷ later) is =
      let same = same_cut w word is.1 more is.0.plain plain (sym is.2 ∙ cut) in
      (later, subst (λ (l : List ℕ). SpellsWords l later) same.1 is.3)

-- a word that is left has no NUL byte behind it
pub unended : (text : List ℕ) (words : List (List ℕ)) (rest : List ℕ) → HasRead text words rest → (rest ≡ [] → ⊥)
    → IsPlain rest → SpellsNoWords text
unended text words rest so_far some plain all is = let left = so_far.behind all is in none left.0 left.1 where
  has : (w behind : List ℕ) → IsPlain (w ++ 0 ∷ behind) → ⊥
  has [] behind p = zero_plain 0 refl (All-head (λ byte. (byte == 0) ≡ false) 0 behind p)
  has (x ∷ w) behind p = has w behind (All-tail (λ byte. (byte == 0) ≡ false) x (w ++ 0 ∷ behind) p)

  none : (left : List (List ℕ)) → SpellsWords rest left → ⊥
  none [] is = some is
  none (w ∷ later) is = has w is.1 (subst IsPlain is.2 plain)

-- a word that is left is not in UTF-8
pub not_utf8 : (text : List ℕ) (words : List (List ℕ)) (rest word more : List ℕ) → HasRead text words rest
    → rest ≡ word ++ 0 ∷ more → IsPlain word → (IsUtf8 word → ⊥) → SpellsNoWords text
not_utf8 text words rest word more so_far cut plain bad all is = let left = so_far.behind all is in none left.0 left.1
  where
    none : (left : List (List ℕ)) → SpellsWords rest left → ⊥
    none [] is = some_byte word more (sym cut ∙ is)
    none (w ∷ later) is =
        let same = same_cut w word is.1 more is.0.plain plain (sym is.2 ∙ cut) in
        bad (subst IsUtf8 same.0 is.0.utf8)

-- ---- the status of a call

pub status_five : IsStatus 5
status_five = inr (inr (inr (inl refl)))

pub status_six : IsStatus 6
status_six = inr (inr (inr (inr refl)))

-- the text has words
pub worded_status : (Is : ℕ → Type 0) (text : List ℕ) (words : List (List ℕ)) (status : ℕ) → SpellsWords text words
    → Is status → status ≢ 6 → IsStatusOf Is text status
worded_status Is text words status spelled one worded = record {
  one = one;
  no_words = λ six. absurd (worded six);
  unspelled = λ none. absurd (none words spelled);
}

-- it has none, or memory is wanting
pub none_status : (Is : ℕ → Type 0) → Is 5 → Is 6 → (text : List ℕ) (none : NoWords) (status : ℕ)
    → (none ≡ Unspelled → status ≡ 6) → (none ≡ NoMemory → status ≡ 5) → (none ≡ Unspelled → SpellsNoWords text)
    → IsStatusOf Is text status
none_status Is five six text Unspelled status unspelled wanting unworded = record {
  one = subst Is (sym (unspelled refl)) six;
  no_words = λ _. unworded refl;
  unspelled = λ _. inr (unspelled refl);
}
none_status Is five six text NoMemory status unspelled wanting unworded = record {
  one = subst Is (sym (wanting refl)) five;
  no_words = λ is. absurd (omega (arith, wanting refl, is));
  unspelled = λ _. inl (wanting refl);
}

-- so where it has words, memory is wanting
pub none_wanting : (text : List ℕ) (none : NoWords) (status : ℕ) → (none ≡ NoMemory → status ≡ 5)
    → (none ≡ Unspelled → SpellsNoWords text) → (words : List (List ℕ)) → SpellsWords text words → status ≡ 5
none_wanting text Unspelled status wanting unworded words spelled = absurd (unworded refl words spelled)
none_wanting text NoMemory status wanting unworded words spelled = wanting refl

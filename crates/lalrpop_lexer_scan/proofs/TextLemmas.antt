-- A text is the bytes of its characters, and a front of it those of the first ones. For the functions that cut a text.
use Rattle.std.proofs.Common.{◌≡◌, ℕ, zero, suc, ◌+◌, ◌-◌, ◌<◌, ◌≤◌, List, [], ◌∷◌, ◌++◌, length, take}
use Rattle.std.proofs.Common.{drop, refl, sym, ap, ◌∙◌, arith, Bool, true, false, cond, ◌&&◌, encode_utf8, encode_utf8_all}
use Rattle.std.proofs.Common.{length-append}
use lib.Utf8.{scalars, scalar}
use Rattle.std.specs.Char.{is_whitespace, len_utf8}
use Rattle.std.specs.Str.{chars, IsUtf8, IsCharBoundary, skip_leading_whitespace, trim_start}
use Rattle.std.proofs.lemmas.Str.{encodes-append, encodes-chars, chars-encodes, chars-append, scalars-chars, length-encode, len_utf8_bounds}
use Rattle.std.proofs.lemmas.Str.{IsCharBoundary-at_seam}
use Rattle.std.proofs.lemmas.List.{take-append-drop, take_at, drop_at}
use Rattle.std.proofs.lemmas.Bool.{cases_lt}
use Rattle.std.proofs.Common.{inl, inr}
use Rattle.lalrpop_lexer_scan.specs.Pieces.{blanks}

second_true : (a b : Bool) → (a && b) ≡ true → b ≡ true
second_true true b e = e
second_true false b e = cc

scalars_drop : (n : ℕ) (cs : List ℕ) → scalars cs ≡ true → scalars (drop n cs) ≡ true
scalars_drop zero cs e = e
scalars_drop (suc n) [] e = e
scalars_drop (suc n) (c ∷ cs) e = scalars_drop n cs (second_true (scalar c) (scalars cs) e)

-- the bytes of the first n characters, and of the others
abbrev pub front_of : List ℕ → ℕ → List ℕ
front_of text n = encode_utf8_all (take n (chars text))

-- the back of a text: the bytes of the characters behind the first n
abbrev pub back_of : List ℕ → ℕ → List ℕ
back_of text n = encode_utf8_all (drop n (chars text))

module _ (text : List ℕ) (utf8 : IsUtf8 text) (n : ℕ) where
  -- a text is the bytes of its first n characters, and then of the others
  pub split : text ≡ front_of text n ++ back_of text n
  split =
      sym (encodes-chars text utf8) ∙ ap encode_utf8_all (sym (take-append-drop n (chars text)))
      ∙ encodes-append (take n (chars text)) (drop n (chars text))

  scalars_back : scalars (drop n (chars text)) ≡ true
  scalars_back = scalars_drop n (chars text) (scalars-chars text utf8)

  -- the back is UTF-8
  pub back_utf8 : IsUtf8 (back_of text n)
  back_utf8 = (drop n (chars text), (scalars_back, refl))

  -- the characters of the back are the text's without the first n
  pub chars_back : chars (back_of text n) ≡ drop n (chars text)
  chars_back = chars-encodes (drop n (chars text)) scalars_back

  -- at the end of the front
  pub front_length : length text - length (back_of text n) ≡ length (front_of text n)
  front_length = omega (arith, ap length split, length-append (front_of text n) (back_of text n))

  -- the first n characters end at a character boundary
  pub front_boundary : IsCharBoundary text (length (front_of text n))
  front_boundary = IsCharBoundary-at_seam text (front_of text n) (back_of text n) split back_utf8

  -- the text's first bytes, as many as the first n characters have, are theirs
  pub front_taken : take (length (front_of text n)) text ≡ front_of text n
  front_taken = ap (take (length (front_of text n))) split ∙ take_at (front_of text n) (back_of text n) (length (front_of text n)) refl

  -- the text without the bytes of its first n characters is the back
  pub back_left : drop (length (front_of text n)) text ≡ back_of text n
  back_left = ap (drop (length (front_of text n))) split ∙ drop_at (front_of text n) (back_of text n) (length (front_of text n)) refl

-- a front that is text itself is that of its characters
pub front_is : (text front rest : List ℕ) → IsUtf8 front → text ≡ front ++ rest → front ≡ front_of text (length (chars front))
front_is text front rest u e =
    sym (encodes-chars front u)
    ∙ ap encode_utf8_all (sym
    (ap (take (length (chars front))) (ap chars e ∙ chars-append front rest u)
    ∙ take_at (chars front) (chars rest) (length (chars front)) refl))

-- whitespace at the front
skip_drop : (cs : List ℕ) → skip_leading_whitespace cs ≡ drop (blanks cs) cs
skip_drop [] = refl
skip_drop (c ∷ cs) =
    let up : suc (blanks cs) ≡ 1 + blanks cs = omega arith in
    elim (is_whitespace c) as (λ b. cond b (skip_leading_whitespace cs) (c ∷ cs) ≡ drop (cond b (1 + blanks cs) 0) (c ∷ cs))
    [ true ↦ skip_drop cs ∙ ap (λ n. drop n (c ∷ cs)) up | false ↦ refl ]

-- a text trimmed at its start is what stands behind its whitespace there
pub trimmed : (text : List ℕ) → trim_start text ≡ back_of text (blanks (chars text))
unfolding trim_start
trimmed text = ap encode_utf8_all (skip_drop (chars text))

-- a longer front has more bytes
pub longer_front : (cs : List ℕ) (a b : ℕ) → a < b → b ≤ length cs
    → length (encode_utf8_all (take a cs)) < length (encode_utf8_all (take b cs))
longer_front cs a zero l h = absurd (omega arith)
longer_front [] a (suc b) l h = let wrong : suc b ≤ 0 = h in absurd (omega arith)
longer_front (c ∷ cs) zero (suc b) l h =
    let one : 1 ≤ len_utf8 c = (len_utf8_bounds c).0 in
    let is : length (encode_utf8 c) ≡ len_utf8 c = length-encode c in
    let sum : length (encode_utf8 c ++ encode_utf8_all (take b cs)) ≡ length (encode_utf8 c) + length (encode_utf8_all (take b cs)) =
    length-append (encode_utf8 c) (encode_utf8_all (take b cs)) in
    let some : 0 < length (encode_utf8 c ++ encode_utf8_all (take b cs)) = omega arith in
    some
longer_front (c ∷ cs) (suc a) (suc b) l h =
    let within : suc b ≤ suc (length cs) = h in
    let more : length (encode_utf8_all (take a cs)) < length (encode_utf8_all (take b cs)) =
    longer_front cs a b (omega arith) (omega arith) in
    let one : length (encode_utf8 c ++ encode_utf8_all (take a cs)) ≡ length (encode_utf8 c) + length (encode_utf8_all (take a cs)) =
    length-append (encode_utf8 c) (encode_utf8_all (take a cs)) in
    let two : length (encode_utf8 c ++ encode_utf8_all (take b cs)) ≡ length (encode_utf8 c) + length (encode_utf8_all (take b cs)) =
    length-append (encode_utf8 c) (encode_utf8_all (take b cs)) in
    let both : length (encode_utf8 c ++ encode_utf8_all (take a cs)) < length (encode_utf8 c ++ encode_utf8_all (take b cs)) =
    omega arith in
    both

-- a front with no more bytes has no more characters
pub not_longer_front : (cs : List ℕ) (a b : ℕ) → b ≤ length cs
    → length (encode_utf8_all (take b cs)) ≤ length (encode_utf8_all (take a cs)) → b ≤ a
not_longer_front cs a b h l =
    elim (cases_lt a b) [
      | inl less ↦ absurd
          (let more : length (encode_utf8_all (take a cs)) < length (encode_utf8_all (take b cs)) = longer_front cs a b less h in
          omega arith)
      | inr more ↦ more
    ]

-- a front with fewer bytes has fewer characters
pub shorter_front : (cs : List ℕ) (a b : ℕ) → a ≤ length cs
    → length (encode_utf8_all (take a cs)) < length (encode_utf8_all (take b cs)) → a < b
shorter_front cs a b h l =
    elim (cases_lt a b) [
      | inl less ↦ less
      | inr not_less ↦ elim (cases_lt b a) [
        | inl more ↦ absurd (let wrong : length (encode_utf8_all (take b cs)) < length (encode_utf8_all (take a cs)) =
            longer_front cs b a more h in omega arith)
        | inr same ↦ absurd (let is : a ≡ b = omega arith in
            let wrong : length (encode_utf8_all (take a cs)) ≡ length (encode_utf8_all (take b cs)) =
            ap (λ n. length (encode_utf8_all (take n cs))) is in omega arith)
      ]
    ]

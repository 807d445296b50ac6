-- A text read from its front, a character at a time. For the functions that run an automaton over a text.
use Rattle.std.proofs.Common.{◌≡◌, ℕ, List, [], ◌∷◌, ◌++◌, length, take, sym, ap, ◌∙◌, refl}
use Rattle.std.proofs.Common.{append_assoc, append-nil, Bool, true, false, ◌&&◌}
use lib.Utf8.{scalars, scalar}
use Rattle.std.specs.Str.{chars, IsUtf8}
use Rattle.std.specs.Char.{IsScalar}
use Rattle.std.specs.Prelude.{encode_utf8}
use Rattle.std.proofs.lemmas.Str.{chars-append, chars_past_char, scalars-chars, IsUtf8-append, IsUtf8-encode, IsUtf8-past_char, IsUtf8-nil}
use Rattle.std.proofs.lemmas.Str.{chars-nil}
use Rattle.std.proofs.lemmas.List.{take_at}

-- the characters of the word have been read, and the rest is left
pub record IsRead (text rest word : List ℕ) : Type 0 where
  pub front : List ℕ
  pub is : text ≡ front ++ rest
  pub utf8 : IsUtf8 front
  pub rest_utf8 : IsUtf8 rest
  pub says : chars front ≡ word

-- at first no character has been read
pub read_start : (text : List ℕ) → IsUtf8 text → IsRead text text []
read_start text u = record { front = []; is = refl; utf8 = IsUtf8-nil; rest_utf8 = u; says = chars-nil }

first_true : (a b : Bool) → (a && b) ≡ true → a ≡ true
first_true true b e = refl
first_true false b e = e

-- what stands at the front of a text is a character
scalar_at : (whole rest : List ℕ) (c : ℕ) → IsUtf8 whole → whole ≡ encode_utf8 c ++ rest → IsScalar c
scalar_at whole rest c u e =
    first_true (scalar c) (scalars (chars rest)) (sym (ap scalars (chars_past_char whole rest c u e)) ∙ scalars-chars whole u)

-- one more character has been read
pub read_char : (text whole rest word : List ℕ) (c : ℕ) → whole ≡ encode_utf8 c ++ rest → IsRead text whole word
    → IsRead text rest (word ++ c ∷ [])
read_char text whole rest word c e h = record {
  front = h.front ++ encode_utf8 c;
  is = h.is ∙ ap (λ x. h.front ++ x) e ∙ sym (append_assoc h.front (encode_utf8 c) rest);
  utf8 = IsUtf8-append h.front (encode_utf8 c) h.utf8 (IsUtf8-encode c (scalar_at whole rest c h.rest_utf8 e));
  rest_utf8 = IsUtf8-past_char whole rest c h.rest_utf8 e;
  says = chars-append h.front (encode_utf8 c) h.utf8 ∙ ap (λ x. x ++ chars (encode_utf8 c)) h.says ∙ ap (λ x. word ++ x) one;
}
  where
    one : chars (encode_utf8 c) ≡ c ∷ []
    one = chars_past_char (encode_utf8 c) [] c (IsUtf8-encode c (scalar_at whole rest c h.rest_utf8 e)) (sym (append-nil (encode_utf8 c)))
        ∙ ap (λ x. c ∷ x) chars-nil

-- the characters of the text begin with those that were read
pub read_text : (text rest word : List ℕ) → IsRead text rest word → chars text ≡ word ++ chars rest
read_text text rest word h = ap chars h.is ∙ chars-append h.front rest h.utf8 ∙ ap (λ x. x ++ chars rest) h.says

-- the characters that were read are the first ones of the text's
pub read_take : (text rest word : List ℕ) → IsRead text rest word → take (length word) (chars text) ≡ word
read_take text rest word h = ap (take (length word)) (read_text text rest word h) ∙ take_at word (chars rest) (length word) refl

-- The bytes of the characters at the front of a text. For the byte of a fault.
use Rattle.std.proofs.Common.{◌≡◌, ℕ, ◌+◌, ◌<◌, ◌≤◌, List, [], ◌∷◌, ◌++◌, length, take, drop, get_or, sym}
use Rattle.std.proofs.Common.{ap, ◌∙◌, arith, append-nil, length-append, take-append-drop}
use Rattle.std.specs.Prelude.{encode_utf8, encode_utf8_all}
use Rattle.std.proofs.lemmas.List.{take_more}
use Rattle.std.proofs.lemmas.Str.{encodes-append}

-- one character more
pub encodes_more : (cs : List ℕ) (i c : ℕ) → i < length cs → c ≡ get_or cs i 0
    → length (encode_utf8_all (take (i + 1) cs)) ≡ length (encode_utf8_all (take i cs)) + length (encode_utf8 c)
encodes_more cs i c h is =
    ap (λ l. length (encode_utf8_all l)) (take_more cs i 0 h ∙ ap (λ x. take i cs ++ x ∷ []) (sym is))
    ∙ ap length (encodes-append (take i cs) (c ∷ []))
    ∙ length-append (encode_utf8_all (take i cs)) (encode_utf8_all (c ∷ []))
    ∙ ap (λ n. length (encode_utf8_all (take i cs)) + n) (ap length (append-nil (encode_utf8 c)))

-- the front is no longer than the text
pub encodes_within : (cs : List ℕ) (n : ℕ) → length (encode_utf8_all (take n cs)) ≤ length (encode_utf8_all cs)
encodes_within cs n =
    let parts : length (encode_utf8_all cs) ≡ length (encode_utf8_all (take n cs)) + length (encode_utf8_all (drop n cs)) =
    ap (λ l. length (encode_utf8_all l)) (sym (take-append-drop n cs)) ∙ ap length (encodes-append (take n cs) (drop n cs))
    ∙ length-append (encode_utf8_all (take n cs)) (encode_utf8_all (drop n cs)) in
    omega arith

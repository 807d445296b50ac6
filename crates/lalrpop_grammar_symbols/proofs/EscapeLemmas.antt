-- What stands for one character inside a literal: for the function that writes it.
use Rattle.std.proofs.Common.{◌≡◌, ◌≢◌, ℕ, ◌<◌, ◌≤◌, ◌+◌, ◌/◌, List, [], ◌∷◌, ◌++◌, ap, ◌∙◌}
use Rattle.std.proofs.Common.{arith, ltb, cond, append-nil, Bool, true, false}
use Rattle.std.proofs.lemmas.Bool.Decides.{nat_tests}
use Rattle.std.proofs.lemmas.Str.{encode_ascii}
use lib.Utf8.{encode, next}
use Rattle.lalrpop_grammar_symbols.specs.Texts.{escape_byte, escape, code_text}

-- what stands for an ASCII character is what stands for its byte
pub escaped-ascii : (c : ℕ) → c < 128 → escape (encode c) ≡ escape_byte c
escaped-ascii c h = ap escape (encode_ascii c h) ∙ append-nil (escape_byte c)

pub escaped_byte-plain : (b : ℕ) → 32 ≤ b → b ≢ 34 → b ≢ 92 → escape_byte b ≡ b ∷ []
unfolding escape_byte
escaped_byte-plain b h q s = grind (arith, nat_tests)

-- a control character that has no letter of its own is written as its code
pub escaped_byte-control : (b : ℕ) → b < 32 → b ≢ 10 → b ≢ 13 → b ≢ 9 → escape_byte b ≡ code_text b
unfolding escape_byte
escaped_byte-control b h n r t = grind (arith, nat_tests)

pub escaped-high : (b : ℕ) (bs : List ℕ) → 128 ≤ b → escape (b ∷ bs) ≡ b ∷ escape bs
escaped-high b bs h = ap (λ e. e ++ escape bs) (escaped_byte-plain b (omega arith) (omega arith) (omega arith))

-- what a choice between three lists keeps
chosen-kept : (x y z : Bool) (a b c d : List ℕ) → escape a ≡ a → escape b ≡ b → escape c ≡ c → escape d ≡ d
    → escape (cond x a (cond y b (cond z c d))) ≡ cond x a (cond y b (cond z c d))
chosen-kept true y z a b c d ea eb ec ed = ea
chosen-kept false true z a b c d ea eb ec ed = eb
chosen-kept false false true a b c d ea eb ec ed = ec
chosen-kept false false false a b c d ea eb ec ed = ed

-- the bytes of a character beyond ASCII are 128 and more
pub escaped-char : (c : ℕ) → 32 ≤ c → c ≢ 34 → c ≢ 92 → escape (encode c) ≡ encode c
unfolding encode
escaped-char c h q s =
    let last : escape (next c ∷ []) ≡ next c ∷ [] = escaped-high (next c) [] (omega arith) in
    let two : escape (next (c / 64) ∷ next c ∷ []) ≡ next (c / 64) ∷ next c ∷ [] =
    escaped-high (next (c / 64)) (next c ∷ []) (omega arith) ∙ ap (λ bs. next (c / 64) ∷ bs) last in
    let three : escape (next (c / 4096) ∷ next (c / 64) ∷ next c ∷ []) ≡ next (c / 4096) ∷ next (c / 64) ∷ next c ∷ [] =
    escaped-high (next (c / 4096)) (next (c / 64) ∷ next c ∷ []) (omega arith) ∙ ap (λ bs. next (c / 4096) ∷ bs) two in
    chosen-kept (ltb c 128) (ltb c 2048) (ltb c 65536) _ _ _ _
    (append-nil (escape_byte c) ∙ escaped_byte-plain c h q s)
    (escaped-high (192 + c / 64) (next c ∷ []) (omega arith) ∙ ap (λ bs. (192 + c / 64) ∷ bs) last)
    (escaped-high (224 + c / 4096) (next (c / 64) ∷ next c ∷ []) (omega arith) ∙ ap (λ bs. (224 + c / 4096) ∷ bs) two)
    (escaped-high (240 + c / 262144) (next (c / 4096) ∷ next (c / 64) ∷ next c ∷ []) (omega arith)
    ∙ ap (λ bs. (240 + c / 262144) ∷ bs) three)

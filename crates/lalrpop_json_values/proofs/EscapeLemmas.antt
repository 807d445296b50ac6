-- What stands for a byte and for a character inside a JSON string: for the functions that write them.
use Rattle.std.proofs.Common.{◌≡◌, ◌≢◌, ℕ, ◌<◌, ◌≤◌, ◌+◌, ◌/◌, ◌%◌, List, [], ◌∷◌, ◌++◌}
use Rattle.std.proofs.Common.{refl, ap, ◌∙◌}
use Rattle.std.proofs.Common.{arith, ltb, cond, append-nil, Bool, true, false, not, nat_lt, ◌==◌, ◌||◌, sym}
use Rattle.std.proofs.lemmas.Bool.{eqb-true}
use Rattle.std.proofs.lemmas.Bool.Decides.{nat_tests}
use Rattle.std.proofs.lemmas.Str.{encode_ascii, encodes-append}
use Rattle.std.proofs.lemmas.List.Concat.{flat_map-append}
use Rattle.std.specs.Char.{digit_char}
use Rattle.std.specs.List.{list_all}
use Rattle.std.specs.Prelude.{encode_utf8_all}
use lib.Utf8.{encode, next}
use Rattle.json.specs.Print.{escape, escape_byte}
use Rattle.lalrpop_json_values.specs.JsonText.{json_text, stands}
use Rattle.lalrpop_grammar_symbols.proofs.BoolLemmas.{and_both}

-- none of three
none : (a b c : Bool) → not (a || b || c) ≡ true → (a ≡ false) × (b ≡ false) × (c ≡ false)
none true b c h = absurd (cc)
none false true c h = absurd (cc)
none false false true h = absurd (cc)
none false false false h = (refl, refl, refl)

-- a byte that isn't below 32 is none that is
other_by : (b : Bool) (c n : ℕ) → (c == n) ≡ b → nat_lt c 32 ≡ false → nat_lt n 32 ≡ true → b ≡ false
other_by true c n e above below =
    let same : c ≡ n = eqb-true c n e in
    let wrong : nat_lt n 32 ≡ false = ap (λ x. nat_lt x 32) (sym same) ∙ above in
    absurd (cc)
other_by false c n e above below = refl

other : (c n : ℕ) → nat_lt c 32 ≡ false → nat_lt n 32 ≡ true → (c == n) ≡ false
other c n above below = other_by (c == n) c n refl above below

standing_byte : (c : ℕ) → stands c ≡ true → escape_byte c ≡ c ∷ []
unfolding escape_byte
standing_byte c h =
    let parts = none (nat_lt c 32) (c == 34) (c == 92) h in
    rw (
      parts.0,
      parts.1,
      parts.2,
      other c 8 parts.0 refl,
      other c 12 parts.0 refl,
      other c 10 parts.0 refl,
      other c 13 parts.0 refl,
      other c 9 parts.0 refl,
    ) refl

-- a text whose bytes all stand has no escape
pub standing-escape : (s : List ℕ) → list_all stands s ≡ true → escape s ≡ s
standing-escape [] h = refl
standing-escape (c ∷ cs) h =
    let parts = and_both (stands c) (list_all stands cs) h in
    rw (standing_byte c parts.0, standing-escape cs parts.1) refl

-- in quotes it is the text as a JSON string
pub standing-json : (s : List ℕ) → list_all stands s ≡ true → json_text s ≡ 34 ∷ (s ++ 34 ∷ [])
standing-json s h = ap (λ t. 34 ∷ (t ++ 34 ∷ [])) (standing-escape s h)

-- what stands for an ASCII character is what stands for its byte
pub escaped-ascii : (c : ℕ) → c < 128 → escape (encode c) ≡ escape_byte c
escaped-ascii c h = ap escape (encode_ascii c h) ∙ append-nil (escape_byte c)

-- a control character that has no letter of its own is written as its code
pub escaped_byte-control : (b : ℕ) → b < 32 → b ≢ 8 → b ≢ 12 → b ≢ 10 → b ≢ 13 → b ≢ 9
    → escape_byte b ≡ 92 ∷ 117 ∷ 48 ∷ 48 ∷ digit_char (b / 16) ∷ digit_char (b % 16) ∷ []
unfolding escape_byte
escaped_byte-control b h back form line return tab = grind (arith, nat_tests)

escaped_byte-plain : (b : ℕ) → 32 ≤ b → b ≢ 34 → b ≢ 92 → escape_byte b ≡ b ∷ []
unfolding escape_byte
escaped_byte-plain b h q s = grind (arith, nat_tests)

escaped-high : (b : ℕ) (bs : List ℕ) → 128 ≤ b → escape (b ∷ bs) ≡ b ∷ escape bs
escaped-high b bs h = ap (λ e. e ++ escape bs) (escaped_byte-plain b (omega arith) (omega arith) (omega arith))

-- what a choice between three lists keeps
chosen-kept : (x y z : Bool) (a b c d : List ℕ) → escape a ≡ a → escape b ≡ b → escape c ≡ c → escape d ≡ d
    → escape (cond x a (cond y b (cond z c d))) ≡ cond x a (cond y b (cond z c d))
chosen-kept true y z a b c d ea eb ec ed = ea
chosen-kept false true z a b c d ea eb ec ed = eb
chosen-kept false false true a b c d ea eb ec ed = ec
chosen-kept false false false a b c d ea eb ec ed = ed

-- the bytes of a character beyond ASCII are 128 and more
pub escaped-char : (c : ℕ) → 32 ≤ c → c ≢ 34 → c ≢ 92 → escape (encode c) ≡ encode c
unfolding encode
escaped-char c h q s =
    let last : escape (next c ∷ []) ≡ next c ∷ [] = escaped-high (next c) [] (omega arith) in
    let two : escape (next (c / 64) ∷ next c ∷ []) ≡ next (c / 64) ∷ next c ∷ [] =
    escaped-high (next (c / 64)) (next c ∷ []) (omega arith) ∙ ap (λ bs. next (c / 64) ∷ bs) last in
    let three : escape (next (c / 4096) ∷ next (c / 64) ∷ next c ∷ []) ≡ next (c / 4096) ∷ next (c / 64) ∷ next c ∷ [] =
    escaped-high (next (c / 4096)) (next (c / 64) ∷ next c ∷ []) (omega arith) ∙ ap (λ bs. next (c / 4096) ∷ bs) two in
    chosen-kept (ltb c 128) (ltb c 2048) (ltb c 65536) _ _ _ _
    (append-nil (escape_byte c) ∙ escaped_byte-plain c h q s)
    (escaped-high (192 + c / 64) (next c ∷ []) (omega arith) ∙ ap (λ bs. (192 + c / 64) ∷ bs) last)
    (escaped-high (224 + c / 4096) (next (c / 64) ∷ next c ∷ []) (omega arith) ∙ ap (λ bs. (224 + c / 4096) ∷ bs) two)
    (escaped-high (240 + c / 262144) (next (c / 4096) ∷ next (c / 64) ∷ next c ∷ []) (omega arith)
    ∙ ap (λ bs. (240 + c / 262144) ∷ bs) three)

-- one character more
pub escaped-push : (cs : List ℕ) (c : ℕ)
    → escape (encode_utf8_all (cs ++ c ∷ [])) ≡ escape (encode_utf8_all cs) ++ escape (encode c)
escaped-push cs c =
    ap escape (encodes-append cs (c ∷ []) ∙ ap (λ bs. encode_utf8_all cs ++ bs) (append-nil (encode c)))
    ∙ flat_map-append escape_byte (encode_utf8_all cs) (encode c)

-- A JSON string tells its text and where it ends; for the leaves of printed trees.
use Rattle.std.proofs.Common.{◌≡◌, ℕ, ◌<◌, ◌/◌, ◌%◌, List, [], ◌∷◌, ◌++◌, Bool, true, false, cond, nat_lt}
use Rattle.std.proofs.Common.{arith, refl, ap, sym, ◌∙◌, append_assoc}
use Rattle.std.specs.Prelude.{◌==◌, ◌||◌}
use Rattle.std.proofs.lemmas.Bool.{eqb-true}
use Rattle.std.specs.Char.{digit_char, digit_value}
use Rattle.std.proofs.lemmas.Str.{digit_value-digit_char}
use borrow.Author.Tests.{ltb-true, ltb-false}
use Rattle.json.specs.Print.{escape_letter, escape_byte, escape, quoted}
use Rattle.lalrpop_json_grammar.proofs.NumberLemmas.{heads}

-- the byte that has this short escape
abbrev source : ℕ → ℕ
source l = cond ((l == 34) || (l == 92)) l
    (cond (l == 98) 8 (cond (l == 102) 12 (cond (l == 110) 10 (cond (l == 114) 13 (cond (l == 116) 9 0)))))

source_of : (x : ℕ) → 0 < escape_letter x → source (escape_letter x) ≡ x
source_of x h = go (x == 34) (eqb-true x 34) (x == 92) (eqb-true x 92) (x == 8) (eqb-true x 8) (x == 12) (eqb-true x 12)
    (x == 10) (eqb-true x 10) (x == 13) (eqb-true x 13) (x == 9) (eqb-true x 9) h
  where
    go : (a : Bool) → (a ≡ true → x ≡ 34) → (b : Bool) → (b ≡ true → x ≡ 92) → (c : Bool) → (c ≡ true → x ≡ 8)
        → (d : Bool) → (d ≡ true → x ≡ 12) → (e : Bool) → (e ≡ true → x ≡ 10) → (f : Bool)
        → (f ≡ true → x ≡ 13)
        → (g : Bool) → (g ≡ true → x ≡ 9)
        → 0 < cond (a || b) x (cond c 98 (cond d 102 (cond e 110 (cond f 114 (cond g 116 0)))))
        → source (cond (a || b) x (cond c 98 (cond d 102 (cond e 110 (cond f 114 (cond g 116 0)))))) ≡ x
    go true p _ _ _ _ _ _ _ _ _ _ _ _ l = rw (p refl) refl
    go false _ true p _ _ _ _ _ _ _ _ _ _ l = rw (p refl) refl
    go false _ false _ true p _ _ _ _ _ _ _ _ l = sym (p refl)
    go false _ false _ false _ true p _ _ _ _ _ _ l = sym (p refl)
    go false _ false _ false _ false _ true p _ _ _ _ l = sym (p refl)
    go false _ false _ false _ false _ false _ true p _ _ l = sym (p refl)
    go false _ false _ false _ false _ false _ false _ true p l = sym (p refl)
    go false _ false _ false _ false _ false _ false _ false _ l = absurd (omega (arith, l))

letters_apart : (x y l : ℕ) → 0 < l → escape_letter x ≡ l → escape_letter y ≡ l → x ≡ y
letters_apart x y l h e f =
    sym (source_of x (omega (arith, h, e))) ∙ ap source (e ∙ sym f) ∙ source_of y (omega (arith, h, f))

no_u : (x : ℕ) → escape_letter x ≡ 117 → ⊥
no_u x e =
    let zero_is : 0 ≡ x = ap source (sym e) ∙ source_of x (omega (arith, e)) in
    let letter : 0 ≡ 117 = ap escape_letter zero_is ∙ e in
    omega (arith, letter)

-- how a byte is written
data Kind (x : ℕ) : Type 0 where
  short : (l : ℕ) → escape_letter x ≡ l → 0 < l → escape_byte x ≡ 92 ∷ l ∷ [] → Kind x
  long : x < 32 → escape_byte x ≡ 92 ∷ 117 ∷ 48 ∷ 48 ∷ digit_char (x / 16) ∷ digit_char (x % 16) ∷ [] → Kind x
  plain : escape_letter x ≡ 0 → escape_byte x ≡ x ∷ [] → Kind x

kind : (x : ℕ) → Kind x
unfolding escape_byte
kind x = go (nat_lt 0 (escape_letter x)) refl (nat_lt x 32) refl
  where
    go : (a : Bool) → nat_lt 0 (escape_letter x) ≡ a → (b : Bool) → nat_lt x 32 ≡ b → Kind x
    go true e b f = short (escape_letter x) refl (ltb-true 0 (escape_letter x) e) (rw e refl)
    go false e true f = long (ltb-true x 32 f) (rw (e, f) refl)
    go false e false f = plain (omega (arith, ltb-false 0 (escape_letter x) e)) (rw (e, f) refl)

not_special : (x c : ℕ) → escape_letter x ≡ 0 → 0 < escape_letter c → x ≡ c → ⊥
not_special x c z h e = let same : escape_letter x ≡ escape_letter c = ap escape_letter e in omega (arith, z, h, same)

digits_apart : (x y : ℕ) → x < 32 → y < 32 → digit_char (x / 16) ≡ digit_char (y / 16)
    → digit_char (x % 16) ≡ digit_char (y % 16) → x ≡ y
digits_apart x y h k e f =
    let high : x / 16 ≡ y / 16 =
    sym (digit_value-digit_char (x / 16) (omega (arith, h))) ∙ ap digit_value e
    ∙ digit_value-digit_char (y / 16) (omega (arith, k)) in
    let low : x % 16 ≡ y % 16 =
    sym (digit_value-digit_char (x % 16) (omega arith)) ∙ ap digit_value f ∙ digit_value-digit_char (y % 16) (omega arith) in
    omega (arith, high, low)

opened : (x : ℕ) (w u : List ℕ) → escape_byte x ≡ w → escape_byte x ++ u ≡ w ++ u
opened x w u e = ap (λ b. b ++ u) e

-- what is written first tells the byte
step : (x y : ℕ) (u v : List ℕ) → Kind x → Kind y → escape_byte x ++ u ≡ escape_byte y ++ v → (x ≡ y) × (u ≡ v)
step x y u v (short l a p e) (short m b q f) h =
    let same : 92 ∷ l ∷ u ≡ 92 ∷ m ∷ v = sym (opened x _ u e) ∙ h ∙ opened y _ v f in
    let letter : l ≡ m = cc in
    (letters_apart x y m q (a ∙ letter) b, cc)
step x y u v (short l a p e) (long k f) h =
    let same : 92 ∷ l ∷ u ≡ 92 ∷ 117 ∷ 48 ∷ 48 ∷ digit_char (y / 16) ∷ digit_char (y % 16) ∷ v =
    sym (opened x _ u e) ∙ h ∙ opened y _ v f in
    let letter : l ≡ 117 = cc in
    absurd (no_u x (a ∙ letter))
step x y u v (short l a p e) (plain z f) h =
    let same : 92 ∷ l ∷ u ≡ y ∷ v = sym (opened x _ u e) ∙ h ∙ opened y _ v f in
    let first : y ≡ 92 = cc in
    absurd (not_special y 92 z (omega arith) first)
step x y u v (long k e) (short m b q f) h =
    let same : 92 ∷ 117 ∷ 48 ∷ 48 ∷ digit_char (x / 16) ∷ digit_char (x % 16) ∷ u ≡ 92 ∷ m ∷ v =
    sym (opened x _ u e) ∙ h ∙ opened y _ v f in
    let letter : m ≡ 117 = cc in
    absurd (no_u y (b ∙ letter))
step x y u v (long k e) (long j f) h =
    let same : 92 ∷ 117 ∷ 48 ∷ 48 ∷ digit_char (x / 16) ∷ digit_char (x % 16) ∷ u
    ≡ 92 ∷ 117 ∷ 48 ∷ 48 ∷ digit_char (y / 16) ∷ digit_char (y % 16) ∷ v =
    sym (opened x _ u e) ∙ h ∙ opened y _ v f in
    let high : digit_char (x / 16) ≡ digit_char (y / 16) = cc in
    let low : digit_char (x % 16) ≡ digit_char (y % 16) = cc in
    (digits_apart x y k j high low, cc)
step x y u v (long k e) (plain z f) h =
    let same : 92 ∷ 117 ∷ 48 ∷ 48 ∷ digit_char (x / 16) ∷ digit_char (x % 16) ∷ u ≡ y ∷ v =
    sym (opened x _ u e) ∙ h ∙ opened y _ v f in
    let first : y ≡ 92 = cc in
    absurd (not_special y 92 z (omega arith) first)
step x y u v (plain z e) (short m b q f) h =
    let same : x ∷ u ≡ 92 ∷ m ∷ v = sym (opened x _ u e) ∙ h ∙ opened y _ v f in
    let first : x ≡ 92 = cc in
    absurd (not_special x 92 z (omega arith) first)
step x y u v (plain z e) (long j f) h =
    let same : x ∷ u ≡ 92 ∷ 117 ∷ 48 ∷ 48 ∷ digit_char (y / 16) ∷ digit_char (y % 16) ∷ v =
    sym (opened x _ u e) ∙ h ∙ opened y _ v f in
    let first : x ≡ 92 = cc in
    absurd (not_special x 92 z (omega arith) first)
step x y u v (plain z e) (plain w f) h =
    let same : x ∷ u ≡ y ∷ v = sym (opened x _ u e) ∙ h ∙ opened y _ v f in
    (cc, cc)

-- no byte is written with a quote first
no_quote : (y : ℕ) (r w : List ℕ) → Kind y → 34 ∷ r ≡ escape_byte y ++ w → ⊥
no_quote y r w (short m b q f) h = let first = heads 34 92 r (m ∷ w) (h ∙ opened y (92 ∷ m ∷ []) w f) in omega (arith, first)
no_quote y r w (long j f) h =
    let first = heads 34 92 r (117 ∷ 48 ∷ 48 ∷ digit_char (y / 16) ∷ digit_char (y % 16) ∷ w)
    (h ∙ opened y (92 ∷ 117 ∷ 48 ∷ 48 ∷ digit_char (y / 16) ∷ digit_char (y % 16) ∷ []) w f) in omega (arith, first)
no_quote y r w (plain z f) h = not_special y 34 z (omega arith) (sym (heads 34 y r w (h ∙ opened y (y ∷ []) w f)))

escapes_apart : (a b r s : List ℕ) → escape a ++ 34 ∷ r ≡ escape b ++ 34 ∷ s → (a ≡ b) × (r ≡ s)
escapes_apart [] [] r s h = (refl, cc)
escapes_apart [] (y ∷ b) r s h =
    absurd (no_quote y r (escape b ++ 34 ∷ s) (kind y) (h ∙ append_assoc (escape_byte y) (escape b) (34 ∷ s)))
escapes_apart (x ∷ a) [] r s h =
    absurd (no_quote x s (escape a ++ 34 ∷ r) (kind x) (sym h ∙ append_assoc (escape_byte x) (escape a) (34 ∷ r)))
escapes_apart (x ∷ a) (y ∷ b) r s h =
    let first = step x y (escape a ++ 34 ∷ r) (escape b ++ 34 ∷ s) (kind x) (kind y)
    (sym (append_assoc (escape_byte x) (escape a) (34 ∷ r)) ∙ h ∙ append_assoc (escape_byte y) (escape b) (34 ∷ s)) in
    let more = escapes_apart a b r s first.1 in
    (rw (first.0, more.0) refl, more.1)

-- equal texts that begin with JSON strings have equal strings and equal rests
pub strings_apart : (a b r s : List ℕ) → quoted a ++ r ≡ quoted b ++ s → (a ≡ b) × (r ≡ s)
strings_apart a b r s h =
    let same : (escape a ++ 34 ∷ []) ++ r ≡ (escape b ++ 34 ∷ []) ++ s = cc in
    escapes_apart a b r s (sym (append_assoc (escape a) (34 ∷ []) r) ∙ same ∙ append_assoc (escape b) (34 ∷ []) s)

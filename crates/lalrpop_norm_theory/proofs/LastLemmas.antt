-- Texts that end in a digit: a key with such a text is a rule named alone; for the law of names.
use Rattle.std.specs.Fmt.{digits, digits_onto, digit_glyph}
use Rattle.std.proofs.Common.{◌≡◌, ℕ, zero, suc, ◌<◌, List, [], ◌∷◌, ◌++◌, refl, ap, sym, ◌∙◌, subst, cond}
use Rattle.std.proofs.Common.{Bool, true}
use Rattle.std.proofs.Common.{false, inl, inr, arith}
use Rattle.std.specs.Prelude.{Option, Some, map, codes, decimal, ◌+◌, ◌==◌, ◌/◌, ◌%◌, ◌&&◌, nat_le}
use Rattle.std.proofs.lemmas.Bool.{true≢false, and_from}
use Rattle.std.proofs.lemmas.Bool.Decides.{nat_tests}
use Rattle.lalrpop_grammar_symbols.specs.Symbols.{Text, Terminal, Op, Closed, Closeds, closed_list}
use Rattle.lalrpop_grammar_symbols.specs.Texts.{join_texts}
use Rattle.lalrpop_grammar.specs.WrittenGrammar.{Origin}
use Rattle.lalrpop_grammar_language.specs.Among.{Among}
use Rattle.lalrpop_grammar_language.specs.Enabled.{EnabledGrammar}
use Rattle.lalrpop_grammar_language.specs.Levels.{loosest}
use Rattle.lalrpop_grammar_language.specs.Closing.{right_side}
use Rattle.lalrpop_grammar_language.specs.Admitting.{bind}
use Rattle.lalrpop_grammar_language.specs.Expansion.{GrammarSymbol, Nonterminal, RightSide, grammar_symbol, Produces, IsReachedIn}
use Rattle.lalrpop_grammar_language.specs.Expansion.{InExpansion}
use Rattle.lalrpop_grammar_language.proofs.PlaceLemmas.{among_map}
use Rattle.lalrpop_norm_theory.specs.Keys.{closed_text, closed_texts, with_number}
use Rattle.lalrpop_norm_theory.specs.LevelNames.{numbered_text}

-- what stands in the expansion

-- a symbol with productions, or one that names nothing
abbrev pub IsHead : Closed → Type 0
IsHead (Closed.terminal (Terminal.quoted t)) = ⊥
IsHead (Closed.terminal (Terminal.regex t)) = ⊥
IsHead (Closed.terminal (Terminal.bare n)) = ⊥
IsHead (Closed.terminal Terminal.error) = Unit {0}
IsHead (Closed.call n args level) = Unit {0}
IsHead (Closed.repeat op x) = Unit {0}
IsHead (Closed.group xs) = Unit {0}
IsHead (Closed.choose x) = ⊥
IsHead (Closed.name m n x) = ⊥
IsHead Closed.lookahead = Unit {0}
IsHead Closed.lookbehind = Unit {0}
IsHead Closed.faulty = Unit {0}

abbrev nonterminal_of : Closed → GrammarSymbol Nonterminal
nonterminal_of y = GrammarSymbol.nonterminal (Nonterminal.closed y)

is_head : (x y : Closed) → IsHead x → nonterminal_of x ≡ nonterminal_of y → IsHead y
is_head x y h e = let same : x ≡ y = cc in subst IsHead same h

head_of : (x y : Closed) → grammar_symbol x ≡ nonterminal_of y → IsHead y
head_of (Closed.terminal (Terminal.quoted t)) y e = cc
head_of (Closed.terminal (Terminal.regex t)) y e = cc
head_of (Closed.terminal (Terminal.bare n)) y e = cc
head_of (Closed.terminal Terminal.error) y e = is_head (Closed.terminal Terminal.error) y tt e
head_of (Closed.call n args level) y e = is_head (Closed.call n args level) y tt e
head_of (Closed.repeat op x) y e = is_head (Closed.repeat op x) y tt e
head_of (Closed.group xs) y e = is_head (Closed.group xs) y tt e
head_of (Closed.choose x) y e = head_of x y e
head_of (Closed.name m n x) y e = head_of x y e
head_of Closed.lookahead y e = is_head Closed.lookahead y tt e
head_of Closed.lookbehind y e = is_head Closed.lookbehind y tt e
head_of Closed.faulty y e = is_head Closed.faulty y tt e

-- each right side is that of closed symbols
side_of_symbols : (g : EnabledGrammar) (x : Nonterminal) (o : Origin) (side : RightSide) → Produces g x o side →
    (xs : List Closed) × (side ≡ map grammar_symbol xs)
side_of_symbols g (Nonterminal.start n) o side m = (Closed.call n Closeds.none (loosest m.0) ∷ [], m.5)
side_of_symbols g (Nonterminal.closed (Closed.call n args level)) o side (inl m) =
    (right_side g m.rule (bind m.rule args) m.choice, m.side_is)
side_of_symbols g (Nonterminal.closed (Closed.call n args level)) o side (inr m) = (Closed.call n args (Some m.to) ∷ [], m.side_is)
side_of_symbols g (Nonterminal.closed (Closed.repeat Op.plus x)) o side (inl m) = (x ∷ [], m.1)
side_of_symbols g (Nonterminal.closed (Closed.repeat Op.plus x)) o side (inr m) = (Closed.repeat Op.plus x ∷ x ∷ [], m.1)
side_of_symbols g (Nonterminal.closed (Closed.repeat Op.star x)) o side (inl m) = ([], m.1)
side_of_symbols g (Nonterminal.closed (Closed.repeat Op.star x)) o side (inr m) = (Closed.repeat Op.plus x ∷ [], m.1)
side_of_symbols g (Nonterminal.closed (Closed.repeat Op.question x)) o side (inl m) = ([], m.1)
side_of_symbols g (Nonterminal.closed (Closed.repeat Op.question x)) o side (inr m) = (x ∷ [], m.1)
side_of_symbols g (Nonterminal.closed (Closed.group xs)) o side m = (closed_list xs, m.1)
side_of_symbols g (Nonterminal.closed Closed.lookahead) o side m = ([], m.1)
side_of_symbols g (Nonterminal.closed Closed.lookbehind) o side m = ([], m.1)
side_of_symbols g (Nonterminal.closed (Closed.terminal t)) o side m = absurd m
side_of_symbols g (Nonterminal.closed (Closed.choose x)) o side m = absurd m
side_of_symbols g (Nonterminal.closed (Closed.name a n x)) o side m = absurd m
side_of_symbols g (Nonterminal.closed Closed.faulty) o side m = absurd m

reached_head : (g : EnabledGrammar) (n : ℕ) (x : Closed) → IsReachedIn g n (Nonterminal.closed x) → IsHead x
reached_head g zero x (inl b) = let e : Nonterminal.closed x ≡ Nonterminal.start b.0 = b.2 in cc
reached_head g zero x (inr b) =
    let e : Nonterminal.closed x ≡ Nonterminal.closed (Closed.call b.0.name Closeds.none b.1) = b.5 in
    let same : Closed.call b.0.name Closeds.none b.1 ≡ x = cc in subst IsHead same tt
reached_head g (suc n) x (y, o, side, r, m, i) =
    let u = side_of_symbols g y o side m in
    let v = among_map grammar_symbol u.0 (nonterminal_of x) (subst (λ s. Among s (nonterminal_of x)) u.1 i) in
    head_of v.0 x v.2

-- a nonterminal of the expansion is such
pub head_in : (g : EnabledGrammar) (x : Closed) → InExpansion g (Nonterminal.closed x) → IsHead x
head_in g x i = reached_head g i.0 x i.1

-- the last character

abbrev is_digit : ℕ → Bool
is_digit c = nat_le 48 c && nat_le c 57

-- whether the last character of a text is a decimal digit
abbrev pub ends_in_digit : Text → Bool
ends_in_digit [] = false
ends_in_digit (c ∷ []) = is_digit c
ends_in_digit (c ∷ d ∷ cs) = ends_in_digit (d ∷ cs)

end_joined : (s : Text) (c : ℕ) (cs : Text) → ends_in_digit (s ++ (c ∷ cs)) ≡ ends_in_digit (c ∷ cs)
end_joined [] c cs = refl
end_joined (a ∷ []) c cs = refl
end_joined (a ∷ b ∷ s) c cs = end_joined (b ∷ s) c cs

glyph_low : (d : ℕ) → d < 10 → nat_le 48 (digit_glyph false d) ≡ true
glyph_low d h = grind (arith, nat_tests)

glyph_high : (d : ℕ) → d < 10 → nat_le (digit_glyph false d) 57 ≡ true
glyph_high d h = grind (arith, nat_tests)

glyph_digit : (n : ℕ) → is_digit (digit_glyph false (n % 10)) ≡ true
glyph_digit n =
    let d = digit_glyph false (n % 10) in
    and_from (nat_le 48 d) (nat_le d 57) (glyph_low (n % 10) (omega arith)) (glyph_high (n % 10) (omega arith))

-- digits before a text leave its end
onto_end : (k n d : ℕ) (acc : Text) →
    (c : ℕ) × (cs : Text) × (digits_onto k 10 false n (d ∷ acc) ≡ c ∷ cs) × (ends_in_digit (c ∷ cs)
    ≡ ends_in_digit (d ∷ acc))
onto_end zero n d acc = (d, acc, refl, refl)
onto_end (suc k) n d acc = go (n / 10 == 0) (onto_end k (n / 10) (digit_glyph false (n % 10)) (d ∷ acc))
  where
    front : ℕ
    front = digit_glyph false (n % 10)

    go : (b : Bool) → ((c : ℕ) × (cs : Text) × (digits_onto k 10 false (n / 10) (front ∷ d ∷ acc) ≡ c ∷ cs)
        × (ends_in_digit (c ∷ cs) ≡ ends_in_digit (front ∷ d ∷ acc))) →
        (c : ℕ) × (cs : Text) × (cond b (front ∷ d ∷ acc) (digits_onto k 10 false (n / 10) (front ∷ d ∷ acc)) ≡ c ∷ cs)
        × (ends_in_digit (c ∷ cs) ≡ ends_in_digit (d ∷ acc))
    go true u = (front, d ∷ acc, refl, refl)
    go false u = (u.0, u.1, u.2, u.3)

digits_end : (k n : ℕ) →
    (c : ℕ) × (cs : Text) × (digits_onto (suc k) 10 false n [] ≡ c ∷ cs) × (ends_in_digit (c ∷ cs) ≡ true)
digits_end k n = go (n / 10 == 0) (onto_end k (n / 10) (digit_glyph false (n % 10)) [])
  where
    front : ℕ
    front = digit_glyph false (n % 10)

    go : (b : Bool) → ((c : ℕ) × (cs : Text) × (digits_onto k 10 false (n / 10) (front ∷ []) ≡ c ∷ cs)
        × (ends_in_digit (c ∷ cs) ≡ ends_in_digit (front ∷ []))) →
        (c : ℕ) × (cs : Text) × (cond b (front ∷ []) (digits_onto k 10 false (n / 10) (front ∷ [])) ≡ c ∷ cs)
        × (ends_in_digit (c ∷ cs) ≡ true)
    go true u = (front, [], refl, glyph_digit n)
    go false u = (u.0, u.1, u.2, u.3 ∙ glyph_digit n)

decimal_end : (n : ℕ) → (c : ℕ) × (cs : Text) × (decimal n ≡ c ∷ cs) × (ends_in_digit (c ∷ cs) ≡ true)
unfolding digits
decimal_end n = digits_end 63 n

joined_decimal : (s : Text) (n : ℕ) → ends_in_digit (s ++ decimal n) ≡ true
joined_decimal s n =
    let u = decimal_end n in ap (λ t. ends_in_digit (s ++ t)) u.2 ∙ end_joined s u.0 u.1 ∙ u.3

-- a level's text ends in a digit, also with a number
pub numbered_end : (n : Text) (j k : ℕ) → ends_in_digit (with_number (numbered_text n j) k) ≡ true
numbered_end n j zero = joined_decimal n j
numbered_end n j (suc k) = joined_decimal (numbered_text n j ++ codes "~") (k + 2)

not_here : {A : Type 0} (s : Text) (c : ℕ) → is_digit c ≡ false → ends_in_digit (s ++ (c ∷ [])) ≡ true → A
not_here s c f e = absurd (true≢false (sym e ∙ end_joined s c [] ∙ f))

-- a key whose text ends so is a rule that is named alone
pub named_alone : (f : Text → Option ℕ → Text) (x : Closed) → IsHead x → ends_in_digit (closed_text f x) ≡ true →
    (n : Text) × (level : Option ℕ) × (x ≡ Closed.call n Closeds.none level)
named_alone f (Closed.terminal (Terminal.quoted t)) h e = absurd h
named_alone f (Closed.terminal (Terminal.regex t)) h e = absurd h
named_alone f (Closed.terminal (Terminal.bare n)) h e = absurd h
named_alone f (Closed.terminal Terminal.error) h e = absurd (true≢false (sym e))
named_alone f (Closed.call n Closeds.none level) h e = (n, level, refl)
named_alone f (Closed.call n (Closeds.more x xs) level) h e =
    not_here (f n level ++ codes "<" ++ join_texts (codes ", ") (closed_texts f (Closeds.more x xs))) 62 refl e
named_alone f (Closed.repeat Op.star x) h e = not_here (closed_text f x) 42 refl e
named_alone f (Closed.repeat Op.plus x) h e = not_here (closed_text f x) 43 refl e
named_alone f (Closed.repeat Op.question x) h e = not_here (closed_text f x) 63 refl e
named_alone f (Closed.group xs) h e = not_here (codes "(" ++ join_texts (codes " ") (closed_texts f xs)) 41 refl e
named_alone f (Closed.choose x) h e = absurd h
named_alone f (Closed.name m n x) h e = absurd h
named_alone f Closed.lookahead h e = absurd (true≢false (sym e))
named_alone f Closed.lookbehind h e = absurd (true≢false (sym e))
named_alone f Closed.faulty h e = absurd (true≢false (sym e))

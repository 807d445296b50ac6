-- Words and lines, computed: which words a text has, and which lines are productions.
use Rattle.std.proofs.Common.{◌≡◌, inl, inr, sym, subst, ◌<◌, ℕ, zero, suc, true, false, [], ◌∷◌, arith, refl}
use Rattle.serde_json.proofs.OnLiterals.{serde_json_on_literals}
use Rattle.std.specs.Prelude.{codes, slice_index}
use Rattle.std.specs.Str.{chars, trim, trim_end, trim_start}
use Rattle.std.specs.Str.Lines.{lines}
use Rattle.lalrpop_plain_tables.specs.Lines.{IsProductionLine, behind_colon, before_colon}
use Rattle.lalrpop_plain_tables.specs.Words.{IsFreeBlank, IsSymbolText, IsWordAt, is_name_text, quotes_after}
use Rattle.lalrpop_plain_tables.specs.declared.lines.words.Quotes.TheVariants.{Escaped, Inside, Outside}

-- a mark opens quotes, an escaped one doesn't close them, the next one does
opened : quotes_after Outside (codes "a \"b") ≡ Inside
opened = refl

behind_a_backslash : quotes_after Outside (codes "\"\\") ≡ Escaped
behind_a_backslash = refl

still_open : quotes_after Outside (codes "\"\\\" ") ≡ Inside
still_open = refl

closed : quotes_after Outside (codes "\"b \"") ≡ Outside
closed = refl

-- a blank between words, and one in quotes
a_blank : IsFreeBlank (codes "a b") 1
a_blank = record { within = omega arith; blank = refl; free = refl }

no_blank_in_quotes : IsFreeBlank (codes "\"a b\"") 2 → ⊥
no_blank_in_quotes f = let e = f.free in let z : ⊥ = cc in z

-- the last word of a text, as far as its end and no less far
last_word : IsWordAt (codes "a b") 2 3
last_word = record {
  some = omega arith;
  within = omega arith;
  begins = λ k e. let one : k ≡ 1 = omega (arith, e) in subst (IsFreeBlank (codes "a b")) (sym one) a_blank;
  ends = λ h. absurd (omega (arith, h));
  whole = λ k h l f.
      let two : k ≡ 2 = omega (arith, h, l) in
      let e : 98 ≡ 32 = subst (λ i. slice_index (codes "a b") i ≡ 32) two f.blank in
      omega (arith, e);
}

-- a name, and what is none
a_name : is_name_text (codes "A_1") ≡ true
a_name = refl

empty_name : is_name_text [] ≡ false
empty_name = refl

no_name : is_name_text (codes "a-b") ≡ false
no_name = refl

-- a line with a name and a colon is an empty production
before : before_colon (codes "S: a") ≡ codes "S"
before = refl

behind : behind_colon (codes "S: a:") ≡ codes " a:"
behind = refl

-- a line without a colon is none
no_colon : IsProductionLine (codes "S") → ⊥
no_colon p = omega (arith, p.colon)

two_lines : lines (codes "S: a\n\n") ≡ codes "S: a" ∷ [] ∷ []
two_lines = refl

trimmed : trim (codes " a-b ") ≡ codes "a-b"
unfolding chars trim_start trim_end lib.Utf8.encode
trimmed = refl

-- a name, a colon and nothing: an empty right side
empty_side : IsProductionLine (codes "S:")
unfolding chars trim_start trim_end lib.Utf8.encode
empty_side = record {
  colon = omega arith;
  name = refl;
  symbols = λ word w. absurd (omega (arith, w.at.some, w.at.within));
}

-- a line with a word that spells no symbol is none
no_symbol : IsSymbolText (codes "a-b") → ⊥
no_symbol (inl name) = let z : ⊥ = cc in z
no_symbol (inr quoted) = let e : 97 ≡ 34 = quoted.0 in omega (arith, e)

wrong_word : IsProductionLine (codes "S: a-b") → ⊥
unfolding chars trim_start trim_end lib.Utf8.encode
wrong_word p = no_symbol (p.symbols (codes "a-b") (record {
  from = 0;
  to = 3;
  at = record {
    some = omega arith;
    within = omega arith;
    begins = λ k e. absurd (omega (arith, e));
    ends = λ h. absurd (omega (arith, h));
    whole = λ k h l f. no_blank k l f.blank;
  };
  is = refl;
}))
  where
    no_blank : (k : ℕ) → k < 3 → slice_index (codes "a-b") k ≡ 32 → ⊥
    no_blank zero l e = let z : 97 ≡ 32 = e in omega (arith, z)
    no_blank (suc zero) l e = let z : 45 ≡ 32 = e in omega (arith, z)
    no_blank (suc (suc zero)) l e = let z : 98 ≡ 32 = e in omega (arith, z)
    no_blank (suc (suc (suc k))) l e = omega (arith, l)

-- a text in quotes
quoted_terminal : IsSymbolText (codes "\"a b\"")
unfolding serde_json_on_literals
quoted_terminal = inr (refl, (codes "a b", refl))

-- Which prefix, rest and name items tell, and items as text, computed.
use Rattle.std.proofs.Common.{◌≡◌, ℕ, [], ◌∷◌, refl}
use Rattle.std.specs.Prelude.{Some, None, codes}
use Rattle.lalrpop_grammar_repr.specs.declared.production.Production.{Production}
use Rattle.lalrpop_grammar_repr.specs.declared.production.Symbol.TheVariants as symbols
use Rattle.lalrpop_grammar_symbols.specs.Texts.{escape_byte}
use Rattle.lalrpop_lr1_core.specs.Dots.{first_shortest, last_longest, one_name}
use Rattle.lalrpop_lr1_core.specs.ItemTexts.{dotted_text}
use Rattle.lalrpop_lr1_core.proofs.ExamplesOfViews.{name, quoted}

-- of the shortest the first, of the longest the last
shortest : first_shortest {X = ℕ} ((1 ∷ 2 ∷ []) ∷ (3 ∷ []) ∷ (4 ∷ 5 ∷ []) ∷ (6 ∷ []) ∷ []) ≡ Some (3 ∷ [])
shortest = refl

longest : last_longest {X = ℕ} ((1 ∷ 2 ∷ []) ∷ (3 ∷ []) ∷ (4 ∷ 5 ∷ []) ∷ (6 ∷ []) ∷ []) ≡ Some (4 ∷ 5 ∷ [])
longest = refl

none_shortest : first_shortest {X = ℕ} [] ≡ None
none_shortest = refl

empty_shortest : first_shortest {X = ℕ} ((1 ∷ []) ∷ [] ∷ (2 ∷ []) ∷ []) ≡ Some []
empty_shortest = refl

-- a name that stands everywhere, and two
same_everywhere : one_name (name "A" ∷ name "A" ∷ []) ≡ Some (name "A")
same_everywhere = refl

two_names : one_name (name "A" ∷ name "B" ∷ name "A" ∷ []) ≡ None
two_names = refl

no_names : one_name [] ≡ None
no_names = refl

-- `S = S "a"`
abbrev written : Production
written = record {
  nonterminal = name "S";
  symbols = symbols.Nonterminal (name "S") ∷ symbols.Terminal (quoted "a") ∷ [];
  action = record { 0 = 0 };
  span = record { 0 = 0; 1 = 0 };
}

in_front : dotted_text written 0 ≡ codes "S = (*) S \"a\""
unfolding escape_byte
in_front = refl

between : dotted_text written 1 ≡ codes "S = S (*) \"a\""
unfolding escape_byte
between = refl

at_end : dotted_text written 2 ≡ codes "S = S \"a\" (*)"
unfolding escape_byte
at_end = refl

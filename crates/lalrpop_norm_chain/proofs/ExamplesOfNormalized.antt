-- Computed examples of literals in use, and of a normalized grammar.
use Rattle.std.proofs.Common.{◌≡◌, ℕ, List, [], ◌∷◌, refl, subst, inl, inr, arith}
use Rattle.std.proofs.Common.{true, ◌↔◌}
use Rattle.std.specs.Prelude.{None, codes, length, flat_map}
use Rattle.lalrpop_grammar_symbols.specs.Symbols.{Terminal}
use Rattle.lalrpop_grammar.specs.WrittenGrammar.{Origin}
use Rattle.lalrpop_grammar_language.specs.Among.{Among}
use Rattle.lalrpop_grammar_language.specs.Enabled.{EnabledGrammar}
use Rattle.lalrpop_grammar_language.specs.Expansion.{GrammarSymbol, Nonterminal, RightSide}
use Rattle.lalrpop_grammar_language.proofs.WrittenTreeLemmas.{finds}
use Rattle.lalrpop_norm_theory.proofs.ExpansionListLemmas.{is_all, all-of}
use Rattle.lalrpop_grammar_language.proofs.AmongLemmas.{flat_map_among}
use Rattle.lalrpop_norm_theory.proofs.ProductionListLemmas.{listed, is_production, productions_of}
use Rattle.lalrpop_lexer_pattern.specs.Matches.{Pattern}
use Rattle.lalrpop_lexer_pattern.specs.Wins.{HasNoTie}
use Rattle.lalrpop_norm_token_check.specs.Patterns.{entry_patterns, entry_precedences}
use Rattle.lalrpop_norm_chain.specs.UsedLiterals.{IsUsedLiteral, AreFullExpansionEntries}
use Rattle.lalrpop_norm_chain.specs.Normalized.{IsNormalized}
use Rattle.lalrpop_norm_chain.proofs.ExamplesOfNormalizedParts.{a, action_order, actions, attributes, expansion_types, g, in_rule, inlined}
use Rattle.lalrpop_norm_chain.proofs.ExamplesOfNormalizedParts.{lowered, name_of, names, naming, nonterminals, one, productions, s, spans}
use Rattle.lalrpop_norm_chain.proofs.ExamplesOfNormalizedParts.{starts, starts_alone, terminal_types, terminals}

-- the literals of the expansion of S: u8 = "a", the tokenizer's entries

-- what stands on right sides of these nonterminals
abbrev pub symbols_of : EnabledGrammar → List Nonterminal → List (GrammarSymbol Nonterminal)
symbols_of h xs = flat_map (λ (p : Origin × RightSide). p.1) (flat_map (productions_of h) xs)

-- a literal that an expansion uses stands there
pub on_side : (h : EnabledGrammar) (xs : List Nonterminal) → is_all h xs ≡ true → (t : Terminal) → IsUsedLiteral h t →
    Among (symbols_of h xs) (GrammarSymbol.terminal t)
on_side h xs all t u =
    flat_map_among (λ (p : Origin × RightSide). p.1) (flat_map (productions_of h) xs) (u.origin, u.side) (GrammarSymbol.terminal t)
    (flat_map_among (productions_of h) xs u.head (u.origin, u.side) (all-of h xs all u.head u.in_expansion)
    (listed h u.head u.origin u.side u.produced)) u.among

-- the one literal in use
pub used_a : (t : Terminal) → Among (a ∷ []) t ↔ IsUsedLiteral g t
used_a t = (there, λ u. here_too (on_side g nonterminals refl t u))
  where
    there : Among (a ∷ []) t → IsUsedLiteral g t
    there (inr m) = absurd m
    there (inl e) = subst (IsUsedLiteral g) e (record {
      literal = tt;
      head = Nonterminal.closed s;
      origin = Origin.alternative (codes "S") [] 0;
      side = GrammarSymbol.terminal a ∷ [];
      in_expansion = in_rule;
      produced = is_production g (Nonterminal.closed s) (Origin.alternative (codes "S") [] 0) (GrammarSymbol.terminal a ∷ []) (inl refl);
      among = inl refl;
    })

    here_too : Among (symbols_of g nonterminals) (GrammarSymbol.terminal t) → Among (a ∷ []) t
    here_too (inl e) = cc
    here_too (inr (inl e)) = inl (let d : a ≡ t = cc in d)
    here_too (inr (inr k)) = absurd k

-- the entry
pub entries : AreFullExpansionEntries g None lowered.entries
entries = record {
  listed = record { used = a ∷ []; are_used = record { ascending = (tt, tt); each = used_a }; entries_are = refl };
  none_lacks = refl;
}

-- one pattern ties with nothing
pub no_tie : (ps : List Pattern) (ns : List ℕ) → length ps ≡ 1 → HasNoTie ps ns
no_tie ps ns one w e f t = omega (arith, t.apart, t.second.0, one)

-- so the grammar is normalized
pub normalized : IsNormalized finds [] one lowered
normalized = record {
  name_of = name_of;
  naming = naming;
  prefix = refl;
  productions = productions;
  actions = actions;
  spans = spans;
  attributes = attributes;
  nonterminals = names;
  order = action_order;
  starts = starts;
  starts_alone = starts_alone;
  inlined = inlined;
  no_other_inlined = λ n i. absurd i;
  terminals = terminals;
  types = expansion_types;
  terminal_types = terminal_types;
  lalr = refl;
  entries = entries;
  none_refused = refl;
  unambiguous = no_tie (entry_patterns lowered.entries) (entry_precedences lowered.entries) refl;
}

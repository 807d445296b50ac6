-- Computed examples of what definitions see of maps and tokenizers of a lowered grammar, and near misses.
use Prim.Native.String.{String}
use Rattle.std.specs.Prelude.{codes, ◌++◌, map}
use Rattle.std.proofs.Common.{◌≡◌, ◌∙◌, ℕ, arith, List, [], ◌∷◌, refl, ap, inl, inr, true, false, Bool, cond}
use Rattle.lalrpop_grammar_symbols.specs.Symbols.{Terminal, Text}
use Rattle.lalrpop_grammar_symbols.specs.Views.{span_view}
use Rattle.lalrpop_grammar_symbols.specs.declared.names.NonterminalString.{NonterminalString}
use Rattle.lalrpop_grammar.specs.WrittenGrammar.{EntryMapping, Grammar, InternEntry, WrittenItem}
use Rattle.lalrpop_grammar_language.specs.Among.{Among}
use Rattle.lalrpop_grammar_language.proofs.WrittenTreeLemmas.{grammar}
use Rattle.lalrpop_grammar_repr.specs.declared.production.NonterminalData.{NonterminalData}
use Rattle.lalrpop_grammar_repr.specs.declared.production.Production.{Production}
use Rattle.lalrpop_norm_tyinfer.specs.TypeFaults.{nonterminal_of}
use Rattle.lalrpop_norm_lower.specs.Lowered.{says_inline}
use Rattle.lalrpop_norm_lower.specs.LoweredSymbols.{named_production}
use Rattle.lalrpop_norm_chain.specs.LoweredViews.{HasNoTokenizer, HasOneTokenizer, first_entries, found_names}
use Rattle.lalrpop_norm_chain.specs.LoweredViews.{found_pairs, names_marked_inline, production_spans}

abbrev named : String → NonterminalString
named n = nonterminal_of (codes n)

-- maps

-- the start of S, by the name of its rule
one_start : found_pairs ((named "S", named "__S") ∷ []) ≡ (codes "S", codes "__S") ∷ []
one_start = refl

no_start : found_pairs [] ≡ []
no_start = refl

-- of two entries of one name the first alone stands there
first_of_two : found_pairs ((named "S", named "a") ∷ (named "S", named "b") ∷ [])
    ≡ (codes "S", codes "a") ∷ (codes "S", codes "a") ∷ []
first_of_two = refl

apart : codes "a" ≡ codes "b" → ⊥
apart f = let byte : ◌≡◌ {A = ℕ} 97 98 = cc in omega (arith, byte)

second_refused : Among (found_pairs ((named "S", named "a") ∷ (named "S", named "b") ∷ [])) (codes "S", codes "b") → ⊥
second_refused (inl e) = apart (ap (λ (p : Text × Text). p.1) e)
second_refused (inr (inl e)) = apart (ap (λ (p : Text × Text). p.1) e)
second_refused (inr (inr i)) = absurd i

-- a nonterminal that is inlined and one that isn't
module _ (d e : NonterminalData) (marked : says_inline d ≡ true) (unmarked : says_inline e ≡ false) where
  abbrev both : List (NonterminalString × NonterminalData)
  both = (named "L", d) ∷ (named "S", e) ∷ []

  both_named : found_names both ≡ codes "L" ∷ codes "S" ∷ []
  both_named = refl

  abbrev names_of : List (NonterminalString × NonterminalData) → List Text
  names_of = map (λ x. x.0.0)

  one_inlined : names_marked_inline both ≡ codes "L" ∷ []
  one_inlined =
      ap (λ (b : Bool). names_of (cond b ((named "L", d) ∷ cond (says_inline e) ((named "S", e) ∷ []) [])
      (cond (says_inline e) ((named "S", e) ∷ []) []))) marked
      ∙ ap (λ (b : Bool). codes "L" ∷ names_of (cond b ((named "S", e) ∷ []) [])) unmarked

-- a production beside where it stands
module _ (d : NonterminalData) (p : Production) (only : d.productions ≡ p ∷ []) where
  one_span : production_spans ((named "S", d) ∷ []) ≡ (named_production p, span_view p.span) ∷ []
  one_span = ap (λ (ps : List Production). map (λ q. (named_production q, span_view q.span)) ps ++ []) only

-- tokenizers

abbrev entry : InternEntry
entry = record { precedence = 3; literal = Terminal.quoted (codes "a"); mapping = EntryMapping.skip }

abbrev behind : Grammar
behind = grammar (WrittenItem.import (codes "x") ∷ WrittenItem.intern_token (entry ∷ []) ∷ [])

-- one behind the items
entries_there : first_entries behind.items ≡ entry ∷ []
entries_there = refl

one_tokenizer : HasOneTokenizer behind
one_tokenizer = refl

-- none has no entries
nothing_there : HasOneTokenizer (grammar [])
nothing_there = refl

none_there : HasNoTokenizer (grammar (WrittenItem.import (codes "x") ∷ []))
none_there es (inl e) = absurd (let wrong : ⊥ = cc in wrong)
none_there es (inr i) = absurd i

-- a second one hides behind an empty one
hidden_refused : HasOneTokenizer (grammar (WrittenItem.intern_token [] ∷ WrittenItem.intern_token (entry ∷ []) ∷ [])) → ⊥
hidden_refused h = let none : [] ≡ entry ∷ [] = h in cc

-- and an empty one is one
empty_refused : HasNoTokenizer (grammar (WrittenItem.intern_token [] ∷ [])) → ⊥
empty_refused h = h [] (inl refl)

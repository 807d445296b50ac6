-- Sentences of a written grammar are the yields of its expansion's start, and so are their beginnings: for the laws on right answers.
use Rattle.std.proofs.Common.{◌≡◌, List, [], ◌∷◌, ◌++◌, refl, ap, sym, ◌∙◌, subst, Bool, Option, length}
use Rattle.std.specs.Prelude.{map}
use Rattle.std.proofs.lemmas.List.{map-append}
use Rattle.lalrpop_grammar_symbols.specs.Symbols.{Text, Terminal}
use Rattle.lalrpop_grammar.specs.WrittenGrammar.{Grammar}
use Rattle.lalrpop_grammar.specs.Trees.{Token}
use Rattle.lalrpop_grammar_language.specs.Enabled.{enabled_grammar}
use Rattle.lalrpop_grammar_language.specs.Derivations.{leaf_token}
use Rattle.lalrpop_grammar_language.specs.Expansion.{Nonterminal, InExpansion}
use Rattle.lalrpop_grammar_language.specs.Sentences.{IsSentence, Begins}
use Rattle.lalrpop_lr1_theory.specs.Productions as theory
use Rattle.lalrpop_lr1_theory.specs.Answers.{IsYieldOf, BeginsYieldOf}
use Rattle.lalrpop_lr1_theory.specs.Trees.{IsTreeOf, yield}
use Rattle.lalrpop_lr1_theory.specs.Spans.{without_spans}
use Rattle.lalrpop_run_theory.specs.Expansions.{AreExpansion}
use Rattle.lalrpop_run_theory.proofs.ContainsLemmas.{with_spans}
use Rattle.lalrpop_run_theory.proofs.ForestCountLemmas.{token_spans, token_terminals}
use Rattle.lalrpop_run_theory.proofs.WrittenForestLemmas.{forest_of_tree, tree_of_forest}
use Rattle.lalrpop_run_theory.proofs.ExpandedForestLemmas.{as_many}

-- tokens with these terminals
some_tokens : List Terminal → List Token
some_tokens u = map (λ t. leaf_token t (0, 0)) u

terminals-some : (u : List Terminal) → token_terminals (some_tokens u) ≡ u
unfolding some_tokens
terminals-some [] = refl
terminals-some (t ∷ u) = ap (λ z. t ∷ z) (terminals-some u)

module _ (finds : Text → Text → Option Bool) (features : List Text) (w : Grammar) (prefix : Text) (G : theory.Production → Type 0)
    (e : AreExpansion (enabled_grammar finds features w) prefix G) (start : Text)
    (there : InExpansion (enabled_grammar finds features w) (Nonterminal.start start)) where
  -- a sentence's terminals are a yield
  pub sentence_yields : (tokens : List Token) → IsSentence finds features w start tokens →
      IsYieldOf G (prefix ++ start) (token_terminals tokens)
  sentence_yields tokens s =
      let f = forest_of_tree finds features w prefix G e start there s.0 tokens s.1 in
      (without_spans f.0, f.1.is_tree, f.1.terminals)

  -- tokens whose terminals are a yield are a sentence
  pub yield_sentence : (tokens : List Token) → IsYieldOf G (prefix ++ start) (token_terminals tokens) →
      IsSentence finds features w start tokens
  yield_sentence tokens y =
      let r = with_spans y.0 (token_spans tokens) (as_many tokens ∙ ap length (sym y.2)) in
      let t = tree_of_forest finds features w prefix G e start there r.trees tokens
      (subst (IsTreeOf G (prefix ++ start)) (sym r.trees_are) y.1) (ap yield r.trees_are ∙ y.2) r.spans_are in
      (t.0, t.1)

  -- what begins a sentence begins a yield
  pub beginning_yields : (u : List Terminal) → Begins finds features w start u → BeginsYieldOf G (prefix ++ start) u
  beginning_yields u b =
      let y = sentence_yields (b.0 ++ b.1) b.3 in
      record {
        tree = y.0;
        left = token_terminals b.1;
        is_tree = y.1;
        leaves = y.2 ∙ map-append (λ (k : Token). k.terminal) b.0 b.1 ∙ ap (λ z. z ++ token_terminals b.1) b.2;
      }

  -- and the other way round
  pub yield_beginning : (u : List Terminal) → BeginsYieldOf G (prefix ++ start) u → Begins finds features w start u
  yield_beginning u b =
      let front = some_tokens u in
      let back = some_tokens b.left in
      let terminals : yield b.tree ≡ token_terminals (front ++ back) =
      b.leaves ∙ ap (λ z. z ++ b.left) (sym (terminals-some u)) ∙ ap (λ z. token_terminals front ++ z) (sym (terminals-some b.left))
      ∙ sym (map-append (λ (k : Token). k.terminal) front back) in
      (front, back, terminals-some u, yield_sentence (front ++ back) (b.tree, b.is_tree, terminals))

-- A right answer over productions is the right answer of the written grammar: for the law on right answers.
use Rattle.std.proofs.Common.{◌≡◌, ◌<◌, ◌∙◌, ◌++◌, List, [], ◌∷◌, ap, arith, refl, subst, sym, ℕ, suc}
use Rattle.std.proofs.Common.{zero, length, Bool, Option}
use Rattle.std.proofs.Common.{Contains, Some, take}
use Rattle.std.specs.Prelude.{slice_get}
use Rattle.lalrpop_grammar_symbols.specs.Symbols.{Text}
use Rattle.lalrpop_grammar.specs.WrittenGrammar.{Grammar, Origin}
use Rattle.lalrpop_grammar.specs.Trees.{Token, Tree}
use Rattle.lalrpop_grammar_language.specs.Enabled.{EnabledGrammar, enabled_grammar}
use Rattle.lalrpop_grammar_language.specs.Expansion.{Nonterminal, InExpansion}
use Rattle.lalrpop_grammar_language.specs.ExpandedTrees.{ExpandedTree}
use Rattle.lalrpop_lr1_theory.specs.Productions.{Production}
use Rattle.lalrpop_lr1_theory.specs.Answers as theory
use Rattle.lalrpop_lr1_theory.specs.Spans.{SpannedForest, without_spans}
use Rattle.lalrpop_lr1_theory.specs.Trees.{IsTreeOf, nodes, yield}
use Rattle.lalrpop_run_theory.specs.ExpansionTrees.{expanded_size, tree_by_labels}
use Rattle.lalrpop_run_theory.proofs.ContainsLemmas.{with_spans}
use Rattle.lalrpop_run_theory.proofs.ForestCountLemmas.{token_spans, token_terminals}
use Rattle.lalrpop_run_theory.proofs.WrittenForestLemmas.{root_size, tree_of_forest}
use Rattle.lalrpop_run_theory.proofs.YieldLemmas.{beginning_yields, sentence_yields, yield_beginning}
use Rattle.lalrpop_run_theory.specs.TextAnswers.{TextAnswer, AreExpansionOf, IsExpandedFrom, IsRightForTokens, terminals_of_tokens}
use Rattle.lalrpop_run_theory.specs.AnswerLaws.{StandsForAnswer}
use Rattle.lalrpop_run_theory.proofs.ExpandedForestLemmas.{as_many, expanded_forest, forest_expanded}

-- a place of the terminals is one of the tokens
token_at : (tokens : List Token) (i : ℕ) → i < length (terminals_of_tokens tokens) → (k : Token) × (slice_get tokens i ≡ Some k)
token_at [] i h = absurd (omega (arith, h))
token_at (k ∷ tokens) zero h = (k, refl)
token_at (k ∷ tokens) (suc i) h = token_at tokens i (omega (arith, h))

module _ (finds : Text → Text → Option Bool) (features : List Text) (w : Grammar) (start : Text) (grammar : List Production)
    (e : AreExpansionOf finds features w grammar)
    (there : InExpansion (enabled_grammar finds features w) (Nonterminal.start start)) where
  abbrev s : Text
  s = w.prefix ++ start

  abbrev g : EnabledGrammar
  g = enabled_grammar finds features w

  -- an expanded tree of a written tree has as many nodes as a tree over the productions, with the tokens' terminals
  sized : (t : Tree) (tokens : List Token) (d : ExpandedTree Nonterminal Origin) → IsExpandedFrom finds features w start t tokens d →
      (ts : SpannedForest) × IsTreeOf (Contains grammar) s (without_spans ts) × (yield (without_spans ts) ≡ token_terminals tokens)
      × (expanded_size d ≡ nodes (without_spans ts))
  sized t tokens d h =
      let f = expanded_forest g w.prefix (Contains grammar) e start there t tokens d h in
      let size = root_size g w.prefix (Contains grammar) e start there f.0 f.1.is_tree in
      (f.0, f.1.is_tree, f.1.terminals, ap expanded_size (sym f.2) ∙ size)

  pub is_right : (tokens : List Token) (limit : ℕ) (a : theory.ParseAnswer) (answer : TextAnswer) →
      theory.IsRightParseAnswer (Contains grammar) s (terminals_of_tokens tokens) limit a →
      StandsForAnswer finds features w start e.label_of grammar tokens a answer →
      IsRightForTokens finds features w start tokens limit answer
  is_right tokens limit (theory.tree ts) (TextAnswer.no_token at) r h = absurd h
  is_right tokens limit (theory.tree ts) (TextAnswer.written t) r h =
      let is = h.2.is_forest in
      let size = root_size g w.prefix (Contains grammar) e start there h.0 is.is_tree in
      let same : nodes (without_spans h.0) ≡ nodes ts = ap nodes h.1 in
      record {
        admitted = h.2.admitted;
        expanded = tree_by_labels e.label_of h.0;
        is_expanded = forest_expanded g w.prefix (Contains grammar) e start there t tokens h.0 is;
        small = omega (arith, size, same, r.2);
      }
  is_right tokens limit (theory.tree ts) (TextAnswer.wrong_token at text) r h = absurd h
  is_right tokens limit (theory.tree ts) TextAnswer.early_end r h = absurd h
  is_right tokens limit (theory.tree ts) TextAnswer.over_limit r h = absurd h
  is_right tokens limit (theory.wrong_token i) (TextAnswer.no_token at) r h = absurd h
  is_right tokens limit (theory.wrong_token i) (TextAnswer.written t) r h = absurd h
  is_right tokens limit (theory.wrong_token i) (TextAnswer.wrong_token at text) r h =
      let terminals = terminals_of_tokens tokens in
      record {
        number = i;
        token = h.0;
        there = h.1;
        at_is = h.2;
        text_is = h.3;
        begins = yield_beginning finds features w w.prefix (Contains grammar) e start there (take i terminals) r.1;
        begins_no_more = λ b.
            r.2 (beginning_yields finds features w w.prefix (Contains grammar) e start there (take (suc i) terminals) b);
      }
  is_right tokens limit (theory.wrong_token i) TextAnswer.early_end r h = absurd h
  is_right tokens limit (theory.wrong_token i) TextAnswer.over_limit r h = absurd h
  is_right tokens limit theory.wrong_end (TextAnswer.no_token at) r h = absurd h
  is_right tokens limit theory.wrong_end (TextAnswer.written t) r h = absurd h
  is_right tokens limit theory.wrong_end (TextAnswer.wrong_token at text) r h = absurd h
  is_right tokens limit theory.wrong_end TextAnswer.early_end r h = (
    yield_beginning finds features w w.prefix (Contains grammar) e start there (terminals_of_tokens tokens) r.0,
    λ b. r.1 (sentence_yields finds features w w.prefix (Contains grammar) e start there tokens b),
  )
  is_right tokens limit theory.wrong_end TextAnswer.over_limit r h = absurd h
  is_right tokens limit theory.over_limit (TextAnswer.no_token at) r h = absurd h
  is_right tokens limit theory.over_limit (TextAnswer.written t) r h = absurd h
  is_right tokens limit theory.over_limit (TextAnswer.wrong_token at text) r h = absurd h
  is_right tokens limit theory.over_limit TextAnswer.early_end r h = absurd h
  is_right tokens limit theory.over_limit TextAnswer.over_limit r h = record {
    large = λ t d k.
        let f = sized t tokens d k in
        let more = r.0 (without_spans f.0) f.1 f.2 in
        omega (arith, more, f.3);
    grammar = grammar;
    are_expansion = e;
    has_run = r.1;
  }

  pub has_answer : (tokens : List Token) (limit : ℕ) (a : theory.ParseAnswer) →
      theory.IsRightParseAnswer (Contains grammar) s (terminals_of_tokens tokens) limit a →
      (answer : TextAnswer) × StandsForAnswer finds features w start e.label_of grammar tokens a answer
  has_answer tokens limit (theory.tree ts) r =
      let us = with_spans ts (token_spans tokens) (as_many tokens ∙ ap length (sym r.1)) in
      let t = tree_of_forest finds features w w.prefix (Contains grammar) e start there us.trees tokens
      (subst (IsTreeOf (Contains grammar) s) (sym us.trees_are) r.0) (ap yield us.trees_are ∙ r.1) us.spans_are in
      (TextAnswer.written t.0, (us.trees, us.trees_are, record { admitted = t.1; is_forest = t.2 }))
  has_answer tokens limit (theory.wrong_token i) r =
      let k = token_at tokens i r.0 in
      (TextAnswer.wrong_token k.0.span.0 k.0.text, (k.0, k.1, refl, refl))
  has_answer tokens limit theory.wrong_end r = (TextAnswer.early_end, tt)
  has_answer tokens limit theory.over_limit r = (TextAnswer.over_limit, tt)

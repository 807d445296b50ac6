use Rattle.std.proofs.Common.{subst}
use Rattle.lalrpop_grammar_language.specs.Admitting.{Admits, AdmitsStart}
use Rattle.lalrpop_grammar_language.specs.Enabled.{enabled_grammar}
use Rattle.lalrpop_grammar_language.specs.Expansion.{GrammarSymbol, Nonterminal, grammar_symbol}
use Rattle.lalrpop_grammar_language.proofs.PlaceLemmas.{places_told, places_apart}
use Rattle.lalrpop_grammar_language.proofs.SoundnessLemmas.{admits_part}
use Rattle.lalrpop_grammar_language.proofs.CompletenessLemmas.{grow}
use Rattle.lalrpop_grammar_language.proofs.UniquenessLemmas.{once}
use Rattle.lalrpop_grammar_language.proofs.StartLemmas.{start_admits, start_grown, start_once}
use Rattle.lalrpop_grammar_language.specs.ExpandedTrees.{expanded_tree}
use Rattle.lalrpop_grammar_language.specs.WrittenTrees.{tree_of_derivation, tree_written}
use Rattle.lalrpop_grammar_language.proofs.ExpandedWrittenLemmas.{taken_apart, apart_is, apart_tokens, apart_once, inlined_tree}
use Rattle.lalrpop_grammar_language.proofs.labels.expanded_trees_correspond.Goals as goal

pub returns-clause-admitted : goal.returns-clause-admitted
returns-clause-admitted g c =
    let i = g.P.InlinedNonterminals in
    λ decides finds features h x e k.
    let grammar = enabled_grammar finds features h in
    subst (λ tokens. Admits grammar x (tree_written e) tokens)
    (apart_tokens grammar i.is_inlined i.inlined_test decides (grammar_symbol x) e k)
    (admits_part grammar (places_told finds features h) x (taken_apart e)
    (apart_is grammar i.is_inlined i.inlined_test decides (grammar_symbol x) e k))

pub returns-clause-expanded : goal.returns-clause-expanded
returns-clause-expanded g c =
    let i = g.P.InlinedNonterminals in
    λ decides finds features h x t tokens k.
    let grammar = enabled_grammar finds features h in
    let f = grow grammar x t tokens k in (
      expanded_tree i.inlined_test (tree_of_derivation f.tree),
      inlined_tree grammar i.is_inlined i.inlined_test decides (grammar_symbol x) t tokens f.tree
          (record { grows = f.grows; stands = f.stands; over = f.over }),
    )

pub returns-clause-once : goal.returns-clause-once
returns-clause-once g c =
    let i = g.P.InlinedNonterminals in
    λ decides finds features h x d e k l same.
    let grammar = enabled_grammar finds features h in
    apart_once grammar i.is_inlined i.inlined_test decides (grammar_symbol x) d e k l
    (once grammar (places_told finds features h) (places_apart finds features h) x (taken_apart d) (taken_apart e)
    (apart_is grammar i.is_inlined i.inlined_test decides (grammar_symbol x) d k)
    (apart_is grammar i.is_inlined i.inlined_test decides (grammar_symbol x) e l) same)

pub returns-clause-admitted_from : goal.returns-clause-admitted_from
returns-clause-admitted_from g c =
    let i = g.P.InlinedNonterminals in
    λ decides finds features h n e k.
    let grammar = enabled_grammar finds features h in
    let start = GrammarSymbol.nonterminal (Nonterminal.start n) in
    subst (λ tokens. AdmitsStart grammar n (tree_written e) tokens)
    (apart_tokens grammar i.is_inlined i.inlined_test decides start e k)
    (start_admits grammar (places_told finds features h) n (taken_apart e)
    (apart_is grammar i.is_inlined i.inlined_test decides start e k))

pub returns-clause-expanded_from : goal.returns-clause-expanded_from
returns-clause-expanded_from g c =
    let i = g.P.InlinedNonterminals in
    λ decides finds features h n t tokens p k.
    let grammar = enabled_grammar finds features h in
    let f = start_grown grammar n t tokens p k in (
      expanded_tree i.inlined_test (tree_of_derivation f.0),
      inlined_tree grammar i.is_inlined i.inlined_test decides (GrammarSymbol.nonterminal (Nonterminal.start n)) t tokens f.0 f.1,
    )

pub returns-clause-once_from : goal.returns-clause-once_from
returns-clause-once_from g c =
    let i = g.P.InlinedNonterminals in
    λ decides finds features h n d e k l same.
    let grammar = enabled_grammar finds features h in
    let start = GrammarSymbol.nonterminal (Nonterminal.start n) in
    apart_once grammar i.is_inlined i.inlined_test decides start d e k l
    (start_once grammar (places_told finds features h) (places_apart finds features h) n (taken_apart d) (taken_apart e)
    (apart_is grammar i.is_inlined i.inlined_test decides start d k)
    (apart_is grammar i.is_inlined i.inlined_test decides start e l) same)

-- A parser by canonical states tells a fault before the limit: for the law that says so.
use Rattle.std.proofs.Common.{◌≡◌, ◌<◌, ◌≤◌, ◌∙◌, ◌++◌, ◌∷◌, [], ℕ, zero, suc, List}
use Rattle.std.proofs.Common.{ap, arith, drop, length, refl, subst, sym, take}
use Rattle.std.proofs.Common.{Contains, Some}
use Rattle.std.proofs.lemmas.List.{length-map, take-append-drop, take_all}
use Rattle.lalrpop_grammar_symbols.specs.Symbols.{Text, Terminal}
use Rattle.lalrpop_grammar.specs.Trees.{Token}
use Rattle.lalrpop_grammar.specs.Views.{grammar_view}
use Rattle.lalrpop_grammar.specs.WrittenGrammar.{Grammar}
use Rattle.lalrpop_grammar_language.specs.Enabled.{EnabledGrammar, enabled_grammar}
use Rattle.lalrpop_grammar_language.specs.Expansion.{InExpansion, Nonterminal}
use Rattle.lalrpop_grammar_language.specs.Sentences.{Begins}
use Rattle.lalrpop_grammar_rules.specs.Search.{finds, is_too_deep}
use Rattle.lalrpop_grammar_repr.specs.declared.methods.Method.TheVariants.{Canonical}
use Rattle.lalrpop_lexer_scan.proofs.CutLemmas.{same_tokens}
use Rattle.lalrpop_lr1_core.specs.TheoryGrammars.{theory_grammar}
use Rattle.lalrpop_lr1_build.specs.CollapseAnswers.{states_over}
use Rattle.lalrpop_lr1_interpret.specs.declared.parse.action_table.ActionTable.{ActionTable}
use Rattle.lalrpop_lr1_theory.specs.Answers.{IsYieldOf}
use Rattle.lalrpop_lr1_theory.specs.CanonicalStates.{AreCanonicalStates}
use Rattle.lalrpop_lr1_theory.specs.CheckedStates.{AreCheckedStates, IsStartAlone}
use Rattle.lalrpop_lr1_theory.specs.Productions.{Production, first}
use Rattle.lalrpop_lr1_theory.specs.Runs.{PassesLimit}
use Rattle.lalrpop_lr1_theory.specs.Spans.{without_spans}
use Rattle.lalrpop_lr1_theory.specs.States.{State}
use Rattle.lalrpop_lr1_theory.specs.ValidItems.{NoneBarren}
use Rattle.lalrpop_norm_theory.specs.Premises.{IsReadGrammar}
use Rattle.lalrpop_run_theory.proofs.WrittenForestLemmas.{root_size}
use Rattle.lalrpop_run_theory.proofs.YieldLemmas.{yield_beginning, yield_sentence}
use Rattle.lalrpop_run_theory.specs.ExpansionTrees.{expanded_size}
use Rattle.lalrpop_run_parser.specs.Limits.{BeginsSmallSentence, IsFaultAt, TellsFaultsFirst, TellsLimitWhere, TextPassesLimit}
use Rattle.lalrpop_run_parser.specs.Parsers.{HasTableBy}
use Rattle.lalrpop_run_parser.proofs.CanonicalRunLemmas.{CantFollow, larger_tree}
use Rattle.lalrpop_run_prepare.specs.PreparedGrammars.{IsPrepared, MayBeParsedFrom, PreparedGrammar}
use Rattle.lalrpop_run_prepare.proofs.StartLemmas.{start_in_expansion}
use Rattle.lalrpop_run_theory.specs.TextAnswers.{AreExpansionOf, terminals_of_tokens}
use Rattle.lalrpop_run_theory.proofs.ExpandedForestLemmas.{expanded_forest}

-- what stands at a place of a list
record StandsAt (l : List Terminal) (i : ℕ) : Type 0 where
  pub terminal : Terminal
  pub next : first (drop i l) ≡ Some terminal
  pub more : take (suc i) l ≡ take i l ++ terminal ∷ []

stands_at : (l : List Terminal) (i : ℕ) → i < length l → StandsAt l i
stands_at [] i h = absurd (omega arith)
stands_at (t ∷ l) zero h = record { terminal = t; next = refl; more = refl }
stands_at (t ∷ l) (suc i) h =
    let k = stands_at l i (omega arith) in record { terminal = k.terminal; next = k.next; more = ap (λ u. t ∷ u) k.more }

drop_past_end : (l : List Terminal) (i : ℕ) → length l ≤ i → drop i l ≡ []
drop_past_end [] zero h = refl
drop_past_end [] (suc i) h = refl
drop_past_end (t ∷ l) zero h = absurd (omega arith)
drop_past_end (t ∷ l) (suc i) h = drop_past_end l i (omega arith)

module _ (v : PreparedGrammar)
    (e : AreExpansionOf finds v.session.features.items (grammar_view v.written) (theory_grammar v.expansion))
    (there : InExpansion (enabled_grammar finds v.session.features.items (grammar_view v.written)) (Nonterminal.start v.start)) where
  abbrev w : Grammar
  w = grammar_view v.written

  abbrev features : List Text
  features = v.session.features.items

  abbrev g : EnabledGrammar
  g = enabled_grammar finds features w

  abbrev grammar : List Production
  grammar = theory_grammar v.expansion

  abbrev s : Text
  s = w.prefix ++ v.start

  -- what stands at the fault can't follow what stands before it
  cant_follow : (tokens : List Token) (place : ℕ) → IsFaultAt v tokens place →
      CantFollow (Contains grammar) s (take place (terminals_of_tokens tokens)) (first (drop place (terminals_of_tokens tokens)))
  cant_follow tokens place (IsFaultAt.at_token i h b wrong) =
      let all = terminals_of_tokens tokens in
      let k = stands_at all i (omega (arith, h, length-map tokens (λ (t : Token). t.terminal))) in
      subst (CantFollow (Contains grammar) s (take i all)) (sym k.next)
      (λ y.
      wrong (subst (λ (l : List Terminal). Begins finds features w v.start l) (sym k.more)
      (yield_beginning finds features w w.prefix (Contains grammar) e v.start there (take i all ++ k.terminal ∷ []) y)))
  cant_follow tokens place (IsFaultAt.at_end b wrong) =
      let all = terminals_of_tokens tokens in
      let count : length all ≡ length tokens = length-map tokens (λ (t : Token). t.terminal) in
      subst (λ (l : List Terminal). CantFollow (Contains grammar) s (take (length tokens) all) (first l))
      (sym (drop_past_end all (length tokens) (omega (arith, count))))
      (λ y.
      wrong (yield_sentence finds features w w.prefix (Contains grammar) e v.start there tokens
      (subst (IsYieldOf (Contains grammar) s) (take_all (length tokens) all (omega (arith, count))) y)))

  -- by canonical states no run passes the limit there
  none_past : (states : List State) → NoneBarren (Contains grammar) s → IsStartAlone grammar s →
      AreCanonicalStates grammar s states → AreCheckedStates grammar s states → (tokens : List Token) (place limit : ℕ) →
      IsFaultAt v tokens place →
      BeginsSmallSentence v (take place (terminals_of_tokens tokens)) limit →
      PassesLimit states (terminals_of_tokens tokens) limit → ⊥
  none_past states nb alone can ok tokens place limit fault small passes =
      let all = terminals_of_tokens tokens in
      let d = small.within.expanded in
      let f = expanded_forest g w.prefix (Contains grammar) e v.start there small.tree small.tokens d small.within.is_expanded in
      let size = root_size g w.prefix (Contains grammar) e v.start there f.0 f.1.is_tree in
      let larger =
      larger_tree grammar s states nb can ok (take place all) (drop place all) small.left (cant_follow tokens place fault) alone all limit
      (without_spans f.0) (sym (take-append-drop place all)) f.1.is_tree (f.1.terminals ∙ small.begins) passes in
      omega (arith, size, ap expanded_size f.2, small.within.small, larger)

-- by canonical states the limit isn't told where a small sentence begins with what stands before the fault
pub tells_faults_first : (v : PreparedGrammar) (table : ActionTable) (count : ℕ) → IsPrepared finds is_too_deep v →
    IsReadGrammar (grammar_view v.written) → v.start_name.0 ≡ v.written.prefix ++ v.start →
    MayBeParsedFrom v.expansion v.start_name → HasTableBy Canonical v table count →
    TellsFaultsFirst (record { prepared = v; table = table; count = count })
tells_faults_first v table count p read name parsed by entries text tokens place limit result scans are fault small is over =
    let states : List State = states_over v.expansion.terminals by.states_are.states in
    let passes : TextPassesLimit states entries text limit =
    subst (TellsLimitWhere (TextPassesLimit states entries text limit)) over (is.limit_told states entries by.table_is scans) in
    let known = start_in_expansion finds is_too_deep v.session.features.items v.session.macro_recursion_limit (grammar_view v.written) read
    p.generable.faultless v.start p.generable.starts in
    none_past v p.told.expansion known states
    (subst (λ (n : Text). NoneBarren (Contains (theory_grammar v.expansion)) n) name parsed.none_barren)
    (subst (λ (n : Text). IsStartAlone (theory_grammar v.expansion) n) name parsed.alone)
    (subst (λ (n : Text). AreCanonicalStates (theory_grammar v.expansion) n states) name
    by.states_are.by_method.states_are.constructed)
    (subst (λ (n : Text). AreCheckedStates (theory_grammar v.expansion) n states) name by.states_are.checked)
    tokens place limit fault small
    (subst (λ (ts : List Token). PassesLimit states (terminals_of_tokens ts) limit)
    (same_tokens entries text passes.tokens tokens passes.are_tokens are) passes.passes)

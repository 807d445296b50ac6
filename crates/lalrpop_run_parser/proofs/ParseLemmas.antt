-- What a parse onto a stack of written trees says of the written grammar: the right answer to tokens, and to a text; for the parser.
use Rattle.std.proofs.Common.{◌≡◌, ◌<◌, ◌≤◌, ◌∙◌, ◌++◌, ◌∷◌, [], ℕ, zero, suc, List, length}
use Rattle.std.proofs.Common.{refl, ap, sym, subst, arith, length-append}
use Rattle.std.proofs.Common.{Contains, Err, Ok, Some}
use Rattle.std.specs.Prelude.{Option, Result, map, option_map, slice_get}
use Rattle.std.proofs.lemmas.List.{length-map}
use Rattle.std.proofs.lemmas.Option.{slice_get-map, slice_get_within}
use Rattle.std.proofs.lemmas.Simd.{map-map}
use Rattle.lalrpop_grammar_symbols.specs.Symbols.{Text, Terminal}
use Rattle.lalrpop_grammar_symbols.specs.Views.{terminal_view}
use Rattle.lalrpop_grammar.specs.Trees.{Token}
use Rattle.lalrpop_grammar.specs.Views.{grammar_view, token_view, tree_view}
use Rattle.lalrpop_grammar.specs.WrittenGrammar.{Grammar}
use Rattle.lalrpop_grammar.specs.declared.origin.Origin.{Origin}
use Rattle.lalrpop_grammar.specs.declared.token.ScanToken.{ScanToken}
use Rattle.lalrpop_grammar.specs.declared.tree.WrittenTree.{WrittenTree}
use Rattle.lalrpop_grammar_language.specs.Enabled.{enabled_grammar}
use Rattle.lalrpop_grammar_language.specs.Expansion.{InExpansion, Nonterminal}
use Rattle.lalrpop_grammar_repr.specs.declared.action.ActionFnDefn.{ActionFnDefn}
use Rattle.lalrpop_grammar_rules.specs.Search.{finds, is_too_deep}
use Rattle.lalrpop_lexer_scan.specs.Entries.{ScanEntry}
use Rattle.lalrpop_lexer_scan.specs.Faults.{TellsNoToken}
use Rattle.lalrpop_lexer_scan.specs.Tokens.{AreTokensOf}
use Rattle.lalrpop_lexer_scan.specs.declared.fault.ScanError.{ScanError}
use Rattle.lalrpop_lexer_scan.specs.declared.fault.ScanError.TheVariants as scans
use Rattle.lalrpop_lr1_core.specs.TheoryGrammars.{theory_grammar}
use Rattle.lalrpop_lr1_interpret.specs.Ends.{MayRun, spans_of, terminals_of}
use Rattle.lalrpop_lr1_interpret.specs.Parses.{IsRightStop, MakesRightTree}
use Rattle.lalrpop_lr1_interpret.specs.declared.parse.action_table.ActionTable.{ActionTable}
use Rattle.lalrpop_lr1_interpret.specs.declared.parse.stop.Stop.{Stop}
use Rattle.lalrpop_lr1_interpret.specs.declared.parse.stop.Stop.TheVariants as stops
use Rattle.lalrpop_lr1_theory.specs.Answers as theory
use Rattle.lalrpop_lr1_theory.specs.Productions.{Production}
use Rattle.lalrpop_lr1_theory.specs.Spans.{SpannedForest, leaf_spans, none_at, without_spans}
use Rattle.lalrpop_lr1_theory.specs.Trees.{AreOver, Forest, IsTreeOf, leaf, node, none}
use Rattle.lalrpop_norm_theory.specs.Premises.{IsReadGrammar}
use Rattle.lalrpop_run_theory.specs.Laws.{ForestsAreAdmitted}
use Rattle.lalrpop_run_parser.specs.ParserAnswers.{IsRightForItsText, IsRightForItsTokens, IsWrongAt, TellsStop}
use Rattle.lalrpop_run_parser.specs.ParserAnswers.{parse_error_of_scan}
use Rattle.lalrpop_run_parser.specs.Parsers.{IsParserTable}
use Rattle.lalrpop_run_parser.specs.declared.parse_error.ParseError.{ParseError}
use Rattle.lalrpop_run_parser.specs.declared.parse_error.ParseError.TheVariants as errors
use Rattle.lalrpop_run_prepare.specs.PreparedGrammars.{IsPrepared, MayBeParsedFrom, PreparedGrammar}
use Rattle.lalrpop_run_prepare.proofs.StartLemmas.{start_in_expansion}
use Rattle.lalrpop_run_theory.specs.AnswerLaws.{RightParsesAreRight, StandsForAnswer}
use Rattle.lalrpop_run_theory.specs.TextAnswers.{IsRightForText, IsRightForTokens, TextAnswer, terminals_of_tokens}
use Rattle.lalrpop_run_trees.specs.ActionLabels.{TellsLabel, kept_count}
use Rattle.lalrpop_run_trees.specs.LabelledTrees.{IsPart, StandByActions}
use Rattle.lalrpop_run_trees.proofs.MadeTreeLemmas.{made_admitted}
use Rattle.lalrpop_run_trees.proofs.TakenLemmas.{KeepSymbols}
use Rattle.lalrpop_run_trees.proofs.ToldLemmas.{told_count}

-- the parser's table may be run
pub may_run : (v : PreparedGrammar) (table : ActionTable) (count : ℕ) → IsParserTable v table count →
    MayBeParsedFrom v.expansion v.start_name → MayRun table
may_run v table count is parsed = record {
  grammar = theory_grammar v.expansion;
  start = v.start_name.0;
  states = is.states;
  alone = parsed.alone;
  checked = is.checked;
  is_table = is.table_is;
}

-- no written trees stand for no trees
pub none_stand : (actions : List ActionFnDefn) (origins : List Origin) (items : List WrittenTree) → items ≡ [] →
    StandByActions actions origins none_at [] (map tree_view items)
none_stand actions origins items e =
    subst (λ (l : List WrittenTree). StandByActions actions origins none_at [] (map tree_view l)) (sym e)
    (record { count = refl; stand = λ label_of over. record { shown = refl; are_tokens = IsPart.nothing } })

-- what holds of each production of a grammar holds over trees over it
over_each : (G H : Production → Type 0) → ((p : Production) → G p → H p) → (ts : Forest) → AreOver G ts → AreOver H ts
over_each G H f none h = h
over_each G H f (leaf t ts) h = over_each G H f ts h
over_each G H f (node p cs ts) h = (f p h.0, h.1, over_each G H f cs h.2, over_each G H f ts h.3)

-- where one tree is the last of so many as one root has, it is alone
one_alone : (rest : List WrittenTree) (t : WrittenTree) → length (map tree_view (rest ++ t ∷ [])) ≡ 1 → rest ≡ []
one_alone [] t e = refl
one_alone (u ∷ rest) t e =
    absurd (omega (arith, e, length-map (rest ++ t ∷ []) tree_view, length-append rest (t ∷ [])))

-- the token at a place
pub token_there : (tokens : List Token) (i : ℕ) → i < length tokens → (k : Token) × (slice_get tokens i ≡ Some k)
token_there [] i h = absurd (omega (arith, h))
token_there (k ∷ tokens) zero h = (k, refl)
token_there (k ∷ tokens) (suc i) h = token_there tokens i (omega (arith, h))

module _ (forests : ForestsAreAdmitted) (rights : RightParsesAreRight) (v : PreparedGrammar)
    (read : IsReadGrammar (grammar_view v.written)) (p : IsPrepared finds is_too_deep v)
    (name : v.start_name.0 ≡ v.written.prefix ++ v.start) (tokens : List ScanToken) (limit : ℕ) where
  abbrev w : Grammar
  w = grammar_view v.written

  abbrev features : List Text
  features = v.session.features.items

  abbrev grammar : List Production
  grammar = theory_grammar v.expansion

  abbrev views : List Token
  views = map token_view tokens

  known : InExpansion (enabled_grammar finds features w) (Nonterminal.start v.start)
  known =
      start_in_expansion finds is_too_deep features v.session.macro_recursion_limit w read p.generable.faultless v.start
      p.generable.starts

  terminals_are : terminals_of tokens ≡ terminals_of_tokens views
  terminals_are = sym (map-map (λ (k : Token). k.terminal) token_view tokens)

  -- what is right over the productions is right of the written grammar
  right_answer : (a : theory.ParseAnswer) (answer : TextAnswer) →
      theory.IsRightParseAnswer (Contains grammar) v.start_name.0 (terminals_of tokens) limit a →
      StandsForAnswer finds features w v.start p.told.expansion.label_of grammar views a answer →
      IsRightForTokens finds features w v.start views limit answer
  right_answer a answer right stands =
      rights finds features w v.start grammar p.told.expansion known views limit a answer
      (subst (λ (l : List Terminal). theory.IsRightParseAnswer (Contains grammar) (w.prefix ++ v.start) l limit a) terminals_are
      (subst (λ (s : Text). theory.IsRightParseAnswer (Contains grammar) s (terminals_of tokens) limit a) name right))
      stands

  -- the tree that was made is the right one
  right_one : (ts : SpannedForest) (t : WrittenTree) →
      theory.IsRightParseAnswer (Contains grammar) v.start_name.0 (terminals_of tokens) limit (theory.tree (without_spans ts)) →
      leaf_spans ts ≡ spans_of tokens → StandByActions v.expansion.action_fn_defns v.origins ts views (tree_view t ∷ []) →
      IsRightForItsTokens v views limit (Ok t)
  right_one ts t right spans s =
      let over = over_each (Contains grammar)
      (λ (q : Production). TellsLabel v.expansion.action_fn_defns v.origins q.action (length q.right)
      (p.told.expansion.label_of q.action)) p.told.tells (without_spans ts) right.0.1 in
      let keeps : KeepSymbols p.told.expansion.label_of ts =
      over_each
      (λ (q : Production). TellsLabel v.expansion.action_fn_defns v.origins q.action (length q.right)
      (p.told.expansion.label_of q.action)) (λ (q : Production). kept_count (p.told.expansion.label_of q.action) ≡ length q.right)
      (λ (q : Production) told.
      told_count v.expansion.action_fn_defns v.origins q.action (length q.right) (p.told.expansion.label_of q.action) told)
      (without_spans ts) over in
      let is_tree = subst (λ (s : Text). IsTreeOf (Contains grammar) s (without_spans ts)) name right.0 in
      let made = made_admitted forests finds features w w.prefix v.start grammar p.told.expansion known ts views is_tree
      (right.1 ∙ terminals_are) (spans ∙ sym (map-map (λ (k : Token). k.span) token_view tokens)) keeps (tree_view t)
      (s.stand p.told.expansion.label_of over) in
      right_answer (theory.tree (without_spans ts)) (TextAnswer.written (tree_view t)) right
      (ts, refl, record { admitted = made.0; is_forest = made.1 })

  module _ (actions : List ActionFnDefn) (origins : List Origin) (actions_are : actions ≡ v.expansion.action_fn_defns)
      (origins_are : origins ≡ v.origins) (items : List WrittenTree)
      (made : MakesRightTree grammar v.start_name.0 tokens limit
      (λ ts ks. StandByActions actions origins ts ks (map tree_view items))) where
    one_item : length (map tree_view items) ≡ 1
    one_item = made.stands.count ∙ ap length made.right.0.0

    -- there is a tree
    pub not_none : items ≡ [] → ⊥
    not_none e = omega (arith, sym (ap (λ (l : List WrittenTree). length (map tree_view l)) e) ∙ one_item)

    pub right_tree : (rest : List WrittenTree) (t : WrittenTree) → items ≡ rest ++ t ∷ [] → IsRightForItsTokens v views limit (Ok t)
    right_tree rest t e =
        let alone : rest ≡ [] = one_alone rest t (ap (λ (l : List WrittenTree). length (map tree_view l)) (sym e) ∙ one_item) in
        let items_are : items ≡ t ∷ [] = e ∙ ap (λ (l : List WrittenTree). l ++ t ∷ []) alone in
        let stands : StandByActions v.expansion.action_fn_defns v.origins made.trees views (tree_view t ∷ []) =
        subst (λ (l : List WrittenTree). StandByActions v.expansion.action_fn_defns v.origins made.trees views (map tree_view l))
        items_are
        (subst (λ (l : List Origin). StandByActions v.expansion.action_fn_defns l made.trees views (map tree_view items)) origins_are
        (subst (λ (l : List ActionFnDefn). StandByActions l origins made.trees views (map tree_view items)) actions_are
        made.stands)) in
        right_one made.trees t made.right made.spans_are stands

  wrong_right : (i : ℕ) (error : ParseError) →
      theory.IsRightParseAnswer (Contains grammar) v.start_name.0 (terminals_of tokens) limit (theory.wrong_token i) →
      (k : Token) → slice_get views i ≡ Some k → IsWrongAt k error → IsRightForItsTokens v views limit (Err error)
  wrong_right i (errors.Token at text) right k there told =
      right_answer (theory.wrong_token i) (TextAnswer.wrong_token at text) right (k, there, told.0, told.1)
  wrong_right i errors.Memory right k there told = tt
  wrong_right i (errors.NoToken at) right k there told = absurd told
  wrong_right i errors.End right k there told = absurd told
  wrong_right i errors.Limit right k there told = absurd told

  -- where the parse stops, that is told
  pub right_stop : (stop : Stop) (error : ParseError) → IsRightStop grammar v.start_name.0 tokens limit stop →
      TellsStop views stop error → IsRightForItsTokens v views limit (Err error)
  right_stop (stops.Token i) error right told =
      let k = token_there views i
      (omega (
        arith,
        right.0,
        length-map tokens (λ t. terminal_view t.terminal),
        length-map tokens token_view,
      )) in
      wrong_right i error right k.0 k.1 (told k.0 k.1)
  right_stop stops.End error right told =
      subst (λ (e : ParseError). IsRightForItsTokens v views limit (Err e)) (sym told)
      (right_answer theory.wrong_end TextAnswer.early_end right tt)
  right_stop stops.Limit error right told =
      subst (λ (e : ParseError). IsRightForItsTokens v views limit (Err e)) (sym told)
      (right_answer theory.over_limit TextAnswer.over_limit right tt)
  right_stop stops.Memory error right told =
      subst (λ (e : ParseError). IsRightForItsTokens v views limit (Err e)) (sym told) tt

-- the right answer to the tokens of a text is that to the text
pub text_right : (v : PreparedGrammar) (entries : List ScanEntry) (text : List ℕ) (tokens : List Token) (limit : ℕ)
    (result : Result WrittenTree ParseError) → AreTokensOf entries text tokens → IsRightForItsTokens v tokens limit result →
    IsRightForItsText v entries text limit result
text_right v entries text tokens limit (Ok t) are right = IsRightForText.reads tokens (TextAnswer.written (tree_view t)) are right
text_right v entries text tokens limit (Err (errors.NoToken at)) are right = absurd right
text_right v entries text tokens limit (Err (errors.Token at found)) are right =
    IsRightForText.reads tokens (TextAnswer.wrong_token at found) are right
text_right v entries text tokens limit (Err errors.End) are right = IsRightForText.reads tokens TextAnswer.early_end are right
text_right v entries text tokens limit (Err errors.Limit) are right = IsRightForText.reads tokens TextAnswer.over_limit are right
text_right v entries text tokens limit (Err errors.Memory) are right = tt

-- where it has none, that is
pub untokened_right : (v : PreparedGrammar) (entries : List ScanEntry) (text : List ℕ) (limit : ℕ) (error : ScanError) →
    TellsNoToken entries text error → IsRightForItsText v entries text limit (Err (parse_error_of_scan error))
untokened_right v entries text limit (scans.NoToken at) told = IsRightForText.stops at told
untokened_right v entries text limit scans.Memory told = tt

-- what is told of a token that is there
pub stop_at : (tokens : List ScanToken) (place : ℕ) (t : ScanToken) (stop : Stop) (error : ParseError) → stop ≡ stops.Token place →
    slice_get tokens place ≡ Some t → IsWrongAt (token_view t) error → TellsStop (map token_view tokens) stop error
stop_at tokens place t stop error is there told =
    subst (λ (s : Stop). TellsStop (map token_view tokens) s error) (sym is)
    (λ k at.
    subst (λ (j : Token). IsWrongAt j error)
    (some_same (token_view t) k (sym (slice_get-map token_view tokens place ∙ ap (option_map token_view) there) ∙ at)) told)
  where
    some_same : (j k : Token) → ◌≡◌ {A = Option Token} (Some j) (Some k) → j ≡ k
    some_same j k e = cc

-- and of none
pub stop_past : (tokens : List ScanToken) (place : ℕ) (stop : Stop) (error : ParseError) → stop ≡ stops.Token place →
    length tokens ≤ place → TellsStop (map token_view tokens) stop error
stop_past tokens place stop error is past =
    subst (λ (s : Stop). TellsStop (map token_view tokens) s error) (sym is)
    (λ k at. absurd (omega (arith, past, slice_get_within (map token_view tokens) place k at, length-map tokens token_view)))

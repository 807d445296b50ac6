-- What a step makes of rules, one after another: for the function that goes over them.
use Rattle.std.proofs.Common.{◌≡◌, ◌+◌, ℕ, List, [], ◌∷◌, ◌++◌, ap, sym, ◌∙◌, subst, append_assoc}
use Rattle.std.proofs.Common.{length, length-append}
use Rattle.lalrpop_grammar_symbols.specs.Symbols.{Text}
use Rattle.lalrpop_grammar_symbols.specs.declared.names.NonterminalString.{NonterminalString}
use Rattle.lalrpop_grammar_repr.specs.declared.action.ActionFnDefn.{ActionFnDefn}
use Rattle.lalrpop_grammar_repr.specs.declared.action.InlinedSymbol.{InlinedSymbol}
use Rattle.lalrpop_grammar_repr.specs.declared.production.NonterminalData.{NonterminalData}
use Rattle.lalrpop_grammar_repr.specs.declared.production.Production.{Production}
use Rattle.lalrpop_lr1_inline.specs.InlinedNames.{NonterminalEntries}
use Rattle.lalrpop_lr1_inline.specs.InliningSteps.{AddsDefinitions, all_records_after, data_after, entries_after, productions_after}
use Rattle.lalrpop_lr1_inline.specs.InliningSteps.{records_after}
use Rattle.lalrpop_lr1_inline.proofs.MadeLemmas.{adds_on}

-- one rule further on
pub rules_on : (n : Text) (sources : List Production) (left rest : NonterminalEntries) (e : NonterminalString × NonterminalData)
    (k j : ℕ) (old new whole : NonterminalEntries) → left ≡ e ∷ rest →
    new ≡ old ++ (e.0, data_after e.1 (productions_after n sources e.1.productions k)) ∷ [] →
    j ≡ k + length (records_after n sources e.1.productions) → old ++ entries_after n sources left k ≡ whole →
    new ++ entries_after n sources rest j ≡ whole
rules_on n sources left rest e k j old new whole one f same h =
    ap (λ l. l ++ entries_after n sources rest j) f
    ∙ append_assoc old ((e.0, data_after e.1 (productions_after n sources e.1.productions k)) ∷ []) (entries_after n sources rest j)
    ∙ ap (λ i. old ++ (e.0, data_after e.1 (productions_after n sources e.1.productions k)) ∷ entries_after n sources rest i) same
    ∙ ap (λ l. old ++ entries_after n sources l k) (sym one) ∙ h

-- and its actions
pub all_added_on : (actions : List ActionFnDefn) (n : Text) (sources : List Production) (left rest : NonterminalEntries)
    (e : NonterminalString × NonterminalData) (all : List (Production × List InlinedSymbol)) (first old new : List ActionFnDefn) →
    left ≡ e ∷ rest → AddsDefinitions actions (records_after n sources e.1.productions) old new →
    ((after : List ActionFnDefn) → AddsDefinitions actions (all_records_after n sources left) old after →
    AddsDefinitions actions all first after) →
    (after : List ActionFnDefn) → AddsDefinitions actions (all_records_after n sources rest) new after →
    AddsDefinitions actions all first after
all_added_on actions n sources left rest e all first old new same one h after more =
    h after (subst (λ (l : NonterminalEntries). AddsDefinitions actions (all_records_after n sources l) old after) (sym same)
    (adds_on actions (records_after n sources e.1.productions) (all_records_after n sources rest) old new after one more))

-- how many are to be made
pub all_count_on : (n : Text) (sources : List Production) (left rest : NonterminalEntries) (e : NonterminalString × NonterminalData) →
    left ≡ e ∷ rest →
    length (all_records_after n sources left)
    ≡ length (records_after n sources e.1.productions) + length (all_records_after n sources rest)
all_count_on n sources left rest e same =
    ap (λ l. length (all_records_after n sources l)) same
    ∙ length-append (records_after n sources e.1.productions) (all_records_after n sources rest)

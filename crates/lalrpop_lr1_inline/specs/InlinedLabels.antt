-- The labels of the productions after inlining, by the records of their actions, and what they say of an inlined grammar.
use Rattle.std.specs.Prelude.{◌≡◌, ◌<◌, ◌≤◌, ℕ, All, Some, List, [], ◌∷◌, flat_map, length, map, slice_get}
use Rattle.std.specs.List.Sorted.{IsStrictlySortedBy}
use Rattle.std.specs.Map.{keys_of}
use Rattle.lalrpop_grammar_symbols.specs.Symbols.{Text}
use Rattle.lalrpop_grammar_symbols.specs.contracts.names.NonterminalStringOrd.TheImpl as names
use Rattle.lalrpop_grammar_language.specs.Among.{Among}
use Rattle.lalrpop_grammar_repr.specs.declared.action.ActionFnDefn.{ActionFnDefn}
use Rattle.lalrpop_grammar_repr.specs.declared.action.ActionFnDefnKind.TheVariants as kinds
use Rattle.lalrpop_grammar_repr.specs.declared.action.InlineActionFnDefn.{InlineActionFnDefn}
use Rattle.lalrpop_grammar_repr.specs.declared.grammar.Grammar.{Grammar}
use Rattle.lalrpop_grammar_repr.specs.declared.production.Production.{Production}
use Rattle.lalrpop_grammar_language.specs.Labels.{GrammarSymbols, Label}
use Rattle.lalrpop_grammar_language.specs.Inlining.{Inlines}
use Rattle.lalrpop_grammar_language.specs.Steps.{label_with}
use Rattle.lalrpop_lr1_inline.specs.InlinedGrammars.{IsInlinedGrammar}
use Rattle.lalrpop_lr1_inline.specs.InlinedNames.{NonterminalEntries}
use Rattle.lalrpop_lr1_inline.specs.InliningSteps.{productions_named}
use Rattle.lalrpop_lr1_inline.specs.NamedProductions.{IsInlinedByName, ProducesByAction, label_given, record_by_labels, side_by_names}

-- none stands twice in the list
abbrev pub StandOnce : {A : Type 0} → List A → Type 0
StandOnce [] = Unit {0}
StandOnce (x ∷ xs) = (Among xs x → ⊥) × StandOnce xs

-- the numbers of the productions' actions, in order
abbrev pub production_actions : NonterminalEntries → List ℕ
production_actions es = flat_map (λ e. map (λ p. p.action.0) e.1.productions) es

-- The labels of the actions after inlining. In a production of the given grammar nothing is inlined. An action that inlining
-- adds has the label of the action that it is made of, with its record put in.
pub record AreActionLabels (before : Grammar) (after : Grammar) (label_of : ℕ → Label Text ℕ) : Type 0 where
  pub given : (n : Text) (p : Production) → Among (productions_named before.nonterminals n) p →
      label_of p.action.0 ≡ label_given n p.action.0 (side_by_names p.symbols)
  pub made : (k : ℕ) (d : ActionFnDefn) (i : InlineActionFnDefn) → length before.action_fn_defns ≤ k →
      slice_get after.action_fn_defns k ≡ Some d → d.kind ≡ kinds.Inline i →
      label_of k ≡ label_with (label_of i.action.0) (record_by_labels label_of i.symbols)

-- a production of the nonterminal with this label and this right side
pub record HasLabelled (after : NonterminalEntries) (label_of : ℕ → Label Text ℕ) (n : Text) (label : Label Text ℕ)
    (side : GrammarSymbols Text) : Type 0 where
  pub production : Production
  pub stands : Among (productions_named after n) production
  pub label_is : label_of production.action.0 ≡ label
  pub side_is : side_by_names production.symbols ≡ side

-- The productions are those of the given grammar with the inlined nonterminals inlined, all and no other, each label once.
pub record AreInlinedProductions (before : NonterminalEntries) (after : NonterminalEntries) (label_of : ℕ → Label Text ℕ) :
    Type 0 where
  pub has_label : (n : Text) (p : Production) → Among (productions_named after n) p →
      Inlines (ProducesByAction before) (IsInlinedByName before) n (label_of p.action.0) (side_by_names p.symbols)
  pub all : (n : Text) (label : Label Text ℕ) (side : GrammarSymbols Text) →
      Inlines (ProducesByAction before) (IsInlinedByName before) n label side → HasLabelled after label_of n label side
  pub once : (n : Text) → StandOnce (map (λ p. label_of p.action.0) (productions_named after n))

-- What inlining makes of a grammar whose productions have actions of their own: its productions under their labels.
abbrev pub InlinedHaveLabels : Type 0
InlinedHaveLabels =
    (before after : Grammar) (label_of : ℕ → Label Text ℕ) →
    IsStrictlySortedBy (names.ghosts).cmp (keys_of before.nonterminals) → StandOnce (production_actions before.nonterminals) →
    IsInlinedGrammar before after → AreActionLabels before after label_of →
    AreInlinedProductions before.nonterminals after.nonterminals label_of

-- the actions have labels, where each production's action is one of the grammar's
abbrev pub ActionsHaveLabels : Type 0
ActionsHaveLabels =
    (before after : Grammar) → StandOnce (production_actions before.nonterminals) →
    All (λ e. All (λ p. p.action.0 < length before.action_fn_defns) e.1.productions) before.nonterminals →
    IsInlinedGrammar before after → (label_of : ℕ → Label Text ℕ) × AreActionLabels before after label_of

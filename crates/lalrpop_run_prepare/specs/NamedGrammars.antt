-- When a lowered grammar's productions are those of a grammar's expansion under names, before inlining; for the laws on what is made
-- of a written grammar.
use Rattle.std.specs.Prelude.{◌≡◌, ◌↔◌, ℕ, List}
use Rattle.std.specs.List.Sorted.{IsStrictlySortedBy}
use Rattle.std.specs.Map.{keys_of}
use Rattle.lalrpop_grammar_symbols.specs.Symbols.{Text}
use Rattle.lalrpop_grammar_symbols.specs.contracts.names.NonterminalStringOrd.TheImpl as names
use Rattle.lalrpop_grammar_symbols.specs.declared.names.NonterminalString.{NonterminalString}
use Rattle.lalrpop_grammar.specs.WrittenGrammar.{Origin}
use Rattle.lalrpop_grammar_language.specs.Among.{Among}
use Rattle.lalrpop_grammar_language.specs.Enabled.{EnabledGrammar}
use Rattle.lalrpop_grammar_language.specs.Expansion.{Nonterminal, RightSide, Produces, InExpansion}
use Rattle.lalrpop_grammar_repr.specs.declared.production.NonterminalData.{NonterminalData}
use Rattle.lalrpop_grammar_repr.specs.declared.production.Production.{Production}
use Rattle.lalrpop_norm_theory.specs.Inlined.{IsInlined}
use Rattle.lalrpop_norm_theory.specs.Keys.{IsNaming, leveled_key_text}
use Rattle.lalrpop_norm_theory.specs.Productions.{AreProductions}
use Rattle.lalrpop_norm_theory.specs.Same.{rename_side}
use Rattle.lalrpop_grammar_language.specs.Labels.{GrammarSymbols, Label}
use Rattle.lalrpop_grammar_language.specs.Inlining.{Inlines}
use Rattle.lalrpop_norm_lower.specs.LoweredSymbols.{named_productions}
use Rattle.lalrpop_lr1_inline.specs.InlinedNames.{NonterminalEntries}
use Rattle.lalrpop_lr1_inline.specs.NamedProductions.{IsInlinedByName, ProducesByAction}
use Rattle.lalrpop_run_prepare.specs.NamedLabels.{label_back}

-- each production is one of the nonterminal under whose name it stands
abbrev pub StandUnderNames : NonterminalEntries → Type 0
StandUnderNames es =
    (e : NonterminalString × NonterminalData) (p : Production) → Among es e → Among e.1.productions p → p.nonterminal ≡ e.0

-- The productions are those of the expansion under names, each with an action of its own that tells its choice, and a nonterminal is
-- marked as inlined where it is.
pub record IsNamedExpansion (g : EnabledGrammar) (prefix : Text) (es : NonterminalEntries) : Type 0 where
  pub name_of : Nonterminal → Text
  pub naming : IsNaming (leveled_key_text g) prefix g name_of
  pub origins : List Origin
  pub productions : AreProductions g name_of (named_productions es) origins
  pub inlined : (x : Nonterminal) → InExpansion g x → IsInlined g x ↔ IsInlinedByName es (name_of x)

-- Labels under names are those over closed symbols and written choices, both ways, by what each action tells; and no two are one.
pub record AreLabelsUnderNames (g : EnabledGrammar) (name_of : Nonterminal → Text) (es : NonterminalEntries)
    (back : ℕ → Nonterminal × Origin) : Type 0 where
  pub named : (x : Nonterminal) (label : Label Nonterminal Origin) (side : RightSide) → InExpansion g x →
      Inlines (Produces g) (IsInlined g) x label side →
      (under : Label Text ℕ) × Inlines (ProducesByAction es) (IsInlinedByName es) (name_of x) under (rename_side name_of side)
      × (label_back back under ≡ label)
  pub told : (x : Nonterminal) (under : Label Text ℕ) (side : GrammarSymbols Text) → InExpansion g x →
      Inlines (ProducesByAction es) (IsInlinedByName es) (name_of x) under side →
      (from : RightSide) × Inlines (Produces g) (IsInlined g) x (label_back back under) from × (side ≡ rename_side name_of from)
  pub once : (n m : Text) (under other : Label Text ℕ) (side end : GrammarSymbols Text) →
      Inlines (ProducesByAction es) (IsInlinedByName es) n under side →
      Inlines (ProducesByAction es) (IsInlinedByName es) m other end → label_back back under ≡ label_back back other → under ≡ other

-- a grammar whose productions are those of an expansion under names has such labels
abbrev pub LabelsAreNamed : Type 0
LabelsAreNamed =
    (g : EnabledGrammar) (prefix : Text) (es : NonterminalEntries) → IsStrictlySortedBy (names.ghosts).cmp (keys_of es) →
    StandUnderNames es → (n : IsNamedExpansion g prefix es) →
    (back : ℕ → Nonterminal × Origin) × AreLabelsUnderNames g n.name_of es back

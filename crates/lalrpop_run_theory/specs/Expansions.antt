-- Productions, as the theory of tables sees them, that are those of a grammar's expansion: one for each label, under names.
use Rattle.std.specs.Prelude.{ℕ, ◌≡◌, List, map}
use Rattle.lalrpop_grammar_symbols.specs.Symbols.{Text}
use Rattle.lalrpop_grammar.specs.WrittenGrammar.{Origin}
use Rattle.lalrpop_grammar_language.specs.Enabled.{EnabledGrammar}
use Rattle.lalrpop_grammar_language.specs.Expansion.{GrammarSymbol, Nonterminal, RightSide, Produces, InExpansion}
use Rattle.lalrpop_norm_theory.specs.Inlined.{IsInlined}
use Rattle.lalrpop_norm_theory.specs.Keys.{IsNaming, leveled_key_text}
use Rattle.lalrpop_norm_theory.specs.Same.{rename_side, rename_symbol}
use Rattle.lalrpop_grammar_language.specs.Labels.{Label}
use Rattle.lalrpop_grammar_language.specs.Inlining.{Inlines}
use Rattle.lalrpop_lr1_theory.specs.Productions as theory

-- a symbol over names as the theory sees it
abbrev pub theory_symbol : GrammarSymbol Text → theory.Symbol
theory_symbol (GrammarSymbol.nonterminal n) = theory.nonterminal n
theory_symbol (GrammarSymbol.terminal t) = theory.terminal t

-- a right side of the expansion under names
abbrev pub theory_side : (Nonterminal → Text) → RightSide → List theory.Symbol
theory_side name_of side = map theory_symbol (rename_side name_of side)

-- The production is that of the nonterminal with this label, where these nonterminals are inlined: under the names, and by its
-- action. Where it stands is free.
pub record StandsForInlined (g : EnabledGrammar) (In : Nonterminal → Type 0) (name_of : Nonterminal → Text)
    (label_of : ℕ → Label Nonterminal Origin) (p : theory.Production) (x : Nonterminal) (label : Label Nonterminal Origin)
    (side : RightSide) : Type 0 where
  pub in_expansion : InExpansion g x
  pub produced : Inlines (Produces g) In x label side
  pub left_is : p.left ≡ name_of x
  pub right_is : p.right ≡ map theory_symbol (map (rename_symbol name_of) side)
  pub label_is : label_of p.action ≡ label

-- The productions are those of the expansion where these nonterminals are inlined: there are names for its nonterminals and a label
-- for each action, and each label of a nonterminal of the expansion has one production. Productions of equal symbols stay apart
-- where their labels differ, so each has an action of its own.
pub record AreInlinedExpansion (g : EnabledGrammar) (In : Nonterminal → Type 0) (prefix : Text) (G : theory.Production → Type 0) :
    Type 0 where
  pub name_of : Nonterminal → Text
  pub naming : IsNaming (leveled_key_text g) prefix g name_of
  pub label_of : ℕ → Label Nonterminal Origin
  pub every : (x : Nonterminal) (label : Label Nonterminal Origin) (side : RightSide) → InExpansion g x
      → Inlines (Produces g) In x label side
      → (p : theory.Production) × G p × StandsForInlined g In name_of label_of p x label side
  pub no_other : (p : theory.Production) → G p
      → (x : Nonterminal) × (label : Label Nonterminal Origin) × (side : RightSide)
      × StandsForInlined g In name_of label_of p x label side
  pub once : (p q : theory.Production) → G p → G q → label_of p.action ≡ label_of q.action → p ≡ q

-- those of the expansion after inlining
abbrev pub AreExpansion : EnabledGrammar → Text → (theory.Production → Type 0) → Type 0
AreExpansion g prefix G = AreInlinedExpansion g (IsInlined g) prefix G

-- those before inlining
abbrev pub AreBaseExpansion : EnabledGrammar → Text → (theory.Production → Type 0) → Type 0
AreBaseExpansion g prefix G = AreInlinedExpansion g (λ x. ⊥) prefix G

-- Barren nonterminals of a grammar's expansion, before inlining: what the written start reaches, and which name is told.
use Rattle.std.specs.Prelude.{◌≡◌, ◌⊎◌, []}
use Rattle.std.specs.Cmp.Lexicographic.{slice_cmp}
use Rattle.std.specs.Ordering.{nat_cmp}
use Rattle.std.specs.declared.cmp.Ordering.TheVariants.{Less}
use Rattle.lalrpop_grammar_symbols.specs.Symbols.{Text, Closed, Closeds}
use Rattle.lalrpop_grammar.specs.WrittenGrammar.{Origin}
use Rattle.lalrpop_grammar_language.specs.Among.{Among}
use Rattle.lalrpop_grammar_language.specs.Enabled.{EnabledGrammar, EnabledRule, IsRule}
use Rattle.lalrpop_grammar_language.specs.Levels.{loosest}
use Rattle.lalrpop_grammar_language.specs.Expansion.{GrammarSymbol, Nonterminal, RightSide, Produces}
use Rattle.lalrpop_grammar_language.specs.Derivations.{Derivation, IsDerivationOf}
use Rattle.lalrpop_norm_theory.specs.Keys.{leveled_key_text}
use Rattle.lalrpop_norm_theory.specs.NamesByUse.{IsNamingByUse}

-- the nonterminals that one reaches along productions
pub data IsReachedFrom (g : EnabledGrammar) (from : Nonterminal) : Nonterminal → Type 0 where
  itself : IsReachedFrom g from from
  onward : (x : Nonterminal) (o : Origin) (side : RightSide) (y : Nonterminal) → IsReachedFrom g from x → Produces g x o side
      → Among side (GrammarSymbol.nonterminal y) → IsReachedFrom g from y

-- The nonterminal is the written start: the rule of that name, at its loosest level. It is no macro.
pub record IsWrittenStart (g : EnabledGrammar) (start : Text) (x : Nonterminal) : Type 0 where
  pub rule : EnabledRule
  pub is_rule : IsRule g start rule
  pub no_macro : rule.parameters ≡ []
  pub start_is : x ≡ Nonterminal.closed (Closed.call start Closeds.none (loosest rule))

-- The written start reaches the nonterminal, and no finite derivation has it at its root.
pub record IsBarrenFrom (g : EnabledGrammar) (start : Text) (x : Nonterminal) : Type 0 where
  pub from : Nonterminal
  pub is_start : IsWrittenStart g start from
  pub reached : IsReachedFrom g from x
  pub barren : (d : Derivation) → IsDerivationOf g (GrammarSymbol.nonterminal x) d → ⊥

-- none that the written start reaches is barren: each has a derivation
abbrev pub HasNoBarren : EnabledGrammar → Text → Type 0
HasNoBarren g start =
    (from x : Nonterminal) → IsWrittenStart g start from → IsReachedFrom g from x →
    (d : Derivation) × IsDerivationOf g (GrammarSymbol.nonterminal x) d

-- Under these names, the name is that of a barren nonterminal, and each other barren one has a greater name.
pub record IsLeastBarrenUnder (g : EnabledGrammar) (name_of : Nonterminal → Text) (start : Text) (name : Text) : Type 0 where
  pub nonterminal : Nonterminal
  pub is_barren : IsBarrenFrom g start nonterminal
  pub name_is : name_of nonterminal ≡ name
  pub least : (x : Nonterminal) → IsBarrenFrom g start x → (name_of x ≡ name) ⊎ (slice_cmp nat_cmp name (name_of x) ≡ Less)

-- it is so under names that are given in order of first use
pub record IsLeastBarrenName (g : EnabledGrammar) (prefix : Text) (start : Text) (name : Text) : Type 0 where
  pub name_of : Nonterminal → Text
  pub naming : IsNamingByUse (leveled_key_text g) prefix g name_of
  pub told : IsLeastBarrenUnder g name_of start name

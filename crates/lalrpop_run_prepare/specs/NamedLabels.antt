-- Labels over names and numbers of actions as labels over closed symbols and written choices, and what names and numbers have to be
-- for that; for the law on inlined grammars.
use Rattle.std.specs.Prelude.{◌≡◌, ◌↔◌}
use Rattle.lalrpop_grammar_language.specs.Among.{Among}
use Rattle.lalrpop_grammar_language.specs.Expansion.{GrammarSymbol}
use Rattle.lalrpop_norm_theory.specs.Same.{rename_side}
use Rattle.lalrpop_grammar_language.specs.Labels.{GrammarSymbols, BaseProductions, Label, Inlinings}

-- a label with each choice of the one kind as one of the other, each beside its nonterminal
abbrev mutual
  pub label_back : {N C T D : Type 0} → (D → N × C) → Label T D → Label N C
  label_back back (Label.choose n d inlinings) = Label.choose (back d).0 (back d).1 (inlinings_back back inlinings)

  pub inlinings_back : {N C T D : Type 0} → (D → N × C) → Inlinings T D → Inlinings N C
  inlinings_back back Inlinings.none = Inlinings.none
  inlinings_back back (Inlinings.kept inlinings) = Inlinings.kept (inlinings_back back inlinings)
  inlinings_back back (Inlinings.inlined label inlinings) =
      Inlinings.inlined (label_back back label) (inlinings_back back inlinings)

-- A production under a name is that of the nonterminal and the choice that its own choice tells.
pub record IsProductionBack (N : Type 0) (C : Type 0) (T : Type 0) (M : BaseProductions N C) (Known : N → Type 0) (name_of : N → T)
    (source : N × C) (n : T) (side : GrammarSymbols T) : Type 0 where
  pub known : Known source.0
  pub name_is : n ≡ name_of source.0
  pub from : GrammarSymbols N
  pub produced : M source.0 source.1 from
  pub side_is : side ≡ rename_side name_of from

-- The one productions are the others under names, for the nonterminals that are known: no two of these share a name, what their
-- productions name is known too, each choice under a name tells the nonterminal and its choice, and the same are inlined.
pub record AreNamedProductions (N : Type 0) (C : Type 0) (T : Type 0) (D : Type 0) (M : BaseProductions N C) (In : N → Type 0)
    (Known : N → Type 0) (L : BaseProductions T D) (InNamed : T → Type 0) (name_of : N → T) (back : D → N × C) : Type 0 where
  pub known : (x : N) (choice : C) (side : GrammarSymbols N) → Known x → M x choice side
      → (y : N) → Among side (GrammarSymbol.nonterminal y) → Known y
  pub apart : (x y : N) → Known x → Known y → name_of x ≡ name_of y → x ≡ y
  pub every : (x : N) (choice : C) (side : GrammarSymbols N) → Known x → M x choice side
      → (d : D) × L (name_of x) d (rename_side name_of side) × (back d ≡ (x, choice))
  pub no_other : (n : T) (d : D) (side : GrammarSymbols T) → L n d side
      → IsProductionBack N C T M Known name_of (back d) n side
  pub once : (n m : T) (d e : D) (side other : GrammarSymbols T) → L n d side → L m e other → back d ≡ back e → d ≡ e
  pub inlined : (x : N) → Known x → In x ↔ InNamed (name_of x)

-- A private rule of added alternatives is the rule of a repeat, a group or a lookaround; for the functions that write such rules.
use Rattle.std.proofs.Common.{◌≡◌, List, [], ap, sym, subst}
use Rattle.std.specs.Prelude.{Option, false}
use Rattle.lalrpop_grammar_symbols.specs.Symbols.{Text, TextSpan, Closed}
use Rattle.lalrpop_grammar.specs.WrittenGrammar.{Alternative, Rule, Ty}
use Rattle.lalrpop_norm_macros.specs.AddedRules.{AreAddedAlternatives, IsAddedType, added_choices, inline_attributes, is_added_inlined}
use Rattle.lalrpop_norm_macros.specs.KeyDeclarations.{IsRepeatTypeUnder}
use Rattle.lalrpop_norm_macros.specs.KeyNaming.{AreSymbolsFor}
use Rattle.lalrpop_norm_macros.specs.RulesUnder.{IsAddedRuleUnder}
use Rattle.lalrpop_norm_macros.specs.declared.key_symbols.names.KeyNames.{KeyNames}

-- a private rule without parameters, with the key's type and alternatives, is the added rule of the key
pub added_rule : (k : KeyNames) (x : Closed) (n : Text) (p : TextSpan) (declared : Option Ty) (alternatives : List Alternative) (q : Rule)
    → q ≡ record {
      public = false;
      name = n;
      attributes = inline_attributes p (is_added_inlined x);
      span = p;
      parameters = [];
      declared = declared;
      alternatives = alternatives;
    } → IsAddedType (IsRepeatTypeUnder k) x declared → AreAddedAlternatives (AreSymbolsFor k) p (added_choices x) alternatives
    → IsAddedRuleUnder k x n p q
added_rule k x n p declared alternatives q e d a = record {
  name = ap (λ (r : Rule). r.name) e;
  private = ap (λ (r : Rule). r.public) e;
  attributes = ap (λ (r : Rule). r.attributes) e;
  span = ap (λ (r : Rule). r.span) e;
  parameters = ap (λ (r : Rule). r.parameters) e;
  declared = subst (IsAddedType (IsRepeatTypeUnder k) x) (sym (ap (λ (r : Rule). r.declared) e)) d;
  alternatives = subst (AreAddedAlternatives (AreSymbolsFor k) p (added_choices x)) (sym (ap (λ (r : Rule). r.alternatives) e)) a;
}

-- Places of calls in what is left under the features are places in the written grammar; for the law of places.
use Rattle.std.proofs.Common.{ℕ, List, refl, ap, sym, Bool}
use Rattle.std.specs.Prelude.{Option}
use Rattle.lalrpop_grammar_symbols.specs.Symbols.{Text, Sym, WrittenSymbol, TextSpan, Closed}
use Rattle.lalrpop_grammar.specs.WrittenGrammar.{Grammar}
use Rattle.lalrpop_grammar_language.specs.Enabled.{EnabledGrammar, enabled_grammar}
use Rattle.lalrpop_grammar_language.specs.Closing.{parameter_value, name_or}
use Rattle.lalrpop_grammar_language.specs.Admitting.{bind}
use Rattle.lalrpop_norm_theory.specs.Between.{grammar_between, without_cfg}
use Rattle.lalrpop_norm_theory.specs.Between.{without_disabled}
use Rattle.lalrpop_norm_theory.specs.Premises.{IsReadGrammar}
use Rattle.lalrpop_norm_theory.proofs.BetweenLemmas.{rules_left, bares_left}
use Rattle.lalrpop_norm_theory.proofs.RuleChangeLemmas.{RuleChange, HasChangedRules}
use Rattle.lalrpop_norm_theory.proofs.ClosedNameLemmas.{name_closed, listed_stay}
use Rattle.lalrpop_norm_theory.specs.WrittenPlaces.{IsWrittenBelow, IsWrittenPlace}
use Rattle.lalrpop_norm_theory.proofs.ReplacedNameLemmas.{ReplacesNames, written_before}
use Rattle.lalrpop_norm_theory.proofs.DroppingLemmas.{name_left, keeps_ranks}

-- dropping, as a change of rules in which each name stands for itself

abbrev pub cfg_change : RuleChange
cfg_change = record { declared = λ r. r.declared; expr = λ r c. c.expr; attributes = without_cfg }

abbrev name_itself : TextSpan → Text → WrittenSymbol
name_itself p n = Sym.ambiguous_id p n

module _ (finds : Text → Text → Option Bool) (features : List Text) (w : Grammar) (read : IsReadGrammar w) where
  abbrev before : EnabledGrammar
  before = enabled_grammar finds features w

  abbrev after : EnabledGrammar
  after = grammar_between finds (without_disabled features w)

  pub changed : HasChangedRules cfg_change before after
  changed = record {
    rules = rules_left features w.items read.items;
    bares = bares_left features w.items;
    finds = refl;
    spelled = λ i n. name_left features w.items read.items n i;
    ranks = keeps_ranks;
  }

  abbrev pub replaces : ReplacesNames cfg_change before after
  replaces = record {
    changed = changed;
    by = λ r. name_itself;
    alone = λ r. record { placed = λ p n. refl; alone = λ b o k p n. refl };
    expr_is = λ r c. sym (listed_stay name_itself c.expr (λ q m j. refl));
    counts = λ n r i args q m. refl;
    closes = λ n r i args e j q m.
        ap (name_or (parameter_value (bind r args) m)) (name_closed cfg_change before after changed (bind r args) r.name e j m);
  }

  -- a place in what is left is one in the written grammar
  pub dropped_place : (depth : ℕ) (x : Closed) (p : TextSpan) → IsWrittenBelow after (without_disabled features w) depth x p →
      IsWrittenPlace finds features w depth x p
  dropped_place depth x p h =
      written_before cfg_change before after replaces (without_disabled features w) (without_disabled features w)
      (λ q i. (q, i, refl, refl)) depth x p h

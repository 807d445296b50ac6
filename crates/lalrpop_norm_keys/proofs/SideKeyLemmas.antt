-- The keys of one more alternative; for the walk over a rule.
use Rattle.std.proofs.Common.{ℕ, ◌+◌, List, [], ◌∷◌, subst}
use Rattle.std.specs.Prelude.{Option, Some, None}
use Rattle.lalrpop_grammar_symbols.specs.Symbols.{Text}
use Rattle.lalrpop_grammar_language.specs.Enabled.{EnabledGrammar, EnabledRule}
use Rattle.lalrpop_grammar_language.specs.Closing.{Binding}
use Rattle.lalrpop_grammar_rules.specs.declared.rule.Choice as program
use Rattle.lalrpop_norm_keys.specs.Instances.{kept_from}
use Rattle.lalrpop_norm_keys.specs.GrammarPlaces.{PutsMetInChoices}
use Rattle.lalrpop_norm_keys.specs.MetKeys.{MetKey}

-- the keys of an alternative are met, and then those of the ones behind it: so are those of all of them
pub met_next : (g : EnabledGrammar) (r : EnabledRule) (b : Binding) (n : Text) (k : ℕ) (o : Option program.Choice)
    (cs : List (Option program.Choice)) (old mid new : List MetKey) → PutsMetInChoices g r b (kept_from n 0 (o ∷ [])) old mid
    → PutsMetInChoices g r b (kept_from n (k + 1) cs) mid new → PutsMetInChoices g r b (kept_from n k (o ∷ cs)) old new
met_next g r b n k None cs old mid new e w = subst (λ l. PutsMetInChoices g r b (kept_from n (k + 1) cs) l new) e w
met_next g r b n k (Some c) cs old mid new (next, a, e) w =
    (next, a, subst (λ l. PutsMetInChoices g r b (kept_from n (k + 1) cs) l new) e w)

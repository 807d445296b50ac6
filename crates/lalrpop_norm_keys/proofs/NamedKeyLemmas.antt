-- Places of keys go back over resolving names and over what the features disable; for the laws of names and features.
use Rattle.std.proofs.Common.{◌≡◌, List, refl, Bool}
use Rattle.std.specs.Prelude.{Option}
use Rattle.lalrpop_grammar_symbols.specs.Symbols.{Text, TextSpan, Closed}
use Rattle.lalrpop_grammar.specs.WrittenGrammar.{Grammar}
use Rattle.lalrpop_grammar_language.specs.Enabled.{EnabledRule, enabled_grammar}
use Rattle.lalrpop_norm_theory.specs.Between.{grammar_between, without_disabled}
use Rattle.lalrpop_norm_theory.specs.Premises.{IsReadGrammar}
use Rattle.lalrpop_norm_theory.specs.KeyTables.{keys_in}
use Rattle.lalrpop_norm_theory.specs.Resolving.{NameUse, defined_names, resolved_grammar, resolved_name, use_of_name}
use Rattle.lalrpop_norm_theory.proofs.ResolvedPlaceLemmas.{replacement, replaces}
use Rattle.lalrpop_norm_theory.proofs.ResolvingLemmas.{name_change}
use Rattle.lalrpop_norm_theory.proofs.DroppedPlaceLemmas as dropped
use Rattle.lalrpop_norm_keys.specs.MetKeys.{all_met_at, keys_met}
use Rattle.lalrpop_norm_keys.specs.KeyPlaces.{IsKeyPlace, IsWrittenKeyPlace}
use Rattle.lalrpop_norm_keys.proofs.ReplacedKeyLemmas.{MeetsAlone, key_place_before}

-- what a name is resolved to meets its keys where the name stands
use_meets : (u : NameUse) (p : TextSpan) (n : Text) (c : Closed) → keys_met (resolved_name u p n) c ≡ all_met_at p (keys_in c)
use_meets NameUse.parameter p n c = refl
use_meets NameUse.plain_rule p n c = refl
use_meets NameUse.macro_rule p n c = refl
use_meets NameUse.mapped p n c = refl
use_meets NameUse.nothing p n c = refl

-- a key's place in the grammar with resolved names is one in the grammar before
pub resolved_key_place : (finds : Text → Text → Option Bool) (g : Grammar) (x : Closed) (p : TextSpan) →
    IsKeyPlace (grammar_between finds (resolved_grammar g)) x p → IsKeyPlace (grammar_between finds g) x p
resolved_key_place finds g x p h =
    key_place_before (name_change (defined_names g)) (grammar_between finds g) (grammar_between finds (resolved_grammar g))
    (replaces finds g) alone x p h
  where
    alone : (r : EnabledRule) → MeetsAlone (replacement finds g r)
    alone r q n c = use_meets (use_of_name (defined_names g) r.parameters n) q n c

-- a key's place in the grammar without what is disabled is one in the written grammar
pub dropped_key_place : (finds : Text → Text → Option Bool) (features : List Text) (w : Grammar) → IsReadGrammar w → (x : Closed)
    (p : TextSpan) → IsKeyPlace (grammar_between finds (without_disabled features w)) x p → IsWrittenKeyPlace finds features w x p
dropped_key_place finds features w read x p h =
    key_place_before dropped.cfg_change (enabled_grammar finds features w) (grammar_between finds (without_disabled features w))
    (dropped.replaces finds features w read) (λ r q n c. refl) x p h

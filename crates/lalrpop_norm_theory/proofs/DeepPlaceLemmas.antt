-- A call that is too deep after the passes is one in the written grammar, with its place; for the law of such calls.
use Rattle.std.proofs.Common.{ℕ, suc, sym, subst, Bool, List}
use Rattle.std.specs.Prelude.{Option}
use Rattle.lalrpop_grammar_symbols.specs.Symbols.{Text, TextSpan, Closed}
use Rattle.lalrpop_grammar.specs.WrittenGrammar.{Grammar}
use Rattle.lalrpop_grammar_language.specs.Enabled.{enabled_grammar}
use Rattle.lalrpop_norm_theory.specs.Between.{grammar_between, without_disabled}
use Rattle.lalrpop_norm_theory.specs.Depth.{HasCallChain, IsTooDeep}
use Rattle.lalrpop_norm_theory.specs.Premises.{IsReadGrammar}
use Rattle.lalrpop_norm_theory.specs.LevelRules.{by_level_names}
use Rattle.lalrpop_norm_theory.specs.Resolving.{resolved_grammar}
use Rattle.lalrpop_norm_theory.proofs.DroppingLemmas.{dropping_chains}
use Rattle.lalrpop_norm_theory.proofs.ResolvingLemmas.{resolving_chains}
use Rattle.lalrpop_norm_theory.specs.LeveledGrammar.{leveled_grammar}
use Rattle.lalrpop_norm_theory.specs.LevelLaws.{IsLevelable}
use Rattle.lalrpop_norm_theory.proofs.ChainLemmas.{same_chains}
use Rattle.lalrpop_norm_theory.specs.CallPlaces.{IsPlaceBelow}
use Rattle.lalrpop_norm_theory.specs.WrittenPlaces.{IsWrittenPlace}
use Rattle.lalrpop_norm_theory.proofs.OccurringLemmas.{written_made}
use Rattle.lalrpop_norm_theory.proofs.LevelBackLemmas.{leveled_place}
use Rattle.lalrpop_norm_theory.proofs.ResolvedPlaceLemmas.{resolved_place}
use Rattle.lalrpop_norm_theory.proofs.DroppedPlaceLemmas.{dropped_place}

module _ (finds : Text → Text → Option Bool) (features : List Text) (w : Grammar) (f : Text → ℕ → Text) (read : IsReadGrammar w)
    (levelable : IsLevelable finds (resolved_grammar (without_disabled features w)) f) where
  abbrev left : Grammar
  left = without_disabled features w

  abbrev leveled : Grammar
  leveled = leveled_grammar f (resolved_grammar left)

  -- chains of calls lead to the renamed call too
  chain_there : (k : ℕ) (x : Closed) → HasCallChain (enabled_grammar finds features w) k x →
      HasCallChain (grammar_between finds leveled) k (by_level_names f x)
  chain_there k x c =
      (same_chains finds (resolved_grammar left) f levelable).there k x
      ((resolving_chains finds left k x).0 ((dropping_chains finds features w read k x).0 c))

  pub deep_call_written : (limit : ℕ) (y : Closed) (p : TextSpan) → IsTooDeep (grammar_between finds leveled) limit y →
      IsPlaceBelow (grammar_between finds leveled) limit y p →
      (x : Closed) × IsTooDeep (enabled_grammar finds features w) limit x × IsWrittenPlace finds features w limit x p
  deep_call_written limit y p deep place =
      let u = leveled_place finds (resolved_grammar left) f levelable limit y p place in
      let there : IsWrittenPlace finds features w limit u.0 p =
      dropped_place finds features w read limit u.0 p (resolved_place finds left limit u.0 p u.2) in (
        u.0,
        record {
          steps = suc limit;
          chain = written_made (enabled_grammar finds features w) left limit u.0 p there;
          none_short = λ k le c. deep.none_short k le
              (subst (λ (v : Closed). HasCallChain (grammar_between finds leveled) k v) (sym u.1) (chain_there k u.0 c));
        },
        there,
      )

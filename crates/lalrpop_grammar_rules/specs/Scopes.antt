-- What parameters stand for and where symbols are closed, as definitions see it.
use Rattle.std.specs.Prelude.{◌≡◌, ℕ, Option, Some, None, map, if◌then◌else◌}
use Rattle.lalrpop_grammar_symbols.specs.Symbols.{Closed}
use Rattle.lalrpop_grammar_language.specs.Closing as pure
use Rattle.lalrpop_grammar_language.specs.Closing.{are_sound}
use Rattle.lalrpop_grammar_language.specs.Levels.{Rank, reaches}
use Rattle.lalrpop_grammar_rules.specs.Ranks.{assoc_view}
use Rattle.lalrpop_grammar_rules.specs.RuleTable.{rules_view}
use Rattle.lalrpop_grammar_rules.specs.Views.{binding_of, closed_view, closeds}
use Rattle.lalrpop_grammar_rules.specs.declared.closed.binding.Binding.{Binding}
use Rattle.lalrpop_grammar_rules.specs.declared.closed.binding.Bound.{Bound}
use Rattle.lalrpop_grammar_rules.specs.declared.closed.binding.Bound.TheVariants as bounds
use Rattle.lalrpop_grammar_rules.specs.declared.closed.closing.Scope.{Scope}

abbrev pub binding_view : Binding → pure.Binding
binding_view b = binding_of b.parameters.now b.args.now

abbrev pub bound_view : Bound → Option Closed
bound_view bounds.Free = None
bound_view (bounds.To c) = Some (closed_view c.now)
bound_view bounds.Unclear = Some Closed.faulty

-- the level that occurrence k of the owner may have
abbrev pub level_view : Scope → ℕ → Option ℕ
level_view s k = if reaches (assoc_view s.side) s.count k then s.reached else s.others

-- it is noted rightly whether no part of what the parameters stand for is faulty
abbrev pub KnowsSound : Scope → Type 0
KnowsSound s = s.has_sound_args ≡ are_sound (closeds (map closed_view s.binding.args.now))

abbrev pub scope_view : Scope → pure.Scope
scope_view s = record {
  grammar = rules_view s.rules.now;
  binding = binding_view s.binding;
  owner = s.owner.now;
  level_at = level_view s;
}

-- the level that occurrence k of n may have, by the loosest level and the next tighter one
abbrev pub allowed_level_by : Option ℕ → Option Rank → Option ℕ → ℕ → ℕ → Option ℕ
allowed_level_by loosest None tighter n k = loosest
allowed_level_by loosest (Some r) None n k = loosest
allowed_level_by loosest (Some r) (Some t) n k = if reaches r.side n k then Some r.level else Some t

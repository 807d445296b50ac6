-- The passes one after the other, with what each promises of the grammar that it got; for the chain of all passes.
use Rattle.std.specs.Prelude.{◌≡◌, ◌⊎◌, Bool, List, Option, None, map}
use Rattle.lalrpop_grammar_symbols.specs.Symbols.{Text, Closed, Closeds}
use Rattle.lalrpop_grammar_symbols.specs.declared.names.NonterminalString.{NonterminalString}
use Rattle.lalrpop_grammar.specs.WrittenGrammar.{Alternative, Rule, Grammar, rules_of}
use Rattle.lalrpop_grammar_language.specs.Among.{Among}
use Rattle.lalrpop_grammar_language.specs.Expansion.{Nonterminal}
use Rattle.lalrpop_grammar.specs.declared.types.type_repr.TypeRepr.{TypeRepr}
use Rattle.lalrpop_norm_theory.specs.Between.{grammar_between, without_disabled}
use Rattle.lalrpop_norm_theory.specs.Premises.{IsReadGrammar, IsExpanded}
use Rattle.lalrpop_norm_theory.specs.Keys.{flat_key_text}
use Rattle.lalrpop_norm_theory.specs.NamesByUse.{IsNamingByUse}
use Rattle.lalrpop_norm_theory.specs.UsedKeys.{IsListByUse}
use Rattle.lalrpop_norm_theory.specs.KeyRules.{IsMacroExpansion}
use Rattle.lalrpop_norm_theory.specs.KeyTypes.{DeclareKeyTypes}
use Rattle.lalrpop_norm_theory.specs.NameFaults.{HasRightNames}
use Rattle.lalrpop_norm_theory.specs.LevelFaults.{HasRightLevels}
use Rattle.lalrpop_norm_precedence.specs.LevelExpansions.{IsLevelExpansion}
use Rattle.lalrpop_norm_keys.specs.KeyPlaces.{IsKeyPlace, IsShapeKey}
use Rattle.lalrpop_norm_token_check.specs.Blocks.{block_groups}
use Rattle.lalrpop_norm_token_check.specs.Checked.{IsTokenChecked}
use Rattle.lalrpop_norm_token_check.specs.Places.{FirstPlaces}
use Rattle.lalrpop_norm_tyinfer.specs.TypeFaults.{HasRuleTypes}
use Rattle.lalrpop_norm_chain.specs.PremiseLaws.{resolved_part, entries_of_items}
use Rattle.lalrpop_norm_chain.specs.Lowered.{LoweredGrammar, IsLoweredFrom}
use Rattle.lalrpop_norm_chain.specs.OwnAttributes.{added_attributes}
use Rattle.lalrpop_norm_chain.specs.Spans.{IsAddedOrigin, IsMadeFrom}

-- What the pass over macros makes of a leveled grammar: a rule for each key under a name of its own. All else stays.
pub record IsMacroResult (finds : Text → Text → Option Bool) (g made : Grammar) : Type 0 where
  pub key_of : Closed → Text
  pub keys : List Closed
  pub expansion : IsMacroExpansion (grammar_between finds g) (grammar_between finds made) key_of keys
  pub types : DeclareKeyTypes (grammar_between finds g) (grammar_between finds made) key_of keys
  pub expanded : IsExpanded (grammar_between finds made)
  -- the keys' names, with those of starts, are names of the expansion, given in order of first use
  pub name_of : Nonterminal → Text
  pub naming : IsNamingByUse flat_key_text g.prefix (grammar_between finds g) name_of
  pub named : (x : Closed) → Among keys x → name_of (Nonterminal.closed x) ≡ key_of x
  -- the rule of a rule or of an instance stands where its rule does
  pub rule_spans : (n : Text) (args : Closeds) (q : Rule) → Among keys (Closed.call n args None) → Among (rules_of made.items) q
      → q.name ≡ key_of (Closed.call n args None)
      → (r : Rule) × Among (rules_of g.items) r × (r.name ≡ n) × (q.span ≡ r.span)
  -- that of a repeat, a group or a lookaround stands where this is met
  pub key_spans : (x : Closed) (q : Rule) → IsShapeKey x → Among keys x → Among (rules_of made.items) q → q.name ≡ key_of x
      → IsKeyPlace (grammar_between finds g) x q.span
  -- they have the attributes of their rule, and those of a repeat, a group and a lookaround say at most that it is inlined
  pub rule_attributes : (n : Text) (args : Closeds) (q : Rule) → Among keys (Closed.call n args None) → Among (rules_of made.items) q
      → q.name ≡ key_of (Closed.call n args None)
      → (r : Rule) × Among (rules_of g.items) r × (r.name ≡ n) × (q.attributes ≡ r.attributes)
  pub key_attributes : (x : Closed) (q : Rule) → IsShapeKey x → Among keys x → Among (rules_of made.items) q → q.name ≡ key_of x
      → q.attributes ≡ added_attributes q.span x
  -- alternatives of a rule or of an instance stand where they do before; others stand where their rule does
  pub alternative_spans : (q : Rule) (b : Alternative) → Among (rules_of made.items) q → Among q.alternatives b
      → IsMadeFrom (rules_of g.items) q b ⊎ (b.span ≡ q.span) × IsAddedOrigin b.origin
  -- the keys are in order of first use, and the rules stand in that order
  pub in_order : IsListByUse (grammar_between finds g) keys
  pub rule_order : map (λ q. q.name) (rules_of made.items) ≡ map key_of keys
  pub span : made.span ≡ g.span
  pub prefix : made.prefix ≡ g.prefix
  pub attributes : made.attributes ≡ g.attributes
  pub block : block_groups made.items ≡ block_groups g.items
  pub entries : entries_of_items made.items ≡ entries_of_items g.items

-- The passes over what is disabled, names, levels and macros, on a grammar that was read.
pub record IsMacroChain (finds : Text → Text → Option Bool) (features : List Text) (w leveled expanded : Grammar) : Type 0 where
  pub read : IsReadGrammar w
  pub right_names : HasRightNames (without_disabled features w)
  pub right_levels : HasRightLevels (resolved_part features w)
  pub levels : IsLevelExpansion finds (resolved_part features w) leveled
  pub macros : IsMacroResult finds leveled expanded

-- And those over tokens and types, and lowering.
pub record IsChain (finds : Text → Text → Option Bool) (features : List Text) (w : Grammar) (v : LoweredGrammar) : Type 0 where
  pub leveled : Grammar
  pub expanded : Grammar
  pub front : IsMacroChain finds features w leveled expanded
  pub first : FirstPlaces
  pub checked : Grammar
  pub tokens : IsTokenChecked first expanded checked
  pub inferred : List (NonterminalString × TypeRepr)
  pub types : HasRuleTypes (grammar_between finds checked) (rules_of checked.items) inferred
  pub lowered : IsLoweredFrom checked (grammar_between finds checked) inferred v

-- The names that are given to all keys of a grammar, and calls with arguments as they are seen; for the functions that name keys.
use Rattle.std.proofs.Common.{◌≡◌, ◌≤◌, ◌∷◌, ◌∙◌, List, [], refl, ap, sym, subst, length, arith}
use Rattle.std.specs.Prelude.{ℕ, Bool, Option, None, map}
use Rattle.lalrpop_grammar_symbols.specs.Symbols.{Text, Closed}
use Rattle.lalrpop_grammar_symbols.specs.declared.atom.Atom.{Atom}
use Rattle.lalrpop_grammar.specs.WrittenGrammar.{Grammar, Rule, rules_of}
use Rattle.lalrpop_grammar_rules.specs.Views.{closed_view, closeds}
use Rattle.lalrpop_grammar_rules.specs.declared.closed.closed_symbol.ClosedSymbol.{ClosedSymbol}
use Rattle.lalrpop_grammar_rules.specs.declared.closed.closed_symbol.ClosedSymbol.TheVariants as variant
use Rattle.lalrpop_grammar_rules.proofs.CallLemmas.{seen-Call}
use Rattle.lalrpop_norm_theory.specs.Between.{grammar_between, rule_between}
use Rattle.lalrpop_norm_keys.specs.Tables.{HasEachOnce}
use Rattle.lalrpop_norm_theory.specs.LevelNames.{times_taken}
use Rattle.lalrpop_norm_precedence.specs.GivenNames.{Times}
use Rattle.lalrpop_norm_precedence.specs.TakenTimes.{AreSmallTimes}
use Rattle.lalrpop_norm_precedence.proofs.TakenLemmas.{same_times}
use Rattle.lalrpop_norm_macros.specs.KeyNames.{HasFoundKeys, HoldKeyNames, IsNameable, times_by_rules}
use Rattle.lalrpop_norm_macros.specs.OrderedNames.{key_names_from, rule_alone, rule_text, rule_texts, taken_behind_keys}
use Rattle.lalrpop_norm_macros.proofs.FoundLemmas.{table_alone, table_ends}
use Rattle.lalrpop_norm_macros.proofs.NamingLemmas.{names_hold}
use Rattle.lalrpop_norm_macros.proofs.RuleTextLemmas.{text_of}

-- a call with arguments is no rule alone
pub argued_call : (key : ClosedSymbol) (n : Atom) (args ys : List ClosedSymbol) (level : Option ℕ) →
    key ≡ variant.Call n args level →
    ys ≡ args → 1 ≤ length ys → None ≡ rule_alone (closed_view key)
argued_call key n args ys level is same some =
    sym (ap (λ k. rule_alone (closed_view k)) is ∙ ap rule_alone (seen-Call n args level)
    ∙ go args (subst (λ l. 1 ≤ length l) same some))
  where
    go : (xs : List ClosedSymbol) → 1 ≤ length xs → rule_alone (Closed.call n (closeds (map closed_view xs)) level) ≡ None
    go [] lt = absurd (let wrong : 1 ≤ 0 = lt in omega (arith, wrong))
    go (x ∷ xs) lt = refl

-- the rules of a grammar between passes take the texts of the written ones
pub texts_between : (rs : List Rule) → rule_texts rs ≡ map text_of (map rule_between rs)
texts_between [] = refl
texts_between (r ∷ rs) = ap (λ l. rule_text r.parameters r.name ∷ l) (texts_between rs)

module _ (finds : Text → Text → Option Bool) (g : Grammar) (keys given : List Closed) (taken last : Times) (names : List Text)
    (same : given ≡ keys) (at_first : (t : Text) → taken t ≡ times_taken t (rule_texts (rules_of g.items)))
    (once : HasEachOnce keys) (w : IsNameable (grammar_between finds g)) (found : HasFoundKeys (grammar_between finds g) keys)
    (made : names ≡ key_names_from taken given) (at_last : last ≡ taken_behind_keys taken given) (small : AreSmallTimes last) where
  by_rules : taken ≡ times_by_rules (grammar_between finds g)
  by_rules =
      same_times taken (times_by_rules (grammar_between finds g))
      (λ t. at_first t ∙ ap (times_taken t) (texts_between (rules_of g.items)))

  -- these names hold
  pub names_of_found : HoldKeyNames (grammar_between finds g) keys names
  names_of_found =
      subst (HoldKeyNames (grammar_between finds g) keys)
      (sym (made ∙ ap (key_names_from taken) same ∙ ap (λ times. key_names_from times keys) by_rules))
      (names_hold (grammar_between finds g) keys w once found.table.plain (table_alone (grammar_between finds g) keys found)
      (table_ends (grammar_between finds g) keys found)
      (subst AreSmallTimes (at_last ∙ ap (taken_behind_keys taken) same ∙ ap (λ times. taken_behind_keys times keys) by_rules) small))

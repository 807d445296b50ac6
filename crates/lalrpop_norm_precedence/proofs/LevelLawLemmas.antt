-- What the laws of levels say of the grammar of the levels' rules, and of one without levels; for the pass.
use Rattle.std.proofs.Common.{◌≡◌, ℕ, Bool, false, List, [], ◌∷◌, refl, ap, subst, sym, ◌∙◌, cond, map, inl, inr}
use Rattle.std.specs.Prelude.{Option}
use Rattle.lalrpop_grammar_symbols.specs.Symbols.{Text}
use Rattle.lalrpop_grammar.specs.WrittenGrammar.{Grammar, Rule, rules_of}
use Rattle.lalrpop_grammar_language.specs.Among.{Among}
use Rattle.lalrpop_grammar_language.specs.Levels.{has_levels}
use Rattle.lalrpop_norm_theory.specs.Between.{rule_between}
use Rattle.lalrpop_grammar_language.proofs.AmongLemmas.{map_among}
use Rattle.lalrpop_norm_theory.proofs.LevelLemmas.{no_levels}
use Rattle.lalrpop_norm_theory.specs.LeveledGrammar.{falling_levels, leveled_grammar, levels_in_order}
use Rattle.lalrpop_norm_theory.specs.LevelFaults.{HasRightLevels}
use Rattle.lalrpop_norm_theory.specs.LevelLaws.{IsLevelable}
use Rattle.lalrpop_norm_theory.proofs.LevelExpansionLemmas.{levels_keep, levels_inline_alike}
use Rattle.lalrpop_norm_theory.proofs.LeveledRuleLemmas.{bares_of-leveled}
use Rattle.lalrpop_norm_theory.proofs.ResolvedLevelLemmas.{leveled_resolved}
use Rattle.lalrpop_norm_theory.proofs.LevelShapeLemmas.{leveled_flat, public_as_written, without_levels_stays}
use Rattle.lalrpop_norm_theory.proofs.PackedNameLemmas.{names_packed}
use Rattle.lalrpop_norm_precedence.specs.LevelTables.{AreNamedLevels, HoldLevelNames, levels_alone, named_level_view}
use Rattle.lalrpop_norm_precedence.specs.LevelTables.{named_levels, rule_levels_view}
use Rattle.lalrpop_norm_precedence.specs.declared.level_names.levels.NamedLevel.{NamedLevel}
use Rattle.lalrpop_norm_precedence.specs.declared.level_names.levels.RuleLevels.{RuleLevels}
use Rattle.lalrpop_norm_precedence.proofs.RuleByNameLemmas.{no_cons, same_first}
use Rattle.lalrpop_norm_precedence.specs.LevelExpansions.{HasPlainNames, IsLevelExpansion, StaysWithoutLevels}

-- the grammar of the levels' rules is a level expansion
expansion_of : (finds : Text → Text → Option Bool) (g : Grammar) (f : Text → ℕ → Text) → IsLevelable finds g f
    → HasPlainNames finds g → IsLevelExpansion finds g (leveled_grammar f g)
expansion_of finds g f w plain = record {
  names = f;
  are_names = w.names;
  value = refl;
  resolved = leveled_resolved finds g f w (bares_of-leveled f g.items);
  flat = λ q i. leveled_flat finds g f q i;
  expansion = λ tells. levels_keep finds g f w tells;
  inlined = λ x i. levels_inline_alike finds g f w x i;
  public = λ q i. public_as_written finds g f w q i;
  packed = names_packed finds g f w plain.rules;
}

-- and so is what was made by tables that hold names of levels
pub expanded_by_tables : (finds : Text → Text → Option Bool) (g made : Grammar) (tables : List RuleLevels) → HasRightLevels g
    → HasPlainNames finds g → HoldLevelNames g tables
    → ((f : Text → ℕ → Text) → AreNamedLevels f (rules_of g.items) tables → made ≡ leveled_grammar f g)
    → IsLevelExpansion finds g made
expanded_by_tables finds g made tables right plain hold value =
    subst (λ h. IsLevelExpansion finds g h) (sym (value hold.0 hold.2))
    (expansion_of finds g hold.0 (record { resolved = plain.resolved; right = right; names = hold.1 }) plain)

-- without levels

same_rest : {A : Type 0} (x y : A) (xs ys : List A) → x ∷ xs ≡ y ∷ ys → xs ≡ ys
same_rest x y xs ys e = cc

no_items : (ls : List NamedLevel) → map (λ l. l.level) ls ≡ [] → map named_level_view ls ≡ []
no_items [] e = refl
no_items (l ∷ ls) e = no_cons l.level (map (λ l. l.level) ls) (sym e)

-- a table without levels is that of a rule without levels, whatever the names
table_without : (f : Text → ℕ → Text) (r : Rule) (t : RuleLevels) → has_levels (rule_between r) ≡ false
    → levels_alone t ≡ levels_in_order (rule_between r) → rule_levels_view t ≡ named_levels f r
table_without f r t flat e =
    no_items t.levels.items (e ∙ ap falling_levels (no_levels (rule_between r) flat))
    ∙ sym (ap (λ b. cond b (map (λ j. (j, f r.name j)) (levels_in_order (rule_between r))) []) flat)

tables_without : (f : Text → ℕ → Text) (rs : List Rule) (ts : List RuleLevels)
    → ((r : Rule) → Among rs r → has_levels (rule_between r) ≡ false)
    → map levels_alone ts ≡ map (λ r. levels_in_order (rule_between r)) rs → AreNamedLevels f rs ts
tables_without f [] [] flat e = tt
tables_without f [] (t ∷ ts) flat e = no_cons (levels_alone t) (map levels_alone ts) (sym e)
tables_without f (r ∷ rs) [] flat e =
    no_cons (levels_in_order (rule_between r)) (map (λ q. levels_in_order (rule_between q)) rs) e
tables_without f (r ∷ rs) (t ∷ ts) flat e = (
  table_without f r t (flat r (inl refl))
      (same_first (levels_alone t) (levels_in_order (rule_between r)) (map levels_alone ts)
      (map (λ q. levels_in_order (rule_between q)) rs) e),
  tables_without f rs ts (λ q i. flat q (inr i))
      (same_rest (levels_alone t) (levels_in_order (rule_between r)) (map levels_alone ts)
      (map (λ q. levels_in_order (rule_between q)) rs) e),
)

-- so what was made by tables of levels in order is the grammar itself
pub stays_by_tables : (g made : Grammar) (tables : List RuleLevels)
    → map levels_alone tables ≡ map (λ r. levels_in_order (rule_between r)) (rules_of g.items)
    → ((f : Text → ℕ → Text) → AreNamedLevels f (rules_of g.items) tables → made ≡ leveled_grammar f g)
    → StaysWithoutLevels g made
stays_by_tables g made tables order value = λ finds flat.
    value (λ n j. n)
    (tables_without (λ n j. n) (rules_of g.items) tables
    (λ r i. flat (rule_between r) (map_among rule_between (rules_of g.items) r i)) order)
    ∙ without_levels_stays finds g (λ n j. n) flat

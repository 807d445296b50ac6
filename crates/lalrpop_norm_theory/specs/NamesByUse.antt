-- Names of the nonterminals of an expansion, where of keys of one text the later in order of first use gets the greater number: there
-- is one such naming.
use Rattle.std.specs.Prelude.{◌≡◌, List, [], ◌∷◌, map, flat_map}
use Rattle.lalrpop_grammar_symbols.specs.Symbols.{Text, Closed}
use Rattle.lalrpop_grammar_language.specs.Enabled.{EnabledGrammar}
use Rattle.lalrpop_grammar_language.specs.Expansion.{Nonterminal}
use Rattle.lalrpop_norm_theory.specs.Keys.{IsNaming, with_number}
use Rattle.lalrpop_norm_theory.specs.LevelNames.{times_taken}
use Rattle.lalrpop_norm_theory.specs.UsedKeys.{AreKeysByUse, rule_at_levels, tighter_at, unless_macro}

-- the tighter levels of the rules that are no macros, as they are written
abbrev pub tighter_keys : EnabledGrammar → List Closed
tighter_keys g = flat_map (λ r. unless_macro r.parameters (tighter_at r)) g.rules

-- the texts that a rule takes: a macro its name, another one the texts of its levels
abbrev pub own_texts : List Text → Text → List Text → List Text
own_texts [] n levels = levels
own_texts (p ∷ ps) n levels = n ∷ []

abbrev pub texts_of_rules : (Closed → Text) → EnabledGrammar → List Text
texts_of_rules text_of g = flat_map (λ r. own_texts r.parameters r.name (map text_of (rule_at_levels r))) g.rules

-- Each key is called by its text, with a number where the text is taken, by one of these or by a key before it.
abbrev pub AreNumberedByUse : (Closed → Text) → (Closed → Text) → List Text → List Closed → Type 0
AreNumberedByUse text_of name_of taken [] = Unit {0}
AreNumberedByUse text_of name_of taken (x ∷ xs) =
    (name_of x ≡ with_number (text_of x) (times_taken (text_of x) taken))
    × AreNumberedByUse text_of name_of (text_of x ∷ taken) xs

-- A naming in which numbers are given in order: first the tighter levels of rules, as these are written, where names of rules and
-- macros are taken; then the other keys as they are used first, where what rules and macros take is taken.
pub record IsNamingByUse (text_of : Closed → Text) (prefix : Text) (g : EnabledGrammar) (name_of : Nonterminal → Text) : Type 0 where
  pub naming : IsNaming text_of prefix g name_of
  pub levels : AreNumberedByUse text_of (λ x. name_of (Nonterminal.closed x)) (map (λ r. r.name) g.rules)
      (flat_map (λ r. unless_macro r.parameters (tighter_at r)) g.rules)
  pub others : List Closed
  pub in_order : AreKeysByUse g others
  pub numbered : AreNumberedByUse text_of (λ x. name_of (Nonterminal.closed x))
      (flat_map (λ r. own_texts r.parameters r.name (map text_of (rule_at_levels r))) g.rules) others

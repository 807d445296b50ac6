-- Admission from a start: for the judge.
use Rattle.std.proofs.Common.{◌≡◌, ◌↔◌, ℕ, Bool, List, [], Option, IsTrue, ap, ap₂, sym, subst, ◌∙◌}
use Rattle.std.proofs.Common.{map}
use Rattle.lalrpop_grammar_symbols.specs.Symbols.{Text, Closed, Closeds}
use Rattle.lalrpop_grammar.specs.Trees.{Token, Tree, leaves}
use Rattle.lalrpop_grammar.specs.WrittenGrammar.{Grammar}
use Rattle.lalrpop_grammar_language.specs.Enabled.{EnabledGrammar, EnabledRule, enabled_grammar}
use Rattle.lalrpop_grammar_language.specs.Levels.{loosest}
use Rattle.lalrpop_grammar_language.specs.Admitting.{AdmitsStart}
use Rattle.lalrpop_grammar_language.proofs.LeafLemmas.{tokens_are}
use Rattle.lalrpop_grammar_rules.specs.Details.{Kept, enabled_rule_view}
use Rattle.lalrpop_grammar_rules.specs.RuleTable.{IsOnly, IsOfGrammar, rules_with}
use Rattle.lalrpop_grammar_rules.specs.declared.rule.EnabledRule as kept
use Rattle.lalrpop_grammar_rules.specs.declared.table.Rules as table
use Rattle.lalrpop_judge.specs.Admitted.{Admitted}
use Rattle.lalrpop_judge.specs.Faults.{HasSearch, OnlyWhere}
use Rattle.lalrpop_judge.specs.declared.error.JudgeError.{JudgeError}
use Rattle.lalrpop_grammar_rules.proofs.NameLemmas.{names_none}

module _ (t : table.Rules) (n : Text) (r : kept.EnabledRule) (only : IsOnly t n r) (finds : Text → Text → Option Bool) (u : Tree) where
  abbrev g : EnabledGrammar
  g = rules_with finds t

  abbrev rule : EnabledRule
  rule = enabled_rule_view t.features.now r

  same_rule : (a : AdmitsStart g n u (leaves u)) → a.rule ≡ rule
  same_rule a = cc (a.is_rule, only.0)

  -- a macro is no start
  pub start_refused : ((r.written.now).args ≡ [] → ⊥) → AdmitsStart g n u (leaves u) → ⊥
  start_refused some a = some (names_none (r.written.now).args (ap (λ q. q.parameters) (sym (same_rule a)) ∙ a.no_macro))

  loose : r.loosest ≡ loosest rule
  loose = ap (λ (k : Kept). k.1.1.0) only.1

  -- another rule is one at its loosest level
  pub start_to : (r.written.now).args ≡ [] → Admitted g (Closed.call n Closeds.none r.loosest) u → AdmitsStart g n u (leaves u)
  start_to none a = record { rule = rule; is_rule = only.0; no_macro = ap (map (λ p. p.0)) none; admits = rw loose at a }

  pub start_from : AdmitsStart g n u (leaves u) → Admitted g (Closed.call n Closeds.none r.loosest) u
  start_from a =
      let P : Option ℕ → Type 0 = λ l. Admitted g (Closed.call n Closeds.none l) u in
      subst P (ap loosest (same_rule a) ∙ sym loose) a.admits

-- the tokens are those at the leaves, and the start admits the tree over its leaves
pub start_apart : (g : EnabledGrammar) (n : Text) (u : Tree) (tokens : List Token) → AdmitsStart g n u tokens → (tokens ≡ leaves u)
    × AdmitsStart g n u (leaves u)
start_apart g n u tokens a =
    let same : tokens ≡ leaves u = tokens_are g (Closed.call n Closeds.none (loosest a.rule)) u tokens a.admits in (same, rw same at a)

-- the grammar of the rules is the one that they are of
pub of_grammar : (finds : Text → Text → Option Bool) (features : List Text) (g : Grammar) (t : table.Rules) → IsOfGrammar features g t
    → rules_with finds t ≡ enabled_grammar finds features g
of_grammar finds features g t is = ap₂ (enabled_grammar finds) is.0 is.1

module _ (finds : Text → Text → Option Bool) (features : List Text) (g : Grammar) (t : table.Rules) (is : IsOfGrammar features g t)
    (n : Text) (u : Tree) where
  -- the answer over the tree's own leaves is the one over the tokens that they are
  pub over_tokens : (tokens : List Token) (b : Bool) → tokens ≡ leaves u
      → (IsTrue b ↔ AdmitsStart (rules_with finds t) n u (leaves u))
      → IsTrue b ↔ AdmitsStart (enabled_grammar finds features g) n u tokens
  over_tokens tokens b same decides =
      let P : EnabledGrammar → Type 0 = λ r. IsTrue b ↔ AdmitsStart r n u (leaves u) in
      let Q : List Token → Type 0 = λ l. IsTrue b ↔ AdmitsStart (enabled_grammar finds features g) n u l in
      subst Q (sym same) (subst P (of_grammar finds features g t is) decides)

  -- a fault that comes only with a search in the rules comes only with one in their grammar
  pub over_grammar : (e : JudgeError) → OnlyWhere (HasSearch (rules_with finds t) u) e
      → OnlyWhere (HasSearch (enabled_grammar finds features g) u) e
  over_grammar e only = let P : EnabledGrammar → Type 0 = λ r. HasSearch r u in
      λ condition. subst P (of_grammar finds features g t is) (only condition)

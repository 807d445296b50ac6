-- The test says which nonterminals of an expansion are inlined: for trees after inlining.
use Rattle.std.proofs.Common.{◌≡◌, List, [], ◌∷◌, true, false, refl, ap, ◌∙◌}
use Rattle.lalrpop_grammar_symbols.specs.Symbols.{Closed, Op}
use Rattle.lalrpop_grammar_language.specs.Enabled.{EnabledGrammar, EnabledRule, rules_named}
use Rattle.lalrpop_grammar_language.specs.Expansion.{Nonterminal}
use Rattle.lalrpop_norm_theory.specs.Inlined.{IsInlined}
use Rattle.lalrpop_grammar_language.specs.Inlining.{IsDecidedBy}
use Rattle.lalrpop_run_theory.specs.ExpansionTrees.{is_inlined_nonterminal, is_marked_rule}

marked_alone : (rs : List EnabledRule) → is_marked_rule rs ≡ true → (r : EnabledRule) × (rs ≡ r ∷ []) × (r.inlined ≡ true)
marked_alone [] e = let wrong : false ≡ true = e in cc
marked_alone (r ∷ []) e = (r, refl, e)
marked_alone (r ∷ s ∷ rs) e = let wrong : false ≡ true = e in cc

never : false ≡ true → ⊥
never e = cc

-- the test decides it
pub inlined_decided : (g : EnabledGrammar) → IsDecidedBy (IsInlined g) (is_inlined_nonterminal g)
inlined_decided g (Nonterminal.start n) = (λ h. absurd h, never)
inlined_decided g (Nonterminal.closed (Closed.call n args level)) =
    (λ h. ap is_marked_rule h.1 ∙ h.2, λ e. marked_alone (rules_named g n) e)
inlined_decided g (Nonterminal.closed (Closed.repeat Op.plus x)) = (λ h. absurd h, never)
inlined_decided g (Nonterminal.closed (Closed.repeat Op.star x)) = (λ h. refl, λ e. tt)
inlined_decided g (Nonterminal.closed (Closed.repeat Op.question x)) = (λ h. refl, λ e. tt)
inlined_decided g (Nonterminal.closed (Closed.group xs)) = (λ h. refl, λ e. tt)
inlined_decided g (Nonterminal.closed (Closed.terminal t)) = (λ h. absurd h, never)
inlined_decided g (Nonterminal.closed (Closed.choose x)) = (λ h. absurd h, never)
inlined_decided g (Nonterminal.closed (Closed.name m n x)) = (λ h. absurd h, never)
inlined_decided g (Nonterminal.closed Closed.lookahead) = (λ h. refl, λ e. tt)
inlined_decided g (Nonterminal.closed Closed.lookbehind) = (λ h. refl, λ e. tt)
inlined_decided g (Nonterminal.closed Closed.faulty) = (λ h. absurd h, never)

-- where nothing is inlined, the test that is never true decides it
pub none_decided : IsDecidedBy {N = Nonterminal} (λ x. ⊥) (λ x. false)
none_decided x = (λ h. absurd h, never)

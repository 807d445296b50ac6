-- Where no wrong number of arguments is told, each call has as many arguments as parameters; for right grammars.
use Rattle.std.proofs.Common.{◌≡◌, List, [], ◌∷◌, ◌++◌, refl, ap, sym, ◌∙◌, subst, cond, inl, inr, length}
use Rattle.std.proofs.lemmas.Bool.{eqb-true}
use Rattle.std.specs.Prelude.{Bool, true, false, ◌==◌, Option, flat_map}
use Rattle.lalrpop_grammar_symbols.specs.Symbols.{Text, Sym, WrittenSymbol, list_of, syms}
use Rattle.lalrpop_grammar_symbols.specs.Subsymbols.{subsymbols_of}
use Rattle.lalrpop_grammar.specs.WrittenGrammar.{Alternative, Grammar, rules_of}
use Rattle.lalrpop_grammar_language.specs.Among.{Among}
use Rattle.lalrpop_grammar_language.specs.Enabled.{EnabledGrammar, EnabledRule, Choice, choice_of}
use Rattle.lalrpop_grammar_language.proofs.PlaceLemmas.{among_map}
use Rattle.lalrpop_norm_theory.specs.Between.{grammar_between, rule_between, with_origins}
use Rattle.lalrpop_norm_theory.specs.Premises.{HasNoRecovery, IsResolved, IsSymbolOf}
use Rattle.lalrpop_norm_keys.specs.Arity.{arity_fault, arity_fault_of, arity_faults, arity_faults_at, arity_faults_in}
use Rattle.lalrpop_norm_macros.specs.UsableSymbols.{IsRightCount, IsRightGrammar}

both_none : {A : Type 0} (xs ys : List A) → xs ++ ys ≡ [] → (xs ≡ []) × (ys ≡ [])
both_none [] ys e = (refl, e)
both_none (x ∷ xs) ys e = cc

each_none : {A B : Type 0} (f : A → List B) (xs : List A) → flat_map f xs ≡ [] → (x : A) → Among xs x → f x ≡ []
each_none f [] e x i = absurd i
each_none f (y ∷ ys) e x (inl k) = ap f (sym k) ∙ (both_none (f y) (flat_map f ys) e).0
each_none f (y ∷ ys) e x (inr i) = each_none f ys (both_none (f y) (flat_map f ys) e).1 x i

right_count : (g : EnabledGrammar) (x : WrittenSymbol) → arity_fault g x ≡ [] → IsRightCount g x
right_count g (Sym.macro p n args) e = λ q i.
    of_test q (length q.parameters == length (list_of args)) refl
    (subst (λ rs. arity_fault_of rs (length (list_of args)) p ≡ []) i e)
  where
    of_test : (q : EnabledRule) (b : Bool) → (length q.parameters == length (list_of args)) ≡ b → cond b [] (p ∷ []) ≡ []
        → length (list_of args) ≡ length q.parameters
    of_test q true k f = sym (eqb-true (length q.parameters) (length (list_of args)) k)
    of_test q false k f = cc
right_count g (Sym.ambiguous_id p n) e = tt
right_count g (Sym.nonterminal p n) e = tt
right_count g (Sym.terminal p t) e = tt
right_count g (Sym.name p m n x) e = tt
right_count g (Sym.expr p xs) e = tt
right_count g (Sym.repeat p op x) e = tt
right_count g (Sym.choose p x) e = tt
right_count g (Sym.lookahead p) e = tt
right_count g (Sym.lookbehind p) e = tt
right_count g (Sym.error p) e = tt

-- a resolved grammar without error recovery is right where no call has a wrong number of arguments
pub right_by_counts : (finds : Text → Text → Option Bool) (w : Grammar) → IsResolved (grammar_between finds w)
    → HasNoRecovery (grammar_between finds w) → arity_faults (grammar_between finds w) (rules_of w.items) ≡ []
    → IsRightGrammar (grammar_between finds w)
right_by_counts finds w resolved no_recovery none = record { resolved = resolved; no_recovery = no_recovery; counts = counts }
  where
    counts : (r : EnabledRule) (c : Choice) (x : WrittenSymbol) → IsSymbolOf (grammar_between finds w) r c x
        → IsRightCount (grammar_between finds w) x
    counts r c x s =
        let g = grammar_between finds w in
        let d = among_map rule_between (rules_of w.items) r s.rule in
        let there = subst (λ (q : EnabledRule). Among q.choices c) (sym d.2) s.choice in
        let a = among_map choice_of (with_origins (d.0).alternatives) c there in
        let b = among_map (λ (z : Alternative). (z.origin, z)) (d.0).alternatives a.0 a.1 in
        let same : choice_of (b.0.origin, b.0) ≡ c = ap choice_of b.2 ∙ a.2 in
        let inside = subst (λ (q : Choice). Among (subsymbols_of (syms q.expr)) x) (sym same) s.symbol in
        let in_rule = each_none (arity_faults_in g) (rules_of w.items) none d.0 d.1 in
        let in_alternative = each_none (arity_faults_at g) (d.0).alternatives in_rule b.0 b.1 in
        right_count g x (each_none (arity_fault g) (subsymbols_of (syms (b.0).expr)) in_alternative x inside)

-- What is told of conditions and of numbers of arguments is the same in grammars that differ by origins alone; for the law.
use Rattle.std.proofs.Common.{◌≡◌, ℕ, List, [], ◌∷◌, ◌++◌, refl, ap, ap₂, sym, ◌∙◌, subst, inl, inr, ◌⊎◌}
use Rattle.std.proofs.Common.{map, length}
use Rattle.std.specs.Prelude.{Bool, None, flat_map, zip}
use Rattle.lalrpop_grammar_symbols.specs.Symbols.{Text, TextSpan, Closed, Closeds, Sym, WrittenSymbol, closed_list, list_of, syms}
use Rattle.lalrpop_grammar_symbols.specs.Subsymbols.{subsymbols_of}
use Rattle.lalrpop_grammar.specs.WrittenGrammar.{Rule}
use Rattle.lalrpop_grammar_language.specs.Among.{Among}
use Rattle.lalrpop_grammar_language.specs.Enabled.{EnabledGrammar, EnabledRule, Choice, IsRule, rules_named}
use Rattle.lalrpop_grammar_language.specs.Closing.{Binding}
use Rattle.lalrpop_grammar_language.specs.Expansion.{IsRoot, Nonterminal}
use Rattle.lalrpop_grammar_language.proofs.PlaceLemmas.{among_map}
use Rattle.lalrpop_norm_theory.specs.Depth.{HasCallChain}
use Rattle.lalrpop_grammar_language.proofs.AmongLemmas.{map_among}
use Rattle.lalrpop_grammar_repr.specs.declared.session.NormFault.{NormFault}
use Rattle.lalrpop_grammar_repr.specs.declared.session.NormFault.TheVariants as faults
use Rattle.lalrpop_norm_keys.specs.Arity.{arity_fault, arity_fault_of, arity_faults, arity_faults_at, arity_faults_in}
use Rattle.lalrpop_norm_keys.specs.FoundCalls.{TellsOfMadeCall}
use Rattle.lalrpop_norm_keys.specs.Instances.{IsAskedIn, TellsOfCall}
use Rattle.lalrpop_norm_keys.specs.MacroFaults.{TellsOfAlternative}
use Rattle.lalrpop_norm_keys.proofs.OriginLemmas.{named_plain, plain_choice, plain_grammar, plain_rule, plain_was, rule_plain}
use Rattle.lalrpop_norm_keys.proofs.PlainGrammarLemmas.{chain_alike, root_alike}

module _ (g h : EnabledGrammar) (alike : plain_grammar g ≡ plain_grammar h) where
  finds_same : g.finds ≡ h.finds
  finds_same = ap (λ (k : EnabledGrammar). k.finds) alike

  -- one condition that is asked
  asked_alike : (deep : Text → Bool) (n : Text) (args : Closeds) (f : NormFault) (c : Choice) (b : Binding) → IsAskedIn g n args c b
      → TellsOfAlternative g.finds deep b c.condition f
      → (d : Choice) × (e : Binding) × IsAskedIn h n args d e × TellsOfAlternative h.finds deep e d.condition f
  asked_alike deep n args f c b a t =
      let w = plain_was h n (plain_rule a.rule) (subst (λ k. IsRule k n (plain_rule a.rule)) alike (rule_plain g n a.rule a.is_rule)) in
      let i : Among (map plain_choice w.0.choices) (plain_choice c) =
      subst (λ l. Among l (plain_choice c)) (sym (ap (λ (k : EnabledRule). k.choices) w.2))
      (map_among plain_choice a.rule.choices c a.among) in
      let v = among_map plain_choice w.0.choices (plain_choice c) i in
      let same : c.condition ≡ v.0.condition = sym (ap (λ (k : Choice). k.condition) v.2) in (
        v.0,
        b,
        record {
          rule = w.0;
          is_rule = w.1;
          among = v.1;
          binding_is = a.binding_is ∙ ap (λ ps. zip ps (closed_list args)) (sym (ap (λ (k : EnabledRule). k.parameters) w.2));
        },
        subst (λ k. TellsOfAlternative h.finds deep b k f) same
            (subst (λ m. TellsOfAlternative m deep b c.condition f) finds_same t),
      )

  told_alike : (deep : Text → Bool) (n : Text) (args : Closeds) (f : NormFault) → TellsOfCall g deep n args f
      → TellsOfCall h deep n args f
  told_alike deep n args faults.Memory t = t
  told_alike deep n args (faults.Norm x) (c, b, a, t) = asked_alike deep n args (faults.Norm x) c b a t
  told_alike deep n args faults.ConditionLimit (c, b, a, t) = asked_alike deep n args faults.ConditionLimit c b a t

  made : (n : Text) (args : Closeds)
      → IsRoot g (Nonterminal.closed (Closed.call n args None)) ⊎ ((k : ℕ) × HasCallChain g k (Closed.call n args None))
      → IsRoot h (Nonterminal.closed (Closed.call n args None)) ⊎ ((k : ℕ) × HasCallChain h k (Closed.call n args None))
  made n args (inl r) = inl (root_alike g h alike (Closed.call n args None) r)
  made n args (inr c) = inr (c.0, chain_alike g h alike c.0 (Closed.call n args None) c.1)

  -- what is told of conditions
  pub made_alike : (deep : Text → Bool) (f : NormFault) → TellsOfMadeCall g deep f → TellsOfMadeCall h deep f
  made_alike deep faults.Memory t = t
  made_alike deep (faults.Norm x) (n, args, m, t) = (n, args, made n args m, told_alike deep n args (faults.Norm x) t)
  made_alike deep faults.ConditionLimit (n, args, m, t) = (n, args, made n args m, told_alike deep n args faults.ConditionLimit t)

-- numbers of arguments

pub flat_map-same : {A B : Type 0} (f k : A → List B) → ((x : A) → f x ≡ k x) → (xs : List A) → flat_map f xs ≡ flat_map k xs
flat_map-same f k e [] = refl
flat_map-same f k e (x ∷ xs) = ap₂ (λ a b. a ++ b) (e x) (flat_map-same f k e xs)

arity_of_plain : (rs : List EnabledRule) (k : ℕ) (p : TextSpan) → arity_fault_of (map plain_rule rs) k p ≡ arity_fault_of rs k p
arity_of_plain [] k p = refl
arity_of_plain (r ∷ []) k p = refl
arity_of_plain (r ∷ q ∷ rs) k p = refl

arity_plain : (g : EnabledGrammar) (x : WrittenSymbol) → arity_fault (plain_grammar g) x ≡ arity_fault g x
arity_plain g (Sym.macro p n args) =
    ap (λ rs. arity_fault_of rs (length (list_of args)) p) (named_plain g n)
    ∙ arity_of_plain (rules_named g n) (length (list_of args)) p
arity_plain g (Sym.ambiguous_id p n) = refl
arity_plain g (Sym.nonterminal p n) = refl
arity_plain g (Sym.terminal p t) = refl
arity_plain g (Sym.name p m n x) = refl
arity_plain g (Sym.expr p xs) = refl
arity_plain g (Sym.repeat p op x) = refl
arity_plain g (Sym.choose p x) = refl
arity_plain g (Sym.lookahead p) = refl
arity_plain g (Sym.lookbehind p) = refl
arity_plain g (Sym.error p) = refl

-- the calls with another number of arguments
pub arity_alike : (g h : EnabledGrammar) → plain_grammar g ≡ plain_grammar h → (rs : List Rule)
    → arity_faults g rs ≡ arity_faults h rs
arity_alike g h e rs = flat_map-same (arity_faults_in g) (arity_faults_in h) in_rule rs
  where
    one : (x : WrittenSymbol) → arity_fault g x ≡ arity_fault h x
    one x = sym (arity_plain g x) ∙ ap (λ k. arity_fault k x) e ∙ arity_plain h x

    in_rule : (r : Rule) → arity_faults_in g r ≡ arity_faults_in h r
    in_rule r = flat_map-same (arity_faults_at g) (arity_faults_at h)
        (λ a. flat_map-same (arity_fault g) (arity_fault h) one (subsymbols_of (syms a.expr))) r.alternatives

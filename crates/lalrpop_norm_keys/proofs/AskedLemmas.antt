-- Conditions that were asked one after another, and of which calls they are; for the search for keys.
use Rattle.std.proofs.Common.{◌≡◌, ℕ, ◌+◌, List, [], ◌∷◌, ◌++◌, refl, ap, sym, ◌∙◌, subst, inl, inr}
use Rattle.std.proofs.Common.{◌⊎◌, map, length, true}
use Rattle.std.specs.Prelude.{Bool, Option, Some, None, filter, option_map, Result, Ok, Err, OnOk}
use Rattle.lalrpop_grammar_symbols.specs.Symbols.{Text, Closed, Closeds, closed_list}
use Rattle.lalrpop_grammar.specs.Views.{condition_view}
use Rattle.lalrpop_grammar.specs.WrittenGrammar.{Rule}
use Rattle.lalrpop_grammar_language.specs.Among.{Among}
use Rattle.lalrpop_grammar_language.specs.Enabled.{EnabledGrammar, EnabledRule, Choice, IsRule, enabled_rule, is_active}
use Rattle.lalrpop_grammar_language.specs.Levels.{Rank, ranked_choices}
use Rattle.lalrpop_grammar_language.specs.Closing.{Binding}
use Rattle.lalrpop_grammar_language.specs.Admitting.{bind}
use Rattle.lalrpop_norm_theory.specs.Premises.{HasNoLevels}
use Rattle.lalrpop_norm_theory.specs.Rounds.{AreCallsToDepth}
use Rattle.lalrpop_grammar_language.proofs.OrderLemmas.{among_parts}
use Rattle.lalrpop_norm_theory.proofs.DepthLemmas.{all_calls_found}
use Rattle.lalrpop_grammar_rules.specs.Details.{ChoiceDetail, choice_view}
use Rattle.lalrpop_grammar_rules.specs.declared.rule.Choice as program
use Rattle.lalrpop_norm_keys.specs.AskedConditions.{AreAskable, AskRightly, AsksRightly, HasAskedConditions}
use Rattle.lalrpop_norm_keys.specs.FoundCalls.{plain_calls}
use Rattle.lalrpop_norm_keys.specs.Instances.{kept_from}
use Rattle.lalrpop_norm_keys.specs.MacroFaults.{IsAskable}
use Rattle.lalrpop_norm_keys.proofs.FoundLemmas.{root_is_plain}

-- what is kept of an alternative, without the next tighter level
abbrev kept_of : ChoiceDetail → Choice × Option Rank
kept_of d = (d.0, d.1.0)

module _ (finds : Text → Text → Option Bool) (deep : Text → Bool) (b : Binding) where
  -- the one alternative
  pub askable_one : (n : Text) (c : program.Choice) → IsAskable finds deep b (option_map condition_view (c.alternative.now).condition)
      → AreAskable finds deep b (kept_from n 0 (Some c ∷ []))
  askable_one n c h p (inl e) = subst (λ (q : Choice × Option Rank). IsAskable finds deep b q.0.condition) e h
  askable_one n c h p (inr i) = absurd i

  pub askable_one_ok : {T E : Type 0} (n : Text) (c : program.Choice) (o : Option program.Choice) → o ≡ Some c → (r : Result T E)
      → OnOk r (IsAskable finds deep b (option_map condition_view (c.alternative.now).condition))
      → OnOk r (AreAskable finds deep b (kept_from n 0 (o ∷ [])))
  askable_one_ok n c o e (Ok x) h = subst (λ q. AreAskable finds deep b (kept_from n 0 (q ∷ []))) (sym e) (askable_one n c h)
  askable_one_ok n c o e (Err f) h = h

  -- the alternative at a place, and then the others
  pub askable_next : (n : Text) (k : ℕ) (o : Option program.Choice) (cs : List (Option program.Choice))
      → AreAskable finds deep b (kept_from n 0 (o ∷ [])) → AreAskable finds deep b (kept_from n (k + 1) cs)
      → AreAskable finds deep b (kept_from n k (o ∷ cs))
  askable_next n k None cs here later p i = later p i
  askable_next n k (Some c) cs here later p (inl e) =
      subst (λ (q : Choice × Option Rank). IsAskable finds deep b q.0.condition) e (here (kept_of (choice_view n 0 c)) (inl refl))
  askable_next n k (Some c) cs here later p (inr i) = later p i

module _ (g : EnabledGrammar) (deep : Text → Bool) where
  -- the called rule, where one has the name
  pub asks_of_rule : (n : Text) (args : Closeds) (r : EnabledRule) → IsRule g n r → (b : Binding) → b ≡ bind r args
      → AreAskable g.finds deep b (ranked_choices r) → AsksRightly g deep n args
  asks_of_rule n args r is b same h q i full =
      let e : r ≡ q = cc in
      subst (λ z. AreAskable g.finds deep (bind z args) (ranked_choices z)) e
      (subst (λ d. AreAskable g.finds deep d (ranked_choices r)) same h)

  pub asks_of_rule_ok : {T E : Type 0} (n : Text) (args : Closeds) (r : EnabledRule) → IsRule g n r → (b : Binding)
      → b ≡ bind r args → (res : Result T E) → OnOk res (AreAskable g.finds deep b (ranked_choices r))
      → OnOk res (AsksRightly g deep n args)
  asks_of_rule_ok n args r is b same (Ok x) h = asks_of_rule n args r is b same h
  asks_of_rule_ok n args r is b same (Err e) h = h

  pub asks_of_none : (n : Text) (args : Closeds) → ((r : EnabledRule) → IsRule g n r → ⊥) → AsksRightly g deep n args
  asks_of_none n args out r is full = absurd (out r is)

  pub asks_of_other : (n : Text) (args : Closeds) (r : EnabledRule) → IsRule g n r
      → (length (closed_list args) ≡ length r.parameters → ⊥) → AsksRightly g deep n args
  asks_of_other n args r is other q i full =
      let e : q ≡ r = cc in absurd (other (full ∙ ap (λ (z : EnabledRule). length z.parameters) e))

  -- several calls
  pub ask_none : AskRightly g deep []
  ask_none n args i = absurd i

  pub ask_one : (y : Closed) (n : Text) (args : Closeds) → y ≡ Closed.call n args None → AsksRightly g deep n args
      → AskRightly g deep (y ∷ [])
  ask_one y n args e h m as_ (inl i) =
      let name : n ≡ m = cc in
      let same : args ≡ as_ = cc in
      subst (λ v. AsksRightly g deep v as_) name (subst (AsksRightly g deep n) same h)
  ask_one y n args e h m as_ (inr i) = absurd i

  pub ask_one_ok : {T E : Type 0} (y : Closed) (n : Text) (args : Closeds) → y ≡ Closed.call n args None → (r : Result T E)
      → OnOk r (AsksRightly g deep n args) → OnOk r (AskRightly g deep (y ∷ []))
  ask_one_ok y n args e (Ok x) h = ask_one y n args e h
  ask_one_ok y n args e (Err f) h = h

  pub ask_no_call : (y : Closed) → ((n : Text) (args : Closeds) → y ≡ Closed.call n args None → ⊥)
      → AskRightly g deep (y ∷ [])
  ask_no_call y out n args (inl e) = absurd (out n args e)
  ask_no_call y out n args (inr i) = absurd i

  pub ask_together : (ys zs : List Closed) → AskRightly g deep ys → AskRightly g deep zs → AskRightly g deep (ys ++ zs)
  ask_together ys zs h k n args i = go (among_parts ys zs (Closed.call n args None) i)
    where
      go : Among ys (Closed.call n args None) ⊎ Among zs (Closed.call n args None) → AsksRightly g deep n args
      go (inl j) = h n args j
      go (inr j) = k n args j

-- of the rules that are no macros and of all calls
pub all_asked : (g : EnabledGrammar) (features : List Text) (rs : List Rule)
    → g.rules ≡ map (enabled_rule features) (filter (λ r. is_active features r.attributes) rs)
    → ((r : Rule) → Among rs r → is_active features r.attributes ≡ true)
    → ((r : EnabledRule) → Among g.rules r → IsRule g r.name r) → HasNoLevels g → (depth : ℕ) (calls : List Closed)
    → AreCallsToDepth g depth calls [] → (deep : Text → Bool) → AskRightly g deep (plain_calls rs) → AskRightly g deep calls
    → HasAskedConditions g deep
all_asked g features rs rules_are enabled single flat depth calls a deep plain asked n args (inl r) =
    plain n args (root_is_plain g features rs rules_are enabled single flat (Closed.call n args None) r)
all_asked g features rs rules_are enabled single flat depth calls a deep plain asked n args (inr c) =
    asked n args (all_calls_found g depth calls a c.0 (Closed.call n args None) c.1)

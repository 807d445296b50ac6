-- Keys that are met in calls, one after another; for the walk over rules and instances.
use Rattle.std.proofs.Common.{◌≡◌, ◌++◌, List, [], ◌∷◌, refl, ap, sym, ◌∙◌, subst, length}
use Rattle.std.specs.Prelude.{Bool, None, Result, Ok, Err, OnOk}
use Rattle.lalrpop_grammar_symbols.specs.Symbols.{Closed, Closeds, Text, closed_list}
use Rattle.lalrpop_grammar_language.specs.Among.{Among}
use Rattle.lalrpop_grammar_language.specs.Enabled.{EnabledGrammar, EnabledRule, IsRule}
use Rattle.lalrpop_grammar_language.specs.Levels.{ranked_choices}
use Rattle.lalrpop_grammar_language.specs.Closing.{Binding}
use Rattle.lalrpop_grammar_language.specs.Admitting.{bind}
use Rattle.lalrpop_grammar_repr.specs.declared.session.NormFault.{NormFault}
use Rattle.lalrpop_norm_keys.specs.FoundCalls.{TellsOfOneCall}
use Rattle.lalrpop_norm_keys.proofs.FoundLemmas.{told_wider}
use Rattle.lalrpop_norm_keys.specs.GrammarPlaces.{IsCalledIn, PutsMetInCall, PutsMetInCalls, PutsMetInChoices}
use Rattle.lalrpop_norm_keys.specs.MetKeys.{MetKey}

-- no rule is called where none has the name, or the one that has it takes another number of arguments
pub nothing_called : (g : EnabledGrammar) (y : Closed) (n : Text) (as_ : Closeds) → y ≡ Closed.call n as_ None
    → ((r : EnabledRule) → IsRule g n r → length (closed_list as_) ≡ length r.parameters → ⊥) → (args : Closeds)
    (r : EnabledRule) → IsCalledIn g y args r → ⊥
nothing_called g y n as_ e out args r h =
    let same : Closed.call h.name args None ≡ Closed.call n as_ None = sym h.call_is ∙ e in
    let names : h.name ≡ n = cc same in
    let given : args ≡ as_ = cc same in
    out r (subst (λ m. IsRule g m r) names h.is_rule) (ap (λ l. length (closed_list l)) (sym given) ∙ h.arguments)

-- what is met in the called rule is met in the call
pub met_in_called : {T E : Type 0} (g : EnabledGrammar) (y : Closed) (n : Text) (as_ : Closeds) (r : EnabledRule) (b : Binding)
    (old new : List MetKey) → y ≡ Closed.call n as_ None → IsRule g n r → length (closed_list as_) ≡ length r.parameters
    → b ≡ bind r as_ → (res : Result T E) → OnOk res (PutsMetInChoices g r b (ranked_choices r) old new)
    → OnOk res (PutsMetInCall g y old new)
met_in_called g y n as_ r b old new e is full same (Ok x) h =
    PutsMetInCall.called as_ r (record { name = n; call_is = e; is_rule = is; arguments = full })
    (subst (λ d. PutsMetInChoices g r d (ranked_choices r) old new) same h)
met_in_called g y n as_ r b old new e is full same (Err f) h = h

-- several calls, and then others
pub met_together : (g : EnabledGrammar) (ys zs : List Closed) (old mid new : List MetKey) → PutsMetInCalls g ys old mid
    → PutsMetInCalls g zs mid new → PutsMetInCalls g (ys ++ zs) old new
met_together g [] zs old mid new e w = subst (λ l. PutsMetInCalls g zs l new) e w
met_together g (y ∷ ys) zs old mid new (next, h, k) w = (next, h, met_together g ys zs next mid new k w)

-- one more call
pub met_more : (g : EnabledGrammar) (ys : List Closed) (y : Closed) (old mid new : List MetKey) → PutsMetInCalls g ys old mid
    → PutsMetInCall g y mid new → PutsMetInCalls g (ys ++ y ∷ []) old new
met_more g ys y old mid new h k = met_together g ys (y ∷ []) old mid new h (new, k, refl)

-- what is told of some of the calls is told of all
pub told_of_part : (g : EnabledGrammar) (deep : Text → Bool) (xs ys zs : List Closed) → xs ≡ ys
    → ((y : Closed) → Among ys y → Among zs y) → (f : NormFault) → TellsOfOneCall g deep xs f → TellsOfOneCall g deep zs f
told_of_part g deep xs ys zs e wide f t = told_wider g deep ys zs wide f (subst (λ l. TellsOfOneCall g deep l f) e t)

-- Calls that are found round by round, and keys that are found in them, are in order of first use; for the search.
use Rattle.std.proofs.Common.{◌≡◌, List, [], ◌∷◌, ◌++◌, refl, ap, sym, ◌∙◌, subst, inl, inr, ◌⊎◌, map, append-nil, append_assoc}
use Rattle.std.proofs.Common.{cond, Bool, true, false}
use Rattle.std.specs.Prelude.{None, Some, filter, flat_map, Result, Ok, Err, IfOk}
use Rattle.std.proofs.lemmas.List.{append_cancel_left}
use Rattle.lalrpop_grammar_symbols.specs.Symbols.{Text, Closed, Closeds}
use Rattle.lalrpop_grammar.specs.WrittenGrammar.{Grammar, Rule}
use Rattle.lalrpop_grammar_language.specs.Among.{Among}
use Rattle.lalrpop_grammar_language.specs.Enabled.{EnabledGrammar, EnabledRule, IsRule, enabled_rule, is_active}
use Rattle.lalrpop_grammar_language.specs.Levels.{has_levels}
use Rattle.lalrpop_grammar_language.proofs.AmongLemmas.{map_among}
use Rattle.lalrpop_grammar_language.proofs.StepLemmas.{among_right}
use Rattle.lalrpop_grammar_language.proofs.OrderLemmas.{among_parts}
use Rattle.lalrpop_norm_theory.specs.LevelNames.{after_first}
use Rattle.lalrpop_norm_theory.specs.LeveledGrammar.{falling_levels}
use Rattle.lalrpop_norm_theory.specs.Premises.{HasNoLevels}
use Rattle.lalrpop_norm_theory.specs.FirstUse.{AreInOrderOfUse}
use Rattle.lalrpop_norm_theory.specs.UsedKeys.{rule_at_levels, tighter_at, unless_macro, written_keys}
use Rattle.lalrpop_norm_theory.proofs.LevelLemmas.{keeps, no_levels, no_loosest}
use Rattle.lalrpop_norm_theory.proofs.UsedKeyLemmas.{key_uses_one}
use Rattle.lalrpop_norm_theory.proofs.UsedListLemmas.{key-uses, uses_of}
use Rattle.lalrpop_grammar_repr.specs.declared.session.NormFault.{NormFault}
use Rattle.lalrpop_norm_keys.specs.FoundCalls.{IsToldAt, plain_call_of, plain_calls}
use Rattle.lalrpop_norm_keys.specs.SearchPremises.{CanSearch}
use Rattle.lalrpop_norm_keys.specs.declared.rounds.FoundCalls.{FoundCalls}
use Rattle.lalrpop_norm_keys.specs.declared.rounds.FoundCalls.TheVariants as found
use Rattle.lalrpop_norm_keys.specs.Tables.{AddsKeys}
use Rattle.lalrpop_norm_keys.specs.UseSearch.{AddsUsesOf, AreCallsByUse, HasCallsByUse, UsesCalls, macro_call, macro_calls}
use Rattle.lalrpop_norm_keys.proofs.FoundLemmas.{plain_call_is}
use Rattle.lalrpop_norm_keys.proofs.MixedUseLemmas.{macro_call_is}
use Rattle.lalrpop_norm_keys.proofs.UseFrontLemmas.{IsWalk, all_uses, walk_begins, walk_done, walked}

-- the calls of what a key uses
abbrev pub calls_by : EnabledGrammar → Closed → List Closed
calls_by g y = macro_calls (uses_of g y)

pub uses_calls : (g : EnabledGrammar) (y : Closed) → UsesCalls g y (calls_by g y)
uses_calls g y = (uses_of g y, key-uses g y, refl)

pub calls_one : (g : EnabledGrammar) (y : Closed) (us vs : List Closed) → UsesCalls g y us → UsesCalls g y vs → us ≡ vs
calls_one g y us vs (k, u, e) (l, v, f) = e ∙ ap macro_calls (key_uses_one g y k l u v) ∙ sym f

-- what is added to calls is what these use
calls_stream : (g : EnabledGrammar) (ys known all : List Closed) → AddsUsesOf (UsesCalls g) ys known all
    → AddsKeys known (flat_map (calls_by g) ys) all
calls_stream g ys known all (us, u, w) =
    subst (λ l. AddsKeys known l all) (all_uses (UsesCalls g) (calls_by g) (uses_calls g) (calls_one g) ys us u) w

-- keys that are none of those in front are added behind these
adds_behind : (front keys xs more : List Closed) → ((z : Closed) → Among xs z → Among front z → ⊥) → AddsKeys keys xs more
    → AddsKeys (front ++ keys) xs (front ++ more)
adds_behind front keys [] more apart e = ap (λ l. front ++ l) e
adds_behind front keys (x ∷ xs) more apart (next, inl (i, e), w) = (
  front ++ next,
  inl (among_right front keys x i, ap (λ l. front ++ l) e),
  adds_behind front next xs more (λ z j. apart z (inr j)) w,
)
adds_behind front keys (x ∷ xs) more apart (next, inr (n, e), w) = (
  front ++ next,
  inr (
    λ j. none (among_parts front keys x j),
    ap (λ l. front ++ l) e ∙ sym (append_assoc front keys (x ∷ [])),
  ),
  adds_behind front next xs more (λ z j. apart z (inr j)) w,
)
  where
    none : Among front x ⊎ Among keys x → ⊥
    none (inl j) = apart x (inl refl) j
    none (inr j) = n j

-- the calls with arguments are no rules without
calls_apart : (rs : List Rule) (keys : List Closed) (z : Closed) → Among (macro_calls keys) z → Among (plain_calls rs) z → ⊥
calls_apart rs [] z i j = i
calls_apart rs (k ∷ keys) z i j = go (among_parts (macro_call k) (macro_calls keys) z i) (λ h. calls_apart rs keys z h j)
  where
    of_call : macro_call z ≡ z ∷ [] → ⊥
    of_call e =
        let p = plain_call_is rs z j in
        let none : macro_call z ≡ [] = ap macro_call p.call_is in
        let wrong : z ∷ [] ≡ [] = sym e ∙ none in cc

    go : Among (macro_call k) z ⊎ Among (macro_calls keys) z → (Among (macro_calls keys) z → ⊥) → ⊥
    go (inl h) later = of_call (macro_call_is k z h).1
    go (inr h) later = later h

stream_apart : (g : EnabledGrammar) (rs : List Rule) (ys : List Closed) (z : Closed) → Among (flat_map (calls_by g) ys) z
    → Among (plain_calls rs) z → ⊥
stream_apart g rs [] z i j = i
stream_apart g rs (y ∷ ys) z i j =
    go (among_parts (calls_by g y) (flat_map (calls_by g) ys) z i) (λ h. stream_apart g rs ys z h j)
  where
    go : Among (calls_by g y) z ⊎ Among (flat_map (calls_by g) ys) z → (Among (flat_map (calls_by g) ys) z → ⊥) → ⊥
    go (inl h) later = calls_apart rs (uses_of g y) z h j
    go (inr h) later = later h

-- rounds

-- After some rounds: the rules without parameters and the walked calls were walked over, and the next ones are known beside them.
abbrev pub IsCallWalk : EnabledGrammar → List Rule → List Closed → List Closed → Type 0
IsCallWalk g rs walked next = IsWalk (calls_by g) (plain_calls rs) (plain_calls rs ++ walked) next

pub first_walk : (g : EnabledGrammar) (rs : List Rule) (all : List Closed) → AddsUsesOf (UsesCalls g) (plain_calls rs) [] all
    → IsCallWalk g rs [] all
first_walk g rs all a =
    let roots = plain_calls rs in
    let begin : IsWalk (calls_by g) roots [] (roots ++ []) =
    subst (IsWalk (calls_by g) roots []) (sym (append-nil roots)) (walk_begins (calls_by g) roots) in
    let v = walked (calls_by g) roots [] roots [] (roots ++ all) begin
    (adds_behind roots [] (flat_map (calls_by g) roots) all (λ z i. stream_apart g rs roots z i)
    (calls_stream g roots [] all a)) in
    let whole : roots ++ all ≡ roots ++ v.more = v.all_is ∙ ap (λ l. l ++ v.more) (append-nil roots) in
    let same : all ≡ v.more = append_cancel_left roots all v.more whole in
    subst (λ l. IsWalk (calls_by g) roots l all) (sym (append-nil roots))
    (subst (IsWalk (calls_by g) roots roots) (sym same) v.walk)

pub next_walk : (g : EnabledGrammar) (rs : List Rule) (walked next all later : List Closed) → IsCallWalk g rs walked next
    → AddsUsesOf (UsesCalls g) next (walked ++ next) all → all ≡ (walked ++ next) ++ later → IsCallWalk g rs (walked ++ next) later
next_walk g rs before next all later w a e =
    let roots = plain_calls rs in
    let begin : IsWalk (calls_by g) roots (roots ++ before) (next ++ []) =
    subst (IsWalk (calls_by g) roots (roots ++ before)) (sym (append-nil next)) w in
    let row : (roots ++ before) ++ (next ++ []) ≡ roots ++ (before ++ next) =
    ap (λ l. (roots ++ before) ++ l) (append-nil next) ∙ append_assoc roots before next in
    let v = walked (calls_by g) roots (roots ++ before) next [] (roots ++ all) begin
    (subst (λ l. AddsKeys l (flat_map (calls_by g) next) (roots ++ all)) (sym row)
    (adds_behind roots (before ++ next) (flat_map (calls_by g) next) all (λ z i. stream_apart g rs next z i)
    (calls_stream g next (before ++ next) all a))) in
    let whole : roots ++ all ≡ roots ++ ((before ++ next) ++ v.more) =
    v.all_is ∙ ap (λ l. l ++ v.more) row ∙ append_assoc roots (before ++ next) v.more in
    let mine : all ≡ (before ++ next) ++ v.more = append_cancel_left roots all ((before ++ next) ++ v.more) whole in
    let same : v.more ≡ later = append_cancel_left (before ++ next) v.more later (sym mine ∙ e) in
    subst (λ l. IsWalk (calls_by g) roots l later) (append_assoc roots before next)
    (subst (IsWalk (calls_by g) roots ((roots ++ before) ++ next)) same v.walk)

-- a call that is told as too deep leaves nothing to order
pub deep_order : (g : EnabledGrammar) (features : List Text) (w : Grammar) (ys : List Closed) (x : Closed)
    (r : Result FoundCalls NormFault) → IfOk r (IsToldAt g ys x) → IfOk r (λ told. CanSearch g features w → HasCallsByUse g told)
deep_order g features w ys x (Ok (found.All calls)) h = absurd h
deep_order g features w ys x (Ok (found.TooDeep z span)) h = λ can. tt
deep_order g features w ys x (Err f) h = h

-- rules without parameters

module _ (g : EnabledGrammar) (features : List Text) (rs : List Rule)
    (rules_are : g.rules ≡ map (enabled_rule features) (filter (λ r. is_active features r.attributes) rs))
    (enabled : (r : Rule) → Among rs r → is_active features r.attributes ≡ true)
    (single : (r : EnabledRule) → Among g.rules r → IsRule g r.name r) (flat : HasNoLevels g) where
  abbrev active : Rule → Bool
  active r = is_active features r.attributes

  abbrev seen : List Rule → List EnabledRule
  seen qs = map (enabled_rule features) (filter active qs)

  rule_in : (r : Rule) → Among rs r → Among g.rules (enabled_rule features r)
  rule_in r i =
      subst (λ l. Among l (enabled_rule features r)) (sym rules_are)
      (map_among (enabled_rule features) (filter active rs) r (keeps active rs r i (enabled r i)))

  own_calls : (r : EnabledRule) (ps : List Text) → has_levels r ≡ false
      → unless_macro ps (rule_at_levels r) ≡ unless_macro ps (Closed.call r.name Closeds.none None ∷ [])
  own_calls r (p ∷ ps) e = refl
  own_calls r [] e =
      ap (λ l. Closed.call r.name Closeds.none l ∷ tighter_at r) (no_loosest r e)
      ∙ ap (λ ls. Closed.call r.name Closeds.none None ∷ map (λ j. Closed.call r.name Closeds.none (Some j)) (after_first (falling_levels ls)))
      (no_levels r e)

  as_plain : (r : Rule) (ps : List Text)
      → unless_macro ps (Closed.call r.name Closeds.none None ∷ []) ≡ plain_call_of r ps
  as_plain r [] = refl
  as_plain r (p ∷ ps) = refl

  written_of : (qs : List Rule) → ((r : Rule) → Among qs r → Among rs r)
      → flat_map (λ r. unless_macro r.parameters (rule_at_levels r)) (seen qs) ≡ plain_calls qs
  written_of [] all = refl
  written_of (r ∷ qs) all =
      ap (λ b. flat_map (λ q. unless_macro q.parameters (rule_at_levels q))
      (map (enabled_rule features) (cond b (r ∷ filter active qs) (filter active qs)))) (enabled r (all r (inl refl)))
      ∙ ap (λ l. l ++ flat_map (λ q. unless_macro q.parameters (rule_at_levels q)) (seen qs))
      (own_calls (enabled_rule features r) r.parameters (flat (enabled_rule features r) (rule_in r (all r (inl refl))))
      ∙ as_plain r r.parameters)
      ∙ ap (λ l. plain_call_of r r.parameters ++ l) (written_of qs (λ q i. all q (inr i)))

  -- they are the written keys
  pub written_are_plain : written_keys g ≡ plain_calls rs
  written_are_plain =
      ap (λ l. flat_map (λ r. unless_macro r.parameters (rule_at_levels r)) l) rules_are ∙ written_of rs (λ r i. i)

  -- where all calls were walked over, they are in order of first use
  pub calls_in_order : (calls walked next : List Closed) → calls ≡ walked ++ next → next ≡ [] → IsCallWalk g rs walked next
      → AreCallsByUse g calls
  calls_in_order calls walked next e none w =
      let roots = plain_calls rs in
      let all : IsWalk (calls_by g) roots (roots ++ walked) [] = subst (IsWalk (calls_by g) roots (roots ++ walked)) none w in
      let same : all.found ≡ calls =
      append_cancel_left roots all.found calls (sym all.all_is ∙ append-nil (roots ++ walked)
      ∙ ap (λ l. roots ++ l) (sym (append-nil walked) ∙ ap (λ l. walked ++ l) (sym none) ∙ sym e)) in
      subst (λ l. AreInOrderOfUse (UsesCalls g) l calls) (sym written_are_plain)
      (subst (AreInOrderOfUse (UsesCalls g) roots) same
      (walk_done (UsesCalls g) (calls_by g) (uses_calls g) roots (roots ++ walked) all))

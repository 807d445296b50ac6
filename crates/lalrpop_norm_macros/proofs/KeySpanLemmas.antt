-- Spans of keys that are looked for are places where these are met, and what is told meanwhile is told of a call that is made; for the
-- pass.
use Rattle.std.proofs.Common.{◌≡◌, ℕ, zero, suc, ◌+◌, List, [], ◌∷◌, ◌++◌, refl, ap, sym, ◌∙◌}
use Rattle.std.proofs.Common.{subst, inl, inr, arith, map}
use Rattle.std.specs.Prelude.{◌⊎◌, Bool, Option, None, slice_get, unwrap_or}
use Rattle.lalrpop_grammar_symbols.specs.Symbols.{Text, TextSpan, Closed, Closeds}
use Rattle.lalrpop_grammar_symbols.specs.Views.{span_view}
use Rattle.lalrpop_grammar_symbols.specs.declared.span.Span.{Span}
use Rattle.lalrpop_grammar.specs.Views.{grammar_view}
use Rattle.lalrpop_grammar.specs.WrittenGrammar.{Grammar, Rule, rules_of}
use Rattle.lalrpop_grammar_language.specs.Among.{Among}
use Rattle.lalrpop_grammar_language.specs.Enabled.{EnabledGrammar, enabled_grammar}
use Rattle.lalrpop_grammar_language.specs.Expansion.{IsRoot, Nonterminal}
use Rattle.lalrpop_grammar_repr.specs.declared.session.NormFault.{NormFault}
use Rattle.lalrpop_grammar_repr.specs.declared.session.NormFault.TheVariants as faults
use Rattle.lalrpop_grammar_rules.specs.RuleTable.{IsOfGrammar, rules_with}
use Rattle.lalrpop_grammar_rules.specs.declared.table.Rules as table
use Rattle.lalrpop_norm_theory.specs.Between.{grammar_between}
use Rattle.lalrpop_norm_theory.specs.Depth.{HasCallChain}
use Rattle.lalrpop_norm_theory.specs.Rounds.{AreCallsToDepth}
use Rattle.lalrpop_grammar_language.proofs.OrderLemmas.{among_parts}
use Rattle.lalrpop_norm_theory.specs.KeyTables.{IsKeyTable}
use Rattle.lalrpop_norm_keys.specs.KeyPlaces.{IsKeyPlace, IsShapeKey}
use Rattle.lalrpop_norm_keys.specs.FoundCalls.{TellsOfMadeCall, TellsOfOneCall, plain_calls}
use Rattle.lalrpop_norm_keys.specs.SearchPremises.{CanSearch}
use Rattle.lalrpop_norm_keys.proofs.FaultLemmas.{made_alike}
use Rattle.lalrpop_norm_keys.proofs.FoundLemmas.{plain_call_is, plain_is_root}
use Rattle.lalrpop_norm_keys.proofs.OriginLemmas.{plain_grammar}
use Rattle.lalrpop_norm_keys.proofs.PlainGrammarLemmas.{calls_alike, keys_alike, root_alike, table_alike}
use Rattle.lalrpop_norm_keys.proofs.PremiseLemmas.{flat_back, single_back}
use Rattle.lalrpop_norm_keys.specs.GrammarPlaces.{HasKeySpans}
use Rattle.lalrpop_norm_keys.specs.KeySpanLaws.{AreKeyPlaces}
use Rattle.lalrpop_norm_keys.proofs.KeySpanLemmas.{keys_placed}
use Rattle.lalrpop_norm_keys.proofs.PlainPlaceLemmas.{key_place_alike}
use Rattle.lalrpop_norm_macros.specs.FinishedRules.{AreRulesFrom}
use Rattle.lalrpop_norm_macros.specs.KeyRuleLaws.{HasRightKeys}
use Rattle.lalrpop_norm_macros.specs.WrittenKeys.{span_of_key}
use Rattle.lalrpop_norm_macros.proofs.UsableKeyLemmas.{call_holder}

-- each repeat, group and lookaround among these is met at its place, from one on
abbrev pub ArePlacedFrom : EnabledGrammar → (ℕ → TextSpan) → ℕ → List Closed → Type 0
ArePlacedFrom g places k [] = Unit {0}
ArePlacedFrom g places k (x ∷ xs) = (IsShapeKey x → IsKeyPlace g x (places k)) × ArePlacedFrom g places (k + 1) xs

-- so is the rule of each
pub rules_placed : (g : EnabledGrammar) (places : ℕ → TextSpan) (P : ℕ → Closed → Rule → Type 0) (k : ℕ) (xs : List Closed)
    (rs : List Rule) → AreRulesFrom P k xs rs → ArePlacedFrom g places k xs
    → AreRulesFrom (λ i x r. P i x r × (IsShapeKey x → IsKeyPlace g x (places i))) k xs rs
rules_placed g places P k [] rs e w = e
rules_placed g places P k (x ∷ xs) rs (r, rest, e, p, more) (h, later) =
    (r, rest, e, (p, h), rules_placed g places P (k + 1) xs rest more later)

-- the places that spans tell
spans_placed : (g : EnabledGrammar) (places : ℕ → TextSpan) (other : TextSpan) (k : ℕ) (xs : List Closed) (ps : List TextSpan)
    → ((i : ℕ) → places (k + i) ≡ unwrap_or (slice_get ps i) other) → AreKeyPlaces g xs ps → ArePlacedFrom g places k xs
spans_placed g places other k [] ps at w = tt
spans_placed g places other k (x ∷ xs) ps at (p, rest, e, h, more) =
    (λ shape. subst (IsKeyPlace g x) (sym here) (h shape), spans_placed g places other (k + 1) xs rest later more)
  where
    here : places k ≡ p
    here =
        let same : k ≡ k + 0 = omega arith in
        ap places same ∙ at 0 ∙ ap (λ (l : List TextSpan). unwrap_or (slice_get l 0) other) e

    later : (i : ℕ) → places (k + 1 + i) ≡ unwrap_or (slice_get rest i) other
    later i =
        let same : k + 1 + i ≡ k + suc i = omega arith in
        ap places same ∙ at (suc i) ∙ ap (λ (l : List TextSpan). unwrap_or (slice_get l (suc i)) other) e

span_there : (spans : List Span) (other : TextSpan) (i : ℕ)
    → span_of_key spans other i ≡ unwrap_or (slice_get (map span_view spans) i) other
span_there [] other i = refl
span_there (s ∷ spans) other zero = refl
span_there (s ∷ spans) other (suc i) = span_there spans other i

placed_alike : (g h : EnabledGrammar) → plain_grammar g ≡ plain_grammar h → (places : ℕ → TextSpan) (k : ℕ) (xs : List Closed)
    → ArePlacedFrom g places k xs → ArePlacedFrom h places k xs
placed_alike g h alike places k [] w = tt
placed_alike g h alike places k (x ∷ xs) (p, more) =
    (λ shape. key_place_alike g h alike x (places k) (p shape), placed_alike g h alike places (k + 1) xs more)

module _ (finds : Text → Text → Option Bool) (t : table.Rules) (w : Grammar) (of : IsOfGrammar [] w t) (keys : List Closed)
    (right : HasRightKeys finds [] w keys) where
  abbrev enabled : EnabledGrammar
  enabled = enabled_grammar finds [] w

  abbrev between : EnabledGrammar
  between = grammar_between finds w

  table_same : rules_with finds t ≡ enabled
  table_same =
      ap (λ (l : List Text). enabled_grammar finds l (grammar_view t.grammar.now)) of.0 ∙ ap (enabled_grammar finds []) of.1

  alike : plain_grammar enabled ≡ plain_grammar between
  alike = table_alike finds [] w right.active

  -- what the search rests on
  can : CanSearch enabled [] w
  can = record {
    flat = flat_back enabled between alike right.flat;
    single = single_back enabled between alike right.right.resolved.rules;
    enabled = λ r i. (right.active r i).rule;
  }

  found : AreCallsToDepth enabled right.depth right.calls []
  found = calls_alike between enabled (sym alike) right.depth right.calls [] right.found

  keys_table : IsKeyTable enabled right.calls keys
  keys_table = keys_alike between enabled (sym alike) right.calls keys right.table

  -- each key is met where its span says
  pub found_placed : (spans : List Span) (other : TextSpan)
      → HasKeySpans (rules_with finds t) (rules_of w.items) other keys (map span_view spans)
      → ArePlacedFrom between (span_of_key spans other) 0 keys
  found_placed spans other h =
      placed_alike enabled between alike (span_of_key spans other) 0 keys
      (spans_placed enabled (span_of_key spans other) other 0 keys (map span_view spans) at
      (keys_placed enabled [] (rules_of w.items) refl can.enabled can.single can.flat right.depth right.calls keys found keys_table
      other (map span_view spans)
      (subst (λ (g : EnabledGrammar). HasKeySpans g (rules_of w.items) other keys (map span_view spans)) table_same h)))
    where
      at : (i : ℕ) → span_of_key spans other (0 + i) ≡ unwrap_or (slice_get (map span_view spans) i) other
      at i = let same : 0 + i ≡ i = omega arith in ap (span_of_key spans other) same ∙ span_there spans other i

  -- a call whose keys are looked for is made
  abbrev IsMadeCall : Closed → Type 0
  IsMadeCall y = IsRoot enabled (Nonterminal.closed y) ⊎ ((k : ℕ) × HasCallChain enabled k y)

  key_made : (n : Text) (args : Closeds) → Among keys (Closed.call n args None) → IsMadeCall (Closed.call n args None)
  key_made n args i = go (call_holder between right.right right.flat right.depth right.calls keys right.found right.table n args None i).1
    where
      go : IsRoot between (Nonterminal.closed (Closed.call n args None)) ⊎ Among right.calls (Closed.call n args None)
          → IsMadeCall (Closed.call n args None)
      go (inl r) = inl (root_alike between enabled (sym alike) (Closed.call n args None) r)
      go (inr j) = let c = found.chains (Closed.call n args None) j in inr (c.0, c.2)

  walked_made : (n : Text) (args : Closeds) → Among (plain_calls (rules_of w.items) ++ keys) (Closed.call n args None)
      → IsMadeCall (Closed.call n args None)
  walked_made n args i = go (among_parts (plain_calls (rules_of w.items)) keys (Closed.call n args None) i)
    where
      go : Among (plain_calls (rules_of w.items)) (Closed.call n args None) ⊎ Among keys (Closed.call n args None)
          → IsMadeCall (Closed.call n args None)
      go (inl j) =
          inl (plain_is_root enabled [] (rules_of w.items) refl can.enabled can.single can.flat (Closed.call n args None)
          (plain_call_is (rules_of w.items) (Closed.call n args None) j))
      go (inr j) = key_made n args j

  told_enabled : (deep : Text → Bool) (f : NormFault) → TellsOfOneCall enabled deep (plain_calls (rules_of w.items) ++ keys) f
      → TellsOfMadeCall enabled deep f
  told_enabled deep faults.Memory h = tt
  told_enabled deep (faults.Norm e) (n, args, i, h) = (n, args, walked_made n args i, h)
  told_enabled deep faults.ConditionLimit (n, args, i, h) = (n, args, walked_made n args i, h)

  -- so what is told of a condition of it is told of a call that is made
  pub told_of_walked_keys : (deep : Text → Bool) (f : NormFault)
      → TellsOfOneCall (rules_with finds t) deep (plain_calls (rules_of w.items) ++ keys) f → TellsOfMadeCall between deep f
  told_of_walked_keys deep f h =
      made_alike enabled between alike deep f
      (told_enabled deep f
      (subst (λ (g : EnabledGrammar). TellsOfOneCall g deep (plain_calls (rules_of w.items) ++ keys) f) table_same h))

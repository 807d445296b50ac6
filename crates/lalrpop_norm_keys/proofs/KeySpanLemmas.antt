-- Each repeat, group and lookaround of a finished table is met where its span says; for the law of the spans of keys.
use Rattle.std.proofs.Common.{◌≡◌, ℕ, zero, ◌++◌, List, [], ◌∷◌, refl, sym, subst, inl, inr}
use Rattle.std.proofs.Common.{◌⊎◌, map, true}
use Rattle.std.specs.Prelude.{filter}
use Rattle.lalrpop_grammar_symbols.specs.Symbols.{TextSpan, Text, Closed}
use Rattle.lalrpop_grammar.specs.WrittenGrammar.{Rule}
use Rattle.lalrpop_grammar_language.specs.Among.{Among}
use Rattle.lalrpop_grammar_language.specs.Enabled.{EnabledGrammar, EnabledRule, IsRule, enabled_rule, is_active}
use Rattle.lalrpop_grammar_language.specs.Expansion.{InExpansion, IsRoot, Nonterminal}
use Rattle.lalrpop_norm_theory.specs.Premises.{HasNoLevels}
use Rattle.lalrpop_norm_theory.specs.Rounds.{AreCallsToDepth}
use Rattle.lalrpop_grammar_language.proofs.StepLemmas.{among_right}
use Rattle.lalrpop_grammar_language.proofs.StepLemmas.{among_left}
use Rattle.lalrpop_grammar_language.proofs.OrderLemmas.{among_parts}
use Rattle.lalrpop_norm_theory.proofs.ExpansionListLemmas.{rule_there}
use Rattle.lalrpop_norm_theory.specs.KeyTables.{IsKeyTable, IsMetKey, IsNoCall, IsPlainKey, KeyStandsIn}
use Rattle.lalrpop_norm_theory.proofs.KeyTableLemmas.{table_reached}
use Rattle.lalrpop_norm_keys.specs.FoundCalls.{plain_calls}
use Rattle.lalrpop_norm_keys.proofs.FoundLemmas.{chain_is_call, plain_call_is, plain_is_root, root_is_plain}
use Rattle.lalrpop_norm_keys.proofs.RightCallLemmas.{root_right}
use Rattle.lalrpop_norm_keys.specs.KeyPlaces.{IsKeyPlace, IsKeyPlaceIn, IsShapeKey}
use Rattle.lalrpop_norm_keys.specs.MetKeys.{MetKey}
use Rattle.lalrpop_norm_keys.proofs.KeyStandingLemmas.{shape_no_call}
use Rattle.lalrpop_norm_keys.proofs.MadeKeyLemmas.{beside_placed}
use Rattle.lalrpop_norm_keys.specs.FirstPlaces.{AreKeySpans, IsKeySpan, IsMetFirst}
use Rattle.lalrpop_norm_keys.specs.GrammarPlaces.{HasKeySpans}
use Rattle.lalrpop_norm_keys.specs.KeySpanLaws.{AreKeyPlaces}
use Rattle.lalrpop_norm_keys.proofs.MetPlaceLemmas.{in_calls, put_in_calls, stands_beside}

pub met_first_there : (ms : List MetKey) (x : Closed) (p : TextSpan) → IsMetFirst ms x p → Among ms (x, p)
met_first_there ms x p w =
    subst (λ (l : List MetKey). Among l (x, p)) (sym w.parts) (among_right w.before ((x, p) ∷ w.after) (x, p) (inl refl))

module _ (g : EnabledGrammar) (features : List Text) (rs : List Rule)
    (rules_are : g.rules ≡ map (enabled_rule features) (filter (λ r. is_active features r.attributes) rs))
    (enabled : (r : Rule) → Among rs r → is_active features r.attributes ≡ true)
    (single : (r : EnabledRule) → Among g.rules r → IsRule g r.name r) (flat : HasNoLevels g)
    (depth : ℕ) (calls keys : List Closed) (are : AreCallsToDepth g depth calls []) (table : IsKeyTable g calls keys) (other : TextSpan)
    (given : List TextSpan) (spans : HasKeySpans g rs other keys given) where
  -- each of the calls that are walked is made
  walked_made : (y : Closed) → Among (plain_calls rs) y ⊎ Among keys y → InExpansion g (Nonterminal.closed y)
  walked_made y (inl i) = (zero, plain_is_root g features rs rules_are enabled single flat y (plain_call_is rs y i))
  walked_made y (inr i) = table_reached g depth calls keys (λ n r j. flat r (rule_there g n r j).0) are table y i

  -- so what is met has its place
  met_placed : (m : MetKey) → Among spans.met m → IsKeyPlace g m.0 m.1
  met_placed m i = go (in_calls g flat (plain_calls rs ++ keys) [] spans.met spans.are_met m i)
    where
      go : ⊥ ⊎ ((y : Closed) × Among (plain_calls rs ++ keys) y × IsKeyPlaceIn g y m.0 m.1) → IsKeyPlace g m.0 m.1
      go (inl j) = absurd j
      go (inr (y, j, q)) = (y, walked_made y (among_parts (plain_calls rs) keys y j), q)

  -- each repeat, group and lookaround is met
  holder_walked : (y : Closed) → IsRoot g (Nonterminal.closed y) ⊎ Among calls y → Among (plain_calls rs ++ keys) y
  holder_walked y (inl r) =
      among_left (plain_calls rs) keys y (root_is_plain g features rs rules_are enabled single flat y r)
  holder_walked y (inr i) = among_right (plain_calls rs) keys y (table.calls_too y i)

  holder_is_call : (y : Closed) → IsRoot g (Nonterminal.closed y) ⊎ Among calls y → IsNoCall y → ⊥
  holder_is_call y (inl r) k = (root_right g flat y r).1 k
  holder_is_call y (inr i) k = let c = are.chains y i in chain_is_call g c.0 y c.2 k

  shape_met : (x : Closed) → IsShapeKey x → (y : Closed) → IsRoot g (Nonterminal.closed y) ⊎ Among calls y → KeyStandsIn g y x
      → (p : TextSpan) × Among spans.met (x, p)
  shape_met x shape y w s =
      let u = beside_placed g y x shape (stands_beside g y x (holder_is_call y w) shape s) in
      (u.0, put_in_calls g flat (plain_calls rs ++ keys) [] spans.met spans.are_met y (holder_walked y w) (x, u.0) u.1)

  key_met : (x : Closed) → IsShapeKey x → Among keys x → (p : TextSpan) × Among spans.met (x, p)
  key_met x shape i = go (table.no_other x i)
    where
      go : IsPlainKey g x ⊎ (Among calls x ⊎ IsMetKey g calls x) → (p : TextSpan) × Among spans.met (x, p)
      go (inl k) = absurd (subst IsShapeKey k.key_is shape)
      go (inr (inl j)) = absurd (holder_is_call x (inr j) (shape_no_call x shape))
      go (inr (inr m)) = shape_met x shape m.holder m.walked m.stands

  -- where its span says
  one_placed : (x : Closed) → Among keys x → (p : TextSpan) → IsKeySpan spans.met other x p → IsShapeKey x → IsKeyPlace g x p
  one_placed x i p (IsKeySpan.met w) shape = met_placed (x, p) (met_first_there spans.met x p w)
  one_placed x i p (IsKeySpan.nowhere none e) shape = let u = key_met x shape i in absurd (none u.0 u.1)

  all_placed : (xs : List Closed) (ps : List TextSpan) → ((x : Closed) → Among xs x → Among keys x)
      → AreKeySpans spans.met other xs ps → AreKeyPlaces g xs ps
  all_placed [] ps there e = e
  all_placed (x ∷ xs) ps there (p, rest, e, k, w) =
      (p, rest, e, λ shape. one_placed x (there x (inl refl)) p k shape, all_placed xs rest (λ z j. there z (inr j)) w)

  pub keys_placed : AreKeyPlaces g keys given
  keys_placed = all_placed keys given (λ x i. i) spans.spans

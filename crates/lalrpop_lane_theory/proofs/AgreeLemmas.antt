-- Right answers to tokens are one, but that where the tokens are no sentence one may be the limit: for that law on answers.
use Rattle.std.proofs.Common.{◌≡◌, ◌∙◌, ◌⊎◌, ℕ, suc, ◌<◌, ◌≤◌, List, [], ◌++◌, take, drop, refl, sym, ap, subst, inl, inr, arith}
use Rattle.std.proofs.Common.{Contains, append_assoc, append-nil}
use Rattle.std.proofs.lemmas.Bool.{cases_lt}
use Rattle.std.proofs.lemmas.List.{take-append-drop, take-take}
use Rattle.lalrpop_grammar_symbols.specs.Symbols.{Terminal, Text}
use Rattle.lalrpop_lr1_theory.specs.Productions.{Production}
use Rattle.lalrpop_lr1_theory.specs.Trees.{Forest, IsTreeOf, yield}
use Rattle.lalrpop_lr1_theory.specs.States.{HasEdge, HasItem, Reduces, State}
use Rattle.lalrpop_lr1_theory.specs.Answers.{BeginsYieldOf, IsRightParseAnswer, IsYieldOf, ParseAnswer, RunEnds, over_limit, tree}
use Rattle.lalrpop_lr1_theory.specs.Answers.{wrong_end, wrong_token}
use Rattle.lalrpop_lr1_theory.specs.CheckedStates.{AreCheckedStates, IsStartAlone}
use Rattle.lalrpop_lr1_theory.proofs.AnswerLemmas.{ends_right}
use Rattle.lalrpop_lr1_theory.proofs.CheckedLemmas.{checked_automaton}
use Rattle.lalrpop_lr1_theory.proofs.WalkLemmas.{one_tree}

-- what begins a sentence begins one so far as its front goes
begins_less : (G : Production → Type 0) (s : Text) (i : ℕ) (u : List Terminal) → BeginsYieldOf G s u →
    BeginsYieldOf G s (take i u)
begins_less G s i u b =
    record {
      tree = b.tree;
      left = drop i u ++ b.left;
      is_tree = b.is_tree;
      leaves = b.leaves ∙ ap (λ v. v ++ b.left) (sym (take-append-drop i u)) ∙ append_assoc (take i u) (drop i u) b.left;
    }

-- and a sentence begins one
yield_begins : (G : Production → Type 0) (s : Text) (u : List Terminal) → IsYieldOf G s u → BeginsYieldOf G s u
yield_begins G s u h =
    record { tree = h.0; left = []; is_tree = h.1; leaves = h.2 ∙ sym (append-nil u) }

module _ (G : Production → Type 0) (s : Text)
    (one : (ts us : Forest) → IsTreeOf G s ts → IsTreeOf G s us → yield ts ≡ yield us → ts ≡ us)
    (w : List Terminal) (limit : ℕ) where
  abbrev IsRight : ParseAnswer → Type 0
  IsRight = IsRightParseAnswer G s w limit

  -- the answers are one, or one is the limit, and the tokens are no sentence
  abbrev Agree : ParseAnswer → ParseAnswer → Type 0
  Agree a b = (a ≡ b) ⊎ ((IsYieldOf G s w → ⊥) × ((a ≡ over_limit) ⊎ (b ≡ over_limit)))

  token_no_yield : (i : ℕ) → IsRight (wrong_token i) → IsYieldOf G s w → ⊥
  token_no_yield i r h = r.2 (begins_less G s (suc i) w (yield_begins G s w h))

  begins_shorter : (i j : ℕ) → i < j → BeginsYieldOf G s (take j w) → BeginsYieldOf G s (take (suc i) w)
  begins_shorter i j h b =
      subst (BeginsYieldOf G s) (take-take (suc i) j w h) (begins_less G s (suc i) (take j w) b)

  same_place : (i j : ℕ) → IsRight (wrong_token i) → IsRight (wrong_token j) → (i < j) ⊎ (j ≤ i) → (j < i) ⊎ (i ≤ j) → i ≡ j
  same_place i j a b (inl h) k = absurd (a.2 (begins_shorter i j h b.1))
  same_place i j a b (inr h) (inl k) = absurd (b.2 (begins_shorter j i k a.1))
  same_place i j a b (inr h) (inr k) = omega (arith, h, k)

  pub right_agree : (a b : ParseAnswer) → IsRight a → IsRight b → Agree a b
  right_agree (tree t) (tree u) a b = inl (ap tree (one t u a.0 b.0 (a.1 ∙ sym b.1)))
  right_agree (tree t) (wrong_token j) a b = absurd (token_no_yield j b (t, a.0, a.1))
  right_agree (tree t) wrong_end a b = absurd (b.1 (t, a.0, a.1))
  right_agree (tree t) over_limit a b = let z = b.0 t a.0 a.1 in absurd (omega (arith, z, a.2))
  right_agree (wrong_token i) (tree u) a b = absurd (token_no_yield i a (u, b.0, b.1))
  right_agree (wrong_token i) (wrong_token j) a b =
      inl (ap wrong_token (same_place i j a b (cases_lt i j) (cases_lt j i)))
  right_agree (wrong_token i) wrong_end a b = absurd (a.2 (begins_less G s (suc i) w b.0))
  right_agree (wrong_token i) over_limit a b = inr (token_no_yield i a, inr refl)
  right_agree wrong_end (tree u) a b = absurd (a.1 (u, b.0, b.1))
  right_agree wrong_end (wrong_token j) a b = absurd (b.2 (begins_less G s (suc j) w a.0))
  right_agree wrong_end wrong_end a b = inl refl
  right_agree wrong_end over_limit a b = inr (a.1, inr refl)
  right_agree over_limit (tree u) a b = let z = a.0 u b.0 b.1 in absurd (omega (arith, z, b.2))
  right_agree over_limit (wrong_token j) a b = inr (token_no_yield j b, inl refl)
  right_agree over_limit wrong_end a b = inr (b.1, inl refl)
  right_agree over_limit over_limit a b = inl refl

-- runs over two lists of checked states end so
pub ends_agree : (grammar : List Production) (s : Text) (states others : List State) → IsStartAlone grammar s →
    AreCheckedStates grammar s states → AreCheckedStates grammar s others → (w : List Terminal) (limit : ℕ) (a b : ParseAnswer) →
    RunEnds states s w limit a → RunEnds others s w limit b →
    (a ≡ b) ⊎ ((IsYieldOf (Contains grammar) s w → ⊥) × ((a ≡ over_limit) ⊎ (b ≡ over_limit)))
ends_agree grammar s states others alone ok other w limit a b e f =
    right_agree (Contains grammar) s
    (one_tree (Contains grammar) s (HasItem states) (HasEdge states) (Reduces states)
    (checked_automaton grammar s states ok).automaton alone) w limit a b (ends_right grammar s states alone ok w limit a e)
    (ends_right grammar s others alone other w limit b f)

-- Before the first step each production has the label in which nothing is inlined: for the labels of an inlined grammar.
use Rattle.std.proofs.Common.{◌≡◌, ◌∙◌, ℕ, List, [], ◌∷◌, ap, refl, sym, subst, true, false, map, inl, inr}
use Rattle.std.specs.Prelude.{Bool}
use Rattle.std.specs.Ordering.{is_eq}
use Rattle.lalrpop_grammar_symbols.specs.Symbols.{Text}
use Rattle.lalrpop_grammar_symbols.specs.contracts.names.NonterminalStringOrd.TheImpl as names
use Rattle.lalrpop_grammar_language.specs.Among.{Among}
use Rattle.lalrpop_grammar_language.specs.Expansion.{GrammarSymbol}
use Rattle.lalrpop_grammar_symbols.specs.declared.names.NonterminalString.{NonterminalString}
use Rattle.lalrpop_grammar_repr.specs.declared.production.NonterminalData.{NonterminalData}
use Rattle.lalrpop_grammar_repr.specs.declared.production.Production.{Production}
use Rattle.lalrpop_grammar_language.specs.Labels.{BaseProductions, GrammarSymbols, Inlinings, Label}
use Rattle.lalrpop_grammar_language.specs.Inlining.{Inlines, InlinesAll, IsNotInlined}
use Rattle.lalrpop_lr1_inline.specs.InlinedNames.{NonterminalEntries, name_of_text}
use Rattle.lalrpop_lr1_inline.specs.InliningSteps.{productions_named}
use Rattle.lalrpop_lr1_inline.specs.NamedProductions.{ProducesByAction, keeps_all, label_given, side_by_names}
use Rattle.lalrpop_lr1_inline.proofs.StepsLemmas.{looked_by}
use Rattle.lalrpop_lr1_inline.specs.InlinedLabels.{HasLabelled, StandOnce, production_actions}
use Rattle.lalrpop_lr1_inline.proofs.OnceLemmas.{once_by, once_left, once_right}
use Rattle.lalrpop_lr1_inline.proofs.StepLabelLemmas.{AreProductionsBy}

-- where nothing is inlined each symbol is kept
module _ (M : BaseProductions Text ℕ) (In : Text → Type 0) (none : (x : Text) → In x → ⊥) where
  not_inlined : (p : GrammarSymbol Text) → IsNotInlined In p
  not_inlined (GrammarSymbol.terminal t) = tt
  not_inlined (GrammarSymbol.nonterminal x) = none x

  keeps_inlines : (side : GrammarSymbols Text) → InlinesAll M In side (keeps_all side) side
  keeps_inlines [] = refl
  keeps_inlines (p ∷ side) = (not_inlined p, side, refl, keeps_inlines side)

  kept_only : (inlinings : Inlinings Text ℕ) (before side : GrammarSymbols Text) → InlinesAll M In before inlinings side →
      (keeps_all before ≡ inlinings) × (before ≡ side)
  kept_only Inlinings.none [] side h = (refl, sym h)
  kept_only (Inlinings.kept inlinings) [] side h = absurd h
  kept_only (Inlinings.inlined label inlinings) [] side h = absurd h
  kept_only Inlinings.none (p ∷ before) side h = absurd h
  kept_only (Inlinings.kept inlinings) (p ∷ before) side h =
      let r = kept_only inlinings before h.1 h.3 in
      (ap Inlinings.kept r.0, ap (λ l. p ∷ l) r.1 ∙ sym h.2)
  kept_only (Inlinings.inlined label inlinings) (GrammarSymbol.terminal t ∷ before) side h = absurd h
  kept_only (Inlinings.inlined label inlinings) (GrammarSymbol.nonterminal x ∷ before) side h = absurd (none x h.0)

abbrev action_number : Production → ℕ
action_number p = p.action.0

-- each of the nonterminal's productions has an action of its own
named_once : (es : NonterminalEntries) (x : Text) → StandOnce (production_actions es) →
    StandOnce (map action_number (productions_named es x))
named_once [] x h = tt
named_once (e ∷ es) x h =
    go (is_eq ((names.ghosts).cmp (name_of_text x) e.0)) refl
    (named_once es x (once_right (map action_number e.1.productions) (production_actions es) h))
  where
    go : (b : Bool) → is_eq ((names.ghosts).cmp (name_of_text x) e.0) ≡ b → StandOnce (map action_number (productions_named es x)) →
        StandOnce (map action_number (productions_named (e ∷ es) x))
    go true f ih =
        subst (λ (l : List Production). StandOnce (map action_number l)) (sym (looked_by x e es true f))
        (once_left (map action_number e.1.productions) (production_actions es) h)
    go false f ih = subst (λ (l : List Production). StandOnce (map action_number l)) (sym (looked_by x e es false f)) ih

module _ (es : NonterminalEntries) (lab : ℕ → Label Text ℕ) (In : Text → Type 0) (none : (x : Text) → In x → ⊥)
    (given : (n : Text) (p : Production) → Among (productions_named es n) p →
    lab p.action.0 ≡ label_given n p.action.0 (side_by_names p.symbols)) where
  given_sound : (x : Text) (p : Production) → Among (productions_named es x) p →
      Inlines (ProducesByAction es) In x (lab p.action.0) (side_by_names p.symbols)
  given_sound x p i =
      subst (λ (l : Label Text ℕ). Inlines (ProducesByAction es) In x l (side_by_names p.symbols)) (sym (given x p i))
      (refl, side_by_names p.symbols, (p, i, refl, refl), keeps_inlines (ProducesByAction es) In none (side_by_names p.symbols))

  given_all : (x : Text) (label : Label Text ℕ) (side : GrammarSymbols Text) → Inlines (ProducesByAction es) In x label side →
      HasLabelled es lab x label side
  given_all x (Label.choose y c inlinings) side h =
      let p = h.2.0 in
      let r = kept_only (ProducesByAction es) In none inlinings h.1 side h.3 in
      record {
        production = p;
        stands = h.2.1;
        label_is = given x p h.2.1 ∙ ap (λ (z : Text). label_given z p.action.0 (side_by_names p.symbols)) (sym h.0)
            ∙ ap (λ (k : ℕ). label_given y k (side_by_names p.symbols)) h.2.2
            ∙ ap (λ (s : GrammarSymbols Text). label_given y c s) h.2.3 ∙ ap (Label.choose y c) r.0;
        side_is = h.2.3 ∙ r.1;
      }

  given_told : (x : Text) (p q : Production) → Among (productions_named es x) p → Among (productions_named es x) q →
      lab p.action.0 ≡ lab q.action.0 → p.action.0 ≡ q.action.0
  given_told x p q i j e =
      let f : label_given x p.action.0 (side_by_names p.symbols) ≡ label_given x q.action.0 (side_by_names q.symbols) =
      sym (given x p i) ∙ e ∙ given x q j in
      choice_told x p.action.0 q.action.0 (keeps_all (side_by_names p.symbols)) (keeps_all (side_by_names q.symbols)) f
    where
      choice_told : (x : Text) (a b : ℕ) (i j : Inlinings Text ℕ) → Label.choose x a i ≡ Label.choose x b j → a ≡ b
      choice_told x a b i j g = cc

  pub given_labels : StandOnce (production_actions es) → AreProductionsBy (ProducesByAction es) In lab es
  given_labels own = record {
    sound = given_sound;
    all = given_all;
    once = λ x.
        once_by action_number (λ (p : Production). lab p.action.0) (productions_named es x) (given_told x) (named_once es x own);
  }

-- a production that is found under a name stands in an entry
pub named_stands : (es : NonterminalEntries) (x : Text) (p : Production) → Among (productions_named es x) p →
    (e : NonterminalString × NonterminalData) × Among es e × Among e.1.productions p
named_stands [] x p i = absurd i
named_stands (d ∷ es) x p i = go (is_eq ((names.ghosts).cmp (name_of_text x) d.0)) refl (named_stands es x p)
  where
    go : (b : Bool) → is_eq ((names.ghosts).cmp (name_of_text x) d.0) ≡ b →
        (Among (productions_named es x) p → (e : NonterminalString × NonterminalData) × Among es e × Among e.1.productions p) →
        (e : NonterminalString × NonterminalData) × Among (d ∷ es) e × Among e.1.productions p
    go true f later = (d, inl refl, subst (λ (l : List Production). Among l p) (looked_by x d es true f) i)
    go false f later =
        let w = later (subst (λ (l : List Production). Among l p) (looked_by x d es false f) i) in
        (w.0, inr w.1, w.2)

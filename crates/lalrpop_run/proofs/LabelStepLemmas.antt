-- How a step of inlining orders labels: those made of two by the order of these, those made of one by the order of their records.
use Rattle.std.proofs.Common.{◌≡◌, ◌∙◌, ◌≤◌, ◌⊎◌, inl, inr, ℕ, List, [], ◌∷◌, Some, ap, subst, sym, take}
use Rattle.std.specs.Prelude.{slice_get}
use Rattle.lalrpop_lr1_theory.proofs.StepLemmas.{some_same}
use Rattle.lalrpop_grammar_language.specs.Among.{Among}
use Rattle.lalrpop_grammar_language.specs.Expansion.{GrammarSymbol}
use Rattle.lalrpop_grammar_language.specs.Labels.{BaseProductions, GrammarSymbols, Inlinings, Label}
use Rattle.lalrpop_grammar_language.specs.Inlining.{HaveOneSide, Inlines, InlinesAll}
use Rattle.lalrpop_grammar_language.specs.Steps.{IsRecord, NeverNamesItself, OneMore, RecordedSymbol, fill_inlinings, label_with}
use Rattle.lalrpop_grammar_language.specs.Steps.{symbols_after, symbols_before}
use Rattle.lalrpop_grammar_language.proofs.OrderLemmas.{among_parts}
use Rattle.lalrpop_grammar_language.proofs.StepLawLemmas.{step_makes}
use Rattle.lalrpop_grammar_language.proofs.StepLemmas.{Lacks}
use Rattle.lalrpop_run.specs.ProductionOrders.{DifferFirstAt, IsInlinedSooner, IsLabelBefore, IsMadeWithin, IsReplacedFirst}
use Rattle.lalrpop_run.specs.ProductionOrders.{inlined_at, label_head}
use Rattle.lalrpop_run.proofs.FilledLabelLemmas.{IsRecordBefore, Puts, filled_apart, filled_new, filled_puts, place_inlines}
use Rattle.lalrpop_run.proofs.FilledLabelLemmas.{put_old, put_stays}

either_absurd : {A B : Type 0} → (A → ⊥) → (B → ⊥) → A ⊎ B → ⊥
either_absurd f g (inl a) = f a
either_absurd f g (inr b) = g b

-- a nonterminal that no production of the inlined ones names
module _ {N C : Type 0} (M : BaseProductions N C) (In : N → Type 0) (n : N)
    (unnamed : (x : N) (choice : C) (side : GrammarSymbols N) → In x → M x choice side → Lacks side n) where
  mutual
    lacks_all : (inlinings : Inlinings N C) (before side : GrammarSymbols N) → InlinesAll M In before inlinings side → Lacks before n →
        Lacks side n
    lacks_all Inlinings.none [] side h d i = subst (λ (l : GrammarSymbols N). Among l (GrammarSymbol.nonterminal n)) h i
    lacks_all (Inlinings.kept inlinings) [] side h d i = absurd h
    lacks_all (Inlinings.inlined label inlinings) [] side h d i = absurd h
    lacks_all Inlinings.none (p ∷ before) side h d i = absurd h
    lacks_all (Inlinings.kept inlinings) (p ∷ before) side h d i =
        either_absurd (λ e. d (inl e)) (λ j. lacks_all inlinings before h.1 h.3 (λ k. d (inr k)) j)
        (subst (λ (l : GrammarSymbols N). Among l (GrammarSymbol.nonterminal n)) h.2 i)
    lacks_all (Inlinings.inlined label inlinings) (GrammarSymbol.terminal t ∷ before) side h d i = absurd h
    lacks_all (Inlinings.inlined label inlinings) (GrammarSymbol.nonterminal x ∷ before) side h d i =
        either_absurd (λ j. lacks_label x label h.1.front h.0 h.1.is_front j)
        (λ j. lacks_all inlinings before h.1.rest h.1.is_rest (λ k. d (inr k)) j)
        (among_parts h.1.front h.1.rest (GrammarSymbol.nonterminal n)
        (subst (λ (l : GrammarSymbols N). Among l (GrammarSymbol.nonterminal n)) h.1.side_is i))

    -- stands in none of them after inlining
    pub lacks_label : (x : N) (label : Label N C) (side : GrammarSymbols N) → In x → Inlines M In x label side → Lacks side n
    lacks_label x (Label.choose y c inlinings) side known h i =
        lacks_all inlinings h.1 side h.3 (unnamed x c h.1 known h.2) i

-- what is inlined on the right sides of labels is inlined by then
pub within_steps : {N C : Type 0} (M : BaseProductions N C) (order front : List N) (steps : ℕ) → take steps order ≡ front → (x : N)
    (label : Label N C) (side : GrammarSymbols N) → Inlines M (λ y. Among front y) x label side → IsMadeWithin order steps label
within_steps {N = N} M order front steps e x (Label.choose y c inlinings) side h =
    λ i l at.
    subst (λ (f : List N). Among f (label_head l)) (sym e)
    (place_inlines M (λ y. Among front y) inlinings h.1 side h.3 i l at).goes

module _ {N C : Type 0} (M : BaseProductions N C) (In : N → Type 0) (n : N) (one : HaveOneSide M) (fresh : In n → ⊥)
    (never : (x : N) (label : Label N C) (front : GrammarSymbols N) → In x → Inlines M In x label front → Lacks front n)
    (itself : NeverNamesItself M In n) (IsBefore : C → C → Type 0) (order : List N)
    (sooner : (y : N) → In y → IsInlinedSooner order y n) where
  abbrev Less : Label N C → Label N C → Type 0
  Less l m = IsLabelBefore N C IsBefore order l m

  -- where a place is old for the one label, it's none of the step for the other
  old_for_both : (x : N) (y : N) (c : C) (inlinings others : Inlinings N C) (side end : GrammarSymbols N)
      (qs : List (RecordedSymbol N C)) → Inlines M In x (Label.choose y c inlinings) side → Inlines M In x (Label.choose y c others) end →
      IsRecord M In n qs → symbols_before n qs ≡ end → (k : ℕ) (s t : Label N C) → inlined_at inlinings k ≡ Some s →
      inlined_at (fill_inlinings others qs).0 k ≡ Some t → label_head t ≡ n → ⊥
  old_for_both x y c inlinings others side end qs i j b f k s t old at new =
      let p = place_inlines M In inlinings i.1 side i.3 k s old in
      let w = (step_makes M In n itself x (Label.choose y c others) qs
      (subst (λ (l : GrammarSymbols N). Inlines M In x (Label.choose y c others) l) (sym f) j) b).1 in
      let q = place_inlines M (OneMore In n) (fill_inlinings others qs).0 w.1 (symbols_after qs) w.3 k t at in
      let sides : i.1 ≡ w.1 = one x c i.1 w.1 i.2 w.2 in
      let both : Some (GrammarSymbol.nonterminal (label_head s)) ≡ Some (GrammarSymbol.nonterminal (label_head t)) =
      sym p.stands ∙ ap (λ (l : GrammarSymbols N). slice_get l k) sides ∙ q.stands in
      let symbols : GrammarSymbol.nonterminal (label_head s) ≡ GrammarSymbol.nonterminal (label_head t) =
      some_same (GrammarSymbol.nonterminal (label_head s)) (GrammarSymbol.nonterminal (label_head t)) both in
      let heads : label_head s ≡ label_head t = cc in
      fresh (subst In (heads ∙ new) p.goes)

  -- labels made of two that are in order are in order
  pub sources_apart : (l m : Label N C) → IsLabelBefore N C IsBefore order l m → (x : N) (side end : GrammarSymbols N)
      (rs qs : List (RecordedSymbol N C)) → Inlines M In x l side → Inlines M In x m end → IsRecord M In n rs → IsRecord M In n qs →
      symbols_before n rs ≡ side → symbols_before n qs ≡ end → IsLabelBefore N C IsBefore order (label_with l rs) (label_with m qs)
  sources_apart l m (IsLabelBefore.by_choice y c d inlinings others h) x side end rs qs i j a b e f =
      IsLabelBefore.by_choice y c d (fill_inlinings inlinings rs).0 (fill_inlinings others qs).0 h
  sources_apart l m (IsLabelBefore.by_inlined y c inlinings others p label other u v less first) x side end rs qs i j a b e f =
      IsLabelBefore.by_inlined y c (fill_inlinings inlinings rs).0 (fill_inlinings others qs).0 p label other
      (put_stays n inlinings (fill_inlinings inlinings rs).0 left p label u)
      (put_stays n others (fill_inlinings others qs).0 right p other v) less differ
    where
      left : Puts n inlinings (fill_inlinings inlinings rs).0
      left = filled_puts M In n never inlinings i.1 side rs i.3 a e

      right : Puts n others (fill_inlinings others qs).0
      right = filled_puts M In n never others j.1 end qs j.3 b f

      goes : In (label_head label)
      goes = (place_inlines M In inlinings i.1 side i.3 p label u).goes

      differ : DifferFirstAt order (fill_inlinings inlinings rs).0 (fill_inlinings others qs).0 p (label_head label)
      differ k s t g h =
          go (put_old n inlinings (fill_inlinings inlinings rs).0 left k s g)
          (put_old n others (fill_inlinings others qs).0 right k t h)
        where
          go : (inlined_at inlinings k ≡ Some s) ⊎ (label_head s ≡ n) → (inlined_at others k ≡ Some t) ⊎ (label_head t ≡ n) →
              (s ≡ t) ⊎ IsReplacedFirst order p (label_head label) k (label_head s)
          go (inl old) (inl same) = first k s t old same
          go (inl old) (inr new) =
              absurd (old_for_both x y c inlinings others side end qs i j b f k s t old h new)
          go (inr new) other =
              inr (inl (subst (λ (z : N). IsInlinedSooner order (label_head label) z) (sym new) (sooner (label_head label) goes)))

  replaced_so : (p j : ℕ) (l k m : Label N C) → label_head l ≡ n → (k ≡ m) ⊎ ((label_head k ≡ n) × (p ≤ j)) →
      (k ≡ m) ⊎ IsReplacedFirst order p (label_head l) j (label_head k)
  replaced_so p j l k m h (inl e) = inl e
  replaced_so p j l k m h (inr g) = inr (inr (h ∙ sym g.0, g.1))

  -- and so are those made of one by records that are in order
  pub records_apart : (x : N) (l : Label N C) (side : GrammarSymbols N) (rs qs : List (RecordedSymbol N C)) → Inlines M In x l side →
      IsRecord M In n rs → IsRecord M In n qs → symbols_before n rs ≡ side → symbols_before n qs ≡ side →
      IsRecordBefore (IsLabelBefore N C IsBefore order) rs qs → IsLabelBefore N C IsBefore order (label_with l rs) (label_with l qs)
  records_apart x (Label.choose y c inlinings) side rs qs i a b e f less =
      let d = filled_apart M In n never Less inlinings i.1 side rs qs i.3 a b e f less in
      IsLabelBefore.by_inlined y c (fill_inlinings inlinings rs).0 (fill_inlinings inlinings qs).0 d.place d.label d.other d.label_at
      d.other_at d.less (λ j k m u v. replaced_so d.place j d.label k m d.head_is (d.later j k m u v))

  -- what the step makes isn't made before the nonterminal is inlined
  pub not_within : (x : N) (l : Label N C) (side : GrammarSymbols N) (symbols : List (RecordedSymbol N C)) → Inlines M In x l side →
      IsRecord M In n symbols → symbols_before n symbols ≡ side → Among side (GrammarSymbol.nonterminal n) → (steps : ℕ) →
      (Among (take steps order) n → ⊥) → IsMadeWithin order steps (label_with l symbols) → ⊥
  not_within x (Label.choose y c inlinings) side symbols i a e there steps none h =
      let w = filled_new M In n never inlinings i.1 side symbols i.3 a e there in
      none (subst (λ (z : N). Among (take steps order) z) w.3 (h w.0 w.1 w.2))

  -- but when it is inlined too
  pub made_within : (x : N) (l : Label N C) (side : GrammarSymbols N) (symbols : List (RecordedSymbol N C)) → Inlines M In x l side →
      IsRecord M In n symbols → symbols_before n symbols ≡ side → (steps : ℕ) →
      ((y : N) → OneMore In n y → Among (take steps order) y) → IsMadeWithin order steps (label_with l symbols)
  made_within x (Label.choose y c inlinings) side symbols i a e steps there =
      λ k l at.
      let w = (step_makes M In n itself x (Label.choose y c inlinings) symbols
      (subst (λ (s : GrammarSymbols N). Inlines M In x (Label.choose y c inlinings) s) (sym e) i) a).1 in
      there (label_head l)
      (place_inlines M (OneMore In n) (fill_inlinings inlinings symbols).0 w.1 (symbols_after symbols) w.3 k l at).goes

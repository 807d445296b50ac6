-- Where nothing is inlined, only productions have numbers: for the examples.
use Rattle.std.proofs.Common.{◌≡◌, ◌∙◌, ◌≤◌, ◌^◌, Bool, List, [], ◌∷◌, ◌++◌, ap, arith, false, inl, inr, length, map, refl, subst, sym, true}
use Rattle.std.specs.Prelude.{◌||◌, flat_map}
use Rattle.std.specs.List.{list_any}
use Rattle.std.specs.List.Sorted.{IsStrictlySortedBy}
use Rattle.lalrpop_grammar_symbols.specs.Symbols.{Text}
use Rattle.lalrpop_grammar.specs.WrittenGrammar.{Origin}
use Rattle.lalrpop_grammar_language.specs.Among.{Among}
use Rattle.lalrpop_grammar_language.specs.Enabled.{EnabledGrammar}
use Rattle.lalrpop_grammar_language.specs.Expansion.{GrammarSymbol, InExpansion, Nonterminal, Produces, RightSide}
use Rattle.lalrpop_grammar_language.specs.Inlining.{Inlines, InlinesAll}
use Rattle.lalrpop_grammar_language.specs.Labels.{BaseProductions, GrammarSymbols, Inlinings, Label}
use Rattle.lalrpop_grammar_language.proofs.AmongLemmas.{flat_map_among, map_among}
use Rattle.lalrpop_norm_theory.specs.Inlined.{IsInlined}
use Rattle.lalrpop_norm_theory.specs.Keys.{leveled_key_text}
use Rattle.lalrpop_norm_theory.specs.NamesByUse.{IsNamingByUse}
use Rattle.lalrpop_norm_theory.proofs.ExpansionListLemmas.{all-of, is_all}
use Rattle.lalrpop_norm_theory.proofs.ProductionListLemmas.{listed, productions_of}
use Rattle.lalrpop_run_theory.specs.ExpansionTrees.{is_inlined_nonterminal}
use Rattle.lalrpop_run_theory.proofs.InlinedTestLemmas.{inlined_decided}
use Rattle.lalrpop_run.specs.InliningNumbers.{HandsOutTooMany, HasNumbersEnough, HaveNumbers, IsLabelAtStep}
use Rattle.lalrpop_run.specs.NonterminalOrders.{IsNonterminalOrder, IsNonterminalWalk, NonterminalWalk, walked_nonterminals}
use Rattle.lalrpop_run.proofs.NumberedListLemmas.{few_among}

-- a test that finds none of a list
none_passes : {A : Type 0} (f : A → Bool) (xs : List A) → list_any f xs ≡ false → (x : A) → Among xs x → f x ≡ true → ⊥
none_passes f [] e x i t = i
none_passes {A} f (y ∷ xs) e x i t = go (f y) refl e i (λ g j. none_passes f xs g x j t)
  where
    go : (b : Bool) → f y ≡ b → (b || list_any f xs) ≡ false → Among (y ∷ xs) x → (list_any f xs ≡ false → Among xs x → ⊥) → ⊥
    go true s g j later = (let wrong : true ≡ false = g in cc)
    go false s g (inl same) later = (let wrong : false ≡ true = sym s ∙ ap f same ∙ t in cc)
    go false s g (inr j) later = later g j

-- each symbol is kept
abbrev pub all_symbols_kept : {N C : Type 0} → GrammarSymbols N → Inlinings N C
all_symbols_kept [] = Inlinings.none
all_symbols_kept (p ∷ side) = Inlinings.kept (all_symbols_kept side)

pub kept_alone : {N C : Type 0} (M : BaseProductions N C) (In : N → Type 0) → ((y : N) → In y → ⊥) → (inlinings : Inlinings N C)
    (before side : GrammarSymbols N) → InlinesAll M In before inlinings side → all_symbols_kept before ≡ inlinings
kept_alone M In none Inlinings.none [] side h = refl
kept_alone M In none (Inlinings.kept inlinings) [] side h = absurd h
kept_alone M In none (Inlinings.inlined label inlinings) [] side h = absurd h
kept_alone M In none Inlinings.none (p ∷ before) side h = absurd h
kept_alone M In none (Inlinings.kept inlinings) (p ∷ before) side h =
    ap Inlinings.kept (kept_alone M In none inlinings before h.1 h.3)
kept_alone M In none (Inlinings.inlined label inlinings) (GrammarSymbol.terminal t ∷ before) side h = absurd h
kept_alone M In none (Inlinings.inlined label inlinings) (GrammarSymbol.nonterminal x ∷ before) side h = absurd (none x h.0)

-- the labels of the productions of these nonterminals, where nothing is inlined
abbrev pub labels_of : EnabledGrammar → Nonterminal → List (Label Nonterminal Origin)
labels_of g x = map (λ (c : Origin × RightSide). Label.choose x c.0 (all_symbols_kept c.1)) (productions_of g x)

abbrev pub plain_labels : EnabledGrammar → List Nonterminal → List (Label Nonterminal Origin)
plain_labels g xs = flat_map (labels_of g) xs

-- a label in which nothing is inlined is that of a production
pub label_listed : (g : EnabledGrammar) (In : Nonterminal → Type 0) → ((y : Nonterminal) → In y → ⊥) →
    (label : Label Nonterminal Origin) (x : Nonterminal) (side : RightSide) → Inlines (Produces g) In x label side →
    Among (labels_of g x) label
label_listed g In none (Label.choose z o inlinings) x side h =
    subst (λ (l : Label Nonterminal Origin). Among (labels_of g x) l)
    (ap (λ (w : Nonterminal). Label.choose w o (all_symbols_kept h.1)) (sym h.0)
    ∙ ap (Label.choose z o) (kept_alone (Produces g) In none inlinings h.1 side h.3))
    (map_among (λ (c : Origin × RightSide). Label.choose x c.0 (all_symbols_kept c.1)) (productions_of g x) (o, h.1)
    (listed g x o h.1 h.2))

module _ (g : EnabledGrammar) (prefix : Text) (xs : List Nonterminal) (all : is_all g xs ≡ true)
    (plain : list_any (is_inlined_nonterminal g) xs ≡ false) where
  none_inlined : (x : Nonterminal) → InExpansion g x → IsInlined g x → ⊥
  none_inlined x i h = none_passes (is_inlined_nonterminal g) xs plain x (all-of g xs all x i) ((inlined_decided g x).0 h)

  nothing_first : (name_of : Nonterminal → Text) → IsNonterminalOrder g name_of []
  unfolding IsStrictlySortedBy
  nothing_first name_of = record {
    firsts = [];
    each = λ x. (λ i. absurd i, λ h. none_inlined x h.0 h.1);
    by_name = tt;
    walk = NonterminalWalk.no_more;
    is_walk = tt;
    order_is = refl;
  }

  nothing_walked : (firsts : List Nonterminal) → ((x : Nonterminal) → Among firsts x → ⊥) → (walk : NonterminalWalk) →
      IsNonterminalWalk g [] firsts walk → walked_nonterminals walk ≡ []
  nothing_walked [] none NonterminalWalk.no_more h = refl
  nothing_walked [] none (NonterminalWalk.met_before rest) h = absurd h
  nothing_walked [] none (NonterminalWalk.met_first y inside rest) h = absurd h
  nothing_walked (x ∷ xs) none walk h = absurd (none x (inl refl))

  empty_order : (name_of : Nonterminal → Text) (order : List Nonterminal) → IsNonterminalOrder g name_of order → order ≡ []
  empty_order name_of order o =
      sym o.order_is
      ∙ nothing_walked o.firsts (λ x i. let w = (o.each x).0 i in none_inlined x w.0 w.1) o.walk o.is_walk

  -- each label of a step is that of a production
  plain_label : (label : Label Nonterminal Origin) → IsLabelAtStep g [] label → Among (plain_labels g xs) label
  plain_label label a =
      flat_map_among (labels_of g) xs a.nonterminal label (all-of g xs all a.nonterminal a.known)
      (label_listed g (λ y. Among a.inlined y) (λ y i. none_done a.inlined a.left a.order_is y i) label a.nonterminal a.side a.produced)
    where
      none_done : (done left : List Nonterminal) → [] ≡ done ++ left → (y : Nonterminal) → Among done y → ⊥
      none_done [] left e y i = i
      none_done (x ∷ done) left e y i = (let wrong : [] ≡ x ∷ (done ++ left) = e in cc)

  few_plain : (labels : List (Label Nonterminal Origin)) → HaveNumbers g [] labels → length labels ≤ length (plain_labels g xs)
  few_plain labels h = few_among labels (plain_labels g xs) h.once (λ l i. plain_label l (h.each l i))

  -- so there are numbers enough where there are few productions
  pub plain_enough : (name_of : Nonterminal → Text) → IsNamingByUse (leveled_key_text g) prefix g name_of →
      length (plain_labels g xs) ≤ 2 ^ 32 → HasNumbersEnough g prefix
  plain_enough name_of naming few = record {
    name_of = name_of;
    naming = naming;
    order = [];
    is_order = nothing_first name_of;
    few = λ labels h. let most = few_plain labels h in omega (arith, most, few);
  }

  -- and they are not too many under any names
  pub plain_not_too_many : length (plain_labels g xs) ≤ 2 ^ 32 → HandsOutTooMany g prefix → ⊥
  plain_not_too_many few h =
      let empty : h.order ≡ [] = empty_order h.name_of h.order h.is_order in
      let most = few_plain h.labels (subst (λ (o : List Nonterminal). HaveNumbers g o h.labels) empty h.have_numbers) in
      let many = h.too_many in
      omega (arith, most, few, many)
